-- What documents 01 and 02 say, as definitions: what a reader of the promises must believe. In reading order.
pub mod Numbers
pub mod Table
pub mod Call
pub mod Stack
pub mod Field
pub mod Checks
pub mod Patch
pub mod ReadBack
pub mod Order
pub mod Executor
pub mod Frames
