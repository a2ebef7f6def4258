pub mod Little
pub mod Library
