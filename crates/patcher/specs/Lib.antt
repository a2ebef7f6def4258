pub mod Read
pub mod Output
