pub mod Fields
pub mod Immediates
