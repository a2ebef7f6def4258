pub mod Step
pub mod Refusal
