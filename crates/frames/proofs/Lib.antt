-- What the proofs of the functions cite (Laws, Reader), and that the contract of reading leaves no choice.
pub mod Laws
pub mod Reader
pub mod Unique
