-- What the proofs of the functions cite (Writer), and three things of their own: document 01's example as a computed test, that an input's
-- first bytes, as many as the program's buffer has, decide its output, and that the contract of writing leaves no choice.
pub mod Example
pub mod Writer
pub mod Beyond
pub mod Unique
