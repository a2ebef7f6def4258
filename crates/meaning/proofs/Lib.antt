-- Computed tests that hold the definitions to documents 01 and 02: the edges marked P, a case for every type of the table, runs of the
-- executor, and that every field's description is sound.
pub mod Cases
pub mod Edges
pub mod Types
pub mod Sound
pub mod Runs
