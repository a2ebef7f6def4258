-- The frame program: two results that the contracts of reading and writing frames allow are equal, bytes beyond the program's buffer
-- change nothing, and the paper's example computes to the printed output. They stand beside the frames' contracts.
pub use Rattle.frames.proofs.Unique.{same_answer, same-section, same-values, same_records}
pub use Rattle.output.proofs.Unique.{same_output}
pub use Rattle.output.proofs.Beyond.{beyond_no_matter}
pub use Rattle.output.proofs.Example.{frames_hold}
