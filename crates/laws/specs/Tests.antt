-- The computed tests of the definitions, which stand beside them so that a slip there is refused there.
pub use Rattle.meaning.proofs.Cases.{Case, same, all_hold}
pub use Rattle.meaning.proofs.Edges.{edges, edges_hold}
pub use Rattle.meaning.proofs.Types.{types, case_of, types_hold, types_complete}
pub use Rattle.meaning.proofs.Runs.{Run, runs, runs_hold}
pub use Rattle.meaning.proofs.Sound.{all_sound, table-sound}
