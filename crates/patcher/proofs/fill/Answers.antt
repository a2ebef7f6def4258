use Rattle.std.proofs.Common.{sym, subst, rules}
use Rattle.std.proofs.KnownBytes.{Consumes-trans}
use Rattle.std.specs.Io.KnownBytes.{Consumes}
use Rattle.patcher.proofs.Laws.{read_more}
use Rattle.patcher.proofs.fill.Goals as goal

pub loop-n-preserved : goal.loop-n-preserved
loop-n-preserved g c =
    let l = c.loop-n.invariant in
    record {
      within = search rules;
      taken = subst (Consumes _ _) (sym (read_more c.loop-n.n c.in_ok-more.more _ c.loop-n.buffer c.read.new.buf l.within c.in_ok-more.ensures.bound.0)) (Consumes-trans _ _ _ _ _ l.taken c.in_ok-more.ensures.bytes.0);
    }
