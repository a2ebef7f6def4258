-- Any two results that `write`'s contract allows are equal, for every input.
use Prim.Native.Nat.{ℕ}
use mathlib.Core.List.{List, ◌++◌}
use mathlib.Core.Path.{◌≡◌, sym, ap, ◌∙◌}
use lib.ListN.{length, drop}

pub same_output : (w came is is' : List ℕ) (r r' : ℕ) → is ≡ w ++ drop r came → r ≡ length w → is' ≡ w ++ drop r' came → r' ≡ length w → (r ≡ r') × (is ≡ is')
same_output w came is is' r r' e n e' n' = (n ∙ sym n', e ∙ ap (λ (k : ℕ). w ++ drop k came) (n ∙ sym n') ∙ sym e')
