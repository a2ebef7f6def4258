-- Each export's contract, as the checker reads it off the source, is the library's: the definition that `rofteluvi_patch_unique`,
-- `rofteluvi_read_back_unique` and `rofteluvi_run_unique` of `laws` speak of. The call's arguments are a, its result is r, and e is what the
-- parameters hold at exit.
use Rattle.std.specs.Prelude.{◌≡◌, refl}
use Rattle.rofteluvi.specs.Face as Face
use Rattle.rofteluvi_c.proofs.rofteluvi_patch.Reads as patch
use Rattle.rofteluvi_c.proofs.rofteluvi_read_back.Reads as read_back
use Rattle.rofteluvi_c.proofs.rofteluvi_run.Reads as run

pub exported_patch_contract : patch.Post ≡ (λ κs a r e. Face.Patches a.0.now a.1.0.now a.1.1.0.now a.1.1.1.0 a.1.1.1.1.0 r e.0.now)
exported_patch_contract = refl

pub exported_read_back_contract : read_back.Post ≡ (λ κs a r e. Face.ReadsBack a.0.now a.1.0 a.1.1.0 a.1.1.1.0 r)
exported_read_back_contract = refl

pub exported_run_contract : run.Post ≡ (λ κs a r e. Face.Runs a.0.now a.1.0 a.1.1.0.now r e.1.1.0.now)
exported_run_contract = refl
