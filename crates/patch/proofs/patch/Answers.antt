use Rattle.std.proofs.Common.{refl}
use Rattle.patch.proofs.Whole.{lengths_refuse, few_values, few_records, masks_refuse, records_refuse, accepted}
use Rattle.patch.proofs.patch.Goals as goal

pub returns-in_err-check_lengths : goal.returns-in_err-check_lengths
returns-in_err-check_lengths c = lengths_refuse _ _ _ _ _ _ _ c.in_err-check_lengths.ensures c.from_residual.ensures.1

pub check_masks-requires : goal.check_masks-requires
check_masks-requires c = few_values _ _ _ c.in_ok-check_lengths.ensures

pub returns-in_err-check_masks : goal.returns-in_err-check_masks
returns-in_err-check_masks c = masks_refuse _ _ _ _ _ c.in_ok-check_lengths.ensures _ _ c.in_err-check_masks.ensures c.from_residual-in_err-check_masks.ensures.1

pub judge-requires : goal.judge-requires
judge-requires c = (few_records _ _ _ c.in_ok-check_lengths.ensures _ c.as_chunks.ensures.front_len, refl)

pub returns-in_err-count : goal.returns-in_err-count
returns-in_err-count c = records_refuse _ _ _ _ _ c.in_ok-check_lengths.ensures c.in_ok-check_masks.ensures _ c.as_chunks.ensures.front _ _ c.in_err-count.ensures c.from_residual-in_err-count.ensures.1

pub returns : goal.returns
returns c = accepted _ _ _ _ _ c.in_ok-check_lengths.ensures c.in_ok-check_masks.ensures _ c.as_chunks.ensures.front _ _ c.in_ok-count.ensures c.write_all.ensures
