-- Sequences on real words: what `four_load` and `pair_points` ask can be met, and what they then say.
use Rattle.std.specs.Prelude.{ℕ, List, [], ◌∷◌, ◌++◌, ◌≡◌, refl, length, set, replicate}
use Rattle.std.proofs.Common.{arith, true≢false, inl, ap, ◌∙◌}
use Rattle.meaning.specs.Numbers.{number, bytes_of, cut}
use Rattle.meaning.specs.Table.{table, look}
use Rattle.meaning.specs.Call.{Call, Record, records_of}
use Rattle.meaning.specs.Field.{put}
use Rattle.meaning.specs.Checks.{Answer, answer, first, of_records, of_masks, checks}
use Rattle.meaning.specs.Patch.{call, answer_of, patched, section_of}
use Rattle.meaning.specs.Executor.{lu12i_w, lu32i_d, pcalau12i, lu52i_d, addi_d, ori, six, decoded, first_zero, written, ran, ran_from, run_of}
use Rattle.laws.specs.Order.{bytes_of_record}
use Rattle.laws.specs.ReadBack.{WordUntouched}
use Rattle.laws.specs.Extended.{MultipleAway}
use Rattle.laws.specs.Examples.{the_record, pair, at_12340004, two, pair-patched, after-upper, none_after}
use Rattle.laws.specs.Words.{Holds}
use Rattle.laws.specs.Sequence.{Patched, four_load, pair_points}

-- A record of symbol 0 in its list, with those before it and after it.
the : (c : Call) (records : List ℕ) (before later : List Record) (offset type addend : ℕ) → records_of c records ≡ before ++ the_record offset type addend ∷ later →
    WordUntouched c.setting later offset → Patched c records 0 addend type offset
unfolding the_record
the c records before later offset type addend e last =
    record {
      before = before;
      later = later;
      r = the_record offset type addend;
      in_list = e;
      of_type = refl;
      at_place = refl;
      of_symbol = refl;
      with_addend = refl;
      last = last;
    }

-- ---- the four

-- the target: each of its four parts has its top bit set, but the highest
abbrev pub asked : ℕ
asked = 0x123cba9887654fed

-- lu12i.w $a0, 0; ori $a0, $a0, 0; lu32i.d $a0, 0; lu52i.d $a0, $a0, 0: at address 12340004h, to be patched by 67 to 70
pub load : List ℕ
load = bytes_of 4 0x14000004 ++ (bytes_of 4 0x03800084 ++ (bytes_of 4 0x16000004 ++ bytes_of 4 0x03000084))

pub load_call : Call
load_call = call load [] 0x12340004 0

pub load_records : List ℕ
load_records =
    bytes_of_record 0 67 asked ++
    (bytes_of_record 4 68 asked ++ (bytes_of_record 8 69 asked ++ bytes_of_record 12 70 asked))

-- lu12i.w $a0, 87654h; ori $a0, $a0, fedh; lu32i.d $a0, cba98h; lu52i.d $a0, $a0, 123h
pub load_patched : (answer_of load_call load_records ≡ answer 0 4) ×
    (section_of load_call load_records load ≡ bytes_of 4 0x150eca84 ++ (bytes_of 4 0x03bfb484 ++ (bytes_of 4 0x17975304 ++ bytes_of 4 0x03048c84)))
unfolding load load_call load_records bytes_of_record number bytes_of cut table look put first of_records of_masks checks patched
load_patched = (refl, refl)

pub load_words : Holds 4 (lu12i_w ∷ ori ∷ lu32i_d ∷ lu52i_d ∷ []) (section_of load_call load_records load)
unfolding six decoded number bytes_of
load_words = rw load_patched.1 record { only = refl; words = ((refl, refl), ((refl, (refl, refl)), ((refl, refl), ((refl, (refl, refl)), tt)))) }

-- The records after each of them write no byte of its word.
pub at_0 : Patched load_call load_records 0 asked 67 0
unfolding load_call load_records bytes_of_record number bytes_of cut the_record
at_0 =
    the load_call load_records [] (the_record 4 68 asked ∷ the_record 8 69 asked ∷ the_record 12 70 asked ∷ []) 0 67
    asked refl (λ i a b. (inl (omega arith), (inl (omega arith), (inl (omega arith), tt))))

pub at_4 : Patched load_call load_records 0 asked 68 4
unfolding load_call load_records bytes_of_record number bytes_of cut the_record
at_4 =
    the load_call load_records (the_record 0 67 asked ∷ []) (the_record 8 69 asked ∷ the_record 12 70 asked ∷ []) 4 68
    asked refl (λ i a b. (inl (omega arith), (inl (omega arith), tt)))

pub at_8 : Patched load_call load_records 0 asked 69 8
unfolding load_call load_records bytes_of_record number bytes_of cut the_record
at_8 =
    the load_call load_records (the_record 0 67 asked ∷ the_record 4 68 asked ∷ []) (the_record 12 70 asked ∷ []) 8 69
    asked refl (λ i a b. (inl (omega arith), tt))

pub at_12 : Patched load_call load_records 0 asked 70 12
unfolding load_call load_records bytes_of_record number bytes_of cut the_record
at_12 =
    the load_call load_records (the_record 0 67 asked ∷ the_record 4 68 asked ∷ the_record 8 69 asked ∷ []) [] 12 70
    asked refl (λ i a b. tt)

-- So $a0, register 4, is loaded with the target, whatever the registers held.
pub load_example : (registers : List ℕ) → length registers ≡ 32 →
    run_of (section_of load_call load_records load) 0x12340004 registers ≡ ran 0 4 (written (first_zero registers) 4 asked)
unfolding load_call number bytes_of
load_example registers all =
    four_load load [] load_records 0x12340004 0 0 asked (ap (λ (a : Answer). a.number) load_patched.0) at_0 at_4 at_8 at_12 4 registers
    (λ e. omega arith) all load_words

-- ---- the pair, within the reach

-- The words of `pair-patched`: pcalau12i $a0, 6; addi.d $a0, $a0, -2048
pub pair-words : Holds 4 (pcalau12i ∷ addi_d ∷ []) (section_of at_12340004 two pair)
unfolding six decoded number bytes_of
pair-words = rw pair-patched.1 record { only = refl; words = ((refl, refl), ((refl, (refl, refl)), tt)) }

pub near_upper : Patched at_12340004 two 0 0x12345800 71 0
unfolding at_12340004 two after-upper bytes_of_record number bytes_of cut the_record
near_upper = the at_12340004 two [] after-upper 0 71 0x12345800 refl none_after

pub near_low : Patched at_12340004 two 0 0x12345800 72 4
unfolding at_12340004 two bytes_of_record number bytes_of cut the_record
near_low = the at_12340004 two (the_record 0 71 0x12345800 ∷ []) [] 4 72 0x12345800 refl (λ i a b. tt)

-- The distance is 6000h, and so $a0 holds 12345800h.
pub near_example : (registers : List ℕ) → length registers ≡ 32 →
    run_of (section_of at_12340004 two pair) 0x12340004 registers ≡ ran 0 2 (written (first_zero registers) 4 0x12345800)
unfolding at_12340004 near_upper the the_record number bytes_of
near_example registers all =
    let points = pair_points pair [] two 0x12340004 0 0 0x12345800 (ap (λ (a : Answer). a.number) pair-patched.0) near_upper near_low 4 registers (λ e. omega arith) all pair-words in
    points.run ∙ ap (λ (x : ℕ). ran 0 2 (written (first_zero registers) 4 x)) (points.exactly.1 (record { not_above = refl; not_below = refl }))

-- ---- the pair, past the reach

-- the same words, with the target 212345800h
pub far : List ℕ
far = bytes_of_record 0 71 0x212345800 ++ bytes_of_record 4 72 0x212345800

pub far_patched : (answer_of at_12340004 far ≡ answer 0 2) × (section_of at_12340004 far pair ≡ bytes_of 4 0x1a0000c4 ++ bytes_of 4 0x02e00084)
unfolding pair at_12340004 far bytes_of_record number bytes_of cut table look put first of_records of_masks checks patched
far_patched = (refl, refl)

pub far_words : Holds 4 (pcalau12i ∷ addi_d ∷ []) (section_of at_12340004 far pair)
unfolding six decoded number bytes_of
far_words = rw far_patched.1 record { only = refl; words = ((refl, refl), ((refl, (refl, refl)), tt)) }

pub far_upper : Patched at_12340004 far 0 0x212345800 71 0
unfolding at_12340004 far bytes_of_record number bytes_of cut the_record
far_upper = the at_12340004 far [] (the_record 4 72 0x212345800 ∷ []) 0 71 0x212345800 refl (λ i a b. (inl (omega arith), tt))

pub far_low : Patched at_12340004 far 0 0x212345800 72 4
unfolding at_12340004 far bytes_of_record number bytes_of cut the_record
far_low = the at_12340004 far (the_record 0 71 0x212345800 ∷ []) [] 4 72 0x212345800 refl (λ i a b. tt)

-- The distance, 200006000h, is above 2 ^ 31 - 1: so $a0 holds an address that is a multiple of 2 ^ 32 away, and not 0 of them.
pub far_example : (registers : List ℕ) → length registers ≡ 32 →
    (address : ℕ) × ((run_of (section_of at_12340004 far pair) 0x12340004 registers ≡ ran 0 2 (written (first_zero registers) 4 address)) × MultipleAway address 0x212345800)
unfolding at_12340004 far_upper the the_record number bytes_of
far_example registers all =
    let points = pair_points pair [] far 0x12340004 0 0 0x212345800 (ap (λ (a : Answer). a.number) far_patched.0) far_upper far_low 4 registers (λ e. omega arith) all far_words in
    (points.address, (points.run, points.otherwise (λ fits. true≢false fits.not_above)))

-- Run on registers that hold 0, it is 12345800h: two times 2 ^ 32 away.
pub far_run : run_of (section_of at_12340004 far pair) 0x12340004 (replicate 32 0) ≡ ran 0 2 (set (replicate 32 0) 4 0x12345800)
unfolding six decoded ran_from number bytes_of cut
far_run = ap (λ (s : List ℕ). run_of s 0x12340004 (replicate 32 0)) far_patched.1
