-- The loops over the records: what holds before each, and what a turn makes of it.
use Rattle.std.proofs.Common.{ℕ, zero, suc, ◌+◌, ◌/◌, ◌<◌, ◌≤◌, arith, List, [], ◌∷◌, ◌≡◌, refl, sym, subst, ap, ◌∙◌, Bool, true, false, cond, not, ℤ, eqb, eq-eqb, ne_eqb, add-one, length, map, drop, drop-cons, get_or, Result, Ok, Err}
use Rattle.std.proofs.lemmas.List.{drop_all, length-map}
use Rattle.std.proofs.lemmas.Result.{err_from_is_err_and}
use Rattle.meaning.specs.Table.{Semantics}
use Rattle.meaning.specs.Call as M
use Rattle.meaning.specs.Call.{Call, Record, card64, row_bytes, rows_of, row_of, no_row, symbol_in, offset_in, does, record_of}
use Rattle.meaning.specs.Stack.{after}
use Rattle.meaning.specs.Checks.{Answer, Check, answer, answer_at, check, first, of_record, of_records}
use Rattle.meaning.specs.Patch.{patched}
use Rattle.lemmas.specs.First.{first-append, first_passed}
use Rattle.lemmas.specs.Passed.{refusal_of, first_record}
use Rattle.refusals.specs.Numbers.{number_of, numbered}
use Rattle.refusals.specs.declared.Refusal.{Refusal}
use Rattle.refusals.specs.declared.Refused.{Refused}
use Rattle.stack.specs.Tops.{tops, Holds, Judges}
use Rattle.stack.specs.Laws.{tops_none, length-tops}
use Rattle.stack.specs.declared.Stack.{Stack}
use Rattle.values.proofs.Laws.{row_none}
use Rattle.records.specs.declared.Record as R
use Rattle.records.specs.declared.Setting as S
use Rattle.records.specs.Given.{given, record_in, setting_in}
use Rattle.writers.specs.Written.{Judged, Writes}
use Rattle.patch.specs.declared.Fault.{Fault}
use Rattle.patch.specs.Answers.{answer_in, records_of_pieces, records_answer}
use Rattle.patch.proofs.Lists.{AllPass, Refuses, Returns, without_record, passed, stopped}

module _ (setting : S.Setting) (values : List ℕ) (pieces : List (List ℕ)) where
  abbrev call : Call
  call = given setting values

  -- the records from number i on
  abbrev rest : ℕ → List Record
  rest i = records_of_pieces call (drop i pieces)

  abbrev accepted : Answer
  accepted = answer 0 (length (rest 0))

  -- Before record i: the records from here on, with the stack that the earlier ones left, answer as all do.
  pub record Going (entries : List ℤ) (h i : ℕ) : Type 0 where
    pub answers : first (of_records call.setting i (tops entries h) (rest i)) accepted ≡ records_answer call pieces

  -- And they leave in the section, as it is now, what all leave.
  pub record Writing (s₀ s : List ℕ) (entries : List ℤ) (h i : ℕ) : Type 0 where
    pub going : Going entries h i
    pub leaves : patched call.setting (tops entries h) s (rest i) ≡ patched call.setting [] s₀ (rest 0)

  pub going_start : (entries : List ℤ) (h : ℕ) → h ≡ 0 → Going entries h 0
  going_start entries h z = record { answers = rw (z, tops_none entries) }

  pub writing_start : (s : List ℕ) (entries : List ℤ) (h : ℕ) → h ≡ 0 → Writing s s entries h 0
  writing_start s entries h z = record { going = going_start entries h z; leaves = rw (z, tops_none entries) }

  -- ---- the turn of record i, with the code's record

  module _ (i : ℕ) (rela : R.Record) (more : i < length pieces) (bytes : rela.bytes.now ≡ get_or pieces i [])
      (row : rela.row.now ≡ row_of (rows_of values) (symbol_in card64 (get_or pieces i []))) (its : rela.setting.now ≡ setting) where
    it_is_next : rest i ≡ record_in rela ∷ rest (suc i)
    it_is_next = rw (bytes, row) (ap (map (record_of card64 values)) (drop-cons pieces i [] more))

    -- past the rows nothing is present in its row
    pub ready : setting.rows ≡ length values / row_bytes → rela.setting.now.rows < symbol_in card64 rela.bytes.now → rela.row.now ≡ no_row
    ready e past =
        row ∙ row_none values _ (subst (λ (x : List ℕ). length values / row_bytes < symbol_in card64 x) bytes (rw (its, e) at past))

    module _ (entries : List ℤ) (h : ℕ) where
      abbrev refusal : M.Setting → ℕ
      refusal c = refusal_of c (record_in rela) (does c (record_in rela)) (tops entries h)

      abbrev next : M.Setting → List ℤ
      next c = after c (record_in rela) (does c (record_in rela)) (tops entries h)

      module _ (going : Going entries h i) where
        -- the answer of all, by this record's refusal
        here : cond (eqb (refusal call.setting) 0) (first (of_records call.setting (suc i) (next call.setting) (rest (suc i))) accepted) (answer_at (refusal call.setting) i (record_in rela).offset)
            ≡ records_answer call pieces
        unfolding of_records
        here =
            let later : Answer = first (of_records call.setting (suc i) (next call.setting) (rest (suc i))) accepted in
            let d : Semantics = does call.setting (record_in rela) in
            sym (first_record call.setting i (record_in rela) d (tops entries h) later)
            ∙ sym (first-append (of_record call.setting i (record_in rela) d (tops entries h)) (of_records call.setting (suc i) (next call.setting) (rest (suc i))) accepted)
            ∙ (rw it_is_next at going.answers)

        stops_here : (n : ℕ) → n ≡ refusal call.setting → (n ≡ 0 → ⊥) → answer_at n i (record_in rela).offset ≡ records_answer call pieces
        stops_here n e some = rw e (rw (ne_eqb (refusal call.setting) 0 (λ q. some (e ∙ q))) at here)

        goes_on : (entries' : List ℤ) (h' : ℕ) → refusal call.setting ≡ 0 → Holds (next call.setting) entries' h' → Going entries' h' (i + 1)
        goes_on entries' h' e t = record { answers = rw (add-one i, t.is) (rw (eq-eqb (refusal call.setting) 0 e) at here) }

        -- judging: a refusal is the answer of all, at this record's place and with its offset; and a record that passes leaves it to the next
        pub stops : (st s : List ℤ) (j : Result Stack Refusal) (r : Refusal) (place o : ℕ) → j ≡ Err r → place ≡ i → o ≡ offset_in card64 (get_or pieces i []) →
            Judges (refusal (setting_in rela)) st s j → answer_at (number_of r) place o ≡ records_answer call pieces
        stops st s j r place o e p f judged =
            let k = rw its at (rw e at judged) in
            rw (p, f, ← bytes) (stops_here _ k.says (numbered r))

        pub goes : (s : List ℤ) (j : Result Stack Refusal) (stack : Stack) → j ≡ Ok stack →
            Judges (refusal (setting_in rela)) (next (setting_in rela)) s j → Going s stack.height (i + 1)
        goes s j stack e judged =
            let k = rw its at (rw e at judged) in
            goes_on _ _ (sym k.says) k.leaves

        -- where no record is refused, this one is not
        passes : (records_answer call pieces).number ≡ 0 → refusal call.setting ≡ 0
        passes judged = go (refusal call.setting) refl
          where
            go : (n : ℕ) → n ≡ refusal call.setting → refusal call.setting ≡ 0
            go zero e = sym e
            go (suc n) e =
                let z : suc n ≡ 0 = ap (λ (a : Answer). a.number) (stops_here (suc n) e (λ q. omega arith)) ∙ judged in
                absurd (omega arith)

      -- writing: the record was judged, and its effect is one step of what all leave
      module _ (s₀ s : List ℕ) (writing : Writing s₀ s entries h i) (judged : (records_answer call pieces).number ≡ 0) where
        pub was_judged : setting.size ≡ length s₀ → length s ≡ length s₀ → Judged rela (does (setting_in rela) (record_in rela)) entries h s
        was_judged e f = rw its (record { size = e ∙ sym f; passes = passes writing.going judged })

        pub wrote : (s' : List ℕ) (entries' : List ℤ) (h' : ℕ) →
            Writes (setting_in rela) (record_in rela) (does (setting_in rela) (record_in rela)) entries h s entries' h' s' → Writing s₀ s' entries' h' (i + 1)
        unfolding patched
        wrote s' entries' h' written =
            let w = rw its at written in
            record {
              going = goes_on writing.going _ _ (passes writing.going judged) w.stack;
              leaves = rw (add-one i, w.stack.is, w.bytes) (rw it_is_next at writing.leaves);
            }

  -- ---- after the last record

  module _ (i : ℕ) (last : length pieces ≤ i) (bound : i ≤ length pieces) (entries : List ℤ) (h : ℕ) where
    ends : Going entries h i → first (check 16 (length pieces) (not (eqb h 0)) ∷ []) accepted ≡ records_answer call pieces
    unfolding of_records
    ends going =
        let e : i ≡ length pieces = omega arith in
        rw (e, drop_all (length pieces) pieces (omega arith), length-tops entries h) at going.answers

    -- the check of the entries left, as the code makes it
    module _ (fails : Bool) where
      abbrev left : List Check
      left = check 16 (length pieces) fails ∷ []

      failed : (f : Refused) → Refuses left f → fails ≡ true
      unfolding first
      failed f = by fails
        where
          by : (b : Bool) → Refuses (check 16 (length pieces) b ∷ []) f → b ≡ true
          by true e = refl
          by false e = absurd (numbered f.refusal (ap (λ (a : Answer). a.number) e))

      held : AllPass left → fails ≡ false
      unfolding first
      held = by fails
        where
          by : (b : Bool) → AllPass (check 16 (length pieces) b ∷ []) → b ≡ false
          by true e = let q : ◌≡◌ {A = ℕ} 0 16 = ap (λ (a : Answer). a.number) e in absurd (omega (arith, q))
          by false e = refl

      pub ends_left : (fails ≡ true → 1 ≤ h) → (f : Refused) (r : Result ℕ Fault) → Refuses left f → Returns r (without_record f) → Going entries h i → answer_in r ≡ records_answer call pieces
      ends_left some_left f r refuses out going =
          let p = err_from_is_err_and r out in
          let e : fails ≡ true = failed f refuses in
          let some : 1 ≤ h = some_left e in
          let is : fails ≡ not (eqb h 0) = e ∙ sym (ap not (ne_eqb h 0 (λ z. omega (arith, z)))) in
          rw (p.1, p.2) (sym (stopped left f refuses accepted) ∙ (rw (← is) at ends going))

      pub ends_accepted : (fails ≡ false → h ≡ 0) → AllPass left → Going entries h i → answer 0 (length pieces) ≡ records_answer call pieces
      ends_accepted none_left passes going =
          let e : fails ≡ false = held passes in
          let is : fails ≡ not (eqb h 0) = e ∙ sym (ap not (eq-eqb h 0 (none_left e))) in
          ap (answer 0) (sym (length-map pieces (record_of card64 values)))
          ∙ sym (first_passed left accepted (passed left (omega arith) passes))
          ∙ (rw (← is) at ends going)

    pub all_written : (s₀ s : List ℕ) → Writing s₀ s entries h i → s ≡ patched call.setting [] s₀ (rest 0)
    unfolding patched
    all_written s₀ s writing = rw (drop_all i pieces last) at writing.leaves
