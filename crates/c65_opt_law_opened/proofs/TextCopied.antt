-- strcpy of a text that is known.
use Rattle.std.proofs.Common.{◌≡◌, ℕ, suc, ◌+◌, ◌*◌, ◌<◌, ◌≤◌, ◌==◌, inl, inr, Bool, true, false, if◌then◌else◌, List, [], ◌∷◌, ◌++◌, All, min, max, Option, Some, None, refl, sym, subst, ◌∙◌, arith}
use Rattle.std.proofs.lemmas.List.{append-nil}
use Rattle.std.proofs.lemmas.List.Elements.{All-nil}
use Rattle.c65_base.specs.declared.library.Library.TheVariants.{Strcpy}
use Rattle.c65_mach.specs.State.{Regs}
use Rattle.c65_mach.specs.Step.{with_y}
use Rattle.c65_mach.specs.declared.rows.Op.TheVariants as ops
use Rattle.c65_code.specs.declared.line.Line.{Line}
use Rattle.c65_code.specs.declared.parts.Part.TheVariants as parts
use Rattle.c65_code.specs.declared.routine.Routine.TheVariants as routines
use Rattle.c65_code.specs.Effects.{large, sp_bytes, routine_sets}
use Rattle.c65_code.specs.LineState.{Bytes, write, word_at, State, sp_of, IsBytes}
use Rattle.c65_code.specs.Moves.{MeetsRow}
use Rattle.c65_code.specs.Parts.{has_part, union_of}
use Rattle.c65_code.specs.Placement.{Setting, stack_end, word_of}
use Rattle.c65_code.specs.Rows.{row_of}
use Rattle.c65_code.specs.Steady.{IsCalm, IsOpen, RowHasRoom}
use Rattle.c65_code.specs.Texts.{range_of, copied, copy_length}
use Rattle.c65_code.specs.Weights.{row_cost}
use Rattle.c65_pass.specs.KnownCalls as rules
use Rattle.c65_pass.specs.KnownCalls.{at_most, text_loaded, with_value, on_zero, once_and, byte_copied, given_back}
use Rattle.c65_pass.specs.StackRules.{call_of, word_loaded}
use Rattle.c65_opt_law_near.specs.Laws.{IsLow}
use Rattle.c65_opt_law_opened.specs.Texts.{KnownStands}
use Rattle.c65_opt_law_opened.proofs.AtSp.{with_regs}
use Rattle.c65_opt_law_opened.proofs.Chains.{weight, weight_is, leads_often}
use Rattle.c65_opt_law_opened.proofs.Counted.{range_has, all_both}
use Rattle.c65_opt_law_opened.proofs.Ending.{copy_ends}
use Rattle.c65_opt_law_opened.proofs.Known.{AreLoads, word_loads, IsCalled, served}
use Rattle.c65_opt_law_opened.proofs.Leads.{Leads, leads_on, number}
use Rattle.c65_opt_law_opened.proofs.Measured.{IsAtMost, number_at_most}
use Rattle.c65_opt_law_opened.proofs.Moved.{IsReady, IsSaid, open_said, end_constant, target_ready, given_leads}
use Rattle.c65_opt_law_opened.proofs.Moving.{IsTarget, IsSource, Going, copy_once, copy_more}
use Rattle.c65_opt_law_opened.proofs.Popped.{left_out, IsUsed, open_at, open_below, IsPopped, popped_calm, leads_call, stored_zero, write_other}
use Rattle.c65_opt_law_opened.proofs.Texts.{IsKnownText, IsTextLoaded, texts_each, text_below, text_word}
use Rattle.c65_opt_law_opened.proofs.Writes.{from_there, copied_is}

module _ (s : Setting) (low : IsLow s.place) (t : State) (regs : Regs) (c : IsCalled s Strcpy t (with_regs t regs)) (n : ℕ) (text : IsKnownText s.place n (regs.a + 256 * regs.x)) (few : n ≤ 7) where
  abbrev from : ℕ
  from = regs.a + 256 * regs.x

  abbrev to : ℕ
  to = word_at t.mem (sp_of t)

  -- how many bytes the row copies
  abbrev count : ℕ
  count = copy_length to from t.mem + 1

  abbrev P : State → Type 0
  P = MeetsRow (row_of (routines.Library Strcpy) (with_regs t regs)) (with_regs t regs)

  ends : All (IsOpen s.place (max (sp_of t) (sp_of t + 2))) (range_of count from) × All (IsOpen s.place (max (sp_of t) (sp_of t + 2))) (range_of count to)
  ends = all_both (IsOpen s.place (max (sp_of t) (sp_of t + 2))) (range_of count from) (range_of count to) c.room.far

  source_free : (j : ℕ) → j < count → IsOpen s.place (max (sp_of t) (sp_of t + 2)) (from + j)
  source_free j less = range_has (IsOpen s.place (max (sp_of t) (sp_of t + 2))) count from ends.0 j less

  target_free : (j : ℕ) → j < count → IsOpen s.place (max (sp_of t) (sp_of t + 2)) (to + j)
  target_free j less = range_has (IsOpen s.place (max (sp_of t) (sp_of t + 2))) count to ends.1 j less

  alike : (x y : Bytes) (j : ℕ) → j < count → ((b : ℕ) → IsSaid t b → x b ≡ y b) → x (from + j) ≡ y (from + j)
  alike x y j less same = same (from + j) (open_said s t 2 (from + j) low c.room.soft (source_free j less))

  -- the address of the text in ptr1
  abbrev from_stored : State
  from_stored = record (with_regs t regs) { zp = write (write t.zp 8 regs.a) 9 regs.x }

  module _ (m : State) (met : MeetsRow (row_of routines.PopAx from_stored) from_stored m) (bytes : IsBytes m) where
    popped : IsPopped from_stored m 2
    popped = record { sp = met.sp; mem = mem; pushed = met.pushed; frames = met.frames }
      where
        mem : (b : ℕ) → IsUsed t b → m.mem b ≡ t.mem b
        mem b (inl h) = met.mem b (inl (omega (arith, h, c.room.soft)))
        mem b (inr h) = met.mem b (inr (inl h))

    -- and the other address in ptr2
    abbrev to_stored : State
    to_stored = record m { zp = write (write m.zp 10 m.regs.a) 11 m.regs.x }

    abbrev u : State
    u = with_regs to_stored (with_y 0 m.regs)

    address : m.regs.a + 256 * m.regs.x ≡ to
    address = let l = c.calm.bytes.mem (sp_of t) in let h = c.calm.bytes.mem (sp_of t + 1) in omega (arith, met.a, met.x, l, h)

    -- the other bytes of the zero page
    apart : (zp : Bytes) (i j v : ℕ) → (i ≡ j → ⊥) → zp i ≡ write zp j v i
    apart zp i j v other = sym (write_other zp j v i other)

    outside : (i j : ℕ) → has_part (union_of large sp_bytes) (parts.Zp i) ≡ false → has_part (union_of large sp_bytes) (parts.Zp j) ≡ true → i ≡ j → ⊥
    outside i j out has e = let wrong : true ≡ false = sym has ∙ subst (λ (k : ℕ). has_part (union_of large sp_bytes) (parts.Zp k) ≡ false) e out in cc

    all_apart : (i : ℕ) → (from_stored.zp i ≡ m.zp i) → (i ≡ 8 → ⊥) → (i ≡ 9 → ⊥) → (i ≡ 10 → ⊥) → (i ≡ 11 → ⊥) → t.zp i ≡ u.zp i
    all_apart i same a b d e = apart t.zp i 8 regs.a a ∙ (apart (write t.zp 8 regs.a) i 9 regs.x b ∙ (same ∙ (apart m.zp i 10 m.regs.a d ∙ apart (write m.zp 10 m.regs.a) i 11 m.regs.x e)))

    u_bytes : IsBytes u
    u_bytes = record { a = bytes.a; x = bytes.x; y = omega arith; zp = λ i. pick i (i == 11) (i == 10); mem = bytes.mem; pushed = bytes.pushed; frames = bytes.frames }
      where
        pick : (i : ℕ) (b d : Bool) → (if b then m.regs.x else (if d then m.regs.a else m.zp i)) < 256
        pick i true d = bytes.x
        pick i false true = bytes.a
        pick i false false = bytes.zp i

    ready : IsReady t u 2 to
    ready = record {
      sp = met.sp;
      at = address;
      kept = λ i out. all_apart i (met.kept (parts.Zp i) (left_out (routine_sets routines.PopAx) (union_of large sp_bytes) (parts.Zp i) refl out)) (outside i 8 out refl) (outside i 9 out refl) (outside i 10 out refl) (outside i 11 out refl);
      high = λ i h. all_apart i (met.high i h) (λ e. omega (arith, e, h)) (λ e. omega (arith, e, h)) (λ e. omega (arith, e, h)) (λ e. omega (arith, e, h));
      mem = met.mem;
      pushed = met.pushed;
      frames = met.frames;
      input = met.input;
      output = met.output ∙ append-nil t.output;
      ended = met.ended;
      bytes = u_bytes;
    }

    -- the copy ends with the text
    count_is : count ≡ suc n
    count_is =
        let below = text_below s.place n from low text in
        let known : copy_length to from t.mem ≡ n = copy_ends s.place.constant text.bytes n to from t.mem (omega (arith, below)) text.ends.last text.ends.first (λ k v e. c.calm.constant (from + k) v (text.constant k v e)) text.constant
        (λ k v less e. end_constant s low Strcpy refl t regs 2 to count (from_there from) (copied count to from t.mem) (range_of count from ++ range_of count to) refl (copied_is count to from t.mem) alike (λ x j h. h (from + j)) c u ready c.room.soft k v less e) in
        omega (arith, known)

    target : IsTarget s u to count (from_there from)
    target = target_ready s low Strcpy refl t regs 2 to count (from_there from) (copied count to from t.mem) (range_of count from ++ range_of count to) refl (copied_is count to from t.mem) alike (λ x j h. h (from + j)) c u ready c.room.soft (omega (arith, count_is, few)) target_free

    source : IsSource s u from count
    source = record {
      at = let first : regs.a ≡ m.zp 8 = met.kept (parts.Zp 8) refl in let second : regs.x ≡ m.zp 9 = met.kept (parts.Zp 9) refl in omega (arith, first, second);
      free = λ j less. open_at s.place t 2 (sp_of u) (from + j) low (sym ready.sp) (source_free j less);
      low = λ j less. let below : from + j < stack_end = open_below s.place (max (sp_of t) (sp_of t + 2)) (from + j) low (source_free j less) in omega (arith, below);
    }

    copy_leads : IsCalm s u → Leads s P (once_and byte_copied n ++ given_back) (weight s P byte_copied (λ j v. Going u to (from_there from) j (suc j) v) n 2) u
    copy_leads calm = leads_often s P byte_copied (λ j v. Going u to (from_there from) j (suc j) v) n given_back 2 u calm
        (copy_once s u to from count target source 0 u (omega (arith, count_is)) (record { y = refl; x = refl; zp = refl; mem = refl; pushed = refl; frames = refl; input = refl; output = refl; ended = refl }))
        (λ j v less g. copy_more s u to from count target source j v (omega (arith, less, count_is)) g)
        (λ v g d. given_leads s low Strcpy refl t regs 2 to count (from_there from) (copied count to from t.mem) (range_of count from ++ range_of count to) refl (copied_is count to from t.mem) alike (λ x j h. h (from + j)) c u ready c.room.soft n v (sym count_is) g d)

  -- the sp does not rise above the software stack
  top : sp_of t + 2 ≤ stack_end
  top = let last : sp_of t + 1 < stack_end = open_below s.place (min (sp_of t) (sp_of t + 2)) (sp_of t + 1) low (c.room.near 1 0 (omega arith)) in omega (arith, last)

  pops : RowHasRoom s.place (row_of routines.PopAx from_stored) from_stored
  pops = record { ready = refl; soft = c.room.soft; hard = c.room.hard; near = c.room.near; far = All-nil (IsOpen s.place (max (sp_of t) (sp_of t + 2))) }

  abbrev copying_weight : ℕ
  copying_weight = weight s P byte_copied (λ j v. Unit {0}) n 2

  abbrev behind_pop : List Line
  behind_pop = on_zero ops.Sta 10 ∷ on_zero ops.Stx 11 ∷ with_value ops.Ldy 0 ∷ (once_and byte_copied n ++ given_back)

  -- from behind the two loads
  strcpy_leads : IsCalm s (with_regs t regs) → Leads s P (on_zero ops.Sta 8 ∷ on_zero ops.Stx 9 ∷ call_of routines.PopAx ∷ behind_pop) (2 + (32 + (3 + copying_weight))) (with_regs t regs)
  strcpy_leads calm =
      leads_on s P (on_zero ops.Sta 8 ∷ on_zero ops.Stx 9 ∷ []) (call_of routines.PopAx ∷ behind_pop) (32 + (3 + copying_weight)) (with_regs t regs)
      (stored_zero s ops.Sta 8 (with_regs t regs) (omega arith) (omega arith), (stored_zero s ops.Stx 9 (record (with_regs t regs) { zp = write t.zp 8 regs.a }) (omega arith) (omega arith), tt)) calm (λ stored.
      leads_call s low P routines.PopAx behind_pop (3 + copying_weight) from_stored tt stored pops (λ m met bytes.
      leads_on s P (on_zero ops.Sta 10 ∷ on_zero ops.Stx 11 ∷ with_value ops.Ldy 0 ∷ []) (once_and byte_copied n ++ given_back) copying_weight m
      (stored_zero s ops.Sta 10 m (omega arith) (omega arith), (stored_zero s ops.Stx 11 (record m { zp = write m.zp 10 m.regs.a }) (omega arith) (omega arith), (number s ops.Ldy 0 (to_stored m met bytes), tt)))
      (popped_calm s low from_stored m 2 stored (popped m met bytes) top bytes) (λ ready. copy_leads m met bytes ready)))

  pub strcpy_enough : 2 + (2 + (32 + (3 + copying_weight))) ≤ row_cost (row_of (routines.Library Strcpy) (with_regs t regs))
  strcpy_enough = let sum = weight_is s P byte_copied (λ j v. Unit {0}) n 2 in omega (arith, sum, few)

-- ---- the call

abbrev copied_lines : Line → Line → ℕ → List Line
copied_lines one other n = one ∷ other ∷ on_zero ops.Sta 8 ∷ on_zero ops.Stx 9 ∷ call_of routines.PopAx ∷ on_zero ops.Sta 10 ∷ on_zero ops.Stx 11 ∷ with_value ops.Ldy 0 ∷ (rules.times byte_copied n ++ given_back)

record IsTextCopied (one other : Line) (o : Option ℕ) (lines : List Line) : Type 0 where
  count : ℕ
  known : o ≡ Some count
  same : copied_lines one other (count + 1) ≡ lines

text_copied_by : (one other : Line) (o : Option ℕ) (lines : List Line) → rules.text_copied one other o ≡ Some lines → IsTextCopied one other o lines
text_copied_by one other None lines e = absurd cc
text_copied_by one other (Some n) lines e = record { count = n; known = refl; same = cc }

pub strcpy_stands : KnownStands Strcpy
strcpy_stands s literals low texts one other lines e to after =
    let made : IsTextCopied one other (at_most 7 (text_loaded literals (word_loaded one other))) lines = text_copied_by one other (at_most 7 (text_loaded literals (word_loaded one other))) lines e in
    let n : ℕ = made.count in
    let bound : IsAtMost (text_loaded literals (word_loaded one other)) 7 n = number_at_most (text_loaded literals (word_loaded one other)) 7 n made.known in
    let word : IsTextLoaded s.place (word_loaded one other) n = text_word s.place literals (word_loaded one other) n low (texts_each s.place literals texts) bound.known in
    let l : ℕ = word_of s.place word.pair.1 in
    let h : ℕ = word_of s.place word.pair.0 in
    let loads : AreLoads s one other l h = word_loads s one other word.pair word.shown word.low word.high in
    let next : n + 1 ≡ suc n = omega arith in
    let lines_are : copied_lines one other (suc n) ≡ lines = subst (λ (x : ℕ). copied_lines one other x ≡ lines) next made.same in
    served s Strcpy tt one other l h loads to after lines (λ t c.
    let regs : Regs = loads.second (loads.first t.regs) in
    let at : l + 256 * h ≡ regs.a + 256 * regs.x = omega (arith, loads.low t.regs, loads.high t.regs) in
    let text : IsKnownText s.place n (regs.a + 256 * regs.x) = subst (IsKnownText s.place n) at word.text in
    let P : State → Type 0 = MeetsRow (row_of (routines.Library Strcpy) (with_regs t regs)) (with_regs t regs) in
    let rest : List Line = on_zero ops.Sta 8 ∷ on_zero ops.Stx 9 ∷ call_of routines.PopAx ∷ on_zero ops.Sta 10 ∷ on_zero ops.Stx 11 ∷ with_value ops.Ldy 0 ∷ (once_and byte_copied n ++ given_back) in
    let w : ℕ = 2 + (32 + (3 + weight s P byte_copied (λ j v. Unit {0}) n 2)) in (
      2 + w,
      subst (λ (ls : List Line). Leads s P ls (2 + w) t) lines_are (leads_on s P (one ∷ other ∷ []) rest w t (loads.passable t) c.calm (λ d.
          subst (Leads s P rest w) (sym (loads.to t)) (strcpy_leads s low t regs c n text bound.within (subst (IsCalm s) (loads.to t) d)))),
      strcpy_enough s low t regs c n text bound.within,
    ))
