-- memset of a few bytes.
use Rattle.std.proofs.Common.{◌≡◌, ℕ, suc, ◌+◌, ◌-◌, ◌*◌, ◌<◌, ◌≤◌, List, [], ◌∷◌, ◌++◌, All, min, max, Option, Some, None, refl, subst, ap, ◌∙◌, arith}
use Rattle.std.proofs.lemmas.List.Elements.{All-nil}
use Rattle.c65_base.specs.declared.library.Library.TheVariants.{Memset}
use Rattle.c65_mach.specs.State.{Regs}
use Rattle.c65_mach.specs.Step.{with_a, with_y}
use Rattle.c65_mach.specs.declared.rows.Op.TheVariants as ops
use Rattle.c65_code.specs.declared.line.Line.{Line}
use Rattle.c65_code.specs.declared.line.Operand.TheVariants.{Byte}
use Rattle.c65_code.specs.declared.routine.Routine.TheVariants as routines
use Rattle.c65_code.specs.LineState.{word_at, State, sp_of, IsBytes}
use Rattle.c65_code.specs.Moves.{MeetsRow}
use Rattle.c65_code.specs.Placement.{Setting, stack_end}
use Rattle.c65_code.specs.Rows.{written, row_of}
use Rattle.c65_code.specs.Steady.{IsCalm, IsOpen, RowHasRoom}
use Rattle.c65_code.specs.Texts.{range_of, filled}
use Rattle.c65_code.specs.Weights.{row_cost}
use Rattle.c65_pass.specs.KnownCalls as rules
use Rattle.c65_pass.specs.KnownCalls.{count_loaded, with_value, on_zero, once_and, byte_filled, given_back}
use Rattle.c65_pass.specs.StackRules.{call_of, word_loaded}
use Rattle.c65_opt_law_near.specs.Laws.{IsLow}
use Rattle.c65_opt_law_opened.specs.Texts.{KnownStands}
use Rattle.c65_opt_law_opened.proofs.AtSp.{with_regs}
use Rattle.c65_opt_law_opened.proofs.Chains.{weight, weight_is, leads_often}
use Rattle.c65_opt_law_opened.proofs.Counted.{IsCounted, counted, range_has, pointers_popped, pointers_ready, regs_bytes, above}
use Rattle.c65_opt_law_opened.proofs.Known.{AreLoads, word_loads, IsCalled, served}
use Rattle.c65_opt_law_opened.proofs.Leads.{Leads, leads_on, number}
use Rattle.c65_opt_law_opened.proofs.Moved.{IsReady, target_ready, given_leads}
use Rattle.c65_opt_law_opened.proofs.Moving.{IsTarget, Filling, fill_once, fill_more}
use Rattle.c65_opt_law_opened.proofs.Popped.{open_below, popped_calm, leads_call, loaded_zero}
use Rattle.c65_opt_law_opened.proofs.Writes.{after_writes, always, filled_is}

module _ (s : Setting) (low : IsLow s.place) (t : State) (regs : Regs) (c : IsCalled s Memset t (with_regs t regs)) (k : ℕ) (is : regs.a + 256 * regs.x ≡ suc k) (few : suc k ≤ 8) where
  -- the byte that is written
  abbrev value : ℕ
  value = t.mem (sp_of t)

  abbrev to : ℕ
  to = word_at t.mem (sp_of t + 2)

  abbrev P : State → Type 0
  P = MeetsRow (row_of (routines.Library Memset) (with_regs t regs)) (with_regs t regs)

  target_free : (j : ℕ) → j < suc k → IsOpen s.place (max (sp_of t) (sp_of t + 4)) (to + j)
  target_free j less = range_has (IsOpen s.place (max (sp_of t) (sp_of t + 4))) (suc k) to (subst (λ (n : ℕ). All (IsOpen s.place (max (sp_of t) (sp_of t + 4))) (range_of n to)) is c.room.far) j less

  writes_are : written t.mem (filled (regs.a + 256 * regs.x) to value) ≡ after_writes to (always value) t.mem (suc k)
  writes_are = filled_is (regs.a + 256 * regs.x) to value t.mem ∙ ap (after_writes to (always value) t.mem) is

  module _ (m : State) (met : MeetsRow (row_of routines.PopPtrs t) t m) (bytes : IsBytes m) where
    abbrev u : State
    u = with_regs m (with_a (m.zp 8) (with_y 0 m.regs))

    byte_is : m.zp 8 ≡ value
    byte_is =
        let one = bytes.zp 8 in
        let two = bytes.zp 9 in
        let first = c.calm.bytes.mem (sp_of t) in
        let second = c.calm.bytes.mem (sp_of t + 1) in
        omega (arith, met.pointers.0, one, two, first, second)

    ready : IsReady t u 4 to
    ready = pointers_ready s low t c.calm c.room.soft m met bytes (with_a (m.zp 8) (with_y 0 m.regs)) (regs_bytes m (with_a (m.zp 8) (with_y 0 m.regs)) bytes (bytes.zp 8) bytes.x (omega arith))

    target : IsTarget s u to (suc k) (always value)
    target = target_ready s low Memset refl t regs 4 to (suc k) (always value) (filled (regs.a + 256 * regs.x) to value) (range_of (regs.a + 256 * regs.x) to) refl writes_are (λ x y j less same. refl) (λ x j h. c.calm.bytes.mem (sp_of t)) c u ready c.room.soft few target_free

    fill_leads : IsCalm s u → Leads s P (once_and byte_filled k ++ given_back) (weight s P byte_filled (λ j v. Filling s u to (suc k) value target j (suc j) v) k 2) u
    fill_leads calm = leads_often s P byte_filled (λ j v. Filling s u to (suc k) value target j (suc j) v) k given_back 2 u calm
        (fill_once s u to (suc k) value target 0 u (omega arith) (record { going = record { y = refl; x = refl; zp = refl; mem = refl; pushed = refl; frames = refl; input = refl; output = refl; ended = refl }; a = byte_is }))
        (λ j v less g. fill_more s u to (suc k) value target j v (omega (arith, less)) g)
        (λ v g d. given_leads s low Memset refl t regs 4 to (suc k) (always value) (filled (regs.a + 256 * regs.x) to value) (range_of (regs.a + 256 * regs.x) to) refl writes_are (λ x y j less same. refl) (λ x j h. c.calm.bytes.mem (sp_of t)) c u ready c.room.soft k v refl g.going d)

  -- the sp does not rise above the software stack
  top : sp_of t + 4 ≤ stack_end
  top = let last : sp_of t + 1 + 1 + 1 < stack_end = open_below s.place (min (sp_of t) (sp_of t + 4)) (sp_of t + 1 + 1 + 1) low (c.room.near 3 0 (omega arith)) in omega (arith, last)

  pops : RowHasRoom s.place (row_of routines.PopPtrs t) t
  pops = record { ready = refl; soft = c.room.soft; hard = c.room.hard; near = c.room.near; far = All-nil (IsOpen s.place (max (sp_of t) (sp_of t + 4))) }

  abbrev filling_weight : ℕ
  filling_weight = weight s P byte_filled (λ j v. Unit {0}) k 2

  memset_leads : (n : ℕ) × Leads s P (call_of routines.PopPtrs ∷ with_value ops.Ldy 0 ∷ on_zero ops.Lda 8 ∷ (once_and byte_filled k ++ given_back)) n t × (n ≤ row_cost (row_of (routines.Library Memset) (with_regs t regs)))
  memset_leads = (
    32 + (2 + filling_weight),
    leads_call s low P routines.PopPtrs (with_value ops.Ldy 0 ∷ on_zero ops.Lda 8 ∷ (once_and byte_filled k ++ given_back)) (2 + filling_weight) t tt c.calm pops (λ m met bytes.
        leads_on s P (with_value ops.Ldy 0 ∷ on_zero ops.Lda 8 ∷ []) (once_and byte_filled k ++ given_back) filling_weight m (number s ops.Ldy 0 m, (loaded_zero s ops.Lda 8 (with_regs m (with_y 0 m.regs)) (omega arith), tt))
        (popped_calm s low t m 4 c.calm (pointers_popped s low t c.calm c.room.soft m met bytes) top bytes) (λ calm. fill_leads m met bytes calm)),
    enough,
  )
    where
      enough : 32 + (2 + filling_weight) ≤ row_cost (row_of (routines.Library Memset) (with_regs t regs))
      enough = let sum = weight_is s P byte_filled (λ j v. Unit {0}) k 2 in omega (arith, sum, few)

record AreFilled (o : Option ℕ) (lines : List Line) : Type 0 where
  count : ℕ
  known : o ≡ Some count
  same : call_of routines.PopPtrs ∷ with_value ops.Ldy 0 ∷ on_zero ops.Lda 8 ∷ (rules.times byte_filled count ++ given_back) ≡ lines

filled_by : (o : Option ℕ) (lines : List Line) → rules.filled o ≡ Some lines → AreFilled o lines
filled_by None lines e = absurd cc
filled_by (Some n) lines e = record { count = n; known = refl; same = cc }

pub memset_stands : KnownStands Memset
memset_stands s literals low texts one other lines e to after =
    let made : AreFilled (count_loaded (word_loaded one other)) lines = filled_by (count_loaded (word_loaded one other)) lines e in
    let n : ℕ = made.count in
    let word : IsCounted (word_loaded one other) n = counted (word_loaded one other) n made.known in
    let loads : AreLoads s one other n 0 = word_loads s one other (Byte 0, Byte n) word.shown (omega (arith, word.few)) (omega arith) in
    let last : n ≡ suc (n - 1) = above n word.some in
    let lines_are : call_of routines.PopPtrs ∷ with_value ops.Ldy 0 ∷ on_zero ops.Lda 8 ∷ (rules.times byte_filled (suc (n - 1)) ++ given_back) ≡ lines =
    subst (λ (x : ℕ). call_of routines.PopPtrs ∷ with_value ops.Ldy 0 ∷ on_zero ops.Lda 8 ∷ (rules.times byte_filled x ++ given_back) ≡ lines) last made.same in
    served s Memset tt one other n 0 loads to after lines (λ t c.
    let regs : Regs = loads.second (loads.first t.regs) in
    let count : regs.a + 256 * regs.x ≡ suc (n - 1) = omega (arith, loads.low t.regs, loads.high t.regs, last) in
    let done = memset_leads s low t regs c (n - 1) count (omega (arith, last, word.few)) in
    (done.0, subst (λ (ls : List Line). Leads s (MeetsRow (row_of (routines.Library Memset) (with_regs t regs)) (with_regs t regs)) ls done.0 t) lines_are done.1, done.2))
