-- A text that is compared with the empty one.
use Rattle.std.proofs.Common.{◌≡◌, ℕ, zero, suc, ◌+◌, ◌-◌, ◌*◌, ◌<◌, ◌==◌, inl, inr, Bool, true, false, if◌then◌else◌, List, [], ◌∷◌, ◌++◌, All, min, max, Option, Some, None, refl, sym, subst, ap, ◌∙◌, arith}
use Rattle.std.specs.Prelude.{nat_lt}
use Rattle.std.proofs.lemmas.Bool.{eqb-true, eq-eqb, ltb-true}
use Rattle.std.proofs.lemmas.List.Elements.{All-nil}
use Rattle.c65_base.specs.declared.library.Library.TheVariants.{Strcmp}
use Rattle.c65_mach.specs.State.{Regs}
use Rattle.c65_mach.specs.Step.{after, with_a, with_x, with_y}
use Rattle.c65_mach.specs.declared.rows.Op.TheVariants as ops
use Rattle.c65_code.specs.declared.line.Line.{Line}
use Rattle.c65_code.specs.declared.parts.Part.{Part}
use Rattle.c65_code.specs.declared.parts.Part.TheVariants as parts
use Rattle.c65_code.specs.declared.routine.Routine.TheVariants as routines
use Rattle.c65_code.specs.Effects.{routine_sets}
use Rattle.c65_code.specs.LineState.{Bytes, write, word_at, State, sp_of, Same, IsBytes}
use Rattle.c65_code.specs.Moves.{MeetsRow}
use Rattle.c65_code.specs.Parts.{has_part}
use Rattle.c65_code.specs.Placement.{Setting, stack_end, word_of}
use Rattle.c65_code.specs.Rows.{low_byte, high_byte, row_of}
use Rattle.c65_code.specs.Steady.{IsCalm, IsOpen, RowHasRoom}
use Rattle.c65_code.specs.Texts.{range_of, common_within, common_length, difference}
use Rattle.c65_pass.specs.KnownCalls.{at_most, compared, with_value, on_zero, through, text_loaded}
use Rattle.c65_pass.specs.StackRules.{call_of, word_loaded}
use Rattle.c65_opt_law_near.specs.Laws.{IsLow}
use Rattle.c65_opt_law_opened.specs.Texts.{KnownStands}
use Rattle.c65_opt_law_opened.proofs.AtSp.{with_regs}
use Rattle.c65_opt_law_opened.proofs.Known.{AreLoads, word_loads, IsCalled, served}
use Rattle.c65_opt_law_opened.proofs.Leads.{Leads, leads_on, AllPassable, number}
use Rattle.c65_opt_law_opened.proofs.Measured.{IsAtMost, number_at_most}
use Rattle.c65_opt_law_opened.proofs.Popped.{left_out, IsUsed, open_used, open_below, open_at, IsPopped, popped_calm, leads_call, stored_zero, loaded_through, write_other}
use Rattle.c65_opt_law_opened.proofs.Texts.{IsTextLoaded, texts_each, text_word, text_zero}

-- ---- two texts of which one is empty

none_within : (fuel a b : ℕ) (m : Bytes) → m b ≡ 0 → common_within fuel a b m ≡ 0
none_within zero a b m empty = refl
none_within (suc fuel) a b m empty = pick (m a == m b) refl
  where
    pick : (c : Bool) → (m a == m b) ≡ c → (if c then (if m a == 0 then 0 else suc (common_within fuel (a + 1) (b + 1) m)) else 0) ≡ 0
    pick true e = let same : m a ≡ 0 = eqb-true (m a) (m b) e ∙ empty in ap (λ (c : Bool). if c then 0 else suc (common_within fuel (a + 1) (b + 1) m)) (eq-eqb (m a) 0 same)
    pick false e = refl

none_common : (a b : ℕ) (m : Bytes) → m b ≡ 0 → common_length a b m ≡ 0
unfolding common_length
none_common a b m empty = none_within 65536 a b m empty

less_zero : (v : ℕ) → difference v 0 ≡ v
less_zero v = pick (nat_lt v 0) refl
  where
    pick : (b : Bool) → nat_lt v 0 ≡ b → (if b then 65536 + v - 0 else v - 0) ≡ v
    pick true e = absurd (let wrong : v < 0 = ltb-true v 0 e in omega (arith, wrong))
    pick false e = omega arith

-- ---- the lines

abbrev comparing : List Line
comparing = on_zero ops.Sta 8 ∷ on_zero ops.Stx 9 ∷ with_value ops.Ldy 0 ∷ through ops.Lda 8 ∷ with_value ops.Ldx 0 ∷ []

module _ (s : Setting) (low : IsLow s.place) (t : State) (regs : Regs) (calm : IsCalm s t) (running : t.ended ≡ None) (room : RowHasRoom s.place (row_of (routines.Library Strcmp) (with_regs t regs)) (with_regs t regs)) where
  -- the other text's address
  abbrev there : ℕ
  there = word_at t.mem (sp_of t)

  module _ (m : State) (met : MeetsRow (row_of routines.PopAx t) t m) (bytes : IsBytes m) where
    popped : IsPopped t m 2
    popped = record { sp = met.sp; mem = mem; pushed = met.pushed; frames = met.frames }
      where
        mem : (b : ℕ) → IsUsed t b → m.mem b ≡ t.mem b
        mem b (inl h) = met.mem b (inl (omega (arith, h, room.soft)))
        mem b (inr h) = met.mem b (inr (inl h))

    -- the address in AX
    address : m.regs.a + 256 * m.regs.x ≡ there
    address = let l = calm.bytes.mem (sp_of t) in let h = calm.bytes.mem (sp_of t + 1) in omega (arith, met.a, met.x, l, h)

    -- the states behind the stores, and behind the load
    abbrev low_stored : State
    low_stored = record m { zp = write m.zp 8 m.regs.a }

    abbrev both_stored : State
    both_stored = record m { zp = write (write m.zp 8 m.regs.a) 9 m.regs.x }

    abbrev ready : State
    ready = with_regs both_stored (with_y 0 m.regs)

    abbrev read : State
    read = with_regs both_stored (with_a (m.mem (after (m.regs.a + 256 * m.regs.x) 0)) (with_y 0 m.regs))

    abbrev done : State
    done = with_regs both_stored (with_x 0 (with_a (m.mem (after (m.regs.a + 256 * m.regs.x) 0)) (with_y 0 m.regs)))

    passable : IsOpen s.place (max (sp_of t) (sp_of t + 2)) there → AllPassable s comparing m
    passable free =
        let at : IsOpen s.place (sp_of m) there = open_at s.place t 2 (sp_of m) there low (sym met.sp) free in
        let below : there < stack_end = open_below s.place (sp_of m) there low at in
        (stored_zero s ops.Sta 8 m (omega arith) (omega arith), (stored_zero s ops.Stx 9 low_stored (omega arith) (omega arith), (number s ops.Ldy 0 both_stored, (loaded_through s ops.Lda 8 ready there at (omega (arith, address, below)), (number s ops.Ldx 0 read, tt)))))

    kept : (p : Part) → has_part (routine_sets (routines.Library Strcmp)) p ≡ false → Same p (with_regs t regs) done
    kept (parts.Zp i) h = met.kept (parts.Zp i) (left_out (routine_sets routines.PopAx) (routine_sets (routines.Library Strcmp)) (parts.Zp i) refl h) ∙ (written 8 m.zp i m.regs.a (outside 8 refl) ∙ written 9 (write m.zp 8 m.regs.a) i m.regs.x (outside 9 refl))
      where
        outside : (j : ℕ) → has_part (routine_sets (routines.Library Strcmp)) (parts.Zp j) ≡ true → i ≡ j → ⊥
        outside j has e = let wrong : true ≡ false = sym has ∙ subst (λ (k : ℕ). has_part (routine_sets (routines.Library Strcmp)) (parts.Zp k) ≡ false) e h in cc

        written : (j : ℕ) (zp : Bytes) (i v : ℕ) → (i ≡ j → ⊥) → zp i ≡ write zp j v i
        written j zp i v other = sym (write_other zp j v i other)
    kept _ h = absurd (let e : true ≡ false = h in cc)

    -- the byte there, which is the difference
    abbrev same : ℕ
    same = common_length there (regs.a + 256 * regs.x) t.mem

    abbrev apart : ℕ
    apart = difference (t.mem (there + same)) (t.mem (regs.a + 256 * regs.x + same))

    apart_is : t.mem (regs.a + 256 * regs.x) ≡ 0 → apart ≡ t.mem there
    apart_is empty =
        let none : same ≡ 0 = none_common there (regs.a + 256 * regs.x) t.mem empty in
        let first : t.mem (there + same) ≡ t.mem there = ap t.mem (omega (arith, none)) in
        let second : t.mem (regs.a + 256 * regs.x + same) ≡ 0 = let e : regs.a + 256 * regs.x + same ≡ regs.a + 256 * regs.x = omega (arith, none) in ap t.mem e ∙ empty in
        ap (λ (v : ℕ). difference v (t.mem (regs.a + 256 * regs.x + same))) first ∙ (ap (difference (t.mem there)) second ∙ less_zero (t.mem there))

    byte_read : IsOpen s.place (max (sp_of t) (sp_of t + 2)) there → m.mem (after (m.regs.a + 256 * m.regs.x) 0) ≡ t.mem there
    byte_read free =
        let below : there < stack_end = open_below s.place (max (sp_of t) (sp_of t + 2)) there low free in
        let at : after (m.regs.a + 256 * m.regs.x) 0 ≡ there = omega (arith, address, below) in
        ap m.mem at ∙ popped.mem there (open_used s.place t 2 there low free)

    pub meets : IsOpen s.place (max (sp_of t) (sp_of t + 2)) there → t.mem (regs.a + 256 * regs.x) ≡ 0 → MeetsRow (row_of (routines.Library Strcmp) (with_regs t regs)) (with_regs t regs) done
    meets free empty =
        let byte : t.mem there < 256 = calm.bytes.mem there in
        let e : apart ≡ t.mem there = apart_is empty in
        let low_is : t.mem there ≡ low_byte apart = omega (arith, e, byte) in
        let high_is : 0 ≡ high_byte apart = omega (arith, e, byte) in
        record {
          sp = met.sp;
          a = byte_read free ∙ low_is;
          x = high_is;
          sreg = tt;
          pointers = tt;
          bank = tt;
          kept = kept;
          high = λ i h. met.high i h ∙ (sym (write_other m.zp 8 m.regs.a i (λ e. omega (arith, e, h))) ∙ sym (write_other (write m.zp 8 m.regs.a) 9 m.regs.x i (λ e. omega (arith, e, h))));
          mem = met.mem;
          pushed = met.pushed;
          frames = met.frames;
          input = met.input;
          output = met.output;
          ended = met.ended;
        }

-- ---- the call

record IsCompared (o : Option ℕ) (lines : List Line) : Type 0 where
  count : ℕ
  known : o ≡ Some count
  same : call_of routines.PopAx ∷ comparing ≡ lines

compared_by : (o : Option ℕ) (lines : List Line) → compared o ≡ Some lines → IsCompared o lines
compared_by None lines e = absurd cc
compared_by (Some n) lines e = record { count = n; known = refl; same = cc }

-- the first bytes of the two texts are reached
first_free : (P : ℕ → Type 0) (n a b : ℕ) → n ≡ 0 → All P (range_of (n + 1) a ++ range_of (n + 1) b) → P a
first_free P n a b e all = (subst (λ (k : ℕ). All P (range_of (k + 1) a ++ range_of (k + 1) b)) e all) 0 a (omega arith)

module _ (s : Setting) (low : IsLow s.place) (t : State) (regs : Regs) (c : IsCalled s Strcmp t (with_regs t regs)) (empty : t.mem (regs.a + 256 * regs.x) ≡ 0) where
  strcmp_leads : Leads s (MeetsRow (row_of (routines.Library Strcmp) (with_regs t regs)) (with_regs t regs)) (call_of routines.PopAx ∷ comparing) 37 t
  strcmp_leads =
      let P : State → Type 0 = MeetsRow (row_of (routines.Library Strcmp) (with_regs t regs)) (with_regs t regs) in
      let none = none_common (word_at t.mem (sp_of t)) (regs.a + 256 * regs.x) t.mem empty in
      let free : IsOpen s.place (max (sp_of t) (sp_of t + 2)) (word_at t.mem (sp_of t)) = first_free (IsOpen s.place (max (sp_of t) (sp_of t + 2))) _ (word_at t.mem (sp_of t)) (regs.a + 256 * regs.x) none c.room.far in
      let last : sp_of t + 1 < stack_end = open_below s.place (min (sp_of t) (sp_of t + 2)) (sp_of t + 1) low (c.room.near 1 0 (omega arith)) in
      leads_call s low P routines.PopAx comparing 5 t tt c.calm (record { ready = refl; soft = c.room.soft; hard = c.room.hard; near = c.room.near; far = All-nil (IsOpen s.place (max (sp_of t) (sp_of t + 2))) }) (λ m met bytes.
      leads_on s P comparing [] 0 m (passable s low t regs c.calm c.running c.room m met bytes free)
      (popped_calm s low t m 2 c.calm (popped s low t regs c.calm c.running c.room m met bytes) (omega (arith, last)) bytes)
      (λ end. meets s low t regs c.calm c.running c.room m met bytes free empty))

pub strcmp_stands : KnownStands Strcmp
strcmp_stands s literals low texts one other lines e to after =
    let made : IsCompared (at_most 0 (text_loaded literals (word_loaded one other))) lines = compared_by (at_most 0 (text_loaded literals (word_loaded one other))) lines e in
    let bound : IsAtMost (text_loaded literals (word_loaded one other)) 0 made.count = number_at_most (text_loaded literals (word_loaded one other)) 0 made.count made.known in
    let word : IsTextLoaded s.place (word_loaded one other) made.count = text_word s.place literals (word_loaded one other) made.count low (texts_each s.place literals texts) bound.known in
    let l : ℕ = word_of s.place word.pair.1 in
    let h : ℕ = word_of s.place word.pair.0 in
    let loads : AreLoads s one other l h = word_loads s one other word.pair word.shown word.low word.high in
    let zero_first : s.place.constant (l + 256 * h) ≡ Some 0 = text_zero s.place made.count (l + 256 * h) word.text (omega (arith, bound.within)) in
    served s Strcmp tt one other l h loads to after lines (λ t c.
    let regs : Regs = loads.second (loads.first t.regs) in
    let at : regs.a + 256 * regs.x ≡ l + 256 * h = omega (arith, loads.low t.regs, loads.high t.regs) in
    let empty : t.mem (regs.a + 256 * regs.x) ≡ 0 = ap t.mem at ∙ c.calm.constant (l + 256 * h) 0 zero_first in
    (37, subst (λ (ls : List Line). Leads s (MeetsRow (row_of (routines.Library Strcmp) (with_regs t regs)) (with_regs t regs)) ls 37 t) made.same (strcmp_leads s low t regs c empty), omega arith))
