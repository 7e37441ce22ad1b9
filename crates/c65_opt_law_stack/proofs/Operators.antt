-- Operators on AX and a word, done in line.
use Rattle.std.proofs.Common.{◌≡◌, ℕ, ◌+◌, ◌-◌, ◌*◌, ◌<◌, ◌≤◌, true, false, List, [], ◌∷◌, length, Option, Some, None, refl, sym, subst, ap, ◌∙◌, arith}
use Rattle.std.proofs.lemmas.List.{append-nil}
use Rattle.c65_mach.specs.State.{Regs}
use Rattle.c65_code.specs.declared.line.Line.{Line}
use Rattle.c65_code.specs.declared.parts.Part.{Part}
use Rattle.c65_code.specs.declared.parts.Part.TheVariants as parts
use Rattle.c65_code.specs.declared.parts.RegSet.{RegSet}
use Rattle.c65_code.specs.declared.routine.TosOp.{TosOp}
use Rattle.c65_code.specs.declared.routine.Width.TheVariants.{Ax}
use Rattle.c65_code.specs.declared.routine.Routine.TheVariants as routines
use Rattle.c65_code.specs.Effects.{routine_sets}
use Rattle.c65_code.specs.Forms.{form_of}
use Rattle.c65_code.specs.LineState.{word_at, State, sp_of, ax_of, Same, IsBytes}
use Rattle.c65_code.specs.Moves.{MeetsRow}
use Rattle.c65_code.specs.Parts.{has_part}
use Rattle.c65_code.specs.Placement.{Setting, stack_start}
use Rattle.c65_code.specs.Rows.{Row, Meets, low_byte, high_byte, giving, costing, popping, row_by, row_of}
use Rattle.c65_code.specs.Weights.{row_cost}
use Rattle.c65_pass.specs.StackRules.{call_of}
use Rattle.c65_opt_law_near.specs.Near.{Near}
use Rattle.c65_opt_law_follow.specs.Windows.{WayOut, Behind, weight_of, ends, goes, Safe, Answers, Starts, Justified}
use Rattle.c65_opt_law_stack.proofs.Acts.{with_regs, all_acts, Acts, AllAct, acts_safe, IsThrough, acts_through}
use Rattle.c65_opt_law_stack.proofs.Pushed.{memory_with, pushed_ax, pushed_sp, pushed_bytes, memory_bytes, pushax_leads, word_pushed, left_below, near_left}
use Rattle.c65_opt_law_stack.proofs.Stack.{with_sp_other, outside_sp}
use Rattle.c65_opt_law_stack.proofs.Windows.{first_steady, rest_safe}
use Rattle.c65_opt_law_stack.proofs.Words.{IsWord}

-- registers that are bytes
pub record AreBytes (r : Regs) : Type 0 where
  pub a : r.a < 256
  pub x : r.x < 256
  pub y : r.y < 256

-- ---- the operator

-- the row of an operator with such a result
abbrev pub operator_row : TosOp → (ℕ → ℕ → ℕ) → State → Row
operator_row op value t = giving Ax (value (word_at t.mem (sp_of t)) (ax_of t)) (costing 256 (popping 2 t (row_by (routines.Tos op Ax) t)))

-- behind the push, with a word in AX
abbrev pub loaded_ax : Regs → State → State
loaded_ax r t = record (pushed_ax t) { regs = r }

operator_leads : (op : TosOp) (value : ℕ → ℕ → ℕ) (t : State) (r new : Regs) (l h : ℕ) → t.ended ≡ None → stack_start + 64 ≤ sp_of t → r.a ≡ l → r.x ≡ h → IsWord new.a new.x (value (t.regs.a + 256 * t.regs.x) (l + 256 * h))
    → Meets (operator_row op value (loaded_ax r t)) (loaded_ax r t) (left_below new t)
operator_leads op value t r new l h running soft low high word = record {
  sp = omega (arith, pushed_sp t, soft);
  a = word.low_is ∙ ap low_byte result;
  x = word.high_is ∙ ap high_byte result;
  sreg = tt;
  pointers = tt;
  bank = tt;
  kept = kept;
  high = λ i h. with_sp_other (sp_of t - 2) t.zp i (omega (arith, h));
  mem = λ b h. refl;
  pushed = refl;
  frames = refl;
  input = refl;
  output = sym (append-nil t.output);
  ended = running;
}
  where
    result : value (t.regs.a + 256 * t.regs.x) (l + 256 * h) ≡ value (word_at (memory_with t) (sp_of (pushed_ax t))) (r.a + 256 * r.x)
    result = ap (λ (n : ℕ). value n (l + 256 * h)) (sym (word_pushed t)) ∙ (ap (λ (n : ℕ). value (word_at (memory_with t) (sp_of (pushed_ax t))) (n + 256 * h)) (sym low) ∙ ap (λ (n : ℕ). value (word_at (memory_with t) (sp_of (pushed_ax t))) (r.a + 256 * n)) (sym high))

    kept : (p : Part) → has_part (routine_sets (routines.Tos op Ax)) p ≡ false → Same p (loaded_ax r t) (left_below new t)
    kept (parts.Zp i) h = with_sp_other (sp_of t - 2) t.zp i (outside_sp (routine_sets (routines.Tos op Ax)) i refl refl h)
    kept _ h = absurd (let e : true ≡ false = h in cc)

-- ---- in line

module _ (s : Setting) where
  -- two lines that load a word
  pub record Loads (one other : Line) (l h : ℕ) : Type 0 where
    pub first : Regs → Regs
    pub second : Regs → Regs
    pub one_acts : Acts s one first
    pub other_acts : Acts s other second
    pub low : (r : Regs) → (second (first r)).a ≡ l
    pub high : (r : Regs) → (second (first r)).x ≡ h
    pub first_bytes : (r : Regs) → AreBytes r → AreBytes (first r)
    pub second_bytes : (r : Regs) → AreBytes r → AreBytes (second r)

  -- lines that compute a word in AX from AX and a word
  pub record Computes (lines : List Line) (value : ℕ → ℕ → ℕ) (l h : ℕ) : Type 0 where
    pub acts : List (Regs → Regs)
    pub all : AllAct s lines acts
    pub few : length lines ≤ 32
    pub word : (r : Regs) → AreBytes r → IsWord (all_acts acts r).a (all_acts acts r).x (value (r.a + 256 * r.x) (l + 256 * h))

module _ (s : Setting) (to : WayOut → ℕ) (after : WayOut → RegSet) where
  abbrev Old : TosOp → Line → Line → List Line
  Old op one other = call_of routines.PushAx ∷ one ∷ other ∷ call_of (routines.Tos op Ax) ∷ []

  bytes_with : (t : State) (r : Regs) → IsBytes t → AreBytes r → IsBytes (record t { regs = r })
  bytes_with t r b n = record { a = n.a; x = n.x; y = n.y; zp = b.zp; mem = b.mem; pushed = b.pushed; frames = b.frames }

  pub in_line : (op : TosOp) (value : ℕ → ℕ → ℕ) (one other : Line) (lines : List Line) (l h : ℕ) → ((t : State) → row_of (routines.Tos op Ax) t ≡ Some (operator_row op value t)) → Loads s one other l h → Computes s lines value l h
      → Justified s to after (λ t. Unit {0}) (Old op one other) lines
  in_line op value one other lines l h row loads computes = record { safe = safe; answers = λ w t h e u v way. answer w t h e u v (acts_through s lines computes.acts t e u v computes.all h.bytes way) }
    where
      safe : (w : ℕ) (t : State) → Starts s (λ t. Unit {0}) (Old op one other) w t → Safe s lines w t
      safe w t h =
          let st = first_steady s (call_of routines.PushAx) (one ∷ other ∷ call_of (routines.Tos op Ax) ∷ []) w t h.safe in
          let rest = rest_safe s (call_of routines.PushAx) (one ∷ other ∷ call_of (routines.Tos op Ax) ∷ []) w t tt h.safe in
          acts_safe s lines computes.acts w t computes.all st.calm (omega (arith, rest.enough, computes.few))

      answer : (w : ℕ) (t : State) → Starts s (λ t. Unit {0}) (Old op one other) w t → (e : WayOut) (u : State) (v : ℕ) → IsThrough s lines computes.acts t e u v → Answers s.place to after (Old op one other) t e u v
      answer w t k e u v through =
          let st = first_steady s (call_of routines.PushAx) (one ∷ other ∷ call_of (routines.Tos op Ax) ∷ []) w t k.safe in
          let soft : stack_start + 64 ≤ sp_of t = st.within.soft in
          let regs : AreBytes t.regs = record { a = k.bytes.a; x = k.bytes.x; y = k.bytes.y } in
          let new : Regs = all_acts computes.acts t.regs in
          let r1 : Regs = loads.first t.regs in
          let r2 : Regs = loads.second r1 in
          let b1 : AreBytes r1 = loads.first_bytes t.regs regs in
          let b2 : AreBytes r2 = loads.second_bytes r1 b1 in
          let pushed : IsBytes (pushed_ax t) = pushed_bytes t k.bytes in
          let end : IsBytes (with_regs t new) = subst IsBytes through.state through.bytes in
          let left : IsBytes (left_below new t) = record { a = end.a; x = end.x; y = end.y; zp = end.zp; mem = memory_bytes t k.bytes; pushed = end.pushed; frames = end.frames } in
          let met : Meets (operator_row op value (loaded_ax r2 t)) (loaded_ax r2 t) (left_below new t) = operator_leads op value t r2 new l h k.running soft (loads.low t.regs) (loads.high t.regs) (computes.word t.regs regs) in
          record {
            old_exit = Behind;
            state = left_below new t;
            weighs = 32 + (weight_of (form_of one) (pushed_ax t) + (weight_of (form_of other) (loaded_ax r1 t) + (row_cost (row_of (routines.Tos op Ax) (loaded_ax r2 t)) + 0)));
            way =
                goes tt (pushax_leads t k.running) pushed (goes loads.one_acts.passed (loads.one_acts.does (pushed_ax t)) (bytes_with (pushed_ax t) r1 pushed b1)
                (goes loads.other_acts.passed (loads.other_acts.does (loaded_ax r1 t)) (bytes_with (pushed_ax t) r2 pushed b2)
                (goes tt (subst (λ (o : Option Row). MeetsRow o (loaded_ax r2 t) (left_below new t)) (sym (row (loaded_ax r2 t))) met) left ends)));
            less = omega (arith, through.weight, computes.few);
            same = ap to (sym through.behind);
            near = subst (λ (x : State). Near (after Behind) (left_below new t) x) (sym through.state) (near_left (after Behind) new t soft);
          }
