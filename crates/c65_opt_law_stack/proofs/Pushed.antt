-- AX on the software stack, and taken back.
use Rattle.std.proofs.Common.{◌≡◌, ℕ, ◌+◌, ◌-◌, ◌*◌, ◌<◌, ◌≤◌, ◌==◌, ◌⊎◌, inl, inr, Bool, true, false, if◌then◌else◌, [], ◌∷◌, None, refl, sym, subst, ap, ◌∙◌, arith}
use Rattle.std.proofs.lemmas.Bool.{eq-eqb}
use Rattle.std.proofs.lemmas.List.{append-nil}
use Rattle.c65_mach.specs.State.{Regs}
use Rattle.c65_code.specs.declared.parts.Part.{Part}
use Rattle.c65_code.specs.declared.parts.Part.TheVariants as parts
use Rattle.c65_code.specs.declared.parts.RegSet.{RegSet}
use Rattle.c65_code.specs.declared.routine.Routine.TheVariants as routines
use Rattle.c65_code.specs.Effects.{routine_sets}
use Rattle.c65_code.specs.LineState.{Bytes, write, word_at, State, sp_of, ax_of, Same, IsBytes}
use Rattle.c65_code.specs.Moves.{MeetsRow}
use Rattle.c65_code.specs.Parts.{has_part}
use Rattle.c65_code.specs.Placement.{Setting, stack_start}
use Rattle.c65_code.specs.Rows.{written, low_byte, high_byte, row_of}
use Rattle.c65_code.specs.Texts.{listed}
use Rattle.c65_pass.specs.StackRules.{call_of}
use Rattle.c65_opt_law_near.specs.Near.{Near}
use Rattle.c65_opt_law_follow.specs.Windows.{WayOut, Behind, Way, ends, goes, safe_end, Answers, Starts, Justified}
use Rattle.c65_opt_law_stack.proofs.Stack.{write_other, with_sp, with_sp_other, with_sp_bytes, outside_sp}
use Rattle.c65_opt_law_stack.proofs.Windows.{first_steady}

write_same : (m : Bytes) (i v : ℕ) → write m i v i ≡ v
write_same m i v = ap (λ (b : Bool). if b then v else m i) (eq-eqb i i refl)

-- ---- the push

abbrev pub memory_with : State → Bytes
memory_with t = written t.mem (listed (t.regs.a ∷ t.regs.x ∷ []) (sp_of t - 2))

abbrev pub pushed_ax : State → State
pushed_ax t = record t { zp = with_sp (sp_of t - 2) t.zp; mem = memory_with t }

-- the sp there
pub pushed_sp : (t : State) → sp_of (pushed_ax t) ≡ sp_of t - 2
pushed_sp t = omega arith

pub memory_bytes : (t : State) → IsBytes t → (b : ℕ) → memory_with t b < 256
memory_bytes t h b = pick (b == sp_of t - 2 + 1) (b == sp_of t - 2)
  where
    pick : (c d : Bool) → (if c then t.regs.x else (if d then t.regs.a else t.mem b)) < 256
    pick true d = h.x
    pick false true = h.a
    pick false false = h.mem b

pub pushed_bytes : (t : State) → IsBytes t → IsBytes (pushed_ax t)
pushed_bytes t h = record { a = h.a; x = h.x; y = h.y; zp = λ i. with_sp_bytes (sp_of t - 2) t.zp i (omega (arith, h.zp 0, h.zp 1)) h.zp; mem = memory_bytes t h; pushed = h.pushed; frames = h.frames }

pub pushax_leads : (t : State) → t.ended ≡ None → MeetsRow (row_of routines.PushAx t) t (pushed_ax t)
pushax_leads t running = record {
  sp = pushed_sp t;
  a = refl;
  x = refl;
  sreg = refl;
  pointers = tt;
  bank = tt;
  kept = kept;
  high = λ i h. sym (with_sp_other (sp_of t - 2) t.zp i (omega (arith, h)));
  mem = λ b h. refl;
  pushed = refl;
  frames = refl;
  input = refl;
  output = sym (append-nil t.output);
  ended = running;
}
  where
    kept : (p : Part) → has_part (routine_sets routines.PushAx) p ≡ false → Same p t (pushed_ax t)
    kept parts.A h = refl
    kept parts.X h = refl
    kept parts.Y h = refl
    kept (parts.Zp i) h = sym (with_sp_other (sp_of t - 2) t.zp i (outside_sp (routine_sets routines.PushAx) i refl refl h))
    kept parts.N h = refl
    kept parts.V h = refl
    kept parts.Z h = refl
    kept parts.C h = refl

-- ---- what lies there

pub word_pushed : (t : State) → word_at (memory_with t) (sp_of (pushed_ax t)) ≡ ax_of t
word_pushed t =
    let at : ℕ = sp_of t - 2 in
    let low : memory_with t at ≡ t.regs.a = write_other (write t.mem at t.regs.a) (at + 1) t.regs.x at (λ e. omega (arith, e)) ∙ write_same t.mem at t.regs.a in
    let high : memory_with t (at + 1) ≡ t.regs.x = write_same (write t.mem at t.regs.a) (at + 1) t.regs.x in
    ap (word_at (memory_with t)) (pushed_sp t) ∙ (ap (λ (n : ℕ). n + 256 * memory_with t (at + 1)) low ∙ ap (λ (n : ℕ). t.regs.a + 256 * n) high)

-- outside the free bytes of the software stack memory is as before
pub memory_same : (t : State) (b : ℕ) → stack_start + 64 ≤ sp_of t → (b < stack_start) ⊎ (sp_of t ≤ b) → memory_with t b ≡ t.mem b
memory_same t b soft h =
    write_other (write t.mem (sp_of t - 2) t.regs.a) (sp_of t - 2 + 1) t.regs.x b (λ e. apart h e) ∙ write_other t.mem (sp_of t - 2) t.regs.a b (λ e. below h e)
  where
    apart : (b < stack_start) ⊎ (sp_of t ≤ b) → b ≡ sp_of t - 2 + 1 → ⊥
    apart (inl l) e = omega (arith, l, e, soft)
    apart (inr l) e = omega (arith, l, e, soft)

    below : (b < stack_start) ⊎ (sp_of t ≤ b) → b ≡ sp_of t - 2 → ⊥
    below (inl l) e = omega (arith, l, e, soft)
    below (inr l) e = omega (arith, l, e, soft)

-- a state with the bytes that were pushed still there, below its sp
abbrev pub left_below : Regs → State → State
left_below r t = record t { regs = r; mem = memory_with t }

same_regs : (p : Part) (r : Regs) (t : State) → Same p (left_below r t) (record t { regs = r })
same_regs parts.A r t = refl
same_regs parts.X r t = refl
same_regs parts.Y r t = refl
same_regs (parts.Zp i) r t = refl
same_regs parts.N r t = refl
same_regs parts.V r t = refl
same_regs parts.Z r t = refl
same_regs parts.C r t = refl

pub near_left : (live : RegSet) (r : Regs) (t : State) → stack_start + 64 ≤ sp_of t → Near live (left_below r t) (record t { regs = r })
near_left live r t soft = record { part = λ p h. same_regs p r t; sp_low = refl; sp_high = refl; high = λ i h. refl; mem = λ b h. memory_same t b soft h; pushed = refl; input = refl; output = refl; ended = refl }

-- ---- and taken back

popax_leads : (t : State) → t.ended ≡ None → IsBytes t → stack_start + 64 ≤ sp_of t → MeetsRow (row_of routines.PopAx (pushed_ax t)) (pushed_ax t) (left_below t.regs t)
popax_leads t running bytes soft = record {
  sp = omega (arith, pushed_sp t, soft);
  a = subst (λ (n : ℕ). t.regs.a ≡ low_byte n) (sym (word_pushed t)) (omega (arith, bytes.a));
  x = subst (λ (n : ℕ). t.regs.x ≡ high_byte n) (sym (word_pushed t)) (omega (arith, bytes.a, bytes.x));
  sreg = refl;
  pointers = tt;
  bank = tt;
  kept = kept;
  high = λ i h. with_sp_other (sp_of t - 2) t.zp i (omega (arith, h));
  mem = λ b h. refl;
  pushed = refl;
  frames = refl;
  input = refl;
  output = sym (append-nil t.output);
  ended = running;
}
  where
    kept : (p : Part) → has_part (routine_sets routines.PopAx) p ≡ false → Same p (pushed_ax t) (left_below t.regs t)
    kept (parts.Zp i) h = with_sp_other (sp_of t - 2) t.zp i (outside_sp (routine_sets routines.PopAx) i refl refl h)
    kept _ h = absurd (let e : true ≡ false = h in cc)

module _ (s : Setting) (to : WayOut → ℕ) (after : WayOut → RegSet) where
  pub taken_back : Justified s to after (λ t. Unit {0}) (call_of routines.PushAx ∷ call_of routines.PopAx ∷ []) []
  taken_back = record { safe = λ w t h. safe_end; answers = λ w t h e u v way. answer w t h e u v way }
    where
      answer : (w : ℕ) (t : State) → Starts s (λ t. Unit {0}) (call_of routines.PushAx ∷ call_of routines.PopAx ∷ []) w t → (e : WayOut) (u : State) (v : ℕ) → Way s.place [] t e u v
          → Answers s.place to after (call_of routines.PushAx ∷ call_of routines.PopAx ∷ []) t e u v
      answer w t h e u v ends =
          let st = first_steady s (call_of routines.PushAx) (call_of routines.PopAx ∷ []) w t h.safe in
          let left : IsBytes (left_below t.regs t) = record { a = h.bytes.a; x = h.bytes.x; y = h.bytes.y; zp = h.bytes.zp; mem = memory_bytes t h.bytes; pushed = h.bytes.pushed; frames = h.bytes.frames } in
          record {
            old_exit = Behind;
            state = left_below t.regs t;
            weighs = 32 + (32 + 0);
            way = goes tt (pushax_leads t h.running) (pushed_bytes t h.bytes) (goes tt (popax_leads t h.running h.bytes st.within.soft) left ends);
            less = omega arith;
            same = refl;
            near = near_left (after Behind) t.regs t st.within.soft;
          }
