-- Masks that leave A, and two masks in one.
use Rattle.std.proofs.Common.{◌≡◌, ℕ, ◌==◌, true, [], ◌∷◌, Option, Some, None, refl, subst, ap, ◌∙◌}
use Rattle.std.specs.Prelude.{bit_and, bit_or, bit_xor}
use Rattle.std.specs.Int.Bits.{or_zero_r, xor_zero_r}
use Rattle.std.proofs.lemmas.Bool.{and_parts, eqb-true}
use Rattle.c65_mach.specs.declared.rows.Op.{Op}
use Rattle.c65_mach.specs.declared.rows.Op.TheVariants as ops
use Rattle.c65_mach.specs.declared.rows.Mode.TheVariants.{Immediate}
use Rattle.c65_mach.specs.Step.{negative, with_a}
use Rattle.c65_code.specs.declared.line.Operand.TheVariants.{Byte}
use Rattle.c65_code.specs.declared.line.Line.{Line}
use Rattle.c65_code.specs.declared.line.Line.TheVariants.{Do}
use Rattle.c65_code.specs.declared.parts.Part.TheVariants as parts
use Rattle.c65_code.specs.declared.parts.RegSet.{RegSet}
use Rattle.c65_code.specs.Forms.{form_of}
use Rattle.c65_code.specs.LineState.{State}
use Rattle.c65_code.specs.Moves.{Does}
use Rattle.c65_code.specs.Parts.{set_of}
use Rattle.c65_code.specs.Placement.{Setting}
use Rattle.c65_code.specs.Steady.{IsWithin}
use Rattle.c65_live.specs.Samples.{DeadIsNotLive}
use Rattle.c65_live.specs.Tables.{Table, live_after}
use Rattle.c65_pass.specs.LoadRules.{are_flags_dead}
use Rattle.c65_pass.specs.ArithRules.{is_byte, neutral_byte, is_idle_mask, joined_masks}
use Rattle.c65_optarith_law.specs.Straight.{GoesOn, Steps, Agree}
use Rattle.c65_optarith_law.proofs.Agreeing.{agree_same, agree_dead, in_signs_of_a}
use Rattle.c65_optarith_law.proofs.Bits.{and_group, or_group, xor_group, masked}

module _ (dead : DeadIsNotLive) (table : Table) (q : ℕ) (s : Setting) (t u : State) where
  -- A stays what it was
  same_a : (a : ℕ) → u ≡ record t { regs = with_a a t.regs } → a ≡ t.regs.a → are_flags_dead table q ≡ true → Agree (live_after table q) u t
  same_a a is e h = agree_dead dead table q (set_of (parts.N ∷ parts.Z ∷ [])) t u (with_a a t.regs) is h (in_signs_of_a t.regs a (negative a) (a == 0) e)

  idle_mask_op : (op : Op) (v w : ℕ) → neutral_byte op ≡ Some w → v ≡ w → are_flags_dead table q ≡ true → Steps s (Do op Immediate (Byte v)) t u → Agree (live_after table q) u t
  idle_mask_op ops.And v w e k h step =
      let all : v ≡ 255 = cc in same_a (bit_and t.regs.a v) step.does (ap (bit_and t.regs.a) all ∙ masked t.regs.a step.steady.calm.bytes.a) h
  idle_mask_op ops.Ora v w e k h step = let none : v ≡ 0 = cc in same_a (bit_or t.regs.a v) step.does (ap (bit_or t.regs.a) none ∙ or_zero_r t.regs.a) h
  idle_mask_op ops.Eor v w e k h step = let none : v ≡ 0 = cc in same_a (bit_xor t.regs.a v) step.does (ap (bit_xor t.regs.a) none ∙ xor_zero_r t.regs.a) h
  idle_mask_op _ v w e k h step = absurd cc

  mask_is : (op : Op) (v : ℕ) (w : Option ℕ) → neutral_byte op ≡ w → is_byte v w ≡ true → are_flags_dead table q ≡ true → Steps s (Do op Immediate (Byte v)) t u → Agree (live_after table q) u t
  mask_is op v None e k h step = absurd cc
  mask_is op v (Some w) e k h step = idle_mask_op op v w e (eqb-true v w k) h step

  pub idle_mask_agrees : (line : Line) → is_idle_mask table q line ≡ true → Steps s line t u → Agree (live_after table q) u t
  idle_mask_agrees (Do op Immediate (Byte v)) h step =
      let parts = and_parts (is_byte v (neutral_byte op)) _ h in mask_is op v (neutral_byte op) refl parts.0 parts.1 step
  idle_mask_agrees _ h step = absurd cc

-- ---- two in one

module _ (s : Setting) (live : RegSet) (t m u : State) where
  -- an operation with another byte leads from the first state to the last
  led : (op : Op) (x : ℕ) (l : Line) → Some (Do op Immediate (Byte x)) ≡ Some l → Steps s (Do op Immediate (Byte x)) t u → (v : State) × Steps s l t v × Agree live u v
  led op x l e step =
      let is : Do op Immediate (Byte x) ≡ l = cc in
      (u, subst (λ k. Steps s k t u) is step, agree_same live u u refl)

  -- an operation on A that is steady wherever the first one is
  as_one : (op next : Op) (v w x : ℕ) (l : Line) → Some (Do op Immediate (Byte x)) ≡ Some l → GoesOn (form_of (Do op Immediate (Byte x))) → IsWithin s (form_of (Do op Immediate (Byte x))) t
      → Steps s (Do op Immediate (Byte v)) t m → Steps s (Do next Immediate (Byte w)) m u → Does s.place (form_of (Do op Immediate (Byte x))) t u → (y : State) × Steps s l t y × Agree live u y
  as_one op next v w x l e on within first second does =
      led op x l e (record { onward = on; running = first.running; steady = record { calm = first.steady.calm; within = within }; does = does; bytes = second.bytes })

  masks_lead : (op next : Op) (v w : ℕ) (l : Line) → joined_masks (Do op Immediate (Byte v)) (Do next Immediate (Byte w)) ≡ Some l
      → Steps s (Do op Immediate (Byte v)) t m → Steps s (Do next Immediate (Byte w)) m u → (x : State) × Steps s l t x × Agree live u x
  masks_lead ops.Lda ops.And v w l e first second =
      as_one ops.Lda ops.And v w (bit_and v w) l e tt tt first second (second.does ∙ ap (λ (x : State). record x { regs = with_a (bit_and x.regs.a w) x.regs }) first.does)
  masks_lead ops.Lda ops.Ora v w l e first second =
      as_one ops.Lda ops.Ora v w (bit_or v w) l e tt tt first second (second.does ∙ ap (λ (x : State). record x { regs = with_a (bit_or x.regs.a w) x.regs }) first.does)
  masks_lead ops.Lda ops.Eor v w l e first second =
      as_one ops.Lda ops.Eor v w (bit_xor v w) l e tt tt first second (second.does ∙ ap (λ (x : State). record x { regs = with_a (bit_xor x.regs.a w) x.regs }) first.does)
  masks_lead ops.And ops.And v w l e first second =
      as_one ops.And ops.And v w (bit_and v w) l e tt tt first second
      (second.does ∙ (ap (λ (x : State). record x { regs = with_a (bit_and x.regs.a w) x.regs }) first.does ∙ ap (λ (a : ℕ). record t { regs = with_a a t.regs }) (and_group t.regs.a v w)))
  masks_lead ops.Ora ops.Ora v w l e first second =
      as_one ops.Ora ops.Ora v w (bit_or v w) l e tt tt first second
      (second.does ∙ (ap (λ (x : State). record x { regs = with_a (bit_or x.regs.a w) x.regs }) first.does ∙ ap (λ (a : ℕ). record t { regs = with_a a t.regs }) (or_group w t.regs.a v)))
  masks_lead ops.Eor ops.Eor v w l e first second =
      as_one ops.Eor ops.Eor v w (bit_xor v w) l e tt tt first second
      (second.does ∙ (ap (λ (x : State). record x { regs = with_a (bit_xor x.regs.a w) x.regs }) first.does ∙ ap (λ (a : ℕ). record t { regs = with_a a t.regs }) (xor_group t.regs.a v w)))
  masks_lead _ _ v w l e first second = absurd cc

  pub joined_leads : (line next l : Line) → joined_masks line next ≡ Some l → Steps s line t m → Steps s next m u → (x : State) × Steps s l t x × Agree live u x
  joined_leads (Do op Immediate (Byte v)) (Do next Immediate (Byte w)) l e first second = masks_lead op next v w l e first second
  joined_leads _ _ l e first second = absurd cc
