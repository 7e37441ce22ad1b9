-- Comparisons.
use Rattle.std.proofs.Common.{◌≡◌, ℕ, ◌+◌, ◌-◌, ◌%◌, ◌<◌, ◌==◌, true, [], ◌∷◌, Option, Some, None, refl, sym, subst, ap, ◌∙◌, arith}
use Rattle.std.specs.Prelude.{nat_lt}
use Rattle.std.proofs.lemmas.Bool.{and_parts, eqb-true}
use Rattle.c65_mach.specs.declared.rows.Op.{Op}
use Rattle.c65_mach.specs.declared.rows.Op.TheVariants as ops
use Rattle.c65_mach.specs.declared.rows.Mode.{Mode}
use Rattle.c65_mach.specs.declared.rows.Mode.TheVariants.{Accumulator, Immediate}
use Rattle.c65_mach.specs.State.{Regs}
use Rattle.c65_mach.specs.Step.{negative, compared, with_a, Reads, Changes, Registers}
use Rattle.c65_code.specs.declared.line.Operand.{Operand}
use Rattle.c65_code.specs.declared.line.Operand.TheVariants.{Byte}
use Rattle.c65_code.specs.declared.line.Line.{Line}
use Rattle.c65_code.specs.declared.line.Line.TheVariants.{Do}
use Rattle.c65_code.specs.declared.parts.Part.TheVariants as parts
use Rattle.c65_code.specs.LineState.{State, IsBytes}
use Rattle.c65_code.specs.Moves.{effect, ref_of, value_at}
use Rattle.c65_code.specs.Parts.{set_of}
use Rattle.c65_code.specs.Placement.{Setting, word_of}
use Rattle.c65_live.specs.Samples.{DeadIsNotLive}
use Rattle.c65_live.specs.Tables.{Table, live_after, is_dead}
use Rattle.c65_pass.specs.declared.register.Register.{Register}
use Rattle.c65_pass.specs.declared.register.Register.TheVariants.{A, X, Y}
use Rattle.c65_pass.specs.LoadRules.{are_one}
use Rattle.c65_pass.specs.ArithRules.{signed_by, compared_by, is_idle_compare, is_dead_compare}
use Rattle.c65_optarith_law.specs.Straight.{Steps, Agree}
use Rattle.c65_optarith_law.proofs.Agreeing.{agree_dead, in_compared, DifferIn}

abbrev held : Register → Regs → ℕ
held A r = r.a
held X r = r.x
held Y r = r.y

-- N and Z are by the value of this register
record IsSignedBy (r : Register) (t : State) : Type 0 where
  n : t.regs.n ≡ negative (held r t.regs)
  z : t.regs.z ≡ (held r t.regs == 0)

told : (a r : Register) (m q : State) → Some a ≡ Some r → m ≡ q → q.regs.n ≡ negative (held a q.regs) → q.regs.z ≡ (held a q.regs == 0) → IsSignedBy r m
told a r m q e is n z =
    let same : a ≡ r = cc in
    let there : IsSignedBy a q = record { n = n; z = z } in
    subst (λ x. IsSignedBy x m) same (subst (IsSignedBy a) (sym is) there)

module _ (s : Setting) (t m : State) (operand : Operand) (r : Register) where
  signed_after : (op : Op) (mode : Mode) → signed_by op mode ≡ Some r → Steps s (Do op mode operand) t m → IsSignedBy r m
  signed_after ops.Lda mode e step = told A r m (effect Reads ops.Lda mode (word_of s.place operand) t) e step.does refl refl
  signed_after ops.Txa mode e step = told A r m (effect Registers ops.Txa mode (word_of s.place operand) t) e step.does refl refl
  signed_after ops.Tya mode e step = told A r m (effect Registers ops.Tya mode (word_of s.place operand) t) e step.does refl refl
  signed_after ops.And mode e step = told A r m (effect Reads ops.And mode (word_of s.place operand) t) e step.does refl refl
  signed_after ops.Ora mode e step = told A r m (effect Reads ops.Ora mode (word_of s.place operand) t) e step.does refl refl
  signed_after ops.Eor mode e step = told A r m (effect Reads ops.Eor mode (word_of s.place operand) t) e step.does refl refl
  signed_after ops.Pla mode e step = let pulled = step.does in told A r m (record t { regs = with_a pulled.0 t.regs; pushed = pulled.1 }) e pulled.3 refl refl
  signed_after ops.Ldx mode e step = told X r m (effect Reads ops.Ldx mode (word_of s.place operand) t) e step.does refl refl
  signed_after ops.Tax mode e step = told X r m (effect Registers ops.Tax mode (word_of s.place operand) t) e step.does refl refl
  signed_after ops.Inx mode e step = told X r m (effect Registers ops.Inx mode (word_of s.place operand) t) e step.does refl refl
  signed_after ops.Dex mode e step = told X r m (effect Registers ops.Dex mode (word_of s.place operand) t) e step.does refl refl
  signed_after ops.Ldy mode e step = told Y r m (effect Reads ops.Ldy mode (word_of s.place operand) t) e step.does refl refl
  signed_after ops.Tay mode e step = told Y r m (effect Registers ops.Tay mode (word_of s.place operand) t) e step.does refl refl
  signed_after ops.Iny mode e step = told Y r m (effect Registers ops.Iny mode (word_of s.place operand) t) e step.does refl refl
  signed_after ops.Dey mode e step = told Y r m (effect Registers ops.Dey mode (word_of s.place operand) t) e step.does refl refl
  signed_after ops.Asl Accumulator e step = told A r m (effect Changes ops.Asl Accumulator (word_of s.place operand) t) e step.does refl refl
  signed_after ops.Lsr Accumulator e step = told A r m (effect Changes ops.Lsr Accumulator (word_of s.place operand) t) e step.does refl refl
  signed_after ops.Rol Accumulator e step = told A r m (effect Changes ops.Rol Accumulator (word_of s.place operand) t) e step.does refl refl
  signed_after ops.Ror Accumulator e step = told A r m (effect Changes ops.Ror Accumulator (word_of s.place operand) t) e step.does refl refl
  signed_after _ mode e step = absurd cc

one_is : (a : Option Register) (b : Register) → are_one a (Some b) ≡ true → a ≡ Some b
one_is None b h = absurd cc
one_is (Some A) A h = refl
one_is (Some X) X h = refl
one_is (Some Y) Y h = refl
one_is (Some _) _ h = absurd cc

held_small : (r : Register) (t : State) → IsBytes t → held r t.regs < 256
held_small A t bytes = bytes.a
held_small X t bytes = bytes.x
held_small Y t bytes = bytes.y

in_same : (r : Register) (m : State) (v : ℕ) → v ≡ 0 → held r m.regs < 256 → IsSignedBy r m → DifferIn (set_of (parts.C ∷ [])) (compared (held r m.regs) v m.regs) m.regs
in_same r m v zero small signed =
    let d : (held r m.regs + 256 - v) % 256 ≡ held r m.regs = omega (arith, zero, small) in
    record { a = λ h. refl; x = λ h. refl; y = λ h. refl; n = λ h. ap negative d ∙ sym signed.n; v = λ h. refl; z = λ h. ap (λ (x : ℕ). x == 0) d ∙ sym signed.z; c = λ h. absurd cc }

module _ (dead : DeadIsNotLive) (table : Table) (q : ℕ) (s : Setting) where
  -- the comparison of a register with 0
  compared_idly : (op next : Op) (mode : Mode) (operand : Operand) (v : ℕ) (r : Register) (t m u : State) → is_idle_compare table q (Do op mode operand) (Do next Immediate (Byte v)) ≡ true
      → compared_by next ≡ Some r → Steps s (Do op mode operand) t m → u ≡ record m { regs = compared (held r m.regs) v m.regs } → Agree (live_after table q) u m
  compared_idly op next mode operand v r t m u h is first e =
      let zero = eqb-true v 0 (and_parts (v == 0) _ h).0 in
      let rest = and_parts (are_one (signed_by op mode) (compared_by next)) _ (and_parts (v == 0) _ h).1 in
      let one = subst (λ c. are_one (signed_by op mode) c ≡ true) is rest.0 in
      let signed = signed_after s t m operand r op mode (one_is (signed_by op mode) r one) first in
      agree_dead dead table q (set_of (parts.C ∷ [])) m u (compared (held r m.regs) v m.regs) e rest.1 (in_same r m v zero (held_small r m first.bytes) signed)

  idle_compare_op : (op next : Op) (mode : Mode) (operand : Operand) (v : ℕ) (t m u : State) → is_idle_compare table q (Do op mode operand) (Do next Immediate (Byte v)) ≡ true
      → Steps s (Do op mode operand) t m → Steps s (Do next Immediate (Byte v)) m u → Agree (live_after table q) u m
  idle_compare_op op ops.Cmp mode operand v t m u h first second = compared_idly op ops.Cmp mode operand v A t m u h refl first second.does
  idle_compare_op op ops.Cpx mode operand v t m u h first second = compared_idly op ops.Cpx mode operand v X t m u h refl first second.does
  idle_compare_op op ops.Cpy mode operand v t m u h first second = compared_idly op ops.Cpy mode operand v Y t m u h refl first second.does
  idle_compare_op op _ mode operand v t m u h first second =
      let none = (and_parts (are_one (signed_by op mode) None) _ (and_parts (v == 0) _ h).1).0 in absurd (no_one (signed_by op mode) none)
    where
      no_one : (r : Option Register) → are_one r None ≡ true → ⊥
      no_one None k = absurd cc
      no_one (Some r) k = absurd cc

  pub idle_compare_agrees : (line next : Line) (t m u : State) → is_idle_compare table q line next ≡ true → Steps s line t m → Steps s next m u → Agree (live_after table q) u m
  idle_compare_agrees (Do op mode operand) (Do next Immediate (Byte v)) t m u h first second = idle_compare_op op next mode operand v t m u h first second
  idle_compare_agrees _ _ t m u h first second = absurd cc

  -- ---- comparisons of which nothing is read

  in_result : (reg v : ℕ) (r : Regs) → DifferIn (set_of (parts.N ∷ parts.Z ∷ parts.C ∷ [])) (compared reg v r) r
  in_result reg v r = let d = (reg + 256 - v) % 256 in in_compared r (negative d) (d == 0) (nat_lt v (reg + 1))

  compared_dead : (reg v : ℕ) (t u : State) → is_dead table q (set_of (parts.N ∷ parts.Z ∷ parts.C ∷ [])) ≡ true → u ≡ record t { regs = compared reg v t.regs } → Agree (live_after table q) u t
  compared_dead reg v t u h e = agree_dead dead table q (set_of (parts.N ∷ parts.Z ∷ parts.C ∷ [])) t u (compared reg v t.regs) e h (in_result reg v t.regs)

  dead_compare_op : (op : Op) (mode : Mode) (operand : Operand) (t u : State) → is_dead_compare table q (Do op mode operand) ≡ true → Steps s (Do op mode operand) t u → Agree (live_after table q) u t
  dead_compare_op ops.Cmp mode operand t u h step = compared_dead t.regs.a (value_at (ref_of mode (word_of s.place operand) t) t) t u h step.does
  dead_compare_op ops.Cpx mode operand t u h step = compared_dead t.regs.x (value_at (ref_of mode (word_of s.place operand) t) t) t u h step.does
  dead_compare_op ops.Cpy mode operand t u h step = compared_dead t.regs.y (value_at (ref_of mode (word_of s.place operand) t) t) t u h step.does
  dead_compare_op _ mode operand t u h step = absurd cc

  pub dead_compare_agrees : (line : Line) (t u : State) → is_dead_compare table q line ≡ true → Steps s line t u → Agree (live_after table q) u t
  dead_compare_agrees (Do op mode operand) t u h step = dead_compare_op op mode operand t u h step
  dead_compare_agrees _ t u h step = absurd cc
