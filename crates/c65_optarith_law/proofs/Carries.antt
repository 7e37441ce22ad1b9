-- CLC, SEC, and sums and differences with 0.
use Rattle.std.proofs.Common.{◌≡◌, ℕ, ◌+◌, ◌-◌, ◌%◌, ◌==◌, Bool, true, false, [], ◌∷◌, Option, Some, None, sym, ap, ◌∙◌, arith}
use Rattle.std.specs.Prelude.{nat_lt, bit_and, bit_xor}
use Rattle.std.proofs.lemmas.Bool.{and_parts, eqb-true, le-ltb, lt-ltb}
use Rattle.c65_mach.specs.declared.rows.Op.{Op}
use Rattle.c65_mach.specs.declared.rows.Op.TheVariants as ops
use Rattle.c65_mach.specs.declared.rows.Mode.{Mode}
use Rattle.c65_mach.specs.declared.rows.Mode.TheVariants.{Immediate}
use Rattle.c65_mach.specs.State.{Regs}
use Rattle.c65_mach.specs.Step.{bit, negative, summed}
use Rattle.c65_code.specs.declared.line.Operand.{Operand}
use Rattle.c65_code.specs.declared.line.Operand.TheVariants.{Byte}
use Rattle.c65_code.specs.declared.line.Line.{Line}
use Rattle.c65_code.specs.declared.line.Line.TheVariants.{Do}
use Rattle.c65_code.specs.declared.parts.Part.TheVariants as parts
use Rattle.c65_code.specs.declared.parts.RegSet.{RegSet}
use Rattle.c65_code.specs.LineState.{State}
use Rattle.c65_code.specs.Parts.{set_of}
use Rattle.c65_code.specs.Placement.{Setting}
use Rattle.c65_know.specs.declared.note.Note.{Note}
use Rattle.c65_know.specs.Rows.{is_flag}
use Rattle.c65_live.specs.Samples.{DeadIsNotLive}
use Rattle.c65_live.specs.Tables.{Table, live_after}
use Rattle.c65_pass.specs.ArithRules.{has_carry, carry_of, is_idle_carry, is_dead_carry, is_idle_sum}
use Rattle.c65_know_law.specs.Truth.{IsAs, IsTrueOf}
use Rattle.c65_optarith_law.specs.Straight.{Steps, Agree}
use Rattle.c65_optarith_law.proofs.Agreeing.{agree_same, agree_dead, in_carry, in_overflow, DifferIn}

flag_is : (b : Bool) (c : Option Bool) (d : Bool) → is_flag b c ≡ true → IsAs c d → d ≡ b
flag_is b None d h k = absurd cc
flag_is true (Some true) d h k = sym k
flag_is true (Some false) d h k = absurd cc
flag_is false (Some true) d h k = absurd cc
flag_is false (Some false) d h k = sym k

carry_is : (known : Option Note) (b : Bool) (t : State) → has_carry known (Some b) ≡ true → IsTrueOf known t → t.regs.c ≡ b
carry_is None b t h k = absurd cc
carry_is (Some note) b t h k = flag_is b note.c t.regs.c h k.c

-- ---- CLC and SEC

idle_carry_op : (known : Option Note) (s : Setting) (op : Op) (mode : Mode) (operand : Operand) (live : RegSet) (t u : State)
    → has_carry known (carry_of op) ≡ true → IsTrueOf known t → Steps s (Do op mode operand) t u → Agree live u t
idle_carry_op known s ops.Clc mode operand live t u h k step =
    agree_same live u t (step.does ∙ ap (λ (b : Bool). record t { regs = record t.regs { c = b } }) (sym (carry_is known false t h k)))
idle_carry_op known s ops.Sec mode operand live t u h k step =
    agree_same live u t (step.does ∙ ap (λ (b : Bool). record t { regs = record t.regs { c = b } }) (sym (carry_is known true t h k)))
idle_carry_op known s _ mode operand live t u h k step = absurd cc

pub idle_carry_agrees : (known : Option Note) (s : Setting) (line : Line) (live : RegSet) (t u : State) → is_idle_carry known line ≡ true → IsTrueOf known t → Steps s line t u → Agree live u t
idle_carry_agrees known s (Do op mode operand) live t u h k step = idle_carry_op known s op mode operand live t u h k step
idle_carry_agrees known s _ live t u h k step = absurd cc

module _ (dead : DeadIsNotLive) (table : Table) (q : ℕ) (s : Setting) (t u : State) where
  dead_carry_op : (op : Op) (mode : Mode) (operand : Operand) → is_dead_carry table q (Do op mode operand) ≡ true → Steps s (Do op mode operand) t u → Agree (live_after table q) u t
  dead_carry_op ops.Clc mode operand h step = agree_dead dead table q (set_of (parts.C ∷ [])) t u (record t.regs { c = false }) step.does h (in_carry t.regs false)
  dead_carry_op ops.Sec mode operand h step = agree_dead dead table q (set_of (parts.C ∷ [])) t u (record t.regs { c = true }) step.does h (in_carry t.regs true)
  dead_carry_op _ mode operand h step = absurd cc

  pub dead_carry_agrees : (line : Line) → is_dead_carry table q line ≡ true → Steps s line t u → Agree (live_after table q) u t
  dead_carry_agrees (Do op mode operand) h step = dead_carry_op op mode operand h step
  dead_carry_agrees _ h step = absurd cc

-- ---- ADC #0 and SBC #0

in_sum : (w : ℕ) (r : Regs) → (r.a + w + bit r.c) % 256 ≡ r.a → nat_lt 255 (r.a + w + bit r.c) ≡ r.c → DifferIn (set_of (parts.N ∷ parts.V ∷ parts.Z ∷ [])) (summed w r) r
in_sum w r e k =
    let low = (r.a + w + bit r.c) % 256 in
    in_overflow r low (negative low) (negative (bit_and (bit_xor r.a low) (bit_xor w low))) (low == 0) (nat_lt 255 (r.a + w + bit r.c)) e k

module _ (dead : DeadIsNotLive) (known : Option Note) (table : Table) (q : ℕ) (s : Setting) (t u : State) (so : IsTrueOf known t) where
  idle_sum_op : (op : Op) (v : ℕ) → is_idle_sum known table q (Do op Immediate (Byte v)) ≡ true → Steps s (Do op Immediate (Byte v)) t u → Agree (live_after table q) u t
  idle_sum_op ops.Adc v h step =
      let zero = eqb-true v 0 (and_parts (v == 0) _ h).0 in
      let rest = and_parts (has_carry known (Some false)) _ (and_parts (v == 0) _ h).1 in
      let clear = carry_is known false t rest.0 so in
      let none : bit t.regs.c ≡ 0 = ap bit clear in
      let small = step.steady.calm.bytes.a in
      let carry : nat_lt 255 (t.regs.a + v + bit t.regs.c) ≡ false = le-ltb 255 (t.regs.a + v + bit t.regs.c) (omega (arith, zero, none, small)) in
      agree_dead dead table q (set_of (parts.N ∷ parts.V ∷ parts.Z ∷ [])) t u (summed v t.regs) step.does rest.1 (in_sum v t.regs (omega (arith, zero, none, small)) (carry ∙ sym clear))
  idle_sum_op ops.Sbc v h step =
      let zero = eqb-true v 0 (and_parts (v == 0) _ h).0 in
      let rest = and_parts (has_carry known (Some true)) _ (and_parts (v == 0) _ h).1 in
      let set = carry_is known true t rest.0 so in
      let one : bit t.regs.c ≡ 1 = ap bit set in
      let small = step.steady.calm.bytes.a in
      let carry : nat_lt 255 (t.regs.a + (255 - v) + bit t.regs.c) ≡ true = lt-ltb 255 (t.regs.a + (255 - v) + bit t.regs.c) (omega (arith, zero, one, small)) in
      agree_dead dead table q (set_of (parts.N ∷ parts.V ∷ parts.Z ∷ [])) t u (summed (255 - v) t.regs) step.does rest.1 (in_sum (255 - v) t.regs (omega (arith, zero, one, small)) (carry ∙ sym set))
  idle_sum_op _ v h step = let no = and_parts (v == 0) _ h in absurd cc

  pub idle_sum_agrees : (line : Line) → is_idle_sum known table q line ≡ true → Steps s line t u → Agree (live_after table q) u t
  idle_sum_agrees (Do op Immediate (Byte v)) h step = idle_sum_op op v h step
  idle_sum_agrees _ h step = absurd cc
