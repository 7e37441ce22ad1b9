-- Steps and the steps back, and arithmetic of which nothing is read.
use Rattle.std.proofs.Common.{◌≡◌, ℕ, ◌+◌, ◌-◌, ◌%◌, ◌==◌, Bool, true, [], ◌∷◌, refl, ap, ◌∙◌}
use Rattle.std.specs.Prelude.{nat_lt, bit_and, bit_or, bit_xor}
use Rattle.std.proofs.lemmas.Bool.{and_parts}
use Rattle.c65_mach.specs.declared.rows.Op.{Op}
use Rattle.c65_mach.specs.declared.rows.Op.TheVariants as ops
use Rattle.c65_mach.specs.declared.rows.Mode.{Mode}
use Rattle.c65_mach.specs.declared.rows.Mode.TheVariants.{Accumulator}
use Rattle.c65_mach.specs.Step.{bit, negative, with_a, with_x, with_y, summed, changed}
use Rattle.c65_code.specs.declared.line.Operand.{Operand}
use Rattle.c65_code.specs.declared.line.Line.{Line}
use Rattle.c65_code.specs.declared.line.Line.TheVariants.{Do}
use Rattle.c65_code.specs.declared.parts.Part.TheVariants as parts
use Rattle.c65_code.specs.Access.{line_sets}
use Rattle.c65_code.specs.LineState.{State}
use Rattle.c65_code.specs.Moves.{ref_of, value_at}
use Rattle.c65_code.specs.Parts.{set_of, has_part}
use Rattle.c65_code.specs.Placement.{Setting, word_of}
use Rattle.c65_live.specs.Samples.{DeadIsNotLive}
use Rattle.c65_live.specs.Tables.{Table, live_after, is_dead}
use Rattle.c65_pass.specs.LoadRules.{are_flags_dead}
use Rattle.c65_pass.specs.ArithRules.{are_opposite, is_stepped_back, is_arithmetic, is_dead_arithmetic}
use Rattle.c65_optarith_law.specs.Straight.{Steps, Agree}
use Rattle.c65_optarith_law.proofs.Agreeing.{agree_dead, in_signs_of_x, in_signs_of_y, set_a, set_x, set_y, set_shifted, set_summed}
use Rattle.c65_optarith_law.proofs.Bits.{up_down, down_up}

module _ (dead : DeadIsNotLive) (table : Table) (q : ℕ) (s : Setting) where
  same_x : (t u : State) (x : ℕ) → u ≡ record t { regs = with_x x t.regs } → x ≡ t.regs.x → are_flags_dead table q ≡ true → Agree (live_after table q) u t
  same_x t u x is e h = agree_dead dead table q (set_of (parts.N ∷ parts.Z ∷ [])) t u (with_x x t.regs) is h (in_signs_of_x t.regs x (negative x) (x == 0) e)

  same_y : (t u : State) (y : ℕ) → u ≡ record t { regs = with_y y t.regs } → y ≡ t.regs.y → are_flags_dead table q ≡ true → Agree (live_after table q) u t
  same_y t u y is e h = agree_dead dead table q (set_of (parts.N ∷ parts.Z ∷ [])) t u (with_y y t.regs) is h (in_signs_of_y t.regs y (negative y) (y == 0) e)

  stepped_back_op : (op next : Op) (mode there : Mode) (operand other : Operand) (t m u : State) → are_opposite op next ≡ true → are_flags_dead table q ≡ true
      → Steps s (Do op mode operand) t m → Steps s (Do next there other) m u → Agree (live_after table q) u t
  stepped_back_op ops.Inx ops.Dex mode there operand other t m u o h first second =
      same_x t u (((t.regs.x + 1) % 256 + 255) % 256) (second.does ∙ ap (λ (k : State). record k { regs = with_x ((k.regs.x + 255) % 256) k.regs }) first.does) (up_down t.regs.x first.steady.calm.bytes.x) h
  stepped_back_op ops.Dex ops.Inx mode there operand other t m u o h first second =
      same_x t u (((t.regs.x + 255) % 256 + 1) % 256) (second.does ∙ ap (λ (k : State). record k { regs = with_x ((k.regs.x + 1) % 256) k.regs }) first.does) (down_up t.regs.x first.steady.calm.bytes.x) h
  stepped_back_op ops.Iny ops.Dey mode there operand other t m u o h first second =
      same_y t u (((t.regs.y + 1) % 256 + 255) % 256) (second.does ∙ ap (λ (k : State). record k { regs = with_y ((k.regs.y + 255) % 256) k.regs }) first.does) (up_down t.regs.y first.steady.calm.bytes.y) h
  stepped_back_op ops.Dey ops.Iny mode there operand other t m u o h first second =
      same_y t u (((t.regs.y + 255) % 256 + 1) % 256) (second.does ∙ ap (λ (k : State). record k { regs = with_y ((k.regs.y + 1) % 256) k.regs }) first.does) (down_up t.regs.y first.steady.calm.bytes.y) h
  stepped_back_op _ _ mode there operand other t m u o h first second = absurd cc

  pub stepped_back_agrees : (line next : Line) (t m u : State) → is_stepped_back table q line next ≡ true → Steps s line t m → Steps s next m u → Agree (live_after table q) u t
  stepped_back_agrees (Do op mode operand) (Do next there other) t m u h first second =
      let parts = and_parts (are_opposite op next) _ h in stepped_back_op op next mode there operand other t m u parts.0 parts.1 first second
  stepped_back_agrees _ _ t m u h first second = absurd cc

-- ---- arithmetic of which nothing is read

module _ (dead : DeadIsNotLive) (table : Table) (q : ℕ) (s : Setting) (line : Line) (t u : State) (d : is_dead table q (line_sets line) ≡ true) where
  sets_a : (a : ℕ) → u ≡ record t { regs = with_a a t.regs } → has_part (line_sets line) parts.A ≡ true → has_part (line_sets line) parts.N ≡ true → has_part (line_sets line) parts.Z ≡ true
      → Agree (live_after table q) u t
  sets_a a is i j k = agree_dead dead table q (line_sets line) t u (with_a a t.regs) is d (set_a (line_sets line) t.regs a (negative a) (a == 0) i j k)

  sets_x : (x : ℕ) → u ≡ record t { regs = with_x x t.regs } → has_part (line_sets line) parts.X ≡ true → has_part (line_sets line) parts.N ≡ true → has_part (line_sets line) parts.Z ≡ true
      → Agree (live_after table q) u t
  sets_x x is i j k = agree_dead dead table q (line_sets line) t u (with_x x t.regs) is d (set_x (line_sets line) t.regs x (negative x) (x == 0) i j k)

  sets_y : (y : ℕ) → u ≡ record t { regs = with_y y t.regs } → has_part (line_sets line) parts.Y ≡ true → has_part (line_sets line) parts.N ≡ true → has_part (line_sets line) parts.Z ≡ true
      → Agree (live_after table q) u t
  sets_y y is i j k = agree_dead dead table q (line_sets line) t u (with_y y t.regs) is d (set_y (line_sets line) t.regs y (negative y) (y == 0) i j k)

  sets_shifted : (to : ℕ × Bool) → u ≡ record t { regs = record (with_a to.0 t.regs) { c = to.1 } } → has_part (line_sets line) parts.A ≡ true → has_part (line_sets line) parts.N ≡ true
      → has_part (line_sets line) parts.Z ≡ true → has_part (line_sets line) parts.C ≡ true → Agree (live_after table q) u t
  sets_shifted to is i j k l =
      agree_dead dead table q (line_sets line) t u (record (with_a to.0 t.regs) { c = to.1 }) is d (set_shifted (line_sets line) t.regs to.0 (negative to.0) (to.0 == 0) to.1 i j k l)

  sets_summed : (w : ℕ) → u ≡ record t { regs = summed w t.regs } → has_part (line_sets line) parts.A ≡ true → has_part (line_sets line) parts.N ≡ true → has_part (line_sets line) parts.V ≡ true
      → has_part (line_sets line) parts.Z ≡ true → has_part (line_sets line) parts.C ≡ true → Agree (live_after table q) u t
  sets_summed w is i j o k l =
      let sum = t.regs.a + w + bit t.regs.c in
      let low = sum % 256 in
      agree_dead dead table q (line_sets line) t u (summed w t.regs) is d
      (set_summed (line_sets line) t.regs low (negative low) (negative (bit_and (bit_xor t.regs.a low) (bit_xor w low))) (low == 0) (nat_lt 255 sum) i j o k l)

module _ (dead : DeadIsNotLive) (table : Table) (q : ℕ) (s : Setting) (t u : State) where
  abbrev operand_in : Mode → Operand → ℕ
  operand_in mode operand = value_at (ref_of mode (word_of s.place operand) t) t

  dead_op : (op : Op) (mode : Mode) (operand : Operand) → is_arithmetic op mode ≡ true → is_dead table q (line_sets (Do op mode operand)) ≡ true → Steps s (Do op mode operand) t u → Agree (live_after table q) u t
  dead_op ops.And mode operand h d step = sets_a dead table q s (Do ops.And mode operand) t u d (bit_and t.regs.a (operand_in mode operand)) step.does refl refl refl
  dead_op ops.Ora mode operand h d step = sets_a dead table q s (Do ops.Ora mode operand) t u d (bit_or t.regs.a (operand_in mode operand)) step.does refl refl refl
  dead_op ops.Eor mode operand h d step = sets_a dead table q s (Do ops.Eor mode operand) t u d (bit_xor t.regs.a (operand_in mode operand)) step.does refl refl refl
  dead_op ops.Adc mode operand h d step = sets_summed dead table q s (Do ops.Adc mode operand) t u d (operand_in mode operand) step.does refl refl refl refl refl
  dead_op ops.Sbc mode operand h d step = sets_summed dead table q s (Do ops.Sbc mode operand) t u d (255 - operand_in mode operand) step.does refl refl refl refl refl
  dead_op ops.Inx mode operand h d step = sets_x dead table q s (Do ops.Inx mode operand) t u d ((t.regs.x + 1) % 256) step.does refl refl refl
  dead_op ops.Dex mode operand h d step = sets_x dead table q s (Do ops.Dex mode operand) t u d ((t.regs.x + 255) % 256) step.does refl refl refl
  dead_op ops.Iny mode operand h d step = sets_y dead table q s (Do ops.Iny mode operand) t u d ((t.regs.y + 1) % 256) step.does refl refl refl
  dead_op ops.Dey mode operand h d step = sets_y dead table q s (Do ops.Dey mode operand) t u d ((t.regs.y + 255) % 256) step.does refl refl refl
  dead_op ops.Asl Accumulator operand h d step = sets_shifted dead table q s (Do ops.Asl Accumulator operand) t u d (changed ops.Asl t.regs.a t.regs) step.does refl refl refl refl
  dead_op ops.Lsr Accumulator operand h d step = sets_shifted dead table q s (Do ops.Lsr Accumulator operand) t u d (changed ops.Lsr t.regs.a t.regs) step.does refl refl refl refl
  dead_op ops.Rol Accumulator operand h d step = sets_shifted dead table q s (Do ops.Rol Accumulator operand) t u d (changed ops.Rol t.regs.a t.regs) step.does refl refl refl refl
  dead_op ops.Ror Accumulator operand h d step = sets_shifted dead table q s (Do ops.Ror Accumulator operand) t u d (changed ops.Ror t.regs.a t.regs) step.does refl refl refl refl
  dead_op _ mode operand h d step = absurd cc

  pub dead_arithmetic_agrees : (line : Line) → is_dead_arithmetic table q line ≡ true → Steps s line t u → Agree (live_after table q) u t
  dead_arithmetic_agrees (Do op mode operand) h step = let parts = and_parts (is_arithmetic op mode) _ h in dead_op op mode operand parts.0 parts.1 step
  dead_arithmetic_agrees _ h step = absurd cc
