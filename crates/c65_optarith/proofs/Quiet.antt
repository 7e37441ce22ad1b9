-- Arithmetic, comparisons and CLC and SEC go on to the next line.
use Rattle.std.proofs.Common.{◌≡◌, ℕ, true, Bool, Option, Some, None, is_some, refl, ◌==◌}
use Rattle.std.proofs.lemmas.Bool.{and_parts}
use Rattle.c65_mach.specs.declared.rows.Op.{Op}
use Rattle.c65_mach.specs.declared.rows.Op.TheVariants as ops
use Rattle.c65_mach.specs.declared.rows.Mode.{Mode}
use Rattle.c65_mach.specs.declared.rows.Mode.TheVariants.{Immediate}
use Rattle.c65_code.specs.declared.line.Operand.{Operand}
use Rattle.c65_code.specs.declared.line.Operand.TheVariants.{Byte}
use Rattle.c65_code.specs.declared.line.Line.{Line}
use Rattle.c65_code.specs.declared.line.Line.TheVariants.{Do}
use Rattle.c65_know.specs.declared.note.Note.{Note}
use Rattle.c65_live.specs.Tables.{Table}
use Rattle.c65_pass.specs.declared.register.Register.{Register}
use Rattle.c65_pass.specs.LoadRules.{are_one}
use Rattle.c65_pass.specs.ArithRules.{has_carry, carry_of, is_idle_carry, is_dead_carry, signed_by, compared_by, is_idle_compare, is_dead_compare, neutral_byte, is_byte, is_idle_mask, are_opposite, is_stepped_back, neutral_carry, is_idle_sum, is_arithmetic, is_dead_arithmetic}
use Rattle.c65_pass.proofs.Replaced.{IsQuiet}

carry_quiet : (op : Op) (mode : Mode) (operand : Operand) → is_some (carry_of op) ≡ true → IsQuiet (Do op mode operand)
carry_quiet ops.Rts mode operand h = absurd cc
carry_quiet ops.Jmp mode operand h = absurd cc
carry_quiet _ mode operand h = record { plain = refl; onward = refl }

signed_quiet : (op : Op) (mode : Mode) (operand : Operand) → is_some (signed_by op mode) ≡ true → IsQuiet (Do op mode operand)
signed_quiet ops.Rts mode operand h = absurd cc
signed_quiet ops.Jmp mode operand h = absurd cc
signed_quiet _ mode operand h = record { plain = refl; onward = refl }

compare_quiet : (op : Op) (mode : Mode) (operand : Operand) → is_some (compared_by op) ≡ true → IsQuiet (Do op mode operand)
compare_quiet ops.Rts mode operand h = absurd cc
compare_quiet ops.Jmp mode operand h = absurd cc
compare_quiet _ mode operand h = record { plain = refl; onward = refl }

mask_quiet : (op : Op) (mode : Mode) (operand : Operand) → is_some (neutral_byte op) ≡ true → IsQuiet (Do op mode operand)
mask_quiet ops.Rts mode operand h = absurd cc
mask_quiet ops.Jmp mode operand h = absurd cc
mask_quiet _ mode operand h = record { plain = refl; onward = refl }

sum_quiet : (op : Op) (mode : Mode) (operand : Operand) → is_some (neutral_carry op) ≡ true → IsQuiet (Do op mode operand)
sum_quiet ops.Rts mode operand h = absurd cc
sum_quiet ops.Jmp mode operand h = absurd cc
sum_quiet _ mode operand h = record { plain = refl; onward = refl }

arithmetic_quiet : (op : Op) (mode : Mode) (operand : Operand) → is_arithmetic op mode ≡ true → IsQuiet (Do op mode operand)
arithmetic_quiet ops.Rts mode operand h = absurd cc
arithmetic_quiet ops.Jmp mode operand h = absurd cc
arithmetic_quiet _ mode operand h = record { plain = refl; onward = refl }

step_quiet : (op next : Op) (mode : Mode) (operand : Operand) → are_opposite op next ≡ true → IsQuiet (Do op mode operand)
step_quiet ops.Rts next mode operand h = absurd cc
step_quiet ops.Jmp next mode operand h = absurd cc
step_quiet _ next mode operand h = record { plain = refl; onward = refl }

turned : (op next : Op) → are_opposite op next ≡ true → are_opposite next op ≡ true
turned ops.Inx ops.Dex h = refl
turned ops.Dex ops.Inx h = refl
turned ops.Iny ops.Dey h = refl
turned ops.Dey ops.Iny h = refl
turned _ _ h = absurd cc

-- ---- what tests say of their operations

has_some : (known : Option Note) (c : Option Bool) → has_carry known c ≡ true → is_some c ≡ true
has_some known None h = absurd cc
has_some known (Some c) h = refl

byte_some : (v : ℕ) (w : Option ℕ) → is_byte v w ≡ true → is_some w ≡ true
byte_some v None h = absurd cc
byte_some v (Some w) h = refl

one_some : (r s : Option Register) → are_one r s ≡ true → (is_some r ≡ true) × (is_some s ≡ true)
one_some None s h = absurd cc
one_some (Some r) None h = absurd cc
one_some (Some r) (Some s) h = (refl, refl)

-- ---- the lines of each rule

pub idle_carry_quiet : (known : Option Note) (line : Line) → is_idle_carry known line ≡ true → IsQuiet line
idle_carry_quiet known (Do op mode operand) h = carry_quiet op mode operand (has_some known (carry_of op) h)
idle_carry_quiet known _ h = absurd cc

pub dead_carry_quiet : (table : Table) (q : ℕ) (line : Line) → is_dead_carry table q line ≡ true → IsQuiet line
dead_carry_quiet table q (Do op mode operand) h = carry_quiet op mode operand (and_parts (is_some (carry_of op)) _ h).0
dead_carry_quiet table q _ h = absurd cc

pub idle_compare_quiet : (table : Table) (q : ℕ) (line next : Line) → is_idle_compare table q line next ≡ true → IsQuiet line × IsQuiet next
idle_compare_quiet table q (Do op mode operand) (Do next Immediate (Byte v)) h =
    let same = and_parts (are_one (signed_by op mode) (compared_by next)) _ (and_parts (v == 0) _ h).1 in
    let some = one_some (signed_by op mode) (compared_by next) same.0 in
    (signed_quiet op mode operand some.0, compare_quiet next Immediate (Byte v) some.1)
idle_compare_quiet table q _ _ h = absurd cc

pub dead_compare_quiet : (table : Table) (q : ℕ) (line : Line) → is_dead_compare table q line ≡ true → IsQuiet line
dead_compare_quiet table q (Do op mode operand) h = compare_quiet op mode operand (and_parts (is_some (compared_by op)) _ h).0
dead_compare_quiet table q _ h = absurd cc

pub idle_mask_quiet : (table : Table) (q : ℕ) (line : Line) → is_idle_mask table q line ≡ true → IsQuiet line
idle_mask_quiet table q (Do op Immediate (Byte v)) h = mask_quiet op Immediate (Byte v) (byte_some v (neutral_byte op) (and_parts (is_byte v (neutral_byte op)) _ h).0)
idle_mask_quiet table q _ h = absurd cc

pub stepped_back_quiet : (table : Table) (q : ℕ) (line next : Line) → is_stepped_back table q line next ≡ true → IsQuiet line × IsQuiet next
stepped_back_quiet table q (Do op mode operand) (Do next there other) h =
    let opposite = (and_parts (are_opposite op next) _ h).0 in
    (step_quiet op next mode operand opposite, step_quiet next op there other (turned op next opposite))
stepped_back_quiet table q _ _ h = absurd cc

pub idle_sum_quiet : (known : Option Note) (table : Table) (q : ℕ) (line : Line) → is_idle_sum known table q line ≡ true → IsQuiet line
idle_sum_quiet known table q (Do op Immediate (Byte v)) h =
    sum_quiet op Immediate (Byte v) (has_some known (neutral_carry op) (and_parts (has_carry known (neutral_carry op)) _ (and_parts (v == 0) _ h).1).0)
idle_sum_quiet known table q _ h = absurd cc

pub dead_arithmetic_quiet : (table : Table) (q : ℕ) (line : Line) → is_dead_arithmetic table q line ≡ true → IsQuiet line
dead_arithmetic_quiet table q (Do op mode operand) h = arithmetic_quiet op mode operand (and_parts (is_arithmetic op mode) _ h).0
dead_arithmetic_quiet table q _ h = absurd cc
