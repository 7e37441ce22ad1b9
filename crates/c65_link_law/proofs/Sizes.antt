-- Sizes of lines, and sums that do not stop short.
use Rattle.std.proofs.Common.{◌≡◌, ℕ, ◌+◌, ◌-◌, ◌*◌, ◌≤◌, ◌^◌, ◌%◌, Bool, true, false, List, [], ◌∷◌, length, refl, arith}
use Rattle.c65_mach.specs.declared.rows.Op.{Op}
use Rattle.c65_mach.specs.declared.rows.Mode.{Mode}
use Rattle.c65_mach.specs.declared.rows.Mode.TheVariants.{Implied, Accumulator, Immediate, ZeroPage, ZeroPageX, ZeroPageY, Absolute, AbsoluteX, AbsoluteY, IndirectX, IndirectY, Indirect, Relative, ZeroPageIndirect, AbsoluteIndirectX}
use Rattle.c65_code.specs.declared.line.Operand.{Operand}
use Rattle.c65_code.specs.declared.line.Line.{Line}
use Rattle.c65_code.specs.declared.line.Line.TheVariants.{Label, Do, Call}
use Rattle.c65_code.specs.Weights.{mode_size}
use Rattle.c65_link.specs.Bodies.{Labels, Body, with_line, with_lines, branch_size, size_in, offset_of, target_of, reaches, far_size, line_size, plus}
use Rattle.c65_link.specs.Bytes.{Spot, branch_bytes, do_bytes, line_bytes}

pub plus_grows : (a b : ℕ) → a ≤ 2 ^ 64 - 1 → a ≤ plus a b
plus_grows a b h = omega arith

pub plus_most : (a b : ℕ) → plus a b ≤ 2 ^ 64 - 1
plus_most a b = omega arith

pub plus_exact : (a b : ℕ) → a + b ≤ 2 ^ 64 - 1 → plus a b ≡ a + b
plus_exact a b h = omega arith

-- a line takes at most what it takes if all branches are long, and a third of that at least
pub record IsSized (near far : ℕ) : Type 0 where
  pub most : near ≤ far
  pub least : far ≤ 3 * near
  pub few : far ≤ 5

branch_sized : (b : Bool) → IsSized (branch_size b) 5
branch_sized true = record { most = omega arith; least = omega arith; few = omega arith }
branch_sized false = record { most = omega arith; least = omega arith; few = omega arith }

same_sized : (n : ℕ) → n ≤ 3 → IsSized n n
same_sized n h = record { most = omega arith; least = omega arith; few = omega arith }

mode_sized : (far : Labels) (at : ℕ) (mode : Mode) (operand : Operand) → IsSized (size_in far at mode operand) (mode_size mode)
mode_sized far at Implied operand = same_sized 1 (omega arith)
mode_sized far at Accumulator operand = same_sized 1 (omega arith)
mode_sized far at Immediate operand = same_sized 2 (omega arith)
mode_sized far at ZeroPage operand = same_sized 2 (omega arith)
mode_sized far at ZeroPageX operand = same_sized 2 (omega arith)
mode_sized far at ZeroPageY operand = same_sized 2 (omega arith)
mode_sized far at Absolute operand = same_sized 3 (omega arith)
mode_sized far at AbsoluteX operand = same_sized 3 (omega arith)
mode_sized far at AbsoluteY operand = same_sized 3 (omega arith)
mode_sized far at IndirectX operand = same_sized 2 (omega arith)
mode_sized far at IndirectY operand = same_sized 2 (omega arith)
mode_sized far at Indirect operand = same_sized 3 (omega arith)
mode_sized far at ZeroPageIndirect operand = same_sized 2 (omega arith)
mode_sized far at AbsoluteIndirectX operand = same_sized 3 (omega arith)
mode_sized far at Relative operand = branch_sized (reaches at (offset_of far (target_of operand)))

pub line_sized : (far : Labels) (at : ℕ) (line : Line) → IsSized (line_size far at line) (far_size line)
line_sized far at (Label l) = same_sized 0 (omega arith)
line_sized far at (Do op mode operand) = mode_sized far at mode operand
line_sized far at (Call callee) = same_sized 3 (omega arith)

-- the bytes of a line are as many as its size says

branch_length : (b : Bool) (op : Op) (from to : ℕ) → length (branch_bytes b op from to) ≡ branch_size b
branch_length true op from to = refl
branch_length false op from to = refl

do_length : (spot : Spot) (at near : ℕ) (op : Op) (mode : Mode) (operand : Operand) → length (do_bytes spot (record { far = at; near = near }) op mode operand) ≡ size_in spot.body.far at mode operand
do_length spot at near op Implied operand = refl
do_length spot at near op Accumulator operand = refl
do_length spot at near op Immediate operand = refl
do_length spot at near op ZeroPage operand = refl
do_length spot at near op ZeroPageX operand = refl
do_length spot at near op ZeroPageY operand = refl
do_length spot at near op Absolute operand = refl
do_length spot at near op AbsoluteX operand = refl
do_length spot at near op AbsoluteY operand = refl
do_length spot at near op IndirectX operand = refl
do_length spot at near op IndirectY operand = refl
do_length spot at near op Indirect operand = refl
do_length spot at near op ZeroPageIndirect operand = refl
do_length spot at near op AbsoluteIndirectX operand = refl
do_length spot at near op Relative operand = branch_length (reaches at (offset_of spot.body.far (target_of operand))) op ((spot.base + near) % 65536) ((spot.base + offset_of spot.body.near (target_of operand)) % 65536)

pub line_length : (spot : Spot) (at near : ℕ) (line : Line) → length (line_bytes spot (record { far = at; near = near }) line) ≡ line_size spot.body.far at line
line_length spot at near (Label l) = refl
line_length spot at near (Do op mode operand) = do_length spot at near op mode operand
line_length spot at near (Call callee) = refl

-- a body only grows
pub grown : (lines : List Line) (body : Body) (at : ℕ) → body.size ≤ 2 ^ 64 - 1 → body.size ≤ (with_lines body at lines).size
grown [] body at h = omega arith
grown (line ∷ lines) body at h =
    let more : body.size ≤ plus body.size (line_size body.far at line) = plus_grows body.size (line_size body.far at line) h in
    let rest : plus body.size (line_size body.far at line) ≤ (with_lines (with_line body at line) (plus at (far_size line)) lines).size = grown lines (with_line body at line) (plus at (far_size line)) (plus_most body.size (line_size body.far at line)) in
    omega (arith, more, rest)

-- where a line stands, in lines that take at most 65,535 bytes
pub record IsSmall (body : Body) (at : ℕ) (lines : List Line) : Type 0 where
  pub size : (with_lines body at lines).size ≤ 65535
  pub far : at ≤ 3 * body.size

-- the sums over the next line are exact
pub record Next (body : Body) (at : ℕ) (line : Line) (lines : List Line) : Type 0 where
  pub far_is : plus at (far_size line) ≡ at + far_size line
  pub near_is : plus body.size (line_size body.far at line) ≡ body.size + line_size body.far at line
  pub small : IsSmall (with_line body at line) (plus at (far_size line)) lines

pub next : (body : Body) (at : ℕ) (line : Line) (lines : List Line) → body.size ≤ 2 ^ 64 - 1 → IsSmall body at (line ∷ lines) → Next body at line lines
next body at line lines h small =
    let sized : IsSized (line_size body.far at line) (far_size line) = line_sized body.far at line in
    let rest : plus body.size (line_size body.far at line) ≤ (with_lines (with_line body at line) (plus at (far_size line)) lines).size = grown lines (with_line body at line) (plus at (far_size line)) (plus_most body.size (line_size body.far at line)) in
    let begun : body.size ≤ plus body.size (line_size body.far at line) = plus_grows body.size (line_size body.far at line) h in
    let far_is : plus at (far_size line) ≡ at + far_size line = plus_exact at (far_size line) (omega (arith, sized.few, small.size, small.far, rest, begun)) in
    let near_is : plus body.size (line_size body.far at line) ≡ body.size + line_size body.far at line = plus_exact body.size (line_size body.far at line) (omega (arith, sized.most, sized.few, small.size, rest, begun)) in
    record { far_is = far_is; near_is = near_is; small = record { size = small.size; far = omega (arith, far_is, near_is, sized.least, small.far) } }
