-- How many bytes lines take, and where their labels stand. Numbers of bytes stop at the greatest that 64 bits hold.
use Rattle.std.specs.Prelude.{ℕ, ◌+◌, ◌-◌, ◌^◌, ◌&&◌, Bool, nat_lt, nat_eq, min, if◌then◌else◌, List, [], ◌∷◌, Option, Some, None}
use Rattle.std.specs.Map.{lookup}
use Rattle.indexmap.specs.IndexMap.{insert_entry}
use Rattle.c65_mach.specs.declared.rows.Mode.{Mode}
use Rattle.c65_mach.specs.declared.rows.Mode.TheVariants.{Relative}
use Rattle.c65_mach.specs.Step.{size_of}
use Rattle.c65_code.specs.declared.line.Operand.{Operand}
use Rattle.c65_code.specs.declared.line.Operand.TheVariants.{To}
use Rattle.c65_code.specs.declared.line.Line.{Line}
use Rattle.c65_code.specs.declared.line.Line.TheVariants.{Label, Do, Call}
use Rattle.c65_code.specs.Weights.{mode_size}

abbrev pub plus : ℕ → ℕ → ℕ
plus a b = min (a + b) (2 ^ 64 - 1)

-- labels, each with the number of bytes before it
abbrev pub Labels : Type 0
Labels = List (ℕ × ℕ)

abbrev pub with_label : Line → ℕ → Labels → Labels
with_label (Label l) at labels = insert_entry nat_eq labels l at
with_label _ at labels = labels

abbrev pub or_zero : Option ℕ → ℕ
or_zero None = 0
or_zero (Some at) = at

abbrev pub offset_of : Labels → ℕ → ℕ
offset_of labels l = or_zero (lookup (nat_eq l) labels)

-- a line with each branch taken to be a long one: the opposite branch round a jump
abbrev pub far_size : Line → ℕ
far_size (Label l) = 0
far_size (Do op mode operand) = mode_size mode
far_size (Call callee) = 3

abbrev pub far_labels : Labels → ℕ → List Line → Labels
far_labels labels at [] = labels
far_labels labels at (line ∷ lines) = far_labels (with_label line at labels) (plus at (far_size line)) lines

-- Whether a branch reaches its label even if all others are long, from what is then before them. A branch reaches from
-- 128 bytes before its end to 127 behind it; it is itself 2 bytes long then, and not 5.
abbrev pub reaches : ℕ → ℕ → Bool
reaches from to = nat_lt to (plus from 133) && nat_lt from (plus to 127)

abbrev pub target_of : Operand → ℕ
target_of (To l) = l
target_of _ = 0

abbrev pub branch_size : Bool → ℕ
branch_size near = if near then 2 else 5

abbrev pub size_in : Labels → ℕ → Mode → Operand → ℕ
size_in far at Relative operand = branch_size (reaches at (offset_of far (target_of operand)))
size_in far at mode operand = size_of mode

-- the bytes of a line, by the number of bytes before it where all branches are long
abbrev pub line_size : Labels → ℕ → Line → ℕ
line_size far at (Label l) = 0
line_size far at (Do op mode operand) = size_in far at mode operand
line_size far at (Call callee) = 3

-- the labels of lines where all branches are long, and where those are short that reach, with the number of bytes then
pub record Body : Type 0 where
  pub far : Labels
  pub near : Labels
  pub size : ℕ

abbrev pub with_line : Body → ℕ → Line → Body
with_line body at line = record { far = body.far; near = with_label line body.size body.near; size = plus body.size (line_size body.far at line) }

abbrev pub with_lines : Body → ℕ → List Line → Body
with_lines body at [] = body
with_lines body at (line ∷ lines) = with_lines (with_line body at line) (plus at (far_size line)) lines

abbrev pub body_of : List Line → Body
body_of lines = with_lines (record { far = far_labels [] 0 lines; near = []; size = 0 }) 0 lines
