-- Where jumps and branches go: labels that follow at once, and chains of jumps.
use Rattle.std.specs.Prelude.{◌+◌, ◌||◌, ◌==◌, ℕ, zero, suc, Bool, true, false, if◌then◌else◌, is_some, List, [], ◌∷◌, Option, Some, None, length}
use Rattle.c65_mach.specs.declared.rows.Op.TheVariants as ops
use Rattle.c65_mach.specs.declared.rows.Mode.TheVariants.{Absolute, Relative}
use Rattle.c65_code.specs.declared.line.Operand.TheVariants.{To}
use Rattle.c65_code.specs.declared.line.Line.{Line}
use Rattle.c65_code.specs.declared.line.Line.TheVariants.{Label, Do}

-- the label that JMP goes to; a jump through a pointer goes to none
abbrev pub jump_target : Line → Option ℕ
jump_target (Do ops.Jmp Absolute (To l)) = Some l
jump_target _ = None

-- the label that a branch goes to: lines of this mode are the branches
abbrev pub branch_target : Line → Option ℕ
branch_target (Do op Relative (To l)) = Some l
branch_target _ = None

-- the jump or branch with another label
abbrev pub retargeted : Line → ℕ → Line
retargeted (Do op mode operand) l = Do op mode (To l)
retargeted line l = line

abbrev pub is_label : Line → Bool
is_label (Label l) = true
is_label _ = false

-- whether the label is among those that the lines begin with
abbrev pub begins_with : ℕ → List Line → Bool
begins_with l (Label k ∷ lines) = (l == k) || begins_with l lines
begins_with l _ = false

abbrev pub begins_with_target : Option ℕ → List Line → Bool
begins_with_target None lines = false
begins_with_target (Some l) lines = begins_with l lines

-- the lines behind a label
abbrev pub behind : ℕ → List Line → List Line
behind l [] = []
behind l (Label k ∷ lines) = if l == k then lines else behind l lines
behind l (line ∷ lines) = behind l lines

-- where the JMP goes that the lines begin with, after labels
abbrev pub first_jump : List Line → Option ℕ
first_jump [] = None
first_jump (Label k ∷ lines) = first_jump lines
first_jump (line ∷ lines) = jump_target line

-- where the JMP goes that stands at a label
abbrev pub hop : List Line → ℕ → Option ℕ
hop lines l = first_jump (behind l lines)

-- whether a JMP stands at any label
abbrev pub has_hop : List Line → Bool
has_hop [] = false
has_hop (Label k ∷ lines) = is_some (first_jump lines) || has_hop lines
has_hop (line ∷ lines) = has_hop lines

-- the label at which a chain of at most so many JMPs ends, which begins at a label whose JMP goes so
abbrev pub chain_from : ℕ → List Line → ℕ → Option ℕ → Option ℕ
chain_from most lines l None = Some l
chain_from zero lines l (Some k) = None
chain_from (suc most) lines l (Some k) = chain_from most lines k (hop lines k)

-- the label at which the chain of JMPs ends that begins at a label; none where there is no JMP, or the chain comes back to itself
abbrev pub chain_end : List Line → Option ℕ → Option ℕ
chain_end lines None = None
chain_end lines (Some k) = chain_from (length lines) lines k (hop lines k)

-- the lines that jump or branch to a label at which a JMP stands
abbrev pub target_hop : List Line → Line → Option ℕ
target_hop all (Do op mode (To l)) = hop all l
target_hop all _ = None

abbrev pub chained_in : List Line → List Line → ℕ
chained_in all [] = 0
chained_in all (line ∷ lines) = (if is_some (target_hop all line) then 1 else 0) + chained_in all lines

abbrev pub chained : List Line → ℕ
chained lines = chained_in lines lines
