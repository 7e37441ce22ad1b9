-- The rules on jumps, branches and labels, each at the line of a place and the lines after it.
use Rattle.std.specs.Prelude.{ℕ, ◌==◌, ◌&&◌, not, Bool, true, false, if◌then◌else◌, List, [], ◌∷◌, Option, Some, None}
use Rattle.c65_mach.specs.declared.rows.Op.{Op}
use Rattle.c65_mach.specs.declared.rows.Op.TheVariants as ops
use Rattle.c65_mach.specs.declared.rows.Mode.TheVariants.{Relative}
use Rattle.c65_code.specs.declared.line.Operand.TheVariants.{To}
use Rattle.c65_code.specs.declared.line.Line.{Line}
use Rattle.c65_code.specs.declared.line.Line.TheVariants.{Label, Do}
use Rattle.c65_code.specs.Segments.{is_closing, is_among, targets_of}
use Rattle.c65_know.specs.declared.note.Note.{Note}
use Rattle.c65_know.specs.declared.note.Flag.{Flag}
use Rattle.c65_know.specs.Notes.{known_flag}
use Rattle.c65_know.specs.Rows.{tested_by, takes_at, is_flag}
use Rattle.c65_pass.specs.Labels.{jump_target, branch_target, retargeted, is_label, begins_with, begins_with_target, hop, chain_end}
use Rattle.c65_pass.specs.Rewriting.{Rewriting}

-- the line goes
abbrev pub gone_if : Bool → ℕ → Option Rewriting
gone_if true at = Some (record { at = at; count = 1; lines = [] })
gone_if false at = None

-- the line after this one goes
abbrev pub alone_if : Bool → ℕ → Line → Option Rewriting
alone_if true at line = Some (record { at = at; count = 2; lines = line ∷ [] })
alone_if false at line = None

-- the line goes to this label in place of its own
abbrev pub sent_to : Option ℕ → ℕ → Line → Option Rewriting
sent_to None at line = None
sent_to (Some l) at line = Some (record { at = at; count = 1; lines = retargeted line l ∷ [] })

-- a line that is no label, and whether there is a line after it
abbrev pub begins_plainly : List Line → Bool
begins_plainly [] = false
begins_plainly (line ∷ lines) = not (is_label line)

abbrev pub goes_on_plainly : List Line → Bool
goes_on_plainly (line ∷ next ∷ lines) = not (is_label line)
goes_on_plainly _ = false

-- the target of the chain of JMPs that begins at the target of a line
abbrev pub threaded : List Line → Option ℕ → Option ℕ
threaded lines None = None
threaded lines (Some l) = chain_end lines (hop lines l)

-- the branch that is taken exactly where this one is not
abbrev pub opposite : Op → Op
opposite ops.Bcc = ops.Bcs
opposite ops.Bcs = ops.Bcc
opposite ops.Beq = ops.Bne
opposite ops.Bne = ops.Beq
opposite ops.Bmi = ops.Bpl
opposite ops.Bpl = ops.Bmi
opposite ops.Bvc = ops.Bvs
opposite ops.Bvs = ops.Bvc
opposite op = op

abbrev pub inverted_if : Bool → ℕ → Op → Option ℕ → Option Rewriting
inverted_if true at op (Some m) = Some (record { at = at; count = 2; lines = Do (opposite op) Relative (To m) ∷ [] })
inverted_if _ at op _ = None

-- a branch round a JMP
abbrev pub inverted : ℕ → Line → List Line → Option Rewriting
inverted at (Do op Relative (To l)) (next ∷ after) = inverted_if (begins_with l after) at op (jump_target next)
inverted at _ _ = None

-- a label to which no line refers
abbrev pub is_unused : List Line → Line → Bool
is_unused lines (Label l) = not (is_among (targets_of lines) l)
is_unused lines _ = false

-- whether a note shows that a flag has a value
abbrev pub shows : Option Flag → Bool → Option Note → Bool
shows (Some f) b (Some note) = is_flag b (known_flag note f)
shows _ b _ = false

-- whether the note shows that a branch is taken, and that it is not
abbrev pub is_taken : Option Note → Line → Bool
is_taken known (Do op Relative (To l)) = shows (tested_by op) (takes_at op) known
is_taken known _ = false

abbrev pub is_passed : Option Note → Line → Bool
is_passed known (Do op Relative (To l)) = shows (tested_by op) (not (takes_at op)) known
is_passed known _ = false

-- JMP to a label that follows at once
abbrev pub idle_jump : ℕ → Line → List Line → Option Rewriting
idle_jump at line after = gone_if (begins_with_target (jump_target line) after) at

abbrev pub idle_branch : ℕ → Line → List Line → Option Rewriting
idle_branch at line after = gone_if (begins_with_target (branch_target line) after) at

-- a line that is no label after JMP or RTS
abbrev pub unreached : ℕ → Line → List Line → Option Rewriting
unreached at line after = alone_if (is_closing line && begins_plainly after) at line

-- JMP to a chain of JMPs
abbrev pub long_jump : List Line → ℕ → Line → Option Rewriting
long_jump lines at line = sent_to (threaded lines (jump_target line)) at line

abbrev pub long_branch : List Line → ℕ → Line → Option Rewriting
long_branch lines at line = sent_to (threaded lines (branch_target line)) at line

abbrev pub unused_label : List Line → ℕ → Line → Option Rewriting
unused_label lines at line = gone_if (is_unused lines line) at

-- a branch that is not taken
abbrev pub passed_branch : Option Note → ℕ → Line → Option Rewriting
passed_branch known at line = gone_if (is_passed known line) at

-- a line that is no label and not the last, after a branch that is taken
abbrev pub passed_over : Option Note → ℕ → Line → List Line → Option Rewriting
passed_over known at line after = alone_if (is_taken known line && goes_on_plainly after) at line

-- Rules 1 to 9. `lines` are those of the segment, `known` is the note before the line, `after` the lines after it.
abbrev pub flow_rule : ℕ → List Line → Option Note → ℕ → Line → List Line → Option Rewriting
flow_rule rule lines known at line after =
    if rule == 1 then idle_jump at line after else (
    if rule == 2 then idle_branch at line after else (
    if rule == 3 then unreached at line after else (
    if rule == 4 then long_jump lines at line else (
    if rule == 5 then long_branch lines at line else (
    if rule == 6 then inverted at line after else (
    if rule == 7 then unused_label lines at line else (
    if rule == 8 then passed_branch known at line else (
    if rule == 9 then passed_over known at line after else None))))))))
