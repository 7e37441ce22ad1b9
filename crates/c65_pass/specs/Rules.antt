-- The rules by their numbers.
use Rattle.std.specs.Prelude.{ℕ, nat_le, if◌then◌else◌, List, [], ◌∷◌, Option, None, drop, slice_get}
use Rattle.c65_code.specs.declared.line.Line.{Line}
use Rattle.c65_code.specs.declared.line.Sym.{Sym}
use Rattle.c65_know.specs.Known.{Annotated}
use Rattle.c65_live.specs.Tables.{Table}
use Rattle.c65_pass.specs.ArithRules.{arith_rule}
use Rattle.c65_pass.specs.FlowRules.{flow_rule}
use Rattle.c65_pass.specs.LibraryRules.{library_rule}
use Rattle.c65_pass.specs.LoadRules.{load_rule}
use Rattle.c65_pass.specs.ProcessorRules.{processor_rule}
use Rattle.c65_pass.specs.StackRules.{stack_rule}
use Rattle.c65_pass.specs.Rewriting.{Rewriting}

-- what a rule makes at the line of a place, by the lines after it
abbrev pub made_by : ℕ → List (Sym × List ℕ) → Annotated → Table → ℕ → Line → List Line → Option Rewriting
made_by rule literals noted table at line after =
    if nat_le rule 9 then flow_rule rule noted.lines (slice_get noted.notes at) at line after else (
    if nat_le rule 23 then load_rule rule (slice_get noted.notes at) table at line after else (
    if nat_le rule 32 then arith_rule rule (slice_get noted.notes at) table at line after else (
    if nat_le rule 38 then stack_rule rule table at line after else (
    if nat_le rule 40 then library_rule rule literals table at line after else processor_rule rule table at line after))))

-- what a rule makes at a place of the lines that stand there: a line and those after it
abbrev pub match_there : ℕ → List (Sym × List ℕ) → Annotated → Table → ℕ → List Line → Option Rewriting
match_there rule literals noted table at [] = None
match_there rule literals noted table at (line ∷ after) = made_by rule literals noted table at line after

-- What a rule makes at a place of a function's lines: literals, notes and table are theirs. None where it does not match.
abbrev pub match_at : ℕ → List (Sym × List ℕ) → Annotated → Table → ℕ → Option Rewriting
match_at rule literals noted table at = match_there rule literals noted table at (drop at noted.lines)
