-- The lines of statements and functions are those of their parts.
use Rattle.std.specs.Prelude.{◌≡◌, ℕ, ◌+◌, ◌&&◌, not, Bool, Some, All, List, ◌∷◌, ◌++◌, length}
use Rattle.c65_csem.specs.Trees.{Stmt}
use Rattle.c65_meaning.specs.Sites.{sites}
use Rattle.c65_code.specs.declared.parts.RegSet.{RegSet}
use Rattle.c65_code.specs.declared.line.Line.{Line}
use Rattle.c65_code.specs.declared.line.Line.TheVariants.{Label}
use Rattle.c65_code.specs.Segments.{Drafted, IsSegment}
use Rattle.c65_genframe.specs.Frames.{Framed}
use Rattle.c65_genentry.specs.Entry.{entry_code}
use Rattle.c65_genentry.specs.Ends.{end_code}
use Rattle.c65_genstmt.specs.declared.jumps.Ways.{Ways}
use Rattle.c65_genstmt.specs.Stmts.{ways, returns_last, with_stmt}
use Rattle.c65_genstmt.specs.Functions.{body_room, main_code, no_lines, with_function}
use Rattle.c65_agree_state.specs.World.{HasAt, IsPlaced}
use Rattle.c65_agree_lines.specs.Lists.{stmt_code, stmt_uses, last_code}
use Rattle.c65_agree_lines.specs.Turns.{IsTurn, turns_of, stmt_calls}

-- a draft gains these lines and so many labels, and gives what it gave
pub record Gains (d e : Drafted) (lines : List Line) (n : ℕ) : Type 0 where
  pub lines_are : e.lines ≡ d.lines ++ lines
  pub labels_are : e.labels ≡ d.labels + n
  pub out_is : e.out ≡ d.out

abbrev pub StatementsAreListed : Type 0
StatementsAreListed = (f : Framed) (w : Ways) (l : ℕ) (s : Stmt) (d : Drafted) → Gains d (with_stmt f w l s d) (stmt_code f w l s d.labels) (stmt_uses f s)

-- a function's lines are its entry, its body, what `main` gives at its end where no return stands there, and its end at label 0
abbrev pub FunctionsAreListed : Type 0
FunctionsAreListed = (f : Framed) (is_main : Bool) (body : Stmt) (out : RegSet)
    → (with_function f is_main (Some body) (no_lines out)).lines ≡ entry_code f ++ (last_code f (ways 0 0 0) 0 body (0 + 1 + body_room (Some body)) ++ (main_code (is_main && not (returns_last body)) ++ Label 0 ∷ end_code f))

-- whatever its body, it gives what it was begun with
abbrev pub FunctionsGiveTheirResults : Type 0
FunctionsGiveTheirResults = (f : Framed) (is_main : Bool) (body : Stmt) (out : RegSet) → (with_function f is_main (Some body) (no_lines out)).out ≡ out

-- ---- lines that stand in a function

-- the parts of lines stand one behind another
abbrev pub PartsStand : Type 0
PartsStand = (code first second : List Line) (p : ℕ) → HasAt code p (first ++ second) → HasAt code p first × HasAt code (p + length first) second

-- and all lines of a function stand there
abbrev pub AllStand : Type 0
AllStand = (code : List Line) → HasAt code 0 code

-- in a segment each label has one place
abbrev pub SegmentsArePlaced : Type 0
SegmentsArePlaced = (code : List Line) → IsSegment code → IsPlaced code

-- ---- turns

-- where a statement's lines stand, its loops and `goto`s have their lines
abbrev pub TurnsStand : Type 0
TurnsStand = (f : Framed) (w : Ways) (l : ℕ) (s : Stmt) (fresh p : ℕ) (code : List Line) → HasAt code p (stmt_code f w l s fresh) → All (IsTurn code) (turns_of f w l s fresh p)

-- and so it is where it stands last in its function
abbrev pub LastTurnsStand : Type 0
LastTurnsStand = (f : Framed) (w : Ways) (l : ℕ) (s : Stmt) (fresh p : ℕ) (code : List Line) → HasAt code p (last_code f w l s fresh) → All (IsTurn code) (turns_of f w l s fresh p)

-- with its calls they are as many as the meaning counts
abbrev pub TurnsAreCounted : Type 0
TurnsAreCounted = (f : Framed) (w : Ways) (l : ℕ) (s : Stmt) (fresh p : ℕ) → length (turns_of f w l s fresh p) + stmt_calls s ≡ sites s
