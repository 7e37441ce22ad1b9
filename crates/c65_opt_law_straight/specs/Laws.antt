-- Lines in a row lead from states that are near one another to such states again, and so do lines that stand for others there.
use Rattle.std.specs.Prelude.{◌≡◌, ℕ, ◌+◌, ◌-◌, ◌<◌, IsTrue, List, [], ◌∷◌, Some, take, drop, slice_get, length, sum_by}
use Rattle.c65_code.specs.declared.line.Line.{Line}
use Rattle.c65_code.specs.declared.line.Line.TheVariants.{Do}
use Rattle.c65_code.specs.declared.line.Operand.TheVariants.{Byte}
use Rattle.c65_code.specs.declared.line.Sym.{Sym}
use Rattle.c65_code.specs.declared.parts.RegSet.{RegSet}
use Rattle.c65_code.specs.Forms.{form_of}
use Rattle.c65_code.specs.LineState.{Frame, State, IsBytes}
use Rattle.c65_code.specs.Placement.{Setting}
use Rattle.c65_code.specs.Segments.{is_fit}
use Rattle.c65_know.specs.Known.{Annotated}
use Rattle.c65_know_law.specs.Truth.{IsTrueOf}
use Rattle.c65_live.specs.Tables.{Table, live_after}
use Rattle.c65_opt_law_near.specs.Laws.{IsLow, IsOperation}
use Rattle.c65_opt_law_near.specs.Near.{before, Near}
use Rattle.c65_optarith_law.specs.Straight.{Straight}
use Rattle.c65_pass.specs.Rewriting.{Rewriting}
use Rattle.c65_pass.specs.Rules.{match_at}

-- what is live before lines in a row, by what is live after them
abbrev pub before_all : RegSet → List Line → RegSet → RegSet
before_all out [] after = after
before_all out (line ∷ lines) after = before out line (before_all out lines after)

abbrev pub IsByteLine : Line → Type 0
IsByteLine (Do op mode (Byte v)) = v < 256
IsByteLine _ = Unit {0}

-- a line that may stand in a segment and is no call, whose number is a byte
pub record IsInRow (line : Line) : Type 0 where
  pub fit : IsTrue (is_fit line)
  pub operation : IsOperation (form_of line)
  pub byte : IsByteLine line

abbrev pub AreInRow : List Line → Type 0
AreInRow [] = Unit {0}
AreInRow (line ∷ lines) = IsInRow line × AreInRow lines

-- the calls that are active take as much of page 1 in both
abbrev pub AreAsDeep : State → State → Type 0
AreAsDeep t u = sum_by (λ (f : Frame). 2 + length f.pushed) t.frames ≡ sum_by (λ (f : Frame). 2 + length f.pushed) u.frames

-- From near states: where lines in a row lead from the first one, they lead from the second to a state near that.
abbrev pub LinesStayNear : Type 0
LinesStayNear = (s : Setting) (out : RegSet) (lines : List Line) (after : RegSet) (t u v : State) → IsLow s.place → AreInRow lines → Straight s lines t v → IsBytes u → AreAsDeep t u
    → Near (before_all out lines after) t u → (x : State) × Straight s lines u x × Near after v x × AreAsDeep v x × IsBytes x

-- From near states, of the second of which the note at the place is true: where a rule matches, and the lines that stood there lead
-- from the first one, its lines lead from the second to a state near that, in all that is live behind them.
abbrev pub WindowStaysNear : ℕ → Type 0
WindowStaysNear rule = (s : Setting) (literals : List (Sym × List ℕ)) (noted : Annotated) (table : Table) (at : ℕ) (w : Rewriting) (t u v : State) → IsLow s.place
    → match_at rule literals noted table at ≡ Some w → AreInRow (take w.count (drop at noted.lines)) → Straight s (take w.count (drop at noted.lines)) t v → IsBytes u → AreAsDeep t u
    → IsTrueOf (slice_get noted.notes at) u → Near (before_all noted.out (take w.count (drop at noted.lines)) (live_after table (at + w.count - 1))) t u
    → (x : State) × Straight s w.lines u x × Near (live_after table (at + w.count - 1)) v x
