-- The table of lines in place of others: only near them it changes, where all ways through the place go straight.
use Rattle.std.specs.Prelude.{◌≡◌, ◌&&◌, ◌<◌, ◌≤◌, ◌+◌, ◌-◌, ℕ, not, Bool, true, false, IsTrue, List, [], ◌∷◌, ◌++◌, length, take, drop}
use Rattle.std.specs.List.{list_all}
use Rattle.c65_code.specs.declared.parts.Part.{Part}
use Rattle.c65_code.specs.declared.parts.RegSet.{RegSet}
use Rattle.c65_code.specs.declared.line.Line.{Line}
use Rattle.c65_code.specs.declared.line.Line.TheVariants.{Label}
use Rattle.c65_code.specs.Parts.{no_parts, has_part, union_of, minus_of}
use Rattle.c65_code.specs.Access.{line_reads, line_sets}
use Rattle.c65_code.specs.Segments.{target_of, is_closing, replaced}
use Rattle.c65_live.specs.Tables.{IsLiveTable}
use Rattle.c65_live.specs.declared.renew.Sides.{Sides}

abbrev pub goes_nowhere : List ℕ → Bool
goes_nowhere [] = true
goes_nowhere _ = false

-- a line behind which the next one alone may come, and to which none jumps
abbrev pub is_plain : Line → Bool
is_plain (Label l) = false
is_plain line = not (is_closing line) && goes_nowhere (target_of line)

abbrev pub are_plain : List Line → Bool
are_plain lines = list_all is_plain lines

-- what is live before a line, by what is live after it
abbrev pub before_line : RegSet → Line → RegSet → RegSet
before_line out line after = union_of (line_reads out line) (minus_of after (line_sets line))

-- what is live before plain lines, by what is live after the last of them
abbrev pub before_all : RegSet → List Line → RegSet → RegSet
before_all out [] after = after
before_all out (line ∷ lines) after = before_line out line (before_all out lines after)

-- what is live after each of them
abbrev pub afters : RegSet → List Line → RegSet → List RegSet
afters out [] after = []
afters out (line ∷ lines) after = before_all out lines after ∷ afters out lines after

-- what is live before the first of the lines behind, by what is live after it
abbrev pub before_rest : RegSet → List Line → RegSet → RegSet
before_rest out [] after = no_parts
before_rest out (line ∷ lines) after = before_line out line after

-- Other lines have the same live before them as those that stood there, and read first what those read first that is live behind them.
pub record IsSettledBefore (out : RegSet) (old new : List Line) (after : RegSet) : Type 0 where
  pub same : before_all out new after ≡ before_all out old after
  pub read : (part : Part) → IsTrue (has_part after part) → IsTrue (has_part (before_all out old no_parts) part) → IsTrue (has_part (before_all out new no_parts) part)

-- what is seen of the sides: nothing changes before them, and what is live after them and was read first is so still
pub record AreSettled (sides : Sides) (after : RegSet) : Type 0 where
  pub same : sides.new ≡ sides.old
  pub read : (part : Part) → IsTrue (has_part after part) → IsTrue (has_part sides.old_reads part) → IsTrue (has_part sides.new_reads part)

-- the lines from one on up to another, and lines behind them
abbrev pub widened : List Line → ℕ → ℕ → List Line → List Line
widened lines first at window = take (at - first) (drop first lines) ++ window

-- From this line on up to the place of the new lines the old ones are plain, and so are those that go and those that come: before it
-- nothing changes.
pub record IsEdge (out : RegSet) (lines : List Line) (at count : ℕ) (new : List Line) (after : RegSet) (first : ℕ) : Type 0 where
  pub before : first ≤ at
  pub old_plain : are_plain (widened lines first at (take count (drop at lines))) ≡ true
  pub new_plain : are_plain (widened lines first at new) ≡ true
  pub settled : 0 < first → IsSettledBefore out (widened lines first at (take count (drop at lines))) (widened lines first at new) after

-- the table with other sets from a line on up to the end of the new lines
abbrev pub renewed : RegSet → List Line → List RegSet → ℕ → ℕ → List Line → RegSet → ℕ → List RegSet
renewed out lines live at count new after first = take first live ++ (afters out (widened lines first at new) after ++ drop (at + count) live)

-- these sets, from this line on up to the end of the new lines, make the table that of the lines with the new ones
pub record IsNear (lines : List Line) (out : RegSet) (live : List RegSet) (at count : ℕ) (new : List Line) (first : ℕ) (sets : List RegSet) : Type 0 where
  pub before : first ≤ at
  pub long : length sets ≡ at - first + length new
  pub table : IsLiveTable (replaced lines at count new) out (record { after = take first live ++ (sets ++ drop (at + count) live) })
