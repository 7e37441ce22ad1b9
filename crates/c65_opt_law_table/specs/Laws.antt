-- Tables of what is live that are closed: nothing that may be read behind a line is missing after it.
use Rattle.std.specs.Prelude.{◌≡◌, ℕ, List, Some, slice_get}
use Rattle.c65_code.specs.declared.line.Line.{Line}
use Rattle.c65_code.specs.declared.parts.RegSet.{RegSet}
use Rattle.c65_code.specs.Moves.{settle}
use Rattle.c65_code.specs.Parts.{IsWithin}
use Rattle.c65_live.specs.Live.{Next, left_parts}
use Rattle.c65_live.specs.Tables.{Table, IsLiveTable, live_after}
use Rattle.c65_opt_law_near.specs.Near.{before}

-- `live` are the sets after the lines. After a line is live what is so before each line that may come behind it, before the line at
-- which the machine then stands, labels passed, and what may be read outside once the line has left its function.
pub record IsClosed (lines : List Line) (out : RegSet) (live : ℕ → RegSet) : Type 0 where
  pub next : (q r : ℕ) (l : Line) → Next lines q r → slice_get lines r ≡ Some l → IsWithin (before out l (live r)) (live q)
  pub settled : (q r : ℕ) (l : Line) → Next lines q r → slice_get lines (settle lines r) ≡ Some l → IsWithin (before out l (live (settle lines r))) (live q)
  pub left : (q : ℕ) (l : Line) → slice_get lines q ≡ Some l → IsWithin (left_parts out l) (live q)

abbrev pub LiveTablesAreClosed : Type 0
LiveTablesAreClosed = (lines : List Line) (out : RegSet) (table : Table) → IsLiveTable lines out table → IsClosed lines out (live_after table)
