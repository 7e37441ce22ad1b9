-- Any lines have a table of what is live after each of them.
use Rattle.std.specs.Prelude.{List}
use Rattle.c65_code.specs.declared.line.Line.{Line}
use Rattle.c65_code.specs.declared.parts.RegSet.{RegSet}
use Rattle.c65_live.specs.Tables.{Table, IsLiveTable}

abbrev pub LiveTablesExist : Type 0
LiveTablesExist = (lines : List Line) (out : RegSet) → (table : Table) × IsLiveTable lines out table
