-- The bytes of a text whose lines are joined, as the lexer holds them.
use Rattle.std.specs.Prelude.{ℕ, List, map, drop}
use Rattle.c65_lex.specs.Cells.{Cell}
use Rattle.c65_pieces.specs.declared.settled.Settled.{Settled}
use Rattle.c65_pieces.specs.declared.settled.Reading.{Reading}

abbrev pub as_cell : Settled → Cell
as_cell s = record { byte = s.byte; line = s.line; column = s.column }

abbrev pub as_cells : List Settled → List Cell
as_cells lines = map as_cell lines

-- the cells from a place on
unfoldable pub ahead : List Settled → ℕ → List Cell
ahead lines place = as_cells (drop place lines)

abbrev pub cell_of : Reading → Cell
cell_of r = record { byte = r.byte; line = r.line; column = r.column }
