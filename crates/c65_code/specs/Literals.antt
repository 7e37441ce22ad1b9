-- The bytes of a code's string literals.
use Rattle.std.specs.Prelude.{ℕ, Bool, false, if◌then◌else◌, List, [], ◌∷◌, ◌++◌, Option, Some, None, slice_get}
use Rattle.c65_code.specs.declared.line.Sym.{Sym}
use Rattle.c65_code.specs.declared.code.Symbol.{Symbol}
use Rattle.c65_code.specs.declared.code.Datum.{Datum}
use Rattle.c65_code.specs.declared.code.DataCell.{DataCell}
use Rattle.c65_code.specs.declared.code.DataCell.TheVariants.{Byte, Address}

abbrev pub bytes_of : List DataCell → List ℕ
bytes_of [] = []
bytes_of (Byte v ∷ cells) = v ∷ bytes_of cells
bytes_of (Address sym offset ∷ cells) = bytes_of cells

abbrev pub is_marked : Option Symbol → Bool
is_marked (Some symbol) = symbol.literal
is_marked None = false

-- whether a symbol is a literal's
abbrev pub is_literal : List Symbol → Sym → Bool
is_literal symbols sym = is_marked (slice_get symbols sym.0)

abbrev pub literal_of : List Symbol → Datum → List (Sym × List ℕ)
literal_of symbols datum = if is_literal symbols datum.sym then (datum.sym, bytes_of datum.cells) ∷ [] else []

-- the literals in the order of their data
abbrev pub literals_of : List Symbol → List Datum → List (Sym × List ℕ)
literals_of symbols [] = []
literals_of symbols (datum ∷ datums) = literal_of symbols datum ++ literals_of symbols datums
