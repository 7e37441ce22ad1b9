-- The first bytes of objects and literals.
use Rattle.std.specs.Prelude.{ℕ, ℤ, ◌++◌, ◌==◌, Bool, false, if◌then◌else◌, List, [], ◌∷◌, map}
use Rattle.c65_ints.specs.Ranges.{residue}
use Rattle.c65_csem.specs.declared.items.Cell.{Cell}
use Rattle.c65_csem.specs.declared.items.Cell.TheVariants as cells
use Rattle.c65_csem.specs.declared.items.Target.{Target}
use Rattle.c65_csem.specs.declared.items.Target.TheVariants as targets
use Rattle.c65_code.specs.declared.code.DataCell.{DataCell}
use Rattle.c65_code.specs.declared.code.DataCell.TheVariants.{Byte, Address}
use Rattle.c65_code.specs.declared.line.Sym.{Sym}
use Rattle.c65_genframe.specs.declared.symbols.Numbers.{Numbers}
use Rattle.c65_genframe.specs.Symbols.{object_symbol, literal_symbol, function_symbol}

-- what an initial pointer names
abbrev pub symbol_of : Numbers → Target → Sym
symbol_of n (targets.Object i) = object_symbol n i
symbol_of n (targets.Literal i) = literal_symbol n i
symbol_of n (targets.Func i) = function_symbol n i

abbrev pub offset_of : ℤ → ℕ
offset_of o = residue 65536 o

-- the first byte of a pointer stands for both
abbrev pub with_cell : Numbers → Cell → List DataCell → List DataCell
with_cell n (cells.Byte b) xs = xs ++ Byte b ∷ []
with_cell n (cells.Piece t o part) xs = if part == 0 then xs ++ Address (symbol_of n t) (offset_of o) ∷ [] else xs

abbrev pub with_cells : Numbers → List Cell → List DataCell → List DataCell
with_cells n [] xs = xs
with_cells n (c ∷ cs) xs = with_cells n cs (with_cell n c xs)

abbrev pub is_zero : Cell → Bool
is_zero (cells.Byte b) = b == 0
is_zero (cells.Piece t o part) = false

-- the bytes of a literal and the zero behind them
abbrev pub literal_cells : List ℕ → List DataCell
literal_cells bytes = map (λ b. Byte b) bytes ++ Byte 0 ∷ []
