-- Which codes the linker's laws are about.
use Rattle.std.specs.Prelude.{◌≡◌, ℕ, Some, slice_get}
use Rattle.c65_code.specs.declared.line.Sym.{Sym}
use Rattle.c65_code.specs.declared.line.Line.{Line}
use Rattle.c65_code.specs.declared.code.Code.{Code}
use Rattle.c65_code.specs.declared.code.Symbol.{Symbol}
use Rattle.c65_code.specs.declared.code.Datum.{Datum}
use Rattle.c65_code.specs.declared.code.DataCell.{DataCell}
use Rattle.c65_code.specs.Segments.{Segment, IsSegment}
use Rattle.c65_code.specs.Writable.{IsWritable}
use Rattle.c65_link.specs.Symbols.{line_symbol, cell_symbol}

-- Something of the code names the symbol: it is that of a function with lines or of a datum, or a line or a cell refers to it.
-- The linker gives an address to such symbols alone.
pub data IsNamed (code : Code) (i : ℕ) : Type 0 where
  by_function : (k : ℕ) (f : Sym × Segment) → slice_get code.functions k ≡ Some f → f.0.0 ≡ i → IsNamed code i
  by_datum : (k : ℕ) (datum : Datum) → slice_get code.datums k ≡ Some datum → datum.sym.0 ≡ i → IsNamed code i
  by_line : (k j : ℕ) (f : Sym × Segment) (line : Line) (sym : Sym) → slice_get code.functions k ≡ Some f → slice_get f.1.lines j ≡ Some line → line_symbol line ≡ Some sym → sym.0 ≡ i → IsNamed code i
  by_cell : (k j : ℕ) (datum : Datum) (cell : DataCell) (sym : Sym) → slice_get code.datums k ≡ Some datum → slice_get datum.cells j ≡ Some cell → cell_symbol cell ≡ Some sym → sym.0 ≡ i → IsNamed code i

-- it can be written, each function is a segment, and each symbol is named
pub record IsSound (code : Code) : Type 0 where
  pub writable : IsWritable code
  pub segment : (k : ℕ) (f : Sym × Segment) → slice_get code.functions k ≡ Some f → IsSegment f.1.lines
  pub named : (i : ℕ) (symbol : Symbol) → slice_get code.symbols i ≡ Some symbol → IsNamed code i
