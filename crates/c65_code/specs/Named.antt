-- Codes each of whose symbols is defined, or is named by a line or by data.
use Rattle.std.specs.Prelude.{◌≡◌, ℕ, ◌<◌, Some, slice_get, length}
use Rattle.c65_code.specs.declared.line.Sym.{Sym}
use Rattle.c65_code.specs.declared.line.Operand.{Operand}
use Rattle.c65_code.specs.declared.line.Operand.TheVariants.{Low, High, At}
use Rattle.c65_code.specs.declared.line.Callee.{Callee}
use Rattle.c65_code.specs.declared.line.Callee.TheVariants.{Function}
use Rattle.c65_code.specs.declared.line.Line.{Line}
use Rattle.c65_code.specs.declared.line.Line.TheVariants.{Do, Call}
use Rattle.c65_code.specs.declared.code.Code.{Code}
use Rattle.c65_code.specs.declared.code.Datum.{Datum}
use Rattle.c65_code.specs.declared.code.DataCell.{DataCell}
use Rattle.c65_code.specs.declared.code.DataCell.TheVariants.{Address}
use Rattle.c65_code.specs.Segments.{Segment}

abbrev pub OperandNames : Operand → ℕ → Type 0
OperandNames (Low sym offset) f = sym.0 ≡ f
OperandNames (High sym offset) f = sym.0 ≡ f
OperandNames (At sym offset) f = sym.0 ≡ f
OperandNames _ f = ⊥

abbrev pub CalleeNames : Callee → ℕ → Type 0
CalleeNames (Function sym reads gives) f = sym.0 ≡ f
CalleeNames _ f = ⊥

abbrev pub LineNames : Line → ℕ → Type 0
LineNames (Do op mode operand) f = OperandNames operand f
LineNames (Call callee) f = CalleeNames callee f
LineNames _ f = ⊥

abbrev pub CellNames : DataCell → ℕ → Type 0
CellNames (Address sym offset) f = sym.0 ≡ f
CellNames _ f = ⊥

-- a symbol that has lines or data of its own, or is named by those of others
pub data IsNamed (code : Code) (f : ℕ) : Type 0 where
  function : (i : ℕ) (g : Sym × Segment) → slice_get code.functions i ≡ Some g → g.0.0 ≡ f → IsNamed code f
  datum : (i : ℕ) (d : Datum) → slice_get code.datums i ≡ Some d → d.sym.0 ≡ f → IsNamed code f
  by_line : (i k : ℕ) (g : Sym × Segment) (l : Line) → slice_get code.functions i ≡ Some g → slice_get g.1.lines k ≡ Some l → LineNames l f → IsNamed code f
  by_cell : (i k : ℕ) (d : Datum) (c : DataCell) → slice_get code.datums i ≡ Some d → slice_get d.cells k ≡ Some c → CellNames c f → IsNamed code f

-- The linker gives an address only to symbols that are named.
abbrev pub EachNamed : Code → Type 0
EachNamed code = (f : ℕ) → f < length code.symbols → IsNamed code f
