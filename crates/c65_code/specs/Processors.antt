-- Which processors can run a code.
use Rattle.std.specs.Prelude.{◌≡◌, ℕ, not, Bool, true, IsTrue, Some, slice_get}
use Rattle.std.specs.List.{list_all}
use Rattle.c65_base.specs.declared.options.Cpu.{Cpu}
use Rattle.c65_base.specs.declared.options.Cpu.TheVariants.{Nmos, Cmos}
use Rattle.c65_code.specs.declared.line.Sym.{Sym}
use Rattle.c65_code.specs.declared.line.Line.{Line}
use Rattle.c65_code.specs.declared.line.Line.TheVariants.{Do}
use Rattle.c65_code.specs.declared.code.Code.{Code}
use Rattle.c65_code.specs.Segments.{Segment, is_added_row}

abbrev pub is_nmos_line : Line → Bool
is_nmos_line (Do op mode operand) = not (is_added_row op mode)
is_nmos_line _ = true

-- no line has a row that the 65C02 adds
abbrev pub IsNmos : Code → Type 0
IsNmos code = (i : ℕ) (f : Sym × Segment) → slice_get code.functions i ≡ Some f → IsTrue (list_all is_nmos_line f.1.lines)

abbrev pub RunsOn : Cpu → Code → Type 0
RunsOn Nmos code = IsNmos code
RunsOn Cmos code = Unit {0}
