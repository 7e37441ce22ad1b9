-- What each part of a code is asked for that its text can be written, with its numbers of their types.
use Rattle.std.specs.Prelude.{◌↔◌, ℕ, ◌^◌, ◌<◌, ◌++◌, IsTrue, All, List, map, length}
use Rattle.c65_code.specs.declared.line.Sym.{Sym}
use Rattle.c65_code.specs.declared.line.Operand.{Operand}
use Rattle.c65_code.specs.declared.line.Line.{Line}
use Rattle.c65_code.specs.declared.code.Code.{Code}
use Rattle.c65_code.specs.declared.code.Symbol.{Symbol}
use Rattle.c65_code.specs.declared.code.Datum.{Datum}
use Rattle.c65_code.specs.declared.code.DataCell.{DataCell}
use Rattle.c65_code.specs.Segments.{Segment, IsSegment}
use Rattle.c65_code.specs.Writable.{IsSpelling, IsNumbered, IsKnown, IsOperandKnown, IsLineWritable, IsCellKnown, IsShaped, IsLetters}
use Rattle.c65_asm.specs.Renumbered.{IsOperandOfTypes, IsLineOfTypes, IsCellOfTypes}
use Rattle.c65_asm_fit.specs.Once.{IsOnce}

abbrev pub IsSpelled : Symbol → Type 0
IsSpelled s = IsSpelling s.spelling × (IsTrue s.literal ↔ IsNumbered 113 s.spelling)

-- each of so many symbols is known

abbrev pub IsOperandFit : ℕ → Operand → Type 0
IsOperandFit count o = IsOperandKnown count o × IsOperandOfTypes o

abbrev pub IsLineFit : ℕ → Line → Type 0
IsLineFit count l = IsLineWritable count l × IsLineOfTypes l

abbrev pub IsFunctionFit : ℕ → Sym × Segment → Type 0
IsFunctionFit count f = IsKnown count f.0 × IsLetters f.1.out × IsSegment f.1.lines × All (IsLineFit count) f.1.lines

abbrev pub IsCellFit : ℕ → DataCell → Type 0
IsCellFit count c = IsCellKnown count c × IsCellOfTypes c

abbrev pub IsDatumFit : ℕ → Datum → Type 0
IsDatumFit count d = IsKnown count d.sym × IsShaped d.kind (length d.cells) d.zeros × (d.zeros < 2 ^ 32) × All (IsCellFit count) d.cells

-- what is defined, by the numbers of the symbols

abbrev pub function_number : Sym × Segment → ℕ
function_number f = f.0.0

abbrev pub datum_number : Datum → ℕ
datum_number d = d.sym.0

abbrev pub defined : List (Sym × Segment) → List Datum → List ℕ
defined functions datums = map function_number functions ++ map datum_number datums

abbrev pub spelling_of : Symbol → List ℕ
spelling_of s = s.spelling

abbrev pub ArePartsFit : Code → Type 0
ArePartsFit code = All IsSpelled code.symbols × All (IsFunctionFit (length code.symbols)) code.functions × All (IsDatumFit (length code.symbols)) code.datums

-- all parts, no spelling and no defined symbol twice
pub record IsFit (code : Code) : Type 0 where
  pub symbols : All IsSpelled code.symbols
  pub functions : All (IsFunctionFit (length code.symbols)) code.functions
  pub datums : All (IsDatumFit (length code.symbols)) code.datums
  pub own : IsOnce (map spelling_of code.symbols)
  pub once : IsOnce (defined code.functions code.datums)
