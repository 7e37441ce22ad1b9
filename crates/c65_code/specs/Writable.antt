-- Which codes the assembly text can write (docs/MACHINE.md, "Symbols").
use Rattle.std.specs.Prelude.{◌≡◌, ◌↔◌, ℕ, ◌<◌, ◌≤◌, ◌⊎◌, ◌&&◌, ◌||◌, ◌==◌, Bool, false, IsTrue, nat_le, List, ◌∷◌, Some, slice_get, length, decimal}
use Rattle.std.specs.List.{list_all}
use Rattle.c65_mach.specs.declared.rows.Mode.{Mode}
use Rattle.c65_mach.specs.declared.rows.Mode.TheVariants.{Indirect}
use Rattle.c65_code.specs.declared.parts.RegSet.{RegSet}
use Rattle.c65_code.specs.declared.line.Sym.{Sym}
use Rattle.c65_code.specs.declared.line.Operand.{Operand}
use Rattle.c65_code.specs.declared.line.Operand.TheVariants as operands
use Rattle.c65_code.specs.declared.line.Callee.{Callee}
use Rattle.c65_code.specs.declared.line.Callee.TheVariants as callees
use Rattle.c65_code.specs.declared.line.Line.{Line}
use Rattle.c65_code.specs.declared.line.Line.TheVariants as lines
use Rattle.c65_code.specs.declared.code.Code.{Code}
use Rattle.c65_code.specs.declared.code.Symbol.{Symbol}
use Rattle.c65_code.specs.declared.code.Datum.{Datum}
use Rattle.c65_code.specs.declared.code.DatumKind.{DatumKind}
use Rattle.c65_code.specs.declared.code.DatumKind.TheVariants.{Zero}
use Rattle.c65_code.specs.declared.code.DataCell.{DataCell}
use Rattle.c65_code.specs.declared.code.DataCell.TheVariants.{Byte, Address}
use Rattle.c65_code.specs.Parts.{minus_of, no_parts}
use Rattle.c65_code.specs.Effects.{ax, only_y, sreg_bytes}
use Rattle.c65_code.specs.Parts.{union_of}
use Rattle.c65_code.specs.Segments.{Segment}

abbrev pub is_between : ℕ → ℕ → ℕ → Bool
is_between low high byte = nat_le low byte && nat_le byte high

-- a letter or an underscore, and these with digits (C90 6.1.2)
abbrev pub is_letter : ℕ → Bool
is_letter byte = is_between 65 90 byte || (is_between 97 122 byte || (byte == 95))

abbrev pub is_letter_or_digit : ℕ → Bool
is_letter_or_digit byte = is_letter byte || is_between 48 57 byte

-- `_NAME`, for an external name
abbrev pub is_external : List ℕ → Bool
is_external (underscore ∷ first ∷ rest) = (underscore == 95) && (is_letter first && list_all is_letter_or_digit rest)
is_external _ = false

-- `sN` and `qN`, for static objects and functions and for literals
abbrev pub IsNumbered : ℕ → List ℕ → Type 0
IsNumbered letter spelling = (n : ℕ) × (n < 4294967296) × (spelling ≡ letter ∷ decimal n)

abbrev pub IsSpelling : List ℕ → Type 0
IsSpelling spelling = IsTrue (is_external spelling) ⊎ (IsNumbered 115 spelling ⊎ IsNumbered 113 spelling)

-- sets of A, X, Y and the two bytes of sreg together
pub data IsLetters : RegSet → Type 0 where
  without_sreg : {s : RegSet} → minus_of s (union_of ax only_y) ≡ no_parts → IsLetters s
  with_sreg : {s : RegSet} → minus_of s (union_of ax only_y) ≡ sreg_bytes → IsLetters s

abbrev pub AreCallLetters : Callee → Type 0
AreCallLetters (callees.Routine r) = Unit {0}
AreCallLetters (callees.Function f reads gives) = IsLetters reads × IsLetters gives
AreCallLetters (callees.Pointer reads gives) = IsLetters reads × IsLetters gives

-- the symbol is one of so many
abbrev pub IsKnown : ℕ → Sym → Type 0
IsKnown count sym = sym.0 < count

abbrev pub IsOperandKnown : ℕ → Operand → Type 0
IsOperandKnown count (operands.Low sym offset) = IsKnown count sym
IsOperandKnown count (operands.High sym offset) = IsKnown count sym
IsOperandKnown count (operands.At sym offset) = IsKnown count sym
IsOperandKnown count _ = Unit {0}

abbrev pub IsCalleeKnown : ℕ → Callee → Type 0
IsCalleeKnown count (callees.Function f reads gives) = IsKnown count f
IsCalleeKnown count _ = Unit {0}

abbrev pub IsDirect : Mode → Type 0
IsDirect Indirect = ⊥
IsDirect _ = Unit {0}

abbrev pub IsLineWritable : ℕ → Line → Type 0
IsLineWritable count (lines.Label l) = Unit {0}
IsLineWritable count (lines.Do op mode operand) = IsDirect mode × IsOperandKnown count operand
IsLineWritable count (lines.Call callee) = IsCalleeKnown count callee × AreCallLetters callee

abbrev pub IsCellKnown : ℕ → DataCell → Type 0
IsCellKnown count (Byte v) = Unit {0}
IsCellKnown count (Address sym offset) = IsKnown count sym

-- zero data have no cells, other data have cells alone
abbrev pub IsShaped : DatumKind → ℕ → ℕ → Type 0
IsShaped Zero cells blank = cells ≡ 0
IsShaped _ cells blank = (1 ≤ cells) × (blank ≡ 0)

pub record IsWritable (code : Code) : Type 0 where
  pub spelled : (i : ℕ) (symbol : Symbol) → slice_get code.symbols i ≡ Some symbol → IsSpelling symbol.spelling
  pub marked : (i : ℕ) (symbol : Symbol) → slice_get code.symbols i ≡ Some symbol → IsTrue symbol.literal ↔ IsNumbered 113 symbol.spelling
  pub own_spelling : (i j : ℕ) (a b : Symbol) → slice_get code.symbols i ≡ Some a → slice_get code.symbols j ≡ Some b → a.spelling ≡ b.spelling → i ≡ j
  pub function_known : (i : ℕ) (f : Sym × Segment) → slice_get code.functions i ≡ Some f → IsKnown (length code.symbols) f.0
  pub datum_known : (i : ℕ) (datum : Datum) → slice_get code.datums i ≡ Some datum → IsKnown (length code.symbols) datum.sym
  pub own_function : (i j : ℕ) (f g : Sym × Segment) → slice_get code.functions i ≡ Some f → slice_get code.functions j ≡ Some g → f.0.0 ≡ g.0.0 → i ≡ j
  pub own_datum : (i j : ℕ) (d e : Datum) → slice_get code.datums i ≡ Some d → slice_get code.datums j ≡ Some e → d.sym.0 ≡ e.sym.0 → i ≡ j
  pub apart : (i j : ℕ) (f : Sym × Segment) (datum : Datum) → slice_get code.functions i ≡ Some f → slice_get code.datums j ≡ Some datum → f.0.0 ≡ datum.sym.0 → ⊥
  pub gives : (i : ℕ) (f : Sym × Segment) → slice_get code.functions i ≡ Some f → IsLetters f.1.out
  pub line : (i k : ℕ) (f : Sym × Segment) (l : Line) → slice_get code.functions i ≡ Some f → slice_get f.1.lines k ≡ Some l → IsLineWritable (length code.symbols) l
  pub cell : (i k : ℕ) (datum : Datum) (c : DataCell) → slice_get code.datums i ≡ Some datum → slice_get datum.cells k ≡ Some c → IsCellKnown (length code.symbols) c
  pub shaped : (i : ℕ) (datum : Datum) → slice_get code.datums i ≡ Some datum → IsShaped datum.kind (length datum.cells) datum.zeros
