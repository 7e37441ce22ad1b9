-- The numbers of a code that was read.
use Rattle.std.proofs.Common.{◌≡◌, ℕ, zero, suc, ◌<◌, List, [], ◌∷◌, map, Option, Some, None, slice_get, refl, ap, sym, ◌∙◌, subst, arith}
use Rattle.c65_code.specs.declared.line.Sym.{Sym}
use Rattle.c65_code.specs.declared.line.Operand.{Operand}
use Rattle.c65_code.specs.declared.line.Operand.TheVariants as operands
use Rattle.c65_code.specs.declared.line.Line.{Line}
use Rattle.c65_code.specs.declared.line.Line.TheVariants.{Label, Do, Call}
use Rattle.c65_code.specs.declared.code.Symbol.{Symbol}
use Rattle.c65_code.specs.declared.code.Datum.{Datum}
use Rattle.c65_code.specs.declared.code.DataCell.{DataCell}
use Rattle.c65_code.specs.declared.code.DataCell.TheVariants.{Byte, Address}
use Rattle.c65_code.specs.Segments.{Segment}
use Rattle.c65_asm.specs.Renumbered.{names_of, renamed_operand, renamed_line, renamed_function, renamed_cell, renamed_datum, renumbered, IsOperandOfTypes, IsLineOfTypes, IsCellOfTypes}
use Rattle.c65_link_law_follow.specs.Laid.{IsOperandNumber, IsLineNumber}
use Rattle.c65_link_law_bytes.specs.Laws.{ReadCodesHaveBytes}

-- what a list was mapped from
record Mapped {A B : Type 0} (f : A → B) (xs : List A) (i : ℕ) (y : B) : Type 0 where
  from : A
  there : slice_get xs i ≡ Some from
  is : f from ≡ y

some_same : {A : Type 0} (x y : A) → Some x ≡ Some y → x ≡ y
some_same x y h = cc

mapped : {A B : Type 0} (f : A → B) (xs : List A) (i : ℕ) (y : B) → slice_get (map f xs) i ≡ Some y → Mapped f xs i y
mapped {A} {B} f [] i y h = absurd (let z : ◌≡◌ {A = Option B} None (Some y) = h in cc)
mapped f (x ∷ xs) zero y h = record { from = x; there = refl; is = some_same (f x) y h }
mapped f (x ∷ xs) (suc i) y h = let m = mapped f xs i y h in record { from = m.from; there = m.there; is = m.is }

operand_number : (operand : Operand) (symbols : List Symbol) (names : List (List ℕ)) → IsOperandOfTypes operand → IsOperandNumber (renamed_operand symbols names operand)
operand_number operands.Nothing symbols names h = tt
operand_number (operands.Byte v) symbols names h = h
operand_number (operands.Low sym offset) symbols names h = tt
operand_number (operands.High sym offset) symbols names h = tt
operand_number (operands.Zero i) symbols names h = h
operand_number (operands.At sym offset) symbols names h = tt
operand_number (operands.To l) symbols names h = tt

line_number : (line : Line) (symbols : List Symbol) (names : List (List ℕ)) → IsLineOfTypes line → IsLineNumber (renamed_line symbols names line)
line_number (Label l) symbols names h = tt
line_number (Do op mode operand) symbols names h = operand_number operand symbols names h
line_number (Call callee) symbols names h = tt

cell_number : (cell : DataCell) (symbols : List Symbol) (names : List (List ℕ)) (v : ℕ) → IsCellOfTypes cell → renamed_cell symbols names cell ≡ Byte v → v < 256
cell_number (Byte w) symbols names v h e = (let same : w ≡ v = byte_same w v e in omega (arith, same, h))
  where
    byte_same : (w v : ℕ) → Byte w ≡ Byte v → w ≡ v
    byte_same w v e = cc
cell_number (Address sym offset) symbols names v h e = absurd cc

pub read_codes_have_bytes : ReadCodesHaveBytes
read_codes_have_bytes code types = (in_lines, in_cells)
  where
    names : List (List ℕ)
    names = names_of code

    in_lines : (k j : ℕ) (f : Sym × Segment) (line : Line) → slice_get (renumbered code).functions k ≡ Some f → slice_get f.1.lines j ≡ Some line → IsLineNumber line
    in_lines k j f line here there =
        let g = mapped (renamed_function code.symbols names) code.functions k f here in
        let l = mapped (renamed_line code.symbols names) g.from.1.lines j line (ap (λ (x : Sym × Segment). slice_get x.1.lines j) g.is ∙ there) in
        subst IsLineNumber l.is (line_number l.from code.symbols names (types.line k j g.from l.from g.there l.there))

    in_cells : (k j v : ℕ) (datum : Datum) → slice_get (renumbered code).datums k ≡ Some datum → slice_get datum.cells j ≡ Some (Byte v) → v < 256
    in_cells k j v datum here there =
        let d = mapped (renamed_datum code.symbols names) code.datums k datum here in
        let c = mapped (renamed_cell code.symbols names) d.from.cells j (Byte v) (ap (λ (x : Datum). slice_get x.cells j) d.is ∙ there) in
        cell_number c.from code.symbols names v (types.cell k j d.from c.from d.there c.there) c.is
