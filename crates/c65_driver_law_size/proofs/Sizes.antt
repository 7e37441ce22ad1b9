-- Rewriting makes a code no larger, and numbering its symbols anew keeps its size.
use Rattle.std.proofs.Common.{◌≡◌, ◌∙◌, ℕ, ◌+◌, ◌≤◌, Bool, true, false, List, [], ◌∷◌, map, refl, sym, ap, arith}
use Rattle.c65_base.specs.declared.options.Options.{Options}
use Rattle.c65_code.specs.declared.code.Code.{Code}
use Rattle.c65_code.specs.declared.code.Datum.{Datum}
use Rattle.c65_code.specs.declared.code.DataCell.{DataCell}
use Rattle.c65_code.specs.declared.code.DataCell.TheVariants.{Address, Byte}
use Rattle.c65_code.specs.declared.code.Symbol.{Symbol}
use Rattle.c65_code.specs.declared.line.Callee.{Callee}
use Rattle.c65_code.specs.declared.line.Callee.TheVariants as callees
use Rattle.c65_code.specs.declared.line.Line.{Line}
use Rattle.c65_code.specs.declared.line.Line.TheVariants.{Call, Do, Label}
use Rattle.c65_code.specs.declared.line.Sym.{Sym}
use Rattle.c65_code.specs.Placement.{cell_size, cells_size, size_of_datum}
use Rattle.c65_code.specs.Segments.{Segment}
use Rattle.c65_code.specs.Weights.{callee_size, line_size, lines_size, functions_size, extent_of}
use Rattle.c65_asm.specs.Renumbered.{renamed_callee, renamed_line, renamed_function, renamed_cell, renamed_datum, names_of, renumbered}
use Rattle.c65_gen_law_size.specs.Data.{datums_size}
use Rattle.c65_optimise.specs.Optimised.{AreRewritten, OptimisedIf, OptimisedBy}

-- ---- numbered anew

module _ (symbols : List Symbol) (names : List (List ℕ)) where
  callee_stays : (callee : Callee) → callee_size (renamed_callee symbols names callee) ≡ callee_size callee
  callee_stays (callees.Function f reads gives) = refl
  callee_stays (callees.Pointer reads gives) = refl
  callee_stays (callees.Routine r) = refl

  line_stays : (line : Line) → line_size (renamed_line symbols names line) ≡ line_size line
  line_stays (Label l) = refl
  line_stays (Do op mode operand) = refl
  line_stays (Call callee) = callee_stays callee

  lines_stay : (lines : List Line) → lines_size (map (renamed_line symbols names) lines) ≡ lines_size lines
  lines_stay [] = refl
  lines_stay (line ∷ lines) = omega (arith, line_stays line, lines_stay lines)

  functions_stay : (functions : List (Sym × Segment)) → functions_size (map (renamed_function symbols names) functions) ≡ functions_size functions
  functions_stay [] = refl
  functions_stay (f ∷ functions) = omega (arith, lines_stay f.1.lines, functions_stay functions)

  cell_stays : (cell : DataCell) → cell_size (renamed_cell symbols names cell) ≡ cell_size cell
  cell_stays (Byte v) = refl
  cell_stays (Address sym offset) = refl

  cells_stay : (cells : List DataCell) → cells_size (map (renamed_cell symbols names) cells) ≡ cells_size cells
  cells_stay [] = refl
  cells_stay (cell ∷ cells) = omega (arith, cell_stays cell, cells_stay cells)

  datums_stay : (datums : List Datum) → datums_size (map (renamed_datum symbols names) datums) ≡ datums_size datums
  datums_stay [] = refl
  datums_stay (datum ∷ datums) = omega (arith, cells_stay datum.cells, datums_stay datums)

-- what a code takes with its data
abbrev pub taken : Code → ℕ
taken code = extent_of code + datums_size code.datums

pub renumbered_takes : (code : Code) → taken (renumbered code) ≡ taken code
renumbered_takes code = omega (arith, functions_stay code.symbols (names_of code) code.functions, datums_stay code.symbols (names_of code) code.datums)

-- ---- rewritten

rewritten_most : (options : Options) (literals : List (Sym × List ℕ)) (old new : List (Sym × Segment)) → AreRewritten options literals old new → functions_size new ≤ functions_size old
rewritten_most options literals [] [] h = omega arith
rewritten_most options literals (f ∷ fs) (g ∷ gs) h = omega (arith, h.0.1.extent, rewritten_most options literals fs gs h.1)
rewritten_most options literals [] (g ∷ gs) h = absurd h
rewritten_most options literals (f ∷ fs) [] h = absurd h

optimised_most : (asked : Bool) (options : Options) (old new : Code) → OptimisedIf asked options old new → taken new ≤ taken old
optimised_most false options old new h = omega (arith, ap taken h)
optimised_most true options old new h = omega (arith, rewritten_most options _ old.functions new.functions h.functions, ap datums_size h.datums)

pub optimised_takes : (options : Options) (old new : Code) → OptimisedBy options old new → taken new ≤ taken old
optimised_takes options old new h = optimised_most options.optimise options old new h
