-- The numbers of symbols as a text names more of them.
use Rattle.std.proofs.Common.{◌≡◌, ℕ, List, [], ◌∷◌, ◌++◌, Option, Some, None, option_map, length, refl, sym, ap, ◌∙◌}
use Rattle.std.specs.Prelude.{slice_get, unwrap_or}
use Rattle.std.proofs.lemmas.Option.{slice_get-map}
use Rattle.c65_base.specs.Names.{name_of, with_spelling}
use Rattle.c65_base.proofs.NameLaws.{name_of-at, has_name, with_known, with_new, name_of-with_spelling}
use Rattle.c65_code.specs.declared.line.Sym.{Sym}
use Rattle.c65_code.specs.declared.line.Operand.{Operand}
use Rattle.c65_code.specs.declared.line.Operand.TheVariants as operands
use Rattle.c65_code.specs.declared.line.Callee.{Callee}
use Rattle.c65_code.specs.declared.line.Callee.TheVariants as callees
use Rattle.c65_code.specs.declared.line.Line.{Line}
use Rattle.c65_code.specs.declared.line.Line.TheVariants as lines
use Rattle.c65_code.specs.declared.code.Symbol.{Symbol}
use Rattle.c65_code.specs.declared.code.Datum.{Datum}
use Rattle.c65_code.specs.declared.code.DataCell.{DataCell}
use Rattle.c65_code.specs.declared.code.DataCell.TheVariants.{Byte, Address}
use Rattle.c65_code.specs.Segments.{Segment}
use Rattle.c65_asm.specs.Text.{sym_text, spelling_of}
use Rattle.c65_asm.specs.Symbols.{symbol_in, symbols_of, symbol_of}
use Rattle.c65_asm.specs.Renumbered.{naming, naming_operand, naming_callee, naming_line, naming_lines, naming_function, naming_functions, naming_cell, naming_cells, naming_datum, naming_datums, renamed, renamed_operand, renamed_callee, renamed_line}

-- each spelling keeps its number
abbrev pub Grows : List (List ℕ) → List (List ℕ) → Type 0
Grows names more = (s : List ℕ) (i : ℕ) → name_of names s ≡ Some i → name_of more s ≡ Some i

pub grows_same : (names : List (List ℕ)) → Grows names names
grows_same names s i h = h

pub grows_on : (a b c : List (List ℕ)) → Grows a b → Grows b c → Grows a c
grows_on a b c h g s i e = g s i (h s i e)

pub grows_naming : (symbols : List Symbol) (sym : Sym) (names : List (List ℕ)) → Grows names (naming symbols sym names)
grows_naming symbols sym names s i h = name_of-with_spelling names s (sym_text symbols sym) i h

grows_operand : (symbols : List Symbol) (o : Operand) (names : List (List ℕ)) → Grows names (naming_operand symbols o names)
grows_operand symbols (operands.Low sym offset) names = grows_naming symbols sym names
grows_operand symbols (operands.High sym offset) names = grows_naming symbols sym names
grows_operand symbols (operands.At sym offset) names = grows_naming symbols sym names
grows_operand symbols operands.Nothing names = grows_same names
grows_operand symbols (operands.Byte v) names = grows_same names
grows_operand symbols (operands.Zero v) names = grows_same names
grows_operand symbols (operands.To l) names = grows_same names

grows_callee : (symbols : List Symbol) (c : Callee) (names : List (List ℕ)) → Grows names (naming_callee symbols c names)
grows_callee symbols (callees.Routine r) names = grows_same names
grows_callee symbols (callees.Function f reads gives) names = grows_naming symbols f names
grows_callee symbols (callees.Pointer reads gives) names = grows_same names

pub grows_line : (symbols : List Symbol) (line : Line) (names : List (List ℕ)) → Grows names (naming_line symbols line names)
grows_line symbols (lines.Label l) names = grows_same names
grows_line symbols (lines.Do op mode o) names = grows_operand symbols o names
grows_line symbols (lines.Call c) names = grows_callee symbols c names

pub grows_lines : (symbols : List Symbol) (ls : List Line) (names : List (List ℕ)) → Grows names (naming_lines symbols ls names)
grows_lines symbols [] names = grows_same names
grows_lines symbols (l ∷ ls) names = grows_on names (naming_line symbols l names) (naming_lines symbols ls (naming_line symbols l names)) (grows_line symbols l names) (grows_lines symbols ls (naming_line symbols l names))

pub grows_function : (symbols : List Symbol) (f : Sym × Segment) (names : List (List ℕ)) → Grows names (naming_function symbols f names)
grows_function symbols f names = grows_on names (naming symbols f.0 names) (naming_function symbols f names) (grows_naming symbols f.0 names) (grows_lines symbols f.1.lines (naming symbols f.0 names))

pub grows_functions : (symbols : List Symbol) (fs : List (Sym × Segment)) (names : List (List ℕ)) → Grows names (naming_functions symbols fs names)
grows_functions symbols [] names = grows_same names
grows_functions symbols (f ∷ fs) names = grows_on names (naming_function symbols f names) (naming_functions symbols fs (naming_function symbols f names)) (grows_function symbols f names) (grows_functions symbols fs (naming_function symbols f names))

pub grows_cell : (symbols : List Symbol) (c : DataCell) (names : List (List ℕ)) → Grows names (naming_cell symbols c names)
grows_cell symbols (Byte v) names = grows_same names
grows_cell symbols (Address sym offset) names = grows_naming symbols sym names

pub grows_cells : (symbols : List Symbol) (cs : List DataCell) (names : List (List ℕ)) → Grows names (naming_cells symbols cs names)
grows_cells symbols [] names = grows_same names
grows_cells symbols (c ∷ cs) names = grows_on names (naming_cell symbols c names) (naming_cells symbols cs (naming_cell symbols c names)) (grows_cell symbols c names) (grows_cells symbols cs (naming_cell symbols c names))

pub grows_datum : (symbols : List Symbol) (d : Datum) (names : List (List ℕ)) → Grows names (naming_datum symbols d names)
grows_datum symbols d names = grows_on names (naming symbols d.sym names) (naming_datum symbols d names) (grows_naming symbols d.sym names) (grows_cells symbols d.cells (naming symbols d.sym names))

pub grows_datums : (symbols : List Symbol) (ds : List Datum) (names : List (List ℕ)) → Grows names (naming_datums symbols ds names)
grows_datums symbols [] names = grows_same names
grows_datums symbols (d ∷ ds) names = grows_on names (naming_datum symbols d names) (naming_datums symbols ds (naming_datum symbols d names)) (grows_datum symbols d names) (grows_datums symbols ds (naming_datum symbols d names))

-- a spelling that was named has a number

abbrev pub IsNamed : List (List ℕ) → List ℕ → Type 0
IsNamed names s = (i : ℕ) × (name_of names s ≡ Some i)

last_one : (ns : List (List ℕ)) (s : List ℕ) → slice_get (ns ++ s ∷ []) (length ns) ≡ Some s
last_one [] s = refl
last_one (n ∷ ns) s = last_one ns s

pub named_now : (ns : List (List ℕ)) (s : List ℕ) → IsNamed (with_spelling ns s) s
named_now ns s = known (name_of ns s) refl
  where
    known : (n : Option ℕ) → name_of ns s ≡ n → IsNamed (with_spelling ns s) s
    known (Some i) e = (i, ap (λ ms. name_of ms s) (with_known ns s i e) ∙ e)
    known None e = let h = has_name (ns ++ s ∷ []) s (length ns) (last_one ns s) in (h.0, ap (λ ms. name_of ms s) (with_new ns s e) ∙ h.1)

pub named_later : (a b : List (List ℕ)) (s : List ℕ) → Grows a b → IsNamed a s → IsNamed b s
named_later a b s g h = (h.0, g s h.0 h.1)

pub same_symbol : (a b : List (List ℕ)) (s : List ℕ) → Grows a b → IsNamed a s → symbol_in a s ≡ symbol_in b s
same_symbol a b s g h = ap (λ (o : Option ℕ). let sym : Sym = record { 0 = unwrap_or o 0 } in sym) (h.1 ∙ sym (g s h.0 h.1))

-- a symbol named now has the number that it has in the end
pub renamed_now : (symbols : List Symbol) (sym : Sym) (names final : List (List ℕ)) → Grows (naming symbols sym names) final → renamed symbols (naming symbols sym names) sym ≡ renamed symbols final sym
renamed_now symbols sym names final g = same_symbol (naming symbols sym names) final (sym_text symbols sym) g (named_now names (sym_text symbols sym))

operand_now : (symbols : List Symbol) (o : Operand) (names final : List (List ℕ)) → Grows (naming_operand symbols o names) final → renamed_operand symbols (naming_operand symbols o names) o ≡ renamed_operand symbols final o
operand_now symbols (operands.Low sym offset) names final g = ap (λ s. operands.Low s offset) (renamed_now symbols sym names final g)
operand_now symbols (operands.High sym offset) names final g = ap (λ s. operands.High s offset) (renamed_now symbols sym names final g)
operand_now symbols (operands.At sym offset) names final g = ap (λ s. operands.At s offset) (renamed_now symbols sym names final g)
operand_now symbols operands.Nothing names final g = refl
operand_now symbols (operands.Byte v) names final g = refl
operand_now symbols (operands.Zero v) names final g = refl
operand_now symbols (operands.To l) names final g = refl

callee_now : (symbols : List Symbol) (c : Callee) (names final : List (List ℕ)) → Grows (naming_callee symbols c names) final → renamed_callee symbols (naming_callee symbols c names) c ≡ renamed_callee symbols final c
callee_now symbols (callees.Routine r) names final g = refl
callee_now symbols (callees.Function f reads gives) names final g = ap (λ s. callees.Function s reads gives) (renamed_now symbols f names final g)
callee_now symbols (callees.Pointer reads gives) names final g = refl

pub line_now : (symbols : List Symbol) (line : Line) (names final : List (List ℕ)) → Grows (naming_line symbols line names) final → renamed_line symbols (naming_line symbols line names) line ≡ renamed_line symbols final line
line_now symbols (lines.Label l) names final g = refl
line_now symbols (lines.Do op mode o) names final g = ap (lines.Do op mode) (operand_now symbols o names final g)
line_now symbols (lines.Call c) names final g = ap lines.Call (callee_now symbols c names final g)

-- the spelling of a symbol by its new number
pub renamed_text : (symbols : List Symbol) (final : List (List ℕ)) (sym : Sym) → IsNamed final (sym_text symbols sym) → sym_text (symbols_of final) (renamed symbols final sym) ≡ sym_text symbols sym
renamed_text symbols final sym h =
    let s = sym_text symbols sym in
    ap (λ (o : Option ℕ). sym_text (symbols_of final) (record { 0 = unwrap_or o 0 })) h.1
    ∙ spelled (slice_get (symbols_of final) h.0) (slice_get-map symbol_of final h.0 ∙ ap (option_map symbol_of) (name_of-at final s h.0 h.1))
  where
    spelled : (o : Option Symbol) → o ≡ Some (symbol_of (sym_text symbols sym)) → spelling_of o ≡ sym_text symbols sym
    spelled o e = ap spelling_of e
