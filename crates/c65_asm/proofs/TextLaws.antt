-- A code has its text whatever the numbers of its symbols.
use Rattle.std.proofs.Common.{◌≡◌, ℕ, ◌+◌, ◌<◌, List, [], ◌∷◌, ◌++◌, length, drop, get_or, append_assoc, map, codes, decimal, refl, sym, ap, ◌∙◌}
use Rattle.std.proofs.lemmas.List.{drop_more}
use Rattle.c65_code.specs.declared.line.Sym.{Sym}
use Rattle.c65_code.specs.declared.line.Operand.{Operand}
use Rattle.c65_code.specs.declared.line.Operand.TheVariants as operands
use Rattle.c65_code.specs.declared.line.Callee.{Callee}
use Rattle.c65_code.specs.declared.line.Callee.TheVariants as callees
use Rattle.c65_code.specs.declared.line.Line.{Line}
use Rattle.c65_code.specs.declared.line.Line.TheVariants as lines
use Rattle.c65_code.specs.declared.code.Code.{Code}
use Rattle.c65_code.specs.declared.code.Symbol.{Symbol}
use Rattle.c65_code.specs.declared.code.Datum.{Datum}
use Rattle.c65_code.specs.declared.code.DatumKind.{DatumKind}
use Rattle.c65_code.specs.declared.code.DatumKind.TheVariants.{Data, Const, Zero}
use Rattle.c65_code.specs.declared.code.DataCell.{DataCell}
use Rattle.c65_code.specs.declared.code.DataCell.TheVariants.{Byte, Address}
use Rattle.c65_code.specs.Segments.{Segment}
use Rattle.c65_asm.specs.Text.{mnemonic_of, before, behind, sym_text, place_text, operand_text, passed_text, set_text, callee_text, line_text, lines_text, body_text, function_with, functions_with, byte_start, byte_text, line_end, opened, cell_text, cells_text, datum_by, datums_text, head_text, text_with, text_of}
use Rattle.c65_asm.specs.Symbols.{symbols_of}
use Rattle.c65_asm.specs.Renumbered.{naming, naming_operand, naming_callee, naming_line, naming_lines, naming_function, naming_functions, naming_cells, naming_datum, naming_datums, names_of, renamed, renamed_operand, renamed_callee, renamed_line, renamed_function, renamed_cell, renamed_datum, renumbered}
use Rattle.c65_asm.proofs.NumberLaws.{Grows, grows_same, grows_on, grows_lines, grows_functions, grows_cells, grows_datums, named_now, named_later, renamed_text}

pub sym_same : (symbols : List Symbol) (final names : List (List ℕ)) (sym : Sym) → Grows (naming symbols sym names) final → sym_text (symbols_of final) (renamed symbols final sym) ≡ sym_text symbols sym
sym_same symbols final names sym g = renamed_text symbols final sym (named_later (naming symbols sym names) final (sym_text symbols sym) g (named_now names (sym_text symbols sym)))

operand_same : (symbols : List Symbol) (final names : List (List ℕ)) (o : Operand) → Grows (naming_operand symbols o names) final → operand_text (symbols_of final) (renamed_operand symbols final o) ≡ operand_text symbols o
operand_same symbols final names operands.Nothing g = refl
operand_same symbols final names (operands.Byte v) g = refl
operand_same symbols final names (operands.Low s offset) g = ap (λ t. codes "<" ++ (t ++ codes "+" ++ decimal offset)) (sym_same symbols final names s g)
operand_same symbols final names (operands.High s offset) g = ap (λ t. codes ">" ++ (t ++ codes "+" ++ decimal offset)) (sym_same symbols final names s g)
operand_same symbols final names (operands.Zero v) g = refl
operand_same symbols final names (operands.At s offset) g = ap (λ t. t ++ codes "+" ++ decimal offset) (sym_same symbols final names s g)
operand_same symbols final names (operands.To l) g = refl

callee_same : (symbols : List Symbol) (final names : List (List ℕ)) (c : Callee) → Grows (naming_callee symbols c names) final → callee_text (symbols_of final) (renamed_callee symbols final c) ≡ callee_text symbols c
callee_same symbols final names (callees.Routine r) g = refl
callee_same symbols final names (callees.Function f reads gives) g = ap (λ t. t ++ passed_text reads gives) (sym_same symbols final names f g)
callee_same symbols final names (callees.Pointer reads gives) g = refl

pub line_same : (symbols : List Symbol) (final names : List (List ℕ)) (line : Line) → Grows (naming_line symbols line names) final → line_text (symbols_of final) (renamed_line symbols final line) ≡ line_text symbols line
line_same symbols final names (lines.Label l) g = refl
line_same symbols final names (lines.Do op mode o) g = ap (λ t. codes "\t" ++ mnemonic_of op ++ before mode ++ t ++ behind mode ++ codes "\n") (operand_same symbols final names o g)
line_same symbols final names (lines.Call c) g = ap (λ t. codes "\tJSR " ++ t ++ codes "\n") (callee_same symbols final names c g)

lines_same : (symbols : List Symbol) (final : List (List ℕ)) (ls : List Line) (names : List (List ℕ)) → Grows (naming_lines symbols ls names) final → lines_text (symbols_of final) (map (renamed_line symbols final) ls) ≡ lines_text symbols ls
lines_same symbols final [] names g = refl
lines_same symbols final (line ∷ ls) names g =
    let next = naming_line symbols line names in
    ap (λ t. t ++ lines_text (symbols_of final) (map (renamed_line symbols final) ls)) (line_same symbols final names line (grows_on next (naming_lines symbols ls next) final (grows_lines symbols ls next) g))
    ∙ ap (λ t. line_text symbols line ++ t) (lines_same symbols final ls next g)

-- what is put of a function's lines does not depend on the numbers of their symbols
abbrev pub IsSame : (List Symbol → Segment → List ℕ) → Type 0
IsSame body = (symbols : List Symbol) (final names : List (List ℕ)) (s : Segment) → Grows (naming_lines symbols s.lines names) final → body (symbols_of final) (record { lines = map (renamed_line symbols final) s.lines; out = s.out }) ≡ body symbols s

function_same : (body : List Symbol → Segment → List ℕ) → IsSame body → (symbols : List Symbol) (final names : List (List ℕ)) (f : Sym × Segment) → Grows (naming_function symbols f names) final → function_with body (symbols_of final) (renamed_function symbols final f) ≡ function_with body symbols f
function_same body h symbols final names f g =
    let named = naming symbols f.0 names in
    ap (λ t. codes ".code " ++ t ++ codes "," ++ set_text f.1.out ++ codes "\n" ++ body (symbols_of final) (renamed_function symbols final f).1 ++ codes ".end\n") (sym_same symbols final names f.0 (grows_on named (naming_function symbols f names) final (grows_lines symbols f.1.lines named) g))
    ∙ ap (λ t. codes ".code " ++ sym_text symbols f.0 ++ codes "," ++ set_text f.1.out ++ codes "\n" ++ t ++ codes ".end\n") (h symbols final named f.1 g)

functions_same : (body : List Symbol → Segment → List ℕ) → IsSame body → (symbols : List Symbol) (final : List (List ℕ)) (fs : List (Sym × Segment)) (names : List (List ℕ)) → Grows (naming_functions symbols fs names) final → functions_with body (symbols_of final) (map (renamed_function symbols final) fs) ≡ functions_with body symbols fs
functions_same body h symbols final [] names g = refl
functions_same body h symbols final (f ∷ fs) names g =
    let next = naming_function symbols f names in
    ap (λ t. t ++ functions_with body (symbols_of final) (map (renamed_function symbols final) fs)) (function_same body h symbols final names f (grows_on next (naming_functions symbols fs next) final (grows_functions symbols fs next) g))
    ∙ ap (λ t. function_with body symbols f ++ t) (functions_same body h symbols final fs next g)

cells_same : (symbols : List Symbol) (final : List (List ℕ)) (cs : List DataCell) (count : ℕ) (names : List (List ℕ)) → Grows (naming_cells symbols cs names) final → cells_text (symbols_of final) count (map (renamed_cell symbols final) cs) ≡ cells_text symbols count cs
cells_same symbols final [] count names g = refl
cells_same symbols final (Byte v ∷ cs) count names g = ap (λ t. (byte_start count ++ byte_text v) ++ t) (cells_same symbols final cs (opened count (Byte v)) names g)
cells_same symbols final (Address s offset ∷ cs) count names g =
    let next = naming symbols s names in
    ap (λ t. (line_end count ++ codes ".addr " ++ (t ++ codes "+" ++ decimal offset) ++ codes "\n") ++ cells_text (symbols_of final) 0 (map (renamed_cell symbols final) cs)) (sym_same symbols final names s (grows_on next (naming_cells symbols cs next) final (grows_cells symbols cs next) g))
    ∙ ap (λ t. (line_end count ++ codes ".addr " ++ place_text symbols s offset ++ codes "\n") ++ t) (cells_same symbols final cs 0 next g)

datum_same : (symbols : List Symbol) (final names : List (List ℕ)) (kind : DatumKind) (d : Datum) → Grows (naming_datum symbols d names) final → datum_by (symbols_of final) kind (renamed_datum symbols final d) ≡ datum_by symbols kind d
datum_same symbols final names kind d g = by_kind kind
  where
    own : sym_text (symbols_of final) (renamed symbols final d.sym) ≡ sym_text symbols d.sym
    own = sym_same symbols final names d.sym (grows_on (naming symbols d.sym names) (naming_datum symbols d names) final (grows_cells symbols d.cells (naming symbols d.sym names)) g)

    cells : cells_text (symbols_of final) 0 (map (renamed_cell symbols final) d.cells) ≡ cells_text symbols 0 d.cells
    cells = cells_same symbols final d.cells 0 (naming symbols d.sym names) g

    headed : (word : List ℕ) → word ++ sym_text (symbols_of final) (renamed symbols final d.sym) ++ codes "\n" ++ cells_text (symbols_of final) 0 (map (renamed_cell symbols final) d.cells) ++ codes ".end\n" ≡ word ++ sym_text symbols d.sym ++ codes "\n" ++ cells_text symbols 0 d.cells ++ codes ".end\n"
    headed word =
        ap (λ t. word ++ t ++ codes "\n" ++ cells_text (symbols_of final) 0 (map (renamed_cell symbols final) d.cells) ++ codes ".end\n") own
        ∙ ap (λ t. word ++ sym_text symbols d.sym ++ codes "\n" ++ t ++ codes ".end\n") cells

    by_kind : (kind : DatumKind) → datum_by (symbols_of final) kind (renamed_datum symbols final d) ≡ datum_by symbols kind d
    by_kind Data = headed (codes ".data ")
    by_kind Const = headed (codes ".const ")
    by_kind Zero = ap (λ t. codes ".zero " ++ t ++ codes "," ++ decimal d.zeros ++ codes "\n") own

pub datums_same : (symbols : List Symbol) (final : List (List ℕ)) (ds : List Datum) (names : List (List ℕ)) → Grows (naming_datums symbols ds names) final → datums_text (symbols_of final) (map (renamed_datum symbols final) ds) ≡ datums_text symbols ds
datums_same symbols final [] names g = refl
datums_same symbols final (d ∷ ds) names g =
    let next = naming_datum symbols d names in
    ap (λ t. t ++ datums_text (symbols_of final) (map (renamed_datum symbols final) ds)) (datum_same symbols final names d.kind d (grows_on next (naming_datums symbols ds next) final (grows_datums symbols ds next) g))
    ∙ ap (λ t. datum_by symbols d.kind d ++ t) (datums_same symbols final ds next g)

pub same_by : (body : List Symbol → Segment → List ℕ) → IsSame body → (code : Code) → text_with body (renumbered code) ≡ text_with body code
same_by body h code =
    let final = names_of code in
    let named = naming_functions code.symbols code.functions [] in
    ap (λ t. head_text code.main_args ++ t ++ datums_text (symbols_of final) (map (renamed_datum code.symbols final) code.datums)) (functions_same body h code.symbols final code.functions [] (grows_datums code.symbols code.datums named))
    ∙ ap (λ t. head_text code.main_args ++ functions_with body code.symbols code.functions ++ t) (datums_same code.symbols final code.datums named (grows_same final))

pub text_same : (code : Code) → text_of (renumbered code) ≡ text_of code
text_same code = same_by body_text (λ symbols final names s g. lines_same symbols final s.lines names g) code

-- one cell more of those that are written
pub cells_more : (symbols : List Symbol) (out next : List ℕ) (cs : List DataCell) (count after at : ℕ) (cell : DataCell) → at < length cs
    → next ≡ out ++ cell_text symbols count (get_or cs at cell) → after ≡ opened count (get_or cs at cell)
    → next ++ cells_text symbols after (drop (at + 1) cs) ≡ out ++ cells_text symbols count (drop at cs)
cells_more symbols out next cs count after at cell a e o =
    let now = get_or cs at cell in
    let more = cells_text symbols (opened count now) (drop (at + 1) cs) in
    ap (λ n. next ++ cells_text symbols n (drop (at + 1) cs)) o
    ∙ ap (λ t. t ++ more) e
    ∙ append_assoc out (cell_text symbols count now) more
    ∙ ap (λ (l : List DataCell). out ++ cells_text symbols count l) (sym (drop_more cs at cell a))
