-- What is known at lines does not depend on the numbers of their symbols, nor does the text with it.
use Rattle.std.proofs.Common.{◌≡◌, ℕ, ◌+◌, ◌<◌, arith, append_assoc, length, drop, get_or, List, [], ◌∷◌, ◌++◌, Option, Some, Bool, map, refl, sym, ap, ◌∙◌}
use Rattle.std.proofs.lemmas.List.{drop_more}
use Rattle.std.specs.Prelude.{if◌then◌else◌, ◌&&◌, ◌||◌, is_some, unwrap_or}
use Rattle.c65_mach.specs.declared.rows.Op.{Op}
use Rattle.c65_mach.specs.declared.rows.Op.TheVariants as ops
use Rattle.c65_mach.specs.declared.rows.Mode.{Mode}
use Rattle.c65_mach.specs.declared.rows.Mode.TheVariants.{Immediate, Accumulator, ZeroPage, ZeroPageX, ZeroPageY}
use Rattle.c65_mach.specs.Step.{Kind, Reads, Changes, Moves, kind_of}
use Rattle.c65_code.specs.declared.line.Sym.{Sym}
use Rattle.c65_code.specs.declared.line.Operand.{Operand}
use Rattle.c65_code.specs.declared.line.Operand.TheVariants as operands
use Rattle.c65_code.specs.declared.line.Callee.TheVariants as callees
use Rattle.c65_code.specs.declared.line.Line.{Line}
use Rattle.c65_code.specs.declared.line.Line.TheVariants as lines
use Rattle.c65_code.specs.declared.code.Code.{Code}
use Rattle.c65_code.specs.declared.code.Symbol.{Symbol}
use Rattle.c65_code.specs.Segments.{is_among}
use Rattle.c65_code.specs.Access.{register_sets}
use Rattle.c65_know.specs.declared.note.Note.{Note}
use Rattle.c65_know.specs.Notes.{nothing_known}
use Rattle.c65_know.specs.Rows.{operand_of, taken_in, is_constant, set_byte, set_parts, are_known, part_reads, worked, regs_of, with_results, written_by, writes, row_by, after_row}
use Rattle.c65_know.specs.Known.{Way, after_line, ways_of, met, note_at, known_from, known_of}
use Rattle.c65_asm.specs.Known.{note_text, noted_text, noted_lines_text, known_body_text, known_text_of}
use Rattle.c65_asm.specs.Symbols.{symbols_of}
use Rattle.c65_asm.specs.Renumbered.{naming_line, naming_lines, renamed, renamed_operand, renamed_line, renumbered}
use Rattle.c65_asm.proofs.NumberLaws.{Grows, grows_on, grows_lines}
use Rattle.c65_asm.proofs.FunctionLaws.{same_targets}
use Rattle.c65_asm.proofs.TextLaws.{IsSame, same_by, line_same}

-- what does not depend on the symbol of an operand is the same of the operand with another number
abbrev Hides : {A : Type 0} → (Operand → A) → Type 0
Hides f = (s t : Sym) (offset : ℕ) → (f (operands.Low s offset) ≡ f (operands.Low t offset)) × (f (operands.High s offset) ≡ f (operands.High t offset)) × (f (operands.At s offset) ≡ f (operands.At t offset))

hidden : {A : Type 0} (symbols : List Symbol) (names : List (List ℕ)) (f : Operand → A) → Hides f → (o : Operand) → f (renamed_operand symbols names o) ≡ f o
hidden symbols names f h operands.Nothing = refl
hidden symbols names f h (operands.Byte v) = refl
hidden symbols names f h (operands.Low s offset) = (h (renamed symbols names s) s offset).0
hidden symbols names f h (operands.High s offset) = (h (renamed symbols names s) s offset).1
hidden symbols names f h (operands.Zero i) = refl
hidden symbols names f h (operands.At s offset) = (h (renamed symbols names s) s offset).2
hidden symbols names f h (operands.To l) = refl

operand_hides : (mode : Mode) (n : Note) → Hides (λ o. operand_of mode o n)
operand_hides Immediate n = λ s t offset. (refl, refl, refl)
operand_hides Accumulator n = λ s t offset. (refl, refl, refl)
operand_hides ZeroPage n = λ s t offset. (refl, refl, refl)
operand_hides _ n = λ s t offset. (refl, refl, refl)

taken_hides : (kind : Kind) (mode : Mode) (n : Note) → Hides (λ o. taken_in kind mode o n)
taken_hides Reads mode n = operand_hides mode n
taken_hides Changes mode n = operand_hides mode n
taken_hides Moves mode n = λ s t offset. (refl, refl, refl)
taken_hides _ mode n = λ s t offset. (refl, refl, refl)

constant_hides : (op : Op) (mode : Mode) → Hides (λ o. is_constant op mode o)
constant_hides ops.And Immediate = λ s t offset. (refl, refl, refl)
constant_hides ops.And _ = λ s t offset. (refl, refl, refl)
constant_hides ops.Ora Immediate = λ s t offset. (refl, refl, refl)
constant_hides ops.Ora _ = λ s t offset. (refl, refl, refl)
constant_hides _ mode = λ s t offset. (refl, refl, refl)

set_hides : (mode : Mode) (v : Option ℕ) (n : Note) → Hides (λ o. set_byte mode o v n)
set_hides ZeroPage v n = λ s t offset. (refl, refl, refl)
set_hides ZeroPageX v n = λ s t offset. (refl, refl, refl)
set_hides ZeroPageY v n = λ s t offset. (refl, refl, refl)
set_hides _ v n = λ s t offset. (refl, refl, refl)

row_same : (symbols : List Symbol) (names : List (List ℕ)) (op : Op) (mode : Mode) (o : Operand) (n : Note) → after_row op mode (renamed_operand symbols names o) n ≡ after_row op mode o n
row_same symbols names op mode o n =
    let other = renamed_operand symbols names o in
    let v = taken_in (kind_of op) mode o n in
    let made : Bool → Note = λ k. set_parts (λ part. is_some v && (k || are_known n (part_reads op mode part))) (worked (kind_of op) op mode (unwrap_or v 0) (regs_of n)).0 (register_sets op mode) n in
    ap (λ w. row_by op mode other w n) (hidden symbols names (λ x. taken_in (kind_of op) mode x n) (taken_hides (kind_of op) mode n) o)
    ∙ ap (λ k. if writes op then set_byte mode other (written_by op mode v n) (made k) else made k) (hidden symbols names (λ x. is_constant op mode x) (constant_hides op mode) o)
    ∙ ap (λ m. if writes op then m else with_results op mode o v n) (hidden symbols names (λ x. set_byte mode x (written_by op mode v n) (with_results op mode o v n)) (set_hides mode (written_by op mode v n) (with_results op mode o v n)) o)

do_same : (symbols : List Symbol) (names : List (List ℕ)) (op : Op) (mode : Mode) (o : Operand) (n : Note) → after_line (lines.Do op mode (renamed_operand symbols names o)) n ≡ after_line (lines.Do op mode o) n
do_same symbols names ops.Jmp mode o n = refl
do_same symbols names ops.Rts mode o n = refl
do_same symbols names ops.Bcc mode o n = refl
do_same symbols names ops.Bcs mode o n = refl
do_same symbols names ops.Beq mode o n = refl
do_same symbols names ops.Bmi mode o n = refl
do_same symbols names ops.Bne mode o n = refl
do_same symbols names ops.Bpl mode o n = refl
do_same symbols names ops.Bra mode o n = refl
do_same symbols names ops.Bvc mode o n = refl
do_same symbols names ops.Bvs mode o n = refl
do_same symbols names op mode o n = ap Some (row_same symbols names op mode o n)

same_after : (symbols : List Symbol) (names : List (List ℕ)) (line : Line) (n : Note) → after_line (renamed_line symbols names line) n ≡ after_line line n
same_after symbols names (lines.Label l) n = refl
same_after symbols names (lines.Do op mode o) n = do_same symbols names op mode o n
same_after symbols names (lines.Call (callees.Routine r)) n = refl
same_after symbols names (lines.Call (callees.Function f reads gives)) n = refl
same_after symbols names (lines.Call (callees.Pointer reads gives)) n = refl

same_ways : (symbols : List Symbol) (names : List (List ℕ)) (line : Line) (n : Note) → ways_of (renamed_line symbols names line) n ≡ ways_of line n
same_ways symbols names (lines.Label l) n = refl
same_ways symbols names (lines.Do op mode o) n = hidden symbols names (λ x. ways_of (lines.Do op mode x) n) (λ s t offset. (refl, refl, refl)) o
same_ways symbols names (lines.Call c) n = refl

same_at : (symbols : List Symbol) (names : List (List ℕ)) (way : Option Note) (ways : List Way) (line : Line) (later : List Line) → note_at way ways (renamed_line symbols names line) (map (renamed_line symbols names) later) ≡ note_at way ways line later
same_at symbols names way ways (lines.Label l) later = ap (λ ts. if is_among ts l then nothing_known else unwrap_or (met l way ways) nothing_known) (same_targets symbols names later)
same_at symbols names way ways (lines.Do op mode o) later = refl
same_at symbols names way ways (lines.Call c) later = refl

same_from : (symbols : List Symbol) (names : List (List ℕ)) (ls : List Line) (way : Option Note) (ways : List Way) → known_from way ways (map (renamed_line symbols names) ls) ≡ known_from way ways ls
same_from symbols names [] way ways = refl
same_from symbols names (line ∷ later) way ways =
    let n = note_at way ways line later in
    let others = map (renamed_line symbols names) later in
    ap (λ (m : Note). m ∷ known_from (after_line (renamed_line symbols names line) m) (ways ++ ways_of (renamed_line symbols names line) m) others) (same_at symbols names way ways line later)
    ∙ ap (λ (w : Option Note). n ∷ known_from w (ways ++ ways_of (renamed_line symbols names line) n) others) (same_after symbols names line n)
    ∙ ap (λ (ws : List Way). n ∷ known_from (after_line line n) (ways ++ ws) others) (same_ways symbols names line n)
    ∙ ap (λ (notes : List Note). n ∷ notes) (same_from symbols names later (after_line line n) (ways ++ ways_of line n))

pub same_known : (symbols : List Symbol) (names : List (List ℕ)) (ls : List Line) → known_of (map (renamed_line symbols names) ls) ≡ known_of ls
same_known symbols names ls = same_from symbols names ls (Some nothing_known) []

-- the text

noted_same : (symbols : List Symbol) (final names : List (List ℕ)) (n : Note) (line : Line) → Grows (naming_line symbols line names) final → noted_text (symbols_of final) n (renamed_line symbols final line) ≡ noted_text symbols n line
noted_same symbols final names n (lines.Label l) g = refl
noted_same symbols final names n (lines.Do op mode o) g = ap (λ t. note_text n ++ t) (line_same symbols final names (lines.Do op mode o) g)
noted_same symbols final names n (lines.Call c) g = ap (λ t. note_text n ++ t) (line_same symbols final names (lines.Call c) g)

noted_lines_same : (symbols : List Symbol) (final : List (List ℕ)) (ls : List Line) (notes : List Note) (names : List (List ℕ)) → Grows (naming_lines symbols ls names) final → noted_lines_text (symbols_of final) (map (renamed_line symbols final) ls) notes ≡ noted_lines_text symbols ls notes
noted_lines_same symbols final [] notes names g = refl
noted_lines_same symbols final (line ∷ ls) [] names g = refl
noted_lines_same symbols final (line ∷ ls) (n ∷ notes) names g =
    let next = naming_line symbols line names in
    ap (λ t. t ++ noted_lines_text (symbols_of final) (map (renamed_line symbols final) ls) notes) (noted_same symbols final names n line (grows_on next (naming_lines symbols ls next) final (grows_lines symbols ls next) g))
    ∙ ap (λ t. noted_text symbols n line ++ t) (noted_lines_same symbols final ls notes next g)

body_same : IsSame known_body_text
body_same symbols final names s g =
    ap (λ notes. noted_lines_text (symbols_of final) (map (renamed_line symbols final) s.lines) notes) (same_known symbols final s.lines)
    ∙ noted_lines_same symbols final s.lines (known_of s.lines) names g

pub known_text_same : (code : Code) → known_text_of (renumbered code) ≡ known_text_of code
known_text_same code = same_by known_body_text body_same code

-- one line more of those that are written with their notes
pub noted_more : (symbols : List Symbol) (out next : List ℕ) (ls : List Line) (notes : List Note) (at : ℕ) (line : Line) (n : Note) → at < length ls → length ls ≡ length notes
    → next ≡ out ++ noted_text symbols (get_or notes at n) (get_or ls at line)
    → next ++ noted_lines_text symbols (drop (at + 1) ls) (drop (at + 1) notes) ≡ out ++ noted_lines_text symbols (drop at ls) (drop at notes)
noted_more symbols out next ls notes at line n a b e =
    let text = noted_text symbols (get_or notes at n) (get_or ls at line) in
    let more = noted_lines_text symbols (drop (at + 1) ls) (drop (at + 1) notes) in
    let first : noted_lines_text symbols (drop at ls) (drop at notes) ≡ text ++ more =
    ap (λ (l : List Line). noted_lines_text symbols l (drop at notes)) (drop_more ls at line a)
    ∙ ap (λ (m : List Note). noted_lines_text symbols (get_or ls at line ∷ drop (at + 1) ls) m) (drop_more notes at n (omega arith)) in
    ap (λ t. t ++ more) e ∙ append_assoc out text more ∙ ap (λ t. out ++ t) (sym first)
