use Rattle.std.proofs.Common.{◌≡◌, List, ℕ, Option, option_map, IfOk, sym, ap, ◌∙◌, subst}
use Rattle.c65_code.specs.declared.line.Line.{Line}
use Rattle.c65_asm.specs.Words.{and_read}
use Rattle.c65_asm.specs.Rows.{told}
use Rattle.c65_asm.specs.Read.{seen, on_if}
use Rattle.c65_asm.specs.Reading.{Reading, line_of, with_line, opened_function, put_row}
use Rattle.c65_asm.proofs.reader.Reader.put_row.Goals as goal

pub returns-in-Ok-Some : goal.returns-in-Ok-Some
returns-in-Ok-Some c =
    let r = seen c.args.self.now in
    let row = told c.args.row in
    let same : option_map (opened_function r c.line_of.new.table) (with_line c.args.opened c.in-Ok-Some.line) ≡ put_row r c.args.opened row =
    ap (λ (o : Option Line). option_map (opened_function r c.line_of.new.table) (and_read o (with_line c.args.opened))) (sym c.in-Ok-Some.field-0-is ∙ c.in-Ok-Some.ensures.line)
    ∙ ap (λ (names : List (List ℕ)). option_map (opened_function r names) (and_read (line_of names row) (with_line c.args.opened))) c.in-Ok-Some.ensures.table in
    subst (λ (x : Option Reading). IfOk c.put_code.result (λ is_on. on_if is_on (seen c.put_code.new.self) ≡ x)) same c.put_code.ensures
