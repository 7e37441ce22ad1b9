use Rattle.std.proofs.Common.{◌≡◌, Option, IfOk, sym, ap, ◌∙◌, subst}
use Rattle.c65_asm.specs.declared.row.Row.{Row}
use Rattle.c65_asm.specs.Rows.{told}
use Rattle.c65_asm.specs.Read.{seen, on_if}
use Rattle.c65_asm.specs.Reading.{Reading, put_row, in_function}
use Rattle.c65_asm.proofs.reader.Reader.in_function.Goals as goal

pub returns-in-Do : goal.returns-in-Do
returns-in-Do c =
    let r = seen c.args.self.now in
    let same : put_row r c.args.opened (told c.args.row) ≡ in_function r c.args.opened (told c.args.row) =
    ap (λ (row : Row). put_row r c.args.opened (told row)) c.in-Do.is ∙ sym (ap (λ (row : Row). in_function r c.args.opened (told row)) c.in-Do.is) in
    subst (λ (x : Option Reading). IfOk c.put_row-in-Do.result (λ is_on. on_if is_on (seen c.put_row-in-Do.new.self) ≡ x)) same c.put_row-in-Do.ensures
