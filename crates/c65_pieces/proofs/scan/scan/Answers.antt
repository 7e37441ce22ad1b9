use Rattle.std.proofs.Common.{◌++◌, List, sym, ap, subst, inr, Result, Ok, Err, OnErr}
use Rattle.c65_lex.specs.Cells.{Cell, bytes}
use Rattle.c65_pieces.specs.Settled.{ahead, cell_of}
use Rattle.c65_lex.specs.Spellings.{IsToken}
use Rattle.c65_pieces.specs.Scanned.{opening}
use Rattle.c65_lex.specs.Next.{first_line}
use Rattle.c65_lex.proofs.Longest.{Found}
use Rattle.c65_lex.proofs.Tokens.{token_here, needs}
use Rattle.c65_pieces.proofs.scan.scan.Goals as goal

on_err : {T E : Type 0} → (r : Result T E) (P : Type 0) → P → OnErr r P
on_err (Ok x) P p = tt
on_err (Err e) P p = p

pub returns-in_default-2 : goal.returns-in_default-2
returns-in_default-2 c =
    let s = c.in-Here.ensures in
    let cells : List Cell = ahead c.args.lines.now c.in-Here.place in
    let t : IsToken c.args.header (bytes cells) c.token_at-kind.result.0 c.token_at-kind.result.1 =
    subst (λ (x : Found). IsToken c.args.header (bytes cells) x.0 x.1) (sym c.token_at-kind.ensures) (token_here c.args.header cells (cell_of c.in-Some.first) (ahead c.args.lines.now c.in-Some.first.rest) c.in-Some.ensures s.2) in
    record { next = record { blanks = s.0; cells = cells; behind = s.1; stands = inr (s.2, c.token_at-kind.result.0, c.token_at-kind.result.1, t, rw c.in_default-2.is at c.in_ok-spelling.ensures) }; memory = tt }

pub returns : goal.returns
returns c =
    let s = c.in-Here.ensures in
    let cells : List Cell = ahead c.args.lines.now c.in-Here.place in
    let t : IsToken c.args.header (bytes cells) c.token_at-kind.result.0 c.token_at-kind.result.1 =
    subst (λ (x : Found). IsToken c.args.header (bytes cells) x.0 x.1) (sym c.token_at-kind.ensures) (token_here c.args.header cells (cell_of c.in-Some.first) (ahead c.args.lines.now c.in-Some.first.rest) c.in-Some.ensures s.2) in
    let k = rw c.in-Some-2.is at c.in_ok-spelling.ensures in
    record { next = record { blanks = s.0; cells = cells; behind = s.1; stands = (s.2, s.3, record { size = c.token_at-kind.result.1; is_token = t; not_long = k.0; spelling_is = k.1; line_is = sym (ap first_line c.in-Some.ensures); rest_is = k.2 }) }; memory = tt }

pub returns-in_err-spelling-clause-memory : goal.returns-in_err-spelling-clause-memory
returns-in_err-spelling-clause-memory c =
    let s = c.in-Here.ensures in
    let cells : List Cell = ahead c.args.lines.now c.in-Here.place in
    let t : IsToken c.args.header (bytes cells) c.token_at-kind.result.0 c.token_at-kind.result.1 =
    subst (λ (x : Found). IsToken c.args.header (bytes cells) x.0 x.1) (sym c.token_at-kind.ensures) (token_here c.args.header cells (cell_of c.in-Some.first) (ahead c.args.lines.now c.in-Some.first.rest) c.in-Some.ensures s.2) in
    on_err c.from_residual.result _ (needs c.args.header (opening c.args.comment ++ ahead c.args.lines.now c.args.from) cells s.0 c.token_at-kind.result.0 c.token_at-kind.result.1 s.1 s.2 t)
