use Rattle.std.proofs.Common.{arith}
use Rattle.std.proofs.lemmas.Result.{err_from_is_err_and}
use Rattle.c65_optlib.proofs.Walked.{first_refused, second_refused, both_walked}
use Rattle.c65_optlib.proofs.inline.inline_calls.Goals as goal

pub returns-in_err-opened : goal.returns-in_err-opened
returns-in_err-opened c =
    let p = err_from_is_err_and c.from_residual.result c.from_residual.ensures.1 in
    rw (p.1, p.2) (first_refused _ _ _ _ _ _ c.in_err-opened.ensures)

pub returns-in_err-known : goal.returns-in_err-known
returns-in_err-known c =
    let p = err_from_is_err_and c.from_residual-in_err-known.result c.from_residual-in_err-known.ensures.1 in
    rw (p.1, p.2) (second_refused _ _ _ _ _ _ _ _ c.in_ok-opened.ensures c.in_err-known.ensures)

pub returns : goal.returns
returns c = both_walked _ _ _ _ _ _ _ _ _ (omega (arith, c.saturating_add.ensures)) c.in_ok-opened.ensures c.in_ok-known.ensures
