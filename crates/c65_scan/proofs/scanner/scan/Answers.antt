use Rattle.std.proofs.Common.{◌≤◌, ◌<◌, length, ap, ◌∙◌, arith}
use Rattle.std.proofs.lemmas.Result.{err_from_is_err_and}
use Rattle.c65_scan.specs.Tokens.{value_of}
use Rattle.c65_scan.proofs.Joined.{step_fails, scan_ends}
use Rattle.c65_scan.proofs.scanner.scan.Goals as goal

pub returns-in_err-put : goal.returns-in_err-put
returns-in_err-put c =
    let p = err_from_is_err_and c.from_residual-in_err-put.result c.from_residual-in_err-put.ensures.1 in
    let h : c.loop-token.token-index < length c.as_slice-token-items.result.now = omega arith in
    let is = c.in_ok-value.ensures ∙ ap (value_of _ _) c.spelling_or_none-spelling.ensures in
    rw (p.1, p.2, ← c.as_slice-token-items.ensures) (step_fails c.args.names.now c.as_slice-token-items.result.now c.loop-token.token-index c.loop-token.scanned _ c.in_ok-value.value c.in_err-put.field-0.0 h is c.loop-token.invariant c.in_err-put.ensures)

pub returns : goal.returns
returns c =
    let h : length c.as_slice-token-items.result.now ≤ c.loop-token.token-index = omega arith in
    rw (← c.as_slice-token-items.ensures) (scan_ends c.args.names.now c.as_slice-token-items.result.now c.loop-token.token-index c.loop-token.scanned _ h c.loop-token.invariant c.in_ok-finish.ensures)
