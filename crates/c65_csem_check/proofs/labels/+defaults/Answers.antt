use Rattle.std.proofs.Common.{◌∙◌, ap, ℕ, ◌+◌, min}
use Rattle.c65_csem_check.proofs.CodeLaws.{block_defaults, seen_end}
use Rattle.c65_csem_check.proofs.labels.+defaults.Goals as goal

pub defaults_after-returns-in-Block : goal.defaults_after-returns-in-Block
defaults_after-returns-in-Block t c =
    c.defaults_in.ensures ∙ ap (λ (n : ℕ). min (c.args.before + n) 2) (block_defaults c.args.stmt.now c.in-Block.field-0 c.in-Block.stmts c.deref.result.now c.in-Block.is c.deref.ensures.value)

pub defaults_in-returns : goal.defaults_in-returns
defaults_in-returns t c =
    seen_end c.args.stmts.now c.loop-stmt.stmt-index c.loop-stmt.seen c.loop-stmt-test.false c.loop-stmt.invariant.small ∙ c.loop-stmt.invariant.so_far
