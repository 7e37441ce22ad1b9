use Rattle.std.proofs.Common.{◌≡◌, reverse, vec_len}
use Rattle.c65_ppexpr.specs.Expressions
use Rattle.c65_ppexpr.proofs.expression.reduce.Given as goal

abbrev pub invariant-loop-frame : goal.invariant-loop-frame
invariant-loop-frame l = Expressions.reduced l.tightness l.value (reverse l.frames.items) ≡ Expressions.reduced l.tightness l.fn.value (reverse l.fn.frames.items)

abbrev pub decreases-loop-frame : goal.decreases-loop-frame
decreases-loop-frame l = vec_len l.frames
