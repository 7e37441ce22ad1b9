use Rattle.std.proofs.Common.{◌≡◌, drop, Some}
use Rattle.c65_ppexpr.specs.Expressions.{run, value_of}
use Rattle.c65_ppexpr.specs.Readings.{state_of}
use Rattle.c65_ppexpr.proofs.expression.evaluate.Given as goal

abbrev pub invariant-loop-symbol : goal.invariant-loop-symbol
invariant-loop-symbol l = run (Some (state_of l.reading)) (drop l.symbol-index l.symbols) ≡ value_of l.symbols
