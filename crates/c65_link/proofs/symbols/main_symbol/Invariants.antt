use Rattle.std.proofs.Common.{◌≡◌, drop}
use Rattle.c65_link.specs.Symbols.{main_in}
use Rattle.c65_link.proofs.symbols.main_symbol.Given as goal

abbrev pub invariant-loop-at : goal.invariant-loop-at
invariant-loop-at l = main_in (drop l.at l.symbols) l.at ≡ main_in l.symbols 0
