use Rattle.std.proofs.Common.{◌≡◌, [], drop, map}
use Rattle.c65_base.proofs.Keys.{texts}
use Rattle.c65_asm_fit.specs.Fit.{spelling_of}
use Rattle.c65_asm_fit.specs.Once.{comes_once, has_spelling}
use Rattle.c65_asm_fit.proofs.symbols.have_own_spelling.Given as goal

abbrev pub invariant-loop-symbol : goal.invariant-loop-symbol
invariant-loop-symbol l = comes_once has_spelling (texts l.seen.keys) (map spelling_of (drop l.symbol-index l.symbols)) ≡ comes_once has_spelling [] (map spelling_of l.symbols)
