use Rattle.std.proofs.Common.{◌≡◌, drop}
use Rattle.c65_ctype.specs.Views.{qtys_of}
use Rattle.c65_ctype.specs.Compatible.{all_stay}
use Rattle.c65_ctype.proofs.compat.all_stay.Given as goal

abbrev pub invariant-loop-q : goal.invariant-loop-q
invariant-loop-q l = all_stay (qtys_of (drop l.q-index l.types)) ≡ all_stay (qtys_of l.types)
