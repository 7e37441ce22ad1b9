use Rattle.std.proofs.Common.{◌≡◌, take}
use Rattle.c65_elab.proofs.Beginnings.{firsts_walk}
use Rattle.c65_elab.proofs.places.firsts.Given as goal

abbrev pub invariant-loop-expr : goal.invariant-loop-expr
invariant-loop-expr l = firsts_walk (take l.expr-index l.list) ≡ l.places.items
