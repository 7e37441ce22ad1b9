use Rattle.std.proofs.Common.{◌≡◌, take, drop}
use Rattle.c65_know.specs.Known.{IsNotedTo}
use Rattle.c65_know.proofs.ways.renew_to.Given as goal

abbrev pub invariant-loop-at : goal.invariant-loop-at
invariant-loop-at l = record {
  right : IsNotedTo l.lines l.notes l.way l.at;
  first : take l.from l.notes ≡ take l.from l.fn.notes;
  rest : drop l.to l.notes ≡ drop l.to l.fn.notes;
}
