use Rattle.std.proofs.Common.{◌≡◌, drop}
use Rattle.c65_init.specs.Bodies.{place_from}
use Rattle.c65_init.proofs.labels.place_of.Given as goal

-- no label before this place has the name
abbrev pub invariant-loop-label : goal.invariant-loop-label
invariant-loop-label l = record {
  here : l.at ≡ l.label-index;
  rest : place_from (drop l.label-index l.labels) l.name l.at ≡ place_from l.labels l.name 0;
}
