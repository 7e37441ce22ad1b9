use Rattle.std.proofs.Common.{◌≡◌, drop, map}
use Rattle.c65_init.specs.Parameters.{old_of, old_from}
use Rattle.c65_init.proofs.old_style.place_of.Given as goal

-- no parameter before this place has the name
abbrev pub invariant-loop-old : goal.invariant-loop-old
invariant-loop-old l = record {
  here : l.at ≡ l.old-index;
  rest : old_from (map old_of (drop l.old-index l.list)) l.name l.at ≡ old_from (map old_of l.list) l.name 0;
}
