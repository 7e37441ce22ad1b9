use Rattle.std.proofs.Common.{◌≡◌, drop}
use Rattle.c65_init_join.specs.Known.{main_named}
use Rattle.c65_init_join.proofs.known.name_of_main.Given as goal

abbrev pub invariant-loop-number : goal.invariant-loop-number
invariant-loop-number l = main_named l.number (drop l.number l.names) ≡ main_named 0 l.names
