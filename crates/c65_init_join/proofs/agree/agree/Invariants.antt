use Rattle.std.proofs.Common.{◌≡◌, [], map, take, drop}
use Rattle.c65_ctype.specs.Views.{qty_of, types_of}
use Rattle.c65_init_join.specs.Checks.{agree}
use Rattle.c65_init_join.proofs.agree.agree.Given as goal

abbrev pub invariant-loop-i : goal.invariant-loop-i
invariant-loop-i l = agree (types_of l.types) l.library (map qty_of (take l.i l.all)) (map qty_of (drop l.i l.all)) ≡ agree (types_of l.types) l.library [] (map qty_of l.all)
