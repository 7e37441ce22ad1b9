use Rattle.std.proofs.Common.{◌≡◌, map, drop}
use Rattle.c65_ctype.specs.Views.{qty_of, types_of}
use Rattle.c65_init_join.specs.Checks.{meets_all}
use Rattle.c65_init_join.proofs.agree.meets_all.Given as goal

abbrev pub invariant-loop-other : goal.invariant-loop-other
invariant-loop-other l = meets_all (types_of l.types) (qty_of l.ty) (map qty_of (drop l.other-index l.earlier)) ≡ meets_all (types_of l.types) (qty_of l.ty) (map qty_of l.earlier)
