use Rattle.std.proofs.Common.{◌≡◌, ◌++◌, map, drop}
use Rattle.c65_ctype.specs.Views.{qty_of}
use Rattle.c65_init_join.specs.Definitions.{promoted}
use Rattle.c65_init_join.proofs.definition.promoted_types.Given as goal

abbrev pub invariant-loop-ty : goal.invariant-loop-ty
invariant-loop-ty l = map qty_of l.all.items ++ map promoted (map qty_of (drop l.ty-index l.types)) ≡ map promoted (map qty_of l.types)
