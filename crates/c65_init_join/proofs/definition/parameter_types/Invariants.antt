use Rattle.std.proofs.Common.{◌≡◌, map, take}
use Rattle.c65_ctype.specs.Views.{qty_of}
use Rattle.c65_csem.specs.Views.{object_of}
use Rattle.c65_init_join.specs.Definitions.{parameter_types}
use Rattle.c65_init_join.proofs.definition.parameter_types.Given as goal

abbrev pub invariant-loop-param : goal.invariant-loop-param
invariant-loop-param l = map qty_of l.types.items ≡ parameter_types (map object_of l.objects) (take l.param-index l.params)
