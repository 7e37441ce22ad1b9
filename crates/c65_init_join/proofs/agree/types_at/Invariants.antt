use Rattle.std.proofs.Common.{◌≡◌, ◌++◌, map, drop}
use Rattle.c65_ctype.specs.Views.{qty_of}
use Rattle.c65_init_join.specs.Checks.{types_at}
use Rattle.c65_init_join.specs.Items.{items_of}
use Rattle.c65_init_join.proofs.agree.types_at.Given as goal

abbrev pub invariant-loop-place : goal.invariant-loop-place
invariant-loop-place l = map qty_of l.all.items ++ types_at (map items_of l.units) (drop l.place-index l.places) ≡ types_at (map items_of l.units) l.places
