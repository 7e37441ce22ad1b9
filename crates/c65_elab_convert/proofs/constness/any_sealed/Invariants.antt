use Rattle.std.proofs.Common.{◌≡◌, drop}
use Rattle.c65_ctype.specs.Views.{types_of}
use Rattle.c65_elab_convert.specs.Constness.{any_sealed}
use Rattle.c65_elab_convert.proofs.constness.any_sealed.Given as goal

abbrev pub invariant-loop-tag : goal.invariant-loop-tag
invariant-loop-tag l = any_sealed (types_of l.types) (drop l.tag-index l.tags) ≡ any_sealed (types_of l.types) l.tags
