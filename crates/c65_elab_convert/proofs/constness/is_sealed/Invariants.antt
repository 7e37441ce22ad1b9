use Rattle.std.proofs.Common.{◌≡◌, [], ◌∷◌}
use Rattle.c65_ctype.specs.Views.{types_of}
use Rattle.c65_elab_convert.specs.Constness.{is_sealed}
use Rattle.c65_elab_convert.proofs.constness.is_sealed.Given as goal

abbrev pub invariant-loop-left : goal.invariant-loop-left
invariant-loop-left l = is_sealed (types_of l.types) l.left l.tags.items ≡ is_sealed (types_of l.types) 256 (l.tag ∷ [])

abbrev pub decreases-loop-left : goal.decreases-loop-left
decreases-loop-left l = l.left
