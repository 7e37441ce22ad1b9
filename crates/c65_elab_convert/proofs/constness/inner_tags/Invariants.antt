use Rattle.std.proofs.Common.{◌≡◌, [], drop}
use Rattle.c65_ctype.specs.Views.{types_of}
use Rattle.c65_elab_convert.specs.Constness.{inner_tags}
use Rattle.c65_elab_convert.proofs.constness.inner_tags.Given as goal

abbrev pub invariant-loop-tag : goal.invariant-loop-tag
invariant-loop-tag l = inner_tags (types_of l.types) l.inner.items (drop l.tag-index l.tags) ≡ inner_tags (types_of l.types) [] l.tags
