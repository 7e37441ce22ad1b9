use Rattle.std.proofs.Common.{◌≡◌, drop, map}
use Rattle.c65_ctype.specs.Views.{member_of}
use Rattle.c65_elab_convert.specs.Constness.{with_tags}
use Rattle.c65_elab_convert.proofs.constness.add_tags.Given as goal

abbrev pub invariant-loop-member : goal.invariant-loop-member
invariant-loop-member l = with_tags l.tags.items (map member_of (drop l.member-index l.members)) ≡ with_tags l.fn.tags.items (map member_of l.members)
