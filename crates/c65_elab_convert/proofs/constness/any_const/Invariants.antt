use Rattle.std.proofs.Common.{◌≡◌, drop, map}
use Rattle.c65_ctype.specs.Views.{member_of}
use Rattle.c65_elab_convert.specs.Constness.{any_const}
use Rattle.c65_elab_convert.proofs.constness.any_const.Given as goal

abbrev pub invariant-loop-member : goal.invariant-loop-member
invariant-loop-member l = any_const (map member_of (drop l.member-index l.members)) ≡ any_const (map member_of l.members)
