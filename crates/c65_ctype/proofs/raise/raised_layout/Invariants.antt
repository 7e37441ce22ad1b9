use Rattle.std.proofs.Common.{◌≡◌, take, map}
use Rattle.c65_ctype.specs.Raised.{raised_member}
use Rattle.c65_ctype.specs.Views.{member_of}
use Rattle.c65_ctype.proofs.raise.raised_layout.Given as goal

abbrev pub invariant-loop-member : goal.invariant-loop-member
invariant-loop-member l = map member_of l.members.items ≡ map (raised_member l.by) (map member_of (take l.member-index l.member-items))
