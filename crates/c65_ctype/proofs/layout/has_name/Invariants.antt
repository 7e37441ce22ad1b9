use Rattle.std.proofs.Common.{◌≡◌, map, drop}
use Rattle.c65_ctype.specs.Views.{member_of}
use Rattle.c65_ctype.specs.Layouts.{has_name}
use Rattle.c65_ctype.proofs.layout.has_name.Given as goal

abbrev pub invariant-loop-member : goal.invariant-loop-member
invariant-loop-member l = has_name (map member_of (drop l.member-index l.members)) l.name ≡ has_name (map member_of l.members) l.name
