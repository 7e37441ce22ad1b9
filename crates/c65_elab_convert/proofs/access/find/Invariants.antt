use Rattle.std.proofs.Common.{◌≡◌, drop, map}
use Rattle.c65_ctype.specs.Views.{member_of}
use Rattle.c65_elab_convert.specs.Access.{find_from}
use Rattle.c65_elab_convert.proofs.access.find.Given as goal

abbrev pub invariant-loop-i : goal.invariant-loop-i
invariant-loop-i l = find_from l.i (map member_of (drop l.i l.members)) l.name ≡ find_from 0 (map member_of l.members) l.name
