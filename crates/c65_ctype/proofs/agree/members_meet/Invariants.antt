use Rattle.std.proofs.Common.{◌≡◌, ◌≤◌, drop, length, map}
use Rattle.c65_ctype.specs.Views.{member_of}
use Rattle.c65_ctype.specs.Compatible.{members_meet}
use Rattle.c65_ctype.proofs.agree.members_meet.Given as goal

abbrev pub invariant-loop-i : goal.invariant-loop-i
invariant-loop-i l = record {
  within : l.i ≤ length l.b;
  so_far : members_meet l.pairs.items (map member_of (drop l.i l.a)) (map member_of (drop l.i l.b)) ≡ members_meet l.fn.pairs.items (map member_of l.a) (map member_of l.b);
}
