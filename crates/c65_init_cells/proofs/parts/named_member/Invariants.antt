use Rattle.std.proofs.Common.{◌≡◌, drop, map}
use Rattle.c65_ctype.specs.Views.{member_of}
use Rattle.c65_init_cells.specs.Parts.{named_from}
use Rattle.c65_init_cells.proofs.parts.named_member.Given as goal

-- no member before this place has a name
abbrev pub invariant-loop-at : goal.invariant-loop-at
invariant-loop-at l = named_from (drop l.at (map member_of l.members)) l.at ≡ named_from (drop l.fn.from (map member_of l.fn.members)) l.fn.from
