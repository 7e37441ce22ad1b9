use Rattle.std.proofs.Common.{◌-◌}
use Rattle.c65_ctype.specs.Views.{types_of}
use Rattle.c65_ctype.proofs.AgreeLaws.{Seen}
use Rattle.c65_ctype.proofs.table.Types.all_agree.Given as goal

abbrev pub invariant-loop-i : goal.invariant-loop-i
invariant-loop-i l = Seen (types_of l.self) l.fn.first.items l.seen.items l.i

abbrev pub decreases-loop-i : goal.decreases-loop-i
decreases-loop-i l = 18446744073709551616 - l.i
