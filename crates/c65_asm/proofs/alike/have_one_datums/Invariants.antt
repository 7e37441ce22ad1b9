use Rattle.std.proofs.Common.{◌≡◌, length}
use Rattle.c65_asm.specs.Text.{datums_text}
use Rattle.c65_asm.proofs.alike.have_one_datums.Given as goal

abbrev pub invariant-loop-datum : goal.invariant-loop-datum
invariant-loop-datum l = datums_text l.ours l.rest ≡ datums_text l.theirs l.beside → datums_text l.ours l.datums ≡ datums_text l.theirs l.others

abbrev pub decreases-loop-datum : goal.decreases-loop-datum
decreases-loop-datum l = length l.rest
