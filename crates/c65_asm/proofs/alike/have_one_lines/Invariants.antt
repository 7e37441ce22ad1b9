use Rattle.std.proofs.Common.{◌≡◌, length}
use Rattle.c65_asm.specs.Text.{lines_text}
use Rattle.c65_asm.proofs.alike.have_one_lines.Given as goal

abbrev pub invariant-loop-line : goal.invariant-loop-line
invariant-loop-line l = lines_text l.ours l.rest ≡ lines_text l.theirs l.beside → lines_text l.ours l.lines ≡ lines_text l.theirs l.others

abbrev pub decreases-loop-line : goal.decreases-loop-line
decreases-loop-line l = length l.rest
