use Rattle.std.proofs.Common.{◌≡◌, length}
use Rattle.c65_asm.specs.Text.{body_text, functions_with}
use Rattle.c65_asm.proofs.alike.have_one_functions.Given as goal

abbrev pub invariant-loop-function : goal.invariant-loop-function
invariant-loop-function l = functions_with body_text l.ours l.rest ≡ functions_with body_text l.theirs l.beside → functions_with body_text l.ours l.functions ≡ functions_with body_text l.theirs l.others

abbrev pub decreases-loop-function : goal.decreases-loop-function
decreases-loop-function l = length l.rest
