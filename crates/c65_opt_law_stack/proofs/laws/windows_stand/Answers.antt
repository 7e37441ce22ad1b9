use Rattle.c65_opt_law_stack.proofs.Stand.{push_goes, moves_join, bytes_move, zeros_push, words_at_sp, operators_in_line}
use Rattle.c65_opt_law_stack.proofs.laws.windows_stand.Goals as goal

pub returns-clause-push : goal.returns-clause-push
returns-clause-push c = push_goes

pub returns-clause-moves : goal.returns-clause-moves
returns-clause-moves c = moves_join

pub returns-clause-bytes : goal.returns-clause-bytes
returns-clause-bytes c = bytes_move

pub returns-clause-zeros : goal.returns-clause-zeros
returns-clause-zeros c = zeros_push

pub returns-clause-words : goal.returns-clause-words
returns-clause-words c = words_at_sp

pub returns-clause-operators : goal.returns-clause-operators
returns-clause-operators c = operators_in_line
