use Rattle.c65_opt_law_stack.proofs.Rules.{taken_back_followed, moved_at_once_followed, moved_by_byte_followed, zero_pushed_followed, word_at_sp_followed}
use Rattle.c65_opt_law_stack.proofs.laws.calls_are_followed.Goals as goal

pub returns-clause-taken_back : goal.returns-clause-taken_back
returns-clause-taken_back c = taken_back_followed

pub returns-clause-moved_at_once : goal.returns-clause-moved_at_once
returns-clause-moved_at_once c = moved_at_once_followed

pub returns-clause-moved_by_byte : goal.returns-clause-moved_by_byte
returns-clause-moved_by_byte c = moved_by_byte_followed

pub returns-clause-zero_pushed : goal.returns-clause-zero_pushed
returns-clause-zero_pushed c = zero_pushed_followed

pub returns-clause-word_at_sp : goal.returns-clause-word_at_sp
returns-clause-word_at_sp c = word_at_sp_followed
