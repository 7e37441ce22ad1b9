use Rattle.c65_opt_law_c02.proofs.Processor.{zero_followed, up_followed, down_followed, load_followed, store_followed}
use Rattle.c65_opt_law_c02.proofs.laws.processor_lines_are_followed.Goals as goal

pub returns-clause-zero_stored : goal.returns-clause-zero_stored
returns-clause-zero_stored c = zero_followed c.dead_is_not_live.ensures

pub returns-clause-stepped_up : goal.returns-clause-stepped_up
returns-clause-stepped_up c = up_followed c.dead_is_not_live.ensures

pub returns-clause-stepped_down : goal.returns-clause-stepped_down
returns-clause-stepped_down c = down_followed c.dead_is_not_live.ensures

pub returns-clause-loaded_through : goal.returns-clause-loaded_through
returns-clause-loaded_through c = load_followed c.dead_is_not_live.ensures

pub returns-clause-stored_through : goal.returns-clause-stored_through
returns-clause-stored_through c = store_followed c.dead_is_not_live.ensures
