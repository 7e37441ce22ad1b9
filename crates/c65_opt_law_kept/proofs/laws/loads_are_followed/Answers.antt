use Rattle.c65_opt_law_kept.proofs.Loads.{idle_load_row, dead_load_row, reload_row, restore_row, overwritten_row, dead_transfer_row, idle_transfer_row, back_row, transferred_row, idle_byte_load_row, idle_store_row, stepped_row, moved_on_row}
use Rattle.c65_opt_law_kept.proofs.Kept.{kept_is_followed}
use Rattle.c65_opt_law_kept.proofs.Stores.{dead_store_followed}
use Rattle.c65_opt_law_kept.proofs.laws.loads_are_followed.Goals as goal

pub returns-clause-idle_load : goal.returns-clause-idle_load
returns-clause-idle_load c = kept_is_followed 10 c.loads_are_kept.ensures.idle_load idle_load_row

pub returns-clause-dead_load : goal.returns-clause-dead_load
returns-clause-dead_load c = kept_is_followed 11 c.loads_are_kept.ensures.dead_load dead_load_row

pub returns-clause-reload : goal.returns-clause-reload
returns-clause-reload c = kept_is_followed 13 c.loads_are_kept.ensures.reload reload_row

pub returns-clause-restore : goal.returns-clause-restore
returns-clause-restore c = kept_is_followed 14 c.loads_are_kept.ensures.restore restore_row

pub returns-clause-dead_transfer : goal.returns-clause-dead_transfer
returns-clause-dead_transfer c = kept_is_followed 16 c.loads_are_kept.ensures.dead_transfer dead_transfer_row

pub returns-clause-idle_transfer : goal.returns-clause-idle_transfer
returns-clause-idle_transfer c = kept_is_followed 17 c.loads_are_kept.ensures.idle_transfer idle_transfer_row

pub returns-clause-back : goal.returns-clause-back
returns-clause-back c = kept_is_followed 18 c.loads_are_kept.ensures.back back_row

pub returns-clause-transferred : goal.returns-clause-transferred
returns-clause-transferred c = kept_is_followed 19 c.loads_are_kept.ensures.transferred transferred_row

pub returns-clause-idle_byte_load : goal.returns-clause-idle_byte_load
returns-clause-idle_byte_load c = kept_is_followed 20 c.loads_are_kept.ensures.idle_byte_load idle_byte_load_row

pub returns-clause-idle_store : goal.returns-clause-idle_store
returns-clause-idle_store c = kept_is_followed 21 c.loads_are_kept.ensures.idle_store idle_store_row

pub returns-clause-stepped : goal.returns-clause-stepped
returns-clause-stepped c = kept_is_followed 22 c.loads_are_kept.ensures.stepped stepped_row

pub returns-clause-overwritten : goal.returns-clause-overwritten
returns-clause-overwritten c = kept_is_followed 15 c.loads_are_kept.ensures.overwritten overwritten_row

pub returns-clause-moved_on : goal.returns-clause-moved_on
returns-clause-moved_on c = kept_is_followed 23 c.loads_are_kept.ensures.moved_on moved_on_row

pub returns-clause-dead_store : goal.returns-clause-dead_store
returns-clause-dead_store c = dead_store_followed c.dead_is_not_live.ensures
