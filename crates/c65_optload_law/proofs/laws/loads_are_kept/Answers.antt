use Rattle.c65_optload_law.proofs.Kept.{idle_load_kept, dead_load_kept, reload_kept, restore_kept, overwritten_kept, dead_transfer_kept, idle_transfer_kept, back_kept, transferred_kept, idle_byte_load_kept, idle_store_kept, stepped_kept, moved_on_kept}
use Rattle.c65_optload_law.proofs.laws.loads_are_kept.Goals as goal

pub returns-clause-idle_load : goal.returns-clause-idle_load
returns-clause-idle_load c = idle_load_kept c.dead_is_not_live.ensures

pub returns-clause-dead_load : goal.returns-clause-dead_load
returns-clause-dead_load c = dead_load_kept c.dead_is_not_live.ensures

pub returns-clause-reload : goal.returns-clause-reload
returns-clause-reload c = reload_kept c.dead_is_not_live.ensures

pub returns-clause-restore : goal.returns-clause-restore
returns-clause-restore c = restore_kept c.dead_is_not_live.ensures

pub returns-clause-overwritten : goal.returns-clause-overwritten
returns-clause-overwritten c = overwritten_kept

pub returns-clause-dead_transfer : goal.returns-clause-dead_transfer
returns-clause-dead_transfer c = dead_transfer_kept c.dead_is_not_live.ensures

pub returns-clause-idle_transfer : goal.returns-clause-idle_transfer
returns-clause-idle_transfer c = idle_transfer_kept c.dead_is_not_live.ensures

pub returns-clause-back : goal.returns-clause-back
returns-clause-back c = back_kept c.dead_is_not_live.ensures

pub returns-clause-transferred : goal.returns-clause-transferred
returns-clause-transferred c = transferred_kept

pub returns-clause-idle_byte_load : goal.returns-clause-idle_byte_load
returns-clause-idle_byte_load c = idle_byte_load_kept c.dead_is_not_live.ensures

pub returns-clause-idle_store : goal.returns-clause-idle_store
returns-clause-idle_store c = idle_store_kept c.dead_is_not_live.ensures

pub returns-clause-stepped : goal.returns-clause-stepped
returns-clause-stepped c = stepped_kept

pub returns-clause-moved_on : goal.returns-clause-moved_on
returns-clause-moved_on c = moved_on_kept c.dead_is_not_live.ensures
