use Rattle.c65_optarith_law.proofs.Kept.{idle_carry_kept, dead_carry_kept, idle_compare_kept, dead_compare_kept, idle_mask_kept, stepped_back_kept, idle_sum_kept, joined_kept, dead_arithmetic_kept}
use Rattle.c65_optarith_law.proofs.laws.arithmetic_is_kept.Goals as goal

pub returns-clause-idle_carry : goal.returns-clause-idle_carry
returns-clause-idle_carry c = idle_carry_kept

pub returns-clause-dead_carry : goal.returns-clause-dead_carry
returns-clause-dead_carry c = dead_carry_kept c.dead_is_not_live.ensures

pub returns-clause-idle_compare : goal.returns-clause-idle_compare
returns-clause-idle_compare c = idle_compare_kept c.dead_is_not_live.ensures

pub returns-clause-dead_compare : goal.returns-clause-dead_compare
returns-clause-dead_compare c = dead_compare_kept c.dead_is_not_live.ensures

pub returns-clause-idle_mask : goal.returns-clause-idle_mask
returns-clause-idle_mask c = idle_mask_kept c.dead_is_not_live.ensures

pub returns-clause-stepped_back : goal.returns-clause-stepped_back
returns-clause-stepped_back c = stepped_back_kept c.dead_is_not_live.ensures

pub returns-clause-idle_sum : goal.returns-clause-idle_sum
returns-clause-idle_sum c = idle_sum_kept c.dead_is_not_live.ensures

pub returns-clause-joined : goal.returns-clause-joined
returns-clause-joined c = joined_kept

pub returns-clause-dead_arithmetic : goal.returns-clause-dead_arithmetic
returns-clause-dead_arithmetic c = dead_arithmetic_kept c.dead_is_not_live.ensures
