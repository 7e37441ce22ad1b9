use Rattle.c65_opt_law_kept.proofs.Arithmetic.{idle_carry_row, dead_carry_row, idle_compare_row, dead_compare_row, idle_mask_row, stepped_back_row, idle_sum_row, joined_row, dead_arithmetic_row}
use Rattle.c65_opt_law_kept.proofs.Kept.{kept_is_followed}
use Rattle.c65_opt_law_kept.proofs.laws.arithmetic_is_followed.Goals as goal

pub returns-clause-idle_carry : goal.returns-clause-idle_carry
returns-clause-idle_carry c = kept_is_followed 24 c.arithmetic_is_kept.ensures.idle_carry idle_carry_row

pub returns-clause-dead_carry : goal.returns-clause-dead_carry
returns-clause-dead_carry c = kept_is_followed 25 c.arithmetic_is_kept.ensures.dead_carry dead_carry_row

pub returns-clause-idle_compare : goal.returns-clause-idle_compare
returns-clause-idle_compare c = kept_is_followed 26 c.arithmetic_is_kept.ensures.idle_compare idle_compare_row

pub returns-clause-dead_compare : goal.returns-clause-dead_compare
returns-clause-dead_compare c = kept_is_followed 27 c.arithmetic_is_kept.ensures.dead_compare dead_compare_row

pub returns-clause-idle_mask : goal.returns-clause-idle_mask
returns-clause-idle_mask c = kept_is_followed 28 c.arithmetic_is_kept.ensures.idle_mask idle_mask_row

pub returns-clause-stepped_back : goal.returns-clause-stepped_back
returns-clause-stepped_back c = kept_is_followed 29 c.arithmetic_is_kept.ensures.stepped_back stepped_back_row

pub returns-clause-idle_sum : goal.returns-clause-idle_sum
returns-clause-idle_sum c = kept_is_followed 30 c.arithmetic_is_kept.ensures.idle_sum idle_sum_row

pub returns-clause-joined : goal.returns-clause-joined
returns-clause-joined c = kept_is_followed 31 c.arithmetic_is_kept.ensures.joined joined_row

pub returns-clause-dead_arithmetic : goal.returns-clause-dead_arithmetic
returns-clause-dead_arithmetic c = kept_is_followed 32 c.arithmetic_is_kept.ensures.dead_arithmetic dead_arithmetic_row
