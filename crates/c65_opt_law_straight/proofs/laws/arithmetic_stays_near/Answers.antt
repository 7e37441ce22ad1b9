use Rattle.c65_opt_law_straight.proofs.Windows.{window_stays_near}
use Rattle.c65_opt_law_straight.proofs.laws.arithmetic_stays_near.Goals as goal

pub returns-clause-idle_carry : goal.returns-clause-idle_carry
returns-clause-idle_carry c = window_stays_near 24 c.arithmetic_is_kept.ensures.idle_carry

pub returns-clause-dead_carry : goal.returns-clause-dead_carry
returns-clause-dead_carry c = window_stays_near 25 c.arithmetic_is_kept.ensures.dead_carry

pub returns-clause-idle_compare : goal.returns-clause-idle_compare
returns-clause-idle_compare c = window_stays_near 26 c.arithmetic_is_kept.ensures.idle_compare

pub returns-clause-dead_compare : goal.returns-clause-dead_compare
returns-clause-dead_compare c = window_stays_near 27 c.arithmetic_is_kept.ensures.dead_compare

pub returns-clause-idle_mask : goal.returns-clause-idle_mask
returns-clause-idle_mask c = window_stays_near 28 c.arithmetic_is_kept.ensures.idle_mask

pub returns-clause-stepped_back : goal.returns-clause-stepped_back
returns-clause-stepped_back c = window_stays_near 29 c.arithmetic_is_kept.ensures.stepped_back

pub returns-clause-idle_sum : goal.returns-clause-idle_sum
returns-clause-idle_sum c = window_stays_near 30 c.arithmetic_is_kept.ensures.idle_sum

pub returns-clause-joined : goal.returns-clause-joined
returns-clause-joined c = window_stays_near 31 c.arithmetic_is_kept.ensures.joined

pub returns-clause-dead_arithmetic : goal.returns-clause-dead_arithmetic
returns-clause-dead_arithmetic c = window_stays_near 32 c.arithmetic_is_kept.ensures.dead_arithmetic
