use Rattle.c65_ints.proofs.Wraps.{remainder_given, remainder_in_range}
use Rattle.c65_ints.proofs.arithmetic.rem.Goals as goal

pub returns-else-b-eq0-clause-value : goal.returns-else-b-eq0-clause-value
returns-else-b-eq0-clause-value c = remainder_given _ _ c.ranges.a c.ranges.b c.if-b-eq0.false

pub returns-else-b-eq0-clause-in_range : goal.returns-else-b-eq0-clause-in_range
returns-else-b-eq0-clause-in_range c =
    remainder_in_range _ _ _ c.ranges.a c.ranges.b c.if-b-eq0.false c.requires.a
