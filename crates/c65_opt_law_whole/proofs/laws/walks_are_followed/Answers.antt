use Rattle.c65_opt_law_whole.proofs.Made.{walked}
use Rattle.c65_opt_law_whole.proofs.laws.walks_are_followed.Goals as goal

pub returns : goal.returns
returns c = λ rule literals serves keeps good f main out old n new segment bytes walk.
    walked c.live_tables_exist.ensures c.following_until_end_composes.ensures.composes rule literals serves keeps f main out good old n new segment bytes walk
