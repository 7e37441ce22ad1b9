use Rattle.std.proofs.Common.{◌≡◌, ◌∙◌, rules, map, take}
use Rattle.std.specs.Prelude.{true}
use Rattle.c65_ctype.specs.Views.{qty_of, types_of}
use Rattle.c65_init_join.specs.Checks.{fits_all}
use Rattle.c65_init_join.proofs.TurnLaws.{agree_next}
use Rattle.c65_init_join.proofs.agree.agree.Goals as goal

pub loop-i-preserved : goal.loop-i-preserved
loop-i-preserved c =
    let fits : fits_all (types_of c.args.types.now) c.args.library (qty_of c.index-all-i.result) (map qty_of (take c.loop-i.i c.args.all.now)) ≡ true = search rules in
    agree_next (types_of c.args.types.now) c.args.library c.args.all.now c.loop-i.i c.index-all-i.result c.loop-i-test.true c.index-all-i.is fits ∙ c.loop-i.invariant
