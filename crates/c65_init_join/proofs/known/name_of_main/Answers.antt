use Rattle.std.proofs.Common.{◌∙◌, sym, arith}
use Rattle.c65_init_join.proofs.NameLaws.{main_next}
use Rattle.c65_init_join.proofs.known.name_of_main.Goals as goal

pub loop-number-preserved : goal.loop-number-preserved
loop-number-preserved c =
    sym (main_next c.args.names.now c.loop-number.number c.loop-number.number (omega (arith, c.loop-number-test.true, c.len-number-end.ensures.len, c.len-number-end.ensures.few)) (sym c.is_main_name.ensures ∙ c.if-is_main_name.false)) ∙ c.loop-number.invariant
