use Rattle.std.proofs.Common.{◌∙◌, ℕ, set, ap, arith}
use Rattle.std.proofs.lemmas.List.Edits.{map_over_more}
use Rattle.c65_init_join.specs.Numbers.{numbers_of}
use Rattle.c65_init_join.specs.Renumbered.{object_number}
use Rattle.c65_init_join.proofs.renumber.renumber_objects.Goals as goal

pub loop-i-preserved : goal.loop-i-preserved
loop-i-preserved c =
    ap (λ (z : ℕ). set c.loop-i.objects.items c.loop-i.i z) c.in_ok-found.ensures
    ∙ map_over_more (object_number (numbers_of c.args.numbers.now)) c.args.objects.now.items c.loop-i.objects.items c.loop-i.i c.index.result.now (omega (arith, c.loop-i-test.true, c.len-i-end.ensures, c.args.objects.now.ok.0)) c.loop-i.invariant c.index.ensures
