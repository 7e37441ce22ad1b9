use Rattle.std.proofs.Common.{◌∙◌, sym, ap, Ok}
use Rattle.c65_csem.specs.Views.{unit_of}
use Rattle.c65_init.proofs.Agreement.{take_end}
use Rattle.c65_init.proofs.agree.all_take.Goals as goal

pub returns : goal.returns
returns c = ap (λ b. Ok b) (sym (take_end (unit_of c.args.parts.now) c.args.types.now c.args.params.now c.loop-i.i c.loop-i-test.false c.loop-i.auto.i-end c.loop-i.invariant.within ∙ c.loop-i.invariant.so_far))
