use Rattle.c65_csem.specs.Views.{unit_of}
use Rattle.c65_ctype.specs.Views.{fn_of, qtys_of}
use Rattle.c65_init.specs.Agreeing.{all_take, agree}
use Rattle.c65_init.proofs.Agreement.{agree_by, gives_same}
use Rattle.c65_init.proofs.agree.agrees.Goals as goal

pub returns-in-Some : goal.returns-in-Some
returns-in-Some c = gives_same c.all_take.result (all_take (unit_of c.args.parts.now) (qtys_of c.deref.result.now) c.args.params.now) (agree (unit_of c.args.parts.now) (fn_of c.args.function.now) c.args.params.now) (agree_by (unit_of c.args.parts.now) c.args.function.now c.in-Some.types c.deref.result.now c.args.params.now c.in-Some.is c.deref.ensures.value) c.all_take.ensures
