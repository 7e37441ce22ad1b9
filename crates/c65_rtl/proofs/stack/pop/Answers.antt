use Rattle.std.proofs.Common.{◌≡◌, OnOk, subst, sym}
use Rattle.c65_code.specs.declared.routine.Routine.{Routine}
use Rattle.c65_rtl.specs.Assembly.{with_pieces}
use Rattle.c65_rtl.specs.Stack.{pop_pieces}
use Rattle.c65_rtl.proofs.stack.pop.Goals as goal

pub returns-in-SubYSp : goal.returns-in-SubYSp
returns-in-SubYSp c =
    let P : Routine → Type 0 = λ v. OnOk c.put-in-SubYSp.result (c.put-in-SubYSp.new.draft ≡ with_pieces c.args.draft.now (pop_pieces v)) in
    subst P (sym c.in-SubYSp.is) (c.put-in-SubYSp.ensures)
