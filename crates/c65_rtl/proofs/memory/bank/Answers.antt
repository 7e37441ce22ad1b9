use Rattle.std.proofs.Common.{◌≡◌, OnOk, subst, sym}
use Rattle.c65_code.specs.declared.routine.Routine.{Routine}
use Rattle.c65_rtl.specs.Assembly.{with_pieces}
use Rattle.c65_rtl.specs.Memory.{bank_pieces}
use Rattle.c65_rtl.proofs.memory.bank.Goals as goal

pub returns-in-SaveRegs : goal.returns-in-SaveRegs
returns-in-SaveRegs c =
    let P : Routine → Type 0 = λ v. OnOk c.put-in-SaveRegs.result (c.put-in-SaveRegs.new.draft ≡ with_pieces c.args.draft.now (bank_pieces v)) in
    subst P (sym c.in-SaveRegs.is) (c.put-in-SaveRegs.ensures)
