use Rattle.std.proofs.Common.{◌≡◌, ap, sym, refl, ◌∙◌}
use Rattle.c65_base.specs.declared.options.Cpu.TheVariants.{Nmos, Cmos}
use Rattle.c65_mach.specs.State.{State}
use Rattle.c65_mach.specs.Table.{row_of, row_for}
use Rattle.c65_mach.proofs.Advancing.{at_cpu}
use Rattle.c65_mach.proofs.machine.Machine.jump_through.Goals as goal

pub returns-in-Nmos : goal.returns-in-Nmos
unfolding row_of row_for
returns-in-Nmos c =
    let cpu : c.args.self.now.cpu ≡ Nmos = sym (ap (λ (t : State). t.cpu) c.self.view_is) ∙ c.in-Nmos.is in
    at_cpu _ Nmos 0x6C _ _ _ _ cpu refl c.plain.ensures

pub returns-in-Cmos : goal.returns-in-Cmos
unfolding row_of row_for
returns-in-Cmos c =
    let cpu : c.args.self.now.cpu ≡ Cmos = sym (ap (λ (t : State). t.cpu) c.self.view_is) ∙ c.in-Cmos.is in
    at_cpu _ Cmos 0x6C _ _ _ _ cpu refl c.plain-in-Cmos.ensures
