use Rattle.std.proofs.Common.{◌≡◌, [], ap, sym, ◌∙◌, refl, subst}
use Rattle.c65_mach.specs.Run.{Setting, is_hook, Running}
use Rattle.c65_mach.specs.State.{State}
use Rattle.c65_mach.specs.Hooks.{given_args}
use Rattle.c65_sim.specs.View.{ComputerView}
use Rattle.c65_sim.specs.Turns.{moment, EndIsTold}
use Rattle.c65_sim.proofs.TurnLaws.{quiet_hook, io_hook, at_open, at_close, at_args}
use Rattle.c65_sim.proofs.hooks.Computer.hook.Goals as goal

pub returns-in-65524-clause-turn : goal.returns-in-65524-clause-turn
returns-in-65524-clause-turn g c =
    let s : Setting = record { sp = c.self.inside.sp; args = c.self.inside.args.items } in
    let m : State = c.self.inside.machine in
    let pc : m.pc ≡ 0xFFF4 = ap (λ (v : ComputerView). v.machine.pc) c.self.view_is ∙ sym c.requires.at ∙ c.in-65524.is in
    let done = quiet_hook c.args.self.now s m c.open.new.machine c.self.inside.is_at_end _ _ c.self.view_is c.requires.told (ap is_hook pc)
    (λ input earlier. at_open s m input earlier pc ∙ ap (λ u. Running (moment u input earlier)) (sym c.open.ensures)) in
    (refl, done.0, done.1)

pub returns-in-65525-clause-turn : goal.returns-in-65525-clause-turn
returns-in-65525-clause-turn g c =
    let s : Setting = record { sp = c.self.inside.sp; args = c.self.inside.args.items } in
    let m : State = c.self.inside.machine in
    let pc : m.pc ≡ 0xFFF5 = ap (λ (v : ComputerView). v.machine.pc) c.self.view_is ∙ sym c.requires.at ∙ c.in-65525.is in
    let done = quiet_hook c.args.self.now s m c.close.new.machine c.self.inside.is_at_end _ _ c.self.view_is c.requires.told (ap is_hook pc)
    (λ input earlier. at_close s m input earlier pc ∙ ap (λ u. Running (moment u input earlier)) (sym c.close.ensures)) in
    (refl, done.0, done.1)

pub returns-in-65528-clause-turn : goal.returns-in-65528-clause-turn
returns-in-65528-clause-turn g c =
    let s : Setting = record { sp = c.self.inside.sp; args = c.self.inside.args.items } in
    let m : State = c.self.inside.machine in
    let pc : m.pc ≡ 0xFFF8 = ap (λ (v : ComputerView). v.machine.pc) c.self.view_is ∙ sym c.requires.at ∙ c.in-65528.is in
    let becomes : c.give_args.new.machine ≡ given_args s.sp s.args m =
    c.give_args.ensures ∙ ap (λ xs. given_args s.sp xs m) c.deref.ensures.value in
    let done = quiet_hook c.args.self.now s m c.give_args.new.machine c.self.inside.is_at_end _ _ c.self.view_is c.requires.told (ap is_hook pc)
    (λ input earlier. at_args s m input earlier pc ∙ ap (λ u. Running (moment u input earlier)) (sym becomes)) in
    (refl, done.0, done.1)

pub returns-in-Ok-clause-turn : goal.returns-in-Ok-clause-turn
returns-in-Ok-clause-turn g c =
    let s : Setting = record { sp = c.self.inside.sp; args = c.self.inside.args.items } in
    let reads = c.in-Ok.ensures.turn in
    let done = io_hook c.args.self.now s c.self.inside.machine c.read.new.machine c.self.inside.is_at_end c.read.new.is_at_end _ _ _ _ c.self.view_is
    (reads.0, ([], reads.1 s.args (g.O.Sink.written c.args.out.now))) in
    (refl, done.0, done.1)

pub returns-in-Ok-write-clause-turn : goal.returns-in-Ok-write-clause-turn
returns-in-Ok-write-clause-turn g c =
    let s : Setting = record { sp = c.self.inside.sp; args = c.self.inside.args.items } in
    let writes = c.in-Ok-write.ensures.turn in
    let P : ComputerView → Type 0 = λ v. EndIsTold v.is_at_end (g.I.Source.left c.args.input.now) in
    let told = subst P (sym c.self.view_is) c.requires.told in
    let done = io_hook c.args.self.now s c.self.inside.machine c.write.new.machine c.self.inside.is_at_end c.self.inside.is_at_end _ _ _ _ c.self.view_is
    ([], (writes.0, writes.1 s.args c.self.inside.is_at_end (g.I.Source.left c.args.input.now) told)) in
    (refl, done.0, done.1)
