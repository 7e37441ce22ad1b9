use Rattle.std.proofs.Common.{◌≡◌, ◌≤◌, length, take, ap, ◌∙◌, arith}
use Rattle.std.proofs.lemmas.List.{length-take-le}
use Rattle.std.specs.Prelude.{◌==◌, true, false}
use Rattle.c65_mach.specs.Hooks.{descriptor_of, buffer_of, ax, put_bytes}
use Rattle.c65_sim.proofs.TurnLaws.{read_done, read_refused, read_machine, is_at, is_not_at}
use Rattle.c65_sim.proofs.hooks.read.Goals as goal

pub returns-then-descriptor-ne0-clause-turn : goal.returns-then-descriptor-ne0-clause-turn
returns-then-descriptor-ne0-clause-turn g c =
    let other : (descriptor_of c.args.sp c.args.machine.now == 0) ≡ false = is_not_at c.descriptor.result _ 0 c.descriptor.ensures c.if-descriptor-ne0.true in
    read_refused c.args.sp c.args.machine.now c.refuse.new.machine _ _ c.requires.at other c.requires.told c.refuse.ensures

pub returns-clause-turn : goal.returns-clause-turn
returns-clause-turn g c =
    let served : (descriptor_of c.args.sp c.args.machine.now == 0) ≡ true = is_at c.descriptor.result _ 0 c.descriptor.ensures c.if-descriptor-ne0.false in
    let fits : c.in_ok-taken.taken ≤ length c.take.new.into = c.in_ok-taken.ensures.bytes.fits in
    let room : c.from.result ≤ length c.args.room.now = omega arith in
    let len : length c.take.new.into ≡ ax c.args.machine.now =
    omega (arith, c.take.auto.into, length-take-le c.from.result c.args.room.now room, c.from.ensures, c.ax.ensures) in
    let put : c.put_bytes.new.machine ≡ record c.pop.new.machine { mem = put_bytes c.pop.new.machine.mem (buffer_of c.args.sp c.args.machine.now) (take c.in_ok-taken.taken c.take.new.into) } =
    c.put_bytes.ensures ∙ ap (λ a. record c.pop.new.machine { mem = put_bytes c.pop.new.machine.mem a (take c.in_ok-taken.taken c.take.new.into) }) c.buffer-to.ensures in
    read_done c.args.sp c.args.machine.now c.answer_hook.new.self _ _ _ _ c.take.new.into c.in_ok-taken.taken c.requires.at served len c.in_ok-taken.ensures.bytes
    (read_machine c.args.sp c.in_ok-taken.taken (take c.in_ok-taken.taken c.take.new.into) c.args.machine.now c.pop.new.machine c.put_bytes.new.machine c.answer_hook.new.self
    (length-take-le _ _ fits) c.pop.ensures put c.answer_hook.ensures)
