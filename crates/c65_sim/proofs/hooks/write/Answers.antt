use Rattle.std.proofs.Common.{◌≡◌, ◌≤◌, length, take, ap, sym, ◌∙◌, arith}
use Rattle.std.proofs.lemmas.List.{length-take-le}
use Rattle.std.specs.Prelude.{◌==◌, true, false}
use Rattle.c65_io.specs.Told.{append_told}
use Rattle.c65_mach.specs.State.{State}
use Rattle.c65_mach.specs.Hooks.{descriptor_of, buffer_of, ax, bytes_to_write, bytes_from, popped, hooked, written}
use Rattle.c65_sim.proofs.TurnLaws.{write_done, write_refused, put_back, is_at, is_not_at}
use Rattle.c65_sim.proofs.hooks.write.Goals as goal

pub returns-then-descriptor-ne1-clause-turn : goal.returns-then-descriptor-ne1-clause-turn
returns-then-descriptor-ne1-clause-turn g c =
    let other : (descriptor_of c.args.sp c.args.machine.now == 1) ≡ false = is_not_at c.descriptor.result _ 1 c.descriptor.ensures c.if-descriptor-ne1.true in
    write_refused c.args.sp c.args.machine.now c.refuse.new.machine _ c.requires.at other c.refuse.ensures

pub returns-clause-turn : goal.returns-clause-turn
returns-clause-turn g c =
    let served : (descriptor_of c.args.sp c.args.machine.now == 1) ≡ true = is_at c.descriptor.result _ 1 c.descriptor.ensures c.if-descriptor-ne1.false in
    let room : c.from.result ≤ length c.args.room.now = omega arith in
    let len : length (take c.from.result c.args.room.now) ≡ ax c.args.machine.now =
    length-take-le c.from.result c.args.room.now room ∙ c.from.ensures ∙ c.ax-count.ensures in
    let bytes : c.copy_bytes.new.into ≡ bytes_to_write c.args.sp c.args.machine.now =
    c.copy_bytes.ensures
    ∙ ap (λ (u : State). bytes_from u.mem c.buffer-from.result (length (take c.from.result c.args.room.now))) c.pop.ensures
    ∙ ap (λ a. bytes_from (popped c.args.sp 4 c.args.machine.now).mem a (length (take c.from.result c.args.room.now))) c.buffer-from.ensures
    ∙ ap (bytes_from (popped c.args.sp 4 c.args.machine.now).mem (buffer_of c.args.sp c.args.machine.now)) len in
    let becomes : c.answer_hook.new.self ≡ written c.args.sp c.args.machine.now =
    c.answer_hook.ensures
    ∙ ap (λ n. hooked n c.pop.new.machine) c.ax-count.ensures
    ∙ ap (hooked (ax c.args.machine.now)) c.pop.ensures in
    write_done c.args.sp c.args.machine.now c.answer_hook.new.self _ _ c.copy_bytes.new.into c.requires.at served bytes c.in_default.ensures.bytes becomes

pub returns-in-Err-clause-turn : goal.returns-in-Err-clause-turn
returns-in-Err-clause-turn g c =
    let m : State = c.args.machine.now in
    let room : c.from.result ≤ length c.args.room.now = omega arith in
    let len : length (take c.from.result c.args.room.now) ≡ ax m = length-take-le c.from.result c.args.room.now room ∙ c.from.ensures ∙ c.ax-count.ensures in
    let bytes : c.copy_bytes.new.into ≡ bytes_to_write c.args.sp m =
    c.copy_bytes.ensures
    ∙ ap (λ (u : State). bytes_from u.mem c.buffer-from.result (length (take c.from.result c.args.room.now))) c.pop.ensures
    ∙ ap (λ a. bytes_from (popped c.args.sp 4 m).mem a (length (take c.from.result c.args.room.now))) c.buffer-from.ensures
    ∙ ap (bytes_from (popped c.args.sp 4 m).mem (buffer_of c.args.sp m)) len in
    let back : c.write-in-Err.new.self ≡ m =
    put_back c.args.sp c.from-at.result c.read-low.result c.read-high.result m c.pop.new.machine c.write.new.self c.write-in-Err.new.self
    (omega arith) c.from-at.ensures c.read-low.ensures c.read-high.ensures c.pop.ensures c.write.ensures c.write-in-Err.ensures in (
      back,
      record {
        count = c.in-Err.ensures.bytes.0;
        at_hook = c.requires.at;
        to = sym c.descriptor.ensures ∙ c.if-descriptor-ne1.false;
        output = c.in-Err.ensures.bytes.1 ∙ ap (λ xs. append_told (g.O.Sink.written c.args.out.now) (take c.in-Err.ensures.bytes.0 xs)) bytes;
      },
    )
