use Rattle.std.proofs.Common.{◌≡◌, ℕ, ◌≤◌, List, ◌++◌, length, take, drop, ap, ◌∙◌, arith}
use Rattle.std.specs.Prelude.{replicate}
use Rattle.std.proofs.lemmas.List.{take-append-le, take_all}
use Rattle.c65_mach.specs.State.{State, loaded, loaded_memory}
use Rattle.c65_mach.proofs.Loading.{laid-zeros}
use Rattle.c65_mach.proofs.machine.Machine.load.Goals as goal

pub returns : goal.returns
returns c =
    let image = c.args.image.now in
    let cleared = c.fill.new.self in
    let laid = c.lay.new.memory in
    let all : c.self.inside.memory.len ≡ 65536 = c.self.inside.memory.ok.0 ∙ c.self.invariant in
    let zeros : c.deref_mut.result.now ≡ replicate 65536 0 = c.deref_mut.ensures.value ∙ c.fill.ensures.items (λ y same. same) ∙ ap (λ (n : ℕ). replicate n 0) all in
    let size : length c.deref_mut.result.now ≡ 65536 = c.deref_mut.ensures.len ∙ c.fill.ensures.len ∙ all in
    let fits : image.load ≤ 65536 = omega arith in
    let memory : laid ≡ loaded_memory image =
    c.lay.ensures ∙ rw (c.from.ensures, c.as_slice.ensures, size, zeros) (laid-zeros 65536 image.load image.payload fits) in
    let long : length laid ≡ cleared.len = c.lay.auto.memory ∙ c.deref_mut.ensures.len in
    let kept : take cleared.len (laid ++ drop (length laid) cleared.items) ≡ laid =
    take-append-le cleared.len laid (drop (length laid) cleared.items) (omega (arith, long)) ∙ take_all cleared.len laid (omega (arith, long)) in
    ap (λ (t : State). record t { cpu = image.cpu; mem = take cleared.len (laid ++ drop (length laid) cleared.items) }) (c.self.view_is ∙ c.set_regs.ensures)
    ∙ ap (λ (mem : List ℕ). record (loaded image) { mem = mem }) (kept ∙ memory)
