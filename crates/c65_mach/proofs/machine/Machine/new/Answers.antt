use Rattle.std.proofs.Common.{◌≡◌, ℕ, List, replicate, ap}
use Rattle.c65_mach.specs.State.{zero_state}
use Rattle.c65_mach.proofs.machine.Machine.new.Goals as goal

pub returns-clause-ok : goal.returns-clause-ok
returns-clause-ok c =
    let zeros : c.in_ok-memory.memory.items ≡ replicate 65536 0 = c.in_ok-memory.ensures.items_if_clones_equal (λ y same. same) in
    ap (λ (mem : List ℕ). record zero_state { mem = mem }) zeros
