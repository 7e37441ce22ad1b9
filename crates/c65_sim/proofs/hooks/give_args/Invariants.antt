use Rattle.std.proofs.Common.{◌≡◌, ◌+◌, ◌≤◌, drop, length}
use Rattle.std.specs.Prelude.{sum_by}
use Rattle.c65_mach.specs.Hooks.{laid_args}
use Rattle.c65_sim.proofs.hooks.give_args.Given as goal

abbrev pub invariant-loop-arg : goal.invariant-loop-arg
invariant-loop-arg l =
    (laid_args l.args l.list l.list l.fn.machine.mem ≡ laid_args (drop l.arg-index l.args) l.at l.lowest l.machine.mem)
    × (l.machine ≡ record l.fn.machine { mem = l.machine.mem })
    × (sum_by (λ arg. length arg + 1) (drop l.arg-index l.args) ≤ 1024)
