use Rattle.std.proofs.Common.{◌≡◌, ℕ, ◌-◌, length}
use Rattle.c65_know.specs.Known.{annotated}
use Rattle.c65_pass.specs.Passes.{counted}
use Rattle.c65_pass.proofs.Walks.{Walk}
use Rattle.c65_pass.proofs.once.walk.Given as goal

abbrev pub invariant-loop-at : goal.invariant-loop-at
invariant-loop-at g l = (n : ℕ) × Walk l.pass.rule l.pass.literals.now.items l.fn.seg.out l.fn.seg.lines n l.at (annotated l.seg.lines l.seg.out) l.live × (l.made ≡ counted n)

abbrev pub decreases-loop-at : goal.decreases-loop-at
decreases-loop-at g l = length l.seg.lines - l.at
