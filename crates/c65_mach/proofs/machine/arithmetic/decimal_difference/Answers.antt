use Rattle.std.proofs.Common.{rules, ◌≡◌, ◌%◌, ℕ, subst, arith}
use Rattle.c65_mach.specs.Decimal.{IsDifference}
use Rattle.c65_mach.specs.Step.{decimal_difference}
use Rattle.c65_mach.proofs.Decimals.{written_difference}
use Rattle.c65_mach.proofs.machine.arithmetic.decimal_difference.Goals as goal

pub returns-clause-written : goal.returns-clause-written
returns-clause-written c =
    let same : decimal_difference c.args.a c.args.v c.args.c ≡ c.if-difference-lt512.difference % 256 = search rules in
    subst (λ (n : ℕ). IsDifference c.args.a c.args.v c.args.c n) same (written_difference c.args.a c.args.v c.args.c (omega arith) (omega arith))
