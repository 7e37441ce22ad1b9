use Rattle.std.proofs.Common.{◌≡◌, ℕ, suc, ◌+◌, take, take_all, subst, arith}
use Rattle.std.specs.Prelude.{All}
use Rattle.c65_optimise.specs.Optimised.{HasByte}
use Rattle.c65_optimise.proofs.FunctionLaws.{next_all}
use Rattle.c65_optimise.proofs.functions.have_bytes.Goals as goal

pub loop-line-preserved : goal.loop-line-preserved
loop-line-preserved c =
    let more : suc c.loop-line.line-index ≡ c.loop-line.line-index + 1 = omega arith in
    subst (λ (n : ℕ). All HasByte (take n c.args.lines.now)) more (next_all HasByte c.args.lines.now c.loop-line.line-index _ c.loop-line-test.true c.loop-line.invariant c.has_byte.ensures)

pub returns : goal.returns
returns c = subst (All HasByte) (take_all c.loop-line.line-index c.args.lines.now (omega (arith, c.loop-line-test.false))) c.loop-line.invariant
