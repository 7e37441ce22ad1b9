-- One number that each rewriting lowers.
use Rattle.std.proofs.Common.{inl, inr, ℕ, ◌+◌, ◌*◌, ◌<◌, ◌≤◌, Bool, true, false, List, [], ◌∷◌, length, is_some, arith, if◌then◌else◌}
use Rattle.std.proofs.Math.Nat.{mul-le-mul_right}
use Rattle.c65_code.specs.declared.line.Line.{Line}
use Rattle.c65_pass.specs.Labels.{target_hop, chained_in, chained}
use Rattle.c65_pass.specs.Rewriting.{bulk, IsLower}

-- the bulk counts for more than all jumps to JMPs, where lines are at most so many
abbrev pub rank : ℕ → List Line → ℕ
rank most lines = bulk lines * (most + 1) + chained lines

one_or_none : (b : Bool) → (if b then 1 else 0) ≤ 1
one_or_none true = omega arith
one_or_none false = omega arith

pub chained_le : (all lines : List Line) → chained_in all lines ≤ length lines
chained_le all [] = omega arith
chained_le all (line ∷ lines) = omega (arith, chained_le all lines, one_or_none (is_some (target_hop all line)))

pub lower_rank : (most : ℕ) (new old : List Line) → bulk old ≤ most → IsLower new old → rank most new < rank most old
lower_rank most new old h (inl less) =
    let few = chained_le new new in
    let step : (bulk new + 1) * (most + 1) ≤ bulk old * (most + 1) = mul-le-mul_right (most + 1) (omega (arith, less)) in
    omega (arith, few, step, less, h)
lower_rank most new old h (inr same) = rw same.0 (omega (arith, same.1))

pub lower_bulk : (new old : List Line) → IsLower new old → bulk new ≤ bulk old
lower_bulk new old (inl less) = omega (arith, less)
lower_bulk new old (inr same) = omega (arith, same.0)

-- a place in the lines goes on, or else the rank is lower
pub turn : (most new old places left : ℕ) → new < old → places ≤ most → new * (most + 1) + places < old * (most + 1) + left
turn most new old places left less few =
    let step : (new + 1) * (most + 1) ≤ old * (most + 1) = mul-le-mul_right (most + 1) (omega (arith, less)) in
    omega (arith, step, few)
