use Rattle.std.proofs.Common.{sym, ap, ◌∙◌, ℤ, to_z, of_z, w64}
use Rattle.std.proofs.lemmas.Int.{to_z-of_z}
use Rattle.c65_base.specs.declared.operators.BinaryOp.{BinaryOp}
use Rattle.c65_ints.specs.Results.{shifted_left_of, shifted_right_of}
use Rattle.c65_fold.specs.Compute.{computed}
use Rattle.c65_fold.proofs.compute.computed.Goals as goal

pub returns-in-Shl : goal.returns-in-Shl
returns-in-Shl c =
    let k = c.args.kind in
    c.shl.ensures.value
    ∙ ap (λ (z : ℤ). shifted_left_of k z (to_z w64 (of_z w64 c.args.y))) (to_z-of_z w64 c.args.a c.ranges.a)
    ∙ ap (λ (z : ℤ). shifted_left_of k c.args.a z) (to_z-of_z w64 c.args.y c.ranges.y)
    ∙ ap (λ (op : BinaryOp). computed op k c.args.a c.args.b c.args.x c.args.y) (sym c.in-Shl.is)

pub returns-in-Shr : goal.returns-in-Shr
returns-in-Shr c =
    let k = c.args.kind in
    c.shr.ensures.value
    ∙ ap (λ (z : ℤ). shifted_right_of k z (to_z w64 (of_z w64 c.args.y))) (to_z-of_z w64 c.args.a c.ranges.a)
    ∙ ap (λ (z : ℤ). shifted_right_of k c.args.a z) (to_z-of_z w64 c.args.y c.ranges.y)
    ∙ ap (λ (op : BinaryOp). computed op k c.args.a c.args.b c.args.x c.args.y) (sym c.in-Shr.is)
