use Rattle.std.proofs.Common.{Option, sym, subst}
use Rattle.c65_csem.specs.Views.{typed_of}
use Rattle.c65_gendirect.specs.declared.bytes.OperandByte.{OperandByte}
use Rattle.c65_genexpr.specs.Leaving.{OperandFree}
use Rattle.c65_genexpr.proofs.Indexes.{operand_free}
use Rattle.c65_genexpr.proofs.elements.low_operand.Goals as goal

pub returns-clause-free : goal.returns-clause-free
returns-clause-free c =
    let a = typed_of c.args.a.now in
    let b = typed_of c.args.b.now in
    subst (λ (d : Option OperandByte). OperandFree d c.args.op b) (sym c.right_byte.ensures) (operand_free c.args.frame.now c.args.pushed c.args.op a b)
