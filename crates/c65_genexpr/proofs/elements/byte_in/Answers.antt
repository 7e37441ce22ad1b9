use Rattle.std.proofs.Common.{Option, sym, subst}
use Rattle.c65_csem.specs.Views.{typed_of}
use Rattle.c65_gendirect.specs.declared.bytes.OperandByte.{OperandByte}
use Rattle.c65_genexpr.specs.Leaving.{ReadFree}
use Rattle.c65_genexpr.proofs.Indexes.{byte_free}
use Rattle.c65_genexpr.proofs.elements.byte_in.Goals as goal

pub returns-clause-free : goal.returns-clause-free
returns-clause-free c =
    let e = typed_of c.args.e.now in
    subst (λ (d : Option OperandByte). ReadFree d e) (sym c.read_byte.ensures) (byte_free c.args.frame.now c.args.pushed e)
