use Rattle.std.proofs.Common.{◌≡◌, OnOk, ◌∷◌, subst, sym}
use Rattle.c65_code.specs.declared.routine.Width.{Width}
use Rattle.c65_rtl.specs.Assembly.{with_pieces}
use Rattle.c65_code.specs.declared.routine.Count.TheVariants.{Four}
use Rattle.c65_rtl.specs.Stack.{raise_pieces}
use Rattle.c65_rtl.specs.Operators.{subtract_pieces, borrow, borrow_on, low_byte}
use Rattle.c65_rtl.proofs.Pieces.{piece_then}
use Rattle.c65_rtl.proofs.operators.subtract.Goals as goal

pub returns-in_ok-put-in-Eax-3 : goal.returns-in_ok-put-in-Eax-3
returns-in_ok-put-in-Eax-3 c =
    let P : Width → Type 0 = λ v. OnOk c.raise-in-Eax.result (c.raise-in-Eax.new.draft ≡ with_pieces c.args.draft.now (subtract_pieces v)) in
    subst P (sym c.in-Eax.is) (piece_then c.raise-in-Eax.result c.args.draft.now c.put-in-Eax.new.draft c.raise-in-Eax.new.draft borrow (borrow_on ∷ low_byte ∷ raise_pieces Four) c.in_ok-put-in-Eax.ensures (piece_then c.raise-in-Eax.result c.put-in-Eax.new.draft c.put-in-Eax-2.new.draft c.raise-in-Eax.new.draft borrow_on (low_byte ∷ raise_pieces Four) c.in_ok-put-in-Eax-2.ensures (piece_then c.raise-in-Eax.result c.put-in-Eax-2.new.draft c.put-in-Eax-3.new.draft c.raise-in-Eax.new.draft low_byte (raise_pieces Four) c.in_ok-put-in-Eax-3.ensures c.raise-in-Eax.ensures)))
