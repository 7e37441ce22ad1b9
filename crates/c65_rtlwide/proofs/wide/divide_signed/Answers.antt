use Rattle.std.proofs.Common.{◌∷◌, []}
use Rattle.c65_rtl.specs.Assembly.{ptr1, ptr3}
use Rattle.c65_rtlwide.specs.Wide.{terms, signs, divisor_sign, negation, nothing_yet, divide}
use Rattle.c65_rtl.proofs.Pieces.{piece_then}
use Rattle.c65_rtlwide.proofs.wide.divide_signed.Goals as goal

pub returns : goal.returns
returns c = piece_then c.put-5.result c.args.draft.now c.put.new.draft c.put-5.new.draft terms (signs ∷ (negation ptr1 0) ∷ divisor_sign ∷ (negation ptr3 1) ∷ nothing_yet ∷ divide ∷ []) c.in_ok-put.ensures (piece_then c.put-5.result c.put.new.draft c.put-2.new.draft c.put-5.new.draft signs ((negation ptr1 0) ∷ divisor_sign ∷ (negation ptr3 1) ∷ nothing_yet ∷ divide ∷ []) c.in_ok-put-2.ensures (piece_then c.put-5.result c.put-2.new.draft c.negate.new.draft c.put-5.new.draft (negation ptr1 0) (divisor_sign ∷ (negation ptr3 1) ∷ nothing_yet ∷ divide ∷ []) c.in_ok-negate.ensures (piece_then c.put-5.result c.negate.new.draft c.put-3.new.draft c.put-5.new.draft divisor_sign ((negation ptr3 1) ∷ nothing_yet ∷ divide ∷ []) c.in_ok-put-3.ensures (piece_then c.put-5.result c.put-3.new.draft c.negate-2.new.draft c.put-5.new.draft (negation ptr3 1) (nothing_yet ∷ divide ∷ []) c.in_ok-negate-2.ensures (piece_then c.put-5.result c.negate-2.new.draft c.put-4.new.draft c.put-5.new.draft nothing_yet (divide ∷ []) c.in_ok-put-4.ensures c.put-5.ensures)))))
