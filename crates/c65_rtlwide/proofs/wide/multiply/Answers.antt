use Rattle.std.proofs.Common.{◌∷◌, []}
use Rattle.c65_rtl.specs.Stack.{back}
use Rattle.c65_rtlwide.specs.Wide.{terms, nothing_yet, multiply, remainder}
use Rattle.c65_rtl.proofs.Pieces.{piece_then}
use Rattle.c65_rtlwide.proofs.wide.multiply.Goals as goal

pub returns : goal.returns
returns c = piece_then c.put-5.result c.args.draft.now c.put.new.draft c.put-5.new.draft terms (nothing_yet ∷ multiply ∷ remainder ∷ back ∷ []) c.in_ok-put.ensures (piece_then c.put-5.result c.put.new.draft c.put-2.new.draft c.put-5.new.draft nothing_yet (multiply ∷ remainder ∷ back ∷ []) c.in_ok-put-2.ensures (piece_then c.put-5.result c.put-2.new.draft c.put-3.new.draft c.put-5.new.draft multiply (remainder ∷ back ∷ []) c.in_ok-put-3.ensures (piece_then c.put-5.result c.put-3.new.draft c.put-4.new.draft c.put-5.new.draft remainder (back ∷ []) c.in_ok-put-4.ensures c.put-5.ensures)))
