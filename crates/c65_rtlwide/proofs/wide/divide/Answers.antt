use Rattle.std.proofs.Common.{◌∷◌, []}
use Rattle.c65_rtlwide.specs.Wide.{terms, nothing_yet, divide}
use Rattle.c65_rtl.proofs.Pieces.{piece_then}
use Rattle.c65_rtlwide.proofs.wide.divide.Goals as goal

pub returns : goal.returns
returns c = piece_then c.put-3.result c.args.draft.now c.put.new.draft c.put-3.new.draft terms (nothing_yet ∷ divide ∷ []) c.in_ok-put.ensures (piece_then c.put-3.result c.put.new.draft c.put-2.new.draft c.put-3.new.draft nothing_yet (divide ∷ []) c.in_ok-put-2.ensures c.put-3.ensures)
