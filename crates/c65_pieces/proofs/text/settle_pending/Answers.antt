use Rattle.std.proofs.Common.{refl, ap}
use Rattle.c65_pieces.specs.Given.{pending_bytes, is_nothing}
use Rattle.c65_pieces.proofs.Adding.{flushed_one, flushed_two}
use Rattle.c65_pieces.proofs.text.settle_pending.Goals as goal

pub returns-in-Return : goal.returns-in-Return
returns-in-Return c = flushed_one c.args.text.now c.settle.new.text 13 (ap pending_bytes c.in-Return.is) (ap is_nothing c.in-Return.is) c.settle.ensures

pub returns-in-Backslash : goal.returns-in-Backslash
returns-in-Backslash c = flushed_one c.args.text.now c.settle-in-Backslash.new.text 92 (ap pending_bytes c.in-Backslash.is) (ap is_nothing c.in-Backslash.is) c.settle-in-Backslash.ensures

pub returns-in-BackslashReturn : goal.returns-in-BackslashReturn
returns-in-BackslashReturn c = flushed_two c.args.text.now c.settle-in-BackslashReturn.new.text c.settle-in-BackslashReturn-2.new.text 92 13 (ap pending_bytes c.in-BackslashReturn.is) (ap is_nothing c.in-BackslashReturn.is) refl c.settle-in-BackslashReturn.ensures c.settle-in-BackslashReturn-2.ensures
