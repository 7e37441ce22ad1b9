use Rattle.std.proofs.Common.{◌≡◌, false, arith}
use Rattle.std.specs.Prelude.{◌==◌}
use Rattle.std.proofs.lemmas.Bool.Decides.{nat_tests}
use Rattle.c65_pieces.proofs.Adding.{closed_line}
use Rattle.c65_pieces.proofs.text.close.Goals as goal

pub returns-then-text-ne0 : goal.returns-then-text-ne0
returns-then-text-ne0 c =
    let e : (c.settle_pending.new.text.edge.column == 0) ≡ false = grind (arith, nat_tests) in
    closed_line c.args.text.now c.settle_pending.new.text c.settle.new.text c.settle_pending.ensures e c.settle.ensures c.requires.sorted
