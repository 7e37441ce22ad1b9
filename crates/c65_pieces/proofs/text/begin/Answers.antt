use Rattle.std.proofs.Common.{◌≡◌, false, arith}
use Rattle.std.specs.Prelude.{◌==◌}
use Rattle.std.proofs.lemmas.Bool.Decides.{nat_tests}
use Rattle.c65_pieces.proofs.Adding.{begun}
use Rattle.c65_pieces.proofs.text.begin.Goals as goal

pub returns-in_default : goal.returns-in_default
returns-in_default c =
    let e : (c.args.byte == 13) ≡ false = grind (arith, nat_tests) in
    let f : (c.args.byte == 92) ≡ false = grind (arith, nat_tests) in
    begun c.args.text.now c.settle.new.text c.args.byte c.requires.none e f c.settle.ensures
