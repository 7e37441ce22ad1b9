use Rattle.std.proofs.Common.{◌≡◌, false, arith, ap}
use Rattle.std.specs.Prelude.{◌==◌}
use Rattle.std.proofs.lemmas.Bool.Decides.{nat_tests}
use Rattle.c65_pieces.specs.Given.{pending_bytes}
use Rattle.c65_pieces.proofs.Settling.{joint_return}
use Rattle.c65_pieces.proofs.Adding.{behind_one}
use Rattle.c65_pieces.proofs.text.add_behind_return.Goals as goal

pub returns : goal.returns
returns c =
    let e : (c.args.byte == 10) ≡ false = grind (arith, nat_tests) in
    behind_one c.args.text.now c.settle.new.text c.begin-2.new.text 13 c.args.byte (ap pending_bytes c.requires.behind) c.settle.ensures (λ more. joint_return c.args.byte more e) c.begin-2.ensures
