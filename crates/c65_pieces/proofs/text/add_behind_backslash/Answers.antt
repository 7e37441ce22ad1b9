use Rattle.std.proofs.Common.{◌≡◌, false, arith, ap}
use Rattle.std.specs.Prelude.{◌==◌}
use Rattle.std.proofs.lemmas.Bool.Decides.{nat_tests}
use Rattle.c65_pieces.specs.Given.{pending_bytes}
use Rattle.c65_pieces.proofs.Settling.{joint_backslash}
use Rattle.c65_pieces.proofs.Adding.{behind_one}
use Rattle.c65_pieces.proofs.text.add_behind_backslash.Goals as goal

pub returns-in_default : goal.returns-in_default
returns-in_default c =
    let e : (c.args.byte == 10) ≡ false = grind (arith, nat_tests) in
    let f : (c.args.byte == 13) ≡ false = grind (arith, nat_tests) in
    behind_one c.args.text.now c.settle.new.text c.begin.new.text 92 c.args.byte (ap pending_bytes c.requires.behind) c.settle.ensures (λ more. joint_backslash c.args.byte more e f) c.begin.ensures
