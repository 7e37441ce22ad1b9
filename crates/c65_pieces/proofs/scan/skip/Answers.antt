use Rattle.std.proofs.Common.{sym, arith, suc}
use Rattle.std.proofs.lemmas.Bool.Decides.{nat_tests}
use Rattle.c65_pieces.specs.Settled.{ahead}
use Rattle.c65_lex.proofs.Gaps.{over_shorter}
use Rattle.c65_pieces.proofs.scan.skip.Goals as goal

pub loop-rest-smaller : goal.loop-rest-smaller
loop-rest-smaller c = over_shorter (ahead c.args.lines.now c.loop-rest.place) (ahead c.args.lines.now c.in-Over.rest) (sym c.in-Over.ensures)

pub loop-rest-preserved : goal.loop-rest-preserved
loop-rest-preserved c =
    let i = c.loop-rest.invariant in
    (suc i.0, (ahead c.args.lines.now c.loop-rest.place, i.1, sym c.in-Over.ensures), grind (arith, nat_tests))
