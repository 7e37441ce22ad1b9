use Rattle.std.proofs.Common.{sym, false}
use Rattle.c65_pieces.specs.Settled.{ahead}
use Rattle.c65_pieces.proofs.Opened.{comment_some}
use Rattle.c65_pieces.proofs.scan.leave.Goals as goal

pub returns-in-Nothing : goal.returns-in-Nothing
returns-in-Nothing c = absurd (comment_some false (ahead c.args.lines.now c.args.from) (sym c.in-Nothing.ensures))
