use Rattle.std.proofs.Common.{ℕ, List, Err, subst}
use Rattle.c65_commands.specs.Depth.{Writes}
use Rattle.c65_commands.proofs.DepthLaws.{writes_not}
use Rattle.c65_commands.proofs.depth.write_report.Goals as goal

pub returns-in-Err-clause-written : goal.returns-in-Err-clause-written
returns-in-Err-clause-written g c =
    subst (λ (text : List ℕ). Writes text c.args.report.now.status (g.O.Sink.written c.args.out.now) (g.O.Sink.written c.append_bytes.new.out) (Err c.in-Err.refusal)) c.deref.ensures.value
    (writes_not c.deref.result.now c.args.report.now.status (g.O.Sink.written c.args.out.now) (g.O.Sink.written c.append_bytes.new.out) c.in-Err.refusal c.in-Err.ensures.served c.in-Err.ensures.written)
