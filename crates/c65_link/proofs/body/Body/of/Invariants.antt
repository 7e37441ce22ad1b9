use Rattle.std.proofs.Common.{◌≡◌, drop}
use Rattle.c65_link.specs.Bodies.{with_lines, body_of}
use Rattle.c65_link.proofs.body.Body.of.Given as goal

abbrev pub invariant-loop-line : goal.invariant-loop-line
invariant-loop-line l = with_lines l.body l.at (drop l.line-index l.lines) ≡ body_of l.lines
