use Rattle.std.proofs.Common.{◌≡◌, ◌++◌, take, drop}
use Rattle.c65_lex.specs.Cells.{bytes}
use Rattle.c65_pieces.specs.Settled.{ahead}
use Rattle.c65_lex.specs.Next.{is_any_long}
use Rattle.c65_pieces.proofs.scan.take.Given as goal

abbrev pub invariant-loop-left : goal.invariant-loop-left
invariant-loop-left l = record {
  long : is_any_long (take l.left (ahead l.lines l.place)) ≡ is_any_long (take l.fn.count (ahead l.lines l.fn.from));
  spelled : l.spelling.items ++ bytes (take l.left (ahead l.lines l.place)) ≡ bytes (take l.fn.count (ahead l.lines l.fn.from));
  behind : drop l.left (ahead l.lines l.place) ≡ drop l.fn.count (ahead l.lines l.fn.from);
}

abbrev pub decreases-loop-left : goal.decreases-loop-left
decreases-loop-left l = l.left
