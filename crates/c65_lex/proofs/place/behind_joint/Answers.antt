use Rattle.std.proofs.Common.{◌≡◌, ℕ, ◌<◌, ◌≤◌, ◌∙◌, arith, refl, sym, true, false}
use Rattle.std.specs.Prelude.{nat_lt}
use Rattle.std.proofs.lemmas.Bool.Decides.{nat_tests}
use Rattle.c65_lex.specs.Cells.{next_line}
use Rattle.c65_lex.proofs.Joints.{ahead_vanishes, line_behind}
use Rattle.c65_lex.proofs.place.behind_joint.Goals as goal

many : (d n : ℕ) → 1 < d → line_behind d n ≡ next_line n
many d n h = let t : nat_lt 1 d ≡ true = grind (arith, nat_tests) in rw t refl

one_only : (d n : ℕ) → d ≤ 1 → line_behind d n ≡ n
one_only d n h = let t : nat_lt 1 d ≡ false = grind (arith, nat_tests) in rw t refl

pub returns-then-dropped-gt1-clause-within : goal.returns-then-dropped-gt1-clause-within
returns-then-dropped-gt1-clause-within c =
    (ahead_vanishes c.args.text.now c.args.from _ c.args.dropped c.requires.here c.requires.some c.requires.inside refl (c.next_line_of.ensures ∙ sym (many c.args.dropped c.args.from.line (omega arith))) refl).0

pub returns-then-dropped-gt1-clause-same : goal.returns-then-dropped-gt1-clause-same
returns-then-dropped-gt1-clause-same c =
    (ahead_vanishes c.args.text.now c.args.from _ c.args.dropped c.requires.here c.requires.some c.requires.inside refl (c.next_line_of.ensures ∙ sym (many c.args.dropped c.args.from.line (omega arith))) refl).1

pub returns-else-dropped-gt1-clause-same : goal.returns-else-dropped-gt1-clause-same
returns-else-dropped-gt1-clause-same c =
    (ahead_vanishes c.args.text.now c.args.from _ c.args.dropped c.requires.here c.requires.some c.requires.inside refl (sym (one_only c.args.dropped c.args.from.line (omega arith))) refl).1
