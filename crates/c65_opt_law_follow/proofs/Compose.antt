-- Following composes.
use Rattle.std.proofs.Common.{◌≡◌, ℕ, ◌+◌, ◌≤◌, Bool, IsTrue, List, [], refl, subst, arith}
use Rattle.c65_code.specs.Comes.{Seen, Shown, ComesFrom}
use Rattle.c65_code.specs.Follows.{IsBelow, through, Follows}
use Rattle.c65_code.specs.LineState.{State}
use Rattle.c65_code.specs.Placement.{Setting}
use Rattle.c65_opt_law_follow.specs.Laws.{FollowingComposes}

pub following_composes : FollowingComposes
following_composes first second more rest a b c main h k = record {
  by = λ test w t none empty runs. k.by test w t none empty (h.by test w t none empty runs);
  turns = λ test grows w t none empty runs.
      let sum : w + more + rest ≡ w + (more + rest) = omega arith in
      subst (λ (v : ℕ). ComesFrom c main (λ shown seen. test shown (through (λ f p. second f (first f p)) seen)) v t) sum
      (k.turns (λ shown seen. test shown (through first seen)) (λ shown s r le y. grows shown (through first s) (through first r) (λ f p. le f (first f p)) y) (w + more) t none empty (h.turns test grows w t none empty runs));
}
