-- Steps of the meaning and ways of the machine under what is followed.
use Rattle.std.proofs.Common.{◌≡◌, ℕ, zero, suc, ◌+◌, ◌*◌, ◌≤◌, List, [], ◌∷◌, Bool, true, false, ap, arith}
use Rattle.std.specs.Prelude.{if◌then◌else◌, ◌==◌, ◌&&◌, length}
use Rattle.c65_meaning.specs.Step.{perform, steps}
use Rattle.c65_code.specs.LineState.{Place}
use Rattle.c65_code.specs.Comes.{Seen, seen_at, here}
use Rattle.c65_agree_step.proofs.Ways.{weaken, bind}
use Rattle.c65_agree_state.specs.World.{World, program_in, setting_in, total, owned_at, total_in, HasBranched}
use Rattle.c65_agree_state.specs.Follows.{Agrees, Follows}
use Rattle.c65_agree_state.specs.Laws.{FollowsWeaken, WaysAreFollowed, StepsEarn, ArrivalsCount, HeadsCount, ReadyIsCalm}

-- ---- weights

pub follows_weaken : FollowsWeaken
follows_weaken g n v w m p t seen le f d = weaken (setting_in g) (Agrees g (steps (program_in g) n m)) (4000 * n + w) (omega arith) (f d)

pub ways_are_followed : WaysAreFollowed
ways_are_followed g n v w m p t seen h d =
    weaken (setting_in g) (Agrees g (steps (program_in g) n m)) (4000 * n + (w + v)) (omega arith)
    (bind (setting_in g) (λ q u later. Follows g n v m q u later) (Agrees g (steps (program_in g) n m)) (4000 * n + v) h (λ q u later f. f d))

pub steps_earn : StepsEarn
steps_earn g zero w i k vs c p t seen calm out end turns f d = here (out, end, turns) calm
steps_earn g (suc n) w i k vs c p t seen calm out end turns f d =
    weaken (setting_in g) (Agrees g (steps (program_in g) n (perform (program_in g) i k vs c))) (4000 * suc n + w) (omega arith) (f n (omega arith) (omega (arith, d.0), d.1))

-- ---- arrivals

seen_grows : (q : Place) (seen : Seen) (f p : ℕ) → seen f p ≤ seen_at q seen f p
seen_grows q seen f p = go ((f == q.0) && (p == q.1))
  where
    go : (b : Bool) → seen f p ≤ (if b then suc (seen f p) else seen f p)
    go true = omega arith
    go false = omega arith

pub total_grows : (sites : List Place) (q : Place) (seen : Seen) → total sites seen ≤ total sites (seen_at q seen)
total_grows [] q seen = omega arith
total_grows (s ∷ ss) q seen = omega (arith, seen_grows q seen s.0 s.1, total_grows ss q seen)

-- at a line that is owned an arrival more is there for its turn
pub total_owned : (sites : List Place) (q : Place) (seen : Seen) → total sites seen + owned_at sites q ≤ total sites (seen_at q seen)
total_owned [] q seen = omega arith
total_owned (s ∷ ss) q seen = omega (arith, one ((s.0 == q.0) && (s.1 == q.1)), total_owned ss q seen)
  where
    one : (b : Bool) → seen s.0 s.1 + (if b then 1 else 0) ≤ (if b then suc (seen s.0 s.1) else seen s.0 s.1)
    one true = omega arith
    one false = omega arith

pub arrivals_count : ArrivalsCount
arrivals_count g turns q seen le = omega (arith, total_owned g.owns q seen, total_grows g.heads q seen)

pub heads_count : HeadsCount
heads_count g turns q seen le = omega (arith, total_owned g.owns q seen, total_owned g.heads q seen)

-- whether or not a branch was taken
pub branches_count : (g : World) (taken : Bool) (turns : ℕ) (q : Place) (seen : Seen) → turns ≤ total_in g seen → HasBranched g taken turns q (seen_at q seen)
branches_count g true turns q seen le = heads_count g turns q seen le
branches_count g false turns q seen le = arrivals_count g turns q seen le

-- ---- stacks

pub ready_is_calm : ReadyIsCalm
ready_is_calm g a pushed needs c w k t r =
    let h : length t.pushed ≡ 0 = ap length r.none_pushed in
    record {
      calm = record { low = omega (arith, r.room, r.joins.few); high = omega (arith, r.sp, r.joins.top); hard = omega (arith, h, r.joins.hard, r.joins.few_calls); constant = r.joins.constant; bytes = r.joins.bytes };
      soft = omega (arith, r.room, r.joins.few);
      hard = omega (arith, h, r.joins.hard, r.joins.few_calls);
    }
