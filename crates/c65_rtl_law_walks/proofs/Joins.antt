-- Runs of lines one behind the other, and round after round.
use Rattle.std.proofs.Common.{ℕ, zero, suc, ◌+◌, ◌≤◌, inl, inr, sym, subst, arith, IsTrue}
use Rattle.c65_code.specs.LineState.{Place, State}
use Rattle.c65_code.specs.RawMachine.{RawSetting, Bounds, RawComes, here, on}
use Rattle.c65_rtl.proofs.Ways.{weaken}
use Rattle.c65_rtl_law_walks.specs.Joined.{RunsAreJoined, LoopsEnd, Turns, Around, label_in}

pub bind : (s : RawSetting) (bounds : Bounds) (Q R : Place → State → Type 0) (v w : ℕ) (p : Place) (t : State)
    → RawComes s bounds Q v p t → ((q : Place) (u : State) → Q q u → RawComes s bounds R w q u) → RawComes s bounds R (v + w) p t
bind s bounds Q R v w p t (here h) next = weaken s bounds R w (v + w) p t (omega arith) (next p t h)
bind s bounds Q R v w p t (on {v = u} l is running within fits rest) next = on {v = u + w} l is running within (omega arith) (λ q k m. bind s bounds Q R u w q k (rest q k m) next)

module _ (s : RawSetting) (bounds : Bounds) (Q : Place → State → Type 0) (f : ℕ) (Inv : ℕ → ℕ → State → Type 0) (round : (l n : ℕ) (t : State) → Inv l n t → Turns s bounds Q f Inv l n t) where
  -- from the end of a round on
  go_on : (less : ℕ) (q : Place) (u : State) → ((l : ℕ) → Inv l less u → RawComes s bounds Q less (label_in s f l) u) → Around s Q f Inv less q u → RawComes s bounds Q less q u
  go_on less q u again (inl done) = here done
  go_on less q u again (inr (l, at, inv)) = subst (λ (q : Place). RawComes s bounds Q less q u) (sym at) (again l inv)

  pub rounds_end : (fuel l n : ℕ) (t : State) → n ≤ fuel → Inv l n t → RawComes s bounds Q n (label_in s f l) t
  rounds_end zero l n t le inv =
      let fewer = (round l n t inv).fewer in
      absurd (omega arith)
  rounds_end (suc fuel) l n t le inv =
      let r : Turns s bounds Q f Inv l n t = round l n t inv in
      let fewer = r.fewer in
      weaken s bounds Q (r.spent + r.less) n (label_in s f l) t r.weighs
      (bind s bounds (Around s Q f Inv r.less) Q r.spent r.less (label_in s f l) t r.comes (λ q u h. go_on r.less q u (λ k inv. rounds_end fuel k r.less u (omega arith) inv) h))

-- of tests
pub runs_are_joined : RunsAreJoined
runs_are_joined s bounds first second v w p t comes next = bind s bounds (λ q u. IsTrue (first q u)) (λ q u. IsTrue (second q u)) v w p t comes next

pub loops_end : LoopsEnd
loops_end s bounds done f inv round l n t holds = rounds_end s bounds (λ q u. IsTrue (done q u)) f (λ l n u. IsTrue (inv l n u)) round n l n t (omega arith) holds
