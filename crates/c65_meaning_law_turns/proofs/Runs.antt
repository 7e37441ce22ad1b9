-- From every state a run comes to its end, or to a turn.
use Rattle.std.proofs.Common.{◌≡◌, ◌⊎◌, inl, inr, ℕ, zero, suc, ◌+◌, ◌≤◌, List, [], ◌∷◌, length, refl, subst, sym, arith}
use Rattle.c65_meaning.specs.Program.{ProgramTy}
use Rattle.c65_meaning.specs.Store.{Value}
use Rattle.c65_meaning.specs.Items.{Item}
use Rattle.c65_meaning.specs.State.{Scene, State, Undefined, Deep, Ended, Running}
use Rattle.c65_meaning.specs.Step.{steps}
use Rattle.c65_meaning.specs.Sem.{IsDefined, turns_of, outcome_of, sem, state_at}
use Rattle.c65_meaning.proofs.RunLaws.{runs_go_on}
use Rattle.c65_meaning_law_turns.specs.Turns.{HasEnded, TurnsGoOn}
use Rattle.c65_meaning_law_turns.specs.Weights.{weight}
use Rattle.c65_meaning_law_turns.specs.Places.{IsFrom}
use Rattle.c65_meaning_law_turns.proofs.Places.{from_start}
use Rattle.c65_meaning_law_turns.proofs.Settling.{IsOn, Settles, now, later}
use Rattle.c65_meaning_law_turns.proofs.Steps.{places, Fewer, Further, performs}

module _ (p : ProgramTy) (before : ℕ) where
  by_weight : (depth room most : ℕ) → Fewer p before depth → Further p before depth room → (k : List Item) (vs : List Value) (c : Scene) (low : ℕ)
      → length c.frames ≤ depth → before ≤ c.turns → IsFrom low k → places p before c ≤ low + room → weight p.unit k ≤ most → Settles p before (Running k vs c)
  by_weight depth room most fewer further [] vs c low deep le from fits light = later p before _ (now p before _ tt)
  by_weight depth room zero fewer further (i ∷ k) vs c low deep le from fits light =
      later p before _ (performs p before depth room zero fewer further (λ j ws d lo x y z w v. absurd (omega arith)) c low deep le fits i k vs from light)
  by_weight depth room (suc most) fewer further (i ∷ k) vs c low deep le from fits light =
      later p before _ (performs p before depth room (suc most) fewer further (λ j ws d lo x y z w v. by_weight depth room most fewer further j ws d lo x y z w (omega arith)) c low deep le fits i k vs from light)

  by_room : (depth room : ℕ) → Fewer p before depth → (k : List Item) (vs : List Value) (c : Scene) (low : ℕ)
      → length c.frames ≤ depth → before ≤ c.turns → IsFrom low k → places p before c ≤ low + room → Settles p before (Running k vs c)
  by_room depth zero fewer k vs c low deep le from fits =
      by_weight depth zero (weight p.unit k) fewer (λ j ws d lo x y z more less. absurd (omega arith)) k vs c low deep le from fits (omega arith)
  by_room depth (suc room) fewer k vs c low deep le from fits =
      by_weight depth (suc room) (weight p.unit k) fewer (λ j ws d lo x y z more less. by_room depth room fewer j ws d lo x y z (omega arith)) k vs c low deep le from fits (omega arith)

  by_depth : (depth : ℕ) (k : List Item) (vs : List Value) (c : Scene) → length c.frames ≤ depth → before ≤ c.turns → Settles p before (Running k vs c)
  by_depth zero k vs c deep le = by_room zero (places p before c) (λ j ws d few y. absurd (omega arith)) k vs c 0 deep le (from_start k) (omega arith)
  by_depth (suc depth) k vs c deep le = by_room (suc depth) (places p before c) (λ j ws d few y. by_depth depth j ws d (omega arith) y) k vs c 0 deep le (from_start k) (omega arith)

-- ---- turn after turn

module _ (p : ProgramTy) (args : List (List ℕ)) (input : List ℕ) (always : (n : ℕ) → IsDefined (sem p args input n)) where
  abbrev Goal : ℕ → Type 0
  Goal least = (n : ℕ) × ((least ≤ turns_of (sem p args input n)) ⊎ HasEnded (sem p args input n))

  -- where the run stands after n steps
  reached : (least n : ℕ) (s : State) → state_at p args input n ≡ s → IsOn p least s → Goal (suc least)
  reached least n (Undefined why) e h = absurd (subst (λ (x : State). IsDefined (outcome_of x)) e (always n))
  reached least n Deep e h = absurd (subst (λ (x : State). IsDefined (outcome_of x)) e (always n))
  reached least n (Ended out status turns) e h = (n, inr (subst (λ (x : State). HasEnded (outcome_of x)) (sym e) tt))
  reached least n (Running k vs c) e h = (n, inl (subst (λ (x : State). suc least ≤ turns_of (outcome_of x)) (sym e) h))

  one_more : (least n : ℕ) (s : State) → state_at p args input n ≡ s → least ≤ turns_of (outcome_of s) → Goal (suc least)
  one_more least n (Undefined why) e h = absurd (subst (λ (x : State). IsDefined (outcome_of x)) e (always n))
  one_more least n Deep e h = absurd (subst (λ (x : State). IsDefined (outcome_of x)) e (always n))
  one_more least n (Ended out status turns) e h = (n, inr (subst (λ (x : State). HasEnded (outcome_of x)) (sym e) tt))
  one_more least n (Running k vs c) e h =
      let g : Settles p least (Running k vs c) = by_depth p least (length c.frames) k vs c (omega arith) h in
      reached least (n + g.count) (steps p g.count (Running k vs c)) (subst (λ (x : State). state_at p args input (n + g.count) ≡ steps p g.count x) e (runs_go_on p args input n g.count)) g.on

  go_on : (least : ℕ) → Goal least
  go_on zero = (0, inl (omega arith))
  go_on (suc least) = more (go_on least)
    where
      more : Goal least → Goal (suc least)
      more (n, inl h) = one_more least n (state_at p args input n) refl h
      more (n, inr h) = (n, inr h)

pub turns_go_on : TurnsGoOn
turns_go_on p args input always least = go_on p args input always least
