-- What is known where a branch was taken, and tests of the other sense.
use Rattle.std.proofs.Common.{◌≡◌, ℕ, ◌+◌, ◌<◌, ◌≤◌, ◌∷◌, List, Bool, true, false, length, refl, sym, ap, ◌∙◌, subst, arith}
use Rattle.std.specs.Prelude.{not, Result, Ok, Err}
use Rattle.std.specs.Bool.{beq}
use Rattle.std.proofs.lemmas.Int.{ints}
use Rattle.c65_base.specs.declared.operators.UnaryOp.TheVariants.{Not}
use Rattle.c65_ints.specs.declared.types.IntType.TheVariants.{Int}
use Rattle.c65_ints.specs.Ranges.{InRange}
use Rattle.c65_meaning.specs.Why.{Why, ◌>>=◌}
use Rattle.c65_meaning.specs.Integers.{truth}
use Rattle.c65_meaning.specs.Store.{Store, Value, Whole}
use Rattle.c65_meaning.specs.Items.{Item, Apply1}
use Rattle.c65_meaning.specs.Operators.{test, truth_of}
use Rattle.c65_meaning.specs.State.{Scene, Running}
use Rattle.c65_meaning.specs.Step.{go_on}
use Rattle.c65_code.specs.LineState.{Place as Spot, State}
use Rattle.c65_code.specs.Comes.{Seen}
use Rattle.c65_agree_store.specs.Stands.{Placing, Banks}
use Rattle.c65_agree_state.specs.World.{World, Active, place_in, HasTurns, HasBranched}
use Rattle.c65_agree_state.specs.Follows.{Follows}
use Rattle.c65_agree_state.specs.Exprs.{Kept, Tells}
use Rattle.c65_agree_state.proofs.Followed.{follows_weaken, steps_earn, ready_is_calm}
use Rattle.c65_agree_state.proofs.Nodes.{ready_stays}
use Rattle.c65_agree_rows.proofs.Quiet.{nothing_follows}
use Rattle.c65_agree_operate.specs.Manners.{Manner, IsLeft}
use Rattle.c65_agree_compare.specs.Branches.{end_of, RestOfSettled}
use Rattle.c65_agree_compare.specs.Laws.{BranchesTest, SettlementsDecide, SettlementsBranch, BranchesAreTests, NotsSettle}

pub branched_turns : (g : World) (taken : Bool) (turns : ℕ) (q : Spot) (seen : Seen) → HasBranched g taken turns q seen → HasTurns g turns q seen
branched_turns g true turns q seen h = omega (arith, h)
branched_turns g false turns q seen h = h

-- where a branch was taken, whatever is told of it
pub branched_as : (g : World) (x : Bool) (turns : ℕ) (q : Spot) (seen : Seen) → HasBranched g true turns q seen → HasBranched g x turns q seen
branched_as g true turns q seen h = h
branched_as g false turns q seen h = branched_turns g true turns q seen h

-- ---- one kind of tests as another

pub branches_test : BranchesTest
branches_test g a m f s to needs pushed work lines does n w p k vs c q b t seen has r turns rest =
    does n w p k vs c q b t seen has r turns (λ j v taken c2 q2 b2 u later lt kept fit told left branched.
    rest j v taken c2 q2 b2 u later lt kept fit told left (branched_turns g taken c2.turns (place_in g a (end_of g a taken to (p + length lines))) later branched))

pub settlements_decide : SettlementsDecide
settlements_decide g a m s to needs pushed work lines does n w p k vs c q b t seen has r turns rest =
    does n w p k vs c q b t seen has r turns (λ j v c2 q2 b2 u later lt kept left branched.
    rest j v c2 q2 b2 u later lt kept left (branched_turns g (beq v s) c2.turns (place_in g a (end_of g a (beq v s) to (p + length lines))) later branched))

pub true_of : (s : Store) (b : Bool) → truth_of s (Whole (truth b)) ≡ Ok b
true_of s true = refl
true_of s false = refl

pub in_int : (b : Bool) → InRange Int (truth b)
in_int true = record { low = omega (arith, ints); high = omega (arith, ints) }
in_int false = record { low = omega (arith, ints); high = omega (arith, ints) }

-- a truth that is known
pub tells : (store : Store) (v : Value) (b s : Bool) → truth_of store v ≡ Ok b → Tells store v s (beq b s)
tells store v b s is x e = let same : Ok b ≡ Ok x = sym is ∙ e in let same2 : b ≡ x = cc in ap (λ y. beq y s) same2

pub settlements_branch : SettlementsBranch
settlements_branch g a m s to needs pushed work lines does n w p k vs c q b t seen has r turns rest =
    does n w p k vs c q b t seen has r turns (λ j v c2 q2 b2 u later lt kept left branched.
    follows_weaken g j (w + 2600 + m.over) (w + 2700 + m.over) (Running k (Whole (truth v) ∷ vs) c2) (place_in g a (end_of g a (beq v s) to (p + length lines))) u later (omega arith)
    (rest j (Whole (truth v)) (beq v s) c2 q2 b2 u later lt kept (in_int v) (tells c2.store (Whole (truth v)) v s (true_of c2.store v)) left branched))

pub branches_are_tests : BranchesAreTests
branches_are_tests g a m f s to needs pushed work lines = (
  λ does n w p k vs c q b t seen has r turns rest.
      does n w p k vs c q b t seen has r turns (λ j v taken c2 q2 b2 u later lt kept fit told left branched.
      follows_weaken g j (w + 2600) (w + 2600 + m.over) (Running k (v ∷ vs) c2) (place_in g a (end_of g a taken to (p + length lines))) u later (omega arith) (rest j v taken c2 q2 b2 u later lt kept fit told branched)),
  λ does n w p k vs c q b t seen has r turns rest.
      does n w p k vs c q b t seen has r turns (λ j v taken c2 q2 b2 u later lt kept fit told branched.
      follows_weaken g j (w + 2600 + 0) (w + 2600) (Running k (v ∷ vs) c2) (place_in g a (end_of g a taken to (p + length lines))) u later (omega arith) (rest j v taken c2 q2 b2 u later lt kept fit told (record { scene = tt; held = tt }) branched)),
)

-- ---- `!`

other_sense : (b s : Bool) → beq b (not s) ≡ beq (not b) s
other_sense true true = refl
other_sense true false = refl
other_sense false true = refl
other_sense false false = refl

module _ (g : World) (a : Active) (m : Manner) (s : Bool) (to : ℕ) (n weight p : ℕ) (k : List Item) (vs : List Value) (c : Scene) (w : Placing) (b : Banks) (t : State) (rest : RestOfSettled g a m s to n weight p k vs c w b t)
    (o : ℕ) (lt : o < n) (v : Value) (taken : Bool) (c2 : Scene) (w2 : Placing) (b2 : Banks) (u : State) (later : Seen) (kept : Kept g a c w b t c2 w2 b2 u) (told : Tells c2.store v (not s) taken) (left : IsLeft m c t c2 u) (branched : HasBranched g taken c2.turns (place_in g a (end_of g a taken to p)) later) where
  turned_round : (x : Result Bool Why) → truth_of c2.store v ≡ x → Follows g o (weight + 2600 + m.over + 4000) (go_on (x >>= λ y. test (not y)) k vs c2) (place_in g a (end_of g a taken to p)) u later
  turned_round (Err why) e = nothing_follows g why o (weight + 2600 + m.over + 4000) (place_in g a (end_of g a taken to p)) u later
  turned_round (Ok y) e =
      let same : taken ≡ beq (not y) s = told y e ∙ other_sense y s in
      subst (λ x. Follows g o (weight + 2600 + m.over + 4000) (Running k (Whole (truth (not y)) ∷ vs) c2) (place_in g a (end_of g a x to p)) u later) (sym same)
      (follows_weaken g o (weight + 2700 + m.over) (weight + 2600 + m.over + 4000) (Running k (Whole (truth (not y)) ∷ vs) c2) (place_in g a (end_of g a (beq (not y) s) to p)) u later (omega arith)
      (rest o (not y) c2 w2 b2 u later lt kept left (subst (λ x. HasBranched g x c2.turns (place_in g a (end_of g a x to p)) later) same branched)))

pub nots_settle : NotsSettle
nots_settle g a m f s to needs pushed work lines does n weight p k vs c w b t seen has r turns rest =
    does n weight p (Apply1 Not f ∷ k) vs c w b t seen has r turns (λ j v taken c2 w2 b2 u later lt kept fit told left branched.
    let ready = ready_stays g a pushed needs needs c c2 w w2 b b2 t u (omega arith) r kept in
    let turned = branched_turns g taken c2.turns (place_in g a (end_of g a taken to (p + length lines))) later branched in
    steps_earn g j (weight + 2600 + m.over) (Apply1 Not f) k (v ∷ vs) c2 (place_in g a (end_of g a taken to (p + length lines))) u later (ready_is_calm g a pushed needs c2 w2 b2 u ready).calm kept.joins.output kept.joins.ended (omega (arith, turned)) (λ o less.
    turned_round g a m s to n weight (p + length lines) k vs c w b t rest o (omega (arith, lt, less)) v taken c2 w2 b2 u later kept told left branched (truth_of c2.store v) refl))
