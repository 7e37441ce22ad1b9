-- Where a round changes nothing, the numbers cover the costs.
use Rattle.std.proofs.Common.{◌≡◌, ℕ, ◌+◌, ◌<◌, ◌≤◌, inl, inr, List, [], ◌∷◌, length, Option, Some, None, slice_get, refl, ap, ◌∙◌, arith}
use Rattle.std.specs.Prelude.{min}
use Rattle.std.proofs.lemmas.Option.{slice_get_within}
use Rattle.c65_depth.specs.declared.calls.Call.{Call}
use Rattle.c65_depth.specs.declared.facts.Facts.{Facts}
use Rattle.c65_depth.specs.declared.numbers.Numbers.{Numbers}
use Rattle.c65_depth.specs.Facts.{calls_at}
use Rattle.c65_depth.specs.Calls.{most}
use Rattle.c65_depth.specs.Numbers.{flat, or_zero, numbers_of, greatest_soft, greatest_hard, raised, next_numbers}
use Rattle.c65_depth_law.specs.Least.{AnyNames, AreCovering, IsCounted, number_in}
use Rattle.c65_depth_law.proofs.Least.{each_has}

module _ (all : List Numbers) where
  pub soft_above : (h : ℕ) (calls : List Call) → AnyNames h calls → (number_in all h).soft ≤ greatest_soft all calls
  soft_above h [] told = absurd told
  soft_above h (c ∷ calls) (inl is) =
      let e : (numbers_of all c.callee).soft ≡ (number_in all h).soft = ap (λ (o : Option ℕ). (numbers_of all o).soft) is in
      omega (arith, e)
  soft_above h (c ∷ calls) (inr told) = let rest = soft_above h calls told in omega (arith, rest)

  pub hard_above : (h : ℕ) (calls : List Call) → AnyNames h calls → (number_in all h).hard ≤ greatest_hard all calls
  hard_above h [] told = absurd told
  hard_above h (c ∷ calls) (inl is) =
      let e : (numbers_of all c.callee).hard ≡ (number_in all h).hard = ap (λ (o : Option ℕ). (numbers_of all o).hard) is in
      omega (arith, e)
  hard_above h (c ∷ calls) (inr told) = let rest = hard_above h calls told in omega (arith, rest)

-- a cost stands at a number of the list
cost_within : (costs : List (Option ℕ)) (f cost : ℕ) → flat (slice_get costs f) ≡ Some cost → f < length costs
cost_within costs f cost is = by_entry (slice_get costs f) refl is
  where
    by_entry : (o : Option (Option ℕ)) → slice_get costs f ≡ o → flat o ≡ Some cost → f < length costs
    by_entry None e is = cc
    by_entry (Some c) e is = slice_get_within costs f c e

module _ (g : List Facts) (costs : List (Option ℕ)) (all : List Numbers) (long : length costs ≡ length g) (settled : all ≡ next_numbers g costs all) where
  number_is : (f cost : ℕ) → flat (slice_get costs f) ≡ Some cost → number_in all f ≡ raised all (calls_at g f) (Some cost)
  number_is f cost is =
      let within = cost_within costs f cost is in
      let few : f < length g = omega (arith, within, long) in
      ap (λ (ns : List Numbers). number_in ns f) settled
      ∙ (ap or_zero (each_has (length g) (λ i. raised all (calls_at g i) (flat (slice_get costs i))) f few) ∙ ap (raised all (calls_at g f)) is)

  soft_is : (f cost : ℕ) → IsCounted (number_in all f) → flat (slice_get costs f) ≡ Some cost → cost + greatest_soft all (calls_at g f) ≤ (number_in all f).soft
  soft_is f cost counted is =
      let e : (number_in all f).soft ≡ min (cost + greatest_soft all (calls_at g f)) most = ap (λ (n : Numbers). n.soft) (number_is f cost is) in
      omega (arith, e, counted.soft)

  hard_is : (f cost : ℕ) → IsCounted (number_in all f) → flat (slice_get costs f) ≡ Some cost → 2 + greatest_hard all (calls_at g f) ≤ (number_in all f).hard
  hard_is f cost counted is =
      let e : (number_in all f).hard ≡ min (2 + greatest_hard all (calls_at g f)) most = ap (λ (n : Numbers). n.hard) (number_is f cost is) in
      omega (arith, e, counted.hard)

  pub settled_cover : ((f : ℕ) → IsCounted (number_in all f)) → AreCovering g costs (number_in all)
  settled_cover counted = record {
    own_soft = λ f cost is. let s = soft_is f cost (counted f) is in omega (arith, s);
    own_hard = λ f cost is. let s = hard_is f cost (counted f) is in omega (arith, s);
    soft = λ f cost h is told. let s = soft_is f cost (counted f) is in let a = soft_above all h (calls_at g f) told in omega (arith, s, a);
    hard = λ f cost h is told. let s = hard_is f cost (counted f) is in let a = hard_above all h (calls_at g f) told in omega (arith, s, a);
  }
