-- What a yes tells.
use Rattle.std.proofs.Common.{◌≡◌, ℕ, zero, suc, ◌+◌, ◌<◌, ◌≤◌, ◌⊎◌, inl, inr, ◌&&◌, ◌||◌, not, Bool, true, false, List, [], ◌∷◌, length, Option, Some, None, slice_get, nat_le, refl, sym, ap, ◌∙◌, subst, arith}
use Rattle.std.proofs.lemmas.Bool.{leb-true}
use Rattle.c65_depth.specs.declared.calls.Call.{Call}
use Rattle.c65_depth.specs.declared.facts.Facts.{Facts}
use Rattle.c65_depth.specs.declared.reached.Standing.{Standing}
use Rattle.c65_depth.specs.declared.numbers.Numbers.{Numbers}
use Rattle.c65_depth.specs.Facts.{calls_at}
use Rattle.c65_depth.specs.Numbers.{flat, zero_numbers}
use Rattle.c65_depth.specs.Reached.{reachable_at}
use Rattle.c65_depth.specs.Checks.{flat_numbers, given_at, covers, covers_if, covers_all, is_covered, meets, fits, is_met, are_met, soft_limit, hard_limit}
use Rattle.c65_depth.specs.Tables.{every}
use Rattle.c65_depth_law.specs.Least.{AnyNames, Costs}
use Rattle.c65_depth_law.specs.Checked.{AnyPointer, CoversCallee, IsCovered, HasRoom, IsTold}

pub both_true : (a b : Bool) → (a && b) ≡ true → (a ≡ true) × (b ≡ true)
both_true true b h = (refl, h)
both_true false b h = cc

pub last : (n f : ℕ) → f < suc n → (f < n) ⊎ (f ≡ n)
last zero zero few = inr refl
last zero (suc f) few = absurd (omega (arith, few))
last (suc n) zero few = inl (omega arith)
last (suc n) (suc f) few = one_more (last n f (omega (arith, few)))
  where
    one_more : (f < n) ⊎ (f ≡ n) → (suc f < suc n) ⊎ (suc f ≡ suc n)
    one_more (inl below) = inl (omega (arith, below))
    one_more (inr is) = inr (ap suc is)

-- a test of each number holds at each one
every_one : (n : ℕ) (h : ℕ → Bool) (f : ℕ) → f < n → every n h ≡ true → h f ≡ true
every_one zero h f few said = absurd (omega (arith, few))
every_one (suc n) h f few said =
    let parts = both_true (every n h) (h n) said in
    by_last (last n f few) (λ below. every_one n h f below parts.0) parts.1
  where
    by_last : (f < n) ⊎ (f ≡ n) → (f < n → h f ≡ true) → h n ≡ true → h f ≡ true
    by_last (inl below) earlier at_last = earlier below
    by_last (inr is) earlier at_last = ap h is ∙ at_last

module _ (g : List Facts) (costs : List (Option ℕ)) (given : List (Option Numbers)) where
  covers_tells : (cost : ℕ) (n m : Numbers) → covers cost n m ≡ true → (cost + m.soft ≤ n.soft) × (2 + m.hard ≤ n.hard)
  covers_tells cost n m said =
      let parts = both_true (nat_le (cost + m.soft) n.soft) (nat_le (2 + m.hard) n.hard) said in
      (leb-true (cost + m.soft) n.soft parts.0, leb-true (2 + m.hard) n.hard parts.1)

  callee_tells : (cost : ℕ) (n : Numbers) (h : ℕ) (o : Option Numbers) → flat_numbers (slice_get given h) ≡ o → covers_if cost n o ≡ true → CoversCallee g costs given cost n h
  callee_tells cost n h None is said = cc
  callee_tells cost n h (Some m) is said =
      let told = covers_tells cost n m said in
      record { callee = m; is_given = is; soft = told.0; hard = told.1 }

  calls_tell : (cost : ℕ) (n : Numbers) (h : ℕ) (calls : List Call) → covers_all cost n given calls ≡ true → AnyNames h calls → CoversCallee g costs given cost n h
  calls_tell cost n h [] said told = absurd told
  calls_tell cost n h (c ∷ calls) said (inl is) =
      let parts = both_true (covers_if cost n (given_at given c.callee)) (covers_all cost n given calls) said in
      callee_tells cost n h (flat_numbers (slice_get given h)) refl (sym (ap (λ (o : Option ℕ). covers_if cost n (given_at given o)) is) ∙ parts.0)
  calls_tell cost n h (c ∷ calls) said (inr told) =
      let parts = both_true (covers_if cost n (given_at given c.callee)) (covers_all cost n given calls) said in
      calls_tell cost n h calls parts.1 told

  names_all : (cost : ℕ) (n : Numbers) (calls : List Call) → covers_all cost n given calls ≡ true → AnyPointer calls → ⊥
  names_all cost n [] said told = told
  names_all cost n (c ∷ calls) said (inl is) =
      let parts = both_true (covers_if cost n (given_at given c.callee)) (covers_all cost n given calls) said in
      let none : false ≡ true = sym (ap (λ (o : Option ℕ). covers_if cost n (given_at given o)) is) ∙ parts.0 in
      cc
  names_all cost n (c ∷ calls) said (inr told) =
      let parts = both_true (covers_if cost n (given_at given c.callee)) (covers_all cost n given calls) said in
      names_all cost n calls parts.1 told

  covered_tells : (f cost : ℕ) (o : Option Numbers) → flat_numbers (slice_get given f) ≡ o → is_covered cost (calls_at g f) given o ≡ true → IsCovered g costs given f cost
  covered_tells f cost None is said = cc
  covered_tells f cost (Some n) is said =
      let parts = both_true (nat_le n.soft soft_limit && covers cost n zero_numbers) (covers_all cost n given (calls_at g f)) said in
      let more = both_true (nat_le n.soft soft_limit) (covers cost n zero_numbers) parts.0 in
      let own = covers_tells cost n zero_numbers more.1 in
      record {
        numbers = n;
        is_given = is;
        bounded = leb-true n.soft soft_limit more.0;
        own_soft = omega (arith, own.0);
        own_hard = omega (arith, own.1);
        no_pointer = λ told. names_all cost n (calls_at g f) parts.1 told;
        callees = λ h told. calls_tell cost n h (calls_at g f) parts.1 told;
      }

  met_tells : (standings : List Standing) (f cost : ℕ) → is_met g costs standings given f ≡ true → reachable_at standings f ≡ true → Costs g costs f cost → IsCovered g costs given f cost
  met_tells standings f cost said reached is =
      let meets_it = subst (λ (b : Bool). (not b || meets (calls_at g f) given (flat_numbers (slice_get given f)) (flat (slice_get costs f))) ≡ true) reached said in
      let covered_it = subst (λ (o : Option ℕ). meets (calls_at g f) given (flat_numbers (slice_get given f)) o ≡ true) is meets_it in
      covered_tells f cost (flat_numbers (slice_get given f)) refl covered_it

  fits_tells : (main args : ℕ) (o : Option Numbers) → flat_numbers (slice_get given main) ≡ o → fits args o ≡ true → HasRoom g costs given main args
  fits_tells main args None is said = cc
  fits_tells main args (Some n) is said =
      let parts = both_true (nat_le (n.soft + args) soft_limit) (nat_le n.hard hard_limit) said in
      record { numbers = n; is_given = is; soft = leb-true (n.soft + args) soft_limit parts.0; hard = leb-true n.hard hard_limit parts.1 }

  pub checked_covered : (standings : List Standing) (main args : ℕ) → are_met g costs standings given main args ≡ true → IsTold g costs given standings main args
  checked_covered standings main args said =
      let parts = both_true (every (length g) (is_met g costs standings given)) (fits args (flat_numbers (slice_get given main))) said in
      record {
        covered = λ f cost few reached is. met_tells standings f cost (every_one (length g) (is_met g costs standings given) f few parts.0) reached is;
        room = fits_tells main args (flat_numbers (slice_get given main)) refl parts.1;
      }
