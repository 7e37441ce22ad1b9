-- A yes says that the numbers of the rows cover the program.
use Rattle.std.proofs.Common.{◌≡◌, ℕ, ◌+◌, ◌*◌, ◌<◌, ◌≤◌, ◌⊎◌, inl, inr, true, List, [], ◌∷◌, length, Option, Some, None, slice_get, refl, sym, ap, ◌∙◌, subst, arith}
use Rattle.std.specs.Prelude.{Contains, min, IsSome}
use Rattle.c65_csem.specs.Trees.{Stmt}
use Rattle.c65_csem_need.specs.Needs.{greatest_need}
use Rattle.c65_meaning.specs.Program.{ProgramTy}
use Rattle.c65_meaning.specs.Costs.{local_bytes, soft_cost}
use Rattle.c65_depth.specs.declared.calls.Call.{Call}
use Rattle.c65_depth.specs.declared.numbers.Numbers.{Numbers}
use Rattle.c65_depth.specs.declared.program.CertRow.{CertRow}
use Rattle.c65_depth.specs.Calls.{most}
use Rattle.c65_depth.specs.Facts.{facts_of, calls_at, cost_at, body_cost, most_waiting}
use Rattle.c65_depth.specs.Numbers.{flat, with_passed, costs_of}
use Rattle.c65_depth.specs.Checks.{flat_numbers, given_by, given_to, given_all, is_checked}
use Rattle.c65_depth.specs.Certificates.{Names, IsReachable, IsPassed, body_at, numbers_by, CoversCallee, Covers, Fits}
use Rattle.c65_depth_law.specs.Least.{AnyNames}
use Rattle.c65_depth_law.specs.Checked.{AnyPointer, IsCovered, IsTold, CoversCallee as CoversGiven}
use Rattle.c65_depth_law.proofs.Least.{each_get}
use Rattle.c65_depth_law.proofs.Checked.{checked_covered}
use Rattle.c65_depth_law_ways.proofs.Calls.{first_among, call_in, is_numbered}
use Rattle.c65_depth_law_ways.proofs.Ways.{reach_is}
use Rattle.c65_depth_law_fits.specs.Fits.{CheckedIsFitting}
use Rattle.c65_depth_law_fits.proofs.Passed.{g, all_standings, numbered, passed_to, cost_there, cost_is, passed_least}

-- ---- calls

pub any_names : (h : ℕ) (calls : List Call) (c : Call) → Contains calls c → c.callee ≡ Some h → AnyNames h calls
any_names h [] c k is = absurd (let few = k.1 in omega (arith, few))
any_names h (d ∷ calls) c k is = by_first (first_among d calls c k) (λ r. any_names h calls c r is)
  where
    by_first : (d ≡ c) ⊎ Contains calls c → (Contains calls c → AnyNames h calls) → AnyNames h (d ∷ calls)
    by_first (inl same) rest = inl (ap (λ (e : Call). e.callee) same ∙ is)
    by_first (inr more) rest = inr (rest more)

any_pointers : (calls : List Call) (c : Call) → Contains calls c → c.callee ≡ None → AnyPointer calls
any_pointers [] c k is = absurd (let few = k.1 in omega (arith, few))
any_pointers (d ∷ calls) c k is = by_first (first_among d calls c k) (λ r. any_pointers calls c r is)
  where
    by_first : (d ≡ c) ⊎ Contains calls c → (Contains calls c → AnyPointer calls) → AnyPointer (d ∷ calls)
    by_first (inl same) rest = inl (ap (λ (e : Call). e.callee) same ∙ is)
    by_first (inr more) rest = inr (rest more)

-- ---- a cost that is small is counted exactly

counted : (passed locals waiting above soft : ℕ) → min (passed + min (locals + 6 + 8 * min waiting most_waiting) most) most + above ≤ soft → soft ≤ 1984 → passed + locals + 6 + 8 * waiting + above ≤ soft
counted passed locals waiting above soft h few = omega (arith, h, few)

passed_few : (passed rest soft : ℕ) → min (passed + rest) most ≤ soft → soft ≤ 1984 → passed < most
passed_few passed rest soft h few = omega (arith, h, few)

less_passed : (n passed locals waiting above soft : ℕ) → n ≤ passed → passed + locals + 6 + 8 * waiting + above ≤ soft → n + locals + 6 + 8 * waiting + above ≤ soft
less_passed n passed locals waiting above soft h i = omega (arith, h, i)

none_above : (cost soft : ℕ) → cost ≤ soft → cost + 0 ≤ soft
none_above cost soft h = omega (arith, h)

nothing_above : (cost soft : ℕ) → cost + 0 ≤ soft → cost ≤ soft
nothing_above cost soft h = omega (arith, h)

-- ---- of a program

module _ (p : ProgramTy) (rows : List CertRow) (room : ℕ) (main_body : IsSome (body_at p p.main)) (said : is_checked p.unit p.main rows room ≡ true) where
  told : IsTold (g p) (costs_of p.unit p.main) (given_all (g p) rows) (all_standings p) p.main room
  told = checked_covered (g p) (costs_of p.unit p.main) (given_all (g p) rows) (all_standings p) p.main room said

  given_tells : (h : ℕ) (n : Numbers) → flat_numbers (slice_get (given_all (g p) rows) h) ≡ Some n → numbers_by p (given_by rows) h (body_at p h) ≡ Some n
  given_tells h n is = by_entry (each_get (length (g p)) (λ i. given_to rows i (cost_at (g p) i)) h)
    where
      by_body : (o : Option Stmt) → given_to rows h (facts_of p.unit o).cost ≡ Some n → numbers_by p (given_by rows) h o ≡ Some n
      by_body None e = e
      by_body (Some body) e = e

      by_entry : (slice_get (given_all (g p) rows) h ≡ None) ⊎ (slice_get (given_all (g p) rows) h ≡ Some (given_to rows h (cost_at (g p) h))) → numbers_by p (given_by rows) h (body_at p h) ≡ Some n
      by_entry (inl e) = absurd (let clash : None ≡ Some n = sym (ap flat_numbers e) ∙ is in cc)
      by_entry (inr e) = by_body (body_at p h) (sym (ap (given_to rows h) (cost_there p h)) ∙ sym (ap flat_numbers e) ∙ is)

  module _ (f : ℕ) (body : Stmt) (reached : IsReachable p f) (is_body : body_at p f ≡ Some body) where
    abbrev cost : ℕ
    cost = min (passed_to p f + body_cost p.unit body) most

    cost_there_is : flat (slice_get (costs_of p.unit p.main) f) ≡ Some cost
    cost_there_is = cost_is p f (is_numbered p f body is_body) ∙ ap (λ o. with_passed (passed_to p f) (facts_of p.unit o).cost) is_body

    covered_it : IsCovered (g p) (costs_of p.unit p.main) (given_all (g p) rows) f cost
    covered_it =
        let few = is_numbered p f body is_body in
        told.covered f cost (numbered p f few) ((reach_is p f few).1 reached) cost_there_is

    abbrev own : Numbers
    own = covered_it.numbers

    own_given : given_by rows f ≡ Some own
    own_given = subst (λ (o : Option Stmt). numbers_by p (given_by rows) f o ≡ Some own) is_body (given_tells f own covered_it.is_given)

    -- with what any call passes
    soft_above : (n above : ℕ) → IsPassed p f n → cost + above ≤ own.soft → soft_cost p.unit n body + above ≤ own.soft
    soft_above n above passed h =
        let small = passed_few (passed_to p f) (body_cost p.unit body) own.soft covered_it.own_soft covered_it.bounded in
        less_passed n (passed_to p f) (local_bytes p.unit body) (greatest_need body) above own.soft (passed_least p f n passed small)
        (counted (passed_to p f) (local_bytes p.unit body) (greatest_need body) above own.soft h covered_it.bounded)

    callee_covered : (n h : ℕ) → IsPassed p f n → Names p f h → CoversCallee p (given_by rows) (soft_cost p.unit n body) own h
    callee_covered n h passed names =
        let c : CoversGiven (g p) (costs_of p.unit p.main) (given_all (g p) rows) cost own h = covered_it.callees h (any_names h (calls_at (g p) f) names.call (call_in p f names.call names.has) names.named) in
        record {
          callee = c.callee;
          is_callee = given_tells h c.callee c.is_given;
          soft = soft_above n c.callee.soft passed c.soft;
          hard = c.hard;
        }

    covers_it : Covers p (given_by rows) f body
    covers_it = record {
      own = own;
      is_own = own_given;
      no_pointer = λ c. covered_it.no_pointer (any_pointers (calls_at (g p) f) c.call (call_in p f c.call c.has) c.unnamed);
      soft = λ n passed. nothing_above (soft_cost p.unit n body) own.soft (soft_above n 0 passed (none_above cost own.soft covered_it.own_soft));
      hard = covered_it.own_hard;
      callees = callee_covered;
    }

  main_given : (o : Option Stmt) → body_at p p.main ≡ o → IsSome o → given_by rows p.main ≡ Some told.room.numbers
  main_given None is there = absurd cc
  main_given (Some body) is there = subst (λ (o : Option Stmt). numbers_by p (given_by rows) p.main o ≡ Some told.room.numbers) is (given_tells p.main told.room.numbers told.room.is_given)

  pub fits : Fits p (given_by rows) room
  fits = record {
    covered = covers_it;
    own = told.room.numbers;
    is_own = main_given (body_at p p.main) refl main_body;
    soft = told.room.soft;
    hard = told.room.hard;
  }

pub checked_is_fitting : CheckedIsFitting
checked_is_fitting p rows room main_body said = fits p rows room main_body said
