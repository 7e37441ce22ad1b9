-- The numbers of rounds stay below all that cover the program.
use Rattle.std.proofs.Common.{◌≡◌, ℕ, zero, suc, ◌+◌, ◌<◌, ◌≤◌, ◌⊎◌, inl, inr, List, [], ◌∷◌, length, Option, Some, None, slice_get, refl, sym, ap, ◌∙◌, subst, arith}
use Rattle.std.specs.Prelude.{Contains, min, IsSome}
use Rattle.std.proofs.lemmas.Option.{slice_get_within}
use Rattle.c65_csem.specs.Trees.{Stmt}
use Rattle.c65_csem_need.specs.Needs.{greatest_need}
use Rattle.c65_meaning.specs.Program.{ProgramTy}
use Rattle.c65_meaning.specs.Costs.{local_bytes, soft_cost}
use Rattle.c65_depth.specs.declared.calls.Call.{Call}
use Rattle.c65_depth.specs.declared.numbers.Numbers.{Numbers}
use Rattle.c65_depth.specs.declared.program.CertRow.{CertRow}
use Rattle.c65_depth.specs.Calls.{most}
use Rattle.c65_depth.specs.Facts.{facts_of, calls_at, body_cost}
use Rattle.c65_depth.specs.Numbers.{zero_numbers, or_zero, greatest_soft, greatest_hard, raised, flat, with_passed, numbers_after, costs_of}
use Rattle.c65_depth.specs.Checks.{given_by}
use Rattle.c65_depth.specs.Tables.{each}
use Rattle.c65_depth.specs.Certificates.{Names, IsReachable, next, body_at, numbers_by, AreCovered, Covers, CoversCallee}
use Rattle.c65_depth_law.specs.Least.{AnyNames, IsAtMost, number_in}
use Rattle.c65_depth_law.proofs.Least.{each_get, each_has, each_long, zero_least, soft_bound, hard_bound}
use Rattle.c65_depth_law_ways.proofs.Calls.{in_rest, graph_long, has_call, is_numbered}
use Rattle.c65_depth_law_fits.proofs.Passed.{g, numbered, passed_to, cost_is}
use Rattle.c65_depth_law_fits.proofs.Attained.{attained}
use Rattle.c65_depth_law_fits.proofs.Exactly.{no_more, with_none}
use Rattle.c65_depth_law_rows.specs.Rows.{number_after, NumbersAreLeast}
use Rattle.c65_depth_law_rows.proofs.Rows.{rows, given_found, rowed_tells, same_rows}

-- ---- calls

pub record IsNamed (h : ℕ) (calls : List Call) : Type 0 where
  pub call : Call
  pub among : Contains calls call
  pub named : call.callee ≡ Some h

pub names_any : (h : ℕ) (calls : List Call) → AnyNames h calls → IsNamed h calls
names_any h [] told = absurd told
names_any h (c ∷ calls) (inl is) = record { call = c; among = (0, omega arith, refl); named = is }
names_any h (c ∷ calls) (inr told) = let r = names_any h calls told in record { call = r.call; among = in_rest c calls r.call r.among; named = r.named }

-- ---- bounds

none_above : (cost soft : ℕ) → cost + 0 ≤ soft → cost ≤ soft
none_above cost soft h = omega (arith, h)

less_above : (cost a b own : ℕ) → a ≤ b → cost + b ≤ own → cost + a ≤ own
less_above cost a b own h i = omega (arith, h, i)

at_least : (n m : ℕ) → n ≤ m → min n most ≤ m
at_least n m h = omega (arith, h)

at_most_itself : (n : Numbers) → IsAtMost n n
at_most_itself n = record { soft = omega arith; hard = omega arith }

-- ---- rounds of a program

module _ (p : ProgramTy) where
  pub cost_at_body : (f : ℕ) (body : Stmt) → body_at p f ≡ Some body → flat (slice_get (costs_of p.unit p.main) f) ≡ Some (min (passed_to p f + body_cost p.unit body) most)
  cost_at_body f body is = cost_is p f (is_numbered p f body is) ∙ ap (λ o. with_passed (passed_to p f) (facts_of p.unit o).cost) is

  -- a further round
  pub number_next : (k f : ℕ) (body : Stmt) → body_at p f ≡ Some body → number_after p (suc k) f ≡ raised (numbers_after (g p) (costs_of p.unit p.main) k) (calls_at (g p) f) (Some (min (passed_to p f + body_cost p.unit body) most))
  number_next k f body is =
      ap or_zero (each_has (length (g p)) (λ i. raised (numbers_after (g p) (costs_of p.unit p.main) k) (calls_at (g p) i) (flat (slice_get (costs_of p.unit p.main) i))) f (numbered p f (is_numbered p f body is)))
      ∙ ap (raised (numbers_after (g p) (costs_of p.unit p.main) k) (calls_at (g p) f)) (cost_at_body f body is)

  at_zero : (f : ℕ) → number_after p zero f ≡ zero_numbers
  at_zero f = by_entry (each_get (length (g p)) (λ i. zero_numbers) f)
    where
      by_entry : (slice_get (each (length (g p)) (λ i. zero_numbers)) f ≡ None) ⊎ (slice_get (each (length (g p)) (λ i. zero_numbers)) f ≡ Some zero_numbers) → number_after p zero f ≡ zero_numbers
      by_entry (inl e) = ap or_zero e
      by_entry (inr e) = ap or_zero e

  -- a function without a body counts nothing
  pub no_number : (k f : ℕ) → body_at p f ≡ None → number_after p k f ≡ zero_numbers
  no_number zero f is = at_zero f
  no_number (suc k) f is = by_entry (each_get (length (g p)) round f)
    where
      round : ℕ → Numbers
      round i = raised (numbers_after (g p) (costs_of p.unit p.main) k) (calls_at (g p) i) (flat (slice_get (costs_of p.unit p.main) i))

      few : slice_get (each (length (g p)) round) f ≡ Some (round f) → f < length p.unit.funcs
      few e =
          let within = slice_get_within (each (length (g p)) round) f (round f) e in
          subst (λ n. f < n) (each_long (length (g p)) round ∙ graph_long p.unit p.unit.funcs) within

      nothing : slice_get (each (length (g p)) round) f ≡ Some (round f) → flat (slice_get (costs_of p.unit p.main) f) ≡ None
      nothing e = cost_is p f (few e) ∙ ap (λ o. with_passed (passed_to p f) (facts_of p.unit o).cost) is

      by_entry : (slice_get (each (length (g p)) round) f ≡ None) ⊎ (slice_get (each (length (g p)) round) f ≡ Some (round f)) → number_after p (suc k) f ≡ zero_numbers
      by_entry (inl e) = ap or_zero e
      by_entry (inr e) = ap or_zero e ∙ ap (raised (numbers_after (g p) (costs_of p.unit p.main) k) (calls_at (g p) f)) (nothing e)

  -- ---- below numbers that cover the program

  module _ (others : ℕ → Option Numbers) (covered : AreCovered p others) where
    -- a function that is reached, within numbers that are said of each function that it calls
    module _ (k f : ℕ) (r : IsReachable p f) (body : Stmt) (is_body : body_at p f ≡ Some body) (earlier : (h : ℕ) → IsReachable p h → (m : Numbers) → numbers_by p others h (body_at p h) ≡ Some m → IsAtMost (number_after p k h) m) where
      abbrev cov : Covers p others f body
      cov = covered f body r is_body

      abbrev cost : ℕ
      cost = min (passed_to p f + body_cost p.unit body) most

      abbrev before : List Numbers
      before = numbers_after (g p) (costs_of p.unit p.main) k

      cost_above : (above : ℕ) → soft_cost p.unit (attained p f r).bytes body + above ≤ cov.own.soft → cost + above ≤ cov.own.soft
      cost_above above h = no_more (passed_to p f) (local_bytes p.unit body) (greatest_need body) (attained p f r).bytes above cov.own.soft (attained p f r).least h

      own_cost : cost ≤ cov.own.soft
      own_cost = none_above cost cov.own.soft (cost_above 0 (with_none (soft_cost p.unit (attained p f r).bytes body) cov.own.soft (cov.soft (attained p f r).bytes (attained p f r).passed)))

      named : (h : ℕ) → AnyNames h (calls_at (g p) f) → Names p f h
      named h told = let c = names_any h (calls_at (g p) f) told in record { call = c.call; has = has_call p f c.call c.among; named = c.named }

      callee : (h : ℕ) → AnyNames h (calls_at (g p) f) → CoversCallee p others (soft_cost p.unit (attained p f r).bytes body) cov.own h
      callee h told = cov.callees (attained p f r).bytes h (attained p f r).passed (named h told)

      below : (h : ℕ) (told : AnyNames h (calls_at (g p) f)) → IsAtMost (number_in before h) (callee h told).callee
      below h told = earlier h (next r (named h told)) (callee h told).callee (callee h told).is_callee

      soft_within : (h : ℕ) → AnyNames h (calls_at (g p) f) → cost + (number_in before h).soft ≤ cov.own.soft
      soft_within h told = less_above cost (number_in before h).soft (callee h told).callee.soft cov.own.soft (below h told).soft (cost_above (callee h told).callee.soft (callee h told).soft)

      hard_within : (h : ℕ) → AnyNames h (calls_at (g p) f) → 2 + (number_in before h).hard ≤ cov.own.hard
      hard_within h told = less_above 2 (number_in before h).hard (callee h told).callee.hard cov.own.hard (below h told).hard (callee h told).hard

      raised_within : IsAtMost (raised before (calls_at (g p) f) (Some cost)) cov.own
      raised_within =
          let soft = soft_bound before (number_in before) (λ h. at_most_itself (number_in before h)) cost cov.own.soft (calls_at (g p) f) own_cost soft_within in
          let hard = hard_bound before (number_in before) (λ h. at_most_itself (number_in before h)) cov.own.hard (calls_at (g p) f) cov.hard hard_within in
          record { soft = at_least (cost + greatest_soft before (calls_at (g p) f)) cov.own.soft soft; hard = at_least (2 + greatest_hard before (calls_at (g p) f)) cov.own.hard hard }

    stays_below : (k f : ℕ) → IsReachable p f → (m : Numbers) → numbers_by p others f (body_at p f) ≡ Some m → IsAtMost (number_after p k f) m
    stays_below zero f r m is = subst (λ (n : Numbers). IsAtMost n m) (sym (at_zero f)) (zero_least m)
    stays_below (suc k) f r m is = by_body (body_at p f) refl (λ h s n e. stays_below k h s n e)
      where
        by_body : (o : Option Stmt) → body_at p f ≡ o → ((h : ℕ) → IsReachable p h → (n : Numbers) → numbers_by p others h (body_at p h) ≡ Some n → IsAtMost (number_after p k h) n) → IsAtMost (number_after p (suc k) f) m
        by_body None e earlier = subst (λ (n : Numbers). IsAtMost n m) (sym (no_number (suc k) f e)) (zero_least m)
        by_body (Some body) e earlier =
            let own : (covered f body r e).own ≡ m = ap or_zero (sym (covered f body r e).is_own ∙ (sym (ap (numbers_by p others f) e) ∙ is)) in
            subst (λ (n : Numbers). IsAtMost (number_after p (suc k) f) n) own
            (subst (λ (n : Numbers). IsAtMost n (covered f body r e).own) (sym (number_next k f body e)) (raised_within k f r body e earlier))

    -- the number of a row
    row_below : (f : ℕ) (n m : Numbers) → given_by (rows p) f ≡ Some n → others f ≡ Some m → IsAtMost n m
    row_below f n m given is =
        let found = given_found p f n given in
        let there = rowed_tells p f found.there found.rowed in
        subst (λ (l : Numbers). IsAtMost l m) (ap or_zero found.is) (stays_below (length (g p)) f there.0 m (with_body (body_at p f) there.1))
      where
        with_body : (o : Option Stmt) → IsSome o → numbers_by p others f o ≡ Some m
        with_body None e = absurd cc
        with_body (Some body) e = is

pub numbers_are_least : NumbersAreLeast
numbers_are_least p rs e others covered f n m given is =
    row_below p others covered f n m (subst (λ (all : List CertRow). given_by all f ≡ Some n) (sym (same_rows p rs e)) given) is
