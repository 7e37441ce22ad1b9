-- What a function may be passed is at most what its cost counts.
use Rattle.std.proofs.Common.{◌≡◌, ℕ, zero, suc, ◌<◌, ◌≤◌, ◌⊎◌, inl, inr, Bool, List, [], ◌∷◌, length, Option, Some, None, slice_get, refl, sym, ap, ◌∙◌, subst, arith, if◌then◌else◌}
use Rattle.std.specs.Prelude.{Contains, min, max, option_map, ◌==◌}
use Rattle.c65_csem.specs.Trees.{FuncTy}
use Rattle.c65_meaning.specs.Program.{ProgramTy}
use Rattle.c65_meaning.specs.Costs.{bytes_of_objects}
use Rattle.c65_meaning.specs.Step.{body_of, params_of}
use Rattle.c65_depth.specs.declared.calls.Call.{Call}
use Rattle.c65_depth.specs.declared.facts.Facts.{Facts}
use Rattle.c65_depth.specs.declared.reached.Standing.{Standing}
use Rattle.c65_depth.specs.Calls.{most}
use Rattle.c65_depth.specs.Facts.{facts_of, facts_in, graph, cost_in, calls_at, cost_at, first_bytes}
use Rattle.c65_depth.specs.Numbers.{names, bytes_to, largest_to, with_passed, largest_from, passed, flat, standings_of, costs_of}
use Rattle.c65_depth.specs.Tables.{greatest_of}
use Rattle.c65_depth.specs.Certificates.{IsReachable, IsPassed, at_start, by_one, body_at}
use Rattle.c65_depth_law.proofs.Least.{each_has}
use Rattle.c65_depth_law.proofs.Checked.{last}
use Rattle.c65_depth_law_ways.proofs.Calls.{first_among, graph_get, graph_long, call_in, is_numbered}
use Rattle.c65_depth_law_ways.proofs.Ways.{same_number, reach_is}

-- ---- the greatest of a table, and the largest call

either_least : (n a b : ℕ) → (n ≤ a) ⊎ (n ≤ b) → n ≤ max a b
either_least n a b (inl h) = omega (arith, h)
either_least n a b (inr h) = omega (arith, h)

same_least : (n m : ℕ) → n ≡ m → n ≤ m
same_least n m e = omega (arith, e)

pub greatest_least : (n : ℕ) (k : ℕ → ℕ) (i : ℕ) → i < n → k i ≤ greatest_of n k
greatest_least zero k i few = absurd (omega (arith, few))
greatest_least (suc n) k i few = by_last (last n i few) (greatest_least n k i)
  where
    by_last : (i < n) ⊎ (i ≡ n) → (i < n → k i ≤ greatest_of n k) → k i ≤ max (greatest_of n k) (k n)
    by_last (inl below) rest = either_least (k i) (greatest_of n k) (k n) (inl (rest below))
    by_last (inr is) rest = either_least (k i) (greatest_of n k) (k n) (inr (same_least (k i) (k n) (ap k is)))

named_bytes : (h : ℕ) (c : Call) → c.callee ≡ Some h → bytes_to h c ≡ c.bytes
named_bytes h c is = ap (λ (o : Option ℕ). if names h o then c.bytes else 0) is ∙ ap (λ (b : Bool). if b then c.bytes else 0) (same_number h h refl)

pub largest_least : (h : ℕ) (calls : List Call) (c : Call) → Contains calls c → c.callee ≡ Some h → c.bytes ≤ largest_to h calls
largest_least h [] c k is = absurd (let few = k.1 in omega (arith, few))
largest_least h (d ∷ calls) c k is = by_first (first_among d calls c k) (λ r. largest_least h calls c r is)
  where
    by_first : (d ≡ c) ⊎ Contains calls c → (Contains calls c → c.bytes ≤ largest_to h calls) → c.bytes ≤ max (bytes_to h d) (largest_to h calls)
    by_first (inl same) rest = either_least c.bytes (bytes_to h d) (largest_to h calls) (inl (same_least c.bytes (bytes_to h d) (sym (ap (bytes_to h) same ∙ named_bytes h c is))))
    by_first (inr in_rest) rest = either_least c.bytes (bytes_to h d) (largest_to h calls) (inr (rest in_rest))

-- ---- of a program

module _ (p : ProgramTy) where
  abbrev pub g : List Facts
  g = graph p.unit

  abbrev pub all_standings : List Standing
  all_standings = standings_of p.unit p.main

  -- the bytes that a function's cost counts for what it is passed
  abbrev pub passed_to : ℕ → ℕ
  passed_to f = passed g all_standings p.main (first_bytes p.unit p.main) f

  -- ---- costs

  pub numbered : (f : ℕ) → f < length p.unit.funcs → f < length g
  numbered f few = subst (λ n. f < n) (sym (graph_long p.unit p.unit.funcs)) few

  cost_of : (o : Option FuncTy) → cost_in (option_map (facts_in p.unit) o) ≡ (facts_of p.unit (body_of o)).cost
  cost_of None = refl
  cost_of (Some x) = refl

  pub cost_there : (f : ℕ) → cost_at g f ≡ (facts_of p.unit (body_at p f)).cost
  cost_there f = ap cost_in (graph_get p.unit p.unit.funcs f) ∙ cost_of (slice_get p.unit.funcs f)

  pub cost_is : (f : ℕ) → f < length p.unit.funcs → flat (slice_get (costs_of p.unit p.main) f) ≡ with_passed (passed_to f) (facts_of p.unit (body_at p f)).cost
  cost_is f few = ap flat (each_has (length g) (λ i. with_passed (passed_to i) (cost_at g i)) f (numbered f few)) ∙ ap (with_passed (passed_to f)) (cost_there f)

  -- ---- what is passed

  counted_from : (h f : ℕ) → f < length p.unit.funcs → IsReachable p f → largest_from g all_standings h f ≡ largest_to h (calls_at g f)
  counted_from h f few r = ap (λ (b : Bool). if b then largest_to h (calls_at g f) else 0) ((reach_is p f few).1 r)

  call_least : (a b c d n : ℕ) → n ≤ b → b ≡ c → c ≤ d → n ≤ max a d
  call_least a b c d n h i j = omega (arith, h, i, j)

  start_least : (n b : ℕ) → max (min n most) b < most → n ≤ max (min n most) b
  start_least n b few = omega (arith, few)

  pub passed_least : (f n : ℕ) → IsPassed p f n → passed_to f < most → n ≤ passed_to f
  passed_least f n at_start few =
      let rest = greatest_of (length g) (largest_from g all_standings p.main) in
      let bytes = bytes_of_objects p.unit (params_of (slice_get p.unit.funcs p.main)) in
      let same : (if p.main == p.main then first_bytes p.unit p.main else 0) ≡ min bytes most = ap (λ (b : Bool). if b then first_bytes p.unit p.main else 0) (same_number p.main p.main refl) in
      subst (λ a. bytes ≤ max a rest) (sym same) (start_least bytes rest (subst (λ a. max a rest < most) same few))
  passed_least f n (by_one {f = i} {h = h} {c = c} r has named) few =
      let there = is_numbered p i has.body has.is_body in
      call_least (if h == p.main then first_bytes p.unit p.main else 0) (largest_to h (calls_at g i)) (largest_from g all_standings h i) (greatest_of (length g) (largest_from g all_standings h)) c.bytes
      (largest_least h (calls_at g i) c (call_in p i c has) named) (sym (counted_from h i there r)) (greatest_least (length g) (largest_from g all_standings h) i (numbered i there))
