-- The rows of the certificate that is made.
use Rattle.std.proofs.Common.{◌≡◌, ℕ, zero, suc, ◌<◌, ◌≤◌, ◌&&◌, ◌⊎◌, inl, inr, Bool, true, false, List, [], ◌∷◌, ◌++◌, length, Option, Some, None, refl, sym, ap, ◌∙◌, subst, arith, if◌then◌else◌}
use Rattle.std.specs.Prelude.{◌↔◌, ◌==◌, cond, find, is_some, IsSome, option_map, nat_lt}
use Rattle.std.proofs.lemmas.Bool.{eqb-true}
use Rattle.std.proofs.lemmas.Bool.Decides.{nat_tests}
use Rattle.c65_csem.specs.Trees.{Stmt}
use Rattle.c65_meaning.specs.Program.{ProgramTy}
use Rattle.c65_depth.specs.declared.numbers.Numbers.{Numbers}
use Rattle.c65_depth.specs.declared.program.CertRow.{CertRow}
use Rattle.c65_depth.specs.Facts.{facts_of, cost_at}
use Rattle.c65_depth.specs.Reached.{reachable_at, numbers}
use Rattle.c65_depth.specs.Numbers.{row_by, has_row, row_of, rows_unless, unbounded_of, certificate_of, all_numbers, costs_of}
use Rattle.c65_depth.specs.Numbers as made
use Rattle.c65_depth.specs.Checks.{numbers_in, given_by}
use Rattle.c65_depth.specs.Tables.{add_if, some_of}
use Rattle.c65_depth.specs.Certificates.{IsReachable, body_at}
use Rattle.c65_depth_law.specs.Least.{number_in}
use Rattle.c65_depth_law.proofs.Checked.{both_true, last}
use Rattle.c65_depth_law_ways.proofs.Calls.{graph_long, is_numbered}
use Rattle.c65_depth_law_ways.proofs.Ways.{same_number, reach_is}
use Rattle.c65_depth_law_fits.proofs.Passed.{g, all_standings, numbered, cost_there}
use Rattle.c65_depth_law_rows.specs.Rows.{RowsAreThoseReached}

-- ---- the first row of a function

abbrev is_of : ℕ → CertRow → Bool
is_of f r = r.func == f

by_test : {A : Type 0} (b : Bool) (y : CertRow) (m n : Option CertRow) (r : CertRow) → cond b (Some y) m ≡ Some r → (m ≡ Some r → (n ≡ Some r) ⊎ A) → (cond b (Some y) n ≡ Some r) ⊎ A
by_test true y m n r e rest = inl e
by_test false y m n r e rest = rest e

at_last : (b : Bool) (x r : CertRow) → cond b (Some x) None ≡ Some r → (b ≡ true) × (Some x ≡ Some r)
at_last true x r e = (refl, e)
at_last false x r e = cc

found_last : (f : ℕ) (xs : List CertRow) (x r : CertRow) → find (is_of f) (xs ++ x ∷ []) ≡ Some r → (find (is_of f) xs ≡ Some r) ⊎ ((is_of f x ≡ true) × (Some x ≡ Some r))
found_last f [] x r e = inr (at_last (is_of f x) x r e)
found_last f (y ∷ xs) x r e = by_test (is_of f y) y (find (is_of f) (xs ++ x ∷ [])) (find (is_of f) xs) r e (found_last f xs x r)

stays_found : (b : Bool) (y r : CertRow) (m n : Option CertRow) → cond b (Some y) m ≡ Some r → (m ≡ Some r → n ≡ Some r) → cond b (Some y) n ≡ Some r
stays_found true y r m n e rest = e
stays_found false y r m n e rest = rest e

found_on : (f : ℕ) (xs : List CertRow) (x r : CertRow) → find (is_of f) xs ≡ Some r → find (is_of f) (xs ++ x ∷ []) ≡ Some r
found_on f [] x r e = absurd cc
found_on f (y ∷ xs) x r e = stays_found (is_of f y) y r (find (is_of f) xs) (find (is_of f) (xs ++ x ∷ [])) e (found_on f xs x r)

passed_by : (b : Bool) (y r : CertRow) (m n : Option CertRow) → cond b (Some y) m ≡ None → (m ≡ None → n ≡ Some r) → cond b (Some y) n ≡ Some r
passed_by true y r m n e rest = absurd cc
passed_by false y r m n e rest = rest e

found_new : (f : ℕ) (xs : List CertRow) (x : CertRow) → find (is_of f) xs ≡ None → is_of f x ≡ true → find (is_of f) (xs ++ x ∷ []) ≡ Some x
found_new f [] x e h = ap (λ (b : Bool). cond b (Some x) None) h
found_new f (y ∷ xs) x e h = passed_by (is_of f y) y x (find (is_of f) xs) (find (is_of f) (xs ++ x ∷ [])) e (λ m. found_new f xs x m h)

func_of : CertRow → ℕ
func_of r = r.func

-- ---- rows with the numbers of their places

module _ (h : ℕ → Option CertRow) (funcs : (i : ℕ) (r : CertRow) → h i ≡ Some r → r.func ≡ i) where
  pub row_found : (n f : ℕ) (r : CertRow) → find (is_of f) (some_of n h) ≡ Some r → (f < n) × (h f ≡ Some r)
  row_found zero f r e = absurd cc
  row_found (suc n) f r e = by_row (h n) refl e (row_found n f r)
    where
      later : (f < n) × (h f ≡ Some r) → (f < suc n) × (h f ≡ Some r)
      later t = ((let few = t.0 in omega (arith, few)), t.1)

      by_place : (x : CertRow) → h n ≡ Some x → (find (is_of f) (some_of n h) ≡ Some r) ⊎ ((is_of f x ≡ true) × (Some x ≡ Some r)) → (find (is_of f) (some_of n h) ≡ Some r → (f < n) × (h f ≡ Some r)) → (f < suc n) × (h f ≡ Some r)
      by_place x is (inl before) rest = later (rest before)
      by_place x is (inr new) rest =
          let same : n ≡ f = sym (funcs n x is) ∙ eqb-true x.func f new.0 in
          (omega (arith, same), ap h (sym same) ∙ (is ∙ new.1))

      by_row : (o : Option CertRow) → h n ≡ o → find (is_of f) (add_if o (some_of n h)) ≡ Some r → (find (is_of f) (some_of n h) ≡ Some r → (f < n) × (h f ≡ Some r)) → (f < suc n) × (h f ≡ Some r)
      by_row None is e rest = later (rest e)
      by_row (Some x) is e rest = by_place x is (found_last f (some_of n h) x r e) rest

  pub row_there : (n f : ℕ) (r : CertRow) → f < n → h f ≡ Some r → find (is_of f) (some_of n h) ≡ Some r
  row_there zero f r few is = absurd (omega (arith, few))
  row_there (suc n) f r few is = by_last (last n f few) (λ below. row_there n f r below is)
    where
      more : (o : Option CertRow) → find (is_of f) (some_of n h) ≡ Some r → find (is_of f) (add_if o (some_of n h)) ≡ Some r
      more None e = e
      more (Some x) e = found_on f (some_of n h) x r e

      new : f ≡ n → (q : Option CertRow) → find (is_of f) (some_of n h) ≡ q → find (is_of f) (add_if (Some r) (some_of n h)) ≡ Some r
      new same None e = found_new f (some_of n h) r e (same_number r.func f (funcs f r is))
      new same (Some s) e = absurd (let below = (row_found n f s e).0 in omega (arith, below, same))

      by_last : (f < n) ⊎ (f ≡ n) → (f < n → find (is_of f) (some_of n h) ≡ Some r) → find (is_of f) (add_if (h n) (some_of n h)) ≡ Some r
      by_last (inl below) rest = more (h n) (rest below)
      by_last (inr same) rest = subst (λ (o : Option CertRow). find (is_of f) (add_if o (some_of n h)) ≡ Some r) (sym (ap h (sym same) ∙ is)) (new same (find (is_of f) (some_of n h)) refl)

-- ---- of a program

below_limit : (n m : ℕ) → n < m → nat_lt n m ≡ true
below_limit n m few = grind (arith, nat_tests)

both_hold : (a b : Bool) → a ≡ true → b ≡ true → (a && b) ≡ true
both_hold true b h i = i
both_hold false b h i = absurd cc

module _ (p : ProgramTy) where
  abbrev pub all : List Numbers
  all = all_numbers (g p) (costs_of p.unit p.main)

  abbrev pub rows : List CertRow
  rows = made.rows (g p) (all_standings p) all

  abbrev rowed : ℕ → Bool
  rowed f = has_row (g p) (all_standings p) f

  -- the rows of a certificate, and that no function was found without a bound
  pub certified : (rs : List CertRow) → certificate_of p.unit p.main ≡ Some rs → (unbounded_of p.unit p.main ≡ None) × (Some rows ≡ Some rs)
  certified rs e = by_found (unbounded_of p.unit p.main) refl e
    where
      by_found : (o : Option ℕ) → unbounded_of p.unit p.main ≡ o → rows_unless o rows ≡ Some rs → (unbounded_of p.unit p.main ≡ None) × (Some rows ≡ Some rs)
      by_found None is e = (is, e)
      by_found (Some f) is e = absurd cc

  row_is : (f : ℕ) (r : CertRow) (b : Bool) → (if b then Some (row_by f (number_in all f)) else None) ≡ Some r → (b ≡ true) × (Some (row_by f (number_in all f)) ≡ Some r)
  row_is f r true e = (refl, e)
  row_is f r false e = absurd cc

  abbrev func_if : Option CertRow → ℕ → ℕ
  func_if None f = f
  func_if (Some r) f = r.func

  pub row_func : (i : ℕ) (r : CertRow) → row_of (g p) (all_standings p) all i ≡ Some r → r.func ≡ i
  row_func i r e = sym (ap (λ (o : Option CertRow). func_if o i) (row_is i r (rowed i) e).1)

  numbers_if : Option CertRow → Option Numbers
  numbers_if o = option_map numbers_in o

  pub record IsGiven (f : ℕ) (n : Numbers) : Type 0 where
    pub there : f < length p.unit.funcs
    pub rowed : has_row (g p) (all_standings p) f ≡ true
    pub is : Some (number_in all f) ≡ Some n

  pub given_found : (f : ℕ) (n : Numbers) → given_by rows f ≡ Some n → IsGiven f n
  given_found f n e = by_row (find (is_of f) rows) refl e
    where
      by_row : (o : Option CertRow) → find (is_of f) rows ≡ o → option_map numbers_in o ≡ Some n → IsGiven f n
      by_row None is e = absurd cc
      by_row (Some r) is e =
          let found = row_found (row_of (g p) (all_standings p) all) row_func (length (g p)) f r is in
          let row = row_is f r (rowed f) found.1 in
          record { there = subst (λ n. f < n) (graph_long p.unit p.unit.funcs) found.0; rowed = row.0; is = ap (λ (o : Option CertRow). option_map numbers_in o) row.1 ∙ e }

  pub given_there : (f : ℕ) → f < length p.unit.funcs → rowed f ≡ true → given_by rows f ≡ Some (number_in all f)
  given_there f few has =
      ap (λ (o : Option CertRow). option_map numbers_in o)
      (row_there (row_of (g p) (all_standings p) all) row_func (length (g p)) f (row_by f (number_in all f)) (numbered p f few) (ap (λ (b : Bool). if b then Some (row_by f (number_in all f)) else None) has))

  -- ---- which functions have one

  cost_there_is : (o : Option Stmt) → is_some (facts_of p.unit o).cost ≡ is_some o
  cost_there_is None = refl
  cost_there_is (Some body) = refl

  has_cost : (f : ℕ) → is_some (cost_at (g p) f) ≡ is_some (body_at p f)
  has_cost f = ap (λ (o : Option ℕ). is_some o) (cost_there p f) ∙ cost_there_is (body_at p f)

  pub has_one : length p.unit.funcs ≤ numbers → (f : ℕ) → IsReachable p f → f < length p.unit.funcs → IsSome (body_at p f) → rowed f ≡ true
  has_one enough f r few body =
      both_hold (nat_lt f numbers && reachable_at (all_standings p) f) (is_some (cost_at (g p) f))
      (both_hold (nat_lt f numbers) (reachable_at (all_standings p) f) (below_limit f numbers (omega (arith, few, enough))) ((reach_is p f few).1 r))
      (has_cost f ∙ body)

  pub rowed_tells : (f : ℕ) → f < length p.unit.funcs → rowed f ≡ true → IsReachable p f × IsSome (body_at p f)
  rowed_tells f few e =
      let parts = both_true (nat_lt f numbers && reachable_at (all_standings p) f) (is_some (cost_at (g p) f)) e in
      let more = both_true (nat_lt f numbers) (reachable_at (all_standings p) f) parts.0 in
      ((reach_is p f few).0 more.1, sym (has_cost f) ∙ parts.1)

  numbered_if : (f : ℕ) (o : Option Stmt) → body_at p f ≡ o → IsSome o → f < length p.unit.funcs
  numbered_if f None is there = absurd cc
  numbered_if f (Some body) is there = is_numbered p f body is

  those_reached : length p.unit.funcs ≤ numbers → (f : ℕ) → IsSome (given_by rows f) ↔ (IsReachable p f × IsSome (body_at p f))
  those_reached enough f = (λ e. by_number (given_by rows f) refl e, λ h. some_there h)
    where
      by_number : (o : Option Numbers) → given_by rows f ≡ o → IsSome o → IsReachable p f × IsSome (body_at p f)
      by_number None is there = absurd cc
      by_number (Some n) is there = let given = given_found f n is in rowed_tells f given.there given.rowed

      some_there : IsReachable p f × IsSome (body_at p f) → IsSome (given_by rows f)
      some_there h =
          let few = numbered_if f (body_at p f) refl h.1 in
          ap (λ (o : Option Numbers). is_some o) (given_there f few (has_one enough f h.0 few h.1))

abbrev list_if : Option (List CertRow) → List CertRow
list_if None = []
list_if (Some rs) = rs

pub same_rows : (p : ProgramTy) (rs : List CertRow) → certificate_of p.unit p.main ≡ Some rs → rows p ≡ rs
same_rows p rs e = ap list_if (certified p rs e).1

pub rows_are_those_reached : RowsAreThoseReached
rows_are_those_reached p rs enough e f = subst (λ (all : List CertRow). IsSome (given_by all f) ↔ (IsReachable p f × IsSome (body_at p f))) (same_rows p rs e) (those_reached p enough f)
