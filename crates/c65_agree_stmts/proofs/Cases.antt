-- The labels of a switch's cases, in the order of the cases (C90 6.6.4.2).
use Rattle.std.proofs.Common.{◌≡◌, ℕ, suc, ℤ, List, [], ◌∷◌, ◌++◌, Option, Some, None, Bool, true, false, refl, sym, ap, ◌∙◌, arith, length-append}
use Rattle.std.specs.Prelude.{length, ◌||◌, if◌then◌else◌}
use Rattle.c65_csem.specs.Trees.{Stmt, empty, eval, set_part, clear, block, if_stmt, while, do_while, for_loop, switch, case, default, label, goto, break, continue, return, Stmts, no_stmts, and_stmts}
use Rattle.c65_csem.specs.Statements.{cases_of, cases_in}
use Rattle.c65_meaning.specs.Integers.{same_number}
use Rattle.c65_meaning.specs.After.{ToLabel, ToCase, ToDefault, is_label}
use Rattle.c65_meaning.specs.Sites as sites
use Rattle.c65_genstmt.specs.Jumps.{following}
use Rattle.c65_genstmt.specs.Cases.{has_default, have_default}
use Rattle.c65_genstmt.specs.Stmts.{case_behind, case_behind_all}
use Rattle.c65_agree_stmts.specs.Landings.{first_of, label_of, label_in}
use Rattle.c65_agree_stmts.specs.Choices.{case_of}

-- the label behind those of cases
abbrev case_after : List ℤ → ℕ → ℕ
case_after [] next = next
case_after (y ∷ ys) next = case_after ys (following next)

after_both : (xs ys : List ℤ) (next : ℕ) → case_after (xs ++ ys) next ≡ case_after ys (case_after xs next)
after_both [] ys next = refl
after_both (x ∷ xs) ys next = after_both xs ys (following next)

of_both : (z : ℤ) (xs ys : List ℤ) (next : ℕ) → case_of z (xs ++ ys) next ≡ first_of (case_of z xs next) (case_of z ys (case_after xs next))
of_both z [] ys next = refl
of_both z (x ∷ xs) ys next = go (same_number z x) (of_both z xs ys (following next))
  where
    go : (b : Bool) → case_of z (xs ++ ys) (following next) ≡ first_of (case_of z xs (following next)) (case_of z ys (case_after xs (following next)))
        → (if b then Some next else case_of z (xs ++ ys) (following next)) ≡ first_of (if b then Some next else case_of z xs (following next)) (case_of z ys (case_after xs (following next)))
    go true e = refl
    go false e = e

mutual
  behind_is : (next : ℕ) (s : Stmt) → case_behind next s ≡ case_after (cases_of s) next
  behind_is next empty = refl
  behind_is next (eval e) = refl
  behind_is next (set_part i o e) = refl
  behind_is next (clear i) = refl
  behind_is next (block os ss) = behinds_are next ss
  behind_is next (if_stmt e a b) = behind_is (case_behind next a) b ∙ (ap (case_after (cases_of b)) (behind_is next a) ∙ sym (after_both (cases_of a) (cases_of b) next))
  behind_is next (while e s) = behind_is next s
  behind_is next (do_while s e) = behind_is next s
  behind_is next (for_loop i c n s) = behind_is next s
  behind_is next (switch e s) = refl
  behind_is next (case z s) = behind_is (following next) s
  behind_is next (default s) = behind_is next s
  behind_is next (label l s) = behind_is next s
  behind_is next (goto l) = refl
  behind_is next break = refl
  behind_is next continue = refl
  behind_is next (return o) = refl

  behinds_are : (next : ℕ) (ss : Stmts) → case_behind_all next ss ≡ case_after (cases_in ss) next
  behinds_are next no_stmts = refl
  behinds_are next (and_stmts s ss) = behinds_are (case_behind next s) ss ∙ (ap (case_after (cases_in ss)) (behind_is next s) ∙ sym (after_both (cases_of s) (cases_in ss) next))

-- in two parts, one behind the other
joined : (z : ℤ) (xs ys : List ℤ) (next behind : ℕ) (o o2 : Option ℕ) → behind ≡ case_after xs next → o ≡ case_of z xs next → o2 ≡ case_of z ys behind → first_of o o2 ≡ case_of z (xs ++ ys) next
joined z xs ys next behind o o2 e f f2 = rw (f, f2, e) (sym (of_both z xs ys next))

mutual
  pub case_is : (z : ℤ) (other next : ℕ) (s : Stmt) → label_of (ToCase z) other next s ≡ case_of z (cases_of s) next
  case_is z other next empty = refl
  case_is z other next (eval e) = refl
  case_is z other next (set_part i o e) = refl
  case_is z other next (clear i) = refl
  case_is z other next (block os ss) = cases_are z other next ss
  case_is z other next (if_stmt e a b) = joined z (cases_of a) (cases_of b) next (case_behind next a) _ _ (behind_is next a) (case_is z other next a) (case_is z other (case_behind next a) b)
  case_is z other next (while e s) = case_is z other next s
  case_is z other next (do_while s e) = case_is z other next s
  case_is z other next (for_loop i c n s) = case_is z other next s
  case_is z other next (switch e s) = refl
  case_is z other next (case y s) = ap (λ o. if same_number z y then Some next else o) (case_is z other (following next) s)
  case_is z other next (default s) = case_is z other next s
  case_is z other next (label l s) = case_is z other next s
  case_is z other next (goto l) = refl
  case_is z other next break = refl
  case_is z other next continue = refl
  case_is z other next (return o) = refl

  cases_are : (z : ℤ) (other next : ℕ) (ss : Stmts) → label_in (ToCase z) other next ss ≡ case_of z (cases_in ss) next
  cases_are z other next no_stmts = refl
  cases_are z other next (and_stmts s ss) = joined z (cases_of s) (cases_in ss) next (case_behind next s) _ _ (behind_is next s) (case_is z other next s) (cases_are z other (case_behind next s) ss)

-- ---- default

abbrev pub other_if : ℕ → Bool → Option ℕ
other_if other b = if b then Some other else None

either : (other : ℕ) (a b : Bool) → first_of (other_if other a) (other_if other b) ≡ other_if other (a || b)
either other true b = refl
either other false b = refl

mutual
  pub default_is : (other next : ℕ) (s : Stmt) → label_of ToDefault other next s ≡ other_if other (has_default s)
  default_is other next empty = refl
  default_is other next (eval e) = refl
  default_is other next (set_part i o e) = refl
  default_is other next (clear i) = refl
  default_is other next (block os ss) = defaults_are other next ss
  default_is other next (if_stmt e a b) = rw (default_is other next a, default_is other (case_behind next a) b) (either other (has_default a) (has_default b))
  default_is other next (while e s) = default_is other next s
  default_is other next (do_while s e) = default_is other next s
  default_is other next (for_loop i c n s) = default_is other next s
  default_is other next (switch e s) = refl
  default_is other next (case y s) = default_is other (following next) s
  default_is other next (default s) = refl
  default_is other next (label l s) = default_is other next s
  default_is other next (goto l) = refl
  default_is other next break = refl
  default_is other next continue = refl
  default_is other next (return o) = refl

  defaults_are : (other next : ℕ) (ss : Stmts) → label_in ToDefault other next ss ≡ other_if other (have_default ss)
  defaults_are other next no_stmts = refl
  defaults_are other next (and_stmts s ss) = rw (default_is other next s, defaults_are other (case_behind next s) ss) (either other (has_default s) (have_default ss))

-- ---- labels of the function

mutual
  pub label_same : (l o o2 n n2 : ℕ) (s : Stmt) → label_of (ToLabel l) o n s ≡ label_of (ToLabel l) o2 n2 s
  label_same l o o2 n n2 empty = refl
  label_same l o o2 n n2 (eval e) = refl
  label_same l o o2 n n2 (set_part i k e) = refl
  label_same l o o2 n n2 (clear i) = refl
  label_same l o o2 n n2 (block os ss) = labels_same l o o2 n n2 ss
  label_same l o o2 n n2 (if_stmt e a b) = rw (label_same l o o2 n n2 a, label_same l o o2 (case_behind n a) (case_behind n2 a) b) refl
  label_same l o o2 n n2 (while e s) = label_same l o o2 n n2 s
  label_same l o o2 n n2 (do_while s e) = label_same l o o2 n n2 s
  label_same l o o2 n n2 (for_loop i c m s) = label_same l o o2 n n2 s
  label_same l o o2 n n2 (switch e s) = label_same l o o2 n n2 s
  label_same l o o2 n n2 (case y s) = label_same l o o2 (following n) (following n2) s
  label_same l o o2 n n2 (default s) = label_same l o o2 n n2 s
  label_same l o o2 n n2 (label m s) = ap (λ r. if is_label (ToLabel l) m then Some (following m) else r) (label_same l o o2 n n2 s)
  label_same l o o2 n n2 (goto m) = refl
  label_same l o o2 n n2 break = refl
  label_same l o o2 n n2 continue = refl
  label_same l o o2 n n2 (return r) = refl

  labels_same : (l o o2 n n2 : ℕ) (ss : Stmts) → label_in (ToLabel l) o n ss ≡ label_in (ToLabel l) o2 n2 ss
  labels_same l o o2 n n2 no_stmts = refl
  labels_same l o o2 n n2 (and_stmts s ss) = rw (label_same l o o2 n n2 s, labels_same l o o2 (case_behind n s) (case_behind n2 s) ss) refl

-- ---- as many as the meaning counts

mutual
  pub cases_counted : (s : Stmt) → length (cases_of s) ≡ sites.cases_of s
  cases_counted empty = refl
  cases_counted (eval e) = refl
  cases_counted (set_part i o e) = refl
  cases_counted (clear i) = refl
  cases_counted (block os ss) = all_counted ss
  cases_counted (if_stmt e a b) = omega (arith, length-append (cases_of a) (cases_of b), cases_counted a, cases_counted b)
  cases_counted (while e s) = cases_counted s
  cases_counted (do_while s e) = cases_counted s
  cases_counted (for_loop i c n s) = cases_counted s
  cases_counted (switch e s) = refl
  cases_counted (case z s) = ap suc (cases_counted s)
  cases_counted (default s) = cases_counted s
  cases_counted (label l s) = cases_counted s
  cases_counted (goto l) = refl
  cases_counted break = refl
  cases_counted continue = refl
  cases_counted (return o) = refl

  all_counted : (ss : Stmts) → length (cases_in ss) ≡ sites.all_cases_of ss
  all_counted no_stmts = refl
  all_counted (and_stmts s ss) = omega (arith, length-append (cases_of s) (cases_in ss), cases_counted s, all_counted ss)
