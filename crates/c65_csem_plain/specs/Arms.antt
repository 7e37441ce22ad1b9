-- In how many first arms of `if`s, one within the other, a statement may stand (C90 6.6.4.1).
use Rattle.std.specs.Prelude.{ℕ, ◌+◌, max, Bool, true, false, ◌&&◌, nat_lt, if◌then◌else◌}
use Rattle.c65_csem.specs.Trees.{Stmt, block, if_stmt, while, do_while, for_loop, switch, case, default, label, Stmts, no_stmts, and_stmts}

abbrev mutual
  pub arms : Stmt → ℕ
  arms (block os ss) = arms_in ss
  arms (if_stmt e a b) = max (1 + arms a) (arms b)
  arms (while e s) = arms s
  arms (do_while s e) = arms s
  arms (for_loop i c n s) = arms s
  arms (switch e s) = arms s
  arms (case z s) = arms s
  arms (default s) = arms s
  arms (label l s) = arms s
  arms _ = 0

  pub arms_in : Stmts → ℕ
  arms_in no_stmts = 0
  arms_in (and_stmts s ss) = max (arms s) (arms_in ss)

-- the most of them in the body of a function; a source's statements nest 256 deep
abbrev pub most_arms : ℕ
most_arms = 2000

abbrev mutual
  -- whether a statement that stands in so many first arms has no more than the most within
  pub has_few_arms : ℕ → Stmt → Bool
  has_few_arms n (block os ss) = have_few_arms n ss
  has_few_arms n (if_stmt e a b) = nat_lt n most_arms && has_few_arms (n + 1) a && has_few_arms n b
  has_few_arms n (while e s) = has_few_arms n s
  has_few_arms n (do_while s e) = has_few_arms n s
  has_few_arms n (for_loop i c m s) = has_few_arms n s
  has_few_arms n (switch e s) = has_few_arms n s
  has_few_arms n (case z s) = has_few_arms n s
  has_few_arms n (default s) = has_few_arms n s
  has_few_arms n (label l s) = has_few_arms n s
  has_few_arms n _ = true

  pub have_few_arms : ℕ → Stmts → Bool
  have_few_arms n no_stmts = true
  have_few_arms n (and_stmts s ss) = if has_few_arms n s then have_few_arms n ss else false
