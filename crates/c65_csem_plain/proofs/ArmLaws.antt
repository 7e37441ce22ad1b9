-- What the test of first arms tells.
use Rattle.std.proofs.Common.{◌≡◌, ℕ, ◌+◌, ◌≤◌, Bool, true, false, ◌&&◌, refl, arith}
use Rattle.std.specs.Prelude.{max, nat_lt, ◌<◌}
use Rattle.std.proofs.lemmas.Bool.Decides.{Decides-ltb}
use Rattle.c65_csem.specs.Trees.{Stmt, empty, eval, set_part, clear, block, if_stmt, while, do_while, for_loop, switch, case, default, label, goto, break, continue, return, Stmts, no_stmts, and_stmts}
use Rattle.c65_csem_check.proofs.Tells.{like, both, tells_if}
use Rattle.c65_csem_plain.specs.Arms.{arms, arms_in, most_arms, has_few_arms, have_few_arms}
use Rattle.c65_csem_plain.proofs.BodyLaws.{Says}

none_within : (n : ℕ) → n ≤ most_arms → Says true (n + 0 ≤ most_arms)
none_within n le = record { yes = λ h. omega (arith, le); only = λ s w. refl }

arms_by : (n x y : ℕ) (so p q : Bool) → nat_lt n most_arms ≡ so → (n < most_arms → Says p (n + 1 + x ≤ most_arms)) → Says q (n + y ≤ most_arms) → Says (so && p && q) (n + max (1 + x) y ≤ most_arms)
arms_by n x y true p q e first second = like (both (first ((Decides-ltb n most_arms).0 e)) second) (λ h. let (a, b) = h in omega (arith, a, b)) (λ w. (omega (arith, w), omega (arith, w)))
arms_by n x y false p q e first second = record { yes = λ h. cc; only = λ s w. let f = (Decides-ltb n most_arms).1 (omega (arith, w)) in cc }

mutual
  says_arms : (n : ℕ) (s : Stmt) → n ≤ most_arms → Says (has_few_arms n s) (n + arms s ≤ most_arms)
  says_arms n empty le = none_within n le
  says_arms n (eval e) le = none_within n le
  says_arms n (set_part i o e) le = none_within n le
  says_arms n (clear i) le = none_within n le
  says_arms n (block os ss) le = says_arms_in n ss le
  says_arms n (if_stmt e a b) le = arms_by n (arms a) (arms b) (nat_lt n most_arms) (has_few_arms (n + 1) a) (has_few_arms n b) refl (λ lt. says_arms (n + 1) a (omega (arith, lt))) (says_arms n b le)
  says_arms n (while e s) le = says_arms n s le
  says_arms n (do_while s e) le = says_arms n s le
  says_arms n (for_loop i c m s) le = says_arms n s le
  says_arms n (switch e s) le = says_arms n s le
  says_arms n (case z s) le = says_arms n s le
  says_arms n (default s) le = says_arms n s le
  says_arms n (label l s) le = says_arms n s le
  says_arms n (goto l) le = none_within n le
  says_arms n break le = none_within n le
  says_arms n continue le = none_within n le
  says_arms n (return e) le = none_within n le

  says_arms_in : (n : ℕ) (ss : Stmts) → n ≤ most_arms → Says (have_few_arms n ss) (n + arms_in ss ≤ most_arms)
  says_arms_in n no_stmts le = none_within n le
  says_arms_in n (and_stmts s ss) le = like (tells_if (says_arms n s le) (says_arms_in n ss le)) (λ h. omega (arith, h)) (λ w. (omega (arith, w), omega (arith, w)))

pub says_few : (s : Stmt) → Says (has_few_arms 0 s) (arms s ≤ most_arms)
says_few s = like (says_arms 0 s (omega arith)) (λ h. omega (arith, h)) (λ w. omega (arith, w))
