-- The labels of a body have room below those of its statements.
use Rattle.std.proofs.Common.{ℕ, suc, ◌≤◌, ◌⊎◌, inl, inr, List, [], ◌++◌, arith}
use Rattle.std.specs.Prelude.{max, Contains}
use Rattle.std.proofs.Math.Nat.{le-max_left, le-max_right}
use Rattle.std.proofs.lemmas.List.Elements.{Contains-append_cases}
use Rattle.c65_csem.specs.Trees.{Stmt, empty, eval, set_part, clear, block, if_stmt, while, do_while, for_loop, switch, case, default, label, goto, break, continue, return, Stmts, no_stmts, and_stmts}
use Rattle.c65_csem.specs.Statements.{labels_of, labels_in}
use Rattle.c65_genstmt.specs.Cases.{room_of, room_in}
use Rattle.c65_agree_homes.proofs.Counted.{contains_cases}

none_there : {A : Type 0} (l : ℕ) → Contains {X = ℕ} [] l → A
none_there l (k, lt, e) = absurd (omega (arith, lt))

either_fits : (xs ys : List ℕ) (l a b : ℕ) → Contains (xs ++ ys) l → (Contains xs l → suc l ≤ a) → (Contains ys l → suc l ≤ b) → suc l ≤ max a b
either_fits xs ys l a b h first second = go (Contains-append_cases xs ys l h)
  where
    go : Contains xs l ⊎ Contains ys l → suc l ≤ max a b
    go (inl e) = omega (arith, first e, le-max_left a b)
    go (inr e) = omega (arith, second e, le-max_right a b)

mutual
  pub label_fits : (s : Stmt) (l : ℕ) → Contains (labels_of s) l → suc l ≤ room_of s
  label_fits (block os ss) l h = label_fits_in ss l h
  label_fits (if_stmt e a b) l h = either_fits (labels_of a) (labels_of b) l (room_of a) (room_of b) h (λ k. label_fits a l k) (λ k. label_fits b l k)
  label_fits (while e a) l h = label_fits a l h
  label_fits (do_while a e) l h = label_fits a l h
  label_fits (for_loop i c n a) l h = label_fits a l h
  label_fits (switch e a) l h = label_fits a l h
  label_fits (case z a) l h = label_fits a l h
  label_fits (default a) l h = label_fits a l h
  label_fits (label n a) l h = contains_cases n (labels_of a) l h (λ e. omega (arith, e, le-max_right (room_of a) (suc n))) (λ k. let rest = label_fits a l k in omega (arith, rest, le-max_left (room_of a) (suc n)))
  label_fits empty l h = none_there l h
  label_fits (eval e) l h = none_there l h
  label_fits (set_part i o e) l h = none_there l h
  label_fits (clear i) l h = none_there l h
  label_fits (goto n) l h = none_there l h
  label_fits break l h = none_there l h
  label_fits continue l h = none_there l h
  label_fits (return e) l h = none_there l h

  label_fits_in : (ss : Stmts) (l : ℕ) → Contains (labels_in ss) l → suc l ≤ room_in ss
  label_fits_in no_stmts l h = none_there l h
  label_fits_in (and_stmts a ss) l h = either_fits (labels_of a) (labels_in ss) l (room_of a) (room_in ss) h (λ k. label_fits a l k) (λ k. label_fits_in ss l k)
