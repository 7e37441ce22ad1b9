-- The labels in a statement (C90 6.6.1, 6.6.4.2).
use Rattle.std.specs.Prelude.{ℕ, suc, max, ◌||◌, Bool, true, false}
use Rattle.c65_csem.specs.Trees.{Stmt, block, if_stmt, while, do_while, for_loop, switch, case, default, label, Stmts, no_stmts, and_stmts}

abbrev mutual
  -- whether a switch with this body has a default label
  pub has_default : Stmt → Bool
  has_default (block os ss) = have_default ss
  has_default (if_stmt e a b) = has_default a || has_default b
  has_default (while e a) = has_default a
  has_default (do_while a e) = has_default a
  has_default (for_loop i c n a) = has_default a
  has_default (case z a) = has_default a
  has_default (default a) = true
  has_default (label l a) = has_default a
  has_default _ = false

  pub have_default : Stmts → Bool
  have_default no_stmts = false
  have_default (and_stmts a ss) = has_default a || have_default ss

abbrev mutual
  -- one more than the greatest number of a label, or 0
  pub room_of : Stmt → ℕ
  room_of (block os ss) = room_in ss
  room_of (if_stmt e a b) = max (room_of a) (room_of b)
  room_of (while e a) = room_of a
  room_of (do_while a e) = room_of a
  room_of (for_loop i c n a) = room_of a
  room_of (switch e a) = room_of a
  room_of (case z a) = room_of a
  room_of (default a) = room_of a
  room_of (label l a) = max (room_of a) (suc l)
  room_of _ = 0

  pub room_in : Stmts → ℕ
  room_in no_stmts = 0
  room_in (and_stmts a ss) = max (room_of a) (room_in ss)
