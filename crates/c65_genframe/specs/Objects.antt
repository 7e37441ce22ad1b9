-- The objects of the blocks of a function (C90 6.1.2.4, 6.6.2).
use Rattle.std.specs.Prelude.{ℕ, List, [], ◌++◌, Option, None, Some}
use Rattle.c65_csem.specs.Trees.{Stmt, block, if_stmt, while, do_while, for_loop, switch, case, default, label, Stmts, no_stmts, and_stmts, FuncTy}

abbrev mutual
  -- those of all blocks of a statement, in their order
  pub objects_in : Stmt → List ℕ
  objects_in (block os ss) = os ++ objects_in_all ss
  objects_in (if_stmt e a b) = objects_in a ++ objects_in b
  objects_in (while e a) = objects_in a
  objects_in (do_while a e) = objects_in a
  objects_in (for_loop i c n a) = objects_in a
  objects_in (switch e a) = objects_in a
  objects_in (case z a) = objects_in a
  objects_in (default a) = objects_in a
  objects_in (label l a) = objects_in a
  objects_in _ = []

  pub objects_in_all : Stmts → List ℕ
  objects_in_all no_stmts = []
  objects_in_all (and_stmts a ss) = objects_in a ++ objects_in_all ss

abbrev pub objects_of : Option Stmt → List ℕ
objects_of None = []
objects_of (Some body) = objects_in body

abbrev pub locals_of : FuncTy → List ℕ
locals_of f = objects_of f.body
