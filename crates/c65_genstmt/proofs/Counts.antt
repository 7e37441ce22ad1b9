-- How many statements a statement has, and the statements of a block.
use Rattle.std.proofs.Common.{◌≡◌, ℕ, zero, suc, ◌+◌, ◌<◌, ◌≤◌, List, [], ◌∷◌, Vec, Global, length, get_or, sym, ap, ◌∙◌, arith}
use Rattle.c65_csem.specs.declared.stmt.TStmt.{TStmt}
use Rattle.c65_csem.specs.declared.stmt.TStmt.TheVariants as s
use Rattle.c65_csem.specs.Trees.{Stmt, block, if_stmt, while, do_while, for_loop, switch, case, default, label, Stmts, no_stmts, and_stmts}
use Rattle.c65_csem.specs.Views.{stmt_of, stmts_of}
use Rattle.c65_csem.proofs.RowLaws.{stmt_of_block}

abbrev mutual
  pub count : Stmt → ℕ
  count (block os ss) = 1 + counts ss
  count (if_stmt e a b) = 1 + (count a + count b)
  count (while e a) = 1 + count a
  count (do_while a e) = 1 + count a
  count (for_loop i c n a) = 1 + count a
  count (switch e a) = 1 + count a
  count (case z a) = 1 + count a
  count (default a) = 1 + count a
  count (label l a) = 1 + count a
  count _ = 1

  pub counts : Stmts → ℕ
  counts no_stmts = 0
  counts (and_stmts a ss) = count a + counts ss

pub one_of : (xs : List TStmt) (i : ℕ) (x : TStmt) → i < length xs → x ≡ get_or xs i x → count (stmt_of x) ≤ counts (stmts_of xs)
one_of [] i x h e = absurd (omega arith)
one_of (y ∷ ys) zero x h e = omega (arith, ap (λ (z : TStmt). count (stmt_of z)) e)
one_of (y ∷ ys) (suc i) x h e = omega (arith, one_of ys i x (omega arith) e)

pub block_is : (stmt : TStmt) (os : Vec ℕ Global) (v : Vec TStmt Global) (items : List TStmt) → stmt ≡ s.Block os v → items ≡ v.items → stmt_of stmt ≡ block os.items (stmts_of items)
block_is stmt os v items is is_items =
    ap (λ (x : TStmt). stmt_of x) is ∙ stmt_of_block os v ∙ ap (λ (xs : List TStmt). block os.items (stmts_of xs)) (sym is_items)
