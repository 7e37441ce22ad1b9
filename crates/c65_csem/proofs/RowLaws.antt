-- The trees of the code that hold a Vec, level by level.
use Rattle.std.proofs.Common.{◌≡◌, ℕ, List, Vec, Global, Box, refl, ap, ◌∙◌}
use mathlib.Core.Former.{Count}
use Rattle.c65_ctype.specs.Views.{qty_of}
use Rattle.c65_csem.specs.declared.expr.TExpr.{TExpr}
use Rattle.c65_csem.specs.declared.expr.TKind.{TKind, Row_of-TExpr, end_of-TExpr, more_of-TExpr, items-the_row-TExpr, items_hidden-the_row-TExpr-0}
use Rattle.c65_csem.specs.declared.expr.TKind.TheVariants as x
use Rattle.c65_csem.specs.declared.stmt.TStmt.{TStmt, Row_of-TStmt, end_of-TStmt, more_of-TStmt, items-the_row-TStmt, items_hidden-the_row-TStmt-0}
use Rattle.c65_csem.specs.declared.stmt.TStmt.TheVariants as s
use Rattle.c65_csem.specs.Trees
use Rattle.c65_csem.specs.Views.{node_of, row_nodes, nodes_of, typed_of, stmt_of, row_stmts, stmts_of}

abbrev call_row : TKind → (m : Count) × Row_of-TExpr m
call_row (x.Call' p q f shape row) = (_, row)
call_row _ = (_, end_of-TExpr)

nodes_row : (m : Count) (row : Row_of-TExpr m) → row_nodes row ≡ nodes_of (items-the_row-TExpr m row)
nodes_row m end_of-TExpr = refl
nodes_row m (more_of-TExpr t e rest) = ap (Trees.some (Trees.node (qty_of t) (node_of e))) (nodes_row _ rest)

pub node_of_call : (f : Box TExpr Global) (v : Vec TExpr Global) → node_of (x.Call f v) ≡ Trees.call (typed_of f.value) (nodes_of v.items)
node_of_call f v =
    let row = call_row (x.Call f v) in
    let same = items_hidden-the_row-TExpr-0 v in
    ap (Trees.call (typed_of f.value)) (nodes_row row.0 row.1 ∙ ap nodes_of same)

abbrev block_row : TStmt → (m : Count) × Row_of-TStmt m
block_row (s.Block' os shape row) = (_, row)
block_row _ = (_, end_of-TStmt)

stmts_row : (m : Count) (row : Row_of-TStmt m) → row_stmts row ≡ stmts_of (items-the_row-TStmt m row)
stmts_row m end_of-TStmt = refl
stmts_row m (more_of-TStmt b rest) = ap (Trees.and_stmts (stmt_of b)) (stmts_row _ rest)

pub stmt_of_block : (os : Vec ℕ Global) (v : Vec TStmt Global) → stmt_of (s.Block os v) ≡ Trees.block os.items (stmts_of v.items)
stmt_of_block os v =
    let row = block_row (s.Block os v) in
    let same = items_hidden-the_row-TStmt-0 v in
    ap (Trees.block os.items) (stmts_row row.0 row.1 ∙ ap stmts_of same)
