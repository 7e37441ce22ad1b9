-- The arguments of a call and the statements of a block get their numbers one after another.
use Rattle.std.proofs.Common.{◌≡◌, ◌∙◌, ℕ, suc, ◌<◌, List, [], ◌∷◌, length, map, get_or, Vec, Global, Box, refl, sym, ap, arith}
use Rattle.c65_csem.specs.declared.expr.TExpr.{TExpr}
use Rattle.c65_csem.specs.declared.expr.TKind.TheVariants as x
use Rattle.c65_csem.specs.declared.stmt.TStmt.{TStmt}
use Rattle.c65_csem.specs.declared.stmt.TStmt.TheVariants as s
use Rattle.c65_csem.specs.Trees.{Typed, call, some, Stmt, block, and_stmts}
use Rattle.c65_csem.specs.Views.{typed_of, node_of, nodes_of, stmt_of, stmts_of}
use Rattle.c65_csem.proofs.RowLaws.{node_of_call, stmt_of_block}
use Rattle.c65_init_join.specs.Numbers.{NumbersTy}
use Rattle.c65_init_join.specs.Renumbered.{object_number, renumbered, renumbered_node, renumbered_nodes, renumbered_stmt, renumbered_stmts}

pub all_renumbered : (ns : NumbersTy) (xs ys : List TExpr) → length xs ≡ length ys → ((k : ℕ) (d : TExpr) → k < length ys → typed_of (get_or xs k d) ≡ renumbered ns (typed_of (get_or ys k d))) → nodes_of xs ≡ renumbered_nodes ns (nodes_of ys)
all_renumbered ns [] [] same each = refl
all_renumbered ns [] (y ∷ ys) same each = absurd (omega arith)
all_renumbered ns (x ∷ xs) [] same each = absurd (omega arith)
all_renumbered ns (x ∷ xs) (y ∷ ys) same each =
    let one : typed_of x ≡ renumbered ns (typed_of y) = each 0 x (omega arith) in
    let rest = all_renumbered ns xs ys (omega arith) (λ k d below. each (suc k) d (omega arith)) in
    ap (λ (e : Typed). some e (nodes_of xs)) one ∙ ap (some (renumbered ns (typed_of y))) rest

pub call_renumbered : (ns : NumbersTy) (f g : Box TExpr Global) (v w : Vec TExpr Global) → typed_of f.value ≡ renumbered ns (typed_of g.value) → nodes_of v.items ≡ renumbered_nodes ns (nodes_of w.items) → node_of (x.Call f v) ≡ renumbered_node ns (node_of (x.Call g w))
call_renumbered ns f g v w one all =
    node_of_call f v
    ∙ ap (λ (e : Typed). call e (nodes_of v.items)) one
    ∙ ap (call (renumbered ns (typed_of g.value))) all
    ∙ sym (ap (renumbered_node ns) (node_of_call g w))

pub all_stmts_renumbered : (ns : NumbersTy) (xs ys : List TStmt) → length xs ≡ length ys → ((k : ℕ) (d : TStmt) → k < length ys → stmt_of (get_or xs k d) ≡ renumbered_stmt ns (stmt_of (get_or ys k d))) → stmts_of xs ≡ renumbered_stmts ns (stmts_of ys)
all_stmts_renumbered ns [] [] same each = refl
all_stmts_renumbered ns [] (y ∷ ys) same each = absurd (omega arith)
all_stmts_renumbered ns (x ∷ xs) [] same each = absurd (omega arith)
all_stmts_renumbered ns (x ∷ xs) (y ∷ ys) same each =
    let one : stmt_of x ≡ renumbered_stmt ns (stmt_of y) = each 0 x (omega arith) in
    let rest = all_stmts_renumbered ns xs ys (omega arith) (λ k d below. each (suc k) d (omega arith)) in
    ap (λ (e : Stmt). and_stmts e (stmts_of xs)) one ∙ ap (and_stmts (renumbered_stmt ns (stmt_of y))) rest

pub block_renumbered : (ns : NumbersTy) (os ps : Vec ℕ Global) (v w : Vec TStmt Global) → os.items ≡ map (object_number ns) ps.items → stmts_of v.items ≡ renumbered_stmts ns (stmts_of w.items) → stmt_of (s.Block os v) ≡ renumbered_stmt ns (stmt_of (s.Block ps w))
block_renumbered ns os ps v w these all =
    stmt_of_block os v
    ∙ ap (λ (ks : List ℕ). block ks (stmts_of v.items)) these
    ∙ ap (block (map (object_number ns) ps.items)) all
    ∙ sym (ap (renumbered_stmt ns) (stmt_of_block ps w))
