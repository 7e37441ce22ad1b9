-- What calls and blocks name.
use Rattle.std.proofs.Common.{◌≡◌, ◌∙◌, ℕ, List, Vec, Global, Box, sym, ap}
use Rattle.c65_csem.specs.declared.expr.TExpr.{TExpr}
use Rattle.c65_csem.specs.declared.expr.TKind.{TKind}
use Rattle.c65_csem.specs.declared.expr.TKind.TheVariants as x
use Rattle.c65_csem.specs.declared.stmt.TStmt.{TStmt}
use Rattle.c65_csem.specs.declared.stmt.TStmt.TheVariants as s
use Rattle.c65_csem.specs.Views.{typed_of, node_of, nodes_of, stmt_of, stmts_of}
use Rattle.c65_csem.proofs.RowLaws.{node_of_call, stmt_of_block}
use Rattle.c65_init_join.specs.Uses.{MarksTy, named, named_by, named_in, stmt_named, stmts_named}

pub call_named : (m : MarksTy) (k : TKind) (f : Box TExpr Global) (v : Vec TExpr Global) (g : TExpr) (ys : List TExpr) → k ≡ x.Call f v → g ≡ f.value → ys ≡ v.items → named_in (nodes_of ys) (named (typed_of g) m) ≡ named_by (node_of k) m
call_named m k f v g ys is one all =
    ap (λ (e : TExpr). named_in (nodes_of ys) (named (typed_of e) m)) one
    ∙ ap (λ (zs : List TExpr). named_in (nodes_of zs) (named (typed_of f.value) m)) all
    ∙ sym (ap (λ (j : TKind). named_by (node_of j) m) is ∙ ap (λ n. named_by n m) (node_of_call f v))

pub block_named : (m : MarksTy) (k : TStmt) (os : Vec ℕ Global) (v : Vec TStmt Global) (ys : List TStmt) → k ≡ s.Block os v → ys ≡ v.items → stmts_named (stmts_of ys) m ≡ stmt_named (stmt_of k) m
block_named m k os v ys is list =
    ap (λ (zs : List TStmt). stmts_named (stmts_of zs) m) list
    ∙ sym (ap (λ (j : TStmt). stmt_named (stmt_of j) m) is ∙ ap (λ n. stmt_named n m) (stmt_of_block os v))
