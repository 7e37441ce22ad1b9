-- The trees of the code, level by level, as the tests go through them.
use Rattle.std.proofs.Common.{◌≡◌, ℕ, List, ◌++◌, sym, ap, ◌∙◌, Bool, ◌&&◌, Global, Box, append_assoc}
use Rattle.std.specs.Global.{Vec}
use Rattle.c65_ctype.specs.Trees.{Ty, TypesTy}
use Rattle.c65_csem.specs.Trees.{UnitTy}
use Rattle.c65_csem.specs.declared.expr.TExpr.{TExpr}
use Rattle.c65_csem.specs.declared.expr.TKind.{TKind}
use Rattle.c65_csem.specs.declared.expr.TKind.TheVariants as x
use Rattle.c65_csem.specs.declared.stmt.TStmt.{TStmt}
use Rattle.c65_csem.specs.declared.stmt.TStmt.TheVariants as s
use Rattle.c65_csem.specs.Views.{typed_of, node_of, nodes_of, stmt_of, stmts_of}
use Rattle.c65_csem.proofs.RowLaws.{node_of_call, stmt_of_block}
use Rattle.c65_csem_plain.specs.Arms.{has_few_arms, have_few_arms}
use Rattle.c65_csem_plain.specs.Body.{objects_of, objects_in}
use Rattle.c65_csem_plain.specs.Tests

pub both_same : {a b x y : Bool} → a ≡ x → b ≡ y → (a && b) ≡ (x && y)
both_same {b = b} {x = x} p q = ap (λ (t : Bool). t && b) p ∙ ap (λ (t : Bool). x && t) q

pub call_node : (types : TypesTy) (t : Ty) (k : TKind) (f : Box TExpr Global) (v : Vec TExpr) (g : TExpr) (ys : List TExpr) → k ≡ x.Call f v → g ≡ f.value → ys ≡ v.items → (Tests.is_plain_in types (typed_of g) && Tests.are_plain_in types (nodes_of ys)) ≡ Tests.is_plain_node types t (node_of k)
call_node types t k f v g ys is one all =
    ap (λ (e : TExpr). Tests.is_plain_in types (typed_of e) && Tests.are_plain_in types (nodes_of ys)) one
    ∙ ap (λ (zs : List TExpr). Tests.is_plain_in types (typed_of f.value) && Tests.are_plain_in types (nodes_of zs)) all
    ∙ sym (ap (λ (j : TKind). Tests.is_plain_node types t (node_of j)) is ∙ ap (Tests.is_plain_node types t) (node_of_call f v))

pub block_stmt : (u : UnitTy) (own : List ℕ) (k : TStmt) (os : Vec ℕ) (v : Vec TStmt) (ys : List TStmt) → k ≡ s.Block os v → ys ≡ v.items → Tests.are_plain_stmts u own (stmts_of ys) ≡ Tests.is_plain_stmt u own (stmt_of k)
block_stmt u own k os v ys is list =
    ap (λ (zs : List TStmt). Tests.are_plain_stmts u own (stmts_of zs)) list
    ∙ sym (ap (λ (j : TStmt). Tests.is_plain_stmt u own (stmt_of j)) is ∙ ap (Tests.is_plain_stmt u own) (stmt_of_block os v))

pub block_arms : (n : ℕ) (k : TStmt) (os : Vec ℕ) (v : Vec TStmt) (ys : List TStmt) → k ≡ s.Block os v → ys ≡ v.items → have_few_arms n (stmts_of ys) ≡ has_few_arms n (stmt_of k)
block_arms n k os v ys is list =
    ap (λ (zs : List TStmt). have_few_arms n (stmts_of zs)) list
    ∙ sym (ap (λ (j : TStmt). has_few_arms n (stmt_of j)) is ∙ ap (has_few_arms n) (stmt_of_block os v))

block_objects : (k : TStmt) (os : Vec ℕ) (v : Vec TStmt) (ns : List ℕ) (ys : List TStmt) → k ≡ s.Block os v → ns ≡ os.items → ys ≡ v.items → (ns ++ objects_in (stmts_of ys)) ≡ objects_of (stmt_of k)
block_objects k os v ns ys is numbers list =
    ap (λ (ms : List ℕ). ms ++ objects_in (stmts_of ys)) numbers
    ∙ ap (λ (zs : List TStmt). os.items ++ objects_in (stmts_of zs)) list
    ∙ sym (ap (λ (j : TStmt). objects_of (stmt_of j)) is ∙ ap objects_of (stmt_of_block os v))

pub block_added : (before middle : List ℕ) (k : TStmt) (os : Vec ℕ) (v : Vec TStmt) (ns : List ℕ) (ys : List TStmt) → middle ≡ before ++ ns → k ≡ s.Block os v → ns ≡ os.items → ys ≡ v.items → middle ++ objects_in (stmts_of ys) ≡ before ++ objects_of (stmt_of k)
block_added before middle k os v ns ys added is numbers list =
    ap (λ (ms : List ℕ). ms ++ objects_in (stmts_of ys)) added
    ∙ append_assoc before ns (objects_in (stmts_of ys))
    ∙ ap (λ (ms : List ℕ). before ++ ms) (block_objects k os v ns ys is numbers list)
