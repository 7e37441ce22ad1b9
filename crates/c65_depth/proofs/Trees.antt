-- The trees of the code, level by level, as the definitions go through them.
use Rattle.std.proofs.Common.{◌≡◌, ℕ, ◌+◌, List, [], ◌∷◌, ◌++◌, sym, ap, ◌∙◌, Global, Box, append_assoc}
use Rattle.std.specs.Global.{Vec}
use Rattle.c65_csem.specs.Trees.{UnitTy}
use Rattle.c65_csem.specs.declared.expr.TExpr.{TExpr}
use Rattle.c65_csem.specs.declared.expr.TKind.{TKind}
use Rattle.c65_csem.specs.declared.expr.TKind.TheVariants as x
use Rattle.c65_csem.specs.declared.stmt.TStmt.{TStmt}
use Rattle.c65_csem.specs.declared.stmt.TStmt.TheVariants as s
use Rattle.c65_csem.specs.Views.{typed_of, node_of, nodes_of, stmt_of, stmts_of}
use Rattle.c65_csem.proofs.RowLaws.{node_of_call, stmt_of_block}
use Rattle.c65_meaning.specs.Costs.{bytes_of_objects, local_bytes, all_local_bytes}
use Rattle.c65_depth.specs.declared.calls.Call.{Call}
use Rattle.c65_depth.specs.Calls.{call_to, calls_in, calls_in_node, calls_in_all, calls_of, calls_of_all}

call_calls : (u : UnitTy) (k : TKind) (f : Box TExpr Global) (v : Vec TExpr) (g : TExpr) (ys : List TExpr) → k ≡ x.Call f v → g ≡ f.value → ys ≡ v.items → call_to u (typed_of g) (nodes_of ys) ∷ calls_in u (typed_of g) ++ calls_in_all u (nodes_of ys) ≡ calls_in_node u (node_of k)
call_calls u k f v g ys is one all =
    ap (λ (e : TExpr). call_to u (typed_of e) (nodes_of ys) ∷ calls_in u (typed_of e) ++ calls_in_all u (nodes_of ys)) one
    ∙ ap (λ (zs : List TExpr). call_to u (typed_of f.value) (nodes_of zs) ∷ calls_in u (typed_of f.value) ++ calls_in_all u (nodes_of zs)) all
    ∙ sym (ap (λ (j : TKind). calls_in_node u (node_of j)) is ∙ ap (calls_in_node u) (node_of_call f v))

-- a call, then those of the callee, then those of the arguments
pub call_added : (u : UnitTy) (before pushed middle : List Call) (k : TKind) (f : Box TExpr Global) (v : Vec TExpr) (g : TExpr) (ys : List TExpr) → pushed ≡ before ++ call_to u (typed_of g) (nodes_of ys) ∷ [] → middle ≡ pushed ++ calls_in u (typed_of g) → k ≡ x.Call f v → g ≡ f.value → ys ≡ v.items → middle ++ calls_in_all u (nodes_of ys) ≡ before ++ calls_in_node u (node_of k)
call_added u before pushed middle k f v g ys first second is one all =
    let c = call_to u (typed_of g) (nodes_of ys) in
    let es = calls_in u (typed_of g) in
    let rest = calls_in_all u (nodes_of ys) in
    ap (λ (cs : List Call). cs ++ rest) second
    ∙ append_assoc pushed es rest
    ∙ ap (λ (cs : List Call). cs ++ (es ++ rest)) first
    ∙ append_assoc before (c ∷ []) (es ++ rest)
    ∙ ap (λ (cs : List Call). before ++ cs) (call_calls u k f v g ys is one all)

pub block_calls : (u : UnitTy) (k : TStmt) (os : Vec ℕ) (v : Vec TStmt) (ys : List TStmt) → k ≡ s.Block os v → ys ≡ v.items → calls_of_all u (stmts_of ys) ≡ calls_of u (stmt_of k)
block_calls u k os v ys is list =
    ap (λ (zs : List TStmt). calls_of_all u (stmts_of zs)) list
    ∙ sym (ap (λ (j : TStmt). calls_of u (stmt_of j)) is ∙ ap (calls_of u) (stmt_of_block os v))

pub block_bytes : (u : UnitTy) (k : TStmt) (os : Vec ℕ) (v : Vec TStmt) (ns : List ℕ) (ys : List TStmt) → k ≡ s.Block os v → ns ≡ os.items → ys ≡ v.items → bytes_of_objects u ns + all_local_bytes u (stmts_of ys) ≡ local_bytes u (stmt_of k)
block_bytes u k os v ns ys is numbers list =
    ap (λ (ms : List ℕ). bytes_of_objects u ms + all_local_bytes u (stmts_of ys)) numbers
    ∙ ap (λ (zs : List TStmt). bytes_of_objects u os.items + all_local_bytes u (stmts_of zs)) list
    ∙ sym (ap (λ (j : TStmt). local_bytes u (stmt_of j)) is ∙ ap (local_bytes u) (stmt_of_block os v))
