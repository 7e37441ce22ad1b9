-- The trees of the code, and the marks of what is in scope, level by level, as the tests go through them.
use Rattle.std.proofs.Common.{◌≡◌, ℕ, zero, suc, List, [], ◌∷◌, ◌++◌, refl, sym, ap, ◌∙◌, Bool, true, false, ◌&&◌, Global, Box, slice_set}
use Rattle.std.specs.Global.{Vec}
use Rattle.c65_csem.specs.Trees.{UnitTy}
use Rattle.c65_csem.specs.declared.expr.TExpr.{TExpr}
use Rattle.c65_csem.specs.declared.expr.TKind.{TKind}
use Rattle.c65_csem.specs.declared.expr.TKind.TheVariants as x
use Rattle.c65_csem.specs.declared.stmt.TStmt.{TStmt}
use Rattle.c65_csem.specs.declared.stmt.TStmt.TheVariants as s
use Rattle.c65_csem.specs.Views.{typed_of, node_of, nodes_of, stmt_of, stmts_of}
use Rattle.c65_csem.proofs.RowLaws.{node_of_call, stmt_of_block}
use Rattle.c65_csem_names.specs.Tests

-- ---- trees

pub both_same : {a b x y : Bool} → a ≡ x → b ≡ y → (a && b) ≡ (x && y)
both_same {b = b} {x = x} p q = ap (λ (t : Bool). t && b) p ∙ ap (λ (t : Bool). x && t) q

pub call_node : (u : UnitTy) (variadic : Bool) (marks : List Bool) (k : TKind) (f : Box TExpr Global) (v : Vec TExpr) (g : TExpr) (ys : List TExpr) → k ≡ x.Call f v → g ≡ f.value → ys ≡ v.items → (Tests.is_scoped_in u variadic marks (typed_of g) && Tests.are_scoped_in u variadic marks (nodes_of ys)) ≡ Tests.is_scoped_node u variadic marks (node_of k)
call_node u variadic marks k f v g ys is one all =
    ap (λ (e : TExpr). Tests.is_scoped_in u variadic marks (typed_of e) && Tests.are_scoped_in u variadic marks (nodes_of ys)) one
    ∙ ap (λ (zs : List TExpr). Tests.is_scoped_in u variadic marks (typed_of f.value) && Tests.are_scoped_in u variadic marks (nodes_of zs)) all
    ∙ sym (ap (λ (j : TKind). Tests.is_scoped_node u variadic marks (node_of j)) is ∙ ap (Tests.is_scoped_node u variadic marks) (node_of_call f v))

pub block_stmt : (u : UnitTy) (variadic : Bool) (marks : List Bool) (k : TStmt) (os : Vec ℕ) (v : Vec TStmt) (ns : List ℕ) (ys : List TStmt) → k ≡ s.Block os v → ns ≡ os.items → ys ≡ v.items → Tests.are_scoped u variadic (Tests.entered ns marks) (stmts_of ys) ≡ Tests.is_scoped u variadic marks (stmt_of k)
block_stmt u variadic marks k os v ns ys is numbers list =
    ap (λ (ms : List ℕ). Tests.are_scoped u variadic (Tests.entered ms marks) (stmts_of ys)) numbers
    ∙ ap (λ (zs : List TStmt). Tests.are_scoped u variadic (Tests.entered os.items marks) (stmts_of zs)) list
    ∙ sym (ap (λ (j : TStmt). Tests.is_scoped u variadic marks (stmt_of j)) is ∙ ap (Tests.is_scoped u variadic marks) (stmt_of_block os v))

-- ---- marks

pub left_last : (xs : List ℕ) (i : ℕ) (marks : List Bool) → Tests.left (xs ++ i ∷ []) marks ≡ Tests.left xs (slice_set marks i false)
left_last [] i marks = refl
left_last (x ∷ xs) i marks = ap (λ (ms : List Bool). slice_set ms x false) (left_last xs i marks)

-- an object that is not marked, and the mark set and taken away
pub unset_again : (marks : List Bool) (i : ℕ) → Tests.is_unmarked marks i ≡ true → slice_set (slice_set marks i true) i false ≡ marks
unset_again [] i h = absurd (none i h)
  where
    none : (i : ℕ) → Tests.is_unmarked [] i ≡ true → ⊥
    none i h = cc
unset_again (true ∷ marks) zero h = cc
unset_again (false ∷ marks) zero h = refl
unset_again (m ∷ marks) (suc i) h = ap (λ (ms : List Bool). m ∷ ms) (unset_again marks i h)

-- where it is marked, or is no object of the program, nothing changes
pub set_already : (marks : List Bool) (i : ℕ) → Tests.is_unmarked marks i ≡ false → slice_set marks i true ≡ marks
set_already [] i h = refl
set_already (true ∷ marks) zero h = refl
set_already (false ∷ marks) zero h = cc
set_already (m ∷ marks) (suc i) h = ap (λ (ms : List Bool). m ∷ ms) (set_already marks i h)

pub left_fresh : (xs : List ℕ) (i : ℕ) (marks : List Bool) → Tests.is_unmarked marks i ≡ true → Tests.left (xs ++ i ∷ []) (slice_set marks i true) ≡ Tests.left xs marks
left_fresh xs i marks h = left_last xs i (slice_set marks i true) ∙ ap (Tests.left xs) (unset_again marks i h)
