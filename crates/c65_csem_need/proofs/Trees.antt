-- The code goes through trees as the definitions do.
use Rattle.std.proofs.Common.{◌≡◌, ℕ, ◌+◌, ◌<◌, ◌≤◌, List, [], ◌∷◌, Box, Vec, Global, length, drop, get_or, refl, sym, ap, ◌∙◌, add-one}
use Rattle.std.specs.Prelude.{max}
use Rattle.std.proofs.Math.Seq.{drop-cons}
use Rattle.std.proofs.lemmas.List.{drop_all}
use Rattle.c65_csem.specs.declared.expr.TExpr.{TExpr}
use Rattle.c65_csem.specs.declared.expr.TKind.{TKind}
use Rattle.c65_csem.specs.declared.expr.TKind.TheVariants as x
use Rattle.c65_csem.specs.declared.stmt.TStmt.{TStmt}
use Rattle.c65_csem.specs.declared.stmt.TStmt.TheVariants as s
use Rattle.c65_csem.specs.Views.{node_of, typed_of, nodes_of, stmt_of, stmts_of}
use Rattle.c65_csem.proofs.RowLaws.{node_of_call, stmt_of_block}
use Rattle.c65_csem_need.specs.Needs.{need, need_in, need_of_all, greatest_need, greatest_need_of_all}

pub call_need : (k : TKind) (f : Box TExpr Global) (v : Vec TExpr Global) (g : TExpr) (ys : List TExpr) → k ≡ x.Call f v → g ≡ f.value → ys ≡ v.items → need_in (node_of k) ≡ max (need (typed_of g)) (need_of_all (nodes_of ys))
call_need k f v g ys is one all =
    ap (λ (j : TKind). need_in (node_of j)) is
    ∙ ap need_in (node_of_call f v)
    ∙ sym (ap (λ (zs : List TExpr). max (need (typed_of f.value)) (need_of_all (nodes_of zs))) all)
    ∙ sym (ap (λ (e : TExpr). max (need (typed_of e)) (need_of_all (nodes_of ys))) one)

pub block_need : (k : TStmt) (os : Vec ℕ Global) (v : Vec TStmt Global) (ys : List TStmt) → k ≡ s.Block os v → ys ≡ v.items → greatest_need (stmt_of k) ≡ greatest_need_of_all (stmts_of ys)
block_need k os v ys is all =
    ap (λ (j : TStmt). greatest_need (stmt_of j)) is
    ∙ ap greatest_need (stmt_of_block os v)
    ∙ sym (ap (λ (zs : List TStmt). greatest_need_of_all (stmts_of zs)) all)

next_of : {A : Type 0} (xs : List A) (i : ℕ) (y : A) → i < length xs → y ≡ get_or xs i y → drop i xs ≡ y ∷ drop (i + 1) xs
next_of xs i y below is =
    let e : drop i xs ≡ get_or xs i y ∷ drop (i + 1) xs = rw (add-one, drop-cons xs i y) refl in
    e ∙ ap (λ z. z ∷ drop (i + 1) xs) (sym is)

pub nodes_next : (es : List TExpr) (i : ℕ) (e : TExpr) → i < length es → e ≡ get_or es i e → need_of_all (nodes_of (drop i es)) ≡ 1 + max (need (typed_of e)) (need_of_all (nodes_of (drop (i + 1) es)))
nodes_next es i e below is = ap (λ (xs : List TExpr). need_of_all (nodes_of xs)) (next_of es i e below is)

pub nodes_past : (es : List TExpr) (i : ℕ) → length es ≤ i → need_of_all (nodes_of (drop i es)) ≡ 0
nodes_past es i past = ap (λ (xs : List TExpr). need_of_all (nodes_of xs)) (drop_all i es past)

pub stmts_next : (ss : List TStmt) (i : ℕ) (s : TStmt) → i < length ss → s ≡ get_or ss i s → greatest_need_of_all (stmts_of (drop i ss)) ≡ max (greatest_need (stmt_of s)) (greatest_need_of_all (stmts_of (drop (i + 1) ss)))
stmts_next ss i s below is = ap (λ (xs : List TStmt). greatest_need_of_all (stmts_of xs)) (next_of ss i s below is)

pub stmts_past : (ss : List TStmt) (i : ℕ) → length ss ≤ i → greatest_need_of_all (stmts_of (drop i ss)) ≡ 0
stmts_past ss i past = ap (λ (xs : List TStmt). greatest_need_of_all (stmts_of xs)) (drop_all i ss past)
