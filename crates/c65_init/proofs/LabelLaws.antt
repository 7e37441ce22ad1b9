-- The labels of a block, and of one statement more.
use Rattle.std.proofs.Common.{◌≡◌, ◌∙◌, ℕ, ◌+◌, ◌<◌, ◌≤◌, List, [], ◌∷◌, ◌++◌, length, take, get_or, Vec, Global, sym, ap, append_assoc}
use Rattle.std.proofs.lemmas.List.{append-nil, take_more, take_all}
use Rattle.c65_base.specs.declared.names.Name.{Name}
use Rattle.c65_base.specs.declared.refusal.Pos.{Pos}
use Rattle.c65_tree.specs.declared.stmt.Decl.{Decl}
use Rattle.c65_tree.specs.declared.stmt.Stmt.{Stmt}
use Rattle.c65_tree.specs.declared.stmt.StmtKind.TheVariants as k
use Rattle.c65_tree.specs.Trees as t
use Rattle.c65_tree.specs.View as v
use Rattle.c65_tree.proofs.Views.{block_view}
use Rattle.c65_tree.proofs.Growing.{stmts_push}
use Rattle.c65_init.specs.Labels.{labels_of, labels_in}

pub block_labels : (l : Pos) (ds : Vec Decl Global) (ss : Vec Stmt Global) → labels_of (v.stmt_at l (k.Block ds ss)) ≡ labels_in (v.stmts_from t.no_stmts ss.items)
block_labels l ds ss = ap labels_of (block_view l ds ss)

pub labels_next : (now old new : List Name) (ss : List Stmt) (i : ℕ) (x : Stmt) → i < length ss → x ≡ get_or ss i x → now ≡ old ++ labels_in (v.stmts_from t.no_stmts (take i ss)) → new ≡ now ++ labels_of (v.stmt_of x) → new ≡ old ++ labels_in (v.stmts_from t.no_stmts (take (i + 1) ss))
labels_next now old new ss i x h is so_far more =
    more ∙ ap (λ ls. ls ++ labels_of (v.stmt_of x)) so_far
    ∙ append_assoc old (labels_in (v.stmts_from t.no_stmts (take i ss))) (labels_of (v.stmt_of x))
    ∙ ap (λ ls. old ++ ls) (sym (ap (λ bs. labels_in (v.stmts_from t.no_stmts bs)) (take_more ss i x h ∙ ap (λ y. take i ss ++ y ∷ []) (sym is)) ∙ ap labels_in (stmts_push t.no_stmts (take i ss) x)))

pub labels_all : (now old : List Name) (ss : List Stmt) (i : ℕ) → length ss ≤ i → now ≡ old ++ labels_in (v.stmts_from t.no_stmts (take i ss)) → now ≡ old ++ labels_in (v.stmts_from t.no_stmts ss)
labels_all now old ss i h so_far = so_far ∙ ap (λ bs. old ++ labels_in (v.stmts_from t.no_stmts bs)) (take_all i ss h)

pub none_more : (ls : List Name) → ls ++ [] ≡ ls
none_more ls = append-nil ls

pub one_more : (ls ms : List Name) (m : Name) → (ls ++ m ∷ []) ++ ms ≡ ls ++ m ∷ ms
one_more ls ms m = append_assoc ls (m ∷ []) ms

pub both_more : (ls ms ns : List Name) → (ls ++ ms) ++ ns ≡ ls ++ (ms ++ ns)
both_more ls ms ns = append_assoc ls ms ns
