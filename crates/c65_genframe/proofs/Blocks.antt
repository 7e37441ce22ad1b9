-- The objects of a block, as the code goes through its statements.
use Rattle.std.proofs.Common.{◌≡◌, ℕ, ◌≤◌, List, [], ◌++◌, Vec, Global, length, drop, append_assoc, sym, ap, ◌∙◌}
use Rattle.std.proofs.lemmas.List.{drop_all, append-nil}
use Rattle.c65_csem.specs.declared.stmt.TStmt.{TStmt}
use Rattle.c65_csem.specs.declared.stmt.TStmt.TheVariants as s
use Rattle.c65_csem.specs.Views.{stmt_of, stmts_of}
use Rattle.c65_csem.proofs.RowLaws.{stmt_of_block}
use Rattle.c65_genframe.specs.Objects.{objects_in, objects_in_all}

pub block_done : (stmt : TStmt) (os : Vec ℕ Global) (v : Vec TStmt Global) (first grown final given : List ℕ) (items : List TStmt) (i : ℕ) → stmt ≡ s.Block os v → given ≡ os.items → grown ≡ first ++ given → items ≡ v.items → length items ≤ i → final ++ objects_in_all (stmts_of (drop i items)) ≡ grown ++ objects_in_all (stmts_of items) → final ≡ first ++ objects_in (stmt_of stmt)
block_done stmt os v first grown final given items i is is_given grows is_items past so_far =
    let block : objects_in (stmt_of stmt) ≡ os.items ++ objects_in_all (stmts_of v.items) = ap (λ (x : TStmt). objects_in (stmt_of x)) is ∙ ap objects_in (stmt_of_block os v) in
    let none : final ++ [] ≡ grown ++ objects_in_all (stmts_of items) = ap (λ (xs : List TStmt). final ++ objects_in_all (stmts_of xs)) (sym (drop_all i items past)) ∙ so_far in
    sym (append-nil final)
    ∙ none
    ∙ ap (λ (xs : List ℕ). xs ++ objects_in_all (stmts_of items)) (grows ∙ ap (λ (xs : List ℕ). first ++ xs) is_given)
    ∙ ap (λ (ys : List TStmt). (first ++ os.items) ++ objects_in_all (stmts_of ys)) is_items
    ∙ append_assoc first os.items (objects_in_all (stmts_of v.items))
    ∙ ap (λ (xs : List ℕ). first ++ xs) (sym block)
