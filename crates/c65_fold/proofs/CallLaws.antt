-- The arguments of a call, one after another.
use Rattle.std.proofs.Common.{◌≡◌, ℕ, suc, ◌<◌, List, [], ◌∷◌, length, get_or, Vec, Global, Box, refl, sym, ap, ◌∙◌, arith}
use Rattle.c65_csem.specs.declared.expr.TExpr.{TExpr}
use Rattle.c65_csem.specs.declared.expr.TKind.TheVariants as x
use Rattle.c65_csem.specs.Trees.{Typed, call, some}
use Rattle.c65_csem.specs.Views.{typed_of, node_of, nodes_of}
use Rattle.c65_csem.proofs.RowLaws.{node_of_call}
use Rattle.c65_fold.specs.Folded.{folded, folded_node, folded_nodes}

pub all_folded : (xs ys : List TExpr) → length xs ≡ length ys → ((k : ℕ) (d : TExpr) → k < length ys → typed_of (get_or xs k d) ≡ folded (typed_of (get_or ys k d))) → nodes_of xs ≡ folded_nodes (nodes_of ys)
all_folded [] [] same each = refl
all_folded [] (y ∷ ys) same each = absurd (omega arith)
all_folded (x ∷ xs) [] same each = absurd (omega arith)
all_folded (x ∷ xs) (y ∷ ys) same each =
    let one : typed_of x ≡ folded (typed_of y) = each 0 x (omega arith) in
    let rest = all_folded xs ys (omega arith) (λ k d below. each (suc k) d (omega arith)) in
    ap (λ (e : Typed). some e (nodes_of xs)) one ∙ ap (some (folded (typed_of y))) rest

pub call_folded : (f g : Box TExpr Global) (v w : Vec TExpr Global) → typed_of f.value ≡ folded (typed_of g.value) → nodes_of v.items ≡ folded_nodes (nodes_of w.items) → node_of (x.Call f v) ≡ folded_node (node_of (x.Call g w))
call_folded f g v w one all =
    node_of_call f v
    ∙ ap (λ (e : Typed). call e (nodes_of v.items)) one
    ∙ ap (call (folded (typed_of g.value))) all
    ∙ sym (ap folded_node (node_of_call g w))
