use Rattle.std.proofs.Common.{◌≡◌, ◌∙◌, rules, ap, sym, arith, length, Vec, Global, vec_len}
use Rattle.c65_csem.specs.declared.expr.TExpr.{TExpr}
use Rattle.c65_csem.specs.declared.expr.TKind.{TKind}
use Rattle.c65_csem.specs.Views.{typed_of, node_of, nodes_of}
use Rattle.c65_fold.specs.Folded.{folded, folded_node, folded_nodes}
use Rattle.c65_fold.proofs.CallLaws.{all_folded, call_folded}
use Rattle.c65_fold.proofs.folding.+fold.Goals as goal

pub fold_parts-returns-after-loop-i : goal.fold_parts-returns-after-loop-i
fold_parts-returns-after-loop-i t c =
    let f = record c.in-Call.function { value = c.fold_tree-in-Call.new.e } in
    let one : typed_of c.fold_tree-in-Call.new.e ≡ folded (typed_of c.in-Call.function.value) = search rules in
    let long = ap (λ (v : Vec TExpr Global). length v.items) c.in-Call.arguments-is in
    let wide = ap (λ (v : Vec TExpr Global). vec_len v) c.in-Call.arguments-is in
    let all = all_folded c.loop-i.arguments.items _ c.loop-i.invariant.unvisited.0 (λ k d below. c.loop-i.invariant.done k d (omega (arith, below, long, wide, c.loop-i-test.false, c.len-i-end.ensures))) in
    call_folded f c.in-Call.function c.loop-i.arguments c.in-Call.arguments one (all ∙ ap (λ (v : Vec TExpr Global). folded_nodes (nodes_of v.items)) c.in-Call.arguments-is) ∙ sym (ap (λ (k : TKind). folded_node (node_of k)) c.in-Call.is)
