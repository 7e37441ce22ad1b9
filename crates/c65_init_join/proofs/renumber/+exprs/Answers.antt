use Rattle.std.proofs.Common.{◌≡◌, ◌∙◌, rules, ap, sym, arith, length, Vec, Global, vec_len}
use Rattle.c65_csem.specs.declared.expr.TExpr.{TExpr}
use Rattle.c65_csem.specs.declared.expr.TKind.{TKind}
use Rattle.c65_csem.specs.Views.{typed_of, node_of, nodes_of}
use Rattle.c65_init_join.specs.Numbers.{numbers_of}
use Rattle.c65_init_join.specs.Renumbered.{renumbered, renumbered_node, renumbered_nodes}
use Rattle.c65_init_join.proofs.RenumberLaws.{all_renumbered, call_renumbered}
use Rattle.c65_init_join.proofs.renumber.+exprs.Goals as goal

pub renumber_kind-returns-after-loop-i : goal.renumber_kind-returns-after-loop-i
renumber_kind-returns-after-loop-i t c =
    let ns = numbers_of c.args.numbers.now in
    let f = record c.in-Call.function { value = c.renumber_expr-in-Call.new.e } in
    let one : typed_of c.renumber_expr-in-Call.new.e ≡ renumbered ns (typed_of c.in-Call.function.value) = search rules in
    let long = ap (λ (v : Vec TExpr Global). length v.items) c.in-Call.arguments-is in
    let wide = ap (λ (v : Vec TExpr Global). vec_len v) c.in-Call.arguments-is in
    let all = all_renumbered ns c.loop-i.arguments.items _ c.loop-i.invariant.unvisited.0 (λ k d below. c.loop-i.invariant.done k d (omega (arith, below, long, wide, c.loop-i-test.false, c.len-i-end.ensures))) in
    call_renumbered ns f c.in-Call.function c.loop-i.arguments c.in-Call.arguments one (all ∙ ap (λ (v : Vec TExpr Global). renumbered_nodes ns (nodes_of v.items)) c.in-Call.arguments-is) ∙ sym (ap (λ (k : TKind). renumbered_node ns (node_of k)) c.in-Call.is)
