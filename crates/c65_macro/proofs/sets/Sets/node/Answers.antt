use Rattle.std.proofs.Common.{◌≡◌, ◌<◌, ◌-◌, ◌∙◌, List, Some, length, sym, ap, subst, arith}
use Rattle.std.specs.Prelude.{slice_get}
use Rattle.std.proofs.lemmas.Option.{slice_get-get_or}
use Rattle.c65_macro.specs.declared.sets.Node.{Node}
use Rattle.c65_macro.specs.Sets.{Extends}
use Rattle.c65_macro.proofs.HideSets.{set_node}
use Rattle.c65_macro.proofs.sets.Sets.node.Goals as goal

pub returns-in-Some-clause-value : goal.returns-in-Some-clause-value
returns-in-Some-clause-value c = λ table x.
    let ns = c.self.inside.nodes.items in
    let lookup = c.in-Some.ensures.lookup in
    let low : c.args.set.0 - 1 < length c.deref.result.now = lookup.3.0 in
    let at : slice_get c.deref.result.now (c.args.set.0 - 1) ≡ Some c.in-Some.node.now = slice_get-get_or c.deref.result.now (c.args.set.0 - 1) c.in-Some.node.now low ∙ ap Some (sym (lookup.4 (omega arith) c.in-Some.node.now)) in
    let there : slice_get ns (c.args.set.0 - 1) ≡ Some c.in-Some.node.now = ap (λ (l : List Node). slice_get l (c.args.set.0 - 1)) (sym c.deref.ensures.value) ∙ at in
    set_node ns table (c.args.set.0 - 1) c.in-Some.node.now c.args.set.0 c.self.invariant.0 (subst (λ (l : List Node). Extends l table) (sym c.self.view_is) x) there (omega arith)
