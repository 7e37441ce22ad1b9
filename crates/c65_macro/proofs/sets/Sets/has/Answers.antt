use Rattle.std.proofs.Common.{◌≤◌, ◌∙◌, List, length, sym, ap, subst, arith}
use Rattle.c65_macro.specs.declared.sets.Node.{Node}
use Rattle.c65_macro.specs.Sets.{Extends, Set}
use Rattle.c65_macro.proofs.HideSets.{extends_set, set_lacks}
use Rattle.c65_macro.proofs.sets.Sets.has.Goals as goal

pub returns-then-not-contains : goal.returns-then-not-contains
returns-then-not-contains c = record {
  value = λ table x.
      let ns = c.self.inside.nodes.items in
      let y : Extends ns table = subst (λ (l : List Node). Extends l table) (sym c.self.view_is) x in
      let le : c.args.set.0 ≤ length ns = omega (arith, c.if-set-len.false, c.len.ensures) in
      ap (λ (s : Set). s c.args.name.0) (extends_set ns table c.args.set.0 y le) ∙ set_lacks c.args.name.0 ns (c.self.invariant.1 c.args.name.0 (sym c.if-not-contains.ensures)) c.args.set.0;
}
