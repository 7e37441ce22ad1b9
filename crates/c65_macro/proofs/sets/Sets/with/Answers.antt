use Rattle.std.proofs.Common.{◌≡◌, ◌≤◌, List, [], ◌∷◌, ◌++◌, length, sym, subst, arith}
use Rattle.c65_macro.specs.declared.sets.Node.{Node}
use Rattle.c65_macro.specs.Sets.{Extends, IsLinked, IsSeen}
use Rattle.c65_macro.proofs.HideSets.{set_new, linked_more, seen_more}
use Rattle.c65_macro.proofs.sets.Sets.with.Goals as goal

pub invariant_of-self-2 : goal.invariant_of-self-2
invariant_of-self-2 c =
    let ns = c.self.inside.nodes.items in
    let node : Node = record { name = c.args.name; rest = c.args.rest } in
    let e : c.push.new.self.items ≡ ns ++ node ∷ [] = c.in_ok-push.ensures.items in
    let le : c.args.rest.0 ≤ length ns = omega (arith, c.if-rest-count.false, c.len-count.ensures) in
    let seen = seen_more c.self.inside.seen.keys c.insert.new.self.keys ns node c.self.invariant.1 c.in_ok-insert.ensures.updates.0 in
    (subst IsLinked (sym e) (linked_more ns node c.self.invariant.0 le), subst (λ (l : List Node). IsSeen c.insert.new.self.keys l) (sym e) seen)

pub returns-clause-value : goal.returns-clause-value
returns-clause-value c = λ table x.
    let ns = c.self.inside.nodes.items in
    let node : Node = record { name = c.args.name; rest = c.args.rest } in
    let e : c.push.new.self.items ≡ ns ++ node ∷ [] = c.in_ok-push.ensures.items in
    let le : c.args.rest.0 ≤ length ns = omega (arith, c.if-rest-count.false, c.len-count.ensures) in
    set_new ns table node c.in-Ok.number (subst (λ (l : List Node). Extends l table) e x) le (omega (arith, c.in-Ok.ensures, c.len-count.ensures))
