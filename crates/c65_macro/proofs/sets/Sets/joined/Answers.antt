use Rattle.std.proofs.Common.{◌≡◌, ◌∙◌, ℕ, List, sym, ap}
use Rattle.std.specs.Prelude.{◌==◌}
use Rattle.std.proofs.lemmas.Bool.{eqb-true}
use Rattle.std.proofs.lemmas.Option.{MatchOption-at_some, MatchOption-at_none}
use Rattle.c65_macro.specs.declared.sets.Node.{Node}
use Rattle.c65_macro.specs.Sets.{Extends, Set, set_of, either, none, with_name}
use Rattle.c65_macro.proofs.HideSets.{extends_trans, join_step, holds_step, none_left, not_false}
use Rattle.c65_macro.proofs.sets.Sets.joined.Goals as goal

pub returns-in_default-clause-value : goal.returns-in_default-clause-value
returns-in_default-clause-value c = λ table x.
    let end : set_of table c.loop-other.at.0 ≡ none = MatchOption-at_none (set_of table c.loop-other.at.0 ≡ none) (λ (n : Node). set_of table c.loop-other.at.0 ≡ with_name n.name.0 (set_of table n.rest.0)) c.in_default.is (c.in_ok-node.ensures.value table x) in
    sym (none_left (set_of table c.loop-other.at.0) (set_of table c.loop-other.all.0) end) ∙ c.loop-other.invariant.all_is table x

pub loop-other-preserved : goal.loop-other-preserved
loop-other-preserved c =
    let at = λ (table : List Node) (y : Extends c.loop-other.self table). MatchOption-at_some (set_of table c.loop-other.at.0 ≡ none) (λ (n : Node). set_of table c.loop-other.at.0 ≡ with_name n.name.0 (set_of table n.rest.0)) c.in-Some.node c.in-Some.is (c.in_ok-node.ensures.value table y) in
    record {
      grown = extends_trans c.args.self.now c.loop-other.self c.with_lacking.new.self c.loop-other.invariant.grown c.with_lacking.ensures.grows;
      held = λ table x.
          let y : Extends c.loop-other.self table = extends_trans c.loop-other.self c.with_lacking.new.self table c.with_lacking.ensures.grows x in
          let e = c.in_ok-all.ensures.value table x in
          ap (λ (s : Set). either (set_of table c.args.other.0) s) e ∙ holds_step (set_of table c.args.other.0) (set_of table c.loop-other.all.0) c.in-Some.node.name.0 (c.loop-other.invariant.held table y) ∙ sym e;
      all_is = λ table x.
          let y : Extends c.loop-other.self table = extends_trans c.loop-other.self c.with_lacking.new.self table c.with_lacking.ensures.grows x in
          ap (λ (s : Set). either (set_of table c.in-Some.node.rest.0) s) (c.in_ok-all.ensures.value table x)
          ∙ join_step (set_of table c.in-Some.node.rest.0) (set_of table c.args.other.0) (set_of table c.loop-other.all.0) (set_of table c.loop-other.at.0) c.in-Some.node.name.0 (at table y) (c.loop-other.invariant.held table y)
          ∙ c.loop-other.invariant.all_is table y;
    }

pub returns-clause-value : goal.returns-clause-value
returns-clause-value c = λ table x.
    let same : c.loop-other.at.0 ≡ c.args.other.0 = eqb-true c.loop-other.at.0 c.args.other.0 (not_false (c.loop-other.at.0 == c.args.other.0) c.loop-other-test.ensures) in
    sym (c.loop-other.invariant.held table x) ∙ ap (λ (k : ℕ). either (set_of table k) (set_of table c.loop-other.all.0)) (sym same) ∙ c.loop-other.invariant.all_is table x
