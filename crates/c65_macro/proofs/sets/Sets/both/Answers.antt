use Rattle.std.proofs.Common.{◌≡◌, ◌∙◌, sym, ap}
use Rattle.std.proofs.lemmas.Option.{MatchOption-at_some, MatchOption-at_none}
use Rattle.c65_macro.specs.declared.sets.Node.{Node}
use Rattle.c65_macro.specs.Sets.{Extends, Set, set_of, either, both, none, with_name}
use Rattle.c65_macro.proofs.HideSets.{extends_trans, both_step, both_all}
use Rattle.c65_macro.proofs.sets.Sets.both.Goals as goal

pub loop-node-preserved : goal.loop-node-preserved
loop-node-preserved c = record {
  grown = extends_trans c.args.self.now c.loop-node.self c.with_shared.new.self c.loop-node.invariant.grown c.with_shared.ensures.grows;
  common_is = λ table x.
      let y : Extends c.loop-node.self table = extends_trans c.loop-node.self c.with_shared.new.self table c.with_shared.ensures.grows x in
      let node = c.in-Some.node in
      let done = set_of table c.loop-node.common.0 in
      let rest = set_of table node.rest.0 in
      let other = set_of table c.args.other.0 in
      let at : set_of table c.loop-node.at.0 ≡ with_name node.name.0 rest = MatchOption-at_some _ (λ (n : Node). set_of table c.loop-node.at.0 ≡ with_name n.name.0 (set_of table n.rest.0)) node c.in-Some.is (c.in_ok-node.ensures.value table y) in
      ap (λ (s : Set). either s (both rest other)) (c.in_ok-common.ensures.value table x) ∙ both_step done rest other (set_of table c.loop-node.at.0) node.name.0 at ∙ c.loop-node.invariant.common_is table y;
}

pub returns-clause-value : goal.returns-clause-value
returns-clause-value c = λ table x.
    let done = set_of table c.loop-node.common.0 in
    let other = set_of table c.args.other.0 in
    let end : set_of table c.loop-node.at.0 ≡ none = MatchOption-at_none (set_of table c.loop-node.at.0 ≡ none) (λ (n : Node). set_of table c.loop-node.at.0 ≡ with_name n.name.0 (set_of table n.rest.0)) c.in_default.is (c.in_ok-node.ensures.value table x) in
    both_all done other ∙ ap (λ (s : Set). either done (both s other)) (sym end) ∙ c.loop-node.invariant.common_is table x
