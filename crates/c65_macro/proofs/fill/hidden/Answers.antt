use Rattle.std.proofs.Common.{◌∙◌, ◌++◌, List, sym, ap}
use Rattle.c65_macro.specs.declared.sets.Node.{Node}
use Rattle.c65_macro.specs.Sets.{Extends, set_of}
use Rattle.c65_macro.specs.Items.{hide_all}
use Rattle.c65_macro.specs.Views.{items_of}
use Rattle.c65_macro.proofs.HideSets.{extends_trans}
use Rattle.c65_macro.proofs.Filling.{hidden_push}
use Rattle.c65_macro.proofs.fill.hidden.Goals as goal

pub loop-item-preserved : goal.loop-item-preserved
loop-item-preserved c =
    let back = λ (nodes : List Node) (x : Extends c.joined_after.new.sets nodes). extends_trans c.loop-item.sets c.joined_after.new.sets nodes c.joined_after.ensures.kept x in
    record {
      kept = extends_trans c.args.sets.now c.loop-item.sets c.joined_after.new.sets c.loop-item.invariant.kept c.joined_after.ensures.kept;
      joined_is = λ nodes x. c.in_ok-joined.ensures.value nodes x (c.loop-item.invariant.joined_is nodes (back nodes x));
      out_is = λ nodes x.
          let hide = set_of nodes c.args.hide.0 in
          ap (λ l. items_of nodes l ++ hide_all hide (items_of nodes c.in-Some.more.now)) c.in_ok-push.ensures.items
          ∙ hidden_push nodes hide c.loop-item.out.items c.in-Some.more.now c.in-Some.item.now c.in_ok-joined.joined.0 (c.in_ok-joined.ensures.value nodes x (c.loop-item.invariant.joined_is nodes (back nodes x)))
          ∙ ap (λ l. items_of nodes c.loop-item.out.items ++ hide_all hide (items_of nodes l)) (sym c.in-Some.ensures.cases.0)
          ∙ c.loop-item.invariant.out_is nodes (back nodes x);
    }
