use Rattle.std.proofs.Common.{◌∙◌, ◌++◌, ◌∷◌, [], sym, ap, append_assoc}
use Rattle.c65_macro.specs.declared.marked.Marked.{Marked}
use Rattle.c65_macro.specs.Items
use Rattle.c65_macro.specs.Views.{item_of, items_of}
use Rattle.c65_macro.proofs.Seen.{items_push}
use Rattle.c65_macro.proofs.state.marked.Goals as goal

pub loop-token-preserved : goal.loop-token-preserved
loop-token-preserved c = λ nodes.
    let before = c.loop-token.items.items in
    let rest = Items.items c.in-Some.more.now in
    ap (λ l. items_of nodes l ++ rest) c.in_ok-push.ensures.items
    ∙ ap (λ l. l ++ rest) (items_push nodes before c.of.result)
    ∙ append_assoc (items_of nodes before) (item_of nodes c.of.result ∷ []) rest
    ∙ ap (λ (m : Marked). items_of nodes before ++ item_of nodes m ∷ rest) c.of.ensures
    ∙ ap (λ l. items_of nodes before ++ Items.items l) (sym c.in-Some.ensures.cases.0)
    ∙ c.loop-token.invariant nodes
