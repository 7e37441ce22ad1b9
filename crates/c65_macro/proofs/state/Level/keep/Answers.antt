use Rattle.std.proofs.Common.{◌≡◌, ◌∙◌, ◌++◌, ◌∷◌, ◌-◌, [], List, sym, ap, subst}
use Rattle.c65_macro.specs.Items.{Item}
use Rattle.c65_macro.specs.Expand
use Rattle.c65_macro.specs.Views.{item_of, items_of}
use Rattle.c65_macro.specs.Machine.{Later, rest_in, outcome, outcome_by}
use Rattle.c65_macro.proofs.Seen.{items_push}
use Rattle.c65_macro.proofs.Stepping.{kept_end, kept_token}
use Rattle.c65_macro.proofs.state.Level.keep.Goals as goal

pub returns-then-is_line_end-clause-value : goal.returns-then-is_line_end-clause-value
returns-then-is_line_end-clause-value c = λ nodes more table known frames n.
    let level = c.args.self.now in
    let i = item_of nodes c.args.item in
    let is = rest_in nodes more level in
    let out = items_of nodes level.out.items in
    let e : items_of nodes c.push.new.self.items ≡ out ++ i ∷ [] = ap (λ l. items_of nodes l) c.in_ok-push.ensures.items ∙ items_push nodes level.out.items c.args.item in
    let P : List Item → Type 0 = λ o. Later (outcome table n known (record { rest = is; out = o; room = level.room; outside = level.outside }) frames) (outcome_by table n out frames (λ go. Expand.keep go known level.outside level.room i is)) in
    subst P (sym e) (kept_end table n known level.outside level.room out i is frames (sym c.is_line_end.ensures ∙ c.if-is_line_end.true))

pub returns-clause-value : goal.returns-clause-value
returns-clause-value c = λ nodes more table known frames n.
    let level = c.args.self.now in
    let i = item_of nodes c.args.item in
    let is = rest_in nodes more level in
    let out = items_of nodes level.out.items in
    let e : items_of nodes c.push-2.new.self.items ≡ out ++ i ∷ [] = ap (λ l. items_of nodes l) c.in_ok-push-2.ensures.items ∙ items_push nodes level.out.items c.args.item in
    let P : List Item → Type 0 = λ o. Later (outcome table n known (record { rest = is; out = o; room = level.room - 1; outside = level.outside }) frames) (outcome_by table n out frames (λ go. Expand.keep go known level.outside level.room i is)) in
    subst P (sym e) (kept_token table n known level.outside level.room out i is frames (sym c.is_line_end.ensures ∙ c.if-is_line_end.false) c.if-self-eq0.false)
