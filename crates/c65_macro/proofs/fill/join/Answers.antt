use Rattle.std.proofs.Common.{◌∙◌, ℕ, List, ◌∷◌, ◌++◌, sym, ap}
use Rattle.std.proofs.lemmas.List.{nil_from_length}
use Rattle.std.proofs.lemmas.Result.{err_from_is_err_and}
use Rattle.c65_macro.specs.Fill
use Rattle.c65_macro.specs.Items.{Outcome, Item, done, ◌>>=◌}
use Rattle.c65_macro.specs.Views.{items_of, item_of}
use Rattle.c65_macro.proofs.Seen.{stops_bind, stops_same}
use Rattle.c65_macro.proofs.Filling.{join_none, join_seen, items_mid}
use Rattle.c65_macro.proofs.fill.join.Goals as goal

pub returns-in_default-clause-value : goal.returns-in_default-clause-value
returns-in_default-clause-value c = λ nodes x.
    ap (λ l. Fill.join c.args.names.now c.args.place (items_of nodes c.args.left.items) (items_of nodes l)) (nil_from_length c.args.right.now c.in_default.ensures.cases)
    ∙ join_none c.args.names.now c.args.place (items_of nodes c.args.left.items)

pub returns-in_default-pop_last-clause-value : goal.returns-in_default-pop_last-clause-value
returns-in_default-pop_last-clause-value c = λ nodes x.
    ap (λ l. Fill.join c.args.names.now c.args.place (items_of nodes l) (items_of nodes c.args.right.now)) c.in_default-pop_last.ensures.ended
    ∙ ap (λ l. done c.args.names.now (items_of nodes l)) (sym c.in_ok-whole.ensures.items)

pub returns-in_err-glued-clause-value : goal.returns-in_err-glued-clause-value
returns-in_err-glued-clause-value c = λ nodes x.
    let names = c.args.names.now in
    let place = c.args.place in
    let left = c.args.left.items in
    let right = c.args.right.now in
    let front = c.pop_last.new.items.items in
    let last = c.in-Some-pop_last.last in
    let first = c.in-Some.first.now in
    let more = c.in-Some.more.now in
    let y = Fill.glue names place (item_of nodes last) (item_of nodes first) in
    let f : List (List ℕ) → Item → Outcome (List Item) = λ names z. done names (items_of nodes front ++ z ∷ items_of nodes more) in
    let p = err_from_is_err_and c.from_residual-in_err-glued.result c.from_residual-in_err-glued.ensures.1 in
    rw (p.1, p.2)
    (stops_same c.in_err-glued.field-0.0 (Fill.join names place (items_of nodes left) (items_of nodes right)) (y >>= f)
    (join_seen nodes names place left front right more last first c.in-Some-pop_last.ensures.taken c.in-Some.ensures.cases.0)
    (stops_bind c.in_err-glued.field-0.0 y f (c.in_err-glued.ensures.value nodes x)))

pub returns-clause-value : goal.returns-clause-value
returns-clause-value c = λ nodes x.
    let names = c.args.names.now in
    let place = c.args.place in
    let left = c.args.left.items in
    let right = c.args.right.now in
    let front = c.pop_last.new.items.items in
    let last = c.in-Some-pop_last.last in
    let first = c.in-Some.first.now in
    let more = c.in-Some.more.now in
    let f : List (List ℕ) → Item → Outcome (List Item) = λ names z. done names (items_of nodes front ++ z ∷ items_of nodes more) in
    join_seen nodes names place left front right more last first c.in-Some-pop_last.ensures.taken c.in-Some.ensures.cases.0
    ∙ ap (λ (z : Outcome Item). z >>= f) (c.in_ok-glued.ensures.value nodes x)
    ∙ ap (λ l. done c.glue.new.names l) (items_mid nodes front more c.extend_from_slice.new.self.items c.in_ok-glued.glued (c.in_ok-extend_from_slice.ensures.items ∙ ap (λ l. l ++ more) c.in_ok-push.ensures.items))
