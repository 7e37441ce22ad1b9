use Rattle.std.proofs.Common.{◌∙◌, ℕ, List, [], ◌∷◌, sym, ap}
use Rattle.std.proofs.lemmas.Result.{err_from_is_err_and}
use Rattle.c65_macro.specs.Fill
use Rattle.c65_macro.specs.Items.{Outcome, Item, done, ◌>>=◌}
use Rattle.c65_macro.specs.Views.{items_of, tokens_of, use_of}
use Rattle.c65_macro.proofs.Seen.{stops_bind, stops_same}
use Rattle.c65_macro.proofs.Filling.{operand_some, operand_none, operand_plain}
use Rattle.c65_macro.proofs.fill.operand.Goals as goal

pub returns-in_default-clause-value : goal.returns-in_default-clause-value
returns-in_default-clause-value c = λ nodes.
    operand_plain nodes c.args.params.now c.args.used.now c.args.names.now c.args.filled.now.glued c.args.filled.now.hash c.args.token.now c.args.more.now c.in_default.is
    ∙ ap (λ l. done c.args.names.now l) (sym (c.in_ok-tokens.ensures nodes))

pub returns-in_default-argument_of-clause-value : goal.returns-in_default-argument_of-clause-value
returns-in_default-argument_of-clause-value c = λ nodes.
    operand_none nodes c.args.params.now c.args.used.now c.args.names.now c.args.filled.now.glued c.args.filled.now.hash c.in-Some.space c.args.token.now c.args.more.now c.in-Some.is (c.in_default-argument_of.ensures ∙ ap (λ l. Fill.argument_of c.args.params.now l c.args.token.now) c.deref.ensures.value)
    ∙ ap (λ l. done c.args.names.now (items_of nodes l)) (sym c.new.ensures.items)

pub returns-in_err-text-clause-value : goal.returns-in_err-text-clause-value
returns-in_err-text-clause-value c = λ nodes.
    let u = use_of nodes c.args.params.now c.args.used.now in
    let p = err_from_is_err_and c.from_residual-in_err-text.result c.from_residual-in_err-text.ensures.1 in
    let lit = Fill.literal c.args.names.now c.args.used.now.place c.in-Some.space (tokens_of c.in-Some-argument_of.argument.now) in
    let last : List (List ℕ) → Item → Outcome (List Item) = λ names i. done names (i ∷ []) in
    rw (p.1, p.2)
    (stops_same c.in_err-text.field-0.0 (Fill.operand u c.args.names.now c.args.filled.now.glued c.args.filled.now.hash c.args.token.now c.args.more.now) (lit >>= last)
    (operand_some nodes c.args.params.now c.args.used.now c.args.names.now c.args.filled.now.glued c.args.filled.now.hash c.in-Some.space c.args.token.now c.args.more.now c.in-Some-argument_of.argument c.in-Some.is (c.in-Some-argument_of.ensures ∙ ap (λ l. Fill.argument_of c.args.params.now l c.args.token.now) c.deref.ensures.value))
    (stops_bind c.in_err-text.field-0.0 lit last (c.in_err-text.ensures.value nodes)))

pub returns-clause-value : goal.returns-clause-value
returns-clause-value c = λ nodes.
    let last : List (List ℕ) → Item → Outcome (List Item) = λ names i. done names (i ∷ []) in
    operand_some nodes c.args.params.now c.args.used.now c.args.names.now c.args.filled.now.glued c.args.filled.now.hash c.in-Some.space c.args.token.now c.args.more.now c.in-Some-argument_of.argument c.in-Some.is (c.in-Some-argument_of.ensures ∙ ap (λ l. Fill.argument_of c.args.params.now l c.args.token.now) c.deref.ensures.value)
    ∙ ap (λ (z : Outcome Item). z >>= last) (c.in_ok-text.ensures.value nodes)
    ∙ ap (λ l. done c.string_of.new.names (items_of nodes l)) (sym c.in_ok-items.ensures)
