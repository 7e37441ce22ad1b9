use Rattle.std.proofs.Common.{◌∙◌, ap}
use Rattle.c65_macro.specs.Fill
use Rattle.c65_macro.proofs.Filling.{plain_raw, plain_full}
use Rattle.c65_macro.proofs.fill.plain.Goals as goal

pub returns-then-is_beside : goal.returns-then-is_beside
returns-then-is_beside c = λ nodes. c.in_ok-tokens.ensures nodes ∙ plain_raw nodes c.args.params.now c.args.used.now c.args.glued c.args.token.now c.args.more.now c.argument_of-raw.result c.is_beside.result (c.argument_of-raw.ensures ∙ ap (λ l. Fill.argument_of c.args.params.now l c.args.token.now) c.deref.ensures.value) c.is_beside.ensures c.if-is_beside.true

pub returns : goal.returns
returns c = λ nodes. c.in_ok-items.ensures nodes ∙ plain_full nodes c.args.params.now c.args.used.now c.args.glued c.args.token.now c.args.more.now c.argument_of-full.result c.is_beside.result (c.argument_of-full.ensures ∙ ap (λ l. Fill.argument_of c.args.params.now l c.args.token.now) c.deref-2.ensures.value) c.is_beside.ensures c.if-is_beside.false
