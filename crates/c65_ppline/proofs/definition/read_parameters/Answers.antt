use Rattle.std.proofs.Common.{◌≡◌, ◌∙◌, List, ◌∷◌, ap, sym, rules}
use Rattle.c65_lex.specs.declared.token.PpToken.{PpToken}
use Rattle.c65_ppline.specs.DefineLines.{parameters}
use Rattle.c65_ppline.proofs.Parameters.{next_parameter}
use Rattle.c65_ppline.proofs.definition.read_parameters.Goals as goal

pub loop-name-preserved : goal.loop-name-preserved
loop-name-preserved c =
    let first : c.loop-name.rest.now ≡ c.in-Some.name.now ∷ c.in-Some.behind.now = search rules in
    let second : c.in-Some.behind.now ≡ c.in-Some-split_first.mark.now ∷ c.in-Some-split_first.more.now = search rules in
    let both : c.loop-name.rest.now ≡ c.in-Some.name.now ∷ (c.in-Some-split_first.mark.now ∷ c.in-Some-split_first.more.now) = first ∙ ap (λ (ts : List PpToken). c.in-Some.name.now ∷ ts) second in
    sym (next_parameter c.args.names.now c.loop-name.params.items c.add_parameter.new.params.items c.in-Some.name.now c.in-Some-split_first.mark.now c.in-Some-split_first.more.now c.in-Ok.ensures.added (sym c.is_mark.ensures ∙ c.if-is_mark.false) (sym c.is_mark-in-Some.ensures ∙ c.if-not-is_mark.false))
    ∙ (sym (ap (λ (ts : List PpToken). parameters c.args.names.now c.loop-name.params.items ts) both) ∙ c.loop-name.invariant)
