use Rattle.std.proofs.Common.{◌≡◌, ◌∙◌, ◌++◌, ◌∷◌, [], List, Option, Some, ap, sym, subst, rules}
use Rattle.std.specs.Prelude.{is_some}
use Rattle.c65_lex.specs.declared.token.PpToken.{PpToken}
use Rattle.c65_macro.specs.Answered.{Stops}
use Rattle.c65_macro.specs.Items.{Outcome}
use Rattle.c65_macro.specs.Table.{lookup}
use Rattle.c65_ppexpr.specs.Resolved.{behind_defined, resolved, anything}
use Rattle.c65_ppexpr.proofs.Resolved.{stops_defined, goes_defined, is_some_copied}
use Rattle.c65_ppexpr.proofs.controlling.without_defined.Goals as goal

pub returns-in-Err-clause-exact : goal.returns-in-Err-clause-exact
returns-in-Err-clause-exact c =
    let here : c.loop-token.rest.now ≡ c.in-Some.token.now ∷ c.in-Some.behind.now = search rules in
    let name : behind_defined c.loop-token.names c.in-Some.behind.now ≡ Some (c.in-Some-split_defined.name, c.in-Some-split_defined.more.now) = first_of (search rules, search (rules, sym c.in-Some-split_defined.ensures.exact), cc (c.in-Some-split_defined.ensures.exact, c.split_defined.ensures.exact)) in
    let truth : c.is_some.result ≡ is_some (lookup c.args.macros.now c.in-Some-split_defined.name) = c.is_some.ensures ∙ is_some_copied c.get.result (lookup c.args.macros.now c.in-Some-split_defined.name) c.get.ensures in
    subst (λ (o : Outcome (Option (List PpToken))). Stops c.in-Err.refusal o) c.loop-token.invariant (stops_defined c.in-Err.refusal c.args.macros.now c.in-Some.token.now c.loop-token.names c.loop-token.out.items c.loop-token.rest.now c.in-Some.behind.now c.in-Some-split_defined.more.now c.in-Some-split_defined.name c.is_some.result here (sym c.is_word.ensures ∙ c.if-not-is_word.false) name truth c.in-Err.ensures.exact)

pub loop-token-preserved : goal.loop-token-preserved
loop-token-preserved c =
    let here : c.loop-token.rest.now ≡ c.in-Some.token.now ∷ c.in-Some.behind.now = search rules in
    let name : behind_defined c.loop-token.names c.in-Some.behind.now ≡ Some (c.in-Some-split_defined.name, c.in-Some-split_defined.more.now) = first_of (search rules, search (rules, sym c.in-Some-split_defined.ensures.exact), cc (c.in-Some-split_defined.ensures.exact, c.split_defined.ensures.exact)) in
    let truth : c.is_some.result ≡ is_some (lookup c.args.macros.now c.in-Some-split_defined.name) = c.is_some.ensures ∙ is_some_copied c.get.result (lookup c.args.macros.now c.in-Some-split_defined.name) c.get.ensures in
    let pushed : c.push-in-Ok.new.self.items ≡ c.loop-token.out.items ++ c.in-Ok.truth ∷ [] = first_of (search rules, search (rules, c.in_ok-push-in-Ok.ensures.items), cc (c.in_ok-push-in-Ok.ensures.items)) in
    ap (λ (ts : List PpToken). resolved c.args.macros.now anything c.truth_token.new.names ts c.in-Some-split_defined.more.now) pushed
    ∙ (goes_defined c.args.macros.now c.in-Some.token.now c.loop-token.names c.loop-token.out.items c.loop-token.rest.now c.in-Some.behind.now c.in-Some-split_defined.more.now c.in-Some-split_defined.name c.is_some.result c.truth_token.new.names c.in-Ok.truth here (sym c.is_word.ensures ∙ c.if-not-is_word.false) name truth c.in-Ok.ensures.exact
    ∙ c.loop-token.invariant)
