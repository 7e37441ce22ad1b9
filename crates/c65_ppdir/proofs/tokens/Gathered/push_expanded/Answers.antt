use Rattle.std.proofs.Common.{List, subst}
use Rattle.c65_base.specs.Answers.{Gives}
use Rattle.c65_lex.specs.declared.token.PpToken.{PpToken}
use Rattle.c65_ppdir.specs.UnitTokens.{with_tokens}
use Rattle.c65_ppline.proofs.Answers.{reads_by}
use Rattle.c65_ppdir.proofs.tokens.Gathered.push_expanded.Goals as goal

pub returns-in-Ok-clause-exact : goal.returns-in-Ok-clause-exact
returns-in-Ok-clause-exact c =
    reads_by (λ _. c.push_all.new.self) (λ _ out. with_tokens c.args.self.now out) c.args.macros.now c.args.names.now c.args.list.now c.expand.new.names c.in-Ok.expanded.items c.push_all.result c.in-Ok.ensures.expands
    (subst (λ (ts : List PpToken). Gives (λ _. c.push_all.new.self) c.push_all.result (with_tokens c.args.self.now ts)) c.deref.ensures.value c.push_all.ensures.exact)
