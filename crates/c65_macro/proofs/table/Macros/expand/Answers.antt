use Rattle.std.proofs.Common.{◌∙◌, ◌++◌, List, ap, subst}
use Rattle.std.proofs.lemmas.Result.{err_from_is_err_and}
use Rattle.c65_lex.specs.declared.token.PpToken.{PpToken}
use Rattle.c65_macro.specs.Feeding.{Feeds, Rejects}
use Rattle.c65_macro.proofs.Fed.{whole_expands, whole_rejected, whole_ends}
use Rattle.c65_macro.proofs.table.Macros.expand.Goals as goal

pub returns-in_err-feed-clause-faults : goal.returns-in_err-feed-clause-faults
returns-in_err-feed-clause-faults c =
    let table = c.args.self.now in
    let names = c.args.names.now in
    let start = c.new-expander.result in
    let e = c.in_err-feed.field-0.0 in
    let P : List PpToken → Type 0 = λ l. Rejects table names start l e in
    let p = err_from_is_err_and c.from_residual-in_err-feed.result c.from_residual-in_err-feed.ensures.1 in
    rw (p.1, p.2)
    (whole_rejected table names start c.args.line.now e c.new-expander.ensures (subst P c.in_ok-from_slice.ensures.items c.in_err-feed.ensures.faults))

pub returns-in_err-finish-clause-faults : goal.returns-in_err-finish-clause-faults
returns-in_err-finish-clause-faults c =
    let table = c.args.self.now in
    let names = c.args.names.now in
    let start = c.new-expander.result in
    let fed = c.in_ok-feed.ensures.fed in
    let e = c.in_err-finish.field-0.0 in
    let P : List PpToken → Type 0 = λ l. Feeds table names start l fed.0 c.feed.new.names c.feed.new.self in
    let p = err_from_is_err_and c.from_residual-in_err-finish.result c.from_residual-in_err-finish.ensures.1 in
    rw (p.1, p.2)
    (whole_ends table names c.feed.new.names start c.args.line.now fed.0 c.feed.new.self e c.new-expander.ensures (subst P c.in_ok-from_slice.ensures.items fed.2) c.in_err-finish.ensures.faults)

pub returns-clause-expands : goal.returns-clause-expands
returns-clause-expands c =
    let table = c.args.self.now in
    let names = c.args.names.now in
    let start = c.new-expander.result in
    let fed = c.in_ok-feed.ensures.fed in
    let ended = c.in_ok-finish.ensures.ended in
    let P : List PpToken → Type 0 = λ l. Feeds table names start l fed.0 c.feed.new.names c.feed.new.self in
    whole_expands table names c.feed.new.names c.finish.new.names start c.args.line.now fed.0 c.finish.new.out.items ended.0 c.feed.new.self c.new-expander.ensures (subst P c.in_ok-from_slice.ensures.items fed.2)
    (ended.1 ∙ ap (λ l. l ++ ended.0) (fed.1 ∙ ap (λ l. l ++ fed.0) c.new-out.ensures.items)) ended.2
