use Rattle.std.proofs.Common.{rules, ◌≡◌, ◌++◌, take, drop, get_or, length, ◌-◌, ◌+◌, ◌∙◌, ap, append-nil}
use Rattle.std.proofs.lemmas.List.{take_rest, get_or-drop}
use Rattle.std.proofs.lemmas.Option.{unwrap_or-slice_get}
use Rattle.c65_code.specs.Parts.{no_parts}
use Rattle.c65_live.specs.Renewals.{before_rest, afters}
use Rattle.c65_live.proofs.Replacing.{near_by}
use Rattle.c65_live.proofs.table.LiveTable.near.Goals as goal

pub returns : goal.returns
returns c =
    let n = c.args.at + c.args.count in
    let live = c.args.self.now.after in
    let next : c.unwrap_or-next.result ≡ get_or (drop n live) 0 no_parts = search (rules, unwrap_or-slice_get live n no_parts, get_or-drop n live 0 no_parts) in
    let after = c.before_rest-after.ensures
    ∙ (ap (λ o. before_rest o (take (length c.lines-lines.result.now - n) (drop n c.lines-lines.result.now)) c.unwrap_or-next.result) c.out-out.ensures
    ∙ (ap (λ ls. before_rest c.args.seg.now.out ls c.unwrap_or-next.result) (take_rest c.lines-lines.result.now n ∙ ap (drop n) c.lines-lines.ensures.lines)
    ∙ ap (λ s. before_rest c.args.seg.now.out (drop n c.args.seg.now.lines) s) next)) in
    let widened = c.in_ok-widened.ensures
    ∙ (ap (λ x. take (c.args.at - c.in-Some.first) (drop c.in-Some.first c.lines-lines.result.now) ++ x) (append-nil c.args.new.now)
    ∙ ap (λ ls. take (c.args.at - c.in-Some.first) (drop c.in-Some.first ls) ++ c.args.new.now) c.lines-lines.ensures.lines) in
    let sets_are = c.in_ok-sets.ensures ∙ (ap (λ o. afters o c.deref.result.now c.before_rest-after.result) c.out-out.ensures ∙ ap (λ ls. afters c.args.seg.now.out ls c.before_rest-after.result) c.deref.ensures.value) in
    near_by c.args.seg.now.lines c.args.seg.now.out live c.args.at c.args.count c.args.new.now c.in_ok-widened.widened.items c.before_rest-after.result c.in-Some.first c.in_ok-sets.sets.items
    c.requires.place c.requires.table after (search rules) widened sets_are
