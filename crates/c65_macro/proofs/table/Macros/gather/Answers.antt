use Rattle.std.proofs.Common.{◌≡◌, ◌∙◌, ◌++◌, [], sym, ap, subst, Some, None, Ok, Err}
use Rattle.std.proofs.lemmas.Result.{err_from_is_err_and}
use Rattle.c65_macro.specs.declared.gather.Inside.{Inside}
use Rattle.c65_macro.specs.declared.item.Words.{Words}
use Rattle.c65_macro.specs.Expand
use Rattle.c65_macro.specs.Uses.{closed}
use Rattle.c65_macro.specs.Views.{item_of, items_of, lists_of}
use Rattle.c65_macro.specs.Machine.{IsGathered, StopsGathering, begun_with, gather_in, rest_in, tail_of, stage_of, frames_of}
use Rattle.c65_macro.proofs.Going.{into_front, into_stop, use_waits}
use Rattle.c65_macro.proofs.Tails.{put_tail}
use Rattle.c65_macro.proofs.Replacing.{use_stop}
use Rattle.c65_macro.proofs.table.Macros.gather.Goals as goal

pub returns-in_err-inside-clause-value : goal.returns-in_err-inside-clause-value
returns-in_err-inside-clause-value c = λ nodes more x.
    let table = c.args.self.now in
    let m = c.args.found.now in
    let ps = c.args.params.now in
    let level = c.args.state.now.level in
    let fs = frames_of nodes more c.args.state.now.pending.items in
    let names = c.args.names.now in
    let b = c.args.begun in
    let e = c.in_err-inside.field-0.0 in
    let P : Words → Type 0 = λ w. StopsGathering e (gather_in nodes w level.outside b.gathered (rest_in nodes more level)) in
    let stops = subst P c.words.ensures (c.in_err-inside.ensures.value nodes (tail_of more level.is_open) (put_tail more level.is_open)) in
    let p = err_from_is_err_and c.from_residual.result c.from_residual.ensures.1 in
    rw (p.1, p.2)
    (into_stop nodes table (items_of nodes level.out.items) fs (λ go. begun_with nodes table go names (stage_of nodes more level) b m (Some ps)) e names (stage_of nodes more (record level { rest = c.gather.new.self })) fs
    (λ go. use_stop table go names level.outside level.room (item_of nodes b.name) [] m ps (gather_in nodes table.words level.outside b.gathered (rest_in nodes more level)) e stops))

pub returns-in-Ok-clause-value : goal.returns-in-Ok-clause-value
returns-in-Ok-clause-value c = λ nodes more x.
    let table = c.args.self.now in
    let m = c.args.found.now in
    let ps = c.args.params.now in
    let level = c.args.state.now.level in
    let fs = frames_of nodes more c.args.state.now.pending.items in
    let names = c.args.names.now in
    let b = c.args.begun in
    let a = c.in-Closed.arguments in
    let tail = tail_of more level.is_open in
    let left = items_of nodes c.gather.new.self ++ tail in
    let P : Inside → Type 0 = λ i. IsGathered nodes c.words.result level.outside tail (Ok i) c.gather.new.self (gather_in nodes c.words.result level.outside b.gathered (rest_in nodes more level)) in
    let whole : gather_in nodes table.words level.outside b.gathered (rest_in nodes more level) ≡ closed (lists_of nodes a.lists.items) a.size (item_of nodes a.close) left =
    ap (λ (w : Words). gather_in nodes w level.outside b.gathered (rest_in nodes more level)) (sym c.words.ensures) ∙ subst P c.in-Closed.is (c.in_ok-inside.ensures.value nodes tail (put_tail more level.is_open)) in
    into_front nodes table (items_of nodes level.out.items) fs (λ go. begun_with nodes table go names (stage_of nodes more level) b m (Some ps)) (λ go. Expand.replace_use table go names level.outside level.room (item_of nodes b.name) [] m ps (closed (lists_of nodes a.lists.items) a.size (item_of nodes a.close) left)) (Ok None) c.begin.new.names (stage_of nodes more c.begin.new.state.level) (frames_of nodes more c.begin.new.state.pending.items)
    (λ go. ap (λ g. Expand.replace_use table go names level.outside level.room (item_of nodes b.name) [] m ps g) whole)
    (c.in-Ok.ensures.value nodes more x)

pub returns-in-Err-clause-value : goal.returns-in-Err-clause-value
returns-in-Err-clause-value c = λ nodes more x.
    let table = c.args.self.now in
    let m = c.args.found.now in
    let ps = c.args.params.now in
    let level = c.args.state.now.level in
    let fs = frames_of nodes more c.args.state.now.pending.items in
    let names = c.args.names.now in
    let b = c.args.begun in
    let a = c.in-Closed.arguments in
    let tail = tail_of more level.is_open in
    let left = items_of nodes c.gather.new.self ++ tail in
    let P : Inside → Type 0 = λ i. IsGathered nodes c.words.result level.outside tail (Ok i) c.gather.new.self (gather_in nodes c.words.result level.outside b.gathered (rest_in nodes more level)) in
    let whole : gather_in nodes table.words level.outside b.gathered (rest_in nodes more level) ≡ closed (lists_of nodes a.lists.items) a.size (item_of nodes a.close) left =
    ap (λ (w : Words). gather_in nodes w level.outside b.gathered (rest_in nodes more level)) (sym c.words.ensures) ∙ subst P c.in-Closed.is (c.in_ok-inside.ensures.value nodes tail (put_tail more level.is_open)) in
    into_front nodes table (items_of nodes level.out.items) fs (λ go. begun_with nodes table go names (stage_of nodes more level) b m (Some ps)) (λ go. Expand.replace_use table go names level.outside level.room (item_of nodes b.name) [] m ps (closed (lists_of nodes a.lists.items) a.size (item_of nodes a.close) left)) (Err c.in-Err.refusal) c.begin.new.names (stage_of nodes more c.begin.new.state.level) (frames_of nodes more c.begin.new.state.pending.items)
    (λ go. ap (λ g. Expand.replace_use table go names level.outside level.room (item_of nodes b.name) [] m ps g) whole)
    (c.in-Err.ensures.value nodes more x)

pub returns-in-Unclosed-clause-value : goal.returns-in-Unclosed-clause-value
returns-in-Unclosed-clause-value c = λ nodes more x.
    let table = c.args.self.now in
    let level = c.args.state.now.level in
    let b = c.args.begun in
    let w = c.words.result in
    let h = c.in-Unclosed.gathered in
    let tail = tail_of more level.is_open in
    let left = items_of nodes c.gather.new.self ++ tail in
    let P : Inside → Type 0 = λ i. IsGathered nodes w level.outside tail (Ok i) c.gather.new.self (gather_in nodes w level.outside b.gathered (rest_in nodes more level)) in
    let got = subst P c.in-Unclosed.is (c.in_ok-inside.ensures.value nodes tail (put_tail more level.is_open)) in
    let same : gather_in nodes table.words level.outside b.gathered (rest_in nodes more level) ≡ gather_in nodes table.words level.outside h left =
    ap (λ (v : Words). gather_in nodes v level.outside b.gathered (rest_in nodes more level)) (sym c.words.ensures) ∙ got.1
    ∙ ap (λ (v : Words). gather_in nodes v level.outside h tail) c.words.ensures ∙ ap (λ l. gather_in nodes table.words level.outside h (items_of nodes l ++ tail)) (sym got.0) in
    use_waits nodes table c.args.names.now (rest_in nodes more level) left (items_of nodes level.out.items) level.room level.outside (frames_of nodes more c.args.state.now.pending.items) b.name b.gathered h c.args.found.now c.args.params.now c.requires.known c.requires.has same
