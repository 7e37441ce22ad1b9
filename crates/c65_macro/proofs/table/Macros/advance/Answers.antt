use Rattle.std.proofs.Common.{◌≡◌, ◌∙◌, ◌++◌, sym, ap, Some, None, length, arith}
use Rattle.std.specs.Prelude.{slice_get}
use Rattle.std.proofs.lemmas.List.{append-nil}
use Rattle.c65_macro.specs.Expand
use Rattle.c65_macro.specs.Views.{item_of, items_of, lists_of}
use Rattle.c65_macro.specs.Machine.{rest_in, stage_of, frame_of, frames_of, use_with}
use Rattle.c65_macro.proofs.Stepping.{steps_front}
use Rattle.c65_macro.proofs.Replacing.{done_params, done_arguments, next_steps, item_there, item_past, get_at}
use Rattle.c65_macro.proofs.table.Macros.advance.Goals as goal

pub returns-in_default-clause-value : goal.returns-in_default-clause-value
returns-in_default-clause-value c = λ nodes more x.
    let table = c.args.self.now in
    let m = c.args.found.now in
    let ps = c.args.params.now in
    let p = c.args.pending in
    let names = c.args.names.now in
    let count : c.len-done.result ≡ length p.full.items = omega (arith, c.len-done.ensures, p.full.ok) in
    let none : slice_get ps c.len-done.result ≡ None = ap (λ l. slice_get l c.len-done.result) (sym c.as_slice.ensures) ∙ item_past c.as_slice.result.now c.len-done.result c.in_default.ensures.lookup in
    steps_front table (items_of nodes p.level.out.items) (frames_of nodes more c.args.state.now.pending.items) (λ go. use_with table go names (frame_of nodes more p) m (Some ps))
    (λ go. Expand.finish table go names p.level.outside p.level.room (item_of nodes p.name) (item_of nodes p.close) (rest_in nodes more p.level) m ps (lists_of nodes p.raw.items) (lists_of nodes p.full.items))
    c.complete.result c.complete.new.names (stage_of nodes more c.complete.new.state.level) (frames_of nodes more c.complete.new.state.pending.items)
    (λ go. done_params nodes more table go names p m ps (get_at ps c.len-done.result (length p.full.items) None count none))
    (c.complete.ensures.value nodes more ps c.requires.has x)

pub returns-in_default-get-clause-value : goal.returns-in_default-get-clause-value
returns-in_default-get-clause-value c = λ nodes more x.
    let table = c.args.self.now in
    let m = c.args.found.now in
    let ps = c.args.params.now in
    let p = c.args.pending in
    let names = c.args.names.now in
    let count : c.len-done.result ≡ length p.full.items = omega (arith, c.len-done.ensures, p.full.ok) in
    let none : slice_get p.raw.items c.len-done.result ≡ None = ap (λ l. slice_get l c.len-done.result) (sym c.deref.ensures.value) ∙ item_past c.deref.result.now c.len-done.result c.in_default-get.ensures.lookup in
    steps_front table (items_of nodes p.level.out.items) (frames_of nodes more c.args.state.now.pending.items) (λ go. use_with table go names (frame_of nodes more p) m (Some ps))
    (λ go. Expand.finish table go names p.level.outside p.level.room (item_of nodes p.name) (item_of nodes p.close) (rest_in nodes more p.level) m ps (lists_of nodes p.raw.items) (lists_of nodes p.full.items))
    c.complete-in_default-get.result c.complete-in_default-get.new.names (stage_of nodes more c.complete-in_default-get.new.state.level) (frames_of nodes more c.complete-in_default-get.new.state.pending.items)
    (λ go. done_arguments nodes more table go names p m ps (get_at p.raw.items c.len-done.result (length p.full.items) None count none))
    (c.complete-in_default-get.ensures.value nodes more ps c.requires.has x)

pub returns-clause-value : goal.returns-clause-value
returns-clause-value c = λ nodes more x.
    let table = c.args.self.now in
    let m = c.args.found.now in
    let ps = c.args.params.now in
    let p = c.args.pending in
    let names = c.args.names.now in
    let count : c.len-done.result ≡ length p.full.items = omega (arith, c.len-done.ensures, p.full.ok) in
    let list = c.in_ok-list.list.items in
    let param : slice_get ps c.len-done.result ≡ Some c.in-Some.param.now = ap (λ l. slice_get l c.len-done.result) (sym c.as_slice.ensures) ∙ item_there c.as_slice.result.now c.len-done.result c.in-Some.param c.in-Some.ensures.lookup in
    let argument : slice_get p.raw.items c.len-done.result ≡ Some c.in-Some-get.argument.now = ap (λ l. slice_get l c.len-done.result) (sym c.deref.ensures.value) ∙ item_there c.deref.result.now c.len-done.result c.in-Some-get.argument c.in-Some-get.ensures.lookup in
    next_steps nodes more table names p c.args.state.now.pending.items c.push.new.self.items m ps c.in-Some.param.now c.in-Some-get.argument.now list
    (record { rest = c.push_all.new.self; out = c.new-level.result.out; room = c.new-level.result.room; outside = c.new-level.result.outside; is_open = c.new-level.result.is_open })
    (get_at ps c.len-done.result (length p.full.items) (Some c.in-Some.param.now) count param)
    (get_at p.raw.items c.len-done.result (length p.full.items) (Some c.in-Some-get.argument.now) count argument)
    c.requires.known c.requires.has
    (c.in_ok-push_all.ensures ∙ ap (λ l. list ++ l) c.new-level.ensures.0 ∙ append-nil list)
    (c.in_ok-list.ensures nodes ∙ ap (λ l. Expand.wanted table m.body c.in-Some.param.now (items_of nodes l)) c.as_slice-2.ensures)
    c.new-level.ensures.1 c.new-level.ensures.2 c.new-level.ensures.3 c.new-level.ensures.4 c.in_ok-push.ensures.items
