use Rattle.std.proofs.Common.{◌≡◌, ◌∙◌, sym, ap, Some, refl}
use Rattle.std.proofs.lemmas.Result.{err_from_is_err_and}
use Rattle.c65_macro.specs.Fill.{replacement}
use Rattle.c65_macro.specs.Sets.{Extends, Set, set_of, with_name, both}
use Rattle.c65_macro.specs.Views.{item_of, items_of, lists_of}
use Rattle.c65_macro.specs.Machine.{rest_in, stage_of, frames_of}
use Rattle.c65_macro.proofs.HideSets.{extends_trans}
use Rattle.c65_macro.proofs.Seen.{stops_same}
use Rattle.c65_macro.proofs.Replacing.{replaced, replaced_stop, replacement_parts}
use Rattle.c65_macro.proofs.table.Macros.complete.Goals as goal

pub returns-in_err-items-clause-value : goal.returns-in_err-items-clause-value
returns-in_err-items-clause-value c = λ nodes more params h x.
    let table = c.args.self.now in
    let m = c.args.found.now in
    let pending = c.args.pending in
    let level = pending.level in
    let i = item_of nodes pending.name in
    let is = rest_in nodes more level in
    let fs = frames_of nodes more c.args.state.now.pending.items in
    let raw = lists_of nodes pending.raw.items in
    let full = lists_of nodes pending.full.items in
    let later : Extends c.with.new.self nodes = extends_trans c.with.new.self c.replacement.new.sets nodes c.replacement.ensures.kept x in
    let hide : set_of nodes c.in_ok-hide.hide.0 ≡ with_name m.name.0 (both i.hide (set_of nodes pending.close.hide.0)) =
    c.in_ok-hide.ensures.value nodes later ∙ ap (λ (s : Set). with_name m.name.0 s) (c.in_ok-common.ensures.value nodes (extends_trans c.both.new.self c.with.new.self nodes c.with.ensures.grows later)) in
    let y = replacement (record { words = table.words; params = Some params; raw = raw; full = full; place = i.token.pos }) c.args.names.now (with_name m.name.0 (both i.hide (set_of nodes pending.close.hide.0))) i.token.space m.body in
    let z = replacement (record { words = c.words.result; params = m.params; raw = raw; full = full; place = i.token.pos }) c.args.names.now (set_of nodes c.in_ok-hide.hide.0) i.token.space c.as_slice.result.now in
    let e : y ≡ z = replacement_parts table.words c.words.result (Some params) m.params raw raw full full i.token.pos c.args.names.now (with_name m.name.0 (both i.hide (set_of nodes pending.close.hide.0))) (set_of nodes c.in_ok-hide.hide.0) i.token.space m.body c.as_slice.result.now
    (sym c.words.ensures) (sym h) refl refl (sym hide) (sym c.as_slice.ensures) in
    let p = err_from_is_err_and c.from_residual-in_err-items.result c.from_residual-in_err-items.ensures.1 in
    rw (p.1, p.2)
    (replaced_stop (Unit {0}) table (items_of nodes level.out.items) fs c.replacement.new.names level.outside level.room is y c.in_err-items.field-0.0 (stage_of nodes more c.args.state.now.level) fs (stops_same c.in_err-items.field-0.0 y z e (c.in_err-items.ensures.value nodes x)))

pub returns-clause-value : goal.returns-clause-value
returns-clause-value c = λ nodes more params h x.
    let table = c.args.self.now in
    let m = c.args.found.now in
    let pending = c.args.pending in
    let level = pending.level in
    let i = item_of nodes pending.name in
    let is = rest_in nodes more level in
    let fs = frames_of nodes more c.args.state.now.pending.items in
    let raw = lists_of nodes pending.raw.items in
    let full = lists_of nodes pending.full.items in
    let later : Extends c.with.new.self nodes = extends_trans c.with.new.self c.replacement.new.sets nodes c.replacement.ensures.kept x in
    let hide : set_of nodes c.in_ok-hide.hide.0 ≡ with_name m.name.0 (both i.hide (set_of nodes pending.close.hide.0)) =
    c.in_ok-hide.ensures.value nodes later ∙ ap (λ (s : Set). with_name m.name.0 s) (c.in_ok-common.ensures.value nodes (extends_trans c.both.new.self c.with.new.self nodes c.with.ensures.grows later)) in
    let y = replacement (record { words = table.words; params = Some params; raw = raw; full = full; place = i.token.pos }) c.args.names.now (with_name m.name.0 (both i.hide (set_of nodes pending.close.hide.0))) i.token.space m.body in
    let z = replacement (record { words = c.words.result; params = m.params; raw = raw; full = full; place = i.token.pos }) c.args.names.now (set_of nodes c.in_ok-hide.hide.0) i.token.space c.as_slice.result.now in
    let e : y ≡ z = replacement_parts table.words c.words.result (Some params) m.params raw raw full full i.token.pos c.args.names.now (with_name m.name.0 (both i.hide (set_of nodes pending.close.hide.0))) (set_of nodes c.in_ok-hide.hide.0) i.token.space m.body c.as_slice.result.now
    (sym c.words.ensures) (sym h) refl refl (sym hide) (sym c.as_slice.ensures) in
    replaced table (items_of nodes level.out.items) fs c.replacement.new.names level.outside level.room is (items_of nodes c.in_ok-items.items.items) y c.put.result (stage_of nodes more c.put.new.self) fs
    (e ∙ c.in_ok-items.ensures.value nodes x)
    (c.put.ensures.value nodes more table c.replacement.new.names fs)
