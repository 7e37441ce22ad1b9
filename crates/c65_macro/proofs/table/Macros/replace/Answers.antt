use Rattle.std.proofs.Common.{◌∙◌, List, sym, ap, Some, None}
use Rattle.std.specs.Prelude.{◌||◌}
use Rattle.c65_macro.specs.Table.{same_name}
use Rattle.c65_macro.specs.Expand
use Rattle.c65_macro.specs.Items.{Item, Outcome}
use Rattle.c65_macro.specs.Views.{item_of}
use Rattle.c65_macro.specs.Machine.{before, rest_in, stage_of, frames_of}
use Rattle.c65_macro.proofs.Going.{goes_front, goes_on}
use Rattle.c65_macro.proofs.Replacing.{if_true, if_false}
use Rattle.c65_macro.proofs.table.Macros.replace.Goals as goal

pub returns-then-is_place-clause-value : goal.returns-then-is_place-clause-value
returns-then-is_place-clause-value c = λ nodes more x.
    let table = c.args.self.now in
    let m = c.args.found.now in
    let level = c.args.state.now.level in
    let i = item_of nodes c.args.item in
    let is = rest_in nodes more level in
    let fs = frames_of nodes more c.args.state.now.pending.items in
    let names = c.args.names.now in
    let was = before i (stage_of nodes more level) in
    let there : Expand.Expander → Outcome (List Item) = λ go. Expand.replace_place table go names level.outside level.room i is m.name in
    let s = stage_of nodes more c.replace_place.new.state.level in
    let gs = frames_of nodes more c.replace_place.new.state.pending.items in
    goes_front nodes table names was fs (λ go. Expand.replace table go names level.outside level.room i is m) there c.went_on.result c.replace_place.new.names s gs
    (λ go. if_true (same_name m.name table.words.line || same_name m.name table.words.file) _ _ (sym c.is_place.ensures ∙ c.if-is_place.true))
    (goes_on nodes table names was fs there c.replace_place.result c.went_on.result c.replace_place.new.names s gs c.went_on.ensures (c.replace_place.ensures.value nodes more x))

pub returns-in-Some-clause-value : goal.returns-in-Some-clause-value
returns-in-Some-clause-value c = λ nodes more x.
    let table = c.args.self.now in
    let m = c.args.found.now in
    let level = c.args.state.now.level in
    let i = item_of nodes c.args.item in
    let is = rest_in nodes more level in
    let fs = frames_of nodes more c.args.state.now.pending.items in
    let names = c.args.names.now in
    goes_front nodes table names (before i (stage_of nodes more level)) fs (λ go. Expand.replace table go names level.outside level.room i is m) (λ go. Expand.replace_with table go names level.outside level.room i is m (Some c.in-Some.params)) c.apply.result c.apply.new.names (stage_of nodes more c.apply.new.state.level) (frames_of nodes more c.apply.new.state.pending.items)
    (λ go. if_false (same_name m.name table.words.line || same_name m.name table.words.file) _ _ (sym c.is_place.ensures ∙ c.if-is_place.false) ∙ ap (λ p. Expand.replace_with table go names level.outside level.room i is m p) c.in-Some.is)
    (c.apply.ensures.value nodes more x)

pub returns-in-None-clause-value : goal.returns-in-None-clause-value
returns-in-None-clause-value c = λ nodes more x.
    let table = c.args.self.now in
    let m = c.args.found.now in
    let level = c.args.state.now.level in
    let i = item_of nodes c.args.item in
    let is = rest_in nodes more level in
    let fs = frames_of nodes more c.args.state.now.pending.items in
    let names = c.args.names.now in
    let was = before i (stage_of nodes more level) in
    let there : Expand.Expander → Outcome (List Item) = λ go. Expand.replace_with table go names level.outside level.room i is m None in
    let s = stage_of nodes more c.replace_object.new.state.level in
    let gs = frames_of nodes more c.replace_object.new.state.pending.items in
    goes_front nodes table names was fs (λ go. Expand.replace table go names level.outside level.room i is m) there c.went_on-in-None.result c.replace_object.new.names s gs
    (λ go. if_false (same_name m.name table.words.line || same_name m.name table.words.file) _ _ (sym c.is_place.ensures ∙ c.if-is_place.false) ∙ ap (λ p. Expand.replace_with table go names level.outside level.room i is m p) c.in-None.is)
    (goes_on nodes table names was fs there c.replace_object.result c.went_on-in-None.result c.replace_object.new.names s gs c.went_on-in-None.ensures (c.replace_object.ensures.value nodes more x))
