use Rattle.std.proofs.Common.{◌∙◌, List, sym, ap}
use Rattle.c65_macro.specs.Expand
use Rattle.c65_macro.specs.Items.{Item, Outcome}
use Rattle.c65_macro.specs.Views.{item_of}
use Rattle.c65_macro.specs.Machine.{before, rest_in, stage_of, frames_of}
use Rattle.c65_macro.proofs.HideSets.{extends_trans}
use Rattle.c65_macro.proofs.Going.{goes_front, goes_on}
use Rattle.c65_macro.proofs.Replacing.{macro_lookup, if_true, if_false}
use Rattle.c65_macro.proofs.table.Macros.step.Goals as goal

pub replace-requires : goal.replace-requires
replace-requires c = macro_lookup c.args.self.now c.args.item.token c.in-Some.found.now (sym c.in-Some.ensures)

pub returns-in_default-clause-value : goal.returns-in_default-clause-value
returns-in_default-clause-value c = λ nodes more x.
    let table = c.args.self.now in
    let level = c.args.state.now.level in
    let i = item_of nodes c.args.item in
    let is = rest_in nodes more level in
    let fs = frames_of nodes more c.args.state.now.pending.items in
    let names = c.args.names.now in
    let was = before i (stage_of nodes more level) in
    let stay : Expand.Expander → Outcome (List Item) = λ go. Expand.keep go names level.outside level.room i is in
    goes_front nodes table names was fs (λ go. Expand.in_front table go names level.outside level.room i is (Expand.macro_of table c.args.item.token)) stay c.went_on.result names (stage_of nodes more c.keep.new.self) fs
    (λ go. ap (λ m. Expand.in_front table go names level.outside level.room i is m) (sym c.in_default.ensures))
    (goes_on nodes table names was fs stay c.keep.result c.went_on.result names (stage_of nodes more c.keep.new.self) fs c.went_on.ensures (c.keep.ensures.value nodes more table names fs))

pub returns-then-branch-clause-value : goal.returns-then-branch-clause-value
returns-then-branch-clause-value c = λ nodes more x.
    let table = c.args.self.now in
    let level = c.args.state.now.level in
    let i = item_of nodes c.args.item in
    let is = rest_in nodes more level in
    let fs = frames_of nodes more c.args.state.now.pending.items in
    let names = c.args.names.now in
    let was = before i (stage_of nodes more level) in
    let stay : Expand.Expander → Outcome (List Item) = λ go. Expand.keep go names level.outside level.room i is in
    goes_front nodes table names was fs (λ go. Expand.in_front table go names level.outside level.room i is (Expand.macro_of table c.args.item.token)) stay c.went_on-then-branch.result names (stage_of nodes more c.keep-then-branch.new.self) fs
    (λ go. ap (λ m. Expand.in_front table go names level.outside level.room i is m) (sym c.in-Some.ensures) ∙ if_true (i.hide c.args.item.token.spelling.0) _ _ (c.in_ok-has.ensures.value nodes x ∙ c.if-branch.true))
    (goes_on nodes table names was fs stay c.keep-then-branch.result c.went_on-then-branch.result names (stage_of nodes more c.keep-then-branch.new.self) fs c.went_on-then-branch.ensures (c.keep-then-branch.ensures.value nodes more table names fs))

pub returns-clause-value : goal.returns-clause-value
returns-clause-value c = λ nodes more x.
    let table = c.args.self.now in
    let level = c.args.state.now.level in
    let i = item_of nodes c.args.item in
    let is = rest_in nodes more level in
    let fs = frames_of nodes more c.args.state.now.pending.items in
    let names = c.args.names.now in
    goes_front nodes table names (before i (stage_of nodes more level)) fs (λ go. Expand.in_front table go names level.outside level.room i is (Expand.macro_of table c.args.item.token)) (λ go. Expand.replace table go names level.outside level.room i is c.in-Some.found.now) c.replace.result c.replace.new.names (stage_of nodes more c.replace.new.state.level) (frames_of nodes more c.replace.new.state.pending.items)
    (λ go. ap (λ m. Expand.in_front table go names level.outside level.room i is m) (sym c.in-Some.ensures) ∙ if_false (i.hide c.args.item.token.spelling.0) _ _ (c.in_ok-has.ensures.value nodes (extends_trans c.args.state.now.sets c.replace.new.state.sets nodes c.replace.ensures.kept x) ∙ c.if-branch.false))
    (c.replace.ensures.value nodes more x)
