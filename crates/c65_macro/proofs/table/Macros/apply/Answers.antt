use Rattle.std.proofs.Common.{◌≡◌, ◌∙◌, ◌++◌, List, [], sym, ap, Some, true, false}
use Rattle.c65_macro.specs.declared.state.Begun.{Begun}
use Rattle.c65_macro.specs.Expand
use Rattle.c65_macro.specs.Items.{Item, Outcome}
use Rattle.c65_macro.specs.Uses.{no_use, use_at}
use Rattle.c65_macro.specs.Views.{item_of, items_of}
use Rattle.c65_macro.specs.Machine.{before, begun_with, gather_in, rest_in, tail_of, stage_of, frames_of}
use Rattle.c65_macro.proofs.Going.{goes_front, goes_on, goes_into}
use Rattle.c65_macro.proofs.Tails.{gather_used, none_opens}
use Rattle.c65_macro.proofs.Replacing.{use_none, use_opens, use_behind}
use Rattle.c65_macro.proofs.table.Macros.apply.Goals.{else-state-via-then-state+else-has_ends_alone, else-state-via-else-state}
use Rattle.c65_macro.proofs.table.Macros.apply.Goals as goal

pub returns-then-not-is_use-clause-value : goal.returns-then-not-is_use-clause-value
returns-then-not-is_use-clause-value c = λ nodes more x.
    let table = c.args.self.now in
    let m = c.args.found.now in
    let ps = c.args.params.now in
    let level = c.args.state.now.level in
    let i = item_of nodes c.args.item in
    let is = rest_in nodes more level in
    let fs = frames_of nodes more c.args.state.now.pending.items in
    let names = c.args.names.now in
    let was = before i (stage_of nodes more level) in
    let stay : Expand.Expander → Outcome (List Item) = λ go. Expand.keep go names level.outside level.room i is in
    let none : use_at table.words level.outside is ≡ no_use =
    ap (λ w. use_at w level.outside is) (sym c.words-marks.ensures) ∙ use_none c.words-marks.result level.outside is (none_opens c.words-marks.result (items_of nodes level.rest) more level.is_open (c.if-not-is_use.ensures nodes) (λ e. elim c.else-state.branch [ else-state-via-then-state+else-has_ends_alone w ↦ w.has_ends_alone.ensures nodes ∙ w.if-has_ends_alone.false | else-state-via-else-state w ↦ (let f : true ≡ false = sym e ∙ w.if-state.false in absurd cc) ])) in
    goes_front nodes table names was fs (λ go. Expand.replace_with table go names level.outside level.room i is m (Some ps)) stay c.went_on.result names (stage_of nodes more c.keep.new.self) fs
    (λ go. ap (λ g. Expand.replace_use table go names level.outside level.room i is m ps g) none)
    (goes_on nodes table names was fs stay c.keep.result c.went_on.result names (stage_of nodes more c.keep.new.self) fs c.went_on.ensures (c.keep.ensures.value nodes more table names fs))

pub returns-clause-value : goal.returns-clause-value
returns-clause-value c = λ nodes more x.
    let table = c.args.self.now in
    let m = c.args.found.now in
    let ps = c.args.params.now in
    let level = c.args.state.now.level in
    let i = item_of nodes c.args.item in
    let is = rest_in nodes more level in
    let fs = frames_of nodes more c.args.state.now.pending.items in
    let names = c.args.names.now in
    let w = c.words-marks.result in
    let tail = tail_of more level.is_open in
    let left = items_of nodes c.enter.new.self ++ tail in
    let was = before i (stage_of nodes more level) in
    let begun : Begun = record { name = c.args.item; gathered = c.new.result } in
    let use_ : Expand.Expander → Outcome (List Item) = λ go. begun_with nodes table go names (stage_of nodes more (record level { rest = c.enter.new.self })) begun m (Some ps) in
    let there : use_at table.words level.outside is ≡ gather_in nodes table.words level.outside c.new.result left =
    use_opens nodes table.words w level.outside (items_of nodes level.rest) tail (items_of nodes c.enter.new.self) c.new.result (sym c.words-marks.ensures) (c.if-not-is_use.ensures nodes) (λ rest h. c.enter.ensures nodes rest h) c.new.ensures.0 c.new.ensures.1 c.new.ensures.2 c.new.ensures.3 c.new.ensures.4 in
    let s = stage_of nodes more c.gather.new.state.level in
    let gs = frames_of nodes more c.gather.new.state.pending.items in
    goes_front nodes table names was fs (λ go. Expand.replace_with table go names level.outside level.room i is m (Some ps)) use_ c.went_into.result c.gather.new.names s gs
    (λ go. ap (λ g. Expand.replace_use table go names level.outside level.room i is m ps g) there
    ∙ use_behind table go names level.outside level.room i is [] m ps (gather_in nodes table.words level.outside c.new.result left) (gather_used table.words level.outside c.new.result.gap c.new.result.depth _ _ c.new.result.size left))
    (goes_into nodes table names was fs use_ c.gather.result c.went_into.result c.gather.new.names s gs c.went_into.ensures (c.gather.ensures.value nodes more x))
