use Rattle.std.proofs.Common.{◌≡◌, ◌∙◌, ◌+◌, [], sym, ap, subst, refl, Some, true, false, arith}
use Rattle.c65_base.specs.declared.code.Code.TheVariants as codes
use Rattle.c65_base.specs.declared.refusal.Refusal.TheVariants as refusals
use Rattle.c65_macro.specs.declared.state.Level.{Level}
use Rattle.c65_macro.specs.declared.state.Pending.{Pending}
use Rattle.c65_macro.specs.Expand
use Rattle.c65_macro.specs.Items.{put_count}
use Rattle.c65_macro.specs.Uses.{closed, is_fit}
use Rattle.c65_macro.specs.Views.{item_of, items_of, lists_of}
use Rattle.c65_macro.specs.Machine.{Steps, rest_in, tail_of, stage_of, frame_of, frames_of, use_with}
use Rattle.c65_macro.proofs.Stepping.{steps_front, steps_stop}
use Rattle.c65_macro.proofs.Tails.{put_more, put_tail}
use Rattle.c65_macro.proofs.Replacing.{use_unfit, use_fits}
use Rattle.c65_macro.proofs.table.Macros.begin.Goals as goal

pub returns-then-not-is_fit-clause-value : goal.returns-then-not-is_fit-clause-value
returns-then-not-is_fit-clause-value c = λ nodes more x.
    let table = c.args.self.now in
    let m = c.args.found.now in
    let ps = c.args.params.now in
    let level = c.args.state.now.level in
    let i = item_of nodes c.args.name in
    let is = rest_in nodes more level in
    let fs = frames_of nodes more c.args.state.now.pending.items in
    let names = c.args.names.now in
    let args = c.args.arguments in
    let fit : is_fit ps args.lists.items ≡ false = ap (λ l. is_fit l args.lists.items) (sym c.as_slice.ensures) ∙ ap (λ l. is_fit c.as_slice.result.now l) (sym c.deref.ensures.value) ∙ sym c.if-not-is_fit.ensures in
    let all = closed (lists_of nodes args.lists.items) args.size (item_of nodes args.close) is in
    steps_stop (Unit {0}) table (items_of nodes level.out.items) fs (λ go. Expand.replace_use table go names level.outside level.room i [] m ps all) (refusals.At codes.MacroArguments c.args.name.token.pos) names (stage_of nodes more level) fs
    (λ go. use_unfit nodes table go names level.outside level.room i [] m ps all args.lists.items args.size (item_of nodes args.close) is refl fit)

pub returns-clause-value : goal.returns-clause-value
returns-clause-value c = λ nodes more x.
    let table = c.args.self.now in
    let m = c.args.found.now in
    let ps = c.args.params.now in
    let level = c.args.state.now.level in
    let i = item_of nodes c.args.name in
    let is = rest_in nodes more level in
    let fs = frames_of nodes more c.args.state.now.pending.items in
    let names = c.args.names.now in
    let args = c.args.arguments in
    let inside = c.in_ok-inside.inside in
    let all = closed (lists_of nodes args.lists.items) args.size (item_of nodes args.close) is in
    let fit : is_fit ps args.lists.items ≡ true = ap (λ l. is_fit l args.lists.items) (sym c.as_slice.ensures) ∙ ap (λ l. is_fit c.as_slice.result.now l) (sym c.deref.ensures.value) ∙ sym c.if-not-is_fit.ensures in
    let count : inside ≡ level.outside + args.size + put_count is = omega (arith, c.in_ok-inside.ensures, c.in_ok-gathered.ensures, c.put.ensures, put_more nodes level.rest (tail_of more level.is_open) (put_tail more level.is_open)) in
    let use_in : Level → Pending = λ l. record { level = l; name = c.args.name; close = args.close; raw = args.lists; full = c.new-2.result; inside = inside } in
    let P : Level → Type 0 = λ l. Steps table (items_of nodes l.out.items) fs (λ go. use_with table go names (frame_of nodes more (use_in l)) m (Some ps)) c.advance.result c.advance.new.names (stage_of nodes more c.advance.new.state.level) (frames_of nodes more c.advance.new.state.pending.items) in
    let done : P level = subst P c.replace-level.ensures.value (c.advance.ensures.value nodes more x) in
    steps_front table (items_of nodes level.out.items) fs (λ go. Expand.replace_use table go names level.outside level.room i [] m ps all) (λ go. use_with table go names (frame_of nodes more (use_in level)) m (Some ps)) c.advance.result c.advance.new.names (stage_of nodes more c.advance.new.state.level) (frames_of nodes more c.advance.new.state.pending.items)
    (λ go. use_fits nodes table go names level.outside level.room i [] m ps all args.lists.items args.size (item_of nodes args.close) is inside (items_of nodes level.out.items) (lists_of nodes c.new-2.result.items) refl fit count (ap (λ l. lists_of nodes l) c.new-2.ensures.items))
    done
