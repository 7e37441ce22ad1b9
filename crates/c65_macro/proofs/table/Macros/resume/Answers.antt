use Rattle.std.proofs.Common.{◌≡◌, ◌∙◌, ◌++◌, ◌∷◌, [], sym, ap, Some}
use Rattle.c65_macro.specs.declared.state.Level.{Level}
use Rattle.c65_macro.specs.Table.{lookup}
use Rattle.c65_macro.specs.Views.{item_of, items_of, lists_of}
use Rattle.c65_macro.specs.Machine.{Frame, stage_of, frame_of, frames_of, use_with, use_left, with_argument}
use Rattle.c65_macro.proofs.Stepping.{steps_front}
use Rattle.c65_macro.proofs.Replacing.{left_with, argument_done}
use Rattle.c65_macro.proofs.table.Macros.resume.Goals as goal

pub returns-in-Some-params-clause-value : goal.returns-in-Some-params-clause-value
returns-in-Some-params-clause-value c = λ nodes more x.
    let table = c.args.self.now in
    let p = c.args.pending in
    let m = c.in-Some.found.now in
    let ps = c.in-Some-params.params in
    let names = c.args.names.now in
    let out = c.args.state.now.level.out.items in
    let full = p.full.items in
    let pushed : full ++ out ∷ [] ≡ c.push.new.self.items =
    ap (λ a. full ++ a ∷ []) (sym (c.from_vec.ensures ∙ ap (λ (l : Level). l.out.items) c.replace-level.ensures.value)) ∙ sym c.in_ok-push.ensures.items in
    let g : Frame = record { stage = stage_of nodes more p.level; name = item_of nodes p.name; close = item_of nodes p.close; raw = lists_of nodes p.raw.items; full = lists_of nodes c.push.new.self.items; inside = p.inside } in
    let same : with_argument (frame_of nodes more p) (items_of nodes out) ≡ g =
    argument_done nodes full out (stage_of nodes more p.level) (item_of nodes p.name) (item_of nodes p.close) (lists_of nodes p.raw.items) p.inside
    ∙ ap (λ l. record { stage = stage_of nodes more p.level; name = item_of nodes p.name; close = item_of nodes p.close; raw = lists_of nodes p.raw.items; full = lists_of nodes l; inside = p.inside }) pushed in
    steps_front table (items_of nodes p.level.out.items) (frames_of nodes more c.args.state.now.pending.items)
    (λ go. use_left table go names (with_argument (frame_of nodes more p) (items_of nodes out)) (lookup table p.name.token.spelling)) (λ go. use_with table go names g m (Some ps))
    c.advance.result c.advance.new.names (stage_of nodes more c.advance.new.state.level) (frames_of nodes more c.advance.new.state.pending.items)
    (λ go. left_with table go names (with_argument (frame_of nodes more p) (items_of nodes out)) g (lookup table p.name.token.spelling) m ps (sym c.in-Some.ensures) c.in-Some-params.is same)
    (c.advance.ensures.value nodes more x)
