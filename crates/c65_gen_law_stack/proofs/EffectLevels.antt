-- Where the lines of expressions whose value is not used lead, and what waits there.
use Rattle.std.proofs.Common.{◌≡◌, ℕ, ◌+◌, Option, Some, None, List, [], ◌++◌, refl, sym, ◌∙◌, subst}
use Rattle.c65_base.specs.declared.operators.BinaryOp.{BinaryOp}
use Rattle.c65_base.specs.declared.operators.StepKind.{StepKind}
use Rattle.c65_base.specs.declared.operators.StepKind.TheVariants.{PreInc, PreDec, PostInc, PostDec}
use Rattle.c65_ctype.specs.Trees.{QTy}
use Rattle.c65_ctype.specs.Views.{types_of}
use Rattle.c65_csem.specs.Trees.{Typed, node, Node, convert, comma, assign, assign_op, assign_step, step}
use Rattle.c65_code.specs.declared.line.Line.{Line}
use Rattle.c65_genframe.specs.Frames.{Framed}
use Rattle.c65_genload.specs.declared.places.Place.{Place}
use Rattle.c65_genload.specs.declared.places.Access.{Access}
use Rattle.c65_genexpr.specs.declared.destination.Destination.TheVariants.{Registers, Pointer}
use Rattle.c65_genexpr.specs.declared.wanted.Wanted.TheVariants.{Value}
use Rattle.c65_genexpr.specs.Types.{bare, access_of, target_bytes}
use Rattle.c65_genexpr.specs.Places.{place_of}
use Rattle.c65_genexpr.specs.Uses.{uses}
use Rattle.c65_genexpr.specs.Code.{node_code}
use Rattle.c65_genchange.specs.declared.changes.Change.{Change}
use Rattle.c65_geneffect.specs.declared.changing.Changing.{Changing}
use Rattle.c65_geneffect.specs.declared.changing.Changing.TheVariants.{Fixed, Loaded, Computed, Otherwise}
use Rattle.c65_geneffect.specs.declared.changing.Fill.{Fill}
use Rattle.c65_genchange.specs.Changes.{change_code}
use Rattle.c65_geneffect.specs.Changing.{in_front, stepping_of, changing_of, filling_of}
use Rattle.c65_geneffect.specs.declared.setting.Setting.{Setting}
use Rattle.c65_geneffect.specs.declared.setting.Setting.TheVariants as settings
use Rattle.c65_geneffect.specs.Setting.{setting_of, below_value, base_for, set_by}
use Rattle.c65_genexpr.specs.Held.{ptr2}
use Rattle.c65_ints.specs.declared.types.IntType.{IntType}
use Rattle.c65_genload.specs.Places.{type_in}
use Rattle.c65_genload.specs.Stores.{store_code}
use Rattle.c65_genexpr.specs.declared.operands.Operands.{Operands}
use Rattle.c65_genexpr.specs.declared.operands.Operands.TheVariants.{Numbers, PointerFirst}
use Rattle.c65_genexpr.specs.declared.operating.Form.{Form}
use Rattle.c65_genexpr.specs.Operands.{computes}
use Rattle.c65_geneffect.specs.declared.placing.Placing.{Placing}
use Rattle.c65_geneffect.specs.declared.placing.Placing.TheVariants as placings
use Rattle.c65_geneffect.specs.Placing.{placing_of}
use Rattle.c65_gen_law_lines.proofs.Placing.{Placeable, placing_placeable}
use Rattle.c65_geneffect.specs.Effects.{closed, stepped_by, computed_code, changed_by, changed_base, filled_or, placed_code, set_code, changed_code, step_effect, effect_code, node_effect, effect_uses}
use Rattle.c65_gen_law_lines.specs.Stack.{calls_of, node_calls}
use Rattle.c65_gen_law_lines.proofs.Drops.{constant_idle}
use Rattle.c65_gen_law_lines.proofs.Elements.{none_of}
use Rattle.c65_gen_law_lines.proofs.EffectFacts.{Settled, Unneeded, changing_unneeded, Unfilled, number_idle, filling_unneeded, Unset, setting_unset}
use Rattle.c65_gen_law_lines.proofs.Pieces.{hold_piece, keep_piece, load_piece, convert_piece, store_piece}
use Rattle.c65_gen_law_lines.proofs.StackPieces.{Leaves, holding, hold_leaves, keep_still, load_still, convert_still, stored_leaves}
use Rattle.c65_gen_law_lines.proofs.FieldForms.{number_piece, number_still, behind_piece, behind_still, set_piece, set_leaves}
use Rattle.c65_gen_law_stack.proofs.Levels.{level_piece, Closed, closed_then, closed_behind, closed_as}
use Rattle.c65_gen_law_stack.proofs.ExprLevels.{shut, left_calls, right_calls, label_level, value_level, base_level, index_level}
use Rattle.c65_gen_law_stack.proofs.EvenForms.{value_even}
use Rattle.c65_gen_law_stack.proofs.EvenElements.{read_even, behind_even, waiting_even, held_even, value_waits_even, later_even}
use Rattle.c65_gen_law_stack.proofs.ChangeLevels.{fill_steady, steady_label, steady_close, steady_closed, change_level}

abbrev Lasting : List (List ℕ) → List Line → Type 0
Lasting cs a = (v : List ℕ) → Closed cs v a v

fixed_level : {cs : List (List ℕ)} {base : List Line} (change : Change) (label : ℕ) → Lasting cs base → Lasting cs (base ++ change_code change label)
fixed_level change label d v = closed_behind (d v) (change_level change label v)

closed_level : {cs : List (List ℕ)} {a : List Line} (label : ℕ) → Lasting cs a → Lasting cs (closed label a)
closed_level label d v = closed_behind (d v) (steady_closed (steady_close label refl (steady_label label)) v)

stepped_level : {cs : List (List ℕ)} {base whole : List Line} (form : Option Change) (label : ℕ) → Lasting cs base → Lasting cs whole → Lasting cs (stepped_by form label base whole)
stepped_level (Some change) label db dw = fixed_level change label db
stepped_level None label db dw = dw

computed_level : (place : Place) (access : Access) (kind : IntType) (form : Form) (label : ℕ) → Settled place access → Lasting [] (computed_code place access kind form label)
computed_level place access kind form label settled v =
    let put : Leaves v (store_code place access) v = subst (λ (u : List ℕ). Leaves u (store_code place access) v) (settled.waits v) (stored_leaves place access v) in
    closed_then (level_piece (load_still place access v) (load_piece place access).plain)
    (closed_then (level_piece (convert_still (type_in access) kind v) (convert_piece (type_in access) kind).plain)
    (closed_then (shut (value_even form label) v) (closed_then (level_piece (convert_still kind (type_in access) v) (convert_piece kind (type_in access)).plain) (level_piece put (store_piece place access).plain))))

changed_level : {cs ds : List (List ℕ)} {left right whole : List Line} (how : Changing) (place : Place) (access : Access) (kind : IntType) (label : ℕ) → Unneeded how place access (ds ≡ []) → Lasting cs left → Lasting ds right → Lasting (cs ++ ds) whole
    → Lasting (cs ++ ds) (changed_by how place access kind label left right whole)
changed_level {cs = cs} {ds = ds} (Computed form) place access kind label unneeded dl dr dw v = closed_as (left_calls cs ds unneeded.1.1) (closed_behind (dl v) (computed_level place access kind form label unneeded.0 v))
changed_level {cs = cs} {ds = ds} (Fixed change) place access kind label unneeded dl dr dw v = closed_as (left_calls cs ds unneeded.1) (fixed_level change label dl v)
changed_level (Loaded change) place access kind label unneeded dl dr dw v = closed_then (dl v) (closed_behind (dr v) (change_level change label v))
changed_level Otherwise place access kind label unneeded dl dr dw v = closed_level label dw v

filled_level : {cs : List (List ℕ)} {base whole : List Line} (ds : List (List ℕ)) (fill : Option Fill) → Unfilled fill (ds ≡ []) → Lasting cs base → Lasting (cs ++ ds) whole → Lasting (cs ++ ds) (filled_or fill base whole)
filled_level {cs = cs} ds (Some fill) unneeded db dw v =
    closed_as (left_calls cs ds unneeded) (closed_behind (db v) (steady_closed (fill_steady fill.byte fill.low fill.high) v))
filled_level ds None unneeded db dw v = dw v

set_level : {cs ds : List (List ℕ)} {left right whole : List Line} (how : Setting) (place : Place) → Unset how (ds ≡ []) → Lasting cs left → Lasting ds right → Lasting (cs ++ ds) whole → Lasting (cs ++ ds) (set_by how place left right whole)
set_level {cs = cs} {ds = ds} (settings.Number g n) place unset dl dr dw v =
    closed_as (left_calls cs ds unset) (closed_behind (dl v) (level_piece (number_still place g n v) (number_piece place g n).plain))
set_level (settings.Held g at) place unset dl dr dw v =
    closed_then (dl v) (closed_then (level_piece (keep_still v) keep_piece.plain) (closed_behind (dr v) (level_piece (behind_still ptr2 at g v) (behind_piece ptr2 at g).plain)))
set_level (settings.Loaded g) place unset dl dr dw v =
    closed_then (dl v) (closed_then (level_piece (hold_leaves place v) (hold_piece place).plain) (closed_behind (dr (holding place v)) (level_piece (set_leaves place g v) (set_piece place g).plain)))
set_level settings.Otherwise place unset dl dr dw v = dw v

field_level : (f : Framed) (pushed lo : ℕ) (a b : Typed) (whole : List Line) → Lasting (calls_of f a ++ calls_of f b) whole → Lasting (calls_of f a ++ calls_of f b) (set_code f pushed lo a b whole)
field_level f pushed lo a b whole dw =
    let place : Place = place_of f pushed a in
    let access : Access = access_of (types_of f.parts.types) a in
    let how : Setting = setting_of f pushed place access b in
    set_level how place (setting_unset _ f pushed place access b (λ n h. (number_idle f b n h).calls)) (base_level f pushed lo (base_for how) a) (value_level f (below_value how pushed place) (lo + uses None a) b) dw

step_level : (f : Framed) (pushed lo : ℕ) (t : QTy) (how : StepKind) (e : Typed) → Lasting (calls_of f e) (node_code f pushed lo Value t (step (in_front how) e)) → Lasting (calls_of f e) (step_effect f pushed lo how e)
step_level f pushed lo t how e whole =
    let place : Place = place_of f pushed e in
    stepped_level (stepping_of how (target_bytes f (bare e)) place (access_of (types_of f.parts.types) e)) lo (base_level f pushed (lo + 1) Pointer e) whole

op_level : (f : Framed) (pushed lo : ℕ) (op : BinaryOp) (operands : Operands) (size : ℕ) (a b : Typed) (whole : List Line) → Lasting (calls_of f a ++ calls_of f b) whole → Lasting (calls_of f a ++ calls_of f b) (changed_code f pushed lo op operands size a b whole)
op_level f pushed lo op operands size a b whole dw =
    let place : Place = place_of f pushed a in
    let access : Access = access_of (types_of f.parts.types) a in
    let how : Changing = changing_of op operands size place access b in
    let unneeded : Unneeded how place access (calls_of f b ≡ []) = changing_unneeded _ op operands size place access b (λ z h. (constant_idle f b z h).calls) in
    changed_level how place access (computes operands) lo unneeded (base_level f pushed (lo + 1) (changed_base how) a) (value_level f pushed (lo + 1 + uses None a) b) dw

-- an element takes the value
placed_level : {whole : List Line} (f : Framed) (pushed lo : ℕ) (how : Placing) (a b : Typed) → Placeable f how a b → Lasting (calls_of f a ++ calls_of f b) whole → Lasting (calls_of f a ++ calls_of f b) (placed_code f pushed lo how a b whole)
placed_level f pushed lo (placings.Read x low high) a b p dw v = closed_as (left_calls (calls_of f a) (calls_of f b) p.1.calls) (closed_behind (index_level f pushed lo a p.0.0 p.0.1 v) (shut (read_even x low high) v))
placed_level f pushed lo (placings.Behind x extent d) a b p dw v =
    closed_as (right_calls (calls_of f a) (calls_of f b) p.calls) (label_level lo (closed_behind (value_level f pushed (lo + 1) b v) (shut (behind_even x extent d) v)))
placed_level f pushed lo (placings.Held x extent) a b p dw v =
    closed_then (index_level f pushed lo a p.0 p.1 v) (closed_then (shut (waiting_even x) v) (closed_behind (value_level f pushed (lo + uses None a) b v) (shut (held_even x extent) v)))
placed_level f pushed lo (placings.Later x extent) a b p dw v =
    closed_as (none_of (calls_of f b) (calls_of f a) p.1.1 p.1.0 ∙ sym (none_of (calls_of f a) (calls_of f b) p.1.0 p.1.1))
    (closed_then (value_level f pushed lo b v) (closed_then (shut (value_waits_even extent) v) (closed_behind (index_level f pushed (lo + uses None b) a p.0.0 p.0.1 v) (shut (later_even x extent) v))))
placed_level f pushed lo placings.Otherwise a b p dw v = dw v

mutual
  pub effect_level : (f : Framed) (pushed lo : ℕ) (e : Typed) → Lasting (calls_of f e) (effect_code f pushed lo e)
  effect_level f pushed lo (node t n) = node_effect_level f pushed lo t n

  node_effect_level : (f : Framed) (pushed lo : ℕ) (t : QTy) (n : Node) → Lasting (node_calls f n) (node_effect f pushed lo t n)
  node_effect_level f pushed lo t (convert e) = effect_level f pushed lo e
  node_effect_level f pushed lo t (comma a b) = λ v. closed_then (effect_level f pushed lo a v) (effect_level f pushed (lo + effect_uses a) b v)
  node_effect_level f pushed lo t (assign a b) =
      let place : Place = place_of f pushed a in
      let access : Access = access_of (types_of f.parts.types) a in
      placed_level f pushed lo (placing_of f pushed a b) a b (placing_placeable f pushed a b)
      (filled_level (calls_of f b) (filling_of place access b) (filling_unneeded _ place access b (λ n h. (number_idle f b n h).calls)) (base_level f pushed lo Registers a) (field_level f pushed lo a b (node_code f pushed lo Value t (assign a b)) (value_level f pushed lo (node t (assign a b)))))
  node_effect_level f pushed lo t (assign_op op k a b) = op_level f pushed lo op (Numbers k) 1 a b (node_code f pushed (lo + 1) Value t (assign_op op k a b)) (value_level f pushed (lo + 1) (node t (assign_op op k a b)))
  node_effect_level f pushed lo t (assign_step op a b) = op_level f pushed lo op (PointerFirst (target_bytes f (bare a))) (target_bytes f (bare a)) a b (node_code f pushed (lo + 1) Value t (assign_step op a b)) (value_level f pushed (lo + 1) (node t (assign_step op a b)))
  node_effect_level f pushed lo t (step PreInc e) = step_level f pushed lo t PreInc e (value_level f pushed lo (node t (step PreInc e)))
  node_effect_level f pushed lo t (step PreDec e) = step_level f pushed lo t PreDec e (value_level f pushed lo (node t (step PreDec e)))
  node_effect_level f pushed lo t (step PostInc e) = step_level f pushed lo t PostInc e (value_level f pushed lo (node t (step PreInc e)))
  node_effect_level f pushed lo t (step PostDec e) = step_level f pushed lo t PostDec e (value_level f pushed lo (node t (step PreDec e)))
  node_effect_level f pushed lo t n = value_level f pushed lo (node t n)
