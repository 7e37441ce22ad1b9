-- The lines of an expression whose value is not used that call functions are those of its calls.
use Rattle.std.proofs.Common.{◌≡◌, ℕ, ◌+◌, ℤ, Option, Some, None, true, List, [], ◌∷◌, ◌++◌, refl, sym, ◌∙◌}
use Rattle.c65_base.specs.declared.operators.BinaryOp.{BinaryOp}
use Rattle.c65_base.specs.declared.operators.StepKind.{StepKind}
use Rattle.c65_base.specs.declared.operators.StepKind.TheVariants.{PreInc, PreDec, PostInc, PostDec}
use Rattle.c65_ctype.specs.Trees.{QTy}
use Rattle.c65_ctype.specs.Views.{types_of}
use Rattle.c65_csem.specs.Trees.{Typed, node, Node, constant, null, convert, comma, assign, assign_op, assign_step, step}
use Rattle.c65_code.specs.declared.line.Line.{Line}
use Rattle.c65_code.specs.declared.line.Line.TheVariants.{Label}
use Rattle.c65_genframe.specs.Frames.{Framed}
use Rattle.c65_genload.specs.declared.places.Place.{Place}
use Rattle.c65_genload.specs.declared.places.Access.{Access}
use Rattle.c65_genexpr.specs.declared.destination.Destination.TheVariants.{Registers, Pointer}
use Rattle.c65_genexpr.specs.declared.wanted.Wanted.TheVariants.{Value}
use Rattle.c65_genexpr.specs.Types.{bare, access_of, target_bytes}
use Rattle.c65_genexpr.specs.Places.{place_of}
use Rattle.c65_genexpr.specs.Operands.{constant_in}
use Rattle.c65_genexpr.specs.Uses.{uses}
use Rattle.c65_genexpr.specs.Code.{node_code}
use Rattle.c65_genchange.specs.declared.changes.Change.{Change}
use Rattle.c65_geneffect.specs.declared.changing.Changing.{Changing}
use Rattle.c65_geneffect.specs.declared.changing.Changing.TheVariants.{Fixed, Loaded, Computed, Otherwise}
use Rattle.c65_geneffect.specs.declared.changing.Fill.{Fill}
use Rattle.c65_genchange.specs.Changes.{change_code}
use Rattle.c65_geneffect.specs.Changing.{in_front, stepping_of, changing_of, number_in, filling_of}
use Rattle.c65_geneffect.specs.declared.setting.Setting.{Setting}
use Rattle.c65_geneffect.specs.declared.setting.Setting.TheVariants as settings
use Rattle.c65_geneffect.specs.Setting.{setting_of, below_value, base_for, set_by}
use Rattle.c65_genexpr.specs.Held.{ptr2}
use Rattle.c65_ints.specs.declared.types.IntType.{IntType}
use Rattle.c65_genload.specs.Places.{type_in}
use Rattle.c65_genexpr.specs.declared.operands.Operands.{Operands}
use Rattle.c65_genexpr.specs.declared.operands.Operands.TheVariants.{Numbers, PointerFirst}
use Rattle.c65_genexpr.specs.declared.operating.Form.{Form}
use Rattle.c65_genexpr.specs.Operands.{computes}
use Rattle.c65_geneffect.specs.declared.placing.Placing.{Placing}
use Rattle.c65_geneffect.specs.declared.placing.Placing.TheVariants as placings
use Rattle.c65_geneffect.specs.Placing.{placing_of}
use Rattle.c65_geneffect.specs.Effects.{stepped_by, computed_code, changed_by, changed_base, filled_or, placed_code, set_code, changed_code, step_effect, effect_code, node_effect, effect_uses}
use Rattle.c65_gen_law_lines.proofs.EffectForms.{IsSound, change_quiet, fill_quiet}
use Rattle.c65_gen_law_lines.proofs.EffectFacts.{IsStep, stepping_sound, Unneeded, changing_unneeded, Unfilled, filling_unneeded, Unset, setting_unset}
use Rattle.c65_gen_law_lines.proofs.Elements.{none_of}
use Rattle.c65_gen_law_lines.proofs.Placing.{Placeable, placing_placeable}
use Rattle.c65_gen_law_lines.proofs.StackPieces.{hold_leaves, keep_still, load_still, convert_still, stored_leaves}
use Rattle.c65_gen_law_lines.proofs.FieldForms.{number_still, behind_still, set_leaves}
use Rattle.c65_gen_law_stack.proofs.EvenLines.{No}
use Rattle.c65_gen_law_stack.proofs.EvenForms.{value_even}
use Rattle.c65_gen_law_stack.proofs.EvenElements.{read_even, behind_even, waiting_even, held_even, value_waits_even, later_even}
use Rattle.c65_gen_law_calls.specs.Sites.{Site, sites_of, node_sites}
use Rattle.c65_gen_law_calls.proofs.Callings.{Free, free_leaves, free_append, Has, has_then, has_before, has_behind, has_line, has_as}
use Rattle.c65_gen_law_calls.proofs.SiteLaws.{calls_nothing}
use Rattle.c65_gen_law_calls.proofs.ExprSites.{left_sites, right_sites, even_free, base_has, index_has, has_expression}

constant_sites : (e : Typed) (z : ℤ) → constant_in e ≡ Some z → sites_of e ≡ []
constant_sites (node t (constant y)) z h = refl
constant_sites (node t _) z h = absurd cc

number_sites : (e : Typed) (n : ℕ) → number_in e ≡ Some n → sites_of e ≡ []
number_sites (node t (constant z)) n h = refl
number_sites (node t null) n h = refl
number_sites (node t _) n h = absurd cc

-- ---- lines that call nothing

change_free : (change : Change) (label : ℕ) → IsSound change → Free (change_code change label)
change_free change label sound = free_leaves ((change_quiet {ok = λ l. true} change label refl sound).still [])

computed_free : (place : Place) (access : Access) (kind : IntType) (form : Form) (label : ℕ) → Free (computed_code place access kind form label)
computed_free place access kind form label =
    free_append (free_leaves (load_still place access [])) (free_append (free_leaves (convert_still (type_in access) kind []))
    (free_append (even_free (value_even {X = No} form label)) (free_append (free_leaves (convert_still kind (type_in access) [])) (free_leaves (stored_leaves place access [])))))

label_free : (l : ℕ) → Free (Label l ∷ [])
label_free l = record { none = refl }

-- ---- the whole tree

fixed_has : {f : Framed} {ss : List Site} {base : List Line} (change : Change) (label : ℕ) → IsSound change → Has f ss base → Has f ss (base ++ change_code change label)
fixed_has change label sound d = has_behind d (change_free change label sound)

stepped_has : {f : Framed} {ss : List Site} {base whole : List Line} (form : Option Change) (label : ℕ) → IsStep form → Has f ss base → Has f ss whole → Has f ss (stepped_by form label base whole)
stepped_has (Some change) label sound db dw = fixed_has change label sound db
stepped_has None label sound db dw = dw

changed_has : {f : Framed} {ss ts : List Site} {left right whole : List Line} (how : Changing) (place : Place) (access : Access) (kind : IntType) (label : ℕ) → Unneeded how place access (ts ≡ []) → Has f ss left → Has f ts right → Has f (ss ++ ts) whole
    → Has f (ss ++ ts) (changed_by how place access kind label left right whole)
changed_has {ss = ss} {ts = ts} (Fixed change) place access kind label unneeded dl dr dw = has_as (left_sites ss ts unneeded.1) (fixed_has change label unneeded.0 dl)
changed_has (Loaded change) place access kind label unneeded dl dr dw = has_then dl (has_behind dr (change_free change label unneeded))
changed_has {ss = ss} {ts = ts} (Computed form) place access kind label unneeded dl dr dw = has_as (left_sites ss ts unneeded.1.1) (has_behind dl (computed_free place access kind form label))
changed_has Otherwise place access kind label unneeded dl dr dw = has_behind dw (label_free label)

filled_has : {f : Framed} {ss : List Site} {base whole : List Line} (ts : List Site) (fill : Option Fill) → Unfilled fill (ts ≡ []) → Has f ss base → Has f (ss ++ ts) whole → Has f (ss ++ ts) (filled_or fill base whole)
filled_has {ss = ss} ts (Some fill) unneeded db dw = has_as (left_sites ss ts unneeded) (has_behind db (free_leaves ((fill_quiet {ok = λ l. true} fill.byte fill.low fill.high).still [])))
filled_has ts None unneeded db dw = dw

set_has : {f : Framed} {ss ts : List Site} {left right whole : List Line} (how : Setting) (place : Place) → Unset how (ts ≡ []) → Has f ss left → Has f ts right → Has f (ss ++ ts) whole → Has f (ss ++ ts) (set_by how place left right whole)
set_has {ss = ss} {ts = ts} (settings.Number g n) place unset dl dr dw = has_as (left_sites ss ts unset) (has_behind dl (free_leaves (number_still place g n [])))
set_has (settings.Held g at) place unset dl dr dw = has_then dl (has_before (free_leaves (keep_still [])) (has_behind dr (free_leaves (behind_still ptr2 at g []))))
set_has (settings.Loaded g) place unset dl dr dw = has_then dl (has_before (free_leaves (hold_leaves place [])) (has_behind dr (free_leaves (set_leaves place g []))))
set_has settings.Otherwise place unset dl dr dw = dw

field_has : (f : Framed) (pushed lo : ℕ) (a b : Typed) (whole : List Line) → Has f (sites_of a ++ sites_of b) whole → Has f (sites_of a ++ sites_of b) (set_code f pushed lo a b whole)
field_has f pushed lo a b whole dw =
    let place : Place = place_of f pushed a in
    let access : Access = access_of (types_of f.parts.types) a in
    let how : Setting = setting_of f pushed place access b in
    set_has how place (setting_unset _ f pushed place access b (λ n h. number_sites b n h)) (base_has f pushed lo (base_for how) a) (has_expression f (below_value how pushed place) (lo + uses None a) Value b) dw

step_has : (f : Framed) (pushed lo : ℕ) (t : QTy) (how : StepKind) (e : Typed) → Has f (sites_of e) (node_code f pushed lo Value t (step (in_front how) e)) → Has f (sites_of e) (step_effect f pushed lo how e)
step_has f pushed lo t how e whole =
    let place : Place = place_of f pushed e in
    let access : Access = access_of (types_of f.parts.types) e in
    stepped_has (stepping_of how (target_bytes f (bare e)) place access) lo (stepping_sound how (target_bytes f (bare e)) place access) (base_has f pushed (lo + 1) Pointer e) whole

op_has : (f : Framed) (pushed lo : ℕ) (op : BinaryOp) (operands : Operands) (size : ℕ) (a b : Typed) (whole : List Line) → Has f (sites_of a ++ sites_of b) whole → Has f (sites_of a ++ sites_of b) (changed_code f pushed lo op operands size a b whole)
op_has f pushed lo op operands size a b whole dw =
    let place : Place = place_of f pushed a in
    let access : Access = access_of (types_of f.parts.types) a in
    let how : Changing = changing_of op operands size place access b in
    let unneeded : Unneeded how place access (sites_of b ≡ []) = changing_unneeded _ op operands size place access b (λ z h. constant_sites b z h) in
    changed_has how place access (computes operands) lo unneeded (base_has f pushed (lo + 1) (changed_base how) a) (has_expression f pushed (lo + 1 + uses None a) Value b) dw

-- an element takes the value
placed_has : {whole : List Line} (f : Framed) (pushed lo : ℕ) (how : Placing) (a b : Typed) → Placeable f how a b → Has f (sites_of a ++ sites_of b) whole → Has f (sites_of a ++ sites_of b) (placed_code f pushed lo how a b whole)
placed_has f pushed lo (placings.Read x low high) a b p dw = has_as (left_sites (sites_of a) (sites_of b) (calls_nothing f b p.1.calls)) (has_behind (index_has f pushed lo a p.0.0 p.0.1) (even_free (read_even {X = No} x low high)))
placed_has f pushed lo (placings.Behind x extent d) a b p dw =
    has_as (right_sites (sites_of a) (sites_of b) (calls_nothing f a p.calls)) (has_line (Label lo) refl (has_behind (has_expression f pushed (lo + 1) Value b) (even_free (behind_even {X = No} x extent d))))
placed_has f pushed lo (placings.Held x extent) a b p dw =
    has_then (index_has f pushed lo a p.0 p.1) (has_before (even_free (waiting_even {X = No} x)) (has_behind (has_expression f pushed (lo + uses None a) Value b) (even_free (held_even {X = No} x extent))))
placed_has f pushed lo (placings.Later x extent) a b p dw =
    let left : sites_of a ≡ [] = calls_nothing f a p.1.0 in
    let right : sites_of b ≡ [] = calls_nothing f b p.1.1 in
    has_as (none_of (sites_of b) (sites_of a) right left ∙ sym (none_of (sites_of a) (sites_of b) left right))
    (has_then (has_expression f pushed lo Value b) (has_before (even_free (value_waits_even {X = No} extent)) (has_behind (index_has f pushed (lo + uses None b) a p.0.0 p.0.1) (even_free (later_even {X = No} x extent)))))
placed_has f pushed lo placings.Otherwise a b p dw = dw

mutual
  pub effect_has : (f : Framed) (pushed lo : ℕ) (e : Typed) → Has f (sites_of e) (effect_code f pushed lo e)
  effect_has f pushed lo (node t n) = node_effect_has f pushed lo t n

  node_effect_has : (f : Framed) (pushed lo : ℕ) (t : QTy) (n : Node) → Has f (node_sites t n) (node_effect f pushed lo t n)
  node_effect_has f pushed lo t (convert e) = effect_has f pushed lo e
  node_effect_has f pushed lo t (comma a b) = has_then (effect_has f pushed lo a) (effect_has f pushed (lo + effect_uses a) b)
  node_effect_has f pushed lo t (assign a b) =
      let place : Place = place_of f pushed a in
      let access : Access = access_of (types_of f.parts.types) a in
      placed_has f pushed lo (placing_of f pushed a b) a b (placing_placeable f pushed a b)
      (filled_has (sites_of b) (filling_of place access b) (filling_unneeded _ place access b (λ n h. number_sites b n h)) (base_has f pushed lo Registers a) (field_has f pushed lo a b (node_code f pushed lo Value t (assign a b)) (has_expression f pushed lo Value (node t (assign a b)))))
  node_effect_has f pushed lo t (assign_op op k a b) = op_has f pushed lo op (Numbers k) 1 a b (node_code f pushed (lo + 1) Value t (assign_op op k a b)) (has_expression f pushed (lo + 1) Value (node t (assign_op op k a b)))
  node_effect_has f pushed lo t (assign_step op a b) = op_has f pushed lo op (PointerFirst (target_bytes f (bare a))) (target_bytes f (bare a)) a b (node_code f pushed (lo + 1) Value t (assign_step op a b)) (has_expression f pushed (lo + 1) Value (node t (assign_step op a b)))
  node_effect_has f pushed lo t (step PreInc e) = step_has f pushed lo t PreInc e (has_expression f pushed lo Value (node t (step PreInc e)))
  node_effect_has f pushed lo t (step PreDec e) = step_has f pushed lo t PreDec e (has_expression f pushed lo Value (node t (step PreDec e)))
  node_effect_has f pushed lo t (step PostInc e) = step_has f pushed lo t PostInc e (has_expression f pushed lo Value (node t (step PreInc e)))
  node_effect_has f pushed lo t (step PostDec e) = step_has f pushed lo t PostDec e (has_expression f pushed lo Value (node t (step PreDec e)))
  node_effect_has f pushed lo t n = has_expression f pushed lo Value (node t n)
