-- The symbols of the lines of an expression whose value is not used.
use Rattle.std.proofs.Common.{ℕ, ℤ, ◌+◌, ◌==◌, Bool, true, false, Option, None, Some, List, ◌++◌}
use Rattle.std.specs.Prelude.{◌&&◌, if◌then◌else◌}
use Rattle.c65_base.specs.declared.operators.BinaryOp.{BinaryOp}
use Rattle.c65_ctype.specs.Trees.{QTy}
use Rattle.c65_ctype.specs.Views.{types_of}
use Rattle.c65_csem.specs.Trees.{Typed, node, Node, convert, comma, assign, assign_op, assign_step, step}
use Rattle.c65_code.specs.declared.line.Line.{Line}
use Rattle.c65_genframe.specs.Frames.{Framed}
use Rattle.c65_genload.specs.declared.places.Place.{Place}
use Rattle.c65_genload.specs.declared.places.Access.{Access}
use Rattle.c65_genexpr.specs.declared.destination.Destination.{Destination}
use Rattle.c65_genexpr.specs.declared.destination.Destination.TheVariants.{Registers, Pointer}
use Rattle.c65_genexpr.specs.declared.wanted.Wanted.TheVariants.{Value}
use Rattle.c65_genexpr.specs.Types.{bare, access_of, target_bytes}
use Rattle.c65_genexpr.specs.Places.{place_of}
use Rattle.c65_genexpr.specs.Steps.{amount_of}
use Rattle.c65_genexpr.specs.Uses.{uses}
use Rattle.c65_genexpr.specs.Code.{base_code}
use Rattle.c65_genchange.specs.declared.changes.Change.{Change}
use Rattle.c65_geneffect.specs.declared.changing.Changing.{Changing}
use Rattle.c65_geneffect.specs.declared.changing.Changing.TheVariants.{Fixed, Loaded, Computed, Otherwise}
use Rattle.c65_geneffect.specs.declared.changing.Fill.{Fill}
use Rattle.c65_genchange.specs.Changes.{change_code}
use Rattle.c65_ints.specs.declared.types.IntType.{IntType}
use Rattle.c65_genload.specs.declared.places.Place.TheVariants as places
use Rattle.c65_genload.specs.declared.places.Access.TheVariants.{Whole, Part}
use Rattle.c65_genload.specs.Places.{type_in}
use Rattle.c65_genexpr.specs.declared.operands.Operands.{Operands}
use Rattle.c65_genexpr.specs.declared.operands.Operands.TheVariants.{Numbers, PointerFirst}
use Rattle.c65_genexpr.specs.declared.operating.Form.{Form}
use Rattle.c65_genexpr.specs.Operands.{computes, constant_in}
use Rattle.c65_genexpr.specs.Operating.{takes_bytes, constant_right}
use Rattle.c65_genexpr.specs.Direct.{is_pure}
use Rattle.c65_genchange.specs.declared.spots.Target.{Target}
use Rattle.c65_genchange.specs.declared.changes.Change.TheVariants.{Operand}
use Rattle.c65_genchange.specs.Spots.{target_of}
use Rattle.c65_geneffect.specs.declared.placing.Placing.{Placing}
use Rattle.c65_geneffect.specs.declared.placing.Placing.TheVariants as placings
use Rattle.c65_geneffect.specs.Placing.{placing_of}
use Rattle.c65_geneffect.specs.Changing.{in_front, stepping_of, loaded_by, fixed_or, computed_or, computed_by, changing_in, changing_of, filling_of}
use Rattle.c65_geneffect.specs.declared.setting.Setting.{Setting}
use Rattle.c65_geneffect.specs.declared.setting.Setting.TheVariants as settings
use Rattle.c65_geneffect.specs.Setting.{setting_of, below_value, base_for, set_by}
use Rattle.c65_genexpr.specs.Held.{keep_code}
use Rattle.c65_geneffect.specs.Effects.{closed, stepped_by, computed_code, changed_by, changed_base, filled_or, placed_code, set_code, changed_code, effect_code, node_effect, effect_uses}
use Rattle.c65_gen_law_lines.proofs.EffectFacts.{target_in, OfStep, OfChanging, OfFill, stepping_target, changing_target, filling_target}
use Rattle.c65_gen_law_names.specs.Trees.{KnownNode, KnownTree}
use Rattle.c65_gen_law_names.proofs.Known.{AllKnown, known_more, known_then}
use Rattle.c65_gen_law_names.proofs.Loads.{KnownPlace, convert_known, hold_known, load_known, store_known}
use Rattle.c65_gen_law_names.proofs.Places.{place_known}
use Rattle.c65_gen_law_names.proofs.Directs.{label_one}
use Rattle.c65_gen_law_names.proofs.Forms.{KnownForm, KnownForms, constant_right_known, keep_known, value_known}
use Rattle.c65_gen_law_names.proofs.Changes.{KnownTarget, change_known, fill_known, spot_known}
use Rattle.c65_gen_law_names.proofs.Fields.{behind_known, number_known, set_known}
use Rattle.c65_gen_law_names.proofs.Steps.{step_known}
use Rattle.c65_gen_law_names.proofs.Exprs.{base_known, expr_known, index_known}
use Rattle.c65_gen_law_names.proofs.Placing.{KnownPlacing, placing_known, read_code_known, behind_code_known, waiting_code_known, held_code_known, value_waits_known, later_code_known}

fixed_known : (P : ℕ → Type 0) (change : Change) (label : ℕ) (base : List Line) → KnownTarget P (target_in change) → AllKnown P base → AllKnown P (base ++ change_code change label)
fixed_known P change label base h w = known_then w (change_known P change label h)

closed_known : (P : ℕ → Type 0) (label : ℕ) (lines : List Line) → AllKnown P lines → AllKnown P (closed label lines)
closed_known P label lines w = known_then w (label_one P label)

stepped_known : (P : ℕ → Type 0) (form : Option Change) (label : ℕ) (base whole : List Line) → OfStep (KnownTarget P) form → AllKnown P base → AllKnown P whole → AllKnown P (stepped_by form label base whole)
stepped_known P (Some change) label base whole h wb ww = fixed_known P change label base h wb
stepped_known P None label base whole h wb ww = ww

-- the form by which a number is computed on
abbrev KnownComputed : (ℕ → Type 0) → Changing → Type 0
KnownComputed P (Fixed change) = Unit {0}
KnownComputed P (Loaded change) = Unit {0}
KnownComputed P (Computed form) = KnownForm P form
KnownComputed P Otherwise = Unit {0}

loaded_if : (P : ℕ → Type 0) (b : Bool) (op : BinaryOp) (target : Target) → KnownComputed P (if b then Loaded (Operand op target) else Otherwise)
loaded_if P true op target = tt
loaded_if P false op target = tt

loaded_computed : (P : ℕ → Type 0) (pure : Bool) (op : BinaryOp) (size : ℕ) (place : Place) (target : Target) → KnownComputed P (loaded_by pure op size place target)
loaded_computed P pure op size (places.Far at) target = tt
loaded_computed P pure op size (places.Bank b) target = loaded_if P (pure && (size == 1)) op target
loaded_computed P pure op size (places.Near at) target = loaded_if P (pure && (size == 1)) op target
loaded_computed P pure op size (places.Data s at) target = loaded_if P (pure && (size == 1)) op target

fixed_computed : (P : ℕ → Type 0) (op : BinaryOp) (size : ℕ) (target : Target) (z : Option ℤ) (other : Changing) → KnownComputed P other → KnownComputed P (fixed_or op size target z other)
fixed_computed P op size target None other h = h
fixed_computed P op size target (Some z) other h = tt

form_computed : (P : ℕ → Type 0) (form : Option Form) → KnownForms P form → KnownComputed P (computed_or form)
form_computed P None h = tt
form_computed P (Some form) h = h

by_computed : (P : ℕ → Type 0) (op : BinaryOp) (operands : Operands) (place : Place) (access : Access) (e : Typed) → KnownComputed P (computed_by op operands place access e)
by_computed P op operands (places.Far at) access e = tt
by_computed P op operands (places.Bank b) (Part field) e = tt
by_computed P op operands (places.Near at) (Part field) e = tt
by_computed P op operands (places.Data s at) (Part field) e = tt
by_computed P op operands (places.Bank b) (Whole kind) e = form_computed P (constant_right op operands e) (constant_right_known P op operands e)
by_computed P op operands (places.Near at) (Whole kind) e = form_computed P (constant_right op operands e) (constant_right_known P op operands e)
by_computed P op operands (places.Data s at) (Whole kind) e = form_computed P (constant_right op operands e) (constant_right_known P op operands e)

in_computed : (P : ℕ → Type 0) (op : BinaryOp) (operands : Operands) (size : ℕ) (place : Place) (access : Access) (e : Typed) (target : Option Target) → KnownComputed P (changing_in op operands size place access e target)
in_computed P op operands size place access e None = by_computed P op operands place access e
in_computed P op operands size place access e (Some target) = fixed_computed P op size target (constant_in e) (loaded_by (is_pure e) op size place target) (loaded_computed P (is_pure e) op size place target)

computed_if : (P : ℕ → Type 0) (b : Bool) (x y : Changing) → KnownComputed P x → KnownComputed P y → KnownComputed P (if b then x else y)
computed_if P true x y h k = h
computed_if P false x y h k = k

changing_computed : (P : ℕ → Type 0) (op : BinaryOp) (operands : Operands) (size : ℕ) (place : Place) (access : Access) (e : Typed) → KnownComputed P (changing_of op operands size place access e)
changing_computed P op operands size place access e =
    computed_if P (takes_bytes op) (changing_in op operands size place access e (target_of place access)) (computed_by op operands place access e) (in_computed P op operands size place access e (target_of place access)) (by_computed P op operands place access e)

computed_known : (P : ℕ → Type 0) (place : Place) (access : Access) (kind : IntType) (form : Form) (label : ℕ) → KnownPlace P place → KnownForm P form → AllKnown P (computed_code place access kind form label)
computed_known P place access kind form label h k =
    known_then (load_known P place access h) (known_then (convert_known P (type_in access) kind) (known_then (value_known P form label k) (known_then (convert_known P kind (type_in access)) (store_known P place access h))))

changed_known : (P : ℕ → Type 0) (how : Changing) (place : Place) (access : Access) (kind : IntType) (label : ℕ) (left right whole : List Line) → OfChanging (KnownTarget P) how → KnownComputed P how → KnownPlace P place → AllKnown P left → AllKnown P right → AllKnown P whole → AllKnown P (changed_by how place access kind label left right whole)
changed_known P (Fixed change) place access kind label left right whole h k p wl wr ww = fixed_known P change label left h wl
changed_known P (Loaded change) place access kind label left right whole h k p wl wr ww = known_then wl (known_then wr (change_known P change label h))
changed_known P (Computed form) place access kind label left right whole h k p wl wr ww = known_then wl (computed_known P place access kind form label p k)
changed_known P Otherwise place access kind label left right whole h k p wl wr ww = closed_known P label whole ww

filled_known : (P : ℕ → Type 0) (fill : Option Fill) (base whole : List Line) → OfFill (KnownTarget P) fill → AllKnown P base → AllKnown P whole → AllKnown P (filled_or fill base whole)
filled_known P (Some fill) base whole h wb ww = known_then wb (fill_known P fill.byte fill.low fill.high h.0 h.1)
filled_known P None base whole h wb ww = ww

op_known : (P : ℕ → Type 0) (f : Framed) (pushed lo : ℕ) (op : BinaryOp) (operands : Operands) (size : ℕ) (a b : Typed) (whole : List Line) → KnownTree P f a → KnownTree P f b → AllKnown P whole → AllKnown P (changed_code f pushed lo op operands size a b whole)
op_known P f pushed lo op operands size a b whole ta tb ww =
    let place : Place = place_of f pushed a in
    let access : Access = access_of (types_of f.parts.types) a in
    let how : Changing = changing_of op operands size place access b in
    let here : KnownPlace P place = place_known P f pushed a ta in
    changed_known P how place access (computes operands) lo _ _ whole (changing_target (KnownTarget P) op operands size place access b (spot_known P place access here)) (changing_computed P op operands size place access b) here
    (base_known P f pushed (lo + 1) (changed_base how) a ta) (expr_known P f pushed (lo + 1 + uses None a) Value b tb) ww

-- an element takes the value
placed_known : (P : ℕ → Type 0) (f : Framed) (pushed lo : ℕ) (how : Placing) (a b : Typed) (whole : List Line) → KnownPlacing P how → KnownTree P f a → KnownTree P f b → AllKnown P whole → AllKnown P (placed_code f pushed lo how a b whole)
placed_known P f pushed lo (placings.Read x low high) a b whole h ta tb ww = known_then (index_known P f pushed lo a ta) (read_code_known P x low high h.0 h.1.0 h.1.1)
placed_known P f pushed lo (placings.Behind x extent d) a b whole h ta tb ww = known_more tt (known_then (expr_known P f pushed (lo + 1) Value b tb) (behind_code_known P x extent d h.0 h.1))
placed_known P f pushed lo (placings.Held x extent) a b whole h ta tb ww =
    known_then (index_known P f pushed lo a ta) (known_then (waiting_code_known P x) (known_then (expr_known P f pushed (lo + uses None a) Value b tb) (held_code_known P x extent h)))
placed_known P f pushed lo (placings.Later x extent) a b whole h ta tb ww =
    known_then (expr_known P f pushed lo Value b tb) (known_then (value_waits_known P extent) (known_then (index_known P f pushed (lo + uses None b) a ta) (later_code_known P x extent h)))
placed_known P f pushed lo placings.Otherwise a b whole h ta tb ww = ww

set_by_known : (P : ℕ → Type 0) (how : Setting) (place : Place) (left right whole : List Line) → KnownPlace P place → AllKnown P left → AllKnown P right → AllKnown P whole → AllKnown P (set_by how place left right whole)
set_by_known P (settings.Number g m) place left right whole h wl wr ww = known_then wl (number_known P place g m h)
set_by_known P (settings.Held g at) place left right whole h wl wr ww = known_then wl (known_then {a = keep_code} (keep_known P) (known_then wr (behind_known P at g)))
set_by_known P (settings.Loaded g) place left right whole h wl wr ww = known_then wl (known_then (hold_known P place) (known_then wr (set_known P place g h)))
set_by_known P settings.Otherwise place left right whole h wl wr ww = ww

field_known : (P : ℕ → Type 0) (f : Framed) (pushed lo : ℕ) (a b : Typed) (whole : List Line) → KnownTree P f a → KnownTree P f b → AllKnown P whole → AllKnown P (set_code f pushed lo a b whole)
field_known P f pushed lo a b whole ta tb ww =
    let place : Place = place_of f pushed a in
    let how : Setting = setting_of f pushed place (access_of (types_of f.parts.types) a) b in
    set_by_known P how place _ _ whole (place_known P f pushed a ta) (base_known P f pushed lo (base_for how) a ta)
    (expr_known P f (below_value how pushed place) (lo + uses None a) Value b tb) ww

mutual
  pub effect_known : (P : ℕ → Type 0) (f : Framed) (pushed lo : ℕ) (e : Typed) → KnownTree P f e → AllKnown P (effect_code f pushed lo e)
  effect_known P f pushed lo (node t n) h = node_effect_known P f pushed lo t n h

  node_effect_known : (P : ℕ → Type 0) (f : Framed) (pushed lo : ℕ) (t : QTy) (n : Node) → KnownNode P f n → AllKnown P (node_effect f pushed lo t n)
  node_effect_known P f pushed lo t (convert e) h = effect_known P f pushed lo e h
  node_effect_known P f pushed lo t (comma a b) h = known_then (effect_known P f pushed lo a h.0) (effect_known P f pushed (lo + effect_uses a) b h.1)
  node_effect_known P f pushed lo t (assign a b) h =
      let place : Place = place_of f pushed a in
      let access : Access = access_of (types_of f.parts.types) a in
      placed_known P f pushed lo (placing_of f pushed a b) a b _ (placing_known P f pushed a b h.0 h.1) h.0 h.1
      (filled_known P (filling_of place access b) _ _ (filling_target (KnownTarget P) place access b (spot_known P place access (place_known P f pushed a h.0))) (base_known P f pushed lo Registers a h.0)
      (field_known P f pushed lo a b _ h.0 h.1 (expr_known P f pushed lo Value (node t (assign a b)) h)))
  node_effect_known P f pushed lo t (assign_op op k a b) h = op_known P f pushed lo op (Numbers k) 1 a b _ h.0 h.1 (expr_known P f pushed (lo + 1) Value (node t (assign_op op k a b)) h)
  node_effect_known P f pushed lo t (assign_step op a b) h = op_known P f pushed lo op (PointerFirst (target_bytes f (bare a))) (target_bytes f (bare a)) a b _ h.0 h.1 (expr_known P f pushed (lo + 1) Value (node t (assign_step op a b)) h)
  node_effect_known P f pushed lo t (step how e) h =
      let place : Place = place_of f pushed e in
      let access : Access = access_of (types_of f.parts.types) e in
      let base : (d : Destination) → AllKnown P (base_code f pushed (lo + 1) d e) = λ d. base_known P f pushed (lo + 1) d e h in
      let here : KnownPlace P place = place_known P f pushed e h in
      stepped_known P (stepping_of how (target_bytes f (bare e)) place access) lo _ _ (stepping_target (KnownTarget P) how (target_bytes f (bare e)) place access (spot_known P place access here)) (base Pointer)
      (known_then (base Registers) (step_known P (in_front how) (target_bytes f (bare e)) (amount_of f (in_front how) (bare e)) place access lo here))
  node_effect_known P f pushed lo t n h = expr_known P f pushed lo Value (node t n) h
