-- The lines of expressions whose value is not used are lines that the text can write.
use Rattle.std.proofs.Common.{ℕ, ℤ, ◌+◌, ◌<◌, ◌≤◌, ◌^◌, ◌==◌, Bool, true, false, Option, None, Some, List, ◌++◌, arith}
use Rattle.std.specs.Prelude.{◌&&◌, if◌then◌else◌, option_and_then}
use Rattle.c65_base.specs.declared.operators.BinaryOp.{BinaryOp}
use Rattle.c65_ctype.specs.Trees.{QTy}
use Rattle.c65_ctype.specs.Views.{types_of}
use Rattle.c65_csem.specs.Trees.{Typed, node, Node, convert, comma, assign, assign_op, assign_step, step, UnitTy}
use Rattle.c65_csem.specs.Typed.{IsTyped, IsNode}
use Rattle.c65_code.specs.declared.line.Line.{Line}
use Rattle.c65_genframe.specs.Frames.{Framed}
use Rattle.c65_genload.specs.declared.places.Place.{Place}
use Rattle.c65_genload.specs.declared.places.Place.TheVariants as places
use Rattle.c65_genload.specs.declared.places.Access.{Access}
use Rattle.c65_genload.specs.Numbers.{first, second}
use Rattle.c65_genexpr.specs.declared.destination.Destination.{Destination}
use Rattle.c65_genexpr.specs.declared.destination.Destination.TheVariants.{Registers, Pointer}
use Rattle.c65_genexpr.specs.declared.wanted.Wanted.TheVariants.{Value}
use Rattle.c65_genexpr.specs.Types.{bare, access_of, target_bytes}
use Rattle.c65_genexpr.specs.Places.{place_of}
use Rattle.c65_genexpr.specs.Steps.{amount_of}
use Rattle.c65_genexpr.specs.Uses.{uses}
use Rattle.c65_genexpr.specs.Code.{base_code}
use Rattle.c65_genchange.specs.declared.spots.Target.{Target}
use Rattle.c65_genchange.specs.declared.spots.Target.TheVariants.{Byte, Word}
use Rattle.c65_genchange.specs.declared.changes.Change.{Change}
use Rattle.c65_geneffect.specs.declared.changing.Changing.{Changing}
use Rattle.c65_geneffect.specs.declared.changing.Changing.TheVariants.{Fixed, Loaded, Computed, Otherwise}
use Rattle.c65_geneffect.specs.declared.changing.Fill.{Fill}
use Rattle.c65_genchange.specs.Spots.{target_of}
use Rattle.c65_genchange.specs.Changes.{change_code}
use Rattle.c65_ints.specs.declared.types.IntType.{IntType}
use Rattle.c65_genload.specs.declared.places.Access.TheVariants.{Whole, Part}
use Rattle.c65_genload.specs.Places.{type_in}
use Rattle.c65_genload.specs.Conversions.{convert_code}
use Rattle.c65_genload.specs.Loads.{load_code}
use Rattle.c65_genexpr.specs.declared.operands.Operands.{Operands}
use Rattle.c65_genexpr.specs.declared.operands.Operands.TheVariants.{Numbers, PointerFirst}
use Rattle.c65_genexpr.specs.declared.operating.Form.{Form}
use Rattle.c65_genexpr.specs.Operands.{computes, constant_in}
use Rattle.c65_genexpr.specs.Operating.{takes_bytes, constant_right, value_form}
use Rattle.c65_genexpr.specs.Direct.{is_pure}
use Rattle.c65_genexpr.specs.Code.{expr_code, index_code}
use Rattle.c65_genchange.specs.declared.changes.Change.TheVariants.{Operand}
use Rattle.c65_geneffect.specs.declared.placing.Placing.{Placing}
use Rattle.c65_geneffect.specs.declared.placing.Placing.TheVariants as placings
use Rattle.c65_geneffect.specs.Placing.{placing_of, waiting_code, value_waits_code}
use Rattle.c65_geneffect.specs.Changing.{in_front, stepping_of, loaded_by, fixed_or, computed_or, computed_by, changing_in, changing_of, number_in, fill_by, filling_at, filling_of}
use Rattle.c65_geneffect.specs.declared.setting.Setting.{Setting}
use Rattle.c65_geneffect.specs.declared.setting.Setting.TheVariants as settings
use Rattle.c65_geneffect.specs.Setting.{setting_of, below_value, base_for, set_by}
use Rattle.c65_genload.specs.Loads.{hold_code}
use Rattle.c65_genexpr.specs.Held.{keep_code}
use Rattle.c65_geneffect.specs.Effects.{closed, stepped_by, computed_code, changed_by, changed_base, filled_or, placed_code, set_code, changed_code, effect_code, node_effect, effect_uses, node_effect_uses}
use Rattle.c65_gen_law_lines.proofs.EffectFacts.{target_in, OfStep, OfChanging, OfFill, stepping_target, changing_target, filling_target}
use Rattle.c65_gen_law_lines.proofs.Placing.{Placeable, placing_placeable}
use Rattle.c65_asm_law.proofs.Well.{AllWell, well_append, well_more}
use Rattle.c65_asm_law.proofs.Loads.{WellPlace, convert_well, hold_well, load_well, store_well}
use Rattle.c65_asm_law.proofs.Forms.{WellForm, WellForms, constant_right_well, keep_well, value_well}
use Rattle.c65_asm_law.proofs.Fields.{number_well, behind_well, set_well}
use Rattle.c65_asm_law.proofs.Known.{Knows}
use Rattle.c65_asm_law.proofs.Places.{place_well}
use Rattle.c65_asm_law.proofs.Directs.{label_one}
use Rattle.c65_asm_law.proofs.Exprs.{expr_well, base_well, index_well}
use Rattle.c65_asm_law.proofs.Placing.{WellPlacing, placing_well, read_code_well, behind_code_well, waiting_code_well, held_code_well, value_waits_well, later_code_well}
use Rattle.c65_asm_law.proofs.Changes.{WellTarget, spot_well, change_well, fill_well}
use Rattle.c65_asm_law.proofs.Steps.{step_well}

fixed_well : (n : ℕ) (change : Change) (label : ℕ) (base : List Line) → WellTarget n (target_in change) → label < 2 ^ 32 → AllWell n base → AllWell n (base ++ change_code change label)
fixed_well n change label base h few w = well_append n base _ w (change_well n change label h few)

closed_well : (n label : ℕ) (lines : List Line) → label < 2 ^ 32 → AllWell n lines → AllWell n (closed label lines)
closed_well n label lines few w = well_append n lines _ w (label_one n label few)

stepped_well : (n : ℕ) (form : Option Change) (label : ℕ) (base whole : List Line) → OfStep (WellTarget n) form → label < 2 ^ 32 → AllWell n base → AllWell n whole → AllWell n (stepped_by form label base whole)
stepped_well n (Some change) label base whole h few wb ww = fixed_well n change label base h few wb
stepped_well n None label base whole h few wb ww = ww

-- the form by which a number is computed on
abbrev WellComputed : ℕ → Changing → Type 0
WellComputed n (Fixed change) = Unit {0}
WellComputed n (Loaded change) = Unit {0}
WellComputed n (Computed form) = WellForm n form
WellComputed n Otherwise = Unit {0}

loaded_if : (n : ℕ) (b : Bool) (op : BinaryOp) (target : Target) → WellComputed n (if b then Loaded (Operand op target) else Otherwise)
loaded_if n true op target = tt
loaded_if n false op target = tt

loaded_computed : (n : ℕ) (pure : Bool) (op : BinaryOp) (size : ℕ) (place : Place) (target : Target) → WellComputed n (loaded_by pure op size place target)
loaded_computed n pure op size (places.Far at) target = tt
loaded_computed n pure op size (places.Bank b) target = loaded_if n (pure && (size == 1)) op target
loaded_computed n pure op size (places.Near at) target = loaded_if n (pure && (size == 1)) op target
loaded_computed n pure op size (places.Data s at) target = loaded_if n (pure && (size == 1)) op target

fixed_computed : (n : ℕ) (op : BinaryOp) (size : ℕ) (target : Target) (z : Option ℤ) (other : Changing) → WellComputed n other → WellComputed n (fixed_or op size target z other)
fixed_computed n op size target None other h = h
fixed_computed n op size target (Some z) other h = tt

form_computed : (n : ℕ) (form : Option Form) → WellForms n form → WellComputed n (computed_or form)
form_computed n None h = tt
form_computed n (Some form) h = h

by_computed : (n : ℕ) (op : BinaryOp) (operands : Operands) (place : Place) (access : Access) (e : Typed) → WellComputed n (computed_by op operands place access e)
by_computed n op operands (places.Far at) access e = tt
by_computed n op operands (places.Bank b) (Part field) e = tt
by_computed n op operands (places.Near at) (Part field) e = tt
by_computed n op operands (places.Data s at) (Part field) e = tt
by_computed n op operands (places.Bank b) (Whole kind) e = form_computed n (constant_right op operands e) (constant_right_well n op operands e)
by_computed n op operands (places.Near at) (Whole kind) e = form_computed n (constant_right op operands e) (constant_right_well n op operands e)
by_computed n op operands (places.Data s at) (Whole kind) e = form_computed n (constant_right op operands e) (constant_right_well n op operands e)

in_computed : (n : ℕ) (op : BinaryOp) (operands : Operands) (size : ℕ) (place : Place) (access : Access) (e : Typed) (target : Option Target) → WellComputed n (changing_in op operands size place access e target)
in_computed n op operands size place access e None = by_computed n op operands place access e
in_computed n op operands size place access e (Some target) = fixed_computed n op size target (constant_in e) (loaded_by (is_pure e) op size place target) (loaded_computed n (is_pure e) op size place target)

computed_if : (n : ℕ) (b : Bool) (x y : Changing) → WellComputed n x → WellComputed n y → WellComputed n (if b then x else y)
computed_if n true x y h k = h
computed_if n false x y h k = k

changing_computed : (n : ℕ) (op : BinaryOp) (operands : Operands) (size : ℕ) (place : Place) (access : Access) (e : Typed) → WellComputed n (changing_of op operands size place access e)
changing_computed n op operands size place access e =
    computed_if n (takes_bytes op) (changing_in op operands size place access e (target_of place access)) (computed_by op operands place access e) (in_computed n op operands size place access e (target_of place access)) (by_computed n op operands place access e)

computed_well : (n : ℕ) (place : Place) (access : Access) (kind : IntType) (form : Form) (label : ℕ) → WellPlace n place → WellForm n form → label < 2 ^ 32 → AllWell n (computed_code place access kind form label)
computed_well n place access kind form label h k few =
    well_append n (load_code place access) _ (load_well n place access h) (well_append n (convert_code (type_in access) kind) _ (convert_well n (type_in access) kind)
    (well_append n (value_form form label) _ (value_well n form label k few) (well_append n (convert_code kind (type_in access)) _ (convert_well n kind (type_in access)) (store_well n place access h))))

changed_well : (n : ℕ) (how : Changing) (place : Place) (access : Access) (kind : IntType) (label : ℕ) (left right whole : List Line) → OfChanging (WellTarget n) how → WellComputed n how → WellPlace n place → label < 2 ^ 32 → AllWell n left → AllWell n right → AllWell n whole → AllWell n (changed_by how place access kind label left right whole)
changed_well n (Fixed change) place access kind label left right whole h k p few wl wr ww = fixed_well n change label left h few wl
changed_well n (Loaded change) place access kind label left right whole h k p few wl wr ww = well_append n left _ wl (well_append n right _ wr (change_well n change label h few))
changed_well n (Computed form) place access kind label left right whole h k p few wl wr ww = well_append n left _ wl (computed_well n place access kind form label p k few)
changed_well n Otherwise place access kind label left right whole h k p few wl wr ww = closed_well n label whole few ww

-- the byte of a fill is one
abbrev OneByte : Option Fill → Type 0
OneByte None = Unit {0}
OneByte (Some fill) = fill.byte < 2 ^ 8

fill_byte_if : (b : Bool) (fill : Fill) → fill.byte < 2 ^ 8 → OneByte (if b then Some fill else None)
fill_byte_if true fill few = few
fill_byte_if false fill few = tt

fill_byte : (m : ℕ) (t : Option Target) → OneByte (option_and_then (fill_by m) t)
fill_byte m None = tt
fill_byte m (Some (Byte low)) = tt
fill_byte m (Some (Word low high)) = fill_byte_if (first m == second m) (record { byte = first m; low = low; high = high }) (omega arith)

filled_byte : (place : Place) (access : Access) (m : Option ℕ) → OneByte (filling_at place access m)
filled_byte place access None = tt
filled_byte place access (Some m) = fill_byte m (target_of place access)

filling_byte : (place : Place) (access : Access) (e : Typed) → OneByte (filling_of place access e)
filling_byte (places.Far at) access e = tt
filling_byte (places.Bank b) access e = filled_byte (places.Bank b) access (number_in e)
filling_byte (places.Near at) access e = filled_byte (places.Near at) access (number_in e)
filling_byte (places.Data s at) access e = filled_byte (places.Data s at) access (number_in e)

filled_well : (n : ℕ) (fill : Option Fill) (base whole : List Line) → OneByte fill → OfFill (WellTarget n) fill → AllWell n base → AllWell n whole → AllWell n (filled_or fill base whole)
filled_well n (Some fill) base whole few h wb ww = well_append n base _ wb (fill_well n fill.byte fill.low fill.high few h.0 h.1)
filled_well n None base whole few h wb ww = ww

op_well : (n : ℕ) (u : UnitTy) (f : Framed) (pushed lo : ℕ) (op : BinaryOp) (operands : Operands) (size : ℕ) (a b : Typed) (whole : List Line) → Knows f u n → IsTyped u a → IsTyped u b → pushed < 2 ^ 16 → lo + (1 + (uses None a + uses None b)) ≤ 2 ^ 32 → AllWell n whole
    → AllWell n (changed_code f pushed lo op operands size a b whole)
op_well n u f pushed lo op operands size a b whole knows ta tb few room ww =
    let place : Place = place_of f pushed a in
    let access : Access = access_of (types_of f.parts.types) a in
    let how : Changing = changing_of op operands size place access b in
    let here : WellPlace n place = place_well n u f pushed a knows ta in
    changed_well n how place access (computes operands) lo _ _ whole (changing_target (WellTarget n) op operands size place access b (spot_well n place access here)) (changing_computed n op operands size place access b) here (omega (arith, room))
    (base_well n u f pushed (lo + 1) (changed_base how) a knows ta few (omega (arith, room))) (expr_well n u f pushed (lo + 1 + uses None a) Value b knows tb few tt (omega (arith, room))) ww

-- an element takes the value
placed_well : (n : ℕ) (u : UnitTy) (f : Framed) (pushed lo : ℕ) (how : Placing) (a b : Typed) (whole : List Line) → WellPlacing n how → Placeable f how a b → Knows f u n → IsTyped u a → IsTyped u b → pushed < 2 ^ 16 → lo + (uses None a + uses None b) ≤ 2 ^ 32 → AllWell n whole
    → AllWell n (placed_code f pushed lo how a b whole)
placed_well n u f pushed lo (placings.Read x low high) a b whole h p knows ta tb few room ww =
    well_append n (index_code f pushed lo a) _ (index_well n u f pushed lo a p.0.0 knows ta p.0.1 few (omega (arith, room))) (read_code_well n x low high h.0 h.1.0 h.1.1)
placed_well n u f pushed lo (placings.Behind x extent d) a b whole h p knows ta tb few room ww =
    well_more n _ _ (omega (arith, room, p.uses)) (well_append n (expr_code f pushed (lo + 1) Value b) _ (expr_well n u f pushed (lo + 1) Value b knows tb few tt (omega (arith, room, p.uses))) (behind_code_well n x extent d h.0 h.1))
placed_well n u f pushed lo (placings.Held x extent) a b whole h p knows ta tb few room ww =
    well_append n (index_code f pushed lo a) _ (index_well n u f pushed lo a p.0 knows ta p.1 few (omega (arith, room))) (well_append n (waiting_code x) _ (waiting_code_well n x)
    (well_append n (expr_code f pushed (lo + uses None a) Value b) _ (expr_well n u f pushed (lo + uses None a) Value b knows tb few tt (omega (arith, room))) (held_code_well n x extent h)))
placed_well n u f pushed lo (placings.Later x extent) a b whole h p knows ta tb few room ww =
    well_append n (expr_code f pushed lo Value b) _ (expr_well n u f pushed lo Value b knows tb few tt (omega (arith, room))) (well_append n (value_waits_code extent) _ (value_waits_well n extent)
    (well_append n (index_code f pushed (lo + uses None b) a) _ (index_well n u f pushed (lo + uses None b) a p.0.0 knows ta p.0.1 few (omega (arith, room))) (later_code_well n x extent h)))
placed_well n u f pushed lo placings.Otherwise a b whole h p knows ta tb few room ww = ww

set_by_well : (n : ℕ) (how : Setting) (place : Place) (left right whole : List Line) → WellPlace n place → AllWell n left → AllWell n right → AllWell n whole → AllWell n (set_by how place left right whole)
set_by_well n (settings.Number g m) place left right whole h wl wr ww = well_append n left _ wl (number_well n place g m h)
set_by_well n (settings.Held g at) place left right whole h wl wr ww = well_append n left _ wl (well_append n keep_code _ (keep_well n) (well_append n right _ wr (behind_well n at g)))
set_by_well n (settings.Loaded g) place left right whole h wl wr ww = well_append n left _ wl (well_append n (hold_code place) _ (hold_well n place) (well_append n right _ wr (set_well n place g h)))
set_by_well n settings.Otherwise place left right whole h wl wr ww = ww

below_few : (how : Setting) (pushed : ℕ) (place : Place) → pushed < 2 ^ 16 → below_value how pushed place < 2 ^ 16
below_few (settings.Loaded g) pushed place few = omega arith
below_few _ pushed place few = few

field_well : (n : ℕ) (u : UnitTy) (f : Framed) (pushed lo : ℕ) (a b : Typed) (whole : List Line) → Knows f u n → IsTyped u a → IsTyped u b → pushed < 2 ^ 16 → lo + (uses None a + uses None b) ≤ 2 ^ 32 → AllWell n whole
    → AllWell n (set_code f pushed lo a b whole)
field_well n u f pushed lo a b whole knows ta tb few room ww =
    let place : Place = place_of f pushed a in
    let how : Setting = setting_of f pushed place (access_of (types_of f.parts.types) a) b in
    set_by_well n how place _ _ whole (place_well n u f pushed a knows ta) (base_well n u f pushed lo (base_for how) a knows ta few (omega (arith, room)))
    (expr_well n u f (below_value how pushed place) (lo + uses None a) Value b knows tb (below_few how pushed place few) tt (omega (arith, room))) ww

mutual
  pub effect_well : (n : ℕ) (u : UnitTy) (f : Framed) (pushed lo : ℕ) (e : Typed) → Knows f u n → IsTyped u e → pushed < 2 ^ 16 → lo + effect_uses e ≤ 2 ^ 32 → AllWell n (effect_code f pushed lo e)
  effect_well n u f pushed lo (node t e) knows h few room = node_effect_well n u f pushed lo t e knows h few room

  node_effect_well : (n : ℕ) (u : UnitTy) (f : Framed) (pushed lo : ℕ) (t : QTy) (e : Node) → Knows f u n → IsNode u t e → pushed < 2 ^ 16 → lo + node_effect_uses t e ≤ 2 ^ 32 → AllWell n (node_effect f pushed lo t e)
  node_effect_well n u f pushed lo t (convert e) knows h few room = effect_well n u f pushed lo e knows h.0 few room
  node_effect_well n u f pushed lo t (comma a b) knows h few room =
      well_append n (effect_code f pushed lo a) _ (effect_well n u f pushed lo a knows h.0 few (omega (arith, room))) (effect_well n u f pushed (lo + effect_uses a) b knows h.1 few (omega (arith, room)))
  node_effect_well n u f pushed lo t (assign a b) knows h few room =
      let place : Place = place_of f pushed a in
      let access : Access = access_of (types_of f.parts.types) a in
      placed_well n u f pushed lo (placing_of f pushed a b) a b _ (placing_well n u f pushed a b knows h.0 h.1) (placing_placeable f pushed a b) knows h.0 h.1 few room
      (filled_well n (filling_of place access b) _ _ (filling_byte place access b) (filling_target (WellTarget n) place access b (spot_well n place access (place_well n u f pushed a knows h.0))) (base_well n u f pushed lo Registers a knows h.0 few (omega (arith, room)))
      (field_well n u f pushed lo a b _ knows h.0 h.1 few room (expr_well n u f pushed lo Value (node t (assign a b)) knows h few tt room)))
  node_effect_well n u f pushed lo t (assign_op op k a b) knows h few room =
      op_well n u f pushed lo op (Numbers k) 1 a b _ knows h.0 h.1 few room (expr_well n u f pushed (lo + 1) Value (node t (assign_op op k a b)) knows h few tt (omega (arith, room)))
  node_effect_well n u f pushed lo t (assign_step op a b) knows h few room =
      op_well n u f pushed lo op (PointerFirst (target_bytes f (bare a))) (target_bytes f (bare a)) a b _ knows h.0 h.1 few room (expr_well n u f pushed (lo + 1) Value (node t (assign_step op a b)) knows h few tt (omega (arith, room)))
  node_effect_well n u f pushed lo t (step how e) knows h few room =
      let place : Place = place_of f pushed e in
      let access : Access = access_of (types_of f.parts.types) e in
      let base : (d : Destination) → AllWell n (base_code f pushed (lo + 1) d e) = λ d. base_well n u f pushed (lo + 1) d e knows h.0 few (omega (arith, room)) in
      let here : WellPlace n place = place_well n u f pushed e knows h.0 in
      stepped_well n (stepping_of how (target_bytes f (bare e)) place access) lo _ _ (stepping_target (WellTarget n) how (target_bytes f (bare e)) place access (spot_well n place access here)) (omega (arith, room)) (base Pointer)
      (well_append n (base_code f pushed (lo + 1) Registers e) _ (base Registers) (step_well n (in_front how) (target_bytes f (bare e)) (amount_of f (in_front how) (bare e)) place access lo here (omega (arith, room))))
  node_effect_well n u f pushed lo t e knows h few room = expr_well n u f pushed lo Value (node t e) knows h few tt room
