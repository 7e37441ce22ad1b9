-- The lines of expressions whose value is not used write nothing of regbank, where no object has its home there.
use Rattle.std.proofs.Common.{ℕ, ◌+◌, Option, Some, None, List, ◌++◌}
use Rattle.c65_base.specs.declared.operators.BinaryOp.{BinaryOp}
use Rattle.c65_base.specs.declared.operators.StepKind.{StepKind}
use Rattle.c65_base.specs.declared.operators.StepKind.TheVariants.{PreInc, PreDec, PostInc, PostDec}
use Rattle.c65_ctype.specs.Trees.{QTy}
use Rattle.c65_ctype.specs.Views.{types_of}
use Rattle.c65_csem.specs.Trees.{Typed, node, Node, convert, comma, assign, assign_op, assign_step, step}
use Rattle.c65_code.specs.declared.line.Line.{Line}
use Rattle.c65_genframe.specs.Frames.{Framed}
use Rattle.c65_genload.specs.declared.places.Place.{Place}
use Rattle.c65_genload.specs.declared.places.Access.{Access}
use Rattle.c65_genexpr.specs.declared.destination.Destination.TheVariants.{Registers, Pointer}
use Rattle.c65_genexpr.specs.declared.wanted.Wanted.TheVariants.{Value}
use Rattle.c65_genexpr.specs.Types.{bare, access_of, target_bytes}
use Rattle.c65_genexpr.specs.Places.{place_of}
use Rattle.c65_genexpr.specs.Uses.{uses}
use Rattle.c65_genexpr.specs.Code.{node_code}
use Rattle.c65_genchange.specs.declared.changes.Change.{Change}
use Rattle.c65_geneffect.specs.declared.changing.Changing.{Changing}
use Rattle.c65_geneffect.specs.declared.changing.Changing.TheVariants.{Fixed, Loaded, Computed, Otherwise}
use Rattle.c65_geneffect.specs.declared.changing.Fill.{Fill}
use Rattle.c65_genchange.specs.Changes.{change_code}
use Rattle.c65_geneffect.specs.Changing.{in_front, stepping_of, changing_of, filling_of}
use Rattle.c65_geneffect.specs.declared.setting.Setting.{Setting}
use Rattle.c65_ints.specs.declared.types.IntType.{IntType}
use Rattle.c65_genload.specs.Places.{type_in}
use Rattle.c65_genexpr.specs.declared.operands.Operands.{Operands}
use Rattle.c65_genexpr.specs.declared.operands.Operands.TheVariants.{Numbers, PointerFirst}
use Rattle.c65_genexpr.specs.declared.operating.Form.{Form}
use Rattle.c65_genexpr.specs.Operands.{computes}
use Rattle.c65_geneffect.specs.declared.placing.Placing.{Placing}
use Rattle.c65_geneffect.specs.declared.placing.Placing.TheVariants as placings
use Rattle.c65_geneffect.specs.Placing.{placing_of}
use Rattle.c65_geneffect.specs.declared.setting.Setting.TheVariants as settings
use Rattle.c65_geneffect.specs.Setting.{setting_of, below_value, base_for, set_by}
use Rattle.c65_geneffect.specs.Effects.{stepped_by, computed_code, changed_by, changed_base, filled_or, placed_code, set_code, changed_code, step_effect, effect_code, node_effect, effect_uses}
use Rattle.c65_gen_law_lines.proofs.EffectFacts.{target_in, OfStep, OfChanging, OfFill, stepping_target, changing_target, filling_target}
use Rattle.c65_gen_law_stack.proofs.BankPieces.{Clear, label_clear, clear_then, IsOff, hold_clear, load_clear, convert_clear, store_clear}
use Rattle.c65_gen_law_stack.proofs.EvenLines.{No}
use Rattle.c65_gen_law_stack.proofs.EvenForms.{keep_even, value_even}
use Rattle.c65_gen_law_stack.proofs.EvenElements.{read_even, behind_even, waiting_even, held_even, value_waits_even, later_even}
use Rattle.c65_gen_law_stack.proofs.FieldClears.{number_clear, behind_clear, set_clear}
use Rattle.c65_gen_law_stack.proofs.BankExprs.{IsBankless, place_off, expr_clear, base_clear, index_clear}
use Rattle.c65_gen_law_stack.proofs.ChangeClears.{IsOffTarget, change_clear, fill_clear, target_off}

fixed_clear : {base : List Line} (change : Change) (label : ℕ) → IsOffTarget (target_in change) → Clear base → Clear (base ++ change_code change label)
fixed_clear change label off c = clear_then c (change_clear change label off)

stepped_clear : {base whole : List Line} (form : Option Change) (label : ℕ) → OfStep IsOffTarget form → Clear base → Clear whole → Clear (stepped_by form label base whole)
stepped_clear (Some change) label off cb cw = fixed_clear change label off cb
stepped_clear None label off cb cw = cw

computed_clear : (place : Place) (access : Access) (kind : IntType) (form : Form) (label : ℕ) → IsOff place → Clear (computed_code place access kind form label)
computed_clear place access kind form label off =
    clear_then (load_clear place access) (clear_then (convert_clear (type_in access) kind) (clear_then (value_even {X = No} form label).clear (clear_then (convert_clear kind (type_in access)) (store_clear place access off))))

changed_clear : {left right whole : List Line} (how : Changing) (place : Place) (access : Access) (kind : IntType) (label : ℕ) → IsOff place → OfChanging IsOffTarget how → Clear left → Clear right → Clear whole → Clear (changed_by how place access kind label left right whole)
changed_clear (Computed form) place access kind label there off cl cr cw = clear_then cl (computed_clear place access kind form label there)
changed_clear (Fixed change) place access kind label there off cl cr cw = fixed_clear change label off cl
changed_clear (Loaded change) place access kind label there off cl cr cw = clear_then cl (clear_then cr (change_clear change label off))
changed_clear Otherwise place access kind label there off cl cr cw = clear_then cw (label_clear label)

filled_clear : {base whole : List Line} (fill : Option Fill) → OfFill IsOffTarget fill → Clear base → Clear whole → Clear (filled_or fill base whole)
filled_clear (Some fill) off cb cw = clear_then cb (fill_clear fill.byte fill.low fill.high off.0 off.1)
filled_clear None off cb cw = cw

set_by_clear : {left right whole : List Line} (how : Setting) (place : Place) → IsOff place → Clear left → Clear right → Clear whole → Clear (set_by how place left right whole)
set_by_clear (settings.Number g n) place off cl cr cw = clear_then cl (number_clear place g n off)
set_by_clear (settings.Held g at) place off cl cr cw = clear_then cl (clear_then (keep_even {X = No}).clear (clear_then cr (behind_clear at g)))
set_by_clear (settings.Loaded g) place off cl cr cw = clear_then cl (clear_then (hold_clear place) (clear_then cr (set_clear place g off)))
set_by_clear settings.Otherwise place off cl cr cw = cw

field_clear : (f : Framed) (pushed lo : ℕ) (a b : Typed) (whole : List Line) → IsBankless f → Clear whole → Clear (set_code f pushed lo a b whole)
field_clear f pushed lo a b whole k cw =
    let place : Place = place_of f pushed a in
    let how : Setting = setting_of f pushed place (access_of (types_of f.parts.types) a) b in
    set_by_clear how place (place_off f pushed a k) (base_clear f pushed lo (base_for how) a k) (expr_clear f (below_value how pushed place) (lo + uses None a) Value b k) cw

step_clear : (f : Framed) (pushed lo : ℕ) (t : QTy) (how : StepKind) (e : Typed) → IsBankless f → Clear (node_code f pushed lo Value t (step (in_front how) e)) → Clear (step_effect f pushed lo how e)
step_clear f pushed lo t how e k whole =
    let place : Place = place_of f pushed e in
    let access : Access = access_of (types_of f.parts.types) e in
    stepped_clear (stepping_of how (target_bytes f (bare e)) place access) lo (stepping_target IsOffTarget how (target_bytes f (bare e)) place access (target_off place access (place_off f pushed e k))) (base_clear f pushed (lo + 1) Pointer e k) whole

op_clear : (f : Framed) (pushed lo : ℕ) (op : BinaryOp) (operands : Operands) (size : ℕ) (a b : Typed) (whole : List Line) → IsBankless f → Clear whole → Clear (changed_code f pushed lo op operands size a b whole)
op_clear f pushed lo op operands size a b whole k cw =
    let place : Place = place_of f pushed a in
    let access : Access = access_of (types_of f.parts.types) a in
    let how : Changing = changing_of op operands size place access b in
    let off : IsOff place = place_off f pushed a k in
    changed_clear how place access (computes operands) lo off (changing_target IsOffTarget op operands size place access b (target_off place access off)) (base_clear f pushed (lo + 1) (changed_base how) a k) (expr_clear f pushed (lo + 1 + uses None a) Value b k) cw

placed_clear : {whole : List Line} (f : Framed) (pushed lo : ℕ) (how : Placing) (a b : Typed) → IsBankless f → Clear whole → Clear (placed_code f pushed lo how a b whole)
placed_clear f pushed lo (placings.Read x low high) a b k cw = clear_then (index_clear f pushed lo a k) (read_even {X = No} x low high).clear
placed_clear f pushed lo (placings.Behind x extent d) a b k cw = clear_then (label_clear lo) (clear_then (expr_clear f pushed (lo + 1) Value b k) (behind_even {X = No} x extent d).clear)
placed_clear f pushed lo (placings.Held x extent) a b k cw =
    clear_then (index_clear f pushed lo a k) (clear_then (waiting_even {X = No} x).clear (clear_then (expr_clear f pushed (lo + uses None a) Value b k) (held_even {X = No} x extent).clear))
placed_clear f pushed lo (placings.Later x extent) a b k cw =
    clear_then (expr_clear f pushed lo Value b k) (clear_then (value_waits_even {X = No} extent).clear (clear_then (index_clear f pushed (lo + uses None b) a k) (later_even {X = No} x extent).clear))
placed_clear f pushed lo placings.Otherwise a b k cw = cw

mutual
  pub effect_clear : (f : Framed) (pushed lo : ℕ) (e : Typed) → IsBankless f → Clear (effect_code f pushed lo e)
  effect_clear f pushed lo (node t n) k = node_effect_clear f pushed lo t n k

  node_effect_clear : (f : Framed) (pushed lo : ℕ) (t : QTy) (n : Node) → IsBankless f → Clear (node_effect f pushed lo t n)
  node_effect_clear f pushed lo t (convert e) k = effect_clear f pushed lo e k
  node_effect_clear f pushed lo t (comma a b) k = clear_then (effect_clear f pushed lo a k) (effect_clear f pushed (lo + effect_uses a) b k)
  node_effect_clear f pushed lo t (assign a b) k =
      let place : Place = place_of f pushed a in
      let access : Access = access_of (types_of f.parts.types) a in
      placed_clear f pushed lo (placing_of f pushed a b) a b k
      (filled_clear (filling_of place access b) (filling_target IsOffTarget place access b (target_off place access (place_off f pushed a k))) (base_clear f pushed lo Registers a k) (field_clear f pushed lo a b (node_code f pushed lo Value t (assign a b)) k (expr_clear f pushed lo Value (node t (assign a b)) k)))
  node_effect_clear f pushed lo t (assign_op op kind a b) k = op_clear f pushed lo op (Numbers kind) 1 a b (node_code f pushed (lo + 1) Value t (assign_op op kind a b)) k (expr_clear f pushed (lo + 1) Value (node t (assign_op op kind a b)) k)
  node_effect_clear f pushed lo t (assign_step op a b) k = op_clear f pushed lo op (PointerFirst (target_bytes f (bare a))) (target_bytes f (bare a)) a b (node_code f pushed (lo + 1) Value t (assign_step op a b)) k (expr_clear f pushed (lo + 1) Value (node t (assign_step op a b)) k)
  node_effect_clear f pushed lo t (step PreInc e) k = step_clear f pushed lo t PreInc e k (expr_clear f pushed lo Value (node t (step PreInc e)) k)
  node_effect_clear f pushed lo t (step PreDec e) k = step_clear f pushed lo t PreDec e k (expr_clear f pushed lo Value (node t (step PreDec e)) k)
  node_effect_clear f pushed lo t (step PostInc e) k = step_clear f pushed lo t PostInc e k (expr_clear f pushed lo Value (node t (step PreInc e)) k)
  node_effect_clear f pushed lo t (step PostDec e) k = step_clear f pushed lo t PostDec e k (expr_clear f pushed lo Value (node t (step PreDec e)) k)
  node_effect_clear f pushed lo t n k = expr_clear f pushed lo Value (node t n) k
