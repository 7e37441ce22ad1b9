-- The lines of expressions whose value is not used (C90 6.3.2.4, 6.3.3.1, 6.3.16, 6.3.17, 6.6.3): what is kept is changed as by
-- their values' lines, and what stands in A, X, Y and sreg then is not told.
use Rattle.std.specs.Prelude.{ℕ, ◌+◌, Option, Some, None, List, [], ◌∷◌, ◌++◌}
use Rattle.c65_base.specs.declared.operators.BinaryOp.{BinaryOp}
use Rattle.c65_base.specs.declared.operators.StepKind.{StepKind}
use Rattle.c65_ctype.specs.Trees.{QTy}
use Rattle.c65_ctype.specs.Views.{types_of}
use Rattle.c65_csem.specs.Trees.{Typed, node, Node, convert, comma, assign, assign_op, assign_step, step}
use Rattle.c65_code.specs.declared.line.Line.{Line}
use Rattle.c65_code.specs.declared.line.Line.TheVariants.{Label}
use Rattle.c65_genframe.specs.Frames.{Framed}
use Rattle.c65_ints.specs.declared.types.IntType.{IntType}
use Rattle.c65_genload.specs.declared.places.Place.{Place}
use Rattle.c65_genload.specs.declared.places.Access.{Access}
use Rattle.c65_genload.specs.Places.{type_in}
use Rattle.c65_genload.specs.Conversions.{convert_code}
use Rattle.c65_genload.specs.Loads.{load_code}
use Rattle.c65_genload.specs.Stores.{store_code}
use Rattle.c65_genexpr.specs.declared.operands.Operands.{Operands}
use Rattle.c65_genexpr.specs.declared.operands.Operands.TheVariants.{Numbers, PointerFirst}
use Rattle.c65_genexpr.specs.declared.operating.Form.{Form}
use Rattle.c65_genexpr.specs.Operands.{computes}
use Rattle.c65_genexpr.specs.Operating.{value_form}
use Rattle.c65_genexpr.specs.declared.destination.Destination.{Destination}
use Rattle.c65_genexpr.specs.declared.destination.Destination.TheVariants.{Registers, Pointer}
use Rattle.c65_genexpr.specs.declared.wanted.Wanted.TheVariants.{Value}
use Rattle.c65_genexpr.specs.Types.{bare, access_of, target_bytes}
use Rattle.c65_genexpr.specs.Places.{place_of}
use Rattle.c65_genexpr.specs.Uses.{uses, node_uses}
use Rattle.c65_genexpr.specs.Code.{expr_code, node_code, base_code, index_code, step_value_code}
use Rattle.c65_genchange.specs.declared.changes.Change.{Change}
use Rattle.c65_geneffect.specs.declared.changing.Changing.{Changing}
use Rattle.c65_geneffect.specs.declared.changing.Changing.TheVariants.{Fixed, Loaded, Computed, Otherwise}
use Rattle.c65_geneffect.specs.declared.changing.Fill.{Fill}
use Rattle.c65_genchange.specs.Changes.{change_code, fill_code}
use Rattle.c65_geneffect.specs.Changing.{in_front, stepping_of, changing_of, filling_of}
use Rattle.c65_geneffect.specs.declared.placing.Placing.{Placing}
use Rattle.c65_geneffect.specs.declared.placing.Placing.TheVariants.{Read, Behind, Held, Later}
use Rattle.c65_geneffect.specs.declared.placing.Placing.TheVariants as placings
use Rattle.c65_geneffect.specs.Placing.{placing_of, read_code, behind_code, waiting_code, held_code, value_waits_code, later_code}
use Rattle.c65_geneffect.specs.Setting.{setting_of, below_value, base_for, set_by}

-- a label of its own, which is placed behind the lines where no form needs it
abbrev pub closed : ℕ → List Line → List Line
closed label lines = lines ++ (Label label ∷ [])

-- from the lines of the place's base, which leave the address of what lies anywhere in ptr1, or of the whole for its value
abbrev pub stepped_by : Option Change → ℕ → List Line → List Line → List Line
stepped_by (Some change) label base whole = base ++ change_code change label
stepped_by None label base whole = whole

-- a number of this type is taken, computed on in another one, and put back
abbrev pub computed_code : Place → Access → IntType → Form → ℕ → List Line
computed_code place access kind form label = load_code place access ++ (convert_code (type_in access) kind ++ (value_form form label ++ (convert_code kind (type_in access) ++ store_code place access)))

-- and of the right side; the whole has a label less
abbrev pub changed_by : Changing → Place → Access → IntType → ℕ → List Line → List Line → List Line → List Line
changed_by (Fixed change) place access kind label left right whole = left ++ change_code change label
changed_by (Loaded change) place access kind label left right whole = left ++ (right ++ change_code change label)
changed_by (Computed form) place access kind label left right whole = left ++ computed_code place access kind form label
changed_by Otherwise place access kind label left right whole = closed label whole

-- where the address of the place's base comes
abbrev pub changed_base : Changing → Destination
changed_base (Computed form) = Registers
changed_base how = Pointer

-- elements have so many bytes; a number has one
abbrev pub changed_code : Framed → ℕ → ℕ → BinaryOp → Operands → ℕ → Typed → Typed → List Line → List Line
changed_code f pushed fresh op operands size a b whole =
    let place = place_of f pushed a in
    let access = access_of (types_of f.parts.types) a in
    let how = changing_of op operands size place access b in
    changed_by how place access (computes operands) fresh (base_code f pushed (fresh + 1) (changed_base how) a) (expr_code f pushed (fresh + 1 + uses None a) Value b) whole

-- from the lines of the place's base, or of the whole for its value
abbrev pub filled_or : Option Fill → List Line → List Line → List Line
filled_or (Some fill) base whole = base ++ fill_code fill.byte fill.low fill.high
filled_or None base whole = whole

-- a bit-field is set, or else the whole is had for its value
abbrev pub set_code : Framed → ℕ → ℕ → Typed → Typed → List Line → List Line
set_code f pushed fresh a b whole =
    let place = place_of f pushed a in
    let how = setting_of f pushed place (access_of (types_of f.parts.types) a) b in
    set_by how place (base_code f pushed fresh (base_for how) a) (expr_code f (below_value how pushed place) (fresh + uses None a) Value b) whole

-- an element of a small array takes the value; else the whole
abbrev pub placed_code : Framed → ℕ → ℕ → Placing → Typed → Typed → List Line → List Line
placed_code f pushed fresh (Read x low high) a b whole = index_code f pushed fresh a ++ read_code x low high
placed_code f pushed fresh (Behind x extent d) a b whole = Label fresh ∷ (expr_code f pushed (fresh + 1) Value b ++ behind_code x extent d)
placed_code f pushed fresh (Held x extent) a b whole = index_code f pushed fresh a ++ (waiting_code x ++ (expr_code f pushed (fresh + uses None a) Value b ++ held_code x extent))
placed_code f pushed fresh (Later x extent) a b whole = expr_code f pushed fresh Value b ++ (value_waits_code extent ++ (index_code f pushed (fresh + uses None b) a ++ later_code x extent))
placed_code f pushed fresh placings.Otherwise a b whole = whole

abbrev pub step_effect : Framed → ℕ → ℕ → StepKind → Typed → List Line
step_effect f pushed fresh how e =
    let place = place_of f pushed e in
    stepped_by (stepping_of how (target_bytes f (bare e)) place (access_of (types_of f.parts.types) e)) fresh (base_code f pushed (fresh + 1) Pointer e) (step_value_code f pushed fresh (in_front how) e)

abbrev mutual
  pub effect_code : Framed → ℕ → ℕ → Typed → List Line
  effect_code f pushed fresh (node t n) = node_effect f pushed fresh t n

  pub node_effect : Framed → ℕ → ℕ → QTy → Node → List Line
  node_effect f pushed fresh t (convert e) = effect_code f pushed fresh e
  node_effect f pushed fresh t (comma a b) = effect_code f pushed fresh a ++ effect_code f pushed (fresh + effect_uses a) b
  node_effect f pushed fresh t (assign a b) =
      let place = place_of f pushed a in
      let access = access_of (types_of f.parts.types) a in
      let base = base_code f pushed fresh Registers a in
      placed_code f pushed fresh (placing_of f pushed a b) a b (filled_or (filling_of place access b) base (set_code f pushed fresh a b (node_code f pushed fresh Value t (assign a b))))
  node_effect f pushed fresh t (assign_op op k a b) = changed_code f pushed fresh op (Numbers k) 1 a b (node_code f pushed (fresh + 1) Value t (assign_op op k a b))
  node_effect f pushed fresh t (assign_step op a b) = changed_code f pushed fresh op (PointerFirst (target_bytes f (bare a))) (target_bytes f (bare a)) a b (node_code f pushed (fresh + 1) Value t (assign_step op a b))
  node_effect f pushed fresh t (step how e) = step_effect f pushed fresh how e
  node_effect f pushed fresh t n = node_code f pushed fresh Value t n

  -- the labels of these lines
  pub effect_uses : Typed → ℕ
  effect_uses (node t n) = node_effect_uses t n

  pub node_effect_uses : QTy → Node → ℕ
  node_effect_uses t (convert e) = effect_uses e
  node_effect_uses t (comma a b) = effect_uses a + effect_uses b
  node_effect_uses t (assign_op op k a b) = 1 + (uses None a + uses None b)
  node_effect_uses t (assign_step op a b) = 1 + (uses None a + uses None b)
  node_effect_uses t n = node_uses None t n
