-- The lines of a light expression leave ptr2.
use Rattle.std.proofs.Common.{◌≡◌, ℕ, ℤ, not, ◌+◌, ◌/◌, ◌==◌, Bool, true, false, Option, Some, None, List, ◌∷◌, ◌++◌, refl}
use Rattle.std.specs.Prelude.{nat_le, ◌&&◌, ◌||◌, if◌then◌else◌, option_and_then}
use Rattle.std.proofs.lemmas.Bool.{and_parts}
use Rattle.c65_base.specs.declared.operators.BinaryOp.{BinaryOp}
use Rattle.c65_base.specs.declared.operators.BinaryOp.TheVariants as ops
use Rattle.c65_ints.specs.declared.types.IntType.{IntType}
use Rattle.c65_ctype.specs.Trees.{QTy, type_in}
use Rattle.c65_ctype.specs.Views.{types_of}
use Rattle.c65_csem.specs.Trees.{Typed, node, constant, null, literal, object, func, Node, deref, member, load, address, decay, convert, binary, step}
use Rattle.c65_code.specs.declared.line.Line.{Line}
use Rattle.c65_code.specs.declared.routine.Width.TheVariants.{Ax}
use Rattle.c65_genframe.specs.Frames.{Framed}
use Rattle.c65_genframe.specs.Symbols.{numbers_of, literal_symbol, function_symbol}
use Rattle.c65_genwide.specs.Wide.{width_of}
use Rattle.c65_genload.specs.declared.places.Place.{Place}
use Rattle.c65_genload.specs.declared.places.Place.TheVariants as places
use Rattle.c65_genload.specs.declared.places.Place.TheVariants.{Far}
use Rattle.c65_genload.specs.declared.places.Access.{Access}
use Rattle.c65_genload.specs.declared.places.Access.TheVariants.{Whole, Part}
use Rattle.c65_genload.specs.declared.places.Extent.TheVariants.{One, Two}
use Rattle.c65_genload.specs.Places.{byte_more, extent_of}
use Rattle.c65_genload.specs.Conversions.{waiting}
use Rattle.c65_gendirect.specs.declared.relation.Relation.{Relation}
use Rattle.c65_gendirect.specs.Compare.{relation_of}
use Rattle.c65_genexpr.specs.declared.destination.Destination.{Destination}
use Rattle.c65_genexpr.specs.declared.destination.Destination.TheVariants.{Registers, Pointer}
use Rattle.c65_genexpr.specs.declared.operands.Operands.{Operands}
use Rattle.c65_genexpr.specs.declared.operands.Operands.TheVariants.{Numbers, PointerFirst, PointerLast, Pointers}
use Rattle.c65_genexpr.specs.declared.operating.Operating.{Operating}
use Rattle.c65_genexpr.specs.declared.operating.Operating.TheVariants as operating
use Rattle.c65_genexpr.specs.declared.wanted.Wanted.TheVariants.{Value}
use Rattle.c65_genexpr.specs.Types.{kind_in, bare, offset_at, access_of, target_bytes}
use Rattle.c65_genexpr.specs.Places.{moved, has_base, added_bytes, sum_has_base, sum_place, object_place, place_of, target_of, object_code, target_code}
use Rattle.c65_genexpr.specs.Operands.{residue_of, constant_in, operands_of, computes}
use Rattle.c65_genexpr.specs.Operating.{constant_right, direct_right, is_light_index, is_light_sum, takes_bytes, is_light_form, is_light_place, is_signed_char, is_light_extent, is_light_access, is_light_load, is_light_step, constant_form, by_right, is_light_conversion, is_light_operator, is_light, reading_of, held_form, held_if, or_held, below_operand, operator_by}
use Rattle.c65_genexpr.specs.Destination.{arrived, destination_of, fetch_code}
use Rattle.c65_genexpr.specs.Steps.{amount_of}
use Rattle.c65_genexpr.specs.Uses.{by_relation, uses}
use Rattle.c65_genexpr.specs.Code.{width_in, expr_code, node_code, base_code, pointer_base_code, operator_code, low_value_code, index_code, sum_index_code}
use Rattle.c65_code.specs.declared.line.Line.TheVariants.{Label}
use Rattle.c65_genexpr.specs.Direct.{direct_of, is_fixed, is_pure}
use Rattle.c65_gendirect.specs.Words.{first_byte_code}
use Rattle.c65_genexpr.specs.Elements.{element_at}
use Rattle.c65_genexpr.specs.Lows.{is_number, byte_in, low_operand, behind_pointer}
use Rattle.c65_gen_law_stack.proofs.LightElements.{element_spares, low_element_spares, low_spares_by, low_operand_spares, low_loading_spares, read_spares, left_light}
use Rattle.c65_gen_law_stack.specs.Light.{LightLinesLeavePtr2}
use Rattle.c65_gen_law_stack.proofs.StepSpares.{step_spares}
use Rattle.c65_gen_law_stack.proofs.LightPieces.{Spares, first_byte_spares, spares_then, spares_if, narrow_spares, few_spares, first_spares, field_spares, spares_none, spares_label, number_spares, symbol_spares, offset_spares, load_spares, fetch_spares, arrived_spares, object_spares, conversion_spares, form_spares}

target_spares : (code : List Line) (place : Place) → is_light_place place ≡ true → Spares (target_code place code)
target_spares code (places.Far at) h = absurd cc
target_spares code (places.Bank b) h = spares_none
target_spares code (places.Near at) h = spares_none
target_spares code (places.Data s at) h = spares_none

-- a part of a known place is known where it is told with it
part_light : (near told : Bool) (place : Place) → is_light_place (if near then (if told then place else Far 0) else Far 0) ≡ true → near && told ≡ true
part_light true true place h = refl
part_light true false place h = absurd cc
part_light false told place h = absurd cc

zero_light : (first : Bool) (place : Place) → is_light_place (if first then place else Far 0) ≡ true → first ≡ true
zero_light true place h = refl
zero_light false place h = absurd cc

moved_told : (place : Place) (n : ℕ) → is_light_place (moved place n) ≡ true → has_base place n ≡ true
moved_told (places.Far at) n h = absurd cc
moved_told (places.Bank b) n h = zero_light (n == 0) (places.Bank b) h
moved_told (places.Near at) n h = part_light (nat_le n 252) (nat_le (at + n) 252) (places.Near (at + n)) h
moved_told (places.Data s at) n h = refl

moved_light : (place : Place) (n : ℕ) → is_light_place (moved place n) ≡ true → is_light_place place ≡ true
moved_light (places.Far at) n h = absurd cc
moved_light (places.Bank b) n h = refl
moved_light (places.Near at) n h = refl
moved_light (places.Data s at) n h = refl

sum_told : (place : Place) (n : Option ℕ) → is_light_place (sum_place place n) ≡ true → sum_has_base place n ≡ true
sum_told place (Some n) h = moved_told place n h
sum_told place None h = absurd cc

sum_light : (place : Place) (n : Option ℕ) → is_light_place (sum_place place n) ≡ true → is_light_place place ≡ true
sum_light place (Some n) h = moved_light place n h
sum_light place None h = absurd cc

-- the base of a known place has labels alone
mutual
  base_spares : (f : Framed) (pushed lo : ℕ) (d : Destination) (e : Typed) → is_light_place (place_of f pushed e) ≡ true → Spares (base_code f pushed lo d e)
  base_spares f pushed lo d (node t (literal n)) h = spares_none
  base_spares f pushed lo d (node t (object i)) h = target_spares (object_code f pushed i ++ arrived d) (object_place f pushed i) h
  base_spares f pushed lo d (node t (member e m)) h =
      let n : ℕ = offset_at (types_of f.parts.types) (bare e) m in
      first_spares _ (has_base (place_of f pushed e) n) (moved_told (place_of f pushed e) n h) (base_spares f pushed lo d e (moved_light (place_of f pushed e) n h))
  base_spares f pushed lo d (node t (deref e)) h = pointer_spares f pushed lo d e h
  base_spares f pushed lo d (node t _) h = absurd cc

  pointer_spares : (f : Framed) (pushed lo : ℕ) (d : Destination) (e : Typed) → is_light_place (target_of f pushed e) ≡ true → Spares (pointer_base_code f pushed lo d e)
  pointer_spares f pushed lo d (node t (binary op a b)) h =
      let place : Place = target_of f pushed a in
      let added : Option ℕ = added_bytes op (operands_of f (bare a) (bare b)) (constant_in b) in
      first_spares _ (sum_has_base place added) (sum_told place added h) (spares_then (spares_label lo) (pointer_spares f pushed (lo + 1) d a (sum_light place added h)))
  pointer_spares f pushed lo d (node t (address e)) h = base_spares f pushed lo d e h
  pointer_spares f pushed lo d (node t (decay e)) h = base_spares f pushed lo d e h
  pointer_spares f pushed lo d (node t _) h = absurd cc

-- an operator, from the lines of its operands; those of the right one are as many bytes wait
operator_spares : {a : List Line} (b : ℕ → List Line) (d : Destination) (reading held : Operating) (op : BinaryOp) (operands : Operands) (right : IntType) (label pushed bytes : ℕ) (la lb : Bool) → is_light_operator reading la lb ≡ true → (la ≡ true → Spares a) → (lb ≡ true → Spares (b pushed))
    → Spares (operator_by d (or_held reading held) op operands right label a (b (below_operand (or_held reading held) pushed bytes)))
operator_spares b d (operating.Left form) held op operands right label pushed bytes la lb h left other = let both = and_parts (is_light_form form) la h in spares_then (left both.1) (form_spares d form label both.0)
operator_spares b d (operating.Right form) held op operands right label pushed bytes la lb h left other = let both = and_parts (is_light_form form) lb h in spares_then (other both.1) (form_spares d form label both.0)
operator_spares b d (operating.Held form) held op operands right label pushed bytes la lb h left other = absurd cc
operator_spares b d operating.Stacked held op operands right label pushed bytes la lb h left other = absurd cc

light_operator : (f : Framed) (pushed lo : ℕ) (d : Destination) (op : BinaryOp) (a b : Typed) → is_light_operator (reading_of f pushed op (operands_of f (bare a) (bare b)) a b) (is_light f pushed a) (is_light f pushed b) ≡ true
    → (is_light f pushed a ≡ true → Spares (expr_code f pushed (lo + 1) Value a)) → (is_light f pushed b ≡ true → Spares (expr_code f pushed (lo + 1 + uses None a) Value b)) → Spares (operator_code f pushed lo d op a b)
light_operator f pushed lo d op a b h left other =
    let operands : Operands = operands_of f (bare a) (bare b) in
    operator_spares (λ n. expr_code f n (lo + 1 + uses None a) Value b) d (reading_of f pushed op operands a b) (held_if (is_light f pushed b) (held_form op operands)) op operands (kind_in b) lo pushed (waiting (width_of (computes operands))) (is_light f pushed a) (is_light f pushed b) h left other

-- no comparison is light
by_relation_spares : (op : BinaryOp) {other : List Line} (g : Relation → List Line) → takes_bytes op ≡ true → Spares other → Spares (by_relation (relation_of op) other g)
by_relation_spares ops.Add g h p = p
by_relation_spares ops.Sub g h p = p
by_relation_spares ops.BitAnd g h p = p
by_relation_spares ops.BitXor g h p = p
by_relation_spares ops.BitOr g h p = p
by_relation_spares _ g h p = absurd cc

-- where a sum is told with its pointer, that is the operand whose lines are taken
pointer_light : (place : Place) (op : BinaryOp) (operands : Operands) (z : Option ℤ) (other : Operating) (la lb : Bool) → sum_has_base place (added_bytes op operands z) ≡ true
    → is_light_operator (by_right (option_and_then (λ y. constant_form op operands (residue_of y)) z) other) la lb ≡ true → la ≡ true
pointer_light place ops.Add (PointerFirst size) (Some z) other la lb told h = h
pointer_light place ops.Add (PointerFirst size) None other la lb told h = absurd cc
pointer_light place ops.Add (Numbers kind) z other la lb told h = absurd cc
pointer_light place ops.Add (PointerLast size) z other la lb told h = absurd cc
pointer_light place ops.Add (Pointers size) z other la lb told h = absurd cc
pointer_light place _ operands z other la lb told h = absurd cc

-- lines of one place or another
placed_spares : {a b : List Line} (c : Bool) → (c ≡ true → Spares a) → Spares b → Spares (if c then a else b)
placed_spares true p q = p refl
placed_spares false p q = q

-- the base of a step's place: its address is light, or it has labels alone
stepping_spares : {a : List Line} (place : Place) (access : Access) (light : Bool) → is_light_step place access light ≡ true → (is_light_place place ≡ true → Spares a) → (light ≡ true → Spares a) → Spares a
stepping_spares place (Part field) light h known far = absurd cc
stepping_spares (places.Far at) (Whole kind) light h known far = far (and_parts (not (is_signed_char kind)) light (and_parts (is_light_extent (extent_of kind)) (not (is_signed_char kind) && light) h).1).1
stepping_spares (places.Bank b) (Whole kind) light h known far = known refl
stepping_spares (places.Near at) (Whole kind) light h known far = known refl
stepping_spares (places.Data s at) (Whole kind) light h known far = known refl

loading_spares : {a : List Line} (place : Place) (access : Access) (light : Bool) → is_light_load place access light ≡ true → (is_light_place place ≡ true → Spares a) → (light ≡ true → Spares a) → Spares (a ++ fetch_code place access)
loading_spares (places.Far at) (Whole kind) light h known far =
    let outer = and_parts (is_light_extent (extent_of kind)) (not (is_signed_char kind) && light) h in
    let inner = and_parts (not (is_signed_char kind)) light outer.1 in
    spares_then (far inner.1) (fetch_spares (places.Far at) (Whole kind) inner.0 (spares_then (few_spares (places.Far at) (extent_of kind) outer.0) (narrow_spares kind inner.0)))
loading_spares (places.Far at) (Part g) light h known far =
    let both = and_parts (is_light_access (Part g)) light h in
    spares_then (far both.1) (field_spares (places.Far at) g both.0 (few_spares (places.Far (byte_more at (g.low / 8))) One refl) (few_spares (places.Far at) Two refl))
loading_spares (places.Bank b) access light h known far = spares_then (known refl) (fetch_spares (places.Bank b) access h (load_spares (places.Bank b) access refl h))
loading_spares (places.Near at) access light h known far = spares_then (known refl) (fetch_spares (places.Near at) access h (load_spares (places.Near at) access refl h))
loading_spares (places.Data s at) access light h known far = spares_then (known refl) (fetch_spares (places.Data s at) access h (load_spares (places.Data s at) access refl h))

mutual
  light_spares : (f : Framed) (pushed lo : ℕ) (e : Typed) → is_light f pushed e ≡ true → Spares (expr_code f pushed lo Value e)
  light_spares f pushed lo (node t n) h = node_spares f pushed lo t n h

  node_spares : (f : Framed) (pushed lo : ℕ) (t : QTy) (n : Node) → is_light f pushed (node t n) ≡ true → Spares (node_code f pushed lo Value t n)
  node_spares f pushed lo t (constant z) h = number_spares (width_in t) (residue_of z)
  node_spares f pushed lo t null h = number_spares Ax 0
  node_spares f pushed lo t (literal n) h = symbol_spares (literal_symbol (numbers_of f.parts) n) 0
  node_spares f pushed lo t (func i) h = symbol_spares (function_symbol (numbers_of f.parts) i) 0
  node_spares f pushed lo t (object i) h = object_spares f pushed i h
  node_spares f pushed lo t (deref e) h = light_spares f pushed lo e h
  node_spares f pushed lo t (address e) h = light_spares f pushed lo e h
  node_spares f pushed lo t (decay e) h = light_spares f pushed lo e h
  node_spares f pushed lo t (member e m) h = spares_then (light_spares f pushed lo e h) (offset_spares (offset_at (types_of f.parts.types) (bare e) m))
  node_spares f pushed lo t (load e) h =
      let access : Access = access_of (types_of f.parts.types) e in
      let place : Place = place_of f pushed e in
      element_spares (element_at f e) (is_light_index f pushed e) (is_light_load place access (is_light f pushed e)) h (index_spares f pushed lo e)
      (λ k. loading_spares place access (is_light f pushed e) k (base_spares f pushed lo (destination_of access) e) (far_spares f pushed lo (destination_of access) e))
  node_spares f pushed lo t (step how e) h =
      let place : Place = place_of f pushed e in
      let access : Access = access_of (types_of f.parts.types) e in
      spares_then (stepping_spares place access (is_light f pushed e) h (base_spares f pushed (lo + 1) Registers e) (far_spares f pushed (lo + 1) Registers e))
      (step_spares how (target_bytes f (bare e)) (amount_of f how (bare e)) place access lo (is_light f pushed e) h)
  node_spares f pushed lo t (convert e) h =
      let both = and_parts (is_light_conversion (type_in t) (kind_in e)) (is_light f pushed e) h in
      spares_then (light_spares f pushed lo e both.1) (conversion_spares (type_in t) (kind_in e) both.0)
  node_spares f pushed lo t (binary op a b) h =
      let both = and_parts (takes_bytes op) (is_light_operator (reading_of f pushed op (operands_of f (bare a) (bare b)) a b) (is_light f pushed a) (is_light f pushed b)) h in
      by_relation_spares op _ both.0 (light_operator f pushed lo Registers op a b both.1 (light_spares f pushed (lo + 1) a) (light_spares f pushed (lo + 1 + uses None a) b))
  node_spares f pushed lo t _ h = absurd cc

  -- the base of a place whose address is light
  far_spares : (f : Framed) (pushed lo : ℕ) (d : Destination) (e : Typed) → is_light f pushed e ≡ true → Spares (base_code f pushed lo d e)
  far_spares f pushed lo d (node t (literal n)) h = spares_none
  far_spares f pushed lo d (node t (object i)) h = target_spares (object_code f pushed i ++ arrived d) (object_place f pushed i) h
  far_spares f pushed lo d (node t (deref e)) h = far_pointer_spares f pushed lo d e h
  far_spares f pushed lo d (node t (member e m)) h =
      let n : ℕ = offset_at (types_of f.parts.types) (bare e) m in
      spares_if (has_base (place_of f pushed e) n) (far_spares f pushed lo d e h) (spares_then (light_spares f pushed lo e h) (spares_then (offset_spares n) (arrived_spares d)))
  far_spares f pushed lo d (node t n) h = spares_then (node_spares f pushed lo t n h) (arrived_spares d)

  far_pointer_spares : (f : Framed) (pushed lo : ℕ) (d : Destination) (e : Typed) → is_light f pushed e ≡ true → Spares (pointer_base_code f pushed lo d e)
  far_pointer_spares f pushed lo d (node t (binary op a b)) h =
      let operands : Operands = operands_of f (bare a) (bare b) in
      let place : Place = target_of f pushed a in
      let both = and_parts (takes_bytes op) (is_light_operator (reading_of f pushed op operands a b) (is_light f pushed a) (is_light f pushed b)) h in
      placed_spares (sum_has_base place (added_bytes op operands (constant_in b)))
      (λ told. spares_then (spares_label lo) (far_pointer_spares f pushed (lo + 1) d a (pointer_light place op operands (constant_in b) _ (is_light f pushed a) (is_light f pushed b) told both.1)))
      (by_relation_spares op _ both.0 (light_operator f pushed lo d op a b both.1 (light_spares f pushed (lo + 1) a) (light_spares f pushed (lo + 1 + uses None a) b)))
  far_pointer_spares f pushed lo d (node t (address e)) h = far_spares f pushed lo d e h
  far_pointer_spares f pushed lo d (node t (decay e)) h = far_spares f pushed lo d e h
  far_pointer_spares f pushed lo d (node t n) h = spares_then (node_spares f pushed lo t n h) (arrived_spares d)

  low_spares : (f : Framed) (pushed lo : ℕ) (e : Typed) → is_light f pushed e ≡ true → Spares (low_value_code f pushed lo e)
  low_spares f pushed lo (node t (convert e)) h =
      low_spares_by (byte_in f pushed (node t (convert e))) (spares_if (is_number (type_in t) && is_number (bare e)) (low_spares f pushed lo e (and_parts (is_light_conversion (type_in t) (kind_in e)) (is_light f pushed e) h).1) (node_spares f pushed lo t (convert e) h))
  low_spares f pushed lo (node t (binary op a b)) h =
      let operands : Operands = operands_of f (bare a) (bare b) in
      let both = and_parts (takes_bytes op) (is_light_operator (reading_of f pushed op operands a b) (is_light f pushed a) (is_light f pushed b)) h in
      low_spares_by (byte_in f pushed (node t (binary op a b)))
      (low_operand_spares (low_operand f pushed op a b) (λ d. Label lo ∷ (low_value_code f pushed (lo + 1) a ++ first_byte_code op d))
      (λ d. spares_then (spares_label lo) (spares_then
      (left_light op operands (constant_right op operands b) (direct_right op operands (direct_of f pushed b)) (is_fixed (direct_of f pushed a) || is_pure b) (direct_of f pushed a) (is_light f pushed a) (is_light f pushed b) both.1 (low_spares f pushed (lo + 1) a) (read_spares f pushed (lo + 1) a))
      (first_byte_spares op d)))
      (node_spares f pushed lo t (binary op a b) h))
  low_spares f pushed lo (node t (load e)) h =
      let place : Place = place_of f pushed e in
      let access : Access = access_of (types_of f.parts.types) e in
      low_spares_by (byte_in f pushed (node t (load e)))
      (low_element_spares (element_at f e) (is_light_index f pushed e) (is_light_load place access (is_light f pushed e)) h (index_spares f pushed lo e)
      (λ k. low_loading_spares (behind_pointer place access) place access (is_light f pushed e) k (base_spares f pushed lo Pointer e) (far_spares f pushed lo Pointer e) (node_spares f pushed lo t (load e) h)))
  low_spares f pushed lo (node t n) h = low_spares_by (byte_in f pushed (node t n)) (node_spares f pushed lo t n h)

  index_spares : (f : Framed) (pushed lo : ℕ) (e : Typed) → is_light_index f pushed e ≡ true → Spares (index_code f pushed lo e)
  index_spares f pushed lo (node t (deref e)) h = sum_index_spares f pushed lo e h
  index_spares f pushed lo (node t (member e m)) h = index_spares f pushed lo e h
  index_spares f pushed lo (node t _) h = spares_none

  sum_index_spares : (f : Framed) (pushed lo : ℕ) (e : Typed) → is_light_sum f pushed e ≡ true → Spares (sum_index_code f pushed lo e)
  sum_index_spares f pushed lo (node t (binary op a b)) h = spares_then (spares_label lo) (low_spares f pushed (lo + 1) b h)
  sum_index_spares f pushed lo (node t _) h = spares_none

pub light_lines_leave_ptr2 : LightLinesLeavePtr2
light_lines_leave_ptr2 f pushed lo e light = (light_spares f pushed lo e light).all
