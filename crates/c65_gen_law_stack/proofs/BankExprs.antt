-- An expression writes nothing of regbank where no home is there.
use Rattle.std.proofs.Common.{ℕ, ◌+◌, Bool, true, false, not, Option, None, Some, List, [], ◌∷◌, ◌++◌, refl}
use Rattle.std.specs.Prelude.{◌&&◌, if◌then◌else◌, nat_le}
use Rattle.c65_base.specs.declared.operators.BinaryOp.{BinaryOp}
use Rattle.c65_ints.specs.declared.types.IntType.{IntType}
use Rattle.c65_ints.specs.declared.types.IntType.TheVariants.{UInt}
use Rattle.c65_ctype.specs.Trees.{Ty, QTy, type_in}
use Rattle.c65_ctype.specs.Views.{types_of}
use Rattle.c65_csem.specs.Trees.{Typed, node, Node, constant, null, literal, object, func, deref, member, load, address, decay, convert, unary, binary, both, either, choice, comma, assign, assign_op, assign_step, step, copy, call, pack, spill, rest as further, Nodes, none, some}
use Rattle.c65_base.specs.declared.operators.UnaryOp.TheVariants as unaries
use Rattle.c65_mach.specs.declared.rows.Op.TheVariants.{Jmp, Lda}
use Rattle.c65_mach.specs.declared.rows.Mode.TheVariants.{Absolute}
use Rattle.c65_code.specs.declared.line.Operand.TheVariants.{To}
use Rattle.c65_code.specs.declared.line.Line.{Line}
use Rattle.c65_code.specs.declared.line.Line.TheVariants.{Label, Do}
use Rattle.c65_code.specs.declared.routine.Width.{Width}
use Rattle.c65_code.specs.declared.routine.Width.TheVariants.{Ax}
use Rattle.c65_genframe.specs.declared.home.Home.{Home}
use Rattle.c65_genframe.specs.declared.home.Home.TheVariants as homes
use Rattle.c65_genframe.specs.Symbols.{numbers_of, function_symbol, literal_symbol}
use Rattle.c65_genframe.specs.Frames.{Framed, home_of, is_raised, type_bytes}
use Rattle.c65_genwide.specs.Wide.{width_of}
use Rattle.c65_genload.specs.declared.places.Place.{Place}
use Rattle.c65_genload.specs.declared.places.Place.TheVariants as places
use Rattle.c65_genload.specs.declared.places.Access.{Access}
use Rattle.c65_genload.specs.Places.{type_in as type_at, extent_of, extent_by}
use Rattle.c65_genload.specs.Conversions.{waiting}
use Rattle.c65_gendirect.specs.declared.bytes.OperandByte.{OperandByte}
use Rattle.c65_gendirect.specs.declared.direct.Direct.{Direct}
use Rattle.c65_gendirect.specs.declared.compare.Sides.TheVariants.{Word}
use Rattle.c65_gendirect.specs.declared.relation.Relation.{Relation}
use Rattle.c65_gendirect.specs.Compare.{relation_of}
use Rattle.c65_genshift.specs.Shifts.{labelled}
use Rattle.c65_genexpr.specs.declared.destination.Destination.{Destination}
use Rattle.c65_genexpr.specs.declared.destination.Destination.TheVariants.{Registers, Pointer}
use Rattle.c65_genexpr.specs.declared.operands.Operands.{Operands}
use Rattle.c65_genexpr.specs.declared.operands.Operands.TheVariants.{Numbers, PointerFirst, PointerLast, Pointers}
use Rattle.c65_genexpr.specs.declared.operating.Operating.{Operating}
use Rattle.c65_genexpr.specs.declared.operating.Operating.TheVariants as operating
use Rattle.c65_genexpr.specs.declared.comparing.Side.{Side}
use Rattle.c65_genexpr.specs.declared.comparing.Side.TheVariants.{Left, Right}
use Rattle.c65_genexpr.specs.declared.comparing.Comparing.{Comparing}
use Rattle.c65_genexpr.specs.declared.comparing.Comparing.TheVariants.{Truth, Byte, Whole, Stacked, Held, HeldByte}
use Rattle.c65_genexpr.specs.declared.storing.Storing.{Storing}
use Rattle.c65_genexpr.specs.declared.storing.Storing.TheVariants as storing
use Rattle.c65_genexpr.specs.declared.wanted.Wanted.{Wanted}
use Rattle.c65_genexpr.specs.declared.wanted.Wanted.TheVariants.{Value, Test}
use Rattle.c65_genexpr.specs.declared.types.Outcome.{Outcome}
use Rattle.c65_genexpr.specs.Types.{kind_of, outcome_of, kind_in, bare, offset_at, access_of, target_bytes}
use Rattle.c65_genexpr.specs.Places.{more, has_base, added_bytes, sum_has_base, sum_place, near, soft_place, place_at, moved, object_place, place_of, target_of, object_code, target_code}
use Rattle.c65_genexpr.specs.Wanted.{wanted_by, handed, wanted, sense, aimed, inner, truth_by, way, way_labels, joined}
use Rattle.c65_genexpr.specs.Operands.{residue_of, constant_in, operands_of, computes, same_truth, conversion_by}
use Rattle.c65_genexpr.specs.Direct.{kept_at, own_bytes}
use Rattle.c65_genexpr.specs.Comparing.{relation_by, tested_by, comparing_of, takes_low, on, low_code, below_side, comparison_by}
use Rattle.c65_genexpr.specs.Held.{held_low, held_high}
use Rattle.c65_genexpr.specs.Operating.{operating_of, waiting_code, stacked_code, below_operand, operator_by}
use Rattle.c65_genexpr.specs.Destination.{destination_of}
use Rattle.c65_genexpr.specs.Storing.{storing_of, below_value, base_for, assigned_by}
use Rattle.c65_genexpr.specs.Steps.{amount_of}
use Rattle.c65_genexpr.specs.Arguments.{is_fast, is_counted, stays, passed_size, passed_of, argument_bytes}
use Rattle.c65_genexpr.specs.Calls.{named}
use Rattle.c65_genexpr.specs.Uses.{uses, by_relation}
use Rattle.c65_genfield.specs.Bits.{byte_field}
use Rattle.c65_genexpr.specs.Code.{width_in, tested_load, load_by, behind_open, compound, call_by, expr_code, node_code, base_code, pointer_base_code, low_value_code, index_code, sum_index_code, args_code}
use Rattle.c65_genexpr.specs.declared.elements.Element.{Element}
use Rattle.c65_genexpr.specs.Elements.{element_at, element_or, loaded_element, element_byte_code}
use Rattle.c65_genexpr.specs.Lows.{is_number, byte_in, low_operand, low_operand_or, behind_pointer, low_load_by}
use Rattle.c65_gendirect.specs.Words.{first_byte_code}
use Rattle.c65_genload.specs.declared.places.Extent.TheVariants.{One as one_byte}
use Rattle.c65_gen_law_stack.proofs.EvenElements.{keep_byte_even, element_value_even, element_test_even, element_byte_even}
use Rattle.c65_gen_law_stack.proofs.FrameOrder.{NotBank}
use Rattle.c65_gen_law_stack.proofs.EvenLines.{No, One}
use Rattle.c65_gen_law_stack.proofs.EvenShifts.{elements_even}
use Rattle.c65_gen_law_stack.proofs.EvenDirects.{byte_even, first_even, compare_even, compare_byte_even, zero_test_even, truth_even}
use Rattle.c65_gen_law_stack.proofs.EvenForms.{loaded_test_even, value_test_even, routine_test_even, constant_even, form_even, keep_even}
use Rattle.c65_gen_law_stack.proofs.StepClears.{step_clear}
use Rattle.c65_gen_law_stack.proofs.BankPieces.{behind_pointer_clear, narrow_clear, label_clear, byte_behind_clear, word_behind_clear, read_bytes_clear, byte_through_clear, word_through_clear, Clear, clear_then, clear_if, clear_none, IsOff, symbol_clear, offset_clear, object_clear, further_clear, conversion_clear, push_clear, argument_clear, hold_clear, bytes_clear, arrived_clear, fetch_clear, store_clear, copy_clear, spill_clear, unary_clear, wide_clear, between_clear, behind_clear, open_clear, close_clear, named_clear, direct_clear, pointer_clear}

-- no home of a frame is in regbank
abbrev pub IsBankless : Framed → Type 0
IsBankless f = (i : ℕ) → NotBank (home_of f i)

near_off : (at : ℕ) → IsOff (near at)
near_off at = by (nat_le at 252)
  where
    by : (b : Bool) → IsOff (if b then places.Near at else places.Far 0)
    by true = tt
    by false = tt

soft_off : (raised : Bool) (at : ℕ) → IsOff (soft_place raised at)
soft_off true at = tt
soft_off false at = near_off at

home_off : (f : Framed) (pushed i : ℕ) (home : Option Home) → NotBank home → IsOff (place_at f pushed i home)
home_off f pushed i None h = tt
home_off f pushed i (Some (homes.Bank b)) h = absurd h
home_off f pushed i (Some (homes.Soft d)) h = soft_off (is_raised f i) (more d pushed)

moved_off : (p : Place) (n : ℕ) → IsOff p → IsOff (moved p n)
moved_off (places.Bank b) n h = absurd h
moved_off (places.Near at) n h = by (nat_le n 252)
  where
    by : (b : Bool) → IsOff (if b then near (at + n) else places.Far 0)
    by true = near_off (at + n)
    by false = tt
moved_off (places.Data s at) n h = tt
moved_off (places.Far at) n h = tt

sum_off : (p : Place) (n : Option ℕ) → IsOff p → IsOff (sum_place p n)
sum_off p (Some n) h = moved_off p n h
sum_off p None h = tt

mutual
  pub place_off : (f : Framed) (pushed : ℕ) (e : Typed) → IsBankless f → IsOff (place_of f pushed e)
  place_off f pushed (node t (object i)) b = home_off f pushed i (home_of f i) (b i)
  place_off f pushed (node t (member e m)) b = moved_off (place_of f pushed e) (offset_at (types_of f.parts.types) (bare e) m) (place_off f pushed e b)
  place_off f pushed (node t (deref e)) b = named_off f pushed e b
  place_off f pushed (node t _) b = tt

  -- what an address names
  named_off : (f : Framed) (pushed : ℕ) (e : Typed) → IsBankless f → IsOff (target_of f pushed e)
  named_off f pushed (node t (binary op x y)) b = sum_off (target_of f pushed x) (added_bytes op (operands_of f (bare x) (bare y)) (constant_in y)) (named_off f pushed x b)
  named_off f pushed (node t (address e)) b = place_off f pushed e b
  named_off f pushed (node t (decay e)) b = place_off f pushed e b
  named_off f pushed (node t _) b = tt

target_clear : (p : Place) {code : List Line} → Clear code → Clear (target_code p code)
target_clear (places.Far at) c = c
target_clear (places.Bank b) c = clear_none
target_clear (places.Near at) c = clear_none
target_clear (places.Data s at) c = clear_none

wanted_clear : (w : Wanted) (width : Width) {code : List Line} → Clear code → Clear (wanted w width code)
wanted_clear Value width c = c
wanted_clear (Test to s) width c = clear_then c (value_test_even {X = One to} width s to refl).clear

truth_clear : (w : Wanted) (fresh : ℕ) {code : List Line} → Clear code → Clear (truth_by w fresh code)
truth_clear Value fresh c = clear_then c (truth_even fresh).clear
truth_clear (Test to s) fresh c = c

tested_clear : (o : Option Direct) (kind : IntType) (s : Bool) (to : ℕ) {base test : List Line} → Clear base → Clear test → Clear (tested_load o kind s to base test)
tested_clear (Some d) kind s to cb c = clear_then cb (zero_test_even {X = One to} (own_bytes d (extent_of kind)) s to refl).clear
tested_clear None kind s to cb c = clear_then cb c

load_by_clear : (w : Wanted) (place : Place) (access : Access) {code : List Line} → Clear code → Clear (load_by w place access code)
load_by_clear Value place access c = clear_then c (fetch_clear place access)
load_by_clear (Test to s) place access c = tested_clear (kept_at place access) (type_at access) s to c (loaded_test_even {X = One to} (byte_field access) place access s to refl).clear

conversion_by_clear : (w : Wanted) (same : Bool) (t : Ty) (from : IntType) {code : List Line} → Clear code → Clear (conversion_by w same t from code)
conversion_by_clear Value same t from c = clear_then c (conversion_clear t from)
conversion_by_clear (Test to s) true t from c = c
conversion_by_clear (Test to s) false t from c = wanted_clear (Test to s) (width_of (kind_of t)) (clear_then c (conversion_clear t from))

labelled_clear : (label : ℕ) {code : List Line} → Clear code → Clear (labelled label code)
labelled_clear label c = clear_then c (label_clear label)

waiting_clear : (operands : Operands) → Clear (waiting_code operands)
waiting_clear (Numbers kind) = between_clear (Numbers kind)
waiting_clear (PointerFirst size) = between_clear (PointerFirst size)
waiting_clear (PointerLast size) = clear_then (elements_even {X = No} size).clear (push_clear Ax)
waiting_clear (Pointers size) = between_clear (Pointers size)

stacked_clear : (op : BinaryOp) (operands : Operands) (right : IntType) → Clear (stacked_code op operands right)
stacked_clear op (Numbers kind) right = behind_clear op (Numbers kind) right
stacked_clear op (PointerFirst size) right = clear_then (elements_even {X = No} size).clear (wide_clear op UInt)
stacked_clear op (PointerLast size) right = behind_clear op (PointerLast size) right
stacked_clear op (Pointers size) right = behind_clear op (Pointers size) right

operator_clear : {a b : List Line} (d : Destination) (how : Operating) (op : BinaryOp) (operands : Operands) (right : IntType) (label : ℕ) → Clear a → Clear b → Clear (operator_by d how op operands right label a b)
operator_clear d (operating.Left form) op operands right label ca cb = clear_then ca (form_even {X = No} d form label).clear
operator_clear d (operating.Right form) op operands right label ca cb = clear_then cb (form_even {X = No} d form label).clear
operator_clear d (operating.Held form) op operands right label ca cb = clear_then ca (clear_then (keep_even {X = No}).clear (clear_then cb (form_even {X = No} d form label).clear))
operator_clear d operating.Stacked op operands right label ca cb = clear_then ca (clear_then (waiting_clear operands) (clear_then cb (clear_then (stacked_clear op operands right) (clear_then (label_clear label) (arrived_clear d)))))

side_clear : {a b : List Line} (side : Side) → Clear a → Clear b → Clear (on side a b)
side_clear Left ca cb = ca
side_clear Right ca cb = cb

low_clear : (low : Option OperandByte) {code : List Line} → Clear code → Clear (low_code low code)
low_clear None c = c
low_clear (Some d) c = (byte_even {X = No} Lda d refl).clear

comparison_clear : {a b : List Line} (how : Comparing) (op : BinaryOp) (operands : Operands) (right : IntType) (s : Bool) (to m : ℕ) → Clear a → Clear b → Clear (comparison_by how op operands right s to m a b)
comparison_clear (Truth side) op operands right s to m ca cb = labelled_clear m (side_clear side ca cb)
comparison_clear (Byte side low r d) op operands right s to m ca cb = labelled_clear m (clear_then (low_clear low (side_clear side ca cb)) (compare_byte_even {X = One to} r d to refl).clear)
comparison_clear (Whole side r is_signed sides) op operands right s to m ca cb = clear_then (side_clear side ca cb) (compare_even {X = One to} r is_signed sides m to refl).clear
comparison_clear (Held r is_signed) op operands right s to m ca cb = clear_then ca (clear_then (keep_even {X = No}).clear (clear_then cb (compare_even {X = One to} r is_signed (Word held_low held_high) m to refl).clear))
comparison_clear (HeldByte r) op operands right s to m ca cb = labelled_clear m (clear_then ca (clear_then (keep_byte_even {X = No}).clear (clear_then cb (compare_byte_even {X = One to} r held_low to refl).clear)))
comparison_clear Stacked op operands right s to m ca cb = labelled_clear m (clear_then ca (clear_then (between_clear operands) (clear_then cb (clear_then (behind_clear op operands right) (routine_test_even {X = One to} s to refl).clear))))

relation_clear : (o : Option Relation) {other : List Line} {f : Relation → List Line} → Clear other → ((r : Relation) → Clear (f r)) → Clear (by_relation o other f)
relation_clear None c d = c
relation_clear (Some r) c d = d r

joined_clear : (straight : Bool) (m : ℕ) {a b : List Line} → Clear a → Clear b → Clear (joined straight m a b)
joined_clear straight m ca cb = clear_then ca (clear_then cb (clear_if straight clear_none (label_clear m)))

compound_clear : {left right : List Line} (f : Framed) (pushed : ℕ) (op : BinaryOp) (operands : Operands) (a b : Typed) → IsBankless f → Clear left → Clear right → Clear (compound f pushed op operands a b left right)
compound_clear f pushed op operands a b bankless ca cb =
    let place : Place = place_of f pushed a in
    let access : Access = access_of (types_of f.parts.types) a in
    clear_then ca (clear_then (open_clear place access (computes operands)) (clear_then cb (close_clear op operands (kind_in b) place access (place_off f pushed a bankless))))

call_clear : {callee args above : List Line} (f : Framed) (n : Option ℕ) (given : Outcome) (g : Typed) (es : Nodes) → Clear callee → Clear args → Clear above → Clear (call_by f n given g es callee args above)
call_clear f (Some i) given g es cc ca cb = clear_then ca (named_clear f i (is_counted (bare g)) (passed_of f (is_fast (bare g)) es) given)
call_clear f None given g none cc ca cb = clear_then cc (direct_clear (is_counted (bare g)) (passed_of f (is_fast (bare g)) none) given)
call_clear f None given g (some e es) cc ca cb = clear_then cc (clear_then (push_clear Ax) (clear_then cb (pointer_clear (is_counted (bare g)) (passed_of f (is_fast (bare g)) (some e es)) given)))

assigned_clear : {a b : List Line} (how : Storing) (place : Place) (access : Access) → IsOff place → Clear a → Clear b → Clear (assigned_by how place access a b)
assigned_clear (storing.Left at stored) place access off ca cb = clear_then ca (clear_then (read_bytes_clear at stored) (narrow_clear (type_at access)))
assigned_clear (storing.RightByte at low high) place access off ca cb = clear_then cb (clear_then (byte_through_clear at low high) (narrow_clear (type_at access)))
assigned_clear (storing.RightWord at low high) place access off ca cb = clear_then cb (word_through_clear at low high)
assigned_clear (storing.HeldByte at) place access off ca cb = clear_then ca (clear_then (keep_even {X = No}).clear (clear_then cb (clear_then (byte_behind_clear at) (narrow_clear (type_at access)))))
assigned_clear (storing.HeldWord at) place access off ca cb = clear_then ca (clear_then (keep_even {X = No}).clear (clear_then cb (word_behind_clear at)))
assigned_clear storing.Stacked place access off ca cb = clear_then ca (clear_then (hold_clear place) (clear_then cb (store_clear place access off)))

-- ---- elements and low bytes

element_load_clear : {index : List Line} (w : Wanted) (x : Element × IntType) → Clear index → Clear (loaded_element w x index)
element_load_clear Value x c = clear_then c (element_value_even {X = No} x.0 x.1).clear
element_load_clear (Test to s) x c = clear_then c (element_test_even {X = One to} x.0 x.1 s to refl).clear

element_clear : {whole : List Line} (o : Option (Element × IntType)) (code : Element × IntType → List Line) → ((x : Element × IntType) → Clear (code x)) → Clear whole → Clear (element_or o code whole)
element_clear None code c d = d
element_clear (Some x) code c d = c x

low_operand_clear : {whole : List Line} (o : Option OperandByte) (code : OperandByte → List Line) → ((d : OperandByte) → Clear (code d)) → Clear whole → Clear (low_operand_or o code whole)
low_operand_clear None code c d = d
low_operand_clear (Some x) code c d = c x

low_load_clear : {base other : List Line} (o : Option ℕ) → Clear base → Clear other → Clear (low_load_by o base other)
low_load_clear None c d = d
low_load_clear (Some at) c d = clear_then c (behind_pointer_clear at one_byte)

jump_clear : (l : ℕ) → Clear (Do Jmp Absolute (To l) ∷ [])
jump_clear l = record { all = refl }

mutual
  pub expr_clear : (f : Framed) (pushed lo : ℕ) (w : Wanted) (e : Typed) → IsBankless f → Clear (expr_code f pushed lo w e)
  expr_clear f pushed lo w (node t n) b = node_clear f pushed lo w t n b

  node_clear : (f : Framed) (pushed lo : ℕ) (w : Wanted) (t : QTy) (n : Node) → IsBankless f → Clear (node_code f pushed lo w t n)
  node_clear f pushed lo w t (constant z) k = (constant_even w (width_in t) (residue_of z)).clear
  node_clear f pushed lo w t null k = (constant_even w Ax 0).clear
  node_clear f pushed lo w t (literal n) k = wanted_clear w (width_in t) (symbol_clear (literal_symbol (numbers_of f.parts) n) 0)
  node_clear f pushed lo w t (object i) k = wanted_clear w (width_in t) (object_clear f pushed i)
  node_clear f pushed lo w t (func i) k = wanted_clear w (width_in t) (symbol_clear (function_symbol (numbers_of f.parts) i) 0)
  node_clear f pushed lo w t (deref e) k = wanted_clear w (width_in t) (expr_clear f pushed lo Value e k)
  node_clear f pushed lo w t (member e m) k = wanted_clear w (width_in t) (clear_then (expr_clear f pushed lo Value e k) (offset_clear (offset_at (types_of f.parts.types) (bare e) m)))
  node_clear f pushed lo w t (load e) k =
      let access : Access = access_of (types_of f.parts.types) e in
      element_clear (element_at f e) (λ x. loaded_element w x (index_code f pushed lo e)) (λ x. element_load_clear w x (index_clear f pushed lo e k))
      (load_by_clear w (place_of f pushed e) access (base_clear f pushed lo (destination_of access) e k))
  node_clear f pushed lo w t (address e) k = wanted_clear w (width_in t) (expr_clear f pushed lo Value e k)
  node_clear f pushed lo w t (decay e) k = wanted_clear w (width_in t) (expr_clear f pushed lo Value e k)
  node_clear f pushed lo w t (convert e) k =
      let same : Bool = same_truth (type_in t) (bare e) in
      conversion_by_clear w same (type_in t) (kind_in e) (expr_clear f pushed lo (handed same w) e k)
  node_clear f pushed lo w t (unary unaries.Not e) k = truth_clear w lo (expr_clear f pushed (inner w lo) (Test (aimed w lo) (not (sense w))) e k)
  node_clear f pushed lo w t (unary op e) k = wanted_clear w (width_in t) (clear_then (expr_clear f pushed lo Value e k) (unary_clear op (width_of (kind_in e))))
  node_clear f pushed lo w t (binary op a b) k =
      let operands : Operands = operands_of f (bare a) (bare b) in
      let bytes : ℕ = waiting (width_of (computes operands)) in
      let operator : Operating = operating_of f pushed op operands a b in
      relation_clear (relation_of op)
      (wanted_clear w (width_in t) (operator_clear Registers operator op operands (kind_in b) lo (expr_clear f pushed (lo + 1) Value a k) (expr_clear f (below_operand operator pushed bytes) (lo + 1 + uses None a) Value b k)))
      (λ r.
      let q : Relation = relation_by (sense w) r in
      let how : Comparing = comparing_of f pushed q (computes operands) a b in
      let to : ℕ = aimed w lo in
      let own : ℕ = inner w lo in
      let next : ℕ = own + 1 + uses (tested_by q b) a in
      let below : ℕ = below_side how pushed bytes in
      truth_clear w lo (comparison_clear how op operands (kind_in b) (sense w) to own (clear_if (takes_low how) (low_value_clear f pushed (own + 1) a k) (expr_clear f pushed (own + 1) (wanted_by (tested_by q b) to) a k))
      (clear_if (takes_low how) (low_value_clear f below next b k) (expr_clear f below next (wanted_by (tested_by q a) to) b k))))
  node_clear f pushed lo w t (both a b) k =
      let straight : Bool = not (sense w) in
      let own : ℕ = inner w lo in
      let first : ℕ = own + way_labels straight in
      truth_clear w lo (joined_clear straight own (expr_clear f pushed first (Test (way straight (aimed w lo) own) false) a k) (expr_clear f pushed (first + uses (Some false) a) (Test (aimed w lo) (sense w)) b k))
  node_clear f pushed lo w t (either a b) k =
      let straight : Bool = sense w in
      let own : ℕ = inner w lo in
      let first : ℕ = own + way_labels straight in
      truth_clear w lo (joined_clear straight own (expr_clear f pushed first (Test (way straight (aimed w lo) own) true) a k) (expr_clear f pushed (first + uses (Some true) a) (Test (aimed w lo) (sense w)) b k))
  node_clear f pushed lo w t (choice c a b) k =
      let first : ℕ = lo + 2 + uses (Some false) c in
      wanted_clear w (width_in t) (clear_then (expr_clear f pushed (lo + 2) (Test lo false) c k) (clear_then (expr_clear f pushed first Value a k) (clear_then (jump_clear (lo + 1)) (clear_then (label_clear lo) (clear_then (expr_clear f pushed (first + uses None a) Value b k) (label_clear (lo + 1)))))))
  node_clear f pushed lo w t (comma a b) k = clear_then (expr_clear f pushed lo Value a k) (expr_clear f pushed (lo + uses None a) w b k)
  node_clear f pushed lo w t (assign a b) k =
      let place : Place = place_of f pushed a in
      let how : Storing = storing_of f pushed a b in
      wanted_clear w (width_in t) (assigned_clear how place (access_of (types_of f.parts.types) a) (place_off f pushed a k) (base_clear f pushed lo (base_for how) a k) (expr_clear f (below_value how pushed place) (lo + uses None a) Value b k))
  node_clear f pushed lo w t (assign_op op kind a b) k = wanted_clear w (width_in t) (compound_clear f pushed op (Numbers kind) a b k (base_clear f pushed lo Registers a k) (expr_clear f (behind_open f pushed (Numbers kind) a) (lo + uses None a) Value b k))
  node_clear f pushed lo w t (assign_step op a b) k =
      let operands : Operands = PointerFirst (target_bytes f (bare a)) in
      wanted_clear w (width_in t) (compound_clear f pushed op operands a b k (base_clear f pushed lo Registers a k) (expr_clear f (behind_open f pushed operands a) (lo + uses None a) Value b k))
  node_clear f pushed lo w t (step how e) k =
      let place : Place = place_of f pushed e in
      wanted_clear w (width_in t) (clear_then (base_clear f pushed (lo + 1) Registers e k) (step_clear how (target_bytes f (bare e)) (amount_of f how (bare e)) place (access_of (types_of f.parts.types) e) lo (place_off f pushed e k)))
  node_clear f pushed lo w t (copy a b) k = wanted_clear w (width_in t) (clear_then (expr_clear f pushed lo Value a k) (clear_then (push_clear Ax) (clear_then (expr_clear f (more pushed 2) (lo + uses None a) Value b k) (copy_clear (type_bytes f (type_in t))))))
  node_clear f pushed lo w t (call g es) k =
      wanted_clear w (width_in t) (call_clear f (named g) (outcome_of f (type_in t)) g es (expr_clear f pushed lo Value g k) (args_clear f pushed lo (is_fast (bare g)) es k) (args_clear f (more pushed 2) (lo + uses None g) (is_fast (bare g)) es k))
  node_clear f pushed lo w t (pack e) k = wanted_clear w (width_in t) (clear_then (base_clear f pushed lo Registers e k) (bytes_clear (place_of f pushed e) (extent_by (type_bytes f (type_in t)))))
  node_clear f pushed lo w t (spill i e) k = wanted_clear w (width_in t) (clear_then (expr_clear f pushed lo Value e k) (spill_clear (object_code f pushed i) (extent_by (type_bytes f (type_in t))) (object_clear f pushed i)))
  node_clear f pushed lo w t further k = wanted_clear w (width_in t) (further_clear f pushed)

  pub base_clear : (f : Framed) (pushed lo : ℕ) (d : Destination) (e : Typed) → IsBankless f → Clear (base_code f pushed lo d e)
  base_clear f pushed lo d (node t (literal n)) k = clear_none
  base_clear f pushed lo d (node t (object i)) k = target_clear (object_place f pushed i) (clear_then (object_clear f pushed i) (arrived_clear d))
  base_clear f pushed lo d (node t (deref e)) k = pointer_base_clear f pushed lo d e k
  base_clear f pushed lo d (node t (member e m)) k =
      let n : ℕ = offset_at (types_of f.parts.types) (bare e) m in
      clear_if (has_base (place_of f pushed e) n) (base_clear f pushed lo d e k) (clear_then (expr_clear f pushed lo Value e k) (clear_then (offset_clear n) (arrived_clear d)))
  base_clear f pushed lo d (node t n) k = clear_then (node_clear f pushed lo Value t n k) (arrived_clear d)

  pointer_base_clear : (f : Framed) (pushed lo : ℕ) (d : Destination) (e : Typed) → IsBankless f → Clear (pointer_base_code f pushed lo d e)
  pointer_base_clear f pushed lo d (node t (binary op a b)) k =
      let operands : Operands = operands_of f (bare a) (bare b) in
      let operator : Operating = operating_of f pushed op operands a b in
      clear_if (sum_has_base (target_of f pushed a) (added_bytes op operands (constant_in b))) (clear_then (label_clear lo) (pointer_base_clear f pushed (lo + 1) d a k))
      (relation_clear (relation_of op)
      (operator_clear d operator op operands (kind_in b) lo (expr_clear f pushed (lo + 1) Value a k) (expr_clear f (below_operand operator pushed (waiting (width_of (computes operands)))) (lo + 1 + uses None a) Value b k))
      (λ r. clear_then (node_clear f pushed lo Value t (binary op a b) k) (arrived_clear d)))
  pointer_base_clear f pushed lo d (node t (address e)) k = base_clear f pushed lo d e k
  pointer_base_clear f pushed lo d (node t (decay e)) k = base_clear f pushed lo d e k
  pointer_base_clear f pushed lo d (node t n) k = clear_then (node_clear f pushed lo Value t n k) (arrived_clear d)

  low_value_clear : (f : Framed) (pushed lo : ℕ) (e : Typed) → IsBankless f → Clear (low_value_code f pushed lo e)
  low_value_clear f pushed lo (node t (convert e)) k = low_clear (byte_in f pushed (node t (convert e))) (clear_if (is_number (type_in t) && is_number (bare e)) (low_value_clear f pushed lo e k) (node_clear f pushed lo Value t (convert e) k))
  low_value_clear f pushed lo (node t (binary op a b)) k =
      low_clear (byte_in f pushed (node t (binary op a b)))
      (low_operand_clear (low_operand f pushed op a b) (λ d. Label lo ∷ (low_value_code f pushed (lo + 1) a ++ first_byte_code op d))
      (λ d. clear_then (label_clear lo) (clear_then (low_value_clear f pushed (lo + 1) a k) (first_even {X = No} op d).clear)) (node_clear f pushed lo Value t (binary op a b) k))
  low_value_clear f pushed lo (node t (load e)) k =
      low_clear (byte_in f pushed (node t (load e)))
      (element_clear (element_at f e) (λ x. index_code f pushed lo e ++ element_byte_code x.0) (λ x. clear_then (index_clear f pushed lo e k) (element_byte_even {X = No} x.0).clear)
      (low_load_clear (behind_pointer (place_of f pushed e) (access_of (types_of f.parts.types) e)) (base_clear f pushed lo Pointer e k) (node_clear f pushed lo Value t (load e) k)))
  low_value_clear f pushed lo (node t n) k = low_clear (byte_in f pushed (node t n)) (node_clear f pushed lo Value t n k)

  pub index_clear : (f : Framed) (pushed lo : ℕ) (e : Typed) → IsBankless f → Clear (index_code f pushed lo e)
  index_clear f pushed lo (node t (deref e)) k = sum_index_clear f pushed lo e k
  index_clear f pushed lo (node t (member e m)) k = index_clear f pushed lo e k
  index_clear f pushed lo (node t _) k = clear_none

  sum_index_clear : (f : Framed) (pushed lo : ℕ) (e : Typed) → IsBankless f → Clear (sum_index_code f pushed lo e)
  sum_index_clear f pushed lo (node t (binary op a b)) k = clear_then (label_clear lo) (low_value_clear f pushed (lo + 1) b k)
  sum_index_clear f pushed lo (node t _) k = clear_none

  args_clear : (f : Framed) (pushed lo : ℕ) (fast : Bool) (es : Nodes) → IsBankless f → Clear (args_code f pushed lo fast es)
  args_clear f pushed lo fast none k = clear_none
  args_clear f pushed lo fast (some e es) k =
      let kept : Bool = stays fast es in
      clear_then (expr_clear f pushed lo Value e k) (clear_then (argument_clear kept (passed_size f e)) (args_clear f (more pushed (argument_bytes kept (passed_size f e))) (lo + uses None e) fast es k))
