-- Trees that are read where they lie have no labels.
use Rattle.std.proofs.Common.{◌≡◌, ◌+◌, ℕ, ℤ, add-zero, Bool, true, false, Option, Some, None, refl}
use Rattle.std.specs.Prelude.{option_and_then, is_some, ◌&&◌, ◌||◌, if◌then◌else◌}
use Rattle.c65_base.specs.declared.operators.BinaryOp.{BinaryOp}
use Rattle.c65_base.specs.declared.operators.BinaryOp.TheVariants.{Mul, Div, Rem, Add, Sub, Shl, Shr, Lt, Gt, Le, Ge, Eq, Ne, BitAnd, BitXor, BitOr}
use Rattle.c65_ints.specs.declared.types.IntType.{IntType}
use Rattle.c65_ctype.specs.Trees.{QTy, type_in}
use Rattle.c65_ctype.specs.Views.{types_of}
use Rattle.c65_csem.specs.Trees.{Typed, node, constant, null, literal, object, func, deref, member, load, address, decay, convert, unary, binary, both, either, choice, comma, assign, assign_op, assign_step, step, copy, call, pack, spill, rest}
use Rattle.c65_code.specs.declared.routine.Width.{Width}
use Rattle.c65_code.specs.declared.routine.Width.TheVariants.{Ax, Eax}
use Rattle.c65_genframe.specs.Frames.{Framed}
use Rattle.c65_genload.specs.declared.places.Access.{Access}
use Rattle.c65_genload.specs.declared.places.Access.TheVariants.{Whole, Part}
use Rattle.c65_genload.specs.declared.places.Extent.{Extent}
use Rattle.c65_genload.specs.declared.places.Extent.TheVariants.{One, Two, Three, Four}
use Rattle.c65_genload.specs.Places.{extent_of}
use Rattle.c65_genload.specs.declared.places.Place.{Place}
use Rattle.c65_genload.specs.declared.places.Place.TheVariants.{Bank, Near, Data, Far}
use Rattle.c65_gendirect.specs.declared.bytes.OperandByte.{OperandByte}
use Rattle.c65_gendirect.specs.declared.compare.Sides.{Sides}
use Rattle.c65_gendirect.specs.declared.direct.Direct.{Direct}
use Rattle.c65_gendirect.specs.declared.relation.Relation.{Relation}
use Rattle.c65_gendirect.specs.Bytes.{byte_of}
use Rattle.c65_gendirect.specs.declared.through.Stored.{Stored}
use Rattle.c65_gendirect.specs.Compare.{mirrored, relation_of}
use Rattle.c65_genwide.specs.Wide.{width_of}
use Rattle.c65_genexpr.specs.declared.comparing.Side.TheVariants.{Left, Right}
use Rattle.c65_genexpr.specs.declared.comparing.Comparing.{Comparing}
use Rattle.c65_genexpr.specs.declared.comparing.Comparing.TheVariants.{Truth, Byte, Whole, Held, HeldByte, Stacked}
use Rattle.c65_genexpr.specs.declared.operating.Form.{Form}
use Rattle.c65_genexpr.specs.declared.operating.Operating.{Operating}
use Rattle.c65_genexpr.specs.declared.operating.Operating.TheVariants as operating
use Rattle.c65_genexpr.specs.declared.operands.Operands.{Operands}
use Rattle.c65_genexpr.specs.declared.operands.Operands.TheVariants.{Numbers, PointerFirst, PointerLast, Pointers}
use Rattle.c65_genexpr.specs.declared.storing.Storing.{Storing}
use Rattle.c65_genexpr.specs.declared.storing.Storing.TheVariants as storing
use Rattle.c65_genexpr.specs.Types.{kind_of, bare, offset_at, access_of}
use Rattle.c65_genexpr.specs.Places.{is_plain, has_base, added_bytes, sum_has_base, place_of}
use Rattle.c65_genexpr.specs.Operands.{constant_in}
use Rattle.c65_genexpr.specs.Direct.{kept_at, address_at, address_of, takes_bytes, converted_if, direct_of, is_fixed, is_pure, is_byte, sides_of}
use Rattle.c65_genexpr.specs.Comparing.{is_zero, zero_sense, tested_by, lowest, range_of, is_raised, raised, one_more, meeting, beside, changes, compared_by, comparing_of, held_by, or_held}
use Rattle.c65_genexpr.specs.Operating.{word_in, direct_right, direct_left, by_left, by_right, operating_of, reading_of, is_light, held_form, held_if}
use Rattle.c65_genexpr.specs.Operating as operators
use Rattle.c65_genexpr.specs.Uses.{uses}
use Rattle.c65_genexpr.specs.Leaving.{ComparesFree, LowsPlain, OperatesFree, StoresFree}
use Rattle.c65_genexpr.specs.Storing.{pointer_of, through, by_value, by_pointer, held_at, storing_by, storing_of}
use Rattle.c65_genexpr.specs.Storing as stores

-- ---- constants

abbrev pub IsThere : {A : Type 0} → Option A → Type 0
IsThere None = ⊥
IsThere (Some x) = Unit {0}

pub constant_uses : (e : Typed) → IsThere (constant_in e) → uses None e ≡ 0
constant_uses (node t (constant z)) h = refl
constant_uses (node t null) h = absurd h
constant_uses (node t (literal n)) h = absurd h
constant_uses (node t (object i)) h = absurd h
constant_uses (node t (func i)) h = absurd h
constant_uses (node t (deref e)) h = absurd h
constant_uses (node t (member e m)) h = absurd h
constant_uses (node t (load e)) h = absurd h
constant_uses (node t (address e)) h = absurd h
constant_uses (node t (decay e)) h = absurd h
constant_uses (node t (convert e)) h = absurd h
constant_uses (node t (unary op e)) h = absurd h
constant_uses (node t (binary op a b)) h = absurd h
constant_uses (node t (both a b)) h = absurd h
constant_uses (node t (either a b)) h = absurd h
constant_uses (node t (choice c a b)) h = absurd h
constant_uses (node t (comma a b)) h = absurd h
constant_uses (node t (assign a b)) h = absurd h
constant_uses (node t (assign_op op k a b)) h = absurd h
constant_uses (node t (assign_step op a b)) h = absurd h
constant_uses (node t (step how e)) h = absurd h
constant_uses (node t (copy a b)) h = absurd h
constant_uses (node t (call g es)) h = absurd h
constant_uses (node t (pack e)) h = absurd h
constant_uses (node t (spill i e)) h = absurd h
constant_uses (node t rest) h = absurd h

pub zero_uses : (s : Option Bool) (e : Typed) → is_zero e ≡ true → uses s e ≡ 0
zero_uses s (node t (constant z)) h = refl
zero_uses s (node t null) h = refl
zero_uses s (node t (literal n)) h = cc
zero_uses s (node t (object i)) h = cc
zero_uses s (node t (func i)) h = cc
zero_uses s (node t (deref e)) h = cc
zero_uses s (node t (member e m)) h = cc
zero_uses s (node t (load e)) h = cc
zero_uses s (node t (address e)) h = cc
zero_uses s (node t (decay e)) h = cc
zero_uses s (node t (convert e)) h = cc
zero_uses s (node t (unary op e)) h = cc
zero_uses s (node t (binary op a b)) h = cc
zero_uses s (node t (both a b)) h = cc
zero_uses s (node t (either a b)) h = cc
zero_uses s (node t (choice c a b)) h = cc
zero_uses s (node t (comma a b)) h = cc
zero_uses s (node t (assign a b)) h = cc
zero_uses s (node t (assign_op op k a b)) h = cc
zero_uses s (node t (assign_step op a b)) h = cc
zero_uses s (node t (step how e)) h = cc
zero_uses s (node t (copy a b)) h = cc
zero_uses s (node t (call g es)) h = cc
zero_uses s (node t (pack e)) h = cc
zero_uses s (node t (spill i e)) h = cc
zero_uses s (node t rest) h = cc

-- ---- places

pub plain_uses : (e : Typed) → is_plain e ≡ true → uses None e ≡ 0
plain_uses (node t (constant z)) h = cc
plain_uses (node t null) h = cc
plain_uses (node t (literal n)) h = refl
plain_uses (node t (object i)) h = refl
plain_uses (node t (func i)) h = cc
plain_uses (node t (deref e)) h = plain_uses e h
plain_uses (node t (member e m)) h = plain_uses e h
plain_uses (node t (load e)) h = cc
plain_uses (node t (address e)) h = plain_uses e h
plain_uses (node t (decay e)) h = plain_uses e h
plain_uses (node t (convert e)) h = cc
plain_uses (node t (unary op e)) h = cc
plain_uses (node t (binary op a b)) h = cc
plain_uses (node t (both a b)) h = cc
plain_uses (node t (either a b)) h = cc
plain_uses (node t (choice c a b)) h = cc
plain_uses (node t (comma a b)) h = cc
plain_uses (node t (assign a b)) h = cc
plain_uses (node t (assign_op op k a b)) h = cc
plain_uses (node t (assign_step op a b)) h = cc
plain_uses (node t (step how e)) h = cc
plain_uses (node t (copy a b)) h = cc
plain_uses (node t (call g es)) h = cc
plain_uses (node t (pack e)) h = cc
plain_uses (node t (spill i e)) h = cc
plain_uses (node t rest) h = cc

chosen : {A : Type 0} (b : Bool) (o : Option A) → IsThere (if b then o else None) → b ≡ true
chosen true o h = refl
chosen false o h = absurd h

when_plain : {A : Type 0} (e : Typed) (o : Option A) → IsThere (if is_plain e then o else None) → uses None e ≡ 0
when_plain e o h = plain_uses e (chosen (is_plain e) o h)

-- ---- direct values

address_uses : (f : Framed) (pushed : ℕ) (e : Typed) → IsThere (address_of f pushed e) → uses None e ≡ 0
address_uses f pushed (node t (func i)) h = refl
address_uses f pushed (node t n) h = when_plain (node t n) (address_at (place_of f pushed (node t n))) h

converted_there : (same : Bool) (to : IntType) (d : Option Direct) → IsThere (converted_if same to d) → IsThere d
converted_there true to (Some d) h = tt
converted_there true to None h = h
converted_there false to d h = absurd h

pub direct_uses : (f : Framed) (pushed : ℕ) (e : Typed) → IsThere (direct_of f pushed e) → uses None e ≡ 0
direct_uses f pushed (node t (constant z)) h = refl
direct_uses f pushed (node t null) h = refl
direct_uses f pushed (node t (load e)) h = when_plain e (kept_at (place_of f pushed e) (access_of (types_of f.parts.types) e)) h
direct_uses f pushed (node t (address e)) h = address_uses f pushed e h
direct_uses f pushed (node t (decay e)) h = address_uses f pushed e h
direct_uses f pushed (node t (convert e)) h = direct_uses f pushed e (converted_there (takes_bytes (type_in t) (bare e)) (kind_of (type_in t)) (direct_of f pushed e) h)
direct_uses f pushed (node t (literal n)) h = absurd h
direct_uses f pushed (node t (object i)) h = absurd h
direct_uses f pushed (node t (func i)) h = absurd h
direct_uses f pushed (node t (deref e)) h = absurd h
direct_uses f pushed (node t (member e m)) h = absurd h
direct_uses f pushed (node t (unary op e)) h = absurd h
direct_uses f pushed (node t (binary op a b)) h = absurd h
direct_uses f pushed (node t (both a b)) h = absurd h
direct_uses f pushed (node t (either a b)) h = absurd h
direct_uses f pushed (node t (choice c a b)) h = absurd h
direct_uses f pushed (node t (comma a b)) h = absurd h
direct_uses f pushed (node t (assign a b)) h = absurd h
direct_uses f pushed (node t (assign_op op k a b)) h = absurd h
direct_uses f pushed (node t (assign_step op a b)) h = absurd h
direct_uses f pushed (node t (step how e)) h = absurd h
direct_uses f pushed (node t (copy a b)) h = absurd h
direct_uses f pushed (node t (call g es)) h = absurd h
direct_uses f pushed (node t (pack e)) h = absurd h
direct_uses f pushed (node t (spill i e)) h = absurd h
direct_uses f pushed (node t rest) h = absurd h

-- ---- operators

right_free : (a b : Typed) (form : Option Form) (other : Operating) → (IsThere form → uses None b ≡ 0) → OperatesFree other a b → OperatesFree (by_right form other) a b
right_free a b (Some form) other free before = free tt
right_free a b None other free before = before

left_free : (a b : Typed) (stays : Bool) (form : Option Form) → (IsThere form → uses None a ≡ 0) → OperatesFree (by_left stays form) a b
left_free a b true (Some form) free = free tt
left_free a b true None free = tt
left_free a b false form free = tt

right_there : (op : BinaryOp) (operands : Operands) (d : Option Direct) → IsThere (direct_right op operands d) → IsThere d
right_there op operands (Some d) h = tt
right_there op operands None h = h

left_there : (op : BinaryOp) (operands : Operands) (d : Option Direct) → IsThere (direct_left op operands d) → IsThere d
left_there op operands (Some d) h = tt
left_there op operands None h = h

pub after_there : {A B : Type 0} (g : A → Option B) (o : Option A) → IsThere (option_and_then g o) → IsThere o
after_there g (Some x) h = tt
after_there g None h = h

held_free : (a b : Typed) (is : Bool) (form : Option Form) → OperatesFree (held_if is form) a b
held_free a b true (Some form) = tt
held_free a b true None = tt
held_free a b false form = tt

or_held_operates : (a b : Typed) (how held : Operating) → OperatesFree how a b → OperatesFree held a b → OperatesFree (operators.or_held how held) a b
or_held_operates a b (operating.Left form) held p q = p
or_held_operates a b (operating.Right form) held p q = p
or_held_operates a b (operating.Held form) held p q = p
or_held_operates a b operating.Stacked held p q = q

reads_free : (f : Framed) (pushed : ℕ) (op : BinaryOp) (operands : Operands) (a b : Typed) → OperatesFree (reading_of f pushed op operands a b) a b
reads_free f pushed op operands a b =
    right_free a b _ _ (λ h. constant_uses b (after_there _ (constant_in b) h))
    (right_free a b _ _ (λ h. direct_uses f pushed b (right_there op operands (direct_of f pushed b) h))
    (left_free a b _ _ (λ h. direct_uses f pushed a (left_there op operands (direct_of f pushed a) h))))

-- ---- assignments

if_there : {A : Type 0} (b : Bool) (o : Option A) → IsThere (if b then o else None) → IsThere o
if_there true o h = h
if_there false o h = absurd h

pointer_uses : (f : Framed) (pushed : ℕ) (e : Typed) → IsThere (pointer_of f pushed e) → uses None e ≡ 0
pointer_uses f pushed (node t (deref e)) h = direct_uses f pushed e h
pointer_uses f pushed (node t (member e m)) h = pointer_uses f pushed e (if_there (has_base (place_of f pushed e) (offset_at (types_of f.parts.types) (bare e) m)) (pointer_of f pushed e) h)
pointer_uses f pushed (node t (constant z)) h = refl
pointer_uses f pushed (node t null) h = refl
pointer_uses f pushed (node t (literal n)) h = refl
pointer_uses f pushed (node t (object i)) h = refl
pointer_uses f pushed (node t (func i)) h = refl
pointer_uses f pushed (node t (load e)) h = absurd h
pointer_uses f pushed (node t (address e)) h = absurd h
pointer_uses f pushed (node t (decay e)) h = absurd h
pointer_uses f pushed (node t (convert e)) h = absurd h
pointer_uses f pushed (node t (unary op e)) h = absurd h
pointer_uses f pushed (node t (binary op a b)) h = absurd h
pointer_uses f pushed (node t (both a b)) h = absurd h
pointer_uses f pushed (node t (either a b)) h = absurd h
pointer_uses f pushed (node t (choice c a b)) h = absurd h
pointer_uses f pushed (node t (comma a b)) h = absurd h
pointer_uses f pushed (node t (assign a b)) h = absurd h
pointer_uses f pushed (node t (assign_op op k a b)) h = absurd h
pointer_uses f pushed (node t (assign_step op a b)) h = absurd h
pointer_uses f pushed (node t (step how e)) h = absurd h
pointer_uses f pushed (node t (copy a b)) h = absurd h
pointer_uses f pushed (node t (call g es)) h = absurd h
pointer_uses f pushed (node t (pack e)) h = absurd h
pointer_uses f pushed (node t (spill i e)) h = absurd h
pointer_uses f pushed (node t rest) h = absurd h

through_free : (a b : Typed) (at : ℕ) (extent : Extent) (w : OperandByte × OperandByte) → uses None a ≡ 0 → StoresFree (through at extent w) a b
through_free a b at One w free = free
through_free a b at Two w free = free
through_free a b at Three w free = tt
through_free a b at Four w free = tt

pointer_free : (a b : Typed) (at : ℕ) (extent : Extent) (w : Option (OperandByte × OperandByte)) → (IsThere w → uses None a ≡ 0) → StoresFree (by_pointer at extent w) a b
pointer_free a b at extent (Some w) free = through_free a b at extent w (free tt)
pointer_free a b at extent None free = tt

value_free : (a b : Typed) (at : ℕ) (stored : Option Stored) (other : Storing) → (IsThere stored → uses None b ≡ 0) → StoresFree other a b → StoresFree (by_value at stored other) a b
value_free a b at (Some stored) other free before = free tt
value_free a b at None other free before = before

stored_free : (a b : Typed) (place : Place) (access : Access) (x y : Option Direct) → (IsThere x → uses None a ≡ 0) → (IsThere y → uses None b ≡ 0) → StoresFree (storing_by place access x y) a b
stored_free a b (Far at) (Whole kind) x y left right =
    value_free a b at _ _ (λ h. right (after_there _ y h)) (pointer_free a b at (extent_of kind) _ (λ h. left (after_there word_in x h)))
stored_free a b (Far at) (Part field) x y left right = tt
stored_free a b (Bank at) access x y left right = tt
stored_free a b (Near at) access x y left right = tt
stored_free a b (Data sym at) access x y left right = tt

held_at_free : (a b : Typed) (at : ℕ) (extent : Extent) → StoresFree (held_at at extent) a b
held_at_free a b at One = tt
held_at_free a b at Two = tt
held_at_free a b at Three = tt
held_at_free a b at Four = tt

held_stores_free : (a b : Typed) (is : Bool) (place : Place) (access : Access) → StoresFree (stores.held_if is place access) a b
held_stores_free a b true (Far at) (Whole kind) = held_at_free a b at (extent_of kind)
held_stores_free a b true (Far at) (Part field) = tt
held_stores_free a b true (Bank at) access = tt
held_stores_free a b true (Near at) access = tt
held_stores_free a b true (Data sym at) access = tt
held_stores_free a b false place access = tt

or_held_stores : (a b : Typed) (how held : Storing) → StoresFree how a b → StoresFree held a b → StoresFree (stores.or_held how held) a b
or_held_stores a b (storing.Left at stored) held p q = p
or_held_stores a b (storing.RightByte at low high) held p q = p
or_held_stores a b (storing.RightWord at low high) held p q = p
or_held_stores a b (storing.HeldByte at) held p q = p
or_held_stores a b (storing.HeldWord at) held p q = p
or_held_stores a b storing.Stacked held p q = q

pub stores_free : (f : Framed) (pushed : ℕ) (a b : Typed) → StoresFree (storing_of f pushed a b) a b
stores_free f pushed a b =
    let place : Place = place_of f pushed a in
    let access : Access = access_of (types_of f.parts.types) a in
    or_held_stores a b _ _
    (stored_free a b place access _ _
    (λ h. pointer_uses f pushed a (if_there (is_fixed (pointer_of f pushed a) || is_pure b) (pointer_of f pushed a) h))
    (direct_uses f pushed b))
    (held_stores_free a b (is_light f pushed b) place access)

-- ---- sums that are left out

sum_alone : (place : Place) (op : BinaryOp) (operands : Operands) (z : Option ℤ) → sum_has_base place (added_bytes op operands z) ≡ true → relation_of op ≡ None
sum_alone place Add operands z h = refl
sum_alone place Mul operands z h = cc
sum_alone place Div operands z h = cc
sum_alone place Rem operands z h = cc
sum_alone place Sub operands z h = cc
sum_alone place Shl operands z h = cc
sum_alone place Shr operands z h = cc
sum_alone place Lt operands z h = cc
sum_alone place Gt operands z h = cc
sum_alone place Le operands z h = cc
sum_alone place Ge operands z h = cc
sum_alone place Eq operands z h = cc
sum_alone place Ne operands z h = cc
sum_alone place BitAnd operands z h = cc
sum_alone place BitXor operands z h = cc
sum_alone place BitOr operands z h = cc

added_there : (place : Place) (op : BinaryOp) (operands : Operands) (z : Option ℤ) → sum_has_base place (added_bytes op operands z) ≡ true → IsThere z
added_there place op operands (Some z) h = tt
added_there place Add (PointerFirst size) None h = cc
added_there place Add (PointerLast size) None h = cc
added_there place Add (Numbers kind) None h = cc
added_there place Add (Pointers size) None h = cc
added_there place Mul operands None h = cc
added_there place Div operands None h = cc
added_there place Rem operands None h = cc
added_there place Sub operands None h = cc
added_there place Shl operands None h = cc
added_there place Shr operands None h = cc
added_there place Lt operands None h = cc
added_there place Gt operands None h = cc
added_there place Le operands None h = cc
added_there place Ge operands None h = cc
added_there place Eq operands None h = cc
added_there place Ne operands None h = cc
added_there place BitAnd operands None h = cc
added_there place BitXor operands None h = cc
added_there place BitOr operands None h = cc

-- one label beside those of the pointer
pub sum_uses : (place : Place) (op : BinaryOp) (operands : Operands) (t : QTy) (a b : Typed) → sum_has_base place (added_bytes op operands (constant_in b)) ≡ true → uses None (node t (binary op a b)) ≡ 1 + uses None a
sum_uses place op operands t a b h =
    rw (sum_alone place op operands (constant_in b) h, constant_uses b (added_there place op operands (constant_in b) h), add-zero) refl

pub operates_free : (f : Framed) (pushed : ℕ) (op : BinaryOp) (operands : Operands) (a b : Typed) → OperatesFree (operating_of f pushed op operands a b) a b
operates_free f pushed op operands a b = or_held_operates a b (reading_of f pushed op operands a b) _ (reads_free f pushed op operands a b) (held_free a b (is_light f pushed b) (held_form op operands))

-- ---- comparisons

low_left : (a b : Typed) (r : Relation) (low : Option OperandByte) (d : OperandByte) → uses None a ≡ 0 → uses None b ≡ 0 → ComparesFree (Byte Left low r d) None a None b
low_left a b r None d first other = other
low_left a b r (Some low) d first other = (first, other)

low_right : (a b : Typed) (r : Relation) (low : Option OperandByte) (d : OperandByte) → uses None b ≡ 0 → uses None a ≡ 0 → ComparesFree (Byte Right low r d) None a None b
low_right a b r None d first other = other
low_right a b r (Some low) d first other = (other, first)

meets_left : (a b : Typed) (r : Relation) (bytes : Bool) (kind : IntType) (x : Option Direct) (sides : Option Sides) → (IsThere x → uses None a ≡ 0) → uses None b ≡ 0 → ComparesFree (meeting Left r bytes kind x sides) None a None b
meets_left a b r bytes kind x None first other = tt
meets_left a b r false kind x (Some sides) first other = other
meets_left a b r true kind None (Some sides) first other = other
meets_left a b r true kind (Some d) (Some sides) first other = low_left a b r (byte_of d 0) (lowest sides) (first tt) other

meets_right : (a b : Typed) (r : Relation) (bytes : Bool) (kind : IntType) (x : Option Direct) (sides : Option Sides) → (IsThere x → uses None b ≡ 0) → uses None a ≡ 0 → ComparesFree (meeting Right r bytes kind x sides) None a None b
meets_right a b r bytes kind x None first other = tt
meets_right a b r false kind x (Some sides) first other = other
meets_right a b r true kind None (Some sides) first other = other
meets_right a b r true kind (Some d) (Some sides) first other = low_right a b r (byte_of d 0) (lowest sides) (first tt) other

-- one of two forms
either_free : (a b : Typed) (is : Bool) (c d : Comparing) → ComparesFree c None a None b → ComparesFree d None a None b → ComparesFree (if is then c else d) None a None b
either_free a b true c d one other = one
either_free a b false c d one other = other

beside_left : (a b : Typed) (r : Relation) (bytes : Bool) (kind : IntType) (x y : Option Direct) → (IsThere x → uses None a ≡ 0) → (IsThere y → uses None b ≡ 0) → ComparesFree (beside Left r bytes kind x y) None a None b
beside_left a b r bytes kind x None first other = tt
beside_left a b r bytes kind x (Some d) first other =
    either_free a b (is_raised r (range_of bytes kind) d) _ _ (meets_left a b (raised r) bytes kind x (sides_of (width_of kind) (one_more d)) first (other tt)) (meets_left a b r bytes kind x (sides_of (width_of kind) d) first (other tt))

beside_right : (a b : Typed) (r : Relation) (bytes : Bool) (kind : IntType) (x y : Option Direct) → (IsThere x → uses None b ≡ 0) → (IsThere y → uses None a ≡ 0) → ComparesFree (beside Right r bytes kind x y) None a None b
beside_right a b r bytes kind x None first other = tt
beside_right a b r bytes kind x (Some d) first other =
    either_free a b (is_raised r (range_of bytes kind) d) _ _ (meets_right a b (raised r) bytes kind x (sides_of (width_of kind) (one_more d)) first (other tt)) (meets_right a b r bytes kind x (sides_of (width_of kind) d) first (other tt))

held_by_free : (a b : Typed) (is bytes : Bool) (w : Width) (r : Relation) (kind : IntType) → ComparesFree (held_by is bytes w r kind) None a None b
held_by_free a b true true Ax r kind = tt
held_by_free a b true false Ax r kind = tt
held_by_free a b true bytes Eax r kind = tt
held_by_free a b false bytes w r kind = tt

or_held_free : (a b : Typed) (how held : Comparing) → ComparesFree how None a None b → ComparesFree held None a None b → ComparesFree (or_held how held) None a None b
or_held_free a b (Truth side) held p q = p
or_held_free a b (Byte side None r d) held p q = p
or_held_free a b (Byte side (Some low) r d) held p q = p
or_held_free a b (Whole side r is_signed sides) held p q = p
or_held_free a b (Held r is_signed) held p q = p
or_held_free a b (HeldByte r) held p q = p
or_held_free a b Stacked held p q = q

compared_free : (f : Framed) (pushed : ℕ) (r : Relation) (kind : IntType) (a b : Typed) → ComparesFree (or_held (compared_by r (is_byte a && is_byte b) kind (is_pure b) (direct_of f pushed a) (direct_of f pushed b)) (held_by (is_light f pushed b) (is_byte a && is_byte b) (width_of kind) r kind)) None a None b
compared_free f pushed r kind a b =
    or_held_free a b (compared_by r (is_byte a && is_byte b) kind (is_pure b) (direct_of f pushed a) (direct_of f pushed b)) _ (either_free a b (changes kind (is_pure b) (direct_of f pushed a) (direct_of f pushed b)) _ _
    (beside_right a b (mirrored r) (is_byte a && is_byte b) kind (direct_of f pushed b) (direct_of f pushed a) (direct_uses f pushed b) (direct_uses f pushed a))
    (beside_left a b r (is_byte a && is_byte b) kind (direct_of f pushed a) (direct_of f pushed b) (direct_uses f pushed a) (direct_uses f pushed b)))
    (held_by_free a b (is_light f pushed b) (is_byte a && is_byte b) (width_of kind) r kind)

-- by which of the sides is 0
zero_free : (f : Framed) (pushed : ℕ) (r : Relation) (kind : IntType) (a b : Typed) (za zb : Bool) (s : Option Bool) → is_zero a ≡ za → is_zero b ≡ zb → ComparesFree (if is_some (if zb then s else None) then Truth Left else (if is_some (if za then s else None) then Truth Right else or_held (compared_by r (is_byte a && is_byte b) kind (is_pure b) (direct_of f pushed a) (direct_of f pushed b)) (held_by (is_light f pushed b) (is_byte a && is_byte b) (width_of kind) r kind))) (if zb then s else None) a (if za then s else None) b
zero_free f pushed r kind a b true true None is_a is_b = compared_free f pushed r kind a b
zero_free f pushed r kind a b true false None is_a is_b = compared_free f pushed r kind a b
zero_free f pushed r kind a b false true None is_a is_b = compared_free f pushed r kind a b
zero_free f pushed r kind a b false false s is_a is_b = compared_free f pushed r kind a b
zero_free f pushed r kind a b true true (Some s) is_a is_b = zero_uses (Some s) b is_b
zero_free f pushed r kind a b false true (Some s) is_a is_b = zero_uses None b is_b
zero_free f pushed r kind a b true false (Some s) is_a is_b = zero_uses None a is_a

pub compares_free : (f : Framed) (pushed : ℕ) (r : Relation) (kind : IntType) (a b : Typed) → ComparesFree (comparing_of f pushed r kind a b) (tested_by r b) a (tested_by r a) b
compares_free f pushed r kind a b = zero_free f pushed r kind a b (is_zero a) (is_zero b) (zero_sense r) refl refl

-- no side is tested of which the low byte alone is had
lows_plain : (how : Comparing) → LowsPlain how None None
lows_plain (Truth side) = tt
lows_plain (Byte side low r d) = (refl, refl)
lows_plain (Whole side r is_signed sides) = tt
lows_plain (Held r is_signed) = tt
lows_plain (HeldByte r) = (refl, refl)
lows_plain Stacked = tt

lows_if : (s r : Option Bool) (how : Comparing) → LowsPlain (if is_some s then Truth Left else (if is_some r then Truth Right else how)) s r
lows_if (Some s) r how = tt
lows_if None (Some r) how = tt
lows_if None None how = lows_plain how

pub compares_plain : (f : Framed) (pushed : ℕ) (r : Relation) (kind : IntType) (a b : Typed) → LowsPlain (comparing_of f pushed r kind a b) (tested_by r b) (tested_by r a)
compares_plain f pushed r kind a b = lows_if (tested_by r b) (tested_by r a) _
