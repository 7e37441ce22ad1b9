-- What holds of each operand that is read where it lies, as that it calls nothing.
use Rattle.std.proofs.Common.{◌≡◌, ℕ, ◌&&◌, ◌||◌, Bool, true, false, Option, None, Some, IsSome, ℤ, refl}
use Rattle.std.specs.Prelude.{if◌then◌else◌, is_some, option_and_then}
use Rattle.c65_base.specs.declared.operators.BinaryOp.{BinaryOp}
use Rattle.c65_ints.specs.declared.types.IntType.{IntType}
use Rattle.c65_ctype.specs.Trees.{QTy, type_in}
use Rattle.c65_ctype.specs.Views.{types_of}
use Rattle.c65_csem.specs.Trees.{Typed, node, constant, null, literal, object, func, deref, member, load, address, decay, convert}
use Rattle.c65_genframe.specs.Frames.{Framed}
use Rattle.c65_code.specs.declared.routine.Width.{Width}
use Rattle.c65_code.specs.declared.routine.Width.TheVariants.{Ax, Eax}
use Rattle.c65_genwide.specs.Wide.{width_of}
use Rattle.c65_genload.specs.declared.places.Place.{Place}
use Rattle.c65_genload.specs.declared.places.Access.{Access}
use Rattle.c65_gendirect.specs.declared.direct.Direct.{Direct}
use Rattle.c65_gendirect.specs.declared.relation.Relation.{Relation}
use Rattle.c65_gendirect.specs.declared.compare.Sides.{Sides}
use Rattle.c65_gendirect.specs.Bytes.{byte_of, converted}
use Rattle.c65_gendirect.specs.Compare.{mirrored}
use Rattle.c65_genexpr.specs.declared.comparing.Side.{Side}
use Rattle.c65_genexpr.specs.declared.comparing.Side.TheVariants as sides
use Rattle.c65_genexpr.specs.declared.comparing.Comparing.{Comparing}
use Rattle.c65_genexpr.specs.declared.comparing.Comparing.TheVariants.{Truth, Byte, Whole, Held, HeldByte, Stacked}
use Rattle.c65_genexpr.specs.declared.operands.Operands.{Operands}
use Rattle.c65_genexpr.specs.declared.operating.Form.{Form}
use Rattle.c65_genexpr.specs.declared.operating.Operating.{Operating}
use Rattle.c65_genexpr.specs.declared.operating.Operating.TheVariants as operating
use Rattle.c65_genexpr.specs.Types.{kind_of, bare, offset_at, access_of}
use Rattle.c65_genexpr.specs.Places.{has_base, added_bytes, sum_has_base, place_of, is_plain}
use Rattle.c65_genexpr.specs.Storing.{pointer_of, unless_changed, storing_of}
use Rattle.c65_genexpr.specs.Operands.{residue_of, constant_in}
use Rattle.c65_genexpr.specs.Direct.{kept_at, address_at, address_of, takes_bytes, converted_if, sides_of, direct_of, is_fixed, is_pure, is_byte}
use Rattle.c65_genexpr.specs.Comparing.{is_zero, zero_sense, tested_by, is_raised, raised, one_more, range_of, meeting, beside, changes, compared_by, comparing_of, held_by}
use Rattle.c65_genexpr.specs.Operating.{constant_form, word_in, right_form, left_form, constant_right, direct_right, direct_left, by_left, by_right, operating_of, reading_of, is_light, held_form, held_if, or_held}
use Rattle.c65_gen_law_lines.proofs.Drops.{held_unstored, or_held_unstored, plain_if, Unstored, some_if, stored_by, sum_constant}
use Rattle.c65_genexpr.specs.Comparing as comparisons

-- what holds of objects, constants and addresses, and with a tree of its parts, conversions and addresses, and of what it names
pub record Reaches (P : Typed → Type 0) : Type 0 where
  pub constant : (t : QTy) (z : ℤ) → P (node t (constant z))
  pub null : (t : QTy) → P (node t null)
  pub literal : (t : QTy) (n : ℕ) → P (node t (literal n))
  pub object : (t : QTy) (i : ℕ) → P (node t (object i))
  pub func : (t : QTy) (i : ℕ) → P (node t (func i))
  pub deref : (t : QTy) (e : Typed) → P e → P (node t (deref e))
  pub member : (t : QTy) (e : Typed) (m : ℕ) → P e → P (node t (member e m))
  pub load : (t : QTy) (e : Typed) → P e → P (node t (load e))
  pub address : (t : QTy) (e : Typed) → P e → P (node t (address e))
  pub decay : (t : QTy) (e : Typed) → P e → P (node t (decay e))
  pub convert : (t : QTy) (e : Typed) → P e → P (node t (convert e))

some_then : {A B : Type 0} (g : A → Option B) (o : Option A) (y : B) → option_and_then g o ≡ Some y → (x : A) × (o ≡ Some x)
some_then g None y e = absurd cc
some_then g (Some x) y e = (x, refl)

-- ---- a value that is read where it lies

plain_reached : {P : Typed → Type 0} → Reaches P → (e : Typed) → is_plain e ≡ true → P e
plain_reached p (node t (literal n)) h = p.literal t n
plain_reached p (node t (object i)) h = p.object t i
plain_reached p (node t (deref e)) h = p.deref t e (plain_reached p e h)
plain_reached p (node t (member e m)) h = p.member t e m (plain_reached p e h)
plain_reached p (node t (address e)) h = p.address t e (plain_reached p e h)
plain_reached p (node t (decay e)) h = p.decay t e (plain_reached p e h)
plain_reached p (node t _) h = absurd cc

address_reached : {P : Typed → Type 0} → Reaches P → (f : Framed) (pushed : ℕ) (e : Typed) (d : Direct) → address_of f pushed e ≡ Some d → P e
address_reached p f pushed (node t (func i)) d e = p.func t i
address_reached p f pushed (node t n) d e = plain_reached p (node t n) (plain_if (is_plain (node t n)) (address_at (place_of f pushed (node t n))) d e)

conversion_some : (b : Bool) (kind : IntType) (o : Option Direct) (d : Direct) → converted_if b kind o ≡ Some d → (x : Direct) × (o ≡ Some x)
conversion_some true kind o d e = some_then (converted kind) o d e
conversion_some false kind o d e = absurd cc

pub direct_reached : {P : Typed → Type 0} → Reaches P → (f : Framed) (pushed : ℕ) (e : Typed) (d : Direct) → direct_of f pushed e ≡ Some d → P e
direct_reached p f pushed (node t (constant z)) d e = p.constant t z
direct_reached p f pushed (node t null) d e = p.null t
direct_reached p f pushed (node t (load a)) d e = p.load t a (plain_reached p a (plain_if (is_plain a) (kept_at (place_of f pushed a) (access_of (types_of f.parts.types) a)) d e))
direct_reached p f pushed (node t (address a)) d e = p.address t a (address_reached p f pushed a d e)
direct_reached p f pushed (node t (decay a)) d e = p.decay t a (address_reached p f pushed a d e)
direct_reached p f pushed (node t (convert a)) d e =
    let part = conversion_some (takes_bytes (type_in t) (bare a)) (kind_of (type_in t)) (direct_of f pushed a) d e in
    p.convert t a (direct_reached p f pushed a part.0 part.1)
direct_reached p f pushed (node t _) d e = absurd cc

pub constant_reached : {P : Typed → Type 0} → Reaches P → (e : Typed) (z : ℤ) → constant_in e ≡ Some z → P e
constant_reached p (node t (constant z)) y e = p.constant t z
constant_reached p (node t _) y e = absurd cc

zero_reached : {P : Typed → Type 0} → Reaches P → (e : Typed) → is_zero e ≡ true → P e
zero_reached p (node t (constant z)) e = p.constant t z
zero_reached p (node t null) e = p.null t
zero_reached p (node t _) e = absurd cc

-- ---- assignments

-- a pointer that is read
pointer_reached : {P : Typed → Type 0} → Reaches P → (f : Framed) (pushed : ℕ) (e : Typed) (d : Direct) → pointer_of f pushed e ≡ Some d → P e
pointer_reached p f pushed (node t (deref a)) d e = p.deref t a (direct_reached p f pushed a d e)
pointer_reached p f pushed (node t (member a m)) d e =
    p.member t a m (pointer_reached p f pushed a d (some_if (has_base (place_of f pushed a) (offset_at (types_of f.parts.types) (bare a) m)) (pointer_of f pushed a) d e))
pointer_reached p f pushed (node t _) d e = absurd cc

pub storing_reached : {P : Typed → Type 0} → Reaches P → (f : Framed) (pushed : ℕ) (a b : Typed) → Unstored (storing_of f pushed a b) (P a) (P b)
storing_reached {P = P} p f pushed a b =
    let place : Place = place_of f pushed a in
    let access : Access = access_of (types_of f.parts.types) a in
    or_held_unstored (P a) (P b) _ _
    (stored_by (P a) (P b) place access (unless_changed (is_pure b) (pointer_of f pushed a)) (direct_of f pushed b)
    (λ d e. pointer_reached p f pushed a d (some_if (is_fixed (pointer_of f pushed a) || is_pure b) (pointer_of f pushed a) d e)) (direct_reached p f pushed b))
    (held_unstored (P a) (P b) (is_light f pushed b) place access)

-- the constant of a sum that is told with its pointer
pub sum_reached : {P : Typed → Type 0} → Reaches P → (place : Place) (op : BinaryOp) (operands : Operands) (b : Typed) → sum_has_base place (added_bytes op operands (constant_in b)) ≡ true → P b
sum_reached p place op operands b h = let z = sum_constant place op operands b h in constant_reached p b z.0 z.1

-- ---- comparisons

abbrev pub First : Side → Type 0 → Type 0 → Type 0
First sides.Left A B = A
First sides.Right A B = B

-- one side is read where it lies, and the other one perhaps
abbrev pub Compared : Type 0 → Type 0 → Comparing → Type 0
Compared A B (Truth side) = First side B A
Compared A B (Byte side low r d) = First side B A × (IsSome low → First side A B)
Compared A B (Whole side r is_signed d) = First side B A
Compared A B (Held r is_signed) = Unit {0}
Compared A B (HeldByte r) = Unit {0}
Compared A B Stacked = Unit {0}

option_reached : {A B : Type 0} {C : Type 0} (g : A → Option B) (o : Option A) → ((x : A) → o ≡ Some x → C) → IsSome (option_and_then g o) → C
option_reached g None h e = absurd cc
option_reached g (Some x) h e = h x refl

meeting_reached : (A B : Type 0) (side : Side) (r : Relation) (bytes : Bool) (kind : IntType) (first : Option Direct) (s : Option Sides) → ((d : Direct) → first ≡ Some d → First side A B) → First side B A → Compared A B (meeting side r bytes kind first s)
meeting_reached A B side r bytes kind first None own other = tt
meeting_reached A B side r true kind first (Some s) own other = (other, option_reached (λ d. byte_of d 0) first own)
meeting_reached A B side r false kind first (Some s) own other = other

compared_if : (A B : Type 0) (b : Bool) (x y : Comparing) → Compared A B x → Compared A B y → Compared A B (if b then x else y)
compared_if A B true x y p q = p
compared_if A B false x y p q = q

beside_reached : (A B : Type 0) (side : Side) (r : Relation) (bytes : Bool) (kind : IntType) (first second : Option Direct) → ((d : Direct) → first ≡ Some d → First side A B) → ((d : Direct) → second ≡ Some d → First side B A) → Compared A B (beside side r bytes kind first second)
beside_reached A B side r bytes kind first None own other = tt
beside_reached A B side r bytes kind first (Some d) own other =
    compared_if A B (is_raised r (range_of bytes kind) d) (meeting side (raised r) bytes kind first (sides_of (width_of kind) (one_more d))) (meeting side r bytes kind first (sides_of (width_of kind) d))
    (meeting_reached A B side (raised r) bytes kind first (sides_of (width_of kind) (one_more d)) own (other d refl)) (meeting_reached A B side r bytes kind first (sides_of (width_of kind) d) own (other d refl))

pub compared_reached : (A B : Type 0) (r : Relation) (bytes : Bool) (kind : IntType) (pure : Bool) (a b : Option Direct) → ((d : Direct) → a ≡ Some d → A) → ((d : Direct) → b ≡ Some d → B) → Compared A B (compared_by r bytes kind pure a b)
compared_reached A B r bytes kind pure a b pa pb =
    compared_if A B (changes kind pure a b) (beside sides.Right (mirrored r) bytes kind b a) (beside sides.Left r bytes kind a b)
    (beside_reached A B sides.Right (mirrored r) bytes kind b a pb pa) (beside_reached A B sides.Left r bytes kind a b pa pb)

held_by_reached : (A B : Type 0) (is bytes : Bool) (w : Width) (r : Relation) (kind : IntType) → Compared A B (held_by is bytes w r kind)
held_by_reached A B true true Ax r kind = tt
held_by_reached A B true false Ax r kind = tt
held_by_reached A B true bytes Eax r kind = tt
held_by_reached A B false bytes w r kind = tt

pub or_held_reached : (A B : Type 0) (how : Comparing) (is bytes : Bool) (w : Width) (r : Relation) (kind : IntType) → Compared A B how → Compared A B (comparisons.or_held how (held_by is bytes w r kind))
or_held_reached A B (Truth side) is bytes w r kind p = p
or_held_reached A B (Byte side low q d) is bytes w r kind p = p
or_held_reached A B (Whole side q is_signed d) is bytes w r kind p = p
or_held_reached A B (Held q is_signed) is bytes w r kind p = p
or_held_reached A B (HeldByte q) is bytes w r kind p = p
or_held_reached A B Stacked is bytes w r kind p = held_by_reached A B is bytes w r kind

pub tested_reached : {P : Typed → Type 0} → Reaches P → (r : Relation) (e : Typed) → is_some (tested_by r e) ≡ true → P e
tested_reached {P = P} p r e h = by (is_zero e) refl h
  where
    by : (b : Bool) → is_zero e ≡ b → is_some (if b then zero_sense r else None) ≡ true → P e
    by true z h = zero_reached p e z
    by false z h = absurd cc

pub comparing_reached : {P : Typed → Type 0} → Reaches P → (f : Framed) (pushed : ℕ) (r : Relation) (kind : IntType) (a b : Typed) → Compared (P a) (P b) (comparing_of f pushed r kind a b)
comparing_reached {P = P} p f pushed r kind a b = by (is_some (tested_by r b)) (is_some (tested_by r a)) refl refl
  where
    left : Option Direct
    left = direct_of f pushed a

    right : Option Direct
    right = direct_of f pushed b

    by : (x y : Bool) → is_some (tested_by r b) ≡ x → is_some (tested_by r a) ≡ y → Compared (P a) (P b) (if x then Truth sides.Left else (if y then Truth sides.Right else comparisons.or_held (compared_by r (is_byte a && is_byte b) kind (is_pure b) left right) (held_by (is_light f pushed b) (is_byte a && is_byte b) (width_of kind) r kind)))
    by true y h k = tested_reached p r b h
    by false true h k = tested_reached p r a k
    by false false h k = or_held_reached (P a) (P b) (compared_by r (is_byte a && is_byte b) kind (is_pure b) left right) (is_light f pushed b) (is_byte a && is_byte b) (width_of kind) r kind (compared_reached (P a) (P b) r (is_byte a && is_byte b) kind (is_pure b) left right (direct_reached p f pushed a) (direct_reached p f pushed b))

-- ---- operators

-- the other operand is read where it lies
abbrev pub Operated : Type 0 → Type 0 → Operating → Type 0
Operated A B (operating.Left form) = B
Operated A B (operating.Right form) = A
Operated A B (operating.Held form) = Unit {0}
Operated A B operating.Stacked = Unit {0}

right_reached : (A B : Type 0) (o : Option Form) (other : Operating) → ((x : Form) → o ≡ Some x → B) → Operated A B other → Operated A B (by_right o other)
right_reached A B None other h rest = rest
right_reached A B (Some x) other h rest = h x refl

left_reached : (A B : Type 0) (stays : Bool) (o : Option Form) → ((x : Form) → o ≡ Some x → A) → Operated A B (by_left stays o)
left_reached A B true (Some x) h = h x refl
left_reached A B true None h = tt
left_reached A B false o h = tt

operand_reached : {A B : Type 0} {C : Type 0} (g : A → Option B) (h : Direct → Option A) (o : Option Direct) → ((d : Direct) → o ≡ Some d → C) → (x : B) → option_and_then g (option_and_then h o) ≡ Some x → C
operand_reached g h None own x e = absurd cc
operand_reached g h (Some d) own x e = own d refl

constant_right_reached : {P : Typed → Type 0} → Reaches P → (op : BinaryOp) (operands : Operands) (e : Typed) (x : Form) → constant_right op operands e ≡ Some x → P e
constant_right_reached p op operands e x h =
    let z = some_then (λ (z : ℤ). constant_form op operands (residue_of z)) (constant_in e) x h in
    constant_reached p e z.0 z.1

held_reached : (A B : Type 0) (is : Bool) (o : Option Form) → Operated A B (held_if is o)
held_reached A B true (Some x) = tt
held_reached A B true None = tt
held_reached A B false o = tt

or_held_operated : (A B : Type 0) (how held : Operating) → Operated A B how → Operated A B held → Operated A B (or_held how held)
or_held_operated A B (operating.Left form) held p q = p
or_held_operated A B (operating.Right form) held p q = p
or_held_operated A B (operating.Held form) held p q = p
or_held_operated A B operating.Stacked held p q = q

reading_reached : {P : Typed → Type 0} → Reaches P → (f : Framed) (pushed : ℕ) (op : BinaryOp) (operands : Operands) (a b : Typed) → Operated (P a) (P b) (reading_of f pushed op operands a b)
reading_reached {P = P} p f pushed op operands a b =
    let left : Option Direct = direct_of f pushed a in
    let right : Option Direct = direct_of f pushed b in
    right_reached (P a) (P b) (constant_right op operands b) (by_right (direct_right op operands right) (by_left (is_fixed left || is_pure b) (direct_left op operands left))) (constant_right_reached p op operands b)
    (right_reached (P a) (P b) (direct_right op operands right) (by_left (is_fixed left || is_pure b) (direct_left op operands left)) (operand_reached (λ w. right_form op operands w.0 w.1) word_in right (direct_reached p f pushed b))
    (left_reached (P a) (P b) (is_fixed left || is_pure b) (direct_left op operands left) (operand_reached (λ w. left_form op operands w.0 w.1) word_in left (direct_reached p f pushed a))))

pub operating_reached : {P : Typed → Type 0} → Reaches P → (f : Framed) (pushed : ℕ) (op : BinaryOp) (operands : Operands) (a b : Typed) → Operated (P a) (P b) (operating_of f pushed op operands a b)
operating_reached {P = P} p f pushed op operands a b =
    or_held_operated (P a) (P b) (reading_of f pushed op operands a b) _ (reading_reached p f pushed op operands a b) (held_reached (P a) (P b) (is_light f pushed b) (held_form op operands))
