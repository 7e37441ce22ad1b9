-- Sides that an operator reads where they lie have no labels and call nothing.
use Rattle.std.proofs.Common.{◌≡◌, ◌+◌, ℕ, ◌==◌, add-zero, Bool, true, false, Option, Some, None, ℤ, [], refl}
use Rattle.std.specs.Prelude.{◌&&◌, ◌||◌, if◌then◌else◌, is_some, option_and_then, option_map}
use Rattle.c65_base.specs.declared.operators.BinaryOp.{BinaryOp}
use Rattle.c65_base.specs.declared.operators.BinaryOp.TheVariants as ops
use Rattle.c65_ints.specs.declared.types.IntType.{IntType}
use Rattle.c65_ctype.specs.Trees.{QTy, type_in}
use Rattle.c65_ctype.specs.Views.{types_of}
use Rattle.c65_csem.specs.Trees.{Typed, node, constant, null, literal, object, func, deref, member, load, address, decay, convert, binary}
use Rattle.c65_code.specs.declared.routine.Width.{Width}
use Rattle.c65_code.specs.declared.routine.Width.TheVariants.{Ax, Eax}
use Rattle.c65_genframe.specs.Frames.{Framed}
use Rattle.c65_genwide.specs.Wide.{width_of}
use Rattle.c65_genload.specs.declared.places.Place.{Place}
use Rattle.c65_genload.specs.declared.places.Place.TheVariants as places
use Rattle.c65_genload.specs.declared.places.Access.{Access}
use Rattle.c65_genload.specs.declared.places.Access.TheVariants.{Whole, Part}
use Rattle.c65_genload.specs.declared.places.Extent.{Extent}
use Rattle.c65_genload.specs.declared.places.Extent.TheVariants.{One, Two, Three, Four}
use Rattle.c65_genload.specs.Places.{extent_of}
use Rattle.c65_gendirect.specs.declared.bytes.OperandByte.{OperandByte}
use Rattle.c65_gendirect.specs.declared.direct.Direct.{Direct}
use Rattle.c65_gendirect.specs.declared.compare.Sides.{Sides}
use Rattle.c65_gendirect.specs.declared.relation.Relation.{Relation}
use Rattle.c65_gendirect.specs.Bytes.{byte_of}
use Rattle.c65_gendirect.specs.declared.through.Stored.{Stored}
use Rattle.c65_gendirect.specs.Compare.{mirrored, relation_of}
use Rattle.c65_genshift.specs.declared.quick.Quick.{Quick}
use Rattle.c65_genshift.specs.Quick.{quick_of}
use Rattle.c65_genexpr.specs.declared.comparing.Side.TheVariants as side
use Rattle.c65_genexpr.specs.declared.comparing.Comparing.{Comparing}
use Rattle.c65_genexpr.specs.declared.comparing.Comparing.TheVariants as comparing
use Rattle.c65_genexpr.specs.declared.operating.Form.{Form}
use Rattle.c65_genexpr.specs.declared.operating.Form.TheVariants as form
use Rattle.c65_genexpr.specs.declared.operating.Operating.{Operating}
use Rattle.c65_genexpr.specs.declared.operating.Operating.TheVariants as operating
use Rattle.c65_genexpr.specs.declared.operands.Operands.{Operands}
use Rattle.c65_genexpr.specs.declared.operands.Operands.TheVariants.{Numbers, PointerFirst, PointerLast, Pointers}
use Rattle.c65_genexpr.specs.Types.{kind_of, bare, offset_at, access_of}
use Rattle.c65_genexpr.specs.declared.storing.Storing.{Storing}
use Rattle.c65_genexpr.specs.declared.storing.Storing.TheVariants as storing
use Rattle.c65_genexpr.specs.Places.{has_base, added_bytes, sum_has_base, place_of, is_plain}
use Rattle.c65_genexpr.specs.Storing as stores
use Rattle.c65_genexpr.specs.Storing.{pointer_of, bytes_stored, through, unless_changed, by_value, by_pointer, storing_by, storing_of}
use Rattle.c65_genexpr.specs.Operands.{residue_of, negative, constant_in}
use Rattle.c65_genexpr.specs.Direct.{kept_at, address_at, address_of, takes_bytes, converted_if, sides_of, direct_of, is_fixed, is_pure, is_byte}
use Rattle.c65_genexpr.specs.Comparing.{is_zero, zero_sense, tested_by, is_raised, raised, one_more, range_of, meeting, beside, changes, compared_by, held_by, or_held, comparing_of, takes_low}
use Rattle.c65_genexpr.specs.Operating.{sum_by, mask_by, number_form, offset_form, constant_form, word_in, word_if, element_form, right_form, under_if, left_form, constant_right, direct_right, direct_left, by_left, by_right, reading_of, is_light, held_elements, held_form, held_if, operating_of}
use Rattle.c65_genexpr.specs.Operating as operators
use Rattle.c65_genexpr.specs.Held.{held_low, held_high}
use Rattle.c65_genexpr.specs.Uses.{uses}
use Rattle.c65_gen_law_lines.specs.Stack.{calls_of}
use Rattle.c65_gen_law_lines.proofs.Shifts.{IsQuick, quick_is_quick}

-- ---- values that are read where they lie

-- no labels, and no calls
pub record Idle (f : Framed) (e : Typed) : Type 0 where
  pub uses : uses None e ≡ 0
  pub calls : calls_of f e ≡ []

-- a place that is told without a sum
plain_idle : (f : Framed) (e : Typed) → is_plain e ≡ true → Idle f e
plain_idle f (node t (literal n)) h = record { uses = refl; calls = refl }
plain_idle f (node t (object i)) h = record { uses = refl; calls = refl }
plain_idle f (node t (deref e)) h = let idle : Idle f e = plain_idle f e h in record { uses = idle.uses; calls = idle.calls }
plain_idle f (node t (member e m)) h = let idle : Idle f e = plain_idle f e h in record { uses = idle.uses; calls = idle.calls }
plain_idle f (node t (address e)) h = let idle : Idle f e = plain_idle f e h in record { uses = idle.uses; calls = idle.calls }
plain_idle f (node t (decay e)) h = let idle : Idle f e = plain_idle f e h in record { uses = idle.uses; calls = idle.calls }
plain_idle f (node t _) h = absurd cc

pub plain_if : {A : Type 0} (plain : Bool) (o : Option A) (x : A) → (if plain then o else None) ≡ Some x → plain ≡ true
plain_if true o x h = refl
plain_if false o x h = absurd cc

address_idle : (f : Framed) (pushed : ℕ) (e : Typed) (d : Direct) → address_of f pushed e ≡ Some d → Idle f e
address_idle f pushed (node t (func i)) d h = record { uses = refl; calls = refl }
address_idle f pushed (node t n) d h = plain_idle f (node t n) (plain_if (is_plain (node t n)) (address_at (place_of f pushed (node t n))) d h)

-- what is converted is direct
converted_from : (b : Bool) (to : IntType) (x : Option Direct) (d : Direct) {A : Type 0} → ((c : Direct) → x ≡ Some c → A) → converted_if b to x ≡ Some d → A
converted_from true to (Some c) d found h = found c refl
converted_from true to None d found h = absurd cc
converted_from false to x d found h = absurd cc

pub direct_idle : (f : Framed) (pushed : ℕ) (e : Typed) (d : Direct) → direct_of f pushed e ≡ Some d → Idle f e
direct_idle f pushed (node t (constant z)) d h = record { uses = refl; calls = refl }
direct_idle f pushed (node t null) d h = record { uses = refl; calls = refl }
direct_idle f pushed (node t (load e)) d h =
    let idle : Idle f e = plain_idle f e (plain_if (is_plain e) (kept_at (place_of f pushed e) (access_of (types_of f.parts.types) e)) d h) in
    record { uses = idle.uses; calls = idle.calls }
direct_idle f pushed (node t (address e)) d h = let idle : Idle f e = address_idle f pushed e d h in record { uses = idle.uses; calls = idle.calls }
direct_idle f pushed (node t (decay e)) d h = let idle : Idle f e = address_idle f pushed e d h in record { uses = idle.uses; calls = idle.calls }
direct_idle f pushed (node t (convert e)) d h =
    let idle : Idle f e = converted_from (takes_bytes (type_in t) (bare e)) (kind_of (type_in t)) (direct_of f pushed e) d (direct_idle f pushed e) h in
    record { uses = idle.uses; calls = idle.calls }
direct_idle f pushed (node t _) d h = absurd cc

pub constant_idle : (f : Framed) (e : Typed) (z : ℤ) → constant_in e ≡ Some z → Idle f e
constant_idle f (node t (constant z)) y h = record { uses = refl; calls = refl }
constant_idle f (node t _) y h = absurd cc

-- a side that is 0 is a constant
pub zero_uses : (s : Option Bool) (e : Typed) → is_zero e ≡ true → uses s e ≡ 0
zero_uses s (node t (constant z)) h = refl
zero_uses s (node t null) h = refl
zero_uses s (node t _) h = absurd cc

pub zero_calls : (f : Framed) (e : Typed) → is_zero e ≡ true → calls_of f e ≡ []
zero_calls f (node t (constant z)) h = refl
zero_calls f (node t null) h = refl
zero_calls f (node t _) h = absurd cc

pub tested_zero : (r : Relation) (e : Typed) (s : Bool) → tested_by r e ≡ Some s → is_zero e ≡ true
tested_zero r e s h = go (is_zero e) refl h
  where
    go : (b : Bool) → is_zero e ≡ b → (if b then zero_sense r else None) ≡ Some s → is_zero e ≡ true
    go true here more = here
    go false here more = absurd cc

-- ---- comparisons

-- what is so of sides whose lines a comparison does not take
abbrev pub IfRead : Option OperandByte → Type 0 → Type 0
IfRead None A = Unit {0}
IfRead (Some d) A = A

abbrev pub Unread : Comparing → Type 0 → Type 0 → Type 0
Unread (comparing.Truth side.Left) A B = B
Unread (comparing.Truth side.Right) A B = A
Unread (comparing.Byte side.Left low r d) A B = IfRead low A × B
Unread (comparing.Byte side.Right low r d) A B = IfRead low B × A
Unread (comparing.Whole side.Left r is_signed sides) A B = B
Unread (comparing.Whole side.Right r is_signed sides) A B = A
Unread (comparing.Held r is_signed) A B = Unit {0}
Unread (comparing.HeldByte r) A B = Unit {0}
Unread comparing.Stacked A B = Unit {0}

first_read : {A : Type 0} (x : Option Direct) → ((d : Direct) → x ≡ Some d → A) → IfRead (option_and_then (λ d. byte_of d 0) x) A
first_read None found = tt
first_read (Some d) found = go (byte_of d 0) (found d refl)
  where
    go : {A : Type 0} (y : Option OperandByte) → A → IfRead y A
    go None a = tt
    go (Some b) a = a

meeting_left : {A B : Type 0} (r : Relation) (bytes : Bool) (kind : IntType) (x : Option Direct) (sides : Option Sides) → ((d : Direct) → x ≡ Some d → A) → B → Unread (meeting side.Left r bytes kind x sides) A B
meeting_left r bytes kind x None found b = tt
meeting_left r true kind x (Some sides) found b = (first_read x found, b)
meeting_left r false kind x (Some sides) found b = b

meeting_right : {A B : Type 0} (r : Relation) (bytes : Bool) (kind : IntType) (x : Option Direct) (sides : Option Sides) → ((d : Direct) → x ≡ Some d → B) → A → Unread (meeting side.Right r bytes kind x sides) A B
meeting_right r bytes kind x None found a = tt
meeting_right r true kind x (Some sides) found a = (first_read x found, a)
meeting_right r false kind x (Some sides) found a = a

unread_if : (A B : Type 0) (b : Bool) (x y : Comparing) → Unread x A B → Unread y A B → Unread (if b then x else y) A B
unread_if A B true x y p q = p
unread_if A B false x y p q = q

beside_left : {A B : Type 0} (r : Relation) (bytes : Bool) (kind : IntType) (x y : Option Direct) → ((d : Direct) → x ≡ Some d → A) → ((d : Direct) → y ≡ Some d → B) → Unread (beside side.Left r bytes kind x y) A B
beside_left r bytes kind x None left right = tt
beside_left {A = A} {B = B} r bytes kind x (Some d) left right = unread_if A B (is_raised r (range_of bytes kind) d) _ _ (meeting_left (raised r) bytes kind x (sides_of (width_of kind) (one_more d)) left (right d refl)) (meeting_left r bytes kind x (sides_of (width_of kind) d) left (right d refl))

beside_right : {A B : Type 0} (r : Relation) (bytes : Bool) (kind : IntType) (x y : Option Direct) → ((d : Direct) → x ≡ Some d → B) → ((d : Direct) → y ≡ Some d → A) → Unread (beside side.Right r bytes kind x y) A B
beside_right r bytes kind x None right left = tt
beside_right {A = A} {B = B} r bytes kind x (Some d) right left = unread_if A B (is_raised r (range_of bytes kind) d) _ _ (meeting_right (raised r) bytes kind x (sides_of (width_of kind) (one_more d)) right (left d refl)) (meeting_right r bytes kind x (sides_of (width_of kind) d) right (left d refl))

compared_unread : {A B : Type 0} (r : Relation) (bytes : Bool) (kind : IntType) (pure : Bool) (x y : Option Direct) → ((d : Direct) → x ≡ Some d → A) → ((d : Direct) → y ≡ Some d → B) → Unread (compared_by r bytes kind pure x y) A B
compared_unread {A = A} {B = B} r bytes kind pure x y left right = unread_if A B (changes kind pure x y) _ _ (beside_right (mirrored r) bytes kind y x right left) (beside_left r bytes kind x y left right)

-- no side is left out where the left one waits in ptr2
held_by_unread : (A B : Type 0) (is bytes : Bool) (w : Width) (r : Relation) (kind : IntType) → Unread (held_by is bytes w r kind) A B
held_by_unread A B true true Ax r kind = tt
held_by_unread A B true false Ax r kind = tt
held_by_unread A B true bytes Eax r kind = tt
held_by_unread A B false bytes w r kind = tt

or_held_unread : (A B : Type 0) (how held : Comparing) → Unread how A B → Unread held A B → Unread (or_held how held) A B
or_held_unread A B (comparing.Truth side) held p q = p
or_held_unread A B (comparing.Byte side low r d) held p q = p
or_held_unread A B (comparing.Whole side r is_signed sides) held p q = p
or_held_unread A B (comparing.Held r is_signed) held p q = p
or_held_unread A B (comparing.HeldByte r) held p q = p
or_held_unread A B comparing.Stacked held p q = q

-- the labels of a side that is not taken are none
pub comparing_uses : (f : Framed) (pushed : ℕ) (q : Relation) (kind : IntType) (a b : Typed) → Unread (comparing_of f pushed q kind a b) (uses (tested_by q b) a ≡ 0) (uses (tested_by q a) b ≡ 0)
comparing_uses f pushed q kind a b = go (tested_by q b) refl (tested_by q a) refl
  where
    go : (x : Option Bool) → tested_by q b ≡ x → (y : Option Bool) → tested_by q a ≡ y → Unread (if is_some x then comparing.Truth side.Left else (if is_some y then comparing.Truth side.Right else or_held (compared_by q (is_byte a && is_byte b) kind (is_pure b) (direct_of f pushed a) (direct_of f pushed b)) (held_by (is_light f pushed b) (is_byte a && is_byte b) (width_of kind) q kind))) (uses x a ≡ 0) (uses y b ≡ 0)
    go (Some s) e y h = zero_uses y b (tested_zero q b s e)
    go None e (Some s) h = zero_uses None a (tested_zero q a s h)
    go None e None h = or_held_unread _ _ (compared_by q (is_byte a && is_byte b) kind (is_pure b) (direct_of f pushed a) (direct_of f pushed b)) _ (compared_unread q (is_byte a && is_byte b) kind (is_pure b) (direct_of f pushed a) (direct_of f pushed b) (λ d found. (direct_idle f pushed a d found).uses) (λ d found. (direct_idle f pushed b d found).uses)) (held_by_unread _ _ (is_light f pushed b) (is_byte a && is_byte b) (width_of kind) q kind)

pub comparing_calls : (f : Framed) (pushed : ℕ) (q : Relation) (kind : IntType) (a b : Typed) → Unread (comparing_of f pushed q kind a b) (calls_of f a ≡ []) (calls_of f b ≡ [])
comparing_calls f pushed q kind a b = go (tested_by q b) refl (tested_by q a) refl
  where
    go : (x : Option Bool) → tested_by q b ≡ x → (y : Option Bool) → tested_by q a ≡ y → Unread (if is_some x then comparing.Truth side.Left else (if is_some y then comparing.Truth side.Right else or_held (compared_by q (is_byte a && is_byte b) kind (is_pure b) (direct_of f pushed a) (direct_of f pushed b)) (held_by (is_light f pushed b) (is_byte a && is_byte b) (width_of kind) q kind))) (calls_of f a ≡ []) (calls_of f b ≡ [])
    go (Some s) e y h = zero_calls f b (tested_zero q b s e)
    go None e (Some s) h = zero_calls f a (tested_zero q a s h)
    go None e None h = or_held_unread _ _ (compared_by q (is_byte a && is_byte b) kind (is_pure b) (direct_of f pushed a) (direct_of f pushed b)) _ (compared_unread q (is_byte a && is_byte b) kind (is_pure b) (direct_of f pushed a) (direct_of f pushed b) (λ d found. (direct_idle f pushed a d found).calls) (λ d found. (direct_idle f pushed b d found).calls)) (held_by_unread _ _ (is_light f pushed b) (is_byte a && is_byte b) (width_of kind) q kind)

-- where the low bytes alone are compared, no side is tested
untested : (x y : Option Bool) (how : Comparing) → takes_low (if is_some x then comparing.Truth side.Left else (if is_some y then comparing.Truth side.Right else how)) ≡ true → (x ≡ None) × (y ≡ None)
untested (Some s) y how h = absurd cc
untested None (Some s) how h = absurd cc
untested None None how h = (refl, refl)

pub low_left : (f : Framed) (pushed : ℕ) (q : Relation) (kind : IntType) (a b : Typed) → takes_low (comparing_of f pushed q kind a b) ≡ true → tested_by q b ≡ None
low_left f pushed q kind a b h = (untested (tested_by q b) (tested_by q a) _ h).0

pub low_right : (f : Framed) (pushed : ℕ) (q : Relation) (kind : IntType) (a b : Typed) → takes_low (comparing_of f pushed q kind a b) ≡ true → tested_by q a ≡ None
low_right f pushed q kind a b h = (untested (tested_by q b) (tested_by q a) _ h).1

-- ---- assignments

-- what is so of the side whose lines are not taken
abbrev pub Unstored : Storing → Type 0 → Type 0 → Type 0
Unstored (storing.Left at stored) A B = B
Unstored (storing.RightByte at low high) A B = A
Unstored (storing.RightWord at low high) A B = A
Unstored (storing.HeldByte at) A B = Unit {0}
Unstored (storing.HeldWord at) A B = Unit {0}
Unstored storing.Stacked A B = Unit {0}

pub some_if : (b : Bool) (x : Option Direct) (d : Direct) → (if b then x else None) ≡ Some d → x ≡ Some d
some_if true x d h = h
some_if false x d h = absurd cc

-- a pointer that is read has no lines
pointer_idle : (f : Framed) (pushed : ℕ) (e : Typed) (d : Direct) → pointer_of f pushed e ≡ Some d → Idle f e
pointer_idle f pushed (node t (deref e)) d h = let idle : Idle f e = direct_idle f pushed e d h in record { uses = idle.uses; calls = idle.calls }
pointer_idle f pushed (node t (member e m)) d h =
    let idle : Idle f e = pointer_idle f pushed e d (some_if (has_base (place_of f pushed e) (offset_at (types_of f.parts.types) (bare e) m)) (pointer_of f pushed e) d h) in
    record { uses = idle.uses; calls = idle.calls }
pointer_idle f pushed (node t _) d h = absurd cc

through_unstored : (A B : Type 0) (at : ℕ) (extent : Extent) (w : OperandByte × OperandByte) → A → Unstored (through at extent w) A B
through_unstored A B at One w a = a
through_unstored A B at Two w a = a
through_unstored A B at Three w a = tt
through_unstored A B at Four w a = tt

word_unstored : (A B : Type 0) (at : ℕ) (extent : Extent) (w : Option (OperandByte × OperandByte)) → A → Unstored (by_pointer at extent w) A B
word_unstored A B at extent None a = tt
word_unstored A B at extent (Some w) a = through_unstored A B at extent w a

pointer_unstored : (A B : Type 0) (at : ℕ) (extent : Extent) (x : Option Direct) → ((d : Direct) → x ≡ Some d → A) → Unstored (by_pointer at extent (option_and_then word_in x)) A B
pointer_unstored A B at extent None found = tt
pointer_unstored A B at extent (Some d) found = word_unstored A B at extent (word_in d) (found d refl)

read_unstored : (A B : Type 0) (at : ℕ) (stored : Option Stored) (other : Storing) → B → Unstored other A B → Unstored (by_value at stored other) A B
read_unstored A B at None other b before = before
read_unstored A B at (Some stored) other b before = b

value_unstored : (A B : Type 0) (at : ℕ) (extent : Extent) (y : Option Direct) (other : Storing) → ((d : Direct) → y ≡ Some d → B) → Unstored other A B → Unstored (by_value at (option_and_then (bytes_stored extent) y) other) A B
value_unstored A B at extent None other found before = before
value_unstored A B at extent (Some d) other found before = read_unstored A B at (bytes_stored extent d) other (found d refl) before

pub stored_by : (A B : Type 0) (place : Place) (access : Access) (x y : Option Direct) → ((d : Direct) → x ≡ Some d → A) → ((d : Direct) → y ≡ Some d → B) → Unstored (storing_by place access x y) A B
stored_by A B (places.Far at) (Whole kind) x y left right = value_unstored A B at (extent_of kind) y _ right (pointer_unstored A B at (extent_of kind) x left)
stored_by A B (places.Far at) (Part field) x y left right = tt
stored_by A B (places.Bank b) access x y left right = tt
stored_by A B (places.Near at) access x y left right = tt
stored_by A B (places.Data s at) access x y left right = tt

held_at_unstored : (A B : Type 0) (at : ℕ) (extent : Extent) → Unstored (stores.held_at at extent) A B
held_at_unstored A B at One = tt
held_at_unstored A B at Two = tt
held_at_unstored A B at Three = tt
held_at_unstored A B at Four = tt

pub held_unstored : (A B : Type 0) (is : Bool) (place : Place) (access : Access) → Unstored (stores.held_if is place access) A B
held_unstored A B true (places.Far at) (Whole kind) = held_at_unstored A B at (extent_of kind)
held_unstored A B true (places.Far at) (Part field) = tt
held_unstored A B true (places.Bank b) access = tt
held_unstored A B true (places.Near at) access = tt
held_unstored A B true (places.Data s at) access = tt
held_unstored A B false place access = tt

pub or_held_unstored : (A B : Type 0) (how held : Storing) → Unstored how A B → Unstored held A B → Unstored (stores.or_held how held) A B
or_held_unstored A B (storing.Left at stored) held p q = p
or_held_unstored A B (storing.RightByte at low high) held p q = p
or_held_unstored A B (storing.RightWord at low high) held p q = p
or_held_unstored A B (storing.HeldByte at) held p q = p
or_held_unstored A B (storing.HeldWord at) held p q = p
or_held_unstored A B storing.Stacked held p q = q

unstored_by : (A B : Type 0) (f : Framed) (pushed : ℕ) (a b : Typed) → (Idle f a → A) → (Idle f b → B) → Unstored (storing_of f pushed a b) A B
unstored_by A B f pushed a b left right =
    let place : Place = place_of f pushed a in
    let access : Access = access_of (types_of f.parts.types) a in
    or_held_unstored A B _ _
    (stored_by A B place access (unless_changed (is_pure b) (pointer_of f pushed a)) (direct_of f pushed b)
    (λ d h. left (pointer_idle f pushed a d (some_if (is_fixed (pointer_of f pushed a) || is_pure b) (pointer_of f pushed a) d h))) (λ d h. right (direct_idle f pushed b d h)))
    (held_unstored A B (is_light f pushed b) place access)

pub storing_uses : (f : Framed) (pushed : ℕ) (a b : Typed) → Unstored (storing_of f pushed a b) (uses None a ≡ 0) (uses None b ≡ 0)
storing_uses f pushed a b = unstored_by _ _ f pushed a b (λ idle. idle.uses) (λ idle. idle.uses)

pub storing_calls : (f : Framed) (pushed : ℕ) (a b : Typed) → Unstored (storing_of f pushed a b) (calls_of f a ≡ []) (calls_of f b ≡ [])
storing_calls f pushed a b = unstored_by _ _ f pushed a b (λ idle. idle.calls) (λ idle. idle.calls)

-- ---- sums that are told with their pointer

sum_alone : (place : Place) (op : BinaryOp) (operands : Operands) (z : Option ℤ) → sum_has_base place (added_bytes op operands z) ≡ true → relation_of op ≡ None
sum_alone place ops.Add operands z h = refl
sum_alone place _ operands z h = absurd cc

none_added : (op : BinaryOp) (operands : Operands) → added_bytes op operands None ≡ None
none_added ops.Add (Numbers kind) = refl
none_added ops.Add (PointerFirst size) = refl
none_added ops.Add (PointerLast size) = refl
none_added ops.Add (Pointers size) = refl
none_added _ operands = refl

pub sum_constant : (place : Place) (op : BinaryOp) (operands : Operands) (b : Typed) → sum_has_base place (added_bytes op operands (constant_in b)) ≡ true → (z : ℤ) × (constant_in b ≡ Some z)
sum_constant place op operands b h = go (constant_in b) refl h
  where
    go : (z : Option ℤ) → constant_in b ≡ z → sum_has_base place (added_bytes op operands z) ≡ true → (y : ℤ) × (z ≡ Some y)
    go (Some z) e more = (z, refl)
    go None e more = absurd (cc (more, none_added op operands))

sum_idle : (f : Framed) (place : Place) (op : BinaryOp) (operands : Operands) (b : Typed) → sum_has_base place (added_bytes op operands (constant_in b)) ≡ true → Idle f b
sum_idle f place op operands b h = let z = sum_constant place op operands b h in constant_idle f b z.0 z.1

-- one label beside those of the pointer, and its calls
pub sum_uses : (f : Framed) (place : Place) (op : BinaryOp) (operands : Operands) (t : QTy) (a b : Typed) → sum_has_base place (added_bytes op operands (constant_in b)) ≡ true → uses None (node t (binary op a b)) ≡ 1 + uses None a
sum_uses f place op operands t a b h = rw (sum_alone place op operands (constant_in b) h, (sum_idle f place op operands b h).uses, add-zero) refl

pub sum_calls : (f : Framed) (place : Place) (op : BinaryOp) (operands : Operands) (b : Typed) → sum_has_base place (added_bytes op operands (constant_in b)) ≡ true → calls_of f b ≡ []
sum_calls f place op operands b h = (sum_idle f place op operands b h).calls

-- ---- operators that give a number or a pointer

-- a constant that a form takes is a short one
abbrev pub IsSmall : Form → Type 0
IsSmall (form.Constant kind q) = IsQuick (width_of kind) q
IsSmall _ = Unit {0}

-- what is so of an operand whose lines are not taken, and of the form
abbrev pub Unused : Operating → Type 0 → Type 0 → Type 0
Unused (operating.Left form) A B = IsSmall form × B
Unused (operating.Right form) A B = IsSmall form × A
Unused (operating.Held form) A B = IsSmall form
Unused operating.Stacked A B = Unit {0}

-- a form that an option has is small
abbrev AllSmall : Option Form → Type 0
AllSmall None = Unit {0}
AllSmall (Some form) = IsSmall form

quick_small : (op : BinaryOp) (kind : IntType) (n : ℕ) (q : Option Quick) → quick_of op kind n ≡ q → AllSmall (option_map (form.Constant kind) q)
quick_small op kind n None e = tt
quick_small op kind n (Some q) e = quick_is_quick op kind n q e

sum_small : (w : Width) (n : ℕ) → IsSmall (sum_by w n)
sum_small Ax n = tt
sum_small Eax n = tt

mask_small : (op : BinaryOp) (w : Width) (n : ℕ) → AllSmall (mask_by op w n)
mask_small op Ax n = tt
mask_small op Eax n = tt

number_small : (op : BinaryOp) (kind : IntType) (n : ℕ) → AllSmall (number_form op kind n)
number_small ops.Add kind n = sum_small (width_of kind) n
number_small ops.Sub kind n = sum_small (width_of kind) (negative n)
number_small ops.BitAnd kind n = mask_small ops.BitAnd (width_of kind) n
number_small ops.BitXor kind n = mask_small ops.BitXor (width_of kind) n
number_small ops.BitOr kind n = mask_small ops.BitOr (width_of kind) n
number_small op kind n = quick_small op kind n (quick_of op kind n) refl

offset_small : (op : BinaryOp) (n : ℕ) → AllSmall (offset_form op n)
offset_small ops.Add n = tt
offset_small ops.Sub n = tt
offset_small _ n = tt

constant_small : (op : BinaryOp) (operands : Operands) (n : ℕ) → AllSmall (constant_form op operands n)
constant_small op (Numbers kind) n = number_small op kind n
constant_small op (PointerFirst size) n = offset_small op _
constant_small op (PointerLast size) n = tt
constant_small op (Pointers size) n = tt

word_small : (b : Bool) (op : BinaryOp) (w : Width) (low high : OperandByte) → AllSmall (word_if b op w low high)
word_small true op Ax low high = tt
word_small true op Eax low high = tt
word_small false op w low high = tt

option_small : (b : Bool) (x y : Option Form) → AllSmall x → AllSmall y → AllSmall (if b then x else y)
option_small true x y p q = p
option_small false x y p q = q

element_small : (op : BinaryOp) (size : ℕ) (low high : OperandByte) → AllSmall (element_form op size low high)
element_small ops.Add size low high = option_small (size == 1) (Some (form.Word ops.Add low high)) None tt tt
element_small ops.Sub size low high = option_small (size == 1) (Some (form.Word ops.Sub low high)) None tt tt
element_small _ size low high = tt

right_small : (op : BinaryOp) (operands : Operands) (low high : OperandByte) → AllSmall (right_form op operands low high)
right_small op (Numbers kind) low high = word_small (operators.takes_bytes op) op (width_of kind) low high
right_small op (PointerFirst size) low high = element_small op size low high
right_small ops.Add (PointerLast size) low high = tt
right_small ops.Sub (PointerLast size) low high = tt
right_small _ (PointerLast size) low high = tt
right_small ops.Add (Pointers size) low high = tt
right_small ops.Sub (Pointers size) low high = tt
right_small _ (Pointers size) low high = tt

under_small : (w : Width) (low high : OperandByte) → AllSmall (under_if w low high)
under_small Ax low high = tt
under_small Eax low high = tt

left_small : (op : BinaryOp) (operands : Operands) (low high : OperandByte) → AllSmall (left_form op operands low high)
left_small ops.Sub (Numbers kind) low high = under_small (width_of kind) low high
left_small op (Numbers kind) low high = word_small (operators.takes_bytes op) op (width_of kind) low high
left_small ops.Add (PointerFirst size) low high = tt
left_small ops.Sub (PointerFirst size) low high = tt
left_small _ (PointerFirst size) low high = tt
left_small ops.Add (PointerLast size) low high = tt
left_small ops.Sub (PointerLast size) low high = tt
left_small _ (PointerLast size) low high = tt
left_small ops.Add (Pointers size) low high = tt
left_small ops.Sub (Pointers size) low high = tt
left_small _ (Pointers size) low high = tt

-- a form that an option has is small, and then something is so
abbrev pub Taken : Option Form → Type 0 → Type 0
Taken None A = Unit {0}
Taken (Some form) A = IsSmall form × A

taken_by : {A : Type 0} (x : Option Form) → AllSmall x → A → Taken x A
taken_by None small a = tt
taken_by (Some form) small a = (small, a)

pub constant_taken : {A : Type 0} (op : BinaryOp) (operands : Operands) (z : Option ℤ) → ((y : ℤ) → z ≡ Some y → A) → Taken (option_and_then (λ y. constant_form op operands (residue_of y)) z) A
constant_taken op operands None found = tt
constant_taken op operands (Some z) found = taken_by (constant_form op operands (residue_of z)) (constant_small op operands (residue_of z)) (found z refl)

-- the bytes of a word, by a form that is small for any
bytes_taken : {A : Type 0} (forms : OperandByte → OperandByte → Option Form) (x : Option (OperandByte × OperandByte)) → ((low high : OperandByte) → AllSmall (forms low high)) → A → Taken (option_and_then (λ w. forms w.0 w.1) x) A
bytes_taken forms None small a = tt
bytes_taken forms (Some w) small a = taken_by (forms w.0 w.1) (small w.0 w.1) a

word_taken : {A : Type 0} (forms : OperandByte → OperandByte → Option Form) (x : Option Direct) → ((low high : OperandByte) → AllSmall (forms low high)) → ((d : Direct) → x ≡ Some d → A) → Taken (option_and_then (λ w. forms w.0 w.1) (option_and_then word_in x)) A
word_taken forms None small found = tt
word_taken forms (Some d) small found = bytes_taken forms (word_in d) small (found d refl)

right_unused : (A B : Type 0) (x : Option Form) (other : Operating) → Taken x B → Unused other A B → Unused (by_right x other) A B
right_unused A B None other p q = q
right_unused A B (Some form) other p q = p

left_unused : (A B : Type 0) (b : Bool) (x : Option Form) → Taken x A → Unused (by_left b x) A B
left_unused A B true None p = tt
left_unused A B true (Some form) p = p
left_unused A B false x p = tt

held_elements_small : (op : BinaryOp) → AllSmall (held_elements op)
held_elements_small ops.Add = tt
held_elements_small ops.Sub = tt
held_elements_small _ = tt

held_small : (op : BinaryOp) (operands : Operands) → AllSmall (held_form op operands)
held_small op (Numbers kind) = left_small op (Numbers kind) held_low held_high
held_small op (PointerFirst size) = option_small (size == 1) (held_elements op) None (held_elements_small op) tt
held_small op (PointerLast size) = tt
held_small ops.Sub (Pointers size) = tt
held_small _ (Pointers size) = tt

held_unused : (A B : Type 0) (is : Bool) (x : Option Form) → AllSmall x → Unused (held_if is x) A B
held_unused A B true (Some form) small = small
held_unused A B true None small = tt
held_unused A B false x small = tt

or_held_unused : (A B : Type 0) (how held : Operating) → Unused how A B → Unused held A B → Unused (operators.or_held how held) A B
or_held_unused A B (operating.Left form) held p q = p
or_held_unused A B (operating.Right form) held p q = p
or_held_unused A B (operating.Held form) held p q = p
or_held_unused A B operating.Stacked held p q = q

reading_unused : {A B : Type 0} (f : Framed) (pushed : ℕ) (op : BinaryOp) (operands : Operands) (a b : Typed) → (Idle f a → A) → (Idle f b → B) → Unused (reading_of f pushed op operands a b) A B
reading_unused {A = A} {B = B} f pushed op operands a b left right =
    right_unused A B (constant_right op operands b) _ (constant_taken op operands (constant_in b) (λ z h. right (constant_idle f b z h)))
    (right_unused A B (direct_right op operands (direct_of f pushed b)) _ (word_taken (right_form op operands) (direct_of f pushed b) (right_small op operands) (λ d h. right (direct_idle f pushed b d h)))
    (left_unused A B (is_fixed (direct_of f pushed a) || is_pure b) (direct_left op operands (direct_of f pushed a)) (word_taken (left_form op operands) (direct_of f pushed a) (left_small op operands) (λ d h. left (direct_idle f pushed a d h)))))

unused_by : {A B : Type 0} (f : Framed) (pushed : ℕ) (op : BinaryOp) (operands : Operands) (a b : Typed) → (Idle f a → A) → (Idle f b → B) → Unused (operating_of f pushed op operands a b) A B
unused_by {A = A} {B = B} f pushed op operands a b left right =
    or_held_unused A B (reading_of f pushed op operands a b) _ (reading_unused f pushed op operands a b left right) (held_unused A B (is_light f pushed b) (held_form op operands) (held_small op operands))

pub operating_uses : (f : Framed) (pushed : ℕ) (op : BinaryOp) (operands : Operands) (a b : Typed) → Unused (operating_of f pushed op operands a b) (uses None a ≡ 0) (uses None b ≡ 0)
operating_uses f pushed op operands a b = unused_by f pushed op operands a b (λ idle. idle.uses) (λ idle. idle.uses)

pub operating_calls : (f : Framed) (pushed : ℕ) (op : BinaryOp) (operands : Operands) (a b : Typed) → Unused (operating_of f pushed op operands a b) (calls_of f a ≡ []) (calls_of f b ≡ [])
operating_calls f pushed op operands a b = unused_by f pushed op operands a b (λ idle. idle.calls) (λ idle. idle.calls)
