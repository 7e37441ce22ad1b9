-- The forms of operators and comparisons: the bytes that they read can be written.
use Rattle.std.proofs.Common.{ℕ, ◌*◌, ◌%◌, ◌<◌, ◌^◌, ◌==◌, Bool, true, false, Option, None, Some, List, ◌∷◌, arith}
use Rattle.std.specs.Prelude.{if◌then◌else◌, ◌&&◌, ◌||◌, is_some, option_map, option_and_then}
use Rattle.c65_base.specs.declared.operators.BinaryOp.{BinaryOp}
use Rattle.c65_base.specs.declared.operators.BinaryOp.TheVariants as ops
use Rattle.c65_ints.specs.declared.types.IntType.{IntType}
use Rattle.c65_ints.specs.declared.types.IntType.TheVariants.{UInt}
use Rattle.c65_ctype.specs.Trees.{type_in}
use Rattle.c65_ctype.specs.Views.{types_of}
use Rattle.c65_csem.specs.Trees.{Typed, node, constant, null, func, deref, member, load, address, decay, convert, UnitTy}
use Rattle.c65_csem.specs.Typed.{IsTyped}
use Rattle.c65_code.specs.declared.line.Line.{Line}
use Rattle.c65_code.specs.declared.routine.Width.{Width}
use Rattle.c65_code.specs.declared.routine.Width.TheVariants.{Ax, Eax}
use Rattle.c65_genframe.specs.Frames.{Framed}
use Rattle.c65_genwide.specs.Wide.{width_of}
use Rattle.c65_genload.specs.Words.{implied}
use Rattle.c65_genload.specs.declared.places.Extent.{Extent}
use Rattle.c65_genload.specs.declared.places.Extent.TheVariants.{One, Two, Three, Four}
use Rattle.c65_genload.specs.Places.{extent_of}
use Rattle.c65_genload.specs.declared.places.Place.{Place}
use Rattle.c65_genload.specs.declared.places.Place.TheVariants as places
use Rattle.c65_genload.specs.declared.places.Access.{Access}
use Rattle.c65_genload.specs.declared.places.Access.TheVariants.{Whole, Part}
use Rattle.c65_gendirect.specs.declared.bytes.OperandByte.{OperandByte}
use Rattle.c65_gendirect.specs.declared.direct.Direct.{Direct}
use Rattle.c65_gendirect.specs.declared.direct.Direct.TheVariants as directs
use Rattle.c65_gendirect.specs.declared.compare.Sides.{Sides}
use Rattle.c65_gendirect.specs.declared.compare.Sides.TheVariants.{Word, Long}
use Rattle.c65_gendirect.specs.declared.relation.Relation.{Relation}
use Rattle.c65_gendirect.specs.Bytes.{byte_of}
use Rattle.c65_gendirect.specs.Words.{word_code, taken_from_code}
use Rattle.c65_gendirect.specs.Compare.{mirrored}
use Rattle.c65_genshift.specs.Quick.{quick_of, elements_code}
use Rattle.c65_gendirect.specs.Pointed.{pointer_code}
use Rattle.c65_genexpr.specs.declared.destination.Destination.{Destination}
use Rattle.c65_genexpr.specs.declared.destination.Destination.TheVariants.{Registers, Pointer}
use Rattle.c65_genexpr.specs.declared.operands.Operands.{Operands}
use Rattle.c65_genexpr.specs.declared.operands.Operands.TheVariants.{Numbers, PointerFirst, PointerLast, Pointers}
use Rattle.c65_genexpr.specs.declared.storing.Storing.{Storing}
use Rattle.c65_genexpr.specs.declared.storing.Storing.TheVariants as storing
use Rattle.c65_gendirect.specs.declared.through.Stored.{Stored}
use Rattle.c65_gendirect.specs.declared.through.Stored.TheVariants as stores
use Rattle.c65_genexpr.specs.Storing as storings
use Rattle.c65_genexpr.specs.Storing.{pointer_of, word_stored, bytes_stored, through, by_value, by_pointer, storing_by, storing_of}
use Rattle.c65_genexpr.specs.declared.operating.Form.{Form}
use Rattle.c65_genexpr.specs.declared.operating.Form.TheVariants as forms
use Rattle.c65_genexpr.specs.declared.operating.Operating.{Operating}
use Rattle.c65_genexpr.specs.declared.operating.Operating.TheVariants as ways
use Rattle.c65_genexpr.specs.declared.comparing.Side.{Side}
use Rattle.c65_genexpr.specs.declared.comparing.Side.TheVariants.{Left, Right}
use Rattle.c65_genexpr.specs.declared.comparing.Comparing.{Comparing}
use Rattle.c65_genexpr.specs.declared.comparing.Comparing.TheVariants as compared
use Rattle.c65_genexpr.specs.Types.{kind_of, bare, offset_at, access_of}
use Rattle.c65_genexpr.specs.Places.{has_base, place_of, is_plain}
use Rattle.c65_genexpr.specs.Operands.{residue_of, between_code, behind_code, negative}
use Rattle.c65_genexpr.specs.Direct.{kept_at, address_at, address_of, takes_bytes, converted_if, direct_of, own_bytes, is_fixed, is_pure, is_byte, both_bytes, all_bytes, sides_of, listed, alone}
use Rattle.c65_genexpr.specs.Comparing.{tested_by, lowest, is_raised, raised, one_more, range_of, meeting, beside, changes, compared_by, comparing_of, on, low_code, comparison_by, held_by}
use Rattle.c65_genexpr.specs.Operating.{sum_by, mask_by, number_form, offset_form, constant_form, pair_of, word_in, word_if, element_form, right_form, under_if, left_form, constant_right, direct_right, direct_left, by_left, by_right, operating_of, placed, value_form, pointed_word, pointed_form, form_code, waiting_code, stacked_code, operator_by, reading_of, is_light, held_elements, held_form, held_if}
use Rattle.c65_genexpr.specs.Operating as operators
use Rattle.c65_genexpr.specs.Comparing as comparisons
use Rattle.c65_genexpr.specs.Held.{held_low, held_high, keep_code, keep_byte_code, byte_behind_code, word_behind_code}
use Rattle.c65_genexpr.specs.Wanted.{branch_code}
use Rattle.c65_asm_law.proofs.Well.{AllWell, well_append, well_none, well_more}
use Rattle.c65_asm_law.proofs.Known.{Knows}
use Rattle.c65_asm_law.proofs.Loads.{WellPlace, push_well, wide_well, divide_well}
use Rattle.c65_asm_law.proofs.Places.{place_well, between_well, behind_well}
use Rattle.c65_asm_law.proofs.Directs.{WellStored, read_if, WellByte, WellMaybe, WellDirect, WellRead, byte_well, converted_well, op_well, labelled_well, word_well, pointer_code_well, pointed_sum_well, add_number_well, taken_from_well, long_mask_well, add_long_well, WellSides, compare_well, compare_byte_well, AreBytes, quick_well, elements_well}
use Rattle.c65_asm_law.proofs.Pointed.{arrived_well}
use Rattle.std.proofs.lemmas.Option.{slice_get_within}

-- ---- values that are read where they lie

pub kept_well : (n : ℕ) (p : Place) (access : Access) → WellPlace n p → WellRead n (kept_at p access)
kept_well n (places.Far at) access h = tt
kept_well n (places.Bank at) (Whole kind) h = h
kept_well n (places.Near at) (Whole kind) h = h
kept_well n (places.Data s at) (Whole kind) h = h
kept_well n (places.Bank at) (Part field) h = tt
kept_well n (places.Near at) (Part field) h = tt
kept_well n (places.Data s at) (Part field) h = tt

address_at_well : (n : ℕ) (p : Place) → WellPlace n p → WellRead n (address_at p)
address_at_well n (places.Data s at) h = h
address_at_well n (places.Bank at) h = tt
address_at_well n (places.Near at) h = tt
address_at_well n (places.Far at) h = tt

address_of_well : (n : ℕ) (u : UnitTy) (f : Framed) (pushed : ℕ) (e : Typed) → Knows f u n → IsTyped u e → WellRead n (address_of f pushed e)
address_of_well n u f pushed (node t (func i)) knows h = (knows.funcs i (slice_get_within u.funcs i h.0 h.1), omega arith)
address_of_well n u f pushed (node t e) knows h = read_if n (is_plain (node t e)) (address_at (place_of f pushed (node t e))) None (address_at_well n (place_of f pushed (node t e)) (place_well n u f pushed (node t e) knows h)) tt

converted_if_well : (n : ℕ) (b : Bool) (to : IntType) (d : Option Direct) → WellRead n d → WellRead n (converted_if b to d)
converted_if_well n true to None h = tt
converted_if_well n true to (Some d) h = converted_well n to d h
converted_if_well n false to d h = tt

pub read_well : (n : ℕ) (u : UnitTy) (f : Framed) (pushed : ℕ) (e : Typed) → Knows f u n → IsTyped u e → WellRead n (direct_of f pushed e)
read_well n u f pushed (node t (constant z)) knows h = tt
read_well n u f pushed (node t null) knows h = tt
read_well n u f pushed (node t (load e)) knows h =
    read_if n (is_plain e) (kept_at (place_of f pushed e) (access_of (types_of f.parts.types) e)) None (kept_well n (place_of f pushed e) (access_of (types_of f.parts.types) e) (place_well n u f pushed e knows h.0)) tt
read_well n u f pushed (node t (address e)) knows h = address_of_well n u f pushed e knows h.0
read_well n u f pushed (node t (decay e)) knows h = address_of_well n u f pushed e knows h.0
read_well n u f pushed (node t (convert e)) knows h = converted_if_well n (takes_bytes (type_in t) (bare e)) (kind_of (type_in t)) (direct_of f pushed e) (read_well n u f pushed e knows h.0)
read_well n u f pushed (node t _) knows h = tt

-- ---- assignments

abbrev pub WellStoring : ℕ → Storing → Type 0
WellStoring n (storing.Left at stored) = (at < 2 ^ 8) × WellStored n stored
WellStoring n (storing.RightByte at low high) = (at < 2 ^ 8) × (WellByte n low × WellByte n high)
WellStoring n (storing.RightWord at low high) = WellByte n low × WellByte n high
WellStoring n (storing.HeldByte at) = at < 2 ^ 8
WellStoring n (storing.HeldWord at) = at < 2 ^ 8
WellStoring n storing.Stacked = Unit {0}

-- a pointer that is read
pointer_well : (n : ℕ) (u : UnitTy) (f : Framed) (pushed : ℕ) (e : Typed) → Knows f u n → IsTyped u e → WellRead n (pointer_of f pushed e)
pointer_well n u f pushed (node t (deref e)) knows h = read_well n u f pushed e knows h.0
pointer_well n u f pushed (node t (member e m)) knows h = read_if n (has_base (place_of f pushed e) (offset_at (types_of f.parts.types) (bare e) m)) (pointer_of f pushed e) None (pointer_well n u f pushed e knows h.0) tt
pointer_well n u f pushed (node t _) knows h = tt

abbrev MaybeStored : ℕ → Option Stored → Type 0
MaybeStored n None = Unit {0}
MaybeStored n (Some stored) = WellStored n stored

abbrev MaybePair : ℕ → Option (OperandByte × OperandByte) → Type 0
MaybePair n None = Unit {0}
MaybePair n (Some w) = WellByte n w.0 × WellByte n w.1

pair_well : (n : ℕ) (low high : Option OperandByte) → WellMaybe n low → WellMaybe n high → MaybePair n (pair_of low high)
pair_well n (Some low) (Some high) h k = (h, k)
pair_well n None high h k = tt
pair_well n (Some low) None h k = tt

word_in_well : (n : ℕ) (d : Direct) → WellDirect n d → MaybePair n (word_in d)
word_in_well n d h = pair_well n (byte_of d 0) (byte_of d 1) (byte_well n d 0 h) (byte_well n d 1 h)

word_read_well : (n : ℕ) (d : Option Direct) → WellRead n d → MaybePair n (option_and_then word_in d)
word_read_well n None h = tt
word_read_well n (Some d) h = word_in_well n d h

fixed_well : (n : ℕ) (fixed : Bool) (w : OperandByte × OperandByte) → WellByte n w.0 × WellByte n w.1 → WellStored n (word_stored fixed w)
fixed_well n true w h = h
fixed_well n false w h = h

single_well : (n : ℕ) (low : Option OperandByte) → WellMaybe n low → MaybeStored n (option_map stores.Single low)
single_well n None h = tt
single_well n (Some low) h = h

double_well : (n : ℕ) (fixed : Bool) (w : Option (OperandByte × OperandByte)) → MaybePair n w → MaybeStored n (option_map (word_stored fixed) w)
double_well n fixed None h = tt
double_well n fixed (Some w) h = fixed_well n fixed w h

bytes_stored_well : (n : ℕ) (extent : Extent) (d : Direct) → WellDirect n d → MaybeStored n (bytes_stored extent d)
bytes_stored_well n One d h = single_well n (byte_of d 0) (byte_well n d 0 h)
bytes_stored_well n Two d h = double_well n (is_fixed (Some d)) (word_in d) (word_in_well n d h)
bytes_stored_well n Three d h = tt
bytes_stored_well n Four d h = tt

value_stored_well : (n : ℕ) (extent : Extent) (d : Option Direct) → WellRead n d → MaybeStored n (option_and_then (bytes_stored extent) d)
value_stored_well n extent None h = tt
value_stored_well n extent (Some d) h = bytes_stored_well n extent d h

through_well : (n at : ℕ) (extent : Extent) (w : OperandByte × OperandByte) → at < 2 ^ 8 → WellByte n w.0 × WellByte n w.1 → WellStoring n (through at extent w)
through_well n at One w few h = (few, h)
through_well n at Two w few h = h
through_well n at Three w few h = tt
through_well n at Four w few h = tt

by_pointer_well : (n at : ℕ) (extent : Extent) (w : Option (OperandByte × OperandByte)) → at < 2 ^ 8 → MaybePair n w → WellStoring n (by_pointer at extent w)
by_pointer_well n at extent None few h = tt
by_pointer_well n at extent (Some w) few h = through_well n at extent w few h

by_value_well : (n at : ℕ) (stored : Option Stored) (other : Storing) → at < 2 ^ 8 → MaybeStored n stored → WellStoring n other → WellStoring n (by_value at stored other)
by_value_well n at None other few h k = k
by_value_well n at (Some stored) other few h k = (few, h)

storing_by_well : (n : ℕ) (place : Place) (access : Access) (x y : Option Direct) → WellPlace n place → WellRead n x → WellRead n y → WellStoring n (storing_by place access x y)
storing_by_well n (places.Far at) (Whole kind) x y few h k = by_value_well n at _ _ few (value_stored_well n (extent_of kind) y k) (by_pointer_well n at (extent_of kind) _ few (word_read_well n x h))
storing_by_well n (places.Far at) (Part field) x y few h k = tt
storing_by_well n (places.Bank at) access x y few h k = tt
storing_by_well n (places.Near at) access x y few h k = tt
storing_by_well n (places.Data s at) access x y few h k = tt

held_at_well : (n at : ℕ) (extent : Extent) → at < 2 ^ 8 → WellStoring n (storings.held_at at extent)
held_at_well n at One few = few
held_at_well n at Two few = few
held_at_well n at Three few = tt
held_at_well n at Four few = tt

held_store_well : (n : ℕ) (is : Bool) (place : Place) (access : Access) → WellPlace n place → WellStoring n (storings.held_if is place access)
held_store_well n true (places.Far at) (Whole kind) few = held_at_well n at (extent_of kind) few
held_store_well n true (places.Far at) (Part field) few = tt
held_store_well n true (places.Bank at) access few = tt
held_store_well n true (places.Near at) access few = tt
held_store_well n true (places.Data s at) access few = tt
held_store_well n false place access few = tt

or_held_store : (n : ℕ) (how held : Storing) → WellStoring n how → WellStoring n held → WellStoring n (storings.or_held how held)
or_held_store n (storing.Left at stored) held p q = p
or_held_store n (storing.RightByte at low high) held p q = p
or_held_store n (storing.RightWord at low high) held p q = p
or_held_store n (storing.HeldByte at) held p q = p
or_held_store n (storing.HeldWord at) held p q = p
or_held_store n storing.Stacked held p q = q

pub storing_well : (n : ℕ) (u : UnitTy) (f : Framed) (pushed : ℕ) (a b : Typed) → Knows f u n → IsTyped u a → IsTyped u b → WellStoring n (storing_of f pushed a b)
storing_well n u f pushed a b knows h k =
    let place : Place = place_of f pushed a in
    let access : Access = access_of (types_of f.parts.types) a in
    or_held_store n _ _
    (storing_by_well n place access _ (direct_of f pushed b) (place_well n u f pushed a knows h)
    (read_if n (is_fixed (pointer_of f pushed a) || is_pure b) (pointer_of f pushed a) None (pointer_well n u f pushed a knows h) tt) (read_well n u f pushed b knows k))
    (held_store_well n (is_light f pushed b) place access (place_well n u f pushed a knows h))

-- ---- comparisons

abbrev pub WellComparing : ℕ → Comparing → Type 0
WellComparing n (compared.Truth side) = Unit {0}
WellComparing n (compared.Byte side low r byte) = WellMaybe n low × WellByte n byte
WellComparing n (compared.Whole side r signed sides) = WellSides n sides
WellComparing n (compared.Held r signed) = Unit {0}
WellComparing n (compared.HeldByte r) = Unit {0}
WellComparing n compared.Stacked = Unit {0}

abbrev WellSome : ℕ → Option Sides → Type 0
WellSome n None = Unit {0}
WellSome n (Some sides) = WellSides n sides

both_bytes_well : (n : ℕ) (a b : Option OperandByte) → WellMaybe n a → WellMaybe n b → WellSome n (both_bytes a b)
both_bytes_well n (Some a) (Some b) h k = (h, k)
both_bytes_well n None b h k = tt
both_bytes_well n (Some a) None h k = tt

all_bytes_well : (n : ℕ) (a b c d : Option OperandByte) → WellMaybe n a → WellMaybe n b → WellMaybe n c → WellMaybe n d → WellSome n (all_bytes a b c d)
all_bytes_well n (Some a) (Some b) (Some c) (Some d) h k l m = (h, (k, (l, m)))
all_bytes_well n None b c d h k l m = tt
all_bytes_well n (Some a) None c d h k l m = tt
all_bytes_well n (Some a) (Some b) None d h k l m = tt
all_bytes_well n (Some a) (Some b) (Some c) None h k l m = tt

sides_well : (n : ℕ) (w : Width) (d : Direct) → WellDirect n d → WellSome n (sides_of w d)
sides_well n Ax d h = both_bytes_well n (byte_of d 0) (byte_of d 1) (byte_well n d 0 h) (byte_well n d 1 h)
sides_well n Eax d h = all_bytes_well n (byte_of d 0) (byte_of d 1) (byte_of d 2) (byte_of d 3) (byte_well n d 0 h) (byte_well n d 1 h) (byte_well n d 2 h) (byte_well n d 3 h)

listed_well : (n : ℕ) (sides : Option Sides) → WellSome n sides → AreBytes n (listed sides)
listed_well n None h = tt
listed_well n (Some (Word low high)) h = (h.0, (h.1, tt))
listed_well n (Some (Long d0 d1 d2 d3)) h = (h.0, (h.1.0, (h.1.1.0, (h.1.1.1, tt))))

alone_well : (n : ℕ) (byte : Option OperandByte) → WellMaybe n byte → AreBytes n (alone byte)
alone_well n None h = tt
alone_well n (Some byte) h = (h, tt)

pub own_well : (n : ℕ) (d : Direct) (e : Extent) → WellDirect n d → AreBytes n (own_bytes d e)
own_well n d One h = alone_well n (byte_of d 0) (byte_well n d 0 h)
own_well n d Two h = listed_well n (sides_of Ax d) (sides_well n Ax d h)
own_well n d _ h = listed_well n (sides_of Eax d) (sides_well n Eax d h)

lowest_well : (n : ℕ) (sides : Sides) → WellSides n sides → WellByte n (lowest sides)
lowest_well n (Word low high) h = h.0
lowest_well n (Long d0 d1 d2 d3) h = h.0

pub first_well : (n : ℕ) (d : Option Direct) → WellRead n d → WellMaybe n (option_and_then (λ x. byte_of x 0) d)
first_well n None h = tt
first_well n (Some d) h = byte_well n d 0 h

one_more_well : (n : ℕ) (d : Direct) → WellDirect n d → WellDirect n (one_more d)
one_more_well n (directs.Number m) h = tt
one_more_well n (directs.Address s at) h = h
one_more_well n (directs.Kept p kind) h = h

meeting_well : (n : ℕ) (side : Side) (r : Relation) (few : Bool) (kind : IntType) (first : Option Direct) (sides : Option Sides) → WellRead n first → WellSome n sides → WellComparing n (meeting side r few kind first sides)
meeting_well n side r few kind first None h k = tt
meeting_well n side r true kind first (Some sides) h k = (first_well n first h, lowest_well n sides k)
meeting_well n side r false kind first (Some sides) h k = k

comparing_if : (n : ℕ) (b : Bool) (x y : Comparing) → WellComparing n x → WellComparing n y → WellComparing n (if b then x else y)
comparing_if n true x y p q = p
comparing_if n false x y p q = q

beside_well : (n : ℕ) (side : Side) (r : Relation) (few : Bool) (kind : IntType) (first second : Option Direct) → WellRead n first → WellRead n second → WellComparing n (beside side r few kind first second)
beside_well n side r few kind first None h k = tt
beside_well n side r few kind first (Some d) h k =
    comparing_if n (is_raised r (range_of few kind) d) _ _
    (meeting_well n side (raised r) few kind first (sides_of (width_of kind) (one_more d)) h (sides_well n (width_of kind) (one_more d) (one_more_well n d k)))
    (meeting_well n side r few kind first (sides_of (width_of kind) d) h (sides_well n (width_of kind) d k))

compared_well : (n : ℕ) (r : Relation) (few : Bool) (kind : IntType) (pure : Bool) (a b : Option Direct) → WellRead n a → WellRead n b → WellComparing n (compared_by r few kind pure a b)
compared_well n r few kind pure a b h k = comparing_if n (changes kind pure a b) _ _ (beside_well n Right (mirrored r) few kind b a k h) (beside_well n Left r few kind a b h k)

held_by_well : (n : ℕ) (is few : Bool) (w : Width) (r : Relation) (kind : IntType) → WellComparing n (held_by is few w r kind)
held_by_well n true true Ax r kind = tt
held_by_well n true false Ax r kind = tt
held_by_well n true few Eax r kind = tt
held_by_well n false few w r kind = tt

or_held_well : (n : ℕ) (how held : Comparing) → WellComparing n how → WellComparing n held → WellComparing n (comparisons.or_held how held)
or_held_well n (compared.Truth side) held h k = h
or_held_well n (compared.Byte side low r byte) held h k = h
or_held_well n (compared.Whole side r signed sides) held h k = h
or_held_well n (compared.Held r signed) held h k = h
or_held_well n (compared.HeldByte r) held h k = h
or_held_well n compared.Stacked held h k = k

pub comparing_well : (n : ℕ) (u : UnitTy) (f : Framed) (pushed : ℕ) (r : Relation) (kind : IntType) (a b : Typed) → Knows f u n → IsTyped u a → IsTyped u b → WellComparing n (comparing_of f pushed r kind a b)
comparing_well n u f pushed r kind a b knows h k =
    comparing_if n (is_some (tested_by r b)) (compared.Truth Left) _ tt
    (comparing_if n (is_some (tested_by r a)) (compared.Truth Right) _ tt
    (or_held_well n (compared_by r (is_byte a && is_byte b) kind (is_pure b) (direct_of f pushed a) (direct_of f pushed b)) _ (compared_well n r (is_byte a && is_byte b) kind (is_pure b) (direct_of f pushed a) (direct_of f pushed b) (read_well n u f pushed a knows h) (read_well n u f pushed b knows k)) (held_by_well n (is_light f pushed b) (is_byte a && is_byte b) (width_of kind) r kind)))

on_well : (n : ℕ) (side : Side) (a b : List Line) → AllWell n a → AllWell n b → AllWell n (on side a b)
on_well n Left a b h k = h
on_well n Right a b h k = k

pub low_well : (n : ℕ) (byte : Option OperandByte) (lines : List Line) → WellMaybe n byte → AllWell n lines → AllWell n (low_code byte lines)
low_well n None lines h k = k
low_well n (Some byte) lines h k = op_well n _ byte h

pub byte_behind_well : (n at : ℕ) → at < 2 ^ 8 → AllWell n (byte_behind_code at)
byte_behind_well n at few = record { all = ((tt, few), ((tt, omega arith), tt)) }

pub word_behind_well : (n at : ℕ) → at < 2 ^ 8 → AllWell n (word_behind_code at)
word_behind_well n at few = record { all = ((tt, few), ((tt, omega arith), ((tt, tt), ((tt, tt), ((tt, omega arith), ((tt, omega arith), ((tt, tt), tt))))))) }

pub keep_well : (n : ℕ) → AllWell n keep_code
keep_well n = record { all = ((tt, omega arith), ((tt, omega arith), tt)) }

keep_byte_well : (n : ℕ) → AllWell n keep_byte_code
keep_byte_well n = record { all = ((tt, omega arith), tt) }

pub comparison_well : (n : ℕ) (how : Comparing) (op : BinaryOp) (operands : Operands) (right : IntType) (s : Bool) (to own : ℕ) (a b : List Line) → WellComparing n how → to < 2 ^ 32 → own < 2 ^ 32 → AllWell n a → AllWell n b → AllWell n (comparison_by how op operands right s to own a b)
comparison_well n (compared.Truth side) op operands right s to own a b h low room ha hb = labelled_well n own _ room (on_well n side a b ha hb)
comparison_well n (compared.Byte side first r byte) op operands right s to own a b h low room ha hb = labelled_well n own _ room (well_append n (low_code first (on side a b)) _ (low_well n first (on side a b) h.0 (on_well n side a b ha hb)) (compare_byte_well n r byte to h.1 low))
comparison_well n (compared.Whole side r signed sides) op operands right s to own a b h low room ha hb = well_append n (on side a b) _ (on_well n side a b ha hb) (compare_well n r signed sides own to h room low)
comparison_well n (compared.Held r signed) op operands right s to own a b h low room ha hb =
    well_append n a _ ha (well_append n keep_code _ (keep_well n) (well_append n b _ hb (compare_well n r signed (Word held_low held_high) own to (omega arith, omega arith) room low)))
comparison_well n (compared.HeldByte r) op operands right s to own a b h low room ha hb =
    labelled_well n own _ room (well_append n a _ ha (well_append n keep_byte_code _ (keep_byte_well n) (well_append n b _ hb (compare_byte_well n r held_low to (omega arith) low))))
comparison_well n compared.Stacked op operands right s to own a b h low room ha hb =
    let last : AllWell n (implied _ ∷ branch_code s to) = record { all = ((tt, tt), ((tt, low), tt)) } in
    labelled_well n own _ room (well_append n a _ ha (well_append n (between_code operands) _ (between_well n operands) (well_append n b _ hb (well_append n (behind_code op operands right) _ (behind_well n op operands right) last))))

-- ---- operators

abbrev pub WellForm : ℕ → Form → Type 0
WellForm n (forms.Sum m) = Unit {0}
WellForm n (forms.LongSum m) = Unit {0}
WellForm n (forms.Mask op m) = Unit {0}
WellForm n (forms.Constant kind quick) = Unit {0}
WellForm n (forms.Word op low high) = WellByte n low × WellByte n high
WellForm n (forms.Under low high) = WellByte n low × WellByte n high
WellForm n (forms.Indexed size low high) = WellByte n low × WellByte n high
WellForm n (forms.Distance size low high) = WellByte n low × WellByte n high
WellForm n (forms.DistanceUnder size low high) = WellByte n low × WellByte n high

abbrev pub WellForms : ℕ → Option Form → Type 0
WellForms n None = Unit {0}
WellForms n (Some form) = WellForm n form

abbrev pub WellOperating : ℕ → Operating → Type 0
WellOperating n (ways.Left form) = WellForm n form
WellOperating n (ways.Right form) = WellForm n form
WellOperating n (ways.Held form) = WellForm n form
WellOperating n ways.Stacked = Unit {0}

sum_well : (n : ℕ) (w : Width) (m : ℕ) → WellForm n (sum_by w m)
sum_well n Ax m = tt
sum_well n Eax m = tt

mask_well : (n : ℕ) (op : BinaryOp) (w : Width) (m : ℕ) → WellForms n (mask_by op w m)
mask_well n op Ax m = tt
mask_well n op Eax m = tt

constant_kind_well : (n : ℕ) (kind : IntType) (quick : Option _) → WellForms n (option_map (forms.Constant kind) quick)
constant_kind_well n kind None = tt
constant_kind_well n kind (Some quick) = tt

number_well : (n : ℕ) (op : BinaryOp) (kind : IntType) (m : ℕ) → WellForms n (number_form op kind m)
number_well n ops.Add kind m = sum_well n (width_of kind) m
number_well n ops.Sub kind m = sum_well n (width_of kind) (negative m)
number_well n ops.BitAnd kind m = mask_well n ops.BitAnd (width_of kind) m
number_well n ops.BitXor kind m = mask_well n ops.BitXor (width_of kind) m
number_well n ops.BitOr kind m = mask_well n ops.BitOr (width_of kind) m
number_well n op kind m = constant_kind_well n kind (quick_of op kind m)

offset_well : (n : ℕ) (op : BinaryOp) (m : ℕ) → WellForms n (offset_form op m)
offset_well n ops.Add m = tt
offset_well n ops.Sub m = tt
offset_well n _ m = tt

constant_well : (n : ℕ) (op : BinaryOp) (operands : Operands) (m : ℕ) → WellForms n (constant_form op operands m)
constant_well n op (Numbers kind) m = number_well n op kind m
constant_well n op (PointerFirst size) m = offset_well n op (m * size % 4294967296)
constant_well n op (PointerLast size) m = tt
constant_well n op (Pointers size) m = tt

forms_if : (n : ℕ) (b : Bool) (x y : Option Form) → WellForms n x → WellForms n y → WellForms n (if b then x else y)
forms_if n true x y p q = p
forms_if n false x y p q = q

word_if_well : (n : ℕ) (b : Bool) (op : BinaryOp) (w : Width) (low high : OperandByte) → WellByte n low → WellByte n high → WellForms n (word_if b op w low high)
word_if_well n true op Ax low high h k = (h, k)
word_if_well n true op Eax low high h k = tt
word_if_well n false op w low high h k = tt

element_well : (n : ℕ) (op : BinaryOp) (size : ℕ) (low high : OperandByte) → WellByte n low → WellByte n high → WellForms n (element_form op size low high)
element_well n ops.Add size low high h k = forms_if n (size == 1) (Some (forms.Word ops.Add low high)) None (h, k) tt
element_well n ops.Sub size low high h k = forms_if n (size == 1) (Some (forms.Word ops.Sub low high)) None (h, k) tt
element_well n _ size low high h k = tt

right_well : (n : ℕ) (op : BinaryOp) (operands : Operands) (low high : OperandByte) → WellByte n low → WellByte n high → WellForms n (right_form op operands low high)
right_well n op (Numbers kind) low high h k = word_if_well n (operators.takes_bytes op) op (width_of kind) low high h k
right_well n op (PointerFirst size) low high h k = element_well n op size low high h k
right_well n ops.Add (PointerLast size) low high h k = (h, k)
right_well n _ (PointerLast size) low high h k = tt
right_well n ops.Sub (Pointers size) low high h k = (h, k)
right_well n _ (Pointers size) low high h k = tt

under_if_well : (n : ℕ) (w : Width) (low high : OperandByte) → WellByte n low → WellByte n high → WellForms n (under_if w low high)
under_if_well n Ax low high h k = (h, k)
under_if_well n Eax low high h k = tt

left_well : (n : ℕ) (op : BinaryOp) (operands : Operands) (low high : OperandByte) → WellByte n low → WellByte n high → WellForms n (left_form op operands low high)
left_well n ops.Sub (Numbers kind) low high h k = under_if_well n (width_of kind) low high h k
left_well n op (Numbers kind) low high h k = word_if_well n (operators.takes_bytes op) op (width_of kind) low high h k
left_well n ops.Add (PointerFirst size) low high h k = (h, k)
left_well n _ (PointerFirst size) low high h k = tt
left_well n ops.Sub (PointerLast size) low high h k = tt
left_well n ops.Add (PointerLast size) low high h k = tt
left_well n _ (PointerLast size) low high h k = tt
left_well n ops.Sub (Pointers size) low high h k = (h, k)
left_well n _ (Pointers size) low high h k = tt

-- by the two bytes of a word, where it has both
taken_right : (n : ℕ) (op : BinaryOp) (operands : Operands) (low high : Option OperandByte) → WellMaybe n low → WellMaybe n high → WellForms n (option_and_then (λ w. right_form op operands w.0 w.1) (pair_of low high))
taken_right n op operands (Some low) (Some high) h k = right_well n op operands low high h k
taken_right n op operands None high h k = tt
taken_right n op operands (Some low) None h k = tt

taken_left : (n : ℕ) (op : BinaryOp) (operands : Operands) (low high : Option OperandByte) → WellMaybe n low → WellMaybe n high → WellForms n (option_and_then (λ w. left_form op operands w.0 w.1) (pair_of low high))
taken_left n op operands (Some low) (Some high) h k = left_well n op operands low high h k
taken_left n op operands None high h k = tt
taken_left n op operands (Some low) None h k = tt

direct_right_well : (n : ℕ) (op : BinaryOp) (operands : Operands) (b : Option Direct) → WellRead n b → WellForms n (direct_right op operands b)
direct_right_well n op operands None h = tt
direct_right_well n op operands (Some d) h = taken_right n op operands (byte_of d 0) (byte_of d 1) (byte_well n d 0 h) (byte_well n d 1 h)

direct_left_well : (n : ℕ) (op : BinaryOp) (operands : Operands) (a : Option Direct) → WellRead n a → WellForms n (direct_left op operands a)
direct_left_well n op operands None h = tt
direct_left_well n op operands (Some d) h = taken_left n op operands (byte_of d 0) (byte_of d 1) (byte_well n d 0 h) (byte_well n d 1 h)

pub constant_right_well : (n : ℕ) (op : BinaryOp) (operands : Operands) (b : Typed) → WellForms n (constant_right op operands b)
constant_right_well n op operands (node t (constant z)) = constant_well n op operands (residue_of z)
constant_right_well n op operands (node t _) = tt

by_left_well : (n : ℕ) (stays : Bool) (form : Option Form) → WellForms n form → WellOperating n (by_left stays form)
by_left_well n true (Some form) h = h
by_left_well n true None h = tt
by_left_well n false form h = tt

by_right_well : (n : ℕ) (form : Option Form) (other : Operating) → WellForms n form → WellOperating n other → WellOperating n (by_right form other)
by_right_well n (Some form) other h k = h
by_right_well n None other h k = k

held_elements_well : (n : ℕ) (op : BinaryOp) → WellForms n (held_elements op)
held_elements_well n ops.Add = (omega arith, omega arith)
held_elements_well n ops.Sub = (omega arith, omega arith)
held_elements_well n _ = tt

held_form_well : (n : ℕ) (op : BinaryOp) (operands : Operands) → WellForms n (held_form op operands)
held_form_well n op (Numbers kind) = left_well n op (Numbers kind) held_low held_high (omega arith) (omega arith)
held_form_well n op (PointerFirst size) = forms_if n (size == 1) (held_elements op) None (held_elements_well n op) tt
held_form_well n op (PointerLast size) = tt
held_form_well n ops.Sub (Pointers size) = (omega arith, omega arith)
held_form_well n _ (Pointers size) = tt

held_well : (n : ℕ) (is : Bool) (form : Option Form) → WellForms n form → WellOperating n (held_if is form)
held_well n true (Some form) h = h
held_well n true None h = tt
held_well n false form h = tt

or_held_operating : (n : ℕ) (how held : Operating) → WellOperating n how → WellOperating n held → WellOperating n (operators.or_held how held)
or_held_operating n (ways.Left form) held h k = h
or_held_operating n (ways.Right form) held h k = h
or_held_operating n (ways.Held form) held h k = h
or_held_operating n ways.Stacked held h k = k

reading_well : (n : ℕ) (u : UnitTy) (f : Framed) (pushed : ℕ) (op : BinaryOp) (operands : Operands) (a b : Typed) → Knows f u n → IsTyped u a → IsTyped u b → WellOperating n (reading_of f pushed op operands a b)
reading_well n u f pushed op operands a b knows h k =
    by_right_well n (constant_right op operands b) _ (constant_right_well n op operands b)
    (by_right_well n (direct_right op operands (direct_of f pushed b)) _ (direct_right_well n op operands (direct_of f pushed b) (read_well n u f pushed b knows k))
    (by_left_well n (is_fixed (direct_of f pushed a) || is_pure b) (direct_left op operands (direct_of f pushed a)) (direct_left_well n op operands (direct_of f pushed a) (read_well n u f pushed a knows h))))

pub operating_well : (n : ℕ) (u : UnitTy) (f : Framed) (pushed : ℕ) (op : BinaryOp) (operands : Operands) (a b : Typed) → Knows f u n → IsTyped u a → IsTyped u b → WellOperating n (operating_of f pushed op operands a b)
operating_well n u f pushed op operands a b knows h k =
    or_held_operating n (reading_of f pushed op operands a b) _ (reading_well n u f pushed op operands a b knows h k) (held_well n (is_light f pushed b) (held_form op operands) (held_form_well n op operands))

placed_well : (n : ℕ) (op : BinaryOp) (l : ℕ) → l < 2 ^ 32 → AllWell n (placed op l)
placed_well n ops.Add l room = well_none n
placed_well n ops.Sub l room = well_none n
placed_well n _ l room = record { all = (room, tt) }

pub value_well : (n : ℕ) (form : Form) (l : ℕ) → WellForm n form → l < 2 ^ 32 → AllWell n (value_form form l)
value_well n (forms.Sum m) l h room = add_number_well n m l room
value_well n (forms.LongSum m) l h room = labelled_well n l _ room (add_long_well n m)
value_well n (forms.Mask op m) l h room = labelled_well n l _ room (long_mask_well n op m)
value_well n (forms.Constant kind quick) l h room = quick_well n kind quick l room
value_well n (forms.Word op low high) l h room = well_append n (word_code op low high l) _ (word_well n op low high l h.0 h.1 room) (placed_well n op l room)
value_well n (forms.Under low high) l h room = labelled_well n l _ room (taken_from_well n low high h.0 h.1)
value_well n (forms.Indexed size low high) l h room = well_append n (elements_code size) _ (elements_well n size) (word_well n ops.Add low high l h.0 h.1 room)
value_well n (forms.Distance size low high) l h room = well_append n (word_code ops.Sub low high l) _ (word_well n ops.Sub low high l h.0 h.1 room) (divide_well n size)
value_well n (forms.DistanceUnder size low high) l h room = labelled_well n l _ room (well_append n (taken_from_code low high) _ (taken_from_well n low high h.0 h.1) (divide_well n size))

pointed_word_well : (n : ℕ) (op : BinaryOp) (low high : OperandByte) (l : ℕ) → WellByte n low → WellByte n high → l < 2 ^ 32 → AllWell n (pointed_word op low high l)
pointed_word_well n ops.Add low high l h k room = labelled_well n l _ room (pointed_sum_well n low high h k)
pointed_word_well n op low high l h k room = well_append n (word_code op low high l) _ (word_well n op low high l h k room) (well_append n (placed op l) pointer_code (placed_well n op l room) (pointer_code_well n))

pointed_form_well : (n : ℕ) (form : Form) (l : ℕ) → WellForm n form → l < 2 ^ 32 → AllWell n (pointed_form form l)
pointed_form_well n (forms.Word op low high) l h room = pointed_word_well n op low high l h.0 h.1 room
pointed_form_well n (forms.Indexed size low high) l h room = well_append n (elements_code size) _ (elements_well n size) (pointed_word_well n ops.Add low high l h.0 h.1 room)
pointed_form_well n form l h room = well_append n (value_form form l) pointer_code (value_well n form l h room) (pointer_code_well n)

form_well : (n : ℕ) (d : Destination) (form : Form) (l : ℕ) → WellForm n form → l < 2 ^ 32 → AllWell n (form_code d form l)
form_well n Registers form l h room = value_well n form l h room
form_well n Pointer form l h room = pointed_form_well n form l h room

waiting_well : (n : ℕ) (operands : Operands) → AllWell n (waiting_code operands)
waiting_well n (PointerLast size) = well_append n (elements_code size) _ (elements_well n size) (push_well n Ax)
waiting_well n (Numbers kind) = between_well n (Numbers kind)
waiting_well n (PointerFirst size) = between_well n (PointerFirst size)
waiting_well n (Pointers size) = between_well n (Pointers size)

stacked_well : (n : ℕ) (op : BinaryOp) (operands : Operands) (right : IntType) → AllWell n (stacked_code op operands right)
stacked_well n op (PointerFirst size) right = well_append n (elements_code size) _ (elements_well n size) (wide_well n op UInt)
stacked_well n op (Numbers kind) right = behind_well n op (Numbers kind) right
stacked_well n op (PointerLast size) right = behind_well n op (PointerLast size) right
stacked_well n op (Pointers size) right = behind_well n op (Pointers size) right

pub operator_well : (n : ℕ) (d : Destination) (how : Operating) (op : BinaryOp) (operands : Operands) (right : IntType) (l : ℕ) (a b : List Line) → WellOperating n how → l < 2 ^ 32 → AllWell n a → AllWell n b → AllWell n (operator_by d how op operands right l a b)
operator_well n d (ways.Left form) op operands right l a b h room ha hb = well_append n a _ ha (form_well n d form l h room)
operator_well n d (ways.Right form) op operands right l a b h room ha hb = well_append n b _ hb (form_well n d form l h room)
operator_well n d (ways.Held form) op operands right l a b h room ha hb = well_append n a _ ha (well_append n keep_code _ (keep_well n) (well_append n b _ hb (form_well n d form l h room)))
operator_well n d ways.Stacked op operands right l a b h room ha hb =
    well_append n a _ ha (well_append n (waiting_code operands) _ (waiting_well n operands) (well_append n b _ hb (well_append n (stacked_code op operands right) _ (stacked_well n op operands right) (well_more n _ _ room (arrived_well n d)))))
