-- The symbols of the bytes that the forms of operators and comparisons read.
use Rattle.std.proofs.Common.{ℕ, ◌*◌, ◌%◌, ◌==◌, Bool, true, false, Option, None, Some, List, ◌∷◌}
use Rattle.std.specs.Prelude.{if◌then◌else◌, ◌&&◌, ◌||◌, is_some, option_map, option_and_then}
use Rattle.c65_base.specs.declared.operators.BinaryOp.{BinaryOp}
use Rattle.c65_base.specs.declared.operators.BinaryOp.TheVariants as ops
use Rattle.c65_ints.specs.declared.types.IntType.{IntType}
use Rattle.c65_ints.specs.declared.types.IntType.TheVariants.{UInt}
use Rattle.c65_ctype.specs.Trees.{type_in}
use Rattle.c65_ctype.specs.Views.{types_of}
use Rattle.c65_csem.specs.Trees.{Typed, node, constant, null, func, deref, member, load, address, decay, convert}
use Rattle.c65_code.specs.declared.line.Line.{Line}
use Rattle.c65_code.specs.declared.routine.Width.{Width}
use Rattle.c65_code.specs.declared.routine.Width.TheVariants.{Ax, Eax}
use Rattle.c65_genframe.specs.Frames.{Framed}
use Rattle.c65_genwide.specs.Wide.{width_of}
use Rattle.c65_genload.specs.Words.{implied}
use Rattle.c65_genload.specs.declared.places.Extent.{Extent}
use Rattle.c65_genload.specs.declared.places.Extent.TheVariants.{One, Two, Three, Four}
use Rattle.c65_genload.specs.Places.{extent_of}
use Rattle.c65_genload.specs.declared.places.Place.{Place}
use Rattle.c65_genload.specs.declared.places.Place.TheVariants as places
use Rattle.c65_genload.specs.declared.places.Access.{Access}
use Rattle.c65_genload.specs.declared.places.Access.TheVariants.{Whole, Part}
use Rattle.c65_gendirect.specs.declared.bytes.OperandByte.{OperandByte}
use Rattle.c65_gendirect.specs.declared.direct.Direct.{Direct}
use Rattle.c65_gendirect.specs.declared.direct.Direct.TheVariants as directs
use Rattle.c65_gendirect.specs.declared.compare.Sides.{Sides}
use Rattle.c65_gendirect.specs.declared.compare.Sides.TheVariants.{Word, Long}
use Rattle.c65_gendirect.specs.declared.relation.Relation.{Relation}
use Rattle.c65_gendirect.specs.Bytes.{byte_of}
use Rattle.c65_gendirect.specs.Compare.{mirrored}
use Rattle.c65_genshift.specs.Quick.{quick_of}
use Rattle.c65_genexpr.specs.declared.destination.Destination.{Destination}
use Rattle.c65_genexpr.specs.declared.destination.Destination.TheVariants.{Registers, Pointer}
use Rattle.c65_genexpr.specs.declared.operands.Operands.{Operands}
use Rattle.c65_genexpr.specs.declared.operands.Operands.TheVariants.{Numbers, PointerFirst, PointerLast, Pointers}
use Rattle.c65_genexpr.specs.declared.storing.Storing.{Storing}
use Rattle.c65_genexpr.specs.declared.storing.Storing.TheVariants as storing
use Rattle.c65_gendirect.specs.declared.through.Stored.{Stored}
use Rattle.c65_gendirect.specs.declared.through.Stored.TheVariants as stores
use Rattle.c65_genexpr.specs.Storing as storings
use Rattle.c65_genexpr.specs.Storing.{pointer_of, word_stored, bytes_stored, through, by_value, by_pointer, storing_by, storing_of}
use Rattle.c65_genexpr.specs.declared.operating.Form.{Form}
use Rattle.c65_genexpr.specs.declared.operating.Form.TheVariants as forms
use Rattle.c65_genexpr.specs.declared.operating.Operating.{Operating}
use Rattle.c65_genexpr.specs.declared.operating.Operating.TheVariants as ways
use Rattle.c65_genexpr.specs.declared.comparing.Side.{Side}
use Rattle.c65_genexpr.specs.declared.comparing.Side.TheVariants.{Left, Right}
use Rattle.c65_genexpr.specs.declared.comparing.Comparing.{Comparing}
use Rattle.c65_genexpr.specs.declared.comparing.Comparing.TheVariants as compared
use Rattle.c65_genexpr.specs.Types.{kind_of, bare, offset_at, access_of}
use Rattle.c65_genexpr.specs.Places.{has_base, place_of, is_plain}
use Rattle.c65_genexpr.specs.Operands.{residue_of, negative}
use Rattle.c65_genexpr.specs.Direct.{kept_at, address_at, address_of, takes_bytes, converted_if, direct_of, own_bytes, is_fixed, is_pure, is_byte, both_bytes, all_bytes, sides_of, listed, alone}
use Rattle.c65_genexpr.specs.Comparing.{tested_by, lowest, is_raised, raised, one_more, range_of, meeting, beside, changes, compared_by, comparing_of, on, low_code, comparison_by, held_by}
use Rattle.c65_genexpr.specs.Operating.{sum_by, mask_by, number_form, offset_form, constant_form, pair_of, word_in, word_if, element_form, right_form, under_if, left_form, constant_right, direct_right, direct_left, by_left, by_right, operating_of, placed, value_form, pointed_word, pointed_form, form_code, waiting_code, stacked_code, operator_by, reading_of, is_light, held_elements, held_form, held_if}
use Rattle.c65_genexpr.specs.Operating as operators
use Rattle.c65_genexpr.specs.Comparing as comparisons
use Rattle.c65_genexpr.specs.Held.{held_low, held_high, keep_code, keep_byte_code, byte_behind_code, word_behind_code}
use Rattle.c65_genexpr.specs.Wanted.{branch_code}
use Rattle.c65_gen_law_names.specs.Trees.{KnownTree}
use Rattle.c65_gen_law_names.proofs.Known.{AllKnown, known_more, known_none, known_then}
use Rattle.c65_gen_law_names.proofs.Loads.{KnownPlace, divide_known, push_known, wide_known}
use Rattle.c65_gen_law_names.proofs.Places.{behind_known, between_known, place_known}
use Rattle.c65_gen_law_names.proofs.Directs.{AreBytes, KnownByte, KnownDirect, KnownMaybe, KnownRead, KnownSides, KnownStored, add_long_known, add_number_known, byte_known, compare_byte_known, compare_known, converted_known, elements_known, labelled_known, long_mask_known, op_known, pointed_sum_known, pointer_code_known, quick_known, read_if, taken_from_known, word_known}
use Rattle.c65_gen_law_names.proofs.Pointed.{arrived_known}

-- ---- values that are read where they lie

pub kept_known : (P : ℕ → Type 0) (p : Place) (access : Access) → KnownPlace P p → KnownRead P (kept_at p access)
kept_known P (places.Far at) access h = tt
kept_known P (places.Bank at) (Whole kind) h = h
kept_known P (places.Near at) (Whole kind) h = h
kept_known P (places.Data s at) (Whole kind) h = h
kept_known P (places.Bank at) (Part field) h = tt
kept_known P (places.Near at) (Part field) h = tt
kept_known P (places.Data s at) (Part field) h = tt

address_at_known : (P : ℕ → Type 0) (p : Place) → KnownPlace P p → KnownRead P (address_at p)
address_at_known P (places.Data s at) h = h
address_at_known P (places.Bank at) h = tt
address_at_known P (places.Near at) h = tt
address_at_known P (places.Far at) h = tt

address_of_known : (P : ℕ → Type 0) (f : Framed) (pushed : ℕ) (e : Typed) → KnownTree P f e → KnownRead P (address_of f pushed e)
address_of_known P f pushed (node t (func i)) h = h
address_of_known P f pushed (node t e) h = read_if P (is_plain (node t e)) (address_at (place_of f pushed (node t e))) None (address_at_known P (place_of f pushed (node t e)) (place_known P f pushed (node t e) h)) tt

converted_if_known : (P : ℕ → Type 0) (b : Bool) (to : IntType) (d : Option Direct) → KnownRead P d → KnownRead P (converted_if b to d)
converted_if_known P true to None h = tt
converted_if_known P true to (Some d) h = converted_known P to d h
converted_if_known P false to d h = tt

pub read_known : (P : ℕ → Type 0) (f : Framed) (pushed : ℕ) (e : Typed) → KnownTree P f e → KnownRead P (direct_of f pushed e)
read_known P f pushed (node t (constant z)) h = tt
read_known P f pushed (node t null) h = tt
read_known P f pushed (node t (load e)) h =
    read_if P (is_plain e) (kept_at (place_of f pushed e) (access_of (types_of f.parts.types) e)) None (kept_known P (place_of f pushed e) (access_of (types_of f.parts.types) e) (place_known P f pushed e h)) tt
read_known P f pushed (node t (address e)) h = address_of_known P f pushed e h
read_known P f pushed (node t (decay e)) h = address_of_known P f pushed e h
read_known P f pushed (node t (convert e)) h = converted_if_known P (takes_bytes (type_in t) (bare e)) (kind_of (type_in t)) (direct_of f pushed e) (read_known P f pushed e h)
read_known P f pushed (node t _) h = tt

-- ---- assignments

abbrev pub KnownStoring : (ℕ → Type 0) → Storing → Type 0
KnownStoring P (storing.Left at stored) = KnownStored P stored
KnownStoring P (storing.RightByte at low high) = KnownByte P low × KnownByte P high
KnownStoring P (storing.RightWord at low high) = KnownByte P low × KnownByte P high
KnownStoring P (storing.HeldByte at) = Unit {0}
KnownStoring P (storing.HeldWord at) = Unit {0}
KnownStoring P storing.Stacked = Unit {0}

-- a pointer that is read
pointer_known : (P : ℕ → Type 0) (f : Framed) (pushed : ℕ) (e : Typed) → KnownTree P f e → KnownRead P (pointer_of f pushed e)
pointer_known P f pushed (node t (deref e)) h = read_known P f pushed e h
pointer_known P f pushed (node t (member e m)) h = read_if P (has_base (place_of f pushed e) (offset_at (types_of f.parts.types) (bare e) m)) (pointer_of f pushed e) None (pointer_known P f pushed e h) tt
pointer_known P f pushed (node t _) h = tt

abbrev MaybeStored : (ℕ → Type 0) → Option Stored → Type 0
MaybeStored P None = Unit {0}
MaybeStored P (Some stored) = KnownStored P stored

abbrev MaybePair : (ℕ → Type 0) → Option (OperandByte × OperandByte) → Type 0
MaybePair P None = Unit {0}
MaybePair P (Some w) = KnownByte P w.0 × KnownByte P w.1

pair_known : (P : ℕ → Type 0) (low high : Option OperandByte) → KnownMaybe P low → KnownMaybe P high → MaybePair P (pair_of low high)
pair_known P (Some low) (Some high) h k = (h, k)
pair_known P None high h k = tt
pair_known P (Some low) None h k = tt

word_in_known : (P : ℕ → Type 0) (d : Direct) → KnownDirect P d → MaybePair P (word_in d)
word_in_known P d h = pair_known P (byte_of d 0) (byte_of d 1) (byte_known P d 0 h) (byte_known P d 1 h)

word_read_known : (P : ℕ → Type 0) (d : Option Direct) → KnownRead P d → MaybePair P (option_and_then word_in d)
word_read_known P None h = tt
word_read_known P (Some d) h = word_in_known P d h

fixed_known : (P : ℕ → Type 0) (fixed : Bool) (w : OperandByte × OperandByte) → KnownByte P w.0 × KnownByte P w.1 → KnownStored P (word_stored fixed w)
fixed_known P true w h = h
fixed_known P false w h = h

single_known : (P : ℕ → Type 0) (low : Option OperandByte) → KnownMaybe P low → MaybeStored P (option_map stores.Single low)
single_known P None h = tt
single_known P (Some low) h = h

double_known : (P : ℕ → Type 0) (fixed : Bool) (w : Option (OperandByte × OperandByte)) → MaybePair P w → MaybeStored P (option_map (word_stored fixed) w)
double_known P fixed None h = tt
double_known P fixed (Some w) h = fixed_known P fixed w h

bytes_stored_known : (P : ℕ → Type 0) (extent : Extent) (d : Direct) → KnownDirect P d → MaybeStored P (bytes_stored extent d)
bytes_stored_known P One d h = single_known P (byte_of d 0) (byte_known P d 0 h)
bytes_stored_known P Two d h = double_known P (is_fixed (Some d)) (word_in d) (word_in_known P d h)
bytes_stored_known P Three d h = tt
bytes_stored_known P Four d h = tt

value_stored_known : (P : ℕ → Type 0) (extent : Extent) (d : Option Direct) → KnownRead P d → MaybeStored P (option_and_then (bytes_stored extent) d)
value_stored_known P extent None h = tt
value_stored_known P extent (Some d) h = bytes_stored_known P extent d h

through_known : (P : ℕ → Type 0) (at : ℕ) (extent : Extent) (w : OperandByte × OperandByte) → KnownByte P w.0 × KnownByte P w.1 → KnownStoring P (through at extent w)
through_known P at One w h = h
through_known P at Two w h = h
through_known P at Three w h = tt
through_known P at Four w h = tt

by_pointer_known : (P : ℕ → Type 0) (at : ℕ) (extent : Extent) (w : Option (OperandByte × OperandByte)) → MaybePair P w → KnownStoring P (by_pointer at extent w)
by_pointer_known P at extent None h = tt
by_pointer_known P at extent (Some w) h = through_known P at extent w h

by_value_known : (P : ℕ → Type 0) (at : ℕ) (stored : Option Stored) (other : Storing) → MaybeStored P stored → KnownStoring P other → KnownStoring P (by_value at stored other)
by_value_known P at None other h k = k
by_value_known P at (Some stored) other h k = h

storing_by_known : (P : ℕ → Type 0) (place : Place) (access : Access) (x y : Option Direct) → KnownPlace P place → KnownRead P x → KnownRead P y → KnownStoring P (storing_by place access x y)
storing_by_known P (places.Far at) (Whole kind) x y b h k = by_value_known P at _ _ (value_stored_known P (extent_of kind) y k) (by_pointer_known P at (extent_of kind) _ (word_read_known P x h))
storing_by_known P (places.Far at) (Part field) x y b h k = tt
storing_by_known P (places.Bank at) access x y b h k = tt
storing_by_known P (places.Near at) access x y b h k = tt
storing_by_known P (places.Data s at) access x y b h k = tt

held_at_known : (P : ℕ → Type 0) (at : ℕ) (extent : Extent) → KnownStoring P (storings.held_at at extent)
held_at_known P at One = tt
held_at_known P at Two = tt
held_at_known P at Three = tt
held_at_known P at Four = tt

held_store_known : (P : ℕ → Type 0) (is : Bool) (place : Place) (access : Access) → KnownPlace P place → KnownStoring P (storings.held_if is place access)
held_store_known P true (places.Far at) (Whole kind) h = held_at_known P at (extent_of kind)
held_store_known P true (places.Far at) (Part field) h = tt
held_store_known P true (places.Bank at) access h = tt
held_store_known P true (places.Near at) access h = tt
held_store_known P true (places.Data s at) access h = tt
held_store_known P false place access h = tt

or_held_store : (P : ℕ → Type 0) (how held : Storing) → KnownStoring P how → KnownStoring P held → KnownStoring P (storings.or_held how held)
or_held_store P (storing.Left at stored) held p q = p
or_held_store P (storing.RightByte at low high) held p q = p
or_held_store P (storing.RightWord at low high) held p q = p
or_held_store P (storing.HeldByte at) held p q = p
or_held_store P (storing.HeldWord at) held p q = p
or_held_store P storing.Stacked held p q = q

pub storing_known : (P : ℕ → Type 0) (f : Framed) (pushed : ℕ) (a b : Typed) → KnownTree P f a → KnownTree P f b → KnownStoring P (storing_of f pushed a b)
storing_known P f pushed a b h k =
    let place : Place = place_of f pushed a in
    let access : Access = access_of (types_of f.parts.types) a in
    or_held_store P _ _
    (storing_by_known P place access _ (direct_of f pushed b) (place_known P f pushed a h)
    (read_if P (is_fixed (pointer_of f pushed a) || is_pure b) (pointer_of f pushed a) None (pointer_known P f pushed a h) tt) (read_known P f pushed b k))
    (held_store_known P (is_light f pushed b) place access (place_known P f pushed a h))

-- ---- comparisons

abbrev pub KnownComparing : (ℕ → Type 0) → Comparing → Type 0
KnownComparing P (compared.Truth side) = Unit {0}
KnownComparing P (compared.Byte side low r byte) = KnownMaybe P low × KnownByte P byte
KnownComparing P (compared.Whole side r signed sides) = KnownSides P sides
KnownComparing P (compared.Held r signed) = Unit {0}
KnownComparing P (compared.HeldByte r) = Unit {0}
KnownComparing P compared.Stacked = Unit {0}

abbrev KnownSome : (ℕ → Type 0) → Option Sides → Type 0
KnownSome P None = Unit {0}
KnownSome P (Some sides) = KnownSides P sides

both_bytes_known : (P : ℕ → Type 0) (a b : Option OperandByte) → KnownMaybe P a → KnownMaybe P b → KnownSome P (both_bytes a b)
both_bytes_known P (Some a) (Some b) h k = (h, k)
both_bytes_known P None b h k = tt
both_bytes_known P (Some a) None h k = tt

all_bytes_known : (P : ℕ → Type 0) (a b c d : Option OperandByte) → KnownMaybe P a → KnownMaybe P b → KnownMaybe P c → KnownMaybe P d → KnownSome P (all_bytes a b c d)
all_bytes_known P (Some a) (Some b) (Some c) (Some d) h k l m = (h, (k, (l, m)))
all_bytes_known P None b c d h k l m = tt
all_bytes_known P (Some a) None c d h k l m = tt
all_bytes_known P (Some a) (Some b) None d h k l m = tt
all_bytes_known P (Some a) (Some b) (Some c) None h k l m = tt

sides_known : (P : ℕ → Type 0) (w : Width) (d : Direct) → KnownDirect P d → KnownSome P (sides_of w d)
sides_known P Ax d h = both_bytes_known P (byte_of d 0) (byte_of d 1) (byte_known P d 0 h) (byte_known P d 1 h)
sides_known P Eax d h = all_bytes_known P (byte_of d 0) (byte_of d 1) (byte_of d 2) (byte_of d 3) (byte_known P d 0 h) (byte_known P d 1 h) (byte_known P d 2 h) (byte_known P d 3 h)

listed_known : (P : ℕ → Type 0) (sides : Option Sides) → KnownSome P sides → AreBytes P (listed sides)
listed_known P None h = tt
listed_known P (Some (Word low high)) h = (h.0, (h.1, tt))
listed_known P (Some (Long d0 d1 d2 d3)) h = (h.0, (h.1.0, (h.1.1.0, (h.1.1.1, tt))))

alone_known : (P : ℕ → Type 0) (byte : Option OperandByte) → KnownMaybe P byte → AreBytes P (alone byte)
alone_known P None h = tt
alone_known P (Some byte) h = (h, tt)

pub own_known : (P : ℕ → Type 0) (d : Direct) (e : Extent) → KnownDirect P d → AreBytes P (own_bytes d e)
own_known P d One h = alone_known P (byte_of d 0) (byte_known P d 0 h)
own_known P d Two h = listed_known P (sides_of Ax d) (sides_known P Ax d h)
own_known P d _ h = listed_known P (sides_of Eax d) (sides_known P Eax d h)

lowest_known : (P : ℕ → Type 0) (sides : Sides) → KnownSides P sides → KnownByte P (lowest sides)
lowest_known P (Word low high) h = h.0
lowest_known P (Long d0 d1 d2 d3) h = h.0

pub first_known : (P : ℕ → Type 0) (d : Option Direct) → KnownRead P d → KnownMaybe P (option_and_then (λ x. byte_of x 0) d)
first_known P None h = tt
first_known P (Some d) h = byte_known P d 0 h

one_more_known : (P : ℕ → Type 0) (d : Direct) → KnownDirect P d → KnownDirect P (one_more d)
one_more_known P (directs.Number m) h = tt
one_more_known P (directs.Address s at) h = h
one_more_known P (directs.Kept p kind) h = h

meeting_known : (P : ℕ → Type 0) (side : Side) (r : Relation) (few : Bool) (kind : IntType) (first : Option Direct) (sides : Option Sides) → KnownRead P first → KnownSome P sides → KnownComparing P (meeting side r few kind first sides)
meeting_known P side r few kind first None h k = tt
meeting_known P side r true kind first (Some sides) h k = (first_known P first h, lowest_known P sides k)
meeting_known P side r false kind first (Some sides) h k = k

comparing_if : (P : ℕ → Type 0) (b : Bool) (x y : Comparing) → KnownComparing P x → KnownComparing P y → KnownComparing P (if b then x else y)
comparing_if P true x y p q = p
comparing_if P false x y p q = q

beside_known : (P : ℕ → Type 0) (side : Side) (r : Relation) (few : Bool) (kind : IntType) (first second : Option Direct) → KnownRead P first → KnownRead P second → KnownComparing P (beside side r few kind first second)
beside_known P side r few kind first None h k = tt
beside_known P side r few kind first (Some d) h k =
    comparing_if P (is_raised r (range_of few kind) d) _ _
    (meeting_known P side (raised r) few kind first (sides_of (width_of kind) (one_more d)) h (sides_known P (width_of kind) (one_more d) (one_more_known P d k)))
    (meeting_known P side r few kind first (sides_of (width_of kind) d) h (sides_known P (width_of kind) d k))

compared_known : (P : ℕ → Type 0) (r : Relation) (few : Bool) (kind : IntType) (pure : Bool) (a b : Option Direct) → KnownRead P a → KnownRead P b → KnownComparing P (compared_by r few kind pure a b)
compared_known P r few kind pure a b h k = comparing_if P (changes kind pure a b) _ _ (beside_known P Right (mirrored r) few kind b a k h) (beside_known P Left r few kind a b h k)

held_by_known : (P : ℕ → Type 0) (is few : Bool) (w : Width) (r : Relation) (kind : IntType) → KnownComparing P (held_by is few w r kind)
held_by_known P true true Ax r kind = tt
held_by_known P true false Ax r kind = tt
held_by_known P true few Eax r kind = tt
held_by_known P false few w r kind = tt

or_held_known : (P : ℕ → Type 0) (how held : Comparing) → KnownComparing P how → KnownComparing P held → KnownComparing P (comparisons.or_held how held)
or_held_known P (compared.Truth side) held h k = h
or_held_known P (compared.Byte side low r byte) held h k = h
or_held_known P (compared.Whole side r signed sides) held h k = h
or_held_known P (compared.Held r signed) held h k = h
or_held_known P (compared.HeldByte r) held h k = h
or_held_known P compared.Stacked held h k = k

pub comparing_known : (P : ℕ → Type 0) (f : Framed) (pushed : ℕ) (r : Relation) (kind : IntType) (a b : Typed) → KnownTree P f a → KnownTree P f b → KnownComparing P (comparing_of f pushed r kind a b)
comparing_known P f pushed r kind a b h k =
    comparing_if P (is_some (tested_by r b)) (compared.Truth Left) _ tt
    (comparing_if P (is_some (tested_by r a)) (compared.Truth Right) _ tt
    (or_held_known P (compared_by r (is_byte a && is_byte b) kind (is_pure b) (direct_of f pushed a) (direct_of f pushed b)) _ (compared_known P r (is_byte a && is_byte b) kind (is_pure b) (direct_of f pushed a) (direct_of f pushed b) (read_known P f pushed a h) (read_known P f pushed b k)) (held_by_known P (is_light f pushed b) (is_byte a && is_byte b) (width_of kind) r kind)))

on_known : (P : ℕ → Type 0) (side : Side) (a b : List Line) → AllKnown P a → AllKnown P b → AllKnown P (on side a b)
on_known P Left a b h k = h
on_known P Right a b h k = k

pub low_known : (P : ℕ → Type 0) (byte : Option OperandByte) (lines : List Line) → KnownMaybe P byte → AllKnown P lines → AllKnown P (low_code byte lines)
low_known P None lines h k = k
low_known P (Some byte) lines h k = op_known P _ byte h

pub byte_behind_known : (P : ℕ → Type 0) (at : ℕ) → AllKnown P (byte_behind_code at)
byte_behind_known P at = record { all = tt }

pub word_behind_known : (P : ℕ → Type 0) (at : ℕ) → AllKnown P (word_behind_code at)
word_behind_known P at = record { all = tt }

pub keep_known : (P : ℕ → Type 0) → AllKnown P keep_code
keep_known P = record { all = tt }

keep_byte_known : (P : ℕ → Type 0) → AllKnown P keep_byte_code
keep_byte_known P = record { all = tt }

pub comparison_known : (P : ℕ → Type 0) (how : Comparing) (op : BinaryOp) (operands : Operands) (right : IntType) (s : Bool) (to own : ℕ) (a b : List Line) → KnownComparing P how → AllKnown P a → AllKnown P b → AllKnown P (comparison_by how op operands right s to own a b)
comparison_known P (compared.Truth side) op operands right s to own a b h ha hb = labelled_known P own _ (on_known P side a b ha hb)
comparison_known P (compared.Byte side first r byte) op operands right s to own a b h ha hb = labelled_known P own _ (known_then (low_known P first (on side a b) h.0 (on_known P side a b ha hb)) (compare_byte_known P r byte to h.1))
comparison_known P (compared.Whole side r signed sides) op operands right s to own a b h ha hb = known_then (on_known P side a b ha hb) (compare_known P r signed sides own to h)
comparison_known P (compared.Held r signed) op operands right s to own a b h ha hb =
    known_then ha (known_then {a = keep_code} (keep_known P) (known_then hb (compare_known P r signed (Word held_low held_high) own to (tt, tt))))
comparison_known P (compared.HeldByte r) op operands right s to own a b h ha hb =
    labelled_known P own _ (known_then ha (known_then {a = keep_byte_code} (keep_byte_known P) (known_then hb (compare_byte_known P r held_low to tt))))
comparison_known P compared.Stacked op operands right s to own a b h ha hb =
    let last : AllKnown P (implied _ ∷ branch_code s to) = record { all = tt } in
    labelled_known P own _ (known_then ha (known_then (between_known P operands) (known_then hb (known_then (behind_known P op operands right) last))))

-- ---- operators

abbrev pub KnownForm : (ℕ → Type 0) → Form → Type 0
KnownForm P (forms.Sum m) = Unit {0}
KnownForm P (forms.LongSum m) = Unit {0}
KnownForm P (forms.Mask op m) = Unit {0}
KnownForm P (forms.Constant kind quick) = Unit {0}
KnownForm P (forms.Word op low high) = KnownByte P low × KnownByte P high
KnownForm P (forms.Under low high) = KnownByte P low × KnownByte P high
KnownForm P (forms.Indexed size low high) = KnownByte P low × KnownByte P high
KnownForm P (forms.Distance size low high) = KnownByte P low × KnownByte P high
KnownForm P (forms.DistanceUnder size low high) = KnownByte P low × KnownByte P high

abbrev pub KnownForms : (ℕ → Type 0) → Option Form → Type 0
KnownForms P None = Unit {0}
KnownForms P (Some form) = KnownForm P form

abbrev pub KnownOperating : (ℕ → Type 0) → Operating → Type 0
KnownOperating P (ways.Left form) = KnownForm P form
KnownOperating P (ways.Right form) = KnownForm P form
KnownOperating P (ways.Held form) = KnownForm P form
KnownOperating P ways.Stacked = Unit {0}

sum_known : (P : ℕ → Type 0) (w : Width) (m : ℕ) → KnownForm P (sum_by w m)
sum_known P Ax m = tt
sum_known P Eax m = tt

mask_known : (P : ℕ → Type 0) (op : BinaryOp) (w : Width) (m : ℕ) → KnownForms P (mask_by op w m)
mask_known P op Ax m = tt
mask_known P op Eax m = tt

constant_kind_known : (P : ℕ → Type 0) (kind : IntType) (quick : Option _) → KnownForms P (option_map (forms.Constant kind) quick)
constant_kind_known P kind None = tt
constant_kind_known P kind (Some quick) = tt

number_known : (P : ℕ → Type 0) (op : BinaryOp) (kind : IntType) (m : ℕ) → KnownForms P (number_form op kind m)
number_known P ops.Add kind m = sum_known P (width_of kind) m
number_known P ops.Sub kind m = sum_known P (width_of kind) (negative m)
number_known P ops.BitAnd kind m = mask_known P ops.BitAnd (width_of kind) m
number_known P ops.BitXor kind m = mask_known P ops.BitXor (width_of kind) m
number_known P ops.BitOr kind m = mask_known P ops.BitOr (width_of kind) m
number_known P op kind m = constant_kind_known P kind (quick_of op kind m)

offset_known : (P : ℕ → Type 0) (op : BinaryOp) (m : ℕ) → KnownForms P (offset_form op m)
offset_known P ops.Add m = tt
offset_known P ops.Sub m = tt
offset_known P _ m = tt

constant_known : (P : ℕ → Type 0) (op : BinaryOp) (operands : Operands) (m : ℕ) → KnownForms P (constant_form op operands m)
constant_known P op (Numbers kind) m = number_known P op kind m
constant_known P op (PointerFirst size) m = offset_known P op (m * size % 4294967296)
constant_known P op (PointerLast size) m = tt
constant_known P op (Pointers size) m = tt

forms_if : (P : ℕ → Type 0) (b : Bool) (x y : Option Form) → KnownForms P x → KnownForms P y → KnownForms P (if b then x else y)
forms_if P true x y p q = p
forms_if P false x y p q = q

word_if_known : (P : ℕ → Type 0) (b : Bool) (op : BinaryOp) (w : Width) (low high : OperandByte) → KnownByte P low → KnownByte P high → KnownForms P (word_if b op w low high)
word_if_known P true op Ax low high h k = (h, k)
word_if_known P true op Eax low high h k = tt
word_if_known P false op w low high h k = tt

element_known : (P : ℕ → Type 0) (op : BinaryOp) (size : ℕ) (low high : OperandByte) → KnownByte P low → KnownByte P high → KnownForms P (element_form op size low high)
element_known P ops.Add size low high h k = forms_if P (size == 1) (Some (forms.Word ops.Add low high)) None (h, k) tt
element_known P ops.Sub size low high h k = forms_if P (size == 1) (Some (forms.Word ops.Sub low high)) None (h, k) tt
element_known P _ size low high h k = tt

right_known : (P : ℕ → Type 0) (op : BinaryOp) (operands : Operands) (low high : OperandByte) → KnownByte P low → KnownByte P high → KnownForms P (right_form op operands low high)
right_known P op (Numbers kind) low high h k = word_if_known P (operators.takes_bytes op) op (width_of kind) low high h k
right_known P op (PointerFirst size) low high h k = element_known P op size low high h k
right_known P ops.Add (PointerLast size) low high h k = (h, k)
right_known P _ (PointerLast size) low high h k = tt
right_known P ops.Sub (Pointers size) low high h k = (h, k)
right_known P _ (Pointers size) low high h k = tt

under_if_known : (P : ℕ → Type 0) (w : Width) (low high : OperandByte) → KnownByte P low → KnownByte P high → KnownForms P (under_if w low high)
under_if_known P Ax low high h k = (h, k)
under_if_known P Eax low high h k = tt

left_known : (P : ℕ → Type 0) (op : BinaryOp) (operands : Operands) (low high : OperandByte) → KnownByte P low → KnownByte P high → KnownForms P (left_form op operands low high)
left_known P ops.Sub (Numbers kind) low high h k = under_if_known P (width_of kind) low high h k
left_known P op (Numbers kind) low high h k = word_if_known P (operators.takes_bytes op) op (width_of kind) low high h k
left_known P ops.Add (PointerFirst size) low high h k = (h, k)
left_known P _ (PointerFirst size) low high h k = tt
left_known P ops.Sub (PointerLast size) low high h k = tt
left_known P ops.Add (PointerLast size) low high h k = tt
left_known P _ (PointerLast size) low high h k = tt
left_known P ops.Sub (Pointers size) low high h k = (h, k)
left_known P _ (Pointers size) low high h k = tt

-- by the two bytes of a word, where it has both
taken_right : (P : ℕ → Type 0) (op : BinaryOp) (operands : Operands) (low high : Option OperandByte) → KnownMaybe P low → KnownMaybe P high → KnownForms P (option_and_then (λ w. right_form op operands w.0 w.1) (pair_of low high))
taken_right P op operands (Some low) (Some high) h k = right_known P op operands low high h k
taken_right P op operands None high h k = tt
taken_right P op operands (Some low) None h k = tt

taken_left : (P : ℕ → Type 0) (op : BinaryOp) (operands : Operands) (low high : Option OperandByte) → KnownMaybe P low → KnownMaybe P high → KnownForms P (option_and_then (λ w. left_form op operands w.0 w.1) (pair_of low high))
taken_left P op operands (Some low) (Some high) h k = left_known P op operands low high h k
taken_left P op operands None high h k = tt
taken_left P op operands (Some low) None h k = tt

direct_right_known : (P : ℕ → Type 0) (op : BinaryOp) (operands : Operands) (b : Option Direct) → KnownRead P b → KnownForms P (direct_right op operands b)
direct_right_known P op operands None h = tt
direct_right_known P op operands (Some d) h = taken_right P op operands (byte_of d 0) (byte_of d 1) (byte_known P d 0 h) (byte_known P d 1 h)

direct_left_known : (P : ℕ → Type 0) (op : BinaryOp) (operands : Operands) (a : Option Direct) → KnownRead P a → KnownForms P (direct_left op operands a)
direct_left_known P op operands None h = tt
direct_left_known P op operands (Some d) h = taken_left P op operands (byte_of d 0) (byte_of d 1) (byte_known P d 0 h) (byte_known P d 1 h)

pub constant_right_known : (P : ℕ → Type 0) (op : BinaryOp) (operands : Operands) (b : Typed) → KnownForms P (constant_right op operands b)
constant_right_known P op operands (node t (constant z)) = constant_known P op operands (residue_of z)
constant_right_known P op operands (node t _) = tt

by_left_known : (P : ℕ → Type 0) (stays : Bool) (form : Option Form) → KnownForms P form → KnownOperating P (by_left stays form)
by_left_known P true (Some form) h = h
by_left_known P true None h = tt
by_left_known P false form h = tt

by_right_known : (P : ℕ → Type 0) (form : Option Form) (other : Operating) → KnownForms P form → KnownOperating P other → KnownOperating P (by_right form other)
by_right_known P (Some form) other h k = h
by_right_known P None other h k = k

held_elements_known : (P : ℕ → Type 0) (op : BinaryOp) → KnownForms P (held_elements op)
held_elements_known P ops.Add = (tt, tt)
held_elements_known P ops.Sub = (tt, tt)
held_elements_known P _ = tt

held_form_known : (P : ℕ → Type 0) (op : BinaryOp) (operands : Operands) → KnownForms P (held_form op operands)
held_form_known P op (Numbers kind) = left_known P op (Numbers kind) held_low held_high tt tt
held_form_known P op (PointerFirst size) = forms_if P (size == 1) (held_elements op) None (held_elements_known P op) tt
held_form_known P op (PointerLast size) = tt
held_form_known P ops.Sub (Pointers size) = (tt, tt)
held_form_known P _ (Pointers size) = tt

held_known : (P : ℕ → Type 0) (is : Bool) (form : Option Form) → KnownForms P form → KnownOperating P (held_if is form)
held_known P true (Some form) h = h
held_known P true None h = tt
held_known P false form h = tt

or_held_operating : (P : ℕ → Type 0) (how held : Operating) → KnownOperating P how → KnownOperating P held → KnownOperating P (operators.or_held how held)
or_held_operating P (ways.Left form) held h k = h
or_held_operating P (ways.Right form) held h k = h
or_held_operating P (ways.Held form) held h k = h
or_held_operating P ways.Stacked held h k = k

reading_known : (P : ℕ → Type 0) (f : Framed) (pushed : ℕ) (op : BinaryOp) (operands : Operands) (a b : Typed) → KnownTree P f a → KnownTree P f b → KnownOperating P (reading_of f pushed op operands a b)
reading_known P f pushed op operands a b h k =
    by_right_known P (constant_right op operands b) _ (constant_right_known P op operands b)
    (by_right_known P (direct_right op operands (direct_of f pushed b)) _ (direct_right_known P op operands (direct_of f pushed b) (read_known P f pushed b k))
    (by_left_known P (is_fixed (direct_of f pushed a) || is_pure b) (direct_left op operands (direct_of f pushed a)) (direct_left_known P op operands (direct_of f pushed a) (read_known P f pushed a h))))

pub operating_known : (P : ℕ → Type 0) (f : Framed) (pushed : ℕ) (op : BinaryOp) (operands : Operands) (a b : Typed) → KnownTree P f a → KnownTree P f b → KnownOperating P (operating_of f pushed op operands a b)
operating_known P f pushed op operands a b h k =
    or_held_operating P (reading_of f pushed op operands a b) _ (reading_known P f pushed op operands a b h k) (held_known P (is_light f pushed b) (held_form op operands) (held_form_known P op operands))

placed_known : (P : ℕ → Type 0) (op : BinaryOp) (l : ℕ) → AllKnown P (placed op l)
placed_known P ops.Add l = known_none
placed_known P ops.Sub l = known_none
placed_known P _ l = record { all = tt }

pub value_known : (P : ℕ → Type 0) (form : Form) (l : ℕ) → KnownForm P form → AllKnown P (value_form form l)
value_known P (forms.Sum m) l h = add_number_known P m l
value_known P (forms.LongSum m) l h = labelled_known P l _ (add_long_known P m)
value_known P (forms.Mask op m) l h = labelled_known P l _ (long_mask_known P op m)
value_known P (forms.Constant kind quick) l h = quick_known P kind quick l
value_known P (forms.Word op low high) l h = known_then (word_known P op low high l h.0 h.1) (placed_known P op l)
value_known P (forms.Under low high) l h = labelled_known P l _ (taken_from_known P low high h.0 h.1)
value_known P (forms.Indexed size low high) l h = known_then (elements_known P size) (word_known P ops.Add low high l h.0 h.1)
value_known P (forms.Distance size low high) l h = known_then (word_known P ops.Sub low high l h.0 h.1) (divide_known P size)
value_known P (forms.DistanceUnder size low high) l h = labelled_known P l _ (known_then (taken_from_known P low high h.0 h.1) (divide_known P size))

pointed_word_known : (P : ℕ → Type 0) (op : BinaryOp) (low high : OperandByte) (l : ℕ) → KnownByte P low → KnownByte P high → AllKnown P (pointed_word op low high l)
pointed_word_known P ops.Add low high l h k = labelled_known P l _ (pointed_sum_known P low high h k)
pointed_word_known P op low high l h k = known_then (word_known P op low high l h k) (known_then (placed_known P op l) (pointer_code_known P))

pointed_form_known : (P : ℕ → Type 0) (form : Form) (l : ℕ) → KnownForm P form → AllKnown P (pointed_form form l)
pointed_form_known P (forms.Word op low high) l h = pointed_word_known P op low high l h.0 h.1
pointed_form_known P (forms.Indexed size low high) l h = known_then (elements_known P size) (pointed_word_known P ops.Add low high l h.0 h.1)
pointed_form_known P form l h = known_then (value_known P form l h) (pointer_code_known P)

form_known : (P : ℕ → Type 0) (d : Destination) (form : Form) (l : ℕ) → KnownForm P form → AllKnown P (form_code d form l)
form_known P Registers form l h = value_known P form l h
form_known P Pointer form l h = pointed_form_known P form l h

waiting_known : (P : ℕ → Type 0) (operands : Operands) → AllKnown P (waiting_code operands)
waiting_known P (PointerLast size) = known_then (elements_known P size) (push_known P Ax)
waiting_known P (Numbers kind) = between_known P (Numbers kind)
waiting_known P (PointerFirst size) = between_known P (PointerFirst size)
waiting_known P (Pointers size) = between_known P (Pointers size)

stacked_known : (P : ℕ → Type 0) (op : BinaryOp) (operands : Operands) (right : IntType) → AllKnown P (stacked_code op operands right)
stacked_known P op (PointerFirst size) right = known_then (elements_known P size) (wide_known P op UInt)
stacked_known P op (Numbers kind) right = behind_known P op (Numbers kind) right
stacked_known P op (PointerLast size) right = behind_known P op (PointerLast size) right
stacked_known P op (Pointers size) right = behind_known P op (Pointers size) right

pub operator_known : (P : ℕ → Type 0) (d : Destination) (how : Operating) (op : BinaryOp) (operands : Operands) (right : IntType) (l : ℕ) (a b : List Line) → KnownOperating P how → AllKnown P a → AllKnown P b → AllKnown P (operator_by d how op operands right l a b)
operator_known P d (ways.Left form) op operands right l a b h ha hb = known_then ha (form_known P d form l h)
operator_known P d (ways.Right form) op operands right l a b h ha hb = known_then hb (form_known P d form l h)
operator_known P d (ways.Held form) op operands right l a b h ha hb = known_then ha (known_then {a = keep_code} (keep_known P) (known_then hb (form_known P d form l h)))
operator_known P d ways.Stacked op operands right l a b h ha hb =
    known_then ha (known_then (waiting_known P operands) (known_then hb (known_then (stacked_known P op operands right) (known_more tt (arrived_known P d)))))
