-- The symbols of the lines that put a value into an element of a small array.
use Rattle.std.proofs.Common.{ℕ, ◌==◌, Bool, true, false, not, Option, Some, None, [], ◌∷◌}
use Rattle.std.specs.Prelude.{◌&&◌, if◌then◌else◌, is_some, option_and_then}
use Rattle.c65_ints.specs.declared.types.IntType.{IntType}
use Rattle.c65_csem.specs.Trees.{Typed, node, deref, member, binary}
use Rattle.c65_mach.specs.declared.rows.Op.TheVariants.{Lda, Ldy, Pla, Sta, Tay, Txa}
use Rattle.c65_genframe.specs.Frames.{Framed}
use Rattle.c65_genload.specs.Words.{implied, zero_page}
use Rattle.c65_genload.specs.declared.places.Extent.{Extent}
use Rattle.c65_genload.specs.declared.places.Extent.TheVariants.{One, Two, Three, Four}
use Rattle.c65_genload.specs.Places.{word_more, extent_of}
use Rattle.c65_gendirect.specs.declared.bytes.OperandByte.{OperandByte}
use Rattle.c65_gendirect.specs.declared.direct.Direct.{Direct}
use Rattle.c65_gendirect.specs.Bytes.{takes_y, byte_of}
use Rattle.c65_genexpr.specs.declared.elements.Element.{Element}
use Rattle.c65_genexpr.specs.Direct.{direct_of, is_pure}
use Rattle.c65_genexpr.specs.Elements.{element_at, by_index, doublings}
use Rattle.c65_genexpr.specs.Held.{ptr2}
use Rattle.c65_genexpr.specs.Operating.{is_light, is_light_index}
use Rattle.c65_geneffect.specs.declared.placing.Placing.{Placing}
use Rattle.c65_geneffect.specs.declared.placing.Placing.TheVariants.{Read, Behind, Held, Later, Otherwise}
use Rattle.c65_geneffect.specs.Placing.{sum_byte, index_byte, is_apart, single_read, double_read, read_bytes, read_direct, read_by, placing_or, behind_if, placing_by, placing_at, placing_of, stored_code, high_read_code, read_code, index_behind_code, behind_code, waiting_code, held_code, value_waits_code, high_later_code, later_code}
use Rattle.c65_gen_law_names.specs.Trees.{KnownTree}
use Rattle.c65_gen_law_names.proofs.Known.{AllKnown, known_if, known_more, known_none, known_then}
use Rattle.c65_gen_law_names.proofs.Directs.{KnownByte, KnownMaybe, KnownDirect, KnownRead, byte_known, op_known}
use Rattle.c65_gen_law_names.proofs.Forms.{read_known}
use Rattle.c65_gen_law_names.proofs.Elements.{KnownElement, element_known, byte_in_known, scaled_known, reached_known}

-- ---- the form

abbrev pub KnownPlacing : (ℕ → Type 0) → Placing → Type 0
KnownPlacing P (Read x low high) = P x.sym.0 × (KnownByte P low × KnownMaybe P high)
KnownPlacing P (Behind x extent d) = P x.sym.0 × KnownByte P d
KnownPlacing P (Held x extent) = P x.sym.0
KnownPlacing P (Later x extent) = P x.sym.0
KnownPlacing P Otherwise = Unit {0}

abbrev KnownPlacings : (ℕ → Type 0) → Option Placing → Type 0
KnownPlacings P None = Unit {0}
KnownPlacings P (Some how) = KnownPlacing P how

sum_byte_known : (P : ℕ → Type 0) (f : Framed) (pushed : ℕ) (e : Typed) → KnownTree P f e → KnownMaybe P (sum_byte f pushed e)
sum_byte_known P f pushed (node t (binary op a b)) h = byte_in_known P f pushed b h.1
sum_byte_known P f pushed (node t _) h = tt

index_byte_known : (P : ℕ → Type 0) (f : Framed) (pushed : ℕ) (e : Typed) → KnownTree P f e → KnownMaybe P (index_byte f pushed e)
index_byte_known P f pushed (node t (deref e)) h = sum_byte_known P f pushed e h
index_byte_known P f pushed (node t (member e m)) h = index_byte_known P f pushed e h
index_byte_known P f pushed (node t _) h = tt

or_known : (P : ℕ → Type 0) (o : Option Placing) (other : Placing) → KnownPlacings P o → KnownPlacing P other → KnownPlacing P (placing_or o other)
or_known P None other h k = k
or_known P (Some how) other h k = h

either_known : (P : ℕ → Type 0) (b : Bool) (x y : Placing) → KnownPlacing P x → KnownPlacing P y → KnownPlacing P (if b then x else y)
either_known P true x y h k = h
either_known P false x y h k = k

some_if : (P : ℕ → Type 0) (b : Bool) (x y : Option Placing) → KnownPlacings P x → KnownPlacings P y → KnownPlacings P (if b then x else y)
some_if P true x y h k = h
some_if P false x y h k = k

single_known : (P : ℕ → Type 0) (x : Element) (low : OperandByte) → P x.sym.0 → KnownByte P low → KnownPlacings P (single_read x low)
single_known P x low h k = some_if P (takes_y low) None (Some (Read x low None)) tt (h, (k, tt))

double_known : (P : ℕ → Type 0) (x : Element) (low : OperandByte) (high : Option OperandByte) → P x.sym.0 → KnownByte P low → KnownMaybe P high → KnownPlacings P (option_and_then (double_read x low) high)
double_known P x low None h k l = tt
double_known P x low (Some high) h k l = some_if P (is_apart x.sym low && is_apart x.sym high) (Some (Read x low (Some high))) None (h, (k, l)) tt

bytes_known : (P : ℕ → Type 0) (x : Element) (extent : Extent) (d : Direct) (low : Option OperandByte) → P x.sym.0 → KnownDirect P d → KnownMaybe P low → KnownPlacings P (option_and_then (read_bytes x extent d) low)
bytes_known P x extent d None h k l = tt
bytes_known P x One d (Some low) h k l = single_known P x low h l
bytes_known P x Two d (Some low) h k l = double_known P x low (byte_of d 1) h l (byte_known P d 1 k)
bytes_known P x Three d (Some low) h k l = tt
bytes_known P x Four d (Some low) h k l = tt

direct_known : (P : ℕ → Type 0) (x : Element) (extent : Extent) (o : Option Direct) → P x.sym.0 → KnownRead P o → KnownPlacings P (option_and_then (read_direct x extent) o)
direct_known P x extent None h k = tt
direct_known P x extent (Some d) h k = bytes_known P x extent d (byte_of d 0) h k (byte_known P d 0 k)

behind_if_known : (P : ℕ → Type 0) (able : Bool) (x : Element) (extent : Extent) (d : Option OperandByte) → P x.sym.0 → KnownMaybe P d → KnownPlacings P (behind_if able x extent d)
behind_if_known P true x extent (Some d) h k = (h, k)
behind_if_known P true x extent None h k = tt
behind_if_known P false x extent d h k = tt

by_known : (P : ℕ → Type 0) (f : Framed) (pushed : ℕ) (x : Element) (extent : Extent) (a b : Typed) → P x.sym.0 → KnownTree P f a → KnownTree P f b → KnownPlacing P (placing_by f pushed x extent a b)
by_known P f pushed x extent a b h ta tb =
    let short : Bool = is_some (doublings x.size) in
    or_known P (read_by f pushed x extent b) _ (direct_known P x extent (direct_of f pushed b) h (read_known P f pushed b tb))
    (or_known P (behind_if (short && is_pure b) x extent (index_byte f pushed a)) _ (behind_if_known P (short && is_pure b) x extent (index_byte f pushed a) h (index_byte_known P f pushed a ta))
    (either_known P (is_light f pushed b) (Held x extent) _ h
    (either_known P (short && (is_pure b && (is_pure a && is_light_index f pushed a))) (Later x extent) Otherwise h tt)))

at_known : (P : ℕ → Type 0) (f : Framed) (pushed : ℕ) (o : Option (Element × IntType)) (a b : Typed) → KnownElement P o → KnownTree P f a → KnownTree P f b → KnownPlacing P (placing_at f pushed o a b)
at_known P f pushed None a b h ta tb = tt
at_known P f pushed (Some x) a b h ta tb = by_known P f pushed x.0 (extent_of x.1) a b h ta tb

pub placing_known : (P : ℕ → Type 0) (f : Framed) (pushed : ℕ) (a b : Typed) → KnownTree P f a → KnownTree P f b → KnownPlacing P (placing_of f pushed a b)
placing_known P f pushed a b ta tb = at_known P f pushed (element_at f a) a b (element_known P f a ta) ta tb

-- ---- lines

stored_known : (P : ℕ → Type 0) (x : Element) (extent : Extent) → P x.sym.0 → AllKnown P (stored_code x extent)
stored_known P x One h = record { all = (h, tt) }
stored_known P x _ h = record { all = (h, (h, tt)) }

high_read_known : (P : ℕ → Type 0) (x : Element) (high : Option OperandByte) → P x.sym.0 → KnownMaybe P high → AllKnown P (high_read_code x high)
high_read_known P x None h k = known_none
high_read_known P x (Some high) h k =
    let last : AllKnown P (by_index Sta x.sym (word_more x.at 1) ∷ []) = record { all = (h, tt) } in
    known_then (op_known P Lda high k) last

pub read_code_known : (P : ℕ → Type 0) (x : Element) (low : OperandByte) (high : Option OperandByte) → P x.sym.0 → KnownByte P low → KnownMaybe P high → AllKnown P (read_code x low high)
read_code_known P x low high h k l = known_then (reached_known P x) (known_then (op_known P Lda low k) (known_more h (high_read_known P x high h l)))

index_behind_known : (P : ℕ → Type 0) (size : ℕ) (extent : Extent) (d : OperandByte) → KnownByte P d → AllKnown P (index_behind_code size extent d)
index_behind_known P size One d h =
    let back : AllKnown P (implied Tay ∷ implied Txa ∷ []) = record { all = tt } in
    known_more tt (known_then (op_known P Lda d h) (known_then (scaled_known P size) back))
index_behind_known P size _ d h =
    let back : AllKnown P (implied Tay ∷ implied Pla ∷ []) = record { all = tt } in
    known_more tt (known_then (op_known P Lda d h) (known_then (scaled_known P size) back))

pub behind_code_known : (P : ℕ → Type 0) (x : Element) (extent : Extent) (d : OperandByte) → P x.sym.0 → KnownByte P d → AllKnown P (behind_code x extent d)
behind_code_known P x extent d h k = known_then (known_if ((x.size == 1) && not (takes_y d)) (op_known P Ldy d k) (index_behind_known P x.size extent d k)) (stored_known P x extent h)

pub waiting_code_known : (P : ℕ → Type 0) (x : Element) → AllKnown P (waiting_code x)
waiting_code_known P x =
    let last : AllKnown P (zero_page Sta ptr2 ∷ []) = record { all = tt } in
    known_then (scaled_known P x.size) last

pub held_code_known : (P : ℕ → Type 0) (x : Element) (extent : Extent) → P x.sym.0 → AllKnown P (held_code x extent)
held_code_known P x extent h = known_more tt (stored_known P x extent h)

pub value_waits_known : (P : ℕ → Type 0) (extent : Extent) → AllKnown P (value_waits_code extent)
value_waits_known P One = record { all = tt }
value_waits_known P _ = record { all = tt }

high_later_known : (P : ℕ → Type 0) (x : Element) (extent : Extent) → P x.sym.0 → AllKnown P (high_later_code x extent)
high_later_known P x One h = known_none
high_later_known P x _ h = record { all = (h, tt) }

pub later_code_known : (P : ℕ → Type 0) (x : Element) (extent : Extent) → P x.sym.0 → AllKnown P (later_code x extent)
later_code_known P x extent h = known_then (reached_known P x) (known_more tt (known_more h (high_later_known P x extent h)))
