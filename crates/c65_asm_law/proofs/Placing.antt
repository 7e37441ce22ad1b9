-- The lines that put a value into an element of a small array can be written.
use Rattle.std.proofs.Common.{ℕ, ◌==◌, Bool, true, false, not, Option, Some, None, [], ◌∷◌, arith}
use Rattle.std.specs.Prelude.{◌&&◌, if◌then◌else◌, is_some, option_and_then}
use Rattle.c65_ints.specs.declared.types.IntType.{IntType}
use Rattle.c65_csem.specs.Trees.{Typed, node, deref, member, binary, UnitTy}
use Rattle.c65_csem.specs.Typed.{IsTyped}
use Rattle.c65_mach.specs.declared.rows.Op.TheVariants.{Lda, Ldy, Pla, Sta, Tay, Txa}
use Rattle.c65_genframe.specs.Frames.{Framed}
use Rattle.c65_genload.specs.Words.{implied, zero_page}
use Rattle.c65_genload.specs.declared.places.Extent.{Extent}
use Rattle.c65_genload.specs.declared.places.Extent.TheVariants.{One, Two, Three, Four}
use Rattle.c65_genload.specs.Places.{word_more, extent_of}
use Rattle.c65_gendirect.specs.declared.bytes.OperandByte.{OperandByte}
use Rattle.c65_gendirect.specs.declared.direct.Direct.{Direct}
use Rattle.c65_gendirect.specs.Bytes.{op_of, takes_y, byte_of}
use Rattle.c65_genexpr.specs.declared.elements.Element.{Element}
use Rattle.c65_genexpr.specs.Direct.{direct_of, is_pure}
use Rattle.c65_genexpr.specs.Elements.{element_at, by_index, doublings, scaled_code, reached_code}
use Rattle.c65_genexpr.specs.Held.{ptr2}
use Rattle.c65_genexpr.specs.Operating.{is_light, is_light_index}
use Rattle.c65_geneffect.specs.declared.placing.Placing.{Placing}
use Rattle.c65_geneffect.specs.declared.placing.Placing.TheVariants.{Read, Behind, Held, Later, Otherwise}
use Rattle.c65_geneffect.specs.Placing.{sum_byte, index_byte, is_apart, single_read, double_read, read_bytes, read_direct, read_by, placing_or, behind_if, placing_by, placing_at, placing_of, stored_code, high_read_code, read_code, index_behind_code, behind_code, waiting_code, held_code, value_waits_code, high_later_code, later_code}
use Rattle.c65_asm_law.proofs.Well.{AllWell, well_append, well_none, well_more, well_if}
use Rattle.c65_asm_law.proofs.Known.{Knows}
use Rattle.c65_asm_law.proofs.Directs.{WellByte, WellMaybe, WellDirect, WellRead, byte_well, op_well}
use Rattle.c65_asm_law.proofs.Forms.{read_well}
use Rattle.c65_asm_law.proofs.Elements.{WellElement, WellKept, element_well, byte_in_well, scaled_well, reached_well}

-- ---- the form

abbrev pub WellPlacing : ℕ → Placing → Type 0
WellPlacing n (Read x low high) = WellElement n x × (WellByte n low × WellMaybe n high)
WellPlacing n (Behind x extent d) = WellElement n x × WellByte n d
WellPlacing n (Held x extent) = WellElement n x
WellPlacing n (Later x extent) = WellElement n x
WellPlacing n Otherwise = Unit {0}

abbrev WellPlacings : ℕ → Option Placing → Type 0
WellPlacings n None = Unit {0}
WellPlacings n (Some how) = WellPlacing n how

sum_byte_well : (n : ℕ) (u : UnitTy) (f : Framed) (pushed : ℕ) (e : Typed) → Knows f u n → IsTyped u e → WellMaybe n (sum_byte f pushed e)
sum_byte_well n u f pushed (node t (binary op a b)) knows h = byte_in_well n u f pushed b knows h.1
sum_byte_well n u f pushed (node t _) knows h = tt

index_byte_well : (n : ℕ) (u : UnitTy) (f : Framed) (pushed : ℕ) (e : Typed) → Knows f u n → IsTyped u e → WellMaybe n (index_byte f pushed e)
index_byte_well n u f pushed (node t (deref e)) knows h = sum_byte_well n u f pushed e knows h.0
index_byte_well n u f pushed (node t (member e m)) knows h = index_byte_well n u f pushed e knows h.0
index_byte_well n u f pushed (node t _) knows h = tt

or_well : (n : ℕ) (o : Option Placing) (other : Placing) → WellPlacings n o → WellPlacing n other → WellPlacing n (placing_or o other)
or_well n None other h k = k
or_well n (Some how) other h k = h

either_well : (n : ℕ) (b : Bool) (x y : Placing) → WellPlacing n x → WellPlacing n y → WellPlacing n (if b then x else y)
either_well n true x y h k = h
either_well n false x y h k = k

some_if : (n : ℕ) (b : Bool) (x y : Option Placing) → WellPlacings n x → WellPlacings n y → WellPlacings n (if b then x else y)
some_if n true x y h k = h
some_if n false x y h k = k

single_well : (n : ℕ) (x : Element) (low : OperandByte) → WellElement n x → WellByte n low → WellPlacings n (single_read x low)
single_well n x low h k = some_if n (takes_y low) None (Some (Read x low None)) tt (h, (k, tt))

double_well : (n : ℕ) (x : Element) (low : OperandByte) (high : Option OperandByte) → WellElement n x → WellByte n low → WellMaybe n high → WellPlacings n (option_and_then (double_read x low) high)
double_well n x low None h k l = tt
double_well n x low (Some high) h k l = some_if n (is_apart x.sym low && is_apart x.sym high) (Some (Read x low (Some high))) None (h, (k, l)) tt

bytes_well : (n : ℕ) (x : Element) (extent : Extent) (d : Direct) (low : Option OperandByte) → WellElement n x → WellDirect n d → WellMaybe n low → WellPlacings n (option_and_then (read_bytes x extent d) low)
bytes_well n x extent d None h k l = tt
bytes_well n x One d (Some low) h k l = single_well n x low h l
bytes_well n x Two d (Some low) h k l = double_well n x low (byte_of d 1) h l (byte_well n d 1 k)
bytes_well n x Three d (Some low) h k l = tt
bytes_well n x Four d (Some low) h k l = tt

direct_well : (n : ℕ) (x : Element) (extent : Extent) (o : Option Direct) → WellElement n x → WellRead n o → WellPlacings n (option_and_then (read_direct x extent) o)
direct_well n x extent None h k = tt
direct_well n x extent (Some d) h k = bytes_well n x extent d (byte_of d 0) h k (byte_well n d 0 k)

behind_if_well : (n : ℕ) (able : Bool) (x : Element) (extent : Extent) (d : Option OperandByte) → WellElement n x → WellMaybe n d → WellPlacings n (behind_if able x extent d)
behind_if_well n true x extent (Some d) h k = (h, k)
behind_if_well n true x extent None h k = tt
behind_if_well n false x extent d h k = tt

by_well : (n : ℕ) (u : UnitTy) (f : Framed) (pushed : ℕ) (x : Element) (extent : Extent) (a b : Typed) → WellElement n x → Knows f u n → IsTyped u a → IsTyped u b → WellPlacing n (placing_by f pushed x extent a b)
by_well n u f pushed x extent a b h knows ta tb =
    let short : Bool = is_some (doublings x.size) in
    or_well n (read_by f pushed x extent b) _ (direct_well n x extent (direct_of f pushed b) h (read_well n u f pushed b knows tb))
    (or_well n (behind_if (short && is_pure b) x extent (index_byte f pushed a)) _ (behind_if_well n (short && is_pure b) x extent (index_byte f pushed a) h (index_byte_well n u f pushed a knows ta))
    (either_well n (is_light f pushed b) (Held x extent) _ h
    (either_well n (short && (is_pure b && (is_pure a && is_light_index f pushed a))) (Later x extent) Otherwise h tt)))

at_well : (n : ℕ) (u : UnitTy) (f : Framed) (pushed : ℕ) (o : Option (Element × IntType)) (a b : Typed) → WellKept n o → Knows f u n → IsTyped u a → IsTyped u b → WellPlacing n (placing_at f pushed o a b)
at_well n u f pushed None a b h knows ta tb = tt
at_well n u f pushed (Some x) a b h knows ta tb = by_well n u f pushed x.0 (extent_of x.1) a b h knows ta tb

pub placing_well : (n : ℕ) (u : UnitTy) (f : Framed) (pushed : ℕ) (a b : Typed) → Knows f u n → IsTyped u a → IsTyped u b → WellPlacing n (placing_of f pushed a b)
placing_well n u f pushed a b knows ta tb = at_well n u f pushed (element_at f a) a b (element_well n u f a knows ta) knows ta tb

-- ---- lines

stored_well : (n : ℕ) (x : Element) (extent : Extent) → WellElement n x → AllWell n (stored_code x extent)
stored_well n x One h = record { all = ((tt, h), tt) }
stored_well n x _ h = record { all = ((tt, h), ((tt, tt), ((tt, (h.0, omega arith)), tt))) }

high_read_well : (n : ℕ) (x : Element) (high : Option OperandByte) → WellElement n x → WellMaybe n high → AllWell n (high_read_code x high)
high_read_well n x None h k = well_none n
high_read_well n x (Some high) h k = well_append n (op_of Lda high) (by_index Sta x.sym (word_more x.at 1) ∷ []) (op_well n Lda high k) (record { all = ((tt, (h.0, omega arith)), tt) })

pub read_code_well : (n : ℕ) (x : Element) (low : OperandByte) (high : Option OperandByte) → WellElement n x → WellByte n low → WellMaybe n high → AllWell n (read_code x low high)
read_code_well n x low high h k l = well_append n (reached_code x) _ (reached_well n x) (well_append n (op_of Lda low) _ (op_well n Lda low k) (well_more n _ _ (tt, h) (high_read_well n x high h l)))

index_behind_well : (n size : ℕ) (extent : Extent) (d : OperandByte) → WellByte n d → AllWell n (index_behind_code size extent d)
index_behind_well n size One d h =
    well_more n _ _ (tt, tt) (well_append n (op_of Lda d) _ (op_well n Lda d h) (well_append n (scaled_code size) (implied Tay ∷ implied Txa ∷ []) (scaled_well n size) (record { all = ((tt, tt), ((tt, tt), tt)) })))
index_behind_well n size _ d h =
    well_more n _ _ (tt, tt) (well_append n (op_of Lda d) _ (op_well n Lda d h) (well_append n (scaled_code size) (implied Tay ∷ implied Pla ∷ []) (scaled_well n size) (record { all = ((tt, tt), ((tt, tt), tt)) })))

pub behind_code_well : (n : ℕ) (x : Element) (extent : Extent) (d : OperandByte) → WellElement n x → WellByte n d → AllWell n (behind_code x extent d)
behind_code_well n x extent d h k =
    let near : Bool = (x.size == 1) && not (takes_y d) in
    well_append n (if near then op_of Ldy d else index_behind_code x.size extent d) _ (well_if n near (op_of Ldy d) (index_behind_code x.size extent d) (op_well n Ldy d k) (index_behind_well n x.size extent d k)) (stored_well n x extent h)

pub waiting_code_well : (n : ℕ) (x : Element) → AllWell n (waiting_code x)
waiting_code_well n x = well_append n (scaled_code x.size) (zero_page Sta ptr2 ∷ []) (scaled_well n x.size) (record { all = ((tt, omega arith), tt) })

pub held_code_well : (n : ℕ) (x : Element) (extent : Extent) → WellElement n x → AllWell n (held_code x extent)
held_code_well n x extent h = well_more n _ _ (tt, omega arith) (stored_well n x extent h)

pub value_waits_well : (n : ℕ) (extent : Extent) → AllWell n (value_waits_code extent)
value_waits_well n One = record { all = ((tt, omega arith), tt) }
value_waits_well n _ = record { all = ((tt, omega arith), ((tt, omega arith), tt)) }

high_later_well : (n : ℕ) (x : Element) (extent : Extent) → WellElement n x → AllWell n (high_later_code x extent)
high_later_well n x One h = well_none n
high_later_well n x _ h = record { all = ((tt, omega arith), ((tt, (h.0, omega arith)), tt)) }

pub later_code_well : (n : ℕ) (x : Element) (extent : Extent) → WellElement n x → AllWell n (later_code x extent)
later_code_well n x extent h = well_append n (reached_code x) _ (reached_well n x) (well_more n _ _ (tt, omega arith) (well_more n _ _ (tt, h) (high_later_well n x extent h)))
