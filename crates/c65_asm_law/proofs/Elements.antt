-- Elements of small arrays and low bytes: their lines can be written.
use Rattle.std.proofs.Common.{◌≡◌, ℕ, ℤ, ◌+◌, ◌<◌, ◌^◌, ◌==◌, Bool, true, false, Option, Some, None, List, [], ◌∷◌, add-zero, refl, arith}
use Rattle.std.specs.Prelude.{◌&&◌, if◌then◌else◌, option_map}
use Rattle.std.proofs.lemmas.Option.{slice_get_within}
use Rattle.c65_base.specs.declared.operators.BinaryOp.{BinaryOp}
use Rattle.c65_base.specs.declared.operators.BinaryOp.TheVariants as ops
use Rattle.c65_ints.specs.declared.types.IntType.{IntType}
use Rattle.c65_ctype.specs.Trees.{QTy}
use Rattle.c65_ctype.specs.Views.{types_of}
use Rattle.c65_csem.specs.Trees.{Typed, node, literal, object, deref, member, decay, binary, UnitTy}
use Rattle.c65_csem.specs.Typed.{IsTyped}
use Rattle.c65_mach.specs.declared.rows.Op.TheVariants.{Asl, Lda, Tay}
use Rattle.c65_code.specs.declared.line.Sym.{Sym}
use Rattle.c65_code.specs.declared.line.Line.{Line}
use Rattle.c65_genframe.specs.declared.home.Home.{Home}
use Rattle.c65_genframe.specs.Symbols.{numbers_of, object_symbol}
use Rattle.c65_genframe.specs.Frames.{Framed, home_of, type_bytes}
use Rattle.c65_genload.specs.Words.{implied, shift_a}
use Rattle.c65_genload.specs.declared.places.Place.{Place}
use Rattle.c65_genload.specs.declared.places.Place.TheVariants as places
use Rattle.c65_genload.specs.declared.places.Access.{Access}
use Rattle.c65_genload.specs.declared.places.Access.TheVariants.{Whole, Part}
use Rattle.c65_genload.specs.declared.places.Extent.{Extent}
use Rattle.c65_genload.specs.declared.places.Extent.TheVariants.{One, Two, Three, Four}
use Rattle.c65_genload.specs.Places.{extent_of}
use Rattle.c65_gendirect.specs.declared.bytes.OperandByte.{OperandByte}
use Rattle.c65_genexpr.specs.declared.elements.Element.{Element}
use Rattle.c65_genexpr.specs.declared.operands.Operands.{Operands}
use Rattle.c65_genexpr.specs.declared.operands.Operands.TheVariants.{Numbers, PointerFirst, PointerLast, Pointers}
use Rattle.c65_genexpr.specs.declared.wanted.Wanted.{Wanted}
use Rattle.c65_genexpr.specs.declared.wanted.Wanted.TheVariants.{Value, Test}
use Rattle.c65_genexpr.specs.Wanted.{branch_code}
use Rattle.c65_genexpr.specs.declared.destination.Destination.{Destination}
use Rattle.c65_genexpr.specs.declared.destination.Destination.TheVariants.{Registers, Pointer}
use Rattle.c65_genexpr.specs.Destination.{destination_of}
use Rattle.c65_genexpr.specs.Types.{bare, offset_at, access_of}
use Rattle.c65_genexpr.specs.Operands.{operands_of, constant_in}
use Rattle.c65_genexpr.specs.Operating.{takes_bytes}
use Rattle.c65_genexpr.specs.Direct.{direct_of}
use Rattle.c65_genexpr.specs.Uses.{uses}
use Rattle.c65_genexpr.specs.Elements.{is_small, data_symbol, whole_symbol, array_of, sum_by, sum_element, onward, element_of, typed_by, element_by, element_at, element_or, by_index, doublings, doubled_code, scaled_by, scaled_code, reached_code, element_bytes_code, element_value_code, element_byte_code, either_byte_code, element_test_code, loaded_element}
use Rattle.c65_genexpr.specs.Lows.{is_number, byte_in, low_operand, low_operand_or, behind_by, behind_pointer, low_load_by}
use Rattle.c65_gen_law_lines.proofs.Elements.{Indexes, Reads}
use Rattle.c65_asm_law.proofs.Well.{AllWell, well_append, well_none, well_if}
use Rattle.c65_asm_law.proofs.Known.{Knows}
use Rattle.c65_asm_law.proofs.Loads.{WellPlace, narrow_well}
use Rattle.c65_asm_law.proofs.Directs.{WellByte, WellMaybe, elements_well}
use Rattle.c65_asm_law.proofs.Pointed.{behind_pointer_well}
use Rattle.c65_asm_law.proofs.Forms.{read_well, first_well}

-- ---- the element

abbrev WellSymbol : ℕ → Option Sym → Type 0
WellSymbol n None = Unit {0}
WellSymbol n (Some s) = s.0 < n

abbrev pub WellElement : ℕ → Element → Type 0
WellElement n x = (x.sym.0 < n) × (x.at < 2 ^ 16)

abbrev WellSpan : ℕ → Option Element → Type 0
WellSpan n None = Unit {0}
WellSpan n (Some x) = WellElement n x

abbrev pub WellKept : ℕ → Option (Element × IntType) → Type 0
WellKept n None = Unit {0}
WellKept n (Some x) = WellElement n x.0

symbol_if : (n : ℕ) (b : Bool) (s : Option Sym) → WellSymbol n s → WellSymbol n (if b then s else None)
symbol_if n true s h = h
symbol_if n false s h = tt

data_well : (n : ℕ) (f : Framed) (i : ℕ) (home : Option Home) → (object_symbol (numbers_of f.parts) i).0 < n → WellSymbol n (data_symbol f i home)
data_well n f i None known = known
data_well n f i (Some home) known = tt

whole_well : (n : ℕ) (u : UnitTy) (f : Framed) (e : Typed) → Knows f u n → IsTyped u e → WellSymbol n (whole_symbol f e)
whole_well n u f (node t (literal i)) knows h = knows.literals i (slice_get_within u.literals i h.0 h.1)
whole_well n u f (node t (object i)) knows h = data_well n f i (home_of f i) (knows.objects i (slice_get_within u.objects i h.0 h.1))
whole_well n u f (node t _) knows h = tt

array_well : (n : ℕ) (u : UnitTy) (f : Framed) (e : Typed) → Knows f u n → IsTyped u e → WellSymbol n (array_of f e)
array_well n u f (node t (decay e)) knows h = symbol_if n (is_small (type_bytes f (bare e))) (whole_symbol f e) (whole_well n u f e knows h.0)
array_well n u f (node t _) knows h = tt

sum_by_well : (n : ℕ) (op : BinaryOp) (operands : Operands) (z : Option ℤ) (s : Option Sym) → WellSymbol n s → WellSpan n (sum_by op operands z s)
sum_by_well n ops.Add (PointerFirst size) None None h = tt
sum_by_well n ops.Add (PointerFirst size) None (Some s) h = (h, omega arith)
sum_by_well n ops.Add (PointerFirst size) (Some z) s h = tt
sum_by_well n ops.Add (Numbers kind) z s h = tt
sum_by_well n ops.Add (PointerLast size) z s h = tt
sum_by_well n ops.Add (Pointers size) z s h = tt
sum_by_well n _ operands z s h = tt

sum_well : (n : ℕ) (u : UnitTy) (f : Framed) (e : Typed) → Knows f u n → IsTyped u e → WellSpan n (sum_element f e)
sum_well n u f (node t (binary op a b)) knows h = sum_by_well n op (operands_of f (bare a) (bare b)) (constant_in b) (array_of f a) (array_well n u f a knows h.0)
sum_well n u f (node t _) knows h = tt

onward_well : (n m : ℕ) (o : Option Element) → WellSpan n o → WellSpan n (option_map (onward m) o)
onward_well n m None h = tt
onward_well n m (Some x) h = (h.0, omega arith)

span_well : (n : ℕ) (u : UnitTy) (f : Framed) (e : Typed) → Knows f u n → IsTyped u e → WellSpan n (element_of f e)
span_well n u f (node t (deref e)) knows h = sum_well n u f e knows h.0
span_well n u f (node t (member e m)) knows h = onward_well n (offset_at (types_of f.parts.types) (bare e) m) (element_of f e) (span_well n u f e knows h.0)
span_well n u f (node t _) knows h = tt

typed_well : (n : ℕ) (kind : IntType) (extent : Extent) (o : Option Element) → WellSpan n o → WellKept n (typed_by kind extent o)
typed_well n kind One None h = tt
typed_well n kind One (Some x) h = h
typed_well n kind Two None h = tt
typed_well n kind Two (Some x) h = h
typed_well n kind Three o h = tt
typed_well n kind Four o h = tt

accessed_well : (n : ℕ) (access : Access) (o : Option Element) → WellSpan n o → WellKept n (element_by access o)
accessed_well n (Whole kind) o h = typed_well n kind (extent_of kind) o h
accessed_well n (Part field) o h = tt

pub element_well : (n : ℕ) (u : UnitTy) (f : Framed) (e : Typed) → Knows f u n → IsTyped u e → WellKept n (element_at f e)
element_well n u f e knows h = accessed_well n (access_of (types_of f.parts.types) e) (element_of f e) (span_well n u f e knows h)

-- ---- bytes that are read where they lie

pub byte_in_well : (n : ℕ) (u : UnitTy) (f : Framed) (pushed : ℕ) (e : Typed) → Knows f u n → IsTyped u e → WellMaybe n (byte_in f pushed e)
byte_in_well n u f pushed e knows h = first_well n (direct_of f pushed e) (read_well n u f pushed e knows h)

byte_if : (n : ℕ) (b : Bool) (byte : Option OperandByte) → WellMaybe n byte → WellMaybe n (if b then byte else None)
byte_if n true byte h = h
byte_if n false byte h = tt

pub operand_well : (n : ℕ) (u : UnitTy) (f : Framed) (pushed : ℕ) (op : BinaryOp) (a b : Typed) → Knows f u n → IsTyped u b → WellMaybe n (low_operand f pushed op a b)
operand_well n u f pushed op a b knows h = byte_if n (takes_bytes op && (is_number (bare a) && is_number (bare b))) (byte_in f pushed b) (byte_in_well n u f pushed b knows h)

-- ---- the label of a sum, beside those of the operand that takes lines

pub read_room : (f : Framed) (t : QTy) (op : BinaryOp) (a b : Typed) → Reads f op b → uses None (node t (binary op a b)) ≡ 1 + uses None a
read_room f t op a b r = rw (r.alone, r.right.uses, add-zero) refl

pub index_room : (f : Framed) (t : QTy) (op : BinaryOp) (a b : Typed) → Indexes f op a → uses None (node t (binary op a b)) ≡ 1 + uses None b
index_room f t op a b r = rw (r.alone, r.array.uses) (omega arith)

-- ---- lines

doubled_well : (n m : ℕ) → AllWell n (doubled_code m)
doubled_well n m =
    well_if n (m == 0) [] _ (well_none n) (well_if n (m == 1) (shift_a Asl ∷ []) _ (record { all = ((tt, tt), tt) }) (well_if n (m == 2) (shift_a Asl ∷ shift_a Asl ∷ []) (shift_a Asl ∷ shift_a Asl ∷ shift_a Asl ∷ [])
    (record { all = ((tt, tt), ((tt, tt), tt)) }) (record { all = ((tt, tt), ((tt, tt), ((tt, tt), tt))) })))

scaled_by_well : (n size : ℕ) (m : Option ℕ) → AllWell n (scaled_by size m)
scaled_by_well n size None = elements_well n size
scaled_by_well n size (Some m) = doubled_well n m

pub scaled_well : (n size : ℕ) → AllWell n (scaled_code size)
scaled_well n size = scaled_by_well n size (doublings size)

pub reached_well : (n : ℕ) (x : Element) → AllWell n (reached_code x)
reached_well n x = well_append n (scaled_code x.size) (implied Tay ∷ []) (scaled_well n x.size) (record { all = ((tt, tt), tt) })

element_bytes_well : (n : ℕ) (x : Element) (extent : Extent) → WellElement n x → AllWell n (element_bytes_code x extent)
element_bytes_well n x One h = record { all = ((tt, h), tt) }
element_bytes_well n x _ h = record { all = ((tt, (h.0, omega arith)), ((tt, h), tt)) }

value_well : (n : ℕ) (x : Element) (kind : IntType) → WellElement n x → AllWell n (element_value_code x kind)
value_well n x kind h = well_append n (reached_code x) _ (reached_well n x) (well_append n (element_bytes_code x (extent_of kind)) _ (element_bytes_well n x (extent_of kind) h) (narrow_well n kind))

pub byte_of_well : (n : ℕ) (x : Element) → WellElement n x → AllWell n (element_byte_code x)
byte_of_well n x h = well_append n (reached_code x) (by_index Lda x.sym x.at ∷ []) (reached_well n x) (record { all = ((tt, h), tt) })

either_well : (n : ℕ) (x : Element) (extent : Extent) → WellElement n x → AllWell n (either_byte_code x extent)
either_well n x One h = record { all = ((tt, h), tt) }
either_well n x _ h = record { all = ((tt, h), ((tt, (h.0, omega arith)), tt)) }

test_well : (n : ℕ) (x : Element) (kind : IntType) (s : Bool) (to : ℕ) → WellElement n x → to < 2 ^ 32 → AllWell n (element_test_code x kind s to)
test_well n x kind s to h aim =
    well_append n (reached_code x) _ (reached_well n x) (well_append n (either_byte_code x (extent_of kind)) (branch_code s to) (either_well n x (extent_of kind) h) (record { all = ((tt, aim), tt) }))

-- tests lead to labels of 32 bits
abbrev pub WellWanted : Wanted → Type 0
WellWanted Value = Unit {0}
WellWanted (Test to s) = to < 2 ^ 32

pub loaded_well : (n : ℕ) (w : Wanted) (x : Element × IntType) (index : List Line) → WellElement n x.0 → WellWanted w → AllWell n index → AllWell n (loaded_element w x index)
loaded_well n Value x index h aim k = well_append n index _ k (value_well n x.0 x.1 h)
loaded_well n (Test to s) x index h aim k = well_append n index _ k (test_well n x.0 x.1 s to h aim)

-- ---- or others

pub element_or_well : (n : ℕ) (o : Option (Element × IntType)) (code : Element × IntType → List Line) (other : List Line) → WellKept n o → ((x : Element × IntType) → o ≡ Some x → WellElement n x.0 → AllWell n (code x)) → AllWell n other → AllWell n (element_or o code other)
element_or_well n None code other h found k = k
element_or_well n (Some x) code other h found k = found x refl h

pub operand_or_well : (n : ℕ) (o : Option OperandByte) (code : OperandByte → List Line) (other : List Line) → WellMaybe n o → ((d : OperandByte) → o ≡ Some d → WellByte n d → AllWell n (code d)) → AllWell n other → AllWell n (low_operand_or o code other)
operand_or_well n None code other h found k = k
operand_or_well n (Some d) code other h found k = found d refl h

abbrev pub WellAt : Option ℕ → Type 0
WellAt None = Unit {0}
WellAt (Some at) = at < 2 ^ 8

behind_by_well : (n : ℕ) (place : Place) (d : Destination) → WellPlace n place → WellAt (behind_by place d)
behind_by_well n (places.Far at) Pointer h = h
behind_by_well n (places.Far at) Registers h = tt
behind_by_well n (places.Bank b) d h = tt
behind_by_well n (places.Near at) d h = tt
behind_by_well n (places.Data s at) d h = tt

pub behind_well : (n : ℕ) (place : Place) (access : Access) → WellPlace n place → WellAt (behind_pointer place access)
behind_well n place access h = behind_by_well n place (destination_of access) h

pub low_load_well : (n : ℕ) (o : Option ℕ) (base other : List Line) → WellAt o → AllWell n base → AllWell n other → AllWell n (low_load_by o base other)
low_load_well n None base other few h k = k
low_load_well n (Some at) base other few h k = well_append n base _ h (behind_pointer_well n at One few)
