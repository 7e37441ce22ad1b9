-- The symbols of elements of small arrays and of low bytes.
use Rattle.std.proofs.Common.{◌≡◌, ℕ, ℤ, ◌==◌, Bool, true, false, Option, Some, None, List, [], ◌∷◌, refl}
use Rattle.std.specs.Prelude.{◌&&◌, if◌then◌else◌, option_map}
use Rattle.c65_base.specs.declared.operators.BinaryOp.{BinaryOp}
use Rattle.c65_base.specs.declared.operators.BinaryOp.TheVariants as ops
use Rattle.c65_ints.specs.declared.types.IntType.{IntType}
use Rattle.c65_ctype.specs.Views.{types_of}
use Rattle.c65_csem.specs.Trees.{Typed, node, literal, object, deref, member, decay, binary}
use Rattle.c65_mach.specs.declared.rows.Op.TheVariants.{Lda, Tay}
use Rattle.c65_code.specs.declared.line.Sym.{Sym}
use Rattle.c65_code.specs.declared.line.Line.{Line}
use Rattle.c65_genframe.specs.declared.home.Home.{Home}
use Rattle.c65_genframe.specs.Symbols.{numbers_of, object_symbol}
use Rattle.c65_genframe.specs.Frames.{Framed, home_of, type_bytes}
use Rattle.c65_genload.specs.Words.{implied}
use Rattle.c65_genload.specs.declared.places.Access.{Access}
use Rattle.c65_genload.specs.declared.places.Access.TheVariants.{Whole, Part}
use Rattle.c65_genload.specs.declared.places.Extent.{Extent}
use Rattle.c65_genload.specs.declared.places.Extent.TheVariants.{One, Two, Three, Four}
use Rattle.c65_genload.specs.Places.{extent_of}
use Rattle.c65_gendirect.specs.declared.bytes.OperandByte.{OperandByte}
use Rattle.c65_genexpr.specs.declared.elements.Element.{Element}
use Rattle.c65_genexpr.specs.declared.operands.Operands.{Operands}
use Rattle.c65_genexpr.specs.declared.operands.Operands.TheVariants.{Numbers, PointerFirst, PointerLast, Pointers}
use Rattle.c65_genexpr.specs.declared.wanted.Wanted.{Wanted}
use Rattle.c65_genexpr.specs.declared.wanted.Wanted.TheVariants.{Value, Test}
use Rattle.c65_genexpr.specs.Wanted.{branch_code}
use Rattle.c65_genexpr.specs.Types.{bare, offset_at, access_of}
use Rattle.c65_genexpr.specs.Operands.{operands_of, constant_in}
use Rattle.c65_genexpr.specs.Operating.{takes_bytes}
use Rattle.c65_genexpr.specs.Direct.{direct_of}
use Rattle.c65_genexpr.specs.Elements.{is_small, data_symbol, whole_symbol, array_of, sum_by, sum_element, onward, element_of, typed_by, element_by, element_at, element_or, by_index, doublings, doubled_code, scaled_by, scaled_code, reached_code, element_bytes_code, element_value_code, element_byte_code, either_byte_code, element_test_code, loaded_element}
use Rattle.c65_genexpr.specs.Lows.{is_number, byte_in, low_operand, low_operand_or, low_load_by}
use Rattle.c65_gen_law_names.specs.Trees.{KnownTree}
use Rattle.c65_gen_law_names.proofs.Known.{AllKnown, known_if, known_none, known_then}
use Rattle.c65_gen_law_names.proofs.Loads.{narrow_known}
use Rattle.c65_gen_law_names.proofs.Directs.{KnownByte, KnownMaybe, elements_known}
use Rattle.c65_gen_law_names.proofs.Pointed.{behind_pointer_known}
use Rattle.c65_gen_law_names.proofs.Forms.{read_known, first_known}

-- ---- the symbol of the array

abbrev KnownSymbol : (ℕ → Type 0) → Option Sym → Type 0
KnownSymbol P None = Unit {0}
KnownSymbol P (Some s) = P s.0

abbrev KnownSpan : (ℕ → Type 0) → Option Element → Type 0
KnownSpan P None = Unit {0}
KnownSpan P (Some x) = P x.sym.0

abbrev pub KnownElement : (ℕ → Type 0) → Option (Element × IntType) → Type 0
KnownElement P None = Unit {0}
KnownElement P (Some x) = P x.0.sym.0

symbol_if : (P : ℕ → Type 0) (b : Bool) (s : Option Sym) → KnownSymbol P s → KnownSymbol P (if b then s else None)
symbol_if P true s h = h
symbol_if P false s h = tt

data_known : (P : ℕ → Type 0) (f : Framed) (i : ℕ) (home : Option Home) → (home ≡ None → P (object_symbol (numbers_of f.parts) i).0) → KnownSymbol P (data_symbol f i home)
data_known P f i None known = known refl
data_known P f i (Some home) known = tt

whole_known : (P : ℕ → Type 0) (f : Framed) (e : Typed) → KnownTree P f e → KnownSymbol P (whole_symbol f e)
whole_known P f (node t (literal i)) h = h
whole_known P f (node t (object i)) h = data_known P f i (home_of f i) h
whole_known P f (node t _) h = tt

array_known : (P : ℕ → Type 0) (f : Framed) (e : Typed) → KnownTree P f e → KnownSymbol P (array_of f e)
array_known P f (node t (decay e)) h = symbol_if P (is_small (type_bytes f (bare e))) (whole_symbol f e) (whole_known P f e h)
array_known P f (node t _) h = tt

sum_by_known : (P : ℕ → Type 0) (op : BinaryOp) (operands : Operands) (z : Option ℤ) (s : Option Sym) → KnownSymbol P s → KnownSpan P (sum_by op operands z s)
sum_by_known P ops.Add (PointerFirst size) None None h = tt
sum_by_known P ops.Add (PointerFirst size) None (Some s) h = h
sum_by_known P ops.Add (PointerFirst size) (Some z) s h = tt
sum_by_known P ops.Add (Numbers kind) z s h = tt
sum_by_known P ops.Add (PointerLast size) z s h = tt
sum_by_known P ops.Add (Pointers size) z s h = tt
sum_by_known P _ operands z s h = tt

sum_known : (P : ℕ → Type 0) (f : Framed) (e : Typed) → KnownTree P f e → KnownSpan P (sum_element f e)
sum_known P f (node t (binary op a b)) h = sum_by_known P op (operands_of f (bare a) (bare b)) (constant_in b) (array_of f a) (array_known P f a h.0)
sum_known P f (node t _) h = tt

onward_known : (P : ℕ → Type 0) (m : ℕ) (o : Option Element) → KnownSpan P o → KnownSpan P (option_map (onward m) o)
onward_known P m None h = tt
onward_known P m (Some x) h = h

span_known : (P : ℕ → Type 0) (f : Framed) (e : Typed) → KnownTree P f e → KnownSpan P (element_of f e)
span_known P f (node t (deref e)) h = sum_known P f e h
span_known P f (node t (member e m)) h = onward_known P (offset_at (types_of f.parts.types) (bare e) m) (element_of f e) (span_known P f e h)
span_known P f (node t _) h = tt

typed_known : (P : ℕ → Type 0) (kind : IntType) (extent : Extent) (o : Option Element) → KnownSpan P o → KnownElement P (typed_by kind extent o)
typed_known P kind One None h = tt
typed_known P kind One (Some x) h = h
typed_known P kind Two None h = tt
typed_known P kind Two (Some x) h = h
typed_known P kind Three o h = tt
typed_known P kind Four o h = tt

accessed_known : (P : ℕ → Type 0) (access : Access) (o : Option Element) → KnownSpan P o → KnownElement P (element_by access o)
accessed_known P (Whole kind) o h = typed_known P kind (extent_of kind) o h
accessed_known P (Part field) o h = tt

pub element_known : (P : ℕ → Type 0) (f : Framed) (e : Typed) → KnownTree P f e → KnownElement P (element_at f e)
element_known P f e h = accessed_known P (access_of (types_of f.parts.types) e) (element_of f e) (span_known P f e h)

-- ---- bytes that are read where they lie

pub byte_in_known : (P : ℕ → Type 0) (f : Framed) (pushed : ℕ) (e : Typed) → KnownTree P f e → KnownMaybe P (byte_in f pushed e)
byte_in_known P f pushed e h = first_known P (direct_of f pushed e) (read_known P f pushed e h)

byte_if : (P : ℕ → Type 0) (b : Bool) (byte : Option OperandByte) → KnownMaybe P byte → KnownMaybe P (if b then byte else None)
byte_if P true byte h = h
byte_if P false byte h = tt

pub operand_known : (P : ℕ → Type 0) (f : Framed) (pushed : ℕ) (op : BinaryOp) (a b : Typed) → KnownTree P f b → KnownMaybe P (low_operand f pushed op a b)
operand_known P f pushed op a b h = byte_if P (takes_bytes op && (is_number (bare a) && is_number (bare b))) (byte_in f pushed b) (byte_in_known P f pushed b h)

-- ---- lines

doubled_known : (P : ℕ → Type 0) (m : ℕ) → AllKnown P (doubled_code m)
doubled_known P m = known_if (m == 0) known_none (known_if (m == 1) (record { all = tt }) (known_if (m == 2) (record { all = tt }) (record { all = tt })))

scaled_by_known : (P : ℕ → Type 0) (size : ℕ) (m : Option ℕ) → AllKnown P (scaled_by size m)
scaled_by_known P size None = elements_known P size
scaled_by_known P size (Some m) = doubled_known P m

pub scaled_known : (P : ℕ → Type 0) (size : ℕ) → AllKnown P (scaled_code size)
scaled_known P size = scaled_by_known P size (doublings size)

pub reached_known : (P : ℕ → Type 0) (x : Element) → AllKnown P (reached_code x)
reached_known P x =
    let last : AllKnown P (implied Tay ∷ []) = record { all = tt } in
    known_then (scaled_known P x.size) last

element_bytes_known : (P : ℕ → Type 0) (x : Element) (extent : Extent) → P x.sym.0 → AllKnown P (element_bytes_code x extent)
element_bytes_known P x One h = record { all = (h, tt) }
element_bytes_known P x _ h = record { all = (h, (h, tt)) }

value_known : (P : ℕ → Type 0) (x : Element) (kind : IntType) → P x.sym.0 → AllKnown P (element_value_code x kind)
value_known P x kind h = known_then (reached_known P x) (known_then (element_bytes_known P x (extent_of kind) h) (narrow_known P kind))

pub byte_of_known : (P : ℕ → Type 0) (x : Element) → P x.sym.0 → AllKnown P (element_byte_code x)
byte_of_known P x h =
    let last : AllKnown P (by_index Lda x.sym x.at ∷ []) = record { all = (h, tt) } in
    known_then (reached_known P x) last

either_known : (P : ℕ → Type 0) (x : Element) (extent : Extent) → P x.sym.0 → AllKnown P (either_byte_code x extent)
either_known P x One h = record { all = (h, tt) }
either_known P x _ h = record { all = (h, (h, tt)) }

test_known : (P : ℕ → Type 0) (x : Element) (kind : IntType) (s : Bool) (to : ℕ) → P x.sym.0 → AllKnown P (element_test_code x kind s to)
test_known P x kind s to h =
    let last : AllKnown P (branch_code s to) = record { all = tt } in
    known_then (reached_known P x) (known_then (either_known P x (extent_of kind) h) last)

pub loaded_known : (P : ℕ → Type 0) (w : Wanted) (x : Element × IntType) (index : List Line) → P x.0.sym.0 → AllKnown P index → AllKnown P (loaded_element w x index)
loaded_known P Value x index h k = known_then k (value_known P x.0 x.1 h)
loaded_known P (Test to s) x index h k = known_then k (test_known P x.0 x.1 s to h)

-- ---- or others

pub element_or_known : (P : ℕ → Type 0) (o : Option (Element × IntType)) (code : Element × IntType → List Line) (other : List Line) → KnownElement P o → ((x : Element × IntType) → P x.0.sym.0 → AllKnown P (code x)) → AllKnown P other → AllKnown P (element_or o code other)
element_or_known P None code other h found k = k
element_or_known P (Some x) code other h found k = found x h

pub operand_or_known : (P : ℕ → Type 0) (o : Option OperandByte) (code : OperandByte → List Line) (other : List Line) → KnownMaybe P o → ((d : OperandByte) → KnownByte P d → AllKnown P (code d)) → AllKnown P other → AllKnown P (low_operand_or o code other)
operand_or_known P None code other h found k = k
operand_or_known P (Some d) code other h found k = found d h

pub low_load_known : (P : ℕ → Type 0) (o : Option ℕ) (base other : List Line) → AllKnown P base → AllKnown P other → AllKnown P (low_load_by o base other)
low_load_known P None base other h k = k
low_load_known P (Some at) base other h k = known_then h (behind_pointer_known P at One)
