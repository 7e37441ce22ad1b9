-- Low bytes that are read where they lie, and elements of small arrays: the labels of their trees.
use Rattle.std.proofs.Common.{◌≡◌, ℕ, ℤ, Bool, true, false, Option, Some, None, refl, sym, arith}
use Rattle.std.specs.Prelude.{option_map, if◌then◌else◌, ◌&&◌}
use Rattle.c65_base.specs.declared.operators.BinaryOp.{BinaryOp}
use Rattle.c65_base.specs.declared.operators.BinaryOp.TheVariants.{Mul, Div, Rem, Add, Sub, Shl, Shr, Lt, Gt, Le, Ge, Eq, Ne, BitAnd, BitXor, BitOr}
use Rattle.c65_ints.specs.declared.types.IntType.{IntType}
use Rattle.c65_ctype.specs.Views.{types_of}
use Rattle.c65_csem.specs.Trees.{Typed, node, literal, object, deref, member, decay, binary}
use Rattle.c65_code.specs.declared.line.Sym.{Sym}
use Rattle.c65_genframe.specs.Frames.{Framed, type_bytes}
use Rattle.c65_genload.specs.declared.places.Access.{Access}
use Rattle.c65_genload.specs.declared.places.Access.TheVariants.{Whole, Part}
use Rattle.c65_genload.specs.declared.places.Extent.{Extent}
use Rattle.c65_genload.specs.declared.places.Extent.TheVariants.{One, Two, Three, Four}
use Rattle.c65_genload.specs.Places.{extent_of}
use Rattle.c65_gendirect.specs.Compare.{relation_of}
use Rattle.c65_gendirect.specs.declared.bytes.OperandByte.{OperandByte}
use Rattle.c65_genexpr.specs.declared.elements.Element.{Element}
use Rattle.c65_genexpr.specs.declared.operands.Operands.{Operands}
use Rattle.c65_genexpr.specs.declared.operands.Operands.TheVariants.{PointerFirst}
use Rattle.c65_genexpr.specs.Types.{bare, access_of}
use Rattle.c65_genexpr.specs.Operands.{operands_of, constant_in}
use Rattle.c65_genexpr.specs.Direct.{direct_of}
use Rattle.c65_genexpr.specs.Elements.{is_small, whole_symbol, array_of, sum_by, sum_element, element_of, typed_by, element_by, element_at}
use Rattle.c65_genexpr.specs.Leaving.{ReadFree, OperandFree, ElementFree}
use Rattle.c65_genexpr.specs.Lows.{is_number, byte_in, low_operand}
use Rattle.c65_genexpr.specs.Uses.{uses, index_uses, sum_index_uses}
use Rattle.c65_genexpr.proofs.Known.{IsThere, after_there, direct_uses}

-- ---- low bytes

read_if : (d : Option OperandByte) (e : Typed) → (IsThere d → uses None e ≡ 0) → ReadFree d e
read_if None e free = tt
read_if (Some d) e free = free tt

pub byte_uses : (f : Framed) (pushed : ℕ) (e : Typed) → IsThere (byte_in f pushed e) → uses None e ≡ 0
byte_uses f pushed e h = direct_uses f pushed e (after_there _ (direct_of f pushed e) h)

pub byte_free : (f : Framed) (pushed : ℕ) (e : Typed) → ReadFree (byte_in f pushed e) e
byte_free f pushed e = read_if (byte_in f pushed e) e (byte_uses f pushed e)

operand_if : (d : Option OperandByte) (op : BinaryOp) (b : Typed) → relation_of op ≡ None → (IsThere d → uses None b ≡ 0) → OperandFree d op b
operand_if None op b same free = tt
operand_if (Some d) op b same free = (same, free tt)

number_if : (is : Bool) (d : Option OperandByte) (op : BinaryOp) (b : Typed) → relation_of op ≡ None → (IsThere d → uses None b ≡ 0) → OperandFree (if is then d else None) op b
number_if true d op b same free = operand_if d op b same free
number_if false d op b same free = tt

pub operand_free : (f : Framed) (pushed : ℕ) (op : BinaryOp) (a b : Typed) → OperandFree (low_operand f pushed op a b) op b
operand_free f pushed Add a b = number_if (is_number (bare a) && is_number (bare b)) (byte_in f pushed b) Add b refl (byte_uses f pushed b)
operand_free f pushed Sub a b = number_if (is_number (bare a) && is_number (bare b)) (byte_in f pushed b) Sub b refl (byte_uses f pushed b)
operand_free f pushed BitAnd a b = number_if (is_number (bare a) && is_number (bare b)) (byte_in f pushed b) BitAnd b refl (byte_uses f pushed b)
operand_free f pushed BitXor a b = number_if (is_number (bare a) && is_number (bare b)) (byte_in f pushed b) BitXor b refl (byte_uses f pushed b)
operand_free f pushed BitOr a b = number_if (is_number (bare a) && is_number (bare b)) (byte_in f pushed b) BitOr b refl (byte_uses f pushed b)
operand_free f pushed Mul a b = tt
operand_free f pushed Div a b = tt
operand_free f pushed Rem a b = tt
operand_free f pushed Shl a b = tt
operand_free f pushed Shr a b = tt
operand_free f pushed Lt a b = tt
operand_free f pushed Gt a b = tt
operand_free f pushed Le a b = tt
operand_free f pushed Ge a b = tt
operand_free f pushed Eq a b = tt
operand_free f pushed Ne a b = tt

-- ---- elements

whole_uses : (f : Framed) (e : Typed) → IsThere (whole_symbol f e) → uses None e ≡ 0
whole_uses f (node t (literal n)) h = refl
whole_uses f (node t (object i)) h = refl
whole_uses f (node t _) h = absurd h

small_there : (is : Bool) (sym : Option Sym) → IsThere (if is then sym else None) → IsThere sym
small_there true sym h = h
small_there false sym h = absurd h

array_uses : (f : Framed) (e : Typed) → IsThere (array_of f e) → uses None e ≡ 0
array_uses f (node t (decay e)) h = whole_uses f e (small_there (is_small (type_bytes f (bare e))) (whole_symbol f e) h)
array_uses f (node t _) h = absurd h

map_there : {A B : Type 0} (g : A → B) (o : Option A) → IsThere (option_map g o) → IsThere o
map_there g (Some x) h = tt
map_there g None h = h

sum_there : (op : BinaryOp) (operands : Operands) (z : Option ℤ) (sym : Option Sym) → IsThere (sum_by op operands z sym) → IsThere sym
sum_there Add (PointerFirst size) None sym h = map_there _ sym h
sum_there op operands z sym h = absurd h

sum_plain : (op : BinaryOp) (operands : Operands) (z : Option ℤ) (sym : Option Sym) → IsThere (sum_by op operands z sym) → relation_of op ≡ None
sum_plain Add operands z sym h = refl
sum_plain op operands z sym h = absurd h

sum_labels : (f : Framed) (e : Typed) → IsThere (sum_element f e) → sum_index_uses e ≡ uses None e
sum_labels f (node t (binary op a b)) h =
    let operands : Operands = operands_of f (bare a) (bare b) in
    let none : uses None a ≡ 0 = array_uses f a (sum_there op operands (constant_in b) (array_of f a) h) in
    rw (sum_plain op operands (constant_in b) (array_of f a) h) (omega (arith, none))
sum_labels f (node t _) h = absurd h

pub index_labels : (f : Framed) (e : Typed) → IsThere (element_of f e) → index_uses e ≡ uses None e
index_labels f (node t (deref e)) h = sum_labels f e h
index_labels f (node t (member e m)) h = index_labels f e (map_there _ (element_of f e) h)
index_labels f (node t _) h = absurd h

typed_free : (kind : IntType) (extent : Extent) (x : Option Element) (e : Typed) → (IsThere x → index_uses e ≡ uses None e) → ElementFree (typed_by kind extent x) e
typed_free kind One (Some x) e same = same tt
typed_free kind One None e same = tt
typed_free kind Two (Some x) e same = same tt
typed_free kind Two None e same = tt
typed_free kind Three x e same = tt
typed_free kind Four x e same = tt

kept_free : (access : Access) (x : Option Element) (e : Typed) → (IsThere x → index_uses e ≡ uses None e) → ElementFree (element_by access x) e
kept_free (Whole kind) x e same = typed_free kind (extent_of kind) x e same
kept_free (Part field) x e same = tt

pub element_free : (f : Framed) (e : Typed) → ElementFree (element_at f e) e
element_free f e = kept_free (access_of (types_of f.parts.types) e) (element_of f e) e (index_labels f e)
