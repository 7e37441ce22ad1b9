-- Well typed expressions: the operands and the result of each node have the types of C90 6.3, constants lie in the range
-- of their types, and each number names an item. Conversions are nodes of their own, so that operands fit exactly.
use Rattle.std.specs.Prelude.{◌≡◌, ℕ, ◌+◌, ◌≤◌, ℤ, List, length, Bool, true, false, Option, Some, None, slice_get, IsTrue}
use Rattle.c65_base.specs.declared.operators.UnaryOp.{UnaryOp}
use Rattle.c65_base.specs.declared.operators.UnaryOp.TheVariants.{Neg, BitNot, Not}
use Rattle.c65_base.specs.declared.operators.BinaryOp.{BinaryOp}
use Rattle.c65_base.specs.declared.operators.BinaryOp.TheVariants as ops
use Rattle.c65_ints.specs.declared.types.IntType.{IntType}
use Rattle.c65_ints.specs.declared.types.IntType.TheVariants.{SChar, UChar, Int}
use Rattle.c65_ints.specs.Ranges.{InRange}
use Rattle.c65_ctype.specs.Trees.{Ty, void, int, pointer, array, tag, function, QTy, qual, type_in, Fn, fn, Params, unknown, known, QTys, end, more, TypesTy, MemberTy}
use Rattle.c65_ctype.specs.Sizes.{size_of}
use Rattle.c65_csem.specs.Trees.{Typed, node, Node, constant, null, literal, object, func, deref, member, load, address, decay, convert, unary, binary, both, either, choice, comma, assign, assign_op, assign_step, step, copy, call, pack, spill, rest, Nodes, none, some, type_of, ObjectTy, FuncTy, UnitTy}
use Rattle.c65_csem.specs.declared.items.Class.TheVariants.{Auto}
use Rattle.c65_csem.specs.Places.{is_place, plain, plain_of, qualified, is_promoted, is_scalar, is_small, is_tag, is_void, moves, member_at, is_bit_field, is_registered, are_alike}

abbrev pub HasInt : QTy → IntType → Type 0
HasInt t k = t ≡ plain (int k)

-- a value of an integer type, of a promoted one, of a pointer type, of either
abbrev pub IsInt : QTy → Type 0
IsInt t = (k : IntType) × HasInt t k

abbrev pub IsPromoted : QTy → Type 0
IsPromoted t = (k : IntType) × HasInt t k × IsTrue (is_promoted k)

abbrev pub IsPointer : QTy → Type 0
IsPointer t = (q : QTy) × (t ≡ plain (pointer q))

abbrev pub IsScalar : QTy → Type 0
IsScalar t = IsTrue (is_scalar (type_in t)) × (t ≡ plain_of t)

abbrev pub IsValue : Typed → Type 0
IsValue e = IsScalar (type_of e) × (is_place e ≡ false)

-- a pointer to something that has a size
abbrev pub IsMoved : UnitTy → QTy → Type 0
IsMoved u t = IsPointer t × IsTrue (moves u.types (type_in t))

-- a place whose value can be taken or changed
abbrev pub IsScalarPlace : Typed → Type 0
IsScalarPlace e = IsTrue (is_place e) × IsTrue (is_scalar (type_in (type_of e)))

-- both operands and the result of one promoted type
pub record AreAlike (t a b : QTy) : Type 0 where
  pub kind : IntType
  pub promoted : IsTrue (is_promoted kind)
  pub result : HasInt t kind
  pub left : HasInt a kind
  pub right : HasInt b kind

-- a shift has the type of its left operand
pub record AreShifted (t a b : QTy) : Type 0 where
  pub left : IsPromoted a
  pub right : IsPromoted b
  pub result : t ≡ a

-- a comparison of numbers, or of pointers, is int
pub data AreCompared : QTy → QTy → QTy → Type 0 where
  numbers : {t a b : QTy} (k : IntType) → IsTrue (is_promoted k) → HasInt t Int → HasInt a k → HasInt b k → AreCompared t a b
  pointers : {t a b : QTy} → HasInt t Int → IsPointer a → IsPointer b → AreCompared t a b

pub data AreAdded (u : UnitTy) : QTy → QTy → QTy → Type 0 where
  numbers : {t a b : QTy} → AreAlike t a b → AreAdded u t a b
  pointer_first : {t a b : QTy} → IsMoved u a → IsInt b → t ≡ a → AreAdded u t a b
  pointer_last : {t a b : QTy} → IsInt a → IsMoved u b → t ≡ b → AreAdded u t a b

pub data AreSubtracted (u : UnitTy) : QTy → QTy → QTy → Type 0 where
  numbers : {t a b : QTy} → AreAlike t a b → AreSubtracted u t a b
  pointer_first : {t a b : QTy} → IsMoved u a → IsInt b → t ≡ a → AreSubtracted u t a b
  pointers : {t a b : QTy} → IsMoved u a → IsMoved u b → HasInt t Int → AreSubtracted u t a b

abbrev pub Operands : UnitTy → BinaryOp → QTy → QTy → QTy → Type 0
Operands u ops.Mul t a b = AreAlike t a b
Operands u ops.Div t a b = AreAlike t a b
Operands u ops.Rem t a b = AreAlike t a b
Operands u ops.Add t a b = AreAdded u t a b
Operands u ops.Sub t a b = AreSubtracted u t a b
Operands u ops.Shl t a b = AreShifted t a b
Operands u ops.Shr t a b = AreShifted t a b
Operands u ops.Lt t a b = AreCompared t a b
Operands u ops.Gt t a b = AreCompared t a b
Operands u ops.Le t a b = AreCompared t a b
Operands u ops.Ge t a b = AreCompared t a b
Operands u ops.Eq t a b = AreCompared t a b
Operands u ops.Ne t a b = AreCompared t a b
Operands u ops.BitAnd t a b = AreAlike t a b
Operands u ops.BitXor t a b = AreAlike t a b
Operands u ops.BitOr t a b = AreAlike t a b

-- `-` and `~` on a promoted type, and `!` on any scalar one; no other operator
abbrev pub Operand : UnaryOp → QTy → QTy → Type 0
Operand Neg t a = IsPromoted a × (t ≡ a)
Operand BitNot t a = IsPromoted a × (t ≡ a)
Operand Not t a = HasInt t Int × IsScalar a
Operand _ t a = ⊥

-- the operators of compound assignment to a number, the type in which it computes, and its right operand
abbrev pub Computes : BinaryOp → IntType → QTy → Type 0
Computes ops.Mul k b = HasInt b k
Computes ops.Div k b = HasInt b k
Computes ops.Rem k b = HasInt b k
Computes ops.Add k b = HasInt b k
Computes ops.Sub k b = HasInt b k
Computes ops.Shl k b = IsPromoted b
Computes ops.Shr k b = IsPromoted b
Computes ops.BitAnd k b = HasInt b k
Computes ops.BitXor k b = HasInt b k
Computes ops.BitOr k b = HasInt b k
Computes _ k b = ⊥

abbrev pub Steps : BinaryOp → Type 0
Steps ops.Add = Unit {0}
Steps ops.Sub = Unit {0}
Steps _ = ⊥

-- between scalar types, and from any type to void
pub data Converts : QTy → Typed → Type 0 where
  scalar : {t : QTy} {e : Typed} → IsScalar t → IsValue e → Converts t e
  to_void : {e : Typed} → Converts (plain void) e

-- an array gives a pointer to its first element, and a function a pointer to itself
abbrev pub decayed : QTy → Option QTy
decayed (qual (array q n) c v) = Some (plain (pointer q))
decayed (qual (function f) c v) = Some (plain (pointer (qual (function f) false false)))
decayed (qual _ c v) = None

-- a string literal is an array of plain char, which is one of the two character types
pub data IsLiteral : QTy → ℕ → Type 0 where
  of_unsigned : {n : ℕ} → IsLiteral (plain (array (plain (int UChar)) (Some (n + 1)))) n
  of_signed : {n : ℕ} → IsLiteral (plain (array (plain (int SChar)) (Some (n + 1)))) n

-- a structure or union of at most four bytes
abbrev pub IsSmall : UnitTy → QTy → Type 0
IsSmall u t = IsTrue (is_small u.types (type_in t)) × (t ≡ plain_of t)

-- what a call passes without a prototype: a promoted number, a pointer, or a structure or union
pub data Passes (u : UnitTy) : QTy → Type 0 where
  number : {t : QTy} → IsPromoted t → Passes u t
  pointer_value : {t : QTy} → IsPointer t → Passes u t
  structure : {t : QTy} → IsSmall u t → Passes u t

-- the bytes of all arguments
abbrev pub arguments_size : TypesTy → Nodes → ℕ
arguments_size types none = 0
arguments_size types (some (node t e) es) = size_of types (type_in t) + arguments_size types es

abbrev pub result_of : Fn → QTy
result_of (fn q ps variadic cdecl) = q

-- a member has its own type, and the qualifiers of its structure or union too (C90 6.3.2.3)
abbrev pub IsMember : UnitTy → QTy → QTy → ℕ → Type 0
IsMember u t (qual s c v) m = (x : MemberTy) × (member_at u.types s m ≡ Some x) × (t ≡ qualified c v x.ty)

-- a place that has an address: no bit-field, and no object of class register
pub record IsAddressed (u : UnitTy) (e : Typed) : Type 0 where
  pub place : IsTrue (is_place e)
  pub whole : is_bit_field u.types e ≡ false
  pub memory : is_registered u e ≡ false

-- what an operator hands on: a value, a structure or union as its place, or nothing
pub data IsArm : QTy → Typed → Type 0 where
  value : {t : QTy} {e : Typed} → IsValue e → type_of e ≡ t → IsArm t e
  place : {t : QTy} {e : Typed} → IsTrue (is_tag (type_in t)) → t ≡ plain_of (type_of e) → IsArm t e
  nothing : {t : QTy} {e : Typed} → t ≡ plain void → type_of e ≡ t → IsArm t e

-- `++` and `--` on a number or a pointer that may be moved
pub data IsStepped (u : UnitTy) : QTy → Type 0 where
  number : {t : QTy} → IsInt t → IsStepped u t
  moved : {t : QTy} → IsMoved u t → IsStepped u t

-- the arguments behind those of the prototype
abbrev pub ArePassed : UnitTy → Nodes → Type 0
ArePassed u none = Unit {0}
ArePassed u (some e es) = Passes u (type_of e) × ArePassed u es

-- each argument has the type of its parameter without qualifiers (C90 6.3.2.2)
abbrev pub AreGiven : UnitTy → QTys → Bool → Nodes → Type 0
AreGiven u end false none = Unit {0}
AreGiven u end false (some e es) = ⊥
AreGiven u end true es = ArePassed u es
AreGiven u (more q qs) variadic none = ⊥
AreGiven u (more q qs) variadic (some e es) = (type_of e ≡ plain_of q) × AreGiven u qs variadic es

abbrev pub Fits : UnitTy → Params → Bool → Nodes → Type 0
Fits u unknown variadic es = ArePassed u es
Fits u (known qs) variadic es = AreGiven u qs variadic es

-- the type of a result: none, a scalar one, or a structure or union of at most four bytes
pub data IsResult (u : UnitTy) : QTy → Type 0 where
  nothing : IsResult u (plain void)
  scalar : {t : QTy} → IsScalar t → IsResult u t
  structure : {t : QTy} → IsSmall u t → IsResult u t

-- the type of a call that stands alone: none, or a scalar one
pub data IsUsual : QTy → Type 0 where
  nothing : IsUsual (plain void)
  scalar : {t : QTy} → IsScalar t → IsUsual t

abbrev pub FitsFn : UnitTy → Fn → Nodes → Type 0
FitsFn u (fn q ps variadic cdecl) es = Fits u ps variadic es

pub record IsCall (u : UnitTy) (t f : QTy) (es : Nodes) : Type 0 where
  pub callee : Fn
  pub named : f ≡ plain (pointer (plain (function callee)))
  pub result : t ≡ plain_of (result_of callee)
  pub given : FitsFn u callee es
  pub few : arguments_size u.types es ≤ 250

-- the unnamed object that holds what a call gives
pub record IsSpot (u : UnitTy) (i : ℕ) (t : QTy) : Type 0 where
  pub object : ObjectTy
  pub there : slice_get u.objects i ≡ Some object
  pub unnamed : object.name ≡ None
  pub class : object.class ≡ Auto
  pub same : type_in object.ty ≡ type_in t

-- the place behind the further arguments: a pointer to bytes
abbrev pub rest_type : QTy
rest_type = plain (pointer (plain (int UChar)))

abbrev mutual
  pub IsTyped : UnitTy → Typed → Type 0
  IsTyped u (node t e) = IsNode u t e

  pub IsNode : UnitTy → QTy → Node → Type 0
  IsNode u t (constant z) = (k : IntType) × HasInt t k × InRange k z
  IsNode u t null = IsPointer t
  IsNode u t (literal n) = (bytes : List ℕ) × (slice_get u.literals n ≡ Some bytes) × IsLiteral t (length bytes)
  IsNode u t (object i) = (o : ObjectTy) × (slice_get u.objects i ≡ Some o) × IsTrue (are_alike t o.ty)
  IsNode u t (func i) = (f : FuncTy) × (slice_get u.funcs i ≡ Some f) × (g : Fn) × (t ≡ plain (function g))
  IsNode u t (deref e) = IsTyped u e × (is_place e ≡ false) × (type_of e ≡ plain (pointer t))
  IsNode u t (member e m) = IsTyped u e × IsMember u t (type_of e) m
  IsNode u t (load e) = IsTyped u e × IsScalarPlace e × (t ≡ plain_of (type_of e))
  IsNode u t (address e) = IsTyped u e × IsAddressed u e × (t ≡ plain (pointer (type_of e)))
  IsNode u t (decay e) = IsTyped u e × IsTrue (is_place e) × (decayed (type_of e) ≡ Some t)
  IsNode u t (convert e) = IsTyped u e × Converts t e
  IsNode u t (unary op e) = IsTyped u e × (is_place e ≡ false) × Operand op t (type_of e)
  IsNode u t (binary op a b) = IsTyped u a × IsTyped u b × (is_place a ≡ false) × (is_place b ≡ false) × Operands u op t (type_of a) (type_of b)
  IsNode u t (both a b) = IsTyped u a × IsTyped u b × HasInt t Int × IsValue a × IsValue b
  IsNode u t (either a b) = IsTyped u a × IsTyped u b × HasInt t Int × IsValue a × IsValue b
  IsNode u t (choice x a b) = IsTyped u x × IsTyped u a × IsTyped u b × IsValue x × IsArm t a × IsArm t b
  IsNode u t (comma a b) = IsTyped u a × IsTyped u b × IsArm t b
  IsNode u t (assign a b) = IsTyped u a × IsTyped u b × IsScalarPlace a × (t ≡ plain_of (type_of a)) × (is_place b ≡ false) × (type_of b ≡ t)
  IsNode u t (assign_op op k a b) = IsTyped u a × IsTyped u b × IsScalarPlace a × IsInt t × (t ≡ plain_of (type_of a)) × (is_place b ≡ false) × IsTrue (is_promoted k) × Computes op k (type_of b)
  IsNode u t (assign_step op a b) = IsTyped u a × IsTyped u b × IsScalarPlace a × (t ≡ plain_of (type_of a)) × IsMoved u t × (is_place b ≡ false) × IsInt (type_of b) × Steps op
  IsNode u t (step how a) = IsTyped u a × IsScalarPlace a × (t ≡ plain_of (type_of a)) × IsStepped u t
  IsNode u t (copy a b) = IsTyped u a × IsTyped u b × IsTrue (is_place a) × IsTrue (is_tag (type_in t)) × (t ≡ plain_of (type_of a)) × (t ≡ plain_of (type_of b))
  IsNode u t (call f es) = IsTyped u f × (is_place f ≡ false) × IsCall u t (type_of f) es × IsUsual t × AreTyped u es
  IsNode u t (pack e) = ⊥
  IsNode u t (spill i e) = IsCalled u t e × IsSpot u i t
  IsNode u t rest = t ≡ rest_type

  -- an argument or a returned value: a value, or the bytes of a structure or union, which stand nowhere else
  pub IsGiven : UnitTy → Typed → Type 0
  IsGiven u (node t (pack e)) = IsTyped u e × IsSmall u t × (t ≡ plain_of (type_of e))
  IsGiven u (node t e) = IsNode u t e × IsValue (node t e)

  -- a call that gives a structure or union, which stands only where an object takes it
  pub IsCalled : UnitTy → QTy → Typed → Type 0
  IsCalled u t (node s (call f es)) = (s ≡ t) × IsSmall u s × IsTyped u f × (is_place f ≡ false) × IsCall u s (type_of f) es × AreTyped u es
  IsCalled u t (node s _) = ⊥

  pub AreTyped : UnitTy → Nodes → Type 0
  AreTyped u none = Unit {0}
  AreTyped u (some e es) = IsGiven u e × AreTyped u es
