-- The work of a well typed expression finds the values that it takes, and gives one of its kind.
use Rattle.std.proofs.Common.{◌≡◌, ℕ, ℤ, pos, negsuc, neg_ℤ, ◌/◌, ◌≤ℤ◌, Bool, true, false, if◌then◌else◌, List, ◌∷◌, Some, None, Option, IsTrue, refl, sym, ap, ◌∙◌, subst, arith}
use Rattle.std.proofs.lemmas.Int.{ints}
use Rattle.c65_base.specs.declared.operators.UnaryOp.{UnaryOp}
use Rattle.c65_base.specs.declared.operators.UnaryOp.TheVariants.{Neg, BitNot, Not}
use Rattle.c65_base.specs.declared.operators.BinaryOp.{BinaryOp}
use Rattle.c65_base.specs.declared.operators.BinaryOp.TheVariants.{Mul, Div, Rem, Add, Sub, Shl, Shr, Lt, Gt, Le, Ge, Eq, Ne, BitAnd, BitXor, BitOr}
use Rattle.c65_ints.specs.declared.types.IntType.{IntType}
use Rattle.c65_ints.specs.declared.types.IntType.TheVariants.{Int}
use Rattle.c65_ints.specs.Ranges.{is_signed_of, modulus_of, InRange}
use Rattle.c65_ctype.specs.Trees.{Ty, void, int, pointer, array, tag, function, QTy, qual, type_in, Fn, fn, unknown, known, QTys, end, more}
use Rattle.c65_ctype.specs.Sizes.{size_of}
use Rattle.c65_csem.specs.Trees.{Typed, node, Node, constant, null, literal, object, func, deref, member, load, address, decay, convert, unary, binary, both, either, choice, comma, assign, assign_op, assign_step, step, copy, call, pack, spill, rest, Nodes, none, some, type_of, UnitTy}
use Rattle.c65_csem.specs.Places.{is_place, plain, plain_of, qualified, is_scalar, is_small, is_tag, member_at}
use Rattle.c65_csem.specs.Typed as ty
use Rattle.c65_csem.specs.Typed.{HasInt, IsInt, AreAlike, AreShifted, AreCompared, AreAdded, AreSubtracted, Operands, Operand, Computes, Steps, Converts, scalar, to_void, decayed, IsMember, IsArm, IsSmall, AreGiven, FitsFn, IsUsual, IsCall, IsTyped, IsNode, IsGiven, IsCalled, AreTyped}
use Rattle.c65_meaning.specs.Store.{Whole, Null, Place, Shape, Number, Field, Pointer, Area}
use Rattle.c65_meaning.specs.Shapes.{bare_type, types_of, shape_of, place_shape, offset_of, field_shape, member_shape, literal_block}
use Rattle.c65_meaning.specs.Operators.{is_post}
use Rattle.c65_meaning.specs.Fits.{IsTarget, compares, calculated_shape}
use Rattle.c65_meaning.specs.Calls.{passed_by, passed_to}
use Rattle.c65_meaning.specs.Items.{Item, Follow, Move, Fetch, Keep, Change, Apply1, Apply2, Both, Either, Choose, Drop, Put, Peek, Bump, Carry, Gather, Lay, Invoke, put_step, plan, plan_node, plan_all}
use Rattle.c65_meaning.specs.State.{Scene}
use Rattle.c65_meaning_law.specs.Laws.{AreThere, AreThereIn, AreAllThere}
use Rattle.c65_meaning_law.proofs.Stacks.{Kind, arithmetic, pointing, naming, carrying, free, kind_in, kind_at, kind_if, kind_of, kind_passed, IsSimple, Below, IsScalarShape, Operates, is_move, is_add, meets, Combines, joined, turned_kind, Becomes, with_kind, IsOfSign, Suits, Setting, pushed, D, Does, Takes, Out}
use Rattle.c65_meaning_law.proofs.Values.{raise}

-- ---- kinds of trees

pub below_refl : (x : Kind) → Below x x
below_refl (arithmetic s) = refl
below_refl pointing = tt
below_refl naming = tt
below_refl carrying = tt
below_refl free = tt

below_same : (x y : Kind) → x ≡ y → Below x y
below_same x y e = subst (Below x) e (below_refl x)

from_same : (x y z : Kind) → x ≡ y → Below y z → Below x z
from_same x y z e b = subst (λ (k : Kind). Below k z) (sym e) b

simple_at : (t : Ty) → IsSimple (kind_at t)
simple_at void = tt
simple_at (int k) = tt
simple_at (pointer q) = tt
simple_at (array q n) = tt
simple_at (tag n) = tt
simple_at (function f) = tt

simple_if : (b : Bool) (t : Ty) → IsSimple (kind_if b t)
simple_if true t = tt
simple_if false t = simple_at t

-- an expression that is not passed or returned is worth no cells
pub simple : (a : Typed) → IsSimple (kind_of a)
simple a = simple_if (is_place a) (type_in (type_of a))

pub value_kind : (a : Typed) → is_place a ≡ false → kind_of a ≡ kind_at (type_in (type_of a))
value_kind a h = ap (λ (b : Bool). kind_if b (type_in (type_of a))) h

pub below_value : (a : Typed) (t : QTy) → is_place a ≡ false → type_of a ≡ t → Below (kind_of a) (kind_at (type_in t))
below_value a t h e = below_same (kind_of a) (kind_at (type_in t)) (value_kind a h ∙ ap (λ (q : QTy). kind_at (type_in q)) e)

place_kind : (a : Typed) → IsTrue (is_place a) → kind_of a ≡ naming
place_kind a h = ap (λ (b : Bool). kind_if b (type_in (type_of a))) h

below_place : (a : Typed) → IsTrue (is_place a) → Below (kind_of a) naming
below_place a h = below_same (kind_of a) naming (place_kind a h)

pub tag_kind : (b : Bool) (t : Ty) → IsTrue (is_tag t) → kind_if b t ≡ naming
tag_kind true t h = refl
tag_kind false (tag n) h = refl
tag_kind false _ h = absurd (cc)

below_tag : (a : Typed) → IsTrue (is_tag (type_in (type_of a))) → Below (kind_of a) naming
below_tag a h = below_same (kind_of a) naming (tag_kind (is_place a) (type_in (type_of a)) h)

pub plain_type : (q : QTy) → type_in (plain_of q) ≡ type_in q
plain_type (qual t c v) = refl

same_type : (t q : QTy) → t ≡ plain_of q → type_in q ≡ type_in t
same_type t q e = sym (plain_type q) ∙ ap type_in (sym e)

decayed_kind : (q t : QTy) → decayed q ≡ Some t → kind_at (type_in t) ≡ pointing
decayed_kind (qual (array q n) c v) t e = let same : plain (pointer q) ≡ t = cc in subst (λ (s : QTy). kind_at (type_in s) ≡ pointing) same refl
decayed_kind (qual (function f) c v) t e = let same : plain (pointer (qual (function f) false false)) ≡ t = cc in subst (λ (s : QTy). kind_at (type_in s) ≡ pointing) same refl
decayed_kind (qual void c v) t e = absurd (cc)
decayed_kind (qual (int k) c v) t e = absurd (cc)
decayed_kind (qual (pointer q) c v) t e = absurd (cc)
decayed_kind (qual (tag n) c v) t e = absurd (cc)

arm_below : (t : QTy) (a : Typed) (x : Kind) → IsArm t a → Below (kind_at (type_in t)) x → Below (kind_of a) x
arm_below t a x (ty.value v e) b = from_same (kind_of a) (kind_at (type_in t)) x (value_kind a v.1 ∙ ap (λ (q : QTy). kind_at (type_in q)) e) b
arm_below t a x (ty.place g e) b =
    let tagged : IsTrue (is_tag (type_in (type_of a))) = subst (λ (s : Ty). IsTrue (is_tag s)) (sym (same_type t (type_of a) e)) g in
    from_same (kind_of a) (kind_at (type_in t)) x (tag_kind (is_place a) (type_in (type_of a)) tagged ∙ sym (tag_kind false (type_in t) g)) b
arm_below t a x (ty.nothing e f) b = all_below (kind_of a) x (simple a) (subst (λ (q : QTy). Below (kind_at (type_in q)) x) e b)
  where
    all_below : (y x : Kind) → IsSimple y → Below free x → Below y x
    all_below y free i b = i
    all_below y (arithmetic s) i b = absurd b
    all_below y pointing i b = absurd b
    all_below y naming i b = absurd b
    all_below y carrying i b = absurd b

becomes_self : (s : Shape) → IsScalarShape s → Becomes s s
becomes_self (Number t) i = tt
becomes_self (Field t low width) i = refl
becomes_self (Pointer size) i = tt
becomes_self (Area size) i = absurd i

scalar_shape : (s : Shape) (t : Ty) → IsTrue (is_scalar t) → kind_in s ≡ kind_at t → IsScalarShape s
scalar_shape (Number k) t h e = tt
scalar_shape (Field k low width) t h e = tt
scalar_shape (Pointer size) t h e = tt
scalar_shape (Area size) (int k) h e = absurd (cc)
scalar_shape (Area size) (pointer q) h e = absurd (cc)
scalar_shape (Area size) _ h e = absurd (cc)

steps_move : (op : BinaryOp) → Steps op → IsTrue (is_move op)
steps_move Add h = refl
steps_move Sub h = refl
steps_move _ h = absurd h

computes_int : (op : BinaryOp) (k : IntType) (b : QTy) → Computes op k b → IsInt b
computes_int Mul k b h = (k, h)
computes_int Div k b h = (k, h)
computes_int Rem k b h = (k, h)
computes_int Add k b h = (k, h)
computes_int Sub k b h = (k, h)
computes_int Shl k b h = (h.0, h.1)
computes_int Shr k b h = (h.0, h.1)
computes_int BitAnd k b h = (k, h)
computes_int BitXor k b h = (k, h)
computes_int BitOr k b h = (k, h)
computes_int _ k b h = absurd h

none_some : {A : Type 0} (x : A) → None ≡ Some x → ⊥
none_some x e = cc

module _ (u : UnitTy) where
  abbrev lies : QTy → Shape
  lies t = shape_of u.types (type_in t)

  shape_same : (t : Ty) → IsTrue (is_scalar t) → kind_in (shape_of u.types t) ≡ kind_at t
  shape_same (int k) h = refl
  shape_same (pointer q) h = refl
  shape_same _ h = absurd (cc)

  target : (t : Ty) → IsTarget (shape_of u.types t)
  target void = tt
  target (int k) = tt
  target (pointer q) = tt
  target (array q n) = tt
  target (tag n) = tt
  target (function f) = tt

  convert_same : (t : QTy) (a : Typed) → Converts t a → kind_in (lies t) ≡ kind_at (type_in t)
  convert_same t a (scalar s v) = shape_same (type_in t) s.0
  convert_same t a to_void = refl

  int_shape : (t : QTy) (k : IntType) → HasInt t k → lies t ≡ Number k
  int_shape t k e = ap lies e

  -- ---- places

  field_kind : (q : QTy) (bits : Option (ℕ × ℕ)) (s : Shape) (c v : Bool) → kind_in s ≡ kind_at (type_in (qualified c v q)) → kind_in (field_shape (type_in q) bits s) ≡ kind_at (type_in (qualified c v q))
  field_kind (qual (int k) d w) (Some bits) s c v h = refl
  field_kind (qual (int k) d w) None s c v h = h
  field_kind (qual void d w) bits s c v h = h
  field_kind (qual (pointer q) d w) bits s c v h = h
  field_kind (qual (array q n) d w) bits s c v h = h
  field_kind (qual (tag n) d w) bits s c v h = h
  field_kind (qual (function f) d w) bits s c v h = h

  member_kind : (t q : QTy) (m : ℕ) (s : Shape) → IsMember u t q m → kind_in s ≡ kind_at (type_in t) → kind_in (member_shape (member_at u.types (type_in q) m) s) ≡ kind_at (type_in t)
  member_kind t (qual y c v) m s w h =
      subst (λ o. kind_in (member_shape o s) ≡ kind_at (type_in t)) (sym w.1)
      (subst (λ (q : QTy). kind_in (field_shape (type_in w.0.ty) w.0.bits s) ≡ kind_at (type_in q)) (sym w.2)
      (field_kind w.0.ty w.0.bits s c v (subst (λ (q : QTy). kind_in s ≡ kind_at (type_in q)) w.2 h)))

  member_tag : (t q : QTy) (m : ℕ) → IsMember u t q m → IsTrue (is_tag (type_in q))
  member_tag t (qual (tag n) c v) m w = refl
  member_tag t (qual void c v) m w = absurd (none_some w.0 w.1)
  member_tag t (qual (int k) c v) m w = absurd (none_some w.0 w.1)
  member_tag t (qual (pointer q) c v) m w = absurd (none_some w.0 w.1)
  member_tag t (qual (array q n) c v) m w = absurd (none_some w.0 w.1)
  member_tag t (qual (function f) c v) m w = absurd (none_some w.0 w.1)

  place_same : (a : Typed) → IsTyped u a → IsTrue (is_scalar (type_in (type_of a))) → kind_in (place_shape u.types a) ≡ kind_at (type_in (type_of a))
  place_same (node t (member a m)) w h = member_kind t (type_of a) m (lies t) w.1 (shape_same (type_in t) h)
  place_same (node t _) w h = shape_same (type_in t) h

  scalar_place : (a : Typed) → IsTyped u a → IsTrue (is_scalar (type_in (type_of a))) → IsScalarShape (place_shape u.types a)
  scalar_place a w h = scalar_shape (place_shape u.types a) (type_in (type_of a)) h (place_same a w h)

  -- the value that a scalar place holds, as a value of an expression of its type without qualifiers
  held : (t : QTy) (a : Typed) (x : Kind) → IsTyped u a → IsTrue (is_scalar (type_in (type_of a))) → t ≡ plain_of (type_of a) → Below (kind_at (type_in t)) x → Below (kind_in (place_shape u.types a)) x
  held t a x w h e b = from_same (kind_in (place_shape u.types a)) (kind_at (type_in t)) x (place_same a w h ∙ ap kind_at (same_type t (type_of a) e)) b

  -- ---- operands

  record Applied (op : UnaryOp) (t : QTy) (a : Typed) : Type 0 where
    kind : Kind
    below : Below (kind_of a) kind
    operates : Operates op (lies (type_of a)) kind
    result : kind_at (type_in t) ≡ turned_kind op (lies (type_of a))

  applied : (op : UnaryOp) (t : QTy) (a : Typed) → is_place a ≡ false → Operand op t (type_of a) → Applied op t a
  applied Neg t a h o = record { kind = arithmetic (is_signed_of o.0.0); below = below_value a (plain (int o.0.0)) h o.0.1; operates = subst (λ (q : QTy). Operates Neg (lies q) (arithmetic (is_signed_of o.0.0))) (sym o.0.1) tt; result = subst (λ (q : QTy). kind_at (type_in t) ≡ kind_in (lies q)) (sym o.0.1) (ap (λ (q : QTy). kind_at (type_in q)) (o.1 ∙ o.0.1)) }
  applied BitNot t a h o = record { kind = arithmetic (is_signed_of o.0.0); below = below_value a (plain (int o.0.0)) h o.0.1; operates = subst (λ (q : QTy). Operates BitNot (lies q) (arithmetic (is_signed_of o.0.0))) (sym o.0.1) tt; result = subst (λ (q : QTy). kind_at (type_in t) ≡ kind_in (lies q)) (sym o.0.1) (ap (λ (q : QTy). kind_at (type_in q)) (o.1 ∙ o.0.1)) }
  applied Not t a h o = record { kind = kind_of a; below = below_refl (kind_of a); operates = simple a; result = ap (λ (q : QTy). kind_at (type_in q)) o.0 }
  applied _ t a h o = absurd o

  record Joins (op : BinaryOp) (t a b : QTy) : Type 0 where
    combines : Combines op (lies a) (lies b)
    left : kind_at (type_in a) ≡ kind_in (lies a)
    right : kind_at (type_in b) ≡ kind_in (lies b)
    result : joined op (lies a) (lies b) ≡ kind_at (type_in t)

  joins_as : (op : BinaryOp) (t a b q r s : QTy) → t ≡ q → a ≡ r → b ≡ s → Joins op q r s → Joins op t a b
  joins_as op t a b q r s e f g j = subst (λ (x : QTy). Joins op x a b) (sym e) (subst (λ (x : QTy). Joins op q x b) (sym f) (subst (λ (x : QTy). Joins op q r x) (sym g) j))

  numbers : (op : BinaryOp) (t a b : QTy) (k i j : IntType) → calculated_shape (compares op) i ≡ Number k → HasInt t k → HasInt a i → HasInt b j → Joins op t a b
  numbers op t a b k i j r e f g = joins_as op t a b (plain (int k)) (plain (int i)) (plain (int j)) e f g (record { combines = tt; left = refl; right = refl; result = ap kind_in r })

  computed : (op : BinaryOp) (i : IntType) → compares op ≡ false → calculated_shape (compares op) i ≡ Number i
  computed op i e = ap (λ (b : Bool). calculated_shape b i) e

  alike : (op : BinaryOp) (t a b : QTy) → compares op ≡ false → AreAlike t a b → Joins op t a b
  alike op t a b n h = numbers op t a b h.kind h.kind h.kind (computed op h.kind n) h.result h.left h.right

  shifted : (op : BinaryOp) (t a b : QTy) → compares op ≡ false → AreShifted t a b → Joins op t a b
  shifted op t a b n h = numbers op t a b h.left.0 h.left.0 h.right.0 (computed op h.left.0 n) (h.result ∙ h.left.1) h.left.1 h.right.1

  moved_first : (op : BinaryOp) (t a b q : QTy) (k : IntType) → IsTrue (is_move op) → a ≡ plain (pointer q) → HasInt b k → t ≡ a → Joins op t a b
  moved_first op t a b q k m e f g = joins_as op t a b (plain (pointer q)) (plain (pointer q)) (plain (int k)) (g ∙ e) e f (record { combines = m; left = refl; right = refl; result = refl })

  moved_last : (op : BinaryOp) (t a b q : QTy) (k : IntType) → IsTrue (is_add op) → HasInt a k → b ≡ plain (pointer q) → t ≡ b → Joins op t a b
  moved_last op t a b q k m e f g = joins_as op t a b (plain (pointer q)) (plain (int k)) (plain (pointer q)) (g ∙ f) e f (record { combines = m; left = refl; right = refl; result = refl })

  two_pointers : (op : BinaryOp) (t a b q r : QTy) → IsTrue (meets op) → HasInt t Int → a ≡ plain (pointer q) → b ≡ plain (pointer r) → Joins op t a b
  two_pointers op t a b q r m e f g = joins_as op t a b (plain (int Int)) (plain (pointer q)) (plain (pointer r)) e f g (record { combines = m; left = refl; right = refl; result = refl })

  compared : (op : BinaryOp) (t a b : QTy) → IsTrue (meets op) → compares op ≡ true → AreCompared t a b → Joins op t a b
  compared op t a b m n (ty.AreCompared.numbers k h e f g) = numbers op t a b Int k k (ap (λ (w : Bool). calculated_shape w k) n) e f g
  compared op t a b m n (ty.AreCompared.pointers e f g) = two_pointers op t a b f.0 g.0 m e f.1 g.1

  added : (t a b : QTy) → AreAdded u t a b → Joins Add t a b
  added t a b (ty.AreAdded.numbers h) = alike Add t a b refl h
  added t a b (ty.AreAdded.pointer_first h i e) = moved_first Add t a b h.0.0 i.0 refl h.0.1 i.1 e
  added t a b (ty.AreAdded.pointer_last i h e) = moved_last Add t a b h.0.0 i.0 refl i.1 h.0.1 e

  subtracted : (t a b : QTy) → AreSubtracted u t a b → Joins Sub t a b
  subtracted t a b (ty.AreSubtracted.numbers h) = alike Sub t a b refl h
  subtracted t a b (ty.AreSubtracted.pointer_first h i e) = moved_first Sub t a b h.0.0 i.0 refl h.0.1 i.1 e
  subtracted t a b (ty.AreSubtracted.pointers h g e) = two_pointers Sub t a b h.0.0 g.0.0 refl e h.0.1 g.0.1

  joins : (op : BinaryOp) (t a b : QTy) → Operands u op t a b → Joins op t a b
  joins Mul t a b h = alike Mul t a b refl h
  joins Div t a b h = alike Div t a b refl h
  joins Rem t a b h = alike Rem t a b refl h
  joins Add t a b h = added t a b h
  joins Sub t a b h = subtracted t a b h
  joins Shl t a b h = shifted Shl t a b refl h
  joins Shr t a b h = shifted Shr t a b refl h
  joins Lt t a b h = compared Lt t a b refl refl h
  joins Gt t a b h = compared Gt t a b refl refl h
  joins Le t a b h = compared Le t a b refl refl h
  joins Ge t a b h = compared Ge t a b refl refl h
  joins Eq t a b h = compared Eq t a b refl refl h
  joins Ne t a b h = compared Ne t a b refl refl h
  joins BitAnd t a b h = alike BitAnd t a b refl h
  joins BitXor t a b h = alike BitXor t a b refl h
  joins BitOr t a b h = alike BitOr t a b refl h

  int_below : (t : QTy) (k : IntType) (x : Kind) → HasInt t k → Below (kind_at (type_in t)) x → Below (arithmetic (is_signed_of k)) x
  int_below t k x e b = subst (λ (q : QTy). Below (kind_at (type_in q)) x) e b

-- ---- numbers and calls

in_sign : (k : IntType) (z : ℤ) → InRange k z → IsOfSign (is_signed_of k) z
in_sign k z r = tested (is_signed_of k) z r.low
  where
    tested : (s : Bool) (y : ℤ) → (if s then neg_ℤ (pos (modulus_of k / 2)) else pos 0) ≤ℤ y → IsOfSign s y
    tested true y h = tt
    tested false (pos n) h = tt
    tested false (negsuc n) h = absurd (omega (arith, ints, h))

-- what a call passes by its own prototype has the types of the arguments
passed_same : (u : UnitTy) (qs : QTys) (v : Bool) (es : Nodes) → AreGiven u qs v es → passed_by qs (types_of es) ≡ types_of es
passed_same u end v es h = refl
passed_same u (more q qs) v none h = absurd h
passed_same u (more q qs) v (some e es) h = same (type_in q) (bare_type e) (passed_by qs (types_of es)) (types_of es) (sym (plain_type q) ∙ sym (ap type_in h.0)) (passed_same u qs v es h.1)
  where
    same : (t s : Ty) (ts ss : List Ty) → t ≡ s → ts ≡ ss → t ∷ ts ≡ s ∷ ss
    same t s ts ss e f = subst (λ (x : Ty). t ∷ ts ≡ x ∷ ss) e (ap (λ (xs : List Ty). t ∷ xs) f)

passed_to_same : (u : UnitTy) (f : Fn) (es : Nodes) → FitsFn u f es → passed_to (Some f) (types_of es) ≡ types_of es
passed_to_same u (fn q unknown v cdecl) es h = refl
passed_to_same u (fn q (known qs) v cdecl) es h = passed_same u qs v es h

-- a structure or union is passed and returned as its cells, and a scalar as it is
small_tag : (u : UnitTy) (t : QTy) → IsSmall u t → IsTrue (is_tag (type_in t))
small_tag u t h = of_type (type_in t) h.0
  where
    of_type : (s : Ty) → IsTrue (is_small u.types s) → IsTrue (is_tag s)
    of_type (tag n) e = refl
    of_type _ e = absurd (cc)

tag_passed : (t : Ty) → IsTrue (is_tag t) → kind_passed t ≡ carrying
tag_passed (tag n) h = refl
tag_passed _ h = absurd (cc)

pub small_passed : (u : UnitTy) (t : QTy) → IsSmall u t → kind_passed (type_in t) ≡ carrying
small_passed u t h = tag_passed (type_in t) (small_tag u t h)

pub scalar_passed : (t : Ty) → IsTrue (is_scalar t) → kind_passed t ≡ kind_at t
scalar_passed (int k) h = refl
scalar_passed (pointer q) h = refl
scalar_passed _ h = absurd (cc)

usual_passed : (t : QTy) → IsUsual t → kind_passed (type_in t) ≡ kind_at (type_in t)
usual_passed t ty.IsUsual.nothing = refl
usual_passed t (ty.IsUsual.scalar s) = scalar_passed (type_in t) s.0

called_tag : (u : UnitTy) (t : QTy) (a : Typed) → IsCalled u t a → IsTrue (is_tag (type_in t))
called_tag u t (node s (call f es)) w = subst (λ (q : QTy). IsTrue (is_tag (type_in q))) w.0 (small_tag u s w.1)
called_tag u t (node s _) w = absurd w

-- ---- the work

module _ (m : Setting) (u : UnitTy) (c : Scene) where
  put_takes : (t : Bool) (s : Shape) (x : Kind) (k : List Item) (ks : List Kind) → IsScalarShape s → Below (kind_in s) x → Takes m u c k (x ∷ ks) → Takes m u c (put_step t s ∷ k) (kind_in s ∷ naming ∷ with_kind t x ks)
  put_takes true s x k ks i b g = g
  put_takes false s x k ks i b g = (i, (x, b, g))

  abbrev at : Typed → Shape
  at a = place_shape u.types a

  abbrev shape : Typed → Shape
  shape a = shape_of u.types (bare_type a)

  -- a call whose callee and arguments are there
  invokes : (t : QTy) (f : Typed) (es : Nodes) (x : Kind) (k : List Item) (ks : List Kind) → IsCall u t (type_of f) es → Below (kind_passed (type_in t)) x → Takes m u c k (x ∷ ks) → Takes m u c (Invoke (bare_type f) (types_of es) ∷ k) (pushed (types_of es) (pointing ∷ ks))
  invokes t f es x k ks w b g = (record { type = w.callee; named = ap type_in w.named; passed = passed_to_same u w.callee es w.given }, ks, refl, (x, subst (λ (q : QTy). Below (kind_passed (type_in q)) x) w.result b, g))

  mutual
    pub takes : (e : Typed) (x : Kind) (k : List Item) (ks : List Kind) → IsTyped u e → AreThere u c e → Below (kind_of e) x → Takes m u c k (x ∷ ks) → Takes m u c (plan u e k) ks
    takes (node t n) x k ks w h b g = node_takes t n x k ks w h b g

    node_takes : (t : QTy) (n : Node) (x : Kind) (k : List Item) (ks : List Kind) → IsNode u t n → AreThereIn u c n → Below (kind_of (node t n)) x → Takes m u c k (x ∷ ks) → Takes m u c (plan_node u t n k) ks
    node_takes t (constant z) x k ks w h b g = (x, raise (D u c) (kind_at (type_in t)) x (Whole z) b (subst (λ (q : QTy). Suits (D u c) (kind_at (type_in q)) (Whole z)) (sym w.1) (in_sign w.0 z w.2)), g)
    node_takes t null x k ks w h b g = (x, raise (D u c) (kind_at (type_in t)) x Null b (subst (λ (q : QTy). Suits (D u c) (kind_at (type_in q)) Null) (sym w.1) tt), g)
    node_takes t (literal l) x k ks w h b g = (x, raise (D u c) naming x (Place (literal_block u l) 0) b h, g)
    node_takes t (object i) x k ks w h b g = (h, (x, b, g))
    node_takes t (func f) x k ks w h b g = (x, raise (D u c) naming x (Place f 0) b h, g)
    node_takes t (deref a) x k ks w h b g = takes a pointing (Follow ∷ k) ks w.0 h (below_value a (plain (pointer t)) w.1 w.2) (x, b, g)
    node_takes t (member a n) x k ks w h b g = takes a naming (Move (offset_of (member_at u.types (bare_type a) n)) ∷ k) ks w.0 h (below_tag a (member_tag u t (type_of a) n w.1)) (x, b, g)
    node_takes t (load a) x k ks w h b g = takes a naming (Fetch (at a) ∷ k) ks w.0 h (below_place a w.1.0) (scalar_place u a w.0 w.1.1, (x, held u t a x w.0 w.1.1 w.2 b, g))
    node_takes t (address a) x k ks w h b g = takes a naming (Keep ∷ k) ks w.0 h (below_place a w.1.place) (x, subst (λ (q : QTy). Below (kind_at (type_in q)) x) w.2 b, g)
    node_takes t (decay a) x k ks w h b g = takes a naming (Keep ∷ k) ks w.0 h (below_place a w.1) (x, subst (λ (y : Kind). Below y x) (decayed_kind (type_of a) t w.2) b, g)
    node_takes t (convert a) x k ks w h b g = takes a (kind_of a) (Change (shape_of u.types (type_in t)) ∷ k) ks w.0 h (below_refl (kind_of a)) (target u (type_in t), (x, from_same (kind_in (shape_of u.types (type_in t))) (kind_at (type_in t)) x (convert_same u t a w.1) b, g), simple a)
    node_takes t (unary op a) x k ks w h b g =
        let o = applied u op t a w.1 w.2 in
        takes a o.kind (Apply1 op (shape a) ∷ k) ks w.0 h o.below (o.operates, (x, subst (λ (y : Kind). Below y x) o.result b, g))
    node_takes t (binary op a d) x k ks w h b g =
        let j = joins u op t (type_of a) (type_of d) w.4 in
        takes a (kind_at (bare_type a)) (plan u d (Apply2 op (shape a) (shape d) ∷ k)) ks w.0 h.0 (below_value a (type_of a) w.2 refl)
        (takes d (kind_at (bare_type d)) (Apply2 op (shape a) (shape d) ∷ k) (kind_at (bare_type a) ∷ ks) w.1 h.1 (below_value d (type_of d) w.3 refl) (j.combines, j.right, j.left, (x, from_same (joined op (shape a) (shape d)) (kind_at (type_in t)) x j.result b, g)))
    node_takes t (both a d) x k ks w h b g = takes a (kind_of a) (Both d ∷ k) ks w.0 h.0 (below_refl (kind_of a)) (record { typed = w.1; there = h.1 }, (x, int_below u t Int x w.2 b, g), simple a)
    node_takes t (either a d) x k ks w h b g = takes a (kind_of a) (Either d ∷ k) ks w.0 h.0 (below_refl (kind_of a)) (record { typed = w.1; there = h.1 }, (x, int_below u t Int x w.2 b, g), simple a)
    node_takes t (choice i a d) x k ks w h b g = takes i (kind_of i) (Choose a d ∷ k) ks w.0 h.0 (below_refl (kind_of i)) (x, (record { typed = w.1; there = h.1 }, arm_below t a x w.4 b), (record { typed = w.2; there = h.2 }, arm_below t d x w.5 b), g, simple i)
    node_takes t (comma a d) x k ks w h b g = takes a (kind_of a) (Drop ∷ plan u d k) ks w.0 h.0 (below_refl (kind_of a)) (takes d x k ks w.1 h.1 (arm_below t d x w.2 b) g)
    node_takes t (assign a d) x k ks w h b g =
        takes a naming (plan u d (Put (at a) ∷ k)) ks w.0 h.0 (below_place a w.2.0)
        (takes d (kind_of d) (Put (at a) ∷ k) (naming ∷ ks) w.1 h.1 (below_refl (kind_of d)) (scalar_place u a w.0 w.2.1, (x, held u t a x w.0 w.2.1 w.3 b, g)))
    node_takes t (assign_op op ct a d) x k ks w h b g =
        let i = computes_int op ct (type_of d) w.7 in
        takes a naming (Peek (at a) (Number ct) ∷ plan u d (Apply2 op (Number ct) (shape d) ∷ Put (at a) ∷ k)) ks w.0 h.0 (below_place a w.2.0) (
          scalar_place u a w.0 w.2.1,
          tt,
          takes d (kind_at (int i.0)) (Apply2 op (Number ct) (shape d) ∷ Put (at a) ∷ k) (kind_in (Number ct) ∷ naming ∷ ks) w.1 h.1 (below_value d (plain (int i.0)) w.5 i.1)
              (subst (λ (s : Shape). Does m u c (Apply2 op (Number ct) s) (Put (at a) ∷ k) (Takes m u c (Put (at a) ∷ k)) (Out m u c (Put (at a) ∷ k)) (kind_at (int i.0) ∷ kind_in (Number ct) ∷ naming ∷ ks)) (sym (int_shape u (type_of d) i.0 i.1))
              (tt, refl, refl, (joined op (Number ct) (Number i.0), below_refl (joined op (Number ct) (Number i.0)), (scalar_place u a w.0 w.2.1, (x, held u t a x w.0 w.2.1 w.4 b, g))))),
        )
    node_takes t (assign_step op a d) x k ks w h b g =
        let is : type_in (type_of a) ≡ pointer w.4.0.0 = same_type t (type_of a) w.3 ∙ ap type_in w.4.0.1 in
        let low : Below pointing x = subst (λ (q : QTy). Below (kind_at (type_in q)) x) w.4.0.1 b in
        takes a naming (Peek (shape a) (shape a) ∷ plan u d (Apply2 op (shape a) (shape d) ∷ Put (shape a) ∷ k)) ks w.0 h.0 (below_place a w.2.0)
        (subst (λ (y : Ty). Takes m u c (Peek (shape_of u.types y) (shape_of u.types y) ∷ plan u d (Apply2 op (shape_of u.types y) (shape d) ∷ Put (shape_of u.types y) ∷ k)) (naming ∷ ks)) (sym is) (
          tt,
          tt,
          takes d (kind_at (int w.6.0)) (Apply2 op (Pointer (size_of u.types (type_in w.4.0.0))) (shape d) ∷ Put (Pointer (size_of u.types (type_in w.4.0.0))) ∷ k) (pointing ∷ naming ∷ ks) w.1 h.1 (below_value d (plain (int w.6.0)) w.5 w.6.1)
              (subst (λ (s : Shape). Does m u c (Apply2 op (Pointer (size_of u.types (type_in w.4.0.0))) s) (Put (Pointer (size_of u.types (type_in w.4.0.0))) ∷ k) (Takes m u c (Put (Pointer (size_of u.types (type_in w.4.0.0))) ∷ k)) (Out m u c (Put (Pointer (size_of u.types (type_in w.4.0.0))) ∷ k)) (kind_at (int w.6.0) ∷ pointing ∷ naming ∷ ks)) (sym (int_shape u (type_of d) w.6.0 w.6.1))
              (steps_move op w.7, refl, refl, (pointing, tt, (tt, (x, low, g))))),
        ))
    node_takes t (step kind a) x k ks w h b g =
        let i = scalar_place u a w.0 w.1.1 in
        let low = held u t a x w.0 w.1.1 w.2 b in
        takes a naming (Peek (at a) (at a) ∷ Bump kind (at a) ∷ put_step (is_post kind) (at a) ∷ k) ks w.0 h (below_place a w.1.0)
        (i, becomes_self (at a) i, (i, refl, x, low, put_takes (is_post kind) (at a) x k ks i low g))
    node_takes t (copy a d) x k ks w h b g =
        let tagged : IsTrue (is_tag (type_in (type_of d))) = subst (λ (s : Ty). IsTrue (is_tag s)) (sym (same_type t (type_of d) w.5)) w.3 in
        takes a naming (plan u d (Carry 0 (size_of u.types (bare_type a)) ∷ k)) ks w.0 h.0 (below_place a w.2)
        (takes d naming (Carry 0 (size_of u.types (bare_type a)) ∷ k) (naming ∷ ks) w.1 h.1 (below_tag d tagged) (x, subst (λ (y : Kind). Below y x) (tag_kind false (type_in t) w.3) b, g))
    node_takes t (call f es) x k ks w h b g =
        takes f pointing (plan_all u es (Invoke (bare_type f) (types_of es) ∷ k)) ks w.0 h.0 (below_value f (plain (pointer (plain (function w.2.callee)))) w.1 w.2.named)
        (all_take es (Invoke (bare_type f) (types_of es) ∷ k) (pointing ∷ ks) w.4 h.1
        (invokes t f es x k ks w.2 (from_same (kind_passed (type_in t)) (kind_at (type_in t)) x (usual_passed t w.3) b) g))
    node_takes t (pack a) x k ks w h b g = absurd w
    node_takes t (spill i a) x k ks w h b g =
        called_takes t a (Lay i 0 (size_of u.types (type_in t)) ∷ k) ks w.0 h.1 (h.0, (x, subst (λ (y : Kind). Below y x) (tag_kind false (type_in t) (called_tag u t a w.0)) b, g))
    node_takes t rest x k ks w h b g = (h, (x, subst (λ (q : QTy). Below (kind_at (type_in q)) x) w b, g))

    -- a call that gives a structure or union
    called_takes : (t : QTy) (a : Typed) (k : List Item) (ks : List Kind) → IsCalled u t a → AreThere u c a → Takes m u c k (carrying ∷ ks) → Takes m u c (plan u a k) ks
    called_takes t (node s (call f es)) k ks w h g =
        takes f pointing (plan_all u es (Invoke (bare_type f) (types_of es) ∷ k)) ks w.2 h.0 (below_value f (plain (pointer (plain (function w.4.callee)))) w.3 w.4.named)
        (all_take es (Invoke (bare_type f) (types_of es) ∷ k) (pointing ∷ ks) w.5 h.1
        (invokes s f es carrying k ks w.4 (below_same (kind_passed (type_in s)) carrying (small_passed u s w.1)) g))
    called_takes t (node s _) k ks w h g = absurd w

    -- an argument or a returned value
    pub given_takes : (e : Typed) (k : List Item) (ks : List Kind) → IsGiven u e → AreThere u c e → Takes m u c k (kind_passed (bare_type e) ∷ ks) → Takes m u c (plan u e k) ks
    given_takes (node t (pack a)) k ks w h g =
        let tagged : IsTrue (is_tag (type_in (type_of a))) = subst (λ (s : Ty). IsTrue (is_tag s)) (sym (same_type t (type_of a) w.2)) (small_tag u t w.1) in
        takes a naming (Gather (size_of u.types (type_in t)) ∷ k) ks w.0 h (below_tag a tagged) (kind_passed (type_in t), below_same carrying (kind_passed (type_in t)) (sym (small_passed u t w.1)), g)
    given_takes (node t n) k ks w h g =
        node_takes t n (kind_passed (type_in t)) k ks w.0 h (below_same (kind_of (node t n)) (kind_passed (type_in t)) (value_kind (node t n) w.1.1 ∙ sym (scalar_passed (type_in t) w.1.0.0))) g

    all_take : (es : Nodes) (k : List Item) (ks : List Kind) → AreTyped u es → AreAllThere u c es → Takes m u c k (pushed (types_of es) ks) → Takes m u c (plan_all u es k) ks
    all_take none k ks w h g = g
    all_take (some e es) k ks w h g = given_takes e (plan_all u es k) ks w.0 h.0 (all_take es k (kind_passed (bare_type e) ∷ ks) w.1 h.1 g)
