-- What is well typed in a unit stays so in each unit to which it grows.
use Rattle.std.proofs.Common.{◌≡◌, ℕ, ◌+◌, ◌≤◌, Bool, true, false, Option, Some, None, refl, sym, ap, ◌∙◌, subst}
use Rattle.std.specs.Prelude.{slice_get, is_some, nat_le, ◌&&◌}
use Rattle.c65_base.specs.declared.operators.BinaryOp.{BinaryOp}
use Rattle.c65_base.specs.declared.operators.BinaryOp.TheVariants as ops
use Rattle.c65_ints.specs.declared.types.IntType.{IntType}
use Rattle.c65_ints.specs.declared.types.IntType.TheVariants.{SChar, UChar, Short, UShort, Int, UInt, Long, ULong}
use Rattle.c65_ctype.specs.Trees.{Ty, void, int, pointer, array, tag, function, QTy, qual, type_in, Fn, fn, unknown, known, QTys, end, more, TypesTy, MemberTy, LayoutTy}
use Rattle.c65_ctype.specs.Compatible.{same_int}
use Rattle.c65_ctype.specs.Tables.{layout_at}
use Rattle.c65_ctype.specs.Sizes.{size_in, size_of}
use Rattle.c65_csem.specs.Trees as n
use Rattle.c65_csem.specs.Trees.{Typed, node, Node, Nodes, none, some, type_of, UnitTy, ObjectTy, FuncTy}
use Rattle.c65_csem.specs.Places.{is_scalar, most_small, is_small, is_sized, is_sized_in, moves, member_at, is_bit_field, is_automatic, is_register, has_register, is_registered, are_alike, alike}
use Rattle.c65_csem.specs.Typed.{IsMoved, IsStepped, AreAdded, AreSubtracted, Operands, IsSmall, Passes, ArePassed, AreGiven, FitsFn, IsCall, IsSpot, IsMember, IsAddressed, arguments_size, IsTyped, IsNode, IsGiven, IsCalled, AreTyped}
use Rattle.c65_elab_law.specs.Growth.{IsLater, Grows}
use Rattle.c65_elab_law.specs.WellTyped.{AreExpressions}
use Rattle.c65_elab_law.proofs.ValueLaws.{same_kind}

pub same_self : (k : IntType) → same_int k k ≡ true
same_self SChar = refl
same_self UChar = refl
same_self Short = refl
same_self UShort = refl
same_self Int = refl
same_self UInt = refl
same_self Long = refl
same_self ULong = refl

-- types that are alike
mutual
  pub alike_self : (t : QTy) → are_alike t t ≡ true
  alike_self (qual t c v) = alike_itself t

  pub alike_itself : (t : Ty) → alike t t ≡ true
  alike_itself void = refl
  alike_itself (int k) = same_self k
  alike_itself (pointer q) = refl
  alike_itself (array q m) = alike_self q
  alike_itself (tag m) = refl
  alike_itself (function f) = refl

mutual
  pub alike_through : (t u w : QTy) → are_alike t u ≡ true → are_alike u w ≡ true → are_alike t w ≡ true
  alike_through (qual t c v) (qual u d x) (qual w f y) g h = through t u w g h

  through : (t u w : Ty) → alike t u ≡ true → alike u w ≡ true → alike t w ≡ true
  through void void w g h = h
  through void (int k) w g h = absurd (let x : false ≡ true = g in cc)
  through void (pointer q) w g h = absurd (let x : false ≡ true = g in cc)
  through void (array q m) w g h = absurd (let x : false ≡ true = g in cc)
  through void (tag m) w g h = absurd (let x : false ≡ true = g in cc)
  through void (function f) w g h = absurd (let x : false ≡ true = g in cc)
  through (int j) void w g h = absurd (let x : false ≡ true = g in cc)
  through (int j) (int k) w g h = subst (λ (i : IntType). alike (int i) w ≡ true) (sym (same_kind j k g)) h
  through (int j) (pointer q) w g h = absurd (let x : false ≡ true = g in cc)
  through (int j) (array q m) w g h = absurd (let x : false ≡ true = g in cc)
  through (int j) (tag m) w g h = absurd (let x : false ≡ true = g in cc)
  through (int j) (function f) w g h = absurd (let x : false ≡ true = g in cc)
  through (pointer p) void w g h = absurd (let x : false ≡ true = g in cc)
  through (pointer p) (int k) w g h = absurd (let x : false ≡ true = g in cc)
  through (pointer p) (pointer q) void g h = h
  through (pointer p) (pointer q) (int k) g h = h
  through (pointer p) (pointer q) (pointer r) g h = refl
  through (pointer p) (pointer q) (array r m) g h = h
  through (pointer p) (pointer q) (tag m) g h = h
  through (pointer p) (pointer q) (function f) g h = h
  through (pointer p) (array q m) w g h = absurd (let x : false ≡ true = g in cc)
  through (pointer p) (tag m) w g h = absurd (let x : false ≡ true = g in cc)
  through (pointer p) (function f) w g h = absurd (let x : false ≡ true = g in cc)
  through (array p l) void w g h = absurd (let x : false ≡ true = g in cc)
  through (array p l) (int k) w g h = absurd (let x : false ≡ true = g in cc)
  through (array p l) (pointer q) w g h = absurd (let x : false ≡ true = g in cc)
  through (array p l) (array q m) void g h = h
  through (array p l) (array q m) (int k) g h = h
  through (array p l) (array q m) (pointer r) g h = h
  through (array p l) (array q m) (array r k) g h = alike_through p q r g h
  through (array p l) (array q m) (tag k) g h = h
  through (array p l) (array q m) (function f) g h = h
  through (array p l) (tag m) w g h = absurd (let x : false ≡ true = g in cc)
  through (array p l) (function f) w g h = absurd (let x : false ≡ true = g in cc)
  through (tag l) void w g h = absurd (let x : false ≡ true = g in cc)
  through (tag l) (int k) w g h = absurd (let x : false ≡ true = g in cc)
  through (tag l) (pointer q) w g h = absurd (let x : false ≡ true = g in cc)
  through (tag l) (array q m) w g h = absurd (let x : false ≡ true = g in cc)
  through (tag l) (tag m) void g h = h
  through (tag l) (tag m) (int k) g h = h
  through (tag l) (tag m) (pointer r) g h = h
  through (tag l) (tag m) (array r k) g h = h
  through (tag l) (tag m) (tag k) g h = refl
  through (tag l) (tag m) (function f) g h = h
  through (tag l) (function f) w g h = absurd (let x : false ≡ true = g in cc)
  through (function d) void w g h = absurd (let x : false ≡ true = g in cc)
  through (function d) (int k) w g h = absurd (let x : false ≡ true = g in cc)
  through (function d) (pointer q) w g h = absurd (let x : false ≡ true = g in cc)
  through (function d) (array q m) w g h = absurd (let x : false ≡ true = g in cc)
  through (function d) (tag m) w g h = absurd (let x : false ≡ true = g in cc)
  through (function d) (function f) void g h = h
  through (function d) (function f) (int k) g h = h
  through (function d) (function f) (pointer r) g h = h
  through (function d) (function f) (array r k) g h = h
  through (function d) (function f) (tag k) g h = h
  through (function d) (function f) (function e) g h = refl

-- ---- growth, by itself and step by step

pub grows_self : (u : UnitTy) → Grows u u
grows_self u = record {
  types = λ tag l h. h;
  objects = λ i o h. (o, h, record { alike = alike_self o.ty; register = refl; tags = λ k x. x; name = refl; automatic = λ x. refl });
  literals = λ i bytes h. h;
  funcs = λ i f h. (f, h);
}

pub grows_on : (u v w : UnitTy) → Grows u v → Grows v w → Grows u w
grows_on u v w g h = record {
  types = λ tag l x. h.types tag l (g.types tag l x);
  objects = λ i o x. later i o x;
  literals = λ i bytes x. h.literals i bytes (g.literals i bytes x);
  funcs = λ i f x. let y = g.funcs i f x in h.funcs i y.0 y.1;
}
  where
    later : (i : ℕ) (o : ObjectTy) → slice_get u.objects i ≡ Some o → (p : ObjectTy) × (slice_get w.objects i ≡ Some p) × IsLater o p
    later i o x =
        let y = g.objects i o x in
        let z = h.objects i y.0 y.1 in
        (z.0, z.1, record { alike = alike_through o.ty y.0.ty z.0.ty y.2.alike z.2.alike; register = z.2.register ∙ y.2.register; tags = λ k t. z.2.tags k (y.2.tags k t); name = z.2.name ∙ y.2.name; automatic = λ a. z.2.automatic (ap is_automatic (y.2.automatic a) ∙ a) ∙ y.2.automatic a })

-- ---- sizes and members stay

laid_stays : (u v : UnitTy) → Grows u v → (i : ℕ) → is_some (layout_at u.types i) ≡ true → is_some (layout_at v.types i) ≡ true
laid_stays u v g i h = tested (layout_at u.types i) refl
  where
    tested : (o : Option LayoutTy) → layout_at u.types i ≡ o → is_some (layout_at v.types i) ≡ true
    tested None x = absurd (let y : false ≡ true = rw x at h in cc)
    tested (Some l) x = rw (g.types i l x) refl

mutual
  pub sized_stays : (u v : UnitTy) → Grows u v → (t : Ty) → is_sized u.types t ≡ true → is_sized v.types t ≡ true
  sized_stays u v g void h = h
  sized_stays u v g (int k) h = refl
  sized_stays u v g (pointer q) h = refl
  sized_stays u v g (array q None) h = h
  sized_stays u v g (array q (Some m)) h = sized_stays_in u v g q h
  sized_stays u v g (tag i) h = laid_stays u v g i h
  sized_stays u v g (function f) h = h

  pub sized_stays_in : (u v : UnitTy) → Grows u v → (q : QTy) → is_sized_in u.types q ≡ true → is_sized_in v.types q ≡ true
  sized_stays_in u v g (qual t c w) h = sized_stays u v g t h

moves_stays : (u v : UnitTy) → Grows u v → (t : Ty) → moves u.types t ≡ true → moves v.types t ≡ true
moves_stays u v g void h = h
moves_stays u v g (int k) h = h
moves_stays u v g (pointer q) h = sized_stays_in u v g q h
moves_stays u v g (array q m) h = h
moves_stays u v g (tag i) h = h
moves_stays u v g (function f) h = h

moved_stays : (u v : UnitTy) → Grows u v → (t : QTy) → IsMoved u t → IsMoved v t
moved_stays u v g t w = (w.0, moves_stays u v g (type_in t) w.1)

stepped_stays : (u v : UnitTy) → Grows u v → (t : QTy) → IsStepped u t → IsStepped v t
stepped_stays u v g t (IsStepped.number w) = IsStepped.number w
stepped_stays u v g t (IsStepped.moved w) = IsStepped.moved (moved_stays u v g t w)

member_stays : (u v : UnitTy) → Grows u v → (s : Ty) (m : ℕ) (x : MemberTy) → member_at u.types s m ≡ Some x → member_at v.types s m ≡ Some x
member_stays u v g void m x h = absurd (let y : None ≡ Some x = h in cc)
member_stays u v g (int k) m x h = absurd (let y : None ≡ Some x = h in cc)
member_stays u v g (pointer q) m x h = absurd (let y : None ≡ Some x = h in cc)
member_stays u v g (array q k) m x h = absurd (let y : None ≡ Some x = h in cc)
member_stays u v g (function f) m x h = absurd (let y : None ≡ Some x = h in cc)
member_stays u v g (tag i) m x h = tested (layout_at u.types i) refl
  where
    tested : (o : Option LayoutTy) → layout_at u.types i ≡ o → member_at v.types (tag i) m ≡ Some x
    tested None y = absurd (let z : None ≡ Some x = rw y at h in cc)
    tested (Some l) y = rw (g.types i l y) (rw y at h)

is_member_stays : (u v : UnitTy) → Grows u v → (t s : QTy) (m : ℕ) → IsMember u t s m → IsMember v t s m
is_member_stays u v g t (qual s c w) m h = (h.0, member_stays u v g s m h.0 h.1, h.2)

-- a member is a bit-field or none
bits_stay : (u v : UnitTy) → Grows u v → (t : QTy) (e : Node) → IsTyped u (node t e) → is_bit_field u.types (node t e) ≡ false → is_bit_field v.types (node t e) ≡ false
bits_stay u v g t (n.member (node (qual s c w) e) m) h b =
    let x = h.1 in
    rw (member_stays u v g s m x.0 x.1) (rw x.1 at b)
bits_stay u v g t _ h b = b

-- whether it is of class register stays
mutual
  registered_stays : (u v : UnitTy) → Grows u v → (e : Typed) → IsTyped u e → is_registered v e ≡ is_registered u e
  registered_stays u v g (node t e) w = register_stays u v g t e w

  register_stays : (u v : UnitTy) → Grows u v → (t : QTy) (e : Node) → IsNode u t e → is_registered v (node t e) ≡ is_registered u (node t e)
  register_stays u v g t (n.object i) w =
      let x = g.objects i w.0 w.1 in
      let now : has_register (slice_get v.objects i) ≡ is_register x.0.class = ap has_register x.1 in
      let before : has_register (slice_get u.objects i) ≡ is_register w.0.class = ap has_register w.1 in
      now ∙ x.2.register ∙ sym before
  register_stays u v g t (n.member e m) w = registered_stays u v g e w.0
  register_stays u v g t _ w = refl

addressed_stays : (u v : UnitTy) → Grows u v → (e : Typed) → IsTyped u e → IsAddressed u e → IsAddressed v e
addressed_stays u v g (node t e) w a = record { place = a.place; whole = bits_stay u v g t e w a.whole; memory = registered_stays u v g (node t e) w ∙ a.memory }

-- ---- operators

added_stays : (u v : UnitTy) → Grows u v → (t a b : QTy) → AreAdded u t a b → AreAdded v t a b
added_stays u v g t a b (AreAdded.numbers w) = AreAdded.numbers w
added_stays u v g t a b (AreAdded.pointer_first m i h) = AreAdded.pointer_first (moved_stays u v g a m) i h
added_stays u v g t a b (AreAdded.pointer_last i m h) = AreAdded.pointer_last i (moved_stays u v g b m) h

subtracted_stays : (u v : UnitTy) → Grows u v → (t a b : QTy) → AreSubtracted u t a b → AreSubtracted v t a b
subtracted_stays u v g t a b (AreSubtracted.numbers w) = AreSubtracted.numbers w
subtracted_stays u v g t a b (AreSubtracted.pointer_first m i h) = AreSubtracted.pointer_first (moved_stays u v g a m) i h
subtracted_stays u v g t a b (AreSubtracted.pointers m k h) = AreSubtracted.pointers (moved_stays u v g a m) (moved_stays u v g b k) h

operands_stay : (u v : UnitTy) → Grows u v → (op : BinaryOp) (t a b : QTy) → Operands u op t a b → Operands v op t a b
operands_stay u v g ops.Mul t a b w = w
operands_stay u v g ops.Div t a b w = w
operands_stay u v g ops.Rem t a b w = w
operands_stay u v g ops.Add t a b w = added_stays u v g t a b w
operands_stay u v g ops.Sub t a b w = subtracted_stays u v g t a b w
operands_stay u v g ops.Shl t a b w = w
operands_stay u v g ops.Shr t a b w = w
operands_stay u v g ops.Lt t a b w = w
operands_stay u v g ops.Gt t a b w = w
operands_stay u v g ops.Le t a b w = w
operands_stay u v g ops.Ge t a b w = w
operands_stay u v g ops.Eq t a b w = w
operands_stay u v g ops.Ne t a b w = w
operands_stay u v g ops.BitAnd t a b w = w
operands_stay u v g ops.BitXor t a b w = w
operands_stay u v g ops.BitOr t a b w = w

-- ---- structures and unions of few bytes

-- the number of a tag
pub small_tag : (types : TypesTy) (t : Ty) → is_small types t ≡ true → (i : ℕ) × (t ≡ tag i)
small_tag types void h = absurd (let x : false ≡ true = h in cc)
small_tag types (int k) h = absurd (let x : false ≡ true = h in cc)
small_tag types (pointer q) h = absurd (let x : false ≡ true = h in cc)
small_tag types (array q m) h = absurd (let x : false ≡ true = h in cc)
small_tag types (tag i) h = (i, refl)
small_tag types (function f) h = absurd (let x : false ≡ true = h in cc)

-- it is finished
pub small_laid : (types : TypesTy) (i : ℕ) → is_small types (tag i) ≡ true → (l : LayoutTy) × (layout_at types i ≡ Some l)
small_laid types i h = tested (layout_at types i) refl
  where
    tested : (o : Option LayoutTy) → layout_at types i ≡ o → (l : LayoutTy) × (layout_at types i ≡ Some l)
    tested None x = absurd (let y : false ≡ true = rw x at h in cc)
    tested (Some l) x = (l, x)

tag_size_stays : (u v : UnitTy) → Grows u v → (i : ℕ) → is_small u.types (tag i) ≡ true → size_of v.types (tag i) ≡ size_of u.types (tag i)
tag_size_stays u v g i h =
    let x = small_laid u.types i h in
    ap size_in (g.types i x.0 x.1) ∙ sym (ap size_in x.1)

small_size_stays : (u v : UnitTy) → Grows u v → (t : Ty) → is_small u.types t ≡ true → size_of v.types t ≡ size_of u.types t
small_size_stays u v g t h =
    let x = small_tag u.types t h in
    subst (λ (z : Ty). size_of v.types z ≡ size_of u.types z) (sym x.1) (tag_size_stays u v g x.0 (subst (λ (z : Ty). is_small u.types z ≡ true) x.1 h))

is_small_stays : (u v : UnitTy) → Grows u v → (t : Ty) → is_small u.types t ≡ true → is_small v.types t ≡ true
is_small_stays u v g void h = h
is_small_stays u v g (int k) h = h
is_small_stays u v g (pointer q) h = h
is_small_stays u v g (array q m) h = h
is_small_stays u v g (tag i) h = ap (λ (k : ℕ). nat_le 1 k && nat_le k most_small) (tag_size_stays u v g i h) ∙ h
is_small_stays u v g (function f) h = h

pub small_stays : (u v : UnitTy) → Grows u v → (t : QTy) → IsSmall u t → IsSmall v t
small_stays u v g t w = (is_small_stays u v g (type_in t) w.0, w.1)

-- the object that takes what a call gives
spot_stays : (u v : UnitTy) → Grows u v → (i : ℕ) (t : QTy) → IsSmall u t → IsSpot u i t → IsSpot v i t
spot_stays u v g i t s w =
    let x = g.objects i w.object w.there in
    let k = small_tag u.types (type_in t) s.0 in
    record { object = x.0; there = x.1; unnamed = x.2.name ∙ w.unnamed; class = x.2.automatic (ap is_automatic w.class) ∙ w.class; same = x.2.tags k.0 (w.same ∙ k.1) ∙ sym k.1 }

pub called_small : (u : UnitTy) (t : QTy) (e : Typed) → IsCalled u t e → IsSmall u t
called_small u t (node s (n.call f es)) w = subst (IsSmall u) w.0 w.1
called_small u t (node s _) w = absurd w

-- ---- calls: an argument is scalar, or its bytes are those of a finished structure or union

size_same : (types others : TypesTy) (t : Ty) → is_scalar t ≡ true → size_of others t ≡ size_of types t
size_same types others void h = refl
size_same types others (int k) h = refl
size_same types others (pointer q) h = refl
size_same types others (array q m) h = absurd (let x : false ≡ true = h in cc)
size_same types others (tag m) h = absurd (let x : false ≡ true = h in cc)
size_same types others (function f) h = refl

given_size : (u v : UnitTy) → Grows u v → (e : Typed) → IsGiven u e → size_of v.types (type_in (type_of e)) ≡ size_of u.types (type_in (type_of e))
given_size u v g (node t (n.pack e)) w = small_size_stays u v g (type_in t) w.1.0
given_size u v g (node t x) w = size_same u.types v.types (type_in t) w.1.0.0

arguments_stay : (u v : UnitTy) → Grows u v → (es : Nodes) → AreTyped u es → arguments_size v.types es ≡ arguments_size u.types es
arguments_stay u v g none w = refl
arguments_stay u v g (some (node t e) es) w = ap (λ (k : ℕ). k + arguments_size v.types es) (given_size u v g (node t e) w.0) ∙ ap (λ (k : ℕ). size_of u.types (type_in t) + k) (arguments_stay u v g es w.1)

passes_stays : (u v : UnitTy) → Grows u v → (t : QTy) → Passes u t → Passes v t
passes_stays u v g t (Passes.number w) = Passes.number w
passes_stays u v g t (Passes.pointer_value w) = Passes.pointer_value w
passes_stays u v g t (Passes.structure w) = Passes.structure (small_stays u v g t w)

passed_stay : (u v : UnitTy) → Grows u v → (es : Nodes) → ArePassed u es → ArePassed v es
passed_stay u v g none w = tt
passed_stay u v g (some e es) w = (passes_stays u v g (type_of e) w.0, passed_stay u v g es w.1)

given_stay : (u v : UnitTy) → Grows u v → (qs : QTys) (variadic : Bool) (es : Nodes) → AreGiven u qs variadic es → AreGiven v qs variadic es
given_stay u v g end false none w = w
given_stay u v g end false (some e es) w = w
given_stay u v g end true es w = passed_stay u v g es w
given_stay u v g (more q qs) variadic none w = w
given_stay u v g (more q qs) variadic (some e es) w = (w.0, given_stay u v g qs variadic es w.1)

fits_stay : (u v : UnitTy) → Grows u v → (f : Fn) (es : Nodes) → FitsFn u f es → FitsFn v f es
fits_stay u v g (fn q unknown variadic cdecl) es w = passed_stay u v g es w
fits_stay u v g (fn q (known qs) variadic cdecl) es w = given_stay u v g qs variadic es w

call_stays : (u v : UnitTy) → Grows u v → (t f : QTy) (es : Nodes) → AreTyped u es → IsCall u t f es → IsCall v t f es
call_stays u v g t f es ws w = record { callee = w.callee; named = w.named; result = w.result; given = fits_stay u v g w.callee es w.given; few = subst (λ (k : ℕ). k ≤ 250) (sym (arguments_stay u v g es ws)) w.few }

-- ---- trees

mutual
  pub stays : (u v : UnitTy) → Grows u v → (e : Typed) → IsTyped u e → IsTyped v e
  stays u v g (node t e) w = node_stays u v g t e w

  node_stays : (u v : UnitTy) → Grows u v → (t : QTy) (e : Node) → IsNode u t e → IsNode v t e
  node_stays u v g t (n.constant z) w = w
  node_stays u v g t n.null w = w
  node_stays u v g t (n.literal i) w = (w.0, g.literals i w.0 w.1, w.2)
  node_stays u v g t (n.object i) w =
      let x = g.objects i w.0 w.1 in
      (x.0, x.1, alike_through t w.0.ty x.0.ty w.2 x.2.alike)
  node_stays u v g t (n.func i) w =
      let x = g.funcs i w.0 w.1 in
      (x.0, x.1, w.2, w.3)
  node_stays u v g t (n.deref e) w = (stays u v g e w.0, w.1, w.2)
  node_stays u v g t (n.member e m) w = (stays u v g e w.0, is_member_stays u v g t (type_of e) m w.1)
  node_stays u v g t (n.load e) w = (stays u v g e w.0, w.1, w.2)
  node_stays u v g t (n.address e) w = (stays u v g e w.0, addressed_stays u v g e w.0 w.1, w.2)
  node_stays u v g t (n.decay e) w = (stays u v g e w.0, w.1, w.2)
  node_stays u v g t (n.convert e) w = (stays u v g e w.0, w.1)
  node_stays u v g t (n.unary op e) w = (stays u v g e w.0, w.1, w.2)
  node_stays u v g t (n.binary op a b) w = (stays u v g a w.0, stays u v g b w.1, w.2, w.3, operands_stay u v g op t (type_of a) (type_of b) w.4)
  node_stays u v g t (n.both a b) w = (stays u v g a w.0, stays u v g b w.1, w.2, w.3, w.4)
  node_stays u v g t (n.either a b) w = (stays u v g a w.0, stays u v g b w.1, w.2, w.3, w.4)
  node_stays u v g t (n.choice x a b) w = (stays u v g x w.0, stays u v g a w.1, stays u v g b w.2, w.3, w.4, w.5)
  node_stays u v g t (n.comma a b) w = (stays u v g a w.0, stays u v g b w.1, w.2)
  node_stays u v g t (n.assign a b) w = (stays u v g a w.0, stays u v g b w.1, w.2, w.3, w.4, w.5)
  node_stays u v g t (n.assign_op op k a b) w = (stays u v g a w.0, stays u v g b w.1, w.2, w.3, w.4, w.5, w.6, w.7)
  node_stays u v g t (n.assign_step op a b) w = (stays u v g a w.0, stays u v g b w.1, w.2, w.3, moved_stays u v g t w.4, w.5, w.6, w.7)
  node_stays u v g t (n.step how a) w = (stays u v g a w.0, w.1, w.2, stepped_stays u v g t w.3)
  node_stays u v g t (n.copy a b) w = (stays u v g a w.0, stays u v g b w.1, w.2, w.3, w.4, w.5)
  node_stays u v g t (n.call f es) w = (stays u v g f w.0, w.1, call_stays u v g t (type_of f) es w.4 w.2, w.3, all_stay u v g es w.4)
  node_stays u v g t (n.pack e) w = absurd w
  node_stays u v g t (n.spill i e) w = (called_stays u v g t e w.0, spot_stays u v g i t (called_small u t e w.0) w.1)
  node_stays u v g t n.rest w = w

  pub given_stays : (u v : UnitTy) → Grows u v → (e : Typed) → IsGiven u e → IsGiven v e
  given_stays u v g (node t (n.pack e)) w = (stays u v g e w.0, small_stays u v g t w.1, w.2)
  given_stays u v g (node t x) w = (node_stays u v g t x w.0, w.1)

  pub called_stays : (u v : UnitTy) → Grows u v → (t : QTy) (e : Typed) → IsCalled u t e → IsCalled v t e
  called_stays u v g t (node s (n.call f es)) w = (w.0, small_stays u v g s w.1, stays u v g f w.2, w.3, call_stays u v g s (type_of f) es w.5 w.4, all_stay u v g es w.5)
  called_stays u v g t (node s _) w = absurd w

  pub all_stay : (u v : UnitTy) → Grows u v → (es : Nodes) → AreTyped u es → AreTyped v es
  all_stay u v g none w = tt
  all_stay u v g (some e es) w = (given_stays u v g e w.0, all_stay u v g es w.1)

pub expressions_stay : (u v : UnitTy) → Grows u v → (es : Nodes) → AreExpressions u es → AreExpressions v es
expressions_stay u v g none w = tt
expressions_stay u v g (some e es) w = (stays u v g e w.0, expressions_stay u v g es w.1)
