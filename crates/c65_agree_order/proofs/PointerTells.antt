-- What the addresses of two pointers tell of these (C90 6.3.8, 6.3.9).
use Rattle.std.proofs.Common.{◌≡◌, ℕ, ◌+◌, ◌-◌, ◌<◌, ◌≤◌, ◌⊎◌, inl, inr, Bool, true, false, Option, Some, None, refl, sym, ap, ◌∙◌, subst, arith}
use Rattle.std.specs.Prelude.{Result, Ok, Err, ◌==◌, ◌&&◌, ◌||◌, not, nat_lt, nat_le, if◌then◌else◌}
use Rattle.std.proofs.lemmas.Bool.{eqb-true, cases_lt, cases_eq}
use Rattle.std.proofs.lemmas.Bool.Decides.{nat_tests}
use Rattle.c65_base.specs.declared.operators.BinaryOp.{BinaryOp}
use Rattle.c65_base.specs.declared.operators.BinaryOp.TheVariants as ops
use Rattle.c65_meaning.specs.declared.action.Action.TheVariants.{EndedObject}
use Rattle.c65_meaning.specs.Why.{Why, By}
use Rattle.c65_meaning.specs.Integers.{truth}
use Rattle.c65_meaning.specs.Store.{Block, Store, Value, Whole, Null, Place, Opaque, Cells, NoValue, lives_in, is_live, size_in_store, block_size}
use Rattle.c65_meaning.specs.Operators as meaning
use Rattle.c65_meaning.specs.Operators.{in_one_block, may_meet, end_meets, is_empty}
use Rattle.c65_code.specs.declared.routine.Width.TheVariants.{Ax}
use Rattle.c65_code.specs.LineState.{Bytes}
use Rattle.c65_gendirect.specs.declared.relation.Relation.{Relation}
use Rattle.c65_gendirect.specs.declared.relation.Relation.TheVariants.{Less, NotLess, Greater, NotGreater, Equal, Unequal}
use Rattle.c65_gendirect.specs.Compare.{relation_of}
use Rattle.c65_agree_store.specs.Stands.{At, Placing, Banks, ValueIs, IsAt, Stands}
use Rattle.c65_agree_numbers.proofs.Tests.{less, equal, unequal}
use Rattle.c65_agree_direct.specs.Operands.{IsOfLive}
use Rattle.c65_agree_compare.specs.Laws.{IsEqual}
use Rattle.c65_agree_compare.proofs.Directs.{some_is}
use Rattle.c65_agree_order.proofs.Tells.{tells}

-- ---- operators and relations

abbrev pub op_by : Relation → BinaryOp
op_by Less = ops.Lt
op_by NotLess = ops.Ge
op_by Greater = ops.Gt
op_by NotGreater = ops.Le
op_by Equal = ops.Eq
op_by Unequal = ops.Ne

pub op_is : (op : BinaryOp) (r : Relation) → relation_of op ≡ Some r → op ≡ op_by r
op_is ops.Lt r e = ap op_by (sym (some_is Less r e))
op_is ops.Ge r e = ap op_by (sym (some_is NotLess r e))
op_is ops.Gt r e = ap op_by (sym (some_is Greater r e))
op_is ops.Le r e = ap op_by (sym (some_is NotGreater r e))
op_is ops.Eq r e = ap op_by (sym (some_is Equal r e))
op_is ops.Ne r e = ap op_by (sym (some_is Unequal r e))
op_is ops.Mul r e = absurd (cc)
op_is ops.Div r e = absurd (cc)
op_is ops.Rem r e = absurd (cc)
op_is ops.Add r e = absurd (cc)
op_is ops.Sub r e = absurd (cc)
op_is ops.Shl r e = absurd (cc)
op_is ops.Shr r e = absurd (cc)
op_is ops.BitAnd r e = absurd (cc)
op_is ops.BitXor r e = absurd (cc)
op_is ops.BitOr r e = absurd (cc)

-- ---- places of two blocks

or_parts : (x y : Bool) → (x || y) ≡ false → (x ≡ false) × (y ≡ false)
or_parts true y e = absurd (cc)
or_parts false y e = (refl, e)

-- a place that may meet none is not behind its block's end
not_behind : (s : Store) (b o c p m : ℕ) → block_size s b ≡ m → end_meets s b o c p ≡ false → o ≤ m
not_behind s b o c p m is f = go (cases_lt m o)
  where
    go : (m < o) ⊎ (o ≤ m) → o ≤ m
    go (inr h) = h
    go (inl h) =
        let behind : nat_lt (block_size s b) o ≡ true = less (block_size s b) o (omega (arith, is, h)) in
        let clash : true ≡ false = sym behind ∙ (or_parts (nat_lt (block_size s b) o) (o == block_size s b && nat_lt p (block_size s c)) f).0 in absurd (cc)

-- nor at its end, where the other lies inside its own
ends_meet : (s : Store) (b o c p m n : ℕ) → block_size s b ≡ m → block_size s c ≡ n → o ≡ m → p < n → end_meets s b o c p ≡ false → ⊥
ends_meet s b o c p m n is is2 e lt f =
    let end : (o == block_size s b) ≡ true = equal o (block_size s b) (e ∙ sym is) in
    let inside : nat_lt p (block_size s c) ≡ true = less p (block_size s c) (omega (arith, lt, is2)) in
    let clash : true ≡ false = sym (both (o == block_size s b) (nat_lt p (block_size s c)) end inside) ∙ (or_parts (nat_lt (block_size s b) o) (o == block_size s b && nat_lt p (block_size s c)) f).1 in absurd (cc)
  where
    both : (x y : Bool) → x ≡ true → y ≡ true → (x && y) ≡ true
    both true y e f = f
    both false y e f = absurd (cc)

some_size : (s : Store) (b n : ℕ) → block_size s b ≡ n → is_empty s b ≡ false → 0 < n
some_size s b n is e = go (cases_lt 0 n)
  where
    go : (0 < n) ⊎ (n ≤ 0) → 0 < n
    go (inl h) = h
    go (inr h) =
        let none : block_size s b ≡ 0 = omega (arith, is, h) in
        let clash : true ≡ false = sym (equal (block_size s b) 0 none) ∙ e in absurd (cc)

record IsLiveAt (s : Store) (w : Placing) (b a : ℕ) : Type 0 where
  block : Block
  at : IsAt s w b block (At a)

-- ---- what a relation gives

-- it is 1 or 0, as the addresses tell
pub record Told (r : Relation) (m n : ℕ) (x : Value) : Type 0 where
  pub truth_is : Bool
  pub is : x ≡ Whole (truth truth_is)
  pub told : tells r false Ax m n ≡ truth_is

gives : (r : Relation) (m n : ℕ) (x : Value) (y : Bool) → meaning.test y ≡ Ok x → tells r false Ax m n ≡ y → Told r m n x
gives r m n x y e told = record { truth_is = y; is = cc; told = told }

shift_less : (a o p : ℕ) → nat_lt (a + o) (a + p) ≡ nat_lt o p
shift_less a o p = go (nat_lt o p) refl
  where
    go : (b : Bool) → nat_lt o p ≡ b → nat_lt (a + o) (a + p) ≡ b
    go true e = grind (arith, nat_tests)
    go false e = grind (arith, nat_tests)

shift_most : (a o p : ℕ) → nat_le (a + o) (a + p) ≡ nat_le o p
shift_most a o p = go (nat_le o p) refl
  where
    go : (b : Bool) → nat_le o p ≡ b → nat_le (a + o) (a + p) ≡ b
    go true e = grind (arith, nat_tests)
    go false e = grind (arith, nat_tests)

shift_equal : (a o p : ℕ) → (a + o == a + p) ≡ (o == p)
shift_equal a o p = go (cases_eq o p)
  where
    go : (o ≡ p) ⊎ (o ≡ p → ⊥) → (a + o == a + p) ≡ (o == p)
    go (inl h) = equal (a + o) (a + p) (ap (λ i. a + i) h) ∙ sym (equal o p h)
    go (inr h) = unequal (a + o) (a + p) (λ e. h (omega (arith, e))) ∙ sym (unequal o p h)

one_block : (r : Relation) (a o p size : ℕ) (x : Value) → in_one_block (op_by r) size o p ≡ Ok x → Told r (a + o) (a + p) x
one_block Less a o p size x e = gives Less (a + o) (a + p) x (nat_lt o p) e (shift_less a o p)
one_block NotLess a o p size x e = gives NotLess (a + o) (a + p) x (nat_le p o) e (shift_most a p o)
one_block Greater a o p size x e = gives Greater (a + o) (a + p) x (nat_lt p o) e (shift_less a p o)
one_block NotGreater a o p size x e = gives NotGreater (a + o) (a + p) x (nat_le o p) e (shift_most a o p)
one_block Equal a o p size x e = gives Equal (a + o) (a + p) x (o == p) e (shift_equal a o p)
one_block Unequal a o p size x e = gives Unequal (a + o) (a + p) x (not (o == p)) e (ap not (shift_equal a o p))

two_blocks : (r : Relation) (m n : ℕ) (meets : Bool) (x : Value) → (IsEqual r → meets ≡ false → m ≡ n → ⊥) → meaning.in_two_blocks (op_by r) meets ≡ Ok x → Told r m n x
two_blocks Equal m n true x differ e = absurd (cc)
two_blocks Equal m n false x differ e = gives Equal m n x false e (unequal m n (differ tt refl))
two_blocks Unequal m n true x differ e = absurd (cc)
two_blocks Unequal m n false x differ e = gives Unequal m n x true e (ap not (unequal m n (differ tt refl)))
two_blocks Less m n meets x differ e = absurd (cc)
two_blocks NotLess m n meets x differ e = absurd (cc)
two_blocks Greater m n meets x differ e = absurd (cc)
two_blocks NotGreater m n meets x differ e = absurd (cc)

nulls : (r : Relation) (m n : ℕ) (x : Value) → m ≡ n → meaning.both_null (op_by r) ≡ Ok x → Told r m n x
nulls Equal m n x same e = gives Equal m n x true e (equal m n same)
nulls Unequal m n x same e = gives Unequal m n x false e (ap not (equal m n same))
nulls Less m n x same e = absurd (cc)
nulls NotLess m n x same e = absurd (cc)
nulls Greater m n x same e = absurd (cc)
nulls NotGreater m n x same e = absurd (cc)

-- what has a value while a block lives
pub alive : (s : Store) (b : ℕ) (v : Result Value Why) (x : Value) → meaning.while_live s b v ≡ Ok x → (is_live s b ≡ true) × (v ≡ Ok x)
alive s b v x e = go (is_live s b) refl e
  where
    go : (y : Bool) → is_live s b ≡ y → (if y then v else Err (By EndedObject)) ≡ Ok x → (is_live s b ≡ true) × (v ≡ Ok x)
    go true f h = (f, h)
    go false f h = absurd (cc)

-- ---- two places

module _ (s : Store) (w : Placing) (mem : Bytes) (k : Banks) (stands : Stands s w mem k) where
  -- places of two blocks have two addresses, but where one may meet the other
  places_differ : (b c a d o p : ℕ) (x y : Block) → IsAt s w b x (At a) → IsAt s w c y (At d) → (b ≡ c → ⊥) → may_meet s b o c p ≡ false → a + o ≡ d + p → ⊥
  places_differ b c a d o p x y one two other meets same =
      let parts = or_parts (end_meets s b o c p || end_meets s c p b o) (is_empty s b || is_empty s c) meets in
      let ends = or_parts (end_meets s b o c p) (end_meets s c p b o) parts.0 in
      let empty = or_parts (is_empty s b) (is_empty s c) parts.1 in
      let size1 : block_size s b ≡ x.size = ap size_in_store one.is in
      let size2 : block_size s c ≡ y.size = ap size_in_store two.is in
      go (cases_lt o x.size) (cases_lt p y.size) ends.0 ends.1 (some_size s b x.size size1 empty.0) (some_size s c y.size size2 empty.1) size1 size2 (not_behind s b o c p x.size size1 ends.0) (not_behind s c p b o y.size size2 ends.1)
    where
      apart : (i j : ℕ) → i < x.size → j < y.size → a + i ≡ d + j → ⊥
      apart i j lt lt2 e = stands.apart b c x y (At a) (At d) one two other i j lt lt2 (ap At e)

      go : (o < x.size) ⊎ (x.size ≤ o) → (p < y.size) ⊎ (y.size ≤ p) → end_meets s b o c p ≡ false → end_meets s c p b o ≡ false → 0 < x.size → 0 < y.size → block_size s b ≡ x.size → block_size s c ≡ y.size → o ≤ x.size → p ≤ y.size → ⊥
      go (inl lt) (inl lt2) f g some some2 size1 size2 in_x in_y = apart o p lt lt2 same
      go (inr le) (inl lt2) f g some some2 size1 size2 in_x in_y = ends_meet s b o c p x.size y.size size1 size2 (omega (arith, le, in_x)) lt2 f
      go (inl lt) (inr le2) f g some some2 size1 size2 in_x in_y = ends_meet s c p b o y.size x.size size2 size1 (omega (arith, le2, in_y)) lt g
      go (inr le) (inr le2) f g some some2 size1 size2 in_x in_y = apart (x.size - 1) (y.size - 1) (omega (arith, some)) (omega (arith, some2)) (omega (arith, same, le, le2, in_x, in_y, some, some2))

  live_at : (b a : ℕ) → w b ≡ Some (At a) → is_live s b ≡ true → IsLiveAt s w b a
  live_at b a place live = go (s b) refl
    where
      go : (o : Option Block) → s b ≡ o → IsLiveAt s w b a
      go None e = let clash : false ≡ true = ap lives_in (sym e) ∙ live in absurd (cc)
      go (Some x) e = record { block = x; at = record { is = e; live = ap lives_in (sym e) ∙ live; place = place } }

  -- what is there is not at the address 0
  not_null : (b a o m : ℕ) → w b ≡ Some (At a) → is_live s b ≡ true → m ≡ a + o → m ≡ 0 → ⊥
  not_null b a o m place live is none =
      let there = live_at b a place live in
      let low : 512 ≤ a = (stands.lies b there.block (At a) there.at).0 in omega (arith, low, is, none)

  -- of two blocks
  apart_told : (b c a d o p m n : ℕ) → w b ≡ Some (At a) → w c ≡ Some (At d) → is_live s b ≡ true → is_live s c ≡ true → (b ≡ c → ⊥) → m ≡ a + o → n ≡ d + p → may_meet s b o c p ≡ false → m ≡ n → ⊥
  apart_told b c a d o p m n place place2 live live2 other is is2 meets same =
      let there = live_at b a place live in
      let there2 = live_at c d place2 live2 in
      places_differ b c a d o p there.block there2.block there.at there2.at other meets (omega (arith, same, is, is2))

  on_places_told : (r : Relation) (size b o c p m n a d : ℕ) (x : Value) → w b ≡ Some (At a) → w c ≡ Some (At d) → m ≡ a + o → n ≡ d + p → is_live s b ≡ true → is_live s c ≡ true
      → meaning.on_places s (op_by r) size b o c p ≡ Ok x → Told r m n x
  on_places_told r size b o c p m n a d x place place2 is is2 live live2 e = go (b == c) refl e
    where
      one : (y z : ℕ) → Some (At y) ≡ Some (At z) → y ≡ z
      one y z f = let same : At y ≡ At z = cc in cc

      go : (y : Bool) → (b == c) ≡ y → (if y then in_one_block (op_by r) size o p else meaning.in_two_blocks (op_by r) (may_meet s b o c p)) ≡ Ok x → Told r m n x
      go true f h =
          let same : b ≡ c = eqb-true b c f in
          let address : a ≡ d = one a d (sym place ∙ ap w same ∙ place2) in
          let right : a + p ≡ n = omega (arith, address, is2) in
          subst (λ i. Told r i n x) (sym is) (subst (λ i. Told r (a + o) i x) right (one_block r a o p size x h))
      go false f h =
          let other : b ≡ c → ⊥ = λ same. (let clash : true ≡ false = sym (equal b c same) ∙ f in absurd (cc)) in
          two_blocks r m n (may_meet s b o c p) x (λ equality meets. apart_told b c a d o p m n place place2 live live2 other is is2 meets) h

  null_told : (r : Relation) (m n : ℕ) (x : Value) → (m ≡ n → ⊥) → meaning.apart (op_by r) ≡ Ok x → Told r m n x
  null_told r m n x differ e = two_blocks r m n false x (λ equality meets. differ) (not_met r e)
    where
      not_met : (z : Relation) → meaning.apart (op_by z) ≡ Ok x → meaning.in_two_blocks (op_by z) false ≡ Ok x
      not_met Less h = h
      not_met NotLess h = h
      not_met Greater h = h
      not_met NotGreater h = h
      not_met Equal h = h
      not_met Unequal h = h

  pub pointers_tell : (r : Relation) (size : ℕ) (v u : Value) (m n : ℕ) (x : Value) → (IsOfLive s v → ValueIs w 65536 v m) → (IsOfLive s u → ValueIs w 65536 u n) → meaning.on_pointers s (op_by r) size v u ≡ Ok x → Told r m n x
  pointers_tell r size (Place b o) (Place c p) m n x is is2 e =
      let one = alive s b (meaning.while_live s c (meaning.on_places s (op_by r) size b o c p)) x e in
      let two = alive s c (meaning.on_places s (op_by r) size b o c p) x one.1 in
      let here = is one.0 in
      let there = is2 two.0 in
      on_places_told r size b o c p m n here.0 there.0 x here.1 there.1 here.2 there.2 one.0 two.0 two.1
  pointers_tell r size (Place b o) Null m n x is is2 e =
      let one = alive s b (meaning.apart (op_by r)) x e in
      let here = is one.0 in
      null_told r m n x (λ same. not_null b here.0 o m here.1 one.0 here.2 (same ∙ is2 tt)) one.1
  pointers_tell r size Null (Place c p) m n x is is2 e =
      let one = alive s c (meaning.apart (op_by r)) x e in
      let there = is2 one.0 in
      null_told r m n x (λ same. not_null c there.0 p n there.1 one.0 there.2 (sym same ∙ is tt)) one.1
  pointers_tell r size Null Null m n x is is2 e = nulls r m n x (is tt ∙ sym (is2 tt)) e
  pointers_tell r size (Place b o) (Whole z) m n x is is2 e = absurd (cc)
  pointers_tell r size (Place b o) Opaque m n x is is2 e = absurd (cc)
  pointers_tell r size (Place b o) (Cells xs) m n x is is2 e = absurd (cc)
  pointers_tell r size (Place b o) NoValue m n x is is2 e = absurd (cc)
  pointers_tell r size Null (Whole z) m n x is is2 e = absurd (cc)
  pointers_tell r size Null Opaque m n x is is2 e = absurd (cc)
  pointers_tell r size Null (Cells xs) m n x is is2 e = absurd (cc)
  pointers_tell r size Null NoValue m n x is is2 e = absurd (cc)
  pointers_tell r size (Whole z) u m n x is is2 e = absurd (cc)
  pointers_tell r size Opaque u m n x is is2 e = absurd (cc)
  pointers_tell r size (Cells xs) u m n x is is2 e = absurd (cc)
  pointers_tell r size NoValue u m n x is is2 e = absurd (cc)
