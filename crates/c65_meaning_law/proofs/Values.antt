-- Operators on values of the kinds that they take give values of a kind, or a numbered action.
use Rattle.std.proofs.Common.{◌≡◌, ℕ, zero, suc, ◌^◌, ℤ, pos, negsuc, ◌+ℤ◌, ◌-ℤ◌, ◌*ℤ◌, int_rem, Bool, true, false, not, List, Option, Some, None, subst, arith}
use Rattle.std.specs.Prelude.{◌==◌, Result, Ok, Err, IsTrue, ⊤, nat_le, if◌then◌else◌, unsigned_abs, int_div, neg_ℤ, option_map, bit_and, bit_xor, bit_or}
use Rattle.std.proofs.lemmas.Int.{ints, quot-rem}
use lib.IntN.{*ℤ_comm}
use Rattle.c65_base.specs.declared.operators.UnaryOp.{UnaryOp}
use Rattle.c65_base.specs.declared.operators.UnaryOp.TheVariants.{Neg, BitNot, Not}
use Rattle.c65_base.specs.declared.operators.BinaryOp.{BinaryOp}
use Rattle.c65_base.specs.declared.operators.BinaryOp.TheVariants.{Mul, Div, Rem, Add, Sub, Shl, Shr, Lt, Gt, Le, Ge, Eq, Ne, BitAnd, BitXor, BitOr}
use Rattle.c65_base.specs.declared.operators.StepKind.{StepKind}
use Rattle.c65_ints.specs.declared.types.IntType.{IntType}
use Rattle.c65_ints.specs.Ranges.{is_signed_of, modulus_of, residue, placed, wrap_of}
use Rattle.c65_ints.specs.Results.{cut, unless_zero, quotient_of, remainder_of, floor_of, count_of, shifted_left_of, shifted_right_of}
use Rattle.c65_meaning.specs.declared.action.Action.{Action}
use Rattle.c65_meaning.specs.declared.action.Action.TheVariants.{DivisionByZero, ShiftCount, OffsetOutside, PointersApart, EndedObject}
use Rattle.c65_meaning.specs.Why.{Why, By, Unfit, ◌>>=◌}
use Rattle.c65_meaning.specs.Integers.{truth}
use Rattle.c65_meaning.specs.Store.{Cell, Store, Value, Whole, Null, Place, Opaque, Cells, NoValue, Shape, Number, Field, Pointer, Area, is_live, block_size}
use Rattle.c65_meaning.specs.Fits.{IsTarget, compares, calculated_shape}
use Rattle.c65_meaning.specs.Operators.{number_or, truth_of, while_live, named_by, placed_at, moved, pointer_of, converted, calculated, elements_between, in_one_block, apart, in_two_blocks, may_meet, on_places, both_null, on_pointers, on_pointer_and_number, on_number_and_pointer, binary, unary, bumped, sign_of}
use Rattle.c65_meaning_law.proofs.Stacks.{Kind, arithmetic, pointing, naming, carrying, free, kind_in, IsSimple, Below, Operates, is_move, is_add, meets, Combines, joined, turned_kind, Becomes, IsScalarShape, Sound, IsOfSign, Stands, Suits}

pub if_sound : {A : Type 0} (P : A → Type 0) (t : Bool) (r q : Result A Why) → Sound P r → Sound P q → Sound P (if t then r else q)
if_sound P true r q h g = h
if_sound P false r q h g = g

pub map_sound : {A : Type 0} (P Q : A → Type 0) (r : Result A Why) → ((x : A) → P x → Q x) → Sound P r → Sound Q r
map_sound P Q (Ok x) f h = f x h
map_sound P Q (Err (By action)) f h = tt
map_sound P Q (Err Unfit) f h = absurd h

pub bind_sound : {A B : Type 0} (P : A → Type 0) (Q : B → Type 0) (r : Result A Why) (f : A → Result B Why) → Sound P r → ((x : A) → P x → Sound Q (f x)) → Sound Q (r >>= f)
bind_sound P Q (Ok x) f h g = g x h
bind_sound P Q (Err (By action)) f h g = tt
bind_sound P Q (Err Unfit) f h g = absurd h

live_sound : {A : Type 0} (P : A → Type 0) (s : Store) (b : ℕ) (r : Result A Why) → Sound P r → Sound P (while_live s b r)
live_sound P s b r h = if_sound P (is_live s b) r (Err (By EndedObject)) h tt

abbrev pub IsEither : Bool → Type 0
IsEither b = ⊤

-- a number wrapped into a type has its sign
pub placed_of : (s : Bool) (m r : ℕ) → IsOfSign s (placed s m r)
placed_of true m r = tt
placed_of false m r = tt

pub zero_of : (s : Bool) (n : ℕ) → IsOfSign s (pos n)
zero_of true n = tt
zero_of false n = tt

wrapped : (t : IntType) (z : ℤ) → IsOfSign (is_signed_of t) (wrap_of t z)
wrapped t z = placed_of (is_signed_of t) (modulus_of t) (residue (modulus_of t) z)

remainder_is : (a b : ℤ) → int_rem a b ≡ a -ℤ b *ℤ cut a b
remainder_is a b = rw (*ℤ_comm b (int_div a b)) (from_sum a (int_div a b *ℤ b) (int_rem a b) (quot-rem a b))
  where
    from_sum : (a x r : ℤ) → x +ℤ r ≡ a → r ≡ a -ℤ x
    from_sum a x r e = omega (arith, ints)

remainder_of_sign : (s : Bool) (a b : ℤ) → IsOfSign s a → IsOfSign s (a -ℤ b *ℤ cut a b)
remainder_of_sign true a b h = tt
remainder_of_sign false (pos n) b h = subst (IsOfSign false) (remainder_is (pos n) b) tt
remainder_of_sign false (negsuc n) b h = absurd h

floor_of_sign : (s : Bool) (a : ℤ) (m : ℕ) → IsOfSign s a → IsOfSign s (floor_of a m)
floor_of_sign true a m h = tt
floor_of_sign false (pos n) m h = tt
floor_of_sign false (negsuc n) m h = absurd h

module _ (D : ℕ → Type 0) where
  pub stands : (x : Kind) (v : Value) → Suits D x v → Stands D v
  stands x (Whole z) h = tt
  stands x Null h = tt
  stands x Opaque h = tt
  stands x NoValue h = tt
  stands (arithmetic s) (Place b o) h = absurd h
  stands pointing (Place b o) h = h
  stands naming (Place b o) h = h
  stands carrying (Place b o) h = absurd h
  stands free (Place b o) h = h
  stands carrying (Cells xs) h = h
  stands (arithmetic s) (Cells xs) h = absurd h
  stands pointing (Cells xs) h = absurd h
  stands naming (Cells xs) h = absurd h
  stands free (Cells xs) h = absurd h

  no_cells : (x : Kind) (xs : List Cell) → IsSimple x → Suits D x (Cells xs) → ⊥
  no_cells (arithmetic s) xs i h = absurd h
  no_cells pointing xs i h = absurd h
  no_cells naming xs i h = absurd h
  no_cells carrying xs i h = absurd i
  no_cells free xs i h = absurd h

  freed : (y : Kind) (v : Value) → IsSimple y → Suits D y v → Suits D free v
  freed y (Whole z) i h = tt
  freed y Null i h = tt
  freed y (Place b o) i h = stands y (Place b o) h
  freed y Opaque i h = tt
  freed y (Cells xs) i h = absurd (no_cells y xs i h)
  freed y NoValue i h = tt

  pub raise : (y x : Kind) (v : Value) → Below y x → Suits D y v → Suits D x v
  raise y free v b h = freed y v b h
  raise (arithmetic s) (arithmetic t) v b h = subst (λ (w : Bool). Suits D (arithmetic w) v) b h
  raise pointing pointing v b h = h
  raise naming naming v b h = h
  raise carrying carrying v b h = h
  raise free (arithmetic t) v b h = absurd b
  raise free pointing v b h = absurd b
  raise free naming v b h = absurd b
  raise free carrying v b h = absurd b
  raise (arithmetic s) pointing v b h = absurd b
  raise (arithmetic s) naming v b h = absurd b
  raise (arithmetic s) carrying v b h = absurd b
  raise pointing (arithmetic t) v b h = absurd b
  raise pointing naming v b h = absurd b
  raise pointing carrying v b h = absurd b
  raise naming (arithmetic t) v b h = absurd b
  raise naming pointing v b h = absurd b
  raise naming carrying v b h = absurd b
  raise carrying (arithmetic t) v b h = absurd b
  raise carrying pointing v b h = absurd b
  raise carrying naming v b h = absurd b

  pub place_points : (v : Value) → Suits D naming v → Suits D pointing v
  place_points (Place b o) h = h
  place_points (Whole z) h = absurd h
  place_points Null h = absurd h
  place_points (Cells xs) h = absurd h
  place_points Opaque h = absurd h
  place_points NoValue h = absurd h

  pub truth_sound : (s : Store) (x : Kind) (v : Value) → IsSimple x → Suits D x v → Sound IsEither (truth_of s v)
  truth_sound s x (Whole (pos zero)) i h = tt
  truth_sound s x (Whole (pos (suc n))) i h = tt
  truth_sound s x (Whole (negsuc n)) i h = tt
  truth_sound s x Null i h = tt
  truth_sound s x (Place b o) i h = live_sound IsEither s b (Ok true) tt
  truth_sound s x Opaque i h = tt
  truth_sound s x (Cells xs) i h = absurd (no_cells x xs i h)
  truth_sound s x NoValue i h = tt

  pub named_sound : (s : Store) (v : Value) → Suits D pointing v → Sound (Suits D naming) (named_by s v)
  named_sound s (Place b o) h = live_sound (Suits D naming) s b (Ok (Place b o)) h
  named_sound s Null h = tt
  named_sound s (Cells xs) h = absurd h
  named_sound s Opaque h = tt
  named_sound s NoValue h = tt
  named_sound s (Whole z) h = absurd h

  placed_sound : (s : Store) (b : ℕ) (z : ℤ) → D b → Sound (Suits D naming) (placed_at s b z)
  placed_sound s b (pos o) h = if_sound (Suits D naming) (nat_le o (block_size s b)) (Ok (Place b o)) (Err (By OffsetOutside)) h tt
  placed_sound s b (negsuc n) h = tt

  moved_to_place : (s : Store) (v : Value) (z : ℤ) → Suits D pointing v → Sound (Suits D naming) (moved s v z)
  moved_to_place s (Place b o) z h = live_sound (Suits D naming) s b (placed_at s b (pos o +ℤ z)) (placed_sound s b (pos o +ℤ z) h)
  moved_to_place s Null z h = tt
  moved_to_place s (Cells xs) z h = absurd h
  moved_to_place s Opaque z h = tt
  moved_to_place s NoValue z h = tt
  moved_to_place s (Whole x) z h = absurd h

  pub place_moved : (s : Store) (v : Value) (z : ℤ) → Suits D naming v → Sound (Suits D naming) (moved s v z)
  place_moved s v z h = moved_to_place s v z (place_points v h)

  pub pointer_moved : (s : Store) (v : Value) (z : ℤ) → Suits D pointing v → Sound (Suits D pointing) (moved s v z)
  pointer_moved s v z h = map_sound (Suits D naming) (Suits D pointing) (moved s v z) place_points (moved_to_place s v z h)

  pointer_suits : (z : ℤ) → Suits D pointing (pointer_of z)
  pointer_suits (pos zero) = tt
  pointer_suits (pos (suc n)) = tt
  pointer_suits (negsuc n) = tt

  pub converted_sound : (to : Shape) (x : Kind) (v : Value) → IsTarget to → IsSimple x → Suits D x v → Sound (Suits D (kind_in to)) (converted to v)
  converted_sound (Number t) x (Whole z) i n h = wrapped t z
  converted_sound (Number t) x Null i n h = zero_of (is_signed_of t) 0
  converted_sound (Number t) x (Place b o) i n h = tt
  converted_sound (Number t) x Opaque i n h = tt
  converted_sound (Number t) x (Cells xs) i n h = absurd (no_cells x xs n h)
  converted_sound (Number t) x NoValue i n h = tt
  converted_sound (Pointer size) x (Whole z) i n h = pointer_suits z
  converted_sound (Pointer size) x Null i n h = tt
  converted_sound (Pointer size) x (Place b o) i n h = stands x (Place b o) h
  converted_sound (Pointer size) x Opaque i n h = tt
  converted_sound (Pointer size) x (Cells xs) i n h = absurd (no_cells x xs n h)
  converted_sound (Pointer size) x NoValue i n h = tt
  converted_sound (Field t low width) x v i n h = absurd i
  converted_sound (Area size) x v i n h = tt

  simple_in : (f : Shape) → IsSimple (kind_in f)
  simple_in (Number t) = tt
  simple_in (Field t low width) = tt
  simple_in (Pointer size) = tt
  simple_in (Area size) = tt

  same_field : (s : Bool) (v : Value) → Suits D (arithmetic s) v → (t : IntType) (low width : ℕ) → Sound (Suits D (arithmetic s)) (converted (Field t low width) v)
  same_field s (Whole z) h t low width = h
  same_field s Opaque h t low width = tt
  same_field s NoValue h t low width = tt
  same_field s Null h t low width = absurd h
  same_field s (Cells xs) h t low width = absurd h
  same_field s (Place b o) h t low width = absurd h

  pub becomes_sound : (f to : Shape) (v : Value) → Becomes f to → Suits D (kind_in f) v → Sound (Suits D (kind_in to)) (converted to v)
  becomes_sound f (Number t) v b h = converted_sound (Number t) (kind_in f) v tt (simple_in f) h
  becomes_sound f (Pointer size) v b h = converted_sound (Pointer size) (kind_in f) v tt (simple_in f) h
  becomes_sound f (Field t low width) v b h = same_field (is_signed_of t) v (subst (λ (x : Kind). Suits D x v) b h) t low width
  becomes_sound f (Area size) v b h = absurd b

  -- ---- operators

  abbrev Counts : IntType → Option ℤ → Type 0
  Counts t None = ⊤
  Counts t (Some z) = IsOfSign (is_signed_of t) z

  or_sound : (t : IntType) (action : Action) (z : Option ℤ) → Counts t z → Sound (Suits D (arithmetic (is_signed_of t))) (number_or action z)
  or_sound t action (Some z) h = h
  or_sound t action None h = tt

  unless_counts : (t : IntType) (b z : ℤ) → IsOfSign (is_signed_of t) z → Counts t (unless_zero b z)
  unless_counts t (pos zero) z h = tt
  unless_counts t (pos (suc n)) z h = h
  unless_counts t (negsuc n) z h = h

  mapped : (t : IntType) (f : ℕ → ℤ) (m : Option ℕ) → ((n : ℕ) → IsOfSign (is_signed_of t) (f n)) → Counts t (option_map f m)
  mapped t f None h = tt
  mapped t f (Some n) h = h n

  abbrev In : BinaryOp → IntType → Value → Type 0
  In op t v = Suits D (kind_in (calculated_shape (compares op) t)) v

  calculated_sound : (op : BinaryOp) (t : IntType) (a b : ℤ) → IsOfSign (is_signed_of t) a → Sound (In op t) (calculated op t a b)
  calculated_sound Mul t a b h = wrapped t (a *ℤ b)
  calculated_sound Div t a b h = or_sound t DivisionByZero (quotient_of t a b) (unless_counts t b (wrap_of t (cut a b)) (wrapped t (cut a b)))
  calculated_sound Rem t a b h = or_sound t DivisionByZero (remainder_of a b) (unless_counts t b (a -ℤ b *ℤ cut a b) (remainder_of_sign (is_signed_of t) a b h))
  calculated_sound Add t a b h = wrapped t (a +ℤ b)
  calculated_sound Sub t a b h = wrapped t (a -ℤ b)
  calculated_sound Shl t a b h = or_sound t ShiftCount (shifted_left_of t a b) (mapped t (λ c. wrap_of t (a *ℤ pos (2 ^ c))) (count_of t b) (λ c. wrapped t (a *ℤ pos (2 ^ c))))
  calculated_sound Shr t a b h = or_sound t ShiftCount (shifted_right_of t a b) (mapped t (λ c. floor_of a (2 ^ c)) (count_of t b) (λ c. floor_of_sign (is_signed_of t) a (2 ^ c) h))
  calculated_sound Lt t a b h = tt
  calculated_sound Gt t a b h = tt
  calculated_sound Le t a b h = tt
  calculated_sound Ge t a b h = tt
  calculated_sound Eq t a b h = tt
  calculated_sound Ne t a b h = tt
  calculated_sound BitAnd t a b h = wrapped t (pos (bit_and (residue (modulus_of t) a) (residue (modulus_of t) b)))
  calculated_sound BitXor t a b h = wrapped t (pos (bit_xor (residue (modulus_of t) a) (residue (modulus_of t) b)))
  calculated_sound BitOr t a b h = wrapped t (pos (bit_or (residue (modulus_of t) a) (residue (modulus_of t) b)))

  apart_sound : (op : BinaryOp) → IsTrue (meets op) → Sound (Suits D (arithmetic true)) (apart op)
  apart_sound Sub m = tt
  apart_sound Lt m = tt
  apart_sound Gt m = tt
  apart_sound Le m = tt
  apart_sound Ge m = tt
  apart_sound Eq m = tt
  apart_sound Ne m = tt
  apart_sound _ m = absurd (cc)

  null_sound : (op : BinaryOp) → IsTrue (meets op) → Sound (Suits D (arithmetic true)) (both_null op)
  null_sound Sub m = tt
  null_sound Lt m = tt
  null_sound Gt m = tt
  null_sound Le m = tt
  null_sound Ge m = tt
  null_sound Eq m = tt
  null_sound Ne m = tt
  null_sound _ m = absurd (cc)

  two_sound : (op : BinaryOp) (t : Bool) → IsTrue (meets op) → Sound (Suits D (arithmetic true)) (in_two_blocks op t)
  two_sound Sub t m = tt
  two_sound Lt t m = tt
  two_sound Gt t m = tt
  two_sound Le t m = tt
  two_sound Ge t m = tt
  two_sound Eq true m = tt
  two_sound Eq false m = tt
  two_sound Ne true m = tt
  two_sound Ne false m = tt
  two_sound _ t m = absurd (cc)

  between_sound : (size : ℕ) (d : ℤ) → Sound (Suits D (arithmetic true)) (elements_between size d)
  between_sound size d = if_sound (Suits D (arithmetic true)) (nat_le (unsigned_abs d) 32767) (Ok (Whole (int_div d (pos size)))) (Err (By PointersApart)) tt tt

  block_sound : (op : BinaryOp) (size o p : ℕ) → IsTrue (meets op) → Sound (Suits D (arithmetic true)) (in_one_block op size o p)
  block_sound Sub size o p m = between_sound size (pos o -ℤ pos p)
  block_sound Lt size o p m = tt
  block_sound Gt size o p m = tt
  block_sound Le size o p m = tt
  block_sound Ge size o p m = tt
  block_sound Eq size o p m = tt
  block_sound Ne size o p m = tt
  block_sound _ size o p m = absurd (cc)

  places_sound : (s : Store) (op : BinaryOp) (size b o c p : ℕ) → IsTrue (meets op) → Sound (Suits D (arithmetic true)) (on_places s op size b o c p)
  places_sound s op size b o c p m = if_sound (Suits D (arithmetic true)) (b == c) (in_one_block op size o p) (in_two_blocks op (may_meet s b o c p)) (block_sound op size o p m) (two_sound op (may_meet s b o c p) m)

  pointers_sound : (s : Store) (op : BinaryOp) (size : ℕ) (v w : Value) → IsTrue (meets op) → Suits D pointing v → Suits D pointing w → Sound (Suits D (arithmetic true)) (on_pointers s op size v w)
  pointers_sound s op size (Place b o) (Place c p) m h g = live_sound (Suits D (arithmetic true)) s b (while_live s c (on_places s op size b o c p)) (live_sound (Suits D (arithmetic true)) s c (on_places s op size b o c p) (places_sound s op size b o c p m))
  pointers_sound s op size (Place b o) Null m h g = live_sound (Suits D (arithmetic true)) s b (apart op) (apart_sound op m)
  pointers_sound s op size Null (Place b o) m h g = live_sound (Suits D (arithmetic true)) s b (apart op) (apart_sound op m)
  pointers_sound s op size Null Null m h g = null_sound op m
  pointers_sound s op size (Place b o) Opaque m h g = tt
  pointers_sound s op size (Place b o) NoValue m h g = tt
  pointers_sound s op size Null Opaque m h g = tt
  pointers_sound s op size Null NoValue m h g = tt
  pointers_sound s op size Opaque w m h g = tt
  pointers_sound s op size NoValue w m h g = tt
  pointers_sound s op size (Whole z) w m h g = absurd h
  pointers_sound s op size (Cells xs) w m h g = absurd h
  pointers_sound s op size (Place b o) (Whole z) m h g = absurd g
  pointers_sound s op size (Place b o) (Cells xs) m h g = absurd g
  pointers_sound s op size Null (Whole z) m h g = absurd g
  pointers_sound s op size Null (Cells xs) m h g = absurd g

  add_sound : (s : Store) (op : BinaryOp) (size : ℕ) (v : Value) (z : ℤ) → IsTrue (is_move op) → Suits D pointing v → Sound (Suits D pointing) (on_pointer_and_number s op size v z)
  add_sound s Add size v z m h = pointer_moved s v (pos size *ℤ z) h
  add_sound s Sub size v z m h = pointer_moved s v (neg_ℤ (pos size *ℤ z)) h
  add_sound s _ size v z m h = absurd (cc)

  add_last : (s : Store) (op : BinaryOp) (size : ℕ) (v : Value) (z : ℤ) → IsTrue (is_add op) → Suits D pointing v → Sound (Suits D pointing) (on_number_and_pointer s op size z v)
  add_last s Add size v z m h = pointer_moved s v (pos size *ℤ z) h
  add_last s _ size v z m h = absurd (cc)

  numbers_sound : (s : Store) (op : BinaryOp) (t r : IntType) (v w : Value) → Suits D (arithmetic (is_signed_of t)) v → Suits D (arithmetic (is_signed_of r)) w → Sound (In op t) (binary s op (Number t) (Number r) v w)
  numbers_sound s op t r (Whole a) (Whole b) h g = calculated_sound op t a b h
  numbers_sound s op t r (Whole a) Opaque h g = tt
  numbers_sound s op t r (Whole a) NoValue h g = tt
  numbers_sound s op t r Opaque w h g = tt
  numbers_sound s op t r NoValue w h g = tt
  numbers_sound s op t r (Whole a) Null h g = absurd g
  numbers_sound s op t r (Whole a) (Cells xs) h g = absurd g
  numbers_sound s op t r (Whole a) (Place b o) h g = absurd g
  numbers_sound s op t r Null w h g = absurd h
  numbers_sound s op t r (Cells xs) w h g = absurd h
  numbers_sound s op t r (Place b o) w h g = absurd h

  first_sound : (s : Store) (op : BinaryOp) (size : ℕ) (r : IntType) (v w : Value) → IsTrue (is_move op) → Suits D pointing v → Suits D (arithmetic (is_signed_of r)) w → Sound (Suits D pointing) (binary s op (Pointer size) (Number r) v w)
  first_sound s op size r v (Whole z) m h g = add_sound s op size v z m h
  first_sound s op size r (Place b o) Opaque m h g = tt
  first_sound s op size r Null Opaque m h g = tt
  first_sound s op size r Opaque Opaque m h g = tt
  first_sound s op size r NoValue Opaque m h g = tt
  first_sound s op size r (Place b o) NoValue m h g = tt
  first_sound s op size r Null NoValue m h g = tt
  first_sound s op size r Opaque NoValue m h g = tt
  first_sound s op size r NoValue NoValue m h g = tt
  first_sound s op size r (Whole z) Opaque m h g = absurd h
  first_sound s op size r (Cells xs) Opaque m h g = absurd h
  first_sound s op size r (Whole z) NoValue m h g = absurd h
  first_sound s op size r (Cells xs) NoValue m h g = absurd h
  first_sound s op size r v Null m h g = absurd g
  first_sound s op size r v (Cells xs) m h g = absurd g
  first_sound s op size r v (Place b o) m h g = absurd g

  last_sound : (s : Store) (op : BinaryOp) (size : ℕ) (t : IntType) (v w : Value) → IsTrue (is_add op) → Suits D (arithmetic (is_signed_of t)) v → Suits D pointing w → Sound (Suits D pointing) (binary s op (Number t) (Pointer size) v w)
  last_sound s op size t (Whole z) w m h g = add_last s op size w z m g
  last_sound s op size t Opaque w m h g = tt
  last_sound s op size t NoValue w m h g = tt
  last_sound s op size t Null w m h g = absurd h
  last_sound s op size t (Cells xs) w m h g = absurd h
  last_sound s op size t (Place b o) w m h g = absurd h

  pub binary_sound : (s : Store) (op : BinaryOp) (l r : Shape) (v w : Value) → Combines op l r → Suits D (kind_in l) v → Suits D (kind_in r) w → Sound (Suits D (joined op l r)) (binary s op l r v w)
  binary_sound s op (Number t) (Number r) v w m h g = numbers_sound s op t r v w h g
  binary_sound s op (Pointer size) (Number r) v w m h g = first_sound s op size r v w m h g
  binary_sound s op (Number t) (Pointer size) v w m h g = last_sound s op size t v w m h g
  binary_sound s op (Pointer size) (Pointer other) v w m h g = pointers_sound s op size v w m h g
  binary_sound s op (Number t) (Field i low width) v w m h g = absurd m
  binary_sound s op (Number t) (Area size) v w m h g = absurd m
  binary_sound s op (Pointer size) (Field i low width) v w m h g = absurd m
  binary_sound s op (Pointer size) (Area other) v w m h g = absurd m
  binary_sound s op (Field i low width) r v w m h g = absurd m
  binary_sound s op (Area size) r v w m h g = absurd m

  not_sound : (s : Store) (f : Shape) (x : Kind) (v : Value) → IsSimple x → Suits D x v → Sound (Suits D (arithmetic true)) (unary s Not f v)
  not_sound s f x v i h = bind_sound IsEither (Suits D (arithmetic true)) (truth_of s v) (λ b. Ok (Whole (truth (not b)))) (truth_sound s x v i h) (λ b g. tt)

  neg_sound : (s : Store) (t : IntType) (n : Bool) (v : Value) → Suits D (arithmetic n) v → Sound (Suits D (arithmetic (is_signed_of t))) (unary s Neg (Number t) v)
  neg_sound s t n (Whole z) h = wrapped t (neg_ℤ z)
  neg_sound s t n Opaque h = tt
  neg_sound s t n NoValue h = tt
  neg_sound s t n Null h = absurd h
  neg_sound s t n (Cells xs) h = absurd h
  neg_sound s t n (Place b o) h = absurd h

  bits_sound : (s : Store) (t : IntType) (n : Bool) (v : Value) → Suits D (arithmetic n) v → Sound (Suits D (arithmetic (is_signed_of t))) (unary s BitNot (Number t) v)
  bits_sound s t n (Whole z) h = wrapped t (neg_ℤ z -ℤ pos 1)
  bits_sound s t n Opaque h = tt
  bits_sound s t n NoValue h = tt
  bits_sound s t n Null h = absurd h
  bits_sound s t n (Cells xs) h = absurd h
  bits_sound s t n (Place b o) h = absurd h

  pub unary_sound : (s : Store) (op : UnaryOp) (f : Shape) (x : Kind) (v : Value) → Operates op f x → Suits D x v → Sound (Suits D (turned_kind op f)) (unary s op f v)
  unary_sound s Neg (Number t) (arithmetic n) v m h = neg_sound s t n v h
  unary_sound s BitNot (Number t) (arithmetic n) v m h = bits_sound s t n v h
  unary_sound s Not f x v m h = not_sound s f x v m h
  unary_sound s _ f x v m h = absurd m

  number_bumped : (s : Store) (kind : StepKind) (t : IntType) (v : Value) → Suits D (arithmetic (is_signed_of t)) v → Sound (Suits D (arithmetic (is_signed_of t))) (bumped s kind (Number t) v)
  number_bumped s kind t (Whole z) h = wrapped t (z +ℤ sign_of kind)
  number_bumped s kind t Opaque h = tt
  number_bumped s kind t NoValue h = tt
  number_bumped s kind t Null h = absurd h
  number_bumped s kind t (Cells xs) h = absurd h
  number_bumped s kind t (Place b o) h = absurd h

  field_bumped : (s : Store) (kind : StepKind) (t : IntType) (low width : ℕ) (v : Value) → Suits D (arithmetic (is_signed_of t)) v → Sound (Suits D (arithmetic (is_signed_of t))) (bumped s kind (Field t low width) v)
  field_bumped s kind t low width (Whole z) h = wrapped t (z +ℤ sign_of kind)
  field_bumped s kind t low width Opaque h = tt
  field_bumped s kind t low width NoValue h = tt
  field_bumped s kind t low width Null h = absurd h
  field_bumped s kind t low width (Cells xs) h = absurd h
  field_bumped s kind t low width (Place b o) h = absurd h

  pub bumped_sound : (s : Store) (kind : StepKind) (f : Shape) (v : Value) → IsScalarShape f → Suits D (kind_in f) v → Sound (Suits D (kind_in f)) (bumped s kind f v)
  bumped_sound s kind (Number t) v i h = number_bumped s kind t v h
  bumped_sound s kind (Field t low width) v i h = field_bumped s kind t low width v h
  bumped_sound s kind (Pointer size) v i h = pointer_moved s v (pos size *ℤ sign_of kind) h
  bumped_sound s kind (Area size) v i h = absurd i
