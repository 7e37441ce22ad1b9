-- The first store of a program.
use Rattle.std.proofs.Common.{◌≡◌, ℕ, zero, suc, ◌-◌, ◌<◌, Bool, true, false, List, [], ◌∷◌, ◌++◌, Option, Some, None, refl, sym, subst, arith}
use Rattle.std.specs.Prelude.{IsSome, length, nat_lt, slice_get, if◌then◌else◌}
use Rattle.c65_csem.specs.declared.items.Cell.{Cell as InitialCell}
use Rattle.c65_csem.specs.declared.items.Cell.TheVariants.{Byte, Piece as InitialPiece}
use Rattle.c65_csem.specs.declared.items.Target.{Target}
use Rattle.c65_csem.specs.declared.items.Target.TheVariants as T
use Rattle.c65_csem.specs.Trees.{ObjectTy, UnitTy}
use Rattle.c65_meaning.specs.Store.{Block, function_block}
use Rattle.c65_meaning.specs.Shapes.{object_in, lives_in_frame, literal_block, object_block}
use Rattle.c65_meaning.specs.Start.{bytes_at, literal_in, initial_cell, cells_of, static_block, target_block, initial_store}
use Rattle.c65_meaning_law.specs.Laws.{IsClosed}
use Rattle.c65_csem_names.specs.Initial.{IsOfWholeRun, PointsToWholeRun, HasStaticPointers}
use Rattle.c65_meaning_law.specs.Programs.{InitialStoreFits}
use Rattle.c65_meaning_law.proofs.Stacks.{CellFits, CellsFit}

below : {A : Type 0} (xs : List A) (n : ℕ) → IsSome (slice_get xs n) → n < length xs
below {A} [] n h = absurd (cc)
below {A} (x ∷ xs) zero h = omega arith
below {A} (x ∷ xs) (suc n) h = let less = below xs n h in omega (arith, less)

first_is : (t : Bool) (m k : Option Block) → t ≡ true → IsSome m → IsSome (if t then m else k)
first_is true m k e h = h
first_is false m k e h = absurd (cc)

second_is : (t : Bool) (m k : Option Block) → t ≡ false → IsSome k → IsSome (if t then m else k)
second_is true m k e h = absurd (cc)
second_is false m k e h = h

literal_is : (m : Option (List ℕ)) → IsSome m → IsSome (literal_in m)
literal_is None h = absurd (cc)
literal_is (Some text) h = refl

module _ (u : UnitTy) where
  static_is : (m : Option ObjectTy) → IsSome m → lives_in_frame m ≡ false → IsSome (static_block u m)
  static_is None h e = absurd (cc)
  static_is (Some x) h e = rw e refl

  less : (a b : ℕ) → a < b → nat_lt a b ≡ true
  less a b h = grind arith

  not_less : (a b : ℕ) → (a < b → ⊥) → nat_lt a b ≡ false
  not_less a b h = grind arith

  func_there : (f : ℕ) → IsSome (slice_get u.funcs f) → IsSome (initial_store u f)
  func_there f h =
      let l = below u.funcs f h in
      first_is (nat_lt f (literal_block u 0)) _ _ (less f (literal_block u 0) (omega (arith, l))) refl

  literal_there : (l : ℕ) → IsSome (slice_get u.literals l) → IsSome (initial_store u (literal_block u l))
  literal_there l h =
      let few = below u.literals l h in
      let back : literal_block u l - literal_block u 0 ≡ l = omega arith in
      second_is (nat_lt (literal_block u l) (literal_block u 0)) _ _ (not_less (literal_block u l) (literal_block u 0) (λ x. omega (arith, x)))
      (first_is (nat_lt (literal_block u l) (object_block u 0)) _ _ (less (literal_block u l) (object_block u 0) (omega (arith, few)))
      (literal_is (slice_get u.literals (literal_block u l - literal_block u 0)) (subst (λ (n : ℕ). IsSome (slice_get u.literals n)) (sym back) h)))

  object_there : (i : ℕ) → IsSome (object_in u i) → lives_in_frame (object_in u i) ≡ false → IsSome (initial_store u (object_block u i))
  object_there i h e =
      let back : object_block u i - object_block u 0 ≡ i = omega arith in
      second_is (nat_lt (object_block u i) (literal_block u 0)) _ _ (not_less (object_block u i) (literal_block u 0) (λ x. omega (arith, x)))
      (second_is (nat_lt (object_block u i) (object_block u 0)) _ _ (not_less (object_block u i) (object_block u 0) (λ x. omega (arith, x)))
      (subst (λ (n : ℕ). IsSome (static_block u (object_in u n))) (sym back) (static_is (object_in u i) h e)))

  abbrev D : ℕ → Type 0
  D b = IsSome (initial_store u b)

  abbrev Fit : Option Block → Type 0
  Fit m = (x : Block) → m ≡ Some x → CellsFit D x.cells

  either_fits : (t : Bool) (m k : Option Block) → Fit m → Fit k → Fit (if t then m else k)
  either_fits true m k h g = h
  either_fits false m k h g = g

  this_fits : (y : Block) → CellsFit D y.cells → Fit (Some y)
  this_fits y h x e = let same : y ≡ x = cc in subst (λ (z : Block). CellsFit D z.cells) same h

  text_fits : (bytes : List ℕ) → CellsFit D (bytes_at bytes)
  text_fits [] q = tt
  text_fits (b ∷ rest) zero = tt
  text_fits (b ∷ rest) (suc q) = text_fits rest q

  literal_fits : (m : Option (List ℕ)) → Fit (literal_in m)
  literal_fits None x e = absurd (cc)
  literal_fits (Some text) x e = this_fits _ (text_fits (text ++ 0 ∷ [])) x e

  target_there : (t : Target) → IsOfWholeRun u t → D (target_block u t)
  target_there (T.Object i) h = object_there i h.0 h.1
  target_there (T.Literal l) h = literal_there l h
  target_there (T.Func f) h = func_there f h

  cell_fits : (m : Option InitialCell) → ((x : InitialCell) → m ≡ Some x → PointsToWholeRun u x) → CellFits D (initial_cell u m)
  cell_fits None h = tt
  cell_fits (Some (Byte b)) h = tt
  cell_fits (Some (InitialPiece target o i)) h = target_there target (h (InitialPiece target o i) refl)

  init_fits : (m : Option (List InitialCell)) → ((cells : List InitialCell) (n : ℕ) (x : InitialCell) → m ≡ Some cells → slice_get cells n ≡ Some x → PointsToWholeRun u x) → CellsFit D (cells_of u m)
  init_fits None h q = tt
  init_fits (Some cells) h q = cell_fits (slice_get cells q) (λ x e. h cells q x refl e)

  none_fits : Fit None
  none_fits x e = absurd (cc)

  static_fits : (i : ℕ) (m : Option ObjectTy) → object_in u i ≡ m → HasStaticPointers u → Fit (static_block u m)
  static_fits i None e h x f = absurd (cc)
  static_fits i (Some o) e h x f = either_fits (lives_in_frame (Some o)) None _ none_fits (this_fits _ (init_fits o.init (λ cells n y g j. h i n o cells y e g j))) x f

  fits : HasStaticPointers u → (b : ℕ) → Fit (initial_store u b)
  fits h b = either_fits (nat_lt b (literal_block u 0)) (Some function_block) _ (this_fits function_block (λ q. tt))
      (either_fits (nat_lt b (object_block u 0)) _ _ (literal_fits (slice_get u.literals (b - literal_block u 0))) (static_fits (b - object_block u 0) (object_in u (b - object_block u 0)) refl h))

  closed : HasStaticPointers u → IsClosed (initial_store u)
  closed h b x q i d o e f = subst (CellFits D) f (fits h b x e q)

pub initial_store_fits : InitialStoreFits
initial_store_fits u = (record { funcs = func_there u; literals = literal_there u; objects = object_there u }, closed u)
