-- How many bytes the blocks of objects and literals have.
use Rattle.std.proofs.Common.{◌≡◌, ℕ, ◌+◌, ◌-◌, ◌<◌, List, [], ◌∷◌, ◌++◌, Option, Some, None, Bool, true, false, refl, ap, ◌∙◌, arith, length-append}
use Rattle.std.specs.Prelude.{nat_lt, if◌then◌else◌, length, slice_get}
use Rattle.c65_csem.specs.Trees.{ObjectTy, UnitTy}
use Rattle.c65_meaning.specs.Store.{Block, Store, function_block, size_in_store, block_size}
use Rattle.c65_meaning.specs.Shapes.{object_size, object_sealed, lives_in_frame, object_in, literal_block, object_block}
use Rattle.c65_meaning.specs.Start.{literal_in, cells_of, static_block, initial_store}
use Rattle.c65_agree_state.specs.Sizes.{HaveSizes}
use Rattle.c65_agree_numbers.proofs.Tests.{less, not_less}
use Rattle.c65_agree_direct.proofs.Spots.{item_below}

module _ (u : UnitTy) where
  abbrev store_by : Bool → Bool → ℕ → Option Block
  store_by low middle b = if low then Some function_block else (if middle then literal_in (slice_get u.literals (b - literal_block u 0)) else static_block u (object_in u (b - object_block u 0)))

  store_is : (b : ℕ) (low middle : Bool) → nat_lt b (literal_block u 0) ≡ low → nat_lt b (object_block u 0) ≡ middle → initial_store u b ≡ store_by low middle b
  store_is b low middle e f = ap (λ x. store_by x (nat_lt b (object_block u 0)) b) e ∙ ap (λ y. store_by low y b) f

  literal_stored : (l : ℕ) → l < length u.literals → initial_store u (literal_block u l) ≡ literal_in (slice_get u.literals l)
  literal_stored l lt =
      let b = literal_block u l in
      let back : b - literal_block u 0 ≡ l = omega arith in
      store_is b false true (not_less b (literal_block u 0) (omega arith)) (less b (object_block u 0) (omega (arith, lt))) ∙ ap (λ i. literal_in (slice_get u.literals i)) back

  object_stored : (i : ℕ) → initial_store u (object_block u i) ≡ static_block u (object_in u i)
  object_stored i =
      let b = object_block u i in
      let back : b - object_block u 0 ≡ i = omega arith in
      store_is b false false (not_less b (literal_block u 0) (omega arith)) (not_less b (object_block u 0) (omega arith)) ∙ ap (λ j. static_block u (object_in u j)) back

  static_size : (o : Option ObjectTy) → lives_in_frame o ≡ false → size_in_store (static_block u o) ≡ object_size u.types o
  static_size None lasts = refl
  static_size (Some x) lasts = ap (λ (b : Bool). size_in_store (if b then None else Some (record { size = object_size u.types (Some x); holds = object_size u.types (Some x); live = true; sealed = object_sealed (Some x); cells = cells_of u x.init }))) lasts

  module _ (s : Store) (next : ℕ) (h : HaveSizes u s next) where
    -- a literal has its closing zero
    pub literal_has : (l : ℕ) (text : List ℕ) → slice_get u.literals l ≡ Some text → block_size s (literal_block u l) ≡ length text + 1
    literal_has l text is =
        let lt : l < length u.literals = item_below u.literals l text is in
        let size : length (text ++ (0 ∷ [])) ≡ length text + 1 = omega (arith, length-append text (0 ∷ [])) in
        h.sizes (literal_block u l) (omega (arith, lt)) ∙ (ap size_in_store (literal_stored l lt ∙ ap literal_in is) ∙ size)

    pub object_has : (i : ℕ) → lives_in_frame (object_in u i) ≡ false → i < length u.objects → block_size s (object_block u i) ≡ object_size u.types (object_in u i)
    object_has i lasts lt = h.sizes (object_block u i) (omega (arith, lt)) ∙ (ap size_in_store (object_stored i) ∙ static_size (object_in u i) lasts)
