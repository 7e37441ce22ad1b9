-- Memory that names only blocks that there are stays so, and reading it gives values of the shape's kind.
use Rattle.std.proofs.Common.{◌≡◌, ℕ, zero, suc, ◌+◌, ◌-◌, ◌*◌, ◌/◌, ◌%◌, ◌^◌, Bool, true, false, List, [], ◌∷◌, ◌++◌, Option, Some, None, refl, subst}
use Rattle.std.specs.Prelude.{◌==◌, Ok, Err, IsSome, nat_le, nat_lt, if◌then◌else◌}
use Rattle.c65_ints.specs.Ranges.{width_of, is_signed_of, residue}
use Rattle.c65_ctype.specs.Sizes.{bytes_of}
use Rattle.c65_meaning.specs.declared.action.Action.TheVariants.{OutsideObject, ReadOnly, EndedObject}
use Rattle.c65_meaning.specs.Why.{By}
use Rattle.c65_meaning.specs.Store.{Cell, Bits, Piece, Clouded, Block, Store, Value, Whole, Null, Place, Opaque, Cells, NoValue, Shape, Number, Field, Pointer, Area, size_in, set_block, set_cells, Gathered, Lacking, Hidden, Found, gather, gathered, gathered_field, moved_down, mask_of, as_number, as_pointer, are_of_one, read_pair, read_cells, reached, reached_to_write, read, cells_at, packed, nth_cell, cell_of, with_bits, cloud_over, field_cell, new_cells, with_value, writable, write, with_cell, put_cell, carry}
use Rattle.c65_meaning_law.proofs.Stacks.{arithmetic, pointing, carrying, kind_in, IsScalarShape, Sound, Stands, Suits, CellFits, CellsFit, StoreFits}
use Rattle.c65_meaning_law.proofs.Values.{if_sound, bind_sound, placed_of}

module _ (D : ℕ → Type 0) where
  abbrev pub BlockFits : Block → Type 0
  BlockFits x = CellsFit D x.cells

  -- ---- reading

  number_sound : (sign : Bool) (width : ℕ) (g : Gathered) → Sound (Suits D (arithmetic sign)) (as_number sign width g)
  number_sound sign width Lacking = tt
  number_sound sign width Hidden = tt
  number_sound sign width (Found n) = placed_of sign (2 ^ width) n

  pointer_sound : (g : Gathered) → Sound (Suits D pointing) (as_pointer g)
  pointer_sound Lacking = tt
  pointer_sound Hidden = tt
  pointer_sound (Found zero) = tt
  pointer_sound (Found (suc n)) = tt

  pair_sound : (x y : Cell) → CellFits D x → Sound (Suits D pointing) (read_pair x y)
  pair_sound (Piece i b o) (Piece j c p) h = if_sound (Suits D pointing) (are_of_one i b o j c p) (Ok (Place b o)) (Ok Opaque) h tt
  pair_sound (Piece i b o) (Bits known value) h = pointer_sound (gather (Piece i b o) (gather (Bits known value) (Found 0)))
  pair_sound (Piece i b o) Clouded h = pointer_sound (gather (Piece i b o) (gather Clouded (Found 0)))
  pair_sound (Bits known value) y h = pointer_sound (gather (Bits known value) (gather y (Found 0)))
  pair_sound Clouded y h = pointer_sound (gather Clouded (gather y (Found 0)))

  cells_sound : (f : Shape) (cells : ℕ → Cell) (o : ℕ) → IsScalarShape f → CellsFit D cells → Sound (Suits D (kind_in f)) (read_cells f cells o)
  cells_sound (Number t) cells o i h = number_sound (is_signed_of t) (width_of t) (gathered (bytes_of t) cells o)
  cells_sound (Field t low width) cells o i h = number_sound (is_signed_of t) width (moved_down low (gathered_field (mask_of low width) cells o))
  cells_sound (Pointer size) cells o i h = pair_sound (cells o) (cells (suc o)) (h o)
  cells_sound (Area size) cells o i h = absurd i

  reached_sound : (m : Option Block) (o n : ℕ) → IsSome m → ((x : Block) → m ≡ Some x → BlockFits x) → Sound BlockFits (reached m o n)
  reached_sound None o n i h = absurd (cc)
  reached_sound (Some x) o n i h = if_sound BlockFits x.live (if nat_le (o + n) x.holds then Ok x else Err (By OutsideObject)) (Err (By EndedObject)) (if_sound BlockFits (nat_le (o + n) x.holds) (Ok x) (Err (By OutsideObject)) (h x refl) tt) tt

  pub reaches : (s : Store) (b o n : ℕ) → StoreFits D s → D b → Sound BlockFits (reached (s b) o n)
  reaches s b o n h d = reached_sound (s b) o n (h.there b d) (h.all b)

  pub read_sound : (f : Shape) (s : Store) (b o : ℕ) → IsScalarShape f → StoreFits D s → D b → Sound (Suits D (kind_in f)) (read f s b o)
  read_sound f s b o i h d = bind_sound BlockFits (Suits D (kind_in f)) (reached (s b) o (size_in f)) (λ x. read_cells f x.cells o) (reaches s b o (size_in f) h d) (λ x g. cells_sound f x.cells o i g)

  -- ---- cells carried along

  -- the n cells from o on, and two lists of cells
  pub at_fits : (n : ℕ) (cells : ℕ → Cell) (o : ℕ) → CellsFit D cells → CellsFit D (nth_cell (cells_at n cells o))
  at_fits zero cells o h q = tt
  at_fits (suc n) cells o h zero = h o
  at_fits (suc n) cells o h (suc q) = at_fits n cells (suc o) h q

  pub joined_fit : (xs ys : List Cell) → CellsFit D (nth_cell xs) → CellsFit D (nth_cell ys) → CellsFit D (nth_cell (xs ++ ys))
  joined_fit [] ys h g q = g q
  joined_fit (x ∷ xs) ys h g zero = h 0
  joined_fit (x ∷ xs) ys h g (suc q) = joined_fit xs ys (λ i. h (suc i)) g q

  pub packed_sound : (n : ℕ) (s : Store) (b o : ℕ) → StoreFits D s → D b → Sound (Suits D carrying) (packed n s b o)
  packed_sound n s b o h d = bind_sound BlockFits (Suits D carrying) (reached (s b) o n) (λ x. Ok (Cells (cells_at n x.cells o))) (reaches s b o n h d) (λ x g. at_fits n x.cells o g)

  -- ---- writing

  bits_fit : (m bits : ℕ) (x : Cell) → CellFits D x → CellFits D (with_bits m bits x)
  bits_fit zero bits x h = h
  bits_fit (suc m) bits (Bits known value) h = tt
  bits_fit (suc m) bits (Piece i b o) h = tt
  bits_fit (suc m) bits Clouded h = tt

  cloud_fits : (m : ℕ) (x : Cell) → CellFits D x → CellFits D (cloud_over m x)
  cloud_fits zero x h = h
  cloud_fits (suc m) x h = tt

  pub cell_fits : (v : Value) → Stands D v → CellsFit D (cell_of v)
  cell_fits (Cells xs) h q = h q
  cell_fits (Whole z) h q = tt
  cell_fits Null h q = tt
  cell_fits (Place b o) h q = h
  cell_fits Opaque h q = tt
  cell_fits NoValue h q = tt

  field_fits : (mask low width : ℕ) (v : Value) (x y : Cell) → CellFits D x → CellFits D y → CellsFit D (field_cell mask low width v x y)
  field_fits mask low width (Whole z) x y h g zero = bits_fit (mask % 256) (residue (2 ^ width) z * 2 ^ low % 256) x h
  field_fits mask low width (Whole z) x y h g (suc i) = bits_fit (mask / 256) (residue (2 ^ width) z * 2 ^ low / 256) y g
  field_fits mask low width Null x y h g zero = cloud_fits (mask % 256) x h
  field_fits mask low width Null x y h g (suc i) = cloud_fits (mask / 256) y g
  field_fits mask low width (Place b o) x y h g zero = cloud_fits (mask % 256) x h
  field_fits mask low width (Place b o) x y h g (suc i) = cloud_fits (mask / 256) y g
  field_fits mask low width Opaque x y h g zero = cloud_fits (mask % 256) x h
  field_fits mask low width Opaque x y h g (suc i) = cloud_fits (mask / 256) y g
  field_fits mask low width (Cells xs) x y h g zero = cloud_fits (mask % 256) x h
  field_fits mask low width (Cells xs) x y h g (suc i) = cloud_fits (mask / 256) y g
  field_fits mask low width NoValue x y h g zero = cloud_fits (mask % 256) x h
  field_fits mask low width NoValue x y h g (suc i) = cloud_fits (mask / 256) y g

  new_fits : (f : Shape) (v : Value) (cells : ℕ → Cell) (o : ℕ) → Stands D v → CellsFit D cells → CellsFit D (new_cells f v cells o)
  new_fits (Number t) v cells o h g = cell_fits v h
  new_fits (Field t low width) v cells o h g = field_fits (mask_of low width) low width v (cells o) (cells (suc o)) (g o) (g (suc o))
  new_fits (Pointer size) v cells o h g = cell_fits v h
  new_fits (Area size) v cells o h g = cell_fits v h

  either_fits : (t : Bool) (x y : Cell) → CellFits D x → CellFits D y → CellFits D (if t then x else y)
  either_fits true x y h g = h
  either_fits false x y h g = g

  pub set_fits : (cells : ℕ → Cell) (o n : ℕ) (new : ℕ → Cell) → CellsFit D cells → CellsFit D new → CellsFit D (set_cells cells o n new)
  set_fits cells o n new h g q = either_fits (nat_lt q o) (cells q) (if nat_lt (q - o) n then new (q - o) else cells q) (h q) (either_fits (nat_lt (q - o) n) (new (q - o)) (cells q) (g (q - o)) (h q))

  pub writable_sound : (first : Bool) (x : Block) → BlockFits x → Sound BlockFits (writable first x)
  writable_sound true x h = h
  writable_sound false x h = if_sound BlockFits x.sealed (Err (By ReadOnly)) (Ok x) tt h

  to_write : (first : Bool) (s : Store) (b o n : ℕ) → StoreFits D s → D b → Sound BlockFits (reached_to_write first (s b) o n)
  to_write first s b o n h d = bind_sound BlockFits BlockFits (reached (s b) o n) (writable first) (reaches s b o n h d) (writable_sound first)

  pub block_set : (s : Store) (b : ℕ) (x : Block) → StoreFits D s → BlockFits x → StoreFits D (set_block s b x)
  block_set s b x h g = record { there = λ c d. there (c == b) (s c) (h.there c d); all = λ c y e. all (c == b) (s c) y (h.all c y) e }
    where
      there : (t : Bool) (m : Option Block) → IsSome m → IsSome (if t then Some x else m)
      there true m i = refl
      there false m i = i

      all : (t : Bool) (m : Option Block) (y : Block) → (m ≡ Some y → BlockFits y) → (if t then Some x else m) ≡ Some y → BlockFits y
      all true m y i e = let same : x ≡ y = cc in subst BlockFits same g
      all false m y i e = i e

  pub write_sound : (first : Bool) (f : Shape) (s : Store) (b o : ℕ) (v : Value) → StoreFits D s → D b → Stands D v → Sound (StoreFits D) (write first f s b o v)
  write_sound first f s b o v h d i = bind_sound BlockFits (StoreFits D) (reached_to_write first (s b) o (size_in f)) (λ x. Ok (set_block s b (with_value f x o v))) (to_write first s b o (size_in f) h d) (λ x g. block_set s b (with_value f x o v) h (set_fits x.cells o (size_in f) (new_cells f v x.cells o) g (new_fits f v x.cells o i g)))

  pub put_sound : (first : Bool) (s : Store) (b o : ℕ) (x : Cell) → StoreFits D s → D b → CellFits D x → Sound (StoreFits D) (put_cell first s b o x)
  put_sound first s b o x h d i = bind_sound BlockFits (StoreFits D) (reached_to_write first (s b) o 1) (λ y. Ok (set_block s b (with_cell y o x))) (to_write first s b o 1 h d) (λ y g. block_set s b (with_cell y o x) h (set_fits y.cells o 1 (λ i. x) g (λ q. i)))

  pub carry_sound : (first : Bool) (s : Store) (b o c p : ℕ) → StoreFits D s → D b → D c → Sound (StoreFits D) (carry first s b o c p)
  carry_sound first s b o c p h d e = bind_sound BlockFits (StoreFits D) (reached (s b) o 1) (λ x. put_cell first s c p (x.cells o)) (reaches s b o 1 h d) (λ x g. put_sound first s c p (x.cells o) h e (g o))
