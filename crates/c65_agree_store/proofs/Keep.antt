-- The store goes on standing where cells are put, where blocks begin and end, and where free bytes change.
use Rattle.std.proofs.Common.{◌≡◌, ◌≢◌, ℕ, ◌+◌, ◌-◌, ◌<◌, ◌≤◌, ◌⊎◌, inl, inr, Option, Some, None, true, false, refl, sym, ap, ◌∙◌, subst, arith}
use Rattle.std.specs.Prelude.{bit_and}
use Rattle.std.proofs.lemmas.Nat.{and_le_r}
use Rattle.std.proofs.lemmas.Bool.{cases_eq, cases_lt}
use Rattle.std.proofs.lemmas.Bool.Decides.{nat_tests}
use Rattle.c65_meaning.specs.Store.{Cell, Bits, Piece, Clouded, Block, Store, set_block, set_cells, unset_block, end_in, unset}
use Rattle.c65_code.specs.LineState.{Bytes}
use Rattle.c65_agree_store.specs.Stands.{Spot, At, Placing, Banks, Grows, byte_in, CellIs, IsAt, LiesIn, AreApart, Stands}
use Rattle.c65_agree_store.specs.Laws.{with_cells, ArePut, StoresGoOnStanding, put_at, HasRoom, BlocksBegin, UnsetBlocksBegin, BlocksEnd, FreeBytesChange}

pub block_same : (s : Store) (b c : ℕ) (x : Block) → c ≡ b → set_block s b x c ≡ Some x
block_same s b c x e = grind (arith, nat_tests)

pub block_other : (s : Store) (b c : ℕ) (x : Block) → c ≢ b → set_block s b x c ≡ s c
block_other s b c x e = grind (arith, nat_tests)

pub cells_in : (cells new : ℕ → Cell) (o n p : ℕ) → o ≤ p → p < o + n → set_cells cells o n new p ≡ new (p - o)
cells_in cells new o n p lo hi = grind (arith, nat_tests)

pub cells_below : (cells new : ℕ → Cell) (o n p : ℕ) → p < o → set_cells cells o n new p ≡ cells p
cells_below cells new o n p lo = grind (arith, nat_tests)

pub cells_above : (cells new : ℕ → Cell) (o n p : ℕ) → o + n ≤ p → set_cells cells o n new p ≡ cells p
cells_above cells new o n p hi = grind (arith, nat_tests)

-- where blocks gain places, what stood goes on standing
pub cell_grows : (w w2 : Placing) (x : Cell) (n : ℕ) → Grows w w2 → CellIs w x n → CellIs w2 x n
cell_grows w w2 (Bits known value) n g h = h
cell_grows w w2 (Piece i b o) n g h = (h.0, g b (At h.0) h.1, h.2)
cell_grows w w2 Clouded n g h = tt

pub apart_turned : (q r : Spot) (n m : ℕ) → AreApart q n r m → AreApart r m q n
apart_turned q r n m h = λ i j li lj e. h j i lj li (sym e)

-- ---- free bytes

pub free_bytes_change : FreeBytesChange
free_bytes_change s w m m2 k k2 st same = record {
  placed = st.placed;
  lies = st.lies;
  whole = st.whole;
  cells = λ b x q o at lt. rw (same b x q o at lt) (st.cells b x q o at lt);
  apart = st.apart;
}

-- ---- cells that are put

module _ (s : Store) (w : Placing) (m m2 : Bytes) (k k2 : Banks) (b : ℕ) (x : Block) (q : Spot) (o n : ℕ) (new : ℕ → Cell) (st : Stands s w m k) (put : ArePut s w m k b x q o n new m2 k2) where
  abbrev later : Block
  later = with_cells x o n new

  abbrev after : Store
  after = set_block s b later

  -- a block after the store, by what it was before
  before : (c : ℕ) (y : Block) (r : Spot) → IsAt after w c y r → ((c ≡ b) × (y ≡ later) × (r ≡ q)) ⊎ ((c ≡ b → ⊥) × IsAt s w c y r)
  before c y r h = go (cases_eq c b)
    where
      go : (c ≡ b) ⊎ (c ≡ b → ⊥) → ((c ≡ b) × (y ≡ later) × (r ≡ q)) ⊎ ((c ≡ b → ⊥) × IsAt s w c y r)
      go (inl e) =
          let f : y ≡ later = cc (h.is, block_same s b c later e) in
          let g : r ≡ q = cc (h.place, put.block.place, ap w e) in
          inl (e, f, g)
      go (inr ne) = inr (ne, record { is = sym (block_other s b c later ne) ∙ h.is; live = h.live; place = h.place })

  placed_after : (c : ℕ) (y : Block) → after c ≡ Some y → y.live ≡ true → (r : Spot) × (w c ≡ Some r)
  placed_after c y f l = go (cases_eq c b)
    where
      go : (c ≡ b) ⊎ (c ≡ b → ⊥) → (r : Spot) × (w c ≡ Some r)
      go (inl e) = (q, ap w e ∙ put.block.place)
      go (inr ne) = st.placed c y (sym (block_other s b c later ne) ∙ f) l

  lies_after : (c : ℕ) (y : Block) (r : Spot) → IsAt after w c y r → LiesIn r y.size
  lies_after c y r h = go (before c y r h)
    where
      go : ((c ≡ b) × (y ≡ later) × (r ≡ q)) ⊎ ((c ≡ b → ⊥) × IsAt s w c y r) → LiesIn r y.size
      go (inl e) = rw (e.1, e.2) (st.lies b x q put.block)
      go (inr e) = st.lies c y r e.1

  whole_after : (c : ℕ) (y : Block) → after c ≡ Some y → y.holds ≤ y.size
  whole_after c y f = go (cases_eq c b)
    where
      go : (c ≡ b) ⊎ (c ≡ b → ⊥) → y.holds ≤ y.size
      go (inl e) =
          let g : y ≡ later = cc (f, block_same s b c later e) in
          rw g (st.whole b x put.block.is)
      go (inr ne) = st.whole c y (sym (block_other s b c later ne) ∙ f)

  cells_after : (c : ℕ) (y : Block) (r : Spot) (p : ℕ) → IsAt after w c y r → p < y.holds → CellIs w (y.cells p) (byte_in m2 k2 r p)
  cells_after c y r p h lt = go (before c y r h)
    where
      in_block : p < x.holds → (p < o) ⊎ (o ≤ p) → (p < o + n) ⊎ (o + n ≤ p) → CellIs w (later.cells p) (byte_in m2 k2 q p)
      in_block lp (inl low) _ =
          let e : later.cells p ≡ x.cells p = cells_below x.cells new o n p low in
          rw (e, (put.here p lp).0 low) (st.cells b x q p put.block lp)
      in_block lp (inr lo) (inl hi) =
          let e : later.cells p ≡ new (p - o) = cells_in x.cells new o n p lo hi in
          let f : o + (p - o) ≡ p = omega arith in
          let g : CellIs w (new (p - o)) (byte_in m2 k2 q (o + (p - o))) = put.there (p - o) (omega arith) in
          rw e (subst (λ i. CellIs w (new (p - o)) (byte_in m2 k2 q i)) f g)
      in_block lp (inr lo) (inr high) =
          let e : later.cells p ≡ x.cells p = cells_above x.cells new o n p high in
          rw (e, (put.here p lp).1 high) (st.cells b x q p put.block lp)

      go : ((c ≡ b) × (y ≡ later) × (r ≡ q)) ⊎ ((c ≡ b → ⊥) × IsAt s w c y r) → CellIs w (y.cells p) (byte_in m2 k2 r p)
      go (inl e) =
          let lp : p < x.holds = subst (λ z. p < z.holds) e.1 lt in
          rw (e.1, e.2) (in_block lp (cases_lt p o) (cases_lt p (o + n)))
      go (inr e) = rw (put.elsewhere c y r p e.1 e.0 lt) (st.cells c y r p e.1 lt)

  apart_after : (c e : ℕ) (y z : Block) (r u : Spot) → IsAt after w c y r → IsAt after w e z u → (c ≡ e → ⊥) → AreApart r y.size u z.size
  apart_after c e y z r u hy hz ne = go (before c y r hy) (before e z u hz)
    where
      go : ((c ≡ b) × (y ≡ later) × (r ≡ q)) ⊎ ((c ≡ b → ⊥) × IsAt s w c y r) → ((e ≡ b) × (z ≡ later) × (u ≡ q)) ⊎ ((e ≡ b → ⊥) × IsAt s w e z u) → AreApart r y.size u z.size
      go (inl f) (inl g) = absurd (ne (f.0 ∙ sym g.0))
      go (inl f) (inr g) = rw (f.1, f.2) (st.apart b e x z q u put.block g.1 (λ h. g.0 (sym h)))
      go (inr f) (inl g) = rw (g.1, g.2) (st.apart c b y x r q f.1 put.block f.0)
      go (inr f) (inr g) = st.apart c e y z r u f.1 g.1 ne

  all_after : Stands after w m2 k2
  all_after = record { placed = placed_after; lies = lies_after; whole = whole_after; cells = cells_after; apart = apart_after }

pub stores_go_on_standing : StoresGoOnStanding
stores_go_on_standing s w m m2 k k2 b x q o n new st put = all_after s w m m2 k k2 b x q o n new st put

-- ---- a block that begins

module _ (s : Store) (w : Placing) (m : Bytes) (k : Banks) (b : ℕ) (x : Block) (q : Spot) (st : Stands s w m k) (room : HasRoom s w b x.size q) (held : x.holds ≤ x.size) (there : (o : ℕ) → o < x.holds → CellIs w (x.cells o) (byte_in m k q o)) where
  abbrev with_one : Store
  with_one = set_block s b x

  abbrev placing : Placing
  placing = put_at w b q

  place_here : (c : ℕ) → c ≡ b → placing c ≡ Some q
  place_here c e = grind (arith, nat_tests)

  place_other : (c : ℕ) → c ≢ b → placing c ≡ w c
  place_other c e = grind (arith, nat_tests)

  gains : Grows w placing
  gains c r h = go (cases_eq c b)
    where
      go : (c ≡ b) ⊎ (c ≡ b → ⊥) → placing c ≡ Some r
      go (inl e) = cc (h, room.new, ap w e)
      go (inr ne) = place_other c ne ∙ h

  earlier : (c : ℕ) (y : Block) (r : Spot) → IsAt with_one placing c y r → ((c ≡ b) × (y ≡ x) × (r ≡ q)) ⊎ ((c ≡ b → ⊥) × IsAt s w c y r)
  earlier c y r h = go (cases_eq c b)
    where
      go : (c ≡ b) ⊎ (c ≡ b → ⊥) → ((c ≡ b) × (y ≡ x) × (r ≡ q)) ⊎ ((c ≡ b → ⊥) × IsAt s w c y r)
      go (inl e) =
          let f : y ≡ x = cc (h.is, block_same s b c x e) in
          let g : r ≡ q = cc (h.place, place_here c e) in
          inl (e, f, g)
      go (inr ne) = inr (ne, record { is = sym (block_other s b c x ne) ∙ h.is; live = h.live; place = sym (place_other c ne) ∙ h.place })

  begun : Stands with_one placing m k
  begun = record {
    placed = λ c y f l. placed_at c y f l (cases_eq c b);
    lies = λ c y r h. lies_at c y r (earlier c y r h);
    whole = λ c y f. whole_at c y f (cases_eq c b);
    cells = λ c y r p h lt. cells_at c y r p lt (earlier c y r h);
    apart = λ c e y z r u hy hz ne. apart_at c e y z r u ne (earlier c y r hy) (earlier e z u hz);
  }
    where
      placed_at : (c : ℕ) (y : Block) → with_one c ≡ Some y → y.live ≡ true → (c ≡ b) ⊎ (c ≡ b → ⊥) → (r : Spot) × (placing c ≡ Some r)
      placed_at c y f l (inl e) = (q, place_here c e)
      placed_at c y f l (inr ne) = let p = st.placed c y (sym (block_other s b c x ne) ∙ f) l in (p.0, place_other c ne ∙ p.1)

      lies_at : (c : ℕ) (y : Block) (r : Spot) → ((c ≡ b) × (y ≡ x) × (r ≡ q)) ⊎ ((c ≡ b → ⊥) × IsAt s w c y r) → LiesIn r y.size
      lies_at c y r (inl e) = rw (e.1, e.2) room.lies
      lies_at c y r (inr e) = st.lies c y r e.1

      whole_at : (c : ℕ) (y : Block) → with_one c ≡ Some y → (c ≡ b) ⊎ (c ≡ b → ⊥) → y.holds ≤ y.size
      whole_at c y f (inl e) = let g : y ≡ x = cc (f, block_same s b c x e) in rw g held
      whole_at c y f (inr ne) = st.whole c y (sym (block_other s b c x ne) ∙ f)

      cells_at : (c : ℕ) (y : Block) (r : Spot) (p : ℕ) → p < y.holds → ((c ≡ b) × (y ≡ x) × (r ≡ q)) ⊎ ((c ≡ b → ⊥) × IsAt s w c y r) → CellIs placing (y.cells p) (byte_in m k r p)
      cells_at c y r p lt (inl e) =
          let lp : p < x.holds = subst (λ z. p < z.holds) e.1 lt in
          rw (e.1, e.2) (cell_grows w placing (x.cells p) (byte_in m k q p) gains (there p lp))
      cells_at c y r p lt (inr e) = cell_grows w placing (y.cells p) (byte_in m k r p) gains (st.cells c y r p e.1 lt)

      apart_at : (c e : ℕ) (y z : Block) (r u : Spot) → (c ≡ e → ⊥) → ((c ≡ b) × (y ≡ x) × (r ≡ q)) ⊎ ((c ≡ b → ⊥) × IsAt s w c y r) → ((e ≡ b) × (z ≡ x) × (u ≡ q)) ⊎ ((e ≡ b → ⊥) × IsAt s w e z u) → AreApart r y.size u z.size
      apart_at c e y z r u ne (inl f) (inl g) = absurd (ne (f.0 ∙ sym g.0))
      apart_at c e y z r u ne (inl f) (inr g) = rw (f.1, f.2) (room.free e z u g.1)
      apart_at c e y z r u ne (inr f) (inl g) = rw (g.1, g.2) (apart_turned q r x.size y.size (room.free c y r f.1))
      apart_at c e y z r u ne (inr f) (inr g) = st.apart c e y z r u f.1 g.1 ne

pub blocks_begin : BlocksBegin
blocks_begin s w m k b x q st room held there = begun s w m k b x q st room held there

no_cell_is_set : (w : Placing) (n : ℕ) → CellIs w unset n
no_cell_is_set w n = let h : bit_and n 0 ≤ 0 = and_le_r n 0 in omega arith

pub unset_blocks_begin : UnsetBlocksBegin
unset_blocks_begin s w m k b size sealed q st room = blocks_begin s w m k b (unset_block size sealed) q st room (omega arith) (λ o lt. no_cell_is_set w (byte_in m k q o))

-- ---- a block that ends

module _ (s : Store) (w : Placing) (m : Bytes) (k : Banks) (b : ℕ) (x : Block) (is : s b ≡ Some x) (st : Stands s w m k) where
  abbrev ended : Block
  ended = record x { live = false }

  -- the live blocks are among those before
  still : (c : ℕ) (y : Block) (r : Spot) → IsAt (set_block s b ended) w c y r → IsAt s w c y r
  still c y r h = go (cases_eq c b)
    where
      go : (c ≡ b) ⊎ (c ≡ b → ⊥) → IsAt s w c y r
      go (inl e) =
          let f : y ≡ ended = cc (h.is, block_same s b c ended e) in
          let g : false ≡ true = subst (λ z. z.live ≡ true) f h.live in
          cc
      go (inr ne) = record { is = sym (block_other s b c ended ne) ∙ h.is; live = h.live; place = h.place }

  stands_ended : Stands (set_block s b ended) w m k
  stands_ended = record {
    placed = λ c y f l. placed_at c y f l (cases_eq c b);
    lies = λ c y r h. st.lies c y r (still c y r h);
    whole = λ c y f. whole_at c y f (cases_eq c b);
    cells = λ c y r p h lt. st.cells c y r p (still c y r h) lt;
    apart = λ c e y z r u hy hz ne. st.apart c e y z r u (still c y r hy) (still e z u hz) ne;
  }
    where
      placed_at : (c : ℕ) (y : Block) → set_block s b ended c ≡ Some y → y.live ≡ true → (c ≡ b) ⊎ (c ≡ b → ⊥) → (r : Spot) × (w c ≡ Some r)
      placed_at c y f l (inl e) =
          let g : y ≡ ended = cc (f, block_same s b c ended e) in
          let h : false ≡ true = subst (λ z. z.live ≡ true) g l in
          cc
      placed_at c y f l (inr ne) = st.placed c y (sym (block_other s b c ended ne) ∙ f) l

      whole_at : (c : ℕ) (y : Block) → set_block s b ended c ≡ Some y → (c ≡ b) ⊎ (c ≡ b → ⊥) → y.holds ≤ y.size
      whole_at c y f (inl e) = let g : y ≡ ended = cc (f, block_same s b c ended e) in rw g (st.whole b x is)
      whole_at c y f (inr ne) = st.whole c y (sym (block_other s b c ended ne) ∙ f)

ends_at : (s : Store) (w : Placing) (m : Bytes) (k : Banks) (b : ℕ) (at : Option Block) → s b ≡ at → Stands s w m k → Stands (end_in s b at) w m k
ends_at s w m k b None is st = st
ends_at s w m k b (Some x) is st = stands_ended s w m k b x is st

pub blocks_end : BlocksEnd
blocks_end s w m k b st = ends_at s w m k b (s b) refl st
