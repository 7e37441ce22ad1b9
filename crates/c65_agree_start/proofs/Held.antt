-- A store that stands from a bound on, and one block more below that.
use Rattle.std.proofs.Common.{◌≡◌, ℕ, ◌+◌, ◌<◌, ◌≤◌, ◌⊎◌, inl, inr, Some, true, sym, ap, ◌∙◌, subst, arith}
use Rattle.std.specs.Prelude.{IsTrue}
use Rattle.std.proofs.lemmas.Bool.{cases_eq}
use Rattle.c65_meaning.specs.Store.{Block, Store, set_block}
use Rattle.c65_code.specs.LineState.{Bytes}
use Rattle.c65_code.specs.Placement.{Placement, stack_start, stack_end}
use Rattle.c65_agree_store.specs.Stands.{Spot, At, Placing, Banks, CellIs, IsAt, LiesIn, AreApart, Stands, beyond, byte_in}
use Rattle.c65_agree_store.proofs.Keep.{block_same, block_other, apart_turned}

-- a spot in memory, no byte of which lies on the software stack below a bound
pub record LiesFrom (bound : ℕ) (q : Spot) (size : ℕ) : Type 0 where
  pub at : ℕ
  pub is : q ≡ At at
  pub low : 512 ≤ at
  pub bytes : (i : ℕ) → i < size → (at + i < stack_start) ⊎ (bound ≤ at + i)

module _ (place : Placement) (w : Placing) (m : Bytes) where
  -- the store stands, and what it holds is data or lies from the bound on, where nothing is constant
  pub record StandsFrom (s : Store) (bound : ℕ) : Type 0 where
    pub stands : (k : Banks) → Stands s w m k
    pub lies : (b : ℕ) (x : Block) (q : Spot) → IsAt s w b x q → LiesFrom bound q x.size
    pub reached : (b : ℕ) (x : Block) (at o : ℕ) → IsAt s w b x (At at) → o < x.holds → IsTrue (place.is_data (at + o)) ⊎ (bound ≤ at + o)
    pub sealed : (b : ℕ) (x : Block) (at o v : ℕ) → IsAt s w b x (At at) → o < x.holds → place.constant (at + o) ≡ Some v → x.sealed ≡ true

  -- a block that ends where the others begin
  module _ (s : Store) (high low b at : ℕ) (x : Block) (h : StandsFrom s high) (spot : w b ≡ Some (At at)) (holds : x.holds ≡ x.size) (ends : at + x.size ≤ high) (begins : low ≤ at) (start : stack_start ≤ low) (top : high ≤ stack_end)
      (low_constants : (n v : ℕ) → place.constant n ≡ Some v → n < stack_start) (cells : (o : ℕ) → o < x.size → CellIs w (x.cells o) (m (at + o))) where
    abbrev after : Store
    after = set_block s b x

    earlier : (c : ℕ) (y : Block) (r : Spot) → IsAt after w c y r → ((c ≡ b) × (y ≡ x) × (r ≡ At at)) ⊎ ((c ≡ b → ⊥) × IsAt s w c y r)
    earlier c y r i = go (cases_eq c b)
      where
        go : (c ≡ b) ⊎ (c ≡ b → ⊥) → ((c ≡ b) × (y ≡ x) × (r ≡ At at)) ⊎ ((c ≡ b → ⊥) × IsAt s w c y r)
        go (inl e) =
            let f : y ≡ x = cc (i.is, block_same s b c x e) in
            let g : r ≡ At at = cc (i.place, spot, ap w e) in
            inl (e, f, g)
        go (inr ne) = inr (ne, record { is = sym (block_other s b c x ne) ∙ i.is; live = i.live; place = i.place })

    -- no other block has a byte of it
    own_bytes : (c : ℕ) (y : Block) (r : Spot) → IsAt s w c y r → AreApart (At at) x.size r y.size
    own_bytes c y r i p j lp lj e =
        let l = h.lies c y r i in
        let same : At (at + p) ≡ At (l.at + j) = e ∙ ap (λ q. beyond q j) l.is in
        let address : at + p ≡ l.at + j = cc in
        go l.at address (l.bytes j lj)
      where
        go : (a : ℕ) → at + p ≡ a + j → (a + j < stack_start) ⊎ (high ≤ a + j) → ⊥
        go a f (inl less) = omega (arith, f, less, begins, start)
        go a f (inr most) = omega (arith, f, most, lp, ends)

    stands_after : (k : Banks) → Stands after w m k
    stands_after k = record {
      placed = λ c y f l. placed c y f l (cases_eq c b);
      lies = λ c y r i. lies c y r (earlier c y r i);
      whole = λ c y f. whole c y f (cases_eq c b);
      cells = λ c y r p i lt. there c y r p lt (earlier c y r i);
      apart = λ c d y z r q i j ne. apart c d y z r q ne (earlier c y r i) (earlier d z q j);
    }
      where
        placed : (c : ℕ) (y : Block) → after c ≡ Some y → y.live ≡ true → (c ≡ b) ⊎ (c ≡ b → ⊥) → (r : Spot) × (w c ≡ Some r)
        placed c y f l (inl e) = (At at, ap w e ∙ spot)
        placed c y f l (inr ne) = (h.stands k).placed c y (sym (block_other s b c x ne) ∙ f) l

        lies : (c : ℕ) (y : Block) (r : Spot) → ((c ≡ b) × (y ≡ x) × (r ≡ At at)) ⊎ ((c ≡ b → ⊥) × IsAt s w c y r) → LiesIn r y.size
        lies c y r (inl e) = rw (e.1, e.2) (omega (arith, begins, start), omega (arith, ends, top))
        lies c y r (inr e) = (h.stands k).lies c y r e.1

        whole : (c : ℕ) (y : Block) → after c ≡ Some y → (c ≡ b) ⊎ (c ≡ b → ⊥) → y.holds ≤ y.size
        whole c y f (inl e) = let g : y ≡ x = cc (f, block_same s b c x e) in rw g (omega (arith, holds))
        whole c y f (inr ne) = (h.stands k).whole c y (sym (block_other s b c x ne) ∙ f)

        there : (c : ℕ) (y : Block) (r : Spot) (p : ℕ) → p < y.holds → ((c ≡ b) × (y ≡ x) × (r ≡ At at)) ⊎ ((c ≡ b → ⊥) × IsAt s w c y r) → CellIs w (y.cells p) (byte_in m k r p)
        there c y r p lt (inl e) =
            let lp : p < x.size = omega (arith, subst (λ z. p < z.holds) e.1 lt, holds) in
            rw (e.1, e.2) (cells p lp)
        there c y r p lt (inr e) = (h.stands k).cells c y r p e.1 lt

        apart : (c d : ℕ) (y z : Block) (r q : Spot) → (c ≡ d → ⊥) → ((c ≡ b) × (y ≡ x) × (r ≡ At at)) ⊎ ((c ≡ b → ⊥) × IsAt s w c y r) → ((d ≡ b) × (z ≡ x) × (q ≡ At at)) ⊎ ((d ≡ b → ⊥) × IsAt s w d z q) → AreApart r y.size q z.size
        apart c d y z r q ne (inl f) (inl g) = absurd (ne (f.0 ∙ sym g.0))
        apart c d y z r q ne (inl f) (inr g) = rw (f.1, f.2) (own_bytes d z q g.1)
        apart c d y z r q ne (inr f) (inl g) = rw (g.1, g.2) (apart_turned (At at) r x.size y.size (own_bytes c y r f.1))
        apart c d y z r q ne (inr f) (inr g) = (h.stands k).apart c d y z r q f.1 g.1 ne

    pub one_more : StandsFrom after low
    one_more = record { stands = stands_after; lies = λ c y r i. lies c y r (earlier c y r i); reached = λ c y a o i lt. reached c y a o lt (earlier c y (At a) i); sealed = λ c y a o v i lt e. sealed c y a o v lt e (earlier c y (At a) i) }
      where
        wider : (r : Spot) (size : ℕ) → LiesFrom high r size → LiesFrom low r size
        wider r size l = record { at = l.at; is = l.is; low = l.low; bytes = λ i lt. go i (l.bytes i lt) }
          where
            go : (i : ℕ) → (l.at + i < stack_start) ⊎ (high ≤ l.at + i) → (l.at + i < stack_start) ⊎ (low ≤ l.at + i)
            go i (inl less) = inl less
            go i (inr most) = inr (omega (arith, most, ends, begins))

        lies : (c : ℕ) (y : Block) (r : Spot) → ((c ≡ b) × (y ≡ x) × (r ≡ At at)) ⊎ ((c ≡ b → ⊥) × IsAt s w c y r) → LiesFrom low r y.size
        lies c y r (inl e) = record { at = at; is = e.2; low = omega (arith, begins, start); bytes = λ i lt. inr (omega (arith, begins)) }
        lies c y r (inr e) = wider r y.size (h.lies c y r e.1)

        reached : (c : ℕ) (y : Block) (a o : ℕ) → o < y.holds → ((c ≡ b) × (y ≡ x) × (At a ≡ At at)) ⊎ ((c ≡ b → ⊥) × IsAt s w c y (At a)) → IsTrue (place.is_data (a + o)) ⊎ (low ≤ a + o)
        reached c y a o lt (inl e) =
            let f : At a ≡ At at = e.2 in
            let same : a ≡ at = cc in
            inr (omega (arith, same, begins))
        reached c y a o lt (inr e) = go (h.reached c y a o e.1 lt)
          where
            go : IsTrue (place.is_data (a + o)) ⊎ (high ≤ a + o) → IsTrue (place.is_data (a + o)) ⊎ (low ≤ a + o)
            go (inl d) = inl d
            go (inr most) = inr (omega (arith, most, ends, begins))

        sealed : (c : ℕ) (y : Block) (a o v : ℕ) → o < y.holds → place.constant (a + o) ≡ Some v → ((c ≡ b) × (y ≡ x) × (At a ≡ At at)) ⊎ ((c ≡ b → ⊥) × IsAt s w c y (At a)) → y.sealed ≡ true
        sealed c y a o v lt k (inl e) =
            let f : At a ≡ At at = e.2 in
            let same : a ≡ at = cc in
            absurd (omega (arith, same, begins, start, low_constants (a + o) v k))
        sealed c y a o v lt k (inr e) = h.sealed c y a o v e.1 lt k
