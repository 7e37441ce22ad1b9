-- The store of the program's functions, literals and objects stands.
use Rattle.std.proofs.Common.{◌≡◌, ◌≢◌, ℕ, ◌+◌, ◌-◌, ◌<◌, ◌≤◌, ◌⊎◌, inl, inr, Bool, true, false, List, [], ◌∷◌, ◌++◌, Some, None, refl, sym, ap, ◌∙◌, subst, arith}
use Rattle.std.specs.Prelude.{IsTrue, length, slice_get, if◌then◌else◌, nat_lt}
use Rattle.c65_csem.specs.declared.items.Target.TheVariants as targets
use Rattle.c65_csem.specs.Views.{object_of}
use Rattle.c65_meaning.specs.Store.{Block, size_in_store, function_block}
use Rattle.c65_meaning.specs.Shapes.{literal_block, object_block, first_block, object_in, lives_in_frame, object_size, object_sealed}
use Rattle.c65_meaning.specs.Start.{text_block, cells_of, literal_in, static_block, initial_store}
use Rattle.c65_code.specs.declared.code.Datum.{Datum}
use Rattle.c65_code.specs.LineState.{State}
use Rattle.c65_code.specs.Placement.{IsIn, stack_start, stack_end}
use Rattle.c65_genframe.specs.Symbols.{numbers_of, function_symbol, literal_symbol}
use Rattle.c65_agree_store.specs.Stands.{Spot, At, Banks, IsAt, AreApart, Stands}
use Rattle.c65_agree_state.specs.World.{World, unit_in}
use Rattle.c65_agree_state.specs.Fixed.{symbol_at}
use Rattle.c65_agree_state.proofs.Scratch.{first_bytes}
use Rattle.c65_agree_numbers.proofs.Tests.{less, not_less}
use Rattle.c65_agree_data.proofs.Lists.{item_at}
use Rattle.c65_agree_start.specs.First.{object_spot, program_spot, argument_spot_if, first_placing}
use Rattle.c65_agree_start.proofs.Given.{length_mapped, Given}
use Rattle.c65_agree_start.proofs.Blocks.{AreNamed, HasNumber, IsFuncAt, IsDatumAt, IsPlacedAt, store_is, func_spot, literal_spot, lasting_spot, placed_of}
use Rattle.c65_agree_start.proofs.Held.{LiesFrom, StandsFrom}

-- two blocks with one symbol are one
module _ (g : World) (t : State) where
  one_number : (b c s : ℕ) → HasNumber g t b s → HasNumber g t c s → b ≡ c
  one_number b c s (inl h) (inl k) = omega (arith, h.2, h.3, k.2, k.3)
  one_number b c s (inl h) (inr k) = absurd (omega (arith, h.3, k.1, k.3))
  one_number b c s (inr h) (inl k) = absurd (omega (arith, k.3, h.1, h.3))
  one_number b c s (inr h) (inr k) = omega (arith, h.2, h.3, k.2, k.3)

module _ (g : World) (names args : List (List ℕ)) (input : List ℕ) (t : State) (h : Given g names args input t) where
  -- the bytes of a block lie below the software stack
  record IsLow (b : ℕ) (x : Block) (at : ℕ) : Type 0 where
    low : 512 ≤ at
    high : at + x.size ≤ stack_start

  is_low : (b : ℕ) (x : Block) (at : ℕ) → IsFuncAt g t b x at ⊎ IsDatumAt g t b x at → IsLow b x at
  is_low b x at (inl f) =
      let small : x.size ≡ 1 = ap (λ z. z.size) f.block in
      record { low = omega (arith, f.at_is, h.placed.function_low (function_symbol (numbers_of g.parts) b).0 f.is); high = omega (arith, f.at_is, small, h.placed.function_high (function_symbol (numbers_of g.parts) b).0 f.is) }
  is_low b x at (inr d) = record { low = omega (arith, d.at_is, h.placed.low d.index d.datum d.is); high = omega (arith, d.at_is, d.size, h.placed.high d.index d.datum d.is) }

  -- a byte of a datum
  in_datum : (b : ℕ) (x : Block) (at i : ℕ) → (d : IsDatumAt g t b x at) → i < x.size → IsIn g.place d.datum (at + i)
  in_datum b x at i d lt = record { from = omega (arith, d.at_is); to = omega (arith, d.at_is, d.size, lt) }

  function_and_datum : (b c : ℕ) (x y : Block) (at from i j : ℕ) → IsFuncAt g t b x at → IsDatumAt g t c y from → i < x.size → j < y.size → at + i ≡ from + j → ⊥
  function_and_datum b c x y at from i j f d li lj e =
      let small : x.size ≡ 1 = ap (λ z. z.size) f.block in
      let outside : g.place.is_data (g.place.address (function_symbol (numbers_of g.parts) b).0) ≡ false = h.placed.function_outside (function_symbol (numbers_of g.parts) b).0 f.is in
      let inside : IsTrue (g.place.is_data (from + j)) = h.placed.data_in d.index (from + j) d.datum d.is (in_datum c y from j d lj) in
      let same : from + j ≡ g.place.address (function_symbol (numbers_of g.parts) b).0 = omega (arith, e, li, small, f.at_is) in
      let clash : true ≡ false = sym inside ∙ ap g.place.is_data same ∙ outside in
      cc

  apart : (b c : ℕ) (x y : Block) (at from i j : ℕ) → b ≢ c → IsFuncAt g t b x at ⊎ IsDatumAt g t b x at → IsFuncAt g t c y from ⊎ IsDatumAt g t c y from → i < x.size → j < y.size → at + i ≡ from + j → ⊥
  apart b c x y at from i j ne (inl f) (inl k) li lj e =
      let one : x.size ≡ 1 = ap (λ z. z.size) f.block in
      let two : y.size ≡ 1 = ap (λ z. z.size) k.block in
      let same : g.place.address (function_symbol (numbers_of g.parts) b).0 ≡ g.place.address (function_symbol (numbers_of g.parts) c).0 = omega (arith, e, li, lj, one, two, f.at_is, k.at_is) in
      let number = h.placed.function_own (function_symbol (numbers_of g.parts) b).0 (function_symbol (numbers_of g.parts) c).0 f.is k.is same in
      ne (omega (arith, number, f.symbol, k.symbol))
  apart b c x y at from i j ne (inl f) (inr k) li lj e = function_and_datum b c x y at from i j f k li lj e
  apart b c x y at from i j ne (inr f) (inl k) li lj e = function_and_datum c b y x from at j i k f lj li (sym e)
  apart b c x y at from i j ne (inr f) (inr k) li lj e =
      let index : f.index ≡ k.index = h.placed.apart f.index k.index (at + i) f.datum k.datum f.is k.is (in_datum b x at i f li) (subst (IsIn g.place k.datum) (sym e) (in_datum c y from j k lj)) in
      let same : Some f.datum ≡ Some k.datum = sym f.is ∙ ap (slice_get g.code.datums) index ∙ k.is in
      let datum : f.datum ≡ k.datum = cc in
      ne (one_number g t b c k.datum.sym.0 (subst (λ (d : Datum). HasNumber g t b d.sym.0) datum f.number) k.number)

  -- ---- places

  pub program_place : (b : ℕ) → b < first_block (unit_in g) → first_placing g args b ≡ program_spot g b
  program_place b lt = ap (λ (x : Bool). if x then program_spot g b else argument_spot_if g.code.main_args args (b - first_block (unit_in g))) (less b (first_block (unit_in g)) lt)

  -- each block is one of the first
  below_first : (b : ℕ) (x : Block) (at : ℕ) → IsFuncAt g t b x at ⊎ IsDatumAt g t b x at → b < first_block (unit_in g)
  below_first b x at (inl f) = omega (arith, f.number)
  below_first b x at (inr d) = go d.number
    where
      counted : length (unit_in g).objects ≡ length g.parts.objects.items
      counted = length_mapped object_of g.parts.objects.items

      go : HasNumber g t b d.datum.sym.0 → b < first_block (unit_in g)
      go (inl l) = omega (arith, l.1, l.2)
      go (inr i) = omega (arith, i.1, i.2, counted)

  place_is : (b : ℕ) (x : Block) (p : IsPlacedAt g t b x) → first_placing g args b ≡ Some (At p.at)
  place_is b x p = program_place b (below_first b x p.at p.how) ∙ p.spot

  -- a block that stands at a known address
  module _ (b : ℕ) (x : Block) (q : Spot) (at : IsAt (initial_store (unit_in g)) (first_placing g args) b x q) where
    pub block_is : IsPlacedAt g t b x
    block_is = placed_of g names args input t h b x at.is

    pub spot_is_at : q ≡ At block_is.at
    spot_is_at =
        let e : Some q ≡ Some (At block_is.at) = sym at.place ∙ place_is b x block_is in
        cc

  -- ---- what initial pointers name

  of_block : (b : ℕ) (x : Block) (a o : ℕ) → initial_store (unit_in g) b ≡ Some x → program_spot g b ≡ Some (At a) → o ≤ size_in_store (initial_store (unit_in g) b) → (first_placing g args b ≡ Some (At a)) × (a + o < 65536)
  of_block b x a o e spot le =
      let p = placed_of g names args input t h b x e in
      let same : Some (At p.at) ≡ Some (At a) = sym p.spot ∙ spot in
      let address : p.at ≡ a = cc in
      let size : size_in_store (initial_store (unit_in g) b) ≡ x.size = ap size_in_store e in
      (place_is b x p ∙ ap (λ n. Some (At n)) address, omega (arith, le, size, address, (is_low b x p.at p.how).high))

  pub are_named : AreNamed g (first_placing g args)
  are_named (targets.Func f) o lt whole le =
      of_block f function_block (g.place.address (function_symbol (numbers_of g.parts) f).0) o (store_is g t f true (nat_lt f (object_block (unit_in g) 0)) (less f (literal_block (unit_in g) 0) (omega (arith, lt))) refl) (func_spot g t f lt) le
  are_named (targets.Literal l) o lt whole le =
      let i = item_at (unit_in g).literals l lt in
      let b = literal_block (unit_in g) l in
      let back : b - literal_block (unit_in g) 0 ≡ l = omega arith in
      let e : initial_store (unit_in g) b ≡ literal_in (slice_get (unit_in g).literals l) =
      store_is g t b false true (not_less b (literal_block (unit_in g) 0) (omega arith)) (less b (object_block (unit_in g) 0) (omega (arith, lt))) ∙ ap (λ k. literal_in (slice_get (unit_in g).literals k)) back in
      of_block b (text_block true (i.item ++ 0 ∷ [])) (g.place.address (literal_symbol (numbers_of g.parts) l).0) o (e ∙ ap literal_in i.is) (literal_spot g t l lt) le
  are_named (targets.Object i) o lt whole le =
      let one = item_at (unit_in g).objects i lt in
      let b = object_block (unit_in g) i in
      let y = one.item in
      let lasts : lives_in_frame (Some y) ≡ false = sym (ap lives_in_frame one.is) ∙ whole.1 in
      let back : b - object_block (unit_in g) 0 ≡ i = omega arith in
      let e : initial_store (unit_in g) b ≡ static_block (unit_in g) (object_in (unit_in g) i) =
      store_is g t b false false (not_less b (literal_block (unit_in g) 0) (omega arith)) (not_less b (object_block (unit_in g) 0) (omega arith)) ∙ ap (λ k. static_block (unit_in g) (object_in (unit_in g) k)) back in
      let block : Block = record { size = object_size (unit_in g).types (Some y); holds = object_size (unit_in g).types (Some y); live = true; sealed = object_sealed (Some y); cells = cells_of (unit_in g) y.init } in
      of_block b block (symbol_at g i) o (e ∙ ap (static_block (unit_in g)) one.is ∙ ap (λ (x : Bool). if x then None else Some block) lasts)
      (lasting_spot g t i ∙ ap (object_spot g i) one.is ∙ ap (λ (x : Bool). if x then None else Some (At (symbol_at g i))) lasts) le

  -- ---- all of them

  stands : (k : Banks) → Stands (initial_store (unit_in g)) (first_placing g args) t.mem k
  stands k = record {
    placed = λ b x e l. let p = placed_of g names args input t h b x e in (At p.at, place_is b x p);
    lies = λ b x q i. let p = block_is b x q i in let low = is_low b x p.at p.how in rw (spot_is_at b x q i) (low.low, omega (arith, low.high));
    whole = λ b x e. whole b x (placed_of g names args input t h b x e).how;
    cells = λ b x q o i lt. rw (spot_is_at b x q i) ((block_is b x q i).cells (first_placing g args) are_named o lt);
    apart = λ b c x y q r i j ne. rw (spot_is_at b x q i, spot_is_at c y r j) (bytes_apart b c x y (block_is b x q i).at (block_is c y r j).at ne (block_is b x q i).how (block_is c y r j).how);
  }
    where
      whole : (b : ℕ) (x : Block) {a : ℕ} → IsFuncAt g t b x a ⊎ IsDatumAt g t b x a → x.holds ≤ x.size
      whole b x (inl f) =
          let none : x.holds ≡ 0 = ap (λ z. z.holds) f.block in
          omega (arith, none)
      whole b x (inr d) = omega (arith, d.holds)

      bytes_apart : (b c : ℕ) (x y : Block) (a from : ℕ) → (b ≡ c → ⊥) → IsFuncAt g t b x a ⊎ IsDatumAt g t b x a → IsFuncAt g t c y from ⊎ IsDatumAt g t c y from → AreApart (At a) x.size (At from) y.size
      bytes_apart b c x y a from ne one two i j li lj e = let f : a + i ≡ from + j = cc in apart b c x y a from i j ne one two li lj f

  pub program_stands : StandsFrom g.place (first_placing g args) t.mem (initial_store (unit_in g)) stack_end
  program_stands = record {
    stands = stands;
    lies = λ b x q i. lies b x q i (is_low b x (block_is b x q i).at (block_is b x q i).how);
    reached = λ b x a o i lt. reached b x a o lt (spot_is_at b x (At a) i) (block_is b x (At a) i).how;
    sealed = λ b x a o v i lt e. sealed b x a o v lt e (spot_is_at b x (At a) i) (block_is b x (At a) i).how;
  }
    where
      lies : (b : ℕ) (x : Block) (q : Spot) (i : IsAt (initial_store (unit_in g)) (first_placing g args) b x q) → IsLow b x (block_is b x q i).at → LiesFrom stack_end q x.size
      lies b x q i low = record { at = (block_is b x q i).at; is = spot_is_at b x q i; low = low.low; bytes = λ p lt. inl (omega (arith, lt, low.high)) }

      reached : (b : ℕ) (x : Block) (a o : ℕ) {at : ℕ} → o < x.holds → At a ≡ At at → IsFuncAt g t b x at ⊎ IsDatumAt g t b x at → IsTrue (g.place.is_data (a + o)) ⊎ (stack_end ≤ a + o)
      reached b x a o lt e (inl f) =
          let none : x.holds ≡ 0 = ap (λ z. z.holds) f.block in
          absurd (omega (arith, none, lt))
      reached b x a o {at} lt e (inr d) =
          let same : a ≡ at = cc in
          inl (rw same (h.placed.data_in d.index (at + o) d.datum d.is (in_datum b x at o d (omega (arith, lt, d.holds)))))

      sealed : (b : ℕ) (x : Block) (a o v : ℕ) {at : ℕ} → o < x.holds → g.place.constant (a + o) ≡ Some v → At a ≡ At at → IsFuncAt g t b x at ⊎ IsDatumAt g t b x at → x.sealed ≡ true
      sealed b x a o v lt e same (inl f) = ap (λ z. z.sealed) f.block
      sealed b x a o v {at} lt e same (inr d) =
          let address : a ≡ at = cc in
          let c = h.placed.constant_of (a + o) v e in
          let small = first_bytes g.place c.2.cells c.1 v c.6 in
          let inside : IsIn g.place c.2 (a + o) = record { from = omega (arith, c.5); to = omega (arith, c.5, small) } in
          let index : d.index ≡ c.0 = h.placed.apart d.index c.0 (a + o) d.datum c.2 d.is c.3 (rw address (in_datum b x at o d (omega (arith, lt, d.holds)))) inside in
          let both : Some d.datum ≡ Some c.2 = sym d.is ∙ ap (slice_get g.code.datums) index ∙ c.3 in
          let datum : d.datum ≡ c.2 = cc in
          d.constant (ap (λ (z : Datum). z.kind) datum ∙ c.4)
