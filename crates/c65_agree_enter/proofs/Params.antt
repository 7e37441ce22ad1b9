-- Parameters begin one behind another.
use Rattle.std.proofs.Common.{◌≡◌, ◌≢◌, ℕ, ◌+◌, ◌<◌, ◌≤◌, ◌⊎◌, inl, inr, List, [], ◌∷◌, Some, None, Bool, true, false, refl, sym, ap, ◌∙◌, subst, arith}
use Rattle.std.specs.Prelude.{◌==◌, if◌then◌else◌, Result, Ok, Err}
use Rattle.std.proofs.lemmas.Bool.{cases_eq, cases_lt, eqb-true, eq-eqb}
use Rattle.std.proofs.lemmas.Bool.Decides.{nat_tests}
use Rattle.c65_csem.specs.Trees.{UnitTy}
use Rattle.c65_meaning.specs.Why.{Why, ◌>>=◌}
use Rattle.c65_meaning.specs.Store.{Block, Store, Value, Whole, Null, Place, Opaque, Cells, NoValue, Shape, size_in, new_cells, set_block, unset_block, write}
use Rattle.c65_meaning.specs.Shapes.{object_in, object_sealed}
use Rattle.c65_meaning.specs.After.{is_among}
use Rattle.c65_meaning.specs.State.{Scene, Frame as Call, block_in, with_store, with_object, name_object}
use Rattle.c65_meaning.specs.Step.{put, stored, begin_object, with_params}
use Rattle.c65_code.specs.LineState.{Bytes}
use Rattle.c65_agree_store.specs.Stands.{Spot, Placing, Banks, Grows, byte_in, CellIs, IsAt, AreApart, Stands}
use Rattle.c65_agree_store.specs.Laws.{with_cells, ArePut, put_at}
use Rattle.c65_agree_store.proofs.Keep.{block_same, block_other, cell_grows, stores_go_on_standing, unset_blocks_begin}
use Rattle.c65_agree_put.specs.Laws.{IsWrite}
use Rattle.c65_agree_put.proofs.Values.{writes_are_puts}
use Rattle.c65_agree_enter.specs.Params.{bytes_of, shape_in, no_cells, ArePassed, AreDistinct, HavePlaces, HasBegun, HaveBegun}
use Rattle.c65_agree_enter.specs.Laws.{ParametersStand, ParametersBegin}

-- ---- the meaning

-- a value that is put is written
put_writes : (f : Shape) (c c2 : Scene) (b : ℕ) (v : Value) → put true f c (Place b 0) v ≡ Ok c2 → stored c (write true f c.store b 0 v) ≡ Ok c2
put_writes f c c2 b (Whole z) e = e
put_writes f c c2 b Null e = e
put_writes f c c2 b (Place d o) e = e
put_writes f c c2 b Opaque e = e
put_writes f c c2 b (Cells xs) e = e
put_writes f c c2 b NoValue e = cc

module _ (u : UnitTy) (i : ℕ) (c : Scene) where
  abbrev begun : Scene
  begun = begin_object u i c

  abbrev fresh_block : Block
  fresh_block = unset_block (bytes_of u i) (object_sealed (object_in u i))

  abbrev filled : Value → Block
  filled v = with_cells fresh_block 0 (size_in (shape_in u i)) (new_cells (shape_in u i) v no_cells 0)

  -- the parameter has its block, with its argument
  record OneBegun (v : Value) (c2 : Scene) : Type 0 where
    scene : c2 ≡ with_store begun (set_block begun.store c.next (filled v))
    fits : size_in (shape_in u i) ≤ bytes_of u i

  one_begun : (v : Value) (c2 : Scene) → put true (shape_in u i) begun (Place c.next 0) v ≡ Ok c2 → OneBegun v c2
  one_begun v c2 e = go (write true (shape_in u i) begun.store c.next 0 v) refl (put_writes (shape_in u i) begun c2 c.next v e)
    where
      go : (r : Result Store Why) → write true (shape_in u i) begun.store c.next 0 v ≡ r → stored begun r ≡ Ok c2 → OneBegun v c2
      go (Err why) f h = cc
      go (Ok s2) f h =
          let x : IsWrite true (shape_in u i) begun.store c.next 0 v s2 = writes_are_puts true (shape_in u i) begun.store c.next 0 v s2 f in
          let there : Some fresh_block ≡ Some x.block = sym (block_same c.store c.next c.next fresh_block refl) ∙ x.is in
          let same : fresh_block ≡ x.block = cc in
          let scene : with_store begun s2 ≡ c2 = cc in
          let fits : 0 + size_in (shape_in u i) ≤ fresh_block.holds = subst (λ z. 0 + size_in (shape_in u i) ≤ z.holds) (sym same) x.fits in
          record {
            scene = sym scene ∙ ap (λ s. with_store begun s) (x.store ∙ ap (λ z. set_block begun.store c.next (with_cells z 0 (size_in (shape_in u i)) (new_cells (shape_in u i) v z.cells 0))) (sym same));
            fits = omega (arith, fits);
          }

-- ---- one parameter

module _ (u : UnitTy) (i : ℕ) (is : List ℕ) (v : Value) (spot : ℕ → Spot) (c : Scene) (w : Placing) (call : Call) (calls : List Call) (m : Bytes) (k : Banks) (framed : c.frames ≡ call ∷ calls) (fresh : (b : ℕ) → c.next ≤ b → w b ≡ None) (distinct : AreDistinct (i ∷ is)) (places : HavePlaces u (i ∷ is) spot c w)
    (passed : (o : ℕ) → o < size_in (shape_in u i) → CellIs w (new_cells (shape_in u i) v no_cells 0 o) (byte_in m k (spot i) o)) (st : Stands c.store w m k) (fits : size_in (shape_in u i) ≤ bytes_of u i) where
  abbrev next_scene : Scene
  next_scene = with_store (begin_object u i c) (set_block (begin_object u i c).store c.next (filled u i c v))

  abbrev next_placing : Placing
  next_placing = put_at w c.next (spot i)

  first_among : is_among (i ∷ is) i ≡ true
  first_among = ap (λ b. if b then true else is_among is i) (eq-eqb i i refl)

  later_among : (j : ℕ) → is_among is j ≡ true → is_among (i ∷ is) j ≡ true
  later_among j h = go (i == j)
    where
      go : (b : Bool) → (if b then true else is_among is j) ≡ true
      go true = refl
      go false = h

  not_first : (j : ℕ) → is_among is j ≡ true → j ≡ i → ⊥
  not_first j h e =
      let clash : true ≡ false = sym h ∙ (ap (is_among is) e ∙ distinct.0) in
      cc

  place_here : next_placing c.next ≡ Some (spot i)
  place_here = grind (arith, nat_tests)

  place_other : (b : ℕ) → b ≢ c.next → next_placing b ≡ w b
  place_other b ne = grind (arith, nat_tests)

  placing_grows : Grows w next_placing
  placing_grows b q e = go (cases_eq b c.next)
    where
      go : (b ≡ c.next) ⊎ (b ≡ c.next → ⊥) → next_placing b ≡ Some q
      go (inl same) =
          let clash : Some q ≡ None = sym e ∙ fresh b (omega (arith, same)) in
          cc
      go (inr ne) = place_other b ne ∙ e

  stands_unset : Stands (set_block c.store c.next (fresh_block u i c)) next_placing m k
  stands_unset = unset_blocks_begin c.store w m k c.next (bytes_of u i) (object_sealed (object_in u i)) (spot i) st (record { new = fresh c.next (omega arith); lies = places.lies i first_among; free = places.free i first_among })

  is_put : ArePut (set_block c.store c.next (fresh_block u i c)) next_placing m k c.next (fresh_block u i c) (spot i) 0 (size_in (shape_in u i)) (new_cells (shape_in u i) v no_cells 0) m k
  is_put = record {
    block = record { is = block_same c.store c.next c.next (fresh_block u i c) refl; live = refl; place = place_here };
    fits = omega (arith, fits);
    there = λ o lt. let here : 0 + o ≡ o = omega arith in subst (λ n. CellIs next_placing (new_cells (shape_in u i) v no_cells 0 o) (byte_in m k (spot i) n)) (sym here) (cell_grows w next_placing (new_cells (shape_in u i) v no_cells 0 o) (byte_in m k (spot i) o) placing_grows (passed o lt));
    here = λ p lt. (λ low. refl, λ high. refl);
    elsewhere = λ d y r p at ne lt. refl;
  }

  next_stands : Stands next_scene.store next_placing m k
  next_stands = stores_go_on_standing (set_block c.store c.next (fresh_block u i c)) next_placing m m k k c.next (fresh_block u i c) (spot i) 0 (size_in (shape_in u i)) (new_cells (shape_in u i) v no_cells 0) stands_unset is_put

  abbrev next_call : Call
  next_call = with_object call i c.next

  next_framed : next_scene.frames ≡ next_call ∷ calls
  next_framed = ap (λ fs. name_object fs i c.next) framed

  store_here : next_scene.store c.next ≡ Some (filled u i c v)
  store_here = block_same (begin_object u i c).store c.next c.next (filled u i c v) refl

  store_other : (b : ℕ) → b ≢ c.next → next_scene.store b ≡ c.store b
  store_other b ne = block_other (begin_object u i c).store c.next b (filled u i c v) ne ∙ block_other c.store c.next b (fresh_block u i c) ne

  next_fresh : (b : ℕ) → next_scene.next ≤ b → next_placing b ≡ None
  next_fresh b le = place_other b (λ e. omega (arith, e, le)) ∙ fresh b (omega (arith, le))

  next_places : HavePlaces u is spot next_scene next_placing
  next_places = record { lies = λ j h. places.lies j (later_among j h); free = free; apart = λ j l hj hl ne. places.apart j l (later_among j hj) (later_among l hl) ne }
    where
      free : (j : ℕ) → is_among is j ≡ true → (b : ℕ) (x : Block) (q : Spot) → IsAt next_scene.store next_placing b x q → AreApart (spot j) (bytes_of u j) q x.size
      free j h b x q at = go (cases_eq b c.next)
        where
          go : (b ≡ c.next) ⊎ (b ≡ c.next → ⊥) → AreApart (spot j) (bytes_of u j) q x.size
          go (inl same) =
              let here : Some x ≡ Some (filled u i c v) = sym at.is ∙ (ap next_scene.store same ∙ store_here) in
              let block : x ≡ filled u i c v = cc in
              let there : Some q ≡ Some (spot i) = sym at.place ∙ (ap next_placing same ∙ place_here) in
              let place : q ≡ spot i = cc in
              rw (block, place) (places.apart j i (later_among j h) first_among (not_first j h))
          go (inr ne) = places.free j (later_among j h) b x q (record { is = sym (store_other b ne) ∙ at.is; live = at.live; place = sym (place_other b ne) ∙ at.place })

  named_here : next_call.object i ≡ Some c.next
  named_here = grind (arith, nat_tests)

  named_other : (j : ℕ) → j ≢ i → next_call.object j ≡ call.object j
  named_other j ne = grind (arith, nat_tests)

  -- the others begin behind it
  module _ (d : Scene) (w2 : Placing) (h : HaveBegun u is spot next_scene next_placing next_call calls d w2) where
    first_named : h.active.object i ≡ Some c.next
    first_named = h.others i distinct.0 ∙ named_here

    first_old : (d.store c.next ≡ next_scene.store c.next) × (w2 c.next ≡ next_placing c.next)
    first_old = h.old c.next (omega arith)

    first_has : HasBegun u spot c d w2 i c.next
    first_has = record {
      named = ap (λ fs. block_in fs i) h.frames ∙ first_named;
      place = first_old.1 ∙ place_here;
      first = omega arith;
      last = omega (arith, h.next);
      block = filled u i c v;
      is = first_old.0 ∙ store_here;
      live = refl;
      size = refl;
      holds = refl;
    }

    later_has : (j b : ℕ) → HasBegun u spot next_scene d w2 j b → HasBegun u spot c d w2 j b
    later_has j b x = record { named = x.named; place = x.place; first = omega (arith, x.first); last = x.last; block = x.block; is = x.is; live = x.live; size = x.size; holds = x.holds }

    all_others : (j : ℕ) → is_among (i ∷ is) j ≡ false → h.active.object j ≡ call.object j
    all_others j e = go (i == j) refl e
      where
        go : (b : Bool) → (i == j) ≡ b → (if b then true else is_among is j) ≡ false → h.active.object j ≡ call.object j
        go true f e = cc
        go false f e = h.others j e ∙ named_other j (λ same. apart same)
          where
            apart : j ≡ i → ⊥
            apart same =
                let clash : true ≡ false = sym (eq-eqb i j (sym same)) ∙ f in
                cc

    all_begun : (j : ℕ) → is_among (i ∷ is) j ≡ true → (b : ℕ) × HasBegun u spot c d w2 j b
    all_begun j e = go (i == j) refl e
      where
        go : (b : Bool) → (i == j) ≡ b → (if b then true else is_among is j) ≡ true → (b : ℕ) × HasBegun u spot c d w2 j b
        go true f e = (c.next, subst (λ n. HasBegun u spot c d w2 n c.next) (eqb-true i j f) first_has)
        go false f e = let x = h.begun j e in (x.0, later_has j x.0 x.1)

    all_new : (b : ℕ) → c.next ≤ b → b < d.next → (j : ℕ) × (is_among (i ∷ is) j ≡ true) × (h.active.object j ≡ Some b)
    all_new b le lt = go (cases_eq b c.next)
      where
        go : (b ≡ c.next) ⊎ (b ≡ c.next → ⊥) → (j : ℕ) × (is_among (i ∷ is) j ≡ true) × (h.active.object j ≡ Some b)
        go (inl same) = (i, first_among, first_named ∙ ap Some (sym same))
        go (inr ne) = let x = h.new b (omega (arith, le, ne_lt ne)) lt in (x.0, later_among x.0 x.1, x.2)
          where
            ne_lt : (b ≡ c.next → ⊥) → c.next < b
            ne_lt ne = by (cases_lt c.next b)
              where
                by : (c.next < b) ⊎ (b ≤ c.next) → c.next < b
                by (inl lt) = lt
                by (inr more) = absurd (ne (omega (arith, le, more)))

    both_begun : HaveBegun u (i ∷ is) spot c w call calls d w2
    both_begun = record {
      active = h.active;
      frames = h.frames;
      func = h.func;
      cost = h.cost;
      rest = h.rest;
      others = all_others;
      begun = all_begun;
      next = omega (arith, h.next);
      old = λ b lt. ((h.old b (omega (arith, lt))).0 ∙ store_other b (λ e. omega (arith, e, lt)), (h.old b (omega (arith, lt))).1 ∙ place_other b (λ e. omega (arith, e, lt)));
      fresh = h.fresh;
      new = all_new;
      input = h.input;
      out = h.out;
      turns = h.turns;
      free = h.free;
    }

later_passed : (u : UnitTy) (w w2 : Placing) (m : Bytes) (k : Banks) (spot : ℕ → Spot) (is : List ℕ) (vs : List Value) → Grows w w2 → ArePassed u w m k spot is vs → ArePassed u w2 m k spot is vs
later_passed u w w2 m k spot [] vs g h = tt
later_passed u w w2 m k spot (i ∷ is) [] g h = tt
later_passed u w w2 m k spot (i ∷ is) (v ∷ vs) g h = (λ o lt. cell_grows w w2 (new_cells (shape_in u i) v no_cells 0 o) (byte_in m k (spot i) o) g (h.0 o lt), later_passed u w w2 m k spot is vs g h.1)

-- ---- all of them

none_begin : (u : UnitTy) (spot : ℕ → Spot) (c : Scene) (w : Placing) (call : Call) (calls : List Call) (m : Bytes) (k : Banks) → c.frames ≡ call ∷ calls → ((b : ℕ) → c.next ≤ b → w b ≡ None) → Stands c.store w m k → ParametersStand u [] spot c w call calls c m k
none_begin u spot c w call calls m k framed fresh st = record {
  placing = w;
  begun = record {
    active = call;
    frames = framed;
    func = refl;
    cost = refl;
    rest = refl;
    others = λ i e. refl;
    begun = λ i e. absurd (let clash : false ≡ true = e in cc);
    next = omega arith;
    old = λ b lt. (refl, refl);
    fresh = fresh;
    new = λ b le lt. absurd (omega (arith, le, lt));
    input = refl;
    out = refl;
    turns = refl;
    free = refl;
  };
  grows = λ b q e. e;
  stands = st;
}

pub parameters_begin : ParametersBegin
parameters_begin u [] args spot c d w call calls m k framed e fresh distinct places passed st =
    let same : c ≡ d = cc in
    subst (λ x. ParametersStand u [] spot c w call calls x m k) same (none_begin u spot c w call calls m k framed fresh st)
parameters_begin u (i ∷ is) [] spot c d w call calls m k framed e fresh distinct places passed st = cc
parameters_begin u (i ∷ is) (v ∷ args) spot c d w call calls m k framed e fresh distinct places passed st =
    go (λ c1 w1 call1 f1 e1 fr1 pl1 pa1 st1. parameters_begin u is args spot c1 d w1 call1 calls m k f1 e1 fr1 distinct.1 pl1 pa1 st1) (put true (shape_in u i) (begin_object u i c) (Place c.next 0) v) refl e
  where
    go : ((c1 : Scene) (w1 : Placing) (call1 : Call) → c1.frames ≡ call1 ∷ calls → with_params u is args c1 ≡ Ok d → ((b : ℕ) → c1.next ≤ b → w1 b ≡ None) → HavePlaces u is spot c1 w1 → ArePassed u w1 m k spot is args → Stands c1.store w1 m k → ParametersStand u is spot c1 w1 call1 calls d m k)
        → (r : Result Scene Why) → put true (shape_in u i) (begin_object u i c) (Place c.next 0) v ≡ r → (r >>= with_params u is args) ≡ Ok d → ParametersStand u (i ∷ is) spot c w call calls d m k
    go deep (Err why) f h = cc
    go deep (Ok c1) f h =
        let one : OneBegun u i c v c1 = one_begun u i c v c1 f in
        let next = next_scene u i is v spot c w call calls m k framed fresh distinct places passed.0 st one.fits in
        let w1 = next_placing u i is v spot c w call calls m k framed fresh distinct places passed.0 st one.fits in
        let grown : Grows w w1 = placing_grows u i is v spot c w call calls m k framed fresh distinct places passed.0 st one.fits in
        let more = deep next w1 (next_call u i is v spot c w call calls m k framed fresh distinct places passed.0 st one.fits) (next_framed u i is v spot c w call calls m k framed fresh distinct places passed.0 st one.fits)
        (sym (ap (λ s. with_params u is args s) one.scene) ∙ h) (next_fresh u i is v spot c w call calls m k framed fresh distinct places passed.0 st one.fits)
        (next_places u i is v spot c w call calls m k framed fresh distinct places passed.0 st one.fits) (later_passed u w w1 m k spot is args grown passed.1) (next_stands u i is v spot c w call calls m k framed fresh distinct places passed.0 st one.fits) in
        record {
          placing = more.placing;
          begun = both_begun u i is v spot c w call calls m k framed fresh distinct places passed.0 st one.fits d more.placing more.begun;
          grows = λ b q at. more.grows b q (grown b q at);
          stands = more.stands;
        }
