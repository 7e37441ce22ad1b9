-- The first statement of a function that takes further arguments may begin.
use Rattle.std.proofs.Common.{◌≡◌, ◌≢◌, ℕ, ◌+◌, ◌<◌, ◌≤◌, ◌⊎◌, inl, inr, List, ◌∷◌, Option, Some, None, Bool, true, false, refl, sym, ap, ◌∙◌, subst, arith}
use Rattle.std.specs.Prelude.{IsTrue, length, slice_get, Ok, All}
use Rattle.std.proofs.lemmas.Bool.{cases_eq, cases_lt}
use Rattle.std.proofs.lemmas.Bool.Decides.{nat_tests}
use Rattle.c65_csem.specs.Trees.{UnitTy}
use Rattle.c65_csem.specs.Places.{is_fixed_object}
use Rattle.c65_meaning.specs.Store.{Cell, Block, Value, lives_in, is_live, nth_cell, list_block}
use Rattle.c65_meaning.specs.Shapes.{object_in, object_size}
use Rattle.c65_meaning.specs.After.{is_among}
use Rattle.c65_meaning.specs.State.{Scene, Frame as Call, block_in, rest_in, name_rest, soft_sum, hard_sum}
use Rattle.c65_meaning.specs.Step.{func_in, frames_below, is_active, with_params, new_frame, begin_rest}
use Rattle.c65_code.specs.LineState.{State, s_of}
use Rattle.c65_code.specs.Placement.{IsPlacement, stack_start}
use Rattle.c65_genframe.specs.Frames.{saved_bytes}
use Rattle.c65_genframe.specs.Objects.{locals_of}
use Rattle.c65_agree_store.specs.Stands.{Spot, At, Banked, Placing, Banks, Grows, byte_in, beyond, IsAt, AreApart, IsFree, Stands}
use Rattle.c65_agree_store.specs.Laws.{HasRoom, put_at}
use Rattle.c65_agree_store.proofs.Keep.{block_same, block_other, cell_grows, free_bytes_change, blocks_begin}
use Rattle.c65_agree_state.specs.World.{World, unit_in, Active}
use Rattle.c65_agree_state.specs.Fixed.{symbol_at, HasFor, is_object_of, HaveOwnObjects, func_has_fixed, AreOnce, HaveFixed}
use Rattle.c65_agree_state.specs.Sizes.{AreSized}
use Rattle.c65_agree_state.specs.Joins.{spot_of, call_bytes, IsOfCall, HasBlock, IsRest, HaveSymbols, Joins}
use Rattle.c65_agree_state.specs.Exprs.{bounds_of}
use Rattle.c65_agree_between.specs.Stmts.{AreOpen}
use Rattle.c65_agree_state.proofs.Scratch.{constants_are_low}
use Rattle.c65_agree_state.proofs.Parts.{sizes_stay}
use Rattle.c65_agree_enter.specs.Params.{bytes_of, ArePassed, HavePlaces, HasBegun, HaveBegun}
use Rattle.c65_agree_enter.specs.Entries.{MayEnter, FixedAreLow, IsTaken, banks_with, HasEntered}
use Rattle.c65_agree_enter.specs.Laws.{ParametersStand}
use Rattle.c65_agree_enter.proofs.Params.{parameters_begin}
use Rattle.c65_agree_enter.proofs.Entered.{own_bank, among_front}
use Rattle.c65_agree_variadic.specs.Entries.{IsCalledFurther, FurtherLie, FurtherCallsAreEntered}

module _ (g : World) (a : Active) (bound cost needs : ℕ) (is : List ℕ) (args : List Value) (xs : List Cell) (c0 d : Scene) (w0 : Placing) (k0 : Banks) (t0 t1 : State) (placed : IsPlacement g.code g.place) (low : FixedAreLow g) (may : MayEnter g (length a.behind) bound c0 w0 k0 t0) (taken : IsTaken a t0 t1)
    (called : IsCalledFurther g a bound cost needs is xs c0) (passed : ArePassed (unit_in g) w0 t1.mem (banks_with a t1 k0) (spot_of g a) is args) (rest : FurtherLie a w0 t1.mem xs) (count : t1.mem a.base ≡ a.frame.stacked + a.raised) (hard : 255 ≤ s_of t1 + (2 + hard_sum c0.frames))
    (meant : with_params (unit_in g) is args (new_frame (unit_in g) a.func cost c0) ≡ Ok d) where
  abbrev u : UnitTy
  u = unit_in g

  abbrev k1 : Banks
  k1 = banks_with a t1 k0

  abbrev call : Call
  call = record { func = a.func; object = λ i. None; cost = cost; rest = None }

  -- ---- banks

  own_byte : (i : ℕ) → k1 (length a.behind) i ≡ t1.zp (20 + i)
  own_byte i = grind (arith, nat_tests)

  other_byte : (e i : ℕ) → e ≢ length a.behind → k1 e i ≡ k0 e i
  other_byte e i ne = grind (arith, nat_tests)

  base_low : stack_start ≤ a.base
  base_low = let room = called.room in let few = called.few in omega (arith, room, few)

  -- ---- what there was

  same_byte : (b : ℕ) (x : Block) (q : Spot) (p : ℕ) → IsAt c0.store w0 b x q → p < x.holds → byte_in t1.mem k1 q p ≡ byte_in t0.mem k0 q p
  same_byte b x (Banked e i) p at lt =
      let deep = may.shallow b x e i at (omega (arith, lt, may.stands.whole b x at.is)) in
      other_byte e (i + p) (λ z. omega (arith, z, deep))
  same_byte b x (At n) p at lt = go (cases_lt (n + p) stack_start) (cases_lt (n + p) bound)
    where
      go : (n + p < stack_start) ⊎ (stack_start ≤ n + p) → (n + p < bound) ⊎ (bound ≤ n + p) → t1.mem (n + p) ≡ t0.mem (n + p)
      go (inl h) _ = taken.mem (n + p) (inl h)
      go (inr h) (inr high) = taken.mem (n + p) (inr (omega (arith, high, called.top)))
      go (inr h) (inl below) = absurd (may.above (n + p) h below b x (At n) p at (omega (arith, lt, may.stands.whole b x at.is)) refl)

  stood : Stands c0.store w0 t1.mem k1
  stood = free_bytes_change c0.store w0 t0.mem t1.mem k0 k1 may.stands same_byte

  -- no block had a byte of what the function has there, or of its regbank
  none_there : (n : ℕ) → a.base ≤ n → n < a.base + call_bytes a → IsFree c0.store w0 (At n)
  none_there n lo hi b x q p at lp e = may.above n (omega (arith, lo, base_low)) (omega (arith, hi, called.top)) b x q p at lp e

  places : HavePlaces u is (spot_of g a) (new_frame u a.func cost c0) w0
  places = record { lies = called.homes.lies; free = free; apart = called.homes.apart }
    where
      free : (i : ℕ) → is_among is i ≡ true → (b : ℕ) (x : Block) (q : Spot) → IsAt c0.store w0 b x q → AreApart (spot_of g a i) (bytes_of u i) q x.size
      free i among b x q at o p lo lp e = go (spot_of g a i) refl
        where
          go : (r : Spot) → spot_of g a i ≡ r → ⊥
          go (At n) s =
              let h = called.homes.within i n o among s lo in
              let there : beyond q p ≡ At (n + o) = sym e ∙ ap (λ r. beyond r o) s in
              none_there (n + o) (omega (arith, h)) (omega (arith, h)) b x q p at lp there
          go (Banked f l) s = by q refl at
            where
              by : (r : Spot) → q ≡ r → IsAt c0.store w0 b x r → ⊥
              by (At m) z at2 =
                  let clash : At (m + p) ≡ Banked f (l + o) = ap (λ r. beyond r p) (sym z) ∙ (sym e ∙ ap (λ r. beyond r o) s) in
                  cc
              by (Banked f2 l2) z at2 =
                  let same : Banked f2 (l2 + p) ≡ Banked f (l + o) = ap (λ r. beyond r p) (sym z) ∙ (sym e ∙ ap (λ r. beyond r o) s) in
                  let one : f2 ≡ f = cc in
                  let deep = may.shallow b x f2 l2 at2 (omega (arith, lp)) in
                  let own = own_bank g a i f l s in
                  omega (arith, one, deep, own)

  stand : ParametersStand u is (spot_of g a) (new_frame u a.func cost c0) w0 call c0.frames d t1.mem k1
  stand = parameters_begin u is args (spot_of g a) (new_frame u a.func cost c0) d w0 call c0.frames t1.mem k1 refl meant may.fresh called.distinct places passed stood

  abbrev w1 : Placing
  w1 = stand.placing

  abbrev h : HaveBegun u is (spot_of g a) (new_frame u a.func cost c0) w0 call c0.frames d w1
  h = stand.begun

  -- ---- the further arguments

  abbrev from : ℕ
  from = a.base + a.frame.soft + saved_bytes a.frame.bank

  abbrev block : Block
  block = list_block xs

  abbrev c1 : Scene
  c1 = begin_rest xs d

  abbrev w2 : Placing
  w2 = put_at w1 d.next (At from)

  place_here : w2 d.next ≡ Some (At from)
  place_here = grind (arith, nat_tests)

  place_other : (b : ℕ) → b ≢ d.next → w2 b ≡ w1 b
  place_other b ne = grind (arith, nat_tests)

  grown_on : Grows w1 w2
  grown_on b q e = go (cases_eq b d.next)
    where
      go : (b ≡ d.next) ⊎ (b ≡ d.next → ⊥) → w2 b ≡ Some q
      go (inl same) =
          let clash : Some q ≡ None = sym e ∙ h.fresh b (omega (arith, same)) in
          cc
      go (inr ne) = place_other b ne ∙ e

  grown : Grows w0 w2
  grown b q e = grown_on b q (stand.grows b q e)

  -- a block is one of those that there were, or a parameter's
  record IsOld (b : ℕ) (x : Block) (q : Spot) : Type 0 where
    old : IsAt c0.store w0 b x q
    before : b < c0.next

  record IsNew (b : ℕ) (x : Block) (q : Spot) : Type 0 where
    object : ℕ
    among : is_among is object ≡ true
    named : block_in d.frames object ≡ Some b
    place : q ≡ spot_of g a object
    size : x.size ≡ bytes_of u object

  split : (b : ℕ) (x : Block) (q : Spot) → IsAt d.store w1 b x q → IsOld b x q ⊎ IsNew b x q
  split b x q at = go (cases_lt b c0.next) (cases_lt b d.next)
    where
      go : (b < c0.next) ⊎ (c0.next ≤ b) → (b < d.next) ⊎ (d.next ≤ b) → IsOld b x q ⊎ IsNew b x q
      go (inl lt) _ = let o = h.old b lt in inl (record { old = record { is = sym o.0 ∙ at.is; live = at.live; place = sym o.1 ∙ at.place }; before = lt })
      go (inr le) (inr more) =
          let clash : Some q ≡ None = sym at.place ∙ h.fresh b more in
          cc
      go (inr le) (inl lt) =
          let n = h.new b le lt in
          let named : block_in d.frames n.0 ≡ Some b = ap (λ fs. block_in fs n.0) h.frames ∙ n.2 in
          let x1 = h.begun n.0 n.1 in
          let same : Some x1.0 ≡ Some b = sym x1.1.named ∙ named in
          let one : x1.0 ≡ b = cc in
          let place : Some q ≡ Some (spot_of g a n.0) = sym at.place ∙ (ap w1 (sym one) ∙ x1.1.place) in
          let its : Some x ≡ Some x1.1.block = sym at.is ∙ (ap d.store (sym one) ∙ x1.1.is) in
          let equal : x ≡ x1.1.block = cc in
          inr (record { object = n.0; among = n.1; named = named; place = cc; size = ap (λ z. z.size) equal ∙ x1.1.size })

  -- what parameters have in memory lies above the further arguments
  new_above : (b : ℕ) (x : Block) (q : Spot) (i n : ℕ) → IsNew b x q → i < x.size → beyond q i ≡ At n → (a.base + (a.frame.soft + (saved_bytes a.frame.bank + a.raised)) ≤ n) × (n < a.base + call_bytes a)
  new_above b x (Banked e l) i n new lt z = cc
  new_above b x (At m) i n new lt z =
      let same : m + i ≡ n = cc in
      let within = called.homes.within new.object m i new.among (sym new.place) (omega (arith, lt, new.size)) in
      let high = called.above new.object m new.among (sym new.place) in
      (omega (arith, same, high), omega (arith, same, within))

  room : HasRoom d.store w1 d.next block.size (At from)
  room = record { new = h.fresh d.next (omega arith); lies = (omega (arith, base_low), omega (arith, called.raised, called.top, called.high)); free = free }
    where
      free : (b : ℕ) (x : Block) (q : Spot) → IsAt d.store w1 b x q → AreApart (At from) (length xs) q x.size
      free b x q at o p lo lp e = go (split b x q at)
        where
          go : IsOld b x q ⊎ IsNew b x q → ⊥
          go (inl old) = none_there (from + o) (omega arith) (omega (arith, lo, called.raised)) b x q p old.old lp (sym e)
          go (inr new) = let above = new_above b x q p (from + o) new lp (sym e) in omega (arith, above, lo, called.raised)

  stands : Stands c1.store w2 t1.mem k1
  stands = blocks_begin d.store w1 t1.mem k1 d.next block (At from) stand.stands room (omega arith) (λ o lt. cell_grows w0 w1 (nth_cell xs o) (t1.mem (from + o)) stand.grows (rest o lt))

  -- the third kind of block
  record IsFurther (b : ℕ) (x : Block) (q : Spot) : Type 0 where
    same : b ≡ d.next
    place : q ≡ At from
    size : x.size ≡ length xs

  data IsAny (b : ℕ) (x : Block) (q : Spot) : Type 0 where
    an_old : IsOld b x q → IsAny b x q
    a_new : IsNew b x q → IsAny b x q
    a_rest : IsFurther b x q → IsAny b x q

  any_of : (b : ℕ) (x : Block) (q : Spot) → IsOld b x q ⊎ IsNew b x q → IsAny b x q
  any_of b x q (inl o) = an_old o
  any_of b x q (inr n) = a_new n

  sort : (b : ℕ) (x : Block) (q : Spot) → IsAt c1.store w2 b x q → IsAny b x q
  sort b x q at = go (cases_eq b d.next)
    where
      go : (b ≡ d.next) ⊎ (b ≡ d.next → ⊥) → IsAny b x q
      go (inl same) =
          let its : Some block ≡ Some x = sym (block_same d.store d.next b block same) ∙ at.is in
          let equal : block ≡ x = cc in
          let there : Some q ≡ Some (At from) = sym at.place ∙ (ap w2 same ∙ place_here) in
          let place : q ≡ At from = cc in
          a_rest (record { same = same; place = place; size = sym (ap (λ z. z.size) equal) })
      go (inr ne) = any_of b x q (split b x q (record { is = sym (block_other d.store d.next b block ne) ∙ at.is; live = at.live; place = sym (place_other b ne) ∙ at.place }))

  further_there : (b : ℕ) (x : Block) (q : Spot) (i n : ℕ) → IsFurther b x q → i < x.size → beyond q i ≡ At n → (from ≤ n) × (n < a.base + call_bytes a)
  further_there b x q i n f lt e =
      let at : At (from + i) ≡ At n = ap (λ r. beyond r i) (sym f.place) ∙ e in
      let same : from + i ≡ n = cc in
      (omega (arith, same), omega (arith, same, lt, f.size, called.raised))

  low_free : (n : ℕ) → stack_start ≤ n → n < a.base + (a.frame.soft + saved_bytes a.frame.bank) → IsFree c1.store w2 (At n)
  low_free n lo hi b x q i at lt e = go (sort b x q at)
    where
      go : IsAny b x q → ⊥
      go (an_old o) = may.above n lo (omega (arith, hi, called.top)) b x q i o.old lt e
      go (a_new new) = let inside = new_above b x q i n new lt e in omega (arith, inside, hi)
      go (a_rest f) = let inside = further_there b x q i n f lt e in omega (arith, inside, hi)

  kept_free : (n : ℕ) → a.base + call_bytes a ≤ n → IsFree c0.store w0 (At n) → IsFree c1.store w2 (At n)
  kept_free n le free b x q i at lt e = go (sort b x q at)
    where
      go : IsAny b x q → ⊥
      go (an_old o) = free b x q i o.old lt e
      go (a_new new) = let inside = new_above b x q i n new lt e in omega (arith, inside, le)
      go (a_rest f) = let inside = further_there b x q i n f lt e in omega (arith, inside, le)

  -- ---- objects of the call

  abbrev active : Call
  active = record h.active { rest = Some d.next }

  frames : c1.frames ≡ active ∷ c0.frames
  frames = ap (λ fs. name_rest fs d.next) h.frames

  same_object : (i : ℕ) → block_in c1.frames i ≡ block_in d.frames i
  same_object i = ap (λ fs. block_in fs i) frames ∙ sym (ap (λ fs. block_in fs i) h.frames)

  object_named : (i b : ℕ) → block_in c1.frames i ≡ Some b → (is_among is i ≡ true) × HasBegun u (spot_of g a) (new_frame u a.func cost c0) d w1 i b
  object_named i b e = go (is_among is i) refl
    where
      go : (m : Bool) → is_among is i ≡ m → (is_among is i ≡ true) × HasBegun u (spot_of g a) (new_frame u a.func cost c0) d w1 i b
      go true f =
          let x = h.begun i f in
          let same : Some x.0 ≡ Some b = sym x.1.named ∙ (sym (same_object i) ∙ e) in
          let one : x.0 ≡ b = cc in
          (f, subst (λ n. HasBegun u (spot_of g a) (new_frame u a.func cost c0) d w1 i n) one x.1)
      go false f =
          let clash : Some b ≡ None = sym e ∙ (ap (λ fs. block_in fs i) frames ∙ h.others i f) in
          cc

  rest_named : rest_in c1.frames ≡ Some d.next
  rest_named = ap rest_in frames

  rest_is : (b : ℕ) → rest_in c1.frames ≡ Some b → b ≡ d.next
  rest_is b e = let same : Some b ≡ Some d.next = sym e ∙ rest_named in cc

  -- ---- the relation

  symbols : HaveSymbols g w2
  symbols = record { funcs = λ f lt. grown f _ (may.symbols.funcs f lt); literals = λ l lt. grown _ _ (may.symbols.literals l lt); objects = λ i no lt. grown _ _ (may.symbols.objects i no lt) }

  fixed : HaveFixed g c1 w2
  fixed = record { own = own; objects = subst (HaveOwnObjects u) (sym frames) (mine, may.fixed.objects); once = subst (AreOnce u) (sym frames) (alone, may.fixed.once) }
    where
      own : (i b o n : ℕ) (x : Block) (q : Spot) → is_fixed_object (object_in u i) ≡ true → IsAt c1.store w2 b x q → o < x.size → n < object_size u.types (object_in u i) → beyond q o ≡ At (symbol_at g i + n) → HasFor i b c1.frames
      own i b o n x q is_fixed at lt less e = go (sort b x q at)
        where
          go : IsAny b x q → HasFor i b c1.frames
          go (an_old old) = subst (HasFor i b) (sym frames) (inr (may.fixed.own i b o n x q is_fixed old.old lt less e))
          go (a_new new) =
              let inside = new_above b x q o (symbol_at g i + n) new lt e in
              let below = low i n is_fixed less in
              absurd (omega (arith, inside, below, base_low))
          go (a_rest f) =
              let inside = further_there b x q o (symbol_at g i + n) f lt e in
              let below = low i n is_fixed less in
              absurd (omega (arith, inside, below, base_low))

      mine : (i b : ℕ) → active.object i ≡ Some b → is_object_of (slice_get u.funcs active.func) i ≡ true
      mine i b e =
          let x = object_named i b (ap (λ fs. block_in fs i) frames ∙ e) in
          let func : slice_get u.funcs h.active.func ≡ Some called.function = ap (slice_get u.funcs) h.func ∙ called.is_function in
          let param : is_among called.function.params i ≡ true = ap (λ l. is_among l i) called.params ∙ x.0 in
          ap (λ f. is_object_of f i) func ∙ among_front called.function.params (locals_of called.function) i param

      alone : func_has_fixed u (slice_get u.funcs active.func) ≡ true → is_active active.func c0.frames ≡ false
      alone e = ap (λ f. is_active f c0.frames) h.func ∙ called.once (sym (ap (λ f. func_has_fixed u (slice_get u.funcs f)) h.func) ∙ e)

  since : (b : ℕ) → HasBlock c1 b → a.first ≤ b
  since b (inl x) = let y = object_named x.0 b x.1 in let first = y.1.first in omega (arith, first, called.first)
  since b (inr e) = let same = rest_is b e in let next = h.next in omega (arith, same, next, called.first)

  any_has : (b : ℕ) (x : Block) (q : Spot) → c0.next ≤ b → IsAny b x q → HasBlock c1 b
  any_has b x q le (an_old o) = absurd (let lt = o.before in omega (arith, lt, le))
  any_has b x q le (a_new new) = inl (new.object, same_object new.object ∙ new.named)
  any_has b x q le (a_rest f) = inr (rest_named ∙ ap Some (sym f.same))

  new_has : (b : ℕ) → c0.next ≤ b → is_live c1.store b ≡ true → HasBlock c1 b
  new_has b le live = go (c1.store b) refl
    where
      go : (o : Option Block) → c1.store b ≡ o → HasBlock c1 b
      go None e = let clash : true ≡ false = sym live ∙ ap lives_in e in cc
      go (Some x) e =
          let lives : x.live ≡ true = sym (ap lives_in e) ∙ live in
          let place = stands.placed b x e lives in
          any_has b x place.0 le (sort b x place.0 (record { is = e; live = lives; place = place.1 }))

  owned : (b : ℕ) (x : Block) (q : Spot) → IsAt c1.store w2 b x q → 0 < x.size → IsOfCall a q → HasBlock c1 b
  owned b x q at some inside = go (sort b x q at)
    where
      none : (r : Spot) → q ≡ r → IsOld b x r → IsOfCall a r → ⊥
      none (At n) e o here =
          let zero : n + 0 ≡ n = omega arith in
          none_there n (omega (arith, here)) (omega (arith, here)) b x (At n) 0 o.old some (ap At zero)
      none (Banked f l) e o here = let deep = may.shallow b x f l o.old some in omega (arith, deep, here)

      go : IsAny b x q → HasBlock c1 b
      go (an_old o) = absurd (none q refl o inside)
      go (a_new new) = inl (new.object, same_object new.object ∙ new.named)
      go (a_rest f) = inr (rest_named ∙ ap Some (sym f.same))

  reached : (b : ℕ) (x : Block) (at o : ℕ) → IsAt c1.store w2 b x (At at) → o < x.holds → IsTrue (g.place.is_data (at + o)) ⊎ (a.base ≤ at + o)
  reached b x at o is lt = go (sort b x (At at) is)
    where
      within : o < x.size
      within = let whole = stands.whole b x is.is in omega (arith, lt, whole)

      old : IsTrue (g.place.is_data (at + o)) ⊎ (bound ≤ at + o) → IsTrue (g.place.is_data (at + o)) ⊎ (a.base ≤ at + o)
      old (inl there) = inl there
      old (inr high) = inr (omega (arith, high, called.top))

      go : IsAny b x (At at) → IsTrue (g.place.is_data (at + o)) ⊎ (a.base ≤ at + o)
      go (an_old z) = old (may.reached b x at o z.old lt)
      go (a_new new) = let inside = new_above b x (At at) o (at + o) new within refl in inr (omega (arith, inside))
      go (a_rest f) = let inside = further_there b x (At at) o (at + o) f within refl in inr (omega (arith, inside))

  sealed : (b : ℕ) (x : Block) (at o v : ℕ) → IsAt c1.store w2 b x (At at) → o < x.holds → g.place.constant (at + o) ≡ Some v → x.sealed ≡ true
  sealed b x at o v is lt e = go (sort b x (At at) is)
    where
      below : at + o < stack_start
      below = constants_are_low g placed (at + o) v e

      within : o < x.size
      within = let whole = stands.whole b x is.is in omega (arith, lt, whole)

      go : IsAny b x (At at) → x.sealed ≡ true
      go (an_old z) = may.sealed b x at o v z.old lt e
      go (a_new new) = let inside = new_above b x (At at) o (at + o) new within refl in absurd (omega (arith, inside, below, base_low))
      go (a_rest f) = let inside = further_there b x (At at) o (at + o) f within refl in absurd (omega (arith, inside, below, base_low))

  soft_is : soft_sum c1.frames ≡ cost + soft_sum c0.frames
  soft_is = ap soft_sum frames ∙ ap (λ n. n + soft_sum c0.frames) h.cost

  hard_is : hard_sum c1.frames ≡ 2 + hard_sum c0.frames
  hard_is = ap hard_sum frames

  before : (b : ℕ) → b < c0.next → c1.store b ≡ d.store b
  before b lt = let next = h.next in block_other d.store d.next b block (λ z. omega (arith, z, lt, next))

  sized_params : AreSized u c1
  sized_params i b x e is =
      let has = (object_named i b e).1 in
      let last = has.last in
      let same_block : c1.store b ≡ d.store b = block_other d.store d.next b block (λ z. omega (arith, z, last)) in
      let both : Some x ≡ Some has.block = sym is ∙ (same_block ∙ has.is) in
      let same : x ≡ has.block = cc in
      ap (λ y. y.size) same ∙ has.size

  joined : Joins g a c1 w2 k1 t1
  joined = record {
    stands = stands;
    bank = λ i lt. own_byte i;
    symbols = symbols;
    fixed = fixed;
    sizes = sizes_stay u c0.store c1.store c0.next c1.next (let next = h.next in omega (arith, next)) (λ b lt. ap bounds_of (before b lt ∙ (h.old b lt).0)) may.sizes;
    sized = sized_params;
    fresh = λ b le. place_other b (λ e. omega (arith, e, le)) ∙ h.fresh b (omega (arith, le));
    homes = λ i b e. homed i b e;
    rests = λ b e. a_rest_of b (rest_is b e);
    since = since;
    begun = λ b le live. new_has b (omega (arith, le, called.first)) live;
    owned = owned;
    active = ap func_in frames ∙ h.func;
    calls = ap frames_below frames ∙ sym called.calls;
    as_many = called.as_many;
    above = λ n lo hi. low_free n lo (omega (arith, hi));
    reached = reached;
    constant = λ n v e. taken.mem n (inl (constants_are_low g placed n v e)) ∙ may.constant n v e;
    sealed = sealed;
    top = omega (arith, called.top, called.high);
    asked = h.free ∙ may.asked;
    few = omega (arith, soft_is, called.few);
    hard = hard_stays;
    few_calls = omega (arith, hard_is, called.few_calls);
    counted = λ v. count;
    count_free = λ v. low_free a.base base_low (omega (arith, called.counts));
    frames = taken.frames;
    input = taken.input ∙ (may.input ∙ sym h.input);
    read = subst (All (λ v. v < 256)) (sym h.input) may.read;
    output = taken.output ∙ (may.output ∙ sym h.out);
    ended = taken.ended ∙ may.ended;
    bytes = taken.bytes;
  }
    where
      homed : (i b : ℕ) → block_in c1.frames i ≡ Some b → w2 b ≡ Some (spot_of g a i)
      homed i b e = grown_on b (spot_of g a i) (object_named i b e).1.place

      a_rest_of : (b : ℕ) → b ≡ d.next → IsRest a c1 w2 b
      a_rest_of b same = record { block = block; is = block_same d.store d.next b block same; place = ap w2 same ∙ place_here; size = sym called.raised }

      hard_stays : 255 ≤ s_of t1 + length t1.pushed + hard_sum c1.frames
      hard_stays = let none : length t1.pushed ≡ 0 = ap length taken.none_pushed in omega (arith, none, hard_is, hard)

  open_params : AreOpen is c1
  open_params i b x e is live = (object_named i b e).0

  entered : HasEntered g a needs is c0 w0 k0 t0 c1 t1
  entered = record {
    placing = w2;
    between = record { joins = joined; sp = taken.sp; room = omega (arith, soft_is, called.room); scoped = open_params; sized = sized_params; call = (active, c0.frames, frames); none_pushed = taken.none_pushed };
    next = let next = h.next in omega (arith, next);
    bounds = λ b lt. ap bounds_of (before b lt ∙ (h.old b lt).0);
    grows = grown;
    kept = λ n le f. (taken.mem n (inr le), kept_free n le f);
    low = low_free;
  }

pub further_calls_are_entered : FurtherCallsAreEntered
further_calls_are_entered g a bound cost needs is args xs c0 d w0 k0 t0 t1 placed low may taken called passed rest count hard meant = entered g a bound cost needs is args xs c0 d w0 k0 t0 t1 placed low may taken called passed rest count hard meant
