-- An object of a block begins (C90 6.1.2.4).
use Rattle.std.proofs.Common.{◌≡◌, ◌≢◌, ℕ, ◌+◌, ◌-◌, ◌<◌, ◌≤◌, ◌⊎◌, inl, inr, List, [], ◌∷◌, Option, Some, None, Bool, true, false, refl, sym, ap, ◌∙◌, subst, arith}
use Rattle.std.specs.Prelude.{◌==◌, ◌||◌, IsTrue, if◌then◌else◌, length, slice_get}
use Rattle.std.proofs.lemmas.Bool.{cases_eq, cases_lt, eq-eqb}
use Rattle.std.proofs.lemmas.Bool.Decides.{nat_tests}
use Rattle.c65_csem.specs.Trees.{UnitTy}
use Rattle.c65_csem.specs.Places.{is_fixed_object}
use Rattle.c65_meaning.specs.Store.{Block, lives_in, is_live, unset_block}
use Rattle.c65_meaning.specs.Shapes.{object_in, object_sealed}
use Rattle.c65_meaning.specs.After.{is_among}
use Rattle.c65_meaning.specs.State.{Scene, Frame as Call, block_in, rest_in, soft_sum, hard_sum, name_object, with_object}
use Rattle.c65_meaning.specs.Step.{func_in, frames_below, is_active, begin_object}
use Rattle.c65_code.specs.LineState.{State}
use Rattle.c65_code.specs.Placement.{stack_start}
use Rattle.c65_genframe.specs.declared.home.Home.{Home}
use Rattle.c65_genframe.specs.declared.home.Home.TheVariants as homes
use Rattle.c65_genframe.specs.Frames.{home_of, saved_bytes}
use Rattle.c65_agree_store.specs.Stands.{Spot, At, Banked, Placing, Banks, Grows, beyond, IsAt, AreApart, IsFree, Stands as StoreStands}
use Rattle.c65_agree_store.specs.Laws.{put_at}
use Rattle.c65_agree_store.proofs.Keep.{block_same, block_other, unset_blocks_begin}
use Rattle.c65_agree_state.specs.World.{World, unit_in, Active}
use Rattle.c65_agree_state.specs.Fixed.{symbol_at, HasFor, is_object_of, HaveOwnObjects, AreOnce, func_has_fixed}
use Rattle.c65_agree_state.specs.Sizes.{AreSized}
use Rattle.c65_agree_state.specs.Joins.{Joins, HasBlock, IsRest, IsOfCall, home_spot, spot_of}
use Rattle.c65_agree_state.specs.Exprs.{bounds_of}
use Rattle.c65_agree_between.specs.Stmts.{AreOpen}
use Rattle.c65_agree_state.proofs.Followed.{ready_is_calm}
use Rattle.c65_agree_state.proofs.Scratch.{constants_are_low}
use Rattle.c65_agree_state.proofs.Parts.{sizes_stay}
use Rattle.c65_agree_stmts.specs.Calling.{Calling}
use Rattle.c65_agree_stmts.specs.Objects.{bytes_of, IsFramed, IsFixed, MayBegin, HasGround}
use Rattle.c65_agree_stmts.proofs.Standing.{Stands, ready}

-- ---- lists of calls

soft_named : (fs : List Call) (i b : ℕ) → soft_sum (name_object fs i b) ≡ soft_sum fs
soft_named [] i b = refl
soft_named (f ∷ fs) i b = refl

hard_named : (fs : List Call) (i b : ℕ) → hard_sum (name_object fs i b) ≡ hard_sum fs
hard_named [] i b = refl
hard_named (f ∷ fs) i b = refl

func_named : (fs : List Call) (i b : ℕ) → func_in (name_object fs i b) ≡ func_in fs
func_named [] i b = refl
func_named (f ∷ fs) i b = refl

below_named : (fs : List Call) (i b : ℕ) → frames_below (name_object fs i b) ≡ frames_below fs
below_named [] i b = refl
below_named (f ∷ fs) i b = refl

rest_named : (fs : List Call) (i b : ℕ) → rest_in (name_object fs i b) ≡ rest_in fs
rest_named [] i b = refl
rest_named (f ∷ fs) i b = refl

-- a call that has a block for the object is one of its function
for_active : (u : UnitTy) (func i d : ℕ) → ((f : ℕ) → is_object_of (slice_get u.funcs f) i ≡ true → f ≡ func) → (fs : List Call) → HaveOwnObjects u fs → HasFor i d fs → is_active func fs ≡ true
for_active u func i d alone [] own h = absurd h
for_active u func i d alone (f ∷ fs) own (inl e) = go (f.func == func) (eq-eqb f.func func (alone f.func (own.0 i d e)))
  where
    go : (b : Bool) → b ≡ true → b || is_active func fs ≡ true
    go true e = refl
    go false e = cc
for_active u func i d alone (f ∷ fs) own (inr h) = go (f.func == func) (for_active u func i d alone fs own.1 h)
  where
    go : (b : Bool) → is_active func fs ≡ true → b || is_active func fs ≡ true
    go true e = refl
    go false e = e

-- what of regbank a home of the active call is, is its own
own_bank : (g : World) (a : Active) (i d b : ℕ) → spot_of g a i ≡ Banked d b → d ≡ length a.behind
own_bank g a i d b e = go (home_of a.frame i) e
  where
    go : (h : Option Home) → home_spot g a i h ≡ Banked d b → d ≡ length a.behind
    go None e = cc
    go (Some (homes.Bank n)) e = let same : length a.behind ≡ d = cc in sym same
    go (Some (homes.Soft n)) e = cc

module _ (x : Calling) (ground : HasGround x) (scope : List ℕ) (i : ℕ) (may : MayBegin x scope i) (c : Scene) (q : Placing) (b : Banks) (t : State) (h : Stands x scope c q b t) where
  abbrev g : World
  g = x.world

  abbrev a : Active
  a = x.active

  abbrev u : UnitTy
  u = unit_in x.world

  abbrev spot : Spot
  spot = spot_of x.world x.active i

  abbrev size : ℕ
  size = bytes_of x.world i

  abbrev j : Joins x.world x.active c q b t
  j = h.between.joins

  base_low : stack_start + 64 ≤ a.base
  base_low =
      let stacks = ready_is_calm g a 0 x.needs c q b t (ready x scope c q b t h x.needs (omega arith)) in
      omega (arith, stacks.soft, h.between.sp)

  -- ---- no live block has a byte there

  not_open : (d : ℕ) (y : Block) (r : Spot) → block_in c.frames i ≡ Some d → IsAt c.store q d y r → ⊥
  not_open d y r named at =
      let clash : true ≡ false = sym (h.between.scoped i d y named at.is at.live) ∙ may.closed in
      cc

  named_apart : (m d : ℕ) (y : Block) (r : Spot) → block_in c.frames m ≡ Some d → IsAt c.store q d y r → AreApart spot size r y.size
  named_apart m d y r named at =
      let both : Some r ≡ Some (spot_of g a m) = sym at.place ∙ j.homes m d named in
      let there : r ≡ spot_of g a m = cc in
      let bytes : y.size ≡ bytes_of g m = h.between.sized m d y named at.is in
      rw (there, bytes) (may.apart m (h.between.scoped m d y named at.is at.live))

  -- the further arguments lie above the automatic objects
  rest_apart : IsFramed g a i → (d : ℕ) (y : Block) (r : Spot) → rest_in c.frames ≡ Some d → IsAt c.store q d y r → (o l : ℕ) → o < size → beyond spot o ≡ beyond r l → ⊥
  rest_apart framed d y r e at o l lo same = go spot refl
    where
      there : r ≡ At (a.base + a.frame.soft + saved_bytes a.frame.bank)
      there =
          let both : Some r ≡ Some (At (a.base + a.frame.soft + saved_bytes a.frame.bank)) = sym at.place ∙ (j.rests d e).place in
          cc

      go : (s : Spot) → spot ≡ s → ⊥
      go (At n) f =
          let within = framed.within n o f lo in
          let eq : At (n + o) ≡ At (a.base + a.frame.soft + saved_bytes a.frame.bank + l) = ap (λ s. beyond s o) (sym f) ∙ (same ∙ ap (λ s. beyond s l) there) in
          let nums : n + o ≡ a.base + a.frame.soft + saved_bytes a.frame.bank + l = cc in
          omega (arith, within.1, nums)
      go (Banked e2 n) f =
          let eq : Banked e2 (n + o) ≡ At (a.base + a.frame.soft + saved_bytes a.frame.bank + l) = ap (λ s. beyond s o) (sym f) ∙ (same ∙ ap (λ s. beyond s l) there) in
          cc

  own_apart : IsFramed g a i → (d : ℕ) (y : Block) (r : Spot) → IsAt c.store q d y r → HasBlock c d → AreApart spot size r y.size
  own_apart framed d y r at (inl named) o l lo hi same = named_apart named.0 d y r named.1 at o l lo hi same
  own_apart framed d y r at (inr e) o l lo hi same = rest_apart framed d y r e at o l lo same

  -- a block that has such a byte is one of the call
  of_call : IsFramed g a i → (d : ℕ) (y : Block) (r : Spot) → IsAt c.store q d y r → (o l : ℕ) → o < size → l < y.size → beyond spot o ≡ beyond r l → IsOfCall a r
  of_call framed d y (At m) at o l lo hi same = go spot refl
    where
      go : (s : Spot) → spot ≡ s → IsOfCall a (At m)
      go (At n) f =
          let within = framed.within n o f lo in
          let eq : At (n + o) ≡ At (m + l) = ap (λ s. beyond s o) (sym f) ∙ same in
          let nums : n + o ≡ m + l = cc in
          (by (cases_lt m a.base) nums within, omega (arith, within.1, nums))
        where
          by : (m < a.base) ⊎ (a.base ≤ m) → n + o ≡ m + l → (a.base ≤ n) × (n + o < a.base + a.frame.soft) × (a.frame.variadic ≡ true → a.base < n) → a.base ≤ m
          by (inr le) nums within = le
          by (inl lt) nums within =
              let last : At (m + (a.base - 1 - m)) ≡ At (a.base - 1) = ap At (omega (arith, lt)) in
              absurd (j.above (a.base - 1) (omega (arith, base_low)) (omega (arith, base_low)) d y (At m) (a.base - 1 - m) at (omega (arith, lt, hi, nums, within.0)) last)
      go (Banked e2 n) f =
          let eq : Banked e2 (n + o) ≡ At (m + l) = ap (λ s. beyond s o) (sym f) ∙ same in
          cc
  of_call framed d y (Banked e m) at o l lo hi same = go spot refl
    where
      go : (s : Spot) → spot ≡ s → length a.behind ≤ e
      go (At n) f =
          let eq : At (n + o) ≡ Banked e (m + l) = ap (λ s. beyond s o) (sym f) ∙ same in
          cc
      go (Banked e2 n) f =
          let eq : Banked e2 (n + o) ≡ Banked e (m + l) = ap (λ s. beyond s o) (sym f) ∙ same in
          let level : e2 ≡ e = cc in
          omega (arith, level, own_bank g a i e2 n f)

  framed_apart : IsFramed g a i → (d : ℕ) (y : Block) (r : Spot) → IsAt c.store q d y r → AreApart spot size r y.size
  framed_apart framed d y r at o l lo hi same =
      own_apart framed d y r at (j.owned d y r at (omega (arith, hi)) (of_call framed d y r at o l lo hi same)) o l lo hi same

  -- where it has one place for the whole run, an active call had the block
  fixed_apart : IsFixed g a i → (d : ℕ) (y : Block) (r : Spot) → IsAt c.store q d y r → AreApart spot size r y.size
  fixed_apart fixed d y r at o l lo hi same =
      go (subst (HasFor i d) h.between.call.2 (j.fixed.own i d l o y r fixed.fixed at hi lo (sym same ∙ ap (λ s. beyond s o) fixed.spot)))
    where
      active : h.between.call.0.func ≡ a.func
      active = sym (ap func_in h.between.call.2) ∙ j.active

      objects : HaveOwnObjects u (h.between.call.0 ∷ h.between.call.1)
      objects = subst (HaveOwnObjects u) h.between.call.2 j.fixed.objects

      once : AreOnce u (h.between.call.0 ∷ h.between.call.1)
      once = subst (AreOnce u) h.between.call.2 j.fixed.once

      go : HasFor i d (h.between.call.0 ∷ h.between.call.1) → ⊥
      go (inl e) = not_open d y r (ap (λ fs. block_in fs i) h.between.call.2 ∙ e) at
      go (inr e) =
          let is : is_active a.func h.between.call.1 ≡ true = for_active u a.func i d fixed.alone h.between.call.1 objects.1 e in
          let not : is_active h.between.call.0.func h.between.call.1 ≡ false = once.0 (ap (λ f. func_has_fixed u (slice_get u.funcs f)) active ∙ fixed.once) in
          let clash : true ≡ false = sym is ∙ (ap (λ f. is_active f h.between.call.1) (sym active) ∙ not) in
          cc

  all_apart : (d : ℕ) (y : Block) (r : Spot) → IsAt c.store q d y r → AreApart spot size r y.size
  all_apart d y r at = go may.home
    where
      go : IsFramed g a i ⊎ IsFixed g a i → AreApart spot size r y.size
      go (inl framed) = framed_apart framed d y r at
      go (inr fixed) = fixed_apart fixed d y r at

  -- ---- the scene in which it has begun

  abbrev c2 : Scene
  c2 = begin_object u i c

  abbrev pub q2 : Placing
  q2 = put_at q c.next spot

  abbrev new : Block
  new = unset_block size (object_sealed (object_in u i))

  store_here : c2.store c.next ≡ Some new
  store_here = block_same c.store c.next c.next new refl

  store_other : (d : ℕ) → d ≢ c.next → c2.store d ≡ c.store d
  store_other d ne = block_other c.store c.next d new ne

  place_here : q2 c.next ≡ Some spot
  place_here = grind (arith, nat_tests)

  place_other : (d : ℕ) → d ≢ c.next → q2 d ≡ q d
  place_other d ne = grind (arith, nat_tests)

  -- what has a place is no block that is still to come
  old : (d : ℕ) (r : Spot) → q d ≡ Some r → d ≢ c.next
  old d r e same =
      let clash : Some r ≡ None = sym e ∙ j.fresh d (omega (arith, same)) in
      cc

  grown : Grows q q2
  grown d r e = place_other d (old d r e) ∙ e

  stands_new : StoreStands c2.store q2 t.mem b
  stands_new = unset_blocks_begin c.store q t.mem b c.next size (object_sealed (object_in u i)) spot j.stands (record { new = j.fresh c.next (omega arith); lies = may.lies; free = all_apart })

  -- a block of the new scene
  split : (d : ℕ) (y : Block) (r : Spot) → IsAt c2.store q2 d y r → ((d ≡ c.next) × (y ≡ new) × (r ≡ spot)) ⊎ ((d ≢ c.next) × IsAt c.store q d y r)
  split d y r at = go (cases_eq d c.next)
    where
      go : (d ≡ c.next) ⊎ (d ≡ c.next → ⊥) → ((d ≡ c.next) × (y ≡ new) × (r ≡ spot)) ⊎ ((d ≢ c.next) × IsAt c.store q d y r)
      go (inl same) =
          let blocks : Some y ≡ Some new = sym at.is ∙ (ap c2.store same ∙ store_here) in
          let spots : Some r ≡ Some spot = sym at.place ∙ (ap q2 same ∙ place_here) in
          let block : y ≡ new = cc in
          let place : r ≡ spot = cc in
          inl (same, block, place)
      go (inr ne) = inr (ne, record { is = sym (store_other d ne) ∙ at.is; live = at.live; place = sym (place_other d ne) ∙ at.place })

  -- ---- its names

  abbrev f : Call
  f = h.between.call.0

  abbrev fs : List Call
  fs = h.between.call.1

  frames_new : c2.frames ≡ with_object f i c.next ∷ fs
  frames_new = ap (λ z. name_object z i c.next) h.between.call.2

  named_here : block_in c2.frames i ≡ Some c.next
  named_here = ap (λ z. block_in z i) frames_new ∙ grind (arith, nat_tests)

  named_other : (m : ℕ) → m ≢ i → block_in c2.frames m ≡ block_in c.frames m
  named_other m ne = ap (λ z. block_in z m) frames_new ∙ (other ∙ sym (ap (λ z. block_in z m) h.between.call.2))
    where
      other : (with_object f i c.next).object m ≡ f.object m
      other = grind (arith, nat_tests)

  named : (m d : ℕ) → block_in c2.frames m ≡ Some d → ((m ≡ i) × (d ≡ c.next)) ⊎ ((m ≢ i) × (block_in c.frames m ≡ Some d))
  named m d e = go (cases_eq m i)
    where
      go : (m ≡ i) ⊎ (m ≡ i → ⊥) → ((m ≡ i) × (d ≡ c.next)) ⊎ ((m ≢ i) × (block_in c.frames m ≡ Some d))
      go (inl same) =
          let both : Some d ≡ Some c.next = sym e ∙ (ap (block_in c2.frames) same ∙ named_here) in
          let here : d ≡ c.next = cc in
          inl (same, here)
      go (inr ne) = inr (ne, sym (named_other m ne) ∙ e)

  rests_new : rest_in c2.frames ≡ rest_in c.frames
  rests_new = rest_named c.frames i c.next

  -- a live block of the call has its name still
  has_later : (d : ℕ) (y : Block) (r : Spot) → IsAt c.store q d y r → HasBlock c d → HasBlock c2 d
  has_later d y r at (inr e) = inr (rests_new ∙ e)
  has_later d y r at (inl e) = go (cases_eq e.0 i)
    where
      go : (e.0 ≡ i) ⊎ (e.0 ≡ i → ⊥) → HasBlock c2 d
      go (inl same) = absurd (not_open d y r (ap (block_in c.frames) (sym same) ∙ e.1) at)
      go (inr ne) = inl (e.0, named_other e.0 ne ∙ e.1)

  for_later : (m d : ℕ) (y : Block) (r : Spot) → IsAt c.store q d y r → HasFor m d c.frames → HasFor m d c2.frames
  for_later m d y r at e = subst (HasFor m d) (sym frames_new) (go (subst (HasFor m d) h.between.call.2 e))
    where
      go : HasFor m d (f ∷ fs) → HasFor m d (with_object f i c.next ∷ fs)
      go (inr deep) = inr deep
      go (inl e) = by (cases_eq m i)
        where
          by : (m ≡ i) ⊎ (m ≡ i → ⊥) → HasFor m d (with_object f i c.next ∷ fs)
          by (inl same) = absurd (not_open d y r (ap (λ z. block_in z i) h.between.call.2 ∙ (ap f.object (sym same) ∙ e)) at)
          by (inr ne) = inl (sym (ap (λ z. block_in z m) frames_new) ∙ (named_other m ne ∙ (ap (λ z. block_in z m) h.between.call.2 ∙ e)))

  -- ---- its bytes

  -- each lies in the call's frame, below the further arguments, or below the software stack
  byte_there : (n o : ℕ) → o < size → beyond spot o ≡ At n → ((a.base ≤ n) × (n < a.base + a.frame.soft) × (a.frame.variadic ≡ true → a.base < n)) ⊎ (IsFixed g a i × (n ≡ symbol_at g i + o) × (n < stack_start))
  byte_there n o lo e = go may.home
    where
      go : IsFramed g a i ⊎ IsFixed g a i → ((a.base ≤ n) × (n < a.base + a.frame.soft) × (a.frame.variadic ≡ true → a.base < n)) ⊎ (IsFixed g a i × (n ≡ symbol_at g i + o) × (n < stack_start))
      go (inr fixed) =
          let both : At n ≡ At (symbol_at g i + o) = sym e ∙ ap (λ s. beyond s o) fixed.spot in
          let same : n ≡ symbol_at g i + o = cc in
          let low = ground.low i o fixed.fixed lo in
          inr (fixed, same, omega (arith, same, low))
      go (inl framed) = by spot refl
        where
          by : (s : Spot) → spot ≡ s → ((a.base ≤ n) × (n < a.base + a.frame.soft) × (a.frame.variadic ≡ true → a.base < n)) ⊎ (IsFixed g a i × (n ≡ symbol_at g i + o) × (n < stack_start))
          by (At m) e2 =
              let within = framed.within m o e2 lo in
              let both : At (m + o) ≡ At n = ap (λ s. beyond s o) (sym e2) ∙ e in
              let same : m + o ≡ n = cc in
              inl (omega (arith, same, within.0), omega (arith, same, within.1), λ v. let above = within.2 v in omega (arith, same, above))
          by (Banked d m) e2 =
              let both : Banked d (m + o) ≡ At n = ap (λ s. beyond s o) (sym e2) ∙ e in
              cc

  free_new : (n : ℕ) → ((o : ℕ) → o < size → beyond spot o ≡ At n → ⊥) → IsFree c.store q (At n) → IsFree c2.store q2 (At n)
  free_new n none before d y r o at lt e = go (split d y r at)
    where
      go : ((d ≡ c.next) × (y ≡ new) × (r ≡ spot)) ⊎ ((d ≢ c.next) × IsAt c.store q d y r) → ⊥
      go (inr is) = before d y r o is.1 lt e
      go (inl is) =
          let bytes : y.size ≡ size = ap (λ z. z.size) is.1 in
          none o (omega (arith, lt, bytes)) (ap (λ s. beyond s o) (sym is.2) ∙ e)

  -- ---- the relation

  own_new : (m d o n : ℕ) (y : Block) (r : Spot) → is_fixed_object (object_in u m) ≡ true → IsAt c2.store q2 d y r → o < y.size → n < bytes_of g m → beyond r o ≡ At (symbol_at g m + n) → HasFor m d c2.frames
  own_new m d o n y r fixed at lt less e = go (split d y r at)
    where
      go : ((d ≡ c.next) × (y ≡ new) × (r ≡ spot)) ⊎ ((d ≢ c.next) × IsAt c.store q d y r) → HasFor m d c2.frames
      go (inr is) = for_later m d y r is.1 (j.fixed.own m d o n y r fixed is.1 lt less e)
      go (inl is) = by (byte_there (symbol_at g m + n) o lo (ap (λ s. beyond s o) (sym is.2) ∙ e))
        where
          lo : o < size
          lo = let bytes : y.size ≡ size = ap (λ z. z.size) is.1 in omega (arith, lt, bytes)

          by : ((a.base ≤ symbol_at g m + n) × (symbol_at g m + n < a.base + a.frame.soft) × (a.frame.variadic ≡ true → a.base < symbol_at g m + n)) ⊎ (IsFixed g a i × (symbol_at g m + n ≡ symbol_at g i + o) × (symbol_at g m + n < stack_start)) → HasFor m d c2.frames
          by (inl framed) = let low = ground.low m n fixed less in absurd (omega (arith, framed.0, low, base_low))
          by (inr here) =
              let same : m ≡ i = here.0.apart m n o fixed less lo here.1 in
              subst (HasFor m d) (sym frames_new) (inl (sym (ap (λ z. block_in z m) frames_new) ∙ (ap (block_in c2.frames) same ∙ (named_here ∙ ap Some (sym is.0)))))

  objects_new : HaveOwnObjects u c2.frames
  objects_new = subst (HaveOwnObjects u) (sym frames_new) (mine, before.1)
    where
      before : HaveOwnObjects u (f ∷ fs)
      before = subst (HaveOwnObjects u) h.between.call.2 j.fixed.objects

      active : f.func ≡ a.func
      active = sym (ap func_in h.between.call.2) ∙ j.active

      mine : (m d : ℕ) → (with_object f i c.next).object m ≡ Some d → is_object_of (slice_get u.funcs f.func) m ≡ true
      mine m d e = go (named m d (ap (λ z. block_in z m) frames_new ∙ e))
        where
          go : ((m ≡ i) × (d ≡ c.next)) ⊎ ((m ≢ i) × (block_in c.frames m ≡ Some d)) → is_object_of (slice_get u.funcs f.func) m ≡ true
          go (inl here) = ap (is_object_of (slice_get u.funcs f.func)) here.0 ∙ (ap (λ n. is_object_of (slice_get u.funcs n) i) active ∙ may.object)
          go (inr there) = before.0 m d (sym (ap (λ z. block_in z m) h.between.call.2) ∙ there.1)

  once_new : AreOnce u c2.frames
  once_new = subst (AreOnce u) (sym frames_new) (subst (AreOnce u) h.between.call.2 j.fixed.once)

  rest_later : (d : ℕ) → rest_in c2.frames ≡ Some d → IsRest a c2 q2 d
  rest_later d e =
      let r = j.rests d (sym rests_new ∙ e) in
      let ne = old d (At (a.base + a.frame.soft + saved_bytes a.frame.bank)) r.place in
      record { block = r.block; is = store_other d ne ∙ r.is; place = place_other d ne ∙ r.place; size = r.size }

  home_new : (m d : ℕ) → block_in c2.frames m ≡ Some d → q2 d ≡ Some (spot_of g a m)
  home_new m d e = go (named m d e)
    where
      go : ((m ≡ i) × (d ≡ c.next)) ⊎ ((m ≢ i) × (block_in c.frames m ≡ Some d)) → q2 d ≡ Some (spot_of g a m)
      go (inl here) = ap q2 here.1 ∙ (place_here ∙ ap (λ n. Some (spot_of g a n)) (sym here.0))
      go (inr there) = grown d (spot_of g a m) (j.homes m d there.1)

  first_before : a.first ≤ c.next
  first_before = let later = h.keeping.next in let first = ground.first in omega (arith, later, first)

  since_new : (d : ℕ) → HasBlock c2 d → a.first ≤ d
  since_new d (inr e) = j.since d (inr (sym rests_new ∙ e))
  since_new d (inl e) = go (named e.0 d e.1)
    where
      go : ((e.0 ≡ i) × (d ≡ c.next)) ⊎ ((e.0 ≢ i) × (block_in c.frames e.0 ≡ Some d)) → a.first ≤ d
      go (inl here) = let same = here.1 in omega (arith, same, first_before)
      go (inr there) = j.since d (inl (e.0, there.1))

  begun_new : (d : ℕ) → a.first ≤ d → is_live c2.store d ≡ true → HasBlock c2 d
  begun_new d le live = go (c2.store d) refl
    where
      go : (o : Option Block) → c2.store d ≡ o → HasBlock c2 d
      go None e = let clash : true ≡ false = sym live ∙ ap lives_in e in cc
      go (Some y) e = by (split d y place.0 at)
        where
          lives : y.live ≡ true
          lives = sym (ap lives_in e) ∙ live

          place : (r : Spot) × (q2 d ≡ Some r)
          place = stands_new.placed d y e lives

          at : IsAt c2.store q2 d y place.0
          at = record { is = e; live = lives; place = place.1 }

          by : ((d ≡ c.next) × (y ≡ new) × (place.0 ≡ spot)) ⊎ ((d ≢ c.next) × IsAt c.store q d y place.0) → HasBlock c2 d
          by (inl is) = inl (i, named_here ∙ ap Some (sym is.0))
          by (inr is) = has_later d y place.0 is.1 (j.begun d le (ap lives_in is.1.is ∙ is.1.live))

  owned_new : (d : ℕ) (y : Block) (r : Spot) → IsAt c2.store q2 d y r → 0 < y.size → IsOfCall a r → HasBlock c2 d
  owned_new d y r at some of = go (split d y r at)
    where
      go : ((d ≡ c.next) × (y ≡ new) × (r ≡ spot)) ⊎ ((d ≢ c.next) × IsAt c.store q d y r) → HasBlock c2 d
      go (inl is) = inl (i, named_here ∙ ap Some (sym is.0))
      go (inr is) = has_later d y r is.1 (j.owned d y r is.1 some of)

  above_new : (n : ℕ) → stack_start ≤ n → n < a.base → IsFree c2.store q2 (At n)
  above_new n lo hi = free_new n none (j.above n lo hi)
    where
      none : (o : ℕ) → o < size → beyond spot o ≡ At n → ⊥
      none o lt e = go (byte_there n o lt e)
        where
          go : ((a.base ≤ n) × (n < a.base + a.frame.soft) × (a.frame.variadic ≡ true → a.base < n)) ⊎ (IsFixed g a i × (n ≡ symbol_at g i + o) × (n < stack_start)) → ⊥
          go (inl framed) = omega (arith, framed.0, hi)
          go (inr fixed) = omega (arith, fixed.2, lo)

  reached_new : (d : ℕ) (y : Block) (at o : ℕ) → IsAt c2.store q2 d y (At at) → o < y.holds → IsTrue (g.place.is_data (at + o)) ⊎ (a.base ≤ at + o)
  reached_new d y at o is lt = go (split d y (At at) is)
    where
      go : ((d ≡ c.next) × (y ≡ new) × (At at ≡ spot)) ⊎ ((d ≢ c.next) × IsAt c.store q d y (At at)) → IsTrue (g.place.is_data (at + o)) ⊎ (a.base ≤ at + o)
      go (inr there) = j.reached d y at o there.1 lt
      go (inl here) = by (byte_there (at + o) o lo (ap (λ s. beyond s o) (sym here.2)))
        where
          lo : o < size
          lo = let bytes : y.holds ≡ size = ap (λ z. z.holds) here.1 in omega (arith, lt, bytes)

          by : ((a.base ≤ at + o) × (at + o < a.base + a.frame.soft) × (a.frame.variadic ≡ true → a.base < at + o)) ⊎ (IsFixed g a i × (at + o ≡ symbol_at g i + o) × (at + o < stack_start)) → IsTrue (g.place.is_data (at + o)) ⊎ (a.base ≤ at + o)
          by (inl framed) = inr framed.0
          by (inr fixed) = inl (subst (λ n. IsTrue (g.place.is_data n)) (sym fixed.1) (fixed.0.reached o lo))

  sealed_new : (d : ℕ) (y : Block) (at o v : ℕ) → IsAt c2.store q2 d y (At at) → o < y.holds → g.place.constant (at + o) ≡ Some v → y.sealed ≡ true
  sealed_new d y at o v is lt e = go (split d y (At at) is)
    where
      go : ((d ≡ c.next) × (y ≡ new) × (At at ≡ spot)) ⊎ ((d ≢ c.next) × IsAt c.store q d y (At at)) → y.sealed ≡ true
      go (inr there) = j.sealed d y at o v there.1 lt e
      go (inl here) = by (byte_there (at + o) o lo (ap (λ s. beyond s o) (sym here.2)))
        where
          lo : o < size
          lo = let bytes : y.holds ≡ size = ap (λ z. z.holds) here.1 in omega (arith, lt, bytes)

          by : ((a.base ≤ at + o) × (at + o < a.base + a.frame.soft) × (a.frame.variadic ≡ true → a.base < at + o)) ⊎ (IsFixed g a i × (at + o ≡ symbol_at g i + o) × (at + o < stack_start)) → y.sealed ≡ true
          by (inl framed) = let low = constants_are_low g ground.placed (at + o) v e in absurd (omega (arith, framed.0, low, base_low))
          by (inr fixed) = ap (λ z. z.sealed) here.1 ∙ fixed.0.sealed o v lo (sym (ap g.place.constant fixed.1) ∙ e)

  count_new : a.frame.variadic ≡ true → IsFree c2.store q2 (At a.base)
  count_new v = free_new a.base none (j.count_free v)
    where
      none : (o : ℕ) → o < size → beyond spot o ≡ At a.base → ⊥
      none o lt e = go (byte_there a.base o lt e)
        where
          go : ((a.base ≤ a.base) × (a.base < a.base + a.frame.soft) × (a.frame.variadic ≡ true → a.base < a.base)) ⊎ (IsFixed g a i × (a.base ≡ symbol_at g i + o) × (a.base < stack_start)) → ⊥
          go (inl framed) = let above = framed.2 v in omega (arith, above)
          go (inr fixed) = omega (arith, fixed.2, base_low)

  soft_is : soft_sum c2.frames ≡ soft_sum c.frames
  soft_is = soft_named c.frames i c.next

  hard_is : hard_sum c2.frames ≡ hard_sum c.frames
  hard_is = hard_named c.frames i c.next

  sized_new : AreSized u c2
  sized_new m d y e is = go (named m d e)
    where
      go : ((m ≡ i) × (d ≡ c.next)) ⊎ ((m ≢ i) × (block_in c.frames m ≡ Some d)) → y.size ≡ bytes_of g m
      go (inl here) =
          let both : Some y ≡ Some new = sym is ∙ (ap c2.store here.1 ∙ store_here) in
          let block : y ≡ new = cc in
          ap (λ z. z.size) block ∙ ap (bytes_of g) (sym here.0)
      go (inr there) =
          let ne = old d (spot_of g a m) (j.homes m d there.1) in
          h.between.sized m d y there.1 (sym (store_other d ne) ∙ is)

  joins_new : Joins g a c2 q2 b t
  joins_new = record {
    stands = stands_new;
    bank = j.bank;
    symbols = record { funcs = λ n lt. grown n _ (j.symbols.funcs n lt); literals = λ l lt. grown _ _ (j.symbols.literals l lt); objects = λ n lasting lt. grown _ _ (j.symbols.objects n lasting lt) };
    fixed = record { own = own_new; objects = objects_new; once = once_new };
    sizes = sizes_stay u c.store c2.store c.next c2.next (omega arith) (λ d lt. ap bounds_of (store_other d (λ e. omega (arith, e, lt)))) j.sizes;
    sized = sized_new;
    fresh = λ d le. place_other d (λ e. omega (arith, e, le)) ∙ j.fresh d (omega (arith, le));
    homes = home_new;
    rests = rest_later;
    since = since_new;
    begun = begun_new;
    owned = owned_new;
    active = func_named c.frames i c.next ∙ j.active;
    calls = below_named c.frames i c.next ∙ j.calls;
    as_many = j.as_many;
    above = above_new;
    reached = reached_new;
    constant = j.constant;
    sealed = sealed_new;
    top = j.top;
    asked = j.asked;
    few = omega (arith, soft_is, j.few);
    hard = omega (arith, hard_is, j.hard);
    few_calls = omega (arith, hard_is, j.few_calls);
    counted = j.counted;
    count_free = count_new;
    frames = j.frames;
    input = j.input;
    read = j.read;
    output = j.output;
    ended = j.ended;
    bytes = j.bytes;
  }

  -- ---- between statements

  open_new : AreOpen (i ∷ scope) c2
  open_new m d y e is live = go (named m d e)
    where
      go : ((m ≡ i) × (d ≡ c.next)) ⊎ ((m ≢ i) × (block_in c.frames m ≡ Some d)) → is_among (i ∷ scope) m ≡ true
      go (inl here) = ap (λ z. if z then true else is_among scope m) (eq-eqb i m (sym here.0))
      go (inr there) =
          let ne = old d (spot_of g a m) (j.homes m d there.1) in
          later (h.between.scoped m d y there.1 (sym (store_other d ne) ∙ is) live)
        where
          later : is_among scope m ≡ true → is_among (i ∷ scope) m ≡ true
          later e2 = by (i == m)
            where
              by : (z : Bool) → (if z then true else is_among scope m) ≡ true
              by true = refl
              by false = e2

  kept_new : (n : ℕ) → a.base + a.frame.soft ≤ n → IsFree x.first.store x.placing (At n) → (t.mem n ≡ x.state.mem n) × IsFree c2.store q2 (At n)
  kept_new n le free = ((h.keeping.kept n le free).0, free_new n none (h.keeping.kept n le free).1)
    where
      none : (o : ℕ) → o < size → beyond spot o ≡ At n → ⊥
      none o lt e = go (byte_there n o lt e)
        where
          go : ((a.base ≤ n) × (n < a.base + a.frame.soft) × (a.frame.variadic ≡ true → a.base < n)) ⊎ (IsFixed g a i × (n ≡ symbol_at g i + o) × (n < stack_start)) → ⊥
          go (inl framed) = omega (arith, framed.1, le)
          go (inr fixed) = omega (arith, fixed.2, le, base_low)

  pub stands_begun : Stands x (i ∷ scope) c2 q2 b t
  stands_begun =
      let k = h.keeping in
      record {
        between = record { joins = joins_new; sp = h.between.sp; room = omega (arith, soft_is, h.between.room); scoped = open_new; sized = sized_new; call = (with_object f i c.next, fs, frames_new); none_pushed = h.between.none_pushed };
        keeping = record {
          next = omega (arith, k.next);
          bounds = λ d own lt. ap bounds_of (store_other d (λ e. omega (arith, e, own, first_before))) ∙ k.bounds d own lt;
          grows = λ d r e. grown d r (k.grows d r e);
          kept = kept_new;
          banks = k.banks;
          own_bank = k.own_bank;
        };
      }
