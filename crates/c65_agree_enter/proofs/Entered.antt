-- The first statement of a called function may begin.
use Rattle.std.proofs.Common.{◌≡◌, ◌≢◌, ℕ, suc, ◌+◌, ◌<◌, ◌≤◌, ◌⊎◌, inl, inr, List, [], ◌∷◌, ◌++◌, Option, Some, None, Bool, true, false, refl, sym, ap, ◌∙◌, subst, arith}
use Rattle.std.specs.Prelude.{◌==◌, IsTrue, if◌then◌else◌, length, slice_get, Ok, All}
use Rattle.std.proofs.lemmas.Bool.{cases_lt}
use Rattle.std.proofs.lemmas.Bool.Decides.{nat_tests}
use Rattle.c65_csem.specs.Trees.{UnitTy}
use Rattle.c65_csem.specs.Places.{is_fixed_object}
use Rattle.c65_meaning.specs.Store.{Block, Value, lives_in, is_live}
use Rattle.c65_meaning.specs.Shapes.{object_in, object_size}
use Rattle.c65_meaning.specs.After.{is_among}
use Rattle.c65_meaning.specs.State.{Scene, Frame as Call, block_in, rest_in, soft_sum, hard_sum}
use Rattle.c65_meaning.specs.Step.{func_in, frames_below, is_active, with_params, new_frame}
use Rattle.c65_code.specs.LineState.{State, s_of}
use Rattle.c65_code.specs.Placement.{IsPlacement, stack_start}
use Rattle.c65_genframe.specs.declared.home.Home.{Home}
use Rattle.c65_genframe.specs.declared.home.Home.TheVariants as homes
use Rattle.c65_genframe.specs.Frames.{home_of, saved_bytes}
use Rattle.c65_genframe.specs.Objects.{locals_of}
use Rattle.c65_agree_store.specs.Stands.{Spot, At, Banked, Placing, Banks, Grows, byte_in, beyond, IsAt, AreApart, IsFree, Stands}
use Rattle.c65_agree_store.proofs.Keep.{free_bytes_change}
use Rattle.c65_agree_state.specs.World.{World, unit_in, Active}
use Rattle.c65_agree_state.specs.Fixed.{symbol_at, HasFor, is_object_of, HaveOwnObjects, func_has_fixed, AreOnce, HaveFixed}
use Rattle.c65_agree_state.specs.Sizes.{AreSized}
use Rattle.c65_agree_state.specs.Joins.{home_spot, spot_of, call_bytes, IsOfCall, HasBlock, HaveSymbols, Joins}
use Rattle.c65_agree_state.specs.Exprs.{bounds_of}
use Rattle.c65_agree_between.specs.Stmts.{AreOpen}
use Rattle.c65_agree_state.proofs.Scratch.{constants_are_low}
use Rattle.c65_agree_state.proofs.Parts.{sizes_stay}
use Rattle.c65_agree_enter.specs.Params.{bytes_of, ArePassed, HavePlaces, HasBegun, HaveBegun}
use Rattle.c65_agree_enter.specs.Entries.{MayEnter, FixedAreLow, IsTaken, banks_with, HasEntered}
use Rattle.c65_agree_enter.specs.Laws.{ParametersStand, CallersMayEnter, IsCalled, CallsAreEntered}
use Rattle.c65_agree_enter.proofs.Params.{parameters_begin}

-- ---- homes

-- what of regbank a home of the active call is, is its own
pub own_bank : (g : World) (a : Active) (i d b : ℕ) → spot_of g a i ≡ Banked d b → d ≡ length a.behind
own_bank g a i d b e = go (home_of a.frame i) e
  where
    go : (h : Option Home) → home_spot g a i h ≡ Banked d b → d ≡ length a.behind
    go None e = cc
    go (Some (homes.Bank n)) e = let same : length a.behind ≡ d = cc in sym same
    go (Some (homes.Soft n)) e = cc

-- ---- callers

module _ (g : World) (outer : Active) (c : Scene) (w : Placing) (k : Banks) (t : State) (j : Joins g outer c w k t) where
  is_shallow : (b : ℕ) (x : Block) (d i : ℕ) → IsAt c.store w b x (Banked d i) → 0 < x.size → d < suc (length outer.behind)
  is_shallow b x d i at some = go (cases_lt d (suc (length outer.behind)))
    where
      none_deeper : HasBlock c b → d ≡ length outer.behind
      none_deeper (inl h) =
          let same : Some (spot_of g outer h.0) ≡ Some (Banked d i) = sym (j.homes h.0 b h.1) ∙ at.place in
          let one : spot_of g outer h.0 ≡ Banked d i = cc in
          own_bank g outer h.0 d i one
      none_deeper (inr h) =
          let place = (j.rests b h).place in
          let clash : Some (Banked d i) ≡ Some (At (outer.base + outer.frame.soft + saved_bytes outer.frame.bank)) = sym at.place ∙ place in
          cc

      go : (d < suc (length outer.behind)) ⊎ (suc (length outer.behind) ≤ d) → d < suc (length outer.behind)
      go (inl lt) = lt
      go (inr le) = let same = none_deeper (j.owned b x (Banked d i) at some (omega (arith, le))) in omega (arith, same)

pub callers_may_enter : CallersMayEnter
callers_may_enter g outer c w k t j = record {
  stands = j.stands;
  shallow = is_shallow g outer c w k t j;
  symbols = j.symbols;
  fixed = j.fixed;
  sizes = j.sizes;
  fresh = j.fresh;
  above = j.above;
  reached = j.reached;
  constant = j.constant;
  sealed = j.sealed;
  asked = j.asked;
  input = j.input;
  read = j.read;
  output = j.output;
  ended = j.ended;
}

-- ---- the called function

pub among_front : (is js : List ℕ) (i : ℕ) → is_among is i ≡ true → is_among (is ++ js) i ≡ true
among_front [] js i e = cc
among_front (j ∷ is) js i e = go (λ f. among_front is js i f) (j == i) e
  where
    go : (is_among is i ≡ true → is_among (is ++ js) i ≡ true) → (b : Bool) → (if b then true else is_among is i) ≡ true → (if b then true else is_among (is ++ js) i) ≡ true
    go deep true e = refl
    go deep false e = deep e

module _ (g : World) (a : Active) (bound cost needs : ℕ) (is : List ℕ) (args : List Value) (c0 c1 : Scene) (w0 : Placing) (k0 : Banks) (t0 t1 : State) (placed : IsPlacement g.code g.place) (low : FixedAreLow g) (may : MayEnter g (length a.behind) bound c0 w0 k0 t0) (taken : IsTaken a t0 t1)
    (called : IsCalled g a bound cost needs is c0) (passed : ArePassed (unit_in g) w0 t1.mem (banks_with a t1 k0) (spot_of g a) is args) (hard : 255 ≤ s_of t1 + (2 + hard_sum c0.frames)) (meant : with_params (unit_in g) is args (new_frame (unit_in g) a.func cost c0) ≡ Ok c1) where
  abbrev u : UnitTy
  u = unit_in g

  abbrev k1 : Banks
  k1 = banks_with a t1 k0

  abbrev call : Call
  call = record { func = a.func; object = λ i. None; cost = cost; rest = None }

  -- ---- banks

  own_byte : (i : ℕ) → k1 (length a.behind) i ≡ t1.zp (20 + i)
  own_byte i = grind (arith, nat_tests)

  other_byte : (d i : ℕ) → d ≢ length a.behind → k1 d i ≡ k0 d i
  other_byte d i ne = grind (arith, nat_tests)

  base_low : stack_start ≤ a.base
  base_low = let room = called.room in let few = called.few in omega (arith, room, few)

  -- ---- what there was

  same_byte : (b : ℕ) (x : Block) (q : Spot) (p : ℕ) → IsAt c0.store w0 b x q → p < x.holds → byte_in t1.mem k1 q p ≡ byte_in t0.mem k0 q p
  same_byte b x (Banked d i) p at lt =
      let deep = may.shallow b x d i at (omega (arith, lt, may.stands.whole b x at.is)) in
      other_byte d (i + p) (λ e. omega (arith, e, deep))
  same_byte b x (At n) p at lt = go (cases_lt (n + p) stack_start) (cases_lt (n + p) bound)
    where
      go : (n + p < stack_start) ⊎ (stack_start ≤ n + p) → (n + p < bound) ⊎ (bound ≤ n + p) → t1.mem (n + p) ≡ t0.mem (n + p)
      go (inl h) _ = taken.mem (n + p) (inl h)
      go (inr h) (inr high) = taken.mem (n + p) (inr (omega (arith, high, called.top)))
      go (inr h) (inl below) = absurd (may.above (n + p) h below b x (At n) p at (omega (arith, lt, may.stands.whole b x at.is)) refl)

  stood : Stands c0.store w0 t1.mem k1
  stood = free_bytes_change c0.store w0 t0.mem t1.mem k0 k1 may.stands same_byte

  places : HavePlaces u is (spot_of g a) (new_frame u a.func cost c0) w0
  places = record { lies = called.homes.lies; free = free; apart = called.homes.apart }
    where
      free : (i : ℕ) → is_among is i ≡ true → (b : ℕ) (x : Block) (q : Spot) → IsAt c0.store w0 b x q → AreApart (spot_of g a i) (bytes_of u i) q x.size
      free i among b x q at o p lo lp e = go (spot_of g a i) refl
        where
          go : (r : Spot) → spot_of g a i ≡ r → ⊥
          go (At n) s =
              let h = called.homes.within i n o among s lo in
              let there : beyond q p ≡ At (n + o) = sym e ∙ ap (λ r. beyond r o) s in
              may.above (n + o) (omega (arith, h, base_low)) (omega (arith, h, called.top)) b x q p at lp there
          go (Banked d l) s = by q refl at
            where
              by : (r : Spot) → q ≡ r → IsAt c0.store w0 b x r → ⊥
              by (At m) f at2 =
                  let clash : At (m + p) ≡ Banked d (l + o) = ap (λ r. beyond r p) (sym f) ∙ (sym e ∙ ap (λ r. beyond r o) s) in
                  cc
              by (Banked d2 l2) f at2 =
                  let same : Banked d2 (l2 + p) ≡ Banked d (l + o) = ap (λ r. beyond r p) (sym f) ∙ (sym e ∙ ap (λ r. beyond r o) s) in
                  let one : d2 ≡ d = cc in
                  let deep = may.shallow b x d2 l2 at2 (omega (arith, lp)) in
                  let own = own_bank g a i d l s in
                  omega (arith, one, deep, own)

  stand : ParametersStand u is (spot_of g a) (new_frame u a.func cost c0) w0 call c0.frames c1 t1.mem k1
  stand = parameters_begin u is args (spot_of g a) (new_frame u a.func cost c0) c1 w0 call c0.frames t1.mem k1 refl meant may.fresh called.distinct places passed stood

  abbrev w1 : Placing
  w1 = stand.placing

  abbrev h : HaveBegun u is (spot_of g a) (new_frame u a.func cost c0) w0 call c0.frames c1 w1
  h = stand.begun

  -- a block is one of those that there were, or a parameter's
  record IsOld (b : ℕ) (x : Block) (q : Spot) : Type 0 where
    old : IsAt c0.store w0 b x q
    before : b < c0.next

  record IsNew (b : ℕ) (x : Block) (q : Spot) : Type 0 where
    object : ℕ
    among : is_among is object ≡ true
    named : block_in c1.frames object ≡ Some b
    place : q ≡ spot_of g a object
    size : x.size ≡ bytes_of u object

  split : (b : ℕ) (x : Block) (q : Spot) → IsAt c1.store w1 b x q → IsOld b x q ⊎ IsNew b x q
  split b x q at = go (cases_lt b c0.next) (cases_lt b c1.next)
    where
      go : (b < c0.next) ⊎ (c0.next ≤ b) → (b < c1.next) ⊎ (c1.next ≤ b) → IsOld b x q ⊎ IsNew b x q
      go (inl lt) _ = let o = h.old b lt in inl (record { old = record { is = sym o.0 ∙ at.is; live = at.live; place = sym o.1 ∙ at.place }; before = lt })
      go (inr le) (inr more) =
          let clash : Some q ≡ None = sym at.place ∙ h.fresh b more in
          cc
      go (inr le) (inl lt) =
          let n = h.new b le lt in
          let named : block_in c1.frames n.0 ≡ Some b = ap (λ fs. block_in fs n.0) h.frames ∙ n.2 in
          let x1 = h.begun n.0 n.1 in
          let same : Some x1.0 ≡ Some b = sym x1.1.named ∙ named in
          let one : x1.0 ≡ b = cc in
          let place : Some q ≡ Some (spot_of g a n.0) = sym at.place ∙ (ap w1 (sym one) ∙ x1.1.place) in
          let block : Some x ≡ Some x1.1.block = sym at.is ∙ (ap c1.store (sym one) ∙ x1.1.is) in
          let equal : x ≡ x1.1.block = cc in
          inr (record { object = n.0; among = n.1; named = named; place = cc; size = ap (λ z. z.size) equal ∙ x1.1.size })

  -- what the new ones have in memory
  new_above : (b : ℕ) (x : Block) (q : Spot) (i n : ℕ) → IsNew b x q → i < x.size → beyond q i ≡ At n → (a.base + (a.frame.soft + saved_bytes a.frame.bank) ≤ n) × (n < a.base + call_bytes a)
  new_above b x (Banked d l) i n new lt e = cc
  new_above b x (At m) i n new lt e =
      let same : m + i ≡ n = cc in
      let within = called.homes.within new.object m i new.among (sym new.place) (omega (arith, lt, new.size)) in
      (omega (arith, same, within), omega (arith, same, within))

  low_free : (n : ℕ) → stack_start ≤ n → n < a.base + (a.frame.soft + saved_bytes a.frame.bank) → IsFree c1.store w1 (At n)
  low_free n lo hi b x q i at lt e = go (split b x q at)
    where
      go : IsOld b x q ⊎ IsNew b x q → ⊥
      go (inl o) = may.above n lo (omega (arith, hi, called.top)) b x q i o.old lt e
      go (inr new) = let inside = new_above b x q i n new lt e in omega (arith, inside, hi)

  kept_free : (n : ℕ) → a.base + call_bytes a ≤ n → IsFree c0.store w0 (At n) → IsFree c1.store w1 (At n)
  kept_free n le f b x q i at lt e = go (split b x q at)
    where
      go : IsOld b x q ⊎ IsNew b x q → ⊥
      go (inl o) = f b x q i o.old lt e
      go (inr new) = let inside = new_above b x q i n new lt e in omega (arith, inside, le)

  -- ---- objects of the call

  object_named : (i b : ℕ) → block_in c1.frames i ≡ Some b → (is_among is i ≡ true) × HasBegun u (spot_of g a) (new_frame u a.func cost c0) c1 w1 i b
  object_named i b e = go (is_among is i) refl
    where
      go : (m : Bool) → is_among is i ≡ m → (is_among is i ≡ true) × HasBegun u (spot_of g a) (new_frame u a.func cost c0) c1 w1 i b
      go true f =
          let x = h.begun i f in
          let same : Some x.0 ≡ Some b = sym x.1.named ∙ e in
          let one : x.0 ≡ b = cc in
          (f, subst (λ n. HasBegun u (spot_of g a) (new_frame u a.func cost c0) c1 w1 i n) one x.1)
      go false f =
          let clash : Some b ≡ None = sym e ∙ (ap (λ fs. block_in fs i) h.frames ∙ h.others i f) in
          cc

  no_rest : (b : ℕ) → rest_in c1.frames ≡ Some b → ⊥
  no_rest b e =
      let clash : Some b ≡ None = sym e ∙ (ap rest_in h.frames ∙ h.rest) in
      cc

  -- ---- the relation

  grown : Grows w0 w1
  grown = stand.grows

  symbols : HaveSymbols g w1
  symbols = record { funcs = λ f lt. grown f _ (may.symbols.funcs f lt); literals = λ l lt. grown _ _ (may.symbols.literals l lt); objects = λ i no lt. grown _ _ (may.symbols.objects i no lt) }

  fixed : HaveFixed g c1 w1
  fixed = record { own = own; objects = subst (HaveOwnObjects u) (sym h.frames) (mine, may.fixed.objects); once = subst (AreOnce u) (sym h.frames) (alone, may.fixed.once) }
    where
      own : (i b o n : ℕ) (x : Block) (q : Spot) → is_fixed_object (object_in u i) ≡ true → IsAt c1.store w1 b x q → o < x.size → n < object_size u.types (object_in u i) → beyond q o ≡ At (symbol_at g i + n) → HasFor i b c1.frames
      own i b o n x q is_fixed at lt less e = go (split b x q at)
        where
          go : IsOld b x q ⊎ IsNew b x q → HasFor i b c1.frames
          go (inl old) = subst (HasFor i b) (sym h.frames) (inr (may.fixed.own i b o n x q is_fixed old.old lt less e))
          go (inr new) =
              let inside = new_above b x q o (symbol_at g i + n) new lt e in
              let below = low i n is_fixed less in
              absurd (omega (arith, inside, below, base_low))

      mine : (i b : ℕ) → h.active.object i ≡ Some b → is_object_of (slice_get u.funcs h.active.func) i ≡ true
      mine i b e =
          let x = object_named i b (ap (λ fs. block_in fs i) h.frames ∙ e) in
          let func : slice_get u.funcs h.active.func ≡ Some called.function = ap (slice_get u.funcs) h.func ∙ called.is_function in
          let param : is_among called.function.params i ≡ true = ap (λ l. is_among l i) called.params ∙ x.0 in
          ap (λ f. is_object_of f i) func ∙ among_front called.function.params (locals_of called.function) i param

      alone : func_has_fixed u (slice_get u.funcs h.active.func) ≡ true → is_active h.active.func c0.frames ≡ false
      alone e = ap (λ f. is_active f c0.frames) h.func ∙ called.once (sym (ap (λ f. func_has_fixed u (slice_get u.funcs f)) h.func) ∙ e)

  since : (b : ℕ) → HasBlock c1 b → a.first ≤ b
  since b (inl x) = let y = object_named x.0 b x.1 in let first = y.1.first in omega (arith, first, called.first)
  since b (inr e) = absurd (no_rest b e)

  new_has : (b : ℕ) → c0.next ≤ b → is_live c1.store b ≡ true → HasBlock c1 b
  new_has b le live = go (c1.store b) refl
    where
      go : (o : Option Block) → c1.store b ≡ o → HasBlock c1 b
      go None e = let clash : true ≡ false = sym live ∙ ap lives_in e in cc
      go (Some x) e =
          let lives : x.live ≡ true = sym (ap lives_in e) ∙ live in
          let place = stand.stands.placed b x e lives in
          by (split b x place.0 (record { is = e; live = lives; place = place.1 }))
        where
          by : {q : Spot} → IsOld b x q ⊎ IsNew b x q → HasBlock c1 b
          by (inl o) = absurd (let lt = o.before in omega (arith, lt, le))
          by (inr new) = inl (new.object, new.named)

  owned : (b : ℕ) (x : Block) (q : Spot) → IsAt c1.store w1 b x q → 0 < x.size → IsOfCall a q → HasBlock c1 b
  owned b x q at some inside = go (split b x q at)
    where
      none : (r : Spot) → q ≡ r → IsOld b x r → IsOfCall a r → ⊥
      none (At n) e o here =
          let zero : n + 0 ≡ n = omega arith in
          may.above n (omega (arith, here, base_low)) (omega (arith, here, called.top)) b x (At n) 0 o.old some (ap At zero)
      none (Banked d l) e o here = let deep = may.shallow b x d l o.old some in omega (arith, deep, here)

      go : IsOld b x q ⊎ IsNew b x q → HasBlock c1 b
      go (inl o) = absurd (none q refl o inside)
      go (inr new) = inl (new.object, new.named)

  reached : (b : ℕ) (x : Block) (at o : ℕ) → IsAt c1.store w1 b x (At at) → o < x.holds → IsTrue (g.place.is_data (at + o)) ⊎ (a.base ≤ at + o)
  reached b x at o is lt = go (split b x (At at) is)
    where
      old : IsTrue (g.place.is_data (at + o)) ⊎ (bound ≤ at + o) → IsTrue (g.place.is_data (at + o)) ⊎ (a.base ≤ at + o)
      old (inl there) = inl there
      old (inr high) = inr (omega (arith, high, called.top))

      go : IsOld b x (At at) ⊎ IsNew b x (At at) → IsTrue (g.place.is_data (at + o)) ⊎ (a.base ≤ at + o)
      go (inl h) = old (may.reached b x at o h.old lt)
      go (inr new) = let inside = new_above b x (At at) o (at + o) new (omega (arith, lt, stand.stands.whole b x is.is)) refl in inr (omega (arith, inside))

  sealed : (b : ℕ) (x : Block) (at o v : ℕ) → IsAt c1.store w1 b x (At at) → o < x.holds → g.place.constant (at + o) ≡ Some v → x.sealed ≡ true
  sealed b x at o v is lt e = go (split b x (At at) is)
    where
      go : IsOld b x (At at) ⊎ IsNew b x (At at) → x.sealed ≡ true
      go (inl h) = may.sealed b x at o v h.old lt e
      go (inr new) =
          let inside = new_above b x (At at) o (at + o) new (omega (arith, lt, stand.stands.whole b x is.is)) refl in
          let below = constants_are_low g placed (at + o) v e in
          absurd (omega (arith, inside, below, base_low))

  soft_is : soft_sum c1.frames ≡ cost + soft_sum c0.frames
  soft_is = ap soft_sum h.frames ∙ ap (λ n. n + soft_sum c0.frames) h.cost

  hard_is : hard_sum c1.frames ≡ 2 + hard_sum c0.frames
  hard_is = ap hard_sum h.frames

  sized_params : AreSized u c1
  sized_params i b x e is =
      let has = (object_named i b e).1 in
      let both : Some x ≡ Some has.block = sym is ∙ has.is in
      let same : x ≡ has.block = cc in
      ap (λ y. y.size) same ∙ has.size

  joined : Joins g a c1 w1 k1 t1
  joined = record {
    stands = stand.stands;
    bank = λ i lt. own_byte i;
    symbols = symbols;
    fixed = fixed;
    sizes = sizes_stay u c0.store c1.store c0.next c1.next h.next (λ b lt. ap bounds_of (h.old b lt).0) may.sizes;
    sized = sized_params;
    fresh = h.fresh;
    homes = λ i b e. homed i b e;
    rests = λ b e. absurd (no_rest b e);
    since = since;
    begun = λ b le live. new_has b (omega (arith, le, called.first)) live;
    owned = owned;
    active = ap func_in h.frames ∙ h.func;
    calls = ap frames_below h.frames ∙ sym called.calls;
    as_many = called.as_many;
    above = λ n lo hi. low_free n lo (omega (arith, hi));
    reached = reached;
    constant = λ n v e. taken.mem n (inl (constants_are_low g placed n v e)) ∙ may.constant n v e;
    sealed = sealed;
    top = omega (arith, called.top, called.high);
    asked = h.free ∙ may.asked;
    few = omega (arith, soft_is, called.few);
    hard = hard_stays;
    few_calls = omega (arith, hard_is, called.few_calls);
    counted = λ v. absurd (plain v);
    count_free = λ v. absurd (plain v);
    frames = taken.frames;
    input = taken.input ∙ (may.input ∙ sym h.input);
    read = subst (All (λ v. v < 256)) (sym h.input) may.read;
    output = taken.output ∙ (may.output ∙ sym h.out);
    ended = taken.ended ∙ may.ended;
    bytes = taken.bytes;
  }
    where
      homed : (i b : ℕ) → block_in c1.frames i ≡ Some b → w1 b ≡ Some (spot_of g a i)
      homed i b e = (object_named i b e).1.place

      plain : a.frame.variadic ≡ true → ⊥
      plain v = let clash : true ≡ false = sym v ∙ called.plain in cc

      hard_stays : 255 ≤ s_of t1 + length t1.pushed + hard_sum c1.frames
      hard_stays = let none : length t1.pushed ≡ 0 = ap length taken.none_pushed in omega (arith, none, hard_is, hard)

  open_params : AreOpen is c1
  open_params i b x e is live = (object_named i b e).0

  entered : HasEntered g a needs is c0 w0 k0 t0 c1 t1
  entered = record {
    placing = w1;
    between = record { joins = joined; sp = taken.sp; room = omega (arith, soft_is, called.room); scoped = open_params; sized = sized_params; call = (h.active, c0.frames, h.frames); none_pushed = taken.none_pushed };
    next = h.next;
    bounds = λ b lt. ap bounds_of (h.old b lt).0;
    grows = grown;
    kept = λ n le f. (taken.mem n (inr le), kept_free n le f);
    low = low_free;
  }

pub calls_are_entered : CallsAreEntered
calls_are_entered g a bound cost needs is args c0 c1 w0 k0 t0 t1 placed low may taken called passed hard meant = entered g a bound cost needs is args c0 c1 w0 k0 t0 t1 placed low may taken called passed hard meant
