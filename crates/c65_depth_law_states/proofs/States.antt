-- States that go on in the same active calls.
use Rattle.std.proofs.Common.{◌≡◌, ℕ, suc, ◌+◌, ◌≤◌, List, [], ◌∷◌, Option, Some, None, Bool, true, false, if◌then◌else◌, refl, sym, ap, ◌∙◌, subst, arith}
use Rattle.std.specs.Prelude.{Result, Ok, Err, nat_lt, not, ◌||◌, ◌&&◌}
use Rattle.std.proofs.lemmas.Bool.Decides.{nat_tests}
use Rattle.c65_meaning.specs.Program.{ProgramTy}
use Rattle.c65_meaning.specs.Why.{Why}
use Rattle.c65_meaning.specs.Store.{Value, Shape}
use Rattle.c65_meaning.specs.Costs.{soft_cost}
use Rattle.c65_meaning.specs.Items.{Item, Carry, Lay, CarryInto, Wipe}
use Rattle.c65_meaning.specs.State.{Frame, Scene, State, Deep, Running, soft_sum, hard_sum}
use Rattle.c65_meaning.specs.Step.{one, two, go_on, with_scene, decided, loaded, assigned, carry_step, copy_step, carry_into_step, set_area_step, carried_byte, cleared, wipe_step, clear_step, laid, lay_on, lay_step, is_deep, unless_deep}
use Rattle.c65_depth.specs.declared.numbers.Numbers.{Numbers}
use Rattle.c65_depth.specs.Numbers.{or_zero}
use Rattle.c65_depth.specs.Certificates.{AreCovered, Covers}
use Rattle.c65_depth_law_states.proofs.Marks.{Mark, IsMarked, AreMarked, Pops, PopsTwo, Takes, Active, active, funcs, soft_of, hard_of, HasRoom, HaveRoom, GoesOn, IsWell}
use Rattle.c65_depth_law_states.proofs.Scenes.{AreIn, byte_in, cleared_in, laid_in}

-- ---- what active calls cost

soft_is : (fs : List Frame) → soft_sum fs ≡ soft_of (active fs)
soft_is [] = refl
soft_is (f ∷ fs) = ap (λ n. f.cost + n) (soft_is fs)

hard_is : (fs : List Frame) → hard_sum fs ≡ hard_of (active fs)
hard_is [] = refl
hard_is (f ∷ fs) = ap (λ n. 2 + n) (hard_is fs)

pub own_is : (o : Option Numbers) (n m : Numbers) → o ≡ Some n → o ≡ Some m → n ≡ m
own_is o n m h i = ap or_zero (sym h ∙ i)

within : (s t : ℕ) → s ≤ 1984 → t ≤ 224 → (nat_lt 1984 s || nat_lt 224 t) ≡ false
within s t h i = grind (arith, nat_tests)

-- a call has room where its number has
one_soft : (cost rest own besides c : ℕ) → cost ≤ c + besides → c ≤ own → rest + own + besides ≤ 1984 → cost + rest ≤ 1984
one_soft cost rest own besides c h i j = omega (arith, h, i, j)

one_hard : (rest own : ℕ) → 2 ≤ own → rest + own ≤ 224 → 2 + rest ≤ 224
one_hard rest own h i = omega (arith, h, i)

no_cost : (s t : ℕ) → s ≡ 0 → t ≡ 0 → (s ≤ 1984) × (t ≤ 224)
no_cost s t h i = (omega (arith, h), omega (arith, i))

module _ (p : ProgramTy) (numbers : ℕ → Option Numbers) (covered : AreCovered p numbers) where
  abbrev pub Well : State → Type 0
  Well s = IsWell p numbers s

  -- the function of an active call is covered by its numbers
  pub covers : (x : Active) (rest : List Active) (r : HasRoom p numbers x rest) → Covers p numbers x.func r.body
  covers x rest r = covered x.func r.body r.reached r.is_body

  pub covers_own : (x : Active) (rest : List Active) (r : HasRoom p numbers x rest) → (covers x rest r).own ≡ r.own
  covers_own x rest r = own_is (numbers x.func) (covers x rest r).own r.own (covers x rest r).is_own r.is_own

  shallow : (calls : List Active) → HaveRoom p numbers calls → (soft_of calls ≤ 1984) × (hard_of calls ≤ 224)
  shallow [] h = no_cost 0 0 refl refl
  shallow (x ∷ rest) h =
      let r = h.0 in
      let c = covers x rest r in
      let soft : soft_cost p.unit r.passed r.body ≤ r.own.soft = subst (λ (n : Numbers). soft_cost p.unit r.passed r.body ≤ n.soft) (covers_own x rest r) (c.soft r.passed r.is_passed) in
      let hard : 2 ≤ r.own.hard = subst (λ (n : Numbers). 2 ≤ n.hard) (covers_own x rest r) c.hard in
      (one_soft x.cost (soft_of rest) r.own.soft r.besides (soft_cost p.unit r.passed r.body) r.cost soft r.soft, one_hard (hard_of rest) r.own.hard hard r.hard)

  not_deep : (calls : List Active) (fs : List Frame) → active fs ≡ calls → HaveRoom p numbers calls → is_deep fs ≡ false
  not_deep calls fs e h =
      let s = shallow calls h in
      let soft : soft_sum fs ≡ soft_of calls = soft_is fs ∙ ap soft_of e in
      let hard : hard_sum fs ≡ hard_of calls = hard_is fs ∙ ap hard_of e in
      within (soft_sum fs) (hard_sum fs) (subst (λ n. n ≤ 1984) (sym soft) s.0) (subst (λ n. n ≤ 224) (sym hard) s.1)

  has_room : (k : List Item) (vs : List Value) (calls : List Active) → GoesOn p numbers k vs calls → HaveRoom p numbers calls
  has_room k vs [] g = absurd g
  has_room k vs (x ∷ rest) g = g.0

  by_depth : (free deep : Bool) (s : State) → deep ≡ false → Well s → Well (if not free && deep then Deep else s)
  by_depth true deep s e w = w
  by_depth false true s e w = absurd (let clash : true ≡ false = e in cc)
  by_depth false false s e w = w

  pub unless_deep_well : (calls : List Active) (k : List Item) (vs : List Value) (r : Result Scene Why) → AreIn calls r → GoesOn p numbers k vs calls → Well (unless_deep k vs r)
  unless_deep_well calls k vs (Err why) i g = tt
  unless_deep_well calls k vs (Ok c) i g = by_depth c.free (is_deep c.frames) (Running k vs c) (not_deep calls c.frames i (has_room k vs calls g)) (subst (λ (xs : List Active). GoesOn p numbers k vs xs) (sym i) g)

  -- ---- values that are taken

  pub one_well : (ks : List Mark) (vs : List Value) (g : Mark → List Mark → Type 0) (f : Value → List Value → State) → AreMarked ks vs → Pops ks g → ((x : Mark) (js : List Mark) (v : Value) (r : List Value) → IsMarked x v → AreMarked js r → g x js → Well (f v r)) → Well (one vs f)
  one_well [] vs g f a t n = absurd t
  one_well (x ∷ ks) [] g f a t n = tt
  one_well (x ∷ ks) (v ∷ vs) g f a t n = n x ks v vs a.0 a.1 t

  pub two_well : (ks : List Mark) (vs : List Value) (g : List Mark → Type 0) (f : Value → Value → List Value → State) → AreMarked ks vs → PopsTwo ks g → ((js : List Mark) (w v : Value) (r : List Value) → AreMarked js r → g js → Well (f w v r)) → Well (two vs f)
  two_well [] vs g f a t n = absurd t
  two_well (y ∷ []) vs g f a t n = absurd t
  two_well (y ∷ x ∷ ks) [] g f a t n = tt
  two_well (y ∷ x ∷ ks) (w ∷ []) g f a t n = tt
  two_well (y ∷ x ∷ ks) (w ∷ v ∷ vs) g f a t n = n ks w v vs a.1.1 t

  pub decided_well : (r : Result Bool Why) (a b : State) → Well a → Well b → Well (decided r a b)
  decided_well (Err why) a b g h = tt
  decided_well (Ok true) a b g h = g
  decided_well (Ok false) a b g h = h

  pub if_well : (t : Bool) (a b : State) → Well a → Well b → Well (if t then a else b)
  if_well true a b g h = g
  if_well false a b g h = h

  -- ---- the same calls

  module _ (x : Active) (xs : List Active) (room : HaveRoom p numbers (x ∷ xs)) (base : List Mark) where
    abbrev pub Works : List Item → List Mark → Type 0
    Works k ks = Takes p k x.func (funcs xs) base ks

    abbrev pub In : Scene → Type 0
    In c = active c.frames ≡ x ∷ xs

    pub goes : (k : List Item) (vs : List Value) (c : Scene) (ks : List Mark) → In c → AreMarked ks vs → Works k ks → Well (Running k vs c)
    goes k vs c ks i a t = subst (λ (calls : List Active). GoesOn p numbers k vs calls) (sym i) (room, base, ks, a, t)

    pub go_on_well : (r : Result Value Why) (k : List Item) (vs : List Value) (c : Scene) (ks : List Mark) → In c → AreMarked ks vs → Works k (None ∷ ks) → Well (go_on r k vs c)
    go_on_well (Err why) k vs c ks i a t = tt
    go_on_well (Ok v) k vs c ks i a t = goes k (v ∷ vs) c (None ∷ ks) i (tt, a) t

    -- what is made of the scene that an action gives
    pub on_scene : (f : Result Scene Why → State) (r : Result Scene Why) → AreIn (x ∷ xs) r → ((why : Why) → Well (f (Err why))) → ((d : Scene) → In d → Well (f (Ok d))) → Well (f r)
    on_scene f (Err why) i e n = e why
    on_scene f (Ok d) i e n = n d i

    pub with_scene_well : (r : Result Scene Why) (k : List Item) (vs : List Value) (ks : List Mark) → AreIn (x ∷ xs) r → AreMarked ks vs → Works k ks → Well (with_scene r k vs)
    with_scene_well (Err why) k vs ks i a t = tt
    with_scene_well (Ok c) k vs ks i a t = goes k vs c ks i a t

    pub assigned_well : (shape : Shape) (at : Value) (k : List Item) (vs : List Value) (ks : List Mark) (r : Result Scene Why) → AreIn (x ∷ xs) r → AreMarked ks vs → Works k (None ∷ ks) → Well (assigned shape at k vs r)
    assigned_well shape at k vs ks r i a t = on_scene (assigned shape at k vs) r i (λ why. tt) (λ d o. go_on_well (loaded shape d at) k vs d ks o a t)

    -- ---- structures and unions

    pub copy_well : (done size : ℕ) (from to : Value) (k : List Item) (vs : List Value) (c : Scene) (ks : List Mark) → In c → AreMarked ks vs → Works k (None ∷ ks) → Well (copy_step done size from to k vs c)
    copy_well done size from to k vs c ks i a t =
        if_well (nat_lt done size) (carry_step done size from to k vs (carried_byte false done size c from to)) (Running k (to ∷ vs) c)
        (on_scene (carry_step done size from to k vs) (carried_byte false done size c from to) (byte_in (x ∷ xs) false done size c from to i) (λ why. tt)
        (λ d o. if_well (nat_lt (suc done) size) (Running (Carry (suc done) size ∷ k) (from ∷ to ∷ vs) d) (Running k (to ∷ vs) d) (goes (Carry (suc done) size ∷ k) (from ∷ to ∷ vs) d (None ∷ None ∷ ks) o (tt, (tt, a)) t) (goes k (to ∷ vs) d (None ∷ ks) o (tt, a) t)))
        (goes k (to ∷ vs) c (None ∷ ks) i (tt, a) t)

    pub set_area_well : (n o done size : ℕ) (from to : Value) (k : List Item) (vs : List Value) (c : Scene) → In c → AreMarked base vs → Works k base → Well (set_area_step n o done size from to k vs c)
    set_area_well n o done size from to k vs c i a t =
        if_well (nat_lt done size) (carry_into_step n o done size from k vs (carried_byte true done size c from to)) (Running k vs c)
        (on_scene (carry_into_step n o done size from k vs) (carried_byte true done size c from to) (byte_in (x ∷ xs) true done size c from to i) (λ why. tt)
        (λ d e. if_well (nat_lt (suc done) size) (Running (CarryInto n o (suc done) size ∷ k) (from ∷ vs) d) (Running k vs d) (goes (CarryInto n o (suc done) size ∷ k) (from ∷ vs) d (None ∷ base) e (tt, a) (refl, t)) (goes k vs d base e a t)))
        (goes k vs c base i a t)

    pub clear_well : (n done size : ℕ) (at : Value) (k : List Item) (vs : List Value) (c : Scene) → In c → AreMarked base vs → Works k base → Well (clear_step n done size at k vs c)
    clear_well n done size at k vs c i a t =
        if_well (nat_lt done size) (wipe_step n done size k vs (cleared c done at)) (Running k vs c)
        (on_scene (wipe_step n done size k vs) (cleared c done at) (cleared_in (x ∷ xs) c done at i) (λ why. tt)
        (λ d e. if_well (nat_lt (suc done) size) (Running (Wipe n (suc done) size ∷ k) vs d) (Running k vs d) (goes (Wipe n (suc done) size ∷ k) vs d base e a (refl, t)) (goes k vs d base e a t)))
        (goes k vs c base i a t)

    pub lay_well : (n done size : ℕ) (v at : Value) (k : List Item) (vs : List Value) (c : Scene) (ks : List Mark) → In c → AreMarked ks vs → Works k (None ∷ ks) → Well (lay_step n done size v at k vs c)
    lay_well n done size v at k vs c ks i a t =
        if_well (nat_lt done size) (lay_on n done size v at k vs (laid done c at v)) (Running k (at ∷ vs) c)
        (on_scene (lay_on n done size v at k vs) (laid done c at v) (laid_in (x ∷ xs) done c at v i) (λ why. tt)
        (λ d e. if_well (nat_lt (suc done) size) (Running (Lay n (suc done) size ∷ k) (v ∷ vs) d) (Running k (at ∷ vs) d) (goes (Lay n (suc done) size ∷ k) (v ∷ vs) d (None ∷ ks) e (tt, a) t) (goes k (at ∷ vs) d (None ∷ ks) e (tt, a) t)))
        (goes k (at ∷ vs) c (None ∷ ks) i (tt, a) t)
