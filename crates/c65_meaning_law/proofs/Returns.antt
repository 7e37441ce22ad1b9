-- The end of a call: the call that waits for it goes on with what it gives.
use Rattle.std.proofs.Common.{◌≡◌, ◌++◌, ℕ, pos, Bool, true, false, List, [], ◌∷◌, Option, Some, refl, sym, ap, ◌∙◌, subst, if◌then◌else◌}
use Rattle.std.specs.Prelude.{◌==◌, slice_get}
use Rattle.std.proofs.lemmas.Bool.{eqb-true}
use Rattle.c65_ctype.specs.Trees.{Ty, int, pointer, QTy, type_in}
use Rattle.c65_csem.specs.Trees.{FuncTy}
use Rattle.c65_csem.specs.Places.{plain_of, is_scalar}
use Rattle.c65_csem.specs.Typed as ty
use Rattle.c65_csem.specs.Typed.{IsResult, result_of}
use Rattle.c65_meaning.specs.Program.{ProgramTy}
use Rattle.c65_meaning.specs.declared.action.Action.TheVariants.{NoResult}
use Rattle.c65_meaning.specs.Why.{By, Unfit}
use Rattle.c65_meaning.specs.Store.{Value, Whole, Null, Place, Opaque, Cells, NoValue}
use Rattle.c65_meaning.specs.Items.{Item, End, Give, GiveNothing, Leave}
use Rattle.c65_meaning.specs.After.{Left, ending, up_to_call}
use Rattle.c65_meaning.specs.State.{Frame, Scene, State, Undefined, Deep, Ended, Running, rest_in}
use Rattle.c65_meaning.specs.Step.{is_value, end_objects, end_arguments, status_of, back_in, params_of, func_in, frames_below, without_frame, left_call, returned, at_the_end, perform}
use Rattle.c65_meaning_law.proofs.Stacks.{Kind, arithmetic, kind_passed, kind_given, Suits, AreSuited, Call, inside, HaveBlocks, D, returning, Takes, Out, IsScene, IsGood}
use Rattle.c65_meaning_law.proofs.Values.{raise}
use Rattle.c65_meaning_law.proofs.Scopes.{Grows, ready_stays}
use Rattle.c65_meaning_law.proofs.Statements.{takes_on}
use Rattle.c65_meaning_law.proofs.StatementSteps.{end_one, ends}
use Rattle.c65_meaning_law.proofs.Plans.{small_passed}
use Rattle.c65_meaning_law.proofs.Calls.{with_frames, IsCall, AreWaiting, IsWell, IsAt}

-- ---- later scenes

-- more blocks have begun, and the same calls are active
pub grown_with : (p : ProgramTy) (c e : Scene) (fs : List Frame) → ((b : ℕ) → D p.unit c b → D p.unit e b) → Grows p.unit (with_frames c fs) (with_frames e fs)
grown_with p c e fs g = record { blocks = g; objects = λ i h. (h.0, h.1, g h.0 h.2); rest = λ h. (h.0, h.1, g h.0 h.2); active = λ h. h; func = refl; below = refl }

pub call_on : (p : ProgramTy) (c e : Scene) (fs gs : List Frame) (call : Call) → Grows p.unit (with_frames c fs) (with_frames e gs) → IsCall p.unit c fs call → IsCall p.unit e gs call
call_on p c e fs gs call g h = record { func = ap (λ (f : ℕ). slice_get p.unit.funcs f) g.func ∙ h.func; body = h.body; typed = h.typed; scoped = h.scoped; ready = ready_stays p.unit (with_frames c fs) (with_frames e gs) g _ _ h.ready }

pub waiting_on : (p : ProgramTy) (c e : Scene) → ((b : ℕ) → D p.unit c b → D p.unit e b) → (fs : List Frame) (call : Call) → AreWaiting p.unit c fs call → AreWaiting p.unit e fs call
waiting_on p c e g [] call h = h
waiting_on p c e g (f ∷ fs) call h = (h.0, call_on p c e (f ∷ fs) (f ∷ fs) h.0 (grown_with p c e (f ∷ fs) g) h.1, (h.2.0, h.2.1, takes_on (inside h.0) p.unit (with_frames c (f ∷ fs)) (with_frames e (f ∷ fs)) (grown_with p c e (f ∷ fs) g) call.behind (h.2.0 ∷ call.base) h.2.2), waiting_on p c e g fs h.0 h.3)

pub at_later : (p : ProgramTy) (c e : Scene) (call : Call) → Grows p.unit c e → IsAt p.unit c call → IsAt p.unit e call
at_later p c e call g h = record {
  active = call_on p c e c.frames e.frames call (record { blocks = g.blocks; objects = g.objects; rest = g.rest; active = g.active; func = g.func; below = g.below }) h.active;
  waiting = subst (λ (fs : List Frame). AreWaiting p.unit e fs call) (sym g.below) (waiting_on p c e g.blocks (frames_below c.frames) call h.waiting);
}

-- what is good in a later scene of the same calls
pub well_from : (p : ProgramTy) (c e : Scene) (call : Call) (s : State) → IsAt p.unit c call → Grows p.unit c e → IsGood (inside call) p.unit e s → IsWell p.unit s
well_from p c e call (Undefined (By action)) h g i = tt
well_from p c e call (Undefined Unfit) h g i = absurd i
well_from p c e call Deep h g i = tt
well_from p c e call (Ended out status turns) h g i = tt
well_from p c e call (Running work vs d) h g i =
    let later = at_later p c e call g h in
    record { scene = e; call = call; active = later.active; running = i; waiting = later.waiting }

-- ---- what the end of a call leaves

-- the work of the call ends, and the objects of the blocks that are open have blocks
pub record CallLeft (p : ProgramTy) (c : Scene) (call : Call) (k : List Item) (ks : List Kind) : Type 0 where
  pub objects : List ℕ
  pub is : up_to_call k ≡ Some (record { objects = objects; work = Leave ∷ call.behind })
  pub base : ks ≡ call.base
  pub have : HaveBlocks p.unit c objects

module _ (p : ProgramTy) (c : Scene) (call : Call) where
  have_joined : (xs ys : List ℕ) → HaveBlocks p.unit c xs → HaveBlocks p.unit c ys → HaveBlocks p.unit c (xs ++ ys)
  have_joined [] ys h g = g
  have_joined (i ∷ xs) ys h g = (h.0, have_joined xs ys h.1 g)

  pub call_left : (k : List Item) (ks : List Kind) → Out (inside call) p.unit c k returning ks → CallLeft p c call k ks
  call_left [] ks h = absurd h
  call_left (Leave ∷ k) ks h = record { objects = []; is = ap (λ (w : List Item). Some (record { objects = []; work = Leave ∷ w })) h.0; base = h.1; have = tt }
  call_left (End objects ∷ k) ks h =
      let r = call_left k ks h.1 in
      record { objects = objects ++ r.objects; is = ap (ending objects) r.is; base = r.base; have = have_joined objects r.objects h.0 r.have }
  call_left (_ ∷ k) ks h = let r = call_left k ks h in record { objects = r.objects; is = r.is; base = r.base; have = r.have }

  -- ---- values that are given

  pub nothing_suits : (D : ℕ → Type 0) (q : QTy) → IsResult p.unit q → Suits D (kind_passed (type_in q)) NoValue
  nothing_suits D q ty.IsResult.nothing = tt
  nothing_suits D q (ty.IsResult.scalar s) = of_scalar (type_in q) s.0
    where
      of_scalar : (t : Ty) → is_scalar t ≡ true → Suits D (kind_passed t) NoValue
      of_scalar (int k) h = tt
      of_scalar (pointer q) h = tt
      of_scalar _ h = absurd (cc)
  nothing_suits D q (ty.IsResult.structure s) = subst (λ (x : Kind). Suits D x NoValue) (sym (small_passed p.unit q s)) tt

  status_well : (D : ℕ → Type 0) (d : Scene) (v : Value) → Suits D (arithmetic true) v → IsWell p.unit (status_of d v)
  status_well D d (Whole z) h = tt
  status_well D d Opaque h = tt
  status_well D d NoValue h = tt
  status_well D d Null h = absurd h
  status_well D d (Cells xs) h = absurd h
  status_well D d (Place b o) h = absurd h

  module _ (waiting : AreWaiting p.unit c (frames_below c.frames) call) where
    abbrev E : ℕ → Type 0
    E b = D p.unit c b

    goes_back : (fs : List Frame) (v : Value) (vs : List Value) (d : Scene) → AreWaiting p.unit c fs call → d.frames ≡ fs → IsScene p.unit (with_frames c fs) d → Suits E (kind_given call.func.ty) v → AreSuited E call.base vs → IsWell p.unit (back_in fs call.behind vs d v)
    goes_back [] v vs d w e i s a = status_well E d v (subst (λ (x : Kind). Suits E x v) w.1 s)
    goes_back (f ∷ fs) v vs d w e i s a = record { scene = with_frames c (f ∷ fs); call = w.0; active = call_on p c (with_frames c (f ∷ fs)) (f ∷ fs) (f ∷ fs) w.0 (grown_with p c c (f ∷ fs) (λ b h. h)) w.1; running = record { kinds = w.2.0 ∷ call.base; takes = w.2.2; suited = (raise E (kind_given call.func.ty) w.2.0 v w.2.1 s, a); scene = i }; waiting = waiting_on p c (with_frames c (f ∷ fs)) (λ b h. h) fs w.0 w.3 }

    pub leaves_call : (v : Value) (vs : List Value) (d : Scene) → IsScene p.unit c d → Suits E (kind_given call.func.ty) v → AreSuited E call.base vs → IsWell p.unit (left_call p.unit v call.behind vs d)
    leaves_call v vs d i s a =
        let last : Scene = end_arguments p.unit d in
        let j = end_one (inside call) tt p c (rest_in d.frames) (end_objects (params_of (slice_get p.unit.funcs (func_in d.frames))) d) (ends (inside call) tt p c (params_of (slice_get p.unit.funcs (func_in d.frames))) d i) in
        subst (λ (fs : List Frame). IsWell p.unit (back_in fs call.behind vs (without_frame last) v)) (sym (ap frames_below i.frames))
        (goes_back (frames_below c.frames) v vs (without_frame last) waiting (ap frames_below j.frames) (record { frames = ap frames_below j.frames; store = j.store }) s a)

    pub returns_with : (v : Value) (k : List Item) (ks : List Kind) (vs : List Value) (d : Scene) → Out (inside call) p.unit c k returning ks → IsScene p.unit c d → Suits E (kind_given call.func.ty) v → AreSuited E ks vs → IsWell p.unit (returned p.unit v vs d (up_to_call k))
    returns_with v k ks vs d h i s a =
        let r = call_left k ks h in
        subst (λ (o : Option Left). IsWell p.unit (returned p.unit v vs d o)) (sym r.is)
        (leaves_call v vs (end_objects r.objects d) (ends (inside call) tt p c r.objects d i) s (subst (λ (js : List Kind). AreSuited E js vs) r.base a))

    gives : (v : Value) (k : List Item) (ks : List Kind) (vs : List Value) (d : Scene) → Out (inside call) p.unit c k returning ks → IsScene p.unit c d → Suits E (kind_given call.func.ty) v → AreSuited E ks vs → (t : Bool) → IsWell p.unit (if t then returned p.unit v vs d (up_to_call k) else Undefined (By NoResult))
    gives v k ks vs d h i s a true = returns_with v k ks vs d h i s a
    gives v k ks vs d h i s a false = tt

    pub give_well : (k : List Item) (ks : List Kind) (vs : List Value) (d : Scene) → Takes (inside call) p.unit c (Give ∷ k) ks → IsScene p.unit c d → AreSuited E ks vs → IsWell p.unit (perform p Give k vs d)
    give_well k [] vs d h i a = absurd h.1
    give_well k (x ∷ ks) [] d h i a = absurd a
    give_well k (x ∷ ks) (v ∷ vs) d h i a = gives v k ks vs d h.1.1 i (raise E x (kind_given call.func.ty) v h.1.0 a.0) a.1 (is_value v)

    module _ (active : IsCall p.unit c c.frames call) where
      nothing : Suits E (kind_given call.func.ty) NoValue
      nothing = nothing_suits E (plain_of (result_of call.func.ty)) active.typed.gives

      pub give_nothing_well : (k : List Item) (ks : List Kind) (vs : List Value) (d : Scene) → Takes (inside call) p.unit c (GiveNothing ∷ k) ks → IsScene p.unit c d → AreSuited E ks vs → IsWell p.unit (perform p GiveNothing k vs d)
      give_nothing_well k ks vs d h i a = returns_with NoValue k ks vs d h.1 i nothing a

      -- the end of the body of `main` gives 0
      at_end : (start : (g : FuncTy) → slice_get p.unit.funcs p.main ≡ Some g → kind_given g.ty ≡ arithmetic true) (t : Bool) → (func_in c.frames == p.main) ≡ t → Suits E (kind_given call.func.ty) (if t then Whole (pos 0) else NoValue)
      at_end start true e =
          let same : func_in c.frames ≡ p.main = eqb-true (func_in c.frames) p.main e in
          subst (λ (x : Kind). Suits E x (Whole (pos 0))) (sym (start call.func (ap (λ (f : ℕ). slice_get p.unit.funcs f) (sym same) ∙ active.func))) tt
      at_end start false e = nothing

      pub leave_well : ((g : FuncTy) → slice_get p.unit.funcs p.main ≡ Some g → kind_given g.ty ≡ arithmetic true) → (k : List Item) (ks : List Kind) (vs : List Value) (d : Scene) → Takes (inside call) p.unit c (Leave ∷ k) ks → IsScene p.unit c d → AreSuited E ks vs → IsWell p.unit (perform p Leave k vs d)
      leave_well start k ks vs d h i a =
          subst (λ (w : List Item). IsWell p.unit (left_call p.unit (at_the_end p d.frames) w vs d)) (sym h.0)
          (leaves_call (at_the_end p d.frames) vs d i (subst (λ (fs : List Frame). Suits E (kind_given call.func.ty) (at_the_end p fs)) (sym i.frames) (at_end start (func_in c.frames == p.main) refl)) (subst (λ (js : List Kind). AreSuited E js vs) h.1 a))
