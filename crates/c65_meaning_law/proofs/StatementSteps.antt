-- A step of the work of a statement goes on, or is undefined by a numbered action.
use Rattle.std.proofs.Common.{◌≡◌, ℕ, zero, suc, ◌+◌, Bool, true, false, List, [], ◌∷◌, Option, Some, None, refl, sym, ap, ◌∙◌, subst}
use Rattle.std.specs.Prelude.{is_none, IsTrue, Result, Ok, Err, nat_lt, if◌then◌else◌}
use Rattle.c65_csem.specs.Trees.{MaybeTyped, absent, present, Stmt, Stmts}
use Rattle.c65_csem.specs.Statements.{Context}
use Rattle.c65_meaning.specs.Program.{ProgramTy}
use Rattle.c65_meaning.specs.Why.{Why, By, Unfit}
use Rattle.c65_meaning.specs.Store.{Block, Store, Value, Whole, Null, Place, Opaque, Cells, NoValue, put_cell, byte, end_in}
use Rattle.c65_meaning.specs.Operators.{truth_of}
use Rattle.c65_meaning.specs.Shapes.{object_in, lives_in_frame, object_block}
use Rattle.c65_meaning.specs.Items.{Item, Push, Name, Follow, Move, Fetch, Keep, Change, Apply1, Apply2, Both, Either, Truth, Choose, Drop, Put, Peek, Bump, PutUnder, Carry, Gather, Lay, Reach, Invoke, Busy, Loop, Skip, Init, CarryInto, Wipe, Begin, End, Branch, Test, Pass, Enter, Next, Back, Check, Redo, Select, EndSwitch, Jump, LeaveLoop, GoOn, Give, GiveNothing, Leave, plan, head_of, plan_stmt}
use Rattle.c65_meaning.specs.After.{Sought, ToCase, ToDefault, Landing, or_else, after, Left, ending, up_to_break, up_to_continue}
use Rattle.c65_meaning.specs.State.{Frame, Scene, State, Undefined, Deep, Ended, Running, turned, block_in, rest_in}
use Rattle.c65_meaning.specs.Step.{place_in, begin_objects, end_named, end_objects, put, carried_byte, carry_into_step, cleared, wipe_step, place_in_object, after_body, last_test, left_for, switched, chosen_case, func_in, frames_below, perform, step}
use Rattle.c65_meaning_law.specs.Laws.{HasBlock, IsFit}
use Rattle.c65_csem_names.specs.Scopes.{entering}
use Rattle.c65_meaning_law.specs.Statements.{IsReady, HasFrame, leaves, pauses, steps_within, StatementsFit}
use Rattle.c65_meaning_law.proofs.Stacks.{Kind, arithmetic, breaking, continuing, returning, naming, Sound, Suits, AreSuited, StoreFits, Setting, statement, HasStatements, D, IsWork, IsBlock, IsMaybePart, IsLoop, HasTest, Leads, Does, Takes, Out, IsScene, IsGood}
use Rattle.c65_meaning_law.proofs.Values.{truth_sound}
use Rattle.c65_meaning_law.proofs.Plans.{simple}
use Rattle.c65_meaning_law.proofs.Stores.{block_set, put_sound as cell_sound}
use Rattle.c65_meaning_law.proofs.Steps.{good_if, runs, with_one, decides, goes_in, stored_sound, put_sound, byte_sound, place_suits, performs}
use Rattle.c65_meaning_law.proofs.Expressions.{first_store, closed}
use Rattle.c65_meaning_law.proofs.Scopes.{automatic_of, Grows, grows_same, grows_on, ready_stays, begun}
use Rattle.c65_meaning_law.proofs.Landings.{Each, either, AreNamed, names, Lands, switch_out, block_out, lands}
use Rattle.c65_meaning_law.proofs.Statements.{cell_on, suited_on, takes_on, out_on, part_takes, head_takes, stmt_takes, stmts_take, work_takes}

abbrev begins : Item → Bool
begins (Begin n objects body) = true
begins (Select left n body) = true
begins _ = false

-- what runs inside a call alone
abbrev pub is_of_call : Item → Bool
is_of_call (Busy left l args rest) = true
is_of_call Leave = true
is_of_call _ = false

module _ (m : Setting) (hs : HasStatements m) (p : ProgramTy) (c : Scene) where
  abbrev E : ℕ → Type 0
  E b = D p.unit c b

  abbrev Here : Scene → Type 0
  Here d = IsScene p.unit c d

  abbrev Good : State → Type 0
  Good s = IsGood m p.unit c s

  abbrev Works : List Item → List Kind → Type 0
  Works k ks = Takes m p.unit c k ks

  abbrev Ends : List Item → List Kind → Type 0
  Ends k ks = Out m p.unit c k returning ks

  abbrev named_in : ℕ → List Frame → Result Value Why
  named_in n fs = if lives_in_frame (object_in p.unit n) then place_in (block_in fs n) else Ok (Place (object_block p.unit n) 0)

  pub goes : (k : List Item) (ks : List Kind) (vs : List Value) (d : Scene) → Works k ks → AreSuited E ks vs → Here d → Good (Running k vs d)
  goes k ks vs d t a i = runs m p c k ks vs d t a i

  turns : (d : Scene) → Here d → Here (turned d)
  turns d i = record { frames = i.frames; store = i.store }

  -- ---- areas

  carries_into : (j o done size : ℕ) (from : Value) (k : List Item) (ks : List Kind) (vs : List Value) (r : Result Scene Why) → HasBlock p.unit c j → Suits E naming from → Works k ks → AreSuited E ks vs → Sound Here r → Good (carry_into_step j o done size from k vs r)
  carries_into j o done size from k ks vs (Ok d) h s t a i = good_if m p c (nat_lt (suc done) size) (Running (CarryInto j o (suc done) size ∷ k) (from ∷ vs) d) (Running k vs d) (goes (CarryInto j o (suc done) size ∷ k) (naming ∷ ks) (from ∷ vs) d (hs, (h, t)) (s, a) i) (goes k ks vs d t a i)
  carries_into j o done size from k ks vs (Err (By action)) h s t a i = tt
  carries_into j o done size from k ks vs (Err Unfit) h s t a i = absurd i

  clears : (done : ℕ) (d : Scene) (v : Value) → Here d → Suits E naming v → Sound Here (cleared d done v)
  clears done d (Place b o) i s = stored_sound m p c d (put_cell true d.store b (o + done) (byte 0)) i (cell_sound E true d.store b (o + done) (byte 0) i.store s tt)
  clears done d (Whole z) i s = absurd s
  clears done d Null i s = absurd s
  clears done d (Cells xs) i s = absurd s
  clears done d Opaque i s = absurd s
  clears done d NoValue i s = absurd s

  wipes : (j done size : ℕ) (k : List Item) (ks : List Kind) (vs : List Value) (r : Result Scene Why) → HasBlock p.unit c j → Works k ks → AreSuited E ks vs → Sound Here r → Good (wipe_step j done size k vs r)
  wipes j done size k ks vs (Ok d) h t a i = good_if m p c (nat_lt (suc done) size) (Running (Wipe j (suc done) size ∷ k) vs d) (Running k vs d) (goes (Wipe j (suc done) size ∷ k) ks vs d (hs, (h, t)) a i) (goes k ks vs d t a i)
  wipes j done size k ks vs (Err (By action)) h t a i = tt
  wipes j done size k ks vs (Err Unfit) h t a i = absurd i

  -- ---- the end of a block

  end_fits : (s : Store) (b : ℕ) (m : Option Block) → s b ≡ m → StoreFits E s → StoreFits E (end_in s b m)
  end_fits s b None e h = h
  end_fits s b (Some x) e h = block_set E s b (record x { live = false }) h (h.all b x e)

  pub end_one : (n : Option ℕ) (d : Scene) → Here d → Here (end_named n d)
  end_one None d i = i
  end_one (Some b) d i = record { frames = i.frames; store = end_fits d.store b (d.store b) refl i.store }

  pub ends : (objects : List ℕ) (d : Scene) → Here d → Here (end_objects objects d)
  ends [] d i = i
  ends (j ∷ rest) d i = ends rest (end_named (block_in d.frames j) d) (end_one (block_in d.frames j) d i)

  -- ---- loops

  body_ends : (l : Loop) (o : MaybeTyped) (k : List Item) (ks : List Kind) (vs : List Value) (d : Scene) → IsMaybePart p.unit c o → IsLoop m p.unit c l → Works k ks → Ends k ks → AreSuited E ks vs → Here d → Good (after_body p.unit l o k vs d)
  body_ends l absent k ks vs d h w t r a i = goes (head_of p.unit l k) ks vs (turned d) (head_takes m hs p.unit c l k ks w t r) a (turns d i)
  body_ends l (present e) k ks vs d h w t r a i = goes (plan p.unit e (Back l ∷ k)) ks vs d (part_takes m hs p.unit c e (Back l ∷ k) ks h (hs, (w, t, r))) a i

  tests : (l : Loop) (o : MaybeTyped) (k : List Item) (ks : List Kind) (vs : List Value) (d : Scene) → IsMaybePart p.unit c o → HasTest o → IsLoop m p.unit c l → HasTest l.test → Works k ks → Ends k ks → AreSuited E ks vs → Here d → Good (last_test p.unit l o k vs d)
  tests l absent k ks vs d h g w q t r a i = absurd g
  tests l (present e) k ks vs d h g w q t r a i = goes (plan p.unit e (Redo l ∷ k)) ks vs d (part_takes m hs p.unit c e (Redo l ∷ k) ks h (hs, (w, t, r, q, simple e))) a i

  body_takes : (l : Loop) (k : List Item) (ks : List Kind) (h : IsLoop m p.unit c l) → Works k ks → Leads h.body.context (Out m p.unit c k) ks → Works (plan_stmt p.unit l.at l.body k) ks
  body_takes l k ks h t q = work_takes m hs p.unit c l.at l.body k ks h.body t q

  next_out : (x : Context) (l : Loop) (k : List Item) (ks : List Kind) → Works (Next l ∷ k) ks → Leads x (Out m p.unit c (Next l ∷ k)) ks
  next_out x l k ks t breaking a = t.1.1
  next_out x l k ks t continuing a = t
  next_out x l k ks t returning a = t.1.2

  check_out : (x : Context) (l : Loop) (k : List Item) (ks : List Kind) → Works (Check l ∷ k) ks → Leads x (Out m p.unit c (Check l ∷ k)) ks
  check_out x l k ks t breaking a = t.1.1
  check_out x l k ks t continuing a = t
  check_out x l k ks t returning a = t.1.2

  next_body : (l : Loop) (k : List Item) (ks : List Kind) → Works (Next l ∷ k) ks → Works (plan_stmt p.unit l.at l.body (Next l ∷ k)) ks
  next_body l k ks t = body_takes l (Next l ∷ k) ks t.1.0 t (next_out t.1.0.body.context l k ks t)

  check_body : (l : Loop) (k : List Item) (ks : List Kind) → Works (Check l ∷ k) ks → Works (plan_stmt p.unit l.at l.body (Check l ∷ k)) ks
  check_body l k ks t = body_takes l (Check l ∷ k) ks t.1.0 t (check_out t.1.0.body.context l k ks t)

  -- ---- loops and switches are left

  abbrev work_left : Option Left → List Item
  work_left None = []
  work_left (Some r) = r.work

  left_with : (k : List Item) (ks : List Kind) (r : Left) → Some (record { objects = []; work = k }) ≡ Some r → Works k ks → Works r.work ks
  left_with k ks r e t = let same : k ≡ r.work = ap work_left e in subst (λ (w : List Item). Works w ks) same t

  with_ends : (objects : List ℕ) (o : Option Left) (ks : List Kind) → ((r : Left) → o ≡ Some r → Works r.work ks) → (r : Left) → ending objects o ≡ Some r → Works r.work ks
  with_ends objects None ks f r e = absurd (cc)
  with_ends objects (Some q) ks f r e = let same : q.work ≡ r.work = ap work_left e in subst (λ (w : List Item). Works w ks) same (f q refl)

  breaks : (k : List Item) (ks : List Kind) → Out m p.unit c k breaking ks → (r : Left) → up_to_break k ≡ Some r → Works r.work ks
  breaks [] ks h r e = absurd (cc)
  breaks (Next l ∷ k) ks h r e = left_with k ks r e h
  breaks (Check l ∷ k) ks h r e = left_with k ks r e h
  breaks (EndSwitch ∷ k) ks h r e = left_with k ks r e h
  breaks (Leave ∷ k) ks h r e = absurd (cc)
  breaks (End objects ∷ k) ks h r e = with_ends objects (up_to_break k) ks (breaks k ks h) r e
  breaks (_ ∷ k) ks h r e = breaks k ks h r e

  continues : (k : List Item) (ks : List Kind) → Out m p.unit c k continuing ks → (r : Left) → up_to_continue k ≡ Some r → Works r.work ks
  continues [] ks h r e = absurd (cc)
  continues (Next l ∷ k) ks h r e = left_with (Next l ∷ k) ks r e h
  continues (Check l ∷ k) ks h r e = left_with (Check l ∷ k) ks r e h
  continues (Leave ∷ k) ks h r e = absurd (cc)
  continues (End objects ∷ k) ks h r e = with_ends objects (up_to_continue k) ks (continues k ks h) r e
  continues (_ ∷ k) ks h r e = continues k ks h r e

  leaves_for : (o : Option Left) (ks : List Kind) (vs : List Value) (d : Scene) → is_none o ≡ false → ((r : Left) → o ≡ Some r → Works r.work ks) → AreSuited E ks vs → Here d → Good (left_for vs d o)
  leaves_for None ks vs d n f a i = absurd (cc)
  leaves_for (Some r) ks vs d n f a i = goes r.work ks vs (end_objects r.objects d) (f r refl) a (ends r.objects d i)

  -- ---- one item that begins no block

  acts : (j : Item) (k : List Item) (ks : List Kind) (vs : List Value) (d : Scene) → leaves j k ≡ false → begins j ≡ false → is_of_call j ≡ false → Does m p.unit c j k (Takes m p.unit c k) (Out m p.unit c k) ks → AreSuited E ks vs → Here d → Good (perform p j k vs d)
  acts Skip k ks vs d n o u t a i = goes k ks vs d t.1 a i
  acts (Init j q f) k (x ∷ ks) vs d n o u t a i = with_one m p c x ks vs _ a (λ v r s b. goes_in m p c (put true f d (place_in_object p.unit j q d) v) k ks r t.1.1 b (put_sound m p c true f d x (place_in_object p.unit j q d) v i (place_suits m p c j q d t.1.0 i) s))
  acts (CarryInto j q done size) k (naming ∷ ks) vs d n o u t a i = with_one m p c naming ks vs _ a (λ v r s b. good_if m p c (nat_lt done size) (carry_into_step j q done size v k r (carried_byte true done size d v (place_in_object p.unit j q d))) (Running k r d) (carries_into j q done size v k ks r (carried_byte true done size d v (place_in_object p.unit j q d)) t.1.0 s t.1.1 b (byte_sound m p c true done size d v (place_in_object p.unit j q d) i s (place_suits m p c j q d t.1.0 i))) (goes k ks r d t.1.1 b i))
  acts (Wipe j done size) k ks vs d n o u t a i = good_if m p c (nat_lt done size) (wipe_step j done size k vs (cleared d done (place_in_object p.unit j 0 d))) (Running k vs d) (wipes j done size k ks vs (cleared d done (place_in_object p.unit j 0 d)) t.1.0 t.1.1 a (clears done d (place_in_object p.unit j 0 d) i (place_suits m p c j 0 d t.1.0 i))) (goes k ks vs d t.1.1 a i)
  acts (Begin at objects body) k ks vs d n o u t a i = absurd (cc)
  acts (End objects) k ks vs d n o u t a i = goes k ks vs (end_objects objects d) t.1 a (ends objects d i)
  acts (Branch at e q f) k (x ∷ ks) vs d n o u t a i = with_one m p c x ks vs _ a (λ v r s b. decides m p c (truth_of d.store v) (Running (plan_stmt p.unit at e k) r d) (Running (plan_stmt p.unit q f k) r d) (truth_sound E d.store x v t.1.5 s)
      (goes (plan_stmt p.unit at e k) ks r d (work_takes m hs p.unit c at e k ks t.1.0 t.1.2 t.1.3) b i)
      (goes (plan_stmt p.unit q f k) ks r d (work_takes m hs p.unit c q f k ks t.1.1 t.1.2 t.1.4) b i))
  acts (Test l) k (x ∷ ks) vs d n o u t a i = with_one m p c x ks vs _ a (λ v r s b. decides m p c (truth_of d.store v) (Running (plan_stmt p.unit l.at l.body (Next l ∷ k)) r d) (Running k r d) (truth_sound E d.store x v t.1.3 s)
      (goes (plan_stmt p.unit l.at l.body (Next l ∷ k)) ks r d (next_body l k ks (t.0, (t.1.0, t.1.1, t.1.2))) b i)
      (goes k ks r d t.1.1 b i))
  acts (Pass l) k ks vs d n o u t a i = goes (plan_stmt p.unit l.at l.body (Next l ∷ k)) ks vs d (next_body l k ks t) a i
  acts (Enter l) k ks vs d n o u t a i = goes (plan_stmt p.unit l.at l.body (Check l ∷ k)) ks vs d (check_body l k ks t) a i
  acts (Next l) k ks vs d n o u t a i = body_ends l l.next k ks vs d t.1.0.next t.1.0 t.1.1 t.1.2 a i
  acts (Back l) k (x ∷ ks) vs d n o u t a i = with_one m p c x ks vs _ a (λ v r s b. goes (head_of p.unit l k) ks r (turned d) (head_takes m hs p.unit c l k ks t.1.0 t.1.1 t.1.2) b (turns d i))
  acts (Check l) k ks vs d n o u t a i = tests l l.test k ks vs d t.1.0.test t.1.3 t.1.0 t.1.3 t.1.1 t.1.2 a i
  acts (Redo l) k (x ∷ ks) vs d n o u t a i = with_one m p c x ks vs _ a (λ v r s b. decides m p c (truth_of d.store v) (Running (plan_stmt p.unit l.at l.body (Check l ∷ k)) r (turned d)) (Running k r d) (truth_sound E d.store x v t.1.4 s)
      (goes (plan_stmt p.unit l.at l.body (Check l ∷ k)) ks r (turned d) (check_body l k ks (t.0, (t.1.0, t.1.1, t.1.2, t.1.3))) b (turns d i))
      (goes k ks r d t.1.1 b i))
  acts EndSwitch k ks vs d n o u t a i = goes k ks vs d t.1 a i
  acts (Push v) k ks vs d n o u t a i = performs m p c (Push v) k ks vs d refl t a i
  acts (Name q) k ks vs d n o u t a i = performs m p c (Name q) k ks vs d refl t a i
  acts Follow k ks vs d n o u t a i = performs m p c Follow k ks vs d refl t a i
  acts (Move q) k ks vs d n o u t a i = performs m p c (Move q) k ks vs d refl t a i
  acts (Fetch f) k ks vs d n o u t a i = performs m p c (Fetch f) k ks vs d refl t a i
  acts Keep k ks vs d n o u t a i = performs m p c Keep k ks vs d refl t a i
  acts (Change to) k ks vs d n o u t a i = performs m p c (Change to) k ks vs d refl t a i
  acts (Apply1 op f) k ks vs d n o u t a i = performs m p c (Apply1 op f) k ks vs d refl t a i
  acts (Apply2 op f g) k ks vs d n o u t a i = performs m p c (Apply2 op f g) k ks vs d refl t a i
  acts (Both e) k ks vs d n o u t a i = performs m p c (Both e) k ks vs d refl t a i
  acts (Either e) k ks vs d n o u t a i = performs m p c (Either e) k ks vs d refl t a i
  acts Truth k ks vs d n o u t a i = performs m p c Truth k ks vs d refl t a i
  acts (Choose e f) k ks vs d n o u t a i = performs m p c (Choose e f) k ks vs d refl t a i
  acts Drop k ks vs d n o u t a i = performs m p c Drop k ks vs d refl t a i
  acts (Put f) k ks vs d n o u t a i = performs m p c (Put f) k ks vs d refl t a i
  acts (Peek f to) k ks vs d n o u t a i = performs m p c (Peek f to) k ks vs d refl t a i
  acts (Bump kind f) k ks vs d n o u t a i = performs m p c (Bump kind f) k ks vs d refl t a i
  acts (PutUnder f) k ks vs d n o u t a i = performs m p c (PutUnder f) k ks vs d refl t a i
  acts (Carry done size) k ks vs d n o u t a i = performs m p c (Carry done size) k ks vs d refl t a i
  acts (Gather size) k ks vs d n o u t a i = performs m p c (Gather size) k ks vs d refl t a i
  acts (Lay j done size) k ks vs d n o u t a i = performs m p c (Lay j done size) k ks vs d refl t a i
  acts Reach k ks vs d n o u t a i = performs m p c Reach k ks vs d refl t a i
  acts (Invoke callee types) k ks vs d n o u t a i = absurd (cc)
  acts (Busy left l args rest) k ks vs d n o u t a i = absurd (cc)
  acts (Select left at body) k ks vs d n o u t a i = absurd (cc)
  acts (Jump l at) k ks vs d n o u t a i = absurd (cc)
  acts LeaveLoop k ks vs d n o u t a i = leaves_for (up_to_break k) ks vs d n (breaks k ks t.1) a i
  acts GoOn k ks vs d n o u t a i = leaves_for (up_to_continue k) ks vs d n (continues k ks t.1) a i
  acts Give k ks vs d n o u t a i = absurd (cc)
  acts GiveNothing k ks vs d n o u t a i = absurd (cc)
  acts Leave k ks vs d n o u t a i = absurd (cc)
  acts _ k ks vs d n o u t a i = absurd t.1

  -- ---- a block begins: what stands is said of the scene in which its objects have blocks

  pub moves_here : (d : Scene) → Here d → Grows p.unit c d
  moves_here d i = record { blocks = i.store.there; objects = λ j h. (h.0, ap (named_in j) i.frames ∙ h.1, i.store.there h.0 h.2); rest = λ h. (h.0, ap rest_in i.frames ∙ h.1, i.store.there h.0 h.2); active = λ h. subst HasFrame (sym i.frames) h; func = ap func_in i.frames; below = ap frames_below i.frames }

-- good from a later scene on, in which more has begun
abbrev pub IsGoodFrom : Setting → ProgramTy → Scene → State → Type 0
IsGoodFrom m p c s = (e : Scene) × Grows p.unit c e × IsGood m p.unit e s

module _ (m : Setting) (hs : HasStatements m) (p : ProgramTy) where
  pub stands_here : (d : Scene) → StoreFits (D p.unit d) d.store → IsScene p.unit d d
  stands_here d h = record { frames = refl; store = h }

  pub fits_here : (c d : Scene) (g : Grows p.unit c d) → StoreFits (D p.unit c) d.store → StoreFits (D p.unit d) d.store
  fits_here c d g h = record { there = λ b i. i; all = λ b x e q. cell_on m p.unit c d g (x.cells q) (h.all b x e q) }

  good_here : (c : Scene) (s : State) → IsGood m p.unit c s → IsGoodFrom m p c s
  good_here c s h = (c, grows_same p.unit c, h)

  blocks_begin : (c : Scene) (at : ℕ) (objects : List ℕ) (body : Stmts) (k : List Item) (ks : List Kind) (vs : List Value) (d : Scene) (h : IsBlock m p.unit c objects body) → Takes m p.unit c k ks → Leads h.context (Out m p.unit c k) ks → AreSuited (D p.unit c) ks vs → IsScene p.unit c d → IsGoodFrom m p c (perform p (Begin at objects body) k vs d)
  blocks_begin c at objects body k ks vs d h t q a i =
      let e : Scene = begin_objects p.unit objects d in
      let g = moves_here m hs p c d i in
      let n = automatic_of p.unit objects h.automatic in
      let on = begun p.unit h.variadic objects h.scope d n (ready_stays p.unit c d g h.variadic h.scope h.ready) (fits_here c d g i.store) in
      let all = grows_on p.unit c d e g on.grows in
      let later : Takes m p.unit e k ks = takes_on m p.unit c e all k ks t in
      (e, all, record { kinds = ks; takes = stmts_take m hs p.unit e h.variadic (entering objects h.scope) on.ready h.context at body (End objects ∷ k) ks h.placed h.typed h.scoped (hs, later) (block_out p.unit m hs ToDefault e ks h.variadic h.context objects h.scope k n (λ y l. out_on m p.unit c e all k y ks (q y l)) on.ready); suited = suited_on m p.unit c e all ks vs a; scene = stands_here e on.store })

  -- ---- a switch lands, or goes on behind it

  switch_lands : (c : Scene) (variadic : Bool) (scope : List ℕ) (k : List Item) (ks : List Kind) (vs : List Value) (d : Scene) (o : Option Landing) → IsReady p.unit variadic scope c → Takes m p.unit c k ks → Each (AreNamed p.unit) o → ((e : Scene) → Grows p.unit c e → Each (Lands p.unit m hs ToDefault e ks variadic scope) o) → AreSuited (D p.unit c) ks vs → IsScene p.unit c d → IsGoodFrom m p c (switched p.unit k vs d o)
  switch_lands c variadic scope k ks vs d None r t n f a i = good_here c (Running k vs d) (runs m p c k ks vs d t a i)
  switch_lands c variadic scope k ks vs d (Some to) r t n f a i =
      let e : Scene = begin_objects p.unit to.objects d in
      let g = moves_here m hs p c d i in
      let on = begun p.unit variadic to.objects scope d n (ready_stays p.unit c d g variadic scope r) (fits_here c d g i.store) in
      let all = grows_on p.unit c d e g on.grows in
      (e, all, record { kinds = ks; takes = f e all on.ready; suited = suited_on m p.unit c e all ks vs a; scene = stands_here e on.store })

  case_chosen : (c : Scene) (n : ℕ) (body : Stmt) (s : Bool) (v : Value) (k : List Item) (ks : List Kind) (vs : List Value) (d : Scene) → Suits (D p.unit c) (arithmetic s) v → (h : IsWork m p.unit c body) → Takes m p.unit c k ks → Out m p.unit c k returning ks → (IsTrue h.context.in_loop → Out m p.unit c k continuing ks) → AreSuited (D p.unit c) ks vs → IsScene p.unit c d → IsGoodFrom m p c (chosen_case p.unit n body k vs d v)
  case_chosen c n body s (Whole z) k ks vs d y h t q l a i = switch_lands c h.variadic h.scope k ks vs d (or_else (after p.unit (ToCase z) n body (EndSwitch ∷ k)) (after p.unit ToDefault n body (EndSwitch ∷ k))) h.ready t
      (either (AreNamed p.unit) (after p.unit (ToCase z) n body (EndSwitch ∷ k)) (after p.unit ToDefault n body (EndSwitch ∷ k)) (names p.unit (ToCase z) h.context n body (EndSwitch ∷ k) h.typed) (names p.unit ToDefault h.context n body (EndSwitch ∷ k) h.typed))
      (λ e g. either (Lands p.unit m hs ToDefault e ks h.variadic h.scope) (after p.unit (ToCase z) n body (EndSwitch ∷ k)) (after p.unit ToDefault n body (EndSwitch ∷ k)) (landing (ToCase z) e g) (landing ToDefault e g))
      a i
    where
      landing : (what : Sought) (e : Scene) → Grows p.unit c e → Each (Lands p.unit m hs what e ks h.variadic h.scope) (after p.unit what n body (EndSwitch ∷ k))
      landing what e g = lands p.unit m hs what e ks h.variadic h.context h.scope n body (EndSwitch ∷ k) h.placed h.typed h.scoped (λ r. (hs, takes_on m p.unit c e g k ks t)) (λ r. switch_out p.unit m hs what e ks h.variadic h.context k (takes_on m p.unit c e g k ks t) (λ w. out_on m p.unit c e g k continuing ks (l w)) (out_on m p.unit c e g k returning ks q))
  case_chosen c n body s Opaque k ks vs d y h t q l a i = (c, grows_same p.unit c, tt)
  case_chosen c n body s NoValue k ks vs d y h t q l a i = (c, grows_same p.unit c, tt)
  case_chosen c n body s Null k ks vs d y h t q l a i = absurd y
  case_chosen c n body s (Cells xs) k ks vs d y h t q l a i = absurd y
  case_chosen c n body s (Place b o) k ks vs d y h t q l a i = absurd y

  selects : (c : Scene) (left n : ℕ) (body : Stmt) (s : Bool) (k : List Item) (ks : List Kind) (vs : List Value) (d : Scene) (h : IsWork m p.unit c body) → Takes m p.unit c k ks → Out m p.unit c k returning ks → (IsTrue h.context.in_loop → Out m p.unit c k continuing ks) → AreSuited (D p.unit c) (arithmetic s ∷ ks) vs → IsScene p.unit c d → IsGoodFrom m p c (perform p (Select left n body) k vs d)
  selects c (suc left) n body s k ks vs d h t q l a i = good_here c (Running (Select left n body ∷ k) vs d) (runs m p c (Select left n body ∷ k) (arithmetic s ∷ ks) vs d (hs, (h, t, q, l)) a i)
  selects c zero n body s k ks [] d h t q l a i = absurd a
  selects c zero n body s k ks (v ∷ vs) d h t q l a i = case_chosen c n body s v k ks vs d a.0 h t q l a.1 i

  beginning : (c : Scene) (j : Item) (k : List Item) (ks : List Kind) (vs : List Value) (d : Scene) → begins j ≡ true → Does m p.unit c j k (Takes m p.unit c k) (Out m p.unit c k) ks → AreSuited (D p.unit c) ks vs → IsScene p.unit c d → IsGoodFrom m p c (perform p j k vs d)
  beginning c (Begin n objects body) k ks vs d e h a i = blocks_begin c n objects body k ks vs d h.1.0 h.1.1 h.1.2 a i
  beginning c (Select left n body) k (arithmetic s ∷ ks) vs d e h a i = selects c left n body s k ks vs d h.1.0 h.1.1 h.1.2 h.1.3 a i
  beginning c (Select left n body) k _ vs d e h a i = absurd h.1
  beginning c _ k ks vs d e h a i = absurd (cc)

  pub does_step : (c : Scene) (j : Item) (k : List Item) (ks : List Kind) (vs : List Value) (d : Scene) → leaves j k ≡ false → is_of_call j ≡ false → Does m p.unit c j k (Takes m p.unit c k) (Out m p.unit c k) ks → AreSuited (D p.unit c) ks vs → IsScene p.unit c d → IsGoodFrom m p c (perform p j k vs d)
  does_step c j k ks vs d f n t a i = tested (begins j) refl
    where
      tested : (b : Bool) → begins j ≡ b → IsGoodFrom m p c (perform p j k vs d)
      tested false e = good_here c (perform p j k vs d) (acts m hs p c j k ks vs d f e n t a i)
      tested true e = beginning c j k ks vs d e t a i

-- ---- one statement

-- good from some scene on
abbrev IsGoodSome : ProgramTy → State → Type 0
IsGoodSome p s = (c : Scene) × IsGood statement p.unit c s

module _ (p : ProgramTy) where
  of_no_call : (c : Scene) (j : Item) (k : List Item) (ks : List Kind) → Does statement p.unit c j k (Takes statement p.unit c k) (Out statement p.unit c k) ks → is_of_call j ≡ false
  of_no_call c (Busy left l args rest) k ks h = absurd h.0
  of_no_call c Leave k ks h = absurd h
  of_no_call c _ k ks h = refl

  steps_well : (s : State) → pauses s ≡ false → IsGoodSome p s → IsGoodSome p (step p s)
  steps_well (Undefined (By action)) e h = (h.0, tt)
  steps_well (Undefined Unfit) e h = absurd h.1
  steps_well Deep e h = (h.0, tt)
  steps_well (Ended out status turns) e h = (h.0, tt)
  steps_well (Running [] vs d) e h = absurd (cc)
  steps_well (Running (j ∷ k) vs d) e h =
      let next = does_step statement tt p h.0 j k h.1.kinds vs d e (of_no_call h.0 j k h.1.kinds h.1.takes) h.1.takes h.1.suited h.1.scene in
      (next.0, next.2)

  goes_well : (n : ℕ) (s : State) → IsGoodSome p s → IsGoodSome p (steps_within p n s)
  goes_well zero s h = h
  goes_well (suc n) s h = tested (pauses s) refl (λ g. goes_well n (step p s) g)
    where
      tested : (t : Bool) → pauses s ≡ t → (IsGoodSome p (step p s) → IsGoodSome p (steps_within p n (step p s))) → IsGoodSome p (if t then s else steps_within p n (step p s))
      tested true e f = h
      tested false e f = f (steps_well s e h)

  fit : (s : State) → IsGoodSome p s → IsFit s
  fit (Undefined (By action)) h = tt
  fit (Undefined Unfit) h = absurd h.1
  fit Deep h = tt
  fit (Ended out status turns) h = tt
  fit (Running work vs d) h = closed p h.0 d.store h.1.scene.store

pub statements_fit : StatementsFit
statements_fit p x variadic scope s at n values c w h r k = fit p (steps_within p n (Running (plan_stmt p.unit at s []) values c)) (goes_well p n (Running (plan_stmt p.unit at s []) values c) (c, record { kinds = []; takes = stmt_takes statement tt p.unit c variadic scope r x at s [] [] tt w h tt (λ y l. tt); suited = tt; scene = record { frames = refl; store = first_store p c k } }))
