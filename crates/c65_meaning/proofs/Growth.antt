-- Output only grows, turns only rise, and names of blocks stay: each item leaves what was there before.
use Rattle.std.proofs.Common.{subst, ◌≡◌, ℕ, zero, suc, ◌+◌, sym, ap, List, [], ◌∷◌, ◌++◌, append_assoc, append-nil, pos, Bool, true, false, ◌∙◌, arith}
use Rattle.std.specs.Prelude.{⊤, Result, Ok, Err, Option, Some, None, if◌then◌else◌, nat_lt, nat_le, ◌==◌, ◌&&◌, slice_get}
use Rattle.c65_csem.specs.Trees.{MaybeTyped, absent, present, Stmt, UnitTy}
use Rattle.c65_meaning.specs.Program.{ProgramTy}
use Rattle.c65_meaning.specs.Why.{Why}
use Rattle.c65_meaning.specs.Store.{carry, put_cell, nth_cell, byte, Value, Whole, Null, Place, Opaque, Cells, NoValue, Shape}
use Rattle.c65_meaning.specs.Operators.{is_post, truth_of}
use Rattle.c65_meaning.specs.Items.{Item, Loop, Push, Name, Follow, Move, Fetch, Keep, Change, Apply1, Apply2, Both, Either, Truth, Choose, Drop, Put, Peek, Bump, PutUnder, Carry, Gather, Lay, Reach, Invoke, Busy, Skip, Init, CarryInto, Wipe, Begin, End, Branch, Test, Pass, Enter, Next, Back, Check, Redo, Select, EndSwitch, Jump, LeaveLoop, GoOn, Give, GiveNothing, Leave, head_of, plan, plan_stmt, plan_stmts}
use Rattle.c65_meaning.specs.After.{Left, Landing, without, up_to_call, up_to_break, up_to_continue}
use Rattle.c65_meaning.specs.State.{State, Undefined, Deep, Ended, Running, Scene}
use Rattle.c65_meaning.specs.Step.{step, steps, perform, begin_objects, end_objects, loaded, put, assigned, partly_overlap, carried, carried_byte, carry_step, copy_step, carry_into_step, set_area_step, cleared, wipe_step, clear_step, laid, lay_on, lay_step, rest_place, left_for, landed, jumped, label_in, body_of, func_in, switched, chosen_case, after_body, last_test, is_value, under, place_in_object, at_the_end, object_place, taken}
use Rattle.c65_meaning.specs.Sem.{outcome_of, state_at}
use Rattle.c65_meaning.specs.Laws.{IsLater, Shows, Follows, OutputGrows, NamesStay}
use Rattle.c65_meaning.proofs.Blocks.{carry_keeps, put_cell_keeps}
use Rattle.c65_meaning.proofs.Grown.{Onward, Grown, SameIf, itself, names_itself, names_twice, runs, same, turn, one_grows, two_grow, go_on_grows, goes_on, if_grows, decided_grows, with_scene_grows, stored_same, begin_same, end_same, has_turn_grows}
use Rattle.c65_meaning.proofs.GrownCalls.{left_call_grows, returned_grows, library_grows, put_same, invoked_grows}
use Rattle.c65_meaning.proofs.RunLaws.{runs_go_on, last_stays}

-- ---- stores

assigned_grows : (c : Scene) (shape : Shape) (at : Value) (k : List Item) (vs : List Value) (o : Result Scene Why) → SameIf c o → Grown c (assigned shape at k vs o)
assigned_grows c shape at k vs (Err why) h = tt
assigned_grows c shape at k vs (Ok d) h = go_on_grows c (loaded shape d at) k vs d h

-- ---- structures and unions

carried_same : (first : Bool) (done : ℕ) (c : Scene) (from to : Value) → SameIf c (carried first done c from to)
carried_same first done c (Place b o) (Place d p) = stored_same c (carry first c.store b (o + done) d (p + done)) (carry_keeps first c.store b (o + done) d (p + done))
carried_same first done c (Place b o) (Whole z) = tt
carried_same first done c (Place b o) Null = tt
carried_same first done c (Place b o) Opaque = tt
carried_same first done c (Place b o) (Cells xs) = tt
carried_same first done c (Place b o) NoValue = tt
carried_same first done c (Whole z) to = tt
carried_same first done c Null to = tt
carried_same first done c Opaque to = tt
carried_same first done c (Cells xs) to = tt
carried_same first done c NoValue to = tt

unless_same : (c : Scene) (t : Bool) (why : Why) (o : Result Scene Why) → SameIf c o → SameIf c (if t then Err why else o)
unless_same c true why o h = tt
unless_same c false why o h = h

byte_same : (first : Bool) (done size : ℕ) (c : Scene) (from to : Value) → SameIf c (carried_byte first done size c from to)
byte_same first done size c from to = unless_same c (done == 0 && partly_overlap size from to) _ _ (carried_same first done c from to)

cleared_same : (c : Scene) (done : ℕ) (at : Value) → SameIf c (cleared c done at)
cleared_same c done (Place b o) = stored_same c (put_cell true c.store b (o + done) (byte 0)) (put_cell_keeps true c.store b (o + done) (byte 0))
cleared_same c done (Whole z) = tt
cleared_same c done Null = tt
cleared_same c done Opaque = tt
cleared_same c done (Cells xs) = tt
cleared_same c done NoValue = tt

carry_grows : (c : Scene) (done size : ℕ) (from to : Value) (k : List Item) (vs : List Value) (o : Result Scene Why) → SameIf c o → Grown c (carry_step done size from to k vs o)
carry_grows c done size from to k vs (Err why) h = tt
carry_grows c done size from to k vs (Ok d) h = if_grows c (nat_lt (suc done) size) _ _ (runs c (Carry (suc done) size ∷ k) (from ∷ to ∷ vs) d h) (runs c k (to ∷ vs) d h)

copy_grows : (done size : ℕ) (from to : Value) (k : List Item) (vs : List Value) (c : Scene) → Grown c (copy_step done size from to k vs c)
copy_grows done size from to k vs c = if_grows c (nat_lt done size) _ _ (carry_grows c done size from to k vs (carried_byte false done size c from to) (byte_same false done size c from to)) (same k (to ∷ vs) c)

carry_into_grows : (c : Scene) (i o done size : ℕ) (from : Value) (k : List Item) (vs : List Value) (x : Result Scene Why) → SameIf c x → Grown c (carry_into_step i o done size from k vs x)
carry_into_grows c i o done size from k vs (Err why) h = tt
carry_into_grows c i o done size from k vs (Ok d) h = if_grows c (nat_lt (suc done) size) _ _ (runs c (CarryInto i o (suc done) size ∷ k) (from ∷ vs) d h) (runs c k vs d h)

set_area_grows : (i o done size : ℕ) (from to : Value) (k : List Item) (vs : List Value) (c : Scene) → Grown c (set_area_step i o done size from to k vs c)
set_area_grows i o done size from to k vs c = if_grows c (nat_lt done size) _ _ (carry_into_grows c i o done size from k vs (carried_byte true done size c from to) (byte_same true done size c from to)) (same k vs c)

wipe_grows : (c : Scene) (i done size : ℕ) (k : List Item) (vs : List Value) (x : Result Scene Why) → SameIf c x → Grown c (wipe_step i done size k vs x)
wipe_grows c i done size k vs (Err why) h = tt
wipe_grows c i done size k vs (Ok d) h = if_grows c (nat_lt (suc done) size) _ _ (runs c (Wipe i (suc done) size ∷ k) vs d h) (runs c k vs d h)

clear_grows : (i done size : ℕ) (at : Value) (k : List Item) (vs : List Value) (c : Scene) → Grown c (clear_step i done size at k vs c)
clear_grows i done size at k vs c = if_grows c (nat_lt done size) _ _ (wipe_grows c i done size k vs (cleared c done at) (cleared_same c done at)) (same k vs c)

laid_same : (c : Scene) (done : ℕ) (at v : Value) → SameIf c (laid done c at v)
laid_same c done (Place b o) (Cells xs) = stored_same c (put_cell true c.store b (o + done) (nth_cell xs done)) (put_cell_keeps true c.store b (o + done) (nth_cell xs done))
laid_same c done (Place b o) NoValue = tt
laid_same c done (Place b o) (Whole z) = tt
laid_same c done (Place b o) Null = tt
laid_same c done (Place b o) (Place d q) = tt
laid_same c done (Place b o) Opaque = tt
laid_same c done (Whole z) v = tt
laid_same c done Null v = tt
laid_same c done Opaque v = tt
laid_same c done (Cells xs) v = tt
laid_same c done NoValue v = tt

lay_on_grows : (c : Scene) (i done size : ℕ) (v at : Value) (k : List Item) (vs : List Value) (x : Result Scene Why) → SameIf c x → Grown c (lay_on i done size v at k vs x)
lay_on_grows c i done size v at k vs (Err why) h = tt
lay_on_grows c i done size v at k vs (Ok d) h = if_grows c (nat_lt (suc done) size) _ _ (runs c (Lay i (suc done) size ∷ k) (v ∷ vs) d h) (runs c k (at ∷ vs) d h)

lay_grows : (i done size : ℕ) (v at : Value) (k : List Item) (vs : List Value) (c : Scene) → Grown c (lay_step i done size v at k vs c)
lay_grows i done size v at k vs c = if_grows c (nat_lt done size) _ _ (lay_on_grows c i done size v at k vs (laid done c at v) (laid_same c done at v)) (same k (at ∷ vs) c)

-- ---- jumps

left_for_grows : (vs : List Value) (c : Scene) (o : Option Left) → Grown c (left_for vs c o)
left_for_grows vs c None = tt
left_for_grows vs c (Some r) = runs c r.work vs (end_objects r.objects c) (end_same r.objects c c (itself c))

landed_grows : (u : UnitTy) (n : ℕ) (vs : List Value) (c : Scene) (from : Left) (o : Option Landing) → Grown c (landed u n vs c from o)
landed_grows u n vs c from None = tt
landed_grows u n vs c from (Some to) = has_turn_grows c (nat_le to.at n) to.work vs (begin_objects u (without to.objects from.objects) (end_objects (without from.objects to.objects) c)) (begin_same u (without to.objects from.objects) c (end_objects (without from.objects to.objects) c) (end_same (without from.objects to.objects) c c (itself c)))

jumped_grows : (u : UnitTy) (l n : ℕ) (vs : List Value) (c : Scene) (o : Option Left) → Grown c (jumped u l n vs c o)
jumped_grows u l n vs c None = tt
jumped_grows u l n vs c (Some from) = landed_grows u n vs c from (label_in u l from.work (body_of (slice_get u.funcs (func_in c.frames))))

switched_grows : (u : UnitTy) (k : List Item) (vs : List Value) (c : Scene) (o : Option Landing) → Grown c (switched u k vs c o)
switched_grows u k vs c None = same k vs c
switched_grows u k vs c (Some to) = runs c to.work vs (begin_objects u to.objects c) (begin_same u to.objects c c (itself c))

case_grows : (u : UnitTy) (n : ℕ) (body : Stmt) (k : List Item) (vs : List Value) (c : Scene) (v : Value) → Grown c (chosen_case u n body k vs c v)
case_grows u n body k vs c (Whole z) = switched_grows u k vs c _
case_grows u n body k vs c Null = tt
case_grows u n body k vs c (Place b o) = tt
case_grows u n body k vs c Opaque = tt
case_grows u n body k vs c (Cells xs) = tt
case_grows u n body k vs c NoValue = tt

-- ---- loops

after_body_grows : (u : UnitTy) (l : Loop) (o : MaybeTyped) (k : List Item) (vs : List Value) (c : Scene) → Grown c (after_body u l o k vs c)
after_body_grows u l absent k vs c = turn (head_of u l k) vs c
after_body_grows u l (present e) k vs c = same (plan u e (Back l ∷ k)) vs c

last_test_grows : (u : UnitTy) (l : Loop) (o : MaybeTyped) (k : List Item) (vs : List Value) (c : Scene) → Grown c (last_test u l o k vs c)
last_test_grows u l absent k vs c = tt
last_test_grows u l (present e) k vs c = same (plan u e (Redo l ∷ k)) vs c

-- ---- each item

module _ (p : ProgramTy) where
  perform_grows : (i : Item) (k : List Item) (vs : List Value) (c : Scene) → Grown c (perform p i k vs c)
  perform_grows (Push v) k vs c = same k (v ∷ vs) c
  perform_grows (Name i) k vs c = goes_on c (object_place p.unit i c) k vs
  perform_grows Follow k vs c = one_grows c vs _ (λ v r. goes_on c _ k r)
  perform_grows (Move o) k vs c = one_grows c vs _ (λ v r. goes_on c _ k r)
  perform_grows (Fetch shape) k vs c = one_grows c vs _ (λ v r. goes_on c _ k r)
  perform_grows Keep k vs c = one_grows c vs _ (λ v r. same k (v ∷ r) c)
  perform_grows (Change to) k vs c = one_grows c vs _ (λ v r. goes_on c _ k r)
  perform_grows (Apply1 op shape) k vs c = one_grows c vs _ (λ v r. goes_on c _ k r)
  perform_grows (Apply2 op left right) k vs c = two_grow c vs _ (λ y x r. goes_on c _ k r)
  perform_grows (Both b) k vs c = one_grows c vs _ (λ v r. decided_grows c (truth_of c.store v) _ _ (same (plan p.unit b (Truth ∷ k)) r c) (same k (Whole (pos 0) ∷ r) c))
  perform_grows (Either b) k vs c = one_grows c vs _ (λ v r. decided_grows c (truth_of c.store v) _ _ (same k (Whole (pos 1) ∷ r) c) (same (plan p.unit b (Truth ∷ k)) r c))
  perform_grows Truth k vs c = one_grows c vs _ (λ v r. goes_on c _ k r)
  perform_grows (Choose a b) k vs c = one_grows c vs _ (λ v r. decided_grows c (truth_of c.store v) _ _ (same (plan p.unit a k) r c) (same (plan p.unit b k) r c))
  perform_grows Drop k vs c = one_grows c vs _ (λ v r. same k r c)
  perform_grows (Put shape) k vs c = two_grow c vs _ (λ v at r. assigned_grows c shape at k r (put false shape c at v) (put_same false shape c at v))
  perform_grows (Peek shape to) k vs c = one_grows c vs _ (λ at r. goes_on c _ k (at ∷ r))
  perform_grows (Bump kind shape) k vs c = two_grow c vs _ (λ v at r. goes_on c _ k (at ∷ under (is_post kind) v r))
  perform_grows (PutUnder shape) k vs c = two_grow c vs _ (λ v at r. with_scene_grows c (put false shape c at v) k r (put_same false shape c at v))
  perform_grows (Carry done size) k vs c = two_grow c vs _ (λ from to r. copy_grows done size from to k r c)
  perform_grows (Gather size) k vs c = one_grows c vs _ (λ v r. goes_on c _ k r)
  perform_grows (Lay i done size) k vs c = one_grows c vs _ (λ v r. lay_grows i done size v (place_in_object p.unit i 0 c) k r c)
  perform_grows Reach k vs c = goes_on c (rest_place c) k vs
  perform_grows (Invoke callee types) k vs c = invoked_grows p.unit callee types k (taken types [] vs) c
  perform_grows (Busy left f args rest) k vs c = library_grows left f args rest k vs c
  perform_grows Skip k vs c = same k vs c
  perform_grows (Init i o shape) k vs c = one_grows c vs _ (λ v r. with_scene_grows c (put true shape c (place_in_object p.unit i o c) v) k r (put_same true shape c (place_in_object p.unit i o c) v))
  perform_grows (CarryInto i o done size) k vs c = one_grows c vs _ (λ from r. set_area_grows i o done size from (place_in_object p.unit i o c) k r c)
  perform_grows (Wipe i done size) k vs c = clear_grows i done size (place_in_object p.unit i 0 c) k vs c
  perform_grows (Begin n objects body) k vs c = runs c (plan_stmts p.unit n body (End objects ∷ k)) vs (begin_objects p.unit objects c) (begin_same p.unit objects c c (itself c))
  perform_grows (End objects) k vs c = runs c k vs (end_objects objects c) (end_same objects c c (itself c))
  perform_grows (Branch m a n b) k vs c = one_grows c vs _ (λ v r. decided_grows c (truth_of c.store v) _ _ (same (plan_stmt p.unit m a k) r c) (same (plan_stmt p.unit n b k) r c))
  perform_grows (Test l) k vs c = one_grows c vs _ (λ v r. decided_grows c (truth_of c.store v) _ _ (same (plan_stmt p.unit l.at l.body (Next l ∷ k)) r c) (same k r c))
  perform_grows (Pass l) k vs c = same (plan_stmt p.unit l.at l.body (Next l ∷ k)) vs c
  perform_grows (Enter l) k vs c = same (plan_stmt p.unit l.at l.body (Check l ∷ k)) vs c
  perform_grows (Next l) k vs c = after_body_grows p.unit l l.next k vs c
  perform_grows (Back l) k vs c = one_grows c vs _ (λ v r. turn (head_of p.unit l k) r c)
  perform_grows (Check l) k vs c = last_test_grows p.unit l l.test k vs c
  perform_grows (Redo l) k vs c = one_grows c vs _ (λ v r. decided_grows c (truth_of c.store v) _ _ (turn (plan_stmt p.unit l.at l.body (Check l ∷ k)) r c) (same k r c))
  perform_grows (Select (suc left) n body) k vs c = same (Select left n body ∷ k) vs c
  perform_grows (Select zero n body) k vs c = one_grows c vs _ (λ v r. case_grows p.unit n body k r c v)
  perform_grows EndSwitch k vs c = same k vs c
  perform_grows (Jump l n) k vs c = jumped_grows p.unit l n vs c (up_to_call k)
  perform_grows LeaveLoop k vs c = left_for_grows vs c (up_to_break k)
  perform_grows GoOn k vs c = left_for_grows vs c (up_to_continue k)
  perform_grows Give k vs c = one_grows c vs _ (λ v r. if_grows c (is_value v) _ _ (returned_grows p.unit v r c (up_to_call k)) tt)
  perform_grows GiveNothing k vs c = returned_grows p.unit NoValue vs c (up_to_call k)
  perform_grows Leave k vs c = left_call_grows p.unit c (at_the_end p c.frames) k vs c (itself c)

  -- ---- runs

  -- from a running state: one step, and any number of them
  step_grows : (k : List Item) (vs : List Value) (c : Scene) → Grown c (step p (Running k vs c))
  step_grows [] vs c = tt
  step_grows (i ∷ k) vs c = perform_grows i k vs c

  first_later : (n : ℕ) (out later last : List ℕ) (turns more most : ℕ) → IsLater 1 out turns later more → IsLater n later more last most → IsLater (suc n) out turns last most
  first_later n out later last turns more most h g = record { written = h.written ++ g.written; begins = g.begins ∙ (ap (λ x. x ++ g.written) h.begins ∙ append_assoc out h.written g.written); least = omega (arith, h.least, g.least); most = omega (arith, h.most, g.most) }

  more_later : (n : ℕ) (out later : List ℕ) (turns more : ℕ) → IsLater 1 out turns later more → IsLater (suc n) out turns later more
  more_later n out later turns more h = record { written = h.written; begins = h.begins; least = h.least; most = omega (arith, h.most) }

  -- what n steps from a scene come to
  abbrev Reaches : ℕ → Scene → State → Type 0
  Reaches n c (Undefined why) = ⊤
  Reaches n c Deep = ⊤
  Reaches n c (Ended later status more) = IsLater n c.out c.turns later more
  Reaches n c (Running work vs d) = Onward n c d

  one_before : (n : ℕ) (c d : Scene) (s : State) → Onward 1 c d → Reaches n d s → Reaches (suc n) c s
  one_before n c d (Undefined why) h g = tt
  one_before n c d Deep h g = tt
  one_before n c d (Ended later status more) h g = first_later n c.out d.out later c.turns d.turns more h.shows g
  one_before n c d (Running work vs e) h g = record { shows = first_later n c.out d.out e.out c.turns d.turns e.turns h.shows g.shows; names = names_twice c d e h.names g.names }

  none_later : (out : List ℕ) (turns : ℕ) → IsLater 0 out turns out turns
  none_later out turns = record { written = []; begins = sym (append-nil out); least = omega arith; most = omega arith }

  -- a last state is the same after any steps
  last_reached : (n : ℕ) (c : Scene) (s : State) → Reaches (suc n) c s → steps p n s ≡ s → Reaches (suc n) c (steps p n s)
  last_reached n c s h e = rw e h

  reached_from : (n : ℕ) (c : Scene) (s : State) → Grown c s → ((k : List Item) (vs : List Value) (d : Scene) → Reaches n d (steps p n (Running k vs d))) → Reaches (suc n) c (steps p n s)
  reached_from n c (Undefined why) h below = last_reached n c (Undefined why) tt (last_stays p (Undefined why) n tt)
  reached_from n c Deep h below = last_reached n c Deep tt (last_stays p Deep n tt)
  reached_from n c (Ended later status more) h below = last_reached n c (Ended later status more) (more_later n c.out later c.turns more h) (last_stays p (Ended later status more) n tt)
  reached_from n c (Running k vs d) h below = one_before n c d (steps p n (Running k vs d)) h (below k vs d)

  reached : (n : ℕ) (k : List Item) (vs : List Value) (c : Scene) → Reaches n c (steps p n (Running k vs c))
  reached zero k vs c = record { shows = none_later c.out c.turns; names = names_itself c }
  reached (suc n) k vs c = reached_from n c (step p (Running k vs c)) (step_grows k vs c) (reached n)

  shows : (n : ℕ) (c : Scene) (s : State) → Reaches n c s → Shows n c.out c.turns (outcome_of s)
  shows n c (Undefined why) h = tt
  shows n c Deep h = tt
  shows n c (Ended later status more) h = h
  shows n c (Running work vs d) h = h.shows

  follows : (n : ℕ) (s : State) → Follows n (outcome_of s) (outcome_of (steps p n s))
  follows n (Undefined why) = ap outcome_of (last_stays p (Undefined why) n tt)
  follows n Deep = ap outcome_of (last_stays p Deep n tt)
  follows n (Ended out status turns) = ap outcome_of (last_stays p (Ended out status turns) n tt)
  follows n (Running k vs c) = shows n c (steps p n (Running k vs c)) (reached n k vs c)

  keeps : (n : ℕ) (c : Scene) (s : State) (k : List Item) (vs : List Value) (d : Scene) → s ≡ Running k vs d → Reaches n c s → Reaches n c (Running k vs d)
  keeps n c s k vs d e h = subst (λ x. Reaches n c x) e h

pub output_grows : OutputGrows
output_grows p args input n m = rw (runs_go_on p args input n m) (follows p m (state_at p args input n))

pub names_stay : NamesStay
names_stay p n work later values others c d e = (keeps p n c (steps p n (Running work values c)) later others d e (reached p n work values c)).names
