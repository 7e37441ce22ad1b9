-- What is left of pending work behind a jump.
use Rattle.std.proofs.Common.{◌≡◌, ℕ, suc, ◌+◌, Bool, true, false, List, [], ◌∷◌, ◌++◌, Option, Some, None, refl, sym, subst}
use Rattle.std.specs.Prelude.{⊤}
use Rattle.c65_csem.specs.Trees.{Stmt, empty, eval, set_part, clear, block, if_stmt, while, do_while, for_loop, switch, case, default, label, goto, break, continue, return, Stmts, no_stmts, and_stmts, absent, present}
use Rattle.c65_meaning.specs.Program.{ProgramTy}
use Rattle.c65_meaning.specs.Operators.{is_post}
use Rattle.c65_meaning.specs.Sites.{count}
use Rattle.c65_meaning.specs.Items.{Item, Loop, Push, Name, Follow, Move, Fetch, Keep, Change, Apply1, Apply2, Both, Either, Truth, Choose, Drop, Put, Peek, Bump, PutUnder, Carry, Gather, Lay, Reach, Invoke, Busy, Skip, Init, CarryInto, Wipe, Begin, End, Branch, Test, Pass, Enter, Next, Back, Check, Redo, Select, EndSwitch, Jump, LeaveLoop, GoOn, Give, GiveNothing, Leave, test_first, test_last, plan_stmt, plan_stmts}
use Rattle.c65_meaning.specs.After.{Sought, ToLabel, ToCase, ToDefault, Landing, or_else, within, is_label, is_case, is_default, for_label, found, after, after_all, Left, ending, up_to_call, up_to_break, up_to_continue}
use Rattle.c65_depth.specs.Calls.{calls_in, calls_if, calls_of, calls_of_all}
use Rattle.c65_depth.specs.Certificates.{HasCall, CallsPointer}
use Rattle.c65_depth_law_states.proofs.Marks.{Mark, Pops, PopsTwo, Turns, Joins, IsAtBase, PopsToBase, with_mark, HoldsStmt, HoldsStmts, Does, Takes, Resumes}
use Rattle.c65_depth_law_states.proofs.Plans.{halves, stmt_works, stmts_work}

-- ---- labels

module _ (p : ProgramTy) (f : ℕ) (no_pointer : CallsPointer p f → ⊥) (fs : List ℕ) (base : List Mark) where
  abbrev pub Lands : Option Landing → Type 0
  Lands None = ⊤
  Lands (Some to) = Takes p to.work f fs base base

  pub either_lands : (a b : Option Landing) → Lands a → Lands b → Lands (or_else a b)
  either_lands None b h i = i
  either_lands (Some to) b h i = h

  lands_within : (objects : List ℕ) (a : Option Landing) → Lands a → Lands (within objects a)
  lands_within objects None h = h
  lands_within objects (Some to) h = h

  lands_for : (what : Sought) (a : Option Landing) → Lands a → Lands (for_label what a)
  lands_for (ToLabel l) a h = h
  lands_for (ToCase z) a h = tt
  lands_for ToDefault a h = tt

  found_lands : (here : Bool) (n : ℕ) (k : List Item) (a : Option Landing) → Takes p k f fs base base → Lands a → Lands (found here n k a)
  found_lands true n k a w h = w
  found_lands false n k a w h = h

  module _ (what : Sought) where
    mutual
      pub lands : (n : ℕ) (s : Stmt) (k : List Item) → HoldsStmt p f s → Takes p k f fs base base → Lands (after p.unit what n s k)
      lands n empty k h w = tt
      lands n (eval e) k h w = tt
      lands n (set_part i o e) k h w = tt
      lands n (clear i) k h w = tt
      lands n (block objects ss) k h w = lands_within objects (after_all p.unit what (suc n) ss (End objects ∷ k)) (all_land (suc n) ss (End objects ∷ k) h (refl, w))
      lands n (if_stmt e a b) k h w =
          let of_last = halves (HasCall p f) (calls_in p.unit e ++ calls_of p.unit a) (calls_of p.unit b) h in
          let of_first = halves (HasCall p f) (calls_in p.unit e) (calls_of p.unit a) of_last.0 in
          either_lands (after p.unit what (suc n) a k) (after p.unit what (suc n + count a) b k) (lands (suc n) a k of_first.1 w) (lands (suc n + count a) b k of_last.1 w)
      lands n (while e s) k h w =
          let both_of = halves (HasCall p f) (calls_in p.unit e) (calls_of p.unit s) h in
          lands (suc n) s (Next (test_first (present e) absent (suc n) s) ∷ k) both_of.1 ((both_of.0, tt, both_of.1), (refl, w))
      lands n (do_while s e) k h w =
          let both_of = halves (HasCall p f) (calls_of p.unit s) (calls_in p.unit e) h in
          lands (suc n) s (Check (test_last e (suc n) s) ∷ k) both_of.0 ((both_of.1, tt, both_of.0), (refl, w))
      lands n (for_loop i c x s) k h w =
          let of_body = halves (HasCall p f) (calls_if p.unit i ++ calls_if p.unit c ++ calls_if p.unit x) (calls_of p.unit s) h in
          let of_next = halves (HasCall p f) (calls_if p.unit i ++ calls_if p.unit c) (calls_if p.unit x) of_body.0 in
          let of_test = halves (HasCall p f) (calls_if p.unit i) (calls_if p.unit c) of_next.0 in
          lands (suc n) s (Next (test_first c x (suc n) s) ∷ k) of_body.1 ((of_test.1, of_next.1, of_body.1), (refl, w))
      lands n (switch e s) k h w =
          let both_of = halves (HasCall p f) (calls_in p.unit e) (calls_of p.unit s) h in
          lands_for what (after p.unit what (suc n) s (EndSwitch ∷ k)) (lands (suc n) s (EndSwitch ∷ k) both_of.1 (refl, w))
      lands n (case v s) k h w = found_lands (is_case what v) n (plan_stmt p.unit (suc n) s k) (after p.unit what (suc n) s k) (stmt_works p f no_pointer fs base (suc n) s k h w) (lands (suc n) s k h w)
      lands n (default s) k h w = found_lands (is_default what) n (plan_stmt p.unit (suc n) s k) (after p.unit what (suc n) s k) (stmt_works p f no_pointer fs base (suc n) s k h w) (lands (suc n) s k h w)
      lands n (label l s) k h w = found_lands (is_label what l) n (plan_stmt p.unit (suc n) s k) (after p.unit what (suc n) s k) (stmt_works p f no_pointer fs base (suc n) s k h w) (lands (suc n) s k h w)
      lands n (goto l) k h w = tt
      lands n break k h w = tt
      lands n continue k h w = tt
      lands n (return e) k h w = tt

      all_land : (n : ℕ) (ss : Stmts) (k : List Item) → HoldsStmts p f ss → Takes p k f fs base base → Lands (after_all p.unit what n ss k)
      all_land n no_stmts k h w = tt
      all_land n (and_stmts s rest) k h w =
          let both_of = halves (HasCall p f) (calls_of p.unit s) (calls_of_all p.unit rest) h in
          let behind = plan_stmts p.unit (n + count s) rest k in
          either_lands (after p.unit what n s behind) (after_all p.unit what (n + count s) rest k) (lands n s behind both_of.0 (stmts_work p f no_pointer fs base (n + count s) rest k both_of.1 w)) (all_land (n + count s) rest k both_of.1 w)

-- ---- the rest of pending work

abbrev pub IsWithin : Item → Type 0
IsWithin Leave = ⊥
IsWithin _ = ⊤

-- what an item is to a jump
data Role : Item → Type 0 where
  leaving : Role Leave
  ends_objects : (objects : List ℕ) → Role (End objects)
  ends_first : (l : Loop) → Role (Next l)
  ends_last : (l : Loop) → Role (Check l)
  ends_switch : Role EndSwitch
  other : (i : Item) → IsWithin i → ((k : List Item) → up_to_call (i ∷ k) ≡ up_to_call k) → ((k : List Item) → up_to_break (i ∷ k) ≡ up_to_break k) → ((k : List Item) → up_to_continue (i ∷ k) ≡ up_to_continue k) → Role i

role_of : (i : Item) → Role i
role_of Leave = leaving
role_of (End objects) = ends_objects objects
role_of (Next l) = ends_first l
role_of (Check l) = ends_last l
role_of EndSwitch = ends_switch
role_of i = other i tt (λ k. refl) (λ k. refl) (λ k. refl)

module _ (go : List Mark → Type 0) where
  -- values with which work goes on
  abbrev Onward : Type 0
  Onward = (js : List Mark) × go js

  popped : (ks : List Mark) (g : Mark → List Mark → Type 0) → Pops ks g → ((x : Mark) (js : List Mark) → g x js → Onward) → Onward
  popped [] g h f = absurd h
  popped (x ∷ ks) g h f = f x ks h

  popped_two : (ks : List Mark) (g : List Mark → Type 0) → PopsTwo ks g → ((js : List Mark) → g js → Onward) → Onward
  popped_two [] g h f = absurd h
  popped_two (y ∷ []) g h f = absurd h
  popped_two (y ∷ x ∷ ks) g h f = f ks h

  turned : (ks : List Mark) → Turns ks go → Onward
  turned ks h = popped ks (λ x js. go (None ∷ js)) h (λ x js g. (None ∷ js, g))

  joined : (ks : List Mark) → Joins ks go → Onward
  joined ks h = popped_two ks (λ js. go (None ∷ js)) h (λ js g. (None ∷ js, g))

  to_base : (base ks : List Mark) → PopsToBase base ks go → Onward
  to_base base ks h = popped ks (λ x js. IsAtBase base js go) h (λ x js g. (base, g.1))

  at_base : (base ks : List Mark) → IsAtBase base ks go → Onward
  at_base base ks h = (base, h.1)

  module _ (p : ProgramTy) (f : ℕ) (base : List Mark) where
    onward : (i : Item) (ks : List Mark) (out : Type 0) → IsWithin i → Does p f base i ks go out → Onward
    onward (Push v) ks out w d = (d.0 ∷ ks, d.2)
    onward (Name i) ks out w d = (None ∷ ks, d)
    onward Follow ks out w d = turned ks d
    onward (Move o) ks out w d = turned ks d
    onward (Fetch s) ks out w d = turned ks d
    onward Keep ks out w d = popped ks (λ x js. go (x ∷ js)) d (λ x js g. (x ∷ js, g))
    onward (Change s) ks out w d = turned ks d
    onward (Apply1 op s) ks out w d = turned ks d
    onward (Apply2 op l r) ks out w d = joined ks d
    onward (Both b) ks out w d = turned ks d.1
    onward (Either b) ks out w d = turned ks d.1
    onward Truth ks out w d = turned ks d
    onward (Choose a b) ks out w d = turned ks d.2
    onward Drop ks out w d = popped ks (λ x js. go js) d (λ x js g. (js, g))
    onward (Put s) ks out w d = joined ks d
    onward (Peek s to) ks out w d = popped ks (λ x js. go (None ∷ None ∷ js)) d (λ x js g. (None ∷ None ∷ js, g))
    onward (Bump kind s) ks out w d = popped_two ks (λ js. go (None ∷ None ∷ with_mark (is_post kind) js)) d (λ js g. (None ∷ None ∷ with_mark (is_post kind) js, g))
    onward (PutUnder s) ks out w d = popped_two ks go d (λ js g. (js, g))
    onward (Carry done size) ks out w d = joined ks d
    onward (Gather size) ks out w d = turned ks d
    onward (Lay i done size) ks out w d = turned ks d
    onward Reach ks out w d = (None ∷ ks, d)
    onward (Invoke callee types) ks out w d = (None ∷ d.0, d.2)
    onward (Busy left l args rest) ks out w d = (None ∷ ks, d)
    onward Skip ks out w d = at_base base ks d
    onward (Init i o s) ks out w d = to_base base ks d
    onward (CarryInto i o done size) ks out w d = to_base base ks d
    onward (Wipe i done size) ks out w d = at_base base ks d
    onward (Begin n objects body) ks out w d = at_base base ks d.1
    onward (End objects) ks out w d = at_base base ks d
    onward (Branch m a n b) ks out w d = to_base base ks d.2
    onward (Test l) ks out w d = to_base base ks d.1
    onward (Pass l) ks out w d = at_base base ks d.1
    onward (Enter l) ks out w d = at_base base ks d.1
    onward (Next l) ks out w d = at_base base ks d.1
    onward (Back l) ks out w d = to_base base ks d.1
    onward (Check l) ks out w d = at_base base ks d.1
    onward (Redo l) ks out w d = to_base base ks d.1
    onward (Select left n body) ks out w d = to_base base ks d.1
    onward EndSwitch ks out w d = at_base base ks d
    onward (Jump l n) ks out w d = at_base base ks d
    onward LeaveLoop ks out w d = at_base base ks d
    onward GoOn ks out w d = at_base base ks d
    onward Give ks out w d = to_base base ks d
    onward GiveNothing ks out w d = at_base base ks d
    onward Leave ks out w d = absurd w

module _ (p : ProgramTy) (f : ℕ) (fs : List ℕ) (base : List Mark) where
  abbrev Works : List Item → List Mark → Type 0
  Works k ks = Takes p k f fs base ks

  behind_works : (i : Item) (k : List Item) (ks : List Mark) → IsWithin i → Works (i ∷ k) ks → (js : List Mark) × Works k js
  behind_works i k ks w t = onward (λ js. Works k js) p f base i ks (Resumes fs (λ g gs b js. Takes p k g gs b js) base) w t

  -- ---- up to the end of the call

  abbrev pub Exits : Option Left → Type 0
  Exits None = ⊤
  Exits (Some r) = (k : List Item) × (r.work ≡ Leave ∷ k) × Works (Leave ∷ k) base

  exits_ending : (objects : List ℕ) (o : Option Left) → Exits o → Exits (ending objects o)
  exits_ending objects None h = h
  exits_ending objects (Some r) h = h

  exits_from : (i : Item) → Role i → (k : List Item) (ks : List Mark) → Works (i ∷ k) ks → ((js : List Mark) → Works k js → Exits (up_to_call k)) → Exits (up_to_call (i ∷ k))
  exits_from _ leaving k ks t rest = (k, refl, (refl, t.1))
  exits_from _ (ends_objects objects) k ks t rest = exits_ending objects (up_to_call k) (rest base t.1)
  exits_from _ (ends_first l) k ks t rest = rest base t.1.1
  exits_from _ (ends_last l) k ks t rest = rest base t.1.1
  exits_from _ ends_switch k ks t rest = rest base t.1
  exits_from _ (other i w a b c) k ks t rest = let r = behind_works i k ks w t in subst Exits (sym (a k)) (rest r.0 r.1)

  pub exits : (k : List Item) (ks : List Mark) → Works k ks → Exits (up_to_call k)
  exits [] ks t = tt
  exits (i ∷ k) ks t = exits_from i (role_of i) k ks t (λ js v. exits k js v)

  -- ---- behind a loop or switch, and up to the end of a loop's body

  abbrev pub Stays : Option Left → Type 0
  Stays None = ⊤
  Stays (Some r) = Works r.work base

  stays_ending : (objects : List ℕ) (o : Option Left) → Stays o → Stays (ending objects o)
  stays_ending objects None h = h
  stays_ending objects (Some r) h = h

  breaks_from : (i : Item) → Role i → (k : List Item) (ks : List Mark) → Works (i ∷ k) ks → ((js : List Mark) → Works k js → Stays (up_to_break k)) → Stays (up_to_break (i ∷ k))
  breaks_from _ leaving k ks t rest = tt
  breaks_from _ (ends_objects objects) k ks t rest = stays_ending objects (up_to_break k) (rest base t.1)
  breaks_from _ (ends_first l) k ks t rest = t.1.1
  breaks_from _ (ends_last l) k ks t rest = t.1.1
  breaks_from _ ends_switch k ks t rest = t.1
  breaks_from _ (other i w a b c) k ks t rest = let r = behind_works i k ks w t in subst Stays (sym (b k)) (rest r.0 r.1)

  pub breaks : (k : List Item) (ks : List Mark) → Works k ks → Stays (up_to_break k)
  breaks [] ks t = tt
  breaks (i ∷ k) ks t = breaks_from i (role_of i) k ks t (λ js v. breaks k js v)

  continues_from : (i : Item) → Role i → (k : List Item) (ks : List Mark) → Works (i ∷ k) ks → ((js : List Mark) → Works k js → Stays (up_to_continue k)) → Stays (up_to_continue (i ∷ k))
  continues_from _ leaving k ks t rest = tt
  continues_from _ (ends_objects objects) k ks t rest = stays_ending objects (up_to_continue k) (rest base t.1)
  continues_from _ (ends_first l) k ks t rest = (t.0, (refl, t.1.1))
  continues_from _ (ends_last l) k ks t rest = (t.0, (refl, t.1.1))
  continues_from _ ends_switch k ks t rest = rest base t.1
  continues_from _ (other i w a b c) k ks t rest = let r = behind_works i k ks w t in subst Stays (sym (c k)) (rest r.0 r.1)

  pub continues : (k : List Item) (ks : List Mark) → Works k ks → Stays (up_to_continue k)
  continues [] ks t = tt
  continues (i ∷ k) ks t = continues_from i (role_of i) k ks t (λ js v. continues k js v)
