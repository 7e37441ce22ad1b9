-- One step of a run that has not come to a turn: the work grows lighter, or a call ends, or a label further on in the function is gone to.
use Rattle.std.proofs.Common.{◌≡◌, inl, inr, ℕ, zero, suc, ◌+◌, ◌-◌, ◌<◌, ◌≤◌, Bool, true, false, List, [], ◌∷◌, length, Option, Some, None, Result, Ok, Err, refl, subst, sym, ap, arith}
use Rattle.std.specs.Prelude.{slice_get, nat_lt, if◌then◌else◌}
use Rattle.std.proofs.lemmas.Bool.{ltb-true}
use Rattle.std.proofs.lemmas.Bool.Decides.{leb_tells}
use Rattle.c65_csem.specs.Trees.{Typed, MaybeTyped, absent, present, Stmt}
use Rattle.c65_meaning.specs.Program.{ProgramTy}
use Rattle.c65_meaning.specs.declared.action.Action.TheVariants.{NoResult}
use Rattle.c65_meaning.specs.Why.{Why, By}
use Rattle.c65_meaning.specs.Store.{Value, Whole, Shape}
use Rattle.c65_meaning.specs.Sites.{count}
use Rattle.c65_meaning.specs.Operators.{truth_of}
use Rattle.c65_meaning.specs.Items.{Item, Loop, Push, Name, Follow, Move, Fetch, Keep, Change, Apply1, Apply2, Both, Either, Truth, Choose, Drop, Put, Peek, Bump, PutUnder, Carry, Gather, Lay, Reach, Invoke, Busy, Skip, Init, CarryInto, Wipe, Begin, End, Branch, Test, Pass, Enter, Next, Back, Check, Redo, Select, EndSwitch, Jump, LeaveLoop, GoOn, Give, GiveNothing, Leave, plan, plan_stmt, plan_stmts, head_of}
use Rattle.c65_meaning.specs.After.{ToLabel, ToCase, ToDefault, Landing, or_else, after, Left, up_to_call, up_to_break, up_to_continue, without}
use Rattle.c65_meaning.specs.State.{Frame, Scene, Undefined, Running, turned}
use Rattle.c65_meaning.specs.Step as run
use Rattle.c65_meaning.specs.Step.{func_in, body_of, perform, assigned, carried_byte, cleared, laid, begin_objects, end_objects, end_arguments, has_turn, is_value, frames_below, without_frame}
use Rattle.c65_meaning_law_turns.specs.Weights.{of_expr, of_stmt, of_stmts, of_maybe, weight}
use Rattle.c65_meaning_law_turns.proofs.Weights.{plan_weight, stmt_weight, stmts_weight}
use Rattle.c65_meaning_law_turns.specs.Places.{IsFrom}
use Rattle.c65_meaning_law_turns.proofs.Places.{plan_from, stmt_from, stmts_from}
use Rattle.c65_meaning_law_turns.proofs.Landings.{Each, Lands, land}
use Rattle.c65_meaning_law_turns.proofs.Tails.{OfLeft, Calls, call_left, Stays, break_left, continue_left}
use Rattle.c65_meaning_law_turns.proofs.Scenes.{IsSame, same, then_same, Keeps, begun_same, ended_same, arguments_same, put_same, byte_same, cleared_same, laid_same}
use Rattle.c65_meaning_law_turns.proofs.Settling.{Settles, now, one_settles, two_settles, go_settles, scene_settles, decided_settles, library_settles}
use Rattle.c65_meaning_law_turns.proofs.Calls.{invoked_settles}

below_length : (frames : List Frame) → length (frames_below frames) ≡ length frames - 1
below_length [] = refl
below_length (f ∷ rest) = omega arith

abbrev size_of_body : Option Stmt → ℕ
size_of_body None = 0
size_of_body (Some body) = count body

module _ (p : ProgramTy) (before : ℕ) where
  -- the number of places in the function that is active
  pub places : Scene → ℕ
  places c = size_of_body (body_of (slice_get p.unit.funcs (func_in c.frames)))

  pub places_same : (c d : Scene) → IsSame c d → places d ≡ places c
  unfolding places
  places_same c d s = ap (λ f. size_of_body (body_of (slice_get p.unit.funcs f))) s.func

  -- work with fewer active calls
  abbrev pub Fewer : ℕ → Type 0
  Fewer depth = (k : List Item) (vs : List Value) (c : Scene) → suc (length c.frames) ≤ depth → before ≤ c.turns → Settles p before (Running k vs c)

  -- work behind a label further on: fewer places than so many stand behind it
  abbrev pub Further : ℕ → ℕ → Type 0
  Further depth room = (k : List Item) (vs : List Value) (c : Scene) (low : ℕ) → length c.frames ≤ depth → before ≤ c.turns → IsFrom low k → suc low ≤ places c → suc (places c) ≤ low + room → Settles p before (Running k vs c)

  -- lighter work of the active call
  abbrev pub Lighter : ℕ → ℕ → ℕ → Type 0
  Lighter depth room most = (k : List Item) (vs : List Value) (c : Scene) (low : ℕ) → length c.frames ≤ depth → before ≤ c.turns → IsFrom low k → places c ≤ low + room → (1 + weight p.unit k) ≤ most → Settles p before (Running k vs c)

  module _ (depth room most : ℕ) (fewer : Fewer depth) (further : Further depth room) (lighter : Lighter depth room most)
      (c : Scene) (low : ℕ) (deep : length c.frames ≤ depth) (le : before ≤ c.turns) (fits : places c ≤ low + room) where
    -- the same call goes on with lighter work
    next : (k : List Item) (vs : List Value) (d : Scene) → IsSame c d → IsFrom low k → (1 + weight p.unit k) ≤ most → Settles p before (Running k vs d)
    next k vs d s from light =
        let a : length d.frames ≡ length c.frames = s.depth in
        let b : d.turns ≡ c.turns = s.turns in
        let e : places d ≡ places c = places_same c d s in
        lighter k vs d low (omega arith) (omega arith) from (omega arith) light

    -- a turn
    turn : (k : List Item) (vs : List Value) (d : Scene) → IsSame c d → Settles p before (Running k vs (turned d))
    turn k vs d s = now p before _ (let b : d.turns ≡ c.turns = s.turns in omega arith)

    module _ (k : List Item) (from : IsFrom low k) where
      -- what follows an item, in this scene or one that is the same
      rest : (1 + weight p.unit k) ≤ most → (vs : List Value) (d : Scene) → IsSame c d → Settles p before (Running k vs d)
      rest light vs d s = next k vs d s from light

      going : (1 + weight p.unit k) ≤ most → (r : Result Value Why) (vs : List Value) → Settles p before (run.go_on r k vs c)
      going light r vs = go_settles p before r k vs c (λ v. rest light (v ∷ vs) c (same c))

      stores : (1 + weight p.unit k) ≤ most → (r : Result Scene Why) (vs : List Value) → Keeps c r → Settles p before (run.with_scene r k vs)
      stores light r vs s = scene_settles p before r k vs c s (λ d e. rest light vs d e)

      assigns : (1 + weight p.unit k) ≤ most → (shape : Shape) (at : Value) (vs : List Value) (r : Result Scene Why) → Keeps c r → Settles p before (assigned shape at k vs r)
      assigns light shape at vs (Err why) s = now p before _ tt
      assigns light shape at vs (Ok d) s = go_settles p before (run.loaded shape d at) k vs d (λ v. rest light (v ∷ vs) d s)

      -- an expression is laid out
      plans : (e : Typed) (j : List Item) (vs : List Value) → IsFrom low j → suc (of_expr p.unit e + weight p.unit j) ≤ most → Settles p before (Running (plan p.unit e j) vs c)
      plans e j vs f light = next (plan p.unit e j) vs c (same c) (plan_from p.unit low e j f) (let w : weight p.unit (plan p.unit e j) ≡ of_expr p.unit e + weight p.unit j = plan_weight p.unit e j in omega arith)

      -- and a statement
      lays : (n : ℕ) (s : Stmt) (j : List Item) (vs : List Value) → low ≤ n → IsFrom low j → suc (of_stmt p.unit s + weight p.unit j) ≤ most → Settles p before (Running (plan_stmt p.unit n s j) vs c)
      lays n s j vs at f light = next (plan_stmt p.unit n s j) vs c (same c) (stmt_from p.unit low n s j at f) (let w : weight p.unit (plan_stmt p.unit n s j) ≡ of_stmt p.unit s + weight p.unit j = stmt_weight p.unit n s j in omega arith)

      -- ---- bytes

      copies : (done size : ℕ) (from_at to : Value) (vs : List Value) → suc (size - done) + weight p.unit k ≤ most → Settles p before (run.copy_step done size from_at to k vs c)
      copies done size from_at to vs light = at (nat_lt done size) refl
        where
          byte : done < size → (r : Result Scene Why) → Keeps c r → Settles p before (run.carry_step done size from_at to k vs r)
          byte less (Err why) s = now p before _ tt
          byte less (Ok d) s = more (nat_lt (suc done) size)
            where
              more : (b : Bool) → Settles p before (if b then Running (Carry (suc done) size ∷ k) (from_at ∷ to ∷ vs) d else Running k (to ∷ vs) d)
              more true = next (Carry (suc done) size ∷ k) (from_at ∷ to ∷ vs) d s from (omega arith)
              more false = next k (to ∷ vs) d s from (omega arith)

          at : (b : Bool) → nat_lt done size ≡ b → Settles p before (if b then run.carry_step done size from_at to k vs (carried_byte false done size c from_at to) else Running k (to ∷ vs) c)
          at true e = byte (ltb-true done size e) (carried_byte false done size c from_at to) (byte_same false done size c from_at to)
          at false e = next k (to ∷ vs) c (same c) from (omega arith)

      sets : (i o done size : ℕ) (from_at to : Value) (vs : List Value) → suc (size - done) + weight p.unit k ≤ most → Settles p before (run.set_area_step i o done size from_at to k vs c)
      sets i o done size from_at to vs light = at (nat_lt done size) refl
        where
          byte : done < size → (r : Result Scene Why) → Keeps c r → Settles p before (run.carry_into_step i o done size from_at k vs r)
          byte less (Err why) s = now p before _ tt
          byte less (Ok d) s = more (nat_lt (suc done) size)
            where
              more : (b : Bool) → Settles p before (if b then Running (CarryInto i o (suc done) size ∷ k) (from_at ∷ vs) d else Running k vs d)
              more true = next (CarryInto i o (suc done) size ∷ k) (from_at ∷ vs) d s from (omega arith)
              more false = next k vs d s from (omega arith)

          at : (b : Bool) → nat_lt done size ≡ b → Settles p before (if b then run.carry_into_step i o done size from_at k vs (carried_byte true done size c from_at to) else Running k vs c)
          at true e = byte (ltb-true done size e) (carried_byte true done size c from_at to) (byte_same true done size c from_at to)
          at false e = next k vs c (same c) from (omega arith)

      wipes : (i done size : ℕ) (to : Value) (vs : List Value) → suc (size - done) + weight p.unit k ≤ most → Settles p before (run.clear_step i done size to k vs c)
      wipes i done size to vs light = at (nat_lt done size) refl
        where
          byte : done < size → (r : Result Scene Why) → Keeps c r → Settles p before (run.wipe_step i done size k vs r)
          byte less (Err why) s = now p before _ tt
          byte less (Ok d) s = more (nat_lt (suc done) size)
            where
              more : (b : Bool) → Settles p before (if b then Running (Wipe i (suc done) size ∷ k) vs d else Running k vs d)
              more true = next (Wipe i (suc done) size ∷ k) vs d s from (omega arith)
              more false = next k vs d s from (omega arith)

          at : (b : Bool) → nat_lt done size ≡ b → Settles p before (if b then run.wipe_step i done size k vs (cleared c done to) else Running k vs c)
          at true e = byte (ltb-true done size e) (cleared c done to) (cleared_same c done to)
          at false e = next k vs c (same c) from (omega arith)

      puts : (i done size : ℕ) (v to : Value) (vs : List Value) → suc (size - done) + weight p.unit k ≤ most → Settles p before (run.lay_step i done size v to k vs c)
      puts i done size v to vs light = at (nat_lt done size) refl
        where
          byte : done < size → (r : Result Scene Why) → Keeps c r → Settles p before (run.lay_on i done size v to k vs r)
          byte less (Err why) s = now p before _ tt
          byte less (Ok d) s = more (nat_lt (suc done) size)
            where
              more : (b : Bool) → Settles p before (if b then Running (Lay i (suc done) size ∷ k) (v ∷ vs) d else Running k (to ∷ vs) d)
              more true = next (Lay i (suc done) size ∷ k) (v ∷ vs) d s from (omega arith)
              more false = next k (to ∷ vs) d s from (omega arith)

          at : (b : Bool) → nat_lt done size ≡ b → Settles p before (if b then run.lay_on i done size v to k vs (laid done c to v) else Running k (to ∷ vs) c)
          at true e = byte (ltb-true done size e) (laid done c to v) (laid_same done c to v)
          at false e = next k (to ∷ vs) c (same c) from (omega arith)

      -- ---- a switch

      switches : (vs : List Value) (most_work : ℕ) (o : Option Landing) → Each (λ r. (weight p.unit r.work ≤ most_work) × IsFrom low r.work) o → suc most_work ≤ most → (1 + weight p.unit k) ≤ most → Settles p before (run.switched p.unit k vs c o)
      switches vs most_work None h few light = rest light vs c (same c)
      switches vs most_work (Some to) h few light = next to.work vs (begin_objects p.unit to.objects c) (begun_same p.unit to.objects c) h.1 (let x : weight p.unit to.work ≤ most_work = h.0 in omega arith)

      lands_in : (n : ℕ) (body : Stmt) (o : Option Landing) → low ≤ n → Each (Lands p.unit n (count body) (of_stmt p.unit body + (1 + weight p.unit k)) (EndSwitch ∷ k)) o → Each (λ r. (weight p.unit r.work ≤ of_stmt p.unit body + (1 + weight p.unit k)) × IsFrom low r.work) o
      lands_in n body None at h = tt
      lands_in n body (Some r) at h = (h.light, h.behind low (let x : n ≤ r.at = h.least in omega arith) from)

      either_lands : (P : Landing → Type 0) (a b : Option Landing) → Each P a → Each P b → Each P (or_else a b)
      either_lands P None b h g = g
      either_lands P (Some r) b h g = h

      chooses : (n : ℕ) (body : Stmt) (v : Value) (vs : List Value) → low ≤ n → of_stmt p.unit body + 2 + weight p.unit k ≤ most → Settles p before (run.chosen_case p.unit n body k vs c v)
      chooses n body (Whole z) vs at light =
          switches vs (of_stmt p.unit body + (1 + weight p.unit k)) (or_else (after p.unit (ToCase z) n body (EndSwitch ∷ k)) (after p.unit ToDefault n body (EndSwitch ∷ k)))
          (either_lands (λ r. (weight p.unit r.work ≤ of_stmt p.unit body + (1 + weight p.unit k)) × IsFrom low r.work) (after p.unit (ToCase z) n body (EndSwitch ∷ k)) (after p.unit ToDefault n body (EndSwitch ∷ k))
          (lands_in n body (after p.unit (ToCase z) n body (EndSwitch ∷ k)) at (land p.unit (ToCase z) n body (EndSwitch ∷ k)))
          (lands_in n body (after p.unit ToDefault n body (EndSwitch ∷ k)) at (land p.unit ToDefault n body (EndSwitch ∷ k))))
          (omega arith) (omega arith)
      chooses n body _ vs at light = now p before _ tt

      -- ---- jumps

      leaves : (vs : List Value) (o : Option Left) → OfLeft (Stays p.unit low (weight p.unit k)) o → (1 + weight p.unit k) ≤ most → Settles p before (run.left_for vs c o)
      leaves vs None h light = now p before _ tt
      leaves vs (Some r) h light = next r.work vs (end_objects r.objects c) (ended_same r.objects c) h.from (let x : weight p.unit r.work ≤ weight p.unit k = h.light in omega arith)

      -- the label stands behind the goto, and the function has fewer places behind it
      lands_on : (n : ℕ) (vs : List Value) (r : Left) (to : Landing) → low ≤ n → IsFrom to.at to.work → suc to.at ≤ places c → Settles p before (run.landed p.unit n vs c r (Some to))
      lands_on n vs r to at f below =
          let d : Scene = begin_objects p.unit (without to.objects r.objects) (end_objects (without r.objects to.objects) c) in
          let s : IsSame c d = then_same c (end_objects (without r.objects to.objects) c) d (ended_same (without r.objects to.objects) c) (begun_same p.unit (without to.objects r.objects) (end_objects (without r.objects to.objects) c)) in
          elim (leb_tells to.at n) [
            | inl x ↦ subst (λ b. Settles p before (Running to.work vs (has_turn b d))) (sym x.0) (turn to.work vs d s)
            | inr x ↦ subst (λ b. Settles p before (Running to.work vs (has_turn b d))) (sym x.0) (let y : n < to.at = x.1 in
                let a : length d.frames ≡ length c.frames = s.depth in
                let b : d.turns ≡ c.turns = s.turns in
                let e : places d ≡ places c = places_same c d s in
                further to.work vs d to.at (omega arith) (omega arith) f (omega arith) (omega arith))
          ]

      lands_by : (l n : ℕ) (vs : List Value) (r : Left) (j : List Item) → r.work ≡ Leave ∷ j → low ≤ n → (o : Option Stmt) → size_of_body o ≡ places c → Settles p before (run.landed p.unit n vs c r (run.label_in p.unit l r.work o))
      lands_by l n vs r j e at None s = now p before _ tt
      lands_by l n vs r j e at (Some body) s = found (after p.unit (ToLabel l) 0 body r.work) (land p.unit (ToLabel l) 0 body r.work)
        where
          found : (m : Option Landing) → Each (Lands p.unit 0 (count body) (of_stmt p.unit body + weight p.unit r.work) r.work) m → Settles p before (run.landed p.unit n vs c r m)
          found None h = now p before _ tt
          found (Some to) h = lands_on n vs r to at (h.behind to.at (omega arith) (subst (IsFrom to.at) (sym e) tt)) (let x : suc to.at ≤ 0 + count body = h.below in let y : count body ≡ places c = s in omega arith)

      jumps : (l n : ℕ) (vs : List Value) (o : Option Left) → OfLeft Calls o → low ≤ n → Settles p before (run.jumped p.unit l n vs c o)
      unfolding places
      jumps l n vs None h at = now p before _ tt
      jumps l n vs (Some r) h at = lands_by l n vs r h.0 h.1 at (body_of (slice_get p.unit.funcs (func_in c.frames))) refl

    -- ---- the end of a call

    status_settles : (d : Scene) (v : Value) → Settles p before (run.status_of d v)
    status_settles d (Whole z) = now p before _ tt
    status_settles d _ = now p before _ tt

    back_settles : (k : List Item) (frames : List Frame) (vs : List Value) (d : Scene) (v : Value) → (1 ≤ length frames → suc (length d.frames) ≤ depth) → before ≤ d.turns → Settles p before (run.back_in frames k vs d v)
    back_settles k [] vs d v h b = status_settles d v
    back_settles k (f ∷ frames) vs d v h b = fewer k (v ∷ vs) d (h (omega arith)) b

    call_ends : (v : Value) (k : List Item) (vs : List Value) (d : Scene) → IsSame c d → Settles p before (run.left_call p.unit v k vs d)
    call_ends v k vs d s =
        let e : Scene = end_arguments p.unit d in
        let t : IsSame d e = arguments_same p.unit d in
        let a : length d.frames ≡ length c.frames = s.depth in
        let b : length e.frames ≡ length d.frames = t.depth in
        let x : length (frames_below d.frames) ≡ length d.frames - 1 = below_length d.frames in
        let y : length (frames_below e.frames) ≡ length e.frames - 1 = below_length e.frames in
        let g : d.turns ≡ c.turns = s.turns in
        let w : e.turns ≡ d.turns = t.turns in
        back_settles k (frames_below d.frames) vs (without_frame e) v (λ one. omega arith) (omega arith)

    returns : (v : Value) (vs : List Value) (o : Option Left) → Settles p before (run.returned p.unit v vs c o)
    returns v vs None = now p before _ tt
    returns v vs (Some r) = call_ends v (run.behind r.work) vs (end_objects r.objects c) (ended_same r.objects c)

    gives : (b : Bool) (v : Value) (vs : List Value) (o : Option Left) → Settles p before (if b then run.returned p.unit v vs c o else Undefined (By NoResult))
    gives true v vs o = returns v vs o
    gives false v vs o = now p before _ tt

    -- ---- loops

    head_turns : (l : Loop) (k : List Item) (vs : List Value) → Settles p before (Running (head_of p.unit l k) vs (turned c))
    head_turns l k vs = turn (head_of p.unit l k) vs c (same c)

    after_bodies : (l : Loop) (o : MaybeTyped) (k : List Item) (vs : List Value) → IsFrom low k → of_maybe p.unit o + weight p.unit k ≤ most → Settles p before (run.after_body p.unit l o k vs c)
    after_bodies l absent k vs f light = head_turns l k vs
    after_bodies l (present e) k vs f light = plans k f e (Back l ∷ k) vs f (omega arith)

    last_tests : (l : Loop) (o : MaybeTyped) (k : List Item) (vs : List Value) → IsFrom low k → of_maybe p.unit o + weight p.unit k ≤ most → Settles p before (run.last_test p.unit l o k vs c)
    last_tests l absent k vs f light = now p before _ tt
    last_tests l (present e) k vs f light = plans k f e (Redo l ∷ k) vs f (omega arith)

    -- ---- each item

    pub performs : (i : Item) (k : List Item) (vs : List Value) → IsFrom low (i ∷ k) → weight p.unit (i ∷ k) ≤ most → Settles p before (perform p i k vs c)
    performs (Push v) k vs f light = rest k f light (v ∷ vs) c (same c)
    performs (Name i) k vs f light = going k f light _ vs
    performs Follow k vs f light = one_settles p before vs _ (λ v r. going k f light _ r)
    performs (Move o) k vs f light = one_settles p before vs _ (λ v r. going k f light _ r)
    performs (Fetch shape) k vs f light = one_settles p before vs _ (λ v r. going k f light _ r)
    performs Keep k vs f light = one_settles p before vs _ (λ v r. rest k f light (v ∷ r) c (same c))
    performs (Change to) k vs f light = one_settles p before vs _ (λ v r. going k f light _ r)
    performs (Apply1 op shape) k vs f light = one_settles p before vs _ (λ v r. going k f light _ r)
    performs (Apply2 op left right) k vs f light = two_settles p before vs _ (λ y x r. going k f light _ r)
    performs (Both b) k vs f light = one_settles p before vs _ (λ v r. decided_settles p before (truth_of c.store v) _ _ (plans k f b (Truth ∷ k) r f (omega arith)) (rest k f (omega arith) _ c (same c)))
    performs (Either b) k vs f light = one_settles p before vs _ (λ v r. decided_settles p before (truth_of c.store v) _ _ (rest k f (omega arith) _ c (same c)) (plans k f b (Truth ∷ k) r f (omega arith)))
    performs Truth k vs f light = one_settles p before vs _ (λ v r. going k f light _ r)
    performs (Choose a b) k vs f light = one_settles p before vs _ (λ v r. decided_settles p before (truth_of c.store v) _ _ (plans k f a k r f (omega arith)) (plans k f b k r f (omega arith)))
    performs Drop k vs f light = one_settles p before vs _ (λ v r. rest k f light r c (same c))
    performs (Put shape) k vs f light = two_settles p before vs _ (λ v at r. assigns k f light shape at r _ (put_same false shape c at v))
    performs (Peek shape to) k vs f light = one_settles p before vs _ (λ at r. going k f light _ (at ∷ r))
    performs (Bump kind shape) k vs f light = two_settles p before vs _ (λ v at r. going k f light _ _)
    performs (PutUnder shape) k vs f light = two_settles p before vs _ (λ v at r. stores k f light _ r (put_same false shape c at v))
    performs (Carry done size) k vs f light = two_settles p before vs _ (λ a b r. copies k f done size a b r light)
    performs (Gather size) k vs f light = one_settles p before vs _ (λ v r. going k f light _ r)
    performs (Lay i done size) k vs f light = one_settles p before vs _ (λ v r. puts k f i done size v _ r light)
    performs Reach k vs f light = going k f light _ vs
    performs (Invoke callee types) k vs f light = invoked_settles p before k c le (λ r d s. rest k f light r d s) callee types _
    performs (Busy left g args others) k vs f light = library_settles p before k vs c (λ v d s. rest k f light (v ∷ vs) d s) left g args others
    performs Skip k vs f light = rest k f light vs c (same c)
    performs (Init i o shape) k vs f light = one_settles p before vs _ (λ v r. stores k f light _ r (put_same true shape c _ v))
    performs (CarryInto i o done size) k vs f light = one_settles p before vs _ (λ a r. sets k f i o done size a _ r light)
    performs (Wipe i done size) k vs f light = wipes k f i done size _ vs light
    performs (Begin n objects ss) k vs f light =
        next (plan_stmts p.unit n ss (End objects ∷ k)) vs (begin_objects p.unit objects c) (begun_same p.unit objects c) (stmts_from p.unit low n ss (End objects ∷ k) f.0 f.1)
        (let w : weight p.unit (plan_stmts p.unit n ss (End objects ∷ k)) ≡ of_stmts p.unit ss + (1 + weight p.unit k) = stmts_weight p.unit n ss (End objects ∷ k) in omega arith)
    performs (End objects) k vs f light = rest k f light vs (end_objects objects c) (ended_same objects c)
    performs (Branch m a n b) k vs f light = one_settles p before vs _ (λ v r. decided_settles p before (truth_of c.store v) _ _ (lays k f.2 m a k r f.0 f.2 (omega arith)) (lays k f.2 n b k r f.1 f.2 (omega arith)))
    performs (Test l) k vs f light = one_settles p before vs _ (λ v r. decided_settles p before (truth_of c.store v) _ _ (lays k f.1 l.at l.body (Next l ∷ k) r f.0 f.1 (omega arith)) (rest k f.1 (omega arith) r c (same c)))
    performs (Pass l) k vs f light = lays k f.1 l.at l.body (Next l ∷ k) vs f.0 f.1 (omega arith)
    performs (Enter l) k vs f light = lays k f.1 l.at l.body (Check l ∷ k) vs f.0 f.1 (omega arith)
    performs (Next l) k vs f light = after_bodies l l.next k vs f light
    performs (Back l) k vs f light = one_settles p before vs _ (λ v r. head_turns l k r)
    performs (Check l) k vs f light = last_tests l l.test k vs f light
    performs (Redo l) k vs f light = one_settles p before vs _ (λ v r. decided_settles p before (truth_of c.store v) _ _ (turn _ r c (same c)) (rest k f light r c (same c)))
    performs (Select (suc left) n body) k vs f light = next (Select left n body ∷ k) vs c (same c) f (omega arith)
    performs (Select zero n body) k vs f light = one_settles p before vs _ (λ v r. chooses k f.1 n body v r f.0 (omega arith))
    performs EndSwitch k vs f light = rest k f light vs c (same c)
    performs (Jump l n) k vs f light = jumps k f.1 l n vs (up_to_call k) (call_left k) f.0
    performs LeaveLoop k vs f light = leaves k f vs (up_to_break k) (break_left p.unit low k f) light
    performs GoOn k vs f light = leaves k f vs (up_to_continue k) (continue_left p.unit low k f) light
    performs Give k vs f light = one_settles p before vs _ (λ v r. gives (is_value v) v r (up_to_call k))
    performs GiveNothing k vs f light = returns _ vs (up_to_call k)
    performs Leave k vs f light = call_ends _ k vs c (same c)
