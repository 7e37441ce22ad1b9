-- A run of a folded program goes beside the program's own, in no more steps.
use Rattle.std.proofs.Common.{◌≡◌, ℕ, zero, suc, ◌+◌, ◌≤◌, ℤ, Bool, true, false, List, [], ◌∷◌, refl, sym, ap, ◌∙◌, subst, arith}
use Rattle.c65_csem.specs.Trees.{Typed}
use Rattle.c65_meaning.specs.Program.{ProgramTy}
use Rattle.c65_meaning.specs.Why.{Unfit}
use Rattle.c65_meaning.specs.Store.{Value, Whole}
use Rattle.c65_meaning.specs.Items.{Item, Push, plan}
use Rattle.c65_meaning.specs.State.{Frame, Scene, State, Undefined, Deep, Ended, Running}
use Rattle.c65_meaning.specs.Step.{step, steps, perform}
use Rattle.c65_meaning.specs.Start.{start_in}
use Rattle.c65_meaning.specs.Sem.{Runs, outcome_of, IsDefined, sem, sem_free}
use Rattle.c65_meaning.specs.Laws.{IsLast}
use Rattle.c65_fold_law.specs.Programs.{folded_program}
use Rattle.c65_fold_law.specs.Laws.{Cheaper, IsIn, Quietly, Leads, Meaning, FoldingKeeps, FoldingAddsNothing}
use Rattle.c65_fold_law.proofs.Settling.{settles}
use Rattle.c65_fold_law.proofs.Marks.{Mark, Plain, Known, left, right, AreGood, of_marks, folded_item}
use Rattle.c65_fold_law.proofs.Scenes.{framed, Sim, Beside}
use Rattle.c65_fold_law.proofs.Calls.{TypedFuncs}
use Rattle.c65_fold_law.proofs.Steps.{perform_sim}
use Rattle.c65_fold_law.proofs.Starts.{typed_funcs, starts}

pub last_stays : (p : ProgramTy) (s : State) (n : ℕ) → IsLast s → steps p n s ≡ s
last_stays p s zero h = refl
last_stays p (Undefined why) (suc n) h = last_stays p (Undefined why) n h
last_stays p Deep (suc n) h = last_stays p Deep n h
last_stays p (Ended out status turns) (suc n) h = last_stays p (Ended out status turns) n h
last_stays p (Running work values at) (suc n) h = absurd h

-- what a state on a quiet way shows
shown_in : (c : Scene) (s : State) → IsIn c s → outcome_of s ≡ Runs c.out c.turns
shown_in c (Running work values d) h = ap (λ (x : Scene). Runs x.out x.turns) h
shown_in c (Undefined why) h = absurd h
shown_in c Deep h = absurd h
shown_in c (Ended out status turns) h = absurd h

module _ (p : ProgramTy) where
  -- n steps along a quiet way of j: still on it, or behind it
  data Along (c : Scene) (n j : ℕ) (s t : State) : Type 0 where
    within : outcome_of (steps p n s) ≡ Runs c.out c.turns → Along c n j s t
    behind : (rest : ℕ) → rest + j ≡ n → steps p n s ≡ steps p rest t → Along c n j s t

  one_more : (c : Scene) (n j : ℕ) (s t : State) → Along c n j (step p s) t → Along c (suc n) (suc j) s t
  one_more c n j s t (within h) = within h
  one_more c n j s t (behind rest e h) = behind rest (omega arith) h

  along : (c : Scene) (n j : ℕ) (s t : State) → Quietly p c j s t → Along c n j s t
  along c n zero s t w = behind n (omega arith) (ap (λ (x : State). steps p n x) w.0)
  along c zero (suc j) s t w = within (shown_in c s w.0)
  along c (suc n) (suc j) s t w = one_more c n j s t (along c n j (step p s) t w.1)

  steps_add : (n m : ℕ) (s : State) → steps p (n + m) s ≡ steps p m (steps p n s)
  steps_add zero m s = let e : 0 + m ≡ m = omega arith in ap (λ k. steps p k s) e
  steps_add (suc n) m s = let e : suc n + m ≡ suc (n + m) = omega arith in ap (λ k. steps p k s) e ∙ steps_add n m (step p s)

  quiet_steps : (c : Scene) (j : ℕ) (s t : State) → Quietly p c j s t → steps p j s ≡ t
  quiet_steps c zero s t w = w.0
  quiet_steps c (suc j) s t w = quiet_steps c j (step p s) t w.1

  abbrev q : ProgramTy
  q = folded_program p

  -- the folded run shows what is shown here, within so many steps
  record Meets (most : ℕ) (s t : State) : Type 0 where
    moment : ℕ
    few : moment ≤ most
    shows : outcome_of (steps q moment t) ≡ outcome_of s

  meets_at : (most : ℕ) (s t r : State) → r ≡ s → Meets most s t → Meets most r t
  meets_at most s t r e m = subst (λ (x : State). Meets most x t) (sym e) m

  defined_at : (s r : State) → r ≡ s → IsDefined (outcome_of r) → IsDefined (outcome_of s)
  defined_at s r e d = subst (λ (x : State). IsDefined (outcome_of x)) e d

  -- one step more of the folded run
  meets_later : (few most : ℕ) (s t : State) → suc few ≤ most → Meets few s (step q t) → Meets most s t
  meets_later few most s t h m = let a : m.moment ≤ few = m.few in record { moment = suc m.moment; few = omega arith; shows = m.shows }

  module _ (typed : TypedFuncs p.unit) where
    abbrev MeetsFrom : ℕ → Type 0
    MeetsFrom b = (n : ℕ) → n ≤ b → (m : List Mark) → AreGood p.unit m → (vs : List Value) (c : Scene) (gs : List Frame) → Cheaper c.frames gs → IsDefined (outcome_of (steps p n (Running (left p.unit m) vs c))) → Meets n (steps p n (Running (left p.unit m) vs c)) (Running (right p.unit m) vs (framed gs c))

    -- the same from related work
    from_works : (b : ℕ) → MeetsFrom b → (n : ℕ) → n ≤ b → (k : List Item) (vs : List Value) (c : Scene) (t : State) → Beside p.unit k vs c t → IsDefined (outcome_of (steps p n (Running k vs c))) → Meets n (steps p n (Running k vs c)) t
    from_works b from n h k vs c t w d =
        let e : Running k vs c ≡ Running (left p.unit w.works.marks) vs c = ap (λ (x : List Item). Running x vs c) (sym w.works.left_is) in
        let f : Running (right p.unit w.works.marks) vs (framed w.frames c) ≡ t = ap (λ (x : List Item). Running x vs (framed w.frames c)) w.works.right_is ∙ sym w.is in
        subst (λ (x : State). Meets n (steps p n (Running k vs c)) x) f
        (subst (λ (x : State). Meets n (steps p n x) (Running (right p.unit w.works.marks) vs (framed w.frames c))) (sym e)
        (from n h w.works.marks w.works.good vs c w.frames w.cheaper (subst (λ (x : State). IsDefined (outcome_of (steps p n x))) e d)))

    -- behind one step of each
    stepped : (b : ℕ) → MeetsFrom b → (n : ℕ) → n ≤ b → (s t : State) → Sim p.unit s t → IsDefined (outcome_of (steps p n s)) → Meets n (steps p n s) t
    stepped b from n h (Undefined why) t w d = absurd (defined_at (Undefined why) (steps p n (Undefined why)) (last_stays p (Undefined why) n tt) d)
    stepped b from n h Deep t w d = absurd (defined_at Deep (steps p n Deep) (last_stays p Deep n tt) d)
    stepped b from n h (Ended out status turns) t w d = record { moment = 0; few = omega arith; shows = ap outcome_of (w ∙ sym (last_stays p (Ended out status turns) n tt)) }
    stepped b from n h (Running k vs c) t w d = from_works b from n h k vs c t w d

    -- behind a constant
    settled : (b : ℕ) → MeetsFrom b → (n : ℕ) → n ≤ b → (e : Typed) (z : ℤ) (m : List Mark) → AreGood p.unit m → (vs : List Value) (c : Scene) (gs : List Frame) → Cheaper c.frames gs → (w : Leads p c (Running (plan p.unit e (left p.unit m)) vs c) (Running (left p.unit m) (Whole z ∷ vs) c)) → Along c (suc n) (suc w.others) (Running (plan p.unit e (left p.unit m)) vs c) (Running (left p.unit m) (Whole z ∷ vs) c) → IsDefined (outcome_of (steps p (suc n) (Running (plan p.unit e (left p.unit m)) vs c))) → Meets (suc n) (steps p (suc n) (Running (plan p.unit e (left p.unit m)) vs c)) (Running (Push (Whole z) ∷ right p.unit m) vs (framed gs c))
    settled b from n h e z m good vs c gs cheaper w (within g) d = record { moment = 0; few = omega arith; shows = sym g }
    settled b from n h e z m good vs c gs cheaper w (behind rest i g) d =
        meets_at (suc n) (steps p rest (Running (left p.unit m) (Whole z ∷ vs) c)) _ _ g
        (meets_later rest (suc n) (steps p rest (Running (left p.unit m) (Whole z ∷ vs) c)) (Running (Push (Whole z) ∷ right p.unit m) vs (framed gs c)) (omega arith)
        (from rest (omega arith) m good (Whole z ∷ vs) c gs cheaper (defined_at (steps p rest (Running (left p.unit m) (Whole z ∷ vs) c)) (steps p (suc n) (Running (plan p.unit e (left p.unit m)) vs c)) g d)))

    at_start : (vs : List Value) (c : Scene) (gs : List Frame) (k l : List Item) → Meets 0 (Running k vs c) (Running l vs (framed gs c))
    at_start vs c gs k l = record { moment = 0; few = omega arith; shows = refl }

    next : (b : ℕ) → MeetsFrom b → MeetsFrom (suc b)
    next b from zero h m good vs c gs cheaper d = at_start vs c gs (left p.unit m) (right p.unit m)
    next b from (suc n) h [] good vs c gs cheaper d = absurd (defined_at (Undefined Unfit) (steps p n (Undefined Unfit)) (last_stays p (Undefined Unfit) n tt) d)
    next b from (suc n) h (Plain i ∷ m) good vs c gs cheaper d =
        meets_later n (suc n) (steps p n (perform p i (left p.unit m) vs c)) (Running (folded_item i ∷ right p.unit m) vs (framed gs c)) (omega arith)
        (stepped b from n (omega arith) (perform p i (left p.unit m) vs c) (perform q (folded_item i) (right p.unit m) vs (framed gs c)) (perform_sim p typed i good.0 (left p.unit m) (right p.unit m) (of_marks p.unit m good.1) vs c gs cheaper) d)
    next b from (suc n) h (Known e z ∷ m) good vs c gs cheaper d =
        let w = (settles p e z good.0 good.1).run (left p.unit m) vs c in
        settled b from n (omega arith) e z m good.2 vs c gs cheaper w (along c (suc n) (suc w.others) _ _ w.way) d

    none_first : MeetsFrom 0
    none_first zero h m good vs c gs cheaper d = at_start vs c gs (left p.unit m) (right p.unit m)
    none_first (suc n) h m good vs c gs cheaper d = absurd (omega arith)

    meets : (b : ℕ) → MeetsFrom b
    meets zero = none_first
    meets (suc b) = next b (meets b)

    -- ---- nothing is added

    -- our run goes on for at least as long, and where it is defined shows what the folded one does
    record Covers (least : ℕ) (s t : State) : Type 0 where
      moment : ℕ
      long : least ≤ moment
      shows : IsDefined (outcome_of (steps p moment s)) → outcome_of (steps p moment s) ≡ outcome_of t

    abbrev CoversFrom : ℕ → Type 0
    CoversFrom n = (m : List Mark) → AreGood p.unit m → (vs : List Value) (c : Scene) (gs : List Frame) → Cheaper c.frames gs → Covers n (Running (left p.unit m) vs c) (steps q n (Running (right p.unit m) vs (framed gs c)))

    covers_later : (n j : ℕ) (s r t : State) → 1 ≤ j → steps p j s ≡ r → Covers n r t → Covers (suc n) s t
    covers_later n j s r t h e w =
        let long : n ≤ w.moment = w.long in
        let same : steps p (j + w.moment) s ≡ steps p w.moment r = steps_add j w.moment s ∙ ap (λ (x : State). steps p w.moment x) e in
        record { moment = j + w.moment; long = omega arith; shows = λ d. ap outcome_of same ∙ w.shows (defined_at (steps p w.moment r) (steps p (j + w.moment) s) same d) }

    covers_works : (n : ℕ) → CoversFrom n → (k : List Item) (vs : List Value) (c : Scene) (t : State) → Beside p.unit k vs c t → Covers n (Running k vs c) (steps q n t)
    covers_works n from k vs c t w =
        let e : Running (left p.unit w.works.marks) vs c ≡ Running k vs c = ap (λ (x : List Item). Running x vs c) w.works.left_is in
        let f : Running (right p.unit w.works.marks) vs (framed w.frames c) ≡ t = ap (λ (x : List Item). Running x vs (framed w.frames c)) w.works.right_is ∙ sym w.is in
        subst (λ (x : State). Covers n (Running k vs c) (steps q n x)) f (subst (λ (x : State). Covers n x (steps q n (Running (right p.unit w.works.marks) vs (framed w.frames c)))) e (from w.works.marks w.works.good vs c w.frames w.cheaper))

    covers_sim : (n : ℕ) → CoversFrom n → (s t : State) → Sim p.unit s t → Covers n s (steps q n t)
    covers_sim n from (Undefined why) t w = record { moment = n; long = omega arith; shows = λ d. absurd (defined_at (Undefined why) (steps p n (Undefined why)) (last_stays p (Undefined why) n tt) d) }
    covers_sim n from Deep t w = record { moment = n; long = omega arith; shows = λ d. absurd (defined_at Deep (steps p n Deep) (last_stays p Deep n tt) d) }
    covers_sim n from (Ended out status turns) t w = record { moment = n; long = omega arith; shows = λ d. ap outcome_of (last_stays p (Ended out status turns) n tt ∙ sym (ap (λ (x : State). steps q n x) w ∙ last_stays q (Ended out status turns) n tt)) }
    covers_sim n from (Running k vs c) t w = covers_works n from k vs c t w

    covers : (n : ℕ) → CoversFrom n
    covers zero m good vs c gs cheaper = record { moment = 0; long = omega arith; shows = λ d. refl }
    covers (suc n) [] good vs c gs cheaper = record { moment = suc n; long = omega arith; shows = λ d. absurd (defined_at (Undefined Unfit) (steps p n (Undefined Unfit)) (last_stays p (Undefined Unfit) n tt) d) }
    covers (suc n) (Plain i ∷ m) good vs c gs cheaper =
        covers_later n 1 (Running (i ∷ left p.unit m) vs c) (perform p i (left p.unit m) vs c) _ (omega arith) refl
        (covers_sim n (covers n) (perform p i (left p.unit m) vs c) (perform q (folded_item i) (right p.unit m) vs (framed gs c)) (perform_sim p typed i good.0 (left p.unit m) (right p.unit m) (of_marks p.unit m good.1) vs c gs cheaper))
    covers (suc n) (Known e z ∷ m) good vs c gs cheaper =
        let w = (settles p e z good.0 good.1).run (left p.unit m) vs c in
        covers_later n (suc w.others) (Running (plan p.unit e (left p.unit m)) vs c) (Running (left p.unit m) (Whole z ∷ vs) c) _ (omega arith) (quiet_steps c (suc w.others) (Running (plan p.unit e (left p.unit m)) vs c) (Running (left p.unit m) (Whole z ∷ vs) c) w.way) (covers n m good.2 (Whole z ∷ vs) c gs cheaper)

-- ---- whole programs, whether a call may be too deep or not

abbrev shown_by : Bool → Meaning
shown_by free p args input n = outcome_of (steps p n (start_in free p args input))

keeps : (free : Bool) → FoldingKeeps (shown_by free)
keeps free p args input n w d =
    let typed = typed_funcs p.unit w.unit in
    let m = stepped p typed n (meets p typed n) n (omega arith) (start_in free p args input) (start_in free (folded_program p) args input) (starts p typed free args input) d in
    record { moment = m.moment; within = m.few; shows = m.shows }

adds_nothing : (free : Bool) → FoldingAddsNothing (shown_by free)
adds_nothing free p args input n w =
    let typed = typed_funcs p.unit w.unit in
    let c = covers_sim p typed n (covers p typed n) (start_in free p args input) (start_in free (folded_program p) args input) (starts p typed free args input) in
    record { moment = c.moment; later = c.long; shows = c.shows }

pub folding_keeps : FoldingKeeps sem
folding_keeps = keeps false

pub folding_keeps_free : FoldingKeeps sem_free
folding_keeps_free = keeps true

pub folding_adds_nothing : FoldingAddsNothing sem
folding_adds_nothing = adds_nothing false

pub folding_adds_nothing_free : FoldingAddsNothing sem_free
folding_adds_nothing_free = adds_nothing true
