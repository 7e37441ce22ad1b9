-- The run of an expression, and that of its folded form, to their ends.
use Rattle.std.proofs.Common.{◌≡◌, ℕ, zero, suc, ◌+◌, ◌≤◌, ℤ, List, [], ◌∷◌, refl, sym, ap, ◌∙◌, subst, arith}
use Rattle.c65_csem.specs.Trees.{Typed}
use Rattle.c65_fold.specs.Folded.{folded}
use Rattle.c65_meaning.specs.Program.{ProgramTy}
use Rattle.c65_meaning.specs.Why.{Why, Unfit}
use Rattle.c65_meaning.specs.Store.{Value, Whole}
use Rattle.c65_meaning.specs.Items.{Item, Push, plan}
use Rattle.c65_meaning.specs.State.{Frame, Scene, State, Undefined, Deep, Ended, Running}
use Rattle.c65_meaning.specs.Step.{step, steps, perform}
use Rattle.c65_fold_law.specs.Programs.{folded_unit, folded_program}
use Rattle.c65_fold_law.specs.Laws.{Quietly, Cheaper, EndsWithin, ExpressionsKeep}
use Rattle.c65_fold_law.proofs.Settling.{settles}
use Rattle.c65_fold_law.proofs.Marks.{Mark, Plain, Known, left, right, AreGood, Works, of_marks, folded_item, plan_works}
use Rattle.c65_fold_law.proofs.Scenes.{framed, Sim, Beside}
use Rattle.c65_fold_law.proofs.Calls.{TypedFuncs}
use Rattle.c65_fold_law.proofs.Steps.{perform_sim}
use Rattle.c65_fold_law.proofs.Starts.{typed_funcs}
use Rattle.c65_fold_law.proofs.Runs.{last_stays}

no_cheaper : (fs : List Frame) → Cheaper fs fs
no_cheaper [] = tt
no_cheaper (f ∷ fs) = (record { func = refl; object = refl; cost = omega arith; rest = refl }, no_cheaper fs)

module _ (p : ProgramTy) where
  abbrev q : ProgramTy
  q = folded_program p

  -- a state has no steps to its own undoing
  no_undefined : (why : Why) (n : ℕ) (k : List Item) (vs : List Value) (d : Scene) → steps p n (Undefined why) ≡ Running k vs d → ⊥
  no_undefined why n k vs d e = let f : Undefined why ≡ Running k vs d = sym (last_stays p (Undefined why) n tt) ∙ e in cc

  no_deep : (n : ℕ) (k : List Item) (vs : List Value) (d : Scene) → steps p n Deep ≡ Running k vs d → ⊥
  no_deep n k vs d e = let f : Deep ≡ Running k vs d = sym (last_stays p Deep n tt) ∙ e in cc

  no_ended : (out : List ℕ) (status turns n : ℕ) (k : List Item) (vs : List Value) (d : Scene) → steps p n (Ended out status turns) ≡ Running k vs d → ⊥
  no_ended out status turns n k vs d e = let f : Ended out status turns ≡ Running k vs d = sym (last_stays p (Ended out status turns) n tt) ∙ e in cc

  -- where a quiet way goes on, work is left
  no_end : (c : Scene) (rest : ℕ) (vs ws : List Value) (d e : Scene) (k : List Item) → Quietly p c (suc rest) (Running [] vs d) (Running k ws e) → ⊥
  no_end c zero vs ws d e k w = let f : Undefined Unfit ≡ Running k ws e = w.1.0 in cc
  no_end c (suc rest) vs ws d e k w = absurd w.1.0

  -- n steps along a quiet way of j: it goes on, or they are behind it
  data Way (c : Scene) (n j : ℕ) (s t : State) : Type 0 where
    still : (rest : ℕ) → Quietly p c (suc rest) (steps p n s) t → Way c n j s t
    past : (rest : ℕ) → rest + j ≡ n → steps p n s ≡ steps p rest t → Way c n j s t

  longer : (c : Scene) (n j : ℕ) (s t : State) → Way c n j (step p s) t → Way c (suc n) (suc j) s t
  longer c n j s t (still rest h) = still rest h
  longer c n j s t (past rest e h) = past rest (omega arith) h

  way_of : (c : Scene) (n j : ℕ) (s t : State) → Quietly p c j s t → Way c n j s t
  way_of c n zero s t w = past n (omega arith) (ap (λ (x : State). steps p n x) w.0)
  way_of c zero (suc j) s t w = still j w
  way_of c (suc n) (suc j) s t w = longer c n j s t (way_of c n j (step p s) t w.1)

  later : (few most : ℕ) (t : State) (ws : List Value) (d : Scene) → suc few ≤ most → EndsWithin q few (step q t) ws d → EndsWithin q most t ws d
  later few most t ws d h m = let a : m.moment ≤ few = m.within in record { moment = suc m.moment; within = omega arith; calls = m.calls; cheaper = m.cheaper; ends = m.ends }

  module _ (typed : TypedFuncs p.unit) where
    abbrev EndsFrom : ℕ → Type 0
    EndsFrom b = (n : ℕ) → n ≤ b → (m : List Mark) → AreGood p.unit m → (vs : List Value) (c : Scene) (gs : List Frame) → Cheaper c.frames gs → (ws : List Value) (d : Scene) → steps p n (Running (left p.unit m) vs c) ≡ Running [] ws d → EndsWithin q n (Running (right p.unit m) vs (framed gs c)) ws d

    -- the same from related work
    from_works : (b : ℕ) → EndsFrom b → (n : ℕ) → n ≤ b → (k : List Item) (vs : List Value) (c : Scene) (t : State) → Beside p.unit k vs c t → (ws : List Value) (d : Scene) → steps p n (Running k vs c) ≡ Running [] ws d → EndsWithin q n t ws d
    from_works b from n h k vs c t w ws d e =
        let f : Running (right p.unit w.works.marks) vs (framed w.frames c) ≡ t = ap (λ (x : List Item). Running x vs (framed w.frames c)) w.works.right_is ∙ sym w.is in
        subst (λ (x : State). EndsWithin q n x ws d) f
        (from n h w.works.marks w.works.good vs c w.frames w.cheaper ws d (ap (λ (x : List Item). steps p n (Running x vs c)) w.works.left_is ∙ e))

    stepped : (b : ℕ) → EndsFrom b → (n : ℕ) → n ≤ b → (s t : State) → Sim p.unit s t → (ws : List Value) (d : Scene) → steps p n s ≡ Running [] ws d → EndsWithin q n t ws d
    stepped b from n h (Undefined why) t w ws d e = absurd (no_undefined why n [] ws d e)
    stepped b from n h Deep t w ws d e = absurd (no_deep n [] ws d e)
    stepped b from n h (Ended out status turns) t w ws d e = absurd (no_ended out status turns n [] ws d e)
    stepped b from n h (Running k vs c) t w ws d e = from_works b from n h k vs c t w ws d e

    settled : (b : ℕ) → EndsFrom b → (n : ℕ) → n ≤ b → (x : Typed) (z : ℤ) (m : List Mark) → AreGood p.unit m → (vs : List Value) (c : Scene) (gs : List Frame) → Cheaper c.frames gs → (j : ℕ) → Way c (suc n) (suc j) (Running (plan p.unit x (left p.unit m)) vs c) (Running (left p.unit m) (Whole z ∷ vs) c) → (ws : List Value) (d : Scene) → steps p (suc n) (Running (plan p.unit x (left p.unit m)) vs c) ≡ Running [] ws d → EndsWithin q (suc n) (Running (Push (Whole z) ∷ right p.unit m) vs (framed gs c)) ws d
    settled b from n h x z m good vs c gs cheaper j (still rest g) ws d e =
        absurd (no_end c rest ws (Whole z ∷ vs) d c (left p.unit m) (subst (λ (s : State). Quietly p c (suc rest) s (Running (left p.unit m) (Whole z ∷ vs) c)) e g))
    settled b from n h x z m good vs c gs cheaper j (past rest i g) ws d e =
        later rest (suc n) (Running (Push (Whole z) ∷ right p.unit m) vs (framed gs c)) ws d (omega arith)
        (from rest (omega arith) m good (Whole z ∷ vs) c gs cheaper ws d (sym g ∙ e))

    -- with no step left
    at_end : (m : List Mark) → AreGood p.unit m → (vs : List Value) (c : Scene) (gs : List Frame) → Cheaper c.frames gs → (ws : List Value) (d : Scene) → Running (left p.unit m) vs c ≡ Running [] ws d → EndsWithin q 0 (Running (right p.unit m) vs (framed gs c)) ws d
    at_end [] good vs c gs cheaper ws d e =
        let v : vs ≡ ws = cc in
        let s : c ≡ d = cc in
        record { moment = 0; within = omega arith; calls = gs; cheaper = subst (λ (x : Scene). Cheaper x.frames gs) s cheaper; ends = ap (λ (x : List Value). Running [] x (framed gs c)) v ∙ ap (λ (x : Scene). Running [] ws (framed gs x)) s }
    at_end (Plain i ∷ m) good vs c gs cheaper ws d e = absurd (cc)
    at_end (Known x z ∷ m) good vs c gs cheaper ws d e =
        let k : plan p.unit x (left p.unit m) ≡ [] = cc in
        let w = (settles p x z good.0 good.1).run (left p.unit m) vs c in
        absurd (no_end c w.others vs (Whole z ∷ vs) c c (left p.unit m) (subst (λ (y : List Item). Quietly p c (suc w.others) (Running y vs c) (Running (left p.unit m) (Whole z ∷ vs) c)) k w.way))

    next : (b : ℕ) → EndsFrom b → EndsFrom (suc b)
    next b from zero h m good vs c gs cheaper ws d e = at_end m good vs c gs cheaper ws d e
    next b from (suc n) h [] good vs c gs cheaper ws d e = absurd (no_undefined Unfit n [] ws d e)
    next b from (suc n) h (Plain i ∷ m) good vs c gs cheaper ws d e =
        later n (suc n) (Running (folded_item i ∷ right p.unit m) vs (framed gs c)) ws d (omega arith)
        (stepped b from n (omega arith) (perform p i (left p.unit m) vs c) (perform q (folded_item i) (right p.unit m) vs (framed gs c)) (perform_sim p typed i good.0 (left p.unit m) (right p.unit m) (of_marks p.unit m good.1) vs c gs cheaper) ws d e)
    next b from (suc n) h (Known x z ∷ m) good vs c gs cheaper ws d e =
        let w = (settles p x z good.0 good.1).run (left p.unit m) vs c in
        settled b from n (omega arith) x z m good.2 vs c gs cheaper w.others (way_of c (suc n) (suc w.others) (Running (plan p.unit x (left p.unit m)) vs c) (Running (left p.unit m) (Whole z ∷ vs) c) w.way) ws d e

    none_first : EndsFrom 0
    none_first zero h m good vs c gs cheaper ws d e = at_end m good vs c gs cheaper ws d e
    none_first (suc n) h m good vs c gs cheaper ws d e = absurd (omega arith)

    ends : (b : ℕ) → EndsFrom b
    ends zero = none_first
    ends (suc b) = next b (ends b)

pub expressions_keep : ExpressionsKeep
expressions_keep p x unit typed n vs ws c d e =
    let funcs = typed_funcs p.unit unit in
    let nothing : Works p.unit [] [] = record { marks = []; left_is = refl; right_is = refl; good = tt } in
    from_works p funcs n (ends p funcs n) n (omega arith) (plan p.unit x []) vs c (Running (plan (folded_unit p.unit) (folded x) []) vs c) (record { other = plan (folded_unit p.unit) (folded x) []; frames = c.frames; works = plan_works p.unit x typed [] [] nothing; cheaper = no_cheaper c.frames; is = refl }) ws d e
