-- A jump to a label inside a call: the label is found, the objects of the blocks that are left end, those of the blocks that are entered
-- begin, and the work behind the label goes on.
use Rattle.std.proofs.Common.{◌≡◌, ℕ, zero, suc, ◌+◌, ◌<◌, Bool, true, false, ◌⊎◌, inl, inr, List, [], ◌∷◌, ◌++◌, length, Option, Some, None, refl, sym, ap, ◌∙◌, subst, arith, nat_le}
use Rattle.std.specs.Prelude.{◌==◌, IsTrue, IsSome, get_or, slice_get, if◌then◌else◌}
use Rattle.std.proofs.lemmas.Bool.{eqb-true, eqb-false}
use Rattle.c65_csem.specs.Trees.{Stmt, empty, eval, set_part, clear, block, if_stmt, while, do_while, for_loop, switch, case, default, label, goto, break, continue, return, Stmts, no_stmts, and_stmts, UnitTy}
use Rattle.c65_csem.specs.Statements.{CanBreak, labels_of, labels_in}
use Rattle.c65_csem.specs.Units.{context_of}
use Rattle.c65_meaning.specs.Program.{ProgramTy}
use Rattle.c65_meaning.specs.Shapes.{object_in, lives_in_frame}
use Rattle.c65_meaning.specs.Sites.{count}
use Rattle.c65_meaning.specs.Store.{Value}
use Rattle.c65_meaning.specs.Items.{Item, End, Jump, Leave, plan_stmt, plan_stmts}
use Rattle.c65_meaning.specs.After.{ToLabel, Landing, within, or_else, found, after, after_all, Left, is_among, without}
use Rattle.c65_meaning.specs.State.{Scene}
use Rattle.c65_meaning.specs.Step.{begin_objects, end_objects, has_turn, body_of, landed, label_in, jumped, func_in, perform}
use Rattle.c65_csem_names.specs.Scopes.{is_variadic, entering}
use Rattle.c65_meaning_law.specs.Laws.{HasBlock}
use Rattle.c65_meaning_law.specs.Statements.{IsReady}
use Rattle.c65_meaning_law.proofs.Stacks.{Kind, breaking, continuing, returning, Call, inside, HaveBlocks, D, Leads, Takes, Out, AreSuited, StoreFits, IsScene}
use Rattle.c65_meaning_law.proofs.Scopes.{AreAutomatic, Grows, grows_on, ready_stays, begun}
use Rattle.c65_meaning_law.proofs.Landings.{Each, AreNamed, names, Lands, lands, among_more}
use Rattle.c65_meaning_law.proofs.Statements.{suited_on}
use Rattle.c65_meaning_law.proofs.StatementSteps.{ends, moves_here, IsGoodFrom, fits_here}
use Rattle.c65_meaning_law.proofs.Calls.{IsCall}
use Rattle.c65_meaning_law.proofs.Returns.{call_left, well_from}
use Rattle.c65_meaning_law.proofs.Whole.{JumpsWell}

-- ---- lists

same_or_other : (t : Bool) (x : Bool) → (if t then true else x) ≡ true → (t ≡ true) ⊎ (x ≡ true)
same_or_other true x h = inl refl
same_or_other false x h = inr h

first_or : (t : Bool) (x : Bool) → t ≡ true → (if t then true else x) ≡ true
first_or true x h = refl
first_or false x h = absurd (cc)

rest_or : (t : Bool) (x : Bool) → x ≡ true → (if t then true else x) ≡ true
rest_or true x h = refl
rest_or false x h = h

among_joined : (xs ys : List ℕ) (i : ℕ) → is_among (xs ++ ys) i ≡ true → (is_among xs i ≡ true) ⊎ (is_among ys i ≡ true)
among_joined [] ys i h = inr h
among_joined (x ∷ xs) ys i h = go (same_or_other (x == i) (is_among (xs ++ ys) i) h) (among_joined xs ys i)
  where
    more : (is_among xs i ≡ true) ⊎ (is_among ys i ≡ true) → ((if x == i then true else is_among xs i) ≡ true) ⊎ (is_among ys i ≡ true)
    more (inl e) = inl (rest_or (x == i) (is_among xs i) e)
    more (inr e) = inr e

    go : ((x == i) ≡ true) ⊎ (is_among (xs ++ ys) i ≡ true) → (is_among (xs ++ ys) i ≡ true → (is_among xs i ≡ true) ⊎ (is_among ys i ≡ true)) → ((if x == i then true else is_among xs i) ≡ true) ⊎ (is_among ys i ≡ true)
    go (inl e) f = inl (first_or (x == i) (is_among xs i) e)
    go (inr e) f = more (f e)

among_at : (xs : List ℕ) (i k : ℕ) → k < length xs → get_or xs k i ≡ i → is_among xs i ≡ true
among_at [] i k h e = absurd (omega (arith, h))
among_at (x ∷ xs) i zero h e = first_or (x == i) (is_among xs i) (same_is x i e)
  where
    same_is : (x i : ℕ) → x ≡ i → (x == i) ≡ true
    same_is x i e = grind arith
among_at (x ∷ xs) i (suc k) h e = rest_or (x == i) (is_among xs i) (among_at xs i k (omega (arith, h)) e)

entered_from : (objects scope : List ℕ) (i : ℕ) → is_among (entering objects scope) i ≡ true → (is_among objects i ≡ true) ⊎ (is_among scope i ≡ true)
entered_from [] scope i h = inr h
entered_from (x ∷ xs) scope i h = go (entered_from xs (x ∷ scope) i h)
  where
    first : ((x == i) ≡ true) ⊎ (is_among scope i ≡ true) → ((if x == i then true else is_among xs i) ≡ true) ⊎ (is_among scope i ≡ true)
    first (inl e) = inl (first_or (x == i) (is_among xs i) e)
    first (inr e) = inr e

    go : (is_among xs i ≡ true) ⊎ (is_among (x ∷ scope) i ≡ true) → ((if x == i then true else is_among xs i) ≡ true) ⊎ (is_among scope i ≡ true)
    go (inl e) = inl (rest_or (x == i) (is_among xs i) e)
    go (inr e) = first (same_or_other (x == i) (is_among scope i) e)

entering_has : (objects scope : List ℕ) (i : ℕ) → is_among objects i ≡ true → is_among (entering objects scope) i ≡ true
entering_has [] scope i h = absurd (cc)
entering_has (x ∷ xs) scope i h = go (same_or_other (x == i) (is_among xs i) h) (entering_has xs (x ∷ scope) i)
  where
    go : ((x == i) ≡ true) ⊎ (is_among xs i ≡ true) → (is_among xs i ≡ true → is_among (entering xs (x ∷ scope)) i ≡ true) → is_among (entering xs (x ∷ scope)) i ≡ true
    go (inl e) f = among_more i xs (x ∷ scope) (first_or (x == i) (is_among scope i) e)
    go (inr e) f = f e

-- what is in one list and not in the other stays
in_without : (xs others : List ℕ) (i : ℕ) → is_among others i ≡ false → is_among xs i ≡ true → is_among (without xs others) i ≡ true
in_without [] others i n h = h
in_without (x ∷ xs) others i n h = kept (is_among others x) refl (same_or_other (x == i) (is_among xs i) h) (in_without xs others i n)
  where
    clash : (b : Bool) → b ≡ false → b ≡ true → ⊥
    clash b g h = cc

    kept : (t : Bool) → is_among others x ≡ t → ((x == i) ≡ true) ⊎ (is_among xs i ≡ true) → (is_among xs i ≡ true → is_among (without xs others) i ≡ true) → is_among (if t then without xs others else x ∷ without xs others) i ≡ true
    kept true e (inl f) g = let same : x ≡ i = eqb-true x i f in absurd (clash (is_among others i) n (subst (λ (j : ℕ). is_among others j ≡ true) same e))
    kept true e (inr f) g = g f
    kept false e (inl f) g = first_or (x == i) (is_among (without xs others) i) f
    kept false e (inr f) g = rest_or (x == i) (is_among (without xs others) i) (g f)

automatic_without : (u : UnitTy) (xs others : List ℕ) → AreAutomatic u xs → AreAutomatic u (without xs others)
automatic_without u [] others h = tt
automatic_without u (x ∷ xs) others h = kept (is_among others x) (automatic_without u xs others h.1)
  where
    kept : (t : Bool) → AreAutomatic u (without xs others) → AreAutomatic u (if t then without xs others else x ∷ without xs others)
    kept true g = g
    kept false g = (h.0, g)

-- ---- the label is found

some_left : (a b : Option Landing) → IsSome a → IsSome (or_else a b)
some_left (Some r) b h = refl
some_left None b h = absurd (cc)

some_right : (a b : Option Landing) → IsSome b → IsSome (or_else a b)
some_right (Some r) b h = refl
some_right None b h = h

some_within : (objects : List ℕ) (m : Option Landing) → IsSome m → IsSome (within objects m)
some_within objects (Some r) h = refl
some_within objects None h = absurd (cc)

some_found : (l x n : ℕ) (w : List Item) (m : Option Landing) → ((x == l) ≡ true) ⊎ IsSome m → IsSome (found (l == x) n w m)
some_found l x n w m h = go (l == x) refl h
  where
    other : (l == x) ≡ false → (x == l) ≡ true → ⊥
    other e f = let same : x ≡ l = eqb-true x l f in let unlike = eqb-false l x e in unlike (sym same)

    go : (t : Bool) → (l == x) ≡ t → ((x == l) ≡ true) ⊎ IsSome m → IsSome (found t n w m)
    go true e h = refl
    go false e (inl f) = absurd (other e f)
    go false e (inr f) = f

module _ (u : UnitTy) (l : ℕ) where
  abbrev Finds : Option Landing → Type 0
  Finds m = IsSome m

  either_found : {P Q : Type 0} (a b : Option Landing) → P ⊎ Q → (P → Finds a) → (Q → Finds b) → Finds (or_else a b)
  either_found a b (inl h) f g = some_left a b (f h)
  either_found a b (inr h) f g = some_right a b (g h)

  here : {P Q R : Type 0} → P ⊎ Q → (Q → R) → P ⊎ R
  here (inl h) f = inl h
  here (inr h) f = inr (f h)

  mutual
    label_found : (n : ℕ) (s : Stmt) (k : List Item) → is_among (labels_of s) l ≡ true → Finds (after u (ToLabel l) n s k)
    label_found n (block os ss) k h = some_within os (after_all u (ToLabel l) (suc n) ss (End os ∷ k)) (label_found_in (suc n) ss (End os ∷ k) h)
    label_found n (if_stmt e a b) k h = either_found (after u (ToLabel l) (suc n) a k) (after u (ToLabel l) (suc n + count a) b k) (among_joined (labels_of a) (labels_of b) l h) (label_found (suc n) a k) (label_found (suc n + count a) b k)
    label_found n (while e a) k h = label_found (suc n) a _ h
    label_found n (do_while a e) k h = label_found (suc n) a _ h
    label_found n (for_loop i d o a) k h = label_found (suc n) a _ h
    label_found n (switch e a) k h = label_found (suc n) a _ h
    label_found n (case v a) k h = label_found (suc n) a k h
    label_found n (default a) k h = label_found (suc n) a k h
    label_found n (label x a) k h = some_found l x n (plan_stmt u (suc n) a k) (after u (ToLabel l) (suc n) a k) (here (same_or_other (x == l) (is_among (labels_of a) l) h) (label_found (suc n) a k))
    label_found n empty k h = absurd (cc)
    label_found n (eval e) k h = absurd (cc)
    label_found n (set_part i o e) k h = absurd (cc)
    label_found n (clear i) k h = absurd (cc)
    label_found n (goto x) k h = absurd (cc)
    label_found n break k h = absurd (cc)
    label_found n continue k h = absurd (cc)
    label_found n (return o) k h = absurd (cc)

    label_found_in : (n : ℕ) (ss : Stmts) (k : List Item) → is_among (labels_in ss) l ≡ true → Finds (after_all u (ToLabel l) n ss k)
    label_found_in n no_stmts k h = absurd (cc)
    label_found_in n (and_stmts a rest) k h = either_found (after u (ToLabel l) n a (plan_stmts u (n + count a) rest k)) (after_all u (ToLabel l) (n + count a) rest k) (among_joined (labels_of a) (labels_in rest) l h) (label_found n a (plan_stmts u (n + count a) rest k)) (label_found_in (n + count a) rest k)

-- ---- the scene behind the jump

module _ (u : UnitTy) (c : Scene) where
  -- each object of blocks that are around has a block
  have_at : (objects : List ℕ) (i : ℕ) → HaveBlocks u c objects → is_among objects i ≡ true → HasBlock u c i
  have_at [] i h e = absurd (cc)
  have_at (x ∷ rest) i h e = go (same_or_other (x == i) (is_among rest i) e) (have_at rest i h.1)
    where
      go : ((x == i) ≡ true) ⊎ (is_among rest i ≡ true) → (is_among rest i ≡ true → HasBlock u c i) → HasBlock u c i
      go (inl f) g = subst (λ (j : ℕ). HasBlock u c j) (eqb-true x i f) h.0
      go (inr f) g = g f

  -- of blocks that are entered, the objects that are around already have blocks, and the others begin
  ready_landed : (e : Scene) (variadic : Bool) (around to scope : List ℕ) → Grows u c e → HaveBlocks u c around → IsReady u variadic (entering (without to around) scope) e → IsReady u variadic (entering to scope) e
  ready_landed e variadic around to scope g h r = record { active = r.active; objects = λ i m s. at i m (lives_in_frame (object_in u i)) refl s; literals = r.literals; funcs = r.funcs; rest = r.rest }
    where
      new : (i : ℕ) → IsSome (object_in u i) → is_among (entering (without to around) scope) i ≡ true → HasBlock u e i
      new i m a = r.objects i m (λ l. a)

      opened : (i : ℕ) → IsSome (object_in u i) → is_among to i ≡ true → (t : Bool) → is_among around i ≡ t → HasBlock u e i
      opened i m a true f = g.objects i (have_at around i h f)
      opened i m a false f = new i m (entering_has (without to around) scope i (in_without to around i f a))

      from : (i : ℕ) → IsSome (object_in u i) → (is_among to i ≡ true) ⊎ (is_among scope i ≡ true) → HasBlock u e i
      from i m (inl a) = opened i m a (is_among around i) refl
      from i m (inr a) = new i m (among_more i (without to around) scope a)

      at : (i : ℕ) → IsSome (object_in u i) → (t : Bool) → lives_in_frame (object_in u i) ≡ t → (IsTrue t → IsTrue (is_among (entering to scope) i)) → HasBlock u e i
      at i m true l s = from i m (entered_from to scope i (s refl))
      at i m false l s = r.objects i m (λ w. absurd (cc))

-- ---- the jump

module _ (p : ProgramTy) (c : Scene) (call : Call) (active : IsCall p.unit c c.frames call) where
  abbrev scope : List ℕ
  scope = entering call.func.params []

  abbrev variadic : Bool
  variadic = is_variadic call.func.ty

  abbrev rest : List Item
  rest = Leave ∷ call.behind

  first_ready : IsReady p.unit variadic scope c
  first_ready = let r = active.ready in record { active = r.active; objects = r.objects; literals = r.literals; funcs = r.funcs; rest = r.rest }

  -- nothing is left at the end of the body but the call itself
  ends_out : (e : Scene) (ks : List Kind) → ks ≡ call.base → Leads (context_of call.func call.code) (Out (inside call) p.unit e rest) ks
  ends_out e ks b breaking (CanBreak.loop h) = absurd (cc)
  ends_out e ks b breaking (CanBreak.switched h) = absurd (cc)
  ends_out e ks b continuing h = absurd (cc)
  ends_out e ks b returning h = (refl, b)

  landing : (l : ℕ) (e : Scene) (ks : List Kind) → ks ≡ call.base → Each (Lands p.unit (inside call) tt (ToLabel l) e ks variadic scope) (after p.unit (ToLabel l) 0 call.code rest)
  landing l e ks b = lands p.unit (inside call) tt (ToLabel l) e ks variadic (context_of call.func call.code) scope 0 call.code rest (refl, refl) active.typed.typed active.scoped (λ r. (refl, b)) (λ r. ends_out e ks b)

  turns : (t : Bool) (e : Scene) → StoreFits (D p.unit e) e.store → IsScene p.unit e (has_turn t e)
  turns true e h = record { frames = refl; store = h }
  turns false e h = record { frames = refl; store = h }

  lands_well : (l n : ℕ) (around : List ℕ) (ks : List Kind) (vs : List Value) (d : Scene) (o : Option Landing) → ks ≡ call.base → HaveBlocks p.unit c around → AreSuited (D p.unit c) ks vs → IsScene p.unit c d → IsSome o → Each (AreNamed p.unit) o → ((e : Scene) → Each (Lands p.unit (inside call) tt (ToLabel l) e ks variadic scope) o) → IsGoodFrom (inside call) p c (landed p.unit n vs d (record { objects = around; work = rest }) o)
  lands_well l n around ks vs d None b h a i s w f = absurd (cc)
  lands_well l n around ks vs d (Some to) b h a i s w f =
      let ended : Scene = end_objects (without around to.objects) d in
      let j = ends (inside call) tt p c (without around to.objects) d i in
      let e : Scene = begin_objects p.unit (without to.objects around) ended in
      let g = moves_here (inside call) tt p c ended j in
      let on = begun p.unit variadic (without to.objects around) scope ended (automatic_without p.unit to.objects around w) (ready_stays p.unit c ended g variadic scope first_ready) (fits_here (inside call) tt p c ended g j.store) in
      let all = grows_on p.unit c ended e g on.grows in
      (e, all, record { kinds = ks; takes = f e (ready_landed p.unit c e variadic around to.objects scope all h on.ready); suited = suited_on (inside call) p.unit c e all ks vs a; scene = turns (nat_le to.at n) e on.store })

  pub jump_lands : (l n : ℕ) (k : List Item) (ks : List Kind) (vs : List Value) (d : Scene) → Takes (inside call) p.unit c (Jump l n ∷ k) ks → AreSuited (D p.unit c) ks vs → IsScene p.unit c d → IsGoodFrom (inside call) p c (perform p (Jump l n) k vs d)
  jump_lands l n k ks vs d t a i =
      let left = call_left p c call k ks t.1.1 in
      let around : Left = record { objects = left.objects; work = rest } in
      let o : Option Landing = after p.unit (ToLabel l) 0 call.code rest in
      let standing : body_of (slice_get p.unit.funcs (func_in d.frames)) ≡ Some call.code = ap (λ (f : ℕ). body_of (slice_get p.unit.funcs f)) (ap func_in i.frames) ∙ ap body_of active.func ∙ active.body in
      let goes = lands_well l n left.objects ks vs d o left.base left.have a i (label_found p.unit l 0 call.code rest (among_at (labels_of call.code) l t.1.0.0 t.1.0.1 t.1.0.2)) (names p.unit (ToLabel l) (context_of call.func call.code) 0 call.code rest active.typed.typed) (λ e. landing l e ks left.base) in
      subst (λ (x : Option Left). IsGoodFrom (inside call) p c (jumped p.unit l n vs d x)) (sym left.is)
      (subst (λ (b : Option Stmt). IsGoodFrom (inside call) p c (landed p.unit n vs d around (label_in p.unit l rest b))) (sym standing) goes)

pub jumps_well : (p : ProgramTy) → JumpsWell p
jumps_well p c call at l n k ks vs d t i a =
    let g = jump_lands p c call at.active l n k ks vs d t a i in
    well_from p c g.0 call (perform p (Jump l n) k vs d) at g.1 g.2
