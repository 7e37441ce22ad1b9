-- A step of the work of an expression goes on, or is undefined by a numbered action.
use Rattle.std.proofs.Common.{ℕ, suc, ◌+◌, pos, Bool, true, false, List, [], ◌∷◌, sym, ap, ◌∙◌, subst}
use Rattle.std.specs.Prelude.{IsTrue, Result, Ok, Err, ◌==◌, ◌&&◌, nat_lt, if◌then◌else◌}
use Rattle.c65_meaning.specs.Program.{ProgramTy}
use Rattle.c65_meaning.specs.declared.action.Action.TheVariants.{PartialOverlap}
use Rattle.c65_meaning.specs.Why.{Why, By, Unfit, ◌>>=◌}
use Rattle.c65_meaning.specs.Integers.{truth}
use Rattle.c65_meaning.specs.Store.{Store, Value, Whole, Null, Place, Opaque, Cells, NoValue, Shape, write, carry, nth_cell, put_cell}
use Rattle.c65_meaning.specs.Operators.{truth_of, named_by, moved, converted, binary, unary, bumped, is_post}
use Rattle.c65_meaning.specs.Shapes.{object_in, lives_in_frame, object_block}
use Rattle.c65_meaning.specs.Items.{Item, Push, Name, Follow, Move, Fetch, Keep, Change, Apply1, Apply2, Both, Either, Truth, Choose, Drop, Put, Peek, Bump, PutUnder, Carry, Gather, Lay, Reach, Invoke, Busy, Skip, Init, CarryInto, Wipe, Begin, End, Branch, Test, Pass, Enter, Next, Back, Check, Redo, Select, EndSwitch, Jump, LeaveLoop, GoOn, Give, GiveNothing, Leave, plan}
use Rattle.c65_meaning.specs.State.{Frame, Scene, State, Running, with_store, block_in, rest_in}
use Rattle.c65_meaning.specs.Step.{one, two, go_on, with_scene, decided, stored, place_in, object_place, loaded, put, assigned, partly_overlap, carried, carried_byte, carry_step, copy_step, gathered_at, laid, lay_on, lay_step, end_of, rest_place, at_offset, place_in_object, under, perform}
use Rattle.c65_meaning_law.proofs.Stacks.{Kind, arithmetic, pointing, naming, carrying, kind_in, kind_of, Below, IsScalarShape, joined, turned_kind, with_kind, Sound, Gives, Stands, Suits, AreSuited, StoreFits, Setting, D, Does, Takes, Out, IsScene, IsGood}
use Rattle.c65_meaning_law.proofs.Values.{if_sound, bind_sound, IsEither, stands, raise, place_points, truth_sound, named_sound, place_moved, converted_sound, becomes_sound, binary_sound, unary_sound, bumped_sound}
use Rattle.c65_meaning_law.proofs.Stores.{read_sound, write_sound, carry_sound, packed_sound, put_sound as cell_sound}
use Rattle.c65_meaning_law.proofs.Plans.{below_refl, simple, takes}
use Rattle.c65_meaning_law.specs.Laws.{HasBlock, HasRest}

abbrev pub is_of_expression : Item → Bool
is_of_expression (Push v) = true
is_of_expression (Name i) = true
is_of_expression Follow = true
is_of_expression (Move o) = true
is_of_expression (Fetch f) = true
is_of_expression Keep = true
is_of_expression (Change to) = true
is_of_expression (Apply1 op f) = true
is_of_expression (Apply2 op f g) = true
is_of_expression (Both e) = true
is_of_expression (Either e) = true
is_of_expression Truth = true
is_of_expression (Choose e f) = true
is_of_expression Drop = true
is_of_expression (Put f) = true
is_of_expression (Peek f to) = true
is_of_expression (Bump kind f) = true
is_of_expression (PutUnder f) = true
is_of_expression (Carry done size) = true
is_of_expression (Gather size) = true
is_of_expression (Lay i done size) = true
is_of_expression Reach = true
is_of_expression _ = false

module _ (m : Setting) (p : ProgramTy) (c : Scene) where
  abbrev pub E : ℕ → Type 0
  E b = D p.unit c b

  abbrev pub Here : Scene → Type 0
  Here d = IsScene p.unit c d

  abbrev pub Good : State → Type 0
  Good s = IsGood m p.unit c s

  abbrev pub Works : List Item → List Kind → Type 0
  Works k ks = Takes m p.unit c k ks

  pub good_if : (t : Bool) (a b : State) → Good a → Good b → Good (if t then a else b)
  good_if true a b h g = h
  good_if false a b h g = g

  pub runs : (k : List Item) (ks : List Kind) (vs : List Value) (d : Scene) → Works k ks → AreSuited E ks vs → Here d → Good (Running k vs d)
  runs k ks vs d t a i = record { kinds = ks; takes = t; suited = a; scene = i }

  pub runs_with : (y : Kind) (v : Value) (k : List Item) (ks : List Kind) (vs : List Value) (d : Scene) → Suits E y v → Gives y (Takes m p.unit c k) ks → AreSuited E ks vs → Here d → Good (Running k (v ∷ vs) d)
  runs_with y v k ks vs d s g a i = runs k (g.0 ∷ ks) (v ∷ vs) d g.2 (raise E y g.0 v g.1 s, a) i

  goes : (y : Kind) (r : Result Value Why) (k : List Item) (ks : List Kind) (vs : List Value) (d : Scene) → Sound (Suits E y) r → Gives y (Takes m p.unit c k) ks → AreSuited E ks vs → Here d → Good (go_on r k vs d)
  goes y (Ok v) k ks vs d s g a i = runs_with y v k ks vs d s g a i
  goes y (Err (By action)) k ks vs d s g a i = tt
  goes y (Err Unfit) k ks vs d s g a i = absurd s

  pub with_one : (x : Kind) (ks : List Kind) (vs : List Value) (f : Value → List Value → State) → AreSuited E (x ∷ ks) vs → ((v : Value) (r : List Value) → Suits E x v → AreSuited E ks r → Good (f v r)) → Good (one vs f)
  with_one x ks [] f a g = absurd a
  with_one x ks (v ∷ vs) f a g = g v vs a.0 a.1

  with_two : (y x : Kind) (ks : List Kind) (vs : List Value) (f : Value → Value → List Value → State) → AreSuited E (y ∷ x ∷ ks) vs → ((w v : Value) (r : List Value) → Suits E y w → Suits E x v → AreSuited E ks r → Good (f w v r)) → Good (two vs f)
  with_two y x ks [] f a g = absurd a
  with_two y x ks (w ∷ []) f a g = absurd a.1
  with_two y x ks (w ∷ v ∷ vs) f a g = g w v vs a.0 a.1.0 a.1.1

  pub decides : (r : Result Bool Why) (a b : State) → Sound IsEither r → Good a → Good b → Good (decided r a b)
  decides (Ok true) a b s h g = h
  decides (Ok false) a b s h g = g
  decides (Err (By action)) a b s h g = tt
  decides (Err Unfit) a b s h g = absurd s

  with_new : (d : Scene) (s : Store) → Here d → StoreFits E s → Here (with_store d s)
  with_new d s i h = record { frames = i.frames; store = h }

  pub stored_sound : (d : Scene) (r : Result Store Why) → Here d → Sound (StoreFits E) r → Sound Here (stored d r)
  stored_sound d r i h = bind_sound (StoreFits E) Here r (λ t. Ok (with_store d t)) h (λ t g. with_new d t i g)

  -- ---- loads and stores

  loaded_sound : (f : Shape) (d : Scene) (v : Value) → IsScalarShape f → Here d → Suits E naming v → Sound (Suits E (kind_in f)) (loaded f d v)
  loaded_sound f d (Place b o) j i s = read_sound E f d.store b o j i.store s
  loaded_sound f d (Whole z) j i s = absurd s
  loaded_sound f d Null j i s = absurd s
  loaded_sound f d (Cells xs) j i s = absurd s
  loaded_sound f d Opaque j i s = absurd s
  loaded_sound f d NoValue j i s = absurd s

  pub put_in : (first : Bool) (f : Shape) (d : Scene) (b o : ℕ) (v : Value) → Here d → E b → Stands E v → Sound Here (put first f d (Place b o) v)
  put_in first f d b o NoValue i s h = tt
  put_in first f d b o (Whole z) i s h = stored_sound d (write first f d.store b o (Whole z)) i (write_sound E first f d.store b o (Whole z) i.store s h)
  put_in first f d b o Null i s h = stored_sound d (write first f d.store b o Null) i (write_sound E first f d.store b o Null i.store s h)
  put_in first f d b o (Place e q) i s h = stored_sound d (write first f d.store b o (Place e q)) i (write_sound E first f d.store b o (Place e q) i.store s h)
  put_in first f d b o Opaque i s h = stored_sound d (write first f d.store b o Opaque) i (write_sound E first f d.store b o Opaque i.store s h)
  put_in first f d b o (Cells xs) i s h = stored_sound d (write first f d.store b o (Cells xs)) i (write_sound E first f d.store b o (Cells xs) i.store s h)

  pub put_sound : (first : Bool) (f : Shape) (d : Scene) (x : Kind) (at v : Value) → Here d → Suits E naming at → Suits E x v → Sound Here (put first f d at v)
  put_sound first f d x (Place b o) v i s h = put_in first f d b o v i s (stands E x v h)
  put_sound first f d x (Whole z) v i s h = absurd s
  put_sound first f d x Null v i s h = absurd s
  put_sound first f d x (Cells xs) v i s h = absurd s
  put_sound first f d x Opaque v i s h = absurd s
  put_sound first f d x NoValue v i s h = absurd s

  assigns : (f : Shape) (at : Value) (k : List Item) (ks : List Kind) (vs : List Value) (r : Result Scene Why) → IsScalarShape f → Suits E naming at → Gives (kind_in f) (Takes m p.unit c k) ks → AreSuited E ks vs → Sound Here r → Good (assigned f at k vs r)
  assigns f at k ks vs (Ok d) j s g a i = goes (kind_in f) (loaded f d at) k ks vs d (loaded_sound f d at j i s) g a i
  assigns f at k ks vs (Err (By action)) j s g a i = tt
  assigns f at k ks vs (Err Unfit) j s g a i = absurd i

  pub goes_in : (r : Result Scene Why) (k : List Item) (ks : List Kind) (vs : List Value) → Works k ks → AreSuited E ks vs → Sound Here r → Good (with_scene r k vs)
  goes_in (Ok d) k ks vs t a i = runs k ks vs d t a i
  goes_in (Err (By action)) k ks vs t a i = tt
  goes_in (Err Unfit) k ks vs t a i = absurd i

  under_suits : (t : Bool) (y x : Kind) (v : Value) (ks : List Kind) (vs : List Value) → Below y x → Suits E y v → AreSuited E ks vs → AreSuited E (with_kind t x ks) (under t v vs)
  under_suits true y x v ks vs b s a = (raise E y x v b s, a)
  under_suits false y x v ks vs b s a = a

  -- ---- structures and unions

  carried_sound : (first : Bool) (done : ℕ) (d : Scene) (from to : Value) → Here d → Suits E naming from → Suits E naming to → Sound Here (carried first done d from to)
  carried_sound first done d (Place b o) (Place e q) i s h = stored_sound d (carry first d.store b (o + done) e (q + done)) i (carry_sound E first d.store b (o + done) e (q + done) i.store s h)
  carried_sound first done d (Place b o) (Whole z) i s h = absurd h
  carried_sound first done d (Place b o) Null i s h = absurd h
  carried_sound first done d (Place b o) (Cells xs) i s h = absurd h
  carried_sound first done d (Place b o) Opaque i s h = absurd h
  carried_sound first done d (Place b o) NoValue i s h = absurd h
  carried_sound first done d (Whole z) to i s h = absurd s
  carried_sound first done d Null to i s h = absurd s
  carried_sound first done d (Cells xs) to i s h = absurd s
  carried_sound first done d Opaque to i s h = absurd s
  carried_sound first done d NoValue to i s h = absurd s

  pub byte_sound : (first : Bool) (done size : ℕ) (d : Scene) (from to : Value) → Here d → Suits E naming from → Suits E naming to → Sound Here (carried_byte first done size d from to)
  byte_sound first done size d from to i s h = if_sound Here (done == 0 && partly_overlap size from to) (Err (By PartialOverlap)) (carried first done d from to) tt (carried_sound first done d from to i s h)

  carries : (done size : ℕ) (from to : Value) (k : List Item) (ks : List Kind) (vs : List Value) (r : Result Scene Why) → Suits E naming from → Suits E naming to → Gives naming (Takes m p.unit c k) ks → AreSuited E ks vs → Sound Here r → Good (carry_step done size from to k vs r)
  carries done size from to k ks vs (Ok d) s h g a i = good_if (nat_lt (suc done) size) (Running (Carry (suc done) size ∷ k) (from ∷ to ∷ vs) d) (Running k (to ∷ vs) d) (runs (Carry (suc done) size ∷ k) (naming ∷ naming ∷ ks) (from ∷ to ∷ vs) d g (s, (h, a)) i) (runs_with naming to k ks vs d h g a i)
  carries done size from to k ks vs (Err (By action)) s h g a i = tt
  carries done size from to k ks vs (Err Unfit) s h g a i = absurd i

  copies : (done size : ℕ) (from to : Value) (k : List Item) (ks : List Kind) (vs : List Value) (d : Scene) → Suits E naming from → Suits E naming to → Gives naming (Takes m p.unit c k) ks → AreSuited E ks vs → Here d → Good (copy_step done size from to k vs d)
  copies done size from to k ks vs d s h g a i = good_if (nat_lt done size) (carry_step done size from to k vs (carried_byte false done size d from to)) (Running k (to ∷ vs) d) (carries done size from to k ks vs (carried_byte false done size d from to) s h g a (byte_sound false done size d from to i s h)) (runs_with naming to k ks vs d h g a i)

  -- ---- structures and unions that are passed and returned

  gather_sound : (size : ℕ) (d : Scene) (v : Value) → Here d → Suits E naming v → Sound (Suits E carrying) (gathered_at size d v)
  gather_sound size d (Place b o) i s = packed_sound E size d.store b o i.store s
  gather_sound size d (Whole z) i s = absurd s
  gather_sound size d Null i s = absurd s
  gather_sound size d Opaque i s = absurd s
  gather_sound size d (Cells xs) i s = absurd s
  gather_sound size d NoValue i s = absurd s

  laid_sound : (done : ℕ) (d : Scene) (at v : Value) → Here d → Suits E naming at → Suits E carrying v → Sound Here (laid done d at v)
  laid_sound done d (Place b o) (Cells xs) i s h = stored_sound d (put_cell true d.store b (o + done) (nth_cell xs done)) i (cell_sound E true d.store b (o + done) (nth_cell xs done) i.store s (h done))
  laid_sound done d (Place b o) NoValue i s h = tt
  laid_sound done d (Place b o) (Whole z) i s h = absurd h
  laid_sound done d (Place b o) Null i s h = absurd h
  laid_sound done d (Place b o) (Place e q) i s h = absurd h
  laid_sound done d (Place b o) Opaque i s h = absurd h
  laid_sound done d (Whole z) v i s h = absurd s
  laid_sound done d Null v i s h = absurd s
  laid_sound done d Opaque v i s h = absurd s
  laid_sound done d (Cells xs) v i s h = absurd s
  laid_sound done d NoValue v i s h = absurd s

  lays_on : (j done size : ℕ) (v at : Value) (k : List Item) (ks : List Kind) (vs : List Value) (r : Result Scene Why) → HasBlock p.unit c j → Suits E carrying v → Suits E naming at → Gives naming (Takes m p.unit c k) ks → AreSuited E ks vs → Sound Here r → Good (lay_on j done size v at k vs r)
  lays_on j done size v at k ks vs (Ok d) h s n g a i = good_if (nat_lt (suc done) size) (Running (Lay j (suc done) size ∷ k) (v ∷ vs) d) (Running k (at ∷ vs) d) (runs (Lay j (suc done) size ∷ k) (carrying ∷ ks) (v ∷ vs) d (h, g) (s, a) i) (runs_with naming at k ks vs d n g a i)
  lays_on j done size v at k ks vs (Err (By action)) h s n g a i = tt
  lays_on j done size v at k ks vs (Err Unfit) h s n g a i = absurd i

  lays : (j done size : ℕ) (v at : Value) (k : List Item) (ks : List Kind) (vs : List Value) (d : Scene) → HasBlock p.unit c j → Suits E carrying v → Suits E naming at → Gives naming (Takes m p.unit c k) ks → AreSuited E ks vs → Here d → Good (lay_step j done size v at k vs d)
  lays j done size v at k ks vs d h s n g a i = good_if (nat_lt done size) (lay_on j done size v at k vs (laid done d at v)) (Running k (at ∷ vs) d) (lays_on j done size v at k ks vs (laid done d at v) h s n g a (laid_sound done d at v i n s)) (runs_with naming at k ks vs d n g a i)

  -- ---- one item

  abbrev named_in : ℕ → List Frame → Result Value Why
  named_in n fs = if lives_in_frame (object_in p.unit n) then place_in (block_in fs n) else Ok (Place (object_block p.unit n) 0)

  pub place_suits : (i o : ℕ) (d : Scene) → HasBlock p.unit c i → Here d → Suits E naming (place_in_object p.unit i o d)
  place_suits i o d h g = subst (λ (r : Result Value Why). Suits E naming (at_offset o r)) (sym (ap (named_in i) g.frames ∙ h.1)) h.2

  rest_sound : (d : Scene) → HasRest c → Here d → Sound (Suits E pointing) (rest_place d)
  rest_sound d h i = subst (λ (r : Result Value Why). Sound (Suits E pointing) r) (sym (ap (λ (fs : List Frame). end_of d.store (rest_in fs)) i.frames ∙ ap (end_of d.store) h.1)) h.2

  pub performs : (j : Item) (k : List Item) (ks : List Kind) (vs : List Value) (d : Scene) → IsTrue (is_of_expression j) → Does m p.unit c j k (Takes m p.unit c k) (Out m p.unit c k) ks → AreSuited E ks vs → Here d → Good (perform p j k vs d)
  performs (Push v) k ks vs d n t a i = runs k (t.0 ∷ ks) (v ∷ vs) d t.2 (t.1, a) i
  performs (Name q) k ks vs d n t a i = goes naming (object_place p.unit q d) k ks vs d (subst (λ (r : Result Value Why). Sound (Suits E naming) r) (sym (ap (named_in q) i.frames ∙ t.0.1)) t.0.2) t.1 a i
  performs Follow k (pointing ∷ ks) vs d n t a i = with_one pointing ks vs _ a (λ v r s b. goes naming (named_by d.store v) k ks r d (named_sound E d.store v s) t b i)
  performs (Move o) k (naming ∷ ks) vs d n t a i = with_one naming ks vs _ a (λ v r s b. goes naming (moved d.store v (pos o)) k ks r d (place_moved E d.store v (pos o) s) t b i)
  performs (Fetch f) k (naming ∷ ks) vs d n t a i = with_one naming ks vs _ a (λ v r s b. goes (kind_in f) (loaded f d v) k ks r d (loaded_sound f d v t.0 i s) t.1 b i)
  performs Keep k (naming ∷ ks) vs d n t a i = with_one naming ks vs _ a (λ v r s b. runs_with pointing v k ks r d (place_points E v s) t b i)
  performs (Change to) k (x ∷ ks) vs d n t a i = with_one x ks vs _ a (λ v r s b. goes (kind_in to) (converted to v) k ks r d (converted_sound E to x v t.0 t.2 s) t.1 b i)
  performs (Apply1 op f) k (x ∷ ks) vs d n t a i = with_one x ks vs _ a (λ v r s b. goes (turned_kind op f) (unary d.store op f v) k ks r d (unary_sound E d.store op f x v t.0 s) t.1 b i)
  performs (Apply2 op f g) k (y ∷ x ∷ ks) vs d n t a i = with_two y x ks vs _ a (λ w v r s h b. goes (joined op f g) (binary d.store op f g v w) k ks r d (binary_sound E d.store op f g v w t.0 (subst (λ (z : Kind). Suits E z v) t.2 h) (subst (λ (z : Kind). Suits E z w) t.1 s)) t.3 b i)
  performs (Both e) k (x ∷ ks) vs d n t a i = with_one x ks vs _ a (λ v r s b. decides (truth_of d.store v) (Running (plan p.unit e (Truth ∷ k)) r d) (Running k (Whole (pos 0) ∷ r) d) (truth_sound E d.store x v t.2 s)
      (runs (plan p.unit e (Truth ∷ k)) ks r d (takes m p.unit c e (kind_of e) (Truth ∷ k) ks t.0.typed t.0.there (below_refl (kind_of e)) (t.1, simple e)) b i)
      (runs_with (arithmetic true) (Whole (pos 0)) k ks r d tt t.1 b i))
  performs (Either e) k (x ∷ ks) vs d n t a i = with_one x ks vs _ a (λ v r s b. decides (truth_of d.store v) (Running k (Whole (pos 1) ∷ r) d) (Running (plan p.unit e (Truth ∷ k)) r d) (truth_sound E d.store x v t.2 s)
      (runs_with (arithmetic true) (Whole (pos 1)) k ks r d tt t.1 b i)
      (runs (plan p.unit e (Truth ∷ k)) ks r d (takes m p.unit c e (kind_of e) (Truth ∷ k) ks t.0.typed t.0.there (below_refl (kind_of e)) (t.1, simple e)) b i))
  performs Truth k (x ∷ ks) vs d n t a i = with_one x ks vs _ a (λ v r s b. goes (arithmetic true) (truth_of d.store v >>= λ q. Ok (Whole (truth q))) k ks r d (bind_sound IsEither (Suits E (arithmetic true)) (truth_of d.store v) (λ q. Ok (Whole (truth q))) (truth_sound E d.store x v t.1 s) (λ q h. tt)) t.0 b i)
  performs (Choose e f) k (x ∷ ks) vs d n t a i = with_one x ks vs _ a (λ v r s b. decides (truth_of d.store v) (Running (plan p.unit e k) r d) (Running (plan p.unit f k) r d) (truth_sound E d.store x v t.4 s)
      (runs (plan p.unit e k) ks r d (takes m p.unit c e t.0 k ks t.1.0.typed t.1.0.there t.1.1 t.3) b i)
      (runs (plan p.unit f k) ks r d (takes m p.unit c f t.0 k ks t.2.0.typed t.2.0.there t.2.1 t.3) b i))
  performs Drop k (x ∷ ks) vs d n t a i = with_one x ks vs _ a (λ v r s b. runs k ks r d t b i)
  performs (Put f) k (y ∷ naming ∷ ks) vs d n t a i = with_two y naming ks vs _ a (λ v at r s h b. assigns f at k ks r (put false f d at v) t.0 h t.1 b (put_sound false f d y at v i h s))
  performs (Peek f to) k (naming ∷ ks) vs d n t a i = with_one naming ks vs _ a (λ at r s b. goes (kind_in to) (loaded f d at >>= converted to) k (naming ∷ ks) (at ∷ r) d (bind_sound (Suits E (kind_in f)) (Suits E (kind_in to)) (loaded f d at) (converted to) (loaded_sound f d at t.0 i s) (λ v h. becomes_sound E f to v t.1 h)) (kind_in to, below_refl (kind_in to), t.2) (s, b) i)
  performs (Bump kind f) k (y ∷ naming ∷ ks) vs d n t a i = with_two y naming ks vs _ a (λ v at r s h b. let suited = subst (λ (z : Kind). Suits E z v) t.1 s in goes (kind_in f) (bumped d.store kind f v) k (naming ∷ with_kind (is_post kind) t.2 ks) (at ∷ under (is_post kind) v r) d (bumped_sound E d.store kind f v t.0 suited) (kind_in f, below_refl (kind_in f), t.4) (h, under_suits (is_post kind) (kind_in f) t.2 v ks r t.3 suited b) i)
  performs (PutUnder f) k (y ∷ naming ∷ ks) vs d n t a i = with_two y naming ks vs _ a (λ v at r s h b. goes_in (put false f d at v) k ks r t b (put_sound false f d y at v i h s))
  performs (Carry done size) k (naming ∷ naming ∷ ks) vs d n t a i = with_two naming naming ks vs _ a (λ from to r s h b. copies done size from to k ks r d s h t b i)
  performs (Gather size) k (naming ∷ ks) vs d n t a i = with_one naming ks vs _ a (λ v r s b. goes carrying (gathered_at size d v) k ks r d (gather_sound size d v i s) t b i)
  performs (Lay j done size) k (carrying ∷ ks) vs d n t a i = with_one carrying ks vs _ a (λ v r s b. lays j done size v (place_in_object p.unit j 0 d) k ks r d t.0 s (place_suits j 0 d t.0 i) t.1 b i)
  performs Reach k ks vs d n t a i = goes pointing (rest_place d) k ks vs d (rest_sound d t.0 i) t.1 a i
  performs (Invoke callee types) k ks vs d n t a i = absurd (cc)
  performs (Busy left f args rest) k ks vs d n t a i = absurd (cc)
  performs Skip k ks vs d n t a i = absurd (cc)
  performs (Init j o f) k ks vs d n t a i = absurd (cc)
  performs (CarryInto j o done size) k ks vs d n t a i = absurd (cc)
  performs (Wipe j done size) k ks vs d n t a i = absurd (cc)
  performs (Begin at objects body) k ks vs d n t a i = absurd (cc)
  performs (End objects) k ks vs d n t a i = absurd (cc)
  performs (Branch at e q f) k ks vs d n t a i = absurd (cc)
  performs (Test l) k ks vs d n t a i = absurd (cc)
  performs (Pass l) k ks vs d n t a i = absurd (cc)
  performs (Enter l) k ks vs d n t a i = absurd (cc)
  performs (Next l) k ks vs d n t a i = absurd (cc)
  performs (Back l) k ks vs d n t a i = absurd (cc)
  performs (Check l) k ks vs d n t a i = absurd (cc)
  performs (Redo l) k ks vs d n t a i = absurd (cc)
  performs (Select left at body) k ks vs d n t a i = absurd (cc)
  performs EndSwitch k ks vs d n t a i = absurd (cc)
  performs (Jump l at) k ks vs d n t a i = absurd (cc)
  performs LeaveLoop k ks vs d n t a i = absurd (cc)
  performs GoOn k ks vs d n t a i = absurd (cc)
  performs Give k ks vs d n t a i = absurd (cc)
  performs GiveNothing k ks vs d n t a i = absurd (cc)
  performs Leave k ks vs d n t a i = absurd (cc)
  performs _ k ks vs d n t a i = absurd t.1
