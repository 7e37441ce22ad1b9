-- States of a run beside those of the folded program's: the same but for pending work, and for active calls that cost less.
use Rattle.std.proofs.Common.{◌≡◌, ℕ, suc, ◌+◌, ◌≤◌, List, [], ◌∷◌, length, Option, Some, None, Bool, true, false, if◌then◌else◌, refl, sym, ap, ◌∙◌, subst, arith}
use Rattle.std.specs.Prelude.{⊤, Result, Ok, Err, nat_lt, not, ◌||◌, ◌&&◌, ◌==◌}
use Rattle.std.proofs.lemmas.Bool.Decides.{nat_tests}
use Rattle.c65_csem.specs.Trees.{UnitTy}
use Rattle.c65_meaning.specs.Why.{Why, ◌>>=◌}
use Rattle.c65_meaning.specs.Store.{Store, Value, Whole, Null, Place, Opaque, Cells, NoValue, Shape, write, carry, put_cell, nth_cell, byte}
use Rattle.c65_meaning.specs.Shapes.{object_in, lives_in_frame, object_block}
use Rattle.c65_meaning.specs.Items.{Item, Carry, Lay, CarryInto, Wipe}
use Rattle.c65_meaning.specs.State.{Frame, Scene, State, Undefined, Deep, Ended, Running, turned, soft_sum, hard_sum, block_in, name_object, rest_in, name_rest}
use Rattle.c65_meaning.specs.Step.{one, two, go_on, with_scene, decided, stored, place_in, object_place, begin_object, begin_objects, end_named, end_objects, loaded, put, assigned, partly_overlap, carried, carried_byte, carry_step, copy_step, carry_into_step, set_area_step, at_offset, cleared, wipe_step, clear_step, gathered_at, laid, lay_on, lay_step, end_of, rest_place, is_deep, unless_deep, func_in, frames_below, place_in_object, has_turn}
use Rattle.c65_fold_law.specs.Laws.{Cheaper}
use Rattle.c65_fold_law.specs.Programs.{folded_unit}
use Rattle.c65_fold_law.proofs.Kept.{funcs_same}
use Rattle.c65_fold_law.proofs.Marks.{Works, item}

-- ---- active calls

abbrev pub framed : List Frame → Scene → Scene
framed gs c = record c { frames = gs }

block_same : (fs gs : List Frame) (i : ℕ) → Cheaper fs gs → block_in gs i ≡ block_in fs i
block_same [] [] i h = refl
block_same [] (g ∷ gs) i h = absurd h
block_same (f ∷ fs) [] i h = absurd h
block_same (f ∷ fs) (g ∷ gs) i h = ap (λ (o : ℕ → Option ℕ). o i) h.0.object

pub func_in_same : (fs gs : List Frame) → Cheaper fs gs → func_in gs ≡ func_in fs
func_in_same [] [] h = refl
func_in_same [] (g ∷ gs) h = absurd h
func_in_same (f ∷ fs) [] h = absurd h
func_in_same (f ∷ fs) (g ∷ gs) h = h.0.func

pub below_cheaper : (fs gs : List Frame) → Cheaper fs gs → Cheaper (frames_below fs) (frames_below gs)
below_cheaper [] [] h = tt
below_cheaper [] (g ∷ gs) h = absurd h
below_cheaper (f ∷ fs) [] h = absurd h
below_cheaper (f ∷ fs) (g ∷ gs) h = h.1

pub name_cheaper : (fs gs : List Frame) (i b : ℕ) → Cheaper fs gs → Cheaper (name_object fs i b) (name_object gs i b)
name_cheaper [] [] i b h = tt
name_cheaper [] (g ∷ gs) i b h = absurd h
name_cheaper (f ∷ fs) [] i b h = absurd h
name_cheaper (f ∷ fs) (g ∷ gs) i b h = (record { func = h.0.func; object = ap (λ (o : ℕ → Option ℕ). λ (j : ℕ). if j == i then Some b else o j) h.0.object; cost = h.0.cost; rest = h.0.rest }, h.1)

pub rest_same : (fs gs : List Frame) → Cheaper fs gs → rest_in gs ≡ rest_in fs
rest_same [] [] h = refl
rest_same [] (g ∷ gs) h = absurd h
rest_same (f ∷ fs) [] h = absurd h
rest_same (f ∷ fs) (g ∷ gs) h = h.0.rest

pub rest_cheaper : (fs gs : List Frame) (b : ℕ) → Cheaper fs gs → Cheaper (name_rest fs b) (name_rest gs b)
rest_cheaper [] [] b h = tt
rest_cheaper [] (g ∷ gs) b h = absurd h
rest_cheaper (f ∷ fs) [] b h = absurd h
rest_cheaper (f ∷ fs) (g ∷ gs) b h = (record { func = h.0.func; object = h.0.object; cost = h.0.cost; rest = refl }, h.1)

soft_less : (fs gs : List Frame) → Cheaper fs gs → soft_sum gs ≤ soft_sum fs
soft_less [] [] h = omega arith
soft_less [] (g ∷ gs) h = absurd h
soft_less (f ∷ fs) [] h = absurd h
soft_less (f ∷ fs) (g ∷ gs) h = let rest : soft_sum gs ≤ soft_sum fs = soft_less fs gs h.1 in let first : g.cost ≤ f.cost = h.0.cost in omega arith

hard_same : (fs gs : List Frame) → Cheaper fs gs → hard_sum gs ≡ hard_sum fs
hard_same [] [] h = refl
hard_same [] (g ∷ gs) h = absurd h
hard_same (f ∷ fs) [] h = absurd h
hard_same (f ∷ fs) (g ∷ gs) h = ap (λ (n : ℕ). 2 + n) (hard_same fs gs h.1)

room_stays : (s t : ℕ) (b : Bool) → t ≤ s → (nat_lt 1984 s || b) ≡ false → (nat_lt 1984 t || b) ≡ false
room_stays s t b h e = grind (arith, nat_tests)

-- what is not too deep is not too deep where calls cost less
still_shallow : (fs gs : List Frame) → Cheaper fs gs → is_deep fs ≡ false → is_deep gs ≡ false
still_shallow fs gs h e = room_stays (soft_sum fs) (soft_sum gs) (nat_lt 224 (hard_sum gs)) (soft_less fs gs h) (ap (λ (n : ℕ). nat_lt 1984 (soft_sum fs) || nat_lt 224 n) (hard_same fs gs h) ∙ e)

still_free : (free : Bool) (fs gs : List Frame) → Cheaper fs gs → (not free && is_deep fs) ≡ false → (not free && is_deep gs) ≡ false
still_free true fs gs h e = refl
still_free false fs gs h e = still_shallow fs gs h e

module _ (u : UnitTy) where
  -- ---- states

  pub record Beside (work : List Item) (values : List Value) (c : Scene) (s : State) : Type 0 where
    pub other : List Item
    pub frames : List Frame
    pub works : Works u work other
    pub cheaper : Cheaper c.frames frames
    pub is : s ≡ Running other values (framed frames c)

  -- of a state that is undefined or too deep nothing is said
  abbrev pub Sim : State → State → Type 0
  Sim (Undefined why) s = ⊤
  Sim Deep s = ⊤
  Sim (Ended out status turns) s = s ≡ Ended out status turns
  Sim (Running work values c) s = Beside work values c s

  pub runs : (k l : List Item) (vs : List Value) (c : Scene) (gs : List Frame) → Works u k l → Cheaper c.frames gs → Sim (Running k vs c) (Running l vs (framed gs c))
  runs k l vs c gs w h = record { other = l; frames = gs; works = w; cheaper = h; is = refl }

  pub one_sim : (vs : List Value) (f g : Value → List Value → State) → ((v : Value) (r : List Value) → Sim (f v r) (g v r)) → Sim (one vs f) (one vs g)
  one_sim [] f g h = tt
  one_sim (v ∷ vs) f g h = h v vs

  pub two_sim : (vs : List Value) (f g : Value → Value → List Value → State) → ((y x : Value) (r : List Value) → Sim (f y x r) (g y x r)) → Sim (two vs f) (two vs g)
  two_sim [] f g h = tt
  two_sim (y ∷ []) f g h = tt
  two_sim (y ∷ x ∷ vs) f g h = h y x vs

  go_sim : (o : Result Value Why) (k l : List Item) (vs : List Value) (c : Scene) (gs : List Frame) → Works u k l → Cheaper c.frames gs → Sim (go_on o k vs c) (go_on o l vs (framed gs c))
  go_sim (Err why) k l vs c gs w h = tt
  go_sim (Ok v) k l vs c gs w h = runs k l (v ∷ vs) c gs w h

  pub go_on_sim : (o r : Result Value Why) (k l : List Item) (vs : List Value) (c : Scene) (gs : List Frame) → r ≡ o → Works u k l → Cheaper c.frames gs → Sim (go_on o k vs c) (go_on r l vs (framed gs c))
  go_on_sim o r k l vs c gs e w h = subst (λ (x : Result Value Why). Sim (go_on o k vs c) (go_on x l vs (framed gs c))) (sym e) (go_sim o k l vs c gs w h)

  pub if_sim : (t : Bool) (a b x y : State) → Sim a x → Sim b y → Sim (if t then a else b) (if t then x else y)
  if_sim true a b x y g h = g
  if_sim false a b x y g h = h

  pub decided_sim : (o : Result Bool Why) (a b x y : State) → Sim a x → Sim b y → Sim (decided o a b) (decided o x y)
  decided_sim (Err why) a b x y g h = tt
  decided_sim (Ok true) a b x y g h = g
  decided_sim (Ok false) a b x y g h = h

  -- ---- scenes that an action gives

  pub record SceneIs (d : Scene) (r : Result Scene Why) : Type 0 where
    pub frames : List Frame
    pub cheaper : Cheaper d.frames frames
    pub is : r ≡ Ok (framed frames d)

  abbrev pub SceneIf : Result Scene Why → Result Scene Why → Type 0
  SceneIf (Err why) r = ⊤
  SceneIf (Ok d) r = SceneIs d r

  pub with_scene_sim : (o r : Result Scene Why) (k l : List Item) (vs : List Value) → SceneIf o r → Works u k l → Sim (with_scene o k vs) (with_scene r l vs)
  with_scene_sim (Err why) r k l vs h w = tt
  with_scene_sim (Ok d) r k l vs h w = subst (λ (x : Result Scene Why). Sim (Running k vs d) (with_scene x l vs)) (sym h.is) (runs k l vs d h.frames w h.cheaper)

  pub bound_scene : (o r : Result Scene Why) (f g : Scene → Result Scene Why) → SceneIf o r → ((d : Scene) (gs : List Frame) → Cheaper d.frames gs → SceneIf (f d) (g (framed gs d))) → SceneIf (o >>= f) (r >>= g)
  bound_scene (Err why) r f g h n = tt
  bound_scene (Ok d) r f g h n = subst (λ (x : Result Scene Why). SceneIf (f d) (x >>= g)) (sym h.is) (n d h.frames h.cheaper)

  stored_scene : (o : Result Store Why) (c : Scene) (gs : List Frame) → Cheaper c.frames gs → SceneIf (stored c o) (stored (framed gs c) o)
  stored_scene (Err why) c gs h = tt
  stored_scene (Ok s) c gs h = record { frames = gs; cheaper = h; is = refl }

  -- ---- loads and stores

  pub loaded_same : (shape : Shape) (c : Scene) (gs : List Frame) (v : Value) → loaded shape (framed gs c) v ≡ loaded shape c v
  loaded_same shape c gs (Place b o) = refl
  loaded_same shape c gs (Whole z) = refl
  loaded_same shape c gs Null = refl
  loaded_same shape c gs Opaque = refl
  loaded_same shape c gs (Cells xs) = refl
  loaded_same shape c gs NoValue = refl

  pub put_scene : (first : Bool) (shape : Shape) (c : Scene) (gs : List Frame) (at v : Value) → Cheaper c.frames gs → SceneIf (put first shape c at v) (put first shape (framed gs c) at v)
  put_scene first shape c gs (Place b o) NoValue h = tt
  put_scene first shape c gs (Place b o) (Whole z) h = stored_scene (write first shape c.store b o (Whole z)) c gs h
  put_scene first shape c gs (Place b o) Null h = stored_scene (write first shape c.store b o Null) c gs h
  put_scene first shape c gs (Place b o) (Place d p) h = stored_scene (write first shape c.store b o (Place d p)) c gs h
  put_scene first shape c gs (Place b o) Opaque h = stored_scene (write first shape c.store b o Opaque) c gs h
  put_scene first shape c gs (Place b o) (Cells xs) h = stored_scene (write first shape c.store b o (Cells xs)) c gs h
  put_scene first shape c gs (Whole z) v h = tt
  put_scene first shape c gs Null v h = tt
  put_scene first shape c gs Opaque v h = tt
  put_scene first shape c gs (Cells xs) v h = tt
  put_scene first shape c gs NoValue v h = tt

  pub assigned_sim : (shape : Shape) (at : Value) (k l : List Item) (vs : List Value) (o r : Result Scene Why) → SceneIf o r → Works u k l → Sim (assigned shape at k vs o) (assigned shape at l vs r)
  assigned_sim shape at k l vs (Err why) r h w = tt
  assigned_sim shape at k l vs (Ok d) r h w = subst (λ (x : Result Scene Why). Sim (go_on (loaded shape d at) k vs d) (assigned shape at l vs x)) (sym h.is) (go_on_sim (loaded shape d at) (loaded shape (framed h.frames d) at) k l vs d h.frames (loaded_same shape d h.frames at) w h.cheaper)

  -- ---- structures and unions

  carried_scene : (first : Bool) (done : ℕ) (c : Scene) (gs : List Frame) (from to : Value) → Cheaper c.frames gs → SceneIf (carried first done c from to) (carried first done (framed gs c) from to)
  carried_scene first done c gs (Place b o) (Place d p) h = stored_scene (carry first c.store b (o + done) d (p + done)) c gs h
  carried_scene first done c gs (Place b o) (Whole z) h = tt
  carried_scene first done c gs (Place b o) Null h = tt
  carried_scene first done c gs (Place b o) Opaque h = tt
  carried_scene first done c gs (Place b o) (Cells xs) h = tt
  carried_scene first done c gs (Place b o) NoValue h = tt
  carried_scene first done c gs (Whole z) to h = tt
  carried_scene first done c gs Null to h = tt
  carried_scene first done c gs Opaque to h = tt
  carried_scene first done c gs (Cells xs) to h = tt
  carried_scene first done c gs NoValue to h = tt

  unless_scene : (t : Bool) (why : Why) (o r : Result Scene Why) → SceneIf o r → SceneIf (if t then Err why else o) (if t then Err why else r)
  unless_scene true why o r h = tt
  unless_scene false why o r h = h

  byte_scene : (first : Bool) (done size : ℕ) (c : Scene) (gs : List Frame) (from to : Value) → Cheaper c.frames gs → SceneIf (carried_byte first done size c from to) (carried_byte first done size (framed gs c) from to)
  byte_scene first done size c gs from to h = unless_scene (done == 0 && partly_overlap size from to) _ _ _ (carried_scene first done c gs from to h)

  carry_sim : (done size : ℕ) (from to : Value) (k l : List Item) (vs : List Value) (o r : Result Scene Why) → SceneIf o r → Works u k l → Sim (carry_step done size from to k vs o) (carry_step done size from to l vs r)
  carry_sim done size from to k l vs (Err why) r h w = tt
  carry_sim done size from to k l vs (Ok d) r h w = subst (λ (x : Result Scene Why). Sim (carry_step done size from to k vs (Ok d)) (carry_step done size from to l vs x)) (sym h.is) (if_sim (nat_lt (suc done) size) _ _ _ _ (runs _ _ (from ∷ to ∷ vs) d h.frames (item u (Carry (suc done) size) k l tt w) h.cheaper) (runs k l (to ∷ vs) d h.frames w h.cheaper))

  pub copy_sim : (done size : ℕ) (from to : Value) (k l : List Item) (vs : List Value) (c : Scene) (gs : List Frame) → Works u k l → Cheaper c.frames gs → Sim (copy_step done size from to k vs c) (copy_step done size from to l vs (framed gs c))
  copy_sim done size from to k l vs c gs w h = if_sim (nat_lt done size) _ _ _ _ (carry_sim done size from to k l vs _ _ (byte_scene false done size c gs from to h) w) (runs k l (to ∷ vs) c gs w h)

  carry_into_sim : (i o done size : ℕ) (from : Value) (k l : List Item) (vs : List Value) (x r : Result Scene Why) → SceneIf x r → Works u k l → Sim (carry_into_step i o done size from k vs x) (carry_into_step i o done size from l vs r)
  carry_into_sim i o done size from k l vs (Err why) r h w = tt
  carry_into_sim i o done size from k l vs (Ok d) r h w = subst (λ (x : Result Scene Why). Sim (carry_into_step i o done size from k vs (Ok d)) (carry_into_step i o done size from l vs x)) (sym h.is) (if_sim (nat_lt (suc done) size) _ _ _ _ (runs _ _ (from ∷ vs) d h.frames (item u (CarryInto i o (suc done) size) k l tt w) h.cheaper) (runs k l vs d h.frames w h.cheaper))

  set_area_same : (i o done size : ℕ) (from to : Value) (k l : List Item) (vs : List Value) (c : Scene) (gs : List Frame) → Works u k l → Cheaper c.frames gs → Sim (set_area_step i o done size from to k vs c) (set_area_step i o done size from to l vs (framed gs c))
  set_area_same i o done size from to k l vs c gs w h = if_sim (nat_lt done size) _ _ _ _ (carry_into_sim i o done size from k l vs _ _ (byte_scene true done size c gs from to h) w) (runs k l vs c gs w h)

  pub set_area_sim : (i o done size : ℕ) (from to at : Value) (k l : List Item) (vs : List Value) (c : Scene) (gs : List Frame) → at ≡ to → Works u k l → Cheaper c.frames gs → Sim (set_area_step i o done size from to k vs c) (set_area_step i o done size from at l vs (framed gs c))
  set_area_sim i o done size from to at k l vs c gs e w h = subst (λ (x : Value). Sim (set_area_step i o done size from to k vs c) (set_area_step i o done size from x l vs (framed gs c))) (sym e) (set_area_same i o done size from to k l vs c gs w h)

  cleared_scene : (c : Scene) (gs : List Frame) (done : ℕ) (at : Value) → Cheaper c.frames gs → SceneIf (cleared c done at) (cleared (framed gs c) done at)
  cleared_scene c gs done (Place b o) h = stored_scene (put_cell true c.store b (o + done) (byte 0)) c gs h
  cleared_scene c gs done (Whole z) h = tt
  cleared_scene c gs done Null h = tt
  cleared_scene c gs done Opaque h = tt
  cleared_scene c gs done (Cells xs) h = tt
  cleared_scene c gs done NoValue h = tt

  wipe_sim : (i done size : ℕ) (k l : List Item) (vs : List Value) (x r : Result Scene Why) → SceneIf x r → Works u k l → Sim (wipe_step i done size k vs x) (wipe_step i done size l vs r)
  wipe_sim i done size k l vs (Err why) r h w = tt
  wipe_sim i done size k l vs (Ok d) r h w = subst (λ (x : Result Scene Why). Sim (wipe_step i done size k vs (Ok d)) (wipe_step i done size l vs x)) (sym h.is) (if_sim (nat_lt (suc done) size) _ _ _ _ (runs _ _ vs d h.frames (item u (Wipe i (suc done) size) k l tt w) h.cheaper) (runs k l vs d h.frames w h.cheaper))

  clear_same : (i done size : ℕ) (at : Value) (k l : List Item) (vs : List Value) (c : Scene) (gs : List Frame) → Works u k l → Cheaper c.frames gs → Sim (clear_step i done size at k vs c) (clear_step i done size at l vs (framed gs c))
  clear_same i done size at k l vs c gs w h = if_sim (nat_lt done size) _ _ _ _ (wipe_sim i done size k l vs _ _ (cleared_scene c gs done at h) w) (runs k l vs c gs w h)

  pub clear_sim : (i done size : ℕ) (at to : Value) (k l : List Item) (vs : List Value) (c : Scene) (gs : List Frame) → to ≡ at → Works u k l → Cheaper c.frames gs → Sim (clear_step i done size at k vs c) (clear_step i done size to l vs (framed gs c))
  clear_sim i done size at to k l vs c gs e w h = subst (λ (x : Value). Sim (clear_step i done size at k vs c) (clear_step i done size x l vs (framed gs c))) (sym e) (clear_same i done size at k l vs c gs w h)

  -- ---- structures and unions that are passed and returned

  pub gathered_same : (size : ℕ) (c : Scene) (gs : List Frame) (v : Value) → gathered_at size (framed gs c) v ≡ gathered_at size c v
  gathered_same size c gs (Place b o) = refl
  gathered_same size c gs (Whole z) = refl
  gathered_same size c gs Null = refl
  gathered_same size c gs Opaque = refl
  gathered_same size c gs (Cells xs) = refl
  gathered_same size c gs NoValue = refl

  laid_scene : (done : ℕ) (c : Scene) (gs : List Frame) (at v : Value) → Cheaper c.frames gs → SceneIf (laid done c at v) (laid done (framed gs c) at v)
  laid_scene done c gs (Place b o) (Cells xs) h = stored_scene (put_cell true c.store b (o + done) (nth_cell xs done)) c gs h
  laid_scene done c gs (Place b o) (Whole z) h = tt
  laid_scene done c gs (Place b o) Null h = tt
  laid_scene done c gs (Place b o) (Place d p) h = tt
  laid_scene done c gs (Place b o) Opaque h = tt
  laid_scene done c gs (Place b o) NoValue h = tt
  laid_scene done c gs (Whole z) v h = tt
  laid_scene done c gs Null v h = tt
  laid_scene done c gs Opaque v h = tt
  laid_scene done c gs (Cells xs) v h = tt
  laid_scene done c gs NoValue v h = tt

  lay_on_sim : (i done size : ℕ) (v at : Value) (k l : List Item) (vs : List Value) (x r : Result Scene Why) → SceneIf x r → Works u k l → Sim (lay_on i done size v at k vs x) (lay_on i done size v at l vs r)
  lay_on_sim i done size v at k l vs (Err why) r h w = tt
  lay_on_sim i done size v at k l vs (Ok d) r h w = subst (λ (x : Result Scene Why). Sim (lay_on i done size v at k vs (Ok d)) (lay_on i done size v at l vs x)) (sym h.is) (if_sim (nat_lt (suc done) size) _ _ _ _ (runs _ _ (v ∷ vs) d h.frames (item u (Lay i (suc done) size) k l tt w) h.cheaper) (runs k l (at ∷ vs) d h.frames w h.cheaper))

  lay_same : (i done size : ℕ) (v at : Value) (k l : List Item) (vs : List Value) (c : Scene) (gs : List Frame) → Works u k l → Cheaper c.frames gs → Sim (lay_step i done size v at k vs c) (lay_step i done size v at l vs (framed gs c))
  lay_same i done size v at k l vs c gs w h = if_sim (nat_lt done size) _ _ _ _ (lay_on_sim i done size v at k l vs _ _ (laid_scene done c gs at v h) w) (runs k l (at ∷ vs) c gs w h)

  pub lay_sim : (i done size : ℕ) (v at to : Value) (k l : List Item) (vs : List Value) (c : Scene) (gs : List Frame) → to ≡ at → Works u k l → Cheaper c.frames gs → Sim (lay_step i done size v at k vs c) (lay_step i done size v to l vs (framed gs c))
  lay_sim i done size v at to k l vs c gs e w h = subst (λ (x : Value). Sim (lay_step i done size v at k vs c) (lay_step i done size v x l vs (framed gs c))) (sym e) (lay_same i done size v at k l vs c gs w h)

  pub rest_place_same : (c : Scene) (gs : List Frame) → Cheaper c.frames gs → rest_place (framed gs c) ≡ rest_place c
  rest_place_same c gs h = ap (end_of c.store) (rest_same c.frames gs h)

  -- ---- objects

  block_number : (i : ℕ) → object_block (folded_unit u) i ≡ object_block u i
  block_number i = ap (λ (n : ℕ). n + length u.literals + i) (funcs_same u.funcs)

  place_by : (t : Bool) (i : ℕ) (c : Scene) (gs : List Frame) → Cheaper c.frames gs → (if t then place_in (block_in gs i) else Ok (Place (object_block (folded_unit u) i) 0)) ≡ (if t then place_in (block_in c.frames i) else Ok (Place (object_block u i) 0))
  place_by true i c gs h = ap place_in (block_same c.frames gs i h)
  place_by false i c gs h = ap (λ (n : ℕ). Ok (Place n 0)) (block_number i)

  pub object_same : (i : ℕ) (c : Scene) (gs : List Frame) → Cheaper c.frames gs → object_place (folded_unit u) i (framed gs c) ≡ object_place u i c
  object_same i c gs h = place_by (lives_in_frame (object_in u i)) i c gs h

  pub place_in_same : (i o : ℕ) (c : Scene) (gs : List Frame) → Cheaper c.frames gs → place_in_object (folded_unit u) i o (framed gs c) ≡ place_in_object u i o c
  place_in_same i o c gs h = ap (at_offset o) (object_same i c gs h)

  -- ---- beginning and end of objects

  pub record Now (d e : Scene) : Type 0 where
    pub frames : List Frame
    pub cheaper : Cheaper d.frames frames
    pub is : e ≡ framed frames d

  pub begins : (objects : List ℕ) (c : Scene) (gs : List Frame) → Cheaper c.frames gs → Now (begin_objects u objects c) (begin_objects (folded_unit u) objects (framed gs c))
  begins [] c gs h = record { frames = gs; cheaper = h; is = refl }
  begins (i ∷ rest) c gs h = begins rest (begin_object u i c) (name_object gs i c.next) (name_cheaper c.frames gs i c.next h)

  end_one : (o : Option ℕ) (c : Scene) (gs : List Frame) → Cheaper c.frames gs → Now (end_named o c) (end_named o (framed gs c))
  end_one None c gs h = record { frames = gs; cheaper = h; is = refl }
  end_one (Some b) c gs h = record { frames = gs; cheaper = h; is = refl }

  pub end_at : (o : Option ℕ) (d e : Scene) → Now d e → Now (end_named o d) (end_named o e)
  end_at o d e n = subst (λ (x : Scene). Now (end_named o d) (end_named o x)) (sym n.is) (end_one o d n.frames n.cheaper)

  pub ends : (objects : List ℕ) (c : Scene) (gs : List Frame) → Cheaper c.frames gs → Now (end_objects objects c) (end_objects objects (framed gs c))
  ends [] c gs h = record { frames = gs; cheaper = h; is = refl }
  ends (i ∷ rest) c gs h =
      let n = end_one (block_in c.frames i) c gs h in
      subst (λ (o : Option ℕ). Now (end_objects (i ∷ rest) c) (end_objects rest (end_named o (framed gs c)))) (sym (block_same c.frames gs i h))
      (subst (λ (y : Scene). Now (end_objects (i ∷ rest) c) (end_objects rest y)) (sym n.is) (ends rest (end_named (block_in c.frames i) c) n.frames n.cheaper))

  -- a running state in such a scene
  pub goes : (k l : List Item) (vs : List Value) (d e : Scene) → Works u k l → Now d e → Sim (Running k vs d) (Running l vs e)
  goes k l vs d e w n = subst (λ (y : Scene). Sim (Running k vs d) (Running l vs y)) (sym n.is) (runs k l vs d n.frames w n.cheaper)

  pub turns : (t : Bool) (d e : Scene) → Now d e → Now (has_turn t d) (has_turn t e)
  turns true d e n = record { frames = n.frames; cheaper = n.cheaper; is = ap turned n.is }
  turns false d e n = n

  -- ---- depth

  deep_by : (k l : List Item) (vs : List Value) (d : Scene) (gs : List Frame) (b : Bool) → (not d.free && is_deep d.frames) ≡ b → Cheaper d.frames gs → Works u k l → Sim (if b then Deep else Running k vs d) (if not d.free && is_deep gs then Deep else Running l vs (framed gs d))
  deep_by k l vs d gs true e h w = tt
  deep_by k l vs d gs false e h w = subst (λ (b : Bool). Sim (Running k vs d) (if b then Deep else Running l vs (framed gs d))) (sym (still_free d.free d.frames gs h e)) (runs k l vs d gs w h)

  pub unless_deep_sim : (k l : List Item) (vs : List Value) (o r : Result Scene Why) → SceneIf o r → Works u k l → Sim (unless_deep k vs o) (unless_deep l vs r)
  unless_deep_sim k l vs (Err why) r h w = tt
  unless_deep_sim k l vs (Ok d) r h w = subst (λ (x : Result Scene Why). Sim (unless_deep k vs (Ok d)) (unless_deep l vs x)) (sym h.is) (deep_by k l vs d h.frames (not d.free && is_deep d.frames) refl h.cheaper w)
