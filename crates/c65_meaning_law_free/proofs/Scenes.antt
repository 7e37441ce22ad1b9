-- States of a run beside those of the free one: the same, as long as the active calls are not too deep.
use Rattle.std.proofs.Common.{◌≡◌, ℕ, suc, ◌+◌, ◌≤◌, List, [], ◌∷◌, Option, Some, None, Bool, true, false, if◌then◌else◌, refl, sym, ap, ◌∙◌, subst, arith}
use Rattle.std.specs.Prelude.{⊤, Result, Ok, Err, nat_lt, not, ◌||◌, ◌&&◌, ◌==◌}
use Rattle.std.proofs.lemmas.Bool.Decides.{nat_tests}
use Rattle.c65_csem.specs.Trees.{UnitTy}
use Rattle.c65_meaning.specs.Why.{Why, ◌>>=◌}
use Rattle.c65_meaning.specs.Store.{Store, Value, Whole, Null, Place, Opaque, Cells, NoValue, Shape, write, carry, put_cell, nth_cell, byte}
use Rattle.c65_meaning.specs.Items.{Item, Carry, Lay, CarryInto, Wipe}
use Rattle.c65_meaning.specs.State.{Frame, Scene, State, Undefined, Deep, Ended, Running, soft_sum, hard_sum, block_in, name_object, name_rest}
use Rattle.c65_meaning.specs.Step.{one, two, go_on, with_scene, decided, stored, begin_object, begin_objects, end_named, end_objects, loaded, put, assigned, partly_overlap, carried, carried_byte, carry_step, copy_step, carry_into_step, set_area_step, cleared, wipe_step, clear_step, gathered_at, laid, lay_on, lay_step, is_deep, unless_deep, frames_below, has_turn}
use Rattle.c65_meaning_law_free.specs.Free.{freed_scene, IsTooDeep}

-- ---- what active calls cost

-- room for active calls, no less than a run has that is not free
pub record Room : Type 0 where
  pub soft : ℕ
  pub hard : ℕ
  pub soft_least : 1984 ≤ soft
  pub hard_least : 224 ≤ hard

-- a scene that is not free, whose calls have room
abbrev pub Shallow : Room → Scene → Type 0
Shallow room c = (c.free ≡ false) × (soft_sum c.frames ≤ room.soft) × (hard_sum c.frames ≤ room.hard)

-- as free, and its calls cost no more
abbrev pub Lighter : Scene → Scene → Type 0
Lighter c d = (d.free ≡ c.free) × (soft_sum d.frames ≤ soft_sum c.frames) × (hard_sum d.frames ≤ hard_sum c.frames)

pub no_more : (n : ℕ) → n ≤ n
no_more n = omega arith

at_most : (a b c : ℕ) → a ≤ b → b ≤ c → a ≤ c
at_most a b c h i = omega (arith, h, i)

pub itself : (c : Scene) → Lighter c c
itself c = (refl, no_more (soft_sum c.frames), no_more (hard_sum c.frames))

pub lighter_twice : (c d e : Scene) → Lighter c d → Lighter d e → Lighter c e
lighter_twice c d e h i = (i.0 ∙ h.0, at_most (soft_sum e.frames) (soft_sum d.frames) (soft_sum c.frames) i.1 h.1, at_most (hard_sum e.frames) (hard_sum d.frames) (hard_sum c.frames) i.2 h.2)

pub stays_shallow : (room : Room) (c d : Scene) → Lighter c d → Shallow room c → Shallow room d
stays_shallow room c d h i = (h.0 ∙ i.0, at_most (soft_sum d.frames) (soft_sum c.frames) room.soft h.1 i.1, at_most (hard_sum d.frames) (hard_sum c.frames) room.hard h.2 i.2)

by_sums : (s t : ℕ) → (nat_lt 1984 s || nat_lt 224 t) ≡ false → (s ≤ 1984) × (t ≤ 224)
by_sums s t e = (grind (arith, nat_tests), grind (arith, nat_tests))

no_sums : (s t : ℕ) → s ≤ 1984 → t ≤ 224 → (nat_lt 1984 s || nat_lt 224 t) ≡ false
no_sums s t h i = grind (arith, nat_tests)

-- what a run has that is not free
abbrev pub least : Room
least = record { soft = 1984; hard = 224; soft_least = no_more 1984; hard_least = no_more 224 }

pub not_deep : (c : Scene) → Shallow least c → is_deep c.frames ≡ false
not_deep c h = no_sums (soft_sum c.frames) (hard_sum c.frames) h.1 h.2

-- room for the calls of any scene
abbrev pub enough : Scene → Room
enough c = record { soft = 1984 + soft_sum c.frames; hard = 224 + hard_sum c.frames; soft_least = omega arith; hard_least = omega arith }

pub has_enough : (c : Scene) → c.free ≡ false → Shallow (enough c) c
has_enough c e = (e, omega arith, omega arith)

-- ---- states

-- a state of a free run, whose calls are never too deep
abbrev pub IsFree : State → Type 0
IsFree (Running work values c) = c.free ≡ true
IsFree Deep = ⊥
IsFree (Undefined why) = ⊤
IsFree (Ended out status turns) = ⊤

-- a free run's state beside one of the run: the same, or one that is too deep where the run found that
abbrev pub Beside : Room → State → State → Type 0
Beside room (Undefined why) t = t ≡ Undefined why
Beside room Deep t = IsTooDeep t × IsFree t
Beside room (Ended out status turns) t = t ≡ Ended out status turns
Beside room (Running work values c) t = (t ≡ Running work values (freed_scene c)) × Shallow room c

pub runs : (room : Room) (k : List Item) (vs : List Value) (c : Scene) → Shallow room c → Beside room (Running k vs c) (Running k vs (freed_scene c))
runs room k vs c h = (refl, h)

pub one_beside : (room : Room) (vs : List Value) (f g : Value → List Value → State) → ((v : Value) (r : List Value) → Beside room (f v r) (g v r)) → Beside room (one vs f) (one vs g)
one_beside room [] f g h = refl
one_beside room (v ∷ vs) f g h = h v vs

pub two_beside : (room : Room) (vs : List Value) (f g : Value → Value → List Value → State) → ((y x : Value) (r : List Value) → Beside room (f y x r) (g y x r)) → Beside room (two vs f) (two vs g)
two_beside room [] f g h = refl
two_beside room (y ∷ []) f g h = refl
two_beside room (y ∷ x ∷ vs) f g h = h y x vs

go_beside : (room : Room) (o : Result Value Why) (k : List Item) (vs : List Value) (c : Scene) → Shallow room c → Beside room (go_on o k vs c) (go_on o k vs (freed_scene c))
go_beside room (Err why) k vs c h = refl
go_beside room (Ok v) k vs c h = runs room k (v ∷ vs) c h

pub go_on_beside : (room : Room) (o r : Result Value Why) (k : List Item) (vs : List Value) (c : Scene) → r ≡ o → Shallow room c → Beside room (go_on o k vs c) (go_on r k vs (freed_scene c))
go_on_beside room o r k vs c e h = subst (λ (x : Result Value Why). Beside room (go_on o k vs c) (go_on x k vs (freed_scene c))) (sym e) (go_beside room o k vs c h)

pub if_beside : (room : Room) (t : Bool) (a b x y : State) → Beside room a x → Beside room b y → Beside room (if t then a else b) (if t then x else y)
if_beside room true a b x y g h = g
if_beside room false a b x y g h = h

pub decided_beside : (room : Room) (o : Result Bool Why) (a b x y : State) → Beside room a x → Beside room b y → Beside room (decided o a b) (decided o x y)
decided_beside room (Err why) a b x y g h = refl
decided_beside room (Ok true) a b x y g h = g
decided_beside room (Ok false) a b x y g h = h

-- ---- scenes that an action gives

abbrev pub SceneIf : Scene → Result Scene Why → Result Scene Why → Type 0
SceneIf c (Err why) r = r ≡ Err why
SceneIf c (Ok d) r = (r ≡ Ok (freed_scene d)) × Lighter c d

-- what is made of it
pub on_scene : (room : Room) (c : Scene) (f : Result Scene Why → State) (o r : Result Scene Why) → SceneIf c o r → ((why : Why) → Beside room (f (Err why)) (f (Err why))) → ((d : Scene) → Lighter c d → Beside room (f (Ok d)) (f (Ok (freed_scene d)))) → Beside room (f o) (f r)
on_scene room c f (Err why) r h e g = subst (λ (x : Result Scene Why). Beside room (f (Err why)) (f x)) (sym h) (e why)
on_scene room c f (Ok d) r h e g = subst (λ (x : Result Scene Why). Beside room (f (Ok d)) (f x)) (sym h.0) (g d h.1)

pub scene_from : (c d : Scene) (o r : Result Scene Why) → Lighter c d → SceneIf d o r → SceneIf c o r
scene_from c d (Err why) r l h = h
scene_from c d (Ok e) r l h = (h.0, lighter_twice c d e l h.1)

pub bound_scene : (c : Scene) (o r : Result Scene Why) (f : Scene → Result Scene Why) → SceneIf c o r → ((d : Scene) → SceneIf d (f d) (f (freed_scene d))) → SceneIf c (o >>= f) (r >>= f)
bound_scene c (Err why) r f h n = subst (λ (x : Result Scene Why). SceneIf c (Err why) (x >>= f)) (sym h) refl
bound_scene c (Ok d) r f h n = subst (λ (x : Result Scene Why). SceneIf c (f d) (x >>= f)) (sym h.0) (scene_from c d (f d) (f (freed_scene d)) h.1 (n d))

stored_scene : (c : Scene) (o : Result Store Why) → SceneIf c (stored c o) (stored (freed_scene c) o)
stored_scene c (Err why) = refl
stored_scene c (Ok s) = (refl, itself c)

pub with_scene_beside : (room : Room) (c : Scene) (o r : Result Scene Why) (k : List Item) (vs : List Value) → SceneIf c o r → Shallow room c → Beside room (with_scene o k vs) (with_scene r k vs)
with_scene_beside room c o r k vs h s = on_scene room c (λ x. with_scene x k vs) o r h (λ why. refl) (λ d l. runs room k vs d (stays_shallow room c d l s))

-- ---- loads and stores

pub loaded_same : (shape : Shape) (c : Scene) (v : Value) → loaded shape (freed_scene c) v ≡ loaded shape c v
loaded_same shape c (Place b o) = refl
loaded_same shape c (Whole z) = refl
loaded_same shape c Null = refl
loaded_same shape c Opaque = refl
loaded_same shape c (Cells xs) = refl
loaded_same shape c NoValue = refl

pub put_scene : (first : Bool) (shape : Shape) (c : Scene) (at v : Value) → SceneIf c (put first shape c at v) (put first shape (freed_scene c) at v)
put_scene first shape c (Place b o) NoValue = refl
put_scene first shape c (Place b o) (Whole z) = stored_scene c (write first shape c.store b o (Whole z))
put_scene first shape c (Place b o) Null = stored_scene c (write first shape c.store b o Null)
put_scene first shape c (Place b o) (Place d p) = stored_scene c (write first shape c.store b o (Place d p))
put_scene first shape c (Place b o) Opaque = stored_scene c (write first shape c.store b o Opaque)
put_scene first shape c (Place b o) (Cells xs) = stored_scene c (write first shape c.store b o (Cells xs))
put_scene first shape c (Whole z) v = refl
put_scene first shape c Null v = refl
put_scene first shape c Opaque v = refl
put_scene first shape c (Cells xs) v = refl
put_scene first shape c NoValue v = refl

pub assigned_beside : (room : Room) (shape : Shape) (at : Value) (k : List Item) (vs : List Value) (c : Scene) (o r : Result Scene Why) → SceneIf c o r → Shallow room c → Beside room (assigned shape at k vs o) (assigned shape at k vs r)
assigned_beside room shape at k vs c o r h s = on_scene room c (assigned shape at k vs) o r h (λ why. refl) (λ d l. go_on_beside room (loaded shape d at) (loaded shape (freed_scene d) at) k vs d (loaded_same shape d at) (stays_shallow room c d l s))

-- ---- structures and unions

carried_scene : (first : Bool) (done : ℕ) (c : Scene) (from to : Value) → SceneIf c (carried first done c from to) (carried first done (freed_scene c) from to)
carried_scene first done c (Place b o) (Place d p) = stored_scene c (carry first c.store b (o + done) d (p + done))
carried_scene first done c (Place b o) (Whole z) = refl
carried_scene first done c (Place b o) Null = refl
carried_scene first done c (Place b o) Opaque = refl
carried_scene first done c (Place b o) (Cells xs) = refl
carried_scene first done c (Place b o) NoValue = refl
carried_scene first done c (Whole z) to = refl
carried_scene first done c Null to = refl
carried_scene first done c Opaque to = refl
carried_scene first done c (Cells xs) to = refl
carried_scene first done c NoValue to = refl

unless_scene : (t : Bool) (why : Why) (c : Scene) (o r : Result Scene Why) → SceneIf c o r → SceneIf c (if t then Err why else o) (if t then Err why else r)
unless_scene true why c o r h = refl
unless_scene false why c o r h = h

byte_scene : (first : Bool) (done size : ℕ) (c : Scene) (from to : Value) → SceneIf c (carried_byte first done size c from to) (carried_byte first done size (freed_scene c) from to)
byte_scene first done size c from to = unless_scene (done == 0 && partly_overlap size from to) _ c _ _ (carried_scene first done c from to)

pub copy_beside : (room : Room) (done size : ℕ) (from to : Value) (k : List Item) (vs : List Value) (c : Scene) → Shallow room c → Beside room (copy_step done size from to k vs c) (copy_step done size from to k vs (freed_scene c))
copy_beside room done size from to k vs c s =
    if_beside room (nat_lt done size) _ _ _ _
    (on_scene room c (carry_step done size from to k vs) _ _ (byte_scene false done size c from to) (λ why. refl) (λ d l. if_beside room (nat_lt (suc done) size) _ _ _ _ (runs room (Carry (suc done) size ∷ k) (from ∷ to ∷ vs) d (stays_shallow room c d l s)) (runs room k (to ∷ vs) d (stays_shallow room c d l s))))
    (runs room k (to ∷ vs) c s)

pub set_area_beside : (room : Room) (i o done size : ℕ) (from to : Value) (k : List Item) (vs : List Value) (c : Scene) → Shallow room c → Beside room (set_area_step i o done size from to k vs c) (set_area_step i o done size from to k vs (freed_scene c))
set_area_beside room i o done size from to k vs c s =
    if_beside room (nat_lt done size) _ _ _ _
    (on_scene room c (carry_into_step i o done size from k vs) _ _ (byte_scene true done size c from to) (λ why. refl) (λ d l. if_beside room (nat_lt (suc done) size) _ _ _ _ (runs room (CarryInto i o (suc done) size ∷ k) (from ∷ vs) d (stays_shallow room c d l s)) (runs room k vs d (stays_shallow room c d l s))))
    (runs room k vs c s)

cleared_scene : (c : Scene) (done : ℕ) (at : Value) → SceneIf c (cleared c done at) (cleared (freed_scene c) done at)
cleared_scene c done (Place b o) = stored_scene c (put_cell true c.store b (o + done) (byte 0))
cleared_scene c done (Whole z) = refl
cleared_scene c done Null = refl
cleared_scene c done Opaque = refl
cleared_scene c done (Cells xs) = refl
cleared_scene c done NoValue = refl

pub clear_beside : (room : Room) (i done size : ℕ) (at : Value) (k : List Item) (vs : List Value) (c : Scene) → Shallow room c → Beside room (clear_step i done size at k vs c) (clear_step i done size at k vs (freed_scene c))
clear_beside room i done size at k vs c s =
    if_beside room (nat_lt done size) _ _ _ _
    (on_scene room c (wipe_step i done size k vs) _ _ (cleared_scene c done at) (λ why. refl) (λ d l. if_beside room (nat_lt (suc done) size) _ _ _ _ (runs room (Wipe i (suc done) size ∷ k) vs d (stays_shallow room c d l s)) (runs room k vs d (stays_shallow room c d l s))))
    (runs room k vs c s)

-- ---- structures and unions that are passed and returned

pub gathered_same : (size : ℕ) (c : Scene) (v : Value) → gathered_at size (freed_scene c) v ≡ gathered_at size c v
gathered_same size c (Place b o) = refl
gathered_same size c (Whole z) = refl
gathered_same size c Null = refl
gathered_same size c Opaque = refl
gathered_same size c (Cells xs) = refl
gathered_same size c NoValue = refl

laid_scene : (done : ℕ) (c : Scene) (at v : Value) → SceneIf c (laid done c at v) (laid done (freed_scene c) at v)
laid_scene done c (Place b o) (Cells xs) = stored_scene c (put_cell true c.store b (o + done) (nth_cell xs done))
laid_scene done c (Place b o) (Whole z) = refl
laid_scene done c (Place b o) Null = refl
laid_scene done c (Place b o) (Place d p) = refl
laid_scene done c (Place b o) Opaque = refl
laid_scene done c (Place b o) NoValue = refl
laid_scene done c (Whole z) v = refl
laid_scene done c Null v = refl
laid_scene done c Opaque v = refl
laid_scene done c (Cells xs) v = refl
laid_scene done c NoValue v = refl

pub lay_beside : (room : Room) (i done size : ℕ) (v at : Value) (k : List Item) (vs : List Value) (c : Scene) → Shallow room c → Beside room (lay_step i done size v at k vs c) (lay_step i done size v at k vs (freed_scene c))
lay_beside room i done size v at k vs c s =
    if_beside room (nat_lt done size) _ _ _ _
    (on_scene room c (lay_on i done size v at k vs) _ _ (laid_scene done c at v) (λ why. refl) (λ d l. if_beside room (nat_lt (suc done) size) _ _ _ _ (runs room (Lay i (suc done) size ∷ k) (v ∷ vs) d (stays_shallow room c d l s)) (runs room k (at ∷ vs) d (stays_shallow room c d l s))))
    (runs room k (at ∷ vs) c s)

-- ---- beginning and end of objects

-- a later scene of each run
abbrev pub Now : Scene → Scene → Scene → Type 0
Now c d e = (e ≡ freed_scene d) × Lighter c d

-- one more change of both
pub now_then : (c d e : Scene) (f : Scene → Scene) → Now c d e → Now d (f d) (f (freed_scene d)) → Now c (f d) (f e)
now_then c d e f n m = subst (λ (x : Scene). Now c (f d) (f x)) (sym n.0) (m.0, lighter_twice c d (f d) n.1 m.1)

soft_named : (fs : List Frame) (i b : ℕ) → soft_sum (name_object fs i b) ≡ soft_sum fs
soft_named [] i b = refl
soft_named (f ∷ fs) i b = refl

hard_named : (fs : List Frame) (i b : ℕ) → hard_sum (name_object fs i b) ≡ hard_sum fs
hard_named [] i b = refl
hard_named (f ∷ fs) i b = refl

pub rest_sums : (fs : List Frame) (b : ℕ) → (soft_sum (name_rest fs b) ≡ soft_sum fs) × (hard_sum (name_rest fs b) ≡ hard_sum fs)
rest_sums [] b = (refl, refl)
rest_sums (f ∷ fs) b = (refl, refl)

pub equal_is_no_more : (a b : ℕ) → a ≡ b → a ≤ b
equal_is_no_more a b e = omega (arith, e)

module _ (u : UnitTy) where
  pub begun : (i : ℕ) (c : Scene) → Lighter c (begin_object u i c)
  begun i c = (refl, equal_is_no_more (soft_sum (name_object c.frames i c.next)) (soft_sum c.frames) (soft_named c.frames i c.next), equal_is_no_more (hard_sum (name_object c.frames i c.next)) (hard_sum c.frames) (hard_named c.frames i c.next))

  pub begins : (objects : List ℕ) (c : Scene) → Now c (begin_objects u objects c) (begin_objects u objects (freed_scene c))
  begins [] c = (refl, itself c)
  begins (i ∷ rest) c = let n = begins rest (begin_object u i c) in (n.0, lighter_twice c (begin_object u i c) (begin_objects u rest (begin_object u i c)) (begun i c) n.1)

pub one_ends : (o : Option ℕ) (c : Scene) → Now c (end_named o c) (end_named o (freed_scene c))
one_ends None c = (refl, itself c)
one_ends (Some b) c = (refl, itself c)

pub ends : (objects : List ℕ) (c : Scene) → Now c (end_objects objects c) (end_objects objects (freed_scene c))
ends [] c = (refl, itself c)
ends (i ∷ rest) c = now_then c (end_named (block_in c.frames i) c) (end_named (block_in c.frames i) (freed_scene c)) (end_objects rest) (one_ends (block_in c.frames i) c) (ends rest (end_named (block_in c.frames i) c))

pub turns : (t : Bool) (c : Scene) → Now c (has_turn t c) (has_turn t (freed_scene c))
turns true c = (refl, itself c)
turns false c = (refl, itself c)

-- a running state in such a scene
pub goes : (room : Room) (k : List Item) (vs : List Value) (c d e : Scene) → Now c d e → Shallow room c → Beside room (Running k vs d) (Running k vs e)
goes room k vs c d e n s = (ap (Running k vs) n.0, stays_shallow room c d n.1 s)

below_soft : (fs : List Frame) → soft_sum (frames_below fs) ≤ soft_sum fs
below_soft [] = no_more 0
below_soft (f ∷ fs) = omega arith

below_hard : (fs : List Frame) → hard_sum (frames_below fs) ≤ hard_sum fs
below_hard [] = no_more 0
below_hard (f ∷ fs) = omega arith

pub below_lighter : (c : Scene) → Lighter c (record c { frames = frames_below c.frames })
below_lighter c = (refl, below_soft c.frames, below_hard c.frames)

-- ---- depth

deep_by : (room : Room) (k : List Item) (vs : List Value) (d : Scene) (free deep : Bool) → free ≡ false → d.free ≡ false → is_deep d.frames ≡ deep → Beside room (if not free && deep then Deep else Running k vs d) (Running k vs (freed_scene d))
deep_by room k vs d true deep e h i = absurd cc
deep_by room k vs d false true e h i = (i, refl)
deep_by room k vs d false false e h i = let sums = by_sums (soft_sum d.frames) (hard_sum d.frames) i in (refl, (h, at_most (soft_sum d.frames) 1984 room.soft sums.0 room.soft_least, at_most (hard_sum d.frames) 224 room.hard sums.1 room.hard_least))

pub unless_deep_beside : (room : Room) (k : List Item) (vs : List Value) (c : Scene) (o r : Result Scene Why) → SceneIf c o r → c.free ≡ false → Beside room (unless_deep k vs o) (unless_deep k vs r)
unless_deep_beside room k vs c o r h e = on_scene room c (unless_deep k vs) o r h (λ why. refl) (λ d l. deep_by room k vs d d.free (is_deep d.frames) (l.0 ∙ e) (l.0 ∙ e) refl)
