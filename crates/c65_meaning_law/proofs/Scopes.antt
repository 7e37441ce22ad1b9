-- What stands where objects are in scope, and what stays when more blocks begin.
use Rattle.std.proofs.Common.{◌≡◌, ◌++◌, ℕ, suc, Bool, true, false, List, [], ◌∷◌, Option, Some, None, refl, sym, ap, ◌∙◌, subst, arith}
use Rattle.std.specs.Prelude.{⊤, ◌==◌, Result, Ok, IsSome, IsTrue, All, if◌then◌else◌, slice_get}
use Rattle.c65_csem.specs.Trees.{Typed, node, Node, constant, null, literal, object, func, deref, member, load, address, decay, convert, unary, binary, both, either, choice, comma, assign, assign_op, assign_step, step, copy, call, pack, spill, rest, Nodes, none, some, UnitTy}
use Rattle.c65_ctype.specs.Trees.{QTy}
use Rattle.c65_csem.specs.Typed.{IsTyped, IsNode, IsGiven, IsCalled, AreTyped}
use Rattle.c65_csem.specs.Statements.{NamesAutomatic}
use Rattle.c65_meaning.specs.Why.{Why}
use Rattle.c65_meaning.specs.Store.{Block, Value, Place, Cell, Piece, Bits, Clouded, nth_cell, unset_block, list_block}
use Rattle.c65_meaning.specs.Shapes.{literal_block, object_in, object_size, object_sealed, lives_in_frame, object_block}
use Rattle.c65_meaning.specs.After.{is_among}
use Rattle.c65_meaning.specs.State.{Frame, Scene, block_in, name_object, rest_in, name_rest}
use Rattle.c65_meaning.specs.Step.{place_in, object_place, begin_object, begin_objects, begin_rest, with_rest, func_in, frames_below}
use Rattle.c65_meaning_law.specs.Laws.{HasBlock, HasRest, AreThere, AreThereIn, AreAllThere}
use Rattle.c65_csem_names.specs.Scopes.{IsInScope, IsScopedIn, IsScopedNode, AreScopedIn, entering}
use Rattle.c65_meaning_law.specs.Statements.{HasFrame, IsReady}
use Rattle.c65_meaning_law.proofs.Stacks.{CellFits, CellsFit, StoreFits, D}

pub is_some_in : {A : Type 0} (m : Option A) (x : A) → m ≡ Some x → IsSome m
is_some_in {A} m x e = subst (λ (n : Option A). IsSome n) (sym e) refl

-- ---- an expression whose names are in scope

module _ (u : UnitTy) (c : Scene) (variadic : Bool) (s : List ℕ) (r : IsReady u variadic s c) where
  mutual
    pub there : (e : Typed) → IsTyped u e → IsScopedIn u variadic s e → AreThere u c e
    there (node t n) w h = node_there t n w h

    node_there : (t : QTy) (n : Node) → IsNode u t n → IsScopedNode u variadic s n → AreThereIn u c n
    node_there t (constant z) w h = tt
    node_there t null w h = tt
    node_there t (literal l) w h = r.literals l (is_some_in (slice_get u.literals l) w.0 w.1)
    node_there t (object i) w h = r.objects i (is_some_in (object_in u i) w.0 w.1) h
    node_there t (func f) w h = r.funcs f (is_some_in (slice_get u.funcs f) w.0 w.1)
    node_there t (deref a) w h = there a w.0 h
    node_there t (member a m) w h = there a w.0 h
    node_there t (load a) w h = there a w.0 h
    node_there t (address a) w h = there a w.0 h
    node_there t (decay a) w h = there a w.0 h
    node_there t (convert a) w h = there a w.0 h
    node_there t (unary op a) w h = there a w.0 h
    node_there t (step kind a) w h = there a w.0 h
    node_there t (binary op a b) w h = (there a w.0 h.0, there b w.1 h.1)
    node_there t (both a b) w h = (there a w.0 h.0, there b w.1 h.1)
    node_there t (either a b) w h = (there a w.0 h.0, there b w.1 h.1)
    node_there t (comma a b) w h = (there a w.0 h.0, there b w.1 h.1)
    node_there t (assign a b) w h = (there a w.0 h.0, there b w.1 h.1)
    node_there t (assign_op op k a b) w h = (there a w.0 h.0, there b w.1 h.1)
    node_there t (assign_step op a b) w h = (there a w.0 h.0, there b w.1 h.1)
    node_there t (copy a b) w h = (there a w.0 h.0, there b w.1 h.1)
    node_there t (choice d a b) w h = (there d w.0 h.0, there a w.1 h.1, there b w.2 h.2)
    node_there t (call f es) w h = (there f w.0 h.0, all_there es w.4 h.1)
    node_there t (pack a) w h = absurd w
    node_there t (spill i a) w h = (r.objects i (is_some_in (object_in u i) w.1.object w.1.there) h.0, called_there t a w.0 h.1)
    node_there t rest w h = r.rest h

    -- a call that gives a structure or union
    called_there : (t : QTy) (a : Typed) → IsCalled u t a → IsScopedIn u variadic s a → AreThere u c a
    called_there t (node q (call f es)) w h = (there f w.2 h.0, all_there es w.5 h.1)
    called_there t (node q _) w h = absurd w

    -- an argument or a returned value
    pub given_there : (a : Typed) → IsGiven u a → IsScopedIn u variadic s a → AreThere u c a
    given_there (node t (pack a)) w h = there a w.0 h
    given_there (node t n) w h = node_there t n w.0 h

    all_there : (es : Nodes) → AreTyped u es → AreScopedIn u variadic s es → AreAllThere u c es
    all_there none w h = tt
    all_there (some e es) w h = (given_there e w.0 h.0, all_there es w.1 h.1)

-- ---- more blocks

pub record Grows (u : UnitTy) (c e : Scene) : Type 0 where
  pub blocks : (b : ℕ) → D u c b → D u e b
  pub objects : (i : ℕ) → HasBlock u c i → HasBlock u e i
  pub rest : HasRest c → HasRest e
  pub active : HasFrame c.frames → HasFrame e.frames
  pub func : func_in e.frames ≡ func_in c.frames
  pub below : frames_below e.frames ≡ frames_below c.frames

module _ (u : UnitTy) (c e : Scene) (g : Grows u c e) where
  mutual
    pub stays : (a : Typed) → AreThere u c a → AreThere u e a
    stays (node t n) h = node_stays n h

    node_stays : (n : Node) → AreThereIn u c n → AreThereIn u e n
    node_stays (constant z) h = tt
    node_stays null h = tt
    node_stays (literal l) h = g.blocks (literal_block u l) h
    node_stays (object i) h = g.objects i h
    node_stays (func f) h = g.blocks f h
    node_stays (deref a) h = stays a h
    node_stays (member a m) h = stays a h
    node_stays (load a) h = stays a h
    node_stays (address a) h = stays a h
    node_stays (decay a) h = stays a h
    node_stays (convert a) h = stays a h
    node_stays (unary op a) h = stays a h
    node_stays (step kind a) h = stays a h
    node_stays (binary op a b) h = (stays a h.0, stays b h.1)
    node_stays (both a b) h = (stays a h.0, stays b h.1)
    node_stays (either a b) h = (stays a h.0, stays b h.1)
    node_stays (comma a b) h = (stays a h.0, stays b h.1)
    node_stays (assign a b) h = (stays a h.0, stays b h.1)
    node_stays (assign_op op k a b) h = (stays a h.0, stays b h.1)
    node_stays (assign_step op a b) h = (stays a h.0, stays b h.1)
    node_stays (copy a b) h = (stays a h.0, stays b h.1)
    node_stays (choice d a b) h = (stays d h.0, stays a h.1, stays b h.2)
    node_stays (call f es) h = (stays f h.0, all_stay es h.1)
    node_stays (pack a) h = stays a h
    node_stays (spill i a) h = (g.objects i h.0, stays a h.1)
    node_stays rest h = g.rest h

    all_stay : (es : Nodes) → AreAllThere u c es → AreAllThere u e es
    all_stay none h = tt
    all_stay (some a es) h = (stays a h.0, all_stay es h.1)

  pub ready_stays : (variadic : Bool) (s : List ℕ) → IsReady u variadic s c → IsReady u variadic s e
  ready_stays variadic s r = record { active = g.active r.active; objects = λ i m h. g.objects i (r.objects i m h); literals = λ l m. g.blocks (literal_block u l) (r.literals l m); funcs = λ f m. g.blocks f (r.funcs f m); rest = λ l. g.rest (r.rest l) }

pub grows_same : (u : UnitTy) (c : Scene) → Grows u c c
grows_same u c = record { blocks = λ b h. h; objects = λ i h. h; rest = λ h. h; active = λ h. h; func = refl; below = refl }

pub grows_on : (u : UnitTy) (c d e : Scene) → Grows u c d → Grows u d e → Grows u c e
grows_on u c d e g h = record { blocks = λ b i. h.blocks b (g.blocks b i); objects = λ j i. h.objects j (g.objects j i); rest = λ i. h.rest (g.rest i); active = λ i. h.active (g.active i); func = h.func ∙ g.func; below = h.below ∙ g.below }

-- ---- an object begins

module _ (u : UnitTy) (i : ℕ) (d : Scene) where
  abbrev fresh : Block
  fresh = unset_block (object_size u.types (object_in u i)) (object_sealed (object_in u i))

  abbrev after : Scene
  after = begin_object u i d

  in_either : (t : Bool) (m : Option Block) → IsSome m → IsSome (if t then Some fresh else m)
  in_either true m h = refl
  in_either false m h = h

  is_new : (t : Bool) → t ≡ true → (m : Option Block) → IsSome (if t then Some fresh else m)
  is_new true e m = refl
  is_new false e m = absurd (cc)

  pub block_new : IsSome (after.store d.next)
  block_new = is_new (d.next == d.next) (grind arith) (d.store d.next)

  -- where an object has its block
  abbrev placed : Bool → Option ℕ → ℕ → Result Value Why
  placed t m j = if t then place_in m else Ok (Place (object_block u j) 0)

  record In (e : Scene) (r : Result Value Why) : Type 0 where
    block : ℕ
    named : r ≡ Ok (Place block 0)
    stands : IsSome (e.store block)

  has : (e : Scene) (j : ℕ) → In e (object_place u j e) → HasBlock u e j
  has e j h = (h.block, h.named, h.stands)

  old : (j : ℕ) (t : Bool) (m : Option ℕ) → In d (placed t m j) → In after (placed t m j)
  old j t m h = record { block = h.block; named = h.named; stands = in_either (h.block == d.next) (d.store h.block) h.stands }

  chosen : (j : ℕ) (t : Bool) (m : Option ℕ) → In d (placed true m j) → In after (placed true (if t then Some d.next else m) j)
  chosen j true m h = record { block = d.next; named = refl; stands = block_new }
  chosen j false m h = old j true m h

  named_on : (j : ℕ) (t : Bool) (fs : List Frame) → In d (placed t (block_in fs j) j) → In after (placed t (block_in (name_object fs i d.next) j) j)
  named_on j false fs h = old j false (block_in fs j) h
  named_on j true [] h = old j true None h
  named_on j true (f ∷ more) h = chosen j (j == i) (f.object j) h

  keeps : (j : ℕ) → HasBlock u d j → HasBlock u after j
  keeps j h = has after j (named_on j (lives_in_frame (object_in u j)) d.frames (record { block = h.0; named = h.1; stands = h.2 }))

  frame_stays : (fs : List Frame) → HasFrame fs → HasFrame (name_object fs i d.next)
  frame_stays [] h = absurd h
  frame_stays (f ∷ more) h = tt

  same_func : (fs : List Frame) → func_in (name_object fs i d.next) ≡ func_in fs
  same_func [] = refl
  same_func (f ∷ more) = refl

  same_below : (fs : List Frame) → frames_below (name_object fs i d.next) ≡ frames_below fs
  same_below [] = refl
  same_below (f ∷ more) = refl

  same_rest : (fs : List Frame) → rest_in (name_object fs i d.next) ≡ rest_in fs
  same_rest [] = refl
  same_rest (f ∷ fs) = refl

  pub grows : Grows u d after
  grows = record { blocks = λ b h. in_either (b == d.next) (d.store b) h; objects = keeps; rest = λ h. (h.0, same_rest d.frames ∙ h.1, in_either (h.0 == d.next) (d.store h.0) h.2); active = frame_stays d.frames; func = same_func d.frames; below = same_below d.frames }

  newest : (t : Bool) → t ≡ true → (m : Option ℕ) → In after (placed true (if t then Some d.next else m) i)
  newest true e m = record { block = d.next; named = refl; stands = block_new }
  newest false e m = absurd (cc)

  own_in : (t : Bool) (fs : List Frame) → t ≡ true → HasFrame fs → In after (placed t (block_in (name_object fs i d.next) i) i)
  own_in true [] e h = absurd h
  own_in true (f ∷ more) e h = newest (i == i) (grind arith) (f.object i)
  own_in false fs e h = absurd (cc)

  own : NamesAutomatic u i → HasFrame d.frames → HasBlock u after i
  own n h = has after i (own_in (lives_in_frame (object_in u i)) d.frames (ap lives_in_frame n.1.0 ∙ n.1.1) h)

  in_scope : (variadic : Bool) (s : List ℕ) → NamesAutomatic u i → IsReady u variadic s d → (j : ℕ) → IsSome (object_in u j) → IsInScope u (i ∷ s) j → HasBlock u after j
  in_scope variadic s n r j m h = tested (i == j) refl h
    where
      tested : (t : Bool) → (i == j) ≡ t → (IsTrue (lives_in_frame (object_in u j)) → IsTrue (if t then true else is_among s j)) → HasBlock u after j
      tested true e f = let same : i ≡ j = grind arith in subst (λ (k : ℕ). HasBlock u after k) same (own n r.active)
      tested false e f = keeps j (r.objects j m f)

  pub ready_after : (variadic : Bool) (s : List ℕ) → NamesAutomatic u i → IsReady u variadic s d → IsReady u variadic (i ∷ s) after
  ready_after variadic s n r = record { active = frame_stays d.frames r.active; objects = in_scope variadic s n r; literals = λ l m. grows.blocks (literal_block u l) (r.literals l m); funcs = λ f m. grows.blocks f (r.funcs f m); rest = λ l. grows.rest (r.rest l) }

  cell_stays : (x : Cell) → CellFits (D u d) x → CellFits (D u after) x
  cell_stays (Piece k b o) h = grows.blocks b h
  cell_stays (Bits known value) h = tt
  cell_stays Clouded h = tt

  pub store_after : StoreFits (D u d) d.store → StoreFits (D u after) after.store
  store_after h = record { there = λ b m. m; all = λ b y e. all (b == d.next) (d.store b) y (h.all b y) e }
    where
      all : (t : Bool) (m : Option Block) (y : Block) → (m ≡ Some y → CellsFit (D u d) y.cells) → (if t then Some fresh else m) ≡ Some y → CellsFit (D u after) y.cells
      all true m y f e = let same : fresh ≡ y = cc in subst (λ (z : Block). CellsFit (D u after) z.cells) same (λ q. tt)
      all false m y f e = λ q. cell_stays (y.cells q) (f e q)

-- ---- the objects of a block begin

pub record IsBegun (u : UnitTy) (variadic : Bool) (scope : List ℕ) (d e : Scene) : Type 0 where
  pub grows : Grows u d e
  pub ready : IsReady u variadic scope e
  pub store : StoreFits (D u e) e.store

first_of : (P : ℕ → Type 0) (i : ℕ) (more : List ℕ) → All P (i ∷ more) → P i
first_of P i more h = h 0 i (omega arith)

rest_of : (P : ℕ → Type 0) (i : ℕ) (more : List ℕ) → All P (i ∷ more) → All P more
rest_of P i more h k d l = h (suc k) d (omega (arith, l))

abbrev pub AreAutomatic : UnitTy → List ℕ → Type 0
AreAutomatic u [] = ⊤
AreAutomatic u (i ∷ more) = NamesAutomatic u i × AreAutomatic u more

pub automatic_of : (u : UnitTy) (objects : List ℕ) → All (NamesAutomatic u) objects → AreAutomatic u objects
automatic_of u [] a = tt
automatic_of u (i ∷ more) a = (first_of (NamesAutomatic u) i more a, automatic_of u more (rest_of (NamesAutomatic u) i more a))

pub automatic_joined : (u : UnitTy) (xs ys : List ℕ) → AreAutomatic u xs → AreAutomatic u ys → AreAutomatic u (xs ++ ys)
automatic_joined u [] ys a b = b
automatic_joined u (i ∷ xs) ys a b = (a.0, automatic_joined u xs ys a.1 b)

pub begun : (u : UnitTy) (variadic : Bool) (objects scope : List ℕ) (d : Scene) → AreAutomatic u objects → IsReady u variadic scope d → StoreFits (D u d) d.store → IsBegun u variadic (entering objects scope) d (begin_objects u objects d)
begun u variadic [] scope d a r h = record { grows = grows_same u d; ready = r; store = h }
begun u variadic (i ∷ more) scope d a r h =
    let on = begun u variadic more (i ∷ scope) (begin_object u i d) a.1 (ready_after u i d variadic scope a.0 r) (store_after u i d h) in
    record { grows = grows_on u d (begin_object u i d) (begin_objects u more (begin_object u i d)) (grows u i d) on.grows; ready = on.ready; store = on.store }

-- ---- the further arguments begin

module _ (u : UnitTy) (xs : List Cell) (d : Scene) where
  abbrev behind : Scene
  behind = begin_rest xs d

  rest_keeps : (t : Bool) (m : Option Block) → IsSome m → IsSome (if t then Some (list_block xs) else m)
  rest_keeps true m h = refl
  rest_keeps false m h = h

  rest_new : (t : Bool) → t ≡ true → (m : Option Block) → IsSome (if t then Some (list_block xs) else m)
  rest_new true e m = refl
  rest_new false e m = absurd (cc)

  abbrev object_at : ℕ → Option ℕ → Result Value Why
  object_at j m = if lives_in_frame (object_in u j) then place_in m else Ok (Place (object_block u j) 0)

  rest_block : (j : ℕ) (fs : List Frame) → block_in (name_rest fs d.next) j ≡ block_in fs j
  rest_block j [] = refl
  rest_block j (f ∷ fs) = refl

  rest_frame : (fs : List Frame) → HasFrame fs → HasFrame (name_rest fs d.next)
  rest_frame [] h = absurd h
  rest_frame (f ∷ fs) h = tt

  rest_func : (fs : List Frame) → func_in (name_rest fs d.next) ≡ func_in fs
  rest_func [] = refl
  rest_func (f ∷ fs) = refl

  rest_below : (fs : List Frame) → frames_below (name_rest fs d.next) ≡ frames_below fs
  rest_below [] = refl
  rest_below (f ∷ fs) = refl

  rest_named : (fs : List Frame) → HasFrame fs → rest_in (name_rest fs d.next) ≡ Some d.next
  rest_named [] h = absurd h
  rest_named (f ∷ fs) h = refl

  stays_there : (b : ℕ) → D u d b → D u behind b
  stays_there b h = rest_keeps (b == d.next) (d.store b) h

  has_rest : HasFrame d.frames → HasRest behind
  has_rest h = (d.next, rest_named d.frames h, rest_new (d.next == d.next) (grind arith) (d.store d.next))

  rest_grows : HasFrame d.frames → Grows u d behind
  rest_grows a = record { blocks = stays_there; objects = λ j h. (h.0, ap (object_at j) (rest_block j d.frames) ∙ h.1, stays_there h.0 h.2); rest = λ h. has_rest a; active = rest_frame d.frames; func = rest_func d.frames; below = rest_below d.frames }

  rest_cell : (x : Cell) → CellFits (D u d) x → CellFits (D u behind) x
  rest_cell (Piece k b o) h = stays_there b h
  rest_cell (Bits known value) h = tt
  rest_cell Clouded h = tt

  rest_fits : StoreFits (D u d) d.store → CellsFit (D u d) (nth_cell xs) → StoreFits (D u behind) behind.store
  rest_fits h g = record { there = λ b m. m; all = λ b y e. all (b == d.next) (d.store b) y (h.all b y) e }
    where
      all : (t : Bool) (m : Option Block) (y : Block) → (m ≡ Some y → CellsFit (D u d) y.cells) → (if t then Some (list_block xs) else m) ≡ Some y → CellsFit (D u behind) y.cells
      all true m y f e = let same : list_block xs ≡ y = cc in subst (λ (z : Block). CellsFit (D u behind) z.cells) same (λ q. rest_cell (nth_cell xs q) (g q))
      all false m y f e = λ q. rest_cell (y.cells q) (f e q)

  begins_behind : (scope : List ℕ) (c : Scene) → IsBegun u false scope c d → CellsFit (D u d) (nth_cell xs) → IsBegun u true scope c behind
  begins_behind scope c b h =
      let a = b.ready.active in
      let r = ready_stays u d behind (rest_grows a) false scope b.ready in
      record {
        grows = grows_on u c d behind b.grows (rest_grows a);
        ready = record { active = r.active; objects = r.objects; literals = r.literals; funcs = r.funcs; rest = λ l. has_rest a };
        store = rest_fits b.store h;
      }

-- behind the parameters, where the function takes any
pub rest_begun : (u : UnitTy) (variadic : Bool) (xs : List Cell) (scope : List ℕ) (c d : Scene) → IsBegun u false scope c d → CellsFit (D u d) (nth_cell xs) → IsBegun u variadic scope c (with_rest variadic xs d)
rest_begun u true xs scope c d b h = begins_behind u xs d scope c b h
rest_begun u false xs scope c d b h = b
