-- What a step leaves of output, turns and names of blocks: scenes that show the same, and states that show more.
use Rattle.std.proofs.Common.{◌≡◌, ℕ, suc, ◌≤◌, refl, sym, ap, List, [], ◌∷◌, ◌++◌, append-nil, Bool, true, false, ◌∙◌, arith}
use Rattle.std.specs.Prelude.{Result, Ok, Err, Option, Some, None, ⊤, if◌then◌else◌, ◌==◌}
use Rattle.c65_csem.specs.Trees.{UnitTy}
use Rattle.c65_meaning.specs.Why.{Why, ◌>>=◌}
use Rattle.c65_meaning.specs.Store.{Store, Value, Block, set_block, end_block, unset_block}
use Rattle.c65_meaning.specs.Shapes.{object_in, object_size, object_sealed}
use Rattle.c65_meaning.specs.Items.{Item}
use Rattle.c65_meaning.specs.State.{State, Undefined, Deep, Ended, Running, Frame, Scene, block_in, name_object, turned, with_store}
use Rattle.c65_meaning.specs.Step.{one, two, go_on, with_scene, decided, stored, begin_objects, begin_object, end_objects, end_named, has_turn}
use Rattle.c65_meaning.specs.Laws.{IsLater, IsLaterIn, KeepsNames}
use Rattle.c65_meaning.proofs.Blocks.{same_later, later_twice, Keeps, KeepsIf, end_keeps}

-- a scene some steps later
pub record Onward (n : ℕ) (c d : Scene) : Type 0 where
  pub shows : IsLater n c.out c.turns d.out d.turns
  pub names : KeepsNames c d

-- what a step from a scene comes to
abbrev pub Grown : Scene → State → Type 0
Grown c (Undefined why) = ⊤
Grown c Deep = ⊤
Grown c (Ended later status more) = IsLater 1 c.out c.turns later more
Grown c (Running work vs d) = Onward 1 c d

-- a scene that shows the same
pub record Same (c d : Scene) : Type 0 where
  pub same_out : d.out ≡ c.out
  pub same_turns : d.turns ≡ c.turns
  pub names : KeepsNames c d

abbrev pub SameIf : Scene → Result Scene Why → Type 0
SameIf c (Ok d) = Same c d
SameIf c (Err why) = ⊤

pub names_itself : (c : Scene) → KeepsNames c c
names_itself c = record { later = omega arith; blocks = λ b h. same_later (c.store b) }

pub names_twice : (c d e : Scene) → KeepsNames c d → KeepsNames d e → KeepsNames c e
names_twice c d e h g = let first : c.next ≤ d.next = h.later in let second : d.next ≤ e.next = g.later in record { later = omega arith; blocks = λ b small. later_twice (c.store b) (d.store b) (e.store b) (h.blocks b small) (g.blocks b (omega arith)) }

pub itself : (c : Scene) → Same c c
itself c = record { same_out = refl; same_turns = refl; names = names_itself c }

pub same_twice : (c d e : Scene) → Same c d → Same d e → Same c e
same_twice c d e h g = record { same_out = g.same_out ∙ h.same_out; same_turns = g.same_turns ∙ h.same_turns; names = names_twice c d e h.names g.names }

pub no_later : (out later : List ℕ) (turns more : ℕ) → later ≡ out → more ≡ turns → IsLater 1 out turns later more
no_later out later turns more e f = record { written = []; begins = e ∙ sym (append-nil out); least = omega arith; most = omega arith }

pub one_turn : (out later : List ℕ) (turns more : ℕ) → later ≡ out → more ≡ suc turns → IsLater 1 out turns later more
one_turn out later turns more e f = record { written = []; begins = e ∙ sym (append-nil out); least = omega arith; most = omega arith }

pub more_out : (out later w : List ℕ) (turns : ℕ) → later ≡ out ++ w → IsLater 1 out turns later turns
more_out out later w turns e = record { written = w; begins = e; least = omega arith; most = omega arith }

pub runs : (c : Scene) (k : List Item) (vs : List Value) (d : Scene) → Same c d → Grown c (Running k vs d)
runs c k vs d h = record { shows = no_later c.out d.out c.turns d.turns h.same_out h.same_turns; names = h.names }

-- behind a turn
pub turns_on : (c : Scene) (k : List Item) (vs : List Value) (d : Scene) → Same (turned c) d → Grown c (Running k vs d)
turns_on c k vs d h = record { shows = one_turn c.out d.out c.turns d.turns h.same_out h.same_turns; names = record { later = h.names.later; blocks = h.names.blocks } }

pub same : (k : List Item) (vs : List Value) (c : Scene) → Grown c (Running k vs c)
same k vs c = runs c k vs c (itself c)

pub turn : (k : List Item) (vs : List Value) (c : Scene) → Grown c (Running k vs (turned c))
turn k vs c = turns_on c k vs (turned c) (itself (turned c))

pub one_grows : (c : Scene) (vs : List Value) (f : Value → List Value → State) → ((v : Value) (r : List Value) → Grown c (f v r)) → Grown c (one vs f)
one_grows c [] f h = tt
one_grows c (v ∷ vs) f h = h v vs

pub two_grow : (c : Scene) (vs : List Value) (f : Value → Value → List Value → State) → ((y x : Value) (r : List Value) → Grown c (f y x r)) → Grown c (two vs f)
two_grow c [] f h = tt
two_grow c (y ∷ []) f h = tt
two_grow c (y ∷ x ∷ vs) f h = h y x vs

pub go_on_grows : (c : Scene) (o : Result Value Why) (k : List Item) (vs : List Value) (d : Scene) → Same c d → Grown c (go_on o k vs d)
go_on_grows c (Err why) k vs d h = tt
go_on_grows c (Ok v) k vs d h = runs c k (v ∷ vs) d h

pub goes_on : (c : Scene) (o : Result Value Why) (k : List Item) (vs : List Value) → Grown c (go_on o k vs c)
goes_on c o k vs = go_on_grows c o k vs c (itself c)

pub if_grows : (c : Scene) (t : Bool) (a b : State) → Grown c a → Grown c b → Grown c (if t then a else b)
if_grows c true a b g h = g
if_grows c false a b g h = h

pub decided_grows : (c : Scene) (o : Result Bool Why) (a b : State) → Grown c a → Grown c b → Grown c (decided o a b)
decided_grows c (Err why) a b g h = tt
decided_grows c (Ok true) a b g h = g
decided_grows c (Ok false) a b g h = h

pub with_scene_grows : (c : Scene) (o : Result Scene Why) (k : List Item) (vs : List Value) → SameIf c o → Grown c (with_scene o k vs)
with_scene_grows c (Err why) k vs h = tt
with_scene_grows c (Ok d) k vs h = runs c k vs d h

-- ---- stores

pub store_same : (c : Scene) (s : Store) → Keeps c.store s → Same c (with_store c s)
store_same c s h = record { same_out = refl; same_turns = refl; names = record { later = omega arith; blocks = λ b small. h b } }

pub stored_same : (c : Scene) (o : Result Store Why) → KeepsIf c.store o → SameIf c (stored c o)
stored_same c (Err why) h = tt
stored_same c (Ok s) h = store_same c s h

pub then_same : (c : Scene) (f : Scene → Result Scene Why) (o : Result Scene Why) → SameIf c o → ((d : Scene) → Same c d → SameIf c (f d)) → SameIf c (o >>= f)
then_same c f (Err why) h g = tt
then_same c f (Ok d) h g = g d h

-- ---- beginning and end of blocks

-- a number below the next new one is not that one
older : (s : Store) (next b : ℕ) (x : Block) (t : Bool) → (b == next) ≡ t → suc b ≤ next → IsLaterIn (s b) (if t then Some x else s b)
older s next b x true e h = let same : b ≡ next = grind arith in absurd (omega arith)
older s next b x false e h = same_later (s b)

-- a new block
pub block_begins : (c : Scene) (x : Block) (fs : List Frame) → Same c (record c { frames = fs; store = set_block c.store c.next x; next = suc c.next })
block_begins c x fs = record { same_out = refl; same_turns = refl; names = record { later = omega arith; blocks = λ b small. older c.store c.next b x (b == c.next) refl small } }

begin_one : (u : UnitTy) (i : ℕ) (c : Scene) → Same c (begin_object u i c)
begin_one u i c = block_begins c (unset_block (object_size u.types (object_in u i)) (object_sealed (object_in u i))) (name_object c.frames i c.next)

pub begin_keeps : (u : UnitTy) (i : ℕ) (c d : Scene) → Same c d → Same c (begin_object u i d)
begin_keeps u i c d h = same_twice c d (begin_object u i d) h (begin_one u i d)

pub begin_same : (u : UnitTy) (objects : List ℕ) (c d : Scene) → Same c d → Same c (begin_objects u objects d)
begin_same u [] c d h = h
begin_same u (i ∷ rest) c d h = begin_same u rest c (begin_object u i d) (begin_keeps u i c d h)

pub end_one : (o : Option ℕ) (c : Scene) → Same c (end_named o c)
end_one None c = itself c
end_one (Some b) c = store_same c (end_block c.store b) (end_keeps c.store b)

pub end_same : (objects : List ℕ) (c d : Scene) → Same c d → Same c (end_objects objects d)
end_same [] c d h = h
end_same (i ∷ rest) c d h = end_same rest c (end_named (block_in d.frames i) d) (same_twice c d (end_named (block_in d.frames i) d) h (end_one (block_in d.frames i) d))

pub has_turn_grows : (c : Scene) (t : Bool) (k : List Item) (vs : List Value) (d : Scene) → Same c d → Grown c (Running k vs (has_turn t d))
has_turn_grows c true k vs d h = record { shows = one_turn c.out d.out c.turns (suc d.turns) h.same_out (ap suc h.same_turns); names = record { later = h.names.later; blocks = h.names.blocks } }
has_turn_grows c false k vs d h = runs c k vs d h
