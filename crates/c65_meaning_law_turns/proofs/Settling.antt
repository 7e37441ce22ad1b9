-- Runs that come to a turn or to their end.
use Rattle.std.proofs.Common.{ℕ, zero, suc, ◌≤◌, Bool, true, false, List, [], ◌∷◌, Option, Some, None, Result, Ok, Err, refl}
use Rattle.std.specs.Prelude.{⊤}
use Rattle.c65_base.specs.declared.library.Library.{Library}
use Rattle.c65_meaning.specs.Program.{ProgramTy}
use Rattle.c65_meaning.specs.Why.{Why}
use Rattle.c65_meaning.specs.Store.{Cell, Value}
use Rattle.c65_meaning.specs.Items.{Item}
use Rattle.c65_meaning.specs.State.{Scene, State, Running}
use Rattle.c65_meaning.specs.Library.{Effect, effect_of}
use Rattle.c65_meaning.specs.Step.{one, two, go_on, with_scene, decided, ended_or, finished, library_call, served, provided, step, steps}
use Rattle.c65_meaning_law_turns.proofs.Scenes.{IsSame, Keeps}

module _ (p : ProgramTy) (before : ℕ) where
  -- an end, or a turn more
  abbrev pub IsOn : State → Type 0
  IsOn (Running work values c) = suc before ≤ c.turns
  IsOn _ = ⊤

  pub record Settles (s : State) : Type 0 where
    pub count : ℕ
    pub on : IsOn (steps p count s)

  pub now : (s : State) → IsOn s → Settles s
  now s h = record { count = zero; on = h }

  pub later : (s : State) → Settles (step p s) → Settles s
  later s g = record { count = suc g.count; on = g.on }

  -- ---- what a step gives

  pub one_settles : (vs : List Value) (f : Value → List Value → State) → ((v : Value) (r : List Value) → Settles (f v r)) → Settles (one vs f)
  one_settles [] f h = now _ tt
  one_settles (v ∷ vs) f h = h v vs

  pub two_settles : (vs : List Value) (f : Value → Value → List Value → State) → ((y x : Value) (r : List Value) → Settles (f y x r)) → Settles (two vs f)
  two_settles [] f h = now _ tt
  two_settles (y ∷ []) f h = now _ tt
  two_settles (y ∷ x ∷ vs) f h = h y x vs

  pub go_settles : (v : Result Value Why) (k : List Item) (vs : List Value) (c : Scene) → ((v : Value) → Settles (Running k (v ∷ vs) c)) → Settles (go_on v k vs c)
  go_settles (Err why) k vs c h = now _ tt
  go_settles (Ok v) k vs c h = h v

  pub scene_settles : (r : Result Scene Why) (k : List Item) (vs : List Value) (c : Scene) → Keeps c r → ((d : Scene) → IsSame c d → Settles (Running k vs d)) → Settles (with_scene r k vs)
  scene_settles (Err why) k vs c s h = now _ tt
  scene_settles (Ok d) k vs c s h = h d s

  pub decided_settles : (r : Result Bool Why) (a b : State) → Settles a → Settles b → Settles (decided r a b)
  decided_settles (Err why) a b h g = now _ tt
  decided_settles (Ok true) a b h g = h
  decided_settles (Ok false) a b h g = g

  -- ---- a call of the library takes as many steps as it says

  module _ (k : List Item) (vs : List Value) (c : Scene) (h : (v : Value) (d : Scene) → IsSame c d → Settles (Running k (v ∷ vs) d)) where
    ended_settles : (e : Effect) (o : Option ℕ) → Settles (ended_or k vs c e o)
    ended_settles e None = h e.result (record c { store = e.store; input = e.input; out = e.out }) (record { depth = refl; func = refl; turns = refl })
    ended_settles e (Some status) = now _ tt

    finished_settles : (r : Result Effect Why) → Settles (finished k vs c r)
    finished_settles (Err why) = now _ tt
    finished_settles (Ok e) = ended_settles e e.status

    pub library_settles : (left : ℕ) (f : Library) (args : List Value) (rest : List Cell) → Settles (library_call left f args rest k vs c)
    library_settles zero f args rest = finished_settles (effect_of c f args rest)
    library_settles (suc left) f args rest = later _ (library_settles left f args rest)

    served_settles : (f : Library) (args : List Value) (rest : List Cell) (r : Result Effect Why) → Settles (served f args rest k vs c r)
    served_settles f args rest (Err why) = now _ tt
    served_settles f args rest (Ok e) = library_settles e.bytes f args rest

    pub provided_settles : (f : Library) (args : List Value) (rest : List Cell) → Settles (provided f args rest k vs c)
    provided_settles f args rest = served_settles f args rest (effect_of c f args rest)
