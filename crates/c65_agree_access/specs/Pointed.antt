-- The lines before those that read a byte or two behind ptr1, which bring there what tells a place (C90 6.3.2.3, 6.3.3.2).
use Rattle.std.specs.Prelude.{ℕ, ◌+◌, ◌<◌, List, ◌∷◌, length}
use Rattle.c65_csem.specs.Trees.{Typed}
use Rattle.c65_csem_need.specs.Needs.{need}
use Rattle.c65_meaning.specs.Store.{Value}
use Rattle.c65_meaning.specs.Items.{Item, plan}
use Rattle.c65_meaning.specs.State.{Scene, Running}
use Rattle.c65_code.specs.declared.line.Line.{Line}
use Rattle.c65_code.specs.LineState.{State}
use Rattle.c65_code.specs.Comes.{Seen}
use Rattle.c65_genload.specs.declared.places.Place.{Place}
use Rattle.c65_genexpr.specs.declared.destination.Destination.TheVariants.{Pointer}
use Rattle.c65_genexpr.specs.Places.{place_of, target_of}
use Rattle.c65_genexpr.specs.Code.{base_code, pointer_base_code}
use Rattle.c65_agree_store.specs.Stands.{Placing, Banks}
use Rattle.c65_agree_state.specs.World.{World, unit_in, Active, lines_of, place_in, HasAt, HasTurns}
use Rattle.c65_agree_state.specs.Follows.{Follows}
use Rattle.c65_agree_state.specs.Exprs.{Ready, Kept}
use Rattle.c65_agree_structures.specs.Bases.{IsToldBy}

-- the state in which AX is what ptr1 is
abbrev pub with_pointer : State → State
with_pointer t = record t { regs = record t.regs { a = t.zp 8; x = t.zp 9 } }

module _ (g : World) (a : Active) where
  -- lines do the work of a tree, and behind them its place is told, by the address in ptr1 where it is anywhere
  abbrev pub TellsPointed : (List Item → List Item) → ℕ → ℕ → Place → List Line → Type 0
  TellsPointed work needs pushed place lines = (n w p : ℕ) (k : List Item) (vs : List Value) (c : Scene) (q : Placing) (b : Banks) (t : State) (seen : Seen)
      → HasAt (lines_of g a) p lines → Ready g a pushed needs c q b t → HasTurns g c.turns (place_in g a p) seen
      → ((j : ℕ) (v : Value) (c2 : Scene) (q2 : Placing) (b2 : Banks) (u : State) (later : Seen)
      → j < n → Kept g a c q b t c2 q2 b2 u → IsToldBy g a place c2 q2 (with_pointer u) v → HasTurns g c2.turns (place_in g a (p + length lines)) later
      → Follows g j (w + 2500) (Running k (v ∷ vs) c2) (place_in g a (p + length lines)) u later)
      → Follows g n w (Running (work k) vs c) (place_in g a p) t seen

  -- so do the lines of a tree's base, and of a pointer's, that are to bring it to ptr1
  abbrev pub PointedDoes : Typed → Type 0
  PointedDoes e = (pushed fresh : ℕ) → TellsPointed (plan (unit_in g) e) (need e) pushed (place_of a.frame pushed e) (base_code a.frame pushed fresh Pointer e)

  abbrev pub TargetPointedDoes : Typed → Type 0
  TargetPointedDoes e = (pushed fresh : ℕ) → TellsPointed (plan (unit_in g) e) (need e) pushed (target_of a.frame pushed e) (pointer_base_code a.frame pushed fresh Pointer e)
