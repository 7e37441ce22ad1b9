-- The lines of the base of a place in a manner, to either destination: what they leave as it was, beside what they tell (C90 6.3.2.3, 6.3.3.2).
use Rattle.std.specs.Prelude.{ℕ, ◌+◌, ◌<◌, List, ◌∷◌, length}
use Rattle.c65_csem.specs.Trees.{Typed}
use Rattle.c65_csem_need.specs.Needs.{need}
use Rattle.c65_meaning.specs.Store.{Value}
use Rattle.c65_meaning.specs.Items.{Item, plan}
use Rattle.c65_meaning.specs.State.{Scene, Running}
use Rattle.c65_code.specs.declared.line.Line.{Line}
use Rattle.c65_code.specs.LineState.{State}
use Rattle.c65_code.specs.Comes.{Seen}
use Rattle.c65_genload.specs.declared.places.Place.{Place}
use Rattle.c65_genexpr.specs.declared.destination.Destination.{Destination}
use Rattle.c65_genexpr.specs.declared.destination.Destination.TheVariants.{Registers, Pointer}
use Rattle.c65_genexpr.specs.declared.wanted.Wanted.TheVariants as wanted
use Rattle.c65_genexpr.specs.Places.{place_of, target_of}
use Rattle.c65_genexpr.specs.Code.{expr_code, base_code, pointer_base_code}
use Rattle.c65_agree_store.specs.Stands.{Placing, Banks}
use Rattle.c65_agree_state.specs.World.{World, unit_in, Active, lines_of, place_in, HasAt, HasTurns}
use Rattle.c65_agree_state.specs.Follows.{Follows}
use Rattle.c65_agree_state.specs.Exprs.{Ready, Valued, Placed, Kept, shape_in}
use Rattle.c65_agree_operate.specs.Manners.{Manner, IsLeft, DoesIn}
use Rattle.c65_agree_structures.specs.Bases.{IsToldBy}

-- the state in which AX is the address that such lines bring
abbrev pub arrived_at : Destination → State → State
arrived_at Registers t = t
arrived_at Pointer t = record t { regs = record t.regs { a = t.zp 8; x = t.zp 9 } }

-- the weight that they hand on: of that of an expression a hundred is for lines that bring the address to ptr1
abbrev pub handed_on : Destination → ℕ
handed_on Registers = 2600
handed_on Pointer = 2500

module _ (g : World) (a : Active) (m : Manner) where
  module _ (d : Destination) where
    -- lines do the work of a tree, and behind them its place is told, and so much left as it was
    abbrev pub TellsIn : (List Item → List Item) → ℕ → ℕ → Place → List Line → Type 0
    TellsIn work needs pushed place lines = (n w p : ℕ) (k : List Item) (vs : List Value) (c : Scene) (q : Placing) (b : Banks) (t : State) (seen : Seen)
        → HasAt (lines_of g a) p lines → Ready g a pushed needs c q b t → HasTurns g c.turns (place_in g a p) seen
        → ((j : ℕ) (v : Value) (c2 : Scene) (q2 : Placing) (b2 : Banks) (u : State) (later : Seen)
        → j < n → Kept g a c q b t c2 q2 b2 u → IsToldBy g a place c2 q2 (arrived_at d u) v → IsLeft m c t c2 u → HasTurns g c2.turns (place_in g a (p + length lines)) later
        → Follows g j (w + handed_on d) (Running k (v ∷ vs) c2) (place_in g a (p + length lines)) u later)
        → Follows g n w (Running (work k) vs c) (place_in g a p) t seen

    -- so do the lines of a tree's base, and those of a pointer's
    abbrev pub BaseDoesIn : Typed → Type 0
    BaseDoesIn e = (pushed fresh : ℕ) → TellsIn (plan (unit_in g) e) (need e) pushed (place_of a.frame pushed e) (base_code a.frame pushed fresh d e)

    abbrev pub PointerBaseDoesIn : Typed → Type 0
    PointerBaseDoesIn e = (pushed fresh : ℕ) → TellsIn (plan (unit_in g) e) (need e) pushed (target_of a.frame pushed e) (pointer_base_code a.frame pushed fresh d e)

  -- the lines of a tree bring its value, and those of a place its address
  abbrev pub ValueDoesIn : Typed → Type 0
  ValueDoesIn e = (pushed fresh : ℕ) → DoesIn g a m Valued (shape_in g a e) (plan (unit_in g) e) (need e) pushed (expr_code a.frame pushed fresh wanted.Value e)

  abbrev pub AddressDoesIn : Typed → Type 0
  AddressDoesIn e = (pushed fresh : ℕ) → DoesIn g a m Placed (shape_in g a e) (plan (unit_in g) e) (need e) pushed (expr_code a.frame pushed fresh wanted.Value e)
