-- What the lines of arguments do, where those of each do its work.
use Rattle.std.specs.Prelude.{◌≡◌, ℕ, ◌+◌, ◌≤◌, Bool}
use Rattle.c65_csem.specs.Trees.{Typed, node, pack, Nodes}
use Rattle.c65_meaning.specs.Store.{Value}
use Rattle.c65_meaning.specs.State.{Scene}
use Rattle.c65_code.specs.LineState.{State}
use Rattle.c65_code.specs.Placement.{IsPlacement}
use Rattle.c65_genwide.specs.Passing.{pass_bytes}
use Rattle.c65_agree_store.specs.Stands.{Placing, Banks}
use Rattle.c65_agree_state.specs.World.{World, unit_in, Active}
use Rattle.c65_agree_state.specs.Exprs.{Ready, Valued, yield_of, ExpressionDoes, shape_in}
use Rattle.c65_agree_put.specs.Laws.{IsScalar}
use Rattle.c65_agree_frame.specs.Leads.{Leads}
use Rattle.c65_agree_argument.specs.Arguments.{AreHeld, IsPushed, HasRoomFor, ArgumentDoes, ArgumentsDo, ArgumentsFollow, ArgumentsLeave}

-- A value goes by its bytes, of which there are four at most, from the primary register to the software stack, where they have room.
abbrev pub ValuesArePushed : Type 0
ValuesArePushed = (g : World) (a : Active) (pushed needs count : ℕ) (c : Scene) (w : Placing) (k : Banks) (t : State) (v : Value)
    → IsPlacement g.code g.place → 1 ≤ count → count ≤ 4 → AreHeld w t count v → Ready g a pushed 0 c w k t → HasRoomFor a (1 + needs) 4 c t
    → Leads g a (pass_bytes count) 333 t (IsPushed g a pushed needs count c w k v t)

-- a structure or union that is passed by its bytes
abbrev pub IsPacked : Typed → Type 0
IsPacked (node t (pack e)) = Unit {0}
IsPacked _ = ⊥

-- A number or pointer is an argument.
abbrev pub ScalarsArePassed : Type 0
ScalarsArePassed = (g : World) (a : Active) (e : Typed) → yield_of (unit_in g) e ≡ Valued → IsScalar (shape_in g a e) → (IsPacked e → ⊥) → ExpressionDoes g a e → ArgumentDoes g a e

-- Arguments are evaluated from left to right, and each waits while those behind it are.
abbrev pub ArgumentsAreFollowed : Type 0
ArgumentsAreFollowed = (g : World) (a : Active) (fast : Bool) (es : Nodes) (pushed fresh : ℕ)
    → IsPlacement g.code g.place → ArgumentsDo g a es → ArgumentsFollow g a fast es pushed fresh

-- Each leaves weight for the lines of the called function's entry.
abbrev pub ArgumentsLeaveWeight : Type 0
ArgumentsLeaveWeight = (g : World) (a : Active) (fast : Bool) (es : Nodes) (pushed fresh : ℕ)
    → IsPlacement g.code g.place → ArgumentsDo g a es → ArgumentsLeave g a fast es pushed fresh
