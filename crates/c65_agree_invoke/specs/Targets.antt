-- Calls through pointers, whatever the function is that the pointer names (C90 6.3.2.2; docs/MACHINE.md, "Calls").
use Rattle.std.specs.Prelude.{◌≡◌, ℕ, ◌+◌, ◌<◌, ◌≤◌, Bool, true, IsTrue, List, ◌∷◌, [], ◌++◌, Some, length, slice_get}
use Rattle.c65_ctype.specs.Trees.{QTy, type_in}
use Rattle.c65_csem.specs.Trees.{Typed, Nodes, FuncTy}
use Rattle.c65_meaning.specs.Store.{Value, Place, Shape}
use Rattle.c65_meaning.specs.Shapes.{shape_of, types_of}
use Rattle.c65_meaning.specs.Items.{Item, Invoke}
use Rattle.c65_meaning.specs.Calls.{accepts}
use Rattle.c65_meaning.specs.State.{Scene, Running}
use Rattle.c65_code.specs.declared.line.Line.{Line}
use Rattle.c65_code.specs.declared.line.Line.TheVariants.{Call}
use Rattle.c65_code.specs.declared.line.Callee.TheVariants.{Pointer}
use Rattle.c65_code.specs.declared.parts.Part.{Part}
use Rattle.c65_code.specs.declared.parts.RegSet.{RegSet}
use Rattle.c65_code.specs.Parts.{has_part}
use Rattle.c65_code.specs.LineState.{State, Same}
use Rattle.c65_code.specs.Moves.{IsCallee}
use Rattle.c65_code.specs.Comes.{Seen}
use Rattle.c65_genframe.specs.Symbols.{numbers_of, function_symbol}
use Rattle.c65_genexpr.specs.declared.arguments.Passed.{Passed}
use Rattle.c65_genexpr.specs.Types.{outcome_of, bare}
use Rattle.c65_genexpr.specs.Arguments.{is_fast, is_counted, passed_of, reads_of}
use Rattle.c65_genexpr.specs.Calls.{count_code, result_code}
use Rattle.c65_agree_store.specs.Stands.{Placing, Banks}
use Rattle.c65_agree_state.specs.World.{World, unit_in, setting_in, Active, lines_of, place_in, HasAt, HasTurns}
use Rattle.c65_agree_state.specs.Follows.{Follows}
use Rattle.c65_agree_state.specs.Exprs.{Ready, Valued, MayFit, ResultIs, width_in}
use Rattle.c65_agree_frame.specs.Ends.{IsPrimary}
use Rattle.c65_agree_argument.specs.Arguments.{Argument, AreArguments, waiting_bytes, AreThere, left_of, piled, IsOver}
use Rattle.c65_agree_invoke.specs.Nodes.{gives_in, ResultsCome}

-- ---- behind a call

-- Behind the line of a call what its arguments waited is taken off, and so many bytes wait still that waited below them; all else is
-- kept since t. The value is in the primary register, where the call and the function give so much of it, from where these lines bring it.
pub record IsReturned (g : World) (a : Active) (pushed count : ℕ) (shape : Shape) (after : List Line) (c : Scene) (q : Placing) (b : Banks) (t : State) (v : Value) (c2 : Scene) (q2 : Placing) (b2 : Banks) (u : State) : Type 0 where
  pub over : IsOver g a count c q b t c2 q2 b2 u
  pub ready : Ready g a (pushed + count) 0 c2 q2 b2 u
  pub fits : MayFit Valued shape v
  pub common : RegSet
  pub comes : ResultsCome g a shape common after
  pub last : State
  pub value : ResultIs Valued q2 (width_in shape) v last
  pub given : (part : Part) → IsPrimary part → IsTrue (has_part common part) → Same part last u

-- ---- the line of a call through ptr4

abbrev pub through_code : Bool → Passed → RegSet → List Line
through_code counted p gives = count_code counted p ++ (Call (Pointer (reads_of counted p) gives) ∷ [])

module _ (g : World) (a : Active) (n : ℕ) (t : QTy) (f : Typed) (es : Nodes) where
  abbrev pub own_shape : Shape
  own_shape = shape_of (unit_in g).types (type_in t)

  abbrev pub own_lines : List Line
  own_lines = through_code (is_counted (bare f)) (passed_of a.frame (is_fast (bare f)) es) (gives_in a.frame t)

  -- behind that line the rest is followed
  abbrev pub RestOfCall : ℕ → ℕ → ℕ → ℕ → ℕ → List Item → List Value → Scene → Placing → Banks → State → Type 0
  RestOfCall pushed count j w at k vs c q b u = (o : ℕ) (r : Value) (c2 : Scene) (q2 : Placing) (b2 : Banks) (u2 : State) (later : Seen)
      → o < j → IsReturned g a pushed count own_shape (result_code (outcome_of a.frame (type_in t))) c q b u r c2 q2 b2 u2 → HasTurns g c2.turns (place_in g a at) later
      → Follows g o (w + 3112) (Running k (r ∷ vs) c2) (place_in g a at) u2 later

  -- Where the arguments are there and ptr4 has the address of the function i, the step of the call goes on from the line that calls it, or
  -- counts what it passes and calls it.
  abbrev pub CallsIt : ℕ → Type 0
  CallsIt i = (pushed count j w at : ℕ) (k : List Item) (vs : List Value) (xs : List Argument) (c : Scene) (q : Placing) (b : Banks) (u : State) (c1 : Scene) (q1 : Placing) (b1 : Banks) (u1 : State) (seen : Seen)
      → j ≤ n → AreArguments a.frame es xs → IsOver g a (count + waiting_bytes (is_fast (bare f)) xs) c q b u c1 q1 b1 u1 → Ready g a (pushed + count + waiting_bytes (is_fast (bare f)) xs) 0 c1 q1 b1 u1
      → AreThere (is_fast (bare f)) q1 u1 xs → IsCallee (setting_in g) u1 (function_symbol (numbers_of g.parts) i).0
      → HasAt (lines_of g a) at own_lines → HasTurns g c1.turns (place_in g a at) seen
      → RestOfCall pushed count j w (at + length own_lines) k vs c q b u
      → Follows g j (w + 2000 + left_of es) (Running (Invoke (bare f) (types_of es) ∷ k) (piled xs (Place i 0 ∷ vs)) c1) (place_in g a at) u1 seen

  -- a function to which the meaning may come so
  pub record MayBeReached (i : ℕ) : Type 0 where
    pub few : i < length g.parts.funcs.items
    pub is_code : IsTrue ((setting_in g).is_function (function_symbol (numbers_of g.parts) i).0)
    pub calls : CallsIt i

  -- so it is with each function that fits the call
  abbrev pub AllMayBeReached : Type 0
  AllMayBeReached = (i : ℕ) (function : FuncTy) → slice_get (unit_in g).funcs i ≡ Some function → accepts (unit_in g) (bare f) (types_of es) function ≡ true → MayBeReached i
