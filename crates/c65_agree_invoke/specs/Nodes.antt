-- A call in an expression, with its arguments (C90 6.3.2.2; docs/MACHINE.md, "Calls").
use Rattle.std.specs.Prelude.{◌≡◌, ℕ, ◌+◌, ◌*◌, ◌<◌, ◌≤◌, if◌then◌else◌, Bool, true, false, IsTrue, List, [], ◌∷◌, Some, None, length, slice_get}
use Rattle.c65_ctype.specs.Trees.{QTy, type_in}
use Rattle.c65_csem.specs.Trees.{Typed, node, decay, func, call, Nodes, none, some, Stmt, UnitTy, FuncTy}
use Rattle.c65_csem_need.specs.Needs.{need}
use Rattle.c65_meaning.specs.Store.{Value, Shape, Pointer, size_in}
use Rattle.c65_meaning.specs.Shapes.{shape_of, types_of}
use Rattle.c65_meaning.specs.Items.{Item, plan}
use Rattle.c65_meaning.specs.Calls.{is_variadic, accepts}
use Rattle.c65_meaning.specs.State.{Scene, Running}
use Rattle.c65_code.specs.declared.line.Line.{Line}
use Rattle.c65_code.specs.declared.line.Line.TheVariants.{Call}
use Rattle.c65_code.specs.declared.line.Callee.{Callee}
use Rattle.c65_code.specs.declared.line.Callee.TheVariants.{Routine}
use Rattle.c65_code.specs.declared.parts.Part.{Part}
use Rattle.c65_code.specs.declared.parts.RegSet.{RegSet}
use Rattle.c65_code.specs.Parts.{has_part}
use Rattle.c65_code.specs.LineState.{State, Same}
use Rattle.c65_code.specs.Moves.{common_of}
use Rattle.c65_code.specs.Placement.{IsPlacement, program_start, stack_end}
use Rattle.c65_code.specs.Steady.{HasLines}
use Rattle.c65_code.specs.Comes.{Seen}
use Rattle.c65_genframe.specs.declared.home.Arrival.{Arrival}
use Rattle.c65_genframe.specs.declared.home.Arrival.TheVariants.{Passed, Pushed, Kept as InRegbank}
use Rattle.c65_genframe.specs.Frames.{Framed, is_kept, saved_bytes}
use Rattle.c65_genframe.specs.Symbols.{numbers_of, function_symbol}
use Rattle.c65_genframe.specs.Registers.{registers}
use Rattle.c65_genexpr.specs.declared.wanted.Wanted.TheVariants as wanted
use Rattle.c65_genexpr.specs.Types.{outcome_of, given_bytes, bare}
use Rattle.c65_genexpr.specs.Arguments.{is_fast, is_counted, stays, passed_size, passed_of, argument_bytes}
use Rattle.c65_genexpr.specs.Calls.{named, library_at, result_code}
use Rattle.c65_genexpr.specs.Code.{expr_code}
use Rattle.c65_agree_store.specs.Stands.{Placing, Banks}
use Rattle.c65_agree_state.specs.World.{World, unit_in, setting_in, Active, lines_of, place_in, owned_at, HasAt, HasTurns}
use Rattle.c65_agree_state.specs.Joins.{call_bytes}
use Rattle.c65_agree_state.specs.Follows.{Follows}
use Rattle.c65_agree_state.specs.Exprs.{Ready, Yield, Valued, yield_of, MayFit, ResultIs, Kept, Rest, width_in}
use Rattle.c65_agree_state.specs.Exprs as exprs
use Rattle.c65_agree_put.specs.Laws.{IsScalar}
use Rattle.c65_agree_frame.specs.Leads.{Leads}
use Rattle.c65_agree_frame.specs.Ends.{IsPrimary}
use Rattle.c65_agree_registers.specs.Checks.{asked_by}
use Rattle.c65_agree_registers.specs.Entries.{HasMoves}
use Rattle.c65_agree_enter.specs.Params.{shape_in, AreDistinct}
use Rattle.c65_agree_enter.specs.Entries.{FixedAreLow, HaveHomes}
use Rattle.c65_agree_call.specs.Calls.{cost_of, HasEnds, BodyDoes}
use Rattle.c65_agree_argument.specs.Arguments.{ArgumentsDo}
use Rattle.c65_agree_argument.specs.Passed.{IsTakenBy, entering}

-- ---- the called function

-- the bytes of a call's arguments, and how the one arrives that stays in registers
abbrev pub sizes_of : Framed → Nodes → ℕ
sizes_of f none = 0
sizes_of f (some e es) = passed_size f e + sizes_of f es

abbrev pub arrival_of : Framed → Bool → Nodes → Arrival
arrival_of f fast none = Passed
arrival_of f fast (some e es) = if stays fast es then Pushed (passed_size f e) else arrival_of f fast es

-- so it does, or the function has its parameter in regbank
abbrev pub IsArrival : Framed → Bool → Nodes → Arrival → Type 0
IsArrival f fast es (InRegbank bank bytes) = IsTrue fast
IsArrival f fast es last = last ≡ arrival_of f fast es

-- the bytes of all arguments but the last, where that one is kept in registers
abbrev pub stacked_of : Bool → Framed → Nodes → ℕ
stacked_of kept f none = 0
stacked_of kept f (some e es) = argument_bytes (stays kept es) (passed_size f e) + stacked_of kept f es

-- the frame h takes each parameter from where the argument comes that a function with the frame f passes: one below another, down to this
-- offset, but for the last one where it is kept in registers
abbrev pub HaveSlots : Bool → UnitTy → Framed → Framed → ℕ → List ℕ → Nodes → Type 0
HaveSlots kept u f h at [] none = Unit {0}
HaveSlots kept u f h at (i ∷ is) (some e es) = IsTakenBy (stays kept es) u h i (at + stacked_of kept f es) × (size_in (shape_in u i) ≤ passed_size f e) × HaveSlots kept u f h at is es
HaveSlots kept u f h at _ _ = ⊥

-- a call of the function i with this frame
pub record IsCalling (g : World) (i : ℕ) (h : Framed) (spare : ℕ) (a : Active) : Type 0 where
  pub func : a.func ≡ i
  pub symbol : a.symbol ≡ (function_symbol (numbers_of g.parts) i).0
  pub frame : a.frame ≡ h
  pub raised : a.raised ≡ 0
  pub spare_bytes : a.spare ≡ spare

-- The function i has a body and lines of its own, and takes these arguments of a function with the frame f and no further ones. Its costs
-- in the source are enough for what it takes of the software stack, and for what its entry asks where it checks the stacks.
pub record IsCallee (g : World) (f : Framed) (i : ℕ) (h : Framed) (needs spare e : ℕ) (function : FuncTy) (body : Stmt) (fast : Bool) (es : Nodes) : Type 0 where
  pub own : (setting_in g).library (function_symbol (numbers_of g.parts) i).0 ≡ None
  pub lines : HasLines ((setting_in g).lines (function_symbol (numbers_of g.parts) i).0)
  pub ends : (a : Active) → IsCalling g i h spare a → HasEnds g a e
  pub is_function : slice_get (unit_in g).funcs i ≡ Some function
  pub has_body : function.body ≡ Some body
  pub all_named : is_variadic function.ty ≡ false
  pub fixed : h.variadic ≡ false
  pub moves : HasMoves h
  pub homes : (a : Active) → IsCalling g i h spare a → program_start ≤ a.base → a.base + call_bytes a ≤ stack_end → HaveHomes g a function.params
  pub distinct : AreDistinct function.params
  pub slots : HaveSlots (is_kept h.last) (unit_in g) f h (h.soft + saved_bytes h.bank) function.params es
  pub arrives : IsArrival f fast es h.last
  pub stacked : h.stacked ≡ stacked_of (is_kept h.last) f es
  pub few : length h.moved ≤ length (types_of es)
  pub small : h.soft ≤ 1025
  pub short : h.stacked ≤ 1024
  pub costs : h.soft + (saved_bytes h.bank + entering h.last (passed_of f fast es).last) + 8 * needs + spare ≤ cost_of (unit_in g) (types_of es) body
  pub asks : asked_by h.check ≤ cost_of (unit_in g) (types_of es) body

-- its body does its work in each of its calls that are on the software stack with all that they have there, for less than n steps
abbrev pub BodiesDo : World → ℕ → Framed → ℕ → ℕ → Stmt → Shape → ℕ → Type 0
BodiesDo g i h needs spare body result n = (a : Active) (below : List Item) (vs : List Value) (j v : ℕ) → IsCalling g i h spare a → a.base + call_bytes a ≤ stack_end → j < n → 2600 ≤ v → BodyDoes g a needs body result below vs j v

-- ---- the result

-- Behind the line of a call these lines bring the value to the primary register, where the call and the function give so much of it.
abbrev pub ResultsCome : World → Active → Shape → RegSet → List Line → Type 0
ResultsCome g a shape common after = (pushed : ℕ) (c : Scene) (w : Placing) (k : Banks) (v : Value) (last u : State)
    → Ready g a pushed 0 c w k u → MayFit Valued shape v → ResultIs Valued w (width_in shape) v last → ((part : Part) → IsPrimary part → IsTrue (has_part common part) → Same part last u)
    → Leads g a after 256 u (λ x. Kept g a c w k u c w k x × ResultIs Valued w (width_in shape) v x)

-- ---- the node

-- each line that calls a function counts the turn of its call
abbrev pub IsOfFunction : Callee → Type 0
IsOfFunction (Routine r) = ⊥
IsOfFunction _ = Unit {0}

abbrev pub CallsAreOwned : World → Active → Type 0
CallsAreOwned g a = (p : ℕ) (callee : Callee) → IsOfFunction callee → slice_get (lines_of g a) p ≡ Some (Call callee) → 1 ≤ owned_at g.owns (place_in g a p)

module _ (g : World) (a : Active) where
  -- lines do the work, where so many steps are left
  abbrev pub DoesFor : ℕ → Yield → Shape → (List Item → List Item) → ℕ → ℕ → List Line → Type 0
  DoesFor n yield shape work needs pushed lines = (w p : ℕ) (k : List Item) (vs : List Value) (c : Scene) (q : Placing) (b : Banks) (t : State) (seen : Seen)
      → HasAt (lines_of g a) p lines → Ready g a pushed needs c q b t → HasTurns g c.turns (place_in g a p) seen
      → Rest g a yield shape n w k vs (p + length lines) c q b t
      → Follows g n w (Running (work k) vs c) (place_in g a p) t seen

abbrev pub by_name : QTy → QTy → ℕ → Typed
by_name s r i = node s (decay (node r (func i)))

abbrev pub gives_in : Framed → QTy → RegSet
gives_in f t = registers (given_bytes (outcome_of f (type_in t)))

-- A call of a function by its name does its work for n steps, where its arguments do theirs and the body of the function does for fewer.
abbrev pub NamedCallsDo : Type 0
NamedCallsDo = (g : World) (a : Active) (i : ℕ) (h : Framed) (needs spare e n : ℕ) (function : FuncTy) (body : Stmt) (t s r : QTy) (es : Nodes) (pushed fresh : ℕ)
    → IsPlacement g.code g.place → FixedAreLow g → CallsAreOwned g a → 1 ≤ a.spare → a.frame.parts ≡ g.parts
    → library_at a.frame i ≡ None → is_counted (bare (by_name s r i)) ≡ false
    → IsCallee g a.frame i h needs spare e function body (is_fast (bare (by_name s r i))) es → ArgumentsDo g a es
    → BodiesDo g i h needs spare body (shape_of (unit_in g).types (type_in t)) n
    → ResultsCome g a (shape_of (unit_in g).types (type_in t)) (common_of (gives_in a.frame t) ((setting_in g).gives (function_symbol (numbers_of g.parts) i).0)) (result_code (outcome_of a.frame (type_in t)))
    → DoesFor g a n Valued (shape_of (unit_in g).types (type_in t)) (plan (unit_in g) (node t (call (by_name s r i) es))) (need (node t (call (by_name s r i) es))) pushed
    (expr_code a.frame pushed fresh wanted.Value (node t (call (by_name s r i) es)))

-- A number or pointer comes back where the call and the function give the same registers: all of a character where they give A alone.
abbrev pub ScalarsComeBack : Type 0
ScalarsComeBack = (g : World) (a : Active) (t : QTy) (gives : RegSet) → IsPlacement g.code g.place → IsScalar (shape_of (unit_in g).types (type_in t)) → gives ≡ gives_in a.frame t
    → ResultsCome g a (shape_of (unit_in g).types (type_in t)) (common_of (gives_in a.frame t) gives) (result_code (outcome_of a.frame (type_in t)))

-- ---- through a pointer

-- a function to which the meaning may come so: it has all that such a call asks for
pub record MayBeCalled (g : World) (a : Active) (t : QTy) (fast : Bool) (es : Nodes) (n i : ℕ) (function : FuncTy) : Type 0 where
  pub body : Stmt
  pub frame : Framed
  pub needs : ℕ
  pub spare : ℕ
  pub end : ℕ
  pub callee : IsCallee g a.frame i frame needs spare end function body fast es
  pub bodies : BodiesDo g i frame needs spare body (shape_of (unit_in g).types (type_in t)) n
  pub comes : ResultsCome g a (shape_of (unit_in g).types (type_in t)) (common_of (gives_in a.frame t) ((setting_in g).gives (function_symbol (numbers_of g.parts) i).0)) (result_code (outcome_of a.frame (type_in t)))
  pub few : i < length g.parts.funcs.items
  pub is_code : IsTrue ((setting_in g).is_function (function_symbol (numbers_of g.parts) i).0)

-- so has each function that fits the call
abbrev pub TargetsMayBeCalled : World → Active → QTy → Typed → Nodes → ℕ → Type 0
TargetsMayBeCalled g a t f es n = (i : ℕ) (function : FuncTy) → slice_get (unit_in g).funcs i ≡ Some function → accepts (unit_in g) (bare f) (types_of es) function ≡ true
    → MayBeCalled g a t (is_fast (bare f)) es n i function

-- A call through a pointer, without arguments or with some, does its work for n steps, where the pointer and the arguments do theirs and
-- the body of each function that fits it does for fewer.
abbrev pub PointerCallsDo : Type 0
PointerCallsDo = (g : World) (a : Active) (n size : ℕ) (t : QTy) (f : Typed) (es : Nodes) (pushed fresh : ℕ)
    → IsPlacement g.code g.place → FixedAreLow g → CallsAreOwned g a → 1 ≤ a.spare
    → named f ≡ None → is_counted (bare f) ≡ false → yield_of (unit_in g) f ≡ Valued → exprs.shape_in g a f ≡ Pointer size → sizes_of a.frame es ≤ 250
    → exprs.ExpressionDoes g a f → ArgumentsDo g a es → TargetsMayBeCalled g a t f es n
    → DoesFor g a n Valued (shape_of (unit_in g).types (type_in t)) (plan (unit_in g) (node t (call f es))) (need (node t (call f es))) pushed (expr_code a.frame pushed fresh wanted.Value (node t (call f es)))
