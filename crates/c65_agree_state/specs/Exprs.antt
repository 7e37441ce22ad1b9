-- What the lines of an expression do: by continuation, so that ends, cut-offs and undefined actions need no cases.
use Rattle.std.specs.Prelude.{◌≡◌, ℕ, zero, suc, ◌+◌, ◌*◌, ◌<◌, ◌≤◌, Bool, true, false, ◌&&◌, if◌then◌else◌, List, [], ◌∷◌, Option, Some, None, Ok, length}
use Rattle.std.specs.Bool.{beq}
use Rattle.c65_ctype.specs.Trees.{type_in}
use Rattle.c65_csem.specs.Trees.{Typed, node, Node, choice, comma, copy, spill, UnitTy}
use Rattle.c65_csem.specs.Places.{is_place, is_registered, is_tag}
use Rattle.c65_csem_need.specs.Needs.{need}
use Rattle.c65_meaning.specs.Store.{Block, Store, Value, Place, Cells, NoValue, Shape, Number, Area}
use Rattle.c65_meaning.specs.Fits.{Fits}
use Rattle.c65_meaning.specs.Operators.{truth_of}
use Rattle.c65_meaning.specs.Shapes.{shape_of, bare_type}
use Rattle.c65_meaning.specs.Items.{Item, plan}
use Rattle.c65_meaning.specs.State.{Scene, Running, soft_sum}
use Rattle.c65_code.specs.declared.line.Line.{Line}
use Rattle.c65_code.specs.declared.routine.Width.{Width}
use Rattle.c65_code.specs.declared.routine.Width.TheVariants.{Ax}
use Rattle.c65_code.specs.LineState.{State, sp_of, ax_of, eax_of}
use Rattle.c65_code.specs.Placement.{stack_end}
use Rattle.c65_code.specs.Numbers.{words_of}
use Rattle.c65_code.specs.Rows.{primary_of}
use Rattle.c65_code.specs.Moves.{labelled}
use Rattle.c65_code.specs.Comes.{Seen}
use Rattle.c65_genwide.specs.Wide.{width_of}
use Rattle.c65_genexpr.specs.declared.wanted.Wanted.TheVariants as wanted
use Rattle.c65_genexpr.specs.Code.{expr_code}
use Rattle.c65_agree_store.specs.Stands.{At, Placing, Banks, Grows, CellsAre, ValueIs, IsFree}
use Rattle.c65_agree_state.specs.World.{World, unit_in, Active, lines_of, place_in, HasAt, HasTurns, HasBranched}
use Rattle.c65_agree_state.specs.Joins.{Joins}
use Rattle.c65_agree_state.specs.Follows.{Follows}

-- a state in which an expression may begin, with so many bytes that wait
pub record Ready (g : World) (a : Active) (pushed needs : ℕ) (c : Scene) (w : Placing) (k : Banks) (t : State) : Type 0 where
  pub joins : Joins g a c w k t
  pub sp : sp_of t + pushed ≡ a.base
  -- sp is at least as high as the costs of the active calls say, with eight bytes for each value that may still wait, and the spare ones
  pub room : stack_end + 8 * needs + a.spare ≤ sp_of t + soft_sum c.frames
  pub none_pushed : t.pushed ≡ []

-- ---- values

-- where a value of a shape stands
abbrev pub width_in : Shape → Width
width_in (Number t) = width_of t
width_in _ = Ax

-- What a tree gives: a value, a place in memory, or a place that an object of class register has, which may be in regbank.
pub data Yield : Type 0 where
  Valued : Yield
  Placed : Yield
  Registered : Yield

-- nodes whose value, where it is a structure or union, stands in memory: an arm, the right side of `,`, what a copy has filled, and the
-- object that takes what a call gives
abbrev pub leads_on : Node → Bool
leads_on (choice x a b) = true
leads_on (comma a b) = true
leads_on (copy a b) = true
leads_on (spill i e) = true
leads_on _ = false

abbrev pub is_area : Typed → Bool
is_area (node t e) = leads_on e && is_tag (type_in t)

abbrev pub yield_of : UnitTy → Typed → Yield
yield_of u e = if is_place e then (if is_registered u e then Registered else Placed) else if is_area e then Placed else Valued

abbrev pub IsPlaceValue : Value → Type 0
IsPlaceValue (Place b o) = Unit {0}
IsPlaceValue _ = ⊥

-- the value of a structure or union that is passed or given is its cells, and that of void is none
abbrev pub IsAreaValue : ℕ → Value → Type 0
IsAreaValue zero v = v ≡ NoValue
IsAreaValue (suc size) NoValue = Unit {0}
IsAreaValue (suc size) (Cells xs) = length xs ≡ suc size
IsAreaValue (suc size) v = ⊥

-- A number lies in the range of its type. A function may have given no value, which no use allows.
abbrev pub MayFit : Yield → Shape → Value → Type 0
MayFit Valued (Area size) v = IsAreaValue size v
MayFit Valued shape NoValue = Unit {0}
MayFit Valued shape v = Fits shape v
MayFit _ shape v = IsPlaceValue v

-- A number has the primary register of its width to itself, extended by its sign. The cells of a structure or union that is passed or
-- returned stand in A, X and sreg, whatever its size. A place has its address in AX, where it has one: a place in regbank has none.
abbrev pub ResultIs : Yield → Placing → Width → Value → State → Type 0
ResultIs Valued w width (Cells xs) t = CellsAre w xs (eax_of t)
ResultIs Valued w width v t = ValueIs w (words_of width) v (primary_of width t)
ResultIs Placed w width v t = ValueIs w 65536 v (ax_of t)
ResultIs Registered w width (Place b o) t = (at : ℕ) → w b ≡ Some (At at) → ax_of t ≡ at + o
ResultIs Registered w width v t = Unit {0}

-- ---- what an expression keeps

-- the size of a block, and whether it lives
abbrev pub bounds_of : Option Block → Option (ℕ × Bool)
bounds_of None = None
bounds_of (Some x) = Some (x.size, x.live)

-- Between the states t and u: sp and the active calls are as before, places were only gained, of the blocks that there were none has
-- ended or lives again, and each byte from sp on that no live block had stays, and no live block has it now.
pub record Kept (g : World) (a : Active) (c : Scene) (w : Placing) (k : Banks) (t : State) (c2 : Scene) (w2 : Placing) (k2 : Banks) (u : State) : Type 0 where
  pub joins : Joins g a c2 w2 k2 u
  pub sp : sp_of u ≡ sp_of t
  pub frames : c2.frames ≡ c.frames
  pub next : c.next ≤ c2.next
  pub bounds : (b : ℕ) → b < c.next → bounds_of (c2.store b) ≡ bounds_of (c.store b)
  pub grows : Grows w w2
  pub kept : (n : ℕ) → sp_of t ≤ n → IsFree c.store w (At n) → (u.mem n ≡ t.mem n) × IsFree c2.store w2 (At n)
  -- the regbanks of the calls behind stay, and of that of the active call the bytes that its frame does not take
  pub banks : (d i : ℕ) → d < length a.behind → k2 d i ≡ k d i
  pub own_bank : (i : ℕ) → a.frame.bank ≤ i → k2 (length a.behind) i ≡ k (length a.behind) i
  pub none_pushed : u.pushed ≡ []

-- the state u after an expression that began at t: its value is in the registers
pub record Done (g : World) (a : Active) (yield : Yield) (shape : Shape) (c : Scene) (w : Placing) (k : Banks) (t : State) (v : Value) (c2 : Scene) (w2 : Placing) (k2 : Banks) (u : State) : Type 0 where
  pub kept : Kept g a c w k t c2 w2 k2 u
  pub result : ResultIs yield w2 (width_in shape) v u
  pub fits : MayFit yield shape v

-- a test in the sense s goes to its label if the value's truth is s; where it has none, no use of the value is defined
abbrev pub Tells : Store → Value → Bool → Bool → Type 0
Tells store v s taken = (b : Bool) → truth_of store v ≡ Ok b → taken ≡ beq b s

-- ---- what lines do

module _ (g : World) (a : Active) where
  -- wherever the expression ends, the rest is followed; it hands on a weight of 2,600
  abbrev pub Rest : Yield → Shape → ℕ → ℕ → List Item → List Value → ℕ → Scene → Placing → Banks → State → Type 0
  Rest yield shape n w k vs p c q b t = (j : ℕ) (v : Value) (c2 : Scene) (q2 : Placing) (b2 : Banks) (u : State) (seen : Seen)
      → j < n → Done g a yield shape c q b t v c2 q2 b2 u → HasTurns g c2.turns (place_in g a p) seen
      → Follows g j (w + 2600) (Running k (v ∷ vs) c2) (place_in g a p) u seen

  -- the same behind a test, at its label or behind its lines
  abbrev pub RestOfTest : Shape → Bool → ℕ → ℕ → ℕ → List Item → List Value → ℕ → Scene → Placing → Banks → State → Type 0
  RestOfTest shape s to n w k vs p c q b t = (j : ℕ) (v : Value) (taken : Bool) (c2 : Scene) (q2 : Placing) (b2 : Banks) (u : State) (seen : Seen)
      → j < n → Kept g a c q b t c2 q2 b2 u → MayFit Valued shape v → Tells c2.store v s taken
      → HasBranched g taken c2.turns (place_in g a (if taken then labelled (lines_of g a) to else p)) seen
      → Follows g j (w + 2600) (Running k (v ∷ vs) c2) (place_in g a (if taken then labelled (lines_of g a) to else p)) u seen

  -- the lines, wherever they stand in the function, do the work
  abbrev pub Does : Yield → Shape → (List Item → List Item) → ℕ → ℕ → List Line → Type 0
  Does yield shape work needs pushed lines = (n w p : ℕ) (k : List Item) (vs : List Value) (c : Scene) (q : Placing) (b : Banks) (t : State) (seen : Seen)
      → HasAt (lines_of g a) p lines → Ready g a pushed needs c q b t → HasTurns g c.turns (place_in g a p) seen
      → Rest yield shape n w k vs (p + length lines) c q b t
      → Follows g n w (Running (work k) vs c) (place_in g a p) t seen

  abbrev pub Tests : Shape → Bool → ℕ → (List Item → List Item) → ℕ → ℕ → List Line → Type 0
  Tests shape s to work needs pushed lines = (n w p : ℕ) (k : List Item) (vs : List Value) (c : Scene) (q : Placing) (b : Banks) (t : State) (seen : Seen)
      → HasAt (lines_of g a) p lines → Ready g a pushed needs c q b t → HasTurns g c.turns (place_in g a p) seen
      → RestOfTest shape s to n w k vs (p + length lines) c q b t
      → Follows g n w (Running (work k) vs c) (place_in g a p) t seen

  abbrev pub shape_in : Typed → Shape
  shape_in e = shape_of (unit_in g).types (bare_type e)

  -- the lines of a tree are to do its work
  abbrev pub ExpressionDoes : Typed → Type 0
  ExpressionDoes e = (pushed fresh : ℕ) → Does (yield_of (unit_in g) e) (shape_in e) (plan (unit_in g) e) (need e) pushed (expr_code a.frame pushed fresh wanted.Value e)

  -- and those of a test of it
  abbrev pub TestDoes : Typed → Type 0
  TestDoes e = (pushed fresh to : ℕ) (s : Bool) → Tests (shape_in e) s to (plan (unit_in g) e) (need e) pushed (expr_code a.frame pushed fresh (wanted.Test to s) e)
