-- The run of one expression never comes to trees or values that do not fit one another (C90 6.3).
use Rattle.std.specs.Prelude.{◌≡◌, ℕ, zero, suc, Bool, true, false, List, [], ◌∷◌, Ok, Some, IsSome, ⊤, if◌then◌else◌}
use Rattle.c65_csem.specs.Trees.{Typed, node, Node, constant, null, literal, object, func, deref, member, load, address, decay, convert, unary, binary, both, either, choice, comma, assign, assign_op, assign_step, step, copy, call, pack, spill, rest, Nodes, none, some, UnitTy}
use Rattle.c65_csem.specs.Typed.{IsTyped}
use Rattle.c65_meaning.specs.Program.{ProgramTy}
use Rattle.c65_meaning.specs.Why.{Unfit}
use Rattle.c65_meaning.specs.Store.{Piece, Block, Store, Value, Place}
use Rattle.c65_meaning.specs.Shapes.{literal_block}
use Rattle.c65_meaning.specs.Items.{Invoke, plan}
use Rattle.c65_meaning.specs.State.{Scene, State, Undefined, Running, rest_in}
use Rattle.c65_meaning.specs.Step.{object_place}
use Rattle.c65_meaning.specs.Step as one

-- ---- what is there

-- each place in memory is of a block that there is, live or ended
abbrev pub IsClosed : Store → Type 0
IsClosed s = (b : ℕ) (x : Block) (q i d o : ℕ) → s b ≡ Some x → x.cells q ≡ Piece i d o → IsSome (s d)

-- the active call has a block of further arguments
abbrev pub HasRest : Scene → Type 0
HasRest c = (b : ℕ) × (rest_in c.frames ≡ Some b) × IsSome (c.store b)

module _ (u : UnitTy) (c : Scene) where
  -- an object has a block: the active call's own, or the one of the whole run
  abbrev pub HasBlock : ℕ → Type 0
  HasBlock i = (b : ℕ) × (object_place u i c ≡ Ok (Place b 0)) × IsSome (c.store b)

  abbrev mutual
    -- each literal, object and function that an expression names has a block, and so have the further arguments
    pub AreThere : Typed → Type 0
    AreThere (node t e) = AreThereIn e

    pub AreThereIn : Node → Type 0
    AreThereIn (constant z) = ⊤
    AreThereIn null = ⊤
    AreThereIn (literal l) = IsSome (c.store (literal_block u l))
    AreThereIn (object i) = HasBlock i
    AreThereIn (func f) = IsSome (c.store f)
    AreThereIn (deref a) = AreThere a
    AreThereIn (member a m) = AreThere a
    AreThereIn (load a) = AreThere a
    AreThereIn (address a) = AreThere a
    AreThereIn (decay a) = AreThere a
    AreThereIn (convert a) = AreThere a
    AreThereIn (unary op a) = AreThere a
    AreThereIn (binary op a b) = AreThere a × AreThere b
    AreThereIn (both a b) = AreThere a × AreThere b
    AreThereIn (either a b) = AreThere a × AreThere b
    AreThereIn (choice d a b) = AreThere d × AreThere a × AreThere b
    AreThereIn (comma a b) = AreThere a × AreThere b
    AreThereIn (assign a b) = AreThere a × AreThere b
    AreThereIn (assign_op op k a b) = AreThere a × AreThere b
    AreThereIn (assign_step op a b) = AreThere a × AreThere b
    AreThereIn (step kind a) = AreThere a
    AreThereIn (copy a b) = AreThere a × AreThere b
    AreThereIn (call f es) = AreThere f × AreAllThere es
    AreThereIn (pack a) = AreThere a
    AreThereIn (spill i a) = HasBlock i × AreThere a
    AreThereIn rest = HasRest c

    pub AreAllThere : Nodes → Type 0
    AreAllThere none = ⊤
    AreAllThere (some e es) = AreThere e × AreAllThere es

-- ---- up to the end of the work, or the next call

abbrev pub stops : State → Bool
stops (Running [] vs c) = true
stops (Running (Invoke callee args ∷ k) vs c) = true
stops _ = false

module _ (p : ProgramTy) where
  -- n steps, or fewer where the run stops before
  abbrev pub steps_here : ℕ → State → State
  steps_here zero s = s
  steps_here (suc n) s = if stops s then s else steps_here n (one.step p s)

-- not undefined by trees or values that do not fit; a running state's memory is closed
abbrev pub IsFit : State → Type 0
IsFit (Undefined Unfit) = ⊥
IsFit (Running work vs c) = IsClosed c.store
IsFit _ = ⊤

-- From a state with any values, the run of a well typed expression whose names have blocks is after each number of steps, up to its end or
-- its next call, defined, ended, too deep or undefined by a numbered action.
abbrev pub ExpressionsFit : Type 0
ExpressionsFit = (p : ProgramTy) (e : Typed) (n : ℕ) (values : List Value) (c : Scene)
    → IsTyped p.unit e → AreThere p.unit c e → IsClosed c.store
    → IsFit (steps_here p n (Running (plan p.unit e []) values c))
