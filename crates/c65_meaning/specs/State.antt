-- The states of a run.
use Rattle.std.specs.Prelude.{ℕ, suc, Bool, ◌+◌, ◌==◌, List, [], ◌∷◌, Option, Some, None, if◌then◌else◌}
use Rattle.c65_meaning.specs.Why.{Why}
use Rattle.c65_meaning.specs.Store.{Store, Value}
use Rattle.c65_meaning.specs.Items.{Item}

-- an active call: its function, the blocks of its parameters and automatic objects, its cost on the software stack, and the block of its
-- further arguments, where its function takes any
pub record Frame : Type 0 where
  pub func : ℕ
  pub object : ℕ → Option ℕ
  pub cost : ℕ
  pub rest : Option ℕ

-- all but the pending work and the waiting values; the active call comes first among the frames, `next` is the next new block,
-- and where it is `free` no call is too deep
pub record Scene : Type 0 where
  pub frames : List Frame
  pub store : Store
  pub next : ℕ
  pub input : List ℕ
  pub out : List ℕ
  pub turns : ℕ
  pub free : Bool

pub data State : Type 0 where
  Undefined : (why : Why) → State
  Deep : State
  Ended : (out : List ℕ) (status turns : ℕ) → State
  Running : (work : List Item) (values : List Value) (at : Scene) → State

abbrev pub with_store : Scene → Store → Scene
with_store c s = record c { store = s }

abbrev pub turned : Scene → Scene
turned c = record c { turns = suc c.turns }

abbrev pub soft_sum : List Frame → ℕ
soft_sum [] = 0
soft_sum (f ∷ rest) = f.cost + soft_sum rest

abbrev pub hard_sum : List Frame → ℕ
hard_sum [] = 0
hard_sum (f ∷ rest) = 2 + hard_sum rest

-- the block that the active call has for an object
abbrev pub block_in : List Frame → ℕ → Option ℕ
block_in [] i = None
block_in (f ∷ rest) i = f.object i

abbrev pub with_object : Frame → ℕ → ℕ → Frame
with_object f i b = record f { object = λ j. if j == i then Some b else f.object j }

abbrev pub name_object : List Frame → ℕ → ℕ → List Frame
name_object [] i b = []
name_object (f ∷ rest) i b = with_object f i b ∷ rest

-- the block of the active call's further arguments
abbrev pub rest_in : List Frame → Option ℕ
rest_in [] = None
rest_in (f ∷ fs) = f.rest

abbrev pub name_rest : List Frame → ℕ → List Frame
name_rest [] b = []
name_rest (f ∷ fs) b = record f { rest = Some b } ∷ fs
