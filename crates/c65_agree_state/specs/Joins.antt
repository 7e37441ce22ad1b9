-- How a scene of the meaning and a state of the machine belong together.
use Rattle.std.specs.Prelude.{◌≡◌, ℕ, ◌+◌, ◌<◌, ◌≤◌, ◌⊎◌, true, false, if◌then◌else◌, IsTrue, Option, Some, None, length, All}
use Rattle.c65_meaning.specs.Store.{Block, is_live}
use Rattle.c65_meaning.specs.State.{Scene, block_in, rest_in, soft_sum, hard_sum}
use Rattle.c65_meaning.specs.Step.{func_in, frames_below}
use Rattle.c65_meaning.specs.Shapes.{literal_block, object_block, object_in, lives_in_frame}
use Rattle.c65_code.specs.LineState.{State, s_of, IsBytes}
use Rattle.c65_code.specs.Placement.{stack_start, stack_end}
use Rattle.c65_genframe.specs.declared.home.Home.{Home}
use Rattle.c65_genframe.specs.declared.home.Home.TheVariants as homes
use Rattle.c65_genframe.specs.Frames.{home_of, is_raised, saved_bytes}
use Rattle.c65_genframe.specs.Symbols.{numbers_of, literal_symbol, function_symbol}
use Rattle.c65_agree_store.specs.Stands.{Spot, At, Banked, Placing, Banks, IsAt, Stands, IsFree}
use Rattle.c65_agree_state.specs.World.{World, unit_in, Active}
use Rattle.c65_agree_state.specs.Fixed.{symbol_at, HaveFixed}
use Rattle.c65_agree_state.specs.Sizes.{HaveSizes, AreSized}

-- ---- the active call

-- where an object of the active call stands: in its frame, or at its symbol where it has one place for the whole run
abbrev pub home_spot : World → Active → ℕ → Option Home → Spot
home_spot g a i None = At (symbol_at g i)
home_spot g a i (Some (homes.Bank b)) = Banked (length a.behind) b
home_spot g a i (Some (homes.Soft d)) = At (a.base + d + (if is_raised a.frame i then a.raised else 0))

abbrev pub spot_of : World → Active → ℕ → Spot
spot_of g a i = home_spot g a i (home_of a.frame i)

-- the further arguments stand above the objects and the saved bytes of regbank, below the parameters
abbrev pub rest_spot : Active → Spot
rest_spot a = At (a.base + a.frame.soft + saved_bytes a.frame.bank)

-- the block of the further arguments is there, with as many bytes as the parameters lie higher; where it is empty it has no byte
pub record IsRest (a : Active) (c : Scene) (w : Placing) (b : ℕ) : Type 0 where
  pub block : Block
  pub is : c.store b ≡ Some block
  pub place : w b ≡ Some (rest_spot a)
  pub size : block.size ≡ a.raised

-- from the base up: the automatic objects, the saved bytes of regbank, the further arguments, and the parameters
abbrev pub call_bytes : Active → ℕ
call_bytes a = a.frame.soft + (saved_bytes a.frame.bank + (a.raised + a.frame.stacked))

-- the active call's part of the software stack, its regbank, or that of a call that is still to come
abbrev pub IsOfCall : Active → Spot → Type 0
IsOfCall a (At at) = (a.base ≤ at) × (at < a.base + call_bytes a)
IsOfCall a (Banked d i) = length a.behind ≤ d

-- the active call has the block for one of its objects, or for its further arguments
abbrev pub HasBlock : Scene → ℕ → Type 0
HasBlock c b = ((i : ℕ) × (block_in c.frames i ≡ Some b)) ⊎ (rest_in c.frames ≡ Some b)

-- the active call has its regbank in the zero page
abbrev pub HasBank : Banks → ℕ → State → Type 0
HasBank k d t = (i : ℕ) → i < 6 → k d i ≡ t.zp (20 + i)

-- ---- the whole run

-- blocks of the whole run stand where their symbols do
pub record HaveSymbols (g : World) (w : Placing) : Type 0 where
  pub funcs : (f : ℕ) → f < length g.parts.funcs.items → w f ≡ Some (At (g.place.address (function_symbol (numbers_of g.parts) f).0))
  pub literals : (l : ℕ) → l < length g.parts.literals.items → w (literal_block (unit_in g) l) ≡ Some (At (g.place.address (literal_symbol (numbers_of g.parts) l).0))
  pub objects : (i : ℕ) → lives_in_frame (object_in (unit_in g) i) ≡ false → i < length g.parts.objects.items → w (object_block (unit_in g) i) ≡ Some (At (symbol_at g i))

pub record Joins (g : World) (a : Active) (c : Scene) (w : Placing) (k : Banks) (t : State) : Type 0 where
  pub stands : Stands c.store w t.mem k
  pub bank : HasBank k (length a.behind) t
  pub symbols : HaveSymbols g w
  pub fixed : HaveFixed g c w
  -- blocks of the whole run, and those of the active call, have the bytes of what lies in them
  pub sizes : HaveSizes (unit_in g) c.store c.next
  pub sized : AreSized (unit_in g) c
  -- numbers of blocks that are still to come have no place
  pub fresh : (b : ℕ) → c.next ≤ b → w b ≡ None
  -- the blocks of the active call have their places at home, also those that have ended, and the calls are those of the machine
  pub homes : (i b : ℕ) → block_in c.frames i ≡ Some b → w b ≡ Some (spot_of g a i)
  pub rests : (b : ℕ) → rest_in c.frames ≡ Some b → IsRest a c w b
  -- which it has begun; and what it has begun and what lives there is its own
  pub since : (b : ℕ) → HasBlock c b → a.first ≤ b
  pub begun : (b : ℕ) → a.first ≤ b → is_live c.store b ≡ true → HasBlock c b
  pub owned : (b : ℕ) (x : Block) (q : Spot) → IsAt c.store w b x q → 0 < x.size → IsOfCall a q → HasBlock c b
  pub active : func_in c.frames ≡ a.func
  pub calls : frames_below c.frames ≡ a.calls
  pub as_many : length a.calls ≡ length a.behind
  -- no live block has a byte below the base; what a block holds lies in data or in the software stack
  pub above : (n : ℕ) → stack_start ≤ n → n < a.base → IsFree c.store w (At n)
  pub reached : (b : ℕ) (x : Block) (at o : ℕ) → IsAt c.store w b x (At at) → o < x.holds → IsTrue (g.place.is_data (at + o)) ⊎ (a.base ≤ at + o)
  -- literals and const data are as placed, and no block that may be written has such a byte
  pub constant : (n v : ℕ) → g.place.constant n ≡ Some v → t.mem n ≡ v
  pub sealed : (b : ℕ) (x : Block) (at o v : ℕ) → IsAt c.store w b x (At at) → o < x.holds → g.place.constant (at + o) ≡ Some v → x.sealed ≡ true
  pub top : a.base ≤ stack_end
  -- not too deep, by the costs of the source, which the run does ask for; each call has two bytes of the hard stack
  pub asked : c.free ≡ false
  pub few : soft_sum c.frames ≤ 1984
  pub hard : 255 ≤ s_of t + length t.pushed + hard_sum c.frames
  pub few_calls : hard_sum c.frames ≤ 224
  -- in a variadic function the byte at the base says how many bytes the call passed, and no live block has it
  pub counted : a.frame.variadic ≡ true → t.mem a.base ≡ a.frame.stacked + a.raised
  pub count_free : a.frame.variadic ≡ true → IsFree c.store w (At a.base)
  pub frames : t.frames ≡ a.behind
  pub input : t.input ≡ c.input
  -- which is of bytes
  pub read : All (λ v. v < 256) c.input
  pub output : t.output ≡ c.out
  pub ended : t.ended ≡ None
  pub bytes : IsBytes t
