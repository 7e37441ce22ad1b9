-- Where the blocks stand that there are before `main` (C90 5.1.2.2.1, 6.1.2.4, 6.1.4).
use Rattle.std.specs.Prelude.{◌≡◌, ℕ, zero, suc, ◌+◌, ◌-◌, ◌<◌, ◌≤◌, ◌⊎◌, Bool, true, false, IsTrue, if◌then◌else◌, nat_lt, List, [], ◌∷◌, Option, Some, None, length}
use Rattle.c65_csem.specs.Trees.{ObjectTy}
use Rattle.c65_meaning.specs.Store.{Block}
use Rattle.c65_meaning.specs.State.{Scene}
use Rattle.c65_meaning.specs.Shapes.{literal_block, object_block, first_block, object_in, lives_in_frame}
use Rattle.c65_code.specs.LineState.{State, sp_of}
use Rattle.c65_code.specs.Placement.{stack_start}
use Rattle.c65_code.specs.Starts.{list_start}
use Rattle.c65_genframe.specs.Symbols.{numbers_of, literal_symbol, function_symbol}
use Rattle.c65_agree_store.specs.Stands.{Spot, At, Placing, Banks, IsAt, Stands, IsFree}
use Rattle.c65_agree_state.specs.World.{World, unit_in}
use Rattle.c65_agree_state.specs.Fixed.{symbol_at}
use Rattle.c65_agree_state.specs.Joins.{HaveSymbols}

-- ---- places

-- an object of the whole run is at its symbol
abbrev pub object_spot : World → ℕ → Option ObjectTy → Option Spot
object_spot g i None = None
object_spot g i (Some o) = if lives_in_frame (Some o) then None else Some (At (symbol_at g i))

-- functions, literals and objects
abbrev pub program_spot : World → ℕ → Option Spot
program_spot g b =
    let u = unit_in g in
    if nat_lt b (literal_block u 0) then Some (At (g.place.address (function_symbol (numbers_of g.parts) b).0))
    else (if nat_lt b (object_block u 0) then Some (At (g.place.address (literal_symbol (numbers_of g.parts) (b - literal_block u 0)).0))
    else object_spot g (b - object_block u 0) (object_in u (b - object_block u 0)))

-- each argument lies below the one before, with a zero byte behind it
abbrev pub text_spot : List (List ℕ) → ℕ → ℕ → Option Spot
text_spot [] from i = None
text_spot (arg ∷ args) from zero = Some (At (from - (length arg + 1)))
text_spot (arg ∷ args) from (suc i) = text_spot args (from - (length arg + 1)) i

-- the list of the arguments, and then they
abbrev pub argument_spot : List (List ℕ) → ℕ → Option Spot
argument_spot args zero = Some (At (list_start (length args)))
argument_spot args (suc i) = text_spot args (list_start (length args)) i

abbrev pub argument_spot_if : Bool → List (List ℕ) → ℕ → Option Spot
argument_spot_if false args j = None
argument_spot_if true args j = argument_spot args j

-- where `main` takes no arguments there are no blocks of them
abbrev pub first_placing : World → List (List ℕ) → Placing
first_placing g args b = if nat_lt b (first_block (unit_in g)) then program_spot g b else argument_spot_if g.code.main_args args (b - first_block (unit_in g))

-- ---- the state

-- the address from which on the software stack has the arguments of the program: below these their number is pushed
abbrev pub arguments_from : Bool → State → ℕ
arguments_from true t = sp_of t + 2
arguments_from false t = sp_of t

-- What holds of a scene, of places and of a state at main's first line: all blocks stand, and those of the program are at their symbols;
-- no other block has a place; and what blocks hold is data, or lies on the software stack above what was pushed.
pub record HasBegun (g : World) (c : Scene) (w : Placing) (t : State) : Type 0 where
  pub stands : (k : Banks) → Stands c.store w t.mem k
  pub symbols : HaveSymbols g w
  pub fresh : (b : ℕ) → c.next ≤ b → w b ≡ None
  pub above : (n : ℕ) → stack_start ≤ n → n < arguments_from g.code.main_args t → IsFree c.store w (At n)
  pub reached : (b : ℕ) (x : Block) (at o : ℕ) → IsAt c.store w b x (At at) → o < x.holds → IsTrue (g.place.is_data (at + o)) ⊎ (arguments_from g.code.main_args t ≤ at + o)
  -- literals and const data are as placed, and no block that may be written has such a byte
  pub constant : (n v : ℕ) → g.place.constant n ≡ Some v → t.mem n ≡ v
  pub sealed : (b : ℕ) (x : Block) (at o v : ℕ) → IsAt c.store w b x (At at) → o < x.holds → g.place.constant (at + o) ≡ Some v → x.sealed ≡ true
