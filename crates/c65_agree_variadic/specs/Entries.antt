-- The parameters and the block of the further arguments of a call begin where they lie (C90 6.3.2.2, 6.7.1, 7.8).
use Rattle.std.specs.Prelude.{◌≡◌, ℕ, ◌+◌, ◌*◌, ◌<◌, ◌≤◌, true, false, List, ◌∷◌, Ok, Some, length, slice_get}
use Rattle.c65_csem.specs.Trees.{FuncTy}
use Rattle.c65_meaning.specs.Store.{Cell, Value, nth_cell}
use Rattle.c65_meaning.specs.After.{is_among}
use Rattle.c65_meaning.specs.State.{Scene, soft_sum, hard_sum}
use Rattle.c65_meaning.specs.Step.{is_active, with_params, new_frame, begin_rest}
use Rattle.c65_code.specs.LineState.{Bytes, State, Frame, sp_of, s_of}
use Rattle.c65_code.specs.Placement.{IsPlacement, stack_start, stack_end}
use Rattle.c65_genframe.specs.declared.home.Moved.{Moved}
use Rattle.c65_genframe.specs.Frames.{saved_bytes}
use Rattle.c65_genentry.specs.Entry.{entry_code}
use Rattle.c65_agree_store.specs.Stands.{At, Banked, Placing, Banks, CellIs}
use Rattle.c65_agree_state.specs.World.{World, unit_in, Active}
use Rattle.c65_agree_state.specs.Fixed.{func_has_fixed}
use Rattle.c65_agree_state.specs.Joins.{Joins, spot_of, call_bytes}
use Rattle.c65_agree_frame.specs.Leads.{Leads, IsOn}
use Rattle.c65_agree_leave.specs.Calls.{IsEntered}
use Rattle.c65_agree_enter.specs.Params.{AreDistinct, ArePassed, bytes_of}
use Rattle.c65_agree_enter.specs.Entries.{MayEnter, FixedAreLow, HaveHomes, IsTaken, banks_with, HasEntered}
use Rattle.c65_agree_enter.specs.Laws.{IsAtEntry, LiesAs}
use Rattle.c65_agree_registers.specs.Checks.{asked_by}
use Rattle.c65_agree_registers.specs.Entries.{HasMoves}
use Rattle.c65_agree_variadic.specs.Frames.{IsFurtherFrame, HasCountedMoves, further_cost}

-- what the called function is: the call passes further arguments of these cells, and is not too deep
pub record IsCalledFurther (g : World) (a : Active) (bound cost needs : ℕ) (is : List ℕ) (xs : List Cell) (c0 : Scene) : Type 0 where
  pub function : FuncTy
  pub is_function : slice_get (unit_in g).funcs a.func ≡ Some function
  pub params : function.params ≡ is
  pub once : func_has_fixed (unit_in g) (slice_get (unit_in g).funcs a.func) ≡ true → is_active a.func c0.frames ≡ false
  pub counts : 1 ≤ a.frame.soft
  -- the parameters lie higher by the bytes of the further arguments, which lie below them
  pub raised : a.raised ≡ length xs
  pub above : (i at : ℕ) → is_among is i ≡ true → spot_of g a i ≡ At at → a.base + (a.frame.soft + (saved_bytes a.frame.bank + a.raised)) ≤ at
  pub calls : a.calls ≡ c0.frames
  pub as_many : length a.calls ≡ length a.behind
  pub first : a.first ≡ c0.next
  pub homes : HaveHomes g a is
  pub distinct : AreDistinct is
  -- the frame and the values that may wait have room
  pub top : a.base + call_bytes a ≤ bound
  pub high : bound ≤ stack_end
  pub room : stack_end + 8 * needs + a.spare ≤ a.base + (cost + soft_sum c0.frames)
  pub few : cost + soft_sum c0.frames ≤ 1984
  pub few_calls : 2 + hard_sum c0.frames ≤ 224

-- the bytes above the saved ones of regbank are these cells
abbrev pub FurtherLie : Active → Placing → Bytes → List Cell → Type 0
FurtherLie a w m xs = (o : ℕ) → o < length xs → CellIs w (nth_cell xs o) (m (a.base + a.frame.soft + saved_bytes a.frame.bank + o))

-- Where the machine has taken the frame, and each argument lies where its parameter's home is, the parameters have begun, and the block of
-- the further arguments behind them.
abbrev pub FurtherCallsAreEntered : Type 0
FurtherCallsAreEntered = (g : World) (a : Active) (bound cost needs : ℕ) (is : List ℕ) (args : List Value) (xs : List Cell) (c0 d : Scene) (w0 : Placing) (k0 : Banks) (t0 t1 : State)
    → IsPlacement g.code g.place → FixedAreLow g → MayEnter g (length a.behind) bound c0 w0 k0 t0 → IsTaken a t0 t1 → IsCalledFurther g a bound cost needs is xs c0
    → ArePassed (unit_in g) w0 t1.mem (banks_with a t1 k0) (spot_of g a) is args → FurtherLie a w0 t1.mem xs → t1.mem a.base ≡ a.frame.stacked + a.raised → 255 ≤ s_of t1 + (2 + hard_sum c0.frames)
    → with_params (unit_in g) is args (new_frame (unit_in g) a.func cost c0) ≡ Ok d → HasEntered g a needs is c0 w0 k0 t0 (begin_rest xs d) t1

-- ---- from the first line on

-- At the first line of the function an argument lies where its parameter has its home on the software stack, or it lies there, higher by the
-- further arguments, and moves to the home in regbank.
pub data IsPassedFurther (g : World) (a : Active) (w : Placing) (t : State) (i : ℕ) (v : Value) : Type 0 where
  on_stack : (at : ℕ) → spot_of g a i ≡ At at → LiesAs g w i v (λ o. t.mem (at + o)) → IsPassedFurther g a w t i v
  moving : (k : ℕ) (m : Moved) → slice_get a.frame.moved k ≡ Some m → spot_of g a i ≡ Banked (length a.behind) m.bank → bytes_of (unit_in g) i ≤ m.bytes → LiesAs g w i v (λ o. t.mem (a.base + (m.from + a.raised) + o))
      → IsPassedFurther g a w t i v

abbrev pub AllPassedFurther : World → Active → Placing → State → List ℕ → List Value → Type 0
AllPassedFurther g a w t (i ∷ is) (v ∷ vs) = IsPassedFurther g a w t i v × AllPassedFurther g a w t is vs
AllPassedFurther g a w t _ _ = Unit {0}

-- so are all arguments, at most as many bytes as a call may pass, and Y holds their number
pub record HasPassedFurther (g : World) (a : Active) (is : List ℕ) (args : List Value) (xs : List Cell) (w : Placing) (t : State) : Type 0 where
  pub stacked : a.base + (a.frame.soft + saved_bytes a.frame.bank) ≡ sp_of t
  pub count : t.regs.y ≡ a.frame.stacked + a.raised
  pub few : a.frame.stacked + a.raised ≤ 250
  pub lies : AllPassedFurther g a w t is args
  pub rest : FurtherLie a w t.mem xs

-- The lines of the entry take the frame, and the first statement may begin behind them, whether or not they check the stacks: these reach,
-- where the costs of the call are enough for what is asked of them.
abbrev pub FurtherEntriesEnter : Type 0
FurtherEntriesEnter = (g : World) (a : Active) (bound cost needs : ℕ) (is : List ℕ) (args : List Value) (xs : List Cell) (c0 d : Scene) (w0 : Placing) (k0 : Banks) (t0 t : State)
    → IsPlacement g.code g.place → FixedAreLow g → MayEnter g (length a.behind) bound c0 w0 k0 t0 → IsAtEntry a t0 t → IsCalledFurther g a bound cost needs is xs c0
    → IsOn g t → IsFurtherFrame a.frame → stack_end + asked_by a.frame.check ≤ sp_of t + (cost + soft_sum c0.frames) → HasMoves a.frame → stack_start + 64 ≤ a.base → HasPassedFurther g a is args xs w0 t
    → 255 ≤ s_of t + (2 + hard_sum c0.frames) → with_params (unit_in g) is args (new_frame (unit_in g) a.func cost c0) ≡ Ok d
    → Leads g a (entry_code a.frame) (further_cost a.frame) t (λ t1. HasEntered g a needs is c0 w0 k0 t0 (begin_rest xs d) t1 × HasCountedMoves a.frame t t1)

-- and what the caller has is there again when the function is left
abbrev pub FurtherEntriesKeep : Type 0
FurtherEntriesKeep = (g : World) (a outer : Active) (frame : Frame) (passed needs : ℕ) (is : List ℕ) (c0 c1 : Scene) (w0 : Placing) (k0 : Banks) (t0 t t1 : State)
    → Joins g outer c0 w0 k0 t0 → a.calls ≡ c0.frames → a.behind ≡ frame ∷ outer.behind → frame.pushed ≡ t0.pushed → a.base + call_bytes a ≡ sp_of t0 + passed → a.first ≡ c0.next
    → HasMoves a.frame → IsAtEntry a t0 t → HasCountedMoves a.frame t t1 → (h : HasEntered g a needs is c0 w0 k0 t0 c1 t1)
    → IsEntered a outer frame passed c0 w0 k0 t0 c1 h.placing (banks_with a t1 k0) t1
