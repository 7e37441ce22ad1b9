-- The store stands where the parameters of a call have begun.
use Rattle.std.specs.Prelude.{◌≡◌, ℕ, suc, ◌+◌, ◌*◌, ◌<◌, ◌≤◌, true, false, List, [], ◌∷◌, Ok, Some, None, length, slice_get}
use Rattle.c65_csem.specs.Trees.{FuncTy, UnitTy}
use Rattle.c65_meaning.specs.Store.{Value, size_in, new_cells}
use Rattle.c65_meaning.specs.After.{is_among}
use Rattle.c65_meaning.specs.State.{Scene, Frame as Call, soft_sum, hard_sum}
use Rattle.c65_meaning.specs.Step.{is_active, with_params, new_frame}
use Rattle.c65_code.specs.LineState.{Bytes, State, Frame, sp_of, s_of, IsBytes}
use Rattle.c65_code.specs.Placement.{IsPlacement, stack_start, stack_end}
use Rattle.c65_code.specs.Texts.{listed}
use Rattle.c65_code.specs.Rows.{written}
use Rattle.c65_genframe.specs.declared.home.Arrival.TheVariants.{Kept}
use Rattle.c65_genframe.specs.declared.home.Moved.{Moved}
use Rattle.c65_genframe.specs.Frames.{saved_bytes}
use Rattle.c65_genentry.specs.Entry.{entry_code}
use Rattle.c65_agree_store.specs.Stands.{Spot, At, Banked, Placing, Banks, CellIs, Grows, Stands}
use Rattle.c65_agree_state.specs.World.{World, unit_in, Active}
use Rattle.c65_agree_state.specs.Fixed.{func_has_fixed}
use Rattle.c65_agree_state.specs.Joins.{Joins, spot_of, call_bytes}
use Rattle.c65_agree_frame.specs.Leads.{Leads, IsOn, SameBank}
use Rattle.c65_agree_frame.specs.Entries.{arriving}
use Rattle.c65_agree_leave.specs.Calls.{IsEntered}
use Rattle.c65_agree_registers.specs.Checks.{asked_by}
use Rattle.c65_agree_registers.specs.Entries.{HasMoves, register_byte, HasMoved, register_cost}
use Rattle.c65_agree_enter.specs.Params.{bytes_of, shape_in, no_cells, ArePassed, AreDistinct, HavePlaces, HaveBegun}
use Rattle.c65_agree_enter.specs.Entries.{MayEnter, FixedAreLow, HaveHomes, IsTaken, banks_with, HasEntered}

pub record ParametersStand (u : UnitTy) (is : List ℕ) (spot : ℕ → Spot) (c : Scene) (w : Placing) (call : Call) (calls : List Call) (d : Scene) (m : Bytes) (k : Banks) : Type 0 where
  pub placing : Placing
  pub begun : HaveBegun u is spot c w call calls d placing
  pub grows : Grows w placing
  pub stands : Stands d.store placing m k

-- Each parameter is a new block at its place; the bytes that lie there already are its cells.
abbrev pub ParametersBegin : Type 0
ParametersBegin = (u : UnitTy) (is : List ℕ) (args : List Value) (spot : ℕ → Spot) (c d : Scene) (w : Placing) (call : Call) (calls : List Call) (m : Bytes) (k : Banks)
    → c.frames ≡ call ∷ calls → with_params u is args c ≡ Ok d → ((b : ℕ) → c.next ≤ b → w b ≡ None) → AreDistinct is
    → HavePlaces u is spot c w → ArePassed u w m k spot is args → Stands c.store w m k
    → ParametersStand u is spot c w call calls d m k

-- ---- calls

-- wherever a call may stand
abbrev pub CallersMayEnter : Type 0
CallersMayEnter = (g : World) (outer : Active) (c : Scene) (w : Placing) (k : Banks) (t : State) → Joins g outer c w k t → MayEnter g (suc (length outer.behind)) outer.base c w k t

-- what the called function is: it takes no further arguments, and the call is not too deep
pub record IsCalled (g : World) (a : Active) (bound cost needs : ℕ) (is : List ℕ) (c0 : Scene) : Type 0 where
  pub function : FuncTy
  pub is_function : slice_get (unit_in g).funcs a.func ≡ Some function
  pub params : function.params ≡ is
  pub once : func_has_fixed (unit_in g) (slice_get (unit_in g).funcs a.func) ≡ true → is_active a.func c0.frames ≡ false
  pub plain : a.frame.variadic ≡ false
  pub calls : a.calls ≡ c0.frames
  pub as_many : length a.calls ≡ length a.behind
  pub first : a.first ≡ c0.next
  pub homes : HaveHomes g a is
  pub distinct : AreDistinct is
  -- the frame and the values that may wait have room
  pub top : a.base + call_bytes a ≤ bound
  pub high : bound ≤ stack_end
  pub room : stack_end + 8 * needs + a.spare ≤ a.base + (cost + soft_sum c0.frames)
  pub few : cost + soft_sum c0.frames ≤ 1984
  pub few_calls : 2 + hard_sum c0.frames ≤ 224

-- Where the machine has taken the frame, and each argument lies where its parameter's home is, the first statement may begin.
abbrev pub CallsAreEntered : Type 0
CallsAreEntered = (g : World) (a : Active) (bound cost needs : ℕ) (is : List ℕ) (args : List Value) (c0 c1 : Scene) (w0 : Placing) (k0 : Banks) (t0 t1 : State)
    → IsPlacement g.code g.place → FixedAreLow g → MayEnter g (length a.behind) bound c0 w0 k0 t0 → IsTaken a t0 t1 → IsCalled g a bound cost needs is c0
    → ArePassed (unit_in g) w0 t1.mem (banks_with a t1 k0) (spot_of g a) is args → 255 ≤ s_of t1 + (2 + hard_sum c0.frames)
    → with_params (unit_in g) is args (new_frame (unit_in g) a.func cost c0) ≡ Ok c1 → HasEntered g a needs is c0 w0 k0 t0 c1 t1

-- ---- from the first line on

-- the machine stands at the first line of a function: all but registers and scratch bytes is as at the call, with a frame more
pub record IsAtEntry (a : Active) (t0 t : State) : Type 0 where
  pub sp : sp_of t ≡ sp_of t0
  pub bank : SameBank t0 t
  pub mem : t.mem ≡ t0.mem
  pub none_pushed : t.pushed ≡ []
  pub frames : t.frames ≡ a.behind
  pub input : t.input ≡ t0.input
  pub output : t.output ≡ t0.output
  pub ended : t.ended ≡ t0.ended
  pub bytes : IsBytes t

-- memory with the parameter that arrives in registers, which is put above the saved bytes of regbank
abbrev pub with_arriving : Active → State → Bytes
with_arriving a t = written t.mem (listed (arriving a.frame.last t) (a.base + (a.frame.soft + saved_bytes a.frame.bank)))

-- the argument for the parameter i has the cells of these bytes
abbrev pub LiesAs : World → Placing → ℕ → Value → (ℕ → ℕ) → Type 0
LiesAs g w i v byte = (o : ℕ) → o < size_in (shape_in (unit_in g) i) → CellIs w (new_cells (shape_in (unit_in g) i) v no_cells 0 o) (byte o)

-- At the first line of a function an argument lies where its parameter has its home on the software stack, or it lies there and moves to
-- the home in regbank, or it is in A and X.
pub data IsPassed (g : World) (a : Active) (w : Placing) (t : State) (i : ℕ) (v : Value) : Type 0 where
  on_stack : (at : ℕ) → spot_of g a i ≡ At at → LiesAs g w i v (λ o. with_arriving a t (at + o)) → IsPassed g a w t i v
  moving : (k : ℕ) (m : Moved) → slice_get a.frame.moved k ≡ Some m → spot_of g a i ≡ Banked (length a.behind) m.bank → bytes_of (unit_in g) i ≤ m.bytes → LiesAs g w i v (λ o. with_arriving a t (a.base + m.from + o)) → IsPassed g a w t i v
  in_registers : (bank bytes : ℕ) → a.frame.last ≡ Kept bank bytes → spot_of g a i ≡ Banked (length a.behind) bank → bytes_of (unit_in g) i ≤ bytes → LiesAs g w i v (λ o. register_byte o t) → IsPassed g a w t i v

abbrev pub AllPassed : World → Active → Placing → State → List ℕ → List Value → Type 0
AllPassed g a w t (i ∷ is) (v ∷ vs) = IsPassed g a w t i v × AllPassed g a w t is vs
AllPassed g a w t _ _ = Unit {0}

-- Where each home is on the software stack, arguments that lie at the homes are passed so.
abbrev pub ArgumentsLieAtHomes : Type 0
ArgumentsLieAtHomes = (g : World) (a : Active) (w : Placing) (k : Banks) (t : State) (is : List ℕ) (args : List Value) → ((i : ℕ) → is_among is i ≡ true → (at : ℕ) × (spot_of g a i ≡ At at))
    → ArePassed (unit_in g) w (with_arriving a t) (banks_with a t k) (spot_of g a) is args → AllPassed g a w t is args

-- The lines of the entry take the frame and bring parameters to regbank, and the first statement may begin behind them, whether or not they
-- check the stacks: these reach, where the costs of the call are enough for what is asked of them. (A call that is too deep has no meaning.)
abbrev pub EntriesEnter : Type 0
EntriesEnter = (g : World) (a : Active) (bound cost needs : ℕ) (is : List ℕ) (args : List Value) (c0 c1 : Scene) (w0 : Placing) (k0 : Banks) (t0 t : State)
    → IsPlacement g.code g.place → FixedAreLow g → MayEnter g (length a.behind) bound c0 w0 k0 t0 → IsAtEntry a t0 t → IsCalled g a bound cost needs is c0
    → IsOn g t → stack_end + asked_by a.frame.check ≤ sp_of t + (cost + soft_sum c0.frames) → HasMoves a.frame → stack_start + 64 ≤ a.base → a.base + (a.frame.soft + (saved_bytes a.frame.bank + length (arriving a.frame.last t))) ≡ sp_of t
    → length (arriving a.frame.last t) ≤ a.frame.stacked → AllPassed g a w0 t is args
    → 255 ≤ s_of t + (2 + hard_sum c0.frames) → with_params (unit_in g) is args (new_frame (unit_in g) a.func cost c0) ≡ Ok c1
    → Leads g a (entry_code a.frame) (register_cost a.frame) t (λ t1. HasEntered g a needs is c0 w0 k0 t0 c1 t1 × HasMoved a.frame t t1)

-- and what the caller has is there again when the function is left
abbrev pub EntriesKeep : Type 0
EntriesKeep = (g : World) (a outer : Active) (frame : Frame) (passed needs : ℕ) (is : List ℕ) (c0 c1 : Scene) (w0 : Placing) (k0 : Banks) (t0 t t1 : State)
    → Joins g outer c0 w0 k0 t0 → a.calls ≡ c0.frames → a.behind ≡ frame ∷ outer.behind → frame.pushed ≡ t0.pushed → a.base + call_bytes a ≡ sp_of t0 + passed → a.first ≡ c0.next
    → HasMoves a.frame → IsAtEntry a t0 t → HasMoved a.frame t t1 → (h : HasEntered g a needs is c0 w0 k0 t0 c1 t1)
    → IsEntered a outer frame passed c0 w0 k0 t0 c1 h.placing (banks_with a t1 k0) t1
