-- What stands at the first statement of a called function, and what is there again behind the call (C90 6.3.2.2, 6.6.6.4).
use Rattle.std.specs.Prelude.{◌≡◌, ℕ, ◌+◌, ◌<◌, ◌≤◌, List, ◌∷◌, length}
use Rattle.c65_meaning.specs.State.{Scene, Frame as Call}
use Rattle.c65_meaning.specs.Step.{end_arguments, without_frame}
use Rattle.c65_code.specs.LineState.{State, Frame, sp_of}
use Rattle.c65_genframe.specs.Frames.{saved_bytes}
use Rattle.c65_agree_store.specs.Stands.{At, Placing, Banks, Grows, IsFree}
use Rattle.c65_agree_state.specs.World.{World, unit_in, Active}
use Rattle.c65_agree_state.specs.Joins.{Joins, call_bytes}
use Rattle.c65_agree_state.specs.Exprs.{bounds_of}

-- From a call of the outer function, which has passed so many bytes on the software stack, to the first statement of the called one: there
-- is one call more, and of what there was nothing has changed. The bytes of regbank that the called function takes are put away above its
-- automatic objects, where no block has them.
pub record IsEntered (a outer : Active) (frame : Frame) (passed : ℕ) (c0 : Scene) (w0 : Placing) (k0 : Banks) (t0 : State) (c1 : Scene) (w1 : Placing) (k1 : Banks) (t1 : State) : Type 0 where
  pub calls : a.calls ≡ c0.frames
  pub behind : a.behind ≡ frame ∷ outer.behind
  pub pushed : frame.pushed ≡ t0.pushed
  pub top : a.base + call_bytes a ≡ sp_of t0 + passed
  pub first : a.first ≡ c0.next
  pub next : c0.next ≤ c1.next
  pub bounds : (b : ℕ) → b < c0.next → bounds_of (c1.store b) ≡ bounds_of (c0.store b)
  pub grows : Grows w0 w1
  pub kept : (n : ℕ) → sp_of t0 + passed ≤ n → IsFree c0.store w0 (At n) → (t1.mem n ≡ t0.mem n) × IsFree c1.store w1 (At n)
  pub banks : (d i : ℕ) → d ≤ length outer.behind → k1 d i ≡ k0 d i
  pub saved : (i : ℕ) → i < saved_bytes a.frame.bank → (t1.mem (a.base + a.frame.soft + i) ≡ k0 (length outer.behind) i) × IsFree c1.store w1 (At (a.base + a.frame.soft + i))
  pub others : (i : ℕ) → saved_bytes a.frame.bank ≤ i → i < 6 → k1 (length a.behind) i ≡ k0 (length outer.behind) i

-- the scene behind the call: the parameters and the further arguments have ended with it
abbrev pub scene_behind : World → Scene → Scene
scene_behind g c = without_frame (end_arguments (unit_in g) c)

-- Behind the call the outer function goes on: its blocks live where they lived, and no others; what it had on the stack above what it
-- passed is as before where no block has it, and so is its regbank and that of each call behind it.
pub record IsBehind (g : World) (outer : Active) (passed : ℕ) (c0 : Scene) (w0 : Placing) (k0 : Banks) (t0 : State) (c2 : Scene) (w : Placing) (k : Banks) (u : State) : Type 0 where
  pub joins : Joins g outer c2 w k u
  pub sp : sp_of u ≡ sp_of t0 + passed
  pub pushed : u.pushed ≡ t0.pushed
  pub frames : c2.frames ≡ c0.frames
  pub next : c0.next ≤ c2.next
  pub bounds : (b : ℕ) → b < c0.next → bounds_of (c2.store b) ≡ bounds_of (c0.store b)
  pub grows : Grows w0 w
  pub kept : (n : ℕ) → sp_of t0 + passed ≤ n → IsFree c0.store w0 (At n) → (u.mem n ≡ t0.mem n) × IsFree c2.store w (At n)
  pub banks : (d i : ℕ) → d ≤ length outer.behind → k d i ≡ k0 d i
