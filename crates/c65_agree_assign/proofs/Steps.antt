-- Lines and routines under what is followed, with the turns that were taken.
use Rattle.std.proofs.Common.{◌≡◌, ℕ, suc, ◌+◌, ◌≤◌, Some, None, arith}
use Rattle.std.specs.Prelude.{slice_get}
use Rattle.c65_mach.specs.declared.rows.Op.{Op}
use Rattle.c65_mach.specs.declared.rows.Mode.{Mode}
use Rattle.c65_meaning.specs.State as meaning
use Rattle.c65_meaning.specs.State.{Scene}
use Rattle.c65_code.specs.declared.line.Operand.{Operand}
use Rattle.c65_code.specs.declared.line.Line.TheVariants.{Do}
use Rattle.c65_code.specs.declared.routine.Routine.{Routine}
use Rattle.c65_code.specs.LineState.{State, IsBytes}
use Rattle.c65_code.specs.Placement.{word_of}
use Rattle.c65_code.specs.Forms.{Plain, form_of}
use Rattle.c65_code.specs.Rows.{row_of}
use Rattle.c65_code.specs.Moves.{ref_of}
use Rattle.c65_code.specs.Steady.{IsCalm, IsWithin}
use Rattle.c65_code.specs.Weights.{row_cost}
use Rattle.c65_code.specs.LineLaws.{IsGivenByte}
use Rattle.c65_code.specs.Comes.{Seen, seen_at}
use Rattle.c65_genwide.specs.Lines.{call}
use Rattle.c65_agree_store.specs.Stands.{Placing, Banks}
use Rattle.c65_agree_step.specs.Laws.{after_operation}
use Rattle.c65_agree_state.specs.World.{World, Active, setting_in, lines_of, place_in, HasTurns}
use Rattle.c65_agree_state.specs.Follows.{Follows}
use Rattle.c65_agree_state.specs.Exprs.{Ready}
use Rattle.c65_agree_state.proofs.Followed.{follows_weaken, arrivals_count}
use Rattle.c65_agree_state.proofs.Leaves.{run}
use Rattle.c65_agree_rows.specs.Laws.{Runs}
use Rattle.c65_agree_rows.proofs.Quiet.{routines_are_followed}

module _ (g : World) (a : Active) (n turns : ℕ) (m : meaning.State) where
  -- a state at a line that is an operation
  pub record IsAt (p : ℕ) (op : Op) (mode : Mode) (operand : Operand) (t : State) (seen : Seen) : Type 0 where
    pub there : slice_get (lines_of g a) p ≡ Some (Do op mode operand)
    pub formed : form_of (Do op mode operand) ≡ Plain op mode operand
    pub calm : IsCalm (setting_in g) t
    pub within : IsWithin (setting_in g) (Plain op mode operand) t
    pub running : t.ended ≡ None
    pub given : IsGivenByte (ref_of mode (word_of g.place operand) t)
    pub counted : HasTurns g turns (place_in g a p) seen

  pub operation : (v p : ℕ) (op : Op) (mode : Mode) (operand : Operand) (t : State) (seen : Seen) → IsAt p op mode operand t seen
      → (IsBytes (after_operation (setting_in g) op mode operand t) → (later : Seen) → HasTurns g turns (place_in g a (suc p)) later → Follows g n v m (place_in g a (suc p)) (after_operation (setting_in g) op mode operand t) later)
      → Follows g n (1 + v) m (place_in g a p) t seen
  operation v p op mode operand t seen at k =
      let before = at.counted in
      run g n v m a.symbol p t seen op mode operand (record { line = Do op mode operand; there = at.there; formed = at.formed; calm = at.calm; within = at.within; running = at.running }) at.given (λ b.
      k b (seen_at (place_in g a (suc p)) seen) (arrivals_count g turns (place_in g a (suc p)) seen (omega (arith, before))))

  pub routine : (v p pushed needs : ℕ) (c : Scene) (w : Placing) (k : Banks) (t : State) (seen : Seen) (r : Routine) (Behind : State → Type 0) → row_cost (row_of r t) ≤ 256
      → Ready g a pushed needs c w k t → slice_get (lines_of g a) p ≡ Some (call r) → Runs g r t Behind → HasTurns g turns (place_in g a p) seen
      → ((u : State) (later : Seen) → Behind u → HasTurns g turns (place_in g a (suc p)) later → Follows g n v m (place_in g a (suc p)) u later)
      → Follows g n (256 + v) m (place_in g a p) t seen
  routine v p pushed needs c w k t seen r Behind cost ready there runs before goes =
      follows_weaken g n (row_cost (row_of r t) + v) (256 + v) m (place_in g a p) t seen (omega (arith, cost))
      (routines_are_followed g a pushed needs c w k t n v p m seen r ready there runs.room (λ u meets bytes.
      goes u (seen_at (place_in g a (suc p)) seen) (runs.behind u meets bytes) (arrivals_count g turns (place_in g a (suc p)) seen (omega (arith, before)))))
