-- Lines and routines that keep all but the primary register and scratch bytes.
use Rattle.std.proofs.Common.{◌≡◌, ℕ, suc, ◌+◌, ◌<◌, ◌≤◌, ◌⊎◌, inl, inr, [], ◌∷◌, refl, sym, subst, arith}
use Rattle.c65_mach.specs.State.{Regs}
use Rattle.c65_meaning.specs.State.{Scene}
use Rattle.c65_code.specs.declared.routine.Routine.{Routine}
use Rattle.c65_code.specs.LineState.{Bytes, State, sp_of, IsBytes}
use Rattle.c65_code.specs.Placement.{IsPlacement}
use Rattle.c65_code.specs.Rows.{row_of}
use Rattle.c65_code.specs.Weights.{row_cost}
use Rattle.c65_genwide.specs.Lines.{call}
use Rattle.c65_agree_store.specs.Stands.{Placing, Banks}
use Rattle.c65_agree_state.specs.World.{World, Active, place_in, HasTurns}
use Rattle.c65_agree_state.specs.Follows.{Follows}
use Rattle.c65_agree_state.specs.Exprs.{Ready, Kept}
use Rattle.c65_agree_state.specs.Laws.{OnlyScratch}
use Rattle.c65_agree_state.proofs.Followed.{ready_is_calm}
use Rattle.c65_agree_state.proofs.Leaves.{scratch_is_kept}
use Rattle.c65_agree_assign.proofs.Steps.{routine}
use Rattle.c65_agree_rows.specs.Laws.{Runs}
use Rattle.c65_agree_frame.specs.Leads.{Leads, IsOn}

-- a routine that runs leads to what it leaves
pub runs_lead : (g : World) (a : Active) (pushed needs : ℕ) (c : Scene) (w : Placing) (k : Banks) (t : State) (r : Routine) (Behind : State → Type 0) → row_cost (row_of r t) ≤ 256 → Ready g a pushed needs c w k t → Runs g r t Behind → Leads g a (call r ∷ []) 256 t Behind
runs_lead g a pushed needs c w k t r Behind cost ready runs n v p turns m seen has turned goes =
    let ends : suc p ≡ p + 1 = omega arith in
    routine g a n turns m v p pushed needs c w k t seen r Behind cost ready has.0 runs turned (λ u later b h.
    subst (λ q. Follows g n v m (place_in g a q) u later) (sym ends) (goes u later b (subst (λ q. HasTurns g turns (place_in g a q) later) ends h)))

module _ (g : World) (a : Active) (pushed needs : ℕ) (c : Scene) (w : Placing) (k : Banks) (t : State) (placed : IsPlacement g.code g.place) (r : Ready g a pushed needs c w k t) where
  pub is_on : IsOn g t
  is_on = record { stacks = ready_is_calm g a pushed needs c w k t r; running = r.joins.ended }

  -- other registers, and other bytes of the zero page but for sp and regbank
  module _ (regs : Regs) (zp : Bytes) (others : (i : ℕ) → (i < 2) ⊎ (20 ≤ i) → zp i ≡ t.zp i) (bytes : IsBytes (record t { regs = regs; zp = zp })) where
    abbrev later : State
    later = record t { regs = regs; zp = zp }

    later_sp : sp_of later ≡ sp_of t
    later_sp = let low = others 0 (inl (omega arith)) in let high = others 1 (inl (omega arith)) in omega (arith, low, high)

    scratch : OnlyScratch (sp_of t) t later
    scratch = record { mem = λ n h. refl; bank = λ i lt. sym (others (20 + i) (inr (omega arith))); pushed = refl; frames = refl; input = refl; output = refl; ended = refl; bytes = bytes }

    pub kept_later : Kept g a c w k t c w k later
    kept_later = scratch_is_kept g a pushed needs c w k t later placed r scratch later_sp

    pub ready_later : Ready g a pushed needs c w k later
    ready_later = record { joins = kept_later.joins; sp = omega (arith, later_sp, r.sp); room = omega (arith, later_sp, r.room); none_pushed = r.none_pushed }
