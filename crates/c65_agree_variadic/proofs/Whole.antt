-- From the first line of a function that takes further arguments to the line behind the call.
use Rattle.std.proofs.Common.{◌≡◌, ◌+◌, ◌≤◌, true, false, sym, ◌∙◌, subst, arith}
use Rattle.c65_meaning.specs.State.{soft_sum}
use Rattle.c65_meaning.specs.Step.{new_frame, begin_rest}
use Rattle.c65_code.specs.LineState.{State}
use Rattle.c65_code.specs.Placement.{stack_start, stack_end}
use Rattle.c65_genentry.specs.Entry.{entry_code}
use Rattle.c65_agree_state.specs.World.{unit_in}
use Rattle.c65_agree_frame.proofs.Leads.{leads_as}
use Rattle.c65_agree_leave.specs.Laws.{params_in}
use Rattle.c65_agree_registers.specs.Checks.{asked_by}
use Rattle.c65_agree_enter.specs.Entries.{HasEntered}
use Rattle.c65_agree_call.specs.Calls.{HasBegun}
use Rattle.c65_agree_call.proofs.Meant.{params_sums}
use Rattle.c65_agree_call.proofs.Whole.{hard_left, entry_on, may_enter, entered_functions_are_followed}
use Rattle.c65_agree_variadic.specs.Frames.{HasCountedMoves, further_cost}
use Rattle.c65_agree_variadic.specs.Calls.{FurtherFunctionsAreFollowed}
use Rattle.c65_agree_variadic.proofs.Passed.{further_entries_enter, further_entries_keep}

pub further_functions_are_followed : FurtherFunctionsAreFollowed
further_functions_are_followed g outer a frame passed cost needs n weight e body result args vs xs below call calls c0 d w0 k0 t0 t seen placed low m framed has some at come begun ends turned does goes =
    entered_functions_are_followed g outer a frame passed needs n weight (further_cost a.frame) e body result vs below call calls c0 (begin_rest xs d) w0 k0 t0 t seen placed m.below some m.called.first
    (params_sums (unit_in g) (params_in g a) args (new_frame (unit_in g) a.func cost c0) d begun).turns (λ x. absurd (let clash : true ≡ false = sym framed.further ∙ x in cc)) (λ x. framed.counts) ends turned
    (leads_as g a (entry_code a.frame) (further_cost a.frame) (further_cost a.frame) t (λ t1. HasEntered g a needs (params_in g a) c0 w0 k0 t0 (begin_rest xs d) t1 × HasCountedMoves a.frame t t1) (HasBegun g outer a frame passed needs c0 w0 k0 t0 (begin_rest xs d)) (omega arith) kept
    (further_entries_enter g a outer.base cost needs (params_in g a) args xs c0 d w0 k0 t0 t placed low (may_enter g outer a frame passed c0 w0 k0 t0 t m.below at) at m.called
    (entry_on g outer a frame passed c0 w0 k0 t0 t m.below at m.called.few_calls (omega (arith, come.stacked, base_high))) framed (subst (λ s. stack_end + asked_by a.frame.check ≤ s + (cost + soft_sum c0.frames)) (sym at.sp) m.asked) has base_high come
    (hard_left g outer a frame passed c0 w0 k0 t0 t m.below at m.called.few_calls) begun)) does goes
  where
    base_high : stack_start + 64 ≤ a.base
    base_high = omega (arith, m.called.room, m.called.few)

    kept : (t1 : State) → HasEntered g a needs (params_in g a) c0 w0 k0 t0 (begin_rest xs d) t1 × HasCountedMoves a.frame t t1 → HasBegun g outer a frame passed needs c0 w0 k0 t0 (begin_rest xs d) t1
    kept t1 h = record { entered = h.0; keeps = further_entries_keep g a outer frame passed needs (params_in g a) c0 (begin_rest xs d) w0 k0 t0 t t1 m.below.joins m.called.calls m.below.behind m.below.pushed m.below.top m.called.first has at h.1 h.0 }
