-- A call keeps sp and what waits together.
use Rattle.std.proofs.Common.{◌≡◌, ℕ, suc, ◌+◌, length, refl, ap, ◌∙◌, arith}
use Rattle.c65_code.specs.declared.parts.Part.TheVariants.{Zp}
use Rattle.c65_code.specs.declared.parts.RegSet.{RegSet}
use Rattle.c65_code.specs.LineState.{Place, Frame, State, sp_of}
use Rattle.c65_code.specs.Placement.{Setting}
use Rattle.c65_code.specs.Moves.{settle, Enters}
use Rattle.c65_gen_law_stack.specs.Heights.{height_at}
use Rattle.c65_gen_law_stack.specs.Calls.{IsCalled}
use Rattle.c65_gen_law_stack.specs.Going.{sum_in, waiting_at, CallsKeepHeights}
use Rattle.c65_gen_law_stack.proofs.EndWay.{kept_part}
use Rattle.c65_gen_law_stack.proofs.CallWay.{ends_undo_entries}
use Rattle.c65_gen_law_stack.proofs.LineMoves.{Arrives, settles}

pub entered_sp : (s : Setting) (n : ℕ) (reads gives : RegSet) (p q : Place) (a t : State) → Enters s n reads gives p a q t → sp_of t ≡ sp_of a
entered_sp s n reads gives p q a t e =
    let low : a.zp 0 ≡ t.zp 0 = e.keeps.part (Zp 0) (kept_part reads 0 refl) in
    let high : a.zp 1 ≡ t.zp 1 = e.keeps.part (Zp 1) (kept_part reads 1 refl) in
    omega (arith, low, high)

pub calls_keep_heights : CallsKeepHeights
calls_keep_heights s g j n reads gives before middle rest w parts modes called f q r o back a t u v x lines none inside framed takes enters entry holds end =
    let frame : Frame = record { back = (g, settle (s.lines g) (suc (length before + j))); pushed = a.pushed; gives = gives } in
    let done : IsCalled f frame t back x = ends_undo_entries s parts modes called f frame a.frames q r o back t u v x framed enters.frames entry holds end in
    let place : suc (length before + j) ≡ length before + suc j = omega arith in
    let arrives : Arrives g before middle back (height_at w middle (suc j)) w = settles g (suc j) (s.lines g) before middle rest w back lines none inside (done.to ∙ ap (λ (k : ℕ). (g, settle (s.lines g) k)) place) in
    let sum : waiting_at w middle arrives.at ≡ waiting_at w middle (suc j) = ap sum_in arrives.height in
    record { to = arrives.at; within = arrives.low; place = arrives.to; sp = omega (arith, sum, takes, done.sp, entered_sp s n reads gives (g, length before + j) q a t enters) }
