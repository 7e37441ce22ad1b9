-- The law that a run in two calls is the run in one.
use Rattle.std.proofs.Common.{◌≡◌, ℕ, ◌+◌, zero, suc, List, ◌++◌, Bool, true, false, Option, Some, None, ap, sym, refl, ◌∙◌, append_assoc, arith}
use Rattle.std.specs.Prelude.{if◌then◌else◌, ◌==◌}
use Rattle.std.proofs.lemmas.List.{append-nil}
use Rattle.std.proofs.Math.Nat.{add-suc}
use Rattle.c65_mach.specs.State.{State}
use Rattle.c65_mach.specs.Step.{step}
use Rattle.c65_mach.specs.Hooks.{descriptor_of, written, bytes_to_write}
use Rattle.c65_mach.specs.Run.{Setting, Moment, Progress, Running, Ended, Stopped, turn, row_done, next, onward}
use Rattle.c65_sim.specs.Budgets.{start_of}
use Rattle.c65_sim.specs.Laws.{behind}

abbrev pub later : List ℕ → Moment → Moment
later earlier now = record now { output = earlier ++ now.output }

pub choose : (earlier : List ℕ) (b : Bool) (p q p' q' : Progress) → p' ≡ behind earlier p → q' ≡ behind earlier q
    → (if b then p' else q') ≡ behind earlier (if b then p else q)
choose earlier true p q p' q' e e' = e
choose earlier false p q p' q' e e' = e'

pub row_behind : (earlier : List ℕ) (now : Moment) (r : Option State) → row_done (later earlier now) r ≡ behind earlier (row_done now r)
row_behind earlier now None = refl
row_behind earlier now (Some m) = refl

pub turn_behind : (setting : Setting) (earlier : List ℕ) (now : Moment) → turn setting (later earlier now) ≡ behind earlier (turn setting now)
turn_behind setting earlier now =
    let m : State = now.machine in
    choose earlier (m.pc == 0xFFF4) _ _ _ _ refl
    (choose earlier (m.pc == 0xFFF5) _ _ _ _ refl
    (choose earlier (m.pc == 0xFFF6) _ _ _ _ (choose earlier (descriptor_of setting.sp m == 0) _ _ _ _ refl refl)
    (choose earlier (m.pc == 0xFFF7) _ _ _ _
    (choose earlier (descriptor_of setting.sp m == 1) _ _ _ _
    (ap (λ o. Running (record now { machine = written setting.sp m; output = o })) (append_assoc earlier now.output (bytes_to_write setting.sp m))) refl)
    (choose earlier (m.pc == 0xFFF8) _ _ _ _ refl
    (choose earlier (m.pc == 0xFFF9) _ _ _ _ refl (row_behind earlier now (step m)))))))

pub next_behind : (setting : Setting) (earlier : List ℕ) (p : Progress) → next setting (behind earlier p) ≡ behind earlier (next setting p)
next_behind setting earlier (Running now) = turn_behind setting earlier now
next_behind setting earlier (Ended now status) = refl
next_behind setting earlier (Stopped now) = refl

pub joined : (setting : Setting) (first more : ℕ) (m : State) (given : List ℕ) (now : Moment) → onward setting first (start_of m given) ≡ Running now
    → onward setting (first + more) (start_of m given) ≡ behind now.output (onward setting more (start_of now.machine now.input))
unfolding onward
joined setting first zero m given now came =
    let none : first + zero ≡ first = omega arith in
    ap (λ n. onward setting n (start_of m given)) none
    ∙ came
    ∙ ap (λ o. Running (record now { output = o })) (sym (append-nil now.output))
joined setting first (suc more) m given now came =
    ap (λ n. onward setting n (start_of m given)) (add-suc first more)
    ∙ ap (next setting) (joined setting first more m given now came)
    ∙ next_behind setting now.output (onward setting more (start_of now.machine now.input))
