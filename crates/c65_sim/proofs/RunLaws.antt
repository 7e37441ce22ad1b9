-- A call of `run` from the rows that its computer did.
use Rattle.std.proofs.Common.{◌≡◌, ℕ, ◌+◌, ◌<◌, ◌^◌, List, Bool, false, Option, None, Result, Ok, ap, sym, subst, ◌∙◌, arith}
use Rattle.c65_base.specs.declared.refusal.Refusal.{Refusal}
use Rattle.c65_mach.specs.State.{State}
use Rattle.c65_mach.specs.Run.{Setting}
use Rattle.c65_sim.specs.declared.run.Budget.{Budget}
use Rattle.c65_sim.specs.View.{ComputerView, RunView}
use Rattle.c65_sim.specs.Differing.{either}
use Rattle.c65_sim.specs.Runs.{Goes, GoesOn, Runs, count_after, ended_by}

pub finished : (budget : Budget) (guard : Bool) (old : RunView) (at start fin : ComputerView) (count count' rows : ℕ) (differed differed' differs : Bool) (status status' : Option ℕ) (left left' out out' : Option (List ℕ)) (answer result : Result ℕ Refusal)
    → record { setting = at.setting; machine = at.machine; count = count; differed = differed; status = status } ≡ old → status ≡ None → start ≡ record at { is_at_end = false }
    → Goes budget guard count start fin left left' out out' rows differs answer → answer ≡ result → count' ≡ count + count_after rows result
    → differed' ≡ either differed differs
    → status' ≡ ended_by result
    → Runs budget guard old (record { setting = fin.setting; machine = fin.machine; count = count'; differed = differed'; status = status' }) left left' out out' result
finished budget guard old at start fin count count' rows differed differed' differs status status' left left' out out' answer result view going begins goes answers counts parts ends =
    let fresh : ComputerView = record at { is_at_end = false } in
    let new : RunView = record { setting = fin.setting; machine = fin.machine; count = count'; differed = differed'; status = status' } in
    let by : Goes budget guard count fresh fin left left' out out' rows differs result =
    subst (λ r. Goes budget guard count fresh fin left left' out out' rows differs r) answers
    (subst (λ s. Goes budget guard count s fin left left' out out' rows differs answer) begins goes) in
    let to : Setting → State → ℕ → Bool → RunView = λ s m n d. record { setting = s; machine = m; count = n; differed = d; status = ended_by result } in
    let from : Option ℕ → RunView = λ s. record { setting = at.setting; machine = at.machine; count = count; differed = differed; status = s } in
    let on : GoesOn budget guard (from None) new left left' out out' result = record {
      given = by.given;
      rows = rows;
      now = by.now;
      told = by.told;
      came = by.came;
      earlier = by.earlier;
      after = ap (λ t. record { setting = fin.setting; machine = fin.machine; count = count'; differed = differed'; status = t }) ends ∙ ap (λ s. to s fin.machine count' differed') by.setting ∙ ap (λ m. to at.setting m count' differed') by.machine ∙ ap (λ n. to at.setting by.now.machine n differed') counts
          ∙ ap (to at.setting by.now.machine (count + count_after rows result)) (parts ∙ ap (either differed) by.differs);
      ends = by.ends;
    } in
    let P : Option ℕ → Type 0 = λ s. Runs budget guard (from s) new left left' out out' result in
    let Q : RunView → Type 0 = λ v. Runs budget guard v new left left' out out' result in
    let here : P None = on in
    subst Q view (subst P (sym going) here)

-- an exit leaves room for its row
pub room_for_exit : (budget : Budget) (guard : Bool) (count rows : ℕ) (start fin : ComputerView) (left left' out out' : Option (List ℕ)) (differs : Bool) (answer : Result ℕ Refusal) (status : ℕ)
    → Goes budget guard count start fin left left' out out' rows differs answer → answer ≡ Ok status → count + (rows + 1) < 2 ^ 64
room_for_exit budget guard count rows start fin left left' out out' differs answer status goes is =
    let by = subst (λ r. Goes budget guard count start fin left left' out out' rows differs r) is goes in
    let free = by.ends.0.counted in
    omega (arith, free)
