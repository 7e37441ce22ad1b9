-- What a call has done after so many rows, and how it ends.
use Rattle.std.proofs.Common.{◌≡◌, ◌⊎◌, inl, inr, ℕ, ◌+◌, ◌-◌, ◌^◌, ◌<◌, ◌≤◌, min, suc, List, [], ◌++◌, length, take, Bool, true, false, Option, Some, None, Result, Ok, Err, ap, sym, refl, subst, ◌∙◌, append_assoc, arith}
use Rattle.std.specs.Prelude.{◌&&◌}
use Rattle.std.proofs.Math.Seq.{drop-append_seam}
use Rattle.c65_base.specs.declared.refusal.Refusal.{Refusal}
use Rattle.c65_io.specs.Told.{append_told, prepend_told}
use Rattle.c65_io.proofs.ToldLaws.{append_told-nil, append_told-append}
use Rattle.c65_mach.specs.State.{State}
use Rattle.c65_mach.specs.Hooks.{descriptor_of, bytes_to_write}
use Rattle.c65_mach.specs.Run.{Setting, Moment, Progress, Running, Ended, turn, next, onward, moment_of, next_cycles, cycles_next, cycles_after}
use Rattle.c65_sim.specs.declared.run.Budget.{Budget}
use Rattle.c65_sim.specs.declared.run.Budget.TheVariants.{Instructions, Cycles}
use Rattle.c65_sim.specs.declared.stop.Stop.{Stop}
use Rattle.c65_sim.specs.declared.stop.Stop.TheVariants.{Exit, Limit, HardStack, Illegal, ReadFault, WriteFault}
use Rattle.c65_sim.specs.View.{ComputerView}
use Rattle.c65_sim.specs.Budgets.{number_of, price_of, spent_after, is_too_deep, start_of, IsFree}
use Rattle.c65_sim.specs.Differing.{jumps_at_page_end, differs_next, either, differs_in}
use Rattle.c65_sim.specs.Turns.{IsRest, EndIsTold, moment, Turns}
use Rattle.c65_sim.specs.Runs.{retold, StandAt, FailsToRead, FailsToWrite, IsRefused, EndsBy, Goes, answer_of}
use Rattle.c65_sim.proofs.TurnLaws.{prepend_told-nil, at_exit, stopped_turn}
use Rattle.c65_sim.proofs.TakeLaws.{prepend_told-append}
use borrow.Author.Count.{below_more}

-- so many rows over an input, from one machine to another
pub record Went (setting : Setting) (budget : Budget) (guard : Bool) (count rows spent : ℕ) (differed : Bool) (m m' : State) (given rest output : List ℕ) : Type 0 where
  pub came : onward setting rows (start_of m given) ≡ Running (moment m' rest output)
  pub earlier : (k : ℕ) → k < rows → IsFree setting budget guard count k (start_of m given)
  pub spends : spent ≡ min (spent_after setting budget rows (start_of m given)) (2 ^ 64 - 1)
  pub differs : differed ≡ differs_in setting rows (start_of m given)

-- so many rows, whatever the input has behind what was taken
pub record SoFar (budget : Budget) (guard : Bool) (count rows spent : ℕ) (differed : Bool) (old new : ComputerView) (left left' out out' : Option (List ℕ)) : Type 0 where
  pub taken : List ℕ
  pub output : List ℕ
  pub went : (rest : List ℕ) → IsRest new.is_at_end rest → Went old.setting budget guard count rows spent differed old.machine new.machine (taken ++ rest) rest output
  pub same : new.setting ≡ old.setting
  pub ended : EndIsTold new.is_at_end left'
  pub input : left ≡ prepend_told taken left'
  pub written : out' ≡ append_told out output

pub no_rows_spent : (setting : Setting) (budget : Budget) (start : Progress) → 0 ≡ min (spent_after setting budget 0 start) (2 ^ 64 - 1)
unfolding cycles_after
no_rows_spent setting (Instructions n) start = refl
no_rows_spent setting (Cycles n) start = refl

pub none_went : (setting : Setting) (budget : Budget) (guard : Bool) (count : ℕ) (m : State) (rest : List ℕ) → Went setting budget guard count 0 0 false m m rest rest []
unfolding onward differs_in
none_went setting budget guard count m rest = record {
  came = refl;
  earlier = λ k below. absurd (omega arith);
  spends = no_rows_spent setting budget (start_of m rest);
  differs = refl;
}

-- before the first row
pub none_so_far : (budget : Budget) (guard : Bool) (count : ℕ) (old : ComputerView) (left out : Option (List ℕ)) → old.is_at_end ≡ false
    → SoFar budget guard count 0 0 false old old left left out out
none_so_far budget guard count old left out fresh = record {
  taken = [];
  output = [];
  went = λ rest h. none_went old.setting budget guard count old.machine rest;
  same = refl;
  ended = let P : Bool → Type 0 = λ e. EndIsTold e left in subst P (sym fresh) tt;
  input = prepend_told-nil left;
  written = sym (append_told-nil out);
}

-- what one more row spends
pub spent_more : (setting : Setting) (budget : Budget) (rows : ℕ) (start : Progress) (now : Moment) → onward setting rows start ≡ Running now
    → spent_after setting budget (suc rows) start ≡ spent_after setting budget rows start + price_of budget (next_cycles now.machine)
unfolding cycles_after
spent_more setting (Instructions n) rows start now came = omega arith
spent_more setting (Cycles n) rows start now came = ap (λ p. cycles_after setting rows start + cycles_next p) came

-- the next row is free
pub free_now : (setting : Setting) (budget : Budget) (guard : Bool) (count rows spent : ℕ) (differed : Bool) (m m1 : State) (given rest output : List ℕ)
    → Went setting budget guard count rows spent differed m m1 given rest output → number_of budget < 2 ^ 64 → spent < number_of budget → count + rows < 2 ^ 64 - 1
    → (guard && is_too_deep m1) ≡ false → IsFree setting budget guard count rows (start_of m given)
free_now setting budget guard count rows spent differed m m1 given rest output went small free below allowed = record {
  budgeted = omega (arith, went.spends);
  counted = below;
  guarded = ap (λ p. guard && is_too_deep (moment_of p).machine) went.came ∙ allowed;
}

pub went_on : (setting : Setting) (budget : Budget) (guard : Bool) (count rows spent cycles : ℕ) (differed : Bool) (m m1 m2 : State) (given rest rest' output output' : List ℕ)
    → Went setting budget guard count rows spent differed m m1 given rest output → number_of budget < 2 ^ 64 → spent < number_of budget → count + rows < 2 ^ 64 - 1
    → (guard && is_too_deep m1) ≡ false → turn setting (moment m1 rest output) ≡ Running (moment m2 rest' output') → cycles ≡ next_cycles m1
    → Went setting budget guard count (suc rows) (min (spent + price_of budget cycles) (2 ^ 64 - 1)) (either differed (jumps_at_page_end m1)) m m2 given rest' output'
unfolding onward differs_in
went_on setting budget guard count rows spent cycles differed m m1 m2 given rest rest' output output' went small free below allowed goes costs =
    let start : Progress = start_of m given in
    let here = free_now setting budget guard count rows spent differed m m1 given rest output went small free below allowed in
    let more : spent_after setting budget (suc rows) start ≡ spent_after setting budget rows start + price_of budget cycles =
    spent_more setting budget rows start (moment m1 rest output) went.came
    ∙ ap (λ n. spent_after setting budget rows start + price_of budget n) (sym costs) in
    let P : ℕ → Type 0 = λ k. IsFree setting budget guard count k start in
    let one : rows + 1 ≡ suc rows = omega arith in
    record {
      came = ap (next setting) went.came ∙ goes;
      earlier = λ k less. below_more P rows went.earlier here k (let less' : k < rows + 1 = omega arith in less');
      spends = omega (arith, more, went.spends);
      differs = ap (λ d. either d (jumps_at_page_end m1)) went.differs ∙ ap (λ p. either (differs_in setting rows start) (differs_next p)) (sym went.came);
    }

-- one more row
pub one_more : (budget : Budget) (guard : Bool) (count rows spent cycles : ℕ) (differed : Bool) (old now new : ComputerView) (left left1 left2 out out1 out2 : Option (List ℕ))
    → SoFar budget guard count rows spent differed old now left left1 out out1 → number_of budget < 2 ^ 64 → spent < number_of budget → count + rows < 2 ^ 64 - 1
    → Turns guard now new left1 left2 out1 out2 (Ok cycles)
    → SoFar budget guard count (rows + 1) (min (spent + price_of budget cycles) (2 ^ 64 - 1)) (either differed (jumps_at_page_end now.machine)) old new left left2 out out2
one_more budget guard count rows spent cycles differed old now new left left1 left2 out out1 out2 far small free below turns =
    let more : List ℕ = turns.2.0 in
    let bytes : List ℕ = turns.2.1.0 in
    let by = turns.2.1.1 in
    let one : suc rows ≡ rows + 1 = omega arith in
    let spent' : ℕ = min (spent + price_of budget cycles) (2 ^ 64 - 1) in
    let differed' : Bool = either differed (jumps_at_page_end now.machine) in
    let P : Setting → List ℕ → List ℕ → Type 0 = λ s rest o.
    turn s (moment now.machine (more ++ rest) o) ≡ Running (moment new.machine rest (o ++ bytes)) in
    let went : (rest : List ℕ) → IsRest new.is_at_end rest
    → Went old.setting budget guard count (rows + 1) spent' differed' old.machine new.machine ((far.taken ++ more) ++ rest) rest (far.output ++ bytes) = λ rest h.
    let goes : P old.setting rest far.output = subst (λ s. P s rest far.output) far.same (by.goes rest far.output h) in
    let step = went_on old.setting budget guard count rows spent cycles differed old.machine now.machine new.machine (far.taken ++ (more ++ rest)) (more ++ rest) rest far.output (far.output ++ bytes)
    (far.went (more ++ rest) (by.before rest h)) small free below turns.0 goes by.costs in
    let Q : List ℕ → ℕ → Type 0 = λ given n. Went old.setting budget guard count n spent' differed' old.machine new.machine given rest (far.output ++ bytes) in
    let step' = subst (λ n. Q (far.taken ++ (more ++ rest)) n) one step in
    subst (λ given. Q given (rows + 1)) (sym (append_assoc far.taken more rest)) step' in
    record {
      taken = far.taken ++ more;
      output = far.output ++ bytes;
      went = went;
      same = turns.1 ∙ far.same;
      ended = by.ended;
      input = far.input ∙ ap (prepend_told far.taken) by.input ∙ prepend_told-append far.taken more left2;
      written = by.output ∙ ap (λ t. append_told t bytes) far.written ∙ append_told-append out far.output bytes;
    }

-- what is told to be left, or nothing
pub left_or_nil : Option (List ℕ) → List ℕ
left_or_nil None = []
left_or_nil (Some xs) = xs

pub rest_of_told : (e : Bool) (left : Option (List ℕ)) → EndIsTold e left → IsRest e (left_or_nil left)
unfolding left_or_nil
rest_of_told true None h = refl
rest_of_told true (Some xs) h = h
rest_of_told false left h = tt

pub given_told : (left left' : Option (List ℕ)) (taken : List ℕ) → left ≡ prepend_told taken left' → left ≡ retold left (taken ++ left_or_nil left')
unfolding left_or_nil
given_told left None taken e = let P : Option (List ℕ) → Type 0 = λ t. t ≡ retold t (taken ++ []) in subst P (sym e) refl
given_told left (Some xs) taken e = let P : Option (List ℕ) → Type 0 = λ t. t ≡ retold t (taken ++ xs) in subst P (sym e) refl

pub left_told : (left left' : Option (List ℕ)) (taken : List ℕ) → left ≡ prepend_told taken left' → left' ≡ retold left (left_or_nil left')
unfolding left_or_nil
left_told left None taken e = let P : Option (List ℕ) → Type 0 = λ t. None ≡ retold t [] in subst P (sym e) refl
left_told left (Some xs) taken e = let P : Option (List ℕ) → Type 0 = λ t. Some xs ≡ retold t xs in subst P (sym e) refl

-- the moment at which a call stands, once what is left is known
pub stands_at : (budget : Budget) (guard : Bool) (count rows spent : ℕ) (differed : Bool) (old now : ComputerView) (left left1 left2 out out1 out2 : Option (List ℕ))
    → (far : SoFar budget guard count rows spent differed old now left left1 out out1) → left2 ≡ left1 → out2 ≡ out1
    → StandAt (moment now.machine (left_or_nil left1) far.output) left left2 out out2
stands_at budget guard count rows spent differed old now left left1 left2 out out1 out2 far same_left same_out = record {
  input = same_left ∙ left_told left left1 far.taken far.input;
  output = same_out ∙ far.written;
}

-- a call that ends at this moment
pub goes_by : (budget : Budget) (guard : Bool) (count rows spent : ℕ) (differed : Bool) (old now new : ComputerView) (left left1 left2 out out1 out2 : Option (List ℕ)) (answer : Result ℕ Refusal) (rest : List ℕ)
    → (far : SoFar budget guard count rows spent differed old now left left1 out out1) → new ≡ now → IsRest now.is_at_end rest → left ≡ retold left (far.taken ++ rest)
    → EndsBy old.setting budget guard count rows (start_of old.machine (far.taken ++ rest)) (moment now.machine rest far.output) left left2 out out2 answer
    → Goes budget guard count old new left left2 out out2 rows differed answer
goes_by budget guard count rows spent differed old now new left left1 left2 out out1 out2 answer rest far same is_rest told ends =
    let went = far.went rest is_rest in
    record {
      given = far.taken ++ rest;
      now = moment now.machine rest far.output;
      told = told;
      came = went.came;
      earlier = went.earlier;
      differs = went.differs;
      machine = ap (λ (v : ComputerView). v.machine) same;
      setting = ap (λ (v : ComputerView). v.setting) same ∙ far.same;
      ends = ends;
    }

-- the budget is used up, or the count stands at the greatest u64
pub limited : (budget : Budget) (guard : Bool) (count rows spent pc : ℕ) (differed : Bool) (old now : ComputerView) (left left1 out out1 : Option (List ℕ))
    → SoFar budget guard count rows spent differed old now left left1 out out1 → number_of budget < 2 ^ 64 → (number_of budget ≤ spent) ⊎ (count + rows ≡ 2 ^ 64 - 1)
    → Goes budget guard count old now left left1 out out1 rows differed (answer_of budget pc Limit)
limited budget guard count rows spent pc differed old now left left1 out out1 far small over =
    let rest : List ℕ = left_or_nil left1 in
    let is_rest = rest_of_told now.is_at_end left1 far.ended in
    let went = far.went rest is_rest in
    let used : spent ≤ spent_after old.setting budget rows (start_of old.machine (far.taken ++ rest)) = omega (arith, went.spends) in
    let why : (number_of budget ≤ spent_after old.setting budget rows (start_of old.machine (far.taken ++ rest))) ⊎ (count + rows ≡ 2 ^ 64 - 1) =
    elim over [ inl h ↦ inl (omega arith) | inr h ↦ inr h ] in
    goes_by budget guard count rows spent differed old now now left left1 left1 out out1 out1 _ rest far refl is_rest (given_told left left1 far.taken far.input)
    (refl, why, stands_at budget guard count rows spent differed old now left left1 left1 out out1 out1 far refl refl)

-- the computer stopped
pub stopped : (budget : Budget) (guard : Bool) (count rows spent : ℕ) (differed : Bool) (stop : Stop) (old now new : ComputerView) (left left1 left2 out out1 out2 : Option (List ℕ))
    → SoFar budget guard count rows spent differed old now left left1 out out1 → number_of budget < 2 ^ 64 → spent < number_of budget → count + rows < 2 ^ 64 - 1
    → Turns guard now new left1 left2 out1 out2 (Err stop)
    → Goes budget guard count old new left left2 out out2 rows differed (answer_of budget new.machine.pc stop)
stopped budget guard count rows spent differed (Exit status) old now new left left1 left2 out out1 out2 far small free below turns =
    let why = turns.1 in
    let rest : List ℕ = left_or_nil left1 in
    let is_rest = rest_of_told now.is_at_end left1 far.ended in
    let at : Moment = moment now.machine rest far.output in
    let here = free_now old.setting budget guard count rows spent differed old.machine now.machine (far.taken ++ rest) rest far.output (far.went rest is_rest) small free below why.0 in
    goes_by budget guard count rows spent differed old now new left left1 left2 out out1 out2 _ rest far turns.0 is_rest (given_told left left1 far.taken far.input)
    (here, at_exit old.setting at why.1 ∙ ap (Ended at) (sym why.2), stands_at budget guard count rows spent differed old now left left1 left2 out out1 out2 far why.3 why.4)
stopped budget guard count rows spent differed Limit old now new left left1 left2 out out1 out2 far small free below turns = absurd turns.1
stopped budget guard count rows spent differed HardStack old now new left left1 left2 out out1 out2 far small free below turns =
    let why = turns.1 in
    let rest : List ℕ = left_or_nil left1 in
    let is_rest = rest_of_told now.is_at_end left1 far.ended in
    let went = far.went rest is_rest in
    let refused : IsRefused old.setting budget guard count rows (start_of old.machine (far.taken ++ rest)) (moment now.machine rest far.output) =
    record { budgeted = omega (arith, went.spends); counted = below; guarded = why.0; deep = why.1 } in
    goes_by budget guard count rows spent differed old now new left left1 left2 out out1 out2 _ rest far turns.0 is_rest (given_told left left1 far.taken far.input)
    (refused, ap (λ (v : ComputerView). v.machine.pc) turns.0, stands_at budget guard count rows spent differed old now left left1 left2 out out1 out2 far why.2 why.3)
stopped budget guard count rows spent differed Illegal old now new left left1 left2 out out1 out2 far small free below turns =
    let why = turns.1 in
    let rest : List ℕ = left_or_nil left1 in
    let is_rest = rest_of_told now.is_at_end left1 far.ended in
    let at : Moment = moment now.machine rest far.output in
    let here = free_now old.setting budget guard count rows spent differed old.machine now.machine (far.taken ++ rest) rest far.output (far.went rest is_rest) small free below why.0 in
    goes_by budget guard count rows spent differed old now new left left1 left2 out out1 out2 _ rest far turns.0 is_rest (given_told left left1 far.taken far.input)
    (here, stopped_turn old.setting at why.1 why.2, ap (λ (v : ComputerView). v.machine.pc) turns.0, stands_at budget guard count rows spent differed old now left left1 left2 out out1 out2 far why.3 why.4)
stopped budget guard count rows spent differed ReadFault old now new left left1 left2 out out1 out2 far small free below turns =
    let why = turns.1 in
    let fails = why.1 in
    let rest : List ℕ = fails.taken ++ left_or_nil left2 in
    let is_rest : IsRest now.is_at_end rest = let P : Bool → Type 0 = λ e. IsRest e rest in subst P (sym fails.before) tt in
    let here = free_now old.setting budget guard count rows spent differed old.machine now.machine (far.taken ++ rest) rest far.output (far.went rest is_rest) small free below why.0 in
    let whole : left ≡ prepend_told (far.taken ++ fails.taken) left2 =
    far.input ∙ ap (prepend_told far.taken) fails.input ∙ prepend_told-append far.taken fails.taken left2 in
    let told : left ≡ retold left (far.taken ++ rest) =
    given_told left left2 (far.taken ++ fails.taken) whole ∙ ap (retold left) (append_assoc far.taken fails.taken (left_or_nil left2)) in
    let P : Setting → Type 0 = λ s. descriptor_of s.sp now.machine ≡ 0 in
    let reading : FailsToRead old.setting (moment now.machine rest far.output) left left2 out out2 = record {
      taken = length fails.taken;
      at_hook = fails.at_hook;
      from = subst P far.same fails.from;
      some = fails.some;
      input = left_told left left2 (far.taken ++ fails.taken) whole ∙ ap (retold left) (sym (drop-append_seam fails.taken (left_or_nil left2)));
      output = why.2 ∙ far.written;
    } in
    goes_by budget guard count rows spent differed old now new left left1 left2 out out1 out2 _ rest far turns.0 is_rest told (here, reading)
stopped budget guard count rows spent differed WriteFault old now new left left1 left2 out out1 out2 far small free below turns =
    let why = turns.1 in
    let fails = why.1 in
    let rest : List ℕ = left_or_nil left1 in
    let is_rest = rest_of_told now.is_at_end left1 far.ended in
    let here = free_now old.setting budget guard count rows spent differed old.machine now.machine (far.taken ++ rest) rest far.output (far.went rest is_rest) small free below why.0 in
    let P : Setting → Type 0 = λ s. descriptor_of s.sp now.machine ≡ 1 in
    let sp_same : now.setting.sp ≡ old.setting.sp = ap (λ (s : Setting). s.sp) far.same in
    let bytes : ℕ → List ℕ = λ sp. take fails.count (bytes_to_write sp now.machine) in
    let writing : FailsToWrite old.setting (moment now.machine rest far.output) left left2 out out2 = record {
      count = fails.count;
      at_hook = fails.at_hook;
      to = subst P far.same fails.to;
      input = why.2 ∙ left_told left left1 far.taken far.input;
      output = fails.output
          ∙ ap (λ t. append_told t (bytes now.setting.sp)) far.written
          ∙ append_told-append out far.output (bytes now.setting.sp)
          ∙ ap (λ sp. append_told out (far.output ++ bytes sp)) sp_same;
    } in
    goes_by budget guard count rows spent differed old now new left left1 left2 out out1 out2 _ rest far turns.0 is_rest (given_told left left1 far.taken far.input) (here, writing)
