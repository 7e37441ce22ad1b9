-- Laws of turns.
use Rattle.std.proofs.Common.{◌≡◌, ◌≢◌, inl, inr, ℕ, ◌+◌, ◌%◌, ◌/◌, ◌<◌, set, get_or, ◌≤◌, List, [], ◌++◌, length, take, drop, Bool, true, false, Option, Some, None, Ok, Err, ap, sym, refl, subst, ◌∙◌, arith}
use Rattle.std.specs.Prelude.{if◌then◌else◌, ◌==◌, ◌&&◌}
use Rattle.std.proofs.lemmas.Bool.{false≢true, eqb-true, eq-eqb, cases_lt}
use Rattle.std.proofs.lemmas.Bool.Decides.{eqb_tells}
use Rattle.c65_sim.specs.Budgets.{is_too_deep}
use Rattle.std.proofs.lemmas.List.{set-set, set_comm, set-get_or, append-nil, length-take-le, take_at, take_all, drop_all}
use Rattle.std.proofs.Math.Seq.{drop-append_seam}
use Rattle.c65_base.specs.declared.refusal.Refusal.{Refusal}
use Rattle.c65_io.specs.Told.{append_told, prepend_told}
use Rattle.c65_io.proofs.ToldLaws.{append_told-nil}
use Rattle.c65_mach.specs.declared.rows.Row.{Row}
use Rattle.c65_mach.specs.State.{State, Memory, read, write}
use Rattle.c65_mach.specs.Step.{after, word_at, row_at, step, step_by, Steps, cycles_of}
use Rattle.c65_mach.specs.Hooks.{ax, descriptor_of, buffer_of, popped, opened, closed, hooked, read_into, written, not_served, bytes_to_write, given_args, put_bytes}
use Rattle.c65_mach.specs.Run.{Setting, Moment, Progress, Running, Ended, Stopped, turn, row_done, reads, writes, is_hook, next_cycles, row_cycles}
use Rattle.c65_sim.specs.View.{ComputerView}
use Rattle.c65_sim.specs.Turns.{IsRest, EndIsTold, moment, TurnsBy, Takes}

pub prepend_told-nil : (told : Option (List ℕ)) → told ≡ prepend_told [] told
prepend_told-nil None = refl
prepend_told-nil (Some xs) = refl

-- a turn that takes nothing and writes nothing
pub quiet : (setting : Setting) (m m' : State) (e : Bool) (left out : Option (List ℕ)) (cycles : ℕ) → EndIsTold e left
    → ((input earlier : List ℕ) → turn setting (moment m input earlier) ≡ Running (moment m' input earlier)) → cycles ≡ next_cycles m
    → TurnsBy [] [] setting m m' e e left left out out cycles
quiet setting m m' e left out cycles told goes costs = record {
  goes = λ rest earlier h. goes rest earlier ∙ ap (λ o. Running (moment m' rest o)) (sym (append-nil earlier));
  before = λ rest h. h;
  ended = told;
  input = prepend_told-nil left;
  output = sym (append_told-nil out);
  costs = costs;
}

-- the turn at each hook
pub at_open : (setting : Setting) (m : State) (input earlier : List ℕ) → m.pc ≡ 0xFFF4
    → turn setting (moment m input earlier) ≡ Running (moment (opened setting.sp m) input earlier)
at_open setting m input earlier e = rw e

pub at_close : (setting : Setting) (m : State) (input earlier : List ℕ) → m.pc ≡ 0xFFF5
    → turn setting (moment m input earlier) ≡ Running (moment (closed m) input earlier)
at_close setting m input earlier e = rw e

pub at_read : (setting : Setting) (m : State) (input earlier : List ℕ) → m.pc ≡ 0xFFF6
    → turn setting (moment m input earlier) ≡ reads setting.sp (moment m input earlier)
at_read setting m input earlier e = rw e

pub at_write : (setting : Setting) (m : State) (input earlier : List ℕ) → m.pc ≡ 0xFFF7
    → turn setting (moment m input earlier) ≡ writes setting.sp (moment m input earlier)
at_write setting m input earlier e = rw e

pub at_args : (setting : Setting) (m : State) (input earlier : List ℕ) → m.pc ≡ 0xFFF8
    → turn setting (moment m input earlier) ≡ Running (moment (given_args setting.sp setting.args m) input earlier)
at_args setting m input earlier e = rw e

pub at_exit : (setting : Setting) (now : Moment) → now.machine.pc ≡ 0xFFF9 → turn setting now ≡ Ended now now.machine.regs.a
at_exit setting now e = rw e

pub hook_costs : (m : State) → is_hook m.pc ≡ true → 6 ≡ next_cycles m
hook_costs m h = sym (ap (λ b. if b then 6 else row_cycles (row_at m) m) h)

-- a quiet hook, at the view of a computer
pub quiet_hook : (old : ComputerView) (s : Setting) (m m' : State) (e : Bool) (left out : Option (List ℕ))
    → record { setting = s; machine = m; is_at_end = e } ≡ old → EndIsTold old.is_at_end left → is_hook m.pc ≡ true
    → ((input earlier : List ℕ) → turn s (moment m input earlier) ≡ Running (moment m' input earlier))
    → (s ≡ old.setting) × ((taken : List ℕ) × ((bytes : List ℕ) × TurnsBy taken bytes old.setting old.machine m' old.is_at_end e left left out out 6))
quiet_hook old s m m' e left out view told hook goes =
    let P : ComputerView → Type 0 = λ v. EndIsTold v.is_at_end left
    → (s ≡ v.setting) × ((taken : List ℕ) × ((bytes : List ℕ) × TurnsBy taken bytes v.setting v.machine m' v.is_at_end e left left out out 6)) in
    subst P view (λ t. (refl, ([], ([], quiet s m m' e left out 6 t goes (hook_costs m hook))))) told

pub rest_nil : (e : Bool) (rest : List ℕ) → e ≡ true → IsRest e rest → rest ≡ []
rest_nil e rest is h = let P : Bool → Type 0 = λ b. IsRest b rest in let h' : IsRest true rest = subst P is h in h'

-- what a read takes is what there is up to its count
pub parted : (n k : ℕ) (into rest : List ℕ) (e : Bool) → length into ≡ n → k ≤ length into → (k < length into → e ≡ true) → IsRest e rest
    → (take n (take k into ++ rest) ≡ take k into) × (drop n (take k into ++ rest) ≡ rest)
parted n k into rest e len fits short is_rest =
    let taken : List ℕ = take k into in
    let length_is : length taken ≡ k = length-take-le k into fits in
    elim (cases_lt k n) [
      | inl lt ↦
          let less : k < length into = omega arith in
          let none : rest ≡ [] = rest_nil e rest (short less) is_rest in
          let join : taken ++ rest ≡ taken = ap (λ xs. taken ++ xs) none ∙ append-nil taken in
          let few : length taken ≤ n = omega arith in
          (ap (take n) join ∙ take_all n taken few, ap (drop n) join ∙ drop_all n taken few ∙ sym none)
      | inr le ↦
          let all : length taken ≡ n = omega arith in
          (take_at taken rest n all, ap (λ j. drop j (taken ++ rest)) (sym all) ∙ drop-append_seam taken rest)
    ]

pub before_of : (e e' : Bool) (into rest : List ℕ) (k : ℕ) → (e ≡ true → (k ≡ 0) × (e' ≡ true)) → IsRest e' rest → IsRest e (take k into ++ rest)
before_of true e' into rest k h is_rest =
    let p = h refl in
    ap (λ j. take j into ++ rest) p.0 ∙ rest_nil e' rest p.1 is_rest
before_of false e' into rest k h is_rest = tt

-- `read` of descriptor 0
pub read_done : (sp : ℕ) (m m' : State) (e e' : Bool) (left left' : Option (List ℕ)) (into : List ℕ) (k : ℕ) → m.pc ≡ 0xFFF6
    → (descriptor_of sp m == 0) ≡ true → length into ≡ ax m → Takes e e' left left' into k → m' ≡ read_into sp (take k into) m
    → (taken : List ℕ) × ((args : List (List ℕ)) (out : Option (List ℕ)) → TurnsBy taken [] (record { sp = sp; args = args }) m m' e e' left left' out out 6)
read_done sp m m' e e' left left' into k pc served len takes becomes =
    let taken : List ℕ = take k into in
    let hook : is_hook m.pc ≡ true = ap is_hook pc in
    let by : List ℕ → List ℕ → List ℕ → Progress = λ t d o. Running (moment (read_into sp t m) d o) in (
      taken,
      λ args out. record {
        goes = λ rest earlier h.
            let parts = parted (ax m) k into rest e' len takes.fits takes.short h in
            at_read (record { sp = sp; args = args }) m (taken ++ rest) earlier pc
            ∙ ap (λ b. if b then by (take (ax m) (taken ++ rest)) (drop (ax m) (taken ++ rest)) earlier else Running (moment (not_served sp m) (taken ++ rest) earlier)) served
            ∙ ap (λ t. by t (drop (ax m) (taken ++ rest)) earlier) parts.0
            ∙ ap (λ d. by taken d earlier) parts.1
            ∙ ap (λ u. Running (moment u rest earlier)) (sym becomes)
            ∙ ap (λ o. Running (moment m' rest o)) (sym (append-nil earlier));
        before = λ rest h. before_of e e' into rest k takes.before h;
        ended = takes.ended;
        input = takes.input;
        output = sym (append_told-nil out);
        costs = hook_costs m hook;
      },
    )

-- `read` of another descriptor
pub read_refused : (sp : ℕ) (m m' : State) (e : Bool) (left : Option (List ℕ)) → m.pc ≡ 0xFFF6
    → (descriptor_of sp m == 0) ≡ false → EndIsTold e left → m' ≡ not_served sp m
    → (taken : List ℕ) × ((args : List (List ℕ)) (out : Option (List ℕ)) → TurnsBy taken [] (record { sp = sp; args = args }) m m' e e left left out out 6)
read_refused sp m m' e left pc other told becomes = (
  [],
  λ args out. quiet (record { sp = sp; args = args }) m m' e left out 6 told
      (λ input earlier.
      at_read (record { sp = sp; args = args }) m input earlier pc
      ∙ ap (λ b. if b then Running (moment (read_into sp (take (ax m) input) m) (drop (ax m) input) earlier) else Running (moment (not_served sp m) input earlier)) other
      ∙ ap (λ u. Running (moment u input earlier)) (sym becomes))
      (hook_costs m (ap is_hook pc)),
)

-- `write` to descriptor 1
pub write_done : (sp : ℕ) (m m' : State) (out out' : Option (List ℕ)) (bytes : List ℕ) → m.pc ≡ 0xFFF7
    → (descriptor_of sp m == 1) ≡ true → bytes ≡ bytes_to_write sp m → out' ≡ append_told out bytes → m' ≡ written sp m
    → (bytes : List ℕ) × ((args : List (List ℕ)) (e : Bool) (left : Option (List ℕ)) → EndIsTold e left
    → TurnsBy [] bytes (record { sp = sp; args = args }) m m' e e left left out out' 6)
write_done sp m m' out out' bytes pc served are appended becomes = (
  bytes,
  λ args e left told. record {
    goes = λ rest earlier h.
        at_write (record { sp = sp; args = args }) m rest earlier pc
        ∙ ap (λ b. if b then Running (moment (written sp m) rest (earlier ++ bytes_to_write sp m)) else Running (moment (not_served sp m) rest earlier)) served
        ∙ ap (λ xs. Running (moment (written sp m) rest (earlier ++ xs))) (sym are)
        ∙ ap (λ u. Running (moment u rest (earlier ++ bytes))) (sym becomes);
    before = λ rest h. h;
    ended = told;
    input = prepend_told-nil left;
    output = appended;
    costs = hook_costs m (ap is_hook pc);
  },
)

-- `write` to another descriptor
pub write_refused : (sp : ℕ) (m m' : State) (out : Option (List ℕ)) → m.pc ≡ 0xFFF7
    → (descriptor_of sp m == 1) ≡ false → m' ≡ not_served sp m
    → (bytes : List ℕ) × ((args : List (List ℕ)) (e : Bool) (left : Option (List ℕ)) → EndIsTold e left
    → TurnsBy [] bytes (record { sp = sp; args = args }) m m' e e left left out out 6)
write_refused sp m m' out pc other becomes = (
  [],
  λ args e left told. quiet (record { sp = sp; args = args }) m m' e left out 6 told
      (λ input earlier.
      at_write (record { sp = sp; args = args }) m input earlier pc
      ∙ ap (λ b. if b then Running (moment (written sp m) input (earlier ++ bytes_to_write sp m)) else Running (moment (not_served sp m) input earlier)) other
      ∙ ap (λ u. Running (moment u input earlier)) (sym becomes))
      (hook_costs m (ap is_hook pc)),
)

-- two bytes that were changed, and put back
two_back : (mem : Memory) (a b x y : ℕ) → b ≢ a → write (write (write (write mem a x) b y) a (read mem a)) b (read mem b) ≡ mem
two_back mem a b x y other =
    ap (λ (n : Memory). set n b (get_or mem b 0))
    (set_comm (set mem a x) b a y (get_or mem a 0) other ∙ ap (λ (n : Memory). set n b y) (set-set mem a x (get_or mem a 0) ∙ set-get_or mem a 0))
    ∙ set-set mem b y (get_or mem b 0)
    ∙ set-get_or mem b 0

-- the stack's pointer put back where the sink failed
pub put_back : (sp at low high : ℕ) (m m1 m2 m3 : State) → sp < 256 → at ≡ sp → low ≡ read m.mem at → high ≡ read m.mem (at + 1) → m1 ≡ popped sp 4 m
    → m2 ≡ record m1 { mem = write m1.mem at low } → m3 ≡ record m2 { mem = write m2.mem (at + 1) high } → m3 ≡ m
put_back sp at low high m m1 m2 m3 small is l h e1 e2 e3 =
    let next : after sp 1 ≡ sp + 1 = omega arith in
    let other : sp + 1 ≢ sp = λ same. omega (arith, same) in
    let mem : write (write (popped sp 4 m).mem at low) (at + 1) high ≡ m.mem = rw (l, h, is, next) (two_back m.mem sp (sp + 1) _ _ other) in
    e3
    ∙ ap (λ (u : State). record u { mem = write u.mem (at + 1) high }) (e2 ∙ ap (λ (u : State). record u { mem = write u.mem at low }) e1)
    ∙ ap (λ (n : Memory). record m { mem = n }) mem

-- the machine after `read` and after `write`
pub read_machine : (sp k : ℕ) (bytes : List ℕ) (m m1 m2 m3 : State) → length bytes ≡ k → m1 ≡ popped sp 4 m
    → m2 ≡ record m1 { mem = put_bytes m1.mem (buffer_of sp m) bytes } → m3 ≡ hooked k m2 → m3 ≡ read_into sp bytes m
read_machine sp k bytes m m1 m2 m3 len e1 e2 e3 =
    e3
    ∙ ap (λ n. hooked n m2) (sym len)
    ∙ ap (hooked (length bytes)) (e2 ∙ ap (λ (u : State). record u { mem = put_bytes u.mem (buffer_of sp m) bytes }) e1)

-- an address that is no hook is none of the six
apart : (pc k : ℕ) (b : Bool) → is_hook pc ≡ false → is_hook k ≡ true → (pc == k) ≡ b → (pc == k) ≡ false
apart pc k true h h' e = absurd (false≢true (sym h ∙ ap is_hook (eqb-true pc k e) ∙ h'))
apart pc k false h h' e = e

pub no_hook : (setting : Setting) (m : State) (input earlier : List ℕ) → is_hook m.pc ≡ false
    → turn setting (moment m input earlier) ≡ row_done (moment m input earlier) (step m)
no_hook setting m input earlier h =
    rw (
      apart m.pc 0xFFF4 (m.pc == 0xFFF4) h refl refl,
      apart m.pc 0xFFF5 (m.pc == 0xFFF5) h refl refl,
      apart m.pc 0xFFF6 (m.pc == 0xFFF6) h refl refl,
      apart m.pc 0xFFF7 (m.pc == 0xFFF7) h refl refl,
      apart m.pc 0xFFF8 (m.pc == 0xFFF8) h refl refl,
      apart m.pc 0xFFF9 (m.pc == 0xFFF9) h refl refl,
    )

-- a row
pub row_turn : (setting : Setting) (m m' : State) (e : Bool) (left out : Option (List ℕ)) (cycles : ℕ) (r : Option Row) → is_hook m.pc ≡ false
    → row_at m ≡ r → Steps r m m' (Ok cycles) → EndIsTold e left → TurnsBy [] [] setting m m' e e left left out out cycles
row_turn setting m m' e left out cycles None h is steps told = cc
row_turn setting m m' e left out cycles (Some row) h is steps told =
    let costs : cycles ≡ cycles_of row m = cc (steps.1) in
    quiet setting m m' e left out cycles told
    (λ input earlier.
    no_hook setting m input earlier h
    ∙ ap (λ r. row_done (moment m input earlier) (step_by r m)) is
    ∙ ap (λ u. Running (moment u input earlier)) (sym steps.0))
    (costs
    ∙ sym (ap (λ r. row_cycles r m) is)
    ∙ sym (ap (λ b. if b then 6 else row_cycles (row_at m) m) h))

-- a byte without a row
pub no_row : (m m' : State) (refusal : Refusal) (r : Option Row) → row_at m ≡ r → Steps r m m' (Err refusal) → (m' ≡ m) × (row_at m ≡ None)
no_row m m' refusal None is steps = (steps.0, is)
no_row m m' refusal (Some row) is steps = let e = steps.1 in cc

pub stopped_turn : (setting : Setting) (now : Moment) → is_hook now.machine.pc ≡ false → row_at now.machine ≡ None → turn setting now ≡ Stopped now
stopped_turn setting now h none =
    no_hook setting now.machine now.input now.output h
    ∙ ap (λ r. row_done now (step_by r now.machine)) none

-- a test on a number that was compared
pub is_not_at : (a b k : ℕ) → a ≡ b → (a ≡ k → ⊥) → (b == k) ≡ false
is_not_at a b k same other = elim (eqb_tells b k) [ inl meets ↦ absurd (other (same ∙ meets.1)) | inr misses ↦ misses.0 ]

pub is_at : (a b k : ℕ) → a ≡ b → a ≡ k → (b == k) ≡ true
is_at a b k same here = eq-eqb b k (sym same ∙ here)

-- a hook that reads or writes, at the view of a computer
pub io_hook : (old : ComputerView) (s : Setting) (m m' : State) (e e' : Bool) (left left' out out' : Option (List ℕ))
    → record { setting = s; machine = m; is_at_end = e } ≡ old
    → (taken : List ℕ) × ((bytes : List ℕ) × TurnsBy taken bytes s m m' e e' left left' out out' 6)
    → (s ≡ old.setting) × ((taken : List ℕ) × ((bytes : List ℕ) × TurnsBy taken bytes old.setting old.machine m' old.is_at_end e' left left' out out' 6))
io_hook old s m m' e e' left left' out out' view by =
    let P : ComputerView → Type 0 = λ v.
    (s ≡ v.setting) × ((taken : List ℕ) × ((bytes : List ℕ) × TurnsBy taken bytes v.setting v.machine m' v.is_at_end e' left left' out out' 6)) in
    subst P view (refl, by)

-- a row, at the view of a computer
pub row_done_turn : (guard : Bool) (old : ComputerView) (s : Setting) (m m' : State) (e : Bool) (left out : Option (List ℕ)) (cycles : ℕ)
    → record { setting = s; machine = m; is_at_end = e } ≡ old → EndIsTold old.is_at_end left → is_hook m.pc ≡ false
    → (guard && is_too_deep m) ≡ false → Steps (row_at m) m m' (Ok cycles)
    → ((guard && is_too_deep old.machine) ≡ false) × (s ≡ old.setting)
    × ((taken : List ℕ) × ((bytes : List ℕ) × TurnsBy taken bytes old.setting old.machine m' old.is_at_end e left left out out cycles))
row_done_turn guard old s m m' e left out cycles view told hook allowed steps =
    let P : ComputerView → Type 0 = λ v. EndIsTold v.is_at_end left → ((guard && is_too_deep v.machine) ≡ false) × (s ≡ v.setting)
    × ((taken : List ℕ) × ((bytes : List ℕ) × TurnsBy taken bytes v.setting v.machine m' v.is_at_end e left left out out cycles)) in
    subst P view (λ t. (allowed, refl, ([], ([], row_turn s m m' e left out cycles (row_at m) hook refl steps t)))) told

-- a byte without a row, at the view of a computer
pub no_row_turn : (guard : Bool) (old : ComputerView) (s : Setting) (m m' : State) (e : Bool) (left out : Option (List ℕ)) (refusal : Refusal)
    → record { setting = s; machine = m; is_at_end = e } ≡ old → is_hook m.pc ≡ false → (guard && is_too_deep m) ≡ false
    → Steps (row_at m) m m' (Err refusal)
    → (record { setting = s; machine = m'; is_at_end = e } ≡ old)
    × (((guard && is_too_deep old.machine) ≡ false) × (is_hook old.machine.pc ≡ false) × (row_at old.machine ≡ None) × (left ≡ left) × (out ≡ out))
no_row_turn guard old s m m' e left out refusal view hook allowed steps =
    let p = no_row m m' refusal (row_at m) refl steps in
    let at : State → ComputerView = λ u. record { setting = s; machine = u; is_at_end = e } in
    let P : ComputerView → Type 0 = λ v. (at m' ≡ v)
    × (((guard && is_too_deep v.machine) ≡ false) × (is_hook v.machine.pc ≡ false) × (row_at v.machine ≡ None) × (left ≡ left) × (out ≡ out)) in
    subst P view (ap at p.0, (allowed, hook, p.1, refl, refl))
