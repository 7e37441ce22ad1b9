-- Calls of hooks are followed by two rows: the call, and the hook, which returns.
use Rattle.std.proofs.Common.{◌≡◌, ℕ, ◌+◌, ◌*◌, ◌%◌, ◌/◌, ◌<◌, ◌≤◌, ◌==◌, inl, inr, Bool, true, false, nat_le, if◌then◌else◌, List, [], ◌++◌, length, take, drop, All, Some, None, refl, ap, sym, ◌∙◌, subst, arith, leb-true}
use Rattle.std.proofs.lemmas.Bool.{and_parts}
use Rattle.std.proofs.lemmas.List.{append-nil}
use Rattle.std.proofs.lemmas.List.Elements.{All-nil, All-head, All-tail, All-take, All-drop}
use Rattle.c65_mach.specs.State.{Regs, State as Machine}
use Rattle.c65_mach.specs.Step.{after, word_at as word_in}
use Rattle.c65_mach.specs.Hooks.{ax as ax_in, put_word, put_bytes, hooked, buffer_of, descriptor_of, read_into, not_served}
use Rattle.c65_mach.specs.Run.{Setting, Moment, Progress, Running, turn, with_machine, reads, is_hook}
use Rattle.c65_code.specs.declared.routine.Routine.TheVariants as routines
use Rattle.c65_code.specs.declared.routine.Width.TheVariants.{Ax}
use Rattle.c65_code.specs.Texts.{range_of, listed}
use Rattle.c65_code.specs.LineState.{Place, State, write, word_at, sp_of, ax_of, IsBytes}
use Rattle.c65_code.specs.Placement.{stack_start, stack_end}
use Rattle.c65_code.specs.Rows.{Row, Meets, written, giving, popping}
use Rattle.c65_code.specs.RawMachine.{RawSetting, Bounds, IsReachable, IsHookWithin, quiet, called}
use Rattle.c65_link_law_follow.specs.Agree.{Ground, Agrees, none, more, IsFirstOr}
use Rattle.c65_link_law_follow.specs.Laid.{IsGround}
use Rattle.c65_link_law_follow.proofs.Bytes.{Moved}
use Rattle.c65_link_law_runs.specs.Follows.{first_hook, IsOnTheWay, Follows, goes_on, IsSetFor, IsRunning}
use Rattle.c65_link_law_runs.proofs.Answers.{turn_there, hooks_are_free, IsOpenAt, all_open, on_bytes, on_sp, on_streams, sp_there, word_there, on_answer, answered, met, IsByte, IsByteWrite, listed_bytes, answered_bytes, taken_most, drop_taken}

-- a hook's turn: what it leads to, where the states agree again behind the call
pub record Served (g : Ground) (setting : Setting) (back : Place) (u : State) (n : Moment) : Type 0 where
  pub next : Moment
  pub turn_is : turn setting n ≡ Running next
  pub agrees : Agrees g (g.at back) u next

hook_high : (hook : ℕ) → is_hook hook ≡ true → first_hook ≤ hook
hook_high hook h = leb-true first_hook hook (and_parts (nat_le first_hook hook) (nat_le hook 0xFFF9) h).0

-- the call and the hook
pub two_rows : (g : Ground) (setting : Setting) (p : Place) (hook : ℕ) (back : Place) (t1 u : State) (now : Moment) (Q : Place → State → Type 0) → is_hook hook ≡ true → (m : Moved g setting hook t1 now) → Served g setting back u m.next → Q back u → u.ended ≡ None → Follows (IsFirstOr (IsOnTheWay g p) now) g setting 1 2 now Q
two_rows g setting p hook back t1 u now Q is m v holds running =
    let high = hook_high hook is in let pc = m.agrees.pc in
    goes_on 2 v.next back u (omega arith) (omega arith) (more m.turn_is m.free (inl refl) (more v.turn_is (hooks_are_free m.next.machine hook m.agrees.pc is) (inr (inr (omega (arith, high, pc)))) none)) holds running v.agrees

-- the end of a hook that moves the sp
pub ends_well : (g : Ground) (hook : ℕ) (back : Place) (t : State) (n : Moment) (answer to : ℕ) (ws : List (ℕ × ℕ)) (taken : ℕ) (out i o : List ℕ) → g.at back ≤ 65535
    → Agrees g hook (record (called back t) { zp = write (write t.zp 0 (to % 256)) 1 (to / 256); mem = written t.mem ws }) n → i ≡ drop taken t.input → o ≡ t.output ++ out
    → Agrees g (g.at back) (answered t answer to ws taken out) (record n { machine = hooked answer n.machine; input = i; output = o })
ends_well g hook back t n answer to ws taken out i o fits a e f =
    let t2 : State = record (called back t) { zp = write (write t.zp 0 (to % 256)) 1 (to / 256); mem = written t.mem ws } in
    on_answer g hook back t.pushed t.frames (record t2 { input = drop taken t.input; output = t.output ++ out }) (record n { input = i; output = o }) answer
    (on_streams g hook t2 n i o (drop taken t.input) (t.output ++ out) a e f) fits refl refl

-- nothing is written
pub no_output : (n : Moment) (t : State) → n.output ≡ t.output → n.output ≡ t.output ++ []
no_output n t e = e ∙ sym (append-nil t.output)

-- The stack of `open`, `read` and `write`

-- the four bytes on the software stack
pub record Four (g : Ground) (t : State) : Type 0 where
  pub sp : IsOpenAt g (sp_of t)
  pub second : IsOpenAt g (sp_of t + 2)
  pub low : sp_of t + 3 < stack_end

pub four : (g : Ground) (t : State) → All (IsOpenAt g) (range_of 4 (sp_of t)) → Four g t
four g t all =
    let a : ℕ = sp_of t in
    let one = All-tail (IsOpenAt g) a (range_of 3 (a + 1)) all in
    let two = All-tail (IsOpenAt g) (a + 1) (range_of 2 (a + 1 + 1)) one in
    let three = All-tail (IsOpenAt g) (a + 1 + 1) (range_of 1 (a + 1 + 1 + 1)) two in
    let last = All-head (IsOpenAt g) (a + 1 + 1 + 1) [] three in
    let to = last.to in
    let e : a + 1 + 1 ≡ a + 2 = omega arith in
    record {
      sp = All-head (IsOpenAt g) a (range_of 3 (a + 1)) all;
      second = subst (λ (b : ℕ). IsOpenAt g b) e (All-head (IsOpenAt g) (a + 1 + 1) (range_of 1 (a + 1 + 1 + 1)) two);
      low = omega (arith, to);
    }

pub buffer_there : (g : Ground) (hook : ℕ) (t1 : State) (n : Moment) → Agrees g hook t1 n → Four g t1 → buffer_of 0 n.machine ≡ word_at t1.mem (sp_of t1)
buffer_there g hook t1 n a f = (let low = f.low in word_there g hook t1 n (word_in n.machine.mem 0) (sp_of t1) a (sp_there g hook t1 n a) f.sp (omega (arith, low)))

pub descriptor_there : (g : Ground) (hook : ℕ) (t1 : State) (n : Moment) → Agrees g hook t1 n → Four g t1 → descriptor_of 0 n.machine ≡ word_at t1.mem (sp_of t1 + 2)
descriptor_there g hook t1 n a f =
    let low = f.low in let at = sp_there g hook t1 n a in
    word_there g hook t1 n (after (word_in n.machine.mem 0) 2) (sp_of t1 + 2) a (omega (arith, at, low)) f.second (omega (arith, low))

pub popped_to : (g : Ground) (hook : ℕ) (t1 : State) (n : Moment) → Agrees g hook t1 n → Four g t1 → after (word_in n.machine.mem 0) 4 ≡ sp_of t1 + 4
popped_to g hook t1 n a f = (let low = f.low in let at = sp_there g hook t1 n a in omega (arith, at, low))

pub ax_there : (g : Ground) (hook : ℕ) (t1 : State) (n : Moment) → Agrees g hook t1 n → ax_in n.machine ≡ ax_of t1
ax_there g hook t1 n a = ap (λ (r : Regs). r.a + 256 * r.x) a.regs

pub ax_low : (t : State) → IsBytes t → ax_of t < 65536
ax_low t b = (let low = b.a in let high = b.x in omega (arith, low, high))

-- a hook that refuses another descriptor than its own
pub refuses : (g : Ground) (setting : Setting) (hook : ℕ) (back : Place) (t : State) (n : Moment) → Agrees g hook (called back t) n → Four g t → g.at back ≤ 65535 → turn setting n ≡ with_machine n (not_served 0 n.machine) → Served g setting back (answered t 65535 (sp_of t + 4) [] 0 []) n
refuses g setting hook back t n a f fits is =
    let m : Machine = n.machine in
    let done : Moment = record n { machine = record m { mem = put_word m.mem 0 (sp_of t + 4) } } in
    record {
      next = record done { machine = hooked 65535 done.machine; input = n.input; output = n.output };
      turn_is = is ∙ ap (λ (w : ℕ). Running (record n { machine = hooked 65535 (record m { mem = put_word m.mem 0 w }) })) (popped_to g hook (called back t) n a (record { sp = f.sp; second = f.second; low = f.low }));
      agrees = ends_well g hook back t done 65535 (sp_of t + 4) [] 0 [] n.input n.output fits (on_sp g hook (called back t) n (sp_of t + 4) a) a.input (no_output n t a.output);
    }

-- `read`

abbrev pub read_row : Bool → State → Row
read_row b t =
    let row = popping 4 t (quiet routines.HookRead t) in
    let bytes = take (ax_of t) t.input in
    if b
    then record (giving Ax (length bytes) row) { writes = listed bytes (word_at t.mem (sp_of t)); far = range_of (length bytes) (word_at t.mem (sp_of t)); taken = length bytes }
    else giving Ax 65535 row

-- the states that `read` and `write` lead to
abbrev pub read_state : Bool → State → State
read_state b t =
    let bytes = take (ax_of t) t.input in
    if b then answered t (length bytes) (sp_of t + 4) (listed bytes (word_at t.mem (sp_of t))) (length bytes) [] else answered t 65535 (sp_of t + 4) [] 0 []

into_buffer : (g : Ground) (setting : Setting) (back : Place) (t : State) (n : Moment) → Agrees g 0xFFF6 (called back t) n → Four g t → g.at back ≤ 65535 → All (IsOpenAt g) (range_of (length (take (ax_of t) t.input)) (word_at t.mem (sp_of t)))
    → turn setting n ≡ Running (record n { machine = read_into 0 (take (ax_in n.machine) n.input) n.machine; input = drop (ax_in n.machine) n.input }) → Served g setting back (read_state true t) n
into_buffer g setting back t n a f fits all is =
    let m : Machine = n.machine in
    let t1 : State = called back t in
    let f1 : Four g t1 = record { sp = f.sp; second = f.second; low = f.low } in
    let bytes : List ℕ = take (ax_of t) t.input in
    let popped : Moment = record n { machine = record m { mem = put_word m.mem 0 (sp_of t + 4) } } in
    let done : Moment = record n { machine = record m { mem = put_bytes (put_word m.mem 0 (sp_of t + 4)) (buffer_of 0 m) bytes } } in
    let t2 : State = record t1 { zp = write (write t.zp 0 ((sp_of t + 4) % 256)) 1 ((sp_of t + 4) / 256) } in
    let agrees : Agrees g 0xFFF6 (record t2 { mem = written t.mem (listed bytes (word_at t.mem (sp_of t))) }) done =
    on_bytes bytes g 0xFFF6 t2 popped (buffer_of 0 m) (word_at t.mem (sp_of t)) (on_sp g 0xFFF6 t1 n (sp_of t + 4) a) (buffer_there g 0xFFF6 t1 n a f1) all in
    record {
      next = record done { machine = hooked (length bytes) done.machine; input = drop (ax_of t) t.input; output = n.output };
      turn_is = is
          ∙ ap (λ (w : ℕ). Running (record n { machine = hooked (length (take (ax_in m) n.input)) (record m { mem = put_bytes (put_word m.mem 0 w) (buffer_of 0 m) (take (ax_in m) n.input) }); input = drop (ax_in m) n.input })) (popped_to g 0xFFF6 t1 n a f1)
          ∙ ap (λ (k : ℕ). Running (record n { machine = hooked (length (take k n.input)) (record m { mem = put_bytes (put_word m.mem 0 (sp_of t + 4)) (buffer_of 0 m) (take k n.input) }); input = drop k n.input })) (ax_there g 0xFFF6 t1 n a)
          ∙ ap (λ (xs : List ℕ). Running (record n { machine = hooked (length (take (ax_of t) xs)) (record m { mem = put_bytes (put_word m.mem 0 (sp_of t + 4)) (buffer_of 0 m) (take (ax_of t) xs) }); input = drop (ax_of t) xs })) a.input;
      agrees = ends_well g 0xFFF6 back t done (length bytes) (sp_of t + 4) (listed bytes (word_at t.mem (sp_of t))) (length bytes) [] (drop (ax_of t) t.input) n.output fits agrees (sym (drop_taken (ax_of t) t.input)) (no_output n t a.output);
    }

abbrev read_turn : Moment → Bool → Progress
read_turn n b =
    let m = n.machine in
    if b then Running (record n { machine = read_into 0 (take (ax_in m) n.input) m; input = drop (ax_in m) n.input }) else with_machine n (not_served 0 m)

pub read_served : (g : Ground) (s : RawSetting) (setting : Setting) (bounds : Bounds) (back : Place) (t : State) (n : Moment) (b : Bool) → IsGround g s → IsSetFor s setting → stack_start ≤ bounds.soft → Agrees g 0xFFF6 (called back t) n → g.at back ≤ 65535
    → (word_at t.mem (sp_of t + 2) == 0) ≡ b → IsHookWithin s.place bounds (Some (read_row b t)) t → Served g setting back (read_state b t) n
read_served g s setting bounds back t n b ground set soft a fits is within = by b is within
  where
    turned : (b : Bool) → (word_at t.mem (sp_of t + 2) == 0) ≡ b → Four g t → turn setting n ≡ read_turn n b
    turned b e f =
        turn_there setting n 0xFFF6 a.pc ∙ ap (λ (x : ℕ). reads x n) set.sp
        ∙ ap (λ (d : ℕ). read_turn n (d == 0)) (descriptor_there g 0xFFF6 (called back t) n a (record { sp = f.sp; second = f.second; low = f.low })) ∙ ap (read_turn n) e

    by : (b : Bool) → (word_at t.mem (sp_of t + 2) == 0) ≡ b → IsHookWithin s.place bounds (Some (read_row b t)) t → Served g setting back (read_state b t) n
    by true e w = (let f = four g t (all_open g s bounds (range_of 4 (sp_of t)) ground soft w.1) in into_buffer g setting back t n a f fits (all_open g s bounds (range_of (length (take (ax_of t) t.input)) (word_at t.mem (sp_of t))) ground soft w.2) (turned true e f))
    by false e w = (let f = four g t (all_open g s bounds (range_of 4 (sp_of t)) ground soft w.1) in refuses g setting 0xFFF6 back t n a f fits (turned false e f))

pub sp_low : (s : RawSetting) (bounds : Bounds) (g : Ground) (t : State) → IsGround g s → stack_start ≤ bounds.soft → All (IsReachable s.place bounds) (range_of 4 (sp_of t)) → sp_of t + 4 < 65536
sp_low s bounds g t ground soft h = (let f = four g t (all_open g s bounds (range_of 4 (sp_of t)) ground soft h) in let low = f.low in omega (arith, low))

-- what a state of `read` is: its row is met, and it is of bytes
pub record IsMetBy (row : Row) (t u : State) : Type 0 where
  pub meets : Meets row t u
  pub bytes : IsBytes u
  pub ended : u.ended ≡ None
  pub input : All (λ v. v < 256) u.input

pub read_met : (b : Bool) (t : State) → IsRunning t → sp_of t + 4 < 65536 → IsMetBy (read_row b t) t (read_state b t)
read_met true t r low =
    let bytes : List ℕ = take (ax_of t) t.input in
    let at : ℕ = word_at t.mem (sp_of t) in
    let most = taken_most (ax_of t) t.input in
    let small = ax_low t r.bytes in
    let few : length bytes < 65536 = omega (arith, most, small) in
    record {
      meets = met routines.HookRead t (length bytes) (sp_of t + 4) (listed bytes at) (range_of 4 (sp_of t)) (range_of (length bytes) at) (length bytes) [] refl few r.running;
      bytes = answered_bytes t (length bytes) (sp_of t + 4) (listed bytes at) (length bytes) [] r.bytes few low (listed_bytes bytes at (All-take IsByte (ax_of t) t.input r.input));
      ended = r.running;
      input = All-drop IsByte (length bytes) t.input r.input;
    }
read_met false t r low = record {
  meets = met routines.HookRead t 65535 (sp_of t + 4) [] (range_of 4 (sp_of t)) [] 0 [] refl (omega arith) r.running;
  bytes = answered_bytes t 65535 (sp_of t + 4) [] 0 [] r.bytes (omega arith) low (All-nil IsByteWrite);
  ended = r.running;
  input = r.input;
}
