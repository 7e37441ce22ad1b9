-- `args` lays the arguments on the software stack.
use Rattle.std.proofs.Common.{◌≡◌, ℕ, ◌+◌, ◌*◌, ◌%◌, ◌/◌, ◌-◌, ◌<◌, ◌≤◌, List, [], ◌∷◌, ◌++◌, length, All, refl, ap, sym, ◌∙◌, subst, arith}
use Rattle.std.proofs.lemmas.List.{length-append}
use Rattle.std.proofs.lemmas.List.Elements.{All-nil, All-cons, All-head, All-tail, All-append}
use Rattle.c65_mach.specs.State.{State as Machine}
use Rattle.c65_mach.specs.Step.{after, word_at as word_in}
use Rattle.c65_mach.specs.Hooks.{ax as ax_in, put_word, put_bytes, hooked, laid_args, below, given_args}
use Rattle.c65_mach.specs.Run.{Setting, Moment, Running, with_machine}
use Rattle.c65_code.specs.declared.routine.Routine.TheVariants as routines
use Rattle.c65_code.specs.declared.routine.Width.TheVariants.{Ax}
use Rattle.c65_code.specs.Texts.{listed}
use Rattle.c65_code.specs.LineState.{Place, State, write, sp_of, ax_of}
use Rattle.c65_code.specs.Placement.{stack_start, stack_end}
use Rattle.c65_code.specs.Forms.{Run}
use Rattle.c65_code.specs.Rows.{Row, written, giving, word_bytes}
use Rattle.c65_code.specs.RawMachine.{RawSetting, quiet, called, arg_writes, args_size}
use Rattle.c65_link_law_follow.specs.Agree.{Ground, Agrees}
use Rattle.c65_link_law_follow.specs.Laid.{IsGround}
use Rattle.c65_link_law_runs.specs.Follows.{IsSetFor, IsRunning, HasArgumentRoom}
use Rattle.c65_link_law_runs.proofs.Answers.{turn_there, range_open, on_bytes, on_word, on_sp, sp_there, hook_row_by, answered, met, settled_from, IsByte, IsByteWrite, listed_bytes, answered_bytes, on_both}
use Rattle.c65_link_law_runs.proofs.Hooks.{Served, ends_well, no_output, ax_there, IsMetBy}

-- The arguments, one below the other

-- where they are laid, with the list of their addresses from `at` on
record HasRoom (g : Ground) (args : List (List ℕ)) (at lowest : ℕ) : Type 0 where
  past : g.end ≤ stack_start
  from : stack_start + args_size args ≤ lowest
  upto : lowest ≤ stack_end
  list_from : stack_start ≤ at
  list_to : at + 2 * (length args + 1) ≤ stack_end

on_args : (args : List (List ℕ)) (g : Ground) (q : ℕ) (t : State) (now : Moment) (a b at lowest : ℕ) → Agrees g q t now → a ≡ at → b ≡ lowest → HasRoom g args at lowest
    → Agrees g q (record t { mem = written t.mem (arg_writes args at lowest) }) (record now { machine = record now.machine { mem = (laid_args args a b now.machine.mem).0 } }) × ((laid_args args a b now.machine.mem).1 ≡ lowest - args_size args)
on_args [] g q t now a b at lowest h e f room =
    let past = room.past in let from = room.list_from in let to = room.list_to in
    (on_word g q t now a at 0 h e (range_open g 2 at (omega (arith, from)) (omega (arith, past, from)) (omega (arith, to))) (omega arith), f ∙ (let z : lowest ≡ lowest - 0 = omega arith in z))
on_args (arg ∷ args) g q t now a b at lowest h e f room =
    let past = room.past in let low = room.from in let high = room.upto in let from = room.list_from in let to = room.list_to in
    let start : ℕ = lowest - (length arg + 1) in
    let size : length (arg ++ 0 ∷ []) ≡ length arg + 1 = length-append arg (0 ∷ []) in
    let start_is : below b (length arg + 1) ≡ start = omega (arith, f, low, high) in
    let n1 : Moment = record now { machine = record now.machine { mem = put_bytes now.machine.mem (below b (length arg + 1)) (arg ++ 0 ∷ []) } } in
    let t1 : State = record t { mem = written t.mem (listed (arg ++ 0 ∷ []) start) } in
    let one : Agrees g q t1 n1 = on_bytes (arg ++ 0 ∷ []) g q t now (below b (length arg + 1)) start h start_is (range_open g (length (arg ++ 0 ∷ [])) start (omega (arith, low)) (omega (arith, past, low)) (omega (arith, size, low, high))) in
    let n2 : Moment = record n1 { machine = record n1.machine { mem = put_word n1.machine.mem a (below b (length arg + 1)) } } in
    let t2 : State = record t1 { mem = written t1.mem (listed (word_bytes start) at) } in
    let two : Agrees g q t2 n2 =
    subst (λ (w : ℕ). Agrees g q t2 (record n1 { machine = record n1.machine { mem = put_word n1.machine.mem a w } })) (sym start_is)
    (on_word g q t1 n1 a at start one e (range_open g 2 at (omega (arith, from)) (omega (arith, past, from)) (omega (arith, to))) (omega (arith, high))) in
    let rest = on_args args g q t2 n2 (after a 2) (below b (length arg + 1)) (at + 2) start two (omega (arith, e, to)) start_is
    (record { past = past; from = omega (arith, low); upto = omega (arith, high); list_from = omega (arith, from); list_to = omega (arith, to) }) in
    let last = rest.1 in
    (on_both g q t _ (listed (arg ++ 0 ∷ []) start) (listed (word_bytes start) at ++ arg_writes args (at + 2) start) (on_both g q t1 _ (listed (word_bytes start) at) (arg_writes args (at + 2) start) rest.0), omega (arith, last, low))

-- The hook

abbrev list_at : List (List ℕ) → State → ℕ
list_at args t = sp_of t - 2 * (length args + 1)

abbrev pub args_state : List (List ℕ) → State → State
args_state args t = answered t (length args) (list_at args t - args_size args) (arg_writes args (list_at args t) (list_at args t) ++ listed (word_bytes (list_at args t)) (ax_of t)) 0 []

abbrev pub args_row : List (List ℕ) → State → Row
args_row args t =
    let list = sp_of t - 2 * (length args + 1) in
    record (giving Ax (length args) (quiet routines.HookArgs t)) { sp = list - args_size args; settled = list - args_size args; writes = arg_writes args list list ++ listed (word_bytes list) (ax_of t) }

pub args_served : (g : Ground) (s : RawSetting) (setting : Setting) (back : Place) (t : State) (n : Moment) → IsGround g s → IsSetFor s setting → HasArgumentRoom s (Run routines.HookArgs) t → Agrees g 0xFFF8 (called back t) n → g.at back ≤ 65535 → Served g setting back (args_state s.args t) n
args_served g s setting back t n ground set room a fits =
    let m : Machine = n.machine in
    let t1 : State = called back t in
    let args : List (List ℕ) = s.args in
    let sp = sp_there g 0xFFF8 t1 n a in
    let low = room.0 in let high = room.1 in let from = room.2 in let to = room.3 in let past = ground.high in
    let list : ℕ = list_at args t in
    let list_is : below (word_in m.mem 0) (2 * (length args + 1)) ≡ list = omega (arith, sp, low, high) in
    let b : ℕ = below (word_in m.mem 0) (2 * (length args + 1)) in
    let laid = on_args args g 0xFFF8 t1 n b b list list a list_is list_is (record { past = past; from = omega (arith, low); upto = omega (arith, high); list_from = omega (arith, low); list_to = omega (arith, low, high) }) in
    let last = laid.1 in
    let n1 : Moment = record n { machine = record m { mem = (laid_args args b b m.mem).0 } } in
    let t2 : State = record t1 { mem = written t.mem (arg_writes args list list) } in
    let to_is : (laid_args args b b m.mem).1 ≡ list - args_size args = last in
    let n2 : Moment = record n1 { machine = record n1.machine { mem = put_word n1.machine.mem 0 (list - args_size args) } } in
    let t3 : State = record t2 { zp = write (write t.zp 0 ((list - args_size args) % 256)) 1 ((list - args_size args) / 256) } in
    let two : Agrees g 0xFFF8 t3 n2 = on_sp g 0xFFF8 t2 n1 (list - args_size args) laid.0 in
    let n3 : Moment = record n2 { machine = record n2.machine { mem = put_word n2.machine.mem (ax_in m) list } } in
    let three : Agrees g 0xFFF8 (record t3 { mem = written t3.mem (listed (word_bytes list) (ax_of t)) }) n3 =
    on_word g 0xFFF8 t3 n2 (ax_in m) (ax_of t) list two (ax_there g 0xFFF8 t1 n a) (range_open g 2 (ax_of t) (omega (arith, from)) (omega (arith, past, from)) to) (omega (arith, low, high)) in
    let four_ : Agrees g 0xFFF8 (record t3 { mem = written t.mem (arg_writes args list list ++ listed (word_bytes list) (ax_of t)) }) n3 =
    on_both g 0xFFF8 (record t3 { mem = t.mem }) n3 (arg_writes args list list) (listed (word_bytes list) (ax_of t)) three in
    record {
      next = record n3 { machine = hooked (length args) n3.machine; input = n.input; output = n.output };
      turn_is = turn_there setting n 0xFFF8 a.pc ∙ ap (λ (x : ℕ). with_machine n (given_args x setting.args m)) set.sp ∙ ap (λ (xs : List (List ℕ)). with_machine n (given_args 0 xs m)) set.args
          ∙ ap (λ (w : ℕ). Running (record n { machine = hooked (length args) (record m { mem = put_word (put_word (laid_args args b b m.mem).0 0 w) (ax_in m) b }) })) to_is
          ∙ ap (λ (w : ℕ). Running (record n { machine = hooked (length args) (record m { mem = put_word n2.machine.mem (ax_in m) w }) })) list_is;
      agrees = ends_well g 0xFFF8 back t n3 (length args) (list - args_size args) (arg_writes args list list ++ listed (word_bytes list) (ax_of t)) 0 [] n.input n.output fits four_ a.input (no_output n t a.output);
    }

word_listed : (w at : ℕ) → All IsByteWrite (listed (word_bytes w) at)
word_listed w at = listed_bytes (word_bytes w) at (All-cons IsByte (w % 256) (w / 256 % 256 ∷ []) (omega arith) (All-cons IsByte (w / 256 % 256) [] (omega arith) (All-nil IsByte)))

args_written : (args : List (List ℕ)) (at lowest : ℕ) → All (λ (arg : List ℕ). All (λ v. v < 256) arg) args → All IsByteWrite (arg_writes args at lowest)
args_written [] at lowest h = word_listed 0 at
args_written (arg ∷ args) at lowest h =
    let start : ℕ = lowest - (length arg + 1) in
    All-append IsByteWrite (listed (arg ++ 0 ∷ []) start) (listed (word_bytes start) at ++ arg_writes args (at + 2) start)
    (listed_bytes (arg ++ 0 ∷ []) start (All-append IsByte arg (0 ∷ []) (All-head (λ (x : List ℕ). All IsByte x) arg args h) (All-cons IsByte 0 [] (omega arith) (All-nil IsByte))))
    (All-append IsByteWrite (listed (word_bytes start) at) (arg_writes args (at + 2) start) (word_listed start at) (args_written args (at + 2) start (All-tail (λ (x : List ℕ). All IsByte x) arg args h)))

pub args_met : (s : RawSetting) (setting : Setting) (t : State) → IsSetFor s setting → HasArgumentRoom s (Run routines.HookArgs) t → IsRunning t → IsMetBy (args_row s.args t) t (args_state s.args t)
args_met s setting t set room r =
    let args : List (List ℕ) = s.args in
    let list : ℕ = list_at args t in
    let low = room.0 in let high = room.1 in
    let ws : List (ℕ × ℕ) = arg_writes args list list ++ listed (word_bytes list) (ax_of t) in
    record {
      meets = settled_from (hook_row_by routines.HookArgs t (length args) (list - args_size args) ws [] [] 0 []) t (args_state s.args t) (list - args_size args) (λ b. refl)
          (met routines.HookArgs t (length args) (list - args_size args) ws [] [] 0 [] refl (omega (arith, low, high)) r.running);
      bytes = answered_bytes t (length args) (list - args_size args) ws 0 [] r.bytes (omega (arith, low, high)) (omega (arith, high))
          (All-append IsByteWrite (arg_writes args list list) (listed (word_bytes list) (ax_of t)) (args_written args list list set.bytes) (word_listed list (ax_of t)));
      ended = r.running;
      input = r.input;
    }
