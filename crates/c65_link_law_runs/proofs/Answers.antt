-- What the simulator does at a hook, where its state agrees with that of the lines.
use Rattle.std.proofs.Common.{◌≡◌, ℕ, zero, suc, ◌+◌, ◌%◌, ◌/◌, ◌<◌, ◌≤◌, ◌==◌, ◌⊎◌, inl, inr, Bool, true, false, nat_lt, if◌then◌else◌, IsTrue, List, [], ◌∷◌, ◌++◌, length, take, drop, All, None, refl, ap, sym, ◌∙◌, subst, arith}
use Rattle.std.proofs.lemmas.Bool.{ne_eqb}
use Rattle.std.proofs.lemmas.List.Elements.{All-nil, All-cons, All-head, All-tail}
use Rattle.c65_mach.specs.State.{Regs, read, write as write_byte, State as Machine}
use Rattle.c65_mach.specs.Step.{after, word_at as word_in, row_at}
use Rattle.c65_mach.specs.Hooks.{put_word, put_bytes, bytes_from, hooked, opened, closed, given_args}
use Rattle.c65_mach.specs.Run.{Setting, Moment, Progress, Ended, turn, with_machine, reads, writes, row_done, is_hook}
use Rattle.c65_mach.specs.Step.{step}
use Rattle.c65_sim.specs.Budgets.{is_too_deep, row_pushes}
use Rattle.c65_code.specs.declared.parts.Part.{Part}
use Rattle.c65_code.specs.declared.parts.Part.TheVariants.{A, X, Y, Zp, N, V, Z, C}
use Rattle.c65_code.specs.declared.parts.RegSet.{RegSet}
use Rattle.c65_code.specs.declared.routine.Routine.{Routine}
use Rattle.c65_code.specs.declared.routine.Width.TheVariants.{Ax}
use Rattle.c65_code.specs.Parts.{no_parts, has_part, union_of}
use Rattle.c65_code.specs.Effects.{ax as ax_parts, sp_bytes}
use Rattle.c65_code.specs.Texts.{bytes_at, range_of, listed}
use Rattle.c65_code.specs.LineState.{Place, State, Frame, Bytes, write, word_at, sp_of, Same, IsBytes}
use Rattle.c65_code.specs.Placement.{stack_start, stack_end}
use Rattle.c65_code.specs.Rows.{Row, Meets, written, giving}
use Rattle.c65_code.specs.Moves.{ZeroAt, MemAt, put}
use Rattle.c65_code.specs.RawMachine.{RawSetting, Bounds, IsReachable, quiet}
use Rattle.c65_link_law_follow.specs.Agree.{Ground, Agrees}
use Rattle.c65_link_law_follow.specs.Laid.{IsGround}
use Rattle.c65_link_law_follow.proofs.Local.{on_regs, on_put}
use Rattle.c65_link_law_follow.proofs.Stack.{on_return}
use Rattle.c65_link_law_runs.proofs.Kept.{one_written}

-- Turns at an address that is known

abbrev pub turn_at : Setting → Moment → ℕ → Progress
turn_at setting now pc =
    let m = now.machine in
    if pc == 0xFFF4 then with_machine now (opened setting.sp m) else
    if pc == 0xFFF5 then with_machine now (closed m) else
    if pc == 0xFFF6 then reads setting.sp now else
    if pc == 0xFFF7 then writes setting.sp now else
    if pc == 0xFFF8 then with_machine now (given_args setting.sp setting.args m) else
    if pc == 0xFFF9 then Ended now m.regs.a else
    row_done now (step m)

pub turn_there : (setting : Setting) (now : Moment) (pc : ℕ) → now.machine.pc ≡ pc → turn setting now ≡ turn_at setting now pc
turn_there setting now pc is = ap (turn_at setting now) is

-- the guard refuses no hook
pub hooks_are_free : (m : Machine) (pc : ℕ) → m.pc ≡ pc → is_hook pc ≡ true → is_too_deep m ≡ false
hooks_are_free m pc is hook = ap (λ (b : Bool). if b then false else nat_lt m.s (row_pushes (row_at m))) (ap is_hook is ∙ hook)

-- Addresses

-- an address that a line may name, as the processor has it
pub record IsOpenAt (g : Ground) (b : ℕ) : Type 0 where
  pub from : 512 ≤ b
  pub to : b < stack_end
  pub past : g.end ≤ b

pub open_at : (g : Ground) (s : RawSetting) (bounds : Bounds) (b : ℕ) → IsGround g s → stack_start ≤ bounds.soft → IsReachable s.place bounds b → IsOpenAt g b
open_at g s bounds b ground soft h = by (subst (λ place. IsReachable place bounds b) ground.place h)
  where
    by : IsTrue (g.place.is_data b) ⊎ ((bounds.soft ≤ b) × (b < stack_end)) → IsOpenAt g b
    by (inl d) = (let from = ground.data_from b d in let to = ground.data_to b d in let low = ground.low in record { from = omega (arith, from, low); to = omega (arith, to); past = from })
    by (inr k) = (let from = k.0 in let to = k.1 in let high = ground.high in record { from = omega (arith, from, soft); to = to; past = omega (arith, from, soft, high) })

pub all_open : (g : Ground) (s : RawSetting) (bounds : Bounds) (bs : List ℕ) → IsGround g s → stack_start ≤ bounds.soft → All (IsReachable s.place bounds) bs → All (IsOpenAt g) bs
all_open g s bounds [] ground soft h = All-nil (IsOpenAt g)
all_open g s bounds (b ∷ bs) ground soft h =
    All-cons (IsOpenAt g) b bs (open_at g s bounds b ground soft (All-head (IsReachable s.place bounds) b bs h)) (all_open g s bounds bs ground soft (All-tail (IsReachable s.place bounds) b bs h))

-- from one address up to another
pub range_open : (g : Ground) (n b : ℕ) → 512 ≤ b → g.end ≤ b → b + n ≤ stack_end → All (IsOpenAt g) (range_of n b)
range_open g zero b from past to = All-nil (IsOpenAt g)
range_open g (suc n) b from past to = All-cons (IsOpenAt g) b (range_of n (b + 1)) (record { from = from; to = omega (arith, to); past = past }) (range_open g n (b + 1) (omega (arith, from)) (omega (arith, past)) (omega (arith, to)))

-- Memory

-- bytes from an address on
pub on_bytes : (bytes : List ℕ) (g : Ground) (q : ℕ) (t : State) (now : Moment) (a b : ℕ) → Agrees g q t now → a ≡ b → All (IsOpenAt g) (range_of (length bytes) b)
    → Agrees g q (record t { mem = written t.mem (listed bytes b) }) (record now { machine = record now.machine { mem = put_bytes now.machine.mem a bytes } })
on_bytes [] g q t now a b h e all = h
on_bytes (v ∷ vs) g q t now a b h e all =
    let o : IsOpenAt g b = All-head (IsOpenAt g) b (range_of (length vs) (b + 1)) all in
    let from = o.from in let to = o.to in
    let one : Agrees g q (put (MemAt b) v t) (record now { machine = record now.machine { mem = write_byte now.machine.mem a v } }) = on_put g q t now (MemAt b) a v h (e, from, omega (arith, to), o.past) tt in
    on_bytes vs g q (put (MemAt b) v t) (record now { machine = record now.machine { mem = write_byte now.machine.mem a v } }) (after a 1) (b + 1) one (omega (arith, e, to)) (All-tail (IsOpenAt g) b (range_of (length vs) (b + 1)) all)

-- a word in memory
pub on_word : (g : Ground) (q : ℕ) (t : State) (now : Moment) (a b w : ℕ) → Agrees g q t now → a ≡ b → All (IsOpenAt g) (range_of 2 b) → w < 65536
    → Agrees g q (record t { mem = written t.mem (listed (w % 256 ∷ w / 256 % 256 ∷ []) b) }) (record now { machine = record now.machine { mem = put_word now.machine.mem a w } })
on_word g q t now a b w h e all low =
    let high : w / 256 % 256 ≡ w / 256 = omega (arith, low) in
    subst (λ (v : ℕ). Agrees g q (record t { mem = written t.mem (listed (w % 256 ∷ v ∷ []) b) }) (record now { machine = record now.machine { mem = put_word now.machine.mem a w } })) (sym high)
    (on_bytes (w % 256 ∷ w / 256 ∷ []) g q t now a b h e all)

-- the sp
pub on_sp : (g : Ground) (q : ℕ) (t : State) (now : Moment) (w : ℕ) → Agrees g q t now
    → Agrees g q (record t { zp = write (write t.zp 0 (w % 256)) 1 (w / 256) }) (record now { machine = record now.machine { mem = put_word now.machine.mem 0 w } })
on_sp g q t now w h =
    let one : Agrees g q (put (ZeroAt 0) (w % 256) t) (record now { machine = record now.machine { mem = write_byte now.machine.mem 0 (w % 256) } }) = on_put g q t now (ZeroAt 0) 0 (w % 256) h (refl, omega arith) tt in
    on_put g q (put (ZeroAt 0) (w % 256) t) (record now { machine = record now.machine { mem = write_byte now.machine.mem 0 (w % 256) } }) (ZeroAt 1) 1 (w / 256) one (refl, omega arith) tt

-- input and output
pub on_streams : (g : Ground) (q : ℕ) (t : State) (now : Moment) (i o i2 o2 : List ℕ) → Agrees g q t now → i ≡ i2 → o ≡ o2 → Agrees g q (record t { input = i2; output = o2 }) (record now { input = i; output = o })
on_streams g q t now i o i2 o2 h e f = record {
  cpu = h.cpu;
  pc = h.pc;
  regs = h.regs;
  d = h.d;
  s = h.s;
  size = h.size;
  zp = h.zp;
  mem = h.mem;
  code = h.code;
  pushed = h.pushed;
  points = h.points;
  input = e;
  output = f;
}

-- What is read

pub sp_there : (g : Ground) (q : ℕ) (t : State) (now : Moment) → Agrees g q t now → word_in now.machine.mem 0 ≡ sp_of t
sp_there g q t now h = (let low = h.zp 0 (omega arith) in let high = h.zp 1 (omega arith) in omega (arith, low, high))

pub word_there : (g : Ground) (q : ℕ) (t : State) (now : Moment) (a b : ℕ) → Agrees g q t now → a ≡ b → IsOpenAt g b → b + 1 < 65536 → word_in now.machine.mem a ≡ word_at t.mem b
word_there g q t now a b h e o small =
    let from = o.from in
    let low : read now.machine.mem a ≡ t.mem b = ap (read now.machine.mem) e ∙ h.mem b from (omega (arith, small)) in
    let next : after a 1 ≡ b + 1 = omega (arith, e, small) in
    let high : read now.machine.mem (after a 1) ≡ t.mem (b + 1) = ap (read now.machine.mem) next ∙ h.mem (b + 1) (omega (arith, from)) small in
    omega (arith, low, high)

pub bytes_there : (n : ℕ) (g : Ground) (q : ℕ) (t : State) (now : Moment) (a b : ℕ) → Agrees g q t now → a ≡ b → All (IsOpenAt g) (range_of n b) → bytes_from now.machine.mem a n ≡ bytes_at n b t.mem
bytes_there zero g q t now a b h e all = refl
bytes_there (suc n) g q t now a b h e all =
    let o : IsOpenAt g b = All-head (IsOpenAt g) b (range_of n (b + 1)) all in
    let from = o.from in let to = o.to in
    let first : read now.machine.mem a ≡ t.mem b = ap (read now.machine.mem) e ∙ h.mem b from (omega (arith, to)) in
    let rest : bytes_from now.machine.mem (after a 1) n ≡ bytes_at n (b + 1) t.mem = bytes_there n g q t now (after a 1) (b + 1) h (omega (arith, e, to)) (All-tail (IsOpenAt g) b (range_of n (b + 1)) all) in
    ap (λ (v : ℕ). v ∷ bytes_from now.machine.mem (after a 1) n) first ∙ ap (λ (vs : List ℕ). t.mem b ∷ vs) rest

-- The answer and the return

pub on_answer : (g : Ground) (q : ℕ) (back : Place) (pushed : List ℕ) (frames : List Frame) (t : State) (now : Moment) (answer : ℕ) → Agrees g q t now → g.at back ≤ 65535 → t.pushed ≡ [] → t.frames ≡ record { back = back; pushed = pushed; gives = no_parts } ∷ frames
    → Agrees g (g.at back) (record t { regs = record t.regs { a = answer % 256; x = answer / 256 }; pushed = pushed; frames = frames }) (record now { machine = hooked answer now.machine })
on_answer g q back pushed frames t now answer h fits none is =
    let m : Machine = now.machine in
    let r : Regs = record m.regs { a = answer % 256; x = answer / 256 } in
    let u : Regs = record t.regs { a = answer % 256; x = answer / 256 } in
    let a : Agrees g q (record t { regs = u }) (record now { machine = record m { pc = m.pc; regs = r } }) = on_regs g q q m.pc t now r u h (ap (λ (x : Regs). record x { a = answer % 256; x = answer / 256 }) h.regs) h.pc in
    on_return g q (record { back = back; pushed = pushed; gives = no_parts }) frames (record t { regs = u }) (record now { machine = record m { pc = m.pc; regs = r } }) a fits none is

-- The row of a hook that moves the sp

abbrev pub hook_row_by : Routine → State → ℕ → ℕ → List (ℕ × ℕ) → List ℕ → List ℕ → ℕ → List ℕ → Row
hook_row_by hook t answer to ws near far taken out = record (giving Ax answer (quiet hook t)) { sp = to; writes = ws; near = near; far = far; taken = taken; out = out }

abbrev pub answered : State → ℕ → ℕ → List (ℕ × ℕ) → ℕ → List ℕ → State
answered t answer to ws taken out = record t {
  regs = record t.regs { a = answer % 256; x = answer / 256 };
  zp = write (write t.zp 0 (to % 256)) 1 (to / 256);
  mem = written t.mem ws;
  input = drop taken t.input;
  output = t.output ++ out;
}

-- a byte of the zero page behind the sp
other_zero : (t : State) (v w i : ℕ) → 2 ≤ i → t.zp i ≡ write (write t.zp 0 v) 1 w i
other_zero t v w i h =
    sym (ap (λ (b : Bool). if b then w else (if i == 0 then v else t.zp i)) (ne_eqb i 1 (λ e. omega (arith, e, h))) ∙ ap (λ (b : Bool). if b then v else t.zp i) (ne_eqb i 0 (λ e. omega (arith, e, h))))

kept_parts : (p : Part) (t : State) (answer to : ℕ) (ws : List (ℕ × ℕ)) (taken : ℕ) (out : List ℕ) → has_part (union_of ax_parts sp_bytes) p ≡ false → Same p t (answered t answer to ws taken out)
kept_parts A t answer to ws taken out h = absurd (let z : true ≡ false = h in cc)
kept_parts X t answer to ws taken out h = absurd (let z : true ≡ false = h in cc)
kept_parts Y t answer to ws taken out h = refl
kept_parts N t answer to ws taken out h = refl
kept_parts V t answer to ws taken out h = refl
kept_parts Z t answer to ws taken out h = refl
kept_parts C t answer to ws taken out h = refl
kept_parts (Zp zero) t answer to ws taken out h = absurd (let z : true ≡ false = h in cc)
kept_parts (Zp (suc zero)) t answer to ws taken out h = absurd (let z : true ≡ false = h in cc)
kept_parts (Zp (suc (suc i))) t answer to ws taken out h = other_zero t (to % 256) (to / 256) (suc (suc i)) (omega arith)

pub met : (hook : Routine) (t : State) (answer to : ℕ) (ws : List (ℕ × ℕ)) (near far : List ℕ) (taken : ℕ) (out : List ℕ) → (hook_row_by hook t answer to ws near far taken out).changes ≡ union_of ax_parts sp_bytes → answer < 65536 → t.ended ≡ None
    → Meets (hook_row_by hook t answer to ws near far taken out) t (answered t answer to ws taken out)
met hook t answer to ws near far taken out changes small running = record {
  sp = omega arith;
  a = refl;
  x = omega (arith, small);
  sreg = tt;
  pointers = tt;
  bank = tt;
  kept = λ p h. kept_parts p t answer to ws taken out (sym (ap (λ (c : RegSet). has_part c p) changes) ∙ h);
  high = λ i h. other_zero t (to % 256) (to / 256) i (omega (arith, h));
  mem = λ b h. refl;
  pushed = refl;
  frames = refl;
  input = refl;
  output = refl;
  ended = running;
}

-- a row that says each byte of memory says so from wherever on
pub settled_from : (row : Row) (t u : State) (from : ℕ) → ((b : ℕ) → u.mem b ≡ written t.mem row.writes b) → Meets row t u → Meets (record row { settled = from }) t u
settled_from row t u from all m = record {
  sp = m.sp;
  a = m.a;
  x = m.x;
  sreg = m.sreg;
  pointers = m.pointers;
  bank = m.bank;
  kept = m.kept;
  high = m.high;
  mem = λ b h. all b;
  pushed = m.pushed;
  frames = m.frames;
  input = m.input;
  output = m.output;
  ended = m.ended;
}

-- Bytes

abbrev pub IsByte : ℕ → Type 0
IsByte v = v < 256

abbrev pub IsByteWrite : ℕ × ℕ → Type 0
IsByteWrite w = w.1 < 256

pub listed_bytes : (bytes : List ℕ) (b : ℕ) → All (λ v. v < 256) bytes → All IsByteWrite (listed bytes b)
listed_bytes [] b h = All-nil IsByteWrite
listed_bytes (v ∷ vs) b h = All-cons IsByteWrite (b, v) (listed vs (b + 1)) (All-head IsByte v vs h) (listed_bytes vs (b + 1) (All-tail IsByte v vs h))

all_written : (ws : List (ℕ × ℕ)) (m : Bytes) → ((b : ℕ) → m b < 256) → All IsByteWrite ws → (b : ℕ) → written m ws b < 256
all_written [] m bytes h b = bytes b
all_written (w ∷ ws) m bytes h b = all_written ws (write m w.0 w.1) (one_written m w.0 w.1 bytes (All-head IsByteWrite w ws h)) (All-tail IsByteWrite w ws h) b

pub answered_bytes : (t : State) (answer to : ℕ) (ws : List (ℕ × ℕ)) (taken : ℕ) (out : List ℕ) → IsBytes t → answer < 65536 → to < 65536 → All IsByteWrite ws → IsBytes (answered t answer to ws taken out)
answered_bytes t answer to ws taken out b small low h = record {
  a = omega arith;
  x = omega (arith, small);
  y = b.y;
  zp = one_written (write t.zp 0 (to % 256)) 1 (to / 256) (one_written t.zp 0 (to % 256) b.zp (omega arith)) (omega (arith, low));
  mem = all_written ws t.mem b.mem h;
  pushed = b.pushed;
  frames = b.frames;
}

-- how many bytes are taken
pub taken_most : (n : ℕ) (xs : List ℕ) → length (take n xs) ≤ n
taken_most zero xs = omega arith
taken_most (suc n) [] = omega arith
taken_most (suc n) (x ∷ xs) = (let le = taken_most n xs in omega (arith, le))

pub drop_taken : (n : ℕ) (xs : List ℕ) → drop (length (take n xs)) xs ≡ drop n xs
drop_taken zero xs = refl
drop_taken (suc n) [] = refl
drop_taken (suc n) (x ∷ xs) = drop_taken n xs

pub written_both : (xs ys : List (ℕ × ℕ)) (m : Bytes) → written m (xs ++ ys) ≡ written (written m xs) ys
written_both [] ys m = refl
written_both (x ∷ xs) ys m = written_both xs ys (write m x.0 x.1)

-- writes one behind another
pub on_both : (g : Ground) (q : ℕ) (t : State) (now : Moment) (xs ys : List (ℕ × ℕ)) → Agrees g q (record t { mem = written (written t.mem xs) ys }) now → Agrees g q (record t { mem = written t.mem (xs ++ ys) }) now
on_both g q t now xs ys h = subst (λ (m : Bytes). Agrees g q (record t { mem = m }) now) (sym (written_both xs ys t.mem)) h
