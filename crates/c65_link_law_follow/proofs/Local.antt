-- One row for a line of registers, of memory or of both.
use Rattle.std.proofs.Common.{◌≡◌, ℕ, ◌+◌, ◌<◌, ◌≤◌, ◌==◌, Bool, true, false, if◌then◌else◌, List, length, ap, sym, refl, subst, ◌∙◌, arith}
use Rattle.std.proofs.lemmas.List.{length-set}
use Rattle.c65_mach.specs.declared.rows.Op.{Op}
use Rattle.c65_mach.specs.declared.rows.Mode.{Mode}
use Rattle.c65_mach.specs.declared.rows.Mode.TheVariants.{Implied, Accumulator, Immediate, ZeroPage, ZeroPageX, ZeroPageY, Absolute, AbsoluteX, AbsoluteY, IndirectX, IndirectY, Indirect, Relative, ZeroPageIndirect, AbsoluteIndirectX}
use Rattle.c65_mach.specs.State.{Regs, read, write as write_byte, State as Machine}
use Rattle.c65_mach.specs.Step.{after, size_of, place_of, Kind, Reads, Stores, Changes, Registers, Moves, kind_of, apply, read_by, stored, changed, signed, with_a, pushes}
use Rattle.c65_mach.specs.Step.{change as change_bytes}
use Rattle.c65_mach.specs.Run.{Setting, Moment}
use Rattle.c65_code.specs.LineState.{State, write}
use Rattle.c65_code.specs.Placement.{stack_start}
use Rattle.c65_code.specs.Segments.{has_row}
use Rattle.c65_code.specs.Moves.{Ref, Given, ZeroAt, MemAt, ref_of, value_at, put, change, effect}
use Rattle.c65_code.specs.RawMachine.{Bounds, IsRawOpen, RawSetting}
use Rattle.c65_link.specs.Bytes.{operand_bytes}
use Rattle.c65_link_law.specs.Coded.{Stands}
use Rattle.c65_link_law_follow.specs.Agree.{Ground, Agrees}
use Rattle.c65_link_law_follow.specs.Laid.{IsGround}
use Rattle.c65_link_law_follow.proofs.Bytes.{Here, Moved, moved_by, HasOperand, Located, located, fetched, read_written, elsewhere, pushed_same, points_same}
use Rattle.c65_link_law_follow.proofs.Fits.{IsStorable, read_is, pushes_none}

-- pc behind a row
pub next_pc : (g : Ground) (at to : ℕ) (m : Machine) (k : ℕ) → m.pc ≡ at → at + k ≤ g.end → g.end ≤ 63472 → to ≡ at + k → after m.pc k ≡ to
next_pc g at to m k e h ends n = omega (arith, e, h, ends, n)

-- registers and pc change
pub on_regs : (g : Ground) (at to pc : ℕ) (t : State) (now : Moment) (r s : Regs) → Agrees g at t now → r ≡ s → pc ≡ to
    → Agrees g to (record t { regs = s }) (record now { machine = record now.machine { pc = pc; regs = r } })
on_regs g at to pc t now r s a e is = record {
  cpu = a.cpu;
  pc = is;
  regs = e;
  d = a.d;
  s = a.s;
  size = a.size;
  zp = a.zp;
  mem = a.mem;
  code = a.code;
  pushed = a.pushed;
  points = a.points;
  input = a.input;
  output = a.output;
}

pub on_pc : (g : Ground) (at to pc : ℕ) (t : State) (now : Moment) → Agrees g at t now → pc ≡ to → Agrees g to t (record now { machine = record now.machine { pc = pc } })
on_pc g at to pc t now a is = record {
  cpu = a.cpu;
  pc = is;
  regs = a.regs;
  d = a.d;
  s = a.s;
  size = a.size;
  zp = a.zp;
  mem = a.mem;
  code = a.code;
  pushed = a.pushed;
  points = a.points;
  input = a.input;
  output = a.output;
}

-- a place that a store may name
abbrev pub IsMemory : Ref → Type 0
IsMemory (Given v) = ⊥
IsMemory _ = Unit {0}

at_zero : (t : State) (m : List ℕ) (a i j v : ℕ) → a ≡ i → read m j ≡ t.zp j → (if j == a then v else read m j) ≡ write t.zp i v j
at_zero t m a i j v e h = ap (λ (n : ℕ). if j == n then v else read m j) e ∙ ap (λ (n : ℕ). if j == i then v else n) h

at_mem : (t : State) (m : List ℕ) (a b j v : ℕ) → a ≡ b → read m j ≡ t.mem j → (if j == a then v else read m j) ≡ write t.mem b v j
at_mem t m a b j v e h = ap (λ (n : ℕ). if j == n then v else read m j) e ∙ ap (λ (n : ℕ). if j == b then v else n) h

-- a byte is stored
pub on_put : (g : Ground) (q : ℕ) (t : State) (now : Moment) (r : Ref) (a v : ℕ) → Agrees g q t now → Located g now.machine r a → IsMemory r
    → Agrees g q (put r v t) (record now { machine = record now.machine { mem = write_byte now.machine.mem a v } })
on_put g q t now (Given w) a v h l is = absurd is
on_put g q t now (ZeroAt i) a v h l is =
    let at = l.0 in let low = l.1 in let size = h.size in
    let m : List ℕ = now.machine.mem in
    let fits : a < length m = omega (arith, at, low, size) in
    record {
      cpu = h.cpu;
      pc = h.pc;
      regs = h.regs;
      d = h.d;
      s = h.s;
      size = length-set m a v ∙ h.size;
      zp = λ j f. read_written m a v j fits ∙ at_zero t m a i j v at (h.zp j f);
      mem = λ b f k. elsewhere m a v b (λ e. omega (arith, e, at, low, f)) ∙ h.mem b f k;
      code = λ b f k. elsewhere m a v b (λ e. omega (arith, e, at, low, f)) ∙ h.code b f k;
      pushed = pushed_same (read m) (read (write_byte m a v)) t.pushed now.machine.s (λ b f k. elsewhere m a v b (λ e. omega (arith, e, at, low, f))) h.pushed;
      points = points_same g (read m) (read (write_byte m a v)) t.frames (now.machine.s + length t.pushed) (λ b f k. elsewhere m a v b (λ e. omega (arith, e, at, low, f))) h.points;
      input = h.input;
      output = h.output;
    }
on_put g q t now (MemAt c) a v h l is =
    let at = l.0 in let low = l.1 in let high = l.2 in let past = l.3 in let size = h.size in
    let m : List ℕ = now.machine.mem in
    let fits : a < length m = omega (arith, at, high, size) in
    record {
      cpu = h.cpu;
      pc = h.pc;
      regs = h.regs;
      d = h.d;
      s = h.s;
      size = length-set m a v ∙ h.size;
      zp = λ j f. elsewhere m a v j (λ e. omega (arith, e, at, low, f)) ∙ h.zp j f;
      mem = λ b f k. read_written m a v b fits ∙ at_mem t m a c b v at (h.mem b f k);
      code = λ b f k. elsewhere m a v b (λ e. omega (arith, e, at, past, k)) ∙ h.code b f k;
      pushed = pushed_same (read m) (read (write_byte m a v)) t.pushed now.machine.s (λ b f k. elsewhere m a v b (λ e. omega (arith, e, at, low, k))) h.pushed;
      points = points_same g (read m) (read (write_byte m a v)) t.frames (now.machine.s + length t.pushed) (λ b f k. elsewhere m a v b (λ e. omega (arith, e, at, low, k))) h.points;
      input = h.input;
      output = h.output;
    }

no_push : (op : Op) (k : Kind) (m : Machine) → kind_of op ≡ k → (k ≡ Moves → ⊥) → pushes op ≤ m.s
no_push op k m is other = let none = pushes_none op (λ e. other (sym is ∙ e)) in omega (arith, none)

-- what a row is done with: where it stands, its operand's bytes, and where its operand is
pub record Given_ (g : Ground) (bounds : Bounds) (at to : ℕ) (op : Op) (mode : Mode) (w : ℕ) (t : State) : Type 0 where
  pub here : Here g at op mode
  pub rest : Stands g.byte (at + 1) (operand_bytes mode w)
  pub small : size_of mode ≡ 2 → w < 256
  pub is_open : IsRawOpen g.place bounds (ref_of mode w t)
  pub next : to ≡ at + size_of mode
  pub rows : has_row op mode ≡ true

pub do_reads : (g : Ground) (s : RawSetting) (setting : Setting) (bounds : Bounds) (at to : ℕ) (op : Op) (mode : Mode) (w : ℕ) (t : State) (now : Moment) → IsGround g s → stack_start ≤ bounds.soft → Agrees g at t now
    → kind_of op ≡ Reads → HasOperand mode → Given_ g bounds at to op mode w t → Moved g setting to (effect Reads op mode w t) now
do_reads g s setting bounds at to op mode w t now ground soft a k has o =
    let m : Machine = now.machine in
    let place : ℕ = (place_of mode m).0 in
    let l : Located g m (ref_of mode w t) place = located g s bounds at t now op mode w ground soft a o.here o.rest o.small o.is_open has in
    let pc : after m.pc (size_of mode) ≡ to = next_pc g at to m (size_of mode) a.pc o.here.to o.here.high o.next in
    let regs : read_by op mode m.d (read m.mem place) m.regs ≡ apply false op (value_at (ref_of mode w t) t) t.regs =
    read_is op mode m.d (read m.mem place) m.regs o.rows
    ∙ ap (λ (d : Bool). apply d op (read m.mem place) m.regs) a.d
    ∙ ap (λ (v : ℕ). apply false op v m.regs) (fetched g at t now (ref_of mode w t) place a l)
    ∙ ap (λ (r : Regs). apply false op (value_at (ref_of mode w t) t) r) a.regs in
    moved_by g setting at to t (effect Reads op mode w t) now op mode Reads (record m { pc = after m.pc (size_of mode); regs = read_by op mode m.d (read m.mem place) m.regs }) a o.here k (no_push op Reads m k (λ e. absurd cc)) refl
    (on_regs g at to (after m.pc (size_of mode)) t now (read_by op mode m.d (read m.mem place) m.regs) (apply false op (value_at (ref_of mode w t) t) t.regs) a regs pc)

pub do_registers : (g : Ground) (setting : Setting) (at to : ℕ) (op : Op) (mode : Mode) (w : ℕ) (t : State) (now : Moment) → Agrees g at t now
    → kind_of op ≡ Registers → Here g at op mode → to ≡ at + size_of mode → Moved g setting to (effect Registers op mode w t) now
do_registers g setting at to op mode w t now a k here next =
    let m : Machine = now.machine in
    let pc : after m.pc (size_of mode) ≡ to = next_pc g at to m (size_of mode) a.pc here.to here.high next in
    let regs : apply m.d op 0 m.regs ≡ apply false op 0 t.regs = ap (λ (d : Bool). apply d op 0 m.regs) a.d ∙ ap (λ (r : Regs). apply false op 0 r) a.regs in
    moved_by g setting at to t (effect Registers op mode w t) now op mode Registers (record m { pc = after m.pc (size_of mode); regs = apply m.d op 0 m.regs }) a here k (no_push op Registers m k (λ e. absurd cc)) refl
    (on_regs g at to (after m.pc (size_of mode)) t now (apply m.d op 0 m.regs) (apply false op 0 t.regs) a regs pc)

is_memory : (mode : Mode) (w : ℕ) (t : State) → IsStorable mode → IsMemory (ref_of mode w t)
is_memory ZeroPage w t h = tt
is_memory ZeroPageX w t h = tt
is_memory ZeroPageY w t h = tt
is_memory Absolute w t h = tt
is_memory AbsoluteX w t h = tt
is_memory AbsoluteY w t h = tt
is_memory IndirectX w t h = tt
is_memory IndirectY w t h = tt
is_memory ZeroPageIndirect w t h = tt
is_memory _ w t h = absurd h

pub has_operand : (mode : Mode) → IsStorable mode → HasOperand mode
has_operand Immediate h = absurd h
has_operand Implied h = absurd h
has_operand Accumulator h = absurd h
has_operand Indirect h = absurd h
has_operand Relative h = absurd h
has_operand AbsoluteIndirectX h = absurd h
has_operand _ h = tt

-- where an operand is does not hang on the registers that a row has set
relocated : (g : Ground) (m n : Machine) (r : Ref) (a : ℕ) → m.mem ≡ n.mem → Located g m r a → Located g n r a
relocated g m n (Given v) a e l = ap (λ (b : List ℕ). read b a) (sym e) ∙ l
relocated g m n (ZeroAt i) a e l = l
relocated g m n (MemAt b) a e l = l

pub do_stores : (g : Ground) (s : RawSetting) (setting : Setting) (bounds : Bounds) (at to : ℕ) (op : Op) (mode : Mode) (w : ℕ) (t : State) (now : Moment) → IsGround g s → stack_start ≤ bounds.soft → Agrees g at t now
    → kind_of op ≡ Stores → IsStorable mode → Given_ g bounds at to op mode w t → Moved g setting to (effect Stores op mode w t) now
do_stores g s setting bounds at to op mode w t now ground soft a k fits o =
    let m : Machine = now.machine in
    let place : ℕ = (place_of mode m).0 in
    let r : Ref = ref_of mode w t in
    let l : Located g m r place = located g s bounds at t now op mode w ground soft a o.here o.rest o.small o.is_open (has_operand mode fits) in
    let pc : after m.pc (size_of mode) ≡ to = next_pc g at to m (size_of mode) a.pc o.here.to o.here.high o.next in
    let m1 : Machine = record m { pc = after m.pc (size_of mode) } in
    let now1 : Moment = record now { machine = m1 } in
    let a1 : Agrees g to t now1 = on_pc g at to (after m.pc (size_of mode)) t now a pc in
    let n : Machine = record m1 { mem = write_byte m.mem place (stored op m.regs) } in
    let put_is : Agrees g to (put r (stored op m.regs) t) (record now { machine = n }) = on_put g to t now1 r place (stored op m.regs) a1 (relocated g m m1 r place refl l) (is_memory mode w t fits) in
    moved_by g setting at to t (effect Stores op mode w t) now op mode Stores n a o.here k (no_push op Stores m k (λ e. absurd cc)) refl
    (subst (λ (v : ℕ). Agrees g to (put r v t) (record now { machine = n })) (ap (stored op) a.regs) put_is)

abbrev of_change : Regs → ℕ × Bool → Regs
of_change r to = record (signed to.0 r) { c = to.1 }

change_is : (op : Op) (mode : Mode) (at : ℕ) (m : Machine) → IsStorable mode
    → change_bytes op mode at m ≡ record m { regs = of_change m.regs (changed op (read m.mem at) m.regs); mem = write_byte m.mem at (changed op (read m.mem at) m.regs).0 }
change_is op ZeroPage at m h = refl
change_is op ZeroPageX at m h = refl
change_is op ZeroPageY at m h = refl
change_is op Absolute at m h = refl
change_is op AbsoluteX at m h = refl
change_is op AbsoluteY at m h = refl
change_is op IndirectX at m h = refl
change_is op IndirectY at m h = refl
change_is op ZeroPageIndirect at m h = refl
change_is op _ at m h = absurd h

line_change_is : (op : Op) (mode : Mode) (w : ℕ) (t : State) → IsStorable mode
    → change op mode w t ≡ put (ref_of mode w t) (changed op (value_at (ref_of mode w t) t) t.regs).0 (record t { regs = of_change t.regs (changed op (value_at (ref_of mode w t) t) t.regs) })
line_change_is op ZeroPage at m h = refl
line_change_is op ZeroPageX at m h = refl
line_change_is op ZeroPageY at m h = refl
line_change_is op Absolute at m h = refl
line_change_is op AbsoluteX at m h = refl
line_change_is op AbsoluteY at m h = refl
line_change_is op IndirectX at m h = refl
line_change_is op IndirectY at m h = refl
line_change_is op ZeroPageIndirect at m h = refl
line_change_is op _ at m h = absurd h

pub do_changes : (g : Ground) (s : RawSetting) (setting : Setting) (bounds : Bounds) (at to : ℕ) (op : Op) (mode : Mode) (w : ℕ) (t : State) (now : Moment) → IsGround g s → stack_start ≤ bounds.soft → Agrees g at t now
    → kind_of op ≡ Changes → IsStorable mode → Given_ g bounds at to op mode w t → Moved g setting to (effect Changes op mode w t) now
do_changes g s setting bounds at to op mode w t now ground soft a k fits o =
    let m : Machine = now.machine in
    let place : ℕ = (place_of mode m).0 in
    let r : Ref = ref_of mode w t in
    let l : Located g m r place = located g s bounds at t now op mode w ground soft a o.here o.rest o.small o.is_open (has_operand mode fits) in
    let pc : after m.pc (size_of mode) ≡ to = next_pc g at to m (size_of mode) a.pc o.here.to o.here.high o.next in
    let to_m : ℕ × Bool = changed op (read m.mem place) m.regs in
    let to_t : ℕ × Bool = changed op (value_at r t) t.regs in
    let e : to_m ≡ to_t = ap (λ (v : ℕ). changed op v m.regs) (fetched g at t now r place a l) ∙ ap (λ (q : Regs). changed op (value_at r t) q) a.regs in
    let regs : of_change m.regs to_m ≡ of_change t.regs to_t = ap (of_change m.regs) e ∙ ap (λ (q : Regs). of_change q to_t) a.regs in
    let m1 : Machine = record m { pc = after m.pc (size_of mode); regs = of_change m.regs to_m } in
    let now1 : Moment = record now { machine = m1 } in
    let t1 : State = record t { regs = of_change t.regs to_t } in
    let a1 : Agrees g to t1 now1 = on_regs g at to (after m.pc (size_of mode)) t now (of_change m.regs to_m) (of_change t.regs to_t) a regs pc in
    let n : Machine = record m1 { mem = write_byte m.mem place to_m.0 } in
    let put_is : Agrees g to (put r to_m.0 t1) (record now { machine = n }) = on_put g to t1 now1 r place to_m.0 a1 (relocated g m m1 r place refl l) (is_memory mode w t fits) in
    let same : Agrees g to (put r to_t.0 t1) (record now { machine = n }) = subst (λ (v : ℕ). Agrees g to (put r v t1) (record now { machine = n })) (ap (λ (x : ℕ × Bool). x.0) e) put_is in
    moved_by g setting at to t (effect Changes op mode w t) now op mode Changes n a o.here k (no_push op Changes m k (λ e. absurd cc)) (change_is op mode place (record m { pc = after m.pc (size_of mode) }) fits)
    (subst (λ (u : State). Agrees g to u (record now { machine = n })) (sym (line_change_is op mode w t fits)) same)

abbrev accumulated : Op → Regs → Regs
accumulated op r = let to = changed op r.a r in record (with_a to.0 r) { c = to.1 }

pub do_accumulator : (g : Ground) (setting : Setting) (at to : ℕ) (op : Op) (w : ℕ) (t : State) (now : Moment) → Agrees g at t now
    → kind_of op ≡ Changes → Here g at op Accumulator → to ≡ at + 1 → Moved g setting to (effect Changes op Accumulator w t) now
do_accumulator g setting at to op w t now a k here next =
    let m : Machine = now.machine in
    let pc : after m.pc 1 ≡ to = next_pc g at to m 1 a.pc here.to here.high next in
    moved_by g setting at to t (effect Changes op Accumulator w t) now op Accumulator Changes (record m { pc = after m.pc 1; regs = accumulated op m.regs }) a here k (no_push op Changes m k (λ e. absurd cc)) refl
    (on_regs g at to (after m.pc 1) t now (accumulated op m.regs) (accumulated op t.regs) a (ap (accumulated op) a.regs) pc)
