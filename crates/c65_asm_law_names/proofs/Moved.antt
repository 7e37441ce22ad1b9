-- A state of the machine on lines whose functions have other numbers: only the places that frames go back to differ.
use Rattle.std.proofs.Common.{◌≡◌, ℕ, ◌+◌, ◌<◌, Bool, false, ◌||◌, List, [], ◌∷◌, Some, map, length, refl, ap, ◌∙◌}
use Rattle.std.specs.Prelude.{All, fold, nat_lt, ◌-◌}
use Rattle.std.proofs.lemmas.List.Elements.{All-nil, All-cons, All-head, All-tail}
use Rattle.c65_base.specs.declared.library.Library.{Library}
use Rattle.c65_base.specs.declared.library.Library.TheVariants as library
use Rattle.c65_mach.specs.declared.rows.Op.{Op}
use Rattle.c65_mach.specs.declared.rows.Mode.{Mode}
use Rattle.c65_mach.specs.declared.rows.Mode.TheVariants.{Implied, Accumulator, Immediate, ZeroPage, ZeroPageX, ZeroPageY, Absolute, AbsoluteX, AbsoluteY, IndirectX, IndirectY, Indirect, Relative, ZeroPageIndirect, AbsoluteIndirectX}
use Rattle.c65_mach.specs.Step.{Kind, Reads, Stores, Changes, Branches, Registers, Moves, stored, changed, signed, apply}
use Rattle.c65_code.specs.declared.routine.Routine.{Routine}
use Rattle.c65_code.specs.declared.routine.Routine.TheVariants as routines
use Rattle.c65_code.specs.declared.routine.Width.TheVariants.{Ax, Eax}
use Rattle.c65_code.specs.declared.parts.RegSet.{RegSet}
use Rattle.c65_code.specs.declared.parts.Part.{Part}
use Rattle.c65_code.specs.declared.parts.Part.TheVariants.{A, X, Y, Zp, N, V, Z, C}
use Rattle.c65_code.specs.LineState.{Place, Frame, State, sp_of, zero_word, hard_bytes, s_of, Same, IsBytes}
use Rattle.c65_code.specs.Rows.{Row, Meets, row_of, row_by, costing, check_row, read_row, is_too_deep}
use Rattle.c65_code.specs.Moves.{Ref, Given, ZeroAt, MemAt, ref_of, value_at, put, change, effect, Keeps}

module _ (number : ℕ → ℕ) where
  abbrev pub moved_place : Place → Place
  moved_place p = (number p.0, p.1)

  abbrev pub moved_frame : Frame → Frame
  moved_frame f = record f { back = moved_place f.back }

  abbrev pub moved : State → State
  moved t = record t { frames = map moved_frame t.frames }

  -- ---- what does not see the places

  counted : (fs : List Frame) (n : ℕ) → fold (λ (a : ℕ) (f : Frame). a + (2 + length f.pushed)) n (map moved_frame fs) ≡ fold (λ (a : ℕ) (f : Frame). a + (2 + length f.pushed)) n fs
  counted [] n = refl
  counted (f ∷ fs) n = counted fs (n + (2 + length f.pushed))

  pub hard_same : (t : State) → hard_bytes (moved t) ≡ hard_bytes t
  hard_same t = ap (λ (n : ℕ). length t.pushed + n) (counted t.frames 0)

  pub s_same : (t : State) → s_of (moved t) ≡ s_of t
  s_same t = ap (λ (n : ℕ). 253 - n) (hard_same t)

  put_same : (r : Ref) (v : ℕ) (t : State) → put r v (moved t) ≡ moved (put r v t)
  put_same (Given w) v t = refl
  put_same (ZeroAt i) v t = refl
  put_same (MemAt b) v t = refl

  value_same : (r : Ref) (t : State) → value_at r (moved t) ≡ value_at r t
  value_same (Given w) t = refl
  value_same (ZeroAt i) t = refl
  value_same (MemAt b) t = refl

  -- what a mode refers to is seen in registers and the zero page alone
  pub ref_same : (mode : Mode) (w : ℕ) (t : State) → ref_of mode w (moved t) ≡ ref_of mode w t
  ref_same Implied w t = refl
  ref_same Accumulator w t = refl
  ref_same Immediate w t = refl
  ref_same ZeroPage w t = refl
  ref_same ZeroPageX w t = refl
  ref_same ZeroPageY w t = refl
  ref_same Absolute w t = refl
  ref_same AbsoluteX w t = refl
  ref_same AbsoluteY w t = refl
  ref_same IndirectX w t = refl
  ref_same IndirectY w t = refl
  ref_same Indirect w t = refl
  ref_same Relative w t = refl
  ref_same ZeroPageIndirect w t = refl
  ref_same AbsoluteIndirectX w t = refl

  change_there : (op : Op) (mode : Mode) (w : ℕ) (t : State) → ref_of mode w (moved t) ≡ ref_of mode w t
      → (let to = changed op (value_at (ref_of mode w (moved t)) (moved t)) t.regs in put (ref_of mode w (moved t)) to.0 (record (moved t) { regs = record (signed to.0 t.regs) { c = to.1 } }))
      ≡ moved (let to = changed op (value_at (ref_of mode w t) t) t.regs in put (ref_of mode w t) to.0 (record t { regs = record (signed to.0 t.regs) { c = to.1 } }))
  change_there op mode w t e =
      let at = value_same (ref_of mode w t) t in
      ap (λ (r : Ref). let to = changed op (value_at r (moved t)) t.regs in put r to.0 (record (moved t) { regs = record (signed to.0 t.regs) { c = to.1 } })) e
      ∙ ap (λ (v : ℕ). let to = changed op v t.regs in put (ref_of mode w t) to.0 (record (moved t) { regs = record (signed to.0 t.regs) { c = to.1 } })) at
      ∙ put_same (ref_of mode w t) _ _

  change_same : (op : Op) (mode : Mode) (w : ℕ) (t : State) → change op mode w (moved t) ≡ moved (change op mode w t)
  change_same op Accumulator w t = refl
  change_same op Implied w t = change_there op Implied w t refl
  change_same op Immediate w t = change_there op Immediate w t refl
  change_same op ZeroPage w t = change_there op ZeroPage w t refl
  change_same op ZeroPageX w t = change_there op ZeroPageX w t refl
  change_same op ZeroPageY w t = change_there op ZeroPageY w t refl
  change_same op Absolute w t = change_there op Absolute w t refl
  change_same op AbsoluteX w t = change_there op AbsoluteX w t refl
  change_same op AbsoluteY w t = change_there op AbsoluteY w t refl
  change_same op IndirectX w t = change_there op IndirectX w t refl
  change_same op IndirectY w t = change_there op IndirectY w t refl
  change_same op Indirect w t = change_there op Indirect w t refl
  change_same op Relative w t = change_there op Relative w t refl
  change_same op ZeroPageIndirect w t = change_there op ZeroPageIndirect w t refl
  change_same op AbsoluteIndirectX w t = change_there op AbsoluteIndirectX w t refl

  pub effect_same : (kind : Kind) (op : Op) (mode : Mode) (w : ℕ) (t : State) → effect kind op mode w (moved t) ≡ moved (effect kind op mode w t)
  effect_same Reads op mode w t =
      let at : value_at (ref_of mode w (moved t)) (moved t) ≡ value_at (ref_of mode w t) t = ap (λ (r : Ref). value_at r (moved t)) (ref_same mode w t) ∙ value_same (ref_of mode w t) t in
      ap (λ (v : ℕ). record (moved t) { regs = apply false op v t.regs }) at
  effect_same Stores op mode w t = ap (λ (r : Ref). put r (stored op t.regs) (moved t)) (ref_same mode w t) ∙ put_same (ref_of mode w t) (stored op t.regs) t
  effect_same Changes op mode w t = change_same op mode w t
  effect_same Registers op mode w t = refl
  effect_same Branches op mode w t = refl
  effect_same Moves op mode w t = refl

  -- ---- rows of routines

  read_same : (given : List ℕ) (t : State) (row : Row) → read_row given (moved t) row ≡ read_row given t row
  read_same [] t row = refl
  read_same (v ∷ given) t row = refl

  library_same : (f : Library) (t : State) → row_of (routines.Library f) (moved t) ≡ row_of (routines.Library f) t
  library_same library.Putchar t = refl
  library_same library.Getchar t = ap Some (read_same t.input t _)
  library_same library.Puts t = refl
  library_same library.Exit t = refl
  library_same library.Memcpy t = refl
  library_same library.Memset t = refl
  library_same library.Strcmp t = refl
  library_same library.Strcpy t = refl
  library_same library.Strlen t = refl
  library_same library.Printf t = refl

  checked_same : (t : State) → is_too_deep (moved t) ≡ is_too_deep t
  checked_same t = ap (λ (n : ℕ). nat_lt (sp_of t) (63536 + zero_word t 18) || nat_lt n 31) (s_same t)

  pub row_same : (r : Routine) (t : State) → row_of r (moved t) ≡ row_of r t
  row_same routines.PushA t = refl
  row_same routines.PushAx t = refl
  row_same routines.PushA0 t = refl
  row_same routines.Push0 t = refl
  row_same routines.PushEax t = refl
  row_same routines.PopA t = refl
  row_same routines.PopAx t = refl
  row_same routines.PopEax t = refl
  row_same routines.PopPtrs t = refl
  row_same routines.AddYSp t = refl
  row_same routines.SubYSp t = refl
  row_same routines.LdAxYSp t = refl
  row_same routines.LdAx0Sp t = refl
  row_same routines.LdEaxYSp t = refl
  row_same routines.StAxYSp t = refl
  row_same routines.StAx0Sp t = refl
  row_same routines.StEaxYSp t = refl
  row_same routines.LdAi t = refl
  row_same routines.LdAxi t = refl
  row_same routines.LdEaxi t = refl
  row_same routines.StATos t = refl
  row_same routines.StAxTos t = refl
  row_same routines.StEaxTos t = refl
  row_same routines.CopyTos t = refl
  row_same routines.SignA t = refl
  row_same routines.LongAx t = refl
  row_same routines.ULongAx t = refl
  row_same routines.SaveRegs t = refl
  row_same routines.RestRegs t = refl
  row_same routines.CallPtr4 t = refl
  row_same routines.Start t = refl
  row_same routines.StartArgs t = refl
  row_same routines.HookOpen t = refl
  row_same routines.HookClose t = refl
  row_same routines.HookRead t = refl
  row_same routines.HookWrite t = refl
  row_same routines.HookArgs t = refl
  row_same routines.HookExit t = refl
  row_same (routines.IncSp count) t = refl
  row_same (routines.DecSp count) t = refl
  row_same (routines.Tos op Ax) t = refl
  row_same (routines.Tos op Eax) t = refl
  row_same (routines.Unary op Ax) t = refl
  row_same (routines.Unary op Eax) t = refl
  row_same (routines.Library f) t = library_same f t
  row_same routines.StkChk t = ap (λ (b : Bool). Some (check_row b (costing 256 (row_by routines.StkChk t)))) (checked_same t)

  -- ---- parts and bytes

  same_to : (p : Part) (t u : State) → Same p t u → Same p (moved t) (moved u)
  same_to A t u e = e
  same_to X t u e = e
  same_to Y t u e = e
  same_to (Zp i) t u e = e
  same_to N t u e = e
  same_to V t u e = e
  same_to Z t u e = e
  same_to C t u e = e

  -- a state behind a row or a call, with the frames of another
  abbrev pub with_frames : State → List Frame → State
  with_frames u fs = record u { frames = fs }

  same_back : (p : Part) (t u : State) (fs : List Frame) → Same p (moved t) u → Same p t (with_frames u fs)
  same_back A t u fs e = e
  same_back X t u fs e = e
  same_back Y t u fs e = e
  same_back (Zp i) t u fs e = e
  same_back N t u fs e = e
  same_back V t u fs e = e
  same_back Z t u fs e = e
  same_back C t u fs e = e

  pub met_on : (row : Row) (t u : State) → Meets row t u → Meets row (moved t) (moved u)
  met_on row t u m = record {
    sp = m.sp;
    a = m.a;
    x = m.x;
    sreg = m.sreg;
    pointers = m.pointers;
    bank = m.bank;
    kept = λ p e. same_to p t u (m.kept p e);
    high = m.high;
    mem = m.mem;
    pushed = m.pushed;
    frames = ap (map moved_frame) m.frames;
    input = m.input;
    output = m.output;
    ended = m.ended;
  }

  pub keeps_on : (parts : RegSet) (t u : State) → Keeps parts t u → Keeps parts (moved t) (moved u)
  keeps_on parts t u k = record {
    part = λ p e. same_to p t u (k.part p e);
    high = k.high;
    mem = k.mem;
    input = k.input;
    output = k.output;
    ended = k.ended;
  }

  -- a row that is met behind the moved state is met behind the state, and leaves its frames
  pub met_back : (row : Row) (t u : State) → Meets row (moved t) u → Meets row t (with_frames u t.frames)
  met_back row t u m = record {
    sp = m.sp;
    a = m.a;
    x = m.x;
    sreg = m.sreg;
    pointers = m.pointers;
    bank = m.bank;
    kept = λ p e. same_back p t u t.frames (m.kept p e);
    high = m.high;
    mem = m.mem;
    pushed = m.pushed;
    frames = refl;
    input = m.input;
    output = m.output;
    ended = m.ended;
  }

  pub keeps_back : (parts : RegSet) (t u : State) (fs : List Frame) → Keeps parts (moved t) u → Keeps parts t (with_frames u fs)
  keeps_back parts t u fs k = record {
    part = λ p e. same_back p t u fs (k.part p e);
    high = k.high;
    mem = k.mem;
    input = k.input;
    output = k.output;
    ended = k.ended;
  }

  abbrev AreBytes : Frame → Type 0
  AreBytes f = All (λ v. v < 256) f.pushed

  frames_to : (fs : List Frame) → All AreBytes fs → All AreBytes (map moved_frame fs)
  frames_to [] h = All-nil AreBytes
  frames_to (f ∷ fs) h = All-cons AreBytes (moved_frame f) (map moved_frame fs) (All-head AreBytes f fs h) (frames_to fs (All-tail AreBytes f fs h))

  frames_back : (fs : List Frame) → All AreBytes (map moved_frame fs) → All AreBytes fs
  frames_back [] h = All-nil AreBytes
  frames_back (f ∷ fs) h = All-cons AreBytes f fs (All-head AreBytes (moved_frame f) (map moved_frame fs) h) (frames_back fs (All-tail AreBytes (moved_frame f) (map moved_frame fs) h))

  pub bytes_to : (t : State) → IsBytes t → IsBytes (moved t)
  bytes_to t b = record { a = b.a; x = b.x; y = b.y; zp = b.zp; mem = b.mem; pushed = b.pushed; frames = frames_to t.frames b.frames }

  pub bytes_back : (t : State) → IsBytes (moved t) → IsBytes t
  bytes_back t b = record { a = b.a; x = b.x; y = b.y; zp = b.zp; mem = b.mem; pushed = b.pushed; frames = frames_back t.frames b.frames }
