-- Where a steady run stands at a line that is no call of a routine, there is a move.
use Rattle.std.proofs.Common.{◌≡◌, ℕ, suc, ◌+◌, ◌*◌, ◌/◌, ◌%◌, ◌<◌, ◌==◌, Bool, true, false, List, [], ◌∷◌, All, Option, Some, None, refl, subst, cond, bit_and, arith, lit<}
use Rattle.std.proofs.lemmas.List.Elements.{All-nil, All-cons, All-head, All-tail}
use Rattle.std.proofs.lemmas.Nat.{or_of_8, xor_of_8, and_le_l}
use Rattle.c65_mach.specs.declared.rows.Op.{Op}
use Rattle.c65_mach.specs.declared.rows.Op.TheVariants as ops
use Rattle.c65_mach.specs.declared.rows.Mode.{Mode}
use Rattle.c65_mach.specs.declared.rows.Mode.TheVariants as modes
use Rattle.c65_mach.specs.State.{Regs}
use Rattle.c65_mach.specs.Step.{bit, signed, apply, stored, changed, Kind, Reads, Stores, Changes, Branches, Registers, Moves as Moving, kind_of}
use Rattle.c65_code.specs.declared.parts.Part.{Part}
use Rattle.c65_code.specs.declared.parts.Part.TheVariants as parts
use Rattle.c65_code.specs.declared.parts.RegSet.{RegSet}
use Rattle.c65_base.specs.declared.library.Library.{Library}
use Rattle.c65_code.specs.LineState.{Place, Bytes, write, State, Frame, Same, IsBytes}
use Rattle.c65_code.specs.Placement.{Setting, word_of}
use Rattle.c65_code.specs.Forms.{Form, Mark, Plain, Branch, Jump, Far, Push, Pull, Depth, Return, Run, Enter, Through, Stray, form_of}
use Rattle.c65_code.specs.Moves.{Ref, Given, ZeroAt, MemAt, ref_of, value_at, put, change, effect, settle, Keeps, Returns, Calls, IsCallee, Goes}
use Rattle.c65_code.specs.Steady.{IsCalm, IsWithin}
use Rattle.c65_code.specs.LineLaws.{IsOwn, given_of, IsGivenByte, NeverSticks}

abbrev IsByte : ℕ → Type 0
IsByte v = v < 256

-- the bytes that a frame keeps for its caller
abbrev HasBytes : Frame → Type 0
HasBytes f = All IsByte f.pushed

-- registers that are bytes
record AreBytes (r : Regs) : Type 0 where
  a : r.a < 256
  x : r.x < 256
  y : r.y < 256

with_regs : (t : State) (r : Regs) → IsBytes t → AreBytes r → IsBytes (record t { regs = r })
with_regs t r bytes new = record { a = new.a; x = new.x; y = new.y; zp = bytes.zp; mem = bytes.mem; pushed = bytes.pushed; frames = bytes.frames }

regs_of : (t : State) → IsBytes t → AreBytes t.regs
regs_of t bytes = record { a = bytes.a; x = bytes.x; y = bytes.y }

and_of_8 : (a b : ℕ) → a < 256 → bit_and a b < 256
and_of_8 a b h = omega (arith, and_le_l a b)

applied : (op : Op) (v : ℕ) (r : Regs) → v < 256 → AreBytes r → AreBytes (apply false op v r)
applied ops.Adc v r below bytes = record { a = omega arith; x = bytes.x; y = bytes.y }
applied ops.And v r below bytes = record { a = and_of_8 r.a v bytes.a; x = bytes.x; y = bytes.y }
applied ops.Bit v r below bytes = record { a = bytes.a; x = bytes.x; y = bytes.y }
applied ops.Cmp v r below bytes = record { a = bytes.a; x = bytes.x; y = bytes.y }
applied ops.Cpx v r below bytes = record { a = bytes.a; x = bytes.x; y = bytes.y }
applied ops.Cpy v r below bytes = record { a = bytes.a; x = bytes.x; y = bytes.y }
applied ops.Eor v r below bytes = record { a = xor_of_8 r.a v bytes.a below; x = bytes.x; y = bytes.y }
applied ops.Lda v r below bytes = record { a = below; x = bytes.x; y = bytes.y }
applied ops.Ldx v r below bytes = record { a = bytes.a; x = below; y = bytes.y }
applied ops.Ldy v r below bytes = record { a = bytes.a; x = bytes.x; y = below }
applied ops.Ora v r below bytes = record { a = or_of_8 r.a v bytes.a below; x = bytes.x; y = bytes.y }
applied ops.Sbc v r below bytes = record { a = omega arith; x = bytes.x; y = bytes.y }
applied ops.Clc v r below bytes = record { a = bytes.a; x = bytes.x; y = bytes.y }
applied ops.Clv v r below bytes = record { a = bytes.a; x = bytes.x; y = bytes.y }
applied ops.Dex v r below bytes = record { a = bytes.a; x = omega arith; y = bytes.y }
applied ops.Dey v r below bytes = record { a = bytes.a; x = bytes.x; y = omega arith }
applied ops.Inx v r below bytes = record { a = bytes.a; x = omega arith; y = bytes.y }
applied ops.Iny v r below bytes = record { a = bytes.a; x = bytes.x; y = omega arith }
applied ops.Sec v r below bytes = record { a = bytes.a; x = bytes.x; y = bytes.y }
applied ops.Tax v r below bytes = record { a = bytes.a; x = bytes.a; y = bytes.y }
applied ops.Tay v r below bytes = record { a = bytes.a; x = bytes.x; y = bytes.a }
applied ops.Txa v r below bytes = record { a = bytes.x; x = bytes.x; y = bytes.y }
applied ops.Tya v r below bytes = record { a = bytes.y; x = bytes.x; y = bytes.y }
applied ops.Nop v r below bytes = record { a = bytes.a; x = bytes.x; y = bytes.y }
applied ops.Asl v r below bytes = bytes
applied ops.Bcc v r below bytes = bytes
applied ops.Bcs v r below bytes = bytes
applied ops.Beq v r below bytes = bytes
applied ops.Bmi v r below bytes = bytes
applied ops.Bne v r below bytes = bytes
applied ops.Bpl v r below bytes = bytes
applied ops.Bra v r below bytes = bytes
applied ops.Brk v r below bytes = bytes
applied ops.Bvc v r below bytes = bytes
applied ops.Bvs v r below bytes = bytes
applied ops.Cld v r below bytes = bytes
applied ops.Cli v r below bytes = bytes
applied ops.Dec v r below bytes = bytes
applied ops.Inc v r below bytes = bytes
applied ops.Jmp v r below bytes = bytes
applied ops.Jsr v r below bytes = bytes
applied ops.Lsr v r below bytes = bytes
applied ops.Pha v r below bytes = bytes
applied ops.Php v r below bytes = bytes
applied ops.Phx v r below bytes = bytes
applied ops.Phy v r below bytes = bytes
applied ops.Pla v r below bytes = bytes
applied ops.Plp v r below bytes = bytes
applied ops.Plx v r below bytes = bytes
applied ops.Ply v r below bytes = bytes
applied ops.Rol v r below bytes = bytes
applied ops.Ror v r below bytes = bytes
applied ops.Rti v r below bytes = bytes
applied ops.Rts v r below bytes = bytes
applied ops.Sed v r below bytes = bytes
applied ops.Sei v r below bytes = bytes
applied ops.Sta v r below bytes = bytes
applied ops.Stx v r below bytes = bytes
applied ops.Sty v r below bytes = bytes
applied ops.Stz v r below bytes = bytes
applied ops.Trb v r below bytes = bytes
applied ops.Tsb v r below bytes = bytes
applied ops.Tsx v r below bytes = bytes
applied ops.Txs v r below bytes = bytes

stored_byte : (op : Op) (r : Regs) → AreBytes r → stored op r < 256
stored_byte ops.Stx r bytes = bytes.x
stored_byte ops.Sty r bytes = bytes.y
stored_byte ops.Stz r bytes = lit< tt
stored_byte _ r bytes = bytes.a

rolled : (v : ℕ) (c : Bool) → v < 256 → (2 * v) % 256 + bit c < 256
rolled v true h = omega arith
rolled v false h = omega arith

halved : (v : ℕ) (c : Bool) → v < 256 → v / 2 + 128 * bit c < 256
halved v true h = omega arith
halved v false h = omega arith

changed_byte : (op : Op) (v : ℕ) (r : Regs) → v < 256 → (changed op v r).0 < 256
changed_byte ops.Asl v r h = omega arith
changed_byte ops.Rol v r h = rolled v r.c h
changed_byte ops.Lsr v r h = omega arith
changed_byte ops.Ror v r h = halved v r.c h
changed_byte ops.Inc v r h = omega arith
changed_byte _ v r h = omega arith

written_bytes : (m : Bytes) (at v : ℕ) → ((b : ℕ) → m b < 256) → v < 256 → (b : ℕ) → write m at v b < 256
written_bytes m at v bytes below b = pick (b == at)
  where
    pick : (c : Bool) → cond c v (m b) < 256
    pick true = below
    pick false = bytes b

put_bytes : (ref : Ref) (v : ℕ) (t : State) → IsBytes t → v < 256 → IsBytes (put ref v t)
put_bytes (Given w) v t bytes below = bytes
put_bytes (ZeroAt i) v t bytes below = record { a = bytes.a; x = bytes.x; y = bytes.y; zp = written_bytes t.zp i v bytes.zp below; mem = bytes.mem; pushed = bytes.pushed; frames = bytes.frames }
put_bytes (MemAt b) v t bytes below = record { a = bytes.a; x = bytes.x; y = bytes.y; zp = bytes.zp; mem = written_bytes t.mem b v bytes.mem below; pushed = bytes.pushed; frames = bytes.frames }

value_byte : (ref : Ref) (t : State) → IsBytes t → IsGivenByte ref → value_at ref t < 256
value_byte (Given v) t bytes given = given
value_byte (ZeroAt i) t bytes given = bytes.zp i
value_byte (MemAt b) t bytes given = bytes.mem b

moved_bytes : (op : Op) (ref : Ref) (t : State) → IsBytes t → IsGivenByte ref → IsBytes (let to = changed op (value_at ref t) t.regs in put ref to.0 (record t { regs = record (signed to.0 t.regs) { c = to.1 } }))
moved_bytes op ref t bytes given =
    put_bytes ref _ _ (with_regs t _ bytes (record { a = bytes.a; x = bytes.x; y = bytes.y })) (changed_byte op (value_at ref t) t.regs (value_byte ref t bytes given))

change_bytes : (op : Op) (mode : Mode) (w : ℕ) (t : State) → IsBytes t → IsGivenByte (ref_of mode w t) → IsBytes (change op mode w t)
change_bytes op modes.Accumulator w t bytes given = with_regs t _ bytes (record { a = changed_byte op t.regs.a t.regs bytes.a; x = bytes.x; y = bytes.y })
change_bytes op modes.Implied w t bytes given = moved_bytes op (ref_of modes.Implied w t) t bytes given
change_bytes op modes.Immediate w t bytes given = moved_bytes op (ref_of modes.Immediate w t) t bytes given
change_bytes op modes.ZeroPage w t bytes given = moved_bytes op (ref_of modes.ZeroPage w t) t bytes given
change_bytes op modes.ZeroPageX w t bytes given = moved_bytes op (ref_of modes.ZeroPageX w t) t bytes given
change_bytes op modes.ZeroPageY w t bytes given = moved_bytes op (ref_of modes.ZeroPageY w t) t bytes given
change_bytes op modes.Absolute w t bytes given = moved_bytes op (ref_of modes.Absolute w t) t bytes given
change_bytes op modes.AbsoluteX w t bytes given = moved_bytes op (ref_of modes.AbsoluteX w t) t bytes given
change_bytes op modes.AbsoluteY w t bytes given = moved_bytes op (ref_of modes.AbsoluteY w t) t bytes given
change_bytes op modes.IndirectX w t bytes given = moved_bytes op (ref_of modes.IndirectX w t) t bytes given
change_bytes op modes.IndirectY w t bytes given = moved_bytes op (ref_of modes.IndirectY w t) t bytes given
change_bytes op modes.Indirect w t bytes given = moved_bytes op (ref_of modes.Indirect w t) t bytes given
change_bytes op modes.Relative w t bytes given = moved_bytes op (ref_of modes.Relative w t) t bytes given
change_bytes op modes.ZeroPageIndirect w t bytes given = moved_bytes op (ref_of modes.ZeroPageIndirect w t) t bytes given
change_bytes op modes.AbsoluteIndirectX w t bytes given = moved_bytes op (ref_of modes.AbsoluteIndirectX w t) t bytes given

effect_bytes : (kind : Kind) (op : Op) (mode : Mode) (w : ℕ) (t : State) → IsBytes t → IsGivenByte (ref_of mode w t) → IsBytes (effect kind op mode w t)
effect_bytes Reads op mode w t bytes given = with_regs t _ bytes (applied op (value_at (ref_of mode w t) t) t.regs (value_byte (ref_of mode w t) t bytes given) (regs_of t bytes))
effect_bytes Stores op mode w t bytes given = put_bytes (ref_of mode w t) (stored op t.regs) t bytes (stored_byte op t.regs (regs_of t bytes))
effect_bytes Changes op mode w t bytes given = change_bytes op mode w t bytes given
effect_bytes Registers op mode w t bytes given = with_regs t _ bytes (applied op 0 t.regs (lit< tt) (regs_of t bytes))
effect_bytes Branches op mode w t bytes given = bytes
effect_bytes Moving op mode w t bytes given = bytes

-- where a move leads, and that its state is made of bytes
Going : Setting → Form → Place → State → Type 0
Going s form p t = (q : Place) × (u : State) × Goes s form p t q u × IsBytes u

same_part : (p : Part) (t : State) (pushed : List ℕ) (frames : List Frame) → Same p t (record t { pushed = pushed; frames = frames })
same_part parts.A t pushed frames = refl
same_part parts.X t pushed frames = refl
same_part parts.Y t pushed frames = refl
same_part (parts.Zp i) t pushed frames = refl
same_part parts.N t pushed frames = refl
same_part parts.V t pushed frames = refl
same_part parts.Z t pushed frames = refl
same_part parts.C t pushed frames = refl

keeps_itself : (parts : RegSet) (t : State) (pushed : List ℕ) (frames : List Frame) → Keeps parts t (record t { pushed = pushed; frames = frames })
keeps_itself parts t pushed frames = record { part = λ p h. same_part p t pushed frames; high = λ i h. refl; mem = refl; input = refl; output = refl; ended = refl }

entering : (s : Setting) (f : ℕ) (reads gives : RegSet) (p : Place) (t : State) (o : Option Library) → o ≡ None → IsBytes t → (q : Place) × (u : State) × Calls s o f reads gives p t q u × IsBytes u
entering s f reads gives p t (Some library) own bytes = absurd (let e : Some library ≡ None = own in cc)
entering s f reads gives p t None own bytes =
    let frame : Frame = record { back = (p.0, settle (s.lines p.0) (suc p.1)); pushed = t.pushed; gives = gives } in
    let u : State = record t { pushed = []; frames = frame ∷ t.frames } in (
      (f, settle (s.lines f) 0),
      u,
      record { to = refl; keeps = keeps_itself _ t [] (frame ∷ t.frames); pushed = refl; frames = refl },
      record { a = bytes.a; x = bytes.x; y = bytes.y; zp = bytes.zp; mem = bytes.mem; pushed = All-nil IsByte; frames = All-cons HasBytes frame t.frames bytes.pushed bytes.frames },
    )

returning : (s : Setting) (frames : List Frame) (p : Place) (t : State) → t.frames ≡ frames → t.pushed ≡ [] → IsBytes t → (q : Place) × (u : State) × Returns s frames p t q u × IsBytes u
returning s [] p t same clean bytes =
    (p, record t { ended = Some t.regs.a }, (t.regs.a, (λ h. refl), bytes.a, clean, refl, refl), record { a = bytes.a; x = bytes.x; y = bytes.y; zp = bytes.zp; mem = bytes.mem; pushed = bytes.pushed; frames = bytes.frames })
returning s (frame ∷ frames) p t same clean bytes =
    let all : All (λ (f : Frame). All (λ v. v < 256) f.pushed) (frame ∷ frames) = subst (λ fs. All (λ (f : Frame). All (λ v. v < 256) f.pushed) fs) same bytes.frames in
    (frame.back, record t { pushed = frame.pushed; frames = frames }, (clean, refl, keeps_itself _ t frame.pushed frames, refl, refl), record { a = bytes.a; x = bytes.x; y = bytes.y; zp = bytes.zp; mem = bytes.mem; pushed = All-head HasBytes frame frames all; frames = All-tail HasBytes frame frames all })

with_pushed : (t : State) (pushed : List ℕ) → IsBytes t → All (λ v. v < 256) pushed → IsBytes (record t { pushed = pushed })
with_pushed t pushed bytes all = record { a = bytes.a; x = bytes.x; y = bytes.y; zp = bytes.zp; mem = bytes.mem; pushed = all; frames = bytes.frames }

going : (s : Setting) (form : Form) (p : Place) (t : State) → IsOwn s form t → IsGivenByte (given_of s form t) → IsCalm s t → IsWithin s form t → Going s form p t
unfolding Going
going s (Plain op mode operand) p t own given calm within = (_, _, (refl, refl), effect_bytes (kind_of op) op mode (word_of s.place operand) t calm.bytes given)
going s (Branch op l) p t own given calm within = (_, _, (refl, refl), calm.bytes)
going s (Jump l) p t own given calm within = (_, _, (refl, refl), calm.bytes)
going s Push p t own given calm within = (_, _, (refl, refl), with_pushed t (t.regs.a ∷ t.pushed) calm.bytes (All-cons IsByte t.regs.a t.pushed calm.bytes.a calm.bytes.pushed))
going s Pull p t own given calm within =
    let all : All (λ v. v < 256) (within.0 ∷ within.1) = subst (λ vs. All (λ v. v < 256) vs) within.2 calm.bytes.pushed in
    (_, _, (refl, (within.0, within.1, within.2, refl)), record { a = All-head IsByte within.0 within.1 all; x = calm.bytes.x; y = calm.bytes.y; zp = calm.bytes.zp; mem = calm.bytes.mem; pushed = All-tail IsByte within.0 within.1 all; frames = calm.bytes.frames })
going s Depth p t own given calm within = (_, _, (refl, refl), record { a = calm.bytes.a; x = omega arith; y = calm.bytes.y; zp = calm.bytes.zp; mem = calm.bytes.mem; pushed = calm.bytes.pushed; frames = calm.bytes.frames })
going s Return p t own given calm within = returning s t.frames p t refl within calm.bytes
going s (Run r) p t own given calm within = absurd own
going s (Enter f reads gives) p t own given calm within = entering s f reads gives p t (s.library f) own calm.bytes
going s (Through reads gives) p t own given calm within =
    let callee : IsCallee s t within.0 = within.1 in
    let gone = entering s within.0 _ gives p t (s.library within.0) (own within.0 callee) calm.bytes in
    (gone.0, gone.1, (within.0, callee, gone.2), gone.3)
going s Mark p t own given calm within = absurd within
going s (Far i) p t own given calm within = absurd within
going s Stray p t own given calm within = absurd within

pub never_sticks : NeverSticks
unfolding Going
never_sticks s l p t own given steady running =
    let gone = going s (form_of l) p t own given steady.calm steady.within in
    (gone.0, gone.1, record { running = running; goes = gone.2; bytes = gone.3 })
