-- One move of the machine on lines (docs/MEANING.md, "The line machine"). A routine is one move by its row; what a call
-- and a return leave open may be anything.
use Rattle.std.specs.Prelude.{◌≡◌, ℕ, zero, suc, ◌+◌, ◌%◌, ◌<◌, ◌≤◌, ◌==◌, false, IsTrue, if◌then◌else◌, List, [], ◌∷◌, Option, Some, None}
use Rattle.c65_mach.specs.declared.rows.Op.{Op}
use Rattle.c65_mach.specs.declared.rows.Mode.{Mode}
use Rattle.c65_mach.specs.declared.rows.Mode.TheVariants.{Accumulator, Immediate, ZeroPage, ZeroPageX, ZeroPageY, Absolute, AbsoluteX, AbsoluteY, IndirectX, IndirectY, ZeroPageIndirect}
use Rattle.c65_mach.specs.State.{Regs}
use Rattle.c65_mach.specs.Step.{after, signed, with_a, with_x, apply, stored, changed, is_taken, Kind, Reads, Stores, Changes, Registers, kind_of}
use Rattle.c65_code.specs.declared.parts.Part.{Part}
use Rattle.c65_code.specs.declared.parts.Part.TheVariants.{A}
use Rattle.c65_code.specs.declared.parts.RegSet.{RegSet}
use Rattle.c65_code.specs.declared.routine.Routine.TheVariants as routines
use Rattle.c65_base.specs.declared.library.Library.{Library}
use Rattle.c65_code.specs.declared.line.Line.{Line}
use Rattle.c65_code.specs.declared.line.Line.TheVariants.{Label}
use Rattle.c65_code.specs.Parts.{has_part, union_of, minus_of}
use Rattle.c65_code.specs.Effects.{kept_at_calls, ptr4_bytes}
use Rattle.c65_code.specs.LineState.{Place, write, State, Frame, zero_word, s_of, Same, IsBytes}
use Rattle.c65_code.specs.Placement.{Placement, Setting, word_of}
use Rattle.c65_code.specs.Forms.{Form, Mark, Plain, Branch, Jump, Far, Push, Pull, Depth, Return, Run, Enter, Through, Stray, form_of}
use Rattle.c65_code.specs.Rows.{Row, Meets, row_of}

-- where an operand is
pub data Ref : Type 0 where
  Given : (v : ℕ) → Ref
  ZeroAt : (i : ℕ) → Ref
  MemAt : (b : ℕ) → Ref

-- where the operand of a mode is, by its number (MCS6500 Programming Manual, chapters 5 and 6; the 65C02 has one mode more)
abbrev pub ref_of : Mode → ℕ → State → Ref
ref_of Immediate w t = Given w
ref_of ZeroPage w t = ZeroAt w
ref_of ZeroPageX w t = ZeroAt ((w + t.regs.x) % 256)
ref_of ZeroPageY w t = ZeroAt ((w + t.regs.y) % 256)
ref_of Absolute w t = MemAt w
ref_of AbsoluteX w t = MemAt (after w t.regs.x)
ref_of AbsoluteY w t = MemAt (after w t.regs.y)
ref_of IndirectX w t = MemAt (zero_word t ((w + t.regs.x) % 256))
ref_of IndirectY w t = MemAt (after (zero_word t w) t.regs.y)
ref_of ZeroPageIndirect w t = MemAt (zero_word t w)
ref_of _ w t = Given 0

abbrev pub value_at : Ref → State → ℕ
value_at (Given v) t = v
value_at (ZeroAt i) t = t.zp i
value_at (MemAt b) t = t.mem b

abbrev pub put : Ref → ℕ → State → State
put (Given w) v t = t
put (ZeroAt i) v t = record t { zp = write t.zp i v }
put (MemAt b) v t = record t { mem = write t.mem b v }

-- a shift or a count of A, or of a byte
abbrev pub change : Op → Mode → ℕ → State → State
change op Accumulator w t = let to = changed op t.regs.a t.regs in record t { regs = record (with_a to.0 t.regs) { c = to.1 } }
change op mode w t = let to = changed op (value_at (ref_of mode w t) t) t.regs in put (ref_of mode w t) to.0 (record t { regs = record (signed to.0 t.regs) { c = to.1 } })

-- the operations are those of the processor, with D clear
abbrev pub effect : Kind → Op → Mode → ℕ → State → State
effect Reads op mode w t = record t { regs = apply false op (value_at (ref_of mode w t) t) t.regs }
effect Stores op mode w t = put (ref_of mode w t) (stored op t.regs) t
effect Changes op mode w t = change op mode w t
effect Registers op mode w t = record t { regs = apply false op 0 t.regs }
effect _ op mode w t = t

-- the place of a label
abbrev pub labelled : List Line → ℕ → ℕ
labelled [] l = 0
labelled (Label k ∷ lines) l = if k == l then 0 else suc (labelled lines l)
labelled (_ ∷ lines) l = suc (labelled lines l)

-- the first place from here on at which no label stands
abbrev pub settle : List Line → ℕ → ℕ
settle [] p = p
settle (Label k ∷ lines) zero = suc (settle lines zero)
settle (_ ∷ lines) zero = zero
settle (_ ∷ lines) (suc p) = suc (settle lines p)

-- where a local line leads
abbrev pub next : List Line → Form → ℕ → Regs → ℕ
next lines (Branch op l) p regs = settle lines (if is_taken op regs then labelled lines l else suc p)
next lines (Jump l) p regs = settle lines (labelled lines l)
next lines _ p regs = settle lines (suc p)

abbrev pub MeetsRow : Option Row → State → State → Type 0
MeetsRow None t u = ⊥
MeetsRow (Some row) t u = Meets row t u

-- what a local line does
abbrev pub Does : Placement → Form → State → State → Type 0
Does place (Plain op mode operand) t u = u ≡ effect (kind_of op) op mode (word_of place operand) t
Does place (Branch op l) t u = u ≡ t
Does place (Jump l) t u = u ≡ t
Does place Push t u = u ≡ record t { pushed = t.regs.a ∷ t.pushed }
Does place Pull t u = (v : ℕ) × (rest : List ℕ) × (t.pushed ≡ v ∷ rest) × (u ≡ record t { regs = with_a v t.regs; pushed = rest })
Does place Depth t u = u ≡ record t { regs = with_x (s_of t) t.regs }
Does place (Run r) t u = MeetsRow (row_of r t) t u
Does place _ t u = ⊥

-- What a call or a return keeps: these parts, the rest of the zero page, memory, input and output. Every other part may be anything.
pub record Keeps (parts : RegSet) (t u : State) : Type 0 where
  pub part : (p : Part) → IsTrue (has_part parts p) → Same p t u
  pub high : (i : ℕ) → 26 ≤ i → t.zp i ≡ u.zp i
  pub mem : u.mem ≡ t.mem
  pub input : u.input ≡ t.input
  pub output : u.output ≡ t.output
  pub ended : u.ended ≡ t.ended

-- the first line of a function, with a frame more
pub record Enters (s : Setting) (f : ℕ) (reads gives : RegSet) (p : Place) (t : State) (q : Place) (u : State) : Type 0 where
  pub to : q ≡ (f, settle (s.lines f) 0)
  pub keeps : Keeps (union_of reads kept_at_calls) t u
  pub pushed : u.pushed ≡ []
  pub frames : u.frames ≡ record { back = (p.0, settle (s.lines p.0) (suc p.1)); pushed = t.pushed; gives = gives } ∷ t.frames

-- the parts that are in both sets
abbrev pub common_of : RegSet → RegSet → RegSet
common_of r s = minus_of r (minus_of r s)

-- A return goes behind the call and keeps what the call and the function both give. The return of main ends the run with A,
-- where main gives A.
abbrev pub Returns : Setting → List Frame → Place → State → Place → State → Type 0
Returns s [] p t q u = (v : ℕ) × (IsTrue (has_part (s.gives p.0) A) → v ≡ t.regs.a) × (v < 256) × (t.pushed ≡ []) × (q ≡ p) × (u ≡ record t { ended = Some v })
Returns s (frame ∷ frames) p t q u = (t.pushed ≡ []) × (q ≡ frame.back) × Keeps (union_of (common_of frame.gives (s.gives p.0)) kept_at_calls) t u × (u.pushed ≡ frame.pushed) × (u.frames ≡ frames)

-- the function whose address ptr4 holds
abbrev pub IsCallee : Setting → State → ℕ → Type 0
IsCallee s t f = IsTrue (s.is_function f) × (s.place.address f ≡ zero_word t 14)

-- a call of a function; one of the library that has no body is a routine
abbrev pub Calls : Setting → Option Library → ℕ → RegSet → RegSet → Place → State → Place → State → Type 0
Calls s None f reads gives p t q u = Enters s f reads gives p t q u
Calls s (Some library) f reads gives p t q u = (q ≡ (p.0, settle (s.lines p.0) (suc p.1))) × MeetsRow (row_of (routines.Library library) t) t u

abbrev pub Goes : Setting → Form → Place → State → Place → State → Type 0
Goes s Mark p t q u = ⊥
Goes s (Far i) p t q u = ⊥
Goes s Stray p t q u = ⊥
Goes s Return p t q u = Returns s t.frames p t q u
Goes s (Enter f reads gives) p t q u = Calls s (s.library f) f reads gives p t q u
Goes s (Through reads gives) p t q u = (f : ℕ) × IsCallee s t f × Calls s (s.library f) f (union_of reads ptr4_bytes) gives p t q u
Goes s form p t q u = (q ≡ (p.0, next (s.lines p.0) form p.1 t.regs)) × Does s.place form t u

-- One move by a line at a place. After the end there is none.
pub record Moves (s : Setting) (l : Line) (p : Place) (t : State) (q : Place) (u : State) : Type 0 where
  pub running : t.ended ≡ None
  pub goes : Goes s (form_of l) p t q u
  pub bytes : IsBytes u
