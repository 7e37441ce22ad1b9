-- What the rows of the runtime's routines leave of a state in which an expression stands.
use Rattle.std.specs.Prelude.{◌≡◌, ℕ, ◌+◌, ◌<◌, ◌≤◌, false, List, [], ◌∷◌, None, length}
use Rattle.c65_code.specs.declared.parts.Part.TheVariants.{Zp}
use Rattle.c65_code.specs.declared.routine.Count.{Count}
use Rattle.c65_code.specs.declared.routine.Routine.{Routine}
use Rattle.c65_code.specs.declared.routine.Routine.TheVariants as routines
use Rattle.c65_code.specs.Parts.{has_part}
use Rattle.c65_code.specs.LineState.{Bytes, word_at, State, sp_of, ax_of, eax_of}
use Rattle.c65_code.specs.Placement.{stack_start}
use Rattle.c65_code.specs.Rows.{Row, long_at, number_of}
use Rattle.c65_agree_numbers.specs.Words.{signed_byte, signed_long}

-- A row that takes no input, writes no output, does not end the run, and leaves regbank alone.
pub record IsSilent (row : Row) : Type 0 where
  pub taken : row.taken ≡ 0
  pub out : row.out ≡ []
  pub ends : row.ends ≡ None
  pub bank : (i : ℕ) → i < 6 → has_part row.changes (Zp (20 + i)) ≡ false

-- and leaves other bytes in the 64 below sp alone, as all do but one that lowers sp by more
pub record IsQuiet (row : Row) : Type 0 where
  pub silent : IsSilent row
  pub room : row.room ≤ 64

-- each address that is written lies in the software stack, below a bound
abbrev pub WriteBelow : ℕ → List (ℕ × ℕ) → Type 0
WriteBelow bound [] = Unit {0}
WriteBelow bound (w ∷ ws) = (stack_start ≤ w.0) × (w.0 < bound) × WriteBelow bound ws

-- ---- values that wait

-- what a routine pushes: A, AX, A and a zero byte, a zero word, or EAX
pub data Pushing : Type 0 where
  Byte : Pushing
  Word : Pushing
  ByteAsWord : Pushing
  Zero : Pushing
  Long : Pushing

abbrev pub push_of : Pushing → Routine
push_of Byte = routines.PushA
push_of Word = routines.PushAx
push_of ByteAsWord = routines.PushA0
push_of Zero = routines.Push0
push_of Long = routines.PushEax

abbrev pub pushed_by : Pushing → State → List ℕ
pushed_by Byte t = t.regs.a ∷ []
pushed_by Word t = t.regs.a ∷ t.regs.x ∷ []
pushed_by ByteAsWord t = t.regs.a ∷ 0 ∷ []
pushed_by Zero t = 0 ∷ 0 ∷ []
pushed_by Long t = t.regs.a ∷ t.regs.x ∷ t.zp 2 ∷ t.zp 3 ∷ []

-- these bytes stand from an address on
abbrev pub AreAt : Bytes → ℕ → List ℕ → Type 0
AreAt m at [] = Unit {0}
AreAt m at (v ∷ vs) = (m at ≡ v) × AreAt m (at + 1) vs

-- the bytes stand at sp, which is that much lower, and all from the old sp on is as before
pub record ArePushed (bytes : List ℕ) (t u : State) : Type 0 where
  pub sp : sp_of u + length bytes ≡ sp_of t
  pub waiting : AreAt u.mem (sp_of u) bytes
  pub mem : (n : ℕ) → sp_of t ≤ n → u.mem n ≡ t.mem n

-- so many bytes at sp are taken off, and all from sp on is as before
pub record ArePopped (count : ℕ) (t u : State) : Type 0 where
  pub sp : sp_of u ≡ sp_of t + count
  pub mem : (n : ℕ) → sp_of t ≤ n → u.mem n ≡ t.mem n

-- what moves sp: by a number of bytes, or by Y
pub data Moving : Type 0 where
  By : (count : Count) → Moving
  ByY : Moving

abbrev pub raising_of : Moving → Routine
raising_of (By count) = routines.IncSp count
raising_of ByY = routines.AddYSp

abbrev pub lowering_of : Moving → Routine
lowering_of (By count) = routines.DecSp count
lowering_of ByY = routines.SubYSp

abbrev pub moved_by : Moving → State → ℕ
moved_by (By count) t = number_of count
moved_by ByY t = t.regs.y

-- so many bytes more wait, whatever they are, and all from the old sp on is as before
pub record AreLeft (count : ℕ) (t u : State) : Type 0 where
  pub sp : sp_of u + count ≡ sp_of t
  pub mem : (n : ℕ) → sp_of t ≤ n → u.mem n ≡ t.mem n

-- ---- the primary register

-- what makes a word of a byte, or a long word of a word
pub data Widening : Type 0 where
  SignedByte : Widening
  SignedWord : Widening
  UnsignedWord : Widening

abbrev pub widening_of : Widening → Routine
widening_of SignedByte = routines.SignA
widening_of SignedWord = routines.LongAx
widening_of UnsignedWord = routines.ULongAx

abbrev pub IsWidened : Widening → State → State → Type 0
IsWidened SignedByte t u = ax_of u ≡ signed_byte (ax_of t)
IsWidened SignedWord t u = eax_of u ≡ signed_long (ax_of t)
IsWidened UnsignedWord t u = eax_of u ≡ ax_of t

-- what loads from the bytes behind sp: a word at offset Y - 1 or at sp itself, and a long word at offset Y - 3
pub data NearLoad : Type 0 where
  WordByY : NearLoad
  WordAtSp : NearLoad
  LongByY : NearLoad

abbrev pub near_load_of : NearLoad → Routine
near_load_of WordByY = routines.LdAxYSp
near_load_of WordAtSp = routines.LdAx0Sp
near_load_of LongByY = routines.LdEaxYSp

-- Y is as the load needs it for the offset o
abbrev pub IsOffset : NearLoad → ℕ → ℕ → Type 0
IsOffset WordByY o y = y ≡ o + 1
IsOffset WordAtSp o y = o ≡ 0
IsOffset LongByY o y = y ≡ o + 3

abbrev pub near_width : NearLoad → ℕ
near_width WordByY = 2
near_width WordAtSp = 2
near_width LongByY = 4

abbrev pub IsNearLoaded : NearLoad → ℕ → State → State → Type 0
IsNearLoaded WordByY at t u = ax_of u ≡ word_at t.mem at
IsNearLoaded WordAtSp at t u = ax_of u ≡ word_at t.mem at
IsNearLoaded LongByY at t u = eax_of u ≡ long_at t.mem at

-- what loads from the address in AX: a byte with a zero above it, a word, and a long word
pub data FarLoad : Type 0 where
  FarByte : FarLoad
  FarWord : FarLoad
  FarLong : FarLoad

abbrev pub far_load_of : FarLoad → Routine
far_load_of FarByte = routines.LdAi
far_load_of FarWord = routines.LdAxi
far_load_of FarLong = routines.LdEaxi

abbrev pub far_width : FarLoad → ℕ
far_width FarByte = 1
far_width FarWord = 2
far_width FarLong = 4

abbrev pub IsFarLoaded : FarLoad → State → State → Type 0
IsFarLoaded FarByte t u = ax_of u ≡ t.mem (ax_of t)
IsFarLoaded FarWord t u = ax_of u ≡ word_at t.mem (ax_of t)
IsFarLoaded FarLong t u = eax_of u ≡ long_at t.mem (ax_of t)
