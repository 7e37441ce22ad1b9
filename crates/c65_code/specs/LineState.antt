-- The state of the machine on lines (docs/MEANING.md, "The line machine").
use Rattle.std.specs.Prelude.{◌≡◌, ℕ, ◌+◌, ◌-◌, ◌*◌, ◌%◌, ◌<◌, ◌==◌, if◌then◌else◌, All, List, Option, length, sum_by}
use Rattle.c65_mach.specs.State.{Regs}
use Rattle.c65_code.specs.declared.parts.Part.{Part}
use Rattle.c65_code.specs.declared.parts.Part.TheVariants.{A, X, Y, Zp, N, V, Z, C}
use Rattle.c65_code.specs.declared.parts.RegSet.{RegSet}

-- a function, by the number of its symbol, and a line of it
abbrev pub Place : Type 0
Place = ℕ × ℕ

-- bytes by address
abbrev pub Bytes : Type 0
Bytes = ℕ → ℕ

abbrev pub write : Bytes → ℕ → ℕ → Bytes
write m at v b = if b == at then v else m b

abbrev pub word_at : Bytes → ℕ → ℕ
word_at m at = m at + 256 * m (at + 1)

-- an active call: where it goes back to, what its caller has pushed, and what the caller takes as given
pub record Frame : Type 0 where
  pub back : Place
  pub pushed : List ℕ
  pub gives : RegSet

-- The zero page and memory are apart, and page 1 is no memory: what stands there are the bytes that the active function
-- has pushed, the newest first, and the calls behind it. The flag D is clear, and is no field.
pub record State : Type 0 where
  pub regs : Regs
  pub zp : Bytes
  pub mem : Bytes
  pub pushed : List ℕ
  pub frames : List Frame
  pub input : List ℕ
  pub output : List ℕ
  pub ended : Option ℕ

-- the software stack's pointer
abbrev pub sp_of : State → ℕ
sp_of t = t.zp 0 + 256 * t.zp 1

abbrev pub sreg_of : State → ℕ
sreg_of t = t.zp 2 + 256 * t.zp 3

abbrev pub ax_of : State → ℕ
ax_of t = t.regs.a + 256 * t.regs.x

abbrev pub eax_of : State → ℕ
eax_of t = ax_of t + 65536 * sreg_of t

-- a word of the zero page
abbrev pub zero_word : State → ℕ → ℕ
zero_word t i = t.zp i + 256 * t.zp ((i + 1) % 256)

-- the bytes of page 1 that are in use, and S: the call of main has taken two bytes
abbrev pub hard_bytes : State → ℕ
hard_bytes t = length t.pushed + sum_by (λ (f : Frame). 2 + length f.pushed) t.frames

abbrev pub s_of : State → ℕ
s_of t = 253 - hard_bytes t

-- the part has one value in both states
abbrev pub Same : Part → State → State → Type 0
Same A t u = t.regs.a ≡ u.regs.a
Same X t u = t.regs.x ≡ u.regs.x
Same Y t u = t.regs.y ≡ u.regs.y
Same (Zp i) t u = t.zp i ≡ u.zp i
Same N t u = t.regs.n ≡ u.regs.n
Same V t u = t.regs.v ≡ u.regs.v
Same Z t u = t.regs.z ≡ u.regs.z
Same C t u = t.regs.c ≡ u.regs.c

-- all bytes are bytes
pub record IsBytes (t : State) : Type 0 where
  pub a : t.regs.a < 256
  pub x : t.regs.x < 256
  pub y : t.regs.y < 256
  pub zp : (i : ℕ) → t.zp i < 256
  pub mem : (b : ℕ) → t.mem b < 256
  pub pushed : All (λ v. v < 256) t.pushed
  pub frames : All (λ (f : Frame). All (λ v. v < 256) f.pushed) t.frames
