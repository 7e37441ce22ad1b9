-- How the state of the processor agrees with that of the machine on lines.
use Rattle.std.specs.Prelude.{◌≡◌, ◌⊎◌, ℕ, suc, ◌+◌, ◌*◌, ◌<◌, ◌≤◌, false, List, [], ◌∷◌, length, Option, Some, None}
use Rattle.c65_base.specs.declared.options.Cpu.{Cpu}
use Rattle.c65_mach.specs.State.{read}
use Rattle.c65_mach.specs.Run.{Setting, Moment, Running, turn}
use Rattle.c65_sim.specs.Budgets.{is_too_deep}
use Rattle.c65_code.specs.LineState.{Place, State, Frame, hard_bytes}
use Rattle.c65_code.specs.Placement.{Placement}

-- A program in memory: the processor, the byte at each address of the code, the address behind the code, the placement of its
-- symbols, the address of each place of its lines, and the uppermost S with the address that the bytes above it lead back to.
pub record Ground : Type 0 where
  pub cpu : Cpu
  pub byte : ℕ → ℕ
  pub end : ℕ
  pub place : Placement
  pub at : Place → ℕ
  pub top : ℕ
  pub last : Option ℕ

-- pushed bytes, the newest first, in page 1 above S
abbrev pub Pushed : (ℕ → ℕ) → ℕ → List ℕ → Type 0
Pushed m s [] = Unit {0}
Pushed m s (v ∷ vs) = (s < 255) × (m (257 + s) ≡ v) × Pushed m (s + 1) vs

-- a return point: the address that it leads back to, less one
abbrev pub LeadsTo : (ℕ → ℕ) → ℕ → ℕ → Type 0
LeadsTo m s to = (s < 254) × (m (257 + s) + 256 * m (258 + s) + 1 ≡ to)

abbrev pub IsLast : Option ℕ → (ℕ → ℕ) → ℕ → Type 0
IsLast None m s = Unit {0}
IsLast (Some to) m s = LeadsTo m s to

-- the active calls above S: the return point of each, and then what its caller had pushed
abbrev pub Points : (Place → ℕ) → Option ℕ → (ℕ → ℕ) → ℕ → List Frame → Type 0
Points at last m s [] = IsLast last m s
Points at last m s (f ∷ fs) = LeadsTo m s (at f.back) × Pushed m (s + 2) f.pushed × Points at last m (s + 2 + length f.pushed) fs

-- The states agree, with pc at an address: registers and flags, the zero page, memory from $0200 on, and page 1 above S. The
-- code is in memory as it was written, and D is clear.
pub record Agrees (g : Ground) (to : ℕ) (t : State) (now : Moment) : Type 0 where
  pub cpu : now.machine.cpu ≡ g.cpu
  pub pc : now.machine.pc ≡ to
  pub regs : now.machine.regs ≡ t.regs
  pub d : now.machine.d ≡ false
  pub s : now.machine.s + hard_bytes t ≡ g.top
  pub size : length now.machine.mem ≡ 65536
  pub zp : (i : ℕ) → i < 256 → read now.machine.mem i ≡ t.zp i
  pub mem : (b : ℕ) → 512 ≤ b → b < 65536 → read now.machine.mem b ≡ t.mem b
  pub code : (b : ℕ) → 512 ≤ b → b < g.end → read now.machine.mem b ≡ g.byte b
  pub pushed : Pushed (read now.machine.mem) now.machine.s t.pushed
  pub points : Points g.at g.last (read now.machine.mem) (now.machine.s + length t.pushed) t.frames
  pub input : now.input ≡ t.input
  pub output : now.output ≡ t.output

-- So many rows lead from one moment to another: the guard refuses none of them, and P holds of each moment before a row.
pub data Goes (P : Moment → Type 0) (setting : Setting) : ℕ → Moment → Moment → Type 0 where
  none : {m : Moment} → Goes P setting 0 m m
  more : {k : ℕ} {m n o : Moment} → turn setting m ≡ Running n → is_too_deep m.machine ≡ false → P m → Goes P setting k n o → Goes P setting (suc k) m o

-- the first moment, or one with pc at an address of these
abbrev pub IsFirstOr : (ℕ → Type 0) → Moment → Moment → Type 0
IsFirstOr Later first m = (m ≡ first) ⊎ Later m.machine.pc

-- the address is behind a line's first byte, and of the line
abbrev pub IsInside : Ground → Place → ℕ → Type 0
IsInside g p a = (g.at p < a) × (a < g.at (p.0, suc p.1))

-- The processor comes, in at least one row and at most so many, to a moment that agrees with a place and state of Q, and each row
-- but the first is done at an address of these.
pub record Arrives (g : Ground) (setting : Setting) (most : ℕ) (now : Moment) (Later : ℕ → Type 0) (Q : Place → State → Type 0) : Type 0 where
  pub rows : ℕ
  pub least : 1 ≤ rows
  pub within : rows ≤ most
  pub then_at : Moment
  pub place : Place
  pub state : State
  pub holds : Q place state
  pub goes : Goes (IsFirstOr Later now) setting rows now then_at
  pub agrees : Agrees g (g.at place) state then_at
