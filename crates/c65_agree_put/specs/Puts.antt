-- Bytes of a place that are stored, and the scene with the cells that they are.
use Rattle.std.specs.Prelude.{◌≡◌, ℕ, ◌+◌, ◌<◌, ◌≤◌, ◌⊎◌, ◌==◌, ◌&&◌, nat_lt, if◌then◌else◌, false, None, length}
use Rattle.c65_meaning.specs.Store.{Cell, Block, set_block}
use Rattle.c65_meaning.specs.State.{Scene, with_store}
use Rattle.c65_code.specs.declared.routine.Routine.{Routine}
use Rattle.c65_code.specs.declared.routine.Routine.TheVariants as routines
use Rattle.c65_code.specs.LineState.{State, word_at, sp_of, ax_of, eax_of, IsBytes}
use Rattle.c65_code.specs.Placement.{stack_start}
use Rattle.c65_agree_store.specs.Stands.{Spot, At, Banked, Placing, Banks, CellIs, IsAt, IsFree, beyond, stored_at}
use Rattle.c65_agree_store.specs.Laws.{with_cells}
use Rattle.c65_agree_state.specs.World.{World, Active}
use Rattle.c65_agree_state.specs.Joins.{HasBank}
use Rattle.c65_agree_state.specs.Exprs.{Ready, bounds_of}

-- ---- the machine

-- none of the n bytes from offset o on
abbrev pub IsBeside : Spot → ℕ → ℕ → Spot → Type 0
IsBeside q o n p = (i : ℕ) → i < n → beyond q (o + i) ≡ p → ⊥

-- only these bytes of a place are others, and registers, scratch bytes of the zero page, and bytes of the software stack below a bound
pub record OnlyStored (a : Active) (bound : ℕ) (q : Spot) (o n : ℕ) (t u : State) : Type 0 where
  pub mem : (b : ℕ) → (b < stack_start) ⊎ (bound ≤ b) → IsBeside q o n (At b) → u.mem b ≡ t.mem b
  pub bank : (i : ℕ) → i < 6 → IsBeside q o n (Banked (length a.behind) i) → t.zp (20 + i) ≡ u.zp (20 + i)
  pub pushed : u.pushed ≡ t.pushed
  pub frames : u.frames ≡ t.frames
  pub input : u.input ≡ t.input
  pub output : u.output ≡ t.output
  pub ended : u.ended ≡ t.ended
  pub bytes : IsBytes u

-- the cells stand there
abbrev pub AreLaid : Placing → Spot → ℕ → ℕ → (ℕ → Cell) → State → Type 0
AreLaid w q o n new u = (i : ℕ) → i < n → CellIs w (new i) (stored_at u q (o + i))

-- ---- the scene

-- of what is in regbank the bytes are the active call's, and among those that its frame takes
abbrev pub IsOwn : Active → Spot → ℕ → ℕ → Type 0
IsOwn a (At at) o n = Unit {0}
IsOwn a (Banked d i) o n = (d ≡ length a.behind) × (i + (o + n) ≤ a.frame.bank)

-- no literal and no const datum has such a byte
abbrev pub IsNoConstant : World → Spot → ℕ → ℕ → Type 0
IsNoConstant g q o n = (at i : ℕ) → q ≡ At at → i < n → g.place.constant (at + (o + i)) ≡ None

-- n cells of a live block may be put from o on
pub record MayPut (g : World) (a : Active) (c : Scene) (w : Placing) (b : ℕ) (x : Block) (q : Spot) (o n : ℕ) : Type 0 where
  pub block : IsAt c.store w b x q
  pub fits : o + n ≤ x.holds
  pub own : IsOwn a q o n
  pub writable : (x.sealed ≡ false) ⊎ IsNoConstant g q o n

-- they are put
abbrev pub with_put : Scene → ℕ → Block → ℕ → ℕ → (ℕ → Cell) → Scene
with_put c b x o n new = with_store c (set_block c.store b (with_cells x o n new))

-- the banks behind the store: the active call has its own in the zero page, and all others stay
pub record AreBanks (a : Active) (k : Banks) (u : State) (later : Banks) : Type 0 where
  pub now : HasBank later (length a.behind) u
  pub others : (d i : ℕ) → (d ≡ length a.behind → ⊥) → later d i ≡ k d i
  pub past : (i : ℕ) → 6 ≤ i → later (length a.behind) i ≡ k (length a.behind) i

abbrev pub banks_in : Active → State → Banks → Banks
banks_in a u k d i = if (d == length a.behind) && nat_lt i 6 then u.zp (20 + i) else k d i

-- ---- waiting bytes that are taken

-- So many bytes that waited are taken off, in another scene: the calls are as before, no block ends or lives again, and each byte from the
-- new sp on that no live block had stays, and no live block has it now; the regbanks of the calls behind stay, and of that of the active
-- call the bytes that its frame does not take.
pub record AreTaken (g : World) (a : Active) (pushed needs count : ℕ) (c : Scene) (w : Placing) (k : Banks) (t : State) (c2 : Scene) (k2 : Banks) (u : State) : Type 0 where
  pub ready : Ready g a pushed needs c2 w k2 u
  pub sp : sp_of u ≡ sp_of t + count
  pub frames : c2.frames ≡ c.frames
  pub next : c2.next ≡ c.next
  pub bounds : (b : ℕ) → bounds_of (c2.store b) ≡ bounds_of (c.store b)
  pub kept : (n : ℕ) → sp_of t + count ≤ n → IsFree c.store w (At n) → (u.mem n ≡ t.mem n) × IsFree c2.store w (At n)
  pub banks : (d i : ℕ) → d < length a.behind → k2 d i ≡ k d i
  pub own_bank : (i : ℕ) → a.frame.bank ≤ i → k2 (length a.behind) i ≡ k (length a.behind) i

-- ---- routines that store

-- AX or EAX at sp and Y, or at sp itself; A, AX or EAX at the address that waits
pub data Storing : Type 0 where
  WordByY : Storing
  WordAtSp : Storing
  LongByY : Storing
  ByteThrough : Storing
  WordThrough : Storing
  LongThrough : Storing

abbrev pub storing_of : Storing → Routine
storing_of WordByY = routines.StAxYSp
storing_of WordAtSp = routines.StAx0Sp
storing_of LongByY = routines.StEaxYSp
storing_of ByteThrough = routines.StATos
storing_of WordThrough = routines.StAxTos
storing_of LongThrough = routines.StEaxTos

abbrev pub stored_size : Storing → ℕ
stored_size WordByY = 2
stored_size WordAtSp = 2
stored_size LongByY = 4
stored_size ByteThrough = 1
stored_size WordThrough = 2
stored_size LongThrough = 4

-- the bytes that wait which it takes
abbrev pub taken_by : Storing → ℕ
taken_by WordByY = 0
taken_by WordAtSp = 0
taken_by LongByY = 0
taken_by ByteThrough = 2
taken_by WordThrough = 2
taken_by LongThrough = 2

-- it stores from this address on
abbrev pub GoesTo : Storing → ℕ → State → Type 0
GoesTo WordByY at t = (at ≡ sp_of t + t.regs.y) × (t.regs.y ≤ 254)
GoesTo WordAtSp at t = at ≡ sp_of t
GoesTo LongByY at t = (at ≡ sp_of t + t.regs.y) × (t.regs.y ≤ 252)
GoesTo ByteThrough at t = at ≡ word_at t.mem (sp_of t)
GoesTo WordThrough at t = at ≡ word_at t.mem (sp_of t)
GoesTo LongThrough at t = at ≡ word_at t.mem (sp_of t)

-- what is stored stays in the registers
abbrev pub Stays : Storing → State → State → Type 0
Stays WordByY t u = ax_of u ≡ ax_of t
Stays WordAtSp t u = ax_of u ≡ ax_of t
Stays LongByY t u = eax_of u ≡ eax_of t
Stays ByteThrough t u = u.regs.a ≡ t.regs.a
Stays WordThrough t u = ax_of u ≡ ax_of t
Stays LongThrough t u = eax_of u ≡ eax_of t

-- the state behind such a routine: the cells are put, the address is taken off, and the value is still there
pub record IsStored (g : World) (a : Active) (pushed needs : ℕ) (c : Scene) (w : Placing) (k : Banks) (store : Storing) (b : ℕ) (x : Block) (o : ℕ) (new : ℕ → Cell) (t u : State) : Type 0 where
  pub taken : AreTaken g a pushed needs (taken_by store) c w k t (with_put c b x o (stored_size store) new) k u
  pub value : Stays store t u
