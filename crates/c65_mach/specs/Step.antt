-- One row of a run, on whole numbers (MCS6500 Programming Manual; decimal mode by this project's own formulas). What the 65C02
-- adds to the 6502 is said beside it.
use Rattle.std.specs.Prelude.{◌≡◌, ℕ, ◌+◌, ◌-◌, ◌*◌, ◌/◌, ◌%◌, Bool, true, false, Option, Some, None, Result, Ok, Err, if◌then◌else◌, ◌==◌, ◌&&◌, nat_lt, bit_and, bit_or, bit_xor}
use Rattle.c65_base.specs.declared.options.Cpu.{Cpu}
use Rattle.c65_base.specs.declared.options.Cpu.TheVariants.{Nmos, Cmos}
use Rattle.c65_base.specs.declared.refusal.Refusal.{Refusal}
use Rattle.c65_base.specs.declared.refusal.Refusal.TheVariants.{Illegal}
use Rattle.c65_mach.specs.declared.rows.Row.{Row}
use Rattle.c65_mach.specs.declared.rows.Op.{Op}
use Rattle.c65_mach.specs.declared.rows.Op.TheVariants.{Adc, And, Asl, Bcc, Bcs, Beq, Bit, Bmi, Bne, Bpl, Bra, Brk, Bvc, Bvs, Clc, Cld, Cli, Clv, Cmp, Cpx, Cpy, Dec, Dex, Dey, Eor, Inc, Inx, Iny, Jmp, Jsr, Lda, Ldx, Ldy, Lsr, Nop, Ora, Pha, Php, Phx, Phy, Pla, Plp, Plx, Ply, Rol, Ror, Rti, Rts, Sbc, Sec, Sed, Sei, Sta, Stx, Sty, Stz, Tax, Tay, Trb, Tsb, Tsx, Txa, Txs, Tya}
use Rattle.c65_mach.specs.declared.rows.Mode.{Mode}
use Rattle.c65_mach.specs.declared.rows.Mode.TheVariants.{Implied, Accumulator, Immediate, ZeroPage, ZeroPageX, ZeroPageY, Absolute, AbsoluteX, AbsoluteY, IndirectX, IndirectY, Indirect, Relative, ZeroPageIndirect, AbsoluteIndirectX}
use Rattle.c65_mach.specs.State.{Regs, State, Memory, read, write}
use Rattle.c65_mach.specs.Table.{row_for}

-- addresses wrap at 65,536
abbrev pub after : ℕ → ℕ → ℕ
after at count = (at + count) % 65536

abbrev pub word_at : Memory → ℕ → ℕ
word_at m at = read m at + 256 * read m (after at 1)

-- a word of the zero page, whose high byte stays in that page
abbrev pub zero_word : Memory → ℕ → ℕ
zero_word m at = read m at + 256 * read m ((at + 1) % 256)

abbrev pub size_of : Mode → ℕ
size_of Implied = 1
size_of Accumulator = 1
size_of Immediate = 2
size_of ZeroPage = 2
size_of ZeroPageX = 2
size_of ZeroPageY = 2
size_of Absolute = 3
size_of AbsoluteX = 3
size_of AbsoluteY = 3
size_of IndirectX = 2
size_of IndirectY = 2
size_of Indirect = 3
size_of Relative = 2
size_of ZeroPageIndirect = 2
size_of AbsoluteIndirectX = 3

-- an address, and whether an index led it into another page
abbrev pub Place : Type 0
Place = ℕ × Bool

abbrev pub direct : ℕ → Place
direct at = (at, false)

abbrev pub indexed : ℕ → ℕ → Place
indexed base index = (after base index, nat_lt 255 (base % 256 + index))

-- where the word of an indirect jump has its high byte: behind its low byte, but the 6502 stays in the page
abbrev pub jump_next : Cpu → ℕ → ℕ
jump_next Nmos at = if at % 256 == 255 then at - 255 else after at 1
jump_next Cmos at = after at 1

abbrev pub branched : ℕ → ℕ → ℕ
branched next offset = after next (if nat_lt offset 128 then offset else 65280 + offset)

-- where the operand of the instruction at pc is
abbrev pub place_of : Mode → State → Place
place_of Implied t = direct 0
place_of Accumulator t = direct 0
place_of Immediate t = direct (after t.pc 1)
place_of ZeroPage t = direct (read t.mem (after t.pc 1))
place_of ZeroPageX t = direct ((read t.mem (after t.pc 1) + t.regs.x) % 256)
place_of ZeroPageY t = direct ((read t.mem (after t.pc 1) + t.regs.y) % 256)
place_of Absolute t = direct (word_at t.mem (after t.pc 1))
place_of AbsoluteX t = indexed (word_at t.mem (after t.pc 1)) t.regs.x
place_of AbsoluteY t = indexed (word_at t.mem (after t.pc 1)) t.regs.y
place_of IndirectX t = direct (zero_word t.mem ((read t.mem (after t.pc 1) + t.regs.x) % 256))
place_of IndirectY t = indexed (zero_word t.mem (read t.mem (after t.pc 1))) t.regs.y
place_of Indirect t = let at = word_at t.mem (after t.pc 1) in direct (read t.mem at + 256 * read t.mem (jump_next t.cpu at))
place_of Relative t = let next = after t.pc 2 in let to = branched next (read t.mem (after t.pc 1)) in (to, if next / 256 == to / 256 then false else true)
place_of ZeroPageIndirect t = direct (zero_word t.mem (read t.mem (after t.pc 1)))
place_of AbsoluteIndirectX t = direct (word_at t.mem (after (word_at t.mem (after t.pc 1)) t.regs.x))

abbrev pub negative : ℕ → Bool
negative v = nat_lt 127 v

abbrev pub bit : Bool → ℕ
bit b = if b then 1 else 0

abbrev pub signed : ℕ → Regs → Regs
signed v r = record r { n = negative v; z = v == 0 }

abbrev pub with_a : ℕ → Regs → Regs
with_a v r = record r { a = v; n = negative v; z = v == 0 }

abbrev pub with_x : ℕ → Regs → Regs
with_x v r = record r { x = v; n = negative v; z = v == 0 }

abbrev pub with_y : ℕ → Regs → Regs
with_y v r = record r { y = v; n = negative v; z = v == 0 }

abbrev pub compared : ℕ → ℕ → Regs → Regs
compared reg v r = let d = (reg + 256 - v) % 256 in record r { n = negative d; z = d == 0; c = nat_lt v (reg + 1) }

-- the sum in binary; V tells that both addends have one sign and the sum the other
abbrev pub summed : ℕ → Regs → Regs
summed v r =
    let sum = r.a + v + bit r.c in let low = sum % 256 in
    record r { a = low; n = negative low; v = negative (bit_and (bit_xor r.a low) (bit_xor v low)); z = low == 0; c = nat_lt 255 sum }

-- the sum in decimal mode; N, V and Z are those of the binary sum
abbrev pub decimal_low : ℕ → ℕ
decimal_low low = if nat_lt 9 low then (low + 6) % 16 + 16 else low

abbrev pub decimal_carry : ℕ → ℕ
decimal_carry sum = if nat_lt 159 sum then sum + 96 else sum

abbrev pub decimal_sum : ℕ → ℕ → Bool → ℕ
decimal_sum a v c = decimal_carry (16 * (a / 16) + 16 * (v / 16) + decimal_low (a % 16 + v % 16 + bit c))

abbrev pub added : Bool → ℕ → Regs → Regs
added d v r = let sum = decimal_sum r.a v r.c in if d then record (summed v r) { a = sum % 256; c = nat_lt 255 sum } else summed v r

-- the difference in decimal mode: 16 is added to the low digits and 512 to the whole, so that no number is below 0
abbrev pub decimal_borrow : ℕ → ℕ
decimal_borrow low = if nat_lt low 16 then (low + 10) % 16 else low

abbrev pub decimal_lend : ℕ → ℕ
decimal_lend sum = if nat_lt sum 512 then (sum - 96) % 256 else sum % 256

abbrev pub decimal_difference : ℕ → ℕ → Bool → ℕ
decimal_difference a v c = decimal_lend (496 + 16 * (a / 16) + decimal_borrow (15 + a % 16 + bit c - v % 16) - 16 * (v / 16))

abbrev pub subtracted : Bool → ℕ → Regs → Regs
subtracted d v r = let binary = summed (255 - v) r in if d then record binary { a = decimal_difference r.a v r.c } else binary

abbrev pub bits_tested : ℕ → Regs → Regs
bits_tested v r = record r { n = negative v; v = (v / 64) % 2 == 1; z = bit_and r.a v == 0 }

-- What the operations mean on the registers; d is the decimal flag. An operation that reads takes the operand; one on registers alone takes none.
abbrev pub apply : Bool → Op → ℕ → Regs → Regs
apply d Adc v r = added d v r
apply d And v r = with_a (bit_and r.a v) r
apply d Bit v r = bits_tested v r
apply d Cmp v r = compared r.a v r
apply d Cpx v r = compared r.x v r
apply d Cpy v r = compared r.y v r
apply d Eor v r = with_a (bit_xor r.a v) r
apply d Lda v r = with_a v r
apply d Ldx v r = with_x v r
apply d Ldy v r = with_y v r
apply d Ora v r = with_a (bit_or r.a v) r
apply d Sbc v r = subtracted d v r
apply d Clc v r = record r { c = false }
apply d Clv v r = record r { v = false }
apply d Dex v r = with_x ((r.x + 255) % 256) r
apply d Dey v r = with_y ((r.y + 255) % 256) r
apply d Inx v r = with_x ((r.x + 1) % 256) r
apply d Iny v r = with_y ((r.y + 1) % 256) r
apply d Sec v r = record r { c = true }
apply d Tax v r = with_x r.a r
apply d Tay v r = with_y r.a r
apply d Txa v r = with_a r.x r
apply d Tya v r = with_a r.y r
apply d _ v r = r

-- what a store stores
abbrev pub stored : Op → Regs → ℕ
stored Stx r = r.x
stored Sty r = r.y
stored Stz r = 0
stored _ r = r.a

-- what an operation makes of its operand, and the carry after it
abbrev pub changed : Op → ℕ → Regs → ℕ × Bool
changed Asl v r = ((2 * v) % 256, negative v)
changed Rol v r = ((2 * v) % 256 + bit r.c, negative v)
changed Lsr v r = (v / 2, v % 2 == 1)
changed Ror v r = (v / 2 + 128 * bit r.c, v % 2 == 1)
changed Inc v r = ((v + 1) % 256, r.c)
changed _ v r = ((v + 255) % 256, r.c)

abbrev pub is_not : Bool → Bool
is_not b = if b then false else true

abbrev pub is_taken : Op → Regs → Bool
is_taken Bcc r = is_not r.c
is_taken Bcs r = r.c
is_taken Beq r = r.z
is_taken Bmi r = r.n
is_taken Bne r = is_not r.z
is_taken Bpl r = is_not r.n
is_taken Bra r = true
is_taken Bvc r = is_not r.v
is_taken _ r = r.v

abbrev pub push : ℕ → State → State
push v t = record t { s = (t.s + 255) % 256; mem = write t.mem (256 + t.s) v }

abbrev pub push_word : ℕ → State → State
push_word v t = push (v % 256) (push (v / 256) t)

abbrev pub pulled : State → ℕ
pulled t = read t.mem (256 + (t.s + 1) % 256)

abbrev pub dropped : State → State
dropped t = record t { s = (t.s + 1) % 256 }

abbrev pub pulled_word : State → ℕ
pulled_word t = read t.mem (256 + (t.s + 1) % 256) + 256 * read t.mem (256 + (t.s + 2) % 256)

abbrev pub returned : ℕ → State → State
returned more t = record t { s = (t.s + 2) % 256; pc = after (pulled_word t) more }

abbrev pub packed : State → ℕ
packed t = 128 * bit t.regs.n + 64 * bit t.regs.v + 48 + 8 * bit t.d + 4 * bit t.i + 2 * bit t.regs.z + bit t.regs.c

abbrev pub unpacked : ℕ → State → State
unpacked p t = record t { regs = record t.regs { n = negative p; v = (p / 64) % 2 == 1; z = (p / 2) % 2 == 1; c = p % 2 == 1 }; d = (p / 8) % 2 == 1; i = (p / 4) % 2 == 1 }

abbrev pub flags_pulled : State → State
flags_pulled t = unpacked (pulled t) (dropped t)

abbrev pub called : ℕ → State → State
called at t = record (push_word (after t.pc 65535) t) { pc = at }

abbrev pub broken : State → State
broken t = let u = push (packed t) (push_word (after t.pc 1) t) in record u { i = true; pc = word_at t.mem 65534 }

-- the operand is a byte of memory, or for the shifts A
abbrev pub change : Op → Mode → ℕ → State → State
change op Accumulator at t = let to = changed op t.regs.a t.regs in record t { regs = record (with_a to.0 t.regs) { c = to.1 } }
change op _ at t = let to = changed op (read t.mem at) t.regs in record t { regs = record (signed to.0 t.regs) { c = to.1 }; mem = write t.mem at to.0 }

abbrev pub branch : Bool → ℕ → State → State
branch taken at t = if taken then record t { pc = at } else t

pub data Kind : Type 0 where
  Reads : Kind
  Stores : Kind
  Changes : Kind
  Branches : Kind
  Registers : Kind
  Moves : Kind

abbrev pub kind_of : Op → Kind
kind_of Adc = Reads
kind_of And = Reads
kind_of Asl = Changes
kind_of Bcc = Branches
kind_of Bcs = Branches
kind_of Beq = Branches
kind_of Bit = Reads
kind_of Bmi = Branches
kind_of Bne = Branches
kind_of Bpl = Branches
kind_of Bra = Branches
kind_of Brk = Moves
kind_of Bvc = Branches
kind_of Bvs = Branches
kind_of Clc = Registers
kind_of Cld = Moves
kind_of Cli = Moves
kind_of Clv = Registers
kind_of Cmp = Reads
kind_of Cpx = Reads
kind_of Cpy = Reads
kind_of Dec = Changes
kind_of Dex = Registers
kind_of Dey = Registers
kind_of Eor = Reads
kind_of Inc = Changes
kind_of Inx = Registers
kind_of Iny = Registers
kind_of Jmp = Moves
kind_of Jsr = Moves
kind_of Lda = Reads
kind_of Ldx = Reads
kind_of Ldy = Reads
kind_of Lsr = Changes
kind_of Nop = Registers
kind_of Ora = Reads
kind_of Pha = Moves
kind_of Php = Moves
kind_of Phx = Moves
kind_of Phy = Moves
kind_of Pla = Moves
kind_of Plp = Moves
kind_of Plx = Moves
kind_of Ply = Moves
kind_of Rol = Changes
kind_of Ror = Changes
kind_of Rti = Moves
kind_of Rts = Moves
kind_of Sbc = Reads
kind_of Sec = Registers
kind_of Sed = Moves
kind_of Sei = Moves
kind_of Sta = Stores
kind_of Stx = Stores
kind_of Sty = Stores
kind_of Stz = Stores
kind_of Tax = Registers
kind_of Tay = Registers
kind_of Trb = Moves
kind_of Tsb = Moves
kind_of Tsx = Moves
kind_of Txa = Registers
kind_of Txs = Moves
kind_of Tya = Registers

-- TSB and TRB: Z tells whether A and the byte share no bit, and the byte is changed
abbrev pub marked : ℕ → ℕ → State → State
marked at to t = record t { regs = record t.regs { z = bit_and t.regs.a (read t.mem at) == 0 }; mem = write t.mem at to }

-- the operations on other parts: pc, the stack, the flags D and I, and bits of memory
abbrev pub moved : Op → ℕ → State → State
moved Brk at t = broken t
moved Jsr at t = called at t
moved Pha at t = push t.regs.a t
moved Php at t = push (packed t) t
moved Phx at t = push t.regs.x t
moved Phy at t = push t.regs.y t
moved Pla at t = let u = dropped t in record u { regs = with_a (pulled t) u.regs }
moved Plp at t = flags_pulled t
moved Plx at t = let u = dropped t in record u { regs = with_x (pulled t) u.regs }
moved Ply at t = let u = dropped t in record u { regs = with_y (pulled t) u.regs }
moved Rti at t = returned 0 (flags_pulled t)
moved Rts at t = returned 1 t
moved Cld at t = record t { d = false }
moved Cli at t = record t { i = false }
moved Sed at t = record t { d = true }
moved Sei at t = record t { i = true }
moved Trb at t = marked at (bit_and (read t.mem at) (255 - t.regs.a)) t
moved Tsb at t = marked at (bit_or (read t.mem at) t.regs.a) t
moved Tsx at t = record t { regs = with_x t.s t.regs }
moved Txs at t = record t { s = t.regs.x }
moved _ at t = record t { pc = at }

-- what an operation that reads makes of its operand: BIT with a number sets Z alone
abbrev pub read_by : Op → Mode → Bool → ℕ → Regs → Regs
read_by Bit Immediate d v r = record r { z = bit_and r.a v == 0 }
read_by op mode d v r = apply d op v r

abbrev pub act_by : Kind → Op → Mode → ℕ → State → State
act_by Reads op mode at t = record t { regs = read_by op mode t.d (read t.mem at) t.regs }
act_by Stores op mode at t = record t { mem = write t.mem at (stored op t.regs) }
act_by Changes op mode at t = change op mode at t
act_by Branches op mode at t = branch (is_taken op t.regs) at t
act_by Registers op mode at t = record t { regs = apply t.d op 0 t.regs }
act_by Moves op mode at t = moved op at t

-- what an operation does, once pc is at the next instruction
abbrev pub act : Op → Mode → ℕ → State → State
act op mode at t = act_by (kind_of op) op mode at t

-- a row at pc
abbrev pub done : Row → State → State
done row t = act row.op row.mode (place_of row.mode t).0 (record t { pc = after t.pc (size_of row.mode) })

-- One more cycle for another page. A branch that is taken has one more, and one for another page; BRA, which is always taken,
-- has the first in its row.
abbrev pub more_cycles : Mode → Op → Bool → Bool → Regs → ℕ
more_cycles Relative Bra page crosses r = bit crosses
more_cycles Relative op page crosses r = if is_taken op r then 1 + bit crosses else 0
more_cycles _ op page crosses r = bit (page && crosses)

-- the cycles of a row
abbrev pub cycles_of : Row → State → ℕ
cycles_of row t = row.cycles + more_cycles row.mode row.op row.page (place_of row.mode t).1 t.regs

abbrev pub row_at : State → Option Row
row_at t = row_for t.cpu (read t.mem t.pc)

abbrev pub step_by : Option Row → State → Option State
step_by None t = None
step_by (Some row) t = Some (done row t)

abbrev pub step : State → Option State
step t = step_by (row_at t) t

-- The row at pc is done and answers its cycles. A byte without a row is refused, and nothing is done.
abbrev pub Steps : Option Row → State → State → Result ℕ Refusal → Type 0
Steps None old new result = (new ≡ old) × (result ≡ Err (Illegal old.pc))
Steps (Some row) old new result = (new ≡ done row old) × (result ≡ Ok (cycles_of row old))

-- how many bytes an operation pushes
abbrev pub pushes : Op → ℕ
pushes Brk = 3
pushes Jsr = 2
pushes Pha = 1
pushes Php = 1
pushes Phx = 1
pushes Phy = 1
pushes _ = 0
