-- What each routine of the runtime does (docs/MACHINE.md, "Routines"): a row of numbers, computed from the state before,
-- and one relation that gives every row its meaning.
use Rattle.std.specs.Prelude.{◌≡◌, ℕ, ◌+◌, ◌-◌, ◌*◌, ◌/◌, ◌%◌, ◌<◌, ◌≤◌, ◌⊎◌, Bool, true, false, ◌||◌, if◌then◌else◌, nat_lt, nat_le, List, [], ◌∷◌, ◌++◌, Option, Some, None, length, drop, map, max}
use Rattle.std.specs.List.{flat_map}
use Rattle.c65_code.specs.declared.parts.Part.{Part}
use Rattle.c65_code.specs.declared.parts.RegSet.{RegSet}
use Rattle.c65_code.specs.declared.routine.Count.{Count}
use Rattle.c65_code.specs.declared.routine.Count.TheVariants.{One, Two, Three, Four, Five, Six, Seven, Eight}
use Rattle.c65_code.specs.declared.routine.Width.{Width}
use Rattle.c65_code.specs.declared.routine.Width.TheVariants.{Ax, Eax}
use Rattle.c65_code.specs.declared.routine.TosOp.{TosOp}
use Rattle.c65_code.specs.declared.routine.TosOp.TheVariants as tos
use Rattle.c65_code.specs.declared.routine.UnaryRoutine.{UnaryRoutine}
use Rattle.c65_base.specs.declared.library.Library.{Library}
use Rattle.c65_base.specs.declared.library.Library.TheVariants.{Putchar, Getchar, Puts, Exit, Memcpy, Memset, Strcmp, Strcpy, Strlen, Printf}
use Rattle.c65_base.specs.Formats.{text_by, pointers_by, taken_by}
use Rattle.c65_code.specs.declared.routine.Routine.{Routine}
use Rattle.c65_code.specs.declared.routine.Routine.TheVariants as routines
use Rattle.c65_code.specs.Parts.{has_part, union_of}
use Rattle.c65_code.specs.Effects.{only_a, routine_sets}
use Rattle.c65_code.specs.Numbers.{tos_result, result_width, unary_result, unary_width}
use Rattle.c65_code.specs.Texts.{bytes_at, range_of, filled, listed, copied, text_length, text_at, text_range, copy_length, common_length, difference}
use Rattle.c65_code.specs.LineState.{Bytes, write, word_at, State, sp_of, s_of, sreg_of, ax_of, eax_of, zero_word, Same}

-- A row. `None` for a result leaves it open. `near` are the addresses that the routine counts from the sp, `far` those that
-- it takes from elsewhere; of these it reads or writes the bytes. `room` is how far below the sp it may leave other bytes.
pub record Row : Type 0 where
  -- whether Y is as the routine needs it
  pub ready : Bool
  pub sp : ℕ
  pub a : Option ℕ
  pub x : Option ℕ
  pub sreg : Option ℕ
  -- ptr1 and ptr2
  pub pointers : Option (ℕ × ℕ)
  -- regbank, by its bytes from 0
  pub bank : Option (List ℕ)
  pub writes : List (ℕ × ℕ)
  pub near : List ℕ
  pub far : List ℕ
  -- how many bytes of the input it takes, what it writes, and the status with which it ends the run
  pub taken : ℕ
  pub out : List ℕ
  pub ends : Option ℕ
  pub room : ℕ
  -- from where on the row says each byte of memory: a push says what it pushed, and the room that `decsp` makes is open
  pub settled : ℕ
  -- what it may change at all
  pub changes : RegSet
  -- how many instructions it takes at most
  pub cost : ℕ

abbrev pub written : Bytes → List (ℕ × ℕ) → Bytes
written m [] = m
written m (w ∷ ws) = written (write m w.0 w.1) ws

abbrev pub Gives : Option ℕ → ℕ → Type 0
Gives None v = Unit {0}
Gives (Some w) v = v ≡ w

abbrev pub GivesPointers : Option (ℕ × ℕ) → Bytes → Type 0
GivesPointers None zp = Unit {0}
GivesPointers (Some w) zp = (zp 8 + 256 * zp 9 ≡ w.0) × (zp 10 + 256 * zp 11 ≡ w.1)

-- the bytes from an address of the zero page on
abbrev pub GivesBytes : ℕ → List ℕ → Bytes → Type 0
GivesBytes at [] zp = Unit {0}
GivesBytes at (v ∷ vs) zp = (zp at ≡ v) × GivesBytes (at + 1) vs zp

abbrev pub GivesBank : Option (List ℕ) → Bytes → Type 0
GivesBank None zp = Unit {0}
GivesBank (Some vs) zp = GivesBytes 20 vs zp

-- The state after a routine. What its row leaves open may be anything; below the old sp memory may be, down to the row's room.
pub record Meets (r : Row) (t u : State) : Type 0 where
  pub sp : sp_of u ≡ r.sp
  pub a : Gives r.a u.regs.a
  pub x : Gives r.x u.regs.x
  pub sreg : Gives r.sreg (sreg_of u)
  pub pointers : GivesPointers r.pointers u.zp
  pub bank : GivesBank r.bank u.zp
  pub kept : (p : Part) → has_part r.changes p ≡ false → Same p t u
  pub high : (i : ℕ) → 26 ≤ i → t.zp i ≡ u.zp i
  pub mem : (b : ℕ) → (b + r.room < sp_of t) ⊎ ((sp_of t ≤ b) ⊎ (r.settled ≤ b)) → u.mem b ≡ written t.mem r.writes b
  pub pushed : u.pushed ≡ t.pushed
  pub frames : u.frames ≡ t.frames
  pub input : u.input ≡ drop r.taken t.input
  pub output : u.output ≡ t.output ++ r.out
  pub ended : u.ended ≡ r.ends

-- a row of the first group that gives nothing and keeps sp, to be changed field by field
abbrev pub row_by : Routine → State → Row
row_by r t = record { ready = true; sp = sp_of t; a = None; x = None; sreg = None; pointers = None; bank = None; writes = []; near = []; far = []; taken = 0; out = []; ends = None; room = 64; settled = sp_of t; changes = routine_sets r; cost = 32 }

abbrev pub low_byte : ℕ → ℕ
low_byte v = v % 256

abbrev pub high_byte : ℕ → ℕ
high_byte v = v / 256 % 256

abbrev pub upper_word : ℕ → ℕ
upper_word v = v / 65536

abbrev pub long_at : Bytes → ℕ → ℕ
long_at m at = word_at m at + 65536 * word_at m (at + 2)

abbrev pub number_at : Width → Bytes → ℕ → ℕ
number_at Ax m at = word_at m at
number_at Eax m at = long_at m at

abbrev pub size_of : Width → ℕ
size_of Ax = 2
size_of Eax = 4

abbrev pub primary_of : Width → State → ℕ
primary_of Ax t = ax_of t
primary_of Eax t = eax_of t

abbrev pub word_bytes : ℕ → List ℕ
word_bytes v = low_byte v ∷ high_byte v ∷ []

abbrev pub number_of : Count → ℕ
number_of One = 1
number_of Two = 2
number_of Three = 3
number_of Four = 4
number_of Five = 5
number_of Six = 6
number_of Seven = 7
number_of Eight = 8

-- A, X and sreg as they were
abbrev pub keeping : State → Row → Row
keeping t row = record row { a = Some t.regs.a; x = Some t.regs.x; sreg = Some (sreg_of t) }

-- a result of 16 or 32 bits
abbrev pub giving : Width → ℕ → Row → Row
giving Ax v row = record row { a = Some (low_byte v); x = Some (high_byte v) }
giving Eax v row = record row { a = Some (low_byte v); x = Some (high_byte v); sreg = Some (upper_word v) }

abbrev pub giving_if : Width → Option ℕ → Row → Row
giving_if width None row = row
giving_if width (Some v) row = giving width v row

-- bytes pushed, popped, read and written at addresses counted from the sp
abbrev pub pushing : List ℕ → State → Row → Row
pushing bytes t row = let at = sp_of t - length bytes in record row { sp = at; settled = at; writes = listed bytes at; near = range_of (length bytes) at }

abbrev pub popping : ℕ → State → Row → Row
popping count t row = record row { sp = sp_of t + count; near = range_of count (sp_of t) }

abbrev pub reading : ℕ → ℕ → Row → Row
reading count at row = record row { near = range_of count at }

abbrev pub storing : List ℕ → ℕ → Row → Row
storing bytes at row = record row { writes = listed bytes at; near = range_of (length bytes) at }

abbrev pub needing : Bool → Row → Row
needing ready row = record row { ready = ready }

-- bytes read and written elsewhere
abbrev pub far_reading : ℕ → ℕ → Row → Row
far_reading count at row = record row { far = range_of count at }

abbrev pub far_storing : List ℕ → ℕ → Row → Row
far_storing bytes at row = record row { writes = listed bytes at; far = range_of (length bytes) at }

abbrev pub costing : ℕ → Row → Row
costing cost row = record row { cost = cost }

-- the cost of what goes byte by byte: 64 for each byte that is read or written elsewhere
abbrev pub by_bytes : Row → Row
by_bytes row = record row { cost = 256 + 64 * length row.far }

-- the rows of the first group
abbrev pub sp_row : Routine → ℕ → State → Row
sp_row r sp t = keeping t (record (row_by r t) { sp = sp })

abbrev pub push_row : Routine → List ℕ → State → Row
push_row r bytes t = keeping t (pushing bytes t (row_by r t))

-- what an operator costs
abbrev pub tos_cost : TosOp → ℕ
tos_cost tos.Mul = 2048
tos_cost tos.Div = 2048
tos_cost tos.Mod = 2048
tos_cost tos.UDiv = 2048
tos_cost tos.UMod = 2048
tos_cost tos.Shl = 512
tos_cost tos.Shr = 512
tos_cost tos.Asr = 512
tos_cost _ = 256

-- an operator: TOS is popped, and the result is open where it has none
abbrev pub tos_row : TosOp → Width → State → Row
tos_row op width t = giving_if (result_width op width) (tos_result op width (number_at width t.mem (sp_of t)) (primary_of width t)) (costing (tos_cost op) (popping (size_of width) t (row_by (routines.Tos op width) t)))

abbrev pub unary_row : UnaryRoutine → Width → State → Row
unary_row op width t = giving (unary_width op width) (unary_result op width (primary_of width t)) (costing 256 (row_by (routines.Unary op width) t))

-- a store at address TOS
abbrev pub store_row : Routine → List ℕ → State → Row
store_row r bytes t = costing 256 (far_storing bytes (word_at t.mem (sp_of t)) (popping 2 t (row_by r t)))

-- a copy of so many bytes, which gives where it went to
abbrev pub copy_row : Routine → ℕ → ℕ → ℕ → ℕ → State → Row
copy_row r count to from popped t = by_bytes (giving Ax to (record (popping popped t (row_by r t)) { writes = copied count to from t.mem; far = range_of count from ++ range_of count to }))

-- the character that is read, or -1 at the end of the input
abbrev pub read_row : List ℕ → State → Row → Row
read_row [] t row = giving Ax 65535 row
read_row (v ∷ input) t row = record (giving Ax v row) { taken = 1 }

abbrev pub compare_row : ℕ → ℕ → State → Row → Row
compare_row a b t row =
    let same = common_length a b t.mem in
    by_bytes (giving Ax (difference (t.mem (a + same)) (t.mem (b + same))) (record row { far = range_of (same + 1) a ++ range_of (same + 1) b }))

-- `printf` (C90 7.9.6.1): Y bytes of arguments lie at the sp, and the last word of them is the format's address. It takes them
-- off, and gives the number of bytes that it writes.
abbrev pub format_at : State → ℕ
format_at t = word_at t.mem (sp_of t + t.regs.y - 2)

abbrev pub format_of : State → List ℕ
format_of t = text_at (format_at t) t.mem

abbrev pub block_of : State → List ℕ
block_of t = bytes_at (t.regs.y - 2) (sp_of t) t.mem

-- where the texts among its arguments are
abbrev pub places_of : State → List ℕ
places_of t = pointers_by (format_of t) (block_of t)

abbrev pub printed_of : State → Option (List ℕ)
printed_of t = text_by (format_of t) (block_of t) (map (λ at. text_at at t.mem) (places_of t))

-- it takes 3,072 for each byte of arguments, and each that is read elsewhere or written
abbrev pub by_printed : State → List ℕ → Row → Row
by_printed t text row = record row { cost = 1024 + 3072 * (length row.far + (taken_by (format_of t) + length text)) }

abbrev pub print_row : State → Option (List ℕ) → Row → Row
print_row t None row = needing false row
print_row t (Some text) row = by_printed t text (needing (nat_le 2 t.regs.y) (giving Ax (length text) (record (popping t.regs.y t row) {
  sp = (sp_of t + t.regs.y) % 65536;
  out = text;
  far = text_range (format_at t) t.mem ++ flat_map (λ at. text_range at t.mem) (places_of t);
})))

-- the functions of the library (C90 7.9.6, 7.9.7, 7.10.4, 7.11): where they are not variadic, the last argument is in AX, and the
-- others are popped
abbrev pub library_row : Library → State → Row → Row
library_row Putchar t row = record (giving Ax t.regs.a row) { out = t.regs.a ∷ [] }
library_row Getchar t row = read_row t.input t row
library_row Puts t row = let count = text_length (ax_of t) t.mem in by_bytes (giving Ax 0 (record row { out = bytes_at count (ax_of t) t.mem ++ 10 ∷ []; far = range_of (count + 1) (ax_of t) }))
library_row Exit t row = record row { ends = Some t.regs.a }
library_row Memcpy t row = copy_row (routines.Library Memcpy) (ax_of t) (word_at t.mem (sp_of t + 2)) (word_at t.mem (sp_of t)) 4 t
library_row Memset t row = let to = word_at t.mem (sp_of t + 2) in by_bytes (giving Ax to (record (popping 4 t row) { writes = filled (ax_of t) to (t.mem (sp_of t)); far = range_of (ax_of t) to }))
library_row Strcmp t row = compare_row (word_at t.mem (sp_of t)) (ax_of t) t (popping 2 t row)
library_row Strcpy t row = let to = word_at t.mem (sp_of t) in copy_row (routines.Library Strcpy) (copy_length to (ax_of t) t.mem + 1) to (ax_of t) 2 t
library_row Strlen t row = let count = text_length (ax_of t) t.mem in by_bytes (giving Ax count (far_reading (count + 1) (ax_of t) row))
library_row Printf t row = print_row t (printed_of t) row

-- the bytes of regbank
abbrev pub bank_of : State → List ℕ
bank_of t = bytes_at 6 20 t.zp

-- The check of the stacks at a function's entry. Too little is left of the software stack where sp would fall below $F830 by
-- the number in tmp3 and tmp4, and of page 1 where S is below 31 before the call.
abbrev pub is_too_deep : State → Bool
is_too_deep t = nat_lt (sp_of t) (63536 + zero_word t 18) || nat_lt (s_of t) 31

-- the run ends there with status 240, which is in A
abbrev pub check_row : Bool → Row → Row
check_row true row = record row { ends = Some 240; changes = union_of row.changes only_a }
check_row false row = row

-- The row of a routine at a state. `callptr4`, `start` and `startargs` do not come back to their caller as routines do, and
-- the hooks are not of the runtime: they have none here.
abbrev pub row_of : Routine → State → Option Row
row_of routines.PushA t = Some (push_row routines.PushA (t.regs.a ∷ []) t)
row_of routines.PushAx t = Some (push_row routines.PushAx (t.regs.a ∷ t.regs.x ∷ []) t)
row_of routines.PushA0 t = Some (record (push_row routines.PushA0 (t.regs.a ∷ 0 ∷ []) t) { x = Some 0 })
row_of routines.Push0 t = Some (record (push_row routines.Push0 (0 ∷ 0 ∷ []) t) { a = Some 0; x = Some 0 })
row_of routines.PushEax t = Some (push_row routines.PushEax (t.regs.a ∷ t.regs.x ∷ t.zp 2 ∷ t.zp 3 ∷ []) t)
row_of routines.PopA t = Some (record (keeping t (popping 1 t (row_by routines.PopA t))) { a = Some (t.mem (sp_of t)) })
row_of routines.PopAx t = Some (giving Ax (word_at t.mem (sp_of t)) (keeping t (popping 2 t (row_by routines.PopAx t))))
row_of routines.PopEax t = Some (giving Eax (long_at t.mem (sp_of t)) (popping 4 t (row_by routines.PopEax t)))
row_of routines.PopPtrs t = Some (record (popping 4 t (row_by routines.PopPtrs t)) { x = Some t.regs.x; sreg = Some (sreg_of t); pointers = Some (word_at t.mem (sp_of t), word_at t.mem (sp_of t + 2)) })
row_of (routines.IncSp count) t = Some (sp_row (routines.IncSp count) (sp_of t + number_of count) t)
row_of (routines.DecSp count) t = Some (sp_row (routines.DecSp count) (sp_of t - number_of count) t)
row_of routines.AddYSp t = Some (sp_row routines.AddYSp ((sp_of t + t.regs.y) % 65536) t)
row_of routines.SubYSp t = Some (record (sp_row routines.SubYSp (sp_of t - t.regs.y) t) { room = max 64 t.regs.y })
row_of routines.LdAxYSp t = let at = sp_of t + t.regs.y - 1 in Some (needing (nat_le 1 t.regs.y) (giving Ax (word_at t.mem at) (keeping t (reading 2 at (row_by routines.LdAxYSp t)))))
row_of routines.LdAx0Sp t = Some (giving Ax (word_at t.mem (sp_of t)) (keeping t (reading 2 (sp_of t) (row_by routines.LdAx0Sp t))))
row_of routines.LdEaxYSp t = let at = sp_of t + t.regs.y - 3 in Some (needing (nat_le 3 t.regs.y) (giving Eax (long_at t.mem at) (reading 4 at (row_by routines.LdEaxYSp t))))
row_of routines.StAxYSp t = Some (needing (nat_le t.regs.y 254) (keeping t (storing (t.regs.a ∷ t.regs.x ∷ []) (sp_of t + t.regs.y) (row_by routines.StAxYSp t))))
row_of routines.StAx0Sp t = Some (keeping t (storing (t.regs.a ∷ t.regs.x ∷ []) (sp_of t) (row_by routines.StAx0Sp t)))
row_of routines.StEaxYSp t = Some (needing (nat_le t.regs.y 252) (keeping t (storing (t.regs.a ∷ t.regs.x ∷ t.zp 2 ∷ t.zp 3 ∷ []) (sp_of t + t.regs.y) (row_by routines.StEaxYSp t))))
row_of routines.LdAi t = Some (costing 256 (giving Ax (t.mem (ax_of t)) (far_reading 1 (ax_of t) (row_by routines.LdAi t))))
row_of routines.LdAxi t = Some (costing 256 (giving Ax (word_at t.mem (ax_of t)) (far_reading 2 (ax_of t) (row_by routines.LdAxi t))))
row_of routines.LdEaxi t = Some (costing 256 (giving Eax (long_at t.mem (ax_of t)) (far_reading 4 (ax_of t) (row_by routines.LdEaxi t))))
row_of routines.StATos t = Some (record (store_row routines.StATos (t.regs.a ∷ []) t) { a = Some t.regs.a })
row_of routines.StAxTos t = Some (record (store_row routines.StAxTos (t.regs.a ∷ t.regs.x ∷ []) t) { a = Some t.regs.a; x = Some t.regs.x })
row_of routines.StEaxTos t = Some (keeping t (store_row routines.StEaxTos (t.regs.a ∷ t.regs.x ∷ t.zp 2 ∷ t.zp 3 ∷ []) t))
row_of routines.CopyTos t = Some (copy_row routines.CopyTos (t.zp 12 + 256 * t.zp 13) (word_at t.mem (sp_of t)) (ax_of t) 2 t)
row_of (routines.Tos op width) t = Some (tos_row op width t)
row_of (routines.Unary op width) t = Some (unary_row op width t)
row_of routines.SignA t = Some (costing 256 (record (row_by routines.SignA t) { a = Some t.regs.a; x = Some (if nat_lt 127 t.regs.a then 255 else 0) }))
row_of routines.LongAx t = Some (costing 256 (record (row_by routines.LongAx t) { a = Some t.regs.a; x = Some t.regs.x; sreg = Some (if nat_lt 127 t.regs.x then 65535 else 0) }))
row_of routines.ULongAx t = Some (costing 256 (record (row_by routines.ULongAx t) { a = Some t.regs.a; x = Some t.regs.x; sreg = Some 0 }))
row_of routines.SaveRegs t = Some (costing 256 (push_row routines.SaveRegs (bank_of t) t))
row_of routines.RestRegs t = Some (costing 256 (record (keeping t (popping 6 t (row_by routines.RestRegs t))) { bank = Some (bytes_at 6 (sp_of t) t.mem) }))
row_of routines.StkChk t = Some (check_row (is_too_deep t) (costing 256 (row_by routines.StkChk t)))
row_of (routines.Library f) t = Some (library_row f t (costing 256 (row_by (routines.Library f) t)))
row_of _ t = None
