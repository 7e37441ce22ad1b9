-- What the hooks do. A hook acts where pc is its address, answers in A and X, and returns as RTS does.
-- It leaves Y and the flags alone. The software stack's pointer is read at a zero-page address, sp.
use Rattle.std.specs.Prelude.{ℕ, ◌+◌, ◌*◌, ◌-◌, ◌/◌, ◌%◌, zero, suc, List, [], ◌∷◌, ◌++◌, length}
use Rattle.c65_mach.specs.State.{State, Memory, read, write}
use Rattle.c65_mach.specs.Step.{after, word_at, returned}

-- an address so many bytes below another
abbrev pub below : ℕ → ℕ → ℕ
below at count = (at + 65536 - count) % 65536

-- memory with a word at this address, low byte first
abbrev pub put_word : Memory → ℕ → ℕ → Memory
put_word mem at v = write (write mem at (v % 256)) (after at 1) (v / 256)

-- memory with these bytes from an address on
abbrev pub put_bytes : Memory → ℕ → List ℕ → Memory
put_bytes mem at [] = mem
put_bytes mem at (byte ∷ bytes) = put_bytes (write mem at byte) (after at 1) bytes

-- so many bytes of memory from an address on
abbrev pub bytes_from : Memory → ℕ → ℕ → List ℕ
bytes_from mem at zero = []
bytes_from mem at (suc count) = read mem at ∷ bytes_from mem (after at 1) count

-- the word in A and X
abbrev pub ax : State → ℕ
ax m = m.regs.a + 256 * m.regs.x

-- a word answered in A and X, and the return
abbrev pub hooked : ℕ → State → State
hooked answer m = returned 1 (record m { regs = record m.regs { a = answer % 256; x = answer / 256 } })

-- what a hook answers that refuses: -1
abbrev pub refused : ℕ
refused = 65535

-- so many bytes leave the software stack
abbrev pub popped : ℕ → ℕ → State → State
popped sp count m = record m { mem = put_word m.mem sp (after (word_at m.mem sp) count) }

-- the two words on the software stack that `read` and `write` take: the buffer, and then the descriptor
abbrev pub buffer_of : ℕ → State → ℕ
buffer_of sp m = word_at m.mem (word_at m.mem sp)

abbrev pub descriptor_of : ℕ → State → ℕ
descriptor_of sp m = word_at m.mem (after (word_at m.mem sp) 2)

abbrev pub opened : ℕ → State → State
opened sp m = hooked refused (popped sp m.regs.y m)

abbrev pub closed : State → State
closed m = hooked refused m

-- `read` with these bytes: they go to the buffer, once the buffer and the descriptor are popped
abbrev pub read_into : ℕ → List ℕ → State → State
read_into sp bytes m =
    let u = popped sp 4 m in
    hooked (length bytes) (record u { mem = put_bytes u.mem (buffer_of sp m) bytes })

-- `read` and `write` of another descriptor than theirs
abbrev pub not_served : ℕ → State → State
not_served sp m = hooked refused (popped sp 4 m)

-- `write`, whose bytes are those of the buffer once it and the descriptor are popped
abbrev pub bytes_to_write : ℕ → State → List ℕ
bytes_to_write sp m = bytes_from (popped sp 4 m).mem (buffer_of sp m) (ax m)

abbrev pub written : ℕ → State → State
written sp m = hooked (ax m) (popped sp 4 m)

-- Arguments, each laid below the one before with a zero byte behind it, and its address in the list, which 0 ends.
-- With the memory stands the lowest address that was taken.
abbrev pub laid_args : List (List ℕ) → ℕ → ℕ → Memory → Memory × ℕ
laid_args [] at lowest mem = (put_word mem at 0, lowest)
laid_args (arg ∷ args) at lowest mem =
    let start = below lowest (length arg + 1) in
    laid_args args (after at 2) start (put_word (put_bytes mem start (arg ++ 0 ∷ [])) at start)

-- `args`: the list and then the arguments on the software stack, and the list's address at the pointer that A and X name
abbrev pub given_args : ℕ → List (List ℕ) → State → State
given_args sp args m =
    let list = below (word_at m.mem sp) (2 * (length args + 1)) in
    let laid = laid_args args list list m.mem in
    hooked (length args) (record m { mem = put_word (put_word laid.0 sp laid.1) (ax m) list })
