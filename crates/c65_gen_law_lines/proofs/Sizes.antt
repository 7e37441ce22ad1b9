-- The bytes of the lines at the entry and the end of functions, and about objects.
use Rattle.std.proofs.Common.{◌≡◌, refl, ℕ, zero, suc, ◌+◌, ◌*◌, ◌/◌, ◌%◌, ◌≤◌, ◌==◌, Bool, true, false, Option, None, Some, ℤ, List, [], ◌∷◌, ◌++◌, length, arith}
use Rattle.std.specs.Prelude.{if◌then◌else◌, nat_lt, nat_le}
use Rattle.std.proofs.lemmas.Bool.{ltb-true}
use Rattle.c65_mach.specs.declared.rows.Op.TheVariants.{Adc, Bne, Clc, Cpy, Dex, Iny, Inc, Lda, Ldx, Ldy, Sta, Stx, Pha, Pla, Rts, Tax, Tay, Txa, Tya, Beq, Cmp, Cpx}
use Rattle.c65_code.specs.declared.line.Line.{Line}
use Rattle.c65_code.specs.declared.line.Line.TheVariants.{Label}
use Rattle.c65_code.specs.declared.routine.Count.{Count}
use Rattle.c65_code.specs.declared.routine.Routine.TheVariants.{PushA, PushAx, PushEax, AddYSp, SaveRegs, RestRegs, LdAxYSp, LdAi, LdAxi}
use Rattle.c65_code.specs.declared.routine.Width.{Width}
use Rattle.c65_code.specs.declared.routine.Width.TheVariants.{Ax, Eax}
use Rattle.c65_code.specs.Weights.{lines_size}
use Rattle.c65_genframe.specs.declared.home.Arrival.{Arrival}
use Rattle.c65_genframe.specs.declared.home.Arrival.TheVariants.{Passed, Pushed, Kept}
use Rattle.c65_genframe.specs.declared.home.Moved.{Moved}
use Rattle.c65_genframe.specs.Frames.{Framed}
use Rattle.c65_ints.specs.declared.types.IntType.{IntType}
use Rattle.c65_genwide.specs.Lines.{value, call}
use Rattle.c65_genwide.specs.Passing.{three_code, pass_bytes}
use Rattle.c65_genentry.specs.Words.{sp, tmp1, tmp2, ptr1, ptr2, regbank, implied, zero_page, by_y, branch}
use Rattle.c65_genentry.specs.Stack.{count_of, raise_by, lower_by, small_raise, small_lower, repeated, raise_code, lower_code}
use Rattle.c65_genentry.specs.Ends.{bank_loads, few_restored, restored_code, plain_end, variadic_end, end_code}
use Rattle.c65_genentry.specs.Entry.{pushed_code, bank_store, kept_code, near_load, far_load, load_code, all_moved, counted_at, counted_store, all_counted, raised_moves, taken_bytes, checked_code, taking_code, entry_code, bank_saves, few_saved, saved_code}
use Rattle.c65_genentry.specs.Pointers as pointers
use Rattle.c65_genentry.specs.Bytes.{pages_code, rest_code, loop_labels, block_code}
use Rattle.c65_genentry.specs.Bytes as blocks
use Rattle.c65_genentry.specs.Choice.{bits_of, byte_of, test_code, case_codes, by_bytes, byte_tests, byte_choice, choice_code}
use Rattle.c65_genload.specs.declared.places.Access.TheVariants.{Whole}
use Rattle.c65_genload.specs.declared.places.Place.TheVariants as places
use Rattle.c65_genload.specs.Stores.{store_code}
use Rattle.c65_genstmt.specs.declared.objects.Spot.{Spot}
use Rattle.c65_genstmt.specs.declared.objects.Spot.TheVariants.{Bank, Soft, Data}
use Rattle.c65_genstmt.specs.Objects.{point_code, stored_code}
use Rattle.c65_genstmt.specs.Functions.{main_code}
use Rattle.c65_gen_law_lines.proofs.Made.{size-append}
use Rattle.c65_gen_law_lines.proofs.Pieces.{store_piece}

-- lines of at most so many bytes
pub record Takes (k : ℕ) (lines : List Line) : Type 0 where
  pub size : lines_size lines ≤ k

pub takes_append : {j k : ℕ} {a b : List Line} → Takes j a → Takes k b → Takes (j + k) (a ++ b)
takes_append {a = a} {b = b} p q = record { size = omega (arith, size-append a b, p.size, q.size) }

pub takes_wider : {j k : ℕ} {a : List Line} → Takes j a → j ≤ k → Takes k a
takes_wider p le = record { size = omega (arith, p.size, le) }

takes_if : {k : ℕ} {x y : List Line} (b : Bool) → Takes k x → Takes k y → Takes k (if b then x else y)
takes_if true p q = p
takes_if false p q = q

takes_none : {k : ℕ} → Takes k []
takes_none = record { size = omega arith }

-- ---- the software stack's pointer

repeated_size : (n : ℕ) (a : List Line) → lines_size a ≤ 5 → Takes (5 * n) (repeated n a)
repeated_size zero a le = record { size = omega arith }
repeated_size (suc n) a le =
    let rest : Takes (5 * n) (repeated n a) = repeated_size n a le in
    record { size = omega (arith, size-append (repeated n a) a, rest.size, le) }

raise_by_size : (n : ℕ) (c : Option Count) → Takes 5 (raise_by n c)
raise_by_size n None = record { size = omega arith }
raise_by_size n (Some c) = record { size = omega arith }

lower_by_size : (n : ℕ) (c : Option Count) → Takes 5 (lower_by n c)
lower_by_size n None = record { size = omega arith }
lower_by_size n (Some c) = record { size = omega arith }

small_raise_size : (n : ℕ) → Takes 5 (small_raise n)
small_raise_size n = takes_if (n == 0) takes_none (raise_by_size n (count_of n))

small_lower_size : (n : ℕ) → Takes 5 (small_lower n)
small_lower_size n = takes_if (n == 0) takes_none (lower_by_size n (count_of n))

raise_size : (n : ℕ) → n ≤ 1025 → Takes 25 (raise_code n)
raise_size n le = takes_wider (takes_append (repeated_size (n / 255) (small_raise 255) (small_raise_size 255).size) (small_raise_size (n % 255))) (omega (arith, le))

lower_size : (n : ℕ) → n ≤ 1025 → Takes 25 (lower_code n)
lower_size n le = takes_wider (takes_append (repeated_size (n / 255) (small_lower 255) (small_lower_size 255).size) (small_lower_size (n % 255))) (omega (arith, le))

-- ---- entry and end

push_size : (bytes : ℕ) → Takes 16 (pass_bytes bytes)
push_size bytes =
    let one : Takes 16 (call PushA ∷ []) = record { size = omega arith } in
    let two : Takes 16 (call PushAx ∷ []) = record { size = omega arith } in
    let three : Takes 16 three_code = record { size = omega arith } in
    let four : Takes 16 (call PushEax ∷ []) = record { size = omega arith } in
    takes_if (nat_lt bytes 2) one (takes_if (nat_lt bytes 3) two (takes_if (nat_lt bytes 4) three four))

pushed_size : (a : Arrival) → Takes 16 (pushed_code a)
pushed_size Passed = takes_none
pushed_size (Pushed bytes) = push_size bytes
pushed_size (Kept bank bytes) = takes_none

bank_store_size : (bank bytes : ℕ) → Takes 4 (bank_store bank bytes)
bank_store_size bank bytes =
    let one : Takes 4 (zero_page Sta ((regbank + bank) % 256) ∷ []) = record { size = omega arith } in
    let two : Takes 4 (zero_page Sta ((regbank + bank) % 256) ∷ zero_page Stx (((regbank + bank) % 256 + 1) % 256) ∷ []) = record { size = omega arith } in
    takes_if (nat_lt bytes 2) one two

kept_size : (a : Arrival) → Takes 4 (kept_code a)
kept_size Passed = takes_none
kept_size (Pushed bytes) = takes_none
kept_size (Kept bank bytes) = bank_store_size bank bytes

near_load_size : (at bytes : ℕ) → Takes 15 (near_load at bytes)
near_load_size at bytes =
    let one : Takes 15 (value Ldy at ∷ by_y Lda sp ∷ []) = record { size = omega arith } in
    let two : Takes 15 (value Ldy (at + 1) ∷ call LdAxYSp ∷ []) = record { size = omega arith } in
    takes_if (nat_lt bytes 2) one two

far_load_size : (at bytes : ℕ) → Takes 15 (far_load at bytes)
far_load_size at bytes =
    let address : Takes 12 (implied Clc ∷ zero_page Lda sp ∷ value Adc (at % 256) ∷ implied Tay ∷ zero_page Lda (sp + 1) ∷ value Adc (at / 256) ∷ implied Tax ∷ implied Tya ∷ []) = record { size = omega arith } in
    let one : Takes 3 (call LdAi ∷ []) = record { size = omega arith } in
    let two : Takes 3 (call LdAxi ∷ []) = record { size = omega arith } in
    takes_append address (takes_if (nat_lt bytes 2) one two)

moved_size : (ms : List Moved) → Takes (19 * length ms) (all_moved ms)
moved_size [] = record { size = omega arith }
moved_size (m ∷ ms) =
    let load : Takes 15 (load_code m.from m.bytes) = takes_if (nat_lt m.from 255) (near_load_size m.from m.bytes) (far_load_size m.from m.bytes) in
    takes_wider (takes_append (takes_append load (bank_store_size m.bank m.bytes)) (moved_size ms)) (omega arith)

counted_store_size : (bank bytes : ℕ) → Takes 7 (counted_store bank bytes)
counted_store_size bank bytes =
    let one : Takes 7 (zero_page Sta ((regbank + bank) % 256) ∷ []) = record { size = omega arith } in
    let two : Takes 7 (zero_page Sta ((regbank + bank) % 256) ∷ implied Iny ∷ by_y Lda sp ∷ zero_page Sta (((regbank + bank) % 256 + 1) % 256) ∷ []) = record { size = omega arith } in
    takes_if (nat_lt bytes 2) one two

all_counted_size : (soft stacked : ℕ) (ms : List Moved) → Takes (19 * length ms) (all_counted soft stacked ms)
all_counted_size soft stacked [] = record { size = omega arith }
all_counted_size soft stacked (m ∷ ms) =
    let found : Takes 7 (implied Txa ∷ implied Clc ∷ value Adc (counted_at soft stacked m.from) ∷ implied Tay ∷ by_y Lda sp ∷ []) = record { size = omega arith } in
    takes_wider (takes_append (takes_append found (counted_store_size m.bank m.bytes)) (all_counted_size soft stacked ms)) (omega arith)

raised_size : (soft stacked : ℕ) (ms : List Moved) → Takes (2 + 19 * length ms) (raised_moves soft stacked ms)
raised_size soft stacked ms =
    let to : Takes 1 (implied Tax ∷ []) = record { size = omega arith } in
    let back : Takes 1 (implied Txa ∷ []) = record { size = omega arith } in
    takes_if (length ms == 0) takes_none (takes_wider (takes_append to (takes_append (all_counted_size soft stacked ms) back)) (omega arith))

early_size : (v : Bool) (soft stacked : ℕ) (ms : List Moved) → Takes (if v then 2 + 19 * length ms else 0) (if v then raised_moves soft stacked ms else [])
early_size true soft stacked ms = raised_size soft stacked ms
early_size false soft stacked ms = takes_none

late_size : (v : Bool) (ms : List Moved) → Takes (if v then 0 else 19 * length ms) (if v then [] else all_moved ms)
late_size true ms = takes_none
late_size false ms = moved_size ms

moves_sum : (v : Bool) (n : ℕ) → (if v then 2 + 19 * n else 0) + (if v then 0 else 19 * n) ≤ 2 + 19 * n
moves_sum true n = omega arith
moves_sum false n = omega arith

taken_few : (variadic : Bool) (soft : ℕ) → soft ≤ 1025 → taken_bytes variadic soft ≤ 1025
taken_few true soft le = omega (arith, le)
taken_few false soft le = le

checked_size : (check : Option ℕ) → Takes 15 (checked_code check)
checked_size None = record { size = omega arith }
checked_size (Some c) = record { size = omega arith }

few_size : (n : ℕ) → n ≤ 254 → Takes 5 (lower_code n)
few_size n le = takes_wider (takes_append (repeated_size (n / 255) (small_lower 255) (small_lower_size 255).size) (small_lower_size (n % 255))) (omega (arith, le))

few_raise_size : (n : ℕ) → n ≤ 254 → Takes 5 (raise_code n)
few_raise_size n le = takes_wider (takes_append (repeated_size (n / 255) (small_raise 255) (small_raise_size 255).size) (small_raise_size (n % 255))) (omega (arith, le))

bank_saves_size : (n : ℕ) → Takes (6 * n) (bank_saves n)
bank_saves_size zero = record { size = omega arith }
bank_saves_size (suc n) =
    let one : Takes 6 (value Ldy n ∷ zero_page Lda ((regbank + n) % 256) ∷ by_y Sta sp ∷ []) = record { size = omega arith } in
    takes_wider (takes_append (bank_saves_size n) one) (omega arith)

few_saved_size : (bank : ℕ) → bank ≤ 5 → Takes 39 (few_saved bank)
few_saved_size bank few =
    let wait : Takes 2 (zero_page Sta tmp1 ∷ []) = record { size = omega arith } in
    let last : Takes 2 (zero_page Lda tmp1 ∷ []) = record { size = omega arith } in
    takes_wider (takes_append (few_size bank (omega (arith, few))) (takes_append wait (takes_append (bank_saves_size bank) last))) (omega (arith, few))

saved_size : (bank : ℕ) → Takes 39 (saved_code bank)
saved_size bank = takes_if (bank == 0) takes_none (by (nat_lt bank 6) refl)
  where
    by : (b : Bool) → nat_lt bank 6 ≡ b → Takes 39 (if b then few_saved bank else call SaveRegs ∷ [])
    by true e = few_saved_size bank (omega (arith, ltb-true bank 6 e))
    by false e = record { size = omega arith }

taking_size : (f : Framed) → f.soft ≤ 1025 → Takes (90 + 19 * length f.moved) (taking_code f)
taking_size f le =
    let tya : Takes 1 (implied Tya ∷ []) = record { size = omega arith } in
    let push : Takes 3 (call PushA ∷ []) = record { size = omega arith } in
    takes_wider (takes_append (pushed_size f.last) (takes_append (takes_if f.variadic tya takes_none) (takes_append (saved_size f.bank) (takes_append (early_size f.variadic f.soft f.stacked f.moved) (takes_append (kept_size f.last)
    (takes_append (lower_size (taken_bytes f.variadic f.soft) (taken_few f.variadic f.soft le)) (takes_append (takes_if f.variadic push takes_none) (late_size f.variadic f.moved)))))))) (omega (arith, moves_sum f.variadic (length f.moved)))

pub entry_size : (f : Framed) → f.soft ≤ 1025 → Takes (105 + 19 * length f.moved) (entry_code f)
entry_size f le = takes_wider (takes_append (checked_size f.check) (taking_size f le)) (omega arith)

bank_loads_size : (n : ℕ) → Takes (6 * n) (bank_loads n)
bank_loads_size zero = record { size = omega arith }
bank_loads_size (suc n) =
    let one : Takes 6 (value Ldy n ∷ by_y Lda sp ∷ zero_page Sta ((regbank + n) % 256) ∷ []) = record { size = omega arith } in
    takes_wider (takes_append (bank_loads_size n) one) (omega arith)

few_restored_size : (bank : ℕ) → bank ≤ 5 → Takes 39 (few_restored bank)
few_restored_size bank few =
    let wait : Takes 2 (zero_page Sta tmp1 ∷ []) = record { size = omega arith } in
    let last : Takes 2 (zero_page Lda tmp1 ∷ []) = record { size = omega arith } in
    takes_wider (takes_append (takes_append wait (takes_append (bank_loads_size bank) last)) (few_raise_size bank (omega (arith, few)))) (omega (arith, few))

restored_size : (bank : ℕ) → Takes 39 (restored_code bank)
restored_size bank = takes_if (bank == 0) takes_none (by (nat_lt bank 6) refl)
  where
    by : (b : Bool) → nat_lt bank 6 ≡ b → Takes 39 (if b then few_restored bank else call RestRegs ∷ [])
    by true e = few_restored_size bank (omega (arith, ltb-true bank 6 e))
    by false e = record { size = omega arith }

variadic_size : (soft bank : ℕ) → soft ≤ 1025 → Takes 90 (variadic_end soft bank)
variadic_size soft bank le =
    let first : Takes 9 (zero_page Sta tmp1 ∷ value Ldy 0 ∷ by_y Lda sp ∷ implied Pha ∷ zero_page Lda tmp1 ∷ []) = record { size = omega arith } in
    let last : Takes 10 (zero_page Sta tmp1 ∷ implied Pla ∷ implied Tay ∷ zero_page Lda tmp1 ∷ call AddYSp ∷ implied Rts ∷ []) = record { size = omega arith } in
    takes_wider (takes_append first (takes_append (raise_size soft le) (takes_append (restored_size bank) last))) (omega arith)

plain_size : (soft bank stacked : ℕ) → soft ≤ 1025 → stacked ≤ 1025 → Takes 90 (plain_end soft bank stacked)
plain_size soft bank stacked le few =
    let last : Takes 1 (implied Rts ∷ []) = record { size = omega arith } in
    takes_wider (takes_append (raise_size soft le) (takes_append (restored_size bank) (takes_append (raise_size stacked few) last))) (omega arith)

pub end_size : (f : Framed) → f.soft ≤ 1025 → f.stacked ≤ 1025 → Takes 90 (end_code f)
end_size f le few = takes_if f.variadic (variadic_size f.soft f.bank le) (plain_size f.soft f.bank f.stacked le few)

pub main_size : (is_main : Bool) → Takes 4 (main_code is_main)
main_size true = record { size = omega arith }
main_size false = takes_none

-- ---- objects

pub point_size : (pointer : ℕ) (spot : Spot) → Takes 13 (point_code pointer spot)
point_size pointer (Bank b) = takes_none
point_size pointer (Soft at) = record { size = omega arith }
point_size pointer (Data s at) = record { size = omega arith }

far_store_size : (at bytes : ℕ) → Takes 38 (pointers.far_store at bytes)
far_store_size at bytes =
    let upper : Takes 10 pointers.upper_bytes = record { size = omega arith } in
    let second : Takes 5 pointers.second_byte = record { size = omega arith } in
    let third : Takes 10 (pointers.third_bytes bytes) = takes_if (nat_lt bytes 3) takes_none upper in
    let further : Takes 15 (pointers.further_bytes bytes) = takes_if (nat_lt bytes 2) takes_none (takes_append second third) in
    let first : Takes 4 (zero_page Sta tmp1 ∷ zero_page Stx tmp2 ∷ []) = record { size = omega arith } in
    let near : Takes 13 (pointers.near_code ptr1 at) = record { size = omega arith } in
    let lowest : Takes 6 (value Ldy 0 ∷ zero_page Lda tmp1 ∷ by_y Sta ptr1 ∷ []) = record { size = omega arith } in
    takes_append first (takes_append near (takes_append lowest further))

pub stored_size : (spot : Spot) (kind : IntType) (bytes : ℕ) → Takes 38 (stored_code spot (Whole kind) bytes)
stored_size (Bank b) kind bytes = record { size = omega (arith, (store_piece (places.Bank b) (Whole kind)).size) }
stored_size (Soft at) kind bytes =
    let near : Takes 38 (store_code (places.Near at) (Whole kind)) = record { size = omega (arith, (store_piece (places.Near at) (Whole kind)).size) } in
    takes_if (nat_le at 252) near (far_store_size at bytes)
stored_size (Data s at) kind bytes = record { size = omega (arith, (store_piece (places.Data s at) (Whole kind)).size) }

pub bank_clear_size : (bank bytes : ℕ) → Takes 6 (pointers.clear_code bank bytes)
bank_clear_size bank bytes =
    let first : Takes 4 (value Lda 0 ∷ zero_page Sta ((regbank + bank) % 256) ∷ []) = record { size = omega arith } in
    let second : Takes 2 (zero_page Sta (((regbank + bank) % 256 + 1) % 256) ∷ []) = record { size = omega arith } in
    takes_append first (takes_if (nat_lt bytes 2) takes_none second)

-- ---- blocks of bytes

pages_size : (each after : List Line) (n l : ℕ) → Takes 4 each → Takes 4 after → Takes 22 (pages_code each after n l)
pages_size each after n l p q =
    let last : List Line = implied Dex ∷ branch Bne l ∷ [] in
    let turn : List Line = implied Iny ∷ branch Bne l ∷ (after ++ last) in
    let some : Takes 22 (value Ldx n ∷ Label l ∷ (each ++ turn)) = record { size = omega (arith, size-append each turn, size-append after last, p.size, q.size) } in
    takes_if (n == 0) takes_none some

rest_size : (each : List Line) (bytes l : ℕ) → Takes 4 each → Takes 12 (rest_code each bytes l)
rest_size each bytes l p =
    let some : Takes 12 (Label l ∷ (each ++ (implied Iny ∷ value Cpy bytes ∷ branch Bne l ∷ []))) = record { size = omega (arith, size-append each (implied Iny ∷ value Cpy bytes ∷ branch Bne l ∷ []), p.size) } in
    takes_if (bytes == 0) takes_none some

block_size : (each after : List Line) (bytes l : ℕ) → Takes 4 each → Takes 4 after → Takes 34 (block_code each after bytes l)
block_size each after bytes l p q = takes_append (pages_size each after (bytes / 256) l p q) (rest_size each (bytes % 256) (l + loop_labels (bytes / 256)) p)

pub clear_size : (bytes l : ℕ) → Takes 38 (blocks.clear_code bytes l)
clear_size bytes l =
    let first : Takes 4 (value Ldy 0 ∷ value Lda 0 ∷ []) = record { size = omega arith } in
    let each : Takes 4 (by_y Sta ptr1 ∷ []) = record { size = omega arith } in
    let after : Takes 4 (zero_page Inc (ptr1 + 1) ∷ []) = record { size = omega arith } in
    takes_append first (block_size (by_y Sta ptr1 ∷ []) (zero_page Inc (ptr1 + 1) ∷ []) bytes l each after)

pub copy_size : (bytes l : ℕ) → Takes 36 (blocks.copy_code bytes l)
copy_size bytes l =
    let first : Takes 2 (value Ldy 0 ∷ []) = record { size = omega arith } in
    let each : Takes 4 (by_y Lda ptr1 ∷ by_y Sta ptr2 ∷ []) = record { size = omega arith } in
    let after : Takes 4 (zero_page Inc (ptr1 + 1) ∷ zero_page Inc (ptr2 + 1) ∷ []) = record { size = omega arith } in
    takes_append first (block_size (by_y Lda ptr1 ∷ by_y Sta ptr2 ∷ []) (zero_page Inc (ptr1 + 1) ∷ zero_page Inc (ptr2 + 1) ∷ []) bytes l each after)

-- ---- the choice of a case

test_size : (w : Width) (bits other at : ℕ) → Takes 32 (test_code w bits other at)
test_size Ax bits other at = record { size = omega arith }
test_size Eax bits other at = record { size = omega arith }

cases_size : (w : Width) (at l : ℕ) (zs : List ℤ) → Takes (32 * length zs) (case_codes w at l zs)
cases_size w at l [] = record { size = omega arith }
cases_size w at l (z ∷ zs) =
    let label : Takes 0 (Label l ∷ []) = record { size = omega arith } in
    takes_wider (takes_append (takes_append (test_size w (bits_of z) l at) label) (cases_size w ((at + 1) % 4294967296) (l + 1) zs)) (omega arith)

bytes_size : (at : ℕ) (zs : List ℤ) → Takes (7 * length zs) (byte_tests at zs)
bytes_size at [] = record { size = omega arith }
bytes_size at (z ∷ zs) =
    let first : Takes 7 (value Cmp (byte_of (bits_of z) 1) ∷ branch Beq at ∷ []) = record { size = omega arith } in
    takes_wider (takes_append first (bytes_size ((at + 1) % 4294967296) zs)) (omega arith)

pub choice_size : (w : Width) (other at l : ℕ) (zs : List ℤ) → Takes (7 + 32 * length zs) (choice_code w other at l zs)
choice_size w other at l zs = by (by_bytes w zs)
  where
    by : (b : Bool) → Takes (7 + 32 * length zs) (if b then byte_choice other at zs else case_codes w at l zs)
    by true =
        let first : Takes 7 (value Cpx 0 ∷ branch Bne other ∷ []) = record { size = omega arith } in
        takes_wider (takes_append first (bytes_size at zs)) (omega arith)
    by false = takes_wider (cases_size w at l zs) (omega arith)
