-- The symbols of the lines at the entry and the end of functions, about objects, and of the choice of a case.
use Rattle.std.proofs.Common.{ℕ, zero, suc, ◌+◌, ◌/◌, ◌%◌, ◌==◌, ℤ, Bool, true, false, Option, None, Some, List, [], ◌∷◌, ◌++◌, length}
use Rattle.std.specs.Prelude.{if◌then◌else◌, nat_lt}
use Rattle.c65_mach.specs.declared.rows.Op.TheVariants.{Adc, Clc, Tax, Bne, Cpy, Dex, Iny, Inc, Lda, Ldx, Ldy, Sta, Stx, Pha, Pla, Rts, Tay, Txa, Tya, Beq, Cmp, Cpx}
use Rattle.c65_code.specs.declared.line.Line.{Line}
use Rattle.c65_code.specs.declared.line.Line.TheVariants.{Label}
use Rattle.c65_code.specs.declared.routine.Count.{Count}
use Rattle.c65_code.specs.declared.routine.Routine.TheVariants.{AddYSp}
use Rattle.c65_code.specs.declared.routine.Width.{Width}
use Rattle.c65_code.specs.declared.routine.Width.TheVariants.{Ax, Eax}
use Rattle.c65_genframe.specs.declared.home.Arrival.{Arrival}
use Rattle.c65_genframe.specs.declared.home.Arrival.TheVariants.{Passed, Pushed, Kept}
use Rattle.c65_genframe.specs.declared.home.Moved.{Moved}
use Rattle.c65_genframe.specs.Frames.{Framed}
use Rattle.c65_genwide.specs.Lines.{value, call}
use Rattle.c65_genentry.specs.Words.{sp, tmp1, tmp2, ptr1, ptr2, regbank, implied, zero_page, by_y, branch}
use Rattle.c65_genentry.specs.Stack.{count_of, raise_by, lower_by, small_raise, small_lower, repeated, raise_code, lower_code}
use Rattle.c65_genentry.specs.Ends.{bank_loads, few_loads, few_restored, restored_code, plain_end, variadic_end, end_code}
use Rattle.c65_genentry.specs.Entry.{pushed_code, bank_store, kept_code, bank_saves, few_saved, saved_code, counted_code, count_code, near_load, far_load, all_moved, counted_at, counted_store, all_counted, raised_moves, early_moves, late_moves, taken_bytes, checked_code, taking_code, entry_code}
use Rattle.c65_genentry.specs.Pointers as pointers
use Rattle.c65_genentry.specs.Bytes.{pages_code, rest_code, loop_labels, block_code}
use Rattle.c65_genentry.specs.Bytes as blocks
use Rattle.c65_genentry.specs.Choice.{bits_of, byte_of, test_code, case_code, case_codes, by_bytes, byte_tests, byte_choice, choice_code}
use Rattle.c65_gen_law_names.proofs.Known.{AllKnown, known_if, known_more, known_none, known_then}
use Rattle.c65_gen_law_names.proofs.Loads.{pass_known}

-- ---- the software stack's pointer

repeated_known : (P : ℕ → Type 0) (k : ℕ) (a : List Line) → AllKnown P a → AllKnown P (repeated k a)
repeated_known P zero a p = known_none
repeated_known P (suc k) a p = known_then (repeated_known P k a p) p

raise_by_known : (P : ℕ → Type 0) (k : ℕ) (c : Option Count) → AllKnown P (raise_by k c)
raise_by_known P k None = record { all = tt }
raise_by_known P k (Some c) = record { all = tt }

lower_by_known : (P : ℕ → Type 0) (k : ℕ) (c : Option Count) → AllKnown P (lower_by k c)
lower_by_known P k None = record { all = tt }
lower_by_known P k (Some c) = record { all = tt }

small_raise_known : (P : ℕ → Type 0) (k : ℕ) → AllKnown P (small_raise k)
small_raise_known P k = known_if (k == 0) known_none (raise_by_known P k (count_of k))

small_lower_known : (P : ℕ → Type 0) (k : ℕ) → AllKnown P (small_lower k)
small_lower_known P k = known_if (k == 0) known_none (lower_by_known P k (count_of k))

raise_known : (P : ℕ → Type 0) (k : ℕ) → AllKnown P (raise_code k)
raise_known P k = known_then (repeated_known P (k / 255) (small_raise 255) (small_raise_known P 255)) (small_raise_known P (k % 255))

lower_known : (P : ℕ → Type 0) (k : ℕ) → AllKnown P (lower_code k)
lower_known P k = known_then (repeated_known P (k / 255) (small_lower 255) (small_lower_known P 255)) (small_lower_known P (k % 255))

-- ---- entry and end

pushed_known : (P : ℕ → Type 0) (a : Arrival) → AllKnown P (pushed_code a)
pushed_known P Passed = known_none
pushed_known P (Pushed bytes) = pass_known P bytes
pushed_known P (Kept bank bytes) = known_none

bank_store_known : (P : ℕ → Type 0) (bank bytes : ℕ) → AllKnown P (bank_store bank bytes)
bank_store_known P bank bytes = known_if (nat_lt bytes 2) (record { all = tt }) (record { all = tt })

kept_known : (P : ℕ → Type 0) (a : Arrival) → AllKnown P (kept_code a)
kept_known P Passed = known_none
kept_known P (Pushed bytes) = known_none
kept_known P (Kept bank bytes) = bank_store_known P bank bytes

bank_saves_known : (P : ℕ → Type 0) (bank : ℕ) → AllKnown P (bank_saves bank)
bank_saves_known P zero = known_none
bank_saves_known P (suc k) =
    let one : AllKnown P (value Ldy k ∷ zero_page Lda ((regbank + k) % 256) ∷ by_y Sta sp ∷ []) = record { all = tt } in
    known_then (bank_saves_known P k) one

few_saved_known : (P : ℕ → Type 0) (bank : ℕ) → AllKnown P (few_saved bank)
few_saved_known P bank =
    let wait : AllKnown P (zero_page Sta tmp1 ∷ []) = record { all = tt } in
    let last : AllKnown P (zero_page Lda tmp1 ∷ []) = record { all = tt } in
    known_then (lower_known P bank) (known_then {a = zero_page Sta tmp1 ∷ []} wait (known_then (bank_saves_known P bank) last))

saved_known : (P : ℕ → Type 0) (bank : ℕ) → AllKnown P (saved_code bank)
saved_known P bank = known_if (bank == 0) known_none (known_if (nat_lt bank 6) (few_saved_known P bank) (record { all = tt }))

near_load_known : (P : ℕ → Type 0) (at bytes : ℕ) → AllKnown P (near_load at bytes)
near_load_known P at bytes = known_if (nat_lt bytes 2) (record { all = tt }) (record { all = tt })

far_load_known : (P : ℕ → Type 0) (at bytes : ℕ) → AllKnown P (far_load at bytes)
far_load_known P at bytes =
    let first : AllKnown P (implied Clc ∷ zero_page Lda sp ∷ value Adc (at % 256) ∷ implied Tay ∷ zero_page Lda (sp + 1) ∷ value Adc (at / 256) ∷ implied Tax ∷ implied Tya ∷ []) = record { all = tt } in
    known_then first (known_if (nat_lt bytes 2) (record { all = tt }) (record { all = tt }))

moved_known : (P : ℕ → Type 0) (ms : List Moved) → AllKnown P (all_moved ms)
moved_known P [] = known_none
moved_known P (m ∷ ms) = known_then (known_then (known_if (nat_lt m.from 255) (near_load_known P m.from m.bytes) (far_load_known P m.from m.bytes)) (bank_store_known P m.bank m.bytes)) (moved_known P ms)

counted_store_known : (P : ℕ → Type 0) (bank bytes : ℕ) → AllKnown P (counted_store bank bytes)
counted_store_known P bank bytes = known_if (nat_lt bytes 2) (record { all = tt }) (record { all = tt })

counted_known : (P : ℕ → Type 0) (soft stacked : ℕ) (ms : List Moved) → AllKnown P (all_counted soft stacked ms)
counted_known P soft stacked [] = known_none
counted_known P soft stacked (m ∷ ms) =
    let found : AllKnown P (implied Txa ∷ implied Clc ∷ value Adc (counted_at soft stacked m.from) ∷ implied Tay ∷ by_y Lda sp ∷ []) = record { all = tt } in
    known_then (known_then found (counted_store_known P m.bank m.bytes)) (counted_known P soft stacked ms)

raised_known : (P : ℕ → Type 0) (soft stacked : ℕ) (ms : List Moved) → AllKnown P (raised_moves soft stacked ms)
raised_known P soft stacked ms =
    let to : AllKnown P (implied Tax ∷ []) = record { all = tt } in
    let back : AllKnown P (implied Txa ∷ []) = record { all = tt } in
    known_if (length ms == 0) known_none (known_then {a = implied Tax ∷ []} to (known_then (counted_known P soft stacked ms) back))

checked_known : (P : ℕ → Type 0) (check : Option ℕ) → AllKnown P (checked_code check)
checked_known P None = known_none
checked_known P (Some c) = record { all = tt }

taking_known : (P : ℕ → Type 0) (f : Framed) → AllKnown P (taking_code f)
taking_known P f =
    let counted : AllKnown P (counted_code f.variadic) = known_if f.variadic (record { all = tt }) known_none in
    let count : AllKnown P (count_code f.variadic) = known_if f.variadic (record { all = tt }) known_none in
    let early : AllKnown P (early_moves f) = known_if f.variadic (raised_known P f.soft f.stacked f.moved) known_none in
    let late : AllKnown P (late_moves f) = known_if f.variadic known_none (moved_known P f.moved) in
    known_then (pushed_known P f.last) (known_then counted (known_then (saved_known P f.bank) (known_then early (known_then (kept_known P f.last) (known_then (lower_known P (taken_bytes f.variadic f.soft)) (known_then count late))))))

pub entry_known : (P : ℕ → Type 0) (f : Framed) → AllKnown P (entry_code f)
entry_known P f = known_then (checked_known P f.check) (taking_known P f)

bank_loads_known : (P : ℕ → Type 0) (bank : ℕ) → AllKnown P (bank_loads bank)
bank_loads_known P zero = known_none
bank_loads_known P (suc k) =
    let one : AllKnown P (value Ldy k ∷ by_y Lda sp ∷ zero_page Sta ((regbank + k) % 256) ∷ []) = record { all = tt } in
    known_then (bank_loads_known P k) one

few_restored_known : (P : ℕ → Type 0) (bank : ℕ) → AllKnown P (few_restored bank)
few_restored_known P bank =
    let wait : AllKnown P (zero_page Sta tmp1 ∷ []) = record { all = tt } in
    let last : AllKnown P (zero_page Lda tmp1 ∷ []) = record { all = tt } in
    let loads : AllKnown P (few_loads bank) = known_then {a = zero_page Sta tmp1 ∷ []} wait (known_then (bank_loads_known P bank) last) in
    known_then loads (raise_known P bank)

restored_known : (P : ℕ → Type 0) (bank : ℕ) → AllKnown P (restored_code bank)
restored_known P bank = known_if (bank == 0) known_none (known_if (nat_lt bank 6) (few_restored_known P bank) (record { all = tt }))

variadic_known : (P : ℕ → Type 0) (soft bank : ℕ) → AllKnown P (variadic_end soft bank)
variadic_known P soft bank =
    let first : AllKnown P (zero_page Sta tmp1 ∷ value Ldy 0 ∷ by_y Lda sp ∷ implied Pha ∷ zero_page Lda tmp1 ∷ []) = record { all = tt } in
    let last : AllKnown P (zero_page Sta tmp1 ∷ implied Pla ∷ implied Tay ∷ zero_page Lda tmp1 ∷ call AddYSp ∷ implied Rts ∷ []) = record { all = tt } in
    known_then first (known_then (raise_known P soft) (known_then (restored_known P bank) last))

plain_known : (P : ℕ → Type 0) (soft bank stacked : ℕ) → AllKnown P (plain_end soft bank stacked)
plain_known P soft bank stacked =
    let last : AllKnown P (implied Rts ∷ []) = record { all = tt } in
    known_then (raise_known P soft) (known_then (restored_known P bank) (known_then (raise_known P stacked) last))

pub end_known : (P : ℕ → Type 0) (f : Framed) → AllKnown P (end_code f)
end_known P f = known_if f.variadic (variadic_known P f.soft f.bank) (plain_known P f.soft f.bank f.stacked)

-- ---- what is stored far above sp

pub near_known : (P : ℕ → Type 0) (pointer at : ℕ) → AllKnown P (pointers.near_code pointer at)
near_known P pointer at = record { all = tt }

pub far_store_known : (P : ℕ → Type 0) (at bytes : ℕ) → AllKnown P (pointers.far_store at bytes)
far_store_known P at bytes =
    let upper : AllKnown P pointers.upper_bytes = record { all = tt } in
    let second : AllKnown P pointers.second_byte = record { all = tt } in
    let third : AllKnown P (pointers.third_bytes bytes) = known_if (nat_lt bytes 3) known_none upper in
    let further : AllKnown P (pointers.further_bytes bytes) = known_if (nat_lt bytes 2) known_none (known_then {a = pointers.second_byte} second third) in
    let kept : AllKnown P (zero_page Sta tmp1 ∷ zero_page Stx tmp2 ∷ []) = record { all = tt } in
    let lowest : AllKnown P (value Ldy 0 ∷ zero_page Lda tmp1 ∷ by_y Sta ptr1 ∷ []) = record { all = tt } in
    known_then kept (known_then (near_known P ptr1 at) (known_then lowest further))

pub bank_clear_known : (P : ℕ → Type 0) (bank bytes : ℕ) → AllKnown P (pointers.clear_code bank bytes)
bank_clear_known P bank bytes =
    let first : AllKnown P (value Lda 0 ∷ zero_page Sta ((regbank + bank) % 256) ∷ []) = record { all = tt } in
    let second : AllKnown P (zero_page Sta (((regbank + bank) % 256 + 1) % 256) ∷ []) = record { all = tt } in
    known_then first (known_if (nat_lt bytes 2) known_none second)

-- ---- blocks of bytes

pages_when : (P : ℕ → Type 0) (each after : List Line) (pages l : ℕ) (b : Bool) → AllKnown P each → AllKnown P after → AllKnown P (if b then [] else value Ldx pages ∷ Label l ∷ (each ++ (implied Iny ∷ branch Bne l ∷ (after ++ (implied Dex ∷ branch Bne l ∷ [])))))
pages_when P each after pages l true he ha = known_none
pages_when P each after pages l false he ha =
    let last : AllKnown P (implied Dex ∷ branch Bne l ∷ []) = record { all = tt } in
    let turn : AllKnown P (implied Iny ∷ branch Bne l ∷ (after ++ (implied Dex ∷ branch Bne l ∷ []))) = known_more tt (known_more tt (known_then ha last)) in
    known_more tt (known_more tt (known_then he turn))

rest_when : (P : ℕ → Type 0) (each : List Line) (bytes l : ℕ) (b : Bool) → AllKnown P each → AllKnown P (if b then [] else Label l ∷ (each ++ (implied Iny ∷ value Cpy bytes ∷ branch Bne l ∷ [])))
rest_when P each bytes l true he = known_none
rest_when P each bytes l false he =
    known_more tt (known_then he (record { all = tt }))

block_known : (P : ℕ → Type 0) (each after : List Line) (bytes l : ℕ) → AllKnown P each → AllKnown P after → AllKnown P (block_code each after bytes l)
block_known P each after bytes l he ha =
    let second : ℕ = l + loop_labels (bytes / 256) in
    let pages : AllKnown P (pages_code each after (bytes / 256) l) = pages_when P each after (bytes / 256) l (bytes / 256 == 0) he ha in
    let rest : AllKnown P (rest_code each (bytes % 256) second) = rest_when P each (bytes % 256) second (bytes % 256 == 0) he in
    known_then pages rest

pub clear_known : (P : ℕ → Type 0) (bytes l : ℕ) → AllKnown P (blocks.clear_code bytes l)
clear_known P bytes l =
    let block : AllKnown P (block_code (by_y Sta ptr1 ∷ []) (zero_page Inc (ptr1 + 1) ∷ []) bytes l) = block_known P (by_y Sta ptr1 ∷ []) (zero_page Inc (ptr1 + 1) ∷ []) bytes l (record { all = tt }) (record { all = tt }) in
    known_more tt (known_more tt block)

pub copy_known : (P : ℕ → Type 0) (bytes l : ℕ) → AllKnown P (blocks.copy_code bytes l)
copy_known P bytes l =
    let block : AllKnown P (block_code (by_y Lda ptr1 ∷ by_y Sta ptr2 ∷ []) (zero_page Inc (ptr1 + 1) ∷ zero_page Inc (ptr2 + 1) ∷ []) bytes l) = block_known P (by_y Lda ptr1 ∷ by_y Sta ptr2 ∷ []) (zero_page Inc (ptr1 + 1) ∷ zero_page Inc (ptr2 + 1) ∷ []) bytes l (record { all = tt }) (record { all = tt }) in
    known_more tt block

-- ---- the choice of a case

test_known : (P : ℕ → Type 0) (w : Width) (bits other at : ℕ) → AllKnown P (test_code w bits other at)
test_known P Ax bits other at = record { all = tt }
test_known P Eax bits other at = record { all = tt }

cases_known : (P : ℕ → Type 0) (w : Width) (at l : ℕ) (zs : List ℤ) → AllKnown P (case_codes w at l zs)
cases_known P w at l [] = known_none
cases_known P w at l (z ∷ zs) =
    let case : AllKnown P (case_code w z at l) = known_then (test_known P w (bits_of z) l at) (record { all = tt }) in
    known_then case (cases_known P w ((at + 1) % 4294967296) (l + 1) zs)

bytes_known : (P : ℕ → Type 0) (at : ℕ) (zs : List ℤ) → AllKnown P (byte_tests at zs)
bytes_known P at [] = known_none
bytes_known P at (z ∷ zs) =
    let first : AllKnown P (value Cmp (byte_of (bits_of z) 1) ∷ branch Beq at ∷ []) = record { all = tt } in
    known_then first (bytes_known P ((at + 1) % 4294967296) zs)

pub choice_known : (P : ℕ → Type 0) (w : Width) (other at l : ℕ) (zs : List ℤ) → AllKnown P (choice_code w other at l zs)
choice_known P w other at l zs = by (by_bytes w zs)
  where
    by : (b : Bool) → AllKnown P (if b then byte_choice other at zs else case_codes w at l zs)
    by true =
        let first : AllKnown P (value Cpx 0 ∷ branch Bne other ∷ []) = record { all = tt } in
        known_then first (bytes_known P at zs)
    by false = cases_known P w at l zs
