-- The lines at the entry and the end of functions, about objects, and of the choice of a case.
use Rattle.std.proofs.Common.{◌≡◌, ℕ, zero, suc, ◌+◌, ◌/◌, ◌%◌, ◌<◌, ◌≤◌, ◌^◌, ◌==◌, ℤ, Bool, true, false, Option, None, Some, List, [], ◌∷◌, ◌++◌, length, refl, arith, rules}
use Rattle.std.specs.Prelude.{if◌then◌else◌, nat_lt}
use Rattle.std.proofs.lemmas.Bool.{ltb-true}
use Rattle.c65_mach.specs.declared.rows.Op.TheVariants.{Adc, Clc, Tax, Bne, Cpy, Dex, Iny, Inc, Lda, Ldx, Ldy, Sta, Stx, Pha, Pla, Rts, Tay, Txa, Tya, Beq, Cmp, Cpx}
use Rattle.c65_code.specs.declared.line.Line.{Line}
use Rattle.c65_code.specs.declared.line.Line.TheVariants.{Label}
use Rattle.c65_code.specs.declared.routine.Count.{Count}
use Rattle.c65_code.specs.declared.routine.Routine.TheVariants.{PushA, AddYSp, SaveRegs, RestRegs, LdAxYSp, LdAi, LdAxi}
use Rattle.c65_code.specs.declared.routine.Width.{Width}
use Rattle.c65_code.specs.declared.routine.Width.TheVariants.{Ax, Eax}
use Rattle.c65_genframe.specs.declared.home.Arrival.{Arrival}
use Rattle.c65_genframe.specs.declared.home.Arrival.TheVariants.{Passed, Pushed, Kept}
use Rattle.c65_genframe.specs.declared.home.Moved.{Moved}
use Rattle.c65_genframe.specs.Frames.{Framed}
use Rattle.c65_genwide.specs.Lines.{value, call}
use Rattle.c65_genentry.specs.Words.{sp, tmp1, tmp2, ptr1, ptr2, regbank, implied, zero_page, by_y, branch}
use Rattle.c65_genentry.specs.Stack.{count_of, raise_by, lower_by, small_raise, small_lower, repeated, raise_code, lower_code}
use Rattle.c65_genentry.specs.Ends.{bank_loads, few_loads, few_restored, restored_code, plain_end, variadic_end, end_code}
use Rattle.c65_genentry.specs.Entry.{pushed_code, bank_store, kept_code, bank_saves, few_saved, saved_code, counted_code, count_code, near_load, far_load, load_code, moved_code, all_moved, counted_at, counted_store, counted_move, all_counted, raised_moves, early_moves, late_moves, taken_bytes, checked_code, taking_code, entry_code}
use Rattle.c65_genentry.specs.Pointers as pointers
use Rattle.c65_genentry.specs.Bytes.{pages_code, rest_code, loop_labels, block_code, block_labels}
use Rattle.c65_genentry.specs.Bytes as blocks
use Rattle.c65_genentry.specs.Choice.{bits_of, byte_of, test_code, case_code, case_codes, by_bytes, byte_tests, byte_choice, choice_code, choice_labels}
use Rattle.c65_asm_law.proofs.Well.{AllWell, well_append, well_none, well_more, well_if}
use Rattle.c65_asm_law.proofs.Loads.{pass_well}

-- ---- the software stack's pointer

repeated_well : (n k : ℕ) (a : List Line) → AllWell n a → AllWell n (repeated k a)
repeated_well n zero a p = well_none n
repeated_well n (suc k) a p = well_append n (repeated k a) a (repeated_well n k a p) p

raise_by_well : (n k : ℕ) (c : Option Count) → k < 2 ^ 8 → AllWell n (raise_by k c)
raise_by_well n k None few = record { all = ((tt, few), (tt, tt)) }
raise_by_well n k (Some c) few = record { all = (tt, tt) }

lower_by_well : (n k : ℕ) (c : Option Count) → k < 2 ^ 8 → AllWell n (lower_by k c)
lower_by_well n k None few = record { all = ((tt, few), (tt, tt)) }
lower_by_well n k (Some c) few = record { all = (tt, tt) }

small_raise_well : (n k : ℕ) → k < 2 ^ 8 → AllWell n (small_raise k)
small_raise_well n k few = well_if n (k == 0) [] (raise_by k (count_of k)) (well_none n) (raise_by_well n k (count_of k) few)

small_lower_well : (n k : ℕ) → k < 2 ^ 8 → AllWell n (small_lower k)
small_lower_well n k few = well_if n (k == 0) [] (lower_by k (count_of k)) (well_none n) (lower_by_well n k (count_of k) few)

raise_well : (n k : ℕ) → AllWell n (raise_code k)
raise_well n k = well_append n (repeated (k / 255) (small_raise 255)) (small_raise (k % 255)) (repeated_well n (k / 255) (small_raise 255) (small_raise_well n 255 (omega arith))) (small_raise_well n (k % 255) (omega arith))

lower_well : (n k : ℕ) → AllWell n (lower_code k)
lower_well n k = well_append n (repeated (k / 255) (small_lower 255)) (small_lower (k % 255)) (repeated_well n (k / 255) (small_lower 255) (small_lower_well n 255 (omega arith))) (small_lower_well n (k % 255) (omega arith))

-- ---- entry and end

pushed_well : (n : ℕ) (a : Arrival) → AllWell n (pushed_code a)
pushed_well n Passed = well_none n
pushed_well n (Pushed bytes) = pass_well n bytes
pushed_well n (Kept bank bytes) = well_none n

bank_store_well : (n bank bytes : ℕ) → AllWell n (bank_store bank bytes)
bank_store_well n bank bytes = well_if n (nat_lt bytes 2) (zero_page Sta ((regbank + bank) % 256) ∷ []) (zero_page Sta ((regbank + bank) % 256) ∷ zero_page Stx (((regbank + bank) % 256 + 1) % 256) ∷ []) (record { all = search rules }) (record { all = search rules })

kept_well : (n : ℕ) (a : Arrival) → AllWell n (kept_code a)
kept_well n Passed = well_none n
kept_well n (Pushed bytes) = well_none n
kept_well n (Kept bank bytes) = bank_store_well n bank bytes

bank_saves_well : (n bank : ℕ) → bank ≤ 6 → AllWell n (bank_saves bank)
bank_saves_well n zero few = well_none n
bank_saves_well n (suc k) few =
    let one : AllWell n (value Ldy k ∷ zero_page Lda ((regbank + k) % 256) ∷ by_y Sta sp ∷ []) = record { all = search (rules, few) } in
    well_append n (bank_saves k) _ (bank_saves_well n k (omega (arith, few))) one

few_saved_well : (n bank : ℕ) → bank ≤ 6 → AllWell n (few_saved bank)
few_saved_well n bank few =
    let wait : AllWell n (zero_page Sta tmp1 ∷ []) = record { all = search rules } in
    let last : AllWell n (zero_page Lda tmp1 ∷ []) = record { all = search rules } in
    well_append n (lower_code bank) _ (lower_well n bank) (well_append n (zero_page Sta tmp1 ∷ []) (bank_saves bank ++ zero_page Lda tmp1 ∷ []) wait (well_append n (bank_saves bank) _ (bank_saves_well n bank few) last))

saved_well : (n bank : ℕ) → AllWell n (saved_code bank)
saved_well n bank = well_if n (bank == 0) [] (if nat_lt bank 6 then few_saved bank else call SaveRegs ∷ []) (well_none n) (by (nat_lt bank 6) refl)
  where
    by : (b : Bool) → nat_lt bank 6 ≡ b → AllWell n (if b then few_saved bank else call SaveRegs ∷ [])
    by true e = few_saved_well n bank (omega (arith, ltb-true bank 6 e))
    by false e = record { all = (tt, tt) }

near_load_well : (n at bytes : ℕ) → at < 255 → AllWell n (near_load at bytes)
near_load_well n at bytes few = well_if n (nat_lt bytes 2) (value Ldy at ∷ by_y Lda sp ∷ []) (value Ldy (at + 1) ∷ call LdAxYSp ∷ []) (record { all = ((tt, omega (arith, few)), ((tt, omega arith), tt)) }) (record { all = ((tt, omega (arith, few)), (tt, tt)) })

far_load_well : (n at bytes : ℕ) → at < 2 ^ 16 → AllWell n (far_load at bytes)
far_load_well n at bytes few =
    let first : AllWell n (implied Clc ∷ zero_page Lda sp ∷ value Adc (at % 256) ∷ implied Tay ∷ zero_page Lda (sp + 1) ∷ value Adc (at / 256) ∷ implied Tax ∷ implied Tya ∷ []) = record { all = search (rules, few) } in
    well_append n _ (if nat_lt bytes 2 then call LdAi ∷ [] else call LdAxi ∷ []) first (well_if n (nat_lt bytes 2) (call LdAi ∷ []) (call LdAxi ∷ []) (record { all = (tt, tt) }) (record { all = (tt, tt) }))

load_when : (n at bytes : ℕ) (b : Bool) → nat_lt at 255 ≡ b → at < 2 ^ 16 → AllWell n (if b then near_load at bytes else far_load at bytes)
load_when n at bytes true h few = near_load_well n at bytes (ltb-true at 255 h)
load_when n at bytes false h few = far_load_well n at bytes few

-- parameters that lie at most so far above sp
abbrev pub Near : ℕ → List Moved → Type 0
Near most [] = Unit {0}
Near most (m ∷ ms) = (m.from ≤ most) × Near most ms

moved_well : (n : ℕ) (ms : List Moved) → Near 2055 ms → AllWell n (all_moved ms)
moved_well n [] near = well_none n
moved_well n (m ∷ ms) near = well_append n (moved_code m) (all_moved ms) (well_append n (load_code m.from m.bytes) (bank_store m.bank m.bytes) (load_when n m.from m.bytes (nat_lt m.from 255) refl (omega (arith, near.0))) (bank_store_well n m.bank m.bytes)) (moved_well n ms near.1)

counted_store_well : (n bank bytes : ℕ) → AllWell n (counted_store bank bytes)
counted_store_well n bank bytes = well_if n (nat_lt bytes 2) (zero_page Sta ((regbank + bank) % 256) ∷ []) (zero_page Sta ((regbank + bank) % 256) ∷ implied Iny ∷ by_y Lda sp ∷ zero_page Sta (((regbank + bank) % 256 + 1) % 256) ∷ []) (record { all = search rules }) (record { all = search rules })

counted_well : (n soft stacked : ℕ) (ms : List Moved) → AllWell n (all_counted soft stacked ms)
counted_well n soft stacked [] = well_none n
counted_well n soft stacked (m ∷ ms) =
    let found : AllWell n (implied Txa ∷ implied Clc ∷ value Adc (counted_at soft stacked m.from) ∷ implied Tay ∷ by_y Lda sp ∷ []) = record { all = search rules } in
    well_append n (counted_move soft stacked m) (all_counted soft stacked ms) (well_append n _ (counted_store m.bank m.bytes) found (counted_store_well n m.bank m.bytes)) (counted_well n soft stacked ms)

raised_well : (n soft stacked : ℕ) (ms : List Moved) → AllWell n (raised_moves soft stacked ms)
raised_well n soft stacked ms =
    let to : AllWell n (implied Tax ∷ []) = record { all = ((tt, tt), tt) } in
    let back : AllWell n (implied Txa ∷ []) = record { all = ((tt, tt), tt) } in
    well_if n (length ms == 0) [] (implied Tax ∷ (all_counted soft stacked ms ++ implied Txa ∷ [])) (well_none n) (well_append n (implied Tax ∷ []) (all_counted soft stacked ms ++ implied Txa ∷ []) to (well_append n (all_counted soft stacked ms) (implied Txa ∷ []) (counted_well n soft stacked ms) back))

checked_well : (n : ℕ) (check : Option ℕ) → AllWell n (checked_code check)
checked_well n None = well_none n
checked_well n (Some c) = record { all = search rules }

taking_well : (n : ℕ) (f : Framed) → Near 2055 f.moved → AllWell n (taking_code f)
taking_well n f near =
    let counted : AllWell n (counted_code f.variadic) = well_if n f.variadic (implied Tya ∷ []) [] (record { all = ((tt, tt), tt) }) (well_none n) in
    let count : AllWell n (count_code f.variadic) = well_if n f.variadic (call PushA ∷ []) [] (record { all = (tt, tt) }) (well_none n) in
    let early : AllWell n (early_moves f) = well_if n f.variadic (raised_moves f.soft f.stacked f.moved) [] (raised_well n f.soft f.stacked f.moved) (well_none n) in
    let late : AllWell n (late_moves f) = well_if n f.variadic [] (all_moved f.moved) (well_none n) (moved_well n f.moved near) in
    well_append n (pushed_code f.last) _ (pushed_well n f.last) (well_append n (counted_code f.variadic) _ counted (well_append n (saved_code f.bank) _ (saved_well n f.bank) (well_append n (early_moves f) _ early (well_append n (kept_code f.last) _ (kept_well n f.last) (well_append n (lower_code (taken_bytes f.variadic f.soft)) _ (lower_well n (taken_bytes f.variadic f.soft)) (well_append n (count_code f.variadic) (late_moves f) count late))))))

pub entry_well : (n : ℕ) (f : Framed) → Near 2055 f.moved → AllWell n (entry_code f)
entry_well n f near = well_append n (checked_code f.check) (taking_code f) (checked_well n f.check) (taking_well n f near)

bank_loads_well : (n bank : ℕ) → bank ≤ 6 → AllWell n (bank_loads bank)
bank_loads_well n zero few = well_none n
bank_loads_well n (suc k) few =
    let one : AllWell n (value Ldy k ∷ by_y Lda sp ∷ zero_page Sta ((regbank + k) % 256) ∷ []) = record { all = search (rules, few) } in
    well_append n (bank_loads k) _ (bank_loads_well n k (omega (arith, few))) one

few_restored_well : (n bank : ℕ) → bank ≤ 6 → AllWell n (few_restored bank)
few_restored_well n bank few =
    let wait : AllWell n (zero_page Sta tmp1 ∷ []) = record { all = search rules } in
    let last : AllWell n (zero_page Lda tmp1 ∷ []) = record { all = search rules } in
    let loads : AllWell n (few_loads bank) = well_append n (zero_page Sta tmp1 ∷ []) (bank_loads bank ++ zero_page Lda tmp1 ∷ []) wait (well_append n (bank_loads bank) _ (bank_loads_well n bank few) last) in
    well_append n (few_loads bank) (raise_code bank) loads (raise_well n bank)

restored_well : (n bank : ℕ) → AllWell n (restored_code bank)
restored_well n bank = well_if n (bank == 0) [] (if nat_lt bank 6 then few_restored bank else call RestRegs ∷ []) (well_none n) (by (nat_lt bank 6) refl)
  where
    by : (b : Bool) → nat_lt bank 6 ≡ b → AllWell n (if b then few_restored bank else call RestRegs ∷ [])
    by true e = few_restored_well n bank (omega (arith, ltb-true bank 6 e))
    by false e = record { all = (tt, tt) }

variadic_well : (n soft bank : ℕ) → AllWell n (variadic_end soft bank)
variadic_well n soft bank =
    let first : AllWell n (zero_page Sta tmp1 ∷ value Ldy 0 ∷ by_y Lda sp ∷ implied Pha ∷ zero_page Lda tmp1 ∷ []) = record { all = search rules } in
    let last : AllWell n (zero_page Sta tmp1 ∷ implied Pla ∷ implied Tay ∷ zero_page Lda tmp1 ∷ call AddYSp ∷ implied Rts ∷ []) = record { all = search rules } in
    well_append n _ _ first (well_append n (raise_code soft) _ (raise_well n soft) (well_append n (restored_code bank) _ (restored_well n bank) last))

plain_well : (n soft bank stacked : ℕ) → AllWell n (plain_end soft bank stacked)
plain_well n soft bank stacked =
    let last : AllWell n (implied Rts ∷ []) = record { all = ((tt, tt), tt) } in
    well_append n (raise_code soft) _ (raise_well n soft) (well_append n (restored_code bank) _ (restored_well n bank) (well_append n (raise_code stacked) _ (raise_well n stacked) last))

pub end_well : (n : ℕ) (f : Framed) → AllWell n (end_code f)
end_well n f = well_if n f.variadic (variadic_end f.soft f.bank) (plain_end f.soft f.bank f.stacked) (variadic_well n f.soft f.bank) (plain_well n f.soft f.bank f.stacked)

-- ---- what is stored far above sp

pub near_well : (n pointer at : ℕ) → pointer < 255 → at < 2 ^ 16 → AllWell n (pointers.near_code pointer at)
near_well n pointer at low few = record { all = search (rules, low, few) }

pub far_store_well : (n at bytes : ℕ) → at < 2 ^ 16 → AllWell n (pointers.far_store at bytes)
far_store_well n at bytes few =
    let upper : AllWell n pointers.upper_bytes = record { all = search rules } in
    let second : AllWell n pointers.second_byte = record { all = search rules } in
    let third : AllWell n (pointers.third_bytes bytes) = well_if n (nat_lt bytes 3) [] pointers.upper_bytes (well_none n) upper in
    let further : AllWell n (pointers.further_bytes bytes) = well_if n (nat_lt bytes 2) [] (pointers.second_byte ++ pointers.third_bytes bytes) (well_none n) (well_append n pointers.second_byte (pointers.third_bytes bytes) second third) in
    let kept : AllWell n (zero_page Sta tmp1 ∷ zero_page Stx tmp2 ∷ []) = record { all = search rules } in
    let lowest : AllWell n (value Ldy 0 ∷ zero_page Lda tmp1 ∷ by_y Sta ptr1 ∷ []) = record { all = search rules } in
    well_append n _ _ kept (well_append n (pointers.near_code ptr1 at) _ (near_well n ptr1 at (omega arith) few) (well_append n _ (pointers.further_bytes bytes) lowest further))

pub bank_clear_well : (n bank bytes : ℕ) → AllWell n (pointers.clear_code bank bytes)
bank_clear_well n bank bytes =
    let first : AllWell n (value Lda 0 ∷ zero_page Sta ((regbank + bank) % 256) ∷ []) = record { all = search rules } in
    let second : AllWell n (zero_page Sta (((regbank + bank) % 256 + 1) % 256) ∷ []) = record { all = search rules } in
    well_append n _ _ first (well_if n (nat_lt bytes 2) [] _ (well_none n) second)

-- ---- blocks of bytes

pages_when : (n : ℕ) (each after : List Line) (pages l : ℕ) (b : Bool) → pages < 2 ^ 8 → l + (if b then 0 else 1) ≤ 2 ^ 32 → AllWell n each → AllWell n after
    → AllWell n (if b then [] else value Ldx pages ∷ Label l ∷ (each ++ (implied Iny ∷ branch Bne l ∷ (after ++ (implied Dex ∷ branch Bne l ∷ [])))))
pages_when n each after pages l true few room he ha = well_none n
pages_when n each after pages l false few room he ha =
    let below : l < 2 ^ 32 = omega (arith, room) in
    let last : AllWell n (implied Dex ∷ branch Bne l ∷ []) = record { all = ((tt, tt), ((tt, below), tt)) } in
    let turn : AllWell n (implied Iny ∷ branch Bne l ∷ (after ++ (implied Dex ∷ branch Bne l ∷ []))) = well_more n _ _ (tt, tt) (well_more n _ _ (tt, below) (well_append n after _ ha last)) in
    well_more n _ _ (tt, few) (well_more n (Label l) _ below (well_append n each _ he turn))

rest_when : (n : ℕ) (each : List Line) (bytes l : ℕ) (b : Bool) → bytes < 2 ^ 8 → l + (if b then 0 else 1) ≤ 2 ^ 32 → AllWell n each → AllWell n (if b then [] else Label l ∷ (each ++ (implied Iny ∷ value Cpy bytes ∷ branch Bne l ∷ [])))
rest_when n each bytes l true few room he = well_none n
rest_when n each bytes l false few room he =
    let below : l < 2 ^ 32 = omega (arith, room) in
    well_more n (Label l) _ below (well_append n each _ he (record { all = ((tt, tt), ((tt, few), ((tt, below), tt))) }))

block_well : (n : ℕ) (each after : List Line) (bytes l : ℕ) → bytes < 65536 → l + block_labels bytes ≤ 2 ^ 32 → AllWell n each → AllWell n after → AllWell n (block_code each after bytes l)
block_well n each after bytes l few room he ha =
    let second : ℕ = l + loop_labels (bytes / 256) in
    let pages : AllWell n (pages_code each after (bytes / 256) l) = pages_when n each after (bytes / 256) l (bytes / 256 == 0) (omega (arith, few)) (omega (arith, room)) he ha in
    let rest : AllWell n (rest_code each (bytes % 256) second) = rest_when n each (bytes % 256) second (bytes % 256 == 0) (omega arith) (omega (arith, room)) he in
    well_append n (pages_code each after (bytes / 256) l) (rest_code each (bytes % 256) second) pages rest

pub clear_well : (n bytes l : ℕ) → bytes < 65536 → l + block_labels bytes ≤ 2 ^ 32 → AllWell n (blocks.clear_code bytes l)
clear_well n bytes l few room =
    let block : AllWell n (block_code (by_y Sta ptr1 ∷ []) (zero_page Inc (ptr1 + 1) ∷ []) bytes l) = block_well n (by_y Sta ptr1 ∷ []) (zero_page Inc (ptr1 + 1) ∷ []) bytes l few room (record { all = search rules }) (record { all = search rules }) in
    well_more n _ _ (tt, omega arith) (well_more n _ _ (tt, omega arith) block)

pub copy_well : (n bytes l : ℕ) → bytes < 65536 → l + block_labels bytes ≤ 2 ^ 32 → AllWell n (blocks.copy_code bytes l)
copy_well n bytes l few room =
    let block : AllWell n (block_code (by_y Lda ptr1 ∷ by_y Sta ptr2 ∷ []) (zero_page Inc (ptr1 + 1) ∷ zero_page Inc (ptr2 + 1) ∷ []) bytes l) = block_well n (by_y Lda ptr1 ∷ by_y Sta ptr2 ∷ []) (zero_page Inc (ptr1 + 1) ∷ zero_page Inc (ptr2 + 1) ∷ []) bytes l few room (record { all = search rules }) (record { all = search rules }) in
    well_more n _ _ (tt, omega arith) block

-- ---- the choice of a case

test_well : (n : ℕ) (w : Width) (bits other at : ℕ) → other < 2 ^ 32 → at < 2 ^ 32 → AllWell n (test_code w bits other at)
test_well n Ax bits other at first second = record { all = search (rules, first, second) }
test_well n Eax bits other at first second = record { all = search (rules, first, second) }

cases_well : (n : ℕ) (w : Width) (at l : ℕ) (zs : List ℤ) → at < 2 ^ 32 → l + length zs ≤ 2 ^ 32 → AllWell n (case_codes w at l zs)
cases_well n w at l [] low room = well_none n
cases_well n w at l (z ∷ zs) low room =
    let here : l < 2 ^ 32 = omega (arith, room) in
    let case : AllWell n (case_code w z at l) = well_append n (test_code w (bits_of z) l at) (Label l ∷ []) (test_well n w (bits_of z) l at here low) (record { all = (here, tt) }) in
    well_append n (case_code w z at l) _ case (cases_well n w ((at + 1) % 4294967296) (l + 1) zs (omega arith) (omega (arith, room)))

bytes_well : (n at : ℕ) (zs : List ℤ) → at < 2 ^ 32 → AllWell n (byte_tests at zs)
bytes_well n at [] low = well_none n
bytes_well n at (z ∷ zs) low =
    let first : AllWell n (value Cmp (byte_of (bits_of z) 1) ∷ branch Beq at ∷ []) = record { all = search (rules, low) } in
    well_append n _ (byte_tests ((at + 1) % 4294967296) zs) first (bytes_well n ((at + 1) % 4294967296) zs (omega arith))

pub choice_well : (n : ℕ) (w : Width) (other at l : ℕ) (zs : List ℤ) → other < 2 ^ 32 → at < 2 ^ 32 → l + choice_labels w zs ≤ 2 ^ 32 → AllWell n (choice_code w other at l zs)
choice_well n w other at l zs out low room = by (by_bytes w zs) room
  where
    by : (b : Bool) → l + (if b then 0 else length zs) ≤ 2 ^ 32 → AllWell n (if b then byte_choice other at zs else case_codes w at l zs)
    by true room =
        let first : AllWell n (value Cpx 0 ∷ branch Bne other ∷ []) = record { all = search (rules, out) } in
        well_append n _ (byte_tests at zs) first (bytes_well n at zs low)
    by false room = cases_well n w at l zs low room
