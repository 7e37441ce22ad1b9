-- Entries and ends of functions call no function.
use Rattle.std.proofs.Common.{ℕ, zero, suc, ◌+◌, ◌/◌, ◌%◌, ◌==◌, Bool, true, false, Option, None, Some, List, [], ◌∷◌, ◌++◌, length, refl}
use Rattle.std.specs.Prelude.{if◌then◌else◌, nat_lt}
use Rattle.c65_mach.specs.declared.rows.Op.TheVariants.{Adc, Clc, Tax, Iny, Lda, Ldy, Sta, Stx, Pha, Pla, Rts, Tay, Txa, Tya}
use Rattle.c65_code.specs.declared.line.Line.{Line}
use Rattle.c65_code.specs.declared.routine.Count.{Count}
use Rattle.c65_code.specs.declared.routine.Routine.TheVariants.{PushA, PushAx, PushEax, AddYSp, SaveRegs, RestRegs, LdAxYSp, LdAi, LdAxi}
use Rattle.c65_genframe.specs.declared.home.Arrival.{Arrival}
use Rattle.c65_genframe.specs.declared.home.Arrival.TheVariants.{Passed, Pushed, Kept}
use Rattle.c65_genframe.specs.declared.home.Moved.{Moved}
use Rattle.c65_genframe.specs.Frames.{Framed}
use Rattle.c65_genwide.specs.Lines.{value, call}
use Rattle.c65_genwide.specs.Passing.{three_code, pass_bytes}
use Rattle.c65_genentry.specs.Words.{sp, tmp1, regbank, implied, zero_page, by_y}
use Rattle.c65_genentry.specs.Stack.{count_of, raise_by, lower_by, small_raise, small_lower, repeated, raise_code, lower_code}
use Rattle.c65_genentry.specs.Ends.{bank_loads, few_loads, few_restored, restored_code, plain_end, variadic_end, end_code}
use Rattle.c65_genentry.specs.Entry.{pushed_code, bank_store, kept_code, bank_saves, few_saved, saved_code, counted_code, count_code, near_load, far_load, load_code, moved_code, all_moved, counted_at, counted_store, counted_move, all_counted, raised_moves, early_moves, late_moves, taken_bytes, checked_code, taking_code, entry_code}
use Rattle.c65_gen_law_calls.proofs.Callings.{Free, free_append, free_none, free_if}

free_both : (a b : List Line) → Free a → Free b → Free (a ++ b)
free_both a b p q = free_append {a = a} {b = b} p q

free_choice : (b : Bool) (x y : List Line) → Free x → Free y → Free (if b then x else y)
free_choice b x y p q = free_if b {x = x} {y = y} p q

pass_by : (a b c : Bool) → Free (if a then call PushA ∷ [] else (if b then call PushAx ∷ [] else (if c then three_code else call PushEax ∷ [])))
pass_by true b c = record { none = refl }
pass_by false true c = record { none = refl }
pass_by false false true = record { none = refl }
pass_by false false false = record { none = refl }

pass_free : (n : ℕ) → Free (pass_bytes n)
pass_free n = pass_by (nat_lt n 2) (nat_lt n 3) (nat_lt n 4)

-- ---- the software stack's pointer

repeated_free : (n : ℕ) (a : List Line) → Free a → Free (repeated n a)
repeated_free zero a p = free_none
repeated_free (suc n) a p = free_both (repeated n a) a (repeated_free n a p) p

raise_by_free : (n : ℕ) (c : Option Count) → Free (raise_by n c)
raise_by_free n None = record { none = refl }
raise_by_free n (Some c) = record { none = refl }

lower_by_free : (n : ℕ) (c : Option Count) → Free (lower_by n c)
lower_by_free n None = record { none = refl }
lower_by_free n (Some c) = record { none = refl }

small_raise_free : (n : ℕ) → Free (small_raise n)
small_raise_free n = free_choice (n == 0) [] (raise_by n (count_of n)) free_none (raise_by_free n (count_of n))

small_lower_free : (n : ℕ) → Free (small_lower n)
small_lower_free n = free_choice (n == 0) [] (lower_by n (count_of n)) free_none (lower_by_free n (count_of n))

raise_free : (n : ℕ) → Free (raise_code n)
raise_free n = free_both (repeated (n / 255) (small_raise 255)) (small_raise (n % 255)) (repeated_free (n / 255) (small_raise 255) (small_raise_free 255)) (small_raise_free (n % 255))

lower_free : (n : ℕ) → Free (lower_code n)
lower_free n = free_both (repeated (n / 255) (small_lower 255)) (small_lower (n % 255)) (repeated_free (n / 255) (small_lower 255) (small_lower_free 255)) (small_lower_free (n % 255))

-- ---- entry and end

pushed_free : (a : Arrival) → Free (pushed_code a)
pushed_free Passed = free_none
pushed_free (Pushed bytes) = pass_free bytes
pushed_free (Kept bank bytes) = free_none

bank_store_free : (bank bytes : ℕ) → Free (bank_store bank bytes)
bank_store_free bank bytes = free_choice (nat_lt bytes 2) (zero_page Sta ((regbank + bank) % 256) ∷ []) (zero_page Sta ((regbank + bank) % 256) ∷ zero_page Stx (((regbank + bank) % 256 + 1) % 256) ∷ []) (record { none = refl }) (record { none = refl })

kept_free : (a : Arrival) → Free (kept_code a)
kept_free Passed = free_none
kept_free (Pushed bytes) = free_none
kept_free (Kept bank bytes) = bank_store_free bank bytes

bank_saves_free : (n : ℕ) → Free (bank_saves n)
bank_saves_free zero = free_none
bank_saves_free (suc n) = free_both (bank_saves n) (value Ldy n ∷ zero_page Lda ((regbank + n) % 256) ∷ by_y Sta sp ∷ []) (bank_saves_free n) (record { none = refl })

few_saved_free : (bank : ℕ) → Free (few_saved bank)
few_saved_free bank =
    let wait : Free (zero_page Sta tmp1 ∷ []) = record { none = refl } in
    let last : Free (zero_page Lda tmp1 ∷ []) = record { none = refl } in
    free_both (lower_code bank) (zero_page Sta tmp1 ∷ (bank_saves bank ++ zero_page Lda tmp1 ∷ [])) (lower_free bank) (free_both (zero_page Sta tmp1 ∷ []) (bank_saves bank ++ zero_page Lda tmp1 ∷ []) wait (free_both (bank_saves bank) (zero_page Lda tmp1 ∷ []) (bank_saves_free bank) last))

saved_free : (bank : ℕ) → Free (saved_code bank)
saved_free bank = free_choice (bank == 0) [] (if nat_lt bank 6 then few_saved bank else call SaveRegs ∷ []) free_none (free_choice (nat_lt bank 6) (few_saved bank) (call SaveRegs ∷ []) (few_saved_free bank) (record { none = refl }))

near_load_free : (at bytes : ℕ) → Free (near_load at bytes)
near_load_free at bytes = free_choice (nat_lt bytes 2) (value Ldy at ∷ by_y Lda sp ∷ []) (value Ldy (at + 1) ∷ call LdAxYSp ∷ []) (record { none = refl }) (record { none = refl })

far_load_free : (at bytes : ℕ) → Free (far_load at bytes)
far_load_free at bytes = free_both (implied Clc ∷ zero_page Lda sp ∷ value Adc (at % 256) ∷ implied Tay ∷ zero_page Lda (sp + 1) ∷ value Adc (at / 256) ∷ implied Tax ∷ implied Tya ∷ []) (if nat_lt bytes 2 then call LdAi ∷ [] else call LdAxi ∷ []) (record { none = refl }) (free_choice (nat_lt bytes 2) (call LdAi ∷ []) (call LdAxi ∷ []) (record { none = refl }) (record { none = refl }))

load_free : (at bytes : ℕ) → Free (load_code at bytes)
load_free at bytes = free_choice (nat_lt at 255) (near_load at bytes) (far_load at bytes) (near_load_free at bytes) (far_load_free at bytes)

moved_free : (ms : List Moved) → Free (all_moved ms)
moved_free [] = free_none
moved_free (m ∷ ms) = free_both (moved_code m) (all_moved ms) (free_both (load_code m.from m.bytes) (bank_store m.bank m.bytes) (load_free m.from m.bytes) (bank_store_free m.bank m.bytes)) (moved_free ms)

counted_store_free : (bank bytes : ℕ) → Free (counted_store bank bytes)
counted_store_free bank bytes = free_choice (nat_lt bytes 2) (zero_page Sta ((regbank + bank) % 256) ∷ []) (zero_page Sta ((regbank + bank) % 256) ∷ implied Iny ∷ by_y Lda sp ∷ zero_page Sta (((regbank + bank) % 256 + 1) % 256) ∷ []) (record { none = refl }) (record { none = refl })

counted_free : (soft stacked : ℕ) (ms : List Moved) → Free (all_counted soft stacked ms)
counted_free soft stacked [] = free_none
counted_free soft stacked (m ∷ ms) =
    let found : Free (implied Txa ∷ implied Clc ∷ value Adc (counted_at soft stacked m.from) ∷ implied Tay ∷ by_y Lda sp ∷ []) = record { none = refl } in
    free_both (counted_move soft stacked m) (all_counted soft stacked ms) (free_both _ (counted_store m.bank m.bytes) found (counted_store_free m.bank m.bytes)) (counted_free soft stacked ms)

raised_free : (soft stacked : ℕ) (ms : List Moved) → Free (raised_moves soft stacked ms)
raised_free soft stacked ms =
    let to : Free (implied Tax ∷ []) = record { none = refl } in
    let back : Free (implied Txa ∷ []) = record { none = refl } in
    free_choice (length ms == 0) [] (implied Tax ∷ (all_counted soft stacked ms ++ implied Txa ∷ [])) free_none (free_both (implied Tax ∷ []) (all_counted soft stacked ms ++ implied Txa ∷ []) to (free_both (all_counted soft stacked ms) (implied Txa ∷ []) (counted_free soft stacked ms) back))

checked_free : (check : Option ℕ) → Free (checked_code check)
checked_free None = free_none
checked_free (Some c) = record { none = refl }

taking_free : (f : Framed) → Free (taking_code f)
taking_free f =
    let counted : Free (counted_code f.variadic) = free_choice f.variadic (implied Tya ∷ []) [] (record { none = refl }) free_none in
    let count : Free (count_code f.variadic) = free_choice f.variadic (call PushA ∷ []) [] (record { none = refl }) free_none in
    let early : Free (early_moves f) = free_choice f.variadic (raised_moves f.soft f.stacked f.moved) [] (raised_free f.soft f.stacked f.moved) free_none in
    let late : Free (late_moves f) = free_choice f.variadic [] (all_moved f.moved) free_none (moved_free f.moved) in
    free_both (pushed_code f.last) _ (pushed_free f.last) (free_both (counted_code f.variadic) _ counted (free_both (saved_code f.bank) _ (saved_free f.bank) (free_both (early_moves f) _ early (free_both (kept_code f.last) _ (kept_free f.last) (free_both (lower_code (taken_bytes f.variadic f.soft)) _ (lower_free (taken_bytes f.variadic f.soft)) (free_both (count_code f.variadic) (late_moves f) count late))))))

pub entry_free : (f : Framed) → Free (entry_code f)
entry_free f = free_both (checked_code f.check) (taking_code f) (checked_free f.check) (taking_free f)

bank_loads_free : (n : ℕ) → Free (bank_loads n)
bank_loads_free zero = free_none
bank_loads_free (suc n) = free_both (bank_loads n) (value Ldy n ∷ by_y Lda sp ∷ zero_page Sta ((regbank + n) % 256) ∷ []) (bank_loads_free n) (record { none = refl })

few_loads_free : (bank : ℕ) → Free (few_loads bank)
few_loads_free bank =
    let wait : Free (zero_page Sta tmp1 ∷ []) = record { none = refl } in
    let last : Free (zero_page Lda tmp1 ∷ []) = record { none = refl } in
    free_both (zero_page Sta tmp1 ∷ []) (bank_loads bank ++ zero_page Lda tmp1 ∷ []) wait (free_both (bank_loads bank) (zero_page Lda tmp1 ∷ []) (bank_loads_free bank) last)

few_restored_free : (bank : ℕ) → Free (few_restored bank)
few_restored_free bank = free_both (few_loads bank) (raise_code bank) (few_loads_free bank) (raise_free bank)

restored_free : (bank : ℕ) → Free (restored_code bank)
restored_free bank = free_choice (bank == 0) [] (if nat_lt bank 6 then few_restored bank else call RestRegs ∷ []) free_none (free_choice (nat_lt bank 6) (few_restored bank) (call RestRegs ∷ []) (few_restored_free bank) (record { none = refl }))

variadic_free : (soft bank : ℕ) → Free (variadic_end soft bank)
variadic_free soft bank =
    let first : List Line = zero_page Sta tmp1 ∷ value Ldy 0 ∷ by_y Lda sp ∷ implied Pha ∷ zero_page Lda tmp1 ∷ [] in
    let last : List Line = zero_page Sta tmp1 ∷ implied Pla ∷ implied Tay ∷ zero_page Lda tmp1 ∷ call AddYSp ∷ implied Rts ∷ [] in
    let first_free : Free first = record { none = refl } in
    let last_free : Free last = record { none = refl } in
    free_both first (raise_code soft ++ (restored_code bank ++ last)) first_free (free_both (raise_code soft) (restored_code bank ++ last) (raise_free soft) (free_both (restored_code bank) last (restored_free bank) last_free))

plain_free : (soft bank stacked : ℕ) → Free (plain_end soft bank stacked)
plain_free soft bank stacked =
    let last_free : Free (implied Rts ∷ []) = record { none = refl } in
    free_both (raise_code soft) (restored_code bank ++ (raise_code stacked ++ implied Rts ∷ [])) (raise_free soft) (free_both (restored_code bank) (raise_code stacked ++ implied Rts ∷ []) (restored_free bank) (free_both (raise_code stacked) (implied Rts ∷ []) (raise_free stacked) last_free))

pub end_free : (f : Framed) → Free (end_code f)
end_free f = free_choice f.variadic (variadic_end f.soft f.bank) (plain_end f.soft f.bank f.stacked) (variadic_free f.soft f.bank) (plain_free f.soft f.bank f.stacked)
