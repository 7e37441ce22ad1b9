-- Lines at the entry and the end of functions, and about objects: of any size, with no labels or with labels of their own.
use Rattle.std.proofs.Common.{◌≡◌, ℕ, zero, suc, ◌+◌, ◌/◌, ◌%◌, ◌==◌, Bool, true, false, Option, None, Some, List, [], ◌∷◌, ◌++◌, length, refl, sym, ◌∙◌, subst, arith}
use Rattle.std.specs.Prelude.{if◌then◌else◌, nat_lt, nat_le}
use Rattle.std.specs.List.{list_all}
use Rattle.c65_mach.specs.declared.rows.Op.TheVariants.{Adc, Clc, Tax, Bne, Cpy, Dex, Iny, Inc, Lda, Ldx, Ldy, Sta, Stx, Pha, Pla, Rts, Tay, Txa, Tya}
use Rattle.c65_mach.specs.declared.rows.Mode.TheVariants.{Relative}
use Rattle.c65_code.specs.declared.line.Line.{Line}
use Rattle.c65_code.specs.declared.line.Line.TheVariants.{Label}
use Rattle.c65_code.specs.declared.routine.Count.{Count}
use Rattle.c65_code.specs.declared.routine.Routine.TheVariants.{PushA, AddYSp, SaveRegs, RestRegs, LdAxYSp, LdAi, LdAxi}
use Rattle.c65_genframe.specs.declared.home.Arrival.{Arrival}
use Rattle.c65_genframe.specs.declared.home.Arrival.TheVariants.{Passed, Pushed, Kept}
use Rattle.c65_genframe.specs.declared.home.Moved.{Moved}
use Rattle.c65_genframe.specs.Frames.{Framed}
use Rattle.c65_genwide.specs.Lines.{value, call}
use Rattle.c65_genentry.specs.Words.{sp, tmp1, tmp2, ptr1, ptr2, regbank, implied, zero_page, by_y, branch}
use Rattle.c65_genentry.specs.Stack.{count_of, raise_by, lower_by, small_raise, small_lower, repeated, raise_code, lower_code}
use Rattle.c65_genentry.specs.Ends.{bank_loads, few_loads, few_restored, restored_code, plain_end, variadic_end, end_code}
use Rattle.c65_genentry.specs.Entry.{pushed_code, bank_store, kept_code, bank_saves, few_saved, saved_code, counted_code, count_code, near_load, far_load, load_code, moved_code, all_moved, counted_at, counted_store, counted_move, all_counted, raised_moves, early_moves, late_moves, taken_bytes, checked_code, taking_code, entry_code}
use Rattle.c65_genentry.specs.Pointers as pointers
use Rattle.c65_genentry.specs.Bytes.{pages_code, rest_code, loop_labels, block_code, block_labels}
use Rattle.c65_genentry.specs.Bytes as blocks
use Rattle.c65_genload.specs.declared.places.Access.{Access}
use Rattle.c65_genload.specs.declared.places.Place.TheVariants as places
use Rattle.c65_genload.specs.Stores.{store_code}
use Rattle.c65_genstmt.specs.declared.objects.Spot.{Spot}
use Rattle.c65_genstmt.specs.declared.objects.Spot.TheVariants.{Bank, Soft, Data}
use Rattle.c65_genstmt.specs.Objects.{point_code, stored_code}
use Rattle.c65_gen_law_lines.specs.Labels.{times, among}
use Rattle.c65_gen_law_lines.proofs.Made.{is_early, is_plain, times-append, plain_times, among_split, among_none, among_one, Leads, leads_wider, leads_append, leads_plain, leads_to, all_append, Piece}
use Rattle.c65_gen_law_lines.proofs.Pieces.{pass_piece, store_piece}

pub record Flat (lines : List Line) : Type 0 where
  pub plain : list_all is_plain lines ≡ true
  pub fit : list_all is_early lines ≡ true

-- the labels from lo on, so many
pub record Own (lo n : ℕ) (lines : List Line) : Type 0 where
  pub once : (l : ℕ) → times l lines ≡ among lo n l
  pub leads : Leads lo n lines
  pub fit : list_all is_early lines ≡ true

pub flat_piece : (k : ℕ) (a : List Line) → Piece k a → Flat a
flat_piece k a p = record { plain = p.plain; fit = p.fit }

pub flat_none : Flat []
flat_none = record { plain = refl; fit = refl }

pub flat_append : (a b : List Line) → Flat a → Flat b → Flat (a ++ b)
flat_append a b fa fb = record { plain = all_append is_plain a b fa.plain fb.plain; fit = all_append is_early a b fa.fit fb.fit }

pub flat_if : (b : Bool) (x y : List Line) → Flat x → Flat y → Flat (if b then x else y)
flat_if true x y fx fy = fx
flat_if false x y fx fy = fy

pub own_flat : (lo : ℕ) (a : List Line) → Flat a → Own lo 0 a
own_flat lo a p = record { once = λ l. plain_times l a p.plain ∙ sym (among_none lo l); leads = leads_plain lo 0 a p.plain; fit = p.fit }

pub own_append : (lo m n : ℕ) (a b : List Line) → Own lo m a → Own (lo + m) n b → Own lo (m + n) (a ++ b)
own_append lo m n a b ma mb = record {
  once = λ l. omega (arith, times-append l a b, ma.once l, mb.once l, among_split lo m n l);
  leads = leads_append lo (m + n) a b (leads_wider lo m lo (m + n) a (omega arith) (omega arith) ma.leads) (leads_wider (lo + m) n lo (m + n) b (omega arith) (omega arith) mb.leads);
  fit = all_append is_early a b ma.fit mb.fit;
}

pub own_before : (lo n : ℕ) (p a : List Line) → Flat p → Own lo n a → Own lo n (p ++ a)
own_before lo n p a pp ma = record {
  once = λ l. omega (arith, times-append l p a, ma.once l, plain_times l p pp.plain);
  leads = leads_append lo n p a (leads_plain lo n p pp.plain) ma.leads;
  fit = all_append is_early p a pp.fit ma.fit;
}

own_as : (lo n m : ℕ) (a : List Line) → n ≡ m → Own lo n a → Own lo m a
own_as lo n m a e own = subst (λ (x : ℕ). Own lo x a) e own

-- ---- the software stack's pointer

repeated_flat : (n : ℕ) (a : List Line) → Flat a → Flat (repeated n a)
repeated_flat zero a p = flat_none
repeated_flat (suc n) a p = flat_append (repeated n a) a (repeated_flat n a p) p

raise_by_flat : (n : ℕ) (c : Option Count) → Flat (raise_by n c)
raise_by_flat n None = record { plain = refl; fit = refl }
raise_by_flat n (Some c) = record { plain = refl; fit = refl }

lower_by_flat : (n : ℕ) (c : Option Count) → Flat (lower_by n c)
lower_by_flat n None = record { plain = refl; fit = refl }
lower_by_flat n (Some c) = record { plain = refl; fit = refl }

small_raise_flat : (n : ℕ) → Flat (small_raise n)
small_raise_flat n = flat_if (n == 0) [] (raise_by n (count_of n)) flat_none (raise_by_flat n (count_of n))

small_lower_flat : (n : ℕ) → Flat (small_lower n)
small_lower_flat n = flat_if (n == 0) [] (lower_by n (count_of n)) flat_none (lower_by_flat n (count_of n))

raise_flat : (n : ℕ) → Flat (raise_code n)
raise_flat n = flat_append (repeated (n / 255) (small_raise 255)) (small_raise (n % 255)) (repeated_flat (n / 255) (small_raise 255) (small_raise_flat 255)) (small_raise_flat (n % 255))

lower_flat : (n : ℕ) → Flat (lower_code n)
lower_flat n = flat_append (repeated (n / 255) (small_lower 255)) (small_lower (n % 255)) (repeated_flat (n / 255) (small_lower 255) (small_lower_flat 255)) (small_lower_flat (n % 255))

-- ---- entry and end

pushed_flat : (a : Arrival) → Flat (pushed_code a)
pushed_flat Passed = flat_none
pushed_flat (Pushed bytes) = flat_piece _ _ (pass_piece bytes)
pushed_flat (Kept bank bytes) = flat_none

bank_store_flat : (bank bytes : ℕ) → Flat (bank_store bank bytes)
bank_store_flat bank bytes = flat_if (nat_lt bytes 2) (zero_page Sta ((regbank + bank) % 256) ∷ []) (zero_page Sta ((regbank + bank) % 256) ∷ zero_page Stx (((regbank + bank) % 256 + 1) % 256) ∷ []) (record { plain = refl; fit = refl }) (record { plain = refl; fit = refl })

kept_flat : (a : Arrival) → Flat (kept_code a)
kept_flat Passed = flat_none
kept_flat (Pushed bytes) = flat_none
kept_flat (Kept bank bytes) = bank_store_flat bank bytes

bank_saves_flat : (n : ℕ) → Flat (bank_saves n)
bank_saves_flat zero = flat_none
bank_saves_flat (suc n) = flat_append (bank_saves n) (value Ldy n ∷ zero_page Lda ((regbank + n) % 256) ∷ by_y Sta sp ∷ []) (bank_saves_flat n) (record { plain = refl; fit = refl })

few_saved_flat : (bank : ℕ) → Flat (few_saved bank)
few_saved_flat bank =
    let wait : Flat (zero_page Sta tmp1 ∷ []) = record { plain = refl; fit = refl } in
    let last : Flat (zero_page Lda tmp1 ∷ []) = record { plain = refl; fit = refl } in
    flat_append (lower_code bank) (zero_page Sta tmp1 ∷ (bank_saves bank ++ zero_page Lda tmp1 ∷ [])) (lower_flat bank) (flat_append (zero_page Sta tmp1 ∷ []) (bank_saves bank ++ zero_page Lda tmp1 ∷ []) wait (flat_append (bank_saves bank) (zero_page Lda tmp1 ∷ []) (bank_saves_flat bank) last))

saved_flat : (bank : ℕ) → Flat (saved_code bank)
saved_flat bank = flat_if (bank == 0) [] (if nat_lt bank 6 then few_saved bank else call SaveRegs ∷ []) flat_none (flat_if (nat_lt bank 6) (few_saved bank) (call SaveRegs ∷ []) (few_saved_flat bank) (record { plain = refl; fit = refl }))

near_load_flat : (at bytes : ℕ) → Flat (near_load at bytes)
near_load_flat at bytes = flat_if (nat_lt bytes 2) (value Ldy at ∷ by_y Lda sp ∷ []) (value Ldy (at + 1) ∷ call LdAxYSp ∷ []) (record { plain = refl; fit = refl }) (record { plain = refl; fit = refl })

far_load_flat : (at bytes : ℕ) → Flat (far_load at bytes)
far_load_flat at bytes = flat_append (implied Clc ∷ zero_page Lda sp ∷ value Adc (at % 256) ∷ implied Tay ∷ zero_page Lda (sp + 1) ∷ value Adc (at / 256) ∷ implied Tax ∷ implied Tya ∷ []) (if nat_lt bytes 2 then call LdAi ∷ [] else call LdAxi ∷ []) (record { plain = refl; fit = refl }) (flat_if (nat_lt bytes 2) (call LdAi ∷ []) (call LdAxi ∷ []) (record { plain = refl; fit = refl }) (record { plain = refl; fit = refl }))

load_flat : (at bytes : ℕ) → Flat (load_code at bytes)
load_flat at bytes = flat_if (nat_lt at 255) (near_load at bytes) (far_load at bytes) (near_load_flat at bytes) (far_load_flat at bytes)

moved_flat : (ms : List Moved) → Flat (all_moved ms)
moved_flat [] = flat_none
moved_flat (m ∷ ms) = flat_append (moved_code m) (all_moved ms) (flat_append (load_code m.from m.bytes) (bank_store m.bank m.bytes) (load_flat m.from m.bytes) (bank_store_flat m.bank m.bytes)) (moved_flat ms)

counted_store_flat : (bank bytes : ℕ) → Flat (counted_store bank bytes)
counted_store_flat bank bytes = flat_if (nat_lt bytes 2) (zero_page Sta ((regbank + bank) % 256) ∷ []) (zero_page Sta ((regbank + bank) % 256) ∷ implied Iny ∷ by_y Lda sp ∷ zero_page Sta (((regbank + bank) % 256 + 1) % 256) ∷ []) (record { plain = refl; fit = refl }) (record { plain = refl; fit = refl })

counted_flat : (soft stacked : ℕ) (ms : List Moved) → Flat (all_counted soft stacked ms)
counted_flat soft stacked [] = flat_none
counted_flat soft stacked (m ∷ ms) =
    let found : Flat (implied Txa ∷ implied Clc ∷ value Adc (counted_at soft stacked m.from) ∷ implied Tay ∷ by_y Lda sp ∷ []) = record { plain = refl; fit = refl } in
    flat_append (counted_move soft stacked m) (all_counted soft stacked ms) (flat_append _ (counted_store m.bank m.bytes) found (counted_store_flat m.bank m.bytes)) (counted_flat soft stacked ms)

raised_flat : (soft stacked : ℕ) (ms : List Moved) → Flat (raised_moves soft stacked ms)
raised_flat soft stacked ms =
    let to : Flat (implied Tax ∷ []) = record { plain = refl; fit = refl } in
    let back : Flat (implied Txa ∷ []) = record { plain = refl; fit = refl } in
    flat_if (length ms == 0) [] (implied Tax ∷ (all_counted soft stacked ms ++ implied Txa ∷ [])) flat_none (flat_append (implied Tax ∷ []) (all_counted soft stacked ms ++ implied Txa ∷ []) to (flat_append (all_counted soft stacked ms) (implied Txa ∷ []) (counted_flat soft stacked ms) back))

checked_flat : (check : Option ℕ) → Flat (checked_code check)
checked_flat None = flat_none
checked_flat (Some c) = record { plain = refl; fit = refl }

taking_flat : (f : Framed) → Flat (taking_code f)
taking_flat f =
    let counted : Flat (counted_code f.variadic) = flat_if f.variadic (implied Tya ∷ []) [] (record { plain = refl; fit = refl }) flat_none in
    let count : Flat (count_code f.variadic) = flat_if f.variadic (call PushA ∷ []) [] (record { plain = refl; fit = refl }) flat_none in
    let early : Flat (early_moves f) = flat_if f.variadic (raised_moves f.soft f.stacked f.moved) [] (raised_flat f.soft f.stacked f.moved) flat_none in
    let late : Flat (late_moves f) = flat_if f.variadic [] (all_moved f.moved) flat_none (moved_flat f.moved) in
    flat_append (pushed_code f.last) _ (pushed_flat f.last) (flat_append (counted_code f.variadic) _ counted (flat_append (saved_code f.bank) _ (saved_flat f.bank) (flat_append (early_moves f) _ early (flat_append (kept_code f.last) _ (kept_flat f.last) (flat_append (lower_code (taken_bytes f.variadic f.soft)) _ (lower_flat (taken_bytes f.variadic f.soft)) (flat_append (count_code f.variadic) (late_moves f) count late))))))

pub entry_flat : (f : Framed) → Flat (entry_code f)
entry_flat f = flat_append (checked_code f.check) (taking_code f) (checked_flat f.check) (taking_flat f)

bank_loads_flat : (n : ℕ) → Flat (bank_loads n)
bank_loads_flat zero = flat_none
bank_loads_flat (suc n) = flat_append (bank_loads n) (value Ldy n ∷ by_y Lda sp ∷ zero_page Sta ((regbank + n) % 256) ∷ []) (bank_loads_flat n) (record { plain = refl; fit = refl })

few_loads_flat : (bank : ℕ) → Flat (few_loads bank)
few_loads_flat bank =
    let wait : Flat (zero_page Sta tmp1 ∷ []) = record { plain = refl; fit = refl } in
    let last : Flat (zero_page Lda tmp1 ∷ []) = record { plain = refl; fit = refl } in
    flat_append (zero_page Sta tmp1 ∷ []) (bank_loads bank ++ zero_page Lda tmp1 ∷ []) wait (flat_append (bank_loads bank) (zero_page Lda tmp1 ∷ []) (bank_loads_flat bank) last)

few_restored_flat : (bank : ℕ) → Flat (few_restored bank)
few_restored_flat bank = flat_append (few_loads bank) (raise_code bank) (few_loads_flat bank) (raise_flat bank)

restored_flat : (bank : ℕ) → Flat (restored_code bank)
restored_flat bank = flat_if (bank == 0) [] (if nat_lt bank 6 then few_restored bank else call RestRegs ∷ []) flat_none (flat_if (nat_lt bank 6) (few_restored bank) (call RestRegs ∷ []) (few_restored_flat bank) (record { plain = refl; fit = refl }))

variadic_flat : (soft bank : ℕ) → Flat (variadic_end soft bank)
variadic_flat soft bank =
    let first : List Line = zero_page Sta tmp1 ∷ value Ldy 0 ∷ by_y Lda sp ∷ implied Pha ∷ zero_page Lda tmp1 ∷ [] in
    let last : List Line = zero_page Sta tmp1 ∷ implied Pla ∷ implied Tay ∷ zero_page Lda tmp1 ∷ call AddYSp ∷ implied Rts ∷ [] in
    let first_flat : Flat first = record { plain = refl; fit = refl } in
    let last_flat : Flat last = record { plain = refl; fit = refl } in
    flat_append first (raise_code soft ++ (restored_code bank ++ last)) first_flat (flat_append (raise_code soft) (restored_code bank ++ last) (raise_flat soft) (flat_append (restored_code bank) last (restored_flat bank) last_flat))

plain_flat : (soft bank stacked : ℕ) → Flat (plain_end soft bank stacked)
plain_flat soft bank stacked =
    let last_flat : Flat (implied Rts ∷ []) = record { plain = refl; fit = refl } in
    flat_append (raise_code soft) (restored_code bank ++ (raise_code stacked ++ implied Rts ∷ [])) (raise_flat soft) (flat_append (restored_code bank) (raise_code stacked ++ implied Rts ∷ []) (restored_flat bank) (flat_append (raise_code stacked) (implied Rts ∷ []) (raise_flat stacked) last_flat))

pub end_flat : (f : Framed) → Flat (end_code f)
end_flat f = flat_if f.variadic (variadic_end f.soft f.bank) (plain_end f.soft f.bank f.stacked) (variadic_flat f.soft f.bank) (plain_flat f.soft f.bank f.stacked)

-- ---- objects

pub point_flat : (pointer : ℕ) (spot : Spot) → Flat (point_code pointer spot)
point_flat pointer (Bank b) = flat_none
point_flat pointer (Soft at) = record { plain = refl; fit = refl }
point_flat pointer (Data s at) = record { plain = refl; fit = refl }

far_store_flat : (at bytes : ℕ) → Flat (pointers.far_store at bytes)
far_store_flat at bytes =
    let upper : Flat pointers.upper_bytes = record { plain = refl; fit = refl } in
    let second : Flat pointers.second_byte = record { plain = refl; fit = refl } in
    let third : Flat (pointers.third_bytes bytes) = flat_if (nat_lt bytes 3) [] pointers.upper_bytes flat_none upper in
    let further : Flat (pointers.further_bytes bytes) = flat_if (nat_lt bytes 2) [] (pointers.second_byte ++ pointers.third_bytes bytes) flat_none (flat_append pointers.second_byte (pointers.third_bytes bytes) second third) in
    let kept : List Line = zero_page Sta tmp1 ∷ zero_page Stx tmp2 ∷ [] in
    let lowest : List Line = value Ldy 0 ∷ zero_page Lda tmp1 ∷ by_y Sta ptr1 ∷ [] in
    let kept_lines : Flat kept = record { plain = refl; fit = refl } in
    let lowest_lines : Flat lowest = record { plain = refl; fit = refl } in
    let near : Flat (pointers.near_code ptr1 at) = record { plain = refl; fit = refl } in
    flat_append kept (pointers.near_code ptr1 at ++ (lowest ++ pointers.further_bytes bytes)) kept_lines (flat_append (pointers.near_code ptr1 at) (lowest ++ pointers.further_bytes bytes) near (flat_append lowest (pointers.further_bytes bytes) lowest_lines further))

pub stored_flat : (spot : Spot) (access : Access) (bytes : ℕ) → Flat (stored_code spot access bytes)
stored_flat (Bank b) access bytes = flat_piece _ _ (store_piece (places.Bank b) access)
stored_flat (Soft at) access bytes = flat_if (nat_le at 252) (store_code (places.Near at) access) (pointers.far_store at bytes) (flat_piece _ _ (store_piece (places.Near at) access)) (far_store_flat at bytes)
stored_flat (Data s at) access bytes = flat_piece _ _ (store_piece (places.Data s at) access)

pub bank_clear_flat : (bank bytes : ℕ) → Flat (pointers.clear_code bank bytes)
bank_clear_flat bank bytes =
    let first : List Line = value Lda 0 ∷ zero_page Sta ((regbank + bank) % 256) ∷ [] in
    let second : List Line = zero_page Sta (((regbank + bank) % 256 + 1) % 256) ∷ [] in
    let first_flat : Flat first = record { plain = refl; fit = refl } in
    let second_flat : Flat second = record { plain = refl; fit = refl } in
    flat_append first (if nat_lt bytes 2 then [] else second) first_flat (flat_if (nat_lt bytes 2) [] second flat_none second_flat)

-- ---- blocks of bytes

pages_own : (each after : List Line) (n l : ℕ) (b : Bool) → Flat each → Flat after
    → Own l (if b then 0 else 1) (if b then [] else value Ldx n ∷ Label l ∷ (each ++ (implied Iny ∷ branch Bne l ∷ (after ++ (implied Dex ∷ branch Bne l ∷ [])))))
pages_own each after n l true fe fa = own_flat l [] flat_none
pages_own each after n l false fe fa =
    let last : List Line = implied Dex ∷ branch Bne l ∷ [] in
    let turn : List Line = implied Iny ∷ branch Bne l ∷ (after ++ last) in
    let back : Leads l 1 (branch Bne l ∷ []) = leads_to l 1 l Bne Relative [] (omega arith) (omega arith) (record { all = refl }) in
    let ended : Leads l 1 last = record { all = back.all } in
    let behind : Leads l 1 (after ++ last) = leads_append l 1 after last (leads_plain l 1 after fa.plain) ended in
    let again : Leads l 1 (branch Bne l ∷ (after ++ last)) = leads_to l 1 l Bne Relative (after ++ last) (omega arith) (omega arith) behind in
    let turned : Leads l 1 turn = record { all = again.all } in
    let body : Leads l 1 (each ++ turn) = leads_append l 1 each turn (leads_plain l 1 each fe.plain) turned in
    record {
      once = λ k. omega (arith, times-append k each turn, times-append k after last, plain_times k each fe.plain, plain_times k after fa.plain, among_one l k);
      leads = record { all = body.all };
      fit = all_append is_early each turn fe.fit (all_append is_early after last fa.fit refl);
    }

rest_own : (each : List Line) (bytes l : ℕ) (b : Bool) → Flat each → Own l (if b then 0 else 1) (if b then [] else Label l ∷ (each ++ (implied Iny ∷ value Cpy bytes ∷ branch Bne l ∷ [])))
rest_own each bytes l true fe = own_flat l [] flat_none
rest_own each bytes l false fe =
    let turn : List Line = implied Iny ∷ value Cpy bytes ∷ branch Bne l ∷ [] in
    let back : Leads l 1 (branch Bne l ∷ []) = leads_to l 1 l Bne Relative [] (omega arith) (omega arith) (record { all = refl }) in
    let turned : Leads l 1 turn = record { all = back.all } in
    let body : Leads l 1 (each ++ turn) = leads_append l 1 each turn (leads_plain l 1 each fe.plain) turned in
    record {
      once = λ k. omega (arith, times-append k each turn, plain_times k each fe.plain, among_one l k);
      leads = record { all = body.all };
      fit = all_append is_early each turn fe.fit refl;
    }

block_own : (each after : List Line) (bytes l : ℕ) → Flat each → Flat after → Own l (block_labels bytes) (block_code each after bytes l)
block_own each after bytes l fe fa =
    let first : Own l (loop_labels (bytes / 256)) (pages_code each after (bytes / 256) l) = pages_own each after (bytes / 256) l (bytes / 256 == 0) fe fa in
    let second : Own (l + loop_labels (bytes / 256)) (loop_labels (bytes % 256)) (rest_code each (bytes % 256) (l + loop_labels (bytes / 256))) =
    rest_own each (bytes % 256) (l + loop_labels (bytes / 256)) (bytes % 256 == 0) fe in
    own_append l (loop_labels (bytes / 256)) (loop_labels (bytes % 256)) (pages_code each after (bytes / 256) l) (rest_code each (bytes % 256) (l + loop_labels (bytes / 256))) first second

pub clear_own : (bytes l : ℕ) → Own l (block_labels bytes) (blocks.clear_code bytes l)
clear_own bytes l = own_before l (block_labels bytes) (value Ldy 0 ∷ value Lda 0 ∷ []) _ (record { plain = refl; fit = refl }) (block_own (by_y Sta ptr1 ∷ []) (zero_page Inc (ptr1 + 1) ∷ []) bytes l (record { plain = refl; fit = refl }) (record { plain = refl; fit = refl }))

pub copy_own : (bytes l : ℕ) → Own l (block_labels bytes) (blocks.copy_code bytes l)
copy_own bytes l = own_before l (block_labels bytes) (value Ldy 0 ∷ []) _ (record { plain = refl; fit = refl }) (block_own (by_y Lda ptr1 ∷ by_y Sta ptr2 ∷ []) (zero_page Inc (ptr1 + 1) ∷ zero_page Inc (ptr2 + 1) ∷ []) bytes l (record { plain = refl; fit = refl }) (record { plain = refl; fit = refl }))
