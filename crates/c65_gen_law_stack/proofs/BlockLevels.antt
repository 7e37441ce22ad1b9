-- The lines about objects and of the choice of a case: their labels, and what waits there.
use Rattle.std.proofs.Common.{◌≡◌, ℕ, suc, ◌+◌, ◌/◌, ◌%◌, ◌==◌, ◌≤◌, ◌⊎◌, inl, inr, Bool, true, false, ℤ, List, [], ◌∷◌, ◌++◌, length, refl, ap, arith}
use Rattle.std.specs.Prelude.{if◌then◌else◌, nat_lt, nat_le}
use Rattle.std.specs.List.{list_all}
use Rattle.c65_mach.specs.declared.rows.Op.TheVariants.{Beq, Bne, Sta, Stx, Iny, Cpy, Dex, Lda, Ldx, Ldy, Inc, Cpx, Cmp}
use Rattle.c65_mach.specs.declared.rows.Mode.TheVariants.{Relative}
use Rattle.c65_code.specs.declared.line.Line.{Line}
use Rattle.c65_code.specs.declared.line.Line.TheVariants.{Label}
use Rattle.c65_code.specs.declared.routine.Width.{Width}
use Rattle.c65_code.specs.declared.routine.Width.TheVariants.{Ax, Eax}
use Rattle.c65_genwide.specs.Lines.{value}
use Rattle.c65_genload.specs.declared.places.Access.{Access}
use Rattle.c65_genload.specs.declared.places.Place.TheVariants as places
use Rattle.c65_genentry.specs.Words.{sreg, ptr1, ptr2, tmp1, tmp2, regbank, implied, zero_page, by_y, branch}
use Rattle.c65_genentry.specs.Bytes.{pages_code, rest_code, loop_labels, block_code}
use Rattle.c65_genentry.specs.Bytes as blocks
use Rattle.c65_genentry.specs.Pointers as pointers
use Rattle.c65_genentry.specs.Choice.{bits_of, byte_of, test_code, case_code, case_codes, by_bytes, byte_tests, byte_choice, choice_code}
use Rattle.c65_genstmt.specs.declared.objects.Spot.{Spot}
use Rattle.c65_genstmt.specs.declared.objects.Spot.TheVariants.{Bank, Soft, Data}
use Rattle.c65_genstmt.specs.Objects.{point_code, stored_code}
use Rattle.c65_gen_law_lines.proofs.Made.{is_plain}
use Rattle.c65_gen_law_lines.proofs.Puts.{one_same}
use Rattle.c65_gen_law_lines.proofs.Others.{laid}
use Rattle.c65_gen_law_lines.proofs.Leaves.{Leaves, leaves_then, leaves_none, leaves_if, Still}
use Rattle.c65_gen_law_lines.proofs.StackPieces.{stored_leaves}
use Rattle.c65_gen_law_stack.proofs.Levels.{Level, Nowhere, There, level_then, level_end, level_piece, level_none, level_label, level_leads, Closed, closed_then}

-- ---- loops over bytes

pages_level : (each after : List Line) (pages l : ℕ) (v : List ℕ) → Still each → list_all is_plain each ≡ true → Still after → list_all is_plain after ≡ true → Closed [] v (pages_code each after pages l) v
pages_level each after pages l v se pe sa pa = by (pages == 0)
  where
    by : (b : Bool) → Closed [] v (if b then [] else value Ldx pages ∷ Label l ∷ (each ++ (implied Iny ∷ branch Bne l ∷ (after ++ (implied Dex ∷ branch Bne l ∷ []))))) v
    by true = level_none
    by false =
        let count : Level Nowhere (There l v) [] v (value Ldx pages ∷ []) v = level_piece (record { to = λ calls. refl }) refl in
        let next : Level Nowhere (There l v) [] v (implied Iny ∷ []) v = level_piece (record { to = λ calls. refl }) refl in
        let last : Level Nowhere (There l v) [] v (implied Dex ∷ []) v = level_piece (record { to = λ calls. refl }) refl in
        let back = level_leads Bne Relative l v in
        level_end (level_then count (level_then (level_label l v) (level_then (level_piece (se v) pe) (level_then next (level_then back (level_then (level_piece (sa v) pa) (level_then last back))))))) (λ k h z. absurd z) (λ k h z. inl (inr (inl z)))

rest_level : (each : List Line) (bytes l : ℕ) (v : List ℕ) → Still each → list_all is_plain each ≡ true → Closed [] v (rest_code each bytes l) v
rest_level each bytes l v se pe = by (bytes == 0)
  where
    by : (b : Bool) → Closed [] v (if b then [] else Label l ∷ (each ++ (implied Iny ∷ value Cpy bytes ∷ branch Bne l ∷ []))) v
    by true = level_none
    by false =
        let next : Level Nowhere (There l v) [] v (implied Iny ∷ value Cpy bytes ∷ []) v = level_piece (record { to = λ calls. refl }) refl in
        level_end (level_then (level_label l v) (level_then (level_piece (se v) pe) (level_then next (level_leads Bne Relative l v)))) (λ k h z. absurd z) (λ k h z. inl (inl z))

block_level : (each after : List Line) (bytes l : ℕ) (v : List ℕ) → Still each → list_all is_plain each ≡ true → Still after → list_all is_plain after ≡ true → Closed [] v (block_code each after bytes l) v
block_level each after bytes l v se pe sa pa = closed_then (pages_level each after (bytes / 256) l v se pe sa pa) (rest_level each (bytes % 256) (l + loop_labels (bytes / 256)) v se pe)

store_one : Still (by_y Sta ptr1 ∷ [])
store_one v = record { to = λ calls. refl }

copy_one : Still (by_y Lda ptr1 ∷ by_y Sta ptr2 ∷ [])
copy_one v = record { to = λ calls. refl }

next_one : Still (zero_page Inc (ptr1 + 1) ∷ [])
next_one v = record { to = λ calls. refl }

next_two : Still (zero_page Inc (ptr1 + 1) ∷ zero_page Inc (ptr2 + 1) ∷ [])
next_two v = record { to = λ calls. refl }

pub clear_level : (bytes l : ℕ) (v : List ℕ) → Closed [] v (blocks.clear_code bytes l) v
clear_level bytes l v =
    let first : Closed [] v (value Ldy 0 ∷ value Lda 0 ∷ []) v = level_piece (record { to = λ calls. refl }) refl in
    closed_then first (block_level (by_y Sta ptr1 ∷ []) (zero_page Inc (ptr1 + 1) ∷ []) bytes l v store_one refl next_one refl)

pub copy_level : (bytes l : ℕ) (v : List ℕ) → Closed [] v (blocks.copy_code bytes l) v
copy_level bytes l v =
    let first : Closed [] v (value Ldy 0 ∷ []) v = level_piece (record { to = λ calls. refl }) refl in
    closed_then first (block_level (by_y Lda ptr1 ∷ by_y Sta ptr2 ∷ []) (zero_page Inc (ptr1 + 1) ∷ zero_page Inc (ptr2 + 1) ∷ []) bytes l v copy_one refl next_two refl)

-- ---- places

pub point_still : (pointer : ℕ) (spot : Spot) → Still (point_code pointer spot)
point_still pointer (Bank b) v = leaves_none
point_still pointer (Soft at) v = record { to = λ calls. refl }
point_still pointer (Data s at) v = record { to = λ calls. refl }

far_store_still : (at bytes : ℕ) → Still (pointers.far_store at bytes)
far_store_still at bytes v =
    let upper : Leaves v pointers.upper_bytes v = record { to = λ calls. refl } in
    let second : Leaves v pointers.second_byte v = record { to = λ calls. refl } in
    let third : Leaves v (pointers.third_bytes bytes) v = leaves_if (nat_lt bytes 3) leaves_none upper in
    let further : Leaves v (pointers.further_bytes bytes) v = leaves_if (nat_lt bytes 2) leaves_none (leaves_then second third) in
    let first : Leaves v (zero_page Sta tmp1 ∷ zero_page Stx tmp2 ∷ []) v = record { to = λ calls. refl } in
    let near : Leaves v (pointers.near_code ptr1 at) v = record { to = λ calls. refl } in
    let lowest : Leaves v (value Ldy 0 ∷ zero_page Lda tmp1 ∷ by_y Sta ptr1 ∷ []) v = record { to = λ calls. refl } in
    leaves_then first (leaves_then near (leaves_then lowest further))

pub stored_still : (spot : Spot) (access : Access) (bytes : ℕ) → Still (stored_code spot access bytes)
stored_still (Bank b) access bytes v = stored_leaves (places.Bank b) access v
stored_still (Soft at) access bytes v = leaves_if (nat_le at 252) (stored_leaves (places.Near at) access v) (far_store_still at bytes v)
stored_still (Data s at) access bytes v = stored_leaves (places.Data s at) access v

pub bank_clear_still : (bank bytes : ℕ) → Still (pointers.clear_code bank bytes)
bank_clear_still bank bytes v =
    let first : Leaves v (value Lda 0 ∷ zero_page Sta ((regbank + bank) % 256) ∷ []) v = record { to = λ calls. refl } in
    let second : Leaves v (zero_page Sta (((regbank + bank) % 256 + 1) % 256) ∷ []) v = record { to = λ calls. refl } in
    leaves_then first (leaves_if (nat_lt bytes 2) leaves_none second)

-- ---- the choice of a case

-- labels of cases, where nothing waits
abbrev pub Cases : ℕ → ℕ → ℕ → List ℕ → Type 0
Cases at n l h = (1 ≤ laid at n l) × (h ≡ [])

-- what a test leads to: another label, and a case
abbrev Tests : ℕ → ℕ → ℕ → List ℕ → Type 0
Tests other at l h = There other [] l h ⊎ There at [] l h

to_other : (other at : ℕ) → Level Nowhere (Tests other at) [] [] (branch Bne other ∷ []) []
to_other other at = level_end (level_leads Bne Relative other []) (λ l h z. z) (λ l h z. inr (inl z))

to_case : (other at : ℕ) → Level Nowhere (Tests other at) [] [] (branch Beq at ∷ []) []
to_case other at = level_end (level_leads Beq Relative at []) (λ l h z. z) (λ l h z. inr (inr z))

one_line : (other at : ℕ) (line : Line) → Still (line ∷ []) → list_all is_plain (line ∷ []) ≡ true → Level Nowhere (Tests other at) [] [] (line ∷ []) []
one_line other at line still plain = level_piece (still []) plain

word_level : (bits other at : ℕ) → Level Nowhere (Tests other at) [] [] (test_code Ax bits other at) []
word_level bits other at =
    level_end (level_then (one_line other at (value Cpx (byte_of bits 256)) (λ v. record { to = λ calls. refl }) refl) (level_then (to_other other at) (level_then (one_line other at (value Cmp (byte_of bits 1)) (λ v. record { to = λ calls. refl }) refl) (to_case other at))))
    (λ l h z. absurd z) (λ l h z. inr z)

long_level : (bits other at : ℕ) → Level Nowhere (Tests other at) [] [] (test_code Eax bits other at) []
long_level bits other at =
    let first : Level Nowhere (Tests other at) [] [] (zero_page Ldy sreg ∷ value Cpy (byte_of bits 65536) ∷ []) [] = level_piece (record { to = λ calls. refl }) refl in
    let second : Level Nowhere (Tests other at) [] [] (zero_page Ldy (sreg + 1) ∷ value Cpy (byte_of bits 16777216) ∷ []) [] = level_piece (record { to = λ calls. refl }) refl in
    level_end (level_then first (level_then (to_other other at) (level_then second (level_then (to_other other at) (word_level bits other at))))) (λ l h z. absurd z) (λ l h z. inr z)

test_level : (w : Width) (bits other at : ℕ) → Level Nowhere (Tests other at) [] [] (test_code w bits other at) []
test_level Ax bits other at = word_level bits other at
test_level Eax bits other at = long_level bits other at

first_case : (at n l : ℕ) (h : List ℕ) → There at [] l h → Cases at (suc n) l h
first_case at n l h z =
    let here : 1 ≤ laid at (suc n) at = omega (arith, one_same at) in
    let moved : laid at (suc n) l ≡ laid at (suc n) at = ap (λ (x : ℕ). laid at (suc n) x) z.0 in
    (omega (arith, here, moved), z.1)

later_case : (at n l : ℕ) (h : List ℕ) → Cases ((at + 1) % 4294967296) n l h → Cases at (suc n) l h
later_case at n l h z = (omega (arith, z.0), z.1)

case_level : (w : Width) (z : ℤ) (at l n : ℕ) → Level Nowhere (Cases at (suc n)) [] [] (case_code w z at l) []
case_level w z at l n =
    level_end (level_then (test_level w (bits_of z) l at) (level_label l [])) (λ k h x. absurd x) (λ k h x. elim x [ inl p ↦ inl (inr p) | inr q ↦ inr (first_case at n k h q) ])

cases_level : (w : Width) (at l : ℕ) (zs : List ℤ) → Level Nowhere (Cases at (length zs)) [] [] (case_codes w at l zs) []
cases_level w at l [] = level_none
cases_level w at l (z ∷ zs) =
    let rest : Level Nowhere (Cases at (suc (length zs))) [] [] (case_codes w ((at + 1) % 4294967296) (l + 1) zs) [] = level_end (cases_level w ((at + 1) % 4294967296) (l + 1) zs) (λ k h x. x) (λ k h x. inr (later_case at (length zs) k h x)) in
    level_end (level_then (case_level w z at l (length zs)) rest) (λ k h x. absurd x) (λ k h x. inr x)

byte_level : (z : ℤ) (at n : ℕ) → Level Nowhere (Cases at (suc n)) [] [] (value Cmp (byte_of (bits_of z) 1) ∷ branch Beq at ∷ []) []
byte_level z at n =
    level_end (level_then (one_line at at (value Cmp (byte_of (bits_of z) 1)) (λ v. record { to = λ calls. refl }) refl) (to_case at at)) (λ k h x. absurd x) (λ k h x. inr (first_case at n k h (elim x [ inl p ↦ p | inr q ↦ q ])))

bytes_level : (at : ℕ) (zs : List ℤ) → Level Nowhere (Cases at (length zs)) [] [] (byte_tests at zs) []
bytes_level at [] = level_none
bytes_level at (z ∷ zs) =
    let rest : Level Nowhere (Cases at (suc (length zs))) [] [] (byte_tests ((at + 1) % 4294967296) zs) [] = level_end (bytes_level ((at + 1) % 4294967296) zs) (λ k h x. x) (λ k h x. inr (later_case at (length zs) k h x)) in
    level_end (level_then (byte_level z at (length zs)) rest) (λ k h x. absurd x) (λ k h x. inr x)

-- the labels of the cases, and that to which it goes where there is none
abbrev pub Chosen : ℕ → ℕ → ℕ → ℕ → List ℕ → Type 0
Chosen other at n l h = There other [] l h ⊎ Cases at n l h

pub choice_level : (w : Width) (other at l : ℕ) (zs : List ℤ) → Level Nowhere (Chosen other at (length zs)) [] [] (choice_code w other at l zs) []
choice_level w other at l zs = by (by_bytes w zs)
  where
    by : (b : Bool) → Level Nowhere (Chosen other at (length zs)) [] [] (if b then byte_choice other at zs else case_codes w at l zs) []
    by true =
        let high : Level Nowhere (Tests other other) [] [] (value Cpx 0 ∷ branch Bne other ∷ []) [] = level_end (level_then (one_line other other (value Cpx 0) (λ v. record { to = λ calls. refl }) refl) (to_other other other)) (λ k h x. absurd x) (λ k h x. inr x) in
        let first : Level Nowhere (Chosen other at (length zs)) [] [] (value Cpx 0 ∷ branch Bne other ∷ []) [] = level_end high (λ k h x. x) (λ k h x. inr (inl (elim x [ inl p ↦ p | inr q ↦ q ]))) in
        let rest : Level Nowhere (Chosen other at (length zs)) [] [] (byte_tests at zs) [] = level_end (bytes_level at zs) (λ k h x. x) (λ k h x. inr (inr x)) in
        level_end (level_then first rest) (λ k h x. absurd x) (λ k h x. inr x)
    by false = level_end (cases_level w at l zs) (λ k h x. x) (λ k h x. inr (inr x))
