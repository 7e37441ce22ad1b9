-- Lines that read bytes where they lie: their labels, their size, and that they leave what waits.
use Rattle.std.proofs.Common.{◌≡◌, ℕ, ◌+◌, ◌-◌, ◌*◌, ◌%◌, ◌==◌, Bool, true, false, List, [], ◌∷◌, ◌++◌, length, refl, sym, arith}
use Rattle.std.specs.Prelude.{◌&&◌, nat_lt, if◌then◌else◌}
use Rattle.std.proofs.lemmas.Bool.{and_from}
use Rattle.c65_base.specs.declared.operators.BinaryOp.{BinaryOp}
use Rattle.c65_base.specs.declared.operators.BinaryOp.TheVariants as ops
use Rattle.c65_mach.specs.declared.rows.Op.{Op}
use Rattle.c65_mach.specs.declared.rows.Op.TheVariants.{Adc, And, Bcc, Bcs, Beq, Bne, Bvc, Clc, Cmp, Dex, Eor, Inx, Lda, Ldx, Ora, Sbc, Sec, Sta, Stx, Tax, Tay, Txa, Tya}
use Rattle.c65_mach.specs.declared.rows.Mode.TheVariants.{Relative}
use Rattle.c65_code.specs.declared.line.Sym.{Sym}
use Rattle.c65_code.specs.declared.line.Operand.TheVariants.{To}
use Rattle.c65_code.specs.declared.line.Line.TheVariants.{Do}
use Rattle.c65_genwide.specs.Lines.{value}
use Rattle.c65_genload.specs.Words.{ptr1, sreg, tmp1, tmp2, implied, zero_page, by_y, absolute, branch}
use Rattle.c65_genload.specs.Numbers.{first, second}
use Rattle.c65_gendirect.specs.declared.bytes.OperandByte.{OperandByte}
use Rattle.c65_gendirect.specs.declared.bytes.OperandByte.TheVariants.{Number, Low, High, Near, Data, Zero}
use Rattle.c65_gendirect.specs.declared.compare.Sides.{Sides}
use Rattle.c65_gendirect.specs.declared.compare.Sides.TheVariants.{Word, Long}
use Rattle.c65_gendirect.specs.declared.relation.Relation.{Relation}
use Rattle.c65_gendirect.specs.declared.relation.Relation.TheVariants.{Less, NotLess, Greater, NotGreater, Equal, Unequal}
use Rattle.c65_gendirect.specs.Bytes.{op_of, aside, back}
use Rattle.c65_gendirect.specs.Compare.{lowest_code, difference_code, is_turned, turned, turned_code, turned_difference_code, by_carry, by_sign, order_code, second_code, same_code, is_sign_test, highest_code, ordered_code, compare_code, compare_byte_code}
use Rattle.c65_gendirect.specs.Pointed.{pointer_code, pointed_sum_code}
use Rattle.c65_gendirect.specs.Tests.{or_code, all_zero_code, zero_test_code, truth_code}
use Rattle.c65_gendirect.specs.Words.{instruction, carry_code, first_byte_code, both_bytes_code, onward_code, end_label, is_and, is_number, word_code, sum_code, add_number_code, taken_from_code, long_mask_code}
use Rattle.c65_gen_law_lines.proofs.Made.{is_early, Piece, nowhere, once_at}
use Rattle.c65_gen_law_lines.proofs.Leaves.{Still}
use Rattle.c65_gen_law_lines.proofs.Quiet.{Quiet, quiet_then, quiet_piece, quiet_label, quiet_branch, quiet_none, quiet_wider, quiet_as, quiet_if}

-- ---- a byte

-- an operation of which the table has each mode that reads a byte
record Reads (op : Op) : Type 0 where
  immediate : is_early (value op 0) ≡ true
  zero : is_early (zero_page op 0) ≡ true
  indirect : is_early (by_y op 0) ≡ true
  absolute : (sym : Sym) (at : ℕ) → is_early (absolute op sym at) ≡ true

reads_adc : Reads Adc
reads_adc = record { immediate = refl; zero = refl; indirect = refl; absolute = λ sym at. refl }

reads_sbc : Reads Sbc
reads_sbc = record { immediate = refl; zero = refl; indirect = refl; absolute = λ sym at. refl }

reads_and : Reads And
reads_and = record { immediate = refl; zero = refl; indirect = refl; absolute = λ sym at. refl }

reads_eor : Reads Eor
reads_eor = record { immediate = refl; zero = refl; indirect = refl; absolute = λ sym at. refl }

reads_ora : Reads Ora
reads_ora = record { immediate = refl; zero = refl; indirect = refl; absolute = λ sym at. refl }

reads_cmp : Reads Cmp
reads_cmp = record { immediate = refl; zero = refl; indirect = refl; absolute = λ sym at. refl }

reads_lda : Reads Lda
reads_lda = record { immediate = refl; zero = refl; indirect = refl; absolute = λ sym at. refl }

byte_piece : (op : Op) (d : OperandByte) → Reads op → Piece 4 (op_of op d)
byte_piece op (Number n) r = record { plain = refl; fit = and_from (is_early (value op 0)) true r.immediate refl; size = omega arith }
byte_piece op (Low sym at) r = record { plain = refl; fit = and_from (is_early (value op 0)) true r.immediate refl; size = omega arith }
byte_piece op (High sym at) r = record { plain = refl; fit = and_from (is_early (value op 0)) true r.immediate refl; size = omega arith }
byte_piece op (Near at) r = record { plain = refl; fit = and_from (is_early (by_y op 0)) true r.indirect refl; size = omega arith }
byte_piece op (Data sym at) r = record { plain = refl; fit = and_from (is_early (absolute op sym at)) true (r.absolute sym at) refl; size = omega arith }
byte_piece op (Zero at) r = record { plain = refl; fit = and_from (is_early (zero_page op 0)) true r.zero refl; size = omega arith }

byte_still : (op : Op) (d : OperandByte) → Still (op_of op d)
byte_still op (Number n) v = record { to = λ calls. refl }
byte_still op (Low sym at) v = record { to = λ calls. refl }
byte_still op (High sym at) v = record { to = λ calls. refl }
byte_still op (Near at) v = record { to = λ calls. refl }
byte_still op (Data sym at) v = record { to = λ calls. refl }
byte_still op (Zero at) v = record { to = λ calls. refl }

byte_quiet : {ok : ℕ → Bool} (op : Op) (d : OperandByte) → Reads op → Quiet ok nowhere 4 (op_of op d)
byte_quiet op d r = quiet_piece (byte_piece op d r) (byte_still op d)

-- the low byte of a value that is read
pub loaded_quiet : {ok : ℕ → Bool} (d : OperandByte) → Quiet ok nowhere 4 (op_of Lda d)
loaded_quiet d = byte_quiet Lda d reads_lda

aside_quiet : {ok : ℕ → Bool} (d : OperandByte) → Quiet ok nowhere 1 (aside d ∷ [])
aside_quiet (Number n) = quiet_piece (record { plain = refl; fit = refl; size = omega arith }) (λ v. record { to = λ calls. refl })
aside_quiet (Low sym at) = quiet_piece (record { plain = refl; fit = refl; size = omega arith }) (λ v. record { to = λ calls. refl })
aside_quiet (High sym at) = quiet_piece (record { plain = refl; fit = refl; size = omega arith }) (λ v. record { to = λ calls. refl })
aside_quiet (Near at) = quiet_piece (record { plain = refl; fit = refl; size = omega arith }) (λ v. record { to = λ calls. refl })
aside_quiet (Data sym at) = quiet_piece (record { plain = refl; fit = refl; size = omega arith }) (λ v. record { to = λ calls. refl })
aside_quiet (Zero at) = quiet_piece (record { plain = refl; fit = refl; size = omega arith }) (λ v. record { to = λ calls. refl })

back_quiet : {ok : ℕ → Bool} (d : OperandByte) → Quiet ok nowhere 1 (back d ∷ [])
back_quiet (Number n) = quiet_piece (record { plain = refl; fit = refl; size = omega arith }) (λ v. record { to = λ calls. refl })
back_quiet (Low sym at) = quiet_piece (record { plain = refl; fit = refl; size = omega arith }) (λ v. record { to = λ calls. refl })
back_quiet (High sym at) = quiet_piece (record { plain = refl; fit = refl; size = omega arith }) (λ v. record { to = λ calls. refl })
back_quiet (Near at) = quiet_piece (record { plain = refl; fit = refl; size = omega arith }) (λ v. record { to = λ calls. refl })
back_quiet (Data sym at) = quiet_piece (record { plain = refl; fit = refl; size = omega arith }) (λ v. record { to = λ calls. refl })
back_quiet (Zero at) = quiet_piece (record { plain = refl; fit = refl; size = omega arith }) (λ v. record { to = λ calls. refl })

-- ---- operators

reads_instruction : (op : BinaryOp) → Reads (instruction op)
reads_instruction ops.Add = reads_adc
reads_instruction ops.Sub = reads_sbc
reads_instruction ops.BitAnd = reads_and
reads_instruction ops.BitXor = reads_eor
reads_instruction _ = reads_ora

pub carry_quiet : {ok : ℕ → Bool} (op : BinaryOp) → Quiet ok nowhere 1 (carry_code op)
carry_quiet ops.Add = quiet_piece (record { plain = refl; fit = refl; size = omega arith }) (λ v. record { to = λ calls. refl })
carry_quiet ops.Sub = quiet_piece (record { plain = refl; fit = refl; size = omega arith }) (λ v. record { to = λ calls. refl })
carry_quiet _ = quiet_none

pub first_quiet : {ok : ℕ → Bool} (op : BinaryOp) (low : OperandByte) → Quiet ok nowhere 5 (first_byte_code op low)
first_quiet op low = quiet_then (carry_quiet op) (byte_quiet (instruction op) low (reads_instruction op))

both_quiet : {ok : ℕ → Bool} (op : BinaryOp) (low high : OperandByte) → Quiet ok nowhere 13 (both_bytes_code op low high)
both_quiet {ok = ok} op low high =
    let txa : Quiet ok nowhere 1 (implied Txa ∷ []) = quiet_piece (record { plain = refl; fit = refl; size = omega arith }) (λ v. record { to = λ calls. refl }) in
    let tax : Quiet ok nowhere 1 (implied Tax ∷ []) = quiet_piece (record { plain = refl; fit = refl; size = omega arith }) (λ v. record { to = λ calls. refl }) in
    quiet_as (λ l. refl) (quiet_then (first_quiet op low) (quiet_then (aside_quiet high) (quiet_then txa (quiet_then (byte_quiet (instruction op) high (reads_instruction op)) (quiet_then tax (back_quiet high))))))

-- the label of a sum and of a difference
abbrev pub word_label : BinaryOp → ℕ → ℕ → ℕ
word_label ops.Add fresh l = once_at fresh l
word_label ops.Sub fresh l = once_at fresh l
word_label _ fresh l = 0

onward_quiet : {ok : ℕ → Bool} (op : BinaryOp) (fresh : ℕ) → ok fresh ≡ true → Quiet ok (word_label op fresh) 6 (onward_code op fresh)
onward_quiet {ok = ok} ops.Add fresh passes =
    let next : Quiet ok nowhere 1 (implied Inx ∷ []) = quiet_piece (record { plain = refl; fit = refl; size = omega arith }) (λ v. record { to = λ calls. refl }) in
    quiet_as (λ l. omega arith) (quiet_then (quiet_branch Bcc fresh refl passes) (quiet_then next (quiet_label fresh)))
onward_quiet {ok = ok} ops.Sub fresh passes =
    let next : Quiet ok nowhere 1 (implied Dex ∷ []) = quiet_piece (record { plain = refl; fit = refl; size = omega arith }) (λ v. record { to = λ calls. refl }) in
    quiet_as (λ l. omega arith) (quiet_then (quiet_branch Bcs fresh refl passes) (quiet_then next (quiet_label fresh)))
onward_quiet ops.BitAnd fresh passes = quiet_piece (record { plain = refl; fit = refl; size = omega arith }) (λ v. record { to = λ calls. refl })
onward_quiet _ fresh passes = quiet_none

end_quiet : {ok : ℕ → Bool} (op : BinaryOp) (fresh : ℕ) → Quiet ok (word_label op fresh) 0 (end_label op fresh)
end_quiet ops.Add fresh = quiet_label fresh
end_quiet ops.Sub fresh = quiet_label fresh
end_quiet _ fresh = quiet_none

-- `&` has no label
only_and : (op : BinaryOp) (b : Bool) (fresh l : ℕ) → (is_and op && b) ≡ true → word_label op fresh l ≡ 0
only_and ops.BitAnd b fresh l h = refl
only_and _ b fresh l h = absurd cc

and_quiet : {ok : ℕ → Bool} (op : BinaryOp) (low high : OperandByte) (fresh : ℕ) (b : Bool) → (is_and op && is_number 255 high) ≡ b
    → Quiet ok (word_label op fresh) 13 (if b then first_byte_code op low else both_bytes_code op low high ++ end_label op fresh)
and_quiet op low high fresh true e = quiet_wider (quiet_as (λ l. sym (only_and op (is_number 255 high) fresh l e)) (first_quiet op low)) (omega arith)
and_quiet op low high fresh false e = quiet_as (λ l. omega arith) (quiet_then (both_quiet op low high) (end_quiet op fresh))

pub word_quiet : {ok : ℕ → Bool} (op : BinaryOp) (low high : OperandByte) (fresh : ℕ) → ok fresh ≡ true → Quiet ok (word_label op fresh) 13 (word_code op low high fresh)
word_quiet op low high fresh passes = quiet_if (is_number 0 high)
    (quiet_wider (quiet_as (λ l. omega arith) (quiet_then (first_quiet op low) (onward_quiet op fresh passes))) (omega arith))
    (and_quiet op low high fresh (is_and op && is_number 255 high) refl)

pub sum_quiet : {ok : ℕ → Bool} (low high : OperandByte) → Quiet ok nowhere 13 (sum_code low high)
sum_quiet low high = both_quiet ops.Add low high

pub pointer_quiet : {ok : ℕ → Bool} → Quiet ok nowhere 4 pointer_code
pointer_quiet = quiet_piece (record { plain = refl; fit = refl; size = omega arith }) (λ v. record { to = λ calls. refl })

pub pointed_sum_quiet : {ok : ℕ → Bool} (low high : OperandByte) → Quiet ok nowhere 14 (pointed_sum_code low high)
pointed_sum_quiet {ok = ok} low high =
    let next : Quiet ok nowhere 3 (zero_page Sta ptr1 ∷ implied Txa ∷ []) = quiet_piece (record { plain = refl; fit = refl; size = omega arith }) (λ v. record { to = λ calls. refl }) in
    let last : Quiet ok nowhere 2 (zero_page Sta (ptr1 + 1) ∷ []) = quiet_piece (record { plain = refl; fit = refl; size = omega arith }) (λ v. record { to = λ calls. refl }) in
    quiet_as (λ l. refl) (quiet_then (first_quiet ops.Add low) (quiet_then next (quiet_then (byte_quiet Adc high reads_adc) last)))

pub added_quiet : {ok : ℕ → Bool} (n fresh : ℕ) → ok fresh ≡ true → Quiet ok (once_at fresh) 13 (add_number_code n fresh)
added_quiet n fresh passes = quiet_if (n % 65536 == 0) (quiet_wider (quiet_label fresh) (omega arith))
    (quiet_if (second n == 255 && nat_lt 0 (first n)) (word_quiet ops.Sub (Number (256 - first n)) (Number 0) fresh passes) (word_quiet ops.Add (Number (first n)) (Number (second n)) fresh passes))

pub taken_quiet : {ok : ℕ → Bool} (low high : OperandByte) → Quiet ok nowhere 21 (taken_from_code low high)
taken_quiet {ok = ok} low high =
    let kept : Quiet ok nowhere 4 (zero_page Sta tmp1 ∷ zero_page Stx tmp2 ∷ []) = quiet_piece (record { plain = refl; fit = refl; size = omega arith }) (λ v. record { to = λ calls. refl }) in
    let taken : Quiet ok nowhere 3 (implied Sec ∷ zero_page Sbc tmp1 ∷ []) = quiet_piece (record { plain = refl; fit = refl; size = omega arith }) (λ v. record { to = λ calls. refl }) in
    let last : Quiet ok nowhere 3 (zero_page Sbc tmp2 ∷ implied Tax ∷ []) = quiet_piece (record { plain = refl; fit = refl; size = omega arith }) (λ v. record { to = λ calls. refl }) in
    quiet_wider (quiet_as (λ l. refl) (quiet_then kept (quiet_then (loaded_quiet low) (quiet_then taken (quiet_then (aside_quiet high) (quiet_then (loaded_quiet high) (quiet_then last (back_quiet high)))))))) (omega arith)

long_mask_fit : (op : Op) (a b c d : ℕ) → Reads op → Piece 20 (value op a ∷ implied Tay ∷ implied Txa ∷ value op b ∷ implied Tax ∷ zero_page Lda sreg ∷ value op c ∷ zero_page Sta sreg ∷ zero_page Lda (sreg + 1) ∷ value op d ∷ zero_page Sta (sreg + 1) ∷ implied Tya ∷ [])
long_mask_fit op a b c d r =
    let own : is_early (value op 0) ≡ true = r.immediate in
    record { plain = refl; fit = and_from (is_early (value op 0)) _ own (and_from (is_early (value op 0)) _ own (and_from (is_early (value op 0)) _ own (and_from (is_early (value op 0)) _ own refl))); size = omega arith }

pub long_mask_quiet : {ok : ℕ → Bool} (op : BinaryOp) (n : ℕ) → Quiet ok nowhere 20 (long_mask_code op n)
long_mask_quiet op n = quiet_piece (long_mask_fit (instruction op) _ _ _ _ (reads_instruction op)) (λ v. record { to = λ calls. refl })

-- ---- comparisons

lowest_quiet : {ok : ℕ → Bool} (r : Relation) (low : OperandByte) → Quiet ok nowhere 5 (lowest_code r low)
lowest_quiet {ok = ok} Greater low =
    let clear : Quiet ok nowhere 1 (implied Clc ∷ []) = quiet_piece (record { plain = refl; fit = refl; size = omega arith }) (λ v. record { to = λ calls. refl }) in
    quiet_as (λ l. refl) (quiet_then clear (byte_quiet Sbc low reads_sbc))
lowest_quiet {ok = ok} NotGreater low =
    let clear : Quiet ok nowhere 1 (implied Clc ∷ []) = quiet_piece (record { plain = refl; fit = refl; size = omega arith }) (λ v. record { to = λ calls. refl }) in
    quiet_as (λ l. refl) (quiet_then clear (byte_quiet Sbc low reads_sbc))
lowest_quiet Less low = quiet_wider (byte_quiet Cmp low reads_cmp) (omega arith)
lowest_quiet NotLess low = quiet_wider (byte_quiet Cmp low reads_cmp) (omega arith)
lowest_quiet Equal low = quiet_wider (byte_quiet Cmp low reads_cmp) (omega arith)
lowest_quiet Unequal low = quiet_wider (byte_quiet Cmp low reads_cmp) (omega arith)

difference_quiet : {ok : ℕ → Bool} (r : Relation) (sides : Sides) → Quiet ok nowhere 22 (difference_code r sides)
difference_quiet {ok = ok} r (Word low high) =
    let txa : Quiet ok nowhere 1 (implied Txa ∷ []) = quiet_piece (record { plain = refl; fit = refl; size = omega arith }) (λ v. record { to = λ calls. refl }) in
    quiet_wider (quiet_as (λ l. refl) (quiet_then (lowest_quiet r low) (quiet_then txa (byte_quiet Sbc high reads_sbc)))) (omega arith)
difference_quiet {ok = ok} r (Long d0 d1 d2 d3) =
    let txa : Quiet ok nowhere 1 (implied Txa ∷ []) = quiet_piece (record { plain = refl; fit = refl; size = omega arith }) (λ v. record { to = λ calls. refl }) in
    let third : Quiet ok nowhere 2 (zero_page Lda sreg ∷ []) = quiet_piece (record { plain = refl; fit = refl; size = omega arith }) (λ v. record { to = λ calls. refl }) in
    let fourth : Quiet ok nowhere 2 (zero_page Lda (sreg + 1) ∷ []) = quiet_piece (record { plain = refl; fit = refl; size = omega arith }) (λ v. record { to = λ calls. refl }) in
    quiet_as (λ l. refl) (quiet_then (lowest_quiet r d0) (quiet_then txa (quiet_then (byte_quiet Sbc d1 reads_sbc) (quiet_then third (quiet_then (byte_quiet Sbc d2 reads_sbc) (quiet_then fourth (byte_quiet Sbc d3 reads_sbc)))))))

turned_code_quiet : {ok : ℕ → Bool} (d : OperandByte) → Quiet ok nowhere 6 (turned_code d)
turned_code_quiet {ok = ok} d =
    let sign : Quiet ok nowhere 2 (value Eor 128 ∷ []) = quiet_piece (record { plain = refl; fit = refl; size = omega arith }) (λ v. record { to = λ calls. refl }) in
    quiet_as (λ l. refl) (quiet_then sign (byte_quiet Sbc (turned d) reads_sbc))

turned_difference_quiet : {ok : ℕ → Bool} (r : Relation) (sides : Sides) → Quiet ok nowhere 24 (turned_difference_code r sides)
turned_difference_quiet {ok = ok} r (Word low high) =
    let txa : Quiet ok nowhere 1 (implied Txa ∷ []) = quiet_piece (record { plain = refl; fit = refl; size = omega arith }) (λ v. record { to = λ calls. refl }) in
    quiet_wider (quiet_as (λ l. refl) (quiet_then (lowest_quiet r low) (quiet_then txa (turned_code_quiet high)))) (omega arith)
turned_difference_quiet {ok = ok} r (Long d0 d1 d2 d3) =
    let txa : Quiet ok nowhere 1 (implied Txa ∷ []) = quiet_piece (record { plain = refl; fit = refl; size = omega arith }) (λ v. record { to = λ calls. refl }) in
    let third : Quiet ok nowhere 2 (zero_page Lda sreg ∷ []) = quiet_piece (record { plain = refl; fit = refl; size = omega arith }) (λ v. record { to = λ calls. refl }) in
    let fourth : Quiet ok nowhere 2 (zero_page Lda (sreg + 1) ∷ []) = quiet_piece (record { plain = refl; fit = refl; size = omega arith }) (λ v. record { to = λ calls. refl }) in
    quiet_as (λ l. refl) (quiet_then (lowest_quiet r d0) (quiet_then txa (quiet_then (byte_quiet Sbc d1 reads_sbc) (quiet_then third (quiet_then (byte_quiet Sbc d2 reads_sbc) (quiet_then fourth (turned_code_quiet d3)))))))

carry_fits : (r : Relation) → is_early (Do (by_carry r) Relative (To 0)) ≡ true
carry_fits Less = refl
carry_fits NotLess = refl
carry_fits Greater = refl
carry_fits NotGreater = refl
carry_fits Equal = refl
carry_fits Unequal = refl

sign_fits : (r : Relation) → is_early (Do (by_sign r) Relative (To 0)) ≡ true
sign_fits Less = refl
sign_fits NotLess = refl
sign_fits Greater = refl
sign_fits NotGreater = refl
sign_fits Equal = refl
sign_fits Unequal = refl

order_quiet : {ok : ℕ → Bool} (r : Relation) (is_signed : Bool) (fresh to : ℕ) → ok fresh ≡ true → ok to ≡ true → Quiet ok (once_at fresh) 12 (order_code r is_signed fresh to)
order_quiet {ok = ok} r true fresh to own other =
    let turned : Quiet ok nowhere 2 (value Eor 128 ∷ []) = quiet_piece (record { plain = refl; fit = refl; size = omega arith }) (λ v. record { to = λ calls. refl }) in
    quiet_as (λ l. omega arith) (quiet_then (quiet_branch Bvc fresh refl own) (quiet_then turned (quiet_then (quiet_label fresh) (quiet_branch (by_sign r) to (sign_fits r) other))))
order_quiet r false fresh to own other = quiet_wider (quiet_as (λ l. omega arith) (quiet_then (quiet_label fresh) (quiet_branch (by_carry r) to (carry_fits r) other))) (omega arith)

second_quiet : {ok : ℕ → Bool} (d : OperandByte) → Quiet ok nowhere 5 (second_code d)
second_quiet (Number n) = quiet_piece (record { plain = refl; fit = refl; size = omega arith }) (λ v. record { to = λ calls. refl })
second_quiet (Low sym at) = quiet_piece (record { plain = refl; fit = refl; size = omega arith }) (λ v. record { to = λ calls. refl })
second_quiet (High sym at) = quiet_piece (record { plain = refl; fit = refl; size = omega arith }) (λ v. record { to = λ calls. refl })
second_quiet (Near at) = quiet_piece (record { plain = refl; fit = refl; size = omega arith }) (λ v. record { to = λ calls. refl })
second_quiet (Data sym at) = quiet_piece (record { plain = refl; fit = refl; size = omega arith }) (λ v. record { to = λ calls. refl })
second_quiet (Zero at) = quiet_piece (record { plain = refl; fit = refl; size = omega arith }) (λ v. record { to = λ calls. refl })

same_quiet : {ok : ℕ → Bool} (sides : Sides) (other : ℕ) → ok other ≡ true → Quiet ok nowhere 36 (same_code sides other)
same_quiet (Word low high) other passes = quiet_wider (quiet_as (λ l. refl) (quiet_then (byte_quiet Cmp low reads_cmp) (quiet_then (quiet_branch Bne other refl passes) (second_quiet high)))) (omega arith)
same_quiet {ok = ok} (Long d0 d1 d2 d3) other passes =
    let apart : Quiet ok nowhere 5 (branch Bne other ∷ []) = quiet_branch Bne other refl passes in
    let third : Quiet ok nowhere 2 (zero_page Lda sreg ∷ []) = quiet_piece (record { plain = refl; fit = refl; size = omega arith }) (λ v. record { to = λ calls. refl }) in
    let fourth : Quiet ok nowhere 2 (zero_page Lda (sreg + 1) ∷ []) = quiet_piece (record { plain = refl; fit = refl; size = omega arith }) (λ v. record { to = λ calls. refl }) in
    quiet_as (λ l. refl) (quiet_then (byte_quiet Cmp d0 reads_cmp) (quiet_then apart (quiet_then (second_quiet d1) (quiet_then apart (quiet_then third (quiet_then (byte_quiet Cmp d2 reads_cmp) (quiet_then apart (quiet_then fourth (byte_quiet Cmp d3 reads_cmp)))))))))

highest_quiet : {ok : ℕ → Bool} (sides : Sides) → Quiet ok nowhere 2 (highest_code sides)
highest_quiet (Word low high) = quiet_piece (record { plain = refl; fit = refl; size = omega arith }) (λ v. record { to = λ calls. refl })
highest_quiet (Long d0 d1 d2 d3) = quiet_piece (record { plain = refl; fit = refl; size = omega arith }) (λ v. record { to = λ calls. refl })

ordered_quiet : {ok : ℕ → Bool} (r : Relation) (is_signed : Bool) (sides : Sides) (fresh to : ℕ) → ok fresh ≡ true → ok to ≡ true → Quiet ok (once_at fresh) 46 (ordered_code r is_signed sides fresh to)
ordered_quiet r is_signed sides fresh to own other = quiet_if (is_sign_test r is_signed sides)
    (quiet_wider (quiet_as (λ l. omega arith) (quiet_then (highest_quiet sides) (quiet_then (quiet_label fresh) (quiet_branch (by_sign r) to (sign_fits r) other)))) (omega arith))
    (quiet_if (is_turned is_signed sides)
    (quiet_wider (quiet_as (λ l. omega arith) (quiet_then (turned_difference_quiet r sides) (order_quiet r false fresh to own other))) (omega arith))
    (quiet_wider (quiet_as (λ l. omega arith) (quiet_then (difference_quiet r sides) (order_quiet r is_signed fresh to own other))) (omega arith)))

pub compare_quiet : {ok : ℕ → Bool} (r : Relation) (is_signed : Bool) (sides : Sides) (fresh to : ℕ) → ok fresh ≡ true → ok to ≡ true → Quiet ok (once_at fresh) 46 (compare_code r is_signed sides fresh to)
compare_quiet Equal is_signed sides fresh to own other = quiet_wider (quiet_as (λ l. omega arith) (quiet_then (same_quiet sides fresh own) (quiet_then (quiet_branch Beq to refl other) (quiet_label fresh)))) (omega arith)
compare_quiet Unequal is_signed sides fresh to own other = quiet_wider (quiet_as (λ l. omega arith) (quiet_then (same_quiet sides to other) (quiet_then (quiet_branch Bne to refl other) (quiet_label fresh)))) (omega arith)
compare_quiet Less is_signed sides fresh to own other = ordered_quiet Less is_signed sides fresh to own other
compare_quiet NotLess is_signed sides fresh to own other = ordered_quiet NotLess is_signed sides fresh to own other
compare_quiet Greater is_signed sides fresh to own other = ordered_quiet Greater is_signed sides fresh to own other
compare_quiet NotGreater is_signed sides fresh to own other = ordered_quiet NotGreater is_signed sides fresh to own other

ordered_byte_quiet : {ok : ℕ → Bool} (r : Relation) (d : OperandByte) (to : ℕ) → ok to ≡ true → Quiet ok nowhere 10 (lowest_code r d ++ (branch (by_carry r) to ∷ []))
ordered_byte_quiet r d to passes = quiet_as (λ l. refl) (quiet_then (lowest_quiet r d) (quiet_branch (by_carry r) to (carry_fits r) passes))

pub compare_byte_quiet : {ok : ℕ → Bool} (r : Relation) (d : OperandByte) (to : ℕ) → ok to ≡ true → Quiet ok nowhere 10 (compare_byte_code r d to)
compare_byte_quiet Equal d to passes = quiet_wider (quiet_as (λ l. refl) (quiet_then (byte_quiet Cmp d reads_cmp) (quiet_branch Beq to refl passes))) (omega arith)
compare_byte_quiet Unequal d to passes = quiet_wider (quiet_as (λ l. refl) (quiet_then (byte_quiet Cmp d reads_cmp) (quiet_branch Bne to refl passes))) (omega arith)
compare_byte_quiet Less d to passes = ordered_byte_quiet Less d to passes
compare_byte_quiet NotLess d to passes = ordered_byte_quiet NotLess d to passes
compare_byte_quiet Greater d to passes = ordered_byte_quiet Greater d to passes
compare_byte_quiet NotGreater d to passes = ordered_byte_quiet NotGreater d to passes

-- ---- tests and truth values

or_quiet : {ok : ℕ → Bool} (ds : List OperandByte) → Quiet ok nowhere (4 * length ds) (or_code ds)
or_quiet [] = quiet_none
or_quiet (d ∷ ds) = quiet_wider (quiet_as (λ l. refl) (quiet_then (byte_quiet Ora d reads_ora) (or_quiet ds))) (omega arith)

zero_quiet : {ok : ℕ → Bool} (ds : List OperandByte) → Quiet ok nowhere (2 + 4 * length ds) (all_zero_code ds)
zero_quiet [] = quiet_piece (record { plain = refl; fit = refl; size = omega arith }) (λ v. record { to = λ calls. refl })
zero_quiet (d ∷ ds) = quiet_wider (quiet_as (λ l. refl) (quiet_then (loaded_quiet d) (or_quiet ds))) (omega arith)

sense_fits : (s : Bool) → is_early (Do (if s then Bne else Beq) Relative (To 0)) ≡ true
sense_fits true = refl
sense_fits false = refl

pub zero_test_quiet : {ok : ℕ → Bool} (ds : List OperandByte) (sense : Bool) (to : ℕ) → ok to ≡ true → Quiet ok nowhere (7 + 4 * length ds) (zero_test_code ds sense to)
zero_test_quiet ds sense to passes = quiet_wider (quiet_as (λ l. refl) (quiet_then (zero_quiet ds) (quiet_branch (if sense then Bne else Beq) to (sense_fits sense) passes))) (omega arith)

pub truth_quiet : {ok : ℕ → Bool} (fresh : ℕ) → ok (fresh + 1) ≡ true → Quiet ok (λ l. once_at fresh l + once_at (fresh + 1) l) 11 (truth_code fresh)
truth_quiet {ok = ok} fresh passes =
    let one : Quiet ok nowhere 2 (value Lda 1 ∷ []) = quiet_piece (record { plain = refl; fit = refl; size = omega arith }) (λ v. record { to = λ calls. refl }) in
    let zero : Quiet ok nowhere 2 (value Lda 0 ∷ []) = quiet_piece (record { plain = refl; fit = refl; size = omega arith }) (λ v. record { to = λ calls. refl }) in
    let high : Quiet ok nowhere 2 (value Ldx 0 ∷ []) = quiet_piece (record { plain = refl; fit = refl; size = omega arith }) (λ v. record { to = λ calls. refl }) in
    quiet_as (λ l. omega arith) (quiet_then one (quiet_then (quiet_branch Bne (fresh + 1) refl passes) (quiet_then (quiet_label fresh) (quiet_then zero (quiet_then (quiet_label (fresh + 1)) high)))))
