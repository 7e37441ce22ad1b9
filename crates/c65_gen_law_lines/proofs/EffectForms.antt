-- Lines that change numbers where they lie: their labels, their size, and that they leave what waits.
use Rattle.std.proofs.Common.{◌≡◌, ℕ, ◌==◌, Bool, true, [], ◌∷◌, refl, arith}
use Rattle.std.proofs.lemmas.Bool.{and_from, and_parts}
use Rattle.c65_base.specs.declared.operators.BinaryOp.{BinaryOp}
use Rattle.c65_base.specs.declared.operators.BinaryOp.TheVariants as ops
use Rattle.c65_mach.specs.declared.rows.Op.{Op}
use Rattle.c65_mach.specs.declared.rows.Op.TheVariants.{Adc, Bcc, Bcs, Bne, Dec, Inc, Iny, Lda, Sbc, Sec, Sta, Txa}
use Rattle.c65_code.specs.declared.line.Sym.{Sym}
use Rattle.c65_genwide.specs.Lines.{value}
use Rattle.c65_genload.specs.declared.places.Place.{Place}
use Rattle.c65_genload.specs.declared.places.Place.TheVariants as places
use Rattle.c65_genload.specs.Words.{tmp1, tmp2, implied, zero_page, by_y, absolute}
use Rattle.c65_genload.specs.Numbers.{first, second}
use Rattle.c65_gendirect.specs.Words.{instruction}
use Rattle.c65_genchange.specs.declared.spots.Spot.{Spot}
use Rattle.c65_genchange.specs.declared.spots.Spot.TheVariants.{Behind, Data, Zero}
use Rattle.c65_genchange.specs.declared.spots.Target.{Target}
use Rattle.c65_genchange.specs.declared.spots.Target.TheVariants.{Byte, Word}
use Rattle.c65_genchange.specs.declared.changes.Change.{Change}
use Rattle.c65_genchange.specs.declared.changes.Change.TheVariants.{Up, Down, Number, Operand}
use Rattle.c65_genchange.specs.Spots.{point_code, reach_code, again_code, is_next, beside_code, is_counted, all_counted}
use Rattle.c65_genchange.specs.Changes.{up_code, down_code, byte_code, first_code, next_code, is_neutral, skip_code, low_code, high_code, is_one, carried_code, number_code, aside_code, taken_code, less_code, joined_code, more_code, operand_code, change_code, fill_code}
use Rattle.c65_gen_law_lines.proofs.Made.{is_early, Piece, nowhere, once_at}
use Rattle.c65_gen_law_lines.proofs.Leaves.{Still}
use Rattle.c65_gen_law_lines.proofs.Quiet.{Quiet, quiet_then, quiet_piece, quiet_label, quiet_branch, quiet_none, quiet_wider, quiet_as, quiet_if}
use Rattle.c65_gen_law_lines.proofs.Directs.{carry_quiet}

-- ---- a byte

-- an operation of which the table has each mode that reaches a byte
pub record Reaches (op : Op) : Type 0 where
  zero : is_early (zero_page op 0) ≡ true
  indirect : is_early (by_y op 0) ≡ true
  absolute : (sym : Sym) (at : ℕ) → is_early (absolute op sym at) ≡ true

pub reaches_lda : Reaches Lda
reaches_lda = record { zero = refl; indirect = refl; absolute = λ sym at. refl }

pub reaches_sta : Reaches Sta
reaches_sta = record { zero = refl; indirect = refl; absolute = λ sym at. refl }

pub reaches_adc : Reaches Adc
reaches_adc = record { zero = refl; indirect = refl; absolute = λ sym at. refl }

reaches_instruction : (op : BinaryOp) → Reaches (instruction op)
reaches_instruction ops.Add = record { zero = refl; indirect = refl; absolute = λ sym at. refl }
reaches_instruction ops.Sub = record { zero = refl; indirect = refl; absolute = λ sym at. refl }
reaches_instruction ops.BitAnd = record { zero = refl; indirect = refl; absolute = λ sym at. refl }
reaches_instruction ops.BitXor = record { zero = refl; indirect = refl; absolute = λ sym at. refl }
reaches_instruction _ = record { zero = refl; indirect = refl; absolute = λ sym at. refl }

pub reach_piece : (op : Op) (spot : Spot) → Reaches op → Piece 4 (reach_code op spot)
reach_piece op (Behind pointer at) r = record { plain = refl; fit = and_from (is_early (by_y op 0)) true r.indirect refl; size = omega arith }
reach_piece op (Data sym at) r = record { plain = refl; fit = and_from (is_early (absolute op sym at)) true (r.absolute sym at) refl; size = omega arith }
reach_piece op (Zero at) r = record { plain = refl; fit = and_from (is_early (zero_page op 0)) true r.zero refl; size = omega arith }

pub again_piece : (op : Op) (spot : Spot) → Reaches op → Piece 3 (again_code op spot)
again_piece op (Behind pointer at) r = record { plain = refl; fit = and_from (is_early (by_y op 0)) true r.indirect refl; size = omega arith }
again_piece op (Data sym at) r = record { plain = refl; fit = and_from (is_early (absolute op sym at)) true (r.absolute sym at) refl; size = omega arith }
again_piece op (Zero at) r = record { plain = refl; fit = and_from (is_early (zero_page op 0)) true r.zero refl; size = omega arith }

pub reach_still : (op : Op) (spot : Spot) → Still (reach_code op spot)
reach_still op (Behind pointer at) v = record { to = λ calls. refl }
reach_still op (Data sym at) v = record { to = λ calls. refl }
reach_still op (Zero at) v = record { to = λ calls. refl }

pub again_still : (op : Op) (spot : Spot) → Still (again_code op spot)
again_still op (Behind pointer at) v = record { to = λ calls. refl }
again_still op (Data sym at) v = record { to = λ calls. refl }
again_still op (Zero at) v = record { to = λ calls. refl }

pub reach_quiet : {ok : ℕ → Bool} (op : Op) (spot : Spot) → Reaches op → Quiet ok nowhere 4 (reach_code op spot)
reach_quiet op spot r = quiet_piece (reach_piece op spot r) (reach_still op spot)

pub beside_quiet : {ok : ℕ → Bool} (op : Op) (low high : Spot) → Reaches op → Quiet ok nowhere 4 (beside_code op low high)
beside_quiet {ok = ok} op low high r =
    let iny : Quiet ok nowhere 1 (implied Iny ∷ []) = quiet_piece (record { plain = refl; fit = refl; size = omega arith }) (λ v. record { to = λ calls. refl }) in
    quiet_if (is_next low high) (quiet_as (λ l. refl) (quiet_then iny (quiet_piece (again_piece op high r) (again_still op high)))) (reach_quiet op high r)

load_quiet : {ok : ℕ → Bool} (spot : Spot) → Quiet ok nowhere 4 (reach_code Lda spot)
load_quiet spot = reach_quiet Lda spot reaches_lda

store_quiet : {ok : ℕ → Bool} (spot : Spot) → Quiet ok nowhere 3 (again_code Sta spot)
store_quiet spot = quiet_piece (again_piece Sta spot reaches_sta) (again_still Sta spot)

-- counting instructions reach by no pointer
pub up_quiet_at : {ok : ℕ → Bool} (spot : Spot) → is_counted spot ≡ true → Quiet ok nowhere 4 (reach_code Inc spot)
up_quiet_at (Behind pointer at) h = absurd cc
up_quiet_at (Data sym at) h = quiet_piece (record { plain = refl; fit = refl; size = omega arith }) (λ v. record { to = λ calls. refl })
up_quiet_at (Zero at) h = quiet_piece (record { plain = refl; fit = refl; size = omega arith }) (λ v. record { to = λ calls. refl })

pub down_quiet_at : {ok : ℕ → Bool} (spot : Spot) → is_counted spot ≡ true → Quiet ok nowhere 4 (reach_code Dec spot)
down_quiet_at (Behind pointer at) h = absurd cc
down_quiet_at (Data sym at) h = quiet_piece (record { plain = refl; fit = refl; size = omega arith }) (λ v. record { to = λ calls. refl })
down_quiet_at (Zero at) h = quiet_piece (record { plain = refl; fit = refl; size = omega arith }) (λ v. record { to = λ calls. refl })

-- ---- one more, and one less

pub up_quiet : {ok : ℕ → Bool} (target : Target) (label : ℕ) → ok label ≡ true → all_counted target ≡ true → Quiet ok (once_at label) 13 (up_code target label)
up_quiet (Byte low) label passes h = quiet_wider (quiet_as (λ l. omega arith) (quiet_then (up_quiet_at low h) (quiet_label label))) (omega arith)
up_quiet (Word low high) label passes h =
    let both = and_parts (is_counted low) (is_counted high) h in
    quiet_as (λ l. omega arith) (quiet_then (up_quiet_at low both.0) (quiet_then (quiet_branch Bne label refl passes) (quiet_then (up_quiet_at high both.1) (quiet_label label))))

pub down_quiet : {ok : ℕ → Bool} (target : Target) (label : ℕ) → ok label ≡ true → all_counted target ≡ true → Quiet ok (once_at label) 17 (down_code target label)
down_quiet (Byte low) label passes h = quiet_wider (quiet_as (λ l. omega arith) (quiet_then (down_quiet_at low h) (quiet_label label))) (omega arith)
down_quiet (Word low high) label passes h =
    let both = and_parts (is_counted low) (is_counted high) h in
    quiet_as (λ l. omega arith) (quiet_then (load_quiet low) (quiet_then (quiet_branch Bne label refl passes) (quiet_then (down_quiet_at high both.1) (quiet_then (quiet_label label) (down_quiet_at low both.0)))))

-- ---- by a constant

pub constant_quiet : {ok : ℕ → Bool} (op : BinaryOp) (n : ℕ) → Quiet ok nowhere 2 (value (instruction op) n ∷ [])
constant_quiet ops.Add n = quiet_piece (record { plain = refl; fit = refl; size = omega arith }) (λ v. record { to = λ calls. refl })
constant_quiet ops.Sub n = quiet_piece (record { plain = refl; fit = refl; size = omega arith }) (λ v. record { to = λ calls. refl })
constant_quiet ops.BitAnd n = quiet_piece (record { plain = refl; fit = refl; size = omega arith }) (λ v. record { to = λ calls. refl })
constant_quiet ops.BitXor n = quiet_piece (record { plain = refl; fit = refl; size = omega arith }) (λ v. record { to = λ calls. refl })
constant_quiet _ n = quiet_piece (record { plain = refl; fit = refl; size = omega arith }) (λ v. record { to = λ calls. refl })

byte_quiet : {ok : ℕ → Bool} (op : BinaryOp) (n : ℕ) (spot : Spot) → Quiet ok nowhere 5 (byte_code op n spot)
byte_quiet op n spot = quiet_as (λ l. refl) (quiet_then (constant_quiet op n) (store_quiet spot))

pub first_quiet : {ok : ℕ → Bool} (op : BinaryOp) (n : ℕ) (spot : Spot) → Quiet ok nowhere 10 (first_code op n spot)
first_quiet op n spot = quiet_as (λ l. refl) (quiet_then (load_quiet spot) (quiet_then (carry_quiet op) (byte_quiet op n spot)))

pub next_quiet : {ok : ℕ → Bool} (op : BinaryOp) (n : ℕ) (spot : Spot) → Quiet ok nowhere 9 (next_code op n spot)
next_quiet op n spot = quiet_as (λ l. refl) (quiet_then (load_quiet spot) (byte_quiet op n spot))

skip_quiet : {ok : ℕ → Bool} (op : BinaryOp) (n label : ℕ) → ok label ≡ true → Quiet ok nowhere 5 (skip_code op n label)
skip_quiet ops.Add n label passes = quiet_if (n == 0) (quiet_branch Bcc label refl passes) quiet_none
skip_quiet ops.Sub n label passes = quiet_if (n == 0) (quiet_branch Bcs label refl passes) quiet_none
skip_quiet _ n label passes = quiet_none

low_quiet : {ok : ℕ → Bool} (op : BinaryOp) (n : ℕ) (spot : Spot) → Quiet ok nowhere 10 (low_code op n spot)
low_quiet op n spot = quiet_if (is_neutral op n) quiet_none (first_quiet op n spot)

high_quiet : {ok : ℕ → Bool} (op : BinaryOp) (n : ℕ) (spot : Spot) (label : ℕ) → ok label ≡ true → Quiet ok nowhere 14 (high_code op n spot label)
high_quiet op n spot label passes = quiet_if (is_neutral op n) quiet_none (quiet_as (λ l. refl) (quiet_then (skip_quiet op n label passes) (next_quiet op n spot)))

-- where the low byte carries
carried_quiet : {ok : ℕ → Bool} (op : BinaryOp) (low high : Spot) (label : ℕ) → ok label ≡ true → Quiet ok nowhere 12 (carried_code op low high label)
carried_quiet op low high label passes = quiet_as (λ l. refl) (quiet_then (skip_quiet op 0 label passes) (quiet_then (beside_quiet Adc low high reaches_adc) (store_quiet high)))

number_quiet : {ok : ℕ → Bool} (op : BinaryOp) (n : ℕ) (target : Target) (label : ℕ) → ok label ≡ true → Quiet ok (once_at label) 24 (number_code op n target label)
number_quiet op n (Byte low) label passes = quiet_wider (quiet_as (λ l. omega arith) (quiet_then (low_quiet op (first n) low) (quiet_label label))) (omega arith)
number_quiet op n (Word low high) label passes =
    quiet_if (is_one op n) (quiet_wider (quiet_as (λ l. omega arith) (quiet_then (first_quiet op 1 low) (quiet_then (carried_quiet op low high label passes) (quiet_label label)))) (omega arith))
    (quiet_as (λ l. omega arith) (quiet_then (low_quiet op (first n) low) (quiet_then (high_quiet op (second n) high label passes) (quiet_label label))))

-- ---- by the value in AX

sec_quiet : {ok : ℕ → Bool} → Quiet ok nowhere 1 (implied Sec ∷ [])
sec_quiet = quiet_piece (record { plain = refl; fit = refl; size = omega arith }) (λ v. record { to = λ calls. refl })

taken_quiet : {ok : ℕ → Bool} (at : ℕ) (spot : Spot) → Quiet ok nowhere 5 (taken_code at spot)
taken_quiet {ok = ok} at spot =
    let less : Quiet ok nowhere 2 (zero_page Sbc at ∷ []) = quiet_piece (record { plain = refl; fit = refl; size = omega arith }) (λ v. record { to = λ calls. refl }) in
    quiet_as (λ l. refl) (quiet_then less (store_quiet spot))

less_quiet : {ok : ℕ → Bool} (target : Target) → Quiet ok nowhere 23 (less_code target)
less_quiet {ok = ok} (Byte low) =
    let kept : Quiet ok nowhere 2 (zero_page Sta tmp1 ∷ []) = quiet_piece (record { plain = refl; fit = refl; size = omega arith }) (λ v. record { to = λ calls. refl }) in
    quiet_wider (quiet_as (λ l. refl) (quiet_then kept (quiet_then (load_quiet low) (quiet_then sec_quiet (taken_quiet tmp1 low))))) (omega arith)
less_quiet {ok = ok} (Word low high) =
    let kept : Quiet ok nowhere 4 aside_code = quiet_piece (record { plain = refl; fit = refl; size = omega arith }) (λ v. record { to = λ calls. refl }) in
    quiet_as (λ l. refl) (quiet_then kept (quiet_then (load_quiet low) (quiet_then sec_quiet (quiet_then (taken_quiet tmp1 low) (quiet_then (load_quiet high) (taken_quiet tmp2 high))))))

joined_quiet : {ok : ℕ → Bool} (op : BinaryOp) (spot : Spot) → Quiet ok nowhere 7 (joined_code op spot)
joined_quiet op spot = quiet_as (λ l. refl) (quiet_then (reach_quiet (instruction op) spot (reaches_instruction op)) (store_quiet spot))

more_quiet : {ok : ℕ → Bool} (op : BinaryOp) (target : Target) → Quiet ok nowhere 16 (more_code op target)
more_quiet op (Byte low) = quiet_wider (quiet_as (λ l. refl) (quiet_then (carry_quiet op) (joined_quiet op low))) (omega arith)
more_quiet {ok = ok} op (Word low high) =
    let txa : Quiet ok nowhere 1 (implied Txa ∷ []) = quiet_piece (record { plain = refl; fit = refl; size = omega arith }) (λ v. record { to = λ calls. refl }) in
    quiet_as (λ l. refl) (quiet_then (carry_quiet op) (quiet_then (joined_quiet op low) (quiet_then txa (joined_quiet op high))))

operand_quiet : {ok : ℕ → Bool} (op : BinaryOp) (target : Target) → Quiet ok nowhere 23 (operand_code op target)
operand_quiet ops.Sub target = less_quiet target
operand_quiet op target = quiet_wider (more_quiet op target) (omega arith)

-- ---- a form

-- instructions count where they reach
abbrev pub IsSound : Change → Type 0
IsSound (Up target) = all_counted target ≡ true
IsSound (Down target) = all_counted target ≡ true
IsSound change = Unit {0}

pub change_quiet : {ok : ℕ → Bool} (change : Change) (label : ℕ) → ok label ≡ true → IsSound change → Quiet ok (once_at label) 24 (change_code change label)
change_quiet (Up target) label passes sound = quiet_wider (up_quiet target label passes sound) (omega arith)
change_quiet (Down target) label passes sound = quiet_wider (down_quiet target label passes sound) (omega arith)
change_quiet (Number op n target) label passes sound = number_quiet op n target label passes
change_quiet (Operand op target) label passes sound = quiet_wider (quiet_as (λ l. omega arith) (quiet_then (operand_quiet op target) (quiet_label label))) (omega arith)

pub point_quiet : {ok : ℕ → Bool} (place : Place) → Quiet ok nowhere 4 (point_code place)
point_quiet (places.Far at) = quiet_piece (record { plain = refl; fit = refl; size = omega arith }) (λ v. record { to = λ calls. refl })
point_quiet (places.Bank b) = quiet_none
point_quiet (places.Near at) = quiet_none
point_quiet (places.Data s at) = quiet_none

pub fill_quiet : {ok : ℕ → Bool} (n : ℕ) (low high : Spot) → Quiet ok nowhere 10 (fill_code n low high)
fill_quiet {ok = ok} n low high =
    let byte : Quiet ok nowhere 2 (value Lda n ∷ []) = quiet_piece (record { plain = refl; fit = refl; size = omega arith }) (λ v. record { to = λ calls. refl }) in
    quiet_as (λ l. refl) (quiet_then byte (quiet_then (reach_quiet Sta low reaches_sta) (beside_quiet Sta low high reaches_sta)))
