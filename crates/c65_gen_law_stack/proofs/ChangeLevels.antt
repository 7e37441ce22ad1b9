-- Where lines that change numbers where they lie lead, and what waits there.
use Rattle.std.proofs.Common.{◌≡◌, ℕ, ◌==◌, ◌⊎◌, inl, inr, Bool, true, false, List, [], ◌∷◌, ◌++◌, refl, sym, subst}
use Rattle.std.specs.Prelude.{if◌then◌else◌}
use Rattle.std.specs.List.{list_all}
use Rattle.c65_base.specs.declared.operators.BinaryOp.{BinaryOp}
use Rattle.c65_base.specs.declared.operators.BinaryOp.TheVariants as ops
use Rattle.c65_mach.specs.declared.rows.Op.{Op}
use Rattle.c65_mach.specs.declared.rows.Op.TheVariants.{Adc, Bcc, Bcs, Bne, Dec, Inc, Iny, Lda, Sbc, Sec, Sta, Txa}
use Rattle.c65_mach.specs.declared.rows.Mode.TheVariants.{Relative}
use Rattle.c65_code.specs.declared.line.Line.{Line}
use Rattle.c65_code.specs.declared.line.Line.TheVariants.{Label}
use Rattle.c65_genwide.specs.Lines.{value}
use Rattle.c65_genload.specs.Words.{tmp1, tmp2, implied, zero_page, branch}
use Rattle.c65_genload.specs.Numbers.{first, second}
use Rattle.c65_gendirect.specs.Words.{instruction, carry_code}
use Rattle.c65_genchange.specs.declared.spots.Spot.{Spot}
use Rattle.c65_genchange.specs.declared.spots.Spot.TheVariants.{Behind, Data, Zero}
use Rattle.c65_genchange.specs.declared.spots.Target.{Target}
use Rattle.c65_genchange.specs.declared.spots.Target.TheVariants.{Byte, Word}
use Rattle.c65_genchange.specs.declared.changes.Change.{Change}
use Rattle.c65_genchange.specs.declared.changes.Change.TheVariants.{Up, Down, Number, Operand}
use Rattle.c65_genchange.specs.Spots.{reach_code, again_code, is_next, beside_code}
use Rattle.c65_genchange.specs.Changes.{up_code, down_code, byte_code, first_code, next_code, is_neutral, skip_code, low_code, high_code, is_one, carried_code, number_code, aside_code, taken_code, less_code, joined_code, more_code, operand_code, change_code, fill_code}
use Rattle.c65_gen_law_lines.proofs.Made.{is_plain}
use Rattle.c65_gen_law_lines.proofs.Leaves.{Still, leaves_none}
use Rattle.c65_gen_law_stack.proofs.Levels.{Level, level_then, level_end, level_piece, level_label, level_leads, Closed}
use Rattle.c65_gen_law_stack.proofs.EvenLines.{Labels, No, One, Both, At}

-- ---- lines that leave what waits

-- the labels of P stand where it waits, and branches lead to labels that stand so, or elsewhere to one of X
pub record Steady (P X : Labels) (a : List Line) : Type 0 where
  pub level : (v : List ℕ) → Level (At P v) (At X v) [] v a v

steady_end : {P Q X Y : Labels} {a : List Line} → Steady P X a → ((l : ℕ) → Q l → P l) → ((l : ℕ) → X l → P l ⊎ Y l) → Steady Q Y a
steady_end p fewer closes = record {
  level = λ v. level_end (p.level v) (λ l h z. (fewer l z.0, z.1)) (λ l h z. elim (closes l z.0) [ inl a ↦ inl (a, z.1) | inr y ↦ inr (y, z.1) ]);
}

pub steady_then : {P Q X : Labels} {a b : List Line} → Steady P X a → Steady Q X b → Steady (Both P Q) X (a ++ b)
steady_then p q = record {
  level = λ v. level_end (level_then (p.level v) (q.level v)) (λ l h z. elim z.0 [ inl a ↦ inl (a, z.1) | inr b ↦ inr (b, z.1) ]) (λ l h z. inr z);
}

pub steady_piece : {X : Labels} {a : List Line} → Still a → list_all is_plain a ≡ true → Steady No X a
steady_piece still plain = record { level = λ v. level_end (level_piece (still v) plain) (λ l h z. z.0) (λ l h z. inr z) }

pub steady_none : {X : Labels} → Steady No X []
steady_none = steady_piece (λ v. leaves_none) refl

pub steady_label : {X : Labels} (k : ℕ) → Steady (One k) X (Label k ∷ [])
steady_label k = record { level = λ v. level_label k v }

pub steady_if : {P X : Labels} (b : Bool) {x y : List Line} → Steady P X x → Steady P X y → Steady P X (if b then x else y)
steady_if true p q = p
steady_if false p q = q

pub steady_on : {X : Labels} {a b : List Line} → Steady No X a → Steady No X b → Steady No X (a ++ b)
steady_on p q = steady_end (steady_then p q) (λ l z. absurd z) (λ l z. inr z)

-- a label that stands there is no longer open
pub steady_close : {P X : Labels} {a : List Line} (k : ℕ) → P k → Steady P (Both (One k) X) a → Steady No X a
steady_close {P = P} {X = X} k here p = steady_end p (λ l z. absurd z) by
  where
    by : (l : ℕ) → Both (One k) X l → P l ⊎ X l
    by l (inl e) = inl (subst (λ (x : ℕ). P x) (sym e) here)
    by l (inr x) = inr x

pub steady_branch : {X : Labels} (op : Op) (k : ℕ) → X k → Steady No X (branch op k ∷ [])
steady_branch {X = X} op k x = record {
  level = λ v. level_end (level_leads op Relative k v) (λ l h z. z.0) (λ l h z. inr (subst (λ (y : ℕ). X y) (sym z.0) x, z.1));
}

pub steady_closed : {a : List Line} → Steady No No a → (v : List ℕ) → Closed [] v a v
steady_closed p v = level_end (p.level v) (λ l h z. absurd z) (λ l h z. inr z.0)

-- ---- a byte

pub reach_steady : {X : Labels} (op : Op) (spot : Spot) → Steady No X (reach_code op spot)
reach_steady op (Behind pointer at) = steady_piece (λ v. record { to = λ calls. refl }) refl
reach_steady op (Data sym at) = steady_piece (λ v. record { to = λ calls. refl }) refl
reach_steady op (Zero at) = steady_piece (λ v. record { to = λ calls. refl }) refl

again_steady : {X : Labels} (op : Op) (spot : Spot) → Steady No X (again_code op spot)
again_steady op (Behind pointer at) = steady_piece (λ v. record { to = λ calls. refl }) refl
again_steady op (Data sym at) = steady_piece (λ v. record { to = λ calls. refl }) refl
again_steady op (Zero at) = steady_piece (λ v. record { to = λ calls. refl }) refl

beside_steady : {X : Labels} (op : Op) (low high : Spot) → Steady No X (beside_code op low high)
beside_steady {X = X} op low high =
    let iny : Steady No X (implied Iny ∷ []) = steady_piece (λ v. record { to = λ calls. refl }) refl in
    steady_if (is_next low high) (steady_on iny (again_steady op high)) (reach_steady op high)

pub carry_steady : {X : Labels} (op : BinaryOp) → Steady No X (carry_code op)
carry_steady ops.Add = steady_piece (λ v. record { to = λ calls. refl }) refl
carry_steady ops.Sub = steady_piece (λ v. record { to = λ calls. refl }) refl
carry_steady _ = steady_none

-- ---- forms

pub up_steady : (target : Target) (label : ℕ) → Steady No No (up_code target label)
up_steady (Byte low) label = steady_close label (inr refl) (steady_then (reach_steady Inc low) (steady_label label))
up_steady (Word low high) label = steady_close label (inr (inr (inr refl))) (steady_then (reach_steady Inc low) (steady_then (steady_branch Bne label (inl refl)) (steady_then (reach_steady Inc high) (steady_label label))))

pub down_steady : (target : Target) (label : ℕ) → Steady No No (down_code target label)
down_steady (Byte low) label = steady_close label (inr refl) (steady_then (reach_steady Dec low) (steady_label label))
down_steady (Word low high) label =
    steady_close label (inr (inr (inr (inl refl)))) (steady_then (reach_steady Lda low) (steady_then (steady_branch Bne label (inl refl)) (steady_then (reach_steady Dec high) (steady_then (steady_label label) (reach_steady Dec low)))))

pub byte_steady : {X : Labels} (op : BinaryOp) (n : ℕ) (spot : Spot) → Steady No X (byte_code op n spot)
byte_steady {X = X} op n spot =
    let own : Steady No X (value (instruction op) n ∷ []) = steady_piece (λ v. record { to = λ calls. refl }) refl in
    steady_on own (again_steady Sta spot)

pub first_steady : {X : Labels} (op : BinaryOp) (n : ℕ) (spot : Spot) → Steady No X (first_code op n spot)
first_steady op n spot = steady_on (reach_steady Lda spot) (steady_on (carry_steady op) (byte_steady op n spot))

pub next_steady : {X : Labels} (op : BinaryOp) (n : ℕ) (spot : Spot) → Steady No X (next_code op n spot)
next_steady op n spot = steady_on (reach_steady Lda spot) (byte_steady op n spot)

low_steady : {X : Labels} (op : BinaryOp) (n : ℕ) (spot : Spot) → Steady No X (low_code op n spot)
low_steady op n spot = steady_if (is_neutral op n) steady_none (first_steady op n spot)

skip_steady : {X : Labels} (op : BinaryOp) (n label : ℕ) → X label → Steady No X (skip_code op n label)
skip_steady ops.Add n label x = steady_if (n == 0) (steady_branch Bcc label x) steady_none
skip_steady ops.Sub n label x = steady_if (n == 0) (steady_branch Bcs label x) steady_none
skip_steady _ n label x = steady_none

high_steady : {X : Labels} (op : BinaryOp) (n : ℕ) (spot : Spot) (label : ℕ) → X label → Steady No X (high_code op n spot label)
high_steady op n spot label x = steady_if (is_neutral op n) steady_none (steady_on (skip_steady op n label x) (next_steady op n spot))

carried_steady : {X : Labels} (op : BinaryOp) (low high : Spot) (label : ℕ) → X label → Steady No X (carried_code op low high label)
carried_steady op low high label x = steady_on (skip_steady op 0 label x) (steady_on (beside_steady Adc low high) (again_steady Sta high))

number_steady : (op : BinaryOp) (n : ℕ) (target : Target) (label : ℕ) → Steady No No (number_code op n target label)
number_steady op n (Byte low) label = steady_close label (inr refl) (steady_then (low_steady op (first n) low) (steady_label label))
number_steady op n (Word low high) label =
    steady_if (is_one op n) (steady_close label (inr (inr refl)) (steady_then (first_steady op 1 low) (steady_then (carried_steady op low high label (inl refl)) (steady_label label))))
    (steady_close label (inr (inr refl)) (steady_then (low_steady op (first n) low) (steady_then (high_steady op (second n) high label (inl refl)) (steady_label label))))

taken_steady : {X : Labels} (at : ℕ) (spot : Spot) → Steady No X (taken_code at spot)
taken_steady {X = X} at spot =
    let own : Steady No X (zero_page Sbc at ∷ []) = steady_piece (λ v. record { to = λ calls. refl }) refl in
    steady_on own (again_steady Sta spot)

less_steady : {X : Labels} (target : Target) → Steady No X (less_code target)
less_steady {X = X} (Byte low) =
    let kept : Steady No X (zero_page Sta tmp1 ∷ []) = steady_piece (λ v. record { to = λ calls. refl }) refl in
    let sec : Steady No X (implied Sec ∷ []) = steady_piece (λ v. record { to = λ calls. refl }) refl in
    steady_on kept (steady_on (reach_steady Lda low) (steady_on sec (taken_steady tmp1 low)))
less_steady {X = X} (Word low high) =
    let kept : Steady No X aside_code = steady_piece (λ v. record { to = λ calls. refl }) refl in
    let sec : Steady No X (implied Sec ∷ []) = steady_piece (λ v. record { to = λ calls. refl }) refl in
    steady_on kept (steady_on (reach_steady Lda low) (steady_on sec (steady_on (taken_steady tmp1 low) (steady_on (reach_steady Lda high) (taken_steady tmp2 high)))))

joined_steady : {X : Labels} (op : BinaryOp) (spot : Spot) → Steady No X (joined_code op spot)
joined_steady op spot = steady_on (reach_steady (instruction op) spot) (again_steady Sta spot)

more_steady : {X : Labels} (op : BinaryOp) (target : Target) → Steady No X (more_code op target)
more_steady op (Byte low) = steady_on (carry_steady op) (joined_steady op low)
more_steady {X = X} op (Word low high) =
    let txa : Steady No X (implied Txa ∷ []) = steady_piece (λ v. record { to = λ calls. refl }) refl in
    steady_on (carry_steady op) (steady_on (joined_steady op low) (steady_on txa (joined_steady op high)))

operand_steady : {X : Labels} (op : BinaryOp) (target : Target) → Steady No X (operand_code op target)
operand_steady ops.Sub target = less_steady target
operand_steady op target = more_steady op target

change_steady : (change : Change) (label : ℕ) → Steady No No (change_code change label)
change_steady (Up target) label = up_steady target label
change_steady (Down target) label = down_steady target label
change_steady (Number op n target) label = number_steady op n target label
change_steady (Operand op target) label = steady_close label (inr refl) (steady_then (operand_steady op target) (steady_label label))

pub change_level : (change : Change) (label : ℕ) (v : List ℕ) → Closed [] v (change_code change label) v
change_level change label v = steady_closed (change_steady change label) v

pub fill_steady : (n : ℕ) (low high : Spot) → Steady No No (fill_code n low high)
fill_steady n low high =
    let byte : Steady No No (value Lda n ∷ []) = steady_piece (λ v. record { to = λ calls. refl }) refl in
    steady_on byte (steady_on (reach_steady Sta low) (beside_steady Sta low high))
