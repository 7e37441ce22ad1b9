-- The lines of the 65C02 that stand for two: what they keep of a segment.
use Rattle.std.proofs.Common.{◌≡◌, ◌∙◌, ℕ, ◌<◌, ◌==◌, ◌&&◌, Bool, true, false, List, [], ◌∷◌, Some, refl, sym, subst, ap, arith}
use Rattle.std.specs.List.{list_all}
use Rattle.std.proofs.lemmas.Bool.{and_parts, and_from}
use Rattle.std.proofs.lemmas.List.Elements.{All-nil, All-head, All-tail, All-cons}
use Rattle.c65_mach.specs.declared.rows.Op.TheVariants as ops
use Rattle.c65_mach.specs.declared.rows.Mode.{Mode}
use Rattle.c65_mach.specs.declared.rows.Mode.TheVariants.{Accumulator, Immediate, ZeroPage, Absolute, IndirectY, ZeroPageIndirect}
use Rattle.c65_code.specs.declared.line.Operand.{Operand}
use Rattle.c65_code.specs.declared.line.Operand.TheVariants.{Nothing, Byte, Zero, At}
use Rattle.c65_code.specs.declared.line.Line.{Line}
use Rattle.c65_code.specs.declared.line.Line.TheVariants.{Do}
use Rattle.c65_code.specs.Segments.{is_fit, labels_of, targets_of, is_closing, closed_by}
use Rattle.c65_code.specs.Weights.{lines_size}
use Rattle.c65_code.specs.Writable.{IsLineWritable}
use Rattle.c65_pass.specs.ProcessorRules.{is_plain_place, line_if, zero_stored, stepped_up, stepped_down, loaded_through, stored_through}
use Rattle.c65_pass.specs.Rewriting.{bulk}
use Rattle.c65_pass.proofs.Plain.{IsStandIn}

-- what a line owes in the place of two
pub record IsShort (line next new : Line) : Type 0 where
  pub stands : IsStandIn (line ∷ next ∷ []) (new ∷ [])
  pub less : bulk (new ∷ []) < bulk (line ∷ next ∷ [])

closed_behind : (b : Bool) (post : List Line) → closed_by false post ≡ true → closed_by b post ≡ true
closed_behind b [] h = absurd cc
closed_behind b (line ∷ post) h = h

given : (fits : Bool) (new l : Line) → line_if fits new ≡ Some l → (fits ≡ true) × (new ≡ l)
given true new l h = (refl, cc)
given false new l h = absurd cc

short_of : (line next new : Line) → labels_of (line ∷ next ∷ []) ≡ [] → labels_of (new ∷ []) ≡ [] → is_closing next ≡ false
    → (is_fit next ≡ true → (is_fit new ≡ true) × (targets_of (new ∷ []) ≡ [])) → ((n : ℕ) → IsLineWritable n next → IsLineWritable n new) → lines_size (new ∷ []) < lines_size (line ∷ next ∷ [])
    → IsShort line next new
short_of line next new bare plain onward fits writable less = record {
  stands = record {
    bare = bare;
    plain = plain;
    still = λ fit. (fits (second_fit fit)).1;
    fit = λ fit. and_from (is_fit new) true (fits (second_fit fit)).0 refl;
    onward = λ b post k. closed_behind (is_closing new) post (ap (λ c. closed_by c post) (sym onward) ∙ k);
    size = omega (arith, less);
    writable = λ n all. All-cons (IsLineWritable n) new [] (writable n (All-head (IsLineWritable n) next [] (All-tail (IsLineWritable n) line (next ∷ []) all))) (All-nil (IsLineWritable n));
  };
  less = omega (arith, less);
}
  where
    second_fit : list_all is_fit (line ∷ next ∷ []) ≡ true → is_fit next ≡ true
    second_fit fit = (and_parts (is_fit next) true (and_parts (is_fit line) (is_fit next && true) fit).1).0

-- ---- zeros that are stored

zero_fits : (mode : Mode) (operand : Operand) → is_plain_place mode ≡ true → is_fit (Do ops.Sta mode operand) ≡ true
    → (is_fit (Do ops.Stz mode operand) ≡ true) × (targets_of (Do ops.Stz mode operand ∷ []) ≡ [])
zero_fits ZeroPage (Zero i) h fit = (refl, refl)
zero_fits Absolute (At s o) h fit = (refl, refl)
zero_fits ZeroPage _ h fit = absurd cc
zero_fits Absolute _ h fit = absurd cc
zero_fits _ operand h fit = absurd cc

pub zero_short : (line next l : Line) → zero_stored line next ≡ Some l → IsShort line next l
zero_short (Do ops.Lda Immediate (Byte v)) (Do ops.Sta mode operand) l h =
    let is = given ((v == 0) && is_plain_place mode) (Do ops.Stz mode operand) l h in
    let plain = (and_parts (v == 0) (is_plain_place mode) is.0).1 in
    subst (IsShort (Do ops.Lda Immediate (Byte v)) (Do ops.Sta mode operand)) is.1
    (short_of (Do ops.Lda Immediate (Byte v)) (Do ops.Sta mode operand) (Do ops.Stz mode operand) refl refl refl (zero_fits mode operand plain) (λ n w. w) (omega arith))
zero_short _ _ l h = absurd cc

-- ---- steps of A

pub up_short : (line next l : Line) → stepped_up line next ≡ Some l → IsShort line next l
up_short (Do ops.Clc mode operand) (Do ops.Adc Immediate (Byte v)) l h =
    let new : Line = Do ops.Inc Accumulator Nothing in
    subst (IsShort (Do ops.Clc mode operand) (Do ops.Adc Immediate (Byte v))) (given (v == 1) new l h).1
    (short_of (Do ops.Clc mode operand) (Do ops.Adc Immediate (Byte v)) new refl refl refl (λ fit. (refl, refl)) (λ n w. (tt, tt)) (omega arith))
up_short _ _ l h = absurd cc

pub down_short : (line next l : Line) → stepped_down line next ≡ Some l → IsShort line next l
down_short (Do ops.Sec mode operand) (Do ops.Sbc Immediate (Byte v)) l h =
    let new : Line = Do ops.Dec Accumulator Nothing in
    subst (IsShort (Do ops.Sec mode operand) (Do ops.Sbc Immediate (Byte v))) (given (v == 1) new l h).1
    (short_of (Do ops.Sec mode operand) (Do ops.Sbc Immediate (Byte v)) new refl refl refl (λ fit. (refl, refl)) (λ n w. (tt, tt)) (omega arith))
down_short _ _ l h = absurd cc

-- ---- bytes to which pointers point

load_fits : (operand : Operand) → is_fit (Do ops.Lda IndirectY operand) ≡ true
    → (is_fit (Do ops.Lda ZeroPageIndirect operand) ≡ true) × (targets_of (Do ops.Lda ZeroPageIndirect operand ∷ []) ≡ [])
load_fits (Zero i) fit = (refl, refl)
load_fits _ fit = absurd cc

store_fits : (operand : Operand) → is_fit (Do ops.Sta IndirectY operand) ≡ true
    → (is_fit (Do ops.Sta ZeroPageIndirect operand) ≡ true) × (targets_of (Do ops.Sta ZeroPageIndirect operand ∷ []) ≡ [])
store_fits (Zero i) fit = (refl, refl)
store_fits _ fit = absurd cc

pub load_short : (line next l : Line) → loaded_through line next ≡ Some l → IsShort line next l
load_short (Do ops.Ldy Immediate (Byte v)) (Do ops.Lda IndirectY operand) l h =
    let new : Line = Do ops.Lda ZeroPageIndirect operand in
    subst (IsShort (Do ops.Ldy Immediate (Byte v)) (Do ops.Lda IndirectY operand)) (given (v == 0) new l h).1
    (short_of (Do ops.Ldy Immediate (Byte v)) (Do ops.Lda IndirectY operand) new refl refl refl (load_fits operand) (λ n w. (tt, w.1)) (omega arith))
load_short _ _ l h = absurd cc

pub store_short : (line next l : Line) → stored_through line next ≡ Some l → IsShort line next l
store_short (Do ops.Ldy Immediate (Byte v)) (Do ops.Sta IndirectY operand) l h =
    let new : Line = Do ops.Sta ZeroPageIndirect operand in
    subst (IsShort (Do ops.Ldy Immediate (Byte v)) (Do ops.Sta IndirectY operand)) (given (v == 0) new l h).1
    (short_of (Do ops.Ldy Immediate (Byte v)) (Do ops.Sta IndirectY operand) new refl refl refl (store_fits operand) (λ n w. (tt, w.1)) (omega arith))
store_short _ _ l h = absurd cc
