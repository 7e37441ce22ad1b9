-- Shifts by a constant do their work.
use Rattle.std.proofs.Common.{◌≡◌, ℕ, ◌+◌, max, ◌++◌, true, false, refl, sym, ap, ◌∙◌, subst, arith}
use Rattle.std.proofs.lemmas.List.{append-nil}
use Rattle.c65_base.specs.declared.operators.BinaryOp.{BinaryOp}
use Rattle.c65_base.specs.declared.operators.BinaryOp.TheVariants as ops
use Rattle.c65_ints.specs.declared.types.IntType.{IntType}
use Rattle.c65_ints.specs.Ranges.{is_signed_of}
use Rattle.c65_csem.specs.Places.{is_promoted}
use Rattle.c65_meaning.specs.Store.{Number}
use Rattle.c65_meaning.specs.State.{Scene}
use Rattle.c65_code.specs.declared.routine.TosOp.{TosOp}
use Rattle.c65_code.specs.LineState.{State}
use Rattle.c65_code.specs.Placement.{IsPlacement}
use Rattle.c65_code.specs.Rows.{primary_of}
use Rattle.c65_genwide.specs.Wide.{width_of, tos_of, is_comparison}
use Rattle.c65_genshift.specs.declared.quick.Quick.{Quick}
use Rattle.c65_genshift.specs.declared.quick.Quick.TheVariants.{Shift}
use Rattle.c65_genshift.specs.Shifts.{shift_code, is_short}
use Rattle.c65_genshift.specs.Quick.{quick_lines, quick_code}
use Rattle.c65_genexpr.specs.Operands.{residue_of}
use Rattle.c65_genexpr.specs.Operating.{value_form}
use Rattle.c65_agree_store.specs.Stands.{Placing, Banks}
use Rattle.c65_agree_numbers.specs.Words.{word_of, is_shift}
use Rattle.c65_agree_state.specs.World.{World, Active, lines_of, IsPlaced}
use Rattle.c65_agree_state.specs.Exprs.{Ready, Valued}
use Rattle.c65_agree_frame.specs.Leads.{Leads}
use Rattle.c65_agree_frame.proofs.Leads.{leads_as}
use Rattle.c65_agree_operate.specs.Manners.{DoesIn}
use Rattle.c65_agree_operate.proofs.Given.{none_narrow}
use Rattle.c65_agree_quick.specs.Laws.{with_constant, ConstantShiftsDo, IsNow}
use Rattle.c65_agree_quick.proofs.Powers.{moved}
use Rattle.c65_agree_quick.proofs.Shifted.{shift_leads}
use Rattle.c65_agree_quick.proofs.Constants.{shift_given, shift_form}
use Rattle.c65_agree_quick.proofs.Does.{constant_does}

plain_shift : (op : BinaryOp) → is_shift op ≡ true → is_comparison op ≡ false
plain_shift ops.Shl h = refl
plain_shift ops.Shr h = refl
plain_shift _ h = absurd (cc)

-- where a type is promoted nothing is brought into its range
pub quick_is : (t : IntType) (q : Quick) (label : ℕ) → is_promoted t ≡ true → quick_lines (width_of t) q label ≡ quick_code t q label
quick_is t q label promoted = sym (append-nil (quick_lines (width_of t) q label)) ∙ ap (λ ls. quick_lines (width_of t) q label ++ ls) (sym (none_narrow t promoted))

-- a shift of few lines, from the word m
pub short_leads : (g : World) (a : Active) (pushed needs : ℕ) (c : Scene) (w : Placing) (b : Banks) (t : IntType) (op : TosOp) (n label m y : ℕ) (u : State) → IsPlacement g.code g.place → IsPlaced (lines_of g a) → is_promoted t ≡ true → Ready g a pushed needs c w b u
    → is_short op (width_of t) n ≡ true → primary_of (width_of t) u ≡ m → moved op (width_of t) m n ≡ y → Leads g a (quick_code t (Shift op n) label) 2560 u (IsNow g a c w b (width_of t) y u)
short_leads g a pushed needs c w b t op n label m y u placed own promoted ready short is gives =
    let result : moved op (width_of t) (primary_of (width_of t) u) n ≡ y = ap (λ x. moved op (width_of t) x n) is ∙ gives in
    subst (λ ls. Leads g a ls 2560 u (IsNow g a c w b (width_of t) y u)) (quick_is t (Shift op n) label promoted)
    (leads_as g a (shift_code op (width_of t) n label) 800 2560 u (IsNow g a c w b (width_of t) (moved op (width_of t) (primary_of (width_of t) u) n) u) (IsNow g a c w b (width_of t) y u) (omega arith)
    (λ x h. record { kept = h.kept; word = h.word ∙ result })
    (shift_leads g a pushed needs c w b u placed own ready label op (width_of t) n short))

pub constant_shifts_do : ConstantShiftsDo
constant_shifts_do g a m op t r z form label needs more_needs pushed first left right placed own heavy few shift promoted range is before =
    let o : TosOp = tos_of op (is_signed_of t) in
    let n : ℕ = residue_of z in
    let f = shift_form op t n form shift is in
    subst (λ x. DoesIn g a m Valued (Number t) (with_constant op t r z first) (max needs (1 + more_needs)) pushed (left ++ value_form x label)) (sym f.is)
    (constant_does g a m op t r z needs more_needs pushed first left (quick_code t (Shift o n) label) heavy few (plain_shift op shift) range
    (λ c w b u p y ready at range1 e. short_leads g a pushed more_needs c w b t o n label (word_of t p) (word_of t y) u placed own promoted ready f.short at (shift_given op t r p z y shift promoted range1 range f.short e))
    before)
