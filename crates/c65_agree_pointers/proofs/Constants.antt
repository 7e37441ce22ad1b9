-- A pointer in AX is moved by a constant number of elements.
use Rattle.std.proofs.Common.{◌≡◌, ℕ, ◌+◌, ◌-◌, ◌*◌, ◌%◌, ◌<◌, ◌≤◌, max, List, ◌∷◌, ◌++◌, ℤ, pos, negsuc, Some, refl, sym, ap, ◌∙◌, subst, arith}
use Rattle.std.specs.Prelude.{Ok}
use Rattle.std.proofs.lemmas.Nat.{mul-mod_second}
use native.Mathlib.Nat.{mul_comm}
use Rattle.c65_base.specs.declared.operators.BinaryOp.{BinaryOp}
use Rattle.c65_base.specs.declared.operators.BinaryOp.TheVariants as ops
use Rattle.c65_ints.specs.declared.types.IntType.{IntType}
use Rattle.c65_ints.specs.declared.types.IntType.TheVariants.{UInt}
use Rattle.c65_ints.specs.Ranges.{residue, InRange}
use Rattle.c65_meaning.specs.Store.{Value, Whole, Number, Pointer}
use Rattle.c65_meaning.specs.Items.{Item, Push}
use Rattle.c65_meaning.specs.Fits.{Fits}
use Rattle.c65_meaning.specs.Operators.{binary}
use Rattle.c65_meaning.specs.State.{Scene}
use Rattle.c65_code.specs.declared.line.Line.{Line}
use Rattle.c65_code.specs.declared.routine.Width.TheVariants.{Ax}
use Rattle.c65_code.specs.LineState.{State, ax_of}
use Rattle.c65_code.specs.Placement.{IsPlacement}
use Rattle.c65_gendirect.specs.Words.{add_number_code}
use Rattle.c65_genexpr.specs.declared.operands.Operands.TheVariants.{PointerFirst}
use Rattle.c65_genexpr.specs.declared.operating.Form.{Form}
use Rattle.c65_genexpr.specs.declared.operating.Form.TheVariants.{Sum}
use Rattle.c65_genexpr.specs.Operands.{residue_of, negative}
use Rattle.c65_genexpr.specs.Operating.{offset_form, value_form}
use Rattle.c65_agree_store.specs.Stands.{Placing, Banks}
use Rattle.c65_agree_state.specs.World.{World, Active, lines_of, IsPlaced}
use Rattle.c65_agree_state.specs.Exprs.{Ready, Valued, MayFit, ResultIs}
use Rattle.c65_agree_frame.specs.Leads.{Leads}
use Rattle.c65_agree_frame.proofs.Leads.{leads_as}
use Rattle.c65_agree_load.proofs.Kept.{is_on}
use Rattle.c65_agree_operate.specs.Manners.{Manner}
use Rattle.c65_agree_operate.proofs.Manners.{left_held}
use Rattle.c65_agree_operate.proofs.Behind.{IsGiven}
use Rattle.c65_agree_operate.proofs.Lefts.{HasWord}
use Rattle.c65_agree_operate.proofs.Exact.{registers_kept, registers_held, one_more}
use Rattle.c65_agree_operate_bytes.specs.Laws.{IsSum}
use Rattle.c65_agree_operate_bytes.proofs.Words.{word_on}
use Rattle.c65_agree_operate_bytes.proofs.Sums.{amount, Summed, sum_leads, constant_takes_none}
use Rattle.c65_agree_pointers.specs.Sums.{told, pointer_first}
use Rattle.c65_agree_pointers.specs.Laws.{ConstantElementsDo}
use Rattle.c65_agree_pointers.proofs.Moved.{pointer_summed}
use Rattle.c65_agree_pointers.proofs.Words.{pointer_word, low_residue, sums_fit}
use Rattle.c65_agree_pointers.proofs.Given.{moved_given}
use Rattle.c65_agree_pointers.proofs.Walks.{right_read}

-- ---- the number that is added

abbrev bytes_of : ℤ → ℕ → ℕ
bytes_of z size = (residue_of z * told size) % 4294967296

-- modulo 2 to the 16
low_bytes : (z : ℤ) (size : ℕ) → bytes_of z size % 65536 ≡ (residue 65536 z * told size) % 65536
low_bytes z size =
    let r : ℕ = residue_of z in
    let s : ℕ = told size in
    let first : bytes_of z size % 65536 ≡ (r * s) % 65536 = low (r * s) in
    first ∙ ap (λ n. n % 65536) (mul_comm r s) ∙ sym (mul-mod_second s r 65536) ∙ ap (λ n. (s * n) % 65536) (low_residue z) ∙ ap (λ n. n % 65536) (mul_comm s (residue 65536 z))
  where
    low : (n : ℕ) → n % 4294967296 % 65536 ≡ n % 65536
    low n = omega arith

sum_word : (op : BinaryOp) (n k l : ℕ) → IsSum op → k < 4294967296 → k % 65536 ≡ l → l < 65536 → (n + amount op k) % 65536 ≡ word_on op n l
sum_word ops.Add n k l o few e small = omega (arith, e, small)
sum_word ops.Sub n k l o few e small = omega (arith, e, small, few)
sum_word _ n k l o few e small = absurd o

form_is : (op : BinaryOp) (n : ℕ) (form : Form) → IsSum op → offset_form op n ≡ Some form → form ≡ Sum (amount op n)
form_is ops.Add n form o e = cc
form_is ops.Sub n form o e = cc
form_is _ n form o e = absurd o

same_count : (z q : ℤ) → Whole z ≡ Whole q → z ≡ q
same_count z q e = cc

-- ---- the law

module _ (g : World) (a : Active) (m : Manner) (op : BinaryOp) (size : ℕ) (t : IntType) (z : ℤ) (label pushed needs : ℕ) (placed : IsPlacement g.code g.place) (own : IsPlaced (lines_of g a)) (sums : IsSum op) where
  abbrev lines : List Line
  lines = add_number_code (amount op (bytes_of z size)) label

  leads : (c : Scene) (w : Placing) (b : Banks) (u : State) (va vb x : Value) → Ready g a pushed needs c w b u → MayFit Valued (Pointer size) va → ResultIs Valued w Ax va u → Fits (Number t) vb → vb ≡ Whole z → binary c.store op (Pointer size) (Number t) va vb ≡ Ok x
      → Leads g a lines 2560 u (IsGiven g a m (Pointer size) c w b u x)
  leads c w b u va vb x ready fit1 is fit2 so e =
      let s = pointer_summed c.store op size t va vb x sums e in
      let count : s.count ≡ z = same_count s.count z (sym s.right ∙ so) in
      let n : ℕ = amount op (bytes_of z size) in
      let k : ℕ = (ax_of u + n) % 65536 in
      let small = ready.joins.bytes in
      let below : (residue 65536 z * told size) % 65536 < 65536 = omega arith in
      let same : k ≡ word_on op (ax_of u) ((residue 65536 s.count * told size) % 65536) =
      sum_word op (ax_of u) (bytes_of z size) ((residue 65536 z * told size) % 65536) sums (omega arith) (low_bytes z size) below ∙ ap (λ q. word_on op (ax_of u) ((residue 65536 q * told size) % 65536)) (sym count) in
      moved_given g a m pushed needs c w b u ready op size (ax_of u) k w va x s.count lines sums (λ i q f. f) (omega (arith, small.a, small.x)) (pointer_word size w va u fit1 is) s.moved same
      (leads_as g a lines 9 2560 u (Summed n u) (HasWord g a m UInt c w b u k) (omega arith)
      (λ y h. record { kept = registers_kept g a pushed needs c w b u y placed ready h.only h.bytes; word = h.word; left = left_held m c u y (registers_held u y h.only) })
      (sum_leads g a u placed (is_on g a pushed needs c w b u placed ready) (one_more g a pushed needs c w b u ready) own label n))

pub constant_elements_do : ConstantElementsDo
constant_elements_do g a m op size t z form label needs more_needs pushed first left right placed own sums range is before =
    let same : form ≡ Sum (amount op (bytes_of z size)) = form_is op (bytes_of z size) form sums is in
    rw same (right_read g a m op (Pointer size) (Number t) (Pointer size) needs more_needs pushed first (λ k. Push (Whole z) ∷ k) left (add_number_code (amount op (bytes_of z size)) label) (sums_fit op (Pointer size) (Number t) (Pointer size) (PointerFirst (told size)) (pointer_first size t sums))
    (λ c w u v. v ≡ Whole z) (constant_takes_none g a pushed t z range)
    (λ c w b u va vb x ready fit1 is1 fit2 so e. leads g a m op size t z label pushed (1 + more_needs) placed own sums c w b u va vb x ready fit1 is1 fit2 so e) before)
