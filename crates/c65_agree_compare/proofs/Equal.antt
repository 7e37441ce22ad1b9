-- Equality of AX and a word that is read where it lies.
use Rattle.std.proofs.Common.{◌≡◌, ℕ, suc, ◌+◌, ◌-◌, ◌*◌, ◌%◌, ◌<◌, ◌≤◌, List, [], ◌∷◌, ◌++◌, Bool, true, false, refl, sym, ap, ◌∙◌, subst, arith, append_assoc}
use Rattle.std.specs.Prelude.{◌==◌, not, if◌then◌else◌}
use Rattle.std.proofs.lemmas.Bool.{eqb-true}
use Rattle.std.proofs.lemmas.Bool.Decides.{nat_tests}
use Rattle.c65_mach.specs.State.{Regs}
use Rattle.c65_mach.specs.Step.{apply, is_not, is_taken}
use Rattle.c65_mach.specs.declared.rows.Op.TheVariants.{Beq, Bne, Cmp, Cpx, Txa}
use Rattle.c65_code.specs.declared.line.Line.{Line}
use Rattle.c65_code.specs.declared.line.Line.TheVariants.{Label}
use Rattle.c65_code.specs.LineState.{State, IsBytes}
use Rattle.c65_code.specs.Placement.{IsPlacement}
use Rattle.c65_genload.specs.Words.{branch, implied}
use Rattle.c65_gendirect.specs.declared.bytes.OperandByte.{OperandByte}
use Rattle.c65_gendirect.specs.declared.relation.Relation.{Relation}
use Rattle.c65_gendirect.specs.declared.relation.Relation.TheVariants.{Equal, Unequal}
use Rattle.c65_gendirect.specs.declared.compare.Sides.TheVariants.{Word}
use Rattle.c65_gendirect.specs.Bytes.{takes_y, op_of}
use Rattle.c65_gendirect.specs.Compare.{second_code, compare_code}
use Rattle.c65_agree_state.specs.World.{World, Active, lines_of, IsPlaced}
use Rattle.c65_agree_frame.specs.Leads.{Leads, IsOn}
use Rattle.c65_agree_frame.proofs.Leads.{leads_then, leads_as}
use Rattle.c65_agree_direct.specs.Operands.{byte_in, MayRead, Compares, ComparesX}
use Rattle.c65_agree_operate.proofs.Exact.{at_regs, To, on_byte, on_regs, implied_leads, operand_leads, leads_from}
use Rattle.c65_agree_compare.proofs.Ways.{LeadsBy, by_then, branch_by, early_by, skip_by, label_by}

-- ---- bytes

abbrev pub apart : ℕ → ℕ → Bool
apart m n = (m + 256 - n) % 256 == 0

-- no difference between two bytes
pub same_bytes : (m n : ℕ) → m < 256 → n < 256 → apart m n ≡ true → m ≡ n
same_bytes m n lt lt2 e = let h : (m + 256 - n) % 256 ≡ 0 = eqb-true ((m + 256 - n) % 256) 0 e in omega (arith, h, lt, lt2)

pub other_bytes : (m n : ℕ) → apart m n ≡ false → m ≡ n → ⊥
other_bytes m n e h =
    let none : (m + 256 - n) % 256 ≡ 0 = omega (arith, h) in
    let f : apart m n ≡ true = ap (λ (d : ℕ). d == 0) none in
    let clash : true ≡ false = sym f ∙ e in absurd (cc)

equal_is : (m n : ℕ) (b : Bool) → (m ≡ n → b ≡ true) → (b ≡ true → m ≡ n) → (m == n) ≡ b
equal_is m n true f h = let e : m ≡ n = h refl in grind (arith, nat_tests)
equal_is m n false f h = go (m == n) refl
  where
    go : (x : Bool) → (m == n) ≡ x → x ≡ false
    go true e = sym (f (eqb-true m n e))
    go false e = refl

-- ---- the lines

-- only registers are others
abbrev pub OnlyRegs : State → State → Type 0
OnlyRegs t u = (u ≡ at_regs t u.regs) × IsBytes u

record IsCompared (t : State) (same : Bool) (u : State) : Type 0 where
  only : u ≡ at_regs t u.regs
  z : u.regs.z ≡ same
  bytes : IsBytes u

is_compared : (t : State) (s : Regs) (u : State) → To t s u → IsCompared t s.z u
is_compared t s u h = let regs : u.regs ≡ s = ap (λ (x : State). x.regs) h.0 in record { only = h.0 ∙ ap (at_regs t) (sym regs); z = ap (λ (r : Regs). r.z) regs; bytes = h.1 }

module _ (g : World) (a : Active) (t : State) (on_place : IsPlacement g.code g.place) (on : IsOn g t) (own : IsPlaced (lines_of g a)) (to label : ℕ) (low high : OperandByte) (may : MayRead g t low) (may2 : MayRead g t high) (small : byte_in g t low < 256) (small2 : byte_in g t high < 256) where
  abbrev first : Regs
  first = on_byte g t Compares low t.regs

  first_leads : Leads g a (op_of Cmp low) 2 t (To t first)
  first_leads = operand_leads g a t on_place on Compares low t.regs may on.stacks.calm.bytes

  abbrev z2 : Bool
  z2 = apart t.regs.x (byte_in g t high)

  second_by : (b : Bool) → IsBytes (at_regs t first) → Leads g a (if b then implied Txa ∷ op_of Cmp high else op_of Cpx high) 3 (at_regs t first) (IsCompared t z2)
  second_by true b =
      let moved : Regs = apply false Txa 0 first in
      leads_then g a (implied Txa ∷ []) (op_of Cmp high) 1 2 (at_regs t first) (To t moved) (IsCompared t z2) (implied_leads g a t on_place on Txa refl first b) (λ u h.
      leads_from g a (op_of Cmp high) 2 t u moved (IsCompared t z2) h (λ b2.
      leads_as g a (op_of Cmp high) 2 2 (at_regs t moved) (To t (on_byte g t Compares high moved)) (IsCompared t z2) (omega arith) (λ v e. is_compared t (on_byte g t Compares high moved) v e) (operand_leads g a t on_place on Compares high moved may2 b2)))
  second_by false b =
      leads_as g a (op_of Cpx high) 2 3 (at_regs t first) (To t (on_byte g t ComparesX high first)) (IsCompared t z2) (omega arith) (λ v e. is_compared t (on_byte g t ComparesX high first) v e) (operand_leads g a t on_place on ComparesX high first may2 b)

  on_compared : (u : State) → IsCompared t z2 u → IsOn g u
  on_compared u h = subst (IsOn g) (sym h.only) (on_regs g a t on_place on u.regs (subst IsBytes h.only h.bytes))

  abbrev m : ℕ
  m = t.regs.a + 256 * t.regs.x

  abbrev n : ℕ
  n = byte_in g t low + 256 * byte_in g t high

  low_apart : apart t.regs.a (byte_in g t low) ≡ false → (m == n) ≡ false
  low_apart e = equal_is m n false (λ h. let same : t.regs.a ≡ byte_in g t low = omega (arith, h, small, on.stacks.calm.bytes.a) in absurd (other_bytes t.regs.a (byte_in g t low) e same)) (λ h. let clash : false ≡ true = h in absurd (cc))

  high_tells : apart t.regs.a (byte_in g t low) ≡ true → (m == n) ≡ z2
  high_tells e =
      let same : t.regs.a ≡ byte_in g t low = same_bytes t.regs.a (byte_in g t low) on.stacks.calm.bytes.a small e in
      equal_is m n z2 (λ h. let both : t.regs.x ≡ byte_in g t high = omega (arith, h, same) in let none : (t.regs.x + 256 - byte_in g t high) % 256 ≡ 0 = omega (arith, both) in ap (λ (d : ℕ). d == 0) none)
      (λ h. let both : t.regs.x ≡ byte_in g t high = same_bytes t.regs.x (byte_in g t high) on.stacks.calm.bytes.x small2 h in omega (arith, same, both))

  only_first : IsBytes (at_regs t first) → OnlyRegs t (at_regs t first)
  only_first b = (refl, b)

  z_is : (x y : Bool) → is_not x ≡ y → x ≡ not y
  z_is true true e = sym e
  z_is true false e = refl
  z_is false true e = refl
  z_is false false e = sym e

  -- ---- `==`

  abbrev equal_end : List Line
  equal_end = second_code high ++ branch Beq to ∷ []

  equal_last : (y : Bool) → (m == n) ≡ y → apart t.regs.a (byte_in g t low) ≡ true → IsBytes (at_regs t first) → LeadsBy g a (equal_end ++ Label label ∷ []) 5 to y (at_regs t first) (OnlyRegs t)
  equal_last y is e b =
      label_by g a equal_end label 5 to y (at_regs t first) (OnlyRegs t)
      (by_then g a (second_code high) (branch Beq to ∷ []) 3 2 to y (at_regs t first) (IsCompared t z2) (OnlyRegs t) (second_by (takes_y high) b) (λ u h n2 v p turns q seen has turned k.
      branch_by g a Beq to refl u (on_compared u h) y (h.z ∙ sym (high_tells e) ∙ is) n2 v p turns q seen has turned (λ x later same come. k x later (subst (OnlyRegs t) (sym same) (h.only, h.bytes)) come)))

  equal_parts : (op_of Cmp low ++ (branch Bne label ∷ second_code high)) ++ (branch Beq to ∷ Label label ∷ []) ≡ op_of Cmp low ++ (branch Bne label ∷ (equal_end ++ Label label ∷ []))
  equal_parts = append_assoc (op_of Cmp low) (branch Bne label ∷ second_code high) (branch Beq to ∷ Label label ∷ []) ∙ ap (λ ls. op_of Cmp low ++ (branch Bne label ∷ ls)) (sym (append_assoc (second_code high) (branch Beq to ∷ []) (Label label ∷ [])))

  pub equal_leads : (is_signed y : Bool) → (m == n) ≡ y → LeadsBy g a (compare_code Equal is_signed (Word low high) label to) 9 to y t (OnlyRegs t)
  equal_leads is_signed y is =
      subst (λ ls. LeadsBy g a ls 9 to y t (OnlyRegs t)) (sym equal_parts)
      (by_then g a (op_of Cmp low) (branch Bne label ∷ (equal_end ++ Label label ∷ [])) 2 7 to y t (To t first) (OnlyRegs t) first_leads (λ u h.
      subst (λ x. LeadsBy g a (branch Bne label ∷ (equal_end ++ Label label ∷ [])) 7 to y x (OnlyRegs t)) (sym h.0)
      (let b : IsBytes (at_regs t first) = subst IsBytes h.0 h.1 in
      skip_by g a Bne label refl (at_regs t first) (on_regs g a t on_place on first b) own equal_end 5 to y (OnlyRegs t) (is_not first.z) refl
      (λ e. (sym is ∙ low_apart (z_is first.z true e), only_first b))
      (λ e. equal_last y is (z_is first.z false e) b))))

  -- ---- `!=`

  abbrev other_end : List Line
  other_end = second_code high ++ branch Bne to ∷ []

  other_last : (y : Bool) → (m == n) ≡ y → apart t.regs.a (byte_in g t low) ≡ true → IsBytes (at_regs t first) → LeadsBy g a (other_end ++ Label label ∷ []) 5 to (not y) (at_regs t first) (OnlyRegs t)
  other_last y is e b =
      label_by g a other_end label 5 to (not y) (at_regs t first) (OnlyRegs t)
      (by_then g a (second_code high) (branch Bne to ∷ []) 3 2 to (not y) (at_regs t first) (IsCompared t z2) (OnlyRegs t) (second_by (takes_y high) b) (λ u h n2 v p turns q seen has turned k.
      branch_by g a Bne to refl u (on_compared u h) (not y) (ap is_not (h.z ∙ sym (high_tells e) ∙ is) ∙ is_the_other y) n2 v p turns q seen has turned (λ x later same come. k x later (subst (OnlyRegs t) (sym same) (h.only, h.bytes)) come)))
    where
      is_the_other : (x : Bool) → is_not x ≡ not x
      is_the_other true = refl
      is_the_other false = refl

  other_parts : (op_of Cmp low ++ (branch Bne to ∷ second_code high)) ++ (branch Bne to ∷ Label label ∷ []) ≡ op_of Cmp low ++ (branch Bne to ∷ (other_end ++ Label label ∷ []))
  other_parts = append_assoc (op_of Cmp low) (branch Bne to ∷ second_code high) (branch Bne to ∷ Label label ∷ []) ∙ ap (λ ls. op_of Cmp low ++ (branch Bne to ∷ ls)) (sym (append_assoc (second_code high) (branch Bne to ∷ []) (Label label ∷ [])))

  pub other_leads : (is_signed y : Bool) → (m == n) ≡ y → LeadsBy g a (compare_code Unequal is_signed (Word low high) label to) 9 to (not y) t (OnlyRegs t)
  other_leads is_signed y is =
      subst (λ ls. LeadsBy g a ls 9 to (not y) t (OnlyRegs t)) (sym other_parts)
      (by_then g a (op_of Cmp low) (branch Bne to ∷ (other_end ++ Label label ∷ [])) 2 7 to (not y) t (To t first) (OnlyRegs t) first_leads (λ u h.
      subst (λ x. LeadsBy g a (branch Bne to ∷ (other_end ++ Label label ∷ [])) 7 to (not y) x (OnlyRegs t)) (sym h.0)
      (let b : IsBytes (at_regs t first) = subst IsBytes h.0 h.1 in
      early_by g a Bne to refl (at_regs t first) (on_regs g a t on_place on first b) (other_end ++ Label label ∷ []) 5 (not y) (OnlyRegs t) (is_not first.z) refl
      (λ e. (ap not (sym is ∙ low_apart (z_is first.z true e)), only_first b))
      (λ e. other_last y is (z_is first.z false e) b))))
