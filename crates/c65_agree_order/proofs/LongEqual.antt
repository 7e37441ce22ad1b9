-- Equality of EAX and a long word that is read where it lies.
use Rattle.std.proofs.Common.{◌≡◌, ℕ, ◌+◌, ◌*◌, ◌<◌, List, [], ◌∷◌, ◌++◌, Bool, true, false, refl, sym, ap, ◌∙◌, subst, arith, append_assoc}
use Rattle.std.specs.Prelude.{◌==◌, not, if◌then◌else◌}
use Rattle.c65_mach.specs.State.{Regs}
use Rattle.c65_mach.specs.Step.{apply, is_not, is_taken}
use Rattle.c65_mach.specs.declared.rows.Op.{Op}
use Rattle.c65_mach.specs.declared.rows.Op.TheVariants.{Beq, Bne, Cmp, Cpx, Lda, Txa}
use Rattle.c65_code.specs.declared.line.Line.{Line}
use Rattle.c65_code.specs.declared.line.Line.TheVariants.{Label}
use Rattle.c65_code.specs.LineState.{State, eax_of, IsBytes}
use Rattle.c65_code.specs.Placement.{IsPlacement}
use Rattle.c65_code.specs.Forms.{Branch, form_of}
use Rattle.c65_genload.specs.Words.{sreg, branch, implied, zero_page}
use Rattle.c65_gendirect.specs.declared.bytes.OperandByte.{OperandByte}
use Rattle.c65_gendirect.specs.declared.bytes.OperandByte.TheVariants as bytes
use Rattle.c65_gendirect.specs.declared.relation.Relation.TheVariants.{Equal, Unequal}
use Rattle.c65_gendirect.specs.declared.compare.Sides.TheVariants.{Long}
use Rattle.c65_gendirect.specs.Bytes.{takes_y, op_of}
use Rattle.c65_gendirect.specs.Compare.{second_code, compare_code}
use Rattle.c65_agree_numbers.proofs.Tests.{equal, unequal}
use Rattle.c65_agree_state.specs.World.{World, Active, lines_of, IsPlaced}
use Rattle.c65_agree_frame.specs.Leads.{Leads, IsOn}
use Rattle.c65_agree_frame.proofs.Leads.{leads_then, leads_as}
use Rattle.c65_agree_direct.specs.Operands.{byte_in, MayRead, Loads, Compares, ComparesX}
use Rattle.c65_agree_operate.proofs.Exact.{at_regs, To, on_byte, on_regs, implied_leads, operand_leads, leads_from}
use Rattle.c65_agree_compare.proofs.Ways.{LeadsBy, by_then, branch_by, early_by, skip_by, label_by}
use Rattle.c65_agree_compare.proofs.Equal.{OnlyRegs, apart, same_bytes, other_bytes}
use Rattle.c65_agree_order.proofs.Steps.{only_to}
use Rattle.c65_agree_order.proofs.Orderings.{MayReadLong}

-- lines behind a branch, with more lines behind them
behind : (xs ys zs more : List Line) (b : Line) → ys ++ more ≡ zs → (xs ++ (b ∷ ys)) ++ more ≡ xs ++ (b ∷ zs)
behind xs ys zs more b e = append_assoc xs (b ∷ ys) more ∙ ap (λ ls. xs ++ (b ∷ ls)) e

z_is : (x y : Bool) → is_not x ≡ y → x ≡ not y
z_is true true e = sym e
z_is true false e = refl
z_is false true e = refl
z_is false false e = sym e

is_the_other : (x : Bool) → is_not x ≡ not x
is_the_other true = refl
is_the_other false = refl

module _ (g : World) (a : Active) (t : State) (on_place : IsPlacement g.code g.place) (on : IsOn g t) (own : IsPlaced (lines_of g a)) (to label : ℕ) (first second third fourth : OperandByte) (may : MayReadLong g t first second third fourth) where
  abbrev b0 : ℕ
  b0 = byte_in g t first

  abbrev b1 : ℕ
  b1 = byte_in g t second

  abbrev b2 : ℕ
  b2 = byte_in g t third

  abbrev b3 : ℕ
  b3 = byte_in g t fourth

  abbrev a2 : ℕ
  a2 = t.zp sreg

  abbrev a3 : ℕ
  a3 = t.zp (sreg + 1)

  abbrev m : ℕ
  m = eax_of t

  abbrev n : ℕ
  n = b0 + 256 * b1 + 65536 * b2 + 16777216 * b3

  -- ---- two bytes are compared

  -- registers alone are others, and X is as it was
  abbrev WithX : State → Type 0
  WithX u = OnlyRegs t u × (u.regs.x ≡ t.regs.x)

  -- Z tells whether the bytes are the same
  abbrev Compared : Bool → State → Type 0
  Compared z u = WithX u × (u.regs.z ≡ z)

  is_on : (u : State) → OnlyRegs t u → IsOn g u
  is_on u only = subst (IsOn g) (sym only.0) (on_regs g a t on_place on u.regs (subst IsBytes only.0 only.1))

  first_leads : Leads g a (op_of Cmp first) 4 t (Compared (apart t.regs.a b0))
  first_leads =
      let next : Regs = on_byte g t Compares first t.regs in
      leads_as g a (op_of Cmp first) 2 4 t (To t next) (Compared (apart t.regs.a b0)) (omega arith) (λ u e.
      ((only_to t u next e, ap (λ (z : State). z.regs.x) e.0), ap (λ (z : State). z.regs.z) e.0))
      (operand_leads g a t on_place on Compares first t.regs may.may on.stacks.calm.bytes)

  second_by : (b : Bool) (u : State) → WithX u → Leads g a (if b then implied Txa ∷ op_of Cmp second else op_of Cpx second) 4 u (Compared (apart t.regs.x b1))
  second_by true u k =
      let s : Regs = u.regs in
      let moved : Regs = apply false Txa 0 s in
      let next : Regs = on_byte g t Compares second moved in
      leads_from g a (implied Txa ∷ op_of Cmp second) 4 t u s (Compared (apart t.regs.x b1)) k.0 (λ b.
      leads_then g a (implied Txa ∷ []) (op_of Cmp second) 1 3 (at_regs t s) (To t moved) (Compared (apart t.regs.x b1)) (implied_leads g a t on_place on Txa refl s b) (λ v e.
      leads_from g a (op_of Cmp second) 3 t v moved (Compared (apart t.regs.x b1)) e (λ b2.
      leads_as g a (op_of Cmp second) 2 3 (at_regs t moved) (To t next) (Compared (apart t.regs.x b1)) (omega arith) (λ z f.
      ((only_to t z next f, ap (λ (i : State). i.regs.x) f.0 ∙ k.1), ap (λ (i : State). i.regs.z) f.0 ∙ ap (λ i. apart i b1) k.1))
      (operand_leads g a t on_place on Compares second moved may.may2 b2))))
  second_by false u k =
      let s : Regs = u.regs in
      let next : Regs = on_byte g t ComparesX second s in
      leads_from g a (op_of Cpx second) 4 t u s (Compared (apart t.regs.x b1)) k.0 (λ b.
      leads_as g a (op_of Cpx second) 2 4 (at_regs t s) (To t next) (Compared (apart t.regs.x b1)) (omega arith) (λ z f.
      ((only_to t z next f, ap (λ (i : State). i.regs.x) f.0 ∙ k.1), ap (λ (i : State). i.regs.z) f.0 ∙ ap (λ i. apart i b1) k.1))
      (operand_leads g a t on_place on ComparesX second s may.may2 b))

  -- a byte of the zero page and one that is read
  zero_leads : (at : ℕ) (byte : OperandByte) (u : State) → at < 256 → MayRead g t byte → WithX u → Leads g a (zero_page Lda at ∷ op_of Cmp byte) 4 u (Compared (apart (t.zp at) (byte_in g t byte)))
  zero_leads at byte u low may_read k =
      let s : Regs = u.regs in
      let loaded : Regs = on_byte g t Loads (bytes.Zero at) s in
      let next : Regs = on_byte g t Compares byte loaded in
      let z : Bool = apart (t.zp at) (byte_in g t byte) in
      leads_from g a (zero_page Lda at ∷ op_of Cmp byte) 4 t u s (Compared z) k.0 (λ b.
      leads_then g a (zero_page Lda at ∷ []) (op_of Cmp byte) 2 2 (at_regs t s) (To t loaded) (Compared z) (operand_leads g a t on_place on Loads (bytes.Zero at) s low b) (λ v e.
      leads_from g a (op_of Cmp byte) 2 t v loaded (Compared z) e (λ b2.
      leads_as g a (op_of Cmp byte) 2 2 (at_regs t loaded) (To t next) (Compared z) (omega arith) (λ i f.
      ((only_to t i next f, ap (λ (j : State). j.regs.x) f.0 ∙ k.1), ap (λ (j : State). j.regs.z) f.0))
      (operand_leads g a t on_place on Compares byte loaded may_read b2))))

  -- ---- what the bytes tell

  all_bytes : IsBytes t
  all_bytes = on.stacks.calm.bytes

  first_differ : apart t.regs.a b0 ≡ false → (m == n) ≡ false
  first_differ e = unequal m n (λ h. other_bytes t.regs.a b0 e (omega (arith, h, all_bytes.a, may.small)))

  second_differ : apart t.regs.x b1 ≡ false → (m == n) ≡ false
  second_differ e = unequal m n (λ h. other_bytes t.regs.x b1 e (omega (arith, h, all_bytes.a, all_bytes.x, may.small, may.small2)))

  third_differ : apart a2 b2 ≡ false → (m == n) ≡ false
  third_differ e = unequal m n (λ h. other_bytes a2 b2 e (omega (arith, h, all_bytes.a, all_bytes.x, all_bytes.zp sreg, may.small, may.small2, may.small3)))

  fourth_tell : apart t.regs.a b0 ≡ true → apart t.regs.x b1 ≡ true → apart a2 b2 ≡ true → (m == n) ≡ apart a3 b3
  fourth_tell e0 e1 e2 = go (apart a3 b3) refl
    where
      go : (b : Bool) → apart a3 b3 ≡ b → (m == n) ≡ b
      go true e3 =
          let s0 : t.regs.a ≡ b0 = same_bytes t.regs.a b0 all_bytes.a may.small e0 in
          let s1 : t.regs.x ≡ b1 = same_bytes t.regs.x b1 all_bytes.x may.small2 e1 in
          let s2 : a2 ≡ b2 = same_bytes a2 b2 (all_bytes.zp sreg) may.small3 e2 in
          let s3 : a3 ≡ b3 = same_bytes a3 b3 (all_bytes.zp (sreg + 1)) may.small4 e3 in
          equal m n (omega (arith, s0, s1, s2, s3))
      go false e3 = unequal m n (λ h. other_bytes a3 b3 e3 (omega (arith, h, all_bytes.a, all_bytes.x, all_bytes.zp sreg, may.small, may.small2, may.small3)))

  -- ---- the lines

  abbrev third_lines : List Line
  third_lines = zero_page Lda sreg ∷ op_of Cmp third

  abbrev fourth_lines : List Line
  fourth_lines = zero_page Lda (sreg + 1) ∷ op_of Cmp fourth

  abbrev end : List Line
  end = Label label ∷ []

  -- behind the last bytes a branch goes by Z, to the label of the whole
  abbrev last_lines : Op → List Line
  last_lines op = (fourth_lines ++ (branch op to ∷ [])) ++ end

  last_by : (op : Op) (y : Bool) (u : State) → form_of (branch op to) ≡ Branch op to → ((s : Regs) → s.z ≡ apart a3 b3 → is_taken op s ≡ y) → WithX u → LeadsBy g a (last_lines op) 6 to y u (OnlyRegs t)
  last_by op y u formed told k =
      label_by g a (fourth_lines ++ (branch op to ∷ [])) label 6 to y u (OnlyRegs t)
      (by_then g a fourth_lines (branch op to ∷ []) 4 2 to y u (Compared (apart a3 b3)) (OnlyRegs t) (zero_leads (sreg + 1) fourth u (omega arith) may.may4 k) (λ v s i w p turns q seen has turned goes.
      branch_by g a op to formed v (is_on v s.0.0) y (told v.regs s.1) i w p turns q seen has turned (λ x later same come. goes x later (subst (OnlyRegs t) (sym same) s.0.0) come)))

  -- ---- `==`

  equal_stage : (ls rest : List Line) (w : ℕ) (y z : Bool) (u : State) → Leads g a ls 4 u (Compared z) → (z ≡ false → y ≡ false) → (z ≡ true → (v : State) → WithX v → LeadsBy g a (rest ++ end) w to y v (OnlyRegs t)) → LeadsBy g a (ls ++ (branch Bne label ∷ (rest ++ end))) (4 + (2 + w)) to y u (OnlyRegs t)
  equal_stage ls rest w y z u leads differ alike =
      by_then g a ls (branch Bne label ∷ (rest ++ end)) 4 (2 + w) to y u (Compared z) (OnlyRegs t) leads (λ v s.
      skip_by g a Bne label refl v (is_on v s.0.0) own rest w to y (OnlyRegs t) (is_not v.regs.z) refl
      (λ e. (differ (sym s.1 ∙ z_is v.regs.z true e), s.0.0))
      (λ e. alike (sym s.1 ∙ z_is v.regs.z false e) v s.0))

  abbrev equal_fourth : List Line
  equal_fourth = fourth_lines ++ (branch Beq to ∷ [])

  abbrev equal_third : List Line
  equal_third = third_lines ++ (branch Bne label ∷ equal_fourth)

  abbrev equal_second : List Line
  equal_second = second_code second ++ (branch Bne label ∷ equal_third)

  equal_lines : compare_code Equal true (Long first second third fourth) label to ≡ op_of Cmp first ++ (branch Bne label ∷ (equal_second ++ end))
  equal_lines =
      let more : List Line = branch Beq to ∷ end in
      let last : fourth_lines ++ more ≡ equal_fourth ++ end = sym (append_assoc fourth_lines (branch Beq to ∷ []) end) in
      let third_is : (third_lines ++ (branch Bne label ∷ fourth_lines)) ++ more ≡ equal_third ++ end = behind third_lines fourth_lines (equal_fourth ++ end) more (branch Bne label) last ∙ sym (append_assoc third_lines (branch Bne label ∷ equal_fourth) end) in
      let second_is : (second_code second ++ (branch Bne label ∷ (third_lines ++ (branch Bne label ∷ fourth_lines)))) ++ more ≡ equal_second ++ end =
      behind (second_code second) (third_lines ++ (branch Bne label ∷ fourth_lines)) (equal_third ++ end) more (branch Bne label) third_is ∙ sym (append_assoc (second_code second) (branch Bne label ∷ equal_third) end) in
      behind (op_of Cmp first) (second_code second ++ (branch Bne label ∷ (third_lines ++ (branch Bne label ∷ fourth_lines)))) (equal_second ++ end) more (branch Bne label) second_is

  equal_at_third : (y : Bool) → (m == n) ≡ y → apart t.regs.a b0 ≡ true → apart t.regs.x b1 ≡ true → (u : State) → WithX u → LeadsBy g a (equal_third ++ end) 12 to y u (OnlyRegs t)
  equal_at_third y is e0 e1 u k =
      subst (λ ls. LeadsBy g a ls 12 to y u (OnlyRegs t)) (sym (append_assoc third_lines (branch Bne label ∷ equal_fourth) end))
      (equal_stage third_lines equal_fourth 6 y (apart a2 b2) u (zero_leads sreg third u (omega arith) may.may3 k) (λ e. sym is ∙ third_differ e) (λ e2 v f.
      last_by Beq y v refl (λ s e. e ∙ sym (fourth_tell e0 e1 e2) ∙ is) f))

  equal_at_second : (y : Bool) → (m == n) ≡ y → apart t.regs.a b0 ≡ true → (u : State) → WithX u → LeadsBy g a (equal_second ++ end) 18 to y u (OnlyRegs t)
  equal_at_second y is e0 u k =
      subst (λ ls. LeadsBy g a ls 18 to y u (OnlyRegs t)) (sym (append_assoc (second_code second) (branch Bne label ∷ equal_third) end))
      (equal_stage (second_code second) equal_third 12 y (apart t.regs.x b1) u (second_by (takes_y second) u k) (λ e. sym is ∙ second_differ e) (λ e1 v f.
      equal_at_third y is e0 e1 v f))

  pub equal_longs_lead : (sign y : Bool) → (m == n) ≡ y → LeadsBy g a (compare_code Equal sign (Long first second third fourth) label to) 24 to y t (OnlyRegs t)
  equal_longs_lead sign y is =
      subst (λ ls. LeadsBy g a ls 24 to y t (OnlyRegs t)) (sym equal_lines)
      (equal_stage (op_of Cmp first) equal_second 18 y (apart t.regs.a b0) t first_leads (λ e. sym is ∙ first_differ e) (λ e0 v f.
      equal_at_second y is e0 v f))

  -- ---- `!=`

  other_stage : (ls rest : List Line) (w : ℕ) (y z : Bool) (u : State) → Leads g a ls 4 u (Compared z) → (z ≡ false → y ≡ true) → (z ≡ true → (v : State) → WithX v → LeadsBy g a rest w to y v (OnlyRegs t)) → LeadsBy g a (ls ++ (branch Bne to ∷ rest)) (4 + (2 + w)) to y u (OnlyRegs t)
  other_stage ls rest w y z u leads differ alike =
      by_then g a ls (branch Bne to ∷ rest) 4 (2 + w) to y u (Compared z) (OnlyRegs t) leads (λ v s.
      early_by g a Bne to refl v (is_on v s.0.0) rest w y (OnlyRegs t) (is_not v.regs.z) refl
      (λ e. (differ (sym s.1 ∙ z_is v.regs.z true e), s.0.0))
      (λ e. alike (sym s.1 ∙ z_is v.regs.z false e) v s.0))

  abbrev other_third : List Line
  other_third = third_lines ++ (branch Bne to ∷ last_lines Bne)

  abbrev other_second : List Line
  other_second = second_code second ++ (branch Bne to ∷ other_third)

  other_lines : compare_code Unequal true (Long first second third fourth) label to ≡ op_of Cmp first ++ (branch Bne to ∷ other_second)
  other_lines =
      let more : List Line = branch Bne to ∷ end in
      let last : fourth_lines ++ more ≡ last_lines Bne = sym (append_assoc fourth_lines (branch Bne to ∷ []) end) in
      let third_is : (third_lines ++ (branch Bne to ∷ fourth_lines)) ++ more ≡ other_third = behind third_lines fourth_lines (last_lines Bne) more (branch Bne to) last in
      let second_is : (second_code second ++ (branch Bne to ∷ (third_lines ++ (branch Bne to ∷ fourth_lines)))) ++ more ≡ other_second =
      behind (second_code second) (third_lines ++ (branch Bne to ∷ fourth_lines)) other_third more (branch Bne to) third_is in
      behind (op_of Cmp first) (second_code second ++ (branch Bne to ∷ (third_lines ++ (branch Bne to ∷ fourth_lines)))) other_second more (branch Bne to) second_is

  pub other_longs_lead : (sign y : Bool) → (m == n) ≡ y → LeadsBy g a (compare_code Unequal sign (Long first second third fourth) label to) 24 to (not y) t (OnlyRegs t)
  other_longs_lead sign y is =
      subst (λ ls. LeadsBy g a ls 24 to (not y) t (OnlyRegs t)) (sym other_lines)
      (other_stage (op_of Cmp first) other_second 18 (not y) (apart t.regs.a b0) t first_leads (λ e. ap not (sym is ∙ first_differ e)) (λ e0 u k.
      other_stage (second_code second) other_third 12 (not y) (apart t.regs.x b1) u (second_by (takes_y second) u k) (λ e. ap not (sym is ∙ second_differ e)) (λ e1 v f.
      other_stage third_lines (last_lines Bne) 6 (not y) (apart a2 b2) v (zero_leads sreg third v (omega arith) may.may3 f) (λ e. ap not (sym is ∙ third_differ e)) (λ e2 z i.
      last_by Bne (not y) z refl (λ s e. ap is_not (e ∙ sym (fourth_tell e0 e1 e2) ∙ is) ∙ is_the_other y) i))))
