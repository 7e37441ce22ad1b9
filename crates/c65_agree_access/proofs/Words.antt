-- A word is added to AX, and the sum goes to ptr1.
use Rattle.std.proofs.Common.{◌≡◌, ℕ, ◌+◌, ◌*◌, ◌%◌, ◌<◌, ◌≤◌, ◌⊎◌, inl, inr, List, [], ◌∷◌, ◌++◌, false, refl, sym, ap, ◌∙◌, subst, arith}
use Rattle.c65_base.specs.declared.operators.BinaryOp.TheVariants as ops
use Rattle.c65_ints.specs.declared.types.IntType.TheVariants.{UInt}
use Rattle.c65_mach.specs.declared.rows.Op.TheVariants.{Adc, Sta, Txa}
use Rattle.c65_mach.specs.State.{Regs}
use Rattle.c65_mach.specs.Step.{apply}
use Rattle.c65_meaning.specs.State.{Scene}
use Rattle.c65_code.specs.declared.line.Line.{Line}
use Rattle.c65_code.specs.declared.line.Line.TheVariants.{Label}
use Rattle.c65_code.specs.LineState.{Bytes, State, write, ax_of, s_of, IsBytes}
use Rattle.c65_code.specs.Placement.{IsPlacement}
use Rattle.c65_genload.specs.Words.{implied, zero_page}
use Rattle.c65_genshift.specs.Quick.{elements_code}
use Rattle.c65_genshift.specs.Shifts.{labelled}
use Rattle.c65_gendirect.specs.declared.bytes.OperandByte.{OperandByte}
use Rattle.c65_gendirect.specs.declared.bytes.OperandByte.TheVariants.{Number, Low, High, Near, Data, Zero}
use Rattle.c65_gendirect.specs.Bytes.{op_of}
use Rattle.c65_gendirect.specs.Words.{first_byte_code}
use Rattle.c65_gendirect.specs.Pointed.{pointed_sum_code}
use Rattle.c65_genexpr.specs.Operating.{pointed_form}
use Rattle.c65_genexpr.specs.declared.operating.Form.TheVariants.{Word, Indexed}
use Rattle.c65_agree_store.specs.Stands.{Placing, Banks}
use Rattle.c65_agree_state.specs.World.{World, Active}
use Rattle.c65_agree_state.specs.Exprs.{Ready, Kept}
use Rattle.c65_agree_state.proofs.Nodes.{ready_stays}
use Rattle.c65_agree_state.proofs.Parts.{kept_goes_on}
use Rattle.c65_agree_rows.proofs.Quiet.{write_other, write_same}
use Rattle.c65_agree_frame.specs.Leads.{Leads, IsOn}
use Rattle.c65_agree_frame.proofs.Leads.{leads_then, leads_as, kept_regs, kept_zero, after_lines, lines_lead}
use Rattle.c65_agree_load.proofs.Kept.{is_on, kept_later, ready_later}
use Rattle.c65_agree_direct.specs.Operands.{byte_in, MayRead, Adds}
use Rattle.c65_agree_operate.specs.Manners.{usual}
use Rattle.c65_agree_operate.proofs.Exact.{at_regs, To, on_byte, operand_leads, leads_from, one_more}
use Rattle.c65_agree_operate.proofs.Lefts.{HasWord}
use Rattle.c65_agree_operate.proofs.Routines.{label_leads}
use Rattle.c65_agree_operate_bytes.proofs.Words.{word_on, begins, byte_on, carry_on, by_bytes}
use Rattle.c65_agree_operate_bytes.proofs.Direct.{first, first_leads, first_a, first_x, first_c}
use Rattle.c65_agree_operate_bytes.proofs.Rights.{HasPair}
use Rattle.c65_agree_quick.specs.Laws.{HasTwo}
use Rattle.c65_agree_pointers.proofs.Elements.{scaled}
use Rattle.c65_agree_access.specs.Pointed.{with_pointer}
use Rattle.c65_agree_access.specs.Sums.{IsClear}

-- all is kept, and ptr1 is a word
pub record HasSum (g : World) (a : Active) (c : Scene) (w : Placing) (b : Banks) (t : State) (n : ℕ) (u : State) : Type 0 where
  pub kept : Kept g a c w b t c w b u
  pub word : ax_of (with_pointer u) ≡ n

module _ (g : World) (a : Active) (pushed needs : ℕ) (c : Scene) (w : Placing) (b : Banks) (t : State) (placed : IsPlacement g.code g.place) (r : Ready g a pushed needs c w b t) (low high : OperandByte) (clear : IsClear high) (may : MayRead g t low) (may2 : MayRead g t high) (small : byte_in g t low < 256) (small2 : byte_in g t high < 256) where
  abbrev on : IsOn g t
  on = is_on g a pushed needs c w b t placed r

  abbrev more : 3 + 27 ≤ s_of t
  more = one_more g a pushed needs c w b t r

  abbrev s1 : Regs
  s1 = first g a ops.Add t placed on more low

  abbrev s2 : Regs
  s2 = apply false Txa 0 s1

  abbrev z1 : Bytes
  z1 = write t.zp 8 s1.a

  -- ptr1 has the low byte
  abbrev half : State
  half = record t { zp = z1 }

  abbrev s3 : Regs
  s3 = on_byte g half Adds high s2

  abbrev z2 : Bytes
  z2 = write z1 9 s3.a

  first_others : (i : ℕ) → (i < 2) ⊎ (20 ≤ i) → z1 i ≡ t.zp i
  first_others i (inl h) = write_other t.zp 8 s1.a i (λ e. omega (arith, h, e))
  first_others i (inr h) = write_other t.zp 8 s1.a i (λ e. omega (arith, h, e))

  others : (i : ℕ) → (i < 2) ⊎ (20 ≤ i) → z2 i ≡ t.zp i
  others i (inl h) = write_other z1 9 s3.a i (λ e. omega (arith, h, e)) ∙ first_others i (inl h)
  others i (inr h) = write_other z1 9 s3.a i (λ e. omega (arith, h, e)) ∙ first_others i (inr h)

  -- the high byte is read there as before
  sp_stays : half.zp 0 + 256 * half.zp 1 ≡ t.zp 0 + 256 * t.zp 1
  sp_stays = let l = first_others 0 (inl (omega arith)) in let h = first_others 1 (inl (omega arith)) in omega (arith, l, h)

  reads_on : (x : OperandByte) → IsClear x → MayRead g t x → MayRead g half x × (byte_in g half x ≡ byte_in g t x)
  reads_on (Number n) apart h = (h, refl)
  reads_on (Low s at) apart h = (tt, refl)
  reads_on (High s at) apart h = (tt, refl)
  reads_on (Near at) apart h = rw sp_stays (h, refl)
  reads_on (Data s at) apart h = rw sp_stays (h, refl)
  reads_on (Zero at) apart h = (h, write_other t.zp 8 s1.a at apart)

  sum_is : ax_of (with_pointer (record t { regs = s3; zp = z2 })) ≡ word_on ops.Add (ax_of t) (byte_in g t low + 256 * byte_in g t high)
  sum_is =
      let lowest : z2 8 ≡ s1.a = write_other z1 9 s3.a 8 (λ e. omega (arith, e)) ∙ write_same t.zp 8 s1.a in
      let highest : z2 9 ≡ s3.a = write_same z1 9 s3.a in
      let one : s1.a ≡ byte_on ops.Add t.regs.a (byte_in g t low) (begins ops.Add t.regs.c) = first_a g a ops.Add t placed on more low in
      let two : s3.a ≡ byte_on ops.Add t.regs.x (byte_in g t high) (carry_on ops.Add t.regs.a (byte_in g t low) (begins ops.Add t.regs.c)) =
      ap (λ n. byte_on ops.Add s2.a n s2.c) (reads_on high clear may2).1
      ∙ ap (λ n. byte_on ops.Add n (byte_in g t high) s2.c) (first_x g a ops.Add t placed on more low)
      ∙ ap (byte_on ops.Add t.regs.x (byte_in g t high)) (first_c g a ops.Add t placed on more low) in
      let whole = by_bytes t.regs.a t.regs.x (byte_in g t low) (byte_in g t high) r.joins.bytes.a r.joins.bytes.x small small2 ops.Add t.regs.c refl in
      ap (λ n. n + 256 * z2 9) (lowest ∙ one) ∙ ap (λ n. byte_on ops.Add t.regs.a (byte_in g t low) (begins ops.Add t.regs.c) + 256 * n) (highest ∙ two) ∙ whole

  abbrev Result : State → Type 0
  Result = HasSum g a c w b t (word_on ops.Add (ax_of t) (byte_in g t low + 256 * byte_in g t high))

  abbrev last : List Line
  last = zero_page Sta 9 ∷ []

  last_leads : IsBytes (at_regs half s3) → Leads g a last 1 (at_regs half s3) Result
  last_leads bytes =
      leads_as g a last 1 1 (at_regs half s3) (λ u. (u ≡ after_lines g last (at_regs half s3)) × IsBytes u) Result (omega arith)
      (λ u e. record { kept = rw e.0 (kept_later g a pushed needs c w b t placed r s3 z2 others (subst IsBytes e.0 e.1)); word = ap (λ (x : State). ax_of (with_pointer x)) e.0 ∙ sum_is })
      (lines_lead g a last (at_regs half s3) placed (is_on g a pushed needs c w b (at_regs half s3) placed (ready_later g a pushed needs c w b t placed r s3 z1 first_others bytes)) (refl, (omega arith, λ _. omega arith), tt, kept_zero (at_regs half s3) 9 s3.a (omega arith), tt))

  abbrev high_part : List Line
  high_part = op_of Adc high ++ last

  high_leads : IsBytes (at_regs half s2) → Leads g a high_part 3 (at_regs half s2) Result
  high_leads bytes =
      let half_on : IsOn g (at_regs half s2) = is_on g a pushed needs c w b (at_regs half s2) placed (ready_later g a pushed needs c w b t placed r s2 z1 first_others bytes) in
      leads_then g a (op_of Adc high) last 2 1 (at_regs half s2) (To (at_regs half s2) (on_byte g (at_regs half s2) Adds high s2)) Result (operand_leads g a (at_regs half s2) placed half_on Adds high s2 (reads_at high (reads_on high clear may2).0) bytes) (λ u h.
      subst (λ z. Leads g a last 1 z Result) (sym (h.0 ∙ there high)) (last_leads (subst IsBytes (h.0 ∙ there high) h.1)))
    where
      reads_at : (x : OperandByte) → MayRead g half x → MayRead g (at_regs half s2) x
      reads_at (Number n) h = h
      reads_at (Low s at) h = h
      reads_at (High s at) h = h
      reads_at (Near at) h = h
      reads_at (Data s at) h = h
      reads_at (Zero at) h = h

      there : (x : OperandByte) → at_regs (at_regs half s2) (on_byte g (at_regs half s2) Adds x s2) ≡ at_regs half (on_byte g half Adds x s2)
      there (Number n) = refl
      there (Low s at) = refl
      there (High s at) = refl
      there (Near at) = refl
      there (Data s at) = refl
      there (Zero at) = refl

  abbrev mid : List Line
  mid = zero_page Sta 8 ∷ implied Txa ∷ []

  mid_leads : IsBytes (at_regs t s1) → Leads g a (mid ++ high_part) 5 (at_regs t s1) Result
  mid_leads bytes =
      let t1 : State = at_regs t s1 in
      leads_then g a mid high_part 2 3 t1 (λ u. (u ≡ after_lines g mid t1) × IsBytes u) Result
      (lines_lead g a mid t1 placed (is_on g a pushed needs c w b t1 placed (ready_later g a pushed needs c w b t placed r s1 t.zp (λ i h. refl) bytes)) (
        refl,
        (omega arith, λ _. omega arith),
        tt,
        kept_zero t1 8 s1.a (omega arith),
        (refl, tt, omega arith, kept_regs (record t { regs = s1; zp = z1 }) s2, tt),
      )) (λ u h. subst (λ z. Leads g a high_part 3 z Result) (sym h.0) (high_leads (subst IsBytes h.0 h.1)))

  sum_leads : Leads g a (pointed_sum_code low high) 8 t Result
  sum_leads =
      leads_then g a (first_byte_code ops.Add low) (mid ++ high_part) 3 5 t (To t s1) Result (first_leads g a ops.Add t placed on more low may) (λ u h. leads_from g a (mid ++ high_part) 5 t u s1 Result h mid_leads)

  pub pointed_sum_leads : (label : ℕ) → Leads g a (labelled label (pointed_sum_code low high)) 8 t Result
  pointed_sum_leads label = leads_then g a (pointed_sum_code low high) (Label label ∷ []) 8 0 t Result Result sum_leads (λ u h. label_leads g a label u Result h)

-- ---- by forms

module _ (g : World) (a : Active) (label pushed needs : ℕ) (low high : OperandByte) (placed : IsPlacement g.code g.place) (clear : IsClear high) (c : Scene) (w : Placing) (b : Banks) where
  pub word_points : (u : State) (p : ℕ) → Ready g a pushed needs c w b u → HasPair g u low high p → Leads g a (pointed_form (Word ops.Add low high) label) 2560 u (HasSum g a c w b u (word_on ops.Add (ax_of u) p))
  word_points u p ready pair =
      leads_as g a (labelled label (pointed_sum_code low high)) 8 2560 u (HasSum g a c w b u (word_on ops.Add (ax_of u) (byte_in g u low + 256 * byte_in g u high))) (HasSum g a c w b u (word_on ops.Add (ax_of u) p)) (omega arith)
      (λ y h. record { kept = h.kept; word = h.word ∙ ap (word_on ops.Add (ax_of u)) pair.word })
      (pointed_sum_leads g a pushed needs c w b u placed ready low high clear pair.may pair.may2 pair.small pair.small2 label)

  -- elements in AX
  pub elements_point : (u : State) (p size : ℕ) → Ready g a pushed needs c w b u → HasTwo a needs c u → size < 65536 → ((y : State) → Ready g a pushed needs c w b y → HasPair g y low high p)
      → Leads g a (pointed_form (Indexed size low high) label) 2560 u (HasSum g a c w b u (word_on ops.Add ((ax_of u * size) % 65536) p))
  elements_point u p size ready two small again =
      let n : ℕ = (ax_of u * size) % 65536 in
      let Result : State → Type 0 = HasSum g a c w b u (word_on ops.Add n p) in
      let ls : List Line = labelled label (pointed_sum_code low high) in
      leads_as g a (elements_code size ++ ls) (2306 + 8) 2560 u Result Result (omega arith) (λ y h. h)
      (leads_then g a (elements_code size) ls 2306 8 u (λ y. (Kept g a c w b u c w b y) × (ax_of y ≡ n)) Result
      (leads_as g a (elements_code size) 2306 2306 u (HasWord g a usual UInt c w b u n) (λ y. (Kept g a c w b u c w b y) × (ax_of y ≡ n)) (omega arith) (λ y h. (h.kept, h.word)) (scaled g a usual pushed needs c w b u placed ready two size small (λ e. absurd cc))) (λ y h.
      let ready2 : Ready g a pushed needs c w b y = ready_stays g a pushed needs needs c c w w b b u y (omega arith) ready h.0 in
      let pair = again y ready2 in
      leads_as g a ls 8 8 y (HasSum g a c w b y (word_on ops.Add (ax_of y) (byte_in g y low + 256 * byte_in g y high))) Result (omega arith)
      (λ x k. record { kept = kept_goes_on g a c c c w w w b b b u y x h.0 k.kept; word = k.word ∙ ap (word_on ops.Add (ax_of y)) pair.word ∙ ap (λ i. (i + p) % 65536) h.1 })
      (pointed_sum_leads g a pushed needs c w b y placed ready2 low high clear pair.may pair.may2 pair.small pair.small2 label)))
