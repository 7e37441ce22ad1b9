-- A pointer that is read where it lies comes to ptr1.
use Rattle.std.proofs.Common.{◌≡◌, ℕ, ◌+◌, ◌*◌, ◌<◌, ◌≤◌, ◌⊎◌, inl, inr, List, [], ◌∷◌, ◌++◌, refl, ◌∙◌, arith}
use Rattle.c65_mach.specs.declared.rows.Op.TheVariants.{Lda, Sta}
use Rattle.c65_mach.specs.State.{Regs}
use Rattle.c65_code.specs.declared.line.Line.{Line}
use Rattle.c65_code.specs.LineState.{Bytes, State, write, zero_word, IsBytes}
use Rattle.c65_code.specs.Placement.{IsPlacement}
use Rattle.c65_genload.specs.Words.{zero_page}
use Rattle.c65_gendirect.specs.declared.bytes.OperandByte.{OperandByte}
use Rattle.c65_gendirect.specs.declared.bytes.OperandByte.TheVariants.{Number, Low, High, Near, Data, Zero}
use Rattle.c65_gendirect.specs.Bytes.{op_of}
use Rattle.c65_gendirect.specs.Through.{point_code}
use Rattle.c65_agree_state.specs.World.{World, Active}
use Rattle.c65_agree_rows.proofs.Quiet.{write_other, write_same}
use Rattle.c65_agree_frame.specs.Leads.{Leads, IsOn}
use Rattle.c65_agree_frame.proofs.Leads.{leads_then, kept_zero, lines_lead}
use Rattle.c65_agree_direct.specs.Operands.{byte_in, MayRead, Loads}
use Rattle.c65_agree_operate.proofs.Exact.{at_regs, To, on_byte, operand_leads, leads_from}
use Rattle.c65_agree_access.specs.Sums.{IsClear}

module _ (g : World) (a : Active) (h : State) (placed : IsPlacement g.code g.place) (low high : OperandByte) (clear : IsClear high) (may : MayRead g h low) (may2 : MayRead g h high) (own : IsBytes h)
    (on : (s : Regs) (z : Bytes) → ((i : ℕ) → (i < 2) ⊎ (20 ≤ i) → z i ≡ h.zp i) → IsBytes (record h { regs = s; zp = z }) → IsOn g (record h { regs = s; zp = z })) (s0 : Regs) where
  abbrev s1 : Regs
  s1 = on_byte g h Loads low s0

  abbrev z1 : Bytes
  z1 = write h.zp 8 s1.a

  -- the low byte is there
  abbrev half : State
  half = record h { zp = z1 }

  abbrev pub pointing_regs : Regs
  pointing_regs = on_byte g half Loads high s1

  abbrev pub pointing_zero : Bytes
  pointing_zero = write z1 9 pointing_regs.a

  -- so are both
  abbrev pub pointing : State
  pointing = record h { zp = pointing_zero }

  first_others : (i : ℕ) → (i < 2) ⊎ (20 ≤ i) → z1 i ≡ h.zp i
  first_others i (inl e) = write_other h.zp 8 s1.a i (λ f. omega (arith, e, f))
  first_others i (inr e) = write_other h.zp 8 s1.a i (λ f. omega (arith, e, f))

  pub pointing_others : (i : ℕ) → (i < 2) ⊎ (20 ≤ i) → pointing_zero i ≡ h.zp i
  pointing_others i (inl e) = write_other z1 9 pointing_regs.a i (λ f. omega (arith, e, f)) ∙ first_others i (inl e)
  pointing_others i (inr e) = write_other z1 9 pointing_regs.a i (λ f. omega (arith, e, f)) ∙ first_others i (inr e)

  -- the high byte is read there as before
  sp_stays : half.zp 0 + 256 * half.zp 1 ≡ h.zp 0 + 256 * h.zp 1
  sp_stays = let l = first_others 0 (inl (omega arith)) in let m = first_others 1 (inl (omega arith)) in omega (arith, l, m)

  reads_on : (x : OperandByte) → IsClear x → MayRead g h x → MayRead g half x × (byte_in g half x ≡ byte_in g h x)
  reads_on (Number n) apart e = (e, refl)
  reads_on (Low s at) apart e = (tt, refl)
  reads_on (High s at) apart e = (tt, refl)
  reads_on (Near at) apart e = rw sp_stays (e, refl)
  reads_on (Data s at) apart e = rw sp_stays (e, refl)
  reads_on (Zero at) apart e = (e, write_other h.zp 8 s1.a at apart)

  pub points_there : zero_word pointing 8 ≡ byte_in g h low + 256 * byte_in g h high
  points_there =
      let first : pointing_zero 8 ≡ byte_in g h low = write_other z1 9 pointing_regs.a 8 (λ f. omega (arith, f)) ∙ write_same h.zp 8 s1.a in
      let second : pointing_zero 9 ≡ byte_in g h high = write_same z1 9 pointing_regs.a ∙ (reads_on high clear may2).1 in
      omega (arith, first, second)

  own_by : (z : Bytes) (s : Regs) → IsBytes (record h { regs = s; zp = z }) → IsBytes (record h { zp = z })
  own_by z s b = record { a = own.a; x = own.x; y = own.y; zp = b.zp; mem = b.mem; pushed = b.pushed; frames = b.frames }

  last_leads : IsBytes (at_regs half pointing_regs) → Leads g a (zero_page Sta 9 ∷ []) 1 (at_regs half pointing_regs) (To pointing pointing_regs)
  last_leads b = lines_lead g a (zero_page Sta 9 ∷ []) (at_regs half pointing_regs) placed (on pointing_regs z1 first_others b) (refl, (omega arith, λ _. omega arith), tt, kept_zero (at_regs half pointing_regs) 9 pointing_regs.a (omega arith), tt)

  high_leads : IsBytes (at_regs half s1) → Leads g a (op_of Lda high ++ (zero_page Sta 9 ∷ [])) 3 (at_regs half s1) (To pointing pointing_regs)
  high_leads b =
      leads_then g a (op_of Lda high) (zero_page Sta 9 ∷ []) 2 1 (at_regs half s1) (To half pointing_regs) (To pointing pointing_regs)
      (operand_leads g a half placed (on h.regs z1 first_others (own_by z1 s1 b)) Loads high s1 (reads_on high clear may2).0 b) (λ u e. leads_from g a (zero_page Sta 9 ∷ []) 1 half u pointing_regs (To pointing pointing_regs) e last_leads)

  middle_leads : IsBytes (at_regs h s1) → Leads g a (zero_page Sta 8 ∷ (op_of Lda high ++ (zero_page Sta 9 ∷ []))) 4 (at_regs h s1) (To pointing pointing_regs)
  middle_leads b =
      let rest : List Line = op_of Lda high ++ (zero_page Sta 9 ∷ []) in
      leads_then g a (zero_page Sta 8 ∷ []) rest 1 3 (at_regs h s1) (To half s1) (To pointing pointing_regs)
      (lines_lead g a (zero_page Sta 8 ∷ []) (at_regs h s1) placed (on s1 h.zp (λ i e. refl) b) (refl, (omega arith, λ _. omega arith), tt, kept_zero (at_regs h s1) 8 s1.a (omega arith), tt))
      (λ u e. leads_from g a rest 3 half u s1 (To pointing pointing_regs) e high_leads)

  -- with the high byte in A, X as before
  pub point_leads : IsBytes (at_regs h s0) → Leads g a (point_code low high) 6 (at_regs h s0) (To pointing pointing_regs)
  point_leads b =
      let rest : List Line = zero_page Sta 8 ∷ (op_of Lda high ++ (zero_page Sta 9 ∷ [])) in
      leads_then g a (op_of Lda low) rest 2 4 (at_regs h s0) (To h s1) (To pointing pointing_regs) (operand_leads g a h placed (on h.regs h.zp (λ i e. refl) own) Loads low s0 may b) (λ u e. leads_from g a rest 4 h u s1 (To pointing pointing_regs) e middle_leads)
