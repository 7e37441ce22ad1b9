-- AX is taken from a word that is read where it lies.
use Rattle.std.proofs.Common.{◌≡◌, ℕ, ◌+◌, ◌-◌, ◌*◌, ◌%◌, ◌<◌, ◌≤◌, ◌⊎◌, inl, inr, List, [], ◌∷◌, ◌++◌, false, refl, sym, ap, ◌∙◌, subst, arith, append_assoc}
use Rattle.c65_base.specs.declared.operators.BinaryOp.TheVariants as ops
use Rattle.c65_mach.specs.declared.rows.Op.TheVariants.{Lda, Pha, Pla, Sbc, Sec, Sta, Stx, Tax, Tay, Tya}
use Rattle.c65_mach.specs.State.{Regs}
use Rattle.c65_mach.specs.Step.{with_a, apply, bit}
use Rattle.c65_code.specs.declared.line.Line.{Line}
use Rattle.c65_code.specs.LineState.{Bytes, write, State, ax_of, IsBytes}
use Rattle.c65_code.specs.Placement.{IsPlacement}
use Rattle.c65_genload.specs.Words.{tmp1, tmp2, implied, zero_page}
use Rattle.c65_gendirect.specs.declared.bytes.OperandByte.{OperandByte}
use Rattle.c65_gendirect.specs.declared.bytes.OperandByte.TheVariants.{Number, Low, High, Near, Data, Zero}
use Rattle.c65_gendirect.specs.Bytes.{op_of, aside, back}
use Rattle.c65_gendirect.specs.Words.{taken_from_code}
use Rattle.c65_meaning.specs.State.{Scene}
use Rattle.c65_agree_store.specs.Stands.{Placing, Banks}
use Rattle.c65_agree_state.specs.World.{World, Active}
use Rattle.c65_agree_state.specs.Exprs.{Ready, Kept}
use Rattle.c65_agree_rows.proofs.Quiet.{write_other}
use Rattle.c65_agree_frame.specs.Leads.{Leads, IsOn}
use Rattle.c65_agree_frame.proofs.Leads.{leads_then, leads_as, kept_zero, lines_lead}
use Rattle.c65_agree_load.proofs.Kept.{is_on, kept_later, ready_later}
use Rattle.c65_agree_direct.specs.Operands.{byte_in, MayRead, Loads, Subtracts}
use Rattle.c65_agree_operate.specs.Manners.{IsHeld}
use Rattle.c65_agree_operate_bytes.specs.Laws.{IsAside}
use Rattle.c65_agree_operate.proofs.Exact.{at_regs, To, on_byte, y_with, implied_leads, operand_leads, leads_from, holding, on_holding, push_a_leads, pull_a_leads, one_more}
use Rattle.c65_agree_operate_bytes.proofs.Words.{word_on, by_bytes}

module _ (g : World) (a : Active) (pushed needs : ℕ) (c : Scene) (w : Placing) (k : Banks) (t : State) (placed : IsPlacement g.code g.place) (r : Ready g a pushed needs c w k t) where
  -- AX waits in two scratch bytes
  abbrev z1 : Bytes
  z1 = write t.zp 16 t.regs.a

  abbrev z2 : Bytes
  z2 = write z1 17 t.regs.x

  abbrev v : State
  v = record t { zp = z2 }

  others_stay : (i : ℕ) → (i < 2) ⊎ (20 ≤ i) → z2 i ≡ t.zp i
  others_stay i (inl h) = write_other z1 17 t.regs.x i (λ e. omega (arith, e, h)) ∙ write_other t.zp 16 t.regs.a i (λ e. omega (arith, e, h))
  others_stay i (inr h) = write_other z1 17 t.regs.x i (λ e. omega (arith, e, h)) ∙ write_other t.zp 16 t.regs.a i (λ e. omega (arith, e, h))

  on : IsOn g t
  on = is_on g a pushed needs c w k t placed r

  kept_leads : Leads g a (zero_page Sta tmp1 ∷ zero_page Stx tmp2 ∷ []) 2 t (λ u. (u ≡ v) × IsBytes u)
  kept_leads = lines_lead g a (zero_page Sta tmp1 ∷ zero_page Stx tmp2 ∷ []) t placed on (refl, (omega arith, λ h. omega arith), tt, kept_zero t 16 t.regs.a (omega arith), (refl, (omega arith, λ h. omega arith), tt, kept_zero (record t { zp = z1 }) 17 t.regs.x (omega arith), tt))

  -- what is read there is what was read before
  may_stay : (x : OperandByte) → MayRead g t x → MayRead g v x
  may_stay (Number n) h = h
  may_stay (Low s at) h = h
  may_stay (High s at) h = h
  may_stay (Near at) h = h
  may_stay (Data s at) h = h
  may_stay (Zero at) h = h

  byte_stays : (x : OperandByte) → IsAside x → byte_in g v x ≡ byte_in g t x
  byte_stays (Number n) h = refl
  byte_stays (Low s at) h = refl
  byte_stays (High s at) h = refl
  byte_stays (Near at) h = refl
  byte_stays (Data s at) h = refl
  byte_stays (Zero at) h = write_other z1 17 t.regs.x at h.1 ∙ write_other t.zp 16 t.regs.a at h.0

  module _ (low high : OperandByte) (all : IsBytes v) where
    ready2 : Ready g a pushed needs c w k v
    ready2 = ready_later g a pushed needs c w k t placed r t.regs z2 others_stay all

    on2 : IsOn g v
    on2 = is_on g a pushed needs c w k v placed ready2

    -- the low byte
    abbrev loaded : Regs
    loaded = apply false Sec 0 (on_byte g v Loads low t.regs)

    abbrev first : Regs
    first = on_byte g v Subtracts (Zero 16) loaded

    first_leads : MayRead g v low → Leads g a (op_of Lda low ++ (implied Sec ∷ zero_page Sbc tmp1 ∷ [])) 5 v (To v first)
    first_leads may =
        leads_then g a (op_of Lda low) (implied Sec ∷ zero_page Sbc tmp1 ∷ []) 2 3 v (To v (on_byte g v Loads low t.regs)) (To v first) (operand_leads g a v placed on2 Loads low t.regs may all) (λ u h.
        leads_from g a (implied Sec ∷ zero_page Sbc tmp1 ∷ []) 3 v u (on_byte g v Loads low t.regs) (To v first) h (λ b2.
        leads_then g a (implied Sec ∷ []) (zero_page Sbc tmp1 ∷ []) 1 2 (at_regs v (on_byte g v Loads low t.regs)) (To v loaded) (To v first) (implied_leads g a v placed on2 Sec refl (on_byte g v Loads low t.regs) b2) (λ u2 h2.
        leads_from g a (zero_page Sbc tmp1 ∷ []) 2 v u2 loaded (To v first) h2 (λ b3. operand_leads g a v placed on2 Subtracts (Zero 16) loaded (omega arith) b3))))

    -- the high byte
    abbrev second : State → Regs → Regs
    second base s = on_byte g base Subtracts (Zero 17) (on_byte g base Loads high s)

    second_leads : (base : State) → IsOn g base → (s : Regs) → MayRead g base high → IsBytes (at_regs base s) → Leads g a (op_of Lda high ++ (zero_page Sbc tmp2 ∷ implied Tax ∷ [])) 5 (at_regs base s) (To base (apply false Tax 0 (second base s)))
    second_leads base on3 s may b =
        leads_then g a (op_of Lda high) (zero_page Sbc tmp2 ∷ implied Tax ∷ []) 2 3 (at_regs base s) (To base (on_byte g base Loads high s)) (To base (apply false Tax 0 (second base s))) (operand_leads g a base placed on3 Loads high s may b) (λ u h.
        leads_from g a (zero_page Sbc tmp2 ∷ implied Tax ∷ []) 3 base u (on_byte g base Loads high s) (To base (apply false Tax 0 (second base s))) h (λ b2.
        leads_then g a (zero_page Sbc tmp2 ∷ []) (implied Tax ∷ []) 2 1 (at_regs base (on_byte g base Loads high s)) (To base (second base s)) (To base (apply false Tax 0 (second base s))) (operand_leads g a base placed on3 Subtracts (Zero 17) (on_byte g base Loads high s) (omega arith) b2) (λ u2 h2.
        leads_from g a (implied Tax ∷ []) 1 base u2 (second base s) (To base (apply false Tax 0 (second base s))) h2 (λ b3. implied_leads g a base placed on3 Tax refl (second base s) b3))))

    -- AX behind it
    record IsTaken (u : State) : Type 0 where
      only : u ≡ at_regs v u.regs
      word : ax_of u ≡ word_on ops.Sub (byte_in g v low + 256 * byte_in g v high) (ax_of t)
      bytes : IsBytes u

    module _ (small : byte_in g v low < 256) (small2 : byte_in g v high < 256) where
      -- by its bytes
      by_two : (u : State) (s : Regs) → To v s u → s.a ≡ first.a → (n : ℕ) → s.x ≡ n → n ≡ (byte_in g v high + (255 - t.regs.x) + bit first.c) % 256 → IsTaken u
      by_two u s to a n x h =
          let regs : u.regs ≡ s = ap (λ (z : State). z.regs) to.0 in
          let b = on.stacks.calm.bytes in
          record {
            only = to.0 ∙ ap (at_regs v) (sym regs);
            word = ap (λ (z : Regs). z.a + 256 * z.x) regs ∙ ap (λ m. m + 256 * s.x) a ∙ ap (λ m. first.a + 256 * m) (x ∙ h) ∙ by_bytes (byte_in g v low) (byte_in g v high) t.regs.a t.regs.x small small2 b.a b.x ops.Sub t.regs.c refl;
            bytes = to.1;
          }

      -- while A waits in Y
      abbrev kept_y : Regs
      kept_y = apply false Tay 0 first

      abbrev ended_y : Regs
      ended_y = apply false Tya 0 (apply false Tax 0 (second v kept_y))

      abbrev y_lines : List Line
      y_lines = implied Tay ∷ (op_of Lda high ++ (zero_page Sbc tmp2 ∷ implied Tax ∷ implied Tya ∷ []))

      y_leads : MayRead g v high → y_with high first.a ≡ first.a → IsBytes (at_regs v first) → Leads g a y_lines 7 (at_regs v first) IsTaken
      y_leads may same b =
          leads_then g a (implied Tay ∷ []) (op_of Lda high ++ (zero_page Sbc tmp2 ∷ implied Tax ∷ implied Tya ∷ [])) 1 6 (at_regs v first) (To v kept_y) IsTaken (implied_leads g a v placed on2 Tay refl first b) (λ u h.
          leads_from g a (op_of Lda high ++ (zero_page Sbc tmp2 ∷ implied Tax ∷ implied Tya ∷ [])) 6 v u kept_y IsTaken h (λ b2.
          subst (λ ls. Leads g a ls 6 (at_regs v kept_y) IsTaken) (append_assoc (op_of Lda high) (zero_page Sbc tmp2 ∷ implied Tax ∷ []) (implied Tya ∷ []))
          (leads_then g a (op_of Lda high ++ (zero_page Sbc tmp2 ∷ implied Tax ∷ [])) (implied Tya ∷ []) 5 1 (at_regs v kept_y) (To v (apply false Tax 0 (second v kept_y))) IsTaken (second_leads v on2 kept_y may b2) (λ u2 h2.
          leads_from g a (implied Tya ∷ []) 1 v u2 (apply false Tax 0 (second v kept_y)) IsTaken h2 (λ b3.
          leads_as g a (implied Tya ∷ []) 1 1 (at_regs v (apply false Tax 0 (second v kept_y))) (To v ended_y) IsTaken (omega arith) (λ u3 h3. by_two u3 ended_y h3 same (second v kept_y).a refl refl)
          (implied_leads g a v placed on2 Tya refl (apply false Tax 0 (second v kept_y)) b3))))))

      -- or on the hard stack
      abbrev base : State
      base = holding first.a v

      abbrev ended_pull : Regs
      ended_pull = with_a first.a (apply false Tax 0 (second base first))

      abbrev stack_lines : List Line
      stack_lines = implied Pha ∷ (op_of Lda high ++ (zero_page Sbc tmp2 ∷ implied Tax ∷ implied Pla ∷ []))

      stack_leads : MayRead g base high → byte_in g base high ≡ byte_in g v high → IsBytes (at_regs v first) → Leads g a stack_lines 7 (at_regs v first) IsTaken
      stack_leads may same b =
          leads_then g a (implied Pha ∷ []) (op_of Lda high ++ (zero_page Sbc tmp2 ∷ implied Tax ∷ implied Pla ∷ [])) 1 6 (at_regs v first) (To base first) IsTaken (push_a_leads g a v first on2 b) (λ u h.
          leads_from g a (op_of Lda high ++ (zero_page Sbc tmp2 ∷ implied Tax ∷ implied Pla ∷ [])) 6 base u first IsTaken h (λ b2.
          let on3 : IsOn g base = on_holding g v first.a first on2 (one_more g a pushed needs c w k v ready2) b2 in
          subst (λ ls. Leads g a ls 6 (at_regs base first) IsTaken) (append_assoc (op_of Lda high) (zero_page Sbc tmp2 ∷ implied Tax ∷ []) (implied Pla ∷ []))
          (leads_then g a (op_of Lda high ++ (zero_page Sbc tmp2 ∷ implied Tax ∷ [])) (implied Pla ∷ []) 5 1 (at_regs base first) (To base (apply false Tax 0 (second base first))) IsTaken (second_leads base on3 first may b2) (λ u2 h2.
          leads_from g a (implied Pla ∷ []) 1 base u2 (apply false Tax 0 (second base first)) IsTaken h2 (λ b3.
          leads_as g a (implied Pla ∷ []) 1 1 (at_regs base (apply false Tax 0 (second base first))) (To v ended_pull) IsTaken (omega arith)
          (λ u3 h3. by_two u3 ended_pull h3 refl (second base first).a refl (ap (λ m. (m + (255 - t.regs.x) + bit first.c) % 256) same))
          (pull_a_leads g a v first.a (apply false Tax 0 (second base first)) on3 b3))))))

      abbrev tail : List Line
      tail = aside high ∷ (op_of Lda high ++ (zero_page Sbc tmp2 ∷ implied Tax ∷ back high ∷ []))

  tail_leads : (low high : OperandByte) (bytes : IsBytes v) (small : byte_in g v low < 256) (small2 : byte_in g v high < 256) → MayRead g v high → IsBytes (at_regs v (first low high bytes)) → Leads g a (tail low high bytes small small2) 7 (at_regs v (first low high bytes)) (IsTaken low high bytes)
  tail_leads low (Number n) bytes small small2 may b = y_leads low (Number n) bytes small small2 may refl b
  tail_leads low (Low s at) bytes small small2 may b = y_leads low (Low s at) bytes small small2 may refl b
  tail_leads low (High s at) bytes small small2 may b = y_leads low (High s at) bytes small small2 may refl b
  tail_leads low (Data s at) bytes small small2 may b = y_leads low (Data s at) bytes small small2 may refl b
  tail_leads low (Zero at) bytes small small2 may b = y_leads low (Zero at) bytes small small2 may refl b
  tail_leads low (Near at) bytes small small2 may b = stack_leads low (Near at) bytes small small2 may refl b

  -- nothing but registers and scratch bytes is other
  pub record Under (low high : OperandByte) (u : State) : Type 0 where
    pub kept : Kept g a c w k t c w k u
    pub held : IsHeld t u
    pub word : ax_of u ≡ word_on ops.Sub (byte_in g t low + 256 * byte_in g t high) (ax_of t)

  under_by : (low high : OperandByte) (bytes : IsBytes v) → IsAside low → IsAside high → (u : State) → IsTaken low high bytes u → Under low high u
  under_by low high bytes apart apart2 u h = record {
    kept = subst (λ z. Kept g a c w k t c w k z) (sym h.only) (kept_later g a pushed needs c w k t placed r u.regs z2 others_stay (subst IsBytes h.only h.bytes));
    held = record { low = ap (λ (z : State). z.zp 10) h.only; high = ap (λ (z : State). z.zp 11) h.only };
    word = h.word ∙ ap (λ n. word_on ops.Sub (n + 256 * byte_in g v high) (ax_of t)) (byte_stays low apart) ∙ ap (λ n. word_on ops.Sub (byte_in g t low + 256 * n) (ax_of t)) (byte_stays high apart2);
  }

  pub under_leads : (low high : OperandByte) → MayRead g t low → MayRead g t high → IsAside low → IsAside high → byte_in g t low < 256 → byte_in g t high < 256 → Leads g a (taken_from_code low high) 14 t (Under low high)
  under_leads low high may may2 apart apart2 lt lt2 =
      let small : byte_in g v low < 256 = subst (λ n. n < 256) (sym (byte_stays low apart)) lt in
      let small2 : byte_in g v high < 256 = subst (λ n. n < 256) (sym (byte_stays high apart2)) lt2 in
      let behind : List Line = op_of Lda low ++ (implied Sec ∷ zero_page Sbc tmp1 ∷ aside high ∷ (op_of Lda high ++ (zero_page Sbc tmp2 ∷ implied Tax ∷ back high ∷ []))) in
      leads_then g a (zero_page Sta tmp1 ∷ zero_page Stx tmp2 ∷ []) behind 2 12 t (λ u. (u ≡ v) × IsBytes u) (Under low high) kept_leads (λ u h.
      let b : IsBytes v = subst IsBytes h.0 h.1 in
      subst (λ z. Leads g a behind 12 z (Under low high)) (sym h.0)
      (subst (λ ls. Leads g a ls 12 v (Under low high)) (append_assoc (op_of Lda low) (implied Sec ∷ zero_page Sbc tmp1 ∷ []) (tail low high b small small2))
      (leads_then g a (op_of Lda low ++ (implied Sec ∷ zero_page Sbc tmp1 ∷ [])) (tail low high b small small2) 5 7 v (To v (first low high b)) (Under low high) (first_leads low high b (may_stay low may)) (λ u2 h2.
      leads_from g a (tail low high b small small2) 7 v u2 (first low high b) (Under low high) h2 (λ b2.
      leads_as g a (tail low high b small small2) 7 7 (at_regs v (first low high b)) (IsTaken low high b) (Under low high) (omega arith) (λ u3 h3. under_by low high b apart apart2 u3 h3)
      (tail_leads low high b small small2 (may_stay high may2) b2))))))
