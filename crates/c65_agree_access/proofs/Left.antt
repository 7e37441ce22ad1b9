-- A byte or a word that is read where it lies goes behind the address in ptr1.
use Rattle.std.proofs.Common.{◌≡◌, ℕ, zero, suc, ◌+◌, ◌*◌, ◌%◌, ◌<◌, ◌≤◌, List, [], ◌∷◌, ◌++◌, length, false, refl, sym, ap, ◌∙◌, subst, arith}
use Rattle.c65_mach.specs.declared.rows.Op.TheVariants.{Dey, Lda, Ldy, Pha, Pla, Sta, Tax}
use Rattle.c65_mach.specs.State.{Regs}
use Rattle.c65_mach.specs.Step.{apply, with_a}
use Rattle.c65_meaning.specs.Store.{Cell, Block}
use Rattle.c65_meaning.specs.State.{Scene}
use Rattle.c65_code.specs.declared.line.Line.{Line}
use Rattle.c65_code.specs.LineState.{State, Bytes, write, s_of, ax_of, zero_word, IsBytes}
use Rattle.c65_code.specs.Placement.{IsPlacement}
use Rattle.c65_genwide.specs.Lines.{value}
use Rattle.c65_genload.specs.Words.{implied, by_y}
use Rattle.c65_genload.specs.Places.{byte_more}
use Rattle.c65_gendirect.specs.declared.bytes.OperandByte.{OperandByte}
use Rattle.c65_gendirect.specs.declared.bytes.OperandByte.TheVariants.{Number, Low, High, Near, Data, Zero}
use Rattle.c65_gendirect.specs.declared.through.Stored.TheVariants.{Word, Fixed}
use Rattle.c65_gendirect.specs.Bytes.{op_of}
use Rattle.c65_gendirect.specs.Through.{read_bytes_code}
use Rattle.c65_agree_store.specs.Stands.{At, Placing, Banks, CellIs}
use Rattle.c65_agree_state.specs.World.{World, Active}
use Rattle.c65_agree_state.specs.Exprs.{Ready, Kept}
use Rattle.c65_agree_rows.proofs.Quiet.{write_other, write_same}
use Rattle.c65_agree_put.specs.Puts.{MayPut, with_put}
use Rattle.c65_agree_frame.specs.Leads.{Leads, IsOn}
use Rattle.c65_agree_frame.proofs.Leads.{leads_then, leads_as}
use Rattle.c65_agree_load.proofs.Kept.{is_on}
use Rattle.c65_agree_direct.specs.Operands.{byte_in, MayRead, Loads}
use Rattle.c65_agree_operate.proofs.Exact.{at_regs, To, on_byte, on_regs, operand_leads, implied_leads, leads_from, holding, push_a_leads, pull_a_leads, on_holding, one_more}
use Rattle.c65_agree_access.proofs.Through.{y_leads, store_leads, IsPartly, partly_on, open_there, partly_stored}

-- the cells are put, and AX has the word
pub record IsLeft (g : World) (a : Active) (c : Scene) (w : Placing) (k : Banks) (t : State) (b : ℕ) (x : Block) (o size : ℕ) (new : ℕ → Cell) (word : ℕ) (u : State) : Type 0 where
  pub kept : Kept g a c w k t (with_put c b x o size new) w k u
  pub value : ax_of u ≡ word

-- the same in each state
abbrev pub IsSteady : OperandByte → Type 0
IsSteady (Near at) = ⊥
IsSteady (Data s at) = ⊥
IsSteady (Zero at) = ⊥
IsSteady x = Unit {0}

module _ (g : World) (a : Active) (pushed needs : ℕ) (c : Scene) (w : Placing) (k : Banks) (t : State) (b : ℕ) (x : Block) (m o : ℕ) (new : ℕ → Cell) (placed : IsPlacement g.code g.place) (r : Ready g a pushed needs c w k t) (at : ℕ) (small : at ≤ 250) (there : zero_word t 8 + at ≡ m + o)
    (low high : OperandByte) (may_low : MayRead g t low) (may_high : MayRead g t high) (may : MayPut g a c w b x (At m) o 2) (laid_low : CellIs w (new 0) (byte_in g t low)) (laid_high : CellIs w (new 1) (byte_in g t high)) where
  abbrev on : IsOn g t
  on = is_on g a pushed needs c w k t placed r

  abbrev l : ℕ
  l = byte_in g t low

  abbrev h : ℕ
  h = byte_in g t high

  in_page : m + o + 2 ≤ 65520
  in_page = omega (arith, may.fits, r.joins.stands.whole b x may.block.is, (r.joins.stands.lies b x (At m) may.block).1)

  -- the high byte is stored first
  abbrev first_in : Bytes
  first_in = write t.mem (m + o + 1) h

  abbrev both_in : Bytes
  both_in = write first_in (m + o + 0) l

  abbrev one : State
  one = record t { mem = first_in }

  abbrev two : State
  two = record t { mem = both_in }

  partly : (s : Regs) → IsBytes (at_regs t s) → IsPartly g a pushed needs c w k t b x m o 2 new placed r may (at_regs t s)
  partly s bytes = record { mem = λ p far. refl; zp = λ i e. refl; stack = refl; frames = refl; input = refl; output = refl; ended = refl; bytes = bytes }

  one_partly : (s : Regs) → IsBytes (at_regs one s) → IsPartly g a pushed needs c w k t b x m o 2 new placed r may (at_regs one s)
  one_partly s bytes = record { mem = λ p far. write_other t.mem (m + o + 1) h p (λ e. far 1 (omega arith) (sym e)); zp = λ i e. refl; stack = refl; frames = refl; input = refl; output = refl; ended = refl; bytes = bytes }

  two_partly : (s : Regs) → IsBytes (at_regs two s) → IsPartly g a pushed needs c w k t b x m o 2 new placed r may (at_regs two s)
  two_partly s bytes = record {
    mem = λ p far. write_other first_in (m + o + 0) l p (λ e. far 0 (omega arith) (sym e)) ∙ write_other t.mem (m + o + 1) h p (λ e. far 1 (omega arith) (sym e));
    zp = λ i e. refl;
    stack = refl;
    frames = refl;
    input = refl;
    output = refl;
    ended = refl;
    bytes = bytes;
  }

  abbrev Result : State → Type 0
  Result = IsLeft g a c w k t b x o 2 new (l + 256 * h)

  laid : (i : ℕ) → i < 2 → CellIs w (new i) (both_in (m + o + i))
  laid zero lt = subst (CellIs w (new 0)) (sym (write_same first_in (m + o + 0) l)) laid_low
  laid (suc zero) lt = subst (CellIs w (new 1)) (sym (write_other first_in (m + o + 0) l (m + o + 1) (λ e. omega (arith, e)) ∙ write_same t.mem (m + o + 1) h)) laid_high
  laid (suc (suc i)) lt = absurd (omega (arith, lt))

  -- both bytes are there
  ended : (s : Regs) (u : State) → To two s u → s.a ≡ l → s.x ≡ h → Result u
  ended s u e low_is high_is = rw e.0 (record { kept = partly_stored g a pushed needs c w k t b x m o 2 new placed r may (at_regs two s) (two_partly s (subst IsBytes e.0 e.1)) laid; value = omega (arith, low_is, high_is) })

  -- ---- bytes that nothing changes

  module _ (steady : IsSteady low) where
    abbrev s1 : Regs
    s1 = on_byte g t Loads high t.regs

    abbrev s2 : Regs
    s2 = apply false Ldy (byte_more at 1) s1

    abbrev s3 : Regs
    s3 = apply false Tax 0 s2

    abbrev s4 : Regs
    s4 = on_byte g one Loads low s3

    abbrev s5 : Regs
    s5 = apply false Ldy at s4

    steady_there : (z : OperandByte) → IsSteady z → MayRead g t z → MayRead g one z × (byte_in g one z ≡ byte_in g t z)
    steady_there (Number n) s may = (may, refl)
    steady_there (Low sym at) s may = (tt, refl)
    steady_there (High sym at) s may = (tt, refl)
    steady_there (Near at) s may = absurd s
    steady_there (Data sym at) s may = absurd s
    steady_there (Zero at) s may = absurd s

    x_stays : (z : OperandByte) (s : Regs) → (on_byte g one Loads z s).x ≡ s.x
    x_stays z s = refl

    one_on : (s : Regs) → IsBytes (at_regs one s) → IsOn g (at_regs one s)
    one_on s bytes = partly_on g a pushed needs c w k t b x m o 2 new placed r may (at_regs one s) (one_partly s bytes)

    last_fixed : IsBytes (at_regs one s5) → Leads g a (by_y Sta 8 ∷ []) 1 (at_regs one s5) Result
    last_fixed bytes =
        leads_as g a (by_y Sta 8 ∷ []) 1 1 (at_regs one s5) (λ u. (u ≡ record (at_regs one s5) { mem = write first_in (m + o + 0) s5.a }) × IsBytes u) Result (omega arith)
        (λ u e.
        let a_is : s5.a ≡ l = (steady_there low steady may_low).1 in
        let same : record (at_regs one s5) { mem = write first_in (m + o + 0) s5.a } ≡ at_regs two s5 = ap (λ n. record t { regs = s5; mem = write first_in (m + o + 0) n }) a_is in
        ended s5 u (e.0 ∙ same, e.1) a_is refl)
        (store_leads g a 8 (at_regs one s5) (m + o + 0) (one_on s5 bytes) (omega (arith, there, in_page)) (open_there g a pushed needs c w k t b x m o 2 new placed r may (at_regs one s5) (one_partly s5 bytes) 0 (omega arith)))

    low_fixed : IsBytes (at_regs one s3) → Leads g a (op_of Lda low ++ (value Ldy at ∷ by_y Sta 8 ∷ [])) 4 (at_regs one s3) Result
    low_fixed bytes =
        let base : State = at_regs one s3 in
        leads_then g a (op_of Lda low) (value Ldy at ∷ by_y Sta 8 ∷ []) 2 2 base (To one s4) Result (operand_leads g a one placed (partly_on g a pushed needs c w k t b x m o 2 new placed r may one (one_partly t.regs (own bytes))) Loads low s3 (steady_there low steady may_low).0 bytes) (λ u e.
        leads_from g a (value Ldy at ∷ by_y Sta 8 ∷ []) 2 one u s4 Result e (λ bytes2.
        leads_then g a (value Ldy at ∷ []) (by_y Sta 8 ∷ []) 1 1 (at_regs one s4) (To one s5) Result (y_leads g a one at s4 placed (partly_on g a pushed needs c w k t b x m o 2 new placed r may one (one_partly t.regs (own bytes))) (omega (arith, small)) bytes2) (λ u2 e2.
        leads_from g a (by_y Sta 8 ∷ []) 1 one u2 s5 Result e2 last_fixed)))
      where
        own : IsBytes (at_regs one s3) → IsBytes (at_regs one t.regs)
        own z = record { a = r.joins.bytes.a; x = r.joins.bytes.x; y = r.joins.bytes.y; zp = z.zp; mem = z.mem; pushed = z.pushed; frames = z.frames }

    pub fixed_leads : Leads g a (read_bytes_code at (Fixed low high)) 9 t Result
    fixed_leads =
        let rest2 : List Line = op_of Lda low ++ (value Ldy at ∷ by_y Sta 8 ∷ []) in
        let rest3 : List Line = implied Tax ∷ rest2 in
        let rest4 : List Line = by_y Sta 8 ∷ rest3 in
        let rest5 : List Line = value Ldy (byte_more at 1) ∷ rest4 in
        leads_then g a (op_of Lda high) rest5 2 7 t (To t s1) Result (operand_leads g a t placed on Loads high t.regs may_high r.joins.bytes) (λ u e.
        leads_from g a rest5 7 t u s1 Result e (λ bytes.
        leads_then g a (value Ldy (byte_more at 1) ∷ []) rest4 1 6 (at_regs t s1) (To t s2) Result (y_leads g a t (byte_more at 1) s1 placed on (omega arith) bytes) (λ u2 e2.
        leads_from g a rest4 6 t u2 s2 Result e2 (λ bytes2.
        leads_then g a (by_y Sta 8 ∷ []) rest3 1 5 (at_regs t s2) (To one s2) Result (store_leads g a 8 (at_regs t s2) (m + o + 1) (on_regs g a t placed on s2 bytes2) (omega (arith, there, small, in_page)) (open_there g a pushed needs c w k t b x m o 2 new placed r may (at_regs t s2) (partly s2 bytes2) 1 (omega arith))) (λ u3 e3.
        leads_from g a rest3 5 one u3 s2 Result e3 (λ bytes3.
        leads_then g a (implied Tax ∷ []) rest2 1 4 (at_regs one s2) (To one s3) Result (implied_leads g a one placed (partly_on g a pushed needs c w k t b x m o 2 new placed r may one (one_partly t.regs (own bytes3))) Tax refl s2 bytes3) (λ u4 e4.
        leads_from g a rest2 4 one u4 s3 Result e4 low_fixed)))))))
      where
        own : IsBytes (at_regs one s2) → IsBytes (at_regs one t.regs)
        own z = record { a = r.joins.bytes.a; x = r.joins.bytes.x; y = r.joins.bytes.y; zp = z.zp; mem = z.mem; pushed = z.pushed; frames = z.frames }

  -- ---- bytes that may change: the low one waits on the hard stack

  abbrev more : 3 + 27 ≤ s_of t
  more = one_more g a pushed needs c w k t r

  abbrev q1 : Regs
  q1 = on_byte g t Loads low t.regs

  abbrev hold : State
  hold = holding l t

  abbrev q2 : Regs
  q2 = on_byte g hold Loads high q1

  abbrev q3 : Regs
  q3 = apply false Ldy (byte_more at 1) q2

  abbrev q4 : Regs
  q4 = apply false Tax 0 q3

  abbrev q5 : Regs
  q5 = apply false Dey 0 q4

  abbrev q6 : Regs
  q6 = with_a l q5

  held_there : (z : OperandByte) → MayRead g t z → MayRead g hold z × (byte_in g hold z ≡ byte_in g t z)
  held_there (Number n) may = (may, refl)
  held_there (Low sym at) may = (tt, refl)
  held_there (High sym at) may = (tt, refl)
  held_there (Near at) may = (may, refl)
  held_there (Data sym at) may = (may, refl)
  held_there (Zero at) may = (may, refl)

  hold_on : (s : Regs) → IsBytes (at_regs hold s) → IsOn g hold
  hold_on s bytes = on_holding g t l s on more bytes

  one_hold_on : (s : Regs) → IsBytes (at_regs (holding l one) s) → IsOn g (holding l one)
  one_hold_on s bytes =
      let bare : IsBytes (at_regs one t.regs) = record { a = r.joins.bytes.a; x = r.joins.bytes.x; y = r.joins.bytes.y; zp = bytes.zp; mem = bytes.mem; pushed = r.joins.bytes.pushed; frames = bytes.frames } in
      on_holding g one l s (partly_on g a pushed needs c w k t b x m o 2 new placed r may one (one_partly t.regs bare)) more bytes

  last_word : IsBytes (at_regs one q6) → Leads g a (by_y Sta 8 ∷ []) 1 (at_regs one q6) Result
  last_word bytes =
      leads_as g a (by_y Sta 8 ∷ []) 1 1 (at_regs one q6) (λ u. (u ≡ record (at_regs one q6) { mem = write first_in (m + o + 0) q6.a }) × IsBytes u) Result (omega arith)
      (λ u e. ended q6 u (e.0, e.1) refl (held_there high may_high).1)
      (store_leads g a 8 (at_regs one q6) (m + o + 0) (partly_on g a pushed needs c w k t b x m o 2 new placed r may (at_regs one q6) (one_partly q6 bytes)) (omega (arith, there, small, in_page))
      (open_there g a pushed needs c w k t b x m o 2 new placed r may (at_regs one q6) (one_partly q6 bytes) 0 (omega arith)))

  back_word : IsBytes (at_regs (holding l one) q3) → Leads g a (implied Tax ∷ implied Dey ∷ implied Pla ∷ by_y Sta 8 ∷ []) 4 (at_regs (holding l one) q3) Result
  back_word bytes =
      let base : State = holding l one in
      let rest1 : List Line = by_y Sta 8 ∷ [] in
      let rest2 : List Line = implied Pla ∷ rest1 in
      let rest3 : List Line = implied Dey ∷ rest2 in
      leads_then g a (implied Tax ∷ []) rest3 1 3 (at_regs base q3) (To base q4) Result (implied_leads g a base placed (one_hold_on q3 bytes) Tax refl q3 bytes) (λ u e.
      leads_from g a rest3 3 base u q4 Result e (λ bytes2.
      leads_then g a (implied Dey ∷ []) rest2 1 2 (at_regs base q4) (To base q5) Result (implied_leads g a base placed (one_hold_on q4 bytes2) Dey refl q4 bytes2) (λ u2 e2.
      leads_from g a rest2 2 base u2 q5 Result e2 (λ bytes3.
      leads_then g a (implied Pla ∷ []) rest1 1 1 (at_regs base q5) (To one q6) Result (pull_a_leads g a one l q5 (one_hold_on q5 bytes3) bytes3) (λ u3 e3.
      leads_from g a rest1 1 one u3 q6 Result e3 last_word)))))

  pub word_leads : Leads g a (read_bytes_code at (Word low high)) 11 t Result
  word_leads =
      let rest4 : List Line = implied Tax ∷ implied Dey ∷ implied Pla ∷ by_y Sta 8 ∷ [] in
      let rest5 : List Line = by_y Sta 8 ∷ rest4 in
      let rest6 : List Line = value Ldy (byte_more at 1) ∷ rest5 in
      let rest7 : List Line = op_of Lda high ++ rest6 in
      let rest8 : List Line = implied Pha ∷ rest7 in
      leads_then g a (op_of Lda low) rest8 2 9 t (To t q1) Result (operand_leads g a t placed on Loads low t.regs may_low r.joins.bytes) (λ u e.
      leads_from g a rest8 9 t u q1 Result e (λ bytes.
      leads_then g a (implied Pha ∷ []) rest7 1 8 (at_regs t q1) (To hold q1) Result (push_a_leads g a t q1 on bytes) (λ u2 e2.
      leads_from g a rest7 8 hold u2 q1 Result e2 (λ bytes2.
      leads_then g a (op_of Lda high) rest6 2 6 (at_regs hold q1) (To hold q2) Result (operand_leads g a hold placed (hold_on q1 bytes2) Loads high q1 (held_there high may_high).0 bytes2) (λ u3 e3.
      leads_from g a rest6 6 hold u3 q2 Result e3 (λ bytes3.
      leads_then g a (value Ldy (byte_more at 1) ∷ []) rest5 1 5 (at_regs hold q2) (To hold q3) Result (y_leads g a hold (byte_more at 1) q2 placed (hold_on q2 bytes3) (omega arith) bytes3) (λ u4 e4.
      leads_from g a rest5 5 hold u4 q3 Result e4 (λ bytes4.
      leads_then g a (by_y Sta 8 ∷ []) rest4 1 4 (at_regs hold q3) (To (holding l one) q3) Result (first_stored bytes4) (λ u5 e5.
      leads_from g a rest4 4 (holding l one) u5 q3 Result e5 back_word)))))))))
    where
      first_stored : IsBytes (at_regs hold q3) → Leads g a (by_y Sta 8 ∷ []) 1 (at_regs hold q3) (To (holding l one) q3)
      first_stored bytes =
          let high_is : q3.a ≡ h = (held_there high may_high).1 in
          leads_as g a (by_y Sta 8 ∷ []) 1 1 (at_regs hold q3) (λ u. (u ≡ record (at_regs hold q3) { mem = write t.mem (m + o + 1) q3.a }) × IsBytes u) (To (holding l one) q3) (omega arith)
          (λ u e. let same : record (at_regs hold q3) { mem = write t.mem (m + o + 1) q3.a } ≡ at_regs (holding l one) q3 = ap (λ n. record t { regs = q3; pushed = l ∷ t.pushed; mem = write t.mem (m + o + 1) n }) high_is in (e.0 ∙ same, e.1))
          (store_leads g a 8 (at_regs hold q3) (m + o + 1) (on_regs g a hold placed (hold_on q3 bytes) q3 bytes) (omega (arith, there, small, in_page)) (open_there g a pushed needs c w k t b x m o 2 new placed r may t (partly t.regs r.joins.bytes) 1 (omega arith)))
