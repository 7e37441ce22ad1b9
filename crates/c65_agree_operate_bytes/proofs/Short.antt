-- The short forms of these lines, where the high byte of the word is 0 or, of `&`, 255.
use Rattle.std.proofs.Common.{◌≡◌, ℕ, ◌+◌, ◌%◌, ◌<◌, ◌≤◌, List, [], ◌∷◌, ◌++◌, Bool, true, false, refl, sym, ap, ◌∙◌, subst, arith, append_assoc}
use Rattle.std.specs.Prelude.{◌&&◌, if◌then◌else◌, bit_and}
use Rattle.std.specs.Int.Bits.{and_zero_r, or_zero_r, xor_zero_r}
use Rattle.std.proofs.lemmas.Nat.{and_mask}
use Rattle.std.proofs.lemmas.Bool.{eqb-true}
use Rattle.c65_base.specs.declared.operators.BinaryOp.{BinaryOp}
use Rattle.c65_base.specs.declared.operators.BinaryOp.TheVariants as ops
use Rattle.c65_mach.specs.declared.rows.Op.TheVariants.{Bcc, Bcs, Dex, Inx, Ldx}
use Rattle.c65_mach.specs.State.{Regs}
use Rattle.c65_mach.specs.Step.{apply, is_not}
use Rattle.c65_code.specs.declared.line.Line.{Line}
use Rattle.c65_code.specs.declared.line.Line.TheVariants.{Label}
use Rattle.c65_code.specs.LineState.{State, s_of, IsBytes}
use Rattle.c65_code.specs.Placement.{IsPlacement}
use Rattle.c65_genwide.specs.Lines.{value}
use Rattle.c65_genload.specs.Words.{implied}
use Rattle.c65_gendirect.specs.declared.bytes.OperandByte.{OperandByte}
use Rattle.c65_gendirect.specs.declared.bytes.OperandByte.TheVariants.{Number, Low, High, Near, Data, Zero}
use Rattle.c65_gendirect.specs.Words.{first_byte_code, both_bytes_code, onward_code, end_label, is_and, is_number, word_code}
use Rattle.c65_genexpr.specs.Operating.{placed}
use Rattle.c65_agree_state.specs.World.{World, Active, lines_of, IsPlaced}
use Rattle.c65_agree_frame.specs.Leads.{Leads, IsOn}
use Rattle.c65_agree_frame.proofs.Leads.{leads_then, leads_as}
use Rattle.c65_agree_direct.specs.Operands.{byte_in, MayRead}
use Rattle.c65_agree_operate.proofs.Routines.{label_leads}
use Rattle.c65_agree_operate.proofs.Exact.{at_regs, To, on_regs, implied_leads, zero_leads, leads_from, skip_leads}
use Rattle.c65_agree_operate_bytes.proofs.Words.{begins, byte_on, carry_on}
use Rattle.c65_agree_operate_bytes.proofs.Direct.{Worked, worked_by, first, first_leads, first_a, first_x, first_c, both_leads}

pub both_true : (x y : Bool) → x && y ≡ true → (x ≡ true) × (y ≡ true)
both_true true y e = (refl, e)
both_true false y e = absurd (cc)

-- a byte that is told by a test
number_of : (g : World) (t : State) (n : ℕ) (x : OperandByte) → is_number n x ≡ true → byte_in g t x ≡ n
number_of g t n (Number m) h = eqb-true m n h
number_of g t n (Low s at) h = absurd (cc)
number_of g t n (High s at) h = absurd (cc)
number_of g t n (Near at) h = absurd (cc)
number_of g t n (Data s at) h = absurd (cc)
number_of g t n (Zero at) h = absurd (cc)

-- each operator places its label behind all else
labels_lead : (g : World) (a : Active) (op : BinaryOp) (label : ℕ) (t : State) (Behind : State → Type 0) → Behind t → Leads g a (end_label op label ++ placed op label) 0 t Behind
labels_lead g a ops.Add label t Behind h = label_leads g a label t Behind h
labels_lead g a ops.Sub label t Behind h = label_leads g a label t Behind h
labels_lead g a _ label t Behind h = label_leads g a label t Behind h

module _ (g : World) (a : Active) (op : BinaryOp) (t : State) (on_place : IsPlacement g.code g.place) (on : IsOn g t) (more : 3 + 27 ≤ s_of t) (own : IsPlaced (lines_of g a)) (label : ℕ) (low high : OperandByte) (may : MayRead g t low) (may2 : MayRead g t high) where
  abbrev Result : State → Type 0
  Result = Worked op (byte_in g t low) (byte_in g t high) t

  abbrev r : Regs
  r = first g a op t on_place on more low

  -- ---- the high byte is 0

  -- X from its byte and the carry
  zero_given : (u : State) (s : Regs) → byte_in g t high ≡ 0 → To t s u → s.a ≡ r.a → s.x ≡ byte_on op t.regs.x 0 r.c → Result u
  zero_given u s zero to same x =
      worked_by op (byte_in g t low) (byte_in g t high) t u s to (same ∙ first_a g a op t on_place on more low)
      (x ∙ ap (λ n. byte_on op t.regs.x n r.c) (sym zero) ∙ ap (byte_on op t.regs.x (byte_in g t high)) (first_c g a op t on_place on more low))

  x_is : r.x ≡ t.regs.x
  x_is = first_x g a op t on_place on more low

  x_below : t.regs.x < 256
  x_below = on.stacks.calm.bytes.x

  plain : IsBytes (at_regs t r) → byte_in g t high ≡ 0 → t.regs.x ≡ byte_on op t.regs.x 0 r.c → Leads g a (Label label ∷ []) 3 (at_regs t r) Result
  plain b zero x = leads_as g a (Label label ∷ []) 0 3 (at_regs t r) Result Result (omega arith) (λ v h. h) (label_leads g a label (at_regs t r) Result (zero_given (at_regs t r) r zero (refl, b) refl (x_is ∙ x)))

  onward : (o : BinaryOp) → o ≡ op → byte_in g t high ≡ 0 → IsBytes (at_regs t r) → Leads g a (onward_code o label ++ placed o label) 3 (at_regs t r) Result
  onward ops.Add is zero b =
      skip_leads g a own Bcc label (implied Inx ∷ []) 1 (at_regs t r) Result (on_regs g a t on_place on r b) refl (is_not r.c) refl
      (λ taken. zero_given (at_regs t r) r zero (refl, b) refl (stays r.c refl taken))
      (λ taken. leads_then g a (implied Inx ∷ []) (Label label ∷ []) 1 0 (at_regs t r) (To t (apply false Inx 0 r)) Result (implied_leads g a t on_place on Inx refl r b) (λ u h. label_leads g a label u Result (zero_given u (apply false Inx 0 r) zero h refl (rises r.c refl taken))))
    where
      stays : (c : Bool) → r.c ≡ c → is_not c ≡ true → r.x ≡ byte_on op t.regs.x 0 r.c
      stays false e h = let sum : t.regs.x ≡ byte_on ops.Add t.regs.x 0 false = omega (arith, x_below) in x_is ∙ sum ∙ ap (byte_on ops.Add t.regs.x 0) (sym e) ∙ ap (λ o. byte_on o t.regs.x 0 r.c) is
      stays true e h = absurd (cc)

      rises : (c : Bool) → r.c ≡ c → is_not c ≡ false → (r.x + 1) % 256 ≡ byte_on op t.regs.x 0 r.c
      rises true e h = let sum : (r.x + 1) % 256 ≡ byte_on ops.Add t.regs.x 0 true = omega (arith, x_below, x_is) in sum ∙ ap (byte_on ops.Add t.regs.x 0) (sym e) ∙ ap (λ o. byte_on o t.regs.x 0 r.c) is
      rises false e h = absurd (cc)
  onward ops.Sub is zero b =
      skip_leads g a own Bcs label (implied Dex ∷ []) 1 (at_regs t r) Result (on_regs g a t on_place on r b) refl r.c refl
      (λ taken. zero_given (at_regs t r) r zero (refl, b) refl (stays r.c refl taken))
      (λ taken. leads_then g a (implied Dex ∷ []) (Label label ∷ []) 1 0 (at_regs t r) (To t (apply false Dex 0 r)) Result (implied_leads g a t on_place on Dex refl r b) (λ u h. label_leads g a label u Result (zero_given u (apply false Dex 0 r) zero h refl (falls r.c refl taken))))
    where
      stays : (c : Bool) → r.c ≡ c → c ≡ true → r.x ≡ byte_on op t.regs.x 0 r.c
      stays true e h = let sum : t.regs.x ≡ byte_on ops.Sub t.regs.x 0 true = omega (arith, x_below) in x_is ∙ sum ∙ ap (byte_on ops.Sub t.regs.x 0) (sym e) ∙ ap (λ o. byte_on o t.regs.x 0 r.c) is
      stays false e h = absurd (cc)

      falls : (c : Bool) → r.c ≡ c → c ≡ false → (r.x + 255) % 256 ≡ byte_on op t.regs.x 0 r.c
      falls false e h = let sum : (r.x + 255) % 256 ≡ byte_on ops.Sub t.regs.x 0 false = omega (arith, x_below, x_is) in sum ∙ ap (byte_on ops.Sub t.regs.x 0) (sym e) ∙ ap (λ o. byte_on o t.regs.x 0 r.c) is
      falls true e h = absurd (cc)
  onward ops.BitAnd is zero b =
      leads_then g a (value Ldx 0 ∷ []) (Label label ∷ []) 1 2 (at_regs t r) (To t (apply false Ldx 0 r)) Result (zero_leads g a t on_place on r b) (λ u h.
      leads_as g a (Label label ∷ []) 0 2 u Result Result (omega arith) (λ v x. x) (label_leads g a label u Result (zero_given u (apply false Ldx 0 r) zero h refl (sym (and_zero_r t.regs.x) ∙ ap (λ o. byte_on o t.regs.x 0 r.c) is))))
  onward ops.BitXor is zero b = plain b zero (sym (xor_zero_r t.regs.x) ∙ ap (λ o. byte_on o t.regs.x 0 r.c) is)
  onward _ is zero b = plain b zero (sym (or_zero_r t.regs.x) ∙ ap (λ o. byte_on o t.regs.x 0 r.c) is)

  -- ---- the high byte is 255, and the operator `&`

  and_by : (o : BinaryOp) → is_and o ≡ true → o ≡ ops.BitAnd
  and_by ops.BitAnd h = refl
  and_by ops.Add h = absurd (cc)
  and_by ops.Sub h = absurd (cc)
  and_by ops.Mul h = absurd (cc)
  and_by ops.Div h = absurd (cc)
  and_by ops.Rem h = absurd (cc)
  and_by ops.Shl h = absurd (cc)
  and_by ops.Shr h = absurd (cc)
  and_by ops.Lt h = absurd (cc)
  and_by ops.Gt h = absurd (cc)
  and_by ops.Le h = absurd (cc)
  and_by ops.Ge h = absurd (cc)
  and_by ops.Eq h = absurd (cc)
  and_by ops.Ne h = absurd (cc)
  and_by ops.BitXor h = absurd (cc)
  and_by ops.BitOr h = absurd (cc)

  masked : is_and op && is_number 255 high ≡ true → IsBytes (at_regs t r) → Result (at_regs t r)
  masked e b =
      let both = both_true (is_and op) (is_number 255 high) e in
      let ones : byte_in g t high ≡ 255 = number_of g t 255 high both.1 in
      let is : ops.BitAnd ≡ op = sym (and_by op both.0) in
      let c = carry_on op t.regs.a (byte_in g t low) (begins op t.regs.c) in
      let same : bit_and t.regs.x 255 ≡ t.regs.x = and_mask t.regs.x 8 ∙ omega (arith, x_below) in
      worked_by op (byte_in g t low) (byte_in g t high) t (at_regs t r) r (refl, b) (first_a g a op t on_place on more low)
      (x_is ∙ sym same ∙ ap (bit_and t.regs.x) (sym ones) ∙ ap (λ o. byte_on o t.regs.x (byte_in g t high) c) is)

  -- ---- all of them

  abbrev zeros : List Line
  zeros = first_byte_code op low ++ onward_code op label

  abbrev general : List Line
  general = both_bytes_code op low high ++ end_label op label

  pick : (zero ones : Bool) → is_number 0 high ≡ zero → is_and op && is_number 255 high ≡ ones → Leads g a ((if zero then zeros else (if ones then first_byte_code op low else general)) ++ placed op label) 9 t Result
  pick true ones e f =
      subst (λ ls. Leads g a ls 9 t Result) (sym (append_assoc (first_byte_code op low) (onward_code op label) (placed op label)))
      (leads_then g a (first_byte_code op low) (onward_code op label ++ placed op label) 3 6 t (To t r) Result (first_leads g a op t on_place on more low may) (λ u h.
      leads_from g a (onward_code op label ++ placed op label) 6 t u r Result h (λ b.
      leads_as g a (onward_code op label ++ placed op label) 3 6 (at_regs t r) Result Result (omega arith) (λ v x. x) (onward op refl (number_of g t 0 high e) b))))
  pick false true e f =
      let is : op ≡ ops.BitAnd = and_by op (both_true (is_and op) (is_number 255 high) f).0 in
      leads_then g a (first_byte_code op low) (placed op label) 3 6 t (To t r) Result (first_leads g a op t on_place on more low may) (λ u h.
      leads_from g a (placed op label) 6 t u r Result h (λ b.
      subst (λ o. Leads g a (placed o label) 6 (at_regs t r) Result) (sym is)
      (leads_as g a (Label label ∷ []) 0 6 (at_regs t r) Result Result (omega arith) (λ v x. x) (label_leads g a label (at_regs t r) Result (masked f b)))))
  pick false false e f =
      subst (λ ls. Leads g a ls 9 t Result) (sym (append_assoc (both_bytes_code op low high) (end_label op label) (placed op label)))
      (leads_then g a (both_bytes_code op low high) (end_label op label ++ placed op label) 9 0 t Result Result (both_leads g a op t on_place on more low high may may2) (λ u h. labels_lead g a op label u Result h))

  -- AX by an operator and a word
  pub word_leads : Leads g a (word_code op low high label ++ placed op label) 9 t Result
  word_leads = pick (is_number 0 high) (is_and op && is_number 255 high) refl refl
