-- Steps of an order of AX or EAX and a number whose bytes are read where they lie: a byte of the left side comes to A, and one of the right
-- side is taken from it, or from it with the signs of both turned.
use Rattle.std.proofs.Common.{◌≡◌, ℕ, ◌+◌, ◌-◌, ◌*◌, ◌/◌, ◌%◌, ◌<◌, [], ◌∷◌, Bool, true, false, refl, sym, ap, ◌∙◌, arith}
use Rattle.std.specs.Prelude.{nat_lt, bit_and, bit_xor}
use Rattle.std.specs.Int.Bits.{xor_add_and}
use Rattle.std.proofs.lemmas.Nat.{xor_of_8}
use Rattle.std.proofs.lemmas.Nat.Bits.{and_pow}
use Rattle.c65_mach.specs.State.{Regs}
use Rattle.c65_mach.specs.Step.{apply, bit, negative}
use Rattle.c65_mach.specs.declared.rows.Op.TheVariants.{Eor, Lda, Sbc, Txa}
use Rattle.c65_code.specs.LineState.{State}
use Rattle.c65_code.specs.Placement.{IsPlacement}
use Rattle.c65_genwide.specs.Lines.{value}
use Rattle.c65_genload.specs.Words.{implied, zero_page}
use Rattle.c65_gendirect.specs.declared.bytes.OperandByte.{OperandByte}
use Rattle.c65_gendirect.specs.declared.bytes.OperandByte.TheVariants as bytes
use Rattle.c65_gendirect.specs.Bytes.{op_of}
use Rattle.c65_gendirect.specs.Compare.{is_number, turned, turned_code}
use Rattle.c65_agree_state.specs.World.{World, Active}
use Rattle.c65_agree_frame.specs.Leads.{Leads, IsOn}
use Rattle.c65_agree_frame.proofs.Leads.{leads_then, leads_as}
use Rattle.c65_agree_direct.specs.Operands.{byte_in, MayRead, Loads, Subtracts, Excludes}
use Rattle.c65_agree_operate.proofs.Exact.{at_regs, To, on_byte, implied_leads, operand_leads, leads_from}
use Rattle.c65_agree_compare.proofs.Equal.{OnlyRegs}
use Rattle.c65_agree_compare.proofs.Orders.{last_byte, overflows, IsByteDifference}

-- ---- a byte with the other sign

abbrev pub across : ℕ → ℕ
across x = (x + 128) % 256

sign_turned : (x : ℕ) → x < 256 → bit_xor x 128 ≡ across x
sign_turned x small =
    let sum = xor_add_and x 128 in
    let both : bit_and x 128 ≡ x / 128 % 2 * 128 = and_pow x 7 in omega (arith, sum, both, small)

number_may : (g : World) (t : State) (x : OperandByte) → is_number x ≡ true → MayRead g t x → MayRead g t (turned x)
number_may g t (bytes.Number n) e may = xor_of_8 n 128 may (omega arith)
number_may g t (bytes.Low sym at) e may = absurd (cc)
number_may g t (bytes.High sym at) e may = absurd (cc)
number_may g t (bytes.Near at) e may = absurd (cc)
number_may g t (bytes.Data sym at) e may = absurd (cc)
number_may g t (bytes.Zero at) e may = absurd (cc)

number_turned : (g : World) (t : State) (x : OperandByte) → is_number x ≡ true → byte_in g t x < 256 → byte_in g t (turned x) ≡ across (byte_in g t x)
number_turned g t (bytes.Number n) e small = sign_turned n small
number_turned g t (bytes.Low sym at) e small = absurd (cc)
number_turned g t (bytes.High sym at) e small = absurd (cc)
number_turned g t (bytes.Near at) e small = absurd (cc)
number_turned g t (bytes.Data sym at) e small = absurd (cc)
number_turned g t (bytes.Zero at) e small = absurd (cc)

-- ---- the steps

-- registers alone are others, with such a byte in A and such a carry
pub record Holds (x : ℕ) (carry : Bool) (t u : State) : Type 0 where
  pub only : OnlyRegs t u
  pub a : u.regs.a ≡ x
  pub c : u.regs.c ≡ carry

-- and the carry of the difference of two bytes with the other signs
pub record IsTurnedDifference (x h : ℕ) (carry : Bool) (t u : State) : Type 0 where
  pub only : OnlyRegs t u
  pub c : u.regs.c ≡ nat_lt 255 (across x + (255 - across h) + bit carry)

pub only_to : (t u : State) (s : Regs) → To t s u → OnlyRegs t u
only_to t u s h = (h.0 ∙ ap (at_regs t) (sym (ap (λ (z : State). z.regs) h.0)), h.1)

module _ (g : World) (a : Active) (t : State) (on_place : IsPlacement g.code g.place) (on : IsOn g t) where
  pub moved_leads : (x : ℕ) (carry : Bool) (u : State) → OnlyRegs t u → u.regs.x ≡ x → u.regs.c ≡ carry → Leads g a (implied Txa ∷ []) 1 u (Holds x carry t)
  moved_leads x carry u only x_is c_is =
      let s : Regs = u.regs in
      leads_from g a (implied Txa ∷ []) 1 t u s (Holds x carry t) only (λ b.
      leads_as g a (implied Txa ∷ []) 1 1 (at_regs t s) (To t (apply false Txa 0 s)) (Holds x carry t) (omega arith) (λ v e.
      record { only = only_to t v (apply false Txa 0 s) e; a = ap (λ (z : State). z.regs.a) e.0 ∙ x_is; c = ap (λ (z : State). z.regs.c) e.0 ∙ c_is })
      (implied_leads g a t on_place on Txa refl s b))

  pub loaded_leads : (at : ℕ) (carry : Bool) (u : State) → at < 256 → OnlyRegs t u → u.regs.c ≡ carry → Leads g a (zero_page Lda at ∷ []) 2 u (Holds (t.zp at) carry t)
  loaded_leads at carry u low only c_is =
      let s : Regs = u.regs in
      let next : Regs = on_byte g t Loads (bytes.Zero at) s in
      leads_from g a (zero_page Lda at ∷ []) 2 t u s (Holds (t.zp at) carry t) only (λ b.
      leads_as g a (zero_page Lda at ∷ []) 2 2 (at_regs t s) (To t next) (Holds (t.zp at) carry t) (omega arith) (λ v e.
      record { only = only_to t v next e; a = ap (λ (z : State). z.regs.a) e.0; c = ap (λ (z : State). z.regs.c) e.0 ∙ c_is })
      (operand_leads g a t on_place on Loads (bytes.Zero at) s low b))

  pub taken_leads : (byte : OperandByte) (x : ℕ) (carry : Bool) (u : State) → MayRead g t byte → Holds x carry t u → Leads g a (op_of Sbc byte) 2 u (IsByteDifference x (byte_in g t byte) carry t)
  taken_leads byte x carry u may k =
      let s : Regs = u.regs in
      let next : Regs = on_byte g t Subtracts byte s in
      let h : ℕ = byte_in g t byte in
      leads_from g a (op_of Sbc byte) 2 t u s (IsByteDifference x h carry t) k.only (λ b.
      leads_as g a (op_of Sbc byte) 2 2 (at_regs t s) (To t next) (IsByteDifference x h carry t) (omega arith) (λ v e.
      record {
        only = only_to t v next e;
        c = ap (λ (z : State). z.regs.c) e.0 ∙ ap (λ n. nat_lt 255 (n + (255 - h) + bit s.c)) k.a ∙ ap (λ d. nat_lt 255 (x + (255 - h) + bit d)) k.c;
        a = ap (λ (z : State). z.regs.a) e.0 ∙ ap (λ n. last_byte n h s.c) k.a ∙ ap (last_byte x h) k.c;
        n = ap (λ (z : State). z.regs.n) e.0 ∙ ap (λ n. negative (last_byte n h s.c)) k.a ∙ ap (λ d. negative (last_byte x h d)) k.c;
        v = ap (λ (z : State). z.regs.v) e.0 ∙ ap (λ n. overflows n h s.c) k.a ∙ ap (overflows x h) k.c;
      })
      (operand_leads g a t on_place on Subtracts byte s may b))

  pub turned_leads : (byte : OperandByte) (x : ℕ) (carry : Bool) (u : State) → is_number byte ≡ true → MayRead g t byte → byte_in g t byte < 256 → x < 256 → Holds x carry t u → Leads g a (turned_code byte) 4 u (IsTurnedDifference x (byte_in g t byte) carry t)
  turned_leads byte x carry u number may small x_byte k =
      let s : Regs = u.regs in
      let other : Regs = on_byte g t Excludes (bytes.Number 128) s in
      let last : Regs = on_byte g t Subtracts (turned byte) other in
      let h : ℕ = byte_in g t byte in
      let n : ℕ = byte_in g t (turned byte) in
      leads_from g a (turned_code byte) 4 t u s (IsTurnedDifference x h carry t) k.only (λ b.
      leads_then g a (value Eor 128 ∷ []) (op_of Sbc (turned byte)) 2 2 (at_regs t s) (To t other) (IsTurnedDifference x h carry t) (operand_leads g a t on_place on Excludes (bytes.Number 128) s (omega arith) b) (λ v e.
      leads_from g a (op_of Sbc (turned byte)) 2 t v other (IsTurnedDifference x h carry t) e (λ b2.
      leads_as g a (op_of Sbc (turned byte)) 2 2 (at_regs t other) (To t last) (IsTurnedDifference x h carry t) (omega arith) (λ z f.
      record {
        only = only_to t z last f;
        c = ap (λ (i : State). i.regs.c) f.0 ∙ ap (λ d. nat_lt 255 (bit_xor d 128 + (255 - n) + bit s.c)) k.a ∙ ap (λ d. nat_lt 255 (d + (255 - n) + bit s.c)) (sign_turned x x_byte)
            ∙ ap (λ d. nat_lt 255 (across x + (255 - d) + bit s.c)) (number_turned g t byte number small) ∙ ap (λ d. nat_lt 255 (across x + (255 - across h) + bit d)) k.c;
      })
      (operand_leads g a t on_place on Subtracts (turned byte) other (number_may g t byte number may) b2))))
