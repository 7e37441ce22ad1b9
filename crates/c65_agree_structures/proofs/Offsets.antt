-- The lines that add a number of bytes to an address.
use Rattle.std.proofs.Common.{◌≡◌, ℕ, ◌+◌, ◌<◌, List, [], ◌++◌, Bool, true, false, refl, sym, ap, ◌∙◌, subst, arith}
use Rattle.std.specs.Prelude.{◌==◌, nat_lt, if◌then◌else◌}
use Rattle.std.proofs.lemmas.Bool.{eqb-true}
use Rattle.c65_mach.specs.declared.rows.Op.TheVariants.{Adc, Clc, Tax, Tay, Txa, Tya}
use Rattle.c65_mach.specs.State.{Regs}
use Rattle.c65_mach.specs.Step.{apply}
use Rattle.c65_code.specs.declared.line.Line.{Line}
use Rattle.c65_code.specs.LineState.{State, ax_of, IsBytes}
use Rattle.c65_code.specs.Placement.{IsPlacement}
use Rattle.c65_genload.specs.Numbers.{first, second, add_word_code}
use Rattle.c65_genload.specs.Addresses.{offset_code}
use Rattle.c65_agree_state.specs.World.{World, Active}
use Rattle.c65_agree_frame.specs.Leads.{Leads, IsOn}
use Rattle.c65_agree_frame.proofs.Entries.{append_end}
use Rattle.c65_agree_frame.proofs.Leads.{kept_regs, none_leads, leads_as, after_lines, lines_lead}
use Rattle.c65_agree_registers.proofs.Addresses.{sum_is}

-- other registers alone, and so many more in AX where the sum is an address
pub record IsOffset (n : ℕ) (t u : State) : Type 0 where
  pub regs : Regs
  pub is : u ≡ record t { regs = regs }
  pub bytes : IsBytes u
  pub sum : ax_of t + n < 65536 → ax_of u ≡ ax_of t + n

module _ (g : World) (a : Active) (placed : IsPlacement g.code g.place) (t : State) (on : IsOn g t) (n : ℕ) where
  abbrev r1 : Regs
  r1 = apply false Clc 0 t.regs

  abbrev r2 : Regs
  r2 = apply false Adc (first n) r1

  abbrev r3 : Regs
  r3 = apply false Tay 0 r2

  abbrev r4 : Regs
  r4 = apply false Txa 0 r3

  abbrev r5 : Regs
  r5 = apply false Adc (second n) r4

  abbrev r6 : Regs
  r6 = apply false Tax 0 r5

  abbrev r7 : Regs
  r7 = apply false Tya 0 r6

  word_is : ax_of t + n < 65536 → ax_of (record t { regs = r7 }) ≡ ax_of t + n
  word_is fits =
      let whole = sum_is t.regs.a t.regs.x (first n) (second n) (nat_lt 255 (t.regs.a + first n + 0)) refl on.stacks.calm.bytes.a (omega arith) (omega (arith, fits)) in
      omega (arith, whole, fits)

  word_leads : Leads g a (add_word_code n) 7 t (λ u. (u ≡ after_lines g (add_word_code n) t) × IsBytes u)
  word_leads =
      lines_lead g a (add_word_code n) t placed on (
        refl,
        tt,
        omega arith,
        kept_regs t r1,
        (
          refl,
          tt,
          omega arith,
          kept_regs (record t { regs = r1 }) r2,
          (
            refl,
            tt,
            omega arith,
            kept_regs (record t { regs = r2 }) r3,
            (
              refl,
              tt,
              omega arith,
              kept_regs (record t { regs = r3 }) r4,
              (refl, tt, omega arith, kept_regs (record t { regs = r4 }) r5, (refl, tt, omega arith, kept_regs (record t { regs = r5 }) r6, (refl, tt, omega arith, kept_regs (record t { regs = r6 }) r7, tt))),
            ),
          ),
        ),
      )

  pub offset_leads : Leads g a (offset_code n) 7 t (IsOffset n t)
  offset_leads = go (n == 0) refl
    where
      go : (none : Bool) → (n == 0) ≡ none → Leads g a (if none then [] else add_word_code n ++ []) 7 t (IsOffset n t)
      go true e =
          let zero : n ≡ 0 = eqb-true n 0 e in
          leads_as g a [] 0 7 t (IsOffset n t) (IsOffset n t) (omega arith) (λ u h. h) (none_leads g a t (IsOffset n t) (record { regs = t.regs; is = refl; bytes = on.stacks.calm.bytes; sum = λ fits. omega (arith, zero) }))
      go false e =
          subst (λ (ls : List Line). Leads g a ls 7 t (IsOffset n t)) (sym (append_end (add_word_code n)))
          (leads_as g a (add_word_code n) 7 7 t (λ u. (u ≡ after_lines g (add_word_code n) t) × IsBytes u) (IsOffset n t) (omega arith) (λ u h. record { regs = r7; is = h.0; bytes = h.1; sum = λ fits. ap ax_of h.0 ∙ word_is fits }) word_leads)
