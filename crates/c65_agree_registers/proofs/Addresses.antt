-- The lines of an address above sp.
use Rattle.std.proofs.Common.{◌≡◌, ℕ, ◌+◌, ◌*◌, ◌/◌, ◌%◌, ◌<◌, ◌≤◌, Bool, true, false, refl, arith}
use Rattle.std.specs.Prelude.{nat_lt}
use Rattle.std.proofs.lemmas.Bool.Decides.{nat_tests}
use Rattle.c65_mach.specs.declared.rows.Op.TheVariants.{Adc, Clc, Lda, Tax, Tay, Tya}
use Rattle.c65_mach.specs.State.{Regs}
use Rattle.c65_mach.specs.Step.{apply, bit}
use Rattle.c65_code.specs.LineState.{State, sp_of, ax_of, IsBytes}
use Rattle.c65_code.specs.Placement.{IsPlacement}
use Rattle.c65_genload.specs.Addresses.{address_code}
use Rattle.c65_agree_state.specs.World.{World, Active}
use Rattle.c65_agree_frame.specs.Leads.{Leads, IsOn}
use Rattle.c65_agree_frame.proofs.Leads.{kept_regs, lines_lead}

-- a sum by bytes, with its carry
pub sum_is : (low high a b : ℕ) (carry : Bool) → nat_lt 255 (low + a + 0) ≡ carry → low < 256 → a < 256 → low + 256 * high + (a + 256 * b) < 65536 → (low + a + 0) % 256 + 256 * ((high + b + bit carry) % 256) ≡ low + 256 * high + (a + 256 * b)
sum_is low high a b true e l m fits = let over : 255 < low + a + 0 = grind (arith, nat_tests) in omega (arith, over, l, m, fits)
sum_is low high a b false e l m fits = let under : low + a + 0 ≤ 255 = grind (arith, nat_tests) in omega (arith, under, fits)

module _ (t : State) (at : ℕ) where
  abbrev r1 : Regs
  r1 = apply false Clc 0 t.regs

  abbrev r2 : Regs
  r2 = apply false Lda (t.zp 0) r1

  abbrev r3 : Regs
  r3 = apply false Adc (at % 256) r2

  abbrev r4 : Regs
  r4 = apply false Tay 0 r3

  abbrev r5 : Regs
  r5 = apply false Lda (t.zp 1) r4

  abbrev r6 : Regs
  r6 = apply false Adc (at / 256) r5

  abbrev r7 : Regs
  r7 = apply false Tax 0 r6

  abbrev pub address_regs : Regs
  address_regs = apply false Tya 0 r7

  pub address_is : t.zp 0 < 256 → sp_of t + at < 65536 → ax_of (record t { regs = address_regs }) ≡ sp_of t + at
  address_is low fits =
      let whole = sum_is (t.zp 0) (t.zp 1) (at % 256) (at / 256) (nat_lt 255 (t.zp 0 + at % 256 + 0)) refl low (omega arith) (omega (arith, fits)) in
      omega (arith, whole)

  pub address_leads : (g : World) (a : Active) → IsPlacement g.code g.place → IsOn g t → at < 65536 → Leads g a (address_code at) 8 t (λ u. (u ≡ record t { regs = address_regs }) × IsBytes u)
  address_leads g a placed on small =
      lines_lead g a (address_code at) t placed on (
        refl,
        tt,
        omega arith,
        kept_regs t r1,
        (
          refl,
          (omega arith, λ h. absurd h),
          tt,
          kept_regs (record t { regs = r1 }) r2,
          (
            refl,
            tt,
            omega arith,
            kept_regs (record t { regs = r2 }) r3,
            (
              refl,
              tt,
              omega arith,
              kept_regs (record t { regs = r3 }) r4,
              (
                refl,
                (omega arith, λ h. absurd h),
                tt,
                kept_regs (record t { regs = r4 }) r5,
                (
                  refl,
                  tt,
                  omega (arith, small),
                  kept_regs (record t { regs = r5 }) r6,
                  (refl, tt, omega arith, kept_regs (record t { regs = r6 }) r7, (refl, tt, omega arith, kept_regs (record t { regs = r7 }) address_regs, tt)),
                ),
              ),
            ),
          ),
        ),
      )
