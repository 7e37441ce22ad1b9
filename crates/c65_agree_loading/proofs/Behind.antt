-- A byte or two are loaded behind ptr1, and ptr2 stays.
use Rattle.std.proofs.Common.{◌≡◌, ℕ, ◌+◌, ◌*◌, ◌%◌, ◌<◌, ◌≤◌, inl, inr, false, refl, sym, ap, ◌∙◌, subst, arith}
use Rattle.std.specs.Prelude.{◌==◌}
use Rattle.c65_mach.specs.declared.rows.Op.TheVariants.{Dey, Lda, Ldy, Tax}
use Rattle.c65_mach.specs.State.{Regs}
use Rattle.c65_mach.specs.Step.{apply, after}
use Rattle.c65_meaning.specs.State.{Scene}
use Rattle.c65_code.specs.LineState.{State, sp_of, ax_of, zero_word, IsBytes}
use Rattle.c65_code.specs.Placement.{IsPlacement}
use Rattle.c65_code.specs.Steady.{IsOpen}
use Rattle.c65_genload.specs.declared.places.Extent.{Extent}
use Rattle.c65_genload.specs.declared.places.Extent.TheVariants.{One, Two}
use Rattle.c65_genload.specs.Places.{byte_more}
use Rattle.c65_gendirect.specs.Pointed.{behind_pointer_code}
use Rattle.c65_genexpr.specs.declared.destination.Destination.TheVariants.{Pointer}
use Rattle.c65_agree_store.specs.Stands.{Spot, At, Placing, Banks}
use Rattle.c65_agree_state.specs.World.{World, Active}
use Rattle.c65_agree_state.specs.Exprs.{Ready, Kept}
use Rattle.c65_agree_put.proofs.Stores.{data_is_low}
use Rattle.c65_agree_frame.specs.Leads.{Leads}
use Rattle.c65_agree_frame.proofs.Leads.{leads_as, kept_regs, after_lines, lines_lead}
use Rattle.c65_agree_load.specs.Loads.{CanLoad, IsLoaded}
use Rattle.c65_agree_load.proofs.Kept.{is_on, kept_later}
use Rattle.c65_agree_operate.specs.Manners.{IsHeld}
use Rattle.c65_agree_loading.specs.Bases.{arrived_at}

module _ (g : World) (a : Active) (pushed needs : ℕ) (c : Scene) (w : Placing) (k : Banks) (t : State) (placed : IsPlacement g.code g.place) (r : Ready g a pushed needs c w k t) (at : ℕ) (small : at ≤ 250) where
  -- the address in ptr1
  abbrev base : ℕ
  base = ax_of (arrived_at Pointer t)

  abbrev q : Spot
  q = At (base + at)

  -- all is kept, Z tells whether A is 0, and ptr2 stays
  pub record IsBehind (extent : Extent) (u : State) : Type 0 where
    pub kept : Kept g a c w k t c w k u
    pub loaded : IsLoaded extent q (arrived_at Pointer t) u
    pub zero : u.regs.z ≡ (u.regs.a == 0)
    pub held : IsHeld t u

  by_regs : (extent : Extent) (regs : Regs) (u : State) → u ≡ record t { regs = regs } → IsBytes u → regs.z ≡ (regs.a == 0) → IsLoaded extent q (arrived_at Pointer t) (record t { regs = regs }) → IsBehind extent u
  by_regs extent regs u e b zero loaded = rw e (record { kept = kept_later g a pushed needs c w k t placed r regs t.zp (λ i h. refl) (subst IsBytes e b); loaded = loaded; zero = zero; held = record { low = refl; high = refl } })

  open_low : (n : ℕ) → IsOpen g.place (sp_of t) n → n < 65520
  open_low n (inl d) = let low = data_is_low g placed n d in omega (arith, low)
  open_low n (inr h) = h.1

  pub one_behind : CanLoad g (arrived_at Pointer t) q 1 → Leads g a (behind_pointer_code at One) 270 t (IsBehind One)
  one_behind can =
      let here : base + at + 0 ≡ base + at = omega arith in
      let opened : IsOpen g.place (sp_of t) (base + at) = subst (IsOpen g.place (sp_of t)) here (can 0 (omega arith)) in
      let from : ℕ = after (zero_word t 8) at in
      let place : from ≡ base + at = let low = open_low (base + at) opened in omega (arith, low) in
      let regs1 : Regs = apply false Ldy at t.regs in
      let regs2 : Regs = apply false Lda (t.mem from) regs1 in
      let byte : t.mem from ≡ t.mem (base + at + 0) + 256 * 0 = ap t.mem (place ∙ sym here) ∙ omega arith in
      leads_as g a (behind_pointer_code at One) 2 270 t (λ u. (u ≡ after_lines g (behind_pointer_code at One) t) × IsBytes u) (IsBehind One) (omega arith) (λ u e. by_regs One regs2 u e.0 e.1 refl byte)
      (lines_lead g a (behind_pointer_code at One) t placed (is_on g a pushed needs c w k t placed r) (
        refl,
        tt,
        omega (arith, small),
        kept_regs t regs1,
        (refl, subst (IsOpen g.place (sp_of t)) (sym place) opened, tt, kept_regs (record t { regs = regs1 }) regs2, tt),
      ))

  pub two_behind : CanLoad g (arrived_at Pointer t) q 2 → Leads g a (behind_pointer_code at Two) 270 t (IsBehind Two)
  two_behind can =
      let y1 : ℕ = byte_more at 1 in
      let f1 : ℕ = after (zero_word t 8) y1 in
      let f0 : ℕ = after (zero_word t 8) ((y1 + 255) % 256) in
      let low1 = open_low (base + at + 1) (can 1 (omega arith)) in
      let is1 : f1 ≡ base + at + 1 = omega (arith, small, low1) in
      let is0 : f0 ≡ base + at + 0 = omega (arith, small, low1) in
      let s1 : Regs = apply false Ldy y1 t.regs in
      let s2 : Regs = apply false Lda (t.mem f1) s1 in
      let s3 : Regs = apply false Tax 0 s2 in
      let s4 : Regs = apply false Dey 0 s3 in
      let s5 : Regs = apply false Lda (t.mem f0) s4 in
      let low : t.mem f0 ≡ t.mem (base + at + 0) = ap t.mem is0 in
      let high : t.mem f1 ≡ t.mem (base + at + 1) = ap t.mem is1 in
      leads_as g a (behind_pointer_code at Two) 5 270 t (λ u. (u ≡ after_lines g (behind_pointer_code at Two) t) × IsBytes u) (IsBehind Two) (omega arith) (λ u e. by_regs Two s5 u e.0 e.1 refl (omega (arith, low, high)))
      (lines_lead g a (behind_pointer_code at Two) t placed (is_on g a pushed needs c w k t placed r) (
        refl,
        tt,
        omega arith,
        kept_regs t s1,
        (
          refl,
          subst (IsOpen g.place (sp_of t)) (sym is1) (can 1 (omega arith)),
          tt,
          kept_regs (record t { regs = s1 }) s2,
          (
            refl,
            tt,
            omega arith,
            kept_regs (record t { regs = s2 }) s3,
            (
              refl,
              tt,
              omega arith,
              kept_regs (record t { regs = s3 }) s4,
              (refl, subst (IsOpen g.place (sp_of t)) (sym is0) (can 0 (omega arith)), tt, kept_regs (record t { regs = s4 }) s5, tt),
            ),
          ),
        ),
      ))
