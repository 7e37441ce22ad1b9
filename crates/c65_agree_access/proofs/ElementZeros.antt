-- Lines that tell whether an element is zero.
use Rattle.std.proofs.Common.{◌≡◌, ℕ, ◌+◌, ◌*◌, ◌<◌, ◌≤◌, [], ◌∷◌, Some, Bool, false, refl, sym, ap, ◌∙◌, subst, arith}
use Rattle.std.specs.Prelude.{◌==◌, bit_or, not, Ok}
use Rattle.std.proofs.lemmas.Nat.{le_or_l, le_or_r}
use Rattle.c65_ints.specs.declared.types.IntType.{IntType}
use Rattle.c65_mach.specs.declared.rows.Op.TheVariants.{Lda, Ora}
use Rattle.c65_mach.specs.State.{Regs}
use Rattle.c65_mach.specs.Step.{apply, after}
use Rattle.c65_meaning.specs.Store.{Store, Value, Shape, size_in_store, block_size, read}
use Rattle.c65_meaning.specs.Fits.{Fits}
use Rattle.c65_meaning.specs.Operators.{truth_of}
use Rattle.c65_meaning.specs.State.{Scene}
use Rattle.c65_code.specs.LineState.{State, sp_of, IsBytes}
use Rattle.c65_code.specs.Placement.{IsPlacement, located}
use Rattle.c65_code.specs.Steady.{IsOpen}
use Rattle.c65_genload.specs.Conversions.{size_of}
use Rattle.c65_genload.specs.declared.places.Extent.{Extent}
use Rattle.c65_genload.specs.declared.places.Extent.TheVariants.{One, Two, Three, Four}
use Rattle.c65_genload.specs.declared.places.Place.{Place}
use Rattle.c65_genload.specs.declared.places.Place.TheVariants.{Data}
use Rattle.c65_genload.specs.Places.{extent_of}
use Rattle.c65_genexpr.specs.declared.elements.Element.{Element}
use Rattle.c65_genexpr.specs.Elements.{by_index, either_byte_code}
use Rattle.c65_genexpr.specs.Places.{more}
use Rattle.c65_agree_store.specs.Stands.{At, Placing, Banks, stored_at}
use Rattle.c65_agree_store.specs.Laws.{number_in}
use Rattle.c65_agree_state.specs.World.{World, Active}
use Rattle.c65_agree_state.specs.Exprs.{Ready}
use Rattle.c65_agree_put.specs.Laws.{IsScalar}
use Rattle.c65_agree_assign.specs.Places.{kind_in}
use Rattle.c65_agree_frame.specs.Leads.{Leads}
use Rattle.c65_agree_frame.proofs.Leads.{leads_as, kept_regs, after_lines, lines_lead}
use Rattle.c65_agree_load.specs.Loads.{CanLoad, IsMeantThere, bytes_of}
use Rattle.c65_agree_load.proofs.Kept.{is_on}
use Rattle.c65_agree_load.proofs.Fetched.{IsRead, is_read, size_of_kind, can}
use Rattle.c65_agree_direct.proofs.Bytes.{sizes_agree}
use Rattle.c65_agree_direct.proofs.Spots.{LiesThere}
use Rattle.c65_agree_direct.proofs.Loads.{is_kept, loaded_fits}
use Rattle.c65_agree_direct.proofs.Tests.{same_zero, truth_tells}
use Rattle.c65_agree_operate.specs.Manners.{Manner}
use Rattle.c65_agree_access.proofs.ByIndex.{IsOther, IsShort, by_registers, open_low, meant}

-- Z tells whether the value is false
abbrev pub IsDecided : Store → Value → State → Type 0
IsDecided s v u = (truth : Bool) → truth_of s v ≡ Ok truth → u.regs.z ≡ not truth

-- two bytes are both 0 where all bits of both are
neither_byte : (m n : ℕ) → (bit_or m n == 0) ≡ ((m + 256 * n) == 0)
neither_byte m n = same_zero (bit_or m n) (m + 256 * n) (λ e. omega (arith, e, le_or_l m n, le_or_r m n)) (λ e. both (omega (arith, e)) (omega (arith, e)))
  where
    both : m ≡ 0 → n ≡ 0 → bit_or m n ≡ 0
    both e f = ap (λ x. bit_or x n) e ∙ ap (bit_or 0) f

module _ (g : World) (a : Active) (m : Manner) (pushed needs : ℕ) (f : Shape) (c : Scene) (w : Placing) (k : Banks) (t : State) (placed : IsPlacement g.code g.place) (r : Ready g a pushed needs c w k t) (scalar : IsScalar f) (x : Element) (b o : ℕ) (v : Value) (e : read f c.store b o ≡ Ok v)
    (stands : w b ≡ Some (At (g.place.address x.sym.0))) (inside : o ≤ block_size c.store b) (reached : t.regs.y + x.at ≡ o) where
  abbrev kind : IntType
  kind = kind_in f

  abbrev place : Place
  place = Data x.sym o

  abbrev at : ℕ
  at = located g.place x.sym o

  abbrev bytes : ℕ → ℕ
  bytes = stored_at t (At at)

  -- ---- the number

  there : IsMeantThere g a c w t place b o
  there = meant g a m pushed needs f c w k t placed r scalar x b o v e stands inside reached

  -- the block ends below the last page
  low : g.place.address x.sym.0 + o < 65536
  low =
      let y : IsRead f c.store b o v = is_read f c.store b o v e in
      let size : block_size c.store b ≡ y.block.size = ap size_in_store y.is in
      let lies = r.joins.stands.lies b y.block (At (g.place.address x.sym.0)) (record { is = y.is; live = y.live; place = stands }) in
      omega (arith, lies.1, size, inside)

  lies : LiesThere g a c w t place b o
  lies = record { meant = there; symbol = (g.place.address x.sym.0, stands, refl, λ h. low); told = omega (arith, low) }

  fit : Fits f v
  fit = loaded_fits g a pushed needs place f c w k t b o placed r scalar lies v e

  number_tells : (truth : Bool) → truth_of c.store v ≡ Ok truth → (number_in bytes (size_of kind) 0 == 0) ≡ not truth
  number_tells truth is = truth_tells g a pushed needs c w k t r place f v truth scalar fit (is_kept g a pushed needs place f c w k t b o placed r scalar lies v e).value is

  -- ---- its lines

  abbrev Decided : State → Type 0
  Decided = IsOther g a m c w k t (IsDecided c.store v)

  abbrev first : ℕ
  first = after (located g.place x.sym x.at) t.regs.y

  first_is : first ≡ at + 0
  first_is = omega (arith, reached)

  one_decides : size_of kind ≡ 1 → CanLoad g t (At at) 1 → Leads g a (by_index Lda x.sym x.at ∷ []) 526 t Decided
  one_decides size may =
      let regs : Regs = apply false Lda (t.mem first) t.regs in
      let here : t.mem first ≡ t.mem (at + 0) = ap t.mem first_is in
      let byte : t.mem first ≡ number_in bytes 1 0 = omega (arith, here) in
      let number : t.mem first ≡ number_in bytes (size_of kind) 0 = byte ∙ ap (λ n. number_in bytes n 0) (sym size) in
      leads_as g a (by_index Lda x.sym x.at ∷ []) 1 526 t (λ u. (u ≡ after_lines g (by_index Lda x.sym x.at ∷ []) t) × IsBytes u) Decided (omega arith)
      (λ u h. by_registers g a m pushed needs c w k t placed r (IsDecided c.store v) regs u h.0 h.1 (λ truth is. ap (λ n. n == 0) number ∙ number_tells truth is))
      (lines_lead g a (by_index Lda x.sym x.at ∷ []) t placed (is_on g a pushed needs c w k t placed r) (refl, subst (IsOpen g.place (sp_of t)) (sym first_is) (may 0 (omega arith)), tt, kept_regs t regs, tt))

  abbrev second : ℕ
  second = after (located g.place x.sym (more x.at 1)) t.regs.y

  two_decide : size_of kind ≡ 2 → CanLoad g t (At at) 2 → Leads g a (by_index Lda x.sym x.at ∷ by_index Ora x.sym (more x.at 1) ∷ []) 526 t Decided
  two_decide size may =
      let low_one = open_low g a m pushed needs c w k t placed r (at + 1) (may 1 (omega arith)) in
      let second_is : second ≡ at + 1 = omega (arith, reached, low_one) in
      let regs1 : Regs = apply false Lda (t.mem first) t.regs in
      let regs2 : Regs = apply false Ora (t.mem second) regs1 in
      let low_byte : t.mem first ≡ t.mem (at + 0) = ap t.mem first_is in
      let high_byte : t.mem second ≡ t.mem (at + 1) = ap t.mem second_is in
      let word : t.mem first + 256 * t.mem second ≡ number_in bytes 2 0 = omega (arith, low_byte, high_byte) in
      let number : t.mem first + 256 * t.mem second ≡ number_in bytes (size_of kind) 0 = word ∙ ap (λ n. number_in bytes n 0) (sym size) in
      leads_as g a (by_index Lda x.sym x.at ∷ by_index Ora x.sym (more x.at 1) ∷ []) 2 526 t (λ u. (u ≡ after_lines g (by_index Lda x.sym x.at ∷ by_index Ora x.sym (more x.at 1) ∷ []) t) × IsBytes u) Decided (omega arith)
      (λ u h. by_registers g a m pushed needs c w k t placed r (IsDecided c.store v) regs2 u h.0 h.1 (λ truth is. neither_byte (t.mem first) (t.mem second) ∙ (ap (λ n. n == 0) number ∙ number_tells truth is)))
      (lines_lead g a (by_index Lda x.sym x.at ∷ by_index Ora x.sym (more x.at 1) ∷ []) t placed (is_on g a pushed needs c w k t placed r) (
        refl,
        subst (IsOpen g.place (sp_of t)) (sym first_is) (may 0 (omega arith)),
        tt,
        kept_regs t regs1,
        (refl, subst (IsOpen g.place (sp_of t)) (sym second_is) (may 1 (omega arith)), tt, kept_regs (record t { regs = regs1 }) regs2, tt),
      ))

  bytes_decide : (extent : Extent) → IsShort extent → size_of kind ≡ bytes_of extent → CanLoad g t (At at) (bytes_of extent) → Leads g a (either_byte_code x extent) 526 t Decided
  bytes_decide One short size may = one_decides size may
  bytes_decide Two short size may = two_decide size may
  bytes_decide Three short size may = absurd short
  bytes_decide Four short size may = absurd short

  pub element_decides : IsShort (extent_of kind) → Fits f v × Leads g a (either_byte_code x (extent_of kind)) 526 t Decided
  element_decides short = (fit, bytes_decide (extent_of kind) short (sizes_agree kind ∙ sym (size_of_kind kind)) (can g a pushed needs place f c w k t b o placed r scalar there v e))
