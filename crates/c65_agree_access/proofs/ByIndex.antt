-- What is kept so far behind a symbol is loaded by Y.
use Rattle.std.proofs.Common.{◌≡◌, ℕ, ◌+◌, ◌*◌, ◌<◌, ◌≤◌, inl, inr, [], ◌∷◌, ◌++◌, Some, true, false, refl, sym, ap, ◌∙◌, subst, arith}
use Rattle.std.specs.Prelude.{Ok}
use Rattle.c65_ints.specs.declared.types.IntType.{IntType}
use Rattle.c65_ints.specs.declared.types.IntType.TheVariants as I
use Rattle.c65_ctype.specs.Sizes.{bytes_of}
use Rattle.c65_mach.specs.declared.rows.Op.TheVariants.{Lda, Ldx}
use Rattle.c65_mach.specs.State.{Regs}
use Rattle.c65_mach.specs.Step.{apply, after}
use Rattle.c65_meaning.specs.Store.{Value, Shape, size_in_store, block_size, read}
use Rattle.c65_meaning.specs.Fits.{Fits}
use Rattle.c65_meaning.specs.State.{Scene}
use Rattle.c65_code.specs.LineState.{State, sp_of, IsBytes}
use Rattle.c65_code.specs.Placement.{IsPlacement, located}
use Rattle.c65_code.specs.Rows.{primary_of}
use Rattle.c65_code.specs.Steady.{IsOpen}
use Rattle.c65_genwide.specs.Lines.{value}
use Rattle.c65_genwide.specs.Wide.{width_of, narrow_code}
use Rattle.c65_genload.specs.declared.places.Extent.{Extent}
use Rattle.c65_genload.specs.declared.places.Extent.TheVariants.{One, Two, Three, Four}
use Rattle.c65_genload.specs.declared.places.Place.TheVariants.{Data}
use Rattle.c65_genload.specs.Places.{extent_of}
use Rattle.c65_genexpr.specs.declared.elements.Element.{Element}
use Rattle.c65_genexpr.specs.Operating.{is_signed_char}
use Rattle.c65_genexpr.specs.Elements.{by_index, element_bytes_code}
use Rattle.c65_genexpr.specs.Places.{more}
use Rattle.c65_agree_store.specs.Stands.{Spot, At, Placing, Banks, LiesIn, beyond, stored_at}
use Rattle.c65_agree_store.specs.Laws.{number_in}
use Rattle.c65_agree_state.specs.World.{World, Active}
use Rattle.c65_agree_state.specs.Exprs.{Ready, Kept, Valued, ResultIs, width_in}
use Rattle.c65_agree_state.proofs.Nodes.{ready_stays}
use Rattle.c65_agree_state.proofs.Parts.{kept_goes_on}
use Rattle.c65_agree_numbers.specs.Words.{narrowed}
use Rattle.c65_agree_places.specs.Places.{IsReached}
use Rattle.c65_agree_put.specs.Laws.{IsScalar}
use Rattle.c65_agree_put.proofs.Stores.{data_is_low}
use Rattle.c65_agree_assign.specs.Places.{kind_in}
use Rattle.c65_agree_frame.specs.Leads.{Leads}
use Rattle.c65_agree_frame.proofs.Leads.{none_leads, leads_then, leads_as, kept_regs, after_lines, lines_lead}
use Rattle.c65_agree_load.specs.Loads as loads
use Rattle.c65_agree_load.specs.Loads.{CanLoad, IsLoaded, IsMeantThere}
use Rattle.c65_agree_load.proofs.Kept.{is_on, kept_later}
use Rattle.c65_agree_load.proofs.Fetched.{Narrowed, narrow_leads, fits, can, result}
use Rattle.c65_agree_operate.specs.Manners.{Manner, IsLeft}
use Rattle.c65_agree_operate.proofs.Manners.{left_then, left_held, left_where}

-- ---- by Y

-- all is kept, and something holds of the state
pub record IsOther (g : World) (a : Active) (m : Manner) (c : Scene) (w : Placing) (k : Banks) (t : State) (P : State → Type 0) (u : State) : Type 0 where
  pub kept : Kept g a c w k t c w k u
  pub left : IsLeft m c t c u
  pub so : P u

module _ (g : World) (a : Active) (m : Manner) (pushed needs : ℕ) (c : Scene) (w : Placing) (k : Banks) (t : State) (placed : IsPlacement g.code g.place) (r : Ready g a pushed needs c w k t) where
  -- other registers alone
  pub by_registers : (P : State → Type 0) (regs : Regs) (u : State) → u ≡ record t { regs = regs } → IsBytes u → P (record t { regs = regs }) → IsOther g a m c w k t P u
  by_registers P regs u e b so = rw e (record { kept = kept_later g a pushed needs c w k t placed r regs t.zp (λ i h. refl) (subst IsBytes e b); left = left_held m c t (record t { regs = regs }) (record { low = refl; high = refl }); so = so })

  pub open_low : (n : ℕ) → IsOpen g.place (sp_of t) n → n < 65520
  open_low n (inl d) = let low = data_is_low g placed n d in omega (arith, low)
  open_low n (inr h) = h.1

  module _ (x : Element) (o : ℕ) (reached : t.regs.y + x.at ≡ o) where
    abbrev pub at : ℕ
    at = located g.place x.sym o

    abbrev pub IsBehind : Extent → State → Type 0
    IsBehind extent = IsOther g a m c w k t (λ u. IsLoaded extent (At at) t u)

    abbrev first : ℕ
    first = after (located g.place x.sym x.at) t.regs.y

    first_is : first ≡ at + 0
    first_is = omega (arith, reached)

    pub one_by_index : CanLoad g t (At at) 1 → Leads g a (by_index Lda x.sym x.at ∷ []) 270 t (IsBehind One)
    one_by_index may =
        let regs : Regs = apply false Lda (t.mem first) t.regs in
        let byte : t.mem first ≡ t.mem (at + 0) + 256 * 0 = ap t.mem first_is ∙ omega arith in
        leads_as g a (by_index Lda x.sym x.at ∷ []) 1 270 t (λ u. (u ≡ after_lines g (by_index Lda x.sym x.at ∷ []) t) × IsBytes u) (IsBehind One) (omega arith) (λ u e. by_registers (λ v. IsLoaded One (At at) t v) regs u e.0 e.1 byte)
        (lines_lead g a (by_index Lda x.sym x.at ∷ []) t placed (is_on g a pushed needs c w k t placed r) (refl, subst (IsOpen g.place (sp_of t)) (sym first_is) (may 0 (omega arith)), tt, kept_regs t regs, tt))

    abbrev second : ℕ
    second = after (located g.place x.sym (more x.at 1)) t.regs.y

    pub two_by_index : CanLoad g t (At at) 2 → Leads g a (by_index Ldx x.sym (more x.at 1) ∷ by_index Lda x.sym x.at ∷ []) 270 t (IsBehind Two)
    two_by_index may =
        let low_one = open_low (at + 1) (may 1 (omega arith)) in
        let second_is : second ≡ at + 1 = omega (arith, reached, low_one) in
        let regs1 : Regs = apply false Ldx (t.mem second) t.regs in
        let regs2 : Regs = apply false Lda (t.mem first) regs1 in
        let low : t.mem first ≡ t.mem (at + 0) = ap t.mem first_is in
        let high : t.mem second ≡ t.mem (at + 1) = ap t.mem second_is in
        leads_as g a (by_index Ldx x.sym (more x.at 1) ∷ by_index Lda x.sym x.at ∷ []) 2 270 t (λ u. (u ≡ after_lines g (by_index Ldx x.sym (more x.at 1) ∷ by_index Lda x.sym x.at ∷ []) t) × IsBytes u) (IsBehind Two) (omega arith) (λ u e. by_registers (λ v. IsLoaded Two (At at) t v) regs2 u e.0 e.1 (omega (arith, low, high)))
        (lines_lead g a (by_index Ldx x.sym (more x.at 1) ∷ by_index Lda x.sym x.at ∷ []) t placed (is_on g a pushed needs c w k t placed r) (refl, subst (IsOpen g.place (sp_of t)) (sym second_is) (may 1 (omega arith)), tt, kept_regs t regs1, (refl, subst (IsOpen g.place (sp_of t)) (sym first_is) (may 0 (omega arith)), tt, kept_regs (record t { regs = regs1 }) regs2, tt)))

-- ---- in all of the register

module _ (g : World) (a : Active) (m : Manner) (pushed needs : ℕ) (c : Scene) (w : Placing) (k : Banks) (t : State) (placed : IsPlacement g.code g.place) (r : Ready g a pushed needs c w k t) (q : Spot) where
  abbrev Whole : IntType → State → Type 0
  Whole kind v = primary_of (width_of kind) v ≡ narrowed kind (number_in (stored_at t q) (bytes_of kind) 0)

  abbrev pub IsNarrowed : IntType → State → Type 0
  IsNarrowed kind = IsOther g a m c w k t (Whole kind)

  module _ (u : State) (kept : Kept g a c w k t c w k u) (left : IsLeft m c t c u) where
    ready : Ready g a pushed needs c w k u
    ready = ready_stays g a pushed needs needs c c w w k k t u (omega arith) r kept

    none_narrowed : (kind : IntType) → Whole kind u → Leads g a [] 256 u (IsNarrowed kind)
    none_narrowed kind is = leads_as g a [] 0 256 u (IsNarrowed kind) (IsNarrowed kind) (omega arith) (λ v h. h) (none_leads g a u (IsNarrowed kind) (record { kept = kept; left = left; so = is }))

    pub narrows : (kind : IntType) → (m.light ≡ true → is_signed_char kind ≡ false) → IsLoaded (extent_of kind) q t u → Leads g a (narrow_code kind) 256 u (IsNarrowed kind)
    narrows I.UChar light loaded =
        let regs : Regs = apply false Ldx 0 u.regs in
        leads_as g a (value Ldx 0 ∷ []) 1 256 u (λ v. (v ≡ record u { regs = regs }) × IsBytes v) (IsNarrowed I.UChar) (omega arith)
        (λ v e.
        let other : IsOther g a m c w k u (Whole I.UChar) v = by_registers g a m pushed needs c w k u placed ready (Whole I.UChar) regs v e.0 e.1 (omega (arith, loaded, ready.joins.bytes.a)) in
        record { kept = kept_goes_on g a c c c w w w k k k t u v kept other.kept; left = left_then m c c c t u v left other.left; so = other.so })
        (lines_lead g a (value Ldx 0 ∷ []) u placed (is_on g a pushed needs c w k u placed ready) (refl, tt, omega arith, kept_regs u regs, tt))
    narrows I.SChar light loaded =
        leads_as g a (narrow_code I.SChar) 256 256 u (Narrowed g a pushed needs c w k t placed r q I.SChar u) (IsNarrowed I.SChar) (omega arith)
        (λ v h. record { kept = kept_goes_on g a c c c w w w k k k t u v kept h.0; left = left_then m c c c t u v left (left_where m c u v (λ l. absurd (let clash : true ≡ false = light l in cc))); so = h.1 })
        (narrow_leads g a pushed needs c w k t placed r q I.SChar u kept loaded)
    narrows I.Short light loaded = none_narrowed I.Short loaded
    narrows I.UShort light loaded = none_narrowed I.UShort loaded
    narrows I.Int light loaded = none_narrowed I.Int loaded
    narrows I.UInt light loaded = none_narrowed I.UInt loaded
    narrows I.Long light loaded = none_narrowed I.Long loaded
    narrows I.ULong light loaded = none_narrowed I.ULong loaded

-- ---- a value

-- one byte or two
abbrev pub IsShort : Extent → Type 0
IsShort One = Unit {0}
IsShort Two = Unit {0}
IsShort _ = ⊥

module _ (g : World) (a : Active) (m : Manner) (pushed needs : ℕ) (f : Shape) (c : Scene) (w : Placing) (k : Banks) (t : State) (placed : IsPlacement g.code g.place) (r : Ready g a pushed needs c w k t) (scalar : IsScalar f) (x : Element) (b o : ℕ) (v : Value) (e : read f c.store b o ≡ Ok v)
    (stands : w b ≡ Some (At (g.place.address x.sym.0))) (inside : o ≤ block_size c.store b) (reached : t.regs.y + x.at ≡ o) where
  abbrev kind : IntType
  kind = kind_in f

  abbrev spot : Spot
  spot = At (located g.place x.sym o)

  -- as if its place were known
  pub meant : IsMeantThere g a c w t (Data x.sym o) b o
  meant y q is =
      let one : Some q ≡ Some (At (g.place.address x.sym.0)) = sym is.place ∙ stands in
      let same : q ≡ At (g.place.address x.sym.0) = cc in
      let lies : LiesIn (At (g.place.address x.sym.0)) y.size = subst (λ s. LiesIn s y.size) same (r.joins.stands.lies b y q is) in
      let size : block_size c.store b ≡ y.size = ap size_in_store is.is in
      let there : located g.place x.sym o ≡ g.place.address x.sym.0 + o = omega (arith, lies.1, size, inside) in
      (subst (IsReached a) (sym same) tt, ap At there ∙ ap (λ s. beyond s o) (sym same))

  abbrev pub IsFetched : State → Type 0
  IsFetched = IsOther g a m c w k t (λ u. ResultIs Valued w (width_in f) v u)

  bytes_lead : (extent : Extent) → IsShort extent → CanLoad g t spot (loads.bytes_of extent) → Leads g a (element_bytes_code x extent) 270 t (IsOther g a m c w k t (λ u. IsLoaded extent spot t u))
  bytes_lead One short may = one_by_index g a m pushed needs c w k t placed r x o reached may
  bytes_lead Two short may = two_by_index g a m pushed needs c w k t placed r x o reached may
  bytes_lead Three short may = absurd short
  bytes_lead Four short may = absurd short

  pub fetched : IsShort (extent_of kind) → (m.light ≡ true → is_signed_char kind ≡ false) → Fits f v × Leads g a (element_bytes_code x (extent_of kind) ++ narrow_code kind) 526 t IsFetched
  fetched short light = (
    fits g a pushed needs (Data x.sym o) f c w k t b o placed r scalar meant v e,
    leads_then g a (element_bytes_code x (extent_of kind)) (narrow_code kind) 270 256 t (IsOther g a m c w k t (λ u. IsLoaded (extent_of kind) spot t u)) IsFetched
        (bytes_lead (extent_of kind) short (can g a pushed needs (Data x.sym o) f c w k t b o placed r scalar meant v e)) (λ u h.
        leads_as g a (narrow_code kind) 256 256 u (IsNarrowed g a m pushed needs c w k t placed r spot kind) IsFetched (omega arith)
        (λ y d. record { kept = d.kept; left = d.left; so = result g a pushed needs (Data x.sym o) f c w k t b o placed r scalar meant v e y d.so })
        (narrows g a m pushed needs c w k t placed r spot u h.kept h.left kind light h.so)),
  )
