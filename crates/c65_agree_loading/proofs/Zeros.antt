-- Lines that tell whether what is loaded is zero.
use Rattle.std.proofs.Common.{◌≡◌, ℕ, ◌+◌, ◌*◌, ◌∷◌, Some, Bool, refl, sym, ap, ◌∙◌, subst, arith}
use Rattle.std.specs.Prelude.{◌==◌, not, Ok, length}
use Rattle.c65_ints.specs.declared.types.IntType.{IntType}
use Rattle.c65_ints.specs.declared.types.IntType.TheVariants as I
use Rattle.c65_meaning.specs.Store as values
use Rattle.c65_meaning.specs.Store.{Value, Shape, read}
use Rattle.c65_meaning.specs.Fits.{Fits}
use Rattle.c65_meaning.specs.Operators.{truth_of}
use Rattle.c65_meaning.specs.State.{Scene}
use Rattle.c65_code.specs.LineState.{State, ax_of, IsBytes}
use Rattle.c65_code.specs.Placement.{IsPlacement, located}
use Rattle.c65_code.specs.declared.line.Sym.{Sym}
use Rattle.c65_genload.specs.declared.places.Extent.{Extent}
use Rattle.c65_genload.specs.declared.places.Extent.TheVariants.{One}
use Rattle.c65_genload.specs.declared.places.Place.{Place}
use Rattle.c65_genload.specs.declared.places.Place.TheVariants.{Bank, Near, Data, Far}
use Rattle.c65_genload.specs.Conversions.{size_of}
use Rattle.c65_genload.specs.Places.{extent_of}
use Rattle.c65_gendirect.specs.declared.direct.Direct.TheVariants.{Kept}
use Rattle.c65_gendirect.specs.Pointed.{behind_pointer_code}
use Rattle.c65_gendirect.specs.Tests.{all_zero_code}
use Rattle.c65_genexpr.specs.declared.destination.Destination.{Destination}
use Rattle.c65_genexpr.specs.declared.destination.Destination.TheVariants.{Registers, Pointer}
use Rattle.c65_genexpr.specs.Direct.{own_bytes}
use Rattle.c65_agree_store.specs.Stands.{Spot, At, Banked, Placing, Banks, beyond, stored_at}
use Rattle.c65_agree_store.specs.Laws.{number_in}
use Rattle.c65_agree_state.specs.World.{World, Active}
use Rattle.c65_agree_state.specs.Exprs.{Ready, Kept as Keeps, width_in}
use Rattle.c65_agree_put.specs.Laws.{IsScalar}
use Rattle.c65_agree_assign.specs.Places.{kind_in}
use Rattle.c65_agree_frame.specs.Leads.{Leads}
use Rattle.c65_agree_frame.proofs.Leads.{leads_as}
use Rattle.c65_agree_load.specs.Loads.{CanLoad, IsMeantThere, bytes_of}
use Rattle.c65_agree_load.proofs.Kept.{kept_later}
use Rattle.c65_agree_load.proofs.Fetched.{IsRead, is_read, can}
use Rattle.c65_agree_direct.specs.Operands.{byte_in}
use Rattle.c65_agree_direct.proofs.Spots.{IsKnown, IsAtSymbol, LiesThere}
use Rattle.c65_agree_direct.proofs.Values.{bytes_at, IsKept}
use Rattle.c65_agree_direct.proofs.Loads.{most, is_kept, loaded_fits}
use Rattle.c65_agree_direct.proofs.Ored.{ored, ored_none, none_ored, IsOred, zero_leads}
use Rattle.c65_agree_direct.proofs.Tests.{HasOwn, own, same_zero, truth_tells}
use Rattle.c65_agree_operate.specs.Manners.{IsHeld}
use Rattle.c65_agree_structures.specs.Bases.{IsToldBy}
use Rattle.c65_agree_loading.specs.Bases.{arrived_at}
use Rattle.c65_agree_loading.proofs.Members.{arrived_ready}
use Rattle.c65_agree_loading.proofs.Behind.{IsBehind, one_behind}

-- all is kept, ptr2 stays, and Z tells whether the value is false
pub record IsDecided (g : World) (a : Active) (c : Scene) (w : Placing) (k : Banks) (t : State) (v : Value) (u : State) : Type 0 where
  pub kept : Keeps g a c w k t c w k u
  pub held : IsHeld t u
  pub zero : (b : Bool) → truth_of c.store v ≡ Ok b → u.regs.z ≡ not b

size_one : (kind : IntType) → extent_of kind ≡ One → size_of kind ≡ 1
size_one I.SChar e = refl
size_one I.UChar e = refl
size_one I.Short e = absurd (cc)
size_one I.UShort e = absurd (cc)
size_one I.Int e = absurd (cc)
size_one I.UInt e = absurd (cc)
size_one I.Long e = absurd (cc)
size_one I.ULong e = absurd (cc)

module _ (g : World) (a : Active) (pushed needs : ℕ) (f : Shape) (c : Scene) (w : Placing) (k : Banks) (t : State) (placed : IsPlacement g.code g.place) (r : Ready g a pushed needs c w k t) (scalar : IsScalar f) (b o : ℕ) (v : Value) (e : read f c.store b o ≡ Ok v) where
  abbrev kind : IntType
  kind = kind_in f

  -- ---- at a known place

  module _ (place : Place) (known : IsKnown place) (lies : LiesThere g a c w t place b o) where
    abbrev bytes : ℕ → ℕ
    bytes = bytes_at g a c w t place

    kept_there : IsKept g a c w t (width_in f) place kind v
    kept_there = is_kept g a pushed needs place f c w k t b o placed r scalar lies v e

    fit_there : Fits f v
    fit_there = loaded_fits g a pushed needs place f c w k t b o placed r scalar lies v e

    h : HasOwn g t place kind bytes
    h = own g t place kind bytes known kept_there.bytes

    abbrev all : ℕ
    all = ored g t (byte_in g t h.first) h.behind

    sizes : number_in bytes (length (h.first ∷ h.behind)) 0 ≡ number_in bytes (size_of kind) 0
    sizes = ap (λ n. number_in bytes n 0) h.size

    down : all ≡ 0 → number_in bytes (size_of kind) 0 ≡ 0
    down none =
        let both = ored_none g t bytes h.behind (byte_in g t h.first) 1 h.covers.1 none in
        sym sizes ∙ omega (arith, both.0, both.1, h.covers.0.1)

    up : number_in bytes (size_of kind) 0 ≡ 0 → all ≡ 0
    up none =
        let whole : number_in bytes (length (h.first ∷ h.behind)) 0 ≡ 0 = sizes ∙ none in
        none_ored g t bytes h.behind (byte_in g t h.first) 1 h.covers.1 (omega (arith, whole, h.covers.0.1)) (omega (arith, whole))

    decided : (u : State) → IsOred t all u → IsDecided g a c w k t v u
    decided u x = record {
      kept = subst (λ z. Keeps g a c w k t c w k z) (sym x.only) (kept_later g a pushed needs c w k t placed r u.regs t.zp (λ i side. refl) (subst IsBytes x.only x.bytes));
      held = record { low = ap (λ (z : State). z.zp 10) x.only; high = ap (λ (z : State). z.zp 11) x.only };
      zero = λ truth is. x.z ∙ same_zero all (number_in bytes (size_of kind) 0) down up ∙ truth_tells g a pushed needs c w k t r place f v truth scalar fit_there kept_there.value is;
    }

    pub bytes_decide : Fits f v × Leads g a (all_zero_code (own_bytes (Kept place kind) (extent_of kind))) 526 t (IsDecided g a c w k t v)
    bytes_decide = (
      fit_there,
      subst (λ xs. Leads g a (all_zero_code xs) 526 t (IsDecided g a c w k t v)) (sym h.is)
          (leads_as g a (all_zero_code (h.first ∷ h.behind)) (2 + 2 * length h.behind) 526 t (IsOred t all) (IsDecided g a c w k t v) (omega (arith, h.size, most kind)) decided (zero_leads g a pushed needs c w k t placed r bytes h.first h.behind h.covers)),
    )

  -- the block stands at the symbol
  at_symbol : (s : Sym) (at : ℕ) → (q : Spot) → w b ≡ Some q → IsMeantThere g a c w t (Data s at) b o → IsAtSymbol g w (Data s at) b o
  at_symbol s at q stood meant =
      let x : IsRead f c.store b o v = is_read f c.store b o v e in
      by q stood (meant x.block q (record { is = x.is; live = x.live; place = stood })).1
    where
      by : (q : Spot) → w b ≡ Some q → At (located g.place s at) ≡ beyond q o → IsAtSymbol g w (Data s at) b o
      by (At p) stands there = let same : located g.place s at ≡ p + o = cc in (p, stands, omega (arith, same), λ low. omega (arith, same))
      by (Banked d i) stands there = absurd (cc)

  pub known_lies : (d : Destination) (place : Place) → IsKnown place → IsToldBy g a place c w (arrived_at d t) (values.Place b o) → LiesThere g a c w t place b o
  known_lies d (Bank i) known told = absurd told.2
  known_lies d (Far at) known told = absurd known
  known_lies Registers (Near at) known told = record { meant = told.0.1; symbol = tt; told = told.1 }
  known_lies Pointer (Near at) known told = record { meant = λ x q is. told.0.1 x q is; symbol = tt; told = told.1 }
  known_lies Registers (Data s at) known told = record { meant = told.0.1; symbol = at_symbol s at told.0.0.0 told.0.0.1 told.0.1; told = told.1 }
  known_lies Pointer (Data s at) known told = record { meant = λ x q is. told.0.1 x q is; symbol = at_symbol s at told.0.0.0 told.0.0.1 (λ x q is. told.0.1 x q is); told = told.1 }

  -- ---- a byte behind ptr1

  module _ (at : ℕ) (one : extent_of kind ≡ One) (told : IsToldBy g a (Far at) c w (arrived_at Pointer t) (values.Place b o)) where
    abbrev view : State
    view = arrived_at Pointer t

    abbrev there : ℕ → ℕ
    there = stored_at view (At (ax_of view + at))

    view_ready : Ready g a pushed needs c w k view
    view_ready = arrived_ready g a Pointer pushed needs c w k t placed r

    view_lies : LiesThere g a c w view (Far at) b o
    view_lies = record { meant = told.0.1; symbol = tt; told = tt }

    view_kept : IsKept g a c w view (width_in f) (Far at) kind v
    view_kept = is_kept g a pushed needs (Far at) f c w k view b o placed view_ready scalar view_lies v e

    view_fit : Fits f v
    view_fit = loaded_fits g a pushed needs (Far at) f c w k view b o placed view_ready scalar view_lies v e

    byte_may : CanLoad g view (At (ax_of view + at)) 1
    byte_may = subst (λ (x : Extent). CanLoad g view (At (ax_of view + at)) (bytes_of x)) one (can g a pushed needs (Far at) f c w k view b o placed view_ready scalar told.0.1 v e)

    byte_decides : (u : State) → IsBehind g a pushed needs c w k t placed r at told.1 One u → IsDecided g a c w k t v u
    byte_decides u x =
        let number : u.regs.a ≡ number_in there (size_of kind) 0 = x.loaded ∙ ap (λ n. number_in there n 0) (sym (size_one kind one)) in
        record { kept = x.kept; held = x.held; zero = λ truth is. x.zero ∙ ap (λ n. n == 0) number ∙ truth_tells g a pushed needs c w k view view_ready (Far at) f v truth scalar view_fit view_kept.value is }

    pub pointer_decides : Fits f v × Leads g a (behind_pointer_code at One) 526 t (IsDecided g a c w k t v)
    pointer_decides = (
      view_fit,
      leads_as g a (behind_pointer_code at One) 270 526 t (IsBehind g a pushed needs c w k t placed r at told.1 One) (IsDecided g a c w k t v) (omega arith) byte_decides (one_behind g a pushed needs c w k t placed r at told.1 byte_may),
    )
