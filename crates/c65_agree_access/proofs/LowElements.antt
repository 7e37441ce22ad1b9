-- The low byte of an element.
use Rattle.std.proofs.Common.{◌≡◌, ℕ, ◌+◌, ◌/◌, ◌%◌, ◌<◌, ◌≤◌, List, [], ◌∷◌, ◌++◌, Option, Some, refl, sym, ap, ◌∙◌, subst, arith}
use Rattle.std.specs.Prelude.{Ok, length}
use Rattle.c65_ints.specs.declared.types.IntType.{IntType}
use Rattle.c65_ints.specs.declared.types.IntType.TheVariants as I
use Rattle.c65_ctype.specs.Sizes.{bytes_of}
use Rattle.c65_csem.specs.Trees.{load}
use Rattle.c65_csem_need.specs.Needs.{need}
use Rattle.c65_meaning.specs.Store as values
use Rattle.c65_meaning.specs.Store.{Value, Whole, Null, Opaque, Cells, NoValue, Number, block_size, read}
use Rattle.c65_meaning.specs.Fits.{Fits}
use Rattle.c65_meaning.specs.Items.{Fetch, plan}
use Rattle.c65_meaning.specs.Shapes.{place_shape}
use Rattle.c65_meaning.specs.State.{Scene, Running}
use Rattle.c65_mach.specs.declared.rows.Op.TheVariants.{Lda}
use Rattle.c65_code.specs.declared.line.Line.{Line}
use Rattle.c65_code.specs.declared.routine.Width.TheVariants.{Ax}
use Rattle.c65_code.specs.LineState.{State}
use Rattle.c65_code.specs.Placement.{IsPlacement, located}
use Rattle.c65_code.specs.Rows.{primary_of}
use Rattle.c65_genwide.specs.Wide.{width_of}
use Rattle.c65_genload.specs.declared.places.Place.TheVariants.{Data}
use Rattle.c65_genload.specs.Conversions.{size_of}
use Rattle.c65_genload.specs.Places.{extent_of}
use Rattle.c65_gendirect.specs.declared.bytes.OperandByte.{OperandByte}
use Rattle.c65_genexpr.specs.declared.destination.Destination.TheVariants.{Pointer}
use Rattle.c65_genexpr.specs.declared.elements.Element.{Element}
use Rattle.c65_genexpr.specs.declared.wanted.Wanted.TheVariants.{Value as wanted_value}
use Rattle.c65_genexpr.specs.Comparing.{low_code}
use Rattle.c65_genexpr.specs.Elements.{by_index, element_at, element_or, element_byte_code}
use Rattle.c65_genexpr.specs.Lows.{behind_pointer, low_load_by}
use Rattle.c65_genexpr.specs.Places.{place_of}
use Rattle.c65_genexpr.specs.Types.{access_of}
use Rattle.c65_genexpr.specs.Code.{base_code, node_code, index_code}
use Rattle.c65_ctype.specs.Views.{types_of}
use Rattle.c65_agree_store.specs.Stands.{Spot, At, Placing, Banks, stored_at}
use Rattle.c65_agree_store.specs.Laws.{number_in}
use Rattle.c65_agree_state.specs.World.{World, unit_in, Active, place_in}
use Rattle.c65_agree_state.specs.Follows.{Follows}
use Rattle.c65_agree_state.specs.Exprs.{Ready, Valued, ResultIs, shape_in}
use Rattle.c65_agree_state.proofs.Followed.{follows_weaken}
use Rattle.c65_agree_numbers.specs.Words.{word_of, narrowed}
use Rattle.c65_agree_put.proofs.Fits.{may_fit}
use Rattle.c65_agree_assign.specs.Places.{kind_in}
use Rattle.c65_agree_frame.specs.Leads.{Leads}
use Rattle.c65_agree_frame.proofs.Leads.{leads_as}
use Rattle.c65_agree_load.specs.Loads.{CanLoad, IsMeantThere}
use Rattle.c65_agree_load.proofs.Fetched.{size_of_kind, fits, can, result}
use Rattle.c65_agree_direct.proofs.Bytes.{sizes_agree, read_byte}
use Rattle.c65_agree_operate.specs.Manners.{Manner}
use Rattle.c65_agree_order.specs.Bytes.{ByteIs}
use Rattle.c65_agree_access.specs.LoadLaws.{IsWhole}
use Rattle.c65_agree_access.proofs.Wholes.{places_are_whole}
use Rattle.c65_agree_access.specs.ElementLaws.{LowElementLoadsDo, LowElementLinesAre}
use Rattle.c65_agree_access.proofs.ElementNeeds.{element_needs}
use Rattle.c65_agree_access.proofs.ByIndex.{IsOther, IsShort, one_by_index, meant}
use Rattle.c65_agree_access.proofs.ElementLoads.{IsAt, element_is, element_follows}

-- numbers of one byte or two stand in AX, and have a first byte
record IsNarrow (kind : IntType) : Type 0 where
  register : width_of kind ≡ Ax
  some : 0 < size_of kind
  few : bytes_of kind ≤ 2

is_narrow : (kind : IntType) → IsShort (extent_of kind) → IsNarrow kind
is_narrow I.SChar h = record { register = refl; some = omega arith; few = omega arith }
is_narrow I.UChar h = record { register = refl; some = omega arith; few = omega arith }
is_narrow I.Short h = record { register = refl; some = omega arith; few = omega arith }
is_narrow I.UShort h = record { register = refl; some = omega arith; few = omega arith }
is_narrow I.Int h = record { register = refl; some = omega arith; few = omega arith }
is_narrow I.UInt h = record { register = refl; some = omega arith; few = omega arith }
is_narrow I.Long h = absurd h
is_narrow I.ULong h = absurd h

module _ (g : World) (a : Active) (m : Manner) (pushed needs : ℕ) (kind : IntType) (c : Scene) (w : Placing) (k : Banks) (t : State) (placed : IsPlacement g.code g.place) (r : Ready g a pushed needs c w k t) (short : IsShort (extent_of kind)) (x : Element) (b o : ℕ) (v : Value) (e : read (Number kind) c.store b o ≡ Ok v)
    (stands : w b ≡ Some (At (g.place.address x.sym.0))) (inside : o ≤ block_size c.store b) (reached : t.regs.y + x.at ≡ o) where
  abbrev spot : Spot
  spot = At (located g.place x.sym o)

  abbrev bytes : ℕ → ℕ
  bytes = stored_at t spot

  there : IsMeantThere g a c w t (Data x.sym o) b o
  there = meant g a m pushed needs (Number kind) c w k t placed r tt x b o v e stands inside reached

  byte_below : (p : ℕ) → bytes p < 256
  byte_below p = r.joins.bytes.mem (located g.place x.sym o + p)

  -- the low byte of the number is the first one
  first_is : (n : ℕ) → n ≡ bytes 0 → ByteIs v n
  first_is n is = go v e (result g a pushed needs (Data x.sym o) (Number kind) c w k t b o placed r tt there v e sample all)
    where
      number : ℕ
      number = narrowed kind (number_in bytes (bytes_of kind) 0)

      -- a state that has it in AX
      sample : State
      sample = record t { regs = record t.regs { a = number % 256; x = number / 256 } }

      all : primary_of (width_of kind) sample ≡ number
      all = subst (λ width. primary_of width sample ≡ number) (sym (is_narrow kind short).register) (omega arith)

      go : (y : Value) → read (Number kind) c.store b o ≡ Ok y → ResultIs Valued w (width_of kind) y sample → ByteIs y n
      go (Whole z) f value =
          let word : narrowed kind (number_in bytes (size_of kind) 0) ≡ word_of kind z = ap (λ l. narrowed kind (number_in bytes l 0)) (sizes_agree kind) ∙ (sym all ∙ value) in
          is ∙ sym (read_byte kind bytes z 0 byte_below word (is_narrow kind short).some)
      go Null f value = tt
      go (values.Place d p) f value = tt
      go Opaque f value = tt
      go (Cells xs) f value = tt
      go NoValue f value = tt

  low_fetched : Fits (Number kind) v × Leads g a (by_index Lda x.sym x.at ∷ []) 526 t (IsOther g a m c w k t (λ u. ByteIs v u.regs.a))
  low_fetched =
      let reach : CanLoad g t spot 1 = λ i lt. can g a pushed needs (Data x.sym o) (Number kind) c w k t b o placed r tt there v e i (omega (arith, lt, size_of_kind kind, sizes_agree kind, (is_narrow kind short).some)) in (
        fits g a pushed needs (Data x.sym o) (Number kind) c w k t b o placed r tt there v e,
        leads_as g a (by_index Lda x.sym x.at ∷ []) 270 526 t (IsOther g a m c w k t (λ u. u.regs.a ≡ number_in bytes 1 0)) (IsOther g a m c w k t (λ u. ByteIs v u.regs.a)) (omega arith)
            (λ u h. record { kept = h.kept; left = h.left; so = first_is u.regs.a (h.so ∙ omega arith) })
            (one_by_index g a m pushed needs c w k t placed r x o reached reach),
      )

-- ---- the laws

pub low_element_loads_do : LowElementLoadsDo
low_element_loads_do g a m pushed fresh t e x kind shape placed parts tree plain is number light does n weight p k vs c w b s seen has r turned rest =
    let whole : IsWhole g a e = places_are_whole g a e parts tree.1 plain in
    let at : IsAt a e x kind (kind_in (shape_in g a e)) = element_is g a e x kind whole is in
    let short : IsShort (extent_of shape) = subst (λ f. IsShort (extent_of (kind_in f))) number at.short in
    let index : List Line = index_code a.frame pushed fresh e in
    let fetches : place_shape (unit_in g).types e ≡ Number shape = whole.shape ∙ number in
    subst (λ f. Follows g n weight (Running (plan (unit_in g) e (Fetch f ∷ k)) vs c) (place_in g a p) s seen) (sym fetches)
    (element_follows g a m (Number shape) (plan (unit_in g) e) (need e) pushed (element_needs a.frame e x at.is) x placed light index (by_index Lda x.sym x.at ∷ []) (λ c2 w2 v u. ByteIs v u.regs.a) tt
    (λ c2 w2 b2 u d o v ready e2 stands inside reached. low_fetched g a m pushed (need e) shape c2 w2 b2 u placed ready short x d o v e2 stands inside reached)
    n weight p k vs c w b s has r (λ j v c2 w2 b2 u later lt kept fit byte left turned2.
    follows_weaken g j (weight + 2600 + m.over) (weight + 2700 + m.over) (Running k (v ∷ vs) c2) (place_in g a (p + length (index ++ element_byte_code x))) u later (omega arith)
    (rest j v c2 w2 b2 u later lt kept (may_fit (Number shape) v tt fit) tt byte left turned2))
    seen turned (does x pushed fresh at.is))

pub low_element_lines_are : LowElementLinesAre
low_element_lines_are f pushed fresh t e x kind far is =
    let base : List Line = base_code f pushed fresh Pointer e in
    let other : List Line = node_code f pushed fresh wanted_value t (load e) in
    let loads : List Line = low_load_by (behind_pointer (place_of f pushed e) (access_of (types_of f.parts.types) e)) base other in
    ap (λ (d : Option OperandByte). low_code d (element_or (element_at f e) (λ y. index_code f pushed fresh e ++ element_byte_code y.0) loads)) far
    ∙ ap (λ (o : Option (Element × IntType)). element_or o (λ y. index_code f pushed fresh e ++ element_byte_code y.0) loads) is
