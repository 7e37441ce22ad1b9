-- The results of calls that give nothing, or a structure or union.
use Rattle.std.proofs.Common.{◌≡◌, ℕ, zero, suc, ◌<◌, ◌≤◌, ◌⊎◌, inl, inr, [], refl, sym, ap, ◌∙◌, subst, arith}
use Rattle.std.specs.Prelude.{IsTrue}
use Rattle.c65_ctype.specs.Trees.{Ty, QTy, TypesTy, void, int, pointer, array, tag, function, type_in}
use Rattle.c65_ctype.specs.Sizes.{size_of}
use Rattle.c65_ctype.specs.Views.{types_of}
use Rattle.c65_csem.specs.declared.items.Parts.{Parts}
use Rattle.c65_csem.specs.Places.{plain, is_scalar, is_small}
use Rattle.c65_csem.specs.Typed.{IsSmall, IsResult}
use Rattle.c65_csem.specs.Typed as typed
use Rattle.c65_csem.specs.Trees.{UnitTy}
use Rattle.c65_meaning.specs.Store.{Value, Shape, Area}
use Rattle.c65_meaning.specs.Shapes.{shape_of}
use Rattle.c65_code.specs.declared.parts.Part.{Part}
use Rattle.c65_code.specs.declared.parts.Part.TheVariants.{A, X, Zp}
use Rattle.c65_code.specs.declared.parts.RegSet.{RegSet}
use Rattle.c65_code.specs.Parts.{has_part}
use Rattle.c65_code.specs.LineState.{State, Same, sp_of, eax_of}
use Rattle.c65_code.specs.Moves.{common_of}
use Rattle.c65_code.specs.Placement.{IsPlacement}
use Rattle.c65_genframe.specs.Sizes.{bytes_or}
use Rattle.c65_genframe.specs.Frames.{type_bytes}
use Rattle.c65_genframe.specs.Registers.{registers}
use Rattle.c65_genexpr.specs.Types.{outcome_of, given_bytes}
use Rattle.c65_genexpr.specs.Calls.{result_code}
use Rattle.c65_agree_store.specs.Laws.{byte_of}
use Rattle.c65_agree_store.specs.Stands.{Placing}
use Rattle.c65_agree_state.specs.World.{World, unit_in, Active}
use Rattle.c65_agree_state.specs.Exprs.{Kept, Valued, MayFit, ResultIs, width_in}
use Rattle.c65_agree_state.proofs.Leaves.{scratch_is_kept, with_regs}
use Rattle.c65_agree_frame.specs.Ends.{IsPrimary}
use Rattle.c65_agree_frame.proofs.Leads.{none_leads, leads_as}
use Rattle.c65_agree_put.specs.Laws.{IsScalar}
use Rattle.c65_agree_invoke.specs.Nodes.{gives_in, ResultsCome}
use Rattle.c65_agree_invoke.proofs.Results.{scalars_come_back}
use Rattle.c65_agree_structures.specs.Results.{NothingComesBack, StructuresComeBack, ResultsComeBack}
use Rattle.c65_agree_structures.proofs.Sizes.{Small, small_type}
use Rattle.c65_agree_structures.proofs.Cells.{cells_move, area_by}

-- what both give is as it was
abbrev AreGiven : RegSet → State → State → Type 0
AreGiven common last u = (part : Part) → IsPrimary part → IsTrue (has_part common part) → Same part last u

module _ (g : World) (a : Active) (placed : IsPlacement g.code g.place) where
  -- the value is there as it was
  stays : (f : Shape) (common : RegSet) → ((w : Placing) (v : Value) (last u : State) → MayFit Valued f v → AreGiven common last u → ResultIs Valued w (width_in f) v last → ResultIs Valued w (width_in f) v u) → ResultsCome g a f common []
  stays f common same pushed c w k v last u r fits is given =
      leads_as g a [] 0 256 u (λ x. Kept g a c w k u c w k x × ResultIs Valued w (width_in f) v x) (λ x. Kept g a c w k u c w k x × ResultIs Valued w (width_in f) v x) (omega arith) (λ x h. h)
      (none_leads g a u (λ x. Kept g a c w k u c w k x × ResultIs Valued w (width_in f) v x) (scratch_is_kept g a pushed 0 c w k u u placed r (with_regs (sp_of u) u u.regs r.joins.bytes) refl, same w v last u fits given is))

  -- ---- nothing

  none_comes : (common : RegSet) → ResultsCome g a (Area 0) common []
  none_comes common = stays (Area 0) common none
    where
      none : (w : Placing) (v : Value) (last u : State) → MayFit Valued (Area 0) v → AreGiven common last u → ResultIs Valued w (width_in (Area 0)) v last → ResultIs Valued w (width_in (Area 0)) v u
      none w v last u fits given is = subst (λ x. ResultIs Valued w (width_in (Area 0)) x u) (sym fits) tt

  abbrev Comes : Ty → RegSet → Type 0
  Comes t common = ResultsCome g a (shape_of (unit_in g).types t) common (result_code (outcome_of a.frame t))

  -- ---- from 1 to 4 bytes

  low_bytes : (size : ℕ) → size ≤ 4 → (last u : State) → AreGiven (common_of (registers size) (registers size)) last u → (i : ℕ) → i < size → byte_of i (eax_of last) ≡ byte_of i (eax_of u)
  low_bytes zero most last u given i lt = absurd (omega (arith, lt))
  low_bytes (suc zero) most last u given zero lt = let first = given A tt refl in omega (arith, first)
  low_bytes (suc zero) most last u given (suc i) lt = absurd (omega (arith, lt))
  low_bytes (suc (suc zero)) most last u given zero lt = let first = given A tt refl in omega (arith, first)
  low_bytes (suc (suc zero)) most last u given (suc zero) lt = let first = given A tt refl in let second = given X tt refl in omega (arith, first, second)
  low_bytes (suc (suc zero)) most last u given (suc (suc i)) lt = absurd (omega (arith, lt))
  low_bytes (suc (suc (suc more))) most last u given i lt =
      let first = given A tt refl in
      let second = given X tt refl in
      let third = given (Zp 2) (inl refl) refl in
      let fourth = given (Zp 3) (inr refl) refl in
      let same : eax_of last ≡ eax_of u = omega (arith, first, second, third, fourth) in
      ap (byte_of i) same

  area : (size : ℕ) → 1 ≤ size → size ≤ 4 → ResultsCome g a (Area size) (common_of (registers size) (registers size)) []
  area size least most = stays (Area size) (common_of (registers size) (registers size)) (λ w v last u fits given is. moves w v last u fits given is)
    where
      moves : (w : Placing) (v : Value) (last u : State) → MayFit Valued (Area size) v → AreGiven (common_of (registers size) (registers size)) last u → ResultIs Valued w (width_in (Area size)) v last → ResultIs Valued w (width_in (Area size)) v u
      moves w v last u fits given is =
          area_by size least (λ x. ResultIs Valued w (width_in (Area size)) x last → ResultIs Valued w (width_in (Area size)) x u)
          (λ xs known is_x. cells_move w xs (eax_of last) (eax_of u) (λ i lt. low_bytes size most last u given i (omega (arith, lt, known))) is_x) (λ is_x. tt) v fits is

pub nothing_comes_back : NothingComesBack
nothing_comes_back g a t common placed e = subst (λ ty. Comes g a placed ty common) (sym e) (none_comes g a placed common)

module _ (g : World) (a : Active) (placed : IsPlacement g.code g.place) where
  by_tag : (t : Ty) (gives : RegSet) → a.frame.parts ≡ g.parts → IsTrue (is_small (unit_in g).types t) → gives ≡ registers (given_bytes (outcome_of a.frame t)) → Comes g a placed t (common_of (registers (given_bytes (outcome_of a.frame t))) gives)
  by_tag (tag n) gives parts is same =
      let small : Small (unit_in g).types (tag n) = small_type (unit_in g).types (tag n) is in
      let size = size_of (unit_in g).types (tag n) in
      let bytes : type_bytes a.frame (tag n) ≡ size = ap (λ (p : Parts). bytes_or (types_of p.types) (tag n) 0) parts ∙ small.bytes in
      subst (λ r. ResultsCome g a (Area size) (common_of (registers (type_bytes a.frame (tag n))) r) []) (sym same)
      (subst (λ b. ResultsCome g a (Area size) (common_of (registers b) (registers b)) []) (sym bytes) (area g a placed size small.least small.most))
  by_tag void gives parts is same = absurd cc
  by_tag (int k) gives parts is same = absurd cc
  by_tag (pointer q) gives parts is same = absurd cc
  by_tag (array q n) gives parts is same = absurd cc
  by_tag (function f) gives parts is same = absurd cc

pub structures_come_back : StructuresComeBack
structures_come_back g a t gives placed parts is same = by_tag g a placed (type_in t) gives parts is same

-- ---- all

scalar_shape : (types : TypesTy) (t : Ty) → IsTrue (is_scalar t) → IsScalar (shape_of types t)
scalar_shape types (int k) is = tt
scalar_shape types (pointer q) is = tt
scalar_shape types void is = absurd cc
scalar_shape types (array q n) is = absurd cc
scalar_shape types (tag n) is = absurd cc
scalar_shape types (function f) is = absurd cc

-- nothing, a number or pointer, or a structure or union
which : (u : UnitTy) {t : QTy} → IsResult u t → ((t ≡ plain void) ⊎ typed.IsScalar t) ⊎ IsSmall u t
which u IsResult.nothing = inl (inl refl)
which u (IsResult.scalar is) = inl (inr is)
which u (IsResult.structure is) = inr is

pub results_come_back : ResultsComeBack
results_come_back g a t gives placed parts is same = go (which (unit_in g) is)
  where
    go : ((t ≡ plain void) ⊎ typed.IsScalar t) ⊎ IsSmall (unit_in g) t → ResultsCome g a (shape_of (unit_in g).types (type_in t)) (common_of (gives_in a.frame t) gives) (result_code (outcome_of a.frame (type_in t)))
    go (inl (inl e)) = nothing_comes_back g a t (common_of (gives_in a.frame t) gives) placed (ap type_in e)
    go (inl (inr h)) = scalars_come_back g a t gives placed (scalar_shape (unit_in g).types (type_in t) h.0) same
    go (inr h) = structures_come_back g a t gives placed parts h.0 same
