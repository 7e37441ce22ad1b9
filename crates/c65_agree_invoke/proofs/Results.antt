-- The result of a call comes to the primary register.
use Rattle.std.proofs.Common.{◌≡◌, ℕ, ◌+◌, ◌%◌, ◌⊎◌, inl, inr, false, List, [], ◌∷◌, refl, sym, ap, ◌∙◌, subst, arith}
use Rattle.std.specs.Prelude.{IsTrue, if◌then◌else◌, nat_lt}
use Rattle.c65_ints.specs.declared.types.IntType.{IntType}
use Rattle.c65_ints.specs.declared.types.IntType.TheVariants as I
use Rattle.c65_ctype.specs.Trees.{Ty, void, int, pointer, array, tag, function, type_in}
use Rattle.c65_mach.specs.declared.rows.Op.TheVariants.{Ldx}
use Rattle.c65_mach.specs.State.{Regs}
use Rattle.c65_mach.specs.Step.{apply}
use Rattle.c65_meaning.specs.Store.{Value, Whole, Null, Place, Opaque, Cells, NoValue, Shape, Number, Field, Pointer, Area}
use Rattle.c65_meaning.specs.Fits.{Fits}
use Rattle.c65_meaning.specs.Shapes.{shape_of}
use Rattle.c65_meaning.specs.State.{Scene}
use Rattle.c65_code.specs.declared.line.Line.{Line}
use Rattle.c65_code.specs.declared.parts.Part.{Part}
use Rattle.c65_code.specs.declared.parts.Part.TheVariants.{A, X, Zp}
use Rattle.c65_code.specs.declared.parts.RegSet.{RegSet}
use Rattle.c65_code.specs.declared.routine.Routine.TheVariants.{SignA}
use Rattle.c65_code.specs.Parts.{has_part}
use Rattle.c65_code.specs.Effects.{only_a, ax, eax}
use Rattle.c65_code.specs.LineState.{State, Same, sp_of, ax_of, eax_of, IsBytes}
use Rattle.c65_code.specs.Moves.{common_of}
use Rattle.c65_code.specs.Numbers.{words_of}
use Rattle.c65_code.specs.Placement.{IsPlacement}
use Rattle.c65_code.specs.Rows.{primary_of}
use Rattle.c65_genframe.specs.Registers.{registers}
use Rattle.c65_genwide.specs.Lines.{value, call}
use Rattle.c65_genwide.specs.Wide.{width_of}
use Rattle.c65_genexpr.specs.Types.{outcome_of, given_bytes}
use Rattle.c65_genexpr.specs.Calls.{result_code}
use Rattle.c65_agree_store.specs.Stands.{Placing, Banks, ValueIs}
use Rattle.c65_agree_numbers.specs.Words.{signed_byte}
use Rattle.c65_agree_numbers.proofs.Ranges.{words_in_range_stay}
use Rattle.c65_agree_state.specs.World.{World, unit_in, Active}
use Rattle.c65_agree_state.specs.Exprs.{Ready, Kept, Valued, MayFit, ResultIs, width_in}
use Rattle.c65_agree_state.proofs.Followed.{ready_is_calm}
use Rattle.c65_agree_state.proofs.Leaves.{scratch_is_kept, with_regs}
use Rattle.c65_agree_rows.specs.Rows.{SignedByte, IsWidened}
use Rattle.c65_agree_rows.specs.Laws.{IsKeptWith}
use Rattle.c65_agree_rows.proofs.Loads.{widenings_run}
use Rattle.c65_agree_put.specs.Laws.{IsScalar}
use Rattle.c65_agree_put.proofs.Fits.{fits_or_none}
use Rattle.c65_agree_frame.specs.Leads.{IsOn}
use Rattle.c65_agree_frame.specs.Ends.{IsPrimary}
use Rattle.c65_agree_frame.proofs.Leads.{none_leads, leads_as, kept_regs, lines_lead}
use Rattle.c65_agree_load.proofs.Kept.{runs_lead}
use Rattle.c65_agree_invoke.specs.Nodes.{ResultsCome, ScalarsComeBack}

-- ---- values

-- what both give is as it was
abbrev AreGiven : RegSet → State → State → Type 0
AreGiven common last u = (part : Part) → IsPrimary part → IsTrue (has_part common part) → Same part last u

no_cells : (f : Shape) (v : Value) → IsScalar f → Fits f v → (w : Placing) (last u : State) → primary_of (width_in f) last ≡ primary_of (width_in f) u → ResultIs Valued w (width_in f) v last → ResultIs Valued w (width_in f) v u
no_cells f (Whole z) s fits w last u same is = subst (λ n. ValueIs w (words_of (width_in f)) (Whole z) n) same is
no_cells f Null s fits w last u same is = subst (λ n. ValueIs w (words_of (width_in f)) Null n) same is
no_cells f (Place b o) s fits w last u same is = subst (λ n. ValueIs w (words_of (width_in f)) (Place b o) n) same is
no_cells f Opaque s fits w last u same is = tt
no_cells f NoValue s fits w last u same is = tt
no_cells (Number t) (Cells xs) s fits w last u same is = absurd fits
no_cells (Pointer size) (Cells xs) s fits w last u same is = absurd fits
no_cells (Field t low width) (Cells xs) s fits w last u same is = absurd s
no_cells (Area size) (Cells xs) s fits w last u same is = absurd s

value_moves : (f : Shape) (v : Value) → IsScalar f → MayFit Valued f v → (w : Placing) (last u : State) → primary_of (width_in f) last ≡ primary_of (width_in f) u → ResultIs Valued w (width_in f) v last → ResultIs Valued w (width_in f) v u
value_moves f v s fits w last u same is = go (fits_or_none f v s fits)
  where
    go : Fits f v ⊎ (v ≡ NoValue) → ResultIs Valued w (width_in f) v u
    go (inl h) = no_cells f v s h w last u same is
    go (inr e) = subst (λ x. ResultIs Valued w (width_in f) x u) (sym e) tt

-- ---- words and long words

words_given : (last u : State) → AreGiven (common_of ax ax) last u → ax_of last ≡ ax_of u
words_given last u given = let a = given A tt refl in let x = given X tt refl in omega (arith, a, x)

longs_given : (last u : State) → AreGiven (common_of eax eax) last u → eax_of last ≡ eax_of u
longs_given last u given =
    let a = given A tt refl in
    let x = given X tt refl in
    let low = given (Zp 2) (inl refl) refl in
    let high = given (Zp 3) (inr refl) refl in
    omega (arith, a, x, low, high)

module _ (g : World) (a : Active) (placed : IsPlacement g.code g.place) where
  -- the value is there as it was
  none_behind : (f : Shape) (common : RegSet) → IsScalar f → ((last u : State) → AreGiven common last u → primary_of (width_in f) last ≡ primary_of (width_in f) u) → ResultsCome g a f common []
  none_behind f common scalar same pushed c w k v last u r fits is given =
      leads_as g a [] 0 256 u (λ x. Kept g a c w k u c w k x × ResultIs Valued w (width_in f) v x) (λ x. Kept g a c w k u c w k x × ResultIs Valued w (width_in f) v x) (omega arith) (λ x h. h)
      (none_leads g a u (λ x. Kept g a c w k u c w k x × ResultIs Valued w (width_in f) v x) (scratch_is_kept g a pushed 0 c w k u u placed r (with_regs (sp_of u) u u.regs r.joins.bytes) refl, value_moves f v scalar fits w last u (same last u given) is))

-- ---- characters

module _ (w : Placing) (last u x : State) where
  unsigned_is : (v : Value) → MayFit Valued (Number I.UChar) v → ResultIs Valued w (width_of I.UChar) v last → ax_of u % 256 ≡ ax_of last % 256 → ax_of x ≡ ax_of u % 256 → ResultIs Valued w (width_of I.UChar) v x
  unsigned_is (Whole z) fits is low there = there ∙ (low ∙ (ap (λ n. n % 256) is ∙ words_in_range_stay I.UChar z fits))
  unsigned_is Null fits is low there = absurd fits
  unsigned_is (Place b o) fits is low there = absurd fits
  unsigned_is Opaque fits is low there = tt
  unsigned_is (Cells xs) fits is low there = absurd fits
  unsigned_is NoValue fits is low there = tt

  signed_is : (v : Value) → MayFit Valued (Number I.SChar) v → ResultIs Valued w (width_of I.SChar) v last → ax_of u % 256 ≡ ax_of last % 256 → ax_of x ≡ signed_byte (ax_of u) → ResultIs Valued w (width_of I.SChar) v x
  signed_is (Whole z) fits is low there =
      let alike : signed_byte (ax_of u) ≡ signed_byte (ax_of last) = ap (λ n. if nat_lt 127 n then n + 65280 else n) low in
      there ∙ (alike ∙ (ap signed_byte is ∙ words_in_range_stay I.SChar z fits))
  signed_is Null fits is low there = absurd fits
  signed_is (Place b o) fits is low there = absurd fits
  signed_is Opaque fits is low there = tt
  signed_is (Cells xs) fits is low there = absurd fits
  signed_is NoValue fits is low there = tt

module _ (g : World) (a : Active) (placed : IsPlacement g.code g.place) where
  on : (pushed : ℕ) (c : Scene) (w : Placing) (k : Banks) (u : State) → Ready g a pushed 0 c w k u → IsOn g u
  on pushed c w k u r = record { stacks = ready_is_calm g a pushed 0 c w k u r; running = r.joins.ended }

  -- A alone is as it was
  low_given : (last u : State) → AreGiven (common_of only_a only_a) last u → ax_of u % 256 ≡ ax_of last % 256
  low_given last u given = let same = given A tt refl in omega (arith, same)

  unsigned_comes : ResultsCome g a (Number I.UChar) (common_of only_a only_a) (value Ldx 0 ∷ [])
  unsigned_comes pushed c w k v last u r fits is given =
      let regs : Regs = apply false Ldx 0 u.regs in
      leads_as g a (value Ldx 0 ∷ []) 1 256 u (λ x. (x ≡ record u { regs = regs }) × IsBytes x) (λ x. Kept g a c w k u c w k x × ResultIs Valued w (width_of I.UChar) v x) (omega arith)
      (λ x h. rw h.0 (
        scratch_is_kept g a pushed 0 c w k u (record u { regs = regs }) placed r (with_regs (sp_of u) u regs (subst IsBytes h.0 h.1)) refl,
        unsigned_is w last u (record u { regs = regs }) v fits is (low_given last u given) (omega (arith, r.joins.bytes.a)),
      ))
      (lines_lead g a (value Ldx 0 ∷ []) u placed (on pushed c w k u r) (refl, tt, omega arith, kept_regs u regs, tt))

  signed_comes : ResultsCome g a (Number I.SChar) (common_of only_a only_a) (call SignA ∷ [])
  signed_comes pushed c w k v last u r fits is given =
      leads_as g a (call SignA ∷ []) 256 256 u (IsKeptWith g a c w k u (IsWidened SignedByte u)) (λ x. Kept g a c w k u c w k x × ResultIs Valued w (width_of I.SChar) v x) (omega arith)
      (λ x h. (h.kept, signed_is w last u x v fits is (low_given last u given) h.result))
      (runs_lead g a pushed 0 c w k u SignA (IsKeptWith g a c w k u (IsWidened SignedByte u)) (omega arith) r (widenings_run g a pushed 0 c w k u SignedByte placed r))

  -- ---- by type

  -- the function gives as much as the call
  abbrev Comes : Ty → Type 0
  Comes t = (gives : RegSet) → IsScalar (shape_of (unit_in g).types t) → gives ≡ registers (given_bytes (outcome_of a.frame t)) → ResultsCome g a (shape_of (unit_in g).types t) (common_of (registers (given_bytes (outcome_of a.frame t))) gives) (result_code (outcome_of a.frame t))

  as_much : (f : Shape) (mine gives : RegSet) (after : List Line) → gives ≡ mine → ResultsCome g a f (common_of mine mine) after → ResultsCome g a f (common_of mine gives) after
  as_much f mine gives after same comes = subst (λ r. ResultsCome g a f (common_of mine r) after) (sym same) comes

  number_comes : (kind : IntType) → Comes (int kind)
  number_comes I.SChar gives scalar same = as_much (Number I.SChar) only_a gives (call SignA ∷ []) same signed_comes
  number_comes I.UChar gives scalar same = as_much (Number I.UChar) only_a gives (value Ldx 0 ∷ []) same unsigned_comes
  number_comes I.Short gives scalar same = as_much (Number I.Short) ax gives [] same (none_behind g a placed (Number I.Short) (common_of ax ax) tt words_given)
  number_comes I.UShort gives scalar same = as_much (Number I.UShort) ax gives [] same (none_behind g a placed (Number I.UShort) (common_of ax ax) tt words_given)
  number_comes I.Int gives scalar same = as_much (Number I.Int) ax gives [] same (none_behind g a placed (Number I.Int) (common_of ax ax) tt words_given)
  number_comes I.UInt gives scalar same = as_much (Number I.UInt) ax gives [] same (none_behind g a placed (Number I.UInt) (common_of ax ax) tt words_given)
  number_comes I.Long gives scalar same = as_much (Number I.Long) eax gives [] same (none_behind g a placed (Number I.Long) (common_of eax eax) tt longs_given)
  number_comes I.ULong gives scalar same = as_much (Number I.ULong) eax gives [] same (none_behind g a placed (Number I.ULong) (common_of eax eax) tt longs_given)

  comes : (t : Ty) → Comes t
  comes void gives scalar same = absurd scalar
  comes (int kind) gives scalar same = number_comes kind gives scalar same
  comes (pointer q) gives scalar same = as_much (shape_of (unit_in g).types (pointer q)) ax gives [] same (none_behind g a placed (shape_of (unit_in g).types (pointer q)) (common_of ax ax) tt words_given)
  comes (array q n) gives scalar same = absurd scalar
  comes (tag n) gives scalar same = absurd scalar
  comes (function f) gives scalar same = absurd scalar

pub scalars_come_back : ScalarsComeBack
scalars_come_back g a t gives placed scalar same = comes g a placed (type_in t) gives scalar same
