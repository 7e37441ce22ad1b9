-- A number or a pointer that is tested where it lies.
use Rattle.std.proofs.Common.{◌≡◌, ℕ, zero, suc, ◌+◌, ◌*◌, ◌%◌, ◌<◌, ◌≤◌, List, [], ◌∷◌, ◌++◌, Some, Bool, true, false, ℤ, pos, negsuc, refl, sym, ap, ◌∙◌, subst, arith, length-append}
use Rattle.std.specs.Prelude.{◌==◌, not, if◌then◌else◌, Ok, Err, length}
use Rattle.std.specs.Bool.{beq}
use Rattle.std.proofs.lemmas.Bool.{eqb-true}
use Rattle.std.proofs.lemmas.Int.{ints}
use Rattle.c65_ints.specs.declared.types.IntType.{IntType}
use Rattle.c65_ints.specs.declared.types.IntType.TheVariants as I
use Rattle.c65_ints.specs.Ranges.{modulus_of, residue, InRange}
use Rattle.c65_mach.specs.declared.rows.Op.{Op}
use Rattle.c65_mach.specs.declared.rows.Op.TheVariants.{Beq, Bne}
use Rattle.c65_mach.specs.Step.{is_taken, is_not}
use Rattle.c65_csem.specs.Trees.{node, load}
use Rattle.c65_meaning.specs.declared.action.Action.TheVariants.{EndedObject}
use Rattle.c65_meaning.specs.Why.{By}
use Rattle.c65_meaning.specs.Store as values
use Rattle.c65_meaning.specs.Store.{Store, Value, Whole, Null, Opaque, Cells, NoValue, Shape, Number, Field, Pointer, Area, is_live}
use Rattle.c65_meaning.specs.Fits.{Fits}
use Rattle.c65_meaning.specs.Items.{Item}
use Rattle.c65_meaning.specs.Operators.{truth_of}
use Rattle.c65_meaning.specs.State as meaning
use Rattle.c65_meaning.specs.State.{Scene, Running}
use Rattle.c65_meaning.specs.Step.{steps}
use Rattle.c65_code.specs.declared.line.Line.{Line}
use Rattle.c65_code.specs.LineState.{State, IsBytes}
use Rattle.c65_code.specs.Placement.{IsPlacement}
use Rattle.c65_code.specs.Forms.{Branch, form_of}
use Rattle.c65_code.specs.Moves.{labelled}
use Rattle.c65_code.specs.Comes.{Seen, seen_at}
use Rattle.c65_genload.specs.declared.places.Place.{Place}
use Rattle.c65_genload.specs.declared.places.Place.TheVariants.{Bank, Near, Data, Far}
use Rattle.c65_genload.specs.Conversions.{size_of}
use Rattle.c65_genload.specs.Places.{extent_of}
use Rattle.c65_genload.specs.Words.{branch}
use Rattle.c65_gendirect.specs.declared.bytes.OperandByte.{OperandByte}
use Rattle.c65_gendirect.specs.declared.direct.Direct.TheVariants.{Kept}
use Rattle.c65_gendirect.specs.Bytes.{place_byte}
use Rattle.c65_gendirect.specs.Tests.{all_zero_code, zero_test_code}
use Rattle.c65_genexpr.specs.Direct.{both_bytes, all_bytes, listed, alone, own_bytes}
use Rattle.c65_agree_store.specs.Stands.{At, Placing, Banks}
use Rattle.c65_agree_store.specs.Laws.{number_in}
use Rattle.c65_agree_step.specs.Ways.{place_at, IsAtLine}
use Rattle.c65_agree_step.proofs.Ways.{weaken, branches_go}
use Rattle.c65_agree_state.specs.World.{World, program_in, setting_in, Active, lines_of, place_in, HasAt, HasTurns}
use Rattle.c65_agree_state.specs.Follows.{Agrees, Follows}
use Rattle.c65_agree_state.specs.Exprs.{Ready, Kept as Keeps, Tells as TruthTells, RestOfTest, width_in, shape_in}
use Rattle.c65_agree_state.proofs.Followed.{follows_weaken, branches_count, ready_is_calm}
use Rattle.c65_agree_state.proofs.Nodes.{has_front, has_back}
use Rattle.c65_agree_put.specs.Laws.{IsScalar}
use Rattle.c65_agree_put.proofs.Fits.{may_fit}
use Rattle.c65_agree_assign.specs.Places.{kind_in}
use Rattle.c65_agree_load.proofs.Kept.{kept_later, ready_later}
use Rattle.c65_agree_direct.specs.Operands.{byte_in, MayRead}
use Rattle.c65_agree_direct.specs.Laws.{DirectLoadsAreTested}
use Rattle.c65_agree_direct.proofs.Bytes.{number_residue}
use Rattle.c65_agree_direct.proofs.Spots.{IsKnown, live_block}
use Rattle.c65_agree_direct.proofs.Values.{bytes_at, Tells, IsKept}
use Rattle.c65_agree_direct.proofs.Loads.{most}
use Rattle.c65_agree_direct.proofs.Trees.{load_kind, trees_are_read}
use Rattle.c65_agree_direct.proofs.Ored.{Covers, ored, ored_none, none_ored, IsOred, zero_leads}

-- ---- the bytes of what is kept

byte_there : (place : Place) (i : ℕ) → IsKnown place → (x : OperandByte) × (place_byte place i ≡ Some x)
byte_there (Bank at) i known = (_, refl)
byte_there (Near at) i known = (_, refl)
byte_there (Data s at) i known = (_, refl)
byte_there (Far at) i known = absurd known

pub record HasOwn (g : World) (t : State) (place : Place) (kind : IntType) (f : ℕ → ℕ) : Type 0 where
  pub first : OperandByte
  pub behind : List OperandByte
  pub is : own_bytes (Kept place kind) (extent_of kind) ≡ first ∷ behind
  pub covers : Covers g t f (first ∷ behind) 0
  pub size : length (first ∷ behind) ≡ size_of kind

module _ (g : World) (t : State) (place : Place) (kind : IntType) (f : ℕ → ℕ) (known : IsKnown place) (there : (i : ℕ) (x : OperandByte) → i < size_of kind → place_byte place i ≡ Some x → MayRead g t x × (byte_in g t x ≡ f i)) where
  one : size_of kind ≡ 1 → own_bytes (Kept place kind) (extent_of kind) ≡ alone (place_byte place 0) → HasOwn g t place kind f
  one size same =
      let x = byte_there place 0 known in
      record { first = x.0; behind = []; is = same ∙ ap alone x.1; covers = (there 0 x.0 (omega (arith, size)) x.1, tt); size = sym size }

  two : size_of kind ≡ 2 → own_bytes (Kept place kind) (extent_of kind) ≡ listed (both_bytes (place_byte place 0) (place_byte place 1)) → HasOwn g t place kind f
  two size same =
      let x = byte_there place 0 known in
      let y = byte_there place 1 known in
      record {
        first = x.0;
        behind = y.0 ∷ [];
        is = same ∙ ap (λ z. listed (both_bytes z (place_byte place 1))) x.1 ∙ ap (λ z. listed (both_bytes (Some x.0) z)) y.1;
        covers = (there 0 x.0 (omega (arith, size)) x.1, (there 1 y.0 (omega (arith, size)) y.1, tt));
        size = sym size;
      }

  four : size_of kind ≡ 4 → own_bytes (Kept place kind) (extent_of kind) ≡ listed (all_bytes (place_byte place 0) (place_byte place 1) (place_byte place 2) (place_byte place 3)) → HasOwn g t place kind f
  four size same =
      let x = byte_there place 0 known in
      let y = byte_there place 1 known in
      let z = byte_there place 2 known in
      let u = byte_there place 3 known in
      record {
        first = x.0;
        behind = y.0 ∷ z.0 ∷ u.0 ∷ [];
        is = same ∙ ap (λ v. listed (all_bytes v (place_byte place 1) (place_byte place 2) (place_byte place 3))) x.1 ∙ ap (λ v. listed (all_bytes (Some x.0) v (place_byte place 2) (place_byte place 3))) y.1
            ∙ ap (λ v. listed (all_bytes (Some x.0) (Some y.0) v (place_byte place 3))) z.1 ∙ ap (λ v. listed (all_bytes (Some x.0) (Some y.0) (Some z.0) v)) u.1;
        covers = (there 0 x.0 (omega (arith, size)) x.1, (there 1 y.0 (omega (arith, size)) y.1, (there 2 z.0 (omega (arith, size)) z.1, (there 3 u.0 (omega (arith, size)) u.1, tt))));
        size = sym size;
      }

pub own : (g : World) (t : State) (place : Place) (kind : IntType) (f : ℕ → ℕ) → IsKnown place → ((i : ℕ) (x : OperandByte) → i < size_of kind → place_byte place i ≡ Some x → MayRead g t x × (byte_in g t x ≡ f i)) → HasOwn g t place kind f
own g t place I.SChar f known there = one g t place I.SChar f known there refl refl
own g t place I.UChar f known there = one g t place I.UChar f known there refl refl
own g t place I.Short f known there = two g t place I.Short f known there refl refl
own g t place I.UShort f known there = two g t place I.UShort f known there refl refl
own g t place I.Int f known there = two g t place I.Int f known there refl refl
own g t place I.UInt f known there = two g t place I.UInt f known there refl refl
own g t place I.Long f known there = four g t place I.Long f known there refl refl
own g t place I.ULong f known there = four g t place I.ULong f known there refl refl

-- ---- truth

pub same_zero : (m n : ℕ) → (m ≡ 0 → n ≡ 0) → (n ≡ 0 → m ≡ 0) → (m == 0) ≡ (n == 0)
same_zero m n there back = go (m == 0) refl (n == 0) refl
  where
    none : (p : ℕ) → p ≡ 0 → (p == 0) ≡ true
    none p e = ap (λ q. q == 0) e

    go : (x : Bool) → (m == 0) ≡ x → (y : Bool) → (n == 0) ≡ y → x ≡ y
    go true e true f = refl
    go false e false f = refl
    go true e false f = let h : true ≡ false = sym (none n (there (eqb-true m 0 e))) ∙ f in cc
    go false e true f = let h : true ≡ false = sym (none m (back (eqb-true n 0 f))) ∙ e in cc

none_left : (kind : IntType) → 0 % modulus_of kind ≡ 0
none_left I.SChar = refl
none_left I.UChar = refl
none_left I.Short = refl
none_left I.UShort = refl
none_left I.Int = refl
none_left I.UInt = refl
none_left I.Long = refl
none_left I.ULong = refl

-- a number in its range that is not 0
some_above : (kind : IntType) (n : ℕ) → InRange kind (pos (suc n)) → suc n % modulus_of kind ≡ 0 → ⊥
some_above I.SChar n r e = omega (arith, ints, r.high, e)
some_above I.UChar n r e = omega (arith, ints, r.high, e)
some_above I.Short n r e = omega (arith, ints, r.high, e)
some_above I.UShort n r e = omega (arith, ints, r.high, e)
some_above I.Int n r e = omega (arith, ints, r.high, e)
some_above I.UInt n r e = omega (arith, ints, r.high, e)
some_above I.Long n r e = omega (arith, ints, r.high, e)
some_above I.ULong n r e = omega (arith, ints, r.high, e)

some_below : (kind : IntType) (n : ℕ) → InRange kind (negsuc n) → residue (modulus_of kind) (negsuc n) ≡ 0 → ⊥
some_below I.SChar n r e = omega (arith, ints, r.low, e)
some_below I.UChar n r e = omega (arith, ints, r.low, e)
some_below I.Short n r e = omega (arith, ints, r.low, e)
some_below I.UShort n r e = omega (arith, ints, r.low, e)
some_below I.Int n r e = omega (arith, ints, r.low, e)
some_below I.UInt n r e = omega (arith, ints, r.low, e)
some_below I.Long n r e = omega (arith, ints, r.low, e)
some_below I.ULong n r e = omega (arith, ints, r.low, e)

not_zero : (n : ℕ) → (n ≡ 0 → ⊥) → (n == 0) ≡ false
not_zero n some = same_zero n 1 (λ h. absurd (some h)) (λ h. absurd (omega (arith, h)))

number_truth : (kind : IntType) (s : Store) (z : ℤ) (b : Bool) → InRange kind z → truth_of s (Whole z) ≡ Ok b → (residue (modulus_of kind) z == 0) ≡ not b
number_truth kind s (pos zero) b range e = let same : false ≡ b = cc in ap (λ n. n == 0) (none_left kind) ∙ ap not same
number_truth kind s (pos (suc n)) b range e = let same : true ≡ b = cc in not_zero (residue (modulus_of kind) (pos (suc n))) (some_above kind n range) ∙ ap not same
number_truth kind s (negsuc n) b range e = let same : true ≡ b = cc in not_zero (residue (modulus_of kind) (negsuc n)) (some_below kind n range) ∙ ap not same

module _ (g : World) (a : Active) (pushed needs : ℕ) (c : Scene) (w : Placing) (k : Banks) (t : State) (r : Ready g a pushed needs c w k t) (place : Place) where
  abbrev f : ℕ → ℕ
  f = bytes_at g a c w t place

  abbrev sum : IntType → ℕ
  sum kind = number_in f (size_of kind) 0

  -- the bytes are all 0 where the value is false
  pub truth_tells : (shape : Shape) (v : Value) (b : Bool) → IsScalar shape → Fits shape v → Tells g a c w t (kind_in shape) f v → truth_of c.store v ≡ Ok b → (sum (kind_in shape) == 0) ≡ not b
  truth_tells (Number kind) (Whole z) b scalar fit tells e =
      let same : residue (modulus_of kind) z ≡ sum kind = number_residue kind z f tells.0 in
      ap (λ n. n == 0) (sym same) ∙ number_truth kind c.store z b fit e
  truth_tells (Pointer size) Null b scalar fit tells e =
      let false_is : false ≡ b = cc in
      ap (λ n. n == 0) tells.1 ∙ ap not false_is
  truth_tells (Pointer size) (values.Place m o) b scalar fit tells e = go (is_live c.store m) refl e
    where
      go : (live : Bool) → is_live c.store m ≡ live → (if live then Ok true else Err (By EndedObject)) ≡ Ok b → (sum I.UInt == 0) ≡ not b
      go true live e =
          let l = live_block c.store m live in
          let lies = r.joins.stands.lies m l.block (At tells.1.0) (record { is = l.is; live = l.live; place = tells.1.1 }) in
          let some : sum I.UInt ≡ 0 → ⊥ = λ h. omega (arith, h, tells.1.2, lies.0) in
          let true_is : true ≡ b = cc in
          not_zero (sum I.UInt) some ∙ ap not true_is
      go false live e = cc
  truth_tells shape Opaque b scalar fit tells e = cc
  truth_tells (Number kind) Null b scalar fit tells e = absurd fit
  truth_tells (Number kind) (values.Place m o) b scalar fit tells e = absurd fit
  truth_tells (Number kind) (Cells xs) b scalar fit tells e = absurd fit
  truth_tells (Number kind) NoValue b scalar fit tells e = absurd fit
  truth_tells (Pointer size) (Whole z) b scalar fit tells e = absurd fit
  truth_tells (Pointer size) (Cells xs) b scalar fit tells e = absurd fit
  truth_tells (Pointer size) NoValue b scalar fit tells e = absurd fit
  truth_tells (Field kind low width) v b scalar fit tells e = absurd scalar
  truth_tells (Area size) v b scalar fit tells e = absurd scalar

-- ---- the branch

abbrev behind_test : Bool → Op
behind_test s = if s then Bne else Beq

-- it is taken where the truth is the one asked for
is_told : (s b : Bool) (u : State) → u.regs.z ≡ not b → is_taken (behind_test s) u.regs ≡ beq b s
is_told true true u e = ap is_not e
is_told true false u e = ap is_not e
is_told false true u e = e
is_told false false u e = e

branch_goes : (g : World) (n v : ℕ) (m : meaning.State) (f p l : ℕ) (t : State) (seen : Seen) (op : Op) (taken : Bool) → IsAtLine (setting_in g) f p t (Branch op l) → is_taken op t.regs ≡ taken
    → Follows g n v m (place_at (setting_in g) f (if taken then labelled ((setting_in g).lines f) l else suc p)) t (seen_at (place_at (setting_in g) f (if taken then labelled ((setting_in g).lines f) l else suc p)) seen)
    → Follows g n (2 + v) m (place_at (setting_in g) f p) t seen
branch_goes g n v m f p l t seen op taken at by k d =
    let q = Agrees g (steps (program_in g) n m) in
    weaken (setting_in g) q (4000 * n + (2 + v)) (omega arith) (branches_go q (setting_in g) (4000 * n + v) f p l t seen op taken at by (k d))

is_branch : (s : Bool) (to : ℕ) → form_of (branch (behind_test s) to) ≡ Branch (behind_test s) to
is_branch true to = refl
is_branch false to = refl

module _ (g : World) (a : Active) (pushed needs to : ℕ) (s : Bool) (c : Scene) (w : Placing) (b : Banks) (t : State) (placed : IsPlacement g.code g.place) (r : Ready g a pushed needs c w b t) (place : Place) (shape : Shape) (v : Value)
    (scalar : IsScalar shape) (known : IsKnown place) (fit : Fits shape v) (kept : IsKept g a c w t (width_in shape) place (kind_in shape) v) (j weight p : ℕ) (k : List Item) (vs : List Value) (seen : Seen) (turns : HasTurns g c.turns (place_in g a p) seen) where
  abbrev kind : IntType
  kind = kind_in shape

  abbrev lines : List Line
  lines = zero_test_code (own_bytes (Kept place kind) (extent_of kind)) s to

  o : HasOwn g t place kind (bytes_at g a c w t place)
  o = own g t place kind (bytes_at g a c w t place) known kept.bytes

  abbrev front : List Line
  front = all_zero_code (o.first ∷ o.behind)

  abbrev back : List Line
  back = branch (behind_test s) to ∷ []

  split : lines ≡ front ++ back
  split = ap (λ bytes. zero_test_code bytes s to) o.is

  -- behind the bytes
  module _ (u : State) (later : Seen) (h : IsOred t (ored g t (byte_in g t o.first) o.behind) u) (turned : HasTurns g c.turns (place_in g a (p + length front)) later) where
    abbrev goes : Bool
    goes = is_taken (behind_test s) u.regs

    kept_there : Keeps g a c w b t c w b u
    kept_there = subst (λ x. Keeps g a c w b t c w b x) (sym h.only) (kept_later g a pushed needs c w b t placed r u.regs t.zp (λ i side. refl) (subst IsBytes h.only h.bytes))

    ready_there : Ready g a pushed needs c w b u
    ready_there = subst (λ x. Ready g a pushed needs c w b x) (sym h.only) (ready_later g a pushed needs c w b t placed r u.regs t.zp (λ i side. refl) (subst IsBytes h.only h.bytes))

    sizes : number_in (bytes_at g a c w t place) (length (o.first ∷ o.behind)) 0 ≡ number_in (bytes_at g a c w t place) (size_of kind) 0
    sizes = ap (λ n. number_in (bytes_at g a c w t place) n 0) o.size

    down : ored g t (byte_in g t o.first) o.behind ≡ 0 → number_in (bytes_at g a c w t place) (size_of kind) 0 ≡ 0
    down e =
        let both = ored_none g t (bytes_at g a c w t place) o.behind (byte_in g t o.first) 1 o.covers.1 e in
        sym sizes ∙ omega (arith, both.0, both.1, o.covers.0.1)

    up : number_in (bytes_at g a c w t place) (size_of kind) 0 ≡ 0 → ored g t (byte_in g t o.first) o.behind ≡ 0
    up e =
        let all : number_in (bytes_at g a c w t place) (length (o.first ∷ o.behind)) 0 ≡ 0 = sizes ∙ e in
        none_ored g t (bytes_at g a c w t place) o.behind (byte_in g t o.first) 1 o.covers.1 (omega (arith, all, o.covers.0.1)) (omega (arith, all))

    told : TruthTells c.store v s goes
    told truth e =
        let sum_is : (ored g t (byte_in g t o.first) o.behind == 0) ≡ (number_in (bytes_at g a c w t place) (size_of kind) 0 == 0) = same_zero (ored g t (byte_in g t o.first) o.behind) (number_in (bytes_at g a c w t place) (size_of kind) 0) down up in
        is_told s truth u (h.z ∙ sum_is ∙ truth_tells g a pushed needs c w b t r place shape v truth scalar fit kept.value e)

    branched : (n : ℕ) → j < n → HasAt (lines_of g a) (p + length front) back → RestOfTest g a shape s to n weight k vs (p + length lines) c w b t → Follows g j (2 + (weight + 2600)) (Running k (v ∷ vs) c) (place_in g a (p + length front)) u later
    branched n lt has rest =
        let ends : suc (p + length front) ≡ p + length lines = omega (arith, length-append front back, ap (λ ls. length ls) split) in
        let at : IsAtLine (setting_in g) a.symbol (p + length front) u (Branch (behind_test s) to) = record { line = branch (behind_test s) to; there = has.0; formed = is_branch s to; calm = (ready_is_calm g a pushed needs c w b u ready_there).calm; within = tt; running = ready_there.joins.ended } in
        branch_goes g j (weight + 2600) (Running k (v ∷ vs) c) a.symbol (p + length front) to u later (behind_test s) goes at refl
        (subst (λ q. Follows g j (weight + 2600) (Running k (v ∷ vs) c) (place_in g a (if goes then labelled (lines_of g a) to else q)) u (seen_at (place_in g a (if goes then labelled (lines_of g a) to else q)) later)) (sym ends)
        (rest j v goes c w b u (seen_at (place_in g a (if goes then labelled (lines_of g a) to else p + length lines)) later) lt kept_there (may_fit shape v scalar fit) told
        (branches_count g goes c.turns (place_in g a (if goes then labelled (lines_of g a) to else p + length lines)) later (omega (arith, turned)))))

  tested : (n : ℕ) → j < n → HasAt (lines_of g a) p lines → RestOfTest g a shape s to n weight k vs (p + length lines) c w b t → Follows g j (weight + 4000) (Running k (v ∷ vs) c) (place_in g a p) t seen
  tested n lt has rest =
      let there : HasAt (lines_of g a) p (front ++ back) = subst (HasAt (lines_of g a) p) split has in
      let few : 2 + 2 * length o.behind + (2 + (weight + 2600)) ≤ weight + 4000 = omega (arith, o.size, most kind) in
      follows_weaken g j (2 + 2 * length o.behind + (2 + (weight + 2600))) (weight + 4000) (Running k (v ∷ vs) c) (place_in g a p) t seen few
      (zero_leads g a pushed needs c w b t placed r (bytes_at g a c w t place) o.first o.behind o.covers j (2 + (weight + 2600)) p c.turns (Running k (v ∷ vs) c) seen (has_front (lines_of g a) p front back there) turns (λ u later h turned.
      branched u later h turned n lt (has_back (lines_of g a) p front back there) rest))

pub direct_loads_are_tested : DirectLoadsAreTested
direct_loads_are_tested g a pushed needs to s t e place kind placed frame typed is n weight p k vs c w b state seen has r turns rest =
    let shape : Shape = shape_in g a (node t (load e)) in
    let h = load_kind g a pushed placed frame t e place kind typed is in
    let same : zero_test_code (own_bytes (Kept place kind) (extent_of kind)) s to ≡ zero_test_code (own_bytes (Kept place (kind_in shape)) (extent_of (kind_in shape))) s to = ap (λ x. zero_test_code (own_bytes (Kept place x) (extent_of x)) s to) h.same in
    trees_are_read g a pushed placed frame (node t (load e)) (Kept place kind) typed is needs n weight k vs c w b (place_in g a p) state seen r turns (λ j v lt fit told.
    tested g a pushed needs to s c w b state placed r place shape v h.scalar h.known fit (subst (λ x. IsKept g a c w state (width_in shape) place x v) h.same (told needs w b state (λ m q same. same) r)) j weight p k vs seen turns n lt (subst (HasAt (lines_of g a) p) same has)
    (subst (λ ls. RestOfTest g a shape s to n weight k vs (p + length ls) c w b state) same rest))
