-- Objects of blocks may begin, and labels may be led to.
use Rattle.std.proofs.Common.{◌≡◌, ℕ, ◌+◌, ◌<◌, ◌≤◌, ◌⊎◌, inl, inr, true, false, Option, None, Some, List, [], ◌∷◌, ◌++◌, length, refl, sym, ◌∙◌, ap, subst, arith}
use Rattle.c65_csem.specs.Trees.{FuncTy}
use Rattle.c65_meaning.specs.Items.{Item}
use Rattle.c65_meaning.specs.After.{ToLabel, Landing, after, is_among, without}
use Rattle.c65_code.specs.Placement.{program_start}
use Rattle.c65_genframe.specs.Objects.{objects_in, objects_of, locals_of}
use Rattle.c65_agree_store.specs.Stands.{Spot, At, LiesIn}
use Rattle.c65_agree_state.specs.World.{World, unit_in, Active}
use Rattle.c65_agree_state.specs.Fixed.{is_object_of}
use Rattle.c65_agree_state.specs.Joins.{spot_of}
use Rattle.c65_agree_begin.proofs.Fixed.{fixed_objects_are_low}
use Rattle.c65_agree_stmts.specs.Calling.{Calling}
use Rattle.c65_agree_stmts.specs.Objects.{bytes_of, IsFramed, IsFixed, MayBegin, MayAllBegin, MayLand, HasGround}
use Rattle.c65_agree_stmts.proofs.Blocks.{among_left, among_right, among_both}
use Rattle.c65_agree_enter.specs.Params.{AreDistinct}
use Rattle.c65_agree_homes.specs.Frames.{IsCalling}
use Rattle.c65_agree_homes.specs.Laws.{ObjectsMayBegin, LabelsMayLand, GroundIsGiven}
use Rattle.c65_agree_homes.proofs.Among.{among_here, among_more, among_cases, among_clash, among_or_not, not_among, not_by, IsWithin, IsOutside}
use Rattle.c65_agree_homes.proofs.Distinct.{distinct_second}
use Rattle.c65_agree_homes.proofs.Homes.{first_byte}
use Rattle.c65_agree_homes.proofs.Own.{own_distinct, size_same}
use Rattle.c65_agree_homes.proofs.Lying.{at_same, at_other, Homed, InBank, InParams, InBlocks, IsData, spot_bank, spot_block, spot_data, local_outside, local_lies, own_lies, own_apart}
use Rattle.c65_agree_homes.proofs.Lasting.{data_lies, data_fixed}
use Rattle.c65_agree_homes.proofs.Params.{homed_lies}
use Rattle.c65_agree_homes.proofs.Landed.{Holds, landing_holds, without_first, without_second, without_has, without_distinct}

module _ (x : Calling) (names : List (List ℕ)) (f : FuncTy) (h : IsCalling x names f) where
  abbrev g : World
  g = x.world

  abbrev a : Active
  a = x.active

  abbrev bytes : ℕ → ℕ
  bytes i = bytes_of g i

  start : program_start ≤ a.base
  start = let low = h.low in omega (arith, low)

  -- ---- one object

  local_in : (i : ℕ) → Homed g a f i ⊎ IsData g a i → LiesIn (spot_of g a i) (bytes i)
  local_in i (inl k) = homed_lies g names a f h.call start h.high i k
  local_in i (inr d) = subst (λ (q : Spot). LiesIn q (bytes i)) (sym (spot_data g names a f h.call i d.none)) (data_lies g names a f h.call h.placed i d.fixed)

  framed_at : (i at o : ℕ) → is_among (locals_of f) i ≡ true → Homed g a f i → spot_of g a i ≡ At at → o < bytes i → (a.base ≤ at) × (at + o < a.base + a.frame.soft) × (a.frame.variadic ≡ true → a.base < at)
  framed_at i at o own (InBank b is by) there lt = absurd (at_other at (length a.behind) b (sym there ∙ spot_bank g names a f h.call i b is))
  framed_at i at o own (InParams d is p from to) there lt = among_clash f.params i p (local_outside g names a f h.call i own)
  framed_at i at o own (InBlocks d is m from to) there lt =
      let size = size_same g names a f h.call i in
      let same : at ≡ a.base + d = at_same at (a.base + d) (sym there ∙ spot_block g names a f h.call i d is (omega (arith, lt, size, to))) in
      (omega (arith, same), omega (arith, same, lt, size, to), λ v. let one : first_byte a.frame.variadic ≡ 1 = ap first_byte v in omega (arith, same, one, from))

  local_home : (i : ℕ) → is_among (locals_of f) i ≡ true → Homed g a f i ⊎ IsData g a i → IsFramed g a i ⊎ IsFixed g a i
  local_home i own (inl k) = inl (record { within = λ at o there lt. framed_at i at o own k there lt })
  local_home i own (inr d) = inr (data_fixed g names a f h.call h.placed i own d)

  -- the objects in scope are the function's
  abbrev AreOwn : List ℕ → Type 0
  AreOwn scope = IsWithin scope (f.params ++ locals_of f)

  may_begin : (scope : List ℕ) (i : ℕ) → AreOwn scope → is_among (locals_of f) i ≡ true → is_among scope i ≡ false → MayBegin x scope i
  may_begin scope i inside own closed = record {
    lies = local_in i (local_lies g names a f h.call i own);
    home = local_home i own (local_lies g names a f h.call i own);
    object = ap (λ (o : Option FuncTy). is_object_of o i) h.call.function ∙ among_right f.params (locals_of f) i own;
    closed = closed;
    apart = λ j e. own_apart g names a f h.call h.placed h.low i j (λ same. among_clash scope j e (ap (is_among scope) (sym same) ∙ closed)) (local_lies g names a f h.call i own) (own_lies g names a f h.call j (inside j e));
  }

  pub all_may_begin : (is scope : List ℕ) → AreOwn scope → AreDistinct is → IsWithin is (locals_of f) → IsOutside is scope → MayAllBegin x scope is
  all_may_begin [] scope inside d own closed = tt
  all_may_begin (i ∷ is) scope inside d own closed =
      (may_begin scope i inside (own i (among_here i is)) (closed i (among_here i is)), all_may_begin is (i ∷ scope) wider d.1 (λ j e. own j (among_more i is j e)) outside)
    where
      wider : AreOwn (i ∷ scope)
      wider j e = go (among_cases i scope j e)
        where
          go : (i ≡ j) ⊎ (is_among scope j ≡ true) → is_among (f.params ++ locals_of f) j ≡ true
          go (inl same) = ap (is_among (f.params ++ locals_of f)) (sym same) ∙ among_right f.params (locals_of f) i (own i (among_here i is))
          go (inr k) = inside j k

      outside : IsOutside is (i ∷ scope)
      outside j e = not_among i scope j (λ same. among_clash is j e (ap (is_among is) (sym same) ∙ d.0)) (closed j (among_more i is j e))

  -- ---- labels

  params_own : AreOwn x.params
  params_own i e = among_left f.params (locals_of f) i (ap (λ (ps : List ℕ). is_among ps i) (sym h.params) ∙ e)

  body_own : locals_of f ≡ objects_in x.body
  body_own = ap objects_of h.body

  lands_by : (to : Landing) → Holds to (objects_in x.body) → MayLand x (Some to)
  lands_by to holds left = all_may_begin (without to.objects left) scope inside (without_distinct to.objects left holds.distinct) own closed
    where
      stay : List ℕ
      stay = without left (without left to.objects)

      scope : List ℕ
      scope = stay ++ x.params

      local : (i : ℕ) → is_among to.objects i ≡ true → is_among (locals_of f) i ≡ true
      local i e = ap (λ (is : List ℕ). is_among is i) body_own ∙ holds.within i e

      -- what stays is of the blocks round the label
      kept : (i : ℕ) → is_among stay i ≡ true → is_among to.objects i ≡ true
      kept i e = go (among_or_not to.objects i)
        where
          go : (is_among to.objects i ≡ true) ⊎ (is_among to.objects i ≡ false) → is_among to.objects i ≡ true
          go (inl k) = k
          go (inr k) = among_clash (without left to.objects) i (without_has left to.objects i (without_first left (without left to.objects) i e) k) (without_second left (without left to.objects) i e)

      inside : AreOwn scope
      inside i e = go (among_both stay x.params i e)
        where
          go : (is_among stay i ≡ true) ⊎ (is_among x.params i ≡ true) → is_among (f.params ++ locals_of f) i ≡ true
          go (inl k) = among_right f.params (locals_of f) i (local i (kept i k))
          go (inr k) = params_own i k

      own : IsWithin (without to.objects left) (locals_of f)
      own i e = local i (without_first to.objects left i e)

      closed : IsOutside (without to.objects left) scope
      closed i e = not_by scope i (λ k. go (among_both stay x.params i k))
        where
          go : (is_among stay i ≡ true) ⊎ (is_among x.params i ≡ true) → ⊥
          go (inl k) = among_clash left i (without_first left (without left to.objects) i k) (without_second to.objects left i e)
          go (inr k) = among_clash f.params i (ap (λ (ps : List ℕ). is_among ps i) (sym h.params) ∙ k) (local_outside g names a f h.call i (own i e))

  pub label_lands : (l : ℕ) (k : List Item) → MayLand x (after (unit_in g) (ToLabel l) 0 x.body k)
  label_lands l k = go (after (unit_in g) (ToLabel l) 0 x.body k) refl
    where
      distinct : AreDistinct (objects_in x.body)
      distinct = subst (λ (is : List ℕ). AreDistinct is) body_own (distinct_second f.params (locals_of f) (own_distinct g names a f h.call))

      go : (o : Option Landing) → after (unit_in g) (ToLabel l) 0 x.body k ≡ o → MayLand x o
      go None e = tt
      go (Some to) e = lands_by to (landing_holds (unit_in g) (ToLabel l) x.body 0 k to distinct e)

  pub has_ground : x.active.first ≤ x.first.next → HasGround x
  has_ground le = record { placed = h.placed; low = λ i n fixed lt. fixed_objects_are_low g names h.call.code h.placed h.call.plain i n fixed lt; first = le }

pub objects_may_begin : ObjectsMayBegin
objects_may_begin x names f scope is h d own inside = all_may_begin x names f h is scope inside d (λ i e. (own i e).0) (λ i e. (own i e).1)

pub labels_may_land : LabelsMayLand
labels_may_land x names f l k h = label_lands x names f h l k

pub ground_is_given : GroundIsGiven
ground_is_given x names f h le = has_ground x names f h le
