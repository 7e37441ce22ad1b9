-- Members lie so far behind the beginning of their structure or union.
use Rattle.std.proofs.Common.{◌≡◌, ℕ, ℤ, pos, negsuc, ◌+◌, ◌%◌, ◌<◌, ◌≤◌, List, [], ◌∷◌, ◌++◌, Option, Some, None, Bool, true, false, refl, sym, ap, ◌∙◌, subst, arith, length-append}
use Rattle.std.specs.Prelude.{nat_le, ◌&&◌, ◌+ℤ◌, if◌then◌else◌, Result, Ok, Err, length}
use Rattle.std.proofs.lemmas.Bool.Decides.{nat_tests}
use Rattle.std.proofs.lemmas.Int.{ints}
use Rattle.c65_ctype.specs.Trees.{MemberTy}
use Rattle.c65_ctype.specs.Views.{types_of}
use Rattle.c65_csem.specs.declared.items.Parts.{Parts}
use Rattle.c65_csem.specs.Trees.{Typed, node, member}
use Rattle.c65_csem.specs.Places.{member_at}
use Rattle.c65_csem_need.specs.Needs.{need}
use Rattle.c65_meaning.specs.declared.action.Action.TheVariants.{EndedObject, OffsetOutside}
use Rattle.c65_meaning.specs.Why.{Why, By}
use Rattle.c65_meaning.specs.Store as values
use Rattle.c65_meaning.specs.Store.{Block, Store, Value, Whole, Null, Opaque, Cells, NoValue, Shape, lives_in, is_live, block_size, size_in_store}
use Rattle.c65_meaning.specs.Operators.{unusable, placed_at}
use Rattle.c65_meaning.specs.Operators as operators
use Rattle.c65_meaning.specs.Items.{Item, Move, plan}
use Rattle.c65_meaning.specs.Shapes.{bare_type, offset_of}
use Rattle.c65_meaning.specs.State.{Scene, Running}
use Rattle.c65_meaning.specs.Step.{go_on}
use Rattle.c65_code.specs.declared.line.Line.{Line}
use Rattle.c65_code.specs.LineState.{State, sp_of, ax_of, IsBytes}
use Rattle.c65_code.specs.Placement.{IsPlacement}
use Rattle.c65_code.specs.Comes.{Seen}
use Rattle.c65_genload.specs.declared.places.Place.{Place}
use Rattle.c65_genload.specs.declared.places.Place.TheVariants.{Bank, Near, Data, Far}
use Rattle.c65_genload.specs.Addresses.{offset_code}
use Rattle.c65_genexpr.specs.declared.destination.Destination.TheVariants.{Registers}
use Rattle.c65_genexpr.specs.declared.wanted.Wanted.TheVariants as wanted
use Rattle.c65_genexpr.specs.Types.{bare, offset_in, offset_at}
use Rattle.c65_genexpr.specs.Places.{more, moved, has_base, place_of}
use Rattle.c65_genexpr.specs.Code.{expr_code, base_code}
use Rattle.c65_agree_store.specs.Stands.{Spot, At, Banked, Placing, Banks, ValueIs, IsAt, beyond}
use Rattle.c65_agree_state.specs.World.{World, unit_in, Active, lines_of, place_in, HasAt, HasTurns}
use Rattle.c65_agree_state.specs.Joins.{Joins}
use Rattle.c65_agree_state.specs.Follows.{Follows}
use Rattle.c65_agree_state.specs.Exprs.{Ready, Kept, Placed, IsPlaceValue, ResultIs, Rest, Does, shape_in, width_in}
use Rattle.c65_agree_state.proofs.Followed.{follows_weaken, steps_earn, ready_is_calm}
use Rattle.c65_agree_state.proofs.Nodes.{has_front, has_back, ready_stays}
use Rattle.c65_agree_state.proofs.Parts.{kept_goes_on}
use Rattle.c65_agree_places.specs.Places.{spot_in, IsReached}
use Rattle.c65_agree_rows.proofs.Quiet.{nothing_follows}
use Rattle.c65_agree_frame.proofs.Entries.{append_end}
use Rattle.c65_agree_load.specs.Loads.{IsNear, IsMeantThere}
use Rattle.c65_agree_load.proofs.Kept.{is_on, kept_later}
use Rattle.c65_agree_structures.specs.Areas.{IsInMemory}
use Rattle.c65_agree_structures.specs.Bases.{IsStanding, IsToldBy, BaseDoes}
use Rattle.c65_agree_structures.specs.Copies.{AddressDoes}
use Rattle.c65_agree_structures.specs.Members.{MembersHaveAddresses, MembersAreBases}
use Rattle.c65_agree_structures.proofs.Bases.{far_is_meant}
use Rattle.c65_agree_structures.proofs.Offsets.{offset_leads}

-- ---- the step

-- a place so far on lies in its block, which lives, or at its end
pub record IsMoved (s : Store) (b o : ℕ) (d : ℤ) (v : Value) : Type 0 where
  pub to : ℕ
  pub is : v ≡ values.Place b to
  pub live : is_live s b ≡ true
  pub inside : to ≤ block_size s b
  pub sum : pos o +ℤ d ≡ pos to

moved_by : (s : Store) (b o : ℕ) (d : ℤ) (v : Value) (live : Bool) (y : ℤ) → is_live s b ≡ live → pos o +ℤ d ≡ y → (if live then placed_at s b y else Err (By EndedObject)) ≡ Ok v → IsMoved s b o d v
moved_by s b o d v true (pos n) lives sum e = go (nat_le n (block_size s b)) refl e
  where
    go : (inside : Bool) → nat_le n (block_size s b) ≡ inside → (if inside then Ok (values.Place b n) else Err (By OffsetOutside)) ≡ Ok v → IsMoved s b o d v
    go true h e = record { to = n; is = cc; live = lives; inside = grind (arith, nat_tests); sum = sum }
    go false h e = cc
moved_by s b o d v true (negsuc n) lives sum e = cc
moved_by s b o d v false y lives sum e = cc

pub is_moved : (s : Store) (b o : ℕ) (d : ℤ) (v : Value) → operators.moved s (values.Place b o) d ≡ Ok v → IsMoved s b o d v
is_moved s b o d v e = moved_by s b o d v (is_live s b) (pos o +ℤ d) refl refl e

pub pos_same : (m n : ℕ) → pos m ≡ pos n → m ≡ n
pos_same m n e = omega (arith, ints)

-- the block that lives
record Lives (s : Store) (b : ℕ) : Type 0 where
  block : Block
  is : s b ≡ Some block
  live : block.live ≡ true
  size : block_size s b ≡ block.size

lives_as : (s : Store) (b : ℕ) (o : Option Block) → s b ≡ o → lives_in o ≡ true → Lives s b
lives_as s b None e l = cc
lives_as s b (Some x) e l = record { block = x; is = e; live = l; size = ap size_in_store e }

-- behind a place the rest is followed with the place of the member, and behind another value nothing is defined
pub moves : (g : World) (a : Active) (n weight p : ℕ) (k : List Item) (vs : List Value) (c : Scene) (t : State) (seen : Seen) (d : ℤ) (v : Value)
    → ((b o : ℕ) (x : Value) → v ≡ values.Place b o → operators.moved c.store (values.Place b o) d ≡ Ok x → Follows g n weight (Running k (x ∷ vs) c) (place_in g a p) t seen)
    → Follows g n weight (go_on (operators.moved c.store v d) k vs c) (place_in g a p) t seen
moves g a n weight p k vs c t seen d (values.Place b o) goes = go (operators.moved c.store (values.Place b o) d) refl
  where
    go : (r : Result Value Why) → operators.moved c.store (values.Place b o) d ≡ r → Follows g n weight (go_on r k vs c) (place_in g a p) t seen
    go (Ok x) e = goes b o x refl e
    go (Err why) e = nothing_follows g why n weight (place_in g a p) t seen
moves g a n weight p k vs c t seen d Null goes = nothing_follows g (By OffsetOutside) n weight (place_in g a p) t seen
moves g a n weight p k vs c t seen d (Whole z) goes = nothing_follows g (unusable (Whole z)) n weight (place_in g a p) t seen
moves g a n weight p k vs c t seen d Opaque goes = nothing_follows g (unusable Opaque) n weight (place_in g a p) t seen
moves g a n weight p k vs c t seen d (Cells xs) goes = nothing_follows g (unusable (Cells xs)) n weight (place_in g a p) t seen
moves g a n weight p k vs c t seen d NoValue goes = nothing_follows g (unusable NoValue) n weight (place_in g a p) t seen

-- the generator's offset is the meaning's
offset_same : (o : Option MemberTy) → offset_in o ≡ offset_of o
offset_same None = refl
offset_same (Some m) = refl

pub offset_is : (g : World) (a : Active) (e : Typed) (m : ℕ) → a.frame.parts ≡ g.parts → offset_at (types_of a.frame.parts.types) (bare e) m ≡ offset_of (member_at (unit_in g).types (bare_type e) m)
offset_is g a e m parts = ap (λ (p : Parts). offset_at (types_of p.types) (bare e) m) parts ∙ offset_same (member_at (unit_in g).types (bare_type e) m)

-- ---- addresses

module _ (g : World) (a : Active) (placed : IsPlacement g.code g.place) (f h : Shape) (work : List Item → List Item) (needs pushed offset : ℕ) (lines : List Line) where
  abbrev add : List Line
  add = offset_code offset

  module _ (n weight p : ℕ) (k : List Item) (vs : List Value) (c : Scene) (w : Placing) (b : Banks) (t : State) (has : HasAt (lines_of g a) (p + length lines) add) (rest : Rest g a Placed h n weight k vs (p + length (lines ++ add)) c w b t)
      (j : ℕ) (lt : j < n) (v : Value) (c2 : Scene) (w2 : Placing) (b2 : Banks) (u : State) (later : Seen) (r : Ready g a pushed needs c2 w2 b2 u) (kept : Kept g a c w b t c2 w2 b2 u) (result : ResultIs Placed w2 (width_in f) v u) (turned : HasTurns g c2.turns (place_in g a (p + length lines)) later) (i : ℕ) (less : i < j) where
    ends : p + length lines + length add ≡ p + length (lines ++ add)
    ends = omega (arith, length-append lines add)

    at_place : (m o : ℕ) (x : Value) → v ≡ values.Place m o → operators.moved c2.store (values.Place m o) (pos offset) ≡ Ok x → Follows g i (weight + 2600 + 4000) (Running k (x ∷ vs) c2) (place_in g a (p + length lines)) u later
    at_place m o x same e =
        follows_weaken g i (7 + (weight + 2600)) (weight + 2600 + 4000) (Running k (x ∷ vs) c2) (place_in g a (p + length lines)) u later (omega arith)
        (offset_leads g a placed u (is_on g a pushed needs c2 w2 b2 u placed r) offset i (weight + 2600) (p + length lines) c2.turns (Running k (x ∷ vs) c2) later has turned (λ y after s turned2.
        let bytes : IsBytes (record u { regs = s.regs }) = subst IsBytes s.is s.bytes in
        let kept2 : Kept g a c2 w2 b2 u c2 w2 b2 y = rw s.is (kept_later g a pushed needs c2 w2 b2 u placed r s.regs u.zp (λ l side. refl) bytes) in
        subst (λ z. Follows g i (weight + 2600) (Running k (x ∷ vs) c2) (place_in g a z) y after) (sym ends)
        (rest i x c2 w2 b2 y after (omega (arith, lt, less)) (record { kept = kept_goes_on g a c c2 c2 w w2 w2 b b2 b2 t u y kept kept2; result = subst (λ z. ValueIs w2 65536 z (ax_of y)) (sym known.is) (there.0, there.1, sum_is y s.sum); fits = subst IsPlaceValue (sym known.is) tt })
        (subst (λ z. HasTurns g c2.turns (place_in g a z) after) ends turned2))))
      where
        there : ValueIs w2 65536 (values.Place m o) (ax_of u)
        there = subst (λ y. ValueIs w2 65536 y (ax_of u)) same result

        known : IsMoved c2.store m o (pos offset) x
        known = is_moved c2.store m o (pos offset) x e

        to_is : known.to ≡ o + offset
        to_is = sym (pos_same (o + offset) known.to known.sum)

        low : ax_of u + offset < 65536
        low =
            let block = lives_as c2.store m (c2.store m) refl known.live in
            let size = block.size in
            omega (arith, to_is, known.inside, size, there.2, (r.joins.stands.lies m block.block (At there.0) (record { is = block.is; live = block.live; place = there.1 })).1)

        sum_is : (y : State) → (ax_of u + offset < 65536 → ax_of y ≡ ax_of u + offset) → ax_of y ≡ there.0 + known.to
        sum_is y sum = let ax = sum low in omega (arith, ax, to_is, there.2)

  address_does : Does g a Placed f work needs pushed lines → Does g a Placed h (λ k. work (Move offset ∷ k)) needs pushed (lines ++ add)
  address_does does n weight p k vs c w b t seen has r turns rest =
      does n weight p (Move offset ∷ k) vs c w b t seen (has_front (lines_of g a) p lines add has) r turns (λ j v c2 w2 b2 u later lt done turned.
      let ready = ready_stays g a pushed needs needs c c2 w w2 b b2 t u (omega arith) r done.kept in
      steps_earn g j (weight + 2600) (Move offset) k (v ∷ vs) c2 (place_in g a (p + length lines)) u later (ready_is_calm g a pushed needs c2 w2 b2 u ready).calm done.kept.joins.output done.kept.joins.ended (omega (arith, turned)) (λ i less.
      moves g a i (weight + 2600 + 4000) (p + length lines) k vs c2 u later (pos offset) v (λ m o x same e.
      at_place n weight p k vs c w b t (has_back (lines_of g a) p lines add has) rest j lt v c2 w2 b2 u later ready done.kept done.result turned i less m o x same e)))

pub members_have_addresses : MembersHaveAddresses
members_have_addresses g a t e m placed parts does pushed fresh =
    let offset : ℕ = offset_of (member_at (unit_in g).types (bare_type e) m) in
    let lines : List Line = expr_code a.frame pushed fresh wanted.Value e in
    subst (λ (n : ℕ). Does g a Placed (shape_in g a (node t (member e m))) (λ k. plan (unit_in g) e (Move offset ∷ k)) (need e) pushed (lines ++ offset_code n)) (sym (offset_is g a e m parts))
    (address_does g a placed (shape_in g a e) (shape_in g a (node t (member e m))) (plan (unit_in g) e) (need e) pushed offset lines (does pushed fresh))

-- ---- bases

-- A place that is told tells one so many bytes behind it, where the generator says so; bytes are counted modulo 2 to the 32.
module _ (g : World) (a : Active) (c : Scene) (w : Placing) (k : Banks) (u : State) (joins : Joins g a c w k u) (b o n to : ℕ) (inside : to ≤ block_size c.store b) (sum : to ≤ 65520 → (o + n) % 4294967296 ≡ to) where
  low_sp : sp_of u < 65536
  low_sp = omega (arith, joins.bytes.zp 0, joins.bytes.zp 1)

  low_ax : ax_of u < 65536
  low_ax = omega (arith, joins.bytes.a, joins.bytes.x)

  module _ (place : Place) (meant : IsMeantThere g a c w u place b o) where
    -- from where the block stands
    by_spot : (farther_on : Place) → ((at : ℕ) → at + to ≤ 65520 → (o + n) % 4294967296 ≡ to → spot_in g a u place ≡ At (at + o) → spot_in g a u farther_on ≡ At (at + to)) → IsInMemory place → IsMeantThere g a c w u farther_on b to
    by_spot farther_on goes memory y q is = by_shape q is (meant y q is)
      where
        by_shape : (q : Spot) → IsAt c.store w b y q → IsReached a q × (spot_in g a u place ≡ beyond q o) → IsReached a q × (spot_in g a u farther_on ≡ beyond q to)
        by_shape (At at) is h =
            let size : block_size c.store b ≡ y.size = ap size_in_store is.is in
            let low : at + to ≤ 65520 = omega (arith, inside, size, (joins.stands.lies b y (At at) is).1) in
            (tt, goes at low (sum (omega (arith, low))) h.1)
        by_shape (Banked d i) is h = absurd (no_bank place memory h.1)
          where
            no_bank : (p : Place) → IsInMemory p → spot_in g a u p ≡ Banked d (i + o) → ⊥
            no_bank (Bank m) memory e = absurd memory
            no_bank (Near m) memory e = cc
            no_bank (Data s m) memory e = cc
            no_bank (Far m) memory e = cc

  spot_same : {m l : ℕ} → At m ≡ At l → m ≡ l
  spot_same e = cc

  near_moved : (at : ℕ) → IsStanding g a c w u (Near at) b o → IsNear (Near at) → (first second : Bool) → nat_le n 252 ≡ first → nat_le (at + n) 252 ≡ second → first && second ≡ true → IsToldBy g a (if first then (if second then Near (at + n) else Far 0) else Far 0) c w u (values.Place b to)
  near_moved at meant near_one true true h1 h2 has =
      let few : n ≤ 252 = grind (arith, nat_tests) in
      ((meant.0, by_spot (Near at) meant.1 (Near (at + n)) (λ l low whole e. let same = spot_same e in ap At (omega (arith, same, whole, few, near_one, low_sp))) tt), grind (arith, nat_tests), tt)
  near_moved at meant near_one true false h1 h2 has = absurd cc
  near_moved at meant near_one false second h1 h2 has = absurd cc

  far_moved : (at : ℕ) → IsStanding g a c w u (Far at) b o → IsNear (Far at) → (first second : Bool) → nat_le n 250 ≡ first → nat_le (at + n) 250 ≡ second → first && second ≡ true → IsToldBy g a (Far (if first && second then at + n else 0)) c w u (values.Place b to)
  far_moved at meant near_one true true h1 h2 has =
      let few : n ≤ 250 = grind (arith, nat_tests) in
      ((meant.0, by_spot (Far at) meant.1 (Far (at + n)) (λ l low whole e. let same = spot_same e in ap At (omega (arith, same, whole, few, near_one, low_ax))) tt), grind (arith, nat_tests), tt)
  far_moved at meant near_one true false h1 h2 has = absurd cc
  far_moved at meant near_one false second h1 h2 has = absurd cc

  pub told_on : (place : Place) → has_base place n ≡ true → IsToldBy g a place c w u (values.Place b o) → IsToldBy g a (moved place n) c w u (values.Place b to)
  told_on (Bank at) has h = absurd h.2
  told_on (Near at) has h = near_moved at h.0 h.1 (nat_le n 252) (nat_le (at + n) 252) refl refl has
  told_on (Data s at) has h =
      ((h.0.0, by_spot (Data s at) h.0.1 (Data s (more at (n % 65536))) (λ l low whole e. let same = spot_same e in ap At (omega (arith, same, low, whole))) tt), omega arith, tt)
  told_on (Far at) has h = far_moved at h.0 h.1 (nat_le n 250) (nat_le (at + n) 250) refl refl has

-- one that is not told so is told by its address
pub far_place : (place : Place) (n : ℕ) → has_base place n ≡ false → moved place n ≡ Far 0
far_place (Bank at) n has = ap (λ (b : Bool). if b then Bank at else Far 0) has
far_place (Near at) n has = go (nat_le n 252) (nat_le (at + n) 252) has
  where
    go : (first second : Bool) → first && second ≡ false → (if first then (if second then Near (at + n) else Far 0) else Far 0) ≡ Far 0
    go true true e = absurd cc
    go true false e = refl
    go false second e = refl
far_place (Data s at) n has = absurd cc
far_place (Far at) n has = ap (λ (b : Bool). Far (if b then at + n else 0)) has

placed_is_told : (g : World) (a : Active) (c : Scene) (w : Placing) (u : State) (v : Value) → ValueIs w 65536 v (ax_of u) → IsToldBy g a (Far 0) c w u v
placed_is_told g a c w u (values.Place b o) is = (far_is_meant g a c w u b o is, omega arith, tt)
placed_is_told g a c w u (Whole z) is = tt
placed_is_told g a c w u Null is = tt
placed_is_told g a c w u Opaque is = tt
placed_is_told g a c w u (Cells xs) is = tt
placed_is_told g a c w u NoValue is = tt

module _ (g : World) (a : Active) (placed : IsPlacement g.code g.place) (e : Typed) (shape : Shape) (base : BaseDoes g a e) (address : AddressDoes g a e) (pushed fresh offset : ℕ) (n weight p : ℕ) (k : List Item) (vs : List Value) (c : Scene) (w : Placing) (b : Banks) (t : State) (seen : Seen)
    (r : Ready g a pushed (need e) c w b t) (turned : HasTurns g c.turns (place_in g a p) seen) where
  abbrev place : Place
  place = place_of a.frame pushed e

  abbrev told : List Line
  told = base_code a.frame pushed fresh Registers e

  abbrev lines : List Line
  lines = expr_code a.frame pushed fresh wanted.Value e

  abbrev Behind : Place → List Line → Type 0
  Behind z ls = (j : ℕ) (v : Value) (c2 : Scene) (w2 : Placing) (b2 : Banks) (u : State) (later : Seen) → j < n → Kept g a c w b t c2 w2 b2 u → IsToldBy g a z c2 w2 u v → HasTurns g c2.turns (place_in g a (p + length ls)) later
      → Follows g j (weight + 2600) (Running k (v ∷ vs) c2) (place_in g a (p + length ls)) u later

  abbrev Goes : Place → List Line → Type 0
  Goes z ls = HasAt (lines_of g a) p ls → Behind z ls → Follows g n weight (Running (plan (unit_in g) e (Move offset ∷ k)) vs c) (place_in g a p) t seen

  by_base : has_base place offset ≡ true → Goes (moved place offset) told
  by_base has_one has rest =
      base pushed fresh n weight p (Move offset ∷ k) vs c w b t seen has r turned (λ j v c2 w2 b2 u later lt kept h turned2.
      let ready = ready_stays g a pushed (need e) (need e) c c2 w w2 b b2 t u (omega arith) r kept in
      steps_earn g j (weight + 2600) (Move offset) k (v ∷ vs) c2 (place_in g a (p + length told)) u later (ready_is_calm g a pushed (need e) c2 w2 b2 u ready).calm kept.joins.output kept.joins.ended (omega (arith, turned2)) (λ i less.
      moves g a i (weight + 2600 + 4000) (p + length told) k vs c2 u later (pos offset) v (λ m o x same f.
      let known = is_moved c2.store m o (pos offset) x f in
      let to_is : known.to ≡ o + offset = sym (pos_same (o + offset) known.to known.sum) in
      let there : IsToldBy g a place c2 w2 u (values.Place m o) = subst (IsToldBy g a place c2 w2 u) same h in
      follows_weaken g i (weight + 2600) (weight + 2600 + 4000) (Running k (x ∷ vs) c2) (place_in g a (p + length told)) u later (omega arith)
      (rest i x c2 w2 b2 u later (omega (arith, lt, less)) kept (subst (IsToldBy g a (moved place offset) c2 w2 u) (sym known.is) (told_on g a c2 w2 b2 u kept.joins m o offset known.to known.inside (λ low. omega (arith, to_is, low)) place has_one there)) turned2))))

  by_address : has_base place offset ≡ false → Goes (moved place offset) (lines ++ (offset_code offset ++ []))
  by_address has_none has rest =
      let whole : lines ++ (offset_code offset ++ []) ≡ lines ++ offset_code offset = ap (λ ls. lines ++ ls) (append_end (offset_code offset)) in
      address_does g a placed (shape_in g a e) shape (plan (unit_in g) e) (need e) pushed offset lines (address pushed fresh) n weight p k vs c w b t seen (subst (HasAt (lines_of g a) p) whole has) r turned (λ j v c2 w2 b2 u later lt done turned2.
      subst (λ ls. Follows g j (weight + 2600) (Running k (v ∷ vs) c2) (place_in g a (p + length ls)) u later) whole
      (rest j v c2 w2 b2 u later lt done.kept (subst (λ z. IsToldBy g a z c2 w2 u v) (sym (far_place place offset has_none)) (placed_is_told g a c2 w2 u v done.result)) (subst (λ ls. HasTurns g c2.turns (place_in g a (p + length ls)) later) (sym whole) turned2)))

  by_place : (known : Bool) → has_base place offset ≡ known → Goes (moved place offset) (if known then told else lines ++ (offset_code offset ++ []))
  by_place true h = by_base h
  by_place false h = by_address h

pub members_are_bases : MembersAreBases
members_are_bases g a t e m placed parts base address pushed fresh n w p k vs c q b s seen has r turned rest =
    let offset : ℕ = offset_of (member_at (unit_in g).types (bare_type e) m) in
    subst (λ (o : ℕ). Goes g a placed e (shape_in g a (node t (member e m))) base address pushed fresh offset n w p k vs c q b s seen r turned (moved (place_of a.frame pushed e) o) (if has_base (place_of a.frame pushed e) o then base_code a.frame pushed fresh Registers e else expr_code a.frame pushed fresh wanted.Value e ++ (offset_code o ++ [])))
    (sym (offset_is g a e m parts)) (by_place g a placed e (shape_in g a (node t (member e m))) base address pushed fresh offset n w p k vs c q b s seen r turned (has_base (place_of a.frame pushed e) offset) refl) has rest
