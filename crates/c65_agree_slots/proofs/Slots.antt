-- The frame of a function takes the arguments of a call.
use Rattle.std.proofs.Common.{◌≡◌, ℕ, suc, ◌+◌, ◌-◌, ◌≤◌, Bool, true, false, List, [], ◌∷◌, Option, Some, None, length, take, refl, sym, ap, ◌∙◌, subst, arith}
use Rattle.std.specs.Prelude.{not, if◌then◌else◌, nat_lt, slice_get, Ok, Err}
use Rattle.c65_ctype.specs.Views.{types_of}
use Rattle.c65_csem.specs.declared.items.Parts.{Parts}
use Rattle.c65_csem.specs.Trees.{Nodes, none, some, UnitTy}
use Rattle.c65_csem.specs.Views.{unit_of}
use Rattle.c65_meaning.specs.Shapes as shapes
use Rattle.c65_base.specs.declared.refusal.Size.TheVariants as sizes_refused
use Rattle.c65_base.specs.Answers.{large}
use Rattle.c65_genframe.specs.declared.home.Home.{Home}
use Rattle.c65_genframe.specs.declared.home.Home.TheVariants.{Bank, Soft}
use Rattle.c65_genframe.specs.declared.home.Arrival.{Arrival}
use Rattle.c65_genframe.specs.declared.home.Arrival.TheVariants.{Passed, Pushed, Kept}
use Rattle.c65_genframe.specs.Objects.{locals_of}
use Rattle.c65_genframe.specs.Marks.{lowest}
use Rattle.c65_genframe.specs.Places.{Places}
use Rattle.c65_genframe.specs.Sizes.{object_in, slot_bytes, bank_bytes}
use Rattle.c65_genframe.specs.Frames.{Framed, takes_stack, has_prototype, register_param, home_at, arrival_at, arrival, is_kept, without_last, saved_bytes, settled, check_of, passed_bytes, placed_in}
use Rattle.c65_genexpr.specs.Arguments.{stays, passed_size}
use Rattle.c65_agree_homes.specs.Slots.{all_slots}
use Rattle.c65_agree_registers.specs.Entries.{IsKeptBeside, HasMoves}
use Rattle.c65_agree_argument.specs.Passed.{IsTakenAt, IsKeptFor, IsTakenBy}
use Rattle.c65_agree_invoke.specs.Nodes.{arrival_of, IsArrival, stacked_of, HaveSlots}
use Rattle.c65_agree_slots.specs.Frames.{AreTakenFrom, IsKeptLast}
use Rattle.c65_agree_slots.specs.Slots.{AreOfSize, FramesHaveSlots}
use Rattle.c65_agree_slots.proofs.Frames.{object_banked, moved_few, frames_have_moves, frames_take_parameters}

-- the bytes in which parameters are passed
abbrev pub slot_in : Parts → Bool → ℕ → ℕ
slot_in parts prototype i = slot_bytes (types_of parts.types) prototype (object_in parts i)

pub answered : {A E : Type 0} (b : Bool) (x : E) (y f : A) → (if b then Err x else Ok y) ≡ Ok f → y ≡ f
answered true x y f e = cc
answered false x y f e = cc

-- ---- one below another

none_stays : (es : Nodes) → stays false es ≡ false
none_stays none = refl
none_stays (some e es) = refl

module _ (parts : Parts) (prototype : Bool) (f h : Framed) (at : ℕ) where
  abbrev u : UnitTy
  u = unit_of parts

  -- as many arguments as parameters
  pub as_many : (is : List ℕ) (es : Nodes) → AreOfSize parts prototype f is es → length is ≡ length (shapes.types_of es)
  as_many [] none sizes = refl
  as_many [] (some e es) sizes = absurd sizes
  as_many (i ∷ is) none sizes = absurd sizes
  as_many (i ∷ is) (some e es) sizes = ap suc (as_many is es sizes.2)

  -- where all come on the software stack
  all_are : (is : List ℕ) (es : Nodes) → AreOfSize parts prototype f is es → all_slots parts prototype is ≡ stacked_of false f es
  all_are [] none sizes = refl
  all_are [] (some e es) sizes = absurd sizes
  all_are (i ∷ is) none sizes = absurd sizes
  all_are (i ∷ is) (some e es) sizes =
      subst (λ (b : Bool). all_slots parts prototype (i ∷ is) ≡ (if b then 0 else passed_size f e) + stacked_of false f es) (sym (none_stays es)) (omega (arith, sizes.0, all_are is es sizes.2))

  all_slot : (is : List ℕ) (es : Nodes) → AreOfSize parts prototype f is es → AreTakenFrom parts prototype h at is → HaveSlots false u f h at is es
  all_slot [] none sizes taken = tt
  all_slot [] (some e es) sizes taken = absurd sizes
  all_slot (i ∷ is) none sizes taken = absurd sizes
  all_slot (i ∷ is) (some e es) sizes taken =
      let here : IsTakenAt u h i (at + stacked_of false f es) = subst (λ (n : ℕ). IsTakenAt u h i (at + n)) (all_are is es sizes.2) taken.0 in
      (subst (λ (b : Bool). IsTakenBy b u h i (at + stacked_of false f es)) (sym (none_stays es)) here, sizes.1, all_slot is es sizes.2 taken.1)

  -- where the last one is kept in registers
  kept_are : (i : ℕ) (is : List ℕ) (es : Nodes) → AreOfSize parts prototype f (i ∷ is) es → all_slots parts prototype (take (length is) (i ∷ is)) ≡ stacked_of true f es
  kept_are i is none sizes = absurd sizes
  kept_are i [] (some e none) sizes = refl
  kept_are i [] (some e (some e2 es)) sizes = absurd sizes.2
  kept_are i (j ∷ js) (some e none) sizes = absurd sizes.2
  kept_are i (j ∷ js) (some e (some e2 es)) sizes = omega (arith, sizes.0, kept_are j js (some e2 es) sizes.2)

  kept_slot : (i : ℕ) (is : List ℕ) (es : Nodes) → AreOfSize parts prototype f (i ∷ is) es → AreTakenFrom parts prototype h at (take (length is) (i ∷ is)) → ((l : ℕ) → slice_get (i ∷ is) (length is) ≡ Some l → IsKeptFor u h l)
      → HaveSlots true u f h at (i ∷ is) es
  kept_slot i is none sizes taken last = absurd sizes
  kept_slot i [] (some e none) sizes taken last = (last i refl, sizes.1, tt)
  kept_slot i [] (some e (some e2 es)) sizes taken last = absurd sizes.2
  kept_slot i (j ∷ js) (some e none) sizes taken last = absurd sizes.2
  kept_slot i (j ∷ js) (some e (some e2 es)) sizes taken last =
      (subst (λ (n : ℕ). IsTakenAt u h i (at + n)) (kept_are j js (some e2 es) sizes.2) taken.0, sizes.1, kept_slot j js (some e2 es) sizes.2 taken.1 last)

  -- the frame takes the arguments
  record Takes (kept : Bool) (is : List ℕ) (es : Nodes) : Type 0 where
    slots : HaveSlots kept u f h at is es
    stacked : all_slots parts prototype (without_last kept is) ≡ stacked_of kept f es

  takes : (kept : Bool) (is : List ℕ) (es : Nodes) → AreOfSize parts prototype f is es → AreTakenFrom parts prototype h at (without_last kept is) → (kept ≡ true → (l : ℕ) → slice_get is (length is - 1) ≡ Some l → IsKeptFor u h l) → Takes kept is es
  takes false is es sizes taken last = record { slots = all_slot is es sizes taken; stacked = all_are is es sizes }
  takes true [] none sizes taken last = record { slots = tt; stacked = refl }
  takes true [] (some e es) sizes taken last = absurd sizes
  takes true (i ∷ is) es sizes taken last =
      let n : length (i ∷ is) - 1 ≡ length is = omega arith in
      record {
        slots = kept_slot i is es sizes (subst (λ (m : ℕ). AreTakenFrom parts prototype h at (take m (i ∷ is))) n taken) (λ l e. last refl l (ap (slice_get (i ∷ is)) n ∙ e));
        stacked = subst (λ (m : ℕ). all_slots parts prototype (take m (i ∷ is)) ≡ stacked_of true f es) (sym n) (kept_are i is es sizes);
      }

-- ---- the one that comes in registers

module _ (parts : Parts) (prototype : Bool) (f : Framed) where
  pushed_at : (i : ℕ) (home : Option Home) → ((bank bytes : ℕ) → arrival_at parts prototype i home ≡ Kept bank bytes → ⊥) → arrival_at parts prototype i home ≡ Pushed (slot_in parts prototype i)
  pushed_at i (Some (Bank b)) free = absurd (free b (bank_bytes true (object_in parts i)) refl)
  pushed_at i (Some (Soft d)) free = refl
  pushed_at i None free = refl

  none_last : (es : Nodes) → arrival_of f false es ≡ Passed
  none_last none = refl
  none_last (some e none) = refl
  none_last (some e (some e2 es)) = none_last (some e2 es)

  -- the last one of a list
  record IsLast (is : List ℕ) (es : Nodes) : Type 0 where
    object : ℕ
    is_last : slice_get is (length is - 1) ≡ Some object
    arrives : arrival_of f true es ≡ Pushed (slot_in parts prototype object)

  last_of : (j : ℕ) (is : List ℕ) (es : Nodes) → AreOfSize parts prototype f (j ∷ is) es → IsLast (j ∷ is) es
  last_of j is none h = absurd h
  last_of j [] (some e none) h = record { object = j; is_last = refl; arrives = ap Pushed (sym h.0) }
  last_of j [] (some e (some e2 es)) h = absurd h.2
  last_of j (k ∷ is) (some e none) h = absurd h.2
  last_of j (k ∷ is) (some e (some e2 es)) h =
      let others : IsLast (k ∷ is) (some e2 es) = last_of k is (some e2 es) h.2 in
      let at : length (j ∷ k ∷ is) - 1 ≡ suc (length (k ∷ is) - 1) = omega arith in
      record { object = others.object; is_last = ap (slice_get (j ∷ k ∷ is)) at ∙ others.is_last; arrives = others.arrives }

  arrives_by : (low : ℕ) (stack : Bool) (hs : List (Option Home)) (is : List ℕ) (es : Nodes) → AreOfSize parts prototype f is es
      → ((bank bytes : ℕ) → arrival parts prototype low hs (if stack then None else slice_get is (length is - 1)) ≡ Kept bank bytes → ⊥)
      → arrival parts prototype low hs (if stack then None else slice_get is (length is - 1)) ≡ arrival_of f (not stack) es
  arrives_by low true hs is es h free = sym (none_last es)
  arrives_by low false hs [] none h free = refl
  arrives_by low false hs [] (some e es) h free = absurd h
  arrives_by low false hs (j ∷ is) es h free =
      let l : IsLast (j ∷ is) es = last_of j is es h in
      let own : arrival parts prototype low hs (slice_get (j ∷ is) (length (j ∷ is) - 1)) ≡ arrival_at parts prototype l.object (home_at low hs l.object) = ap (arrival parts prototype low hs) l.is_last in
      own ∙ (pushed_at l.object (home_at low hs l.object) (λ bank bytes e. free bank bytes (own ∙ e)) ∙ sym l.arrives)

  module _ (low : ℕ) (hs : List (Option Home)) (is : List ℕ) (es : Nodes) (sizes : AreOfSize parts prototype f is es) where
    fast_kept : (stack : Bool) (bank bytes : ℕ) → arrival parts prototype low hs (if stack then None else slice_get is (length is - 1)) ≡ Kept bank bytes → not stack ≡ true
    fast_kept true bank bytes e = let clash : Passed ≡ Kept bank bytes = e in cc
    fast_kept false bank bytes e = refl

    arrives_as : (stack : Bool) (last : Arrival) → arrival parts prototype low hs (if stack then None else slice_get is (length is - 1)) ≡ last → IsArrival f (not stack) es last
    arrives_as stack Passed e = sym e ∙ arrives_by low stack hs is es sizes (λ bank bytes k. let clash : Passed ≡ Kept bank bytes = sym e ∙ k in cc)
    arrives_as stack (Pushed n) e = sym e ∙ arrives_by low stack hs is es sizes (λ bank bytes k. let clash : Pushed n ≡ Kept bank bytes = sym e ∙ k in cc)
    arrives_as stack (Kept bank bytes) e = fast_kept stack bank bytes e

-- ---- the frame

module _ (parts : Parts) (h : Framed) (params : List ℕ) (moves : HasMoves h) (is_last : (bank bytes : ℕ) → h.last ≡ Kept bank bytes → IsKeptLast parts h params bank bytes) where
  kept_by : (last : Arrival) → h.last ≡ last → is_kept last ≡ true → (l : ℕ) → slice_get params (length params - 1) ≡ Some l → IsKeptFor (unit_of parts) h l
  kept_by Passed e k l there = let clash : false ≡ true = k in cc
  kept_by (Pushed n) e k l there = let clash : false ≡ true = k in cc
  kept_by (Kept bank bytes) e k l there =
      let own : IsKeptLast parts h params bank bytes = is_last bank bytes e in
      let same : own.object ≡ l = (let both : Some own.object ≡ Some l = sym own.is_last ∙ there in cc) in
      let beside : IsKeptBeside (saved_bytes h.bank) (Kept bank bytes) h.moved = subst (λ (a : Arrival). IsKeptBeside (saved_bytes h.bank) a h.moved) e moves.kept in
      let least : 1 ≤ bank_bytes true (object_in parts own.object) = omega (arith, own.size, beside.0.some) in
      let kept : IsKeptFor (unit_of parts) h own.object = record { bank = bank; bytes = bytes; last = e; home = own.home; size = omega (arith, own.size, object_banked parts own.object least) } in
      subst (IsKeptFor (unit_of parts) h) same kept

pub frames_have_slots : FramesHaveSlots
frames_have_slots parts modes g f h es framed distinct sizes =
    let p : Places = placed_in parts modes g in
    let low : ℕ = lowest (locals_of g) g.params in
    let is_frame : settled parts (check_of parts modes g) g low (passed_bytes parts g) p ≡ h = answered (nat_lt 1024 p.total) (large sizes_refused.Frame p.total) (settled parts (check_of parts modes g) g low (passed_bytes parts g) p) h framed in
    let last_is : arrival parts (has_prototype g.ty) low p.homes (register_param g) ≡ h.last = ap (λ (z : Framed). z.last) is_frame in
    let taken = frames_take_parameters parts modes g h framed distinct in
    let t : Takes parts (has_prototype g.ty) f h (h.soft + saved_bytes h.bank) (is_kept h.last) g.params es =
    takes parts (has_prototype g.ty) f h (h.soft + saved_bytes h.bank) (is_kept h.last) g.params es sizes taken.0 (λ k l there. kept_by parts h g.params (frames_have_moves parts modes g h framed distinct) taken.2 h.last refl k l there) in
    record {
      slots = t.slots;
      arrives = arrives_as parts (has_prototype g.ty) f low p.homes g.params es sizes (takes_stack g.ty) h.last last_is;
      stacked = taken.1 ∙ t.stacked;
      few = omega (arith, moved_few parts modes g h framed distinct, as_many parts (has_prototype g.ty) f h 0 g.params es sizes);
    }
