-- The parameters that a frame moves to regbank.
use Rattle.std.proofs.Common.{◌≡◌, ℕ, zero, suc, ◌+◌, ◌-◌, ◌<◌, ◌≤◌, ◌⊎◌, inl, inr, Bool, true, false, Option, None, Some, List, [], ◌∷◌, ◌++◌, length, refl, sym, ap, ◌∙◌, subst, slice_get, slice_set, arith, append_assoc, append-nil, length-append, take}
use Rattle.std.specs.Prelude.{if◌then◌else◌, ◌&&◌, nat_lt, nat_le, Ok}
use Rattle.std.proofs.lemmas.Bool.{cases_lt, le-leb, ltb-false}
use Rattle.std.proofs.lemmas.Option.{slice_get-map}
use Rattle.c65_base.specs.declared.refusal.Size.TheVariants as sizes
use Rattle.c65_base.specs.Answers.{large}
use Rattle.c65_ints.specs.declared.types.IntType.TheVariants.{SChar, UChar, Short, UShort, Int, UInt, Long, ULong}
use Rattle.c65_ctype.specs.Sizes.{size_of}
use Rattle.c65_ctype.specs.Trees.{Ty, void, int, pointer, array, tag, function, type_in, TypesTy}
use Rattle.c65_ctype.specs.Views.{types_of}
use Rattle.c65_csem.specs.declared.items.Parts.{Parts}
use Rattle.c65_csem.specs.Places.{is_register}
use Rattle.c65_csem.specs.Statements.{IsDistinct}
use Rattle.c65_csem.specs.Trees.{FuncTy, ObjectTy}
use Rattle.c65_csem.specs.Views.{unit_of, object_of}
use Rattle.c65_meaning.specs.After.{is_among}
use Rattle.c65_meaning.specs.Shapes as shapes
use Rattle.c65_genframe.specs.declared.modes.Modes.{Modes}
use Rattle.c65_genframe.specs.declared.home.Home.{Home}
use Rattle.c65_genframe.specs.declared.home.Home.TheVariants.{Bank, Soft}
use Rattle.c65_genframe.specs.declared.home.Arrival.{Arrival}
use Rattle.c65_genframe.specs.declared.home.Arrival.TheVariants.{Passed, Pushed, Kept}
use Rattle.c65_genframe.specs.declared.home.Moved.{Moved}
use Rattle.c65_genframe.specs.Marks.{lowest, all_marks}
use Rattle.c65_genframe.specs.Objects.{locals_of}
use Rattle.c65_genframe.specs.Places.{Places, none_placed}
use Rattle.c65_genframe.specs.Arrivals.{Arrivals, arrive, with_slot, arrived}
use Rattle.c65_genframe.specs.Sizes.{object_in, slot_bytes, bank_size, bank_bytes}
use Rattle.c65_genframe.specs.Frames.{Framed, is_variadic, takes_stack, has_prototype, register_param, flat, home_at, home_of, arrival_at, arrival, is_kept, last_bytes, without_last, bytes_without, saved_bytes, first_arrivals, check_of, settled, passed_bytes, placed_in, frame_of}
use Rattle.c65_gen_law_lines.proofs.FrameLaws.{all_room, answered}
use Rattle.c65_agree_enter.specs.Params.{AreDistinct, bytes_of}
use Rattle.c65_agree_homes.specs.Slots.{all_slots}
use Rattle.c65_agree_homes.proofs.Among.{among_here, among_more, among_take, among_clash, at_among}
use Rattle.c65_agree_homes.proofs.Apart.{banks_apart}
use Rattle.c65_agree_homes.proofs.Arrived.{set_here, one_left, arrived_other, ParameterHome, slots_sum, sum_last}
use Rattle.c65_agree_homes.proofs.Distinct.{are_distinct, distinct_take, last_apart}
use Rattle.c65_agree_homes.proofs.Homes.{HaveFrame, frames_have_homes, some_length}
use Rattle.c65_agree_homes.proofs.Marks.{param_low}
use Rattle.c65_agree_homes.proofs.Sizes.{bank_whole, slot_most}
use Rattle.c65_agree_registers.specs.Entries.{IsBanked, IsBeside, AreBeside, AreMoves, IsKeptBeside}
use Rattle.c65_agree_slots.specs.Frames.{FramesHaveMoves, AreTakenFrom, IsKeptLast, FramesTakeParameters}
use Rattle.c65_agree_argument.specs.Passed.{IsTakenAt, stays, moves}

-- ---- homes in regbank

abbrev bank_at : Option (Option Home) → Option ℕ
bank_at (Some (Some (Bank b))) = Some b
bank_at _ = None

set_bank : (hs : List (Option Home)) (k d o m : ℕ) → slice_get hs k ≡ Some (Some (Soft o)) → bank_at (slice_get (slice_set hs k (Some (Soft d))) m) ≡ bank_at (slice_get hs m)
set_bank [] k d o m e = refl
set_bank (None ∷ hs) zero d o m e = cc
set_bank (Some (Bank b) ∷ hs) zero d o m e = cc
set_bank (Some (Soft c) ∷ hs) zero d o zero e = refl
set_bank (Some (Soft c) ∷ hs) zero d o (suc m) e = refl
set_bank (x ∷ hs) (suc k) d o zero e = refl
set_bank (x ∷ hs) (suc k) d o (suc m) e = set_bank hs k d o m e

arrive_bank : (from at bank left m : ℕ) (h : Option (Option Home)) (a : Arrivals) → slice_get a.homes at ≡ h → bank_at (slice_get (arrive from at bank h left a).homes m) ≡ bank_at (slice_get a.homes m)
arrive_bank from at bank left m (Some (Some (Bank b))) a e = refl
arrive_bank from at bank left m (Some (Some (Soft o))) a e = set_bank a.homes at from o m e
arrive_bank from at bank left m (Some None) a e = refl
arrive_bank from at bank left m None a e = refl

-- a parameter that moves, or none
abbrev move_by : ℕ → ℕ → Option ℕ → List Moved
move_by bytes from (Some b) = record { bank = b; from = from; bytes = bytes } ∷ []
move_by bytes from None = []

arrive_moved : (from at bank left : ℕ) (h : Option (Option Home)) (a : Arrivals) → (arrive from at bank h left a).moved ≡ a.moved ++ move_by bank from (bank_at h)
arrive_moved from at bank left (Some (Some (Bank b))) a = refl
arrive_moved from at bank left (Some (Some (Soft o))) a = sym (append-nil a.moved)
arrive_moved from at bank left (Some None) a = sym (append-nil a.moved)
arrive_moved from at bank left None a = sym (append-nil a.moved)

module _ (parts : Parts) (prototype : Bool) (low base : ℕ) where
  abbrev slot : ℕ → ℕ
  slot i = slot_bytes (types_of parts.types) prototype (object_in parts i)

  abbrev bytes : ℕ → ℕ
  bytes i = bank_bytes true (object_in parts i)

  -- those of a list that move
  abbrev moves_of : List (Option Home) → List ℕ → List Moved
  moves_of hs [] = []
  moves_of hs (i ∷ is) = move_by (bytes i) (base + all_slots parts prototype is) (bank_at (slice_get hs (i - low))) ++ moves_of hs is

  abbrev next : ℕ → Arrivals → Arrivals
  next i a = with_slot base (i - low) (slot i) (bytes i) a

  arrived_bank : (is : List ℕ) (a : Arrivals) (m : ℕ) → bank_at (slice_get (arrived parts prototype low base is a).homes m) ≡ bank_at (slice_get a.homes m)
  arrived_bank [] a m = refl
  arrived_bank (i ∷ is) a m = arrived_bank is (next i a) m ∙ arrive_bank (base + (a.left - slot i)) (i - low) (bytes i) (a.left - slot i) m (slice_get a.homes (i - low)) a refl

  arrived_moved : (is : List ℕ) (a : Arrivals) → a.left ≡ all_slots parts prototype is → (arrived parts prototype low base is a).moved ≡ a.moved ++ moves_of (arrived parts prototype low base is a).homes is
  arrived_moved [] a left = sym (append-nil a.moved)
  arrived_moved (i ∷ is) a left =
      let b : Arrivals = next i a in
      let hs : List (Option Home) = (arrived parts prototype low base is b).homes in
      let rest : b.left ≡ all_slots parts prototype is = one_left (base + (a.left - slot i)) (i - low) (bytes i) (a.left - slot i) (slice_get a.homes (i - low)) a ∙ omega (arith, left) in
      let from : base + (a.left - slot i) ≡ base + all_slots parts prototype is = omega (arith, left) in
      let home : bank_at (slice_get a.homes (i - low)) ≡ bank_at (slice_get hs (i - low)) = sym (arrived_bank (i ∷ is) a (i - low)) in
      let first : b.moved ≡ a.moved ++ move_by (bytes i) (base + all_slots parts prototype is) (bank_at (slice_get hs (i - low))) =
      arrive_moved (base + (a.left - slot i)) (i - low) (bytes i) (a.left - slot i) (slice_get a.homes (i - low)) a ∙ (ap (λ (n : ℕ). a.moved ++ move_by (bytes i) n (bank_at (slice_get a.homes (i - low)))) from ∙ ap (λ (o : Option ℕ). a.moved ++ move_by (bytes i) (base + all_slots parts prototype is) o) home) in
      arrived_moved is b rest ∙ (ap (λ (ms : List Moved). ms ++ moves_of hs is) first ∙ append_assoc a.moved (move_by (bytes i) (base + all_slots parts prototype is) (bank_at (slice_get hs (i - low)))) (moves_of hs is))

  few_move : (bytes from : ℕ) (o : Option ℕ) → length (move_by bytes from o) ≤ 1
  few_move bytes from None = omega arith
  few_move bytes from (Some b) = omega arith

  few_of : (hs : List (Option Home)) (is : List ℕ) → length (moves_of hs is) ≤ length is
  few_of hs [] = omega arith
  few_of hs (i ∷ is) =
      let home : Option ℕ = bank_at (slice_get hs (i - low)) in
      let from : ℕ = base + all_slots parts prototype is in
      omega (arith, length-append (move_by (bytes i) from home) (moves_of hs is), few_move (bytes i) from home, few_of hs is)

-- the item behind others of a list
item_behind : (xs : List Moved) (m : Moved) (ys : List Moved) → slice_get ((xs ++ m ∷ []) ++ ys) (length xs) ≡ Some m
item_behind [] m ys = refl
item_behind (x ∷ xs) m ys = item_behind xs m ys

-- ---- sizes

type_banked : (types : TypesTy) (t : Ty) → 1 ≤ bank_size t → size_of types t ≤ bank_size t
type_banked types void h = absurd (omega (arith, h))
type_banked types (int SChar) h = omega arith
type_banked types (int UChar) h = omega arith
type_banked types (int Short) h = omega arith
type_banked types (int UShort) h = omega arith
type_banked types (int Int) h = omega arith
type_banked types (int UInt) h = omega arith
type_banked types (int Long) h = absurd (omega (arith, h))
type_banked types (int ULong) h = absurd (omega (arith, h))
type_banked types (pointer q) h = omega arith
type_banked types (array q n) h = absurd (omega (arith, h))
type_banked types (tag n) h = absurd (omega (arith, h))
type_banked types (function f) h = absurd (omega (arith, h))

-- an object that stands in regbank has all its bytes there
pub object_banked : (parts : Parts) (i : ℕ) → 1 ≤ bank_bytes true (object_in parts i) → bytes_of (unit_of parts) i ≤ bank_bytes true (object_in parts i)
object_banked parts i h =
    subst (λ (o : Option ObjectTy). shapes.object_size (types_of parts.types) o ≤ bank_bytes true (object_in parts i)) (sym (slice_get-map object_of parts.objects.items i)) (go (object_in parts i) h)
  where
    by : (o : ObjectTy) (r : Bool) → 1 ≤ (if true && r then bank_size (type_in o.ty) else 0) → size_of (types_of parts.types) (type_in o.ty) ≤ (if true && r then bank_size (type_in o.ty) else 0)
    by o true h = type_banked (types_of parts.types) (type_in o.ty) h
    by o false h = absurd (omega (arith, h))

    go : (o : Option ObjectTy) → 1 ≤ bank_bytes true o → shapes.object_size (types_of parts.types) o ≤ bank_bytes true o
    go None h = absurd (omega (arith, h))
    go (Some o) h = by o (is_register o.class) h

two_most : (t : Ty) → bank_size t ≤ 2
two_most void = omega arith
two_most (int SChar) = omega arith
two_most (int UChar) = omega arith
two_most (int Short) = omega arith
two_most (int UShort) = omega arith
two_most (int Int) = omega arith
two_most (int UInt) = omega arith
two_most (int Long) = omega arith
two_most (int ULong) = omega arith
two_most (pointer q) = omega arith
two_most (array q n) = omega arith
two_most (tag n) = omega arith
two_most (function f) = omega arith

bytes_most : (o : Option ObjectTy) → bank_bytes true o ≤ 2
bytes_most None = omega arith
bytes_most (Some o) = go (is_register o.class)
  where
    go : (b : Bool) → (if true && b then bank_size (type_in o.ty) else 0) ≤ 2
    go true = two_most (type_in o.ty)
    go false = omega arith

all_saved : (bank : ℕ) → bank ≤ 6 → saved_bytes bank ≡ bank
all_saved bank six = go (nat_lt bank 6) refl
  where
    go : (b : Bool) → nat_lt bank 6 ≡ b → (if b then bank else 6) ≡ bank
    go true e = refl
    go false e = omega (arith, six, ltb-false bank 6 e)

-- ---- a frame

home_bank : (low : ℕ) (hs : List (Option Home)) (i b : ℕ) → low ≤ i → bank_at (slice_get hs (i - low)) ≡ Some b → home_at low hs i ≡ Some (Bank b)
home_bank low hs i b le e = ap (λ (x : Bool). if x then flat (slice_get hs (i - low)) else None) (le-leb low i le) ∙ go (slice_get hs (i - low)) e
  where
    go : (o : Option (Option Home)) → bank_at o ≡ Some b → flat o ≡ Some (Bank b)
    go (Some (Some (Bank c))) e = let same : c ≡ b = cc in ap (λ (n : ℕ). Some (Bank n)) same
    go (Some (Some (Soft d))) e = cc
    go (Some None) e = cc
    go None e = cc

-- a home in regbank stands in the list
first_bank : (low : ℕ) (hs : List (Option Home)) (i b : ℕ) → home_at low hs i ≡ Some (Bank b) → bank_at (slice_get hs (i - low)) ≡ Some b
first_bank low hs i b e = go (nat_le low i) e
  where
    by : (o : Option (Option Home)) → flat o ≡ Some (Bank b) → bank_at o ≡ Some b
    by (Some (Some (Bank c))) e = let same : c ≡ b = cc in ap (λ (n : ℕ). Some n) same
    by (Some (Some (Soft d))) e = cc
    by (Some None) e = cc
    by None e = cc

    go : (x : Bool) → (if x then flat (slice_get hs (i - low)) else None) ≡ Some (Bank b) → bank_at (slice_get hs (i - low)) ≡ Some b
    go true e = by (slice_get hs (i - low)) e
    go false e = cc

other_than : (i j : ℕ) (js : List ℕ) → is_among (j ∷ js) i ≡ false → (i ≡ j → ⊥) × (is_among js i ≡ false)
other_than i j js e = ((λ same. among_clash {A = ⊥} (j ∷ js) i (subst (λ (n : ℕ). is_among (n ∷ js) i ≡ true) same (among_here i js)) e), later (is_among js i) refl)
  where
    later : (b : Bool) → is_among js i ≡ b → is_among js i ≡ false
    later true h = among_clash (j ∷ js) i (among_more j js i h) e
    later false h = h

module _ (parts : Parts) (modes : Modes) (g : FuncTy) (f : Framed) (framed : frame_of parts modes g ≡ Ok f) (distinct : IsDistinct g.params) where
  abbrev prototype : Bool
  prototype = has_prototype g.ty

  abbrev p : Places
  p = placed_in parts modes g

  abbrev low : ℕ
  low = lowest (locals_of g) g.params

  abbrev passed : ℕ
  passed = passed_bytes parts g

  abbrev r : Option ℕ
  r = register_param g

  abbrev last : Arrival
  last = arrival parts prototype low p.homes r

  abbrev base : ℕ
  base = p.soft + saved_bytes p.bank

  abbrev begun : Bool → Arrivals
  begun k = first_arrivals p (bytes_without k passed (last_bytes parts prototype r))

  abbrev come : Bool → Arrivals
  come k = arrived parts prototype low base (without_last k g.params) (begun k)

  given : (nat_lt 1024 p.total ≡ false) × (settled parts (check_of parts modes g) g low passed p ≡ f)
  given = answered (nat_lt 1024 p.total) (large sizes.Frame p.total) (settled parts (check_of parts modes g) g low passed p) f framed

  sum : passed ≡ all_slots parts prototype g.params
  sum = slots_sum parts prototype g.params 0 (all_room parts modes low (all_marks (locals_of g) g.params) (none_placed (is_variadic g.ty) passed) (ltb-false 1024 p.total given.0)).few ∙ omega arith

  apart : AreDistinct g.params
  apart = are_distinct g.params distinct

  frame : HaveFrame parts g f
  frame = frames_have_homes parts modes g f framed apart

  -- ---- the last parameter, where it is kept in regbank

  record IsLast (bank count : ℕ) : Type 0 where
    object : ℕ
    is_last : slice_get g.params (length g.params - 1) ≡ Some object
    named : r ≡ Some object
    home : home_at low p.homes object ≡ Some (Bank bank)
    size : count ≡ bank_bytes true (object_in parts object)

  kept_by : (bank count : ℕ) (o : Option ℕ) → r ≡ o → arrival parts prototype low p.homes o ≡ Kept bank count → IsLast bank count
  kept_by bank count None e k = cc
  kept_by bank count (Some i) e k = go (home_at low p.homes i) refl k
    where
      named : (b : Bool) → (if b then None else slice_get g.params (length g.params - 1)) ≡ Some i → slice_get g.params (length g.params - 1) ≡ Some i
      named true h = cc
      named false h = h

      go : (h : Option Home) → home_at low p.homes i ≡ h → arrival_at parts prototype i h ≡ Kept bank count → IsLast bank count
      go None h k = cc
      go (Some (Soft d)) h k = cc
      go (Some (Bank b)) h k =
          let same : b ≡ bank = cc in
          let size : bank_bytes true (object_in parts i) ≡ count = cc in
          record { object = i; is_last = named (takes_stack g.ty) e; named = e; home = h ∙ ap (λ (n : ℕ). Some (Bank n)) same; size = sym size }

  -- ---- the others

  is_kept_last : (a : Arrival) → is_kept a ≡ true → (bank : ℕ) × (count : ℕ) × (a ≡ Kept bank count)
  is_kept_last Passed e = cc
  is_kept_last (Pushed n) e = cc
  is_kept_last (Kept bank count) e = (bank, count, refl)

  -- the bytes of the parameters that are not kept
  left : (k : Bool) → is_kept last ≡ k → bytes_without k passed (last_bytes parts prototype r) ≡ all_slots parts prototype (without_last k g.params)
  left false e = sum
  left true e =
      let its = is_kept_last last e in
      let l : IsLast its.0 its.1 = kept_by its.0 its.1 r refl its.2 in
      let n : ℕ = length g.params - 1 in
      let whole : n + 1 ≡ length g.params = omega (arith, some_length g.params n l.object l.is_last) in
      let slot_is : last_bytes parts prototype r ≡ slot_bytes (types_of parts.types) prototype (object_in parts l.object) = ap (last_bytes parts prototype) l.named in
      omega (arith, sum, slot_is, sum_last parts prototype g.params n l.object l.is_last whole)

  among_all : (k : Bool) (j : ℕ) → is_among (without_last k g.params) j ≡ true → is_among g.params j ≡ true
  among_all false j e = e
  among_all true j e = among_take (length g.params - 1) g.params j e

  apart_all : (k : Bool) → AreDistinct (without_last k g.params)
  apart_all false = apart
  apart_all true = distinct_take (length g.params - 1) g.params apart

  module _ (k : Bool) (is : is_kept last ≡ k) where
    homes_are : f.homes ≡ (come k).homes
    homes_are = sym (ap (λ (z : Framed). z.homes) given.1) ∙ ap (λ (b : Bool). (come b).homes) is

    moved_are : f.moved ≡ moves_of parts prototype low base (come k).homes (without_last k g.params)
    moved_are = sym (ap (λ (z : Framed). z.moved) given.1) ∙ (ap (λ (b : Bool). (come b).moved) is ∙ arrived_moved parts prototype low base (without_last k g.params) (begun k) (left k is))

    stacked_is : f.stacked ≡ all_slots parts prototype (without_last k g.params)
    stacked_is = sym (ap (λ (z : Framed). z.stacked) given.1) ∙ (ap (λ (b : Bool). bytes_without b passed (last_bytes parts prototype r)) is ∙ left k is)

    base_is : base ≡ f.soft + saved_bytes f.bank
    base_is = let soft : p.soft ≡ f.soft = ap (λ (z : Framed). z.soft) given.1 in let bank : saved_bytes p.bank ≡ saved_bytes f.bank = ap (λ (z : Framed). saved_bytes z.bank) given.1 in omega (arith, soft, bank)

    abbrev hs : List (Option Home)
    hs = (come k).homes

    own_home : (i b : ℕ) → is_among g.params i ≡ true → bank_at (slice_get hs (i - low)) ≡ Some b → home_of f i ≡ Some (Bank b)
    own_home i b e there =
        let lowest_is : f.low ≡ low = sym (ap (λ (z : Framed). z.low) given.1) in
        ap (λ (n : ℕ). home_at n f.homes i) lowest_is ∙ (ap (λ (xs : List (Option Home)). home_at low xs i) homes_are ∙ home_bank low hs i b (param_low (locals_of g) g.params i e) there)

    -- so many bytes of regbank, which the function takes
    banked : (i b : ℕ) → is_among g.params i ≡ true → home_of f i ≡ Some (Bank b) → IsBanked (saved_bytes f.bank) b (bank_bytes true (object_in parts i))
    banked i b e home =
        let by : ParameterHome parts prototype i (f.soft + saved_bytes f.bank) (f.soft + saved_bytes f.bank + f.stacked) f.bank (Some (Bank b)) = subst (ParameterHome parts prototype i (f.soft + saved_bytes f.bank) (f.soft + saved_bytes f.bank + f.stacked) f.bank) home (frame.params i e) in
        record { some = by.0; few = bytes_most (object_in parts i); within = omega (arith, by.1, all_saved f.bank frame.six) }

    -- no other parameter moves there
    beside_all : (i b x : ℕ) → is_among g.params i ≡ true → home_of f i ≡ Some (Bank b) → b ≤ x → x < b + bank_bytes true (object_in parts i) → (is : List ℕ) → ((j : ℕ) → is_among is j ≡ true → is_among g.params j ≡ true) → is_among is i ≡ false
        → AreBeside x (moves_of parts prototype low base hs is)
    beside_all i b x e home le lt [] inside other = tt
    beside_all i b x e home le lt (j ∷ js) inside other =
        let differ : (i ≡ j → ⊥) × (is_among js i ≡ false) = other_than i j js other in
        go differ.0 (bank_at (slice_get hs (j - low))) refl (beside_all i b x e home le lt js (λ n a. inside n (among_more j js n a)) differ.1)
      where
        go : (i ≡ j → ⊥) → (o : Option ℕ) → bank_at (slice_get hs (j - low)) ≡ o → AreBeside x (moves_of parts prototype low base hs js) → AreBeside x (move_by (bank_bytes true (object_in parts j)) (base + all_slots parts prototype js) o ++ moves_of parts prototype low base hs js)
        go differ None there rest = rest
        go differ (Some c) there rest = (by (cases_lt x c), rest)
          where
            mine : home_of f j ≡ Some (Bank c)
            mine = own_home j c (inside j (among_here j js)) there

            by : (x < c) ⊎ (c ≤ x) → IsBeside x c (bank_bytes true (object_in parts j))
            by (inl below) = inl below
            by (inr above) = above_by (cases_lt x (c + bank_bytes true (object_in parts j)))
              where
                above_by : (x < c + bank_bytes true (object_in parts j)) ⊎ (c + bank_bytes true (object_in parts j) ≤ x) → IsBeside x c (bank_bytes true (object_in parts j))
                above_by (inl inner) = absurd (banks_apart parts modes g f framed distinct i j b c x differ home mine le lt above inner)
                above_by (inr behind) = inr behind

    all_move : (is : List ℕ) → ((j : ℕ) → is_among is j ≡ true → is_among g.params j ≡ true) → AreDistinct is → all_slots parts prototype is ≤ f.stacked → AreMoves (saved_bytes f.bank) base (base + f.stacked) (moves_of parts prototype low base hs is)
    all_move [] inside d fits = tt
    all_move (i ∷ is) inside d fits = go (bank_at (slice_get hs (i - low))) refl (all_move is (λ n a. inside n (among_more i is n a)) d.1 (omega (arith, fits)))
      where
        go : (o : Option ℕ) → bank_at (slice_get hs (i - low)) ≡ o → AreMoves (saved_bytes f.bank) base (base + f.stacked) (moves_of parts prototype low base hs is) → AreMoves (saved_bytes f.bank) base (base + f.stacked) (move_by (bank_bytes true (object_in parts i)) (base + all_slots parts prototype is) o ++ moves_of parts prototype low base hs is)
        go None there rest = rest
        go (Some b) there rest =
            let among : is_among g.params i ≡ true = inside i (among_here i is) in
            let home : home_of f i ≡ Some (Bank b) = own_home i b among there in
            let own : IsBanked (saved_bytes f.bank) b (bank_bytes true (object_in parts i)) = banked i b among home in
            let whole = bank_whole (types_of parts.types) (object_in parts i) own.some in
            let most = slot_most (types_of parts.types) prototype (object_in parts i) in
            (own, omega arith, omega (arith, fits, whole, most), λ n lt. beside_all i b (b + n) among home (omega arith) (omega (arith, lt)) is (λ m a. inside m (among_more i is m a)) d.0, rest)

    all_moves : AreMoves (saved_bytes f.bank) (f.soft + saved_bytes f.bank) (f.soft + saved_bytes f.bank + f.stacked) f.moved
    all_moves =
        subst (λ (n : ℕ). AreMoves (saved_bytes f.bank) n (n + f.stacked) f.moved) base_is
        (subst (AreMoves (saved_bytes f.bank) base (base + f.stacked)) (sym moved_are) (all_move (without_last k g.params) (among_all k) (apart_all k) (omega (arith, stacked_is))))

  last_is : f.last ≡ last
  last_is = sym (ap (λ (z : Framed). z.last) given.1)

  kept_beside : (a : Arrival) → last ≡ a → IsKeptBeside (saved_bytes f.bank) a f.moved
  kept_beside Passed e = tt
  kept_beside (Pushed n) e = tt
  kept_beside (Kept bank count) e =
      let l : IsLast bank count = kept_by bank count r refl e in
      let kept : is_kept last ≡ true = ap is_kept e in
      let n : ℕ = length g.params - 1 in
      let among : is_among g.params l.object ≡ true = at_among g.params n l.object l.is_last in
      let there : bank_at (slice_get (come true).homes (l.object - low)) ≡ Some bank = arrived_bank parts prototype low base (without_last true g.params) (begun true) (l.object - low) ∙ first_bank low p.homes l.object bank l.home in
      let home : home_of f l.object ≡ Some (Bank bank) = own_home true kept l.object bank among there in
      let own : IsBanked (saved_bytes f.bank) bank count = subst (IsBanked (saved_bytes f.bank) bank) (sym l.size) (banked true kept l.object bank among home) in
      let size = l.size in (
        own,
        λ i lt. subst (AreBeside (bank + i)) (sym (moved_are true kept))
            (beside_all true kept l.object bank (bank + i) among home (omega arith) (omega (arith, lt, size)) (without_last true g.params) (among_all true) (last_apart g.params n l.object apart l.is_last)),
      )

  -- ---- where they come from

  -- a parameter has a home
  homed : (i : ℕ) → is_among g.params i ≡ true → home_of f i ≡ None → ⊥
  homed i e none = subst (ParameterHome parts prototype i (f.soft + saved_bytes f.bank) (f.soft + saved_bytes f.bank + f.stacked) f.bank) none (frame.params i e)

  -- the home of a number in the list
  own_by : (i : ℕ) (h : Option (Option Home)) → is_among g.params i ≡ true → slice_get f.homes (i - low) ≡ h → home_of f i ≡ flat h
  own_by i h e there =
      let lowest_is : f.low ≡ low = sym (ap (λ (z : Framed). z.low) given.1) in
      ap (λ (n : ℕ). home_at n f.homes i) lowest_is ∙ (ap (λ (x : Bool). if x then flat (slice_get f.homes (i - low)) else None) (le-leb low i (param_low (locals_of g) g.params i e)) ∙ ap flat there)

  all_taken : (is : List ℕ) (a : Arrivals) → ((j : ℕ) → is_among is j ≡ true → is_among g.params j ≡ true) → AreDistinct is → a.left ≡ all_slots parts prototype is
      → f.homes ≡ (arrived parts prototype low base is a).homes → f.moved ≡ (arrived parts prototype low base is a).moved → AreTakenFrom parts prototype f base is
  all_taken [] a inside d left homes moved = tt
  all_taken (i ∷ is) a inside d left homes moved =
      let b : Arrivals = next parts prototype low base i a in
      let rest : b.left ≡ all_slots parts prototype is = one_left from (i - low) (bank_bytes true (object_in parts i)) (a.left - slot parts prototype low base i) (slice_get a.homes (i - low)) a ∙ omega (arith, left) in
      (one (slice_get a.homes (i - low)) refl (moved ∙ arrived_moved parts prototype low base is b rest), all_taken is b (λ n e. inside n (among_more i is n e)) d.1 rest homes moved)
    where
      from : ℕ
      from = base + (a.left - slot parts prototype low base i)

      among : is_among g.params i ≡ true
      among = inside i (among_here i is)

      from_is : from ≡ base + all_slots parts prototype is
      from_is = omega (arith, left)

      far : (j : ℕ) → is_among is j ≡ true → j - low ≡ i - low → ⊥
      far j e same =
          let other : low ≤ j = param_low (locals_of g) g.params j (inside j (among_more i is j e)) in
          let own : low ≤ i = param_low (locals_of g) g.params i among in
          let one : j ≡ i = omega (arith, same, other, own) in
          among_clash is i (subst (λ (n : ℕ). is_among is n ≡ true) one e) d.0

      there : slice_get f.homes (i - low) ≡ slice_get (next parts prototype low base i a).homes (i - low)
      there = ap (λ (hs : List (Option Home)). slice_get hs (i - low)) homes ∙ arrived_other parts prototype low base is (next parts prototype low base i a) (i - low) far

      one : (h : Option (Option Home)) → slice_get a.homes (i - low) ≡ h → f.moved ≡ (arrive from (i - low) (bank_bytes true (object_in parts i)) (slice_get a.homes (i - low)) (a.left - slot parts prototype low base i) a).moved ++ moves_of parts prototype low base (arrived parts prototype low base is (next parts prototype low base i a)).homes is
          → IsTakenAt (unit_of parts) f i (base + all_slots parts prototype is)
      one (Some (Some (Soft c))) e listed =
          let here : slice_get f.homes (i - low) ≡ Some (Some (Soft from)) = there ∙ (ap (λ (h : Option (Option Home)). slice_get (arrive from (i - low) (bank_bytes true (object_in parts i)) h (a.left - slot parts prototype low base i) a).homes (i - low)) e ∙ set_here a.homes (i - low) (Some (Soft c)) (Some (Soft from)) e) in
          stays (own_by i (Some (Some (Soft from))) among here ∙ ap (λ (n : ℕ). Some (Soft n)) from_is)
      one (Some (Some (Bank c))) e listed =
          let m : Moved = record { bank = c; from = from; bytes = bank_bytes true (object_in parts i) } in
          let behind : List Moved = moves_of parts prototype low base (arrived parts prototype low base is (next parts prototype low base i a)).homes is in
          let here : slice_get f.homes (i - low) ≡ Some (Some (Bank c)) = there ∙ (ap (λ (h : Option (Option Home)). slice_get (arrive from (i - low) (bank_bytes true (object_in parts i)) h (a.left - slot parts prototype low base i) a).homes (i - low)) e ∙ e) in
          let all : f.moved ≡ (a.moved ++ m ∷ []) ++ behind = listed ∙ ap (λ (h : Option (Option Home)). (arrive from (i - low) (bank_bytes true (object_in parts i)) h (a.left - slot parts prototype low base i) a).moved ++ behind) e in
          let home : home_of f i ≡ Some (Bank c) = own_by i (Some (Some (Bank c))) among here in
          let by : ParameterHome parts prototype i (f.soft + saved_bytes f.bank) (f.soft + saved_bytes f.bank + f.stacked) f.bank (Some (Bank c)) = subst (ParameterHome parts prototype i (f.soft + saved_bytes f.bank) (f.soft + saved_bytes f.bank + f.stacked) f.bank) home (frame.params i among) in
          moves (length a.moved) m (ap (λ (ms : List Moved). slice_get ms (length a.moved)) all ∙ item_behind a.moved m behind) home from_is (object_banked parts i by.0)
      one (Some None) e listed =
          let here : slice_get f.homes (i - low) ≡ Some None = there ∙ (ap (λ (h : Option (Option Home)). slice_get (arrive from (i - low) (bank_bytes true (object_in parts i)) h (a.left - slot parts prototype low base i) a).homes (i - low)) e ∙ e) in
          absurd (homed i among (own_by i (Some None) among here))
      one None e listed =
          let here : slice_get f.homes (i - low) ≡ None = there ∙ (ap (λ (h : Option (Option Home)). slice_get (arrive from (i - low) (bank_bytes true (object_in parts i)) h (a.left - slot parts prototype low base i) a).homes (i - low)) e ∙ e) in
          absurd (homed i among (own_by i None among here))

  taken : AreTakenFrom parts prototype f (f.soft + saved_bytes f.bank) (without_last (is_kept last) g.params)
  taken =
      let k : Bool = is_kept last in
      subst (λ (n : ℕ). AreTakenFrom parts prototype f n (without_last k g.params)) (base_is k refl)
      (all_taken (without_last k g.params) (begun k) (among_all k) (apart_all k) (left k refl) (homes_are k refl) (sym (ap (λ (z : Framed). z.moved) given.1)))

  kept_last : (bank count : ℕ) → f.last ≡ Kept bank count → IsKeptLast parts f g.params bank count
  kept_last bank count e =
      let own : last ≡ Kept bank count = sym last_is ∙ e in
      let l : IsLast bank count = kept_by bank count r refl own in
      let kept : is_kept last ≡ true = ap is_kept own in
      let there : bank_at (slice_get (come true).homes (l.object - low)) ≡ Some bank = arrived_bank parts prototype low base (without_last true g.params) (begun true) (l.object - low) ∙ first_bank low p.homes l.object bank l.home in
      record { object = l.object; is_last = l.is_last; home = own_home true kept l.object bank (at_among g.params (length g.params - 1) l.object l.is_last) there; size = l.size }

few_taken : (n : ℕ) (is : List ℕ) → length (take n is) ≤ length is
few_taken zero is = omega arith
few_taken (suc n) [] = omega arith
few_taken (suc n) (i ∷ is) = omega (arith, few_taken n is)

without_few : (kept : Bool) (is : List ℕ) → length (without_last kept is) ≤ length is
without_few false is = omega arith
without_few true is = few_taken (length is - 1) is

-- no more parameters move than there are
pub moved_few : (parts : Parts) (modes : Modes) (g : FuncTy) (f : Framed) → frame_of parts modes g ≡ Ok f → IsDistinct g.params → length f.moved ≤ length g.params
moved_few parts modes g f framed distinct =
    let k : Bool = is_kept (last parts modes g f framed distinct) in
    let p : Places = placed_in parts modes g in
    let listed : List (Option Home) = hs parts modes g f framed distinct k refl in
    let same : length f.moved ≡ length (moves_of parts (has_prototype g.ty) (lowest (locals_of g) g.params) (p.soft + saved_bytes p.bank) listed (without_last k g.params)) = ap (λ (ms : List Moved). length ms) (moved_are parts modes g f framed distinct k refl) in
    omega (arith, same, few_of parts (has_prototype g.ty) (lowest (locals_of g) g.params) (p.soft + saved_bytes p.bank) listed (without_last k g.params), without_few k g.params)

pub frames_take_parameters : FramesTakeParameters
frames_take_parameters parts modes g f framed distinct =
    let same : is_kept (last parts modes g f framed distinct) ≡ is_kept f.last = ap is_kept (sym (last_is parts modes g f framed distinct)) in
    subst (λ (k : Bool). AreTakenFrom parts (has_prototype g.ty) f (f.soft + saved_bytes f.bank) (without_last k g.params) × (f.stacked ≡ all_slots parts (has_prototype g.ty) (without_last k g.params)) × ((bank bytes : ℕ) → f.last ≡ Kept bank bytes → IsKeptLast parts f g.params bank bytes)) same
    (taken parts modes g f framed distinct, stacked_is parts modes g f framed distinct (is_kept (last parts modes g f framed distinct)) refl, λ bank bytes e. kept_last parts modes g f framed distinct bank bytes e)

pub frames_have_moves : FramesHaveMoves
frames_have_moves parts modes g f framed distinct = record {
  moves = all_moves parts modes g f framed distinct (is_kept (last parts modes g f framed distinct)) refl;
  kept = subst (λ (a : Arrival). IsKeptBeside (saved_bytes f.bank) a f.moved) (sym (last_is parts modes g f framed distinct)) (kept_beside parts modes g f framed distinct (last parts modes g f framed distinct) refl);
}
