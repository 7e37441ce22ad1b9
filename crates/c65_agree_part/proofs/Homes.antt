-- What stands in regbank.
use Rattle.std.proofs.Common.{◌≡◌, ℕ, zero, suc, ◌+◌, ◌-◌, ◌<◌, ◌≤◌, ◌⊎◌, inl, inr, ◌++◌, ◌&&◌, List, [], ◌∷◌, Option, Some, None, Bool, true, false, refl, sym, ap, ◌∙◌, subst, arith}
use Rattle.std.specs.Prelude.{length, nat_le, nat_lt, if◌then◌else◌, option_map, slice_get, slice_set, Ok, Err}
use Rattle.std.proofs.lemmas.Bool.{and_parts}
use Rattle.std.proofs.lemmas.Bool.Decides.{nat_tests}
use Rattle.std.proofs.lemmas.Option.{slice_get-map}
use Rattle.c65_ints.specs.declared.types.IntType.TheVariants.{SChar, UChar, Short, UShort, Int, UInt, Long, ULong}
use Rattle.c65_base.specs.declared.refusal.Size.TheVariants as sizes
use Rattle.c65_base.specs.Answers.{large}
use Rattle.c65_ctype.specs.Trees.{Ty, TypesTy, type_in, void, int, pointer, array, tag, function}
use Rattle.c65_ctype.specs.Views.{types_of}
use Rattle.c65_ctype.specs.Sizes.{size_of}
use Rattle.c65_csem.specs.declared.items.Parts.{Parts}
use Rattle.c65_csem.specs.Trees.{ObjectTy, FuncTy}
use Rattle.c65_csem.specs.Places.{is_register, is_fixed_object}
use Rattle.c65_csem.specs.Views.{object_of, func_of, unit_of}
use Rattle.c65_meaning.specs.Shapes.{shape_of, object_in}
use Rattle.c65_genframe.specs.declared.modes.Modes.{Modes}
use Rattle.c65_genframe.specs.declared.home.Home.{Home}
use Rattle.c65_genframe.specs.declared.home.Home.TheVariants.{Bank, Soft}
use Rattle.c65_genframe.specs.declared.mark.Mark.{Mark}
use Rattle.c65_genframe.specs.declared.mark.Mark.TheVariants.{Other, Local, Parameter}
use Rattle.c65_genframe.specs.Sizes.{bank_size, bank_bytes, object_bytes, slot_bytes}
use Rattle.c65_genframe.specs.Sizes as generated
use Rattle.c65_genframe.specs.Marks.{lowest, all_marks}
use Rattle.c65_genframe.specs.Objects.{locals_of}
use Rattle.c65_genframe.specs.Places.{Places, none_placed, more, fits, with_none, with_banked, with_soft, with_local, with_later, with_marked, placed_all}
use Rattle.c65_genframe.specs.Arrivals.{Arrivals, arrive, arrived}
use Rattle.c65_genframe.specs.Frames.{Framed, has_prototype, is_variadic, register_param, flat, arrival, is_kept, last_bytes, without_last, bytes_without, saved_bytes, first_arrivals, check_of, settled, passed_bytes, placed_in, frame_of, frame_in, home_of, lies_above, is_raised}
use Rattle.c65_genstmt.specs.Objects.{spot_at}
use Rattle.c65_agree_store.specs.Stands.{At}
use Rattle.c65_agree_state.specs.World.{unit_in}
use Rattle.c65_agree_state.specs.Joins.{home_spot, spot_of as place_of_object}
use Rattle.c65_agree_put.specs.Laws.{IsScalar}
use Rattle.c65_agree_stmts.specs.Calling.{Calling}
use Rattle.c65_agree_stmts.specs.Objects.{bytes_of, IsFramed, IsFixed}
use Rattle.c65_agree_part.specs.Parts.{IsInMemory}
use Rattle.c65_agree_part.specs.Laws.{IsHeldInBank, BanksHoldNumbers, AreasAreInMemory, ObjectsMayBeSet}

-- an object in regbank has bytes there, among the first so many
abbrev Holds : Parts → ℕ → ℕ → Option Home → Type 0
Holds parts taken i (Some (Bank b)) = (0 < bank_bytes true (generated.object_in parts i)) × (b + bank_bytes true (generated.object_in parts i) ≤ taken)
Holds parts taken i _ = Unit {0}

-- the first home is that of the object with number i
abbrev AllHold : Parts → ℕ → ℕ → List (Option Home) → Type 0
AllHold parts taken i [] = Unit {0}
AllHold parts taken i (h ∷ hs) = Holds parts taken i h × AllHold parts taken (suc i) hs

holds_more : (parts : Parts) (taken more i : ℕ) (h : Option Home) → taken ≤ more → Holds parts taken i h → Holds parts more i h
holds_more parts taken more i (Some (Bank b)) le h = (h.0, omega (arith, h.1, le))
holds_more parts taken more i (Some (Soft d)) le h = tt
holds_more parts taken more i None le h = tt

all_more : (parts : Parts) (taken more i : ℕ) (hs : List (Option Home)) → taken ≤ more → AllHold parts taken i hs → AllHold parts more i hs
all_more parts taken more i [] le h = tt
all_more parts taken more i (x ∷ hs) le h = (holds_more parts taken more i x le h.0, all_more parts taken more (suc i) hs le h.1)

all_append : (parts : Parts) (taken i : ℕ) (hs : List (Option Home)) (x : Option Home) → AllHold parts taken i hs → Holds parts taken (i + length hs) x → AllHold parts taken i (hs ++ x ∷ [])
all_append parts taken i [] x h last = let e : i + 0 ≡ i = omega arith in (subst (λ n. Holds parts taken n x) e last, tt)
all_append parts taken i (y ∷ hs) x h last = let e : i + length (y ∷ hs) ≡ suc i + length hs = omega arith in (h.0, all_append parts taken (suc i) hs x h.1 (subst (λ n. Holds parts taken n x) e last))

all_set : (parts : Parts) (taken i : ℕ) (hs : List (Option Home)) (k from : ℕ) → AllHold parts taken i hs → AllHold parts taken i (slice_set hs k (Some (Soft from)))
all_set parts taken i [] k from h = h
all_set parts taken i (x ∷ hs) zero from h = (tt, h.1)
all_set parts taken i (x ∷ hs) (suc k) from h = (h.0, all_set parts taken (suc i) hs k from h.1)

all_get : (parts : Parts) (taken i : ℕ) (hs : List (Option Home)) (k : ℕ) (x : Option Home) → AllHold parts taken i hs → slice_get hs k ≡ Some x → Holds parts taken (i + k) x
all_get parts taken i [] k x h e = cc
all_get parts taken i (y ∷ hs) zero x h e = let same : y ≡ x = cc in let none : i ≡ i + 0 = omega arith in subst (λ n. Holds parts taken n x) none (subst (Holds parts taken i) same h.0)
all_get parts taken i (y ∷ hs) (suc k) x h e = let on : suc i + k ≡ i + suc k = omega arith in subst (λ n. Holds parts taken n x) on (all_get parts taken (suc i) hs k x h.1 e)

length_more : (hs : List (Option Home)) (x : Option Home) → length (hs ++ x ∷ []) ≡ suc (length hs)
length_more [] x = refl
length_more (y ∷ hs) x = let h = length_more hs x in omega (arith, h)

-- ---- as objects are placed

-- the homes up to number i hold
record AreHeld (parts : Parts) (low i : ℕ) (p : Places) : Type 0 where
  homes : AllHold parts p.bank low p.homes
  count : low + length p.homes ≡ i

honoured_bytes : (honoured r : Bool) (n : ℕ) → 0 < (if honoured && r then n else 0) → (if honoured && r then n else 0) ≡ (if true && r then n else 0)
honoured_bytes true r n h = refl
honoured_bytes false r n h = absurd (omega (arith, h))

given_bytes : (honoured : Bool) (o : Option ObjectTy) → 0 < bank_bytes honoured o → bank_bytes honoured o ≡ bank_bytes true o
given_bytes honoured None h = refl
given_bytes honoured (Some o) h = honoured_bytes honoured (is_register o.class) (bank_size (type_in o.ty)) h

module _ (parts : Parts) (modes : Modes) (low : ℕ) where
  one_free : (i : ℕ) (p q : Places) (x : Option Home) → Holds parts p.bank i x → q.homes ≡ p.homes ++ x ∷ [] → q.bank ≡ p.bank → AreHeld parts low i p → AreHeld parts low (i + 1) q
  one_free i p q x last homes bank h =
      let count = h.count in
      let there : AllHold parts p.bank low (p.homes ++ x ∷ []) = all_append parts p.bank low p.homes x h.homes (subst (λ n. Holds parts p.bank n x) (sym count) last) in
      let many = length_more p.homes x in
      let all = ap length homes in
      record { homes = subst (λ n. AllHold parts n low q.homes) (sym bank) (subst (AllHold parts p.bank low) (sym homes) there); count = omega (arith, count, many, all) }

  one_banked : (i total : ℕ) (p : Places) → fits (bank_bytes modes.honoured (generated.object_in parts i)) p ≡ true → AreHeld parts low i p → AreHeld parts low (i + 1) (with_banked (bank_bytes modes.honoured (generated.object_in parts i)) total p)
  one_banked i total p room h =
      let bank = bank_bytes modes.honoured (generated.object_in parts i) in
      let both = and_parts (nat_lt 0 bank) (nat_le (p.bank + bank) 6) room in
      let some : 0 < bank = positive bank both.0 in
      let same : bank ≡ bank_bytes true (generated.object_in parts i) = given_bytes modes.honoured (generated.object_in parts i) some in
      let count = h.count in
      let last : Holds parts (p.bank + bank) i (Some (Bank p.bank)) = (omega (arith, some, same), omega (arith, same)) in
      let there : AllHold parts (p.bank + bank) low (p.homes ++ Some (Bank p.bank) ∷ []) = all_append parts (p.bank + bank) low p.homes (Some (Bank p.bank)) (all_more parts p.bank (p.bank + bank) low p.homes (omega arith) h.homes) (subst (λ n. Holds parts (p.bank + bank) n (Some (Bank p.bank))) (sym count) last) in
      let many = length_more p.homes (Some (Bank p.bank)) in
      record { homes = there; count = omega (arith, count, many) }
    where
      positive : (n : ℕ) → nat_lt 0 n ≡ true → 0 < n
      positive n e = grind (arith, nat_tests)

  one_local : (i total : ℕ) (p : Places) (over room : Bool) → fits (bank_bytes modes.honoured (generated.object_in parts i)) p ≡ room → AreHeld parts low i p
      → AreHeld parts low (i + 1) (if over then with_none total p else (if room then with_banked (bank_bytes modes.honoured (generated.object_in parts i)) total p else with_soft (object_bytes (types_of parts.types) (generated.object_in parts i)) total p))
  one_local i total p true room e h = one_free i p (with_none total p) None tt refl refl h
  one_local i total p false true e h = one_banked i total p e h
  one_local i total p false false e h = one_free i p (with_soft (object_bytes (types_of parts.types) (generated.object_in parts i)) total p) (Some (Soft p.soft)) tt refl refl h

  one_object : (i : ℕ) (p : Places) (fixed : Bool) → AreHeld parts low i p
      → AreHeld parts low (i + 1) (if fixed then with_none p.total p else with_local (bank_bytes modes.honoured (generated.object_in parts i)) (object_bytes (types_of parts.types) (generated.object_in parts i)) p)
  one_object i p true h = one_free i p (with_none p.total p) None tt refl refl h
  one_object i p false h =
      let total = more p.total (object_bytes (types_of parts.types) (generated.object_in parts i)) in
      one_local i total p (nat_lt 1024 total) (fits (bank_bytes modes.honoured (generated.object_in parts i)) p) refl h

  one_parameter : (i : ℕ) (p : Places) (room : Bool) → fits (bank_bytes modes.honoured (generated.object_in parts i)) p ≡ room → AreHeld parts low i p
      → AreHeld parts low (i + 1) (if room then with_banked (bank_bytes modes.honoured (generated.object_in parts i)) p.total p else with_later p)
  one_parameter i p true e h = one_banked i p.total p e h
  one_parameter i p false e h = one_free i p (with_later p) (Some (Soft 0)) tt refl refl h

  one_marked : (i : ℕ) (mark : Mark) (p : Places) → AreHeld parts low i p → AreHeld parts low (i + 1) (with_marked parts modes i mark p)
  one_marked i Other p h = one_free i p (with_none p.total p) None tt refl refl h
  one_marked i Local p h = one_object i p (is_fixed_object (generated.object_in parts i)) h
  one_marked i Parameter p h = one_parameter i p (fits (bank_bytes modes.honoured (generated.object_in parts i)) p) refl h

  all_placed : (marks : List Mark) (i : ℕ) (p : Places) → AreHeld parts low i p → AllHold parts (placed_all parts modes i marks p).bank low (placed_all parts modes i marks p).homes
  all_placed [] i p h = h.homes
  all_placed (mark ∷ marks) i p h = all_placed marks (i + 1) (with_marked parts modes i mark p) (one_marked i mark p h)

-- ---- as parameters arrive

module _ (parts : Parts) (prototype : Bool) (low base taken : ℕ) where
  one_arrives : (from at bank left : ℕ) (x : Option (Option Home)) (r : Arrivals) → AllHold parts taken low r.homes → AllHold parts taken low (arrive from at bank x left r).homes
  one_arrives from at bank left (Some (Some (Bank byte))) r h = h
  one_arrives from at bank left (Some (Some (Soft offset))) r h = all_set parts taken low r.homes at from h
  one_arrives from at bank left (Some None) r h = h
  one_arrives from at bank left None r h = h

  all_arrive : (is : List ℕ) (r : Arrivals) → AllHold parts taken low r.homes → AllHold parts taken low (arrived parts prototype low base is r).homes
  all_arrive [] r h = h
  all_arrive (i ∷ is) r h =
      let slot = slot_bytes (types_of parts.types) prototype (generated.object_in parts i) in
      let bank = bank_bytes true (generated.object_in parts i) in
      all_arrive is (arrive (base + (r.left - slot)) (i - low) bank (slice_get r.homes (i - low)) (r.left - slot) r) (one_arrives (base + (r.left - slot)) (i - low) bank (r.left - slot) (slice_get r.homes (i - low)) r h)

-- ---- frames

module _ (parts : Parts) (modes : Modes) (f : Framed) where
  abbrev Held : Framed → Type 0
  Held x = AllHold parts x.bank x.low x.homes

  settled_held : (check : Option ℕ) (g : FuncTy) (low passed : ℕ) (p : Places) → AllHold parts p.bank low p.homes → Held (settled parts check g low passed p)
  settled_held check g low passed p h =
      let prototype = has_prototype g.ty in
      let last = arrival parts prototype low p.homes (register_param g) in
      all_arrive parts prototype low (p.soft + saved_bytes p.bank) p.bank (without_last (is_kept last) g.params) (first_arrivals p (bytes_without (is_kept last) passed (last_bytes parts prototype (register_param g)))) h

  function_held : (g : FuncTy) → frame_of parts modes g ≡ Ok f → Held f
  function_held g e = go (nat_lt 1024 p.total) e
    where
      low : ℕ
      low = lowest (locals_of g) g.params

      p : Places
      p = placed_in parts modes g

      start : AreHeld parts low low (none_placed (is_variadic g.ty) (passed_bytes parts g))
      start = record { homes = tt; count = omega arith }

      go : (over : Bool) → (if over then Err (large sizes.Frame p.total) else Ok (settled parts (check_of parts modes g) g low (passed_bytes parts g) p)) ≡ Ok f → Held f
      go true h = cc
      go false h =
          let same : settled parts (check_of parts modes g) g low (passed_bytes parts g) p ≡ f = cc in
          subst Held same (settled_held (check_of parts modes g) g low (passed_bytes parts g) p (all_placed parts modes low (all_marks (locals_of g) g.params) low (none_placed (is_variadic g.ty) (passed_bytes parts g)) start))

  frame_held : (g : Option FuncTy) → frame_in parts modes g ≡ Ok f → Held f
  frame_held None e = cc
  frame_held (Some g) e = function_held g e

-- where regbank has an object
home_held : (parts : Parts) (f : Framed) (i b : ℕ) → AllHold parts f.bank f.low f.homes → home_of f i ≡ Some (Bank b) → Holds parts f.bank i (Some (Bank b))
home_held parts f i b h e = go (nat_le f.low i) refl e
  where
    found : f.low ≤ i → (x : Option (Option Home)) → slice_get f.homes (i - f.low) ≡ x → flat x ≡ Some (Bank b) → Holds parts f.bank i (Some (Bank b))
    found le None at e = cc
    found le (Some x) at e =
        let same : x ≡ Some (Bank b) = e in
        let there : f.low + (i - f.low) ≡ i = omega (arith, le) in
        subst (λ n. Holds parts f.bank n (Some (Bank b))) there (all_get parts f.bank f.low f.homes (i - f.low) (Some (Bank b)) h (at ∙ ap Some same))

    go : (least : Bool) → nat_le f.low i ≡ least → (if least then flat (slice_get f.homes (i - f.low)) else None) ≡ Some (Bank b) → Holds parts f.bank i (Some (Bank b))
    go true le e = found (grind (arith, nat_tests)) (slice_get f.homes (i - f.low)) refl e
    go false le e = cc

-- ---- objects

-- a type of which regbank may have an object
record IsSmall (types : TypesTy) (t : Ty) : Type 0 where
  size : size_of types t ≡ bank_size t
  few : bank_size t ≤ 2
  scalar : IsScalar (shape_of types t)

small_type : (types : TypesTy) (t : Ty) → 0 < bank_size t → IsSmall types t
small_type types (int SChar) h = record { size = refl; few = omega arith; scalar = tt }
small_type types (int UChar) h = record { size = refl; few = omega arith; scalar = tt }
small_type types (int Short) h = record { size = refl; few = omega arith; scalar = tt }
small_type types (int UShort) h = record { size = refl; few = omega arith; scalar = tt }
small_type types (int Int) h = record { size = refl; few = omega arith; scalar = tt }
small_type types (int UInt) h = record { size = refl; few = omega arith; scalar = tt }
small_type types (int Long) h = absurd (omega (arith, h))
small_type types (int ULong) h = absurd (omega (arith, h))
small_type types (pointer q) h = record { size = refl; few = omega arith; scalar = tt }
small_type types void h = absurd (omega (arith, h))
small_type types (array q n) h = absurd (omega (arith, h))
small_type types (tag n) h = absurd (omega (arith, h))
small_type types (function g) h = absurd (omega (arith, h))

object_held : (types : TypesTy) (taken b : ℕ) (o : Option ObjectTy) → 0 < bank_bytes true o → b + bank_bytes true o ≤ taken → IsHeldInBank types taken b o
object_held types taken b None some fits = absurd (omega (arith, some))
object_held types taken b (Some o) some fits = go (is_register o.class) some fits
  where
    go : (r : Bool) → 0 < (if true && r then bank_size (type_in o.ty) else 0) → b + (if true && r then bank_size (type_in o.ty) else 0) ≤ taken → IsHeldInBank types taken b (Some o)
    go false some fits = absurd (omega (arith, some))
    go true some fits =
        let small = small_type types (type_in o.ty) some in
        let size = small.size in
        let few = small.few in
        record { few = omega (arith, size, few); taken = omega (arith, size, fits); scalar = small.scalar }

pub banks_hold_numbers : BanksHoldNumbers
banks_hold_numbers parts modes func f i b e home =
    let held = home_held parts f i b (frame_held parts modes f (option_map func_of (slice_get parts.funcs.items func)) e) home in
    let found : object_in (unit_of parts) i ≡ generated.object_in parts i = slice_get-map object_of parts.objects.items i in
    subst (IsHeldInBank (unit_of parts).types f.bank b) (sym found) (object_held (unit_of parts).types f.bank b (generated.object_in parts i) held.0 held.1)

pub areas_are_in_memory : AreasAreInMemory
areas_are_in_memory parts modes func f i o size e area = go (home_of f i) refl
  where
    go : (h : Option Home) → home_of f i ≡ h → IsInMemory (spot_at f i o h)
    go None at = tt
    go (Some (Soft d)) at = tt
    go (Some (Bank b)) at = absurd (subst IsScalar area (banks_hold_numbers parts modes func f i b e at).scalar)

-- ---- objects that may begin

module _ (x : Calling) (i : ℕ) (least : 0 < bytes_of x.world i) (framed : IsFramed x.world x.active i ⊎ IsFixed x.world x.active i) (lasting : is_fixed_object (object_in (unit_in x.world) i) ≡ true → home_of x.active.frame i ≡ None) where
  abbrev frame : Framed
  frame = x.active.frame

  -- what lies among the automatic objects lies below the parameters
  not_above : (d : ℕ) → home_of frame i ≡ Some (Soft d) → frame.soft ≤ d → ⊥
  not_above d e le = go framed
    where
      spot : place_of_object x.world x.active i ≡ At (x.active.base + d + (if is_raised frame i then x.active.raised else 0))
      spot = ap (home_spot x.world x.active i) e

      go : IsFramed x.world x.active i ⊎ IsFixed x.world x.active i → ⊥
      go (inl h) = let there = h.within (x.active.base + d + (if is_raised frame i then x.active.raised else 0)) 0 spot least in let below : x.active.base + d + (if is_raised frame i then x.active.raised else 0) + 0 < x.active.base + frame.soft = there.1 in omega (arith, below, le)
      go (inr h) = let none = lasting h.fixed in let clash : Some (Soft d) ≡ None = sym e ∙ none in cc

  not_raised : is_raised frame i ≡ false
  not_raised = ap (λ b. frame.variadic && b) (below (home_of frame i) refl) ∙ none frame.variadic
    where
      none : (b : Bool) → b && false ≡ false
      none true = refl
      none false = refl

      below : (h : Option Home) → home_of frame i ≡ h → lies_above frame.soft h ≡ false
      below None e = refl
      below (Some (Bank b)) e = refl
      below (Some (Soft d)) e = go (nat_le frame.soft d) refl
        where
          go : (over : Bool) → nat_le frame.soft d ≡ over → over ≡ false
          go false h = refl
          go true h = absurd (not_above d e (grind (arith, nat_tests)))

pub objects_may_be_set : ObjectsMayBeSet
objects_may_be_set x scope i of may lives least few lasting varying = record {
  lives = lives;
  least = least;
  few = few;
  low = not_raised x i least may.home lasting;
  bank = λ b e. let h = banks_hold_numbers x.world.parts x.world.modes x.active.func x.active.frame i b of.frame e in (h.few, h.taken);
  varying = varying;
}
