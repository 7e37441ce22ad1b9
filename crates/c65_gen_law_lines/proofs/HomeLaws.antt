-- Homes do not overlap.
use Rattle.std.proofs.Common.{◌≡◌, ℕ, zero, suc, ◌+◌, ◌-◌, ◌<◌, ◌≤◌, ◌&&◌, ◌⊎◌, inl, inr, Bool, true, false, Option, None, Some, List, [], ◌∷◌, ◌++◌, length, refl, sym, ◌∙◌, ap, subst, slice_get, slice_set, arith}
use Rattle.std.specs.Prelude.{if◌then◌else◌, min, nat_lt, nat_le, take}
use Rattle.std.proofs.Math.Nat.{min-le_left, min-le_right}
use Rattle.std.proofs.lemmas.Bool.{and_parts, ltb-true, ltb-false, leb-true, le-leb, cases_lt}
use Rattle.std.proofs.lemmas.List.{append_assoc}
use Rattle.c65_base.specs.declared.refusal.Size.TheVariants as sizes
use Rattle.c65_base.specs.Answers.{large}
use Rattle.c65_ctype.specs.Views.{types_of}
use Rattle.c65_csem.specs.declared.items.Parts.{Parts}
use Rattle.c65_csem.specs.Trees.{ObjectTy}
use Rattle.c65_csem.specs.Places.{is_register, is_fixed_object}
use Rattle.c65_ctype.specs.Trees.{type_in}
use Rattle.c65_genframe.specs.declared.modes.Modes.{Modes}
use Rattle.c65_genframe.specs.declared.home.Home.{Home}
use Rattle.c65_genframe.specs.declared.home.Home.TheVariants.{Bank, Soft}
use Rattle.c65_genframe.specs.declared.mark.Mark.{Mark}
use Rattle.c65_genframe.specs.declared.mark.Mark.TheVariants.{Other, Local, Parameter}
use Rattle.c65_genframe.specs.Places.{Places, more, none_placed, fits, with_none, with_banked, with_soft, with_later, with_marked, placed_all, with_local}
use Rattle.c65_genframe.specs.Arrivals.{slots, Arrivals, arrive, with_slot, arrived}
use Rattle.c65_genframe.specs.Sizes.{object_in, object_bytes, slot_bytes, bank_size, bank_bytes}
use Rattle.c65_genframe.specs.Marks.{least, lowest, marked, no_marks, all_marks}
use Rattle.c65_genframe.specs.Objects.{locals_of}
use Rattle.c65_genframe.specs.Frames.{Framed, has_prototype, is_variadic, takes_stack, register_param, flat, home_at, arrival_at, arrival, is_kept, last_bytes, without_last, bytes_without, saved_bytes, first_arrivals, check_of, settled, passed_bytes, placed_in}
use Rattle.c65_gen_law_lines.specs.Labels.{among}
use Rattle.c65_gen_law_lines.specs.Homes.{next, in_bank, in_blocks, in_home, in_params}
use Rattle.c65_gen_law_lines.specs.Laws.{HomesAreApart}
use Rattle.c65_gen_law_lines.proofs.Puts.{below, below_in, below_out, below_more, at_most_one}
use Rattle.c65_gen_law_lines.proofs.FrameLaws.{Room, all_room, answered, min_small}

below_grows : (n m x : ℕ) → n ≤ m → below n x ≤ below m x
below_grows n m x le = go (cases_lt x n)
  where
    go : (x < n) ⊎ (n ≤ x) → below n x ≤ below m x
    go (inl a) = omega (arith, below_in n x a, below_in m x (omega (arith, a, le)))
    go (inr a) = omega (arith, below_out n x a)

-- the bytes below a number are those from 0 on
below_from : (n x : ℕ) → below n x ≡ below 0 x + among 0 n x
below_from n x = let e : 0 + n ≡ n = omega arith in ap (λ m. below m x) (sym e) ∙ below_more 0 n x

-- ---- as objects are placed, one after another

honoured_bytes : (honoured r : Bool) (n : ℕ) → 0 < (if honoured && r then n else 0) → (if honoured && r then n else 0) ≡ (if true && r then n else 0)
honoured_bytes true r n h = refl
honoured_bytes false r n h = absurd (omega (arith, h))

-- a register that is given has the bytes that it may have
given_bytes : (honoured : Bool) (o : Option ObjectTy) → 0 < bank_bytes honoured o → bank_bytes honoured o ≡ bank_bytes true o
given_bytes honoured None h = refl
given_bytes honoured (Some o) h = honoured_bytes honoured (is_register o.class) (bank_size (type_in o.ty)) h

-- one object is placed: its home, and the bytes that are taken by it
record Single (parts : Parts) (x i : ℕ) (mark : Mark) (p q : Places) : Type 0 where
  home : Option Home
  homes : q.homes ≡ p.homes ++ home ∷ []
  bank : in_bank parts x i (home ∷ []) + below p.bank x ≡ below q.bank x
  blocks : in_blocks parts x i (mark ∷ []) (home ∷ []) + below p.soft x ≡ below q.soft x
  six : p.bank ≤ 6 → q.bank ≤ 6

banked_single : (parts : Parts) (x i bank total : ℕ) (mark : Mark) (p : Places) → in_blocks parts x i (mark ∷ []) (Some (Bank p.bank) ∷ []) ≡ 0 → bank ≡ bank_bytes true (object_in parts i) → fits bank p ≡ true → Single parts x i mark p (with_banked bank total p)
banked_single parts x i bank total mark p none same h =
    let room = and_parts (nat_lt 0 bank) (nat_le (p.bank + bank) 6) h in
    record {
      home = Some (Bank p.bank);
      homes = refl;
      bank = omega (arith, below_more p.bank bank x, ap (λ n. among p.bank n x) same);
      blocks = omega (arith, none);
      six = λ le. leb-true (p.bank + bank) 6 room.1;
    }

local_single : (over fit : Bool) (parts : Parts) (x i bank total : ℕ) (p : Places) → (fit ≡ true → bank ≡ bank_bytes true (object_in parts i)) → fits bank p ≡ fit
    → Single parts x i Local p (if over then with_none total p else (if fit then with_banked bank total p else with_soft (object_bytes (types_of parts.types) (object_in parts i)) total p))
local_single true fit parts x i bank total p same h = record { home = None; homes = refl; bank = omega arith; blocks = omega arith; six = λ le. le }
local_single false true parts x i bank total p same h = banked_single parts x i bank total Local p refl (same refl) h
local_single false false parts x i bank total p same h = record {
  home = Some (Soft p.soft);
  homes = refl;
  bank = omega arith;
  blocks = omega (arith, below_more p.soft (object_bytes (types_of parts.types) (object_in parts i)) x);
  six = λ le. le;
}

parameter_single : (fit : Bool) (parts : Parts) (x i bank : ℕ) (p : Places) → (fit ≡ true → bank ≡ bank_bytes true (object_in parts i)) → fits bank p ≡ fit → Single parts x i Parameter p (if fit then with_banked bank p.total p else with_later p)
parameter_single true parts x i bank p same h = banked_single parts x i bank p.total Parameter p refl (same refl) h
parameter_single false parts x i bank p same h = record { home = Some (Soft 0); homes = refl; bank = omega arith; blocks = omega arith; six = λ le. le }

fitting : (honoured : Bool) (o : Option ObjectTy) (p : Places) → fits (bank_bytes honoured o) p ≡ true → bank_bytes honoured o ≡ bank_bytes true o
fitting honoured o p h = given_bytes honoured o (ltb-true 0 (bank_bytes honoured o) (and_parts (nat_lt 0 (bank_bytes honoured o)) (nat_le (p.bank + bank_bytes honoured o) 6) h).0)

object_single : (fixed : Bool) (parts : Parts) (modes : Modes) (x i : ℕ) (p : Places)
    → Single parts x i Local p (if fixed then with_none p.total p else with_local (bank_bytes modes.honoured (object_in parts i)) (object_bytes (types_of parts.types) (object_in parts i)) p)
object_single true parts modes x i p = record { home = None; homes = refl; bank = omega arith; blocks = omega arith; six = λ le. le }
object_single false parts modes x i p =
    let bank : ℕ = bank_bytes modes.honoured (object_in parts i) in
    let total : ℕ = more p.total (object_bytes (types_of parts.types) (object_in parts i)) in
    local_single (nat_lt 1024 total) (fits bank p) parts x i bank total p (fitting modes.honoured (object_in parts i) p) refl

single : (parts : Parts) (modes : Modes) (x i : ℕ) (mark : Mark) (p : Places) → Single parts x i mark p (with_marked parts modes i mark p)
single parts modes x i Other p = record { home = None; homes = refl; bank = omega arith; blocks = omega arith; six = λ le. le }
single parts modes x i Local p = object_single (is_fixed_object (object_in parts i)) parts modes x i p
single parts modes x i Parameter p = parameter_single (fits (bank_bytes modes.honoured (object_in parts i)) p) parts x i (bank_bytes modes.honoured (object_in parts i)) p (fitting modes.honoured (object_in parts i) p) refl

-- many are placed
record Tiled (parts : Parts) (x i : ℕ) (marks : List Mark) (p q : Places) : Type 0 where
  new : List (Option Home)
  homes : q.homes ≡ p.homes ++ new
  bank : in_bank parts x i new + below p.bank x ≡ below q.bank x
  blocks : in_blocks parts x i marks new + below p.soft x ≡ below q.soft x
  six : p.bank ≤ 6 → q.bank ≤ 6

bank_cons : (parts : Parts) (x i : ℕ) (h : Option Home) (hs : List (Option Home)) → in_bank parts x i (h ∷ hs) ≡ in_bank parts x i (h ∷ []) + in_bank parts x (next i) hs
bank_cons parts x i None hs = omega arith
bank_cons parts x i (Some (Bank b)) hs = omega arith
bank_cons parts x i (Some (Soft d)) hs = omega arith

blocks_cons : (parts : Parts) (x i : ℕ) (m : Mark) (ms : List Mark) (h : Option Home) (hs : List (Option Home)) → in_blocks parts x i (m ∷ ms) (h ∷ hs) ≡ in_blocks parts x i (m ∷ []) (h ∷ []) + in_blocks parts x (next i) ms hs
blocks_cons parts x i Local ms None hs = omega arith
blocks_cons parts x i Local ms (Some (Bank b)) hs = omega arith
blocks_cons parts x i Local ms (Some (Soft d)) hs = omega arith
blocks_cons parts x i Other ms h hs = omega arith
blocks_cons parts x i Parameter ms h hs = omega arith

nothing_more : (hs : List (Option Home)) → hs ++ [] ≡ hs
nothing_more [] = refl
nothing_more (h ∷ hs) = ap (λ l. h ∷ l) (nothing_more hs)

tiled : (parts : Parts) (modes : Modes) (x i : ℕ) (marks : List Mark) (p : Places) → Tiled parts x i marks p (placed_all parts modes i marks p)
tiled parts modes x i [] p = record { new = []; homes = sym (nothing_more p.homes); bank = omega arith; blocks = omega arith; six = λ le. le }
tiled parts modes x i (m ∷ ms) p =
    let q : Places = with_marked parts modes i m p in
    let s : Single parts x i m p q = single parts modes x i m p in
    let r : Tiled parts x (next i) ms q (placed_all parts modes (next i) ms q) = tiled parts modes x (next i) ms q in
    record {
      new = s.home ∷ r.new;
      homes = r.homes ∙ (ap (λ l. l ++ r.new) s.homes ∙ append_assoc p.homes (s.home ∷ []) r.new);
      bank = omega (arith, bank_cons parts x i s.home r.new, s.bank, r.bank);
      blocks = omega (arith, blocks_cons parts x i m ms s.home r.new, s.blocks, r.blocks);
      six = λ le. r.six (s.six le);
    }

-- ---- as parameters get their places

bank_set : (parts : Parts) (x i k : ℕ) (hs : List (Option Home)) (o d : ℕ) → slice_get hs k ≡ Some (Some (Soft o)) → in_bank parts x i (slice_set hs k (Some (Soft d))) ≡ in_bank parts x i hs
bank_set parts x i k [] o d h = refl
bank_set parts x i zero (None ∷ hs) o d h = refl
bank_set parts x i zero (Some (Soft e) ∷ hs) o d h = refl
bank_set parts x i zero (Some (Bank b) ∷ hs) o d h = absurd (not_soft b o h)
  where
    not_soft : (a c : ℕ) → ◌≡◌ {A = Option (Option Home)} (Some (Some (Bank a))) (Some (Some (Soft c))) → ⊥
    not_soft a c e = cc
bank_set parts x i (suc k) (g ∷ hs) o d h =
    omega (arith, bank_cons parts x i g (slice_set hs k (Some (Soft d))), bank_cons parts x i g hs, bank_set parts x (next i) k hs o d h)

-- the mark at a place is not that of an object of a block
abbrev NotLocal : List Mark → ℕ → Type 0
NotLocal ms k = slice_get ms k ≡ Some Local → ⊥

blocks_set : (parts : Parts) (x i k : ℕ) (ms : List Mark) (hs : List (Option Home)) (v : Option Home) → NotLocal ms k → in_blocks parts x i ms (slice_set hs k v) ≡ in_blocks parts x i ms hs
blocks_set parts x i k [] hs v h = refl
blocks_set parts x i k (m ∷ ms) [] v h = refl
blocks_set parts x i zero (Local ∷ ms) (g ∷ hs) v h = absurd (h refl)
blocks_set parts x i zero (Other ∷ ms) (g ∷ hs) v h = refl
blocks_set parts x i zero (Parameter ∷ ms) (g ∷ hs) v h = refl
blocks_set parts x i (suc k) (m ∷ ms) (g ∷ hs) v h =
    omega (arith, blocks_cons parts x i m ms g (slice_set hs k v), blocks_cons parts x i m ms g hs, blocks_set parts x (next i) k ms hs v h)

-- marks that are set as parameters
parameter_kept : (ms : List Mark) (j k : ℕ) → NotLocal ms k → NotLocal (slice_set ms j Parameter) k
parameter_kept [] j k h e = h e
parameter_kept (m ∷ ms) zero zero h e = cc
parameter_kept (m ∷ ms) zero (suc k) h e = h e
parameter_kept (m ∷ ms) (suc j) zero h e = h e
parameter_kept (m ∷ ms) (suc j) (suc k) h e = parameter_kept ms j k h e

parameter_set : (ms : List Mark) (k : ℕ) → NotLocal (slice_set ms k Parameter) k
parameter_set [] k e = cc
parameter_set (m ∷ ms) zero e = cc
parameter_set (m ∷ ms) (suc k) e = parameter_set ms k e

marks_kept : (low : ℕ) (ps : List ℕ) (ms : List Mark) (k : ℕ) → NotLocal ms k → NotLocal (marked low Parameter ms ps) k
marks_kept low [] ms k h = h
marks_kept low (i ∷ ps) ms k h = marks_kept low ps (slice_set ms (i - low) Parameter) k (parameter_kept ms (i - low) k h)

abbrev AllNotLocal : List Mark → ℕ → List ℕ → Type 0
AllNotLocal ms low [] = Unit {0}
AllNotLocal ms low (i ∷ ps) = NotLocal ms (i - low) × AllNotLocal ms low ps

marks_set : (low : ℕ) (ps : List ℕ) (ms : List Mark) → AllNotLocal (marked low Parameter ms ps) low ps
marks_set low [] ms = tt
marks_set low (i ∷ ps) ms = (marks_kept low ps (slice_set ms (i - low) Parameter) (i - low) (parameter_set ms (i - low)), marks_set low ps (slice_set ms (i - low) Parameter))

fewer_marks : (ms : List Mark) (low k : ℕ) (ps : List ℕ) → AllNotLocal ms low ps → AllNotLocal ms low (take k ps)
fewer_marks ms low zero ps h = tt
fewer_marks ms low (suc k) [] h = tt
fewer_marks ms low (suc k) (i ∷ ps) h = (h.0, fewer_marks ms low k ps h.1)

-- one parameter changes no home in regbank and none of an object of a block
record Stays (parts : Parts) (x low : ℕ) (ms : List Mark) (a b : Arrivals) : Type 0 where
  bank : in_bank parts x low b.homes ≡ in_bank parts x low a.homes
  blocks : in_blocks parts x low ms b.homes ≡ in_blocks parts x low ms a.homes

arrive_stays : (parts : Parts) (x low : ℕ) (ms : List Mark) (from k bank left : ℕ) (h : Option (Option Home)) (a : Arrivals) → slice_get a.homes k ≡ h → NotLocal ms k → Stays parts x low ms a (arrive from k bank h left a)
arrive_stays parts x low ms from k bank left (Some (Some (Bank b))) a e n = record { bank = refl; blocks = refl }
arrive_stays parts x low ms from k bank left (Some (Some (Soft o))) a e n = record { bank = bank_set parts x low k a.homes o from e; blocks = blocks_set parts x low k ms a.homes (Some (Soft from)) n }
arrive_stays parts x low ms from k bank left (Some None) a e n = record { bank = refl; blocks = refl }
arrive_stays parts x low ms from k bank left None a e n = record { bank = refl; blocks = refl }

all_stay : (parts : Parts) (prototype : Bool) (x low base : ℕ) (ms : List Mark) (ps : List ℕ) (a : Arrivals) → AllNotLocal ms low ps → Stays parts x low ms a (arrived parts prototype low base ps a)
all_stay parts prototype x low base ms [] a h = record { bank = refl; blocks = refl }
all_stay parts prototype x low base ms (i ∷ ps) a h =
    let slot : ℕ = slot_bytes (types_of parts.types) prototype (object_in parts i) in
    let b : Arrivals = with_slot base (i - low) slot (bank_bytes true (object_in parts i)) a in
    let first : Stays parts x low ms a b = arrive_stays parts x low ms (base + (a.left - slot)) (i - low) (bank_bytes true (object_in parts i)) (a.left - slot) (slice_get a.homes (i - low)) a refl h.0 in
    let rest : Stays parts x low ms b (arrived parts prototype low base ps b) = all_stay parts prototype x low base ms ps b h.1 in
    record { bank = rest.bank ∙ first.bank; blocks = rest.blocks ∙ first.blocks }

-- ---- the places of parameters

-- low is no greater than any of these
abbrev AreAbove : ℕ → List ℕ → Type 0
AreAbove low [] = Unit {0}
AreAbove low (i ∷ ps) = (low ≤ i) × AreAbove low ps

above_lower : (low r : ℕ) (ps : List ℕ) → low ≤ r → AreAbove r ps → AreAbove low ps
above_lower low r [] le h = tt
above_lower low r (i ∷ ps) le h = (omega (arith, le, h.0), above_lower low r ps le h.1)

least_le : (first : ℕ) (ps : List ℕ) → least first ps ≤ first
least_le first [] = omega arith
least_le first (i ∷ ps) = omega (arith, least_le (min first i) ps, min-le_left first i)

least_above : (first : ℕ) (ps : List ℕ) → AreAbove (least first ps) ps
least_above first [] = tt
least_above first (i ∷ ps) = (omega (arith, least_le (min first i) ps, min-le_right first i), least_above (min first i) ps)

fewer_above : (low k : ℕ) (ps : List ℕ) → AreAbove low ps → AreAbove low (take k ps)
fewer_above low zero ps h = tt
fewer_above low (suc k) [] h = tt
fewer_above low (suc k) (i ∷ ps) h = (h.0, fewer_above low k ps h.1)

-- none of these is i
abbrev Differ : ℕ → List ℕ → Type 0
Differ i [] = Unit {0}
Differ i (j ∷ ps) = (i ≡ j → ⊥) × Differ i ps

abbrev AllDiffer : List ℕ → Type 0
AllDiffer [] = Unit {0}
AllDiffer (i ∷ ps) = Differ i ps × AllDiffer ps

differ_from : (i : ℕ) (ps : List ℕ) → ((k : ℕ) → slice_get ps k ≡ Some i → ⊥) → Differ i ps
differ_from i [] h = tt
differ_from i (j ∷ ps) h = ((λ e. h zero (ap (λ n. Some n) (sym e))), differ_from i ps (λ k. h (suc k)))

all_differ : (ps : List ℕ) → ((j k m : ℕ) → slice_get ps j ≡ Some m → slice_get ps k ≡ Some m → j ≡ k) → AllDiffer ps
all_differ [] h = tt
all_differ (i ∷ ps) h = (
  differ_from i ps (λ k e. let same : zero ≡ suc k = h zero (suc k) i refl e in omega (arith, same)),
  all_differ ps (λ j k m a b. let same : suc j ≡ suc k = h (suc j) (suc k) m a b in omega (arith, same)),
)

fewer_differ : (i k : ℕ) (ps : List ℕ) → Differ i ps → Differ i (take k ps)
fewer_differ i zero ps h = tt
fewer_differ i (suc k) [] h = tt
fewer_differ i (suc k) (j ∷ ps) h = (h.0, fewer_differ i k ps h.1)

all_fewer_differ : (k : ℕ) (ps : List ℕ) → AllDiffer ps → AllDiffer (take k ps)
all_fewer_differ zero ps h = tt
all_fewer_differ (suc k) [] h = tt
all_fewer_differ (suc k) (i ∷ ps) h = (fewer_differ i k ps h.0, all_fewer_differ k ps h.1)

-- the home at a place of the list
abbrev place_home : List (Option Home) → ℕ → Option Home
place_home hs k = flat (slice_get hs k)

home_there : (low : ℕ) (hs : List (Option Home)) (i : ℕ) → low ≤ i → home_at low hs i ≡ place_home hs (i - low)
home_there low hs i le = ap (λ b. if b then place_home hs (i - low) else None) (le-leb low i le)

set_there : (hs : List (Option Home)) (k : ℕ) (o v : Option Home) → slice_get hs k ≡ Some o → place_home (slice_set hs k v) k ≡ v
set_there [] k o v h = cc
set_there (g ∷ hs) zero o v h = refl
set_there (g ∷ hs) (suc k) o v h = set_there hs k o v h

set_elsewhere : (hs : List (Option Home)) (j k : ℕ) (v : Option Home) → (j ≡ k → ⊥) → place_home (slice_set hs j v) k ≡ place_home hs k
set_elsewhere [] j k v h = refl
set_elsewhere (g ∷ hs) zero zero v h = absurd (h refl)
set_elsewhere (g ∷ hs) zero (suc k) v h = refl
set_elsewhere (g ∷ hs) (suc j) zero v h = refl
set_elsewhere (g ∷ hs) (suc j) (suc k) v h = set_elsewhere hs j k v (λ e. h (ap suc e))

arrive_elsewhere : (from j bank left k : ℕ) (h : Option (Option Home)) (a : Arrivals) → (j ≡ k → ⊥) → place_home (arrive from j bank h left a).homes k ≡ place_home a.homes k
arrive_elsewhere from j bank left k (Some (Some (Bank b))) a h = refl
arrive_elsewhere from j bank left k (Some (Some (Soft o))) a h = set_elsewhere a.homes j k (Some (Soft from)) h
arrive_elsewhere from j bank left k (Some None) a h = refl
arrive_elsewhere from j bank left k None a h = refl

-- a parameter whose turn is over stays where it is
later_elsewhere : (parts : Parts) (prototype : Bool) (low base : ℕ) (ps : List ℕ) (a : Arrivals) (i : ℕ) → low ≤ i → AreAbove low ps → Differ i ps → place_home (arrived parts prototype low base ps a).homes (i - low) ≡ place_home a.homes (i - low)
later_elsewhere parts prototype low base [] a i le above differ = refl
later_elsewhere parts prototype low base (j ∷ ps) a i le above differ =
    let slot : ℕ = slot_bytes (types_of parts.types) prototype (object_in parts j) in
    let b : Arrivals = with_slot base (j - low) slot (bank_bytes true (object_in parts j)) a in
    let far : j - low ≡ i - low → ⊥ = λ e. differ.0 (omega (arith, e, le, above.0)) in
    later_elsewhere parts prototype low base ps b i le above.1 differ.1 ∙ arrive_elsewhere (base + (a.left - slot)) (j - low) (bank_bytes true (object_in parts j)) (a.left - slot) (i - low) (slice_get a.homes (j - low)) a far

-- a parameter at its turn lies just below the one before, or in regbank
arrive_here : (x slot from k bank left : ℕ) (h : Option (Option Home)) (a : Arrivals) → slice_get a.homes k ≡ h → in_home x slot (place_home (arrive from k bank h left a).homes k) ≤ among from slot x
arrive_here x slot from k bank left (Some (Some (Bank b))) a e = let same : place_home a.homes k ≡ Some (Bank b) = ap flat e in omega (arith, ap (in_home x slot) same)
arrive_here x slot from k bank left (Some (Some (Soft o))) a e = let same : place_home (slice_set a.homes k (Some (Soft from))) k ≡ Some (Soft from) = set_there a.homes k (Some (Soft o)) (Some (Soft from)) e in omega (arith, ap (in_home x slot) same)
arrive_here x slot from k bank left (Some None) a e = let same : place_home a.homes k ≡ None = ap flat e in omega (arith, ap (in_home x slot) same)
arrive_here x slot from k bank left None a e = let same : place_home a.homes k ≡ None = ap flat e in omega (arith, ap (in_home x slot) same)

-- the bytes of all these slots
abbrev all_slots : Parts → Bool → List ℕ → ℕ
all_slots parts prototype [] = 0
all_slots parts prototype (i ∷ ps) = slot_bytes (types_of parts.types) prototype (object_in parts i) + all_slots parts prototype ps

left_behind : (from k bank left : ℕ) (h : Option (Option Home)) (a : Arrivals) → (arrive from k bank h left a).left ≡ left
left_behind from k bank left (Some (Some (Bank b))) a = refl
left_behind from k bank left (Some (Some (Soft o))) a = refl
left_behind from k bank left (Some None) a = refl
left_behind from k bank left None a = refl

params_tile : (parts : Parts) (prototype : Bool) (x low base : ℕ) (ps : List ℕ) (a : Arrivals) → AreAbove low ps → AllDiffer ps → all_slots parts prototype ps ≤ a.left
    → in_params parts prototype x low (arrived parts prototype low base ps a).homes ps + below base x ≤ below (base + a.left) x
params_tile parts prototype x low base [] a above differ room = omega (arith, below_grows base (base + a.left) x (omega arith))
params_tile parts prototype x low base (i ∷ ps) a above differ room =
    let slot : ℕ = slot_bytes (types_of parts.types) prototype (object_in parts i) in
    let bank : ℕ = bank_bytes true (object_in parts i) in
    let left : ℕ = a.left - slot in
    let k : ℕ = i - low in
    let h : Option (Option Home) = slice_get a.homes k in
    let b : Arrivals = with_slot base k slot bank a in
    let hs : List (Option Home) = (arrived parts prototype low base ps b).homes in
    let over : b.left ≡ left = left_behind (base + left) k bank left h a in
    let rest : in_params parts prototype x low hs ps + below base x ≤ below (base + b.left) x = params_tile parts prototype x low base ps b above.1 differ.1 (omega (arith, room, over)) in
    let place : home_at low hs i ≡ place_home b.homes k = home_there low hs i above.0 ∙ later_elsewhere parts prototype low base ps b i above.0 above.1 differ.0 in
    let same : in_home x slot (home_at low hs i) ≡ in_home x slot (place_home b.homes k) = ap (in_home x slot) place in
    let here : in_home x slot (place_home b.homes k) ≤ among (base + left) slot x = arrive_here x slot (base + left) k bank left h a refl in
    let next_one : below (base + b.left) x ≡ below (base + left) x = ap (λ n. below (base + n) x) over in
    omega (arith, rest, same, here, next_one, below_more (base + left) slot x, below_grows (base + left + slot) (base + a.left) x (omega (arith, room)))

-- ---- the slots of all parameters

slots_sum : (parts : Parts) (prototype : Bool) (ps : List ℕ) (total : ℕ) → slots parts prototype ps total ≤ 1024 → slots parts prototype ps total ≡ total + all_slots parts prototype ps
slots_sum parts prototype [] total few = omega arith
slots_sum parts prototype (i ∷ ps) total few =
    let slot : ℕ = slot_bytes (types_of parts.types) prototype (object_in parts i) in
    let rest : slots parts prototype ps (more total slot) ≡ more total slot + all_slots parts prototype ps = slots_sum parts prototype ps (more total slot) few in
    omega (arith, rest, few, min_small (total + slot) (omega (arith, rest, few)))

sum_last : (parts : Parts) (prototype : Bool) (ps : List ℕ) (k i : ℕ) → slice_get ps k ≡ Some i → k + 1 ≡ length ps → all_slots parts prototype ps ≡ all_slots parts prototype (take k ps) + slot_bytes (types_of parts.types) prototype (object_in parts i)
sum_last parts prototype [] k i h e = cc
sum_last parts prototype (j ∷ []) zero i h e = let same : j ≡ i = cc in omega (arith, ap (λ n. slot_bytes (types_of parts.types) prototype (object_in parts n)) same)
sum_last parts prototype (j ∷ j2 ∷ ps) zero i h e = absurd (omega (arith, e))
sum_last parts prototype (j ∷ ps) (suc k) i h e = omega (arith, sum_last parts prototype ps k i h (omega (arith, e)))

params_last : (parts : Parts) (prototype : Bool) (x low : ℕ) (hs : List (Option Home)) (ps : List ℕ) (k i : ℕ) → slice_get ps k ≡ Some i → k + 1 ≡ length ps
    → in_params parts prototype x low hs ps ≡ in_params parts prototype x low hs (take k ps) + in_home x (slot_bytes (types_of parts.types) prototype (object_in parts i)) (home_at low hs i)
params_last parts prototype x low hs [] k i h e = cc
params_last parts prototype x low hs (j ∷ []) zero i h e = let same : j ≡ i = cc in omega (arith, ap (λ n. in_home x (slot_bytes (types_of parts.types) prototype (object_in parts n)) (home_at low hs n)) same)
params_last parts prototype x low hs (j ∷ j2 ∷ ps) zero i h e = absurd (omega (arith, e))
params_last parts prototype x low hs (j ∷ ps) (suc k) i h e = omega (arith, params_last parts prototype x low hs ps k i h (omega (arith, e)))

-- ---- a last parameter that is kept in regbank

index_below : (ps : List ℕ) (k i : ℕ) → slice_get ps k ≡ Some i → k < length ps
index_below [] k i h = absurd cc
index_below (j ∷ ps) zero i h = omega arith
index_below (j ∷ ps) (suc k) i h = omega (arith, index_below ps k i h)

above_at : (low : ℕ) (ps : List ℕ) (k i : ℕ) → AreAbove low ps → slice_get ps k ≡ Some i → low ≤ i
above_at low [] k i above h = absurd cc
above_at low (j ∷ ps) zero i above h = let same : j ≡ i = cc in omega (arith, above.0, same)
above_at low (j ∷ ps) (suc k) i above h = above_at low ps k i above.1 h

differ_at : (j : ℕ) (ps : List ℕ) (k i : ℕ) → Differ j ps → slice_get ps k ≡ Some i → j ≡ i → ⊥
differ_at j [] k i d h e = cc
differ_at j (n ∷ ps) zero i d h e = let same : n ≡ i = cc in d.0 (e ∙ sym same)
differ_at j (n ∷ ps) (suc k) i d h e = differ_at j ps k i d.1 h e

last_differs : (ps : List ℕ) (k i : ℕ) → AllDiffer ps → slice_get ps k ≡ Some i → Differ i (take k ps)
last_differs [] k i d h = absurd cc
last_differs (j ∷ ps) zero i d h = tt
last_differs (j ∷ ps) (suc k) i d h = ((λ e. differ_at j ps k i d.0 h (sym e)), last_differs ps k i d.1 h)

-- it is the last of the parameters, and its home is in regbank
record KeptLast (low : ℕ) (hs : List (Option Home)) (ps : List ℕ) (r : Option ℕ) : Type 0 where
  last : ℕ
  byte : ℕ
  is_last : slice_get ps (length ps - 1) ≡ Some last
  home : home_at low hs last ≡ Some (Bank byte)
  named : r ≡ Some last

kept_home : (parts : Parts) (prototype : Bool) (i : ℕ) (h : Option Home) → is_kept (arrival_at parts prototype i h) ≡ true → (b : ℕ) × (h ≡ Some (Bank b))
kept_home parts prototype i None e = absurd cc
kept_home parts prototype i (Some (Soft d)) e = absurd cc
kept_home parts prototype i (Some (Bank b)) e = (b, refl)

from_register : (b : Bool) (o : Option ℕ) (i : ℕ) → (if b then None else o) ≡ Some i → o ≡ Some i
from_register true o i h = cc
from_register false o i h = h

kept_by : (parts : Parts) (prototype : Bool) (low : ℕ) (hs : List (Option Home)) (ps : List ℕ) (b : Bool) (r : Option ℕ) → (if b then None else slice_get ps (length ps - 1)) ≡ r → is_kept (arrival parts prototype low hs r) ≡ true → KeptLast low hs ps r
kept_by parts prototype low hs ps b None e h = absurd cc
kept_by parts prototype low hs ps b (Some i) e h =
    let found : (c : ℕ) × (home_at low hs i ≡ Some (Bank c)) = kept_home parts prototype i (home_at low hs i) h in
    record { last = i; byte = found.0; is_last = from_register b (slice_get ps (length ps - 1)) i e; home = found.1; named = refl }

params_apart : (kept : Bool) (parts : Parts) (prototype : Bool) (x low base passed : ℕ) (ps : List ℕ) (r : Option ℕ) (p : Places) → AreAbove low ps → AllDiffer ps → passed ≡ all_slots parts prototype ps → (kept ≡ true → KeptLast low p.homes ps r)
    → in_params parts prototype x low (arrived parts prototype low base (without_last kept ps) (first_arrivals p (bytes_without kept passed (last_bytes parts prototype r)))).homes ps + below base x ≤ below (base + bytes_without kept passed (last_bytes parts prototype r)) x
params_apart false parts prototype x low base passed ps r p above differ sum last = params_tile parts prototype x low base ps (first_arrivals p passed) above differ (omega (arith, sum))
params_apart true parts prototype x low base passed ps r p above differ sum last =
    let it : KeptLast low p.homes ps r = last refl in
    let k : ℕ = length ps - 1 in
    let i : ℕ = it.last in
    let slot : ℕ = slot_bytes (types_of parts.types) prototype (object_in parts i) in
    let bytes : last_bytes parts prototype r ≡ slot = ap (last_bytes parts prototype) it.named in
    let whole : k + 1 ≡ length ps = omega (arith, index_below ps k i it.is_last) in
    let a : Arrivals = first_arrivals p (passed - last_bytes parts prototype r) in
    let hs : List (Option Home) = (arrived parts prototype low base (take k ps) a).homes in
    let le : low ≤ i = above_at low ps k i above it.is_last in
    let there : home_at low hs i ≡ Some (Bank it.byte) = home_there low hs i le ∙ (later_elsewhere parts prototype low base (take k ps) a i le (fewer_above low k ps above) (last_differs ps k i differ it.is_last) ∙ (sym (home_there low p.homes i le) ∙ it.home)) in
    let none : in_home x slot (home_at low hs i) ≡ 0 = ap (in_home x slot) there in
    let room : all_slots parts prototype (take k ps) ≤ a.left = omega (arith, sum, bytes, sum_last parts prototype ps k i it.is_last whole) in
    omega (arith, none, params_last parts prototype x low hs ps k i it.is_last whole, params_tile parts prototype x low base (take k ps) a (fewer_above low k ps above) (all_fewer_differ k ps differ) room)

-- ---- frames

not_local_kept : (kept : Bool) (ms : List Mark) (low : ℕ) (ps : List ℕ) → AllNotLocal ms low ps → AllNotLocal ms low (without_last kept ps)
not_local_kept true ms low ps h = fewer_marks ms low (length ps - 1) ps h
not_local_kept false ms low ps h = h

pub homes_are_apart : HomesAreApart
homes_are_apart parts modes g f h distinct x =
    let p : Places = placed_in parts modes g in
    let low : ℕ = lowest (locals_of g) g.params in
    let prototype : Bool = has_prototype g.ty in
    let passed : ℕ = passed_bytes parts g in
    let marks : List Mark = all_marks (locals_of g) g.params in
    let r : Option ℕ = register_param g in
    let kept : Bool = is_kept (arrival parts prototype low p.homes r) in
    let base : ℕ = p.soft + saved_bytes p.bank in
    let a : Arrivals = first_arrivals p (bytes_without kept passed (last_bytes parts prototype r)) in
    let b : Arrivals = arrived parts prototype low base (without_last kept g.params) a in
    let given : (nat_lt 1024 p.total ≡ false) × (settled parts (check_of parts modes g) g low passed p ≡ f) = answered (nat_lt 1024 p.total) (large sizes.Frame p.total) (settled parts (check_of parts modes g) g low passed p) f h in
    let few : p.total ≤ 1024 = ltb-false 1024 p.total given.0 in
    let start : Places = none_placed (is_variadic g.ty) passed in
    let room : Room start p = all_room parts modes low marks start few in
    let tile : Tiled parts x low marks start p = tiled parts modes x low marks start in
    let stay : Stays parts x low marks a b = all_stay parts prototype x low base marks (without_last kept g.params) a (not_local_kept kept marks low g.params (marks_set low g.params (marked low Local (no_marks (locals_of g) g.params) (locals_of g)))) in
    let above : AreAbove low g.params = least_above (least 4294967295 (locals_of g)) g.params in
    let differ : AllDiffer g.params = all_differ g.params (λ j k m u v. distinct.once j k m u v) in
    let sum : passed ≡ all_slots parts prototype g.params = slots_sum parts prototype g.params 0 room.few ∙ omega arith in
    let params : in_params parts prototype x low b.homes g.params + below base x ≤ below (base + bytes_without kept passed (last_bytes parts prototype r)) x =
    params_apart kept parts prototype x low base passed g.params r p above differ sum (λ e. kept_by parts prototype low p.homes g.params (takes_stack g.ty) r refl e) in
    let new_bank : in_bank parts x low b.homes ≡ in_bank parts x low tile.new = stay.bank ∙ ap (in_bank parts x low) tile.homes in
    let new_blocks : in_blocks parts x low marks b.homes ≡ in_blocks parts x low marks tile.new = stay.blocks ∙ ap (in_blocks parts x low marks) tile.homes in
    let bank : in_bank parts x low b.homes ≡ among 0 p.bank x = omega (arith, new_bank, tile.bank, below_from p.bank x) in
    let soft : in_blocks parts x low marks b.homes + in_params parts prototype x low b.homes g.params ≤ 1 =
    omega (arith, new_blocks, tile.blocks, params, below_grows p.soft base x (omega arith), at_most_one (base + bytes_without kept passed (last_bytes parts prototype r)) x) in
    subst (λ (z : Framed). (in_bank parts x z.low z.homes ≡ among 0 z.bank x) × (in_blocks parts x z.low marks z.homes + in_params parts prototype x z.low z.homes g.params ≤ 1)) given.1 (bank, soft)
