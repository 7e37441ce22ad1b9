-- Parameters come to their homes.
use Rattle.std.proofs.Common.{◌≡◌, ℕ, zero, suc, ◌+◌, ◌-◌, ◌≤◌, ◌⊎◌, inl, inr, Bool, true, false, Option, None, Some, List, [], ◌∷◌, length, take, refl, sym, ◌∙◌, ap, subst, slice_get, slice_set, arith}
use Rattle.std.specs.Prelude.{◌==◌, if◌then◌else◌}
use Rattle.std.proofs.lemmas.Bool.{eqb-true, eqb-false}
use Rattle.std.proofs.lemmas.List.{length-append}
use Rattle.c65_ctype.specs.Views.{types_of}
use Rattle.c65_csem.specs.declared.items.Parts.{Parts}
use Rattle.c65_meaning.specs.After.{is_among}
use Rattle.c65_genframe.specs.declared.home.Home.{Home}
use Rattle.c65_genframe.specs.declared.home.Home.TheVariants.{Bank, Soft}
use Rattle.c65_genframe.specs.Places.{more}
use Rattle.c65_genframe.specs.Arrivals.{slots, Arrivals, arrive, with_slot, arrived}
use Rattle.c65_genframe.specs.Sizes.{object_in, slot_bytes, bank_bytes}
use Rattle.c65_gen_law_lines.proofs.FrameLaws.{min_small}
use Rattle.c65_agree_enter.specs.Params.{AreDistinct}
use Rattle.c65_agree_homes.specs.Slots.{all_slots, behind_slots}
use Rattle.c65_agree_homes.proofs.Among.{among_here, among_more, among_cases, among_clash}
use Rattle.c65_agree_homes.proofs.Placed.{IsBanked, FirstHome}

-- ---- lists of homes

pub set_here : (hs : List (Option Home)) (k : ℕ) (o v : Option Home) → slice_get hs k ≡ Some o → slice_get (slice_set hs k v) k ≡ Some v
set_here [] k o v h = absurd cc
set_here (g ∷ hs) zero o v h = refl
set_here (g ∷ hs) (suc k) o v h = set_here hs k o v h

set_other : (hs : List (Option Home)) (j k : ℕ) (v : Option Home) → (j ≡ k → ⊥) → slice_get (slice_set hs j v) k ≡ slice_get hs k
set_other [] j k v h = refl
set_other (g ∷ hs) zero zero v h = absurd (h refl)
set_other (g ∷ hs) zero (suc k) v h = refl
set_other (g ∷ hs) (suc j) zero v h = refl
set_other (g ∷ hs) (suc j) (suc k) v h = set_other hs j k v (λ e. h (ap suc e))

-- ---- one parameter

-- its home, where parameters on the software stack lie between these offsets
abbrev pub ParameterHome : Parts → Bool → ℕ → ℕ → ℕ → ℕ → Option Home → Type 0
ParameterHome parts prototype i from to bank None = ⊥
ParameterHome parts prototype i from to bank (Some (Bank b)) = IsBanked parts i b bank
ParameterHome parts prototype i from to bank (Some (Soft d)) = (from ≤ d) × (d + slot_bytes (types_of parts.types) prototype (object_in parts i) ≤ to)

pub record Arrives (parts : Parts) (prototype : Bool) (i from to bank : ℕ) (hs : List (Option Home)) (k : ℕ) : Type 0 where
  pub home : Option Home
  pub is : slice_get hs k ≡ Some home
  pub by : ParameterHome parts prototype i from to bank home

home_wider : (parts : Parts) (prototype : Bool) (i from to bank to2 : ℕ) (h : Option Home) → to ≤ to2 → ParameterHome parts prototype i from to bank h → ParameterHome parts prototype i from to2 bank h
home_wider parts prototype i from to bank to2 None le h = h
home_wider parts prototype i from to bank to2 (Some (Bank b)) le h = h
home_wider parts prototype i from to bank to2 (Some (Soft d)) le h = (h.0, omega (arith, le, h.1))

arrives_wider : (parts : Parts) (prototype : Bool) (i from to bank to2 : ℕ) (hs : List (Option Home)) (k : ℕ) → to ≤ to2 → Arrives parts prototype i from to bank hs k → Arrives parts prototype i from to2 bank hs k
arrives_wider parts prototype i from to bank to2 hs k le a = record { home = a.home; is = a.is; by = home_wider parts prototype i from to bank to2 a.home le a.by }

one_other : (from j bank left k : ℕ) (h : Option (Option Home)) (a : Arrivals) → (j ≡ k → ⊥) → slice_get (arrive from j bank h left a).homes k ≡ slice_get a.homes k
one_other from j bank left k (Some (Some (Bank b))) a h = refl
one_other from j bank left k (Some (Some (Soft o))) a h = set_other a.homes j k (Some (Soft from)) h
one_other from j bank left k (Some None) a h = refl
one_other from j bank left k None a h = refl

pub one_left : (from k bank left : ℕ) (h : Option (Option Home)) (a : Arrivals) → (arrive from k bank h left a).left ≡ left
one_left from k bank left (Some (Some (Bank b))) a = refl
one_left from k bank left (Some (Some (Soft o))) a = refl
one_left from k bank left (Some None) a = refl
one_left from k bank left None a = refl

one_here : (parts : Parts) (prototype : Bool) (i from k reg left bank low high : ℕ) (h : Option (Option Home)) (home : Option Home) (a : Arrivals) → slice_get a.homes k ≡ h → h ≡ Some home → FirstHome parts i bank home
    → low ≤ from → from + slot_bytes (types_of parts.types) prototype (object_in parts i) ≤ high → Arrives parts prototype i low high bank (arrive from k reg h left a).homes k
one_here parts prototype i from k reg left bank low high None home a e same first le fits = absurd cc
one_here parts prototype i from k reg left bank low high (Some None) home a e same first le fits =
    let one : home ≡ None = cc in
    absurd (subst (FirstHome parts i bank) one first)
one_here parts prototype i from k reg left bank low high (Some (Some (Bank b))) home a e same first le fits =
    let one : home ≡ Some (Bank b) = cc in
    record { home = Some (Bank b); is = e; by = subst (FirstHome parts i bank) one first }
one_here parts prototype i from k reg left bank low high (Some (Some (Soft o))) home a e same first le fits =
    record { home = Some (Soft from); is = set_here a.homes k (Some (Soft o)) (Some (Soft from)) e; by = (le, fits) }

-- ---- all parameters

pub arrived_other : (parts : Parts) (prototype : Bool) (low base : ℕ) (ps : List ℕ) (a : Arrivals) (k : ℕ) → ((j : ℕ) → is_among ps j ≡ true → j - low ≡ k → ⊥) → slice_get (arrived parts prototype low base ps a).homes k ≡ slice_get a.homes k
arrived_other parts prototype low base [] a k h = refl
arrived_other parts prototype low base (j ∷ ps) a k h =
    let slot : ℕ = slot_bytes (types_of parts.types) prototype (object_in parts j) in
    let b : Arrivals = with_slot base (j - low) slot (bank_bytes true (object_in parts j)) a in
    arrived_other parts prototype low base ps b k (λ i e. h i (among_more j ps i e)) ∙ one_other (base + (a.left - slot)) (j - low) (bank_bytes true (object_in parts j)) (a.left - slot) k (slice_get a.homes (j - low)) a (h j (among_here j ps))

-- each number is at least the lowest
abbrev pub AreFrom : ℕ → List ℕ → Type 0
AreFrom low ps = (j : ℕ) → is_among ps j ≡ true → low ≤ j

pub all_arrive : (parts : Parts) (prototype : Bool) (low base bank : ℕ) (ps : List ℕ) (a : Arrivals) (i : ℕ) (home : Option Home) → AreFrom low ps → AreDistinct ps → is_among ps i ≡ true → slice_get a.homes (i - low) ≡ Some home → FirstHome parts i bank home
    → all_slots parts prototype ps ≤ a.left → Arrives parts prototype i base (base + a.left) bank (arrived parts prototype low base ps a).homes (i - low)
all_arrive parts prototype low base bank [] a i home above d h is first room = absurd cc
all_arrive parts prototype low base bank (j ∷ ps) a i home above d h is first room = go (among_cases j ps i h) (λ e there. all_arrive parts prototype low base bank ps b i home (λ m f. above m (among_more j ps m f)) d.1 e there first (omega (arith, room, over)))
  where
    slot : ℕ
    slot = slot_bytes (types_of parts.types) prototype (object_in parts j)

    left : ℕ
    left = a.left - slot

    b : Arrivals
    b = with_slot base (j - low) slot (bank_bytes true (object_in parts j)) a

    over : b.left ≡ left
    over = one_left (base + left) (j - low) (bank_bytes true (object_in parts j)) left (slice_get a.homes (j - low)) a

    go : (j ≡ i) ⊎ (is_among ps i ≡ true) → (is_among ps i ≡ true → slice_get b.homes (i - low) ≡ Some home → Arrives parts prototype i base (base + b.left) bank (arrived parts prototype low base ps b).homes (i - low))
        → Arrives parts prototype i base (base + a.left) bank (arrived parts prototype low base ps b).homes (i - low)
    go (inl e) rest =
        let here : Arrives parts prototype j base (base + a.left) bank b.homes (j - low) =
        one_here parts prototype j (base + left) (j - low) (bank_bytes true (object_in parts j)) left bank base (base + a.left) (slice_get a.homes (j - low)) home a refl (ap (λ (n : ℕ). slice_get a.homes (n - low)) e ∙ is) (subst (λ (n : ℕ). FirstHome parts n bank home) (sym e) first) (omega arith) (omega (arith, room)) in
        let far : (m : ℕ) → is_among ps m ≡ true → m - low ≡ j - low → ⊥ = λ m f same.
        let one : m ≡ j = omega (arith, same, above m (among_more j ps m f), above j (among_here j ps)) in
        among_clash ps j (ap (is_among ps) (sym one) ∙ f) d.0 in
        let stays = arrived_other parts prototype low base ps b (j - low) far in
        subst (λ (n : ℕ). Arrives parts prototype n base (base + a.left) bank (arrived parts prototype low base ps b).homes (n - low)) e (record { home = here.home; is = stays ∙ here.is; by = here.by })
    go (inr e) rest =
        let far : j - low ≡ i - low → ⊥ = λ same.
        let one : j ≡ i = omega (arith, same, above j (among_here j ps), above i h) in
        among_clash ps j (ap (is_among ps) one ∙ e) d.0 in
        let there = one_other (base + left) (j - low) (bank_bytes true (object_in parts j)) left (i - low) (slice_get a.homes (j - low)) a far in
        arrives_wider parts prototype i base (base + b.left) bank (base + a.left) (arrived parts prototype low base ps b).homes (i - low) (omega (arith, over)) (rest e (there ∙ is))

-- ---- in their order

one_soft : (from k bank left o : ℕ) (h : Option (Option Home)) (a : Arrivals) → h ≡ Some (Some (Soft o)) → (arrive from k bank h left a).homes ≡ slice_set a.homes k (Some (Soft from))
one_soft from k bank left o (Some (Some (Bank b))) a e = absurd (no_soft b o e)
  where
    no_soft : (b o : ℕ) → ◌≡◌ {A = Option (Option Home)} (Some (Some (Bank b))) (Some (Some (Soft o))) → ⊥
    no_soft b o e = cc
one_soft from k bank left o (Some (Some (Soft d))) a e = refl
one_soft from k bank left o (Some None) a e = cc
one_soft from k bank left o None a e = cc

-- the first lies highest, each of the others just below the one before
pub all_in_order : (parts : Parts) (prototype : Bool) (low base : ℕ) (ps : List ℕ) (a : Arrivals) (i o : ℕ) → AreFrom low ps → AreDistinct ps → is_among ps i ≡ true → slice_get a.homes (i - low) ≡ Some (Some (Soft o))
    → a.left ≡ all_slots parts prototype ps → slice_get (arrived parts prototype low base ps a).homes (i - low) ≡ Some (Some (Soft (base + behind_slots parts prototype ps i)))
all_in_order parts prototype low base [] a i o above d h is full = absurd cc
all_in_order parts prototype low base (j ∷ ps) a i o above d h is full = go (j == i) refl (among_cases j ps i h) (λ e there. all_in_order parts prototype low base ps b i o (λ m f. above m (among_more j ps m f)) d.1 e there rest_full)
  where
    slot : ℕ
    slot = slot_bytes (types_of parts.types) prototype (object_in parts j)

    left : ℕ
    left = a.left - slot

    b : Arrivals
    b = with_slot base (j - low) slot (bank_bytes true (object_in parts j)) a

    rest_full : b.left ≡ all_slots parts prototype ps
    rest_full = one_left (base + left) (j - low) (bank_bytes true (object_in parts j)) left (slice_get a.homes (j - low)) a ∙ omega (arith, full)

    go : (same : Bool) → (j == i) ≡ same → (j ≡ i) ⊎ (is_among ps i ≡ true) → (is_among ps i ≡ true → slice_get b.homes (i - low) ≡ Some (Some (Soft o)) → slice_get (arrived parts prototype low base ps b).homes (i - low) ≡ Some (Some (Soft (base + behind_slots parts prototype ps i))))
        → slice_get (arrived parts prototype low base ps b).homes (i - low) ≡ Some (Some (Soft (base + (if same then all_slots parts prototype ps else behind_slots parts prototype ps i))))
    go true is_same k rest =
        let e : j ≡ i = eqb-true j i is_same in
        let first : slice_get a.homes (j - low) ≡ Some (Some (Soft o)) = ap (λ (n : ℕ). slice_get a.homes (n - low)) e ∙ is in
        let here : slice_get b.homes (j - low) ≡ Some (Some (Soft (base + left))) = ap (λ (hs : List (Option Home)). slice_get hs (j - low)) (one_soft (base + left) (j - low) (bank_bytes true (object_in parts j)) left o (slice_get a.homes (j - low)) a first) ∙ set_here a.homes (j - low) (Some (Soft o)) (Some (Soft (base + left))) first in
        let far : (m : ℕ) → is_among ps m ≡ true → m - low ≡ j - low → ⊥ = λ m f same.
        let one : m ≡ j = omega (arith, same, above m (among_more j ps m f), above j (among_here j ps)) in
        among_clash ps j (ap (is_among ps) (sym one) ∙ f) d.0 in
        let stays = arrived_other parts prototype low base ps b (j - low) far in
        let sum : left ≡ all_slots parts prototype ps = omega (arith, full) in
        subst (λ (n : ℕ). slice_get (arrived parts prototype low base ps b).homes (n - low) ≡ Some (Some (Soft (base + all_slots parts prototype ps)))) e (stays ∙ (here ∙ ap (λ (n : ℕ). Some (Some (Soft (base + n)))) sum))
    go false is_same (inl e) rest = absurd (eqb-false j i is_same e)
    go false is_same (inr e) rest =
        let far : j - low ≡ i - low → ⊥ = λ same.
        let one : j ≡ i = omega (arith, same, above j (among_here j ps), above i h) in
        eqb-false j i is_same one in
        let there = one_other (base + left) (j - low) (bank_bytes true (object_in parts j)) left (i - low) (slice_get a.homes (j - low)) a far in
        rest e (there ∙ is)

-- ---- those in regbank

one_stays : (from k bank left m b : ℕ) (h : Option (Option Home)) (a : Arrivals) → slice_get a.homes k ≡ h → slice_get a.homes m ≡ Some (Some (Bank b)) → slice_get (arrive from k bank h left a).homes m ≡ Some (Some (Bank b))
one_stays from k bank left m b (Some (Some (Bank c))) a e is = is
one_stays from k bank left m b (Some (Some (Soft o))) a e is = set_other a.homes k m (Some (Soft from)) (λ same. other (sym e ∙ (ap (slice_get a.homes) same ∙ is))) ∙ is
  where
    other : ◌≡◌ {A = Option (Option Home)} (Some (Some (Soft o))) (Some (Some (Bank b))) → ⊥
    other e = cc
one_stays from k bank left m b (Some None) a e is = is
one_stays from k bank left m b None a e is = is

pub bank_stays : (parts : Parts) (prototype : Bool) (low base : ℕ) (ps : List ℕ) (a : Arrivals) (m b : ℕ) → slice_get a.homes m ≡ Some (Some (Bank b)) → slice_get (arrived parts prototype low base ps a).homes m ≡ Some (Some (Bank b))
bank_stays parts prototype low base [] a m b is = is
bank_stays parts prototype low base (j ∷ ps) a m b is =
    let slot : ℕ = slot_bytes (types_of parts.types) prototype (object_in parts j) in
    let reg : ℕ = bank_bytes true (object_in parts j) in
    bank_stays parts prototype low base ps (with_slot base (j - low) slot reg a) m b (one_stays (base + (a.left - slot)) (j - low) reg (a.left - slot) m b (slice_get a.homes (j - low)) a refl is)

one_grows : (from k bank left : ℕ) (h : Option (Option Home)) (a : Arrivals) → length a.moved ≤ length (arrive from k bank h left a).moved
one_grows from k bank left (Some (Some (Bank b))) a = omega (arith, length-append a.moved (record { bank = b; from = from; bytes = bank } ∷ []))
one_grows from k bank left (Some (Some (Soft o))) a = omega arith
one_grows from k bank left (Some None) a = omega arith
one_grows from k bank left None a = omega arith

moved_grows : (parts : Parts) (prototype : Bool) (low base : ℕ) (ps : List ℕ) (a : Arrivals) → length a.moved ≤ length (arrived parts prototype low base ps a).moved
moved_grows parts prototype low base [] a = omega arith
moved_grows parts prototype low base (j ∷ ps) a =
    let slot : ℕ = slot_bytes (types_of parts.types) prototype (object_in parts j) in
    let reg : ℕ = bank_bytes true (object_in parts j) in
    omega (arith, moved_grows parts prototype low base ps (with_slot base (j - low) slot reg a), one_grows (base + (a.left - slot)) (j - low) reg (a.left - slot) (slice_get a.homes (j - low)) a)

one_moves : (from k bank left b : ℕ) (h : Option (Option Home)) (a : Arrivals) → h ≡ Some (Some (Bank b)) → 1 ≤ length (arrive from k bank h left a).moved
one_moves from k bank left b (Some (Some (Bank c))) a e = omega (arith, length-append a.moved (record { bank = c; from = from; bytes = bank } ∷ []))
one_moves from k bank left b (Some (Some (Soft o))) a e = absurd (other e)
  where
    other : ◌≡◌ {A = Option (Option Home)} (Some (Some (Soft o))) (Some (Some (Bank b))) → ⊥
    other e = cc
one_moves from k bank left b (Some None) a e = cc
one_moves from k bank left b None a e = cc

-- one that comes on the software stack moves there
pub bank_moves : (parts : Parts) (prototype : Bool) (low base : ℕ) (ps : List ℕ) (a : Arrivals) (i b : ℕ) → is_among ps i ≡ true → slice_get a.homes (i - low) ≡ Some (Some (Bank b)) → 1 ≤ length (arrived parts prototype low base ps a).moved
bank_moves parts prototype low base [] a i b h is = absurd cc
bank_moves parts prototype low base (j ∷ ps) a i b h is = go (among_cases j ps i h) (λ e. bank_moves parts prototype low base ps next i b e (one_stays (base + (a.left - slot)) (j - low) reg (a.left - slot) (i - low) b (slice_get a.homes (j - low)) a refl is))
  where
    slot : ℕ
    slot = slot_bytes (types_of parts.types) prototype (object_in parts j)

    reg : ℕ
    reg = bank_bytes true (object_in parts j)

    next : Arrivals
    next = with_slot base (j - low) slot reg a

    go : (j ≡ i) ⊎ (is_among ps i ≡ true) → (is_among ps i ≡ true → 1 ≤ length (arrived parts prototype low base ps next).moved) → 1 ≤ length (arrived parts prototype low base ps next).moved
    go (inl e) rest =
        let first : slice_get a.homes (j - low) ≡ Some (Some (Bank b)) = ap (λ (n : ℕ). slice_get a.homes (n - low)) e ∙ is in
        let one : 1 ≤ length next.moved = one_moves (base + (a.left - slot)) (j - low) reg (a.left - slot) b (slice_get a.homes (j - low)) a first in
        omega (arith, one, moved_grows parts prototype low base ps next)
    go (inr e) rest = rest e

-- ---- their slots together

pub slots_sum : (parts : Parts) (prototype : Bool) (ps : List ℕ) (total : ℕ) → slots parts prototype ps total ≤ 1024 → slots parts prototype ps total ≡ total + all_slots parts prototype ps
slots_sum parts prototype [] total few = omega arith
slots_sum parts prototype (i ∷ ps) total few =
    let slot : ℕ = slot_bytes (types_of parts.types) prototype (object_in parts i) in
    let rest : slots parts prototype ps (more total slot) ≡ more total slot + all_slots parts prototype ps = slots_sum parts prototype ps (more total slot) few in
    omega (arith, rest, few, min_small (total + slot) (omega (arith, rest, few)))

pub sum_last : (parts : Parts) (prototype : Bool) (ps : List ℕ) (k i : ℕ) → slice_get ps k ≡ Some i → k + 1 ≡ length ps → all_slots parts prototype ps ≡ all_slots parts prototype (take k ps) + slot_bytes (types_of parts.types) prototype (object_in parts i)
sum_last parts prototype [] k i h e = cc
sum_last parts prototype (j ∷ []) zero i h e = let same : j ≡ i = cc in omega (arith, ap (λ n. slot_bytes (types_of parts.types) prototype (object_in parts n)) same)
sum_last parts prototype (j ∷ j2 ∷ ps) zero i h e = absurd (omega (arith, e))
sum_last parts prototype (j ∷ ps) (suc k) i h e = omega (arith, sum_last parts prototype ps k i h (omega (arith, e)))
