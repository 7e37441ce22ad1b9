-- A function's own objects have homes.
use Rattle.std.proofs.Common.{◌≡◌, ℕ, zero, suc, ◌+◌, ◌-◌, ◌<◌, ◌≤◌, ◌||◌, Bool, true, false, Option, None, Some, List, [], ◌∷◌, ◌++◌, refl, sym, ◌∙◌, ap, subst, slice_get, slice_set, arith, append_assoc, append-nil, ◌&&◌, length}
use Rattle.std.specs.Prelude.{if◌then◌else◌, nat_lt, nat_le, map, not}
use Rattle.std.proofs.lemmas.Bool.{ltb-true, ltb-false, leb-true, leb-false}
use Rattle.c65_base.specs.declared.refusal.Size.TheVariants as sizes
use Rattle.c65_base.specs.Answers.{large}
use Rattle.c65_ctype.specs.Views.{types_of}
use Rattle.c65_csem.specs.declared.items.Parts.{Parts}
use Rattle.c65_genframe.specs.declared.modes.Modes.{Modes}
use Rattle.c65_genframe.specs.declared.home.Home.{Home}
use Rattle.c65_genframe.specs.declared.home.Home.TheVariants.{Bank, Soft}
use Rattle.c65_genframe.specs.declared.mark.Mark.{Mark}
use Rattle.c65_genframe.specs.declared.mark.Mark.TheVariants.{Other, Local, Parameter}
use Rattle.c65_genframe.specs.Places.{Places, more, none_placed, fits, with_none, with_banked, with_soft, with_later, with_marked, placed_all, with_local}
use Rattle.c65_genframe.specs.Arrivals.{Arrivals, arrive, with_slot, arrived}
use Rattle.c65_genframe.specs.Sizes.{object_in, object_bytes, slot_bytes, bank_bytes}
use Rattle.c65_genframe.specs.Marks.{lowest, all_marks, marked, no_marks}
use Rattle.c65_genframe.specs.Objects.{locals_of}
use Rattle.c65_genframe.specs.Frames.{Framed, has_prototype, is_variadic, register_param, flat, home_at, arrival, is_kept, last_bytes, without_last, bytes_without, saved_bytes, first_arrivals, check_of, settled, passed_bytes, placed_in}
use Rattle.c65_gen_law_size.specs.Own.{is_among, is_framed_in, has_home, OwnObjectsHaveHomes}
use Rattle.c65_gen_law_lines.proofs.FrameLaws.{Room, all_room, answered}
use Rattle.c65_gen_law_size.proofs.Marked.{has_mark, bit, own_bit, none_below, params_span, locals_span, highest, length_marked, mark_here, mark_kept}
use Rattle.c65_csem.specs.Places.{is_fixed_object}
use Rattle.std.proofs.lemmas.List.{length-replicate}

-- ---- as objects are placed

one_more : (hs : List (Option Home)) (h : Option Home) → map has_home (hs ++ h ∷ []) ≡ map has_home hs ++ has_home h ∷ []
one_more [] h = refl
one_more (g ∷ hs) h = ap (λ bs. has_home g ∷ bs) (one_more hs h)

local_home : (over fit : Bool) (bank bytes total : ℕ) (p : Places) → nat_lt 1024 total ≡ over
    → (if over then with_none total p else (if fit then with_banked bank total p else with_soft bytes total p)).total ≤ 1024
    → map has_home (if over then with_none total p else (if fit then with_banked bank total p else with_soft bytes total p)).homes ≡ map has_home p.homes ++ true ∷ []
local_home true fit bank bytes total p e h = absurd (omega (arith, h, ltb-true 1024 total e))
local_home false true bank bytes total p e h = one_more p.homes (Some (Bank p.bank))
local_home false false bank bytes total p e h = one_more p.homes (Some (Soft p.soft))

parameter_home : (fit : Bool) (bank : ℕ) (p : Places) → map has_home (if fit then with_banked bank p.total p else with_later p).homes ≡ map has_home p.homes ++ true ∷ []
parameter_home true bank p = one_more p.homes (Some (Bank p.bank))
parameter_home false bank p = one_more p.homes (Some (Soft 0))

object_home : (fixed : Bool) (bank bytes : ℕ) (p : Places) → (if fixed then with_none p.total p else with_local bank bytes p).total ≤ 1024
    → map has_home (if fixed then with_none p.total p else with_local bank bytes p).homes ≡ map has_home p.homes ++ not fixed ∷ []
object_home true bank bytes p h = one_more p.homes None
object_home false bank bytes p h = local_home (nat_lt 1024 (more p.total bytes)) (fits bank p) bank bytes (more p.total bytes) p refl h

-- which marks give a home to the object with number i
abbrev gives_home : Parts → ℕ → Mark → Bool
gives_home parts i Other = false
gives_home parts i Local = not (is_fixed_object (object_in parts i))
gives_home parts i Parameter = true

abbrev give_homes : Parts → ℕ → List Mark → List Bool
give_homes parts i [] = []
give_homes parts i (m ∷ ms) = gives_home parts i m ∷ give_homes parts (i + 1) ms

marked_home : (parts : Parts) (modes : Modes) (i : ℕ) (m : Mark) (p : Places) → (with_marked parts modes i m p).total ≤ 1024 → map has_home (with_marked parts modes i m p).homes ≡ map has_home p.homes ++ gives_home parts i m ∷ []
marked_home parts modes i Other p h = one_more p.homes None
marked_home parts modes i Local p h = object_home (is_fixed_object (object_in parts i)) (bank_bytes modes.honoured (object_in parts i)) (object_bytes (types_of parts.types) (object_in parts i)) p h
marked_home parts modes i Parameter p h = parameter_home (fits (bank_bytes modes.honoured (object_in parts i)) p) (bank_bytes modes.honoured (object_in parts i)) p

placed_homes : (parts : Parts) (modes : Modes) (i : ℕ) (ms : List Mark) (p : Places) → (placed_all parts modes i ms p).total ≤ 1024 → map has_home (placed_all parts modes i ms p).homes ≡ map has_home p.homes ++ give_homes parts i ms
placed_homes parts modes i [] p h = sym (append-nil (map has_home p.homes))
placed_homes parts modes i (m ∷ ms) p h =
    let q : Places = with_marked parts modes i m p in
    let next : ℕ = i + 1 in
    let rest : map has_home (placed_all parts modes next ms q).homes ≡ map has_home q.homes ++ give_homes parts next ms = placed_homes parts modes next ms q h in
    let room : Room q (placed_all parts modes next ms q) = all_room parts modes next ms q h in
    rest ∙ (ap (λ bs. bs ++ give_homes parts next ms) (marked_home parts modes i m p room.few) ∙ append_assoc (map has_home p.homes) (gives_home parts i m ∷ []) (give_homes parts next ms))

-- ---- as parameters get their places

soft_set : (hs : List (Option Home)) (k o d : ℕ) → slice_get hs k ≡ Some (Some (Soft o)) → map has_home (slice_set hs k (Some (Soft d))) ≡ map has_home hs
soft_set [] k o d h = refl
soft_set (None ∷ hs) zero o d h = absurd cc
soft_set (Some g ∷ hs) zero o d h = refl
soft_set (g ∷ hs) (suc k) o d h = ap (λ bs. has_home g ∷ bs) (soft_set hs k o d h)

arrive_home : (from k bank left : ℕ) (h : Option (Option Home)) (a : Arrivals) → slice_get a.homes k ≡ h → map has_home (arrive from k bank h left a).homes ≡ map has_home a.homes
arrive_home from k bank left (Some (Some (Bank b))) a e = refl
arrive_home from k bank left (Some (Some (Soft o))) a e = soft_set a.homes k o from e
arrive_home from k bank left (Some None) a e = refl
arrive_home from k bank left None a e = refl

arrived_homes : (parts : Parts) (prototype : Bool) (low base : ℕ) (is : List ℕ) (a : Arrivals) → map has_home (arrived parts prototype low base is a).homes ≡ map has_home a.homes
arrived_homes parts prototype low base [] a = refl
arrived_homes parts prototype low base (i ∷ is) a =
    let slot : ℕ = slot_bytes (types_of parts.types) prototype (object_in parts i) in
    let bank : ℕ = bank_bytes true (object_in parts i) in
    arrived_homes parts prototype low base is (with_slot base (i - low) slot bank a) ∙ arrive_home (base + (a.left - slot)) (i - low) bank (a.left - slot) (slice_get a.homes (i - low)) a refl

-- ---- frames

home_bit : (hs : List (Option Home)) (k : ℕ) → has_home (flat (slice_get hs k)) ≡ bit (map has_home hs) k
home_bit [] k = refl
home_bit (h ∷ hs) zero = refl
home_bit (h ∷ hs) (suc k) = home_bit hs k

-- the home of the object with number low + k is given by its mark
given_at : (parts : Parts) (low k : ℕ) (ms : List Mark) (m : Mark) → low + k < 4294967296 → slice_get ms k ≡ Some m → bit (give_homes parts low ms) k ≡ gives_home parts (low + k) m
given_at parts low k [] m few h = absurd cc
given_at parts low zero (x ∷ ms) m few h =
    let same : x ≡ m = cc in
    let here : low ≡ low + 0 = omega arith in
    ap (gives_home parts low) same ∙ ap (λ (n : ℕ). gives_home parts n m) here
given_at parts low (suc k) (x ∷ ms) m few h =
    let there : low + 1 + k ≡ low + suc k = omega arith in
    given_at parts (low + 1) k ms m (omega (arith, there, few)) h ∙ ap (λ (n : ℕ). gives_home parts n m) there

none_given : (parts : Parts) (low k : ℕ) (ms : List Mark) → bit (map has_mark ms) k ≡ false → bit (give_homes parts low ms) k ≡ false
none_given parts low k [] h = refl
none_given parts low zero (Other ∷ ms) h = refl
none_given parts low zero (Local ∷ ms) h = absurd (let x : true ≡ false = h in cc)
none_given parts low zero (Parameter ∷ ms) h = absurd (let x : true ≡ false = h in cc)
none_given parts low (suc k) (m ∷ ms) h = none_given parts (low + 1) k ms h

-- the objects that are marked, from their numbers on
given_own : (parts : Parts) (locals params : List ℕ) (i : ℕ) → i < 4294967296 → lowest locals params ≤ i
    → bit (give_homes parts (lowest locals params) (all_marks locals params)) (i - lowest locals params) ≡ (is_among params i || (is_among locals i && not (is_fixed_object (object_in parts i))))
given_own parts locals params i few le = go (is_among params i) (is_among locals i) refl refl
  where
    low : ℕ
    low = lowest locals params

    high : ℕ
    high = highest locals params

    ms : List Mark
    ms = no_marks locals params

    ns : List Mark
    ns = marked low Local ms locals

    here : low + (i - low) ≡ i
    here = omega (arith, le)

    room : length ms ≡ high + 1 - low
    room = length-replicate (high + 1 - low) Other

    at : (m : Mark) → slice_get (all_marks locals params) (i - low) ≡ Some m → bit (give_homes parts low (all_marks locals params)) (i - low) ≡ gives_home parts i m
    at m h = given_at parts low (i - low) (all_marks locals params) m (omega (arith, here, few)) h ∙ ap (λ (n : ℕ). gives_home parts n m) here

    go : (a b : Bool) → is_among params i ≡ a → is_among locals i ≡ b → bit (give_homes parts low (all_marks locals params)) (i - low) ≡ (a || (b && not (is_fixed_object (object_in parts i))))
    go true b e h = at Parameter (mark_here low high Parameter ns params i (params_span locals params) (omega (arith, room, length_marked low Local ms locals)) e).1
    go false true e h =
        let local : slice_get ns (i - low) ≡ Some Local = (mark_here low high Local ms locals i (locals_span locals params) (omega (arith, room)) h).1 in
        at Local (mark_kept low high Parameter ns params i le (params_span locals params) e ∙ local)
    go false false e h = none_given parts low (i - low) (all_marks locals params) (own_bit locals params i le ∙ (ap (λ (x : Bool). x || is_among locals i) e ∙ h))

nothing_own : (a b c : Bool) → a ≡ false → b ≡ false → false ≡ (a || (b && c))
nothing_own a b c e h = sym (ap (λ x. x || (b && c)) e ∙ ap (λ x. x && c) h)

found : (parts : Parts) (locals params : List ℕ) (i : ℕ) (hs : List (Option Home)) (b : Bool) → i < 4294967296 → nat_le (lowest locals params) i ≡ b → map has_home hs ≡ give_homes parts (lowest locals params) (all_marks locals params)
    → has_home (if b then flat (slice_get hs (i - lowest locals params)) else None) ≡ (is_among params i || (is_among locals i && not (is_fixed_object (object_in parts i))))
found parts locals params i hs true few e same =
    let k : ℕ = i - lowest locals params in
    home_bit hs k ∙ (ap (λ bs. bit bs k) same ∙ given_own parts locals params i few (leb-true (lowest locals params) i e))
found parts locals params i hs false few e same =
    let low : ℕ = lowest locals params in
    let high : ℕ = highest locals params in
    let before : i < low = leb-false low i e in
    nothing_own (is_among params i) (is_among locals i) (not (is_fixed_object (object_in parts i))) (none_below low high i params (params_span locals params) before) (none_below low high i locals (locals_span locals params) before)

pub own_objects_have_homes : OwnObjectsHaveHomes
own_objects_have_homes parts modes g f i number h =
    let p : Places = placed_in parts modes g in
    let low : ℕ = lowest (locals_of g) g.params in
    let passed : ℕ = passed_bytes parts g in
    let prototype : Bool = has_prototype g.ty in
    let kept : Bool = is_kept (arrival parts prototype low p.homes (register_param g)) in
    let base : ℕ = p.soft + saved_bytes p.bank in
    let a : Arrivals = first_arrivals p (bytes_without kept passed (last_bytes parts prototype (register_param g))) in
    let b : Arrivals = arrived parts prototype low base (without_last kept g.params) a in
    let given : (nat_lt 1024 p.total ≡ false) × (settled parts (check_of parts modes g) g low passed p ≡ f) = answered (nat_lt 1024 p.total) (large sizes.Frame p.total) (settled parts (check_of parts modes g) g low passed p) f h in
    let few : p.total ≤ 1024 = ltb-false 1024 p.total given.0 in
    let same : map has_home b.homes ≡ give_homes parts low (all_marks (locals_of g) g.params) =
    arrived_homes parts prototype low base (without_last kept g.params) a ∙ placed_homes parts modes low (all_marks (locals_of g) g.params) (none_placed (is_variadic g.ty) passed) few in
    subst (λ (z : Framed). has_home (home_at z.low z.homes i) ≡ is_framed_in parts g i) given.1 (found parts (locals_of g) g.params i b.homes (nat_le low i) (omega (arith, number)) refl same)
