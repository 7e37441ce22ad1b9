-- Where the objects of a function have their homes in its frame.
use Rattle.std.proofs.Common.{◌≡◌, ℕ, zero, suc, ◌+◌, ◌-◌, ◌<◌, ◌≤◌, ◌⊎◌, inl, inr, Bool, true, false, Option, None, Some, List, [], ◌∷◌, length, take, refl, sym, ◌∙◌, ap, subst, slice_get, arith}
use Rattle.std.specs.Prelude.{if◌then◌else◌, nat_lt, Ok}
use Rattle.std.proofs.lemmas.Bool.{ltb-false, le-leb}
use Rattle.c65_base.specs.declared.refusal.Size.TheVariants as sizes
use Rattle.c65_base.specs.Answers.{large}
use Rattle.c65_ctype.specs.Views.{types_of}
use Rattle.c65_csem.specs.declared.items.Parts.{Parts}
use Rattle.c65_csem.specs.Trees.{FuncTy}
use Rattle.c65_meaning.specs.After.{is_among}
use Rattle.c65_genframe.specs.declared.modes.Modes.{Modes}
use Rattle.c65_genframe.specs.declared.home.Home.{Home}
use Rattle.c65_genframe.specs.declared.home.Home.TheVariants.{Bank, Soft}
use Rattle.c65_genframe.specs.declared.home.Arrival.TheVariants.{Passed, Pushed}
use Rattle.c65_genframe.specs.declared.mark.Mark.{Mark}
use Rattle.c65_genframe.specs.declared.mark.Mark.TheVariants.{Local, Parameter}
use Rattle.c65_genframe.specs.Places.{Places, none_placed}
use Rattle.c65_genframe.specs.Arrivals.{Arrivals, arrived}
use Rattle.c65_genframe.specs.Sizes.{object_in, slot_bytes}
use Rattle.c65_genframe.specs.Marks.{lowest, all_marks}
use Rattle.c65_genframe.specs.Objects.{locals_of}
use Rattle.c65_genframe.specs.Frames.{Framed, has_prototype, is_variadic, takes_stack, register_param, flat, home_at, home_of, arrival_at, arrival, is_kept, last_bytes, without_last, bytes_without, saved_bytes, first_arrivals, check_of, settled, passed_bytes, placed_in, frame_of}
use Rattle.c65_gen_law_lines.proofs.FrameLaws.{all_room, answered}
use Rattle.c65_agree_enter.specs.Params.{AreDistinct}
use Rattle.c65_agree_homes.specs.Slots.{all_slots, behind_slots}
use Rattle.c65_agree_homes.proofs.Among.{among_clash, among_take, among_last, at_among}
use Rattle.c65_agree_homes.proofs.Distinct.{distinct_take, last_apart}
use Rattle.c65_agree_homes.proofs.Marks.{local_low, param_low, local_mark, param_mark}
use Rattle.c65_agree_homes.proofs.Placed.{LocalHome, FirstHome, ArePlaced, all_placed, HasHome, home_by}
use Rattle.c65_agree_homes.proofs.Arrived.{ParameterHome, Arrives, arrived_other, all_arrive, all_in_order, bank_stays, bank_moves, slots_sum, sum_last}

-- the byte that a variadic function has at its base
abbrev pub first_byte : Bool → ℕ
first_byte variadic = if variadic then 1 else 0

pub record HaveFrame (parts : Parts) (f : FuncTy) (z : Framed) : Type 0 where
  pub locals : (i : ℕ) → is_among (locals_of f) i ≡ true → is_among f.params i ≡ false → LocalHome parts i (first_byte z.variadic) z.soft z.bank (home_of z i)
  pub params : (i : ℕ) → is_among f.params i ≡ true → ParameterHome parts (has_prototype f.ty) i (z.soft + saved_bytes z.bank) (z.soft + saved_bytes z.bank + z.stacked) z.bank (home_of z i)
  pub six : z.bank ≤ 6
  -- where the last parameter is not kept in regbank, all lie one below the other, but those that move there
  pub order : is_kept z.last ≡ false → (i d : ℕ) → is_among f.params i ≡ true → home_of z i ≡ Some (Soft d) → d ≡ z.soft + saved_bytes z.bank + behind_slots parts (has_prototype f.ty) f.params i
  pub moves : is_kept z.last ≡ false → (i b : ℕ) → is_among f.params i ≡ true → home_of z i ≡ Some (Bank b) → 1 ≤ length z.moved
  pub stacked : is_kept z.last ≡ false → z.stacked ≡ all_slots parts (has_prototype f.ty) f.params
  -- how the last one arrives
  pub none_last : register_param f ≡ None → z.last ≡ Passed
  pub some_last : is_kept z.last ≡ false → (i : ℕ) → register_param f ≡ Some i → z.last ≡ Pushed (slot_bytes (types_of parts.types) (has_prototype f.ty) (object_in parts i))
  pub low : z.low ≡ lowest (locals_of f) f.params

home_there : (low : ℕ) (hs : List (Option Home)) (i : ℕ) (h : Option Home) → low ≤ i → slice_get hs (i - low) ≡ Some h → home_at low hs i ≡ h
home_there low hs i h le e = ap (λ b. if b then flat (slice_get hs (i - low)) else None) (le-leb low i le) ∙ ap flat e

-- ---- the parameter that is kept in regbank

record KeptLast (low : ℕ) (hs : List (Option Home)) (ps : List ℕ) (r : Option ℕ) : Type 0 where
  last : ℕ
  byte : ℕ
  is_last : slice_get ps (length ps - 1) ≡ Some last
  home : home_at low hs last ≡ Some (Bank byte)
  named : r ≡ Some last

kept_home : (parts : Parts) (prototype : Bool) (i : ℕ) (h : Option Home) → is_kept (arrival_at parts prototype i h) ≡ true → (b : ℕ) × (h ≡ Some (Bank b))
kept_home parts prototype i None e = absurd cc
kept_home parts prototype i (Some (Soft d)) e = absurd cc
kept_home parts prototype i (Some (Bank b)) e = (b, refl)

from_register : (b : Bool) (o : Option ℕ) (i : ℕ) → (if b then None else o) ≡ Some i → o ≡ Some i
from_register true o i h = cc
from_register false o i h = h

kept_by : (parts : Parts) (prototype : Bool) (low : ℕ) (hs : List (Option Home)) (ps : List ℕ) (b : Bool) (r : Option ℕ) → (if b then None else slice_get ps (length ps - 1)) ≡ r → is_kept (arrival parts prototype low hs r) ≡ true → KeptLast low hs ps r
kept_by parts prototype low hs ps b None e h = absurd cc
kept_by parts prototype low hs ps b (Some i) e h =
    let found : (c : ℕ) × (home_at low hs i ≡ Some (Bank c)) = kept_home parts prototype i (home_at low hs i) h in
    record { last = i; byte = found.0; is_last = from_register b (slice_get ps (length ps - 1)) i e; home = found.1; named = refl }

pub some_length : (ps : List ℕ) (k i : ℕ) → slice_get ps k ≡ Some i → k < length ps
some_length [] k i h = absurd cc
some_length (j ∷ ps) zero i h = omega arith
some_length (j ∷ ps) (suc k) i h = omega (arith, some_length ps k i h)

-- a home in regbank is there from the first
bank_first : (parts : Parts) (prototype : Bool) (i from to bank byte : ℕ) (h : Option Home) → h ≡ Some (Bank byte) → FirstHome parts i bank h → ParameterHome parts prototype i from to bank h
bank_first parts prototype i from to bank byte None e first = absurd first
bank_first parts prototype i from to bank byte (Some (Bank b)) e first = first
bank_first parts prototype i from to bank byte (Some (Soft d)) e first = absurd (go d byte e)
  where
    go : (d b : ℕ) → ◌≡◌ {A = Option Home} (Some (Soft d)) (Some (Bank b)) → ⊥
    go d b e = cc

-- ---- all parameters, of which the last may be kept

module _ (parts : Parts) (prototype : Bool) (low base bank passed : ℕ) (ps : List ℕ) (r : Option ℕ) (p : Places) (above : (j : ℕ) → is_among ps j ≡ true → low ≤ j) (d : AreDistinct ps) (sum : passed ≡ all_slots parts prototype ps) where
  abbrev first_of : Bool → Arrivals
  first_of kept = first_arrivals p (bytes_without kept passed (last_bytes parts prototype r))

  abbrev come_by : Bool → Arrivals
  come_by kept = arrived parts prototype low base (without_last kept ps) (first_of kept)

  come_to : (kept : Bool) → (kept ≡ true → KeptLast low p.homes ps r) → (i : ℕ) (home : Option Home) → is_among ps i ≡ true → slice_get p.homes (i - low) ≡ Some home → FirstHome parts i bank home
      → Arrives parts prototype i base (base + bytes_without kept passed (last_bytes parts prototype r)) bank (come_by kept).homes (i - low)
  come_to false last i home h is first = all_arrive parts prototype low base bank ps (first_of false) i home above d h is first (omega (arith, sum))
  come_to true last i home h is first = go (among_last ps k it.last i it.is_last whole h)
    where
      it : KeptLast low p.homes ps r
      it = last refl

      k : ℕ
      k = length ps - 1

      whole : k + 1 ≡ length ps
      whole = omega (arith, some_length ps k it.last it.is_last)

      slot : ℕ
      slot = slot_bytes (types_of parts.types) prototype (object_in parts it.last)

      bytes : last_bytes parts prototype r ≡ slot
      bytes = ap (last_bytes parts prototype) it.named

      few : AreDistinct (take k ps)
      few = distinct_take k ps d

      inside : (j : ℕ) → is_among (take k ps) j ≡ true → low ≤ j
      inside j e = above j (among_take k ps j e)

      far : (j : ℕ) → is_among (take k ps) j ≡ true → j - low ≡ it.last - low → ⊥
      far j e same =
          let one : j ≡ it.last = omega (arith, same, inside j e, above it.last (at_among ps k it.last it.is_last)) in
          among_clash (take k ps) it.last (ap (is_among (take k ps)) (sym one) ∙ e) (last_apart ps k it.last d it.is_last)

      go : (is_among (take k ps) i ≡ true) ⊎ (it.last ≡ i) → Arrives parts prototype i base (base + bytes_without true passed (last_bytes parts prototype r)) bank (come_by true).homes (i - low)
      go (inl e) = all_arrive parts prototype low base bank (take k ps) (first_of true) i home inside few e is first (omega (arith, sum, bytes, sum_last parts prototype ps k it.last it.is_last whole))
      go (inr e) =
          let stays : slice_get (come_by true).homes (it.last - low) ≡ slice_get p.homes (it.last - low) = arrived_other parts prototype low base (take k ps) (first_of true) (it.last - low) far in
          let here : slice_get (come_by true).homes (i - low) ≡ Some home = subst (λ (n : ℕ). slice_get (come_by true).homes (n - low) ≡ slice_get p.homes (n - low)) e stays ∙ is in
          let same : home ≡ Some (Bank it.byte) = sym (home_there low p.homes i home (above i h) is) ∙ (ap (home_at low p.homes) (sym e) ∙ it.home) in
          record { home = home; is = here; by = bank_first parts prototype i base (base + bytes_without true passed (last_bytes parts prototype r)) bank it.byte home same first }

not_last : (kept : Bool) (ps : List ℕ) (j : ℕ) → is_among (without_last kept ps) j ≡ true → is_among ps j ≡ true
not_last true ps j h = among_take (length ps - 1) ps j h
not_last false ps j h = h

-- ---- frames

module _ (parts : Parts) (modes : Modes) (f : FuncTy) (z : Framed) (framed : frame_of parts modes f ≡ Ok z) (d : AreDistinct f.params) where
  abbrev p : Places
  p = placed_in parts modes f

  abbrev low : ℕ
  low = lowest (locals_of f) f.params

  abbrev prototype : Bool
  prototype = has_prototype f.ty

  abbrev passed : ℕ
  passed = passed_bytes parts f

  abbrev marks : List Mark
  marks = all_marks (locals_of f) f.params

  abbrev r : Option ℕ
  r = register_param f

  abbrev kept : Bool
  kept = is_kept (arrival parts prototype low p.homes r)

  abbrev base : ℕ
  base = p.soft + saved_bytes p.bank

  abbrev start : Places
  start = none_placed (is_variadic f.ty) passed

  given : (nat_lt 1024 p.total ≡ false) × (settled parts (check_of parts modes f) f low passed p ≡ z)
  given = answered (nat_lt 1024 p.total) (large sizes.Frame p.total) (settled parts (check_of parts modes f) f low passed p) z framed

  few : p.total ≤ 1024
  few = ltb-false 1024 p.total given.0

  placed : ArePlaced parts low marks start p
  placed = all_placed parts modes low marks start few

  sum : passed ≡ all_slots parts prototype f.params
  sum = slots_sum parts prototype f.params 0 (all_room parts modes low marks start few).few ∙ omega arith

  abbrev begun : Bool → Arrivals
  begun k = first_arrivals p (bytes_without k passed (last_bytes parts prototype r))

  abbrev come_of : Bool → Arrivals
  come_of k = arrived parts prototype low base (without_last k f.params) (begun k)

  abbrev come : List (Option Home)
  come = (come_of kept).homes

  -- the home that an object with a mark gets first
  first : (i : ℕ) (m : Mark) → low ≤ i → slice_get marks (i - low) ≡ Some m → HasHome parts i start.soft p.soft p.bank m p.homes (i - low)
  first i m le e =
      let same : low + (i - low) ≡ i = omega (arith, le) in
      subst (λ (hs : List (Option Home)). HasHome parts i start.soft p.soft p.bank m hs (i - low)) (sym placed.homes)
      (subst (λ (n : ℕ). HasHome parts n start.soft p.soft p.bank m placed.new (i - low)) same (home_by parts start.soft p.soft p.bank low marks placed.new (i - low) m placed.by e))

  local : (i : ℕ) → is_among (locals_of f) i ≡ true → is_among f.params i ≡ false → LocalHome parts i (first_byte (is_variadic f.ty)) p.soft p.bank (home_at low come i)
  local i h other =
      let le : low ≤ i = local_low (locals_of f) f.params i h in
      let at = first i Local le (local_mark (locals_of f) f.params i h other) in
      let far : (j : ℕ) → is_among (without_last kept f.params) j ≡ true → j - low ≡ i - low → ⊥ = λ j e same.
      let one : j ≡ i = omega (arith, same, le, param_low (locals_of f) f.params j (not_last kept f.params j e)) in
      among_clash f.params i (ap (is_among f.params) (sym one) ∙ not_last kept f.params j e) other in
      let stays : slice_get come (i - low) ≡ slice_get p.homes (i - low) = arrived_other parts prototype low base (without_last kept f.params) (begun kept) (i - low) far in
      subst (LocalHome parts i (first_byte (is_variadic f.ty)) p.soft p.bank) (sym (home_there low come i at.home le (stays ∙ at.is))) at.by

  param : (i : ℕ) → is_among f.params i ≡ true → ParameterHome parts prototype i base (base + bytes_without kept passed (last_bytes parts prototype r)) p.bank (home_at low come i)
  param i h =
      let le : low ≤ i = param_low (locals_of f) f.params i h in
      let at = first i Parameter le (param_mark (locals_of f) f.params i h) in
      let to = come_to parts prototype low base p.bank passed f.params r p (λ j e. param_low (locals_of f) f.params j e) d sum kept (λ e. kept_by parts prototype low p.homes f.params (takes_stack f.ty) r refl e) i at.home h at.is at.by in
      subst (ParameterHome parts prototype i base (base + bytes_without kept passed (last_bytes parts prototype r)) p.bank) (sym (home_there low come i to.home le to.is)) to.by

  -- ---- in their order

  soft_bank : (d b : ℕ) → ◌≡◌ {A = Option Home} (Some (Bank b)) (Some (Soft d)) → ⊥
  soft_bank d b e = cc

  from_low : (j : ℕ) → is_among f.params j ≡ true → low ≤ j
  from_low j e = param_low (locals_of f) f.params j e

  order : (k : Bool) → k ≡ false → (i e : ℕ) → is_among f.params i ≡ true → home_at low (come_of k).homes i ≡ Some (Soft e) → e ≡ base + behind_slots parts prototype f.params i
  order true off i e h there = absurd (not_false off)
    where
      not_false : true ≡ false → ⊥
      not_false e = cc
  order false off i e h there = by at.home at.is at.by
    where
      at : HasHome parts i start.soft p.soft p.bank Parameter p.homes (i - low)
      at = first i Parameter (from_low i h) (param_mark (locals_of f) f.params i h)

      by : (home : Option Home) → slice_get p.homes (i - low) ≡ Some home → FirstHome parts i p.bank home → e ≡ base + behind_slots parts prototype f.params i
      by None is none = absurd none
      by (Some (Bank b)) is bank = absurd (soft_bank e b (sym (home_there low (come_of false).homes i (Some (Bank b)) (from_low i h) (bank_stays parts prototype low base f.params (begun false) (i - low) b is)) ∙ there))
      by (Some (Soft o)) is soft =
          let here = all_in_order parts prototype low base f.params (begun false) i o from_low d h is sum in
          let same : Some (Soft (base + behind_slots parts prototype f.params i)) ≡ Some (Soft e) = sym (home_there low (come_of false).homes i (Some (Soft (base + behind_slots parts prototype f.params i))) (from_low i h) here) ∙ there in
          cc

  moves : (k : Bool) → k ≡ false → (i b : ℕ) → is_among f.params i ≡ true → home_at low (come_of k).homes i ≡ Some (Bank b) → 1 ≤ length (come_of k).moved
  moves true off i b h there = absurd (not_false off)
    where
      not_false : true ≡ false → ⊥
      not_false e = cc
  moves false off i b h there = by at.home at.is at.by
    where
      at : HasHome parts i start.soft p.soft p.bank Parameter p.homes (i - low)
      at = first i Parameter (from_low i h) (param_mark (locals_of f) f.params i h)

      by : (home : Option Home) → slice_get p.homes (i - low) ≡ Some home → FirstHome parts i p.bank home → 1 ≤ length (come_of false).moved
      by None is none = absurd none
      by (Some (Bank c)) is bank = bank_moves parts prototype low base f.params (begun false) i c h is
      by (Some (Soft o)) is soft =
          let here = all_in_order parts prototype low base f.params (begun false) i o from_low d h is sum in
          absurd (soft_bank (base + behind_slots parts prototype f.params i) b (sym there ∙ home_there low (come_of false).homes i (Some (Soft (base + behind_slots parts prototype f.params i))) (from_low i h) here))

  whole : (k : Bool) → k ≡ false → bytes_without k passed (last_bytes parts prototype r) ≡ all_slots parts prototype f.params
  whole true off = absurd (not_false off)
    where
      not_false : true ≡ false → ⊥
      not_false e = cc
  whole false off = sum

  pushed_home : (i : ℕ) (home : Option Home) → is_kept (arrival_at parts prototype i home) ≡ false → arrival_at parts prototype i home ≡ Pushed (slot_bytes (types_of parts.types) prototype (object_in parts i))
  pushed_home i None off = refl
  pushed_home i (Some (Soft e)) off = refl
  pushed_home i (Some (Bank b)) off = absurd (not_false off)
    where
      not_false : true ≡ false → ⊥
      not_false e = cc

  some_last : is_kept (arrival parts prototype low p.homes r) ≡ false → (i : ℕ) → r ≡ Some i → arrival parts prototype low p.homes r ≡ Pushed (slot_bytes (types_of parts.types) prototype (object_in parts i))
  some_last off i e =
      let last : arrival parts prototype low p.homes r ≡ arrival_at parts prototype i (home_at low p.homes i) = ap (arrival parts prototype low p.homes) e in
      last ∙ pushed_home i (home_at low p.homes i) (sym (ap is_kept last) ∙ off)

  all : HaveFrame parts f (settled parts (check_of parts modes f) f low passed p)
  all = record { locals = local; params = param; six = placed.six (omega arith); low = refl; order = λ off i e h there. order kept off i e h there; moves = λ off i b h there. moves kept off i b h there; stacked = λ off. whole kept off; none_last = λ e. ap (arrival parts prototype low p.homes) e; some_last = some_last }

  pub frames_have_homes : HaveFrame parts f z
  frames_have_homes = subst (HaveFrame parts f) given.1 all
