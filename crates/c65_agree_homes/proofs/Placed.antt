-- The homes that objects get, one after another.
use Rattle.std.proofs.Common.{◌≡◌, ℕ, zero, suc, ◌+◌, ◌<◌, ◌≤◌, Bool, true, false, Option, None, Some, List, [], ◌∷◌, ◌++◌, refl, sym, ◌∙◌, ap, subst, slice_get, arith}
use Rattle.std.specs.Prelude.{if◌then◌else◌, ◌&&◌, nat_lt, nat_le}
use Rattle.std.proofs.lemmas.Bool.{and_parts, ltb-true, leb-true}
use Rattle.std.proofs.lemmas.List.{append_assoc}
use Rattle.c65_ctype.specs.Trees.{type_in}
use Rattle.c65_ctype.specs.Views.{types_of}
use Rattle.c65_csem.specs.declared.items.Parts.{Parts}
use Rattle.c65_csem.specs.Places.{is_register, is_fixed_object}
use Rattle.c65_csem.specs.Trees.{ObjectTy}
use Rattle.c65_genframe.specs.declared.modes.Modes.{Modes}
use Rattle.c65_genframe.specs.declared.home.Home.{Home}
use Rattle.c65_genframe.specs.declared.home.Home.TheVariants.{Bank, Soft}
use Rattle.c65_genframe.specs.declared.mark.Mark.{Mark}
use Rattle.c65_genframe.specs.declared.mark.Mark.TheVariants.{Other, Local, Parameter}
use Rattle.c65_genframe.specs.Places.{Places, more, fits, with_none, with_banked, with_soft, with_later, with_local, with_marked, placed_all}
use Rattle.c65_genframe.specs.Sizes.{object_in, object_bytes, bank_size, bank_bytes}
use Rattle.c65_gen_law_lines.proofs.FrameLaws.{all_room}

-- a home in regbank lies among the bytes that are taken there
abbrev pub IsBanked : Parts → ℕ → ℕ → ℕ → Type 0
IsBanked parts i b bank = (1 ≤ bank_bytes true (object_in parts i)) × (b + bank_bytes true (object_in parts i) ≤ bank)

-- the home of an object of a block, where automatic objects lie between these offsets
abbrev pub LocalHome : Parts → ℕ → ℕ → ℕ → ℕ → Option Home → Type 0
LocalHome parts i from to bank None = is_fixed_object (object_in parts i) ≡ true
LocalHome parts i from to bank (Some (Bank b)) = IsBanked parts i b bank
LocalHome parts i from to bank (Some (Soft d)) = (from ≤ d) × (d + object_bytes (types_of parts.types) (object_in parts i) ≤ to)

-- and that of a parameter, whose place on the software stack comes later
abbrev pub FirstHome : Parts → ℕ → ℕ → Option Home → Type 0
FirstHome parts i bank None = ⊥
FirstHome parts i bank (Some (Bank b)) = IsBanked parts i b bank
FirstHome parts i bank (Some (Soft d)) = Unit {0}

abbrev pub HomeBy : Parts → ℕ → ℕ → ℕ → ℕ → Mark → Option Home → Type 0
HomeBy parts i from to bank Other h = Unit {0}
HomeBy parts i from to bank Local h = LocalHome parts i from to bank h
HomeBy parts i from to bank Parameter h = FirstHome parts i bank h

-- the first of these homes is that of the object with number i
abbrev pub AllBy : Parts → ℕ → ℕ → ℕ → ℕ → List Mark → List (Option Home) → Type 0
AllBy parts from to bank i [] [] = Unit {0}
AllBy parts from to bank i (m ∷ ms) (h ∷ hs) = HomeBy parts i from to bank m h × AllBy parts from to bank (i + 1) ms hs
AllBy parts from to bank i _ _ = ⊥

local_wider : (parts : Parts) (i from to bank from2 to2 bank2 : ℕ) (h : Option Home) → from2 ≤ from → to ≤ to2 → bank ≤ bank2 → LocalHome parts i from to bank h → LocalHome parts i from2 to2 bank2 h
local_wider parts i from to bank from2 to2 bank2 None a b c h = h
local_wider parts i from to bank from2 to2 bank2 (Some (Bank n)) a b c h = (h.0, omega (arith, h.1, c))
local_wider parts i from to bank from2 to2 bank2 (Some (Soft d)) a b c h = (omega (arith, a, h.0), omega (arith, b, h.1))

first_wider : (parts : Parts) (i bank bank2 : ℕ) (h : Option Home) → bank ≤ bank2 → FirstHome parts i bank h → FirstHome parts i bank2 h
first_wider parts i bank bank2 None c h = h
first_wider parts i bank bank2 (Some (Bank n)) c h = (h.0, omega (arith, h.1, c))
first_wider parts i bank bank2 (Some (Soft d)) c h = tt

by_wider : (parts : Parts) (i from to bank from2 to2 bank2 : ℕ) (m : Mark) (h : Option Home) → from2 ≤ from → to ≤ to2 → bank ≤ bank2 → HomeBy parts i from to bank m h → HomeBy parts i from2 to2 bank2 m h
by_wider parts i from to bank from2 to2 bank2 Other h a b c k = tt
by_wider parts i from to bank from2 to2 bank2 Local h a b c k = local_wider parts i from to bank from2 to2 bank2 h a b c k
by_wider parts i from to bank from2 to2 bank2 Parameter h a b c k = first_wider parts i bank bank2 h c k

all_wider : (parts : Parts) (from to bank from2 to2 bank2 i : ℕ) (ms : List Mark) (hs : List (Option Home)) → from2 ≤ from → to ≤ to2 → bank ≤ bank2 → AllBy parts from to bank i ms hs → AllBy parts from2 to2 bank2 i ms hs
all_wider parts from to bank from2 to2 bank2 i [] [] a b c k = tt
all_wider parts from to bank from2 to2 bank2 i [] (h ∷ hs) a b c k = absurd k
all_wider parts from to bank from2 to2 bank2 i (m ∷ ms) [] a b c k = absurd k
all_wider parts from to bank from2 to2 bank2 i (m ∷ ms) (h ∷ hs) a b c k = (by_wider parts i from to bank from2 to2 bank2 m h a b c k.0, all_wider parts from to bank from2 to2 bank2 (i + 1) ms hs a b c k.1)

-- ---- one object

record OneBy (parts : Parts) (i : ℕ) (m : Mark) (p q : Places) : Type 0 where
  home : Option Home
  homes : q.homes ≡ p.homes ++ home ∷ []
  soft : p.soft ≤ q.soft
  bank : p.bank ≤ q.bank
  six : p.bank ≤ 6 → q.bank ≤ 6
  by : HomeBy parts i p.soft q.soft q.bank m home

honoured_bytes : (honoured r : Bool) (n : ℕ) → 0 < (if honoured && r then n else 0) → (if honoured && r then n else 0) ≡ (if true && r then n else 0)
honoured_bytes true r n h = refl
honoured_bytes false r n h = absurd (omega (arith, h))

given_bytes : (honoured : Bool) (o : Option ObjectTy) → 0 < bank_bytes honoured o → bank_bytes honoured o ≡ bank_bytes true o
given_bytes honoured None h = refl
given_bytes honoured (Some o) h = honoured_bytes honoured (is_register o.class) (bank_size (type_in o.ty)) h

module _ (parts : Parts) (modes : Modes) where
  abbrev wanted : ℕ → ℕ
  wanted i = bank_bytes modes.honoured (object_in parts i)

  -- where it fits into regbank
  banked : (i : ℕ) (p : Places) → fits (wanted i) p ≡ true → IsBanked parts i p.bank (p.bank + wanted i) × (p.bank + wanted i ≤ 6)
  banked i p fit =
      let both = and_parts (nat_lt 0 (wanted i)) (nat_le (p.bank + wanted i) 6) fit in
      let some : 0 < wanted i = ltb-true 0 (wanted i) both.0 in
      let same : wanted i ≡ bank_bytes true (object_in parts i) = given_bytes modes.honoured (object_in parts i) some in
      ((omega (arith, some, same), omega (arith, same)), leb-true (p.bank + wanted i) 6 both.1)

  local_by : (over fit : Bool) (i total : ℕ) (p : Places) → nat_lt 1024 total ≡ over → fits (wanted i) p ≡ fit
      → (if over then with_none total p else (if fit then with_banked (wanted i) total p else with_soft (object_bytes (types_of parts.types) (object_in parts i)) total p)).total ≤ 1024
      → OneBy parts i Local p (if over then with_none total p else (if fit then with_banked (wanted i) total p else with_soft (object_bytes (types_of parts.types) (object_in parts i)) total p))
  local_by true fit i total p over f few = absurd (omega (arith, few, ltb-true 1024 total over))
  local_by false true i total p over f few =
      let b = banked i p f in
      record { home = Some (Bank p.bank); homes = refl; soft = omega arith; bank = omega arith; six = λ le. b.1; by = b.0 }
  local_by false false i total p over f few = record { home = Some (Soft p.soft); homes = refl; soft = omega arith; bank = omega arith; six = λ le. le; by = (omega arith, omega arith) }

  object_by : (fixed : Bool) (i : ℕ) (p : Places) → is_fixed_object (object_in parts i) ≡ fixed
      → (if fixed then with_none p.total p else with_local (wanted i) (object_bytes (types_of parts.types) (object_in parts i)) p).total ≤ 1024
      → OneBy parts i Local p (if fixed then with_none p.total p else with_local (wanted i) (object_bytes (types_of parts.types) (object_in parts i)) p)
  object_by true i p is few = record { home = None; homes = refl; soft = omega arith; bank = omega arith; six = λ le. le; by = is }
  object_by false i p is few =
      let total : ℕ = more p.total (object_bytes (types_of parts.types) (object_in parts i)) in
      local_by (nat_lt 1024 total) (fits (wanted i) p) i total p refl refl few

  parameter_by : (fit : Bool) (i : ℕ) (p : Places) → fits (wanted i) p ≡ fit → OneBy parts i Parameter p (if fit then with_banked (wanted i) p.total p else with_later p)
  parameter_by true i p f =
      let b = banked i p f in
      record { home = Some (Bank p.bank); homes = refl; soft = omega arith; bank = omega arith; six = λ le. b.1; by = b.0 }
  parameter_by false i p f = record { home = Some (Soft 0); homes = refl; soft = omega arith; bank = omega arith; six = λ le. le; by = tt }

  one_by : (i : ℕ) (m : Mark) (p : Places) → (with_marked parts modes i m p).total ≤ 1024 → OneBy parts i m p (with_marked parts modes i m p)
  one_by i Other p few = record { home = None; homes = refl; soft = omega arith; bank = omega arith; six = λ le. le; by = tt }
  one_by i Local p few = object_by (is_fixed_object (object_in parts i)) i p refl few
  one_by i Parameter p few = parameter_by (fits (wanted i) p) i p refl

-- ---- all

pub record ArePlaced (parts : Parts) (i : ℕ) (ms : List Mark) (p q : Places) : Type 0 where
  pub new : List (Option Home)
  pub homes : q.homes ≡ p.homes ++ new
  pub soft : p.soft ≤ q.soft
  pub bank : p.bank ≤ q.bank
  pub six : p.bank ≤ 6 → q.bank ≤ 6
  pub by : AllBy parts p.soft q.soft q.bank i ms new

nothing_more : (hs : List (Option Home)) → hs ++ [] ≡ hs
nothing_more [] = refl
nothing_more (h ∷ hs) = ap (λ (l : List (Option Home)). h ∷ l) (nothing_more hs)

pub all_placed : (parts : Parts) (modes : Modes) (i : ℕ) (ms : List Mark) (p : Places) → (placed_all parts modes i ms p).total ≤ 1024 → ArePlaced parts i ms p (placed_all parts modes i ms p)
all_placed parts modes i [] p few = record { new = []; homes = sym (nothing_more p.homes); soft = omega arith; bank = omega arith; six = λ le. le; by = tt }
all_placed parts modes i (m ∷ ms) p few =
    let q : Places = with_marked parts modes i m p in
    let all : Places = placed_all parts modes (i + 1) ms q in
    let rest : ArePlaced parts (i + 1) ms q all = all_placed parts modes (i + 1) ms q few in
    let one : OneBy parts i m p q = one_by parts modes i m p (all_room parts modes (i + 1) ms q few).few in
    record {
      new = one.home ∷ rest.new;
      homes = rest.homes ∙ (ap (λ (l : List (Option Home)). l ++ rest.new) one.homes ∙ append_assoc p.homes (one.home ∷ []) rest.new);
      soft = omega (arith, one.soft, rest.soft);
      bank = omega (arith, one.bank, rest.bank);
      six = λ le. rest.six (one.six le);
      by = (by_wider parts i p.soft q.soft q.bank p.soft all.soft all.bank m one.home (omega arith) rest.soft rest.bank one.by, all_wider parts q.soft all.soft all.bank p.soft all.soft all.bank (i + 1) ms rest.new one.soft (omega arith) (omega arith) rest.by);
    }

-- that of one of them
pub record HasHome (parts : Parts) (i from to bank : ℕ) (m : Mark) (hs : List (Option Home)) (k : ℕ) : Type 0 where
  pub home : Option Home
  pub is : slice_get hs k ≡ Some home
  pub by : HomeBy parts i from to bank m home

pub home_by : (parts : Parts) (from to bank i : ℕ) (ms : List Mark) (hs : List (Option Home)) (k : ℕ) (m : Mark) → AllBy parts from to bank i ms hs → slice_get ms k ≡ Some m → HasHome parts (i + k) from to bank m hs k
home_by parts from to bank i [] hs k m all e = absurd cc
home_by parts from to bank i (n ∷ ms) [] k m all e = absurd all
home_by parts from to bank i (n ∷ ms) (h ∷ hs) zero m all e =
    let same : n ≡ m = cc in
    let here : i ≡ i + 0 = omega arith in
    record { home = h; is = refl; by = subst (λ (j : ℕ). HomeBy parts j from to bank m h) here (subst (λ (x : Mark). HomeBy parts i from to bank x h) same all.0) }
home_by parts from to bank i (n ∷ ms) (h ∷ hs) (suc k) m all e =
    let there : i + 1 + k ≡ i + suc k = omega arith in
    subst (λ (j : ℕ). HasHome parts j from to bank m (h ∷ hs) (suc k)) there (behind (home_by parts from to bank (i + 1) ms hs k m all.1 e))
  where
    behind : HasHome parts (i + 1 + k) from to bank m hs k → HasHome parts (i + 1 + k) from to bank m (h ∷ hs) (suc k)
    behind r = record { home = r.home; is = r.is; by = r.by }
