-- A set that rises has less room left.
use Rattle.std.proofs.Common.{◌≡◌, ℕ, ◌+◌, ◌^◌, ◌<◌, ◌≤◌, ◌||◌, not, Bool, true, false, if◌then◌else◌, List, length, get_or, set, Option, None, Some, slice_get, bit_or, refl, sym, ◌∙◌, ap, subst, inl, inr, arith}
use Rattle.std.proofs.lemmas.Bool.{cases_lt}
use Rattle.std.proofs.lemmas.Nat.{le_or_l}
use Rattle.std.proofs.lemmas.List.Sums.{sum_by-set}
use Rattle.c65_code.specs.declared.parts.RegSet.{RegSet}
use Rattle.c65_code.specs.Parts.{no_parts, union_of}
use Rattle.c65_code.proofs.PartLaws.{are_same, are_same-equal, are_same-itself}
use Rattle.c65_live.specs.declared.flow.Flow.{Flow}
use Rattle.c65_live.specs.Flows.{before_at, before_to, joined_of, joined_at}
use Rattle.c65_live.specs.Sweeps.{lack, lacks, room}

lack_or : (a b : Bool) → lack (a || b) ≤ lack a
lack_or true b = omega arith
lack_or false true = omega arith
lack_or false false = omega arith

same_or : (a b : Bool) → lack a ≤ lack (a || b) → (a || b) ≡ a
same_or true b h = refl
same_or false false h = refl
same_or false true h = absurd (omega arith)

make : Bool → Bool → Bool → Bool → Bool → Bool → Bool → ℕ → RegSet
make a x y n v z c zero_page = record { a = a; x = x; y = y; n = n; v = v; z = z; c = c; zero_page = zero_page }

made : (s : RegSet) → s ≡ make s.a s.x s.y s.n s.v s.z s.c s.zero_page
unfolding make
made s = refl

module _ (s t : RegSet) where
  pub falls_by : bit_or s.zero_page t.zero_page < 2 ^ 32 → (union_of s t ≡ s → ⊥) → lacks s ≤ lacks (union_of s t) → ⊥
  falls_by small rises h =
      let la = lack_or s.a t.a in
      let lx = lack_or s.x t.x in
      let ly = lack_or s.y t.y in
      let ln = lack_or s.n t.n in
      let lv = lack_or s.v t.v in
      let lz = lack_or s.z t.z in
      let lc = lack_or s.c t.c in
      let more = le_or_l s.zero_page t.zero_page in
      let a : (s.a || t.a) ≡ s.a = same_or s.a t.a (omega arith) in
      let x : (s.x || t.x) ≡ s.x = same_or s.x t.x (omega arith) in
      let y : (s.y || t.y) ≡ s.y = same_or s.y t.y (omega arith) in
      let n : (s.n || t.n) ≡ s.n = same_or s.n t.n (omega arith) in
      let v : (s.v || t.v) ≡ s.v = same_or s.v t.v (omega arith) in
      let z : (s.z || t.z) ≡ s.z = same_or s.z t.z (omega arith) in
      let c : (s.c || t.c) ≡ s.c = same_or s.c t.c (omega arith) in
      let zero_page : bit_or s.zero_page t.zero_page ≡ s.zero_page = omega arith in
      let same : make (s.a || t.a) (s.x || t.x) (s.y || t.y) (s.n || t.n) (s.v || t.v) (s.z || t.z) (s.c || t.c) (bit_or s.zero_page t.zero_page) ≡ make s.a s.x s.y s.n s.v s.z s.c s.zero_page = cc in
      rises (made (union_of s t) ∙ (same ∙ sym (made s)))

  pub falls : bit_or s.zero_page t.zero_page < 2 ^ 32 → (union_of s t ≡ s → ⊥) → lacks (union_of s t) < lacks s
  falls small rises = elim (cases_lt (lacks (union_of s t)) (lacks s)) as (λ _. lacks (union_of s t) < lacks s) [
    | inl lt ↦ lt
    | inr ge ↦ absurd (falls_by small rises ge)
  ]

pub room_set : (live : List RegSet) (q : ℕ) (s : RegSet) → q < length live → lacks s < lacks (get_or live q no_parts) → room (set live q s) < room live
room_set live q s within h = let e = sum_by-set lacks live q s no_parts within in omega arith

-- what the comparison of two sets says
pub equal : (r : Bool) (s t : RegSet) → r ≡ are_same s t → r ≡ true → s ≡ t
equal r s t e h = are_same-equal s t (sym e ∙ h)

pub alike : (r : Bool) (s t : RegSet) → r ≡ not (are_same s t) → r ≡ false → s ≡ t
alike r s t e h = are_same-equal s t (not_false (are_same s t) (sym e ∙ h))
  where
    not_false : (b : Bool) → not b ≡ false → b ≡ true
    not_false true g = refl
    not_false false g = absurd (let f : true ≡ false = g in cc)

pub apart : (r : Bool) (s t : RegSet) → r ≡ not (are_same s t) → r ≡ true → s ≡ t → ⊥
apart r s t e h same =
    let one : are_same s t ≡ true = subst (λ u. are_same s u ≡ true) same (are_same-itself s) in
    let f : false ≡ true = sym (ap not one) ∙ (sym e ∙ h) in
    cc

rises_of : (flows : List Flow) (live : List RegSet) (q : ℕ) (next s : RegSet) (flow : Option Flow) → s ≡ joined_of flows live q next flow → s.zero_page < 2 ^ 32 → (s ≡ get_or live q no_parts → ⊥) → lacks s < lacks (get_or live q no_parts)
rises_of flows live q next s None e small h = absurd (h e)
rises_of flows live q next s (Some flow) e small h =
    subst (λ u. lacks u < lacks (get_or live q no_parts)) (sym e)
    (falls (get_or live q no_parts) (union_of flow.left (union_of (if flow.onward then next else no_parts) (before_to flows live flow.to)))
    (subst (λ (u : RegSet). u.zero_page < 2 ^ 32) e small)
    (λ same. h (e ∙ same)))

-- a set that a sweep changes leaves less room
pub joined_rises : (flows : List Flow) (live : List RegSet) (q : ℕ) (s : RegSet) → q < length live → s ≡ joined_at flows live q → s.zero_page < 2 ^ 32 → (s ≡ get_or live q no_parts → ⊥) → room (set live q s) < room live
joined_rises flows live q s within e small h = room_set live q s within (rises_of flows live q (before_at flows live (q + 1)) s (slice_get flows q) e small h)
