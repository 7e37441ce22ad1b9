-- A set that rises has less room left, below any power of two.
use Rattle.std.proofs.Common.{◌≡◌, ℕ, ◌+◌, ◌-◌, ◌^◌, ◌<◌, ◌≤◌, ◌||◌, Bool, true, false, List, length, get_or, set, Option, None, Some, slice_get, bit_or, refl, sym, ◌∙◌, inl, inr, arith}
use Rattle.std.specs.List.{sum_by}
use Rattle.std.proofs.lemmas.Bool.{cases_lt}
use Rattle.std.proofs.lemmas.Nat.{le_or_l}
use Rattle.std.proofs.lemmas.List.Sums.{sum_by-set}
use Rattle.c65_code.specs.declared.line.Line.{Line}
use Rattle.c65_code.specs.declared.parts.RegSet.{RegSet}
use Rattle.c65_code.specs.Parts.{no_parts, union_of}
use Rattle.c65_code.specs.Segments.{target_of}
use Rattle.c65_live.specs.Live.{left_parts}
use Rattle.c65_live.specs.Sweeps.{lack}
use Rattle.c65_live_law.proofs.Step.{before_to, onward_from, joined_of, joined_at}

-- how far a set is from having all parts, whose bytes of the zero page are below a bound
abbrev pub lacks_in : ℕ → RegSet → ℕ
lacks_in k s = lack s.a + (lack s.x + (lack s.y + (lack s.n + (lack s.v + (lack s.z + (lack s.c + (2 ^ k - s.zero_page)))))))

abbrev pub room_in : ℕ → List RegSet → ℕ
room_in k live = sum_by (lacks_in k) live

lack_or : (a b : Bool) → lack (a || b) ≤ lack a
lack_or true b = omega arith
lack_or false true = omega arith
lack_or false false = omega arith

same_or : (a b : Bool) → lack a ≤ lack (a || b) → (a || b) ≡ a
same_or true b h = refl
same_or false false h = refl
same_or false true h = absurd (omega arith)

make : Bool → Bool → Bool → Bool → Bool → Bool → Bool → ℕ → RegSet
make a x y n v z c zero_page = record { a = a; x = x; y = y; n = n; v = v; z = z; c = c; zero_page = zero_page }

made : (s : RegSet) → s ≡ make s.a s.x s.y s.n s.v s.z s.c s.zero_page
unfolding make
made s = refl

module _ (k : ℕ) (s t : RegSet) where
  falls_by : bit_or s.zero_page t.zero_page < 2 ^ k → (union_of s t ≡ s → ⊥) → lacks_in k s ≤ lacks_in k (union_of s t) → ⊥
  falls_by small rises h =
      let la = lack_or s.a t.a in
      let lx = lack_or s.x t.x in
      let ly = lack_or s.y t.y in
      let ln = lack_or s.n t.n in
      let lv = lack_or s.v t.v in
      let lz = lack_or s.z t.z in
      let lc = lack_or s.c t.c in
      let more = le_or_l s.zero_page t.zero_page in
      let a : (s.a || t.a) ≡ s.a = same_or s.a t.a (omega arith) in
      let x : (s.x || t.x) ≡ s.x = same_or s.x t.x (omega arith) in
      let y : (s.y || t.y) ≡ s.y = same_or s.y t.y (omega arith) in
      let n : (s.n || t.n) ≡ s.n = same_or s.n t.n (omega arith) in
      let v : (s.v || t.v) ≡ s.v = same_or s.v t.v (omega arith) in
      let z : (s.z || t.z) ≡ s.z = same_or s.z t.z (omega arith) in
      let c : (s.c || t.c) ≡ s.c = same_or s.c t.c (omega arith) in
      let zero_page : bit_or s.zero_page t.zero_page ≡ s.zero_page = omega arith in
      let same : make (s.a || t.a) (s.x || t.x) (s.y || t.y) (s.n || t.n) (s.v || t.v) (s.z || t.z) (s.c || t.c) (bit_or s.zero_page t.zero_page) ≡ make s.a s.x s.y s.n s.v s.z s.c s.zero_page = cc in
      rises (made (union_of s t) ∙ (same ∙ sym (made s)))

  falls : bit_or s.zero_page t.zero_page < 2 ^ k → (union_of s t ≡ s → ⊥) → lacks_in k (union_of s t) < lacks_in k s
  falls small rises = elim (cases_lt (lacks_in k (union_of s t)) (lacks_in k s)) as (λ _. lacks_in k (union_of s t) < lacks_in k s) [
    | inl lt ↦ lt
    | inr ge ↦ absurd (falls_by small rises ge)
  ]

rises_of : (k : ℕ) (lines : List Line) (out : RegSet) (live : List RegSet) (q : ℕ) (line : Option Line) → (joined_of lines out live q line).zero_page < 2 ^ k
    → (joined_of lines out live q line ≡ get_or live q no_parts → ⊥) → lacks_in k (joined_of lines out live q line) < lacks_in k (get_or live q no_parts)
rises_of k lines out live q None small h = absurd (h refl)
rises_of k lines out live q (Some l) small h = falls k (get_or live q no_parts) (union_of (left_parts out l) (union_of (onward_from lines out live q l) (before_to lines out live (target_of l)))) small h

-- a set that a step changes leaves less room
pub joined_rises : (k : ℕ) (lines : List Line) (out : RegSet) (live : List RegSet) (q : ℕ) → q < length live → (joined_at lines out live q).zero_page < 2 ^ k → (joined_at lines out live q ≡ get_or live q no_parts → ⊥)
    → room_in k (set live q (joined_at lines out live q)) < room_in k live
joined_rises k lines out live q within small h =
    let less = rises_of k lines out live q (slice_get lines q) small h in
    let e = sum_by-set (lacks_in k) live q (joined_at lines out live q) no_parts within in
    omega (arith, less, e)
