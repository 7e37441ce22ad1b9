-- Parts one behind another, by their sizes.
use Rattle.std.proofs.Common.{◌≡◌, ℕ, zero, suc, ◌+◌, ◌-◌, ◌≤◌, ◌<◌, ◌^◌, ◌⊎◌, inl, inr, List, [], ◌∷◌, take, slice_get, Option, Some, None, arith}
use Rattle.std.proofs.lemmas.Bool.{cases_order}
use Rattle.c65_link.specs.Bodies.{plus}
use Rattle.c65_link_law.proofs.Sizes.{plus_grows, plus_most}
use Rattle.c65_link_law.proofs.Placed.{Grows, stays, more, on}

-- the address behind parts of these sizes
abbrev pub sums : ℕ → List ℕ → ℕ
sums at [] = at
sums at (n ∷ ns) = sums (plus at n) ns

pub none_there : {A P : Type 0} (x : A) → ◌≡◌ {A = Option A} None (Some x) → P
none_there x h = absurd cc

pub same_there : {A : Type 0} (x y : A) → Some x ≡ Some y → x ≡ y
same_there x y h = cc

pub sums_grow : (ns : List ℕ) (at : ℕ) → at ≤ 2 ^ 64 - 1 → Grows at (sums at ns)
sums_grow [] at h = stays at h
sums_grow (n ∷ ns) at h =
    let here : Grows at (plus at n) = more at n h in
    on at (plus at n) (sums (plus at n) ns) here (sums_grow ns (plus at n) here.most)

-- the k-th part lies behind the ones before it and within the whole
pub record Room (at : ℕ) (ns : List ℕ) (k n : ℕ) : Type 0 where
  pub from : at ≤ sums at (take k ns)
  pub end : sums at (take (suc k) ns) ≡ sums at (take k ns) + n
  pub to : sums at (take (suc k) ns) ≤ sums at ns

pub room : (ns : List ℕ) (at k n : ℕ) → at ≤ 2 ^ 64 - 1 → sums at ns ≤ 65535 → slice_get ns k ≡ Some n → Room at ns k n
room [] at k n h low here = none_there n here
room (m ∷ ns) at zero n h low here =
    let same : m ≡ n = same_there m n here in
    let g : Grows (plus at m) (sums (plus at m) ns) = sums_grow ns (plus at m) (plus_most at m) in
    record { from = omega arith; end = omega (arith, same, g.least, low); to = g.least }
room (m ∷ ns) at (suc k) n h low here =
    let r : Room (plus at m) ns k n = room ns (plus at m) k n (plus_most at m) low here in
    record { from = omega (arith, plus_grows at m h, r.from); end = r.end; to = r.to }

pub ordered : (ns : List ℕ) (at i j : ℕ) → at ≤ 2 ^ 64 - 1 → i ≤ j → sums at (take i ns) ≤ sums at (take j ns)
ordered ns at zero j h le = (sums_grow (take j ns) at h).least
ordered [] at (suc i) zero h le = omega arith
ordered [] at (suc i) (suc j) h le = omega arith
ordered (n ∷ ns) at (suc i) zero h le = absurd (omega (arith, le))
ordered (n ∷ ns) at (suc i) (suc j) h le = ordered ns (plus at n) i j (plus_most at n) (omega (arith, le))

-- parts that are not empty begin at different addresses
pub begins_once : (ns : List ℕ) (at i j m n : ℕ) → at ≤ 2 ^ 64 - 1 → sums at ns ≤ 65535 → slice_get ns i ≡ Some m → slice_get ns j ≡ Some n → 1 ≤ m → 1 ≤ n → sums at (take i ns) ≡ sums at (take j ns) → i ≡ j
begins_once ns at i j m n h low here there full filled same = by (cases_order i j)
  where
    by : (i ≡ j) ⊎ ((i < j) ⊎ (j < i)) → i ≡ j
    by (inl e) = e
    by (inr (inl l)) =
        let r : Room at ns i m = room ns at i m h low here in
        absurd (omega (arith, r.end, ordered ns at (suc i) j h (omega (arith, l)), same, full))
    by (inr (inr l)) =
        let r : Room at ns j n = room ns at j n h low there in
        absurd (omega (arith, r.end, ordered ns at (suc j) i h (omega (arith, l)), same, filled))
