-- The rounds of a division bit by bit, on whole numbers of any width.
use Rattle.std.proofs.Common.{◌≡◌, ℕ, ◌+◌, ◌-◌, ◌*◌, ◌/◌, ◌%◌, ◌<◌, ◌≤◌, ◌⊎◌, inl, inr, sym, ap, subst, ◌∙◌, arith}
use Rattle.std.proofs.lemmas.Bool.{cases_lt}
use Rattle.std.proofs.lemmas.Nat.{mul-le, div-mul-add, div-add-mod'}

-- The quotient so far is q, the remainder r, and w is what is left of v; the dividend's place holds w above q, each bit that was
-- taken leaving room for one of q.
pub record Divides (words v d place r power : ℕ) : Type 0 where
  pub q : ℕ
  pub w : ℕ
  pub room : ℕ
  pub powers : power * room ≡ words
  pub whole : v ≡ (q * d + r) * power + w
  pub low : w < power
  pub is : place ≡ w * room + q
  pub high : q < room
  pub less : r < d

-- The next bit is taken to the remainder, and the divisor was not tried yet.
pub record Pending (words v d place r power : ℕ) : Type 0 where
  pub q : ℕ
  pub w : ℕ
  pub room : ℕ
  pub powers : power * room ≡ words
  pub whole : v ≡ (q * d + r) * power + w
  pub low : w < power
  pub is : place ≡ w * room + q
  pub high : q + 1 < room
  pub double : r < 2 * d
  pub small : r < words

-- a place that is shifted by one, with the bit that comes out
abbrev pub Doubles : ℕ → ℕ → ℕ → ℕ → Type 0
Doubles words place bit place_on = ((bit ≡ 0) × (2 * place ≡ place_on)) ⊎ ((bit ≡ 1) × (2 * place ≡ words + place_on))

-- a remainder is no more than the number
below_words : (words v g r power w : ℕ) → v ≡ (g + r) * power + w → w < power → v < words → r < words
below_words words v g r power w whole low small = elim (cases_lt r words) [
  | inl less ↦ less
  | inr more ↦ (let some : 1 ≤ power = omega arith in
      let great : words * 1 ≤ r * power = mul-le words 1 r power more some in
      let split : (g + r) * power ≡ g * power + r * power = omega arith in
      absurd (omega arith))
]

low_bit : (words v d place r power place_on : ℕ) → (k : Divides words v d place r (2 * power)) → v < words → 2 * place ≡ place_on → place_on < words → Pending words v d place_on (2 * r + 0) power
low_bit words v d place r power place_on k small twice within = elim (cases_lt k.w power) [
  | inl less ↦ (
      let high = k.high in
      let rest = k.less in
      let q : ℕ = k.q in
      let w : ℕ = k.w in
      let room : ℕ = k.room in
      let is = k.is in
      let whole : v ≡ (2 * q * d + (2 * r + 0)) * power + w = (let e = k.whole in let f : (q * d + r) * (2 * power) ≡ (2 * q * d + (2 * r + 0)) * power = omega arith in omega arith) in
      let powers = k.powers in
      record {
        q = 2 * q;
        w = w;
        room = 2 * room;
        powers = (let e : power * (2 * room) ≡ 2 * power * room = omega arith in omega arith);
        whole = whole;
        low = less;
        is = (let e : w * (2 * room) ≡ 2 * (w * room) = omega arith in omega arith);
        high = omega arith;
        double = omega arith;
        small = below_words words v (2 * q * d) (2 * r + 0) power w whole less small;
      })
  | inr more ↦ (
      let is = k.is in
      let powers = k.powers in
      let great : power * k.room ≤ k.w * k.room = mul-le power k.room k.w k.room more (let e : k.room ≤ k.room = omega arith in e) in
      let e : 2 * power * k.room ≡ 2 * (power * k.room) = omega arith in
      absurd (omega arith))
]

high_bit : (words v d place r power place_on : ℕ) → (k : Divides words v d place r (2 * power)) → v < words → 2 * place ≡ words + place_on → place_on < words → Pending words v d place_on (2 * r + 1) power
high_bit words v d place r power place_on k small twice within = elim (cases_lt k.w power) [
  | inl less ↦ (
      let is = k.is in
      let high = k.high in
      let powers = k.powers in
      let great : (k.w + 1) * k.room ≤ power * k.room = mul-le (k.w + 1) k.room power k.room (omega arith) (let e : k.room ≤ k.room = omega arith in e) in
      let one : (k.w + 1) * k.room ≡ k.w * k.room + k.room = omega arith in
      let e : 2 * power * k.room ≡ 2 * (power * k.room) = omega arith in
      absurd (omega arith))
  | inr more ↦ (
      let high = k.high in
      let rest = k.less in
      let low = k.low in
      let q : ℕ = k.q in
      let w : ℕ = k.w - power in
      let room : ℕ = k.room in
      let is = k.is in
      let parts : k.w ≡ power + w = omega arith in
      let times : k.w * room ≡ (power + w) * room = ap (λ (n : ℕ). n * room) parts in
      let split : (power + w) * room ≡ power * room + w * room = omega arith in
      let whole : v ≡ (2 * q * d + (2 * r + 1)) * power + w = (let e = k.whole in let f : (q * d + r) * (2 * power) + power ≡ (2 * q * d + (2 * r + 1)) * power = omega arith in omega arith) in
      let powers = k.powers in
      let halves : 2 * power * room ≡ 2 * (power * room) = omega arith in
      let less : w < power = omega arith in
      record {
        q = 2 * q;
        w = w;
        room = 2 * room;
        powers = (let e : power * (2 * room) ≡ 2 * power * room = omega arith in omega arith);
        whole = whole;
        low = less;
        is = (let e : w * (2 * room) ≡ 2 * (w * room) = omega arith in omega arith);
        high = omega arith;
        double = omega arith;
        small = below_words words v (2 * q * d) (2 * r + 1) power w whole less small;
      })
]

pub shift_step : (words v d place r power bit place_on : ℕ) → Divides words v d place r (2 * power) → v < words → Doubles words place bit place_on → place_on < words → Pending words v d place_on (2 * r + bit) power
shift_step words v d place r power bit place_on k small (inl none) within = subst (λ (b : ℕ). Pending words v d place_on (2 * r + b) power) (sym none.0) (low_bit words v d place r power place_on k small none.1 within)
shift_step words v d place r power bit place_on k small (inr one) within = subst (λ (b : ℕ). Pending words v d place_on (2 * r + b) power) (sym one.0) (high_bit words v d place r power place_on k small one.1 within)

-- the divisor is taken from the remainder where it fits
pub fits_step : (words v d place r power : ℕ) → Pending words v d place r power → d ≤ r → Divides words v d (place + 1) (r - d) power
fits_step words v d place r power k fits =
    let is = k.is in
    let double = k.double in
    let one : (k.q + 1) * d ≡ k.q * d + d = omega arith in
    let same : k.q * d + r ≡ (k.q + 1) * d + (r - d) = omega arith in
    record {
      q = k.q + 1;
      w = k.w;
      room = k.room;
      powers = k.powers;
      whole = k.whole ∙ ap (λ (g : ℕ). g * power + k.w) same;
      low = k.low;
      is = omega arith;
      high = k.high;
      less = omega arith;
    }

pub other_step : (words v d place r power : ℕ) → Pending words v d place r power → r < d → Divides words v d place r power
other_step words v d place r power k less =
    let high = k.high in
    record {
      q = k.q;
      w = k.w;
      room = k.room;
      powers = k.powers;
      whole = k.whole;
      low = k.low;
      is = k.is;
      high = omega arith;
      less = less;
    }

pub before_all : (words v d : ℕ) → v < words → 0 < d → Divides words v d v 0 words
before_all words v d small some = record {
  q = 0;
  w = v;
  room = 1;
  powers = omega arith;
  whole = omega arith;
  low = small;
  is = omega arith;
  high = omega arith;
  less = some;
}

pub record Divided (v d q r : ℕ) : Type 0 where
  pub quotient : q ≡ v / d
  pub remainder : r ≡ v % d

pub after_all : (words v d place r : ℕ) → Divides words v d place r 1 → Divided v d place r
after_all words v d place r k =
    let low = k.low in
    let is = k.is in
    let whole = k.whole in
    let none : k.w ≡ 0 = omega arith in
    let nothing : k.w * k.room ≡ 0 * k.room = ap (λ (n : ℕ). n * k.room) none in
    let at_once : v ≡ k.q * d + r = omega arith in
    let quotient : v / d ≡ k.q = ap (λ (n : ℕ). n / d) at_once ∙ div-mul-add k.q d r k.less in
    let back = div-add-mod' v d in
    let product : v / d * d ≡ k.q * d = ap (λ (n : ℕ). n * d) quotient in
    record { quotient = omega arith; remainder = omega arith }
