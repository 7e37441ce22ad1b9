-- Which operators may stand behind an expression without going into it.
use Rattle.std.proofs.Common.{◌≡◌, ℕ, suc, ◌-◌, ◌≤◌, List, [], ◌∷◌, Bool, true, false, refl, arith}
use Rattle.std.proofs.lemmas.Bool.{leb-false}
use Rattle.std.specs.Prelude.{nat_le}
use Rattle.c65_scan.specs.declared.token.Token.{Token}
use Rattle.c65_parse_law_trees.specs.Tokens.{rank}

abbrev pub edge_low : Bool → ℕ → ℕ
edge_low true n = n
edge_low false n = n - 1

abbrev pub edge_mid : Bool → ℕ → ℕ
edge_mid true n = 12
edge_mid false n = edge_low (nat_le 3 n) n

abbrev pub edge_of : Bool → ℕ → ℕ
edge_of true n = 15
edge_of false n = edge_mid (nat_le 13 n) n

-- the highest level of an operation that an operator behind an expression of this level makes of it, where it does
-- not go into the expression's last operand
abbrev pub edge : ℕ → ℕ
edge n = edge_of (nat_le 15 n) n

abbrev pub Follows : ℕ → List Token → Type 0
Follows n [] = Unit {0}
Follows n (tok ∷ ts) = rank tok.kind ≤ n

pub lower : (n m : ℕ) (ts : List Token) → n ≤ m → Follows n ts → Follows m ts
lower n m [] h f = tt
lower n m (tok ∷ ts) h f = omega (arith, h, f)

low_edge : (n m : ℕ) (c : Bool) → nat_le 3 m ≡ c → suc n ≤ m → n ≤ edge_low c m
low_edge n m true e h = omega (arith, h)
low_edge n m false e h = omega (arith, h)

mid_edge : (n m : ℕ) (b : Bool) → nat_le 13 m ≡ b → n ≤ 12 → suc n ≤ m → n ≤ edge_mid b m
mid_edge n m true e k h = k
mid_edge n m false e k h = low_edge n m (nat_le 3 m) refl h

high_edge : (n m : ℕ) (a : Bool) → nat_le 15 m ≡ a → n ≤ 12 → suc n ≤ m → n ≤ edge_of a m
high_edge n m true e k h = omega (arith, k)
high_edge n m false e k h = mid_edge n m (nat_le 13 m) refl k h

-- an operand of a higher level ends where the operation does
pub edge_above : (n m : ℕ) → n ≤ 12 → suc n ≤ m → n ≤ edge m
edge_above n m k h = high_edge n m (nat_le 15 m) refl k h

low_same : (n m : ℕ) (c : Bool) → nat_le 3 m ≡ c → 3 ≤ n → n ≤ m → n ≤ edge_low c m
low_same n m true e k h = h
low_same n m false e k h = let f = leb-false 3 m e in omega (arith, f, k, h)

mid_same : (n m : ℕ) (b : Bool) → nat_le 13 m ≡ b → 3 ≤ n → n ≤ 12 → n ≤ m → n ≤ edge_mid b m
mid_same n m true e l k h = k
mid_same n m false e l k h = low_same n m (nat_le 3 m) refl l h

high_same : (n m : ℕ) (a : Bool) → nat_le 15 m ≡ a → 3 ≤ n → n ≤ 12 → n ≤ m → n ≤ edge_of a m
high_same n m true e l k h = omega (arith, k)
high_same n m false e l k h = mid_same n m (nat_le 13 m) refl l k h

-- operations of two operands group from the left
pub edge_same : (n m : ℕ) → 3 ≤ n → n ≤ 12 → n ≤ m → n ≤ edge m
edge_same n m l k h = high_same n m (nat_le 15 m) refl l k h

top_edge : (m : ℕ) (a : Bool) → nat_le 15 m ≡ a → 15 ≤ m → 15 ≤ edge_of a m
top_edge m true e h = omega arith
top_edge m false e h = let f = leb-false 15 m e in absurd (omega (arith, f, h))

pub edge_top : (m : ℕ) → 15 ≤ m → 15 ≤ edge m
edge_top m h = top_edge m (nat_le 15 m) refl h
