-- The rounds of a product, on whole numbers.
use Rattle.std.proofs.Common.{◌≡◌, ℕ, suc, ◌+◌, ◌*◌, ◌/◌, ◌%◌, ◌^◌, ◌<◌, sym, ap, ◌∙◌, arith}
use Rattle.std.proofs.Math.Nat.{pow-suc}

-- a factor that is cut to 16 bits gives the same product in 16 bits
cut_word : (q h acc : ℕ) → (acc + (2 * q) % 65536 * h) % 65536 ≡ (acc + 2 * (q * h)) % 65536
cut_word q h acc =
    let k : ℕ = (2 * q) / 65536 in
    let r : ℕ = (2 * q) % 65536 in
    let split : 2 * q ≡ 65536 * k + r = omega arith in
    let times : 2 * q * h ≡ (65536 * k + r) * h = ap (λ (n : ℕ). n * h) split in
    let more : 2 * (q * h) ≡ 65536 * (k * h) + r * h = omega arith in
    omega arith

odd_word : (acc q h : ℕ) → ((acc + q) % 65536 + (2 * q) % 65536 * h) % 65536 ≡ (acc + q * (2 * h + 1)) % 65536
odd_word acc q h =
    let cut = cut_word q h ((acc + q) % 65536) in
    let whole : q * (2 * h + 1) ≡ 2 * (q * h) + q = omega arith in
    omega arith

even_word : (acc q h : ℕ) → (acc + (2 * q) % 65536 * h) % 65536 ≡ (acc + q * (2 * h)) % 65536
even_word acc q h =
    let cut = cut_word q h acc in
    let whole : q * (2 * h) ≡ 2 * (q * h) = omega arith in
    omega arith

-- a round with the lowest bit set, and with it clear: the sum so far and the rest of the product are as before
pub odd_round : (acc q h acc_on q_on h_on : ℕ) → acc_on ≡ (acc + q) % 65536 → q_on ≡ (2 * q) % 65536 → h ≡ 2 * h_on + 1 → (acc_on + q_on * h_on) % 65536 ≡ (acc + q * h) % 65536
odd_round acc q h acc_on q_on h_on sum twice half =
    ap (λ (k : ℕ). (k + q_on * h_on) % 65536) sum ∙ (ap (λ (k : ℕ). ((acc + q) % 65536 + k * h_on) % 65536) twice ∙ (odd_word acc q h_on ∙ ap (λ (k : ℕ). (acc + q * k) % 65536) (sym half)))

pub even_round : (acc q h q_on h_on : ℕ) → q_on ≡ (2 * q) % 65536 → h ≡ 2 * h_on → (acc + q_on * h_on) % 65536 ≡ (acc + q * h) % 65536
even_round acc q h q_on h_on twice half =
    ap (λ (k : ℕ). (acc + k * h_on) % 65536) twice ∙ (even_word acc q h_on ∙ ap (λ (k : ℕ). (acc + q * k) % 65536) (sym half))

-- before the first round
pub first_round : (q h a b : ℕ) → q ≡ a → h ≡ b → (0 + 256 * 0 + q * h) % 65536 ≡ (a * b) % 65536
first_round q h a b same_q same_h =
    let e : q * h ≡ a * b = ap (λ (k : ℕ). k * h) same_q ∙ ap (λ (k : ℕ). a * k) same_h in
    omega arith

-- behind the last
pub last_round : (acc q h : ℕ) → h ≡ 0 → acc < 65536 → acc ≡ (acc + q * h) % 65536
last_round acc q h none small =
    let e : q * h ≡ q * 0 = ap (λ (k : ℕ). q * k) none in
    omega arith

pub fewer_bits : (h h_on b left : ℕ) → h < 2 ^ suc left → h ≡ 2 * h_on + b → h_on < 2 ^ left
fewer_bits h h_on b left few half =
    let p : 2 ^ suc left ≡ 2 ^ left * 2 = pow-suc 2 left in
    omega arith
