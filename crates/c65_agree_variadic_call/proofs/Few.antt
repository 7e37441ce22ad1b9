-- No more parameters move than regbank has bytes.
use Rattle.std.proofs.Common.{◌≡◌, ℕ, zero, suc, ◌+◌, ◌<◌, ◌≤◌, ◌⊎◌, inl, inr, Bool, true, false, List, [], ◌∷◌, length, refl, subst, arith}
use Rattle.std.specs.Prelude.{◌==◌, if◌then◌else◌}
use Rattle.std.proofs.lemmas.Bool.{eqb-true}
use Rattle.c65_genframe.specs.declared.home.Moved.{Moved}
use Rattle.c65_agree_registers.specs.Entries.{AreBeside, AreMoves}

-- 1 where the byte is the first one of the parameter's
abbrev one_at : ℕ → Moved → ℕ
one_at n m = if m.bank == n then 1 else 0

abbrev many_at : ℕ → List Moved → ℕ
many_at n [] = 0
many_at n (m ∷ ms) = one_at n m + many_at n ms

none_at : (taken low high n : ℕ) (ms : List Moved) → AreMoves taken low high ms → AreBeside n ms → many_at n ms ≡ 0
none_at taken low high n [] moves beside = refl
none_at taken low high n (m ∷ ms) moves beside = omega (arith, go (m.bank == n) refl, none_at taken low high n ms moves.4 beside.1)
  where
    apart : m.bank ≡ n → ⊥
    apart e = by beside.0
      where
        by : (n < m.bank) ⊎ (m.bank + m.bytes ≤ n) → ⊥
        by (inl lt) = omega (arith, lt, e)
        by (inr le) = omega (arith, le, e, moves.0.some)

    go : (b : Bool) → (m.bank == n) ≡ b → (if b then 1 else 0) ≤ 0
    go true e = absurd (apart (eqb-true m.bank n e))
    go false e = omega arith

at_most_one : (taken low high n : ℕ) (ms : List Moved) → AreMoves taken low high ms → many_at n ms ≤ 1
at_most_one taken low high n [] moves = omega arith
at_most_one taken low high n (m ∷ ms) moves = go (at_most_one taken low high n ms moves.4) (m.bank == n) refl
  where
    go : many_at n ms ≤ 1 → (b : Bool) → (m.bank == n) ≡ b → (if b then 1 else 0) + many_at n ms ≤ 1
    go deep true e =
        let here : m.bank + 0 ≡ n = omega (arith, eqb-true m.bank n e) in
        let none : many_at n ms ≡ 0 = none_at taken low high n ms moves.4 (subst (λ k. AreBeside k ms) here (moves.3 0 (omega (arith, moves.0.some)))) in
        omega (arith, none)
    go deep false e = omega (arith, deep)

once : (m : Moved) (b : ℕ) → m.bank ≡ b → b < 6 → one_at 0 m + one_at 1 m + one_at 2 m + one_at 3 m + one_at 4 m + one_at 5 m ≡ 1
once m zero e lt = rw e refl
once m (suc zero) e lt = rw e refl
once m (suc (suc zero)) e lt = rw e refl
once m (suc (suc (suc zero))) e lt = rw e refl
once m (suc (suc (suc (suc zero)))) e lt = rw e refl
once m (suc (suc (suc (suc (suc zero))))) e lt = rw e refl
once m (suc (suc (suc (suc (suc (suc b)))))) e lt = absurd (omega (arith, lt))

all_counted : (taken low high : ℕ) (ms : List Moved) → taken ≤ 6 → AreMoves taken low high ms → length ms ≡ many_at 0 ms + many_at 1 ms + many_at 2 ms + many_at 3 ms + many_at 4 ms + many_at 5 ms
all_counted taken low high [] six moves = refl
all_counted taken low high (m ∷ ms) six moves = omega (arith, once m m.bank refl (omega (arith, six, moves.0.some, moves.0.within)), all_counted taken low high ms six moves.4)

pub few_move : (taken low high : ℕ) (ms : List Moved) → taken ≤ 6 → AreMoves taken low high ms → length ms ≤ 6
few_move taken low high ms six moves =
    omega (arith, all_counted taken low high ms six moves, at_most_one taken low high 0 ms moves, at_most_one taken low high 1 ms moves, at_most_one taken low high 2 ms moves, at_most_one taken low high 3 ms moves, at_most_one taken low high 4 ms moves, at_most_one taken low high 5 ms moves)
