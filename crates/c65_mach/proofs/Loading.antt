-- Bytes laid over zero memory.
use Rattle.std.proofs.Common.{◌≡◌, ℕ, ◌+◌, ◌-◌, ◌≤◌, List, ◌++◌, length, take, drop, sym, arith, inl, inr}
use Rattle.std.specs.Prelude.{replicate}
use Rattle.std.proofs.lemmas.Bool.{cases_lt}
use Rattle.std.proofs.lemmas.List.{length-replicate, take-replicate, drop-replicate, take-append-le, append-nil, take_all}
use Rattle.std.proofs.Math.Seq.{take-append-add}

abbrev zeros : ℕ → List ℕ
zeros n = replicate n 0

-- so many bytes of a list and of what follows it
pub take-past : (xs ys : List ℕ) (n k : ℕ) → n ≡ length xs + k → take n (xs ++ ys) ≡ xs ++ take k ys
take-past xs ys n k e = rw e (take-append-add xs ys k)

room : (n at : ℕ) (bytes : List ℕ) → at ≤ n → take (n - at) bytes ++ replicate (n - (at + length bytes)) 0 ≡ take (n - at) (bytes ++ replicate n 0)
room n at bytes fits =
    elim (cases_lt (n - at) (length bytes)) [
      | inl less ↦ (let none : n - (at + length bytes) ≡ 0 = omega arith in
          rw (none, append-nil (take (n - at) bytes)) (sym (take-append-le (n - at) bytes (replicate n 0) (omega arith))))
      | inr enough ↦ (let rest : n - at ≡ length bytes + (n - (at + length bytes)) = omega arith in
          let whole : take (n - at) bytes ≡ bytes = take_all (n - at) bytes enough in
          let none : take (n - (at + length bytes)) (zeros n) ≡ zeros (n - (at + length bytes)) = take-replicate (n - (at + length bytes)) n 0 (omega arith) in
          let past : take (n - at) (bytes ++ zeros n) ≡ bytes ++ take (n - (at + length bytes)) (zeros n) = take-past bytes (zeros n) (n - at) (n - (at + length bytes)) rest in
          cc)
    ]

pub laid-zeros : (n at : ℕ) (bytes : List ℕ) → at ≤ n → take at (replicate n 0) ++ (take (n - at) bytes ++ drop (at + length bytes) (replicate n 0)) ≡ take n (replicate at 0 ++ (bytes ++ replicate n 0))
laid-zeros n at bytes fits =
    let whole : length (zeros at) ≡ at = length-replicate {A = ℕ} at 0 in
    let past = take-past (zeros at) (bytes ++ zeros n) n (n - at) (omega (arith, whole)) in
    let front : take at (zeros n) ≡ zeros at = take-replicate at n 0 fits in
    let back : drop (at + length bytes) (zeros n) ≡ zeros (n - (at + length bytes)) = drop-replicate (at + length bytes) n 0 in
    rw (front, back, room n at bytes fits) (sym past)
