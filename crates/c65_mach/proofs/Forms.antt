-- The fixed part of an image's file, byte by byte.
use Rattle.std.proofs.Common.{◌≡◌, ◌≢◌, ℕ, ◌+◌, ◌<◌, ◌≤◌, List, [], length, drop, get_or, Some, refl, add-one, arith, inl, inr}
use Rattle.std.specs.Prelude.{◌==◌, if◌then◌else◌, Option}
use Rattle.std.proofs.lemmas.List.{length-drop, nil_from_length}
use Rattle.std.proofs.Math.Seq.{drop-cons}
use Rattle.std.proofs.lemmas.Bool.Decides.{eqb_tells}
use Rattle.c65_mach.specs.Images.{wrong_in}

test : (x y : Option ℕ) (a b : ℕ) → a ≡ b → (if a == b then x else y) ≡ x
test x y a b same = elim (eqb_tells a b) [ inl is ↦ rw is.0 refl | inr is ↦ absurd (is.1 same) ]

fail : (x y : Option ℕ) (a b : ℕ) → a ≢ b → (if a == b then x else y) ≡ y
fail x y a b other = elim (eqb_tells a b) [ inl is ↦ absurd (other is.1) | inr is ↦ rw is.0 refl ]

-- one more byte is right
pub right_at : (wants bytes : List ℕ) (k : ℕ) → k < length wants → k < length bytes → get_or bytes k 0 ≡ get_or wants k 0 → wrong_in (drop k wants) (drop k bytes) k ≡ wrong_in (drop (k + 1) wants) (drop (k + 1) bytes) (k + 1)
right_at wants bytes k in_wants in_bytes same =
    rw (drop-cons wants k 0 in_wants, drop-cons bytes k 0 in_bytes, add-one k) (test _ _ (get_or bytes k 0) (get_or wants k 0) same)

-- a byte is wrong
pub wrong_at : (wants bytes : List ℕ) (k : ℕ) → k < length wants → k < length bytes → get_or bytes k 0 ≢ get_or wants k 0 → wrong_in (drop k wants) (drop k bytes) k ≡ Some k
wrong_at wants bytes k in_wants in_bytes other =
    rw (drop-cons wants k 0 in_wants, drop-cons bytes k 0 in_bytes) (fail _ _ (get_or bytes k 0) (get_or wants k 0) other)

-- there is no byte
pub none_at : (wants bytes : List ℕ) (k : ℕ) → k < length wants → length bytes ≤ k → wrong_in (drop k wants) (drop k bytes) k ≡ Some k
none_at wants bytes k in_wants ends =
    let none : drop k bytes ≡ [] = nil_from_length (drop k bytes) (rw (length-drop k bytes) (omega arith)) in
    rw (drop-cons wants k 0 in_wants, none) refl
