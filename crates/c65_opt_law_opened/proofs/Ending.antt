-- How many bytes a copy of a text reads whose bytes stay as they are.
use Rattle.std.proofs.Common.{◌≡◌, ℕ, zero, suc, ◌+◌, ◌<◌, ◌≤◌, ◌==◌, Bool, true, false, not, if◌then◌else◌, List, [], ◌∷◌, length, Option, Some, refl, sym, subst, ap, ◌∙◌, arith}
use Rattle.std.specs.Prelude.{slice_get}
use Rattle.std.proofs.lemmas.Bool.{eqb-true}
use Rattle.c65_code.specs.LineState.{Bytes, write}
use Rattle.c65_code.specs.Texts.{copy_within, copy_length}
use Rattle.c65_opt_law_opened.proofs.Texts.{LieAt, lie_first, lie_behind, first_zero}
use Rattle.c65_opt_law_opened.proofs.Writes.{after_writes, from_there, copy_first}

module _ (constant : ℕ → Option ℕ) where
  -- the bytes are constant from an address on
  abbrev pub AreConstant : ℕ → List ℕ → Type 0
  AreConstant from bytes = (k v : ℕ) → slice_get bytes k ≡ Some v → constant (from + k) ≡ Some v

  -- what so many writes put where a byte is constant is that byte
  abbrev pub AreKept : ℕ → ℕ → Bytes → ℕ → Type 0
  AreKept to from m count = (k v : ℕ) → k < count + 1 → constant (to + k) ≡ Some v → after_writes to (from_there from) m k (from + k) ≡ v

  constant_behind : (from v : ℕ) (vs : List ℕ) → AreConstant from (v ∷ vs) → AreConstant (from + 1) vs
  constant_behind from v vs h k w e = let same : from + suc k ≡ from + 1 + k = omega arith in subst (λ (n : ℕ). constant n ≡ Some w) same (h (suc k) w e)

  -- behind the first write the others are kept
  kept_behind : (to from : ℕ) (m : Bytes) (count : ℕ) → AreKept to from m (suc count) → AreKept (to + 1) (from + 1) (write m to (m from)) count
  kept_behind to from m count h k v less e =
      let at : to + 1 + k ≡ to + suc k = omega arith in
      let there : from + 1 + k ≡ from + suc k = omega arith in
      ap (λ (x : Bytes). x (from + 1 + k)) (copy_first to from m k) ∙ (ap (after_writes to (from_there from) m (suc k)) there ∙ h (suc k) v (omega (arith, less)) (subst (λ (n : ℕ). constant n ≡ Some v) at e))

  -- and the rest of the text lies there still
  lie_on : (to from v : ℕ) (vs : List ℕ) (m : Bytes) (count : ℕ) → LieAt m from (v ∷ vs) → AreConstant from (v ∷ vs) → AreKept to from m count → LieAt (write m to (m from)) (from + 1) vs
  lie_on to from v vs m count lie constants kept k w e = pick (from + 1 + k == to) refl
    where
      here : constant (from + 1 + k) ≡ Some w
      here = constant_behind from v vs constants k w e

      pick : (b : Bool) → (from + 1 + k == to) ≡ b → (if b then m from else m (from + 1 + k)) ≡ w
      pick true h =
          let same : from + 1 + k ≡ to = eqb-true (from + 1 + k) to h in
          let at : from + 1 + k ≡ to + 0 = omega (arith, same) in
          let there : from + 0 ≡ from = omega arith in
          sym (ap m there) ∙ kept 0 w (omega arith) (subst (λ (n : ℕ). constant n ≡ Some w) at here)
      pick false h = lie_behind m from v vs lie k w e

  ends_on : (b : Bool) (v rest count : ℕ) (vs : List ℕ) → (v == 0) ≡ b → (if b then 0 else suc rest) ≡ count → (if not b then 1 + first_zero vs else 0) < suc (length vs) → (first_zero vs < length vs → suc rest ≡ count → rest ≡ first_zero vs)
      → count ≡ (if not b then 1 + first_zero vs else 0)
  ends_on true v rest count vs e is found later = sym is
  ends_on false v rest count vs e is found later = let same : rest ≡ first_zero vs = later (omega (arith, found)) is in omega (arith, same, is)

  copies : (bytes : List ℕ) (fuel to from : ℕ) (m : Bytes) (count : ℕ) → length bytes ≤ fuel → first_zero bytes < length bytes → LieAt m from bytes → AreConstant from bytes → copy_within fuel to from m ≡ count → AreKept to from m count → count ≡ first_zero bytes
  copies [] fuel to from m count le found lie constants is kept = absurd (omega (arith, found))
  copies (v ∷ vs) zero to from m count le found lie constants is kept = absurd (omega (arith, le))
  copies (v ∷ vs) (suc fuel) to from m count le found lie constants is kept =
      let first : m from ≡ v = lie_first m from v vs lie in
      let rest : ℕ = copy_within fuel (to + 1) (from + 1) (write m to (m from)) in
      ends_on (v == 0) v rest count vs refl (sym (ap (λ (x : ℕ). if x == 0 then 0 else suc rest) first) ∙ is) found (λ less same.
      copies vs fuel (to + 1) (from + 1) (write m to (m from)) rest (omega (arith, le)) less (lie_on to from v vs m count lie constants kept) (constant_behind from v vs constants) refl
      (kept_behind to from m rest (subst (AreKept to from m) (sym same) kept)))

  pub copy_ends : (bytes : List ℕ) (n to from : ℕ) (m : Bytes) → length bytes ≤ 65536 → n < length bytes → first_zero bytes ≡ n → LieAt m from bytes → AreConstant from bytes → AreKept to from m (copy_length to from m) → copy_length to from m ≡ n
  unfolding copy_length
  copy_ends bytes n to from m le less is lie constants kept = copies bytes 65536 to from m (copy_length to from m) le (omega (arith, less, is)) lie constants refl kept ∙ is
