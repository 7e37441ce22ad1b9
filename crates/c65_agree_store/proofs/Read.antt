-- What is read from cells is what stands there.
use Rattle.std.proofs.Common.{◌≡◌, ℕ, zero, suc, ◌+◌, ◌*◌, ◌%◌, ◌<◌, ◌⊎◌, inl, inr, Some, refl, sym, ap, ◌∙◌, arith}
use Rattle.std.specs.Prelude.{if◌then◌else◌, Result, Ok, bit_and}
use Rattle.std.proofs.lemmas.Nat.{and_mask}
use Rattle.std.proofs.lemmas.Bool.{cases_eq}
use Rattle.std.proofs.lemmas.Bool.Decides.{nat_tests}
use Rattle.c65_meaning.specs.Why.{Why}
use Rattle.c65_meaning.specs.Store.{Cell, Bits, Piece, Clouded, Value, Place, Opaque, Gathered, Found, Lacking, Hidden, below, hide, gather, gathered, are_of_one, as_pointer}
use Rattle.c65_agree_store.specs.Stands.{At, Placing, part_of, CellIs, ValueIs}
use Rattle.c65_agree_store.specs.Laws.{number_in, NumbersAreRead, PlacesAreRead}

all_bits : (n : ℕ) → n < 256 → bit_and n 255 ≡ n
all_bits n lt = let h : bit_and n 255 ≡ n % 256 = and_mask n 8 in omega arith

hidden_is_not_found : (g : Gathered) (v : ℕ) → hide g ≡ Found v → ⊥
hidden_is_not_found Lacking v e = cc
hidden_is_not_found Hidden v e = cc
hidden_is_not_found (Found n) v e = cc

-- a whole byte before a number
found_below : (w : Placing) (x : Cell) (g : Gathered) (byte v : ℕ) → byte < 256 → CellIs w x byte → gather x g ≡ Found v → (n : ℕ) × (g ≡ Found n) × (v ≡ byte + 256 * n)
found_below w (Piece i b o) g byte v lt is e = absurd (hidden_is_not_found g v e)
found_below w Clouded g byte v lt is e = absurd (hidden_is_not_found g v e)
found_below w (Bits known value) g byte v lt is e = go (cases_eq known 255)
  where
    rest : known ≡ 255 → below value g ≡ Found v → (n : ℕ) × (g ≡ Found n) × (v ≡ byte + 256 * n)
    rest k f = from g refl f
      where
        same : value ≡ byte
        same = sym is ∙ ap (bit_and byte) k ∙ all_bits byte lt

        from : (h : Gathered) → g ≡ h → below value h ≡ Found v → (n : ℕ) × (g ≡ Found n) × (v ≡ byte + 256 * n)
        from Lacking eg f2 = cc
        from Hidden eg f2 = cc
        from (Found n) eg f2 = (n, eg, (let f3 : value + 256 * n ≡ v = cc in omega (arith, same, f3)))

    go : (known ≡ 255) ⊎ (known ≡ 255 → ⊥) → (n : ℕ) × (g ≡ Found n) × (v ≡ byte + 256 * n)
    go (inl k) = let f : below value g ≡ Found v = grind (arith, nat_tests) in rest k f
    go (inr nk) = let f : Lacking ≡ Found v = grind (arith, nat_tests) in cc

pub numbers_are_read : NumbersAreRead
numbers_are_read w cells f zero o v bytes is e = cc
numbers_are_read w cells f (suc n) o v bytes is e =
    let r = found_below w (cells o) (gathered n cells (suc o)) (f o) v (bytes o) (is o (omega arith) (omega arith)) e in
    let deep : number_in f n (suc o) ≡ r.0 = numbers_are_read w cells f n (suc o) r.0 bytes (λ p lo hi. is p (omega arith) (omega arith)) r.1 in
    omega (arith, deep, r.2)

abbrev paired : (i j c d p r : ℕ) → Result Value Why
paired i j c d p r = if are_of_one i c p j d r then Ok (Place c p) else Ok Opaque

-- the two pieces of one place
pair_of_one : (w : Placing) (i j c d p r low high b o : ℕ) → CellIs w (Piece i c p) low → CellIs w (Piece j d r) high → paired i j c d p r ≡ Ok (Place b o) → ValueIs w 65536 (Place b o) (low + 256 * high)
pair_of_one w i j c d p r low high b o hx hy e = go (cases_eq i 0) (cases_eq j 1) (cases_eq c d) (cases_eq p r)
  where
    none : paired i j c d p r ≡ Ok Opaque → ValueIs w 65536 (Place b o) (low + 256 * high)
    none f = let g : Ok Opaque ≡ Ok (Place b o) = sym f ∙ e in cc

    go : (i ≡ 0) ⊎ (i ≡ 0 → ⊥) → (j ≡ 1) ⊎ (j ≡ 1 → ⊥) → (c ≡ d) ⊎ (c ≡ d → ⊥) → (p ≡ r) ⊎ (p ≡ r → ⊥) → ValueIs w 65536 (Place b o) (low + 256 * high)
    go (inl ei) (inl ej) (inl ec) (inl ep) =
        let f : paired i j c d p r ≡ Ok (Place c p) = grind (arith, nat_tests) in
        let g : Ok (Place c p) ≡ Ok (Place b o) = sym f ∙ e in
        let gb : c ≡ b = cc in
        let go2 : p ≡ o = cc in
        let same : Some (At hx.0) ≡ Some (At hy.0) = sym hx.1 ∙ ap w ec ∙ hy.1 in
        let ea : hx.0 ≡ hy.0 = cc in
        let l0 : low ≡ part_of 0 (hx.0 + p) = hx.2 ∙ ap (λ n. part_of n (hx.0 + p)) ei in
        let h0 : high ≡ part_of 1 (hy.0 + r) = hy.2 ∙ ap (λ n. part_of n (hy.0 + r)) ej in
        (hx.0, ap w (sym gb) ∙ hx.1, omega (arith, l0, h0, ea, ep, go2))
    go (inr n) _ _ _ = none (grind (arith, nat_tests))
    go _ (inr n) _ _ = none (grind (arith, nat_tests))
    go _ _ (inr n) _ = none (grind (arith, nat_tests))
    go _ _ _ (inr n) = none (grind (arith, nat_tests))

-- bytes alone give no place
number_is_no_place : (g : Gathered) (b o : ℕ) → as_pointer g ≡ Ok (Place b o) → ⊥
number_is_no_place Lacking b o e = cc
number_is_no_place Hidden b o e = cc
number_is_no_place (Found zero) b o e = cc
number_is_no_place (Found (suc n)) b o e = cc

pub places_are_read : PlacesAreRead
places_are_read w (Piece i c p) (Piece j d r) low high b o hx hy e = pair_of_one w i j c d p r low high b o hx hy e
places_are_read w (Piece i c p) (Bits known value) low high b o hx hy e = absurd (number_is_no_place (gather (Piece i c p) (gather (Bits known value) (Found 0))) b o e)
places_are_read w (Piece i c p) Clouded low high b o hx hy e = absurd (number_is_no_place (gather (Piece i c p) (gather Clouded (Found 0))) b o e)
places_are_read w (Bits known value) y low high b o hx hy e = absurd (number_is_no_place (gather (Bits known value) (gather y (Found 0))) b o e)
places_are_read w Clouded y low high b o hx hy e = absurd (number_is_no_place (gather Clouded (gather y (Found 0))) b o e)
