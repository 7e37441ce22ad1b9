-- A structure or union that is passed or returned: its cells are those of the word that its bytes are.
use Rattle.std.proofs.Common.{◌≡◌, ℕ, zero, suc, ◌+◌, ◌*◌, ◌/◌, ◌%◌, ◌<◌, ◌≤◌, List, [], ◌∷◌, Bool, true, false, refl, sym, ap, ◌∙◌, subst, arith}
use Rattle.std.specs.Prelude.{nat_le, if◌then◌else◌, Result, Ok, Err}
use Rattle.std.proofs.lemmas.Bool.Decides.{nat_tests}
use Rattle.c65_meaning.specs.Why.{Why, By, ◌>>=◌}
use Rattle.c65_meaning.specs.declared.action.Action.TheVariants.{OutsideObject}
use Rattle.c65_meaning.specs.Store.{Cell, Block, Store, Value, Cells, packed, cells_at}
use Rattle.c65_code.specs.LineState.{Bytes}
use Rattle.c65_agree_store.specs.Stands.{Spot, Placing, Banks, byte_in, CellIs, CellsAre, IsAt, Stands}
use Rattle.c65_agree_store.specs.Laws.{number_in, AreasAreRead, CellsAreLaid}

-- the lowest byte of a word, and the rest of it
lowest : (low rest : ℕ) → low < 256 → (low + 256 * rest) % 256 ≡ low
lowest low rest lt = omega arith

others : (low rest : ℕ) → low < 256 → (low + 256 * rest) / 256 ≡ rest
others low rest lt = omega arith

-- cells that stand at bytes are those of the word of these bytes
pub cells_are_gathered : (w : Placing) (cells : ℕ → Cell) (f : ℕ → ℕ) (n o : ℕ) → ((p : ℕ) → f p < 256) → ((p : ℕ) → o ≤ p → p < o + n → CellIs w (cells p) (f p)) → CellsAre w (cells_at n cells o) (number_in f n o)
cells_are_gathered w cells f zero o bytes is = tt
cells_are_gathered w cells f (suc n) o bytes is =
    let deep : CellsAre w (cells_at n cells (suc o)) (number_in f n (suc o)) = cells_are_gathered w cells f n (suc o) bytes (λ p lo hi. is p (omega arith) (omega arith)) in
    let first : CellIs w (cells o) (f o) = is o (omega arith) (omega arith) in
    rw (lowest (f o) (number_in f n (suc o)) (bytes o), others (f o) (number_in f n (suc o)) (bytes o)) (first, deep)

module _ (s : Store) (w : Placing) (m : Bytes) (k : Banks) (b : ℕ) (x : Block) (q : Spot) (n o : ℕ) (st : Stands s w m k) (at : IsAt s w b x q) (bytes : (p : ℕ) → byte_in m k q p < 256) where
  in_block : o + n ≤ x.holds → CellsAre w (cells_at n x.cells o) (number_in (byte_in m k q) n o)
  in_block fits = cells_are_gathered w x.cells (byte_in m k q) n o bytes (λ p lo hi. st.cells b x q p at (omega arith))

  abbrev cells_if : Bool → Result Value Why
  cells_if fits = (if fits then Ok x else Err (By OutsideObject)) >>= λ y. Ok (Cells (cells_at n y.cells o))

  packed_as : packed n s b o ≡ cells_if (nat_le (o + n) x.holds)
  packed_as = rw (at.is, at.live) refl

  area_is_read : (xs : List Cell) → packed n s b o ≡ Ok (Cells xs) → CellsAre w xs (number_in (byte_in m k q) n o)
  area_is_read xs e = go (nat_le (o + n) x.holds) refl
    where
      go : (fits : Bool) → nat_le (o + n) x.holds ≡ fits → CellsAre w xs (number_in (byte_in m k q) n o)
      go true h =
          let le : o + n ≤ x.holds = grind (arith, nat_tests) in
          let f : Ok (Cells (cells_at n x.cells o)) ≡ Ok (Cells xs) = sym (ap cells_if h) ∙ (sym packed_as ∙ e) in
          let g : cells_at n x.cells o ≡ xs = cc in
          subst (λ z. CellsAre w z (number_in (byte_in m k q) n o)) g (in_block le)
      go false h =
          let f : Err (By OutsideObject) ≡ Ok (Cells xs) = sym (ap cells_if h) ∙ (sym packed_as ∙ e) in
          cc

pub areas_are_read : AreasAreRead
areas_are_read s w m k b x q n o words xs st at bytes e = area_is_read s w m k b x q n o st at bytes xs e

pub cells_are_laid : CellsAreLaid
cells_are_laid w [] words n i is lt = omega arith
cells_are_laid w (x ∷ xs) words n zero is lt = is.0
cells_are_laid w (x ∷ xs) words n (suc i) is lt = cells_are_laid w xs words (n / 256) i is.1 (omega arith)
