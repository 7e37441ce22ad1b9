-- What is read where a block stands fits.
use Rattle.std.proofs.Common.{◌≡◌, ℕ, zero, suc, ◌+◌, ◌<◌, ◌≤◌, Bool, true, false, refl, ap, ◌∙◌, arith}
use Rattle.std.specs.Prelude.{nat_lt, if◌then◌else◌, Ok}
use Rattle.std.proofs.lemmas.Bool.Decides.{nat_tests}
use Rattle.std.proofs.lemmas.Nat.{and_le_l}
use Rattle.c65_ints.specs.Ranges.{is_signed_of, width_of}
use Rattle.c65_ctype.specs.Sizes.{bytes_of}
use Rattle.c65_meaning.specs.Store.{Cell, Bits, Piece, Clouded, Value, Shape, Number, Field, Pointer, Area, size_in, gather, gathered, as_number, read_pair, read_cells}
use Rattle.c65_meaning.specs.Fits.{Fits, IsByte}
use Rattle.c65_meaning.proofs.ReadFitting.{reads_fit}
use Rattle.c65_agree_store.specs.Stands.{Placing, CellIs}
use Rattle.c65_agree_put.specs.Laws.{IsScalar}

-- the cells of a block, and none behind its end
abbrev within : (ℕ → Cell) → ℕ → ℕ → Cell
within cells size p = if nat_lt p size then cells p else Clouded

within_is : (cells : ℕ → Cell) (size p : ℕ) → p < size → within cells size p ≡ cells p
within_is cells size p lt = go (nat_lt p size) refl
  where
    go : (b : Bool) → nat_lt p size ≡ b → (if b then cells p else Clouded) ≡ cells p
    go true e = refl
    go false e = let h : size ≤ p = grind (arith, nat_tests) in absurd (omega (arith, h, lt))

gathered_within : (cells : ℕ → Cell) (size n o : ℕ) → o + n ≤ size → gathered n (within cells size) o ≡ gathered n cells o
gathered_within cells size zero o le = refl
gathered_within cells size (suc n) o le = ap (λ x. gather x (gathered n (within cells size) (suc o))) (within_is cells size o (omega (arith, le))) ∙ ap (gather (cells o)) (gathered_within cells size n (suc o) (omega (arith, le)))

read_within : (f : Shape) (cells : ℕ → Cell) (size o : ℕ) → IsScalar f → o + size_in f ≤ size → read_cells f (within cells size) o ≡ read_cells f cells o
read_within (Number t) cells size o scalar le = ap (as_number (is_signed_of t) (width_of t)) (gathered_within cells size (bytes_of t) o le)
read_within (Pointer n) cells size o scalar le = ap (λ x. read_pair x (within cells size (suc o))) (within_is cells size o (omega (arith, le))) ∙ ap (read_pair (cells o)) (within_is cells size (suc o) (omega (arith, le)))
read_within (Field t low width) cells size o scalar le = absurd scalar
read_within (Area n) cells size o scalar le = absurd scalar

byte_within : (cells : ℕ → Cell) (size : ℕ) → ((p : ℕ) → p < size → IsByte (cells p)) → (p : ℕ) → IsByte (within cells size p)
byte_within cells size bytes p = go (nat_lt p size) refl
  where
    go : (b : Bool) → nat_lt p size ≡ b → IsByte (if b then cells p else Clouded)
    go true e = bytes p (grind (arith, nat_tests))
    go false e = tt

-- a cell that stands in a byte is one
pub byte_stands : (w : Placing) (x : Cell) (byte : ℕ) → byte < 256 → CellIs w x byte → IsByte x
byte_stands w (Bits known value) byte lt is = omega (arith, lt, is, and_le_l byte known)
byte_stands w (Piece i b o) byte lt is = tt
byte_stands w Clouded byte lt is = tt

-- a number or pointer that is read in a block
pub scalars_fit : (f : Shape) (cells : ℕ → Cell) (size o : ℕ) (v : Value) → IsScalar f → ((p : ℕ) → p < size → IsByte (cells p)) → o + size_in f ≤ size → read_cells f cells o ≡ Ok v → Fits f v
scalars_fit (Number t) cells size o v scalar bytes le e = reads_fit (Number t) (within cells size) o v tt (byte_within cells size bytes) (read_within (Number t) cells size o tt le ∙ e)
scalars_fit (Pointer n) cells size o v scalar bytes le e = reads_fit (Pointer n) (within cells size) o v tt (byte_within cells size bytes) (read_within (Pointer n) cells size o tt le ∙ e)
scalars_fit (Field t low width) cells size o v scalar bytes le e = absurd scalar
scalars_fit (Area n) cells size o v scalar bytes le e = absurd scalar
