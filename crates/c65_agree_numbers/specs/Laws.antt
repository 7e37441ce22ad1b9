-- The runtime's operators on words are those of C on numbers, and words stand in memory as the cells of numbers do.
use Rattle.std.specs.Prelude.{◌≡◌, ℕ, ◌+◌, ◌<◌, ◌≤◌, ◌==◌, not, Bool, true, false, ℤ, Ok, Some}
use Rattle.c65_base.specs.declared.operators.BinaryOp.{BinaryOp}
use Rattle.c65_ints.specs.declared.types.IntType.{IntType}
use Rattle.c65_ints.specs.Ranges.{is_signed_of, wrap_of, InRange}
use Rattle.c65_ctype.specs.Sizes.{bytes_of}
use Rattle.c65_meaning.specs.Integers.{negated_of, complement_of}
use Rattle.c65_meaning.specs.Store.{Cell, Store, Whole, Number, cell_of, read_cells}
use Rattle.c65_meaning.specs.Operators.{truth_of, calculated}
use Rattle.c65_code.specs.declared.routine.UnaryRoutine.TheVariants.{Neg, Compl, BNeg}
use Rattle.c65_code.specs.Numbers.{tos_result, unary_result, truth}
use Rattle.c65_genwide.specs.Wide.{width_of, tos_of}
use Rattle.c65_agree_store.specs.Stands.{Placing, CellIs}
use Rattle.c65_agree_store.specs.Laws.{number_in, byte_of}
use Rattle.c65_agree_numbers.specs.Words.{word_of, narrowed, converted_word, result_type, result_word, is_shift}

-- ---- ranges

-- a word is brought into the range of its type as the number is (C90 6.2.1.2)
abbrev pub WordsAreWrapped : Type 0
WordsAreWrapped = (t : IntType) (z : ℤ) → narrowed t (word_of t z) ≡ word_of t (wrap_of t z)

-- and stays where the number lies in the range already
abbrev pub WordsInRangeStay : Type 0
WordsInRangeStay = (t : IntType) (z : ℤ) → InRange t z → narrowed t (word_of t z) ≡ word_of t z

abbrev pub WordsAreConverted : Type 0
WordsAreConverted = (from to : IntType) (z : ℤ) → InRange from z → converted_word from to (word_of from z) ≡ word_of to (wrap_of to z)

-- ---- operators

-- the routine of an operator, on two words, gives the word of the operator's number (C90 6.3.5, 6.3.6, 6.3.8 to 6.3.12)
pub record GivesWord (op : BinaryOp) (t : IntType) (m n : ℕ) (z : ℤ) : Type 0 where
  pub word : ℕ
  pub given : tos_result (tos_of op (is_signed_of t)) (width_of t) m n ≡ Some word
  pub is : result_word op t word ≡ word_of (result_type op t) z

abbrev pub OperatorsAreOnWords : Type 0
OperatorsAreOnWords = (op : BinaryOp) (t : IntType) (a b z : ℤ) → is_shift op ≡ false → InRange t a → InRange t b → calculated op t a b ≡ Ok (Whole z)
    → GivesWord op t (word_of t a) (word_of t b) z

-- the count of a shift may be of any type (C90 6.3.7)
abbrev pub ShiftsAreOnWords : Type 0
ShiftsAreOnWords = (op : BinaryOp) (t r : IntType) (a c z : ℤ) → is_shift op ≡ true → InRange t a → calculated op t a c ≡ Ok (Whole z)
    → GivesWord op t (word_of t a) (word_of r c) z

-- C90 6.3.3.3
abbrev pub OppositesAreOnWords : Type 0
OppositesAreOnWords = (t : IntType) (z : ℤ) → (narrowed t (unary_result Neg (width_of t) (word_of t z)) ≡ word_of t (negated_of t z))
    × (narrowed t (unary_result Compl (width_of t) (word_of t z)) ≡ word_of t (complement_of t z))

-- a number is true where its word is not 0; `bneg` gives the opposite
abbrev pub TruthIsOfWords : Type 0
TruthIsOfWords = (s : Store) (t : IntType) (z : ℤ) (b : Bool) → InRange t z → truth_of s (Whole z) ≡ Ok b
    → ((word_of t z == 0) ≡ not b) × (unary_result BNeg (width_of t) (word_of t z) ≡ truth (not b))

-- ---- bytes

-- the bytes of a number's word may be laid down as its cells
abbrev pub NumbersAreLaid : Type 0
NumbersAreLaid = (w : Placing) (t : IntType) (z : ℤ) (i : ℕ) → i < bytes_of t → CellIs w (cell_of (Whole z) i) (byte_of i (word_of t z))

-- the number that cells hold has the word of the bytes there, with the sign of a character above it
abbrev pub NumbersAreLoaded : Type 0
NumbersAreLoaded = (w : Placing) (t : IntType) (cells : ℕ → Cell) (f : ℕ → ℕ) (o : ℕ) (z : ℤ)
    → ((p : ℕ) → f p < 256) → ((p : ℕ) → o ≤ p → p < o + bytes_of t → CellIs w (cells p) (f p)) → read_cells (Number t) cells o ≡ Ok (Whole z)
    → narrowed t (number_in f (bytes_of t) o) ≡ word_of t z
