-- The functions of the library (C90 7.9.6.3, 7.9.7, 7.10.4, 7.11), or why a call of one has no meaning.
use Rattle.std.specs.Prelude.{ℕ, zero, suc, ◌+◌, ◌-◌, ◌*◌, ◌==◌, ◌&&◌, Bool, false, ℤ, pos, negsuc, ◌-ℤ◌, List, [], ◌∷◌, ◌++◌, Result, Ok, Err, Option, Some, None, length, min, nat_lt, if◌then◌else◌}
use Rattle.c65_ints.specs.declared.types.IntType.TheVariants.{Int}
use Rattle.c65_ints.specs.Ranges.{residue, wrap_of}
use Rattle.c65_base.specs.Formats.{Form, string, Part, plain, field, form_bytes, parts_of, argument_bytes, Argument, text_of}
use Rattle.c65_base.specs.Formats as formats
use Rattle.c65_base.specs.declared.library.Library.{Library}
use Rattle.c65_base.specs.declared.library.Library.TheVariants.{Putchar, Getchar, Puts, Exit, Memcpy, Memset, Strcmp, Strcpy, Strlen, Printf}
use Rattle.c65_meaning.specs.declared.action.Action.TheVariants.{UnsetBit, UnknownValue, LibraryArgument}
use Rattle.c65_meaning.specs.Why.{Why, By, Unfit, ◌>>=◌, or_by}
use Rattle.c65_meaning.specs.Store.{Cell, Bits, Piece, Clouded, byte, Block, Store, Value, Whole, Null, Place, NoValue, set_block, set_cells, Gathered, Lacking, Hidden, Found, gathered, read_pair, reached_or, writable, nth_cell}
use Rattle.c65_meaning.specs.Operators.{unusable}
use Rattle.c65_meaning.specs.State.{Scene}

-- what a call does and gives, how many bytes it reads and writes, and the status where it ends the run
pub record Effect : Type 0 where
  pub bytes : ℕ
  pub result : Value
  pub store : Store
  pub input : List ℕ
  pub out : List ℕ
  pub status : Option ℕ

abbrev pub gives : Scene → ℕ → Value → Effect
gives c bytes v = record { bytes = bytes; result = v; store = c.store; input = c.input; out = c.out; status = None }

abbrev pub writes_out : Scene → ℕ → List ℕ → Value → Effect
writes_out c bytes text v = record { bytes = bytes; result = v; store = c.store; input = c.input; out = c.out ++ text; status = None }

abbrev pub stores : Scene → ℕ → Value → Store → Effect
stores c bytes v s = record { bytes = bytes; result = v; store = s; input = c.input; out = c.out; status = None }

abbrev pub ends : Scene → ℕ → Effect
ends c status = record { bytes = 0; result = NoValue; store = c.store; input = c.input; out = c.out; status = Some status }

-- ---- areas of memory

-- of an argument that is no place
abbrev pub not_pointing : Value → Why
not_pointing Null = By LibraryArgument
not_pointing v = unusable v

-- n bytes that an argument points to
abbrev pub area : Store → ℕ → ℕ → ℕ → Result Block Why
area s b o n = reached_or LibraryArgument (s b) o n

-- n bytes at each of two places have a byte in common
abbrev pub overlap : ℕ → ℕ → ℕ → ℕ → ℕ → Bool
overlap n b o c p = b == c && (nat_lt o (p + n) && nat_lt p (o + n))

abbrev pub filled : Store → ℕ → ℕ → ℕ → (ℕ → Cell) → Result Store Why
filled s b o n new = area s b o n >>= writable false >>= λ x. Ok (set_block s b (record x { cells = set_cells x.cells o n new }))

abbrev pub copied_apart : Store → ℕ → ℕ → ℕ → ℕ → ℕ → Result Store Why
copied_apart s b o c p n = if overlap n b o c p then Err (By LibraryArgument) else (area s b o n >>= λ x. filled s c p n (λ i. x.cells (o + i)))

-- n cells from the second place to the first
abbrev pub copied_area : Store → Value → Value → ℕ → Result Store Why
copied_area s (Place c p) (Place b o) n = copied_apart s b o c p n
copied_area s (Place c p) from n = Err (not_pointing from)
copied_area s to from n = Err (not_pointing to)

abbrev pub filled_area : Store → Value → ℕ → ℕ → Result Store Why
filled_area s (Place b o) n v = filled s b o n (λ i. byte v)
filled_area s to n v = Err (not_pointing to)

-- ---- texts in memory

abbrev pub set_byte : Cell → Result ℕ Why
set_byte (Bits known v) = if known == 255 then Ok v else Err (By UnsetBit)
set_byte (Piece i b o) = Err (By UnknownValue)
set_byte Clouded = Err (By UnknownValue)

abbrev pub before : ℕ → Result (List ℕ) Why → Result (List ℕ) Why
before zero rest = Ok []
before (suc v) rest = rest >>= λ text. Ok (suc v ∷ text)

-- the bytes up to the first zero, which is among the n cells from o on
abbrev pub text_in : (ℕ → Cell) → ℕ → ℕ → Result (List ℕ) Why
text_in cells zero o = Err (By LibraryArgument)
text_in cells (suc n) o = set_byte (cells o) >>= λ v. before v (text_in cells n (suc o))

abbrev pub text_at : Store → Value → Result (List ℕ) Why
text_at s (Place b o) = area s b o 0 >>= λ x. text_in x.cells (x.holds - o) o
text_at s v = Err (not_pointing v)

-- ---- comparing: the bytes that are read of each text, and the difference of the first two unlike ones

pub record Compared : Type 0 where
  pub read : ℕ
  pub difference : ℤ

abbrev pub one_more : Compared → Compared
one_more c = record c { read = suc c.read }

abbrev pub compared_byte : ℕ → ℕ → Result Compared Why → Result Compared Why
compared_byte a b rest = if a == b then (if a == 0 then Ok (record { read = 1; difference = pos 0 }) else (rest >>= λ c. Ok (one_more c))) else Ok (record { read = 1; difference = pos a -ℤ pos b })

-- up to the first difference or the end, which is among n cells
abbrev pub compared_in : (ℕ → Cell) → (ℕ → Cell) → ℕ → ℕ → ℕ → Result Compared Why
compared_in xs ys zero o p = Err (By LibraryArgument)
compared_in xs ys (suc n) o p = set_byte (xs o) >>= λ a. set_byte (ys p) >>= λ b. compared_byte a b (compared_in xs ys n (suc o) (suc p))

abbrev pub compared_texts : Store → Value → Value → Result Compared Why
compared_texts s (Place b o) (Place c p) = area s b o 0 >>= λ x. area s c p 0 >>= λ y. compared_in x.cells y.cells (min (x.holds - o) (y.holds - p)) o p
compared_texts s (Place b o) w = Err (not_pointing w)
compared_texts s v w = Err (not_pointing v)

-- ---- printing (C90 7.9.6.3): the further arguments are cells, in which the first one ends at their end

-- a number of which each bit is set
abbrev pub number_from : Gathered → Result Argument Why
number_from (Found n) = Ok (formats.number n)
number_from Lacking = Err (By LibraryArgument)
number_from Hidden = Err (By LibraryArgument)

-- the text that a pointer names
abbrev pub text_from : Store → Result Value Why → Result Argument Why
text_from s (Ok (Place b o)) = text_at s (Place b o) >>= λ t. Ok (formats.text t)
text_from s _ = Err (By LibraryArgument)

-- the argument of a conversion, in the cells from o on
abbrev pub argument_at : Store → Form → (ℕ → Cell) → ℕ → Result Argument Why
argument_at s string cells o = text_from s (read_pair (cells o) (cells (suc o)))
argument_at s f cells o = number_from (gathered (form_bytes f) cells o)

-- those of a format's fields, from so many cells, from their end down
abbrev pub drawn : Store → List Part → (ℕ → Cell) → ℕ → Result (List Argument) Why
drawn s [] cells left = Ok []
drawn s (plain b ∷ ps) cells left = drawn s ps cells left
drawn s (field w f ∷ ps) cells left =
    if nat_lt left (form_bytes f) then Err (By LibraryArgument) else (argument_at s f cells (left - form_bytes f) >>= λ a. drawn s ps cells (left - form_bytes f) >>= λ given. Ok (a ∷ given))

-- the bytes of the texts, each with its zero
abbrev pub text_bytes : List Argument → ℕ
text_bytes [] = 0
text_bytes (formats.number n ∷ given) = text_bytes given
text_bytes (formats.text t ∷ given) = suc (length t) + text_bytes given

-- read: the format with its zero, the arguments that it takes, and their texts; written: the text, whose length is the result
abbrev pub prints : Scene → List ℕ → List Part → List Argument → List ℕ → Effect
prints c format ps given t = writes_out c (suc (length format) + (argument_bytes ps + (text_bytes given + length t))) t (Whole (wrap_of Int (pos (length t))))

abbrev pub printed : Scene → List Cell → List ℕ → Result Effect Why
printed c rest format = or_by LibraryArgument (parts_of format) >>= λ ps. drawn c.store ps (nth_cell rest) (length rest) >>= λ given. or_by LibraryArgument (text_of ps given) >>= λ t. Ok (prints c format ps given t)

-- ---- the functions

abbrev pub got : Scene → List ℕ → Effect
got c [] = gives c 0 (Whole (negsuc 0))
got c (b ∷ rest) = record { bytes = 1; result = Whole (pos b); store = c.store; input = rest; out = c.out; status = None }

-- exactly so many arguments
abbrev pub arg0 : List Value → Result Effect Why → Result Effect Why
arg0 [] e = e
arg0 _ e = Err Unfit

abbrev pub arg1 : List Value → (Value → Result Effect Why) → Result Effect Why
arg1 (a ∷ []) f = f a
arg1 _ f = Err Unfit

abbrev pub arg2 : List Value → (Value → Value → Result Effect Why) → Result Effect Why
arg2 (a ∷ b ∷ []) f = f a b
arg2 _ f = Err Unfit

abbrev pub arg3 : List Value → (Value → Value → Value → Result Effect Why) → Result Effect Why
arg3 (a ∷ b ∷ d ∷ []) f = f a b d
arg3 _ f = Err Unfit

-- an argument that is a number, and one that counts bytes
abbrev pub number_in : Value → (ℤ → Result Effect Why) → Result Effect Why
number_in (Whole z) f = f z
number_in v f = Err (unusable v)

abbrev pub count_in : Value → (ℕ → Result Effect Why) → Result Effect Why
count_in (Whole (pos n)) f = f n
count_in v f = Err (unusable v)

-- on the arguments that they name, and the cells of the further ones
abbrev pub effect_of : Scene → Library → List Value → List Cell → Result Effect Why
effect_of c Putchar args rest = arg1 args (λ v. number_in v (λ z. Ok (writes_out c 1 (residue 256 z ∷ []) (Whole (pos (residue 256 z))))))
effect_of c Getchar args rest = arg0 args (Ok (got c c.input))
effect_of c Puts args rest = arg1 args (λ v. text_at c.store v >>= λ text. Ok (writes_out c (2 * suc (length text)) (text ++ 10 ∷ []) (Whole (pos 0))))
effect_of c Exit args rest = arg1 args (λ v. number_in v (λ z. Ok (ends c (residue 256 z))))
effect_of c Memcpy args rest = arg3 args (λ to from v. count_in v (λ n. copied_area c.store to from n >>= λ s. Ok (stores c (2 * n) to s)))
effect_of c Memset args rest = arg3 args (λ to v w. number_in v (λ z. count_in w (λ n. filled_area c.store to n (residue 256 z) >>= λ s. Ok (stores c n to s))))
effect_of c Strcmp args rest = arg2 args (λ v w. compared_texts c.store v w >>= λ d. Ok (gives c (2 * d.read) (Whole d.difference)))
effect_of c Strcpy args rest = arg2 args (λ to from. text_at c.store from >>= λ text. copied_area c.store to from (suc (length text)) >>= λ s. Ok (stores c (2 * suc (length text)) to s))
effect_of c Strlen args rest = arg1 args (λ v. text_at c.store v >>= λ text. Ok (gives c (suc (length text)) (Whole (pos (length text)))))
effect_of c Printf args rest = arg1 args (λ v. text_at c.store v >>= printed c rest)
