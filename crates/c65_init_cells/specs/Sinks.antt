-- What becomes of an object and its first statements as values go in (C90 6.5.7).
use Rattle.std.specs.Prelude.{ℕ, ◌+◌, ◌-◌, ◌^◌, ◌==◌, min, nat_lt, nat_le, ℤ, pos, Bool, if◌then◌else◌, List, [], ◌∷◌, ◌++◌, length, map, take, Option, Some, None, Result, Ok, Err}
use Rattle.std.specs.Int.{w64, cast_unsigned, to_le_bytes}
use Rattle.c65_base.specs.declared.code.Code.TheVariants.{Initialiser, NotConstant, ConstantValue}
use Rattle.c65_base.specs.declared.refusal.Pos.{Pos}
use Rattle.c65_base.specs.declared.refusal.Size.TheVariants as sizes
use Rattle.c65_base.specs.Answers.{Fault, at, large, ◌>>=◌}
use Rattle.c65_ints.specs.declared.types.IntType.{IntType}
use Rattle.c65_ints.specs.declared.types.IntType.TheVariants.{UChar}
use Rattle.c65_ints.specs.Ranges.{wrap_of}
use Rattle.c65_ctype.specs.Trees.{Ty, int}
use Rattle.c65_ctype.specs.Sizes.{bytes_of}
use Rattle.c65_csem.specs.declared.items.Cell.{Cell}
use Rattle.c65_csem.specs.declared.items.Cell.TheVariants.{Byte, Piece}
use Rattle.c65_csem.specs.Trees.{Typed, node, constant, Stmt, set_part, UnitTy}
use Rattle.c65_csem.specs.Views.{stmt_of}
use Rattle.c65_csem.specs.Places.{plain}
use Rattle.c65_fold.specs.Folded.{folded}
use Rattle.c65_init_cells.specs.declared.address.Constant.{Constant}
use Rattle.c65_init_cells.specs.declared.address.Constant.TheVariants.{At, Number}
use Rattle.c65_init_cells.specs.declared.sink.Sink.{Sink}
use Rattle.c65_init_cells.specs.Addresses.{within_32, constant_of}
use Rattle.c65_init_cells.specs.Cells.{written, pointed, with_bits}

-- an object that is initialised: whether it is automatic, the bytes so far, and the statements that begin it
pub record SinkTy : Type 0 where
  pub object : ℕ
  pub is_automatic : Bool
  pub cells : List Cell
  pub stmts : List Stmt

abbrev pub sink_of : Sink → SinkTy
sink_of s = record { object = s.object; is_automatic = s.is_automatic; cells = s.cells.items; stmts = map stmt_of s.stmts.items }

-- a value is stored by a statement
abbrev pub with_set : SinkTy → ℕ → Typed → SinkTy
with_set s offset e = record s { stmts = s.stmts ++ set_part s.object offset (folded e) ∷ [] }

-- the lowest bytes of a number, so many
abbrev pub number_bytes : ℕ → ℤ → List ℕ
number_bytes size z = take size (to_le_bytes w64 (cast_unsigned w64 z))

-- a number of which the value is known: a bit-field in the bytes, and others there or by a statement
abbrev pub with_number : SinkTy → ℕ → IntType → Option (ℕ × ℕ) → Typed → ℤ → SinkTy
with_number s offset kind (Some bits) e z = record s { cells = with_bits s.cells offset bits.0 bits.1 z }
with_number s offset kind None e z = if s.is_automatic then with_set s offset e else record s { cells = written s.cells offset (number_bytes (bytes_of kind) z) }

-- a constant pointer, whose offset 32 bits have to hold
abbrev pub pointer_put : List Cell → ℕ → Pos → Constant → Result (List Cell) Fault
pointer_put cs offset p (Number z) = Ok (written cs offset (number_bytes 2 z))
pointer_put cs offset p (At t z) = if within_32 z then Ok (pointed cs offset t z) else Err (at ConstantValue p)

abbrev pub pointer_stored : SinkTy → ℕ → Typed → Pos → Option Constant → Result SinkTy Fault
pointer_stored s offset e p None = Err (at NotConstant p)
pointer_stored s offset e p (Some c) = if s.is_automatic then Ok (with_set s offset e) else (pointer_put s.cells offset p c >>= (λ cs. Ok (record s { cells = cs })))

-- a pointer that has to be constant (C90 6.4, 6.5.7)
abbrev pub with_pointer : UnitTy → SinkTy → ℕ → Typed → Pos → Result SinkTy Fault
with_pointer u s offset e p = pointer_stored s offset (folded e) p (constant_of u (folded e))

-- a byte that is not zero is stored by a statement
abbrev pub byte_set : ℕ → ℕ → Cell → Option Stmt
byte_set object offset (Byte b) = if b == 0 then None else Some (set_part object offset (node (plain (int UChar)) (constant (pos b))))
byte_set object offset (Piece t z i) = None

abbrev pub in_front : Option Stmt → List Stmt → List Stmt
in_front None stmts = stmts
in_front (Some stmt) stmts = stmt ∷ stmts

-- the next place; places stop at the greatest that 32 bits hold
abbrev pub next : ℕ → ℕ
next j = min (j + 1) (2 ^ 32 - 1)

-- the statements that store bytes which are not zero, from a place on
abbrev pub byte_sets : ℕ → ℕ → List Cell → List Stmt
byte_sets object j [] = []
byte_sets object j (cell ∷ cells) = in_front (byte_set object j cell) (byte_sets object (next j) cells)

-- the statements that begin an automatic object: those of its values, and those of its bit-fields' bytes
abbrev pub beginning : SinkTy → List Stmt
beginning s = s.stmts ++ byte_sets s.object 0 s.cells

-- a character of an array: a byte that is there, or a statement unless it is zero
abbrev pub with_char : SinkTy → ℕ → IntType → ℕ → SinkTy
with_char s offset kind b = if s.is_automatic then (if b == 0 then s else with_set s offset (node (plain (int kind)) (constant (wrap_of kind (pos b))))) else record s { cells = written s.cells offset (number_bytes 1 (pos b)) }

abbrev pub with_chars : SinkTy → ℕ → IntType → List ℕ → SinkTy
with_chars s j kind [] = s
with_chars s j kind (b ∷ bs) = with_chars (with_char s j kind b) (next j) kind bs

-- the kind of an array's characters
abbrev pub char_kind : Ty → IntType
char_kind (int kind) = kind
char_kind _ = UChar

abbrev pub with_text : SinkTy → Ty → ℕ → List ℕ → SinkTy
with_text s element offset text = with_chars s offset (char_kind element) text

-- how many elements an array of characters has that so many begin: all that it has, which have to be
-- enough, or one more for the last zero
abbrev pub text_elements : Option ℕ → ℕ → Pos → Result ℕ Fault
text_elements (Some m) n p = if nat_lt m n then Err (at Initialiser p) else Ok m
text_elements None n p = if nat_lt n 65535 then Ok (n + 1) else Err (large sizes.Object (n + 1))

-- a string literal, and the number of the array's elements
abbrev pub text_put : SinkTy → Ty → Option ℕ → ℕ → List ℕ → Pos → Result (ℕ × SinkTy) Fault
text_put s element count offset text p = text_elements count (length text) p >>= (λ n. Ok (n, with_text s element offset text))
