-- The types of the functions of C's library (C90 7.7, 7.9, 7.10, 7.11), where plain char is signed or not (C90 6.1.2.5).
use Rattle.std.specs.Prelude.{ℕ, List, Bool, true, false, Option, find, bytes_eq, slice_get, option_and_then}
use Rattle.c65_base.specs.declared.library.Library.{Library}
use Rattle.c65_base.specs.declared.library.Library.TheVariants as the
use Rattle.c65_base.specs.Library.{library_name, library_functions}
use Rattle.c65_ints.specs.declared.types.IntType.{IntType}
use Rattle.c65_ints.specs.declared.types.IntType.TheVariants.{SChar, UChar, Int, UInt}
use Rattle.c65_ctype.specs.Trees.{Ty, void, int, pointer, QTy, qual, Fn, fn, known, QTys, end, more}

abbrev pub plain_char : Bool → IntType
plain_char true = SChar
plain_char false = UChar

-- void
abbrev pub nothing : QTy
nothing = qual void false false

-- int
abbrev pub number : QTy
number = qual (int Int) false false

-- size_t
abbrev pub size : QTy
size = qual (int UInt) false false

-- a pointer to a type, which may be const
abbrev pub to : Bool → Ty → QTy
to is_const t = qual (pointer (qual t is_const false)) false false

-- char * and const char *
abbrev pub text : Bool → QTy
text is_signed = to false (int (plain_char is_signed))

abbrev pub const_text : Bool → QTy
const_text is_signed = to true (int (plain_char is_signed))

-- void * and const void *
abbrev pub bytes : QTy
bytes = to false void

abbrev pub const_bytes : QTy
const_bytes = to true void

abbrev pub library_result : Bool → Library → QTy
library_result is_signed the.Putchar = number
library_result is_signed the.Getchar = number
library_result is_signed the.Puts = number
library_result is_signed the.Exit = nothing
library_result is_signed the.Memcpy = bytes
library_result is_signed the.Memset = bytes
library_result is_signed the.Strcmp = number
library_result is_signed the.Strcpy = text is_signed
library_result is_signed the.Strlen = size
library_result is_signed the.Printf = number

abbrev pub library_params : Bool → Library → QTys
library_params is_signed the.Putchar = more number end
library_params is_signed the.Getchar = end
library_params is_signed the.Puts = more (const_text is_signed) end
library_params is_signed the.Exit = more number end
library_params is_signed the.Memcpy = more bytes (more const_bytes (more size end))
library_params is_signed the.Memset = more bytes (more number (more size end))
library_params is_signed the.Strcmp = more (const_text is_signed) (more (const_text is_signed) end)
library_params is_signed the.Strcpy = more (text is_signed) (more (const_text is_signed) end)
library_params is_signed the.Strlen = more (const_text is_signed) end
library_params is_signed the.Printf = more (const_text is_signed) end

-- whether further arguments follow
abbrev pub takes_more : Library → Bool
takes_more the.Printf = true
takes_more _ = false

abbrev pub library_type : Bool → Library → Fn
library_type is_signed l = fn (library_result is_signed l) (known (library_params is_signed l)) (takes_more l) false

-- the function of the library with this spelling
abbrev pub library_named : List ℕ → Option Library
library_named spelling = find (λ l. bytes_eq (library_name l) spelling) library_functions

-- and that of a name in a table of spellings
abbrev pub library_at : List (List ℕ) → ℕ → Option Library
library_at names n = option_and_then library_named (slice_get names n)
