-- The headers that are built in: their names, and their texts at an inclusion.
use Rattle.std.specs.Prelude.{ℕ, List, [], ◌∷◌, ◌++◌, Bool, true, false, not, ◌&&◌, ◌||◌, if◌then◌else◌, Option, is_some, find, codes, bytes_eq}
use Rattle.c65_ppfile.specs.declared.headers.BuiltIn.{BuiltIn}
use Rattle.c65_ppfile.specs.declared.headers.BuiltIn.TheVariants.{Stdio, Stdlib, Strings, Stddef, Limits, Stdint, Stdarg}

abbrev pub name_of : BuiltIn → List ℕ
name_of Stdio = codes "stdio.h"
name_of Stdlib = codes "stdlib.h"
name_of Strings = codes "string.h"
name_of Stddef = codes "stddef.h"
name_of Limits = codes "limits.h"
name_of Stdint = codes "stdint.h"
name_of Stdarg = codes "stdarg.h"

abbrev pub all : List BuiltIn
all = Stdio ∷ Stdlib ∷ Strings ∷ Stddef ∷ Limits ∷ Stdint ∷ Stdarg ∷ []

abbrev pub built_in_of : List ℕ → Option BuiltIn
built_in_of name = find (λ h. bytes_eq (name_of h) name) all

-- the name by which a unit's list of files has a header
abbrev pub path_of : BuiltIn → List ℕ
path_of h = 60 ∷ (name_of h ++ 62 ∷ [])

abbrev pub lines : List (List ℕ) → List ℕ
lines [] = []
lines (l ∷ ls) = l ++ 10 ∷ lines ls

-- what a header declares besides size_t and the limits of plain char
abbrev pub text_of : BuiltIn → List ℕ
text_of Stdio = lines (codes "#define EOF (-1)" ∷ codes "int putchar(int);" ∷ codes "int getchar(void);" ∷ codes "int puts(const char *);" ∷ codes "int printf(const char *, ...);" ∷ [])
text_of Stdlib = lines (codes "#define NULL ((void*)0)" ∷ codes "#define EXIT_SUCCESS 0" ∷ codes "#define EXIT_FAILURE 1" ∷ codes "void exit(int);" ∷ [])
text_of Strings = lines (codes "#define NULL ((void*)0)" ∷ codes "void *memcpy(void *, const void *, size_t);" ∷ codes "void *memset(void *, int, size_t);" ∷ codes "int strcmp(const char *, const char *);" ∷ codes "char *strcpy(char *, const char *);" ∷ codes "size_t strlen(const char *);" ∷ [])
text_of Stddef = lines (codes "#define NULL ((void*)0)" ∷ codes "typedef int ptrdiff_t;" ∷ [])
text_of Limits = lines (codes "#define CHAR_BIT 8" ∷ codes "#define SCHAR_MIN (-128)" ∷ codes "#define SCHAR_MAX 127" ∷ codes "#define UCHAR_MAX 255" ∷ codes "#define MB_LEN_MAX 1" ∷ codes "#define SHRT_MIN (-32767-1)" ∷ codes "#define SHRT_MAX 32767" ∷ codes "#define USHRT_MAX 65535U" ∷ codes "#define INT_MIN (-32767-1)" ∷ codes "#define INT_MAX 32767" ∷ codes "#define UINT_MAX 65535U" ∷ codes "#define LONG_MIN (-2147483647L-1L)" ∷ codes "#define LONG_MAX 2147483647L" ∷ codes "#define ULONG_MAX 4294967295UL" ∷ [])
text_of Stdint = lines (codes "typedef signed char int8_t;" ∷ codes "typedef unsigned char uint8_t;" ∷ codes "typedef int int16_t;" ∷ codes "typedef unsigned int uint16_t;" ∷ codes "typedef long int32_t;" ∷ codes "typedef unsigned long uint32_t;" ∷ [])
text_of Stdarg = lines (codes "typedef unsigned char *va_list;" ∷ codes "#define va_start(ap,last) ((void)((ap)=__va_rest))" ∷ codes "#define va_arg(ap,t) (*(t*)((ap)-=sizeof(t)))" ∷ codes "#define va_end(ap) ((void)0)" ∷ [])

abbrev pub has_size : BuiltIn → Bool
has_size Stdlib = true
has_size Strings = true
has_size Stddef = true
has_size _ = false

abbrev pub is_sized : List BuiltIn → Bool
is_sized [] = false
is_sized (h ∷ hs) = has_size h || is_sized hs

-- size_t is declared by the first header that has it
abbrev pub size_text : Bool → List ℕ
size_text declares = if declares then lines (codes "typedef unsigned int size_t;" ∷ []) else []

-- whether plain char is signed is an option
abbrev pub plain_text : Bool → BuiltIn → List ℕ
plain_text signed Limits = if signed then lines (codes "#define CHAR_MIN (-128)" ∷ codes "#define CHAR_MAX 127" ∷ []) else lines (codes "#define CHAR_MIN 0" ∷ codes "#define CHAR_MAX 255" ∷ [])
plain_text signed _ = []

abbrev pub is_among : List BuiltIn → BuiltIn → Bool
is_among hs h = is_some (find (λ g. bytes_eq (name_of g) (name_of h)) hs)

-- the text of a header behind these: nothing from its second inclusion on
abbrev pub text_behind : Bool → List BuiltIn → BuiltIn → List ℕ
text_behind signed hs h = if is_among hs h then [] else (size_text (has_size h && not (is_sized hs)) ++ text_of h) ++ plain_text signed h

abbrev pub with_header : List BuiltIn → BuiltIn → List BuiltIn
with_header hs h = if is_among hs h then hs else hs ++ h ∷ []
