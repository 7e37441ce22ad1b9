-- The functions of C's library that the runtime defines (C90 7.7, 7.9, 7.10, 7.11).
use Rattle.std.specs.Prelude.{ℕ, List, [], ◌∷◌, codes}
use Rattle.c65_base.specs.declared.library.Library.{Library}
use Rattle.c65_base.specs.declared.library.Library.TheVariants.{Putchar, Getchar, Puts, Exit, Memcpy, Memset, Strcmp, Strcpy, Strlen, Printf}

abbrev pub library_name : Library → List ℕ
library_name Putchar = codes "putchar"
library_name Getchar = codes "getchar"
library_name Puts = codes "puts"
library_name Exit = codes "exit"
library_name Memcpy = codes "memcpy"
library_name Memset = codes "memset"
library_name Strcmp = codes "strcmp"
library_name Strcpy = codes "strcpy"
library_name Strlen = codes "strlen"
library_name Printf = codes "printf"

-- all of them, each once
abbrev pub library_functions : List Library
library_functions = Putchar ∷ Getchar ∷ Puts ∷ Exit ∷ Memcpy ∷ Memset ∷ Strcmp ∷ Strcpy ∷ Strlen ∷ Printf ∷ []
