-- Small programs that print by a format.
use Rattle.std.specs.Prelude.{ℕ, ◌+◌, pos, List, [], ◌∷◌, ◌++◌, codes, length}
use Rattle.c65_ints.specs.declared.types.IntType.TheVariants as I
use Rattle.c65_base.specs.declared.library.Library.TheVariants as L
use Rattle.c65_ctype.specs.Trees.{int, Fn}
use Rattle.c65_csem.specs.Places.{plain}
use Rattle.c65_csem.specs.Trees.{Typed, node, constant, null, literal, Stmt}
use Rattle.c65_meaning.specs.Program.{ProgramTy}
use Rattle.c65_meaning.specs.Building.{integer, character, structure, pointer_to, array_of, takes_more, byte_member, one_structure, no_types, number, below_zero, place, address_of, first_of, as_type, call_as, pack_of, scope, give, local, provided, main_of, program_with}

-- int printf(const char *, ...)
abbrev pub printing : Fn
printing = takes_more (pointer_to character ∷ []) integer

-- literal l, of these bytes, as a pointer to its first
abbrev pub text : ℕ → List ℕ → Typed
text l bytes = first_of character (node (array_of (length bytes + 1) character) (literal l))

-- return printf(FORMAT, ARGUMENTS);, where the format is literal 0
abbrev pub give_printed : List ℕ → List Typed → Stmt
give_printed format args = give (call_as 1 printing integer (text 0 format ∷ args))

-- int main(void) { return printf(FORMAT, ARGUMENTS); }
abbrev pub printing_with : List ℕ → List Typed → ProgramTy
printing_with format args = program_with no_types (format ∷ []) [] (main_of (give_printed format args) ∷ provided printing [] L.Printf ∷ [])

abbrev pub each_form : List ℕ
each_form = codes "%5d|%x|%c|%s|%ld|%%" ++ 10 ∷ []

-- int main(void) { return printf("%5d|%x|%c|%s|%ld|%%\n", -42, 255, 'A', "hi", 100000L); }
abbrev pub forms_printed : ProgramTy
forms_printed = program_with no_types (each_form ∷ codes "hi" ∷ []) [] (main_of (give_printed each_form (below_zero 41 ∷ number 255 ∷ number 65 ∷ text 1 (codes "hi") ∷ node (plain (int I.Long)) (constant (pos 100000)) ∷ [])) ∷ provided printing [] L.Printf ∷ [])

-- struct s { char a, b; }; int main(void) { struct s y; return printf("%d", y); }
abbrev pub unset_printed : ProgramTy
unset_printed = program_with (one_structure (byte_member 0 ∷ byte_member 1 ∷ [])) (codes "%d" ∷ []) (local structure ∷ []) (main_of (scope (0 ∷ []) (give_printed (codes "%d") (pack_of (place structure 0) ∷ []) ∷ [])) ∷ provided printing [] L.Printf ∷ [])

-- int main(void) { int a; return printf("%d", (int)&a); }
abbrev pub address_printed : ProgramTy
address_printed = program_with no_types (codes "%d" ∷ []) (local integer ∷ []) (main_of (scope (0 ∷ []) (give_printed (codes "%d") (as_type integer (address_of (place integer 0)) ∷ []) ∷ [])) ∷ provided printing [] L.Printf ∷ [])

-- int main(void) { char a[2]; return printf("%s", a); }
abbrev pub unset_text_printed : ProgramTy
unset_text_printed = program_with no_types (codes "%s" ∷ []) (local (array_of 2 character) ∷ []) (main_of (scope (0 ∷ []) (give_printed (codes "%s") (first_of character (place (array_of 2 character) 0) ∷ []) ∷ [])) ∷ provided printing [] L.Printf ∷ [])

-- int main(void) { return printf("%s", (char *)0); }
abbrev pub null_printed : ProgramTy
null_printed = printing_with (codes "%s") (node (pointer_to character) null ∷ [])
