-- Small programs that come to an undefined action, and one that calls too deep.
use Rattle.std.specs.Prelude.{ℕ, [], ◌∷◌}
use Rattle.c65_base.specs.declared.operators.BinaryOp.TheVariants.{Add, Sub, Div, Shl, Lt, Eq}
use Rattle.c65_base.specs.declared.library.Library.TheVariants as L
use Rattle.c65_ctype.specs.Trees.{TypesTy, Fn}
use Rattle.c65_csem.specs.Trees.{Typed, node, null, literal, copy, eval, label, goto, return, absent}
use Rattle.c65_meaning.specs.Program.{ProgramTy}
use Rattle.c65_meaning.specs.Building.{integer, unsigned, character, structure, pointer_to, array_of, takes, takes_more, byte_member, one_structure, no_types, number, place, value_of, address_of, value, at, first_of, as_type, with, beside, store, call_as, pack_of, held_in, end_of_rest, byte_of, scope, give, initial, local, unnamed, fixed, defined, provided, main_of, program_with, program_of}
use Rattle.c65_meaning.specs.Samples.{lowered, drawn, calling_with, taking_more}

-- int main(void) { return 1 / 0; }
abbrev pub by_zero : ProgramTy
by_zero = program_of [] (main_of (give (with Div (number 1) (number 0))) ∷ [])

-- int main(void) { return 1 << 16; }
abbrev pub shift_by_width : ProgramTy
shift_by_width = program_of [] (main_of (give (with Shl (number 1) (number 16))) ∷ [])

-- int main(void) { int a; return a; }
abbrev pub unset_integer : ProgramTy
unset_integer = program_of (local integer ∷ []) (main_of (scope (0 ∷ []) (give (value 0) ∷ [])) ∷ [])

-- int main(void) { return *(int *)0; }
abbrev pub null_followed : ProgramTy
null_followed = program_of [] (main_of (give (value_of (at integer (node (pointer_to integer) null)))) ∷ [])

-- a + n, where `int a[2]` is object 0
abbrev pub element : ℕ → Typed
element n = beside Add (first_of integer (place (array_of 2 integer) 0)) (number n)

-- int main(void) { int a[2]; return a[N]; }
abbrev pub element_read : ℕ → ProgramTy
element_read n = program_of (local (array_of 2 integer) ∷ []) (main_of (scope (0 ∷ []) (give (value_of (at integer (element n))) ∷ [])) ∷ [])

-- int main(void) { int a, b; return &a < &b; }
abbrev pub order_across : ProgramTy
order_across = program_of (local integer ∷ local integer ∷ []) (main_of (scope (0 ∷ 1 ∷ []) (give (with Lt (address_of (place integer 0)) (address_of (place integer 1))) ∷ [])) ∷ [])

-- int main(void) { *"a" = 1; }
abbrev pub literal_written : ProgramTy
literal_written = program_with no_types ((97 ∷ []) ∷ []) [] (main_of (eval (store (at character (first_of character (node (array_of 2 character) (literal 0)))) (number 1))) ∷ [])

-- int main(void) { int a; return (int)&a + 1; }
abbrev pub address_added_to : ProgramTy
address_added_to = program_of (local integer ∷ []) (main_of (scope (0 ∷ []) (give (with Add (as_type integer (address_of (place integer 0))) (number 1)) ∷ [])) ∷ [])

-- int main(void) { int a, b; return &a + 1 == &b; }
abbrev pub end_met : ProgramTy
end_met = program_of (local integer ∷ local integer ∷ []) (main_of (scope (0 ∷ 1 ∷ []) (give (with Eq (beside Add (address_of (place integer 0)) (number 1)) (address_of (place integer 1))) ∷ [])) ∷ [])

-- int f(int a, int b) { return 0; } int main(void) { return ((int (*)(int))f)(1); }
abbrev pub misfit : ProgramTy
misfit = program_of (local integer ∷ local integer ∷ []) (main_of (give (call_as 1 (takes (integer ∷ []) integer) integer (number 1 ∷ []))) ∷ defined (takes (integer ∷ integer ∷ []) integer) (0 ∷ 1 ∷ []) (give (number 0)) ∷ [])

-- int f(void) { return; } int main(void) { return f(); }
abbrev pub missing_result : ProgramTy
missing_result = program_of [] (main_of (give (call_as 1 (takes [] integer) integer [])) ∷ defined (takes [] integer) [] (return absent) ∷ [])

-- int main(void) { return strlen(0); }
abbrev pub length_of_null : ProgramTy
length_of_null = program_of (local (pointer_to character) ∷ []) (main_of (give (as_type integer (call_as 1 (takes (pointer_to character ∷ []) unsigned) unsigned (node (pointer_to character) null ∷ [])))) ∷ provided (takes (pointer_to character ∷ []) unsigned) (0 ∷ []) L.Strlen ∷ [])

-- x + n as a pointer to the structure, where `char x[3]` is object 0
abbrev pub structure_at : ℕ → Typed
structure_at n = at structure (as_type (pointer_to structure) (beside Add (first_of character (place (array_of 3 character) 0)) (number n)))

-- struct s { char a, b; }; int main(void) { char x[3]; *(struct s *)(x + 0) = *(struct s *)(x + 1); }
abbrev pub overlapping_copy : ProgramTy
overlapping_copy = program_with (one_structure (byte_member 0 ∷ byte_member 1 ∷ [])) [] (local (array_of 3 character) ∷ []) (main_of (scope (0 ∷ []) (eval (node structure (copy (structure_at 0) (structure_at 1))) ∷ [])) ∷ [])

-- int main(void) { int *p; { int x = 5; p = &x; goto out; } out: return *p; }
abbrev pub pointer_left : ProgramTy
pointer_left = program_of (local (pointer_to integer) ∷ local integer ∷ []) (main_of (scope (0 ∷ []) (scope (1 ∷ []) (initial 1 (number 5) ∷ eval (store (place (pointer_to integer) 0) (address_of (place integer 1))) ∷ goto 0 ∷ []) ∷ label 0 (give (value_of (at integer (value_of (place (pointer_to integer) 0))))) ∷ [])) ∷ [])

-- int main(void) { goto in; { int x = 1; in: return x; } }
abbrev pub jump_past_initialiser : ProgramTy
jump_past_initialiser = program_of (local integer ∷ []) (main_of (scope [] (goto 0 ∷ scope (0 ∷ []) (initial 0 (number 1) ∷ label 0 (give (value 0)) ∷ []) ∷ [])) ∷ [])

-- int f(void) { char a[1000]; return f(); } int main(void) { return f(); }
abbrev pub no_end_of_calls : ProgramTy
no_end_of_calls = program_of (local (array_of 1000 character) ∷ []) (main_of (give (call_as 1 (takes [] integer) integer [])) ∷ defined (takes [] integer) [] (scope (0 ∷ []) (give (call_as 1 (takes [] integer) integer []) ∷ [])) ∷ [])

-- int f(void) { int a; return f(); } int main(void) { return f(); }, where `a` has one place for the whole run
abbrev pub entered_twice : ProgramTy
entered_twice = program_of (fixed integer ∷ []) (main_of (give (call_as 1 (takes [] integer) integer [])) ∷ defined (takes [] integer) [] (scope (0 ∷ []) (give (call_as 1 (takes [] integer) integer []) ∷ [])) ∷ [])

-- struct s { char a, b; }
abbrev pub two_bytes : TypesTy
two_bytes = one_structure (byte_member 0 ∷ byte_member 1 ∷ [])

-- struct s f(void) { return; } int main(void) { return f().a; }
abbrev pub missing_structure : ProgramTy
missing_structure = program_with two_bytes [] (unnamed structure ∷ []) (main_of (scope (0 ∷ []) (give (byte_of (held_in 0 (call_as 1 (takes [] structure) structure [])) 0) ∷ [])) ∷ defined (takes [] structure) [] (return absent) ∷ [])

-- int f(struct s x)
abbrev pub of_structure : Fn
of_structure = takes (structure ∷ []) integer

-- int f(struct s x) { return x.a; } int main(void) { struct s y; return f(*(&y + 1)); }
abbrev pub structure_behind : ProgramTy
structure_behind = program_with two_bytes [] (local structure ∷ local structure ∷ []) (main_of (scope (1 ∷ []) (give (call_as 1 of_structure integer (pack_of (at structure (beside Add (address_of (place structure 1)) (number 1))) ∷ [])) ∷ [])) ∷ defined of_structure (0 ∷ []) (give (byte_of (place structure 0) 0)) ∷ [])

-- int f(struct s x) { return x.a; } int main(void) { struct s *p; { struct s y; p = &y; goto out; } out: return f(*p); }
abbrev pub structure_left : ProgramTy
structure_left = program_with two_bytes [] (local structure ∷ local (pointer_to structure) ∷ local structure ∷ []) (main_of (scope (1 ∷ []) (scope (2 ∷ []) (eval (store (place (pointer_to structure) 1) (address_of (place structure 2))) ∷ goto 0 ∷ []) ∷ label 0 (give (call_as 1 of_structure integer (pack_of (at structure (value_of (place (pointer_to structure) 1))) ∷ []))) ∷ [])) ∷ defined of_structure (0 ∷ []) (give (byte_of (place structure 0) 0)) ∷ [])

-- int f(int n, ...) { unsigned char *p = __va_rest; p -= 2; return *(int *)(p -= 2); } int main(void) { return f(0, 5); }
abbrev pub further_passed_over : ProgramTy
further_passed_over = calling_with (number 5 ∷ []) [] [] (eval (lowered 2) ∷ give (drawn integer 2) ∷ [])

-- int f(int n, ...) { char x; return __va_rest == &x + 1; } int main(void) { return f(0); }
abbrev pub none_further : ProgramTy
none_further = program_of (local integer ∷ local character ∷ []) (main_of (give (call_as 1 taking_more integer (number 0 ∷ []))) ∷ defined taking_more (0 ∷ []) (scope (1 ∷ []) (give (with Eq end_of_rest (beside Add (address_of (place character 1)) (number 1))) ∷ [])) ∷ [])

-- unsigned char *f(int n, ...) { return __va_rest; } int main(void) { return *(f(0, 1) - 1); }
abbrev pub further_left : ProgramTy
further_left =
    let giving : Fn = takes_more (integer ∷ []) (pointer_to character) in
    program_of (local integer ∷ []) (main_of (give (as_type integer (value_of (at character (beside Sub (call_as 1 giving (pointer_to character) (number 0 ∷ number 1 ∷ [])) (number 1)))))) ∷ defined giving (0 ∷ []) (give end_of_rest) ∷ [])
