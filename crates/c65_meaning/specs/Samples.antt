-- Small programs that end by themselves.
use Rattle.std.specs.Prelude.{ℕ, pos, List, [], ◌∷◌}
use Rattle.c65_base.specs.declared.operators.BinaryOp.TheVariants.{Add, Sub, Mul, Lt, Shr}
use Rattle.c65_base.specs.declared.operators.StepKind.TheVariants.{PreInc, PostInc}
use Rattle.c65_ints.specs.declared.types.IntType.TheVariants as I
use Rattle.c65_base.specs.declared.library.Library.TheVariants as L
use Rattle.c65_ctype.specs.Trees.{int, QTy, Fn}
use Rattle.c65_csem.specs.Trees.{Typed, node, constant, literal, assign_op, assign_step, copy, Stmt, eval, while, for_loop, switch, case, default, label, goto, break, if_stmt, empty, present, ObjectTy, FuncTy}
use Rattle.c65_csem.specs.Places.{plain}
use Rattle.c65_meaning.specs.Program.{ProgramTy}
use Rattle.c65_meaning.specs.Building.{integer, unsigned, character, structure, pointer_to, array_of, takes, takes_more, member_as, byte_member, bits_at, bit_field, structure_of, one_structure, no_types, number, below_zero, place, value_of, address_of, value, at, first_of, as_type, member_of, with, beside, store, change, call_as, pack_of, held_in, end_of_rest, byte_of, scope, give, initial, local, unnamed, fixed, static, defined, provided, main_of, program_with, program_of}

-- int main(void) { int a = -32767-1; return a < 1; }
abbrev pub least_below_one : ProgramTy
least_below_one = program_of (local integer ∷ []) (main_of (scope (0 ∷ []) (initial 0 (below_zero 32767) ∷ give (with Lt (value 0) (number 1)) ∷ [])) ∷ [])

-- int main(void) { int i = 0; while (i < 3) i++; return i; }
abbrev pub counting_loop : ProgramTy
counting_loop = program_of (local integer ∷ []) (main_of (scope (0 ∷ []) (initial 0 (number 0) ∷ while (with Lt (value 0) (number 3)) (eval (change PostInc 0)) ∷ give (value 0) ∷ [])) ∷ [])

-- int f(int a, int b) { return a * 10 + b; } int main(void) { int i = 1; return f(i++, i); }
abbrev pub arguments_in_order : ProgramTy
arguments_in_order = program_of (local integer ∷ local integer ∷ local integer ∷ []) (main_of (scope (2 ∷ []) (initial 2 (number 1) ∷ give (call_as 1 (takes (integer ∷ integer ∷ []) integer) integer (change PostInc 2 ∷ value 2 ∷ [])) ∷ [])) ∷ defined (takes (integer ∷ integer ∷ []) integer) (0 ∷ 1 ∷ []) (give (with Add (with Mul (value 0) (number 10)) (value 1))) ∷ [])

-- static int i; int inc(void) { return i = i + 1; } int main(void) { return i + inc(); }
abbrev pub left_before_call : ProgramTy
left_before_call = program_of (static integer ∷ []) (main_of (give (with Add (value 0) (call_as 1 (takes [] integer) integer []))) ∷ defined (takes [] integer) [] (give (store (place integer 0) (with Add (value 0) (number 1)))) ∷ [])

-- int main(void) { return -8 >> 1 < 0; }
abbrev pub negative_shifted : ProgramTy
negative_shifted = program_of [] (main_of (give (with Lt (with Shr (below_zero 7) (number 1)) (number 0))) ∷ [])

-- int main(void) { struct { unsigned a : 3, b : 6; } s; s.b = 70; return s.M; }
abbrev pub bit_fields : ℕ → ProgramTy
bit_fields m = program_with (one_structure (bit_field 0 3 ∷ bit_field 3 6 ∷ [])) [] (local structure ∷ []) (main_of (scope (0 ∷ []) (eval (store (member_of unsigned (place structure 0) 1) (as_type unsigned (number 70))) ∷ give (as_type integer (value_of (member_of unsigned (place structure 0) m))) ∷ [])) ∷ [])

-- int main(void) { struct { unsigned char a, b; } s, t; s.a = 7; t = s; return t.M; }
abbrev pub structure_copied : ℕ → ProgramTy
structure_copied m = program_with (one_structure (byte_member 0 ∷ byte_member 1 ∷ [])) [] (local structure ∷ local structure ∷ []) (main_of (scope (0 ∷ 1 ∷ []) (eval (store (member_of character (place structure 0) 0) (as_type character (number 7))) ∷ eval (node structure (copy (place structure 1) (place structure 0))) ∷ give (as_type integer (value_of (member_of character (place structure 1) m))) ∷ [])) ∷ [])

abbrev pub add_to : ℕ → Typed → Stmt
add_to i e = eval (node integer (assign_op Add I.Int (place integer i) e))

-- int main(void) { int i, n = 0; for (i = 0; i < 4; i++) switch (i) { case 1: n += 10; case 2: n += 1; break; default: n += 100; } return n; }
abbrev pub switch_in_loop : ProgramTy
switch_in_loop = program_of (local integer ∷ local integer ∷ []) (main_of (scope (0 ∷ 1 ∷ []) (initial 1 (number 0) ∷ for_loop (present (store (place integer 0) (number 0))) (present (with Lt (value 0) (number 4))) (present (change PostInc 0)) (switch (value 0) (scope [] (case (pos 1) (add_to 1 (number 10)) ∷ case (pos 2) (add_to 1 (number 1)) ∷ break ∷ default (add_to 1 (number 100)) ∷ []))) ∷ give (value 1) ∷ [])) ∷ [])

-- int main(void) { int i = 0; again: ++i; if (i < 3) goto again; goto out; out: return i; }
abbrev pub jumps_both_ways : ProgramTy
jumps_both_ways = program_of (local integer ∷ []) (main_of (scope (0 ∷ []) (initial 0 (number 0) ∷ label 0 (eval (change PreInc 0)) ∷ if_stmt (with Lt (value 0) (number 3)) (goto 0) empty ∷ goto 1 ∷ label 1 (give (value 0)) ∷ [])) ∷ [])

-- int main(int argc, char **argv) { return argv[1][0]; }
abbrev pub second_argument : ProgramTy
second_argument = program_of (local integer ∷ local (pointer_to (pointer_to character)) ∷ []) (defined (takes (integer ∷ pointer_to (pointer_to character) ∷ []) integer) (0 ∷ 1 ∷ []) (give (as_type integer (value_of (at character (value_of (at (pointer_to character) (beside Add (value_of (place (pointer_to (pointer_to character)) 1)) (number 1)))))))) ∷ [])

-- literal l, of three bytes, as a pointer to its first
abbrev pub text : ℕ → Typed
text l = first_of character (node (array_of 3 character) (literal l))

-- int main(void) { return puts("hi") + strcmp("ab", "ad"); }
abbrev pub library_calls : ProgramTy
library_calls = program_with no_types ((104 ∷ 105 ∷ []) ∷ (97 ∷ 98 ∷ []) ∷ (97 ∷ 100 ∷ []) ∷ []) (local (pointer_to character) ∷ local (pointer_to character) ∷ []) (main_of (give (with Add (call_as 1 (takes (pointer_to character ∷ []) integer) integer (text 0 ∷ [])) (call_as 2 (takes (pointer_to character ∷ pointer_to character ∷ []) integer) integer (text 1 ∷ text 2 ∷ [])))) ∷ provided (takes (pointer_to character ∷ []) integer) (0 ∷ []) L.Puts ∷ provided (takes (pointer_to character ∷ pointer_to character ∷ []) integer) (0 ∷ 1 ∷ []) L.Strcmp ∷ [])

-- int main(void) { char a[3000]; return 7; }, where `a` has one place for the whole run
abbrev pub large_object : ProgramTy
large_object = program_of (fixed (array_of 3000 character) ∷ []) (main_of (scope (0 ∷ []) (give (number 7) ∷ [])) ∷ [])

-- ---- structures as arguments and results

-- int f(struct s x) { return *x.p + x.M; } int main(void) { char c = 7; struct s y; y.p = &c; y.b = 5; return f(y); }, of
-- struct s { char *p; unsigned a : 3, b : 6; }
abbrev pub structure_passed : ℕ → ProgramTy
structure_passed m =
    let of_structure : Fn = takes (structure ∷ []) integer in
    let sum : Typed = with Add (as_type integer (value_of (at character (value_of (member_of (pointer_to character) (place structure 0) 0))))) (as_type integer (value_of (member_of unsigned (place structure 0) m))) in
    program_with (structure_of 4 (member_as (pointer_to character) 0 ∷ bits_at 2 0 3 ∷ bits_at 2 3 6 ∷ [])) [] (local structure ∷ local character ∷ local structure ∷ [])
    (main_of (scope (1 ∷ 2 ∷ []) (initial 1 (as_type character (number 7)) ∷ eval (store (member_of (pointer_to character) (place structure 2) 0) (address_of (place character 1))) ∷ eval (store (member_of unsigned (place structure 2) 2) (as_type unsigned (number 5))) ∷ give (call_as 1 of_structure integer (pack_of (place structure 2) ∷ [])) ∷ []))
    ∷ defined of_structure (0 ∷ []) (give sum) ∷ [])

-- r.M = e, where `struct s r` is object 1
abbrev pub set_member : ℕ → Typed → Stmt
set_member m e = eval (store (member_of character (place structure 1) m) e)

-- struct s mk(char n) { struct s r; r.a = 1; r.b = n; r.c = 40; return r; }, of struct s { char a, b, c; }
abbrev pub maker : FuncTy
maker = defined (takes (character ∷ []) structure) (0 ∷ []) (scope (1 ∷ []) (set_member 0 (as_type character (number 1)) ∷ set_member 1 (value_of (place character 0)) ∷ set_member 2 (as_type character (number 40)) ∷ give (pack_of (place structure 1)) ∷ []))

-- mk(n), in object i
abbrev pub made : ℕ → ℕ → Typed
made i n = held_in i (call_as 1 (takes (character ∷ []) structure) structure (as_type character (number n) ∷ []))

-- int get(struct s x) { return x.c - x.a + x.b; } int main(void) { return get(mk(3)) + mk(5).b; }
abbrev pub structure_returned : ProgramTy
structure_returned =
    let getter : Fn = takes (structure ∷ []) integer in
    let x : Typed = place structure 2 in
    program_with (structure_of 3 (byte_member 0 ∷ byte_member 1 ∷ byte_member 2 ∷ [])) [] (local character ∷ local structure ∷ local structure ∷ unnamed structure ∷ unnamed structure ∷ [])
    (main_of (scope (3 ∷ 4 ∷ []) (give (with Add (call_as 2 getter integer (pack_of (made 3 3) ∷ [])) (byte_of (made 4 5) 1)) ∷ []))
    ∷ maker ∷ defined getter (2 ∷ []) (give (with Add (with Sub (byte_of x 2) (byte_of x 0)) (byte_of x 1))) ∷ [])

-- ---- further arguments

abbrev pub long : QTy
long = plain (int I.Long)

-- p -= n, where `unsigned char *p` is object 1
abbrev pub lowered : ℕ → Typed
lowered n = node (pointer_to character) (assign_step Sub (place (pointer_to character) 1) (number n))

-- *(T *)(p -= n)
abbrev pub drawn : QTy → ℕ → Typed
drawn t n = value_of (at t (as_type (pointer_to t) (lowered n)))

-- int f(int n, ...)
abbrev pub taking_more : Fn
taking_more = takes_more (integer ∷ []) integer

-- f with the body of block objects and statements behind `unsigned char *p = __va_rest;`, and `int main(void) { return f(0, ARGUMENTS); }`
abbrev pub calling_with : List Typed → List ObjectTy → List ℕ → List Stmt → ProgramTy
calling_with args others objects ss =
    program_of (local integer ∷ local (pointer_to character) ∷ others)
    (main_of (give (call_as 1 taking_more integer (number 0 ∷ args)))
    ∷ defined taking_more (0 ∷ []) (scope (1 ∷ objects) (initial 1 end_of_rest ∷ ss)) ∷ [])

-- int a = *(int *)(p -= 2); return a - (int)*(long *)(p -= 4);, of f(0, 50, 8L)
abbrev pub further_read : ProgramTy
further_read = calling_with (number 50 ∷ node long (constant (pos 8)) ∷ []) (local integer ∷ []) (2 ∷ []) (initial 2 (drawn integer 2) ∷ give (with Sub (value 2) (as_type integer (drawn long 4))) ∷ [])
