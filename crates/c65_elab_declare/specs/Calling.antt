-- The words `__fastcall__` and `__cdecl__` of a declarator, and the place of its name.
use Rattle.std.specs.Prelude.{Bool, true, false, Option, Some, None, Result, Ok, Err, if◌then◌else◌}
use Rattle.c65_base.specs.declared.code.Code.TheVariants.{Specifiers}
use Rattle.c65_base.specs.declared.refusal.Pos.{Pos}
use Rattle.c65_base.specs.Answers.{Fault, at}
use Rattle.c65_ctype.specs.Compatible.{same_bool}
use Rattle.c65_tree.specs.Trees.{DeclaratorTree, nameless, named, grouped, calling, pointer, array, function}

abbrev pub has_function : DeclaratorTree → Bool
has_function (nameless p) = false
has_function (named p n) = false
has_function (grouped p d) = has_function d
has_function (calling p cdecl d) = has_function d
has_function (pointer p c v d) = has_function d
has_function (array p d n) = has_function d
has_function (function p d ps) = true

-- the first word in the source: whether it is `__cdecl__`, and its place
abbrev pub first_word : DeclaratorTree → Option (Bool × Pos)
first_word (nameless p) = None
first_word (named p n) = None
first_word (grouped p d) = first_word d
first_word (calling p cdecl d) = Some (cdecl, p)
first_word (pointer p c v d) = first_word d
first_word (array p d n) = first_word d
first_word (function p d ps) = first_word d

-- the place of the first word that is another one
abbrev pub other_word : DeclaratorTree → Bool → Option Pos
other_word (nameless p) w = None
other_word (named p n) w = None
other_word (grouped p d) w = other_word d w
other_word (calling p cdecl d) w = if same_bool cdecl w then other_word d w else Some p
other_word (pointer p c v d) w = other_word d w
other_word (array p d n) w = other_word d w
other_word (function p d ps) w = other_word d w

abbrev pub agreed : Bool → Option Pos → Result Bool Fault
agreed cdecl None = Ok cdecl
agreed cdecl (Some p) = Err (at Specifiers p)

-- a word needs a function part, and no other word beside it
abbrev pub word_in : DeclaratorTree → Option (Bool × Pos) → Result Bool Fault
word_in d None = Ok false
word_in d (Some w) = if has_function d then agreed w.0 (other_word d w.0) else Err (at Specifiers w.1)

abbrev pub is_cdecl : DeclaratorTree → Result Bool Fault
is_cdecl d = word_in d (first_word d)

-- the place of the name, or of where it would stand
abbrev pub name_place : DeclaratorTree → Pos
name_place (nameless p) = p
name_place (named p n) = p
name_place (grouped p d) = name_place d
name_place (calling p cdecl d) = name_place d
name_place (pointer p c v d) = name_place d
name_place (array p d n) = name_place d
name_place (function p d ps) = name_place d
