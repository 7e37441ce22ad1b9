-- Which of two operands takes the type of the other one (C90 6.3.9, 6.3.15).
use Rattle.std.specs.Prelude.{Bool, true, false, if◌then◌else◌}
use Rattle.c65_ctype.specs.Trees.{Ty, int, pointer, QTy, type_in, TypesTy}
use Rattle.c65_csem.specs.Trees.{Typed, type_of}
use Rattle.c65_csem.specs.Places.{is_void}
use Rattle.c65_elab_convert.specs.declared.pairs.Match.{Match}
use Rattle.c65_elab_convert.specs.declared.pairs.Match.TheVariants.{Both, Left, Right, Neither}
use Rattle.c65_elab_convert.specs.Pointers.{agree, is_null, meet_in_void}

-- one points to void: the other becomes a pointer to void
abbrev pub match_in_void : QTy → QTy → Match
match_in_void q r = if meet_in_void q r then (if is_void (type_in q) then Right else Left) else Neither

-- pointers to compatible types stay, and a null pointer constant takes the type of the other operand
abbrev pub match_by : TypesTy → Ty → Ty → Typed → Typed → Match
match_by types (pointer q) (pointer r) a b = if agree types q r then Both else if is_null a then Left else if is_null b then Right else match_in_void q r
match_by types (pointer q) (int k) a b = if is_null b then Right else Neither
match_by types (int j) (pointer r) a b = if is_null a then Left else Neither
match_by types _ _ a b = Neither

abbrev pub match_of : TypesTy → Typed → Typed → Match
match_of types a b = match_by types (type_in (type_of a)) (type_in (type_of b)) a b
