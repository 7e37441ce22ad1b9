-- The value of a scalar, and the string literal of an array of characters (C90 6.5.7).
use Rattle.std.specs.Prelude.{ℕ, List, [], ◌∷◌, Bool, true, false, ◌||◌, Option, Some, None, is_some, Result, Ok, Err, if◌then◌else◌}
use Rattle.c65_base.specs.declared.code.Code.TheVariants.{Initialiser}
use Rattle.c65_base.specs.declared.refusal.Pos.{Pos}
use Rattle.c65_base.specs.Answers.{Fault, at}
use Rattle.c65_ints.specs.declared.types.IntType.TheVariants.{SChar, UChar}
use Rattle.c65_ctype.specs.Trees.{Ty, int, array, tag, QTy, qual}
use Rattle.c65_tree.specs.Trees.{ExprTree, text, InitTree, value, list}
use Rattle.c65_init_cells.specs.Items.{items_of, place_of}

-- ---- scalars

abbrev pub item_value : InitTree → Result ExprTree Fault
item_value (value p e) = Ok e
item_value (list p is) = Err (at Initialiser p)

abbrev pub only_value : Pos → List InitTree → Result ExprTree Fault
only_value p [] = Err (at Initialiser p)
only_value p (i ∷ []) = item_value i
only_value p (i ∷ j ∷ is) = Err (at Initialiser (place_of j))

-- one expression, with or without braces
abbrev pub scalar_value : InitTree → Result ExprTree Fault
scalar_value (value p e) = Ok e
scalar_value (list p is) = only_value p (items_of is)

-- ---- arrays of characters

abbrev pub text_of : ExprTree → Option (List ℕ)
text_of (text p bytes) = Some bytes
text_of _ = None

abbrev pub item_text : InitTree → Option (List ℕ)
item_text (value p e) = text_of e
item_text (list p is) = None

abbrev pub only_text : List InitTree → Option (List ℕ)
only_text [] = None
only_text (i ∷ []) = item_text i
only_text (i ∷ j ∷ is) = None

-- one string literal, with or without braces
abbrev pub init_text : InitTree → Option (List ℕ)
init_text (value p e) = text_of e
init_text (list p is) = only_text (items_of is)

abbrev pub is_char : Ty → Bool
is_char (int SChar) = true
is_char (int UChar) = true
is_char _ = false

abbrev pub text_for : Ty → InitTree → Option (List ℕ)
text_for (array (qual t c v) n) i = if is_char t then init_text i else None
text_for _ i = None

-- ---- items

abbrev pub is_list : InitTree → Bool
is_list (value p e) = false
is_list (list p is) = true

-- a part that takes one item: a scalar, a list in braces, or a string literal for characters; an
-- array, a structure or a union takes items for its own parts otherwise
abbrev pub takes_whole : Ty → InitTree → Bool
takes_whole (array q n) i = is_list i || is_some (text_for (array q n) i)
takes_whole (tag n) i = is_list i
takes_whole _ i = true
