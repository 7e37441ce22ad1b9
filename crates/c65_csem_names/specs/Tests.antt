-- Tests of scopes, where each object is marked that is in scope, of initial values and of types.
use Rattle.std.specs.Prelude.{ℕ, List, [], ◌∷◌, Bool, true, false, not, ◌||◌, ◌&&◌, Option, Some, None, slice_get, slice_set, get_or, length, replicate, nat_lt, nat_le, ◌==◌, if◌then◌else◌}
use Rattle.c65_ctype.specs.Trees.{type_in, Fn}
use Rattle.c65_csem.specs.declared.items.Cell.{Cell}
use Rattle.c65_csem.specs.declared.items.Cell.TheVariants.{Byte, Piece}
use Rattle.c65_base.specs.declared.library.Library.{Library}
use Rattle.c65_csem.specs.declared.items.Target.{Target}
use Rattle.c65_csem.specs.declared.items.Target.TheVariants as T
use Rattle.c65_csem.specs.Library.{library_type}
use Rattle.c65_csem.specs.Places.{is_automatic}
use Rattle.c65_csem.specs.Trees.{Typed, node, Node, constant, null, literal, object, func, deref, member, load, address, decay, convert, unary, binary, both, either, choice, comma, assign, assign_op, assign_step, step, copy, call, pack, spill, rest, Nodes, none, some, Stmt, empty, eval, set_part, clear, block, if_stmt, while, do_while, for_loop, switch, case, default, label, goto, break, continue, return, Stmts, no_stmts, and_stmts, MaybeTyped, absent, present, ObjectTy, FuncTy, UnitTy}
use Rattle.c65_csem.specs.Typed.{result_of}
use Rattle.c65_csem_check.specs.Kinds.{same_fn}
use Rattle.c65_csem_names.specs.Initial.{first_pieces, second_pieces}
use Rattle.c65_csem_names.specs.Programs.{is_int, is_pointer, has_type}
use Rattle.c65_csem_names.specs.Scopes.{is_variadic}
use Rattle.c65_meaning.specs.Shapes.{object_in, lives_in_frame}

abbrev pub mark_in : Option Bool → Bool
mark_in None = false
mark_in (Some mark) = mark

abbrev pub is_marked : List Bool → ℕ → Bool
is_marked marks i = mark_in (slice_get marks i)

abbrev pub mark_out : Option Bool → Bool
mark_out None = false
mark_out (Some mark) = not mark

abbrev pub is_unmarked : List Bool → ℕ → Bool
is_unmarked marks i = mark_out (slice_get marks i)

abbrev pub is_lasting : Option ObjectTy → Bool
is_lasting None = false
is_lasting (Some o) = not (is_automatic o.class)

abbrev pub is_first : Cell → Bool
is_first (Byte b) = false
is_first (Piece target offset part) = part == 0

abbrev pub is_second : Cell → Bool
is_second (Byte b) = false
is_second (Piece target offset part) = not (part == 0)

-- the marks in a block with these objects, and behind it, where these objects were not marked before it
abbrev pub entered : List ℕ → List Bool → List Bool
entered [] marks = marks
entered (i ∷ is) marks = entered is (slice_set marks i true)

abbrev pub left : List ℕ → List Bool → List Bool
left [] marks = marks
left (i ∷ is) marks = slice_set (left is marks) i false

module _ (u : UnitTy) where
  abbrev pub is_in_scope : List Bool → ℕ → Bool
  is_in_scope s i = not (lives_in_frame (object_in u i)) || is_marked s i

  module _ (variadic : Bool) where
    abbrev mutual
      pub is_scoped_in : List Bool → Typed → Bool
      is_scoped_in s (node t e) = is_scoped_node s e

      pub is_scoped_node : List Bool → Node → Bool
      is_scoped_node s (constant z) = true
      is_scoped_node s null = true
      is_scoped_node s (literal l) = true
      is_scoped_node s (object i) = is_in_scope s i
      is_scoped_node s (func f) = true
      is_scoped_node s (deref a) = is_scoped_in s a
      is_scoped_node s (member a m) = is_scoped_in s a
      is_scoped_node s (load a) = is_scoped_in s a
      is_scoped_node s (address a) = is_scoped_in s a
      is_scoped_node s (decay a) = is_scoped_in s a
      is_scoped_node s (convert a) = is_scoped_in s a
      is_scoped_node s (unary op a) = is_scoped_in s a
      is_scoped_node s (binary op a b) = is_scoped_in s a && is_scoped_in s b
      is_scoped_node s (both a b) = is_scoped_in s a && is_scoped_in s b
      is_scoped_node s (either a b) = is_scoped_in s a && is_scoped_in s b
      is_scoped_node s (choice d a b) = is_scoped_in s d && is_scoped_in s a && is_scoped_in s b
      is_scoped_node s (comma a b) = is_scoped_in s a && is_scoped_in s b
      is_scoped_node s (assign a b) = is_scoped_in s a && is_scoped_in s b
      is_scoped_node s (assign_op op k a b) = is_scoped_in s a && is_scoped_in s b
      is_scoped_node s (assign_step op a b) = is_scoped_in s a && is_scoped_in s b
      is_scoped_node s (step kind a) = is_scoped_in s a
      is_scoped_node s (copy a b) = is_scoped_in s a && is_scoped_in s b
      is_scoped_node s (call f es) = is_scoped_in s f && are_scoped_in s es
      is_scoped_node s (pack a) = is_scoped_in s a
      is_scoped_node s (spill i a) = is_in_scope s i && is_scoped_in s a
      is_scoped_node s rest = variadic

      pub are_scoped_in : List Bool → Nodes → Bool
      are_scoped_in s none = true
      are_scoped_in s (some e es) = if is_scoped_in s e then are_scoped_in s es else false

    abbrev pub is_scoped_maybe : List Bool → MaybeTyped → Bool
    is_scoped_maybe s absent = true
    is_scoped_maybe s (present e) = is_scoped_in s e

    abbrev mutual
      pub is_scoped : List Bool → Stmt → Bool
      is_scoped s empty = true
      is_scoped s (eval e) = is_scoped_in s e
      is_scoped s (set_part i o e) = is_in_scope s i && is_scoped_in s e
      is_scoped s (clear i) = is_in_scope s i
      is_scoped s (block objects ss) = are_scoped (entered objects s) ss
      is_scoped s (if_stmt e a b) = is_scoped_in s e && is_scoped s a && is_scoped s b
      is_scoped s (while e a) = is_scoped_in s e && is_scoped s a
      is_scoped s (do_while a e) = is_scoped s a && is_scoped_in s e
      is_scoped s (for_loop i t n a) = is_scoped_maybe s i && is_scoped_maybe s t && is_scoped_maybe s n && is_scoped s a
      is_scoped s (switch e a) = is_scoped_in s e && is_scoped s a
      is_scoped s (case z a) = is_scoped s a
      is_scoped s (default a) = is_scoped s a
      is_scoped s (label l a) = is_scoped s a
      is_scoped s (goto l) = true
      is_scoped s break = true
      is_scoped s continue = true
      is_scoped s (return e) = is_scoped_maybe s e

      pub are_scoped : List Bool → Stmts → Bool
      are_scoped s no_stmts = true
      are_scoped s (and_stmts a ss) = if is_scoped s a then are_scoped s ss else false

  abbrev pub is_scoped_body : Bool → List Bool → List ℕ → Option Stmt → Bool
  is_scoped_body variadic s params None = true
  is_scoped_body variadic s params (Some body) = is_scoped variadic (entered params s) body

  abbrev pub is_scoped_func : List Bool → FuncTy → Bool
  is_scoped_func s f = is_scoped_body (is_variadic f.ty) s f.params f.body

  abbrev pub are_scoped_funcs : List Bool → List FuncTy → Bool
  are_scoped_funcs s [] = true
  are_scoped_funcs s (f ∷ fs) = if is_scoped_func s f then are_scoped_funcs s fs else false

  abbrev pub are_scoped_bodies : Bool
  are_scoped_bodies = are_scoped_funcs (replicate (length u.objects) false) u.funcs

  -- ---- initial values

  abbrev pub is_of_whole_run : Target → Bool
  is_of_whole_run (T.Object i) = is_lasting (object_in u i)
  is_of_whole_run (T.Literal l) = nat_lt l (length u.literals)
  is_of_whole_run (T.Func f) = nat_lt f (length u.funcs)

  abbrev pub points_to_whole_run : Cell → Bool
  points_to_whole_run (Byte b) = true
  points_to_whole_run (Piece target offset part) = is_of_whole_run target

  abbrev pub point_to_whole_run : List Cell → Bool
  point_to_whole_run [] = true
  point_to_whole_run (x ∷ xs) = if points_to_whole_run x then point_to_whole_run xs else false

  abbrev pub is_whole : Option (List Cell) → Bool
  is_whole None = true
  is_whole (Some cells) = point_to_whole_run cells && nat_le (length cells) 65535 && nat_le (first_pieces cells) (second_pieces cells)

  abbrev pub begins_well : ObjectTy → Bool
  begins_well o = is_whole o.init

  abbrev pub begin_well : List ObjectTy → Bool
  begin_well [] = true
  begin_well (o ∷ os) = if begins_well o then begin_well os else false

-- ---- types

abbrev pub is_typed_if : Bool → Option Library → Fn → Bool
is_typed_if is_signed None f = true
is_typed_if is_signed (Some l) f = same_fn f (library_type is_signed l)

abbrev pub has_library_type : Bool → FuncTy → Bool
has_library_type is_signed f = is_typed_if is_signed f.library f.ty

abbrev pub have_types_where : Bool → List FuncTy → Bool
have_types_where is_signed [] = true
have_types_where is_signed (f ∷ fs) = if has_library_type is_signed f then have_types_where is_signed fs else false

abbrev pub have_library_types : List FuncTy → Bool
have_library_types fs = have_types_where false fs || have_types_where true fs

module _ (u : UnitTy) where
  abbrev pub has_words : ℕ → ℕ → Bool
  has_words i j = has_type is_int (object_in u i) && has_type is_pointer (object_in u j)

  abbrev pub takes_arguments : List ℕ → Bool
  takes_arguments params = length params == 0 || length params == 2 && has_words (get_or params 0 0) (get_or params 1 0)

  abbrev pub starts : Option FuncTy → Bool
  starts None = false
  starts (Some f) = takes_arguments f.params && is_int (type_in (result_of f.ty))

  abbrev pub is_scoped_program : ℕ → Bool
  is_scoped_program main = if begin_well u u.objects && starts (slice_get u.funcs main) && have_library_types u.funcs then are_scoped_bodies u else false
