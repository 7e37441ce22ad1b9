-- What active calls cost on the two stacks, read off the source alone.
use Rattle.std.specs.Prelude.{ℕ, suc, ◌+◌, ◌*◌, ◌||◌, Bool, false, if◌then◌else◌, List, [], ◌∷◌, length, Option}
use Rattle.c65_ctype.specs.Trees.{Ty, TypesTy}
use Rattle.c65_ctype.specs.Sizes.{size_of}
use Rattle.c65_csem.specs.Trees.{Stmt, block, if_stmt, while, do_while, for_loop, switch, case, default, label, Stmts, no_stmts, and_stmts, UnitTy, ObjectTy}
use Rattle.c65_csem.specs.Places.{is_fixed_object}
use Rattle.c65_csem_need.specs.Needs.{greatest_need}
use Rattle.c65_meaning.specs.Shapes.{object_size, object_in}

-- the bytes that an object takes of the stack: none where it has one place for the whole run
abbrev pub framed_size : TypesTy → Option ObjectTy → ℕ
framed_size types o = if is_fixed_object o then 0 else object_size types o

module _ (u : UnitTy) where
  abbrev pub bytes_of_objects : List ℕ → ℕ
  bytes_of_objects [] = 0
  bytes_of_objects (i ∷ rest) = framed_size u.types (object_in u i) + bytes_of_objects rest

  abbrev mutual
    -- the bytes of all objects of the blocks in a statement
    pub local_bytes : Stmt → ℕ
    local_bytes (block objs ss) = bytes_of_objects objs + all_local_bytes ss
    local_bytes (if_stmt e a b) = local_bytes a + local_bytes b
    local_bytes (while e s) = local_bytes s
    local_bytes (do_while s e) = local_bytes s
    local_bytes (for_loop i c x s) = local_bytes s
    local_bytes (switch e s) = local_bytes s
    local_bytes (case v s) = local_bytes s
    local_bytes (default s) = local_bytes s
    local_bytes (label l s) = local_bytes s
    local_bytes _ = 0

    pub all_local_bytes : Stmts → ℕ
    all_local_bytes no_stmts = 0
    all_local_bytes (and_stmts s rest) = local_bytes s + all_local_bytes rest

  abbrev pub any_fixed : List ℕ → Bool
  any_fixed [] = false
  any_fixed (i ∷ rest) = is_fixed_object (object_in u i) || any_fixed rest

  abbrev mutual
    -- whether an object of a block in a statement has one place for the whole run
    pub has_fixed : Stmt → Bool
    has_fixed (block objs ss) = any_fixed objs || any_has_fixed ss
    has_fixed (if_stmt e a b) = has_fixed a || has_fixed b
    has_fixed (while e s) = has_fixed s
    has_fixed (do_while s e) = has_fixed s
    has_fixed (for_loop i c x s) = has_fixed s
    has_fixed (switch e s) = has_fixed s
    has_fixed (case v s) = has_fixed s
    has_fixed (default s) = has_fixed s
    has_fixed (label l s) = has_fixed s
    has_fixed _ = false

    pub any_has_fixed : Stmts → Bool
    any_has_fixed no_stmts = false
    any_has_fixed (and_stmts s rest) = has_fixed s || any_has_fixed rest

  -- the bytes of arguments of these types
  abbrev pub argument_bytes : List Ty → ℕ
  argument_bytes [] = 0
  argument_bytes (t ∷ rest) = size_of u.types t + argument_bytes rest

  -- of one active call, which was passed so many bytes
  abbrev pub soft_cost : ℕ → Stmt → ℕ
  soft_cost passed body = passed + local_bytes body + 6 + 8 * greatest_need body

-- of the program's own arguments: each with its closing zero, and the list of their places with its closing null
abbrev pub text_bytes : List (List ℕ) → ℕ
text_bytes [] = 0
text_bytes (a ∷ rest) = suc (length a) + text_bytes rest

abbrev pub arguments_bytes : List (List ℕ) → ℕ
arguments_bytes args = text_bytes args + 2 * suc (length args)
