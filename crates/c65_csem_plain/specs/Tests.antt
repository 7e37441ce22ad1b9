-- Tests of what a program made from source meets.
use Rattle.std.specs.Prelude.{ℕ, ◌+◌, ◌^◌, ℤ, Bool, true, false, not, ◌||◌, ◌&&◌, ◌==◌, List, [], ◌∷◌, ◌++◌, length, Option, Some, None, is_some, slice_get, nat_lt, nat_le, nat_eq, bytes_eq, codes, if◌then◌else◌}
use Rattle.std.specs.List.{list_any}
use Rattle.c65_base.specs.declared.names.Name.{Name}
use Rattle.c65_base.specs.declared.library.Library.{Library}
use Rattle.c65_base.specs.declared.operators.BinaryOp.{BinaryOp}
use Rattle.c65_base.specs.declared.operators.BinaryOp.TheVariants.{Add, Sub}
use Rattle.c65_base.specs.Library.{library_name}
use Rattle.c65_base.specs.Limits.{limit_of}
use Rattle.c65_base.specs.declared.refusal.Size.TheVariants as sizes
use Rattle.c65_ctype.specs.Trees.{Ty, pointer, tag, type_in, Fn, fn, MemberTy, LayoutTy, TypesTy}
use Rattle.c65_ctype.specs.Layouts.{is_bit_type}
use Rattle.c65_ctype.specs.Tables.{layout_at}
use Rattle.c65_csem.specs.declared.items.Cell.{Cell}
use Rattle.c65_csem.specs.declared.items.Cell.TheVariants.{Byte, Piece}
use Rattle.c65_csem.specs.declared.items.Target.{Target}
use Rattle.c65_csem.specs.declared.items.Target.TheVariants as T
use Rattle.c65_csem.specs.Library.{library_at}
use Rattle.c65_csem.specs.Places.{is_scalar, is_tag}
use Rattle.c65_csem.specs.Statements.{labels_of}
use Rattle.c65_csem.specs.Trees.{Typed, node, Node, constant, null, literal, object, func, deref, member, load, address, decay, convert, unary, binary, both, either, choice, comma, assign, assign_op, assign_step, step, copy, call, pack, spill, rest, Nodes, none, some, type_of, Stmt, empty, eval, set_part, clear, block, if_stmt, while, do_while, for_loop, switch, case, default, label, goto, break, continue, return, Stmts, no_stmts, and_stmts, MaybeTyped, absent, present, ObjectTy, FuncTy, UnitTy}
use Rattle.c65_csem_check.specs.Statements.{measured, has_number, are_distinct, same_value}
use Rattle.c65_csem_plain.specs.Arms.{has_few_arms}
use Rattle.c65_csem_plain.specs.Body.{objects_of}
use Rattle.c65_csem_plain.specs.Plain.{is_external, all_own_objects}
use Rattle.c65_csem_plain.specs.declared.initial.Awaited.{Awaited}
use Rattle.c65_csem_plain.specs.declared.initial.Awaited.TheVariants.{Any, High, Never}

-- ---- lists

-- no number comes twice, and none that came before
abbrev pub come_once : List ℕ → List ℕ → Bool
come_once seen [] = true
come_once seen (n ∷ ns) = if list_any (nat_eq n) seen then false else come_once (seen ++ n ∷ []) ns

-- ---- types

abbrev pub is_size : Option ℕ → Bool
is_size None = false
is_size (Some n) = nat_le 1 n && nat_le n (limit_of sizes.Object)

abbrev pub ends_within : ℕ → Option ℕ → ℕ → Bool
ends_within offset None size = false
ends_within offset (Some n) size = nat_le (offset + n) size

abbrev pub is_bit_field : ℕ → MemberTy → ℕ → ℕ → Bool
is_bit_field size m low width = is_bit_type (type_in m.ty) && nat_le 1 width && nat_le (low + width) 16 && nat_le (m.offset + 2) size

module _ (types : TypesTy) where
  abbrev pub has_bytes : Ty → Bool
  has_bytes t = is_size (measured types t)

  abbrev pub has_step : Ty → Bool
  has_step (pointer q) = has_bytes (type_in q)
  has_step _ = true

  abbrev pub has_steps : BinaryOp → Ty → Ty → Bool
  has_steps Add t s = has_step t && has_step s
  has_steps Sub t s = has_step t && has_step s
  has_steps _ t s = true

  abbrev pub is_whole_member : ℕ → MemberTy → Bool
  is_whole_member size m = has_bytes (type_in m.ty) && ends_within m.offset (measured types (type_in m.ty)) size

  abbrev pub lies : ℕ → MemberTy → Option (ℕ × ℕ) → Bool
  lies size m None = is_whole_member size m
  lies size m (Some bits) = is_bit_field size m bits.0 bits.1

  abbrev pub member_lies : ℕ → Option MemberTy → Bool
  member_lies size None = false
  member_lies size (Some m) = lies size m m.bits

  abbrev pub lies_in_layout : ℕ → Option LayoutTy → Bool
  lies_in_layout m None = false
  lies_in_layout m (Some l) = member_lies l.size (slice_get l.members m)

  abbrev pub lies_in : ℕ → Ty → Bool
  lies_in m (tag n) = lies_in_layout m (layout_at types n)
  lies_in m _ = false

  -- ---- expressions

  abbrev mutual
    pub is_plain_in : Typed → Bool
    is_plain_in (node t e) = is_plain_node (type_in t) e

    pub is_plain_node : Ty → Node → Bool
    is_plain_node t (constant z) = true
    is_plain_node t null = true
    is_plain_node t (literal l) = true
    is_plain_node t (object i) = true
    is_plain_node t (func f) = true
    is_plain_node t (deref a) = is_plain_in a
    is_plain_node t (member a m) = lies_in m (type_in (type_of a)) && is_plain_in a
    is_plain_node t (load a) = is_plain_in a
    is_plain_node t (address a) = is_plain_in a
    is_plain_node t (decay a) = is_plain_in a
    is_plain_node t (convert a) = is_plain_in a
    is_plain_node t (unary op a) = is_plain_in a
    is_plain_node t (binary op a b) = has_steps op (type_in (type_of a)) (type_in (type_of b)) && is_plain_in a && is_plain_in b
    is_plain_node t (both a b) = is_plain_in a && is_plain_in b
    is_plain_node t (either a b) = is_plain_in a && is_plain_in b
    is_plain_node t (choice d a b) = is_plain_in d && is_plain_in a && is_plain_in b
    is_plain_node t (comma a b) = is_plain_in a && is_plain_in b
    is_plain_node t (assign a b) = is_plain_in a && is_plain_in b
    is_plain_node t (assign_op op k a b) = is_plain_in a && is_plain_in b
    is_plain_node t (assign_step op a b) = has_step t && is_plain_in a && is_plain_in b
    is_plain_node t (step kind a) = has_step t && is_plain_in a
    is_plain_node t (copy a b) = is_plain_in a && is_plain_in b
    is_plain_node t (call f es) = is_plain_in f && are_plain_in es
    is_plain_node t (pack a) = is_plain_in a
    is_plain_node t (spill i a) = is_plain_in a
    is_plain_node t rest = true

    pub are_plain_in : Nodes → Bool
    are_plain_in none = true
    are_plain_in (some e es) = if is_plain_in e then are_plain_in es else false

  abbrev pub is_plain_maybe : MaybeTyped → Bool
  is_plain_maybe absent = true
  is_plain_maybe (present e) = is_plain_in e

-- ---- statements

abbrev pub takes_part : Option ObjectTy → Ty → Bool
takes_part None t = true
takes_part (Some o) t = not (is_tag t) || not (is_scalar (type_in o.ty))

module _ (u : UnitTy) (own : List ℕ) where
  abbrev pub is_plain_set : ℕ → Typed → Bool
  is_plain_set i e = has_number own i && takes_part (slice_get u.objects i) (type_in (type_of e)) && is_plain_in u.types e

  abbrev mutual
    pub is_plain_stmt : Stmt → Bool
    is_plain_stmt empty = true
    is_plain_stmt (eval e) = is_plain_in u.types e
    is_plain_stmt (set_part i o e) = is_plain_set i e
    is_plain_stmt (clear i) = has_number own i
    is_plain_stmt (block os ss) = are_plain_stmts ss
    is_plain_stmt (if_stmt e a b) = is_plain_in u.types e && is_plain_stmt a && is_plain_stmt b
    is_plain_stmt (while e a) = is_plain_in u.types e && is_plain_stmt a
    is_plain_stmt (do_while a e) = is_plain_stmt a && is_plain_in u.types e
    is_plain_stmt (for_loop i t n a) = is_plain_maybe u.types i && is_plain_maybe u.types t && is_plain_maybe u.types n && is_plain_stmt a
    is_plain_stmt (switch e a) = is_plain_in u.types e && is_plain_stmt a
    is_plain_stmt (case z a) = is_plain_stmt a
    is_plain_stmt (default a) = is_plain_stmt a
    is_plain_stmt (label l a) = is_plain_stmt a
    is_plain_stmt (goto l) = true
    is_plain_stmt break = true
    is_plain_stmt continue = true
    is_plain_stmt (return e) = is_plain_maybe u.types e

    pub are_plain_stmts : Stmts → Bool
    are_plain_stmts no_stmts = true
    are_plain_stmts (and_stmts a ss) = if is_plain_stmt a then are_plain_stmts ss else false

abbrev pub are_labels : List ℕ → Bool
are_labels [] = true
are_labels (l ∷ ls) = if nat_lt l 4294967295 then are_labels ls else false

module _ (u : UnitTy) where
  abbrev pub is_plain_body : List ℕ → Stmt → Bool
  is_plain_body params body = are_distinct (params ++ objects_of body) && are_labels (labels_of body) && has_few_arms 0 body && is_plain_stmt u (objects_of body) body

  abbrev pub has_plain_body : List ℕ → Option Stmt → Bool
  has_plain_body params None = true
  has_plain_body params (Some body) = is_plain_body params body

  abbrev pub are_few : Bool
  are_few = nat_le (length u.objects + length u.literals + length u.funcs) (2 ^ 32)

-- ---- initial values

abbrev pub are_bytes : List ℕ → Bool
are_bytes [] = true
are_bytes (b ∷ bs) = if nat_lt b 256 then are_bytes bs else false

abbrev pub all_bytes : List (List ℕ) → Bool
all_bytes [] = true
all_bytes (b ∷ bs) = if are_bytes b then all_bytes bs else false

abbrev pub is_byte : Cell → Bool
is_byte (Byte b) = nat_lt b 256
is_byte (Piece target offset part) = true

abbrev pub are_byte_cells : List Cell → Bool
are_byte_cells [] = true
are_byte_cells (x ∷ xs) = if is_byte x then are_byte_cells xs else false

abbrev pub same_target : Target → Target → Bool
same_target (T.Object i) (T.Object j) = i == j
same_target (T.Literal i) (T.Literal j) = i == j
same_target (T.Func i) (T.Func j) = i == j
same_target _ _ = false

-- what may follow a cell
abbrev pub after : Awaited → Cell → Awaited
after Any (Byte b) = Any
after Any (Piece t o part) = if part == 0 then High t o else Never
after (High t o) (Byte b) = Never
after (High t o) (Piece target offset part) = if part == 1 && same_target target t && same_value offset o then Any else Never
after Never x = Never

abbrev pub ends : Awaited → Bool
ends Any = true
ends _ = false

abbrev pub are_paired : Awaited → List Cell → Bool
are_paired w [] = ends w
are_paired w (x ∷ xs) = are_paired (after w x) xs

abbrev pub begins_plain : Option (List Cell) → Bool
begins_plain None = true
begins_plain (Some cells) = are_byte_cells cells && are_paired Any cells

-- ---- names

abbrev pub is_usual : Fn → Bool
is_usual (fn q ps variadic cdecl) = not variadic && not cdecl

abbrev pub is_spelled : Option (List ℕ) → List ℕ → Bool
is_spelled None spelling = false
is_spelled (Some s) spelling = bytes_eq s spelling

module _ (names : List (List ℕ)) where
  abbrev pub is_own_name : Bool → Name → Bool
  is_own_name external name = not external || not (is_some (library_at names name.0))

  abbrev pub has_own_name : Bool → Option Name → Bool
  has_own_name external None = true
  has_own_name external (Some name) = is_own_name external name

  abbrev pub is_named : Option Library → Bool → Name → Bool
  is_named None external name = is_own_name external name
  is_named (Some l) external name = external && is_spelled (slice_get names name.0) (library_name l)

  abbrev pub is_main : FuncTy → Bool
  is_main f = f.external && is_spelled (slice_get names f.name.0) (codes "main") && is_usual f.ty

  abbrev pub starts : Option FuncTy → Bool
  starts None = false
  starts (Some f) = is_main f

  -- ---- objects, functions and programs, of a table of names

  module _ (u : UnitTy) where
    abbrev pub is_plain_object : ObjectTy → Bool
    is_plain_object o = has_bytes u.types (type_in o.ty) && has_own_name (is_external o.class) o.name && begins_plain o.init

    abbrev pub are_plain_objects : List ObjectTy → Bool
    are_plain_objects [] = true
    are_plain_objects (o ∷ os) = if is_plain_object o then are_plain_objects os else false

    abbrev pub is_plain_func : FuncTy → Bool
    is_plain_func f = is_named f.library f.external f.name && has_plain_body u f.params f.body

    abbrev pub are_plain_funcs : List FuncTy → Bool
    are_plain_funcs [] = true
    are_plain_funcs (f ∷ fs) = if is_plain_func f then are_plain_funcs fs else false

    abbrev pub is_plain : ℕ → Bool
    is_plain main = are_plain_objects u.objects && all_bytes u.literals && starts (slice_get u.funcs main) && are_few u && come_once [] (all_own_objects u.funcs) && are_plain_funcs u.funcs
