-- Tests on statements (C90 6.6).
use Rattle.std.specs.Prelude.{ℕ, ◌+◌, ◌*◌, ℤ, List, [], ◌∷◌, length, Bool, true, false, not, ◌||◌, ◌&&◌, ◌==◌, Option, Some, None, is_some, option_map, slice_get, nat_le, int_le, if◌then◌else◌}
use Rattle.c65_ints.specs.declared.types.IntType.{IntType}
use Rattle.c65_ints.specs.declared.types.IntType.TheVariants.{Int}
use Rattle.c65_ctype.specs.Trees.{Ty, void, int, pointer, array, tag, function, QTy, qual, type_in, TypesTy, LayoutTy}
use Rattle.c65_ctype.specs.Sizes.{bytes_of}
use Rattle.c65_ctype.specs.Tables.{layout_at}
use Rattle.c65_csem.specs.Trees.{Typed, type_of, MaybeTyped, absent, present, Stmt, empty, eval, set_part, clear, block, if_stmt, while, do_while, for_loop, switch, case, default, label, goto, break, continue, return, Stmts, no_stmts, and_stmts, ObjectTy, UnitTy}
use Rattle.c65_csem.specs.Places.{is_place, is_tag, is_automatic, are_alike}
use Rattle.c65_csem.specs.Statements.{Context, looping, switching, cases_of, defaults_of}
use Rattle.c65_csem_check.specs.Kinds.{int_of, promotes, flat_bytes, same_size}
use Rattle.c65_csem_check.specs.Expressions.{is_typed, is_given, is_value, holds}

abbrev pub has_number : List ℕ → ℕ → Bool
has_number [] n = false
has_number (m ∷ ms) n = if m == n then true else has_number ms n

-- no number stands at two places
abbrev pub are_distinct : List ℕ → Bool
are_distinct [] = true
are_distinct (n ∷ ns) = if has_number ns n then false else are_distinct ns

abbrev pub same_value : ℤ → ℤ → Bool
same_value x y = int_le x y && int_le y x

abbrev pub has_value : List ℤ → ℤ → Bool
has_value [] x = false
has_value (y ∷ ys) x = if same_value y x then true else has_value ys x

abbrev pub are_distinct_values : List ℤ → Bool
are_distinct_values [] = true
are_distinct_values (x ∷ xs) = if has_value xs x then false else are_distinct_values xs

-- Sizes.

abbrev pub limited_product : ℕ → Option ℕ → Option ℕ
limited_product n None = None
limited_product n (Some size) = if nat_le (size * n) 65535 then Some (size * n) else None

-- the size of a type, where neither it nor a type that it is an array of has more than 65,535 bytes
abbrev mutual
  pub measured : TypesTy → Ty → Option ℕ
  measured types void = None
  measured types (int k) = Some (bytes_of k)
  measured types (pointer q) = Some 2
  measured types (array q None) = None
  measured types (array q (Some n)) = limited_product n (measured_in types q)
  measured types (tag n) = option_map (λ l. l.size) (layout_at types n)
  measured types (function f) = None

  pub measured_in : TypesTy → QTy → Option ℕ
  measured_in types (qual t c v) = measured types t

abbrev pub is_inside : ℕ → ℕ → Option ℕ → Bool
is_inside offset size None = false
is_inside offset size (Some whole) = nat_le (offset + size) whole

-- Objects.

abbrev pub is_automatic_at : Option ObjectTy → Bool
is_automatic_at None = false
is_automatic_at (Some o) = is_automatic o.class

abbrev pub are_automatic : UnitTy → List ℕ → Bool
are_automatic u [] = true
are_automatic u (i ∷ is) = if is_automatic_at (slice_get u.objects i) then are_automatic u is else false

abbrev pub is_initial : Typed → Bool
is_initial e = is_value e || is_tag (type_in (type_of e))

abbrev pub set_by : TypesTy → Option ObjectTy → ℕ → Typed → Bool
set_by types None offset e = false
set_by types (Some o) offset e = is_automatic o.class && is_initial e && is_inside offset (flat_bytes types (type_in (type_of e))) (measured_in types o.ty)

-- Statements.

abbrev pub is_maybe : UnitTy → MaybeTyped → Bool
is_maybe u absent = true
is_maybe u (present e) = is_typed u e

abbrev pub is_condition : UnitTy → Typed → Bool
is_condition u e = is_typed u e && is_value e

abbrev pub is_maybe_condition : UnitTy → MaybeTyped → Bool
is_maybe_condition u absent = true
is_maybe_condition u (present e) = is_condition u e

abbrev pub is_return : UnitTy → QTy → MaybeTyped → Bool
is_return u t absent = true
is_return u t (present e) = is_given u e && are_alike (type_of e) t && same_size u.types (type_of e) t

abbrev pub is_selector : UnitTy → Typed → Bool
is_selector u e = is_typed u e && not (is_place e) && promotes (int_of (type_of e))

-- the case and default labels that belong to a switch
abbrev pub are_cases : Stmt → Bool
are_cases body = nat_le (length (cases_of body)) 1024 && are_distinct_values (cases_of body) && nat_le (defaults_of body) 1

abbrev pub kind_in : Option IntType → IntType
kind_in None = Int
kind_in (Some k) = k

abbrev mutual
  pub is_stmt : UnitTy → Context → Stmt → Bool
  is_stmt u c empty = true
  is_stmt u c (eval e) = is_typed u e
  is_stmt u c (set_part i offset e) = is_typed u e && set_by u.types (slice_get u.objects i) offset e
  is_stmt u c (clear i) = is_automatic_at (slice_get u.objects i)
  is_stmt u c (block os ss) = are_automatic u os && are_stmts u c ss
  is_stmt u c (if_stmt e a b) = is_condition u e && is_stmt u c a && is_stmt u c b
  is_stmt u c (while e a) = is_condition u e && is_stmt u (looping c) a
  is_stmt u c (do_while a e) = is_stmt u (looping c) a && is_condition u e
  is_stmt u c (for_loop i t n a) = is_maybe u i && is_maybe_condition u t && is_maybe u n && is_stmt u (looping c) a
  is_stmt u c (switch e a) = is_selector u e && are_cases a && is_stmt u (switching (kind_in (int_of (type_of e))) c) a
  is_stmt u c (case z a) = holds c.in_switch z && is_stmt u c a
  is_stmt u c (default a) = is_some c.in_switch && is_stmt u c a
  is_stmt u c (label l a) = is_stmt u c a
  is_stmt u c (goto l) = has_number c.labels l
  is_stmt u c break = c.in_loop || is_some c.in_switch
  is_stmt u c continue = c.in_loop
  is_stmt u c (return e) = is_return u c.gives e

  pub are_stmts : UnitTy → Context → Stmts → Bool
  are_stmts u c no_stmts = true
  are_stmts u c (and_stmts a ss) = is_stmt u c a && are_stmts u c ss
