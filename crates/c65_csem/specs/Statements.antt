-- Well typed statements (C90 6.6).
use Rattle.std.specs.Prelude.{◌≡◌, ℕ, suc, ◌+◌, ◌≤◌, ℤ, List, [], ◌∷◌, ◌++◌, length, Bool, true, false, Option, Some, None, slice_get, IsTrue, IsSome, All, Contains}
use Rattle.c65_ints.specs.declared.types.IntType.{IntType}
use Rattle.c65_ints.specs.Ranges.{InRange}
use Rattle.c65_ctype.specs.Trees.{QTy, type_in, int}
use Rattle.c65_ctype.specs.Sizes.{size_of}
use Rattle.c65_csem.specs.Trees.{Typed, type_of, MaybeTyped, absent, present, Stmt, empty, eval, set_part, clear, block, if_stmt, while, do_while, for_loop, switch, case, default, label, goto, break, continue, return, Stmts, no_stmts, and_stmts, ObjectTy, UnitTy}
use Rattle.c65_csem.specs.Places.{is_place, is_promoted, is_tag, plain, is_framed, is_automatic, are_alike}
use Rattle.c65_csem.specs.Typed.{IsTyped, IsGiven, IsValue, IsScalar, HasInt}

-- the labels of a statement, in their order
abbrev mutual
  pub labels_of : Stmt → List ℕ
  labels_of (block os ss) = labels_in ss
  labels_of (if_stmt e a b) = labels_of a ++ labels_of b
  labels_of (while e a) = labels_of a
  labels_of (do_while a e) = labels_of a
  labels_of (for_loop i c n a) = labels_of a
  labels_of (switch e a) = labels_of a
  labels_of (case z a) = labels_of a
  labels_of (default a) = labels_of a
  labels_of (label l a) = l ∷ labels_of a
  labels_of _ = []

  pub labels_in : Stmts → List ℕ
  labels_in no_stmts = []
  labels_in (and_stmts a ss) = labels_of a ++ labels_in ss

-- the values of the case labels that belong to a switch with this body
abbrev mutual
  pub cases_of : Stmt → List ℤ
  cases_of (block os ss) = cases_in ss
  cases_of (if_stmt e a b) = cases_of a ++ cases_of b
  cases_of (while e a) = cases_of a
  cases_of (do_while a e) = cases_of a
  cases_of (for_loop i c n a) = cases_of a
  cases_of (case z a) = z ∷ cases_of a
  cases_of (default a) = cases_of a
  cases_of (label l a) = cases_of a
  cases_of _ = []

  pub cases_in : Stmts → List ℤ
  cases_in no_stmts = []
  cases_in (and_stmts a ss) = cases_of a ++ cases_in ss

-- how many default labels belong to a switch with this body
abbrev mutual
  pub defaults_of : Stmt → ℕ
  defaults_of (block os ss) = defaults_in ss
  defaults_of (if_stmt e a b) = defaults_of a + defaults_of b
  defaults_of (while e a) = defaults_of a
  defaults_of (do_while a e) = defaults_of a
  defaults_of (for_loop i c n a) = defaults_of a
  defaults_of (case z a) = defaults_of a
  defaults_of (default a) = suc (defaults_of a)
  defaults_of (label l a) = defaults_of a
  defaults_of _ = 0

  pub defaults_in : Stmts → ℕ
  defaults_in no_stmts = 0
  defaults_in (and_stmts a ss) = defaults_of a + defaults_in ss

-- no item stands at two places of a list
pub record IsDistinct {A : Type 0} (xs : List A) : Type 0 where
  pub once : (i j : ℕ) (x : A) → slice_get xs i ≡ Some x → slice_get xs j ≡ Some x → i ≡ j

-- where a statement stands: in its function's labels, in a loop, in a switch of some type; and what its function gives
pub record Context : Type 0 where
  pub labels : List ℕ
  pub in_loop : Bool
  pub in_switch : Option IntType
  pub gives : QTy

abbrev pub looping : Context → Context
looping c = record c { in_loop = true }

abbrev pub switching : IntType → Context → Context
switching k c = record c { in_switch = Some k }

-- an automatic object, and its type
abbrev pub IsAutomatic : UnitTy → ℕ → ObjectTy → Type 0
IsAutomatic u i o = (slice_get u.objects i ≡ Some o) × IsTrue (is_automatic o.class)

-- an object of the frame, and its type
abbrev pub IsFramed : UnitTy → ℕ → ObjectTy → Type 0
IsFramed u i o = (slice_get u.objects i ≡ Some o) × IsTrue (is_framed o.class)

abbrev pub NamesAutomatic : UnitTy → ℕ → Type 0
NamesAutomatic u i = (o : ObjectTy) × IsAutomatic u i o

-- the initial value of a part of an automatic object: a value, or a structure or union that is copied
pub data IsInitial : Typed → Type 0 where
  value : {e : Typed} → IsValue e → IsInitial e
  place : {e : Typed} → IsTrue (is_tag (type_in (type_of e))) → IsInitial e

pub record IsSet (u : UnitTy) (i offset : ℕ) (e : Typed) : Type 0 where
  pub object : ObjectTy
  pub automatic : IsAutomatic u i object
  pub typed : IsTyped u e
  pub initial : IsInitial e
  pub inside : offset + size_of u.types (type_in (type_of e)) ≤ size_of u.types (type_in object.ty)

abbrev pub IsMaybe : UnitTy → MaybeTyped → Type 0
IsMaybe u absent = Unit {0}
IsMaybe u (present e) = IsTyped u e

-- a condition is a scalar value
abbrev pub IsCondition : UnitTy → Typed → Type 0
IsCondition u e = IsTyped u e × IsValue e

abbrev pub IsMaybeCondition : UnitTy → MaybeTyped → Type 0
IsMaybeCondition u absent = Unit {0}
IsMaybeCondition u (present e) = IsCondition u e

-- a switch is on a promoted number; its cases are of that type and distinct, and at most 1,024
pub record IsSwitch (u : UnitTy) (e : Typed) (body : Stmt) (k : IntType) : Type 0 where
  pub typed : IsTyped u e
  pub value : is_place e ≡ false
  pub number : HasInt (type_of e) k
  pub promoted : IsTrue (is_promoted k)
  pub distinct : IsDistinct (cases_of body)
  pub few : length (cases_of body) ≤ 1024
  pub one_default : defaults_of body ≤ 1

-- a case label belongs to a switch, and its value is of that type
pub record IsCase (c : Context) (z : ℤ) : Type 0 where
  pub kind : IntType
  pub belongs : c.in_switch ≡ Some kind
  pub value : InRange kind z

-- `break` leaves a loop or a switch
pub data CanBreak (c : Context) : Type 0 where
  loop : IsTrue c.in_loop → CanBreak c
  switched : IsSome c.in_switch → CanBreak c

-- A returned value has the type that the function gives, down to a pointer: a later declaration may have
-- completed what it points to (C90 6.6.6.4, 6.1.2.6); the tags of structures may come from two units, and their sizes
-- are the same. A function that gives nothing returns none.
abbrev pub IsReturn : UnitTy → Context → MaybeTyped → Type 0
IsReturn u c absent = Unit {0}
IsReturn u c (present e) = IsGiven u e × IsTrue (are_alike (type_of e) c.gives) × (size_of u.types (type_in (type_of e)) ≡ size_of u.types (type_in c.gives))

abbrev mutual
  pub IsStmt : UnitTy → Context → Stmt → Type 0
  IsStmt u c empty = Unit {0}
  IsStmt u c (eval e) = IsTyped u e
  IsStmt u c (set_part i o e) = IsSet u i o e
  IsStmt u c (clear i) = NamesAutomatic u i
  IsStmt u c (block os ss) = All (NamesAutomatic u) os × AreStmts u c ss
  IsStmt u c (if_stmt e a b) = IsCondition u e × IsStmt u c a × IsStmt u c b
  IsStmt u c (while e a) = IsCondition u e × IsStmt u (looping c) a
  IsStmt u c (do_while a e) = IsStmt u (looping c) a × IsCondition u e
  IsStmt u c (for_loop i t n a) = IsMaybe u i × IsMaybeCondition u t × IsMaybe u n × IsStmt u (looping c) a
  IsStmt u c (switch e a) = (k : IntType) × IsSwitch u e a k × IsStmt u (switching k c) a
  IsStmt u c (case z a) = IsCase c z × IsStmt u c a
  IsStmt u c (default a) = IsSome c.in_switch × IsStmt u c a
  IsStmt u c (label l a) = IsStmt u c a
  IsStmt u c (goto l) = Contains c.labels l
  IsStmt u c break = CanBreak c
  IsStmt u c continue = IsTrue c.in_loop
  IsStmt u c (return e) = IsReturn u c e

  pub AreStmts : UnitTy → Context → Stmts → Type 0
  AreStmts u c no_stmts = Unit {0}
  AreStmts u c (and_stmts a ss) = IsStmt u c a × AreStmts u c ss
