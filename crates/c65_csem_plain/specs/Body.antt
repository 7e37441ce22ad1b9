-- What the bodies of a program made from source meet beside their types and scopes (C90 6.1.2.4, 6.3.6, 6.5.2.1, 6.5.7).
use Rattle.std.specs.Prelude.{◌≡◌, ℕ, ◌+◌, ◌≤◌, Bool, false, List, [], ◌++◌, Option, Some, None, slice_get, IsTrue, Contains, ⊤}
use Rattle.c65_base.specs.Limits.{limit_of}
use Rattle.c65_base.specs.declared.refusal.Size.TheVariants as sizes
use Rattle.c65_base.specs.declared.operators.BinaryOp.{BinaryOp}
use Rattle.c65_base.specs.declared.operators.BinaryOp.TheVariants.{Add, Sub}
use Rattle.c65_ctype.specs.Trees.{Ty, pointer, tag, type_in, MemberTy, LayoutTy, TypesTy}
use Rattle.c65_ctype.specs.Layouts.{is_bit_type}
use Rattle.c65_ctype.specs.Sizes.{size_of}
use Rattle.c65_ctype.specs.Tables.{layout_at}
use Rattle.c65_csem.specs.Places.{is_scalar, is_tag}
use Rattle.c65_csem.specs.Trees.{Typed, node, Node, constant, null, literal, object, func, deref, member, load, address, decay, convert, unary, binary, both, either, choice, comma, assign, assign_op, assign_step, step, copy, call, pack, spill, rest, Nodes, none, some, type_of, Stmt, empty, eval, set_part, clear, block, if_stmt, while, do_while, for_loop, switch, case, default, label, goto, break, continue, return, Stmts, no_stmts, and_stmts, MaybeTyped, absent, present, ObjectTy, UnitTy}

-- the objects of all blocks of a statement
abbrev mutual
  pub objects_of : Stmt → List ℕ
  objects_of (block os ss) = os ++ objects_in ss
  objects_of (if_stmt e a b) = objects_of a ++ objects_of b
  objects_of (while e a) = objects_of a
  objects_of (do_while a e) = objects_of a
  objects_of (for_loop i c n a) = objects_of a
  objects_of (switch e a) = objects_of a
  objects_of (case z a) = objects_of a
  objects_of (default a) = objects_of a
  objects_of (label l a) = objects_of a
  objects_of _ = []

  pub objects_in : Stmts → List ℕ
  objects_in no_stmts = []
  objects_in (and_stmts a ss) = objects_of a ++ objects_in ss

-- a bit-field is an int or unsigned int, and takes some of the 16 bits of a unit of two bytes
pub record IsBitField (size : ℕ) (m : MemberTy) (low width : ℕ) : Type 0 where
  pub number : IsTrue (is_bit_type (type_in m.ty))
  pub some : 1 ≤ width
  pub within : low + width ≤ 16
  pub inside : m.offset + 2 ≤ size

module _ (types : TypesTy) where
  -- a type has at least one byte, and no more than an object may have
  pub record HasBytes (t : Ty) : Type 0 where
    pub some : 1 ≤ size_of types t
    pub few : size_of types t ≤ limit_of sizes.Object

  -- a pointer that is moved goes on by the bytes of what it points to
  abbrev pub HasStep : Ty → Type 0
  HasStep (pointer q) = HasBytes (type_in q)
  HasStep _ = ⊤

  abbrev pub HasSteps : BinaryOp → Ty → Ty → Type 0
  HasSteps Add t s = HasStep t × HasStep s
  HasSteps Sub t s = HasStep t × HasStep s
  HasSteps _ t s = ⊤

  -- any other member lies in its structure or union with all its bytes
  pub record IsWholeMember (size : ℕ) (m : MemberTy) : Type 0 where
    pub bytes : HasBytes (type_in m.ty)
    pub inside : m.offset + size_of types (type_in m.ty) ≤ size

  abbrev pub Lies : ℕ → MemberTy → Option (ℕ × ℕ) → Type 0
  Lies size m None = IsWholeMember size m
  Lies size m (Some bits) = IsBitField size m bits.0 bits.1

  abbrev pub MemberLies : ℕ → Option MemberTy → Type 0
  MemberLies size None = ⊥
  MemberLies size (Some m) = Lies size m m.bits

  abbrev pub LiesInLayout : ℕ → Option LayoutTy → Type 0
  LiesInLayout m None = ⊥
  LiesInLayout m (Some l) = MemberLies l.size (slice_get l.members m)

  -- member m of a structure or union
  abbrev pub LiesIn : ℕ → Ty → Type 0
  LiesIn m (tag n) = LiesInLayout m (layout_at types n)
  LiesIn m _ = ⊥

  abbrev mutual
    -- the members that an expression names lie in their structures, and what its moved pointers point to has bytes
    pub IsPlainIn : Typed → Type 0
    IsPlainIn (node t e) = IsPlainNode (type_in t) e

    pub IsPlainNode : Ty → Node → Type 0
    IsPlainNode t (constant z) = ⊤
    IsPlainNode t null = ⊤
    IsPlainNode t (literal l) = ⊤
    IsPlainNode t (object i) = ⊤
    IsPlainNode t (func f) = ⊤
    IsPlainNode t (deref a) = IsPlainIn a
    IsPlainNode t (member a m) = LiesIn m (type_in (type_of a)) × IsPlainIn a
    IsPlainNode t (load a) = IsPlainIn a
    IsPlainNode t (address a) = IsPlainIn a
    IsPlainNode t (decay a) = IsPlainIn a
    IsPlainNode t (convert a) = IsPlainIn a
    IsPlainNode t (unary op a) = IsPlainIn a
    IsPlainNode t (binary op a b) = HasSteps op (type_in (type_of a)) (type_in (type_of b)) × IsPlainIn a × IsPlainIn b
    IsPlainNode t (both a b) = IsPlainIn a × IsPlainIn b
    IsPlainNode t (either a b) = IsPlainIn a × IsPlainIn b
    IsPlainNode t (choice d a b) = IsPlainIn d × IsPlainIn a × IsPlainIn b
    IsPlainNode t (comma a b) = IsPlainIn a × IsPlainIn b
    IsPlainNode t (assign a b) = IsPlainIn a × IsPlainIn b
    IsPlainNode t (assign_op op k a b) = IsPlainIn a × IsPlainIn b
    IsPlainNode t (assign_step op a b) = HasStep t × IsPlainIn a × IsPlainIn b
    IsPlainNode t (step kind a) = HasStep t × IsPlainIn a
    IsPlainNode t (copy a b) = IsPlainIn a × IsPlainIn b
    IsPlainNode t (call f es) = IsPlainIn f × ArePlainIn es
    IsPlainNode t (pack a) = IsPlainIn a
    IsPlainNode t (spill i a) = IsPlainIn a
    IsPlainNode t rest = ⊤

    pub ArePlainIn : Nodes → Type 0
    ArePlainIn none = ⊤
    ArePlainIn (some e es) = IsPlainIn e × ArePlainIn es

  abbrev pub IsPlainMaybe : MaybeTyped → Type 0
  IsPlainMaybe absent = ⊤
  IsPlainMaybe (present e) = IsPlainIn e

-- a structure or union is copied into an object that is no scalar
abbrev pub TakesPart : Option ObjectTy → Ty → Type 0
TakesPart None t = ⊤
TakesPart (Some o) t = IsTrue (is_tag t) → is_scalar (type_in o.ty) ≡ false

module _ (u : UnitTy) (own : List ℕ) where
  abbrev mutual
    -- initial values go to the function's own objects, those of its blocks
    pub IsPlainStmt : Stmt → Type 0
    IsPlainStmt empty = ⊤
    IsPlainStmt (eval e) = IsPlainIn u.types e
    IsPlainStmt (set_part i o e) = Contains own i × TakesPart (slice_get u.objects i) (type_in (type_of e)) × IsPlainIn u.types e
    IsPlainStmt (clear i) = Contains own i
    IsPlainStmt (block os ss) = ArePlainStmts ss
    IsPlainStmt (if_stmt e a b) = IsPlainIn u.types e × IsPlainStmt a × IsPlainStmt b
    IsPlainStmt (while e a) = IsPlainIn u.types e × IsPlainStmt a
    IsPlainStmt (do_while a e) = IsPlainStmt a × IsPlainIn u.types e
    IsPlainStmt (for_loop i t n a) = IsPlainMaybe u.types i × IsPlainMaybe u.types t × IsPlainMaybe u.types n × IsPlainStmt a
    IsPlainStmt (switch e a) = IsPlainIn u.types e × IsPlainStmt a
    IsPlainStmt (case z a) = IsPlainStmt a
    IsPlainStmt (default a) = IsPlainStmt a
    IsPlainStmt (label l a) = IsPlainStmt a
    IsPlainStmt (goto l) = ⊤
    IsPlainStmt break = ⊤
    IsPlainStmt continue = ⊤
    IsPlainStmt (return e) = IsPlainMaybe u.types e

    pub ArePlainStmts : Stmts → Type 0
    ArePlainStmts no_stmts = ⊤
    ArePlainStmts (and_stmts a ss) = IsPlainStmt a × ArePlainStmts ss
