-- What the tests of bodies tell.
use Rattle.std.proofs.Common.{◌≡◌, ℕ, zero, suc, ◌+◌, ◌*◌, ◌≤◌, List, [], ◌∷◌, Bool, true, false, not, ◌&&◌, ◌||◌, Option, Some, None, option_map, slice_get, nat_le, IsTrue, refl, sym, ap, ◌∙◌, subst, arith}
use Rattle.std.specs.Prelude.{⊤, if◌then◌else◌}
use Rattle.std.proofs.lemmas.Bool.{le-leb, leb-true}
use Rattle.c65_base.specs.declared.operators.BinaryOp.{BinaryOp}
use Rattle.c65_base.specs.declared.operators.BinaryOp.TheVariants as ops
use Rattle.c65_ctype.specs.Trees.{Ty, void, int, pointer, array, tag, function, QTy, qual, type_in, MemberTy, LayoutTy, TypesTy}
use Rattle.c65_ctype.specs.Layouts.{is_bit_type}
use Rattle.c65_ctype.specs.Sizes.{size_of, qualified_size_of, size_in}
use Rattle.c65_ctype.specs.Tables.{layout_at}
use Rattle.c65_csem.specs.Places.{is_scalar, is_tag}
use Rattle.c65_csem.specs.Trees.{Typed, node, Node, constant, null, literal, object, func, deref, member, load, address, decay, convert, unary, binary, both, either, choice, comma, assign, assign_op, assign_step, step, copy, call, pack, spill, rest, Nodes, none, some, type_of, Stmt, empty, eval, set_part, clear, block, if_stmt, while, do_while, for_loop, switch, case, default, label, goto, break, continue, return, Stmts, no_stmts, and_stmts, MaybeTyped, absent, present, ObjectTy, UnitTy}
use Rattle.c65_csem_check.specs.Statements.{measured, measured_in, limited_product}
use Rattle.c65_csem_check.proofs.ListLaws.{tells_number}
use Rattle.c65_csem_check.proofs.StatementLaws.{measured_is}
use Rattle.c65_csem_check.proofs.Tells.{Tells, like, tells_itself, tells_not, tells_unit, tells_never, tells_if}
use Rattle.c65_csem_check.proofs.Tells as tell
use Rattle.c65_csem_plain.specs.Body.{HasBytes, HasStep, HasSteps, IsBitField, IsWholeMember, Lies, MemberLies, LiesInLayout, LiesIn, IsPlainIn, IsPlainNode, ArePlainIn, IsPlainMaybe, TakesPart, IsPlainStmt, ArePlainStmts}
use Rattle.c65_csem_plain.specs.Tests as b

-- a test is true exactly where something holds
abbrev pub Says : Bool → Type 0 → Type 0
Says b P = Tells (Unit {0}) b P

pub says_le : (m n : ℕ) → Says (nat_le m n) (m ≤ n)
says_le m n = record { yes = λ h. leb-true m n h; only = λ s w. le-leb m n w }

-- ---- sizes

-- where a product has a bound, its first factor has it
factor : (s m n : ℕ) → 1 ≤ s * m → s * m ≤ n → (1 ≤ s) × (s ≤ n)
factor zero m n h k = absurd (let e : zero * m ≡ 0 = grind arith in omega (arith, e, h))
factor (suc s) zero n h k = absurd (let e : suc s * zero ≡ 0 = grind arith in omega (arith, e, h))
factor (suc s) (suc m) n h k = let e : suc s * suc m ≡ suc s + suc s * m = grind arith in (omega arith, omega (arith, e, k))

product : (m s : ℕ) (t : Bool) → nat_le (s * m) 65535 ≡ t → s * m ≤ 65535 → limited_product m (Some s) ≡ Some (s * m)
product m s true e h = ap (λ (t : Bool). if t then Some (s * m) else None) e
product m s false e h = let f = le-leb (s * m) 65535 h in cc

mutual
  measured_of : (types : TypesTy) (t : Ty) → 1 ≤ size_of types t → size_of types t ≤ 65535 → measured types t ≡ Some (size_of types t)
  measured_of types void h k = absurd (omega arith)
  measured_of types (int j) h k = refl
  measured_of types (pointer q) h k = refl
  measured_of types (array q None) h k = absurd (omega arith)
  measured_of types (array q (Some m)) h k =
      let parts = factor (qualified_size_of types q) m 65535 h k in
      ap (limited_product m) (measured_in_of types q parts.0 parts.1) ∙ product m (qualified_size_of types q) (nat_le (qualified_size_of types q * m) 65535) refl k
  measured_of types (tag i) h k = laid (layout_at types i) h
    where
      laid : (o : Option LayoutTy) → 1 ≤ size_in o → option_map (λ l. l.size) o ≡ Some (size_in o)
      laid None h = absurd (omega arith)
      laid (Some l) h = refl
  measured_of types (function f) h k = absurd (omega arith)

  measured_in_of : (types : TypesTy) (q : QTy) → 1 ≤ qualified_size_of types q → qualified_size_of types q ≤ 65535 → measured_in types q ≡ Some (qualified_size_of types q)
  measured_in_of types (qual t c v) h k = measured_of types t h k

module _ (types : TypesTy) where
  bytes_by : (t : Ty) (o : Option ℕ) → measured types t ≡ o → Says (b.is_size o) (HasBytes types t)
  bytes_by t None e = record { yes = λ h. cc; only = λ s w. let f = measured_of types t w.some w.few in cc }
  bytes_by t (Some n) e =
      let s : size_of types t ≡ n = measured_is types t n e in
      like (tell.both (says_le 1 n) (says_le n 65535))
      (λ h. record { some = subst (λ (k : ℕ). 1 ≤ k) (sym s) h.0; few = subst (λ (k : ℕ). k ≤ 65535) (sym s) h.1 })
      (λ w. (subst (λ (k : ℕ). 1 ≤ k) s w.some, subst (λ (k : ℕ). k ≤ 65535) s w.few))

  pub says_bytes : (t : Ty) → Says (b.has_bytes types t) (HasBytes types t)
  says_bytes t = bytes_by t (measured types t) refl

  pub says_step : (t : Ty) → Says (b.has_step types t) (HasStep types t)
  says_step (pointer q) = says_bytes (type_in q)
  says_step void = tells_unit
  says_step (int k) = tells_unit
  says_step (array q n) = tells_unit
  says_step (tag n) = tells_unit
  says_step (function f) = tells_unit

  says_steps : (op : BinaryOp) (t s : Ty) → Says (b.has_steps types op t s) (HasSteps types op t s)
  says_steps ops.Add t s = tell.both (says_step t) (says_step s)
  says_steps ops.Sub t s = tell.both (says_step t) (says_step s)
  says_steps ops.Mul t s = tells_unit
  says_steps ops.Div t s = tells_unit
  says_steps ops.Rem t s = tells_unit
  says_steps ops.Shl t s = tells_unit
  says_steps ops.Shr t s = tells_unit
  says_steps ops.Lt t s = tells_unit
  says_steps ops.Gt t s = tells_unit
  says_steps ops.Le t s = tells_unit
  says_steps ops.Ge t s = tells_unit
  says_steps ops.Eq t s = tells_unit
  says_steps ops.Ne t s = tells_unit
  says_steps ops.BitAnd t s = tells_unit
  says_steps ops.BitXor t s = tells_unit
  says_steps ops.BitOr t s = tells_unit

  -- ---- members

  ends_by : (offset size : ℕ) (t : Ty) (o : Option ℕ) → measured types t ≡ o → HasBytes types t → Says (b.ends_within offset o size) (offset + size_of types t ≤ size)
  ends_by offset size t None e w = let f = measured_of types t w.some w.few in record { yes = λ h. cc; only = λ s h. cc }
  ends_by offset size t (Some n) e w =
      let s : size_of types t ≡ n = measured_is types t n e in
      like (says_le (offset + n) size) (λ h. subst (λ (k : ℕ). offset + k ≤ size) (sym s) h) (λ h. subst (λ (k : ℕ). offset + k ≤ size) s h)

  -- a test behind one that tells what it needs
  behind : (x y : Bool) (P Q : Type 0) → Says x P → (P → Says y Q) → Says (x && y) (P × Q)
  behind true y P Q f g = record { yes = λ h. (f.yes refl, (g (f.yes refl)).yes h); only = λ s w. (g w.0).only s w.1 }
  behind false y P Q f g = record { yes = λ h. cc; only = λ s w. f.only s w.0 }

  says_whole : (size : ℕ) (m : MemberTy) → Says (b.is_whole_member types size m) (IsWholeMember types size m)
  says_whole size m =
      let o = measured types (type_in m.ty) in
      like (behind _ _ _ _ (says_bytes (type_in m.ty)) (λ w. ends_by m.offset size (type_in m.ty) o refl w))
      (λ h. record { bytes = h.0; inside = h.1 })
      (λ w. (w.bytes, w.inside))

  says_bit_field : (size : ℕ) (m : MemberTy) (low width : ℕ) → Says (b.is_bit_field size m low width) (IsBitField size m low width)
  says_bit_field size m low width =
      like (tell.four (tells_itself (is_bit_type (type_in m.ty))) (says_le 1 width) (says_le (low + width) 16) (says_le (m.offset + 2) size))
      (λ h. record { number = h.0; some = h.1; within = h.2; inside = h.3 })
      (λ w. (w.number, w.some, w.within, w.inside))

  says_lies : (size : ℕ) (m : MemberTy) (bits : Option (ℕ × ℕ)) → Says (b.lies types size m bits) (Lies types size m bits)
  says_lies size m None = says_whole size m
  says_lies size m (Some bits) = says_bit_field size m bits.0 bits.1

  says_member : (size : ℕ) (o : Option MemberTy) → Says (b.member_lies types size o) (MemberLies types size o)
  says_member size None = tells_never
  says_member size (Some m) = says_lies size m m.bits

  says_layout : (m : ℕ) (o : Option LayoutTy) → Says (b.lies_in_layout types m o) (LiesInLayout types m o)
  says_layout m None = tells_never
  says_layout m (Some l) = says_member l.size (slice_get l.members m)

  says_in : (m : ℕ) (t : Ty) → Says (b.lies_in types m t) (LiesIn types m t)
  says_in m (tag n) = says_layout m (layout_at types n)
  says_in m void = tells_never
  says_in m (int k) = tells_never
  says_in m (pointer q) = tells_never
  says_in m (array q n) = tells_never
  says_in m (function f) = tells_never

  -- ---- expressions

  mutual
    pub says_plain_in : (e : Typed) → Says (b.is_plain_in types e) (IsPlainIn types e)
    says_plain_in (node t e) = says_node (type_in t) e

    says_node : (t : Ty) (e : Node) → Says (b.is_plain_node types t e) (IsPlainNode types t e)
    says_node s (constant z) = tells_unit
    says_node s null = tells_unit
    says_node s (literal l) = tells_unit
    says_node s (object i) = tells_unit
    says_node s (func f) = tells_unit
    says_node s (deref a) = says_plain_in a
    says_node s (member a m) = tell.both (says_in m (type_in (type_of a))) (says_plain_in a)
    says_node s (load a) = says_plain_in a
    says_node s (address a) = says_plain_in a
    says_node s (decay a) = says_plain_in a
    says_node s (convert a) = says_plain_in a
    says_node s (unary op a) = says_plain_in a
    says_node s (binary op a c) = tell.three (says_steps op (type_in (type_of a)) (type_in (type_of c))) (says_plain_in a) (says_plain_in c)
    says_node s (both a c) = tell.both (says_plain_in a) (says_plain_in c)
    says_node s (either a c) = tell.both (says_plain_in a) (says_plain_in c)
    says_node s (choice d a c) = tell.three (says_plain_in d) (says_plain_in a) (says_plain_in c)
    says_node s (comma a c) = tell.both (says_plain_in a) (says_plain_in c)
    says_node s (assign a c) = tell.both (says_plain_in a) (says_plain_in c)
    says_node s (assign_op op k a c) = tell.both (says_plain_in a) (says_plain_in c)
    says_node s (assign_step op a c) = tell.three (says_step s) (says_plain_in a) (says_plain_in c)
    says_node s (step kind a) = tell.both (says_step s) (says_plain_in a)
    says_node s (copy a c) = tell.both (says_plain_in a) (says_plain_in c)
    says_node s (call f es) = tell.both (says_plain_in f) (says_all_in es)
    says_node s (pack a) = says_plain_in a
    says_node s (spill i a) = says_plain_in a
    says_node s rest = tells_unit

    says_all_in : (es : Nodes) → Says (b.are_plain_in types es) (ArePlainIn types es)
    says_all_in none = tells_unit
    says_all_in (some e es) = tells_if (says_plain_in e) (says_all_in es)

  says_maybe : (e : MaybeTyped) → Says (b.is_plain_maybe types e) (IsPlainMaybe types e)
  says_maybe absent = tells_unit
  says_maybe (present e) = says_plain_in e

-- ---- statements

implied : (x y : Bool) → Says (not x || not y) (x ≡ true → y ≡ false)
implied true y = like (tells_not y) (λ h w. h) (λ h. h refl)
implied false y = record { yes = λ h w. cc; only = λ s w. refl }

says_part : (o : Option ObjectTy) (s : Ty) → Says (b.takes_part o s) (TakesPart o s)
says_part None s = tells_unit
says_part (Some o) s = implied (is_tag s) (is_scalar (type_in o.ty))

module _ (u : UnitTy) (own : List ℕ) where
  mutual
    pub says_stmt : (a : Stmt) → Says (b.is_plain_stmt u own a) (IsPlainStmt u own a)
    says_stmt empty = tells_unit
    says_stmt (eval e) = says_plain_in u.types e
    says_stmt (set_part i o e) = tell.three (tells_number own i) (says_part (slice_get u.objects i) (type_in (type_of e))) (says_plain_in u.types e)
    says_stmt (clear i) = tells_number own i
    says_stmt (block os ss) = says_stmts ss
    says_stmt (if_stmt e a c) = tell.three (says_plain_in u.types e) (says_stmt a) (says_stmt c)
    says_stmt (while e a) = tell.both (says_plain_in u.types e) (says_stmt a)
    says_stmt (do_while a e) = tell.both (says_stmt a) (says_plain_in u.types e)
    says_stmt (for_loop i c n a) = tell.four (says_maybe u.types i) (says_maybe u.types c) (says_maybe u.types n) (says_stmt a)
    says_stmt (switch e a) = tell.both (says_plain_in u.types e) (says_stmt a)
    says_stmt (case z a) = says_stmt a
    says_stmt (default a) = says_stmt a
    says_stmt (label l a) = says_stmt a
    says_stmt (goto l) = tells_unit
    says_stmt break = tells_unit
    says_stmt continue = tells_unit
    says_stmt (return e) = says_maybe u.types e

    says_stmts : (ss : Stmts) → Says (b.are_plain_stmts u own ss) (ArePlainStmts u own ss)
    says_stmts no_stmts = tells_unit
    says_stmts (and_stmts a ss) = tells_if (says_stmt a) (says_stmts ss)
