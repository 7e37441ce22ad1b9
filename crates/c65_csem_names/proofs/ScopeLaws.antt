-- What the tests of scopes tell, where the marks are those of a scope.
use Rattle.std.proofs.Common.{◌≡◌, ℕ, zero, suc, ◌<◌, List, [], ◌∷◌, length, replicate, refl, sym, ap, ◌∙◌, arith, Some, None, Bool, true, false, not, ◌||◌, Option, slice_set, subst}
use Rattle.std.specs.Prelude.{IsTrue, All, ◌==◌, if◌then◌else◌}
use Rattle.std.proofs.lemmas.Bool.{eqb-true, eqb-false}
use Rattle.std.proofs.lemmas.Option.{slice_get_within}
use Rattle.c65_csem.specs.Trees.{Typed, node, Node, constant, null, literal, object, func, deref, member, load, address, decay, convert, unary, binary, both, either, choice, comma, assign, assign_op, assign_step, step, copy, call, pack, spill, rest, Nodes, none, some, Stmt, empty, eval, set_part, clear, block, if_stmt, while, do_while, for_loop, switch, case, default, label, goto, break, continue, return, Stmts, no_stmts, and_stmts, MaybeTyped, absent, present, ObjectTy, FuncTy, UnitTy}
use Rattle.c65_meaning.specs.Shapes.{object_in, lives_in_frame}
use Rattle.c65_meaning.specs.After.{is_among}
use Rattle.c65_csem_names.specs.Scopes.{is_variadic, entering, IsInScope, IsScopedIn, IsScopedNode, AreScopedIn, IsScopedMaybe, IsScoped, AreScoped, IsScopedBody, HasScopedBody}
use Rattle.c65_csem_names.specs.Tests as b
use Rattle.c65_csem_names.proofs.Tells.{Tells, like, tells_itself, tells_unit, tells_if, tells_all}
use Rattle.c65_csem_names.proofs.Tells as t

-- ---- marks

pub record Marks (u : UnitTy) (marks : List Bool) (scope : List ℕ) : Type 0 where
  pub room : length marks ≡ length u.objects
  pub each : (i : ℕ) → IsTrue (lives_in_frame (object_in u i)) → b.is_marked marks i ≡ is_among scope i

set_length : (marks : List Bool) (i : ℕ) → length (slice_set marks i true) ≡ length marks
set_length [] i = refl
set_length (m ∷ marks) zero = refl
set_length (m ∷ marks) (suc i) = ap suc (set_length marks i)

marked_here : (marks : List Bool) (i : ℕ) → i < length marks → b.is_marked (slice_set marks i true) i ≡ true
marked_here [] i below = absurd (omega arith)
marked_here (m ∷ marks) zero below = refl
marked_here (m ∷ marks) (suc i) below = marked_here marks i (omega arith)

marked_other : (marks : List Bool) (i j : ℕ) → (i ≡ j → ⊥) → b.is_marked (slice_set marks i true) j ≡ b.is_marked marks j
marked_other [] i j n = refl
marked_other (m ∷ marks) zero zero n = absurd (n refl)
marked_other (m ∷ marks) zero (suc j) n = refl
marked_other (m ∷ marks) (suc i) zero n = refl
marked_other (m ∷ marks) (suc i) (suc j) n = marked_other marks i j (λ e. n (ap suc e))

marked_by : (marks : List Bool) (i j : ℕ) (t a : Bool) → j < length marks → (i == j) ≡ t → b.is_marked marks j ≡ a → b.is_marked (slice_set marks i true) j ≡ (if t then true else a)
marked_by marks i j true a below e h =
    let same = eqb-true i j e in
    subst (λ (k : ℕ). b.is_marked (slice_set marks i true) k ≡ true) same (marked_here marks i (omega (arith, below, same)))
marked_by marks i j false a below e h = marked_other marks i j (eqb-false i j e) ∙ h

within : (u : UnitTy) (i : ℕ) (o : Option ObjectTy) → object_in u i ≡ o → IsTrue (lives_in_frame o) → i < length u.objects
within u i None e h = cc
within u i (Some x) e h = slice_get_within u.objects i x e

module _ (u : UnitTy) where
  with_one : (marks : List Bool) (scope : List ℕ) (i : ℕ) → Marks u marks scope → Marks u (slice_set marks i true) (i ∷ scope)
  with_one marks scope i m = record { room = set_length marks i ∙ m.room; each = λ j h. each j h }
    where
      each : (j : ℕ) → IsTrue (lives_in_frame (object_in u j)) → b.is_marked (slice_set marks i true) j ≡ is_among (i ∷ scope) j
      each j h =
          let below = within u j (object_in u j) refl h in
          let room = m.room in
          marked_by marks i j (i == j) (is_among scope j) (omega (arith, below, room)) refl (m.each j h)

  pub with_all : (objects : List ℕ) (marks : List Bool) (scope : List ℕ) → Marks u marks scope → Marks u (b.entered objects marks) (entering objects scope)
  with_all [] marks scope m = m
  with_all (i ∷ is) marks scope m = with_all is (slice_set marks i true) (i ∷ scope) (with_one marks scope i m)

  unmarked : (n i : ℕ) → b.is_marked (replicate n false) i ≡ false
  unmarked zero i = refl
  unmarked (suc n) zero = refl
  unmarked (suc n) (suc i) = unmarked n i

  replicated : (n : ℕ) → length (replicate n false) ≡ n
  replicated zero = refl
  replicated (suc n) = ap suc (replicated n)

  pub none_marked : Marks u (replicate (length u.objects) false) []
  none_marked = record { room = replicated (length u.objects); each = λ i h. unmarked (length u.objects) i }

  -- ---- names

  named_by : (x m a : Bool) → (x ≡ true → m ≡ a) → Tells (not x || m) (x ≡ true → a ≡ true)
  named_by true m a e = record { yes = λ h w. sym (e refl) ∙ h; only = λ w. e refl ∙ w refl }
  named_by false m a e = record { yes = λ h w. cc; only = λ w. refl }

  module _ (ms : List Bool) (s : List ℕ) (m : Marks u ms s) where
    tells_named : (i : ℕ) → Tells (b.is_in_scope u ms i) (IsInScope u s i)
    tells_named i = named_by (lives_in_frame (object_in u i)) (b.is_marked ms i) (is_among s i) (λ h. m.each i h)

    module _ (variadic : Bool) where
      mutual
        tells_in : (e : Typed) → Tells (b.is_scoped_in u variadic ms e) (IsScopedIn u variadic s e)
        tells_in (node t e) = tells_node e

        tells_node : (e : Node) → Tells (b.is_scoped_node u variadic ms e) (IsScopedNode u variadic s e)
        tells_node (constant z) = tells_unit
        tells_node null = tells_unit
        tells_node (literal l) = tells_unit
        tells_node (object i) = tells_named i
        tells_node (func f) = tells_unit
        tells_node (deref a) = tells_in a
        tells_node (member a n) = tells_in a
        tells_node (load a) = tells_in a
        tells_node (address a) = tells_in a
        tells_node (decay a) = tells_in a
        tells_node (convert a) = tells_in a
        tells_node (unary op a) = tells_in a
        tells_node (binary op a c) = t.both (tells_in a) (tells_in c)
        tells_node (both a c) = t.both (tells_in a) (tells_in c)
        tells_node (either a c) = t.both (tells_in a) (tells_in c)
        tells_node (choice d a c) = t.three (tells_in d) (tells_in a) (tells_in c)
        tells_node (comma a c) = t.both (tells_in a) (tells_in c)
        tells_node (assign a c) = t.both (tells_in a) (tells_in c)
        tells_node (assign_op op k a c) = t.both (tells_in a) (tells_in c)
        tells_node (assign_step op a c) = t.both (tells_in a) (tells_in c)
        tells_node (step kind a) = tells_in a
        tells_node (copy a c) = t.both (tells_in a) (tells_in c)
        tells_node (call f es) = t.both (tells_in f) (tells_all_in es)
        tells_node (pack a) = tells_in a
        tells_node (spill i a) = t.both (tells_named i) (tells_in a)
        tells_node rest = tells_itself variadic

        tells_all_in : (es : Nodes) → Tells (b.are_scoped_in u variadic ms es) (AreScopedIn u variadic s es)
        tells_all_in none = tells_unit
        tells_all_in (some e es) = tells_if (tells_in e) (tells_all_in es)

      tells_maybe : (e : MaybeTyped) → Tells (b.is_scoped_maybe u variadic ms e) (IsScopedMaybe u variadic s e)
      tells_maybe absent = tells_unit
      tells_maybe (present e) = tells_in e

  -- ---- statements

  module _ (variadic : Bool) where
    mutual
      tells_scoped : (ms : List Bool) (s : List ℕ) → Marks u ms s → (a : Stmt) → Tells (b.is_scoped u variadic ms a) (IsScoped u variadic s a)
      tells_scoped ms s m empty = tells_unit
      tells_scoped ms s m (eval e) = tells_in ms s m variadic e
      tells_scoped ms s m (set_part i o e) = t.both (tells_named ms s m i) (tells_in ms s m variadic e)
      tells_scoped ms s m (clear i) = tells_named ms s m i
      tells_scoped ms s m (block objects ss) = tells_all_scoped (b.entered objects ms) (entering objects s) (with_all objects ms s m) ss
      tells_scoped ms s m (if_stmt e a c) = t.three (tells_in ms s m variadic e) (tells_scoped ms s m a) (tells_scoped ms s m c)
      tells_scoped ms s m (while e a) = t.both (tells_in ms s m variadic e) (tells_scoped ms s m a)
      tells_scoped ms s m (do_while a e) = t.both (tells_scoped ms s m a) (tells_in ms s m variadic e)
      tells_scoped ms s m (for_loop i c n a) = t.four (tells_maybe ms s m variadic i) (tells_maybe ms s m variadic c) (tells_maybe ms s m variadic n) (tells_scoped ms s m a)
      tells_scoped ms s m (switch e a) = t.both (tells_in ms s m variadic e) (tells_scoped ms s m a)
      tells_scoped ms s m (case z a) = tells_scoped ms s m a
      tells_scoped ms s m (default a) = tells_scoped ms s m a
      tells_scoped ms s m (label l a) = tells_scoped ms s m a
      tells_scoped ms s m (goto l) = tells_unit
      tells_scoped ms s m break = tells_unit
      tells_scoped ms s m continue = tells_unit
      tells_scoped ms s m (return e) = tells_maybe ms s m variadic e

      tells_all_scoped : (ms : List Bool) (s : List ℕ) → Marks u ms s → (ss : Stmts) → Tells (b.are_scoped u variadic ms ss) (AreScoped u variadic s ss)
      tells_all_scoped ms s m no_stmts = tells_unit
      tells_all_scoped ms s m (and_stmts a ss) = tells_if (tells_scoped ms s m a) (tells_all_scoped ms s m ss)

  -- ---- bodies

  tells_body : (variadic : Bool) (ms : List Bool) → Marks u ms [] → (params : List ℕ) (body : Option Stmt) → Tells (b.is_scoped_body u variadic ms params body) (IsScopedBody u variadic params body)
  tells_body variadic ms m params None = tells_unit
  tells_body variadic ms m params (Some body) = tells_scoped variadic (b.entered params ms) (entering params []) (with_all params ms [] m) body

  tells_funcs : (ms : List Bool) → Marks u ms [] → (fs : List FuncTy) → Tells (b.are_scoped_funcs u ms fs) (All (HasScopedBody u) fs)
  tells_funcs ms m fs = tells_all (b.are_scoped_funcs u ms) (b.is_scoped_func u ms) (HasScopedBody u) refl (λ f fs. refl) (λ f. tells_body (is_variadic f.ty) ms m f.params f.body) fs

  pub tells_bodies : Tells (b.are_scoped_bodies u) (All (HasScopedBody u) u.funcs)
  tells_bodies = tells_funcs (replicate (length u.objects) false) none_marked u.funcs
