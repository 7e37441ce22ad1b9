-- Pending work of a program, and that of the program with its expressions folded, side by side.
use Rattle.std.proofs.Common.{◌≡◌, ℕ, suc, ◌+◌, ℤ, List, [], ◌∷◌, length, Option, Some, None, Bool, true, false, map, refl, sym, ap, ◌∙◌, subst}
use Rattle.std.specs.Prelude.{⊤}
use Rattle.c65_base.specs.declared.operators.BinaryOp.{BinaryOp}
use Rattle.c65_ctype.specs.Trees.{QTy, type_in, Ty}
use Rattle.c65_ctype.specs.Sizes.{size_of}
use Rattle.c65_csem.specs.Trees.{Typed, node, Node, constant, null, literal, object, func, deref, member, load, address, decay, convert, unary, binary, both, either, choice, comma, assign, assign_op, assign_step, step, copy, call, pack, spill, rest, Nodes, none, some, Stmt, empty, eval, set_part, clear, block, if_stmt, while, do_while, for_loop, switch, case, default, label, goto, break, continue, return, Stmts, no_stmts, and_stmts, MaybeTyped, absent, present, UnitTy}
use Rattle.c65_csem.specs.Places.{member_at}
use Rattle.c65_csem.specs.Typed.{IsTyped, IsNode, IsGiven, IsCalled, AreTyped}
use Rattle.c65_csem.specs.Statements.{Context, looping, switching, IsMaybe, IsMaybeCondition, IsStmt, AreStmts}
use Rattle.c65_fold.specs.Folded as g
use Rattle.c65_fold.specs.Constants.{number_type}
use Rattle.c65_fold.specs.Folded.{value_at, by_value, settled, folded, folded_node, folded_nodes}
use Rattle.c65_fold.proofs.FoldLaws.{never}
use Rattle.c65_meaning.specs.Store.{Whole, Null, Place, Shape, Number, Field, Pointer, Area}
use Rattle.c65_meaning.specs.Operators.{is_post}
use Rattle.c65_meaning.specs.Shapes.{bare_type, types_of, shape_of, place_shape, offset_of}
use Rattle.c65_meaning.specs.Sites.{count, cases_of}
use Rattle.c65_meaning.specs.Items.{Item, Loop, Push, Name, Follow, Move, Fetch, Keep, Change, Apply1, Apply2, Both, Either, Choose, Drop, Put, Peek, Bump, Carry, Gather, Lay, Reach, Invoke, Skip, Wipe, Begin, Branch, Test, Pass, Enter, Next, Back, Check, Redo, Select, Jump, LeaveLoop, GoOn, Give, GiveNothing, put_step, initial_store, test_first, test_last, plan, plan_node, plan_all, first, tested, given, head_of, plan_stmt, plan_stmts}
use Rattle.c65_fold_law.specs.Programs.{folded_if, folded_stmt, folded_stmts, folded_func, folded_unit}
use Rattle.c65_fold_law.proofs.Kept.{bare_same, place_same, types_same, funcs_same, count_same, cases_same}

-- an item of the one work with its item in the other, or the whole work of an expression with a constant
pub data Mark : Type 0 where
  Plain : (i : Item) → Mark
  Known : (e : Typed) (z : ℤ) → Mark

abbrev pub folded_loop : Loop → Loop
folded_loop l = record { test = folded_if l.test; next = folded_if l.next; at = l.at; body = folded_stmt l.body }

abbrev pub folded_item : Item → Item
folded_item (Both b) = Both (folded b)
folded_item (Either b) = Either (folded b)
folded_item (Choose a b) = Choose (folded a) (folded b)
folded_item (Begin n objects body) = Begin n objects (folded_stmts body)
folded_item (Branch m a n b) = Branch m (folded_stmt a) n (folded_stmt b)
folded_item (Test l) = Test (folded_loop l)
folded_item (Pass l) = Pass (folded_loop l)
folded_item (Enter l) = Enter (folded_loop l)
folded_item (Next l) = Next (folded_loop l)
folded_item (Back l) = Back (folded_loop l)
folded_item (Check l) = Check (folded_loop l)
folded_item (Redo l) = Redo (folded_loop l)
folded_item (Select left n body) = Select left n (folded_stmt body)
folded_item i = i

module _ (u : UnitTy) where
  abbrev pub TypedStmt : Stmt → Type 0
  TypedStmt s = (c : Context) × IsStmt u c s

  abbrev pub TypedStmts : Stmts → Type 0
  TypedStmts ss = (c : Context) × AreStmts u c ss

  pub record TypedLoop (l : Loop) : Type 0 where
    pub test : IsMaybe u l.test
    pub next : IsMaybe u l.next
    pub body : TypedStmt l.body

  abbrev pub TypedItem : Item → Type 0
  TypedItem (Both b) = IsTyped u b
  TypedItem (Either b) = IsTyped u b
  TypedItem (Choose a b) = IsTyped u a × IsTyped u b
  TypedItem (Begin n objects body) = TypedStmts body
  TypedItem (Branch m a n b) = TypedStmt a × TypedStmt b
  TypedItem (Test l) = TypedLoop l
  TypedItem (Pass l) = TypedLoop l
  TypedItem (Enter l) = TypedLoop l
  TypedItem (Next l) = TypedLoop l
  TypedItem (Back l) = TypedLoop l
  TypedItem (Check l) = TypedLoop l
  TypedItem (Redo l) = TypedLoop l
  TypedItem (Select left n body) = TypedStmt body
  TypedItem i = ⊤

  abbrev pub left : List Mark → List Item
  left [] = []
  left (Plain i ∷ m) = i ∷ left m
  left (Known e z ∷ m) = plan u e (left m)

  abbrev pub right : List Mark → List Item
  right [] = []
  right (Plain i ∷ m) = folded_item i ∷ right m
  right (Known e z ∷ m) = Push (Whole z) ∷ right m

  abbrev pub AreGood : List Mark → Type 0
  AreGood [] = ⊤
  AreGood (Plain i ∷ m) = TypedItem i × AreGood m
  AreGood (Known e z ∷ m) = IsTyped u e × (g.known (folded e) ≡ Some z) × AreGood m

  pub record Works (k l : List Item) : Type 0 where
    pub marks : List Mark
    pub left_is : left marks ≡ k
    pub right_is : right marks ≡ l
    pub good : AreGood marks

  pub of_marks : (m : List Mark) → AreGood m → Works (left m) (right m)
  of_marks m h = record { marks = m; left_is = refl; right_is = refl; good = h }

  pub item : (i : Item) (k l : List Item) → TypedItem i → Works k l → Works (i ∷ k) (folded_item i ∷ l)
  item i k l h w = record { marks = Plain i ∷ w.marks; left_is = ap (λ (x : List Item). i ∷ x) w.left_is; right_is = ap (λ (x : List Item). folded_item i ∷ x) w.right_is; good = (h, w.good) }

  pub item_as : (i j : Item) (k l : List Item) → TypedItem i → folded_item i ≡ j → Works k l → Works (i ∷ k) (j ∷ l)
  item_as i j k l h e w = subst (λ (x : Item). Works (i ∷ k) (x ∷ l)) e (item i k l h w)

  known_work : (e : Typed) (z : ℤ) (k l : List Item) → IsTyped u e → g.known (folded e) ≡ Some z → Works k l → Works (plan u e k) (Push (Whole z) ∷ l)
  known_work e z k l h g w = record { marks = Known e z ∷ w.marks; left_is = ap (λ (x : List Item). plan u e x) w.left_is; right_is = ap (λ (x : List Item). Push (Whole z) ∷ x) w.right_is; good = (h, g, w.good) }

  -- ---- items that name types, which folding keeps

  abbrev shape : Typed → Shape
  shape e = shape_of u.types (bare_type e)

  shape_same : (e : Typed) → shape (folded e) ≡ shape e
  shape_same e = ap (λ (t : Ty). shape_of u.types t) (bare_same e)

  abbrev at : Typed → Shape
  at e = place_shape u.types e

  apply2_same : (op : BinaryOp) (a b : Typed) → Apply2 op (shape a) (shape b) ≡ Apply2 op (shape (folded a)) (shape (folded b))
  apply2_same op a b = sym (ap (λ (s : Shape). Apply2 op s (shape (folded b))) (shape_same a) ∙ ap (λ (s : Shape). Apply2 op (shape a) s) (shape_same b))

  put_item : (b : Bool) (s : Shape) → folded_item (put_step b s) ≡ put_step b s
  put_item true s = refl
  put_item false s = refl

  put_typed : (b : Bool) (s : Shape) → TypedItem (put_step b s)
  put_typed true s = tt
  put_typed false s = tt

  initial_item : (i o : ℕ) (s : Shape) → folded_item (initial_store i o s) ≡ initial_store i o s
  initial_item i o (Number t) = refl
  initial_item i o (Field t low width) = refl
  initial_item i o (Pointer size) = refl
  initial_item i o (Area size) = refl

  initial_typed : (i o : ℕ) (s : Shape) → TypedItem (initial_store i o s)
  initial_typed i o (Number t) = tt
  initial_typed i o (Field t low width) = tt
  initial_typed i o (Pointer size) = tt
  initial_typed i o (Area size) = tt

  -- ---- expressions

  by_cases : (t : QTy) (n : Node) (v : Option ℤ) → value_at t (folded_node n) ≡ v → IsNode u t n → (k l : List Item) → Works k l → Works (plan_node u t n k) (plan_node (folded_unit u) t (folded_node n) l) → Works (plan_node u t n k) (plan (folded_unit u) (by_value t (folded_node n) v) l)
  by_cases t n None e h k l w x = x
  by_cases t n (Some z) e h k l w x = known_work (node t n) z k l h (ap (λ (v : Option ℤ). g.known (by_value t (folded_node n) v)) e) w

  -- a node that has no value is not replaced
  unknown : (t : QTy) (n m : Node) (k l : List Item) → value_at t m ≡ None → Works (plan_node u t n k) (plan_node (folded_unit u) t m l) → Works (plan_node u t n k) (plan (folded_unit u) (settled t m) l)
  unknown t n m k l e w = subst (λ (v : Option ℤ). Works (plan_node u t n k) (plan (folded_unit u) (by_value t m v) l)) (sym e) w

  invoke_works : (f : Typed) (es : Nodes) (k l : List Item) → Works k l → Works (Invoke (bare_type f) (types_of es) ∷ k) (Invoke (bare_type (folded f)) (types_of (folded_nodes es)) ∷ l)
  invoke_works f es k l w = item_as (Invoke (bare_type f) (types_of es)) _ k l tt (sym (ap (λ (s : Ty). Invoke s (types_of (folded_nodes es))) (bare_same f) ∙ ap (λ (ts : List Ty). Invoke (bare_type f) ts) (types_same es))) w

  mutual
    pub plan_works : (e : Typed) → IsTyped u e → (k l : List Item) → Works k l → Works (plan u e k) (plan (folded_unit u) (folded e) l)
    plan_works (node t n) h k l w = by_cases t n (value_at t (folded_node n)) refl h k l w (node_works t n h k l w)

    node_works : (t : QTy) (n : Node) → IsNode u t n → (k l : List Item) → Works k l → Works (plan_node u t n k) (plan_node (folded_unit u) t (folded_node n) l)
    node_works t (constant z) h k l w = item (Push (Whole z)) k l tt w
    node_works t null h k l w = item (Push Null) k l tt w
    node_works t (literal n) h k l w = item_as (Push (Place (length u.funcs + n) 0)) (Push (Place (length (map folded_func u.funcs) + n) 0)) k l tt (ap (λ (c : ℕ). Push (Place (c + n) 0)) (sym (funcs_same u.funcs))) w
    node_works t (object i) h k l w = item (Name i) k l tt w
    node_works t (func f) h k l w = item (Push (Place f 0)) k l tt w
    node_works t (deref a) h k l w = plan_works a h.0 _ _ (item Follow k l tt w)
    node_works t (member a m) h k l w = plan_works a h.0 _ _ (item_as (Move (offset_of (member_at u.types (bare_type a) m))) _ k l tt (sym (ap (λ (s : Ty). Move (offset_of (member_at u.types s m))) (bare_same a))) w)
    node_works t (load a) h k l w = plan_works a h.0 _ _ (item_as (Fetch (at a)) _ k l tt (sym (ap (λ (s : Shape). Fetch s) (place_same u.types a))) w)
    node_works t (address a) h k l w = plan_works a h.0 _ _ (item Keep k l tt w)
    node_works t (decay a) h k l w = plan_works a h.0 _ _ (item Keep k l tt w)
    node_works t (convert a) h k l w = plan_works a h.0 _ _ (item (Change (shape_of u.types (type_in t))) k l tt w)
    node_works t (unary op a) h k l w = plan_works a h.0 _ _ (item_as (Apply1 op (shape a)) _ k l tt (sym (ap (λ (s : Shape). Apply1 op s) (shape_same a))) w)
    node_works t (binary op a b) h k l w = plan_works a h.0 _ _ (plan_works b h.1 _ _ (item_as (Apply2 op (shape a) (shape b)) _ k l tt (apply2_same op a b) w))
    node_works t (both a b) h k l w = plan_works a h.0 _ _ (item (Both b) k l h.1 w)
    node_works t (either a b) h k l w = plan_works a h.0 _ _ (item (Either b) k l h.1 w)
    node_works t (choice d a b) h k l w = plan_works d h.0 _ _ (item (Choose a b) k l (h.1, h.2) w)
    node_works t (comma a b) h k l w = plan_works a h.0 _ _ (item Drop _ _ tt (plan_works b h.1 k l w))
    node_works t (assign a b) h k l w = plan_works a h.0 _ _ (plan_works b h.1 _ _ (item_as (Put (at a)) _ k l tt (sym (ap (λ (s : Shape). Put s) (place_same u.types a))) w))
    node_works t (assign_op op ct a b) h k l w =
        plan_works a h.0 _ _ (item_as (Peek (at a) (Number ct)) _ _ _ tt (sym (ap (λ (s : Shape). Peek s (Number ct)) (place_same u.types a)))
        (plan_works b h.1 _ _ (item_as (Apply2 op (Number ct) (shape b)) _ _ _ tt (sym (ap (λ (s : Shape). Apply2 op (Number ct) s) (shape_same b)))
        (item_as (Put (at a)) _ k l tt (sym (ap (λ (s : Shape). Put s) (place_same u.types a))) w))))
    node_works t (assign_step op a b) h k l w =
        plan_works a h.0 _ _ (item_as (Peek (shape a) (shape a)) _ _ _ tt (sym (ap (λ (s : Shape). Peek s s) (shape_same a)))
        (plan_works b h.1 _ _ (item_as (Apply2 op (shape a) (shape b)) _ _ _ tt (apply2_same op a b)
        (item_as (Put (shape a)) _ k l tt (sym (ap (λ (s : Shape). Put s) (shape_same a))) w))))
    node_works t (step kind a) h k l w =
        plan_works a h.0 _ _ (item_as (Peek (at a) (at a)) _ _ _ tt (sym (ap (λ (s : Shape). Peek s s) (place_same u.types a)))
        (item_as (Bump kind (at a)) _ _ _ tt (sym (ap (λ (s : Shape). Bump kind s) (place_same u.types a)))
        (item_as (put_step (is_post kind) (at a)) _ k l (put_typed (is_post kind) (at a)) (put_item (is_post kind) (at a) ∙ sym (ap (λ (s : Shape). put_step (is_post kind) s) (place_same u.types a))) w)))
    node_works t (copy a b) h k l w = plan_works a h.0 _ _ (plan_works b h.1 _ _ (item_as (Carry 0 (size_of u.types (bare_type a))) _ k l tt (sym (ap (λ (s : Ty). Carry 0 (size_of u.types s)) (bare_same a))) w))
    node_works t (call f es) h k l w = plan_works f h.0 _ _ (nodes_work es h.4 _ _ (invoke_works f es k l w))
    node_works t (pack a) h k l w = absurd h
    node_works t (spill i a) h k l w = called_works t a h.0 _ _ (item (Lay i 0 (size_of u.types (type_in t))) k l tt w)
    node_works t rest h k l w = item Reach k l tt w

    -- a call that gives a structure or union
    called_works : (t : QTy) (a : Typed) → IsCalled u t a → (k l : List Item) → Works k l → Works (plan u a k) (plan (folded_unit u) (folded a) l)
    called_works t (node s (call f es)) h k l w = unknown s (call f es) (call (folded f) (folded_nodes es)) k l (never (number_type (type_in s))) (plan_works f h.2 _ _ (nodes_work es h.5 _ _ (invoke_works f es k l w)))
    called_works t (node s _) h k l w = absurd h

    -- an argument or a returned value
    pub passed_works : (e : Typed) → IsGiven u e → (k l : List Item) → Works k l → Works (plan u e k) (plan (folded_unit u) (folded e) l)
    passed_works (node t (pack a)) h k l w = unknown t (pack a) (pack (folded a)) k l (never (number_type (type_in t))) (plan_works a h.0 _ _ (item (Gather (size_of u.types (type_in t))) k l tt w))
    passed_works (node t n) h k l w = by_cases t n (value_at t (folded_node n)) refl h.0 k l w (node_works t n h.0 k l w)

    nodes_work : (es : Nodes) → AreTyped u es → (k l : List Item) → Works k l → Works (plan_all u es k) (plan_all (folded_unit u) (folded_nodes es) l)
    nodes_work none h k l w = w
    nodes_work (some e es) h k l w = passed_works e h.0 _ _ (nodes_work es h.1 k l w)

  -- ---- statements

  first_works : (o : MaybeTyped) → IsMaybe u o → (k l : List Item) → Works k l → Works (first u o k) (first (folded_unit u) (folded_if o) l)
  first_works absent h k l w = w
  first_works (present e) h k l w = plan_works e h _ _ (item Drop k l tt w)

  tested_works : (o : MaybeTyped) → IsMaybe u o → (k l a b : List Item) → Works k l → Works a b → Works (tested u o k a) (tested (folded_unit u) (folded_if o) l b)
  tested_works absent h k l a b w v = v
  tested_works (present e) h k l a b w v = plan_works e h k l w

  abbrev IsPassed : MaybeTyped → Type 0
  IsPassed absent = ⊤
  IsPassed (present e) = IsGiven u e

  given_works : (o : MaybeTyped) → IsPassed o → (k l : List Item) → Works k l → Works (given u o k) (given (folded_unit u) (folded_if o) l)
  given_works absent h k l w = item GiveNothing k l tt w
  given_works (present e) h k l w = passed_works e h _ _ (item Give k l tt w)

  pub head_works : (lp : Loop) → TypedLoop lp → (k l : List Item) → Works k l → Works (head_of u lp k) (head_of (folded_unit u) (folded_loop lp) l)
  head_works lp h k l w = tested_works lp.test h.test _ _ _ _ (item (Test lp) k l h w) (item (Pass lp) k l h w)

  condition : (o : MaybeTyped) → IsMaybeCondition u o → IsMaybe u o
  condition absent h = tt
  condition (present e) h = h.0

  pub loop_of_for : (n : ℕ) (i t x : MaybeTyped) (s : Stmt) (c : Context) → IsStmt u c (for_loop i t x s) → TypedLoop (test_first t x (suc n) s)
  loop_of_for n i t x s c h = record { test = condition t h.1; next = h.2; body = (looping c, h.3) }

  returned_typed : (c : Context) (o : MaybeTyped) → IsStmt u c (return o) → IsPassed o
  returned_typed c absent h = tt
  returned_typed c (present e) h = h.0

  mutual
    pub stmt_works : (n : ℕ) (s : Stmt) (c : Context) → IsStmt u c s → (k l : List Item) → Works k l → Works (plan_stmt u n s k) (plan_stmt (folded_unit u) n (folded_stmt s) l)
    stmt_works n empty c h k l w = item Skip k l tt w
    stmt_works n (eval e) c h k l w = plan_works e h _ _ (item Drop k l tt w)
    stmt_works n (set_part i o e) c h k l w = plan_works e h.typed _ _ (item_as (initial_store i o (shape e)) _ k l (initial_typed i o (shape e)) (initial_item i o (shape e) ∙ sym (ap (λ (s : Shape). initial_store i o s) (shape_same e))) w)
    stmt_works n (clear i) c h k l w = item (Wipe i 0 _) k l tt w
    stmt_works n (block objects ss) c h k l w = item (Begin (suc n) objects ss) k l (c, h.1) w
    stmt_works n (if_stmt e a b) c h k l w = plan_works e h.0.0 _ _ (item_as (Branch (suc n) a (suc n + count a) b) _ k l ((c, h.1), (c, h.2)) (sym (ap (λ (m : ℕ). Branch (suc n) (folded_stmt a) (suc n + m) (folded_stmt b)) (count_same a))) w)
    stmt_works n (while e s) c h k l w = head_works (test_first (present e) absent (suc n) s) (record { test = h.0.0; next = tt; body = (looping c, h.1) }) k l w
    stmt_works n (do_while s e) c h k l w = item (Enter (test_last e (suc n) s)) k l (record { test = h.1.0; next = tt; body = (looping c, h.0) }) w
    stmt_works n (for_loop i t x s) c h k l w = first_works i h.0 _ _ (head_works (test_first t x (suc n) s) (loop_of_for n i t x s c h) k l w)
    stmt_works n (switch e s) c h k l w = plan_works e h.1.typed _ _ (item_as (Select (cases_of s) (suc n) s) _ k l (switching h.0 c, h.2) (sym (ap (λ (m : ℕ). Select m (suc n) (folded_stmt s)) (cases_same s))) w)
    stmt_works n (case v s) c h k l w = stmt_works (suc n) s c h.1 k l w
    stmt_works n (default s) c h k l w = stmt_works (suc n) s c h.1 k l w
    stmt_works n (label m s) c h k l w = stmt_works (suc n) s c h k l w
    stmt_works n (goto m) c h k l w = item (Jump m n) k l tt w
    stmt_works n break c h k l w = item LeaveLoop k l tt w
    stmt_works n continue c h k l w = item GoOn k l tt w
    stmt_works n (return o) c h k l w = given_works o (returned_typed c o h) k l w

    pub stmts_work : (n : ℕ) (ss : Stmts) (c : Context) → AreStmts u c ss → (k l : List Item) → Works k l → Works (plan_stmts u n ss k) (plan_stmts (folded_unit u) n (folded_stmts ss) l)
    stmts_work n no_stmts c h k l w = w
    stmts_work n (and_stmts s more) c h k l w = subst (λ (m : ℕ). Works (plan_stmts u n (and_stmts s more) k) (plan_stmt (folded_unit u) n (folded_stmt s) (plan_stmts (folded_unit u) (n + m) (folded_stmts more) l))) (sym (count_same s)) (stmt_works n s c h.0 _ _ (stmts_work (n + count s) more c h.1 k l w))
