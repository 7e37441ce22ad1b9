-- What jumps leave and where they go on, in pending work side by side.
use Rattle.std.proofs.Common.{◌≡◌, ℕ, suc, ◌+◌, List, [], ◌∷◌, Option, Some, None, Bool, true, false, IsTrue, refl, sym, ap, ◌∙◌, subst}
use Rattle.c65_ctype.specs.Trees.{QTy, type_in}
use Rattle.c65_csem.specs.Trees.{Typed, node, Node, constant, null, literal, object, func, deref, member, load, address, decay, convert, unary, binary, both, either, choice, comma, assign, assign_op, assign_step, step, copy, call, pack, spill, rest, Nodes, none, some, Stmt, empty, eval, set_part, clear, block, if_stmt, while, do_while, for_loop, switch, case, default, label, goto, break, continue, return, Stmts, no_stmts, and_stmts, absent, present, UnitTy}
use Rattle.c65_csem.specs.Statements.{Context, looping, switching, IsStmt, AreStmts}
use Rattle.c65_meaning.specs.Operators.{is_post}
use Rattle.c65_csem.specs.Places.{member_at}
use Rattle.c65_ctype.specs.Sizes.{size_of}
use Rattle.c65_meaning.specs.Shapes.{bare_type, types_of, shape_of, place_shape, offset_of, literal_block}
use Rattle.c65_meaning.specs.Store.{Shape, Number, Whole, Null, Place}
use Rattle.c65_meaning.specs.Sites.{count}
use Rattle.c65_meaning.specs.Items.{Item, Push, Name, Follow, Move, Fetch, Keep, Change, Apply1, Apply2, Both, Either, Choose, Drop, Put, Peek, Bump, PutUnder, Carry, Gather, Lay, Reach, Invoke, End, Next, Check, EndSwitch, Leave, put_step, test_first, test_last, plan, plan_node, plan_all, plan_stmts}
use Rattle.c65_meaning.specs.After.{Sought, ToLabel, ToCase, ToDefault, Landing, or_else, within, is_label, is_case, is_default, for_label, found, after, after_all, Left, ending, up_to_call, up_to_break, up_to_continue}
use Rattle.c65_fold_law.specs.Programs.{folded_stmt, folded_stmts, folded_unit}
use Rattle.c65_fold_law.proofs.Kept.{count_same}
use Rattle.c65_fold_law.proofs.Marks.{Mark, Plain, Known, folded_loop, left, right, AreGood, Works, of_marks, item, stmt_works, stmts_work, loop_of_for}

-- ---- an expression's items are no ends of blocks, loops, switches or calls

abbrev is_operand : Item → Bool
is_operand (End objects) = false
is_operand (Next l) = false
is_operand (Check l) = false
is_operand EndSwitch = false
is_operand Leave = false
is_operand _ = true

abbrev Skips : (List Item → Option Left) → Type 0
Skips f = (i : Item) (k : List Item) → IsTrue (is_operand i) → f (i ∷ k) ≡ f k

call_skips : Skips up_to_call
call_skips (End objects) k h = absurd (cc)
call_skips Leave k h = absurd (cc)
call_skips _ k h = refl

break_skips : Skips up_to_break
break_skips (End objects) k h = absurd (cc)
break_skips (Next l) k h = absurd (cc)
break_skips (Check l) k h = absurd (cc)
break_skips EndSwitch k h = absurd (cc)
break_skips Leave k h = absurd (cc)
break_skips _ k h = refl

continue_skips : Skips up_to_continue
continue_skips (End objects) k h = absurd (cc)
continue_skips (Next l) k h = absurd (cc)
continue_skips (Check l) k h = absurd (cc)
continue_skips Leave k h = absurd (cc)
continue_skips _ k h = refl

module _ (u : UnitTy) (f : List Item → Option Left) (skips : Skips f) where
  abbrev shape : Typed → Shape
  shape e = shape_of u.types (bare_type e)

  abbrev at : Typed → Shape
  at e = place_shape u.types e

  put_skips : (b : Bool) (s : Shape) (k : List Item) → f (put_step b s ∷ k) ≡ f k
  put_skips true s k = skips (PutUnder s) k refl
  put_skips false s k = skips (Put s) k refl

  mutual
    plan_skips : (e : Typed) (k : List Item) → f (plan u e k) ≡ f k
    plan_skips (node t n) k = node_skips t n k

    node_skips : (t : QTy) (n : Node) (k : List Item) → f (plan_node u t n k) ≡ f k
    node_skips t (constant z) k = skips (Push (Whole z)) k refl
    node_skips t null k = skips (Push Null) k refl
    node_skips t (literal n) k = skips (Push (Place (literal_block u n) 0)) k refl
    node_skips t (object i) k = skips (Name i) k refl
    node_skips t (func i) k = skips (Push (Place i 0)) k refl
    node_skips t (deref a) k = plan_skips a (Follow ∷ k) ∙ skips Follow k refl
    node_skips t (member a m) k = plan_skips a (Move (offset_of (member_at u.types (bare_type a) m)) ∷ k) ∙ skips (Move (offset_of (member_at u.types (bare_type a) m))) k refl
    node_skips t (load a) k = plan_skips a (Fetch (at a) ∷ k) ∙ skips (Fetch (at a)) k refl
    node_skips t (address a) k = plan_skips a (Keep ∷ k) ∙ skips Keep k refl
    node_skips t (decay a) k = plan_skips a (Keep ∷ k) ∙ skips Keep k refl
    node_skips t (convert a) k = plan_skips a (Change (shape_of u.types (type_in t)) ∷ k) ∙ skips (Change (shape_of u.types (type_in t))) k refl
    node_skips t (unary op a) k = plan_skips a (Apply1 op (shape a) ∷ k) ∙ skips (Apply1 op (shape a)) k refl
    node_skips t (binary op a b) k = plan_skips a (plan u b (Apply2 op (shape a) (shape b) ∷ k)) ∙ (plan_skips b (Apply2 op (shape a) (shape b) ∷ k) ∙ skips (Apply2 op (shape a) (shape b)) k refl)
    node_skips t (both a b) k = plan_skips a (Both b ∷ k) ∙ skips (Both b) k refl
    node_skips t (either a b) k = plan_skips a (Either b ∷ k) ∙ skips (Either b) k refl
    node_skips t (choice d a b) k = plan_skips d (Choose a b ∷ k) ∙ skips (Choose a b) k refl
    node_skips t (comma a b) k = plan_skips a (Drop ∷ plan u b k) ∙ (skips Drop (plan u b k) refl ∙ plan_skips b k)
    node_skips t (assign a b) k = plan_skips a (plan u b (Put (at a) ∷ k)) ∙ (plan_skips b (Put (at a) ∷ k) ∙ skips (Put (at a)) k refl)
    node_skips t (assign_op op ct a b) k =
        plan_skips a (Peek (at a) (Number ct) ∷ plan u b (Apply2 op (Number ct) (shape b) ∷ Put (at a) ∷ k))
        ∙ (skips (Peek (at a) (Number ct)) (plan u b (Apply2 op (Number ct) (shape b) ∷ Put (at a) ∷ k)) refl
        ∙ (plan_skips b (Apply2 op (Number ct) (shape b) ∷ Put (at a) ∷ k)
        ∙ (skips (Apply2 op (Number ct) (shape b)) (Put (at a) ∷ k) refl ∙ skips (Put (at a)) k refl)))
    node_skips t (assign_step op a b) k =
        plan_skips a (Peek (shape a) (shape a) ∷ plan u b (Apply2 op (shape a) (shape b) ∷ Put (shape a) ∷ k))
        ∙ (skips (Peek (shape a) (shape a)) (plan u b (Apply2 op (shape a) (shape b) ∷ Put (shape a) ∷ k)) refl
        ∙ (plan_skips b (Apply2 op (shape a) (shape b) ∷ Put (shape a) ∷ k)
        ∙ (skips (Apply2 op (shape a) (shape b)) (Put (shape a) ∷ k) refl ∙ skips (Put (shape a)) k refl)))
    node_skips t (step kind a) k =
        plan_skips a (Peek (at a) (at a) ∷ Bump kind (at a) ∷ put_step (is_post kind) (at a) ∷ k)
        ∙ (skips (Peek (at a) (at a)) (Bump kind (at a) ∷ put_step (is_post kind) (at a) ∷ k) refl
        ∙ (skips (Bump kind (at a)) (put_step (is_post kind) (at a) ∷ k) refl ∙ put_skips (is_post kind) (at a) k))
    node_skips t (copy a b) k = plan_skips a (plan u b (Carry 0 (size_of u.types (bare_type a)) ∷ k)) ∙ (plan_skips b (Carry 0 (size_of u.types (bare_type a)) ∷ k) ∙ skips (Carry 0 (size_of u.types (bare_type a))) k refl)
    node_skips t (call g es) k = plan_skips g (plan_all u es (Invoke (bare_type g) (types_of es) ∷ k)) ∙ (all_skips es (Invoke (bare_type g) (types_of es) ∷ k) ∙ skips (Invoke (bare_type g) (types_of es)) k refl)
    node_skips t (pack a) k = plan_skips a (Gather (size_of u.types (type_in t)) ∷ k) ∙ skips (Gather (size_of u.types (type_in t))) k refl
    node_skips t (spill i a) k = plan_skips a (Lay i 0 (size_of u.types (type_in t)) ∷ k) ∙ skips (Lay i 0 (size_of u.types (type_in t))) k refl
    node_skips t rest k = skips Reach k refl

    all_skips : (es : Nodes) (k : List Item) → f (plan_all u es k) ≡ f k
    all_skips none k = refl
    all_skips (some e es) k = plan_skips e (plan_all u es k) ∙ all_skips es k

module _ (u : UnitTy) where
  -- ---- what is left

  -- up to the end of the active call, which stays
  pub record LeavesCall (r : Left) (o : Option Left) : Type 0 where
    pub behind : List Item
    pub other : List Item
    pub works : Works u behind other
    pub work_is : r.work ≡ Leave ∷ behind
    pub is : o ≡ Some (record { objects = r.objects; work = Leave ∷ other })

  abbrev pub CallIf : Option Left → Option Left → Type 0
  CallIf None o = o ≡ None
  CallIf (Some r) o = LeavesCall r o

  pub record Leaves (r : Left) (o : Option Left) : Type 0 where
    pub other : List Item
    pub works : Works u r.work other
    pub is : o ≡ Some (record { objects = r.objects; work = other })

  abbrev pub LeftIf : Option Left → Option Left → Type 0
  LeftIf None o = o ≡ None
  LeftIf (Some r) o = Leaves r o

  ending_call : (objects : List ℕ) (r o : Option Left) → CallIf r o → CallIf (ending objects r) (ending objects o)
  ending_call objects None o h = ap (ending objects) h
  ending_call objects (Some r) o h = record { behind = h.behind; other = h.other; works = h.works; work_is = h.work_is; is = ap (ending objects) h.is }

  ending_left : (objects : List ℕ) (r o : Option Left) → LeftIf r o → LeftIf (ending objects r) (ending objects o)
  ending_left objects None o h = ap (ending objects) h
  ending_left objects (Some r) o h = record { other = h.other; works = h.works; is = ap (ending objects) h.is }

  call_marks : (m : List Mark) → AreGood u m → CallIf (up_to_call (left u m)) (up_to_call (right u m))
  call_marks [] h = refl
  call_marks (Plain Leave ∷ m) h = record { behind = left u m; other = right u m; works = of_marks u m h.1; work_is = refl; is = refl }
  call_marks (Plain (End objects) ∷ m) h = ending_call objects (up_to_call (left u m)) (up_to_call (right u m)) (call_marks m h.1)
  call_marks (Plain _ ∷ m) h = call_marks m h.1
  call_marks (Known e z ∷ m) h = subst (λ (o : Option Left). CallIf o (up_to_call (right u m))) (sym (plan_skips u up_to_call call_skips e (left u m))) (call_marks m h.2)

  break_marks : (m : List Mark) → AreGood u m → LeftIf (up_to_break (left u m)) (up_to_break (right u m))
  break_marks [] h = refl
  break_marks (Plain (Next l) ∷ m) h = record { other = right u m; works = of_marks u m h.1; is = refl }
  break_marks (Plain (Check l) ∷ m) h = record { other = right u m; works = of_marks u m h.1; is = refl }
  break_marks (Plain EndSwitch ∷ m) h = record { other = right u m; works = of_marks u m h.1; is = refl }
  break_marks (Plain Leave ∷ m) h = refl
  break_marks (Plain (End objects) ∷ m) h = ending_left objects (up_to_break (left u m)) (up_to_break (right u m)) (break_marks m h.1)
  break_marks (Plain _ ∷ m) h = break_marks m h.1
  break_marks (Known e z ∷ m) h = subst (λ (o : Option Left). LeftIf o (up_to_break (right u m))) (sym (plan_skips u up_to_break break_skips e (left u m))) (break_marks m h.2)

  continue_marks : (m : List Mark) → AreGood u m → LeftIf (up_to_continue (left u m)) (up_to_continue (right u m))
  continue_marks [] h = refl
  continue_marks (Plain (Next l) ∷ m) h = record { other = Next (folded_loop l) ∷ right u m; works = item u (Next l) (left u m) (right u m) h.0 (of_marks u m h.1); is = refl }
  continue_marks (Plain (Check l) ∷ m) h = record { other = Check (folded_loop l) ∷ right u m; works = item u (Check l) (left u m) (right u m) h.0 (of_marks u m h.1); is = refl }
  continue_marks (Plain Leave ∷ m) h = refl
  continue_marks (Plain (End objects) ∷ m) h = ending_left objects (up_to_continue (left u m)) (up_to_continue (right u m)) (continue_marks m h.1)
  continue_marks (Plain _ ∷ m) h = continue_marks m h.1
  continue_marks (Known e z ∷ m) h = subst (λ (o : Option Left). LeftIf o (up_to_continue (right u m))) (sym (plan_skips u up_to_continue continue_skips e (left u m))) (continue_marks m h.2)

  pub call_left : (k l : List Item) → Works u k l → CallIf (up_to_call k) (up_to_call l)
  call_left k l w = subst (λ (y : List Item). CallIf (up_to_call k) (up_to_call y)) w.right_is (subst (λ (x : List Item). CallIf (up_to_call x) (up_to_call (right u w.marks))) w.left_is (call_marks w.marks w.good))

  pub break_left : (k l : List Item) → Works u k l → LeftIf (up_to_break k) (up_to_break l)
  break_left k l w = subst (λ (y : List Item). LeftIf (up_to_break k) (up_to_break y)) w.right_is (subst (λ (x : List Item). LeftIf (up_to_break x) (up_to_break (right u w.marks))) w.left_is (break_marks w.marks w.good))

  pub continue_left : (k l : List Item) → Works u k l → LeftIf (up_to_continue k) (up_to_continue l)
  continue_left k l w = subst (λ (y : List Item). LeftIf (up_to_continue k) (up_to_continue y)) w.right_is (subst (λ (x : List Item). LeftIf (up_to_continue x) (up_to_continue (right u w.marks))) w.left_is (continue_marks w.marks w.good))

  -- ---- where a jump goes on

  pub record Lands (r : Landing) (o : Option Landing) : Type 0 where
    pub other : List Item
    pub works : Works u r.work other
    pub is : o ≡ Some (record { work = other; objects = r.objects; at = r.at })

  abbrev pub LandIf : Option Landing → Option Landing → Type 0
  LandIf None o = o ≡ None
  LandIf (Some r) o = Lands r o

  pub or_else_land : (a b c d : Option Landing) → LandIf a c → LandIf b d → LandIf (or_else a b) (or_else c d)
  or_else_land None b c d h g = subst (λ (o : Option Landing). LandIf b (or_else o d)) (sym h) g
  or_else_land (Some r) b c d h g = record { other = h.other; works = h.works; is = ap (λ (o : Option Landing). or_else o d) h.is }

  within_land : (objects : List ℕ) (a c : Option Landing) → LandIf a c → LandIf (within objects a) (within objects c)
  within_land objects None c h = ap (within objects) h
  within_land objects (Some r) c h = record { other = h.other; works = h.works; is = ap (within objects) h.is }

  found_land : (b : Bool) (n : ℕ) (k l : List Item) (a c : Option Landing) → Works u k l → LandIf a c → LandIf (found b n k a) (found b n l c)
  found_land true n k l a c w h = record { other = l; works = w; is = refl }
  found_land false n k l a c w h = h

  for_label_land : (what : Sought) (a c : Option Landing) → LandIf a c → LandIf (for_label what a) (for_label what c)
  for_label_land (ToLabel l) a c h = h
  for_label_land (ToCase z) a c h = refl
  for_label_land ToDefault a c h = refl

  mutual
    pub after_land : (what : Sought) (n : ℕ) (s : Stmt) (c : Context) → IsStmt u c s → (k l : List Item) → Works u k l → LandIf (after u what n s k) (after (folded_unit u) what n (folded_stmt s) l)
    after_land what n (block objects ss) c h k l w = within_land objects _ _ (all_land what (suc n) ss c h.1 _ _ (item u (End objects) k l tt w))
    after_land what n (if_stmt e a b) c h k l w =
        or_else_land _ _ _ _ (after_land what (suc n) a c h.1 k l w) (subst (λ (m : ℕ). LandIf (after u what (suc n + count a) b k) (after (folded_unit u) what (suc n + m) (folded_stmt b) l)) (sym (count_same a)) (after_land what (suc n + count a) b c h.2 k l w))
    after_land what n (while e s) c h k l w = after_land what (suc n) s (looping c) h.1 _ _ (item u (Next (test_first (present e) absent (suc n) s)) k l (record { test = h.0.0; next = tt; body = (looping c, h.1) }) w)
    after_land what n (do_while s e) c h k l w = after_land what (suc n) s (looping c) h.0 _ _ (item u (Check (test_last e (suc n) s)) k l (record { test = h.1.0; next = tt; body = (looping c, h.0) }) w)
    after_land what n (for_loop i t x s) c h k l w = after_land what (suc n) s (looping c) h.3 _ _ (item u (Next (test_first t x (suc n) s)) k l (loop_of_for u n i t x s c h) w)
    after_land what n (switch e s) c h k l w = for_label_land what _ _ (after_land what (suc n) s (switching h.0 c) h.2 _ _ (item u EndSwitch k l tt w))
    after_land what n (case v s) c h k l w = found_land (is_case what v) n _ _ _ _ (stmt_works u (suc n) s c h.1 k l w) (after_land what (suc n) s c h.1 k l w)
    after_land what n (default s) c h k l w = found_land (is_default what) n _ _ _ _ (stmt_works u (suc n) s c h.1 k l w) (after_land what (suc n) s c h.1 k l w)
    after_land what n (label m s) c h k l w = found_land (is_label what m) n _ _ _ _ (stmt_works u (suc n) s c h k l w) (after_land what (suc n) s c h k l w)
    after_land what n empty c h k l w = refl
    after_land what n (eval e) c h k l w = refl
    after_land what n (set_part i o e) c h k l w = refl
    after_land what n (clear i) c h k l w = refl
    after_land what n (goto m) c h k l w = refl
    after_land what n break c h k l w = refl
    after_land what n continue c h k l w = refl
    after_land what n (return o) c h k l w = refl

    all_land : (what : Sought) (n : ℕ) (ss : Stmts) (c : Context) → AreStmts u c ss → (k l : List Item) → Works u k l → LandIf (after_all u what n ss k) (after_all (folded_unit u) what n (folded_stmts ss) l)
    all_land what n no_stmts c h k l w = refl
    all_land what n (and_stmts s more) c h k l w =
        subst (λ (m : ℕ). LandIf (or_else (after u what n s (plan_stmts u (n + count s) more k)) (after_all u what (n + count s) more k)) (or_else (after (folded_unit u) what n (folded_stmt s) (plan_stmts (folded_unit u) (n + m) (folded_stmts more) l)) (after_all (folded_unit u) what (n + m) (folded_stmts more) l))) (sym (count_same s))
        (or_else_land _ _ _ _ (after_land what n s c h.0 _ _ (stmts_work u (n + count s) more c h.1 k l w)) (all_land what (n + count s) more c h.1 k l w))
