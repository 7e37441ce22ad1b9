-- Where a jump lands in a well typed statement: the work behind the label finds the values that it takes, once the objects of the blocks
-- round the label have begun.
use Rattle.std.proofs.Common.{◌≡◌, ℕ, suc, ◌+◌, Bool, true, false, List, [], ◌∷◌, ◌++◌, Option, Some, None, refl, subst, arith}
use Rattle.std.specs.Prelude.{◌==◌, IsTrue, ⊤, if◌then◌else◌}
use Rattle.c65_csem.specs.Trees.{Stmt, block, if_stmt, while, do_while, for_loop, switch, case, default, label, Stmts, no_stmts, and_stmts, present, absent, UnitTy}
use Rattle.c65_csem.specs.Statements.{Context, looping, switching, IsStmt, AreStmts}
use Rattle.c65_meaning.specs.Sites.{count}
use Rattle.c65_meaning.specs.Items.{Item, End, Next, Check, EndSwitch, Loop, test_first, test_last, plan_stmt, plan_stmts}
use Rattle.c65_meaning.specs.After.{Sought, ToLabel, ToCase, ToDefault, Landing, within, or_else, for_label, found, is_case, is_default, is_label, after, after_all, is_among}
use Rattle.c65_meaning.specs.State.{Scene}
use Rattle.c65_csem_names.specs.Scopes.{entering, IsScoped, AreScoped}
use Rattle.c65_meaning_law.specs.Statements.{IsReady}
use Rattle.c65_meaning.specs.Shapes.{object_in}
use Rattle.c65_meaning_law.proofs.Stacks.{Kind, breaking, continuing, returning, Setting, HasStatements, IsContext, HaveBlocks, Leads, IsLoop, Takes, Out}
use Rattle.c65_meaning_law.proofs.Scopes.{is_some_in, AreAutomatic, automatic_of, automatic_joined}
use Rattle.c65_meaning_law.proofs.Statements.{loop_context, switch_context, while_loop, do_loop, for_loop_of, stmt_takes, stmts_take, stmts_lead}

-- ---- scopes

entering_joined : (a b scope : List ℕ) → entering (a ++ b) scope ≡ entering b (entering a scope)
entering_joined [] b scope = refl
entering_joined (i ∷ a) b scope = entering_joined a b (i ∷ scope)

pub among_more : (i : ℕ) (objects scope : List ℕ) → IsTrue (is_among scope i) → IsTrue (is_among (entering objects scope) i)
among_more i [] scope h = h
among_more i (j ∷ rest) scope h = among_more i rest (j ∷ scope) (one (j == i))
  where
    one : (t : Bool) → IsTrue (if t then true else is_among scope i)
    one true = refl
    one false = h

pub among_first : (i : ℕ) (scope : List ℕ) → IsTrue (is_among (i ∷ scope) i)
among_first i scope = one (i == i) (grind arith)
  where
    one : (t : Bool) → t ≡ true → IsTrue (if t then true else is_among scope i)
    one true e = refl
    one false e = absurd (cc)

pub outer : (u : UnitTy) (c : Scene) (variadic : Bool) (objects scope : List ℕ) → IsReady u variadic (entering objects scope) c → IsReady u variadic scope c
outer u c variadic objects scope r = record { active = r.active; objects = λ i m h. r.objects i m (λ l. among_more i objects scope (h l)); literals = r.literals; funcs = r.funcs; rest = r.rest }

pub have_blocks : (u : UnitTy) (c : Scene) (variadic : Bool) (objects scope : List ℕ) → AreAutomatic u objects → IsReady u variadic (entering objects scope) c → HaveBlocks u c objects
have_blocks u c variadic [] scope n r = tt
have_blocks u c variadic (i ∷ rest) scope n r = (r.objects i (is_some_in (object_in u i) n.0.0 n.0.1.0) (λ l. among_more i rest (i ∷ scope) (among_first i scope)), have_blocks u c variadic rest (i ∷ scope) n.1 r)

-- ---- landings

-- what a landing has, where there is one
abbrev pub Each : (Landing → Type 0) → Option Landing → Type 0
Each P None = ⊤
Each P (Some r) = P r

pub either : (P : Landing → Type 0) (a b : Option Landing) → Each P a → Each P b → Each P (or_else a b)
either P None b h g = g
either P (Some r) b h g = h

counted : (P : Landing → Type 0) (what : Sought) (m : Option Landing) → Each P m → Each P (for_label what m)
counted P (ToLabel l) m h = h
counted P (ToCase z) m h = tt
counted P ToDefault m h = tt

here_or : (P : Landing → Type 0) (t : Bool) (n : ℕ) (w : List Item) (m : Option Landing) → P (record { work = w; objects = []; at = n }) → Each P m → Each P (found t n w m)
here_or P true n w m h g = h
here_or P false n w m h g = g

inside_block : (P Q : Landing → Type 0) (objects : List ℕ) (m : Option Landing) → ((r : Landing) → Q r → P (record r { objects = objects ++ r.objects })) → Each Q m → Each P (within objects m)
inside_block P Q objects None f h = tt
inside_block P Q objects (Some r) f h = f r h

module _ (u : UnitTy) where
  abbrev pub AreNamed : Landing → Type 0
  AreNamed r = AreAutomatic u r.objects

  module _ (what : Sought) where
    mutual
      pub names : (x : Context) (n : ℕ) (s : Stmt) (k : List Item) → IsStmt u x s → Each AreNamed (after u what n s k)
      names x n (block os ss) k w = inside_block AreNamed AreNamed os (after_all u what (suc n) ss (End os ∷ k)) (λ r h. automatic_joined u os r.objects (automatic_of u os w.0) h) (all_names x (suc n) ss (End os ∷ k) w.1)
      names x n (if_stmt e a b) k w = either AreNamed (after u what (suc n) a k) (after u what (suc n + count a) b k) (names x (suc n) a k w.1) (names x (suc n + count a) b k w.2)
      names x n (while e a) k w = names (looping x) (suc n) a _ w.1
      names x n (do_while a e) k w = names (looping x) (suc n) a _ w.0
      names x n (for_loop i d m a) k w = names (looping x) (suc n) a _ w.3
      names x n (switch e a) k w = counted AreNamed what (after u what (suc n) a (EndSwitch ∷ k)) (names (switching w.0 x) (suc n) a (EndSwitch ∷ k) w.2)
      names x n (case v a) k w = here_or AreNamed (is_case what v) n (plan_stmt u (suc n) a k) (after u what (suc n) a k) tt (names x (suc n) a k w.1)
      names x n (default a) k w = here_or AreNamed (is_default what) n (plan_stmt u (suc n) a k) (after u what (suc n) a k) tt (names x (suc n) a k w.1)
      names x n (label l a) k w = here_or AreNamed (is_label what l) n (plan_stmt u (suc n) a k) (after u what (suc n) a k) tt (names x (suc n) a k w)
      names x n _ k w = tt

      all_names : (x : Context) (n : ℕ) (ss : Stmts) (k : List Item) → AreStmts u x ss → Each AreNamed (after_all u what n ss k)
      all_names x n no_stmts k w = tt
      all_names x n (and_stmts a rest) k w = either AreNamed (after u what n a (plan_stmts u (n + count a) rest k)) (after_all u what (n + count a) rest k) (names x n a _ w.0) (all_names x (n + count a) rest k w.1)

  module _ (m : Setting) (hs : HasStatements m) (what : Sought) (c : Scene) (ks : List Kind) (variadic : Bool) where
    abbrev Works : List Item → Type 0
    Works k = Takes m u c k ks

    abbrev Outs : Context → List Item → Type 0
    Outs x k = Leads x (Out m u c k) ks

    abbrev Ends : List Item → Type 0
    Ends k = Out m u c k returning ks

    -- the work goes on in a scene in which the blocks round it have begun
    abbrev pub Lands : List ℕ → Landing → Type 0
    Lands scope r = IsReady u variadic (entering r.objects scope) c → Works r.work

    next_out : (x : Context) (l : Loop) (k : List Item) → IsLoop m u c l → Works k → Ends k → Outs x (Next l ∷ k)
    next_out x l k h t r breaking a = t
    next_out x l k h t r continuing a = (hs, (h, t, r))
    next_out x l k h t r returning a = r

    check_out : (x : Context) (l : Loop) (k : List Item) → Works (Check l ∷ k) → Outs x (Check l ∷ k)
    check_out x l k t breaking a = t.1.1
    check_out x l k t continuing a = t
    check_out x l k t returning a = t.1.2

    pub switch_out : (x : Context) (k : List Item) → Works k → (IsTrue x.in_loop → Out m u c k continuing ks) → Ends k → Outs x (EndSwitch ∷ k)
    switch_out x k t q r breaking a = t
    switch_out x k t q r continuing a = q a
    switch_out x k t q r returning a = r

    pub block_out : (x : Context) (os scope : List ℕ) (k : List Item) → AreAutomatic u os → Outs x k → IsReady u variadic (entering os scope) c → Outs x (End os ∷ k)
    block_out x os scope k n q r breaking a = q breaking a
    block_out x os scope k n q r continuing a = q continuing a
    block_out x os scope k n q r returning a = (have_blocks u c variadic os scope n r, q returning a)

    in_block : (os scope : List ℕ) (r : Landing) → Lands (entering os scope) r → Lands scope (record r { objects = os ++ r.objects })
    in_block os scope r f h = f (subst (λ (s : List ℕ). IsReady u variadic s c) (entering_joined os r.objects scope) h)

    mutual
      pub lands : (x : Context) (scope : List ℕ) (n : ℕ) (s : Stmt) (k : List Item) → IsContext m x → IsStmt u x s → IsScoped u variadic scope s → (IsReady u variadic scope c → Works k) → (IsReady u variadic scope c → Outs x k) → Each (Lands scope) (after u what n s k)
      lands x scope n (block os ss) k p w h t q = inside_block (Lands scope) (Lands (entering os scope)) os (after_all u what (suc n) ss (End os ∷ k)) (in_block os scope) (all_lands x (entering os scope) (suc n) ss (End os ∷ k) p w.1 h (λ r. (hs, t (outer u c variadic os scope r))) (λ r. block_out x os scope k (automatic_of u os w.0) (q (outer u c variadic os scope r)) r))
      lands x scope n (if_stmt e a b) k p w h t q = either (Lands scope) (after u what (suc n) a k) (after u what (suc n + count a) b k) (lands x scope (suc n) a k p w.1 h.1 t q) (lands x scope (suc n + count a) b k p w.2 h.2 t q)
      lands x scope n (while e a) k p w h t q =
          let loop : IsReady u variadic scope c → IsLoop m u c (test_first (present e) absent (suc n) a) = λ r. while_loop m hs u c variadic scope r x (suc n) e a p w h in
          lands (looping x) scope (suc n) a (Next (test_first (present e) absent (suc n) a) ∷ k) (loop_context m u x p) w.1 h.1 (λ r. (hs, (loop r, t r, q r returning tt))) (λ r. next_out (looping x) (test_first (present e) absent (suc n) a) k (loop r) (t r) (q r returning tt))
      lands x scope n (do_while a e) k p w h t q =
          let loop : IsReady u variadic scope c → IsLoop m u c (test_last e (suc n) a) = λ r. do_loop m hs u c variadic scope r x (suc n) a e p w h in
          lands (looping x) scope (suc n) a (Check (test_last e (suc n) a) ∷ k) (loop_context m u x p) w.0 h.0 (λ r. (hs, (loop r, t r, q r returning tt, tt))) (λ r. check_out (looping x) (test_last e (suc n) a) k (hs, (loop r, t r, q r returning tt, tt)))
      lands x scope n (for_loop i d o a) k p w h t q =
          let loop : IsReady u variadic scope c → IsLoop m u c (test_first d o (suc n) a) = λ r. for_loop_of m hs u c variadic scope r x (suc n) i d o a p w h in
          lands (looping x) scope (suc n) a (Next (test_first d o (suc n) a) ∷ k) (loop_context m u x p) w.3 h.3 (λ r. (hs, (loop r, t r, q r returning tt))) (λ r. next_out (looping x) (test_first d o (suc n) a) k (loop r) (t r) (q r returning tt))
      lands x scope n (switch e a) k p w h t q = counted (Lands scope) what (after u what (suc n) a (EndSwitch ∷ k)) (lands (switching w.0 x) scope (suc n) a (EndSwitch ∷ k) (switch_context m u w.0 x p) w.2 h.1 (λ r. (hs, t r)) (λ r. switch_out (switching w.0 x) k (t r) (λ l. q r continuing l) (q r returning tt)))
      lands x scope n (case v a) k p w h t q = here_or (Lands scope) (is_case what v) n (plan_stmt u (suc n) a k) (after u what (suc n) a k) (λ r. stmt_takes m hs u c variadic scope r x (suc n) a k ks p w.1 h (t r) (q r)) (lands x scope (suc n) a k p w.1 h t q)
      lands x scope n (default a) k p w h t q = here_or (Lands scope) (is_default what) n (plan_stmt u (suc n) a k) (after u what (suc n) a k) (λ r. stmt_takes m hs u c variadic scope r x (suc n) a k ks p w.1 h (t r) (q r)) (lands x scope (suc n) a k p w.1 h t q)
      lands x scope n (label l a) k p w h t q = here_or (Lands scope) (is_label what l) n (plan_stmt u (suc n) a k) (after u what (suc n) a k) (λ r. stmt_takes m hs u c variadic scope r x (suc n) a k ks p w h (t r) (q r)) (lands x scope (suc n) a k p w h t q)
      lands x scope n _ k p w h t q = tt

      all_lands : (x : Context) (scope : List ℕ) (n : ℕ) (ss : Stmts) (k : List Item) → IsContext m x → AreStmts u x ss → AreScoped u variadic scope ss → (IsReady u variadic scope c → Works k) → (IsReady u variadic scope c → Outs x k) → Each (Lands scope) (after_all u what n ss k)
      all_lands x scope n no_stmts k p w h t q = tt
      all_lands x scope n (and_stmts a rest) k p w h t q = either (Lands scope) (after u what n a (plan_stmts u (n + count a) rest k)) (after_all u what (n + count a) rest k)
          (lands x scope n a (plan_stmts u (n + count a) rest k) p w.0 h.0 (λ r. stmts_take m hs u c variadic scope r x (n + count a) rest k ks p w.1 h.1 (t r) (q r)) (λ r y l. stmts_lead m u c y ks (n + count a) rest k (q r y l)))
          (all_lands x scope (n + count a) rest k p w.1 h.1 t q)
