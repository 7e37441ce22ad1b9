-- The objects of the blocks round a label are some of those of its statement.
use Rattle.std.proofs.Common.{◌≡◌, ℕ, suc, ◌+◌, ◌⊎◌, inl, inr, Bool, true, false, Option, None, Some, List, [], ◌∷◌, ◌++◌, refl, sym, ◌∙◌, ap, subst}
use Rattle.std.specs.Prelude.{if◌then◌else◌}
use Rattle.c65_csem.specs.Trees.{Stmt, empty, eval, set_part, clear, block, if_stmt, while, do_while, for_loop, switch, case, default, label, goto, break, continue, return, Stmts, no_stmts, and_stmts, present, absent, UnitTy}
use Rattle.c65_meaning.specs.Items.{Item, End, Next, Check, EndSwitch, test_first, test_last, plan_stmt, plan_stmts}
use Rattle.c65_meaning.specs.Sites.{count}
use Rattle.c65_meaning.specs.After.{Sought, ToLabel, ToCase, ToDefault, Landing, or_else, within, is_label, is_case, is_default, for_label, found, after, after_all, is_among, without}
use Rattle.c65_genframe.specs.Objects.{objects_in, objects_in_all}
use Rattle.c65_agree_stmts.proofs.Blocks.{among_left, among_right, among_both}
use Rattle.c65_agree_enter.specs.Params.{AreDistinct}
use Rattle.c65_agree_homes.proofs.Among.{among_here, among_more, among_cases, among_clash, not_by, IsWithin, IsOutside}
use Rattle.c65_agree_homes.proofs.Distinct.{distinct_first, distinct_second, distinct_apart, distinct_both}

-- ---- landings

pub record Holds (to : Landing) (is : List ℕ) : Type 0 where
  pub within : IsWithin to.objects is
  pub distinct : AreDistinct to.objects

holds_same : (r to : Landing) (is : List ℕ) → Some r ≡ Some to → Holds r is → Holds to is
holds_same r to is e h = let same : r ≡ to = cc in subst (λ (z : Landing). Holds z is) same h

-- of two parts, one behind the other
holds_left : (to : Landing) (is js : List ℕ) → Holds to is → Holds to (is ++ js)
holds_left to is js h = record { within = λ i e. among_left is js i (h.within i e); distinct = h.distinct }

holds_right : (to : Landing) (is js : List ℕ) → Holds to js → Holds to (is ++ js)
holds_right to is js h = record { within = λ i e. among_right is js i (h.within i e); distinct = h.distinct }

-- inside a block with objects of its own
holds_inside : (r : Landing) (os is : List ℕ) → AreDistinct (os ++ is) → Holds r is → Holds (record r { objects = os ++ r.objects }) (os ++ is)
holds_inside r os is d h = record { within = λ i e. go i (among_both os r.objects i e); distinct = distinct_both os r.objects (distinct_first os is d) h.distinct apart }
  where
    go : (i : ℕ) → (is_among os i ≡ true) ⊎ (is_among r.objects i ≡ true) → is_among (os ++ is) i ≡ true
    go i (inl e) = among_left os is i e
    go i (inr e) = among_right os is i (h.within i e)

    apart : IsOutside os r.objects
    apart i e = not_by r.objects i (λ f. among_clash is i (h.within i f) (distinct_apart os is d i e))

module _ (u : UnitTy) (what : Sought) where
  either_holds : (is js : List ℕ) (to : Landing) (o p : Option Landing) → or_else o p ≡ Some to → ((r : Landing) → o ≡ Some r → Holds r is) → ((r : Landing) → p ≡ Some r → Holds r js) → Holds to (is ++ js)
  either_holds is js to None p e first second = holds_right to is js (second to e)
  either_holds is js to (Some r) p e first second = holds_left to is js (first to e)

  inside_holds : (os is : List ℕ) (to : Landing) (o : Option Landing) → AreDistinct (os ++ is) → within os o ≡ Some to → ((r : Landing) → o ≡ Some r → Holds r is) → Holds to (os ++ is)
  inside_holds os is to None d e h = cc
  inside_holds os is to (Some r) d e h = holds_same (record r { objects = os ++ r.objects }) to (os ++ is) e (holds_inside r os is d (h r refl))

  found_holds : (is : List ℕ) (to : Landing) (b : Bool) (n : ℕ) (work : List Item) (o : Option Landing) → found b n work o ≡ Some to → (o ≡ Some to → Holds to is) → Holds to is
  found_holds is to true n work o e h = holds_same (record { work = work; objects = []; at = n }) to is e (record { within = λ i f. cc; distinct = tt })
  found_holds is to false n work o e h = h e

  labelled : (w : Sought) (o : Option Landing) (to : Landing) → for_label w o ≡ Some to → o ≡ Some to
  labelled (ToLabel l) o to e = e
  labelled (ToCase z) o to e = cc
  labelled ToDefault o to e = cc

  mutual
    pub landing_holds : (s : Stmt) (n : ℕ) (k : List Item) (to : Landing) → AreDistinct (objects_in s) → after u what n s k ≡ Some to → Holds to (objects_in s)
    landing_holds (block os ss) n k to d e = inside_holds os (objects_in_all ss) to (after_all u what (suc n) ss (End os ∷ k)) d e (λ r f. all_hold ss (suc n) (End os ∷ k) r (distinct_second os (objects_in_all ss) d) f)
    landing_holds (if_stmt c a b) n k to d e =
        either_holds (objects_in a) (objects_in b) to (after u what (suc n) a k) (after u what (suc n + count a) b k) e
        (λ r f. landing_holds a (suc n) k r (distinct_first (objects_in a) (objects_in b) d) f) (λ r f. landing_holds b (suc n + count a) k r (distinct_second (objects_in a) (objects_in b) d) f)
    landing_holds (while c s) n k to d e = landing_holds s (suc n) (Next (test_first (present c) absent (suc n) s) ∷ k) to d e
    landing_holds (do_while s c) n k to d e = landing_holds s (suc n) (Check (test_last c (suc n) s) ∷ k) to d e
    landing_holds (for_loop i c x s) n k to d e = landing_holds s (suc n) (Next (test_first c x (suc n) s) ∷ k) to d e
    landing_holds (switch c s) n k to d e = landing_holds s (suc n) (EndSwitch ∷ k) to d (labelled what (after u what (suc n) s (EndSwitch ∷ k)) to e)
    landing_holds (case v s) n k to d e = found_holds (objects_in s) to (is_case what v) n (plan_stmt u (suc n) s k) (after u what (suc n) s k) e (λ f. landing_holds s (suc n) k to d f)
    landing_holds (default s) n k to d e = found_holds (objects_in s) to (is_default what) n (plan_stmt u (suc n) s k) (after u what (suc n) s k) e (λ f. landing_holds s (suc n) k to d f)
    landing_holds (label l s) n k to d e = found_holds (objects_in s) to (is_label what l) n (plan_stmt u (suc n) s k) (after u what (suc n) s k) e (λ f. landing_holds s (suc n) k to d f)
    landing_holds empty n k to d e = cc
    landing_holds (eval c) n k to d e = cc
    landing_holds (set_part i o c) n k to d e = cc
    landing_holds (clear i) n k to d e = cc
    landing_holds (goto l) n k to d e = cc
    landing_holds break n k to d e = cc
    landing_holds continue n k to d e = cc
    landing_holds (return o) n k to d e = cc

    all_hold : (ss : Stmts) (n : ℕ) (k : List Item) (to : Landing) → AreDistinct (objects_in_all ss) → after_all u what n ss k ≡ Some to → Holds to (objects_in_all ss)
    all_hold no_stmts n k to d e = cc
    all_hold (and_stmts s rest) n k to d e =
        either_holds (objects_in s) (objects_in_all rest) to (after u what n s (plan_stmts u (n + count s) rest k)) (after_all u what (n + count s) rest k) e
        (λ r f. landing_holds s n (plan_stmts u (n + count s) rest k) r (distinct_first (objects_in s) (objects_in_all rest) d) f) (λ r f. all_hold rest (n + count s) k r (distinct_second (objects_in s) (objects_in_all rest) d) f)

-- ---- those that are not among others

pub without_first : (xs ys : List ℕ) (i : ℕ) → is_among (without xs ys) i ≡ true → is_among xs i ≡ true
without_first [] ys i h = h
without_first (j ∷ xs) ys i h = go (without_first xs ys i) (is_among ys j) h
  where
    go : (is_among (without xs ys) i ≡ true → is_among xs i ≡ true) → (b : Bool) → is_among (if b then without xs ys else j ∷ without xs ys) i ≡ true → is_among (j ∷ xs) i ≡ true
    go rest true e = among_more j xs i (rest e)
    go rest false e = by (among_cases j (without xs ys) i e)
      where
        by : (j ≡ i) ⊎ (is_among (without xs ys) i ≡ true) → is_among (j ∷ xs) i ≡ true
        by (inl f) = subst (λ (n : ℕ). is_among (n ∷ xs) i ≡ true) (sym f) (among_here i xs)
        by (inr f) = among_more j xs i (rest f)

pub without_second : (xs ys : List ℕ) (i : ℕ) → is_among (without xs ys) i ≡ true → is_among ys i ≡ false
without_second [] ys i h = cc
without_second (j ∷ xs) ys i h = go (without_second xs ys i) (is_among ys j) refl h
  where
    go : (is_among (without xs ys) i ≡ true → is_among ys i ≡ false) → (b : Bool) → is_among ys j ≡ b → is_among (if b then without xs ys else j ∷ without xs ys) i ≡ true → is_among ys i ≡ false
    go rest true is e = rest e
    go rest false is e = by (among_cases j (without xs ys) i e)
      where
        by : (j ≡ i) ⊎ (is_among (without xs ys) i ≡ true) → is_among ys i ≡ false
        by (inl f) = ap (is_among ys) (sym f) ∙ is
        by (inr f) = rest f

pub without_has : (xs ys : List ℕ) (i : ℕ) → is_among xs i ≡ true → is_among ys i ≡ false → is_among (without xs ys) i ≡ true
without_has [] ys i h other = cc
without_has (j ∷ xs) ys i h other = go (λ e. without_has xs ys i e other) (is_among ys j) refl (among_cases j xs i h)
  where
    go : (is_among xs i ≡ true → is_among (without xs ys) i ≡ true) → (b : Bool) → is_among ys j ≡ b → (j ≡ i) ⊎ (is_among xs i ≡ true) → is_among (if b then without xs ys else j ∷ without xs ys) i ≡ true
    go rest true is (inl e) = among_clash ys j is (ap (is_among ys) e ∙ other)
    go rest true is (inr e) = rest e
    go rest false is (inl e) = subst (λ (n : ℕ). is_among (n ∷ without xs ys) i ≡ true) (sym e) (among_here i (without xs ys))
    go rest false is (inr e) = among_more j (without xs ys) i (rest e)

pub without_distinct : (xs ys : List ℕ) → AreDistinct xs → AreDistinct (without xs ys)
without_distinct [] ys d = tt
without_distinct (j ∷ xs) ys d = go (without_distinct xs ys d.1) (is_among ys j)
  where
    go : AreDistinct (without xs ys) → (b : Bool) → AreDistinct (if b then without xs ys else j ∷ without xs ys)
    go rest true = rest
    go rest false = (not_by (without xs ys) j (λ e. among_clash xs j (without_first xs ys j e) d.0), rest)
