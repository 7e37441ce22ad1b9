-- Where a jump goes on: the work that follows a label in a statement (C90 6.1.2.3, 6.6.1, 6.6.4.2, 6.6.6.1).
use Rattle.std.specs.Prelude.{ℕ, suc, ◌+◌, ◌==◌, ℤ, Bool, true, false, List, [], ◌∷◌, ◌++◌, Option, Some, None, if◌then◌else◌}
use Rattle.c65_csem.specs.Trees.{Stmt, block, if_stmt, while, do_while, for_loop, switch, case, default, label, Stmts, no_stmts, and_stmts, present, absent, UnitTy}
use Rattle.c65_meaning.specs.Integers.{same_number}
use Rattle.c65_meaning.specs.Items.{Item, End, Next, Check, EndSwitch, Leave, test_first, test_last, plan_stmt, plan_stmts}
use Rattle.c65_meaning.specs.Sites.{count}

-- what is sought: a label, or a label of the switch at hand
pub data Sought : Type 0 where
  ToLabel : (l : ℕ) → Sought
  ToCase : (z : ℤ) → Sought
  ToDefault : Sought

-- the work behind the label, the objects of the blocks round it, and its place among the statements
pub record Landing : Type 0 where
  pub work : List Item
  pub objects : List ℕ
  pub at : ℕ

abbrev pub or_else : Option Landing → Option Landing → Option Landing
or_else None o = o
or_else (Some r) o = Some r

-- the block with these objects stands round the label
abbrev pub within : List ℕ → Option Landing → Option Landing
within objects None = None
within objects (Some r) = Some (record r { objects = objects ++ r.objects })

abbrev pub is_label : Sought → ℕ → Bool
is_label (ToLabel l) m = l == m
is_label _ m = false

abbrev pub is_case : Sought → ℤ → Bool
is_case (ToCase z) v = same_number z v
is_case _ v = false

abbrev pub is_default : Sought → Bool
is_default ToDefault = true
is_default _ = false

-- the labels of another switch do not count
abbrev pub for_label : Sought → Option Landing → Option Landing
for_label (ToLabel l) r = r
for_label _ r = None

abbrev pub found : Bool → ℕ → List Item → Option Landing → Option Landing
found true n work r = Some (record { work = work; objects = []; at = n })
found false n work r = r

module _ (u : UnitTy) (what : Sought) where
  abbrev mutual
    -- the work that follows what is sought in a statement, and then k
    pub after : ℕ → Stmt → List Item → Option Landing
    after n (block objs ss) k = within objs (after_all (suc n) ss (End objs ∷ k))
    after n (if_stmt e a b) k = or_else (after (suc n) a k) (after (suc n + count a) b k)
    after n (while e s) k = after (suc n) s (Next (test_first (present e) absent (suc n) s) ∷ k)
    after n (do_while s e) k = after (suc n) s (Check (test_last e (suc n) s) ∷ k)
    after n (for_loop i c x s) k = after (suc n) s (Next (test_first c x (suc n) s) ∷ k)
    after n (switch e s) k = for_label what (after (suc n) s (EndSwitch ∷ k))
    after n (case v s) k = found (is_case what v) n (plan_stmt u (suc n) s k) (after (suc n) s k)
    after n (default s) k = found (is_default what) n (plan_stmt u (suc n) s k) (after (suc n) s k)
    after n (label l s) k = found (is_label what l) n (plan_stmt u (suc n) s k) (after (suc n) s k)
    after n _ k = None

    pub after_all : ℕ → Stmts → List Item → Option Landing
    after_all n no_stmts k = None
    after_all n (and_stmts s rest) k = or_else (after n s (plan_stmts u (n + count s) rest k)) (after_all (n + count s) rest k)

-- ---- what a jump drops

-- the objects of the blocks that are left, and the work that stays
pub record Left : Type 0 where
  pub objects : List ℕ
  pub work : List Item

abbrev pub ending : List ℕ → Option Left → Option Left
ending objects None = None
ending objects (Some r) = Some (record r { objects = objects ++ r.objects })

-- up to the end of the active call, which stays
abbrev pub up_to_call : List Item → Option Left
up_to_call [] = None
up_to_call (Leave ∷ k) = Some (record { objects = []; work = Leave ∷ k })
up_to_call (End objects ∷ k) = ending objects (up_to_call k)
up_to_call (_ ∷ k) = up_to_call k

-- behind the innermost loop or switch
abbrev pub up_to_break : List Item → Option Left
up_to_break [] = None
up_to_break (Next l ∷ k) = Some (record { objects = []; work = k })
up_to_break (Check l ∷ k) = Some (record { objects = []; work = k })
up_to_break (EndSwitch ∷ k) = Some (record { objects = []; work = k })
up_to_break (Leave ∷ k) = None
up_to_break (End objects ∷ k) = ending objects (up_to_break k)
up_to_break (_ ∷ k) = up_to_break k

-- up to the end of the innermost loop's body
abbrev pub up_to_continue : List Item → Option Left
up_to_continue [] = None
up_to_continue (Next l ∷ k) = Some (record { objects = []; work = Next l ∷ k })
up_to_continue (Check l ∷ k) = Some (record { objects = []; work = Check l ∷ k })
up_to_continue (Leave ∷ k) = None
up_to_continue (End objects ∷ k) = ending objects (up_to_continue k)
up_to_continue (_ ∷ k) = up_to_continue k

abbrev pub is_among : List ℕ → ℕ → Bool
is_among [] i = false
is_among (j ∷ rest) i = if j == i then true else is_among rest i

-- those of the first list that are not in the second
abbrev pub without : List ℕ → List ℕ → List ℕ
without [] others = []
without (i ∷ rest) others = if is_among others i then without rest others else i ∷ without rest others
