-- Where a label leads: to a place of its statement, to work that is no heavier than the statement's, and to no goto before that place.
use Rattle.std.proofs.Common.{◌≡◌, ℕ, suc, ◌+◌, ◌≤◌, Bool, true, false, List, [], ◌∷◌, ◌++◌, Option, Some, None, arith}
use Rattle.std.specs.Prelude.{⊤}
use Rattle.c65_csem.specs.Trees.{Stmt, block, if_stmt, while, do_while, for_loop, switch, case, default, label, Stmts, no_stmts, and_stmts, absent, present, UnitTy}
use Rattle.c65_meaning.specs.Sites.{count, count_all}
use Rattle.c65_meaning.specs.Items.{Item, End, Next, Check, EndSwitch, test_first, test_last, plan_stmt, plan_stmts}
use Rattle.c65_meaning.specs.After.{Sought, ToLabel, ToCase, ToDefault, Landing, or_else, within, is_label, is_case, is_default, for_label, found, after, after_all}
use Rattle.c65_meaning_law_turns.specs.Weights.{of_stmt, of_stmts, weight}
use Rattle.c65_meaning_law_turns.proofs.Weights.{stmt_weight, stmts_weight}
use Rattle.c65_meaning_law_turns.specs.Places.{IsFrom}
use Rattle.c65_meaning_law_turns.proofs.Places.{stmt_from, stmts_from}

-- what a landing has, where there is one
abbrev pub Each : (Landing → Type 0) → Option Landing → Type 0
Each P None = ⊤
Each P (Some r) = P r

either : (P : Landing → Type 0) (a b : Option Landing) → Each P a → Each P b → Each P (or_else a b)
either P None b h g = g
either P (Some r) b h g = h

pub each : (P Q : Landing → Type 0) (m : Option Landing) → ((r : Landing) → P r → Q r) → Each P m → Each Q m
each P Q None f h = tt
each P Q (Some r) f h = f r h

inside : (P Q : Landing → Type 0) (objects : List ℕ) (m : Option Landing) → ((r : Landing) → P r → Q (record r { objects = objects ++ r.objects })) → Each P m → Each Q (within objects m)
inside P Q objects None f h = tt
inside P Q objects (Some r) f h = f r h

counted : (P : Landing → Type 0) (what : Sought) (m : Option Landing) → Each P m → Each P (for_label what m)
counted P (ToLabel l) m h = h
counted P (ToCase z) m h = tt
counted P ToDefault m h = tt

here_or : (P : Landing → Type 0) (t : Bool) (n : ℕ) (w : List Item) (m : Option Landing) → P (record { work = w; objects = []; at = n }) → Each P m → Each P (found t n w m)
here_or P true n w m h g = h
here_or P false n w m h g = g

module _ (u : UnitTy) where
  -- of a statement that has so many places from this one on, whose work before k has at most this weight
  pub record Lands (n size most : ℕ) (k : List Item) (r : Landing) : Type 0 where
    pub least : n ≤ r.at
    pub below : suc r.at ≤ n + size
    pub light : weight u r.work ≤ most
    pub behind : (low : ℕ) → low ≤ r.at → IsFrom low k → IsFrom low r.work

  wider : (n size most m less light : ℕ) (k j : List Item) → n ≤ m → m + less ≤ n + size → light ≤ most → (r : Landing) → ((low : ℕ) → low ≤ r.at → IsFrom low k → IsFrom low j) → Lands m less light j r → Lands n size most k r
  wider n size most m less light k j a b c r f h =
      let x : m ≤ r.at = h.least in
      let y : suc r.at ≤ m + less = h.below in
      let z : weight u r.work ≤ light = h.light in
      record { least = omega arith; below = omega arith; light = omega arith; behind = λ low le g. h.behind low le (f low le g) }

  module _ (what : Sought) where
    -- a part of a statement, before the work j
    part : (n : ℕ) (whole : Stmt) (k : List Item) (m : ℕ) (s : Stmt) (j : List Item) → n ≤ m → m + count s ≤ n + count whole → of_stmt u s + weight u j ≤ of_stmt u whole + weight u k → ((low : ℕ) → IsFrom low k → IsFrom low j)
        → Each (Lands m (count s) (of_stmt u s + weight u j) j) (after u what m s j) → Each (Lands n (count whole) (of_stmt u whole + weight u k) k) (after u what m s j)
    part n whole k m s j a b c f h =
        each (Lands m (count s) (of_stmt u s + weight u j) j) (Lands n (count whole) (of_stmt u whole + weight u k) k) (after u what m s j)
        (λ r g. wider n (count whole) (of_stmt u whole + weight u k) m (count s) (of_stmt u s + weight u j) k j a b c r (λ low le x. f low x) g) h

    here : (n : ℕ) (s : Stmt) (k : List Item) → Lands n (suc (count s)) (of_stmt u s + weight u k) k (record { work = plan_stmt u (suc n) s k; objects = []; at = n })
    here n s k =
        let w : weight u (plan_stmt u (suc n) s k) ≡ of_stmt u s + weight u k = stmt_weight u (suc n) s k in
        record { least = omega arith; below = omega arith; light = omega arith; behind = λ low le g. stmt_from u low (suc n) s k (omega arith) g }

    mutual
      pub land : (n : ℕ) (s : Stmt) (k : List Item) → Each (Lands n (count s) (of_stmt u s + weight u k) k) (after u what n s k)
      land n (block objects ss) k =
          inside (Lands (suc n) (count_all ss) (of_stmts u ss + weight u (End objects ∷ k)) (End objects ∷ k)) (Lands n (suc (count_all ss)) (of_stmts u ss + 2 + weight u k) k) objects (after_all u what (suc n) ss (End objects ∷ k))
          (λ r h. record { least = let x : suc n ≤ r.at = h.least in omega arith; below = let x : suc r.at ≤ suc n + count_all ss = h.below in omega arith; light = let x : weight u r.work ≤ of_stmts u ss + (1 + weight u k) = h.light in omega arith; behind = λ low le g. h.behind low le g })
          (land_all (suc n) ss (End objects ∷ k))
      land n (if_stmt e a b) k =
          either (Lands n (count (if_stmt e a b)) (of_stmt u (if_stmt e a b) + weight u k) k) (after u what (suc n) a k) (after u what (suc n + count a) b k)
          (part n (if_stmt e a b) k (suc n) a k (omega arith) (omega arith) (omega arith) (λ low g. g) (land (suc n) a k))
          (part n (if_stmt e a b) k (suc n + count a) b k (omega arith) (omega arith) (omega arith) (λ low g. g) (land (suc n + count a) b k))
      land n (while e s) k = part n (while e s) k (suc n) s (Next (test_first (present e) absent (suc n) s) ∷ k) (omega arith) (omega arith) (omega arith) (λ low g. g) (land (suc n) s (Next (test_first (present e) absent (suc n) s) ∷ k))
      land n (do_while s e) k = part n (do_while s e) k (suc n) s (Check (test_last e (suc n) s) ∷ k) (omega arith) (omega arith) (omega arith) (λ low g. g) (land (suc n) s (Check (test_last e (suc n) s) ∷ k))
      land n (for_loop i c x s) k = part n (for_loop i c x s) k (suc n) s (Next (test_first c x (suc n) s) ∷ k) (omega arith) (omega arith) (omega arith) (λ low g. g) (land (suc n) s (Next (test_first c x (suc n) s) ∷ k))
      land n (switch e s) k = counted (Lands n (count (switch e s)) (of_stmt u (switch e s) + weight u k) k) what (after u what (suc n) s (EndSwitch ∷ k)) (part n (switch e s) k (suc n) s (EndSwitch ∷ k) (omega arith) (omega arith) (omega arith) (λ low g. g) (land (suc n) s (EndSwitch ∷ k)))
      land n (case v s) k = here_or (Lands n (suc (count s)) (of_stmt u s + weight u k) k) (is_case what v) n (plan_stmt u (suc n) s k) (after u what (suc n) s k) (here n s k) (part n (case v s) k (suc n) s k (omega arith) (omega arith) (omega arith) (λ low g. g) (land (suc n) s k))
      land n (default s) k = here_or (Lands n (suc (count s)) (of_stmt u s + weight u k) k) (is_default what) n (plan_stmt u (suc n) s k) (after u what (suc n) s k) (here n s k) (part n (default s) k (suc n) s k (omega arith) (omega arith) (omega arith) (λ low g. g) (land (suc n) s k))
      land n (label l s) k = here_or (Lands n (suc (count s)) (of_stmt u s + weight u k) k) (is_label what l) n (plan_stmt u (suc n) s k) (after u what (suc n) s k) (here n s k) (part n (label l s) k (suc n) s k (omega arith) (omega arith) (omega arith) (λ low g. g) (land (suc n) s k))
      land n _ k = tt

      pub land_all : (n : ℕ) (ss : Stmts) (k : List Item) → Each (Lands n (count_all ss) (of_stmts u ss + weight u k) k) (after_all u what n ss k)
      land_all n no_stmts k = tt
      land_all n (and_stmts s rest) k =
          either (Lands n (count s + count_all rest) (of_stmt u s + of_stmts u rest + weight u k) k) (after u what n s (plan_stmts u (n + count s) rest k)) (after_all u what (n + count s) rest k)
          (each (Lands n (count s) (of_stmt u s + weight u (plan_stmts u (n + count s) rest k)) (plan_stmts u (n + count s) rest k)) (Lands n (count s + count_all rest) (of_stmt u s + of_stmts u rest + weight u k) k) (after u what n s (plan_stmts u (n + count s) rest k))
          (λ r h. wider n (count s + count_all rest) (of_stmt u s + of_stmts u rest + weight u k) n (count s) (of_stmt u s + weight u (plan_stmts u (n + count s) rest k)) k (plan_stmts u (n + count s) rest k) (omega arith) (omega arith)
          (let w : weight u (plan_stmts u (n + count s) rest k) ≡ of_stmts u rest + weight u k = stmts_weight u (n + count s) rest k in omega arith) r
          (λ low le g. stmts_from u low (n + count s) rest k (let x : suc r.at ≤ n + count s = h.below in omega arith) g) h)
          (land n s (plan_stmts u (n + count s) rest k)))
          (each (Lands (n + count s) (count_all rest) (of_stmts u rest + weight u k) k) (Lands n (count s + count_all rest) (of_stmt u s + of_stmts u rest + weight u k) k) (after_all u what (n + count s) rest k)
          (λ r h. wider n (count s + count_all rest) (of_stmt u s + of_stmts u rest + weight u k) (n + count s) (count_all rest) (of_stmts u rest + weight u k) k k (omega arith) (omega arith) (omega arith) r (λ low le g. g) h)
          (land_all (n + count s) rest k))
