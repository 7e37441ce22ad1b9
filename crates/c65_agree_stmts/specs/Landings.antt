-- Where the labels in a statement lead (C90 6.1.2.3, 6.6.1, 6.6.4.2).
use Rattle.std.specs.Prelude.{◌≡◌, ℕ, suc, ◌+◌, ◌≤◌, if◌then◌else◌, List, ◌∷◌, ◌++◌, Option, Some, None, length}
use Rattle.c65_csem.specs.Trees.{Stmt, block, if_stmt, while, do_while, for_loop, switch, case, default, label, Stmts, no_stmts, and_stmts}
use Rattle.c65_csem_plain.specs.Arms.{arms, arms_in}
use Rattle.c65_meaning.specs.Items.{Item, Leave}
use Rattle.c65_meaning.specs.After.{Sought, ToLabel, Landing, is_label, is_case, is_default, after, after_all, up_to_call, up_to_break, up_to_continue}
use Rattle.c65_code.specs.Moves.{labelled}
use Rattle.c65_genstmt.specs.declared.jumps.Ways.{Ways}
use Rattle.c65_genstmt.specs.Jumps.{following}
use Rattle.c65_genstmt.specs.Stmts.{case_behind, returns_last}
use Rattle.c65_agree_state.specs.World.{unit_in, lines_of, HasAt}
use Rattle.c65_agree_between.specs.Stmts.{Covers, GoesOn, LeadsTo, LabelLeads, ReturnLeads, arms_weight}
use Rattle.c65_agree_lines.specs.Lists.{stmt_code, stmts_code, last_code}
use Rattle.c65_agree_stmts.specs.Calling.{Calling, EndsIn}

-- ---- the label of the lines

abbrev pub first_of : Option ℕ → Option ℕ → Option ℕ
first_of None o = o
first_of (Some l) o = Some l

-- the labels of another switch do not count
abbrev pub unless_case : Sought → Option ℕ → Option ℕ
unless_case (ToLabel l) o = o
unless_case _ o = None

abbrev mutual
  -- that of what is sought: `other` is that of `default`, and `next` that of the next case
  pub label_of : Sought → ℕ → ℕ → Stmt → Option ℕ
  label_of what other next (block os ss) = label_in what other next ss
  label_of what other next (if_stmt e a b) = first_of (label_of what other next a) (label_of what other (case_behind next a) b)
  label_of what other next (while e s) = label_of what other next s
  label_of what other next (do_while s e) = label_of what other next s
  label_of what other next (for_loop i c n s) = label_of what other next s
  label_of what other next (switch e s) = unless_case what (label_of what other next s)
  label_of what other next (case z s) = if is_case what z then Some next else label_of what other (following next) s
  label_of what other next (default s) = if is_default what then Some other else label_of what other next s
  label_of what other next (label l s) = if is_label what l then Some (following l) else label_of what other next s
  label_of what other next _ = None

  pub label_in : Sought → ℕ → ℕ → Stmts → Option ℕ
  label_in what other next no_stmts = None
  label_in what other next (and_stmts s ss) = first_of (label_of what other next s) (label_in what other (case_behind next s) ss)

-- ---- what follows

-- from the label on the landing's work is followed, where its objects have begun, for as many steps
abbrev pub Lands : Calling → ℕ → ℕ → List ℕ → Option Landing → Option ℕ → Type 0
Lands x n w scope None None = Unit {0}
Lands x n w scope (Some to) (Some l) = GoesOn x.world x.active x.needs x.first x.placing x.banks x.state x.params x.result x.below x.values (suc n) w (to.objects ++ scope) to.work (labelled (lines_of x.world x.active) l)
Lands x n w scope _ _ = ⊥

-- what lies ahead of lines of the call, where these objects are in scope
pub record IsAhead (x : Calling) (n w : ℕ) (scope : List ℕ) (k : List Item) (ways : Ways) : Type 0 where
  pub call : (left : List ℕ) × (up_to_call k ≡ Some (record { objects = left; work = Leave ∷ x.below })) × Covers scope left x.params
  pub behind : LeadsTo x.world x.active x.needs x.first x.placing x.banks x.state x.params x.result x.below x.values n w scope (up_to_break k) ways.behind
  pub onward : LeadsTo x.world x.active x.needs x.first x.placing x.banks x.state x.params x.result x.below x.values n w scope (up_to_continue k) ways.onward
  pub labels : (l : ℕ) → LabelLeads x.world x.active x.needs x.first x.placing x.banks x.state x.params x.result x.below x.values n (w + arms_weight) l (after (unit_in x.world) (ToLabel l) 0 x.body (Leave ∷ x.below))
  pub returns : ReturnLeads x.world x.active x.needs x.first x.placing x.banks x.state x.params x.result x.below x.values n w

-- what is sought in a statement leads where the lines have its label
abbrev pub LandsIn : Calling → Sought → List ℕ → ℕ → Stmt → Ways → ℕ → ℕ → Type 0
LandsIn x what scope at s ways next fresh =
    let lines = stmt_code x.active.frame ways next s fresh in
    (n w p : ℕ) (k : List Item) → n ≤ x.most → x.reserve ≤ w → HasAt (lines_of x.world x.active) p lines → IsAhead x n w scope k ways
    → GoesOn x.world x.active x.needs x.first x.placing x.banks x.state x.params x.result x.below x.values n w scope k (p + length lines)
    → Lands x n (w + arms s) scope (after (unit_in x.world) what at s k) (label_of what ways.other next s)

-- and so in a list of statements
abbrev pub LandsAmong : Calling → Sought → List ℕ → ℕ → Stmts → Ways → ℕ → ℕ → Type 0
LandsAmong x what scope at ss ways next fresh =
    let lines = stmts_code x.active.frame ways next ss fresh in
    (n w p : ℕ) (k : List Item) → n ≤ x.most → x.reserve ≤ w → HasAt (lines_of x.world x.active) p lines → IsAhead x n w scope k ways
    → GoesOn x.world x.active x.needs x.first x.placing x.banks x.state x.params x.result x.below x.values (suc n) w scope k (p + length lines)
    → Lands x n (w + arms_in ss) scope (after_all (unit_in x.world) what at ss k) (label_in what ways.other next ss)

-- and so in a statement that stands last in its function
abbrev pub LandsLast : Calling → Sought → List ℕ → ℕ → Stmt → Ways → ℕ → ℕ → Type 0
LandsLast x what scope at s ways next fresh =
    let lines = last_code x.active.frame ways next s fresh in
    (n w p : ℕ) (k : List Item) → n ≤ x.most → x.reserve ≤ w → HasAt (lines_of x.world x.active) p lines → IsAhead x n w scope k ways
    → EndsIn x (returns_last s) n w scope k (p + length lines)
    → Lands x n (w + arms s) scope (after (unit_in x.world) what at s k) (label_of what ways.other next s)
