-- What is asked of the expressions and objects in a statement (C90 6.6).
use Rattle.std.specs.Prelude.{◌≡◌, ℕ, suc, ◌+◌, ◌≤◌, false, List, ◌∷◌, ◌++◌, Some, None, length}
use Rattle.c65_ints.specs.declared.types.IntType.{IntType}
use Rattle.c65_csem.specs.Trees.{Typed, present, Stmt, eval, set_part, clear, block, if_stmt, while, do_while, for_loop, switch, case, default, label, goto, return, Stmts, no_stmts, and_stmts}
use Rattle.c65_csem.specs.Places.{is_place}
use Rattle.c65_csem.specs.Statements.{cases_of}
use Rattle.c65_csem_plain.specs.Arms.{arms}
use Rattle.c65_meaning.specs.Store.{Number}
use Rattle.c65_meaning.specs.Items.{Item, EndSwitch, Leave}
use Rattle.c65_meaning.specs.After.{Sought, ToLabel, Landing, after}
use Rattle.c65_meaning.specs.Sites.{count}
use Rattle.c65_genexpr.specs.Types.{kind_in}
use Rattle.c65_genexpr.specs.Uses.{uses}
use Rattle.c65_genstmt.specs.declared.jumps.Ways.{Ways}
use Rattle.c65_genstmt.specs.Jumps.{following}
use Rattle.c65_genstmt.specs.Stmts.{case_behind, ways, default_way}
use Rattle.c65_agree_state.specs.World.{unit_in}
use Rattle.c65_agree_state.specs.Exprs.{shape_in}
use Rattle.c65_agree_between.specs.Stmts.{arms_weight}
use Rattle.c65_agree_lines.specs.Lists.{effects_uses, guard_uses, head_uses, stmt_uses}
use Rattle.c65_agree_stmts.specs.Calling.{Calling, Does, HasValue, HasTest, HasEffect, MayHaveTest, MayHaveEffect, HasResult, HeadIsCounted, GotosAreCounted}
use Rattle.c65_agree_stmts.specs.Objects.{MayAllBegin, MayLand}
use Rattle.c65_agree_stmts.specs.Choices.{ChoiceLeads}

-- the head of a switch, and the objects of the blocks round its labels
pub record HasChoice (x : Calling) (scope : List ℕ) (at : ℕ) (e : Typed) (s : Stmt) (fresh : ℕ) : Type 0 where
  pub kind : IntType
  pub value : HasValue x e
  pub plain : is_place e ≡ false
  pub shape : shape_in x.world x.active e ≡ Number kind
  pub kinds : kind_in e ≡ kind
  pub choice : ChoiceLeads x kind (default_way s fresh) (fresh + 1 + 1) (fresh + 1 + 1 + length (cases_of s) + uses None e) (cases_of s)
  pub begin : (what : Sought) (k : List Item) (to : Landing) → after (unit_in x.world) what (suc at) s (EndSwitch ∷ k) ≡ Some to → MayAllBegin x scope to.objects
  pub few : arms s ≤ arms_weight

abbrev mutual
  -- each expression in the statement does its work, objects may begin, and turns are counted where they are taken; of initial values it is
  -- asked that their statements do theirs
  pub HasParts : Calling → List ℕ → ℕ → Stmt → Ways → ℕ → ℕ → Type 0
  HasParts x scope at (eval e) w next fresh = HasEffect x e
  HasParts x scope at (set_part i o e) w next fresh = Does x scope at (set_part i o e) w next fresh
  HasParts x scope at (clear i) w next fresh = Does x scope at (clear i) w next fresh
  HasParts x scope at (block os ss) w next fresh = MayAllBegin x scope os × HaveParts x (os ++ scope) (suc at) ss w next fresh
  HasParts x scope at (if_stmt e a b) w next fresh =
      let first = fresh + 1 + 1 + uses (Some false) e in
      HasTest x e × HasParts x scope (suc at) a w next first × HasParts x scope (suc at + count a) b w (case_behind next a) (first + stmt_uses x.active.frame a)
  HasParts x scope at (while e s) w next fresh = HeadIsCounted x fresh × HasTest x e × HasParts x scope (suc at) s (ways (fresh + 1) fresh w.other) next (fresh + 1 + 1 + uses (Some false) e)
  HasParts x scope at (do_while s e) w next fresh = HeadIsCounted x fresh × HasTest x e × HasParts x scope (suc at) s (ways (fresh + 1 + 1) (fresh + 1) w.other) next (fresh + 1 + 1 + 1)
  HasParts x scope at (for_loop i c n s) w next fresh =
      let own = fresh + effects_uses i in
      HeadIsCounted x own × MayHaveEffect x i × MayHaveTest x c × MayHaveEffect x n × HasParts x scope (suc at) s (ways (own + 1 + 1) (own + 1) w.other) next (own + 1 + 1 + 1 + guard_uses c)
  HasParts x scope at (switch e s) w next fresh = HasChoice x scope at e s fresh × HasParts x scope (suc at) s (ways fresh w.onward (fresh + 1)) (fresh + 1 + 1) (fresh + head_uses e s)
  HasParts x scope at (case z s) w next fresh = HasParts x scope (suc at) s w (following next) fresh
  HasParts x scope at (default s) w next fresh = HasParts x scope (suc at) s w next fresh
  HasParts x scope at (label l s) w next fresh = HasParts x scope (suc at) s w next fresh
  HasParts x scope at (goto l) w next fresh = GotosAreCounted x (following l) × MayLand x (after (unit_in x.world) (ToLabel l) 0 x.body (Leave ∷ x.below))
  HasParts x scope at (return (present e)) w next fresh = HasResult x e
  HasParts x scope at _ w next fresh = Unit {0}

  pub HaveParts : Calling → List ℕ → ℕ → Stmts → Ways → ℕ → ℕ → Type 0
  HaveParts x scope at no_stmts w next fresh = Unit {0}
  HaveParts x scope at (and_stmts s ss) w next fresh = HasParts x scope at s w next fresh × HaveParts x scope (at + count s) ss w (case_behind next s) (fresh + stmt_uses x.active.frame s)
