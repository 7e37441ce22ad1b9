-- The statements of one call of a function.
use Rattle.std.specs.Prelude.{◌≡◌, ℕ, suc, ◌+◌, ◌≤◌, Bool, true, false, List, ◌∷◌, Some, length, slice_get}
use Rattle.c65_csem.specs.Trees.{Typed, MaybeTyped, absent, present, Stmt, Stmts}
use Rattle.c65_csem_need.specs.Needs.{need}
use Rattle.c65_mach.specs.declared.rows.Op.TheVariants.{Jmp}
use Rattle.c65_meaning.specs.Store.{Value, Shape}
use Rattle.c65_meaning.specs.Items.{Item, Leave, plan_stmt, plan_stmts}
use Rattle.c65_meaning.specs.After.{ToLabel, after, up_to_call, up_to_break, up_to_continue}
use Rattle.c65_meaning.specs.State.{Scene, Running}
use Rattle.c65_code.specs.declared.line.Line.{Line}
use Rattle.c65_code.specs.declared.line.Line.TheVariants.{Label}
use Rattle.c65_code.specs.LineState.{State}
use Rattle.c65_code.specs.Moves.{labelled}
use Rattle.c65_code.specs.Comes.{Seen}
use Rattle.c65_genentry.specs.Words.{jump}
use Rattle.c65_genstmt.specs.declared.jumps.Ways.{Ways}
use Rattle.c65_genstmt.specs.Stmts.{returns_last}
use Rattle.c65_agree_store.specs.Stands.{Placing, Banks}
use Rattle.c65_agree_state.specs.World.{World, unit_in, Active, lines_of, place_in, owned_at, HasAt, HasTurns}
use Rattle.c65_agree_state.specs.Follows.{Follows}
use Rattle.c65_agree_state.specs.Exprs.{Valued, yield_of, MayFit, width_in, shape_in, ExpressionDoes, TestDoes}
use Rattle.c65_agree_between.specs.Stmts.{Between, Keeping, Covers, GoesOn, LeadsTo, LabelLeads, ReturnLeads, arms_weight, StatementDoes}
use Rattle.c65_agree_lines.specs.Lists.{stmt_code, stmts_code, last_code}
use Rattle.c65_agree_stmts.specs.Effects.{EffectDoes}

-- One call from its first statement on: the scene, places and state there, the parameters of the function and what it gives, the work and
-- the values behind the call, for how many steps at most its statements are looked at, what weight its end asks for, and its body.
pub record Calling : Type 0 where
  pub world : World
  pub active : Active
  pub needs : ℕ
  pub first : Scene
  pub placing : Placing
  pub banks : Banks
  pub state : State
  pub params : List ℕ
  pub result : Shape
  pub below : List Item
  pub values : List Value
  pub most : ℕ
  pub reserve : ℕ
  pub body : Stmt

-- the lines do this work of the call, where these objects are in scope
abbrev pub WorkDoes : Calling → List ℕ → (List Item → List Item) → Ways → List Line → Type 0
WorkDoes x scope work ways lines = StatementDoes x.world x.active x.needs x.first x.placing x.banks x.state x.params x.result x.below x.values x.most x.body x.reserve scope work ways lines

-- the lines of a statement, which is number `at` of the function, do its work
abbrev pub Does : Calling → List ℕ → ℕ → Stmt → Ways → ℕ → ℕ → Type 0
Does x scope at s ways next fresh = WorkDoes x scope (plan_stmt (unit_in x.world) at s) ways (stmt_code x.active.frame ways next s fresh)

-- Statements one behind another, which may be none and take no step: what follows behind them is followed for as many steps.
abbrev pub AllDo : Calling → List ℕ → ℕ → Stmts → Ways → ℕ → ℕ → Type 0
AllDo x scope at ss ways next fresh =
    let lines = stmts_code x.active.frame ways next ss fresh in
    (n w p : ℕ) (k : List Item) (c : Scene) (q : Placing) (b : Banks) (t : State) (seen : Seen)
    → n ≤ x.most → x.reserve ≤ w → HasAt (lines_of x.world x.active) p lines
    → Between x.world x.active x.needs scope c q b t → Keeping x.active x.first x.placing x.banks x.state c q b t → HasTurns x.world c.turns (place_in x.world x.active p) seen
    → ((left : List ℕ) × (up_to_call k ≡ Some (record { objects = left; work = Leave ∷ x.below })) × Covers scope left x.params)
    → LeadsTo x.world x.active x.needs x.first x.placing x.banks x.state x.params x.result x.below x.values n w scope (up_to_break k) ways.behind → LeadsTo x.world x.active x.needs x.first x.placing x.banks x.state x.params x.result x.below x.values n w scope (up_to_continue k) ways.onward
    → ((l : ℕ) → LabelLeads x.world x.active x.needs x.first x.placing x.banks x.state x.params x.result x.below x.values n (w + arms_weight) l (after (unit_in x.world) (ToLabel l) 0 x.body (Leave ∷ x.below)))
    → ReturnLeads x.world x.active x.needs x.first x.placing x.banks x.state x.params x.result x.below x.values n w
    → GoesOn x.world x.active x.needs x.first x.placing x.banks x.state x.params x.result x.below x.values (suc n) w scope k (p + length lines)
    → Follows x.world n w (Running (plan_stmts (unit_in x.world) at ss k) x.values c) (place_in x.world x.active p) t seen

-- ---- lines that stand last in the function

-- Behind lines at whose end a return stands the function's end does, at label 0, and behind others what follows them is followed.
abbrev pub EndsIn : Calling → Bool → ℕ → ℕ → List ℕ → List Item → ℕ → Type 0
EndsIn x true n w scope k p = place_in x.world x.active p ≡ place_in x.world x.active (labelled (lines_of x.world x.active) 0)
EndsIn x false n w scope k p = GoesOn x.world x.active x.needs x.first x.placing x.banks x.state x.params x.result x.below x.values n w scope k p

-- the lines do this work, where such an end is behind them
abbrev pub WorkEnds : Calling → List ℕ → (List Item → List Item) → Ways → Bool → List Line → Type 0
WorkEnds x scope work ways ends lines =
    (n w p : ℕ) (k : List Item) (c : Scene) (q : Placing) (b : Banks) (t : State) (seen : Seen)
    → n ≤ x.most → x.reserve ≤ w → HasAt (lines_of x.world x.active) p lines
    → Between x.world x.active x.needs scope c q b t → Keeping x.active x.first x.placing x.banks x.state c q b t → HasTurns x.world c.turns (place_in x.world x.active p) seen
    → ((left : List ℕ) × (up_to_call k ≡ Some (record { objects = left; work = Leave ∷ x.below })) × Covers scope left x.params)
    → LeadsTo x.world x.active x.needs x.first x.placing x.banks x.state x.params x.result x.below x.values n w scope (up_to_break k) ways.behind → LeadsTo x.world x.active x.needs x.first x.placing x.banks x.state x.params x.result x.below x.values n w scope (up_to_continue k) ways.onward
    → ((l : ℕ) → LabelLeads x.world x.active x.needs x.first x.placing x.banks x.state x.params x.result x.below x.values n (w + arms_weight) l (after (unit_in x.world) (ToLabel l) 0 x.body (Leave ∷ x.below)))
    → ReturnLeads x.world x.active x.needs x.first x.placing x.banks x.state x.params x.result x.below x.values n w
    → EndsIn x ends n w scope k (p + length lines)
    → Follows x.world n w (Running (work k) x.values c) (place_in x.world x.active p) t seen

-- the lines of a statement that stands last in its function do its work
abbrev pub LastDoes : Calling → List ℕ → ℕ → Stmt → Ways → ℕ → ℕ → Type 0
LastDoes x scope at s ways next fresh = WorkEnds x scope (plan_stmt (unit_in x.world) at s) ways (returns_last s) (last_code x.active.frame ways next s fresh)

-- ---- its expressions

pub record HasValue (x : Calling) (e : Typed) : Type 0 where
  pub does : ExpressionDoes x.world x.active e
  pub need : need e ≤ x.needs

pub record HasTest (x : Calling) (e : Typed) : Type 0 where
  pub does : TestDoes x.world x.active e
  pub need : need e ≤ x.needs

pub record HasEffect (x : Calling) (e : Typed) : Type 0 where
  pub does : EffectDoes x.world x.active e
  pub need : need e ≤ x.needs

-- A value that a function gives stands where one of the function's type does, and fits that: a pointer's type may have been completed since.
pub record HasResult (x : Calling) (e : Typed) : Type 0 where
  pub value : HasValue x e
  pub gives : yield_of (unit_in x.world) e ≡ Valued
  pub width : width_in (shape_in x.world x.active e) ≡ width_in x.result
  pub fits : (v : Value) → MayFit Valued (shape_in x.world x.active e) v → MayFit Valued x.result v

-- where there is one
abbrev pub MayHaveTest : Calling → MaybeTyped → Type 0
MayHaveTest x absent = Unit {0}
MayHaveTest x (present e) = HasTest x e

abbrev pub MayHaveEffect : Calling → MaybeTyped → Type 0
MayHaveEffect x absent = Unit {0}
MayHaveEffect x (present e) = HasEffect x e

-- ---- where turns are counted

-- a loop's head, where this label stands
abbrev pub HeadIsCounted : Calling → ℕ → Type 0
HeadIsCounted x label = (p : ℕ) → slice_get (lines_of x.world x.active) p ≡ Some (Label label) → 1 ≤ owned_at x.world.heads (place_in x.world x.active p)

-- each line of a `goto` to this label
abbrev pub GotosAreCounted : Calling → ℕ → Type 0
GotosAreCounted x label = (p : ℕ) → slice_get (lines_of x.world x.active) p ≡ Some (jump Jmp label) → 1 ≤ owned_at x.world.owns (place_in x.world x.active p)
