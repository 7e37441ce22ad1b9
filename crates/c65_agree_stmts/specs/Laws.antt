-- What the lines of each statement do, by its parts (C90 6.6): of each law the parts are the premises.
use Rattle.std.specs.Prelude.{◌≡◌, ℕ, ℤ, suc, ◌+◌, ◌≤◌, max, length, ◌&&◌, not, Bool, false, List, [], ◌∷◌, ◌++◌, Some, None, slice_get}
use Rattle.c65_csem.specs.Trees.{Typed, MaybeTyped, absent, present, Stmt, empty, eval, block, if_stmt, while, do_while, for_loop, switch, case, default, label, goto, break, continue, return, Stmts, no_stmts, and_stmts}
use Rattle.c65_csem.specs.Places.{is_place}
use Rattle.c65_csem.specs.Statements.{cases_of}
use Rattle.c65_csem_plain.specs.Arms.{arms}
use Rattle.c65_ints.specs.declared.types.IntType.{IntType}
use Rattle.c65_meaning.specs.Store.{Shape, Number}
use Rattle.c65_meaning.specs.Items.{Item, Drop, EndSwitch, Leave, plan_stmt}
use Rattle.c65_meaning.specs.After.{Sought, ToLabel, ToCase, ToDefault, Landing, after}
use Rattle.c65_meaning.specs.State.{Scene, Running}
use Rattle.c65_meaning.specs.Step.{body_of}
use Rattle.c65_meaning.specs.Sites.{count}
use Rattle.c65_code.specs.declared.line.Line.{Line}
use Rattle.c65_code.specs.declared.line.Line.TheVariants.{Label}
use Rattle.c65_code.specs.LineState.{State}
use Rattle.c65_code.specs.Comes.{Seen}
use Rattle.c65_genexpr.specs.Types.{kind_in}
use Rattle.c65_genexpr.specs.Uses.{uses}
use Rattle.c65_genentry.specs.Ends.{end_code}
use Rattle.c65_genstmt.specs.declared.jumps.Ways.{Ways}
use Rattle.c65_genstmt.specs.Jumps.{following}
use Rattle.c65_genstmt.specs.Stmts.{case_behind, ways, default_way, returns_last}
use Rattle.c65_genstmt.specs.Functions.{main_code}
use Rattle.c65_agree_store.specs.Stands.{Placing, Banks}
use Rattle.c65_agree_state.specs.World.{World, unit_in, Active, lines_of, place_in, HasAt, IsPlaced, HasTurns}
use Rattle.c65_agree_state.specs.Follows.{Follows}
use Rattle.c65_agree_state.specs.Exprs.{Yield, Does as LinesDo, shape_in}
use Rattle.c65_agree_between.specs.Stmts.{Between, Keeping, GoesOn, LabelLeads, ReturnLeads, arms_weight}
use Rattle.c65_agree_lines.specs.Lists.{effects_uses, guard_uses, head_uses, stmt_uses, last_code}
use Rattle.c65_agree_stmts.specs.Effects.{Effects}
use Rattle.c65_agree_stmts.specs.Calling.{Calling, Does, AllDo, EndsIn, LastDoes, HasValue, HasTest, HasEffect, MayHaveTest, MayHaveEffect, HasResult, HeadIsCounted, GotosAreCounted}
use Rattle.c65_agree_stmts.specs.Objects.{MayAllBegin, HasGround, MayLand}
use Rattle.c65_agree_stmts.specs.Landings.{LandsIn, LandsAmong, LandsLast}
use Rattle.c65_agree_stmts.specs.Choices.{ChoiceLeads}
use Rattle.c65_agree_stmts.specs.Trees.{HasParts}

-- ---- effects

-- lines that give a value do the work also where it is not used
abbrev pub ValuesAreEffects : Type 0
ValuesAreEffects = (g : World) (a : Active) (yield : Yield) (shape : Shape) (work : List Item → List Item) (needs pushed : ℕ) (lines : List Line)
    → LinesDo g a yield shape work needs pushed lines → Effects g a work needs pushed lines

-- the left side of `,` and then its right side (C90 6.3.17)
abbrev pub EffectsJoin : Type 0
EffectsJoin = (g : World) (a : Active) (before behind : List Item → List Item) (m n pushed : ℕ) (code more : List Line)
    → Effects g a before m pushed code → Effects g a behind n pushed more → Effects g a (λ k. before (Drop ∷ behind k)) (max m (1 + n)) pushed (code ++ more)

-- ---- statements

-- C90 6.6.3
abbrev pub EmptyDoes : Type 0
EmptyDoes = (x : Calling) (scope : List ℕ) (at next fresh : ℕ) (w : Ways) → Does x scope at empty w next fresh

abbrev pub EvalDoes : Type 0
EvalDoes = (x : Calling) (scope : List ℕ) (at next fresh : ℕ) (w : Ways) (e : Typed) → HasEffect x e → Does x scope at (eval e) w next fresh

-- statements one behind another (C90 6.6.2)
abbrev pub NoneDo : Type 0
NoneDo = (x : Calling) (scope : List ℕ) (at next fresh : ℕ) (w : Ways) → AllDo x scope at no_stmts w next fresh

abbrev pub BothDo : Type 0
BothDo = (x : Calling) (scope : List ℕ) (at next fresh : ℕ) (w : Ways) (s : Stmt) (ss : Stmts)
    → Does x scope at s w next fresh → AllDo x scope (at + count s) ss w (case_behind next s) (fresh + stmt_uses x.active.frame s)
    → AllDo x scope at (and_stmts s ss) w next fresh

-- a block without objects
abbrev pub BlockDoes : Type 0
BlockDoes = (x : Calling) (scope : List ℕ) (at next fresh : ℕ) (w : Ways) (ss : Stmts) → AllDo x scope (suc at) ss w next fresh → Does x scope at (block [] ss) w next fresh

-- a block whose objects begin with it and end with it
abbrev pub OpenBlockDoes : Type 0
OpenBlockDoes = (x : Calling) (scope : List ℕ) (at next fresh : ℕ) (w : Ways) (os : List ℕ) (ss : Stmts) → HasGround x → MayAllBegin x scope os
    → AllDo x (os ++ scope) (suc at) ss w next fresh → Does x scope at (block os ss) w next fresh

-- C90 6.6.4.1
abbrev pub IfDoes : Type 0
IfDoes = (x : Calling) (scope : List ℕ) (at next fresh : ℕ) (w : Ways) (e : Typed) (s r : Stmt) → IsPlaced (lines_of x.world x.active) → HasTest x e
    → Does x scope (suc at) s w next (fresh + 1 + 1 + uses (Some false) e)
    → Does x scope (suc at + count s) r w (case_behind next s) (fresh + 1 + 1 + uses (Some false) e + stmt_uses x.active.frame s)
    → Does x scope at (if_stmt e s r) w next fresh

-- C90 6.6.5.1
abbrev pub WhileDoes : Type 0
WhileDoes = (x : Calling) (scope : List ℕ) (at next fresh : ℕ) (w : Ways) (e : Typed) (s : Stmt) → IsPlaced (lines_of x.world x.active) → HeadIsCounted x fresh → HasTest x e
    → Does x scope (suc at) s (ways (fresh + 1) fresh w.other) next (fresh + 1 + 1 + uses (Some false) e)
    → Does x scope at (while e s) w next fresh

-- C90 6.6.5.2
abbrev pub DoDoes : Type 0
DoDoes = (x : Calling) (scope : List ℕ) (at next fresh : ℕ) (w : Ways) (e : Typed) (s : Stmt) → IsPlaced (lines_of x.world x.active) → HeadIsCounted x fresh → HasTest x e
    → Does x scope (suc at) s (ways (fresh + 1 + 1) (fresh + 1) w.other) next (fresh + 1 + 1 + 1)
    → Does x scope at (do_while s e) w next fresh

-- C90 6.6.5.3
abbrev pub ForDoes : Type 0
ForDoes = (x : Calling) (scope : List ℕ) (at next fresh : ℕ) (w : Ways) (i c n : MaybeTyped) (s : Stmt) → IsPlaced (lines_of x.world x.active) → HeadIsCounted x (fresh + effects_uses i)
    → MayHaveEffect x i → MayHaveTest x c → MayHaveEffect x n
    → Does x scope (suc at) s (ways (fresh + effects_uses i + 1 + 1) (fresh + effects_uses i + 1) w.other) next (fresh + effects_uses i + 1 + 1 + 1 + guard_uses c)
    → Does x scope at (for_loop i c n s) w next fresh

-- C90 6.6.6.2, 6.6.6.3
abbrev pub BreakDoes : Type 0
BreakDoes = (x : Calling) (scope : List ℕ) (at next fresh : ℕ) (w : Ways) → Does x scope at break w next fresh

abbrev pub ContinueDoes : Type 0
ContinueDoes = (x : Calling) (scope : List ℕ) (at next fresh : ℕ) (w : Ways) → Does x scope at continue w next fresh

-- C90 6.6.6.4
abbrev pub ReturnDoes : Type 0
ReturnDoes = (x : Calling) (scope : List ℕ) (at next fresh : ℕ) (w : Ways) → Does x scope at (return absent) w next fresh

abbrev pub ReturnOfDoes : Type 0
ReturnOfDoes = (x : Calling) (scope : List ℕ) (at next fresh : ℕ) (w : Ways) (e : Typed) → HasResult x e → Does x scope at (return (present e)) w next fresh

-- a label of the function (C90 6.6.1)
abbrev pub LabelDoes : Type 0
LabelDoes = (x : Calling) (scope : List ℕ) (at next fresh l : ℕ) (w : Ways) (s : Stmt) → Does x scope (suc at) s w next fresh → Does x scope at (label l s) w next fresh

-- those of a `switch`, where the statement before them goes on (C90 6.6.4.2)
abbrev pub CaseDoes : Type 0
CaseDoes = (x : Calling) (scope : List ℕ) (at next fresh : ℕ) (z : ℤ) (w : Ways) (s : Stmt) → Does x scope (suc at) s w (following next) fresh → Does x scope at (case z s) w next fresh

abbrev pub DefaultDoes : Type 0
DefaultDoes = (x : Calling) (scope : List ℕ) (at next fresh : ℕ) (w : Ways) (s : Stmt) → Does x scope (suc at) s w next fresh → Does x scope at (default s) w next fresh

-- C90 6.6.6.1
abbrev pub GotoDoes : Type 0
GotoDoes = (x : Calling) (scope : List ℕ) (at next fresh l : ℕ) (w : Ways) → HasGround x → body_of (slice_get (unit_in x.world).funcs x.active.func) ≡ Some x.body
    → GotosAreCounted x (following l) → MayLand x (after (unit_in x.world) (ToLabel l) 0 x.body (Leave ∷ x.below)) → Does x scope at (goto l) w next fresh

-- ---- where labels lead

-- behind a label of the function
abbrev pub LabelLands : Type 0
LabelLands = (x : Calling) (what : Sought) (scope : List ℕ) (at next fresh l : ℕ) (w : Ways) (s : Stmt) → IsPlaced (lines_of x.world x.active)
    → Does x scope (suc at) s w next fresh → LandsIn x what scope (suc at) s w next fresh → LandsIn x what scope at (label l s) w next fresh

abbrev pub CaseLands : Type 0
CaseLands = (x : Calling) (what : Sought) (scope : List ℕ) (at next fresh : ℕ) (z : ℤ) (w : Ways) (s : Stmt) → IsPlaced (lines_of x.world x.active)
    → Does x scope (suc at) s w (following next) fresh → LandsIn x what scope (suc at) s w (following next) fresh → LandsIn x what scope at (case z s) w next fresh

abbrev pub DefaultLands : Type 0
DefaultLands = (x : Calling) (what : Sought) (scope : List ℕ) (at next fresh : ℕ) (w : Ways) (s : Stmt) → IsPlaced (lines_of x.world x.active)
    → Does x scope (suc at) s w next fresh → LandsIn x what scope (suc at) s w next fresh → LandsIn x what scope at (default s) w next fresh

-- in a list of statements, of which those behind the label follow
abbrev pub BothLand : Type 0
BothLand = (x : Calling) (what : Sought) (scope : List ℕ) (at next fresh : ℕ) (w : Ways) (s : Stmt) (ss : Stmts)
    → AllDo x scope (at + count s) ss w (case_behind next s) (fresh + stmt_uses x.active.frame s)
    → LandsIn x what scope at s w next fresh → LandsAmong x what scope (at + count s) ss w (case_behind next s) (fresh + stmt_uses x.active.frame s)
    → LandsAmong x what scope at (and_stmts s ss) w next fresh

-- in a block, whose objects have begun with those of the blocks in it
abbrev pub BlockLands : Type 0
BlockLands = (x : Calling) (what : Sought) (scope : List ℕ) (at next fresh : ℕ) (w : Ways) (os : List ℕ) (ss : Stmts)
    → LandsAmong x what (os ++ scope) (suc at) ss w next fresh → LandsIn x what scope at (block os ss) w next fresh

abbrev pub IfLands : Type 0
IfLands = (x : Calling) (what : Sought) (scope : List ℕ) (at next fresh : ℕ) (w : Ways) (e : Typed) (s r : Stmt) → IsPlaced (lines_of x.world x.active)
    → LandsIn x what scope (suc at) s w next (fresh + 1 + 1 + uses (Some false) e)
    → LandsIn x what scope (suc at + count s) r w (case_behind next s) (fresh + 1 + 1 + uses (Some false) e + stmt_uses x.active.frame s)
    → LandsIn x what scope at (if_stmt e s r) w next fresh

-- in a loop, whose next turns follow
abbrev pub WhileLands : Type 0
WhileLands = (x : Calling) (what : Sought) (scope : List ℕ) (at next fresh : ℕ) (w : Ways) (e : Typed) (s : Stmt) → IsPlaced (lines_of x.world x.active) → HeadIsCounted x fresh → HasTest x e
    → Does x scope (suc at) s (ways (fresh + 1) fresh w.other) next (fresh + 1 + 1 + uses (Some false) e)
    → LandsIn x what scope (suc at) s (ways (fresh + 1) fresh w.other) next (fresh + 1 + 1 + uses (Some false) e)
    → LandsIn x what scope at (while e s) w next fresh

abbrev pub DoLands : Type 0
DoLands = (x : Calling) (what : Sought) (scope : List ℕ) (at next fresh : ℕ) (w : Ways) (e : Typed) (s : Stmt) → IsPlaced (lines_of x.world x.active) → HeadIsCounted x fresh → HasTest x e
    → Does x scope (suc at) s (ways (fresh + 1 + 1) (fresh + 1) w.other) next (fresh + 1 + 1 + 1)
    → LandsIn x what scope (suc at) s (ways (fresh + 1 + 1) (fresh + 1) w.other) next (fresh + 1 + 1 + 1)
    → LandsIn x what scope at (do_while s e) w next fresh

abbrev pub ForLands : Type 0
ForLands = (x : Calling) (what : Sought) (scope : List ℕ) (at next fresh : ℕ) (w : Ways) (i c n : MaybeTyped) (s : Stmt) → IsPlaced (lines_of x.world x.active) → HeadIsCounted x (fresh + effects_uses i)
    → MayHaveEffect x i → MayHaveTest x c → MayHaveEffect x n
    → Does x scope (suc at) s (ways (fresh + effects_uses i + 1 + 1) (fresh + effects_uses i + 1) w.other) next (fresh + effects_uses i + 1 + 1 + 1 + guard_uses c)
    → LandsIn x what scope (suc at) s (ways (fresh + effects_uses i + 1 + 1) (fresh + effects_uses i + 1) w.other) next (fresh + effects_uses i + 1 + 1 + 1 + guard_uses c)
    → LandsIn x what scope at (for_loop i c n s) w next fresh

-- ---- the body of a function

-- Where each label of the body leads behind its own line, in the body's lines, a `goto` may go there from anywhere in the call; the body has
-- no more arms of `if`s within one another than a label is given weight for.
abbrev pub LabelsLead : Type 0
LabelsLead = (x : Calling) (w : Ways) (next fresh n v p : ℕ) → ((l : ℕ) → LandsLast x (ToLabel l) x.params 0 x.body w next fresh) → arms x.body ≤ arms_weight
    → n ≤ x.most → x.reserve ≤ v → HasAt (lines_of x.world x.active) p (last_code x.active.frame w next x.body fresh)
    → ReturnLeads x.world x.active x.needs x.first x.placing x.banks x.state x.params x.result x.below x.values n v
    → EndsIn x (returns_last x.body) n v x.params (Leave ∷ x.below) (p + length (last_code x.active.frame w next x.body fresh))
    → (l : ℕ) → LabelLeads x.world x.active x.needs x.first x.placing x.banks x.state x.params x.result x.below x.values n (v + arms_weight) l (after (unit_in x.world) (ToLabel l) 0 x.body (Leave ∷ x.below))

-- and so the lines of the body do its work, where its end and its returns are followed
abbrev pub BodiesDo : Type 0
BodiesDo = (x : Calling) (w : Ways) (next fresh n v p : ℕ) (c : Scene) (q : Placing) (b : Banks) (t : State) (seen : Seen)
    → LastDoes x x.params 0 x.body w next fresh → ((l : ℕ) → LandsLast x (ToLabel l) x.params 0 x.body w next fresh) → arms x.body ≤ arms_weight
    → n ≤ x.most → x.reserve ≤ v → HasAt (lines_of x.world x.active) p (last_code x.active.frame w next x.body fresh)
    → Between x.world x.active x.needs x.params c q b t → Keeping x.active x.first x.placing x.banks x.state c q b t → HasTurns x.world c.turns (place_in x.world x.active p) seen
    → ReturnLeads x.world x.active x.needs x.first x.placing x.banks x.state x.params x.result x.below x.values n v
    → EndsIn x (returns_last x.body) n v x.params (Leave ∷ x.below) (p + length (last_code x.active.frame w next x.body fresh))
    → Follows x.world n v (Running (plan_stmt (unit_in x.world) 0 x.body (Leave ∷ x.below)) x.values c) (place_in x.world x.active p) t seen

-- Behind the lines of a body stands what `main` gives at its end, where no return does, and then the function's end.
abbrev pub BodiesEnd : Type 0
BodiesEnd = (x : Calling) (is_main : Bool) (n v p : ℕ) (scope : List ℕ) (k : List Item) → IsPlaced (lines_of x.world x.active)
    → HasAt (lines_of x.world x.active) p (main_code (is_main && not (returns_last x.body)) ++ Label 0 ∷ end_code x.active.frame)
    → (returns_last x.body ≡ false → GoesOn x.world x.active x.needs x.first x.placing x.banks x.state x.params x.result x.below x.values n v scope k p)
    → EndsIn x (returns_last x.body) n v scope k p

-- ---- switch

-- where the lines that choose lead to the label of the case (C90 6.6.4.2)
abbrev pub SwitchDoes : Type 0
SwitchDoes = (x : Calling) (scope : List ℕ) (at next fresh : ℕ) (w : Ways) (e : Typed) (s : Stmt) (kind : IntType) → IsPlaced (lines_of x.world x.active) → HasGround x
    → HasValue x e → is_place e ≡ false → shape_in x.world x.active e ≡ Number kind → kind_in e ≡ kind
    → ChoiceLeads x kind (default_way s fresh) (fresh + 1 + 1) (fresh + 1 + 1 + length (cases_of s) + uses None e) (cases_of s)
    → ((what : Sought) (k : List Item) (to : Landing) → after (unit_in x.world) what (suc at) s (EndSwitch ∷ k) ≡ Some to → MayAllBegin x scope to.objects) → arms s ≤ arms_weight
    → ((z : ℤ) → LandsIn x (ToCase z) scope (suc at) s (ways fresh w.onward (fresh + 1)) (fresh + 1 + 1) (fresh + head_uses e s))
    → LandsIn x ToDefault scope (suc at) s (ways fresh w.onward (fresh + 1)) (fresh + 1 + 1) (fresh + head_uses e s)
    → Does x scope at (switch e s) w next fresh

abbrev pub SwitchLands : Type 0
SwitchLands = (x : Calling) (what : Sought) (scope : List ℕ) (at next fresh : ℕ) (w : Ways) (e : Typed) (s : Stmt) → IsPlaced (lines_of x.world x.active)
    → LandsIn x what scope (suc at) s (ways fresh w.onward (fresh + 1)) (fresh + 1 + 1) (fresh + head_uses e s) → LandsIn x what scope at (switch e s) w next fresh

-- ---- all statements

-- Where each expression in a statement does its work, objects may begin, and turns are counted where they are taken, the lines of the
-- statement do its work, and what is sought in it leads where they have its label.
abbrev pub StatementsDo : Type 0
StatementsDo = (x : Calling) (scope : List ℕ) (at next fresh : ℕ) (w : Ways) (s : Stmt) → IsPlaced (lines_of x.world x.active) → HasGround x
    → body_of (slice_get (unit_in x.world).funcs x.active.func) ≡ Some x.body → HasParts x scope at s w next fresh
    → Does x scope at s w next fresh × ((what : Sought) → LandsIn x what scope at s w next fresh)

-- and so do those of a statement that stands last in its function, whose return has no jump
abbrev pub LastsDo : Type 0
LastsDo = (x : Calling) (scope : List ℕ) (at next fresh : ℕ) (w : Ways) (s : Stmt) → IsPlaced (lines_of x.world x.active) → HasGround x
    → body_of (slice_get (unit_in x.world).funcs x.active.func) ≡ Some x.body → HasParts x scope at s w next fresh
    → LastDoes x scope at s w next fresh × ((what : Sought) → LandsLast x what scope at s w next fresh)
