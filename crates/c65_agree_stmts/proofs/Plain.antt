-- Empty statements, statements that are expressions, lists of statements, blocks without objects, and `if`.
use Rattle.std.proofs.Common.{◌≡◌, ℕ, suc, ◌+◌, ◌≤◌, List, [], ◌∷◌, ◌++◌, Option, Some, None, Bool, false, refl, ap, ◌∙◌, arith, length-append}
use Rattle.std.specs.Prelude.{length}
use Rattle.c65_csem.specs.Trees.{Typed, Stmt, empty, eval, block, if_stmt, Stmts, no_stmts, and_stmts, UnitTy}
use Rattle.c65_meaning.specs.Items.{Item, Skip, Drop, Begin, End, Branch, plan_stmt, plan_stmts}
use Rattle.c65_meaning.specs.After.{Left, ending, up_to_break, up_to_continue}
use Rattle.c65_meaning.specs.Sites.{count}
use Rattle.c65_meaning.specs.State.{Running}
use Rattle.c65_code.specs.declared.line.Line.{Line}
use Rattle.c65_code.specs.declared.line.Line.TheVariants.{Label}
use Rattle.c65_genexpr.specs.declared.wanted.Wanted.TheVariants.{Test}
use Rattle.c65_genexpr.specs.Code.{expr_code}
use Rattle.c65_genexpr.specs.Uses.{uses}
use Rattle.c65_geneffect.specs.Effects.{effect_code}
use Rattle.c65_genstmt.specs.declared.jumps.Ways.{Ways}
use Rattle.c65_genstmt.specs.Stmts.{is_empty, case_behind}
use Rattle.c65_agree_state.specs.World.{World, unit_in, Active, lines_of, place_in, HasAt, IsPlaced}
use Rattle.c65_agree_state.proofs.Followed.{follows_weaken}
use Rattle.c65_agree_state.proofs.Nodes.{has_front, has_back}
use Rattle.c65_agree_lines.specs.Lists.{way_code, stmt_code, stmts_code, stmt_uses}
use Rattle.c65_agree_stmts.specs.Calling.{Calling, Does, HasTest}
use Rattle.c65_agree_stmts.specs.Laws.{EmptyDoes, EvalDoes, NoneDo, BothDo, BlockDoes, IfDoes}
use Rattle.c65_agree_stmts.proofs.Inside.{stmts_alike}
use Rattle.c65_agree_stmts.proofs.Standing.{earns, effect_goes, decision_goes, come_turns}
use Rattle.c65_agree_stmts.proofs.Ahead.{onward, passed, behind_label, Leads, Ahead, less, ahead_before, Ends, ends_less, ends_at, does_with, IsDone, work_does, do_with, AreEnding, all_do}
use Rattle.c65_agree_stmts.proofs.Over.{no_lines_of, goes_over}

-- ---- one behind another

-- behind no lines
pub behind_nothing : (g : World) (a : Active) (p : ℕ) → place_in g a p ≡ place_in g a (p + length {A = Line} [])
behind_nothing g a p = ap (place_in g a) (omega arith)

pub empty_does : EmptyDoes
empty_does x scope at next fresh w = work_does x scope (plan_stmt (unit_in x.world) at empty) w [] (λ n v p k c q b t seen le more has stands turns ahead goes.
    earns x scope c q b t stands n v Skip k x.values _ seen turns (λ j lt.
    follows_weaken x.world j v (v + 4000) _ _ t seen (omega arith)
    (onward x.world x.active j v c.turns (Running k x.values c) _ _ t seen (behind_nothing x.world x.active p) (goes j c q b t seen lt stands) turns)))

pub eval_does : EvalDoes
eval_does x scope at next fresh w e has = work_does x scope (plan_stmt (unit_in x.world) at (eval e)) w (effect_code x.active.frame 0 fresh e) (λ n v p k c q b t seen le more there stands turns ahead goes.
    effect_goes x scope c q b t stands e has n v p fresh (Drop ∷ k) seen there turns (λ j value c2 q2 b2 u later lt stands2 turns2.
    earns x scope c2 q2 b2 u stands2 j (v + 2600) Drop k (value ∷ x.values) _ later turns2 (λ i lt2.
    follows_weaken x.world i v (v + 2600 + 4000) _ _ u later (omega arith) (goes i c2 q2 b2 u later (omega (arith, lt, lt2)) stands2 turns2))))

pub none_do : NoneDo
none_do x scope at next fresh w = all_do x scope at no_stmts w next fresh (λ n v p k c q b t seen le more has stands turns ahead goes.
    onward x.world x.active n v c.turns (Running k x.values c) _ _ t seen (behind_nothing x.world x.active p) (goes n c q b t seen (omega arith) stands) turns)

-- a statement, and behind it the lines of others, which may stand last in the function
pub both_end : (x : Calling) (scope : List ℕ) (at next fresh : ℕ) (w : Ways) (s : Stmt) (ss : Stmts) (ends : Bool) (R : List Line) → Does x scope at s w next fresh → AreEnding x scope (plan_stmts (unit_in x.world) (at + count s) ss) w ends R
    → AreEnding x scope (plan_stmts (unit_in x.world) at (and_stmts s ss)) w ends (stmt_code x.active.frame w next s fresh ++ R)
both_end x scope at next fresh w s ss ends R ds dss n v p k c q b t seen le more has stands turns ahead goes =
    does_with x scope (plan_stmt u at s) w S ds n v p (plan_stmts u (at + count s) ss k) c q b t seen le more (has_front _ p S R has) stands turns
    (ahead_before x n v scope (plan_stmts u (at + count s) ss k) k w (stmts_alike u (at + count s) ss k) ahead) (λ j c2 q2 b2 y later lt stands2 turns2.
    dss j v (p + length S) k c2 q2 b2 y later (omega (arith, lt, le)) more (has_back _ p S R has) stands2 turns2
    (less x n j v v scope k w (omega (arith, lt)) (omega arith) ahead)
    (ends_less x ends (suc n) (suc j) v v scope k (p + length S + length R) (omega (arith, lt)) (omega arith) later_ends))
  where
    u : UnitTy
    u = unit_in x.world

    S : List Line
    S = stmt_code x.active.frame w next s fresh

    later_ends : Ends x ends (suc n) v scope k (p + length S + length R)
    later_ends = ends_at x ends (suc n) v scope k (p + length (S ++ R)) (p + length S + length R) (omega (arith, length-append S R)) goes

pub both_do : BothDo
both_do x scope at next fresh w s ss ds dss =
    let f = fresh + stmt_uses x.active.frame s in
    all_do x scope at (and_stmts s ss) w next fresh (both_end x scope at next fresh w s ss false (stmts_code x.active.frame w (case_behind next s) ss f) ds (do_with x scope (at + count s) ss w (case_behind next s) f dss))

-- ---- a block without objects

no_more : (x : Calling) (n w : ℕ) (scope : List ℕ) (o : Option Left) (l : ℕ) → Leads x n w scope o l → Leads x n w scope (ending [] o) l
no_more x n w scope None l h = tt
no_more x n w scope (Some r) l h = h

pub block_does : BlockDoes
block_does x scope at next fresh w ss dss = work_does x scope (plan_stmt (unit_in x.world) at (block [] ss)) w (stmts_code x.active.frame w next ss fresh) (λ n v p k c q b t seen le more has stands turns ahead goes.
    earns x scope c q b t stands n v (Begin (suc at) [] ss) k x.values _ seen turns (λ j lt.
    follows_weaken x.world j v (v + 4000) _ _ t seen (omega arith)
    (do_with x scope (suc at) ss w next fresh dss j v p (End [] ∷ k) c q b t seen (omega (arith, lt, le)) more has stands turns
    (within n v scope k w j (omega (arith, lt)) ahead) (λ i c2 q2 b2 u later lt2 stands2 turns2.
    earns x scope c2 q2 b2 u stands2 i v (End []) k x.values _ later turns2 (λ h lt3.
    follows_weaken x.world h v (v + 4000) _ _ u later (omega arith) (goes h c2 q2 b2 u later (omega (arith, lt, lt2, lt3)) stands2 turns2))))))
  where
    within : (n v : ℕ) (scope : List ℕ) (k : List Item) (w : Ways) (j : ℕ) → j ≤ n → Ahead x n v scope k w → Ahead x j v scope (End [] ∷ k) w
    within n v scope k w j le h =
        let l = less x n j v v scope k w le (omega arith) h in
        record { call = (l.call.0, ap (ending []) l.call.1, l.call.2); behind = no_more x j v scope (up_to_break k) w.behind l.behind; onward = no_more x j v scope (up_to_continue k) w.onward l.onward; labels = l.labels; returns = l.returns }

-- ---- if

module _ (x : Calling) (scope : List ℕ) (at next fresh : ℕ) (w : Ways) (e : Typed) (s r : Stmt) (placed : IsPlaced (lines_of x.world x.active)) (test : HasTest x e)
    (ds : Does x scope (suc at) s w next (fresh + 1 + 1 + uses (Some false) e)) (dr : Does x scope (suc at + count s) r w (case_behind next s) (fresh + 1 + 1 + uses (Some false) e + stmt_uses x.active.frame s)) where
  abbrev f : ℕ
  f = fresh + 1 + 1 + uses (Some false) e

  abbrev T : List Line
  T = expr_code x.active.frame 0 (fresh + 1 + 1) (Test fresh false) e

  abbrev A : List Line
  A = stmt_code x.active.frame w next s f

  abbrev B : List Line
  B = stmt_code x.active.frame w (case_behind next s) r (f + stmt_uses x.active.frame s)

  abbrev last : List Line
  last = Label (fresh + 1) ∷ []

  abbrev W : List Line
  W = way_code (is_empty r) (fresh + 1)

  if_done : IsDone x scope (plan_stmt (unit_in x.world) at (if_stmt e s r)) w (T ++ (A ++ (W ++ Label fresh ∷ (B ++ last))))
  if_done n v p k c q b t seen le more has stands turns ahead goes =
      decision_goes x scope c q b t stands e test false fresh (Branch (suc at) s (suc at + count s) r) (λ c2. Running (plan_stmt u (suc at) s k) x.values c2) (λ c2. Running (plan_stmt u (suc at + count s) r k) x.values c2)
      n v p (fresh + 1 + 1) k seen (λ value c2. refl) (has_front code p T _ has) turns (λ j c2 q2 b2 y later lt stands2 turns2.
      follows_weaken x.world j (1 + v) (v + 6600) _ _ y later (omega arith)
      (does_with x scope (plan_stmt u (suc at) s) w A ds j (1 + v) p1 k c2 q2 b2 y later (omega (arith, lt, le)) (omega (arith, more)) (has_front code p1 A _ h1) stands2 turns2
      (less x n j v (1 + v) scope k w (omega (arith, lt)) (omega arith) ahead)
      (goes_over x scope k (is_empty r) fresh (fresh + 1) B j v p2 placed (no_lines_of x.active.frame w (case_behind next s) r (f + stmt_uses x.active.frame s)) h2 (λ i c3 q3 b3 z later3 lt3 stands3 turns3.
      onward x.world x.active i v c3.turns (Running k x.values c3) _ _ z later3 end (goes i c3 q3 b3 z later3 (omega (arith, lt, lt3)) stands3) turns3)))) (λ j c2 q2 b2 y later lt stands2 come.
      onward x.world x.active j (v + 6600) c2.turns (Running (plan_stmt u (suc at + count s) r k) x.values c2) _ _ y later (behind_label x.world x.active placed (p2 + length W) fresh h2b.0) (λ turns2.
      follows_weaken x.world j v (v + 6600) _ _ y later (omega arith)
      (does_with x scope (plan_stmt u (suc at + count s) r) w B dr j v (suc (p2 + length W)) k c2 q2 b2 y later (omega (arith, lt, le)) more (has_front code (suc (p2 + length W)) B _ h2b.1) stands2 turns2
      (less x n j v v scope k w (omega (arith, lt)) (omega arith) ahead) (λ i c3 q3 b3 z later3 lt3 stands3 turns3.
      onward x.world x.active i v c3.turns (Running k x.values c3) _ _ z later3 (passed x.world x.active p3 (fresh + 1) h3.0 ∙ end) (goes i c3 q3 b3 z later3 (omega (arith, lt, lt3)) stands3) turns3)))
      (come_turns x.world c2.turns _ _ come))
    where
      u : UnitTy
      u = unit_in x.world

      code : List Line
      code = lines_of x.world x.active

      p1 : ℕ
      p1 = p + length T

      h1 : HasAt code p1 (A ++ (W ++ Label fresh ∷ (B ++ last)))
      h1 = has_back code p T _ has

      p2 : ℕ
      p2 = p1 + length A

      h2 : HasAt code p2 (W ++ Label fresh ∷ (B ++ last))
      h2 = has_back code p1 A _ h1

      p3 : ℕ
      p3 = suc (p2 + length W) + length B

      h2b : HasAt code (p2 + length W) (Label fresh ∷ (B ++ last))
      h2b = has_back code p2 W _ h2

      h3 : HasAt code p3 last
      h3 = has_back code (suc (p2 + length W)) B last h2b.1

      end : place_in x.world x.active (suc p3) ≡ place_in x.world x.active (p + length (T ++ (A ++ (W ++ Label fresh ∷ (B ++ last)))))
      end = ap (place_in x.world x.active) (omega (arith, length-append T (A ++ (W ++ Label fresh ∷ (B ++ last))), length-append A (W ++ Label fresh ∷ (B ++ last)), length-append W (Label fresh ∷ (B ++ last)), length-append B last))

pub if_does : IfDoes
if_does x scope at next fresh w e s r placed test ds dr =
    work_does x scope (plan_stmt (unit_in x.world) at (if_stmt e s r)) w (stmt_code x.active.frame w next (if_stmt e s r) fresh) (if_done x scope at next fresh w e s r placed test ds dr)
