-- Where the labels in a statement lead.
use Rattle.std.proofs.Common.{◌≡◌, ℕ, suc, ◌+◌, ◌≤◌, ◌⊎◌, inl, inr, max, List, ◌∷◌, ◌++◌, Option, Some, None, Bool, true, false, subst, arith, length-append}
use Rattle.std.specs.Prelude.{length, if◌then◌else◌}
use Rattle.c65_csem.specs.Trees.{Stmt, Stmts, and_stmts, UnitTy}
use Rattle.c65_csem_plain.specs.Arms.{arms, arms_in}
use Rattle.c65_meaning.specs.Items.{Item, End, plan_stmt, plan_stmts}
use Rattle.c65_meaning.specs.After.{Sought, Landing, is_among, is_label, is_case, is_default, or_else, within, found, after, after_all}
use Rattle.c65_meaning.specs.Sites.{count}
use Rattle.c65_meaning.specs.State.{Running}
use Rattle.c65_code.specs.declared.line.Line.{Line}
use Rattle.c65_code.specs.declared.line.Line.TheVariants.{Label}
use Rattle.c65_code.specs.Moves.{labelled}
use Rattle.c65_genstmt.specs.declared.jumps.Ways.{Ways}
use Rattle.c65_genstmt.specs.Jumps.{following}
use Rattle.c65_genstmt.specs.Stmts.{case_behind, ways}
use Rattle.c65_agree_state.specs.World.{unit_in, lines_of, HasAt, IsPlaced}
use Rattle.c65_agree_state.proofs.Nodes.{has_front, has_back}
use Rattle.c65_agree_lines.specs.Lists.{stmt_code, stmts_code, stmt_uses}
use Rattle.c65_agree_stmts.specs.Calling.{Calling, Does, EndsIn}
use Rattle.c65_agree_stmts.specs.Landings.{first_of, label_of, label_in, Lands, IsAhead, LandsIn}
use Rattle.c65_agree_stmts.specs.Laws.{LabelLands, CaseLands, DefaultLands, BothLand, BlockLands}
use Rattle.c65_agree_stmts.proofs.Inside.{stmts_alike}
use Rattle.c65_agree_stmts.proofs.Ahead.{onward, behind_label, Going, goes_of, going_of, going_less, Ahead, less, ahead_before, Ends, ends_of, ending_of, ends_less, ends_at, does_with, AreEnding, do_with}
use Rattle.c65_agree_stmts.proofs.Blocks.{stands_wider, among_left, among_right, among_both, block_ahead, block_ends}

module _ (x : Calling) where
  pub ahead_of : (n w : ℕ) (scope : List ℕ) (k : List Item) (ways : Ways) → IsAhead x n w scope k ways → Ahead x n w scope k ways
  ahead_of n w scope k ways h = record { call = h.call; behind = h.behind; onward = h.onward; labels = h.labels; returns = h.returns }

  pub is_ahead : (n w : ℕ) (scope : List ℕ) (k : List Item) (ways : Ways) → Ahead x n w scope k ways → IsAhead x n w scope k ways
  is_ahead n w scope k ways h = record { call = h.call; behind = h.behind; onward = h.onward; labels = h.labels; returns = h.returns }

  -- at another name of the place
  going_at : (n w : ℕ) (scope : List ℕ) (k : List Item) (p q : ℕ) → p ≡ q → Going x n w scope k p → Going x n w scope k q
  going_at n w scope k p q e h = subst (λ m. Going x n w scope k m) e h

  -- ---- landings

  pub lands_more : (n w v : ℕ) (scope : List ℕ) (o : Option Landing) (l : Option ℕ) → w ≤ v → Lands x n w scope o l → Lands x n v scope o l
  lands_more n w v scope None None le h = tt
  lands_more n w v scope None (Some l) le h = absurd h
  lands_more n w v scope (Some to) None le h = absurd h
  lands_more n w v scope (Some to) (Some l) le h = going_less x (suc n) (suc n) w v (to.objects ++ scope) to.work (labelled (lines_of x.world x.active) l) (omega arith) le h

  pub lands_first : (n w : ℕ) (scope : List ℕ) (o1 o2 : Option Landing) (l1 l2 : Option ℕ) → Lands x n w scope o1 l1 → Lands x n w scope o2 l2 → Lands x n w scope (or_else o1 o2) (first_of l1 l2)
  lands_first n w scope None o2 None l2 h h2 = h2
  lands_first n w scope None o2 (Some l) l2 h h2 = absurd h
  lands_first n w scope (Some to) o2 None l2 h h2 = absurd h
  lands_first n w scope (Some to) o2 (Some l) l2 h h2 = h

  pub lands_within : (n w : ℕ) (scope os : List ℕ) (o : Option Landing) (l : Option ℕ) → Lands x n w (os ++ scope) o l → Lands x n w scope (within os o) l
  lands_within n w scope os None None h = tt
  lands_within n w scope os None (Some l) h = absurd h
  lands_within n w scope os (Some to) None h = absurd h
  lands_within n w scope os (Some to) (Some l) h = λ j c q b t seen lt between keeping turns.
      let wide = stands_wider x ((os ++ to.objects) ++ scope) (to.objects ++ (os ++ scope)) c q b t moved (record { between = between; keeping = keeping }) in
      h j c q b t seen lt wide.between wide.keeping turns
    where
      moved : (m : ℕ) → is_among ((os ++ to.objects) ++ scope) m ≡ true → is_among (to.objects ++ (os ++ scope)) m ≡ true
      moved m e = go (among_both (os ++ to.objects) scope m e)
        where
          go : (is_among (os ++ to.objects) m ≡ true) ⊎ (is_among scope m ≡ true) → is_among (to.objects ++ (os ++ scope)) m ≡ true
          go (inr e2) = among_right to.objects (os ++ scope) m (among_right os scope m e2)
          go (inl e2) = by (among_both os to.objects m e2)
            where
              by : (is_among os m ≡ true) ⊎ (is_among to.objects m ≡ true) → is_among (to.objects ++ (os ++ scope)) m ≡ true
              by (inl e3) = among_right to.objects (os ++ scope) m (among_left os scope m e3)
              by (inr e3) = among_left to.objects (os ++ scope) m e3

  lands_found : (n w at : ℕ) (scope : List ℕ) (here : Bool) (work : List Item) (o : Option Landing) (label : ℕ) (l : Option ℕ) → Going x (suc n) w scope work (labelled (lines_of x.world x.active) label) → Lands x n w scope o l
      → Lands x n w scope (found here at work o) (if here then Some label else l)
  lands_found n w at scope true work o label l h h2 = h
  lands_found n w at scope false work o label l h h2 = h2

  -- ---- behind a label

  module _ (what : Sought) (scope : List ℕ) (at next fresh label : ℕ) (w : Ways) (s : Stmt) (placed : IsPlaced (lines_of x.world x.active)) (ds : Does x scope (suc at) s w next fresh) (ls : LandsIn x what scope (suc at) s w next fresh) (here : Bool) where
    abbrev S : List Line
    S = stmt_code x.active.frame w next s fresh

    abbrev u : UnitTy
    u = unit_in x.world

    behind : (n v p : ℕ) (k : List Item) → n ≤ x.most → x.reserve ≤ v → HasAt (lines_of x.world x.active) p (Label label ∷ S) → IsAhead x n v scope k w → Going x n v scope k (p + length (Label label ∷ S))
        → Lands x n (v + arms s) scope (found here at (plan_stmt u (suc at) s k) (after u what (suc at) s k)) (if here then Some label else label_of what w.other next s)
    behind n v p k le more has ahead goes =
        lands_found n (v + arms s) at scope here (plan_stmt u (suc at) s k) (after u what (suc at) s k) label (label_of what w.other next s)
        (going_less x (suc n) (suc n) v (v + arms s) scope (plan_stmt u (suc at) s k) (labelled (lines_of x.world x.active) label) (omega arith) (omega arith) enters)
        (ls n v (suc p) k le more has.1 ahead later)
      where
        len : p + length (Label label ∷ S) ≡ suc p + length S
        len = omega arith

        later : Going x n v scope k (suc p + length S)
        later = going_at n v scope k (p + length (Label label ∷ S)) (suc p + length S) len goes

        enters : Going x (suc n) v scope (plan_stmt u (suc at) s k) (labelled (lines_of x.world x.active) label)
        enters j c q b t seen lt between keeping turns =
            onward x.world x.active j v c.turns (Running (plan_stmt u (suc at) s k) x.values c) _ _ t seen (behind_label x.world x.active placed p label has.0) (λ turns1.
            does_with x scope (plan_stmt u (suc at) s) w S ds j v (suc p) k c q b t seen (omega (arith, lt, le)) more has.1 (record { between = between; keeping = keeping }) turns1
            (less x n j v v scope k w (omega (arith, lt)) (omega arith) (ahead_of n v scope k w ahead)) (λ i c2 q2 b2 y seen2 lt2 stands2 turns2.
            goes_of x n v scope k (suc p + length S) later i c2 q2 b2 y seen2 (omega (arith, lt, lt2)) stands2 turns2)) turns

pub label_lands : LabelLands
label_lands x what scope at next fresh l w s placed ds ls n v p k le more has ahead goes = behind x what scope at next fresh (following l) w s placed ds ls (is_label what l) n v p k le more has ahead goes

pub case_lands : CaseLands
case_lands x what scope at next fresh z w s placed ds ls n v p k le more has ahead goes = behind x what scope at (following next) fresh next w s placed ds ls (is_case what z) n v p k le more has ahead goes

pub default_lands : DefaultLands
default_lands x what scope at next fresh w s placed ds ls n v p k le more has ahead goes = behind x what scope at next fresh w.other w s placed ds ls (is_default what) n v p k le more has ahead goes

-- ---- lists and blocks

-- in a statement, or behind it in the lines of others, which may stand last in the function and have `label` for what is sought
pub either_lands : (x : Calling) (what : Sought) (scope : List ℕ) (at next fresh m : ℕ) (w : Ways) (s : Stmt) (ss : Stmts) (ends : Bool) (R : List Line) (label : Option ℕ)
    → AreEnding x scope (plan_stmts (unit_in x.world) (at + count s) ss) w ends R → LandsIn x what scope at s w next fresh
    → (n v p : ℕ) (k : List Item) → n ≤ x.most → x.reserve ≤ v → HasAt (lines_of x.world x.active) p (stmt_code x.active.frame w next s fresh ++ R) → IsAhead x n v scope k w
    → EndsIn x ends (suc n) v scope k (p + length (stmt_code x.active.frame w next s fresh ++ R))
    → (HasAt (lines_of x.world x.active) (p + length (stmt_code x.active.frame w next s fresh)) R → EndsIn x ends (suc n) v scope k (p + length (stmt_code x.active.frame w next s fresh) + length R)
    → Lands x n (v + m) scope (after_all (unit_in x.world) what (at + count s) ss k) label)
    → Lands x n (v + max (arms s) m) scope (after_all (unit_in x.world) what at (and_stmts s ss) k) (first_of (label_of what w.other next s) label)
either_lands x what scope at next fresh m w s ss ends R label dss ls n v p k le more has ahead goes lss =
    lands_first x n (v + max (arms s) m) scope (after u what at s (plan_stmts u (at + count s) ss k)) (after_all u what (at + count s) ss k) (label_of what w.other next s) label
    (lands_more x n (v + arms s) (v + max (arms s) m) scope _ _ (omega arith)
    (ls n v p (plan_stmts u (at + count s) ss k) le more (has_front _ p S R has) (is_ahead x n v scope (plan_stmts u (at + count s) ss k) w (ahead_before x n v scope (plan_stmts u (at + count s) ss k) k w (stmts_alike u (at + count s) ss k) all))
    (going_of x n v scope (plan_stmts u (at + count s) ss k) (p + length S) (λ j c q b t seen lt stands turns.
    dss j v (p + length S) k c q b t seen (omega (arith, lt, le)) more (has_back _ p S R has) stands turns
    (less x n j v v scope k w (omega (arith, lt)) (omega arith) all)
    (ends_less x ends (suc n) (suc j) v v scope k (p + length S + length R) (omega (arith, lt)) (omega arith) later)))))
    (lands_more x n (v + m) (v + max (arms s) m) scope _ _ (omega arith) (lss (has_back _ p S R has) (ending_of x ends (suc n) v scope k (p + length S + length R) later)))
  where
    u : UnitTy
    u = unit_in x.world

    S : List Line
    S = stmt_code x.active.frame w next s fresh

    all : Ahead x n v scope k w
    all = ahead_of x n v scope k w ahead

    later : Ends x ends (suc n) v scope k (p + length S + length R)
    later = ends_at x ends (suc n) v scope k (p + length (S ++ R)) (p + length S + length R) (omega (arith, length-append S R)) (ends_of x ends (suc n) v scope k (p + length (S ++ R)) goes)

pub both_land : BothLand
both_land x what scope at next fresh w s ss dss ls lss n v p k le more has ahead goes =
    let f = fresh + stmt_uses x.active.frame s in
    let label = label_in what w.other (case_behind next s) ss in
    either_lands x what scope at next fresh (arms_in ss) w s ss false (stmts_code x.active.frame w (case_behind next s) ss f) label (do_with x scope (at + count s) ss w (case_behind next s) f dss) ls n v p k le more has ahead goes
    (λ there on. lss n v (p + length (stmt_code x.active.frame w next s fresh)) k le more there ahead on)

-- in a block, whose lines may stand last in the function
pub inside_lands : (x : Calling) (n v m : ℕ) (scope os : List ℕ) (k : List Item) (w : Ways) (ends : Bool) (p : ℕ) (o : Option Landing) (label : Option ℕ) → IsAhead x n v scope k w → EndsIn x ends n v scope k p
    → (IsAhead x n v (os ++ scope) (End os ∷ k) w → EndsIn x ends (suc n) v (os ++ scope) (End os ∷ k) p → Lands x n (v + m) (os ++ scope) o label) → Lands x n (v + m) scope (within os o) label
inside_lands x n v m scope os k w ends p o label ahead goes lss =
    lands_within x n (v + m) scope os o label
    (lss (is_ahead x n v (os ++ scope) (End os ∷ k) w (block_ahead x n v scope os k w (ahead_of x n v scope k w ahead)))
    (ending_of x ends (suc n) v (os ++ scope) (End os ∷ k) p (block_ends x ends n v scope os k p (ends_of x ends n v scope k p goes))))

pub block_lands : BlockLands
block_lands x what scope at next fresh w os ss lss n v p k le more has ahead goes =
    inside_lands x n v (arms_in ss) scope os k w false (p + length (stmts_code x.active.frame w next ss fresh)) (after_all (unit_in x.world) what (suc at) ss (End os ∷ k)) (label_in what w.other next ss) ahead goes
    (λ within_block on. lss n v p (End os ∷ k) le more has within_block on)
