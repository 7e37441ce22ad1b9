-- The body of a function: its labels lead wherever a `goto` comes from.
use Rattle.std.proofs.Common.{◌≡◌, ℕ, suc, ◌+◌, ◌<◌, ◌≤◌, inr, List, [], ◌∷◌, ◌++◌, Option, Some, None, Bool, true, false, refl, sym, ap, subst, arith}
use Rattle.std.specs.Prelude.{◌==◌, ◌&&◌, not, if◌then◌else◌, length}
use Rattle.std.proofs.lemmas.Bool.{eqb-true}
use Rattle.c65_csem.specs.Trees.{Stmt, empty, eval, set_part, clear, block, if_stmt, while, do_while, for_loop, switch, case, default, label, goto, break, continue, return, Stmts, no_stmts, and_stmts}
use Rattle.c65_csem_plain.specs.Arms.{arms}
use Rattle.c65_meaning.specs.Items.{Item, Leave, plan_stmt}
use Rattle.c65_meaning.specs.After.{Landing, ToLabel, after}
use Rattle.c65_code.specs.declared.line.Line.TheVariants.{Label}
use Rattle.c65_code.specs.Moves.{labelled}
use Rattle.c65_genentry.specs.Ends.{end_code}
use Rattle.c65_genstmt.specs.declared.jumps.Ways.{Ways}
use Rattle.c65_genstmt.specs.Jumps.{following}
use Rattle.c65_genstmt.specs.Stmts.{case_behind, returns_last}
use Rattle.c65_genstmt.specs.Functions.{main_code}
use Rattle.c65_agree_state.specs.World.{unit_in, lines_of, place_in, HasAt, IsPlaced}
use Rattle.c65_agree_between.specs.Stmts.{arms_weight}
use Rattle.c65_agree_lines.specs.Lists.{last_code}
use Rattle.c65_agree_stmts.specs.Calling.{Calling, EndsIn}
use Rattle.c65_agree_stmts.specs.Landings.{first_of, label_of, label_in, Lands, LandsLast}
use Rattle.c65_agree_stmts.specs.Laws.{LabelsLead, BodiesDo, BodiesEnd}
use Rattle.c65_agree_stmts.proofs.Bounds.{all_does}
use Rattle.c65_agree_stmts.proofs.Ahead.{Going, Landed, Returning, going_less, returning_less, Ahead, ends_of, ending_of, ends_less, ends_with}
use Rattle.c65_agree_stmts.proofs.Landings.{is_ahead}

-- ---- the label of a label

abbrev IsOf : ℕ → Option ℕ → Type 0
IsOf l None = Unit {0}
IsOf l (Some m) = m ≡ following l

first_is : (l : ℕ) (o o2 : Option ℕ) → IsOf l o → IsOf l o2 → IsOf l (first_of o o2)
first_is l None o2 h h2 = h2
first_is l (Some m) o2 h h2 = h

here_is : (l m : ℕ) (o : Option ℕ) (b : Bool) → (l == m) ≡ b → IsOf l o → IsOf l (if b then Some (following m) else o)
here_is l m o true e h = ap following (sym (eqb-true l m e))
here_is l m o false e h = h

mutual
  label_is : (l other next : ℕ) (s : Stmt) → IsOf l (label_of (ToLabel l) other next s)
  label_is l other next empty = tt
  label_is l other next (eval e) = tt
  label_is l other next (set_part i o e) = tt
  label_is l other next (clear i) = tt
  label_is l other next (block os ss) = labels_are l other next ss
  label_is l other next (if_stmt e a b) = first_is l (label_of (ToLabel l) other next a) (label_of (ToLabel l) other (case_behind next a) b) (label_is l other next a) (label_is l other (case_behind next a) b)
  label_is l other next (while e s) = label_is l other next s
  label_is l other next (do_while s e) = label_is l other next s
  label_is l other next (for_loop i c n s) = label_is l other next s
  label_is l other next (switch e s) = label_is l other next s
  label_is l other next (case z s) = label_is l other (following next) s
  label_is l other next (default s) = label_is l other next s
  label_is l other next (label m s) = here_is l m (label_of (ToLabel l) other next s) (l == m) refl (label_is l other next s)
  label_is l other next (goto m) = tt
  label_is l other next break = tt
  label_is l other next continue = tt
  label_is l other next (return o) = tt

  labels_are : (l other next : ℕ) (ss : Stmts) → IsOf l (label_in (ToLabel l) other next ss)
  labels_are l other next no_stmts = tt
  labels_are l other next (and_stmts s ss) = first_is l (label_of (ToLabel l) other next s) (label_in (ToLabel l) other (case_behind next s) ss) (label_is l other next s) (labels_are l other (case_behind next s) ss)

-- ---- by induction on the steps that are looked at

module _ (x : Calling) (w : Ways) (next fresh v p : ℕ) (lands : (l : ℕ) → LandsLast x (ToLabel l) x.params 0 x.body w next fresh) (few : arms x.body ≤ arms_weight) (more : x.reserve ≤ v) (has : HasAt (lines_of x.world x.active) p (last_code x.active.frame w next x.body fresh)) where
  abbrev end : ℕ
  end = p + length (last_code x.active.frame w next x.body fresh)

  abbrev LabelsDo : ℕ → Type 0
  LabelsDo n = n ≤ x.most → Returning x n v → EndsIn x (returns_last x.body) n v x.params (Leave ∷ x.below) end → (l : ℕ) → Landed x n (v + arms_weight) l (after (unit_in x.world) (ToLabel l) 0 x.body (Leave ∷ x.below))

  body_ahead : (n : ℕ) → Returning x n v → ((l : ℕ) → Landed x n (v + arms_weight) l (after (unit_in x.world) (ToLabel l) 0 x.body (Leave ∷ x.below))) → Ahead x n v x.params (Leave ∷ x.below) w
  body_ahead n returns labels = record { call = ([], refl, λ m e. inr e); behind = tt; onward = tt; labels = labels; returns = returns }

  -- a landing by its label
  landing : (j l : ℕ) (o : Option Landing) (m : Option ℕ) → IsOf l m → Lands x j (v + arms x.body) x.params o m → (to : Landing) → o ≡ Some to → Going x (suc j) (v + arms_weight) (to.objects ++ x.params) to.work (labelled (lines_of x.world x.active) (following l))
  landing j l None m is h to e = cc
  landing j l (Some r) None is h to e = absurd h
  landing j l (Some r) (Some m) is h to e =
      let same : r ≡ to = cc in
      subst (λ z. Going x (suc j) (v + arms_weight) (z.objects ++ x.params) z.work (labelled (lines_of x.world x.active) (following l))) same
      (going_less x (suc j) (suc j) (v + arms x.body) (v + arms_weight) (r.objects ++ x.params) r.work (labelled (lines_of x.world x.active) (following l)) (omega arith) (omega (arith, few))
      (subst (λ n. Going x (suc j) (v + arms x.body) (r.objects ++ x.params) r.work (labelled (lines_of x.world x.active) n)) is h))

  labels_step : (n : ℕ) → ((j : ℕ) → j < n → LabelsDo j) → LabelsDo n
  labels_step n before le returns goes l = go (after (unit_in x.world) (ToLabel l) 0 x.body (Leave ∷ x.below)) refl
    where
      lands_at : (j : ℕ) → j < n → Lands x j (v + arms x.body) x.params (after (unit_in x.world) (ToLabel l) 0 x.body (Leave ∷ x.below)) (label_of (ToLabel l) w.other next x.body)
      lands_at j lt =
          let back = returning_less x n j v v (omega (arith, lt)) (omega arith) returns in
          let r = returns_last x.body in
          let on = ending_of x r j v x.params (Leave ∷ x.below) end (ends_less x r n j v v x.params (Leave ∷ x.below) end (omega (arith, lt)) (omega arith) (ends_of x r n v x.params (Leave ∷ x.below) end goes)) in
          lands l j v p (Leave ∷ x.below) (omega (arith, lt, le)) more has (is_ahead x j v x.params (Leave ∷ x.below) w (body_ahead j back (before j lt (omega (arith, lt, le)) back on))) on

      go : (o : Option Landing) → after (unit_in x.world) (ToLabel l) 0 x.body (Leave ∷ x.below) ≡ o → Landed x n (v + arms_weight) l o
      go None e = tt
      go (Some to) e = λ j c q b t seen lt between keeping turns.
          landing j l (after (unit_in x.world) (ToLabel l) 0 x.body (Leave ∷ x.below)) (label_of (ToLabel l) w.other next x.body) (label_is l w.other next x.body) (lands_at j lt) to e j c q b t seen (omega arith) between keeping turns

  labels_do : (n : ℕ) → LabelsDo n
  labels_do = all_does LabelsDo labels_step

pub labels_lead : LabelsLead
labels_lead x w next fresh n v p lands few le more has returns goes l = labels_do x w next fresh v p lands few more has n le returns goes l

pub bodies_do : BodiesDo
bodies_do x w next fresh n v p c q b t seen does lands few le more has between keeping turns returns goes =
    let r = returns_last x.body in
    let lines = last_code x.active.frame w next x.body fresh in
    ends_with x x.params (plan_stmt (unit_in x.world) 0 x.body) w r lines does n v p (Leave ∷ x.below) c q b t seen le more has (record { between = between; keeping = keeping }) turns
    (body_ahead x w next fresh v p lands few more has n returns (labels_lead x w next fresh n v p lands few le more has returns goes)) (ends_of x r n v x.params (Leave ∷ x.below) (p + length lines) goes)

-- ---- behind its lines

ends_by : (x : Calling) (is_main returns : Bool) (n v p : ℕ) (scope : List ℕ) (k : List Item) → IsPlaced (lines_of x.world x.active) → HasAt (lines_of x.world x.active) p (main_code (is_main && not returns) ++ Label 0 ∷ end_code x.active.frame)
    → (returns ≡ false → Going x n v scope k p) → EndsIn x returns n v scope k p
ends_by x true true n v p scope k placed has goes = ap (place_in x.world x.active) (sym (placed p 0 has.0))
ends_by x false true n v p scope k placed has goes = ap (place_in x.world x.active) (sym (placed p 0 has.0))
ends_by x is_main false n v p scope k placed has goes = goes refl

pub bodies_end : BodiesEnd
bodies_end x is_main n v p scope k placed has goes = ends_by x is_main (returns_last x.body) n v p scope k placed has goes
