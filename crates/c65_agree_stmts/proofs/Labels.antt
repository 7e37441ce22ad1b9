-- Labels, and `goto` (C90 6.6.1, 6.6.6.1).
use Rattle.std.proofs.Common.{◌≡◌, ℕ, suc, ◌+◌, ◌<◌, ◌≤◌, ◌⊎◌, inl, inr, List, [], ◌∷◌, ◌++◌, Option, Some, None, Bool, true, false, refl, sym, ap, ◌∙◌, subst, arith}
use Rattle.std.specs.Prelude.{◌==◌, if◌then◌else◌, nat_le, slice_get}
use Rattle.std.proofs.lemmas.Bool.{eqb-true}
use Rattle.c65_csem.specs.Trees.{case, default, label, goto, UnitTy}
use Rattle.c65_mach.specs.declared.rows.Op.TheVariants.{Jmp}
use Rattle.c65_meaning.specs.Why.{Unfit}
use Rattle.c65_meaning.specs.Items.{Item, Jump, Leave, plan_stmt}
use Rattle.c65_meaning.specs.After.{Landing, ToLabel, after, is_among, without}
use Rattle.c65_meaning.specs.State.{Scene, Running}
use Rattle.c65_meaning.specs.Step.{func_in, body_of, begin_objects, end_objects, has_turn, label_in, landed, jumped}
use Rattle.c65_code.specs.declared.line.Line.{Line}
use Rattle.c65_code.specs.declared.line.Line.TheVariants.{Label}
use Rattle.c65_code.specs.LineState.{Place, State}
use Rattle.c65_code.specs.Comes.{Seen}
use Rattle.c65_genentry.specs.Words.{jump}
use Rattle.c65_genstmt.specs.declared.jumps.Ways.{Ways}
use Rattle.c65_genstmt.specs.Jumps.{following}
use Rattle.c65_agree_store.specs.Stands.{Placing, Banks}
use Rattle.c65_agree_state.specs.World.{unit_in, total_in, lines_of, place_in, HasTurns}
use Rattle.c65_agree_state.specs.Follows.{Follows}
use Rattle.c65_agree_between.specs.Stmts.{Covers, arms_weight}
use Rattle.c65_agree_state.proofs.Followed.{follows_weaken}
use Rattle.c65_agree_lines.specs.Lists.{stmt_code}
use Rattle.c65_agree_stmts.specs.Calling.{Calling, GotosAreCounted}
use Rattle.c65_agree_stmts.specs.Objects.{MayLand, HasGround}
use Rattle.c65_agree_stmts.specs.Laws.{LabelDoes, CaseDoes, DefaultDoes, GotoDoes}
use Rattle.c65_agree_stmts.proofs.Standing.{Stands, stands_turned, earns, jumps_with, come_turns, undefined_follows}
use Rattle.c65_agree_stmts.proofs.Ahead.{onward, passed, Landed, does_with, IsDone, work_does}
use Rattle.c65_agree_stmts.proofs.Endings.{stands_ended, ended_turns}
use Rattle.c65_agree_stmts.proofs.Blocks.{stands_wider, among_left, among_right, among_both, all_begin, begun_turns}

-- ---- labels

module _ (x : Calling) (scope : List ℕ) (w : Ways) (work : List Item → List Item) (l : ℕ) (lines : List Line) where
  -- a label before lines that do some work
  labelled_done : IsDone x scope work w lines → IsDone x scope work w (Label l ∷ lines)
  labelled_done done n v p k c q b t seen le more has stands turns ahead goes =
      onward x.world x.active n v c.turns (Running (work k) x.values c) _ _ t seen (passed x.world x.active p l has.0) (λ turns1.
      done n v (suc p) k c q b t seen le more has.1 stands turns1 ahead (λ j c2 q2 b2 y later lt stands2 turns2.
      onward x.world x.active j v c2.turns (Running k x.values c2) _ _ y later (ap (place_in x.world x.active) (omega arith)) (goes j c2 q2 b2 y later lt stands2) turns2)) turns

pub label_does : LabelDoes
label_does x scope at next fresh l w s ds =
    let u = unit_in x.world in
    let lines = stmt_code x.active.frame w next s fresh in
    work_does x scope (plan_stmt u at (label l s)) w (Label (following l) ∷ lines) (labelled_done x scope w (plan_stmt u (suc at) s) (following l) lines (does_with x scope (plan_stmt u (suc at) s) w lines ds))

pub case_does : CaseDoes
case_does x scope at next fresh z w s ds =
    let u = unit_in x.world in
    let lines = stmt_code x.active.frame w (following next) s fresh in
    work_does x scope (plan_stmt u at (case z s)) w (Label next ∷ lines) (labelled_done x scope w (plan_stmt u (suc at) s) next lines (does_with x scope (plan_stmt u (suc at) s) w lines ds))

pub default_does : DefaultDoes
default_does x scope at next fresh w s ds =
    let u = unit_in x.world in
    let lines = stmt_code x.active.frame w next s fresh in
    work_does x scope (plan_stmt u at (default s)) w (Label w.other ∷ lines) (labelled_done x scope w (plan_stmt u (suc at) s) w.other lines (does_with x scope (plan_stmt u (suc at) s) w lines ds))

-- ---- what a jump leaves and enters

among_without : (xs ys : List ℕ) (m : ℕ) → is_among xs m ≡ true → (is_among (without xs ys) m ≡ true) ⊎ (is_among ys m ≡ true)
among_without [] ys m e = cc
among_without (i ∷ xs) ys m e = go (λ h. among_without xs ys m h) (i == m) refl (is_among ys i) refl e
  where
    go : (is_among xs m ≡ true → (is_among (without xs ys) m ≡ true) ⊎ (is_among ys m ≡ true)) → (b : Bool) → (i == m) ≡ b → (d : Bool) → is_among ys i ≡ d → (if b then true else is_among xs m) ≡ true
        → (is_among (if d then without xs ys else i ∷ without xs ys) m ≡ true) ⊎ (is_among ys m ≡ true)
    go deep true f true g h = inr (ap (is_among ys) (sym (eqb-true i m f)) ∙ g)
    go deep true f false g h = inl (ap (λ z. if z then true else is_among (without xs ys) m) f)
    go deep false f true g h = deep h
    go deep false f false g h = by (deep h)
      where
        by : (is_among (without xs ys) m ≡ true) ⊎ (is_among ys m ≡ true) → (is_among (i ∷ without xs ys) m ≡ true) ⊎ (is_among ys m ≡ true)
        by (inl e2) = inl (among_right (i ∷ []) (without xs ys) m e2)
        by (inr e2) = inr e2

without_among : (xs ys : List ℕ) (m : ℕ) → is_among (without xs ys) m ≡ true → is_among xs m ≡ true
without_among [] ys m e = e
without_among (i ∷ xs) ys m e = go (λ h. without_among xs ys m h) (is_among ys i) e
  where
    go : (is_among (without xs ys) m ≡ true → is_among xs m ≡ true) → (d : Bool) → is_among (if d then without xs ys else i ∷ without xs ys) m ≡ true → is_among (i ∷ xs) m ≡ true
    go deep true h = among_right (i ∷ []) xs m (deep h)
    go deep false h = by (among_both (i ∷ []) (without xs ys) m h)
      where
        by : (is_among (i ∷ []) m ≡ true) ⊎ (is_among (without xs ys) m ≡ true) → is_among (i ∷ xs) m ≡ true
        by (inl e2) = among_left (i ∷ []) xs m e2
        by (inr e2) = among_right (i ∷ []) xs m (deep e2)

-- what is left of the first list is in no way among the second
without_apart : (xs ys : List ℕ) (m : ℕ) → is_among (without xs ys) m ≡ true → is_among ys m ≡ false
without_apart [] ys m e = cc
without_apart (i ∷ xs) ys m e = go (λ h. without_apart xs ys m h) (is_among ys i) refl e
  where
    go : (is_among (without xs ys) m ≡ true → is_among ys m ≡ false) → (d : Bool) → is_among ys i ≡ d → is_among (if d then without xs ys else i ∷ without xs ys) m ≡ true → is_among ys m ≡ false
    go deep true f h = deep h
    go deep false f h = by (i == m) refl h
      where
        by : (b : Bool) → (i == m) ≡ b → (if b then true else is_among (without xs ys) m) ≡ true → is_among ys m ≡ false
        by true e2 h2 = ap (is_among ys) (sym (eqb-true i m e2)) ∙ f
        by false e2 h2 = deep h2

module _ (left objects params : List ℕ) where
  abbrev stays : List ℕ
  stays = without left (without left objects)

  -- what was in scope is left or stays
  leaves_or_stays : (scope : List ℕ) → Covers scope left params → Covers scope (without left objects) (stays ++ params)
  leaves_or_stays scope covers m e = go (covers m e)
    where
      go : (is_among left m ≡ true) ⊎ (is_among params m ≡ true) → (is_among (without left objects) m ≡ true) ⊎ (is_among (stays ++ params) m ≡ true)
      go (inr e2) = inr (among_right stays params m e2)
      go (inl e2) = by (among_without left (without left objects) m e2)
        where
          by : (is_among stays m ≡ true) ⊎ (is_among (without left objects) m ≡ true) → (is_among (without left objects) m ≡ true) ⊎ (is_among (stays ++ params) m ≡ true)
          by (inl e3) = inr (among_left stays params m e3)
          by (inr e3) = inl e3

  -- what stays or is begun is in scope at the label
  is_in_scope : (m : ℕ) → is_among (without objects left ++ (stays ++ params)) m ≡ true → is_among (objects ++ params) m ≡ true
  is_in_scope m e = go (among_both (without objects left) (stays ++ params) m e)
    where
      kept : (is_among left m ≡ true) → is_among (without left objects) m ≡ false → is_among objects m ≡ true
      kept e2 gone = by (among_without left objects m e2)
        where
          by : (is_among (without left objects) m ≡ true) ⊎ (is_among objects m ≡ true) → is_among objects m ≡ true
          by (inr e3) = e3
          by (inl e3) =
              let clash : true ≡ false = sym e3 ∙ gone in
              cc

      go : (is_among (without objects left) m ≡ true) ⊎ (is_among (stays ++ params) m ≡ true) → is_among (objects ++ params) m ≡ true
      go (inl e2) = among_left objects params m (without_among objects left m e2)
      go (inr e2) = by (among_both stays params m e2)
        where
          by : (is_among stays m ≡ true) ⊎ (is_among params m ≡ true) → is_among (objects ++ params) m ≡ true
          by (inl e3) = among_left objects params m (kept (without_among left (without left objects) m e3) (without_apart left (without left objects) m e3))
          by (inr e3) = among_right objects params m e3

-- ---- goto

module _ (x : Calling) (scope : List ℕ) (l : ℕ) (w : Ways) (ground : HasGround x) (body : body_of (slice_get (unit_in x.world).funcs x.active.func) ≡ Some x.body) (counted : GotosAreCounted x (following l)) where
  abbrev u : UnitTy
  u = unit_in x.world

  abbrev code : List Line
  code = lines_of x.world x.active

  abbrev place : ℕ → Place
  place i = place_in x.world x.active i

  module _ (n v p : ℕ) (k : List Item) (c : Scene) (q : Placing) (b : Banks) (t : State) (seen : Seen) (has : slice_get code p ≡ Some (jump Jmp (following l))) (stands : Stands x scope c q b t) (turns : HasTurns x.world c.turns (place p) seen) (left : List ℕ) (covers : Covers scope left x.params) where
    -- a jump in front takes its turn, one behind does not
    turned_stands : (taken : Bool) (s : List ℕ) (d : Scene) (q2 : Placing) → Stands x s d q2 b t → Stands x s (has_turn taken d) q2 b t
    turned_stands true s d q2 h = stands_turned x s d q2 b t h
    turned_stands false s d q2 h = h

    turned_few : (taken : Bool) (d : Scene) → d.turns ≡ c.turns → (has_turn taken d).turns ≤ total_in x.world seen
    turned_few true d same = let own = counted p has in omega (arith, same, own, turns)
    turned_few false d same = omega (arith, same, turns)

    lands : (o : Option Landing) → MayLand x o → Landed x n (v + arms_weight) l o → (at j : ℕ) → j < n → Follows x.world j (1 + (v + arms_weight)) (landed u at x.values c (record { objects = left; work = Leave ∷ x.below }) o) (place p) t seen
    lands None may leads at j lt = undefined_follows x.world j (1 + (v + arms_weight)) Unfit (place p) t seen
    lands (Some to) may leads at j lt =
        let ended : Scene = end_objects (without left to.objects) c in
        let h = stands_ended x scope (without left (without left to.objects) ++ x.params) (without left to.objects) c q b t stands (leaves_or_stays left to.objects x.params scope covers) in
        let begun = all_begin x ground (without to.objects left) (without left (without left to.objects) ++ x.params) ended q b t (may left) h in
        let d : Scene = begin_objects u (without to.objects left) ended in
        let same : d.turns ≡ c.turns = begun_turns u (without to.objects left) ended ∙ ended_turns (without left to.objects) c in
        let wide = stands_wider x (without to.objects left ++ (without left (without left to.objects) ++ x.params)) (to.objects ++ x.params) d begun.placing b t (is_in_scope left to.objects x.params) begun.stands in
        let last = turned_stands (nat_le to.at at) (to.objects ++ x.params) d begun.placing wide in
        jumps_with x scope c q b t stands j (v + arms_weight) (has_turn (nat_le to.at at) d).turns p (following l) (Running to.work x.values (has_turn (nat_le to.at at) d)) seen has (turned_few (nat_le to.at at) d same) (λ come.
        leads j (has_turn (nat_le to.at at) d) begun.placing b t _ lt last.between last.keeping (come_turns x.world (has_turn (nat_le to.at at) d).turns _ _ come))

  goto_done : (at : ℕ) → MayLand x (after u (ToLabel l) 0 x.body (Leave ∷ x.below)) → IsDone x scope (plan_stmt u at (goto l)) w (jump Jmp (following l) ∷ [])
  goto_done at may n v p k c q b t seen le more has stands turns ahead goes =
      earns x scope c q b t stands n v (Jump l at) k x.values _ seen turns (λ j lt.
      follows_weaken x.world j (1 + (v + arms_weight)) (v + 4000) _ _ t seen (omega arith)
      (subst (λ o. Follows x.world j (1 + (v + arms_weight)) (jumped u l at x.values c o) (place p) t seen) (sym ahead.call.1)
      (subst (λ o. Follows x.world j (1 + (v + arms_weight)) (landed u at x.values c (record { objects = ahead.call.0; work = Leave ∷ x.below }) (label_in u l (Leave ∷ x.below) o)) (place p) t seen) (sym here)
      (lands n v p k c q b t seen has.0 stands turns ahead.call.0 ahead.call.2 (after u (ToLabel l) 0 x.body (Leave ∷ x.below)) may (ahead.labels l) at j lt))))
    where
      here : body_of (slice_get u.funcs (func_in c.frames)) ≡ Some x.body
      here = ap (λ f. body_of (slice_get u.funcs f)) stands.between.joins.active ∙ body

pub goto_does : GotoDoes
goto_does x scope at next fresh l w ground body counted may =
    work_does x scope (plan_stmt (unit_in x.world) at (goto l)) w (jump Jmp (following l) ∷ []) (goto_done x scope l w ground body counted at may)
