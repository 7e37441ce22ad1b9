-- Blocks whose objects begin and end (C90 6.6.2).
use Rattle.std.proofs.Common.{◌≡◌, ℕ, suc, ◌+◌, ◌⊎◌, inl, inr, List, [], ◌∷◌, ◌++◌, Option, Some, None, Bool, true, false, refl, sym, ap, subst, arith}
use Rattle.std.specs.Prelude.{◌==◌, if◌then◌else◌, length}
use Rattle.c65_csem.specs.Trees.{block, Stmts, UnitTy}
use Rattle.c65_meaning.specs.Items.{Item, Begin, End, plan_stmt, plan_stmts}
use Rattle.c65_meaning.specs.After.{Left, ending, is_among, up_to_break, up_to_continue}
use Rattle.c65_meaning.specs.State.{Scene}
use Rattle.c65_meaning.specs.Step.{begin_object, begin_objects, end_objects}
use Rattle.c65_code.specs.declared.line.Line.{Line}
use Rattle.c65_code.specs.LineState.{State}
use Rattle.c65_genstmt.specs.declared.jumps.Ways.{Ways}
use Rattle.c65_agree_store.specs.Stands.{Placing, Banks}
use Rattle.c65_agree_state.specs.World.{unit_in, place_in, HasTurns}
use Rattle.c65_agree_between.specs.Stmts.{Covers}
use Rattle.c65_agree_state.proofs.Followed.{follows_weaken}
use Rattle.c65_agree_lines.specs.Lists.{stmts_code}
use Rattle.c65_agree_stmts.specs.Calling.{Calling}
use Rattle.c65_agree_stmts.specs.Objects.{MayAllBegin, HasGround}
use Rattle.c65_agree_stmts.specs.Laws.{OpenBlockDoes}
use Rattle.c65_agree_stmts.proofs.Standing.{Stands, earns}
use Rattle.c65_agree_stmts.proofs.Ahead.{Goes, Leads, Ahead, less, Ends, ends_less, IsEnding, work_does, AreEnding, do_with}
use Rattle.c65_agree_stmts.proofs.Endings.{stands_ended, ended_turns}
use Rattle.c65_agree_stmts.proofs.Beginnings.{stands_begun, q2}

-- ---- scopes

-- with more objects in scope
pub stands_wider : (x : Calling) (scope wider : List ℕ) (c : Scene) (q : Placing) (b : Banks) (t : State) → ((m : ℕ) → is_among scope m ≡ true → is_among wider m ≡ true) → Stands x scope c q b t → Stands x wider c q b t
stands_wider x scope wider c q b t all h =
    let i = h.between in
    record {
      between = record { joins = i.joins; sp = i.sp; room = i.room; scoped = λ m d y e is live. all m (i.scoped m d y e is live); sized = i.sized; call = i.call; none_pushed = i.none_pushed };
      keeping = h.keeping;
    }

pub among_left : (xs ys : List ℕ) (m : ℕ) → is_among xs m ≡ true → is_among (xs ++ ys) m ≡ true
among_left [] ys m e = cc
among_left (i ∷ xs) ys m e = go (λ h. among_left xs ys m h) (i == m) e
  where
    go : (is_among xs m ≡ true → is_among (xs ++ ys) m ≡ true) → (b : Bool) → (if b then true else is_among xs m) ≡ true → (if b then true else is_among (xs ++ ys) m) ≡ true
    go deep true e = refl
    go deep false e = deep e

pub among_right : (xs ys : List ℕ) (m : ℕ) → is_among ys m ≡ true → is_among (xs ++ ys) m ≡ true
among_right [] ys m e = e
among_right (i ∷ xs) ys m e = go (among_right xs ys m e) (i == m)
  where
    go : is_among (xs ++ ys) m ≡ true → (b : Bool) → (if b then true else is_among (xs ++ ys) m) ≡ true
    go deep true = refl
    go deep false = deep

pub among_both : (xs ys : List ℕ) (m : ℕ) → is_among (xs ++ ys) m ≡ true → (is_among xs m ≡ true) ⊎ (is_among ys m ≡ true)
among_both [] ys m e = inr e
among_both (i ∷ xs) ys m e = go (λ h. among_both xs ys m h) (i == m) e
  where
    go : (is_among (xs ++ ys) m ≡ true → (is_among xs m ≡ true) ⊎ (is_among ys m ≡ true)) → (b : Bool) → (if b then true else is_among (xs ++ ys) m) ≡ true → ((if b then true else is_among xs m) ≡ true) ⊎ (is_among ys m ≡ true)
    go deep true e = inl refl
    go deep false e = deep e

among_first : (i : ℕ) (xs : List ℕ) (m : ℕ) → is_among xs m ≡ true → is_among (i ∷ xs) m ≡ true
among_first i xs m e = among_right (i ∷ []) xs m e

-- ---- objects one behind another

-- a scene in which they have begun belongs to the state
pub record HaveBegun (x : Calling) (scope is : List ℕ) (c : Scene) (b : Banks) (t : State) : Type 0 where
  pub placing : Placing
  pub stands : Stands x (is ++ scope) (begin_objects (unit_in x.world) is c) placing b t

pub all_begin : (x : Calling) → HasGround x → (is scope : List ℕ) (c : Scene) (q : Placing) (b : Banks) (t : State) → MayAllBegin x scope is → Stands x scope c q b t → HaveBegun x scope is c b t
all_begin x ground [] scope c q b t may h = record { placing = q; stands = h }
all_begin x ground (i ∷ is) scope c q b t may h =
    let one = stands_begun x ground scope i may.0 c q b t h in
    let more = all_begin x ground is (i ∷ scope) (begin_object (unit_in x.world) i c) (q2 x ground scope i may.0 c q b t h) b t may.1 one in
    record { placing = more.placing; stands = stands_wider x (is ++ i ∷ scope) (i ∷ (is ++ scope)) (begin_objects (unit_in x.world) (i ∷ is) c) more.placing b t moved more.stands }
  where
    moved : (m : ℕ) → is_among (is ++ i ∷ scope) m ≡ true → is_among (i ∷ (is ++ scope)) m ≡ true
    moved m e = go (among_both is (i ∷ scope) m e)
      where
        go : (is_among is m ≡ true) ⊎ (is_among (i ∷ scope) m ≡ true) → is_among (i ∷ (is ++ scope)) m ≡ true
        go (inl e2) = among_left (i ∷ is) scope m (among_first i is m e2)
        go (inr e2) = by (among_both (i ∷ []) scope m e2)
          where
            by : (is_among (i ∷ []) m ≡ true) ⊎ (is_among scope m ≡ true) → is_among (i ∷ (is ++ scope)) m ≡ true
            by (inl e3) = among_left (i ∷ []) (is ++ scope) m e3
            by (inr e3) = among_right (i ∷ is) scope m e3

pub begun_turns : (u : UnitTy) (is : List ℕ) (c : Scene) → (begin_objects u is c).turns ≡ c.turns
begun_turns u [] c = refl
begun_turns u (i ∷ is) c = begun_turns u is (begin_object u i c)

-- ---- inside a block

pub block_leads : (x : Calling) (n w : ℕ) (scope os : List ℕ) (o : Option Left) (l : ℕ) → Leads x n w scope o l → Leads x n w (os ++ scope) (ending os o) l
block_leads x n w scope os None l h = tt
block_leads x n w scope os (Some r) l h = (h.0, covers, h.2)
  where
    covers : Covers (os ++ scope) (os ++ r.objects) h.0
    covers m e = go (among_both os scope m e)
      where
        go : (is_among os m ≡ true) ⊎ (is_among scope m ≡ true) → (is_among (os ++ r.objects) m ≡ true) ⊎ (is_among h.0 m ≡ true)
        go (inl e2) = inl (among_left os r.objects m e2)
        go (inr e2) = by (h.1 m e2)
          where
            by : (is_among r.objects m ≡ true) ⊎ (is_among h.0 m ≡ true) → (is_among (os ++ r.objects) m ≡ true) ⊎ (is_among h.0 m ≡ true)
            by (inl e3) = inl (among_right os r.objects m e3)
            by (inr e3) = inr e3

pub block_ahead : (x : Calling) (n w : ℕ) (scope os : List ℕ) (k : List Item) (ways : Ways) → Ahead x n w scope k ways → Ahead x n w (os ++ scope) (End os ∷ k) ways
block_ahead x n w scope os k ways h = record {
  call = (os ++ h.call.0, ap (ending os) h.call.1, covers);
  behind = block_leads x n w scope os (up_to_break k) ways.behind h.behind;
  onward = block_leads x n w scope os (up_to_continue k) ways.onward h.onward;
  labels = h.labels;
  returns = h.returns;
}
  where
    covers : Covers (os ++ scope) (os ++ h.call.0) x.params
    covers m e = go (among_both os scope m e)
      where
        go : (is_among os m ≡ true) ⊎ (is_among scope m ≡ true) → (is_among (os ++ h.call.0) m ≡ true) ⊎ (is_among x.params m ≡ true)
        go (inl e2) = inl (among_left os h.call.0 m e2)
        go (inr e2) = by (h.call.2 m e2)
          where
            by : (is_among h.call.0 m ≡ true) ⊎ (is_among x.params m ≡ true) → (is_among (os ++ h.call.0) m ≡ true) ⊎ (is_among x.params m ≡ true)
            by (inl e3) = inl (among_right os h.call.0 m e3)
            by (inr e3) = inr e3

-- at the end of a block its objects end
pub block_goes : (x : Calling) (n w : ℕ) (scope os : List ℕ) (k : List Item) (p : ℕ) → Goes x n w scope k p → Goes x (suc n) w (os ++ scope) (End os ∷ k) p
block_goes x n w scope os k p goes j c q b t seen lt stands turns =
    earns x (os ++ scope) c q b t stands j w (End os) k x.values _ seen turns (λ i lt2.
    follows_weaken x.world i w (w + 4000) _ _ t seen (omega arith)
    (goes i (end_objects os c) q b t seen (omega (arith, lt, lt2)) (stands_ended x (os ++ scope) scope os c q b t stands (among_both os scope)) (subst (λ m. HasTurns x.world m (place_in x.world x.active p) seen) (sym (ended_turns os c)) turns)))

pub block_ends : (x : Calling) (ends : Bool) (n w : ℕ) (scope os : List ℕ) (k : List Item) (p : ℕ) → Ends x ends n w scope k p → Ends x ends (suc n) w (os ++ scope) (End os ∷ k) p
block_ends x true n w scope os k p h = h
block_ends x false n w scope os k p h = block_goes x n w scope os k p h

-- the lines of its statements, which may stand last in the function
pub open_block_ends : (x : Calling) (scope : List ℕ) (at : ℕ) (w : Ways) (os : List ℕ) (ss : Stmts) (ends : Bool) (lines : List Line) → HasGround x → MayAllBegin x scope os
    → AreEnding x (os ++ scope) (plan_stmts (unit_in x.world) (suc at) ss) w ends lines → IsEnding x scope (plan_stmt (unit_in x.world) at (block os ss)) w ends lines
open_block_ends x scope at w os ss ends lines ground may dss n v p k c q b t seen le more has stands turns ahead goes =
    earns x scope c q b t stands n v (Begin (suc at) os ss) k x.values _ seen turns (λ j lt.
    let begun = all_begin x ground os scope c q b t may stands in
    follows_weaken x.world j v (v + 4000) _ _ t seen (omega arith)
    (dss j v p (End os ∷ k) (begin_objects (unit_in x.world) os c) begun.placing b t seen (omega (arith, lt, le)) more has begun.stands
    (subst (λ m. HasTurns x.world m (place_in x.world x.active p) seen) (sym (begun_turns (unit_in x.world) os c)) turns)
    (block_ahead x j v scope os k w (less x n j v v scope k w (omega (arith, lt)) (omega arith) ahead))
    (block_ends x ends j v scope os k (p + length lines) (ends_less x ends n j v v scope k (p + length lines) (omega (arith, lt)) (omega arith) goes))))

pub open_block_does : OpenBlockDoes
open_block_does x scope at next fresh w os ss ground may dss =
    let lines = stmts_code x.active.frame w next ss fresh in
    work_does x scope (plan_stmt (unit_in x.world) at (block os ss)) w lines (open_block_ends x scope at w os ss false lines ground may (do_with x (os ++ scope) (suc at) ss w next fresh dss))
