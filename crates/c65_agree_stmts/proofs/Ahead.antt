-- What lies ahead of a statement: where jumps out of it lead, and what follows behind its lines.
use Rattle.std.proofs.Common.{◌≡◌, ℕ, suc, ◌+◌, ◌<◌, ◌≤◌, Bool, true, false, List, ◌∷◌, ◌++◌, Option, Some, None, sym, ap, ◌∙◌, subst, arith}
use Rattle.std.specs.Prelude.{length, slice_get}
use Rattle.c65_csem.specs.Trees.{Stmts}
use Rattle.c65_meaning.specs.Items.{Item, Leave, plan_stmts}
use Rattle.c65_meaning.specs.After.{Landing, Left, ToLabel, after, up_to_call, up_to_break, up_to_continue}
use Rattle.c65_meaning.specs.State as meaning
use Rattle.c65_meaning.specs.State.{Scene, Running}
use Rattle.c65_code.specs.declared.line.Line.{Line}
use Rattle.c65_code.specs.declared.line.Line.TheVariants.{Label}
use Rattle.c65_code.specs.LineState.{Place, State}
use Rattle.c65_code.specs.Moves.{labelled}
use Rattle.c65_code.specs.Comes.{Seen}
use Rattle.c65_genstmt.specs.declared.jumps.Ways.{Ways}
use Rattle.c65_genstmt.specs.Jumps.{following}
use Rattle.c65_agree_store.specs.Stands.{Placing, Banks}
use Rattle.c65_agree_step.proofs.Ways.{labels_are_passed}
use Rattle.c65_agree_state.specs.World.{World, unit_in, setting_in, Active, lines_of, place_in, HasAt, IsPlaced, HasTurns}
use Rattle.c65_agree_state.specs.Follows.{Follows}
use Rattle.c65_agree_between.specs.Stmts.{Covers, GoesOn, ComesOn, LeadsTo, LabelLeads, ReturnLeads, arms_weight}
use Rattle.c65_agree_state.proofs.Followed.{follows_weaken}
use Rattle.c65_agree_stmts.specs.Calling.{Calling, WorkDoes, AllDo, EndsIn, WorkEnds}
use Rattle.c65_agree_lines.specs.Lists.{stmts_code}
use Rattle.c65_agree_stmts.proofs.Inside.{LeadAlike}
use Rattle.c65_agree_stmts.proofs.Standing.{Stands}

-- ---- places

module _ (g : World) (a : Active) where
  -- what is followed at one place is so at another name of it
  pub onward : (n w turns : ℕ) (m : meaning.State) (p q : Place) (t : State) (seen : Seen) → p ≡ q → (HasTurns g turns q seen → Follows g n w m q t seen) → HasTurns g turns p seen → Follows g n w m p t seen
  onward n w turns m p q t seen e f h = subst (λ z. Follows g n w m z t seen) (sym e) (f (subst (λ z. HasTurns g turns z seen) e h))

  pub passed : (p l : ℕ) → slice_get (lines_of g a) p ≡ Some (Label l) → place_in g a p ≡ place_in g a (suc p)
  passed p l there = labels_are_passed (setting_in g) a.symbol p l there

  pub at_label : IsPlaced (lines_of g a) → (p l : ℕ) → slice_get (lines_of g a) p ≡ Some (Label l) → place_in g a (labelled (lines_of g a) l) ≡ place_in g a p
  at_label placed p l there = ap (place_in g a) (placed p l there)

  -- behind a label at which the machine has come
  pub behind_label : IsPlaced (lines_of g a) → (p l : ℕ) → slice_get (lines_of g a) p ≡ Some (Label l) → place_in g a (labelled (lines_of g a) l) ≡ place_in g a (suc p)
  behind_label placed p l there = at_label placed p l there ∙ passed p l there

module _ (x : Calling) where
  -- behind lines
  abbrev pub Goes : ℕ → ℕ → List ℕ → List Item → ℕ → Type 0
  Goes n w scope k p = (j : ℕ) (c : Scene) (q : Placing) (b : Banks) (t : State) (seen : Seen)
      → j < n → Stands x scope c q b t → HasTurns x.world c.turns (place_in x.world x.active p) seen
      → Follows x.world j w (Running k x.values c) (place_in x.world x.active p) t seen

  abbrev pub Going : ℕ → ℕ → List ℕ → List Item → ℕ → Type 0
  Going = GoesOn x.world x.active x.needs x.first x.placing x.banks x.state x.params x.result x.below x.values

  -- the same, where what stands between statements is taken apart
  pub goes_of : (n w : ℕ) (scope : List ℕ) (k : List Item) (p : ℕ) → Going n w scope k p → Goes n w scope k p
  goes_of n w scope k p h j c q b t seen lt stands turns = h j c q b t seen lt stands.between stands.keeping turns

  pub going_of : (n w : ℕ) (scope : List ℕ) (k : List Item) (p : ℕ) → Goes n w scope k p → Going n w scope k p
  going_of n w scope k p h j c q b t seen lt between keeping turns = h j c q b t seen lt (record { between = between; keeping = keeping }) turns

  abbrev pub Coming : ℕ → ℕ → List ℕ → List Item → ℕ → Type 0
  Coming = ComesOn x.world x.active x.needs x.first x.placing x.banks x.state x.params x.result x.below x.values

  abbrev pub Leads : ℕ → ℕ → List ℕ → Option Left → ℕ → Type 0
  Leads = LeadsTo x.world x.active x.needs x.first x.placing x.banks x.state x.params x.result x.below x.values

  abbrev pub Landed : ℕ → ℕ → ℕ → Option Landing → Type 0
  Landed = LabelLeads x.world x.active x.needs x.first x.placing x.banks x.state x.params x.result x.below x.values

  abbrev pub Returning : ℕ → ℕ → Type 0
  Returning = ReturnLeads x.world x.active x.needs x.first x.placing x.banks x.state x.params x.result x.below x.values

  abbrev pub EndsCall : List ℕ → List Item → Type 0
  EndsCall scope k = (left : List ℕ) × (up_to_call k ≡ Some (record { objects = left; work = Leave ∷ x.below })) × Covers scope left x.params

  pub record Ahead (n w : ℕ) (scope : List ℕ) (k : List Item) (ways : Ways) : Type 0 where
    pub call : EndsCall scope k
    pub behind : Leads n w scope (up_to_break k) ways.behind
    pub onward : Leads n w scope (up_to_continue k) ways.onward
    pub labels : (l : ℕ) → Landed n (w + arms_weight) l (after (unit_in x.world) (ToLabel l) 0 x.body (Leave ∷ x.below))
    pub returns : Returning n w

  -- ---- for fewer steps, with more weight

  pub going_less : (n m w v : ℕ) (scope : List ℕ) (k : List Item) (p : ℕ) → m ≤ n → w ≤ v → Going n w scope k p → Going m v scope k p
  going_less n m w v scope k p le more h j c q b t seen lt between keeping turns =
      follows_weaken x.world j w v _ _ t seen more (h j c q b t seen (omega (arith, lt, le)) between keeping turns)

  pub coming_less : (n m w v : ℕ) (scope : List ℕ) (k : List Item) (p : ℕ) → m ≤ n → w ≤ v → Coming n w scope k p → Coming m v scope k p
  coming_less n m w v scope k p le more h j c q b t seen lt between keeping turns =
      follows_weaken x.world j w v _ _ t seen more (h j c q b t seen (omega (arith, lt, le)) between keeping turns)

  leads_less : (n m w v : ℕ) (scope : List ℕ) (o : Option Left) (l : ℕ) → m ≤ n → w ≤ v → Leads n w scope o l → Leads m v scope o l
  leads_less n m w v scope None l le more h = tt
  leads_less n m w v scope (Some r) l le more h = (h.0, h.1, coming_less n m w v h.0 r.work (labelled (lines_of x.world x.active) l) le more h.2)

  pub landed_less : (n m w v l : ℕ) (o : Option Landing) → m ≤ n → w ≤ v → Landed n w l o → Landed m v l o
  landed_less n m w v l None le more h = tt
  landed_less n m w v l (Some to) le more h = going_less n m w v (to.objects ++ x.params) to.work (labelled (lines_of x.world x.active) (following l)) le more h

  pub returning_less : (n m w v : ℕ) → m ≤ n → w ≤ v → Returning n w → Returning m v
  returning_less n m w v le more h j value c q b t seen lt between keeping result fits turns =
      follows_weaken x.world j w v _ _ t seen more (h j value c q b t seen (omega (arith, lt, le)) between keeping result fits turns)

  pub less : (n m w v : ℕ) (scope : List ℕ) (k : List Item) (ways : Ways) → m ≤ n → w ≤ v → Ahead n w scope k ways → Ahead m v scope k ways
  less n m w v scope k ways le more h = record {
    call = h.call;
    behind = leads_less n m w v scope (up_to_break k) ways.behind le more h.behind;
    onward = leads_less n m w v scope (up_to_continue k) ways.onward le more h.onward;
    labels = λ l. landed_less n m (w + arms_weight) (v + arms_weight) l (after (unit_in x.world) (ToLabel l) 0 x.body (Leave ∷ x.below)) le (omega (arith, more)) (h.labels l);
    returns = returning_less n m w v le more h.returns;
  }

  -- with other work in front, from which jumps lead alike
  pub ahead_before : (n w : ℕ) (scope : List ℕ) (k2 k : List Item) (ways : Ways) → LeadAlike k2 k → Ahead n w scope k ways → Ahead n w scope k2 ways
  ahead_before n w scope k2 k ways e h = record {
    call = (h.call.0, e.0 ∙ h.call.1, h.call.2);
    behind = subst (λ o. Leads n w scope o ways.behind) (sym e.1) h.behind;
    onward = subst (λ o. Leads n w scope o ways.onward) (sym e.2) h.onward;
    labels = h.labels;
    returns = h.returns;
  }

  -- ---- behind lines: the end of the function, where they return at theirs, and else what follows

  abbrev pub Ends : Bool → ℕ → ℕ → List ℕ → List Item → ℕ → Type 0
  Ends true n w scope k p = place_in x.world x.active p ≡ place_in x.world x.active (labelled (lines_of x.world x.active) 0)
  Ends false n w scope k p = Goes n w scope k p

  pub ends_of : (ends : Bool) (n w : ℕ) (scope : List ℕ) (k : List Item) (p : ℕ) → EndsIn x ends n w scope k p → Ends ends n w scope k p
  ends_of true n w scope k p h = h
  ends_of false n w scope k p h = goes_of n w scope k p h

  pub ending_of : (ends : Bool) (n w : ℕ) (scope : List ℕ) (k : List Item) (p : ℕ) → Ends ends n w scope k p → EndsIn x ends n w scope k p
  ending_of true n w scope k p h = h
  ending_of false n w scope k p h = going_of n w scope k p h

  pub ends_less : (ends : Bool) (n m w v : ℕ) (scope : List ℕ) (k : List Item) (p : ℕ) → m ≤ n → w ≤ v → Ends ends n w scope k p → Ends ends m v scope k p
  ends_less true n m w v scope k p le more h = h
  ends_less false n m w v scope k p le more h = λ j c q b t seen lt stands turns. follows_weaken x.world j w v _ _ t seen more (h j c q b t seen (omega (arith, lt, le)) stands turns)

  -- at another name of the place
  pub ends_at : (ends : Bool) (n w : ℕ) (scope : List ℕ) (k : List Item) (p q : ℕ) → p ≡ q → Ends ends n w scope k p → Ends ends n w scope k q
  ends_at ends n w scope k p q e h = subst (λ m. Ends ends n w scope k m) e h

  -- ---- the work of statements

  -- what is to be shown of the lines, where such an end is behind them
  abbrev pub IsEnding : List ℕ → (List Item → List Item) → Ways → Bool → List Line → Type 0
  IsEnding scope work ways ends lines = (n w p : ℕ) (k : List Item) (c : Scene) (q : Placing) (b : Banks) (t : State) (seen : Seen) → n ≤ x.most → x.reserve ≤ w → HasAt (lines_of x.world x.active) p lines
      → Stands x scope c q b t → HasTurns x.world c.turns (place_in x.world x.active p) seen → Ahead n w scope k ways → Ends ends n w scope k (p + length lines)
      → Follows x.world n w (Running (work k) x.values c) (place_in x.world x.active p) t seen

  pub ends_with : (scope : List ℕ) (work : List Item → List Item) (ways : Ways) (ends : Bool) (lines : List Line) → WorkEnds x scope work ways ends lines → IsEnding scope work ways ends lines
  ends_with scope work ways ends lines does n w p k c q b t seen le more has stands turns ahead goes =
      does n w p k c q b t seen le more has stands.between stands.keeping turns ahead.call ahead.behind ahead.onward ahead.labels ahead.returns (ending_of ends n w scope k (p + length lines) goes)

  pub work_ends : (scope : List ℕ) (work : List Item → List Item) (ways : Ways) (ends : Bool) (lines : List Line) → IsEnding scope work ways ends lines → WorkEnds x scope work ways ends lines
  work_ends scope work ways ends lines done n w p k c q b t seen le more has between keeping turns call behind onward labels returns goes =
      done n w p k c q b t seen le more has (record { between = between; keeping = keeping }) turns (record { call = call; behind = behind; onward = onward; labels = labels; returns = returns }) (ends_of ends n w scope k (p + length lines) goes)

  -- and where what follows is followed
  abbrev pub IsDone : List ℕ → (List Item → List Item) → Ways → List Line → Type 0
  IsDone scope work ways lines = IsEnding scope work ways false lines

  pub does_with : (scope : List ℕ) (work : List Item → List Item) (ways : Ways) (lines : List Line) → WorkDoes x scope work ways lines → IsDone scope work ways lines
  does_with scope work ways lines does = ends_with scope work ways false lines does

  pub work_does : (scope : List ℕ) (work : List Item → List Item) (ways : Ways) (lines : List Line) → IsDone scope work ways lines → WorkDoes x scope work ways lines
  work_does scope work ways lines done = work_ends scope work ways false lines done

  -- ---- and of lists of them, which may take no step

  abbrev pub AreEnding : List ℕ → (List Item → List Item) → Ways → Bool → List Line → Type 0
  AreEnding scope work ways ends lines = (n w p : ℕ) (k : List Item) (c : Scene) (q : Placing) (b : Banks) (t : State) (seen : Seen) → n ≤ x.most → x.reserve ≤ w → HasAt (lines_of x.world x.active) p lines
      → Stands x scope c q b t → HasTurns x.world c.turns (place_in x.world x.active p) seen → Ahead n w scope k ways → Ends ends (suc n) w scope k (p + length lines)
      → Follows x.world n w (Running (work k) x.values c) (place_in x.world x.active p) t seen

  abbrev pub AreDone : List ℕ → ℕ → Stmts → Ways → List Line → Type 0
  AreDone scope at ss ways lines = AreEnding scope (plan_stmts (unit_in x.world) at ss) ways false lines

  pub do_with : (scope : List ℕ) (at : ℕ) (ss : Stmts) (ways : Ways) (next fresh : ℕ) → AllDo x scope at ss ways next fresh → AreDone scope at ss ways (stmts_code x.active.frame ways next ss fresh)
  do_with scope at ss ways next fresh does n w p k c q b t seen le more has stands turns ahead goes =
      does n w p k c q b t seen le more has stands.between stands.keeping turns ahead.call ahead.behind ahead.onward ahead.labels ahead.returns (going_of (suc n) w scope k (p + length (stmts_code x.active.frame ways next ss fresh)) goes)

  pub all_do : (scope : List ℕ) (at : ℕ) (ss : Stmts) (ways : Ways) (next fresh : ℕ) → AreDone scope at ss ways (stmts_code x.active.frame ways next ss fresh) → AllDo x scope at ss ways next fresh
  all_do scope at ss ways next fresh done n w p k c q b t seen le more has between keeping turns call behind onward labels returns goes =
      done n w p k c q b t seen le more has (record { between = between; keeping = keeping }) turns (record { call = call; behind = behind; onward = onward; labels = labels; returns = returns }) (goes_of (suc n) w scope k (p + length (stmts_code x.active.frame ways next ss fresh)) goes)
