-- `break`, `continue` and `return`.
use Rattle.std.proofs.Common.{◌≡◌, ℕ, ◌+◌, ◌<◌, Bool, true, false, List, [], ◌∷◌, ◌++◌, Option, Some, None, sym, ◌∙◌, subst, arith}
use Rattle.std.specs.Prelude.{length, if◌then◌else◌, slice_get}
use Rattle.c65_csem.specs.Trees.{Typed, absent, present, break, continue, return, UnitTy}
use Rattle.c65_csem_need.specs.Needs.{need}
use Rattle.c65_mach.specs.declared.rows.Op.TheVariants.{Jmp}
use Rattle.c65_meaning.specs.declared.action.Action.TheVariants.{NoResult}
use Rattle.c65_meaning.specs.Why.{By, Unfit}
use Rattle.c65_meaning.specs.Store.{Value, NoValue}
use Rattle.c65_meaning.specs.Items.{Item, LeaveLoop, GoOn, Give, GiveNothing, plan, plan_stmt}
use Rattle.c65_meaning.specs.After.{Left, up_to_call, up_to_break, up_to_continue}
use Rattle.c65_meaning.specs.State.{Scene, Running, Undefined}
use Rattle.c65_meaning.specs.Step.{end_objects, left_for, returned, is_value}
use Rattle.c65_code.specs.declared.line.Line.{Line}
use Rattle.c65_code.specs.LineState.{Place, State}
use Rattle.c65_code.specs.Moves.{labelled}
use Rattle.c65_code.specs.Comes.{Seen, seen_at}
use Rattle.c65_genexpr.specs.declared.wanted.Wanted.TheVariants.{Value as WantsValue}
use Rattle.c65_genexpr.specs.Code.{expr_code}
use Rattle.c65_genentry.specs.Words.{jump}
use Rattle.c65_genstmt.specs.declared.jumps.Ways.{Ways}
use Rattle.c65_agree_store.specs.Stands.{Placing, Banks}
use Rattle.c65_agree_state.specs.World.{unit_in, lines_of, place_in, HasAt, HasTurns, HasCome}
use Rattle.c65_agree_state.specs.Follows.{Follows}
use Rattle.c65_agree_state.specs.Exprs.{Valued, shape_in, width_in, MayFit, ResultIs, Does as LinesDo}
use Rattle.c65_agree_state.proofs.Followed.{follows_weaken}
use Rattle.c65_agree_state.proofs.Nodes.{has_front, has_back}
use Rattle.c65_agree_state.proofs.Yields.{nothing_may_fit}
use Rattle.c65_agree_stmts.specs.Calling.{Calling, HasResult}
use Rattle.c65_agree_stmts.specs.Laws.{BreakDoes, ContinueDoes, ReturnDoes, ReturnOfDoes}
use Rattle.c65_agree_stmts.proofs.Standing.{Stands, stands_behind, ready, earns, jumps, come_turns, undefined_follows}
use Rattle.c65_agree_stmts.proofs.Ahead.{onward, Leads, Ahead, IsEnding, IsDone, work_does}
use Rattle.c65_agree_stmts.proofs.Plain.{behind_nothing}
use Rattle.c65_agree_stmts.proofs.Endings.{stands_ended, ended_turns}

module _ (x : Calling) (scope : List ℕ) (c : Scene) (q : Placing) (b : Banks) (t : State) (stands : Stands x scope c q b t) where
  abbrev place : ℕ → Place
  place i = place_in x.world x.active i

  abbrev code : List Line
  code = lines_of x.world x.active

  -- a jump that ends objects leads where the pending work says
  pub left_goes : (o : Option Left) (n j v p l : ℕ) (seen : Seen) → Leads x n v scope o l → j < n → slice_get code p ≡ Some (jump Jmp l) → HasTurns x.world c.turns (place p) seen
      → Follows x.world j (1 + v) (left_for x.values c o) (place p) t seen
  left_goes None n j v p l seen leads lt there turns = undefined_follows x.world j (1 + v) Unfit (place p) t seen
  left_goes (Some r) n j v p l seen leads lt there turns =
      jumps x scope c q b t stands j v c.turns p l (Running r.work x.values (end_objects r.objects c)) seen there turns (λ come.
      let later = stands_ended x scope leads.0 r.objects c q b t stands leads.1 in
      leads.2 j (end_objects r.objects c) q b t _ lt later.between later.keeping (subst (λ m. HasCome x.world m (place (labelled code l)) (seen_at (place (labelled code l)) seen)) (sym (ended_turns r.objects c)) come))

  -- the way out of the call, with what it gives in the primary register, from its end
  pub leaves : (k : List Item) (w : Ways) (n j v : ℕ) (value : Value) (seen : Seen) → Ahead x n v scope k w → j < n → HasTurns x.world c.turns (place (labelled code 0)) seen
      → ResultIs Valued q (width_in x.result) value t → MayFit Valued x.result value → Follows x.world j v (returned (unit_in x.world) value x.values c (up_to_call k)) (place (labelled code 0)) t seen
  leaves k w n j v value seen ahead lt turns result fits =
      let left = ahead.call.0 in
      let later = stands_ended x scope x.params left c q b t stands ahead.call.2 in
      subst (λ o. Follows x.world j v (returned (unit_in x.world) value x.values c o) (place (labelled code 0)) t seen) (sym ahead.call.1)
      (ahead.returns j value (end_objects left c) q b t seen lt later.between later.keeping result fits (subst (λ m. HasTurns x.world m (place (labelled code 0)) seen) (sym (ended_turns left c)) turns))

  -- and by a jump to it
  pub returned_goes : (k : List Item) (w : Ways) (n j v p : ℕ) (value : Value) (seen : Seen) → Ahead x n v scope k w → j < n → slice_get code p ≡ Some (jump Jmp 0) → HasTurns x.world c.turns (place p) seen
      → ResultIs Valued q (width_in x.result) value t → MayFit Valued x.result value → Follows x.world j (1 + v) (returned (unit_in x.world) value x.values c (up_to_call k)) (place p) t seen
  returned_goes k w n j v p value seen ahead lt there turns result fits =
      jumps x scope c q b t stands j v c.turns p 0 (returned (unit_in x.world) value x.values c (up_to_call k)) seen there turns (λ come.
      leaves k w n j v value _ ahead lt (come_turns x.world c.turns _ _ come) result fits)

pub break_does : BreakDoes
break_does x scope at next fresh w = work_does x scope (plan_stmt (unit_in x.world) at break) w (jump Jmp w.behind ∷ []) (λ n v p k c q b t seen le more has stands turns ahead goes.
    earns x scope c q b t stands n v LeaveLoop k x.values _ seen turns (λ j lt.
    follows_weaken x.world j (1 + v) (v + 4000) _ _ t seen (omega arith) (left_goes x scope c q b t stands (up_to_break k) n j v p w.behind seen ahead.behind lt has.0 turns)))

pub continue_does : ContinueDoes
continue_does x scope at next fresh w = work_does x scope (plan_stmt (unit_in x.world) at continue) w (jump Jmp w.onward ∷ []) (λ n v p k c q b t seen le more has stands turns ahead goes.
    earns x scope c q b t stands n v GoOn k x.values _ seen turns (λ j lt.
    follows_weaken x.world j (1 + v) (v + 4000) _ _ t seen (omega arith) (left_goes x scope c q b t stands (up_to_continue k) n j v p w.onward seen ahead.onward lt has.0 turns)))

pub return_does : ReturnDoes
return_does x scope at next fresh w = work_does x scope (plan_stmt (unit_in x.world) at (return absent)) w (jump Jmp 0 ∷ []) (λ n v p k c q b t seen le more has stands turns ahead goes.
    earns x scope c q b t stands n v GiveNothing k x.values _ seen turns (λ j lt.
    follows_weaken x.world j (1 + v) (v + 4000) _ _ t seen (omega arith) (returned_goes x scope c q b t stands k w n j v p NoValue seen ahead lt has.0 turns tt (nothing_may_fit x.result))))

-- last in the function no jump leads there
pub last_returns : (x : Calling) (scope : List ℕ) (at : ℕ) (w : Ways) → IsEnding x scope (plan_stmt (unit_in x.world) at (return absent)) w true []
last_returns x scope at w n v p k c q b t seen le more has stands turns ahead ends =
    earns x scope c q b t stands n v GiveNothing k x.values _ seen turns (λ j lt.
    follows_weaken x.world j v (v + 4000) _ _ t seen (omega arith)
    (onward x.world x.active j v c.turns (returned (unit_in x.world) NoValue x.values c (up_to_call k)) _ _ t seen (behind_nothing x.world x.active p ∙ ends) (λ turns2. leaves x scope c q b t stands k w n j v NoValue seen ahead lt turns2 tt (nothing_may_fit x.result)) turns))

-- ---- with a value

module _ (x : Calling) (scope : List ℕ) (w : Ways) (fresh : ℕ) (e : Typed) (has : HasResult x e) where
  abbrev E : List Line
  E = expr_code x.active.frame 0 fresh WantsValue e

  abbrev u : UnitTy
  u = unit_in x.world

  value_does : LinesDo x.world x.active Valued (shape_in x.world x.active e) (plan u e) (need e) 0 E
  value_does = subst (λ y. LinesDo x.world x.active y (shape_in x.world x.active e) (plan u e) (need e) 0 E) has.gives (has.value.does 0 fresh)

  given_goes : (j v : ℕ) (k : List Item) (c : Scene) (p : Place) (t : State) (seen : Seen) (value : Value) → Follows x.world j (1 + v) (returned u value x.values c (up_to_call k)) p t seen → (is : Bool)
      → Follows x.world j (1 + v) (if is then returned u value x.values c (up_to_call k) else Undefined (By NoResult)) p t seen
  given_goes j v k c p t seen value goes true = goes
  given_goes j v k c p t seen value goes false = undefined_follows x.world j (1 + v) (By NoResult) p t seen

  -- where behind the value the way out of the call is followed
  value_goes : (n v p : ℕ) (k : List Item) (c : Scene) (q : Placing) (b : Banks) (t : State) (seen : Seen) → HasAt (lines_of x.world x.active) p E → Stands x scope c q b t → HasTurns x.world c.turns (place_in x.world x.active p) seen
      → ((j : ℕ) (value : Value) (c2 : Scene) (q2 : Placing) (b2 : Banks) (y : State) (later : Seen) → j < n → Stands x scope c2 q2 b2 y → HasTurns x.world c2.turns (place_in x.world x.active (p + length E)) later
      → ResultIs Valued q2 (width_in x.result) value y → MayFit Valued x.result value → Follows x.world j (1 + v) (returned u value x.values c2 (up_to_call k)) (place_in x.world x.active (p + length E)) y later)
      → Follows x.world n v (Running (plan u e (Give ∷ k)) x.values c) (place_in x.world x.active p) t seen
  value_goes n v p k c q b t seen there stands turns out =
      value_does n v p (Give ∷ k) x.values c q b t seen there (ready x scope c q b t stands (need e) has.value.need) turns (λ j value c2 q2 b2 y later lt done turns2.
      let stands2 = stands_behind x scope c c2 q q2 b b2 t y stands done.kept in
      earns x scope c2 q2 b2 y stands2 j (v + 2600) Give k (value ∷ x.values) _ later turns2 (λ h lt2.
      follows_weaken x.world h (1 + v) (v + 2600 + 4000) _ _ y later (omega arith)
      (given_goes h v k c2 (place_in x.world x.active (p + length E)) y later value (out h value c2 q2 b2 y later (omega (arith, lt, lt2)) stands2 turns2 (subst (λ width. ResultIs Valued q2 width value y) has.width done.result) (has.fits value done.fits)) (is_value value))))

  return_done : (at : ℕ) → IsDone x scope (plan_stmt u at (return (present e))) w (E ++ jump Jmp 0 ∷ [])
  return_done at n v p k c q b t seen le more there stands turns ahead goes =
      value_goes n v p k c q b t seen (has_front (lines_of x.world x.active) p E _ there) stands turns (λ j value c2 q2 b2 y later lt stands2 turns2 result fits.
      returned_goes x scope c2 q2 b2 y stands2 k w n j v (p + length E) value later ahead lt (has_back (lines_of x.world x.active) p E _ there).0 turns2 result fits)

  pub last_done : (at : ℕ) → IsEnding x scope (plan_stmt u at (return (present e))) w true E
  last_done at n v p k c q b t seen le more there stands turns ahead ends =
      value_goes n v p k c q b t seen there stands turns (λ j value c2 q2 b2 y later lt stands2 turns2 result fits.
      follows_weaken x.world j v (1 + v) _ _ y later (omega arith)
      (onward x.world x.active j v c2.turns (returned u value x.values c2 (up_to_call k)) _ _ y later ends (λ turns3. leaves x scope c2 q2 b2 y stands2 k w n j v value later ahead lt turns3 result fits) turns2))

pub return_of_does : ReturnOfDoes
return_of_does x scope at next fresh w e has = work_does x scope (plan_stmt (unit_in x.world) at (return (present e))) w (expr_code x.active.frame 0 fresh WantsValue e ++ jump Jmp 0 ∷ []) (return_done x scope w fresh e has at)
