-- The steps of a call of the library's functions, its line, and its routine.
use Rattle.std.proofs.Common.{◌≡◌, ℕ, zero, suc, ◌+◌, ◌*◌, ◌<◌, ◌≤◌, inl, inr, List, ◌∷◌, sym, ap, ◌∙◌, refl, subst, arith}
use Rattle.std.specs.Prelude.{Result, Ok, Err, Some, None}
use Rattle.c65_base.specs.declared.library.Library.{Library}
use Rattle.c65_meaning.specs.Why.{Why}
use Rattle.c65_meaning.specs.Store.{Cell, Value}
use Rattle.c65_meaning.specs.Items.{Item, Busy}
use Rattle.c65_meaning.specs.State as meaning
use Rattle.c65_meaning.specs.State.{Scene, Running}
use Rattle.c65_meaning.specs.Library.{Effect, effect_of}
use Rattle.c65_meaning.specs.Step.{perform, provided, served, library_call, finished, ended_or, steps}
use Rattle.c65_code.specs.declared.line.Line.TheVariants.{Call}
use Rattle.c65_code.specs.declared.line.Callee.TheVariants.{Pointer}
use Rattle.c65_code.specs.declared.routine.Routine.TheVariants as routines
use Rattle.c65_code.specs.Parts.{union_of}
use Rattle.c65_code.specs.Effects.{ptr4_bytes}
use Rattle.c65_code.specs.LineState.{Place as Spot, State, IsBytes}
use Rattle.c65_code.specs.Placement.{IsPlacement, Setting}
use Rattle.c65_code.specs.Forms.{Form, Through}
use Rattle.c65_code.specs.Rows.{Row, Meets, row_of}
use Rattle.c65_code.specs.Moves.{MeetsRow, IsCallee, Calls, Goes}
use Rattle.c65_code.specs.Steady.{IsCalm, IsCallable, HasRoom, RowHasRoom}
use Rattle.c65_code.specs.Weights.{Weighs, row_cost, call_weight}
use Rattle.c65_code.specs.Comes.{Seen, seen_at}
use Rattle.c65_agree_step.specs.Ways.{GoesOn, IsAtLine}
use Rattle.c65_agree_step.proofs.Ways.{weaken, line}
use Rattle.c65_agree_store.specs.Stands.{Placing, Banks}
use Rattle.c65_agree_state.specs.World.{World, Active, program_in, setting_in, place_in, HasTurns, total_in}
use Rattle.c65_agree_state.specs.Follows.{Agrees, Follows}
use Rattle.c65_agree_state.specs.Exprs.{Ready}
use Rattle.c65_agree_state.proofs.Followed.{follows_weaken, steps_earn, arrivals_count, ready_is_calm}
use Rattle.c65_agree_rows.proofs.Quiet.{nothing_follows, routines_are_followed}
use Rattle.c65_agree_library.specs.Calls.{IsPointedTo, IsLibraryCall, IsServed, CallsAreFollowed, ArePassed, waiting_from}

-- ---- what calls give

-- a refused call gives nothing
pub refused : {A P : Type 0} {why : Why} {x : A} → Err why ≡ Ok x → P
refused e = cc

abbrev given : {A : Type 0} → A → Result A Why
given x = Ok x

pub is_given : {A : Type 0} {x y : A} → given x ≡ given y → x ≡ y
is_given e = cc

-- ---- the steps

-- the scene behind a call
abbrev pub scene_behind : Scene → Effect → Scene
scene_behind c e = record c { store = e.store; input = e.input; out = e.out }

module _ (g : World) (f : Library) (args vs : List Value) (rest : List Cell) (k : List Item) (c : Scene) (p : ℕ × ℕ) (t : State) (seen : Seen) (calm : IsCalm (setting_in g) t) (output : t.output ≡ c.out) (running : t.ended ≡ None) (turns : c.turns ≤ total_in g seen) where
  -- a step for each byte
  bytes_earn : (x : Effect) → effect_of c f args rest ≡ Ok x → (left n v : ℕ) → ((j : ℕ) → j ≤ n → Follows g j (v + 4000 * left) (ended_or k vs c x x.status) p t seen)
      → Follows g n v (library_call left f args rest k vs c) p t seen
  bytes_earn x e zero n v h =
      let none : v + 4000 * 0 ≡ v = omega arith in
      subst (λ s. Follows g n v (finished k vs c s) p t seen) (sym e) (subst (λ m. Follows g n m (ended_or k vs c x x.status) p t seen) none (h n (omega arith)))
  bytes_earn x e (suc left) n v h =
      steps_earn g n v (Busy left f args rest) k vs c p t seen calm output running turns (λ j lt. bytes_earn x e left j (v + 4000) (λ l le.
      let more : v + 4000 * suc left ≡ v + 4000 + 4000 * left = omega arith in
      subst (λ m. Follows g l m (ended_or k vs c x x.status) p t seen) more (h l (omega (arith, le, lt)))))

  -- the call, where its effect is known
  pub calls_earn : (i : Item) (ws : List Value) (n v : ℕ) → perform (program_in g) i k ws c ≡ provided f args rest k vs c
      → ((x : Effect) → effect_of c f args rest ≡ Ok x → (j : ℕ) → j < n → Follows g j (v + 4000 + 4000 * x.bytes) (ended_or k vs c x x.status) p t seen)
      → Follows g n v (Running (i ∷ k) ws c) p t seen
  calls_earn i ws n v step h = steps_earn g n v i k ws c p t seen calm output running turns (λ j lt. subst (λ m. Follows g j (v + 4000) m p t seen) (sym step) (go j lt (effect_of c f args rest) refl))
    where
      go : (j : ℕ) → j < n → (s : Result Effect Why) → effect_of c f args rest ≡ s → Follows g j (v + 4000) (served f args rest k vs c s) p t seen
      go j lt (Err why) e = nothing_follows g why j (v + 4000) p t seen
      go j lt (Ok x) e = bytes_earn x e x.bytes j (v + 4000) (λ l le. h x e l (omega (arith, lt, le)))

-- ---- the line

-- A line that calls the function goes, within the cost of its routine and eight more, before what is followed behind it.
module _ (g : World) (a : Active) (f : Library) (p : ℕ) (t : State) (pushed needs : ℕ) (c : Scene) (w : Placing) (banks : Banks) (placed : IsPlacement g.code g.place) (ready : Ready g a pushed needs c w banks t) (room : RowHasRoom g.place (row_of (routines.Library f) t) t) where
  abbrev setting : Setting
  setting = setting_in g

  -- one function alone stands at the address
  pointed_is : (x : IsPointedTo g a f p t) (h : ℕ) → IsCallee setting t h → setting.library h ≡ Some f
  pointed_is x h callee = ap setting.library (placed.function_own h x.symbol callee.0 x.callee.0 (callee.1 ∙ sym x.callee.1)) ∙ x.library

  pub lines_are_followed : (n v : ℕ) (m : meaning.State) (seen : Seen) → IsLibraryCall g a f p t
      → ((u : State) → MeetsRow (row_of (routines.Library f) t) t u → IsBytes u → Follows g n v m (place_in g a (suc p)) u (seen_at (place_in g a (suc p)) seen))
      → Follows g n (8 + row_cost (row_of (routines.Library f) t) + v) m (place_in g a p) t seen
  lines_are_followed n v m seen (inl there) behind d =
      follows_weaken g n (row_cost (row_of (routines.Library f) t) + v) (8 + row_cost (row_of (routines.Library f) t) + v) m (place_in g a p) t seen (omega arith)
      (routines_are_followed g a pushed needs c w banks t n v p m seen (routines.Library f) ready there room behind) d
  lines_are_followed n v m seen (inr x) behind d =
      let q = Agrees g (steps (program_in g) n m) in
      let form : Form = Through x.reads x.gives in
      let callable : IsCallable setting (setting.library x.symbol) x.symbol x.reads t = subst (λ o. IsCallable setting o x.symbol x.reads t) (sym x.library) (room, x.passes) in
      let at : IsAtLine setting a.symbol p t form = record { line = Call (Pointer x.reads x.gives); there = x.there; formed = refl; calm = (ready_is_calm g a pushed needs c w banks t ready).calm; within = (x.symbol, x.callee, callable); running = ready.joins.ended } in
      let weight : Weighs setting form t (8 + row_cost (row_of (routines.Library f) t)) = (x.symbol, x.callee, sym (ap (λ o. call_weight o t) x.library)) in
      weaken setting q (4000 * n + (8 + row_cost (row_of (routines.Library f) t) + v)) (omega arith) (line setting q a.symbol p t seen form at (4000 * n + v) (8 + row_cost (row_of (routines.Library f) t)) (omega arith) weight (λ to u h bytes. goes to u h bytes))
    where
      goes : (to : Spot) (u : State) → Goes setting (Through x.reads x.gives) (a.symbol, p) t to u → IsBytes u → GoesOn setting (Agrees g (steps (program_in g) n m)) (4000 * n + v) to u seen
      goes to u h bytes =
          let e : Calls setting (Some f) h.0 (union_of x.reads ptr4_bytes) x.gives (a.symbol, p) t to u = subst (λ o. Calls setting o h.0 (union_of x.reads ptr4_bytes) x.gives (a.symbol, p) t to u) (pointed_is x h.0 h.1) h.2 in
          rw e.0 (behind u e.1 bytes d)

-- ---- the routine

-- The routine does what the function's effect says, within what its steps earn.
pub record IsDone (g : World) (a : Active) (f : Library) (pushed needs count : ℕ) (c : Scene) (w : Placing) (banks : Banks) (t : State) (x : Effect) : Type 0 where
  pub row : Row
  pub is : row_of (routines.Library f) t ≡ Some row
  pub room : HasRoom g.place row t
  pub cost : row.cost + 8 ≤ 1400 + 4000 * x.bytes
  pub goes_on : x.status ≡ None
  pub served : (u : State) → Meets row t u → IsBytes u → IsServed g a f pushed needs count c w banks t x.result (scene_behind c x) u

-- so where its arguments are passed and its effect is known
abbrev pub EachIsDone : Library → Type 0
EachIsDone f = (g : World) (a : Active) (pushed needs : ℕ) (c : Scene) (w : Placing) (banks : Banks) (t : State) (args : List Value) (rest : List Cell) (x : Effect)
    → IsPlacement g.code g.place → Ready g a (pushed + waiting_from args) needs c w banks t → ArePassed w args t → effect_of c f args rest ≡ Ok x → IsDone g a f pushed needs (waiting_from args) c w banks t x

-- the call, however its arguments are passed
module _ (g : World) (a : Active) (f : Library) (args : List Value) (rest : List Cell) (pushed needs count : ℕ) (c : Scene) (w : Placing) (banks : Banks) (t : State) (placed : IsPlacement g.code g.place) (ready : Ready g a (pushed + count) needs c w banks t)
    (does : (x : Effect) → effect_of c f args rest ≡ Ok x → IsDone g a f pushed needs count c w banks t x) where
  pub call_is_followed : (n v p : ℕ) (i : Item) (k : List Item) (ws vs : List Value) (seen : Seen) → IsLibraryCall g a f p t → HasTurns g c.turns (place_in g a p) seen → perform (program_in g) i k ws c ≡ provided f args rest k vs c
      → ((j : ℕ) (r : Value) (c2 : Scene) (u : State) (later : Seen) → j < n → IsServed g a f pushed needs count c w banks t r c2 u → HasTurns g c2.turns (place_in g a (suc p)) later → Follows g j (v + 2600) (Running k (r ∷ vs) c2) (place_in g a (suc p)) u later)
      → Follows g n v (Running (i ∷ k) ws c) (place_in g a p) t seen
  call_is_followed n v p i k ws vs seen there turns step behind =
      calls_earn g f args vs rest k c (place_in g a p) t seen (ready_is_calm g a (pushed + count) needs c w banks t ready).calm ready.joins.output ready.joins.ended (omega (arith, turns)) i ws n v step (λ x e j lt. goes x (does x e) j lt)
    where
      goes : (x : Effect) → IsDone g a f pushed needs count c w banks t x → (j : ℕ) → j < n → Follows g j (v + 4000 + 4000 * x.bytes) (ended_or k vs c x x.status) (place_in g a p) t seen
      goes x d j lt =
          let m = ended_or k vs c x x.status in
          let access : RowHasRoom g.place (row_of (routines.Library f) t) t = subst (λ o. RowHasRoom g.place o t) (sym d.is) d.room in
          let small : row_cost (row_of (routines.Library f) t) + 8 ≤ 1400 + 4000 * x.bytes = subst (λ o. row_cost o + 8 ≤ 1400 + 4000 * x.bytes) (sym d.is) d.cost in
          follows_weaken g j (8 + row_cost (row_of (routines.Library f) t) + (v + 2600)) (v + 4000 + 4000 * x.bytes) m (place_in g a p) t seen (omega (arith, small))
          (lines_are_followed g a f p t (pushed + count) needs c w banks placed ready access j (v + 2600) m seen there (λ u meets bytes. after x d j lt u (subst (λ o. MeetsRow o t u) d.is meets) bytes))
        where
          after : (x : Effect) → (d : IsDone g a f pushed needs count c w banks t x) → (j : ℕ) → j < n → (u : State) → Meets d.row t u → IsBytes u
              → Follows g j (v + 2600) (ended_or k vs c x x.status) (place_in g a (suc p)) u (seen_at (place_in g a (suc p)) seen)
          after x d j lt u meets bytes =
              let s = d.served u meets bytes in
              subst (λ o. Follows g j (v + 2600) (ended_or k vs c x o) (place_in g a (suc p)) u (seen_at (place_in g a (suc p)) seen)) (sym d.goes_on)
              (behind j x.result (scene_behind c x) u (seen_at (place_in g a (suc p)) seen) lt s (arrivals_count g c.turns (place_in g a (suc p)) seen (omega (arith, turns))))

pub calls_are_followed : (f : Library) → EachIsDone f → CallsAreFollowed f
calls_are_followed f does g a pushed needs c w banks t n v p i k args ws vs rest seen placed there ready passed turns step behind =
    call_is_followed g a f args rest pushed needs (waiting_from args) c w banks t placed ready (λ x e. does g a pushed needs c w banks t args rest x placed ready passed e) n v p i k ws vs seen there turns step behind
