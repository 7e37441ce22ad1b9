-- A call of the library on arguments of its types goes on with a result of its type, or ends the run.
use Rattle.std.proofs.Common.{ℕ, zero, suc, List, ◌∷◌, refl}
use Rattle.std.specs.Prelude.{Result, Ok, Err, Option, Some, None}
use Rattle.c65_base.specs.declared.library.Library.{Library}
use Rattle.c65_meaning.specs.Program.{ProgramTy}
use Rattle.c65_meaning.specs.Why.{Why, By, Unfit}
use Rattle.c65_meaning.specs.Store.{Cell, Value, nth_cell}
use Rattle.c65_meaning.specs.Items.{Item, Busy}
use Rattle.c65_meaning.specs.Library.{Effect, effect_of}
use Rattle.c65_meaning.specs.State.{Scene}
use Rattle.c65_meaning.specs.Step.{ended_or, finished, library_call, served, provided, perform}
use Rattle.c65_meaning_law.specs.Library.{AreArguments}
use Rattle.c65_meaning_law.proofs.Stacks.{Kind, kind_from, Gives, Sound, AreSuited, CellsFit, StoreFits, Call, inside, D, Takes, IsScene}
use Rattle.c65_meaning_law.proofs.Values.{raise}
use Rattle.c65_meaning_law.proofs.Library.{Fine, fine}
use Rattle.c65_meaning_law.proofs.Scopes.{Grows}
use Rattle.c65_meaning_law.proofs.Statements.{arguments_on, cells_on, suited_on, takes_on}
use Rattle.c65_meaning_law.proofs.StatementSteps.{moves_here, fits_here}
use Rattle.c65_meaning_law.proofs.Calls.{IsWell, IsAt}
use Rattle.c65_meaning_law.proofs.Returns.{at_later}

-- in the scene of the call itself
module _ (p : ProgramTy) (d : Scene) (call : Call) (at : IsAt p.unit d call) (store : StoreFits (D p.unit d) d.store) (l : Library) (args : List Value) (arguments : AreArguments d.store l args) (rest : List Cell) (behind : CellsFit (D p.unit d) (nth_cell rest)) (k : List Item) (ks : List Kind) (vs : List Value) (gives : Gives (kind_from l) (Takes (inside call) p.unit d k) ks) (suited : AreSuited (D p.unit d) ks vs) where
  ended_well : (e : Effect) → Fine d (kind_from l) e → (status : Option ℕ) → IsWell p.unit (ended_or k vs d e status)
  ended_well e h None = record {
    scene = d;
    call = call;
    active = at.active;
    running = record { kinds = gives.0 ∷ ks; takes = gives.2; suited = (raise (D p.unit d) (kind_from l) gives.0 e.result gives.1 h.1, suited); scene = record { frames = refl; store = h.0 } };
    waiting = at.waiting;
  }
  ended_well e h (Some status) = tt

  finished_well : (r : Result Effect Why) → Sound (Fine d (kind_from l)) r → IsWell p.unit (finished k vs d r)
  finished_well (Ok e) h = ended_well e h e.status
  finished_well (Err (By action)) h = tt
  finished_well (Err Unfit) h = absurd h

  pub library_well : (n : ℕ) → IsWell p.unit (library_call n l args rest k vs d)
  library_well zero = finished_well (effect_of d l args rest) (fine d store l args rest arguments behind)
  library_well (suc n) = record {
    scene = d;
    call = call;
    active = at.active;
    running = record { kinds = ks; takes = (tt, (arguments, behind), gives); suited = suited; scene = record { frames = refl; store = store } };
    waiting = at.waiting;
  }

  served_by : (r : Result Effect Why) → Sound (Fine d (kind_from l)) r → IsWell p.unit (served l args rest k vs d r)
  served_by (Ok e) h = library_well e.bytes
  served_by (Err (By action)) h = tt
  served_by (Err Unfit) h = absurd h

  pub provided_well : IsWell p.unit (provided l args rest k vs d)
  provided_well = served_by (effect_of d l args rest) (fine d store l args rest arguments behind)

module _ (p : ProgramTy) (c : Scene) (call : Call) (at : IsAt p.unit c call) where
  pub busy_well : (n : ℕ) (l : Library) (args : List Value) (rest : List Cell) (k : List Item) (ks : List Kind) (vs : List Value) (d : Scene) → Takes (inside call) p.unit c (Busy n l args rest ∷ k) ks → IsScene p.unit c d → AreSuited (D p.unit c) ks vs → IsWell p.unit (perform p (Busy n l args rest) k vs d)
  busy_well n l args rest k ks vs d t i a =
      let g : Grows p.unit c d = moves_here (inside call) tt p c d i in
      library_well p d call (at_later p c d call g at) (fits_here (inside call) tt p c d g i.store) l args (arguments_on (inside call) p.unit c d g l args t.1.0) rest (cells_on (inside call) p.unit c d g rest t.1.1) k ks vs (t.2.0, t.2.1, takes_on (inside call) p.unit c d g k (t.2.0 ∷ ks) t.2.2) (suited_on (inside call) p.unit c d g ks vs a) n
