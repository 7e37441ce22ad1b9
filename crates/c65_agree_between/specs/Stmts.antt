-- What the lines of a statement do, and where jumps lead.
use Rattle.std.specs.Prelude.{◌≡◌, ℕ, ◌+◌, ◌*◌, ◌<◌, ◌≤◌, ◌⊎◌, true, false, List, [], ◌∷◌, ◌++◌, Option, Some, None, length}
use Rattle.c65_csem.specs.Trees.{Stmt, UnitTy}
use Rattle.c65_meaning.specs.Store.{Block, Value, Shape}
use Rattle.c65_meaning.specs.Items.{Item, Leave}
use Rattle.c65_meaning.specs.After.{Landing, ToLabel, Left, after, is_among, up_to_call, up_to_break, up_to_continue}
use Rattle.c65_meaning.specs.State.{Scene, Running, Frame as Call, block_in, soft_sum}
use Rattle.c65_meaning.specs.Step.{left_call}
use Rattle.c65_code.specs.declared.line.Line.{Line}
use Rattle.c65_code.specs.LineState.{State, sp_of}
use Rattle.c65_code.specs.Placement.{stack_end}
use Rattle.c65_code.specs.Moves.{labelled}
use Rattle.c65_code.specs.Comes.{Seen}
use Rattle.c65_genstmt.specs.declared.jumps.Ways.{Ways}
use Rattle.c65_genstmt.specs.Jumps.{following}
use Rattle.c65_agree_store.specs.Stands.{At, Placing, Banks, Grows, IsFree}
use Rattle.c65_agree_state.specs.World.{World, unit_in, Active, lines_of, place_in, HasAt, HasTurns, HasCome}
use Rattle.c65_agree_state.specs.Sizes.{AreSized}
use Rattle.c65_agree_state.specs.Joins.{Joins}
use Rattle.c65_agree_state.specs.Follows.{Follows}
use Rattle.c65_agree_state.specs.Exprs.{Valued, MayFit, ResultIs, width_in, bounds_of}

-- the objects of the active call with a live block are among those in scope
abbrev pub AreOpen : List ℕ → Scene → Type 0
AreOpen scope c = (i b : ℕ) (x : Block) → block_in c.frames i ≡ Some b → c.store b ≡ Some x → x.live ≡ true → is_among scope i ≡ true

abbrev pub HasCall : Scene → Type 0
HasCall c = (f : Call) × (fs : List Call) × (c.frames ≡ f ∷ fs)

-- between two statements of the active call: no value waits there, the objects in scope are open, each with a block of its size, and there
-- is room for as many values as its expressions need
pub record Between (g : World) (a : Active) (needs : ℕ) (scope : List ℕ) (c : Scene) (w : Placing) (k : Banks) (t : State) : Type 0 where
  pub joins : Joins g a c w k t
  pub sp : sp_of t ≡ a.base
  pub room : stack_end + 8 * needs + a.spare ≤ a.base + soft_sum c.frames
  pub scoped : AreOpen scope c
  pub sized : AreSized (unit_in g) c
  pub call : HasCall c
  pub none_pushed : t.pushed ≡ []

-- an object in scope is one of those that are left, or stays in scope
abbrev pub Covers : List ℕ → List ℕ → List ℕ → Type 0
Covers scope left inner = (i : ℕ) → is_among scope i ≡ true → (is_among left i ≡ true) ⊎ (is_among inner i ≡ true)

-- what a call keeps for the one behind it, from its first statement on: no block that it has not begun ends or lives again, and the free
-- bytes above its own automatic objects stay, those among them where its entry has saved regbank
pub record Keeping (a : Active) (c : Scene) (w : Placing) (k : Banks) (t : State) (c2 : Scene) (w2 : Placing) (k2 : Banks) (u : State) : Type 0 where
  pub next : c.next ≤ c2.next
  pub bounds : (b : ℕ) → b < a.first → b < c.next → bounds_of (c2.store b) ≡ bounds_of (c.store b)
  pub grows : Grows w w2
  pub kept : (n : ℕ) → a.base + a.frame.soft ≤ n → IsFree c.store w (At n) → (u.mem n ≡ t.mem n) × IsFree c2.store w2 (At n)
  pub banks : (d i : ℕ) → d < length a.behind → k2 d i ≡ k d i
  pub own_bank : (i : ℕ) → a.frame.bank ≤ i → k2 (length a.behind) i ≡ k (length a.behind) i

-- A label may stand in the first arms of as many `if`s, from the end of each of which a jump leads on without a step of the meaning.
abbrev pub arms_weight : ℕ
arms_weight = 2000

module _ (g : World) (a : Active) (needs : ℕ) (first : Scene) (w1 : Placing) (k1 : Banks) (t1 : State) (params : List ℕ) (result : Shape) (below : List Item) (vs : List Value) where
  -- at a place of the function, with some work ahead, for up to n steps: whatever scene has come, the rest is followed
  abbrev pub GoesOn : ℕ → ℕ → List ℕ → List Item → ℕ → Type 0
  GoesOn n w scope k p = (j : ℕ) (c : Scene) (q : Placing) (b : Banks) (t : State) (seen : Seen)
      → j < n → Between g a needs scope c q b t → Keeping a first w1 k1 t1 c q b t → HasTurns g c.turns (place_in g a p) seen
      → Follows g j w (Running k vs c) (place_in g a p) t seen

  -- the same at a place to which the machine has just come by a jump
  abbrev pub ComesOn : ℕ → ℕ → List ℕ → List Item → ℕ → Type 0
  ComesOn n w scope k p = (j : ℕ) (c : Scene) (q : Placing) (b : Banks) (t : State) (seen : Seen)
      → j < n → Between g a needs scope c q b t → Keeping a first w1 k1 t1 c q b t → HasCome g c.turns (place_in g a p) seen
      → Follows g j w (Running k vs c) (place_in g a p) t seen

  -- where `break` and `continue` lead, by what the pending work has of it
  abbrev pub LeadsTo : ℕ → ℕ → List ℕ → Option Left → ℕ → Type 0
  LeadsTo n w scope None l = Unit {0}
  LeadsTo n w scope (Some r) l = (inner : List ℕ) × Covers scope r.objects inner × ComesOn n w inner r.work (labelled (lines_of g a) l)

  -- where a label of the function leads: its blocks are begun before
  abbrev pub LabelLeads : ℕ → ℕ → ℕ → Option Landing → Type 0
  LabelLeads n w l None = Unit {0}
  LabelLeads n w l (Some to) = GoesOn n w (to.objects ++ params) to.work (labelled (lines_of g a) (following l))

  -- the way out of the call: the meaning has left it with the step, and the machine is to go through the function's end, at label 0
  abbrev pub ReturnLeads : ℕ → ℕ → Type 0
  ReturnLeads n w = (j : ℕ) (v : Value) (c : Scene) (q : Placing) (b : Banks) (t : State) (seen : Seen)
      → j < n → Between g a needs params c q b t → Keeping a first w1 k1 t1 c q b t → ResultIs Valued q (width_in result) v t → MayFit Valued result v
      → HasTurns g c.turns (place_in g a (labelled (lines_of g a) 0)) seen
      → Follows g j w (left_call (unit_in g) v below vs c) (place_in g a (labelled (lines_of g a) 0)) t seen

  -- Lines anywhere in the function do the work of a statement: from them the machine goes on behind them, or where the statement leads.
  abbrev pub StatementDoes : ℕ → Stmt → ℕ → List ℕ → (List Item → List Item) → Ways → List Line → Type 0
  StatementDoes most body reserve scope work ways code = (n w p : ℕ) (k : List Item) (c : Scene) (q : Placing) (b : Banks) (t : State) (seen : Seen)
      → n ≤ most → reserve ≤ w → HasAt (lines_of g a) p code
      → Between g a needs scope c q b t → Keeping a first w1 k1 t1 c q b t → HasTurns g c.turns (place_in g a p) seen
      → ((left : List ℕ) × (up_to_call k ≡ Some (record { objects = left; work = Leave ∷ below })) × Covers scope left params)
      → LeadsTo n w scope (up_to_break k) ways.behind → LeadsTo n w scope (up_to_continue k) ways.onward
      → ((l : ℕ) → LabelLeads n (w + arms_weight) l (after (unit_in g) (ToLabel l) 0 body (Leave ∷ below)))
      → ReturnLeads n w
      → GoesOn n w scope k (p + length code)
      → Follows g n w (Running (work k) vs c) (place_in g a p) t seen
