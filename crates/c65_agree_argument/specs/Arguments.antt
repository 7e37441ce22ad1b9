-- The arguments of a call: they wait on the software stack, and the last one may stay in registers (C90 6.3.2.2; docs/MACHINE.md,
-- "Calls").
use Rattle.std.specs.Prelude.{◌≡◌, ℕ, ◌+◌, ◌*◌, ◌<◌, ◌≤◌, Bool, true, false, List, [], ◌∷◌, length}
use Rattle.c65_csem.specs.Trees.{Typed, Nodes, none, some}
use Rattle.c65_csem_need.specs.Needs.{need, need_of_all}
use Rattle.c65_meaning.specs.Store.{Value, cell_of}
use Rattle.c65_meaning.specs.Items.{Item, plan, plan_all}
use Rattle.c65_meaning.specs.State.{Scene, Running, soft_sum}
use Rattle.c65_code.specs.LineState.{Bytes, State, sp_of, eax_of}
use Rattle.c65_code.specs.Placement.{stack_end}
use Rattle.c65_code.specs.Comes.{Seen}
use Rattle.c65_genframe.specs.Frames.{Framed}
use Rattle.c65_genexpr.specs.declared.wanted.Wanted.TheVariants as wanted
use Rattle.c65_genexpr.specs.Arguments.{passed_size, argument_bytes}
use Rattle.c65_genexpr.specs.Code.{expr_code, args_code}
use Rattle.c65_agree_store.specs.Stands.{At, Placing, Banks, Grows, CellIs, IsFree}
use Rattle.c65_agree_store.specs.Laws.{byte_of}
use Rattle.c65_agree_state.specs.World.{World, unit_in, Active, lines_of, place_in, HasAt, HasTurns}
use Rattle.c65_agree_state.specs.Joins.{Joins}
use Rattle.c65_agree_state.specs.Follows.{Follows}
use Rattle.c65_agree_state.specs.Exprs.{Ready, Kept, bounds_of}

-- ---- what is passed

-- a value, and the number of bytes in which it is passed
pub record Argument : Type 0 where
  pub bytes : ℕ
  pub value : Value

-- of each argument of a call
abbrev pub AreArguments : Framed → Nodes → List Argument → Type 0
AreArguments f none [] = Unit {0}
AreArguments f (some e es) (x ∷ xs) = (x.bytes ≡ passed_size f e) × AreArguments f es xs
AreArguments f _ _ = ⊥

-- the bytes from an address on are the value's cells
abbrev pub LieAt : Placing → Bytes → ℕ → ℕ → Value → Type 0
LieAt w m at count v = (i : ℕ) → i < count → CellIs w (cell_of v i) (m (at + i))

-- so are those of A, X and sreg
abbrev pub AreHeld : Placing → State → ℕ → Value → Type 0
AreHeld w t count v = (i : ℕ) → i < count → CellIs w (cell_of v i) (byte_of i (eax_of t))

-- whether an argument before these stays in registers, where the last one does
abbrev pub is_last : Bool → List Argument → Bool
is_last fast [] = fast
is_last fast (x ∷ xs) = false

-- the bytes that wait
abbrev pub waiting_bytes : Bool → List Argument → ℕ
waiting_bytes fast [] = 0
waiting_bytes fast (x ∷ xs) = argument_bytes (is_last fast xs) x.bytes + waiting_bytes fast xs

abbrev pub IsThere : Bool → Placing → State → ℕ → Argument → Type 0
IsThere true w t at x = AreHeld w t x.bytes x.value
IsThere false w t at x = LieAt w t.mem at x.bytes x.value

-- the last one that waits is at sp, and the first one highest
abbrev pub AreThere : Bool → Placing → State → List Argument → Type 0
AreThere fast w t [] = Unit {0}
AreThere fast w t (x ∷ xs) = IsThere (is_last fast xs) w t (sp_of t + waiting_bytes fast xs) x × AreThere fast w t xs

-- what is left of the weight of the steps of these arguments
abbrev pub left_of : Nodes → ℕ
left_of none = 0
left_of (some e es) = 2000 + left_of es

-- their values above others, as the meaning has them
abbrev pub piled : List Argument → List Value → List Value
piled [] vs = vs
piled (x ∷ xs) vs = piled xs (x.value ∷ vs)

-- ---- what is kept

-- Between the states t and u so many bytes were pushed, which wait; all else is kept that an expression keeps.
pub record IsOver (g : World) (a : Active) (count : ℕ) (c : Scene) (w : Placing) (k : Banks) (t : State) (c2 : Scene) (w2 : Placing) (k2 : Banks) (u : State) : Type 0 where
  pub joins : Joins g a c2 w2 k2 u
  pub sp : sp_of u + count ≡ sp_of t
  pub frames : c2.frames ≡ c.frames
  pub next : c.next ≤ c2.next
  pub bounds : (b : ℕ) → b < c.next → bounds_of (c2.store b) ≡ bounds_of (c.store b)
  pub grows : Grows w w2
  pub kept : (n : ℕ) → sp_of t ≤ n → IsFree c.store w (At n) → (u.mem n ≡ t.mem n) × IsFree c2.store w2 (At n)
  pub banks : (d i : ℕ) → d < length a.behind → k2 d i ≡ k d i
  pub own_bank : (i : ℕ) → a.frame.bank ≤ i → k2 (length a.behind) i ≡ k (length a.behind) i
  pub none_pushed : u.pushed ≡ []

-- the value is at sp, which is lower by its bytes, and all above is as before
pub record IsPushed (g : World) (a : Active) (pushed needs count : ℕ) (c : Scene) (w : Placing) (k : Banks) (v : Value) (t u : State) : Type 0 where
  pub ready : Ready g a (pushed + count) needs c w k u
  pub sp : sp_of u + count ≡ sp_of t
  pub mem : (n : ℕ) → sp_of t ≤ n → u.mem n ≡ t.mem n
  pub lies : LieAt w u.mem (sp_of u) count v

-- ---- what lines do

-- There is room for so many values of eight bytes each, but for some bytes: a called pointer may wait beside the arguments, which take four
-- bytes each.
abbrev pub HasRoomFor : Active → ℕ → ℕ → Scene → State → Type 0
HasRoomFor a needs lent c t = stack_end + 8 * needs + a.spare ≤ sp_of t + soft_sum c.frames + lent

module _ (g : World) (a : Active) where
  -- The lines of an argument do its work, and leave the bytes in which it is passed in the primary register.
  abbrev pub ArgumentDoes : Typed → Type 0
  ArgumentDoes e = (pushed fresh n w p : ℕ) (k : List Item) (vs : List Value) (c : Scene) (q : Placing) (b : Banks) (t : State) (seen : Seen)
      → HasAt (lines_of g a) p (expr_code a.frame pushed fresh wanted.Value e) → Ready g a pushed (need e) c q b t → HasTurns g c.turns (place_in g a p) seen
      → ((j : ℕ) (v : Value) (c2 : Scene) (q2 : Placing) (b2 : Banks) (u : State) (later : Seen)
      → j < n → Kept g a c q b t c2 q2 b2 u → AreHeld q2 u (passed_size a.frame e) v → HasTurns g c2.turns (place_in g a (p + length (expr_code a.frame pushed fresh wanted.Value e))) later
      → Follows g j (w + 2600) (Running k (v ∷ vs) c2) (place_in g a (p + length (expr_code a.frame pushed fresh wanted.Value e))) u later)
      → Follows g n w (Running (plan (unit_in g) e k) vs c) (place_in g a p) t seen

  abbrev pub ArgumentsDo : Nodes → Type 0
  ArgumentsDo none = Unit {0}
  ArgumentsDo (some e es) = ArgumentDoes e × ArgumentsDo es

  -- behind the lines of all arguments, which are there, the rest is followed
  abbrev pub RestOfArguments : Bool → Nodes → ℕ → ℕ → ℕ → List Item → List Value → ℕ → Scene → Placing → Banks → State → Type 0
  RestOfArguments fast es pushed n w k vs p c q b t = (j : ℕ) (xs : List Argument) (c2 : Scene) (q2 : Placing) (b2 : Banks) (u : State) (later : Seen)
      → j ≤ n → AreArguments a.frame es xs → IsOver g a (waiting_bytes fast xs) c q b t c2 q2 b2 u → Ready g a (pushed + waiting_bytes fast xs) 0 c2 q2 b2 u
      → AreThere fast q2 u xs → HasTurns g c2.turns (place_in g a p) later
      → Follows g j w (Running k (piled xs vs) c2) (place_in g a p) u later

  -- these lines do the work of all arguments
  abbrev pub ArgumentsFollow : Bool → Nodes → ℕ → ℕ → Type 0
  ArgumentsFollow fast es pushed fresh = (n w p : ℕ) (k : List Item) (vs : List Value) (c : Scene) (q : Placing) (b : Banks) (t : State) (seen : Seen)
      → HasAt (lines_of g a) p (args_code a.frame pushed fresh fast es) → Ready g a pushed 0 c q b t → HasRoomFor a (need_of_all es) 2 c t → HasTurns g c.turns (place_in g a p) seen
      → RestOfArguments fast es pushed n w k vs (p + length (args_code a.frame pushed fresh fast es)) c q b t
      → Follows g n w (Running (plan_all (unit_in g) es k) vs c) (place_in g a p) t seen

  -- and leave so much of its weight
  abbrev pub ArgumentsLeave : Bool → Nodes → ℕ → ℕ → Type 0
  ArgumentsLeave fast es pushed fresh = (n w p : ℕ) (k : List Item) (vs : List Value) (c : Scene) (q : Placing) (b : Banks) (t : State) (seen : Seen)
      → HasAt (lines_of g a) p (args_code a.frame pushed fresh fast es) → Ready g a pushed 0 c q b t → HasRoomFor a (need_of_all es) 2 c t → HasTurns g c.turns (place_in g a p) seen
      → RestOfArguments fast es pushed n (w + left_of es) k vs (p + length (args_code a.frame pushed fresh fast es)) c q b t
      → Follows g n w (Running (plan_all (unit_in g) es k) vs c) (place_in g a p) t seen
