-- What holds of the relation between scenes and states, and of what is followed.
use Rattle.std.specs.Prelude.{◌≡◌, ℕ, ◌+◌, ◌<◌, ◌≤◌, ◌⊎◌, max, Bool, ℤ, List, ◌∷◌, ◌++◌, None}
use Rattle.c65_ints.specs.declared.types.IntType.{IntType}
use Rattle.c65_ints.specs.Ranges.{InRange}
use Rattle.c65_ctype.specs.Trees.{int, qual}
use Rattle.c65_csem.specs.Trees.{node, constant}
use Rattle.c65_meaning.specs.Store.{Value, Shape, Pointer}
use Rattle.c65_meaning.specs.Items.{Item, Keep, Drop}
use Rattle.c65_meaning.specs.State as meaning
use Rattle.c65_meaning.specs.State.{Scene, Running}
use Rattle.c65_meaning.specs.Step.{perform}
use Rattle.c65_code.specs.declared.line.Line.{Line}
use Rattle.c65_code.specs.declared.routine.Width.TheVariants.{Ax}
use Rattle.c65_genwide.specs.Wide.{width_of}
use Rattle.c65_code.specs.LineState.{Place, State, sp_of, s_of, IsBytes}
use Rattle.c65_code.specs.Placement.{IsPlacement, stack_start}
use Rattle.c65_code.specs.Steady.{IsCalm}
use Rattle.c65_code.specs.Comes.{Seen, seen_at, Comes}
use Rattle.c65_agree_store.specs.Stands.{Placing, Banks}
use Rattle.c65_agree_state.specs.World.{World, Active, program_in, setting_in, total_in, HasTurns, HasCome}
use Rattle.c65_agree_state.specs.Joins.{Joins}
use Rattle.c65_agree_state.specs.Follows.{Follows}
use Rattle.c65_agree_state.specs.Exprs.{Ready, Yield, Valued, Placed, Kept, Does, ExpressionDoes, TestDoes}

-- ---- what is followed

-- with more weight at hand
abbrev pub FollowsWeaken : Type 0
FollowsWeaken = (g : World) (n v w : ℕ) (m : meaning.State) (p : Place) (t : State) (seen : Seen) → v ≤ w → Follows g n v m p t seen → Follows g n w m p t seen

-- a way of the machine before what is followed
abbrev pub WaysAreFollowed : Type 0
WaysAreFollowed = (g : World) (n v w : ℕ) (m : meaning.State) (p : Place) (t : State) (seen : Seen)
    → Comes (setting_in g) (λ q u later. Follows g n v m q u later) w p t seen → Follows g n (w + v) m p t seen

-- One step of the meaning is worth a weight of 4,000; where none is left, the machine already shows what the meaning does.
abbrev pub StepsEarn : Type 0
StepsEarn = (g : World) (n w : ℕ) (i : Item) (k : List Item) (vs : List Value) (c : Scene) (p : Place) (t : State) (seen : Seen)
    → IsCalm (setting_in g) t → t.output ≡ c.out → t.ended ≡ None → c.turns ≤ total_in g seen
    → ((j : ℕ) → j < n → Follows g j (w + 4000) (perform (program_in g) i k vs c) p t seen)
    → Follows g n w (Running (i ∷ k) vs c) p t seen

-- where the machine comes to a line, the turns of that line are counted before they are taken
abbrev pub ArrivalsCount : Type 0
ArrivalsCount = (g : World) (turns : ℕ) (q : Place) (seen : Seen) → turns ≤ total_in g seen → HasTurns g turns q (seen_at q seen)

-- and with them those of the loops whose head it is
abbrev pub HeadsCount : Type 0
HeadsCount = (g : World) (turns : ℕ) (q : Place) (seen : Seen) → turns ≤ total_in g seen → HasCome g turns q (seen_at q seen)

-- ---- states

-- where an expression may begin the machine is calm, and each routine has its room on both stacks
pub record HasStacks (g : World) (t : State) : Type 0 where
  pub calm : IsCalm (setting_in g) t
  pub soft : stack_start + 64 ≤ sp_of t
  pub hard : 3 + 26 ≤ s_of t

abbrev pub ReadyIsCalm : Type 0
ReadyIsCalm = (g : World) (a : Active) (pushed needs : ℕ) (c : Scene) (w : Placing) (k : Banks) (t : State) → Ready g a pushed needs c w k t → HasStacks g t

-- ---- one part behind another

-- what is kept over two parts of an expression, one behind the other
abbrev pub KeptGoesOn : Type 0
KeptGoesOn = (g : World) (a : Active) (c c2 c3 : Scene) (w w2 w3 : Placing) (k k2 k3 : Banks) (t t2 t3 : State)
    → Kept g a c w k t c2 w2 k2 t2 → Kept g a c2 w2 k2 t2 c3 w3 k3 t3 → Kept g a c w k t c3 w3 k3 t3

-- where an expression might begin another one may, which needs no more, behind one that has ended
abbrev pub ReadyStays : Type 0
ReadyStays = (g : World) (a : Active) (pushed needs fewer : ℕ) (c c2 : Scene) (w w2 : Placing) (k k2 : Banks) (t t2 : State)
    → fewer ≤ needs → Ready g a pushed needs c w k t → Kept g a c w k t c2 w2 k2 t2 → Ready g a pushed fewer c2 w2 k2 t2

-- the address of a place in memory, and an array or function as a pointer, take no lines of their own (C90 6.2.2.1, 6.3.3.2)
abbrev pub AddressesDo : Type 0
AddressesDo = (g : World) (a : Active) (shape : Shape) (size needs pushed : ℕ) (work : List Item → List Item) (lines : List Line)
    → Does g a Placed shape work needs pushed lines → Does g a Valued (Pointer size) (λ k. work (Keep ∷ k)) needs pushed lines

-- the lines of `,` are those of its two sides (C90 6.3.17)
abbrev pub CommasDo : Type 0
CommasDo = (g : World) (a : Active) (left right : Yield) (first second : Shape) (m n pushed : ℕ) (before behind : List Item → List Item) (code more : List Line)
    → Does g a left first before m pushed code → Does g a right second behind n pushed more
    → Does g a right second (λ k. before (Drop ∷ behind k)) (max m (1 + n)) pushed (code ++ more)

-- ---- scratch bytes

-- only registers, scratch bytes of the zero page, and bytes of the software stack below the base are others
pub record OnlyScratch (base : ℕ) (t u : State) : Type 0 where
  pub mem : (n : ℕ) → (n < stack_start) ⊎ (base ≤ n) → u.mem n ≡ t.mem n
  pub bank : (i : ℕ) → i < 6 → t.zp (20 + i) ≡ u.zp (20 + i)
  pub pushed : u.pushed ≡ t.pushed
  pub frames : u.frames ≡ t.frames
  pub input : u.input ≡ t.input
  pub output : u.output ≡ t.output
  pub ended : u.ended ≡ t.ended
  pub bytes : IsBytes u

abbrev pub ScratchChanges : Type 0
ScratchChanges = (g : World) (a : Active) (c : Scene) (w : Placing) (k : Banks) (t u : State)
    → IsPlacement g.code g.place → Joins g a c w k t → OnlyScratch a.base t u → Joins g a c w k u

-- where sp and all bytes from sp on are as before too, all is kept that an expression keeps
abbrev pub ScratchIsKept : Type 0
ScratchIsKept = (g : World) (a : Active) (pushed needs : ℕ) (c : Scene) (w : Placing) (k : Banks) (t u : State)
    → IsPlacement g.code g.place → Ready g a pushed needs c w k t → OnlyScratch (sp_of t) t u → sp_of u ≡ sp_of t → Kept g a c w k t c w k u

-- ---- constants

-- the lines of a constant of at most 16 bits do its work, wherever they stand
abbrev pub ConstantsDo : Type 0
ConstantsDo = (g : World) (a : Active) (kind : IntType) (z : ℤ) (c v : Bool) → IsPlacement g.code g.place
    → width_of kind ≡ Ax → InRange kind z → ExpressionDoes g a (node (qual (int kind) c v) (constant z))

-- and those of a test of it, which is a jump or no line at all
abbrev pub ConstantTestsDo : Type 0
ConstantTestsDo = (g : World) (a : Active) (kind : IntType) (z : ℤ) (c v : Bool) → InRange kind z → TestDoes g a (node (qual (int kind) c v) (constant z))
