-- The law of one expression.
use Rattle.std.proofs.Common.{◌≡◌, ℕ, zero, suc, Bool, true, false, List, [], ◌∷◌, Some, refl, subst}
use Rattle.std.specs.Prelude.{IsTrue, if◌then◌else◌}
use Rattle.c65_meaning.specs.Program.{ProgramTy}
use Rattle.c65_meaning.specs.Why.{By, Unfit}
use Rattle.c65_meaning.specs.Store.{Cell, Bits, Piece, Clouded, Block, Store, Value}
use Rattle.c65_meaning.specs.Items.{Item, Push, Name, Follow, Move, Fetch, Keep, Change, Apply1, Apply2, Both, Either, Truth, Choose, Drop, Put, Peek, Bump, PutUnder, Carry, Gather, Lay, Reach, Invoke, Leave, plan}
use Rattle.c65_meaning.specs.State.{Scene, State, Undefined, Deep, Ended, Running}
use Rattle.c65_meaning.specs.Step.{step}
use Rattle.c65_meaning_law.specs.Laws.{IsClosed, IsFit, stops, steps_here, ExpressionsFit}
use Rattle.c65_meaning_law.proofs.Stacks.{Kind, Exit, kind_of, CellFits, StoreFits, expression, D, Does, Takes, Out, IsGood}
use Rattle.c65_meaning_law.proofs.Plans.{below_refl, takes}
use Rattle.c65_meaning_law.proofs.Steps.{is_of_expression, performs}

module _ (p : ProgramTy) (c : Scene) where
  pub first_store : IsClosed c.store → StoreFits (D p.unit c) c.store
  first_store h = record { there = λ b i. i; all = λ b x e q. fits b x q (x.cells q) e refl }
    where
      fits : (b : ℕ) (x : Block) (q : ℕ) (y : Cell) → c.store b ≡ Some x → x.cells q ≡ y → CellFits (D p.unit c) y
      fits b x q (Piece i d o) e f = h b x q i d o e f
      fits b x q (Bits known value) e f = tt
      fits b x q Clouded e f = tt

  pub closed : (s : Store) → StoreFits (D p.unit c) s → IsClosed s
  closed s h b x q i d o e f = h.there d (subst (CellFits (D p.unit c)) f (h.all b x e q))

  fit : (s : State) → IsGood expression p.unit c s → IsFit s
  fit (Undefined (By action)) h = tt
  fit (Undefined Unfit) h = absurd h
  fit Deep h = tt
  fit (Ended out status turns) h = tt
  fit (Running work vs d) h = closed d.store h.scene.store

  of_expression : (j : Item) (f : List Kind → Type 0) (q : Exit → List Kind → Type 0) (ks : List Kind) (vs : List Value) (k : List Item) (d : Scene) → stops (Running (j ∷ k) vs d) ≡ false → Does expression p.unit c j k f q ks → IsTrue (is_of_expression j)
  of_expression (Push v) f q ks vs k d e t = refl
  of_expression (Name i) f q ks vs k d e t = refl
  of_expression Follow f q ks vs k d e t = refl
  of_expression (Move o) f q ks vs k d e t = refl
  of_expression (Fetch g) f q ks vs k d e t = refl
  of_expression Keep f q ks vs k d e t = refl
  of_expression (Change to) f q ks vs k d e t = refl
  of_expression (Apply1 op g) f q ks vs k d e t = refl
  of_expression (Apply2 op g h) f q ks vs k d e t = refl
  of_expression (Both a) f q ks vs k d e t = refl
  of_expression (Either a) f q ks vs k d e t = refl
  of_expression Truth f q ks vs k d e t = refl
  of_expression (Choose a b) f q ks vs k d e t = refl
  of_expression Drop f q ks vs k d e t = refl
  of_expression (Put g) f q ks vs k d e t = refl
  of_expression (Peek g to) f q ks vs k d e t = refl
  of_expression (Bump kind g) f q ks vs k d e t = refl
  of_expression (PutUnder g) f q ks vs k d e t = refl
  of_expression (Carry done size) f q ks vs k d e t = refl
  of_expression (Gather size) f q ks vs k d e t = refl
  of_expression (Lay i done size) f q ks vs k d e t = refl
  of_expression Reach f q ks vs k d e t = refl
  of_expression (Invoke callee types) f q ks vs k d e t = absurd (cc)
  of_expression Leave f q ks vs k d e t = absurd t
  of_expression _ f q ks vs k d e t = absurd t.0

  steps_well : (s : State) → stops s ≡ false → IsGood expression p.unit c s → IsGood expression p.unit c (step p s)
  steps_well (Undefined (By action)) e h = tt
  steps_well (Undefined Unfit) e h = absurd h
  steps_well Deep e h = tt
  steps_well (Ended out status turns) e h = tt
  steps_well (Running [] vs d) e h = absurd (cc)
  steps_well (Running (j ∷ k) vs d) e h = performs expression p c j k h.kinds vs d (of_expression j (Takes expression p.unit c k) (Out expression p.unit c k) h.kinds vs k d e h.takes) h.takes h.suited h.scene

  goes_well : (n : ℕ) (s : State) → IsGood expression p.unit c s → IsGood expression p.unit c (steps_here p n s)
  goes_well zero s h = h
  goes_well (suc n) s h = tested (stops s) refl (λ g. goes_well n (step p s) g)
    where
      tested : (t : Bool) → stops s ≡ t → (IsGood expression p.unit c (step p s) → IsGood expression p.unit c (steps_here p n (step p s))) → IsGood expression p.unit c (if t then s else steps_here p n (step p s))
      tested true e f = h
      tested false e f = f (steps_well s e h)

pub expressions_fit : ExpressionsFit
expressions_fit p e n values c w h s = fit p c (steps_here p n (Running (plan p.unit e []) values c)) (goes_well p c n (Running (plan p.unit e []) values c) (record { kinds = []; takes = takes expression p.unit c e (kind_of e) [] [] w h (below_refl (kind_of e)) tt; suited = tt; scene = record { frames = refl; store = first_store p c s } }))
