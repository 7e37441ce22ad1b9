-- Objects of blocks that have one place for the whole run, though each entry of the block makes a new one (C90 6.1.2.4).
use Rattle.std.specs.Prelude.{◌≡◌, ℕ, ◌+◌, ◌<◌, ◌⊎◌, Bool, true, false, List, [], ◌∷◌, ◌++◌, Option, Some, None, slice_get}
use Rattle.c65_csem.specs.Trees.{Stmt, FuncTy, UnitTy}
use Rattle.c65_csem.specs.Places.{is_fixed_object}
use Rattle.c65_meaning.specs.Store.{Block}
use Rattle.c65_meaning.specs.After.{is_among}
use Rattle.c65_meaning.specs.Costs.{has_fixed}
use Rattle.c65_meaning.specs.Shapes.{object_in, object_size}
use Rattle.c65_meaning.specs.State.{Scene, Frame as Call}
use Rattle.c65_meaning.specs.Step.{is_active}
use Rattle.c65_genframe.specs.Objects.{locals_of}
use Rattle.c65_genframe.specs.Symbols.{numbers_of, object_symbol}
use Rattle.c65_agree_store.specs.Stands.{Spot, At, Placing, IsAt, beyond}
use Rattle.c65_agree_state.specs.World.{World, unit_in}

-- the address of an object's symbol
abbrev pub symbol_at : World → ℕ → ℕ
symbol_at g i = g.place.address (object_symbol (numbers_of g.parts) i).0

-- one of the calls has this block for the object
abbrev pub HasFor : ℕ → ℕ → List Call → Type 0
HasFor i b [] = ⊥
HasFor i b (f ∷ fs) = (f.object i ≡ Some b) ⊎ HasFor i b fs

abbrev pub is_object_of : Option FuncTy → ℕ → Bool
is_object_of None i = false
is_object_of (Some f) i = is_among (f.params ++ locals_of f) i

-- each call has blocks for the objects of its own function alone
abbrev pub HaveOwnObjects : UnitTy → List Call → Type 0
HaveOwnObjects u [] = Unit {0}
HaveOwnObjects u (f ∷ fs) = ((i b : ℕ) → f.object i ≡ Some b → is_object_of (slice_get u.funcs f.func) i ≡ true) × HaveOwnObjects u fs

abbrev pub body_has_fixed : UnitTy → Option Stmt → Bool
body_has_fixed u None = false
body_has_fixed u (Some body) = has_fixed u body

abbrev pub func_has_fixed : UnitTy → Option FuncTy → Bool
func_has_fixed u None = false
func_has_fixed u (Some f) = body_has_fixed u f.body

-- a function with such an object has one call at a time
abbrev pub AreOnce : UnitTy → List Call → Type 0
AreOnce u [] = Unit {0}
AreOnce u (f ∷ fs) = (func_has_fixed u (slice_get u.funcs f.func) ≡ true → is_active f.func fs ≡ false) × AreOnce u fs

-- what lives where such an object stands is the block that an active call has for it: between two entries nothing does
pub record HaveFixed (g : World) (c : Scene) (w : Placing) : Type 0 where
  pub own : (i b o n : ℕ) (x : Block) (q : Spot) → is_fixed_object (object_in (unit_in g) i) ≡ true → IsAt c.store w b x q
      → o < x.size → n < object_size (unit_in g).types (object_in (unit_in g) i) → beyond q o ≡ At (symbol_at g i + n) → HasFor i b c.frames
  pub objects : HaveOwnObjects (unit_in g) c.frames
  pub once : AreOnce (unit_in g) c.frames
