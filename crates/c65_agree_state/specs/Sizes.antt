-- Blocks have the bytes of what lies in them (C90 6.1.2.4, 6.1.4).
use Rattle.std.specs.Prelude.{◌≡◌, ℕ, ◌<◌, ◌≤◌, Some}
use Rattle.c65_csem.specs.Trees.{UnitTy}
use Rattle.c65_meaning.specs.Store.{Block, Store, block_size}
use Rattle.c65_meaning.specs.Shapes.{object_in, object_size, first_block}
use Rattle.c65_meaning.specs.Start.{initial_store}
use Rattle.c65_meaning.specs.State.{Scene, block_in}

-- those of the whole run, which are functions, literals and objects with static storage, have the sizes that they began with
pub record HaveSizes (u : UnitTy) (s : Store) (next : ℕ) : Type 0 where
  pub behind : first_block u ≤ next
  pub sizes : (b : ℕ) → b < first_block u → block_size s b ≡ block_size (initial_store u) b

-- those of the active call have the sizes of its objects
abbrev pub AreSized : UnitTy → Scene → Type 0
AreSized u c = (i b : ℕ) (x : Block) → block_in c.frames i ≡ Some b → c.store b ≡ Some x → x.size ≡ object_size u.types (object_in u i)
