-- The first store of a program (C90 6.1.2.4, 6.5.7).
use Rattle.std.specs.Prelude.{◌≡◌, ℕ, false, IsSome, slice_get}
use Rattle.c65_csem.specs.Trees.{UnitTy}
use Rattle.c65_meaning.specs.Shapes.{object_in, lives_in_frame, literal_block, object_block}
use Rattle.c65_meaning.specs.Start.{initial_store}
use Rattle.c65_csem_names.specs.Initial.{HasStaticPointers}
use Rattle.c65_meaning_law.specs.Laws.{IsClosed}

pub record HasBlocks (u : UnitTy) : Type 0 where
  pub funcs : (f : ℕ) → IsSome (slice_get u.funcs f) → IsSome (initial_store u f)
  pub literals : (l : ℕ) → IsSome (slice_get u.literals l) → IsSome (initial_store u (literal_block u l))
  pub objects : (i : ℕ) → IsSome (object_in u i) → lives_in_frame (object_in u i) ≡ false → IsSome (initial_store u (object_block u i))

-- Before `main` each function, each literal and each object of the whole run has a block; and where no initial value points to an automatic
-- object, memory names only blocks that there are.
abbrev pub InitialStoreFits : Type 0
InitialStoreFits = (u : UnitTy) → HasBlocks u × (HasStaticPointers u → IsClosed (initial_store u))
