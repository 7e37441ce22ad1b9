-- The first fault of an object's initialiser.
use Rattle.std.specs.Prelude.{ℕ}
use Rattle.c65_base.specs.declared.refusal.Pos.{Pos}
use Rattle.c65_base.specs.declared.refusal.Refusal.{Refusal}
use Rattle.c65_base.specs.Answers.{Fails}
use Rattle.c65_ctype.specs.Trees.{QTy}
use Rattle.c65_csem.specs.declared.items.Class.{Class}
use Rattle.c65_elab_scope.specs.Scopes.{ScopeTy}
use Rattle.c65_tree.specs.Trees.{InitTree}
use Rattle.c65_elab.proofs.Walks.{fails_bind}
use Rattle.c65_init.specs.Declarations.{LocalsTy, no_values, begun_of}
use Rattle.c65_init.specs.Initials.{initial_of}

pub begun_refused : (e : Refusal) (k : LocalsTy) (n : ℕ) (i : InitTree) (p : Pos) (class : Class) (t : QTy) (s : ScopeTy) → Fails e (initial_of t i (no_values n class, s)) → Fails e (begun_of k n i p (class, t) s)
begun_refused e k n i p class t s h = fails_bind e (initial_of t i (no_values n class, s)) _ h
