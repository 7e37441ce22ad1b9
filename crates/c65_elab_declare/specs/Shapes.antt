-- The type that a whole declarator makes: the faults of its parts come first, then those of its words,
-- then those of the types from the base toward the name.
use Rattle.std.specs.Prelude.{List, Bool, false, Result}
use Rattle.c65_base.specs.Answers.{Fault, ◌>>=◌}
use Rattle.c65_ctype.specs.Trees.{QTy, TypesTy}
use Rattle.c65_tree.specs.Trees.{DeclaratorTree}
use Rattle.c65_elab_declare.specs.Calling.{is_cdecl, name_place}
use Rattle.c65_elab_declare.specs.Declarators.{PartTy, built}

abbrev pub shaped_for : TypesTy → QTy → DeclaratorTree → List PartTy → Bool → Result QTy Fault
shaped_for types base d parts named = is_cdecl d >>= (λ cdecl. built types base parts (record { cdecl = cdecl; named = named; name = name_place d }))

abbrev pub shaped : TypesTy → QTy → DeclaratorTree → List PartTy → Result QTy Fault
shaped types base d parts = shaped_for types base d parts false
