-- The name that a declarator declares.
use Rattle.std.specs.Prelude.{Option, None, Some}
use Rattle.c65_base.specs.declared.names.Name.{Name}
use Rattle.c65_tree.specs.Trees.{DeclaratorTree, nameless, named, grouped, calling, pointer, array, function}

abbrev pub declared_name : DeclaratorTree → Option Name
declared_name (nameless l) = None
declared_name (named l n) = Some n
declared_name (grouped l d) = declared_name d
declared_name (calling l cdecl d) = declared_name d
declared_name (pointer l c v d) = declared_name d
declared_name (array l d n) = declared_name d
declared_name (function l d ps) = declared_name d
