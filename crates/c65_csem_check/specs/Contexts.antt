-- What stands around a statement.
use Rattle.std.specs.Prelude.{ℕ, List, true, Option, Some}
use Rattle.c65_ints.specs.declared.types.IntType.{IntType}
use Rattle.c65_ctype.specs.Trees.{QTy}
use Rattle.c65_csem.specs.Places.{plain_of}
use Rattle.c65_csem.specs.Statements.{Context}
use Rattle.c65_csem_check.specs.declared.stmts.Around.{Around}
use Rattle.c65_csem_check.specs.Statements.{kind_in}

-- in a function with these labels that gives this type
abbrev pub context : List ℕ → QTy → Around → Context
context labels gives at = record { labels = labels; in_loop = at.in_loop; in_switch = at.in_switch; gives = plain_of gives }

abbrev pub looped : Around → Around
looped at = record { in_loop = true; in_switch = at.in_switch }

abbrev pub switched : Option IntType → Around → Around
switched kind at = record { in_loop = at.in_loop; in_switch = Some (kind_in kind) }
