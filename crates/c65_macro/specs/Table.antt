-- The macros by name, and what stands for the predefined names (C90 6.8.3 and 6.8.8).
use Rattle.std.specs.Prelude.{ℕ, ℤ, pos, negsuc, ◌+ℤ◌, List, Bool, true, false, ◌==◌, ◌&&◌, ◌||◌, Option, Some, None, is_some, if◌then◌else◌}
use Rattle.std.specs.Map
use Rattle.c65_base.specs.declared.names.Name.{Name}
use Rattle.c65_lex.specs.declared.token.PpKind.{PpKind}
use Rattle.c65_lex.specs.declared.token.PpKind.TheVariants as kinds
use Rattle.c65_lex.specs.declared.token.PpToken.{PpToken}
use Rattle.c65_macro.specs.declared.item.Macro.{Macro}
use Rattle.c65_macro.specs.declared.item.Words.{Words}

-- The predefined macros, the others in order of definition, the names that expansion looks at, and
-- what __FILE__ and __LINE__ give: a spelling, and what is added to the line of their place.
pub record Table : Type 0 where
  pub predefined : List (Name × Macro)
  pub defined : List (Name × Macro)
  pub words : Words
  pub file : Name
  pub offset : ℤ

abbrev pub same_name : Name → Name → Bool
same_name a b = a.0 == b.0

-- the macro of a name
abbrev pub find : Name → List (Name × Macro) → Option Macro
find name macros = Map.lookup (same_name name) macros

abbrev pub or_else : {A : Type 0} → Option A → Option A → Option A
or_else None b = b
or_else (Some a) b = Some a

abbrev pub lookup : Table → Name → Option Macro
lookup table name = or_else (find name table.predefined) (find name table.defined)

abbrev pub is_predefined : Table → Name → Bool
is_predefined table name = is_some (find name table.predefined)

abbrev pub without : Name → List (Name × Macro) → List (Name × Macro)
without name macros = Map.remove_entry (same_name name) macros

-- a name that no macro may have
abbrev pub is_kept : Table → Name → Bool
is_kept table name = is_predefined table name || same_name name table.words.defined

abbrev pub is_name_kind : PpKind → Bool
is_name_kind kinds.Name = true
is_name_kind _ = false

abbrev pub is_punct_kind : PpKind → Bool
is_punct_kind kinds.Punct = true
is_punct_kind _ = false

abbrev pub is_line_end : PpToken → Bool
is_line_end t = elim t.kind [ kinds.LineEnd ↦ true | _ ↦ false ]

-- whether a token is this punctuator
abbrev pub is_mark : Name → PpToken → Bool
is_mark mark t = is_punct_kind t.kind && same_name t.spelling mark

-- the line that __LINE__ gives, where its place and the offset come to no negative number
abbrev pub counted : ℤ → ℕ
counted (pos n) = n
counted (negsuc n) = 0

abbrev pub line_of : Table → PpToken → ℕ
line_of table t = counted (pos t.pos.line +ℤ table.offset)

-- a name is no macro's any longer, unless it is predefined
abbrev pub removed : Table → Name → Table
removed table name = if is_predefined table name then table else record table { defined = without name table.defined }
