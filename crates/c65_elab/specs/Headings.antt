-- The declarators of declarations and of function definitions (C90 6.5.4, 6.7.1).
use Rattle.std.specs.Prelude.{ℕ, List, [], ◌∷◌, ◌++◌, length, Bool, true, Option, Some, None, nat_lt, ◌==◌, Result, if◌then◌else◌}
use Rattle.c65_base.specs.declared.names.Name.{Name}
use Rattle.c65_base.specs.declared.refusal.Pos.{Pos}
use Rattle.c65_base.specs.Answers.{Fault, ◌>>=◌}
use Rattle.c65_ctype.specs.Trees.{QTy}
use Rattle.c65_elab_scope.specs.declared.meaning.Bound.{Bound}
use Rattle.c65_elab_scope.specs.declared.meaning.Meaning.{Meaning}
use Rattle.c65_elab_scope.specs.declared.meaning.Meaning.TheVariants as m
use Rattle.c65_elab_scope.specs.declared.table.Hidden.{Hidden}
use Rattle.c65_elab_scope.specs.Tables.{TableTy, found, closed_table}
use Rattle.c65_elab_scope.specs.Scopes.{ScopeTy}
use Rattle.c65_elab_scope.specs.Parts.{fewer_objects}
use Rattle.c65_elab_declare.specs.declared.heading.Enumerator.{Enumerator}
use Rattle.c65_elab_declare.specs.Headings.{HeadingTy, heading_from}
use Rattle.c65_elab_declare.specs.Shapes.{shaped_for}
use Rattle.c65_tree.specs.Trees as t
use Rattle.c65_elab.specs.Typing.{beside, member_in, parts_in}

-- the name and the type that a declarator makes of a type
abbrev pub declarator_in : QTy → t.DeclaratorTree → ScopeTy → Result ((Option Name × QTy) × ScopeTy) Fault
declarator_in base k s = member_in (t.a_declarator k) base s

-- the place of a declarator: that of its own token
abbrev pub declarator_place : t.DeclaratorTree → Pos
declarator_place (t.nameless p) = p
declarator_place (t.named p m) = p
declarator_place (t.grouped p k) = p
declarator_place (t.calling p cdecl k) = p
declarator_place (t.pointer p c v k) = p
declarator_place (t.array p k e) = p
declarator_place (t.function p k ps) = p

-- the block of the parameters ends for ordinary identifiers, where it is open; its tags stay for the
-- body, which is the next block, and so do its enumeration constants, which the heading has (C90 6.1.2.1)
abbrev pub names_ended : ScopeTy → ℕ → ScopeTy
names_ended s block = if nat_lt block s.block then record s { names = closed_table s.block s.names; block = block } else s

-- the objects of the parameters are forgotten too
abbrev pub parameters_left : ScopeTy → ScopeTy → ScopeTy
parameters_left s u = fewer_objects (names_ended u s.block) (length s.unit.objects)

-- the enumeration constant that a name means, if it means one
abbrev pub enumerator_by : Name → Meaning → List Enumerator
enumerator_by n (m.Enumerator z) = record { name = n; value = z } ∷ []
enumerator_by n _ = []

abbrev pub enumerator_of : Name → Option Bound → List Enumerator
enumerator_of n None = []
enumerator_of n (Some b) = enumerator_by n b.meaning

-- those that a block declares, whose declarations are the latest
abbrev pub enumerators_of : TableTy → ℕ → List Hidden → List Enumerator
enumerators_of t block [] = []
enumerators_of t block (h ∷ hs) = if h.block == block then enumerator_of h.name (found t h.name) ++ enumerators_of t block hs else []

-- the enumeration constants of the parameters, where their block is open
abbrev pub enumerators_left : ScopeTy → ℕ → List Enumerator
enumerators_left s block = if nat_lt block s.block then enumerators_of s.names s.block s.names.hidden else []

-- C90 6.7.1
abbrev pub headed : QTy → t.DeclaratorTree → ScopeTy → Result (HeadingTy × ScopeTy) Fault
headed base k s = do
  x ← parts_in k true s
  u ← shaped_for (parameters_left s x.1).unit.types base k x.0.1 true
  beside (parameters_left s x.1) (heading_from x.0.0 u x.0.1 (enumerators_left x.1 s.block) (declarator_place k))
