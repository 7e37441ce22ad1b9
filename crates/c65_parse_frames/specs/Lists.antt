-- The lists of initialisers that are open (C90 6.5.7), the innermost first.
use Rattle.std.specs.Prelude.{List}
use Rattle.c65_base.specs.declared.refusal.Pos.{Pos}
use Rattle.c65_tree.specs.Trees as t

pub record OpenList : Type 0 where
  pub place : Pos
  pub inits : t.InitList

pub data Listed : Type 0 where
  listed_whole : t.InitTree → Listed
  listed_open : List OpenList → Listed

-- one more initialiser in a list
abbrev pub with_initialiser : OpenList → t.InitTree → OpenList
with_initialiser e i = record { place = e.place; inits = t.and_init e.inits i }

abbrev pub empty_list : Pos → OpenList
empty_list l = record { place = l; inits = t.no_inits }
