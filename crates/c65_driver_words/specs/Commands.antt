-- A command with its options.
use Rattle.std.specs.Prelude.{ℕ, Bool, List, Option}
use Rattle.c65_base.specs.declared.options.Options.{Options}
use Rattle.c65_lex.specs.declared.define.Define.{Define}
use Rattle.c65_driver_words.specs.declared.command.CommandKind.{CommandKind}

pub record Spelled : Type 0 where
  pub kind : CommandKind
  pub options : Options
  pub defines : List Define
  pub folders : List (List ℕ)
  pub files : List (List ℕ)
  pub args : List (List ℕ)
  pub out : Option (List ℕ)
  pub cycles : Option ℕ
  pub known : Bool
  pub number : ℕ
