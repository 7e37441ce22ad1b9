-- What declarators and parameters declare (C90 6.1.2.1).
use Rattle.std.specs.Prelude.{ℕ, List, [], ◌∷◌, Bool, false, Option, Some, None, Ok}
use Rattle.c65_base.specs.Answers.{◌>>=◌}
use Rattle.c65_base.specs.declared.names.Name.{Name}
use Rattle.c65_scan.specs.declared.token.Token.{Token}
use Rattle.c65_tree.specs.declared.expr.Param.{Param, out-Param}
use Rattle.c65_tree.specs.Trees as t
use Rattle.c65_tree.specs.View.{specifiers_of, declarator_of}
use Rattle.c65_parse_grammar.specs.Parts.{declared_name, nearest_params, has_type, is_typedef}
use Rattle.c65_parse_names.specs.Scopes.{Blocks, with_declared}
use Rattle.c65_parse.specs.declared.frame.Sort.TheVariants.{Named}
use Rattle.c65_parse.specs.Reading.{Answer, declarator_read}
use Rattle.c65_decl.specs.declared.names.Naming.{Naming}
use Rattle.c65_decl.specs.Enumerators.{in_specifiers, in_declarator}

abbrev pub naming_of : t.SpecifiersTree → Naming
naming_of q = record { has_type = has_type q; makes_types = is_typedef q }

abbrev pub declared_maybe : Option Name → Bool → Blocks → Blocks
declared_maybe None is_type scope = scope
declared_maybe (Some n) is_type scope = with_declared n is_type scope

-- a declarator, and its name declared behind it
abbrev pub named_read : (limit : ℕ) → Naming → Blocks → List Token → Answer t.DeclaratorTree
named_read limit naming scope ts = do
  d ← declarator_read limit (Named naming.has_type) scope ts
  Ok (d.0, d.1, declared_maybe (declared_name d.0) naming.makes_types d.2)

-- names that are no types, one after another
abbrev pub with_names : List Name → Blocks → Blocks
with_names [] scope = scope
with_names (n ∷ ns) scope = with_names ns (with_declared n false scope)

-- the enumerators in a parameter
abbrev pub enumerators_in : t.SpecifiersTree → t.DeclaratorTree → List Name
enumerators_in q d = in_declarator (in_specifiers [] q) d

-- a parameter's enumerators and name
abbrev pub with_param : t.SpecifiersTree → t.DeclaratorTree → Blocks → Blocks
with_param q d scope = declared_maybe (declared_name d) (is_typedef q) (with_names (enumerators_in q d) scope)

abbrev pub with_param_list : t.ParamList → Blocks → Blocks
with_param_list t.no_more_params scope = scope
with_param_list (t.and_param ps q d) scope = with_param q d (with_param_list ps scope)

-- an identifier list hides nothing: none of its names is a type
abbrev pub with_params : Option t.ParamsTree → Blocks → Blocks
with_params None scope = scope
with_params (Some t.no_params) scope = scope
with_params (Some (t.param_names ns)) scope = scope
with_params (Some (t.param_types ps more)) scope = with_param_list ps scope

-- what the block of a function definition begins with (C90 6.7.1)
abbrev pub in_function : t.DeclaratorTree → Blocks → Blocks
in_function d scope = with_params (nearest_params d) scope

-- the same by the list of the code, from the first on
abbrev pub one_param : Param → Blocks → Blocks
one_param p scope = with_param (specifiers_of (out-Param p).specifiers) (declarator_of (out-Param p).declarator) scope

abbrev pub each_param : List Param → Blocks → Blocks
each_param [] scope = scope
each_param (p ∷ ps) scope = each_param ps (one_param p scope)
