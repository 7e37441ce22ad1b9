-- What stands in a function's head leaves few types.
use Rattle.std.proofs.Common.{List, [], ◌∷◌, false}
use Rattle.std.specs.Prelude.{Option, None, Some}
use Rattle.c65_base.specs.declared.names.Name.{Name}
use Rattle.c65_tree.specs.Trees as t
use Rattle.c65_parse_names.specs.Scopes.{Blocks, opened, with_declared}
use Rattle.c65_parse.specs.declared.frame.Change.TheVariants as changes
use Rattle.c65_decl.specs.Declaring.{with_names, enumerators_in, with_param_list, with_params, in_function}
use Rattle.c65_parse_grammar.specs.Parts.{declared_name, nearest_params, is_typedef}
use Rattle.c65_parse_law_least.specs.Viable.{FewTypes}
use Rattle.c65_parse_law_least.proofs.Stopping.{few_changed}
use Rattle.c65_parse_law_exact.proofs.Leaves.{few_declared}

few_names : (names : List Name) (scope : Blocks) → FewTypes scope → FewTypes (with_names names scope)
few_names [] scope few = few
few_names (n ∷ ns) scope few = few_names ns (with_declared n false scope) (few_changed (changes.Declare n false) scope few)

few_params : (ps : t.ParamList) (scope : Blocks) → FewTypes scope → FewTypes (with_param_list ps scope)
few_params t.no_more_params scope few = few
few_params (t.and_param ps q d) scope few = few_declared (declared_name d) (is_typedef q) (with_names (enumerators_in q d) (with_param_list ps scope)) (few_names (enumerators_in q d) (with_param_list ps scope) (few_params ps scope few))

few_all : (ps : Option t.ParamsTree) (scope : Blocks) → FewTypes scope → FewTypes (with_params ps scope)
few_all None scope few = few
few_all (Some t.no_params) scope few = few
few_all (Some (t.param_names ns)) scope few = few
few_all (Some (t.param_types ps more)) scope few = few_params ps scope few

-- the block of a function definition
pub few_inside : (d : t.DeclaratorTree) (scope : Blocks) → FewTypes scope → FewTypes (in_function d (opened scope))
few_inside d scope few = few_all (nearest_params d) (opened scope) (few_changed changes.Open scope few)
