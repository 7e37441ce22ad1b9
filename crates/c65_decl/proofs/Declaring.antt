-- What is declared by a tree of parameters is declared by the list of the code.
use Rattle.std.proofs.Common.{◌≡◌, refl, sym, ap, ◌∙◌, List, [], ◌∷◌, Bool, Vec, Global}
use Rattle.std.specs.Prelude.{Some}
use Rattle.c65_tree.specs.declared.expr.Param.{Param, out-Param}
use Rattle.c65_tree.specs.declared.expr.Params.TheVariants as p
use Rattle.c65_tree.specs.Trees as t
use Rattle.c65_tree.specs.View as v
use Rattle.c65_tree.proofs.Views.{types_view, param_view}
use Rattle.c65_parse_names.specs.Scopes.{Blocks}
use Rattle.c65_decl.specs.Declaring.{with_param_list, with_params, each_param}

param_list_is : (ps : List Param) (xs : t.ParamList) (scope : Blocks) → each_param ps (with_param_list xs scope) ≡ with_param_list (v.params_from xs ps) scope
param_list_is [] xs scope = refl
param_list_is (p ∷ ps) xs scope = ap (each_param ps) (sym (ap (λ (ys : t.ParamList). with_param_list ys scope) (param_view xs p))) ∙ param_list_is ps (v.with_param xs p) scope

pub params_are : (ps : Vec Param Global) (more : Bool) (scope : Blocks) → with_params (Some (v.params_of (p.Types ps more))) scope ≡ each_param ps.items scope
params_are ps more scope = ap (λ (q : t.ParamsTree). with_params (Some q) scope) (types_view ps more) ∙ sym (param_list_is ps.items t.no_more_params scope)
