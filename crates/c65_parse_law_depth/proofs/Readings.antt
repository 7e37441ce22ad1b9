-- Expressions, specifiers, declarators and type names.
use Rattle.std.proofs.Common.{List, [], Bool, true, false}
use Rattle.std.specs.Prelude.{Ok, Err, nat_eq}
use Rattle.c65_base.specs.Answers.{◌>>=◌}
use Rattle.c65_scan.specs.declared.token.Token.{Token}
use Rattle.c65_tree.specs.Trees as t
use Rattle.c65_tree.specs.Depth.{specifiers_depth}
use Rattle.c65_parse_trees.specs.Listings.{Listed, nothing_listed}
use Rattle.c65_parse_names.specs.Scopes.{Blocks}
use Rattle.c65_parse.specs.declared.frame.Sort.TheVariants as sorts
use Rattle.c65_parse.specs.Frames.{operand, specifiers, declarator}
use Rattle.c65_parse.specs.Machine.{run, fault_at}
use Rattle.c65_parse.specs.Reading.{as_expr, as_specifiers, as_declarator, listed_read, declarator_read, type_behind, token_at}
use Rattle.c65_parse_law_depth.specs.Grows.{Growing, GrowsEverywhere, ExprsGrow, SpecifiersGrow, DeclaratorsGrow, TypesGrow}
use Rattle.c65_parse_law_depth.proofs.Growth.{same_grows, then_grows, if_grows}
use Rattle.c65_parse_law_depth.proofs.Runs.{run_grows}

pub exprs_grow : ExprsGrow
exprs_grow least scope tokens = then_grows (λ limit. run limit least scope [] operand tokens) (λ limit. as_expr) (λ limit more fits. run_grows limit more fits least tokens scope [] operand) (λ a. same_grows (as_expr a))

pub listed_grow : (takes_storage : Bool) → GrowsEverywhere (λ limit. listed_read limit takes_storage)
listed_grow takes_storage scope tokens = then_grows (λ limit. run limit 0 scope [] (specifiers (nothing_listed takes_storage)) tokens) (λ limit. as_specifiers) (λ limit more fits. run_grows limit more fits 0 tokens scope [] (specifiers (nothing_listed takes_storage))) (λ a. same_grows (as_specifiers a))

pub specifiers_grow : SpecifiersGrow
specifiers_grow scope tokens = then_grows (λ limit. listed_read limit true scope tokens) (λ limit q. Ok (q.0.tree, q.1, q.2)) (listed_grow true scope tokens) (λ q. same_grows (Ok (q.0.tree, q.1, q.2)))

pub declarators_grow : DeclaratorsGrow
declarators_grow sort scope tokens = then_grows (λ limit. run limit 0 scope [] (declarator sort) tokens) (λ limit. as_declarator) (λ limit more fits. run_grows limit more fits 0 tokens scope [] (declarator sort)) (λ a. same_grows (as_declarator a))

behind_grows : (q : Listed) (scope : Blocks) (tokens : List Token) → Growing (λ limit. type_behind limit q scope tokens)
behind_grows q scope tokens = if_grows (nat_eq (specifiers_depth q.tree) 0) (λ limit. Err (fault_at (token_at tokens 0))) (λ limit. declarator_read limit sorts.Abstract scope tokens >>= (λ d. Ok (t.type_name q.tree d.0, d.1, d.2))) (same_grows (Err (fault_at (token_at tokens 0))))
    (then_grows (λ limit. declarator_read limit sorts.Abstract scope tokens) (λ limit d. Ok (t.type_name q.tree d.0, d.1, d.2)) (declarators_grow sorts.Abstract scope tokens) (λ d. same_grows (Ok (t.type_name q.tree d.0, d.1, d.2))))

pub types_grow : TypesGrow
types_grow scope tokens = then_grows (λ limit. listed_read limit false scope tokens) (λ limit q. type_behind limit q.0 q.2 q.1) (listed_grow false scope tokens) (λ q. behind_grows q.0 q.2 q.1)
