-- Declarations.
use Rattle.std.proofs.Common.{List, [], ◌∷◌}
use Rattle.std.specs.Prelude.{Ok}
use Rattle.c65_scan.specs.declared.token.Token.{Token}
use Rattle.c65_tree.specs.Trees as t
use Rattle.c65_parse_names.specs.Scopes.{Blocks}
use Rattle.c65_parse.specs.declared.frame.Sort.TheVariants as sorts
use Rattle.c65_parse.specs.Reading.{after_token, specifiers_read, declarator_read}
use Rattle.c65_parse_frames.specs.declared.sign.Mark.TheVariants as marks
use Rattle.c65_parse_grammar.specs.Parts.{declared_name}
use Rattle.c65_decl.specs.declared.names.Naming.{Naming}
use Rattle.c65_decl.specs.Here.{is_here, begins_specifiers, unexpected}
use Rattle.c65_decl.specs.Declaring.{naming_of, declared_maybe, named_read}
use Rattle.c65_decl.specs.Initialisers.{optional_init_read}
use Rattle.c65_decl.specs.Decls.{Progress, all_declared, more_declared, with_declarator, last_declarator, next_declarator, behind_declarator, declarators_step, declarators_next, declarators_run, declarators_read, declaration_from, empty_declaration, declarators_begun, behind_specifiers, declaration_read, with_decl, declarations_run, declarations_read}
use Rattle.c65_parse_law_depth.specs.Grows.{Growing, GrowsEverywhere}
use Rattle.c65_parse_law_depth.specs.Units.{DeclarationsGrow}
use Rattle.c65_parse_law_depth.proofs.Growth.{same_grows, then_grows, if_grows}
use Rattle.c65_parse_law_depth.proofs.Readings.{specifiers_grow, declarators_grow}
use Rattle.c65_parse_law_depth.proofs.Inits.{optional_init_grows}

pub named_grows : (naming : Naming) → GrowsEverywhere (λ limit. named_read limit naming)
named_grows naming scope ts = then_grows (λ limit. declarator_read limit (sorts.Named naming.has_type) scope ts) (λ limit d. Ok (d.0, d.1, declared_maybe (declared_name d.0) naming.makes_types d.2)) (declarators_grow (sorts.Named naming.has_type) scope ts) (λ d. same_grows _)

next_declarator_grows : (naming : Naming) (ds : List t.InitDeclaratorTree) → GrowsEverywhere (λ limit. next_declarator limit naming ds)
next_declarator_grows naming ds scope ts = then_grows (λ limit. named_read limit naming scope ts) (λ limit e. Ok (more_declared ds e.0, e.1, e.2)) (named_grows naming scope ts) (λ e. same_grows _)

behind_grows : (naming : Naming) (ds : List t.InitDeclaratorTree) → GrowsEverywhere (λ limit. behind_declarator limit naming ds)
behind_grows naming ds scope ts = if_grows (is_here marks.Comma ts) (λ limit. next_declarator limit naming ds scope (after_token ts)) (λ limit. last_declarator ds scope ts) (next_declarator_grows naming ds scope (after_token ts)) (same_grows _)

pub step_grows : (unit : List Token) (naming : Naming) (ds : List t.InitDeclaratorTree) (e : t.DeclaratorTree) → GrowsEverywhere (λ limit. declarators_step limit unit naming ds e)
step_grows unit naming ds e scope ts = then_grows (λ limit. optional_init_read limit unit scope ts) (λ limit i. behind_declarator limit naming (with_declarator ds e i.0) i.2 i.1) (optional_init_grows unit scope ts) (λ i. behind_grows naming (with_declarator ds e i.0) i.2 i.1)

next_grows : (unit : List Token) (naming : Naming) (us : List Token) → ((ds : List t.InitDeclaratorTree) (e : t.DeclaratorTree) → GrowsEverywhere (λ limit. declarators_run limit unit naming us ds e)) → (r : Progress × List Token × Blocks) → Growing (λ limit. declarators_next (declarators_run limit unit naming us) r)
next_grows unit naming us h (all_declared ds, ts, scope) = same_grows (Ok (ds, ts, scope))
next_grows unit naming us h (more_declared ds e, ts, scope) = h ds e scope ts

pub run_grows : (unit : List Token) (naming : Naming) (us : List Token) (ds : List t.InitDeclaratorTree) (e : t.DeclaratorTree) → GrowsEverywhere (λ limit. declarators_run limit unit naming us ds e)
run_grows unit naming [] ds e scope ts = same_grows (unexpected ts)
run_grows unit naming (u ∷ us) ds e scope ts = then_grows (λ limit. declarators_step limit unit naming ds e scope ts) (λ limit. declarators_next (declarators_run limit unit naming us)) (step_grows unit naming ds e scope ts) (next_grows unit naming us (run_grows unit naming us))

pub from_grows : (unit : List Token) (q : t.SpecifiersTree) (first : t.DeclaratorTree) → GrowsEverywhere (λ limit. declaration_from limit unit q first)
from_grows unit q first scope ts = then_grows (λ limit. declarators_read limit unit (naming_of q) first scope ts) (λ limit ds. Ok (record { specifiers = q; declarators = ds.0 }, ds.1, ds.2)) (run_grows unit (naming_of q) unit [] first scope ts) (λ ds. same_grows _)

begun_grows : (unit : List Token) (q : t.SpecifiersTree) → GrowsEverywhere (λ limit. declarators_begun limit unit q)
begun_grows unit q scope ts = then_grows (λ limit. named_read limit (naming_of q) scope ts) (λ limit e. declaration_from limit unit q e.0 e.2 e.1) (named_grows (naming_of q) scope ts) (λ e. from_grows unit q e.0 e.2 e.1)

specified_grows : (unit : List Token) (q : t.SpecifiersTree) → GrowsEverywhere (λ limit. behind_specifiers limit unit q)
specified_grows unit q scope ts = if_grows (is_here marks.Semicolon ts) (λ limit. Ok (empty_declaration q scope ts)) (λ limit. declarators_begun limit unit q scope ts) (same_grows _) (begun_grows unit q scope ts)

pub declarations_grow : DeclarationsGrow
declarations_grow unit scope ts = then_grows (λ limit. specifiers_read limit scope ts) (λ limit q. behind_specifiers limit unit q.0 q.2 q.1) (specifiers_grow scope ts) (λ q. specified_grows unit q.0 q.2 q.1)

-- one after another
pub list_grows : (unit us : List Token) (ds : List t.DeclTree) → GrowsEverywhere (λ limit. declarations_run limit unit us ds)
list_grows unit [] ds scope ts = same_grows (unexpected ts)
list_grows unit (u ∷ us) ds scope ts = if_grows (begins_specifiers scope ts) _ (λ limit. Ok (ds, ts, scope)) (then_grows (λ limit. declaration_read limit unit scope ts) (λ limit e. declarations_run limit unit us (with_decl ds e.0) e.2 e.1) (declarations_grow unit scope ts) (λ e. list_grows unit us (with_decl ds e.0) e.2 e.1)) (same_grows _)

pub declaration_list_grows : (unit : List Token) → GrowsEverywhere (λ limit. declarations_read limit unit)
declaration_list_grows unit scope ts = list_grows unit unit [] scope ts
