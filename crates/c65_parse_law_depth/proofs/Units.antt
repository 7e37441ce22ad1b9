-- Function definitions and units.
use Rattle.std.proofs.Common.{List, [], ◌∷◌, length, Bool}
use Rattle.std.specs.Prelude.{Ok, Err, nat_eq, ◌&&◌, not}
use Rattle.c65_scan.specs.declared.token.Token.{Token}
use Rattle.c65_tree.specs.Trees as t
use Rattle.c65_parse_grammar.specs.Parts.{is_empty}
use Rattle.c65_parse_names.specs.Scopes.{Blocks, opened, closed}
use Rattle.c65_parse_names.specs.Blocks.{no_types}
use Rattle.c65_parse.specs.Machine.{nothing_there}
use Rattle.c65_parse.specs.Reading.{specifiers_read}
use Rattle.c65_parse_frames.specs.declared.sign.Mark.TheVariants as marks
use Rattle.c65_decl.specs.Words.{goes_on}
use Rattle.c65_decl.specs.Here.{sign_here, is_here, unexpected}
use Rattle.c65_decl.specs.Declaring.{naming_of, named_read, in_function}
use Rattle.c65_decl.specs.Decls.{declaration_from, declarations_read}
use Rattle.c65_decl.specs.Statements.{statement_read}
use Rattle.c65_decl.specs.Units.{body_read, body_needed, function_read, declaration_item, function_item, item_from, empty_item, declared_item, behind_specifiers, item_read, with_item, items_next, items_run, items_read, whole_unit}
use Rattle.c65_parse_law_depth.specs.Grows.{Growing, GrowsEverywhere}
use Rattle.c65_parse_law_depth.specs.Units.{UnitsGrow}
use Rattle.c65_parse_law_depth.proofs.Growth.{same_grows, then_grows, if_grows}
use Rattle.c65_parse_law_depth.proofs.Readings.{specifiers_grow}
use Rattle.c65_parse_law_depth.proofs.Decls.{named_grows, from_grows, declaration_list_grows}
use Rattle.c65_parse_law_depth.proofs.Statements.{statements_grow}

body_grows : (unit : List Token) (q : t.SpecifiersTree) (d : t.DeclaratorTree) (ds : List t.DeclTree) → GrowsEverywhere (λ limit. body_read limit unit q d ds)
body_grows unit q d ds scope ts = then_grows (λ limit. statement_read limit unit scope ts) (λ limit s. Ok (record { specifiers = q; declarator = d; declarations = ds; body = s.0 }, s.1, closed s.2)) (statements_grow unit scope ts) (λ s. same_grows _)

needed_grows : (unit : List Token) (q : t.SpecifiersTree) (d : t.DeclaratorTree) (ds : List t.DeclTree) → GrowsEverywhere (λ limit. body_needed limit unit q d ds)
needed_grows unit q d ds scope ts = if_grows (is_here marks.OpenBrace ts) (λ limit. body_read limit unit q d ds scope ts) (λ limit. unexpected ts) (body_grows unit q d ds scope ts) (same_grows _)

pub function_grows : (unit : List Token) (q : t.SpecifiersTree) (d : t.DeclaratorTree) → GrowsEverywhere (λ limit. function_read limit unit q d)
function_grows unit q d scope ts = then_grows (λ limit. declarations_read limit unit (in_function d (opened scope)) ts) (λ limit ds. body_needed limit unit q d ds.0 ds.2 ds.1) (declaration_list_grows unit (in_function d (opened scope)) ts) (λ ds. needed_grows unit q d ds.0 ds.2 ds.1)

declaration_item_grows : (unit : List Token) (q : t.SpecifiersTree) (d : t.DeclaratorTree) → GrowsEverywhere (λ limit. declaration_item limit unit q d)
declaration_item_grows unit q d scope ts = then_grows (λ limit. declaration_from limit unit q d scope ts) (λ limit e. Ok (t.declaration e.0, e.1, e.2)) (from_grows unit q d scope ts) (λ e. same_grows _)

function_item_grows : (unit : List Token) (q : t.SpecifiersTree) (d : t.DeclaratorTree) → GrowsEverywhere (λ limit. function_item limit unit q d)
function_item_grows unit q d scope ts = then_grows (λ limit. function_read limit unit q d scope ts) (λ limit f. Ok (t.definition f.0, f.1, f.2)) (function_grows unit q d scope ts) (λ f. same_grows _)

item_from_grows : (unit : List Token) (q : t.SpecifiersTree) (d : t.DeclaratorTree) (may_declare : Bool) → GrowsEverywhere (λ limit. item_from limit unit q d may_declare)
item_from_grows unit q d may_declare scope ts = if_grows (may_declare && goes_on (sign_here ts)) (λ limit. declaration_item limit unit q d scope ts) (λ limit. function_item limit unit q d scope ts) (declaration_item_grows unit q d scope ts) (function_item_grows unit q d scope ts)

declared_item_grows : (unit : List Token) (q : t.SpecifiersTree) → GrowsEverywhere (λ limit. declared_item limit unit q)
declared_item_grows unit q scope ts = then_grows (λ limit. named_read limit (naming_of q) scope ts) (λ limit d. item_from limit unit q d.0 (not (is_empty q)) d.2 d.1) (named_grows (naming_of q) scope ts) (λ d. item_from_grows unit q d.0 (not (is_empty q)) d.2 d.1)

specified_grows : (unit : List Token) (q : t.SpecifiersTree) → GrowsEverywhere (λ limit. behind_specifiers limit unit q)
specified_grows unit q scope ts = if_grows (not (is_empty q) && is_here marks.Semicolon ts) (λ limit. empty_item q scope ts) (λ limit. declared_item limit unit q scope ts) (same_grows _) (declared_item_grows unit q scope ts)

pub item_grows : (unit : List Token) → GrowsEverywhere (λ limit. item_read limit unit)
item_grows unit scope ts = then_grows (λ limit. specifiers_read limit scope ts) (λ limit q. behind_specifiers limit unit q.0 q.2 q.1) (specifiers_grow scope ts) (λ q. specified_grows unit q.0 q.2 q.1)

pub items_grow : (unit us : List Token) (is : List t.ItemTree) (scope : Blocks) (ts : List Token) → Growing (λ limit. items_run limit unit us is scope ts)
items_grow unit [] is scope ts = same_grows (unexpected ts)
items_grow unit (u ∷ us) is scope ts = then_grows (λ limit. item_read limit unit scope ts) (λ limit i. items_next (items_run limit unit us) (with_item is i.0) i.2 i.1) (item_grows unit scope ts)
    (λ i. if_grows (is_here marks.End i.1) (λ limit. Ok (with_item is i.0)) (λ limit. items_run limit unit us (with_item is i.0) i.2 i.1) (same_grows _) (items_grow unit us (with_item is i.0) i.2 i.1))

whole_grows : (unit : List Token) → Growing (λ limit. whole_unit limit unit)
whole_grows unit = then_grows (λ limit. items_read limit unit (no_types ∷ []) unit) (λ limit is. Ok (record { items = is })) (items_grow unit unit [] (no_types ∷ []) unit) (λ is. same_grows _)

pub units_grow : UnitsGrow
units_grow unit = if_grows (nat_eq (length unit) 0) (λ limit. Err nothing_there) (λ limit. whole_unit limit unit) (same_grows _) (whole_grows unit)
