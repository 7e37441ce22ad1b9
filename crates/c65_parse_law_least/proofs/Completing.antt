-- Tokens that complete what was read so far.
use Rattle.std.proofs.Common.{◌≡◌, ℕ, ◌+◌, ◌≤◌, List, [], ◌∷◌, ◌++◌, length, Bool, true, false, refl, ap, ◌∙◌, arith}
use Rattle.std.proofs.lemmas.Bool.{le-leb}
use Rattle.c65_base.specs.declared.names.Name.{Name}
use Rattle.c65_base.specs.declared.refusal.Pos.{Pos}
use Rattle.c65_scan.specs.declared.token.Punct.TheVariants as puncts
use Rattle.c65_scan.specs.declared.token.TokenKind.{TokenKind}
use Rattle.c65_scan.specs.declared.token.TokenKind.TheVariants as kinds
use Rattle.c65_tree.specs.Trees as t
use Rattle.c65_parse_trees.specs.declared.operator.Prefix.TheVariants as prefixes
use Rattle.c65_parse_trees.specs.declared.sign.Sign.TheVariants as signs
use Rattle.c65_parse_trees.specs.declared.sign.Word.TheVariants as words
use Rattle.c65_parse_trees.specs.Listings.{TagPart, MembersPart, EnumPart, ParamsPart, NamesPart, nothing_listed, with_word, with_tag, with_body, with_enum}
use Rattle.c65_parse_names.specs.Scopes.{Blocks, is_type_in}
use Rattle.c65_parse.specs.declared.frame.Change.TheVariants as changes
use Rattle.c65_parse.specs.declared.frame.Derivation.TheVariants as derivations
use Rattle.c65_parse.specs.declared.frame.Sort.{Sort}
use Rattle.c65_parse.specs.declared.frame.Sort.TheVariants as sorts
use Rattle.c65_parse.specs.declared.frame.TypeUse.TheVariants as uses
use Rattle.c65_parse.specs.Frames.{in_prefix, Frame, in_operation, in_paren, in_width, in_type, in_params, in_derived, Held, operand, opened, sizeof_word, sizeof_opened, called, dotted, have_expr, specifiers, tag, tag_name, more_members, member, enumerator, enumerator_name, declarator, qualifiers, opened_declarator, have_declarator, opened_bound, opened_params, more_params, ellipsis, names, names_end, go}
use Rattle.c65_parse.specs.Expressions.{goes, within, operand_step, with_enumerator, close_enumerator}
use Rattle.c65_parse.specs.Declarators.{with_params, without_name, declarator_step}
use Rattle.c65_parse.specs.Specifiers.{member_step, specifiers_step, tag_step, tag_name_step, enumerator_step, enumerator_name_step}
use Rattle.c65_parse.specs.Machine.{opened_step, sizeof_step, sizeof_opened_step, called_step, dotted_step, qualifiers_step, opened_declarator_step, opened_bound_step, opened_params_step, more_params_step, ellipsis_step, names_step, names_end_step, step, changed}
use Rattle.c65_parse_grammar.specs.Phrases.{token}
use Rattle.c65_parse_law_least.specs.Viable.{FewTypes}
use Rattle.c65_parse_law_least.proofs.Places.{Place, of_specifiers, of_declarator, Takes, Stands}
use Rattle.c65_parse_law_least.proofs.Closings.{Completes, Closer, preceded, zero_tree, zero_token, zero_step, int_token, brace_step, closes_same, width_completes, closes}

-- a name that is no type
pub free_name : (scope : Blocks) → FewTypes scope → (n : Name) × (is_type_in scope n ≡ false)
free_name [] few = (record { 0 = 0 }, refl)
free_name (block ∷ blocks) few = let n : Name = record { 0 = few.0.0 } in (n, few.0.1 n (omega arith))

-- an operand behind a parenthesis or sizeof
literal_room : (limit : ℕ) (fs : List Frame) (l : Pos) → 1 + length fs ≤ limit → operand_step limit fs (zero_token l) signs.Literal ≡ goes fs (have_expr (zero_tree l))
unfolding operand_step
literal_room limit fs l room = ap (λ b. within b (goes fs (have_expr (zero_tree l)))) (le-leb (1 + length fs) limit room)

paren_zero : (limit : ℕ) (least : ℕ) (scope : Blocks) (fs : List Frame) (k l : Pos) → 2 + length fs ≤ limit → step limit least scope fs (opened k) (zero_token l) ≡ goes (in_paren k ∷ fs) (have_expr (zero_tree l))
unfolding step opened_step
paren_zero limit least scope fs k l room = literal_room limit (in_paren k ∷ fs) l (omega (arith, room))

sizeof_zero : (limit : ℕ) (least : ℕ) (scope : Blocks) (fs : List Frame) (k l : Pos) → 2 + length fs ≤ limit → step limit least scope fs (sizeof_word k) (zero_token l) ≡ goes (in_operation (in_prefix k prefixes.Sizeof) ∷ fs) (have_expr (zero_tree l))
unfolding step sizeof_step
sizeof_zero limit least scope fs k l room = literal_room limit (in_operation (in_prefix k prefixes.Sizeof) ∷ fs) l (omega (arith, room))

sizeof_int : (limit : ℕ) (least : ℕ) (scope : Blocks) (fs : List Frame) (k m l : Pos) → step limit least scope fs (sizeof_opened k m) (int_token l) ≡ goes (in_type k uses.Sizeof ∷ fs) (specifiers (with_word (nothing_listed false) l words.Int))
unfolding step sizeof_opened_step specifiers_step
sizeof_int limit least scope fs k m l = refl

called_close : (limit : ℕ) (least : ℕ) (scope : Blocks) (fs : List Frame) (k : Pos) (e : t.ExprTree) (l : Pos) → step limit least scope fs (called k e) (token (kinds.Punct puncts.CloseParen) l) ≡ goes fs (have_expr (t.call k e t.no_exprs))
unfolding step called_step
called_close limit least scope fs k e l = refl

dotted_name : (limit : ℕ) (least : ℕ) (scope : Blocks) (fs : List Frame) (k : Pos) (arrow : Bool) (e : t.ExprTree) (n : Name) (l : Pos) → step limit least scope fs (dotted k arrow e) (token (kinds.Name n) l) ≡ goes fs (have_expr (t.member k e arrow n))
unfolding step dotted_step
dotted_name limit least scope fs k arrow e n l = refl

tag_named : (limit : ℕ) (least : ℕ) (scope : Blocks) (fs : List Frame) (part : TagPart) (n : Name) (l : Pos) → step limit least scope fs (tag part) (token (kinds.Name n) l) ≡ goes fs (tag_name part n)
unfolding step tag_step
tag_named limit least scope fs part n l = refl

tag_int : (limit : ℕ) (least : ℕ) (scope : Blocks) (fs : List Frame) (part : TagPart) (n : Name) (l : Pos) → step limit least scope fs (tag_name part n) (int_token l) ≡ goes fs (specifiers (with_word (with_tag part n) l words.Int))
unfolding step tag_name_step specifiers_step
tag_int limit least scope fs part n l = refl

member_colon : (limit : ℕ) (least : ℕ) (scope : Blocks) (fs : List Frame) (part : MembersPart) (l : Pos) → step limit least scope fs (member part) (token (kinds.Punct puncts.Colon) l) ≡ goes (in_width part l t.no_declarator ∷ fs) operand
unfolding step member_step
member_colon limit least scope fs part l = refl

enumerator_named : (limit : ℕ) (least : ℕ) (scope : Blocks) (fs : List Frame) (part : EnumPart) (n : Name) (l : Pos) → step limit least scope fs (enumerator part) (token (kinds.Name n) l) ≡ goes fs (enumerator_name part n l)
unfolding step enumerator_step
enumerator_named limit least scope fs part n l = refl

enumerator_brace : (limit : ℕ) (least : ℕ) (scope : Blocks) (fs : List Frame) (part : EnumPart) (n : Name) (k l : Pos) → step limit least scope fs (enumerator_name part n k) (token (kinds.Punct puncts.CloseBrace) l) ≡ go fs (specifiers (with_enum (with_enumerator part n k t.no_expr))) (changes.Declare n false)
unfolding step enumerator_name_step close_enumerator
enumerator_brace limit least scope fs part n k l = refl

-- a declarator's name, or none
taken : (limit : ℕ) (sort : Sort) (fs : List Frame) (l : Pos) (n : Name) → (sort ≡ sorts.Abstract → ⊥) → declarator_step limit sort fs l (signs.Name n false) ≡ goes fs (have_declarator (t.named l n))
unfolding declarator_step
taken limit (sorts.Named true) fs l n h = refl
taken limit (sorts.Named false) fs l n h = refl
taken limit (sorts.Param true) fs l n h = refl
taken limit (sorts.Param false) fs l n h = refl
taken limit (sorts.Member true) fs l n h = refl
taken limit (sorts.Member false) fs l n h = refl
taken limit sorts.Abstract fs l n h = absurd (h refl)

named_step : (limit : ℕ) (least : ℕ) (scope : Blocks) (fs : List Frame) (sort : Sort) (n : Name) (l : Pos) → is_type_in scope n ≡ false → (sort ≡ sorts.Abstract → ⊥) → step limit least scope fs (declarator sort) (token (kinds.Name n) l) ≡ goes fs (have_declarator (t.named l n))
unfolding step
named_step limit least scope fs sort n l e h = ap (λ b. declarator_step limit sort fs l (signs.Name n b)) e ∙ taken limit sort fs l n h

pointed_step : (limit : ℕ) (least : ℕ) (scope : Blocks) (fs : List Frame) (k : Pos) (c v : Bool) (sort : Sort) (n : Name) (l : Pos) → is_type_in scope n ≡ false → (sort ≡ sorts.Abstract → ⊥) → step limit least scope fs (qualifiers k c v sort) (token (kinds.Name n) l) ≡ goes (in_derived k (derivations.Pointer c v) ∷ fs) (have_declarator (t.named l n))
unfolding step qualifiers_step
pointed_step limit least scope fs k c v sort n l e h = ap (λ b. declarator_step limit sort (in_derived k (derivations.Pointer c v) ∷ fs) l (signs.Name n b)) e ∙ taken limit sort (in_derived k (derivations.Pointer c v) ∷ fs) l n h

nameless_same : (limit : ℕ) (least : ℕ) (scope : Blocks) (fs : List Frame) (l : Pos) (k : TokenKind) → Closer k → step limit least scope fs (declarator sorts.Abstract) (token k l) ≡ step limit least scope fs (have_declarator (t.nameless l)) (token k l)
unfolding step declarator_step without_name
nameless_same limit least scope fs l (kinds.Punct puncts.CloseParen) h = refl
nameless_same limit least scope fs l (kinds.Punct puncts.CloseBracket) h = refl
nameless_same limit least scope fs l (kinds.Punct puncts.CloseBrace) h = refl
nameless_same limit least scope fs l (kinds.Punct puncts.Colon) h = refl
nameless_same limit least scope fs l (kinds.Punct puncts.Semicolon) h = refl
nameless_same limit least scope fs l kinds.End h = refl
nameless_same limit least scope fs l (kinds.Punct _) h = absurd h
nameless_same limit least scope fs l (kinds.Keyword k) h = absurd h
nameless_same limit least scope fs l (kinds.Name n) h = absurd h
nameless_same limit least scope fs l (kinds.Number ty n) h = absurd h
nameless_same limit least scope fs l (kinds.Text bs) h = absurd h

pointed_same : (limit : ℕ) (least : ℕ) (scope : Blocks) (fs : List Frame) (j : Pos) (c v : Bool) (l : Pos) (k : TokenKind) → Closer k → step limit least scope fs (qualifiers j c v sorts.Abstract) (token k l) ≡ step limit least scope (in_derived j (derivations.Pointer c v) ∷ fs) (have_declarator (t.nameless l)) (token k l)
unfolding step qualifiers_step declarator_step without_name
pointed_same limit least scope fs j c v l (kinds.Punct puncts.CloseParen) h = refl
pointed_same limit least scope fs j c v l (kinds.Punct puncts.CloseBracket) h = refl
pointed_same limit least scope fs j c v l (kinds.Punct puncts.CloseBrace) h = refl
pointed_same limit least scope fs j c v l (kinds.Punct puncts.Colon) h = refl
pointed_same limit least scope fs j c v l (kinds.Punct puncts.Semicolon) h = refl
pointed_same limit least scope fs j c v l kinds.End h = refl
pointed_same limit least scope fs j c v l (kinds.Punct _) h = absurd h
pointed_same limit least scope fs j c v l (kinds.Keyword k) h = absurd h
pointed_same limit least scope fs j c v l (kinds.Name n) h = absurd h
pointed_same limit least scope fs j c v l (kinds.Number ty n) h = absurd h
pointed_same limit least scope fs j c v l (kinds.Text bs) h = absurd h

opened_close : (limit : ℕ) (least : ℕ) (scope : Blocks) (fs : List Frame) (k : Pos) (sort : Sort) (l : Pos) → step limit least scope fs (opened_declarator k sort) (token (kinds.Punct puncts.CloseParen) l) ≡ goes fs (have_declarator (t.function k (t.nameless k) t.no_params))
unfolding step opened_declarator_step
opened_close limit least scope fs k sort l = refl

bound_close : (limit : ℕ) (least : ℕ) (scope : Blocks) (fs : List Frame) (k : Pos) (d : t.DeclaratorTree) (l : Pos) → step limit least scope fs (opened_bound k d) (token (kinds.Punct puncts.CloseBracket) l) ≡ goes fs (have_declarator (t.array k d t.no_expr))
unfolding step opened_bound_step
bound_close limit least scope fs k d l = refl

params_close : (limit : ℕ) (least : ℕ) (scope : Blocks) (fs : List Frame) (k : Pos) (d : t.DeclaratorTree) (l : Pos) → step limit least scope fs (opened_params k d) (token (kinds.Punct puncts.CloseParen) l) ≡ goes fs (have_declarator (t.function k d t.no_params))
unfolding step opened_params_step
params_close limit least scope fs k d l = refl

params_int : (limit : ℕ) (least : ℕ) (scope : Blocks) (fs : List Frame) (part : ParamsPart) (l : Pos) → step limit least scope fs (more_params part) (int_token l) ≡ goes (in_params part ∷ fs) (specifiers (with_word (nothing_listed true) l words.Int))
unfolding step more_params_step specifiers_step
params_int limit least scope fs part l = refl

ellipsis_close : (limit : ℕ) (least : ℕ) (scope : Blocks) (fs : List Frame) (part : ParamsPart) (l : Pos) → step limit least scope fs (ellipsis part) (token (kinds.Punct puncts.CloseParen) l) ≡ go fs (have_declarator (with_params part true)) changes.Close
unfolding step ellipsis_step
ellipsis_close limit least scope fs part l = refl

abbrev with_name : NamesPart → Name → Pos → NamesPart
with_name part n l = record { pos = part.pos; declarator = part.declarator; names = part.names ++ (n, l) ∷ [] }

listed_name : (fs : List Frame) (part : NamesPart) (n : Name) (l : Pos) (b : Bool) → b ≡ false → names_step part fs l (signs.Name n b) ≡ goes fs (names_end (with_name part n l))
unfolding names_step
listed_name fs part n l true e = absurd cc
listed_name fs part n l false e = refl

name_listed : (limit : ℕ) (least : ℕ) (scope : Blocks) (fs : List Frame) (part : NamesPart) (n : Name) (l : Pos) → is_type_in scope n ≡ false → step limit least scope fs (names part) (token (kinds.Name n) l) ≡ goes fs (names_end (with_name part n l))
unfolding step
name_listed limit least scope fs part n l e = listed_name fs part n l (is_type_in scope n) e

names_close : (limit : ℕ) (least : ℕ) (scope : Blocks) (fs : List Frame) (part : NamesPart) (l : Pos) → step limit least scope fs (names_end part) (token (kinds.Punct puncts.CloseParen) l) ≡ goes fs (have_declarator (t.function part.pos part.declarator (t.param_names part.names)))
unfolding step names_end_step
names_close limit least scope fs part l = refl

names_end_completes : (limit : ℕ) (top : Place) (l : Pos) (least : ℕ) (scope : Blocks) (fs : List Frame) (part : NamesPart) → Takes limit top of_declarator fs → Completes limit top l least scope fs (names_end part)
names_end_completes limit top l least scope fs part h = preceded limit top l least scope fs fs (names_end part) (have_declarator (t.function part.pos part.declarator (t.param_names part.names))) changes.Nothing (token (kinds.Punct puncts.CloseParen) l) (names_close limit least scope fs part l) ((closes limit top l least fs).declared scope (t.function part.pos part.declarator (t.param_names part.names)) h).completes

enumerator_completes : (limit : ℕ) (top : Place) (l : Pos) (least : ℕ) (scope : Blocks) (fs : List Frame) (part : EnumPart) (n : Name) (k : Pos) → Takes limit top of_specifiers fs → Completes limit top l least scope fs (enumerator_name part n k)
enumerator_completes limit top l least scope fs part n k h = preceded limit top l least scope fs fs (enumerator_name part n k) (specifiers (with_enum (with_enumerator part n k t.no_expr))) (changes.Declare n false) (token (kinds.Punct puncts.CloseBrace) l) (enumerator_brace limit least scope fs part n k l) ((closes limit top l least fs).listed (changed (changes.Declare n false) scope) (with_enum (with_enumerator part n k t.no_expr)) h)

tag_completes : (limit : ℕ) (top : Place) (l : Pos) (least : ℕ) (scope : Blocks) (fs : List Frame) (part : TagPart) (n : Name) → Takes limit top of_specifiers fs → Completes limit top l least scope fs (tag_name part n)
tag_completes limit top l least scope fs part n h = preceded limit top l least scope fs fs (tag_name part n) (specifiers (with_word (with_tag part n) l words.Int)) changes.Nothing (int_token l) (tag_int limit least scope fs part n l) ((closes limit top l least fs).listed scope (with_word (with_tag part n) l words.Int) h)

-- a name where it must stand
named_completes : (limit : ℕ) (top : Place) (l : Pos) (least : ℕ) (scope : Blocks) (fs : List Frame) (sort : Sort) → (sort ≡ sorts.Abstract → ⊥) → FewTypes scope → Takes limit top of_declarator fs → Completes limit top l least scope fs (declarator sort)
named_completes limit top l least scope fs sort other few h =
    let free = free_name scope few in
    preceded limit top l least scope fs fs (declarator sort) (have_declarator (t.named l free.0)) changes.Nothing (token (kinds.Name free.0) l) (named_step limit least scope fs sort free.0 l free.1 other) ((closes limit top l least fs).declared scope (t.named l free.0) h).completes

declarator_completes : (limit : ℕ) (top : Place) (l : Pos) (least : ℕ) (scope : Blocks) (fs : List Frame) (sort : Sort) → FewTypes scope → Takes limit top of_declarator fs → Completes limit top l least scope fs (declarator sort)
declarator_completes limit top l least scope fs (sorts.Named typed) few h = named_completes limit top l least scope fs (sorts.Named typed) (λ e. cc) few h
declarator_completes limit top l least scope fs (sorts.Param typed) few h = named_completes limit top l least scope fs (sorts.Param typed) (λ e. cc) few h
declarator_completes limit top l least scope fs (sorts.Member typed) few h = named_completes limit top l least scope fs (sorts.Member typed) (λ e. cc) few h
declarator_completes limit top l least scope fs sorts.Abstract few h = (closes_same limit top l least scope fs fs (declarator sorts.Abstract) (have_declarator (t.nameless l)) (λ k c. nameless_same limit least scope fs l k c) ((closes limit top l least fs).declared scope (t.nameless l) h)).completes

pointed_completes : (limit : ℕ) (top : Place) (l : Pos) (least : ℕ) (scope : Blocks) (fs : List Frame) (k : Pos) (c v : Bool) (sort : Sort) → (sort ≡ sorts.Abstract → ⊥) → FewTypes scope → Takes limit top of_declarator fs → Completes limit top l least scope fs (qualifiers k c v sort)
pointed_completes limit top l least scope fs k c v sort other few h =
    let free = free_name scope few in
    let gs : List Frame = in_derived k (derivations.Pointer c v) ∷ fs in
    preceded limit top l least scope fs gs (qualifiers k c v sort) (have_declarator (t.named l free.0)) changes.Nothing (token (kinds.Name free.0) l) (pointed_step limit least scope fs k c v sort free.0 l free.1 other) ((closes limit top l least gs).declared scope (t.named l free.0) (tt, tt, h)).completes

qualifiers_complete : (limit : ℕ) (top : Place) (l : Pos) (least : ℕ) (scope : Blocks) (fs : List Frame) (k : Pos) (c v : Bool) (sort : Sort) → FewTypes scope → Takes limit top of_declarator fs → Completes limit top l least scope fs (qualifiers k c v sort)
qualifiers_complete limit top l least scope fs k c v (sorts.Named typed) few h = pointed_completes limit top l least scope fs k c v (sorts.Named typed) (λ e. cc) few h
qualifiers_complete limit top l least scope fs k c v (sorts.Param typed) few h = pointed_completes limit top l least scope fs k c v (sorts.Param typed) (λ e. cc) few h
qualifiers_complete limit top l least scope fs k c v (sorts.Member typed) few h = pointed_completes limit top l least scope fs k c v (sorts.Member typed) (λ e. cc) few h
qualifiers_complete limit top l least scope fs k c v sorts.Abstract few h =
    let gs : List Frame = in_derived k (derivations.Pointer c v) ∷ fs in
    (closes_same limit top l least scope fs gs (qualifiers k c v sorts.Abstract) (have_declarator (t.nameless l)) (λ x e. pointed_same limit least scope fs k c v l x e) ((closes limit top l least gs).declared scope (t.nameless l) (tt, tt, h))).completes

-- whatever was read so far
pub complete : (limit : ℕ) (top : Place) (l : Pos) (least : ℕ) (scope : Blocks) (fs : List Frame) (held : Held) → FewTypes scope → Stands limit top fs held → Completes limit top l least scope fs held
complete limit top l least scope fs operand few h = preceded limit top l least scope fs fs operand (have_expr (zero_tree l)) changes.Nothing (zero_token l) (zero_step limit least scope fs l h.0) ((closes limit top l least fs).expr scope (zero_tree l) h.1).completes
complete limit top l least scope fs (opened k) few h = preceded limit top l least scope fs (in_paren k ∷ fs) (opened k) (have_expr (zero_tree l)) changes.Nothing (zero_token l) (paren_zero limit least scope fs k l h.0) ((closes limit top l least (in_paren k ∷ fs)).expr scope (zero_tree l) (tt, tt, h.1)).completes
complete limit top l least scope fs (sizeof_word k) few h = preceded limit top l least scope fs (in_operation (in_prefix k prefixes.Sizeof) ∷ fs) (sizeof_word k) (have_expr (zero_tree l)) changes.Nothing (zero_token l) (sizeof_zero limit least scope fs k l h.0) ((closes limit top l least (in_operation (in_prefix k prefixes.Sizeof) ∷ fs)).expr scope (zero_tree l) (tt, tt, h.1)).completes
complete limit top l least scope fs (sizeof_opened k m) few h = preceded limit top l least scope fs (in_type k uses.Sizeof ∷ fs) (sizeof_opened k m) (specifiers (with_word (nothing_listed false) l words.Int)) changes.Nothing (int_token l) (sizeof_int limit least scope fs k m l) ((closes limit top l least (in_type k uses.Sizeof ∷ fs)).listed scope (with_word (nothing_listed false) l words.Int) (tt, h.0, h.1))
complete limit top l least scope fs (called k e) few h = preceded limit top l least scope fs fs (called k e) (have_expr (t.call k e t.no_exprs)) changes.Nothing (token (kinds.Punct puncts.CloseParen) l) (called_close limit least scope fs k e l) ((closes limit top l least fs).expr scope (t.call k e t.no_exprs) h.1).completes
complete limit top l least scope fs (dotted k arrow e) few h =
    let n = (free_name scope few).0 in
    preceded limit top l least scope fs fs (dotted k arrow e) (have_expr (t.member k e arrow n)) changes.Nothing (token (kinds.Name n) l) (dotted_name limit least scope fs k arrow e n l) ((closes limit top l least fs).expr scope (t.member k e arrow n) h).completes
complete limit top l least scope fs (have_expr e) few h = ((closes limit top l least fs).expr scope e h).completes
complete limit top l least scope fs (specifiers q) few h = (closes limit top l least fs).listed scope q h
complete limit top l least scope fs (tag part) few h =
    let n = (free_name scope few).0 in
    preceded limit top l least scope fs fs (tag part) (tag_name part n) changes.Nothing (token (kinds.Name n) l) (tag_named limit least scope fs part n l) (tag_completes limit top l least scope fs part n h)
complete limit top l least scope fs (tag_name part n) few h = tag_completes limit top l least scope fs part n h
complete limit top l least scope fs (more_members body) few h = preceded limit top l least scope fs fs (more_members body) (specifiers (with_body body)) changes.Nothing (token (kinds.Punct puncts.CloseBrace) l) (brace_step limit least scope fs body l) ((closes limit top l least fs).listed scope (with_body body) h.1)
complete limit top l least scope fs (member part) few h = preceded limit top l least scope fs (in_width part l t.no_declarator ∷ fs) (member part) operand changes.Nothing (token (kinds.Punct puncts.Colon) l) (member_colon limit least scope fs part l) (width_completes limit top l least fs (closes limit top l least fs) scope part h.0 h.1)
complete limit top l least scope fs (enumerator part) few h =
    let n = (free_name scope few).0 in
    preceded limit top l least scope fs fs (enumerator part) (enumerator_name part n l) changes.Nothing (token (kinds.Name n) l) (enumerator_named limit least scope fs part n l) (enumerator_completes limit top l least scope fs part n l h)
complete limit top l least scope fs (enumerator_name part n k) few h = enumerator_completes limit top l least scope fs part n k h
complete limit top l least scope fs (declarator sort) few h = declarator_completes limit top l least scope fs sort few h
complete limit top l least scope fs (qualifiers k c v sort) few h = qualifiers_complete limit top l least scope fs k c v sort few h
complete limit top l least scope fs (opened_declarator k sort) few h = preceded limit top l least scope fs fs (opened_declarator k sort) (have_declarator (t.function k (t.nameless k) t.no_params)) changes.Nothing (token (kinds.Punct puncts.CloseParen) l) (opened_close limit least scope fs k sort l) ((closes limit top l least fs).declared scope (t.function k (t.nameless k) t.no_params) h).completes
complete limit top l least scope fs (have_declarator d) few h = ((closes limit top l least fs).declared scope d h).completes
complete limit top l least scope fs (opened_bound k d) few h = preceded limit top l least scope fs fs (opened_bound k d) (have_declarator (t.array k d t.no_expr)) changes.Nothing (token (kinds.Punct puncts.CloseBracket) l) (bound_close limit least scope fs k d l) ((closes limit top l least fs).declared scope (t.array k d t.no_expr) h.1).completes
complete limit top l least scope fs (opened_params k d) few h = preceded limit top l least scope fs fs (opened_params k d) (have_declarator (t.function k d t.no_params)) changes.Nothing (token (kinds.Punct puncts.CloseParen) l) (params_close limit least scope fs k d l) ((closes limit top l least fs).declared scope (t.function k d t.no_params) h).completes
complete limit top l least scope fs (more_params part) few h = preceded limit top l least scope fs (in_params part ∷ fs) (more_params part) (specifiers (with_word (nothing_listed true) l words.Int)) changes.Nothing (int_token l) (params_int limit least scope fs part l) ((closes limit top l least (in_params part ∷ fs)).listed scope (with_word (nothing_listed true) l words.Int) (tt, tt, h))
complete limit top l least scope fs (ellipsis part) few h = preceded limit top l least scope fs fs (ellipsis part) (have_declarator (with_params part true)) changes.Close (token (kinds.Punct puncts.CloseParen) l) (ellipsis_close limit least scope fs part l) ((closes limit top l least fs).declared (changed changes.Close scope) (with_params part true) h).completes
complete limit top l least scope fs (names part) few h =
    let free = free_name scope few in
    preceded limit top l least scope fs fs (names part) (names_end (with_name part free.0 l)) changes.Nothing (token (kinds.Name free.0) l) (name_listed limit least scope fs part free.0 l free.1) (names_end_completes limit top l least scope fs (with_name part free.0 l) h)
complete limit top l least scope fs (names_end part) few h = names_end_completes limit top l least scope fs part h
