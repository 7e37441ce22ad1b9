-- What begins at a statement's place (C90 6.6), where a name is no label by the token behind it, or is one.
use Rattle.std.proofs.Common.{◌≡◌, ℕ, zero, suc, ◌+◌, ◌≤◌, List, [], ◌∷◌, length, Bool, true, false, refl, subst, arith}
use Rattle.std.proofs.lemmas.Bool.{leb-true, leb-false}
use Rattle.std.specs.Prelude.{nat_le, Ok, Err, Option, None, Some, if◌then◌else◌, ◌&&◌}
use Rattle.c65_base.specs.Answers.{large}
use Rattle.c65_base.specs.declared.refusal.Size.TheVariants.{Depth}
use Rattle.c65_scan.specs.declared.token.Token.{Token}
use Rattle.c65_tree.specs.Depth.{decl_depth}
use Rattle.c65_parse_names.specs.Scopes.{Blocks, closed}
use Rattle.c65_parse.specs.Reading.{Answer, token_at}
use Rattle.c65_parse_frames.specs.declared.frame.Place.{Place}
use Rattle.c65_parse_frames.specs.declared.sign.Sign.{Sign}
use Rattle.c65_parse_frames.specs.declared.sign.Sign.TheVariants as signs
use Rattle.c65_parse_frames.specs.declared.sign.Mark.TheVariants as marks
use Rattle.c65_parse_frames.specs.Signs.{sign_of, is_mark, is_label, starts_declaration, least_depth}
use Rattle.c65_parse_frames.specs.Frames.{begun_decl, begun_close}
use Rattle.c65_decl.specs.declared.words.Word.{Word}
use Rattle.c65_decl.specs.Words.{word_of, is_evaluated}
use Rattle.c65_decl.specs.Here.{sign_here, is_type_here}
use Rattle.c65_decl.specs.Decls.{declaration_read}
use Rattle.c65_decl.specs.Openings.{label_begun, eval_begun, word_begun, statement_begun, closed_here, declaration_begun, begun_within, begun_inside, begun_by}
use Rattle.c65_parse_grammar.specs.Scopes.{Scope, after_decl}
use Rattle.c65_parse_grammar.specs.Statements.{declaration}
use Rattle.c65_parse_grammar.specs.Readings.{Continues}
use Rattle.c65_parse_law_sound.proofs.Got.{EndsIn, first_of_mark, is_mark_of}
use Rattle.c65_parse_law_sound.proofs.Statements.{both_true}
use Rattle.c65_parse_law_sound.proofs.Declarations.{starts_is}
use Rattle.c65_parse_law_faults.proofs.Local.{Reader, Triple, here_is}
use Rattle.c65_parse_law_least.specs.Viable.{FewTypes}
use Rattle.c65_parse_law_exact.proofs.Pieces.{IsTaken}
use Rattle.c65_parse_law_exact.proofs.Stops.{Going, Taking, StopIs, Stop, stop_done, stop_fails, stop_deep, weaker, stop_by_first, stop_if, stop_past}
use Rattle.c65_parse_law_exact.proofs.Declarations.{declaration_stops}
use Rattle.c65_parse_law_exact.proofs.Onward.{few_closed, stop_mapped}
use Rattle.c65_parse_law_exact.proofs.Placed.{placed_depth}
use Rattle.c65_parse_law_exact.proofs.Words.{TakesBegun, Places, label_stops, eval_stops, word_stops}
use Rattle.c65_parse_law_exact.proofs.Starts.{Starting, starts}

-- what goes on where a statement at the place goes on, a declaration where it may stand, and nothing yet
pub record Goes (limit : ℕ) (b : Scope) (place : Place) (goes : Going) : Type 0 where
  pub here : goes limit []
  pub placed : (n : ℕ) (ys : List Token) → limit ≤ n → Places b place n ys → goes n ys
  pub declared : place.takes_declarations ≡ true → (n : ℕ) (ys : List Token) → limit ≤ n → Continues (declaration b) decl_depth n ys → goes n ys

as_placed : {A : Type 0} (limit m : ℕ) (b : Scope) (place : Place) (goes : Going) (takes : Taking A) (read : Reader (Triple A)) (ts : List Token) (r : Answer A) → Goes limit b place goes → StopIs limit 0 m 0 (Places b place) takes read ts r → StopIs limit 0 m 0 goes takes read ts r
as_placed limit m b place goes takes read ts r g h = weaker limit 0 m 0 (Places b place) goes takes takes read ts r (λ n xs up p. g.placed n xs up p) (λ a scope xs p. p) h

label_least : (sign : Sign) (is_type colon : Bool) → is_label sign is_type colon ≡ true → least_depth sign true ≡ 2
label_least (signs.Name n) is_type colon e = refl
label_least _ is_type colon e = absurd cc

evaluated_least : (sign : Sign) → is_evaluated sign ≡ true → least_depth sign false ≡ 1
evaluated_least (signs.Name n) e = refl
evaluated_least signs.Operand e = refl
evaluated_least signs.OpenParen e = refl
evaluated_least signs.Semicolon e = refl
evaluated_least _ e = absurd cc

-- where a word begins a statement, or nothing does
by_word : (limit : ℕ) (b : Scope) (outer : Blocks) (place : Place) (goes : Going) (sign : Sign) (o : Option Word) (unit us ts : List Token) → Goes limit b place goes → sign_here ts ≡ sign → word_of sign ≡ o → place.around + least_depth sign false ≤ limit → FewTypes (b ∷ outer) → EndsIn ts
    → Stop limit 0 1 0 goes (TakesBegun limit b outer place) (λ unit us ys. word_begun limit o (token_at ts 0).pos (b ∷ outer) ys) unit us ts
by_word limit b outer place goes sign None unit us ts g e f room few ends = stop_fails limit 1 0 goes (TakesBegun limit b outer place) unit us ts ends g.here
by_word limit b outer place goes sign (Some w) unit us ts g e f room few ends = as_placed limit 1 b place goes (TakesBegun limit b outer place) (λ unit us ys. word_begun limit (Some w) (token_at ts 0).pos (b ∷ outer) ys) ts (word_begun limit (Some w) (token_at ts 0).pos (b ∷ outer) ts) g (word_stops limit b outer place sign w unit us ts e f room few ends)

by_label : (limit : ℕ) (b : Scope) (outer : Blocks) (place : Place) (goes : Going) (sign : Sign) (label : Bool) (unit us ts : List Token) → Goes limit b place goes → sign_here ts ≡ sign → (label ≡ true → least_depth sign true ≡ 2) → place.around + least_depth sign label ≤ limit → FewTypes (b ∷ outer) → EndsIn ts
    → Stop limit 0 1 0 goes (TakesBegun limit b outer place) (λ unit us ys. if label then label_begun (token_at ts 0).pos (b ∷ outer) ys else (if is_evaluated sign then eval_begun limit (token_at ts 0).pos (b ∷ outer) ys else word_begun limit (word_of sign) (token_at ts 0).pos (b ∷ outer) ys)) unit us ts
by_label limit b outer place goes sign true unit us ts g e f room few ends = as_placed limit 1 b place goes (TakesBegun limit b outer place) (λ unit us ys. label_begun (token_at ts 0).pos (b ∷ outer) ys) ts (label_begun (token_at ts 0).pos (b ∷ outer) ts) g (label_stops limit b outer place unit us ts (let two = f refl in omega (arith, two, room)) few ends)
by_label limit b outer place goes sign false unit us ts g e f room few ends = stop_if limit 0 1 0 goes (TakesBegun limit b outer place) (is_evaluated sign) (λ unit us ys. eval_begun limit (token_at ts 0).pos (b ∷ outer) ys) (λ unit us ys. word_begun limit (word_of sign) (token_at ts 0).pos (b ∷ outer) ys) unit us ts
    (λ v. as_placed limit 1 b place goes (TakesBegun limit b outer place) (λ unit us ys. eval_begun limit (token_at ts 0).pos (b ∷ outer) ys) ts (eval_begun limit (token_at ts 0).pos (b ∷ outer) ts) g (eval_stops limit b outer place unit us ts (let least = evaluated_least sign v in omega (arith, least, room)) few ends))
    (λ v. by_word limit b outer place goes sign (word_of sign) unit us ts g e refl room few ends)

statement_here : (limit : ℕ) (b : Scope) (outer : Blocks) (place : Place) (goes : Going) (sign : Sign) (is_type colon : Bool) (unit us ts : List Token) → Goes limit b place goes → sign_here ts ≡ sign → place.around + least_depth sign (is_label sign is_type colon) ≤ limit → FewTypes (b ∷ outer) → EndsIn ts
    → Stop limit 0 1 0 goes (TakesBegun limit b outer place) (λ unit us ys. statement_begun limit sign (is_label sign is_type colon) (b ∷ outer) ys) unit us ts
statement_here limit b outer place goes sign is_type colon unit us ts g e room few ends = stop_by_first limit 0 1 0 goes (TakesBegun limit b outer place) (λ x unit us ys. if is_label sign is_type colon then label_begun x.pos (b ∷ outer) ys else (if is_evaluated sign then eval_begun limit x.pos (b ∷ outer) ys else word_begun limit (word_of sign) x.pos (b ∷ outer) ys)) unit us ts
    (by_label limit b outer place goes sign (is_label sign is_type colon) unit us ts g e (label_least sign is_type colon) room few ends)

-- where it is too deep, a deeper one begins with the token
low_least : (around least limit : ℕ) → nat_le (around + least) limit ≡ false → around ≤ limit → 1 ≤ least
low_least around zero limit e low = let over = leb-false (around + 0) limit e in absurd (omega (arith, over, low))
low_least around (suc least) limit e low = omega arith

deeper_goes : (limit : ℕ) (b : Scope) (outer : Blocks) (place : Place) (goes : Going) (label : Bool) (x : Token) (xs : List Token) → Goes limit b place goes → nat_le (place.around + least_depth (sign_here (x ∷ xs)) label) limit ≡ false → place.around ≤ limit → (more : ℕ) × (limit ≤ more) × goes more (x ∷ [])
deeper_goes limit b outer place goes label x xs g e low =
    let s : Starting b x = starts b x label (subst (λ v. 1 ≤ least_depth (sign_of v.kind) label) (here_is x xs) (low_least place.around (least_depth (sign_here (x ∷ xs)) label) limit e low)) in
    (limit + placed_depth place.around s.tree, omega arith, g.placed (limit + placed_depth place.around s.tree) (x ∷ []) (omega arith) (record { tree = s.tree; more = s.more; derives = s.derives; within = omega arith }))

pub begun_stops : (limit : ℕ) (b : Scope) (outer : Blocks) (place : Place) (goes : Going) (colon : Bool) (unit us ts : List Token) → Goes limit b place goes → 1 ≤ limit → place.around ≤ limit → FewTypes (b ∷ outer) → EndsIn ts → length ts ≤ length unit
    → Stop limit 0 1 0 goes (TakesBegun limit b outer place) (λ unit us ys. begun_by limit unit place (sign_here ts) (is_type_here (b ∷ outer) ts) colon (b ∷ outer) ys) unit us ts
begun_stops limit b outer place goes colon unit us ts g one low few ends fit = stop_if limit 0 1 0 goes (TakesBegun limit b outer place) (place.in_block && is_mark marks.CloseBrace (sign_here ts)) (λ unit us ys. Ok (closed_here (b ∷ outer) ys)) (λ unit us ys. begun_inside limit unit place (sign_here ts) (is_type_here (b ∷ outer) ts) colon (b ∷ outer) ys) unit us ts
    (λ e. let two = both_true place.in_block (is_mark marks.CloseBrace (sign_here ts)) e in
    let first = first_of_mark marks.CloseBrace ts refl two.1 ends in
    stop_past limit 0 0 0 1 0 0 goes (TakesBegun limit b outer place) (λ unit us ys. Ok (begun_close, ys, closed (b ∷ outer))) unit us ts (omega arith) (omega arith) (omega arith) first
    (stop_done limit 0 0 (λ n ys. goes n (first.tok ∷ ys)) (λ r scope ys. TakesBegun limit b outer place r scope (first.tok ∷ ys)) begun_close (closed (b ∷ outer)) unit us first.rest first.ends (record { derives = (two.0, is_mark_of marks.CloseBrace ts first two.1); scope_is = refl; within = omega arith; few = few_closed b outer few })))
    (λ e. stop_if limit 0 1 0 goes (TakesBegun limit b outer place) (place.takes_declarations && starts_declaration (sign_here ts) (is_type_here (b ∷ outer) ts) colon) (λ unit us ys. declaration_begun limit unit (b ∷ outer) ys) (λ unit us ys. begun_within limit place (sign_here ts) (is_label (sign_here ts) (is_type_here (b ∷ outer) ts) colon) (b ∷ outer) ys) unit us ts
    (λ d. let two = both_true place.takes_declarations (starts_declaration (sign_here ts) (is_type_here (b ∷ outer) ts) colon) d in
    stop_mapped limit 1 1 0 (Continues (declaration b) decl_depth) goes (IsTaken (declaration b) (λ d. after_decl b d ∷ outer) decl_depth limit) (TakesBegun limit b outer place) begun_decl (λ unit us ys. declaration_read limit unit (b ∷ outer) ys) unit us ts (omega arith) ends (declaration_stops limit b outer unit us ts one few (starts_is (sign_here ts) (is_type_here (b ∷ outer) ts) colon two.1) ends fit)
    (λ n xs up k. g.declared two.0 n xs up k)
    (λ d scope xs rest are took. record { derives = (two.0, took.derives); scope_is = took.scope_is; within = took.within; few = took.few }))
    (λ d. stop_if limit 0 1 0 goes (TakesBegun limit b outer place) (nat_le (place.around + least_depth (sign_here ts) (is_label (sign_here ts) (is_type_here (b ∷ outer) ts) colon)) limit) (λ unit us ys. statement_begun limit (sign_here ts) (is_label (sign_here ts) (is_type_here (b ∷ outer) ts) colon) (b ∷ outer) ys) (λ unit us ys. Err (large Depth 257)) unit us ts
    (λ w. statement_here limit b outer place goes (sign_here ts) (is_type_here (b ∷ outer) ts) colon unit us ts g refl (leb-true _ _ w) few ends)
    (λ w. stop_deep limit 0 1 0 goes (TakesBegun limit b outer place) unit us ts ends g.here
    (λ x xs are. deeper_goes limit b outer place goes (is_label (sign_here ts) (is_type_here (b ∷ outer) ts) colon) x xs g (subst (λ ys. nat_le (place.around + least_depth (sign_here ys) (is_label (sign_here ts) (is_type_here (b ∷ outer) ts) colon)) limit ≡ false) are w) low))))
