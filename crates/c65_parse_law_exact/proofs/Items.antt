-- The items of a unit (C90 6.7).
use Rattle.std.proofs.Common.{◌≡◌, ℕ, ◌≤◌, List, [], ◌∷◌, ◌++◌, length, true, false, refl, sym, ap, ◌∙◌, arith}
use Rattle.std.proofs.lemmas.List.{append-nil}
use Rattle.std.specs.Prelude.{Ok, None, ◌&&◌, not}
use Rattle.c65_base.specs.declared.refusal.Pos.{Pos}
use Rattle.c65_scan.specs.declared.token.Token.{Token}
use Rattle.c65_tree.specs.Trees as t
use Rattle.c65_tree.specs.Depth.{specifiers_depth, declarator_depth, decl_depth, function_depth, item_depth}
use Rattle.c65_parse_names.specs.Scopes.{Blocks}
use Rattle.c65_parse.specs.Reading.{token_at, specifiers_read}
use Rattle.c65_parse_frames.specs.declared.sign.Mark.TheVariants as marks
use Rattle.c65_parse_frames.specs.Signs.{sign_of}
use Rattle.c65_decl.specs.Words.{goes_on}
use Rattle.c65_decl.specs.Here.{pos_here}
use Rattle.c65_decl.specs.Declaring.{naming_of, named_read}
use Rattle.c65_decl.specs.Decls.{declaration_from, empty_declaration}
use Rattle.c65_decl.specs.Units.{function_read, declaration_item, function_item, item_from, empty_item, declared_item, behind_specifiers, item_read}
use Rattle.c65_parse_grammar.specs.Parts.{declarator_start, has_type, is_typedef, is_empty}
use Rattle.c65_parse_grammar.specs.Scopes.{Scope, after_specifiers, declared, after_decl, in_function, after_head, after_item}
use Rattle.c65_parse_grammar.specs.Expressions as g
use Rattle.c65_parse_grammar.specs.Statements.{declaration, head_specifiers, function, item}
use Rattle.c65_parse_grammar.specs.Readings.{Continues}
use Rattle.c65_parse_law_sound.proofs.Statements.{both_true}
use Rattle.c65_parse_law_sound.proofs.Units.{head_before, head_some, function_of}
use Rattle.c65_parse_law_sound.proofs.Got.{EndsIn}
use Rattle.c65_parse_law_faults.proofs.Inits.{marks_it}
use Rattle.c65_parse_law_least.specs.Viable.{FewTypes}
use Rattle.c65_parse_law_exact.proofs.Stops.{Stop, Going, Taking, stop_if_first}
use Rattle.c65_parse_law_exact.proofs.Pieces.{IsTaken}
use Rattle.c65_parse_law_exact.proofs.Leaves.{head_stops, named_phrase, named_read_stops}
use Rattle.c65_parse_law_exact.proofs.Decls.{semicolon, is_semicolon}
use Rattle.c65_parse_law_exact.proofs.Declarations.{from_stops, empty_stops}
use Rattle.c65_parse_law_exact.proofs.Onward.{stop_then, stop_mapped, extended}
use Rattle.c65_parse_law_exact.proofs.Bodies.{empty_block, braces, braces_are}
use Rattle.c65_parse_law_exact.proofs.Functions.{top_of, Headed, FunctionGoes, FunctionTakes, function_stops}

abbrev ItemGoes : Scope → List Token → Going
ItemGoes sc zs n ys = Continues (item sc) item_depth n (zs ++ ys)

abbrev ItemTakes : ℕ → Scope → Blocks → List Token → Taking t.ItemTree
ItemTakes limit sc outer zs i scope ys = IsTaken (item sc) (λ i. after_item sc i ∷ outer) item_depth limit i scope (zs ++ ys)

-- the rest of an item is that of a declaration or of a definition
declaration_goes : (sc : Scope) (n : ℕ) (ys : List Token) → Continues (declaration sc) decl_depth n ys → Continues (item sc) item_depth n ys
declaration_goes sc n ys k = record { tree = t.declaration k.tree; more = k.more; derives = k.derives; within = k.within }

declaration_taken : (limit : ℕ) (sc : Scope) (outer : Blocks) (d : t.DeclTree) (scope : Blocks) (ys : List Token) → IsTaken (declaration sc) (λ d. after_decl sc d ∷ outer) decl_depth limit d scope ys → IsTaken (item sc) (λ i. after_item sc i ∷ outer) item_depth limit (t.declaration d) scope ys
declaration_taken limit sc outer d scope ys p = record { derives = p.derives; scope_is = p.scope_is; within = p.within; few = p.few }

definition_goes : (sc : Scope) (n : ℕ) (ys : List Token) → Continues (function sc) function_depth n ys → Continues (item sc) item_depth n ys
definition_goes sc n ys k = record { tree = t.definition k.tree; more = k.more; derives = k.derives; within = k.within }

definition_taken : (limit : ℕ) (sc : Scope) (outer : Blocks) (f : t.FunctionTree) (scope : Blocks) (ys : List Token) → IsTaken (function sc) (λ f. after_head sc f ∷ outer) function_depth limit f scope ys → IsTaken (item sc) (λ i. after_item sc i ∷ outer) item_depth limit (t.definition f) scope ys
definition_taken limit sc outer f scope ys p = record { derives = p.derives; scope_is = p.scope_is; within = p.within; few = p.few }

item_from_stops : (limit : ℕ) (sc : Scope) (outer : Blocks) (q : t.SpecifiersTree) (d : t.DeclaratorTree) (zs xs unit us ts : List Token) → 1 ≤ limit → Headed limit sc q d zs xs → FewTypes (top_of sc q d ∷ outer) → EndsIn ts → length ts ≤ length unit
    → Stop limit 0 0 0 (λ n ys. ItemGoes sc zs n (xs ++ ys)) (λ i scope ys. ItemTakes limit sc outer zs i scope (xs ++ ys)) (λ unit us ys. item_from limit unit q d (not (is_empty q)) (top_of sc q d ∷ outer) ys) unit us ts
item_from_stops limit sc outer q d zs xs unit us ts one h few ends fit =
    let goes : Going = λ n ys. ItemGoes sc zs n (xs ++ ys) in
    let takes : Taking t.ItemTree = λ i scope ys. ItemTakes limit sc outer zs i scope (xs ++ ys) in
    let scope = top_of sc q d ∷ outer in
    stop_if_first limit 0 0 0 goes takes (λ x. not (is_empty q) && goes_on (sign_of x.kind)) (λ unit us ys. declaration_item limit unit q d scope ys) (λ unit us ys. function_item limit unit q d scope ys) unit us ts
    (λ e. stop_mapped limit 0 0 0 (λ n ys. Continues (declaration sc) decl_depth n (zs ++ (xs ++ ys))) goes (λ e scope ys. IsTaken (declaration sc) (λ e. after_decl sc e ∷ outer) decl_depth limit e scope (zs ++ (xs ++ ys))) takes t.declaration (λ unit us ys. declaration_from limit unit q d scope ys) unit us ts (omega arith) ends
    (from_stops limit q sc outer d unit us ts zs xs one (head_some sc (declarator_start d) q zs (both_true (not (is_empty q)) (goes_on (sign_of (token_at ts 0).kind)) e).0 h.head) h.small h.name h.short few ends fit)
    (λ n ys high k. declaration_goes sc n (zs ++ (xs ++ ys)) k)
    (λ e scope ys rest are p. declaration_taken limit sc outer e scope (zs ++ (xs ++ ys)) p))
    (λ e. stop_mapped limit 0 0 0 (FunctionGoes sc zs xs) goes (FunctionTakes limit sc outer zs xs) takes t.definition (λ unit us ys. function_read limit unit q d scope ys) unit us ts (omega arith) ends
    (function_stops limit sc outer q d zs xs unit us ts one h few ends fit)
    (λ n ys high k. definition_goes sc n (zs ++ (xs ++ ys)) k)
    (λ f scope ys rest are p. definition_taken limit sc outer f scope (zs ++ (xs ++ ys)) p))

-- a declarator that was begun, behind specifiers or none: then a semicolon, or an empty body, would follow
abbrev declared_item_of : t.SpecifiersTree → t.DeclaratorTree → t.ItemTree
declared_item_of (t.specifiers k t.no_specifiers) d = t.definition (function_of (t.specifiers (declarator_start d) t.no_specifiers) d [] empty_block)
declared_item_of (t.specifiers k (t.and_specifier qs r)) d = t.declaration (record { specifiers = t.specifiers k (t.and_specifier qs r); declarators = record { declarator = d; init = None } ∷ [] })

abbrev declared_tail : t.SpecifiersTree → List Token
declared_tail (t.specifiers k t.no_specifiers) = braces
declared_tail (t.specifiers k (t.and_specifier qs r)) = semicolon ∷ []

declared_whole : (sc : Scope) (l : Pos) (q : t.SpecifiersTree) (d : t.DeclaratorTree) (zs xs : List Token) → head_specifiers sc l q zs → named_phrase (has_type q) (after_specifiers sc q) d xs → item sc (declared_item_of q d) (zs ++ (xs ++ declared_tail q))
declared_whole sc l (t.specifiers k t.no_specifiers) d zs xs p h = (zs, xs ++ braces, refl, (refl, p.1), (xs, braces, refl, h, ([], braces, refl, refl, (refl, braces_are (in_function (declared false sc d) d)))))
declared_whole sc l (t.specifiers k (t.and_specifier qs r)) d zs xs p h = (zs, xs ++ semicolon ∷ [], refl, p, (xs, semicolon ∷ [], refl, ([], xs, refl, refl, (xs, [], sym (append-nil xs), h, ([], [], refl, refl, refl))), is_semicolon))

declared_deep : (q : t.SpecifiersTree) (d : t.DeclaratorTree) (n : ℕ) → 1 ≤ n → specifiers_depth q ≤ n → declarator_depth d ≤ n → item_depth (declared_item_of q d) ≤ n
declared_deep (t.specifiers k t.no_specifiers) d n one small short = omega (arith, one, short)
declared_deep (t.specifiers k (t.and_specifier qs r)) d n one small short = omega (arith, small, short)

declared_goes : (sc : Scope) (l : Pos) (q : t.SpecifiersTree) (n : ℕ) (zs ys : List Token) → 1 ≤ n → head_specifiers sc l q zs → specifiers_depth q ≤ n → Continues (named_phrase (has_type q) (after_specifiers sc q)) declarator_depth n ys → ItemGoes sc zs n ys
declared_goes sc l q n zs ys one p small k = extended (named_phrase (has_type q) (after_specifiers sc q)) (item sc) declarator_depth item_depth n zs (declared_tail q) ys (declared_item_of q) (λ d us h. declared_whole sc l q d zs us p h) (λ d short. declared_deep q d n one small short) k

declared_stops : (limit : ℕ) (sc : Scope) (outer : Blocks) (q : t.SpecifiersTree) (all zs unit us ts : List Token) → 1 ≤ limit → all ≡ zs ++ ts → head_specifiers sc (pos_here all) q zs → specifiers_depth q ≤ limit → FewTypes (after_specifiers sc q ∷ outer) → EndsIn ts → length ts ≤ length unit
    → Stop limit 0 1 0 (ItemGoes sc zs) (ItemTakes limit sc outer zs) (λ unit us ys. declared_item limit unit q (after_specifiers sc q ∷ outer) ys) unit us ts
declared_stops limit sc outer q all zs unit us ts one are p small few ends fit =
    let inner = after_specifiers sc q in
    stop_then limit 1 0 1 0 0 (Continues (named_phrase (has_type q) inner) declarator_depth) (ItemGoes sc zs) (named_phrase (has_type q) inner) (λ d. declared (is_typedef q) inner d ∷ outer) declarator_depth (ItemTakes limit sc outer zs) (λ unit us ys. named_read limit (naming_of q) (inner ∷ outer) ys) (λ unit us d. item_from limit unit q d.0 (not (is_empty q)) d.2 d.1) unit us ts (omega arith) (omega arith) ends
    (named_read_stops limit q inner outer unit us ts one few ends)
    (λ n ys high k. declared_goes sc (pos_here all) q n zs ys (omega (arith, one, high)) p (omega (arith, small, high)) k)
    (λ d xs rest r short later also left shorter. item_from_stops limit sc outer q d zs xs unit us rest one (record { head = head_before sc q (g.named (has_type q)) inner d all zs xs rest (declarator_start d) refl (are ∙ ap (λ ys. zs ++ ys) also) r p; name = r; small = small; short = short }) later left (omega (arith, fit, shorter)))

-- specifiers that were begun: then a semicolon would follow
head_goes : (sc : Scope) (n : ℕ) (ys : List Token) → Continues (g.specifiers sc true) specifiers_depth n ys → Continues (item sc) item_depth n ys
head_goes sc n ys k = extended (g.specifiers sc true) (item sc) specifiers_depth item_depth n [] (semicolon ∷ []) ys (λ q. t.declaration (record { specifiers = q; declarators = [] })) (λ q us p. (us, semicolon ∷ [], refl, p, ([], semicolon ∷ [], refl, refl, is_semicolon))) (λ q small. omega (arith, small)) k

-- behind specifiers, or none
specified_stops : (limit : ℕ) (sc : Scope) (outer : Blocks) (q : t.SpecifiersTree) (all zs unit us ts : List Token) → 1 ≤ limit → all ≡ zs ++ ts → head_specifiers sc (pos_here all) q zs → specifiers_depth q ≤ limit → FewTypes (after_specifiers sc q ∷ outer) → EndsIn ts → length ts ≤ length unit
    → Stop limit 0 1 0 (ItemGoes sc zs) (ItemTakes limit sc outer zs) (λ unit us ys. behind_specifiers limit unit q (after_specifiers sc q ∷ outer) ys) unit us ts
specified_stops limit sc outer q all zs unit us ts one are p small few ends fit =
    let scope = after_specifiers sc q ∷ outer in
    stop_if_first limit 0 1 0 (ItemGoes sc zs) (ItemTakes limit sc outer zs) (λ x. not (is_empty q) && marks_it marks.Semicolon x) (λ unit us ys. empty_item q scope ys) (λ unit us ys. declared_item limit unit q scope ys) unit us ts
    (λ e. let two = both_true (not (is_empty q)) (marks_it marks.Semicolon (token_at ts 0)) e in
    stop_mapped limit 1 1 0 (λ n ys. Continues (declaration sc) decl_depth n (zs ++ ys)) (ItemGoes sc zs) (λ d inner ys. IsTaken (declaration sc) (λ d. after_decl sc d ∷ outer) decl_depth limit d inner (zs ++ ys)) (ItemTakes limit sc outer zs) t.declaration (λ unit us ys. Ok (empty_declaration q scope ys)) unit us ts (omega arith) ends
    (empty_stops limit q sc outer unit us ts zs two.1 (head_some sc (pos_here all) q zs two.0 p) small few ends)
    (λ n ys high k. declaration_goes sc n (zs ++ ys) k)
    (λ d inner ys rest also k. declaration_taken limit sc outer d inner (zs ++ ys) k))
    (λ e. declared_stops limit sc outer q all zs unit us ts one are p small few ends fit)

pub item_stops : (limit : ℕ) (sc : Scope) (outer : Blocks) (unit us ts : List Token) → 1 ≤ limit → FewTypes (sc ∷ outer) → EndsIn ts → length ts ≤ length unit
    → Stop limit 0 1 0 (Continues (item sc) item_depth) (IsTaken (item sc) (λ i. after_item sc i ∷ outer) item_depth limit) (λ unit us ys. item_read limit unit (sc ∷ outer) ys) unit us ts
item_stops limit sc outer unit us ts one few ends fit =
    stop_then limit 0 1 1 0 0 (Continues (g.specifiers sc true) specifiers_depth) (ItemGoes sc []) (head_specifiers sc (pos_here ts)) (λ q. after_specifiers sc q ∷ outer) specifiers_depth (ItemTakes limit sc outer []) (λ unit us ys. specifiers_read limit (sc ∷ outer) ys) (λ unit us q. behind_specifiers limit unit q.0 q.2 q.1) unit us ts (omega arith) (omega arith) ends
    (head_stops limit sc outer unit us ts one few ends)
    (λ n ys high k. head_goes sc n ys k)
    (λ q zs rest p small later are left shorter. specified_stops limit sc outer q ts zs unit us rest one are p small later left (omega (arith, fit, shorter)))
