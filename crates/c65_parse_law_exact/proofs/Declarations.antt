-- Declarations from their specifiers on (C90 6.5).
use Rattle.std.proofs.Common.{◌≡◌, ℕ, ◌+◌, ◌≤◌, List, [], ◌∷◌, ◌++◌, length, Bool, true, refl, sym, ap, ◌∙◌, subst, append_assoc, arith}
use Rattle.std.proofs.lemmas.List.{append-nil}
use Rattle.std.specs.Prelude.{Ok, if◌then◌else◌, ◌||◌, None}
use Rattle.c65_base.specs.Answers.{◌>>=◌}
use Rattle.c65_scan.specs.declared.token.Token.{Token}
use Rattle.c65_tree.specs.Trees as t
use Rattle.c65_tree.specs.Lists.{deepest}
use Rattle.c65_tree.specs.Depth.{specifiers_depth, declarator_depth, init_declarator_depth, decl_depth}
use Rattle.c65_parse_names.specs.Scopes.{Blocks}
use Rattle.c65_parse.specs.Reading.{Answer, token_at, specifiers_read}
use Rattle.c65_parse_frames.specs.declared.sign.Mark.TheVariants as marks
use Rattle.c65_parse_frames.specs.Signs.{sign_of}
use Rattle.c65_decl.specs.Words.{name_of, is_specifier}
use Rattle.c65_decl.specs.Here.{names_type, begins_specifiers}
use Rattle.c65_decl.specs.Declaring.{naming_of, named_read}
use Rattle.c65_decl.specs.Decls.{more_declared, declarators_run, declarators_read, declaration_from, empty_declaration, declarators_begun, behind_specifiers, declaration_read, with_decl, declarations_run, declarations_read}
use Rattle.c65_parse_grammar.specs.Parts.{has_type, is_typedef}
use Rattle.c65_parse_grammar.specs.Scopes.{Scope, after_specifiers, after_decl, after_decls, declared}
use Rattle.c65_parse_grammar.specs.Expressions as g
use Rattle.c65_parse_grammar.specs.Statements.{init_declarators, declaration, declarations}
use Rattle.c65_parse_grammar.specs.Readings.{Continues}
use Rattle.c65_parse_law_sound.proofs.Phrases.{both}
use Rattle.c65_parse_law_sound.proofs.Got.{EndsIn}
use Rattle.c65_parse_law_sound.proofs.Inits.{nil_behind}
use Rattle.c65_parse_law_sound.proofs.Declarations.{one_more, behind_more}
use Rattle.c65_parse_law_sound.proofs.Decls.{progress_front}
use Rattle.c65_parse_law_sound.proofs.Small.{one_deeper}
use Rattle.c65_parse_law_faults.proofs.Seq.{tail}
use Rattle.c65_parse_law_faults.proofs.Inits.{marks_it}
use Rattle.c65_parse_law_least.specs.Viable.{FewTypes}
use Rattle.c65_parse_law_exact.proofs.Pieces.{IsTaken, shorter}
use Rattle.c65_parse_law_exact.proofs.Stops.{Going, Taking, Stop, stop_done, stop_alike, stop_regrouped, stop_in_scope, stop_if_first, stop_past_mark, stop_seq, stop_tailed, stop_all_steps}
use Rattle.c65_parse_law_exact.proofs.Leaves.{specifiers_stop_here, named_phrase, named_read_stops}
use Rattle.c65_parse_law_exact.proofs.Decls.{Rest, rest_phrase, Listed, semicolon, is_semicolon, declared_goes, with_init, fits_with, deeper_still, run_stops}

-- the tokens of specifiers and of what stands behind them
abbrev Declared : Scope → Going
Declared sc = Continues (declaration sc) decl_depth

abbrev Read : (limit : ℕ) → Scope → Blocks → Taking t.DeclTree
Read limit sc outer = IsTaken (declaration sc) (λ d. after_decl sc d ∷ outer) decl_depth limit

behind_goes : (n : ℕ) (sc : Scope) (q : t.SpecifiersTree) (zs ys : List Token) → specifiers_depth q ≤ n → g.specifiers sc true q zs → Rest q (after_specifiers sc q) n ys → Declared sc n (zs ++ ys)
behind_goes n sc q zs ys deep p k = record { tree = record { specifiers = q; declarators = k.tree }; more = k.more; derives = (zs, ys ++ k.more, append_assoc zs ys k.more, p, k.derives); within = let rest = k.within in omega (arith, deep, rest) }

first_progress : (q : t.SpecifiersTree) (sc : Scope) (e : t.DeclaratorTree) (xs : List Token) → named_phrase (has_type q) sc e xs → progress_front q sc (more_declared [] e) xs
first_progress q sc e xs p = ([], xs, refl, refl, ([], xs, refl, refl, p))

-- a first declarator is one with a semicolon behind it
first_goes : (n : ℕ) (q : t.SpecifiersTree) (sc : Scope) (ys : List Token) → Continues (named_phrase (has_type q) sc) declarator_depth n ys → Rest q sc n ys
first_goes n q sc ys k = shorter (rest_phrase q sc) (deepest init_declarator_depth) n ys k.more
    (declared_goes n q sc (record { declarator = k.tree; init = None } ∷ []) (ys ++ k.more) (fits_with n [] k.tree None (omega arith) k.within (omega arith))
    (subst (init_declarators true q sc (record { declarator = k.tree; init = None } ∷ [])) (append-nil (ys ++ k.more)) (with_init q sc [] k.tree None (ys ++ k.more) [] (first_progress q sc k.tree (ys ++ k.more) k.derives) refl)))

specified_goes : (n : ℕ) (sc : Scope) (xs : List Token) → Continues (g.specifiers sc true) specifiers_depth n xs → Declared sc n xs
specified_goes n sc xs k = record { tree = record { specifiers = k.tree; declarators = [] }; more = k.more ++ semicolon ∷ []; derives = (xs ++ k.more, semicolon ∷ [], sym (append_assoc xs k.more (semicolon ∷ [])), k.derives, ([], semicolon ∷ [], refl, refl, is_semicolon)); within = let deep = k.within in omega (arith, deep) }

-- behind specifiers and a first declarator
pub from_stops : (limit : ℕ) (q : t.SpecifiersTree) (sc : Scope) (outer : Blocks) (e : t.DeclaratorTree) (unit us ts zs xs : List Token) → 1 ≤ limit → g.specifiers sc true q zs → specifiers_depth q ≤ limit → named_phrase (has_type q) (after_specifiers sc q) e xs → declarator_depth e ≤ limit → FewTypes (declared (is_typedef q) (after_specifiers sc q) e ∷ outer) → EndsIn ts → length ts ≤ length unit
    → Stop limit 0 0 0 (λ n ys. Continues (declaration sc) decl_depth n (zs ++ (xs ++ ys))) (λ d scope ys. IsTaken (declaration sc) (λ d. after_decl sc d ∷ outer) decl_depth limit d scope (zs ++ (xs ++ ys))) (λ unit us ys. declaration_from limit unit q e (declared (is_typedef q) (after_specifiers sc q) e ∷ outer) ys) unit us ts
from_stops limit q sc outer e unit us ts zs xs one p low h deep few ends fit =
    let inner : Scope = after_specifiers sc q in
    let scope : Blocks = declared (is_typedef q) inner e ∷ outer in
    stop_seq limit 0 0 0 0 0 0 0 (λ n ys. Rest q inner n (xs ++ ys)) (λ n ys. Declared sc n (zs ++ (xs ++ ys))) (λ ds s ys. Listed limit q inner outer ds s (xs ++ ys)) (λ d s ys. Read limit sc outer d s (zs ++ (xs ++ ys)))
    (λ unit us ys. declarators_read limit unit (naming_of q) e scope ys) (λ unit us ds. Ok (record { specifiers = q; declarators = ds.0 }, ds.1, ds.2)) unit us ts (omega arith) (omega arith) (omega arith) ends
    (stop_all_steps limit 0 0 (λ n ys. Rest q inner n (xs ++ ys)) (λ ds s ys. Listed limit q inner outer ds s (xs ++ ys)) (λ unit us ys. declarators_run limit unit (naming_of q) us [] e scope ys) unit us ts (run_stops limit q inner outer unit unit ts one ends fit fit [] e xs (omega arith) deep (first_progress q inner e xs h) few))
    (λ n ys less k. behind_goes n sc q zs (xs ++ ys) (omega (arith, low, less)) p k)
    (λ ds s ys rest k are left short. stop_done limit 0 0 (λ n vs. Declared sc n (zs ++ (xs ++ (ys ++ vs)))) (λ d inner vs. Read limit sc outer d inner (zs ++ (xs ++ (ys ++ vs)))) (record { specifiers = q; declarators = ds }) s unit us rest left
    (record { derives = (zs, xs ++ (ys ++ []), refl, p, subst (λ v. rest_phrase q inner ds (xs ++ v)) (sym (append-nil ys)) k.derives); scope_is = k.scope_is; within = let rest = k.within in omega (arith, low, rest); few = k.few }))

begun_stops : (limit : ℕ) (q : t.SpecifiersTree) (sc : Scope) (outer : Blocks) (unit us ts zs : List Token) → 1 ≤ limit → g.specifiers sc true q zs → specifiers_depth q ≤ limit → FewTypes (after_specifiers sc q ∷ outer) → EndsIn ts → length ts ≤ length unit
    → Stop limit 0 1 0 (λ n ys. Declared sc n (zs ++ ys)) (λ d scope ys. Read limit sc outer d scope (zs ++ ys)) (λ unit us ys. declarators_begun limit unit q (after_specifiers sc q ∷ outer) ys) unit us ts
begun_stops limit q sc outer unit us ts zs one p low few ends fit =
    let inner : Scope = after_specifiers sc q in
    stop_seq limit 0 0 1 0 1 0 0 (Continues (named_phrase (has_type q) inner) declarator_depth) (λ n ys. Declared sc n (zs ++ ys)) (IsTaken (named_phrase (has_type q) inner) (λ d. declared (is_typedef q) inner d ∷ outer) declarator_depth limit) (λ d s ys. Read limit sc outer d s (zs ++ ys))
    (λ unit us ys. named_read limit (naming_of q) (inner ∷ outer) ys) (λ unit us e. declaration_from limit unit q e.0 e.2 e.1) unit us ts (omega arith) (omega arith) (omega arith) ends (named_read_stops limit q inner outer unit us ts one few ends)
    (λ n ys less k. behind_goes n sc q zs ys (omega (arith, low, less)) p (first_goes n q inner ys k))
    (λ e s xs rest k are left short. stop_in_scope limit 0 0 0 (λ n vs. Declared sc n (zs ++ (xs ++ vs))) (λ d inner vs. Read limit sc outer d inner (zs ++ (xs ++ vs))) (λ s unit us vs. declaration_from limit unit q e s vs) unit us rest s (declared (is_typedef q) inner e ∷ outer) k.scope_is
    (from_stops limit q sc outer e unit us rest zs xs one p low k.derives k.within (subst FewTypes k.scope_is k.few) left (omega (arith, fit, short))))

-- without declarators
pub empty_stops : (limit : ℕ) (q : t.SpecifiersTree) (sc : Scope) (outer : Blocks) (unit us ts zs : List Token) → marks_it marks.Semicolon (token_at ts 0) ≡ true → g.specifiers sc true q zs → specifiers_depth q ≤ limit → FewTypes (after_specifiers sc q ∷ outer) → EndsIn ts
    → Stop limit 0 1 0 (λ n ys. Continues (declaration sc) decl_depth n (zs ++ ys)) (λ d scope ys. IsTaken (declaration sc) (λ d. after_decl sc d ∷ outer) decl_depth limit d scope (zs ++ ys)) (λ unit us ys. Ok (empty_declaration q (after_specifiers sc q ∷ outer) ys)) unit us ts
empty_stops limit q sc outer unit us ts zs e p low few ends = stop_past_mark limit 0 0 1 (λ n ys. Declared sc n (zs ++ ys)) (λ d s ys. Read limit sc outer d s (zs ++ ys)) marks.Semicolon (λ unit us ys. Ok (record { specifiers = q; declarators = [] }, ys, after_specifiers sc q ∷ outer)) unit us ts (omega arith) refl e ends
    (λ first m short. stop_done limit 0 0 (λ n ys. Declared sc n (zs ++ first.tok ∷ ys)) (λ d s ys. Read limit sc outer d s (zs ++ first.tok ∷ ys)) (record { specifiers = q; declarators = [] }) (after_specifiers sc q ∷ outer) unit us first.rest first.ends
    (record { derives = (zs, first.tok ∷ [], refl, p, ([], first.tok ∷ [], refl, refl, m)); scope_is = refl; within = omega (arith, low); few = few }))

specified_stops : (limit : ℕ) (q : t.SpecifiersTree) (sc : Scope) (outer : Blocks) (unit us ts zs : List Token) → 1 ≤ limit → g.specifiers sc true q zs → specifiers_depth q ≤ limit → FewTypes (after_specifiers sc q ∷ outer) → EndsIn ts → length ts ≤ length unit
    → Stop limit 0 1 0 (λ n ys. Declared sc n (zs ++ ys)) (λ d scope ys. Read limit sc outer d scope (zs ++ ys)) (λ unit us ys. behind_specifiers limit unit q (after_specifiers sc q ∷ outer) ys) unit us ts
specified_stops limit q sc outer unit us ts zs one p low few ends fit =
    let scope : Blocks = after_specifiers sc q ∷ outer in
    stop_if_first limit 0 1 0 (λ n ys. Declared sc n (zs ++ ys)) (λ d s ys. Read limit sc outer d s (zs ++ ys)) (marks_it marks.Semicolon) (λ unit us ys. Ok (empty_declaration q scope ys)) (λ unit us ys. declarators_begun limit unit q scope ys) unit us ts
    (λ e. empty_stops limit q sc outer unit us ts zs e p low few ends)
    (λ e. begun_stops limit q sc outer unit us ts zs one p low few ends fit)

pub declaration_stops : (limit : ℕ) (sc : Scope) (outer : Blocks) (unit us ts : List Token) → 1 ≤ limit → FewTypes (sc ∷ outer) → begins_specifiers (sc ∷ outer) ts ≡ true → EndsIn ts → length ts ≤ length unit
    → Stop limit 0 1 0 (Continues (declaration sc) decl_depth) (IsTaken (declaration sc) (λ d. after_decl sc d ∷ outer) decl_depth limit) (λ unit us ys. declaration_read limit unit (sc ∷ outer) ys) unit us ts
declaration_stops limit sc outer unit us ts one few begins ends fit = stop_seq limit 0 0 1 1 1 0 0 (Continues (g.specifiers sc true) specifiers_depth) (Declared sc) (IsTaken (g.specifiers sc true) (λ q. after_specifiers sc q ∷ outer) specifiers_depth limit) (Read limit sc outer)
    (λ unit us ys. specifiers_read limit (sc ∷ outer) ys) (λ unit us q. behind_specifiers limit unit q.0 q.2 q.1) unit us ts (omega arith) (omega arith) (omega arith) ends (specifiers_stop_here limit sc outer unit us ts one few begins ends)
    (λ n xs less k. specified_goes n sc xs k)
    (λ q s zs rest k are left short. stop_in_scope limit 0 1 0 (λ n ys. Declared sc n (zs ++ ys)) (λ d inner ys. Read limit sc outer d inner (zs ++ ys)) (λ s unit us ys. behind_specifiers limit unit q s ys) unit us rest s (after_specifiers sc q ∷ outer) k.scope_is
    (specified_stops limit q sc outer unit us rest zs one k.derives k.within (subst FewTypes k.scope_is k.few) left (omega (arith, fit, short))))

-- declarations as long as they begin
abbrev begins_it : Blocks → Token → Bool
begins_it scope x = is_specifier (sign_of x.kind) || names_type scope (name_of (sign_of x.kind))

abbrev again_read : (limit : ℕ) → List t.DeclTree → Blocks → List Token → List Token → List Token → Answer (List t.DeclTree)
again_read limit ds scope unit us ys = declaration_read limit unit scope ys >>= (λ e. declarations_run limit unit (tail us) (with_decl ds e.0) e.2 e.1)

unrolled : (limit : ℕ) (ds : List t.DeclTree) (scope : Blocks) (unit us ys : List Token) → 0 + 1 ≤ length us → declarations_run limit unit us ds scope ys ≡ (if begins_it scope (token_at ys 0) then again_read limit ds scope unit us ys else Ok (ds, ys, scope))
unrolled limit ds scope unit [] ys h = absurd (omega (arith, h))
unrolled limit ds scope unit (u ∷ us) ys h = refl

abbrev Many : Scope → Going
Many sc = Continues (declarations sc) (deepest decl_depth)

abbrev ManyRead : (limit : ℕ) → Scope → Blocks → Taking (List t.DeclTree)
ManyRead limit sc outer = IsTaken (declarations sc) (λ ds. after_decls sc ds ∷ outer) (deepest decl_depth) limit

-- one more of them
one_goes : (n : ℕ) (sc : Scope) (ds : List t.DeclTree) (xs ys : List Token) → deepest decl_depth ds ≤ n → declarations sc ds xs → Declared (after_decls sc ds) n ys → Many sc n (xs ++ ys)
one_goes n sc ds xs ys fit p k = record { tree = with_decl ds k.tree; more = k.more; derives = subst (declarations sc (with_decl ds k.tree)) (sym (append_assoc xs ys k.more)) (one_more sc ds k.tree (xs ++ (ys ++ k.more)) (both xs (ys ++ k.more) p k.derives)); within = one_deeper n decl_depth ds k.tree fit k.within }

abbrev OnesStop : (limit : ℕ) → Scope → Blocks → List Token → List Token → List Token → Type 0
OnesStop limit sc outer unit us ts = (ds : List t.DeclTree) (xs : List Token) → deepest decl_depth ds ≤ limit → declarations sc ds xs → FewTypes (after_decls sc ds ∷ outer)
    → Stop limit 0 0 0 (λ n ys. Many sc n (xs ++ ys)) (λ es scope ys. ManyRead limit sc outer es scope (xs ++ ys)) (λ unit us ys. declarations_run limit unit us ds (after_decls sc ds ∷ outer) ys) unit us ts

again_stops : (limit : ℕ) (sc : Scope) (outer : Blocks) (unit : List Token) (u : Token) (us ts : List Token) (ds : List t.DeclTree) (xs : List Token) → 1 ≤ limit → deepest decl_depth ds ≤ limit → declarations sc ds xs → FewTypes (after_decls sc ds ∷ outer) → begins_specifiers (after_decls sc ds ∷ outer) ts ≡ true → EndsIn ts → length ts ≤ length unit
    → ((rest : List Token) → EndsIn rest → 1 + length rest ≤ length ts → OnesStop limit sc outer unit us rest)
    → Stop limit 0 0 0 (λ n ys. Many sc n (xs ++ ys)) (λ es scope ys. ManyRead limit sc outer es scope (xs ++ ys)) (again_read limit ds (after_decls sc ds ∷ outer)) unit (u ∷ us) ts
again_stops limit sc outer unit u us ts ds xs one fit p few begins ends all f =
    let inner : Scope = after_decls sc ds in
    stop_seq limit 0 0 1 0 0 0 1 (Declared inner) (λ n ys. Many sc n (xs ++ ys)) (Read limit inner outer) (λ es s ys. ManyRead limit sc outer es s (xs ++ ys)) (λ unit us ys. declaration_read limit unit (inner ∷ outer) ys) (λ unit us e. declarations_run limit unit (tail us) (with_decl ds e.0) e.2 e.1) unit (u ∷ us) ts (omega arith) (omega arith) (omega arith) ends
    (declaration_stops limit inner outer unit (u ∷ us) ts one few begins ends all)
    (λ n ys low k. one_goes n sc ds xs ys (deeper_still decl_depth limit n ds low fit) p k)
    (λ d s ys rest k are left short.
    let there : s ≡ after_decls sc (with_decl ds d) ∷ outer = k.scope_is ∙ ap (λ b. b ∷ outer) (behind_more sc ds d) in
    stop_tailed limit 0 0 (λ n vs. Many sc n (xs ++ (ys ++ vs))) (λ es r vs. ManyRead limit sc outer es r (xs ++ (ys ++ vs))) (λ unit us vs. declarations_run limit unit us (with_decl ds d) s vs) unit u us rest
    (stop_in_scope limit 0 0 0 (λ n vs. Many sc n (xs ++ (ys ++ vs))) (λ es r vs. ManyRead limit sc outer es r (xs ++ (ys ++ vs))) (λ r unit us vs. declarations_run limit unit us (with_decl ds d) r vs) unit us rest s (after_decls sc (with_decl ds d) ∷ outer) there
    (stop_regrouped limit 0 0 0 (Many sc) (ManyRead limit sc outer) (λ unit us vs. declarations_run limit unit us (with_decl ds d) (after_decls sc (with_decl ds d) ∷ outer) vs) unit us rest xs ys
    (f rest left short (with_decl ds d) (xs ++ ys) (one_deeper limit decl_depth ds d fit k.within) (one_more sc ds d (xs ++ ys) (both xs ys p k.derives)) (subst FewTypes there k.few)))))

ones_stop : (limit : ℕ) (sc : Scope) (outer : Blocks) (unit us ts : List Token) → 1 ≤ limit → EndsIn ts → length ts ≤ length us → length ts ≤ length unit → OnesStop limit sc outer unit us ts
ones_stop limit sc outer unit us [] one ends enough all ds xs fit p few = absurd ends
ones_stop limit sc outer unit [] (x ∷ ts) one ends enough all ds xs fit p few = absurd (omega (arith, enough))
ones_stop limit sc outer unit (u ∷ us) (x ∷ ts) one ends enough all ds xs fit p few =
    let scope : Blocks = after_decls sc ds ∷ outer in
    let goes : Going = λ n ys. Many sc n (xs ++ ys) in
    let takes : Taking (List t.DeclTree) = λ es s ys. ManyRead limit sc outer es s (xs ++ ys) in
    stop_alike limit 0 0 0 goes takes (λ unit us ys. if begins_it scope (token_at ys 0) then again_read limit ds scope unit us ys else Ok (ds, ys, scope)) (λ unit us ys. declarations_run limit unit us ds scope ys) (x ∷ ts) (declarations_run limit unit (u ∷ us) ds scope (x ∷ ts)) (unrolled limit ds scope)
    (stop_if_first limit 0 0 0 goes takes (begins_it scope) (again_read limit ds scope) (λ unit us ys. Ok (ds, ys, scope)) unit (u ∷ us) (x ∷ ts)
    (λ e. again_stops limit sc outer unit u us (x ∷ ts) ds xs one fit p few e ends all (λ rest left short. ones_stop limit sc outer unit us rest one left (omega (arith, enough, short)) (omega (arith, all, short))))
    (λ e. stop_done limit 0 0 goes takes ds scope unit (u ∷ us) (x ∷ ts) ends (record { derives = nil_behind (declarations sc ds) xs p; scope_is = refl; within = fit; few = few })))

pub declarations_stop : (limit : ℕ) (sc : Scope) (outer : Blocks) (unit us ts : List Token) → 1 ≤ limit → FewTypes (sc ∷ outer) → EndsIn ts → length ts ≤ length unit
    → Stop limit 0 0 0 (Continues (declarations sc) (deepest decl_depth)) (IsTaken (declarations sc) (λ ds. after_decls sc ds ∷ outer) (deepest decl_depth) limit) (λ unit us ys. declarations_read limit unit (sc ∷ outer) ys) unit us ts
declarations_stop limit sc outer unit us ts one few ends fit = stop_all_steps limit 0 0 (Many sc) (ManyRead limit sc outer) (λ unit us ys. declarations_run limit unit us [] (sc ∷ outer) ys) unit us ts (ones_stop limit sc outer unit unit ts one ends fit fit [] [] (omega arith) refl few)
