-- Declarations (C90 6.5).
use Rattle.std.proofs.Common.{◌≡◌, ℕ, ◌+◌, ◌≤◌, List, [], ◌∷◌, ◌++◌, length, true, false, refl, sym, ap, ◌∙◌, subst, append_assoc, arith}
use Rattle.std.proofs.lemmas.List.{append-nil}
use Rattle.std.specs.Prelude.{Ok, Option, None}
use Rattle.c65_base.specs.Answers.{◌>>=◌}
use Rattle.c65_scan.specs.declared.token.Punct.TheVariants as puncts
use Rattle.c65_scan.specs.declared.token.Token.{Token}
use Rattle.c65_scan.specs.declared.token.TokenKind.TheVariants as kinds
use Rattle.c65_tree.specs.Trees as t
use Rattle.c65_tree.specs.Lists.{of_option, deepest}
use Rattle.c65_tree.specs.Depth.{declarator_depth, init_depth, init_declarator_depth}
use Rattle.c65_parse_names.specs.Scopes.{Blocks}
use Rattle.c65_parse.specs.Reading.{after_token}
use Rattle.c65_parse_frames.specs.declared.sign.Mark.TheVariants as marks
use Rattle.c65_decl.specs.Declaring.{naming_of, named_read}
use Rattle.c65_decl.specs.Initialisers.{optional_init_read}
use Rattle.c65_decl.specs.Decls.{Progress, all_declared, more_declared, with_declarator, last_declarator, next_declarator, behind_declarator, declarators_step, declarators_next, declarators_run}
use Rattle.c65_parse_grammar.specs.Phrases.{Phrase, ◌▸◌, token, some_mark}
use Rattle.c65_parse_grammar.specs.Parts.{has_type, is_typedef}
use Rattle.c65_parse_grammar.specs.Scopes.{Scope, after_maybe_init, after_declarators, declared}
use Rattle.c65_parse_grammar.specs.Statements.{optional_init, init_declarators}
use Rattle.c65_parse_grammar.specs.Readings.{Continues}
use Rattle.c65_parse_law_sound.proofs.Phrases.{regroup, map_right, attach}
use Rattle.c65_parse_law_sound.proofs.Members.{comma_after}
use Rattle.c65_parse_law_sound.proofs.Got.{EndsIn}
use Rattle.c65_parse_law_sound.proofs.Inits.{nil_behind}
use Rattle.c65_parse_law_sound.proofs.Decls.{still_first, behind_one, one_more, behind_more, progress_front, progress_behind}
use Rattle.c65_parse_law_sound.proofs.Small.{one_deeper}
use Rattle.c65_parse_law_faults.proofs.Seq.{tail}
use Rattle.c65_parse_law_faults.proofs.Inits.{marks_it}
use Rattle.c65_parse_law_least.specs.Viable.{FewTypes}
use Rattle.c65_parse_law_exact.proofs.Pieces.{IsTaken, shorter}
use Rattle.c65_parse_law_exact.proofs.Stops.{Going, Taking, Stop, stop_done, stop_alike, stop_regrouped, stop_in_scope, stop_if_first, stop_past_mark, mark_taken, stop_seq, stop_mark, stop_tailed}
use Rattle.c65_parse_law_exact.proofs.Leaves.{named_phrase, named_read_stops}
use Rattle.c65_parse_law_exact.proofs.Inits.{optional_init_stops}

abbrev ProgressFits : (limit : ℕ) → Progress → Type 0
ProgressFits limit (all_declared ds) = deepest init_declarator_depth ds ≤ limit
ProgressFits limit (more_declared ds e) = (deepest init_declarator_depth ds ≤ limit) × (declarator_depth e ≤ limit)

record IsProgress (limit : ℕ) (q : t.SpecifiersTree) (sc : Scope) (outer : Blocks) (r : Progress) (scope : Blocks) (xs : List Token) : Type 0 where
  pub front : progress_front q sc r xs
  pub scope_is : scope ≡ progress_behind q sc outer r
  pub fits : ProgressFits limit r
  pub few : FewTypes scope

-- the declarators behind these specifiers, and the semicolon
abbrev pub rest_phrase : t.SpecifiersTree → Scope → List t.InitDeclaratorTree → Phrase
rest_phrase q sc ds = init_declarators true q sc ds ▸ some_mark puncts.Semicolon

abbrev pub Rest : t.SpecifiersTree → Scope → Going
Rest q sc = Continues (rest_phrase q sc) (deepest init_declarator_depth)

abbrev pub semicolon : Token
semicolon = token (kinds.Punct puncts.Semicolon) (record { file = 0; line = 1 })

pub is_semicolon : some_mark puncts.Semicolon (semicolon ∷ [])
is_semicolon = (record { file = 0; line = 1 }, refl)

-- a semicolon behind declarators
pub declared_goes : (n : ℕ) (q : t.SpecifiersTree) (sc : Scope) (ds : List t.InitDeclaratorTree) (xs : List Token) → deepest init_declarator_depth ds ≤ n → init_declarators true q sc ds xs → Rest q sc n xs
declared_goes n q sc ds xs fit p = record { tree = ds; more = semicolon ∷ []; derives = (xs, semicolon ∷ [], refl, p, is_semicolon); within = fit }

-- a declarator whose initialiser may follow
pub with_init : (q : t.SpecifiersTree) (sc : Scope) (ds : List t.InitDeclaratorTree) (e : t.DeclaratorTree) (i : Option t.InitTree) (xs ys : List Token) → progress_front q sc (more_declared ds e) xs → optional_init (declared (is_typedef q) (after_declarators (is_typedef q) sc ds) e) i ys → init_declarators true q sc (with_declarator ds e i) (xs ++ ys)
with_init q sc ds e i xs ys h p = one_more q ds true sc e i (xs ++ ys) (map_right (λ zs r. regroup r) (attach xs ys h p))

pub fits_with : (n : ℕ) (ds : List t.InitDeclaratorTree) (e : t.DeclaratorTree) (i : Option t.InitTree) → deepest init_declarator_depth ds ≤ n → declarator_depth e ≤ n → of_option init_depth i ≤ n → deepest init_declarator_depth (with_declarator ds e i) ≤ n
fits_with n ds e i fit deep low = one_deeper n init_declarator_depth ds (record { declarator = e; init = i }) fit (omega (arith, deep, low))

init_goes : (n : ℕ) (q : t.SpecifiersTree) (sc : Scope) (ds : List t.InitDeclaratorTree) (e : t.DeclaratorTree) (xs ys : List Token) → deepest init_declarator_depth ds ≤ n → declarator_depth e ≤ n → progress_front q sc (more_declared ds e) xs → Continues (optional_init (declared (is_typedef q) (after_declarators (is_typedef q) sc ds) e)) (of_option init_depth) n ys → Rest q sc n (xs ++ ys)
init_goes n q sc ds e xs ys fit deep h k = shorter (rest_phrase q sc) (deepest init_declarator_depth) n (xs ++ ys) k.more
    (declared_goes n q sc (with_declarator ds e k.tree) ((xs ++ ys) ++ k.more) (fits_with n ds e k.tree fit deep k.within) (subst (init_declarators true q sc (with_declarator ds e k.tree)) (sym (append_assoc xs ys k.more)) (with_init q sc ds e k.tree xs (ys ++ k.more) h k.derives)))

-- one more declarator behind a comma
next_is : (q : t.SpecifiersTree) (sc : Scope) (ds : List t.InitDeclaratorTree) (e : t.DeclaratorTree) (tok : Token) (xs ys : List Token) → still_first true ds ≡ false → init_declarators true q sc ds xs → some_mark puncts.Comma (tok ∷ []) → named_phrase (has_type q) (after_declarators (is_typedef q) sc ds) e ys → progress_front q sc (more_declared ds e) (xs ++ (tok ∷ ys))
next_is q sc ds e tok xs ys later h m p = (xs, tok ∷ ys, refl, h, (tok ∷ [], ys, refl, comma_after (still_first true ds) tok later m, p))

next_goes : (n : ℕ) (q : t.SpecifiersTree) (sc : Scope) (ds : List t.InitDeclaratorTree) (tok : Token) (xs ys : List Token) → still_first true ds ≡ false → deepest init_declarator_depth ds ≤ n → init_declarators true q sc ds xs → some_mark puncts.Comma (tok ∷ []) → Continues (named_phrase (has_type q) (after_declarators (is_typedef q) sc ds)) declarator_depth n ys → Rest q sc n (xs ++ (tok ∷ ys))
next_goes n q sc ds tok xs ys later fit h m k = shorter (rest_phrase q sc) (deepest init_declarator_depth) n (xs ++ (tok ∷ ys)) k.more
    (declared_goes n q sc (with_declarator ds k.tree None) ((xs ++ (tok ∷ ys)) ++ k.more) (fits_with n ds k.tree None fit k.within (omega arith))
    (subst (init_declarators true q sc (with_declarator ds k.tree None)) (append-nil ((xs ++ (tok ∷ ys)) ++ k.more))
    (with_init q sc ds k.tree None ((xs ++ (tok ∷ ys)) ++ k.more) [] (subst (progress_front q sc (more_declared ds k.tree)) (sym (append_assoc xs (tok ∷ ys) k.more)) (next_is q sc ds k.tree tok xs (ys ++ k.more) later h m k.derives)) refl)))

pub deeper_still : {A : Type 0} (f : A → ℕ) (n m : ℕ) (xs : List A) → n ≤ m → deepest f xs ≤ n → deepest f xs ≤ m
deeper_still f n m xs low h = omega (arith, low, h)

next_stops : (limit : ℕ) (q : t.SpecifiersTree) (sc : Scope) (outer : Blocks) (ds : List t.InitDeclaratorTree) (tok : Token) (unit us ts xs : List Token) → 1 ≤ limit → still_first true ds ≡ false → deepest init_declarator_depth ds ≤ limit → init_declarators true q sc ds xs → some_mark puncts.Comma (tok ∷ []) → FewTypes (after_declarators (is_typedef q) sc ds ∷ outer) → EndsIn ts
    → Stop limit 0 1 0 (λ n ys. Rest q sc n (xs ++ (tok ∷ ys))) (λ r scope ys. IsProgress limit q sc outer r scope (xs ++ (tok ∷ ys))) (λ unit us ys. next_declarator limit (naming_of q) ds (after_declarators (is_typedef q) sc ds ∷ outer) ys) unit us ts
next_stops limit q sc outer ds tok unit us ts xs one later fit h m few ends =
    let inner : Scope = after_declarators (is_typedef q) sc ds in
    stop_seq limit 0 0 1 0 1 0 0 (Continues (named_phrase (has_type q) inner) declarator_depth) (λ n ys. Rest q sc n (xs ++ (tok ∷ ys))) (IsTaken (named_phrase (has_type q) inner) (λ d. declared (is_typedef q) inner d ∷ outer) declarator_depth limit) (λ r scope ys. IsProgress limit q sc outer r scope (xs ++ (tok ∷ ys)))
    (λ unit us ys. named_read limit (naming_of q) (inner ∷ outer) ys) (λ unit us e. Ok (more_declared ds e.0, e.1, e.2)) unit us ts (omega arith) (omega arith) (omega arith) ends (named_read_stops limit q inner outer unit us ts one few ends)
    (λ n ys low k. next_goes n q sc ds tok xs ys later (deeper_still init_declarator_depth limit n ds low fit) h m k)
    (λ e scope ys rest k are left short. stop_done limit 0 0 (λ n zs. Rest q sc n (xs ++ (tok ∷ (ys ++ zs)))) (λ r s zs. IsProgress limit q sc outer r s (xs ++ (tok ∷ (ys ++ zs)))) (more_declared ds e) scope unit us rest left
    (record { front = next_is q sc ds e tok xs (ys ++ []) later h m (nil_behind (named_phrase (has_type q) inner e) ys k.derives); scope_is = k.scope_is; fits = (fit, k.within); few = k.few }))

behind_stops : (limit : ℕ) (q : t.SpecifiersTree) (sc : Scope) (outer : Blocks) (ds : List t.InitDeclaratorTree) (unit us ts xs : List Token) → 1 ≤ limit → still_first true ds ≡ false → deepest init_declarator_depth ds ≤ limit → init_declarators true q sc ds xs → FewTypes (after_declarators (is_typedef q) sc ds ∷ outer) → EndsIn ts
    → Stop limit 0 1 0 (λ n ys. Rest q sc n (xs ++ ys)) (λ r scope ys. IsProgress limit q sc outer r scope (xs ++ ys)) (λ unit us ys. behind_declarator limit (naming_of q) ds (after_declarators (is_typedef q) sc ds ∷ outer) ys) unit us ts
behind_stops limit q sc outer ds unit us ts xs one later fit h few ends =
    let scope : Blocks = after_declarators (is_typedef q) sc ds ∷ outer in
    let goes : Going = λ n ys. Rest q sc n (xs ++ ys) in
    let takes : Taking Progress = λ r s ys. IsProgress limit q sc outer r s (xs ++ ys) in
    stop_if_first limit 0 1 0 goes takes (marks_it marks.Comma) (λ unit us ys. next_declarator limit (naming_of q) ds scope (after_token ys)) (λ unit us ys. last_declarator ds scope ys) unit us ts
    (λ e. stop_past_mark limit 0 1 1 goes takes marks.Comma (λ unit us ys. next_declarator limit (naming_of q) ds scope ys) unit us ts (omega arith) refl e ends
    (λ first m short. next_stops limit q sc outer ds first.tok unit us first.rest xs one later fit h m few first.ends))
    (λ e. stop_mark limit 0 0 1 goes takes marks.Semicolon scope (λ a. Ok (all_declared ds, a.0, a.1)) unit us ts refl (omega arith) ends (nil_behind (Rest q sc limit) xs (declared_goes limit q sc ds xs fit h))
    (λ tok rest m left. stop_done limit 0 0 (λ n ys. goes n (tok ∷ ys)) (λ r s ys. takes r s (tok ∷ ys)) (all_declared ds) scope unit us rest left
    (record { front = (xs, tok ∷ [], refl, h, mark_taken marks.Semicolon tok rest refl m left); scope_is = refl; fits = fit; few = few })))

step_stops : (limit : ℕ) (q : t.SpecifiersTree) (sc : Scope) (outer : Blocks) (ds : List t.InitDeclaratorTree) (e : t.DeclaratorTree) (unit us ts xs : List Token) → 1 ≤ limit → deepest init_declarator_depth ds ≤ limit → declarator_depth e ≤ limit → progress_front q sc (more_declared ds e) xs → FewTypes (declared (is_typedef q) (after_declarators (is_typedef q) sc ds) e ∷ outer) → EndsIn ts → length ts ≤ length unit
    → Stop limit 0 1 0 (λ n ys. Rest q sc n (xs ++ ys)) (λ r scope ys. IsProgress limit q sc outer r scope (xs ++ ys)) (λ unit us ys. declarators_step limit unit (naming_of q) ds e (declared (is_typedef q) (after_declarators (is_typedef q) sc ds) e ∷ outer) ys) unit us ts
step_stops limit q sc outer ds e unit us ts xs one fit deep h few ends enough =
    let inner : Scope = declared (is_typedef q) (after_declarators (is_typedef q) sc ds) e in
    stop_seq limit 0 0 0 1 1 0 0 (Continues (optional_init inner) (of_option init_depth)) (λ n ys. Rest q sc n (xs ++ ys)) (IsTaken (optional_init inner) (λ o. after_maybe_init inner o ∷ outer) (of_option init_depth) limit) (λ r s ys. IsProgress limit q sc outer r s (xs ++ ys))
    (λ unit us ys. optional_init_read limit unit (inner ∷ outer) ys) (λ unit us i. behind_declarator limit (naming_of q) (with_declarator ds e i.0) i.2 i.1) unit us ts (omega arith) (omega arith) (omega arith) ends (optional_init_stops limit inner outer unit us ts one few ends enough)
    (λ n ys low k. init_goes n q sc ds e xs ys (deeper_still init_declarator_depth limit n ds low fit) (omega (arith, deep, low)) h k)
    (λ i scope ys rest k are left short.
    let there : scope ≡ after_declarators (is_typedef q) sc (with_declarator ds e i) ∷ outer = k.scope_is ∙ ap (λ b. b ∷ outer) (behind_more (is_typedef q) ds sc e i) in
    stop_in_scope limit 0 1 0 (λ n zs. Rest q sc n (xs ++ (ys ++ zs))) (λ r s zs. IsProgress limit q sc outer r s (xs ++ (ys ++ zs))) (λ s unit us zs. behind_declarator limit (naming_of q) (with_declarator ds e i) s zs) unit us rest scope (after_declarators (is_typedef q) sc (with_declarator ds e i) ∷ outer) there
    (stop_regrouped limit 0 1 0 (Rest q sc) (IsProgress limit q sc outer) (λ unit us zs. behind_declarator limit (naming_of q) (with_declarator ds e i) (after_declarators (is_typedef q) sc (with_declarator ds e i) ∷ outer) zs) unit us rest xs ys
    (behind_stops limit q sc outer (with_declarator ds e i) unit us rest (xs ++ ys) one (behind_one true ds (record { declarator = e; init = i })) (fits_with limit ds e i fit deep k.within) (with_init q sc ds e i xs ys h k.derives) (subst FewTypes there k.few) left)))

unrolled : (limit : ℕ) (q : t.SpecifiersTree) (ds : List t.InitDeclaratorTree) (e : t.DeclaratorTree) (scope : Blocks) (unit us ys : List Token) → 0 + 1 ≤ length us → declarators_run limit unit (naming_of q) us ds e scope ys ≡ (declarators_step limit unit (naming_of q) ds e scope ys >>= declarators_next (declarators_run limit unit (naming_of q) (tail us)))
unrolled limit q ds e scope unit [] ys h = absurd (omega (arith, h))
unrolled limit q ds e scope unit (u ∷ us) ys h = refl

abbrev pub Listed : (limit : ℕ) → t.SpecifiersTree → Scope → Blocks → Taking (List t.InitDeclaratorTree)
Listed limit q sc outer = IsTaken (rest_phrase q sc) (λ ds. after_declarators (is_typedef q) sc ds ∷ outer) (deepest init_declarator_depth) limit

abbrev pub RunStops : (limit : ℕ) → t.SpecifiersTree → Scope → Blocks → List Token → List Token → List Token → Type 0
RunStops limit q sc outer unit us ts = (ds : List t.InitDeclaratorTree) (e : t.DeclaratorTree) (xs : List Token) → deepest init_declarator_depth ds ≤ limit → declarator_depth e ≤ limit → progress_front q sc (more_declared ds e) xs → FewTypes (declared (is_typedef q) (after_declarators (is_typedef q) sc ds) e ∷ outer)
    → Stop limit 0 0 0 (λ n ys. Rest q sc n (xs ++ ys)) (λ fs scope ys. Listed limit q sc outer fs scope (xs ++ ys)) (λ unit us ys. declarators_run limit unit (naming_of q) us ds e (declared (is_typedef q) (after_declarators (is_typedef q) sc ds) e ∷ outer) ys) unit us ts

more_stops : (limit : ℕ) (q : t.SpecifiersTree) (sc : Scope) (outer : Blocks) (r : Progress) (scope : Blocks) (unit : List Token) (u : Token) (us rest xs ys : List Token) → IsProgress limit q sc outer r scope (xs ++ ys) → EndsIn rest → RunStops limit q sc outer unit us rest
    → Stop limit 0 0 1 (λ n zs. Rest q sc n (xs ++ (ys ++ zs))) (λ fs s zs. Listed limit q sc outer fs s (xs ++ (ys ++ zs))) (λ unit us zs. declarators_next (declarators_run limit unit (naming_of q) (tail us)) (r, zs, scope)) unit (u ∷ us) rest
more_stops limit q sc outer (all_declared ds) scope unit u us rest xs ys h left f = stop_done limit 0 1 (λ n zs. Rest q sc n (xs ++ (ys ++ zs))) (λ fs s zs. Listed limit q sc outer fs s (xs ++ (ys ++ zs))) ds scope unit (u ∷ us) rest left
    (record { derives = subst (λ v. rest_phrase q sc ds (xs ++ v)) (sym (append-nil ys)) h.front; scope_is = h.scope_is; within = h.fits; few = h.few })
more_stops limit q sc outer (more_declared ds e) scope unit u us rest xs ys h left f =
    let there : Blocks = declared (is_typedef q) (after_declarators (is_typedef q) sc ds) e ∷ outer in
    stop_tailed limit 0 0 (λ n zs. Rest q sc n (xs ++ (ys ++ zs))) (λ fs s zs. Listed limit q sc outer fs s (xs ++ (ys ++ zs))) (λ unit us zs. declarators_run limit unit (naming_of q) us ds e scope zs) unit u us rest
    (stop_regrouped limit 0 0 0 (Rest q sc) (Listed limit q sc outer) (λ unit us zs. declarators_run limit unit (naming_of q) us ds e scope zs) unit us rest xs ys
    (stop_in_scope limit 0 0 0 (λ n zs. Rest q sc n ((xs ++ ys) ++ zs)) (λ fs s zs. Listed limit q sc outer fs s ((xs ++ ys) ++ zs)) (λ s unit us zs. declarators_run limit unit (naming_of q) us ds e s zs) unit us rest scope there h.scope_is
    (f ds e (xs ++ ys) h.fits.0 h.fits.1 h.front (subst FewTypes h.scope_is h.few))))

pub run_stops : (limit : ℕ) (q : t.SpecifiersTree) (sc : Scope) (outer : Blocks) (unit us ts : List Token) → 1 ≤ limit → EndsIn ts → length ts ≤ length us → length ts ≤ length unit → RunStops limit q sc outer unit us ts
run_stops limit q sc outer unit us [] one ends enough all ds e xs fit deep h few = absurd ends
run_stops limit q sc outer unit [] (x ∷ ts) one ends enough all ds e xs fit deep h few = absurd (omega (arith, enough))
run_stops limit q sc outer unit (u ∷ us) (x ∷ ts) one ends enough all ds e xs fit deep h few =
    let scope : Blocks = declared (is_typedef q) (after_declarators (is_typedef q) sc ds) e ∷ outer in
    let goes : Going = λ n ys. Rest q sc n (xs ++ ys) in
    let takes : Taking (List t.InitDeclaratorTree) = λ fs s ys. Listed limit q sc outer fs s (xs ++ ys) in
    stop_alike limit 0 0 0 goes takes (λ unit us ys. declarators_step limit unit (naming_of q) ds e scope ys >>= declarators_next (declarators_run limit unit (naming_of q) (tail us))) (λ unit us ys. declarators_run limit unit (naming_of q) us ds e scope ys) (x ∷ ts) (declarators_run limit unit (naming_of q) (u ∷ us) ds e scope (x ∷ ts)) (unrolled limit q ds e scope)
    (stop_seq limit 0 0 1 0 0 0 1 goes goes (λ r s ys. IsProgress limit q sc outer r s (xs ++ ys)) takes (λ unit us ys. declarators_step limit unit (naming_of q) ds e scope ys) (λ unit us. declarators_next (declarators_run limit unit (naming_of q) (tail us))) unit (u ∷ us) (x ∷ ts) (omega arith) (omega arith) (omega arith) ends
    (step_stops limit q sc outer ds e unit (u ∷ us) (x ∷ ts) xs one fit deep h few ends all)
    (λ n ys low k. k)
    (λ r s ys rest k are left short. more_stops limit q sc outer r s unit u us rest xs ys k left (run_stops limit q sc outer unit us rest one left (omega (arith, enough, short)) (omega (arith, all, short)))))
