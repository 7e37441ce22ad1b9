-- Function definitions (C90 6.7.1).
use Rattle.std.proofs.Common.{◌≡◌, ℕ, ◌≤◌, List, [], ◌∷◌, ◌++◌, length, true, refl, sym, ap, ◌∙◌, subst, append_assoc, arith}
use Rattle.std.proofs.lemmas.List.{append-nil}
use Rattle.std.specs.Prelude.{Ok}
use Rattle.c65_base.specs.Answers.{◌>>=◌}
use Rattle.c65_scan.specs.declared.token.Token.{Token}
use Rattle.c65_tree.specs.Trees as t
use Rattle.c65_tree.specs.Lists.{deepest}
use Rattle.c65_tree.specs.Depth.{specifiers_depth, declarator_depth, decl_depth, function_depth}
use Rattle.c65_parse_names.specs.Scopes.{Blocks, closed}
use Rattle.c65_parse_frames.specs.declared.sign.Mark.TheVariants as marks
use Rattle.c65_decl.specs.Here.{unexpected}
use Rattle.c65_decl.specs.Decls.{declarations_read}
use Rattle.c65_decl.specs.Statements.{statement_read}
use Rattle.c65_decl.specs.Units.{body_read, body_needed, function_read}
use Rattle.c65_parse_grammar.specs.Phrases.{given}
use Rattle.c65_parse_grammar.specs.Parts.{declarator_start, has_type, is_typedef}
use Rattle.c65_parse_grammar.specs.Scopes.{Scope, after_specifiers, declared, after_decls, after_stmt, in_function, after_head}
use Rattle.c65_parse_grammar.specs.Expressions as g
use Rattle.c65_parse_grammar.specs.Statements.{declarations, statement, head_specifiers, is_block, function}
use Rattle.c65_parse_grammar.specs.Readings.{Continues}
use Rattle.c65_parse_law_sound.proofs.Got.{EndsIn}
use Rattle.c65_parse_law_sound.proofs.Units.{Brace, block_begins, brace_here, function_of}
use Rattle.c65_parse_law_sound.proofs.Enumerated.{function_block}
use Rattle.c65_parse_law_faults.proofs.Inits.{marks_it}
use Rattle.c65_parse_law_least.specs.Viable.{FewTypes}
use Rattle.c65_parse_law_exact.proofs.Stops.{Stop, Going, Taking, stop_done, stop_fails, stop_if_first}
use Rattle.c65_parse_law_exact.proofs.Pieces.{IsTaken, whole_depth}
use Rattle.c65_parse_law_exact.proofs.Declarations.{declarations_stop}
use Rattle.c65_parse_law_exact.proofs.Onward.{stop_then}
use Rattle.c65_parse_law_exact.proofs.Fronts.{IsFront, stop_fronts}
use Rattle.c65_parse_law_exact.proofs.Stmts.{statement_stops}
use Rattle.c65_parse_law_exact.proofs.Bodies.{empty_block, braces, braces_are, block_goes}
use Rattle.c65_parse_law_exact.proofs.Few.{few_inside}

-- the scope behind a declarator, and that of a function's block
abbrev pub top_of : Scope → t.SpecifiersTree → t.DeclaratorTree → Scope
top_of sc q d = declared (is_typedef q) (after_specifiers sc q) d

abbrev inside_of : Scope → t.SpecifiersTree → t.DeclaratorTree → Scope
inside_of sc q d = in_function (top_of sc q d) d

-- specifiers, or none, and a declarator
pub record Headed (limit : ℕ) (sc : Scope) (q : t.SpecifiersTree) (d : t.DeclaratorTree) (zs xs : List Token) : Type 0 where
  pub head : head_specifiers sc (declarator_start d) q zs
  pub name : g.declarator (g.named (has_type q)) (after_specifiers sc q) (declarator_start d) d xs
  pub small : specifiers_depth q ≤ limit
  pub short : declarator_depth d ≤ limit

function_whole : (limit : ℕ) (sc : Scope) (q : t.SpecifiersTree) (d : t.DeclaratorTree) (ds : List t.DeclTree) (s : t.StmtTree) (zs xs vs ws : List Token) → Headed limit sc q d zs xs → declarations (inside_of sc q d) ds vs → is_block s ≡ true → statement (after_decls (inside_of sc q d) ds) s ws
    → function sc (function_of q d ds s) (zs ++ (xs ++ (vs ++ ws)))
function_whole limit sc q d ds s zs xs vs ws h r b m = (zs, xs ++ (vs ++ ws), refl, h.head, (xs, vs ++ ws, refl, h.name, (vs, ws, refl, r, (b, m))))

-- what is behind two, and three
behind_two : (zs xs ys more : List Token) → (zs ++ (xs ++ ys)) ++ more ≡ zs ++ (xs ++ (ys ++ more))
behind_two zs xs ys more = append_assoc zs (xs ++ ys) more ∙ ap (λ us. zs ++ us) (append_assoc xs ys more)

behind_three : (zs xs vs ys more : List Token) → (zs ++ (xs ++ (vs ++ ys))) ++ more ≡ zs ++ (xs ++ (vs ++ (ys ++ more)))
behind_three zs xs vs ys more = behind_two zs xs (vs ++ ys) more ∙ ap (λ us. zs ++ (xs ++ us)) (append_assoc vs ys more)

-- a body that goes on to a block, or that was begun with a brace
whole_goes : (limit n : ℕ) (sc : Scope) (q : t.SpecifiersTree) (d : t.DeclaratorTree) (ds : List t.DeclTree) (zs xs vs ys : List Token) → limit ≤ n → Headed limit sc q d zs xs → declarations (inside_of sc q d) ds vs → deepest decl_depth ds ≤ limit → Continues (λ s. given (is_block s ≡ true) (statement (after_decls (inside_of sc q d) ds) s)) whole_depth n ys
    → Continues (function sc) function_depth n (zs ++ (xs ++ (vs ++ ys)))
whole_goes limit n sc q d ds zs xs vs ys high h r deep k =
    let small = h.small in
    let short = h.short in
    let within = k.within in
    record {
      tree = function_of q d ds k.tree;
      more = k.more;
      derives = subst (function sc (function_of q d ds k.tree)) (sym (behind_three zs xs vs ys k.more)) (function_whole limit sc q d ds k.tree zs xs vs (ys ++ k.more) h r k.derives.0 k.derives.1);
      within = omega (arith, high, small, short, deep, within);
    }

body_goes : (limit n : ℕ) (sc : Scope) (q : t.SpecifiersTree) (d : t.DeclaratorTree) (ds : List t.DeclTree) (zs xs vs ts ys : List Token) → 1 ≤ n → limit ≤ n → Headed limit sc q d zs xs → declarations (inside_of sc q d) ds vs → deepest decl_depth ds ≤ limit → Brace ts → IsFront ts ys → Continues (statement (after_decls (inside_of sc q d) ds)) whole_depth n ys
    → Continues (function sc) function_depth n (zs ++ (xs ++ (vs ++ ys)))
body_goes limit n sc q d ds zs xs vs ts ys one high h r deep brace front k = whole_goes limit n sc q d ds zs xs vs ys high h r deep (block_goes (after_decls (inside_of sc q d) ds) n ts ys one brace front k)

body_taken : (limit : ℕ) (sc : Scope) (outer : Blocks) (q : t.SpecifiersTree) (d : t.DeclaratorTree) (ds : List t.DeclTree) (s : t.StmtTree) (zs xs vs ws rest : List Token) → Headed limit sc q d zs xs → declarations (inside_of sc q d) ds vs → deepest decl_depth ds ≤ limit → Brace (ws ++ rest) → statement (after_decls (inside_of sc q d) ds) s ws → whole_depth s ≤ limit → FewTypes (top_of sc q d ∷ outer)
    → IsTaken (function sc) (λ f. after_head sc f ∷ outer) function_depth limit (function_of q d ds s) (top_of sc q d ∷ outer) (zs ++ (xs ++ (vs ++ ws)))
body_taken limit sc outer q d ds s zs xs vs ws rest h r deep brace p within few =
    let small = h.small in
    let short = h.short in
    record {
      derives = function_whole limit sc q d ds s zs xs vs ws h r (block_begins (after_decls (inside_of sc q d) ds) s ws rest p brace) p;
      scope_is = refl;
      within = omega (arith, small, short, deep, within);
      few = few;
    }

-- what a function's definition has of its tokens behind its head
abbrev pub FunctionGoes : Scope → List Token → List Token → Going
FunctionGoes sc zs xs n ys = Continues (function sc) function_depth n (zs ++ (xs ++ ys))

abbrev pub FunctionTakes : ℕ → Scope → Blocks → List Token → List Token → Taking t.FunctionTree
FunctionTakes limit sc outer zs xs f scope ys = IsTaken (function sc) (λ f. after_head sc f ∷ outer) function_depth limit f scope (zs ++ (xs ++ ys))

body_stops : (limit : ℕ) (sc : Scope) (outer : Blocks) (q : t.SpecifiersTree) (d : t.DeclaratorTree) (ds : List t.DeclTree) (zs xs vs unit us ts : List Token) → 1 ≤ limit → Headed limit sc q d zs xs → declarations (inside_of sc q d) ds vs → deepest decl_depth ds ≤ limit → FewTypes (after_decls (inside_of sc q d) ds ∷ top_of sc q d ∷ outer) → EndsIn ts → length ts ≤ length unit
    → Stop limit 0 0 0 (λ n ys. FunctionGoes sc zs xs n (vs ++ ys)) (λ f scope ys. FunctionTakes limit sc outer zs xs f scope (vs ++ ys)) (λ unit us ys. body_needed limit unit q d ds (after_decls (inside_of sc q d) ds ∷ top_of sc q d ∷ outer) ys) unit us ts
body_stops limit sc outer q d ds zs xs vs unit us ts one h r deep few ends fit =
    let b = after_decls (inside_of sc q d) ds in
    let scope = b ∷ top_of sc q d ∷ outer in
    let goes : Going = λ n ys. FunctionGoes sc zs xs n (vs ++ ys) in
    let takes : Taking t.FunctionTree = λ f scope ys. FunctionTakes limit sc outer zs xs f scope (vs ++ ys) in
    stop_if_first limit 0 0 0 goes takes (marks_it marks.OpenBrace) (λ unit us ys. body_read limit unit q d ds scope ys) (λ unit us ys. unexpected ys) unit us ts
    (λ e. stop_then limit 0 0 0 0 0 (λ n ys. Continues (statement b) whole_depth n ys × IsFront ts ys) goes (statement b) (λ s. after_stmt b s ∷ top_of sc q d ∷ outer) whole_depth takes (λ unit us ys. statement_read limit unit scope ys) (λ unit us s. Ok (function_of q d ds s.0, s.1, closed s.2)) unit us ts (omega arith) (omega arith) ends
    (stop_fronts limit 0 0 0 (Continues (statement b) whole_depth) (IsTaken (statement b) (λ s. after_stmt b s ∷ top_of sc q d ∷ outer) whole_depth limit) (λ unit us ys. statement_read limit unit scope ys) unit us ts (statement_stops limit b (top_of sc q d ∷ outer) unit us ts one few ends fit))
    (λ n ys high k. body_goes limit n sc q d ds zs xs vs ts ys (omega (arith, one, high)) high h r deep (brace_here ts e ends) k.1 k.0)
    (λ s ws rest p within later are left short. stop_done limit 0 0 (λ n ys. goes n (ws ++ ys)) (λ f scope ys. takes f scope (ws ++ ys)) (function_of q d ds s) (top_of sc q d ∷ outer) unit us rest left
    (subst (takes (function_of q d ds s) (top_of sc q d ∷ outer)) (sym (append-nil ws)) (body_taken limit sc outer q d ds s zs xs vs ws rest h r deep (subst Brace are (brace_here ts e ends)) p within few.1))))
    (λ e. stop_fails limit 0 0 goes takes unit us ts ends (whole_goes limit limit sc q d ds zs xs vs [] (omega arith) h r deep (record { tree = empty_block; more = braces; derives = (refl, braces_are b); within = omega (arith, one) })))

-- declarations of old-style parameters that were begun
list_goes : (limit n : ℕ) (sc : Scope) (q : t.SpecifiersTree) (d : t.DeclaratorTree) (zs xs ys : List Token) → 1 ≤ n → limit ≤ n → Headed limit sc q d zs xs → Continues (declarations (inside_of sc q d)) (deepest decl_depth) n ys → FunctionGoes sc zs xs n ys
list_goes limit n sc q d zs xs ys one high h k =
    let small = h.small in
    let short = h.short in
    let within = k.within in
    record {
      tree = function_of q d k.tree empty_block;
      more = k.more ++ braces;
      derives = subst (function sc (function_of q d k.tree empty_block)) (sym (behind_two zs xs ys (k.more ++ braces) ∙ ap (λ us. zs ++ (xs ++ us)) (sym (append_assoc ys k.more braces)))) (function_whole limit sc q d k.tree empty_block zs xs (ys ++ k.more) braces h k.derives refl (braces_are (after_decls (inside_of sc q d) k.tree)));
      within = omega (arith, one, high, small, short, within);
    }

-- behind its head
pub function_stops : (limit : ℕ) (sc : Scope) (outer : Blocks) (q : t.SpecifiersTree) (d : t.DeclaratorTree) (zs xs unit us ts : List Token) → 1 ≤ limit → Headed limit sc q d zs xs → FewTypes (top_of sc q d ∷ outer) → EndsIn ts → length ts ≤ length unit
    → Stop limit 0 0 0 (FunctionGoes sc zs xs) (FunctionTakes limit sc outer zs xs) (λ unit us ys. function_read limit unit q d (top_of sc q d ∷ outer) ys) unit us ts
function_stops limit sc outer q d zs xs unit us ts one h few ends fit =
    let top = top_of sc q d in
    let b = inside_of sc q d in
    subst (λ s. Stop limit 0 0 0 (FunctionGoes sc zs xs) (FunctionTakes limit sc outer zs xs) (λ unit us ys. declarations_read limit unit s ys >>= (λ ds. body_needed limit unit q d ds.0 ds.2 ds.1)) unit us ts) (sym (function_block d top outer))
    (stop_then limit 0 0 0 0 0 (Continues (declarations b) (deepest decl_depth)) (FunctionGoes sc zs xs) (declarations b) (λ ds. after_decls b ds ∷ top ∷ outer) (deepest decl_depth) (FunctionTakes limit sc outer zs xs) (λ unit us ys. declarations_read limit unit (b ∷ top ∷ outer) ys) (λ unit us ds. body_needed limit unit q d ds.0 ds.2 ds.1) unit us ts (omega arith) (omega arith) ends
    (declarations_stop limit b (top ∷ outer) unit us ts one (subst FewTypes (function_block d top outer) (few_inside d (top ∷ outer) few)) ends fit)
    (λ n ys high k. list_goes limit n sc q d zs xs ys (omega (arith, one, high)) high h k)
    (λ ds vs rest r deep later are left shorter. body_stops limit sc outer q d ds zs xs vs unit us rest one h r deep later left (omega (arith, fit, shorter))))
