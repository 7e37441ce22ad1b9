-- Function definitions and units (C90 6.7).
use Rattle.std.proofs.Common.{◌≡◌, ℕ, suc, ◌+◌, ◌≤◌, List, [], ◌∷◌, ◌++◌, length, length-append, append_assoc, Bool, true, false, refl, sym, ap, ◌∙◌, subst, arith}
use Rattle.std.proofs.lemmas.Bool.{and_right, and_from, ne_eqb}
use Rattle.std.specs.Prelude.{◌&&◌, ◌||◌, not, nat_eq, Ok, Err, Option, None, Some}
use Rattle.c65_base.specs.Answers.{◌>>=◌}
use Rattle.c65_base.specs.declared.refusal.Pos.{Pos}
use Rattle.c65_scan.specs.declared.token.Keyword.TheVariants as keywords
use Rattle.c65_scan.specs.declared.token.Punct.TheVariants as puncts
use Rattle.c65_scan.specs.declared.token.Token.{Token}
use Rattle.c65_scan.specs.declared.token.TokenKind.{TokenKind}
use Rattle.c65_scan.specs.declared.token.TokenKind.TheVariants as kinds
use Rattle.c65_tree.specs.Trees as t
use Rattle.c65_tree.specs.Lists.{deepest}
use Rattle.c65_tree.specs.Depth.{specifiers_depth, init_declarator_depth, decl_depth, stmt_depth, inner_depth, function_depth, item_depth, unit_depth}
use Rattle.c65_parse_names.specs.Scopes.{Blocks}
use Rattle.c65_parse_names.specs.Scopes as blocks
use Rattle.c65_parse.specs.Machine.{nothing_there}
use Rattle.c65_parse.specs.Reading.{Answer, token_at, specifiers_read}
use Rattle.c65_parse_frames.specs.declared.sign.Mark.TheVariants as marks
use Rattle.c65_parse_frames.specs.Signs.{sign_of, is_mark}
use Rattle.c65_decl.specs.Words.{is_specifier, goes_on, name_of}
use Rattle.c65_decl.specs.Here.{sign_here, is_here, is_type_here, names_type, begins_specifiers, unexpected}
use Rattle.c65_decl.specs.Declaring.{naming_of, named_read}
use Rattle.c65_decl.specs.Decls.{declaration_from, declaration_read, with_decl, declarations_run, declarations_read}
use Rattle.c65_decl.specs.Statements.{statement_read}
use Rattle.c65_decl.specs.Units.{body_read, body_needed, function_read, declaration_item, function_item, item_from, empty_item, declared_item, behind_specifiers, item_read, with_item, items_next, items_run, items_read, whole_unit, unit_read}
use Rattle.c65_parse_grammar.specs.Phrases.{◌▸◌, token, some_mark, some}
use Rattle.c65_parse_grammar.specs.Parts.{has_type, is_typedef, is_empty, declarator_start}
use Rattle.c65_parse_grammar.specs.Scopes.{Scope, no_types, after_specifiers, after_maybe_init, after_declarators, after_decl, after_decls, after_stmt, after_head, after_item, declared, in_function}
use Rattle.c65_parse_grammar.specs.Expressions as g
use Rattle.c65_parse_grammar.specs.Statements.{optional_init, init_declarators, declarations, statement, is_closed, is_block, head_specifiers, function, item, items, some_items}
use Rattle.c65_parse_grammar.specs.Readings.{units}
use Rattle.c65_parse_law_trees.specs.Read.{EndsSpecifiers}
use Rattle.c65_parse_law_trees.specs.Tokens.{NoSuffix}
use Rattle.c65_parse_law_trees.proofs.Runs.{First, first_map, split, before_some, behind_some}
use Rattle.c65_parse_law_trees.proofs.Ends.{not_nameless}
use Rattle.c65_parse_law_trees.proofs.Firsts.{Opens, opens_map, opens_first, opens_mark, DeclaratorKind, Declares, begins_declarator}
use Rattle.c65_parse_law_trees.proofs.Top.{specifiers_are_read}
use Rattle.c65_parse_law_sound.proofs.Enumerated.{function_block}
use Rattle.c65_parse_law_units.proofs.Heres.{Left, left_more, here_is, passed, is_here_is, opens_here, opens_long, next, when, unless}
use Rattle.c65_parse_law_units.proofs.Decls.{named_is, begins_named, head_is, specifiers_of, behind_first, declarators_behind, declaration_is}
use Rattle.c65_parse_law_units.proofs.Tests.{NoColon}
use Rattle.c65_parse_law_units.proofs.Stmts.{StmtRun}
use Rattle.c65_parse_law_units.proofs.Blocks.{DeclKind, Declaring, named_colon, decl_start, decl_long, these_start, nothing_more, left_long, reads_stmt}

first_here : (P : Token → Type 0) (ts : List Token) → Left ts → First P ts → P (token_at ts 0)
first_here P [] left h = absurd left
first_here P (tok ∷ ts) left h = subst P (sym (here_is tok ts)) h

either_true : (a b : Bool) → b ≡ true → (a || b) ≡ true
either_true true b h = refl
either_true false b h = h

-- declarations begin
begins_kind : (sc : Scope) (outer : Blocks) (k : TokenKind) (m : Pos) (ts : List Token) → DeclKind sc k ts → begins_specifiers (sc ∷ outer) (token k m ∷ ts) ≡ true
begins_kind sc outer (kinds.Keyword k) m ts h = ap (λ x. is_specifier (sign_of x.kind) || is_type_here (sc ∷ outer) (token (kinds.Keyword k) m ∷ ts)) (here_is (token (kinds.Keyword k) m) ts) ∙ ap (λ x. is_specifier x || is_type_here (sc ∷ outer) (token (kinds.Keyword k) m ∷ ts)) h
begins_kind sc outer (kinds.Name n) m ts h = either_true (is_specifier (sign_here (token (kinds.Name n) m ∷ ts))) (is_type_here (sc ∷ outer) (token (kinds.Name n) m ∷ ts)) (ap (λ x. names_type (sc ∷ outer) (name_of (sign_of x.kind))) (here_is (token (kinds.Name n) m) ts) ∙ h.0)
begins_kind sc outer (kinds.Number ty n) m ts h = absurd h
begins_kind sc outer (kinds.Text bs) m ts h = absurd h
begins_kind sc outer (kinds.Punct p) m ts h = absurd h
begins_kind sc outer kinds.End m ts h = absurd h

begins_them : (sc : Scope) (outer : Blocks) (ts : List Token) → Declaring sc ts → begins_specifiers (sc ∷ outer) ts ≡ true
begins_them sc outer [] h = absurd h
begins_them sc outer (tok ∷ ts) h = begins_kind sc outer tok.kind tok.pos ts h

-- the declarations of old-style parameters
these_are : (limit : ℕ) (ds : List t.DeclTree) (unit us : List Token) (done : List t.DeclTree) (sc : Scope) (outer : Blocks) (xs rest : List Token) → declarations sc ds xs → deepest decl_depth ds ≤ limit → length (xs ++ rest) ≤ length us → length (xs ++ rest) ≤ length unit → Left rest → begins_specifiers (after_decls sc ds ∷ outer) rest ≡ false
    → declarations_run limit unit us done (sc ∷ outer) (xs ++ rest) ≡ Ok (done ++ ds, rest, after_decls sc ds ∷ outer)
these_are limit ds unit [] done sc outer xs rest p deep enough room left stop = let long = length-append xs rest in let some = left_long rest left in absurd (omega (arith, enough, long, some))
these_are limit [] unit (u ∷ us) done sc outer xs rest p deep enough room left stop = subst (λ ts. declarations_run limit unit (u ∷ us) done (sc ∷ outer) (ts ++ rest) ≡ Ok (done ++ [], rest, sc ∷ outer)) (sym p)
    (unless (begins_specifiers (sc ∷ outer) rest) (declaration_read limit unit (sc ∷ outer) rest >>= (λ e. declarations_run limit unit us (with_decl done e.0) e.2 e.1)) (Ok (done, rest, sc ∷ outer)) stop
    ∙ ap (λ x. Ok (x, rest, sc ∷ outer)) (nothing_more done))
these_are limit (d ∷ ds) unit (u ∷ us) done sc outer xs rest p deep enough room left stop =
    let sc1 = after_decl sc d in
    let end : Answer (List t.DeclTree) = Ok (done ++ d ∷ ds, rest, after_decls sc1 ds ∷ outer) in
    split (λ ts. length ts ≤ suc (length us) → length ts ≤ length unit → declarations_run limit unit (u ∷ us) done (sc ∷ outer) ts ≡ end) xs rest p (λ ys zs py pz short small.
    let some = decl_long d sc ys py in
    let long = length-append ys (zs ++ rest) in
    when (begins_specifiers (sc ∷ outer) (ys ++ (zs ++ rest))) (declaration_read limit unit (sc ∷ outer) (ys ++ (zs ++ rest)) >>= (λ e. declarations_run limit unit us (with_decl done e.0) e.2 e.1)) (Ok (done, ys ++ (zs ++ rest), sc ∷ outer)) (begins_them sc outer (ys ++ (zs ++ rest)) (decl_start d sc ys (zs ++ rest) py))
    ∙ next (declaration_read limit unit (sc ∷ outer) (ys ++ (zs ++ rest))) (d, zs ++ rest, sc1 ∷ outer) (λ e. declarations_run limit unit us (with_decl done e.0) e.2 e.1) end
    (declaration_is limit unit d sc outer ys (zs ++ rest) py (omega (arith, deep)) small (left_more zs rest left))
    (these_are limit ds unit us (done ++ d ∷ []) sc1 outer zs rest pz (omega (arith, deep)) (omega (arith, short, long, some)) (omega (arith, small, long)) left stop
    ∙ ap (λ x. Ok (x, rest, after_decls sc1 ds ∷ outer)) (append_assoc done (d ∷ []) ds))) enough room

-- a body is a block
block_closed : (s : t.StmtTree) → is_block s ≡ true → is_closed s ≡ true
block_closed (t.block l ds ss) h = refl
block_closed _ h = absurd cc

block_opens : (s : t.StmtTree) (sc : Scope) (xs : List Token) → is_block s ≡ true → statement sc s xs → Opens (λ tok. tok.kind ≡ kinds.Punct puncts.OpenBrace) xs
block_opens (t.block l ds ss) sc xs h p = opens_mark (λ tok. tok.kind ≡ kinds.Punct puncts.OpenBrace) l (kinds.Punct puncts.OpenBrace) xs p.0 p.1 p.2 p.3 refl
block_opens (t.label l n s) sc xs h p = absurd cc
block_opens (t.case l e s) sc xs h p = absurd cc
block_opens (t.default l s) sc xs h p = absurd cc
block_opens (t.eval l e) sc xs h p = absurd cc
block_opens (t.if_stmt l e s r) sc xs h p = absurd cc
block_opens (t.switch l e s) sc xs h p = absurd cc
block_opens (t.while l e s) sc xs h p = absurd cc
block_opens (t.do_while l s e) sc xs h p = absurd cc
block_opens (t.for l e f g s) sc xs h p = absurd cc
block_opens (t.goto l n) sc xs h p = absurd cc
block_opens (t.continue l) sc xs h p = absurd cc
block_opens (t.break l) sc xs h p = absurd cc
block_opens (t.return l e) sc xs h p = absurd cc

abbrev IsBrace : Token → Type 0
IsBrace tok = tok.kind ≡ kinds.Punct puncts.OpenBrace

brace_stops : (scope : Blocks) (ts : List Token) → IsBrace (token_at ts 0) → begins_specifiers scope ts ≡ false
brace_stops scope ts h = ap (λ k. is_specifier (sign_of k) || names_type scope (name_of (sign_of k))) h

not_both : (b : Bool) → b ≡ true → b ≡ false → ⊥
not_both true h k = cc
not_both false h k = cc

-- behind a function's head
function_is : (limit : ℕ) (unit : List Token) (q : t.SpecifiersTree) (d : t.DeclaratorTree) (ds : List t.DeclTree) (body : t.StmtTree) (sc : Scope) (outer : Blocks) (ys zs rest : List Token) → declarations (in_function sc d) ds ys → is_block body ≡ true → statement (after_decls (in_function sc d) ds) body zs
    → deepest decl_depth ds ≤ limit → stmt_depth body ≤ limit → inner_depth body ≤ limit → length (ys ++ (zs ++ rest)) ≤ length unit → Left rest
    → function_read limit unit q d (sc ∷ outer) (ys ++ (zs ++ rest)) ≡ Ok (record { specifiers = q; declarator = d; declarations = ds; body = body }, rest, sc ∷ outer)
function_is limit unit q d ds body sc outer ys zs rest py block pz deep tall inner room left =
    let sc1 = in_function sc d in
    let sc2 = after_decls sc1 ds in
    let long = length-append ys (zs ++ rest) in
    let tree : t.FunctionTree = record { specifiers = q; declarator = d; declarations = ds; body = body } in
    let end : Answer t.FunctionTree = Ok (tree, rest, sc ∷ outer) in
    let here : IsBrace (token_at (zs ++ rest) 0) = opens_here IsBrace zs rest (block_opens body sc2 zs block pz) in
    let run : StmtRun limit unit unit [] sc2 (sc ∷ outer) body (zs ++ rest) rest = reads_stmt limit body unit unit [] sc2 (sc ∷ outer) zs rest pz (omega (arith, tall)) inner (omega (arith, room, long)) (omega (arith, room, long)) left (λ h. absurd (not_both (is_closed body) (block_closed body block) h)) in
    ap (λ x. declarations_read limit unit x (ys ++ (zs ++ rest)) >>= (λ e. body_needed limit unit q d e.0 e.2 e.1)) (function_block d sc outer)
    ∙ next (declarations_read limit unit (sc1 ∷ sc ∷ outer) (ys ++ (zs ++ rest))) (ds, zs ++ rest, sc2 ∷ sc ∷ outer) (λ e. body_needed limit unit q d e.0 e.2 e.1) end
    (these_are limit ds unit unit [] sc1 (sc ∷ outer) ys (zs ++ rest) py deep room room (left_more zs rest left) (brace_stops (sc2 ∷ sc ∷ outer) (zs ++ rest) here))
    (when (is_here marks.OpenBrace (zs ++ rest)) (body_read limit unit q d ds (sc2 ∷ sc ∷ outer) (zs ++ rest)) (unexpected (zs ++ rest)) (ap (λ k. is_mark marks.OpenBrace (sign_of k)) here)
    ∙ next (statement_read limit unit (sc2 ∷ sc ∷ outer) (zs ++ rest)) (body, rest, after_stmt sc2 body ∷ sc ∷ outer) (λ s. Ok (record { specifiers = q; declarator = d; declarations = ds; body = s.0 }, s.1, blocks.closed s.2)) end run.are refl)

-- what stands behind a function's declarator
abbrev Bodied : Token → Type 0
Bodied tok = NoSuffix tok.kind × (goes_on (sign_of tok.kind) ≡ false)

bodied_kind : (sc : Scope) (k : TokenKind) (ts : List Token) → DeclKind sc k ts → NoSuffix k × (goes_on (sign_of k) ≡ false)
bodied_kind sc (kinds.Keyword k) ts h = (tt, ap goes_on h)
bodied_kind sc (kinds.Name n) ts h = (tt, refl)
bodied_kind sc (kinds.Number ty n) ts h = absurd h
bodied_kind sc (kinds.Text bs) ts h = absurd h
bodied_kind sc (kinds.Punct p) ts h = absurd h
bodied_kind sc kinds.End ts h = absurd h

bodied_these : (sc : Scope) (ts : List Token) → Declaring sc ts → First Bodied ts
bodied_these sc [] h = absurd h
bodied_these sc (tok ∷ ts) h = bodied_kind sc tok.kind ts h

bodied_brace : (tok : Token) → IsBrace tok → Bodied tok
bodied_brace tok h = subst (λ k. NoSuffix k × (goes_on (sign_of k) ≡ false)) (sym h) (tt, refl)

bodied : (ds : List t.DeclTree) (body : t.StmtTree) (sc : Scope) (ys zs rest : List Token) → declarations sc ds ys → is_block body ≡ true → statement (after_decls sc ds) body zs → First Bodied (ys ++ (zs ++ rest))
bodied [] body sc ys zs rest py block pz = subst (λ ts. First Bodied (ts ++ (zs ++ rest))) (sym py) (opens_first Bodied zs rest (opens_map IsBrace Bodied zs (λ tok h. bodied_brace tok h) (block_opens body sc zs block pz)))
bodied (d ∷ ds) body sc ys zs rest py block pz = split (First Bodied) ys (zs ++ rest) py (λ us vs pu pv. bodied_these sc (us ++ (vs ++ (zs ++ rest))) (decl_start d sc us (vs ++ (zs ++ rest)) pu))

-- specifiers, or none, before a declarator with a name
heads : (limit : ℕ) (q : t.SpecifiersTree) (d : t.DeclaratorTree) (sc : Scope) (outer : Blocks) (xs zs tail : List Token) → head_specifiers sc (declarator_start d) q xs → specifiers_depth q ≤ limit → g.declarator (g.named (has_type q)) (after_specifiers sc q) (declarator_start d) d zs
    → specifiers_read limit (sc ∷ outer) (xs ++ (zs ++ tail)) ≡ Ok (q, zs ++ tail, after_specifiers sc q ∷ outer)
heads limit q d sc outer xs zs tail p deep pz =
    let sc1 = after_specifiers sc q in
    let s = g.named (has_type q) in
    let o : Opens (Declares s sc1 d) zs = begins_declarator d s sc1 (declarator_start d) zs (not_nameless d s sc1 (declarator_start d) zs refl pz) pz in
    let ends : EndsSpecifiers (has_type q) sc1 (token_at (zs ++ tail) 0).kind = (opens_here (λ tok. EndsSpecifiers (has_type q) sc1 tok.kind × (is_mark marks.Semicolon (sign_of tok.kind) ≡ false)) zs tail (begins_named (has_type q) sc1 d zs pz)).0 in
    subst (λ ts. specifiers_read limit (sc ∷ outer) (xs ++ (ts ++ tail)) ≡ Ok (q, ts ++ tail, sc1 ∷ outer)) (sym o.are)
    (specifiers_are_read limit sc outer q xs o.first (o.others ++ tail) (subst (λ l. head_specifiers sc l q xs) (sym o.it.1) p) deep
    (subst (λ tok. EndsSpecifiers (has_type q) sc1 tok.kind) (here_is o.first (o.others ++ tail)) (subst (λ ts. EndsSpecifiers (has_type q) sc1 (token_at (ts ++ tail) 0).kind) o.are ends)))

no_semicolon : (q : t.SpecifiersTree) (d : t.DeclaratorTree) (sc : Scope) (zs tail : List Token) → g.declarator (g.named (has_type q)) sc (declarator_start d) d zs → (not (is_empty q) && is_here marks.Semicolon (zs ++ tail)) ≡ false
no_semicolon q d sc zs tail pz = and_right (not (is_empty q)) (is_here marks.Semicolon (zs ++ tail)) (opens_here (λ tok. EndsSpecifiers (has_type q) sc tok.kind × (is_mark marks.Semicolon (sign_of tok.kind) ≡ false)) zs tail (begins_named (has_type q) sc d zs pz)).1

definition_is : (limit : ℕ) (unit : List Token) (f : t.FunctionTree) (sc : Scope) (outer : Blocks) (xs rest : List Token) → function sc f xs → function_depth f ≤ limit → length (xs ++ rest) ≤ length unit → Left rest → item_read limit unit (sc ∷ outer) (xs ++ rest) ≡ Ok (t.definition f, rest, after_head sc f ∷ outer)
definition_is limit unit f sc outer xs rest p deep room left =
    let q = f.specifiers in
    let d = f.declarator in
    let sc1 = after_specifiers sc q in
    let sch = after_head sc f in
    let end : Answer t.ItemTree = Ok (t.definition f, rest, sch ∷ outer) in
    split (λ ts. length ts ≤ length unit → item_read limit unit (sc ∷ outer) ts ≡ end) xs rest p (λ hs us ph pu.
    split (λ ts. length (hs ++ ts) ≤ length unit → item_read limit unit (sc ∷ outer) (hs ++ ts) ≡ end) us rest pu (λ ns vs pn pv.
    split (λ ts. length (hs ++ (ns ++ ts)) ≤ length unit → item_read limit unit (sc ∷ outer) (hs ++ (ns ++ ts)) ≡ end) vs rest pv (λ ys zs py pz small.
    let tail = ys ++ (zs ++ rest) in
    let long = length-append hs (ns ++ tail) in
    let longer = length-append ns tail in
    let after_it = bodied f.declarations f.body (in_function sch d) ys zs rest py pz.0 pz.1 in
    let some = left_more ys (zs ++ rest) (left_more zs rest left) in
    next (specifiers_read limit (sc ∷ outer) (hs ++ (ns ++ tail))) (q, ns ++ tail, sc1 ∷ outer) (λ x. behind_specifiers limit unit x.0 x.2 x.1) end (heads limit q d sc outer hs ns tail ph (omega (arith, deep)) pn)
    (unless (not (is_empty q) && is_here marks.Semicolon (ns ++ tail)) (empty_item q (sc1 ∷ outer) (ns ++ tail)) (declared_item limit unit q (sc1 ∷ outer) (ns ++ tail)) (no_semicolon q d sc1 ns tail pn)
    ∙ next (named_read limit (naming_of q) (sc1 ∷ outer) (ns ++ tail)) (d, tail, sch ∷ outer) (λ x. item_from limit unit q x.0 (not (is_empty q)) x.2 x.1) end
    (named_is limit q sc1 outer d ns tail pn (omega (arith, deep)) some (first_map Bodied (λ tok. NoSuffix tok.kind) tail (λ tok h. h.0) after_it))
    (unless (not (is_empty q) && goes_on (sign_here tail)) (declaration_item limit unit q d (sch ∷ outer) tail) (function_item limit unit q d (sch ∷ outer) tail) (and_right (not (is_empty q)) (goes_on (sign_here tail)) (first_here Bodied tail some after_it).1)
    ∙ next (function_read limit unit q d (sch ∷ outer) tail) (f, rest, sch ∷ outer) (λ x. Ok (t.definition x.0, x.1, x.2)) end
    (function_is limit unit q d f.declarations f.body sch outer ys zs rest py pz.0 pz.1 (omega (arith, deep)) (omega (arith, deep)) (omega (arith, deep)) (omega (arith, small, long, longer)) left) refl))))) room

-- what stands behind a declarator of a declaration
abbrev GoesOn : Token → Type 0
GoesOn tok = goes_on (sign_of tok.kind) ≡ true

more_goes : (ds : List t.InitDeclaratorTree) (q : t.SpecifiersTree) (sc : Scope) (k : Pos) (zs rest : List Token) → init_declarators false q sc ds zs → First GoesOn (zs ++ token (kinds.Punct puncts.Semicolon) k ∷ rest)
more_goes [] q sc k zs rest p = subst (λ ts. First GoesOn (ts ++ token (kinds.Punct puncts.Semicolon) k ∷ rest)) (sym p) refl
more_goes (d ∷ ds) q sc k zs rest p = before_some (λ ts. First GoesOn ts) (kinds.Punct puncts.Comma) zs (token (kinds.Punct puncts.Semicolon) k ∷ rest) p (λ l us pu. refl)

behind_goes : (i : Option t.InitTree) (ds : List t.InitDeclaratorTree) (q : t.SpecifiersTree) (inner sc : Scope) (k : Pos) (ws rest : List Token) → (optional_init inner i ▸ init_declarators false q sc ds) ws → First GoesOn (ws ++ token (kinds.Punct puncts.Semicolon) k ∷ rest)
behind_goes None ds q inner sc k ws rest p = split (λ ts. First GoesOn ts) ws (token (kinds.Punct puncts.Semicolon) k ∷ rest) p (λ ys zs a pz. subst (λ ts. First GoesOn (ts ++ (zs ++ token (kinds.Punct puncts.Semicolon) k ∷ rest))) (sym a) (more_goes ds q sc k zs rest pz))
behind_goes (Some i) ds q inner sc k ws rest p = split (λ ts. First GoesOn ts) ws (token (kinds.Punct puncts.Semicolon) k ∷ rest) p (λ ys zs py pz. before_some (λ ts. First GoesOn ts) (kinds.Punct puncts.Equal) ys (zs ++ token (kinds.Punct puncts.Semicolon) k ∷ rest) py (λ l us pu. refl))

full : (q : t.SpecifiersTree) (sc : Scope) (xs : List Token) → g.specifiers sc true q xs → not (is_empty q) ≡ true
full (t.specifiers l qs) sc xs p = ap not p.0.0

item_by : (limit : ℕ) (unit : List Token) (q : t.SpecifiersTree) (ds : List t.InitDeclaratorTree) (sc : Scope) (outer : Blocks) (xs rest : List Token) → (g.specifiers sc true q ▸ init_declarators true q (after_specifiers sc q) ds ▸ some_mark puncts.Semicolon) xs → specifiers_depth q ≤ limit → deepest init_declarator_depth ds ≤ limit → length (xs ++ rest) ≤ length unit → Left rest
    → item_read limit unit (sc ∷ outer) (xs ++ rest) ≡ Ok (t.declaration (record { specifiers = q; declarators = ds }), rest, after_declarators (is_typedef q) (after_specifiers sc q) ds ∷ outer)
item_by limit unit q [] sc outer xs rest p deep fit room left =
    let sc1 = after_specifiers sc q in
    let end : Answer t.ItemTree = Ok (t.declaration (record { specifiers = q; declarators = [] }), rest, sc1 ∷ outer) in
    split (λ ts. item_read limit unit (sc ∷ outer) ts ≡ end) xs rest p (λ ys us py pu.
    behind_some (λ ts. item_read limit unit (sc ∷ outer) (ys ++ ts) ≡ end) (kinds.Punct puncts.Semicolon) us rest pu (λ k zs a. subst (λ ts. item_read limit unit (sc ∷ outer) (ys ++ (ts ++ (token (kinds.Punct puncts.Semicolon) k ∷ rest))) ≡ end) (sym a)
    (let semi : Token = token (kinds.Punct puncts.Semicolon) k in
    next (specifiers_read limit (sc ∷ outer) (ys ++ (semi ∷ rest))) (q, semi ∷ rest, sc1 ∷ outer) (λ x. behind_specifiers limit unit x.0 x.2 x.1) end (specifiers_of limit q sc outer ys (semi ∷ rest) py deep tt tt)
    (when (not (is_empty q) && is_here marks.Semicolon (semi ∷ rest)) (empty_item q (sc1 ∷ outer) (semi ∷ rest)) (declared_item limit unit q (sc1 ∷ outer) (semi ∷ rest)) (and_from (not (is_empty q)) (is_here marks.Semicolon (semi ∷ rest)) (full q sc ys py) (is_here_is marks.Semicolon semi rest))
    ∙ ap (λ ts. Ok (t.declaration (record { specifiers = q; declarators = [] }), ts, sc1 ∷ outer)) (passed semi rest left)))))
item_by limit unit q (d ∷ ds) sc outer xs rest p deep fit room left =
    let sc1 = after_specifiers sc q in
    let inner = declared (is_typedef q) sc1 d.declarator in
    let end : Answer t.ItemTree = Ok (t.declaration (record { specifiers = q; declarators = d ∷ ds }), rest, after_declarators (is_typedef q) sc1 (d ∷ ds) ∷ outer) in
    split (λ ts. length ts ≤ length unit → item_read limit unit (sc ∷ outer) ts ≡ end) xs rest p (λ ys us py pu.
    behind_some (λ ts. length (ys ++ ts) ≤ length unit → item_read limit unit (sc ∷ outer) (ys ++ ts) ≡ end) (kinds.Punct puncts.Semicolon) us rest pu (λ k vs pv.
    let semi : Token = token (kinds.Punct puncts.Semicolon) k in
    split (λ ts. length (ys ++ ts) ≤ length unit → item_read limit unit (sc ∷ outer) (ys ++ ts) ≡ end) vs (semi ∷ rest) pv (λ ms ws a pw. subst (λ ts. length (ys ++ (ts ++ (ws ++ semi ∷ rest))) ≤ length unit → item_read limit unit (sc ∷ outer) (ys ++ (ts ++ (ws ++ semi ∷ rest))) ≡ end) (sym a)
    (split (λ ts. length (ys ++ ts) ≤ length unit → item_read limit unit (sc ∷ outer) (ys ++ ts) ≡ end) ws (semi ∷ rest) pw (λ zs ns pz pn short.
    let tail = ns ++ semi ∷ rest in
    let long = length-append ys (zs ++ tail) in
    let longer = length-append zs tail in
    let some = left_more ns (semi ∷ rest) tt in
    next (specifiers_read limit (sc ∷ outer) (ys ++ (zs ++ tail))) (q, zs ++ tail, sc1 ∷ outer) (λ x. behind_specifiers limit unit x.0 x.2 x.1) end (heads limit q d.declarator sc outer ys zs tail (head_is q sc (declarator_start d.declarator) ys py) deep pz)
    (unless (not (is_empty q) && is_here marks.Semicolon (zs ++ tail)) (empty_item q (sc1 ∷ outer) (zs ++ tail)) (declared_item limit unit q (sc1 ∷ outer) (zs ++ tail)) (no_semicolon q d.declarator sc1 zs tail pz)
    ∙ next (named_read limit (naming_of q) (sc1 ∷ outer) (zs ++ tail)) (d.declarator, tail, inner ∷ outer) (λ x. item_from limit unit q x.0 (not (is_empty q)) x.2 x.1) end
    (named_is limit q sc1 outer d.declarator zs tail pz (omega (arith, fit)) some (behind_first d.init ds q inner (after_maybe_init inner d.init) k ns rest pn))
    (when (not (is_empty q) && goes_on (sign_here tail)) (declaration_item limit unit q d.declarator (inner ∷ outer) tail) (function_item limit unit q d.declarator (inner ∷ outer) tail) (and_from (not (is_empty q)) (goes_on (sign_here tail)) (full q sc ys py) (first_here GoesOn tail some (behind_goes d.init ds q inner (after_maybe_init inner d.init) k ns rest pn)))
    ∙ next (declaration_from limit unit q d.declarator (inner ∷ outer) tail) (record { specifiers = q; declarators = d ∷ ds }, rest, after_declarators (is_typedef q) sc1 (d ∷ ds) ∷ outer) (λ x. Ok (t.declaration x.0, x.1, x.2)) end
    (declarators_behind limit unit q d ds sc1 outer k ns rest pn fit (omega (arith, short, long, longer)) left) refl))))))) room

item_is : (limit : ℕ) (unit : List Token) (i : t.ItemTree) (sc : Scope) (outer : Blocks) (xs rest : List Token) → item sc i xs → item_depth i ≤ limit → length (xs ++ rest) ≤ length unit → Left rest → item_read limit unit (sc ∷ outer) (xs ++ rest) ≡ Ok (i, rest, after_item sc i ∷ outer)
item_is limit unit (t.declaration d) sc outer xs rest p deep room left = item_by limit unit d.specifiers d.declarators sc outer xs rest p (omega (arith, deep)) (omega (arith, deep)) room left
item_is limit unit (t.definition f) sc outer xs rest p deep room left = definition_is limit unit f sc outer xs rest p deep room left

-- no item begins with the end
abbrev NoEnd : Token → Type 0
NoEnd tok = is_mark marks.End (sign_of tok.kind) ≡ false

end_kind : (sc : Scope) (k : TokenKind) (ts : List Token) → DeclKind sc k ts → is_mark marks.End (sign_of k) ≡ false
end_kind sc (kinds.Keyword k) ts h = ap (is_mark marks.End) h
end_kind sc (kinds.Name n) ts h = refl
end_kind sc (kinds.Number ty n) ts h = absurd h
end_kind sc (kinds.Text bs) ts h = absurd h
end_kind sc (kinds.Punct p) ts h = absurd h
end_kind sc kinds.End ts h = absurd h

end_these : (sc : Scope) (ts : List Token) → Declaring sc ts → First NoEnd ts
end_these sc [] h = absurd h
end_these sc (tok ∷ ts) h = end_kind sc tok.kind ts h

declares_end : (s : g.Sort) (sc : Scope) (d : t.DeclaratorTree) (k : TokenKind) → DeclaratorKind s sc d k → is_mark marks.End (sign_of k) ≡ false
declares_end s sc d (kinds.Name n) h = refl
declares_end s sc d (kinds.Keyword keywords.FastCall) h = refl
declares_end s sc d (kinds.Keyword keywords.CDecl) h = refl
declares_end s sc d (kinds.Keyword _) h = absurd h
declares_end s sc d (kinds.Punct puncts.Star) h = refl
declares_end s sc d (kinds.Punct puncts.OpenParen) h = refl
declares_end s sc d (kinds.Punct puncts.OpenBracket) h = refl
declares_end s sc d (kinds.Punct _) h = absurd h
declares_end s sc d (kinds.Number ty n) h = absurd h
declares_end s sc d (kinds.Text bs) h = absurd h
declares_end s sc d kinds.End h = absurd h

head_first : (qs : t.SpecifierList) (l : Pos) (d : t.DeclaratorTree) (sc : Scope) (xs zs tail : List Token) → head_specifiers sc (declarator_start d) (t.specifiers l qs) xs → g.declarator (g.named (has_type (t.specifiers l qs))) (after_specifiers sc (t.specifiers l qs)) (declarator_start d) d zs → First NoEnd (xs ++ (zs ++ tail))
head_first t.no_specifiers l d sc xs zs tail p pz = subst (λ ts. First NoEnd (ts ++ (zs ++ tail))) (sym p.1) (opens_first NoEnd zs tail (opens_map (Declares (g.named false) sc d) NoEnd zs (λ tok h. declares_end (g.named false) sc d tok.kind h.0) (begins_declarator d (g.named false) sc (declarator_start d) zs (not_nameless d (g.named false) sc (declarator_start d) zs refl pz) pz)))
head_first (t.and_specifier qs q) l d sc xs zs tail p pz = end_these sc (xs ++ (zs ++ tail)) (these_start (t.specifiers l (t.and_specifier qs q)) sc xs (zs ++ tail) p (opens_first NoColon zs tail (named_colon (has_type (t.specifiers l (t.and_specifier qs q))) (after_specifiers sc (t.specifiers l (t.and_specifier qs q))) d zs pz)))

function_first : (q : t.SpecifiersTree) (d : t.DeclaratorTree) (sc : Scope) (xs zs tail : List Token) → head_specifiers sc (declarator_start d) q xs → g.declarator (g.named (has_type q)) (after_specifiers sc q) (declarator_start d) d zs → First NoEnd (xs ++ (zs ++ tail))
function_first (t.specifiers l qs) d sc xs zs tail p pz = head_first qs l d sc xs zs tail p pz

item_first : (i : t.ItemTree) (sc : Scope) (xs tail : List Token) → item sc i xs → First NoEnd (xs ++ tail)
item_first (t.declaration d) sc xs tail p = end_these sc (xs ++ tail) (decl_start d sc xs tail p)
item_first (t.definition f) sc xs tail p = split (First NoEnd) xs tail p (λ hs us ph pu. split (λ ts. First NoEnd (hs ++ ts)) us tail pu (λ ns vs pn pv. function_first f.specifiers f.declarator sc hs ns (vs ++ tail) ph pn))

items_first : (j : t.ItemTree) (is : List t.ItemTree) (sc : Scope) (xs tail : List Token) → items sc (j ∷ is) xs → First NoEnd (xs ++ tail)
items_first j is sc xs tail p = split (First NoEnd) xs tail p (λ ys zs py pz. item_first j sc ys (zs ++ tail) py)

-- an item has a token
item_long : (i : t.ItemTree) (sc : Scope) (xs : List Token) → item sc i xs → 1 ≤ length xs
item_long (t.declaration d) sc xs p = decl_long d sc xs p
item_long (t.definition f) sc xs p =
    let q = f.specifiers in
    let sc1 = after_specifiers sc q in
    let some = opens_long (λ tok. EndsSpecifiers (has_type q) sc1 tok.kind × (is_mark marks.Semicolon (sign_of tok.kind) ≡ false)) p.4.0 (begins_named (has_type q) sc1 f.declarator p.4.0 p.4.3) in
    let long = length-append p.0 p.1 in
    let longer = length-append p.4.0 p.4.1 in
    let e = ap length p.2 in
    let h = ap length p.4.2 in
    omega (arith, some, long, longer, e, h)

item_some : (i : t.ItemTree) (sc : Scope) (xs : List Token) → item sc i xs → length xs ≤ 0 → ⊥
item_some i sc xs p h = let some = item_long i sc xs p in omega (arith, some, h)

-- the items of a unit before its end
items_are : (limit : ℕ) (is : List t.ItemTree) (i : t.ItemTree) (unit us : List Token) (done : List t.ItemTree) (sc : Scope) (outer : Blocks) (l : Pos) (xs : List Token) → items sc (i ∷ is) xs → deepest item_depth (i ∷ is) ≤ limit → length xs ≤ length us → length (xs ++ (token kinds.End l ∷ [])) ≤ length unit
    → items_run limit unit us done (sc ∷ outer) (xs ++ (token kinds.End l ∷ [])) ≡ Ok (done ++ i ∷ is)
items_are limit is i unit [] done sc outer l xs p deep enough room = absurd (item_some i sc p.0 p.3 (let long = length-append p.0 p.1 in let e = ap length p.2 in omega (arith, enough, long, e)))
items_are limit [] i unit (u ∷ us) done sc outer l xs p deep enough room =
    let end : Token = token kinds.End l in
    split (λ ts. length ts ≤ length unit → items_run limit unit (u ∷ us) done (sc ∷ outer) ts ≡ Ok (done ++ i ∷ [])) xs (end ∷ []) p (λ ys zs py a. subst (λ ts. length (ys ++ (ts ++ (end ∷ []))) ≤ length unit → items_run limit unit (u ∷ us) done (sc ∷ outer) (ys ++ (ts ++ (end ∷ []))) ≡ Ok (done ++ i ∷ [])) (sym a) (λ small.
    next (item_read limit unit (sc ∷ outer) (ys ++ (end ∷ []))) (i, end ∷ [], after_item sc i ∷ outer) (λ x. items_next (items_run limit unit us) (with_item done x.0) x.2 x.1) (Ok (done ++ i ∷ [])) (item_is limit unit i sc outer ys (end ∷ []) py (omega (arith, deep)) small tt) refl)) room
items_are limit (j ∷ is) i unit (u ∷ us) done sc outer l xs p deep enough room =
    let end : Token = token kinds.End l in
    let sc1 = after_item sc i in
    let all = done ++ i ∷ j ∷ is in
    split (λ ts. length ts ≤ length xs + 1 → length ts ≤ length unit → items_run limit unit (u ∷ us) done (sc ∷ outer) ts ≡ Ok all) xs (end ∷ []) p (λ ys zs py pz short small.
    let long = length-append ys (zs ++ (end ∷ [])) in
    let longer = length-append zs (end ∷ []) in
    let some = item_long i sc ys py in
    next (item_read limit unit (sc ∷ outer) (ys ++ (zs ++ (end ∷ [])))) (i, zs ++ (end ∷ []), sc1 ∷ outer) (λ x. items_next (items_run limit unit us) (with_item done x.0) x.2 x.1) (Ok all) (item_is limit unit i sc outer ys (zs ++ (end ∷ [])) py (omega (arith, deep)) small (left_more zs (end ∷ []) tt))
    (unless (is_here marks.End (zs ++ (end ∷ []))) (Ok (done ++ i ∷ [])) (items_run limit unit us (done ++ i ∷ []) (sc1 ∷ outer) (zs ++ (end ∷ []))) (first_here NoEnd (zs ++ (end ∷ [])) (left_more zs (end ∷ []) tt) (items_first j is sc1 zs (end ∷ []) pz))
    ∙ (items_are limit is j unit us (done ++ i ∷ []) sc1 outer l zs pz (omega (arith, deep)) (omega (arith, short, long, longer, some, enough)) (omega (arith, small, long))
    ∙ ap (λ x. Ok x) (append_assoc done (i ∷ []) (j ∷ is))))) (let e = length-append xs (end ∷ []) in omega (arith, e)) room

unit_by : (limit : ℕ) (is : List t.ItemTree) (ts : List Token) → (some_items no_types is ▸ some kinds.End) ts → deepest item_depth is ≤ limit → unit_read limit ts ≡ Ok (record { items = is })
unit_by limit [] ts p deep = absurd (p.3)
unit_by limit (i ∷ is) ts p deep =
    let end : Token = token kinds.End p.4.0 in
    let xs = p.0 in
    let all = xs ++ (end ∷ []) in
    let long = length-append xs (end ∷ []) in
    subst (λ x. unit_read limit x ≡ Ok (record { items = i ∷ is })) (sym (p.2 ∙ ap (λ x. xs ++ x) p.4.1))
    (unless (nat_eq (length all) 0) (Err nothing_there) (whole_unit limit all) (ne_eqb (length all) 0 (λ e. omega (arith, e, long)))
    ∙ next (items_read limit all (no_types ∷ []) all) (i ∷ is) (λ x. Ok (record { items = x })) (Ok (record { items = i ∷ is })) (items_are limit is i all all [] no_types [] p.4.0 xs p.3 deep (omega (arith, long)) (omega arith)) refl)

pub unit_is : (limit : ℕ) (ts : List Token) (u : t.UnitTree) → units u ts → unit_depth u ≤ limit → unit_read limit ts ≡ Ok u
unit_is limit ts u p deep = unit_by limit u.items ts p deep
