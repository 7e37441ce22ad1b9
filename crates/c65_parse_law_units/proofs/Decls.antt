-- Declarations (C90 6.5).
use Rattle.std.proofs.Common.{◌≡◌, ℕ, suc, ◌≤◌, List, [], ◌∷◌, ◌++◌, length, length-append, append_assoc, Bool, true, false, refl, sym, ap, ◌∙◌, subst, inl, inr, arith}
use Rattle.std.specs.Prelude.{Ok, Option, None, Some}
use Rattle.c65_base.specs.declared.names.Name.{Name}
use Rattle.c65_base.specs.declared.refusal.Pos.{Pos}
use Rattle.c65_scan.specs.declared.token.Keyword.TheVariants as keywords
use Rattle.c65_scan.specs.declared.token.Punct.TheVariants as puncts
use Rattle.c65_scan.specs.declared.token.Token.{Token}
use Rattle.c65_scan.specs.declared.token.TokenKind.{TokenKind}
use Rattle.c65_scan.specs.declared.token.TokenKind.TheVariants as kinds
use Rattle.c65_tree.specs.Trees as t
use Rattle.c65_tree.specs.Lists.{of_option, deepest}
use Rattle.c65_tree.specs.Depth.{init_depth, specifiers_depth, declarator_depth, init_declarator_depth, decl_depth}
use Rattle.c65_parse_names.specs.Scopes.{Blocks}
use Rattle.c65_parse.specs.declared.frame.Sort.TheVariants as sorts
use Rattle.c65_parse.specs.Reading.{Answer, after_token, specifiers_read, declarator_read}
use Rattle.c65_parse_frames.specs.declared.sign.Mark.TheVariants as marks
use Rattle.c65_parse_frames.specs.Signs.{sign_of, is_mark}
use Rattle.c65_decl.specs.Here.{is_here, expected}
use Rattle.c65_decl.specs.Declaring.{naming_of, declared_maybe, named_read}
use Rattle.c65_decl.specs.Initialisers.{optional_init_read}
use Rattle.c65_decl.specs.Decls.{all_declared, more_declared, with_declarator, last_declarator, next_declarator, behind_declarator, declarators_step, declarators_next, declarators_run, declarators_read, declaration_from, empty_declaration, declarators_begun, behind_specifiers, declaration_read}
use Rattle.c65_parse_grammar.specs.Phrases.{◌▸◌, token, some_mark}
use Rattle.c65_parse_grammar.specs.Parts.{has_type, is_typedef, declarator_start, declared_name}
use Rattle.c65_parse_grammar.specs.Scopes.{Scope, declare_maybe, after_specifiers, after_declarator, after_maybe_init, after_declarators, after_decl, declared}
use Rattle.c65_parse_grammar.specs.Expressions as g
use Rattle.c65_parse_grammar.specs.Statements.{optional_init, init_declarators, declaration, head_specifiers}
use Rattle.c65_parse_law_trees.specs.Read.{EndsSpecifiers}
use Rattle.c65_parse_law_trees.specs.Tokens.{NoSuffix}
use Rattle.c65_parse_law_trees.proofs.Runs.{First, split, before_some, behind_some}
use Rattle.c65_parse_law_trees.proofs.Ends.{not_nameless}
use Rattle.c65_parse_law_trees.proofs.Firsts.{Opens, opens_first, opens_map, DeclaratorKind, Declares, begins_declarator}
use Rattle.c65_parse_law_trees.proofs.Top.{specifiers_are_read, declarators_are_read}
use Rattle.c65_parse_law_units.proofs.Heres.{Left, left_more, passed, is_here_is, opens_here, next, when, unless, expected_is}
use Rattle.c65_parse_law_units.proofs.Inits.{EndsInit, OptionFits, optional_is}

declared_by : (n : Option Name) (is_type : Bool) (sc : Scope) (outer : Blocks) → declared_maybe n is_type (sc ∷ outer) ≡ declare_maybe n is_type sc ∷ outer
declared_by None is_type sc outer = refl
declared_by (Some n) is_type sc outer = refl

abbrev Plain : Token → Type 0
Plain tok = NoSuffix tok.kind

-- a declarator, and its name declared behind it
pub named_is : (limit : ℕ) (q : t.SpecifiersTree) (sc : Scope) (outer : Blocks) (d : t.DeclaratorTree) (xs ts : List Token) → g.declarator (g.named (has_type q)) sc (declarator_start d) d xs → declarator_depth d ≤ limit → Left ts → First Plain ts
    → named_read limit (naming_of q) (sc ∷ outer) (xs ++ ts) ≡ Ok (d, ts, declared (is_typedef q) sc d ∷ outer)
named_is limit q sc outer d xs [] p deep left f = absurd left
named_is limit q sc outer d xs (r ∷ rs) p deep left f =
    next (declarator_read limit (sorts.Named (has_type q)) (sc ∷ outer) (xs ++ r ∷ rs)) (d, r ∷ rs, after_declarator sc d ∷ outer) (λ x. Ok (x.0, x.1, declared_maybe (declared_name x.0) (is_typedef q) x.2)) (Ok (d, r ∷ rs, declared (is_typedef q) sc d ∷ outer))
    (declarators_are_read limit (sorts.Named (has_type q)) sc outer (declarator_start d) d xs r rs p deep f)
    (ap (λ x. Ok (d, r ∷ rs, x)) (declared_by (declared_name d) (is_typedef q) (after_declarator sc d) outer))

-- behind a declarator
record Behind (tok : Token) : Type 0 where
  pub plain : Plain tok

abbrev Follows : Token → Type 0
Follows tok = Plain tok × (EndsInit tok)

abbrev ListsOn : Token → Type 0
ListsOn tok = EndsInit tok × (is_mark marks.Equal (sign_of tok.kind) ≡ false)

pub more_first : (ds : List t.InitDeclaratorTree) (q : t.SpecifiersTree) (sc : Scope) (k : Pos) (zs rest : List Token) → init_declarators false q sc ds zs → First ListsOn (zs ++ token (kinds.Punct puncts.Semicolon) k ∷ rest)
more_first [] q sc k zs rest p = subst (λ ts. First ListsOn (ts ++ token (kinds.Punct puncts.Semicolon) k ∷ rest)) (sym p) (inl refl, refl)
more_first (d ∷ ds) q sc k zs rest p = before_some (λ ts. First ListsOn ts) (kinds.Punct puncts.Comma) zs (token (kinds.Punct puncts.Semicolon) k ∷ rest) p (λ l us pu. (inr (omega arith), refl))

more_plain : (ds : List t.InitDeclaratorTree) (q : t.SpecifiersTree) (sc : Scope) (k : Pos) (zs rest : List Token) → init_declarators false q sc ds zs → First Plain (zs ++ token (kinds.Punct puncts.Semicolon) k ∷ rest)
more_plain [] q sc k zs rest p = subst (λ ts. First Plain (ts ++ token (kinds.Punct puncts.Semicolon) k ∷ rest)) (sym p) tt
more_plain (d ∷ ds) q sc k zs rest p = before_some (λ ts. First Plain ts) (kinds.Punct puncts.Comma) zs (token (kinds.Punct puncts.Semicolon) k ∷ rest) p (λ l us pu. tt)

pub behind_first : (i : Option t.InitTree) (ds : List t.InitDeclaratorTree) (q : t.SpecifiersTree) (inner sc : Scope) (k : Pos) (ws rest : List Token) → (optional_init inner i ▸ init_declarators false q sc ds) ws → First Plain (ws ++ token (kinds.Punct puncts.Semicolon) k ∷ rest)
behind_first None ds q inner sc k ws rest p = split (λ ts. First Plain ts) ws (token (kinds.Punct puncts.Semicolon) k ∷ rest) p (λ ys zs a pz. subst (λ ts. First Plain (ts ++ (zs ++ token (kinds.Punct puncts.Semicolon) k ∷ rest))) (sym a) (more_plain ds q sc k zs rest pz))
behind_first (Some i) ds q inner sc k ws rest p = split (λ ts. First Plain ts) ws (token (kinds.Punct puncts.Semicolon) k ∷ rest) p (λ ys zs py pz. before_some (λ ts. First Plain ts) (kinds.Punct puncts.Equal) ys (zs ++ token (kinds.Punct puncts.Semicolon) k ∷ rest) py (λ l us pu. tt))

optional_of : (limit : ℕ) (unit : List Token) (sc : Scope) (outer : Blocks) (i : Option t.InitTree) (xs ts : List Token) → optional_init sc i xs → OptionFits limit i → length (xs ++ ts) ≤ length unit → Left ts → First ListsOn ts
    → optional_init_read limit unit (sc ∷ outer) (xs ++ ts) ≡ Ok (i, ts, after_maybe_init sc i ∷ outer)
optional_of limit unit sc outer i xs [] p deep enough left f = absurd left
optional_of limit unit sc outer i xs (r ∷ rs) p deep enough left f = optional_is limit unit sc outer i xs r rs p deep enough f.0 f.1

option_fits : (limit : ℕ) (i : Option t.InitTree) → of_option init_depth i ≤ limit → OptionFits limit i
option_fits limit None h = tt
option_fits limit (Some i) h = h

-- the declarators of a declaration behind one, and the semicolon
declarators_are : (limit : ℕ) (ds : List t.InitDeclaratorTree) (unit us : List Token) (q : t.SpecifiersTree) (done : List t.InitDeclaratorTree) (e : t.DeclaratorTree) (i : Option t.InitTree) (sc : Scope) (outer : Blocks) (k : Pos) (xs rest : List Token)
    → (optional_init sc i ▸ init_declarators false q (after_maybe_init sc i) ds) xs → OptionFits limit i → deepest init_declarator_depth ds ≤ limit → length (xs ++ token (kinds.Punct puncts.Semicolon) k ∷ rest) ≤ length us → length (xs ++ token (kinds.Punct puncts.Semicolon) k ∷ rest) ≤ length unit → Left rest
    → declarators_run limit unit (naming_of q) us done e (sc ∷ outer) (xs ++ token (kinds.Punct puncts.Semicolon) k ∷ rest) ≡ Ok (done ++ record { declarator = e; init = i } ∷ ds, rest, after_declarators (is_typedef q) (after_maybe_init sc i) ds ∷ outer)
declarators_are limit ds unit [] q done e i sc outer k xs rest p fit deep enough room left = let long = length-append xs (token (kinds.Punct puncts.Semicolon) k ∷ rest) in absurd (omega (arith, enough, long))
declarators_are limit [] unit (u ∷ us) q done e i sc outer k xs rest p fit deep enough room left =
    let semi : Token = token (kinds.Punct puncts.Semicolon) k in
    let one : t.InitDeclaratorTree = record { declarator = e; init = i } in
    let all = done ++ one ∷ [] in
    let sc1 = after_maybe_init sc i in
    split (λ ts. length ts ≤ length unit → declarators_run limit unit (naming_of q) (u ∷ us) done e (sc ∷ outer) ts ≡ Ok (all, rest, sc1 ∷ outer)) xs (semi ∷ rest) p (λ ys zs py a. subst (λ ws. length (ys ++ (ws ++ semi ∷ rest)) ≤ length unit → declarators_run limit unit (naming_of q) (u ∷ us) done e (sc ∷ outer) (ys ++ (ws ++ semi ∷ rest)) ≡ Ok (all, rest, sc1 ∷ outer)) (sym a) (λ short.
    next (declarators_step limit unit (naming_of q) done e (sc ∷ outer) (ys ++ semi ∷ rest)) (all_declared all, rest, sc1 ∷ outer) (declarators_next (declarators_run limit unit (naming_of q) us)) (Ok (all, rest, sc1 ∷ outer))
    (next (optional_init_read limit unit (sc ∷ outer) (ys ++ semi ∷ rest)) (i, semi ∷ rest, sc1 ∷ outer) (λ x. behind_declarator limit (naming_of q) (with_declarator done e x.0) x.2 x.1) (Ok (all_declared all, rest, sc1 ∷ outer))
    (optional_of limit unit sc outer i ys (semi ∷ rest) py fit short tt (inl refl, refl))
    (unless (is_here marks.Comma (semi ∷ rest)) (next_declarator limit (naming_of q) all (sc1 ∷ outer) (after_token (semi ∷ rest))) (last_declarator all (sc1 ∷ outer) (semi ∷ rest)) (is_here_is marks.Comma semi rest)
    ∙ next (expected marks.Semicolon (sc1 ∷ outer) (semi ∷ rest)) (rest, sc1 ∷ outer) (λ x. Ok (all_declared all, x.0, x.1)) (Ok (all_declared all, rest, sc1 ∷ outer)) (expected_is marks.Semicolon (sc1 ∷ outer) semi rest refl left) refl))
    refl)) room
declarators_are limit (d ∷ ds) unit (u ∷ us) q done e i sc outer k xs rest p fit deep enough room left =
    let semi : Token = token (kinds.Punct puncts.Semicolon) k in
    let one : t.InitDeclaratorTree = record { declarator = e; init = i } in
    let sc1 = after_maybe_init sc i in
    let inner = declared (is_typedef q) sc1 d.declarator in
    let sc2 = after_declarators (is_typedef q) (after_maybe_init inner d.init) ds in
    let end : Answer (List t.InitDeclaratorTree) = Ok (done ++ one ∷ d ∷ ds, rest, sc2 ∷ outer) in
    split (λ ts. length ts ≤ suc (length us) → length ts ≤ length unit → declarators_run limit unit (naming_of q) (u ∷ us) done e (sc ∷ outer) ts ≡ end) xs (semi ∷ rest) p (λ ys zs py pz.
    before_some (λ ts. length (ys ++ ts) ≤ suc (length us) → length (ys ++ ts) ≤ length unit → declarators_run limit unit (naming_of q) (u ∷ us) done e (sc ∷ outer) (ys ++ ts) ≡ end) (kinds.Punct puncts.Comma) zs (semi ∷ rest) pz (λ j vs pv.
    let comma : Token = token (kinds.Punct puncts.Comma) j in
    split (λ ts. length (ys ++ (comma ∷ ts)) ≤ suc (length us) → length (ys ++ (comma ∷ ts)) ≤ length unit → declarators_run limit unit (naming_of q) (u ∷ us) done e (sc ∷ outer) (ys ++ (comma ∷ ts)) ≡ end) vs (semi ∷ rest) pv (λ ws ns pw pn short small.
    let tail = ns ++ semi ∷ rest in
    let long = length-append ys (comma ∷ (ws ++ tail)) in
    let longer = length-append ws tail in
    next (declarators_step limit unit (naming_of q) done e (sc ∷ outer) (ys ++ (comma ∷ (ws ++ tail)))) (more_declared (done ++ one ∷ []) d.declarator, tail, inner ∷ outer) (declarators_next (declarators_run limit unit (naming_of q) us)) end
    (next (optional_init_read limit unit (sc ∷ outer) (ys ++ (comma ∷ (ws ++ tail)))) (i, comma ∷ (ws ++ tail), sc1 ∷ outer) (λ x. behind_declarator limit (naming_of q) (with_declarator done e x.0) x.2 x.1) (Ok (more_declared (done ++ one ∷ []) d.declarator, tail, inner ∷ outer))
    (optional_of limit unit sc outer i ys (comma ∷ (ws ++ tail)) py fit small tt (inr (omega arith), refl))
    (when (is_here marks.Comma (comma ∷ (ws ++ tail))) (next_declarator limit (naming_of q) (done ++ one ∷ []) (sc1 ∷ outer) (after_token (comma ∷ (ws ++ tail)))) (last_declarator (done ++ one ∷ []) (sc1 ∷ outer) (comma ∷ (ws ++ tail))) (is_here_is marks.Comma comma (ws ++ tail))
    ∙ (ap (next_declarator limit (naming_of q) (done ++ one ∷ []) (sc1 ∷ outer)) (passed comma (ws ++ tail) (left_more ws tail (left_more ns (semi ∷ rest) tt)))
    ∙ next (named_read limit (naming_of q) (sc1 ∷ outer) (ws ++ tail)) (d.declarator, tail, inner ∷ outer) (λ x. Ok (more_declared (done ++ one ∷ []) x.0, x.1, x.2)) (Ok (more_declared (done ++ one ∷ []) d.declarator, tail, inner ∷ outer))
    (named_is limit q sc1 outer d.declarator ws tail pw (omega (arith, deep)) (left_more ns (semi ∷ rest) tt) (behind_first d.init ds q inner (after_maybe_init inner d.init) k ns rest pn)) refl)))
    (declarators_are limit ds unit us q (done ++ one ∷ []) d.declarator d.init inner outer k ns rest pn (option_fits limit d.init (omega (arith, deep))) (omega (arith, deep)) (omega (arith, short, long, longer)) (omega (arith, small, long, longer)) left
    ∙ ap (λ x. Ok (x, rest, sc2 ∷ outer)) (append_assoc done (one ∷ []) (d ∷ ds)))))) enough room

-- with what a declaration's declarators begin
abbrev pub EndsThem : t.SpecifiersTree → Scope → Token → Type 0
EndsThem q sc tok = EndsSpecifiers (has_type q) sc tok.kind

declares_ends : (typed : Bool) (sc : Scope) (d : t.DeclaratorTree) (k : TokenKind) → DeclaratorKind (g.named typed) sc d k → EndsSpecifiers typed sc k × (is_mark marks.Semicolon (sign_of k) ≡ false)
declares_ends typed sc d (kinds.Name n) h = (h.0, refl)
declares_ends typed sc d (kinds.Keyword keywords.FastCall) h = (refl, refl)
declares_ends typed sc d (kinds.Keyword keywords.CDecl) h = (refl, refl)
declares_ends typed sc d (kinds.Keyword _) h = absurd h
declares_ends typed sc d (kinds.Punct puncts.Star) h = (tt, refl)
declares_ends typed sc d (kinds.Punct puncts.OpenParen) h = (tt, refl)
declares_ends typed sc d (kinds.Punct puncts.OpenBracket) h = (tt, refl)
declares_ends typed sc d (kinds.Punct _) h = absurd h
declares_ends typed sc d (kinds.Number ty n) h = absurd h
declares_ends typed sc d (kinds.Text bs) h = absurd h
declares_ends typed sc d kinds.End h = absurd h

pub begins_named : (typed : Bool) (sc : Scope) (d : t.DeclaratorTree) (xs : List Token) → g.declarator (g.named typed) sc (declarator_start d) d xs → Opens (λ tok. EndsSpecifiers typed sc tok.kind × (is_mark marks.Semicolon (sign_of tok.kind) ≡ false)) xs
begins_named typed sc d xs p = opens_map (Declares (g.named typed) sc d) _ xs (λ tok h. declares_ends typed sc d tok.kind h.0) (begins_declarator d (g.named typed) sc (declarator_start d) xs (not_nameless d (g.named typed) sc (declarator_start d) xs refl p) p)

pub head_is : (q : t.SpecifiersTree) (sc : Scope) (m : Pos) (xs : List Token) → g.specifiers sc true q xs → head_specifiers sc m q xs
head_is (t.specifiers l t.no_specifiers) sc m xs p = absurd (let e = p.0.0 in cc)
head_is (t.specifiers l (t.and_specifier qs q)) sc m xs p = p

pub specifiers_of : (limit : ℕ) (q : t.SpecifiersTree) (sc : Scope) (outer : Blocks) (xs ts : List Token) → g.specifiers sc true q xs → specifiers_depth q ≤ limit → Left ts → First (EndsThem q (after_specifiers sc q)) ts → specifiers_read limit (sc ∷ outer) (xs ++ ts) ≡ Ok (q, ts, after_specifiers sc q ∷ outer)
specifiers_of limit q sc outer xs [] p deep left f = absurd left
specifiers_of limit q sc outer xs (r ∷ rs) p deep left f = specifiers_are_read limit sc outer q xs r rs (head_is q sc r.pos xs p) deep f

-- a declaration's declarators, and the semicolon
pub declarators_behind : (limit : ℕ) (unit : List Token) (q : t.SpecifiersTree) (d : t.InitDeclaratorTree) (ds : List t.InitDeclaratorTree) (sc : Scope) (outer : Blocks) (k : Pos) (ns rest : List Token) → let inner = declared (is_typedef q) sc d.declarator in
    (optional_init inner d.init ▸ init_declarators false q (after_maybe_init inner d.init) ds) ns → deepest init_declarator_depth (d ∷ ds) ≤ limit → length (ns ++ token (kinds.Punct puncts.Semicolon) k ∷ rest) ≤ length unit → Left rest
    → declaration_from limit unit q d.declarator (declared (is_typedef q) sc d.declarator ∷ outer) (ns ++ token (kinds.Punct puncts.Semicolon) k ∷ rest) ≡ Ok (record { specifiers = q; declarators = d ∷ ds }, rest, after_declarators (is_typedef q) sc (d ∷ ds) ∷ outer)
declarators_behind limit unit q d ds sc outer k ns rest p deep enough left =
    let inner = declared (is_typedef q) sc d.declarator in
    next (declarators_read limit unit (naming_of q) d.declarator (inner ∷ outer) (ns ++ token (kinds.Punct puncts.Semicolon) k ∷ rest)) (d ∷ ds, rest, after_declarators (is_typedef q) sc (d ∷ ds) ∷ outer) (λ x. Ok (record { specifiers = q; declarators = x.0 }, x.1, x.2)) (Ok (record { specifiers = q; declarators = d ∷ ds }, rest, after_declarators (is_typedef q) sc (d ∷ ds) ∷ outer))
    (declarators_are limit ds unit unit q [] d.declarator d.init inner outer k ns rest p (option_fits limit d.init (omega (arith, deep))) (omega (arith, deep)) enough enough left) refl

declaration_by : (limit : ℕ) (unit : List Token) (q : t.SpecifiersTree) (ds : List t.InitDeclaratorTree) (sc : Scope) (outer : Blocks) (xs rest : List Token) → (g.specifiers sc true q ▸ init_declarators true q (after_specifiers sc q) ds ▸ some_mark puncts.Semicolon) xs → specifiers_depth q ≤ limit → deepest init_declarator_depth ds ≤ limit → length (xs ++ rest) ≤ length unit → Left rest
    → declaration_read limit unit (sc ∷ outer) (xs ++ rest) ≡ Ok (record { specifiers = q; declarators = ds }, rest, after_declarators (is_typedef q) (after_specifiers sc q) ds ∷ outer)
declaration_by limit unit q [] sc outer xs rest p deep fit enough left =
    let sc1 = after_specifiers sc q in
    let end : Answer t.DeclTree = Ok (record { specifiers = q; declarators = [] }, rest, sc1 ∷ outer) in
    split (λ ts. declaration_read limit unit (sc ∷ outer) ts ≡ end) xs rest p (λ ys us py pu.
    behind_some (λ ts. declaration_read limit unit (sc ∷ outer) (ys ++ ts) ≡ end) (kinds.Punct puncts.Semicolon) us rest pu (λ k zs a. subst (λ ts. declaration_read limit unit (sc ∷ outer) (ys ++ (ts ++ (token (kinds.Punct puncts.Semicolon) k ∷ rest))) ≡ end) (sym a)
    (let semi : Token = token (kinds.Punct puncts.Semicolon) k in
    next (specifiers_read limit (sc ∷ outer) (ys ++ (semi ∷ rest))) (q, semi ∷ rest, sc1 ∷ outer) (λ x. behind_specifiers limit unit x.0 x.2 x.1) end (specifiers_of limit q sc outer ys (semi ∷ rest) py deep tt tt)
    (when (is_here marks.Semicolon (semi ∷ rest)) (Ok (empty_declaration q (sc1 ∷ outer) (semi ∷ rest))) (declarators_begun limit unit q (sc1 ∷ outer) (semi ∷ rest)) (is_here_is marks.Semicolon semi rest)
    ∙ ap (λ ts. Ok (record { specifiers = q; declarators = [] }, ts, sc1 ∷ outer)) (passed semi rest left)))))
declaration_by limit unit q (d ∷ ds) sc outer xs rest p deep fit enough left =
    let sc1 = after_specifiers sc q in
    let inner = declared (is_typedef q) sc1 d.declarator in
    let end : Answer t.DeclTree = Ok (record { specifiers = q; declarators = d ∷ ds }, rest, after_declarators (is_typedef q) sc1 (d ∷ ds) ∷ outer) in
    split (λ ts. length ts ≤ length unit → declaration_read limit unit (sc ∷ outer) ts ≡ end) xs rest p (λ ys us py pu.
    behind_some (λ ts. length (ys ++ ts) ≤ length unit → declaration_read limit unit (sc ∷ outer) (ys ++ ts) ≡ end) (kinds.Punct puncts.Semicolon) us rest pu (λ k vs pv.
    let semi : Token = token (kinds.Punct puncts.Semicolon) k in
    split (λ ts. length (ys ++ ts) ≤ length unit → declaration_read limit unit (sc ∷ outer) (ys ++ ts) ≡ end) vs (semi ∷ rest) pv (λ ms ws a pw. subst (λ ts. length (ys ++ (ts ++ (ws ++ semi ∷ rest))) ≤ length unit → declaration_read limit unit (sc ∷ outer) (ys ++ (ts ++ (ws ++ semi ∷ rest))) ≡ end) (sym a)
    (split (λ ts. length (ys ++ ts) ≤ length unit → declaration_read limit unit (sc ∷ outer) (ys ++ ts) ≡ end) ws (semi ∷ rest) pw (λ zs ns pz pn short.
    let tail = ns ++ semi ∷ rest in
    let long = length-append ys (zs ++ tail) in
    let longer = length-append zs tail in
    let o = begins_named (has_type q) sc1 d.declarator zs pz in
    next (specifiers_read limit (sc ∷ outer) (ys ++ (zs ++ tail))) (q, zs ++ tail, sc1 ∷ outer) (λ x. behind_specifiers limit unit x.0 x.2 x.1) end
    (specifiers_of limit q sc outer ys (zs ++ tail) py deep (left_more zs tail (left_more ns (semi ∷ rest) tt)) (opens_first (EndsThem q sc1) zs tail (opens_map _ (EndsThem q sc1) zs (λ tok h. h.0) o)))
    (unless (is_here marks.Semicolon (zs ++ tail)) (Ok (empty_declaration q (sc1 ∷ outer) (zs ++ tail))) (declarators_begun limit unit q (sc1 ∷ outer) (zs ++ tail)) (opens_here (λ tok. EndsSpecifiers (has_type q) sc1 tok.kind × (is_mark marks.Semicolon (sign_of tok.kind) ≡ false)) zs tail o).1
    ∙ next (named_read limit (naming_of q) (sc1 ∷ outer) (zs ++ tail)) (d.declarator, tail, inner ∷ outer) (λ x. declaration_from limit unit q x.0 x.2 x.1) end
    (named_is limit q sc1 outer d.declarator zs tail pz (omega (arith, fit)) (left_more ns (semi ∷ rest) tt) (behind_first d.init ds q inner (after_maybe_init inner d.init) k ns rest pn))
    (declarators_behind limit unit q d ds sc1 outer k ns rest pn fit (omega (arith, short, long, longer)) left))))))) enough

pub declaration_is : (limit : ℕ) (unit : List Token) (d : t.DeclTree) (sc : Scope) (outer : Blocks) (xs rest : List Token) → declaration sc d xs → decl_depth d ≤ limit → length (xs ++ rest) ≤ length unit → Left rest → declaration_read limit unit (sc ∷ outer) (xs ++ rest) ≡ Ok (d, rest, after_decl sc d ∷ outer)
declaration_is limit unit d sc outer xs rest p deep enough left = declaration_by limit unit d.specifiers d.declarators sc outer xs rest p (omega (arith, deep)) (omega (arith, deep)) enough left
