-- Declarations where specifiers begin.
use Rattle.std.proofs.Common.{◌≡◌, ℕ, List, [], ◌∷◌, ◌++◌, Bool, true, false, refl, sym, ap, ◌∙◌, subst, append_assoc, arith}
use Rattle.std.specs.Prelude.{Ok, Err, ◌||◌}
use Rattle.c65_base.specs.Answers.{◌>>=◌}
use Rattle.c65_base.specs.declared.refusal.Pos.{Pos}
use Rattle.c65_scan.specs.declared.token.Keyword.{Keyword}
use Rattle.c65_scan.specs.declared.token.Keyword.TheVariants as keywords
use Rattle.c65_scan.specs.declared.token.Punct.{Punct}
use Rattle.c65_scan.specs.declared.token.Punct.TheVariants as puncts
use Rattle.c65_scan.specs.declared.token.Token.{Token}
use Rattle.c65_scan.specs.declared.token.TokenKind.{TokenKind}
use Rattle.c65_scan.specs.declared.token.TokenKind.TheVariants as kinds
use Rattle.c65_tree.specs.Trees as t
use Rattle.c65_parse_trees.specs.declared.sign.Sign.TheVariants as measured
use Rattle.c65_parse_trees.specs.declared.sign.Sign.{Sign}
use Rattle.c65_parse_trees.specs.Signs as signs
use Rattle.c65_parse_trees.specs.Listings.{nothing_listed}
use Rattle.c65_parse_names.specs.Scopes.{Blocks}
use Rattle.c65_parse.specs.Frames.{done_expr, done_specifiers, done_declarator, specifiers}
use Rattle.c65_parse.specs.Machine.{Reading, step}
use Rattle.c65_parse.specs.Reading.{as_specifiers, specifiers_read}
use Rattle.c65_parse.specs.Specifiers.{specifiers_step}
use Rattle.c65_parse_frames.specs.declared.sign.Sign.TheVariants as stmts
use Rattle.c65_parse_frames.specs.declared.sign.Sign as stmts_sign
use Rattle.c65_parse_frames.specs.declared.sign.Mark.TheVariants as marks
use Rattle.c65_parse_frames.specs.Signs.{sign_of, sign_of_keyword, sign_of_punct, starts_declaration}
use Rattle.c65_decl.specs.Here.{is_here, names_type, begins_specifiers}
use Rattle.c65_decl.specs.Words.{name_of, is_specifier}
use Rattle.c65_decl.specs.Declaring.{naming_of, named_read}
use Rattle.c65_decl.specs.Decls.{empty_declaration, declarators_begun, declaration_read, with_decl, declarations_run, declarations_read}
use Rattle.c65_parse_grammar.specs.Phrases.{◌▸◌}
use Rattle.c65_parse_grammar.specs.Scopes.{Scope, after_specifiers, after_decl, after_decls}
use Rattle.c65_parse_grammar.specs.Expressions as g
use Rattle.c65_parse_grammar.specs.Statements.{declaration, declarations}
use Rattle.c65_parse_law_sound.proofs.Phrases.{cons_nil, both, regroup, map_right, behind_nothing}
use Rattle.c65_parse_law_sound.proofs.States.{some_or_none}
use Rattle.c65_parse_law_sound.proofs.Specifiers.{listing_begun}
use Rattle.c65_parse_law_sound.proofs.Run.{Read, IsGo, run_taken}
use Rattle.c65_parse_law_sound.proofs.Derivations.{at_specifiers}
use Rattle.c65_parse_law_sound.proofs.Got.{EndsIn, ends_behind, Got, seq, weaken, got_if, first_of_mark, is_mark_of, past}
use Rattle.c65_parse_law_sound.proofs.Parts.{named_got}
use Rattle.c65_parse_law_sound.proofs.Inits.{at_nothing, nil_behind}
use Rattle.c65_parse_law_sound.proofs.Decls.{from_got}

first_goes : (limit : ℕ) (l : Pos) (sign : Sign) → signs.begins_specifiers sign ≡ true → IsGo (specifiers_step limit (nothing_listed true) [] l sign)
unfolding specifiers_step
first_goes limit l (measured.Word w) e = tt
first_goes limit l (measured.Storage c) e = tt
first_goes limit l (measured.Tag w) e = tt
first_goes limit l (measured.Name n true) e = tt
first_goes limit l _ e = absurd cc

step_goes : (limit : ℕ) (sc : Scope) (outer : Blocks) (tok : Token) → signs.begins_specifiers (signs.sign_of sc tok) ≡ true → IsGo (step limit 0 (sc ∷ outer) [] (specifiers (nothing_listed true)) tok)
unfolding step
step_goes limit sc outer tok e = first_goes limit tok.pos (signs.sign_of sc tok) e

some_left : (sc : Scope) (l : Pos) (q : t.SpecifiersTree) (tok : Token) (more : List Token) → some_or_none sc true l q (tok ∷ more) → g.specifiers sc true q (tok ∷ more)
some_left sc l (t.specifiers k t.no_specifiers) tok more h = absurd (cons_nil tok more h.1)
some_left sc l (t.specifiers k (t.and_specifier qs q)) tok more h = h

some_answered : (sc : Scope) (outer : Blocks) (tok : Token) (ts : List Token) (r : Reading) → EndsIn (tok ∷ ts) → Read (at_specifiers true sc outer) (tok ∷ []) ts r → Got (g.specifiers sc true) (λ q. after_specifiers sc q ∷ outer) (tok ∷ ts) ((r >>= as_specifiers) >>= (λ q. Ok (q.0.tree, q.1, q.2)))
some_answered sc outer tok ts (Err e) ends h = tt
some_answered sc outer tok ts (Ok (done_expr e, rest, scope)) ends h = tt
some_answered sc outer tok ts (Ok (done_specifiers q, rest, scope)) ends h = record {
  front = tok ∷ h.0;
  tokens_are = ap (λ us. tok ∷ us) h.4;
  ends = subst EndsIn (sym h.3) (ends_behind (tok ∷ h.0) h.1 h.2 (subst EndsIn (ap (λ us. tok ∷ us) (h.4 ∙ ap (λ us. h.0 ++ us) h.3)) ends));
  derives = some_left sc h.1.pos q.tree tok h.0 h.5.1;
  scope_is = h.5.0;
}
some_answered sc outer tok ts (Ok (done_declarator d, rest, scope)) ends h = tt

-- where a specifier begins, some are read
some_got : (limit : ℕ) (sc : Scope) (outer : Blocks) (tok : Token) (ts : List Token) → signs.begins_specifiers (signs.sign_of sc tok) ≡ true → EndsIn (tok ∷ ts) → Got (g.specifiers sc true) (λ q. after_specifiers sc q ∷ outer) (tok ∷ ts) (specifiers_read limit (sc ∷ outer) (tok ∷ ts))
some_got limit sc outer tok ts e ends = some_answered sc outer tok ts _ ends (run_taken limit (at_specifiers true sc outer) tok ts [] (specifiers (nothing_listed true)) (sc ∷ outer) (record { scope_is = refl; stand = omega arith; fits = refl; reads = listing_begun (at_specifiers true sc outer) [] sc true [] refl }) (step_goes limit sc outer tok e))

keyword_begins : (sc : Scope) (k : Keyword) → is_specifier (sign_of_keyword k) ≡ true → signs.begins_specifiers (signs.sign_of_keyword k) ≡ true
keyword_begins sc keywords.Auto e = refl
keyword_begins sc keywords.Char e = refl
keyword_begins sc keywords.Const e = refl
keyword_begins sc keywords.Double e = refl
keyword_begins sc keywords.Enum e = refl
keyword_begins sc keywords.Extern e = refl
keyword_begins sc keywords.Float e = refl
keyword_begins sc keywords.Int e = refl
keyword_begins sc keywords.Long e = refl
keyword_begins sc keywords.Register e = refl
keyword_begins sc keywords.Short e = refl
keyword_begins sc keywords.Signed e = refl
keyword_begins sc keywords.Static e = refl
keyword_begins sc keywords.Struct e = refl
keyword_begins sc keywords.Typedef e = refl
keyword_begins sc keywords.Union e = refl
keyword_begins sc keywords.Unsigned e = refl
keyword_begins sc keywords.Void e = refl
keyword_begins sc keywords.Volatile e = refl
keyword_begins sc _ e = absurd cc

no_keyword_name : (sc : Scope) (outer : Blocks) (k : Keyword) → (is_specifier (sign_of_keyword k) || names_type (sc ∷ outer) (name_of (sign_of_keyword k))) ≡ true → is_specifier (sign_of_keyword k) ≡ true
no_keyword_name sc outer keywords.Sizeof e = absurd cc
no_keyword_name sc outer keywords.Case e = absurd cc
no_keyword_name sc outer keywords.Default e = absurd cc
no_keyword_name sc outer keywords.If e = absurd cc
no_keyword_name sc outer keywords.Else e = absurd cc
no_keyword_name sc outer keywords.Switch e = absurd cc
no_keyword_name sc outer keywords.While e = absurd cc
no_keyword_name sc outer keywords.Do e = absurd cc
no_keyword_name sc outer keywords.For e = absurd cc
no_keyword_name sc outer keywords.Goto e = absurd cc
no_keyword_name sc outer keywords.Continue e = absurd cc
no_keyword_name sc outer keywords.Break e = absurd cc
no_keyword_name sc outer keywords.Return e = absurd cc
no_keyword_name sc outer keywords.FastCall e = absurd cc
no_keyword_name sc outer keywords.CDecl e = absurd cc
no_keyword_name sc outer keywords.Asm e = absurd cc
no_keyword_name sc outer keywords.UnderscoredAsm e = absurd cc
no_keyword_name sc outer _ e = refl

no_punct : (sc : Scope) (outer : Blocks) (p : Punct) → (is_specifier (sign_of_punct p) || names_type (sc ∷ outer) (name_of (sign_of_punct p))) ≡ true → ⊥
no_punct sc outer puncts.OpenBracket e = cc
no_punct sc outer _ e = cc

-- a keyword of specifiers, or a type's name
begins_kind : (sc : Scope) (outer : Blocks) (k : TokenKind) → (is_specifier (sign_of k) || names_type (sc ∷ outer) (name_of (sign_of k))) ≡ true → signs.begins_specifiers (signs.sign_of_kind sc k) ≡ true
begins_kind sc outer (kinds.Keyword k) e = keyword_begins sc k (no_keyword_name sc outer k e)
begins_kind sc outer (kinds.Name n) e = e
begins_kind sc outer (kinds.Number ty n) e = absurd cc
begins_kind sc outer (kinds.Text bs) e = absurd cc
begins_kind sc outer (kinds.Punct p) e = absurd (no_punct sc outer p e)
begins_kind sc outer kinds.End e = absurd cc

-- specifiers where one begins
pub specifiers_there : (limit : ℕ) (sc : Scope) (outer : Blocks) (ts : List Token) → begins_specifiers (sc ∷ outer) ts ≡ true → EndsIn ts → Got (g.specifiers sc true) (λ q. after_specifiers sc q ∷ outer) ts (specifiers_read limit (sc ∷ outer) ts)
specifiers_there limit sc outer [] e ends = absurd ends
specifiers_there limit sc outer (tok ∷ []) e ends = some_got limit sc outer tok [] (begins_kind sc outer tok.kind e) ends
specifiers_there limit sc outer (tok ∷ u ∷ ts) e ends = some_got limit sc outer tok (u ∷ ts) (begins_kind sc outer tok.kind e) ends

begun_got : (limit : ℕ) (unit : List Token) (q : t.SpecifiersTree) (sc : Scope) (outer : Blocks) (ts zs : List Token) → g.specifiers sc true q zs → EndsIn ts → Got (λ d ys. declaration sc d (zs ++ ys)) (λ d. after_decl sc d ∷ outer) ts (declarators_begun limit unit q (after_specifiers sc q ∷ outer) ts)
begun_got limit unit q sc outer ts zs p ends = seq _ _ _ _ ts (named_read limit (naming_of q) (after_specifiers sc q ∷ outer) ts) _ (named_got limit q (after_specifiers sc q) outer ts ends)
    (λ e xs rest are h left. from_got limit unit q sc outer e rest zs xs p h left)

-- without declarators
pub empty_got : (q : t.SpecifiersTree) (sc : Scope) (outer : Blocks) (ts zs : List Token) → is_here marks.Semicolon ts ≡ true → g.specifiers sc true q zs → EndsIn ts → Got (λ d ys. declaration sc d (zs ++ ys)) (λ d. after_decl sc d ∷ outer) ts (Ok (empty_declaration q (after_specifiers sc q ∷ outer) ts))
empty_got q sc outer ts zs e p ends = let first = first_of_mark marks.Semicolon ts refl e ends in past _ _ ts first (λ r. Ok (record { specifiers = q; declarators = [] }, r, after_specifiers sc q ∷ outer)) (record { front = []; tokens_are = refl; ends = first.ends; derives = (zs, first.tok ∷ [], refl, p, ([], first.tok ∷ [], refl, refl, is_mark_of marks.Semicolon ts first e)); scope_is = refl })

pub declaration_got : (limit : ℕ) (unit : List Token) (sc : Scope) (outer : Blocks) (ts : List Token) → begins_specifiers (sc ∷ outer) ts ≡ true → EndsIn ts → Got (declaration sc) (λ d. after_decl sc d ∷ outer) ts (declaration_read limit unit (sc ∷ outer) ts)
declaration_got limit unit sc outer ts e ends = seq _ _ _ _ ts (specifiers_read limit (sc ∷ outer) ts) _ (specifiers_there limit sc outer ts e ends)
    (λ q zs rest are p left. got_if _ _ rest (is_here marks.Semicolon rest) _ _
    (λ f. empty_got q sc outer rest zs f p left)
    (λ f. begun_got limit unit q sc outer rest zs p left))

pub one_more : (sc : Scope) (ds : List t.DeclTree) (d : t.DeclTree) (xs : List Token) → (declarations sc ds ▸ declaration (after_decls sc ds) d) xs → declarations sc (ds ++ d ∷ []) xs
one_more sc [] d xs p = behind_nothing (at_nothing (declaration sc d) xs p)
one_more sc (e ∷ ds) d xs p = map_right (λ ys q. one_more (after_decl sc e) ds d ys q) (regroup p)

pub behind_more : (sc : Scope) (ds : List t.DeclTree) (d : t.DeclTree) → after_decl (after_decls sc ds) d ≡ after_decls sc (ds ++ d ∷ [])
behind_more sc [] d = refl
behind_more sc (e ∷ ds) d = behind_more (after_decl sc e) ds d

run_got : (limit : ℕ) (unit : List Token) (sc : Scope) (outer : Blocks) (us : List Token) (ds : List t.DeclTree) (ts xs : List Token) → declarations sc ds xs → EndsIn ts → Got (λ es ys. declarations sc es (xs ++ ys)) (λ es. after_decls sc es ∷ outer) ts (declarations_run limit unit us ds (after_decls sc ds ∷ outer) ts)
run_got limit unit sc outer [] ds ts xs p ends = tt
run_got limit unit sc outer (u ∷ us) ds ts xs p ends = got_if _ _ ts (begins_specifiers (after_decls sc ds ∷ outer) ts) _ (Ok (ds, ts, after_decls sc ds ∷ outer))
    (λ e. seq _ _ _ _ ts (declaration_read limit unit (after_decls sc ds ∷ outer) ts) _ (declaration_got limit unit (after_decls sc ds) outer ts e ends)
    (λ d ys rest are h left. subst (λ b. Got (λ es zs. declarations sc es (xs ++ (ys ++ zs))) (λ es. after_decls sc es ∷ outer) rest (declarations_run limit unit us (with_decl ds d) (b ∷ outer) rest)) (sym (behind_more sc ds d))
    (weaken _ _ _ _ rest _ (run_got limit unit sc outer us (with_decl ds d) rest (xs ++ ys) (one_more sc ds d (xs ++ ys) (both _ _ p h)) left) (λ es zs m. subst (declarations sc es) (append_assoc xs ys zs) m) (λ es. refl))))
    (λ e. record { front = []; tokens_are = refl; ends = ends; derives = nil_behind (declarations sc ds) xs p; scope_is = refl })

pub declarations_got : (limit : ℕ) (unit : List Token) (sc : Scope) (outer : Blocks) (ts : List Token) → EndsIn ts → Got (declarations sc) (λ es. after_decls sc es ∷ outer) ts (declarations_read limit unit (sc ∷ outer) ts)
declarations_got limit unit sc outer ts ends = run_got limit unit sc outer unit [] ts [] refl ends

-- what begins a declaration begins specifiers
pub starts_is : (sign : stmts_sign.Sign) (is_type colon : Bool) → starts_declaration sign is_type colon ≡ true → (is_specifier sign || is_type) ≡ true
starts_is stmts.Specifier is_type colon e = refl
starts_is (stmts.Name n) true colon e = refl
starts_is (stmts.Name n) false colon e = absurd cc
starts_is _ is_type colon e = absurd cc
