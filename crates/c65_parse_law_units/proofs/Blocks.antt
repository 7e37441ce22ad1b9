-- Blocks (C90 6.6.2), and every statement.
use Rattle.std.proofs.Common.{◌≡◌, ℕ, suc, ◌+◌, ◌≤◌, List, [], ◌∷◌, ◌++◌, length, length-append, append_assoc, Bool, true, false, refl, sym, ap, ◌∙◌, subst, arith}
use Rattle.std.specs.Prelude.{◌&&◌, not, Ok, None, Some}
use Rattle.c65_base.specs.Answers.{◌>>=◌}
use Rattle.c65_base.specs.declared.refusal.Pos.{Pos}
use Rattle.c65_scan.specs.declared.token.Keyword.{Keyword}
use Rattle.c65_scan.specs.declared.token.Keyword.TheVariants as keywords
use Rattle.c65_scan.specs.declared.token.Punct.TheVariants as puncts
use Rattle.c65_scan.specs.declared.token.Token.{Token}
use Rattle.c65_scan.specs.declared.token.TokenKind.{TokenKind}
use Rattle.c65_scan.specs.declared.token.TokenKind.TheVariants as kinds
use Rattle.c65_tree.specs.declared.expr.Storage.{Storage}
use Rattle.c65_tree.specs.declared.expr.Storage.TheVariants as storages
use Rattle.c65_tree.specs.Trees as t
use Rattle.c65_tree.specs.Lists.{deepest}
use Rattle.c65_tree.specs.Depth.{decl_depth, stmts_depth, inners_depth}
use Rattle.c65_parse_names.specs.Scopes.{Blocks}
use Rattle.c65_parse_frames.specs.declared.sign.Mark.TheVariants as marks
use Rattle.c65_parse_frames.specs.declared.sign.Sign.{Sign}
use Rattle.c65_parse_frames.specs.declared.sign.Sign.TheVariants as signs
use Rattle.c65_parse_frames.specs.Signs.{sign_of, sign_of_keyword, is_mark, starts_declaration}
use Rattle.c65_parse_frames.specs.Frames.{Frame, in_block, begun_decl, begun_close, place_in}
use Rattle.c65_decl.specs.declared.words.Word.TheVariants as words
use Rattle.c65_decl.specs.Here.{is_type_here, colon_follows}
use Rattle.c65_decl.specs.Decls.{declaration_read}
use Rattle.c65_decl.specs.Openings.{closed_here, declaration_begun, begun_within, begun_inside, begun_by, begun_at}
use Rattle.c65_parse_frames.specs.Signs.{is_label}
use Rattle.c65_decl.specs.Statements.{all_plugged, behind_begun, statement_next, statement_run}
use Rattle.c65_parse_grammar.specs.Phrases.{◌▸◌, token, some_mark}
use Rattle.c65_parse_grammar.specs.Spellings.{storage_keyword, word_keyword, tag_keyword}
use Rattle.c65_parse_grammar.specs.Parts.{has_type, is_empty_list, declarator_start}
use Rattle.c65_parse_grammar.specs.Scopes.{Scope, after_list, after_specifiers, after_decl, after_decls, after_stmts}
use Rattle.c65_parse_grammar.specs.Expressions as g
use Rattle.c65_parse_grammar.specs.Statements.{init_declarators, declaration, declarations, statement, statements}
use Rattle.c65_parse_law_trees.proofs.Runs.{First, split, before, behind_some}
use Rattle.c65_parse_law_trees.proofs.Ends.{not_nameless}
use Rattle.c65_parse_law_trees.proofs.Firsts.{Opens, opens_one, opens_mark, opens_more, opens_map, opens_first, Operand, begins_expr, begins_list, begins_specifier, Specifies, Worded, DeclaratorKind, Declares, begins_declarator}
use Rattle.c65_parse_law_units.proofs.Heres.{Left, left_more, here_is, passed, no_mark, opens_long, next, when, unless}
use Rattle.c65_parse_law_units.proofs.Decls.{declaration_is}
use Rattle.c65_parse_law_units.proofs.Tests.{NoColon}
use Rattle.c65_parse_law_units.proofs.Words.{IsWord, word_step, type_here, follows_by}
use Rattle.c65_parse_law_units.proofs.Stmts.{StmtRun, NoElse, ReadsStmt, Reaches, Fueled, fueled, opened, reads_label, reads_case, reads_default, reads_switch, reads_while, reads_goto, reads_continue, reads_break, reads_return, reads_eval, reads_for, reads_if, reads_if_else, reads_do}

-- a specifier at the front, and no colon behind a type's name
abbrev pub DeclKind : Scope → TokenKind → List Token → Type 0
DeclKind sc (kinds.Keyword k) ts = sign_of_keyword k ≡ signs.Specifier
DeclKind sc (kinds.Name n) ts = (sc n ≡ true) × First NoColon ts
DeclKind sc _ ts = ⊥

abbrev pub Declaring : Scope → List Token → Type 0
Declaring sc [] = ⊥
Declaring sc (tok ∷ ts) = DeclKind sc tok.kind ts

storage_sign : (c : Storage) → sign_of_keyword (storage_keyword c) ≡ signs.Specifier
storage_sign storages.Typedef = refl
storage_sign storages.Extern = refl
storage_sign storages.Static = refl
storage_sign storages.Auto = refl
storage_sign storages.Register = refl

word_sign : (w : t.Word) → sign_of_keyword (word_keyword w) ≡ signs.Specifier
word_sign t.const = refl
word_sign t.volatile = refl
word_sign t.void = refl
word_sign t.char = refl
word_sign t.short = refl
word_sign t.int = refl
word_sign t.long = refl
word_sign t.float = refl
word_sign t.double = refl
word_sign t.signed = refl
word_sign t.unsigned = refl

tag_sign : (union : Bool) → sign_of_keyword (tag_keyword union) ≡ signs.Specifier
tag_sign true = refl
tag_sign false = refl

specifier_start : (q : t.SpecifierTree) (sc : Scope) (storage typed : Bool) (xs tail : List Token) → g.specifier sc storage typed q xs → First NoColon tail → Declaring sc (xs ++ tail)
specifier_start (t.storage l c) sc storage typed xs tail p h = subst (λ ts. Declaring sc (ts ++ tail)) (sym p.1) (storage_sign c)
specifier_start (t.word l w) sc storage typed xs tail p h = subst (λ ts. Declaring sc (ts ++ tail)) (sym p) (word_sign w)
specifier_start (t.typedef_name l n) sc storage typed xs tail p h = subst (λ ts. Declaring sc (ts ++ tail)) (sym p.1) (p.0.1, h)
specifier_start (t.tagged l union name ms) sc storage typed xs tail p h = subst (λ ts. Declaring sc (ts ++ tail)) (sym (p.2 ∙ ap (λ ts. ts ++ p.1) p.3)) (tag_sign union)
specifier_start (t.enum l name es) sc storage typed xs tail p h = subst (λ ts. Declaring sc (ts ++ tail)) (sym (p.2 ∙ ap (λ ts. ts ++ p.1) p.3)) refl

keyword_colon : (k : Keyword) → is_mark marks.Colon (sign_of_keyword k) ≡ false
keyword_colon keywords.Auto = refl
keyword_colon _ = refl

worded_by : (k : TokenKind) (l : Pos) → Worded (token k l) → NoColon (token k l)
worded_by (kinds.Keyword k) l h = keyword_colon k
worded_by (kinds.Name n) l h = refl
worded_by (kinds.Number ty n) l h = absurd h
worded_by (kinds.Text bs) l h = absurd h
worded_by (kinds.Punct p) l h = absurd h
worded_by kinds.End l h = absurd h

list_start : (qs : t.SpecifierList) (sc : Scope) (storage : Bool) (xs tail : List Token) → is_empty_list qs ≡ false → g.specifier_list sc storage qs xs → First NoColon tail → Declaring sc (xs ++ tail)
list_start t.no_specifiers sc storage xs tail e p h = absurd cc
list_start (t.and_specifier t.no_specifiers q) sc storage xs tail e p h = subst (λ ts. Declaring sc (ts ++ tail)) (sym (p.2 ∙ ap (λ ts. ts ++ p.1) p.3)) (specifier_start q sc storage false p.1 tail p.4 h)
list_start (t.and_specifier (t.and_specifier qs r) q) sc storage xs tail e p h = subst (λ ts. Declaring sc (ts ++ tail)) (sym p.2) (subst (Declaring sc) (sym (append_assoc p.0 p.1 tail))
    (list_start (t.and_specifier qs r) sc storage p.0 (p.1 ++ tail) refl p.3 (opens_first NoColon p.1 tail (opens_map _ NoColon p.1 (λ tok k. worded_by tok.kind tok.pos k.1) (begins_specifier q (after_list sc (t.and_specifier qs r)) storage _ p.1 p.4)))))

declares_colon : (s : g.Sort) (sc : Scope) (d : t.DeclaratorTree) (k : TokenKind) → DeclaratorKind s sc d k → is_mark marks.Colon (sign_of k) ≡ false
declares_colon s sc d (kinds.Name n) h = refl
declares_colon s sc d (kinds.Keyword k) h = keyword_colon k
declares_colon s sc d (kinds.Punct puncts.Star) h = refl
declares_colon s sc d (kinds.Punct puncts.OpenParen) h = refl
declares_colon s sc d (kinds.Punct puncts.OpenBracket) h = refl
declares_colon s sc d (kinds.Punct _) h = absurd h
declares_colon s sc d (kinds.Number ty n) h = absurd h
declares_colon s sc d (kinds.Text bs) h = absurd h
declares_colon s sc d kinds.End h = absurd h

pub named_colon : (typed : Bool) (sc : Scope) (d : t.DeclaratorTree) (xs : List Token) → g.declarator (g.named typed) sc (declarator_start d) d xs → Opens NoColon xs
named_colon typed sc d xs p = opens_map (Declares (g.named typed) sc d) NoColon xs (λ tok h. declares_colon (g.named typed) sc d tok.kind h.0) (begins_declarator d (g.named typed) sc (declarator_start d) xs (not_nameless d (g.named typed) sc (declarator_start d) xs refl p) p)

pub these_start : (q : t.SpecifiersTree) (sc : Scope) (xs tail : List Token) → g.specifiers sc true q xs → First NoColon tail → Declaring sc (xs ++ tail)
these_start (t.specifiers l qs) sc xs tail p h = list_start qs sc true xs tail p.0.0 p.1 h

pub decl_tail : (ds : List t.InitDeclaratorTree) (q : t.SpecifiersTree) (sc : Scope) (us tail : List Token) → (init_declarators true q sc ds ▸ some_mark puncts.Semicolon) us → First NoColon (us ++ tail)
decl_tail [] q sc us tail p = behind_some (First NoColon) (kinds.Punct puncts.Semicolon) us tail p (λ k zs a. subst (λ ts. First NoColon (ts ++ (token (kinds.Punct puncts.Semicolon) k ∷ tail))) (sym a) refl)
decl_tail (d ∷ ds) q sc us tail p = split (First NoColon) us tail p (λ vs ws pv pw. split (First NoColon) vs (ws ++ tail) pv (λ ns ms a pm. subst (λ ts. First NoColon (ts ++ (ms ++ (ws ++ tail)))) (sym a)
    (split (First NoColon) ms (ws ++ tail) pm (λ zs rs pz pr. opens_first NoColon zs (rs ++ (ws ++ tail)) (named_colon (has_type q) sc d.declarator zs pz)))))

pub decl_start : (d : t.DeclTree) (sc : Scope) (xs tail : List Token) → declaration sc d xs → Declaring sc (xs ++ tail)
decl_start d sc xs tail p = split (Declaring sc) xs tail p (λ ys us py pu. these_start d.specifiers sc ys (us ++ tail) py (decl_tail d.declarators d.specifiers (after_specifiers sc d.specifiers) us tail pu))

these_long : (q : t.SpecifiersTree) (sc : Scope) (xs : List Token) → g.specifiers sc true q xs → 1 ≤ length xs
these_long (t.specifiers l qs) sc xs p = opens_long (Specifies true sc) xs (begins_list qs sc true xs p.0.0 p.1)

pub decl_long : (d : t.DeclTree) (sc : Scope) (xs : List Token) → declaration sc d xs → 1 ≤ length xs
decl_long d sc xs p = let some = these_long d.specifiers sc p.0 p.3 in let long = length-append p.0 p.1 in subst (λ ts. 1 ≤ length ts) (sym p.2) (omega (arith, some, long))

-- a declaration begins in a block
decl_by : (limit : ℕ) (unit : List Token) (l : Pos) (done : List t.DeclTree) (fs : List Frame) (scope : Blocks) (s : Sign) (is_type colon : Bool) (ts : List Token) → is_mark marks.CloseBrace s ≡ false → starts_declaration s is_type colon ≡ true
    → begun_by limit unit (place_in (in_block l done t.no_stmts ∷ fs)) s is_type colon scope ts ≡ declaration_begun limit unit scope ts
decl_by limit unit l done fs scope s is_type colon ts h k =
    unless (is_mark marks.CloseBrace s) (Ok (closed_here scope ts)) (begun_inside limit unit (place_in (in_block l done t.no_stmts ∷ fs)) s is_type colon scope ts) h
    ∙ when (starts_declaration s is_type colon) (declaration_begun limit unit scope ts) (begun_within limit (place_in (in_block l done t.no_stmts ∷ fs)) s (is_label s is_type colon) scope ts) k

type_starts : (a b : Bool) → a ≡ true → b ≡ false → (a && not b) ≡ true
type_starts true false h k = refl
type_starts true true h k = absurd cc
type_starts false b h k = absurd cc

decl_kind : (limit : ℕ) (unit : List Token) (l : Pos) (done : List t.DeclTree) (fs : List Frame) (sc : Scope) (outer : Blocks) (k : TokenKind) (m : Pos) (ts : List Token) → DeclKind sc k ts → Left ts
    → begun_at limit unit (place_in (in_block l done t.no_stmts ∷ fs)) (sc ∷ outer) (token k m ∷ ts) ≡ declaration_begun limit unit (sc ∷ outer) (token k m ∷ ts)
decl_kind limit unit l done fs sc outer (kinds.Keyword k) m ts h left =
    let all = token (kinds.Keyword k) m ∷ ts in
    ap (λ x. begun_by limit unit (place_in (in_block l done t.no_stmts ∷ fs)) x (is_type_here (sc ∷ outer) all) (colon_follows all) (sc ∷ outer) all) (ap (λ x. sign_of x.kind) (here_is (token (kinds.Keyword k) m) ts) ∙ h)
    ∙ decl_by limit unit l done fs (sc ∷ outer) signs.Specifier (is_type_here (sc ∷ outer) all) (colon_follows all) all refl refl
decl_kind limit unit l done fs sc outer (kinds.Name n) m ts h left =
    let tok : Token = token (kinds.Name n) m in
    let all = tok ∷ ts in
    ap (λ x. begun_by limit unit (place_in (in_block l done t.no_stmts ∷ fs)) (sign_of x.kind) (is_type_here (sc ∷ outer) all) (colon_follows all) (sc ∷ outer) all) (here_is tok ts)
    ∙ decl_by limit unit l done fs (sc ∷ outer) (signs.Name n) (is_type_here (sc ∷ outer) all) (colon_follows all) all refl (type_starts (is_type_here (sc ∷ outer) all) (colon_follows all) (type_here (sc ∷ outer) tok ts ∙ h.0) (follows_by tok ts left h.1))
decl_kind limit unit l done fs sc outer (kinds.Number ty n) m ts h left = absurd h
decl_kind limit unit l done fs sc outer (kinds.Text bs) m ts h left = absurd h
decl_kind limit unit l done fs sc outer (kinds.Punct p) m ts h left = absurd h
decl_kind limit unit l done fs sc outer kinds.End m ts h left = absurd h

last_left : (tok : Token) (ts : List Token) → 2 ≤ length (tok ∷ ts) → Left ts
last_left tok [] h = absurd (omega (arith, h))
last_left tok (u ∷ ts) h = tt

decl_step : (limit : ℕ) (unit : List Token) (l : Pos) (done : List t.DeclTree) (fs : List Frame) (sc : Scope) (outer : Blocks) (ts : List Token) → Declaring sc ts → 2 ≤ length ts → begun_at limit unit (place_in (in_block l done t.no_stmts ∷ fs)) (sc ∷ outer) ts ≡ declaration_begun limit unit (sc ∷ outer) ts
decl_step limit unit l done fs sc outer [] h k = absurd h
decl_step limit unit l done fs sc outer (tok ∷ ts) h k = decl_kind limit unit l done fs sc outer tok.kind tok.pos ts h (last_left tok ts k)

-- the declarations of a block
record DeclsRun (limit : ℕ) (unit us : List Token) (l : Pos) (fs : List Frame) (done ds : List t.DeclTree) (sc : Scope) (outer : Blocks) (ts rest : List Token) : Type 0 where
  pub us_left : List Token
  pub enough : length rest ≤ length us_left
  pub are : statement_run limit unit us (in_block l done t.no_stmts ∷ fs) (sc ∷ outer) ts ≡ statement_run limit unit us_left (in_block l (done ++ ds) t.no_stmts ∷ fs) (after_decls sc ds ∷ outer) rest

pub nothing_more : (ds : List t.DeclTree) → ds ≡ ds ++ []
nothing_more [] = refl
nothing_more (d ∷ ds) = ap (λ xs. d ∷ xs) (nothing_more ds)

pub left_long : (ts : List Token) → Left ts → 1 ≤ length ts
left_long [] h = absurd h
left_long (tok ∷ ts) h = omega arith

block_decls : (limit : ℕ) (ds : List t.DeclTree) (unit us : List Token) (l : Pos) (fs : List Frame) (done : List t.DeclTree) (sc : Scope) (outer : Blocks) (xs rest : List Token) → declarations sc ds xs → deepest decl_depth ds ≤ limit → length (xs ++ rest) ≤ length us → length (xs ++ rest) ≤ length unit → Left rest → DeclsRun limit unit us l fs done ds sc outer (xs ++ rest) rest
block_decls limit [] unit us l fs done sc outer xs rest p deep enough room left = subst (λ ts. length (ts ++ rest) ≤ length us → DeclsRun limit unit us l fs done [] sc outer (ts ++ rest) rest) (sym p) (λ short. record { us_left = us; enough = short; are = ap (λ x. statement_run limit unit us (in_block l x t.no_stmts ∷ fs) (sc ∷ outer) rest) (nothing_more done) }) enough
block_decls limit (d ∷ ds) unit us l fs done sc outer xs rest p deep enough room left =
    split (λ ts. length ts ≤ length us → length ts ≤ length unit → DeclsRun limit unit us l fs done (d ∷ ds) sc outer ts rest) xs rest p (λ ys zs py pz short small.
    let some = decl_long d sc ys py in
    let more = left_long (zs ++ rest) (left_more zs rest left) in
    let long = length-append ys (zs ++ rest) in
    let fuel : Fueled us (length (zs ++ rest)) = fueled us (length (zs ++ rest)) (omega (arith, short, long, some)) in
    let run : DeclsRun limit unit fuel.others l fs (done ++ d ∷ []) ds (after_decl sc d) outer (zs ++ rest) rest = block_decls limit ds unit fuel.others l fs (done ++ d ∷ []) (after_decl sc d) outer zs rest pz (omega (arith, deep)) fuel.enough (omega (arith, small, long)) left in
    record {
      us_left = run.us_left;
      enough = run.enough;
      are = subst (λ x. statement_run limit unit x (in_block l done t.no_stmts ∷ fs) (sc ∷ outer) (ys ++ (zs ++ rest)) ≡ statement_run limit unit run.us_left (in_block l (done ++ d ∷ ds) t.no_stmts ∷ fs) (after_decls (after_decl sc d) ds ∷ outer) rest) (sym fuel.are)
          (ap (λ x. (x >>= behind_begun limit (in_block l done t.no_stmts ∷ fs)) >>= statement_next (statement_run limit unit fuel.others))
          (decl_step limit unit l done fs sc outer (ys ++ (zs ++ rest)) (decl_start d sc ys (zs ++ rest) py) (omega (arith, some, more, long))
          ∙ next (declaration_read limit unit (sc ∷ outer) (ys ++ (zs ++ rest))) (d, zs ++ rest, after_decl sc d ∷ outer) (λ x. Ok (begun_decl x.0, x.1, x.2)) (Ok (begun_decl d, zs ++ rest, after_decl sc d ∷ outer)) (declaration_is limit unit d sc outer ys (zs ++ rest) py (omega (arith, deep)) small (left_more zs rest left)) refl)
          ∙ (run.are ∙ ap (λ x. statement_run limit unit run.us_left (in_block l x t.no_stmts ∷ fs) (after_decls (after_decl sc d) ds ∷ outer) rest) (append_assoc done (d ∷ []) ds)));
    }) enough room

-- no statement begins with `else`
begins_stmt : (s : t.StmtTree) (sc : Scope) (xs : List Token) → statement sc s xs → Opens NoElse xs
begins_stmt (t.label l n s) sc xs p = opens_mark NoElse l (kinds.Name n) xs p.0 p.1 p.2 p.3 refl
begins_stmt (t.case l e s) sc xs p = opens_mark NoElse l (kinds.Keyword keywords.Case) xs p.0 p.1 p.2 p.3 refl
begins_stmt (t.default l s) sc xs p = opens_mark NoElse l (kinds.Keyword keywords.Default) xs p.0 p.1 p.2 p.3 refl
begins_stmt (t.block l ds ss) sc xs p = opens_mark NoElse l (kinds.Punct puncts.OpenBrace) xs p.0 p.1 p.2 p.3 refl
begins_stmt (t.eval l None) sc xs p = opens_one NoElse l (kinds.Punct puncts.Semicolon) xs p refl
begins_stmt (t.eval l (Some e)) sc xs p = opens_more NoElse xs p.1.0 p.1.1 p.1.2 (opens_map (Operand sc) NoElse p.1.0 (λ tok h. no_mark marks.Else (record { name = λ n. refl; operand = refl; paren = refl }) sc tok.kind h) (begins_expr e sc p.1.0 p.1.3))
begins_stmt (t.if_stmt l e s r) sc xs p = opens_mark NoElse l (kinds.Keyword keywords.If) xs p.0 p.1 p.2 p.3 refl
begins_stmt (t.switch l e s) sc xs p = opens_mark NoElse l (kinds.Keyword keywords.Switch) xs p.0 p.1 p.2 p.3 refl
begins_stmt (t.while l e s) sc xs p = opens_mark NoElse l (kinds.Keyword keywords.While) xs p.0 p.1 p.2 p.3 refl
begins_stmt (t.do_while l s e) sc xs p = opens_mark NoElse l (kinds.Keyword keywords.Do) xs p.0 p.1 p.2 p.3 refl
begins_stmt (t.for l e f g s) sc xs p = opens_mark NoElse l (kinds.Keyword keywords.For) xs p.0 p.1 p.2 p.3 refl
begins_stmt (t.goto l n) sc xs p = opens_mark NoElse l (kinds.Keyword keywords.Goto) xs p.0 p.1 p.2 p.3 refl
begins_stmt (t.continue l) sc xs p = opens_mark NoElse l (kinds.Keyword keywords.Continue) xs p.0 p.1 p.2 p.3 refl
begins_stmt (t.break l) sc xs p = opens_mark NoElse l (kinds.Keyword keywords.Break) xs p.0 p.1 p.2 p.3 refl
begins_stmt (t.return l e) sc xs p = opens_mark NoElse l (kinds.Keyword keywords.Return) xs p.0 p.1 p.2 p.3 refl

-- the statements of a block
pub record StmtsRun (limit : ℕ) (unit us : List Token) (l : Pos) (fs : List Frame) (ds : List t.DeclTree) (ss : t.StmtList) (sc : Scope) (outer : Blocks) (ts rest : List Token) : Type 0 where
  pub us_left : List Token
  pub enough : length rest ≤ length us_left
  pub are : statement_run limit unit us (in_block l ds t.no_stmts ∷ fs) (sc ∷ outer) ts ≡ statement_run limit unit us_left (in_block l ds ss ∷ fs) (after_stmts sc ss ∷ outer) rest

abbrev pub ReadsStmts : (limit : ℕ) → t.StmtList → Type 0
ReadsStmts limit ss = (unit us : List Token) (l : Pos) (fs : List Frame) (ds : List t.DeclTree) (sc : Scope) (outer : Blocks) (xs rest : List Token) → statements sc ss xs → stmts_depth ss + suc (length fs) ≤ limit → inners_depth ss ≤ limit → length (xs ++ rest) ≤ length us → length (xs ++ rest) ≤ length unit → Left rest → First NoElse rest → StmtsRun limit unit us l fs ds ss sc outer (xs ++ rest) rest

no_stmts_read : (limit : ℕ) → ReadsStmts limit t.no_stmts
no_stmts_read limit unit us l fs ds sc outer xs rest p deep inner enough room left safe = subst (λ ts. length (ts ++ rest) ≤ length us → StmtsRun limit unit us l fs ds t.no_stmts sc outer (ts ++ rest) rest) (sym p) (λ short. record { us_left = us; enough = short; are = refl }) enough

one_more_read : (limit : ℕ) (ss : t.StmtList) (s : t.StmtTree) → ReadsStmts limit ss → ReadsStmt limit s → ReadsStmts limit (t.and_stmt ss s)
one_more_read limit ss s rss rs unit us l fs ds sc outer xs rest p deep inner enough room left safe =
    split (λ ts. length ts ≤ length us → length ts ≤ length unit → StmtsRun limit unit us l fs ds (t.and_stmt ss s) sc outer ts rest) xs rest p (λ ys zs py pz short small.
    let sc1 = after_stmts sc ss in
    let long = length-append ys (zs ++ rest) in
    let first : StmtsRun limit unit us l fs ds ss sc outer (ys ++ (zs ++ rest)) (zs ++ rest) = rss unit us l fs ds sc outer ys (zs ++ rest) py (omega (arith, deep)) (omega (arith, inner)) short small (left_more zs rest left) (opens_first NoElse zs rest (begins_stmt s sc1 zs pz)) in
    let run : StmtRun limit unit first.us_left (in_block l ds ss ∷ fs) sc1 outer s (zs ++ rest) rest = rs unit first.us_left (in_block l ds ss ∷ fs) sc1 outer zs rest pz (omega (arith, deep)) (omega (arith, inner)) first.enough (omega (arith, small, long)) left (λ h. safe) in
    record { us_left = run.us_left; enough = run.enough; are = first.are ∙ run.are }) enough room

brace_word : IsWord (sign_of (kinds.Punct puncts.OpenBrace)) words.OpenBrace
brace_word = record { no_close = refl; no_decl = λ a b. refl; no_label = λ a b. refl; no_eval = refl; word = refl }

-- the end of a block
close_step : (limit : ℕ) (unit : List Token) (l : Pos) (fs : List Frame) (ds : List t.DeclTree) (ss : t.StmtList) (sc sc1 : Scope) (outer : Blocks) (k : Pos) (rest : List Token) → Left rest
    → begun_at limit unit (place_in (in_block l ds ss ∷ fs)) (sc1 ∷ sc ∷ outer) (token (kinds.Punct puncts.CloseBrace) k ∷ rest) ≡ Ok (begun_close, rest, sc ∷ outer)
close_step limit unit l fs ds ss sc sc1 outer k rest left =
    let brace : Token = token (kinds.Punct puncts.CloseBrace) k in
    let all = brace ∷ rest in
    ap (λ x. begun_by limit unit (place_in (in_block l ds ss ∷ fs)) (sign_of x.kind) (is_type_here (sc1 ∷ sc ∷ outer) all) (colon_follows all) (sc1 ∷ sc ∷ outer) all) (here_is brace rest)
    ∙ ap (λ x. Ok (begun_close, x, sc ∷ outer)) (passed brace rest left)

pub reads_block : (limit : ℕ) (l : Pos) (ds : List t.DeclTree) (ss : t.StmtList) → ReadsStmts limit ss → ReadsStmt limit (t.block l ds ss)
reads_block limit l ds ss rss unit us fs sc outer xs rest p deep inner enough room left safe =
    let open_token : Token = token (kinds.Punct puncts.OpenBrace) l in
    let all = t.block l ds ss in
    let sc1 = after_decls sc ds in
    let sc2 = after_stmts sc1 ss in
    before (Reaches limit unit us fs sc outer all rest) l (kinds.Punct puncts.OpenBrace) xs rest p (λ vs pv.
    split (λ ts. Reaches limit unit us fs sc outer all rest (open_token ∷ ts)) vs rest pv (λ ys ws py pw.
    behind_some (λ ts. Reaches limit unit us fs sc outer all rest (open_token ∷ (ys ++ ts))) (kinds.Punct puncts.CloseBrace) ws rest pw (λ k zs pz short small.
    let close_token : Token = token (kinds.Punct puncts.CloseBrace) k in
    let tail = zs ++ (close_token ∷ rest) in
    let long = length-append ys tail in
    let fuel : Fueled us (length (ys ++ tail)) = fueled us (length (ys ++ tail)) (omega (arith, short)) in
    let first : DeclsRun limit unit fuel.others l fs [] ds sc (sc ∷ outer) (ys ++ tail) tail = block_decls limit ds unit fuel.others l fs [] sc (sc ∷ outer) ys tail py (omega (arith, inner)) fuel.enough (omega (arith, small)) (left_more zs (close_token ∷ rest) tt) in
    let second : StmtsRun limit unit first.us_left l fs ds ss sc1 (sc ∷ outer) tail (close_token ∷ rest) = rss unit first.us_left l fs ds sc1 (sc ∷ outer) zs (close_token ∷ rest) pz (omega (arith, deep)) (omega (arith, inner)) first.enough (omega (arith, small, long)) tt refl in
    let more = second.enough in
    let last : Fueled second.us_left (length rest) = fueled second.us_left (length rest) (omega (arith, more)) in
    record {
      us_left = last.others;
      enough = last.enough;
      are = subst (λ x. statement_run limit unit x fs (sc ∷ outer) (open_token ∷ (ys ++ tail)) ≡ (all_plugged limit fs all (sc ∷ outer) rest >>= statement_next (statement_run limit unit last.others))) (sym fuel.are)
          (opened limit unit fuel.others fs fs (sc ∷ outer) (sc ∷ sc ∷ outer) (open_token ∷ (ys ++ tail)) (ys ++ tail) (in_block l [] t.no_stmts) _ (word_step limit unit fs (sc ∷ outer) (kinds.Punct puncts.OpenBrace) l (ys ++ tail) words.OpenBrace brace_word (omega (arith, deep)) (left_more ys tail (left_more zs (close_token ∷ rest) tt))) (first.are ∙ second.are) fuel.first
          ∙ subst (λ x. statement_run limit unit x (in_block l ds ss ∷ fs) (sc2 ∷ sc ∷ outer) (close_token ∷ rest) ≡ (all_plugged limit fs all (sc ∷ outer) rest >>= statement_next (statement_run limit unit last.others))) (sym last.are)
          (ap (λ x. (x >>= behind_begun limit (in_block l ds ss ∷ fs)) >>= statement_next (statement_run limit unit last.others)) (close_step limit unit l fs ds ss sc sc2 outer k rest left)));
    }))) enough room

mutual
  pub reads_stmt : (limit : ℕ) (s : t.StmtTree) → ReadsStmt limit s
  reads_stmt limit (t.label l n s) = reads_label limit l n s (reads_stmt limit s)
  reads_stmt limit (t.case l e s) = reads_case limit l e s (reads_stmt limit s)
  reads_stmt limit (t.default l s) = reads_default limit l s (reads_stmt limit s)
  reads_stmt limit (t.block l ds ss) = reads_block limit l ds ss (reads_stmts limit ss)
  reads_stmt limit (t.eval l e) = reads_eval limit l e
  reads_stmt limit (t.if_stmt l e s t.no_stmt) = reads_if limit l e s (reads_stmt limit s)
  reads_stmt limit (t.if_stmt l e s (t.a_stmt r)) = reads_if_else limit l e s r (reads_stmt limit s) (reads_stmt limit r)
  reads_stmt limit (t.switch l e s) = reads_switch limit l e s (reads_stmt limit s)
  reads_stmt limit (t.while l e s) = reads_while limit l e s (reads_stmt limit s)
  reads_stmt limit (t.do_while l s e) = reads_do limit l s e (reads_stmt limit s)
  reads_stmt limit (t.for l e f g s) = reads_for limit l e f g s (reads_stmt limit s)
  reads_stmt limit (t.goto l n) = reads_goto limit l n
  reads_stmt limit (t.continue l) = reads_continue limit l
  reads_stmt limit (t.break l) = reads_break limit l
  reads_stmt limit (t.return l e) = reads_return limit l e

  pub reads_stmts : (limit : ℕ) (ss : t.StmtList) → ReadsStmts limit ss
  reads_stmts limit t.no_stmts = no_stmts_read limit
  reads_stmts limit (t.and_stmt ss s) = one_more_read limit ss s (reads_stmts limit ss) (reads_stmt limit s)
