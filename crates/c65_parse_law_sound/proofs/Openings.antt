-- What begins at a statement's place.
use Rattle.std.proofs.Common.{◌≡◌, ℕ, ◌≤◌, List, [], ◌∷◌, ◌++◌, Bool, true, refl, sym, ap, ◌∙◌, subst, append_assoc}
use Rattle.std.proofs.lemmas.List.{append-nil}
use Rattle.std.specs.Prelude.{Ok, Option, None, Some}
use Rattle.c65_base.specs.Answers.{◌>>=◌}
use Rattle.c65_base.specs.declared.names.Name.{Name}
use Rattle.c65_base.specs.declared.refusal.Pos.{Pos}
use Rattle.c65_scan.specs.declared.token.Keyword.TheVariants as keywords
use Rattle.c65_scan.specs.declared.token.Punct.TheVariants as puncts
use Rattle.c65_scan.specs.declared.token.Token.{Token}
use Rattle.c65_scan.specs.declared.token.TokenKind.{TokenKind}
use Rattle.c65_scan.specs.declared.token.TokenKind.TheVariants as kinds
use Rattle.c65_tree.specs.Trees as t
use Rattle.c65_parse_names.specs.Scopes.{Blocks, closed}
use Rattle.c65_parse.specs.Reading.{token_at}
use Rattle.c65_parse_frames.specs.declared.sign.Sign.{Sign}
use Rattle.c65_parse_frames.specs.declared.sign.Sign.TheVariants as signs
use Rattle.c65_parse_frames.specs.declared.sign.Mark.TheVariants as marks
use Rattle.c65_parse_frames.specs.Signs.{sign_of}
use Rattle.c65_parse_frames.specs.Frames.{Head, in_label, in_case, in_default, in_else, in_switch, in_while, in_for, Frame, in_head, in_block, in_then, in_do, Begun, begun_open, begun_decl, begun_whole, begun_close, place_in}
use Rattle.c65_decl.specs.declared.words.Word.{Word}
use Rattle.c65_decl.specs.declared.words.Word.TheVariants as words
use Rattle.c65_decl.specs.Words.{word_of, name_of, is_evaluated}
use Rattle.c65_decl.specs.Here.{sign_here, pos_here, expected, name_by, name_read}
use Rattle.c65_decl.specs.Expressions.{test_read, case_read, optional_read}
use Rattle.c65_decl.specs.Openings.{label_begun, eval_begun, begun_behind, word_begun, statement_begun}
use Rattle.c65_parse_grammar.specs.Phrases.{Phrase, ◌▸◌, given, one, word, some_word, mark, some_mark}
use Rattle.c65_parse_grammar.specs.Parts.{level, start}
use Rattle.c65_parse_grammar.specs.Scopes.{Scope, after, after_option, after_decl, after_decls, after_stmt, after_stmts}
use Rattle.c65_parse_grammar.specs.Expressions as g
use Rattle.c65_parse_grammar.specs.Statements.{declaration, declarations, optional_expr, expression_statement, test, is_closed, statement, statements}
use Rattle.c65_parse_law_sound.proofs.Phrases.{some_is, no_none}
use Rattle.c65_parse_law_sound.proofs.Begins.{one_begins, begins_here, expr_begins}
use Rattle.c65_parse_law_sound.proofs.Got.{EndsIn, Got, seq, mapped, got_if, seq_mark, First, first_of_these, tells, Tells, one_here, past}
use Rattle.c65_parse_law_sound.proofs.Parts.{case_got, test_got, optional_got}
use Rattle.c65_parse_law_sound.proofs.Inits.{nil_behind}

-- the scope at the place
abbrev pub head_scope : Scope → Head → Scope
head_scope b (in_label l n) = b
head_scope b (in_case l e) = after b e
head_scope b (in_default l) = b
head_scope b (in_else l e s) = after_stmt (after b e) s
head_scope b (in_switch l e) = after b e
head_scope b (in_while l e) = after b e
head_scope b (in_for l e f h) = after_option (after_option (after_option b e) f) h

abbrev pub inside : Scope → Frame → Scope
inside b (in_head h) = head_scope b h
inside b (in_block l ds ss) = after_stmts (after_decls b ds) ss
inside b (in_then l e) = after b e
inside b (in_do l) = b

abbrev pub outside : Scope → Frame → Blocks → Blocks
outside b (in_head h) outer = outer
outside b (in_block l ds ss) outer = b ∷ outer
outside b (in_then l e) outer = outer
outside b (in_do l) outer = outer

abbrev pub scope_in : Scope → List Frame → Scope
scope_in sc [] = sc
scope_in sc (f ∷ fs) = inside (scope_in sc fs) f

abbrev pub outer_in : Scope → Blocks → List Frame → Blocks
outer_in sc outer [] = outer
outer_in sc outer (f ∷ fs) = outside (scope_in sc fs) f (outer_in sc outer fs)

-- the tokens before the place
abbrev pub head_front : Scope → Head → Phrase
head_front b (in_label l n) = one l (kinds.Name n) ▸ some_mark puncts.Colon
head_front b (in_case l e) = word l keywords.Case ▸ (given (2 ≤ level e) (g.expr b e) ▸ some_mark puncts.Colon)
head_front b (in_default l) = word l keywords.Default ▸ some_mark puncts.Colon
head_front b (in_else l e s) = ((word l keywords.If ▸ test b e) ▸ given (is_closed s ≡ true) (statement (after b e) s)) ▸ some_word keywords.Else
head_front b (in_switch l e) = word l keywords.Switch ▸ test b e
head_front b (in_while l e) = word l keywords.While ▸ test b e
head_front b (in_for l e f h) = (((word l keywords.For ▸ some_mark puncts.OpenParen) ▸ (optional_expr b e ▸ some_mark puncts.Semicolon)) ▸ (optional_expr (after_option b e) f ▸ some_mark puncts.Semicolon)) ▸ (optional_expr (after_option (after_option b e) f) h ▸ some_mark puncts.CloseParen)

abbrev pub stmt_front : Scope → Frame → Phrase
stmt_front b (in_head h) = head_front b h
stmt_front b (in_block l ds ss) = (mark l puncts.OpenBrace ▸ declarations b ds) ▸ statements (after_decls b ds) ss
stmt_front b (in_then l e) = word l keywords.If ▸ test b e
stmt_front b (in_do l) = word l keywords.Do

abbrev pub stmt_fronts : Scope → List Frame → Phrase
stmt_fronts sc [] = λ ts. ts ≡ []
stmt_fronts sc (f ∷ fs) = stmt_fronts sc fs ▸ stmt_front (scope_in sc fs) f

-- what was begun has these tokens
abbrev pub begun_front : Scope → List Frame → Begun → Phrase
begun_front b fs (begun_open f) = stmt_front b f
begun_front b fs (begun_decl d) = given ((place_in fs).takes_declarations ≡ true) (declaration b d)
begun_front b fs (begun_whole s) = given (is_closed s ≡ true) (statement b s)
begun_front b fs begun_close = some_mark puncts.CloseBrace

abbrev pub begun_behind_it : Scope → Blocks → Begun → Blocks
begun_behind_it b outer (begun_open f) = inside b f ∷ outside b f outer
begun_behind_it b outer (begun_decl d) = after_decl b d ∷ outer
begun_behind_it b outer (begun_whole s) = after_stmt b s ∷ outer
begun_behind_it b outer begun_close = closed (b ∷ outer)

abbrev pub word_kind : Word → TokenKind
word_kind words.Case = kinds.Keyword keywords.Case
word_kind words.Default = kinds.Keyword keywords.Default
word_kind words.If = kinds.Keyword keywords.If
word_kind words.Switch = kinds.Keyword keywords.Switch
word_kind words.While = kinds.Keyword keywords.While
word_kind words.Do = kinds.Keyword keywords.Do
word_kind words.For = kinds.Keyword keywords.For
word_kind words.Goto = kinds.Keyword keywords.Goto
word_kind words.Continue = kinds.Keyword keywords.Continue
word_kind words.Break = kinds.Keyword keywords.Break
word_kind words.Return = kinds.Keyword keywords.Return
word_kind words.OpenBrace = kinds.Punct puncts.OpenBrace

told : (k : TokenKind) (w v : Word) → Some w ≡ Some v → k ≡ word_kind w → k ≡ word_kind v
told k w v e h = h ∙ ap word_kind (some_is w v e)

pub word_told : (sign : Sign) (w : Word) (k : TokenKind) → word_of sign ≡ Some w → Tells sign k → k ≡ word_kind w
word_told signs.Case w k e h = told k words.Case w e h
word_told signs.Default w k e h = told k words.Default w e h
word_told signs.If w k e h = told k words.If w e h
word_told signs.Switch w k e h = told k words.Switch w e h
word_told signs.While w k e h = told k words.While w e h
word_told signs.Do w k e h = told k words.Do w e h
word_told signs.For w k e h = told k words.For w e h
word_told signs.Goto w k e h = told k words.Goto w e h
word_told signs.Continue w k e h = told k words.Continue w e h
word_told signs.Break w k e h = told k words.Break w e h
word_told signs.Return w k e h = told k words.Return w e h
word_told signs.OpenBrace w k e h = told k words.OpenBrace w e h
word_told _ w k e h = absurd cc

pub name_told : (sign : Sign) (n : Name) (k : TokenKind) → name_of sign ≡ Some n → Tells sign k → k ≡ kinds.Name n
name_told (signs.Name m) n k e h = h ∙ ap kinds.Name (some_is m n e)
name_told _ n k e h = absurd cc

no_word_at_end : (ts : List Token) (w : Word) → word_of (sign_here ts) ≡ Some w → sign_here ts ≡ signs.End → ⊥
no_word_at_end ts w e h = no_none w (sym (ap word_of h) ∙ e)

pub no_name_at_end : (ts : List Token) (n : Name) → name_of (sign_here ts) ≡ Some n → sign_here ts ≡ signs.End → ⊥
no_name_at_end ts n e h = no_none n (sym (ap name_of h) ∙ e)

here_is : (ts : List Token) (first : First ts) → sign_here ts ≡ sign_of first.tok.kind
here_is ts first = ap (λ v. sign_of v.kind) first.here

-- a name at its place
name_by_got : (o : Option Name) (scope : Blocks) (ts : List Token) → name_of (sign_here ts) ≡ o → EndsIn ts → Got (λ n. one (pos_here ts) (kinds.Name n)) (λ n. scope) ts (name_by o scope ts)
name_by_got None scope ts e ends = tt
name_by_got (Some n) scope ts e ends =
    let first = first_of_these ts (no_name_at_end ts n e) ends in
    past _ _ ts first (λ r. Ok (n, r, scope)) (record { front = []; tokens_are = refl; ends = first.ends; derives = one_here ts first (kinds.Name n) (name_told (sign_of first.tok.kind) n first.tok.kind (ap name_of (sym (here_is ts first)) ∙ e) (tells first.tok.kind)); scope_is = refl })

name_got : (scope : Blocks) (ts : List Token) → EndsIn ts → Got (λ n. one (pos_here ts) (kinds.Name n)) (λ n. scope) ts (name_read scope ts)
name_got scope ts ends = name_by_got (name_of (sign_here ts)) scope ts refl ends

label_got : (b : Scope) (outer : Blocks) (fs : List Frame) (ts : List Token) → EndsIn ts → Got (begun_front b fs) (begun_behind_it b outer) ts (label_begun (pos_here ts) (b ∷ outer) ts)
label_got b outer fs ts ends = seq _ _ _ _ ts (name_read (b ∷ outer) ts) _ (name_got (b ∷ outer) ts ends)
    (λ n xs rest are p left. seq_mark marks.Colon (λ r ys. begun_front b fs r (xs ++ ys)) (begun_behind_it b outer) (b ∷ outer) rest _ refl left (λ tok last m none. record { front = []; tokens_are = refl; ends = none; derives = (xs, tok ∷ [], refl, p, m); scope_is = refl }))

-- a word at the front, and a mark behind it
marked : (b : Scope) (outer : Blocks) (fs : List Frame) (tok : Token) (r : Begun) (ts : List Token) → begun_behind_it b outer r ≡ b ∷ outer → ((v : Token) → some_mark puncts.Semicolon (v ∷ []) → begun_front b fs r (tok ∷ v ∷ [])) → EndsIn ts
    → Got (λ c ys. begun_front b fs c (tok ∷ ys)) (begun_behind_it b outer) ts (expected marks.Semicolon (b ∷ outer) ts >>= (λ a. Ok (r, a.0, a.1)))
marked b outer fs tok r ts e f ends = seq_mark marks.Semicolon (λ c ys. begun_front b fs c (tok ∷ ys)) (begun_behind_it b outer) (b ∷ outer) ts _ refl ends (λ v last m none. record { front = []; tokens_are = refl; ends = none; derives = f v m; scope_is = sym e })

for_built : (b : Scope) (l : Pos) (e f h : Option t.ExprTree) (tok v : Token) (xs ys zs : List Token) → word l keywords.For (tok ∷ []) → some_mark puncts.OpenParen (v ∷ []) → (optional_expr b e ▸ some_mark puncts.Semicolon) xs → (optional_expr (after_option b e) f ▸ some_mark puncts.Semicolon) ys → (optional_expr (after_option (after_option b e) f) h ▸ some_mark puncts.CloseParen) zs
    → head_front b (in_for l e f h) (tok ∷ (v ∷ (xs ++ (ys ++ (zs ++ [])))))
for_built b l e f h tok v xs ys zs p m he hf hh = subst (head_front b (in_for l e f h)) (ap (λ os. tok ∷ v ∷ os) (append_assoc xs ys zs ∙ ap (λ os. xs ++ (ys ++ os)) (sym (append-nil zs)))) (tok ∷ v ∷ (xs ++ ys), zs, refl, (tok ∷ v ∷ xs, ys, refl, (tok ∷ v ∷ [], xs, refl, (tok ∷ [], v ∷ [], refl, p, m), he), hf), hh)

-- what stands behind the word that begins a statement at this place
behind_got : (limit : ℕ) (b : Scope) (outer : Blocks) (fs : List Frame) (w : Word) (l : Pos) (tok : Token) (ts : List Token) → one l (word_kind w) (tok ∷ []) → EndsIn ts → Got (λ r ys. begun_front b fs r (tok ∷ ys)) (begun_behind_it b outer) ts (begun_behind limit w l (b ∷ outer) ts)
behind_got limit b outer fs words.Case l tok ts p ends = mapped (λ e. begun_open (in_head (in_case l e))) _ _ _ _ ts (case_read limit (b ∷ outer) ts) (case_got limit b outer ts ends) (λ e xs h. (tok ∷ [], xs, refl, p, h)) (λ e. refl)
behind_got limit b outer fs words.Default l tok ts p ends = seq_mark marks.Colon (λ r ys. begun_front b fs r (tok ∷ ys)) (begun_behind_it b outer) (b ∷ outer) ts _ refl ends (λ v last m none. record { front = []; tokens_are = refl; ends = none; derives = (tok ∷ [], v ∷ [], refl, p, m); scope_is = refl })
behind_got limit b outer fs words.If l tok ts p ends = mapped (λ e. begun_open (in_then l e)) _ _ _ _ ts (test_read limit (b ∷ outer) ts) (test_got limit b outer ts ends) (λ e xs h. (tok ∷ [], xs, refl, p, h)) (λ e. refl)
behind_got limit b outer fs words.Switch l tok ts p ends = mapped (λ e. begun_open (in_head (in_switch l e))) _ _ _ _ ts (test_read limit (b ∷ outer) ts) (test_got limit b outer ts ends) (λ e xs h. (tok ∷ [], xs, refl, p, h)) (λ e. refl)
behind_got limit b outer fs words.While l tok ts p ends = mapped (λ e. begun_open (in_head (in_while l e))) _ _ _ _ ts (test_read limit (b ∷ outer) ts) (test_got limit b outer ts ends) (λ e xs h. (tok ∷ [], xs, refl, p, h)) (λ e. refl)
behind_got limit b outer fs words.Do l tok ts p ends = record { front = []; tokens_are = refl; ends = ends; derives = p; scope_is = refl }
behind_got limit b outer fs words.For l tok ts p ends = seq_mark marks.OpenParen (λ r ys. begun_front b fs r (tok ∷ ys)) (begun_behind_it b outer) (b ∷ outer) ts _ refl ends
    (λ v us m left. seq _ _ _ _ us (optional_read limit marks.Semicolon (b ∷ outer) us) _ (optional_got limit marks.Semicolon b outer us refl left)
    (λ e xs vs are he none. seq _ _ _ _ vs (optional_read limit marks.Semicolon (after_option b e ∷ outer) vs) _ (optional_got limit marks.Semicolon (after_option b e) outer vs refl none)
    (λ f ys ws are hf last. seq _ _ _ _ ws (optional_read limit marks.CloseParen (after_option (after_option b e) f ∷ outer) ws) _ (optional_got limit marks.CloseParen (after_option (after_option b e) f) outer ws refl last)
    (λ h zs os are hh end. record { front = []; tokens_are = refl; ends = end; derives = for_built b l e f h tok v xs ys zs p m he hf hh; scope_is = refl }))))
behind_got limit b outer fs words.Goto l tok ts p ends = seq _ _ _ _ ts (name_read (b ∷ outer) ts) _ (name_got (b ∷ outer) ts ends)
    (λ n xs rest are q left. seq_mark marks.Semicolon (λ r ys. begun_front b fs r (tok ∷ (xs ++ ys))) (begun_behind_it b outer) (b ∷ outer) rest _ refl left (λ v last m none. record { front = []; tokens_are = refl; ends = none; derives = (refl, (tok ∷ [], xs ++ v ∷ [], refl, p, (xs, v ∷ [], refl, (pos_here ts, q), m))); scope_is = refl }))
behind_got limit b outer fs words.Continue l tok ts p ends = marked b outer fs tok (begun_whole (t.continue l)) ts refl (λ v m. (refl, (tok ∷ [], v ∷ [], refl, p, m))) ends
behind_got limit b outer fs words.Break l tok ts p ends = marked b outer fs tok (begun_whole (t.break l)) ts refl (λ v m. (refl, (tok ∷ [], v ∷ [], refl, p, m))) ends
behind_got limit b outer fs words.Return l tok ts p ends = mapped (λ e. begun_whole (t.return l e)) _ _ _ _ ts (optional_read limit marks.Semicolon (b ∷ outer) ts) (optional_got limit marks.Semicolon b outer ts refl ends) (λ e xs h. (refl, (tok ∷ [], xs, refl, p, h))) (λ e. refl)
behind_got limit b outer fs words.OpenBrace l tok ts p ends = record { front = []; tokens_are = refl; ends = ends; derives = (tok ∷ [], [], refl, (tok ∷ [], [], refl, p, refl), refl); scope_is = refl }

word_got : (limit : ℕ) (b : Scope) (outer : Blocks) (fs : List Frame) (o : Option Word) (ts : List Token) → word_of (sign_here ts) ≡ o → EndsIn ts → Got (begun_front b fs) (begun_behind_it b outer) ts (word_begun limit o (pos_here ts) (b ∷ outer) ts)
word_got limit b outer fs None ts e ends = tt
word_got limit b outer fs (Some w) ts e ends =
    let first = first_of_these ts (no_word_at_end ts w e) ends in
    past (begun_front b fs) (begun_behind_it b outer) ts first (λ r. begun_behind limit w (pos_here ts) (b ∷ outer) r)
    (behind_got limit b outer fs w (pos_here ts) first.tok first.rest (one_here ts first (word_kind w) (word_told (sign_of first.tok.kind) w first.tok.kind (ap word_of (sym (here_is ts first)) ∙ e) (tells first.tok.kind))) first.ends)

-- an expression statement begins at its first token
pub eval_is : (b : Scope) (o : Option t.ExprTree) (ts xs rest : List Token) → ts ≡ xs ++ rest → (optional_expr b o ▸ some_mark puncts.Semicolon) xs → expression_statement b (pos_here ts) o xs
eval_is b None ts xs rest are p =
    let only : some_mark puncts.Semicolon xs = subst (some_mark puncts.Semicolon) (sym (p.2 ∙ ap (λ ys. ys ++ p.1) p.3)) p.4 in
    let place : pos_here ts ≡ only.0 = ap (λ ys. (token_at ys 0).pos) are ∙ begins_here only.0 xs rest (one_begins only.0 _ xs only.1) in
    subst (λ l. mark l puncts.Semicolon xs) (sym place) only.1
eval_is b (Some e) ts xs rest are p =
    let place : pos_here ts ≡ start e = ap (λ ys. (token_at ys 0).pos) (are ∙ (ap (λ ys. ys ++ rest) p.2 ∙ append_assoc p.0 p.1 rest)) ∙ begins_here (start e) p.0 (p.1 ++ rest) (expr_begins b e p.0 p.3) in
    (sym place, p)

eval_got : (limit : ℕ) (b : Scope) (outer : Blocks) (fs : List Frame) (ts : List Token) → EndsIn ts → Got (begun_front b fs) (begun_behind_it b outer) ts (eval_begun limit (pos_here ts) (b ∷ outer) ts)
eval_got limit b outer fs ts ends = seq _ _ _ _ ts (optional_read limit marks.Semicolon (b ∷ outer) ts) _ (optional_got limit marks.Semicolon b outer ts refl ends)
    (λ o xs rest are p left. record { front = []; tokens_are = refl; ends = left; derives = nil_behind (begun_front b fs (begun_whole (t.eval (pos_here ts) o))) xs (refl, eval_is b o ts xs rest are p); scope_is = refl })

pub begun_got : (limit : ℕ) (b : Scope) (outer : Blocks) (fs : List Frame) (label : Bool) (ts : List Token) → EndsIn ts → Got (begun_front b fs) (begun_behind_it b outer) ts (statement_begun limit (sign_here ts) label (b ∷ outer) ts)
begun_got limit b outer fs label ts ends = got_if _ _ ts label _ _
    (λ e. label_got b outer fs ts ends)
    (λ e. got_if _ _ ts (is_evaluated (sign_here ts)) _ _ (λ f. eval_got limit b outer fs ts ends) (λ f. word_got limit b outer fs (word_of (sign_here ts)) ts refl ends))
