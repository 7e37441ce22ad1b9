-- Function definitions and units.
use Rattle.std.proofs.Common.{◌≡◌, ℕ, List, [], ◌∷◌, ◌++◌, length, Bool, true, false, refl, sym, ap, ◌∙◌, subst, append_assoc}
use Rattle.std.proofs.lemmas.List.{append-nil}
use Rattle.std.specs.Prelude.{Result, Ok, Err, None, Some, if◌then◌else◌, ◌&&◌, not, nat_eq}
use Rattle.c65_base.specs.Answers.{Fault, ◌>>=◌}
use Rattle.c65_base.specs.declared.operators.StepKind.TheVariants as steps
use Rattle.c65_base.specs.declared.operators.UnaryOp.{UnaryOp}
use Rattle.c65_base.specs.declared.operators.UnaryOp.TheVariants as unaries
use Rattle.c65_base.specs.declared.refusal.Pos.{Pos}
use Rattle.c65_scan.specs.declared.token.Keyword.TheVariants as keywords
use Rattle.c65_scan.specs.declared.token.Punct.TheVariants as puncts
use Rattle.c65_scan.specs.declared.token.Token.{Token}
use Rattle.c65_scan.specs.declared.token.TokenKind.{TokenKind}
use Rattle.c65_scan.specs.declared.token.TokenKind.TheVariants as kinds
use Rattle.c65_tree.specs.Trees as t
use Rattle.c65_parse_names.specs.Scopes.{Blocks}
use Rattle.c65_parse.specs.Machine.{nothing_there}
use Rattle.c65_parse.specs.Reading.{Answer, token_at, specifiers_read}
use Rattle.c65_parse_frames.specs.declared.sign.Mark.TheVariants as marks
use Rattle.c65_parse_frames.specs.declared.sign.Sign.{Sign}
use Rattle.c65_parse_frames.specs.declared.sign.Sign.TheVariants as signs
use Rattle.c65_parse_frames.specs.Signs.{sign_of, is_mark}
use Rattle.c65_decl.specs.Words.{goes_on}
use Rattle.c65_decl.specs.Here.{sign_here, pos_here, is_here, unexpected}
use Rattle.c65_decl.specs.Declaring.{naming_of, named_read}
use Rattle.c65_decl.specs.Decls.{declaration_from, empty_declaration, declarations_read}
use Rattle.c65_decl.specs.Statements.{statement_read}
use Rattle.c65_decl.specs.Units.{body_needed, function_read, declared_item, item_read, with_item, items_next, items_run, items_read, whole_unit}
use Rattle.c65_parse_grammar.specs.Phrases.{Phrase, ◌▸◌, one, some}
use Rattle.c65_parse_grammar.specs.Spellings.{unary_punct}
use Rattle.c65_parse_grammar.specs.Parts.{start, declarator_start, has_type, is_typedef, is_empty}
use Rattle.c65_parse_grammar.specs.Scopes.{Scope, no_types, after_specifiers, after_decl, after_decls, declared, in_function, after_head, after_item, after_items}
use Rattle.c65_parse_grammar.specs.Expressions as g
use Rattle.c65_parse_grammar.specs.Statements.{declaration, declarations, statement, head_specifiers, is_block, function, item, items, some_items}
use Rattle.c65_parse_grammar.specs.Readings.{units}
use Rattle.c65_parse_law_sound.specs.Units.{EndsOnce, UnitsAreDerived}
use Rattle.c65_parse_law_sound.proofs.Phrases.{both, regroup, map_right, behind_nothing, is_some_one}
use Rattle.c65_parse_law_sound.proofs.Begins.{BeginsAt, begins_here, expr_begins, declarator_begins}
use Rattle.c65_parse_law_sound.proofs.Got.{EndsIn, Got, seq, mapped, got_if, first_of_mark, kind_of_mark, tells, Tells}
use Rattle.c65_parse_law_sound.proofs.Parts.{specifiers_got, named_got}
use Rattle.c65_parse_law_sound.proofs.Inits.{at_nothing}
use Rattle.c65_parse_law_sound.proofs.Decls.{from_got}
use Rattle.c65_parse_law_sound.proofs.Declarations.{empty_got, declarations_got}
use Rattle.c65_parse_law_sound.proofs.Statements.{statement_got, both_true}
use Rattle.c65_parse_law_sound.proofs.Enumerated.{function_block}

-- the kind of the first token
abbrev pub HasFirst : TokenKind → List Token → Type 0
HasFirst k [] = ⊥
HasFirst k (tok ∷ ts) = tok.kind ≡ k

abbrev pub Brace : List Token → Type 0
Brace = HasFirst (kinds.Punct puncts.OpenBrace)

more_first : (k : TokenKind) (xs ys : List Token) → HasFirst k xs → HasFirst k (xs ++ ys)
more_first k [] ys h = absurd h
more_first k (x ∷ xs) ys h = h

one_first : (l : Pos) (k : TokenKind) (ts : List Token) → one l k ts → HasFirst k ts
one_first l k ts h = subst (HasFirst k) (sym h) refl

same_first : (k m : TokenKind) (ts : List Token) → HasFirst k ts → HasFirst m ts → k ≡ m
same_first k m [] h i = absurd h
same_first k m (x ∷ ts) h i = sym h ∙ i

first_there : (A B : Phrase) (k : TokenKind) (ts : List Token) → ((xs : List Token) → A xs → HasFirst k xs) → (A ▸ B) ts → HasFirst k ts
first_there A B k ts f p = subst (HasFirst k) (sym p.2) (more_first k p.0 p.1 (f p.0 p.3))

-- what begins with another token begins with no brace
pub not_first : (k : TokenKind) (ts : List Token) → HasFirst k ts → (k ≡ kinds.Punct puncts.OpenBrace → ⊥) → Brace ts → ⊥
not_first k ts h f i = f (same_first k (kinds.Punct puncts.OpenBrace) ts h i)

unary_no_brace : (op : UnaryOp) → kinds.Punct (unary_punct op) ≡ kinds.Punct puncts.OpenBrace → ⊥
unary_no_brace unaries.Neg e = cc
unary_no_brace unaries.Plus e = cc
unary_no_brace unaries.BitNot e = cc
unary_no_brace unaries.Not e = cc
unary_no_brace unaries.Deref e = cc
unary_no_brace unaries.Address e = cc

brace_inner : (l : Pos) (xs ys : List Token) → BeginsAt l xs → Brace (xs ++ ys) → Brace xs
brace_inner l [] ys b h = absurd b
brace_inner l (x ∷ xs) ys b h = h

inner_no_brace : (l : Pos) (A B : Phrase) (ts : List Token) → (A ▸ B) ts → Brace ts → ((xs : List Token) → A xs → BeginsAt l xs) → ((xs : List Token) → A xs → Brace xs → ⊥) → ⊥
inner_no_brace l A B ts p h f k = k p.0 p.3 (brace_inner l p.0 p.1 (f p.0 p.3) (subst Brace p.2 h))

-- no expression begins with a brace
expr_no_brace : (sc : Scope) (e : t.ExprTree) (ts : List Token) → g.expr sc e ts → Brace ts → ⊥
expr_no_brace sc (t.name l n) ts p h = not_first _ ts (one_first l (kinds.Name n) ts p.1) (λ e. cc) h
expr_no_brace sc (t.number l ty n) ts p h = not_first _ ts (one_first l (kinds.Number ty n) ts p) (λ e. cc) h
expr_no_brace sc (t.text l bs) ts p h = not_first _ ts (one_first l (kinds.Text bs) ts p) (λ e. cc) h
expr_no_brace sc (t.paren l e) ts p h = not_first _ ts (first_there _ _ (kinds.Punct puncts.OpenParen) ts (one_first l _) p) (λ e. cc) h
expr_no_brace sc (t.index l a i) ts p h = inner_no_brace (start a) _ _ ts p h (λ xs q. expr_begins sc a xs q.1) (λ xs q k. expr_no_brace sc a xs q.1 k)
expr_no_brace sc (t.call l f es) ts p h = inner_no_brace (start f) _ _ ts p h (λ xs q. expr_begins sc f xs q.1) (λ xs q k. expr_no_brace sc f xs q.1 k)
expr_no_brace sc (t.member l e arrow n) ts p h = inner_no_brace (start e) _ _ ts p h (λ xs q. expr_begins sc e xs q.1) (λ xs q k. expr_no_brace sc e xs q.1 k)
expr_no_brace sc (t.step l steps.PreInc e) ts p h = not_first _ ts (first_there _ _ (kinds.Punct puncts.PlusPlus) ts (one_first l _) p) (λ e. cc) h
expr_no_brace sc (t.step l steps.PreDec e) ts p h = not_first _ ts (first_there _ _ (kinds.Punct puncts.MinusMinus) ts (one_first l _) p) (λ e. cc) h
expr_no_brace sc (t.step l steps.PostInc e) ts p h = inner_no_brace (start e) _ _ ts p h (λ xs q. expr_begins sc e xs q.1) (λ xs q k. expr_no_brace sc e xs q.1 k)
expr_no_brace sc (t.step l steps.PostDec e) ts p h = inner_no_brace (start e) _ _ ts p h (λ xs q. expr_begins sc e xs q.1) (λ xs q k. expr_no_brace sc e xs q.1 k)
expr_no_brace sc (t.unary l op e) ts p h = not_first _ ts (first_there _ _ (kinds.Punct (unary_punct op)) ts (one_first l _) p) (unary_no_brace op) h
expr_no_brace sc (t.sizeof_expr l e) ts p h = not_first _ ts (first_there _ _ (kinds.Keyword keywords.Sizeof) ts (one_first l _) p) (λ e. cc) h
expr_no_brace sc (t.sizeof_type l ty) ts p h = not_first _ ts (first_there _ _ (kinds.Keyword keywords.Sizeof) ts (one_first l _) p) (λ e. cc) h
expr_no_brace sc (t.cast l ty e) ts p h = not_first _ ts (first_there _ _ (kinds.Punct puncts.OpenParen) ts (one_first l _) p) (λ e. cc) h
expr_no_brace sc (t.binary l op a b) ts p h = inner_no_brace (start a) _ _ ts p h (λ xs q. expr_begins sc a xs q.1) (λ xs q k. expr_no_brace sc a xs q.1 k)
expr_no_brace sc (t.and_also l a b) ts p h = inner_no_brace (start a) _ _ ts p h (λ xs q. expr_begins sc a xs q.1) (λ xs q k. expr_no_brace sc a xs q.1 k)
expr_no_brace sc (t.or_else l a b) ts p h = inner_no_brace (start a) _ _ ts p h (λ xs q. expr_begins sc a xs q.1) (λ xs q k. expr_no_brace sc a xs q.1 k)
expr_no_brace sc (t.conditional l c a b) ts p h = inner_no_brace (start c) _ _ ts p h (λ xs q. expr_begins sc c xs q.1) (λ xs q k. expr_no_brace sc c xs q.1 k)
expr_no_brace sc (t.assign l op a b) ts p h = inner_no_brace (start a) _ _ ts p h (λ xs q. expr_begins sc a xs q.1) (λ xs q k. expr_no_brace sc a xs q.1 k)
expr_no_brace sc (t.comma l a b) ts p h = inner_no_brace (start a) _ _ ts p h (λ xs q. expr_begins sc a xs q) (λ xs q k. expr_no_brace sc a xs q k)

word_first : (B : Phrase) (k : TokenKind) (l : Pos) (ts rest : List Token) → (k ≡ kinds.Punct puncts.OpenBrace → ⊥) → (one l k ▸ B) ts → Brace (ts ++ rest) → ⊥
word_first B k l ts rest other p h = not_first k (ts ++ rest) (more_first k ts rest (first_there (one l k) B k ts (one_first l k) p)) other h

-- a statement that begins with a brace is a block
pub block_begins : (sc : Scope) (s : t.StmtTree) (ts rest : List Token) → statement sc s ts → Brace (ts ++ rest) → is_block s ≡ true
block_begins sc (t.label l n s) ts rest p h = absurd (word_first _ (kinds.Name n) l ts rest (λ e. cc) p h)
block_begins sc (t.case l e s) ts rest p h = absurd (word_first _ (kinds.Keyword keywords.Case) l ts rest (λ e. cc) p h)
block_begins sc (t.default l s) ts rest p h = absurd (word_first _ (kinds.Keyword keywords.Default) l ts rest (λ e. cc) p h)
block_begins sc (t.block l ds ss) ts rest p h = refl
block_begins sc (t.eval l None) ts rest p h = absurd (not_first _ (ts ++ rest) (more_first _ ts rest (one_first l (kinds.Punct puncts.Semicolon) ts p)) (λ e. cc) h)
block_begins sc (t.eval l (Some e)) ts rest p h = absurd (expr_no_brace sc e p.1.0 p.1.3 (brace_inner (start e) p.1.0 (p.1.1 ++ rest) (expr_begins sc e p.1.0 p.1.3) (subst Brace (ap (λ ys. ys ++ rest) p.1.2 ∙ append_assoc p.1.0 p.1.1 rest) h)))
block_begins sc (t.if_stmt l e s r) ts rest p h = absurd (word_first _ (kinds.Keyword keywords.If) l ts rest (λ e. cc) p h)
block_begins sc (t.switch l e s) ts rest p h = absurd (word_first _ (kinds.Keyword keywords.Switch) l ts rest (λ e. cc) p h)
block_begins sc (t.while l e s) ts rest p h = absurd (word_first _ (kinds.Keyword keywords.While) l ts rest (λ e. cc) p h)
block_begins sc (t.do_while l s e) ts rest p h = absurd (word_first _ (kinds.Keyword keywords.Do) l ts rest (λ e. cc) p h)
block_begins sc (t.for l e f k s) ts rest p h = absurd (word_first _ (kinds.Keyword keywords.For) l ts rest (λ e. cc) p h)
block_begins sc (t.goto l n) ts rest p h = absurd (word_first _ (kinds.Keyword keywords.Goto) l ts rest (λ e. cc) p h)
block_begins sc (t.continue l) ts rest p h = absurd (word_first _ (kinds.Keyword keywords.Continue) l ts rest (λ e. cc) p h)
block_begins sc (t.break l) ts rest p h = absurd (word_first _ (kinds.Keyword keywords.Break) l ts rest (λ e. cc) p h)
block_begins sc (t.return l e) ts rest p h = absurd (word_first _ (kinds.Keyword keywords.Return) l ts rest (λ e. cc) p h)

-- specifiers before a declarator
pub head_before : (sc : Scope) (q : t.SpecifiersTree) (s : g.Sort) (inner : Scope) (d : t.DeclaratorTree) (ts zs xs rest : List Token) (l : Pos) → g.may_lack s ≡ false → ts ≡ zs ++ (xs ++ rest) → g.declarator s inner l d xs → head_specifiers sc (pos_here ts) q zs → head_specifiers sc (declarator_start d) q zs
head_before sc (t.specifiers k t.no_specifiers) s inner d ts zs xs rest l e are h p = (p.0 ∙ (ap (λ ys. (token_at ys 0).pos) (are ∙ ap (λ ys. ys ++ (xs ++ rest)) p.1) ∙ begins_here (declarator_start d) xs rest (declarator_begins s inner d l xs e h)), p.1)
head_before sc (t.specifiers k (t.and_specifier qs r)) s inner d ts zs xs rest l e are h p = p

-- specifiers that are not none
pub head_some : (sc : Scope) (l : Pos) (q : t.SpecifiersTree) (zs : List Token) → not (is_empty q) ≡ true → head_specifiers sc l q zs → g.specifiers sc true q zs
head_some sc l (t.specifiers k t.no_specifiers) zs e p = absurd cc
head_some sc l (t.specifiers k (t.and_specifier qs r)) zs e p = p

pub brace_here : (ts : List Token) → is_here marks.OpenBrace ts ≡ true → EndsIn ts → Brace ts
brace_here ts e ends = let first = first_of_mark marks.OpenBrace ts refl e ends in subst Brace (sym first.tokens_are) (kind_of_mark marks.OpenBrace ts first e)

abbrev pub function_of : t.SpecifiersTree → t.DeclaratorTree → List t.DeclTree → t.StmtTree → t.FunctionTree
function_of q d ds s = record { specifiers = q; declarator = d; declarations = ds; body = s }

function_built : (limit : ℕ) (unit : List Token) (sc : Scope) (outer : Blocks) (q : t.SpecifiersTree) (d : t.DeclaratorTree) (ds : List t.DeclTree) (zs xs ys rest : List Token) → head_specifiers sc (declarator_start d) q zs → g.declarator (g.named (has_type q)) (after_specifiers sc q) (declarator_start d) d xs → declarations (in_function (declared (is_typedef q) (after_specifiers sc q) d) d) ds ys → EndsIn rest
    → Got (λ f vs. function sc f (zs ++ (xs ++ (ys ++ vs)))) (λ f. after_head sc f ∷ outer) rest (body_needed limit unit q d ds (after_decls (in_function (declared (is_typedef q) (after_specifiers sc q) d) d) ds ∷ declared (is_typedef q) (after_specifiers sc q) d ∷ outer) rest)
function_built limit unit sc outer q d ds zs xs ys rest p h r ends = got_if _ _ rest (is_here marks.OpenBrace rest) _ (unexpected rest)
    (λ e. seq _ _ _ _ rest (statement_read limit unit (after_decls (in_function (declared (is_typedef q) (after_specifiers sc q) d) d) ds ∷ declared (is_typedef q) (after_specifiers sc q) d ∷ outer) rest) _ (statement_got limit unit (after_decls (in_function (declared (is_typedef q) (after_specifiers sc q) d) d) ds) (declared (is_typedef q) (after_specifiers sc q) d ∷ outer) rest ends)
    (λ s vs left are m last. record {
      front = [];
      tokens_are = refl;
      ends = last;
      derives = subst (λ os. function sc (function_of q d ds s) (zs ++ (xs ++ (ys ++ os)))) (sym (append-nil vs)) (zs, xs ++ (ys ++ vs), refl, p, (xs, ys ++ vs, refl, h, (ys, vs, refl, r, (block_begins _ s vs left m (subst Brace are (brace_here rest e ends)), m))));
      scope_is = refl;
    }))
    (λ e. tt)

function_got : (limit : ℕ) (unit : List Token) (sc : Scope) (outer : Blocks) (q : t.SpecifiersTree) (d : t.DeclaratorTree) (ts zs xs : List Token) → head_specifiers sc (declarator_start d) q zs → g.declarator (g.named (has_type q)) (after_specifiers sc q) (declarator_start d) d xs → EndsIn ts
    → Got (λ f ys. function sc f (zs ++ (xs ++ ys))) (λ f. after_head sc f ∷ outer) ts (function_read limit unit q d (declared (is_typedef q) (after_specifiers sc q) d ∷ outer) ts)
function_got limit unit sc outer q d ts zs xs p h ends =
    let top = declared (is_typedef q) (after_specifiers sc q) d in
    let inner = in_function top d in
    subst (λ b. Got (λ f ys. function sc f (zs ++ (xs ++ ys))) (λ f. after_head sc f ∷ outer) ts (declarations_read limit unit b ts >>= (λ ds. body_needed limit unit q d ds.0 ds.2 ds.1))) (sym (function_block d top outer))
    (seq (declarations inner) (λ ds. after_decls inner ds ∷ top ∷ outer) (λ f ys. function sc f (zs ++ (xs ++ ys))) (λ f. after_head sc f ∷ outer) ts (declarations_read limit unit (inner ∷ top ∷ outer) ts) (λ ds. body_needed limit unit q d ds.0 ds.2 ds.1) (declarations_got limit unit inner (top ∷ outer) ts ends)
    (λ ds ys rest are r left. function_built limit unit sc outer q d ds zs xs ys rest p h r left))

-- a declaration or a definition
declared_got : (limit : ℕ) (unit : List Token) (sc : Scope) (outer : Blocks) (q : t.SpecifiersTree) (ts zs rest : List Token) → ts ≡ zs ++ rest → head_specifiers sc (pos_here ts) q zs → EndsIn rest → Got (λ i ys. item sc i (zs ++ ys)) (λ i. after_item sc i ∷ outer) rest (declared_item limit unit q (after_specifiers sc q ∷ outer) rest)
declared_got limit unit sc outer q ts zs rest are p ends = seq _ _ _ _ rest (named_read limit (naming_of q) (after_specifiers sc q ∷ outer) rest) _ (named_got limit q (after_specifiers sc q) outer rest ends)
    (λ d xs left also h last. got_if _ _ left (not (is_empty q) && goes_on (sign_here left)) _ _
    (λ e. mapped t.declaration _ _ _ _ left (declaration_from limit unit q d (declared (is_typedef q) (after_specifiers sc q) d ∷ outer) left) (from_got limit unit q sc outer d left zs xs (head_some sc (pos_here ts) q zs (both_true (not (is_empty q)) (goes_on (sign_here left)) e).0 p) h last) (λ v ys m. m) (λ v. refl))
    (λ e. mapped t.definition _ _ _ _ left (function_read limit unit q d (declared (is_typedef q) (after_specifiers sc q) d ∷ outer) left) (function_got limit unit sc outer q d left zs xs (head_before sc q (g.named (has_type q)) (after_specifiers sc q) d ts zs xs left (declarator_start d) refl (are ∙ ap (λ ys. zs ++ ys) also) h p) h last) (λ v ys m. m) (λ v. refl)))

item_got : (limit : ℕ) (unit : List Token) (sc : Scope) (outer : Blocks) (ts : List Token) → EndsIn ts → Got (item sc) (λ i. after_item sc i ∷ outer) ts (item_read limit unit (sc ∷ outer) ts)
item_got limit unit sc outer ts ends = seq _ _ _ _ ts (specifiers_read limit (sc ∷ outer) ts) _ (specifiers_got limit sc outer ts ends)
    (λ q zs rest are p left. got_if _ _ rest (not (is_empty q) && is_here marks.Semicolon rest) _ _
    (λ e. let two = both_true (not (is_empty q)) (is_here marks.Semicolon rest) e in mapped t.declaration (λ d ys. declaration sc d (zs ++ ys)) (λ d. after_decl sc d ∷ outer) _ _ rest (Ok (empty_declaration q (after_specifiers sc q ∷ outer) rest)) (empty_got q sc outer rest zs two.1 (head_some sc (pos_here ts) q zs two.0 p) left) (λ v ys m. m) (λ v. refl))
    (λ e. declared_got limit unit sc outer q ts zs rest are p left))

-- one more item
pub one_more : (sc : Scope) (is : List t.ItemTree) (i : t.ItemTree) (xs : List Token) → (items sc is ▸ item (after_items sc is) i) xs → items sc (is ++ i ∷ []) xs
one_more sc [] i xs p = behind_nothing (at_nothing (item sc i) xs p)
one_more sc (j ∷ is) i xs p = map_right (λ ys q. one_more (after_item sc j) is i ys q) (regroup p)

pub behind_more : (sc : Scope) (is : List t.ItemTree) (i : t.ItemTree) → after_item (after_items sc is) i ≡ after_items sc (is ++ i ∷ [])
behind_more sc [] i = refl
behind_more sc (j ∷ is) i = behind_more (after_item sc j) is i

pub some_there : (sc : Scope) (is : List t.ItemTree) (i : t.ItemTree) (xs : List Token) → items sc (is ++ i ∷ []) xs → some_items sc (is ++ i ∷ []) xs
some_there sc [] i xs h = h
some_there sc (j ∷ is) i xs h = h

-- what items were read, up to an End
abbrev OnItems : Scope → List Token → List Token → Result (List t.ItemTree) Fault → Type 0
OnItems sc xs ts (Err e) = Unit {0}
OnItems sc xs ts (Ok is) = (ys rest : List Token) × (ts ≡ ys ++ rest) × some_items sc is (xs ++ ys) × EndsIn rest × (is_here marks.End rest ≡ true)

items_shift : (sc : Scope) (xs ys rest ts : List Token) (r : Result (List t.ItemTree) Fault) → ts ≡ ys ++ rest → OnItems sc (xs ++ ys) rest r → OnItems sc xs ts r
items_shift sc xs ys rest ts (Err e) are h = tt
items_shift sc xs ys rest ts (Ok is) are h = (ys ++ h.0, h.1, are ∙ (ap (λ zs. ys ++ zs) h.2 ∙ sym (append_assoc ys h.0 h.1)), subst (some_items sc is) (append_assoc xs ys h.0) h.3, h.4, h.5)

items_if : (sc : Scope) (xs ts : List Token) (b : Bool) (r q : Result (List t.ItemTree) Fault) → (b ≡ true → OnItems sc xs ts r) → (b ≡ false → OnItems sc xs ts q) → OnItems sc xs ts (if b then r else q)
items_if sc xs ts true r q f h = f refl
items_if sc xs ts false r q f h = h refl

items_step : (limit : ℕ) (unit : List Token) (sc : Scope) (outer : Blocks) (us : List Token) (is : List t.ItemTree) (ts xs : List Token) (r : Answer t.ItemTree) → items sc is xs → Got (item (after_items sc is)) (λ i. after_item (after_items sc is) i ∷ outer) ts r
    → ((js : List t.ItemTree) (vs zs : List Token) → items sc js zs → EndsIn vs → OnItems sc zs vs (items_run limit unit us js (after_items sc js ∷ outer) vs))
    → OnItems sc xs ts (r >>= (λ i. items_next (items_run limit unit us) (with_item is i.0) i.2 i.1))
items_step limit unit sc outer us is ts xs (Err e) p h k = tt
items_step limit unit sc outer us is ts xs (Ok (i, rest, scope)) p h k =
    let more = one_more sc is i (xs ++ h.front) (both _ _ p h.derives) in
    items_shift sc xs h.front rest ts _ h.tokens_are (items_if sc (xs ++ h.front) rest (is_here marks.End rest) _ _
    (λ e. ([], rest, refl, subst (some_items sc (is ++ i ∷ [])) (sym (append-nil (xs ++ h.front))) (some_there sc is i (xs ++ h.front) more), h.ends, e))
    (λ e. subst (λ b. OnItems sc (xs ++ h.front) rest (items_run limit unit us (with_item is i) b rest)) (sym (h.scope_is ∙ ap (λ b. b ∷ outer) (behind_more sc is i))) (k (with_item is i) rest (xs ++ h.front) more h.ends)))

items_got : (limit : ℕ) (unit : List Token) (sc : Scope) (outer : Blocks) (us : List Token) (is : List t.ItemTree) (ts xs : List Token) → items sc is xs → EndsIn ts → OnItems sc xs ts (items_run limit unit us is (after_items sc is ∷ outer) ts)
items_got limit unit sc outer [] is ts xs p ends = tt
items_got limit unit sc outer (u ∷ us) is ts xs p ends = items_step limit unit sc outer us is ts xs (item_read limit unit (after_items sc is ∷ outer) ts) p (item_got limit unit (after_items sc is) outer ts ends) (λ js vs zs q left. items_got limit unit sc outer us js vs zs q left)

ends_in : (ts : List Token) → EndsOnce ts → EndsIn ts
ends_in [] h = h
ends_in (tok ∷ []) h = h
ends_in (tok ∷ next ∷ ts) h = ends_in (next ∷ ts) h.1

ends_once : (xs : List Token) (v : Token) (ts : List Token) → EndsOnce (xs ++ v ∷ ts) → EndsOnce (v ∷ ts)
ends_once [] v ts h = h
ends_once (x ∷ []) v ts h = h.1
ends_once (x ∷ y ∷ xs) v ts h = ends_once (y ∷ xs) v ts h.1

end_told : (sign : Sign) (k : TokenKind) → is_mark marks.End sign ≡ true → Tells sign k → k ≡ kinds.End
end_told signs.End k e h = h
end_told _ k e h = absurd cc

abbrev pub answer : t.UnitTree → Result t.UnitTree Fault
answer u = Ok u

pub ok_is : (a b : t.UnitTree) → answer a ≡ answer b → a ≡ b
ok_is a b e = cc

-- an End ends the tokens
only_end : (rest : List Token) → EndsOnce rest → is_here marks.End rest ≡ true → some kinds.End rest
only_end [] once e = absurd once
only_end (tok ∷ []) once e = is_some_one tok kinds.End once
only_end (tok ∷ next ∷ ts) once e = absurd (once.0 (end_told (sign_of tok.kind) tok.kind e (tells tok.kind)))

rest_once : (xs rest : List Token) → EndsIn rest → EndsOnce (xs ++ rest) → EndsOnce rest
rest_once xs [] ends once = absurd ends
rest_once xs (v ∷ rest) ends once = ends_once xs v rest once

unit_answered : (ts : List Token) (r : Result (List t.ItemTree) Fault) (unit : t.UnitTree) → EndsOnce ts → OnItems no_types [] ts r → (r >>= (λ is. Ok (record { items = is }))) ≡ Ok unit → units unit ts
unit_answered ts (Err e) unit once h same = absurd cc
unit_answered ts (Ok is) unit once h same = subst (λ v. units v ts) (ok_is (record { items = is }) unit same) (h.0, h.1, h.2, h.3, only_end h.1 (rest_once h.0 h.1 h.4 (subst EndsOnce h.2 once)) h.5)

some_tokens : (limit : ℕ) (ts : List Token) (unit : t.UnitTree) (b : Bool) → EndsOnce ts → OnItems no_types [] ts (items_read limit ts (no_types ∷ []) ts) → (if b then Err nothing_there else whole_unit limit ts) ≡ Ok unit → units unit ts
some_tokens limit ts unit true once h same = absurd cc
some_tokens limit ts unit false once h same = unit_answered ts (items_read limit ts (no_types ∷ []) ts) unit once h same

pub units_are_derived : UnitsAreDerived
units_are_derived limit ts unit once same = some_tokens limit ts unit (nat_eq (length ts) 0) once (items_got limit ts no_types [] ts [] ts [] refl (ends_in ts once)) same
