-- Whole readings, and that tokens have one tree at most.
use Rattle.std.proofs.Common.{◌≡◌, ℕ, ◌+◌, ◌≤◌, List, [], ◌∷◌, ◌++◌, Bool, true, false, refl, sym, ap, ◌∙◌, subst, inl, inr, append_assoc, arith}
use Rattle.std.specs.Prelude.{if◌then◌else◌, nat_le, Ok, Err}
use Rattle.std.proofs.lemmas.Bool.{ne_eqb}
use Rattle.c65_base.specs.Answers.{◌>>=◌}
use Rattle.c65_base.specs.declared.refusal.Pos.{Pos}
use Rattle.c65_scan.specs.declared.token.Keyword.TheVariants as keywords
use Rattle.c65_scan.specs.declared.token.Punct.{Punct}
use Rattle.c65_scan.specs.declared.token.Punct.TheVariants as puncts
use Rattle.c65_scan.specs.declared.token.Token.{Token}
use Rattle.c65_scan.specs.declared.token.TokenKind.{TokenKind}
use Rattle.c65_scan.specs.declared.token.TokenKind.TheVariants as kinds
use Rattle.c65_tree.specs.Trees as t
use Rattle.c65_tree.specs.Depth.{expr_depth, specifier_list_depth, declarator_depth}
use Rattle.c65_parse_trees.specs.declared.operator.Infix.{Infix}
use Rattle.c65_parse_trees.specs.declared.operator.Infix.TheVariants as infixes
use Rattle.c65_parse_trees.specs.declared.sign.Sign.{Sign}
use Rattle.c65_parse_trees.specs.declared.sign.Sign.TheVariants as signs
use Rattle.c65_parse_trees.specs.Levels.{level_of, left_of_infix}
use Rattle.c65_parse_trees.specs.Listings.{Listing, nothing_listed, ended}
use Rattle.c65_parse_trees.specs.Signs.{sign_of_kind, sign_of_keyword, sign_of_punct, left_of, rank_of, infix_of, begins_specifiers}
use Rattle.c65_parse_names.specs.Scopes.{Blocks}
use Rattle.c65_parse.specs.declared.frame.Sort.{Sort}
use Rattle.c65_parse.specs.declared.frame.Sort.TheVariants as sorts
use Rattle.c65_parse.specs.Frames.{Frame, Held, Done, stop, have_expr, specifiers, have_declarator, done_expr, done_specifiers, done_declarator}
use Rattle.c65_parse.specs.Expressions.{within, expr_step, extend_by, close}
use Rattle.c65_parse.specs.Declarators.{declarator_end, close_declarator}
use Rattle.c65_parse.specs.Specifiers.{specifiers_step, end_specifiers}
use Rattle.c65_parse.specs.Machine.{run, step, step_by, fault_at}
use Rattle.c65_parse.specs.Reading.{Answer, token_at, as_expr, as_specifiers, as_declarator, expr_read, listed_read, specifiers_read, declarator_read, type_behind, type_read}
use Rattle.c65_parse_grammar.specs.Phrases.{token}
use Rattle.c65_parse_grammar.specs.Parts.{list_has_type, is_empty_list}
use Rattle.c65_parse_grammar.specs.Scopes.{Scope, no_types, after, after_list, after_specifiers, after_declarator, after_type}
use Rattle.c65_parse_grammar.specs.Expressions as g
use Rattle.c65_parse_law_trees.specs.Read.{EndsExpr, ExprsAreRead, EndsSpecifiers, SpecifiersAreRead, EndsDeclarator, DeclaratorsAreRead, TypesAreRead}
use Rattle.c65_parse_law_trees.specs.Tokens.{rank, Bare, NoSuffix, sort_of}
use Rattle.c65_parse_law_trees.specs.One.{ExprsAreOne, SpecifiersAreOne, DeclaratorsAreOne, TypesAreOne}
use Rattle.c65_parse_law_alike.proofs.Alike.{level_is}
use Rattle.c65_parse_law_trees.proofs.Edges.{edge, edge_above}
use Rattle.c65_parse_law_trees.proofs.Runs.{then_run, First}
use Rattle.c65_parse_law_trees.proofs.Steps.{rank_same, no_operator, low_operator, binary_between}
use Rattle.c65_parse_law_trees.proofs.Readings.{listing_of, listed_of, NoBrace, Halts}
use Rattle.c65_parse_law_trees.proofs.Specifiers.{name_ends, ended_is, list_deep, Parted}
use Rattle.c65_parse_law_trees.proofs.Ends.{halts_bare, halts_named, NoSuffixSign, suffix_sign, declarator_first}
use Rattle.c65_parse_law_trees.proofs.Params.{declares_parted}
use Rattle.c65_parse_law_trees.proofs.Whole.{reads_expr, reads_specifier_list, reads_declarator}

-- the reading ends before a token
stops : (limit : ℕ) (least : ℕ) (sc : Scope) (outer : Blocks) (fs : List Frame) (held : Held) (tok : Token) (ts : List Token) (done : Done) → step_by limit least fs held tok (sign_of_kind sc tok.kind) ≡ stop done → run limit least (sc ∷ outer) fs held (tok ∷ ts) ≡ Ok (done, tok ∷ ts, sc ∷ outer)
unfolding step
stops limit least sc outer fs held tok ts done h = ap (then_run limit least (sc ∷ outer) tok ts) h

left_same : (sc : Scope) (k : TokenKind) → left_of (sign_of_kind sc k) ≡ left_of (sign_of_kind no_types k)
left_same sc (kinds.Keyword k) = refl
left_same sc (kinds.Name n) = refl
left_same sc (kinds.Number ty n) = refl
left_same sc (kinds.Text bs) = refl
left_same sc (kinds.Punct p) = refl
left_same sc kinds.End = refl

infix_left : (i : Infix) → left_of_infix i ≤ 15
infix_left (infixes.Binary op) = let range = binary_between op in let high = range.1 in omega (arith, high)
infix_left infixes.And = omega arith
infix_left infixes.Or = omega arith
infix_left (infixes.Assign op) = omega arith
infix_left infixes.Comma = omega arith

no_rank : (s : Sign) → left_of s ≡ 16 → rank_of s ≡ 0
no_rank signs.Open h = absurd (omega (arith, h))
no_rank signs.OpenBracket h = absurd (omega (arith, h))
no_rank (signs.Member arrow) h = absurd (omega (arith, h))
no_rank (signs.Step down) h = absurd (omega (arith, h))
no_rank signs.Star h = absurd (omega (arith, h))
no_rank (signs.Either before op) h = absurd (let range = binary_between op in let high = range.1 in omega (arith, h, high))
no_rank (signs.Infix i) h = absurd (let high = infix_left i in omega (arith, h, high))
no_rank signs.Question h = absurd (omega (arith, h))
no_rank _ h = refl

ends_follow : (least n : ℕ) (k : TokenKind) → least ≤ n → least ≤ 13 → EndsExpr least k → rank k ≤ edge n
ends_follow least n k low high (inl h) = let none = no_rank (sign_of_kind no_types k) h in omega (arith, none)
ends_follow least n k low high (inr h) = edge_above (rank k) n (omega (arith, h, high)) (omega (arith, h, low))

expr_ends : (limit : ℕ) (least : ℕ) (e : t.ExprTree) (sc : Scope) (l : Pos) (k : TokenKind) → EndsExpr least k → expr_step limit least e [] l (sign_of_kind sc k) ≡ stop (done_expr e)
unfolding expr_step close
expr_ends limit least e sc l k (inl h) = ap (λ b. if b then within (nat_le (expr_depth e + (0 + 1)) limit) (extend_by (infix_of (sign_of_kind sc k)) e [] l (sign_of_kind sc k)) else stop (done_expr e)) (no_operator least e [] (sign_of_kind sc k) (left_same sc k ∙ h))
expr_ends limit least e sc l k (inr h) = ap (λ b. if b then within (nat_le (expr_depth e + (0 + 1)) limit) (extend_by (infix_of (sign_of_kind sc k)) e [] l (sign_of_kind sc k)) else stop (done_expr e)) (low_operator least e [] (sign_of_kind sc k) (let same_rank = rank_same sc k in omega (arith, same_rank, h)))

pub exprs_are_read : ExprsAreRead
exprs_are_read limit least sc outer tree front next others p low deep high ends =
    let same_level = level_is tree in
    let tall : least ≤ level_of tree = omega (arith, low, same_level) in
    ap (λ r. r >>= as_expr) (reads_expr limit tree least sc outer [] front (next ∷ others) p tall (omega (arith, deep)) (ends_follow least (level_of tree) next.kind tall high ends)
    ∙ stops limit least (after sc tree) outer [] (have_expr tree) next others (done_expr tree) (expr_ends limit least tree (after sc tree) next.pos next.kind ends))

-- what ends specifiers
sign_ends : (limit : ℕ) (q : Listing) (fs : List Frame) (l : Pos) (s : Sign) → begins_specifiers s ≡ false → specifiers_step limit q fs l s ≡ end_specifiers limit q fs l s
unfolding specifiers_step
sign_ends limit q fs l (signs.Word w) h = absurd cc
sign_ends limit q fs l (signs.Storage c) h = absurd cc
sign_ends limit q fs l (signs.Tag w) h = absurd cc
sign_ends limit q fs l (signs.Name n true) h = absurd cc
sign_ends limit q fs l (signs.Name n false) h = refl
sign_ends limit q fs l _ h = refl

punct_begins : (p : Punct) → begins_specifiers (sign_of_punct p) ≡ false
punct_begins puncts.Star = refl
punct_begins _ = refl

kind_ends : (limit : ℕ) (q : Listing) (fs : List Frame) (l : Pos) (typed : Bool) (sc : Scope) (k : TokenKind) → q.has_type ≡ typed → EndsSpecifiers typed sc k → specifiers_step limit q fs l (sign_of_kind sc k) ≡ end_specifiers limit q fs l (sign_of_kind sc k)
kind_ends limit q fs l typed sc (kinds.Name n) e h = name_ends limit q fs l n typed (sc n) e h
kind_ends limit q fs l typed sc (kinds.Keyword k) e h = sign_ends limit q fs l (sign_of_keyword k) h
kind_ends limit q fs l typed sc (kinds.Number ty n) e h = sign_ends limit q fs l signs.Literal refl
kind_ends limit q fs l typed sc (kinds.Text bs) e h = sign_ends limit q fs l signs.Literal refl
kind_ends limit q fs l typed sc (kinds.Punct p) e h = sign_ends limit q fs l (sign_of_punct p) (punct_begins p)
kind_ends limit q fs l typed sc kinds.End e h = sign_ends limit q fs l signs.Other refl

brace_by : (typed : Bool) (sc : Scope) (k : TokenKind) (l : Pos) → EndsSpecifiers typed sc k → NoBrace (token k l)
brace_by typed sc (kinds.Punct puncts.OpenBrace) l h = h
brace_by typed sc (kinds.Punct _) l h = tt
brace_by typed sc (kinds.Keyword k) l h = tt
brace_by typed sc (kinds.Name n) l h = tt
brace_by typed sc (kinds.Number ty n) l h = tt
brace_by typed sc (kinds.Text bs) l h = tt
brace_by typed sc kinds.End l h = tt

top_end : (limit : ℕ) (q : Listing) (l : Pos) (s : Sign) → end_specifiers limit q [] l s ≡ stop (done_specifiers (ended q l))
unfolding end_specifiers
top_end limit q l s = refl

-- specifiers, one or more
listed_is : (limit : ℕ) (storage : Bool) (sc : Scope) (outer : Blocks) (p : Pos) (qs : t.SpecifierList) (front : List Token) (next : Token) (others : List Token) → g.specifiers sc storage (t.specifiers p qs) front → specifier_list_depth qs ≤ limit → EndsSpecifiers (list_has_type qs) (after_list sc qs) next.kind
    → listed_read limit storage (sc ∷ outer) (front ++ next ∷ others) ≡ Ok (listed_of (t.specifiers p qs), next ∷ others, after_list sc qs ∷ outer)
listed_is limit storage sc outer p qs front next others h deep ends =
    ap (λ r. r >>= as_specifiers) (reads_specifier_list limit qs 0 sc outer storage [] front (next ∷ others) h.1 (omega (arith, deep)) (brace_by (list_has_type qs) (after_list sc qs) next.kind next.pos ends)
    ∙ stops limit 0 (after_list sc qs) outer [] (specifiers (listing_of storage qs)) next others (done_specifiers (listed_of (t.specifiers p qs)))
    (kind_ends limit (listing_of storage qs) [] next.pos (list_has_type qs) (after_list sc qs) next.kind refl ends
    ∙ (top_end limit (listing_of storage qs) next.pos (sign_of_kind (after_list sc qs) next.kind)
    ∙ ap (λ q. stop (done_specifiers q)) (ended_is p qs storage next.pos h.0.0 h.0.1))))

none_is : (limit : ℕ) (sc : Scope) (outer : Blocks) (next : Token) (others : List Token) → EndsSpecifiers false sc next.kind → listed_read limit true (sc ∷ outer) (next ∷ others) ≡ Ok (listed_of (t.specifiers next.pos t.no_specifiers), next ∷ others, sc ∷ outer)
none_is limit sc outer next others ends = ap (λ r. r >>= as_specifiers) (stops limit 0 sc outer [] (specifiers (nothing_listed true)) next others (done_specifiers (listed_of (t.specifiers next.pos t.no_specifiers)))
    (kind_ends limit (nothing_listed true) [] next.pos false sc next.kind refl ends ∙ top_end limit (nothing_listed true) next.pos (sign_of_kind sc next.kind)))

pub specifiers_are_read : SpecifiersAreRead
specifiers_are_read limit sc outer (t.specifiers p t.no_specifiers) front next others h deep ends =
    subst (λ ts. specifiers_read limit (sc ∷ outer) (ts ++ next ∷ others) ≡ Ok (t.specifiers p t.no_specifiers, next ∷ others, sc ∷ outer)) (sym h.1)
    (ap (λ r. r >>= (λ q. Ok (q.0.tree, q.1, q.2))) (none_is limit sc outer next others ends) ∙ ap (λ x. Ok (t.specifiers x t.no_specifiers, next ∷ others, sc ∷ outer)) (sym h.0))
specifiers_are_read limit sc outer (t.specifiers p (t.and_specifier qs q)) front next others h deep ends = ap (λ r. r >>= (λ q. Ok (q.0.tree, q.1, q.2))) (listed_is limit true sc outer p (t.and_specifier qs q) front next others h deep ends)

-- what ends a declarator
top_halts : (d : t.DeclaratorTree) (s : g.Sort) (sc : Scope) (l : Pos) (xs : List Token) (next : Token) (b : Bool) → g.may_lack s ≡ b → g.declarator s sc l d xs → EndsDeclarator b l next → Halts d next × NoSuffix next.kind
top_halts d s sc l xs next true e p h = (halts_bare d s sc l xs next p h.2 h.1 h.0, h.0)
top_halts d s sc l xs next false e p h = (halts_named d s sc l xs next e p h, h)

declarator_stops : (limit : ℕ) (d : t.DeclaratorTree) (l : Pos) (s : Sign) → NoSuffixSign s → declarator_end limit d [] l s ≡ stop (done_declarator d)
unfolding declarator_end close_declarator
declarator_stops limit d l signs.OpenBracket h = absurd h
declarator_stops limit d l signs.Open h = absurd h
declarator_stops limit d l _ h = refl

pub declarators_are_read : DeclaratorsAreRead
declarators_are_read limit sort sc outer l tree front next others p deep ends =
    let h = top_halts tree (sort_of sort) sc l front next (g.may_lack (sort_of sort)) refl p ends in
    let sc1 = after_declarator sc tree in
    ap (λ r. r >>= as_declarator) (reads_declarator limit tree 0 sc outer sort [] l front (next ∷ others) p (omega (arith, deep)) h.0
    ∙ stops limit 0 sc1 outer [] (have_declarator tree) next others (done_declarator tree) (declarator_stops limit tree next.pos (sign_of_kind sc1 next.kind) (suffix_sign sc1 next.kind h.1)))

parted_ends : (typed : Bool) (sc : Scope) (k : TokenKind) → Parted typed sc k → EndsSpecifiers typed sc k
parted_ends typed sc (kinds.Name n) h = h
parted_ends typed sc (kinds.Keyword keywords.FastCall) h = refl
parted_ends typed sc (kinds.Keyword keywords.CDecl) h = refl
parted_ends typed sc (kinds.Keyword _) h = absurd h
parted_ends typed sc (kinds.Punct puncts.OpenBrace) h = h
parted_ends typed sc (kinds.Punct _) h = tt
parted_ends typed sc (kinds.Number ty n) h = tt
parted_ends typed sc (kinds.Text bs) h = tt
parted_ends typed sc kinds.End h = tt

abbrev PartedToken : Bool → Scope → Token → Type 0
PartedToken typed sc tok = Parted typed sc tok.kind

listed_before : (limit : ℕ) (sc : Scope) (outer : Blocks) (p : Pos) (qs : t.SpecifierList) (front zs : List Token) (next : Token) (others : List Token) → g.specifiers sc false (t.specifiers p qs) front → specifier_list_depth qs ≤ limit → First (PartedToken (list_has_type qs) (after_list sc qs)) (zs ++ next ∷ others)
    → listed_read limit false (sc ∷ outer) (front ++ (zs ++ next ∷ others)) ≡ Ok (listed_of (t.specifiers p qs), zs ++ next ∷ others, after_list sc qs ∷ outer)
listed_before limit sc outer p qs front [] next others h deep f = listed_is limit false sc outer p qs front next others h deep (parted_ends (list_has_type qs) (after_list sc qs) next.kind f)
listed_before limit sc outer p qs front (z ∷ zs) next others h deep f = listed_is limit false sc outer p qs front z (zs ++ next ∷ others) h deep (parted_ends (list_has_type qs) (after_list sc qs) z.kind f)

closing_parted : (typed : Bool) (sc : Scope) (k : TokenKind) → k ≡ kinds.Punct puncts.CloseParen → Parted typed sc k
closing_parted typed sc k e = subst (Parted typed sc) (sym e) tt

closing_ends : (l : Pos) (next : Token) → next.kind ≡ kinds.Punct puncts.CloseParen → next.pos ≡ l → EndsDeclarator true l next
closing_ends l next e h = (subst NoSuffix (sym e) tt, subst Bare (sym e) tt, h)

type_after : (limit : ℕ) (p : Pos) (qs : t.SpecifierList) (d : t.DeclaratorTree) (sc : Scope) (outer : Blocks) (zs : List Token) (next : Token) (others : List Token) → is_empty_list qs ≡ false → g.declarator g.abstract sc next.pos d zs → declarator_depth d ≤ limit → next.kind ≡ kinds.Punct puncts.CloseParen
    → type_behind limit (listed_of (t.specifiers p qs)) (sc ∷ outer) (zs ++ next ∷ others) ≡ Ok (t.type_name (t.specifiers p qs) d, next ∷ others, after_declarator sc d ∷ outer)
type_after limit p qs d sc outer zs next others e h deep close_paren =
    ap (λ b. if b then Err (fault_at (token_at (zs ++ next ∷ others) 0)) else (declarator_read limit sorts.Abstract (sc ∷ outer) (zs ++ next ∷ others) >>= (λ r. Ok (t.type_name (t.specifiers p qs) r.0, r.1, r.2)))) (ne_eqb (specifier_list_depth qs) 0 (λ z. let some = list_deep qs e in omega (arith, some, z)))
    ∙ ap (λ r. r >>= (λ x. Ok (t.type_name (t.specifiers p qs) x.0, x.1, x.2))) (declarators_are_read limit sorts.Abstract sc outer next.pos d zs next others h deep (closing_ends next.pos next close_paren refl))

pub types_are_read : TypesAreRead
types_are_read limit sc outer (t.type_name (t.specifiers p qs) d) front next others h deep close_paren =
    let sc1 = after_list sc qs in
    let typed = list_has_type qs in
    let ys = h.0 in
    let zs = h.1 in
    let f : First (PartedToken typed sc1) (zs ++ next ∷ others) = declarator_first (PartedToken typed sc1) d g.abstract sc1 next.pos zs (next ∷ others) h.4 (λ tok k. declares_parted g.abstract typed sc1 d tok.kind tt k.0) (λ e. closing_parted typed sc1 next.kind close_paren) in
    subst (λ ts. type_read limit (sc ∷ outer) (ts ++ next ∷ others) ≡ Ok (t.type_name (t.specifiers p qs) d, next ∷ others, after_declarator sc1 d ∷ outer)) (sym h.2)
    (subst (λ ts. type_read limit (sc ∷ outer) ts ≡ Ok (t.type_name (t.specifiers p qs) d, next ∷ others, after_declarator sc1 d ∷ outer)) (sym (append_assoc ys zs (next ∷ others)))
    (ap (λ r. r >>= (λ q. type_behind limit q.0 q.2 q.1)) (listed_before limit sc outer p qs ys zs next others h.3 (omega (arith, deep)) f)
    ∙ type_after limit p qs d sc1 outer zs next others h.3.0.0 h.4 (omega (arith, deep)) close_paren))

-- two readings of the same tokens
tree_or : {A : Type 0} → A → Answer A → A
tree_or other r = elim r as (λ _. _) [ Ok a ↦ a.0 | Err e ↦ other ]

same_tree : {A : Type 0} (a b : A) (r : Answer A) (rest more : List Token) (scope behind : Blocks) → r ≡ Ok (a, rest, scope) → r ≡ Ok (b, more, behind) → a ≡ b
unfolding tree_or
same_tree a b r rest more scope behind e f = ap (tree_or a) (sym e ∙ f)

pub exprs_are_one : ExprsAreOne
exprs_are_one limit sc ts tree other p q deep low =
    let next : Token = token kinds.End (record { file = 0; line = 1 }) in
    same_tree tree other (expr_read limit 0 (sc ∷ []) (ts ++ next ∷ [])) (next ∷ []) (next ∷ []) (after sc tree ∷ []) (after sc other ∷ [])
    (exprs_are_read limit 0 sc [] tree ts next [] p (omega arith) deep (omega arith) (inl refl)) (exprs_are_read limit 0 sc [] other ts next [] q (omega arith) low (omega arith) (inl refl))

pub specifiers_are_one : SpecifiersAreOne
specifiers_are_one limit sc behind ts tree other p q deep low =
    let next : Token = token kinds.End behind in
    same_tree tree other (specifiers_read limit (sc ∷ []) (ts ++ next ∷ [])) (next ∷ []) (next ∷ []) (after_specifiers sc tree ∷ []) (after_specifiers sc other ∷ [])
    (specifiers_are_read limit sc [] tree ts next [] p deep tt) (specifiers_are_read limit sc [] other ts next [] q low tt)

own_sort : g.Sort → Sort
own_sort (g.named b) = sorts.Named b
own_sort (g.param b) = sorts.Param b
own_sort (g.member b) = sorts.Member b
own_sort g.abstract = sorts.Abstract

sort_is : (s : g.Sort) → sort_of (own_sort s) ≡ s
unfolding own_sort
sort_is (g.named b) = refl
sort_is (g.param b) = refl
sort_is (g.member b) = refl
sort_is g.abstract = refl

end_ends : (b : Bool) (l : Pos) → EndsDeclarator b l (token kinds.End l)
end_ends true l = (tt, tt, refl)
end_ends false l = tt

one_declarator : (limit : ℕ) (sort : Sort) (sc : Scope) (behind : Pos) (ts : List Token) (tree other : t.DeclaratorTree) → g.declarator (sort_of sort) sc behind tree ts → g.declarator (sort_of sort) sc behind other ts → declarator_depth tree ≤ limit → declarator_depth other ≤ limit → tree ≡ other
one_declarator limit sort sc behind ts tree other p q deep low =
    let next : Token = token kinds.End behind in
    same_tree tree other (declarator_read limit sort (sc ∷ []) (ts ++ next ∷ [])) (next ∷ []) (next ∷ []) (after_declarator sc tree ∷ []) (after_declarator sc other ∷ [])
    (declarators_are_read limit sort sc [] behind tree ts next [] p deep (end_ends (g.may_lack (sort_of sort)) behind)) (declarators_are_read limit sort sc [] behind other ts next [] q low (end_ends (g.may_lack (sort_of sort)) behind))

pub declarators_are_one : DeclaratorsAreOne
declarators_are_one limit sort sc behind ts tree other p q deep low =
    one_declarator limit (own_sort sort) sc behind ts tree other (subst (λ s. g.declarator s sc behind tree ts) (sym (sort_is sort)) p) (subst (λ s. g.declarator s sc behind other ts) (sym (sort_is sort)) q) deep low

pub types_are_one : TypesAreOne
types_are_one limit sc behind ts tree other p q deep low =
    let next : Token = token (kinds.Punct puncts.CloseParen) behind in
    same_tree tree other (type_read limit (sc ∷ []) (ts ++ next ∷ [])) (next ∷ []) (next ∷ []) (after_type sc tree ∷ []) (after_type sc other ∷ [])
    (types_are_read limit sc [] tree ts next [] p deep refl) (types_are_read limit sc [] other ts next [] q low refl)
