-- Members of structures and unions, and enumerators.
use Rattle.std.proofs.Common.{◌≡◌, ℕ, suc, ◌+◌, ◌≤◌, List, [], ◌∷◌, ◌++◌, length, Bool, true, false, refl, sym, ap, ◌∙◌, subst, inl, inr, arith}
use Rattle.std.specs.Prelude.{Option}
use Rattle.c65_base.specs.declared.names.Name.{Name}
use Rattle.c65_base.specs.declared.refusal.Pos.{Pos}
use Rattle.c65_scan.specs.declared.token.Keyword.TheVariants as keywords
use Rattle.c65_scan.specs.declared.token.Punct.TheVariants as puncts
use Rattle.c65_scan.specs.declared.token.Token.{Token}
use Rattle.c65_scan.specs.declared.token.TokenKind.{TokenKind}
use Rattle.c65_scan.specs.declared.token.TokenKind.TheVariants as kinds
use Rattle.c65_tree.specs.Trees as t
use Rattle.c65_tree.specs.Depth.{expr_depth, member_list_depth, member_decls_depth, enumerator_list_depth}
use Rattle.c65_parse_trees.specs.declared.sign.Sign.{Sign}
use Rattle.c65_parse_trees.specs.declared.sign.Sign.TheVariants as signs
use Rattle.c65_parse_trees.specs.Listings.{Listing, Body, MembersPart, EnumPart, nothing_listed}
use Rattle.c65_parse_trees.specs.Signs.{sign_of_kind, sign_of_punct, begins_type}
use Rattle.c65_parse_names.specs.Scopes.{Blocks}
use Rattle.c65_parse.specs.declared.frame.Change.TheVariants as changes
use Rattle.c65_parse.specs.declared.frame.Sort.TheVariants as sorts
use Rattle.c65_parse.specs.Frames.{Frame, in_members, in_member, in_width, in_value, go, operand, specifiers, more_members, member, enumerator, enumerator_name, declarator, have_declarator}
use Rattle.c65_parse.specs.Expressions.{goes, close, close_member, close_enumerator, with_enumerator}
use Rattle.c65_parse.specs.Declarators.{declarator_step, declarator_end, close_declarator, close_member_declarator}
use Rattle.c65_parse.specs.Specifiers.{specifiers_step, end_listed, member_step, more_members_step, enumerator_step, enumerator_name_step}
use Rattle.c65_parse.specs.Machine.{run}
use Rattle.c65_parse_grammar.specs.Phrases.{◌▸◌, token, given, one, some_mark}
use Rattle.c65_parse_grammar.specs.Parts.{level, has_type, list_has_type, is_empty_list, first_place, declarator_start}
use Rattle.c65_parse_grammar.specs.Scopes.{Scope, declare, after, after_list, after_member_decls, after_member_list, after_enumerator_list, after_declarator, after_maybe, after_maybe_declarator}
use Rattle.c65_parse_grammar.specs.Expressions as g
use Rattle.c65_parse_law_trees.specs.Tokens.{NoSuffix}
use Rattle.c65_parse_law_alike.proofs.Alike.{level_is, expr_deep}
use Rattle.c65_parse_law_trees.proofs.Runs.{takes, steps, same, first_map, split, Leads, before, before_some, behind_some, between_some}
use Rattle.c65_parse_law_trees.proofs.Steps.{roomy}
use Rattle.c65_parse_law_trees.proofs.Readings.{ReadsExpr, ReadsMaybe, ReadsList, ReadsSpecifiers, ReadsDecls, ReadsMembers, ReadsEnumerators, ReadsMaybeDeclarator, body, part_of, member_mark, member_held, enum_part, enumerator_mark, enumerator_held, listing_of, NoBrace}
use Rattle.c65_parse_law_trees.proofs.Firsts.{Opens, opens_first, opens_map, opens_more, opens_mark, append_nothing, Specifies, DeclaratorKind, Declares, begins_list, begins_declarator}
use Rattle.c65_parse_law_trees.proofs.Specifiers.{Parted, parted_brace, ends_specifiers}
use Rattle.c65_parse_law_trees.proofs.Exprs.{Quits, encloses}
use Rattle.c65_parse_law_trees.proofs.Ends.{halts_named, not_nameless}

-- a width, and the mark behind it
width_closes : (b : Body) (q : t.SpecifiersTree) (ms : t.MemberList) (l : Pos) (d : t.MaybeDeclarator) (e : t.ExprTree) (fs : List Frame) (last : Bool)
    → close e (in_width (part_of b q ms) l d ∷ fs) (sign_of_punct (member_mark last)) ≡ goes fs (member_held last (part_of b q (t.and_member ms l d (t.an_expr e))))
unfolding close close_member
width_closes b q ms l d e fs true = refl
width_closes b q ms l d e fs false = refl

width_quits : (part : MembersPart) (l : Pos) (d : t.MaybeDeclarator) (last : Bool) → Quits (in_width part l d) (member_mark last)
width_quits part l d true = inl refl
width_quits part l d false = inr (omega arith)

reads_width : (limit : ℕ) (e : t.ExprTree) → ReadsExpr limit e → (least : ℕ) (sc : Scope) (outer : Blocks) (b : Body) (q : t.SpecifiersTree) (ms : t.MemberList) (l : Pos) (d : t.MaybeDeclarator) (fs : List Frame) (last : Bool) (m : Pos) (xs rest : List Token) → g.expr sc e xs → 2 ≤ level e → expr_depth e + suc (length fs) ≤ limit
    → run limit least (sc ∷ outer) (in_width (part_of b q ms) l d ∷ fs) operand (xs ++ token (kinds.Punct (member_mark last)) m ∷ rest) ≡ run limit least (after sc e ∷ outer) fs (member_held last (part_of b q (t.and_member ms l d (t.an_expr e)))) rest
reads_width limit e re least sc outer b q ms l d fs true m xs rest p h r = let same_level = level_is e in encloses limit e re least sc outer (in_width (part_of b q ms) l d) fs xs puncts.Semicolon m rest fs _ changes.Nothing p (omega (arith, h, same_level)) r refl refl (inl refl) (width_closes b q ms l d e fs true)
reads_width limit e re least sc outer b q ms l d fs false m xs rest p h r = let same_level = level_is e in encloses limit e re least sc outer (in_width (part_of b q ms) l d) fs xs puncts.Comma m rest fs _ changes.Nothing p (omega (arith, h, same_level)) r refl refl (inr (omega arith)) (width_closes b q ms l d e fs false)

-- a declarator is needed where a member is
member_kind_by : (limit : ℕ) (part : MembersPart) (fs : List Frame) (l : Pos) (sc : Scope) (s : g.Sort) (d : t.DeclaratorTree) (k : TokenKind) → DeclaratorKind s sc d k → member_step limit part fs l (sign_of_kind sc k) ≡ declarator_step limit (sorts.Member part.specifiers.has_type) (in_member part l ∷ fs) l (sign_of_kind sc k)
unfolding member_step
member_kind_by limit part fs l sc s d (kinds.Name n) h = refl
member_kind_by limit part fs l sc s d (kinds.Keyword keywords.FastCall) h = refl
member_kind_by limit part fs l sc s d (kinds.Keyword keywords.CDecl) h = refl
member_kind_by limit part fs l sc s d (kinds.Keyword _) h = absurd h
member_kind_by limit part fs l sc s d (kinds.Punct puncts.Star) h = refl
member_kind_by limit part fs l sc s d (kinds.Punct puncts.OpenParen) h = refl
member_kind_by limit part fs l sc s d (kinds.Punct puncts.OpenBracket) h = refl
member_kind_by limit part fs l sc s d (kinds.Punct _) h = absurd h
member_kind_by limit part fs l sc s d (kinds.Number ty n) h = absurd h
member_kind_by limit part fs l sc s d (kinds.Text bs) h = absurd h
member_kind_by limit part fs l sc s d kinds.End h = absurd h

member_kind : (limit : ℕ) (part : MembersPart) (fs : List Frame) (l : Pos) (sc : Scope) (s : g.Sort) (d : t.DeclaratorTree) (tok : Token) → Declares s sc d tok → declarator_start d ≡ l → member_step limit part fs tok.pos (sign_of_kind sc tok.kind) ≡ declarator_step limit (sorts.Member part.specifiers.has_type) (in_member part l ∷ fs) tok.pos (sign_of_kind sc tok.kind)
member_kind limit part fs l sc s d tok h e = member_kind_by limit part fs tok.pos sc s d tok.kind h.0 ∙ ap (λ x. declarator_step limit (sorts.Member part.specifiers.has_type) (in_member part x ∷ fs) tok.pos (sign_of_kind sc tok.kind)) (h.1 ∙ e)

member_begins : (limit : ℕ) (least : ℕ) (sc : Scope) (outer : Blocks) (part : MembersPart) (fs : List Frame) (l : Pos) (d : t.DeclaratorTree) (xs rest : List Token) → g.declarator (g.member part.specifiers.has_type) sc l d xs → declarator_start d ≡ l
    → run limit least (sc ∷ outer) fs (member part) (xs ++ rest) ≡ run limit least (sc ∷ outer) (in_member part l ∷ fs) (declarator (sorts.Member part.specifiers.has_type)) (xs ++ rest)
member_begins limit least sc outer part fs l d xs rest p e = same limit least sc outer fs (in_member part l ∷ fs) (member part) (declarator (sorts.Member part.specifiers.has_type)) (xs ++ rest)
    (first_map (Declares (g.member part.specifiers.has_type) sc d) _ (xs ++ rest) (λ tok h. member_kind limit part fs l sc (g.member part.specifiers.has_type) d tok h e) (opens_first (Declares (g.member part.specifiers.has_type) sc d) xs rest (begins_declarator d (g.member part.specifiers.has_type) sc l xs (not_nameless d (g.member part.specifiers.has_type) sc l xs refl p) p)))

plain_closes : (limit : ℕ) (b : Body) (q : t.SpecifiersTree) (ms : t.MemberList) (l : Pos) (d : t.DeclaratorTree) (fs : List Frame) (last : Bool) (m : Pos)
    → declarator_end limit d (in_member (part_of b q ms) l ∷ fs) m (sign_of_punct (member_mark last)) ≡ goes fs (member_held last (part_of b q (t.and_member ms l (t.a_declarator d) t.no_expr)))
unfolding declarator_end close_declarator close_member_declarator close_member
plain_closes limit b q ms l d fs true m = refl
plain_closes limit b q ms l d fs false m = refl

colon_goes : (limit : ℕ) (part : MembersPart) (l : Pos) (d : t.DeclaratorTree) (fs : List Frame) (m : Pos) → declarator_end limit d (in_member part l ∷ fs) m signs.Colon ≡ goes (in_width part l (t.a_declarator d) ∷ fs) operand
unfolding declarator_end close_declarator close_member_declarator
colon_goes limit part l d fs m = refl

member_suffix : (last : Bool) → NoSuffix (kinds.Punct (member_mark last))
member_suffix true = tt
member_suffix false = tt

-- one member behind others
one_member : (limit : ℕ) (ms : t.MemberList) (l : Pos) (d : t.MaybeDeclarator) (w : t.MaybeExpr) → ReadsMaybeDeclarator limit d → ReadsMaybe limit w → (least : ℕ) (sc : Scope) (outer : Blocks) (b : Body) (q : t.SpecifiersTree) (fs : List Frame) (last : Bool) (m : Pos) (us rest : List Token)
    → (g.member_declarator sc (has_type q) l (g.has_expr w) d ▸ g.optional_constant (after_maybe_declarator sc d) (g.width_mark l d) w) us → member_list_depth (t.and_member ms l d w) + suc (length fs) ≤ limit
    → run limit least (sc ∷ outer) fs (member (part_of b q ms)) (us ++ token (kinds.Punct (member_mark last)) m ∷ rest) ≡ run limit least (after_maybe (after_maybe_declarator sc d) w ∷ outer) fs (member_held last (part_of b q (t.and_member ms l d w))) rest
unfolding member_step
one_member limit ms l t.no_declarator t.no_expr rd rw least sc outer b q fs last m us rest p r = absurd (let e = p.3.0 in cc)
one_member limit ms l t.no_declarator (t.an_expr e) rd rw least sc outer b q fs last m us rest p r =
    let part = part_of b q ms in
    let tail = token (kinds.Punct (member_mark last)) m ∷ rest in
    let d = run limit least (after sc e ∷ outer) fs (member_held last (part_of b q (t.and_member ms l t.no_declarator (t.an_expr e)))) rest in
    split (Leads limit least sc outer fs (member part) d) us tail p (λ ys zs a pz. subst (λ ts. Leads limit least sc outer fs (member part) d (ts ++ (zs ++ tail))) (sym a.1)
    (before (Leads limit least sc outer fs (member part) d) l (kinds.Punct puncts.Colon) zs tail pz (λ vs pe.
    steps limit least sc outer fs (member part) (token (kinds.Punct puncts.Colon) l) (vs ++ tail) (in_width part l t.no_declarator ∷ fs) operand refl
    ∙ reads_width limit e rw least sc outer b q ms l t.no_declarator fs last m vs rest pe.1 pe.0 (omega (arith, r)))))
one_member limit ms l (t.a_declarator d) t.no_expr rd rw least sc outer b q fs last m us rest p r =
    let part = part_of b q ms in
    let tok : Token = token (kinds.Punct (member_mark last)) m in
    let held = member_held last (part_of b q (t.and_member ms l (t.a_declarator d) t.no_expr)) in
    let end = run limit least (after_declarator sc d ∷ outer) fs held rest in
    split (Leads limit least sc outer fs (member part) end) us (tok ∷ rest) p (λ ys zs pd a. subst (λ ts. Leads limit least sc outer fs (member part) end (ys ++ (ts ++ (tok ∷ rest)))) (sym a)
    (member_begins limit least sc outer part fs l d ys (tok ∷ rest) pd.1 pd.0
    ∙ (rd least sc outer (sorts.Member (has_type q)) (in_member part l ∷ fs) l ys (tok ∷ rest) pd.1 (omega (arith, r)) (halts_named d (g.member (has_type q)) sc l ys tok refl pd.1 (member_suffix last))
    ∙ steps limit least (after_declarator sc d) outer (in_member part l ∷ fs) (have_declarator d) tok rest fs held (plain_closes limit b q ms l d fs last m))))
one_member limit ms l (t.a_declarator d) (t.an_expr e) rd rw least sc outer b q fs last m us rest p r =
    let part = part_of b q ms in
    let tail = token (kinds.Punct (member_mark last)) m ∷ rest in
    let sc1 = after_declarator sc d in
    let end = run limit least (after sc1 e ∷ outer) fs (member_held last (part_of b q (t.and_member ms l (t.a_declarator d) (t.an_expr e)))) rest in
    between_some (Leads limit least sc outer fs (member part) end) (kinds.Punct puncts.Colon) us tail p (λ k ys vs pd pe.
    let tok : Token = token (kinds.Punct puncts.Colon) k in
    member_begins limit least sc outer part fs l d ys (tok ∷ (vs ++ tail)) pd.1 pd.0
    ∙ (rd least sc outer (sorts.Member (has_type q)) (in_member part l ∷ fs) l ys (tok ∷ (vs ++ tail)) pd.1 (omega (arith, r)) (halts_named d (g.member (has_type q)) sc l ys tok refl pd.1 tt)
    ∙ (steps limit least sc1 outer (in_member part l ∷ fs) (have_declarator d) tok (vs ++ tail) (in_width part l (t.a_declarator d) ∷ fs) operand (colon_goes limit part l d fs k)
    ∙ reads_width limit e rw least sc1 outer b q ms l (t.a_declarator d) fs last m vs rest pe.1 pe.0 (omega (arith, r)))))

pub reads_members : (limit : ℕ) (ms : t.MemberList) (l : Pos) (d : t.MaybeDeclarator) (w : t.MaybeExpr) → ReadsMembers limit ms → ReadsMaybeDeclarator limit d → ReadsMaybe limit w → ReadsMembers limit (t.and_member ms l d w)
reads_members limit t.no_more_members l d w rms rd rw least sc outer b q fs last m xs rest p r =
    let part = part_of b q t.no_more_members in
    let tail = token (kinds.Punct (member_mark last)) m ∷ rest in
    let end = run limit least (after_member_list sc (t.and_member t.no_more_members l d w) ∷ outer) fs (member_held last (part_of b q (t.and_member t.no_more_members l d w))) rest in
    split (Leads limit least sc outer fs (member part) end) xs tail p (λ ys us a pu. subst (λ ts. Leads limit least sc outer fs (member part) end (ts ++ (us ++ tail))) (sym a)
    (split (Leads limit least sc outer fs (member part) end) us tail pu (λ vs zs c pz. subst (λ ts. Leads limit least sc outer fs (member part) end (ts ++ (zs ++ tail))) (sym c)
    (one_member limit t.no_more_members l d w rd rw least sc outer b q fs last m zs rest pz r))))
reads_members limit (t.and_member ms k e v) l d w rms rd rw least sc outer b q fs last m xs rest p r =
    let all = t.and_member ms k e v in
    let tail = token (kinds.Punct (member_mark last)) m ∷ rest in
    let end = run limit least (after_member_list sc (t.and_member all l d w) ∷ outer) fs (member_held last (part_of b q (t.and_member all l d w))) rest in
    between_some (Leads limit least sc outer fs (member (part_of b q t.no_more_members)) end) (kinds.Punct puncts.Comma) xs tail p (λ j ys zs pms pz.
    rms least sc outer b q fs false j ys (zs ++ tail) pms (omega (arith, r))
    ∙ one_member limit all l d w rd rw least (after_member_list sc all) outer b q fs last m zs rest pz r)

-- with which tokens members begin
declares_parted_by : (typed : Bool) (sc : Scope) (d : t.DeclaratorTree) (k : TokenKind) → DeclaratorKind (g.member typed) sc d k → Parted typed sc k
declares_parted_by typed sc d (kinds.Name n) h = h.0
declares_parted_by typed sc d (kinds.Keyword keywords.FastCall) h = tt
declares_parted_by typed sc d (kinds.Keyword keywords.CDecl) h = tt
declares_parted_by typed sc d (kinds.Keyword _) h = absurd h
declares_parted_by typed sc d (kinds.Punct puncts.Star) h = tt
declares_parted_by typed sc d (kinds.Punct puncts.OpenParen) h = tt
declares_parted_by typed sc d (kinds.Punct puncts.OpenBracket) h = tt
declares_parted_by typed sc d (kinds.Punct _) h = absurd h
declares_parted_by typed sc d (kinds.Number ty n) h = absurd h
declares_parted_by typed sc d (kinds.Text bs) h = absurd h
declares_parted_by typed sc d kinds.End h = absurd h

abbrev PartedToken : Bool → Scope → Token → Type 0
PartedToken typed sc tok = Parted typed sc tok.kind

begins_member : (l : Pos) (d : t.MaybeDeclarator) (w : t.MaybeExpr) (sc : Scope) (typed : Bool) (us : List Token) → (g.member_declarator sc typed l (g.has_expr w) d ▸ g.optional_constant (after_maybe_declarator sc d) (g.width_mark l d) w) us → Opens (PartedToken typed sc) us
begins_member l t.no_declarator t.no_expr sc typed us p = absurd (let e = p.3.0 in cc)
begins_member l t.no_declarator (t.an_expr e) sc typed us p = opens_mark (PartedToken typed sc) l (kinds.Punct puncts.Colon) us p.4.0 p.4.1 (p.2 ∙ (ap (λ ts. ts ++ p.1) p.3.1 ∙ p.4.2)) p.4.3 tt
begins_member l (t.a_declarator d) w sc typed us p = opens_more (PartedToken typed sc) us p.0 p.1 p.2 (opens_map (Declares (g.member typed) sc d) (PartedToken typed sc) p.0 (λ tok h. declares_parted_by typed sc d tok.kind h.0) (begins_declarator d (g.member typed) sc l p.0 (not_nameless d (g.member typed) sc l p.0 refl p.3.1) p.3.1))

pub begins_members : (ms : t.MemberList) (sc : Scope) (typed : Bool) (xs : List Token) → g.is_no_member ms ≡ false → g.members sc typed ms xs → Opens (PartedToken typed sc) xs
begins_members t.no_more_members sc typed xs e p = absurd cc
begins_members (t.and_member t.no_more_members l d w) sc typed xs e p = opens_more (PartedToken typed sc) xs p.4.1 [] (p.2 ∙ (ap (λ ts. ts ++ p.1) p.3 ∙ (p.4.2 ∙ (ap (λ ts. ts ++ p.4.1) p.4.3 ∙ append_nothing p.4.1)))) (begins_member l d w sc typed p.4.1 p.4.4)
begins_members (t.and_member (t.and_member ms k f v) l d w) sc typed xs e p = opens_more (PartedToken typed sc) xs p.0 p.1 p.2 (begins_members (t.and_member ms k f v) sc typed p.0 refl p.3)

-- a declaration of members behind others
more_same : (limit : ℕ) (b : Body) (fs : List Frame) (l : Pos) (s : Sign) → begins_type s ≡ true → more_members_step limit b fs l s ≡ specifiers_step limit (nothing_listed false) (in_members b ∷ fs) l s
unfolding more_members_step
more_same limit b fs l signs.CloseBrace h = absurd cc
more_same limit b fs l _ h = refl

members_end : (limit : ℕ) (p : Pos) (qs : t.SpecifierList) (b : Body) (fs : List Frame) (l : Pos) (sc : Scope) (k : TokenKind) → is_empty_list qs ≡ false → first_place p qs ≡ p → Parted (list_has_type qs) sc k
    → specifiers_step limit (listing_of false qs) (in_members b ∷ fs) l (sign_of_kind sc k) ≡ member_step limit (part_of b (t.specifiers p qs) t.no_more_members) fs l (sign_of_kind sc k)
unfolding end_listed
members_end limit p qs b fs l sc k e place h = ends_specifiers limit p qs false (in_members b) fs l sc k e place h

members_begin : (limit : ℕ) (least : ℕ) (sc : Scope) (outer : Blocks) (p : Pos) (qs : t.SpecifierList) (b : Body) (fs : List Frame) (xs rest : List Token) → is_empty_list qs ≡ false → first_place p qs ≡ p → Opens (PartedToken (list_has_type qs) sc) xs
    → run limit least (sc ∷ outer) (in_members b ∷ fs) (specifiers (listing_of false qs)) (xs ++ rest) ≡ run limit least (sc ∷ outer) fs (member (part_of b (t.specifiers p qs) t.no_more_members)) (xs ++ rest)
members_begin limit least sc outer p qs b fs xs rest e place o = same limit least sc outer (in_members b ∷ fs) fs (specifiers (listing_of false qs)) (member (part_of b (t.specifiers p qs) t.no_more_members)) (xs ++ rest)
    (first_map (PartedToken (list_has_type qs) sc) _ (xs ++ rest) (λ tok h. members_end limit p qs b fs tok.pos sc tok.kind e place h) (opens_first (PartedToken (list_has_type qs) sc) xs rest o))

one_decl : (limit : ℕ) (ds : t.MemberDeclList) (p : Pos) (qs : t.SpecifierList) (ms : t.MemberList) → ReadsList limit qs → ReadsMembers limit ms → (least : ℕ) (sc : Scope) (outer : Blocks) (so_far : Listing) (l : Pos) (union : Bool) (name : Option Name) (fs : List Frame) (us rest : List Token)
    → (g.specifiers sc false (t.specifiers p qs) ▸ given (g.is_no_member ms ≡ false) (g.members (after_list sc qs) (list_has_type qs) ms) ▸ some_mark puncts.Semicolon) us → member_decls_depth (t.and_member_decl ds (t.specifiers p qs) ms) + suc (length fs) ≤ limit
    → run limit least (sc ∷ outer) (in_members (body so_far l union name ds) ∷ fs) (specifiers (nothing_listed false)) (us ++ rest) ≡ run limit least (after_member_list (after_list sc qs) ms ∷ outer) fs (more_members (body so_far l union name (t.and_member_decl ds (t.specifiers p qs) ms))) rest
one_decl limit ds p qs t.no_more_members rqs rms least sc outer so_far l union name fs us rest d r = absurd (let e = d.4.3.0 in cc)
one_decl limit ds p qs (t.and_member ms k e v) rqs rms least sc outer so_far l union name fs us rest d r =
    let b = body so_far l union name ds in
    let q = t.specifiers p qs in
    let all = t.and_member ms k e v in
    let sc1 = after_list sc qs in
    let end = run limit least (after_member_list sc1 all ∷ outer) fs (more_members (body so_far l union name (t.and_member_decl ds q all))) rest in
    split (Leads limit least sc outer (in_members b ∷ fs) (specifiers (nothing_listed false)) end) us rest d (λ ys vs pq pv.
    behind_some (λ ts. run limit least (sc ∷ outer) (in_members b ∷ fs) (specifiers (nothing_listed false)) (ys ++ ts) ≡ end) (kinds.Punct puncts.Semicolon) vs rest pv (λ m zs pms.
    let tail = token (kinds.Punct puncts.Semicolon) m ∷ rest in
    let o : Opens (PartedToken (list_has_type qs) sc1) zs = begins_members all sc1 (list_has_type qs) zs refl pms.1 in
    rqs least sc outer false (in_members b ∷ fs) ys (zs ++ tail) pq.1 (omega (arith, r)) (opens_first NoBrace zs tail (opens_map (PartedToken (list_has_type qs) sc1) NoBrace zs (λ tok h. parted_brace (list_has_type qs) sc1 tok h) o))
    ∙ (members_begin limit least sc1 outer p qs b fs zs tail pq.0.0 pq.0.1 o
    ∙ rms least sc1 outer b q fs true m zs rest pms.1 (omega (arith, r)))))

pub reads_decls : (limit : ℕ) (ds : t.MemberDeclList) (q : t.SpecifiersTree) (ms : t.MemberList) → ReadsDecls limit ds → ReadsSpecifiers limit q → ReadsMembers limit ms → ReadsDecls limit (t.and_member_decl ds q ms)
reads_decls limit t.no_member_decls (t.specifiers p qs) ms rds rq rms least sc outer so_far l union name fs xs rest d r =
    let b = body so_far l union name t.no_member_decls in
    let end = run limit least (after_member_decls sc (t.and_member_decl t.no_member_decls (t.specifiers p qs) ms) ∷ outer) fs (more_members (body so_far l union name (t.and_member_decl t.no_member_decls (t.specifiers p qs) ms))) rest in
    split (Leads limit least sc outer (in_members b ∷ fs) (specifiers (nothing_listed false)) end) xs rest d (λ ys us a pu. subst (λ ts. Leads limit least sc outer (in_members b ∷ fs) (specifiers (nothing_listed false)) end (ts ++ (us ++ rest))) (sym a)
    (one_decl limit t.no_member_decls p qs ms rq rms least sc outer so_far l union name fs us rest pu r))
reads_decls limit (t.and_member_decl ds e es) (t.specifiers p qs) ms rds rq rms least sc outer so_far l union name fs xs rest d r =
    let all = t.and_member_decl ds e es in
    let b = body so_far l union name all in
    let sc1 = after_member_decls sc all in
    let end = run limit least (after_member_decls sc (t.and_member_decl all (t.specifiers p qs) ms) ∷ outer) fs (more_members (body so_far l union name (t.and_member_decl all (t.specifiers p qs) ms))) rest in
    split (Leads limit least sc outer (in_members (body so_far l union name t.no_member_decls) ∷ fs) (specifiers (nothing_listed false)) end) xs rest d (λ ys us pds pu.
    rds least sc outer so_far l union name fs ys (us ++ rest) pds (omega (arith, r))
    ∙ (same limit least sc1 outer fs (in_members b ∷ fs) (more_members b) (specifiers (nothing_listed false)) (us ++ rest) (first_map (Specifies false sc1) _ (us ++ rest) (λ tok h. more_same limit b fs tok.pos (sign_of_kind sc1 tok.kind) h) (opens_first (Specifies false sc1) us rest (opens_more (Specifies false sc1) us pu.0 pu.1 pu.2 (begins_list qs sc1 false pu.0 pu.3.0.0 pu.3.1))))
    ∙ one_decl limit all p qs ms rq rms least sc1 outer so_far l union name fs us rest pu r))

-- an enumerator, and the mark behind it
value_closes : (part : EnumPart) (n : Name) (l : Pos) (e : t.ExprTree) (fs : List Frame) (last : Bool)
    → close e (in_value part n l ∷ fs) (sign_of_punct (enumerator_mark last)) ≡ go fs (enumerator_held last (with_enumerator part n l (t.an_expr e))) (changes.Declare n false)
unfolding close close_enumerator
value_closes part n l e fs true = refl
value_closes part n l e fs false = refl

bare_closes : (limit : ℕ) (part : EnumPart) (n : Name) (l : Pos) (fs : List Frame) (last : Bool)
    → enumerator_name_step limit part n l fs (sign_of_punct (enumerator_mark last)) ≡ go fs (enumerator_held last (with_enumerator part n l t.no_expr)) (changes.Declare n false)
unfolding enumerator_name_step close_enumerator
bare_closes limit part n l fs true = refl
bare_closes limit part n l fs false = refl

value_read : (limit : ℕ) (e : t.ExprTree) → ReadsExpr limit e → (least : ℕ) (sc : Scope) (outer : Blocks) (part : EnumPart) (n : Name) (l : Pos) (fs : List Frame) (last : Bool) (m : Pos) (xs rest : List Token) → g.expr sc e xs → 2 ≤ level e → expr_depth e + suc (length fs) ≤ limit
    → run limit least (sc ∷ outer) (in_value part n l ∷ fs) operand (xs ++ token (kinds.Punct (enumerator_mark last)) m ∷ rest) ≡ run limit least (declare n false (after sc e) ∷ outer) fs (enumerator_held last (with_enumerator part n l (t.an_expr e))) rest
value_read limit e re least sc outer part n l fs true m xs rest p h r = let same_level = level_is e in encloses limit e re least sc outer (in_value part n l) fs xs puncts.CloseBrace m rest fs _ (changes.Declare n false) p (omega (arith, h, same_level)) r refl refl (inl refl) (value_closes part n l e fs true)
value_read limit e re least sc outer part n l fs false m xs rest p h r = let same_level = level_is e in encloses limit e re least sc outer (in_value part n l) fs xs puncts.Comma m rest fs _ (changes.Declare n false) p (omega (arith, h, same_level)) r refl refl (inr (omega arith)) (value_closes part n l e fs false)

one_enumerator : (limit : ℕ) (es : t.EnumeratorList) (l : Pos) (n : Name) (v : t.MaybeExpr) → ReadsMaybe limit v → (least : ℕ) (sc : Scope) (outer : Blocks) (so_far : Listing) (k : Pos) (name : Option Name) (fs : List Frame) (last : Bool) (m : Pos) (us rest : List Token)
    → (one l (kinds.Name n) ▸ g.optional_constant sc (some_mark puncts.Equal) v) us → enumerator_list_depth (t.and_enumerator es l n v) + suc (length fs) ≤ limit
    → run limit least (sc ∷ outer) fs (enumerator (enum_part so_far k name es)) (us ++ token (kinds.Punct (enumerator_mark last)) m ∷ rest) ≡ run limit least (declare n false (after_maybe sc v) ∷ outer) fs (enumerator_held last (enum_part so_far k name (t.and_enumerator es l n v))) rest
unfolding enumerator_step enumerator_name_step
one_enumerator limit es l n t.no_expr rv least sc outer so_far k name fs last m us rest p r =
    let part = enum_part so_far k name es in
    let tok : Token = token (kinds.Punct (enumerator_mark last)) m in
    let held = enumerator_held last (enum_part so_far k name (t.and_enumerator es l n t.no_expr)) in
    let end = run limit least (declare n false sc ∷ outer) fs held rest in
    before (Leads limit least sc outer fs (enumerator part) end) l (kinds.Name n) us (tok ∷ rest) p (λ zs a. subst (λ ts. run limit least (sc ∷ outer) fs (enumerator part) (token (kinds.Name n) l ∷ (ts ++ (tok ∷ rest))) ≡ end) (sym a)
    (steps limit least sc outer fs (enumerator part) (token (kinds.Name n) l) (tok ∷ rest) fs (enumerator_name part n l) refl
    ∙ takes limit least sc outer fs (enumerator_name part n l) tok rest fs held (changes.Declare n false) (bare_closes limit part n l fs last)))
one_enumerator limit es l n (t.an_expr e) rv least sc outer so_far k name fs last m us rest p r =
    let part = enum_part so_far k name es in
    let tail = token (kinds.Punct (enumerator_mark last)) m ∷ rest in
    let end = run limit least (declare n false (after sc e) ∷ outer) fs (enumerator_held last (enum_part so_far k name (t.and_enumerator es l n (t.an_expr e)))) rest in
    let deep = expr_deep e in
    before (Leads limit least sc outer fs (enumerator part) end) l (kinds.Name n) us tail p (λ zs pz.
    steps limit least sc outer fs (enumerator part) (token (kinds.Name n) l) (zs ++ tail) fs (enumerator_name part n l) refl
    ∙ before_some (Leads limit least sc outer fs (enumerator_name part n l) end) (kinds.Punct puncts.Equal) zs tail pz (λ j vs pe.
    steps limit least sc outer fs (enumerator_name part n l) (token (kinds.Punct puncts.Equal) j) (vs ++ tail) (in_value part n l ∷ fs) operand (roomy limit (2 + length fs) (goes (in_value part n l ∷ fs) operand) (omega (arith, deep, r)))
    ∙ value_read limit e rv least sc outer part n l fs last m vs rest pe.1 pe.0 (omega (arith, r))))

pub reads_enumerators : (limit : ℕ) (es : t.EnumeratorList) (l : Pos) (n : Name) (v : t.MaybeExpr) → ReadsEnumerators limit es → ReadsMaybe limit v → ReadsEnumerators limit (t.and_enumerator es l n v)
reads_enumerators limit t.no_more_enumerators l n v res rv least sc outer so_far k name fs last m xs rest p r =
    let part = enum_part so_far k name t.no_more_enumerators in
    let tail = token (kinds.Punct (enumerator_mark last)) m ∷ rest in
    let end = run limit least (after_enumerator_list sc (t.and_enumerator t.no_more_enumerators l n v) ∷ outer) fs (enumerator_held last (enum_part so_far k name (t.and_enumerator t.no_more_enumerators l n v))) rest in
    split (Leads limit least sc outer fs (enumerator part) end) xs tail p (λ ys us a pu. subst (λ ts. Leads limit least sc outer fs (enumerator part) end (ts ++ (us ++ tail))) (sym a)
    (split (Leads limit least sc outer fs (enumerator part) end) us tail pu (λ vs zs c pz. subst (λ ts. Leads limit least sc outer fs (enumerator part) end (ts ++ (zs ++ tail))) (sym c)
    (one_enumerator limit t.no_more_enumerators l n v rv least sc outer so_far k name fs last m zs rest pz r))))
reads_enumerators limit (t.and_enumerator es j i u) l n v res rv least sc outer so_far k name fs last m xs rest p r =
    let all = t.and_enumerator es j i u in
    let tail = token (kinds.Punct (enumerator_mark last)) m ∷ rest in
    let end = run limit least (after_enumerator_list sc (t.and_enumerator all l n v) ∷ outer) fs (enumerator_held last (enum_part so_far k name (t.and_enumerator all l n v))) rest in
    between_some (Leads limit least sc outer fs (enumerator (enum_part so_far k name t.no_more_enumerators)) end) (kinds.Punct puncts.Comma) xs tail p (λ c ys zs pes pz.
    res least sc outer so_far k name fs false c ys (zs ++ tail) pes (omega (arith, r))
    ∙ one_enumerator limit all l n v rv least (after_enumerator_list sc all) outer so_far k name fs last m zs rest pz r)
