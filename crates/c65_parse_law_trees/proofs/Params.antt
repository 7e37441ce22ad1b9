-- Parameters (C90 6.5.4.3), function declarators, and type names.
use Rattle.std.proofs.Common.{◌≡◌, ℕ, suc, ◌+◌, ◌≤◌, List, [], ◌∷◌, ◌++◌, length, Bool, true, false, refl, sym, ap, ◌∙◌, subst, append_assoc, arith}
use Rattle.std.specs.Prelude.{if◌then◌else◌, Option, None, Some, is_some}
use Rattle.c65_base.specs.declared.names.Name.{Name}
use Rattle.c65_base.specs.declared.refusal.Pos.{Pos}
use Rattle.c65_scan.specs.declared.token.Keyword.TheVariants as keywords
use Rattle.c65_scan.specs.declared.token.Punct.TheVariants as puncts
use Rattle.c65_scan.specs.declared.token.Token.{Token}
use Rattle.c65_scan.specs.declared.token.TokenKind.{TokenKind}
use Rattle.c65_scan.specs.declared.token.TokenKind.TheVariants as kinds
use Rattle.c65_tree.specs.Trees as t
use Rattle.c65_tree.specs.Depth.{params_depth, param_list_depth}
use Rattle.c65_parse_trees.specs.Names
use Rattle.c65_parse_trees.specs.declared.sign.Sign.{Sign}
use Rattle.c65_parse_trees.specs.declared.sign.Sign.TheVariants as signs
use Rattle.c65_parse_trees.specs.Listings.{Listed, ParamsPart, nothing_listed, with_word, with_storage, with_typedef_name}
use Rattle.c65_parse_trees.specs.Signs.{sign_of_kind, begins_specifiers}
use Rattle.c65_parse_names.specs.Scopes.{Blocks}
use Rattle.c65_parse.specs.declared.frame.Change.TheVariants as changes
use Rattle.c65_parse.specs.declared.frame.Sort.{Sort}
use Rattle.c65_parse.specs.declared.frame.Sort.TheVariants as sorts
use Rattle.c65_parse.specs.declared.frame.TypeUse.{TypeUse}
use Rattle.c65_parse.specs.Frames.{Frame, in_type, in_type_declarator, in_params, in_param, in_group, Held, go, fail, specifiers, tag, declarator, opened_declarator, have_declarator, opened_params, more_params, ellipsis, names, names_end}
use Rattle.c65_parse.specs.Expressions.{goes}
use Rattle.c65_parse.specs.Declarators.{is_optional, with_param, with_params, declares, declarator_step, declarator_end, close_declarator, close_param, open_group}
use Rattle.c65_parse.specs.Specifiers.{specifiers_step, end_listed}
use Rattle.c65_parse.specs.Machine.{run, changed, in_block, params_step, opened_declarator_step, opened_params_step, more_params_step, ellipsis_step, names_step, names_end_step}
use Rattle.c65_parse_grammar.specs.Phrases.{◌▸◌, token, some}
use Rattle.c65_parse_grammar.specs.Parts.{has_type, is_typedef, list_has_type, is_empty_list, first_place, is_nameless, declared_name}
use Rattle.c65_parse_grammar.specs.Scopes.{Scope, declare_maybe, after_list, after_specifiers, after_declarator, after_params}
use Rattle.c65_parse_grammar.specs.Expressions as g
use Rattle.c65_parse_law_trees.specs.Tokens.{NoSuffix, Bare}
use Rattle.c65_parse_law_alike.proofs.Alike.{name_is}
use Rattle.c65_parse_law_trees.proofs.Runs.{takes, steps, same, First, first_map, split, single, Leads, before_some, behind, behind_some, between}
use Rattle.c65_parse_law_trees.proofs.Steps.{roomy}
use Rattle.c65_parse_law_trees.proofs.Readings.{ReadsSpecifiers, ReadsDeclarator, ReadsParams, ReadsParamsTree, ReadsType, params_part, param_mark, listing_of, listed_of, NoBrace}
use Rattle.c65_parse_law_trees.proofs.Firsts.{Opens, opens_first, opens_map, opens_more, append_nothing, Specifies, begins_list, DeclaratorKind}
use Rattle.c65_parse_law_trees.proofs.Specifiers.{Parted, parted_brace, ends_specifiers}
use Rattle.c65_parse_law_trees.proofs.Ends.{halts_bare, halts_paren, declarator_first}
use Rattle.c65_parse_law_trees.proofs.Declarators.{optional_is, paren_goes}

-- a declarator of such a sort stands behind specifiers
abbrev Suits : g.Sort → Bool → Type 0
Suits (g.named b) typed = b ≡ typed
Suits (g.param b) typed = b ≡ typed
Suits (g.member b) typed = b ≡ typed
Suits g.abstract typed = Unit {0}

taken : (s : g.Sort) (typed b : Bool) → Suits s typed → g.takes_name s b ≡ true → g.takes_name (g.named typed) b ≡ true
taken (g.named x) typed b e h = subst (λ y. g.takes_name (g.named y) b ≡ true) e h
taken (g.param x) typed b e h = subst (λ y. g.takes_name (g.param y) b ≡ true) e h
taken (g.member x) typed b e h = subst (λ y. g.takes_name (g.member y) b ≡ true) e h
taken g.abstract typed b e h = absurd cc

pub declares_parted : (s : g.Sort) (typed : Bool) (sc : Scope) (d : t.DeclaratorTree) (k : TokenKind) → Suits s typed → DeclaratorKind s sc d k → Parted typed sc k
declares_parted s typed sc d (kinds.Name n) e h = taken s typed (sc n) e h.0
declares_parted s typed sc d (kinds.Keyword keywords.FastCall) e h = tt
declares_parted s typed sc d (kinds.Keyword keywords.CDecl) e h = tt
declares_parted s typed sc d (kinds.Keyword _) e h = absurd h
declares_parted s typed sc d (kinds.Punct puncts.Star) e h = tt
declares_parted s typed sc d (kinds.Punct puncts.OpenParen) e h = tt
declares_parted s typed sc d (kinds.Punct puncts.OpenBracket) e h = tt
declares_parted s typed sc d (kinds.Punct _) e h = absurd h
declares_parted s typed sc d (kinds.Number ty n) e h = absurd h
declares_parted s typed sc d (kinds.Text bs) e h = absurd h
declares_parted s typed sc d kinds.End e h = absurd h

abbrev PartedToken : Bool → Scope → Token → Type 0
PartedToken typed sc tok = Parted typed sc tok.kind

first_parted : (s : g.Sort) (typed : Bool) (sc : Scope) (d : t.DeclaratorTree) (m : Pos) (xs rest : List Token) → Suits s typed → g.declarator s sc m d xs → First (PartedToken typed sc) rest → First (PartedToken typed sc) (xs ++ rest)
first_parted s typed sc d m xs rest e p h = declarator_first (PartedToken typed sc) d s sc m xs rest p (λ tok k. declares_parted s typed sc d tok.kind e k.0) (λ n. h)

type_end : (limit : ℕ) (p : Pos) (qs : t.SpecifierList) (l : Pos) (purpose : TypeUse) (fs : List Frame) (k : Pos) (sc : Scope) (kind : TokenKind) → is_empty_list qs ≡ false → first_place p qs ≡ p → Parted (list_has_type qs) sc kind
    → specifiers_step limit (listing_of false qs) (in_type l purpose ∷ fs) k (sign_of_kind sc kind) ≡ declarator_step limit sorts.Abstract (in_type_declarator l purpose (t.specifiers p qs) ∷ fs) k (sign_of_kind sc kind)
unfolding end_listed
type_end limit p qs l purpose fs k sc kind e place h = ends_specifiers limit p qs false (in_type l purpose) fs k sc kind e place h

pub reads_type : (limit : ℕ) (q : t.SpecifiersTree) (d : t.DeclaratorTree) → ReadsSpecifiers limit q → ReadsDeclarator limit d → ReadsType limit (t.type_name q d)
reads_type limit (t.specifiers p qs) d rqs rd least sc outer l purpose fs m xs rest h r =
    let tok : Token = token (kinds.Punct puncts.CloseParen) m in
    let sc1 = after_list sc qs in
    let q = t.specifiers p qs in
    let end = run limit least (after_declarator sc1 d ∷ outer) (in_type_declarator l purpose q ∷ fs) (have_declarator d) (tok ∷ rest) in
    split (Leads limit least sc outer (in_type l purpose ∷ fs) (specifiers (nothing_listed false)) end) xs (tok ∷ rest) h (λ ys zs pq pd.
    let f : First (PartedToken (list_has_type qs) sc1) (zs ++ tok ∷ rest) = first_parted g.abstract (list_has_type qs) sc1 d m zs (tok ∷ rest) tt pd tt in
    rqs least sc outer false (in_type l purpose ∷ fs) ys (zs ++ tok ∷ rest) pq.1 (omega (arith, r)) (first_map (PartedToken (list_has_type qs) sc1) NoBrace (zs ++ tok ∷ rest) (λ x k. parted_brace (list_has_type qs) sc1 x k) f)
    ∙ (same limit least sc1 outer (in_type l purpose ∷ fs) (in_type_declarator l purpose q ∷ fs) (specifiers (listing_of false qs)) (declarator sorts.Abstract) (zs ++ tok ∷ rest) (first_map (PartedToken (list_has_type qs) sc1) _ (zs ++ tok ∷ rest) (λ x k. type_end limit p qs l purpose fs x.pos sc1 x.kind pq.0.0 pq.0.1 k) f)
    ∙ rd least sc1 outer sorts.Abstract (in_type_declarator l purpose q ∷ fs) m zs (tok ∷ rest) pd (omega (arith, r)) (halts_bare d g.abstract sc1 m zs tok pd refl tt tt)))

-- a parameter
param_end : (limit : ℕ) (p : Pos) (qs : t.SpecifierList) (part : ParamsPart) (fs : List Frame) (k : Pos) (sc : Scope) (kind : TokenKind) → is_empty_list qs ≡ false → first_place p qs ≡ p → Parted (list_has_type qs) sc kind
    → specifiers_step limit (listing_of true qs) (in_params part ∷ fs) k (sign_of_kind sc kind) ≡ declarator_step limit (sorts.Param (list_has_type qs)) (in_param part (listed_of (t.specifiers p qs)) ∷ fs) k (sign_of_kind sc kind)
unfolding end_listed
param_end limit p qs part fs k sc kind e place h = ends_specifiers limit p qs true (in_params part) fs k sc kind e place h

mark_parted : (typed : Bool) (sc : Scope) (last : Bool) → Parted typed sc (kinds.Punct (param_mark last))
mark_parted typed sc true = tt
mark_parted typed sc false = tt

mark_bare : (last : Bool) → Bare (kinds.Punct (param_mark last)) × NoSuffix (kinds.Punct (param_mark last))
mark_bare true = (tt, tt)
mark_bare false = (tt, tt)

one_param : (limit : ℕ) (q : t.SpecifiersTree) (d : t.DeclaratorTree) → ReadsSpecifiers limit q → ReadsDeclarator limit d → (least : ℕ) (sc : Scope) (outer : Blocks) (part : ParamsPart) (fs : List Frame) (last : Bool) (m : Pos) (xs rest : List Token) → (g.specifiers sc true q ▸ g.declarator (g.param (has_type q)) (after_specifiers sc q) m d) xs
    → param_list_depth (t.and_param t.no_more_params q d) + suc (length fs) ≤ limit
    → run limit least (sc ∷ outer) (in_params part ∷ fs) (specifiers (nothing_listed true)) (xs ++ token (kinds.Punct (param_mark last)) m ∷ rest) ≡ run limit least (after_declarator (after_specifiers sc q) d ∷ outer) (in_param part (listed_of q) ∷ fs) (have_declarator d) (token (kinds.Punct (param_mark last)) m ∷ rest)
one_param limit (t.specifiers p qs) d rqs rd least sc outer part fs last m xs rest h r =
    let tok : Token = token (kinds.Punct (param_mark last)) m in
    let sc1 = after_list sc qs in
    let q = t.specifiers p qs in
    let end = run limit least (after_declarator sc1 d ∷ outer) (in_param part (listed_of q) ∷ fs) (have_declarator d) (tok ∷ rest) in
    split (Leads limit least sc outer (in_params part ∷ fs) (specifiers (nothing_listed true)) end) xs (tok ∷ rest) h (λ ys zs pq pd.
    let f : First (PartedToken (list_has_type qs) sc1) (zs ++ tok ∷ rest) = first_parted (g.param (list_has_type qs)) (list_has_type qs) sc1 d m zs (tok ∷ rest) refl pd (mark_parted (list_has_type qs) sc1 last) in
    rqs least sc outer true (in_params part ∷ fs) ys (zs ++ tok ∷ rest) pq.1 (omega (arith, r)) (first_map (PartedToken (list_has_type qs) sc1) NoBrace (zs ++ tok ∷ rest) (λ x k. parted_brace (list_has_type qs) sc1 x k) f)
    ∙ (same limit least sc1 outer (in_params part ∷ fs) (in_param part (listed_of q) ∷ fs) (specifiers (listing_of true qs)) (declarator (sorts.Param (list_has_type qs))) (zs ++ tok ∷ rest) (first_map (PartedToken (list_has_type qs) sc1) _ (zs ++ tok ∷ rest) (λ x k. param_end limit p qs part fs x.pos sc1 x.kind pq.0.0 pq.0.1 k) f)
    ∙ rd least sc1 outer (sorts.Param (list_has_type qs)) (in_param part (listed_of q) ∷ fs) m zs (tok ∷ rest) pd (omega (arith, r)) (halts_bare d (g.param (list_has_type qs)) sc1 m zs tok pd refl (mark_bare last).0 (mark_bare last).1)))

declared_by : (o : Option Name) (b : Bool) (sc : Scope) (outer : Blocks) → changed (declares o b) (sc ∷ outer) ≡ declare_maybe o b sc ∷ outer
declared_by None b sc outer = refl
declared_by (Some n) b sc outer = refl

declared_is : (d : t.DeclaratorTree) (b : Bool) (sc : Scope) (outer : Blocks) → changed (declares (Names.declared_name d) b) (sc ∷ outer) ≡ declare_maybe (declared_name d) b sc ∷ outer
declared_is d b sc outer = ap (λ o. changed (declares o b) (sc ∷ outer)) (name_is d) ∙ declared_by (declared_name d) b sc outer

comma_goes : (limit : ℕ) (part : ParamsPart) (q : Listed) (d : t.DeclaratorTree) (fs : List Frame) (k : Pos) → declarator_end limit d (in_param part q ∷ fs) k signs.Comma ≡ go fs (more_params (with_param part q.tree d)) (declares (Names.declared_name d) q.is_typedef)
unfolding declarator_end close_declarator close_param
comma_goes limit part q d fs k = refl

-- a comma between parameters
pub after_param : (limit : ℕ) (least : ℕ) (sc : Scope) (outer : Blocks) (l : Pos) (of : t.DeclaratorTree) (ps : t.ParamList) (q : t.SpecifiersTree) (d : t.DeclaratorTree) (fs : List Frame) (k : Pos) (rest : List Token)
    → run limit least (after_declarator (after_specifiers (after_params sc ps) q) d ∷ outer) (in_param (params_part l of ps) (listed_of q) ∷ fs) (have_declarator d) (token (kinds.Punct puncts.Comma) k ∷ rest) ≡ run limit least (after_params sc (t.and_param ps q d) ∷ outer) fs (more_params (params_part l of (t.and_param ps q d))) rest
after_param limit least sc outer l of ps q d fs k rest =
    takes limit least (after_declarator (after_specifiers (after_params sc ps) q) d) outer (in_param (params_part l of ps) (listed_of q) ∷ fs) (have_declarator d) (token (kinds.Punct puncts.Comma) k) rest fs (more_params (params_part l of (t.and_param ps q d))) (declares (Names.declared_name d) (is_typedef q)) (comma_goes limit (params_part l of ps) (listed_of q) d fs k)
    ∙ ap (λ b. run limit least b fs (more_params (params_part l of (t.and_param ps q d))) rest) (declared_is d (is_typedef q) (after_declarator (after_specifiers (after_params sc ps) q) d) outer)

more_same : (limit : ℕ) (part : ParamsPart) (fs : List Frame) (l : Pos) (s : Sign) → begins_specifiers s ≡ true → more_params_step limit part fs l s ≡ specifiers_step limit (nothing_listed true) (in_params part ∷ fs) l s
unfolding more_params_step
more_same limit part fs l signs.Ellipsis h = absurd cc
more_same limit part fs l _ h = refl

params_opens : (q : t.SpecifiersTree) (sc : Scope) (xs ys zs : List Token) → xs ≡ ys ++ zs → g.specifiers sc true q ys → Opens (Specifies true sc) xs
params_opens (t.specifiers p qs) sc xs ys zs e h = opens_more (Specifies true sc) xs ys zs e (begins_list qs sc true ys h.0.0 h.1)

pub reads_params : (limit : ℕ) (ps : t.ParamList) (q : t.SpecifiersTree) (d : t.DeclaratorTree) → ReadsParams limit ps → ReadsSpecifiers limit q → ReadsDeclarator limit d → ReadsParams limit (t.and_param ps q d)
reads_params limit t.no_more_params q d rps rq rd least sc outer l of fs last m xs rest h r =
    let part = params_part l of t.no_more_params in
    let tail = token (kinds.Punct (param_mark last)) m ∷ rest in
    let end = run limit least (after_declarator (after_specifiers sc q) d ∷ outer) (in_param part (listed_of q) ∷ fs) (have_declarator d) tail in
    split (Leads limit least sc outer (in_params part ∷ fs) (specifiers (nothing_listed true)) end) xs tail h (λ ys us a pu. subst (λ ts. Leads limit least sc outer (in_params part ∷ fs) (specifiers (nothing_listed true)) end (ts ++ (us ++ tail))) (sym (a.1.2 ∙ (ap (λ ts. ts ++ a.1.1) a.1.3 ∙ a.1.4)))
    (one_param limit q d rq rd least sc outer part fs last m us rest pu (omega (arith, r))))
reads_params limit (t.and_param ps e c) q d rps rq rd least sc outer l of fs last m xs rest h r =
    let all = t.and_param ps e c in
    let part = params_part l of all in
    let scp = after_params sc all in
    let tail = token (kinds.Punct (param_mark last)) m ∷ rest in
    let end = run limit least (after_declarator (after_specifiers scp q) d ∷ outer) (in_param part (listed_of q) ∷ fs) (have_declarator d) tail in
    split (Leads limit least sc outer (in_params (params_part l of t.no_more_params) ∷ fs) (specifiers (nothing_listed true)) end) xs tail h (λ ys us a pu.
    behind (λ ts. Leads limit least sc outer (in_params (params_part l of t.no_more_params) ∷ fs) (specifiers (nothing_listed true)) end ts) a.0 (kinds.Punct puncts.Comma) ys (us ++ tail) a.1 (λ vs pv.
    rps least sc outer l of fs false a.0 vs (us ++ tail) pv (omega (arith, r))
    ∙ (after_param limit least sc outer l of ps e c fs a.0 (us ++ tail)
    ∙ (same limit least scp outer fs (in_params part ∷ fs) (more_params part) (specifiers (nothing_listed true)) (us ++ tail) (first_map (Specifies true scp) _ (us ++ tail) (λ x k. more_same limit part fs x.pos (sign_of_kind scp x.kind) k) (opens_first (Specifies true scp) us tail (params_opens q scp us pu.0 pu.1 pu.2 pu.3)))
    ∙ one_param limit q d rq rd least scp outer part fs last m us rest pu (omega (arith, r))))))

-- the first specifier
record Begun (limit : ℕ) (fs : List Frame) (l : Pos) (s : Sign) : Type 0 where
  pub held : Held
  pub are : specifiers_step limit (nothing_listed true) fs l s ≡ goes fs held

begun : (limit : ℕ) (fs : List Frame) (l : Pos) (s : Sign) → begins_specifiers s ≡ true → Begun limit fs l s
unfolding specifiers_step
begun limit fs l (signs.Word w) h = record { held = specifiers (with_word (nothing_listed true) l w); are = refl }
begun limit fs l (signs.Storage c) h = record { held = specifiers (with_storage (nothing_listed true) l c); are = refl }
begun limit fs l (signs.Tag w) h = record { held = tag (record { outer = nothing_listed true; pos = l; word = w }); are = refl }
begun limit fs l (signs.Name n true) h = record { held = specifiers (with_typedef_name (nothing_listed true) l n); are = refl }
begun limit fs l (signs.Name n false) h = absurd cc
begun limit fs l _ h = absurd cc

params_open : (limit : ℕ) (l : Pos) (d : t.DeclaratorTree) (fs : List Frame) (k : Pos) (s : Sign) → begins_specifiers s ≡ true → opened_params_step limit l d fs k s ≡ params_step limit l d fs k s
unfolding opened_params_step
params_open limit l d fs k (signs.Word w) h = refl
params_open limit l d fs k (signs.Storage c) h = refl
params_open limit l d fs k (signs.Tag w) h = refl
params_open limit l d fs k (signs.Name n true) h = refl
params_open limit l d fs k (signs.Name n false) h = absurd cc
params_open limit l d fs k _ h = absurd cc

params_goes : (limit : ℕ) (l : Pos) (d : t.DeclaratorTree) (fs : List Frame) (k : Pos) (s : Sign) (b : Begun limit (in_params (params_part l d t.no_more_params) ∷ fs) k s) → params_step limit l d fs k s ≡ go (in_params (params_part l d t.no_more_params) ∷ fs) b.held changes.Open
unfolding params_step
params_goes limit l d fs k s b = ap in_block b.are

-- a block of parameters
params_begin : (limit : ℕ) (least : ℕ) (sc : Scope) (outer : Blocks) (l : Pos) (d : t.DeclaratorTree) (fs : List Frame) (xs rest : List Token) → Opens (Specifies true sc) xs
    → run limit least (sc ∷ outer) fs (opened_params l d) (xs ++ rest) ≡ run limit least (sc ∷ sc ∷ outer) (in_params (params_part l d t.no_more_params) ∷ fs) (specifiers (nothing_listed true)) (xs ++ rest)
params_begin limit least sc outer l d fs xs rest o =
    let gs : List Frame = in_params (params_part l d t.no_more_params) ∷ fs in
    let s = sign_of_kind sc o.first.kind in
    let b : Begun limit gs o.first.pos s = begun limit gs o.first.pos s o.it in
    subst (λ ts. run limit least (sc ∷ outer) fs (opened_params l d) (ts ++ rest) ≡ run limit least (sc ∷ sc ∷ outer) gs (specifiers (nothing_listed true)) (ts ++ rest)) (sym o.are)
    (takes limit least sc outer fs (opened_params l d) o.first (o.others ++ rest) gs b.held changes.Open (params_open limit l d fs o.first.pos s o.it ∙ params_goes limit l d fs o.first.pos s b)
    ∙ sym (steps limit least sc (sc ∷ outer) gs (specifiers (nothing_listed true)) o.first (o.others ++ rest) gs b.held b.are))

close_goes : (limit : ℕ) (part : ParamsPart) (q : Listed) (d : t.DeclaratorTree) (fs : List Frame) (k : Pos) → declarator_end limit d (in_param part q ∷ fs) k signs.Close ≡ go fs (have_declarator (with_params (with_param part q.tree d) false)) changes.Close
unfolding declarator_end close_declarator close_param
close_goes limit part q d fs k = refl

list_opens : (ps : t.ParamList) (q : t.SpecifiersTree) (d : t.DeclaratorTree) (sc : Scope) (m : Pos) (xs : List Token) → g.param_list sc m (t.and_param ps q d) xs → Opens (Specifies true sc) xs
list_opens t.no_more_params q d sc m xs h = opens_more (Specifies true sc) xs h.1 [] (h.2 ∙ (ap (λ ts. ts ++ h.1) (h.3.1.2 ∙ (ap (λ ts. ts ++ h.3.1.1) h.3.1.3 ∙ h.3.1.4)) ∙ append_nothing h.1)) (params_opens q sc h.1 h.4.0 h.4.1 h.4.2 h.4.3)
list_opens (t.and_param ps e c) q d sc m xs h = opens_more (Specifies true sc) xs h.0 h.1 h.2 (opens_more (Specifies true sc) h.0 h.3.1.0 h.3.1.1 h.3.1.2 (list_opens ps e c sc h.3.0 h.3.1.0 h.3.1.3))

-- identifier lists
no_more : (ns : List (Name × Pos)) → ns ≡ ns ++ []
no_more [] = refl
no_more (n ∷ ns) = ap (λ xs. n ∷ xs) (no_more ns)

name_goes : (l : Pos) (d : t.DeclaratorTree) (ns : List (Name × Pos)) (fs : List Frame) (k : Pos) (n : Name) (b : Bool) → b ≡ false → names_step (record { pos = l; declarator = d; names = ns }) fs k (signs.Name n b) ≡ goes fs (names_end (record { pos = l; declarator = d; names = ns ++ (n, k) ∷ [] }))
unfolding names_step
name_goes l d ns fs k n false h = refl
name_goes l d ns fs k n true h = absurd cc

names_read : (limit : ℕ) (least : ℕ) (sc : Scope) (outer : Blocks) (l : Pos) (d : t.DeclaratorTree) (fs : List Frame) (had ns : List (Name × Pos)) (xs rest : List Token) → g.identifiers false sc ns xs
    → run limit least (sc ∷ outer) fs (names_end (record { pos = l; declarator = d; names = had })) (xs ++ rest) ≡ run limit least (sc ∷ outer) fs (names_end (record { pos = l; declarator = d; names = had ++ ns })) rest
unfolding names_end_step
names_read limit least sc outer l d fs had [] xs rest p = subst (λ ts. run limit least (sc ∷ outer) fs (names_end (record { pos = l; declarator = d; names = had })) (ts ++ rest) ≡ run limit least (sc ∷ outer) fs (names_end (record { pos = l; declarator = d; names = had ++ [] })) rest) (sym p)
    (ap (λ ns. run limit least (sc ∷ outer) fs (names_end (record { pos = l; declarator = d; names = ns })) rest) (no_more had))
names_read limit least sc outer l d fs had (n ∷ ns) xs rest p =
    let end = run limit least (sc ∷ outer) fs (names_end (record { pos = l; declarator = d; names = had ++ n ∷ ns })) rest in
    before_some (Leads limit least sc outer fs (names_end (record { pos = l; declarator = d; names = had })) end) (kinds.Punct puncts.Comma) xs rest p (λ k us pu.
    steps limit least sc outer fs (names_end (record { pos = l; declarator = d; names = had })) (token (kinds.Punct puncts.Comma) k) (us ++ rest) fs (names (record { pos = l; declarator = d; names = had })) refl
    ∙ split (Leads limit least sc outer fs (names (record { pos = l; declarator = d; names = had })) end) us rest pu (λ vs zs pn pz.
    single (λ ts. Leads limit least sc outer fs (names (record { pos = l; declarator = d; names = had })) end ts) n.1 (kinds.Name n.0) vs (zs ++ rest) pn.1
    (steps limit least sc outer fs (names (record { pos = l; declarator = d; names = had })) (token (kinds.Name n.0) n.1) (zs ++ rest) fs (names_end (record { pos = l; declarator = d; names = had ++ (n.0, n.1) ∷ [] })) (name_goes l d had fs n.1 n.0 (sc n.0) pn.0)
    ∙ (names_read limit least sc outer l d fs (had ++ n ∷ []) ns zs rest pz
    ∙ ap (λ x. run limit least (sc ∷ outer) fs (names_end (record { pos = l; declarator = d; names = x })) rest) (append_assoc had (n ∷ []) ns)))))

first_name_goes : (limit : ℕ) (l : Pos) (d : t.DeclaratorTree) (fs : List Frame) (k : Pos) (n : Name) (b : Bool) → b ≡ false → is_some (declared_name d) ≡ true → opened_params_step limit l d fs k (signs.Name n b) ≡ goes fs (names_end (record { pos = l; declarator = d; names = (n, k) ∷ [] }))
unfolding opened_params_step
first_name_goes limit l d fs k n true h e = absurd cc
first_name_goes limit l d fs k n false h e = ap (λ x. if x then goes fs (names_end (record { pos = l; declarator = d; names = (n, k) ∷ [] })) else fail) (ap is_some (name_is d) ∙ e)

ellipsis_read : (limit : ℕ) (least : ℕ) (sc : Scope) (outer : Blocks) (l : Pos) (d : t.DeclaratorTree) (ps : t.ParamList) (fs : List Frame) (us rest : List Token) → (some (kinds.Punct puncts.Ellipsis) ▸ some (kinds.Punct puncts.CloseParen)) us
    → run limit least (after_params sc ps ∷ sc ∷ outer) fs (more_params (params_part l d ps)) (us ++ rest) ≡ run limit least (sc ∷ outer) fs (have_declarator (t.function l d (t.param_types ps true))) rest
unfolding ellipsis_step more_params_step
ellipsis_read limit least sc outer l d ps fs us rest p =
    let part = params_part l d ps in
    let end = run limit least (sc ∷ outer) fs (have_declarator (t.function l d (t.param_types ps true))) rest in
    before_some (Leads limit least (after_params sc ps) (sc ∷ outer) fs (more_params part) end) (kinds.Punct puncts.Ellipsis) us rest p (λ k vs pv.
    steps limit least (after_params sc ps) (sc ∷ outer) fs (more_params part) (token (kinds.Punct puncts.Ellipsis) k) (vs ++ rest) fs (ellipsis part) refl
    ∙ single (Leads limit least (after_params sc ps) (sc ∷ outer) fs (ellipsis part) end) pv.0 (kinds.Punct puncts.CloseParen) vs rest pv.1
    (takes limit least (after_params sc ps) (sc ∷ outer) fs (ellipsis part) (token (kinds.Punct puncts.CloseParen) pv.0) rest fs (have_declarator (t.function l d (t.param_types ps true))) changes.Close refl))

-- what stands in the parentheses, and their end
params_read : (limit : ℕ) (ps : t.ParamsTree) → ReadsParamsTree limit ps → (least : ℕ) (sc : Scope) (outer : Blocks) (l : Pos) (d : t.DeclaratorTree) (fs : List Frame) (xs rest : List Token) → g.params sc (is_some (declared_name d)) ps xs → params_depth ps + suc (length fs) ≤ limit
    → run limit least (sc ∷ outer) fs (opened_params l d) (xs ++ rest) ≡ run limit least (sc ∷ outer) fs (have_declarator (t.function l d ps)) rest
unfolding opened_params_step names_end_step ellipsis_step more_params_step
params_read limit t.no_params rps least sc outer l d fs xs rest p r = single (Leads limit least sc outer fs (opened_params l d) (run limit least (sc ∷ outer) fs (have_declarator (t.function l d t.no_params)) rest)) p.0 (kinds.Punct puncts.CloseParen) xs rest p.1
    (steps limit least sc outer fs (opened_params l d) (token (kinds.Punct puncts.CloseParen) p.0) rest fs (have_declarator (t.function l d t.no_params)) refl)
params_read limit (t.param_names []) rps least sc outer l d fs xs rest p r = absurd (p.3.1)
params_read limit (t.param_names (n ∷ ns)) rps least sc outer l d fs xs rest p r =
    let end = run limit least (sc ∷ outer) fs (have_declarator (t.function l d (t.param_names (n ∷ ns)))) rest in
    behind_some (Leads limit least sc outer fs (opened_params l d) end) (kinds.Punct puncts.CloseParen) xs rest p (λ m us pu.
    let tail = token (kinds.Punct puncts.CloseParen) m ∷ rest in
    split (Leads limit least sc outer fs (opened_params l d) end) us tail pu.1 (λ ts vs a pv. subst (λ x. Leads limit least sc outer fs (opened_params l d) end (x ++ (vs ++ tail))) (sym a)
    (split (Leads limit least sc outer fs (opened_params l d) end) vs tail pv (λ ws zs pn pz.
    single (λ x. Leads limit least sc outer fs (opened_params l d) end x) n.1 (kinds.Name n.0) ws (zs ++ tail) pn.1
    (steps limit least sc outer fs (opened_params l d) (token (kinds.Name n.0) n.1) (zs ++ tail) fs (names_end (record { pos = l; declarator = d; names = (n.0, n.1) ∷ [] })) (first_name_goes limit l d fs n.1 n.0 (sc n.0) pn.0 pu.0)
    ∙ (names_read limit least sc outer l d fs (n ∷ []) ns zs tail pz
    ∙ steps limit least sc outer fs (names_end (record { pos = l; declarator = d; names = n ∷ ns })) (token (kinds.Punct puncts.CloseParen) m) rest fs (have_declarator (t.function l d (t.param_names (n ∷ ns)))) refl))))))
params_read limit (t.param_types t.no_more_params true) rps least sc outer l d fs xs rest p r = absurd (let e = p.3.0 in cc)
params_read limit (t.param_types t.no_more_params false) rps least sc outer l d fs xs rest p r = absurd (let e = p.0 in cc)
params_read limit (t.param_types (t.and_param ps q c) false) rps least sc outer l d fs xs rest p r =
    let all = t.and_param ps q c in
    let end = run limit least (sc ∷ outer) fs (have_declarator (t.function l d (t.param_types all false))) rest in
    behind (Leads limit least sc outer fs (opened_params l d) end) p.1.0 (kinds.Punct puncts.CloseParen) xs rest p.1.1 (λ ys py.
    let tok : Token = token (kinds.Punct puncts.CloseParen) p.1.0 in
    params_begin limit least sc outer l d fs ys (tok ∷ rest) (list_opens ps q c sc p.1.0 ys py)
    ∙ (rps least sc (sc ∷ outer) l d fs true p.1.0 ys rest py r
    ∙ takes limit least (after_declarator (after_specifiers (after_params sc ps) q) c) (sc ∷ outer) (in_param (params_part l d ps) (listed_of q) ∷ fs) (have_declarator c) tok rest fs (have_declarator (t.function l d (t.param_types all false))) changes.Close (close_goes limit (params_part l d ps) (listed_of q) c fs p.1.0)))
params_read limit (t.param_types (t.and_param ps q c) true) rps least sc outer l d fs xs rest p r =
    let all = t.and_param ps q c in
    let end = run limit least (sc ∷ outer) fs (have_declarator (t.function l d (t.param_types all true))) rest in
    split (Leads limit least sc outer fs (opened_params l d) end) xs rest p (λ ys us py pu.
    let j = py.1.0 in
    behind (λ ts. Leads limit least sc outer fs (opened_params l d) end ts) j (kinds.Punct puncts.Comma) ys (us ++ rest) py.1.1 (λ vs pv.
    let comma : Token = token (kinds.Punct puncts.Comma) j in
    params_begin limit least sc outer l d fs vs (comma ∷ (us ++ rest)) (list_opens ps q c sc j vs pv)
    ∙ (rps least sc (sc ∷ outer) l d fs false j vs (us ++ rest) pv r
    ∙ (after_param limit least sc (sc ∷ outer) l d ps q c fs j (us ++ rest)
    ∙ ellipsis_read limit least sc outer l d all fs us rest pu))))

-- a function declarator whose declarator is empty begins as a group would
abbrev ParamsSign : Sign → Type 0
ParamsSign signs.Close = Unit {0}
ParamsSign (signs.Word w) = Unit {0}
ParamsSign (signs.Storage c) = Unit {0}
ParamsSign (signs.Tag w) = Unit {0}
ParamsSign (signs.Name n is_type) = is_type ≡ true
ParamsSign _ = ⊥

bare_params : (limit : ℕ) (l : Pos) (sort : Sort) (fs : List Frame) (k : Pos) (s : Sign) → ParamsSign s → opened_declarator_step limit l sort fs k s ≡ opened_params_step limit l (t.nameless l) fs k s
unfolding opened_declarator_step opened_params_step
bare_params limit l sort fs k signs.Close h = refl
bare_params limit l sort fs k (signs.Word w) h = refl
bare_params limit l sort fs k (signs.Storage c) h = refl
bare_params limit l sort fs k (signs.Tag w) h = refl
bare_params limit l sort fs k (signs.Name n true) h = refl
bare_params limit l sort fs k (signs.Name n false) h = absurd cc
bare_params limit l sort fs k _ h = absurd h

params_sign : (s : Sign) → begins_specifiers s ≡ true → ParamsSign s
params_sign (signs.Word w) h = tt
params_sign (signs.Storage c) h = tt
params_sign (signs.Tag w) h = tt
params_sign (signs.Name n b) h = h
params_sign _ h = absurd cc

params_first : (ps : t.ParamsTree) (sc : Scope) (xs rest : List Token) → g.params sc false ps xs → First (λ tok. ParamsSign (sign_of_kind sc tok.kind)) (xs ++ rest)
params_first t.no_params sc xs rest p = single (λ ts. First (λ tok. ParamsSign (sign_of_kind sc tok.kind)) ts) p.0 (kinds.Punct puncts.CloseParen) xs rest p.1 tt
params_first (t.param_names ns) sc xs rest p = absurd (let e = p.3.0 in cc)
params_first (t.param_types t.no_more_params true) sc xs rest p = absurd (let e = p.3.0 in cc)
params_first (t.param_types t.no_more_params false) sc xs rest p = absurd (let e = p.0 in cc)
params_first (t.param_types (t.and_param ps q c) true) sc xs rest p = opens_first (λ tok. ParamsSign (sign_of_kind sc tok.kind)) xs rest (opens_more (λ tok. ParamsSign (sign_of_kind sc tok.kind)) xs p.0 p.1 p.2 (opens_more (λ tok. ParamsSign (sign_of_kind sc tok.kind)) p.0 p.3.1.1.0 p.3.1.1.1 p.3.1.1.2 (opens_map (Specifies true sc) (λ tok. ParamsSign (sign_of_kind sc tok.kind)) p.3.1.1.0 (λ tok h. params_sign (sign_of_kind sc tok.kind) h) (list_opens ps q c sc p.3.1.0 p.3.1.1.0 p.3.1.1.3))))
params_first (t.param_types (t.and_param ps q c) false) sc xs rest p = opens_first (λ tok. ParamsSign (sign_of_kind sc tok.kind)) xs rest (opens_more (λ tok. ParamsSign (sign_of_kind sc tok.kind)) xs p.1.1.0 p.1.1.1 p.1.1.2 (opens_map (Specifies true sc) (λ tok. ParamsSign (sign_of_kind sc tok.kind)) p.1.1.0 (λ tok h. params_sign (sign_of_kind sc tok.kind) h) (list_opens ps q c sc p.1.0 p.1.1.0 p.1.1.3)))

bare_opens : (limit : ℕ) (sort : Sort) (fs : List Frame) (l : Pos) → is_optional sort ≡ true → 2 + length fs ≤ limit → declarator_step limit sort fs l signs.Open ≡ goes fs (opened_declarator l sort)
unfolding declarator_step
bare_opens limit sort fs l e r = roomy limit (2 + length fs) (open_group sort fs l) r ∙ ap (λ x. if x then goes fs (opened_declarator l sort) else goes (in_group l ∷ fs) (declarator sort)) e

bare_function : (limit : ℕ) (l : Pos) (ps : t.ParamsTree) → ReadsParamsTree limit ps → (least : ℕ) (sc : Scope) (outer : Blocks) (sort : Sort) (fs : List Frame) (us rest : List Token) → is_optional sort ≡ true → g.params sc false ps us → params_depth ps + suc (length fs) ≤ limit → 2 + length fs ≤ limit
    → run limit least (sc ∷ outer) fs (declarator sort) (token (kinds.Punct puncts.OpenParen) l ∷ (us ++ rest)) ≡ run limit least (sc ∷ outer) fs (have_declarator (t.function l (t.nameless l) ps)) rest
bare_function limit l ps rps least sc outer sort fs us rest e p r room =
    steps limit least sc outer fs (declarator sort) (token (kinds.Punct puncts.OpenParen) l) (us ++ rest) fs (opened_declarator l sort) (bare_opens limit sort fs l e room)
    ∙ (same limit least sc outer fs fs (opened_declarator l sort) (opened_params l (t.nameless l)) (us ++ rest) (first_map (λ tok. ParamsSign (sign_of_kind sc tok.kind)) _ (us ++ rest) (λ tok h. bare_params limit l sort fs tok.pos (sign_of_kind sc tok.kind) h) (params_first ps sc us rest p))
    ∙ params_read limit ps rps least sc outer l (t.nameless l) fs us rest p r)

full_function : (limit : ℕ) (l : Pos) (d : t.DeclaratorTree) (ps : t.ParamsTree) → is_nameless d ≡ false → ReadsDeclarator limit d → ReadsParamsTree limit ps → ReadsDeclarator limit (t.function l d ps)
full_function limit l d ps e rd rps least sc outer sort fs m xs rest p r f =
    let sc1 = after_declarator sc d in
    let tok : Token = token (kinds.Punct puncts.OpenParen) l in
    between (Leads limit least sc outer fs (declarator sort) (run limit least (sc1 ∷ outer) fs (have_declarator (t.function l d ps)) rest)) l (kinds.Punct puncts.OpenParen) xs rest p (λ ys us pd pu.
    rd least sc outer sort fs l ys (tok ∷ (us ++ rest)) pd.1 (omega (arith, r)) (halts_paren d tok pd.0 e)
    ∙ (steps limit least sc1 outer fs (have_declarator d) tok (us ++ rest) fs (opened_params l d) (paren_goes limit d fs l (omega (arith, r)))
    ∙ params_read limit ps rps least sc1 outer l d fs us rest pu (omega (arith, r))))

bare_reads : (limit : ℕ) (l k : Pos) (ps : t.ParamsTree) → ReadsParamsTree limit ps → ReadsDeclarator limit (t.function l (t.nameless k) ps)
bare_reads limit l k ps rps least sc outer sort fs m xs rest p r f =
    between (Leads limit least sc outer fs (declarator sort) (run limit least (sc ∷ outer) fs (have_declarator (t.function l (t.nameless k) ps)) rest)) l (kinds.Punct puncts.OpenParen) xs rest p (λ ys us pd pu.
    subst (λ x. Leads limit least sc outer fs (declarator sort) (run limit least (sc ∷ outer) fs (have_declarator (t.function l (t.nameless x) ps)) rest) (ys ++ (token (kinds.Punct puncts.OpenParen) l ∷ (us ++ rest)))) (sym pd.1.0.1)
    (subst (λ ts. Leads limit least sc outer fs (declarator sort) (run limit least (sc ∷ outer) fs (have_declarator (t.function l (t.nameless l) ps)) rest) (ts ++ (token (kinds.Punct puncts.OpenParen) l ∷ (us ++ rest)))) (sym pd.1.1)
    (bare_function limit l ps rps least sc outer sort fs us rest (sym (optional_is sort) ∙ pd.1.0.0) pu (omega (arith, r)) (omega (arith, r)))))

pub reads_function : (limit : ℕ) (l : Pos) (d : t.DeclaratorTree) (ps : t.ParamsTree) → ReadsDeclarator limit d → ReadsParamsTree limit ps → ReadsDeclarator limit (t.function l d ps)
reads_function limit l (t.nameless k) ps rd rps = bare_reads limit l k ps rps
reads_function limit l (t.named k n) ps rd rps = full_function limit l (t.named k n) ps refl rd rps
reads_function limit l (t.grouped k d) ps rd rps = full_function limit l (t.grouped k d) ps refl rd rps
reads_function limit l (t.calling k cdecl d) ps rd rps = full_function limit l (t.calling k cdecl d) ps refl rd rps
reads_function limit l (t.pointer k c v d) ps rd rps = full_function limit l (t.pointer k c v d) ps refl rd rps
reads_function limit l (t.array k d n) ps rd rps = full_function limit l (t.array k d n) ps refl rd rps
reads_function limit l (t.function k d qs) ps rd rps = full_function limit l (t.function k d qs) ps refl rd rps
