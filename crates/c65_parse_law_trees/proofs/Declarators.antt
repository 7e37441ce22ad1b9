-- Declarators (C90 6.5.4, 6.5.5).
use Rattle.std.proofs.Common.{◌≡◌, ℕ, ◌+◌, ◌≤◌, List, [], ◌∷◌, ◌++◌, length, Bool, true, false, refl, sym, ap, ◌∙◌, subst, inl, arith}
use Rattle.std.specs.Prelude.{if◌then◌else◌, Some}
use Rattle.c65_base.specs.declared.names.Name.{Name}
use Rattle.c65_base.specs.declared.refusal.Pos.{Pos}
use Rattle.c65_scan.specs.declared.token.Keyword.TheVariants as keywords
use Rattle.c65_scan.specs.declared.token.Punct.TheVariants as puncts
use Rattle.c65_scan.specs.declared.token.Token.{Token}
use Rattle.c65_scan.specs.declared.token.TokenKind.{TokenKind}
use Rattle.c65_scan.specs.declared.token.TokenKind.TheVariants as kinds
use Rattle.c65_tree.specs.Trees as t
use Rattle.c65_tree.specs.Depth.{declarator_depth}
use Rattle.c65_parse_trees.specs.declared.sign.Sign.{Sign}
use Rattle.c65_parse_trees.specs.declared.sign.Sign.TheVariants as signs
use Rattle.c65_parse_trees.specs.declared.sign.Word.TheVariants as words
use Rattle.c65_parse_trees.specs.Signs.{sign_of_kind, sign_of_keyword}
use Rattle.c65_parse_names.specs.Scopes.{Blocks}
use Rattle.c65_parse.specs.declared.frame.Derivation.{Derivation}
use Rattle.c65_parse.specs.declared.frame.Derivation.TheVariants as derivations
use Rattle.c65_parse.specs.declared.frame.Sort.{Sort}
use Rattle.c65_parse.specs.declared.frame.Sort.TheVariants as sorts
use Rattle.c65_parse.specs.Frames.{Frame, in_bound, in_group, in_derived, declarator, qualifiers, opened_declarator, have_declarator, opened_bound, opened_params}
use Rattle.c65_parse.specs.Expressions.{goes, close}
use Rattle.c65_parse.specs.Declarators.{takes_name, is_optional, derived, declarator_step, declarator_end, without_name, open_group, close_declarator}
use Rattle.c65_parse.specs.Machine.{run, opened_declarator_step, opened_bound_step, qualifiers_step, params_step}
use Rattle.c65_parse_grammar.specs.Phrases.{token}
use Rattle.c65_parse_grammar.specs.Spellings.{calling_keyword}
use Rattle.c65_parse_grammar.specs.Spellings as spell
use Rattle.c65_parse_grammar.specs.Parts.{first_name, is_nameless}
use Rattle.c65_parse_grammar.specs.Scopes.{Scope, after, after_declarator, after_maybe}
use Rattle.c65_parse_grammar.specs.Expressions as g
use Rattle.c65_parse_law_trees.specs.Tokens.{sort_of, NoSuffix, Bare}
use Rattle.c65_parse_law_alike.proofs.Alike.{level_is}
use Rattle.c65_parse_law_trees.proofs.Runs.{steps, same, First, first_map, split, single, Leads, before, behind, behind_some, between}
use Rattle.c65_parse_law_trees.proofs.Steps.{roomy}
use Rattle.c65_parse_law_trees.proofs.Readings.{ReadsMaybe, ReadsDeclarator, Halts}
use Rattle.c65_parse_law_trees.proofs.Firsts.{opens_first, DeclaratorKind, Declares, begins_expr, begins_declarator}
use Rattle.c65_parse_law_trees.proofs.Ends.{declarator_deep, halts_bare, halts_direct, declarator_first, BareSign, bare_sign, NoSuffixSign, suffix_sign, NoQualifier, bare_unqualified, declares_unqualified}
use Rattle.c65_parse_law_trees.proofs.Exprs.{encloses}
use Rattle.c65_parse_law_trees.proofs.Operands.{behind_bound}

pub optional_is : (sort : Sort) → g.may_lack (sort_of sort) ≡ is_optional sort
optional_is (sorts.Named typed) = refl
optional_is (sorts.Param typed) = refl
optional_is (sorts.Member typed) = refl
optional_is sorts.Abstract = refl

takes_is : (sort : Sort) (b : Bool) → takes_name sort b ≡ g.takes_name (sort_of sort) b
takes_is (sorts.Named true) true = refl
takes_is (sorts.Named true) false = refl
takes_is (sorts.Named false) true = refl
takes_is (sorts.Named false) false = refl
takes_is (sorts.Param true) true = refl
takes_is (sorts.Param true) false = refl
takes_is (sorts.Param false) true = refl
takes_is (sorts.Param false) false = refl
takes_is (sorts.Member true) true = refl
takes_is (sorts.Member true) false = refl
takes_is (sorts.Member false) true = refl
takes_is (sorts.Member false) false = refl
takes_is sorts.Abstract b = refl

-- where the name lacks
lacking : (limit : ℕ) (b : Bool) (fs : List Frame) (l : Pos) (s : Sign) → b ≡ true → without_name limit b fs l s ≡ declarator_end limit (t.nameless l) fs l s
unfolding without_name
lacking limit true fs l s h = refl
lacking limit false fs l s h = absurd cc

bare_step : (limit : ℕ) (sort : Sort) (fs : List Frame) (l : Pos) (s : Sign) → is_optional sort ≡ true → BareSign s → declarator_step limit sort fs l s ≡ declarator_end limit (t.nameless l) fs l s
unfolding declarator_step
bare_step limit sort fs l (signs.Name n is_type) e h = absurd h
bare_step limit sort fs l (signs.Calling cdecl) e h = absurd h
bare_step limit sort fs l signs.Star e h = absurd h
bare_step limit sort fs l signs.Open e h = absurd h
bare_step limit sort fs l s e h = lacking limit (is_optional sort) fs l s e

bare_token : (limit : ℕ) (sort : Sort) (fs : List Frame) (l : Pos) (sc : Scope) (tok : Token) → is_optional sort ≡ true → (tok.pos ≡ l) × Bare tok.kind → declarator_step limit sort fs tok.pos (sign_of_kind sc tok.kind) ≡ declarator_end limit (t.nameless l) fs tok.pos (sign_of_kind sc tok.kind)
bare_token limit sort fs l sc tok e h = bare_step limit sort fs tok.pos (sign_of_kind sc tok.kind) e (bare_sign sc tok.kind h.1) ∙ ap (λ k. declarator_end limit (t.nameless k) fs tok.pos (sign_of_kind sc tok.kind)) h.0

pub reads_nameless : (limit : ℕ) (l : Pos) → ReadsDeclarator limit (t.nameless l)
reads_nameless limit l least sc outer sort fs m xs rest p r f = subst (λ ts. run limit least (sc ∷ outer) fs (declarator sort) (ts ++ rest) ≡ run limit least (sc ∷ outer) fs (have_declarator (t.nameless l)) rest) (sym p.1)
    (same limit least sc outer fs fs (declarator sort) (have_declarator (t.nameless l)) rest (first_map (Halts (t.nameless l)) _ rest (λ tok h. bare_token limit sort fs l sc tok (sym (optional_is sort) ∙ p.0.0) h) f))

named_goes : (limit : ℕ) (sort : Sort) (fs : List Frame) (l : Pos) (n : Name) (b : Bool) → g.takes_name (sort_of sort) b ≡ true → declarator_step limit sort fs l (signs.Name n b) ≡ goes fs (have_declarator (t.named l n))
unfolding declarator_step
named_goes limit sort fs l n b h = ap (λ x. if x then goes fs (have_declarator (t.named l n)) else without_name limit (is_optional sort) fs l (signs.Name n b)) (takes_is sort b ∙ h)

pub reads_named : (limit : ℕ) (l : Pos) (n : Name) → ReadsDeclarator limit (t.named l n)
reads_named limit l n least sc outer sort fs m xs rest p r f = single (Leads limit least sc outer fs (declarator sort) (run limit least (sc ∷ outer) fs (have_declarator (t.named l n)) rest)) l (kinds.Name n) xs rest p.1
    (steps limit least sc outer fs (declarator sort) (token (kinds.Name n) l) rest fs (have_declarator (t.named l n)) (named_goes limit sort fs l n (sc n) p.0))

-- what stands before a declarator, behind it
absorbed : (limit : ℕ) (l : Pos) (how : Derivation) (d : t.DeclaratorTree) (fs : List Frame) (k : Pos) (s : Sign) → NoSuffixSign s → declarator_end limit d (in_derived l how ∷ fs) k s ≡ declarator_end limit (derived l how d) fs k s
unfolding declarator_end
absorbed limit l how d fs k signs.OpenBracket h = absurd h
absorbed limit l how d fs k signs.Open h = absurd h
absorbed limit l how d fs k _ h = refl

absorbs : (limit : ℕ) (least : ℕ) (sc : Scope) (outer : Blocks) (l : Pos) (how : Derivation) (d : t.DeclaratorTree) (fs : List Frame) (ts : List Token) → First (λ tok. NoSuffix tok.kind) ts
    → run limit least (sc ∷ outer) (in_derived l how ∷ fs) (have_declarator d) ts ≡ run limit least (sc ∷ outer) fs (have_declarator (derived l how d)) ts
absorbs limit least sc outer l how d fs ts f = same limit least sc outer (in_derived l how ∷ fs) fs (have_declarator d) (have_declarator (derived l how d)) ts (first_map (λ tok. NoSuffix tok.kind) _ ts (λ tok h. absorbed limit l how d fs tok.pos (sign_of_kind sc tok.kind) (suffix_sign sc tok.kind h)) f)

calling_goes : (limit : ℕ) (sort : Sort) (fs : List Frame) (l : Pos) (cdecl : Bool) → 2 + length fs ≤ limit → declarator_step limit sort fs l (sign_of_keyword (calling_keyword cdecl)) ≡ goes (in_derived l (derivations.Calling cdecl) ∷ fs) (declarator sort)
unfolding declarator_step
calling_goes limit sort fs l true r = roomy limit (2 + length fs) (goes (in_derived l (derivations.Calling true) ∷ fs) (declarator sort)) r
calling_goes limit sort fs l false r = roomy limit (2 + length fs) (goes (in_derived l (derivations.Calling false) ∷ fs) (declarator sort)) r

pub reads_calling : (limit : ℕ) (l : Pos) (cdecl : Bool) (d : t.DeclaratorTree) → ReadsDeclarator limit d → ReadsDeclarator limit (t.calling l cdecl d)
reads_calling limit l cdecl d rd least sc outer sort fs m xs rest p r f =
    let deep = declarator_deep d in
    let how = derivations.Calling cdecl in
    before (Leads limit least sc outer fs (declarator sort) (run limit least (after_declarator sc d ∷ outer) fs (have_declarator (t.calling l cdecl d)) rest)) l (kinds.Keyword (calling_keyword cdecl)) xs rest p (λ ys pd.
    steps limit least sc outer fs (declarator sort) (token (kinds.Keyword (calling_keyword cdecl)) l) (ys ++ rest) (in_derived l how ∷ fs) (declarator sort) (calling_goes limit sort fs l cdecl (omega (arith, deep, r)))
    ∙ (rd least sc outer sort (in_derived l how ∷ fs) m ys rest pd (omega (arith, r)) (first_map (Halts (t.calling l cdecl d)) (Halts d) rest (λ tok h. h.1) f)
    ∙ absorbs limit least (after_declarator sc d) outer l how d fs rest (first_map (Halts (t.calling l cdecl d)) (λ tok. NoSuffix tok.kind) rest (λ tok h. h.0) f)))

-- the qualifiers behind a star
abbrev Qualified : TokenKind → Bool → Bool → Bool → Bool → List Token → Type 0
Qualified k a b c v qs = elim k as (λ _. Type 0) [
  | kinds.Keyword keywords.Const ↦ spell.qualifiers_from true b c v qs
  | kinds.Keyword keywords.Volatile ↦ spell.qualifiers_from a true c v qs
  | _ ↦ ⊥
]

qualifier_read : (limit : ℕ) (least : ℕ) (sc : Scope) (outer : Blocks) (l : Pos) (sort : Sort) (fs : List Frame) (a b c v : Bool) (k : TokenKind) (m : Pos) (qs rest : List Token) → Qualified k a b c v qs
    → ((x y : Bool) → spell.qualifiers_from x y c v qs → run limit least (sc ∷ outer) fs (qualifiers l x y sort) (qs ++ rest) ≡ run limit least (sc ∷ outer) fs (qualifiers l c v sort) rest)
    → run limit least (sc ∷ outer) fs (qualifiers l a b sort) (token k m ∷ (qs ++ rest)) ≡ run limit least (sc ∷ outer) fs (qualifiers l c v sort) rest
unfolding qualifiers_step
qualifier_read limit least sc outer l sort fs a b c v (kinds.Keyword keywords.Const) m qs rest p more = steps limit least sc outer fs (qualifiers l a b sort) (token (kinds.Keyword keywords.Const) m) (qs ++ rest) fs (qualifiers l true b sort) refl ∙ more true b p
qualifier_read limit least sc outer l sort fs a b c v (kinds.Keyword keywords.Volatile) m qs rest p more = steps limit least sc outer fs (qualifiers l a b sort) (token (kinds.Keyword keywords.Volatile) m) (qs ++ rest) fs (qualifiers l a true sort) refl ∙ more a true p
qualifier_read limit least sc outer l sort fs a b c v (kinds.Keyword _) m qs rest p more = absurd p
qualifier_read limit least sc outer l sort fs a b c v (kinds.Name n) m qs rest p more = absurd p
qualifier_read limit least sc outer l sort fs a b c v (kinds.Number ty n) m qs rest p more = absurd p
qualifier_read limit least sc outer l sort fs a b c v (kinds.Text bs) m qs rest p more = absurd p
qualifier_read limit least sc outer l sort fs a b c v (kinds.Punct k) m qs rest p more = absurd p
qualifier_read limit least sc outer l sort fs a b c v kinds.End m qs rest p more = absurd p

qualifiers_read : (limit : ℕ) (least : ℕ) (sc : Scope) (outer : Blocks) (l : Pos) (sort : Sort) (fs : List Frame) (c v : Bool) (qs rest : List Token) (a b : Bool) → spell.qualifiers_from a b c v qs
    → run limit least (sc ∷ outer) fs (qualifiers l a b sort) (qs ++ rest) ≡ run limit least (sc ∷ outer) fs (qualifiers l c v sort) rest
qualifiers_read limit least sc outer l sort fs c v [] rest a b p = ap (λ x. run limit least (sc ∷ outer) fs (qualifiers l x b sort) rest) p.0 ∙ ap (λ x. run limit least (sc ∷ outer) fs (qualifiers l c x sort) rest) p.1
qualifiers_read limit least sc outer l sort fs c v (q ∷ qs) rest a b p = qualifier_read limit least sc outer l sort fs a b c v q.kind q.pos qs rest p (qualifiers_read limit least sc outer l sort fs c v qs rest)

qualified : (limit : ℕ) (l : Pos) (c v : Bool) (sort : Sort) (fs : List Frame) (k : Pos) (s : Sign) → NoQualifier s → qualifiers_step limit l c v sort fs k s ≡ declarator_step limit sort (in_derived l (derivations.Pointer c v) ∷ fs) k s
unfolding qualifiers_step
qualified limit l c v sort fs k (signs.Word words.Const) h = absurd h
qualified limit l c v sort fs k (signs.Word words.Volatile) h = absurd h
qualified limit l c v sort fs k _ h = refl

bare_first : (sc : Scope) (d : t.DeclaratorTree) (ts : List Token) → is_nameless d ≡ true → First (Halts d) ts → First (λ tok. NoQualifier (sign_of_kind sc tok.kind)) ts
bare_first sc (t.nameless l) ts e f = first_map (Halts (t.nameless l)) _ ts (λ tok h. bare_unqualified (sign_of_kind sc tok.kind) (bare_sign sc tok.kind h.1)) f
bare_first sc (t.named l n) ts e f = absurd cc
bare_first sc (t.grouped l d) ts e f = absurd cc
bare_first sc (t.calling l cdecl d) ts e f = absurd cc
bare_first sc (t.pointer l c v d) ts e f = absurd cc
bare_first sc (t.array l d n) ts e f = absurd cc
bare_first sc (t.function l d ps) ts e f = absurd cc

behind_qualifiers : (limit : ℕ) (least : ℕ) (sc : Scope) (outer : Blocks) (l : Pos) (c v : Bool) (sort : Sort) (fs : List Frame) (d : t.DeclaratorTree) (m : Pos) (xs rest : List Token) → g.declarator (sort_of sort) sc m d xs → First (Halts d) rest
    → run limit least (sc ∷ outer) fs (qualifiers l c v sort) (xs ++ rest) ≡ run limit least (sc ∷ outer) (in_derived l (derivations.Pointer c v) ∷ fs) (declarator sort) (xs ++ rest)
behind_qualifiers limit least sc outer l c v sort fs d m xs rest p f = same limit least sc outer fs (in_derived l (derivations.Pointer c v) ∷ fs) (qualifiers l c v sort) (declarator sort) (xs ++ rest)
    (first_map (λ tok. NoQualifier (sign_of_kind sc tok.kind)) _ (xs ++ rest) (λ tok h. qualified limit l c v sort fs tok.pos (sign_of_kind sc tok.kind) h)
    (declarator_first (λ tok. NoQualifier (sign_of_kind sc tok.kind)) d (sort_of sort) sc m xs rest p (λ tok h. declares_unqualified (sort_of sort) sc d tok.kind h.0) (λ e. bare_first sc d rest e f)))

pub reads_pointer : (limit : ℕ) (l : Pos) (c v : Bool) (d : t.DeclaratorTree) → ReadsDeclarator limit d → ReadsDeclarator limit (t.pointer l c v d)
unfolding declarator_step
reads_pointer limit l c v d rd least sc outer sort fs m xs rest p r f =
    let deep = declarator_deep d in
    let how = derivations.Pointer c v in
    let end = run limit least (after_declarator sc d ∷ outer) fs (have_declarator (t.pointer l c v d)) rest in
    let inner = first_map (Halts (t.pointer l c v d)) (Halts d) rest (λ tok h. h.1) f in
    before (Leads limit least sc outer fs (declarator sort) end) l (kinds.Punct puncts.Star) xs rest p (λ us pu.
    steps limit least sc outer fs (declarator sort) (token (kinds.Punct puncts.Star) l) (us ++ rest) fs (qualifiers l false false sort) (roomy limit (2 + length fs) (goes fs (qualifiers l false false sort)) (omega (arith, deep, r)))
    ∙ split (Leads limit least sc outer fs (qualifiers l false false sort) end) us rest pu (λ qs ys pq pd.
    qualifiers_read limit least sc outer l sort fs c v qs (ys ++ rest) false false pq
    ∙ (behind_qualifiers limit least sc outer l c v sort fs d m ys rest pd inner
    ∙ (rd least sc outer sort (in_derived l how ∷ fs) m ys rest pd (omega (arith, r)) inner
    ∙ absorbs limit least (after_declarator sc d) outer l how d fs rest (first_map (Halts (t.pointer l c v d)) (λ tok. NoSuffix tok.kind) rest (λ tok h. h.0) f)))))

-- a group where the name may lack
plain : (b : Bool) → (if b then false else true) ≡ true → b ≡ false
plain true h = absurd cc
plain false h = refl

name_plain : (s : g.Sort) (sc : Scope) (d : t.DeclaratorTree) (n : Name) → g.may_lack s ≡ true → g.groups s sc d ≡ true → is_nameless d ≡ false → first_name d ≡ Some n → (if sc n then false else true) ≡ true
name_plain s sc d n lack h bare first =
    sym (ap (λ b. if b then false else (if g.may_lack s then (if g.begins_with_type sc (first_name d) then false else true) else true)) bare
    ∙ (ap (λ b. if b then (if g.begins_with_type sc (first_name d) then false else true) else true) lack
    ∙ ap (λ o. if g.begins_with_type sc o then false else true) first))
    ∙ h

name_groups : (s : g.Sort) (sc : Scope) (d : t.DeclaratorTree) (n : Name) → g.may_lack s ≡ true → g.groups s sc d ≡ true → is_nameless d ≡ false → first_name d ≡ Some n → sc n ≡ false
name_groups s sc d n lack h bare first = plain (sc n) (name_plain s sc d n lack h bare first)

group_kind : (limit : ℕ) (l : Pos) (sort : Sort) (fs : List Frame) (m : Pos) (sc : Scope) (d : t.DeclaratorTree) (k : TokenKind) → g.may_lack (sort_of sort) ≡ true → g.groups (sort_of sort) sc d ≡ true → is_nameless d ≡ false → DeclaratorKind (sort_of sort) sc d k
    → opened_declarator_step limit l sort fs m (sign_of_kind sc k) ≡ declarator_step limit sort (in_group l ∷ fs) m (sign_of_kind sc k)
unfolding opened_declarator_step
group_kind limit l sort fs m sc d (kinds.Name n) lack h bare p = ap (λ b. if b then params_step limit l (t.nameless l) fs m (signs.Name n (sc n)) else declarator_step limit sort (in_group l ∷ fs) m (signs.Name n (sc n))) (name_groups (sort_of sort) sc d n lack h bare p.1)
group_kind limit l sort fs m sc d (kinds.Keyword keywords.FastCall) lack h bare p = refl
group_kind limit l sort fs m sc d (kinds.Keyword keywords.CDecl) lack h bare p = refl
group_kind limit l sort fs m sc d (kinds.Keyword _) lack h bare p = absurd p
group_kind limit l sort fs m sc d (kinds.Punct puncts.Star) lack h bare p = refl
group_kind limit l sort fs m sc d (kinds.Punct puncts.OpenParen) lack h bare p = refl
group_kind limit l sort fs m sc d (kinds.Punct puncts.OpenBracket) lack h bare p = refl
group_kind limit l sort fs m sc d (kinds.Punct _) lack h bare p = absurd p
group_kind limit l sort fs m sc d (kinds.Number ty n) lack h bare p = absurd p
group_kind limit l sort fs m sc d (kinds.Text bs) lack h bare p = absurd p
group_kind limit l sort fs m sc d kinds.End lack h bare p = absurd p

group_open : (limit : ℕ) (sort : Sort) (fs : List Frame) (l : Pos) (b : Bool) → is_optional sort ≡ b → 2 + length fs ≤ limit → declarator_step limit sort fs l signs.Open ≡ (if b then goes fs (opened_declarator l sort) else goes (in_group l ∷ fs) (declarator sort))
unfolding declarator_step
group_open limit sort fs l b e r = roomy limit (2 + length fs) (open_group sort fs l) r ∙ ap (λ x. if x then goes fs (opened_declarator l sort) else goes (in_group l ∷ fs) (declarator sort)) e

group_begins : (limit : ℕ) (least : ℕ) (sc : Scope) (outer : Blocks) (l : Pos) (sort : Sort) (fs : List Frame) (d : t.DeclaratorTree) (m : Pos) (xs rest : List Token) (b : Bool) → is_optional sort ≡ b → g.groups (sort_of sort) sc d ≡ true → is_nameless d ≡ false → g.declarator (sort_of sort) sc m d xs → 2 + length fs ≤ limit
    → run limit least (sc ∷ outer) fs (declarator sort) (token (kinds.Punct puncts.OpenParen) l ∷ (xs ++ rest)) ≡ run limit least (sc ∷ outer) (in_group l ∷ fs) (declarator sort) (xs ++ rest)
group_begins limit least sc outer l sort fs d m xs rest false e h bare p r = steps limit least sc outer fs (declarator sort) (token (kinds.Punct puncts.OpenParen) l) (xs ++ rest) (in_group l ∷ fs) (declarator sort) (group_open limit sort fs l false e r)
group_begins limit least sc outer l sort fs d m xs rest true e h bare p r =
    steps limit least sc outer fs (declarator sort) (token (kinds.Punct puncts.OpenParen) l) (xs ++ rest) fs (opened_declarator l sort) (group_open limit sort fs l true e r)
    ∙ same limit least sc outer fs (in_group l ∷ fs) (opened_declarator l sort) (declarator sort) (xs ++ rest)
    (first_map (Declares (sort_of sort) sc d) _ (xs ++ rest) (λ tok k. group_kind limit l sort fs tok.pos sc d tok.kind (optional_is sort ∙ e) h bare k.0) (opens_first (Declares (sort_of sort) sc d) xs rest (begins_declarator d (sort_of sort) sc m xs bare p)))

group_closes : (limit : ℕ) (l : Pos) (d : t.DeclaratorTree) (fs : List Frame) (k : Pos) → declarator_end limit d (in_group l ∷ fs) k signs.Close ≡ goes fs (have_declarator (t.grouped l d))
unfolding declarator_end close_declarator
group_closes limit l d fs k = refl

groups_named : (s : g.Sort) (sc : Scope) (d : t.DeclaratorTree) → g.groups s sc d ≡ true → is_nameless d ≡ false
groups_named s sc (t.nameless l) h = absurd cc
groups_named s sc (t.named l n) h = refl
groups_named s sc (t.grouped l d) h = refl
groups_named s sc (t.calling l cdecl d) h = refl
groups_named s sc (t.pointer l c v d) h = refl
groups_named s sc (t.array l d n) h = refl
groups_named s sc (t.function l d ps) h = refl

pub reads_grouped : (limit : ℕ) (l : Pos) (d : t.DeclaratorTree) → ReadsDeclarator limit d → ReadsDeclarator limit (t.grouped l d)
reads_grouped limit l d rd least sc outer sort fs m xs rest p r f =
    let deep = declarator_deep d in
    let end = run limit least (after_declarator sc d ∷ outer) fs (have_declarator (t.grouped l d)) rest in
    before (Leads limit least sc outer fs (declarator sort) end) l (kinds.Punct puncts.OpenParen) xs rest p.1 (λ us pu.
    behind (λ ts. run limit least (sc ∷ outer) fs (declarator sort) (token (kinds.Punct puncts.OpenParen) l ∷ ts) ≡ end) pu.0 (kinds.Punct puncts.CloseParen) us rest pu.1 (λ ys pd.
    let tok : Token = token (kinds.Punct puncts.CloseParen) pu.0 in
    group_begins limit least sc outer l sort fs d pu.0 ys (tok ∷ rest) (is_optional sort) refl p.0 (groups_named (sort_of sort) sc d p.0) pd (omega (arith, deep, r))
    ∙ (rd least sc outer sort (in_group l ∷ fs) pu.0 ys (tok ∷ rest) pd (omega (arith, r)) (halts_bare d (sort_of sort) sc pu.0 ys tok pd refl tt tt)
    ∙ steps limit least (after_declarator sc d) outer (in_group l ∷ fs) (have_declarator d) tok rest fs (have_declarator (t.grouped l d)) (group_closes limit l d fs pu.0))))

-- a bound
bracket_goes : (limit : ℕ) (d : t.DeclaratorTree) (fs : List Frame) (l : Pos) → declarator_depth d + (length fs + 1) ≤ limit → declarator_end limit d fs l signs.OpenBracket ≡ goes fs (opened_bound l d)
unfolding declarator_end
bracket_goes limit d fs l r = roomy limit (declarator_depth d + (length fs + 1)) (goes fs (opened_bound l d)) r

bound_read : (limit : ℕ) (l : Pos) (d : t.DeclaratorTree) (n : t.MaybeExpr) → ReadsMaybe limit n → (least : ℕ) (sc : Scope) (outer : Blocks) (fs : List Frame) (k : Pos) (us rest : List Token) → g.optional_constant sc (λ ts. ts ≡ []) n us → declarator_depth (t.array l d n) + length fs ≤ limit
    → run limit least (sc ∷ outer) fs (opened_bound l d) (us ++ (token (kinds.Punct puncts.CloseBracket) k ∷ rest)) ≡ run limit least (after_maybe sc n ∷ outer) fs (have_declarator (t.array l d n)) rest
unfolding opened_bound_step close
bound_read limit l d t.no_expr rn least sc outer fs k us rest p r = subst (λ ts. run limit least (sc ∷ outer) fs (opened_bound l d) (ts ++ (token (kinds.Punct puncts.CloseBracket) k ∷ rest)) ≡ run limit least (sc ∷ outer) fs (have_declarator (t.array l d t.no_expr)) rest) (sym p)
    (steps limit least sc outer fs (opened_bound l d) (token (kinds.Punct puncts.CloseBracket) k) rest fs (have_declarator (t.array l d t.no_expr)) refl)
bound_read limit l d (t.an_expr e) rn least sc outer fs k us rest p r =
    let tail = token (kinds.Punct puncts.CloseBracket) k ∷ rest in
    let end = run limit least (after sc e ∷ outer) fs (have_declarator (t.array l d (t.an_expr e))) rest in
    let same_level = level_is e in
    split (Leads limit least sc outer fs (opened_bound l d) end) us tail p (λ vs ys a pe. subst (λ ts. Leads limit least sc outer fs (opened_bound l d) end (ts ++ (ys ++ tail))) (sym a)
    (let high = pe.0 in
    behind_bound limit least sc outer l d fs ys tail (begins_expr e sc ys pe.1)
    ∙ encloses limit e rn least sc outer (in_bound l d) fs ys puncts.CloseBracket k rest fs (have_declarator (t.array l d (t.an_expr e))) _ pe.1 (omega (arith, high, same_level)) (omega (arith, r)) refl refl (inl refl) refl))

pub reads_array : (limit : ℕ) (l : Pos) (d : t.DeclaratorTree) (n : t.MaybeExpr) → ReadsDeclarator limit d → ReadsMaybe limit n → ReadsDeclarator limit (t.array l d n)
reads_array limit l d n rd rn least sc outer sort fs m xs rest p r f =
    let sc1 = after_declarator sc d in
    let tok : Token = token (kinds.Punct puncts.OpenBracket) l in
    let end = run limit least (after_maybe sc1 n ∷ outer) fs (have_declarator (t.array l d n)) rest in
    between (Leads limit least sc outer fs (declarator sort) end) l (kinds.Punct puncts.OpenBracket) xs rest p (λ ys us pd pu.
    rd least sc outer sort fs l ys (tok ∷ (us ++ rest)) pd.1 (omega (arith, r)) (halts_direct d (sort_of sort) sc l ys tok pd.0 pd.1 refl tt)
    ∙ (steps limit least sc1 outer fs (have_declarator d) tok (us ++ rest) fs (opened_bound l d) (bracket_goes limit d fs l (omega (arith, r)))
    ∙ behind_some (Leads limit least sc1 outer fs (opened_bound l d) end) (kinds.Punct puncts.CloseBracket) us rest pu (λ k vs pv. bound_read limit l d n rn least sc1 outer fs k vs rest pv r)))

-- parameters
pub paren_goes : (limit : ℕ) (d : t.DeclaratorTree) (fs : List Frame) (l : Pos) → declarator_depth d + (length fs + 1) ≤ limit → declarator_end limit d fs l signs.Open ≡ goes fs (opened_params l d)
unfolding declarator_end
paren_goes limit d fs l r = roomy limit (declarator_depth d + (length fs + 1)) (goes fs (opened_params l d)) r
