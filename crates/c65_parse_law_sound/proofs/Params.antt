-- Among qualifiers, parameters and names of parameters.
use Rattle.std.proofs.Common.{◌≡◌, ℕ, List, [], ◌∷◌, ◌++◌, Bool, true, false, refl, sym, ap, ◌∙◌, subst}
use Rattle.std.proofs.lemmas.List.{append-nil}
use Rattle.std.specs.Prelude.{Option, None, Some, is_some, if◌then◌else◌}
use Rattle.c65_base.specs.declared.names.Name.{Name}
use Rattle.c65_base.specs.declared.refusal.Pos.{Pos}
use Rattle.c65_scan.specs.declared.token.Keyword.TheVariants as keywords
use Rattle.c65_scan.specs.declared.token.Punct.TheVariants as puncts
use Rattle.c65_scan.specs.declared.token.Token.{Token}
use Rattle.c65_scan.specs.declared.token.TokenKind.{TokenKind}
use Rattle.c65_scan.specs.declared.token.TokenKind.TheVariants as kinds
use Rattle.c65_tree.specs.Trees as t
use Rattle.c65_parse_trees.specs.declared.sign.Sign.{Sign}
use Rattle.c65_parse_trees.specs.declared.sign.Sign.TheVariants as signs
use Rattle.c65_parse_trees.specs.declared.sign.Word.TheVariants as words
use Rattle.c65_parse_trees.specs.Names
use Rattle.c65_parse_trees.specs.Signs.{begins_specifiers}
use Rattle.c65_parse_trees.specs.Listings.{ParamsPart, NamesPart, nothing_listed}
use Rattle.c65_parse_names.specs.Scopes.{Blocks, closed}
use Rattle.c65_parse_names.specs.Scopes as blocks
use Rattle.c65_parse.specs.declared.frame.Derivation.TheVariants as derivations
use Rattle.c65_parse.specs.declared.frame.Sort.{Sort}
use Rattle.c65_parse.specs.Frames.{Frame, fail, in_group, in_derived, in_params, declarator, opened_declarator, opened_params, more_params, ellipsis, names, names_end}
use Rattle.c65_parse.specs.Frames as frames
use Rattle.c65_parse.specs.Expressions.{goes}
use Rattle.c65_parse.specs.Declarators.{declarator_step}
use Rattle.c65_parse.specs.Specifiers.{specifiers_step}
use Rattle.c65_parse.specs.Machine.{qualifiers_step, in_block, params_step, opened_declarator_step, opened_params_step, more_params_step, ellipsis_step, names_step, names_end_step}
use Rattle.c65_parse_grammar.specs.Phrases.{◌▸◌, nothing, one, mark, some_mark}
use Rattle.c65_parse_grammar.specs.Spellings.{qualifiers, qualifiers_from}
use Rattle.c65_parse_grammar.specs.Scopes.{Scope, after_declarator}
use Rattle.c65_parse_grammar.specs.Expressions as g
use Rattle.c65_parse_grammar.specs.Expressions.{may_lack, identifiers, identifier_list, comma_at}
use Rattle.c65_parse_law_sound.proofs.Phrases.{regroup, map_left, map_right, attach, is_one, is_some_one}
use Rattle.c65_parse_law_sound.proofs.Says.{Says}
use Rattle.c65_parse_law_alike.proofs.Alike.{name_is}
use Rattle.c65_parse_law_sound.proofs.Places.{Start, params_scope, scope_at, outer_at, sort_at, suffix_front, params_front, more_params_front, fronts, lacks, SuitsTree, Stand}
use Rattle.c65_parse_law_sound.proofs.States.{Holds, Good}
use Rattle.c65_parse_law_sound.proofs.Operands.{good_if}
use Rattle.c65_parse_law_sound.proofs.Declarators.{MayBegin, Bare, Needs, declarator_good, lack_at}
use Rattle.c65_parse_law_sound.proofs.Specifiers.{listing_begun, specifiers_good}

-- the cases of a qualifier
abbrev pub Qualifier : TokenKind → Type 0 → Type 0 → Type 0
Qualifier k A B = elim k as (λ _. Type 0) [
  | kinds.Keyword keywords.Const ↦ A
  | kinds.Keyword keywords.Volatile ↦ B
  | _ ↦ ⊥
]

qualifier_map : (k : TokenKind) (A B C D : Type 0) → (A → C) → (B → D) → Qualifier k A B → Qualifier k C D
qualifier_map (kinds.Keyword keywords.Const) A B C D f h p = f p
qualifier_map (kinds.Keyword keywords.Volatile) A B C D f h p = h p
qualifier_map _ A B C D f h p = absurd p

constant_from : (a b c v : Bool) (xs : List Token) (l : Pos) → qualifiers_from a b c v xs → qualifiers_from a b true v (xs ++ record { kind = kinds.Keyword keywords.Const; pos = l } ∷ [])
constant_from a b c v [] l p = (refl, p.1)
constant_from a b c v (q ∷ qs) l p = qualifier_map q.kind _ _ _ _ (constant_from true b c v qs l) (constant_from a true c v qs l) p

volatile_from : (a b c v : Bool) (xs : List Token) (l : Pos) → qualifiers_from a b c v xs → qualifiers_from a b c true (xs ++ record { kind = kinds.Keyword keywords.Volatile; pos = l } ∷ [])
volatile_from a b c v [] l p = (p.0, refl)
volatile_from a b c v (q ∷ qs) l p = qualifier_map q.kind _ _ _ _ (volatile_from true b c v qs l) (volatile_from a true c v qs l) p

more_constant : (c v : Bool) (l : Pos) (ts : List Token) → (qualifiers c v ▸ one l (kinds.Keyword keywords.Const)) ts → qualifiers true v ts
more_constant c v l ts p = subst (qualifiers true v) (sym (p.2 ∙ ap (λ ys. p.0 ++ ys) p.4)) (constant_from false false c v p.0 l p.3)

more_volatile : (c v : Bool) (l : Pos) (ts : List Token) → (qualifiers c v ▸ one l (kinds.Keyword keywords.Volatile)) ts → qualifiers c true ts
more_volatile c v l ts p = subst (qualifiers c true) (sym (p.2 ∙ ap (λ ys. p.0 ++ ys) p.4)) (volatile_from false false c v p.0 l p.3)

pointer_begun : (w : Start) (k : Pos) (c v : Bool) (sort : Sort) (fs : List Frame) (front : List Token) (tok : Token) (scope : Blocks) (sign : Sign) → Holds w fs (frames.qualifiers k c v sort) scope front → Needs w (in_derived k (derivations.Pointer c v) ∷ fs) sort sign tok.pos scope front
pointer_begun w k c v sort fs front tok scope sign h = record {
  scope_is = h.scope_is;
  stand = (h.fits.1, h.stand);
  sort_is = h.fits.0;
  suits = λ n m. tt;
  bare = λ e. tt;
  reads = h.reads;
}

pub qualifiers_good : (limit : ℕ) (w : Start) (k : Pos) (c v : Bool) (sort : Sort) (fs : List Frame) (front : List Token) (tok : Token) (scope : Blocks) (sign : Sign) → Says (scope_at w fs) sign tok.kind → Holds w fs (frames.qualifiers k c v sort) scope front → Good w front tok scope (qualifiers_step limit k c v sort fs tok.pos sign)
unfolding qualifiers_step
qualifiers_good limit w k c v sort fs front tok scope (signs.Word words.Const) s h = record { scope_is = h.scope_is; stand = h.stand; fits = h.fits; reads = map_right (λ xs p. map_right (λ ys q. more_constant c v tok.pos ys q) (regroup p)) (attach _ _ h.reads (is_one tok _ s)) }
qualifiers_good limit w k c v sort fs front tok scope (signs.Word words.Volatile) s h = record { scope_is = h.scope_is; stand = h.stand; fits = h.fits; reads = map_right (λ xs p. map_right (λ ys q. more_volatile c v tok.pos ys q) (regroup p)) (attach _ _ h.reads (is_one tok _ s)) }
qualifiers_good limit w k c v sort fs front tok scope sign s h = declarator_good limit w (in_derived k (derivations.Pointer c v) ∷ fs) sort front tok scope sign s (pointer_begun w k c v sort fs front tok scope sign h)

-- the first parameter opens a block
block_good : (limit : ℕ) (w : Start) (fs : List Frame) (front : List Token) (tok : Token) (scope : Blocks) (sign : Sign) → begins_specifiers sign ≡ true → Good w front tok (blocks.opened scope) (specifiers_step limit (nothing_listed true) fs tok.pos sign) → Good w front tok scope (in_block (specifiers_step limit (nothing_listed true) fs tok.pos sign))
unfolding specifiers_step
block_good limit w fs front tok scope (signs.Word wd) e h = h
block_good limit w fs front tok scope (signs.Storage c) e h = h
block_good limit w fs front tok scope (signs.Tag wd) e h = h
block_good limit w fs front tok scope (signs.Name n true) e h = h
block_good limit w fs front tok scope _ e h = absurd cc

params_good : (limit : ℕ) (w : Start) (k : Pos) (d : t.DeclaratorTree) (fs : List Frame) (front : List Token) (tok : Token) (scope : Blocks) (sign : Sign) → begins_specifiers sign ≡ true → Says (after_declarator (scope_at w fs) d) sign tok.kind
    → scope ≡ after_declarator (scope_at w fs) d ∷ outer_at w fs → Stand w fs → SuitsTree w fs d → (fronts w fs ▸ suffix_front (sort_at w fs) (scope_at w fs) k d) front → Good w front tok scope (params_step limit k d fs tok.pos sign)
unfolding params_step
params_good limit w k d fs front tok scope sign e s scope_is stand suits h =
    let part : ParamsPart = record { pos = k; declarator = d; params = t.no_more_params } in
    block_good limit w (in_params part ∷ fs) front tok scope sign e (specifiers_good limit w (nothing_listed true) (in_params part ∷ fs) front tok (blocks.opened scope) sign s (record {
      scope_is = ap blocks.opened scope_is;
      stand = (suits, stand);
      fits = refl;
      reads = listing_begun w (in_params part ∷ fs) (after_declarator (scope_at w fs) d) true front (map_right (λ xs p. (xs, [], sym (append-nil xs), p, (k, ([], [], refl, refl, refl)))) h);
    }))

-- a nameless declarator before a parenthesis
nameless_suffix : (s : g.Sort) (b : Scope) (k : Pos) (ts : List Token) → may_lack s ≡ true → mark k puncts.OpenParen ts → suffix_front s b k (t.nameless k) ts
nameless_suffix s b k ts e p = ([], ts, refl, (refl, ((e, refl), refl)), p)

lacks_by : (lack : Bool) → (if lack then true else true) ≡ true
lacks_by true = refl
lacks_by false = refl

lacks_none : (s : g.Sort) (b : Scope) → lacks s b None ≡ true
lacks_none s b = lacks_by (may_lack s)

lacks_some : (s : g.Sort) (b : Scope) (n : Name) → b n ≡ false → lacks s b (Some n) ≡ true
lacks_some s b n e = ap (λ x. if may_lack s then (if x then false else true) else true) e ∙ lacks_by (may_lack s)

group_suits : (s : g.Sort) (b : Scope) (sign : Sign) (k : TokenKind) (n : Option Name) → begins_specifiers sign ≡ false → Says b sign k → MayBegin n sign → lacks s b n ≡ true
group_suits s b sign k None e q m = lacks_none s b
group_suits s b (signs.Name n is_type) k (Some o) e q m = lacks_some s b o (ap b (sym m) ∙ (q.1 ∙ e))
group_suits s b _ k (Some o) e q m = absurd m

group_begun : (w : Start) (k : Pos) (sort : Sort) (fs : List Frame) (front : List Token) (tok : Token) (scope : Blocks) (sign : Sign) → begins_specifiers sign ≡ false → Bare (in_group k ∷ fs) sign → Says (scope_at w fs) sign tok.kind → Holds w fs (opened_declarator k sort) scope front → Needs w (in_group k ∷ fs) sort sign tok.pos scope front
group_begun w k sort fs front tok scope sign e bare s h = record {
  scope_is = h.scope_is;
  stand = (h.fits.1, h.stand);
  sort_is = h.fits.0;
  suits = λ n m. group_suits (sort_at w fs) (scope_at w fs) sign tok.kind n e s m;
  bare = λ o. bare;
  reads = h.reads;
}

group_or_params : (limit : ℕ) (w : Start) (k : Pos) (sort : Sort) (fs : List Frame) (front : List Token) (tok : Token) (scope : Blocks) (sign : Sign) → Bare (in_group k ∷ fs) sign → Says (scope_at w fs) sign tok.kind → Holds w fs (opened_declarator k sort) scope front → Good w front tok scope (if begins_specifiers sign then params_step limit k (t.nameless k) fs tok.pos sign else declarator_step limit sort (in_group k ∷ fs) tok.pos sign)
group_or_params limit w k sort fs front tok scope sign bare s h = good_if w front tok scope (begins_specifiers sign) _ _
    (λ e. params_good limit w k (t.nameless k) fs front tok scope sign e s h.scope_is h.stand h.fits.1 (map_right (λ xs p. nameless_suffix (sort_at w fs) (scope_at w fs) k xs (lack_at w fs sort true h.fits.0 h.fits.2) p) h.reads))
    (λ e. declarator_good limit w (in_group k ∷ fs) sort front tok scope sign s (group_begun w k sort fs front tok scope sign e bare s h))

pub opened_declarator_good : (limit : ℕ) (w : Start) (k : Pos) (sort : Sort) (fs : List Frame) (front : List Token) (tok : Token) (scope : Blocks) (sign : Sign) → Says (scope_at w fs) sign tok.kind → Holds w fs (opened_declarator k sort) scope front → Good w front tok scope (opened_declarator_step limit k sort fs tok.pos sign)
unfolding opened_declarator_step
opened_declarator_good limit w k sort fs front tok scope signs.Close s h = record {
  scope_is = h.scope_is;
  stand = h.stand;
  fits = (h.fits.1, refl, refl);
  reads = map_right (λ xs p l. regroup (map_left (λ ys q. nameless_suffix (sort_at w fs) (scope_at w fs) k ys (lack_at w fs sort true h.fits.0 h.fits.2) q) p)) (attach _ _ h.reads (is_some_one tok _ s));
}
opened_declarator_good limit w k sort fs front tok scope sign s h = group_or_params limit w k sort fs front tok scope sign tt s h

pub opened_params_good : (limit : ℕ) (w : Start) (k : Pos) (d : t.DeclaratorTree) (fs : List Frame) (front : List Token) (tok : Token) (scope : Blocks) (sign : Sign) → Says (after_declarator (scope_at w fs) d) sign tok.kind → Holds w fs (opened_params k d) scope front → Good w front tok scope (opened_params_step limit k d fs tok.pos sign)
unfolding opened_params_step
opened_params_good limit w k d fs front tok scope signs.Close s h = record {
  scope_is = h.scope_is;
  stand = h.stand;
  fits = (h.fits, refl, refl);
  reads = map_right (λ xs p l. regroup p) (attach _ _ h.reads (is_some_one tok _ s));
}
opened_params_good limit w k d fs front tok scope (signs.Name n false) s h = good_if w front tok scope (is_some (Names.declared_name d)) (goes fs (names_end (record { pos = k; declarator = d; names = (n, tok.pos) ∷ [] }))) fail
    (λ e. record {
      scope_is = h.scope_is;
      stand = h.stand;
      fits = (h.fits, ap is_some (sym (name_is d)) ∙ e);
      reads = attach _ _ h.reads ([], tok ∷ [], refl, refl, (tok ∷ [], [], refl, (s.1, is_one tok _ s.0), refl));
    })
    (λ e. tt)
opened_params_good limit w k d fs front tok scope sign s h = good_if w front tok scope (begins_specifiers sign) _ fail
    (λ e. params_good limit w k d fs front tok scope sign e s h.scope_is h.stand h.fits h.reads)
    (λ e. tt)

-- behind a comma the next parameter is begun
next_param : (s : g.Sort) (b : Scope) (part : ParamsPart) (ts : List Token) → more_params_front s b part ts → params_front s b part ts
next_param s b part ts p = map_right (λ xs q. (q.1.0, map_right (λ ys r. subst (λ x. comma_at x q.1.0 ys) (sym q.0) r) q.1.1)) p

more_begun : (limit : ℕ) (w : Start) (part : ParamsPart) (fs : List Frame) (front : List Token) (tok : Token) (scope : Blocks) (sign : Sign) → Says (params_scope (scope_at w fs) part) sign tok.kind → Holds w fs (more_params part) scope front → Good w front tok scope (specifiers_step limit (nothing_listed true) (in_params part ∷ fs) tok.pos sign)
more_begun limit w part fs front tok scope sign s h = specifiers_good limit w (nothing_listed true) (in_params part ∷ fs) front tok scope sign s (record {
  scope_is = h.scope_is;
  stand = (h.fits, h.stand);
  fits = refl;
  reads = listing_begun w (in_params part ∷ fs) (params_scope (scope_at w fs) part) true front (map_right (λ xs p. next_param (sort_at w fs) (scope_at w fs) part xs p) h.reads);
})

pub more_params_good : (limit : ℕ) (w : Start) (part : ParamsPart) (fs : List Frame) (front : List Token) (tok : Token) (scope : Blocks) (sign : Sign) → Says (params_scope (scope_at w fs) part) sign tok.kind → Holds w fs (more_params part) scope front → Good w front tok scope (more_params_step limit part fs tok.pos sign)
unfolding more_params_step
more_params_good limit w part fs front tok scope signs.Ellipsis s h = record { scope_is = h.scope_is; stand = h.stand; fits = h.fits; reads = attach _ _ h.reads (is_some_one tok _ s) }
more_params_good limit w part fs front tok scope sign s h = more_begun limit w part fs front tok scope sign s h

pub ellipsis_good : (w : Start) (part : ParamsPart) (fs : List Frame) (front : List Token) (tok : Token) (scope : Blocks) (sc : Scope) (sign : Sign) → Says sc sign tok.kind → Holds w fs (ellipsis part) scope front → Good w front tok scope (ellipsis_step part fs sign)
unfolding ellipsis_step
ellipsis_good w part fs front tok scope sc signs.Close s h = record {
  scope_is = ap closed h.scope_is;
  stand = h.stand;
  fits = (h.fits, refl, refl);
  reads = map_right (λ xs p l. regroup (regroup (regroup p))) (attach _ _ h.reads (is_some_one tok _ s));
}
ellipsis_good w part fs front tok scope sc _ s h = tt

-- the last name
last_name : (b : Scope) (n : Name) (l : Pos) (ts : List Token) → b n ≡ false → (nothing ▸ (some_mark puncts.Comma ▸ one l (kinds.Name n))) ts → identifiers false b ((n, l) ∷ []) ts
last_name b n l ts e p = subst (identifiers false b ((n, l) ∷ [])) (sym (p.2 ∙ ap (λ xs. xs ++ p.1) p.3)) (map_right (λ xs q. (xs, [], sym (append-nil xs), (e, q), refl)) p.4)

-- one more name
name_behind : (first : Bool) (b : Scope) (n : Name) (l : Pos) (m : Name × Pos) (ns : List (Name × Pos)) (ts : List Token) → b n ≡ false → (identifiers first b (m ∷ ns) ▸ (some_mark puncts.Comma ▸ one l (kinds.Name n))) ts → identifiers first b ((m ∷ ns) ++ (n, l) ∷ []) ts
name_behind first b n l m [] ts e p = map_right (λ xs q. map_right (λ ys r. last_name b n l ys e r) (regroup q)) (regroup p)
name_behind first b n l m (o ∷ ns) ts e p = map_right (λ xs q. map_right (λ ys r. name_behind false b n l o ns ys e r) (regroup q)) (regroup p)

list_behind : (b : Scope) (n : Name) (l : Pos) (ns : List (Name × Pos)) (ts : List Token) → b n ≡ false → (identifier_list b ns ▸ (some_mark puncts.Comma ▸ one l (kinds.Name n))) ts → identifier_list b (ns ++ (n, l) ∷ []) ts
list_behind b n l [] ts e p = absurd p.3
list_behind b n l (m ∷ ns) ts e p = name_behind true b n l m ns ts e p

pub names_good : (w : Start) (part : NamesPart) (fs : List Frame) (front : List Token) (tok : Token) (scope : Blocks) (sign : Sign) → Says (after_declarator (scope_at w fs) part.declarator) sign tok.kind → Holds w fs (names part) scope front → Good w front tok scope (names_step part fs tok.pos sign)
unfolding names_step
names_good w part fs front tok scope (signs.Name n false) s h = record {
  scope_is = h.scope_is;
  stand = h.stand;
  fits = h.fits;
  reads = map_right (λ xs p. map_right (λ ys q. list_behind (after_declarator (scope_at w fs) part.declarator) n tok.pos part.names ys s.1 q) (regroup (regroup p))) (attach _ _ h.reads (is_one tok _ s.0));
}
names_good w part fs front tok scope _ s h = tt

pub names_end_good : (w : Start) (part : NamesPart) (fs : List Frame) (front : List Token) (tok : Token) (scope : Blocks) (sc : Scope) (sign : Sign) → Says sc sign tok.kind → Holds w fs (names_end part) scope front → Good w front tok scope (names_end_step part fs sign)
unfolding names_end_step
names_end_good w part fs front tok scope sc signs.Comma s h = record { scope_is = h.scope_is; stand = h.stand; fits = h.fits; reads = attach _ _ h.reads (is_some_one tok _ s) }
names_end_good w part fs front tok scope sc signs.Close s h = record {
  scope_is = h.scope_is;
  stand = h.stand;
  fits = (h.fits.0, refl, refl);
  reads = map_right (λ xs p l. map_right (λ ys q. map_right (λ zs r. map_left (λ vs u. (h.fits.1, u)) r) q) (regroup (regroup p))) (attach _ _ h.reads (is_some_one tok _ s));
}
names_end_good w part fs front tok scope sc _ s h = tt
