-- Among specifiers, members and enumerators.
use Rattle.std.proofs.Common.{◌≡◌, ℕ, List, [], ◌∷◌, ◌++◌, Bool, true, false, refl, sym, ap, ◌∙◌, subst}
use Rattle.std.proofs.lemmas.List.{append-nil}
use Rattle.std.specs.Prelude.{Option, None, Some, is_some, if◌then◌else◌}
use Rattle.c65_base.specs.declared.names.Name.{Name}
use Rattle.c65_base.specs.declared.refusal.Pos.{Pos}
use Rattle.c65_scan.specs.declared.token.Keyword.TheVariants as keywords
use Rattle.c65_scan.specs.declared.token.Punct.TheVariants as puncts
use Rattle.c65_scan.specs.declared.token.Token.{Token}
use Rattle.c65_scan.specs.declared.token.TokenKind.TheVariants as kinds
use Rattle.c65_tree.specs.Trees as t
use Rattle.c65_parse_trees.specs.declared.operator.Infix.TheVariants as infixes
use Rattle.c65_parse_trees.specs.declared.sign.Sign.{Sign}
use Rattle.c65_parse_trees.specs.declared.sign.Sign.TheVariants as signs
use Rattle.c65_parse_trees.specs.declared.sign.TagWord.{TagWord}
use Rattle.c65_parse_trees.specs.declared.sign.TagWord.TheVariants as tags
use Rattle.c65_parse_trees.specs.Listings.{Listing, Listed, TagPart, Body, MembersPart, EnumPart, nothing_listed, first_or, list_with, with_storage, with_typedef_name, tag_tree, with_tag, with_body, ended}
use Rattle.c65_parse_names.specs.Scopes.{Blocks, with_declared}
use Rattle.c65_parse.specs.declared.frame.Sort.TheVariants as sorts
use Rattle.c65_parse.specs.Frames.{Frame, in_type, in_type_declarator, in_members, in_member, in_params, in_param, in_value, fail, operand, specifiers, tag, tag_name, more_members, member, enumerator, enumerator_name}
use Rattle.c65_parse.specs.Expressions.{goes, with_enumerator}
use Rattle.c65_parse.specs.Specifiers.{member_step, end_listed, end_specifiers, specifiers_step, is_enum, is_union_word, body_of, enum_of, open_body, tag_step, tag_name_step, more_members_step, enumerator_step, enumerator_name_step}
use Rattle.c65_parse_grammar.specs.Phrases.{Phrase, ◌▸◌, one, some, word, some_mark}
use Rattle.c65_parse_grammar.specs.Spellings.{optional_name, tag_keyword, word_keyword, storage_keyword}
use Rattle.c65_parse_grammar.specs.Parts.{list_has_type, is_empty_list, first_place, specifier_place, is_type_specifier, is_typedef_specifier}
use Rattle.c65_parse_grammar.specs.Scopes.{Scope, after_list, after_specifiers}
use Rattle.c65_parse_grammar.specs.Expressions as g
use Rattle.c65_parse_grammar.specs.Expressions.{is_no_member_decl}
use Rattle.c65_parse_law_sound.proofs.Phrases.{regroup, map_left, map_right, attach, is_one, is_some_one, behind_nothing, true_false, false_true}
use Rattle.c65_parse_law_sound.proofs.Says.{Says, tag_word}
use Rattle.c65_parse_law_alike.proofs.Alike.{type_word_is, typedef_word_is}
use Rattle.c65_parse_law_sound.proofs.Places.{Start, body_scope, member_scope, scope_at, outer_at, storage_at, IsListing, listing, listed, tag_front, body_front, fronts, Stand}
use Rattle.c65_parse_law_sound.proofs.States.{some_or_none, Holds, Good}
use Rattle.c65_parse_law_sound.proofs.Operands.{good_within, good_if}
use Rattle.c65_parse_law_sound.proofs.Members.{listing_with, EnumeratorRead, enumerator_good}
use Rattle.c65_parse_law_sound.proofs.Exprs.{at_start}
use Rattle.c65_parse_law_sound.proofs.Declarators.{declarator_good}

pub is_nothing_listed : (storage : Bool) → IsListing (nothing_listed storage)
is_nothing_listed storage = record { first = λ l. refl; typed = refl; typedefs = refl; begun = refl }

-- specifiers are begun
pub listing_begun : (w : Start) (fs : List Frame) (b : Scope) (storage : Bool) (ts : List Token) → fronts w fs ts → (fronts w fs ▸ listing b (nothing_listed storage)) ts
listing_begun w fs b storage ts h = (ts, [], sym (append-nil ts), h, (is_nothing_listed storage, refl))

-- one more specifier
listed_more : (b : Scope) (q : Listing) (l : Pos) (item : t.SpecifierTree) (is_type is_typedef : Bool) (A : Phrase) (ts : List Token) → (listing b q ▸ A) ts
    → specifier_place item ≡ l → is_type ≡ is_type_specifier item → is_typedef ≡ is_typedef_specifier item
    → ((xs : List Token) → A xs → g.specifier (after_list b q.items) q.takes_storage (list_has_type q.items) item xs)
    → listing b (list_with q l item is_type is_typedef) ts
listed_more b q l item is_type is_typedef A ts p place typed typedefs f = (listing_with q l item is_type is_typedef p.3.0 place typed typedefs, (p.0, p.1, p.2, p.3.1, f p.1 p.4))

-- whole specifiers
pub record ListedRead (w : Start) (fs : List Frame) (q : Listed) (scope : Blocks) (front : List Token) : Type 0 where
  pub scope_is : scope ≡ after_specifiers (scope_at w fs) q.tree ∷ outer_at w fs
  pub stand : Stand w fs
  pub reads : (fronts w fs ▸ listed (scope_at w fs) (storage_at w fs) q) front

pub member_step_good : (limit : ℕ) (w : Start) (part : MembersPart) (fs : List Frame) (front : List Token) (tok : Token) (scope : Blocks) (sign : Sign) → Says (member_scope (scope_at w fs) part) sign tok.kind → Holds w fs (member part) scope front → Good w front tok scope (member_step limit part fs tok.pos sign)
unfolding member_step
member_step_good limit w part fs front tok scope signs.Colon s h = record {
  scope_is = h.scope_is;
  stand = (h.fits, h.stand);
  fits = tt;
  reads = attach _ _ h.reads ([], tok ∷ [], refl, (refl, refl), is_one tok _ s);
}
member_step_good limit w part fs front tok scope sign s h = declarator_good limit w (in_member part tok.pos ∷ fs) (sorts.Member part.specifiers.has_type) front tok scope sign s (record {
  scope_is = h.scope_is;
  stand = (h.fits, h.stand);
  sort_is = refl;
  suits = λ n m. refl;
  bare = λ e. absurd (false_true e);
  reads = h.reads;
})

end_listed_good : (limit : ℕ) (w : Start) (q : Listed) (fs : List Frame) (front : List Token) (tok : Token) (scope : Blocks) (sign : Sign) → Says (after_specifiers (scope_at w fs) q.tree) sign tok.kind → ListedRead w fs q scope front → Good w front tok scope (end_listed limit q fs tok.pos sign)
unfolding end_listed
end_listed_good limit w q (in_type at purpose ∷ fs) front tok scope sign s h = declarator_good limit w (in_type_declarator at purpose q.tree ∷ fs) sorts.Abstract front tok scope sign s (record {
  scope_is = h.scope_is;
  stand = h.stand;
  sort_is = refl;
  suits = λ n m. tt;
  bare = λ e. tt;
  reads = map_right (λ xs p. map_right (λ ys r. r.1) p) (regroup h.reads);
})
end_listed_good limit w q (in_params part ∷ fs) front tok scope sign s h = declarator_good limit w (in_param part q ∷ fs) (sorts.Param q.has_type) front tok scope sign s (record {
  scope_is = h.scope_is;
  stand = h.stand;
  sort_is = refl;
  suits = λ n m. tt;
  bare = λ e. tt;
  reads = regroup h.reads;
})
end_listed_good limit w q (in_members body ∷ fs) front tok scope sign s h = member_step_good limit w (record { body = body; specifiers = q; members = t.no_more_members }) fs front tok scope sign s (record {
  scope_is = h.scope_is;
  stand = h.stand.1;
  fits = h.stand.0;
  reads = map_right (λ xs p. (xs, [], sym (append-nil xs), p, ([], [], refl, refl, refl))) (regroup h.reads);
})
end_listed_good limit w q _ front tok scope sign s h = tt

first_or_twice : (o : Option Pos) (l : Pos) → first_or o (first_or o l) ≡ first_or o l
first_or_twice None l = refl
first_or_twice (Some first) l = refl

first_is : (q : Listing) (l : Pos) → IsListing q → first_place (first_or q.first l) q.items ≡ first_or q.first l
first_is q l h = h.first (first_or q.first l) ∙ first_or_twice q.first l

not_empty : (a b : Bool) → a ≡ true → a ≡ (if b then false else true) → b ≡ false
not_empty a true e h = absurd (true_false (sym e ∙ h))
not_empty a false e h = refl

-- none, or the grammar's specifiers
none_or : (sc : Scope) (storage : Bool) (first : Option Pos) (l : Pos) (qs : t.SpecifierList) (ts : List Token) → is_some first ≡ (if is_empty_list qs then false else true) → first_place (first_or first l) qs ≡ first_or first l → g.specifier_list sc storage qs ts → some_or_none sc storage l (t.specifiers (first_or first l) qs) ts
none_or sc storage None l t.no_specifiers ts b e p = (refl, p)
none_or sc storage (Some first) l t.no_specifiers ts b e p = absurd (true_false (b))
none_or sc storage first l (t.and_specifier qs q) ts b e p = ((refl, e), p)

end_good : (limit : ℕ) (w : Start) (q : Listing) (fs : List Frame) (front : List Token) (tok : Token) (scope : Blocks) (sign : Sign) → Says (after_list (scope_at w fs) q.items) sign tok.kind → Holds w fs (specifiers q) scope front → Good w front tok scope (end_specifiers limit q fs tok.pos sign)
unfolding end_specifiers
end_good limit w q [] front tok scope sign s h =
    let p = at_start (listing w.scope q) w front h.reads in
    (h.scope_is, none_or w.scope w.storage q.first tok.pos q.items front p.0.begun (first_is q tok.pos p.0) (subst (λ b. g.specifier_list w.scope b q.items front) h.fits p.1))
end_good limit w q (f ∷ fs) front tok scope sign s h = good_if w front tok scope (is_some q.first) _ fail
    (λ e. end_listed_good limit w (ended q tok.pos) (f ∷ fs) front tok scope sign s (record {
      scope_is = h.scope_is;
      stand = h.stand;
      reads = map_right (λ xs p. (record { typed = p.0.typed; typedefs = p.0.typedefs }, ((not_empty _ _ e p.0.begun, first_is q tok.pos p.0), subst (λ b. g.specifier_list (scope_at w (f ∷ fs)) b q.items xs) h.fits p.1))) h.reads;
    }))
    (λ e. tt)

pub specifiers_good : (limit : ℕ) (w : Start) (q : Listing) (fs : List Frame) (front : List Token) (tok : Token) (scope : Blocks) (sign : Sign) → Says (after_list (scope_at w fs) q.items) sign tok.kind → Holds w fs (specifiers q) scope front → Good w front tok scope (specifiers_step limit q fs tok.pos sign)
unfolding specifiers_step
specifiers_good limit w q fs front tok scope (signs.Word wd) s h = record {
  scope_is = h.scope_is;
  stand = h.stand;
  fits = h.fits;
  reads = map_right (λ xs p. listed_more (scope_at w fs) q tok.pos _ _ false (one tok.pos (kinds.Keyword (word_keyword _))) xs p refl (type_word_is wd) refl (λ ys r. r)) (attach _ _ h.reads (is_one tok _ s));
}
specifiers_good limit w q fs front tok scope (signs.Storage c) s h = good_if w front tok scope q.takes_storage (goes fs (specifiers (with_storage q tok.pos c))) _
    (λ e. record {
      scope_is = h.scope_is;
      stand = h.stand;
      fits = h.fits;
      reads = map_right (λ xs p. listed_more (scope_at w fs) q tok.pos (t.storage tok.pos c) false _ (one tok.pos (kinds.Keyword (storage_keyword c))) xs p refl refl (typedef_word_is c) (λ ys r. (e, r))) (attach _ _ h.reads (is_one tok _ s));
    })
    (λ e. end_good limit w q fs front tok scope (signs.Storage c) s h)
specifiers_good limit w q fs front tok scope (signs.Tag wd) s h = record {
  scope_is = h.scope_is;
  stand = h.stand;
  fits = h.fits;
  reads = attach _ _ h.reads (is_one tok _ s);
}
specifiers_good limit w q fs front tok scope (signs.Name n true) s h = good_if w front tok scope q.has_type _ (goes fs (specifiers (with_typedef_name q tok.pos n)))
    (λ e. end_good limit w q fs front tok scope (signs.Name n true) s h)
    (λ e. record {
      scope_is = h.scope_is;
      stand = h.stand;
      fits = h.fits;
      reads = map_right (λ xs p. listed_more (scope_at w fs) q tok.pos (t.typedef_name tok.pos n) true false (one tok.pos (kinds.Name n)) xs p refl refl refl (λ ys r. ((sym (p.3.0.typed) ∙ e, s.1), r))) (attach _ _ h.reads (is_one tok _ s.0));
    })
specifiers_good limit w q fs front tok scope sign s h = end_good limit w q fs front tok scope sign s h

enum_is : (wd : TagWord) → is_enum wd ≡ true → tag_word wd ≡ keywords.Enum
enum_is tags.Struct e = absurd cc
enum_is tags.Union e = absurd cc
enum_is tags.Enum e = refl

union_is : (wd : TagWord) → is_enum wd ≡ false → tag_word wd ≡ tag_keyword (is_union_word wd)
union_is tags.Struct e = refl
union_is tags.Union e = refl
union_is tags.Enum e = absurd cc

open_body_good : (limit : ℕ) (w : Start) (part : TagPart) (n : Option Name) (fs : List Frame) (front : List Token) (tok : Token) (scope : Blocks)
    → tok.kind ≡ kinds.Punct puncts.OpenBrace → scope ≡ after_list (scope_at w fs) part.outer.items ∷ outer_at w fs → Stand w fs → part.outer.takes_storage ≡ storage_at w fs
    → (fronts w fs ▸ (tag_front (scope_at w fs) part ▸ optional_name n)) front → Good w front tok scope (open_body limit part n fs)
unfolding open_body
open_body_good limit w part n fs front tok scope s scope_is stand fits h = good_if w front tok scope (is_enum part.word) (goes fs (enumerator (enum_of part n))) _
    (λ e. record {
      scope_is = scope_is;
      stand = stand;
      fits = fits;
      reads = map_right (λ xs p. (xs, [], sym (append-nil xs), map_left (λ ys q. map_left (λ zs r. map_right (λ vs u. subst (λ k. word part.pos k vs) (enum_is part.word e) u) r) q) p, ([], [], refl, refl, refl))) (attach _ _ h (is_some_one tok _ s));
    })
    (λ e. good_within w front tok scope _ (goes (in_members (body_of part n) ∷ fs) (specifiers (nothing_listed false))) (record {
      scope_is = scope_is;
      stand = (fits, stand);
      fits = refl;
      reads = listing_begun w (in_members (body_of part n) ∷ fs) (after_list (scope_at w fs) part.outer.items) false (front ++ tok ∷ []) (map_right (λ xs p. (xs, [], sym (append-nil xs), map_left (λ ys q. map_left (λ zs r. map_right (λ vs u. subst (λ k. word part.pos k vs) (union_is part.word e) u) r) q) p, refl)) (attach _ _ h (is_some_one tok _ s)));
    }))

pub tag_good : (limit : ℕ) (w : Start) (part : TagPart) (fs : List Frame) (front : List Token) (tok : Token) (scope : Blocks) (sc : Scope) (sign : Sign) → Says sc sign tok.kind → Holds w fs (tag part) scope front → Good w front tok scope (tag_step limit part fs sign)
unfolding tag_step
tag_good limit w part fs front tok scope sc (signs.Name n is_type) s h = record { scope_is = h.scope_is; stand = h.stand; fits = h.fits; reads = attach _ _ h.reads (is_some_one tok _ s.0) }
tag_good limit w part fs front tok scope sc signs.OpenBrace s h = open_body_good limit w part None fs front tok scope s h.scope_is h.stand h.fits (map_right (λ xs p. behind_nothing p) h.reads)
tag_good limit w part fs front tok scope sc _ s h = tt

tag_built : (b : Scope) (storage typed : Bool) (l : Pos) (wd : TagWord) (n : Name) (ts : List Token) → (word l (tag_word wd) ▸ some (kinds.Name n)) ts → g.specifier b storage typed (tag_tree l wd n) ts
tag_built b storage typed l tags.Struct n ts p = map_right (λ xs q. (xs, [], sym (append-nil xs), q, (refl, refl))) p
tag_built b storage typed l tags.Union n ts p = map_right (λ xs q. (xs, [], sym (append-nil xs), q, (refl, refl))) p
tag_built b storage typed l tags.Enum n ts p = map_right (λ xs q. (xs, [], sym (append-nil xs), q, (refl, refl))) p

tag_place : (l : Pos) (wd : TagWord) (n : Name) → specifier_place (tag_tree l wd n) ≡ l
tag_place l tags.Struct n = refl
tag_place l tags.Union n = refl
tag_place l tags.Enum n = refl

tag_typed : (l : Pos) (wd : TagWord) (n : Name) → true ≡ is_type_specifier (tag_tree l wd n)
tag_typed l tags.Struct n = refl
tag_typed l tags.Union n = refl
tag_typed l tags.Enum n = refl

tag_typedef : (l : Pos) (wd : TagWord) (n : Name) → false ≡ is_typedef_specifier (tag_tree l wd n)
tag_typedef l tags.Struct n = refl
tag_typedef l tags.Union n = refl
tag_typedef l tags.Enum n = refl

tag_after : (b : Scope) (qs : t.SpecifierList) (l : Pos) (wd : TagWord) (n : Name) → after_list b qs ≡ after_list b (t.and_specifier qs (tag_tree l wd n))
tag_after b qs l tags.Struct n = refl
tag_after b qs l tags.Union n = refl
tag_after b qs l tags.Enum n = refl

tag_ends : (limit : ℕ) (w : Start) (part : TagPart) (n : Name) (fs : List Frame) (front : List Token) (tok : Token) (scope : Blocks) (sign : Sign) → Says (after_list (scope_at w fs) part.outer.items) sign tok.kind → Holds w fs (tag_name part n) scope front → Good w front tok scope (specifiers_step limit (with_tag part n) fs tok.pos sign)
tag_ends limit w part n fs front tok scope sign s h = specifiers_good limit w (with_tag part n) fs front tok scope sign (subst (λ b. Says b sign tok.kind) (tag_after (scope_at w fs) part.outer.items part.pos part.word n) s) (record {
  scope_is = h.scope_is ∙ ap (λ b. b ∷ outer_at w fs) (tag_after (scope_at w fs) part.outer.items part.pos part.word n);
  stand = h.stand;
  fits = h.fits;
  reads = map_right (λ xs p. listed_more (scope_at w fs) part.outer part.pos (tag_tree part.pos part.word n) true false (word part.pos (tag_word part.word) ▸ some (kinds.Name n)) xs (regroup p) (tag_place part.pos part.word n) (tag_typed part.pos part.word n) (tag_typedef part.pos part.word n) (λ ys r. tag_built (after_list (scope_at w fs) part.outer.items) part.outer.takes_storage (list_has_type part.outer.items) part.pos part.word n ys r)) h.reads;
})

pub tag_name_good : (limit : ℕ) (w : Start) (part : TagPart) (n : Name) (fs : List Frame) (front : List Token) (tok : Token) (scope : Blocks) (sign : Sign) → Says (after_list (scope_at w fs) part.outer.items) sign tok.kind → Holds w fs (tag_name part n) scope front → Good w front tok scope (tag_name_step limit part n fs tok.pos sign)
unfolding tag_name_step
tag_name_good limit w part n fs front tok scope signs.OpenBrace s h = open_body_good limit w part (Some n) fs front tok scope s h.scope_is h.stand h.fits h.reads
tag_name_good limit w part n fs front tok scope sign s h = tag_ends limit w part n fs front tok scope sign s h

body_built : (b : Scope) (body : Body) (ts : List Token) → is_no_member_decl body.decls ≡ false → (body_front b body ▸ some_mark puncts.CloseBrace) ts → listing b (with_body body) ts
body_built b body ts some p =
    let q = regroup (regroup (regroup (regroup p))) in (
      listing_with body.outer body.pos _ true false q.3.0 refl refl refl,
      (q.0, q.1, q.2, q.3.1, map_right (λ xs r. map_right (λ ys u. (some, u)) r) q.4),
    )

-- one more declaration of members is begun
next_members : (limit : ℕ) (w : Start) (body : Body) (fs : List Frame) (front : List Token) (tok : Token) (scope : Blocks) (sign : Sign) → Says (body_scope (scope_at w fs) body) sign tok.kind → Holds w fs (more_members body) scope front → Good w front tok scope (specifiers_step limit (nothing_listed false) (in_members body ∷ fs) tok.pos sign)
next_members limit w body fs front tok scope sign s h = specifiers_good limit w (nothing_listed false) (in_members body ∷ fs) front tok scope sign s (record {
  scope_is = h.scope_is;
  stand = (h.fits, h.stand);
  fits = refl;
  reads = listing_begun w (in_members body ∷ fs) (body_scope (scope_at w fs) body) false front (map_right (λ xs p. p.1) h.reads);
})

pub more_members_good : (limit : ℕ) (w : Start) (body : Body) (fs : List Frame) (front : List Token) (tok : Token) (scope : Blocks) (sign : Sign) → Says (body_scope (scope_at w fs) body) sign tok.kind → Holds w fs (more_members body) scope front → Good w front tok scope (more_members_step limit body fs tok.pos sign)
unfolding more_members_step
more_members_good limit w body fs front tok scope signs.CloseBrace s h = record {
  scope_is = h.scope_is;
  stand = h.stand;
  fits = h.fits;
  reads = map_right (λ xs p. body_built (scope_at w fs) body xs p.3.0 (map_left (λ ys q. q.1) p)) (attach _ _ h.reads (is_some_one tok _ s));
}
more_members_good limit w body fs front tok scope sign s h = next_members limit w body fs front tok scope sign s h

pub enumerator_needed : (w : Start) (part : EnumPart) (fs : List Frame) (front : List Token) (tok : Token) (scope : Blocks) (sc : Scope) (sign : Sign) → Says sc sign tok.kind → Holds w fs (enumerator part) scope front → Good w front tok scope (enumerator_step part fs tok.pos sign)
unfolding enumerator_step
enumerator_needed w part fs front tok scope sc (signs.Name n is_type) s h = record { scope_is = h.scope_is; stand = h.stand; fits = h.fits; reads = attach _ _ h.reads (is_one tok _ s.0) }
enumerator_needed w part fs front tok scope sc _ s h = tt

no_value_read : (w : Start) (part : EnumPart) (n : Name) (l : Pos) (fs : List Frame) (front : List Token) (scope : Blocks) → Holds w fs (enumerator_name part n l) scope front → EnumeratorRead w fs (with_enumerator part n l t.no_expr) n scope front
no_value_read w part n l fs front scope h = record {
  scope_is = ap (with_declared n false) h.scope_is;
  stand = h.stand;
  storage = h.fits;
  some = refl;
  reads = map_right (λ xs p. map_right (λ ys q. map_right (λ zs r. map_right (λ vs u. behind_nothing u) r) (regroup q)) (regroup p)) h.reads;
}

pub enumerator_name_good : (limit : ℕ) (w : Start) (part : EnumPart) (n : Name) (l : Pos) (fs : List Frame) (front : List Token) (tok : Token) (scope : Blocks) (sc : Scope) (sign : Sign) → Says sc sign tok.kind → Holds w fs (enumerator_name part n l) scope front → Good w front tok scope (enumerator_name_step limit part n l fs sign)
unfolding enumerator_name_step
enumerator_name_good limit w part n l fs front tok scope sc (signs.Infix (infixes.Assign None)) s h = good_within w front tok scope _ (goes (in_value part n l ∷ fs) operand) (record { scope_is = h.scope_is; stand = (h.fits, h.stand); fits = tt; reads = attach _ _ h.reads (is_some_one tok _ s) })
enumerator_name_good limit w part n l fs front tok scope sc sign s h = enumerator_good w fs (with_enumerator part n l t.no_expr) n front tok scope sc sign s (no_value_read w part n l fs front scope h)
