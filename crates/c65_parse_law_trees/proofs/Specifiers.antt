-- Specifiers one after another, and what ends them.
use Rattle.std.proofs.Common.{◌≡◌, ℕ, suc, ◌+◌, ◌≤◌, List, ◌∷◌, ◌++◌, length, Bool, true, false, refl, sym, ap, ◌∙◌, subst, arith}
use Rattle.std.specs.Prelude.{if◌then◌else◌, Option, None, Some, is_some, ◌||◌}
use Rattle.c65_base.specs.declared.names.Name.{Name}
use Rattle.c65_base.specs.declared.refusal.Pos.{Pos}
use Rattle.c65_scan.specs.declared.token.Keyword.{Keyword}
use Rattle.c65_scan.specs.declared.token.Keyword.TheVariants as keywords
use Rattle.c65_scan.specs.declared.token.Punct.{Punct}
use Rattle.c65_scan.specs.declared.token.Punct.TheVariants as puncts
use Rattle.c65_scan.specs.declared.token.Token.{Token}
use Rattle.c65_scan.specs.declared.token.TokenKind.{TokenKind}
use Rattle.c65_scan.specs.declared.token.TokenKind.TheVariants as kinds
use Rattle.c65_tree.specs.declared.expr.Storage.{Storage}
use Rattle.c65_tree.specs.declared.expr.Storage.TheVariants as storages
use Rattle.c65_tree.specs.Trees as t
use Rattle.c65_tree.specs.Depth.{specifier_depth, specifier_list_depth, members_depth, member_decls_depth, enumerators_depth, enumerator_list_depth}
use Rattle.c65_parse_trees.specs.declared.sign.Sign.{Sign}
use Rattle.c65_parse_trees.specs.declared.sign.Sign.TheVariants as signs
use Rattle.c65_parse_trees.specs.declared.sign.TagWord.{TagWord}
use Rattle.c65_parse_trees.specs.declared.sign.TagWord.TheVariants as tags
use Rattle.c65_parse_trees.specs.Listings.{Listing, TagPart, nothing_listed, list_with, with_storage, with_typedef_name, with_tag, with_body, ended, either, first_or}
use Rattle.c65_parse_trees.specs.Signs.{sign_of_kind, sign_of_keyword, sign_of_punct}
use Rattle.c65_parse_names.specs.Scopes.{Blocks}
use Rattle.c65_parse.specs.Frames.{Frame, in_members, Held, Next, specifiers, tag, tag_name, more_members, enumerator}
use Rattle.c65_parse.specs.Expressions.{goes}
use Rattle.c65_parse.specs.Specifiers.{specifiers_step, tag_step, tag_name_step, open_body, end_specifiers, end_listed, more_members_step}
use Rattle.c65_parse.specs.Machine.{run, step_by}
use Rattle.c65_parse_grammar.specs.Phrases.{◌▸◌, token}
use Rattle.c65_parse_grammar.specs.Spellings.{storage_keyword, word_keyword, tag_keyword, optional_name}
use Rattle.c65_parse_grammar.specs.Parts.{specifier_place, is_type_specifier, is_typedef_specifier, list_has_type, list_is_typedef, first_place, is_empty_list, is_typedef_word}
use Rattle.c65_parse_grammar.specs.Scopes.{Scope, after_list, after_specifier, after_members, after_enumerators, after_member_decls, after_enumerator_list}
use Rattle.c65_parse_grammar.specs.Expressions as g
use Rattle.c65_parse_law_alike.proofs.Alike.{either_is, typedef_word_is}
use Rattle.c65_parse_law_trees.proofs.Runs.{steps, same, First, first_map, split, single, Leads, before, before_some, behind_some}
use Rattle.c65_parse_law_trees.proofs.Steps.{roomy}
use Rattle.c65_parse_law_trees.proofs.Readings.{first_of, listing_of, listed_of, NoBrace, ReadsList, ReadsSpecifier, ReadsDecls, ReadsMembers_in, ReadsEnumerators, ReadsEnumerators_in, body, enum_part}
use Rattle.c65_parse_law_trees.proofs.Firsts.{opens_first, opens_map, Worded, begins_specifier}

-- one more of them
listing_with : (storage : Bool) (qs : t.SpecifierList) (q : t.SpecifierTree) → list_with (listing_of storage qs) (specifier_place q) q (is_type_specifier q) (is_typedef_specifier q) ≡ listing_of storage (t.and_specifier qs q)
listing_with storage qs q =
    ap (λ b. record { first = first_of (t.and_specifier qs q); items = t.and_specifier qs q; has_type = b; is_typedef = either (list_is_typedef qs) (is_typedef_specifier q); takes_storage = storage }) (either_is (list_has_type qs) (is_type_specifier q))
    ∙ ap (λ b. record { first = first_of (t.and_specifier qs q); items = t.and_specifier qs q; has_type = list_has_type qs || is_type_specifier q; is_typedef = b; takes_storage = storage }) (either_is (list_is_typedef qs) (is_typedef_specifier q))

no_brace_by : (k : TokenKind) (l : Pos) → Worded (token k l) → NoBrace (token k l)
no_brace_by (kinds.Keyword k) l h = tt
no_brace_by (kinds.Name n) l h = tt
no_brace_by (kinds.Number ty n) l h = absurd h
no_brace_by (kinds.Text bs) l h = absurd h
no_brace_by (kinds.Punct p) l h = absurd h
no_brace_by kinds.End l h = absurd h

pub worded_no_brace : (tok : Token) → Worded tok → NoBrace tok
worded_no_brace tok h = no_brace_by tok.kind tok.pos h

pub reads_nothing : (limit : ℕ) → ReadsList limit t.no_specifiers
reads_nothing limit least sc outer storage fs xs rest p r f = subst (λ ts. run limit least (sc ∷ outer) fs (specifiers (nothing_listed storage)) (ts ++ rest) ≡ run limit least (sc ∷ outer) fs (specifiers (nothing_listed storage)) rest) (sym p) refl

pub reads_list : (limit : ℕ) (qs : t.SpecifierList) (q : t.SpecifierTree) → ReadsList limit qs → ReadsSpecifier limit q → ReadsList limit (t.and_specifier qs q)
reads_list limit qs q rqs rq least sc outer storage fs xs rest p r f =
    let sc1 = after_list sc qs in
    split (Leads limit least sc outer fs (specifiers (nothing_listed storage)) (run limit least (after_specifier sc1 q ∷ outer) fs (specifiers (listing_of storage (t.and_specifier qs q))) rest)) xs rest p (λ ys zs pqs pq.
    rqs least sc outer storage fs ys (zs ++ rest) pqs (omega (arith, r)) (opens_first NoBrace zs rest (opens_map _ NoBrace zs (λ tok h. worded_no_brace tok h.1) (begins_specifier q sc1 storage (list_has_type qs) zs pq)))
    ∙ (rq least sc1 outer (listing_of storage qs) fs zs rest pq (omega (arith, r)) f
    ∙ ap (λ s. run limit least (after_specifier sc1 q ∷ outer) fs (specifiers s) rest) (listing_with storage qs q)))

storage_sign : (c : Storage) → sign_of_keyword (storage_keyword c) ≡ signs.Storage c
storage_sign storages.Typedef = refl
storage_sign storages.Extern = refl
storage_sign storages.Static = refl
storage_sign storages.Auto = refl
storage_sign storages.Register = refl

storage_goes : (limit : ℕ) (so_far : Listing) (fs : List Frame) (l : Pos) (c : Storage) → so_far.takes_storage ≡ true → specifiers_step limit so_far fs l (sign_of_keyword (storage_keyword c)) ≡ goes fs (specifiers (list_with so_far l (t.storage l c) false (is_typedef_word c)))
unfolding specifiers_step
storage_goes limit so_far fs l c h = ap (specifiers_step limit so_far fs l) (storage_sign c)
    ∙ (ap (λ b. if b then goes fs (specifiers (with_storage so_far l c)) else end_specifiers limit so_far fs l (signs.Storage c)) h
    ∙ ap (λ b. goes fs (specifiers (list_with so_far l (t.storage l c) false b))) (typedef_word_is c))

pub reads_storage : (limit : ℕ) (l : Pos) (c : Storage) → ReadsSpecifier limit (t.storage l c)
reads_storage limit l c least sc outer so_far fs xs rest p r f =
    let s = list_with so_far l (t.storage l c) false (is_typedef_word c) in
    single (Leads limit least sc outer fs (specifiers so_far) (run limit least (sc ∷ outer) fs (specifiers s) rest)) l (kinds.Keyword (storage_keyword c)) xs rest p.1
    (steps limit least sc outer fs (specifiers so_far) (token (kinds.Keyword (storage_keyword c)) l) rest fs (specifiers s) (storage_goes limit so_far fs l c p.0))

word_goes : (limit : ℕ) (so_far : Listing) (fs : List Frame) (l : Pos) (w : t.Word) → specifiers_step limit so_far fs l (sign_of_keyword (word_keyword w)) ≡ goes fs (specifiers (list_with so_far l (t.word l w) (is_type_specifier (t.word l w)) false))
unfolding specifiers_step
word_goes limit so_far fs l t.const = refl
word_goes limit so_far fs l t.volatile = refl
word_goes limit so_far fs l t.void = refl
word_goes limit so_far fs l t.char = refl
word_goes limit so_far fs l t.short = refl
word_goes limit so_far fs l t.int = refl
word_goes limit so_far fs l t.long = refl
word_goes limit so_far fs l t.float = refl
word_goes limit so_far fs l t.double = refl
word_goes limit so_far fs l t.signed = refl
word_goes limit so_far fs l t.unsigned = refl

pub reads_word : (limit : ℕ) (l : Pos) (w : t.Word) → ReadsSpecifier limit (t.word l w)
reads_word limit l w least sc outer so_far fs xs rest p r f =
    let s = list_with so_far l (t.word l w) (is_type_specifier (t.word l w)) false in
    single (Leads limit least sc outer fs (specifiers so_far) (run limit least (sc ∷ outer) fs (specifiers s) rest)) l (kinds.Keyword (word_keyword w)) xs rest p
    (steps limit least sc outer fs (specifiers so_far) (token (kinds.Keyword (word_keyword w)) l) rest fs (specifiers s) (word_goes limit so_far fs l w))

typedef_goes : (limit : ℕ) (so_far : Listing) (fs : List Frame) (l : Pos) (n : Name) (is_type : Bool) → so_far.has_type ≡ false → is_type ≡ true → specifiers_step limit so_far fs l (signs.Name n is_type) ≡ goes fs (specifiers (with_typedef_name so_far l n))
unfolding specifiers_step
typedef_goes limit so_far fs l n true h e = ap (λ b. if b then end_specifiers limit so_far fs l (signs.Name n true) else goes fs (specifiers (with_typedef_name so_far l n))) h
typedef_goes limit so_far fs l n false h e = absurd cc

pub reads_typedef_name : (limit : ℕ) (l : Pos) (n : Name) → ReadsSpecifier limit (t.typedef_name l n)
reads_typedef_name limit l n least sc outer so_far fs xs rest p r f =
    let s = with_typedef_name so_far l n in
    single (Leads limit least sc outer fs (specifiers so_far) (run limit least (sc ∷ outer) fs (specifiers s) rest)) l (kinds.Name n) xs rest p.1
    (steps limit least sc outer fs (specifiers so_far) (token (kinds.Name n) l) rest fs (specifiers s) (typedef_goes limit so_far fs l n (sc n) p.0.0 p.0.1))

-- a tag alone, before what is no brace
abbrev IsNoBrace : Sign → Type 0
IsNoBrace signs.OpenBrace = ⊥
IsNoBrace _ = Unit {0}

no_brace_keyword : (k : Keyword) → IsNoBrace (sign_of_keyword k)
no_brace_keyword keywords.Auto = tt
no_brace_keyword _ = tt

no_brace_punct : (p : Punct) (l : Pos) → NoBrace (token (kinds.Punct p) l) → IsNoBrace (sign_of_punct p)
no_brace_punct puncts.OpenBrace l h = h
no_brace_punct _ l h = tt

no_brace_sign : (sc : Scope) (k : TokenKind) (l : Pos) → NoBrace (token k l) → IsNoBrace (sign_of_kind sc k)
no_brace_sign sc (kinds.Keyword k) l h = no_brace_keyword k
no_brace_sign sc (kinds.Name n) l h = tt
no_brace_sign sc (kinds.Number ty n) l h = tt
no_brace_sign sc (kinds.Text bs) l h = tt
no_brace_sign sc (kinds.Punct p) l h = no_brace_punct p l h
no_brace_sign sc kinds.End l h = tt

tag_alone_by : (limit : ℕ) (part : TagPart) (n : Name) (fs : List Frame) (l : Pos) (s : Sign) → IsNoBrace s → tag_name_step limit part n fs l s ≡ specifiers_step limit (with_tag part n) fs l s
unfolding tag_name_step
tag_alone_by limit part n fs l signs.OpenBrace h = absurd h
tag_alone_by limit part n fs l _ h = refl

tag_alone : (limit : ℕ) (least : ℕ) (sc : Scope) (outer : Blocks) (part : TagPart) (n : Name) (fs : List Frame) (ts : List Token) → First NoBrace ts → run limit least (sc ∷ outer) fs (tag_name part n) ts ≡ run limit least (sc ∷ outer) fs (specifiers (with_tag part n)) ts
tag_alone limit least sc outer part n fs ts f = same limit least sc outer fs fs (tag_name part n) (specifiers (with_tag part n)) ts (first_map NoBrace _ ts (λ tok h. tag_alone_by limit part n fs tok.pos (sign_of_kind sc tok.kind) (no_brace_sign sc tok.kind tok.pos h)) f)

abbrev tag_of : Bool → TagWord
tag_of true = tags.Union
tag_of false = tags.Struct

abbrev tag_part : Listing → Pos → TagWord → TagPart
tag_part so_far l w = record { outer = so_far; pos = l; word = w }

tag_goes : (limit : ℕ) (so_far : Listing) (fs : List Frame) (l : Pos) (union : Bool) → specifiers_step limit so_far fs l (sign_of_keyword (tag_keyword union)) ≡ goes fs (tag (tag_part so_far l (tag_of union)))
unfolding specifiers_step
tag_goes limit so_far fs l true = refl
tag_goes limit so_far fs l false = refl

enum_goes : (limit : ℕ) (so_far : Listing) (fs : List Frame) (l : Pos) → specifiers_step limit so_far fs l (sign_of_keyword keywords.Enum) ≡ goes fs (tag (tag_part so_far l tags.Enum))
unfolding specifiers_step
enum_goes limit so_far fs l = refl

body_goes : (limit : ℕ) (so_far : Listing) (l : Pos) (union : Bool) (name : Option Name) (fs : List Frame) → 2 + length fs ≤ limit → open_body limit (tag_part so_far l (tag_of union)) name fs ≡ goes (in_members (body so_far l union name t.no_member_decls) ∷ fs) (specifiers (nothing_listed false))
unfolding open_body
body_goes limit so_far l true name fs r = roomy limit (2 + length fs) (goes (in_members (body so_far l true name t.no_member_decls) ∷ fs) (specifiers (nothing_listed false))) r
body_goes limit so_far l false name fs r = roomy limit (2 + length fs) (goes (in_members (body so_far l false name t.no_member_decls) ∷ fs) (specifiers (nothing_listed false))) r

with_tag_is : (so_far : Listing) (l : Pos) (union : Bool) (n : Name) → with_tag (tag_part so_far l (tag_of union)) n ≡ list_with so_far l (t.tagged l union (Some n) t.no_members) true false
with_tag_is so_far l true n = refl
with_tag_is so_far l false n = refl

specifier_deep : (q : t.SpecifierTree) → 1 ≤ specifier_depth q
specifier_deep (t.storage l c) = omega arith
specifier_deep (t.word l w) = omega arith
specifier_deep (t.typedef_name l n) = omega arith
specifier_deep (t.tagged l union name ms) = omega arith
specifier_deep (t.enum l name es) = omega arith

pub list_deep : (qs : t.SpecifierList) → is_empty_list qs ≡ false → 1 ≤ specifier_list_depth qs
list_deep t.no_specifiers e = absurd cc
list_deep (t.and_specifier qs q) e = let deep = specifier_deep q in omega (arith, deep)

-- the state in which a brace opens a body
abbrev Opening : (limit : ℕ) → ℕ → List Frame → Held → Next → Type 0
Opening limit least fs held n = (m : Pos) → step_by limit least fs held (token (kinds.Punct puncts.OpenBrace) m) signs.OpenBrace ≡ n

in_body : (limit : ℕ) (ds : t.MemberDeclList) → ReadsDecls limit ds → (least : ℕ) (sc : Scope) (outer : Blocks) (so_far : Listing) (l : Pos) (union : Bool) (name : Option Name) (fs : List Frame) (held : Held) (has_tag : Bool) (us rest : List Token) → Opening limit least fs held (open_body limit (tag_part so_far l (tag_of union)) name fs)
    → g.members_in_braces sc has_tag (t.the_members ds) us → member_decls_depth ds + suc (length fs) ≤ limit
    → run limit least (sc ∷ outer) fs held (us ++ rest) ≡ run limit least (after_member_decls sc ds ∷ outer) fs (specifiers (list_with so_far l (t.tagged l union name (t.the_members ds)) true false)) rest
unfolding more_members_step
in_body limit t.no_member_decls rds least sc outer so_far l union name fs held has_tag us rest opens p r = absurd (let e = p.0 in cc)
in_body limit (t.and_member_decl ds (t.specifiers k qs) ms) rds least sc outer so_far l union name fs held has_tag us rest opens p r =
    let all = t.and_member_decl ds (t.specifiers k qs) ms in
    let b = body so_far l union name all in
    let d = run limit least (after_member_decls sc all ∷ outer) fs (specifiers (with_body b)) rest in
    before_some (Leads limit least sc outer fs held d) (kinds.Punct puncts.OpenBrace) us rest p.1 (λ m vs pv.
    behind_some (λ ts. run limit least (sc ∷ outer) fs held (token (kinds.Punct puncts.OpenBrace) m ∷ ts) ≡ d) (kinds.Punct puncts.CloseBrace) vs rest pv (λ j zs pz.
    let deep = list_deep qs pz.4.3.0.0 in
    steps limit least sc outer fs held (token (kinds.Punct puncts.OpenBrace) m) (zs ++ token (kinds.Punct puncts.CloseBrace) j ∷ rest) (in_members (body so_far l union name t.no_member_decls) ∷ fs) (specifiers (nothing_listed false)) (opens m ∙ body_goes limit so_far l union name fs (omega (arith, deep, r)))
    ∙ (rds least sc outer so_far l union name fs zs (token (kinds.Punct puncts.CloseBrace) j ∷ rest) pz r
    ∙ steps limit least (after_member_decls sc all) outer fs (more_members b) (token (kinds.Punct puncts.CloseBrace) j) rest fs (specifiers (with_body b)) refl)))

tagged_by : (limit : ℕ) (l : Pos) (union : Bool) (name : Option Name) (ms : t.MaybeMembers) → ReadsMembers_in limit ms → (least : ℕ) (sc : Scope) (outer : Blocks) (so_far : Listing) (fs : List Frame) (us rest : List Token) → (optional_name name ▸ g.members_in_braces sc (is_some name) ms) us → members_depth ms + suc (length fs) ≤ limit → First NoBrace rest
    → run limit least (sc ∷ outer) fs (tag (tag_part so_far l (tag_of union))) (us ++ rest) ≡ run limit least (after_members sc ms ∷ outer) fs (specifiers (list_with so_far l (t.tagged l union name ms) true false)) rest
unfolding tag_step tag_name_step
tagged_by limit l union None t.no_members rms least sc outer so_far fs us rest p r f = absurd (let e = p.4.0 in cc)
tagged_by limit l union None (t.the_members ds) rms least sc outer so_far fs us rest p r f =
    let d = run limit least (after_member_decls sc ds ∷ outer) fs (specifiers (list_with so_far l (t.tagged l union None (t.the_members ds)) true false)) rest in
    let part = tag_part so_far l (tag_of union) in
    split (Leads limit least sc outer fs (tag part) d) us rest p (λ ys zs a pz. subst (λ ts. Leads limit least sc outer fs (tag part) d (ts ++ (zs ++ rest))) (sym a)
    (in_body limit ds rms least sc outer so_far l union None fs (tag part) false zs rest (λ m. refl) pz r))
tagged_by limit l union (Some n) t.no_members rms least sc outer so_far fs us rest p r f =
    let s = list_with so_far l (t.tagged l union (Some n) t.no_members) true false in
    let d = run limit least (sc ∷ outer) fs (specifiers s) rest in
    let part = tag_part so_far l (tag_of union) in
    before_some (Leads limit least sc outer fs (tag part) d) (kinds.Name n) us rest p (λ m zs pz. subst (λ ts. run limit least (sc ∷ outer) fs (tag part) (token (kinds.Name n) m ∷ (ts ++ rest)) ≡ d) (sym pz.1)
    (steps limit least sc outer fs (tag part) (token (kinds.Name n) m) rest fs (tag_name part n) refl
    ∙ (tag_alone limit least sc outer part n fs rest f
    ∙ ap (λ x. run limit least (sc ∷ outer) fs (specifiers x) rest) (with_tag_is so_far l union n))))
tagged_by limit l union (Some n) (t.the_members ds) rms least sc outer so_far fs us rest p r f =
    let d = run limit least (after_member_decls sc ds ∷ outer) fs (specifiers (list_with so_far l (t.tagged l union (Some n) (t.the_members ds)) true false)) rest in
    let part = tag_part so_far l (tag_of union) in
    before_some (Leads limit least sc outer fs (tag part) d) (kinds.Name n) us rest p (λ m zs pz.
    steps limit least sc outer fs (tag part) (token (kinds.Name n) m) (zs ++ rest) fs (tag_name part n) refl
    ∙ in_body limit ds rms least sc outer so_far l union (Some n) fs (tag_name part n) true zs rest (λ m. refl) pz r)

pub reads_tagged : (limit : ℕ) (l : Pos) (union : Bool) (name : Option Name) (ms : t.MaybeMembers) → ReadsMembers_in limit ms → ReadsSpecifier limit (t.tagged l union name ms)
reads_tagged limit l union name ms rms least sc outer so_far fs xs rest p r f =
    before (Leads limit least sc outer fs (specifiers so_far) (run limit least (after_members sc ms ∷ outer) fs (specifiers (list_with so_far l (t.tagged l union name ms) true false)) rest)) l (kinds.Keyword (tag_keyword union)) xs rest p (λ us pu.
    steps limit least sc outer fs (specifiers so_far) (token (kinds.Keyword (tag_keyword union)) l) (us ++ rest) fs (tag (tag_part so_far l (tag_of union))) (tag_goes limit so_far fs l union)
    ∙ tagged_by limit l union name ms rms least sc outer so_far fs us rest pu (omega (arith, r)) f)

in_enum : (limit : ℕ) (es : t.EnumeratorList) → ReadsEnumerators limit es → (least : ℕ) (sc : Scope) (outer : Blocks) (so_far : Listing) (l : Pos) (name : Option Name) (fs : List Frame) (held : Held) (has_tag : Bool) (us rest : List Token) → Opening limit least fs held (goes fs (enumerator (enum_part so_far l name t.no_more_enumerators)))
    → g.enumerators_in_braces sc has_tag (t.the_enumerators es) us → enumerator_list_depth es + suc (length fs) ≤ limit
    → run limit least (sc ∷ outer) fs held (us ++ rest) ≡ run limit least (after_enumerator_list sc es ∷ outer) fs (specifiers (list_with so_far l (t.enum l name (t.the_enumerators es)) true false)) rest
in_enum limit t.no_more_enumerators res least sc outer so_far l name fs held has_tag us rest opens p r = absurd (let e = p.0 in cc)
in_enum limit (t.and_enumerator es k n v) res least sc outer so_far l name fs held has_tag us rest opens p r =
    let all = t.and_enumerator es k n v in
    let d = run limit least (after_enumerator_list sc all ∷ outer) fs (specifiers (list_with so_far l (t.enum l name (t.the_enumerators all)) true false)) rest in
    before_some (Leads limit least sc outer fs held d) (kinds.Punct puncts.OpenBrace) us rest p.1 (λ m vs pv.
    behind_some (λ ts. run limit least (sc ∷ outer) fs held (token (kinds.Punct puncts.OpenBrace) m ∷ ts) ≡ d) (kinds.Punct puncts.CloseBrace) vs rest pv (λ j zs pz.
    steps limit least sc outer fs held (token (kinds.Punct puncts.OpenBrace) m) (zs ++ token (kinds.Punct puncts.CloseBrace) j ∷ rest) fs (enumerator (enum_part so_far l name t.no_more_enumerators)) (opens m)
    ∙ res least sc outer so_far l name fs true j zs rest pz r))

enum_by : (limit : ℕ) (l : Pos) (name : Option Name) (es : t.MaybeEnumerators) → ReadsEnumerators_in limit es → (least : ℕ) (sc : Scope) (outer : Blocks) (so_far : Listing) (fs : List Frame) (us rest : List Token) → (optional_name name ▸ g.enumerators_in_braces sc (is_some name) es) us → enumerators_depth es + suc (length fs) ≤ limit → First NoBrace rest
    → run limit least (sc ∷ outer) fs (tag (tag_part so_far l tags.Enum)) (us ++ rest) ≡ run limit least (after_enumerators sc es ∷ outer) fs (specifiers (list_with so_far l (t.enum l name es) true false)) rest
unfolding tag_step tag_name_step open_body
enum_by limit l None t.no_enumerators res least sc outer so_far fs us rest p r f = absurd (let e = p.4.0 in cc)
enum_by limit l None (t.the_enumerators es) res least sc outer so_far fs us rest p r f =
    let d = run limit least (after_enumerator_list sc es ∷ outer) fs (specifiers (list_with so_far l (t.enum l None (t.the_enumerators es)) true false)) rest in
    let part = tag_part so_far l tags.Enum in
    split (Leads limit least sc outer fs (tag part) d) us rest p (λ ys zs a pz. subst (λ ts. Leads limit least sc outer fs (tag part) d (ts ++ (zs ++ rest))) (sym a)
    (in_enum limit es res least sc outer so_far l None fs (tag part) false zs rest (λ m. refl) pz r))
enum_by limit l (Some n) t.no_enumerators res least sc outer so_far fs us rest p r f =
    let s = list_with so_far l (t.enum l (Some n) t.no_enumerators) true false in
    let d = run limit least (sc ∷ outer) fs (specifiers s) rest in
    let part = tag_part so_far l tags.Enum in
    before_some (Leads limit least sc outer fs (tag part) d) (kinds.Name n) us rest p (λ m zs pz. subst (λ ts. run limit least (sc ∷ outer) fs (tag part) (token (kinds.Name n) m ∷ (ts ++ rest)) ≡ d) (sym pz.1)
    (steps limit least sc outer fs (tag part) (token (kinds.Name n) m) rest fs (tag_name part n) refl
    ∙ tag_alone limit least sc outer part n fs rest f))
enum_by limit l (Some n) (t.the_enumerators es) res least sc outer so_far fs us rest p r f =
    let d = run limit least (after_enumerator_list sc es ∷ outer) fs (specifiers (list_with so_far l (t.enum l (Some n) (t.the_enumerators es)) true false)) rest in
    let part = tag_part so_far l tags.Enum in
    before_some (Leads limit least sc outer fs (tag part) d) (kinds.Name n) us rest p (λ m zs pz.
    steps limit least sc outer fs (tag part) (token (kinds.Name n) m) (zs ++ rest) fs (tag_name part n) refl
    ∙ in_enum limit es res least sc outer so_far l (Some n) fs (tag_name part n) true zs rest (λ m. refl) pz r)

pub reads_enum : (limit : ℕ) (l : Pos) (name : Option Name) (es : t.MaybeEnumerators) → ReadsEnumerators_in limit es → ReadsSpecifier limit (t.enum l name es)
reads_enum limit l name es res least sc outer so_far fs xs rest p r f =
    before (Leads limit least sc outer fs (specifiers so_far) (run limit least (after_enumerators sc es ∷ outer) fs (specifiers (list_with so_far l (t.enum l name es) true false)) rest)) l (kinds.Keyword keywords.Enum) xs rest p (λ us pu.
    steps limit least sc outer fs (specifiers so_far) (token (kinds.Keyword keywords.Enum) l) (us ++ rest) fs (tag (tag_part so_far l tags.Enum)) (enum_goes limit so_far fs l)
    ∙ enum_by limit l name es res least sc outer so_far fs us rest pu (omega (arith, r)) f)

-- a token behind specifiers, where a type specifier stands among them or none
abbrev pub Parted : Bool → Scope → TokenKind → Type 0
Parted typed sc (kinds.Name n) = g.takes_name (g.named typed) (sc n) ≡ true
Parted typed sc (kinds.Keyword keywords.FastCall) = Unit {0}
Parted typed sc (kinds.Keyword keywords.CDecl) = Unit {0}
Parted typed sc (kinds.Punct puncts.Star) = Unit {0}
Parted typed sc (kinds.Punct puncts.OpenParen) = Unit {0}
Parted typed sc (kinds.Punct puncts.OpenBracket) = Unit {0}
Parted typed sc (kinds.Punct puncts.CloseParen) = Unit {0}
Parted typed sc (kinds.Punct puncts.Comma) = Unit {0}
Parted typed sc (kinds.Punct puncts.Colon) = Unit {0}
Parted typed sc (kinds.Punct puncts.Semicolon) = Unit {0}
Parted typed sc _ = ⊥

parted_brace_by : (typed : Bool) (sc : Scope) (k : TokenKind) (l : Pos) → Parted typed sc k → NoBrace (token k l)
parted_brace_by typed sc (kinds.Punct puncts.OpenBrace) l h = h
parted_brace_by typed sc (kinds.Punct _) l h = tt
parted_brace_by typed sc (kinds.Keyword k) l h = tt
parted_brace_by typed sc (kinds.Name n) l h = tt
parted_brace_by typed sc (kinds.Number ty n) l h = tt
parted_brace_by typed sc (kinds.Text bs) l h = tt
parted_brace_by typed sc kinds.End l h = tt

pub parted_brace : (typed : Bool) (sc : Scope) (tok : Token) → Parted typed sc tok.kind → NoBrace tok
parted_brace typed sc tok h = parted_brace_by typed sc tok.kind tok.pos h

pub name_ends : (limit : ℕ) (q : Listing) (fs : List Frame) (l : Pos) (n : Name) (typed is_type : Bool) → q.has_type ≡ typed → g.takes_name (g.named typed) is_type ≡ true → specifiers_step limit q fs l (signs.Name n is_type) ≡ end_specifiers limit q fs l (signs.Name n is_type)
unfolding specifiers_step
name_ends limit q fs l n typed false e h = refl
name_ends limit q fs l n true true e h = ap (λ b. if b then end_specifiers limit q fs l (signs.Name n true) else goes fs (specifiers (with_typedef_name q l n))) e
name_ends limit q fs l n false true e h = absurd cc

kind_ends : (limit : ℕ) (q : Listing) (fs : List Frame) (l : Pos) (typed : Bool) (sc : Scope) (k : TokenKind) → q.has_type ≡ typed → Parted typed sc k → specifiers_step limit q fs l (sign_of_kind sc k) ≡ end_specifiers limit q fs l (sign_of_kind sc k)
unfolding specifiers_step
kind_ends limit q fs l typed sc (kinds.Name n) e h = name_ends limit q fs l n typed (sc n) e h
kind_ends limit q fs l typed sc (kinds.Keyword keywords.FastCall) e h = refl
kind_ends limit q fs l typed sc (kinds.Keyword keywords.CDecl) e h = refl
kind_ends limit q fs l typed sc (kinds.Keyword _) e h = absurd h
kind_ends limit q fs l typed sc (kinds.Punct puncts.Star) e h = refl
kind_ends limit q fs l typed sc (kinds.Punct puncts.OpenParen) e h = refl
kind_ends limit q fs l typed sc (kinds.Punct puncts.OpenBracket) e h = refl
kind_ends limit q fs l typed sc (kinds.Punct puncts.CloseParen) e h = refl
kind_ends limit q fs l typed sc (kinds.Punct puncts.Comma) e h = refl
kind_ends limit q fs l typed sc (kinds.Punct puncts.Colon) e h = refl
kind_ends limit q fs l typed sc (kinds.Punct puncts.Semicolon) e h = refl
kind_ends limit q fs l typed sc (kinds.Punct _) e h = absurd h
kind_ends limit q fs l typed sc (kinds.Number ty n) e h = absurd h
kind_ends limit q fs l typed sc (kinds.Text bs) e h = absurd h
kind_ends limit q fs l typed sc kinds.End e h = absurd h

first_is : (qs : t.SpecifierList) (p : Pos) → first_place p qs ≡ first_or (first_of qs) p
first_is t.no_specifiers p = refl
first_is (t.and_specifier qs q) p = first_is qs (specifier_place q)

pub ended_is : (p : Pos) (qs : t.SpecifierList) (storage : Bool) (l : Pos) → is_empty_list qs ≡ false → first_place p qs ≡ p → ended (listing_of storage qs) l ≡ listed_of (t.specifiers p qs)
ended_is p t.no_specifiers storage l e f = absurd cc
ended_is p (t.and_specifier qs q) storage l e f = ap (λ x. record { tree = t.specifiers x (t.and_specifier qs q); has_type = list_has_type (t.and_specifier qs q); is_typedef = list_is_typedef (t.and_specifier qs q) }) (sym (first_is qs (specifier_place q)) ∙ f)

end_begun : (limit : ℕ) (p : Pos) (qs : t.SpecifierList) (storage : Bool) (f : Frame) (fs : List Frame) (l : Pos) (s : Sign) → is_empty_list qs ≡ false → end_specifiers limit (listing_of storage qs) (f ∷ fs) l s ≡ end_listed limit (ended (listing_of storage qs) l) (f ∷ fs) l s
unfolding end_specifiers
end_begun limit p t.no_specifiers storage f fs l s e = absurd cc
end_begun limit p (t.and_specifier qs q) storage f fs l s e = refl

-- specifiers end before such a token
pub ends_specifiers : (limit : ℕ) (p : Pos) (qs : t.SpecifierList) (storage : Bool) (f : Frame) (fs : List Frame) (l : Pos) (sc : Scope) (k : TokenKind) → is_empty_list qs ≡ false → first_place p qs ≡ p → Parted (list_has_type qs) sc k
    → specifiers_step limit (listing_of storage qs) (f ∷ fs) l (sign_of_kind sc k) ≡ end_listed limit (listed_of (t.specifiers p qs)) (f ∷ fs) l (sign_of_kind sc k)
ends_specifiers limit p qs storage f fs l sc k e place h = kind_ends limit (listing_of storage qs) (f ∷ fs) l (list_has_type qs) sc k refl h
    ∙ (end_begun limit p qs storage f fs l (sign_of_kind sc k) e
    ∙ ap (λ q. end_listed limit q (f ∷ fs) l (sign_of_kind sc k)) (ended_is p qs storage l e place))
