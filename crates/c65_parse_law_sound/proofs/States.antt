-- What the machine has read, in each of its states.
use Rattle.std.proofs.Common.{◌≡◌, ℕ, List, [], ◌∷◌, ◌++◌, Bool, true, false}
use Rattle.std.specs.Prelude.{Option, None, is_some}
use Rattle.c65_base.specs.declared.names.Name.{Name}
use Rattle.c65_base.specs.declared.refusal.Pos.{Pos}
use Rattle.c65_scan.specs.declared.token.Keyword.TheVariants as keywords
use Rattle.c65_scan.specs.declared.token.Punct.TheVariants as puncts
use Rattle.c65_scan.specs.declared.token.Token.{Token}
use Rattle.c65_scan.specs.declared.token.TokenKind.TheVariants as kinds
use Rattle.c65_tree.specs.Trees as t
use Rattle.c65_parse_names.specs.Scopes.{Blocks}
use Rattle.c65_parse.specs.Frames.{Frame, Held, Done, Next, go, stop, deep, fail, operand, opened, sizeof_word, sizeof_opened, called, dotted, have_expr, specifiers, tag, tag_name, more_members, member, enumerator, enumerator_name, declarator, qualifiers, opened_declarator, have_declarator, opened_bound, opened_params, more_params, ellipsis, names, names_end, done_expr, done_specifiers, done_declarator}
use Rattle.c65_parse.specs.Expressions.{hole}
use Rattle.c65_parse.specs.Declarators.{is_optional}
use Rattle.c65_parse.specs.Machine.{changed}
use Rattle.c65_parse_grammar.specs.Phrases.{Phrase, ◌▸◌, given, one, some, word, mark, some_mark}
use Rattle.c65_parse_grammar.specs.Spellings as spell
use Rattle.c65_parse_grammar.specs.Spellings.{member_punct}
use Rattle.c65_parse_grammar.specs.Parts.{is_nameless, is_direct, declared_name}
use Rattle.c65_parse_grammar.specs.Scopes.{Scope, after, after_list, after_declarator, after_specifiers}
use Rattle.c65_parse_grammar.specs.Expressions as g
use Rattle.c65_parse_grammar.specs.Expressions.{is_no_member_decl}
use Rattle.c65_parse_law_sound.specs.Derived.{sort_of}
use Rattle.c65_parse_law_sound.proofs.Places.{Start, body_scope, member_scope, enum_scope, params_scope, scope_at, outer_at, sort_at, storage_at, listing, tag_front, body_front, member_front, enum_front, suffix_front, more_params_front, names_front, tight, fronts, Suits, SuitsTree, NoGroup, Stand}

-- the blocks behind what is held
abbrev pub blocks_behind : Scope → Blocks → Held → Blocks
blocks_behind b outer operand = b ∷ outer
blocks_behind b outer (opened l) = b ∷ outer
blocks_behind b outer (sizeof_word l) = b ∷ outer
blocks_behind b outer (sizeof_opened l k) = b ∷ outer
blocks_behind b outer (called l e) = after b e ∷ outer
blocks_behind b outer (dotted l arrow e) = after b e ∷ outer
blocks_behind b outer (have_expr e) = after b e ∷ outer
blocks_behind b outer (specifiers q) = after_list b q.items ∷ outer
blocks_behind b outer (tag part) = after_list b part.outer.items ∷ outer
blocks_behind b outer (tag_name part n) = after_list b part.outer.items ∷ outer
blocks_behind b outer (more_members body) = body_scope b body ∷ outer
blocks_behind b outer (member part) = member_scope b part ∷ outer
blocks_behind b outer (enumerator part) = enum_scope b part ∷ outer
blocks_behind b outer (enumerator_name part n l) = enum_scope b part ∷ outer
blocks_behind b outer (declarator sort) = b ∷ outer
blocks_behind b outer (qualifiers l c v sort) = b ∷ outer
blocks_behind b outer (opened_declarator l sort) = b ∷ outer
blocks_behind b outer (have_declarator d) = after_declarator b d ∷ outer
blocks_behind b outer (opened_bound l d) = after_declarator b d ∷ outer
blocks_behind b outer (opened_params l d) = after_declarator b d ∷ outer
blocks_behind b outer (more_params part) = params_scope b part ∷ after_declarator b part.declarator ∷ outer
blocks_behind b outer (ellipsis part) = params_scope b part ∷ after_declarator b part.declarator ∷ outer
blocks_behind b outer (names part) = after_declarator b part.declarator ∷ outer
blocks_behind b outer (names_end part) = after_declarator b part.declarator ∷ outer

-- before a token at any place
abbrev pub anywhere : g.Sort → Scope → t.DeclaratorTree → Phrase
anywhere s b d ts = (l : Pos) → g.declarator s b l d ts

-- the tokens since the innermost construct was begun
abbrev pub held_front : ℕ → g.Sort → Scope → Held → Phrase
held_front least s b operand = λ ts. ts ≡ []
held_front least s b (opened l) = mark l puncts.OpenParen
held_front least s b (sizeof_word l) = word l keywords.Sizeof
held_front least s b (sizeof_opened l k) = word l keywords.Sizeof ▸ mark k puncts.OpenParen
held_front least s b (called l e) = tight 15 b e ▸ mark l puncts.OpenParen
held_front least s b (dotted l arrow e) = tight 15 b e ▸ mark l (member_punct arrow)
held_front least s b (have_expr e) = tight least b e
held_front least s b (specifiers q) = listing b q
held_front least s b (tag part) = tag_front b part
held_front least s b (tag_name part n) = tag_front b part ▸ some (kinds.Name n)
held_front least s b (more_members body) = given (is_no_member_decl body.decls ≡ false) (body_front b body)
held_front least s b (member part) = member_front b part
held_front least s b (enumerator part) = enum_front b part
held_front least s b (enumerator_name part n l) = enum_front b part ▸ one l (kinds.Name n)
held_front least s b (declarator sort) = λ ts. ts ≡ []
held_front least s b (qualifiers l c v sort) = mark l puncts.Star ▸ spell.qualifiers c v
held_front least s b (opened_declarator l sort) = mark l puncts.OpenParen
held_front least s b (have_declarator d) = anywhere s b d
held_front least s b (opened_bound l d) = given (is_direct d ≡ true) (g.declarator s b l d) ▸ mark l puncts.OpenBracket
held_front least s b (opened_params l d) = suffix_front s b l d
held_front least s b (more_params part) = more_params_front s b part
held_front least s b (ellipsis part) = more_params_front s b part ▸ some_mark puncts.Ellipsis
held_front least s b (names part) = names_front s b part ▸ some_mark puncts.Comma
held_front least s b (names_end part) = names_front s b part

-- where nothing was read since, the tokens are those of what is open
abbrev pub all_read : Start → List Frame → Held → Phrase
all_read w fs operand = fronts w fs
all_read w fs (declarator sort) = fronts w fs
all_read w fs h = fronts w fs ▸ held_front (hole w.least fs) (sort_at w fs) (scope_at w fs) h

-- what is held owes to what is open
abbrev pub Fits : Start → List Frame → Held → Type 0
Fits w fs (specifiers q) = q.takes_storage ≡ storage_at w fs
Fits w fs (tag part) = part.outer.takes_storage ≡ storage_at w fs
Fits w fs (tag_name part n) = part.outer.takes_storage ≡ storage_at w fs
Fits w fs (more_members body) = body.outer.takes_storage ≡ storage_at w fs
Fits w fs (member part) = part.body.outer.takes_storage ≡ storage_at w fs
Fits w fs (enumerator part) = part.outer.takes_storage ≡ storage_at w fs
Fits w fs (enumerator_name part n l) = part.outer.takes_storage ≡ storage_at w fs
Fits w fs (declarator sort) = (sort_of sort ≡ sort_at w fs) × ((l : Pos) (n : Option Name) → Suits w fs l n) × (is_optional sort ≡ true → NoGroup fs)
Fits w fs (qualifiers l c v sort) = (sort_of sort ≡ sort_at w fs) × Suits w fs l None
Fits w fs (opened_declarator l sort) = (sort_of sort ≡ sort_at w fs) × Suits w fs l None × (is_optional sort ≡ true)
Fits w fs (have_declarator d) = SuitsTree w fs d × (is_direct d ≡ true) × (is_nameless d ≡ false)
Fits w fs (opened_bound l d) = SuitsTree w fs d
Fits w fs (opened_params l d) = SuitsTree w fs d
Fits w fs (more_params part) = SuitsTree w fs part.declarator
Fits w fs (ellipsis part) = SuitsTree w fs part.declarator
Fits w fs (names part) = SuitsTree w fs part.declarator × (is_some (declared_name part.declarator) ≡ true)
Fits w fs (names_end part) = SuitsTree w fs part.declarator × (is_some (declared_name part.declarator) ≡ true)
Fits w fs _ = Unit {0}

pub record Holds (w : Start) (fs : List Frame) (h : Held) (scope : Blocks) (front : List Token) : Type 0 where
  pub scope_is : scope ≡ blocks_behind (scope_at w fs) (outer_at w fs) h
  pub stand : Stand w fs
  pub fits : Fits w fs h
  pub reads : all_read w fs h front

-- specifiers, or none before a token at this place
abbrev pub some_or_none : Scope → Bool → Pos → t.SpecifiersTree → Phrase
some_or_none b storage l (t.specifiers k t.no_specifiers) = given (k ≡ l) (λ ts. ts ≡ [])
some_or_none b storage l (t.specifiers k (t.and_specifier qs q)) = g.specifiers b storage (t.specifiers k (t.and_specifier qs q))

-- a tree that has ended before a token at this place
abbrev pub Ended : Start → Done → Pos → Blocks → Phrase
Ended w (done_expr e) l scope = given (scope ≡ after w.scope e ∷ w.outer) (tight w.least w.scope e)
Ended w (done_specifiers q) l scope = given (scope ≡ after_specifiers w.scope q.tree ∷ w.outer) (some_or_none w.scope w.storage l q.tree)
Ended w (done_declarator d) l scope = given (scope ≡ after_declarator w.scope d ∷ w.outer) (g.declarator w.sort w.scope l d)

-- what a step leads to stands as it should
abbrev pub Good : Start → List Token → Token → Blocks → Next → Type 0
Good w front tok scope (go fs h change) = Holds w fs h (changed change scope) (front ++ tok ∷ [])
Good w front tok scope (stop done) = Ended w done tok.pos scope front
Good w front tok scope deep = Unit {0}
Good w front tok scope fail = Unit {0}
