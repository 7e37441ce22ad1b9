-- Behind a member and behind an enumerator.
use Rattle.std.proofs.Common.{◌≡◌, List, [], ◌∷◌, Bool, true, false, refl, sym, ap, ◌∙◌, subst}
use Rattle.std.specs.Prelude.{◌||◌}
use Rattle.c65_base.specs.declared.names.Name.{Name}
use Rattle.c65_base.specs.declared.refusal.Pos.{Pos}
use Rattle.c65_scan.specs.declared.token.Keyword.TheVariants as keywords
use Rattle.c65_scan.specs.declared.token.Punct.TheVariants as puncts
use Rattle.c65_scan.specs.declared.token.Token.{Token}
use Rattle.c65_tree.specs.Trees as t
use Rattle.c65_parse_trees.specs.declared.sign.Sign.{Sign}
use Rattle.c65_parse_trees.specs.declared.sign.Sign.TheVariants as signs
use Rattle.c65_parse_trees.specs.Listings.{Listing, MembersPart, EnumPart, first_or, list_with, with_enum}
use Rattle.c65_parse_names.specs.Scopes.{Blocks, with_declared}
use Rattle.c65_parse.specs.Frames.{Frame}
use Rattle.c65_parse.specs.Expressions.{with_decl, close_member, close_enumerator}
use Rattle.c65_parse_grammar.specs.Phrases.{◌▸◌, word, some_mark}
use Rattle.c65_parse_grammar.specs.Spellings.{optional_name, comma_unless}
use Rattle.c65_parse_grammar.specs.Parts.{list_has_type, list_is_typedef, has_type, specifier_place, is_type_specifier, is_typedef_specifier}
use Rattle.c65_parse_grammar.specs.Scopes.{Scope, after_list, after_specifiers}
use Rattle.c65_parse_grammar.specs.Expressions as g
use Rattle.c65_parse_grammar.specs.Expressions.{is_no_member, is_no_enumerator}
use Rattle.c65_parse_law_sound.proofs.Phrases.{regroup, map_left, map_right, attach, is_some_one}
use Rattle.c65_parse_law_sound.proofs.Says.{Says}
use Rattle.c65_parse_law_alike.proofs.Alike.{either_is}
use Rattle.c65_parse_law_sound.proofs.Places.{Start, body_scope, member_scope, enum_scope, scope_at, outer_at, storage_at, IsListing, listing, listed, body_front, fronts, Stand}
use Rattle.c65_parse_law_sound.proofs.States.{Good}

pub comma_after : (first : Bool) (tok : Token) → first ≡ false → some_mark puncts.Comma (tok ∷ []) → comma_unless first (tok ∷ [])
comma_after first tok e h = subst (λ b. comma_unless b (tok ∷ [])) (sym e) h

-- the last member has just ended
pub record MemberRead (w : Start) (fs : List Frame) (part : MembersPart) (scope : Blocks) (front : List Token) : Type 0 where
  pub scope_is : scope ≡ member_scope (scope_at w fs) part ∷ outer_at w fs
  pub stand : Stand w fs
  pub storage : part.body.outer.takes_storage ≡ storage_at w fs
  pub some : is_no_member part.members ≡ false
  pub reads : (fronts w fs ▸ ((body_front (scope_at w fs) part.body ▸ listed (body_scope (scope_at w fs) part.body) false part.specifiers) ▸ g.members (after_specifiers (body_scope (scope_at w fs) part.body) part.specifiers.tree) (has_type part.specifiers.tree) part.members)) front

-- one more declaration of members
decl_built : (b : Scope) (part : MembersPart) (ts : List Token) → is_no_member part.members ≡ false
    → (((body_front b part.body ▸ listed (body_scope b part.body) false part.specifiers) ▸ g.members (after_specifiers (body_scope b part.body) part.specifiers.tree) (has_type part.specifiers.tree) part.members) ▸ some_mark puncts.Semicolon) ts
    → body_front b (with_decl part) ts
decl_built b part ts some p = map_right (λ xs q. map_right (λ ys r. (r.0, r.1, r.2, r.3.1, map_left (λ zs s. (some, s)) r.4)) q) (regroup (regroup (regroup p)))

pub member_good : (w : Start) (fs : List Frame) (part : MembersPart) (front : List Token) (tok : Token) (scope : Blocks) (sc : Scope) (sign : Sign) → Says sc sign tok.kind → MemberRead w fs part scope front → Good w front tok scope (close_member part fs sign)
unfolding close_member
member_good w fs part front tok scope sc signs.Comma s h = record {
  scope_is = h.scope_is;
  stand = h.stand;
  fits = h.storage;
  reads = map_right (λ xs q. regroup q) (attach _ _ h.reads (comma_after _ tok h.some (is_some_one tok _ s)));
}
member_good w fs part front tok scope sc signs.Semicolon s h = record {
  scope_is = h.scope_is;
  stand = h.stand;
  fits = h.storage;
  reads = map_right (λ xs q. (refl, decl_built (scope_at w fs) part xs h.some q)) (attach _ _ h.reads (is_some_one tok _ s));
}
member_good w fs part front tok scope sc _ s h = tt

-- one more specifier, which is a type
pub listing_with : (q : Listing) (l : Pos) (item : t.SpecifierTree) (is_type is_typedef : Bool) → IsListing q → specifier_place item ≡ l → is_type ≡ is_type_specifier item → is_typedef ≡ is_typedef_specifier item → IsListing (list_with q l item is_type is_typedef)
listing_with q l item is_type is_typedef h place typed typedefs = record {
  first = λ k. h.first (specifier_place item) ∙ ap (first_or q.first) place;
  typed = either_is q.has_type is_type ∙ (ap (λ x. x || is_type) h.typed ∙ ap (λ x. list_has_type q.items || x) typed);
  typedefs = either_is q.is_typedef is_typedef ∙ (ap (λ x. x || is_typedef) h.typedefs ∙ ap (λ x. list_is_typedef q.items || x) typedefs);
  begun = refl;
}

-- the last enumerator has just ended, and is not declared
pub record EnumeratorRead (w : Start) (fs : List Frame) (part : EnumPart) (n : Name) (scope : Blocks) (front : List Token) : Type 0 where
  pub scope_is : with_declared n false scope ≡ enum_scope (scope_at w fs) part ∷ outer_at w fs
  pub stand : Stand w fs
  pub storage : part.outer.takes_storage ≡ storage_at w fs
  pub some : is_no_enumerator part.enumerators ≡ false
  pub reads : (fronts w fs ▸ ((((listing (scope_at w fs) part.outer ▸ word part.pos keywords.Enum) ▸ optional_name part.tag) ▸ some_mark puncts.OpenBrace) ▸ g.enumerators (after_list (scope_at w fs) part.outer.items) part.enumerators)) front

enum_built : (b : Scope) (part : EnumPart) (ts : List Token) → is_no_enumerator part.enumerators ≡ false
    → (((((listing b part.outer ▸ word part.pos keywords.Enum) ▸ optional_name part.tag) ▸ some_mark puncts.OpenBrace) ▸ g.enumerators (after_list b part.outer.items) part.enumerators) ▸ some_mark puncts.CloseBrace) ts
    → listing b (with_enum part) ts
enum_built b part ts some p =
    let q = regroup (regroup (regroup (regroup p))) in (
      listing_with part.outer part.pos _ true false q.3.0 refl refl refl,
      (q.0, q.1, q.2, q.3.1, map_right (λ xs r. map_right (λ ys u. (some, u)) r) q.4),
    )

pub enumerator_good : (w : Start) (fs : List Frame) (part : EnumPart) (n : Name) (front : List Token) (tok : Token) (scope : Blocks) (sc : Scope) (sign : Sign) → Says sc sign tok.kind → EnumeratorRead w fs part n scope front → Good w front tok scope (close_enumerator part n fs sign)
unfolding close_enumerator
enumerator_good w fs part n front tok scope sc signs.Comma s h = record {
  scope_is = h.scope_is;
  stand = h.stand;
  fits = h.storage;
  reads = map_right (λ xs q. regroup q) (attach _ _ h.reads (comma_after _ tok h.some (is_some_one tok _ s)));
}
enumerator_good w fs part n front tok scope sc signs.CloseBrace s h = record {
  scope_is = h.scope_is;
  stand = h.stand;
  fits = h.storage;
  reads = map_right (λ xs q. enum_built (scope_at w fs) part xs h.some q) (attach _ _ h.reads (is_some_one tok _ s));
}
enumerator_good w fs part n front tok scope sc _ s h = tt
