-- Where a declarator is begun, and behind it.
use Rattle.std.proofs.Common.{◌≡◌, ℕ, List, [], ◌∷◌, Bool, true, false, refl, sym, ap, ◌∙◌, subst, arith}
use Rattle.std.proofs.lemmas.List.{append-nil}
use Rattle.std.specs.Prelude.{Option, None, Some, if◌then◌else◌}
use Rattle.c65_base.specs.declared.names.Name.{Name}
use Rattle.c65_base.specs.declared.refusal.Pos.{Pos}
use Rattle.c65_scan.specs.declared.token.Punct.TheVariants as puncts
use Rattle.c65_scan.specs.declared.token.Token.{Token}
use Rattle.c65_scan.specs.declared.token.TokenKind.TheVariants as kinds
use Rattle.c65_tree.specs.Trees as t
use Rattle.c65_parse_trees.specs.declared.sign.Sign.{Sign}
use Rattle.c65_parse_trees.specs.declared.sign.Sign.TheVariants as signs
use Rattle.c65_parse_trees.specs.Names
use Rattle.c65_parse_trees.specs.Listings.{Listed, MembersPart, ParamsPart}
use Rattle.c65_parse_names.specs.Scopes.{Blocks, closed}
use Rattle.c65_parse.specs.declared.frame.Derivation.{Derivation}
use Rattle.c65_parse.specs.declared.frame.Derivation.TheVariants as derivations
use Rattle.c65_parse.specs.declared.frame.Sort.{Sort}
use Rattle.c65_parse.specs.declared.frame.Sort.TheVariants as sorts
use Rattle.c65_parse.specs.declared.frame.TypeUse.{TypeUse}
use Rattle.c65_parse.specs.declared.frame.TypeUse.TheVariants as uses
use Rattle.c65_parse.specs.Frames.{Frame, in_type_declarator, in_member, in_param, in_group, in_derived, declarator, qualifiers, have_declarator, opened_declarator, opened_bound, opened_params}
use Rattle.c65_parse.specs.Expressions.{goes, with_member}
use Rattle.c65_parse.specs.Declarators as machine
use Rattle.c65_parse.specs.Declarators.{is_optional, derived, is_derived, plug_declarator, reduce_declarator, close_group, with_type, close_type, declares, close_param, close_member_declarator, close_declarator, declarator_end, without_name, open_group, declarator_step}
use Rattle.c65_parse.specs.Machine.{changed}
use Rattle.c65_parse_grammar.specs.Phrases.{Phrase, ◌▸◌, at_some, mark}
use Rattle.c65_parse_grammar.specs.Parts.{declarator_start, first_name, is_nameless, is_direct, declared_name, has_type}
use Rattle.c65_parse_grammar.specs.Scopes.{Scope, after_declarator, after_specifiers, declare_maybe}
use Rattle.c65_parse_grammar.specs.Expressions as g
use Rattle.c65_parse_grammar.specs.Expressions.{may_lack, takes_name, begins_with_type, groups}
use Rattle.c65_parse_law_sound.proofs.Phrases.{both, regroup, ungroup, map_left, map_right, attach, is_one, is_some_one, behind_nothing, true_false}
use Rattle.c65_parse_law_sound.proofs.Says.{Says}
use Rattle.c65_parse_law_alike.proofs.Alike.{name_is}
use Rattle.c65_parse_law_sound.specs.Derived.{sort_of}
use Rattle.c65_parse_law_sound.proofs.Places.{Start, member_scope, params_scope, scope_at, outer_at, sort_at, listed, member_front, suffix_front, params_front, type_front, fronts, lacks, Suits, SuitsTree, Stand}
use Rattle.c65_parse_law_sound.proofs.States.{Good}
use Rattle.c65_parse_law_sound.proofs.Operands.{good_within, good_if, hole_low}
use Rattle.c65_parse_law_sound.proofs.Members.{MemberRead, member_good}
use Rattle.c65_parse_law_sound.proofs.Exprs.{at_start}

-- the name of the token, if it is the first
abbrev pub MayBegin : Option Name → Sign → Type 0
MayBegin None sign = Unit {0}
MayBegin (Some n) (signs.Name m is_type) = m ≡ n
MayBegin (Some n) _ = ⊥

-- a parenthesis does not close a group at once
abbrev pub Bare : List Frame → Sign → Type 0
Bare (in_group l ∷ fs) signs.Close = ⊥
Bare _ _ = Unit {0}

abbrev pub Closes : List Frame → Sign → t.DeclaratorTree → Type 0
Closes (in_group l ∷ fs) signs.Close d = is_nameless d ≡ false
Closes _ _ d = Unit {0}

pub closes_named : (fs : List Frame) (sign : Sign) (d : t.DeclaratorTree) → is_nameless d ≡ false → Closes fs sign d
closes_named (in_group l ∷ fs) signs.Close d h = h
closes_named _ _ d h = tt

closes_bare : (fs : List Frame) (sign : Sign) (d : t.DeclaratorTree) → Bare fs sign → Closes fs sign d
closes_bare (in_group l ∷ fs) signs.Close d h = absurd h
closes_bare _ _ d h = tt

-- a declarator is needed at this token
pub record Needs (w : Start) (fs : List Frame) (sort : Sort) (sign : Sign) (l : Pos) (scope : Blocks) (front : List Token) : Type 0 where
  pub scope_is : scope ≡ scope_at w fs ∷ outer_at w fs
  pub stand : Stand w fs
  pub sort_is : sort_of sort ≡ sort_at w fs
  pub suits : (n : Option Name) → MayBegin n sign → Suits w fs l n
  pub bare : is_optional sort ≡ true → Bare fs sign
  pub reads : fronts w fs front

-- a declarator ends before this token
pub record Whole (w : Start) (fs : List Frame) (d : t.DeclaratorTree) (sign : Sign) (l : Pos) (scope : Blocks) (front : List Token) : Type 0 where
  pub scope_is : scope ≡ after_declarator (scope_at w fs) d ∷ outer_at w fs
  pub stand : Stand w fs
  pub suits : SuitsTree w fs d
  pub closes : Closes fs sign d
  pub reads : (fronts w fs ▸ g.declarator (sort_at w fs) (scope_at w fs) l d) front

derived_holds : (w : Start) (k : Pos) (how : Derivation) (fs : List Frame) (d : t.DeclaratorTree) (sign : Sign) (l : Pos) (scope : Blocks) (front : List Token) → Whole w (in_derived k how ∷ fs) d sign l scope front → Whole w fs (derived k how d) sign l scope front
derived_holds w k (derivations.Pointer constant volatile) fs d sign l scope front h = record {
  scope_is = h.scope_is;
  stand = h.stand.1;
  suits = h.stand.0;
  closes = closes_named fs sign (t.pointer k constant volatile d) refl;
  reads = map_right (λ xs p. regroup p) (regroup h.reads);
}
derived_holds w k (derivations.Calling cdecl) fs d sign l scope front h = record {
  scope_is = h.scope_is;
  stand = h.stand.1;
  suits = h.stand.0;
  closes = closes_named fs sign (t.calling k cdecl d) refl;
  reads = regroup h.reads;
}

pick_whole : (w : Start) (f : Frame) (fs : List Frame) (d : t.DeclaratorTree) (sign : Sign) (l : Pos) (scope : Blocks) (front : List Token) (r : t.DeclaratorTree × List Frame)
    → Whole w (f ∷ fs) d sign l scope front → (Whole w fs (plug_declarator f d) sign l scope front → Whole w r.1 r.0 sign l scope front)
    → Whole w (if is_derived f then r else (d, f ∷ fs)).1 (if is_derived f then r else (d, f ∷ fs)).0 sign l scope front
pick_whole w (in_derived k how) fs d sign l scope front r h f = f (derived_holds w k how fs d sign l scope front h)
pick_whole w _ fs d sign l scope front r h f = h

reduce_whole : (w : Start) (d : t.DeclaratorTree) (fs : List Frame) (sign : Sign) (l : Pos) (scope : Blocks) (front : List Token) → Whole w fs d sign l scope front → Whole w (reduce_declarator d fs).1 (reduce_declarator d fs).0 sign l scope front
reduce_whole w d [] sign l scope front h = h
reduce_whole w d (f ∷ fs) sign l scope front h = pick_whole w f fs d sign l scope front (reduce_declarator (plug_declarator f d) fs) h (reduce_whole w (plug_declarator f d) fs sign l scope front)

is_group : (s : g.Sort) (sc : Scope) (d : t.DeclaratorTree) → is_nameless d ≡ false → lacks s sc (first_name d) ≡ true → groups s sc d ≡ true
is_group s sc d named h = ap (λ b. if b then false else lacks s sc (first_name d)) named ∙ h

group_good : (w : Start) (k : Pos) (d : t.DeclaratorTree) (fs : List Frame) (front : List Token) (tok : Token) (scope : Blocks) (sc : Scope) (sign : Sign) → Says sc sign tok.kind → Whole w (in_group k ∷ fs) d sign tok.pos scope front → Good w front tok scope (close_group k d fs sign)
group_good w k d fs front tok scope sc signs.Close s h = record {
  scope_is = h.scope_is;
  stand = h.stand.1;
  fits = (h.stand.0, refl, refl);
  reads = map_right (λ xs p l. (is_group (sort_at w fs) (scope_at w fs) d h.closes h.suits, map_right (λ ys q. (tok.pos, q)) (regroup p))) (attach _ _ (regroup h.reads) (is_one tok _ s));
}
group_good w k d fs front tok scope sc _ s h = tt

-- the type name in its parentheses
type_built : (A : Phrase) (b : Scope) (q : t.SpecifiersTree) (d : t.DeclaratorTree) (l : Pos) (ts : List Token) → (((A ▸ g.specifiers b false q) ▸ g.declarator g.abstract (after_specifiers b q) l d) ▸ mark l puncts.CloseParen) ts → (A ▸ at_some (λ k. g.type_name b k (t.type_name q d) ▸ mark k puncts.CloseParen)) ts
type_built A b q d l ts p = map_right (λ xs r. (l, ungroup r)) (regroup (regroup p))

with_type_good : (w : Start) (k : Pos) (purpose : TypeUse) (q : t.SpecifiersTree) (d : t.DeclaratorTree) (fs : List Frame) (front : List Token) (tok : Token) (scope : Blocks) (sign : Sign) → tok.kind ≡ kinds.Punct puncts.CloseParen → Whole w (in_type_declarator k purpose q ∷ fs) d sign tok.pos scope front → Good w front tok scope (with_type k purpose (t.type_name q d) fs)
with_type_good w k uses.Cast q d fs front tok scope sign s h = record {
  scope_is = h.scope_is;
  stand = (h.stand.0, h.stand.1);
  fits = tt;
  reads = map_right (λ xs p. type_built (type_front k uses.Cast) (scope_at w fs) q d tok.pos xs p) (attach _ _ (regroup h.reads) (is_one tok _ s));
}
with_type_good w k uses.Sizeof q d fs front tok scope sign s h =
    let low = hole_low w fs h.stand.1 in
    record {
      scope_is = h.scope_is;
      stand = h.stand.1;
      fits = tt;
      reads = map_right (λ xs p. (omega (arith, low), regroup (type_built (type_front k uses.Sizeof) (scope_at w fs) q d tok.pos xs p))) (attach _ _ (regroup h.reads) (is_one tok _ s));
    }

type_good : (w : Start) (k : Pos) (purpose : TypeUse) (q : t.SpecifiersTree) (d : t.DeclaratorTree) (fs : List Frame) (front : List Token) (tok : Token) (scope : Blocks) (sc : Scope) (sign : Sign) → Says sc sign tok.kind → Whole w (in_type_declarator k purpose q ∷ fs) d sign tok.pos scope front → Good w front tok scope (close_type k purpose q d fs sign)
type_good w k purpose q d fs front tok scope sc signs.Close s h = with_type_good w k purpose q d fs front tok scope signs.Close s h
type_good w k purpose q d fs front tok scope sc _ s h = tt

-- one more parameter
param_built : (s : g.Sort) (b : Scope) (part : ParamsPart) (q : Listed) (d : t.DeclaratorTree) (l : Pos) (ts : List Token)
    → ((params_front s b part ▸ listed (params_scope b part) true q) ▸ g.declarator (g.param q.has_type) (after_specifiers (params_scope b part) q.tree) l d) ts
    → (suffix_front s b part.pos part.declarator ▸ g.param_list (after_declarator b part.declarator) l (t.and_param part.params q.tree d)) ts
param_built s b part q d l ts p = map_right (λ xs r. map_right (λ ys u. map_left (λ zs v. v.1) (map_right (λ zs v. subst (λ ty. g.declarator (g.param ty) (after_specifiers (params_scope b part) q.tree) l d zs) u.3.0.typed v) u)) r) (regroup (regroup p))

declared_changed : (o : Option Name) (is_type : Bool) (b : Scope) (outer : Blocks) → changed (declares o is_type) (b ∷ outer) ≡ declare_maybe o is_type b ∷ outer
declared_changed None is_type b outer = refl
declared_changed (Some n) is_type b outer = refl

param_good : (w : Start) (part : ParamsPart) (q : Listed) (d : t.DeclaratorTree) (fs : List Frame) (front : List Token) (tok : Token) (scope : Blocks) (sc : Scope) (sign : Sign) → Says sc sign tok.kind → Whole w (in_param part q ∷ fs) d sign tok.pos scope front → Good w front tok scope (close_param part q d fs sign)
unfolding close_param
param_good w part q d fs front tok scope sc signs.Comma s h =
    let is = h.reads.3.4.4.0 in
    let inner = after_declarator (after_specifiers (params_scope (scope_at w fs) part) q.tree) d in
    let outer = after_declarator (scope_at w fs) part.declarator ∷ outer_at w fs in
    record {
      scope_is = ap (changed (declares (Names.declared_name d) q.is_typedef)) h.scope_is ∙ (declared_changed (Names.declared_name d) q.is_typedef inner outer ∙ (ap (λ o. declare_maybe o q.is_typedef inner ∷ outer) (name_is d) ∙ ap (λ ty. declare_maybe (declared_name d) ty inner ∷ outer) is.typedefs));
      stand = h.stand.1;
      fits = h.stand.0;
      reads = map_right (λ xs p. map_right (λ ys r. (refl, (tok.pos, r))) (regroup p)) (attach _ _ (map_right (param_built (sort_at w fs) (scope_at w fs) part q d tok.pos) (regroup h.reads)) (is_one tok _ s));
    }
param_good w part q d fs front tok scope sc signs.Close s h = record {
  scope_is = ap closed h.scope_is;
  stand = h.stand.1;
  fits = (h.stand.0, refl, refl);
  reads = map_right (λ xs p l. map_right (λ ys r. map_right (λ zs u. (refl, (tok.pos, u))) r) (regroup (regroup p))) (attach _ _ (map_right (param_built (sort_at w fs) (scope_at w fs) part q d tok.pos) (regroup h.reads)) (is_one tok _ s));
}
param_good w part q d fs front tok scope sc _ s h = tt

-- where the name must stand, the token behind does not matter
pub any_place : (s : g.Sort) (sc : Scope) (d : t.DeclaratorTree) (k l : Pos) (ts : List Token) → may_lack s ≡ false → g.declarator s sc k d ts → g.declarator s sc l d ts
any_place s sc (t.nameless m) k l ts e p = absurd (true_false (sym p.0.0 ∙ e))
any_place s sc (t.named m n) k l ts e p = p
any_place s sc (t.grouped m d) k l ts e p = p
any_place s sc (t.calling m cdecl d) k l ts e p = map_right (λ xs q. any_place s sc d k l xs e q) p
any_place s sc (t.pointer m c v d) k l ts e p = map_right (λ xs q. map_right (λ ys r. any_place s sc d k l ys e r) q) p
any_place s sc (t.array m d n) k l ts e p = p
any_place s sc (t.function m d ps) k l ts e p = p

-- the declarator of a member, behind those before it
member_built : (b : Scope) (part : MembersPart) (first : Pos) (has_width : Bool) (d : t.DeclaratorTree) (l : Pos) (ts : List Token) → declarator_start d ≡ first
    → (member_front b part ▸ g.declarator (g.member part.specifiers.has_type) (member_scope b part) l d) ts
    → (member_front b part ▸ g.member_declarator (member_scope b part) (has_type part.specifiers.tree) first has_width (t.a_declarator d)) ts
member_built b part first has_width d l ts e p = map_right (λ xs q. (e, any_place (g.member (has_type part.specifiers.tree)) (member_scope b part) d l first xs refl (subst (λ ty. g.declarator (g.member ty) (member_scope b part) l d xs) p.3.3.4.0.typed q))) p

member_read : (w : Start) (part : MembersPart) (first : Pos) (d : t.DeclaratorTree) (fs : List Frame) (sign : Sign) (l : Pos) (scope : Blocks) (front : List Token) → Whole w (in_member part first ∷ fs) d sign l scope front → MemberRead w fs (with_member part first (t.a_declarator d) t.no_expr) scope front
member_read w part first d fs sign l scope front h = record {
  scope_is = h.scope_is;
  stand = h.stand.1;
  storage = h.stand.0;
  some = refl;
  reads = map_right (λ xs p. map_right (λ ys q. map_right (λ zs r. map_right (λ vs u. behind_nothing u) r) (regroup q)) (regroup (member_built (scope_at w fs) part first false d l xs h.suits p))) (regroup h.reads);
}

member_declarator_good : (w : Start) (part : MembersPart) (first : Pos) (d : t.DeclaratorTree) (fs : List Frame) (front : List Token) (tok : Token) (scope : Blocks) (sc : Scope) (sign : Sign) → Says sc sign tok.kind → Whole w (in_member part first ∷ fs) d sign tok.pos scope front → Good w front tok scope (close_member_declarator part first d fs sign)
unfolding close_member_declarator
member_declarator_good w part first d fs front tok scope sc signs.Colon s h = record {
  scope_is = h.scope_is;
  stand = (h.stand.0, h.stand.1);
  fits = tt;
  reads = map_right (λ xs p. regroup p) (attach _ _ (map_right (λ xs p. member_built (scope_at w fs) part first true d tok.pos xs h.suits p) (regroup h.reads)) (is_some_one tok _ s));
}
member_declarator_good w part first d fs front tok scope sc sign s h = member_good w fs (with_member part first (t.a_declarator d) t.no_expr) front tok scope sc sign s (member_read w part first d fs sign tok.pos scope front h)

close_good : (w : Start) (d : t.DeclaratorTree) (fs : List Frame) (front : List Token) (tok : Token) (scope : Blocks) (sc : Scope) (sign : Sign) → Says sc sign tok.kind → Whole w fs d sign tok.pos scope front → Good w front tok scope (close_declarator d fs sign)
unfolding close_declarator
close_good w d [] front tok scope sc sign s h = (h.scope_is, at_start (g.declarator w.sort w.scope tok.pos d) w front h.reads)
close_good w d (in_group l ∷ fs) front tok scope sc sign s h = group_good w l d fs front tok scope sc sign s h
close_good w d (in_type_declarator l purpose q ∷ fs) front tok scope sc sign s h = type_good w l purpose q d fs front tok scope sc sign s h
close_good w d (in_param part q ∷ fs) front tok scope sc sign s h = param_good w part q d fs front tok scope sc sign s h
close_good w d (in_member part first ∷ fs) front tok scope sc sign s h = member_declarator_good w part first d fs front tok scope sc sign s h
close_good w d (f ∷ fs) front tok scope sc sign s h = tt

-- behind what needs no parentheses before a suffix
pub end_good : (limit : ℕ) (w : Start) (d : t.DeclaratorTree) (fs : List Frame) (front : List Token) (tok : Token) (scope : Blocks) (sc : Scope) (sign : Sign) → Says sc sign tok.kind → is_direct d ≡ true → Whole w fs d sign tok.pos scope front → Good w front tok scope (declarator_end limit d fs tok.pos sign)
unfolding declarator_end
end_good limit w d fs front tok scope sc signs.OpenBracket s direct h = good_within w front tok scope _ (goes fs (opened_bound tok.pos d)) (record { scope_is = h.scope_is; stand = h.stand; fits = h.suits; reads = attach _ _ (map_right (λ xs p. (direct, p)) h.reads) (is_one tok _ s) })
end_good limit w d fs front tok scope sc signs.Open s direct h = good_within w front tok scope _ (goes fs (opened_params tok.pos d)) (record { scope_is = h.scope_is; stand = h.stand; fits = h.suits; reads = attach _ _ (map_right (λ xs p. (direct, p)) h.reads) (is_one tok _ s) })
end_good limit w d fs front tok scope sc sign s direct h = close_good w (reduce_declarator d fs).0 (reduce_declarator d fs).1 front tok scope sc sign s (reduce_whole w d fs sign tok.pos scope front h)

lack_is : (sort : Sort) → may_lack (sort_of sort) ≡ is_optional sort
lack_is (sorts.Named typed) = refl
lack_is (sorts.Param typed) = refl
lack_is (sorts.Member typed) = refl
lack_is sorts.Abstract = refl

pub lack_at : (w : Start) (fs : List Frame) (sort : Sort) (b : Bool) → sort_of sort ≡ sort_at w fs → is_optional sort ≡ b → may_lack (sort_at w fs) ≡ b
lack_at w fs sort b e h = ap may_lack (sym e) ∙ (lack_is sort ∙ h)

nameless_good : (limit : ℕ) (w : Start) (fs : List Frame) (sort : Sort) (front : List Token) (tok : Token) (scope : Blocks) (sign : Sign) (b : Bool) → is_optional sort ≡ b → Says (scope_at w fs) sign tok.kind → Needs w fs sort sign tok.pos scope front → Good w front tok scope (without_name limit b fs tok.pos sign)
unfolding without_name
nameless_good limit w fs sort front tok scope sign true e s h = end_good limit w (t.nameless tok.pos) fs front tok scope (scope_at w fs) sign s refl (record {
  scope_is = h.scope_is;
  stand = h.stand;
  suits = h.suits None tt;
  closes = closes_bare fs sign (t.nameless tok.pos) (h.bare e);
  reads = (front, [], sym (append-nil front), h.reads, ((lack_at w fs sort true h.sort_is e, refl), refl));
})
nameless_good limit w fs sort front tok scope sign false e s h = tt

takes_is : (sort : Sort) (is_type : Bool) → takes_name (sort_of sort) is_type ≡ machine.takes_name sort is_type
takes_is (sorts.Named true) true = refl
takes_is (sorts.Named true) false = refl
takes_is (sorts.Named false) true = refl
takes_is (sorts.Named false) false = refl
takes_is (sorts.Param true) true = refl
takes_is (sorts.Param true) false = refl
takes_is (sorts.Param false) true = refl
takes_is (sorts.Param false) false = refl
takes_is (sorts.Member true) true = refl
takes_is (sorts.Member true) false = refl
takes_is (sorts.Member false) true = refl
takes_is (sorts.Member false) false = refl
takes_is sorts.Abstract is_type = refl

takes_at : (w : Start) (fs : List Frame) (sort : Sort) (is_type other : Bool) → sort_of sort ≡ sort_at w fs → other ≡ is_type → machine.takes_name sort is_type ≡ true → takes_name (sort_at w fs) other ≡ true
takes_at w fs sort is_type other e same h = ap (λ s. takes_name s other) (sym e) ∙ (ap (takes_name (sort_of sort)) same ∙ (takes_is sort is_type ∙ h))

-- where the name must stand, any token may begin a group
lacks_always : (s : g.Sort) (b : Scope) (n : Option Name) → may_lack s ≡ false → lacks s b n ≡ true
lacks_always s b n e = ap (λ x. if x then (if begins_with_type b n then false else true) else true) e

open_group_good : (w : Start) (fs : List Frame) (sort : Sort) (front : List Token) (tok : Token) (scope : Blocks) → tok.kind ≡ kinds.Punct puncts.OpenParen → Needs w fs sort signs.Open tok.pos scope front → Good w front tok scope (open_group sort fs tok.pos)
open_group_good w fs sort front tok scope s h = good_if w front tok scope (is_optional sort) (goes fs (opened_declarator tok.pos sort)) (goes (in_group tok.pos ∷ fs) (declarator sort))
    (λ e. record { scope_is = h.scope_is; stand = h.stand; fits = (h.sort_is, h.suits None tt, e); reads = both _ _ h.reads (is_one tok _ s) })
    (λ e. record { scope_is = h.scope_is; stand = (h.suits None tt, h.stand); fits = (h.sort_is, (λ l n. lacks_always (sort_at w fs) (scope_at w fs) n (lack_at w fs sort false h.sort_is e)), (λ f. absurd (true_false (sym f ∙ e)))); reads = both _ _ h.reads (is_one tok _ s) })

pub declarator_good : (limit : ℕ) (w : Start) (fs : List Frame) (sort : Sort) (front : List Token) (tok : Token) (scope : Blocks) (sign : Sign) → Says (scope_at w fs) sign tok.kind → Needs w fs sort sign tok.pos scope front → Good w front tok scope (declarator_step limit sort fs tok.pos sign)
unfolding declarator_step
declarator_good limit w fs sort front tok scope signs.Star s h = good_within w front tok scope _ (goes fs (qualifiers tok.pos false false sort)) (record { scope_is = h.scope_is; stand = h.stand; fits = (h.sort_is, h.suits None tt); reads = both _ _ h.reads (tok ∷ [], [], refl, is_one tok _ s, (refl, refl)) })
declarator_good limit w fs sort front tok scope (signs.Calling cdecl) s h = good_within w front tok scope _ (goes (in_derived tok.pos (derivations.Calling cdecl) ∷ fs) (declarator sort)) (record { scope_is = h.scope_is; stand = (h.suits None tt, h.stand); fits = (h.sort_is, (λ l n. tt), (λ e. tt)); reads = both _ _ h.reads (is_one tok _ s) })
declarator_good limit w fs sort front tok scope signs.Open s h = good_within w front tok scope _ _ (open_group_good w fs sort front tok scope s h)
declarator_good limit w fs sort front tok scope (signs.Name n is_type) s h = good_if w front tok scope (machine.takes_name sort is_type) (goes fs (have_declarator (t.named tok.pos n))) _
    (λ e. record { scope_is = h.scope_is; stand = h.stand; fits = (h.suits (Some n) refl, refl, refl); reads = both _ _ h.reads (λ l. (takes_at w fs sort is_type (scope_at w fs n) h.sort_is s.1 e, is_one tok _ s.0)) })
    (λ e. nameless_good limit w fs sort front tok scope (signs.Name n is_type) (is_optional sort) refl s h)
declarator_good limit w fs sort front tok scope sign s h = nameless_good limit w fs sort front tok scope sign (is_optional sort) refl s h
