-- Whether one of some specifiers has a property, by their tree and by their list.
use Rattle.std.proofs.Common.{◌≡◌, ℕ, suc, refl, sym, ap, ◌∙◌, List, [], ◌∷◌, length, Bool, true, false, inl, inr, eq-eqb, eqb-true, arith}
use Rattle.std.specs.Prelude.{◌||◌, nat_eq}
use Rattle.std.proofs.lemmas.Bool.{cases_Bool}
use Rattle.std.specs.List.{list_any}
use Rattle.c65_tree.specs.declared.expr.Specifier.{Specifier}
use Rattle.c65_tree.specs.declared.expr.Specifiers.{Specifiers, out-Specifiers}
use Rattle.c65_tree.specs.Trees
use Rattle.c65_tree.specs.View.{specifier_of, specifiers_of, specifiers_from}
use Rattle.c65_tree.proofs.Views.{specifiers_view}
use Rattle.c65_parse_grammar.specs.Parts.{is_typedef, is_typedef_specifier, list_is_typedef, has_type, is_type_specifier, list_has_type, is_empty, is_empty_list}

or_false : (a : Bool) → a ≡ (a || false)
or_false true = refl
or_false false = refl

or_or : (a b c : Bool) → ((a || b) || c) ≡ (a || (b || c))
or_or true b c = refl
or_or false b c = refl

typedef_from : (xs : Trees.SpecifierList) (qs : List Specifier) → list_is_typedef (specifiers_from xs qs) ≡ (list_is_typedef xs || list_any (λ q. is_typedef_specifier (specifier_of q)) qs)
typedef_from xs [] = or_false _
typedef_from xs (q ∷ qs) = typedef_from (Trees.and_specifier xs (specifier_of q)) qs ∙ or_or (list_is_typedef xs) (is_typedef_specifier (specifier_of q)) _

type_from : (xs : Trees.SpecifierList) (qs : List Specifier) → list_has_type (specifiers_from xs qs) ≡ (list_has_type xs || list_any (λ q. is_type_specifier (specifier_of q)) qs)
type_from xs [] = or_false _
type_from xs (q ∷ qs) = type_from (Trees.and_specifier xs (specifier_of q)) qs ∙ or_or (list_has_type xs) (is_type_specifier (specifier_of q)) _

pub typedef_among : (q : Specifiers) → is_typedef (specifiers_of q) ≡ list_any (λ k. is_typedef_specifier (specifier_of k)) (out-Specifiers q).items.items
typedef_among q = ap is_typedef (specifiers_view q) ∙ typedef_from Trees.no_specifiers (out-Specifiers q).items.items

pub type_among : (q : Specifiers) → has_type (specifiers_of q) ≡ list_any (λ k. is_type_specifier (specifier_of k)) (out-Specifiers q).items.items
type_among q = ap has_type (specifiers_view q) ∙ type_from Trees.no_specifiers (out-Specifiers q).items.items

some_specifiers : (qs : List Specifier) (xs : Trees.SpecifierList) (k : Trees.SpecifierTree) → is_empty_list (specifiers_from (Trees.and_specifier xs k) qs) ≡ false
some_specifiers [] xs k = refl
some_specifiers (q ∷ qs) xs k = some_specifiers qs (Trees.and_specifier xs k) (specifier_of q)

not_none : (m : ℕ) (rs : List Specifier) → m ≡ suc (length rs) → m ≡ 0 → ⊥
not_none m rs g k = omega (arith, g, k)

none_from : (qs : List Specifier) (n : ℕ) → n ≡ length qs → nat_eq n 0 ≡ is_empty_list (specifiers_from Trees.no_specifiers qs)
none_from [] n h = eq-eqb n 0 h
none_from (q ∷ qs) n h = elim (cases_Bool (nat_eq n 0)) [ inl e ↦ absurd (not_none n qs h (eqb-true n 0 e)) | inr e ↦ e ∙ sym (some_specifiers qs Trees.no_specifiers (specifier_of q)) ]

-- whether there are none, by their number
pub none_are : (q : Specifiers) (n : ℕ) → n ≡ length (out-Specifiers q).items.items → nat_eq n 0 ≡ is_empty (specifiers_of q)
none_are q n h = none_from (out-Specifiers q).items.items n h ∙ sym (ap is_empty (specifiers_view q))
