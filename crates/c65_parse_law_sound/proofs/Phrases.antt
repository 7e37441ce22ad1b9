-- Phrases one after the other, in other groups.
use Rattle.std.proofs.Common.{◌≡◌, List, [], ◌∷◌, ◌++◌, true, false, refl, sym, ap, ◌∙◌, append_assoc}
use Rattle.std.specs.Prelude.{None, Some}
use Rattle.std.proofs.lemmas.List.{append-nil}
use Rattle.c65_scan.specs.declared.token.Token.{Token}
use Rattle.c65_scan.specs.declared.token.TokenKind.{TokenKind}
use Rattle.c65_parse_grammar.specs.Phrases.{Phrase, ◌▸◌, nothing, token, one, some}

pub both : {A B : Phrase} (xs ys : List Token) → A xs → B ys → (A ▸ B) (xs ++ ys)
both xs ys a b = (xs, ys, refl, a, b)

pub regroup : {A B C : Phrase} {ts : List Token} → ((A ▸ B) ▸ C) ts → (A ▸ (B ▸ C)) ts
regroup p = (p.3.0, p.3.1 ++ p.1, p.2 ∙ (ap (λ xs. xs ++ p.1) p.3.2 ∙ append_assoc p.3.0 p.3.1 p.1), p.3.3, (p.3.1, p.1, refl, p.3.4, p.4))

pub ungroup : {A B C : Phrase} {ts : List Token} → (A ▸ (B ▸ C)) ts → ((A ▸ B) ▸ C) ts
ungroup p = (p.0 ++ p.4.0, p.4.1, p.2 ∙ (ap (λ xs. p.0 ++ xs) p.4.2 ∙ sym (append_assoc p.0 p.4.0 p.4.1)), (p.0, p.4.0, refl, p.3, p.4.3), p.4.4)

pub map_left : {A B C : Phrase} {ts : List Token} → ((xs : List Token) → A xs → B xs) → (A ▸ C) ts → (B ▸ C) ts
map_left f p = (p.0, p.1, p.2, f p.0 p.3, p.4)

pub map_right : {A B C : Phrase} {ts : List Token} → ((xs : List Token) → B xs → C xs) → (A ▸ B) ts → (A ▸ C) ts
map_right f p = (p.0, p.1, p.2, p.3, f p.1 p.4)

-- with one more behind the second
pub attach : {A B C : Phrase} (xs ys : List Token) → (A ▸ B) xs → C ys → (A ▸ (B ▸ C)) (xs ++ ys)
attach xs ys p c = regroup (xs, ys, refl, p, c)

pub behind_nothing : {A : Phrase} {ts : List Token} → A ts → (A ▸ nothing) ts
behind_nothing {ts = ts} a = (ts, [], sym (append-nil ts), a, refl)

pub before_nothing : {A : Phrase} {ts : List Token} → A ts → (nothing ▸ A) ts
before_nothing {ts = ts} a = ([], ts, refl, refl, a)

pub is_one : (tok : Token) (k : TokenKind) → tok.kind ≡ k → one tok.pos k (tok ∷ [])
is_one tok k e = ap (λ x. token x tok.pos ∷ []) e

pub is_some_one : (tok : Token) (k : TokenKind) → tok.kind ≡ k → some k (tok ∷ [])
is_some_one tok k e = (tok.pos, is_one tok k e)

pub true_false : true ≡ false → ⊥
true_false e = cc

pub false_true : false ≡ true → ⊥
false_true e = cc

pub some_is : {A : Type 0} (a b : A) → Some a ≡ Some b → a ≡ b
some_is a b e = cc

pub no_none : {A : Type 0} (b : A) → None ≡ Some b → ⊥
no_none b e = cc

pub cons_nil : {A : Type 0} (x : A) (xs : List A) → x ∷ xs ≡ [] → ⊥
cons_nil x xs e = cc
