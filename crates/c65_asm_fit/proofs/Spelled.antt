-- Spellings, by the tests of them.
use Rattle.std.proofs.Common.{◌≡◌, ◌⊎◌, inl, inr, ℕ, ◌+◌, ◌-◌, ◌*◌, ◌<◌, ◌==◌, Bool, true, false, ◌&&◌, ◌||◌, IsTrue, List, [], ◌∷◌, Option, None, Some, decimal, refl, sym, ap, subst, ◌∙◌, arith}
use Rattle.std.specs.Prelude.{◌↔◌, if◌then◌else◌, nat_lt, bytes_eq, is_some}
use Rattle.std.proofs.lemmas.Bool.{eqb-true}
use Rattle.std.proofs.lemmas.Bool.Decides.{Decides-ltb}
use Rattle.std.proofs.lemmas.Option.{none-some, same_Some}
use Rattle.std.proofs.lemmas.Slice.Eq.{bytes_eq-Decides}
use Rattle.c65_code.specs.declared.code.Symbol.{Symbol}
use Rattle.c65_code.specs.Writable.{is_external, IsNumbered, IsSpelling}
use Rattle.c65_asm.specs.Words.{and_read, is_digit, with_digit, with_digits, as_written, number_in, is_numbered, is_symbol, begins}
use Rattle.c65_asm.proofs.WordLaws.{symbol_is}
use Rattle.c65_asm_fit.specs.Fit.{IsSpelled}

left_of : (a b : Bool) → (a && b) ≡ true → a ≡ true
left_of true b h = refl
left_of false b h = absurd cc

right_of : (a b : Bool) → (a && b) ≡ true → b ≡ true
right_of true b h = h
right_of false b h = absurd cc

one_of : (a b : Bool) → (a || b) ≡ true → (a ≡ true) ⊎ (b ≡ true)
one_of true b h = inl refl
one_of false b h = inr h

-- ---- numbers

digit_small : (n byte m : ℕ) → with_digit n byte ≡ Some m → m < 4294967296
digit_small n byte m h = by (is_digit byte && nat_lt (n * 10 + (byte - 48)) 4294967296) refl h
  where
    by : (t : Bool) → (is_digit byte && nat_lt (n * 10 + (byte - 48)) 4294967296) ≡ t → (if t then Some (n * 10 + (byte - 48)) else None) ≡ Some m → m < 4294967296
    by true e k = subst (λ (x : ℕ). x < 4294967296) (same_Some (n * 10 + (byte - 48)) m k) ((Decides-ltb (n * 10 + (byte - 48)) 4294967296).0 (right_of (is_digit byte) (nat_lt (n * 10 + (byte - 48)) 4294967296) e))
    by false e k = absurd (none-some m k)

digits_small : (text : List ℕ) (n m : ℕ) → n < 4294967296 → with_digits n text ≡ Some m → m < 4294967296
digits_small [] n m low h = subst (λ (x : ℕ). x < 4294967296) (same_Some n m h) low
digits_small (byte ∷ text) n m low h = by (with_digit n byte) refl h (λ k e r. digits_small text k m (digit_small n byte k e) r)
  where
    by : (o : Option ℕ) → with_digit n byte ≡ o → and_read o (λ k. with_digits k text) ≡ Some m → ((k : ℕ) → with_digit n byte ≡ Some k → with_digits k text ≡ Some m → m < 4294967296) → m < 4294967296
    by None e r f = absurd (none-some m r)
    by (Some k) e r f = f k e r

number_is : (text : List ℕ) (n : ℕ) → number_in text ≡ Some n → (n < 4294967296) × (text ≡ decimal n)
number_is text n h = by (with_digits 0 text) refl h
  where
    written : (m : ℕ) (t : Bool) → bytes_eq (decimal m) text ≡ t → with_digits 0 text ≡ Some m → (if t then Some m else None) ≡ Some n → (n < 4294967296) × (text ≡ decimal n)
    written m true same e k =
        let is : m ≡ n = same_Some m n k in
        (subst (λ (x : ℕ). x < 4294967296) is (digits_small text 0 m (omega arith) e), sym ((bytes_eq-Decides (decimal m) text).0 same) ∙ ap decimal is)
    written m false same e k = absurd (none-some n k)

    by : (o : Option ℕ) → with_digits 0 text ≡ o → and_read o (as_written text) ≡ Some n → (n < 4294967296) × (text ≡ decimal n)
    by None e k = absurd (none-some n k)
    by (Some m) e k = written m (bytes_eq (decimal m) text) refl e k

numbered_by : (letter l n : ℕ) (text : List ℕ) → (letter == l) ≡ true → number_in text ≡ Some n → IsNumbered l (letter ∷ text)
numbered_by letter l n text same h =
    let is = number_is text n h in
    (n, is.0, ap (λ (x : ℕ). x ∷ text) (eqb-true letter l same) ∙ ap (λ (t : List ℕ). l ∷ t) is.1)

numbered_so : (text : List ℕ) → is_numbered text ≡ true → IsNumbered 115 text ⊎ IsNumbered 113 text
numbered_so [] h = absurd cc
numbered_so (letter ∷ text) h = by (number_in text) refl (right_of (letter == 115 || (letter == 113)) (is_some (number_in text)) h) (one_of (letter == 115) (letter == 113) (left_of (letter == 115 || (letter == 113)) (is_some (number_in text)) h))
  where
    by : (o : Option ℕ) → number_in text ≡ o → is_some o ≡ true → ((letter == 115) ≡ true) ⊎ ((letter == 113) ≡ true) → IsNumbered 115 (letter ∷ text) ⊎ IsNumbered 113 (letter ∷ text)
    by None e k l = absurd cc
    by (Some n) e k (inl l) = inl (numbered_by letter 115 n text l e)
    by (Some n) e k (inr l) = inr (numbered_by letter 113 n text l e)

symbol_so : (text : List ℕ) → is_symbol text ≡ true → IsSpelling text
symbol_so text h = by (one_of (is_external text) (is_numbered text) h)
  where
    by : (is_external text ≡ true) ⊎ (is_numbered text ≡ true) → IsSpelling text
    by (inl e) = inl e
    by (inr e) = inr (numbered_so text e)

-- ---- marks: a spelling is a literal's exactly where it begins with q

numbered_begins : (letter : ℕ) (s : List ℕ) → IsNumbered letter s → begins 113 s ≡ begins 113 (letter ∷ [])
numbered_begins letter s (n, low, is) = ap (begins 113) is

begins_so : (s : List ℕ) → IsSpelling s → begins 113 s ≡ true → IsNumbered 113 s
begins_so s (inr (inr n)) h = n
begins_so s (inr (inl n)) h = absurd (let e : false ≡ true = sym (numbered_begins 115 s n) ∙ h in cc)
begins_so [] (inl x) h = absurd cc
begins_so (b ∷ []) (inl x) h = absurd cc
begins_so (b ∷ c ∷ cs) (inl x) h = absurd (omega (arith, eqb-true b 95 (left_of (b == 95) _ x), eqb-true b 113 h))

mark_is : (s : List ℕ) (literal begun : Bool) → begins 113 s ≡ begun → IsSpelling s → IsTrue literal ↔ IsNumbered 113 s → begun ≡ literal
mark_is s true true e sp m = refl
mark_is s false false e sp m = refl
mark_is s true false e sp m = absurd (let k : false ≡ true = sym e ∙ numbered_begins 113 s (m.0 refl) in cc)
mark_is s false true e sp m = absurd (let k : IsTrue false = m.1 (begins_so s sp e) in cc)

mark_so : (s : List ℕ) (literal : Bool) → begins 113 s ≡ literal → IsSpelling s → IsTrue literal ↔ IsNumbered 113 s
mark_so s literal e sp = (λ h. begins_so s sp (e ∙ h), λ n. sym e ∙ numbered_begins 113 s n)

-- ---- symbols, by the two tests

pub spelled_then : (s : Symbol) (r b : Bool) → r ≡ is_symbol s.spelling → r ≡ true → IsTrue b ↔ (begins 113 s.spelling ≡ s.literal) → IsTrue b ↔ IsSpelled s
spelled_then s r b e t m = (λ h. (spelling, mark_so s.spelling s.literal (m.0 h) spelling), back)
  where
    spelling : IsSpelling s.spelling
    spelling = symbol_so s.spelling (sym e ∙ t)

    back : IsSpelled s → IsTrue b
    back (sp, mark) = m.1 (mark_is s.spelling s.literal (begins 113 s.spelling) refl sp mark)

pub spelled_else : (s : Symbol) (r : Bool) → r ≡ is_symbol s.spelling → r ≡ false → IsTrue false ↔ IsSpelled s
spelled_else s r e f = (λ h. absurd cc, never)
  where
    never : IsSpelled s → IsTrue false
    never (sp, mark) = absurd (let k : false ≡ true = sym f ∙ (e ∙ symbol_is s.spelling sp) in cc)
