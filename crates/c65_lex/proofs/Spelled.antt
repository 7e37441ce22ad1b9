-- A spelling has one class.
use Rattle.std.proofs.Common.{◌≡◌, ℕ, List, [], ◌∷◌, refl, sym, ap, subst, arith, Bool, true, false, ◌⊎◌, inl, inr, Option, Some, None}
use Rattle.std.specs.Prelude.{◌==◌, ◌&&◌, ◌||◌, not, if◌then◌else◌}
use Rattle.std.proofs.lemmas.Bool.Decides.{nat_tests}
use Rattle.c65_lex.specs.declared.token.PpKind.{PpKind}
use Rattle.c65_lex.specs.declared.token.PpKind.TheVariants.{Name, Number, Char, Text, Punct, Header, Other, LineEnd}
use Rattle.c65_lex.specs.Spellings.{are_all, is_letter, is_digit, is_word, is_white, is_name, is_tail, begins_digit, begins_number, is_number, is_closed, takes_next, is_quoted, is_literal, header_close, begins_header, is_header, is_header_quote, is_punct1, is_punct, is_stray, is_other, is_line_end, class_of}
use Rattle.c65_lex.proofs.Bytes.{eq_is, both, either, and_false, apart, punct_fails, punct_first, less_has_no_greater, no_header, not_true}

abbrev pub class_by : Bool → Bool → Bool → Bool → Bool → Bool → Bool → Bool → Option PpKind
class_by e h c t n u p o = if e then Some LineEnd else if h then Some Header else if c then Some Char else if t then Some Text else if n then Some Name else if u then Some Number else if p then Some Punct else if o then Some Other else None

module _ (e h c t n u p o : Bool) where
  at_header : e ≡ false → h ≡ true → class_by e h c t n u p o ≡ Some Header
  at_header a b = rw (a, b) refl

  at_char : e ≡ false → h ≡ false → c ≡ true → class_by e h c t n u p o ≡ Some Char
  at_char a b d = rw (a, b, d) refl

  at_text : e ≡ false → h ≡ false → c ≡ false → t ≡ true → class_by e h c t n u p o ≡ Some Text
  at_text a b d f = rw (a, b, d, f) refl

  at_name : e ≡ false → h ≡ false → c ≡ false → t ≡ false → n ≡ true → class_by e h c t n u p o ≡ Some Name
  at_name a b d f g = rw (a, b, d, f, g) refl

  at_number : e ≡ false → h ≡ false → c ≡ false → t ≡ false → n ≡ false → u ≡ true → class_by e h c t n u p o ≡ Some Number
  at_number a b d f g i = rw (a, b, d, f, g, i) refl

  at_punct : e ≡ false → h ≡ false → c ≡ false → t ≡ false → n ≡ false → u ≡ false → p ≡ true → class_by e h c t n u p o ≡ Some Punct
  at_punct a b d f g i j = rw (a, b, d, f, g, i, j) refl

  at_other : e ≡ false → h ≡ false → c ≡ false → t ≡ false → n ≡ false → u ≡ false → p ≡ false → o ≡ true → class_by e h c t n u p o ≡ Some Other
  at_other a b d f g i j k = rw (a, b, d, f, g, i, j, k) refl

no_line_end : (b : ℕ) (bs : List ℕ) → (b == 10) ≡ false → is_line_end (b ∷ bs) ≡ false
no_line_end b [] h = h
no_line_end b (c ∷ bs) h = refl

and_first : (a b : Bool) → a ≡ false → a && b ≡ false
and_first true b e = absurd cc
and_first false b e = refl

no_header_here : (header : Bool) (b : ℕ) (bs : List ℕ) → begins_header (b ∷ bs) ≡ false → header && is_header (b ∷ bs) ≡ false
no_header_here header b bs h = and_false header (is_header (b ∷ bs)) (and_first (begins_header (b ∷ bs)) (is_closed (header_close b) true false bs) h)

no_literal_here : (quote b : ℕ) (bs : List ℕ) → (b == quote) ≡ false → (b == 76) && is_quoted quote bs ≡ false → is_literal quote (b ∷ bs) ≡ false
no_literal_here quote b bs h k = rw (h, k) refl

word_no_quote : (quote : ℕ) (bs : List ℕ) → is_word quote ≡ false → are_all is_word bs ≡ true → is_quoted quote bs ≡ false
word_no_quote quote [] h a = refl
word_no_quote quote (b ∷ bs) h a = and_first (b == quote) (is_closed quote false false bs) (apart is_word b quote (both (is_word b) (are_all is_word bs) a).0 h)

pub spelled_name : (header : Bool) (b : ℕ) (bs : List ℕ) → is_letter b ≡ true → are_all is_word bs ≡ true → class_of header (b ∷ bs) ≡ Some Name
spelled_name header b bs l a =
    let x : b ∷ bs ≡ b ∷ bs = refl in
    at_name (is_line_end (b ∷ bs)) (header && is_header (b ∷ bs)) (is_literal 39 (b ∷ bs)) (is_literal 34 (b ∷ bs) && not (is_header_quote header (b ∷ bs))) (is_name (b ∷ bs)) (is_number (b ∷ bs)) (is_punct (b ∷ bs)) (is_other (b ∷ bs))
    (no_line_end b bs (apart is_letter b 10 l refl))
    (no_header_here header b bs (no_header b bs (apart is_letter b 60 l refl) (apart is_letter b 34 l refl)))
    (no_literal_here 39 b bs (apart is_letter b 39 l refl) (and_false (b == 76) (is_quoted 39 bs) (word_no_quote 39 bs refl a)))
    (and_first (is_literal 34 (b ∷ bs)) (not (is_header_quote header (b ∷ bs))) (no_literal_here 34 b bs (apart is_letter b 34 l refl) (and_false (b == 76) (is_quoted 34 bs) (word_no_quote 34 bs refl a))))
    (rw (l, a) refl)

abbrev pub is_number_byte : ℕ → Bool
is_number_byte b = is_digit b || (b == 46)

pub number_first : (b : ℕ) (bs : List ℕ) → begins_number b bs ≡ true → is_number_byte b ≡ true
number_first b bs h = by (either (is_digit b) ((b == 46) && begins_digit bs) h)
  where
    by : (is_digit b ≡ true) ⊎ (((b == 46) && begins_digit bs) ≡ true) → is_number_byte b ≡ true
    by (inl d) = rw d refl
    by (inr e) = let k = (both (b == 46) (begins_digit bs) e).0 in grind (arith, nat_tests)

number_no_letter : (b : ℕ) → is_number_byte b ≡ true → is_letter b ≡ false
number_no_letter b h = grind (arith, nat_tests)

pub spelled_number : (header : Bool) (b : ℕ) (bs : List ℕ) → begins_number b bs ≡ true → is_tail b bs ≡ true → class_of header (b ∷ bs) ≡ Some Number
spelled_number header b bs l a =
    let f = number_first b bs l in
    let k : (b == 76) ≡ false = apart is_number_byte b 76 f refl in
    at_number (is_line_end (b ∷ bs)) (header && is_header (b ∷ bs)) (is_literal 39 (b ∷ bs)) (is_literal 34 (b ∷ bs) && not (is_header_quote header (b ∷ bs))) (is_name (b ∷ bs)) (is_number (b ∷ bs)) (is_punct (b ∷ bs)) (is_other (b ∷ bs))
    (no_line_end b bs (apart is_number_byte b 10 f refl))
    (no_header_here header b bs (no_header b bs (apart is_number_byte b 60 f refl) (apart is_number_byte b 34 f refl)))
    (no_literal_here 39 b bs (apart is_number_byte b 39 f refl) (and_first (b == 76) (is_quoted 39 bs) k))
    (and_first (is_literal 34 (b ∷ bs)) (not (is_header_quote header (b ∷ bs))) (no_literal_here 34 b bs (apart is_number_byte b 34 f refl) (and_first (b == 76) (is_quoted 34 bs) k)))
    (and_first (is_letter b) (are_all is_word bs) (number_no_letter b f))
    (rw (l, a) refl)

-- nothing is closed without its closing quote
no_close : (quote : ℕ) (plain taken : Bool) (bs : List ℕ) → are_all (λ x. not (x == quote)) bs ≡ true → is_closed quote plain taken bs ≡ false
no_close quote plain taken [] a = refl
no_close quote plain taken (b ∷ bs) a = by (b == 10) refl (no_close quote plain (takes_next plain taken b) bs (both (not (b == quote)) (are_all (λ x. not (x == quote)) bs) a).1)
  where
    by : (t : Bool) → (b == 10) ≡ t → is_closed quote plain (takes_next plain taken b) bs ≡ false → is_closed quote plain taken (b ∷ bs) ≡ false
    by true p i = rw p refl
    by false p i =
        let q : (b == quote) ≡ false = not_true (b == quote) (both (not (b == quote)) (are_all (λ x. not (x == quote)) bs) a).0 in
        let r : not taken && (b == quote) ≡ false = and_false (not taken) (b == quote) q in
        rw (p, r) i

punct_no_header : (header : Bool) (b : ℕ) (bs : List ℕ) → is_punct (b ∷ bs) ≡ true → header && is_header (b ∷ bs) ≡ false
punct_no_header header b bs h = by (b == 60) refl
  where
    by : (t : Bool) → (b == 60) ≡ t → header && is_header (b ∷ bs) ≡ false
    by true e =
        let k : b ≡ 60 = eq_is b 60 e in
        let g : is_punct (60 ∷ bs) ≡ true = subst (λ (x : ℕ). is_punct (x ∷ bs) ≡ true) k h in
        let c : is_closed 62 true false bs ≡ false = no_close 62 true false bs (less_has_no_greater bs g) in
        subst (λ (x : ℕ). header && is_header (x ∷ bs) ≡ false) (sym k) (and_false header (is_header (60 ∷ bs)) (and_false (begins_header (60 ∷ bs)) (is_closed 62 true false bs) c))
    by false e = no_header_here header b bs (no_header b bs e (punct_fails (λ x. x == 34) b refl (punct_first b bs h)))

pub spelled_punct : (header : Bool) (b : ℕ) (bs : List ℕ) → is_punct (b ∷ bs) ≡ true → begins_number b bs ≡ false → class_of header (b ∷ bs) ≡ Some Punct
spelled_punct header b bs h g =
    let f = punct_first b bs h in
    let k : (b == 76) ≡ false = punct_fails (λ x. x == 76) b refl f in
    at_punct (is_line_end (b ∷ bs)) (header && is_header (b ∷ bs)) (is_literal 39 (b ∷ bs)) (is_literal 34 (b ∷ bs) && not (is_header_quote header (b ∷ bs))) (is_name (b ∷ bs)) (is_number (b ∷ bs)) (is_punct (b ∷ bs)) (is_other (b ∷ bs))
    (no_line_end b bs (punct_fails (λ x. x == 10) b refl f))
    (punct_no_header header b bs h)
    (no_literal_here 39 b bs (punct_fails (λ x. x == 39) b refl f) (and_first (b == 76) (is_quoted 39 bs) k))
    (and_first (is_literal 34 (b ∷ bs)) (not (is_header_quote header (b ∷ bs))) (no_literal_here 34 b bs (punct_fails (λ x. x == 34) b refl f) (and_first (b == 76) (is_quoted 34 bs) k)))
    (and_first (is_letter b) (are_all is_word bs) (punct_fails is_letter b refl f))
    (and_first (begins_number b bs) (is_tail b bs) g)
    h

stray : (b : ℕ) → (b == 10) ≡ false → is_white b ≡ false → is_letter b ≡ false → is_digit b ≡ false → is_punct1 b ≡ false → is_stray b ≡ true
stray b a w l d p = rw (a, w, l, d, p) refl

pub spelled_other : (header : Bool) (b : ℕ) → (b == 10) ≡ false → is_white b ≡ false → is_letter b ≡ false → is_digit b ≡ false → is_punct1 b ≡ false → class_of header (b ∷ []) ≡ Some Other
spelled_other header b a w l d p =
    at_other (is_line_end (b ∷ [])) (header && is_header (b ∷ [])) (is_literal 39 (b ∷ [])) (is_literal 34 (b ∷ []) && not (is_header_quote header (b ∷ []))) (is_name (b ∷ [])) (is_number (b ∷ [])) (is_punct (b ∷ [])) (is_other (b ∷ []))
    a
    (and_false header (is_header (b ∷ [])) refl)
    (none_of 39)
    (and_first (is_literal 34 (b ∷ [])) (not (is_header_quote header (b ∷ []))) (none_of 34))
    (rw l refl)
    (and_first (begins_number b []) (is_tail b []) (rw d (and_false (b == 46) false refl)))
    p
    (stray b a w l d p)
  where
    none_of : (quote : ℕ) → is_literal quote (b ∷ []) ≡ false
    none_of quote = rw (and_false (b == quote) false refl, and_false (b == 76) false refl) refl

pub spelled_header : (b : ℕ) (bs : List ℕ) → begins_header (b ∷ bs) ≡ true → is_closed (header_close b) true false bs ≡ true → class_of true (b ∷ bs) ≡ Some Header
spelled_header b [] h c = absurd cc
spelled_header b (x ∷ bs) h c =
    at_header false (is_header (b ∷ x ∷ bs)) (is_literal 39 (b ∷ x ∷ bs)) (is_literal 34 (b ∷ x ∷ bs) && not (is_header_quote true (b ∷ x ∷ bs))) (is_name (b ∷ x ∷ bs)) (is_number (b ∷ x ∷ bs)) (is_punct (b ∷ x ∷ bs)) (is_other (b ∷ x ∷ bs)) refl (all (begins_header (b ∷ x ∷ bs)) (is_closed (header_close b) true false (x ∷ bs)) h c)
  where
    all : (p q : Bool) → p ≡ true → q ≡ true → p && q ≡ true
    all p q e f = rw (e, f) refl

pub spelled_char : (header : Bool) (bs : List ℕ) → is_closed 39 false false bs ≡ true → class_of header (39 ∷ bs) ≡ Some Char
spelled_char header bs c =
    at_char (is_line_end (39 ∷ bs)) (header && is_header (39 ∷ bs)) (is_literal 39 (39 ∷ bs)) (is_literal 34 (39 ∷ bs) && not (is_header_quote header (39 ∷ bs))) (is_name (39 ∷ bs)) (is_number (39 ∷ bs)) (is_punct (39 ∷ bs)) (is_other (39 ∷ bs))
    (no_line_end 39 bs refl)
    (no_header_here header 39 bs (no_header 39 bs refl refl))
    (rw c refl)

pub spelled_text : (header : Bool) (bs : List ℕ) → is_closed 34 false false bs ≡ true → header && begins_header (34 ∷ bs) ≡ false → class_of header (34 ∷ bs) ≡ Some Text
spelled_text header bs c k =
    at_text (is_line_end (34 ∷ bs)) (header && is_header (34 ∷ bs)) (is_literal 39 (34 ∷ bs)) (is_literal 34 (34 ∷ bs) && not (is_header_quote header (34 ∷ bs))) (is_name (34 ∷ bs)) (is_number (34 ∷ bs)) (is_punct (34 ∷ bs)) (is_other (34 ∷ bs))
    (no_line_end 34 bs refl)
    (whole header (begins_header (34 ∷ bs)) (is_closed 34 true false bs) k)
    refl
    (rw c (quote_out header (begins_header (34 ∷ bs)) k))
  where
    whole : (h b c : Bool) → h && b ≡ false → h && (b && c) ≡ false
    whole true b c e = and_first b c e
    whole false b c e = refl

    quote_out : (h b : Bool) → h && b ≡ false → not ((h && true) && b) ≡ true
    quote_out true b e = ap not e
    quote_out false b e = refl

pub spelled_wide_char : (header : Bool) (bs : List ℕ) → is_closed 39 false false bs ≡ true → class_of header (76 ∷ 39 ∷ bs) ≡ Some Char
spelled_wide_char header bs c =
    at_char false (header && is_header (76 ∷ 39 ∷ bs)) (is_literal 39 (76 ∷ 39 ∷ bs)) (is_literal 34 (76 ∷ 39 ∷ bs) && not (is_header_quote header (76 ∷ 39 ∷ bs))) (is_name (76 ∷ 39 ∷ bs)) (is_number (76 ∷ 39 ∷ bs)) (is_punct (76 ∷ 39 ∷ bs)) (is_other (76 ∷ 39 ∷ bs))
    refl
    (no_header_here header 76 (39 ∷ bs) refl)
    (rw c refl)

pub spelled_wide_text : (header : Bool) (bs : List ℕ) → is_closed 34 false false bs ≡ true → class_of header (76 ∷ 34 ∷ bs) ≡ Some Text
spelled_wide_text header bs c =
    at_text false (header && is_header (76 ∷ 34 ∷ bs)) (is_literal 39 (76 ∷ 34 ∷ bs)) (is_literal 34 (76 ∷ 34 ∷ bs) && not (is_header_quote header (76 ∷ 34 ∷ bs))) (is_name (76 ∷ 34 ∷ bs)) (is_number (76 ∷ 34 ∷ bs)) (is_punct (76 ∷ 34 ∷ bs)) (is_other (76 ∷ 34 ∷ bs))
    refl
    (no_header_here header 76 (34 ∷ bs) refl)
    refl
    (rw c (out header))
  where
    out : (h : Bool) → not ((h && false) && false) ≡ true
    out true = refl
    out false = refl
