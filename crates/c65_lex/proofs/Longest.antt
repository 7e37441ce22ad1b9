-- The token that the lengths give is the longest spelling of a class.
use Rattle.std.proofs.Common.{◌≡◌, ℕ, zero, suc, ◌+◌, ◌<◌, ◌≤◌, List, [], ◌∷◌, length, take, refl, sym, ap, ◌∙◌, subst, arith, Bool, true, false, ◌⊎◌, inl, inr, Option, Some, None}
use Rattle.std.specs.Prelude.{◌==◌, ◌&&◌, ◌||◌, not, if◌then◌else◌}
use Rattle.std.proofs.lemmas.Bool.Decides.{nat_tests}
use Rattle.c65_lex.specs.declared.token.PpKind.{PpKind}
use Rattle.c65_lex.specs.declared.token.PpKind.TheVariants.{Name, Number, Char, Text, Punct, Header, Other, LineEnd}
use Rattle.c65_lex.specs.Spellings.{are_all, is_letter, is_digit, is_word, is_white, is_name, is_tail, begins_digit, begins_number, is_number, is_closed, is_quoted, is_literal, header_close, begins_header, is_header, is_header_quote, is_punct1, is_punct, is_other, is_line_end, class_of, IsToken}
use Rattle.c65_lex.specs.Lengths.{run_from, tail_from, close_from, with_kind, quote_kind, quoted_of, literal_of, header_of, punct_length, punct_or_other, bare_of, or_else, token_of}
use Rattle.c65_lex.proofs.Bytes.{eq_is, both, either, neither, and_false, no_both, apart, punct_fails, punct_first, less_has_no_greater, no_header, header_take, header_front}
use Rattle.c65_lex.proofs.Reach.{run_bound, tail_bound, closed_close, closes, plain_closes, close_past, punct_bound, puncts_here, runs, tails}
use Rattle.c65_lex.proofs.Spelled.{spelled_name, spelled_number, spelled_punct, spelled_other, spelled_header, spelled_char, spelled_text, spelled_wide_char, spelled_wide_text, class_by, is_number_byte, number_first}

abbrev pub Found : Type 0
Found = PpKind × ℕ

-- what with_kind gives
pub record Kinds (kind : PpKind) (o : Option ℕ) (s : Found) : Type 0 where
  pub m : ℕ
  pub found : o ≡ Some m
  pub s_is : s ≡ (kind, m)

kinds : (kind : PpKind) (o : Option ℕ) (s : Found) → with_kind kind o ≡ Some s → Kinds kind o s
kinds kind None s e = absurd cc
kinds kind (Some m) s e = record { m = m; found = refl; s_is = cc }

-- a header name
pub record Headers (b : ℕ) (bs : List ℕ) (s : Found) : Type 0 where
  pub m : ℕ
  pub begins : begins_header (b ∷ bs) ≡ true
  pub found : close_from 1 (header_close b) true false bs ≡ Some m
  pub s_is : s ≡ (Header, m)

headers : (b : ℕ) (bs : List ℕ) (s : Found) → header_of (b ∷ bs) ≡ Some s → Headers b bs s
headers b bs s e = by (begins_header (b ∷ bs)) refl e
  where
    by : (t : Bool) → begins_header (b ∷ bs) ≡ t → (if t then with_kind Header (close_from 1 (header_close b) true false bs) else None) ≡ Some s → Headers b bs s
    by true p f = let k = kinds Header (close_from 1 (header_close b) true false bs) s f in record { m = k.m; begins = p; found = k.found; s_is = k.s_is }
    by false p f = absurd cc

-- a literal whose quote stands behind n bytes
abbrev pub is_quote : ℕ → Bool
is_quote b = (b == 39) || (b == 34)

pub record Quotes (n : ℕ) (bs : List ℕ) (s : Found) : Type 0 where
  pub quote : ℕ
  pub rest : List ℕ
  pub bs_is : bs ≡ quote ∷ rest
  pub quote_is : is_quote quote ≡ true
  pub m : ℕ
  pub found : close_from (n + 1) quote false false rest ≡ Some m
  pub s_is : s ≡ (quote_kind quote, m)

quotes : (n : ℕ) (bs : List ℕ) (s : Found) → quoted_of n bs ≡ Some s → Quotes n bs s
quotes n [] s e = absurd cc
quotes n (b ∷ bs) s e = by (is_quote b) refl e
  where
    by : (t : Bool) → is_quote b ≡ t → (if t then with_kind (quote_kind b) (close_from (n + 1) b false false bs) else None) ≡ Some s → Quotes n (b ∷ bs) s
    by true p f = let k = kinds (quote_kind b) (close_from (n + 1) b false false bs) s f in record { quote = b; rest = bs; bs_is = refl; quote_is = p; m = k.m; found = k.found; s_is = k.s_is }
    by false p f = absurd cc

literals : (b : ℕ) (bs : List ℕ) (s : Found) → literal_of (b ∷ bs) ≡ Some s → ((b ≡ 76) × Quotes 1 bs s) ⊎ Quotes 0 (b ∷ bs) s
literals b bs s e = by (b == 76) refl e
  where
    by : (t : Bool) → (b == 76) ≡ t → (if t then quoted_of 1 bs else quoted_of 0 (b ∷ bs)) ≡ Some s → ((b ≡ 76) × Quotes 1 bs s) ⊎ Quotes 0 (b ∷ bs) s
    by true p f = inl (eq_is b 76 p, quotes 1 bs s f)
    by false p f = inr (quotes 0 (b ∷ bs) s f)

quotes_some : (n : ℕ) (bs : List ℕ) (s : Found) → Quotes n bs s → n + 1 < s.1
quotes_some n bs s q =
    let c = closes (n + 1) q.quote false false q.rest q.m q.found in
    let e : s.1 ≡ q.m = ap (λ (x : Found). x.1) q.s_is in
    omega (arith, e, c.m_is, c.some)

literals_some : (b : ℕ) (bs : List ℕ) (s : Found) → literal_of (b ∷ bs) ≡ Some s → 1 ≤ s.1
literals_some b bs s e = by (literals b bs s e)
  where
    by : ((b ≡ 76) × Quotes 1 bs s) ⊎ Quotes 0 (b ∷ bs) s → 1 ≤ s.1
    by (inl q) = omega (arith, quotes_some 1 bs s q.1)
    by (inr q) = omega (arith, quotes_some 0 (b ∷ bs) s q)

headers_some : (b : ℕ) (bs : List ℕ) (s : Found) → header_of (b ∷ bs) ≡ Some s → 1 ≤ s.1
headers_some b bs s e =
    let h = headers b bs s e in
    let c = closes 1 (header_close b) true false bs h.m h.found in
    let f : s.1 ≡ h.m = ap (λ (x : Found). x.1) h.s_is in
    omega (arith, f, c.m_is, c.some)

or_bound : (k : ℕ) (o : Option Found) (t : Found) → ((s : Found) → o ≡ Some s → k ≤ s.1) → k ≤ t.1 → k ≤ (or_else o t).1
or_bound k None t f g = g
or_bound k (Some s) t f g = f s refl

-- each of the three that may be taken bounds the token's length
bounded : (header : Bool) (b : ℕ) (bs : List ℕ) (k : ℕ) → ((s : Found) → header_of (b ∷ bs) ≡ Some s → k ≤ s.1) → ((s : Found) → literal_of (b ∷ bs) ≡ Some s → k ≤ s.1) → k ≤ (bare_of b bs).1 → k ≤ (token_of header b bs).1
bounded true b bs k f g h = or_bound k (header_of (b ∷ bs)) (or_else (literal_of (b ∷ bs)) (bare_of b bs)) f (or_bound k (literal_of (b ∷ bs)) (bare_of b bs) g h)
bounded false b bs k f g h = or_bound k (literal_of (b ∷ bs)) (bare_of b bs) g h

bare_some : (b : ℕ) (bs : List ℕ) → 1 ≤ (bare_of b bs).1
bare_some b bs = by (b == 10) (is_letter b) (begins_number b bs)
  where
    which : (n : ℕ) → 1 ≤ (punct_or_other n).1
    which n = pick (n == 0) refl
      where
        pick : (t : Bool) → (n == 0) ≡ t → (let f : Found = if t then (Other, 1) else (Punct, n) in 1 ≤ f.1)
        pick true e = omega arith
        pick false e = grind (arith, nat_tests)

    by : (t u v : Bool) → (let f : Found = if t then (LineEnd, 1) else if u then (Name, run_from 1 is_word bs) else if v then (Number, tail_from 1 b bs) else punct_or_other (punct_length (b ∷ bs)) in 1 ≤ f.1)
    by true u v = omega arith
    by false true v = omega (arith, run_bound 1 is_word 0 bs refl (omega arith))
    by false false true = omega (arith, tail_bound 1 b 0 bs refl (omega arith))
    by false false false = which (punct_length (b ∷ bs))

token_some : (header : Bool) (b : ℕ) (bs : List ℕ) → 1 ≤ (token_of header b bs).1
token_some header b bs = bounded header b bs 1 (headers_some b bs) (literals_some b bs) (bare_some b bs)

no_header_of : (b : ℕ) (bs : List ℕ) (s : Found) → begins_header (b ∷ bs) ≡ false → header_of (b ∷ bs) ≡ Some s → ⊥
no_header_of b bs s e f = no_both (begins_header (b ∷ bs)) (headers b bs s f).begins e

no_literal_of : (b : ℕ) (bs : List ℕ) (s : Found) → (b == 76) ≡ false → is_quote b ≡ false → literal_of (b ∷ bs) ≡ Some s → ⊥
no_literal_of b bs s e f g = by (literals b bs s g)
  where
    head : (x y : ℕ) (xs ys : List ℕ) → x ∷ xs ≡ y ∷ ys → x ≡ y
    head x y xs ys e = cc

    by : ((b ≡ 76) × Quotes 1 bs s) ⊎ Quotes 0 (b ∷ bs) s → ⊥
    by (inl q) = let k : (b == 76) ≡ true = rw q.0 refl in no_both (b == 76) k e
    by (inr q) = no_both (is_quote b) (ap is_quote (head b q.quote bs q.rest q.bs_is) ∙ q.quote_is) f

apart_quote : (p : ℕ → Bool) (b : ℕ) → p b ≡ true → p 39 ≡ false → p 34 ≡ false → is_quote b ≡ false
apart_quote p b h e f = rw (apart p b 39 h e, apart p b 34 h f) refl

-- a name
name_bound : (header : Bool) (b j : ℕ) (bs : List ℕ) → is_letter b ≡ true → are_all is_word (take j bs) ≡ true → j ≤ length bs → suc j ≤ (token_of header b bs).1
name_bound header b j bs l a w = bounded header b bs (suc j) (λ s e. absurd (no_header_of b bs s (no_header b bs (apart is_letter b 60 l refl) (apart is_letter b 34 l refl)) e)) (λ s e. by s (literals b bs s e)) bare
  where
    inner : (s : Found) → Quotes 1 bs s → suc j ≤ s.1
    inner s q = at j (subst (λ (x : List ℕ). are_all is_word (take j x) ≡ true) q.bs_is a)
      where
        quote_word : (x : ℕ) → is_quote x ≡ true → is_word x ≡ false
        quote_word x h = grind (arith, nat_tests)

        at : (j : ℕ) → are_all is_word (take j (q.quote ∷ q.rest)) ≡ true → suc j ≤ s.1
        at zero h = omega (arith, quotes_some 1 bs s q)
        at (suc i) h = absurd (no_both (is_word q.quote) (both (is_word q.quote) (are_all is_word (take i q.rest)) h).0 (quote_word q.quote q.quote_is))

    head : (x y : ℕ) (xs ys : List ℕ) → x ∷ xs ≡ y ∷ ys → x ≡ y
    head x y xs ys e = cc

    by : (s : Found) → ((b ≡ 76) × Quotes 1 bs s) ⊎ Quotes 0 (b ∷ bs) s → suc j ≤ s.1
    by s (inl q) = inner s q.1
    by s (inr q) = absurd (no_both (is_quote b) (ap is_quote (head b q.quote bs q.rest q.bs_is) ∙ q.quote_is) (apart_quote is_letter b l refl refl))

    bare : suc j ≤ (bare_of b bs).1
    bare =
        let e : (b == 10) ≡ false = apart is_letter b 10 l refl in
        let r = run_bound 1 is_word j bs a w in
        rw (e, l) (omega (arith, r))

-- a number
number_bound : (header : Bool) (b j : ℕ) (bs : List ℕ) → begins_number b (take j bs) ≡ true → is_tail b (take j bs) ≡ true → j ≤ length bs → suc j ≤ (token_of header b bs).1
number_bound header b j bs l a w =
    let f = number_first b (take j bs) l in
    bounded header b bs (suc j)
    (λ s e. absurd (no_header_of b bs s (no_header b bs (apart is_number_byte b 60 f refl) (apart is_number_byte b 34 f refl)) e))
    (λ s e. absurd (no_literal_of b bs s (apart is_number_byte b 76 f refl) (apart_quote is_number_byte b f refl refl) e))
    bare
  where
    digit_take : (j : ℕ) (bs : List ℕ) → begins_digit (take j bs) ≡ true → begins_digit bs ≡ true
    digit_take zero bs h = absurd cc
    digit_take (suc j) [] h = absurd cc
    digit_take (suc j) (c ∷ bs) h = h

    number_take : (is_digit b ≡ true) ⊎ (((b == 46) && begins_digit (take j bs)) ≡ true) → begins_number b bs ≡ true
    number_take (inl d) = rw d refl
    number_take (inr e) =
        let k = both (b == 46) (begins_digit (take j bs)) e in
        let m : begins_digit bs ≡ true = digit_take j bs k.1 in
        rw (k.0, m) (last (is_digit b))
      where
        last : (t : Bool) → t || true ≡ true
        last true = refl
        last false = refl

    no_letter : (b : ℕ) → is_number_byte b ≡ true → is_letter b ≡ false
    no_letter b h = grind (arith, nat_tests)

    bare : suc j ≤ (bare_of b bs).1
    bare =
        let f = number_first b (take j bs) l in
        let e : (b == 10) ≡ false = apart is_number_byte b 10 f refl in
        let g : begins_number b bs ≡ true = number_take (either (is_digit b) ((b == 46) && begins_digit (take j bs)) l) in
        let n : is_letter b ≡ false = no_letter b f in
        let r = tail_bound 1 b j bs a w in
        rw (e, n, g) (omega (arith, r))

-- a punctuator
punct_header : (b j : ℕ) (bs : List ℕ) → is_punct (b ∷ take j bs) ≡ true → j ≤ length bs → (s : Found) → header_of (b ∷ bs) ≡ Some s → suc j ≤ s.1
punct_header b j bs h w s e = by (b == 60) refl
  where
    by : (t : Bool) → (b == 60) ≡ t → suc j ≤ s.1
    by true p =
        let k : b ≡ 60 = eq_is b 60 p in
        let g : is_punct (60 ∷ take j bs) ≡ true = subst (λ (x : ℕ). is_punct (x ∷ take j bs) ≡ true) k h in
        let d = headers b bs s e in
        let f : close_from 1 62 true false bs ≡ Some d.m = subst (λ (x : ℕ). close_from 1 (header_close x) true false bs ≡ Some d.m) k d.found in
        let r = close_past 1 62 true false j bs d.m (less_has_no_greater (take j bs) g) w f in
        let i : s.1 ≡ d.m = ap (λ (x : Found). x.1) d.s_is in
        omega (arith, r, i)
    by false p = absurd (no_header_of b bs s (no_header b bs p (punct_fails (λ x. x == 34) b refl (punct_first b (take j bs) h))) e)

punct_token : (header : Bool) (b j : ℕ) (bs : List ℕ) → is_punct (b ∷ take j bs) ≡ true → j ≤ length bs → suc j ≤ (token_of header b bs).1
punct_token header b j bs h w =
    bounded header b bs (suc j)
    (punct_header b j bs h w)
    (λ s e. absurd (no_literal_of b bs s (punct_fails (λ x. x == 76) b refl (punct_first b (take j bs) h)) (punct_fails is_quote b refl (punct_first b (take j bs) h)) e))
    (bare (begins_number b bs) refl)
  where
    short : (j : ℕ) (bs : List ℕ) → begins_digit bs ≡ true → is_punct (46 ∷ take j bs) ≡ true → j ≤ length bs → j ≡ 0
    short zero bs d h w = refl
    short (suc j) [] d h w = absurd (omega arith)
    short (suc zero) (c ∷ bs) d h w = absurd (grind (arith, nat_tests))
    short (suc (suc j)) (c ∷ []) d h w = absurd (omega arith)
    short (suc (suc zero)) (c ∷ e ∷ bs) d h w = absurd (grind (arith, nat_tests))
    short (suc (suc (suc j))) (c ∷ e ∷ []) d h w = absurd (omega arith)
    short (suc (suc (suc j))) (c ∷ e ∷ x ∷ bs) d h w = absurd cc

    bare : (t : Bool) → begins_number b bs ≡ t → suc j ≤ (bare_of b bs).1
    bare true g =
        let f = punct_first b (take j bs) h in
        let d : is_digit b ≡ false = punct_fails is_digit b refl f in
        let k = both (b == 46) (begins_digit bs) (rw d at g) in
        let m : b ≡ 46 = eq_is b 46 k.0 in
        let z : j ≡ 0 = short j bs k.1 (subst (λ (x : ℕ). is_punct (x ∷ take j bs) ≡ true) m h) w in
        omega (arith, z, bare_some b bs)
    bare false g =
        let f = punct_first b (take j bs) h in
        let e : (b == 10) ≡ false = punct_fails (λ x. x == 10) b refl f in
        let n : is_letter b ≡ false = punct_fails is_letter b refl f in
        let p = punct_bound b j bs h w in
        rw (e, n, g) (last (punct_length (b ∷ bs)) p)
      where
        last : (n : ℕ) → suc j ≤ n → suc j ≤ (punct_or_other n).1
        last n p = let t : (n == 0) ≡ false = grind (arith, nat_tests) in rw t p

-- a header name
header_token : (b j : ℕ) (bs : List ℕ) → is_header (b ∷ take j bs) ≡ true → j ≤ length bs → suc j ≤ (token_of true b bs).1
header_token b j bs h w =
    let k = both (begins_header (b ∷ take j bs)) (is_closed (header_close b) true false (take j bs)) h in
    let g : begins_header (b ∷ bs) ≡ true = header_take b j bs k.0 in
    let c : close_from 1 (header_close b) true false bs ≡ Some (1 + j) = closed_close 1 (header_close b) true false j bs k.1 w in
    let e : header_of (b ∷ bs) ≡ Some (Header, 1 + j) = rw (g, c) refl in
    rw e (omega arith)

-- a literal
literal_found : (header : Bool) (b : ℕ) (bs : List ℕ) (k : ℕ) (kind : PpKind) → header && begins_header (b ∷ bs) ≡ false → literal_of (b ∷ bs) ≡ Some (kind, k) → k ≤ (token_of header b bs).1
literal_found true b bs k kind h e = rw (h, e) (omega arith)
literal_found false b bs k kind h e = rw e (omega arith)

quoted_found : (n quote : ℕ) (j : ℕ) (bs : List ℕ) → is_quote quote ≡ true → is_closed quote false false (take j bs) ≡ true → j ≤ length bs → quoted_of n (quote ∷ bs) ≡ Some (quote_kind quote, (n + 1) + j)
quoted_found n quote j bs q c w = rw (q, closed_close (n + 1) quote false false j bs c w) refl

literal_token : (header : Bool) (quote : ℕ) (b j : ℕ) (bs : List ℕ) → is_quote quote ≡ true → (quote == 76) ≡ false → (b ≡ quote → header && begins_header (b ∷ bs) ≡ false) → is_literal quote (b ∷ take j bs) ≡ true → j ≤ length bs → suc j ≤ (token_of header b bs).1
literal_token header quote b j bs q n k h w = by (either (is_quoted quote (b ∷ take j bs)) ((b == 76) && is_quoted quote (take j bs)) h)
  where
    inner : (j : ℕ) (bs : List ℕ) → is_quoted quote (take j bs) ≡ true → j ≤ length bs → quoted_of 1 bs ≡ Some (quote_kind quote, suc j)
    inner zero bs g w = absurd cc
    inner (suc j) [] g w = absurd (omega arith)
    inner (suc j) (c ∷ bs) g w =
        let p = both (c == quote) (is_closed quote false false (take j bs)) g in
        let s : c ≡ quote = eq_is c quote p.0 in
        rw s (quoted_found 1 quote j bs q p.1 (omega arith) ∙ ap (λ x. Some (quote_kind quote, x)) (omega arith))

    by : (is_quoted quote (b ∷ take j bs) ≡ true) ⊎ (((b == 76) && is_quoted quote (take j bs)) ≡ true) → suc j ≤ (token_of header b bs).1
    by (inl g) =
        let p = both (b == quote) (is_closed quote false false (take j bs)) g in
        let s : b ≡ quote = eq_is b quote p.0 in
        let e : literal_of (b ∷ bs) ≡ Some (quote_kind quote, (0 + 1) + j) = rw (s, n) (quoted_found 0 quote j bs q p.1 w) in
        let f = literal_found header b bs ((0 + 1) + j) (quote_kind quote) (k s) e in
        omega (arith, f)
    by (inr g) =
        let p = both (b == 76) (is_quoted quote (take j bs)) g in
        let e : literal_of (b ∷ bs) ≡ Some (quote_kind quote, suc j) = rw p.0 (inner j bs p.1 w) in
        let s : b ≡ 76 = eq_is b 76 p.0 in
        let x : begins_header (b ∷ bs) ≡ false = no_header b bs (apart (λ y. y == 76) b 60 p.0 refl) (apart (λ y. y == 76) b 34 p.0 refl) in
        literal_found header b bs (suc j) (quote_kind quote) (and_false header (begins_header (b ∷ bs)) x) e

-- no spelling is longer
first_only : (p : List ℕ → Bool) (b j : ℕ) (bs : List ℕ) → ((c : ℕ) (cs : List ℕ) → p (b ∷ c ∷ cs) ≡ false) → p (b ∷ take j bs) ≡ true → j ≤ length bs → j ≡ 0
first_only p b zero bs f h w = refl
first_only p b (suc j) [] f h w = absurd (omega arith)
first_only p b (suc j) (c ∷ bs) f h w = absurd (no_both (p (b ∷ c ∷ take j bs)) h (f c (take j bs)))

text_free : (header : Bool) (b j : ℕ) (bs : List ℕ) → is_header_quote header (b ∷ take j bs) ≡ false → is_closed 34 false false (take j bs) ≡ true → b ≡ 34 → header && begins_header (b ∷ bs) ≡ false
text_free false b j bs h c e = refl
text_free true b zero bs h c e = absurd cc
text_free true b (suc j) [] h c e = absurd cc
text_free true b (suc j) (x ∷ bs) h c e = subst (λ (y : ℕ). begins_header (y ∷ x ∷ bs) ≡ false) (sym e) (subst (λ (y : ℕ). is_header_quote true (y ∷ x ∷ take j bs) ≡ false) e h)

module _ (header : Bool) (b j : ℕ) (bs : List ℕ) (which : PpKind) (w : j ≤ length bs) where
  longest_by : (e : Bool) → is_line_end (b ∷ take j bs) ≡ e → (x : Bool) → header && is_header (b ∷ take j bs) ≡ x → (c : Bool) → is_literal 39 (b ∷ take j bs) ≡ c → (q : Bool) → is_literal 34 (b ∷ take j bs) ≡ q → (k : Bool) → is_header_quote header (b ∷ take j bs) ≡ k → (n : Bool) → is_name (b ∷ take j bs) ≡ n → (u : Bool) → is_number (b ∷ take j bs) ≡ u → (p : Bool) → is_punct (b ∷ take j bs) ≡ p → (o : Bool) → is_other (b ∷ take j bs) ≡ o → class_by e x c (q && not k) n u p o ≡ Some which → suc j ≤ (token_of header b bs).1
  longest_by true e x f c g q i k l n m u r p s o t h = let z = first_only is_line_end b j bs (λ _ _. refl) e w in omega (arith, z, token_some header b bs)
  longest_by false e true f c g q i k l n m u r p s o t h =
      let y = both header (is_header (b ∷ take j bs)) f in
      subst (λ (v : Bool). suc j ≤ (token_of v b bs).1) (sym y.0) (header_token b j bs y.1 w)
  longest_by false e false f true g q i k l n m u r p s o t h = literal_token header 39 b j bs refl refl (λ a. char_free a) g w
    where
      char_free : b ≡ 39 → header && begins_header (b ∷ bs) ≡ false
      char_free a = subst (λ (y : ℕ). header && begins_header (y ∷ bs) ≡ false) (sym a) (and_false header (begins_header (39 ∷ bs)) (no_header 39 bs refl refl))
  longest_by false e false f false g true i false l n m u r p s o t h = literal_token header 34 b j bs refl refl (λ a. text_free header b j bs l (inner a) a) i w
    where
      inner : b ≡ 34 → is_closed 34 false false (take j bs) ≡ true
      inner a =
          let y : is_literal 34 (34 ∷ take j bs) ≡ true = subst (λ (y : ℕ). is_literal 34 (y ∷ take j bs) ≡ true) a i in
          by (either (is_closed 34 false false (take j bs)) false y)
        where
          by : (is_closed 34 false false (take j bs) ≡ true) ⊎ (false ≡ true) → is_closed 34 false false (take j bs) ≡ true
          by (inl v) = v
          by (inr v) = absurd cc
  longest_by false e false f false g true i true l true m u r p s o t h = let y = both (is_letter b) (are_all is_word (take j bs)) m in name_bound header b j bs y.0 y.1 w
  longest_by false e false f false g true i true l false m true r p s o t h = let y = both (begins_number b (take j bs)) (is_tail b (take j bs)) r in number_bound header b j bs y.0 y.1 w
  longest_by false e false f false g true i true l false m false r true s o t h = punct_token header b j bs s w
  longest_by false e false f false g true i true l false m false r false s true t h = let z = first_only is_other b j bs (λ _ _. refl) t w in omega (arith, z, token_some header b bs)
  longest_by false e false f false g true i true l false m false r false s false t h = absurd cc
  longest_by false e false f false g false i k l true m u r p s o t h = let y = both (is_letter b) (are_all is_word (take j bs)) m in name_bound header b j bs y.0 y.1 w
  longest_by false e false f false g false i k l false m true r p s o t h = let y = both (begins_number b (take j bs)) (is_tail b (take j bs)) r in number_bound header b j bs y.0 y.1 w
  longest_by false e false f false g false i k l false m false r true s o t h = punct_token header b j bs s w
  longest_by false e false f false g false i k l false m false r false s true t h = let z = first_only is_other b j bs (λ _ _. refl) t w in omega (arith, z, token_some header b bs)
  longest_by false e false f false g false i k l false m false r false s false t h = absurd cc

longest : (header : Bool) (b j : ℕ) (bs : List ℕ) (which : PpKind) → j ≤ length bs → class_of header (b ∷ take j bs) ≡ Some which → suc j ≤ (token_of header b bs).1
longest header b j bs which w h = longest_by header b j bs which w (is_line_end (b ∷ take j bs)) refl (header && is_header (b ∷ take j bs)) refl (is_literal 39 (b ∷ take j bs)) refl (is_literal 34 (b ∷ take j bs)) refl (is_header_quote header (b ∷ take j bs)) refl (is_name (b ∷ take j bs)) refl (is_number (b ∷ take j bs)) refl (is_punct (b ∷ take j bs)) refl (is_other (b ∷ take j bs)) refl h

-- what the lengths give is a spelling
pub record Spells (header : Bool) (b : ℕ) (bs : List ℕ) (t : Found) : Type 0 where
  pub more : ℕ
  pub length_is : t.1 ≡ suc more
  pub fits : more ≤ length bs
  pub class_is : class_of header (b ∷ take more bs) ≡ Some t.0

spells_header : (b : ℕ) (bs : List ℕ) (s : Found) → header_of (b ∷ bs) ≡ Some s → Spells true b bs s
spells_header b bs s e =
    let h = headers b bs s e in
    let c = closes 1 (header_close b) true false bs h.m h.found in
    record {
      more = c.more;
      length_is = ap (λ (x : Found). x.1) h.s_is ∙ c.m_is ∙ omega arith;
      fits = c.fits;
      class_is = spelled_header b (take c.more bs) (header_front b c.more bs c.some h.begins) c.closed ∙ ap (λ (x : Found). Some x.0) (sym h.s_is);
    }

-- where a header name may stand and none does, a string literal that stands there has nothing in it
no_header_text : (header : Bool) (bs : List ℕ) (m n : ℕ) → (if header then header_of (34 ∷ bs) else None) ≡ None → close_from (n + 1) 34 false false bs ≡ Some m → (j : ℕ) → header && begins_header (34 ∷ take j bs) ≡ false
no_header_text false bs m n h e j = refl
no_header_text true bs m n h e j = by (begins_header (34 ∷ take j bs)) refl
  where
    by : (t : Bool) → begins_header (34 ∷ take j bs) ≡ t → t ≡ false
    by true p =
        let g : begins_header (34 ∷ bs) ≡ true = header_take 34 j bs p in
        let k : with_kind Header (close_from 1 34 true false bs) ≡ None = rw g at h in
        absurd (plain_closes (n + 1) 1 34 false bs m e (none_kind (close_from 1 34 true false bs) k))
      where
        none_kind : (o : Option ℕ) → with_kind Header o ≡ None → o ≡ None
        none_kind None e = refl
        none_kind (Some m) e = absurd cc
    by false p = refl

plain_char : (header : Bool) (bs : List ℕ) (m : ℕ) (s : Found) → close_from 1 39 false false bs ≡ Some m → s ≡ (Char, m) → Spells header 39 bs s
plain_char header bs m s f e =
    let c = closes 1 39 false false bs m f in
    record { more = c.more; length_is = ap (λ (x : Found). x.1) e ∙ c.m_is ∙ omega arith; fits = c.fits; class_is = spelled_char header (take c.more bs) c.closed ∙ ap (λ (x : Found). Some x.0) (sym e) }

plain_text : (header : Bool) (bs : List ℕ) (m : ℕ) (s : Found) → (if header then header_of (34 ∷ bs) else None) ≡ None → close_from 1 34 false false bs ≡ Some m → s ≡ (Text, m) → Spells header 34 bs s
plain_text header bs m s h f e =
    let c = closes 1 34 false false bs m f in
    record { more = c.more; length_is = ap (λ (x : Found). x.1) e ∙ c.m_is ∙ omega arith; fits = c.fits; class_is = spelled_text header (take c.more bs) c.closed (no_header_text header bs m 0 h f c.more) ∙ ap (λ (x : Found). Some x.0) (sym e) }

wide_char : (header : Bool) (bs : List ℕ) (m : ℕ) (s : Found) → close_from 2 39 false false bs ≡ Some m → s ≡ (Char, m) → Spells header 76 (39 ∷ bs) s
wide_char header bs m s f e =
    let c = closes 2 39 false false bs m f in
    record { more = suc c.more; length_is = ap (λ (x : Found). x.1) e ∙ c.m_is ∙ omega arith; fits = omega (arith, c.fits); class_is = spelled_wide_char header (take c.more bs) c.closed ∙ ap (λ (x : Found). Some x.0) (sym e) }

wide_text : (header : Bool) (bs : List ℕ) (m : ℕ) (s : Found) → close_from 2 34 false false bs ≡ Some m → s ≡ (Text, m) → Spells header 76 (34 ∷ bs) s
wide_text header bs m s f e =
    let c = closes 2 34 false false bs m f in
    record { more = suc c.more; length_is = ap (λ (x : Found). x.1) e ∙ c.m_is ∙ omega arith; fits = omega (arith, c.fits); class_is = spelled_wide_text header (take c.more bs) c.closed ∙ ap (λ (x : Found). Some x.0) (sym e) }

spells_plain : (header : Bool) (quote : ℕ) (bs : List ℕ) (m : ℕ) (s : Found) → is_quote quote ≡ true → (if header then header_of (quote ∷ bs) else None) ≡ None → close_from 1 quote false false bs ≡ Some m → s ≡ (quote_kind quote, m) → Spells header quote bs s
spells_plain header quote bs m s q h f e = by (either (quote == 39) (quote == 34) q)
  where
    by : ((quote == 39) ≡ true) ⊎ ((quote == 34) ≡ true) → Spells header quote bs s
    by (inl k) =
        let a : quote ≡ 39 = eq_is quote 39 k in
        subst (λ (x : ℕ). Spells header x bs s) (sym a) (plain_char header bs m s (subst (λ (x : ℕ). close_from 1 x false false bs ≡ Some m) a f) (subst (λ (x : ℕ). s ≡ (quote_kind x, m)) a e))
    by (inr k) =
        let a : quote ≡ 34 = eq_is quote 34 k in
        subst (λ (x : ℕ). Spells header x bs s) (sym a) (plain_text header bs m s (subst (λ (x : ℕ). (if header then header_of (x ∷ bs) else None) ≡ None) a h) (subst (λ (x : ℕ). close_from 1 x false false bs ≡ Some m) a f) (subst (λ (x : ℕ). s ≡ (quote_kind x, m)) a e))

spells_wide : (header : Bool) (quote : ℕ) (bs : List ℕ) (m : ℕ) (s : Found) → is_quote quote ≡ true → close_from 2 quote false false bs ≡ Some m → s ≡ (quote_kind quote, m) → Spells header 76 (quote ∷ bs) s
spells_wide header quote bs m s q f e = by (either (quote == 39) (quote == 34) q)
  where
    by : ((quote == 39) ≡ true) ⊎ ((quote == 34) ≡ true) → Spells header 76 (quote ∷ bs) s
    by (inl k) =
        let a : quote ≡ 39 = eq_is quote 39 k in
        subst (λ (x : ℕ). Spells header 76 (x ∷ bs) s) (sym a) (wide_char header bs m s (subst (λ (x : ℕ). close_from 2 x false false bs ≡ Some m) a f) (subst (λ (x : ℕ). s ≡ (quote_kind x, m)) a e))
    by (inr k) =
        let a : quote ≡ 34 = eq_is quote 34 k in
        subst (λ (x : ℕ). Spells header 76 (x ∷ bs) s) (sym a) (wide_text header bs m s (subst (λ (x : ℕ). close_from 2 x false false bs ≡ Some m) a f) (subst (λ (x : ℕ). s ≡ (quote_kind x, m)) a e))

spells_literal : (header : Bool) (b : ℕ) (bs : List ℕ) (s : Found) → (if header then header_of (b ∷ bs) else None) ≡ None → literal_of (b ∷ bs) ≡ Some s → Spells header b bs s
spells_literal header b bs s h e = by (literals b bs s e)
  where
    head : (x y : ℕ) (xs ys : List ℕ) → x ∷ xs ≡ y ∷ ys → (x ≡ y) × (xs ≡ ys)
    head x y xs ys e = (cc, cc)

    by : ((b ≡ 76) × Quotes 1 bs s) ⊎ Quotes 0 (b ∷ bs) s → Spells header b bs s
    by (inl (a, q)) = subst (λ (x : ℕ). Spells header x bs s) (sym a) (subst (λ (x : List ℕ). Spells header 76 x s) (sym q.bs_is) (spells_wide header q.quote q.rest q.m s q.quote_is q.found q.s_is))
    by (inr q) =
        let k = head b q.quote bs q.rest q.bs_is in
        spells_plain header b bs q.m s (ap is_quote k.0 ∙ q.quote_is) h
        (ap (λ (x : List ℕ). close_from 1 b false false x) k.1 ∙ ap (λ (x : ℕ). close_from 1 x false false q.rest) k.0 ∙ q.found)
        (q.s_is ∙ ap (λ (x : ℕ). (quote_kind x, q.m)) (sym k.0))

-- a number begins with its first two bytes
number_front : (b : ℕ) (bs : List ℕ) (j : ℕ) → begins_number b bs ≡ true → (begins_digit bs ≡ true → 0 < j) → begins_number b (take j bs) ≡ true
number_front b bs j h f = by (either (is_digit b) ((b == 46) && begins_digit bs) h)
  where
    digit_front : (j : ℕ) (bs : List ℕ) → 0 < j → begins_digit bs ≡ true → begins_digit (take j bs) ≡ true
    digit_front zero bs l h = absurd (omega arith)
    digit_front (suc j) [] l h = absurd cc
    digit_front (suc j) (c ∷ bs) l h = h

    or_true : (a : Bool) → a || true ≡ true
    or_true true = refl
    or_true false = refl

    by : (is_digit b ≡ true) ⊎ (((b == 46) && begins_digit bs) ≡ true) → begins_number b (take j bs) ≡ true
    by (inl d) = rw d refl
    by (inr e) =
        let k = both (b == 46) (begins_digit bs) e in
        rw (k.0, digit_front j bs (f k.1) k.1) (or_true (is_digit b))

number_back : (b : ℕ) (bs : List ℕ) (j : ℕ) → begins_number b bs ≡ false → begins_number b (take j bs) ≡ false
number_back b bs j h = by (begins_number b (take j bs)) refl
  where
    digit_take : (j : ℕ) (bs : List ℕ) → begins_digit (take j bs) ≡ true → begins_digit bs ≡ true
    digit_take zero bs h = absurd cc
    digit_take (suc j) [] h = absurd cc
    digit_take (suc j) (c ∷ bs) h = h

    whole : (is_digit b ≡ true) ⊎ (((b == 46) && begins_digit (take j bs)) ≡ true) → begins_number b bs ≡ true
    whole (inl d) = rw d refl
    whole (inr e) =
        let k = both (b == 46) (begins_digit (take j bs)) e in
        rw (k.0, digit_take j bs k.1) (or_true (is_digit b))
      where
        or_true : (a : Bool) → a || true ≡ true
        or_true true = refl
        or_true false = refl

    by : (t : Bool) → begins_number b (take j bs) ≡ t → t ≡ false
    by true e = absurd (no_both (begins_number b bs) (whole (either (is_digit b) ((b == 46) && begins_digit (take j bs)) e)) h)
    by false e = refl

digit_tail : (b : ℕ) (bs : List ℕ) → begins_digit bs ≡ true → is_tail b (take 1 bs) ≡ true
digit_tail b [] h = absurd cc
digit_tail b (c ∷ bs) h = rw h (by (is_letter c))
  where
    by : (t : Bool) → (((t || true) || (c == 46)) || (((c == 43) || (c == 45)) && ((b == 101) || (b == 69)))) && true ≡ true
    by true = refl
    by false = refl

spells_number : (header : Bool) (b : ℕ) (bs : List ℕ) → begins_number b bs ≡ true → Spells header b bs (Number, tail_from 1 b bs)
spells_number header b bs h =
    let r = tails 1 b bs in
    record { more = r.more; length_is = r.length_is ∙ omega arith; fits = r.fits; class_is = spelled_number header b (take r.more bs) (number_front b bs r.more h (λ d. more_than r.more r.length_is d)) r.each }
  where
    some_byte : (bs : List ℕ) → begins_digit bs ≡ true → 1 ≤ length bs
    some_byte [] d = absurd cc
    some_byte (c ∷ bs) d = omega arith

    more_than : (j : ℕ) → tail_from 1 b bs ≡ 1 + j → begins_digit bs ≡ true → 0 < j
    more_than j e d = let k = tail_bound 1 b 1 bs (digit_tail b bs d) (some_byte bs d) in omega (arith, k, e)

no_punct : (b : ℕ) (bs : List ℕ) → is_punct1 b ≡ false → punct_length (b ∷ bs) ≡ 0
no_punct b [] h = rw h refl
no_punct b (c ∷ []) h = by (is_punct (b ∷ c ∷ [])) refl
  where
    by : (t : Bool) → is_punct (b ∷ c ∷ []) ≡ t → punct_length (b ∷ c ∷ []) ≡ 0
    by true e = absurd (no_both (is_punct1 b) (punct_first b (c ∷ []) e) h)
    by false e = rw (e, h) refl
no_punct b (c ∷ d ∷ bs) h = by (is_punct (b ∷ c ∷ d ∷ [])) refl (is_punct (b ∷ c ∷ [])) refl
  where
    by : (t : Bool) → is_punct (b ∷ c ∷ d ∷ []) ≡ t → (u : Bool) → is_punct (b ∷ c ∷ []) ≡ u → punct_length (b ∷ c ∷ d ∷ bs) ≡ 0
    by true e u f = absurd (no_both (is_punct1 b) (punct_first b (c ∷ d ∷ []) e) h)
    by false e true f = absurd (no_both (is_punct1 b) (punct_first b (c ∷ []) f) h)
    by false e false f = rw (e, f, h) refl

spells_punct : (header : Bool) (b : ℕ) (bs : List ℕ) → (b == 10) ≡ false → is_white b ≡ false → is_letter b ≡ false → begins_number b bs ≡ false → Spells header b bs (punct_or_other (punct_length (b ∷ bs)))
spells_punct header b bs t w l g = by (is_punct1 b) refl
  where
    later : (n : ℕ) → punct_or_other (suc n) ≡ (Punct, suc n)
    later n = let e : (suc n == 0) ≡ false = grind (arith, nat_tests) in rw e refl

    by : (u : Bool) → is_punct1 b ≡ u → Spells header b bs (punct_or_other (punct_length (b ∷ bs)))
    by true p =
        let r = puncts_here b bs p in
        rw (r.length_is, later r.more) (record { more = r.more; length_is = refl; fits = r.fits; class_is = spelled_punct header b (take r.more bs) r.is_one (number_back b bs r.more g) })
    by false p =
        rw (no_punct b bs p) (record { more = 0; length_is = refl; fits = omega arith; class_is = spelled_other header b t w l (neither (is_digit b) ((b == 46) && begins_digit bs) g).0 p })

spells_bare : (header : Bool) (b : ℕ) (bs : List ℕ) → is_white b ≡ false → Spells header b bs (bare_of b bs)
spells_bare header b bs w = by (b == 10) refl (is_letter b) refl (begins_number b bs) refl
  where
    by : (t : Bool) → (b == 10) ≡ t → (u : Bool) → is_letter b ≡ u → (v : Bool) → begins_number b bs ≡ v → Spells header b bs (if t then (LineEnd, 1) else if u then (Name, run_from 1 is_word bs) else if v then (Number, tail_from 1 b bs) else punct_or_other (punct_length (b ∷ bs)))
    by true e u f v g = record { more = 0; length_is = refl; fits = omega arith; class_is = rw e refl }
    by false e true f v g =
        let r = runs 1 is_word bs in
        record { more = r.more; length_is = r.length_is ∙ omega arith; fits = r.fits; class_is = spelled_name header b (take r.more bs) f r.each }
    by false e false f true g = spells_number header b bs g
    by false e false f false g = spells_punct header b bs e w f g

spells_token : (header : Bool) (b : ℕ) (bs : List ℕ) → is_white b ≡ false → Spells header b bs (token_of header b bs)
spells_token header b bs w = pick (if header then header_of (b ∷ bs) else None) refl (literal_of (b ∷ bs)) refl
  where
    at_header : (h : Bool) (s : Found) → (if h then header_of (b ∷ bs) else None) ≡ Some s → Spells h b bs s
    at_header true s e = spells_header b bs s e
    at_header false s e = absurd cc

    pick : (o : Option Found) → (if header then header_of (b ∷ bs) else None) ≡ o → (l : Option Found) → literal_of (b ∷ bs) ≡ l → Spells header b bs (or_else o (or_else l (bare_of b bs)))
    pick (Some s) e l f = at_header header s e
    pick None e (Some s) f = spells_literal header b bs s e f
    pick None e None f = spells_bare header b bs w

-- the token that the lengths give is the one that stands here
pub token_is : (header : Bool) (b : ℕ) (bs : List ℕ) → is_white b ≡ false → IsToken header (b ∷ bs) (token_of header b bs).0 (token_of header b bs).1
token_is header b bs w =
    let s = spells_token header b bs w in
    record {
      fits = omega (arith, s.length_is, s.fits);
      spelled = rw s.length_is s.class_is;
      longest = no_longer;
    }
  where
    no_longer : (m : ℕ) (which : PpKind) → m ≤ length (b ∷ bs) → class_of header (take m (b ∷ bs)) ≡ Some which → m ≤ (token_of header b bs).1
    no_longer zero which l h = omega arith
    no_longer (suc j) which l h = longest header b j bs which (omega arith) h
