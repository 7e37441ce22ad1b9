-- Where a line has its end, what stands behind it says nothing of the tokens before it.
use Rattle.std.proofs.Common.{◌≡◌, ℕ, ◌+◌, List, [], ◌∷◌, ◌++◌, refl, sym, ap, ◌∙◌, arith, Bool, true, false}
use Rattle.std.specs.Prelude.{◌==◌, ◌&&◌, ◌||◌, not}
use Rattle.std.proofs.lemmas.Bool.Decides.{nat_tests}
use Rattle.c65_lex.specs.declared.token.PpKind.TheVariants.{Name, Number, Header}
use Rattle.c65_lex.specs.Spellings.{is_letter, is_word, continues, begins_number, begins_header, header_close, takes_next, is_punct3}
use Rattle.c65_lex.specs.Lengths.{run_from, tail_from, close_from, with_kind, quote_kind, quoted_of, literal_of, header_of, punct_length, punct_or_other, bare_of, token_of}
use Rattle.c65_pieces.specs.Given.{ends}
use Rattle.c65_lex.proofs.Bytes.{eq_is, and_false}

pub ends_rest : (b : ℕ) (bs : List ℕ) → ends (b ∷ bs) ≡ true → (b == 10) ≡ false → ends bs ≡ true
ends_rest b [] h f = let k : true ≡ false = sym h ∙ f in absurd cc
ends_rest b (c ∷ bs) h f = h

run_more : (n : ℕ) (p : ℕ → Bool) (bs zs : List ℕ) → p 10 ≡ false → ends bs ≡ true → run_from n p (bs ++ zs) ≡ run_from n p bs
run_more n p [] zs f h = absurd cc
run_more n p (b ∷ bs) zs f h = by (p b) refl (b == 10) refl (run_more (n + 1) p bs zs f)
  where
    by : (t : Bool) → p b ≡ t → (u : Bool) → (b == 10) ≡ u → (ends bs ≡ true → run_from (n + 1) p (bs ++ zs) ≡ run_from (n + 1) p bs) → run_from n p (b ∷ bs ++ zs) ≡ run_from n p (b ∷ bs)
    by false e u g i = rw e refl
    by true e true g i = let k : true ≡ false = sym e ∙ ap p (eq_is b 10 g) ∙ f in absurd cc
    by true e false g i = rw e (i (ends_rest b bs h g))

tail_more : (n before : ℕ) (bs zs : List ℕ) → ends bs ≡ true → tail_from n before (bs ++ zs) ≡ tail_from n before bs
tail_more n before [] zs h = absurd cc
tail_more n before (b ∷ bs) zs h = by (continues before b) refl (b == 10) refl (tail_more (n + 1) b bs zs)
  where
    by : (t : Bool) → continues before b ≡ t → (u : Bool) → (b == 10) ≡ u → (ends bs ≡ true → tail_from (n + 1) b (bs ++ zs) ≡ tail_from (n + 1) b bs) → tail_from n before (b ∷ bs ++ zs) ≡ tail_from n before (b ∷ bs)
    by false e u g i = rw e refl
    by true e true g i = let k : true ≡ false = sym e ∙ ap (continues before) (eq_is b 10 g) in absurd cc
    by true e false g i = rw e (i (ends_rest b bs h g))

close_more : (n quote : ℕ) (plain taken : Bool) (bs zs : List ℕ) → ends bs ≡ true → close_from n quote plain taken (bs ++ zs) ≡ close_from n quote plain taken bs
close_more n quote plain taken [] zs h = absurd cc
close_more n quote plain taken (b ∷ bs) zs h = by (b == 10) refl (not taken && (b == quote)) refl (close_more (n + 1) quote plain (takes_next plain taken b) bs zs)
  where
    by : (t : Bool) → (b == 10) ≡ t → (u : Bool) → not taken && (b == quote) ≡ u → (ends bs ≡ true → close_from (n + 1) quote plain (takes_next plain taken b) (bs ++ zs) ≡ close_from (n + 1) quote plain (takes_next plain taken b) bs) → close_from n quote plain taken (b ∷ bs ++ zs) ≡ close_from n quote plain taken (b ∷ bs)
    by true e u g i = rw e refl
    by false e true g i = rw (e, g) refl
    by false e false g i = rw (e, g) (i (ends_rest b bs h e))

no_third : (b c d : ℕ) → (b == 10) ≡ false → c ≡ 10 → is_punct3 b c d ≡ false
no_third b c d e f = let k : (10 == b) ≡ false = grind (arith, nat_tests) in rw (f, k, and_false (b == 46) false refl) refl

punct_more : (b : ℕ) (bs zs : List ℕ) → (b == 10) ≡ false → ends bs ≡ true → punct_length (b ∷ bs ++ zs) ≡ punct_length (b ∷ bs)
punct_more b [] zs e h = absurd cc
punct_more b (c ∷ []) [] e h = refl
punct_more b (c ∷ []) (d ∷ zs) e h = rw (no_third b c d e (eq_is c 10 h)) refl
punct_more b (c ∷ d ∷ bs) zs e h = refl

digit_more : (b : ℕ) (bs zs : List ℕ) → ends bs ≡ true → begins_number b (bs ++ zs) ≡ begins_number b bs
digit_more b [] zs h = absurd cc
digit_more b (c ∷ bs) zs h = refl

bare_more : (b : ℕ) (bs zs : List ℕ) → ends (b ∷ bs) ≡ true → bare_of b (bs ++ zs) ≡ bare_of b bs
bare_more b bs zs h = by (b == 10) refl (is_letter b) refl (begins_number b bs) refl
  where
    by : (t : Bool) → (b == 10) ≡ t → (u : Bool) → is_letter b ≡ u → (v : Bool) → begins_number b bs ≡ v → bare_of b (bs ++ zs) ≡ bare_of b bs
    by true e u f v g = rw e refl
    by false e true f v g = rw (e, f) (ap (λ (n : ℕ). (Name, n)) (run_more 1 is_word bs zs refl (ends_rest b bs h e)))
    by false e false f true g = rw (e, f, digit_more b bs zs (ends_rest b bs h e), g) (ap (λ (n : ℕ). (Number, n)) (tail_more 1 b bs zs (ends_rest b bs h e)))
    by false e false f false g = rw (e, f, digit_more b bs zs (ends_rest b bs h e), g) (ap punct_or_other (punct_more b bs zs e (ends_rest b bs h e)))

quote_no_end : (b : ℕ) → (b == 39) || (b == 34) ≡ true → (b == 10) ≡ false
quote_no_end b h = grind (arith, nat_tests)

quoted_more : (n : ℕ) (bs zs : List ℕ) → ends bs ≡ true → quoted_of n (bs ++ zs) ≡ quoted_of n bs
quoted_more n [] zs h = absurd cc
quoted_more n (b ∷ bs) zs h = by ((b == 39) || (b == 34)) refl
  where
    by : (t : Bool) → (b == 39) || (b == 34) ≡ t → quoted_of n (b ∷ bs ++ zs) ≡ quoted_of n (b ∷ bs)
    by true e = rw e (ap (with_kind (quote_kind b)) (close_more (n + 1) b false false bs zs (ends_rest b bs h (quote_no_end b e))))
    by false e = rw e refl

literal_more : (b : ℕ) (bs zs : List ℕ) → ends (b ∷ bs) ≡ true → literal_of (b ∷ bs ++ zs) ≡ literal_of (b ∷ bs)
literal_more b bs zs h = by (b == 76) refl
  where
    by : (t : Bool) → (b == 76) ≡ t → literal_of (b ∷ bs ++ zs) ≡ literal_of (b ∷ bs)
    by true e = let f : (b == 10) ≡ false = grind (arith, nat_tests) in rw e (quoted_more 1 bs zs (ends_rest b bs h f))
    by false e = rw e (quoted_more 0 (b ∷ bs) zs h)

no_header_end : (b : ℕ) (zs : List ℕ) → b ≡ 10 → begins_header (b ∷ zs) ≡ false
no_header_end b [] e = refl
no_header_end b (z ∷ zs) e = rw e refl

begins_more : (b : ℕ) (bs zs : List ℕ) → ends (b ∷ bs) ≡ true → begins_header (b ∷ bs ++ zs) ≡ begins_header (b ∷ bs)
begins_more b [] zs h = no_header_end b zs (eq_is b 10 h)
begins_more b (c ∷ bs) zs h = refl

header_no_end : (b : ℕ) (bs : List ℕ) → begins_header (b ∷ bs) ≡ true → (b == 10) ≡ false
header_no_end b bs h = by (b == 10) refl
  where
    by : (t : Bool) → (b == 10) ≡ t → t ≡ false
    by true e = let k : true ≡ false = sym h ∙ no_header_end b bs (eq_is b 10 e) in absurd cc
    by false e = refl

header_more : (b : ℕ) (bs zs : List ℕ) → ends (b ∷ bs) ≡ true → header_of (b ∷ bs ++ zs) ≡ header_of (b ∷ bs)
header_more b bs zs h = by (begins_header (b ∷ bs)) refl
  where
    by : (t : Bool) → begins_header (b ∷ bs) ≡ t → header_of (b ∷ bs ++ zs) ≡ header_of (b ∷ bs)
    by true e = rw (begins_more b bs zs h, e) (ap (with_kind Header) (close_more 1 (header_close b) true false bs zs (ends_rest b bs h (header_no_end b bs e))))
    by false e = rw (begins_more b bs zs h, e) refl

-- the token that begins on a line is the same whatever follows the line
pub token_more : (header : Bool) (b : ℕ) (bs zs : List ℕ) → ends (b ∷ bs) ≡ true → token_of header b (bs ++ zs) ≡ token_of header b bs
token_more true b bs zs h = rw (header_more b bs zs h, literal_more b bs zs h, bare_more b bs zs h) refl
token_more false b bs zs h = rw (literal_more b bs zs h, bare_more b bs zs h) refl
