-- What is written is read: numbers, bytes, symbols, places.
use Rattle.std.proofs.Common.{◌≡◌, ℕ, zero, suc, ◌+◌, ◌-◌, ◌*◌, ◌/◌, ◌%◌, ◌<◌, ◌≤◌, ◌==◌, ◌&&◌, ◌||◌, not, Bool, true, false, List, [], ◌∷◌, ◌++◌, Option, Some, None, option_map, codes, decimal, nat_lt, refl, sym, ap, ◌∙◌, inl, inr, arith, append_assoc}
use Rattle.std.specs.Prelude.{if◌then◌else◌, is_some}
use Rattle.std.specs.List.{list_all}
use Rattle.std.proofs.lemmas.Bool.{lt-ltb, le-leb, and_parts, and_from, or_left, or_right, ne_eqb, eq-eqb, eqb-true, false≢true}
use Rattle.std.proofs.lemmas.Slice.Eq.{bytes_eq-Decides}
use Rattle.std.proofs.lemmas.Fmt.{decimal_by_steps}
use Rattle.c65_base.specs.Lines.{hex_digit}
use Rattle.c65_code.specs.Writable.{is_between, is_letter, is_letter_or_digit, is_external, IsNumbered, IsSpelling}
use Rattle.c65_asm.specs.Text.{byte_text}
use Rattle.c65_asm.specs.Words.{and_read, is_digit, with_digit, with_digits, as_written, number_in, hex_value, byte_in, is_numbered, is_symbol, cut_at, short_offset, place_in}

-- numbers

with_digits-push : (n : ℕ) (ds : List ℕ) (d : ℕ) → with_digits n (ds ++ d ∷ []) ≡ and_read (with_digits n ds) (λ m. with_digit m d)
with_digits-push n [] d = last (with_digit n d)
  where
    last : (o : Option ℕ) → and_read o (λ m. Some m) ≡ o
    last None = refl
    last (Some m) = refl
with_digits-push n (c ∷ ds) d = next (with_digit n c) (λ m. with_digits-push m ds d)
  where
    next : (o : Option ℕ) → ((m : ℕ) → with_digits m (ds ++ d ∷ []) ≡ and_read (with_digits m ds) (λ m. with_digit m d)) → and_read o (λ m. with_digits m (ds ++ d ∷ [])) ≡ and_read (and_read o (λ m. with_digits m ds)) (λ m. with_digit m d)
    next None more = refl
    next (Some m) more = more m

with_one : (n r : ℕ) → r < 10 → n * 10 + r < 4294967296 → with_digit n (48 + r) ≡ Some (n * 10 + r)
with_one n r h g =
    let e : 48 + r - 48 ≡ r = omega arith in
    let a : is_digit (48 + r) ≡ true = and_from _ _ (le-leb 48 (48 + r) (omega arith)) (le-leb (48 + r) 57 (omega arith)) in
    let b : nat_lt (n * 10 + (48 + r - 48)) 4294967296 ≡ true = lt-ltb _ _ (omega arith) in
    ap (λ (t : Bool). if t then Some (n * 10 + (48 + r - 48)) else None) (and_from _ _ a b) ∙ ap (λ (k : ℕ). Some (n * 10 + k)) e

digits_read : (n : ℕ) → n < 18446744073709551616 → n < 4294967296 → with_digits 0 (decimal n) ≡ Some n
digits_read = decimal_by_steps (λ n ds. n < 4294967296 → with_digits 0 ds ≡ Some n) one more
  where
    one : (n : ℕ) → n < 10 → n < 4294967296 → with_digits 0 ((48 + n) ∷ []) ≡ Some n
    one n h g =
        let e : 0 * 10 + n ≡ n = omega arith in
        with_digits-push 0 [] (48 + n) ∙ with_one 0 n h (omega arith) ∙ ap Some e

    more : (n : ℕ) (ds : List ℕ) → 10 ≤ n → (n / 10 < 4294967296 → with_digits 0 ds ≡ Some (n / 10)) → n < 4294967296 → with_digits 0 (ds ++ (48 + n % 10) ∷ []) ≡ Some n
    more n ds h ih g =
        let e : n / 10 * 10 + n % 10 ≡ n = omega arith in
        with_digits-push 0 ds (48 + n % 10)
        ∙ ap (λ (o : Option ℕ). and_read o (λ m. with_digit m (48 + n % 10))) (ih (omega arith))
        ∙ with_one (n / 10) (n % 10) (omega arith) (omega arith)
        ∙ ap Some e

-- the digits of a number of 32 bits are read as it
pub number_read : (n : ℕ) → n < 4294967296 → number_in (decimal n) ≡ Some n
number_read n h =
    ap (λ (o : Option ℕ). and_read o (as_written (decimal n))) (digits_read n (omega arith) h)
    ∙ ap (λ (t : Bool). if t then Some n else None) ((bytes_eq-Decides (decimal n) (decimal n)).1 refl)

-- bytes

hex_read : (d : ℕ) → d < 16 → hex_value (hex_digit d) ≡ Some d
hex_read zero h = refl
hex_read (suc zero) h = refl
hex_read (suc (suc zero)) h = refl
hex_read (suc (suc (suc zero))) h = refl
hex_read (suc (suc (suc (suc zero)))) h = refl
hex_read (suc (suc (suc (suc (suc zero))))) h = refl
hex_read (suc (suc (suc (suc (suc (suc zero)))))) h = refl
hex_read (suc (suc (suc (suc (suc (suc (suc zero))))))) h = refl
hex_read (suc (suc (suc (suc (suc (suc (suc (suc zero)))))))) h = refl
hex_read (suc (suc (suc (suc (suc (suc (suc (suc (suc zero))))))))) h = refl
hex_read (suc (suc (suc (suc (suc (suc (suc (suc (suc (suc zero)))))))))) h = refl
hex_read (suc (suc (suc (suc (suc (suc (suc (suc (suc (suc (suc zero))))))))))) h = refl
hex_read (suc (suc (suc (suc (suc (suc (suc (suc (suc (suc (suc (suc zero)))))))))))) h = refl
hex_read (suc (suc (suc (suc (suc (suc (suc (suc (suc (suc (suc (suc (suc zero))))))))))))) h = refl
hex_read (suc (suc (suc (suc (suc (suc (suc (suc (suc (suc (suc (suc (suc (suc zero)))))))))))))) h = refl
hex_read (suc (suc (suc (suc (suc (suc (suc (suc (suc (suc (suc (suc (suc (suc (suc zero))))))))))))))) h = refl
hex_read (suc (suc (suc (suc (suc (suc (suc (suc (suc (suc (suc (suc (suc (suc (suc (suc n)))))))))))))))) h = absurd (omega arith)

pub byte_read : (v : ℕ) → v < 256 → byte_in (byte_text v) ≡ Some v
byte_read v h =
    let e : v / 16 * 16 + v % 16 ≡ v = omega arith in
    ap (λ (o : Option ℕ). and_read o (λ a. option_map (λ b. a * 16 + b) (hex_value (hex_digit (v % 16))))) (hex_read (v / 16) (omega arith))
    ∙ ap (λ (o : Option ℕ). option_map (λ b. v / 16 * 16 + b) o) (hex_read (v % 16) (omega arith))
    ∙ ap Some e

-- what stands before a mark

abbrev pub lacks : ℕ → List ℕ → Bool
lacks mark [] = true
lacks mark (byte ∷ text) = not (byte == mark) && lacks mark text

pub lacks-append : (mark : ℕ) (a b : List ℕ) → lacks mark a ≡ true → lacks mark b ≡ true → lacks mark (a ++ b) ≡ true
lacks-append mark [] b h g = g
lacks-append mark (c ∷ a) b h g =
    let p = and_parts (not (c == mark)) (lacks mark a) h in
    and_from _ _ p.0 (lacks-append mark a b p.1 g)

not_true : (t : Bool) → not t ≡ true → t ≡ false
not_true true h = sym h
not_true false h = refl

pub cut_there : (mark : ℕ) (a b : List ℕ) → lacks mark a ≡ true → cut_at mark (a ++ mark ∷ b) ≡ Some (a, b)
cut_there mark [] b h = ap (λ (t : Bool). if t then Some ([], b) else option_map (λ (p : List ℕ × List ℕ). (mark ∷ p.0, p.1)) (cut_at mark b)) (same mark)
  where
    same : (n : ℕ) → (n == n) ≡ true
    same n = eq-eqb n n refl
cut_there mark (c ∷ a) b h =
    let p = and_parts (not (c == mark)) (lacks mark a) h in
    ap (λ (t : Bool). if t then Some ([], a ++ mark ∷ b) else option_map (λ (p : List ℕ × List ℕ). (c ∷ p.0, p.1)) (cut_at mark (a ++ mark ∷ b))) (not_true (c == mark) p.0)
    ∙ ap (λ (o : Option (List ℕ × List ℕ)). option_map (λ (p : List ℕ × List ℕ). (c ∷ p.0, p.1)) o) (cut_there mark a b p.1)

pub cut_nowhere : (mark : ℕ) (a : List ℕ) → lacks mark a ≡ true → cut_at mark a ≡ None
cut_nowhere mark [] h = refl
cut_nowhere mark (c ∷ a) h =
    let p = and_parts (not (c == mark)) (lacks mark a) h in
    ap (λ (t : Bool). if t then Some ([], a) else option_map (λ (p : List ℕ × List ℕ). (c ∷ p.0, p.1)) (cut_at mark a)) (not_true (c == mark) p.0)
    ∙ ap (λ (o : Option (List ℕ × List ℕ)). option_map (λ (p : List ℕ × List ℕ). (c ∷ p.0, p.1)) o) (cut_nowhere mark a p.1)

-- words of letters and digits lack the marks

abbrev pub is_word : List ℕ → Bool
is_word text = list_all is_letter_or_digit text

pub word-append : (a b : List ℕ) → is_word a ≡ true → is_word b ≡ true → is_word (a ++ b) ≡ true
word-append [] b h g = g
word-append (c ∷ a) b h g =
    let p = and_parts (is_letter_or_digit c) (is_word a) h in
    and_from _ _ p.0 (word-append a b p.1 g)

pub word_lacks : (mark : ℕ) (a : List ℕ) → is_letter_or_digit mark ≡ false → is_word a ≡ true → lacks mark a ≡ true
word_lacks mark [] m h = refl
word_lacks mark (c ∷ a) m h =
    let p = and_parts (is_letter_or_digit c) (is_word a) h in
    let e : (c == mark) ≡ false = ne_eqb c mark (λ e. false≢true (sym m ∙ ap is_letter_or_digit (sym e) ∙ p.0)) in
    and_from _ _ (ap not e) (word_lacks mark a m p.1)

digit_in_word : (d : ℕ) → d < 10 → is_letter_or_digit (48 + d) ≡ true
digit_in_word zero h = refl
digit_in_word (suc zero) h = refl
digit_in_word (suc (suc zero)) h = refl
digit_in_word (suc (suc (suc zero))) h = refl
digit_in_word (suc (suc (suc (suc zero)))) h = refl
digit_in_word (suc (suc (suc (suc (suc zero))))) h = refl
digit_in_word (suc (suc (suc (suc (suc (suc zero)))))) h = refl
digit_in_word (suc (suc (suc (suc (suc (suc (suc zero))))))) h = refl
digit_in_word (suc (suc (suc (suc (suc (suc (suc (suc zero)))))))) h = refl
digit_in_word (suc (suc (suc (suc (suc (suc (suc (suc (suc zero))))))))) h = refl
digit_in_word (suc (suc (suc (suc (suc (suc (suc (suc (suc (suc n)))))))))) h = absurd (omega arith)

decimal_word_wide : (n : ℕ) → n < 18446744073709551616 → is_word (decimal n) ≡ true
decimal_word_wide = decimal_by_steps (λ n ds. is_word ds ≡ true) (λ n h. and_from _ _ (digit_in_word n h) refl) (λ n ds h ih. word-append ds ((48 + n % 10) ∷ []) ih (and_from _ _ (digit_in_word (n % 10) (omega arith)) refl))

pub decimal_word : (n : ℕ) → n < 4294967296 → is_word (decimal n) ≡ true
decimal_word n h = decimal_word_wide n (omega arith)

hex_in_word : (d : ℕ) → d < 16 → is_letter_or_digit (hex_digit d) ≡ true
hex_in_word zero h = refl
hex_in_word (suc zero) h = refl
hex_in_word (suc (suc zero)) h = refl
hex_in_word (suc (suc (suc zero))) h = refl
hex_in_word (suc (suc (suc (suc zero)))) h = refl
hex_in_word (suc (suc (suc (suc (suc zero))))) h = refl
hex_in_word (suc (suc (suc (suc (suc (suc zero)))))) h = refl
hex_in_word (suc (suc (suc (suc (suc (suc (suc zero))))))) h = refl
hex_in_word (suc (suc (suc (suc (suc (suc (suc (suc zero)))))))) h = refl
hex_in_word (suc (suc (suc (suc (suc (suc (suc (suc (suc zero))))))))) h = refl
hex_in_word (suc (suc (suc (suc (suc (suc (suc (suc (suc (suc zero)))))))))) h = refl
hex_in_word (suc (suc (suc (suc (suc (suc (suc (suc (suc (suc (suc zero))))))))))) h = refl
hex_in_word (suc (suc (suc (suc (suc (suc (suc (suc (suc (suc (suc (suc zero)))))))))))) h = refl
hex_in_word (suc (suc (suc (suc (suc (suc (suc (suc (suc (suc (suc (suc (suc zero))))))))))))) h = refl
hex_in_word (suc (suc (suc (suc (suc (suc (suc (suc (suc (suc (suc (suc (suc (suc zero)))))))))))))) h = refl
hex_in_word (suc (suc (suc (suc (suc (suc (suc (suc (suc (suc (suc (suc (suc (suc (suc zero))))))))))))))) h = refl
hex_in_word (suc (suc (suc (suc (suc (suc (suc (suc (suc (suc (suc (suc (suc (suc (suc (suc n)))))))))))))))) h = absurd (omega arith)

pub byte_lacks : (mark v : ℕ) → is_letter_or_digit mark ≡ false → (36 == mark) ≡ false → v < 256 → lacks mark (byte_text v) ≡ true
byte_lacks mark v m d h =
    and_from _ _ (ap not d) (word_lacks mark (hex_digit (v / 16) ∷ hex_digit (v % 16) ∷ []) m (and_from _ _ (hex_in_word (v / 16) (omega arith)) (and_from _ _ (hex_in_word (v % 16) (omega arith)) refl)))

-- symbols

numbered_is : (letter : ℕ) (text : List ℕ) → ((letter == 115) || (letter == 113)) ≡ true → IsNumbered letter text → is_numbered text ≡ true
numbered_is letter text l (n, small, e) = ap is_numbered e ∙ and_from _ _ l (ap (λ (o : Option ℕ). is_some o) (number_read n small))

pub symbol_is : (text : List ℕ) → IsSpelling text → is_symbol text ≡ true
symbol_is text (inl h) = or_left (is_external text) (is_numbered text) h
symbol_is text (inr (inl h)) = or_right (is_external text) (is_numbered text) (numbered_is 115 text refl h)
symbol_is text (inr (inr h)) = or_right (is_external text) (is_numbered text) (numbered_is 113 text refl h)

letter_in_word : (c : ℕ) → is_letter c ≡ true → is_letter_or_digit c ≡ true
letter_in_word c h = or_left (is_letter c) (is_between 48 57 c) h

external_word : (text : List ℕ) → is_external text ≡ true → is_word text ≡ true
external_word [] h = absurd (false≢true h)
external_word (u ∷ []) h = absurd (false≢true h)
external_word (u ∷ first ∷ rest) h =
    let p = and_parts (u == 95) (is_letter first && list_all is_letter_or_digit rest) h in
    let q = and_parts (is_letter first) (list_all is_letter_or_digit rest) p.1 in
    let e : u ≡ 95 = eqb-true u 95 p.0 in
    and_from _ _ (ap is_letter_or_digit e) (and_from _ _ (letter_in_word first q.0) q.1)

numbered_word : (letter : ℕ) (text : List ℕ) → is_letter_or_digit letter ≡ true → IsNumbered letter text → is_word text ≡ true
numbered_word letter text l (n, small, e) = ap is_word e ∙ and_from _ _ l (decimal_word n small)

pub spelling_word : (text : List ℕ) → IsSpelling text → is_word text ≡ true
spelling_word text (inl h) = external_word text h
spelling_word text (inr (inl h)) = numbered_word 115 text refl h
spelling_word text (inr (inr h)) = numbered_word 113 text refl h

-- places

pub place_read : (symbol : List ℕ) (offset : ℕ) → IsSpelling symbol → offset < 65536 → place_in ((symbol ++ codes "+") ++ decimal offset) ≡ Some (symbol, offset)
place_read symbol offset s h =
    ap place_in (append_assoc symbol (codes "+") (decimal offset))
    ∙ ap (λ (o : Option (List ℕ × List ℕ)). and_read o (λ p. and_read (number_in p.1) (short_offset p.0))) (cut_there 43 symbol (decimal offset) (word_lacks 43 symbol refl (spelling_word symbol s)))
    ∙ ap (λ (o : Option ℕ). and_read o (short_offset symbol)) (number_read offset (omega arith))
    ∙ ap (λ (t : Bool). if t then Some (symbol, offset) else None) (and_from _ _ (lt-ltb offset 65536 h) (symbol_is symbol s))
