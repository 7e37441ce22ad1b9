-- What is read next of a file is decided once, and so is a line of a directive.
use Rattle.std.proofs.Common.{◌≡◌, ◌∙◌, ℕ, zero, suc, List, [], ◌∷◌, ◌++◌, Bool, true, false, Result, Ok, Err, ap, sym, subst}
use Rattle.c65_base.specs.declared.refusal.Pos.{Pos}
use Rattle.c65_base.specs.declared.refusal.Refusal.{Refusal}
use Rattle.c65_lex.specs.Next.{Next}
use Rattle.c65_lex.specs.Unread.{Unread}
use Rattle.c65_lex.specs.declared.token.PpToken.{PpToken}
use Rattle.c65_lex.proofs.Unique.{one_next}
use Rattle.c65_pieces.proofs.ByLines.{one_by_lines}
use Rattle.c65_ppline.specs.declared.line.Line.{Line}
use Rattle.c65_ppline.specs.Lexing.{Lexing, lexed, IsLexed}
use Rattle.c65_pptext.specs.declared.ending.Read.{Read}
use Rattle.c65_pptext.specs.declared.ending.Read.TheVariants as reads
use Rattle.c65_pptext.specs.Kept.{read_of}
use Rattle.c65_pptext.specs.Reading.{TextLeft, IsLexedByLines, IsTextRead, left_behind}
use Rattle.c65_ppdir.specs.Files.{OpenFile}
use Rattle.c65_ppdir.specs.declared.opened.Unseen.{Unseen}
use Rattle.c65_ppdir.specs.Gathering.{Gathering, Gathers, Gathered, allows_header}
use Rattle.c65_ppdir.specs.Opening.{IsReadNext, IsSeenNext, unseen, has_more, past, skipping, skipped}
use Rattle.c65_ppdir.specs.Progress.{Progress, read_next, seen_next, line_read}
use Rattle.c65_ppdir_law.specs.Once.{HasOne}

pub one_lexed : (header : Bool) (old : Unread) (names : List (List ℕ)) (a b : Lexing) → IsLexed header old names a → IsLexed header old names b → a ≡ b
one_lexed header old names a b (n, x, e) (m, y, f) = e ∙ (ap (λ (next : Next). lexed old names next) (one_next header old.cells n m x y) ∙ sym f)

one_lexed_by_lines : (header : Bool) (old : Unread) (names : List (List ℕ)) (a b : Lexing) → IsLexedByLines header old names a → IsLexedByLines header old names b → a ≡ b
one_lexed_by_lines header old names a b (n, x, e) (m, y, f) = e ∙ (ap (λ (next : Next). lexed old names next) (one_by_lines header old.cells n m x y) ∙ sym f)

-- what is read next of a text, and what is left of it
record TextReading : Type 0 where
  what : Read
  left : TextLeft
  known : List (List ℕ)

abbrev kept : Read → TextLeft → List (List ℕ) → TextReading
kept what left known = record { what = what; left = left; known = known }

abbrev text_reading : TextLeft → Lexing → TextReading
text_reading old l = kept (read_of old.ending l.what) (left_behind (read_of old.ending l.what) old l.rest) l.names

is_text_reading : (old : TextLeft) (what : Read) (left : TextLeft) (known : List (List ℕ)) (l : Lexing) → what ≡ read_of old.ending l.what → left ≡ left_behind what old l.rest → known ≡ l.names → kept what left known ≡ text_reading old l
is_text_reading old what left known l a b c =
    ap (λ (x : Read). kept x left known) a
    ∙ (ap (λ (x : TextLeft). kept (read_of old.ending l.what) x known) (b ∙ ap (λ (x : Read). left_behind x old l.rest) a)
    ∙ ap (λ (x : List (List ℕ)). kept (read_of old.ending l.what) (left_behind (read_of old.ending l.what) old l.rest) x) c)

one_text_read : (header : Bool) (old : TextLeft) (names : List (List ℕ)) (what what' : Read) (left left' : TextLeft) (known known' : List (List ℕ)) → IsTextRead header old names what left known → IsTextRead header old names what' left' known' → kept what left known ≡ kept what' left' known'
one_text_read header old names what what' left left' known known' (l, x, a, b, c) (m, y, a', b', c') =
    is_text_reading old what left known l a b c ∙ (ap (λ (z : Lexing). text_reading old z) (one_lexed_by_lines header old.unread names l m x y) ∙ sym (is_text_reading old what' left' known' m a' b' c'))

record Reading : Type 0 where
  what : Read
  left : OpenFile
  known : List (List ℕ)

abbrev reading : Read → OpenFile → List (List ℕ) → Reading
reading what left known = record { what = what; left = left; known = known }

abbrev of_file : OpenFile → TextReading → Reading
of_file file r = reading r.what (record file { text = r.left }) r.known

one_reading : (header : Bool) (file : OpenFile) (names : List (List ℕ)) (what what' : Read) (left left' : OpenFile) (known known' : List (List ℕ)) → IsReadNext header file names what left known → IsReadNext header file names what' left' known' → reading what left known ≡ reading what' left' known'
one_reading header file names what what' left left' known known' (rest, x, a) (rest', x', a') =
    ap (λ (f : OpenFile). reading what f known) a
    ∙ (ap (λ (r : TextReading). of_file file r) (one_text_read header file.text names what what' rest rest' known known' x x')
    ∙ sym (ap (λ (f : OpenFile). reading what' f known') a'))

abbrev with_file : Progress → OpenFile → List (List ℕ) → Progress
with_file p left known = record p { file = left; names = known }

pub one_read_next : (header : Bool) (p : Progress) → HasOne (read_next header p)
one_read_next header p (Ok (r, q)) (Ok (r', q')) d e (left, known, x, a) (left', known', y, b) =
    let same = one_reading header p.file p.names r r' left left' known known' x y in
    ap (λ (q : Progress). Ok (r, q)) a ∙ (ap (λ (k : Reading). Ok (k.what, with_file p k.left k.known)) same ∙ sym (ap (λ (q : Progress). Ok (r', q)) b))
one_read_next header p (Ok x) (Err g) d e a b = absurd b
one_read_next header p (Err g) z d e a b = absurd a

record Seeing : Type 0 where
  what : Unseen
  left : OpenFile

abbrev seeing : Unseen → OpenFile → Seeing
seeing what left = record { what = what; left = left }

one_seeing : (file : OpenFile) (u u' : Unseen) (left left' : OpenFile) → IsSeenNext file u left → IsSeenNext file u' left' → seeing u left ≡ seeing u' left'
one_seeing file u u' left left' (r, known, x, a) (r', known', y, b) =
    let same = one_reading false file [] r r' left left' known known' x y in
    ap (λ (v : Unseen). seeing v left) a ∙ (ap (λ (k : Reading). seeing (unseen k.known k.what) k.left) same ∙ sym (ap (λ (v : Unseen). seeing v left') b))

pub one_seen_next : (p : Progress) → HasOne (seen_next p)
one_seen_next p (Ok (u, q)) (Ok (u', q')) d e (left, x, a) (left', y, b) =
    ap (λ (q : Progress). Ok (u, q)) a ∙ (ap (λ (k : Seeing). Ok (k.what, record p { file = k.left })) (one_seeing p.file u u' left left' x y) ∙ sym (ap (λ (q : Progress). Ok (u', q)) b))
one_seen_next p (Ok x) (Err g) d e a b = absurd b
one_seen_next p (Err g) z d e a b = absurd a

-- the rest of a line that is skipped
one_past : (n m : ℕ) (more : Result Bool Refusal) (file : OpenFile) (y z : Result OpenFile Refusal) → ((file : OpenFile) (y z : Result OpenFile Refusal) → skipping n file y → skipping m file z → y ≡ z) → past (skipping n) more file y → past (skipping m) more file z → y ≡ z
one_past n m (Ok true) file y z h p q = h file y z p q
one_past n m (Ok false) file y z h p q = p ∙ sym q
one_past n m (Err g) file y z h p q = p ∙ sym q

one_skipping : (n m : ℕ) (file : OpenFile) (y z : Result OpenFile Refusal) → skipping n file y → skipping m file z → y ≡ z
one_skipping zero m file y z p q = absurd p
one_skipping (suc n) zero file y z p q = absurd q
one_skipping (suc n) (suc m) file y z (u, left, x, p) (u', left', x', q) =
    let same = one_seeing file u u' left left' x x' in
    one_past n m (has_more u') left' y z (λ f a b g h. one_skipping n m f a b g h) (subst (λ (k : Seeing). past (skipping n) (has_more k.what) k.left y) same p) q

pub one_skipped : (file : OpenFile) → HasOne (skipped file)
one_skipped file y z d e (n, p) (m, q) = one_skipping n m file y z p q

-- the line behind a #
one_gathered : (more more' : List PpToken → Type 0) (hash : Pos) (ts : List PpToken) (r : Read) (file : OpenFile) (names : List (List ℕ)) (g g' : Gathering) → ((us : List PpToken) → more us → more' us → g ≡ g')
    → Gathered more hash ts r file names g → Gathered more' hash ts r file names g' → g ≡ g'
one_gathered more more' hash ts (reads.Token t) file names g g' h p q = h (ts ++ t ∷ []) p q
one_gathered more more' hash ts (reads.LineEnd t) file names g g' h p q = p ∙ sym q
one_gathered more more' hash ts reads.End file names g g' h p q = p ∙ sym q
one_gathered more more' hash ts (reads.Cut cut) file names g g' h p q = p ∙ sym q

one_gathering : (n m : ℕ) (hash : Pos) (ts : List PpToken) (file : OpenFile) (names : List (List ℕ)) (g g' : Gathering) → Gathers n hash ts file names g → Gathers m hash ts file names g' → g ≡ g'
one_gathering zero m hash ts file names g g' p q = absurd p
one_gathering (suc n) zero hash ts file names g g' p q = absurd q
one_gathering (suc n) (suc m) hash ts file names g g' (r, left, known, x, p) (r', left', known', x', q) =
    let same = one_reading (allows_header names ts) file names r r' left left' known known' x x' in
    one_gathered (λ us. Gathers n hash us left' known' g) (λ us. Gathers m hash us left' known' g') hash ts r' left' known' g g' (λ us a b. one_gathering n m hash us left' known' g g' a b)
    (subst (λ (k : Reading). Gathered (λ us. Gathers n hash us k.left k.known g) hash ts k.what k.left k.known g) same p) q

pub one_line_read : (hash : Pos) (p : Progress) → HasOne (line_read hash p)
one_line_read hash p (Ok (l, q)) (Ok (l', q')) d e (g, (n, x), a, b) (g', (m, y), a', b') =
    let same = one_gathering n m hash [] p.file p.names g g' x y in
    ap (λ (k : Line). Ok (k, q)) a ∙ (ap (λ (s : Progress). Ok (g.line, s)) b ∙ (ap (λ (k : Gathering). Ok (k.line, with_file p k.file k.names)) same ∙ sym (ap (λ (k : Line). Ok (k, q')) a' ∙ ap (λ (s : Progress). Ok (g'.line, s)) b')))
one_line_read hash p (Ok x) (Err g) d e a b = absurd b
one_line_read hash p (Err g) z d e a b = absurd a
