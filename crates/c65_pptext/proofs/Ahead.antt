-- A token of the whole lines that were given comes next of the text, with whichever bytes it goes on.
use Rattle.std.proofs.Common.{◌≡◌, ◌∙◌, ℕ, List, [], ◌∷◌, ◌++◌, append_assoc, refl, sym, ap, subst, Bool, true, false, inl, inr, Option, Some, None}
use Rattle.std.specs.Prelude.{◌==◌, ◌&&◌, ◌||◌, not, nat_le, if◌then◌else◌}
use Rattle.c65_lex.specs.declared.token.PpKind.{PpKind}
use Rattle.c65_lex.specs.Cells.{Cell, bytes, is_long}
use Rattle.c65_lex.specs.Next.{ended, token, is_any_long, IsNext}
use Rattle.c65_lex.proofs.Unique.{one_next}
use Rattle.c65_pieces.specs.Given.{ends, AreLines}
use Rattle.c65_pieces.specs.Scanned.{opening}
use Rattle.c65_pieces.specs.Lines.{is_sound, sound_lines, behind_lines, IsNextByLines}
use Rattle.c65_pieces.specs.Pieces.{Pieces, ahead_of, lines_of, text_from}
use Rattle.c65_pieces.proofs.Sound.{sound_none, sound_parts}
use Rattle.c65_pieces.proofs.ByLines.{token_by_lines}

sound_here : (c : Cell) (cs : List Cell) → is_sound (c ∷ cs) ≡ true → is_long c ≡ false
sound_here c cs h = by (c.byte == 10) (nat_le 32767 c.column) (is_sound cs) h
  where
    by : (t u s : Bool) → t || (not (not t && u) && s) ≡ true → not t && u ≡ false
    by true u s h = refl
    by false true s h = absurd cc
    by false false s h = refl

short_lines : (cs : List Cell) → is_any_long (sound_lines cs) ≡ false
short_lines [] = refl
short_lines (c ∷ cs) = by (is_sound (c ∷ cs)) refl (short_lines cs)
  where
    by : (t : Bool) → is_sound (c ∷ cs) ≡ t → is_any_long (sound_lines cs) ≡ false → is_any_long (if t then c ∷ sound_lines cs else []) ≡ false
    by true e i = rw (sound_here c cs e) i
    by false e i = refl

last_sound : (t l s : Bool) → t || (not l && s) ≡ true → s ≡ false → t ≡ true
last_sound true l s h e = refl
last_sound false true s h e = absurd cc
last_sound false false s h e = absurd cc

lines_end : (cs : List Cell) → is_sound cs ≡ true → ends (bytes (sound_lines cs)) ≡ true
lines_end [] h = absurd cc
lines_end (c ∷ []) h = rw h (last_sound (c.byte == 10) (is_long c) false h refl)
lines_end (c ∷ d ∷ cs) h = rw h (by (is_sound (d ∷ cs)) refl (lines_end (d ∷ cs)))
  where
    by : (t : Bool) → is_sound (d ∷ cs) ≡ t → (is_sound (d ∷ cs) ≡ true → ends (bytes (sound_lines (d ∷ cs))) ≡ true) → ends (bytes (c ∷ sound_lines (d ∷ cs))) ≡ true
    by true e i = let k : ends (bytes (d ∷ sound_lines cs)) ≡ true = rw e at (i e) in rw e k
    by false e i = rw e (last_sound (c.byte == 10) (is_long c) (is_sound (d ∷ cs)) h e)

are_lines : (cs : List Cell) → AreLines (sound_lines cs)
are_lines cs = by (is_sound cs) refl
  where
    by : (t : Bool) → is_sound cs ≡ t → AreLines (sound_lines cs)
    by true e = inr (lines_end cs e)
    by false e = inl (sound_none cs e)

opened_lines : (comment : Option ℕ) (cs : List Cell) → AreLines cs → AreLines (opening comment ++ cs)
opened_lines None cs h = h
opened_lines (Some line) [] h = inr refl
opened_lines (Some line) (c ∷ cs) (inl e) = absurd cc
opened_lines (Some line) (c ∷ cs) (inr h) = inr h

opened_short : (comment : Option ℕ) (cs : List Cell) → is_any_long cs ≡ false → is_any_long (opening comment ++ cs) ≡ false
opened_short None cs h = h
opened_short (Some line) cs h = h

-- a token comes next of lines
has_end : (header : Bool) (start : List Cell) (kind : PpKind) (spelling : List ℕ) (line : ℕ) (space : Bool) (rest : List Cell) → AreLines start → IsNext header start (token kind spelling line space rest) → ends (bytes start) ≡ true
has_end header start kind spelling line space rest (inr h) n = h
has_end header start kind spelling line space rest (inl e) n =
    let p : IsNext header [] (token kind spelling line space rest) = subst (λ (cs : List Cell). IsNext header cs (token kind spelling line space rest)) e n in
    let q : IsNext header [] ended = record { blanks = 0; cells = []; behind = refl; stands = refl } in
    let same : token kind spelling line space rest ≡ ended = one_next header [] _ _ p q in
    absurd cc

pub token_ahead : (header : Bool) (p : Pieces) (more : List ℕ) (kind : PpKind) (spelling : List ℕ) (line : ℕ) (space : Bool) (rest : List Cell) → IsNext header (lines_of p) (token kind spelling line space rest)
    → (left : List Cell) × IsNextByLines header (ahead_of p more) (token kind spelling line space left)
token_ahead header p more kind spelling line space rest n =
    let start = lines_of p in
    let behind = behind_lines p.cells ++ text_from p.edge more in
    let lines = opened_lines p.comment (sound_lines p.cells) (are_lines p.cells) in
    let same : start ++ behind ≡ ahead_of p more =
    append_assoc (opening p.comment) (sound_lines p.cells) behind ∙ ap (λ (cs : List Cell). opening p.comment ++ cs) (sym (append_assoc (sound_lines p.cells) (behind_lines p.cells) (text_from p.edge more)) ∙ ap (λ (cs : List Cell). cs ++ text_from p.edge more) (sound_parts p.cells)) in
    let t = token_by_lines header start behind lines (opened_short p.comment (sound_lines p.cells) (short_lines p.cells)) (has_end header start kind spelling line space rest lines n) kind spelling line space rest n in
    (rest ++ behind, subst (λ (cs : List Cell). IsNextByLines header cs (token kind spelling line space (rest ++ behind))) same t)
