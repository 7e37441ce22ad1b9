-- Lines that are not too long.
use Rattle.std.proofs.Common.{◌≡◌, ℕ, zero, suc, List, [], ◌∷◌, ◌++◌, take, drop, refl, sym, ap, ◌∙◌, subst, Bool, true, false, inl, inr, Option, Some, None}
use Rattle.std.specs.Prelude.{◌==◌, ◌&&◌, ◌||◌, not, if◌then◌else◌}
use Rattle.c65_lex.specs.Cells.{Cell, bytes, is_long}
use Rattle.c65_lex.specs.Spellings.{is_white}
use Rattle.c65_lex.specs.Blanks.{Blank, Blanks, blank_of, none, over, unclosed, too_long, past_line, past_comment, past_star, opens}
use Rattle.c65_lex.specs.Next.{long_line, is_any_long, IsLongHere, IsNext}
use Rattle.c65_pieces.specs.Scanned.{opening}
use Rattle.c65_pieces.specs.Given.{ends, AreLines}
use Rattle.c65_pieces.specs.Lines.{is_sound, sound_lines, behind_lines}

pub any_join : (cs xs : List Cell) → is_any_long (cs ++ xs) ≡ is_any_long cs || is_any_long xs
any_join [] xs = refl
any_join (c ∷ cs) xs = by (is_long c) (any_join cs xs)
  where
    by : (t : Bool) → is_any_long (cs ++ xs) ≡ is_any_long cs || is_any_long xs → t || is_any_long (cs ++ xs) ≡ (t || is_any_long cs) || is_any_long xs
    by true i = refl
    by false i = i

pub any_here : (c : Cell) (cs : List Cell) → is_any_long (c ∷ cs) ≡ false → is_long c ≡ false
any_here c cs h = by (is_long c) h
  where
    by : (t : Bool) → t || is_any_long cs ≡ false → t ≡ false
    by true h = absurd cc
    by false h = refl

pub any_rest : (c : Cell) (cs : List Cell) → is_any_long (c ∷ cs) ≡ false → is_any_long cs ≡ false
any_rest c cs h = by (is_long c) h
  where
    by : (t : Bool) → t || is_any_long cs ≡ false → is_any_long cs ≡ false
    by true h = absurd cc
    by false h = h

pub any_drop : (n : ℕ) (cs : List Cell) → is_any_long cs ≡ false → is_any_long (drop n cs) ≡ false
any_drop zero cs h = h
any_drop (suc n) [] h = refl
any_drop (suc n) (c ∷ cs) h = any_drop n cs (any_rest c cs h)

any_take : (n : ℕ) (cs : List Cell) → is_any_long cs ≡ false → is_any_long (take n cs) ≡ false
any_take zero cs h = refl
any_take (suc n) [] h = refl
any_take (suc n) (c ∷ cs) h = rw (any_here c cs h) (any_take n cs (any_rest c cs h))

-- a line that is too long stays so, whatever follows
pub sound_long : (cs xs : List Cell) → is_any_long cs ≡ true → is_sound cs ≡ false → is_sound (cs ++ xs) ≡ false
sound_long [] xs l h = absurd cc
sound_long (c ∷ cs) xs l h = by (c.byte == 10) refl (is_long c) refl (sound_long cs xs)
  where
    by : (t : Bool) → (c.byte == 10) ≡ t → (u : Bool) → is_long c ≡ u → (is_any_long cs ≡ true → is_sound cs ≡ false → is_sound (cs ++ xs) ≡ false) → is_sound (c ∷ cs ++ xs) ≡ false
    by true p u q i = let k : true ≡ false = rw p at h in absurd cc
    by false p true q i = rw (p, rw p at q) refl
    by false p false q i =
        let k : is_sound cs ≡ false = rw (p, rw p at q) at h in
        let m : is_any_long cs ≡ true = rw q at l in
        rw (p, rw p at q) (i m k)

-- whole lines that are not too long, whatever follows
sound_first : (cs xs : List Cell) → ends (bytes cs) ≡ true → is_any_long cs ≡ false → is_sound (cs ++ xs) ≡ true
sound_first [] xs h l = absurd cc
sound_first (c ∷ []) xs h l = rw h refl
sound_first (c ∷ d ∷ cs) xs h l = by (c.byte == 10) (is_long c) (any_here c (d ∷ cs) l) (sound_first (d ∷ cs) xs h (any_rest c (d ∷ cs) l))
  where
    by : (t u : Bool) → u ≡ false → is_sound (d ∷ cs ++ xs) ≡ true → t || (not u && is_sound (d ∷ cs ++ xs)) ≡ true
    by true u e i = refl
    by false true e i = absurd cc
    by false false e i = i

pub sound_join : (cs xs : List Cell) → AreLines cs → is_any_long cs ≡ false → sound_lines (cs ++ xs) ≡ cs ++ sound_lines xs
sound_join [] xs l h = refl
sound_join (c ∷ cs) xs (inl e) h = absurd cc
sound_join (c ∷ []) xs (inr e) h = rw (sound_first (c ∷ []) xs e h) refl
sound_join (c ∷ d ∷ cs) xs (inr e) h = rw (sound_first (c ∷ d ∷ cs) xs e h) (ap (λ (ys : List Cell). c ∷ ys) (sound_join (d ∷ cs) xs (inr e) (any_rest c (d ∷ cs) h)))

pub behind_join : (cs xs : List Cell) → AreLines cs → is_any_long cs ≡ false → behind_lines (cs ++ xs) ≡ behind_lines xs
behind_join [] xs l h = refl
behind_join (c ∷ cs) xs (inl e) h = absurd cc
behind_join (c ∷ []) xs (inr e) h = rw (sound_first (c ∷ []) xs e h) refl
behind_join (c ∷ d ∷ cs) xs (inr e) h = rw (sound_first (c ∷ d ∷ cs) xs e h) (behind_join (d ∷ cs) xs (inr e) (any_rest c (d ∷ cs) h))

pub sound_none : (cs : List Cell) → is_sound cs ≡ false → sound_lines cs ≡ []
sound_none [] h = refl
sound_none (c ∷ cs) h = rw h refl

pub sound_parts : (cs : List Cell) → sound_lines cs ++ behind_lines cs ≡ cs
sound_parts [] = refl
sound_parts (c ∷ cs) = by (is_sound (c ∷ cs)) refl (sound_parts cs)
  where
    by : (t : Bool) → is_sound (c ∷ cs) ≡ t → sound_lines cs ++ behind_lines cs ≡ cs → sound_lines (c ∷ cs) ++ behind_lines (c ∷ cs) ≡ c ∷ cs
    by true e i = rw e (ap (λ (ys : List Cell). c ∷ ys) i)
    by false e i = rw e refl

pub opening_short : (comment : Option ℕ) → is_any_long (opening comment) ≡ false
opening_short None = refl
opening_short (Some line) = refl

-- the beginning of a comment is a line
pub opening_lines : (comment : Option ℕ) → AreLines (opening comment)
opening_lines None = inl refl
opening_lines (Some line) = inr refl

-- among such lines none is too long
abbrev IsFine : Blank → Type 0
IsFine none = Unit {0}
IsFine (over cs) = is_any_long cs ≡ false
IsFine unclosed = Unit {0}
IsFine too_long = ⊥

fine_line : (cs : List Cell) → is_any_long cs ≡ false → IsFine (past_line cs)
fine_line [] h = refl
fine_line (c ∷ cs) h = by (c.byte == 10) (is_long c) (any_here c cs h) (fine_line cs (any_rest c cs h))
  where
    by : (t u : Bool) → u ≡ false → IsFine (past_line cs) → IsFine (if t then over (c ∷ cs) else if u then too_long else past_line cs)
    by true u e i = h
    by false true e i = absurd cc
    by false false e i = i

fine_comment : (star : Bool) (cs : List Cell) → is_any_long cs ≡ false → IsFine (past_comment star cs)
fine_comment star [] h = tt
fine_comment star (c ∷ cs) h = by (star && (c.byte == 47)) (is_long c) (any_here c cs h) (fine_comment (c.byte == 42) cs (any_rest c cs h))
  where
    by : (t u : Bool) → u ≡ false → IsFine (past_comment (c.byte == 42) cs) → IsFine (if u then too_long else if t then over cs else past_comment (c.byte == 42) cs)
    by t true e i = absurd cc
    by true false e i = any_rest c cs h
    by false false e i = i

fine_star : (cs : List Cell) → is_any_long cs ≡ false → IsFine (past_star cs)
fine_star [] h = tt
fine_star (c ∷ cs) h = by (is_long c) (any_here c cs h) (fine_comment false cs (any_rest c cs h))
  where
    by : (u : Bool) → u ≡ false → IsFine (past_comment false cs) → IsFine (if u then too_long else past_comment false cs)
    by true e i = absurd cc
    by false e i = i

fine_blank : (cs : List Cell) → is_any_long cs ≡ false → IsFine (blank_of cs)
fine_blank [] h = tt
fine_blank (c ∷ cs) h = by (is_white c.byte) (is_long c) (any_here c cs h) (opens 47 c cs) (opens 42 c cs)
  where
    by : (t u : Bool) → u ≡ false → (v w : Bool) → IsFine (if t then (if u then too_long else over cs) else if v then past_line (c ∷ cs) else if w then past_star cs else none)
    by true true e v w = absurd cc
    by true false e v w = any_rest c cs h
    by false u e true w = fine_line (c ∷ cs) h
    by false u e false true = fine_star cs (any_rest c cs h)
    by false u e false false = tt

fine_blanks : (n : ℕ) (start cs : List Cell) → is_any_long start ≡ false → Blanks n start cs → is_any_long cs ≡ false
fine_blanks zero start cs h b = ap is_any_long b ∙ h
fine_blanks (suc n) start cs h (x, b, e) = subst IsFine e (fine_blank x (fine_blanks n start x h b))

not_long_here : (header : Bool) (cs : List Cell) → is_any_long cs ≡ false → IsLongHere header cs → ⊥
not_long_here header cs h (inl e) = subst IsFine e (fine_blank cs h)
not_long_here header cs h (inr (e, kind, size, t, l)) = let k : true ≡ false = sym l ∙ any_take size cs h in cc

pub not_long_next : (header : Bool) (start : List Cell) → is_any_long start ≡ false → IsNext header start long_line → ⊥
not_long_next header start h p = not_long_here header p.cells (fine_blanks p.blanks start p.cells h p.behind) p.stands
