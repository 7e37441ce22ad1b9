-- White space and comments (C90 6.1 and 6.1.9).
use Rattle.std.specs.Prelude.{◌≡◌, ℕ, zero, suc, List, [], ◌∷◌, Bool, false, ◌==◌, ◌&&◌, if◌then◌else◌}
use Rattle.c65_lex.specs.Cells.{Cell, is_long, bytes, begins_with, ahead}
use Rattle.c65_lex.specs.declared.blanks.Gap.{Gap}
use Rattle.c65_lex.specs.declared.blanks.Gap.TheVariants.{Nothing, Over, Unclosed, TooLong}
use Rattle.c65_lex.specs.Spellings.{is_white}

-- what stands here: no white space and no comment; one of them, and what is behind it; a comment
-- without its end; or one in which a line is too long
pub data Blank : Type 0 where
  none : Blank
  over : List Cell → Blank
  unclosed : Blank
  too_long : Blank

-- behind // a comment goes on to the end of its line
abbrev pub past_line : List Cell → Blank
past_line [] = over []
past_line (c ∷ cs) = if c.byte == 10 then over (c ∷ cs) else if is_long c then too_long else past_line cs

-- behind /* it goes on to the first * that stands before a /
abbrev pub past_comment : Bool → List Cell → Blank
past_comment star [] = unclosed
past_comment star (c ∷ cs) = if is_long c then too_long else if star && (c.byte == 47) then over cs else past_comment (c.byte == 42) cs

abbrev pub past_star : List Cell → Blank
past_star [] = unclosed
past_star (c ∷ cs) = if is_long c then too_long else past_comment false cs

abbrev pub opens : ℕ → Cell → List Cell → Bool
opens b c cs = (c.byte == 47) && begins_with b (bytes cs)

-- the white space or the comment that begins here
abbrev pub blank_of : List Cell → Blank
blank_of [] = none
blank_of (c ∷ cs) = if is_white c.byte then (if is_long c then too_long else over cs) else if opens 47 c cs then past_line (c ∷ cs) else if opens 42 c cs then past_star cs else none

-- n times white space or a comment lead from one place to another
abbrev pub Blanks : ℕ → List Cell → List Cell → Type 0
Blanks zero start now = now ≡ start
Blanks (suc n) start now = (before : List Cell) × Blanks n start before × (blank_of before ≡ over now)

-- what a place behind a gap of the code is
abbrev pub blank_in : List ℕ → Gap → Blank
blank_in text Nothing = none
blank_in text (Over place) = over (ahead text place)
blank_in text Unclosed = unclosed
blank_in text TooLong = too_long
