-- White space and comments, one after another.
use Rattle.std.proofs.Common.{◌≡◌, ℕ, ◌<◌, ◌≤◌, List, [], ◌∷◌, length, refl, sym, arith, Bool, true, false}
use Rattle.std.specs.Prelude.{◌==◌, ◌&&◌}
use Rattle.std.proofs.lemmas.Bool.Decides.{nat_tests}
use Rattle.c65_lex.specs.Cells.{Cell, is_long}
use Rattle.c65_lex.specs.Spellings.{is_white}
use Rattle.c65_lex.specs.Blanks.{none, over, too_long, past_line, past_comment, past_star, opens, blank_of}

over_is : (a b : List Cell) → over a ≡ over b → a ≡ b
over_is a b e = cc

line_within : (cs after : List Cell) → past_line cs ≡ over after → length after ≤ length cs
line_within [] after e = let k = over_is [] after e in rw (sym k) (omega arith)
line_within (c ∷ cs) after e = by (c.byte == 10) refl (is_long c) refl (line_within cs after)
  where
    by : (t : Bool) → (c.byte == 10) ≡ t → (u : Bool) → is_long c ≡ u → (past_line cs ≡ over after → length after ≤ length cs) → length after ≤ length (c ∷ cs)
    by true p u q h = let f : over (c ∷ cs) ≡ over after = rw p at e in rw (sym (over_is (c ∷ cs) after f)) (omega arith)
    by false p true q h = let f : too_long ≡ over after = rw (p, rw p at q) at e in absurd cc
    by false p false q h = let f : past_line cs ≡ over after = rw (p, rw p at q) at e in omega (arith, h f)

comment_within : (star : Bool) (cs after : List Cell) → past_comment star cs ≡ over after → length after < length cs
comment_within star [] after e = absurd cc
comment_within star (c ∷ cs) after e = by (is_long c) refl (star && (c.byte == 47)) refl (comment_within (c.byte == 42) cs after)
  where
    by : (t : Bool) → is_long c ≡ t → (u : Bool) → star && (c.byte == 47) ≡ u → (past_comment (c.byte == 42) cs ≡ over after → length after < length cs) → length after < length (c ∷ cs)
    by true p u q h = let f : too_long ≡ over after = rw p at e in absurd cc
    by false p true q h = let f : over cs ≡ over after = rw (p, q) at e in rw (sym (over_is cs after f)) (omega arith)
    by false p false q h = let f : past_comment (c.byte == 42) cs ≡ over after = rw (p, q) at e in omega (arith, h f)

star_within : (cs after : List Cell) → past_star cs ≡ over after → length after < length cs
star_within [] after e = absurd cc
star_within (c ∷ cs) after e = by (is_long c) refl
  where
    by : (t : Bool) → is_long c ≡ t → length after < length (c ∷ cs)
    by true p = let f : too_long ≡ over after = rw p at e in absurd cc
    by false p = let f : past_comment false cs ≡ over after = rw p at e in omega (arith, comment_within false cs after f)

opens_slash : (b : ℕ) (c : Cell) (cs : List Cell) → opens b c cs ≡ true → c.byte == 10 ≡ false
opens_slash b c cs h = by (c.byte == 47) refl
  where
    by : (t : Bool) → (c.byte == 47) ≡ t → c.byte == 10 ≡ false
    by true p = grind (arith, nat_tests)
    by false p = let f : false ≡ true = rw p at h in absurd cc

-- each leads on
pub over_shorter : (cs after : List Cell) → blank_of cs ≡ over after → length after < length cs
over_shorter [] after e = absurd cc
over_shorter (c ∷ cs) after e = by (is_white c.byte) refl (is_long c) refl (opens 47 c cs) refl (opens 42 c cs) refl
  where
    by : (t : Bool) → is_white c.byte ≡ t → (u : Bool) → is_long c ≡ u → (v : Bool) → opens 47 c cs ≡ v → (w : Bool) → opens 42 c cs ≡ w → length after < length (c ∷ cs)
    by true p true q v r w s = let f : too_long ≡ over after = rw (p, q) at e in absurd cc
    by true p false q v r w s = let f : over cs ≡ over after = rw (p, q) at e in rw (sym (over_is cs after f)) (omega arith)
    by false p true q true r w s = let f : too_long ≡ over after = rw (p, r, opens_slash 47 c cs r, rw (opens_slash 47 c cs r) at q) at e in absurd cc
    by false p false q true r w s = let f : past_line cs ≡ over after = rw (p, r, opens_slash 47 c cs r, rw (opens_slash 47 c cs r) at q) at e in omega (arith, line_within cs after f)
    by false p u q false r true s = let f : past_star cs ≡ over after = rw (p, r, s) at e in omega (arith, star_within cs after f)
    by false p u q false r false s = let f : none ≡ over after = rw (p, r, s) at e in absurd cc
