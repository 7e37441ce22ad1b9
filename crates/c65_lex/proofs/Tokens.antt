-- The token at a place.
use Rattle.std.proofs.Common.{◌≡◌, ℕ, List, ◌∷◌, take, drop, refl, sym, subst, Bool, true, false, inr}
use Rattle.std.specs.Prelude.{nat_lt}
use Rattle.c65_lex.specs.declared.token.PpKind.{PpKind}
use Rattle.c65_lex.specs.Cells.{Cell, bytes, is_long}
use Rattle.c65_lex.specs.Spellings.{IsToken, is_white}
use Rattle.c65_lex.specs.Lengths.{token_of}
use Rattle.c65_lex.specs.Blanks.{Blanks, blank_of, none, over, too_long}
use Rattle.c65_lex.specs.Next.{long_line, token, is_any_long, first_line, NeedsMemory}
use Rattle.c65_lex.proofs.Longest.{token_is}

-- what is no white space and no comment begins with no white byte
pub none_white : (c : Cell) (cs : List Cell) → blank_of (c ∷ cs) ≡ none → is_white c.byte ≡ false
none_white c cs h = by (is_white c.byte) refl (is_long c) refl
  where
    by : (t : Bool) → is_white c.byte ≡ t → (u : Bool) → is_long c ≡ u → t ≡ false
    by true e true f = let k : too_long ≡ none = rw (e, f) at h in absurd cc
    by true e false f = let k : over cs ≡ none = rw (e, f) at h in absurd cc
    by false e u f = refl

pub token_here : (header : Bool) (cells : List Cell) (c : Cell) (cs : List Cell) → cells ≡ c ∷ cs → blank_of cells ≡ none → IsToken header (bytes cells) (token_of header c.byte (bytes cs)).0 (token_of header c.byte (bytes cs)).1
token_here header cells c cs e h =
    subst (λ (x : List Cell). IsToken header (bytes x) (token_of header c.byte (bytes cs)).0 (token_of header c.byte (bytes cs)).1) (sym e)
    (token_is header c.byte (bytes cs) (none_white c cs (subst (λ (x : List Cell). blank_of x ≡ none) e h)))

-- the spelling takes memory
pub needs : (header : Bool) (start cells : List Cell) (n : ℕ) (kind : PpKind) (size : ℕ) → Blanks n start cells → blank_of cells ≡ none → IsToken header (bytes cells) kind size → NeedsMemory header start
needs header start cells n kind size b h t = by (is_any_long (take size cells)) refl
  where
    by : (u : Bool) → is_any_long (take size cells) ≡ u → NeedsMemory header start
    by true e = (long_line, record { blanks = n; cells = cells; behind = b; stands = inr (h, kind, size, t, e) }, tt)
    by false e = (token kind (bytes (take size cells)) (first_line cells) (nat_lt 0 n) (drop size cells), record { blanks = n; cells = cells; behind = b; stands = (h, refl, record { size = size; is_token = t; not_long = e; spelling_is = refl; line_is = refl; rest_is = refl }) }, tt)
