-- What comes next among whole lines comes next whatever follows them.
use Rattle.std.proofs.Common.{◌≡◌, ℕ, zero, suc, ◌≤◌, List, [], ◌∷◌, ◌++◌, length, take, drop, refl, sym, ap, ◌∙◌, subst, arith, Bool, true, false, inl, inr, Some}
use Rattle.std.specs.Prelude.{◌==◌, ◌&&◌}
use Rattle.std.proofs.lemmas.Bool.Decides.{nat_tests}
use Rattle.c65_lex.specs.declared.token.PpKind.{PpKind}
use Rattle.c65_lex.specs.Cells.{Cell, bytes, begins_with, is_long}
use Rattle.c65_lex.specs.Spellings.{IsToken, is_white, class_of}
use Rattle.c65_lex.specs.Lengths.{token_of}
use Rattle.c65_lex.specs.Blanks.{Blank, Blanks, blank_of, none, over, unclosed, too_long, past_line, past_comment, past_star, opens}
use Rattle.c65_lex.specs.Next.{ended, token, is_any_long, first_line, IsNext}
use Rattle.c65_lex.proofs.Bytes.{eq_is, both}
use Rattle.c65_lex.proofs.Longest.{Found, token_is}
use Rattle.c65_lex.proofs.Tokens.{none_white}
use Rattle.c65_pieces.specs.Given.{ends, AreLines}
use Rattle.c65_pieces.proofs.Lookahead.{ends_rest, token_more}

over_is : (a b : List Cell) → over a ≡ over b → a ≡ b
over_is a b e = cc

bytes_more : (cs xs : List Cell) → bytes (cs ++ xs) ≡ bytes cs ++ bytes xs
bytes_more [] xs = refl
bytes_more (c ∷ cs) xs = ap (λ (bs : List ℕ). c.byte ∷ bs) (bytes_more cs xs)

-- a blank, where more follows
abbrev pub further : List Cell → Blank → Blank
further xs none = none
further xs (over cs) = over (cs ++ xs)
further xs unclosed = past_comment false xs
further xs too_long = too_long

line_more : (cs xs : List Cell) → ends (bytes cs) ≡ true → past_line (cs ++ xs) ≡ further xs (past_line cs)
line_more [] xs h = absurd cc
line_more (c ∷ cs) xs h = by (c.byte == 10) refl (is_long c) refl (line_more cs xs)
  where
    by : (t : Bool) → (c.byte == 10) ≡ t → (u : Bool) → is_long c ≡ u → (ends (bytes cs) ≡ true → past_line (cs ++ xs) ≡ further xs (past_line cs)) → past_line (c ∷ cs ++ xs) ≡ further xs (past_line (c ∷ cs))
    by true e u f i = rw e refl
    by false e true f i = rw (e, rw e at f) refl
    by false e false f i = rw (e, rw e at f) (i (ends_rest c.byte (bytes cs) h e))

-- where a line ends, no star is open
star_here : (c : Cell) (star : Bool) (xs : List Cell) → c.byte ≡ 10 → past_comment star (c ∷ xs) ≡ past_comment false xs
star_here c true xs e = rw e refl
star_here c false xs e = rw e refl

comment_more : (star : Bool) (cs xs : List Cell) → ends (bytes cs) ≡ true → past_comment star (cs ++ xs) ≡ further xs (past_comment star cs)
comment_more star [] xs h = absurd cc
comment_more star (c ∷ []) xs h = star_here c star xs (eq_is c.byte 10 h) ∙ sym (ap (further xs) (star_here c star [] (eq_is c.byte 10 h)))
comment_more star (c ∷ d ∷ cs) xs h = by (is_long c) refl (star && (c.byte == 47)) refl (comment_more (c.byte == 42) (d ∷ cs) xs h)
  where
    by : (t : Bool) → is_long c ≡ t → (u : Bool) → star && (c.byte == 47) ≡ u → past_comment (c.byte == 42) (d ∷ cs ++ xs) ≡ further xs (past_comment (c.byte == 42) (d ∷ cs)) → past_comment star (c ∷ d ∷ cs ++ xs) ≡ further xs (past_comment star (c ∷ d ∷ cs))
    by true e u f i = rw e refl
    by false e true f i = rw (e, f) refl
    by false e false f i = rw (e, f) i

open_more : (cs xs : List Cell) → AreLines cs → past_comment false (cs ++ xs) ≡ further xs (past_comment false cs)
open_more cs xs (inl e) = rw e refl
open_more cs xs (inr h) = comment_more false cs xs h

lines_rest : (c : Cell) (cs : List Cell) → ends (bytes (c ∷ cs)) ≡ true → AreLines cs
lines_rest c [] h = inl refl
lines_rest c (d ∷ cs) h = inr h

star_more : (cs xs : List Cell) → ends (bytes cs) ≡ true → past_star (cs ++ xs) ≡ further xs (past_star cs)
star_more [] xs h = absurd cc
star_more (c ∷ cs) xs h = by (is_long c) refl
  where
    by : (t : Bool) → is_long c ≡ t → past_star (c ∷ cs ++ xs) ≡ further xs (past_star (c ∷ cs))
    by true e = rw e refl
    by false e = rw e (open_more cs xs (lines_rest c cs h))

opens_more : (b : ℕ) (c : Cell) (cs xs : List Cell) → ends (bytes (c ∷ cs)) ≡ true → opens b c (cs ++ xs) ≡ opens b c cs
opens_more b c [] xs h = let e : c.byte ≡ 10 = eq_is c.byte 10 h in rw e refl
opens_more b c (d ∷ cs) xs h = refl

slash_no_end : (b : ℕ) (c : Cell) (cs : List Cell) → opens b c cs ≡ true → (c.byte == 10) ≡ false
slash_no_end b c cs h = let e : (c.byte == 47) ≡ true = (both (c.byte == 47) (begins_with b (bytes cs)) h).0 in grind (arith, nat_tests)

pub blank_more : (cs xs : List Cell) → ends (bytes cs) ≡ true → blank_of (cs ++ xs) ≡ further xs (blank_of cs)
blank_more [] xs h = absurd cc
blank_more (c ∷ cs) xs h = by (is_white c.byte) refl (is_long c) refl (opens 47 c cs) refl (opens 42 c cs) refl
  where
    by : (t : Bool) → is_white c.byte ≡ t → (u : Bool) → is_long c ≡ u → (v : Bool) → opens 47 c cs ≡ v → (w : Bool) → opens 42 c cs ≡ w → blank_of (c ∷ cs ++ xs) ≡ further xs (blank_of (c ∷ cs))
    by true p true q v r w s = rw (p, q) refl
    by true p false q v r w s = rw (p, q) refl
    by false p u q true r w s = rw (p, opens_more 47 c cs xs h, r) (line_more (c ∷ cs) xs h)
    by false p u q false r true s = rw (p, opens_more 47 c cs xs h, r, opens_more 42 c cs xs h, s) (star_more cs xs (ends_rest c.byte (bytes cs) h (slash_no_end 42 c cs s)))
    by false p u q false r false s = rw (p, opens_more 47 c cs xs h, r, opens_more 42 c cs xs h, s) refl

-- what a blank of lines leads to are lines
line_ends : (cs after : List Cell) → ends (bytes cs) ≡ true → past_line cs ≡ over after → ends (bytes after) ≡ true
line_ends [] after h e = absurd cc
line_ends (c ∷ cs) after h e = by (c.byte == 10) refl (is_long c) refl (line_ends cs after)
  where
    by : (t : Bool) → (c.byte == 10) ≡ t → (u : Bool) → is_long c ≡ u → (ends (bytes cs) ≡ true → past_line cs ≡ over after → ends (bytes after) ≡ true) → ends (bytes after) ≡ true
    by true p u q i = let f : over (c ∷ cs) ≡ over after = rw p at e in subst (λ (x : List Cell). ends (bytes x) ≡ true) (over_is (c ∷ cs) after f) h
    by false p true q i = let f : too_long ≡ over after = rw (p, rw p at q) at e in absurd cc
    by false p false q i = let f : past_line cs ≡ over after = rw (p, rw p at q) at e in i (ends_rest c.byte (bytes cs) h p) f

slash_is_no_end : (b : ℕ) (t : Bool) → t && (b == 47) ≡ true → (b == 10) ≡ false
slash_is_no_end b t h = let e = (both t (b == 47) h).1 in grind (arith, nat_tests)

comment_ends : (star : Bool) (cs after : List Cell) → ends (bytes cs) ≡ true → past_comment star cs ≡ over after → ends (bytes after) ≡ true
comment_ends star [] after h e = absurd cc
comment_ends star (c ∷ []) after h e = let f : unclosed ≡ over after = sym (star_here c star [] (eq_is c.byte 10 h)) ∙ e in absurd cc
comment_ends star (c ∷ d ∷ cs) after h e = by (is_long c) refl (star && (c.byte == 47)) refl (comment_ends (c.byte == 42) (d ∷ cs) after h)
  where
    by : (t : Bool) → is_long c ≡ t → (u : Bool) → star && (c.byte == 47) ≡ u → (past_comment (c.byte == 42) (d ∷ cs) ≡ over after → ends (bytes after) ≡ true) → ends (bytes after) ≡ true
    by true p u q i = let f : too_long ≡ over after = rw p at e in absurd cc
    by false p true q i = let f : over (d ∷ cs) ≡ over after = rw (p, q) at e in subst (λ (x : List Cell). ends (bytes x) ≡ true) (over_is (d ∷ cs) after f) h
    by false p false q i = let f : past_comment (c.byte == 42) (d ∷ cs) ≡ over after = rw (p, q) at e in i f

open_ends : (cs after : List Cell) → AreLines cs → past_comment false cs ≡ over after → ends (bytes after) ≡ true
open_ends cs after (inl z) e = let f : unclosed ≡ over after = rw z at e in absurd cc
open_ends cs after (inr h) e = comment_ends false cs after h e

star_ends : (cs after : List Cell) → ends (bytes cs) ≡ true → past_star cs ≡ over after → ends (bytes after) ≡ true
star_ends [] after h e = absurd cc
star_ends (c ∷ cs) after h e = by (is_long c) refl
  where
    by : (t : Bool) → is_long c ≡ t → ends (bytes after) ≡ true
    by true p = let f : too_long ≡ over after = rw p at e in absurd cc
    by false p = let f : past_comment false cs ≡ over after = rw p at e in open_ends cs after (lines_rest c cs h) f

white_no_end : (b : ℕ) → is_white b ≡ true → (b == 10) ≡ false
white_no_end b h = grind (arith, nat_tests)

pub blank_ends : (cs after : List Cell) → ends (bytes cs) ≡ true → blank_of cs ≡ over after → ends (bytes after) ≡ true
blank_ends [] after h e = absurd cc
blank_ends (c ∷ cs) after h e = by (is_white c.byte) refl (is_long c) refl (opens 47 c cs) refl (opens 42 c cs) refl
  where
    by : (t : Bool) → is_white c.byte ≡ t → (u : Bool) → is_long c ≡ u → (v : Bool) → opens 47 c cs ≡ v → (w : Bool) → opens 42 c cs ≡ w → ends (bytes after) ≡ true
    by true p true q v r w s = let f : too_long ≡ over after = rw (p, q) at e in absurd cc
    by true p false q v r w s = let f : over cs ≡ over after = rw (p, q) at e in subst (λ (x : List Cell). ends (bytes x) ≡ true) (over_is cs after f) (ends_rest c.byte (bytes cs) h (white_no_end c.byte p))
    by false p u q true r w s = line_ends (c ∷ cs) after h (by_line p r)
      where
        by_line : is_white c.byte ≡ false → opens 47 c cs ≡ true → past_line (c ∷ cs) ≡ over after
        by_line p r = rw (p, r) at e
    by false p u q false r true s = let f : past_star cs ≡ over after = rw (p, r, s) at e in star_ends cs after (ends_rest c.byte (bytes cs) h (slash_no_end 42 c cs s)) f
    by false p u q false r false s = let f : none ≡ over after = rw (p, r, s) at e in absurd cc

-- blanks that lead on among lines lead on where more follows
pub blanks_end : (n : ℕ) (start cs : List Cell) → ends (bytes start) ≡ true → Blanks n start cs → ends (bytes cs) ≡ true
blanks_end zero start cs h b = subst (λ (x : List Cell). ends (bytes x) ≡ true) (sym b) h
blanks_end (suc n) start cs h (x, b, e) = blank_ends x cs (blanks_end n start x h b) e

pub blanks_more : (n : ℕ) (start cs xs : List Cell) → ends (bytes start) ≡ true → Blanks n start cs → Blanks n (start ++ xs) (cs ++ xs)
blanks_more zero start cs xs h b = ap (λ (x : List Cell). x ++ xs) b
blanks_more (suc n) start cs xs h (x, b, e) = (x ++ xs, blanks_more n start x xs h b, blank_more x xs (blanks_end n start x h b) ∙ ap (further xs) e)

cells_count : (cs : List Cell) → length (bytes cs) ≡ length cs
cells_count [] = refl
cells_count (c ∷ cs) = ap suc (cells_count cs)

some_kind : (a b : PpKind) → Some a ≡ Some b → a ≡ b
some_kind a b e = cc

one_token : (header : Bool) (bs : List ℕ) (k l : PpKind) (m n : ℕ) → IsToken header bs k m → IsToken header bs l n → (m ≡ n) × (k ≡ l)
one_token header bs k l m n s t =
    let x : m ≤ n = t.longest m k s.fits s.spelled in
    let y : n ≤ m = s.longest n l t.fits t.spelled in
    let z : m ≡ n = omega arith in
    (z, some_kind k l (sym s.spelled ∙ ap (λ (x : ℕ). class_of header (take x bs)) z ∙ t.spelled))

-- the token that begins on a line stands there whatever follows
token_stays : (header : Bool) (cs xs : List Cell) (kind : PpKind) (size : ℕ) → ends (bytes cs) ≡ true → blank_of cs ≡ none → IsToken header (bytes cs) kind size → IsToken header (bytes (cs ++ xs)) kind size
token_stays header [] xs kind size h b t = absurd cc
token_stays header (c ∷ cs) xs kind size h b t =
    let w = none_white c cs b in
    let same = one_token header (c.byte ∷ bytes cs) kind (token_of header c.byte (bytes cs)).0 size (token_of header c.byte (bytes cs)).1 t (token_is header c.byte (bytes cs) w) in
    let m = token_more header c.byte (bytes cs) (bytes xs) h in
    let u : IsToken header (c.byte ∷ (bytes cs ++ bytes xs)) (token_of header c.byte (bytes cs)).0 (token_of header c.byte (bytes cs)).1 =
    subst (λ (x : Found). IsToken header (c.byte ∷ (bytes cs ++ bytes xs)) x.0 x.1) m (token_is header c.byte (bytes cs ++ bytes xs) w) in
    let v : IsToken header (c.byte ∷ (bytes cs ++ bytes xs)) kind size =
    subst (λ (x : PpKind). IsToken header (c.byte ∷ (bytes cs ++ bytes xs)) x size) (sym same.1) (subst (λ (x : ℕ). IsToken header (c.byte ∷ (bytes cs ++ bytes xs)) (token_of header c.byte (bytes cs)).0 x) (sym same.0) u) in
    subst (λ (x : List ℕ). IsToken header (c.byte ∷ x) kind size) (sym (bytes_more cs xs)) v

take_more_cells : (n : ℕ) (cs xs : List Cell) → n ≤ length cs → take n (cs ++ xs) ≡ take n cs
take_more_cells zero cs xs h = refl
take_more_cells (suc n) [] xs h = absurd (omega arith)
take_more_cells (suc n) (c ∷ cs) xs h = ap (λ (x : List Cell). c ∷ x) (take_more_cells n cs xs (omega arith))

drop_more_cells : (n : ℕ) (cs xs : List Cell) → n ≤ length cs → drop n (cs ++ xs) ≡ drop n cs ++ xs
drop_more_cells zero cs xs h = refl
drop_more_cells (suc n) [] xs h = absurd (omega arith)
drop_more_cells (suc n) (c ∷ cs) xs h = drop_more_cells n cs xs (omega arith)

first_more : (cs xs : List Cell) → ends (bytes cs) ≡ true → first_line (cs ++ xs) ≡ first_line cs
first_more [] xs h = absurd cc
first_more (c ∷ cs) xs h = refl

-- a token comes next whatever follows the lines
module _ (header : Bool) (start xs : List Cell) (lines : ends (bytes start) ≡ true) where
  pub next_token : (kind : PpKind) (spelling : List ℕ) (line : ℕ) (space : Bool) (rest : List Cell) → IsNext header start (token kind spelling line space rest) → IsNext header (start ++ xs) (token kind spelling line space (rest ++ xs))
  next_token kind spelling line space rest p =
      let h = blanks_end p.blanks start p.cells lines p.behind in
      let t = p.stands.2 in
      let f : t.size ≤ length p.cells = omega (arith, t.is_token.fits, cells_count p.cells) in
      record {
        blanks = p.blanks;
        cells = p.cells ++ xs;
        behind = blanks_more p.blanks start p.cells xs lines p.behind;
        stands = (
          blank_more p.cells xs h ∙ ap (further xs) p.stands.0,
          p.stands.1,
          record {
            size = t.size;
            is_token = token_stays header p.cells xs kind t.size h p.stands.0 t.is_token;
            not_long = ap is_any_long (take_more_cells t.size p.cells xs f) ∙ t.not_long;
            spelling_is = t.spelling_is ∙ ap bytes (sym (take_more_cells t.size p.cells xs f));
            line_is = t.line_is ∙ sym (first_more p.cells xs h);
            rest_is = ap (λ (x : List Cell). x ++ xs) t.rest_is ∙ sym (drop_more_cells t.size p.cells xs f);
          },
        );
      }

  pub not_ended : IsNext header start ended → ⊥
  not_ended p =
      let h = blanks_end p.blanks start p.cells lines p.behind in
      let k : false ≡ true = subst (λ (x : List Cell). ends (bytes x) ≡ true) p.stands h in
      cc
