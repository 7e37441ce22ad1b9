-- Bytes that are settled, and bytes that vanish.
use Rattle.std.proofs.Common.{◌≡◌, ℕ, zero, suc, ◌+◌, ◌<◌, ◌≤◌, List, [], ◌∷◌, ◌++◌, length, take, drop, append_assoc, refl, sym, ap, ◌∙◌, subst, arith, Bool, true, false, inr, min}
use Rattle.std.specs.Prelude.{◌==◌, ◌&&◌, ◌||◌, not, if◌then◌else◌, nat_le}
use Rattle.std.proofs.lemmas.Bool.Decides.{nat_tests}
use Rattle.c65_lex.specs.Next.{is_any_long}
use Rattle.c65_lex.specs.Cells.{Cell, bytes, cells, is_long, begins_with, joint}
use Rattle.c65_lex.proofs.Joints.{plain_cell}
use Rattle.c65_pieces.specs.declared.settled.Settled.{Settled}
use Rattle.c65_pieces.specs.declared.text.Text.{Text}
use Rattle.c65_pieces.specs.Settled.{as_cell, as_cells}
use Rattle.c65_pieces.specs.Given.{ends, AreLines, too_far, AreSorted, IsSettled}
use Rattle.c65_pieces.specs.Lines.{is_sound}
use Rattle.c65_pieces.proofs.Sound.{any_join, sound_long}

pub cells_join : (xs ys : List Settled) → as_cells (xs ++ ys) ≡ as_cells xs ++ as_cells ys
cells_join [] ys = refl
cells_join (x ∷ xs) ys = ap (λ (cs : List Cell). as_cell x ∷ cs) (cells_join xs ys)

-- a byte that begins nothing that vanishes
pub joint_plain : (b : ℕ) (bs : List ℕ) → (b == 13) ≡ false → (b == 92) ≡ false → joint (b ∷ bs) ≡ 0
joint_plain b [] e f = refl
joint_plain b (c ∷ bs) e f = by (c == 10)
  where
    by : (t : Bool) → (let n : ℕ = if t then (if b == 13 then 1 else if b == 92 then 2 else 0) else if (b == 92) && ((c == 13) && begins_with 10 bs) then 3 else 0 in n) ≡ 0
    by true = rw (e, f) refl
    by false = rw f refl

pub joint_return : (b : ℕ) (bs : List ℕ) → (b == 10) ≡ false → joint (13 ∷ b ∷ bs) ≡ 0
joint_return b bs e = rw e refl

pub joint_backslash : (b : ℕ) (bs : List ℕ) → (b == 10) ≡ false → (b == 13) ≡ false → joint (92 ∷ b ∷ bs) ≡ 0
joint_backslash b bs e f = rw (e, f) refl

pub joint_both : (b : ℕ) (bs : List ℕ) → (b == 10) ≡ false → joint (92 ∷ 13 ∷ b ∷ bs) ≡ 0
joint_both b bs e = rw e refl

pub settle_joined : (old new : Text) (b : ℕ) (bs : List ℕ) → IsSettled old b new → joint (b ∷ bs) ≡ 0 → as_cells new.settled.items ++ cells new.edge.line new.edge.column bs ≡ as_cells old.settled.items ++ cells old.edge.line old.edge.column (b ∷ bs)
settle_joined old new b bs s j =
    let cell : Settled = record { byte = b; line = old.edge.line; column = old.edge.column } in
    let e : as_cells new.settled.items ≡ as_cells old.settled.items ++ as_cell cell ∷ [] = ap as_cells s.settled_is ∙ cells_join old.settled.items (cell ∷ []) in
    rw (e, s.edge_is, append_assoc, plain_cell b bs old.edge.line old.edge.column j) refl

-- the bytes of a line, and its end
ends_last : (bs : List ℕ) (b : ℕ) → (b == 10) ≡ true → ends (bs ++ b ∷ []) ≡ true
ends_last [] b e = e
ends_last (a ∷ []) b e = e
ends_last (a ∷ c ∷ bs) b e = ends_last (c ∷ bs) b e

bytes_last : (xs : List Settled) (s : Settled) → bytes (as_cells (xs ++ s ∷ [])) ≡ bytes (as_cells xs) ++ s.byte ∷ []
bytes_last [] s = refl
bytes_last (x ∷ xs) s = ap (λ (bs : List ℕ). x.byte ∷ bs) (bytes_last xs s)

no_sound_last : (xs : List Settled) (s : Settled) → is_sound (as_cells xs) ≡ false → (s.byte == 10) ≡ false → is_sound (as_cells (xs ++ s ∷ [])) ≡ false
no_sound_last [] s h e = by (is_long (as_cell s))
  where
    by : (t : Bool) → (s.byte == 10) || (not t && false) ≡ false
    by true = rw e refl
    by false = rw e refl
no_sound_last (x ∷ xs) s h e = by (x.byte == 10) (is_long (as_cell x)) h (λ k. no_sound_last xs s k e)
  where
    by : (t u : Bool) → t || (not u && is_sound (as_cells xs)) ≡ false → (is_sound (as_cells xs) ≡ false → is_sound (as_cells (xs ++ s ∷ [])) ≡ false) → t || (not u && is_sound (as_cells (xs ++ s ∷ []))) ≡ false
    by true u h i = absurd cc
    by false true h i = refl
    by false false h i = i h

take_last : (n : ℕ) (xs : List Settled) (s : Settled) → n ≤ length xs → take n (xs ++ s ∷ []) ≡ take n xs
take_last zero xs s h = refl
take_last (suc n) [] s h = absurd (omega arith)
take_last (suc n) (x ∷ xs) s h = ap (λ (ys : List Settled). x ∷ ys) (take_last n xs s (omega arith))

drop_last : (n : ℕ) (xs : List Settled) (s : Settled) → n ≤ length xs → drop n (xs ++ s ∷ []) ≡ drop n xs ++ s ∷ []
drop_last zero xs s h = refl
drop_last (suc n) [] s h = absurd (omega arith)
drop_last (suc n) (x ∷ xs) s h = drop_last n xs s (omega arith)

take_whole : (xs : List Settled) → take (length xs) xs ≡ xs
take_whole [] = refl
take_whole (x ∷ xs) = ap (λ (ys : List Settled). x ∷ ys) (take_whole xs)

drop_whole : (xs : List Settled) → drop (length xs) xs ≡ []
drop_whole [] = refl
drop_whole (x ∷ xs) = drop_whole xs

take_and_drop : (n : ℕ) (xs : List Settled) → take n xs ++ drop n xs ≡ xs
take_and_drop zero xs = refl
take_and_drop (suc n) [] = refl
take_and_drop (suc n) (x ∷ xs) = ap (λ (ys : List Settled). x ∷ ys) (take_and_drop n xs)

length_last : (xs : List Settled) (s : Settled) → length (xs ++ s ∷ []) ≡ length xs + 1
length_last [] s = refl
length_last (x ∷ xs) s = omega (arith, length_last xs s)

any_last : (xs : List Settled) (s : Settled) → is_any_long (as_cells (xs ++ s ∷ [])) ≡ is_any_long (as_cells xs) || too_far s.byte s.column
any_last xs s = ap is_any_long (cells_join xs (s ∷ [])) ∙ any_join (as_cells xs) (as_cell s ∷ []) ∙ ap (λ (t : Bool). is_any_long (as_cells xs) || t) (or_false (too_far s.byte s.column))
  where
    or_false : (t : Bool) → t || false ≡ t
    or_false true = refl
    or_false false = refl

no_line_end : (s : Settled) → (s.byte == 10) ≡ true → too_far s.byte s.column ≡ false
no_line_end s e = rw e refl

all_short : (xs : List Settled) (ready : ℕ) (column : ℕ) → AreSorted xs ready false column → is_any_long (as_cells xs) ≡ false
all_short xs ready column p =
    let e : as_cells xs ≡ as_cells (take ready xs) ++ as_cells (drop ready xs) = ap as_cells (sym (take_and_drop ready xs)) ∙ cells_join (take ready xs) (drop ready xs) in
    ap is_any_long e ∙ any_join (as_cells (take ready xs)) (as_cells (drop ready xs)) ∙ rw (p.short, p.long_is) refl

-- the end of a line that is not too long
sort_line : (xs : List Settled) (s : Settled) (ready column : ℕ) → (s.byte == 10) ≡ true → AreSorted xs ready false column → AreSorted (xs ++ s ∷ []) (length (xs ++ s ∷ [])) false 0
sort_line xs s ready column e p = record {
  within = omega arith;
  lines = inr (ap (λ (ys : List Settled). ends (bytes (as_cells ys))) (take_whole (xs ++ s ∷ [])) ∙ ap ends (bytes_last xs s) ∙ ends_last (bytes (as_cells xs)) s.byte e);
  short = ap (λ (ys : List Settled). is_any_long (as_cells ys)) (take_whole (xs ++ s ∷ [])) ∙ any_last xs s ∙ rw (all_short xs ready column p) (no_line_end s e);
  held = ap (λ (ys : List Settled). is_sound (as_cells ys)) (drop_whole (xs ++ s ∷ []));
  long_is = ap (λ (ys : List Settled). is_any_long (as_cells ys)) (drop_whole (xs ++ s ∷ []));
  counted = λ h. (omega arith, omega arith);
}

-- a byte behind a line that is too long
sort_behind : (xs : List Settled) (s : Settled) (ready column after : ℕ) → AreSorted xs ready true column → AreSorted (xs ++ s ∷ []) ready true after
sort_behind xs s ready column after p = record {
  within = omega (arith, p.within, length_last xs s);
  lines = subst (λ (ys : List Settled). AreLines (as_cells ys)) (sym (take_last ready xs s p.within)) p.lines;
  short = ap (λ (ys : List Settled). is_any_long (as_cells ys)) (take_last ready xs s p.within) ∙ p.short;
  held = ap (λ (ys : List Settled). is_sound (as_cells ys)) (drop_last ready xs s p.within) ∙ ap is_sound (cells_join (drop ready xs) (s ∷ [])) ∙ sound_long (as_cells (drop ready xs)) (as_cell s ∷ []) p.long_is p.held;
  long_is = ap (λ (ys : List Settled). is_any_long (as_cells ys)) (drop_last ready xs s p.within) ∙ any_last (drop ready xs) s ∙ rw p.long_is refl;
  counted = λ h. absurd cc;
}

not_far : (column : ℕ) → nat_le 32767 column ≡ false → column < 32767
not_far column h = grind (arith, nat_tests)

sort_byte : (xs : List Settled) (s : Settled) (ready : ℕ) → (s.byte == 10) ≡ false → AreSorted xs ready false s.column → AreSorted (xs ++ s ∷ []) ready (nat_le 32767 s.column) (min (s.column + 1) 32768)
sort_byte xs s ready e p = record {
  within = omega (arith, p.within, length_last xs s);
  lines = subst (λ (ys : List Settled). AreLines (as_cells ys)) (sym (take_last ready xs s p.within)) p.lines;
  short = ap (λ (ys : List Settled). is_any_long (as_cells ys)) (take_last ready xs s p.within) ∙ p.short;
  held = ap (λ (ys : List Settled). is_sound (as_cells ys)) (drop_last ready xs s p.within) ∙ no_sound_last (drop ready xs) s p.held e;
  long_is = ap (λ (ys : List Settled). is_any_long (as_cells ys)) (drop_last ready xs s p.within) ∙ any_last (drop ready xs) s ∙ rw (p.long_is, e) refl;
  counted = λ h.
      let k : s.column < 32767 = not_far s.column h in
      let c = p.counted refl in
      (omega arith, omega (arith, c.1, length_last xs s));
}

pub settle_sorted : (old new : Text) (b : ℕ) → IsSettled old b new → AreSorted old.settled.items old.ready old.long old.edge.column → AreSorted new.settled.items new.ready new.long new.edge.column
settle_sorted old new b s p = by (b == 10) refl old.long refl
  where
    by : (t : Bool) → (b == 10) ≡ t → (u : Bool) → old.long ≡ u → AreSorted new.settled.items new.ready new.long new.edge.column
    by true e false f =
        let cell : Settled = record { byte = b; line = old.edge.line; column = old.edge.column } in
        let q : AreSorted old.settled.items old.ready false old.edge.column = rw f at p in
        let r : new.ready ≡ length new.settled.items = rw (e, f) at s.ready_is in
        let l : new.long ≡ false = rw (f, e) at s.long_is in
        rw (r, l, s.edge_is, s.settled_is, e) (sort_line old.settled.items cell old.ready old.edge.column e q)
    by false e false f =
        let cell : Settled = record { byte = b; line = old.edge.line; column = old.edge.column } in
        let q : AreSorted old.settled.items old.ready false old.edge.column = rw f at p in
        let r : new.ready ≡ old.ready = rw e at s.ready_is in
        let l : new.long ≡ nat_le 32767 old.edge.column = rw (f, e) at s.long_is in
        rw (r, l, s.edge_is, s.settled_is, e) (sort_byte old.settled.items cell old.ready e q)
    by t e true f =
        let cell : Settled = record { byte = b; line = old.edge.line; column = old.edge.column } in
        let q : AreSorted old.settled.items old.ready true old.edge.column = rw f at p in
        let r : new.ready ≡ old.ready = s.ready_is ∙ kept t e f in
        let l : new.long ≡ true = rw f at s.long_is in
        rw (r, l, s.settled_is) (sort_behind old.settled.items cell old.ready old.edge.column new.edge.column q)
      where
        kept : (t : Bool) → (b == 10) ≡ t → old.long ≡ true → (if (b == 10) && not old.long then length new.settled.items else old.ready) ≡ old.ready
        kept true e f = rw (e, f) refl
        kept false e f = rw e refl

-- whole lines stay so
pub settle_further : (old new : Text) (b : ℕ) → IsSettled old b new → AreSorted old.settled.items old.ready old.long old.edge.column → old.ready ≤ new.ready
settle_further old new b s p = by ((b == 10) && not old.long) s.ready_is
  where
    by : (t : Bool) → new.ready ≡ (if t then length new.settled.items else old.ready) → old.ready ≤ new.ready
    by true e =
        let cell : Settled = record { byte = b; line = old.edge.line; column = old.edge.column } in
        let k : new.ready ≡ length new.settled.items = e in
        let l : length new.settled.items ≡ length old.settled.items + 1 = ap (λ (xs : List Settled). length xs) s.settled_is ∙ length_last old.settled.items cell in
        omega (arith, p.within)
    by false e = let k : new.ready ≡ old.ready = e in omega arith
