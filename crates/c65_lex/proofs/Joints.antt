-- What vanishes between two cells.
use Rattle.std.proofs.Common.{◌≡◌, ℕ, suc, ◌+◌, ◌<◌, ◌≤◌, List, [], ◌∷◌, length, length-drop, drop, get_or, add-one, ◌-◌, ◌≢◌, refl, sym, arith, Bool, true, false}
use Rattle.std.specs.Prelude.{◌==◌, ◌&&◌, ◌||◌, if◌then◌else◌, nat_lt}
use Rattle.std.proofs.Math.Seq.{drop-cons}
use Rattle.std.proofs.lemmas.List.{drop_all}
use Rattle.std.proofs.lemmas.Grind.{common_steps}
use Rattle.std.proofs.lemmas.Bool.Decides.{nat_tests}
use Rattle.c65_lex.specs.declared.place.Place.{Place}
use Rattle.c65_lex.specs.Cells.{Cell, cells, joined, without_returns, begins_with, joint, next_line, line_after, column_after, ahead}

abbrev pub line_behind : ℕ → ℕ → ℕ
line_behind d n = if nat_lt 1 d then next_line n else n

pub record Vanishes (bs : List ℕ) (d : ℕ) : Type 0 where
  pub fits : d ≤ length bs
  pub same : (n k : ℕ) → cells n k bs ≡ cells (line_behind d n) k (drop d bs)

eq_is : (a b : ℕ) → (a == b) ≡ true → a ≡ b
eq_is a b h = grind (arith, nat_tests)

one : (b c : ℕ) (bs : List ℕ) → b ≡ 13 → c ≡ 10 → Vanishes (b ∷ c ∷ bs) 1
one b c bs e f = record { fits = omega arith; same = λ n k. rw (e, f) refl }

two : (b c : ℕ) (bs : List ℕ) → b ≡ 92 → c ≡ 10 → Vanishes (b ∷ c ∷ bs) 2
two b c bs e f = record { fits = omega arith; same = λ n k. rw (e, f) refl }

three : (b c : ℕ) (bs : List ℕ) → b ≡ 92 → c ≡ 13 → begins_with 10 bs ≡ true → Vanishes (b ∷ c ∷ bs) 3
three b c [] e f g = absurd cc
three b c (d ∷ bs) e f g = let h = eq_is d 10 g in record { fits = omega arith; same = λ n k. rw (e, f, h) refl }

pub vanishes : (bs : List ℕ) (d : ℕ) → d ≡ joint bs → 0 < d → Vanishes bs d
vanishes [] d e h = absurd (omega arith)
vanishes (b ∷ []) d e h = absurd (omega arith)
vanishes (b ∷ c ∷ bs) d e h = by_end b c bs d e h (c == 10) refl (b == 13) refl (b == 92) refl (c == 13) refl (begins_with 10 bs) refl
  where
    by_end : (b c : ℕ) (bs : List ℕ) (d : ℕ) → d ≡ joint (b ∷ c ∷ bs) → 0 < d → (t : Bool) → (c == 10) ≡ t → (u : Bool) → (b == 13) ≡ u → (v : Bool) → (b == 92) ≡ v → (w : Bool) → (c == 13) ≡ w → (x : Bool) → begins_with 10 bs ≡ x → Vanishes (b ∷ c ∷ bs) d
    by_end b c bs d e h true p true q v r w s x y =
        let k : d ≡ 1 = rw (p, q) at e in rw k (one b c bs (eq_is b 13 q) (eq_is c 10 p))
    by_end b c bs d e h true p false q true r w s x y =
        let k : d ≡ 2 = rw (p, q, r) at e in rw k (two b c bs (eq_is b 92 r) (eq_is c 10 p))
    by_end b c bs d e h true p false q false r w s x y =
        let k : d ≡ 0 = rw (p, q, r) at e in absurd (omega arith)
    by_end b c bs d e h false p u q true r true s true y =
        let k : d ≡ 3 = rw (p, r, s, y) at e in rw k (three b c bs (eq_is b 92 r) (eq_is c 13 s) y)
    by_end b c bs d e h false p u q true r true s false y =
        let k : d ≡ 0 = rw (p, r, s, y) at e in absurd (omega arith)
    by_end b c bs d e h false p u q true r false s x y =
        let k : d ≡ 0 = rw (p, r, s) at e in absurd (omega arith)
    by_end b c bs d e h false p u q false r w s x y =
        let k : d ≡ 0 = rw (p, r) at e in absurd (omega arith)

-- Where nothing vanishes, the byte is a cell.
joined_plain : (b : ℕ) (xs : List ℕ) (n k : ℕ) → (b == 92) && begins_with 10 xs ≡ false → joined n k (b ∷ xs) ≡ record { byte = b; line = n; column = k } ∷ joined (line_after b n) (column_after b k) xs
joined_plain b [] n k h = refl
joined_plain b (x ∷ xs) n k h = rw h refl

and_false : (a : Bool) → a && false ≡ false
and_false true = refl
and_false false = refl

or_true : (a : Bool) → a || true ≡ true
or_true true = refl
or_true false = refl

or_false : (a : Bool) → a || false ≡ a
or_false true = refl
or_false false = refl

and_second : (a b : Bool) → a && b ≡ true → b ≡ true
and_second true b h = h
and_second false b h = absurd cc

begins_without : (c : ℕ) (cs : List ℕ) → begins_with 10 (without_returns (c ∷ cs)) ≡ (c == 10) || ((c == 13) && begins_with 10 cs)
begins_without c [] = rw (and_false (c == 13), or_false (c == 10)) refl
begins_without c (d ∷ ds) = by ((c == 13) && (d == 10)) refl
  where
    by : (t : Bool) → (c == 13) && (d == 10) ≡ t → begins_with 10 (if (c == 13) && (d == 10) then without_returns (d ∷ ds) else c ∷ without_returns (d ∷ ds)) ≡ (c == 10) || ((c == 13) && (d == 10))
    by true e =
        let f : d ≡ 10 = eq_is d 10 (and_second (c == 13) (d == 10) e) in
        rw (e, or_true (c == 10)) (rw f refl)
    by false e = rw (e, or_false (c == 10)) refl

abbrev joint_by : Bool → Bool → Bool → Bool → Bool → ℕ
joint_by p q r s x = if p then (if q then 1 else if r then 2 else 0) else if r && (s && x) then 3 else 0

no_joint : (p q r s x : Bool) → joint_by p q r s x ≡ 0 → (q && p ≡ false) × (r && (p || (s && x)) ≡ false)
no_joint true true r s x h = absurd (omega arith)
no_joint true false true s x h = absurd (omega arith)
no_joint true false false s x h = (refl, refl)
no_joint false q false s x h = (and_false q, refl)
no_joint false q true true true h = absurd (omega arith)
no_joint false q true true false h = (and_false q, refl)
no_joint false q true false x h = (and_false q, refl)

pub plain_cell : (b : ℕ) (bs : List ℕ) (n k : ℕ) → joint (b ∷ bs) ≡ 0 → cells n k (b ∷ bs) ≡ record { byte = b; line = n; column = k } ∷ cells (line_after b n) (column_after b k) bs
plain_cell b [] n k h = rw (and_false (b == 13)) refl
plain_cell b (c ∷ cs) n k h =
    let j = no_joint (c == 10) (b == 13) (b == 92) (c == 13) (begins_with 10 cs) h in
    rw j.0 (joined_plain b (without_returns (c ∷ cs)) n k (rw (begins_without c cs) j.1))

module _ (text : List ℕ) (place next : Place) where
  pub ahead_vanishes : (d : ℕ) → d ≡ joint (drop place.at text) → 0 < d → place.at ≤ length text → next.at ≡ place.at + d → next.line ≡ line_behind d place.line → next.column ≡ place.column → (next.at ≤ length text) × (ahead text next ≡ ahead text place)
  unfolding ahead
  ahead_vanishes d e h w a l k =
      let v = vanishes (drop place.at text) d e h in
      let f : d ≤ length text - place.at = simp length-drop at v.fits in
      let g : drop (place.at + d) text ≡ drop d (drop place.at text) = grind (arith, common_steps) in
      (omega arith, rw (a, l, k, g) (sym (v.same place.line place.column)))

  -- beyond the end is the end
  pub ahead_end : length text ≤ place.at → next.at ≡ length text → next.line ≡ place.line → next.column ≡ place.column → ahead text next ≡ ahead text place
  unfolding ahead
  ahead_end h a l k =
      let f : drop (length text) text ≡ [] = drop_all (length text) text (omega arith) in
      let g : drop place.at text ≡ [] = drop_all place.at text h in
      rw (a, l, k, f, g) refl

  pub ahead_step : place.at < length text → joint (drop place.at text) ≡ 0 → next.at ≡ place.at + 1 → next.line ≡ line_after (get_or text place.at 0) place.line → next.column ≡ column_after (get_or text place.at 0) place.column → ahead text place ≡ record { byte = get_or text place.at 0; line = place.line; column = place.column } ∷ ahead text next
  unfolding ahead
  ahead_step h j a l k =
      let d : drop place.at text ≡ get_or text place.at 0 ∷ drop (suc place.at) text = drop-cons text place.at 0 h in
      let j2 : joint (get_or text place.at 0 ∷ drop (suc place.at) text) ≡ 0 = rw d at j in
      let s : place.at + 1 ≡ suc place.at = add-one place.at in
      rw (a, l, k, s, d) (plain_cell (get_or text place.at 0) (drop (suc place.at) text) place.line place.column j2)

  pub ahead_none : length text ≤ place.at → place.column ≡ 0 → ahead text place ≡ []
  unfolding ahead
  ahead_none h k = let g : drop place.at text ≡ [] = drop_all place.at text h in rw (g, k) refl

  pub ahead_last : length text ≤ place.at → place.column ≢ 0 → next.at ≡ place.at → next.column ≡ 0 → ahead text place ≡ record { byte = 10; line = place.line; column = place.column } ∷ ahead text next
  unfolding ahead
  ahead_last h k a l =
      let g : drop place.at text ≡ [] = drop_all place.at text h in
      let t : place.column == 0 ≡ false = grind (arith, nat_tests) in
      rw (a, l, g) (rw t refl)

-- no more cells than bytes, and the last line end
joined_short : (n k : ℕ) (bs : List ℕ) → length (joined n k bs) ≤ length bs + 1
joined_short n k [] = by (k == 0)
  where
    by : (t : Bool) → (let cs : List Cell = if t then [] else record { byte = 10; line = n; column = k } ∷ [] in length cs) ≤ 1
    by true = omega arith
    by false = omega arith
joined_short n k (b ∷ []) = omega (arith, joined_short (line_after b n) (column_after b k) [])
joined_short n k (b ∷ c ∷ bs) = by ((b == 92) && (c == 10)) (joined_short (next_line n) k bs) (joined_short (line_after b n) (column_after b k) (c ∷ bs))
  where
    by : (t : Bool) → length (joined (next_line n) k bs) ≤ length bs + 1 → length (joined (line_after b n) (column_after b k) (c ∷ bs)) ≤ length (c ∷ bs) + 1 → length (if t then joined (next_line n) k bs else record { byte = b; line = n; column = k } ∷ joined (line_after b n) (column_after b k) (c ∷ bs)) ≤ length (b ∷ c ∷ bs) + 1
    by true h i = omega (arith, h)
    by false h i = omega (arith, i)

without_short : (bs : List ℕ) → length (without_returns bs) ≤ length bs
without_short [] = omega arith
without_short (b ∷ bs) = by ((b == 13) && begins_with 10 bs) (without_short bs)
  where
    by : (t : Bool) → length (without_returns bs) ≤ length bs → length (if t then without_returns bs else b ∷ without_returns bs) ≤ length (b ∷ bs)
    by true h = omega (arith, h)
    by false h = omega (arith, h)

pub ahead_short : (text : List ℕ) (place : Place) → length (ahead text place) ≤ length text + 1
unfolding ahead
ahead_short text place =
    let d : length (drop place.at text) ≤ length text = simp length-drop (omega arith) in
    omega (arith, joined_short place.line place.column (without_returns (drop place.at text)), without_short (drop place.at text))
