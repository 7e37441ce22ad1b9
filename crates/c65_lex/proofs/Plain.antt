-- Over bytes among which nothing vanishes a comment goes on.
use Rattle.std.proofs.Common.{◌≡◌, ℕ, zero, suc, ◌+◌, ◌-◌, ◌<◌, ◌≤◌, List, [], ◌∷◌, length, take, drop, get_or, min, refl, sym, ap, ◌∙◌, arith, Bool, true, false}
use Rattle.std.specs.Prelude.{◌==◌, ◌||◌, not, nat_le, slice_index, IsTrue}
use Rattle.std.proofs.lemmas.Bool.Decides.{nat_tests}
use Rattle.std.proofs.lemmas.Grind.{common_steps}
use Rattle.c65_lex.specs.declared.place.Place.{Place}
use Rattle.c65_lex.specs.Cells.{cells, ahead, joint, line_after, column_after, is_long}
use Rattle.c65_lex.specs.Blanks.{past_line, past_comment}
use Rattle.memchr.specs.Find.{Nowhere, NoneBefore, Passes, is_byte, is_byte2}
use Rattle.c65_lex.specs.Jumps.{are_plain}
use Rattle.c65_lex.proofs.Joints.{plain_cell}
use Rattle.c65_lex.proofs.Bytes.{both, neither, not_true, and_false}

-- a byte that is none of those sought, before two others
pub record Plain (stop b : ℕ) : Type 0 where
  pub no_end : (b == 10) ≡ false
  pub no_stop : (b == stop) ≡ false

plain : (stop b : ℕ) (bs : List ℕ) → are_plain stop (b ∷ bs) ≡ true → Plain stop b
plain stop b bs h =
    let k = neither (b == 10) (b == stop) (not_true ((b == 10) || (b == stop)) (both (not ((b == 10) || (b == stop))) (are_plain stop bs) h).0) in
    record { no_end = k.0; no_stop = k.1 }

plain_rest : (stop b : ℕ) (bs : List ℕ) → are_plain stop (b ∷ bs) ≡ true → are_plain stop bs ≡ true
plain_rest stop b bs h = (both (not ((b == 10) || (b == stop))) (are_plain stop bs) h).1

no_joint : (b c d : ℕ) (ds : List ℕ) → (c == 10) ≡ false → (d == 10) ≡ false → joint (b ∷ c ∷ d ∷ ds) ≡ 0
no_joint b c d ds e f = rw (e, f, and_false (c == 13) false refl, and_false (b == 92) false refl) refl

short_cell : (b line k : ℕ) → k < 32767 → is_long (record { byte = b; line = line; column = k }) ≡ false
short_cell b line k h = let t : nat_le 32767 k ≡ false = grind (arith, nat_tests) in rw t (and_false (not (b == 10)) false refl)

-- the cell of such a byte, and the cells behind it
one_cell : (stop b c d : ℕ) (ds : List ℕ) (line k : ℕ) → are_plain stop (b ∷ c ∷ d ∷ []) ≡ true → k < 32767 → cells line k (b ∷ c ∷ d ∷ ds) ≡ record { byte = b; line = line; column = k } ∷ cells line (k + 1) (c ∷ d ∷ ds)
one_cell stop b c d ds line k h l =
    let p = plain stop b (c ∷ d ∷ []) h in
    let h1 = plain_rest stop b (c ∷ d ∷ []) h in
    let q = plain stop c (d ∷ []) h1 in
    let r = plain stop d [] (plain_rest stop c (d ∷ []) h1) in
    let e : line_after b line ≡ line = rw p.no_end refl in
    let m : min (k + 1) 32768 ≡ k + 1 = omega arith in
    let f : column_after b k ≡ k + 1 = rw p.no_end m in
    plain_cell b (c ∷ d ∷ ds) line k (no_joint b c d ds q.no_end r.no_end) ∙ ap (λ (x : ℕ). record { byte = b; line = line; column = k } ∷ cells x (column_after b k) (c ∷ d ∷ ds)) e ∙ ap (λ (x : ℕ). record { byte = b; line = line; column = k } ∷ cells line x (c ∷ d ∷ ds)) f

three_plain : (stop n : ℕ) (b c d : ℕ) (ds : List ℕ) → are_plain stop (take (suc (suc (suc n))) (b ∷ c ∷ d ∷ ds)) ≡ true → are_plain stop (b ∷ c ∷ d ∷ []) ≡ true
three_plain stop n b c d ds h =
    let p = both (not ((b == 10) || (b == stop))) (are_plain stop (c ∷ d ∷ take n ds)) h in
    let q = both (not ((c == 10) || (c == stop))) (are_plain stop (d ∷ take n ds)) p.1 in
    let r = both (not ((d == 10) || (d == stop))) (are_plain stop (take n ds)) q.1 in
    rw (p.0, q.0, r.0) refl

line_step : (stop b : ℕ) (bs cs : List ℕ) (line k : ℕ) → Plain stop b → k < 32767 → past_line (record { byte = b; line = line; column = k } ∷ cells line (k + 1) cs) ≡ past_line (cells line (k + 1) cs)
line_step stop b bs cs line k p l = let t : nat_le 32767 k ≡ false = grind (arith, nat_tests) in rw (p.no_end, t) refl

comment_step : (b : ℕ) (cs : List ℕ) (line k : ℕ) → Plain 42 b → k < 32767 → past_comment false (record { byte = b; line = line; column = k } ∷ cells line (k + 1) cs) ≡ past_comment false (cells line (k + 1) cs)
comment_step b cs line k p l = let t : nat_le 32767 k ≡ false = grind (arith, nat_tests) in rw (p.no_end, p.no_stop, t) refl

over_line : (n : ℕ) (bs : List ℕ) (line k : ℕ) → are_plain 10 (take (suc (suc n)) bs) ≡ true → suc (suc n) ≤ length bs → k + n ≤ 32767 → past_line (cells line (k + n) (drop n bs)) ≡ past_line (cells line k bs)
over_line zero bs line k h w l = let e : k + 0 ≡ k = omega arith in rw e refl
over_line (suc n) [] line k h w l = absurd (omega arith)
over_line (suc n) (b ∷ []) line k h w l = absurd (omega arith)
over_line (suc n) (b ∷ c ∷ []) line k h w l = absurd (omega arith)
over_line (suc n) (b ∷ c ∷ d ∷ ds) line k h w l =
    let t = three_plain 10 n b c d ds h in
    let i = over_line n (c ∷ d ∷ ds) line (k + 1) (plain_rest 10 b (c ∷ d ∷ take n ds) h) (omega arith) (omega arith) in
    let e : (k + 1) + n ≡ k + suc n = omega arith in
    ap (λ (x : ℕ). past_line (cells line x (drop n (c ∷ d ∷ ds)))) (sym e) ∙ i
    ∙ sym (line_step 10 b (c ∷ d ∷ ds) (c ∷ d ∷ ds) line k (plain 10 b (c ∷ d ∷ []) t) (omega arith))
    ∙ ap past_line (sym (one_cell 10 b c d ds line k t (omega arith)))

over_comment : (n : ℕ) (bs : List ℕ) (line k : ℕ) → are_plain 42 (take (suc (suc n)) bs) ≡ true → suc (suc n) ≤ length bs → k + n ≤ 32767 → past_comment false (cells line (k + n) (drop n bs)) ≡ past_comment false (cells line k bs)
over_comment zero bs line k h w l = let e : k + 0 ≡ k = omega arith in rw e refl
over_comment (suc n) [] line k h w l = absurd (omega arith)
over_comment (suc n) (b ∷ []) line k h w l = absurd (omega arith)
over_comment (suc n) (b ∷ c ∷ []) line k h w l = absurd (omega arith)
over_comment (suc n) (b ∷ c ∷ d ∷ ds) line k h w l =
    let t = three_plain 42 n b c d ds h in
    let i = over_comment n (c ∷ d ∷ ds) line (k + 1) (plain_rest 42 b (c ∷ d ∷ take n ds) h) (omega arith) (omega arith) in
    let e : (k + 1) + n ≡ k + suc n = omega arith in
    ap (λ (x : ℕ). past_comment false (cells line x (drop n (c ∷ d ∷ ds)))) (sym e) ∙ i
    ∙ sym (comment_step b (c ∷ d ∷ ds) line k (plain 42 b (c ∷ d ∷ []) t) (omega arith))
    ∙ ap (past_comment false) (sym (one_cell 42 b c d ds line k t (omega arith)))

-- bytes each of which is none of those sought
pub each_plain : (stop : ℕ) (bs : List ℕ) (n : ℕ) → n ≤ length bs → ((k : ℕ) → k < n → (get_or bs k 0 == 10) || (get_or bs k 0 == stop) ≡ false) → are_plain stop (take n bs) ≡ true
each_plain stop bs zero w h = refl
each_plain stop [] (suc n) w h = absurd (omega arith)
each_plain stop (b ∷ bs) (suc n) w h =
    let i = each_plain stop bs n (omega arith) (λ k l. h (suc k) (omega arith)) in
    rw (h 0 (omega arith), i) refl

module _ (text : List ℕ) (from next : Place) (count : ℕ) (at_is : next.at ≡ from.at + (count - 2)) (line_is : next.line ≡ from.line) (column_is : next.column ≡ from.column + (count - 2)) (some : 2 ≤ count) (w : count ≤ length (drop from.at text)) (l : from.column + count ≤ 32767) where
  pub line_jump : are_plain 10 (take count (drop from.at text)) ≡ true → past_line (ahead text next) ≡ past_line (ahead text from)
  unfolding ahead
  line_jump h =
      let e : suc (suc (count - 2)) ≡ count = omega arith in
      let d : drop (from.at + (count - 2)) text ≡ drop (count - 2) (drop from.at text) = grind (arith, common_steps) in
      rw (at_is, line_is, column_is, d) (over_line (count - 2) (drop from.at text) from.line from.column (rw e h) (omega arith) (omega arith))

  pub comment_jump : are_plain 42 (take count (drop from.at text)) ≡ true → past_comment false (ahead text next) ≡ past_comment false (ahead text from)
  unfolding ahead
  comment_jump h =
      let e : suc (suc (count - 2)) ≡ count = omega arith in
      let d : drop (from.at + (count - 2)) text ≡ drop (count - 2) (drop from.at text) = grind (arith, common_steps) in
      rw (at_is, line_is, column_is, d) (over_comment (count - 2) (drop from.at text) from.line from.column (rw e h) (omega arith) (omega arith))

-- what a search for the first of the two bytes says
nowhere_line : (bs : List ℕ) (j : ℕ) → j ≤ length bs → Nowhere (Passes (is_byte 10) bs) 0 j → are_plain 10 (take j bs) ≡ true
nowhere_line bs j w h = each_plain 10 bs j w (λ k l. by k (get_or bs k 0 == 10) refl (h k (omega arith) l))
  where
    by : (k : ℕ) → (t : Bool) → (get_or bs k 0 == 10) ≡ t → ((slice_index bs k == 10) ≡ true → ⊥) → (get_or bs k 0 == 10) || (get_or bs k 0 == 10) ≡ false
    by k true e f = absurd (f e)
    by k false e f = rw e refl

nowhere_star : (bs : List ℕ) (j : ℕ) → j ≤ length bs → Nowhere (Passes (is_byte2 10 42) bs) 0 j → are_plain 42 (take j bs) ≡ true
nowhere_star bs j w h = each_plain 42 bs j w (λ k l. by k ((get_or bs k 0 == 10) || (get_or bs k 0 == 42)) refl (h k (omega arith) l))
  where
    by : (k : ℕ) → (t : Bool) → (get_or bs k 0 == 10) || (get_or bs k 0 == 42) ≡ t → ((slice_index bs k == 10) || (slice_index bs k == 42) ≡ true → ⊥) → t ≡ false
    by k true e f = absurd (f e)
    by k false e f = refl

pub before_line : (bs : List ℕ) (k : ℕ) → NoneBefore (Passes (is_byte 10) bs) 0 (length bs) k → are_plain 10 (take k bs) ≡ true
before_line bs k h = nowhere_line bs k (omega (arith, h.high)) h.before

pub no_line : (bs : List ℕ) → Nowhere (Passes (is_byte 10) bs) 0 (length bs) → are_plain 10 (take (length bs) bs) ≡ true
no_line bs h = nowhere_line bs (length bs) (omega arith) h

pub before_star : (bs : List ℕ) (k : ℕ) → NoneBefore (Passes (is_byte2 10 42) bs) 0 (length bs) k → are_plain 42 (take k bs) ≡ true
before_star bs k h = nowhere_star bs k (omega (arith, h.high)) h.before

pub no_star : (bs : List ℕ) → Nowhere (Passes (is_byte2 10 42) bs) 0 (length bs) → are_plain 42 (take (length bs) bs) ≡ true
no_star bs h = nowhere_star bs (length bs) (omega arith) h

pub true_is : (t : Bool) → IsTrue t → t ≡ true
true_is t h = h

pub is_true : (t : Bool) → t ≡ true → IsTrue t
is_true t h = h
