-- What the arguments of a call leave is what a function of the library takes.
use Rattle.std.proofs.Common.{◌≡◌, ℕ, zero, suc, ◌+◌, ◌-◌, ◌<◌, ◌≤◌, ◌⊎◌, inl, inr, true, false, List, [], ◌∷◌, ◌++◌, length, take, refl, sym, ap, ◌∙◌, subst, arith, length-append}
use Rattle.std.proofs.lemmas.Bool.{cases_lt}
use Rattle.c65_ctype.specs.Trees.{Ty}
use Rattle.c65_ctype.specs.Sizes.{size_of}
use Rattle.c65_csem.specs.Trees.{Nodes, none, some, UnitTy}
use Rattle.c65_meaning.specs.Store.{Cell, Value, nth_cell, cell_of, cells_at, cells_of_value}
use Rattle.c65_meaning.specs.Shapes.{types_of}
use Rattle.c65_meaning.specs.Step.{rest_list, cells_behind}
use Rattle.c65_code.specs.LineState.{State, sp_of, ax_of, word_at, IsBytes}
use Rattle.c65_genframe.specs.Frames.{Framed}
use Rattle.c65_genexpr.specs.Types.{bare}
use Rattle.c65_genexpr.specs.Arguments.{argument_bytes}
use Rattle.c65_agree_store.specs.Stands.{Placing, CellIs, ValueIs}
use Rattle.c65_agree_library.specs.Calls.{ArePassed, waiting_from}
use Rattle.c65_agree_library_print.specs.Laws.{AreGiven}
use Rattle.c65_agree_argument.specs.Arguments.{Argument, AreArguments, LieAt, AreHeld, is_last, waiting_bytes, IsThere, AreThere}
use Rattle.c65_agree_argument.specs.Passed.{values_of}
use Rattle.c65_agree_library_expr.specs.Callees.{AreFurther, AreNamed}
use Rattle.c65_agree_library_expr.proofs.Words.{AreWords, word_held, word_lies}

-- ---- words

abbrev pub AreTwo : List Argument → Type 0
AreTwo [] = Unit {0}
AreTwo (x ∷ xs) = (x.bytes ≡ 2) × AreTwo xs

-- so many arguments of two bytes, all of which are named
pub record AreAll (n : ℕ) (xs : List Argument) : Type 0 where
  pub count : length xs ≡ n
  pub bytes : AreTwo xs
  pub named : take n (values_of xs) ≡ values_of xs

pub all_named : (u : UnitTy) (f : Framed) (n : ℕ) (es : Nodes) (xs : List Argument) → AreNamed u f false n es → AreArguments f es xs → AreAll n xs
all_named u f zero none [] h args = record { count = refl; bytes = tt; named = refl }
all_named u f zero none (x ∷ xs) h args = absurd args
all_named u f zero (some e es) xs h args = absurd h
all_named u f (suc n) none xs h args = absurd h
all_named u f (suc n) (some e es) [] h args = absurd args
all_named u f (suc n) (some e es) (x ∷ xs) h args =
    let rest = all_named u f n es xs h.1 args.1 in
    record { count = ap suc rest.count; bytes = (args.0 ∙ h.0, rest.bytes); named = ap (λ vs. x.value ∷ vs) rest.named }

-- where one waits
waits_at : (w : Placing) (t : State) (at here bytes : ℕ) (v : Value) → AreWords (v ∷ []) → IsBytes t → bytes ≡ 2 → at ≡ here → LieAt w t.mem at bytes v → ValueIs w 65536 v (word_at t.mem here)
waits_at w t at here bytes v word b two same lies = word_lies w v t.mem here word.0 b.mem (subst (λ n. LieAt w t.mem n 2 v) same (subst (λ n. LieAt w t.mem at n v) two lies))

-- and in AX
is_held : (w : Placing) (t : State) (bytes : ℕ) (v : Value) → AreWords (v ∷ []) → IsBytes t → bytes ≡ 2 → AreHeld w t bytes v → ValueIs w 65536 v (ax_of t)
is_held w t bytes v word b two held = word_held w v t word.0 b (subst (λ n. AreHeld w t n v) two held)

-- the bytes that wait are two for each but the last one
pub as_many_wait : (xs : List Argument) → AreTwo xs → waiting_bytes true xs ≡ waiting_from (values_of xs)
as_many_wait [] two = refl
as_many_wait (x ∷ []) two = refl
as_many_wait (x ∷ y ∷ xs) two = let rest = as_many_wait (y ∷ xs) two.1 in omega (arith, rest, two.0)

-- Three at most are there as such a function takes them.
pub are_passed : (w : Placing) (t : State) (xs : List Argument) → AreTwo xs → length xs ≤ 3 → AreWords (values_of xs) → IsBytes t → AreThere true w t xs → ArePassed w (values_of xs) t
are_passed w t [] two few words b there = tt
are_passed w t (x ∷ []) two few words b there = (is_held w t x.bytes x.value words b two.0 there.0, tt)
are_passed w t (x ∷ y ∷ []) two few words b there = (
  is_held w t y.bytes y.value words.1 b two.1.0 there.1.0,
  (waits_at w t (sp_of t + waiting_bytes true (y ∷ [])) (sp_of t) x.bytes x.value (words.0, tt) b two.0 (omega arith) there.0, tt),
)
are_passed w t (x ∷ y ∷ z ∷ []) two few words b there = (
  is_held w t z.bytes z.value words.1.1 b two.1.1.0 there.1.1.0,
  (
    waits_at w t (sp_of t + waiting_bytes true (z ∷ [])) (sp_of t) y.bytes y.value (words.1.0, tt) b two.1.0 (omega arith) there.1.0,
    (waits_at w t (sp_of t + waiting_bytes true (y ∷ z ∷ [])) (sp_of t + 2) x.bytes x.value (words.0, tt) b two.0 (omega (arith, two.1.0)) there.0, tt),
  ),
)
are_passed w t (x ∷ y ∷ z ∷ more ∷ xs) two few words b there = absurd (omega (arith, few))

-- ---- further arguments

-- none stays in registers
pub none_last : (xs : List Argument) → is_last false xs ≡ false
none_last [] = refl
none_last (x ∷ xs) = refl

nth_front : (xs ys : List Cell) (i : ℕ) → i < length xs → nth_cell (xs ++ ys) i ≡ nth_cell xs i
nth_front [] ys i lt = absurd (omega (arith, lt))
nth_front (x ∷ xs) ys zero lt = refl
nth_front (x ∷ xs) ys (suc i) lt = nth_front xs ys i (omega (arith, lt))

nth_back : (xs ys : List Cell) (i : ℕ) → nth_cell (xs ++ ys) (length xs + i) ≡ nth_cell ys i
nth_back [] ys i = let same : 0 + i ≡ i = omega arith in ap (nth_cell ys) same
nth_back (x ∷ xs) ys i =
    let more : length (x ∷ xs) + i ≡ suc (length xs + i) = omega arith in
    ap (nth_cell (x ∷ (xs ++ ys))) more ∙ nth_back xs ys i

nth_at : (n : ℕ) (cells : ℕ → Cell) (o i : ℕ) → i < n → nth_cell (cells_at n cells o) i ≡ cells (o + i)
nth_at zero cells o i lt = absurd (omega (arith, lt))
nth_at (suc n) cells o zero lt = let same : o ≡ o + 0 = omega arith in ap cells same
nth_at (suc n) cells o (suc i) lt = let same : suc o + i ≡ o + suc i = omega arith in nth_at n cells (suc o) i (omega (arith, lt)) ∙ ap cells same

count_at : (n : ℕ) (cells : ℕ → Cell) (o : ℕ) → length (cells_at n cells o) ≡ n
count_at zero cells o = refl
count_at (suc n) cells o = ap suc (count_at n cells (suc o))

-- Their cells lie from sp on, the first ones highest.
pub record AreLaid (w : Placing) (t : State) (cells : List Cell) (bytes : ℕ) : Type 0 where
  pub count : length cells ≡ bytes
  pub lies : (i : ℕ) → i < length cells → CellIs w (nth_cell cells i) (t.mem (sp_of t + i))

module _ (u : UnitTy) (f : Framed) (w : Placing) (t : State) where
  one_more : (cells : List Cell) (bytes n : ℕ) (x : Argument) → AreLaid w t cells bytes → x.bytes ≡ n → LieAt w t.mem (sp_of t + bytes) x.bytes x.value → AreLaid w t (cells ++ cells_of_value n x.value) (x.bytes + bytes)
  one_more cells bytes n x h size there = record { count = omega (arith, all, size, h.count); lies = λ i lt. by i lt (cases_lt i (length cells)) }
    where
      all : length (cells ++ cells_of_value n x.value) ≡ length cells + n
      all = length-append cells (cells_of_value n x.value) ∙ ap (λ m. length cells + m) (count_at n (cell_of x.value) 0)

      by : (i : ℕ) → i < length (cells ++ cells_of_value n x.value) → (i < length cells) ⊎ (length cells ≤ i) → CellIs w (nth_cell (cells ++ cells_of_value n x.value) i) (t.mem (sp_of t + i))
      by i lt (inl front) = subst (λ z. CellIs w z (t.mem (sp_of t + i))) (sym (nth_front cells (cells_of_value n x.value) i front)) (h.lies i front)
      by i lt (inr back) =
          let k : ℕ = i - length cells in
          let is : length cells + k ≡ i = omega (arith, back) in
          let less : k < n = omega (arith, is, lt, all) in
          let cell : nth_cell (cells ++ cells_of_value n x.value) i ≡ cell_of x.value k = ap (nth_cell (cells ++ cells_of_value n x.value)) (sym is) ∙ (nth_back cells (cells_of_value n x.value) k ∙ (nth_at n (cell_of x.value) 0 k less ∙ (let same : 0 + k ≡ k = omega arith in ap (cell_of x.value) same))) in
          let at : sp_of t + bytes + k ≡ sp_of t + i = omega (arith, is, h.count) in
          subst (λ z. CellIs w z (t.mem (sp_of t + i))) (sym cell) (subst (λ p. CellIs w (cell_of x.value k) (t.mem p)) at (there k (omega (arith, less, size))))

  pub further_lie : (es : Nodes) (xs : List Argument) → AreFurther u f es → AreArguments f es xs → AreThere false w t xs → AreLaid w t (rest_list u.types (types_of es) (values_of xs)) (waiting_bytes false xs)
  further_lie none [] h args there = record { count = refl; lies = λ i lt. absurd (omega (arith, lt)) }
  further_lie none (x ∷ xs) h args there = absurd args
  further_lie (some e es) [] h args there = absurd args
  further_lie (some e es) (x ∷ xs) h args there =
      let rest = further_lie es xs h.1 args.1 there.1 in
      let size : x.bytes ≡ size_of u.types (bare e) = args.0 ∙ h.0 in
      let lies : IsThere false w t (sp_of t + waiting_bytes false xs) x = subst (λ l. IsThere l w t (sp_of t + waiting_bytes false xs) x) (none_last xs) there.0 in
      subst (λ l. AreLaid w t (rest_list u.types (types_of es) (values_of xs) ++ cells_of_value (size_of u.types (bare e)) x.value) (argument_bytes l x.bytes + waiting_bytes false xs)) (sym (none_last xs))
      (one_more (rest_list u.types (types_of es) (values_of xs)) (waiting_bytes false xs) (size_of u.types (bare e)) x rest size lies)

-- ---- a format, and further arguments

-- The format's address waits above the cells of the further arguments.
pub record AreFormatted (u : UnitTy) (w : Placing) (t : State) (types : List Ty) (args : List Value) (wait : ℕ) : Type 0 where
  pub format : Value
  pub named : take 1 args ≡ format ∷ []
  pub count : length (cells_behind u 1 types args) + 2 ≡ wait
  pub given : AreWords (format ∷ []) → IsBytes t → AreGiven w format (cells_behind u 1 types args) t

pub formatted : (u : UnitTy) (f : Framed) (w : Placing) (t : State) (es : Nodes) (xs : List Argument) → AreNamed u f true 1 es → AreArguments f es xs → AreThere false w t xs → AreFormatted u w t (types_of es) (values_of xs) (waiting_bytes false xs)
formatted u f w t none xs h args there = absurd h
formatted u f w t (some e es) [] h args there = absurd args
formatted u f w t (some e es) (x ∷ xs) h args there =
    let laid = further_lie u f w t es xs h.1 args.1 there.1 in
    let size : x.bytes ≡ 2 = args.0 ∙ h.0 in
    let one : argument_bytes (is_last false xs) x.bytes ≡ x.bytes = ap (λ l. argument_bytes l x.bytes) (none_last xs) in
    let lies : IsThere false w t (sp_of t + waiting_bytes false xs) x = subst (λ l. IsThere l w t (sp_of t + waiting_bytes false xs) x) (none_last xs) there.0 in
    record {
      format = x.value;
      named = refl;
      count = omega (arith, laid.count, size, one);
      given = λ words b. record { cells = laid.lies; format_is = waits_at w t (sp_of t + waiting_bytes false xs) (sp_of t + length (rest_list u.types (types_of es) (values_of xs))) x.bytes x.value words b size (omega (arith, laid.count)) lies };
    }
