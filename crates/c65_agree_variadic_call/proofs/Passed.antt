-- Arguments that wait lie where a function takes them that takes further ones.
use Rattle.std.proofs.Common.{◌≡◌, ℕ, zero, suc, ◌+◌, ◌-◌, ◌<◌, ◌≤◌, ◌⊎◌, inl, inr, Bool, true, false, List, [], ◌∷◌, ◌++◌, Some, length, refl, sym, ap, ◌∙◌, subst, arith, length-append}
use Rattle.std.specs.Prelude.{if◌then◌else◌, ◌&&◌, drop}
use Rattle.std.proofs.lemmas.Bool.{cases_lt, le-leb}
use Rattle.c65_ctype.specs.Sizes.{size_of}
use Rattle.c65_csem.specs.Trees.{Nodes, none, some, UnitTy}
use Rattle.c65_meaning.specs.Store.{Cell, size_in, cells_at, cell_of, nth_cell, new_cells}
use Rattle.c65_meaning.specs.Shapes.{bare_type, object_in, types_of}
use Rattle.c65_meaning.specs.Step.{rest_list}
use Rattle.c65_code.specs.LineState.{Bytes, State, sp_of}
use Rattle.c65_genframe.specs.declared.home.Home.TheVariants as homes
use Rattle.c65_genframe.specs.Frames.{Framed, home_of, lies_above, is_raised, saved_bytes}
use Rattle.c65_agree_store.specs.Stands.{At, Placing, CellIs}
use Rattle.c65_agree_state.specs.World.{World, unit_in, Active}
use Rattle.c65_agree_state.specs.Joins.{home_spot, spot_of}
use Rattle.c65_agree_enter.specs.Params.{shape_in, no_cells}
use Rattle.c65_agree_enter.specs.Laws.{LiesAs}
use Rattle.c65_agree_argument.specs.Arguments.{Argument, AreArguments, LieAt, is_last, waiting_bytes, IsThere, AreThere}
use Rattle.c65_agree_argument.specs.Passed.{all_bytes, values_of, IsTakenAt, stays, moves}
use Rattle.c65_agree_argument.proofs.Passed.{none_last, all_wait, object_cells}
use Rattle.c65_agree_variadic.specs.Entries.{IsPassedFurther, on_stack, moving, AllPassedFurther}
use Rattle.c65_agree_variadic_call.specs.Callees.{named_sizes, AreWhole, AreTakenAt}
use Rattle.c65_agree_variadic_call.specs.Passed.{FurtherArgumentsArePassed}

-- ---- all wait

-- each lies above those behind it
abbrev AllLie : Placing → State → List Argument → Type 0
AllLie w t [] = Unit {0}
AllLie w t (x ∷ xs) = LieAt w t.mem (sp_of t + all_bytes xs) x.bytes x.value × AllLie w t xs

all_lie : (w : Placing) (t : State) (xs : List Argument) → AreThere false w t xs → AllLie w t xs
all_lie w t [] h = tt
all_lie w t (x ∷ xs) h = (subst (λ n. LieAt w t.mem (sp_of t + n) x.bytes x.value) (all_wait xs) (subst (λ b. IsThere b w t (sp_of t + waiting_bytes false xs) x) (none_last xs) h.0), all_lie w t xs h.1)

-- ---- cells

nth_front : (xs ys : List Cell) (o : ℕ) → o < length xs → nth_cell (xs ++ ys) o ≡ nth_cell xs o
nth_front [] ys o lt = absurd (omega (arith, lt))
nth_front (x ∷ xs) ys zero lt = refl
nth_front (x ∷ xs) ys (suc o) lt = nth_front xs ys o (omega (arith, lt))

nth_back : (xs ys : List Cell) (o : ℕ) → nth_cell (xs ++ ys) (length xs + o) ≡ nth_cell ys o
nth_back [] ys o = let same : 0 + o ≡ o = omega arith in ap (nth_cell ys) same
nth_back (x ∷ xs) ys o = let same : length (x ∷ xs) + o ≡ suc (length xs + o) = omega arith in ap (nth_cell (x ∷ (xs ++ ys))) same ∙ nth_back xs ys o

cells_length : (n k : ℕ) (cells : ℕ → Cell) → length (cells_at n cells k) ≡ n
cells_length zero k cells = refl
cells_length (suc n) k cells = ap suc (cells_length n (suc k) cells)

cells_nth : (n k o : ℕ) (cells : ℕ → Cell) → o < n → nth_cell (cells_at n cells k) o ≡ cells (k + o)
cells_nth zero k o cells lt = absurd (omega (arith, lt))
cells_nth (suc n) k zero cells lt = let same : k ≡ k + 0 = omega arith in ap cells same
cells_nth (suc n) k (suc o) cells lt = let same : suc k + o ≡ k + suc o = omega arith in cells_nth n (suc k) o cells (omega (arith, lt)) ∙ ap cells same

-- ---- further arguments

module _ (u : UnitTy) (f : Framed) where
  abbrev cells_of : Nodes → List Argument → List Cell
  cells_of es xs = rest_list u.types (types_of es) (values_of xs)

  cells_many : (es : Nodes) (xs : List Argument) → AreWhole u f es → AreArguments f es xs → length (cells_of es xs) ≡ all_bytes xs
  cells_many none [] whole args = refl
  cells_many none (x ∷ xs) whole args = absurd args
  cells_many (some e es) [] whole args = absurd args
  cells_many (some e es) (x ∷ xs) whole args =
      let own : ℕ = size_of u.types (bare_type e) in
      let sum = length-append (cells_of es xs) (cells_at own (cell_of x.value) 0) in
      omega (arith, sum, cells_length own 0 (cell_of x.value), cells_many es xs whole.1 args.1, whole.0, args.0)

  module _ (w : Placing) (t : State) where
    cells_lie : (es : Nodes) (xs : List Argument) → AreWhole u f es → AreArguments f es xs → AllLie w t xs → (o : ℕ) → o < length (cells_of es xs) → CellIs w (nth_cell (cells_of es xs) o) (t.mem (sp_of t + o))
    cells_lie none [] whole args lie o lt = absurd (omega (arith, lt))
    cells_lie none (x ∷ xs) whole args lie o lt = absurd args
    cells_lie (some e es) [] whole args lie o lt = absurd args
    cells_lie (some e es) (x ∷ xs) whole args lie o lt = go (λ i. cells_lie es xs whole.1 args.1 lie.1 i) (cases_lt o (length (cells_of es xs)))
      where
        many : length (cells_of es xs) ≡ all_bytes xs
        many = cells_many es xs whole.1 args.1

        go : ((i : ℕ) → i < length (cells_of es xs) → CellIs w (nth_cell (cells_of es xs) i) (t.mem (sp_of t + i))) → (o < length (cells_of es xs)) ⊎ (length (cells_of es xs) ≤ o) → CellIs w (nth_cell ((cells_of es xs) ++ (cells_at (size_of u.types (bare_type e)) (cell_of x.value) 0)) o) (t.mem (sp_of t + o))
        go deep (inl less) = subst (λ z. CellIs w z (t.mem (sp_of t + o))) (sym (nth_front (cells_of es xs) (cells_at (size_of u.types (bare_type e)) (cell_of x.value) 0) o less)) (deep o less)
        go deep (inr more) = upper (o - length (cells_of es xs)) (omega (arith, more)) (omega (arith, lt, more, length-append (cells_of es xs) (cells_at (size_of u.types (bare_type e)) (cell_of x.value) 0), cells_length (size_of u.types (bare_type e)) 0 (cell_of x.value)))
          where
            upper : (i : ℕ) → length (cells_of es xs) + i ≡ o → i < size_of u.types (bare_type e) → CellIs w (nth_cell (cells_of es xs ++ cells_at (size_of u.types (bare_type e)) (cell_of x.value) 0) o) (t.mem (sp_of t + o))
            upper i there few =
                let none : 0 + i ≡ i = omega arith in
                let cell : nth_cell (cells_of es xs ++ cells_at (size_of u.types (bare_type e)) (cell_of x.value) 0) o ≡ cell_of x.value i = ap (nth_cell (cells_of es xs ++ cells_at (size_of u.types (bare_type e)) (cell_of x.value) 0)) (sym there) ∙ (nth_back (cells_of es xs) (cells_at (size_of u.types (bare_type e)) (cell_of x.value) 0) i ∙ (cells_nth (size_of u.types (bare_type e)) 0 i (cell_of x.value) few ∙ ap (cell_of x.value) none)) in
                let place : sp_of t + all_bytes xs + i ≡ sp_of t + o = omega (arith, there, many) in
                subst (λ z. CellIs w z (t.mem (sp_of t + o))) (sym cell) (subst (λ n. CellIs w (cell_of x.value i) (t.mem n)) place (lie.0 i (omega (arith, few, whole.0, args.0))))

-- ---- parameters

module _ (g : World) (a : Active) (f : Framed) (w : Placing) (t u : State) (variadic : a.frame.variadic ≡ true) (same : u.mem ≡ t.mem) where
  abbrev un : UnitTy
  un = unit_in g

  -- the cells of the arguments behind those of so many parameters
  abbrev rest_of : List ℕ → Nodes → List Argument → List Cell
  rest_of is es xs = rest_list un.types (drop (length is) (types_of es)) (drop (length is) (values_of xs))

  pub sum_is : (is : List ℕ) (at : ℕ) (es : Nodes) (xs : List Argument) → AreTakenAt un f a.frame at is es → AreArguments f es xs → all_bytes xs ≡ named_sizes f is es + length (rest_of is es xs)
  sum_is [] at es xs taken args = omega (arith, cells_many un f es xs taken args)
  sum_is (i ∷ is) at none xs taken args = absurd taken
  sum_is (i ∷ is) at (some e es) [] taken args = absurd args
  sum_is (i ∷ is) at (some e es) (x ∷ xs) taken args = omega (arith, args.0, sum_is is at es xs taken.2 args.1)

  rest_lies : (is : List ℕ) (at : ℕ) (es : Nodes) (xs : List Argument) → AreTakenAt un f a.frame at is es → AreArguments f es xs → AllLie w t xs → (o : ℕ) → o < length (rest_of is es xs) → CellIs w (nth_cell (rest_of is es xs) o) (t.mem (sp_of t + o))
  rest_lies [] at es xs taken args lie o lt = cells_lie un f w t es xs taken args lie o lt
  rest_lies (i ∷ is) at none xs taken args lie o lt = absurd taken
  rest_lies (i ∷ is) at (some e es) [] taken args lie o lt = absurd args
  rest_lies (i ∷ is) at (some e es) (x ∷ xs) taken args lie o lt = rest_lies is at es xs taken.2 args.1 lie.1 o lt

  -- the cells of an argument whose bytes are there
  lies_as : (i : ℕ) (x : Argument) (here there : ℕ) → here ≡ there → size_in (shape_in un i) ≤ x.bytes → LieAt w t.mem there x.bytes x.value → LiesAs g w i x.value (λ o. u.mem (here + o))
  lies_as i x here there is fits lie o lt =
      let cell : new_cells (shape_in un i) x.value no_cells 0 o ≡ cell_of x.value o = object_cells un.types (object_in un i) x.value no_cells 0 o in
      let byte : u.mem (here + o) ≡ t.mem (there + o) = ap (λ (m : Bytes). m (here + o)) same ∙ ap (λ n. t.mem (n + o)) is in
      subst (λ z. CellIs w z (u.mem (here + o))) (sym cell) (subst (CellIs w (cell_of x.value o)) (sym byte) (lie o (omega (arith, lt, fits))))

  -- a parameter lies higher
  soft_spot : (i d : ℕ) → home_of a.frame i ≡ Some (homes.Soft d) → a.frame.soft ≤ d → spot_of g a i ≡ At (a.base + d + a.raised)
  soft_spot i d e le =
      let above : lies_above a.frame.soft (home_of a.frame i) ≡ true = ap (lies_above a.frame.soft) e ∙ le-leb a.frame.soft d le in
      let raised : is_raised a.frame i ≡ true = ap (λ (b : Bool). b && lies_above a.frame.soft (home_of a.frame i)) variadic ∙ above in
      ap (home_spot g a i) e ∙ ap (λ (b : Bool). At (a.base + d + (if b then a.raised else 0))) raised

  module _ (at : ℕ) (low : a.frame.soft ≤ at) (base : a.base + at ≡ sp_of t) where
    one_passed : (i offset higher : ℕ) (x : Argument) → a.raised + offset ≡ at + higher → at ≤ offset → IsTakenAt un a.frame i offset → size_in (shape_in un i) ≤ x.bytes → LieAt w t.mem (sp_of t + higher) x.bytes x.value → IsPassedFurther g a w u i x.value
    one_passed i offset higher x sum le (stays e) fits lie = on_stack (a.base + offset + a.raised) (soft_spot i offset e (omega (arith, low, le))) (lies_as i x (a.base + offset + a.raised) (sp_of t + higher) (omega (arith, sum, base)) fits lie)
    one_passed i offset higher x sum le (moves k m listed e from size) fits lie =
        moving k m listed (ap (home_spot g a i) e) size (lies_as i x (a.base + (m.from + a.raised)) (sp_of t + higher) (omega (arith, sum, base, from)) fits lie)

    all_passed : (is : List ℕ) (es : Nodes) (xs : List Argument) → AreTakenAt un f a.frame at is es → AreArguments f es xs → AllLie w t xs → a.raised ≡ length (rest_of is es xs) → AllPassedFurther g a w u is (values_of xs)
    all_passed [] es xs taken args lie raised = tt
    all_passed (i ∷ is) none xs taken args lie raised = absurd taken
    all_passed (i ∷ is) (some e es) [] taken args lie raised = tt
    all_passed (i ∷ is) (some e es) (x ∷ xs) taken args lie raised = (
      one_passed i (at + named_sizes f is es) (all_bytes xs) x (omega (arith, sum_is is at es xs taken.2 args.1, raised)) (omega arith) taken.0 (omega (arith, taken.1, args.0)) lie.0,
      all_passed is es xs taken.2 args.1 lie.1 raised,
    )

pub further_arguments_are_passed : FurtherArgumentsArePassed
further_arguments_are_passed g a f function es xs w t u args there taken variadic stacked raised base few entry count =
    let at : ℕ = a.frame.soft + saved_bytes a.frame.bank in
    let lie : AllLie w t xs = all_lie w t xs there in
    let sum : all_bytes xs ≡ named_sizes f function.params es + length (rest_of g a f w t u variadic entry.mem function.params es xs) = sum_is g a f w t u variadic entry.mem function.params at es xs taken args in
    record {
      stacked = omega (arith, base, entry.sp);
      count = omega (arith, count, sum, raised, stacked);
      few = omega (arith, few, sum, raised, stacked);
      lies = all_passed g a f w t u variadic entry.mem at (omega arith) base function.params es xs taken args lie raised;
      rest = λ o lt.
          let place : a.base + a.frame.soft + saved_bytes a.frame.bank + o ≡ sp_of t + o = omega (arith, base) in
          let byte : u.mem (a.base + a.frame.soft + saved_bytes a.frame.bank + o) ≡ t.mem (sp_of t + o) = ap (λ (m : Bytes). m (a.base + a.frame.soft + saved_bytes a.frame.bank + o)) entry.mem ∙ ap t.mem place in
          subst (CellIs w (nth_cell (rest_of g a f w t u variadic entry.mem function.params es xs) o)) (sym byte) (rest_lies g a f w t u variadic entry.mem function.params at es xs taken args lie o lt);
    }
