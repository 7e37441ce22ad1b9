-- A text is written by its format.
use Rattle.std.proofs.Common.{◌≡◌, ℕ, ◌+◌, ◌-◌, ◌/◌, ◌%◌, ◌<◌, ◌≤◌, ◌⊎◌, inl, inr, pos, negsuc, List, [], ◌∷◌, ◌++◌, Bool, false, refl, sym, ap, ◌∙◌, subst, arith, length-append}
use Rattle.std.specs.Prelude.{Ok, Option, Some, None, All, map, length, max, nat_le, if◌then◌else◌, option_and_then}
use Rattle.std.specs.Option.{option_map, unwrap_or}
use Rattle.std.specs.List.{flat_map}
use Rattle.std.proofs.lemmas.Bool.{cases_lt}
use Rattle.std.proofs.lemmas.Bool.Decides.{nat_tests}
use Rattle.std.proofs.lemmas.Int.{ints}
use Rattle.std.proofs.lemmas.List.Elements.{All-nil, All-cons, All-head, All-tail}
use Rattle.c65_ints.specs.declared.types.IntType.TheVariants.{Int}
use Rattle.c65_ints.specs.Ranges.{residue, wrap_of, InRange}
use Rattle.c65_base.specs.Formats.{Part, parts_of, Argument, argument_bytes, numbers_in, pointers_in, arguments_in, text_of, text_by, pointers_by, taken_by}
use Rattle.c65_base.specs.declared.library.Library.TheVariants.{Printf}
use Rattle.c65_meaning.specs.declared.action.Action.TheVariants.{LibraryArgument}
use Rattle.c65_meaning.specs.Why.{◌>>=◌, or_by}
use Rattle.c65_meaning.specs.Store.{Cell, Value, nth_cell}
use Rattle.c65_meaning.specs.State.{Scene}
use Rattle.c65_meaning.specs.Library.{Effect, effect_of, text_at, drawn, text_bytes, prints, printed}
use Rattle.c65_code.specs.declared.routine.Routine.TheVariants as routines
use Rattle.c65_code.specs.LineState.{State, sp_of, ax_of, word_at}
use Rattle.c65_code.specs.Placement.{IsPlacement}
use Rattle.c65_code.specs.Texts.{bytes_at, range_of, text_length, text_range, text_at as text_there}
use Rattle.c65_code.specs.Rows.{Row, row_by, costing, format_at, format_of, block_of, places_of, printed_of, print_row}
use Rattle.c65_code.specs.Steady.{IsOpen}
use Rattle.c65_agree_store.specs.Stands.{Placing, Banks}
use Rattle.c65_agree_numbers.proofs.Tests.{at_most}
use Rattle.c65_agree_state.specs.World.{World, Active}
use Rattle.c65_agree_state.specs.Exprs.{Ready}
use Rattle.c65_agree_rows.proofs.Quiet.{in_range, silent_row}
use Rattle.c65_agree_copy.proofs.Runs.{all_both, range_length}
use Rattle.c65_agree_library.proofs.Flow.{IsDone, call_is_followed, refused, is_given}
use Rattle.c65_agree_library.proofs.Stills.{IsStill, lowered, still_room, still_taken}
use Rattle.c65_agree_library_text.proofs.Areas.{bound}
use Rattle.c65_agree_library_text.proofs.Texts.{IsText, text_is, text_length_is, bytes_spelled}
use Rattle.c65_agree_library_print.specs.Laws.{AreGiven, AreCounted, PrintfIsFollowed}
use Rattle.c65_agree_library_print.proofs.Drawn.{AreDrawn, are_drawn}

-- the number of bytes as an int
wrapped : (n : ℕ) → (residue 65536 (wrap_of Int (pos n)) ≡ n % 65536) × InRange Int (wrap_of Int (pos n))
wrapped n = go (cases_lt (n % 65536) 32768)
  where
    go : (n % 65536 < 32768) ⊎ (32768 ≤ n % 65536) → (residue 65536 (wrap_of Int (pos n)) ≡ n % 65536) × InRange Int (wrap_of Int (pos n))
    go (inl lt) =
        let below : nat_le 32768 (n % 65536) ≡ false = grind (arith, nat_tests, lt) in
        let is : pos (n % 65536) ≡ wrap_of Int (pos n) = sym (ap (λ (b : Bool). if b then negsuc (65535 - n % 65536) else pos (n % 65536)) below) in
        subst (λ z. (residue 65536 z ≡ n % 65536) × InRange Int z) is (omega (arith, lt), record { low = omega (arith, ints, lt); high = omega (arith, ints, lt) })
    go (inr le) =
        let is : negsuc (65535 - n % 65536) ≡ wrap_of Int (pos n) = sym (ap (λ (b : Bool). if b then negsuc (65535 - n % 65536) else pos (n % 65536)) (at_most 32768 (n % 65536) le)) in
        subst (λ z. (residue 65536 z ≡ n % 65536) × InRange Int z) is (omega (arith, le), record { low = omega (arith, ints, le); high = omega (arith, ints, le) })

all_in : (P Q : ℕ → Type 0) (xs : List ℕ) → ((b : ℕ) → P b → Q b) → All P xs → All Q xs
all_in P Q [] f h = All-nil Q
all_in P Q (x ∷ xs) f h = All-cons Q x xs (f x (All-head P x xs h)) (all_in P Q xs f (All-tail P x xs h))

given_is : {A : Type 0} (o : Option A) (x : A) → or_by LibraryArgument o ≡ Ok x → o ≡ Some x
given_is None x e = refused e
given_is (Some y) x e = ap Some (is_given e)

module _ (g : World) (a : Active) (pushed needs : ℕ) (c : Scene) (w : Placing) (banks : Banks) (t : State) (format : Value) (rest : List Cell) (placed : IsPlacement g.code g.place) (r : Ready g a (pushed + (length rest + 2)) needs c w banks t) (h : AreGiven w format rest t) (counted : AreCounted rest t)
    (spelled : List ℕ) (is_spelled : text_at c.store format ≡ Ok spelled) (ps : List Part) (parts : parts_of spelled ≡ Some ps) (given : List Argument) (e : drawn c.store ps (nth_cell rest) (length rest) ≡ Ok given) (out : List ℕ) (writes : text_of ps given ≡ Some out) where
  abbrev count : ℕ
  count = length rest + 2

  abbrev word : ℕ
  word = word_at t.mem (sp_of t + length rest)

  abbrev block : List ℕ
  block = bytes_at (length rest) (sp_of t) t.mem

  abbrev ranges : List ℕ → List ℕ
  ranges xs = flat_map (λ at. text_range at t.mem) xs

  abbrev texts : List ℕ → List (List ℕ)
  texts xs = map (λ at. text_there at t.mem) xs

  is_text : IsText g a t word spelled
  is_text = text_is g a c w banks t r.joins format word spelled h.format_is is_spelled

  format_place : format_at t ≡ word
  format_place =
      let at : sp_of t + t.regs.y - 2 ≡ sp_of t + length rest = omega (arith, counted) in
      ap (word_at t.mem) at

  word_length : text_length word t.mem ≡ length spelled
  word_length = text_length_is word t.mem spelled is_text.spelled is_text.short

  format_length : text_length (format_at t) t.mem ≡ length spelled
  format_length = ap (λ q. text_length q t.mem) format_place ∙ word_length

  format_is : format_of t ≡ spelled
  format_is = ap (λ q. text_there q t.mem) format_place ∙ ap (λ n. bytes_at n word t.mem) word_length ∙ bytes_spelled t.mem word spelled is_text.spelled

  block_is : block_of t ≡ block
  block_is =
      let many : t.regs.y - 2 ≡ length rest = omega (arith, counted) in
      ap (λ n. bytes_at n (sp_of t) t.mem) many

  are : AreDrawn (IsOpen g.place a.base) t.mem ps block given
  are = are_drawn g a c w banks t r.joins (nth_cell rest) (length rest) h.cells ps (length rest) given (omega arith) e

  places_are : places_of t ≡ pointers_in ps are.numbers
  places_are =
      ap (λ x. pointers_by x (block_of t)) format_is ∙ ap (pointers_by spelled) block_is
      ∙ ap (λ (o : Option (List Part)). unwrap_or (option_and_then (λ xs. option_map (pointers_in xs) (numbers_in xs block)) o) []) parts ∙ ap (λ (o : Option (List ℕ)). unwrap_or (option_map (pointers_in ps) o) []) are.are

  printed_is : printed_of t ≡ Some out
  printed_is =
      let strings : List (List ℕ) = texts (pointers_in ps are.numbers) in
      ap (λ x. text_by x (block_of t) (texts (places_of t))) format_is ∙ ap (λ x. text_by spelled x (texts (places_of t))) block_is ∙ ap (λ x. text_by spelled block (texts x)) places_are
      ∙ ap (λ (o : Option (List Part)). option_and_then (λ xs. option_and_then (λ ns. option_and_then (λ ys. text_of xs ys) (arguments_in xs ns (texts (pointers_in ps are.numbers)))) (numbers_in xs block)) o) parts
      ∙ ap (λ (o : Option (List ℕ)). option_and_then (λ ns. option_and_then (λ ys. text_of ps ys) (arguments_in ps ns (texts (pointers_in ps are.numbers)))) o) are.are
      ∙ ap (λ (o : Option (List Argument)). option_and_then (λ ys. text_of ps ys) o) are.arguments ∙ writes

  taken_is : taken_by (format_of t) ≡ argument_bytes ps
  taken_is = ap taken_by format_is ∙ ap (λ (o : Option (List Part)). unwrap_or (option_map argument_bytes o) 0) parts

  abbrev row : Row
  row = print_row t (Some out) (costing 256 (row_by (routines.Library Printf) t))

  still : IsStill (length rest + 2) t row
  still = record { sp = omega (arith, counted, r.sp, r.joins.top); writes = refl; ends = refl; bank = (silent_row (row_by (routines.Library Printf) t) refl refl refl refl).bank; room = refl }

  far_is : length row.far ≡ length spelled + 1 + text_bytes given
  far_is =
      let others : length (ranges (places_of t)) ≡ text_bytes given = ap (λ xs. length (ranges xs)) places_are ∙ are.many in
      omega (arith, length-append (text_range (format_at t) t.mem) (ranges (places_of t)), range_length (text_length (format_at t) t.mem + 1) (format_at t), format_length, others)

  abbrev Reached : ℕ → Type 0
  Reached q = IsOpen g.place (max (sp_of t) row.sp) q

  format_open : (i : ℕ) → i < text_length (format_at t) t.mem + 1 → Reached (format_at t + i)
  format_open i lt =
      let on : word + i ≡ format_at t + i = ap (λ q. q + i) (sym format_place) in
      lowered g a pushed needs (length rest + 2) c w banks t row placed r still (format_at t + i) (subst (IsOpen g.place a.base) on (is_text.opened i (omega (arith, lt, format_length))))

  far_open : All Reached row.far
  far_open = all_both Reached (text_range (format_at t) t.mem) (ranges (places_of t)) (in_range Reached (text_length (format_at t) t.mem + 1) (format_at t) format_open)
      (all_in (IsOpen g.place a.base) Reached (ranges (places_of t)) (lowered g a pushed needs (length rest + 2) c w banks t row placed r still) (subst (λ xs. All (IsOpen g.place a.base) (ranges xs)) (sym places_are) are.opened))

  printed_done : IsDone g a Printf pushed needs (length rest + 2) c w banks t (prints c spelled ps given out)
  printed_done = record {
    row = row;
    is = ap (λ o. Some (print_row t o (costing 256 (row_by (routines.Library Printf) t)))) printed_is;
    room = still_room g a pushed needs (length rest + 2) c w banks t row placed r still (at_most 2 t.regs.y (omega (arith, counted))) (ap (λ n. range_of n (sp_of t)) counted) far_open;
    cost = omega (arith, far_is, taken_is);
    goes_on = refl;
    served = λ u meets bytes. record {
      taken = still_taken g a pushed needs (length rest + 2) c w banks t row placed r still u meets bytes c.input (c.out ++ out) r.joins.read (meets.input ∙ r.joins.input) (meets.output ∙ ap (λ o. o ++ out) r.joins.output);
      value = value u meets.a meets.x ∙ sym (wrapped (length out)).0;
      gives = (wrapped (length out)).1;
    };
  }
    where
      value : (u : State) → u.regs.a ≡ length out % 256 → u.regs.x ≡ length out / 256 % 256 → ax_of u ≡ length out % 65536
      value u low high = omega (arith, low, high)

-- what the meaning prints, the routine does
prints_are_done : (g : World) (a : Active) (pushed needs : ℕ) (c : Scene) (w : Placing) (banks : Banks) (t : State) (format : Value) (rest : List Cell) (x : Effect) → IsPlacement g.code g.place
    → Ready g a (pushed + (length rest + 2)) needs c w banks t → AreGiven w format rest t → AreCounted rest t → effect_of c Printf (format ∷ []) rest ≡ Ok x → IsDone g a Printf pushed needs (length rest + 2) c w banks t x
prints_are_done g a pushed needs c w banks t format rest x placed r h counted e =
    let f = bound (text_at c.store format) (printed c rest) x e in
    let ps = bound (or_by LibraryArgument (parts_of f.0)) (λ ps. drawn c.store ps (nth_cell rest) (length rest) >>= λ given. or_by LibraryArgument (text_of ps given) >>= λ text. Ok (prints c f.0 ps given text)) x f.2 in
    let given = bound (drawn c.store ps.0 (nth_cell rest) (length rest)) (λ given. or_by LibraryArgument (text_of ps.0 given) >>= λ text. Ok (prints c f.0 ps.0 given text)) x ps.2 in
    let out = bound (or_by LibraryArgument (text_of ps.0 given.0)) (λ text. Ok (prints c f.0 ps.0 given.0 text)) x given.2 in
    let is : prints c f.0 ps.0 given.0 out.0 ≡ x = is_given out.2 in
    subst (IsDone g a Printf pushed needs (length rest + 2) c w banks t) is
    (printed_done g a pushed needs c w banks t format rest placed r h counted f.0 f.1 ps.0 (given_is (parts_of f.0) ps.0 ps.1) given.0 given.1 out.0 (given_is (text_of ps.0 given.0) out.0 out.1))

pub printf_is_followed : PrintfIsFollowed
printf_is_followed g a pushed needs c w banks t n v p i k format ws vs rest seen placed there ready given counted turns step behind =
    call_is_followed g a Printf (format ∷ []) rest pushed needs (length rest + 2) c w banks t placed ready (λ x e. prints_are_done g a pushed needs c w banks t format rest x placed ready given counted e) n v p i k ws vs seen there turns step behind
