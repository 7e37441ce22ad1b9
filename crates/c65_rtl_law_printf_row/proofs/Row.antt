-- The row of `printf`: its parts joined.
use Rattle.std.proofs.Common.{◌≡◌, ℕ, zero, suc, ◌+◌, ◌-◌, ◌<◌, ◌≤◌, inl, inr, true, false, IsTrue, List, [], ◌∷◌, ◌++◌, All, Option, Some, None, length, refl, sym, ap, subst, ◌∙◌, arith}
use Rattle.std.specs.Prelude.{max, min, map, nat_le}
use Rattle.std.specs.List.{flat_map}
use Rattle.std.proofs.lemmas.List.{length-append}
use Rattle.std.proofs.lemmas.List.Elements.{All-nil, All-cons, All-head, All-tail, All-weaker}
use Rattle.std.proofs.lemmas.Bool.Decides.{nat_tests}
use Rattle.c65_base.specs.declared.library.Library.TheVariants.{Printf}
use Rattle.c65_base.specs.Formats.{outside}
use Rattle.c65_code.specs.declared.routine.Routine.TheVariants as routines
use Rattle.c65_code.specs.LineState.{Place, State, sp_of, IsBytes}
use Rattle.c65_code.specs.Rows.{Row, row_by, costing, print_row, format_at, format_of, block_of, places_of, printed_of}
use Rattle.c65_code.specs.Steady.{IsOpen}
use Rattle.c65_code.specs.Texts.{bytes_at, text_at, text_length, text_range}
use Rattle.c65_code.specs.RawMachine.{RawSetting, MayRun, Runs, reach_of, HasDone}
use Rattle.c65_rtl_law_walks.proofs.Joins.{rounds_end}
use Rattle.c65_rtl_law_walks.proofs.Ranges.{range_length, all_in_range}
use Rattle.c65_rtl_law_strings.proofs.Lengths.{IsText, text_is}
use Rattle.c65_va.specs.Printf.{printf_lines}
use Rattle.c65_rtl_law_printf.proofs.Reading.{formats_are_read}
use Rattle.c65_rtl_law_printf.proofs.Stops.{stop_weight}
use Rattle.c65_rtl_law_printf_fields.specs.Numbers.{AllStand}
use Rattle.c65_rtl_law_printf_fields.proofs.Leading.{no_calls}
use Rattle.c65_rtl_law_printf_row.specs.Row.{FormatsAreWritten}
use Rattle.c65_rtl_law_printf_row.proofs.Blocks.{bytes_length}
use Rattle.c65_rtl_law_printf_row.proofs.Left.{Readable, CanBeRead, Stands, Left}
use Rattle.c65_rtl_law_printf_row.proofs.Places.{pointers_are}
use Rattle.c65_rtl_law_printf_row.proofs.Moments.{Moment, label_of, at_next, at_width, at_letter, at_long, at_number, at_digits, at_character, at_string, at_pad, at_text, at_end, still, Holds, Inv}
use Rattle.c65_rtl_law_printf_row.proofs.Context.{Called, calls_of, Turning}
use Rattle.c65_rtl_law_printf_row.proofs.Bytes.{next_turn, width_turn}
use Rattle.c65_rtl_law_printf_row.proofs.Choices.{letter_turn, long_turn}
use Rattle.c65_rtl_law_printf_row.proofs.Arguments.{number_turn, digits_turn, character_turn, string_turn}
use Rattle.c65_rtl_law_printf_row.proofs.Texts.{pad_turn, text_turn}
use Rattle.c65_rtl_law_printf_row.proofs.Ends.{text_row, end_turn}
use Rattle.c65_rtl_law_printf_row.proofs.Begins.{begins}

some_is : {A : Type 0} (x y : A) → Some x ≡ Some y → x ≡ y
some_is x y e = cc

not_ready : IsTrue false → ⊥
not_ready h = cc

parts_all : (P : ℕ → Type 0) (xs ys : List ℕ) → All P (xs ++ ys) → All P xs × All P ys
parts_all P [] ys h = (All-nil P, h)
parts_all P (x ∷ xs) ys h =
    let rest = parts_all P xs ys (All-tail P x (xs ++ ys) h) in
    (All-cons P x xs (All-head P x (xs ++ ys) h) rest.0, rest.1)

each_all : (P : ℕ → Type 0) (f : ℕ → List ℕ) (xs : List ℕ) → All P (flat_map f xs) → All (λ x. All P (f x)) xs
each_all P f [] h = All-nil (λ x. All P (f x))
each_all P f (x ∷ xs) h =
    let parts = parts_all P (f x) (flat_map f xs) h in
    All-cons (λ x. All P (f x)) x xs parts.0 (each_all P f xs parts.1)

-- a text in memory
text_stands : (s : RawSetting) (t : State) (count at : ℕ) → IsText t.mem at count → ((k : ℕ) → k < count + 1 → Readable s t (at + k)) → Stands s t (bytes_at count at t.mem) at
text_stands s t zero at text can =
    let e : at + 0 ≡ at = omega arith in
    record { byte = sym (ap t.mem e) ∙ text.ends; readable = subst (λ (b : ℕ). Readable s t b) e (can 0 (omega arith)) }
text_stands s t (suc count) at text can =
    let e : at + 0 ≡ at = omega arith in
    let end : at + 1 + count ≡ at + suc count = omega arith in
    let next : (j : ℕ) → at + suc j ≡ at + 1 + j = λ j. omega arith in
    record {
      byte = refl;
      some = λ none. text.before 0 (omega arith) (ap t.mem e ∙ none);
      readable = subst (λ (b : ℕ). Readable s t b) e (can 0 (omega arith));
      rest = text_stands s t count (at + 1) (record { ends = ap t.mem end ∙ text.ends; before = λ j few none. text.before (suc j) (omega arith) (ap t.mem (next j) ∙ none) })
          (λ k few. subst (λ (b : ℕ). Readable s t b) (next k) (can (suc k) (omega arith)));
    }

module _ (s : RawSetting) (t : State) (text : List ℕ) (back : Place) (stand : AllStand s (s.routine (routines.Library Printf))) (printed : printed_of t ≡ Some text) (may : MayRun s (text_row text t) t) where
  some_bytes : 2 ≤ t.regs.y
  some_bytes = let ready : nat_le 2 t.regs.y ≡ true = may.room.ready in grind (arith, nat_tests)

  end_is : sp_of t + t.regs.y ≤ 65520
  end_is =
      let some = some_bytes in
      let soft = may.room.soft in
      let last = all_in_range (IsOpen s.place (min (sp_of t) (text_row text t).sp)) t.regs.y (sp_of t) may.room.near (t.regs.y - 1) (omega arith) in
      by last
    where
      by : IsOpen s.place (min (sp_of t) (text_row text t).sp) (sp_of t + (t.regs.y - 1)) → sp_of t + t.regs.y ≤ 65520
      by (inl data_of) = let low = (may.data_low _ data_of).1 in let soft = may.room.soft in absurd (omega arith)
      by (inr within) = let high = within.1 in let some = some_bytes in omega arith

  call : Called s t
  call = record { stand = stand; bytes = may.bytes; soft = may.room.soft; hard = may.room.hard; top = end_is; data_low = may.data_low }

  readable : (b : ℕ) → IsOpen s.place (max (sp_of t) (text_row text t).sp) b → Readable s t b
  readable b (inl data_of) =
      let low = may.data_low b data_of in
      let under = low.1 in
      let soft = may.room.soft in
      record { reach = inl data_of; fixed = inl (omega arith); small = omega arith }
  readable b (inr within) =
      let above = within.0 in
      let under = within.1 in
      record { reach = inr (omega arith, under); fixed = inr (omega arith); small = omega arith }

  all_readable : All (Readable s t) (text_range (format_at t) t.mem) × All (Readable s t) (flat_map (λ at. text_range at t.mem) (places_of t))
  all_readable = parts_all (Readable s t) (text_range (format_at t) t.mem) (flat_map (λ at. text_range at t.mem) (places_of t)) (All-weaker (IsOpen s.place (max (sp_of t) (text_row text t).sp)) (Readable s t) readable _ may.room.far)

  left : Left s t outside (format_of t) (format_at t) (t.regs.y - 2) text
  left =
      let some = some_bytes in
      let many : ℕ = text_length (format_at t) t.mem in
      let can : (k : ℕ) → k < many + 1 → Readable s t (format_at t + k) = all_in_range (Readable s t) (many + 1) (format_at t) all_readable.0 in
      let last = (can many (omega arith)).small in
      record {
        stands = text_stands s t many (format_at t) (text_is (format_at t) t.mem (omega arith)) can;
        fits = omega arith;
        printed = sym (formats_are_read (format_of t) (block_of t) t.mem) ∙ printed;
        places = subst (λ (ns : List ℕ). All (CanBeRead s t) ns) (pointers_are (format_of t) (block_of t) (map (λ at. text_at at t.mem) (places_of t)) text printed) (each_all (Readable s t) (λ at. text_range at t.mem) (places_of t) all_readable.1);
      }

  abbrev Done : Place → State → Type 0
  Done q u = HasDone None (text_row text t) back t q u

  turn_of : (m : Moment) (n : ℕ) (u : State) → IsBytes u → u.frames ≡ calls_of t back → Holds s t text m n u → Turning s t text back call Done (label_of m) n u
  turn_of (at_next bs p size rest) n u bytes same h = next_turn s t text back call Done bs p size n rest u bytes same h
  turn_of (at_width w bs p size rest) n u bytes same h = width_turn s t text back call Done w bs p size n rest u bytes same h
  turn_of (at_letter w b bs p size rest) n u bytes same h = letter_turn s t text back call Done w b bs p size n rest u bytes same h
  turn_of (at_long w bs p size rest) n u bytes same h = long_turn s t text back call Done w bs p size n rest u bytes same h
  turn_of (at_number w base chunk bs p size rest) n u bytes same h = number_turn s t text back call Done w base chunk bs p size n rest u bytes same h
  turn_of (at_digits w base chunk bs p size rest) n u bytes same h = digits_turn s t text back call Done w base chunk bs p size n rest u bytes same h
  turn_of (at_character w bs p size rest) n u bytes same h = character_turn s t text back call Done w bs p size n rest u bytes same h
  turn_of (at_string w bs p size rest) n u bytes same h = string_turn s t text back call Done w bs p size n rest u bytes same h
  turn_of (at_pad w chunk bs p size rest) n u bytes same h = pad_turn s t text back call Done w chunk bs p size n rest u bytes same h
  turn_of (at_text chunk bs p size rest) n u bytes same h = text_turn s t text back call Done chunk bs p size n rest u bytes same h
  turn_of (at_end p size) n u bytes same h = end_turn s t text back call p size n u bytes same h

  runs_so : Runs s (routines.Library Printf) (text_row text t) back t
  runs_so =
      let f : ℕ = s.routine (routines.Library Printf) in
      let size : ℕ = t.regs.y - 2 in
      let extra : ℕ = 200 + still (format_of t) text in
      let format_length : length (format_of t) ≡ text_length (format_at t) t.mem = bytes_length (text_length (format_at t) t.mem) (format_at t) t.mem in
      let range = range_length (text_length (format_at t) t.mem + 1) (format_at t) in
      let far = length-append (text_range (format_at t) t.mem) (flat_map (λ at. text_range at t.mem) (places_of t)) in
      record {
        weight = stop_weight no_calls extra (0 ∷ []) printf_lines;
        within = omega arith;
        comes = begins s t text back call some_bytes may.running (format_of t) left Done (λ u bytes same h.
            rounds_end s (reach_of t) Done f (Inv s t text (calls_of t back)) (λ l n u inv. subst (λ (l : ℕ). Turning s t text back call Done l n u) (sym inv.1) (turn_of inv.0 n u inv.2 inv.3 inv.4)) extra 0 extra u (omega arith)
            (at_next (format_of t) (format_at t) size text, refl, bytes, same, h));
      }

abbrev base_row : State → Row
base_row t = costing 256 (row_by (routines.Library Printf) t)

pub formats_are_written : FormatsAreWritten
formats_are_written s stand row back t e may = by (printed_of t) refl
  where
    by : (o : Option (List ℕ)) → printed_of t ≡ o → Runs s (routines.Library Printf) row back t
    by None none =
        let same : print_row t None (base_row t) ≡ row = some_is (print_row t None (base_row t)) row (ap (λ (o : Option (List ℕ)). Some (print_row t o (base_row t))) (sym none) ∙ e) in
        absurd (not_ready (subst (λ (w : Row). MayRun s w t) (sym same) may).room.ready)
    by (Some text) some =
        let same : text_row text t ≡ row = some_is (text_row text t) row (ap (λ (o : Option (List ℕ)). Some (print_row t o (base_row t))) (sym some) ∙ e) in
        subst (λ (w : Row). Runs s (routines.Library Printf) w back t) same (runs_so s t text back stand some (subst (λ (w : Row). MayRun s w t) (sym same) may))
