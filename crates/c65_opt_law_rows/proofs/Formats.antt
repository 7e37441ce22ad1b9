-- Rows of `printf` from near states: it goes over a format and the texts among its arguments.
use Rattle.std.proofs.Common.{◌≡◌, ℕ, zero, suc, ◌<◌, ◌≤◌, ◌+◌, ◌-◌, ◌*◌, ◌%◌, true, false, inr, Option, Some, None, List, [], ◌∷◌, ◌++◌, All, length, map, max, refl, sym, subst, ap, ◌∙◌, arith}
use Rattle.std.specs.Prelude.{nat_le}
use Rattle.std.specs.List.{flat_map}
use Rattle.std.proofs.lemmas.Bool.{leb-true}
use Rattle.std.proofs.lemmas.List.Elements.{All-tail}
use Rattle.c65_base.specs.declared.library.Library.TheVariants.{Printf}
use Rattle.c65_base.specs.Formats.{text_by, pointers_by, taken_by}
use Rattle.c65_code.specs.declared.parts.Part.{Part}
use Rattle.c65_code.specs.declared.parts.Part.TheVariants.{Y}
use Rattle.c65_code.specs.declared.parts.RegSet.{RegSet}
use Rattle.c65_code.specs.declared.routine.Routine.{Routine}
use Rattle.c65_code.specs.declared.routine.Routine.TheVariants as routines
use Rattle.c65_code.specs.declared.routine.Width.TheVariants.{Ax}
use Rattle.c65_code.specs.Effects.{routine_reads}
use Rattle.c65_code.specs.LineState.{State, word_at, sp_of, Same}
use Rattle.c65_code.specs.Parts.{has_part}
use Rattle.c65_code.specs.Placement.{Placement, stack_start}
use Rattle.c65_code.specs.Rows.{Row, row_by, giving, needing, costing, popping, format_at, format_of, block_of, places_of, printed_of, by_printed, print_row, row_of}
use Rattle.c65_code.specs.Steady.{IsOpen, RowHasRoom}
use Rattle.c65_code.specs.Texts.{bytes_at, range_of, text_length, text_at, text_range}
use Rattle.c65_opt_law_near.specs.Laws.{IsLow}
use Rattle.c65_opt_law_near.specs.Near.{Near}
use Rattle.c65_opt_law_rows.proofs.Rows.{AlikeIf, equal_alike, sp, word_one, open_one, plain_row, bytes_one}
use Rattle.c65_opt_law_rows.proofs.Copies.{in_range}
use Rattle.c65_opt_law_rows.proofs.Pairs.{all_behind}
use Rattle.c65_opt_law_rows.proofs.Texts.{bytes_same, text_same}

module _ (place : Placement) (low : IsLow place) (t u : State) (live : RegSet) (n : Near live t u) (y : t.regs.y ≡ u.regs.y) where
  bound : ℕ
  bound = max (sp_of t) ((sp_of t + t.regs.y) % 65536)

  -- a text whose bytes are open is the same in both
  text_bytes : (at : ℕ) (rest : List ℕ) → All (IsOpen place (max (sp_of t) ((sp_of t + t.regs.y) % 65536))) (text_range at t.mem ++ rest) → (b : ℕ) → at ≤ b → b < at + (text_length at t.mem + 1) → t.mem b ≡ u.mem b
  text_bytes at rest far b lo hi =
      n.mem b (open_one t u live n place low (max (sp_of t) ((sp_of t + t.regs.y) % 65536)) b (omega arith) (in_range (IsOpen place (max (sp_of t) ((sp_of t + t.regs.y) % 65536))) (text_length at t.mem + 1) at rest far b lo hi))

  one_text : (at : ℕ) (rest : List ℕ) → All (IsOpen place (max (sp_of t) ((sp_of t + t.regs.y) % 65536))) (text_range at t.mem ++ rest) → text_at at t.mem ≡ text_at at u.mem
  one_text at rest far =
      bytes_same (text_length at t.mem) at t.mem u.mem (λ b lo hi. text_bytes at rest far b lo (omega arith)) ∙ ap (λ (x : ℕ). bytes_at x at u.mem) (text_same at t.mem u.mem (text_bytes at rest far))

  one_range : (at : ℕ) (rest : List ℕ) → All (IsOpen place (max (sp_of t) ((sp_of t + t.regs.y) % 65536))) (text_range at t.mem ++ rest) → text_range at t.mem ≡ text_range at u.mem
  one_range at rest far = ap (λ (x : ℕ). range_of (x + 1) at) (text_same at t.mem u.mem (text_bytes at rest far))

  texts : (places : List ℕ) → All (IsOpen place (max (sp_of t) ((sp_of t + t.regs.y) % 65536))) (flat_map (λ at. text_range at t.mem) places) → map (λ at. text_at at t.mem) places ≡ map (λ at. text_at at u.mem) places
  texts [] far = refl
  texts (at ∷ places) far =
      let rest : List ℕ = flat_map (λ at. text_range at t.mem) places in
      ap (λ (x : List ℕ). x ∷ map (λ at. text_at at t.mem) places) (one_text at rest far) ∙ ap (λ (xs : List (List ℕ)). text_at at u.mem ∷ xs) (texts places (all_behind (IsOpen place (max (sp_of t) ((sp_of t + t.regs.y) % 65536))) (text_range at t.mem) rest far))

  ranges : (places : List ℕ) → All (IsOpen place (max (sp_of t) ((sp_of t + t.regs.y) % 65536))) (flat_map (λ at. text_range at t.mem) places) → flat_map (λ at. text_range at t.mem) places ≡ flat_map (λ at. text_range at u.mem) places
  ranges [] far = refl
  ranges (at ∷ places) far =
      let rest : List ℕ = flat_map (λ at. text_range at t.mem) places in
      ap (λ (xs : List ℕ). xs ++ rest) (one_range at rest far) ∙ ap (λ (xs : List ℕ). text_range at u.mem ++ xs) (ranges places (all_behind (IsOpen place (max (sp_of t) ((sp_of t + t.regs.y) % 65536))) (text_range at t.mem) rest far))

  abbrev printing : ℕ → ℕ → List ℕ → List ℕ → List ℕ → Row → Row
  printing at count text far format row =
      record (needing (nat_le 2 count) (giving Ax (length text) (record row { sp = (at + count) % 65536; near = range_of count at; out = text; far = far }))) { cost = 1024 + 3072 * (length far + (taken_by format + length text)) }

  printing_same : (at count : ℕ) (text : List ℕ) (far : List ℕ) (format : List ℕ) (row : Row) (at2 count2 : ℕ) (text2 : List ℕ) (far2 : List ℕ) (format2 : List ℕ) (row2 : Row) → at ≡ at2 → count ≡ count2 → text ≡ text2 → far ≡ far2 → format ≡ format2 → row ≡ row2
      → printing at count text far format row ≡ printing at2 count2 text2 far2 format2 row2
  printing_same at count text far format row at2 count2 text2 far2 format2 row2 a c x f g r =
      ap (λ (z : ℕ). printing z count text far format row) a
      ∙ (ap (λ (z : ℕ). printing at2 z text far format row) c
      ∙ (ap (λ (z : List ℕ). printing at2 count2 z far format row) x
      ∙ (ap (λ (z : List ℕ). printing at2 count2 text2 z format row) f
      ∙ (ap (λ (z : List ℕ). printing at2 count2 text2 far2 z row) g ∙ ap (printing at2 count2 text2 far2 format2) r))))

  abbrev base : State → Row
  base s = costing 256 (row_by (routines.Library Printf) s)

  -- where there is a text to print, it is the same in both
  printed : (text : List ℕ) → printed_of t ≡ Some text → t.regs.y < 256 → sp_of t ≤ 65520 → RowHasRoom place (Some (print_row t (Some text) (base t))) t → AlikeIf (Some (print_row t (Some text) (base t))) (Some (print_row u (printed_of u) (base u))) t
  printed text is small top room =
      let enough : 2 ≤ t.regs.y = leb-true 2 t.regs.y room.ready in
      let far : All (IsOpen place (max (sp_of t) ((sp_of t + t.regs.y) % 65536))) (text_range (format_at t) t.mem ++ flat_map (λ at. text_range at t.mem) (places_of t)) = room.far in
      let rest : List ℕ = flat_map (λ at. text_range at t.mem) (places_of t) in
      let eq : sp_of t ≡ sp_of u = sp t u live n in
      let there : sp_of t + t.regs.y - 2 ≡ sp_of u + u.regs.y - 2 = ap (λ (x : ℕ). x + t.regs.y - 2) eq ∙ ap (λ (x : ℕ). sp_of u + x - 2) y in
      let at : format_at t ≡ format_at u = word_one t u live n (sp_of t + t.regs.y - 2) (sp_of u + u.regs.y - 2) there (inr (omega arith)) (inr (omega arith)) in
      let format : format_of t ≡ format_of u = one_text (format_at t) rest far ∙ ap (λ (x : ℕ). text_at x u.mem) at in
      let block : block_of t ≡ block_of u = bytes_one t u live n (t.regs.y - 2) (sp_of t) (sp_of u) eq (omega arith) ∙ ap (λ (x : ℕ). bytes_at (x - 2) (sp_of u) u.mem) y in
      let places : places_of t ≡ places_of u = ap (λ (x : List ℕ). pointers_by x (block_of t)) format ∙ ap (pointers_by (format_of u)) block in
      let behind : All (IsOpen place (max (sp_of t) ((sp_of t + t.regs.y) % 65536))) (flat_map (λ at. text_range at t.mem) (places_of t)) = all_behind (IsOpen place (max (sp_of t) ((sp_of t + t.regs.y) % 65536))) (text_range (format_at t) t.mem) rest far in
      let shown : map (λ at. text_at at t.mem) (places_of t) ≡ map (λ at. text_at at u.mem) (places_of u) = texts (places_of t) behind ∙ ap (map (λ at. text_at at u.mem)) places in
      let same : printed_of t ≡ printed_of u =
      ap (λ (x : List ℕ). text_by x (block_of t) (map (λ at. text_at at t.mem) (places_of t))) format
      ∙ (ap (λ (x : List ℕ). text_by (format_of u) x (map (λ at. text_at at t.mem) (places_of t))) block ∙ ap (text_by (format_of u) (block_of u)) shown) in
      let whole : text_range (format_at t) t.mem ++ rest ≡ text_range (format_at u) u.mem ++ flat_map (λ at. text_range at u.mem) (places_of u) =
      ap (λ (xs : List ℕ). xs ++ rest) (one_range (format_at t) rest far ∙ ap (λ (x : ℕ). text_range x u.mem) at)
      ∙ ap (λ (xs : List ℕ). text_range (format_at u) u.mem ++ xs) (ranges (places_of t) behind ∙ ap (flat_map (λ at. text_range at u.mem)) places) in
      let theirs : printed_of u ≡ Some text = sym same ∙ is in
      subst (λ (o : Option (List ℕ)). AlikeIf (Some (print_row t (Some text) (base t))) (Some (print_row u o (base u))) t) (sym theirs)
      (equal_alike (print_row t (Some text) (base t)) (print_row u (Some text) (base u)) t
      (printing_same (sp_of t) t.regs.y text (text_range (format_at t) t.mem ++ rest) (format_of t) (base t) (sp_of u) u.regs.y text (text_range (format_at u) u.mem ++ flat_map (λ at. text_range at u.mem) (places_of u)) (format_of u) (base u) eq y refl whole format
      (ap (costing 256) (plain_row t u live n (routines.Library Printf))))
      tt (λ above b g h. absurd (wrapped above b g h)))
    where
      wrapped : stack_start ≤ (sp_of t + t.regs.y) % 65536 → (b : ℕ) → (sp_of t + t.regs.y) % 65536 ≤ b → b < sp_of t → ⊥
      wrapped above b g h = omega arith

  unprinted : (none : Row) → RowHasRoom place (Some (needing false none)) t → ⊥
  unprinted none room = let no : false ≡ true = room.ready in cc

  pub printf_alike : t.regs.y < 256 → sp_of t ≤ 65520 → RowHasRoom place (row_of (routines.Library Printf) t) t → AlikeIf (row_of (routines.Library Printf) t) (row_of (routines.Library Printf) u) t
  printf_alike small top room = pick (printed_of t) refl room
    where
      pick : (o : Option (List ℕ)) → printed_of t ≡ o → RowHasRoom place (Some (print_row t o (base t))) t → AlikeIf (Some (print_row t o (base t))) (Some (print_row u (printed_of u) (base u))) t
      pick None e room = absurd (unprinted (base t) room)
      pick (Some text) e room = printed text e small top room
