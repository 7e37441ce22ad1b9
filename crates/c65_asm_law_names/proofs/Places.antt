-- Placements of a code, from the linker's of the renumbered code: a function that nothing names stands in the bytes of the start.
use Rattle.std.proofs.Common.{◌≡◌, ℕ, zero, suc, ◌+◌, ◌<◌, ◌≤◌, ◌%◌, ◌/◌, Bool, true, false, if◌then◌else◌, List, [], ◌∷◌, ◌++◌, Option, Some, None, map, length, slice_get, refl, sym, ap, ◌∙◌, subst, nat_lt, inl, inr, arith, codes, get_or}
use Rattle.std.specs.Prelude.{◌⊎◌, is_some}
use Rattle.std.proofs.lemmas.Bool.{ltb-true, lt-ltb, ltb-false, leb-true}
use Rattle.std.proofs.lemmas.Option.{none-some, slice_get-get_or}
use Rattle.c65_base.specs.Names.{name_of}
use Rattle.c65_base.proofs.NameLaws.{name_of-at}
use Rattle.c65_base.specs.declared.library.Library.{Library}
use Rattle.c65_base.specs.declared.library.Library.TheVariants as l
use Rattle.c65_base.specs.Library.{library_name, library_functions}
use Rattle.c65_code.specs.declared.line.Sym.{Sym}
use Rattle.c65_code.specs.declared.code.Code.{Code}
use Rattle.c65_code.specs.declared.code.Symbol.{Symbol}
use Rattle.c65_code.specs.declared.code.Datum.{Datum}
use Rattle.c65_code.specs.declared.code.DataCell.{DataCell}
use Rattle.c65_code.specs.declared.code.DataCell.TheVariants.{Byte, Address}
use Rattle.c65_code.specs.declared.routine.Routine.TheVariants.{Start, StartArgs}
use Rattle.c65_code.specs.Writable.{IsWritable}
use Rattle.c65_code.specs.Starts.{IsStart}
use Rattle.c65_code.specs.LineState.{State}
use Rattle.c65_code.specs.Placement.{Placement, program_start, stack_start, library_named, library_of, has_segment, IsFunction, IsDatumOf, IsIn, IsPlacement, cell_bytes, bytes_of_cells, cell_size, cells_size, size_of_datum, initial_byte}
use Rattle.c65_code.proofs.FunctionLaws.{segment_found, either_body, function_parts}
use Rattle.c65_asm.specs.Text.{sym_text, spelling_of}
use Rattle.c65_asm.specs.Renumbered.{names_of, renamed_cell, renamed_datum, renumbered}
use Rattle.c65_link.specs.Bodies.{body_of}
use Rattle.c65_link.specs.Runtime.{routine_lines}
use Rattle.c65_link.specs.Symbols.{cell_symbol}
use Rattle.c65_link_law.specs.Placed.{first_address}
use Rattle.c65_link_law_spots.specs.Places.{place_in, address_in}
use Rattle.c65_link_law_spots.proofs.Places.{AreBehindStart}
use Rattle.c65_link_law_spots.proofs.Targets.{spelled}
use Rattle.c65_asm_law_names.specs.Numbers.{number_in}
use Rattle.c65_asm_law_names.proofs.Naming.{IsPart, function, datum, cell, names_of_parts, part_named, number_is}
use Rattle.c65_asm_law_names.proofs.Writable.{to_map, part_there, part_same, old_datum}
use Rattle.c65_asm_law_names.proofs.Machine.{Known, function_new}

-- ---- ten numbers for the functions of the library, one left out

abbrev pub index_of : Library → ℕ
index_of l.Putchar = 0
index_of l.Getchar = 1
index_of l.Puts = 2
index_of l.Exit = 3
index_of l.Memcpy = 4
index_of l.Memset = 5
index_of l.Strcmp = 6
index_of l.Strcpy = 7
index_of l.Strlen = 8
index_of l.Printf = 9

index_few : (f : Library) → index_of f < 10
index_few l.Putchar = omega arith
index_few l.Getchar = omega arith
index_few l.Puts = omega arith
index_few l.Exit = omega arith
index_few l.Memcpy = omega arith
index_few l.Memset = omega arith
index_few l.Strcmp = omega arith
index_few l.Strcpy = omega arith
index_few l.Strlen = omega arith
index_few l.Printf = omega arith

abbrev by_index : ℕ → Library
by_index zero = l.Putchar
by_index (suc zero) = l.Getchar
by_index (suc (suc zero)) = l.Puts
by_index (suc (suc (suc zero))) = l.Exit
by_index (suc (suc (suc (suc zero)))) = l.Memcpy
by_index (suc (suc (suc (suc (suc zero))))) = l.Memset
by_index (suc (suc (suc (suc (suc (suc zero)))))) = l.Strcmp
by_index (suc (suc (suc (suc (suc (suc (suc zero))))))) = l.Strcpy
by_index (suc (suc (suc (suc (suc (suc (suc (suc zero)))))))) = l.Strlen
by_index _ = l.Printf

index_back : (f : Library) → by_index (index_of f) ≡ f
index_back l.Putchar = refl
index_back l.Getchar = refl
index_back l.Puts = refl
index_back l.Exit = refl
index_back l.Memcpy = refl
index_back l.Memset = refl
index_back l.Strcmp = refl
index_back l.Strcpy = refl
index_back l.Strlen = refl
index_back l.Printf = refl

index_own : (f g : Library) → index_of f ≡ index_of g → f ≡ g
index_own f g e = sym (index_back f) ∙ ap by_index e ∙ index_back g

abbrev pub past : ℕ → ℕ → ℕ
past out k = if nat_lt k out then k else suc k

past_few : (out k : ℕ) → k < 10 → past out k < 11
past_few out k h = by (nat_lt k out)
  where
    by : (b : Bool) → (if b then k else suc k) < 11
    by true = omega (arith, h)
    by false = omega (arith, h)

pub past_not : (out k : ℕ) → past out k ≡ out → ⊥
past_not out k = by (nat_lt k out) refl
  where
    by : (b : Bool) → nat_lt k out ≡ b → (if b then k else suc k) ≡ out → ⊥
    by true e h = let below = ltb-true k out e in omega (arith, below, h)
    by false e h = let above = ltb-false k out e in omega (arith, above, h)

past_own : (out j k : ℕ) → past out j ≡ past out k → j ≡ k
past_own out j k = by (nat_lt j out) (nat_lt k out) refl refl
  where
    by : (a b : Bool) → nat_lt j out ≡ a → nat_lt k out ≡ b → (if a then j else suc j) ≡ (if b then k else suc k) → j ≡ k
    by true true e f h = h
    by false false e f h = omega (arith, h)
    by true false e f h = let below = ltb-true j out e in let above = ltb-false k out f in absurd (omega (arith, below, above, h))
    by false true e f h = let above = ltb-false j out e in let below = ltb-true k out f in absurd (omega (arith, below, above, h))

pub past_last : (k : ℕ) → k < 10 → past 10 k ≡ k
past_last k h = ap (λ (b : Bool). if b then k else suc k) (lt-ltb k 10 h)

-- ---- the start has room for them

start_room : (args : Bool) → 11 ≤ (body_of (routine_lines (if args then StartArgs else Start))).size
start_room true = leb-true 11 _ refl
start_room false = leb-true 11 _ refl

start_small : (args : Bool) → (body_of (routine_lines (if args then StartArgs else Start))).size < 256
start_small true = ltb-true _ 256 refl
start_small false = ltb-true _ 256 refl

room_behind : (code : Code) → program_start + 11 ≤ first_address code
room_behind code = let a = start_room code.main_args in let b = start_small code.main_args in omega (arith, a, b)

-- ---- symbols that nothing names

abbrev pub index_in : Option Symbol → Option Library → ℕ
index_in s None = 0
index_in s (Some f) = index_of f

abbrev pub unnamed_index : Code → ℕ → ℕ
unnamed_index code f = index_in (slice_get code.symbols f) (library_of (slice_get code.symbols f))

abbrev pub address_by : Code → ℕ → ℕ → Option ℕ → ℕ
address_by code out f None = program_start + past out (unnamed_index code f)
address_by code out f (Some i) = address_in (renumbered code) i

-- the placement that leaves one number out
abbrev pub placing : Code → ℕ → Placement
placing code out = record (place_in (renumbered code)) { address = λ f. address_by code out f (name_of (names_of code) (sym_text code.symbols (record { 0 = f }))) }

module _ (code : Code) (w : IsWritable code) (own : IsPlacement (renumbered code) (place_in (renumbered code))) (behind : AreBehindStart (renumbered code)) where
  abbrev as_symbol : ℕ → Sym
  as_symbol f = record { 0 = f }

  abbrev pub name_in : ℕ → Option ℕ
  name_in f = name_of (names_of code) (sym_text code.symbols (as_symbol f))

  abbrev pub linked_at : ℕ → ℕ
  linked_at f = address_in (renumbered code) (number_in code f)

  -- ---- which symbols are named

  to_symbol : (x : Sym) (f : ℕ) → x.0 ≡ f → x ≡ as_symbol f
  to_symbol x f e = ap as_symbol e

  known_by : (f i : ℕ) → f < length code.symbols → name_in f ≡ Some i → Known code w f
  known_by f i inside e =
      let none : Symbol = record { spelling = []; literal = false } in
      let at = slice_get-get_or code.symbols f none inside in
      let part = names_of_parts code i (sym_text code.symbols (as_symbol f)) (name_of-at (names_of code) (sym_text code.symbols (as_symbol f)) i e) in
      let there = part_there code w part.0 part.1 in
      let same : part.0.0 ≡ f = w.own_spelling part.0.0 f there.symbol (get_or code.symbols f none) there.at at (sym there.text ∙ part.2 ∙ ap spelling_of at) in
      subst (IsPart code) (to_symbol part.0 f same) part.1

  pub known_or : (f : ℕ) → f < length code.symbols → Known code w f ⊎ (name_in f ≡ None)
  known_or f inside = by (name_in f) refl
    where
      by : (o : Option ℕ) → name_in f ≡ o → Known code w f ⊎ (name_in f ≡ None)
      by (Some i) e = inl (known_by f i inside e)
      by None e = inr e

  not_known : (f : ℕ) → name_in f ≡ None → Known code w f → ⊥
  not_known f e known = let n = part_named code (as_symbol f) known in none-some n.0 (sym e ∙ n.1)

  -- ---- addresses

  pub known_address : (out f : ℕ) → Known code w f → (placing code out).address f ≡ linked_at f
  known_address out f known =
      let n = part_named code (as_symbol f) known in
      ap (address_by code out f) n.1 ∙ ap (address_in (renumbered code)) (sym (number_is code (as_symbol f) n.0 n.1))

  pub unknown_address : (out f : ℕ) → name_in f ≡ None → (placing code out).address f ≡ program_start + past out (unnamed_index code f)
  unknown_address out f e = ap (address_by code out f) e

  pub function_inside : (f : ℕ) → IsFunction code f → f < length code.symbols
  function_inside f h = (function_parts code f h).known

  -- a function of the library that nothing names
  pub record IsUnnamed (f : ℕ) : Type 0 where
    pub symbol : Symbol
    pub at : slice_get code.symbols f ≡ Some symbol
    pub library : Library
    pub named : library_named library_functions symbol.spelling ≡ Some library
    pub index : unnamed_index code f ≡ index_of library

  some_library : (f : ℕ) (symbol : Symbol) → slice_get code.symbols f ≡ Some symbol → (o : Option Library) → library_named library_functions symbol.spelling ≡ o → is_some o ≡ true → IsUnnamed f
  some_library f symbol at None e h = cc
  some_library f symbol at (Some library) e h =
      record { symbol = symbol; at = at; library = library; named = e; index = ap (λ (s : Option Symbol). index_in s (library_of s)) at ∙ ap (index_in (Some symbol)) e }

  pub unnamed : (f : ℕ) → IsFunction code f → name_in f ≡ None → IsUnnamed f
  unnamed f h e = by (either_body code f (function_parts code f h).body)
    where
      none : Symbol
      none = record { spelling = []; literal = false }

      symbol : Symbol
      symbol = get_or code.symbols f none

      at : slice_get code.symbols f ≡ Some symbol
      at = slice_get-get_or code.symbols f none (function_inside f h)

      by : (has_segment code.functions f ≡ true) ⊎ (is_some (library_of (slice_get code.symbols f)) ≡ true) → IsUnnamed f
      by (inl s) = let g = segment_found code.functions f s in absurd (not_known f e (function g.0 g.1 g.2 (to_symbol g.1.0 f g.3)))
      by (inr s) = some_library f symbol at (library_named library_functions symbol.spelling) refl (ap (λ (o : Option Symbol). is_some (library_of o)) (sym at) ∙ s)

  pub unnamed_few : (f : ℕ) → IsUnnamed f → unnamed_index code f < 10
  unnamed_few f u = let few = index_few u.library in let e = u.index in omega (arith, few, e)

  unnamed_own : (f g : ℕ) → IsUnnamed f → IsUnnamed g → unnamed_index code f ≡ unnamed_index code g → f ≡ g
  unnamed_own f g a b e =
      let same : a.library ≡ b.library = index_own a.library b.library (sym a.index ∙ e ∙ b.index) in
      w.own_spelling f g a.symbol b.symbol a.at b.at
      (sym (spelled library_functions a.symbol.spelling a.library a.named) ∙ ap (λ (x : Library). codes "_" ++ library_name x) same ∙ spelled library_functions b.symbol.spelling b.library b.named)

  known_function : (f : ℕ) → Known code w f → IsFunction code f → IsFunction (renumbered code) (number_in code f)
  known_function f known h = function_new code w f known ∙ h

  -- an address below those of named functions
  pub unnamed_low : (out f g : ℕ) → IsUnnamed f → Known code w g → IsFunction code g → program_start + past out (unnamed_index code f) ≡ linked_at g → ⊥
  unnamed_low out f g u known h e =
      let few = past_few out (unnamed_index code f) (unnamed_few f u) in
      let room = room_behind (renumbered code) in
      let first = behind.function (number_in code g) (known_function g known h) in
      omega (arith, few, room, first, e)

  -- ---- data

  cell_same : (c : DataCell) → cell_size (renamed_cell code.symbols (names_of code) c) ≡ cell_size c
  cell_same (Byte v) = refl
  cell_same (Address x offset) = refl

  cells_same : (cs : List DataCell) → cells_size (map (renamed_cell code.symbols (names_of code)) cs) ≡ cells_size cs
  cells_same [] = refl
  cells_same (c ∷ cs) = ap (λ (n : ℕ). n + cells_size (map (renamed_cell code.symbols (names_of code)) cs)) (cell_same c) ∙ ap (λ (n : ℕ). cell_size c + n) (cells_same cs)

  abbrev new_datum : Datum → Datum
  new_datum d = renamed_datum code.symbols (names_of code) d

  size_same : (d : Datum) → size_of_datum (new_datum d) ≡ size_of_datum d
  size_same d = ap (λ (n : ℕ). n + d.zeros) (cells_same d.cells)

  datum_address : (out i : ℕ) (d : Datum) → IsDatumOf code i d → (placing code out).address d.sym.0 ≡ address_in (renumbered code) (new_datum d).sym.0
  datum_address out i d at = known_address out d.sym.0 (datum i d at refl)

  there : (i : ℕ) (d : Datum) → IsDatumOf code i d → IsDatumOf (renumbered code) i (new_datum d)
  there i d at = to_map new_datum code.datums i d at

  in_new : (out i b : ℕ) (d : Datum) → IsDatumOf code i d → IsIn (placing code out) d b → IsIn (place_in (renumbered code)) (new_datum d) b
  in_new out i b d at h =
      let a = datum_address out i d at in let s = size_same d in let from = h.from in let to = h.to in
      record { from = omega (arith, a, from); to = omega (arith, a, s, to) }

  in_old : (out i b : ℕ) (d : Datum) → IsDatumOf code i d → IsIn (place_in (renumbered code)) (new_datum d) b → IsIn (placing code out) d b
  in_old out i b d at h =
      let a = datum_address out i d at in let s = size_same d in let from = h.from in let to = h.to in
      record { from = omega (arith, a, from); to = omega (arith, a, s, to) }

  cell_bytes_same : (out : ℕ) (c : DataCell) → ((x : Sym) → cell_symbol c ≡ Some x → IsPart code x) → cell_bytes (placing code out) c ≡ cell_bytes (place_in (renumbered code)) (renamed_cell code.symbols (names_of code) c)
  cell_bytes_same out (Byte v) u = refl
  cell_bytes_same out (Address x offset) u = ap (λ (a : ℕ). ((a + offset) % 65536 % 256) ∷ ((a + offset) % 65536 / 256) ∷ []) (known_address out x.0 (u x refl))

  cells_bytes_same : (out : ℕ) (cs : List DataCell) → ((j : ℕ) (c : DataCell) → slice_get cs j ≡ Some c → (x : Sym) → cell_symbol c ≡ Some x → IsPart code x)
      → bytes_of_cells (placing code out) cs ≡ bytes_of_cells (place_in (renumbered code)) (map (renamed_cell code.symbols (names_of code)) cs)
  cells_bytes_same out [] u = refl
  cells_bytes_same out (c ∷ cs) u =
      ap (λ (xs : List ℕ). xs ++ bytes_of_cells (placing code out) cs) (cell_bytes_same out c (u 0 c refl))
      ∙ ap (λ (xs : List ℕ). cell_bytes (place_in (renumbered code)) (renamed_cell code.symbols (names_of code) c) ++ xs) (cells_bytes_same out cs (λ j. u (suc j)))

  initial_same : (out i k : ℕ) (d : Datum) → IsDatumOf code i d → initial_byte (placing code out) d k ≡ initial_byte (place_in (renumbered code)) (new_datum d) k
  initial_same out i k d at = ap (λ (xs : List ℕ). slice_get xs k) (cells_bytes_same out d.cells (λ j c here x e. cell i j d c at here e))

  start_is_no_data : (b : ℕ) → b < program_start + 11 → (place_in (renumbered code)).is_data b ≡ false
  start_is_no_data b small = by ((place_in (renumbered code)).is_data b) refl
    where
      by : (c : Bool) → (place_in (renumbered code)).is_data b ≡ c → (place_in (renumbered code)).is_data b ≡ false
      by false e = e
      by true e =
          let d = own.data_of b e in
          let first = behind.datum d.0 d.1 d.2 in
          let from = d.3.from in
          let room = room_behind (renumbered code) in
          absurd (omega (arith, small, first, from, room))

  -- ---- the placement

  pub placing_is : (out : ℕ) → IsPlacement code (placing code out)
  placing_is out = record {
    low = λ i d at. let a = datum_address out i d at in let h = own.low i (new_datum d) (there i d at) in omega (arith, a, h);
    high = λ i d at. let a = datum_address out i d at in let h = own.high i (new_datum d) (there i d at) in let s = size_same d in omega (arith, a, h, s);
    apart = λ i j b d e at here h g. own.apart i j b (new_datum d) (new_datum e) (there i d at) (there j e here) (in_new out i b d at h) (in_new out j b e here g);
    data_in = λ i b d at h. own.data_in i b (new_datum d) (there i d at) (in_new out i b d at h);
    data_of = λ b h.
        let d = own.data_of b h in
        let o = old_datum code w d.0 d.1 d.2 in
        (d.0, o.old, o.there, in_old out d.0 b o.old o.there (subst (λ (x : Datum). IsIn (place_in (renumbered code)) x b) o.is d.3));
    function_low = λ f h. low_by f h (known_or f (function_inside f h));
    function_high = λ f h. high_by f h (known_or f (function_inside f h));
    function_outside = λ f h. outside_by f h (known_or f (function_inside f h));
    function_own = λ f g h k e. own_by f g h k (known_or f (function_inside f h)) (known_or g (function_inside g k)) e;
    constant_in = λ i k v d at const is.
        ap (λ (a : ℕ). (place_in (renumbered code)).constant (a + k)) (datum_address out i d at) ∙ own.constant_in i k v (new_datum d) (there i d at) const (sym (initial_same out i k d at) ∙ is);
    constant_of = λ b v h.
        let c = own.constant_of b v h in
        let o = old_datum code w c.0 c.2 c.3 in
        let a = datum_address out c.0 o.old o.there in
        let first : b ≡ address_in (renumbered code) (new_datum o.old).sym.0 + c.1 = c.5 ∙ ap (λ (x : Datum). address_in (renumbered code) x.sym.0 + c.1) o.is in (
          c.0,
          c.1,
          o.old,
          o.there,
          sym (ap (λ (x : Datum). x.kind) o.is) ∙ c.4,
          first ∙ ap (λ (m : ℕ). m + c.1) (sym a),
          initial_same out c.0 c.1 o.old o.there ∙ sym (ap (λ (x : Datum). initial_byte (place_in (renumbered code)) x c.1) o.is) ∙ c.6,
        );
  }
    where
      low_by : (f : ℕ) → IsFunction code f → Known code w f ⊎ (name_in f ≡ None) → program_start ≤ (placing code out).address f
      low_by f h (inl known) = let a = known_address out f known in let l = own.function_low (number_in code f) (known_function f known h) in omega (arith, a, l)
      low_by f h (inr none) = let a = unknown_address out f none in omega (arith, a)

      high_by : (f : ℕ) → IsFunction code f → Known code w f ⊎ (name_in f ≡ None) → (placing code out).address f < stack_start
      high_by f h (inl known) = let a = known_address out f known in let l = own.function_high (number_in code f) (known_function f known h) in omega (arith, a, l)
      high_by f h (inr none) = let a = unknown_address out f none in let few = past_few out (unnamed_index code f) (unnamed_few f (unnamed f h none)) in omega (arith, a, few)

      outside_by : (f : ℕ) → IsFunction code f → Known code w f ⊎ (name_in f ≡ None) → (placing code out).is_data ((placing code out).address f) ≡ false
      outside_by f h (inl known) = ap (λ (b : ℕ). (place_in (renumbered code)).is_data b) (known_address out f known) ∙ own.function_outside (number_in code f) (known_function f known h)
      outside_by f h (inr none) =
          let few = past_few out (unnamed_index code f) (unnamed_few f (unnamed f h none)) in
          ap (λ (b : ℕ). (place_in (renumbered code)).is_data b) (unknown_address out f none) ∙ start_is_no_data (program_start + past out (unnamed_index code f)) (omega (arith, few))

      own_by : (f g : ℕ) → IsFunction code f → IsFunction code g → Known code w f ⊎ (name_in f ≡ None) → Known code w g ⊎ (name_in g ≡ None) → (placing code out).address f ≡ (placing code out).address g → f ≡ g
      own_by f g h k (inl a) (inl b) e =
          part_same code w (as_symbol f) (as_symbol g) a b (own.function_own (number_in code f) (number_in code g) (known_function f a h) (known_function g b k) (sym (known_address out f a) ∙ e ∙ known_address out g b))
      own_by f g h k (inl a) (inr b) e = absurd (unnamed_low out g f (unnamed g k b) a h (sym (unknown_address out g b) ∙ sym e ∙ known_address out f a))
      own_by f g h k (inr a) (inl b) e = absurd (unnamed_low out f g (unnamed f h a) b k (sym (unknown_address out f a) ∙ e ∙ known_address out g b))
      own_by f g h k (inr a) (inr b) e =
          let same : program_start + past out (unnamed_index code f) ≡ program_start + past out (unnamed_index code g) = sym (unknown_address out f a) ∙ e ∙ unknown_address out g b in
          unnamed_own f g (unnamed f h a) (unnamed g k b) (past_own out (unnamed_index code f) (unnamed_index code g) (omega (arith, same)))

  -- ---- starts

  pub starts : (out : ℕ) (args : List (List ℕ)) (input : List ℕ) (t : State) → IsStart (renumbered code) (place_in (renumbered code)) args input t → IsStart code (placing code out) args input t
  starts out args input t s = record {
    called = s.called;
    data_placed = λ i k v d at h. ap (λ (a : ℕ). t.mem (a + k)) (datum_address out i d at) ∙ s.data_placed i k v (new_datum d) (there i d at) (sym (initial_same out i k d at) ∙ h);
    zeros_placed = λ i k d at from to.
        let n = cells_same d.cells in let m = size_same d in
        ap (λ (a : ℕ). t.mem (a + k)) (datum_address out i d at) ∙ s.zeros_placed i k (new_datum d) (there i d at) (omega (arith, n, from)) (omega (arith, m, to));
    pushed = s.pushed;
    frames = s.frames;
    input = s.input;
    output = s.output;
    ended = s.ended;
    bytes = s.bytes;
  }
