-- The arguments of a format that the meaning draws from cells are those that the routine takes from the bytes there.
use Rattle.std.proofs.Common.{◌≡◌, ℕ, zero, suc, ◌+◌, ◌-◌, ◌*◌, ◌<◌, ◌≤◌, ◌⊎◌, inl, inr, List, [], ◌∷◌, Bool, refl, sym, ap, ◌∙◌, subst, arith, length-append}
use Rattle.std.specs.Prelude.{Result, Ok, Err, Some, None, All, map, length, take, drop, if◌then◌else◌}
use Rattle.std.specs.Option.{option_map}
use Rattle.std.specs.List.{flat_map}
use Rattle.std.proofs.lemmas.Bool.{cases_lt}
use Rattle.std.proofs.lemmas.List.Elements.{All-nil}
use Rattle.c65_base.specs.Formats.{Form, signed, unsigned, hexadecimal, signed_long, unsigned_long, character, string, Part, plain, field, form_bytes, Argument, number_from as number_of, numbers_in, pointers_in, arguments_in}
use Rattle.c65_base.specs.Formats as formats
use Rattle.c65_meaning.specs.declared.action.Action.TheVariants.{LibraryArgument}
use Rattle.c65_meaning.specs.Why.{Why, By, ◌>>=◌}
use Rattle.c65_meaning.specs.Store.{Cell, Value, Whole, Null, Place, Opaque, Cells, NoValue, Gathered, Lacking, Hidden, Found, gathered, read_pair}
use Rattle.c65_meaning.specs.State.{Scene}
use Rattle.c65_meaning.specs.Library.{text_at, text_from, number_from, argument_at, drawn, text_bytes}
use Rattle.c65_code.specs.LineState.{Bytes, State, sp_of}
use Rattle.c65_code.specs.Texts.{bytes_at, text_length, text_range, text_at as text_there}
use Rattle.c65_code.specs.Steady.{IsOpen}
use Rattle.c65_agree_store.specs.Stands.{Placing, Banks, CellIs}
use Rattle.c65_agree_store.specs.Laws.{number_in}
use Rattle.c65_agree_store.proofs.Read.{numbers_are_read, places_are_read}
use Rattle.c65_agree_numbers.proofs.Tests.{less, not_less}
use Rattle.c65_agree_state.specs.World.{World, Active}
use Rattle.c65_agree_state.specs.Joins.{Joins}
use Rattle.c65_agree_rows.proofs.Quiet.{in_range}
use Rattle.c65_agree_copy.proofs.Runs.{all_both, range_length}
use Rattle.c65_agree_library.proofs.Flow.{refused, is_given}
use Rattle.c65_agree_library_text.proofs.Areas.{bound}
use Rattle.c65_agree_library_text.proofs.Texts.{IsText, text_is, text_length_is, bytes_spelled}

-- ---- blocks of bytes

taken_bytes : (k n at : ℕ) (m : Bytes) → k ≤ n → take k (bytes_at n at m) ≡ bytes_at k at m
taken_bytes zero n at m le = refl
taken_bytes (suc k) zero at m le = absurd (omega (arith, le))
taken_bytes (suc k) (suc n) at m le = ap (λ xs. m at ∷ xs) (taken_bytes k n (at + 1) m (omega (arith, le)))

dropped_bytes : (k n at : ℕ) (m : Bytes) → k ≤ n → drop k (bytes_at n at m) ≡ bytes_at (n - k) (at + k) m
dropped_bytes zero n at m le =
    let all : n ≡ n - 0 = omega arith in
    let here : at ≡ at + 0 = omega arith in
    ap (λ j. bytes_at j at m) all ∙ ap (λ q. bytes_at (n - 0) q m) here
dropped_bytes (suc k) zero at m le = absurd (omega (arith, le))
dropped_bytes (suc k) (suc n) at m le =
    let left : n - k ≡ suc n - suc k = omega arith in
    let on : at + 1 + k ≡ at + suc k = omega arith in
    dropped_bytes k n (at + 1) m (omega (arith, le)) ∙ ap (λ j. bytes_at j (at + 1 + k) m) left ∙ ap (λ q. bytes_at (suc n - suc k) q m) on

bytes_length : (n at : ℕ) (m : Bytes) → length (bytes_at n at m) ≡ n
bytes_length zero at m = refl
bytes_length (suc n) at m = let h = bytes_length n (at + 1) m in omega (arith, h)

bytes_number : (n at o : ℕ) (m : Bytes) → number_of (bytes_at n (at + o) m) ≡ number_in (λ p. m (at + p)) n o
bytes_number zero at o m = refl
bytes_number (suc n) at o m =
    let on : at + o + 1 ≡ at + suc o = omega arith in
    ap (λ q. m (at + o) + 256 * number_of (bytes_at n q m)) on ∙ ap (λ x. m (at + o) + 256 * x) (bytes_number n at (suc o) m)

-- ---- what a field takes

numbers_field : (v : ℕ) (f : Form) (ps : List Part) (block ns : List ℕ) (left : ℕ) → length block ≡ left + form_bytes f → numbers_in ps (take left block) ≡ Some ns → numbers_in (field v f ∷ ps) block ≡ Some (number_of (drop left block) ∷ ns)
numbers_field v f ps block ns left many e =
    let is : length block - form_bytes f ≡ left = omega (arith, many) in
    ap (λ (b : Bool). if b then None else option_map (λ xs. number_of (drop (length block - form_bytes f) block) ∷ xs) (numbers_in ps (take (length block - form_bytes f) block))) (not_less (length block) (form_bytes f) (omega (arith, many)))
    ∙ ap (λ i. option_map (λ xs. number_of (drop i block) ∷ xs) (numbers_in ps (take i block))) is ∙ ap (option_map (λ xs. number_of (drop left block) ∷ xs)) e

-- the arguments that fields take from a block of bytes, and the texts that they name
pub record AreDrawn (P : ℕ → Type 0) (m : Bytes) (ps : List Part) (block : List ℕ) (given : List Argument) : Type 0 where
  pub numbers : List ℕ
  pub are : numbers_in ps block ≡ Some numbers
  pub arguments : arguments_in ps numbers (map (λ at. text_there at m) (pointers_in ps numbers)) ≡ Some given
  pub opened : All P (flat_map (λ at. text_range at m) (pointers_in ps numbers))
  pub many : length (flat_map (λ at. text_range at m) (pointers_in ps numbers)) ≡ text_bytes given

module _ (g : World) (a : Active) (c : Scene) (w : Placing) (k : Banks) (t : State) (joins : Joins g a c w k t) (cells : ℕ → Cell) (total : ℕ) (stand : (i : ℕ) → i < total → CellIs w (cells i) (t.mem (sp_of t + i))) where
  -- so many bytes from sp up
  abbrev block : ℕ → List ℕ
  block n = bytes_at n (sp_of t) t.mem

  abbrev pub Drawn : List Part → ℕ → List Argument → Type 0
  Drawn ps n given = AreDrawn (IsOpen g.place a.base) t.mem ps (block n) given

  abbrev texts : List ℕ → List (List ℕ)
  texts ns = map (λ at. text_there at t.mem) ns

  abbrev ranges : List ℕ → List ℕ
  ranges ns = flat_map (λ at. text_range at t.mem) ns

  -- the number in the last bytes of a block, and those before them
  last_number : (left n : ℕ) → number_of (drop left (block (left + n))) ≡ number_in (λ p. t.mem (sp_of t + p)) n left
  last_number left n =
      let rest : left + n - left ≡ n = omega arith in
      ap number_of (dropped_bytes left (left + n) (sp_of t) t.mem (omega arith) ∙ ap (λ j. bytes_at j (sp_of t + left) t.mem) rest) ∙ bytes_number n (sp_of t) left t.mem

  numbers_drawn : (v : ℕ) (f : Form) (ps : List Part) (left n : ℕ) (ns : List ℕ) → number_in (λ p. t.mem (sp_of t + p)) (form_bytes f) left ≡ n → numbers_in ps (block left) ≡ Some ns → numbers_in (field v f ∷ ps) (block (left + form_bytes f)) ≡ Some (n ∷ ns)
  numbers_drawn v f ps left n ns is e =
      numbers_field v f ps (block (left + form_bytes f)) ns left (bytes_length (left + form_bytes f) (sp_of t) t.mem) (ap (numbers_in ps) (taken_bytes left (left + form_bytes f) (sp_of t) t.mem (omega arith)) ∙ e)
      ∙ ap (λ x. Some (x ∷ ns)) (last_number left (form_bytes f) ∙ is)

  -- a number
  number_drawn : (v : ℕ) (f : Form) (ps : List Part) (left n : ℕ) (given : List Argument) → left + form_bytes f ≤ total
      → ((n : ℕ) (ns : List ℕ) → pointers_in (field v f ∷ ps) (n ∷ ns) ≡ pointers_in ps ns)
      → ((n : ℕ) (ns : List ℕ) (strings : List (List ℕ)) → arguments_in (field v f ∷ ps) (n ∷ ns) strings ≡ option_map (λ xs. formats.number n ∷ xs) (arguments_in ps ns strings))
      → gathered (form_bytes f) cells left ≡ Found n → Drawn ps left given → Drawn (field v f ∷ ps) (left + form_bytes f) (formats.number n ∷ given)
  number_drawn v f ps left n given le points gives found d =
      let is : number_in (λ p. t.mem (sp_of t + p)) (form_bytes f) left ≡ n = numbers_are_read w cells (λ p. t.mem (sp_of t + p)) (form_bytes f) left n (λ p. joins.bytes.mem (sp_of t + p)) (λ p lo hi. stand p (omega (arith, hi, le))) found in
      record {
        numbers = n ∷ d.numbers;
        are = numbers_drawn v f ps left n d.numbers is d.are;
        arguments = ap (λ xs. arguments_in (field v f ∷ ps) (n ∷ d.numbers) (texts xs)) (points n d.numbers) ∙ gives n d.numbers (texts (pointers_in ps d.numbers)) ∙ ap (option_map (λ xs. formats.number n ∷ xs)) d.arguments;
        opened = subst (λ xs. All (IsOpen g.place a.base) (ranges xs)) (sym (points n d.numbers)) d.opened;
        many = ap (λ xs. length (ranges xs)) (points n d.numbers) ∙ d.many;
      }

  -- a text
  text_drawn : (v : ℕ) (ps : List Part) (left b o : ℕ) (text : List ℕ) (given : List Argument) → left + 2 ≤ total → read_pair (cells left) (cells (suc left)) ≡ Ok (Place b o) → text_at c.store (Place b o) ≡ Ok text
      → Drawn ps left given → Drawn (field v string ∷ ps) (left + 2) (formats.text text ∷ given)
  text_drawn v ps left b o text given le pair e d =
      record {
        numbers = word ∷ d.numbers;
        are = numbers_drawn v string ps left word d.numbers whole d.are;
        arguments = ap (λ x. option_map (λ xs. formats.text x ∷ xs) (arguments_in ps d.numbers (texts (pointers_in ps d.numbers)))) there ∙ ap (option_map (λ xs. formats.text text ∷ xs)) d.arguments;
        opened = all_both (IsOpen g.place a.base) (text_range word t.mem) (ranges (pointers_in ps d.numbers)) (in_range (IsOpen g.place a.base) (text_length word t.mem + 1) word (λ i lt. is_text.opened i (omega (arith, lt, count)))) d.opened;
        many = omega (arith, length-append (text_range word t.mem) (ranges (pointers_in ps d.numbers)), range_length (text_length word t.mem + 1) word, count, d.many);
      }
    where
      word : ℕ
      word = t.mem (sp_of t + left) + 256 * t.mem (sp_of t + suc left)

      whole : number_in (λ p. t.mem (sp_of t + p)) 2 left ≡ word
      whole =
          let both : number_in (λ p. t.mem (sp_of t + p)) 2 left ≡ t.mem (sp_of t + left) + 256 * (t.mem (sp_of t + suc left) + 256 * 0) = refl in
          omega (arith, both)

      is_text : IsText g a t word text
      is_text = text_is g a c w k t joins (Place b o) word text (places_are_read w (cells left) (cells (suc left)) (t.mem (sp_of t + left)) (t.mem (sp_of t + suc left)) b o (stand left (omega (arith, le))) (stand (suc left) (omega (arith, le))) pair) e

      count : text_length word t.mem ≡ length text
      count = text_length_is word t.mem text is_text.spelled is_text.short

      there : text_there word t.mem ≡ text
      there = ap (λ n. bytes_at n word t.mem) count ∙ bytes_spelled t.mem word text is_text.spelled

  -- a field, whatever it takes
  of_number : (v : ℕ) (f : Form) (ps : List Part) (left : ℕ) (x : Argument) (given : List Argument) → left + form_bytes f ≤ total
      → ((n : ℕ) (ns : List ℕ) → pointers_in (field v f ∷ ps) (n ∷ ns) ≡ pointers_in ps ns)
      → ((n : ℕ) (ns : List ℕ) (strings : List (List ℕ)) → arguments_in (field v f ∷ ps) (n ∷ ns) strings ≡ option_map (λ xs. formats.number n ∷ xs) (arguments_in ps ns strings))
      → (r : Gathered) → gathered (form_bytes f) cells left ≡ r → number_from r ≡ Ok x → Drawn ps left given → Drawn (field v f ∷ ps) (left + form_bytes f) (x ∷ given)
  of_number v f ps left x given le points gives Lacking found e d = refused e
  of_number v f ps left x given le points gives Hidden found e d = refused e
  of_number v f ps left x given le points gives (Found n) found e d =
      let is : formats.number n ≡ x = is_given e in
      subst (λ y. Drawn (field v f ∷ ps) (left + form_bytes f) (y ∷ given)) is (number_drawn v f ps left n given le points gives found d)

  of_text : (v : ℕ) (ps : List Part) (left : ℕ) (x : Argument) (given : List Argument) → left + 2 ≤ total → (r : Result Value Why) → read_pair (cells left) (cells (suc left)) ≡ r → text_from c.store r ≡ Ok x → Drawn ps left given
      → Drawn (field v string ∷ ps) (left + 2) (x ∷ given)
  of_text v ps left x given le (Ok (Place b o)) pair e d =
      let h = bound (text_at c.store (Place b o)) (λ y. Ok (formats.text y)) x e in
      let is : formats.text h.0 ≡ x = is_given h.2 in
      subst (λ y. Drawn (field v string ∷ ps) (left + 2) (y ∷ given)) is (text_drawn v ps left b o h.0 given le pair h.1 d)
  of_text v ps left x given le (Ok (Whole z)) pair e d = refused e
  of_text v ps left x given le (Ok Null) pair e d = refused e
  of_text v ps left x given le (Ok Opaque) pair e d = refused e
  of_text v ps left x given le (Ok (Cells xs)) pair e d = refused e
  of_text v ps left x given le (Ok NoValue) pair e d = refused e
  of_text v ps left x given le (Err why) pair e d = refused e

  of_field : (v : ℕ) (f : Form) (ps : List Part) (left : ℕ) (x : Argument) (given : List Argument) → left + form_bytes f ≤ total → argument_at c.store f cells left ≡ Ok x → Drawn ps left given → Drawn (field v f ∷ ps) (left + form_bytes f) (x ∷ given)
  of_field v string ps left x given le e d = of_text v ps left x given le (read_pair (cells left) (cells (suc left))) refl e d
  of_field v signed ps left x given le e d = of_number v signed ps left x given le (λ n ns. refl) (λ n ns strings. refl) (gathered 2 cells left) refl e d
  of_field v unsigned ps left x given le e d = of_number v unsigned ps left x given le (λ n ns. refl) (λ n ns strings. refl) (gathered 2 cells left) refl e d
  of_field v hexadecimal ps left x given le e d = of_number v hexadecimal ps left x given le (λ n ns. refl) (λ n ns strings. refl) (gathered 2 cells left) refl e d
  of_field v character ps left x given le e d = of_number v character ps left x given le (λ n ns. refl) (λ n ns strings. refl) (gathered 2 cells left) refl e d
  of_field v signed_long ps left x given le e d = of_number v signed_long ps left x given le (λ n ns. refl) (λ n ns strings. refl) (gathered 4 cells left) refl e d
  of_field v unsigned_long ps left x given le e d = of_number v unsigned_long ps left x given le (λ n ns. refl) (λ n ns strings. refl) (gathered 4 cells left) refl e d

  -- the argument of a field, and those behind it
  abbrev taking : Form → List Part → ℕ → Result (List Argument) Why
  taking f ps left = argument_at c.store f cells (left - form_bytes f) >>= λ x. drawn c.store ps cells (left - form_bytes f) >>= λ rest. Ok (x ∷ rest)

  -- all that the parts of a format take
  pub are_drawn : (ps : List Part) (left : ℕ) (given : List Argument) → left ≤ total → drawn c.store ps cells left ≡ Ok given → Drawn ps left given
  are_drawn [] left given le e =
      let none : [] ≡ given = is_given e in
      subst (Drawn [] left) none (record { numbers = []; are = refl; arguments = refl; opened = All-nil (IsOpen g.place a.base); many = refl })
  are_drawn (plain b ∷ ps) left given le e =
      let d = are_drawn ps left given le e in
      record { numbers = d.numbers; are = d.are; arguments = d.arguments; opened = d.opened; many = d.many }
  are_drawn (field v f ∷ ps) left given le e = go (λ rest h. are_drawn ps (left - form_bytes f) rest (omega (arith, le)) h) (cases_lt left (form_bytes f))
    where
      go : ((rest : List Argument) → drawn c.store ps cells (left - form_bytes f) ≡ Ok rest → Drawn ps (left - form_bytes f) rest) → (left < form_bytes f) ⊎ (form_bytes f ≤ left) → Drawn (field v f ∷ ps) left given
      go deep (inl lt) =
          let clash : Err (By LibraryArgument) ≡ Ok given = sym (ap (λ (b : Bool). if b then Err (By LibraryArgument) else taking f ps left) (less left (form_bytes f) lt)) ∙ e in
          refused clash
      go deep (inr ge) =
          let f2 : taking f ps left ≡ Ok given = sym (ap (λ (b : Bool). if b then Err (By LibraryArgument) else taking f ps left) (not_less left (form_bytes f) ge)) ∙ e in
          let h = bound (argument_at c.store f cells (left - form_bytes f)) (λ x. drawn c.store ps cells (left - form_bytes f) >>= λ rest. Ok (x ∷ rest)) given f2 in
          let l = bound (drawn c.store ps cells (left - form_bytes f)) (λ rest. Ok (h.0 ∷ rest)) given h.2 in
          let is : h.0 ∷ l.0 ≡ given = is_given l.2 in
          let whole : left - form_bytes f + form_bytes f ≡ left = omega (arith, ge) in
          subst (Drawn (field v f ∷ ps) left) is (subst (λ n. Drawn (field v f ∷ ps) n (h.0 ∷ l.0)) whole (of_field v f ps (left - form_bytes f) h.0 l.0 (omega (arith, ge, le)) h.1 (deep l.0 l.1)))
