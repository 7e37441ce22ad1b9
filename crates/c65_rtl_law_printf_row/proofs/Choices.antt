-- The letter of a conversion, and the one behind l.
use Rattle.std.proofs.Common.{◌≡◌, ◌≢◌, ℕ, zero, suc, ◌+◌, ◌-◌, ◌*◌, ◌%◌, ◌<◌, ◌≤◌, ◌⊎◌, inl, inr, List, [], ◌∷◌, ◌++◌, length, refl, sym, ap, subst, ◌∙◌, arith}
use Rattle.std.proofs.lemmas.Bool.Decides.{eqb_tells}
use Rattle.c65_base.specs.declared.library.Library.TheVariants.{Printf}
use Rattle.c65_base.specs.Formats.{Form, signed, unsigned, hexadecimal, signed_long, unsigned_long, form_bytes, form_text, Met, gives, plain, field, longer, met, met_letter, number_from, wide}
use Rattle.c65_code.specs.declared.routine.Routine.TheVariants as routines
use Rattle.c65_code.specs.LineState.{Place, State, sp_of, zero_word, word_at, IsBytes}
use Rattle.c65_code.specs.Rows.{long_at}
use Rattle.c65_code.specs.Texts.{bytes_at}
use Rattle.c65_code.specs.RawMachine.{RawSetting, IsReachable, reach_of}
use Rattle.c65_rtl_law_printf.specs.Digits.{number_left}
use Rattle.c65_rtl_law_printf.specs.Format.{next_byte}
use Rattle.c65_rtl_law_printf.specs.Reading.{argument}
use Rattle.c65_rtl_law_printf.specs.Widths.{less_zero}
use Rattle.c65_rtl_law_printf.specs.Writing.{address_of}
use Rattle.c65_rtl_law_printf_fields.specs.Choosing.{after_letter, Chooses, spread_by, base_by, TakesWord, TakesLong}
use Rattle.c65_rtl_law_printf_fields.proofs.Choosing.{letters_are_chosen, words_are_taken}
use Rattle.c65_rtl_law_printf_fields.proofs.Longs.{longs_are_taken}
use Rattle.c65_rtl_law_printf_row.proofs.Blocks.{word_number, long_number}
use Rattle.c65_rtl_law_printf_row.proofs.Left.{Readable, LeftOn, Opened, Plain, Field, number_of, chunk_of, leads_left, no_stray, open_longer, gives_plain, gives_field}
use Rattle.c65_rtl_law_printf_row.proofs.Letters.{sized_by, letter_met, percent_stray, letter_stray, long_stray}
use Rattle.c65_rtl_law_printf_row.proofs.Moments.{at_letter, at_long, at_number, at_character, at_string, at_pad, still, Reading, Noted, Holds}
use Rattle.c65_rtl_law_printf_row.proofs.Numerals.{numeral_of, signed_words, signed_longs, some_numeral}
use Rattle.c65_rtl_law_printf_row.proofs.Context.{Called, Lands, frame_of, calls_of, Turning, turn_to, on_stack, may_read, may_take, reading_on, noted_on, wide_length, all_range}

module _ (s : RawSetting) (t : State) (text : List ℕ) (back : Place) (call : Called s t) (Q : Place → State → Type 0) where
  abbrev f : ℕ
  f = s.routine (routines.Library Printf)

  -- the bytes of an argument may be read
  reach_argument : (count at : ℕ) → sp_of t ≤ at → at + count ≤ 65520 → (k : ℕ) → k < count → IsReachable s.place (reach_of t) (at + k)
  reach_argument count at low high k few = (on_stack s t text back call Q (at + k) (omega arith) (omega arith)).reach

  module _ (w : ℕ) (bs : List ℕ) (p size n : ℕ) (rest : List ℕ) (u : State) (bytes : IsBytes u) (same : u.frames ≡ calls_of t back) (r : Reading s t text p size rest u) (noted : Noted s t text w u) where
    -- ---- by a letter alone

    by_letter : (c less to : ℕ) → u.regs.a ≡ c → after_letter c ≡ to → to ≢ 4 → 60 + less ≤ n → less < n → ((v : State) → IsBytes v → Chooses u v → Lands s t text less to v) → Turning s t text back call Q 2 n u
    by_letter c less to is leads_to other enough fewer lands =
        let at : after_letter u.regs.a ≡ to = ap after_letter is ∙ leads_to in
        turn_to s t text back call Q 2 n 60 less (after_letter u.regs.a) u (Chooses u) bytes same fewer enough
        (letters_are_chosen s (reach_of t) f u (frame_of t back) t.frames call.stand.stand.printf same (may_take s t text back call Q p size rest u bytes same r) (λ e. other (sym at ∙ e)))
        (λ v bytes_v k. let m = lands v bytes_v k in (m.0, at ∙ m.1, m.2))

    module _ (v : State) (k : Chooses u v) where
      chosen : Reading s t text p size rest v
      chosen =
          let z8 = k.zp 8 (omega arith) in
          let z9 = k.zp 9 (omega arith) in
          let z10 = k.zp 10 (omega arith) in
          let z11 = k.zp 11 (omega arith) in
          let format = r.format in
          let block = r.block in
          reading_on s t text back call Q p p size size rest u v r k.same (omega arith) (omega arith) (k.zp 12 (omega arith)) (k.zp 13 (omega arith)) (λ i high. k.zp i (omega arith))

      still_noted : Noted s t text w v
      still_noted = noted_on s t text back call Q w w u v noted (k.zp 16 (omega arith) ∙ noted.width) k.y (k.zp 0 (omega arith)) (k.zp 1 (omega arith)) (k.zp 2 (omega arith)) (k.zp 14 (omega arith)) (k.zp 15 (omega arith)) (k.zp 17 (omega arith)) (k.zp 18 (omega arith))

    -- `%`, which is the text already
    percent : u.regs.a ≡ 245 → w ≡ 0 → LeftOn s t (gives (plain 37)) bs p size rest → 6000 + still bs rest ≤ n → Turning s t text back call Q 2 n u
    percent is none on enough =
        let x : Plain s t 37 bs p size rest = gives_plain s t 37 bs p size rest on in
        let shorter : suc (length x.rest_on) ≡ length rest = ap (λ (ns : List ℕ). length ns) x.is in
        by_letter 245 (400 + 80 * (0 - 1) + still bs x.rest_on) 8 is refl (omega arith) (omega arith) (omega arith) (λ v bytes_v k.
        let here : Noted s t text w v = still_noted v k in (
          at_pad 0 (37 ∷ []) bs p size x.rest_on,
          refl,
          (
            x.left,
            subst (λ (ns : List ℕ). Reading s t text p size ns v) (sym x.is) (chosen v k),
            record {
              size = here.length;
              bytes = ap (λ (c : ℕ). c ∷ []) ((chosen v k).mem (address_of v) here.readable.fixed ∙ here.percent);
              lies = inl (record { own = here.own; sp = here.sp; readable = λ j few. let at : address_of v ≡ address_of v + j = omega arith in subst (λ (b : ℕ). Readable s t b) at here.readable });
            },
            here.width ∙ none,
            omega arith,
          ),
        ))

    -- ---- a word

    module _ (form : Form) (c base : ℕ) (two : form_bytes form ≡ 2) (is : u.regs.a ≡ c) (to_word : after_letter c ≡ 4) (base_is : base_by c ≡ base) (is_base : (base ≡ 10) ⊎ (base ≡ 16)) (letter : c ≢ 0)
        (written : (m : ℕ) → m < 65536 → form_text form (argument form m t.mem) ≡ numeral_of c base (spread_by c m)) (x : Field s t w form bs p size rest) where
      abbrev chunk : List ℕ
      chunk = chunk_of t form size

      abbrev place : ℕ
      place = sp_of t + (size - 2)

      number_is : number_of t form size ≡ word_at t.mem place
      number_is = ap (λ (j : ℕ). number_from (bytes_at j (sp_of t + (size - j)) t.mem)) two ∙ word_number place t.mem

      chunk_is : chunk ≡ numeral_of c base (spread_by c (word_at t.mem place))
      chunk_is =
          let low = call.bytes.mem place in
          let high = call.bytes.mem (place + 1) in
          ap (λ (m : ℕ). form_text form (argument form m t.mem)) number_is ∙ written (word_at t.mem place) (omega arith)

      word_go : 6000 + still bs rest ≤ n → LeftOn s t (gives (field w form)) bs p size rest → Turning s t text back call Q 2 n u
      word_go enough on =
          let some : 1 ≤ length chunk = subst (λ (ns : List ℕ). 1 ≤ length ns) (sym chunk_is) (some_numeral base _ _) in
          let whole = wide_length w chunk x.rest_on in
          let total : length (wide w chunk ++ x.rest_on) ≡ length rest = ap (λ (ns : List ℕ). length ns) x.is in
          let two_bytes = two in
          let has = x.enough in
          let fits = on.fits in
          let top = call.top in
          let block = r.block in
          let at_word : after_letter u.regs.a ≡ 4 = ap after_letter is ∙ to_word in
          let at : zero_word u 10 - 2 ≡ place = omega arith in
          let next : zero_word u 10 - 2 + 1 ≡ place + 1 = omega arith in
          let m0 : u.mem (zero_word u 10 - 2) ≡ t.mem place = ap u.mem at ∙ r.mem place (inr (omega arith)) in
          let m1 : u.mem (zero_word u 10 - 2 + 1) ≡ t.mem (place + 1) = ap u.mem next ∙ r.mem (place + 1) (inr (omega arith)) in
          let word : word_at u.mem (zero_word u 10 - 2) ≡ word_at t.mem place = omega arith in
          turn_to s t text back call Q 2 n 60 (8100 + 80 * (w - length chunk) + still bs x.rest_on) 4 u (TakesWord u) bytes same (omega arith) (omega arith)
          (words_are_taken s (reach_of t) f u (frame_of t back) t.frames call.stand.stand.printf same (may_take s t text back call Q p size rest u bytes same r) at_word noted.y
          (all_range (IsReachable s.place (reach_of t)) 2 (zero_word u 10 - 2) (λ k few. reach_argument 2 (zero_word u 10 - 2) (omega arith) (omega arith) k few)))
          (λ v bytes_v k.
          let z0 = k.zp 0 (omega arith) (omega arith) (omega arith) (omega arith) (omega arith) (omega arith) (omega arith) (omega arith) in
          let z1 = k.zp 1 (omega arith) (omega arith) (omega arith) (omega arith) (omega arith) (omega arith) (omega arith) (omega arith) in
          let z8 = k.zp 8 (omega arith) (omega arith) (omega arith) (omega arith) (omega arith) (omega arith) (omega arith) (omega arith) in
          let z9 = k.zp 9 (omega arith) (omega arith) (omega arith) (omega arith) (omega arith) (omega arith) (omega arith) (omega arith) in
          let z12 = k.zp 12 (omega arith) (omega arith) (omega arith) (omega arith) (omega arith) (omega arith) (omega arith) (omega arith) in
          let z13 = k.zp 13 (omega arith) (omega arith) (omega arith) (omega arith) (omega arith) (omega arith) (omega arith) (omega arith) in
          let z16 = k.zp 16 (omega arith) (omega arith) (omega arith) (omega arith) (omega arith) (omega arith) (omega arith) (omega arith) in
          let z17 = k.zp 17 (omega arith) (omega arith) (omega arith) (omega arith) (omega arith) (omega arith) (omega arith) (omega arith) in
          let z18 = k.zp 18 (omega arith) (omega arith) (omega arith) (omega arith) (omega arith) (omega arith) (omega arith) (omega arith) in
          let format = r.format in
          let block_on = k.block in
          let sp_is = noted.sp in
          let one = noted.length in
          let letter_is : v.zp 2 ≡ c = k.letter ∙ is in
          let number : number_left v.zp ≡ spread_by c (word_at t.mem place) = k.number ∙ (ap (λ (l : ℕ). spread_by l (word_at u.mem (zero_word u 10 - 2))) is ∙ ap (spread_by c) word) in (
            at_number w base chunk bs p (size - form_bytes form) x.rest_on,
            refl,
            (
              x.left,
              subst (λ (ns : List ℕ). Reading s t text p (size - form_bytes form) ns v) (sym x.is) (reading_on s t text back call Q p p size (size - form_bytes form) rest u v r k.same (omega arith) (omega arith) z12 z13
                  (λ i high. k.zp i (omega arith) (omega arith) (omega arith) (omega arith) (omega arith) (omega arith) (omega arith) (omega arith))),
              record {
                sp = omega arith;
                width = z16 ∙ noted.width;
                short = omega arith;
                letter = λ e. letter (sym letter_is ∙ e);
                in_base = k.base ∙ (ap base_by is ∙ base_is);
                is_base = is_base;
              },
              chunk_is ∙ (ap (λ (m : ℕ). numeral_of c base m) (sym number) ∙ ap (λ (l : ℕ). numeral_of l base (number_left v.zp)) (sym letter_is)),
              omega arith,
            ),
          ))

  -- ---- each letter

  module _ (w b : ℕ) (bs : List ℕ) (p size n : ℕ) (rest : List ℕ) (u : State) (bytes : IsBytes u) (same : u.frames ≡ calls_of t back) (h : Holds s t text (at_letter w b bs p size rest) n u) where
    abbrev r : Reading s t text p size rest u
    r = h.1

    a_is : (c d : ℕ) → b ≡ c → (c + 208) % 256 ≡ d → u.regs.a ≡ d
    a_is c d e f = h.3 ∙ (ap (λ (b : ℕ). (b + 208) % 256) e ∙ f)

    by_width : (x : ℕ) → LeftOn s t (met (sized_by x) b) bs p size rest → Noted s t text x u → b ≡ 37 → Turning s t text back call Q 2 n u
    by_width zero on noted e = percent 0 bs p size n rest u bytes same r noted (a_is 37 245 e refl) refl (subst (λ (c : ℕ). LeftOn s t (met (sized_by 0) c) bs p size rest) e on) h.6
    by_width (suc x) on noted e = absurd (no_stray s t p size rest (met (sized_by (suc x)) 37) bs (percent_stray x) (subst (λ (c : ℕ). LeftOn s t (met (sized_by (suc x)) c) bs p size rest) e on))

    module _ (other_than : b ≢ 37) where
      on : LeftOn s t (met_letter w b) bs p size rest
      on = subst (λ (x : Met). LeftOn s t x bs p size rest) (letter_met w b h.4 h.5 other_than) h.0

      met_by : (c : ℕ) → b ≡ c → LeftOn s t (met_letter w c) bs p size rest
      met_by c e = subst (λ (c : ℕ). LeftOn s t (met_letter w c) bs p size rest) e on

      long : b ≡ 108 → Turning s t text back call Q 2 n u
      long e =
          let enough = h.6 in
          by_letter w bs p size n rest u bytes same r h.2 60 (5900 + still bs rest) 3 (a_is 108 60 e refl) refl (omega arith) (omega arith) (omega arith) (λ v bytes_v k.
          (at_long w bs p size rest, refl, (leads_left s t p size rest (longer w) bs (met_by 108 e), chosen w bs p size n rest u bytes same r h.2 v k, still_noted w bs p size n rest u bytes same r h.2 v k, k.base (a_is 108 60 e refl), omega arith)))

      a_character : b ≡ 99 → Turning s t text back call Q 2 n u
      a_character e =
          let enough = h.6 in
          by_letter w bs p size n rest u bytes same r h.2 51 (5900 + still bs rest) 6 (a_is 99 51 e refl) refl (omega arith) (omega arith) (omega arith) (λ v bytes_v k.
          (at_character w bs p size rest, refl, (met_by 99 e, chosen w bs p size n rest u bytes same r h.2 v k, still_noted w bs p size n rest u bytes same r h.2 v k, omega arith)))

      a_string : b ≡ 115 → Turning s t text back call Q 2 n u
      a_string e =
          let enough = h.6 in
          by_letter w bs p size n rest u bytes same r h.2 67 (5900 + still bs rest) 7 (a_is 115 67 e refl) refl (omega arith) (omega arith) (omega arith) (λ v bytes_v k.
          (at_string w bs p size rest, refl, (met_by 115 e, chosen w bs p size n rest u bytes same r h.2 v k, still_noted w bs p size n rest u bytes same r h.2 v k, omega arith)))

      a_signed : b ≡ 100 → Turning s t text back call Q 2 n u
      a_signed e =
          word_go w bs p size n rest u bytes same r h.2 signed 52 10 refl (a_is 100 52 e refl) refl refl (inl refl) (omega arith) signed_words (gives_field s t w signed bs p size rest (met_by 100 e)) h.6 (met_by 100 e)

      an_unsigned : b ≡ 117 → Turning s t text back call Q 2 n u
      an_unsigned e =
          word_go w bs p size n rest u bytes same r h.2 unsigned 69 10 refl (a_is 117 69 e refl) refl refl (inl refl) (omega arith) (λ m small. refl) (gives_field s t w unsigned bs p size rest (met_by 117 e)) h.6 (met_by 117 e)

      a_hexadecimal : b ≡ 120 → Turning s t text back call Q 2 n u
      a_hexadecimal e =
          word_go w bs p size n rest u bytes same r h.2 hexadecimal 72 16 refl (a_is 120 72 e refl) refl refl (inr refl) (omega arith) (λ m small. refl) (gives_field s t w hexadecimal bs p size rest (met_by 120 e)) h.6 (met_by 120 e)

      other : Turning s t text back call Q 2 n u
      other = elim (eqb_tells b 108) [
        | inl e ↦ long e.1
        | inr l ↦ elim (eqb_tells b 100) [
          | inl e ↦ a_signed e.1
          | inr d ↦ elim (eqb_tells b 117) [
            | inl e ↦ an_unsigned e.1
            | inr x ↦ elim (eqb_tells b 120) [
              | inl e ↦ a_hexadecimal e.1
              | inr y ↦ elim (eqb_tells b 99) [
                | inl e ↦ a_character e.1
                | inr c ↦ elim (eqb_tells b 115) [
                  | inl e ↦ a_string e.1
                  | inr z ↦ absurd (no_stray s t p size rest (met_letter w b) bs (letter_stray w b l.1 d.1 x.1 y.1 c.1 z.1) on)
                ]
              ]
            ]
          ]
        ]
      ]

    pub letter_turn : Turning s t text back call Q 2 n u
    letter_turn = elim (eqb_tells b 37) [ inl e ↦ by_width w h.0 h.2 e.1 | inr e ↦ other e.1 ]

  -- ---- behind the letter l

  module _ (w : ℕ) (bs : List ℕ) (p size n : ℕ) (rest : List ℕ) (u : State) (bytes : IsBytes u) (same : u.frames ≡ calls_of t back) (h : Holds s t text (at_long w bs p size rest) n u) where
    abbrev o : Opened s t (longer w) bs p size rest
    o = open_longer s t p size rest w bs h.0

    abbrev reads : Reading s t text p size rest u
    reads = h.1

    abbrev notes : Noted s t text w u
    notes = h.2

    met_behind : (c : ℕ) → o.b ≡ c → LeftOn s t (met (longer w) c) o.bs_on (p + 1) size rest
    met_behind c e = subst (λ (c : ℕ). LeftOn s t (met (longer w) c) o.bs_on (p + 1) size rest) e o.on

    goes : (form : Form) (c : ℕ) {b : ℕ} → form_bytes form ≡ 4 → o.b ≡ b → (b + 208) % 256 ≡ c → c ≢ 0 → ((m : ℕ) → form_text form (argument form m t.mem) ≡ numeral_of c 10 m) → Field s t w form o.bs_on (p + 1) size rest → LeftOn s t (gives (field w form)) o.bs_on (p + 1) size rest → Turning s t text back call Q 3 n u
    goes form c {b} four b_is c_is letter written x on =
        let chunk : List ℕ = chunk_of t form size in
        let place : ℕ = sp_of t + (size - 4) in
        let number_is : number_of t form size ≡ long_at t.mem place = ap (λ (j : ℕ). number_from (bytes_at j (sp_of t + (size - j)) t.mem)) four ∙ long_number place t.mem in
        let chunk_is : chunk ≡ numeral_of c 10 (long_at t.mem place) = ap (λ (m : ℕ). form_text form (argument form m t.mem)) number_is ∙ written (long_at t.mem place) in
        let some : 1 ≤ length chunk = subst (λ (ns : List ℕ). 1 ≤ length ns) (sym chunk_is) (some_numeral 10 _ _) in
        let whole = wide_length w chunk x.rest_on in
        let total : length (wide w chunk ++ x.rest_on) ≡ length rest = ap (λ (ns : List ℕ). length ns) x.is in
        let enough = h.4 in
        let shorter = o.longer in
        let four_bytes = four in
        let has = x.enough in
        let fits = on.fits in
        let top = call.top in
        let soft = call.soft in
        let block = reads.block in
        let byte : next_byte u ≡ b = ap u.mem reads.format ∙ (reads.mem p o.readable.fixed ∙ (o.byte ∙ b_is)) in
        let less : less_zero u ≡ c = ap (λ (b : ℕ). (b + 208) % 256) byte ∙ c_is in
        let at : zero_word u 10 - 4 ≡ place = omega arith in
        let same_at : (j : ℕ) → u.mem (place + j) ≡ t.mem (place + j) = λ j. reads.mem (place + j) (inr (omega arith)) in
        let e2 : place + 2 + 1 ≡ place + 3 = omega arith in
        let none : place ≡ place + 0 = omega arith in
        let m0 : u.mem place ≡ t.mem place = subst (λ (b : ℕ). u.mem b ≡ t.mem b) (sym none) (same_at 0) in
        let m1 : u.mem (place + 1) ≡ t.mem (place + 1) = same_at 1 in
        let m2 : u.mem (place + 2) ≡ t.mem (place + 2) = same_at 2 in
        let m3 : u.mem (place + 2 + 1) ≡ t.mem (place + 2 + 1) = subst (λ (b : ℕ). u.mem b ≡ t.mem b) (sym e2) (same_at 3) in
        let long : long_at u.mem (zero_word u 10 - 4) ≡ long_at t.mem place = ap (λ (a : ℕ). long_at u.mem a) at ∙ (let g : long_at u.mem place ≡ long_at t.mem place = omega arith in g) in
        turn_to s t text back call Q 3 n 60 (8100 + 80 * (w - length chunk) + still o.bs_on x.rest_on) 4 u (TakesLong u) bytes same (omega arith) (omega arith)
        (longs_are_taken s (reach_of t) f u (frame_of t back) t.frames call.stand.stand.printf same (may_take s t text back call Q p size rest u bytes same reads) (may_read s t text back call Q p size rest u bytes same reads o.readable) (omega arith) notes.y
        (all_range (IsReachable s.place (reach_of t)) 4 (zero_word u 10 - 4) (λ k few. reach_argument 4 (zero_word u 10 - 4) (omega arith) (omega arith) k few)))
        (λ v bytes_v k.
        let z0 = k.zp 0 (omega arith) (omega arith) (omega arith) (omega arith) (omega arith) (omega arith) (omega arith) (omega arith) (omega arith) in
        let z1 = k.zp 1 (omega arith) (omega arith) (omega arith) (omega arith) (omega arith) (omega arith) (omega arith) (omega arith) (omega arith) in
        let z12 = k.zp 12 (omega arith) (omega arith) (omega arith) (omega arith) (omega arith) (omega arith) (omega arith) (omega arith) (omega arith) in
        let z13 = k.zp 13 (omega arith) (omega arith) (omega arith) (omega arith) (omega arith) (omega arith) (omega arith) (omega arith) (omega arith) in
        let z16 = k.zp 16 (omega arith) (omega arith) (omega arith) (omega arith) (omega arith) (omega arith) (omega arith) (omega arith) (omega arith) in
        let z17 = k.zp 17 (omega arith) (omega arith) (omega arith) (omega arith) (omega arith) (omega arith) (omega arith) (omega arith) (omega arith) in
        let z18 = k.zp 18 (omega arith) (omega arith) (omega arith) (omega arith) (omega arith) (omega arith) (omega arith) (omega arith) (omega arith) in
        let z19 = k.zp 19 (omega arith) (omega arith) (omega arith) (omega arith) (omega arith) (omega arith) (omega arith) (omega arith) (omega arith) in
        let format = reads.format in
        let format_on = k.format in
        let block_on = k.block in
        let sp_is = notes.sp in
        let one = notes.length in
        let letter_is : v.zp 2 ≡ c = k.letter ∙ less in
        let number : number_left v.zp ≡ long_at t.mem place = k.number ∙ long in (
          at_number w 10 chunk o.bs_on (p + 1) (size - form_bytes form) x.rest_on,
          refl,
          (
            x.left,
            subst (λ (ns : List ℕ). Reading s t text (p + 1) (size - form_bytes form) ns v) (sym x.is) (reading_on s t text back call Q p (p + 1) size (size - form_bytes form) rest u v reads k.same (omega arith) (omega arith) z12 z13
                (λ i high. k.zp i (omega arith) (omega arith) (omega arith) (omega arith) (omega arith) (omega arith) (omega arith) (omega arith) (omega arith))),
            record {
              sp = omega arith;
              width = z16 ∙ notes.width;
              short = omega arith;
              letter = λ e. letter (sym letter_is ∙ e);
              in_base = z19 ∙ h.3;
              is_base = inl refl;
            },
            chunk_is ∙ (ap (λ (m : ℕ). numeral_of c 10 m) (sym number) ∙ ap (λ (l : ℕ). numeral_of l 10 (number_left v.zp)) (sym letter_is)),
            omega arith,
          ),
        ))

    pub long_turn : Turning s t text back call Q 3 n u
    long_turn = elim (eqb_tells o.b 100) [
      | inl d ↦ goes signed_long 52 refl d.1 refl (omega arith) (λ m. signed_longs m) (gives_field s t w signed_long o.bs_on (p + 1) size rest (met_behind 100 d.1)) (met_behind 100 d.1)
      | inr d ↦ elim (eqb_tells o.b 117) [
        | inl x ↦ goes unsigned_long 69 refl x.1 refl (omega arith) (λ m. refl) (gives_field s t w unsigned_long o.bs_on (p + 1) size rest (met_behind 117 x.1)) (met_behind 117 x.1)
        | inr x ↦ absurd (no_stray s t (p + 1) size rest (met (longer w) o.b) o.bs_on (long_stray w o.b d.1 x.1) o.on)
      ]
    ]
