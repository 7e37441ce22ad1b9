-- A number that is taken becomes its digits; a character and a string are taken.
use Rattle.std.proofs.Common.{◌≡◌, ℕ, ◌+◌, ◌-◌, ◌*◌, ◌%◌, ◌<◌, ◌≤◌, ◌⊎◌, inl, inr, List, [], ◌∷◌, ◌++◌, All, length, refl, sym, ap, subst, ◌∙◌, arith}
use Rattle.std.proofs.lemmas.List.Elements.{All-head}
use Rattle.c65_base.specs.declared.library.Library.TheVariants.{Printf}
use Rattle.c65_base.specs.Formats.{character, string, wide}
use Rattle.c65_code.specs.declared.routine.Routine.TheVariants as routines
use Rattle.c65_code.specs.LineState.{Place, State, sp_of, zero_word, word_at, IsBytes}
use Rattle.c65_code.specs.Texts.{bytes_at, range_of, text_at, text_length}
use Rattle.c65_code.specs.RawMachine.{RawSetting, IsReachable, reach_of}
use Rattle.c65_rtl_law_strings.proofs.Lengths.{IsText, text_is}
use Rattle.c65_rtl_law_walks.proofs.Ranges.{all_in_range}
use Rattle.c65_rtl_law_printf.specs.Arguments.{TakesCharacter, IsTextOf, TakesString}
use Rattle.c65_rtl_law_printf.specs.Digits.{number_left}
use Rattle.c65_rtl_law_printf.specs.Writing.{address_of}
use Rattle.c65_rtl_law_printf.proofs.Arguments.{characters_are_taken, strings_are_taken}
use Rattle.c65_rtl_law_printf.proofs.Writing.{same_bytes}
use Rattle.c65_rtl_law_printf_fields.specs.Signs.{magnitude, TakesSign}
use Rattle.c65_rtl_law_printf_fields.specs.Numbers.{numeral, MayPush, MakesNumber}
use Rattle.c65_rtl_law_printf_fields.proofs.Signs.{signs_are_taken}
use Rattle.c65_rtl_law_printf_fields.proofs.Numbers.{numbers_are_made}
use Rattle.c65_rtl_law_printf_row.proofs.Blocks.{bytes_length, word_number}
use Rattle.c65_rtl_law_printf_row.proofs.Left.{Readable, CanBeRead, Field, number_of, chunk_of, gives_field}
use Rattle.c65_rtl_law_printf_row.proofs.Moments.{at_number, at_digits, at_character, at_string, at_pad, still, Reading, Noted, Taken, Holds}
use Rattle.c65_rtl_law_printf_row.proofs.Context.{Called, frame_of, calls_of, Turning, turn_to, deep_enough, on_stack, may_take, reading_on, wide_length, all_range}

module _ (s : RawSetting) (t : State) (text : List ℕ) (back : Place) (call : Called s t) (Q : Place → State → Type 0) where
  abbrev f : ℕ
  f = s.routine (routines.Library Printf)

  -- ---- the sign

  pub number_turn : (w base : ℕ) (chunk bs : List ℕ) (p size n : ℕ) (rest : List ℕ) (u : State) → IsBytes u → u.frames ≡ calls_of t back → Holds s t text (at_number w base chunk bs p size rest) n u → Turning s t text back call Q 4 n u
  number_turn w base chunk bs p size n rest u bytes same h =
      let r : Reading s t text p size (wide w chunk ++ rest) u = h.1 in
      let taken : Taken s t text w base u = h.2 in
      let enough = h.4 in
      let pushed = ap (λ (ps : List ℕ). length ps) r.pushed in
      let hard = deep_enough s t text back call Q u same (omega arith) in
      turn_to s t text back call Q 4 n 40 (8000 + 80 * (w - length chunk) + still bs rest) 5 u (TakesSign u) bytes same (omega arith) (omega arith)
      (signs_are_taken s (reach_of t) f u (frame_of t back) t.frames call.stand.stand.printf same bytes r.ended (omega arith))
      (λ v bytes_v k.
      let z0 = k.zp 0 (omega arith) (omega arith) (omega arith) (omega arith) (omega arith) in
      let z1 = k.zp 1 (omega arith) (omega arith) (omega arith) (omega arith) (omega arith) in
      let z2 = k.zp 2 (omega arith) (omega arith) (omega arith) (omega arith) (omega arith) in
      let z8 = k.zp 8 (omega arith) (omega arith) (omega arith) (omega arith) (omega arith) in
      let z9 = k.zp 9 (omega arith) (omega arith) (omega arith) (omega arith) (omega arith) in
      let z10 = k.zp 10 (omega arith) (omega arith) (omega arith) (omega arith) (omega arith) in
      let z11 = k.zp 11 (omega arith) (omega arith) (omega arith) (omega arith) (omega arith) in
      let z12 = k.zp 12 (omega arith) (omega arith) (omega arith) (omega arith) (omega arith) in
      let z13 = k.zp 13 (omega arith) (omega arith) (omega arith) (omega arith) (omega arith) in
      let z16 = k.zp 16 (omega arith) (omega arith) (omega arith) (omega arith) (omega arith) in
      let z18 = k.zp 18 (omega arith) (omega arith) (omega arith) (omega arith) (omega arith) in
      let z19 = k.zp 19 (omega arith) (omega arith) (omega arith) (omega arith) (omega arith) in
      let format = r.format in
      let block = r.block in
      let sp_is = taken.sp in (
        at_digits w base chunk bs p size rest,
        refl,
        (
          h.0,
          reading_on s t text back call Q p p size size (wide w chunk ++ rest) u v r k.same (omega arith) (omega arith) z12 z13 (λ i high. k.zp i (omega arith) (omega arith) (omega arith) (omega arith) (omega arith)),
          record { sp = omega arith; width = z16 ∙ taken.width; short = z18 ∙ taken.short; letter = λ e. taken.letter (sym z2 ∙ e); in_base = z19 ∙ taken.in_base; is_base = taken.is_base },
          h.3 ∙ (ap (λ (sign : ℕ). numeral base sign (magnitude (u.zp 2) (number_left u.zp))) (sym k.sign) ∙ ap (λ (m : ℕ). numeral base (v.zp 3) m) (sym k.number)),
          omega arith,
        ),
      ))

  -- ---- the digits

  eleven : (b : ℕ) → (b + 64 < sp_of t) ⊎ (sp_of t ≤ b) → (b + 11 < sp_of t) ⊎ (sp_of t ≤ b)
  eleven b (inl below) = inl (omega arith)
  eleven b (inr above) = inr above

  pub digits_turn : (w base : ℕ) (chunk bs : List ℕ) (p size n : ℕ) (rest : List ℕ) (u : State) → IsBytes u → u.frames ≡ calls_of t back → Holds s t text (at_digits w base chunk bs p size rest) n u → Turning s t text back call Q 5 n u
  digits_turn w base chunk bs p size n rest u bytes same h =
      let r : Reading s t text p size (wide w chunk ++ rest) u = h.1 in
      let taken : Taken s t text w base u = h.2 in
      let enough = h.4 in
      let pushed = ap (λ (ps : List ℕ). length ps) r.pushed in
      let hard = deep_enough s t text back call Q u same (omega arith) in
      let soft = call.soft in
      let top = call.top in
      let sp_is = taken.sp in
      let may : MayPush s (reach_of t) u = record { bytes = bytes; running = r.ended; hard = hard; soft = omega arith; high = omega arith; data_low = call.data_low } in
      turn_to s t text back call Q 5 n 7500 (400 + 80 * (w - length chunk) + still bs rest) 8 u (MakesNumber base u) bytes same (omega arith) (omega arith)
      (numbers_are_made s (reach_of t) f base u (frame_of t back) t.frames call.stand same may taken.in_base taken.is_base)
      (λ v bytes_v k.
      let z2 = k.zp 2 (omega arith) (omega arith) (omega arith) (omega arith) (omega arith) (omega arith) (omega arith) (omega arith) in
      let z8 = k.zp 8 (omega arith) (omega arith) (omega arith) (omega arith) (omega arith) (omega arith) (omega arith) (omega arith) in
      let z9 = k.zp 9 (omega arith) (omega arith) (omega arith) (omega arith) (omega arith) (omega arith) (omega arith) (omega arith) in
      let z10 = k.zp 10 (omega arith) (omega arith) (omega arith) (omega arith) (omega arith) (omega arith) (omega arith) (omega arith) in
      let z11 = k.zp 11 (omega arith) (omega arith) (omega arith) (omega arith) (omega arith) (omega arith) (omega arith) (omega arith) in
      let z12 = k.zp 12 (omega arith) (omega arith) (omega arith) (omega arith) (omega arith) (omega arith) (omega arith) (omega arith) in
      let z13 = k.zp 13 (omega arith) (omega arith) (omega arith) (omega arith) (omega arith) (omega arith) (omega arith) (omega arith) in
      let z16 = k.zp 16 (omega arith) (omega arith) (omega arith) (omega arith) (omega arith) (omega arith) (omega arith) (omega arith) in
      let z18 = k.zp 18 (omega arith) (omega arith) (omega arith) (omega arith) (omega arith) (omega arith) (omega arith) (omega arith) in
      let format = r.format in
      let block = r.block in
      let count = r.count in
      let short = taken.short in
      let length_is : v.zp 17 ≡ length chunk = k.length ∙ ap (λ (ns : List ℕ). length ns) (sym h.3) in
      let below = k.sp in
      let few = k.few in (
        at_pad w chunk bs p size rest,
        refl,
        (
          h.0,
          record {
            format = omega arith;
            block = omega arith;
            told = ap (λ (ns : List ℕ). ns ++ (wide w chunk ++ rest)) k.output ∙ r.told;
            count = omega arith;
            bank = λ i high. k.zp i (omega arith) (omega arith) (omega arith) (omega arith) (omega arith) (omega arith) (omega arith) (omega arith) ∙ r.bank i high;
            mem = λ b fixed. k.mem b (subst (λ (at : ℕ). (b + 11 < at) ⊎ (at ≤ b)) (sym sp_is) (eleven b fixed)) ∙ r.mem b fixed;
            pushed = k.pushed ∙ r.pushed;
            input = k.input ∙ r.input;
            ended = k.ended;
          },
          record {
            size = omega arith;
            bytes = ap (λ (at : ℕ). bytes_at (length chunk) at v.mem) k.address ∙ (ap (λ (c : ℕ). bytes_at c (sp_of v) v.mem) (sym length_is) ∙ (k.text ∙ sym h.3));
            lies = inr (record { letter = λ e. taken.letter (sym z2 ∙ e); address = k.address; sp = omega arith; few = omega arith });
          },
          z16 ∙ taken.width,
          omega arith,
        ),
      ))

  -- ---- a character

  pub character_turn : (w : ℕ) (bs : List ℕ) (p size n : ℕ) (rest : List ℕ) (u : State) → IsBytes u → u.frames ≡ calls_of t back → Holds s t text (at_character w bs p size rest) n u → Turning s t text back call Q 6 n u
  character_turn w bs p size n rest u bytes same h =
      let r : Reading s t text p size rest u = h.1 in
      let noted : Noted s t text w u = h.2 in
      let enough = h.3 in
      let x : Field s t w character bs p size rest = gives_field s t w character bs p size rest h.0 in
      let chunk : List ℕ = chunk_of t character size in
      let place : ℕ = sp_of t + (size - 2) in
      let one_byte : length chunk ≡ 1 = refl in
      let byte : number_of t character size % 256 ≡ t.mem place = (let low = call.bytes.mem place in let word = word_number place t.mem in omega arith) in
      let whole = wide_length w chunk x.rest_on in
      let total : length (wide w chunk ++ x.rest_on) ≡ length rest = ap (λ (ns : List ℕ). length ns) x.is in
      let has = x.enough in
      let fits = h.0.fits in
      let top = call.top in
      let block = r.block in
      turn_to s t text back call Q 6 n 20 (400 + 80 * (w - length chunk) + still bs x.rest_on) 8 u (TakesCharacter u) bytes same (omega arith) (omega arith)
      (characters_are_taken s (reach_of t) f u (frame_of t back) t.frames call.stand.stand.printf same (may_take s t text back call Q p size rest u bytes same r))
      (λ v bytes_v k.
      let z0 = k.zp 0 (omega arith) (omega arith) (omega arith) (omega arith) in
      let z1 = k.zp 1 (omega arith) (omega arith) (omega arith) (omega arith) in
      let z2 = k.zp 2 (omega arith) (omega arith) (omega arith) (omega arith) in
      let z8 = k.zp 8 (omega arith) (omega arith) (omega arith) (omega arith) in
      let z9 = k.zp 9 (omega arith) (omega arith) (omega arith) (omega arith) in
      let z12 = k.zp 12 (omega arith) (omega arith) (omega arith) (omega arith) in
      let z13 = k.zp 13 (omega arith) (omega arith) (omega arith) (omega arith) in
      let z16 = k.zp 16 (omega arith) (omega arith) (omega arith) (omega arith) in
      let z17 = k.zp 17 (omega arith) (omega arith) (omega arith) (omega arith) in
      let z18 = k.zp 18 (omega arith) (omega arith) (omega arith) (omega arith) in
      let format = r.format in
      let block_on = k.block in
      let address_is = k.address in
      let address : address_of v ≡ place = omega arith in
      let sp_is = noted.sp in
      let one = noted.length in (
        at_pad w chunk bs p (size - 2) x.rest_on,
        refl,
        (
          x.left,
          subst (λ (ns : List ℕ). Reading s t text p (size - 2) ns v) (sym x.is) (reading_on s t text back call Q p p size (size - 2) rest u v r k.same (omega arith) (omega arith) z12 z13 (λ i high. k.zp i (omega arith) (omega arith) (omega arith) (omega arith))),
          record {
            size = omega arith;
            bytes = ap (λ (c : ℕ). c ∷ []) (k.same.mem (address_of v) ∙ (ap u.mem address ∙ (r.mem place (inr (omega arith)) ∙ sym byte)));
            lies = inl (record { own = z2 ∙ noted.own; sp = omega arith; readable = λ j few. on_stack s t text back call Q (address_of v + j) (omega arith) (omega arith) });
          },
          z16 ∙ noted.width,
          omega arith,
        ),
      ))

  -- ---- a string

  pub string_turn : (w : ℕ) (bs : List ℕ) (p size n : ℕ) (rest : List ℕ) (u : State) → IsBytes u → u.frames ≡ calls_of t back → Holds s t text (at_string w bs p size rest) n u → Turning s t text back call Q 7 n u
  string_turn w bs p size n rest u bytes same h =
      let r : Reading s t text p size rest u = h.1 in
      let noted : Noted s t text w u = h.2 in
      let enough = h.3 in
      let x : Field s t w string bs p size rest = gives_field s t w string bs p size rest h.0 in
      let at : ℕ = number_of t string size in
      let many : ℕ = text_length at t.mem in
      let chunk : List ℕ = text_at at t.mem in
      let argument : ℕ = sp_of t + (size - 2) in
      let has = x.enough in
      let fits = h.0.fits in
      let top = call.top in
      let soft = call.soft in
      let block = r.block in
      let can : (k : ℕ) → k < many + 1 → Readable s t (at + k) = all_in_range (Readable s t) (many + 1) at (All-head (CanBeRead s t) at _ x.places) in
      let last = (can many (omega arith)).small in
      let is_text : IsText t.mem at many = text_is at t.mem (omega arith) in
      let e0 : zero_word u 10 - 2 ≡ argument = omega arith in
      let e1 : zero_word u 10 - 2 + 1 ≡ argument + 1 = omega arith in
      let m0 : u.mem (zero_word u 10 - 2) ≡ t.mem argument = ap u.mem e0 ∙ r.mem argument (inr (omega arith)) in
      let m1 : u.mem (zero_word u 10 - 2 + 1) ≡ t.mem (argument + 1) = ap u.mem e1 ∙ r.mem (argument + 1) (inr (omega arith)) in
      let number : at ≡ word_at t.mem argument = word_number argument t.mem in
      let place : word_at u.mem (zero_word u 10 - 2) ≡ at = omega arith in
      let there : (k : ℕ) → k < many + 1 → u.mem (at + k) ≡ t.mem (at + k) = λ k few. r.mem (at + k) (can k few).fixed in
      let text_there : IsTextOf u.mem at many = record { inside = λ k few e. is_text.before k few (sym (there k (omega arith)) ∙ e); ends = there many (omega arith) ∙ is_text.ends; fits = omega arith } in
      let length_chunk : length chunk ≡ many = bytes_length many at t.mem in
      let whole = wide_length w chunk x.rest_on in
      let total : length (wide w chunk ++ x.rest_on) ≡ length rest = ap (λ (ns : List ℕ). length ns) x.is in
      turn_to s t text back call Q 7 n (40 + 10 * many) (400 + 80 * (w - length chunk) + still bs x.rest_on) 8 u (λ v. TakesString (word_at u.mem (zero_word u 10 - 2)) many u v) bytes same (omega arith) (omega arith)
      (strings_are_taken s (reach_of t) f many u (frame_of t back) t.frames call.stand.stand.printf same (may_take s t text back call Q p size rest u bytes same r) noted.y
      (all_range (IsReachable s.place (reach_of t)) 2 (zero_word u 10 - 2) (λ k few. (on_stack s t text back call Q (zero_word u 10 - 2 + k) (omega arith) (omega arith)).reach))
      (subst (λ (a : ℕ). IsTextOf u.mem a many) (sym place) text_there)
      (subst (λ (a : ℕ). All (IsReachable s.place (reach_of t)) (range_of (many + 1) a)) (sym place) (all_range (IsReachable s.place (reach_of t)) (many + 1) at (λ k few. (can k few).reach))))
      (λ v bytes_v k.
      let z0 = k.zp 0 (omega arith) (omega arith) (omega arith) (omega arith) (omega arith) (omega arith) in
      let z1 = k.zp 1 (omega arith) (omega arith) (omega arith) (omega arith) (omega arith) (omega arith) in
      let z2 = k.zp 2 (omega arith) (omega arith) (omega arith) (omega arith) (omega arith) (omega arith) in
      let z8 = k.zp 8 (omega arith) (omega arith) (omega arith) (omega arith) (omega arith) (omega arith) in
      let z9 = k.zp 9 (omega arith) (omega arith) (omega arith) (omega arith) (omega arith) (omega arith) in
      let z12 = k.zp 12 (omega arith) (omega arith) (omega arith) (omega arith) (omega arith) (omega arith) in
      let z13 = k.zp 13 (omega arith) (omega arith) (omega arith) (omega arith) (omega arith) (omega arith) in
      let z16 = k.zp 16 (omega arith) (omega arith) (omega arith) (omega arith) (omega arith) (omega arith) in
      let format = r.format in
      let block_on = k.block in
      let address : address_of v ≡ at = k.address ∙ place in
      let sp_is = noted.sp in (
        at_pad w chunk bs p (size - 2) x.rest_on,
        refl,
        (
          x.left,
          subst (λ (ns : List ℕ). Reading s t text p (size - 2) ns v) (sym x.is)
              (reading_on s t text back call Q p p size (size - 2) rest u v r k.same (omega arith) (omega arith) z12 z13 (λ i high. k.zp i (omega arith) (omega arith) (omega arith) (omega arith) (omega arith) (omega arith))),
          record {
            size = k.length ∙ sym length_chunk;
            bytes = ap (λ (a : ℕ). bytes_at (length chunk) a v.mem) address ∙ (ap (λ (c : ℕ). bytes_at c at v.mem) length_chunk ∙ same_bytes many at t.mem v.mem (λ j few. k.same.mem (at + j) ∙ there j (omega arith)));
            lies = inl (record { own = z2 ∙ noted.own; sp = omega arith; readable = λ j few. let same_at : at + j ≡ address_of v + j = omega arith in subst (λ (b : ℕ). Readable s t b) same_at (can j (omega arith)) });
          },
          z16 ∙ noted.width,
          omega arith,
        ),
      ))
