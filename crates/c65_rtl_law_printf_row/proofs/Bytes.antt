-- The next byte of the format, and the digits of a width.
use Rattle.std.proofs.Common.{◌≡◌, ◌≢◌, ℕ, suc, ◌+◌, ◌-◌, ◌*◌, ◌%◌, ◌<◌, ◌≤◌, inl, inr, Bool, true, false, List, [], ◌∷◌, length, refl, sym, ap, subst, ◌∙◌, arith, nat_eq}
use Rattle.std.specs.Prelude.{if◌then◌else◌, nat_lt}
use Rattle.std.proofs.lemmas.Bool.Decides.{eqb_tells}
use Rattle.c65_base.specs.declared.library.Library.TheVariants.{Printf}
use Rattle.c65_base.specs.Formats.{Met, leads, gives, plain, begun, outside, met}
use Rattle.c65_code.specs.declared.routine.Routine.TheVariants as routines
use Rattle.c65_code.specs.LineState.{Place, State, IsBytes}
use Rattle.c65_code.specs.RawMachine.{RawSetting, reach_of}
use Rattle.c65_rtl.proofs.Meeting.{lt_true, lt_false}
use Rattle.c65_rtl_law_printf.specs.Format.{next_byte, after_byte, ReadsByte, Begins}
use Rattle.c65_rtl_law_printf.specs.Widths.{less_zero, after_digit, ReadsDigit}
use Rattle.c65_rtl_law_printf.specs.Writing.{address_of}
use Rattle.c65_rtl_law_printf.proofs.Format.{bytes_are_read}
use Rattle.c65_rtl_law_printf.proofs.Widths.{widths_are_read}
use Rattle.c65_rtl_law_printf_fields.proofs.Choosing.{not_equal}
use Rattle.c65_rtl_law_printf_row.proofs.Left.{Readable, Left, LeftOn, Opened, Plain, leads_left, no_stray, open_outside, end_outside, open_sized, gives_plain}
use Rattle.c65_rtl_law_printf_row.proofs.Letters.{sized_by, digit_met}
use Rattle.c65_rtl_law_printf_row.proofs.Moments.{at_next, at_width, at_letter, at_pad, at_end, still, Reading, Noted, Holds}
use Rattle.c65_rtl_law_printf_row.proofs.Context.{Called, frame_of, calls_of, Turning, turn_to, may_read, reading_on, noted_on}

module _ (s : RawSetting) (t : State) (text : List ℕ) (back : Place) (call : Called s t) (Q : Place → State → Type 0) where
  abbrev f : ℕ
  f = s.routine (routines.Library Printf)

  -- ---- the next byte

  byte_is : (p size b : ℕ) (todo : List ℕ) (u : State) → Reading s t text p size todo u → Readable s t p → t.mem p ≡ b → next_byte u ≡ b
  byte_is p size b todo u r readable e = ap u.mem r.format ∙ (r.mem p readable.fixed ∙ e)

  at_zero : (p size n : ℕ) (rest : List ℕ) (u : State) → IsBytes u → u.frames ≡ calls_of t back → Holds s t text (at_next [] p size rest) n u → Turning s t text back call Q 0 n u
  at_zero p size n rest u bytes same h =
      let left : Left s t outside [] p size rest = h.0 in
      let r : Reading s t text p size rest u = h.1 in
      let sp_is = h.2 in
      let enough = h.3 in
      let byte = byte_is p size 0 rest u r left.stands.readable left.stands.byte in
      turn_to s t text back call Q 0 n 40 100 (after_byte (next_byte u)) u (ReadsByte u) bytes same (omega arith) (omega arith)
      (bytes_are_read s (reach_of t) f u (frame_of t back) t.frames call.stand.stand.printf same (may_read s t text back call Q p size rest u bytes same r left.stands.readable))
      (λ v bytes_v k.
      let z = k.none byte in
      let z0 = z 0 in
      let z1 = z 1 in
      let z8 = z 8 in
      let z9 = z 9 in
      let z10 = z 10 in
      let z11 = z 11 in
      let format = r.format in
      let block = r.block in (
        at_end p size,
        ap after_byte byte,
        (
          subst (λ (ns : List ℕ). Reading s t text p size ns v) (sym (end_outside s t p size rest left)) (reading_on s t text back call Q p p size size rest u v r k.same (omega arith) (omega arith) (z 12) (z 13) (λ i high. z i)),
          omega arith,
          omega arith,
        ),
      ))

  -- `%`
  at_percent : (b : ℕ) (bs : List ℕ) (p size n : ℕ) (rest : List ℕ) (u : State) → IsBytes u → u.frames ≡ calls_of t back → Holds s t text (at_next (b ∷ bs) p size rest) n u → nat_eq b 37 ≡ true → b ≡ 37 → Turning s t text back call Q 0 n u
  at_percent b bs p size n rest u bytes same h is e =
      let left : Left s t outside (b ∷ bs) p size rest = h.0 in
      let r : Reading s t text p size rest u = h.1 in
      let sp_is = h.2 in
      let enough = h.3 in
      let byte = byte_is p size b rest u r left.stands.readable left.stands.byte in
      let on : LeftOn s t (leads begun) bs (p + 1) size rest = subst (λ (x : Met). LeftOn s t x bs (p + 1) size rest) (ap (λ (c : Bool). if c then leads begun else gives (plain b)) is) (open_outside s t p size rest b bs left) in
      turn_to s t text back call Q 0 n 40 (3000 + still bs rest) (after_byte (next_byte u)) u (ReadsByte u) bytes same (omega arith) (omega arith)
      (bytes_are_read s (reach_of t) f u (frame_of t back) t.frames call.stand.stand.printf same (may_read s t text back call Q p size rest u bytes same r left.stands.readable))
      (λ v bytes_v reads.
      let k : Begins u v = reads.some (λ none. left.stands.some (sym byte ∙ none)) in
      let z0 = k.zp 0 (omega arith) (omega arith) (omega arith) (omega arith) (omega arith) (omega arith) (omega arith) (omega arith) in
      let z1 = k.zp 1 (omega arith) (omega arith) (omega arith) (omega arith) (omega arith) (omega arith) (omega arith) (omega arith) in
      let z10 = k.zp 10 (omega arith) (omega arith) (omega arith) (omega arith) (omega arith) (omega arith) (omega arith) (omega arith) in
      let z11 = k.zp 11 (omega arith) (omega arith) (omega arith) (omega arith) (omega arith) (omega arith) (omega arith) (omega arith) in
      let z12 = k.zp 12 (omega arith) (omega arith) (omega arith) (omega arith) (omega arith) (omega arith) (omega arith) (omega arith) in
      let z13 = k.zp 13 (omega arith) (omega arith) (omega arith) (omega arith) (omega arith) (omega arith) (omega arith) (omega arith) in
      let format = r.format in
      let format_on = k.format in
      let block = r.block in
      let address : address_of v ≡ p = k.address ∙ r.format in (
        at_width 0 bs (p + 1) size rest,
        ap after_byte (byte ∙ e),
        (
          leads_left s t (p + 1) size rest begun bs on,
          reading_on s t text back call Q p (p + 1) size size rest u v r reads.same (omega arith) (omega arith) z12 z13
              (λ i high. k.zp i (omega arith) (omega arith) (omega arith) (omega arith) (omega arith) (omega arith) (omega arith) (omega arith)),
          record {
            sp = omega arith;
            percent = ap t.mem address ∙ (left.stands.byte ∙ e);
            readable = subst (λ (b : ℕ). Readable s t b) (sym address) left.stands.readable;
            length = k.length;
            own = k.letter;
            width = k.width;
            y = k.y;
          },
          omega arith,
        ),
      ))

  -- another byte
  at_plain : (b : ℕ) (bs : List ℕ) (p size n : ℕ) (rest : List ℕ) (u : State) → IsBytes u → u.frames ≡ calls_of t back → Holds s t text (at_next (b ∷ bs) p size rest) n u → nat_eq b 37 ≡ false → Turning s t text back call Q 0 n u
  at_plain b bs p size n rest u bytes same h other =
      let left : Left s t outside (b ∷ bs) p size rest = h.0 in
      let r : Reading s t text p size rest u = h.1 in
      let sp_is = h.2 in
      let enough = h.3 in
      let byte = byte_is p size b rest u r left.stands.readable left.stands.byte in
      let x : Plain s t b bs (p + 1) size rest = gives_plain s t b bs (p + 1) size rest (subst (λ (x : Met). LeftOn s t x bs (p + 1) size rest) (ap (λ (c : Bool). if c then leads begun else gives (plain b)) other) (open_outside s t p size rest b bs left)) in
      let shorter : suc (length x.rest_on) ≡ length rest = ap (λ (ns : List ℕ). length ns) x.is in
      turn_to s t text back call Q 0 n 40 (400 + 80 * (0 - 1) + still bs x.rest_on) (after_byte (next_byte u)) u (ReadsByte u) bytes same (omega arith) (omega arith)
      (bytes_are_read s (reach_of t) f u (frame_of t back) t.frames call.stand.stand.printf same (may_read s t text back call Q p size rest u bytes same r left.stands.readable))
      (λ v bytes_v reads.
      let k : Begins u v = reads.some (λ none. left.stands.some (sym byte ∙ none)) in
      let z0 = k.zp 0 (omega arith) (omega arith) (omega arith) (omega arith) (omega arith) (omega arith) (omega arith) (omega arith) in
      let z1 = k.zp 1 (omega arith) (omega arith) (omega arith) (omega arith) (omega arith) (omega arith) (omega arith) (omega arith) in
      let z10 = k.zp 10 (omega arith) (omega arith) (omega arith) (omega arith) (omega arith) (omega arith) (omega arith) (omega arith) in
      let z11 = k.zp 11 (omega arith) (omega arith) (omega arith) (omega arith) (omega arith) (omega arith) (omega arith) (omega arith) in
      let z12 = k.zp 12 (omega arith) (omega arith) (omega arith) (omega arith) (omega arith) (omega arith) (omega arith) (omega arith) in
      let z13 = k.zp 13 (omega arith) (omega arith) (omega arith) (omega arith) (omega arith) (omega arith) (omega arith) (omega arith) in
      let format = r.format in
      let format_on = k.format in
      let block = r.block in
      let address : address_of v ≡ p = k.address ∙ r.format in
      let to : after_byte b ≡ 8 = ap (λ (c : Bool). if c then 10 else if nat_eq b 37 then 1 else 8) (not_equal b 0 left.stands.some) ∙ ap (λ (c : Bool). if c then 1 else 8) other in (
        at_pad 0 (b ∷ []) bs (p + 1) size x.rest_on,
        ap after_byte byte ∙ to,
        (
          x.left,
          subst (λ (ns : List ℕ). Reading s t text (p + 1) size ns v) (sym x.is)
              (reading_on s t text back call Q p (p + 1) size size rest u v r reads.same (omega arith) (omega arith) z12 z13 (λ i high. k.zp i (omega arith) (omega arith) (omega arith) (omega arith) (omega arith) (omega arith) (omega arith) (omega arith))),
          record {
            size = k.length;
            bytes = ap (λ (c : ℕ). c ∷ []) (reads.same.mem (address_of v) ∙ (ap u.mem k.address ∙ byte));
            lies = inl (record {
              own = k.letter;
              sp = omega arith;
              readable = λ j few. let at : p ≡ address_of v + j = omega arith in subst (λ (b : ℕ). Readable s t b) at left.stands.readable;
            });
          },
          k.width,
          omega arith,
        ),
      ))

  pub next_turn : (bs : List ℕ) (p size n : ℕ) (rest : List ℕ) (u : State) → IsBytes u → u.frames ≡ calls_of t back → Holds s t text (at_next bs p size rest) n u → Turning s t text back call Q 0 n u
  next_turn [] p size n rest u bytes same h = at_zero p size n rest u bytes same h
  next_turn (b ∷ bs) p size n rest u bytes same h = elim (eqb_tells b 37) [
    | inl e ↦ at_percent b bs p size n rest u bytes same h e.0 e.1
    | inr e ↦ at_plain b bs p size n rest u bytes same h e.0
  ]

  -- ---- a digit of a width

  module _ (w : ℕ) (bs : List ℕ) (p size n : ℕ) (rest : List ℕ) (u : State) (bytes : IsBytes u) (same : u.frames ≡ calls_of t back) (h : Holds s t text (at_width w bs p size rest) n u) where
    abbrev o : Opened s t (sized_by w) bs p size rest
    o = open_sized s t p size rest w bs h.0

    abbrev r : Reading s t text p size rest u
    r = h.1

    abbrev noted : Noted s t text w u
    noted = h.2

    less_is : less_zero u ≡ (o.b + 208) % 256
    less_is = ap (λ (b : ℕ). (b + 208) % 256) (byte_is p size o.b rest u r o.readable o.byte)

    small : o.b < 256
    small = subst (λ (b : ℕ). b < 256) o.byte (call.bytes.mem p)

    -- the bytes of the zero page that stay
    module _ (v : State) (k : ReadsDigit u v) where
      kept : (i : ℕ) → i ≢ 3 → i ≢ 8 → i ≢ 9 → i ≢ 16 → v.zp i ≡ u.zp i
      kept i e3 e8 e9 e16 = k.zp i e3 e8 e9 e16

      z : (i : ℕ) → (10 ≤ i) × (i ≤ 15) → v.zp i ≡ u.zp i
      z i range = let low = range.0 in let high = range.1 in k.zp i (omega arith) (omega arith) (omega arith) (omega arith)

      reading : Reading s t text (p + 1) size rest v
      reading =
          let z10 = z 10 (omega arith, omega arith) in
          let z11 = z 11 (omega arith, omega arith) in
          let format = r.format in
          let format_on = k.format in
          let block = r.block in
          reading_on s t text back call Q p (p + 1) size size rest u v r k.same (omega arith) (omega arith) (z 12 (omega arith, omega arith)) (z 13 (omega arith, omega arith)) (λ i high. k.zp i (omega arith) (omega arith) (omega arith) (omega arith))

      noting : (x : ℕ) → v.zp 16 ≡ x → Noted s t text x v
      noting x width = noted_on s t text back call Q w x u v noted width k.y (kept 0 (omega arith) (omega arith) (omega arith) (omega arith)) (kept 1 (omega arith) (omega arith) (omega arith) (omega arith)) (kept 2 (omega arith) (omega arith) (omega arith) (omega arith))
          (z 14 (omega arith, omega arith)) (z 15 (omega arith, omega arith)) (kept 17 (omega arith) (omega arith) (omega arith) (omega arith)) (kept 18 (omega arith) (omega arith) (omega arith) (omega arith))

    digit : (w < 10) × (met (sized_by w) o.b ≡ leads (sized_by (10 * w + (o.b - 48)))) → 48 ≤ o.b → o.b ≤ 57 → nat_lt ((o.b + 208) % 256) 10 ≡ true → Turning s t text back call Q 1 n u
    digit d low high e =
        let enough = h.3 in
        let longer = o.longer in
        let few = d.0 in
        let width = noted.width in
        let less = less_is in
        turn_to s t text back call Q 1 n 40 (3000 + still o.bs_on rest) (after_digit (less_zero u)) u (ReadsDigit u) bytes same (omega arith) (omega arith)
        (widths_are_read s (reach_of t) f u (frame_of t back) t.frames call.stand.stand.printf same (may_read s t text back call Q p size rest u bytes same r o.readable) noted.y)
        (λ v bytes_v k.
        let wider = k.digit (omega arith) (omega arith) in (
          at_width (10 * w + (o.b - 48)) o.bs_on (p + 1) size rest,
          ap after_digit less_is ∙ ap (λ (c : Bool). if c then 1 else 2) e,
          (leads_left s t (p + 1) size rest (sized_by (10 * w + (o.b - 48))) o.bs_on (subst (λ (x : Met). LeftOn s t x o.bs_on (p + 1) size rest) d.1 o.on), reading v k, noting v k (10 * w + (o.b - 48)) (omega arith), omega arith),
        ))

    width_by : (c : Bool) → nat_lt ((o.b + 208) % 256) 10 ≡ c → Turning s t text back call Q 1 n u
    width_by true e =
        let few = lt_true ((o.b + 208) % 256) 10 e in
        let small_b = small in
        let low : 48 ≤ o.b = omega arith in
        let high : o.b ≤ 57 = omega arith in
        elim (digit_met w o.b low high) [
          | inl none ↦ absurd (no_stray s t (p + 1) size rest (met (sized_by w) o.b) o.bs_on none o.on)
          | inr d ↦ digit d low high e
        ]
    width_by false e =
        let enough = h.3 in
        let longer = o.longer in
        let more = lt_false ((o.b + 208) % 256) 10 e in
        let less = less_is in
        turn_to s t text back call Q 1 n 40 (6000 + still o.bs_on rest) (after_digit (less_zero u)) u (ReadsDigit u) bytes same (omega arith) (omega arith)
        (widths_are_read s (reach_of t) f u (frame_of t back) t.frames call.stand.stand.printf same (may_read s t text back call Q p size rest u bytes same r o.readable) noted.y)
        (λ v bytes_v k.
        let letter = k.letter (omega arith) in (
          at_letter w o.b o.bs_on (p + 1) size rest,
          ap after_digit less_is ∙ ap (λ (c : Bool). if c then 1 else 2) e,
          (o.on, reading v k, noting v k w (letter.1 ∙ noted.width), letter.0 ∙ less_is, small, more, omega arith),
        ))

    pub width_turn : Turning s t text back call Q 1 n u
    width_turn = width_by (nat_lt ((o.b + 208) % 256) 10) refl
