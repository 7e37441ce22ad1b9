-- What is left of a format: its bytes in memory, the block of its arguments, and what is still to be written.
use Rattle.std.proofs.Common.{◌≡◌, ◌≢◌, ℕ, zero, suc, ◌+◌, ◌-◌, ◌<◌, ◌≤◌, ◌⊎◌, Bool, true, false, List, [], ◌∷◌, ◌++◌, All, Option, Some, None, length, refl, sym, ap, subst, ◌∙◌, arith}
use Rattle.std.specs.Prelude.{if◌then◌else◌, nat_lt, take, drop}
use Rattle.std.specs.Option.{option_map}
use Rattle.std.proofs.lemmas.List.Elements.{All-tail}
use Rattle.c65_base.specs.Formats.{Form, signed, unsigned, hexadecimal, signed_long, unsigned_long, character, string, form_bytes, plain, field, Stage, outside, longer, Met, leads, gives, stray, met, number_from, form_text, wide}
use Rattle.c65_code.specs.LineState.{State, sp_of}
use Rattle.c65_code.specs.Texts.{bytes_at, text_range}
use Rattle.c65_code.specs.RawMachine.{RawSetting, IsReachable, reach_of}
use Rattle.c65_rtl.proofs.Meeting.{lt_false}
use Rattle.c65_rtl_law_printf.specs.Reading.{argument, printed_on, printed_from}
use Rattle.c65_rtl_law_printf_row.proofs.Blocks.{bytes_length, take_bytes, drop_bytes}
use Rattle.c65_rtl_law_printf_row.proofs.Letters.{sized_by}
use Rattle.c65_rtl_law_printf_row.proofs.Places.{places_part, places_on, places_from}

-- An address that may be read, which `printf` leaves as it was at the call.
pub record Readable (s : RawSetting) (t : State) (b : ℕ) : Type 0 where
  pub reach : IsReachable s.place (reach_of t) b
  pub fixed : (b + 64 < sp_of t) ⊎ (sp_of t ≤ b)
  pub small : b + 1 < 65536

abbrev pub CanBeRead : RawSetting → State → ℕ → Type 0
CanBeRead s t at = All (Readable s t) (text_range at t.mem)

pub record EndsAt (s : RawSetting) (t : State) (p : ℕ) : Type 0 where
  pub byte : t.mem p ≡ 0
  pub readable : Readable s t p

pub record GoesOn (s : RawSetting) (t : State) (b p : ℕ) (Rest : Type 0) : Type 0 where
  pub byte : t.mem p ≡ b
  pub some : b ≢ 0
  pub readable : Readable s t p
  pub rest : Rest

-- these bytes stand from an address on, with a zero behind them
abbrev pub Stands : RawSetting → State → List ℕ → ℕ → Type 0
Stands s t [] p = EndsAt s t p
Stands s t (b ∷ bs) p = GoesOn s t b p (Stands s t bs (p + 1))

abbrev pub block_in : State → ℕ → List ℕ
block_in t size = bytes_at size (sp_of t) t.mem

-- from a stage on
pub record Left (s : RawSetting) (t : State) (stage : Stage) (bs : List ℕ) (p size : ℕ) (rest : List ℕ) : Type 0 where
  pub stands : Stands s t bs p
  pub fits : size + 2 ≤ t.regs.y
  pub printed : printed_from stage bs (block_in t size) t.mem ≡ Some rest
  pub places : All (CanBeRead s t) (places_from stage bs (block_in t size))

-- from behind a byte on, which does this
pub record LeftOn (s : RawSetting) (t : State) (x : Met) (bs : List ℕ) (p size : ℕ) (rest : List ℕ) : Type 0 where
  pub stands : Stands s t bs p
  pub fits : size + 2 ≤ t.regs.y
  pub printed : printed_on x (λ next left. printed_from next bs left t.mem) (block_in t size) t.mem ≡ Some rest
  pub places : All (CanBeRead s t) (places_on x (λ next left. places_from next bs left) (block_in t size))

pub record Opened (s : RawSetting) (t : State) (stage : Stage) (bs : List ℕ) (p size : ℕ) (rest : List ℕ) : Type 0 where
  pub b : ℕ
  pub bs_on : List ℕ
  pub byte : t.mem p ≡ b
  pub readable : Readable s t p
  pub longer : length bs ≡ suc (length bs_on)
  pub on : LeftOn s t (met stage b) bs_on (p + 1) size rest

some_is : {A : Type 0} (x y : A) → Some x ≡ Some y → x ≡ y
some_is x y e = cc

none_is : {A : Type 0} (x : A) → None ≡ Some x → ⊥
none_is x e = cc

module _ (s : RawSetting) (t : State) (p size : ℕ) (rest : List ℕ) where
  pub leads_left : (stage : Stage) (bs : List ℕ) → LeftOn s t (leads stage) bs p size rest → Left s t stage bs p size rest
  leads_left stage bs k = record { stands = k.stands; fits = k.fits; printed = k.printed; places = k.places }

  pub no_stray : (x : Met) (bs : List ℕ) → x ≡ stray → LeftOn s t x bs p size rest → ⊥
  no_stray x bs is k = none_is rest (subst (λ (x : Met). LeftOn s t x bs p size rest) is k).printed

  pub open_outside : (b : ℕ) (bs : List ℕ) → Left s t outside (b ∷ bs) p size rest → LeftOn s t (met outside b) bs (p + 1) size rest
  open_outside b bs k = record { stands = k.stands.rest; fits = k.fits; printed = k.printed; places = k.places }

  pub end_outside : Left s t outside [] p size rest → [] ≡ rest
  end_outside k = some_is [] rest k.printed

  pub open_sized : (w : ℕ) (bs : List ℕ) → Left s t (sized_by w) bs p size rest → Opened s t (sized_by w) bs p size rest
  open_sized zero [] k = absurd (none_is rest k.printed)
  open_sized (suc w) [] k = absurd (none_is rest k.printed)
  open_sized zero (b ∷ bs) k = record { b = b; bs_on = bs; byte = k.stands.byte; readable = k.stands.readable; longer = refl; on = record { stands = k.stands.rest; fits = k.fits; printed = k.printed; places = k.places } }
  open_sized (suc w) (b ∷ bs) k = record { b = b; bs_on = bs; byte = k.stands.byte; readable = k.stands.readable; longer = refl; on = record { stands = k.stands.rest; fits = k.fits; printed = k.printed; places = k.places } }

  pub open_longer : (w : ℕ) (bs : List ℕ) → Left s t (longer w) bs p size rest → Opened s t (longer w) bs p size rest
  open_longer w [] k = absurd (none_is rest k.printed)
  open_longer w (b ∷ bs) k = record { b = b; bs_on = bs; byte = k.stands.byte; readable = k.stands.readable; longer = refl; on = record { stands = k.stands.rest; fits = k.fits; printed = k.printed; places = k.places } }

-- a byte that stands for itself
pub record Plain (s : RawSetting) (t : State) (b : ℕ) (bs : List ℕ) (p size : ℕ) (rest : List ℕ) : Type 0 where
  pub rest_on : List ℕ
  pub is : b ∷ rest_on ≡ rest
  pub left : Left s t outside bs p size rest_on

pub gives_plain : (s : RawSetting) (t : State) (b : ℕ) (bs : List ℕ) (p size : ℕ) (rest : List ℕ) → LeftOn s t (gives (plain b)) bs p size rest → Plain s t b bs p size rest
gives_plain s t b bs p size rest k = by (printed_from outside bs (block_in t size) t.mem) refl k.printed
  where
    by : (o : Option (List ℕ)) → printed_from outside bs (block_in t size) t.mem ≡ o → option_map (λ ns. b ∷ ns) o ≡ Some rest → Plain s t b bs p size rest
    by None e f = absurd (none_is rest f)
    by (Some ns) e f = record { rest_on = ns; is = some_is (b ∷ ns) rest f; left = record { stands = k.stands; fits = k.fits; printed = e; places = k.places } }

-- a field, with the number that stands for its argument
abbrev pub number_of : State → Form → ℕ → ℕ
number_of t f size = number_from (bytes_at (form_bytes f) (sp_of t + (size - form_bytes f)) t.mem)

abbrev pub chunk_of : State → Form → ℕ → List ℕ
chunk_of t f size = form_text f (argument f (number_of t f size) t.mem)

pub record Field (s : RawSetting) (t : State) (w : ℕ) (f : Form) (bs : List ℕ) (p size : ℕ) (rest : List ℕ) : Type 0 where
  pub enough : form_bytes f ≤ size
  pub rest_on : List ℕ
  pub is : wide w (chunk_of t f size) ++ rest_on ≡ rest
  pub left : Left s t outside bs p (size - form_bytes f) rest_on
  pub places : All (CanBeRead s t) (places_part f (number_of t f size) (places_from outside bs (block_in t (size - form_bytes f))))

part_tail : (P : ℕ → Type 0) (f : Form) (n : ℕ) (ns : List ℕ) → All P (places_part f n ns) → All P ns
part_tail P signed n ns h = h
part_tail P unsigned n ns h = h
part_tail P hexadecimal n ns h = h
part_tail P signed_long n ns h = h
part_tail P unsigned_long n ns h = h
part_tail P character n ns h = h
part_tail P string n ns h = All-tail P n ns h

module _ (s : RawSetting) (t : State) (w : ℕ) (f : Form) (bs : List ℕ) (p size : ℕ) (rest : List ℕ) (k : LeftOn s t (gives (field w f)) bs p size rest) where
  abbrev block : List ℕ
  block = block_in t size

  abbrev left : ℕ
  left = length block - form_bytes f

  has : length block ≡ size
  has = bytes_length size (sp_of t) t.mem

  module _ (enough : form_bytes f ≤ size) where
    place : left ≡ size - form_bytes f
    place = ap (λ (n : ℕ). n - form_bytes f) has

    taken : take left block ≡ block_in t (size - form_bytes f)
    taken = ap (λ (n : ℕ). take n block) place ∙ take_bytes (size - form_bytes f) size (sp_of t) t.mem (omega arith)

    argument_is : number_from (drop left block) ≡ number_of t f size
    argument_is =
        let count : size - (size - form_bytes f) ≡ form_bytes f = omega arith in
        ap number_from (ap (λ (n : ℕ). drop n block) place ∙ (drop_bytes (size - form_bytes f) size (sp_of t) t.mem (omega arith) ∙ ap (λ (n : ℕ). bytes_at n (sp_of t + (size - form_bytes f)) t.mem) count))

    all : All (CanBeRead s t) (places_part f (number_of t f size) (places_from outside bs (block_in t (size - form_bytes f))))
    all = subst (λ (n : ℕ). All (CanBeRead s t) (places_part f n (places_from outside bs (block_in t (size - form_bytes f))))) argument_is
        (subst (λ (block_on : List ℕ). All (CanBeRead s t) (places_part f (number_from (drop left block)) (places_from outside bs block_on))) taken k.places)

    field_by : (o : Option (List ℕ)) → printed_from outside bs (take left block) t.mem ≡ o → option_map (λ ns. wide w (form_text f (argument f (number_from (drop left block)) t.mem)) ++ ns) o ≡ Some rest → Field s t w f bs p size rest
    field_by None e g = absurd (none_is rest g)
    field_by (Some ns) e g =
        let fits = k.fits in
        record {
          enough = enough;
          rest_on = ns;
          is = ap (λ (n : ℕ). wide w (form_text f (argument f n t.mem)) ++ ns) (sym argument_is) ∙ some_is (wide w (form_text f (argument f (number_from (drop left block)) t.mem)) ++ ns) rest g;
          left = record { stands = k.stands; fits = omega arith; printed = ap (λ (block_on : List ℕ). printed_from outside bs block_on t.mem) (sym taken) ∙ e; places = part_tail (CanBeRead s t) f (number_of t f size) _ all };
          places = all;
        }

  lacks : (b : Bool) → nat_lt (length block) (form_bytes f) ≡ b
      → (if b then None else option_map (λ ns. wide w (form_text f (argument f (number_from (drop left block)) t.mem)) ++ ns) (printed_from outside bs (take left block) t.mem)) ≡ Some rest → Field s t w f bs p size rest
  lacks true e g = absurd (none_is rest g)
  lacks false e g =
      let enough = lt_false (length block) (form_bytes f) e in
      let same = has in
      field_by (omega arith) (printed_from outside bs (take left block) t.mem) refl g

  pub gives_field : Field s t w f bs p size rest
  gives_field = lacks (nat_lt (length block) (form_bytes f)) refl k.printed
