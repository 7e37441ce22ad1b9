-- The argument of a character or of a string: ptr2 goes down by two, and a string is measured.
use Rattle.std.proofs.Common.{◌≡◌, ◌≢◌, ℕ, zero, suc, ◌+◌, ◌-◌, ◌*◌, ◌%◌, ◌<◌, ◌≤◌, ◌⊎◌, inl, inr, Bool, true, false, List, [], ◌∷◌, All, None, length, nat_eq, refl, sym, ap, subst, ◌∙◌, arith}
use Rattle.std.specs.Prelude.{sum_by}
use Rattle.c65_mach.specs.declared.rows.Op.TheVariants.{Bcs, Beq, Bne, Dec, Inc, Inx, Iny, Lda, Ldx, Ldy, Sbc, Sec, Sta, Stx, Sty}
use Rattle.c65_mach.specs.Step.{is_not}
use Rattle.c65_code.specs.declared.line.Line.{Line}
use Rattle.c65_code.specs.declared.line.Line.TheVariants.{Label}
use Rattle.c65_code.specs.declared.routine.Routine.{Routine}
use Rattle.c65_code.specs.LineState.{Place, State, Frame, Bytes, write, word_at, zero_word, IsBytes}
use Rattle.c65_code.specs.Moves.{settle, labelled}
use Rattle.c65_code.specs.Texts.{range_of}
use Rattle.c65_code.specs.RawMachine.{RawSetting, Bounds, IsReachable}
use Rattle.c65_rtl.specs.Assembly.{ptr2, ptr4, tmp2, tmp3, implied, value, zero_page, by_y, branch}
use Rattle.c65_rtl.proofs.Ways.{moved_to}
use Rattle.c65_rtl.proofs.Rounds.{behind}
use Rattle.c65_rtl.proofs.Meeting.{lt_true, lt_false, eq_true, eq_false, not_true, not_false, write_other}
use Rattle.c65_rtl.proofs.Stores.{reach_as}
use Rattle.c65_rtl_law_walks.specs.Joined.{label_in}
use Rattle.c65_rtl_law_walks.proofs.Walks.{Takes}
use Rattle.c65_rtl_law_walks.proofs.Ranges.{all_in_range}
use Rattle.c65_va.specs.Printf.{printf_lines, jump}
use Rattle.c65_rtl_law_printf.specs.Arguments.{SameAside, TakesCharacter, IsTextOf, TakesString, MayTake, character_label, string_label, width_label, CharactersAreTaken, StringsAreTaken}
use Rattle.c65_rtl_law_printf.proofs.Stops.{leads_stop, StopsIn, stops_in}

-- these lines call no routine
abbrev takes : Routine → Takes
takes r = record { below = 0; pushed = 0; weight = 0 }

abbrev before : List ℕ
before = 23 ∷ 22 ∷ 21 ∷ 20 ∷ 19 ∷ 5 ∷ 4 ∷ 18 ∷ 17 ∷ 3 ∷ 16 ∷ 15 ∷ 14 ∷ 2 ∷ 13 ∷ 1 ∷ 12 ∷ 0 ∷ 11 ∷ []

abbrev at_character : List ℕ
at_character = 8 ∷ 7 ∷ 6 ∷ before

abbrev at_string : List ℕ
at_string = 26 ∷ 7 ∷ 24 ∷ 6 ∷ before

abbrev at_scan : List ℕ
at_scan = 27 ∷ 26 ∷ 25 ∷ 7 ∷ 24 ∷ 6 ∷ before

abbrev at_end : List ℕ
at_end = 8 ∷ 27 ∷ 26 ∷ 25 ∷ 7 ∷ 24 ∷ 6 ∷ before

abbrev To : RawSetting → Bounds → (ℕ → State → Type 0) → List ℕ → List Line → State → Type 0
To s bounds B stops lines u = leads_stop s bounds 0 takes (λ u. ⊥) B stops lines None u

abbrev lower_on : ℕ → List Line → List Line
lower_on l rest = implied Sec ∷ zero_page Lda ptr2 ∷ value Sbc 2 ∷ zero_page Sta ptr2 ∷ branch Bcs l ∷ zero_page Dec (ptr2 + 1) ∷ Label l ∷ rest

abbrev character_on : List Line → List Line
character_on rest = zero_page Lda ptr2 ∷ zero_page Sta ptr4 ∷ zero_page Lda (ptr2 + 1) ∷ zero_page Sta (ptr4 + 1) ∷ jump 8 ∷ rest

abbrev load_on : List Line → List Line
load_on rest = by_y Lda ptr2 ∷ zero_page Sta ptr4 ∷ implied Iny ∷ by_y Lda ptr2 ∷ zero_page Sta (ptr4 + 1) ∷ value Ldx 0 ∷ value Ldy 0 ∷ Label 26 ∷ rest

abbrev scan_on : List Line → List Line
scan_on rest = by_y Lda ptr4 ∷ branch Beq 27 ∷ implied Iny ∷ branch Bne 26 ∷ implied Inx ∷ zero_page Inc (ptr4 + 1) ∷ branch Bne 26 ∷ Label 27 ∷ rest

abbrev end_on : List Line → List Line
end_on rest = zero_page Sty tmp2 ∷ zero_page Stx tmp3 ∷ implied Sec ∷ zero_page Lda (ptr4 + 1) ∷ zero_page Sbc tmp3 ∷ zero_page Sta (ptr4 + 1) ∷ Label 8 ∷ rest

-- ---- ptr2 goes down

pub record Lowered (zp zp_on : Bytes) : Type 0 where
  pub low : zp_on 10 < 256
  pub high : zp_on 11 < 256
  pub word : zp_on 10 + 256 * zp_on 11 + 2 ≡ zp 10 + 256 * zp 11
  pub rest : (i : ℕ) → i ≢ 10 → i ≢ 11 → zp_on i ≡ zp i

abbrev low_on : Bytes → Bytes
low_on zp = write zp 10 ((zp 10 + 253 + 1) % 256)

abbrev both_on : Bytes → Bytes
both_on zp = write (low_on zp) 11 ((zp 11 + 255) % 256)

lowered_low : (zp : Bytes) → zp 10 < 256 → zp 11 < 256 → 255 < zp 10 + 253 + 1 → Lowered zp (low_on zp)
lowered_low zp b10 b11 more = record { low = omega arith; high = b11; word = omega arith; rest = λ i e f. write_other zp 10 _ i e }

lowered_both : (zp : Bytes) → zp 10 < 256 → zp 11 < 256 → 2 ≤ zp 10 + 256 * zp 11 → zp 10 + 253 + 1 ≤ 255 → Lowered zp (both_on zp)
lowered_both zp b10 b11 some few = record { low = omega arith; high = omega arith; word = omega arith; rest = λ i e f. write_other (low_on zp) 11 _ i f ∙ write_other zp 10 _ i e }

abbrev with_zp : State → ℕ → Bool → Bool → Bool → Bool → Bytes → State
with_zp u a n v z c zp = record u { regs = record u.regs { a = a; n = n; v = v; z = z; c = c }; zp = zp }

lower_character_at : (s : RawSetting) (bounds : Bounds) (B : ℕ → State → Type 0) (rest : List Line) (u : State) → u.zp 10 < 256 → u.zp 11 < 256 → 2 ≤ u.zp 10 + 256 * u.zp 11
    → ((a : ℕ) (n v z c : Bool) (zp : Bytes) → Lowered u.zp zp → To s bounds B (24 ∷ at_character) rest (with_zp u a n v z c zp)) → To s bounds B at_character (lower_on 24 rest) u
unfolding leads_stop
lower_character_at s bounds B rest u b10 b11 some follows = elim [
  | true ↦ λ e. follows _ _ _ _ _ (low_on u.zp) (lowered_low u.zp b10 b11 (lt_true _ _ e))
  | false ↦ λ e. follows _ _ _ _ _ (both_on u.zp) (lowered_both u.zp b10 b11 some (lt_false _ _ e))
]

lower_string_at : (s : RawSetting) (bounds : Bounds) (B : ℕ → State → Type 0) (rest : List Line) (u : State) → u.zp 10 < 256 → u.zp 11 < 256 → 2 ≤ u.zp 10 + 256 * u.zp 11
    → ((a : ℕ) (n v z c : Bool) (zp : Bytes) → Lowered u.zp zp → To s bounds B (25 ∷ at_string) rest (with_zp u a n v z c zp)) → To s bounds B at_string (lower_on 25 rest) u
unfolding leads_stop
lower_string_at s bounds B rest u b10 b11 some follows = elim [
  | true ↦ λ e. follows _ _ _ _ _ (low_on u.zp) (lowered_low u.zp b10 b11 (lt_true _ _ e))
  | false ↦ λ e. follows _ _ _ _ _ (both_on u.zp) (lowered_both u.zp b10 b11 some (lt_false _ _ e))
]

-- ---- a character

abbrev pointed : Bytes → Bytes
pointed zp = write (write zp 14 (zp 10)) 15 (zp 11)

character_at : (s : RawSetting) (bounds : Bounds) (B : ℕ → State → Type 0) (rest : List Line) (u : State) → ((n z : Bool) → B 8 (record u { regs = record u.regs { a = u.zp 11; n = n; z = z }; zp = pointed u.zp })) → To s bounds B (24 ∷ at_character) (character_on rest) u
unfolding leads_stop
character_at s bounds B rest u follows = follows _ _

kept_pointed : (zp : Bytes) (a b i : ℕ) → i ≢ 14 → i ≢ 15 → write (write zp 14 a) 15 b i ≡ zp i
kept_pointed zp a b i e f = write_other (write zp 14 a) 15 b i f ∙ write_other zp 14 a i e

-- ---- a string

abbrev first_at : State → ℕ
first_at u = (u.zp 10 + 256 * u.zp 11 + u.regs.y) % 65536

abbrev second_at : State → ℕ
second_at u = (u.zp 10 + 256 * u.zp 11 + (u.regs.y + 1) % 256) % 65536

abbrev loaded : State → Bool → Bool → State
loaded u n z = record u { regs = record u.regs { a = u.mem (second_at u); x = 0; y = 0; n = n; z = z }; zp = write (write u.zp 14 (u.mem (first_at u))) 15 (u.mem (second_at u)) }

load_at : (s : RawSetting) (bounds : Bounds) (B : ℕ → State → Type 0) (rest : List Line) (u : State) → IsReachable s.place bounds (first_at u) → IsReachable s.place bounds (second_at u)
    → ((n z : Bool) → B 26 (loaded u n z)) → To s bounds B (25 ∷ at_string) (load_on rest) u
unfolding leads_stop
load_at s bounds B rest u r0 r1 follows = (r0, (r1, follows _ _))

abbrev byte_at : State → ℕ
byte_at u = (u.zp 14 + 256 * u.zp 15 + u.regs.y) % 65536

abbrev ended_scan : State → Bool → Bool → State
ended_scan u n z = record u { regs = record u.regs { a = u.mem (byte_at u); n = n; z = z } }

abbrev next_byte : State → Bool → Bool → State
next_byte u n z = record u { regs = record u.regs { a = u.mem (byte_at u); y = (u.regs.y + 1) % 256; n = n; z = z } }

abbrev next_page : State → Bool → Bool → State
next_page u n z = record u { regs = record u.regs { a = u.mem (byte_at u); x = (u.regs.x + 1) % 256; y = (u.regs.y + 1) % 256; n = n; z = z }; zp = write u.zp 15 ((u.zp 15 + 1) % 256) }

scan_at : (s : RawSetting) (bounds : Bounds) (B : ℕ → State → Type 0) (rest : List Line) (u : State) → IsReachable s.place bounds (byte_at u)
    → ((n z : Bool) → nat_eq (u.mem (byte_at u)) 0 ≡ true → B 27 (ended_scan u n z))
    → ((n z : Bool) → nat_eq (u.mem (byte_at u)) 0 ≡ false → is_not (nat_eq ((u.regs.y + 1) % 256) 0) ≡ true → B 26 (next_byte u n z))
    → ((n z : Bool) → nat_eq (u.mem (byte_at u)) 0 ≡ false → is_not (nat_eq ((u.regs.y + 1) % 256) 0) ≡ false → is_not (nat_eq ((u.zp 15 + 1) % 256) 0) ≡ true → B 26 (next_page u n z))
    → ((n z : Bool) → nat_eq (u.mem (byte_at u)) 0 ≡ false → is_not (nat_eq ((u.regs.y + 1) % 256) 0) ≡ false → is_not (nat_eq ((u.zp 15 + 1) % 256) 0) ≡ false → B 27 (next_page u n z))
    → To s bounds B at_scan (scan_on rest) u
unfolding leads_stop
scan_at s bounds B rest u r last on page off = (
  r,
  elim [
    | true ↦ λ e. last _ _ e
    | false ↦ λ e. elim [
      | true ↦ λ f. on _ _ e f
      | false ↦ λ f. elim [ true ↦ λ g. page _ _ e f g | false ↦ λ g. off _ _ e f g ]
    ]
  ],
)

abbrev measured : State → Bytes
measured u = write (write (write u.zp 17 u.regs.y) 18 u.regs.x) 15 ((u.zp 15 + (255 - u.regs.x) + 1) % 256)

end_at : (s : RawSetting) (bounds : Bounds) (B : ℕ → State → Type 0) (rest : List Line) (u : State) → ((n v z c : Bool) → B 8 (with_zp u ((u.zp 15 + (255 - u.regs.x) + 1) % 256) n v z c (measured u))) → To s bounds B at_end (end_on rest) u
unfolding leads_stop
end_at s bounds B rest u follows = follows _ _ _ _

-- So many bytes are passed, and so many are left.
record Measuring (t : State) (place size done left : ℕ) (u : State) : Type 0 where
  pub sum : done + left ≡ size
  pub y : u.regs.y < 256
  pub passed : u.regs.y + 256 * u.regs.x ≡ done
  pub low : u.zp 14 < 256
  pub address : u.zp 14 + 256 * u.zp 15 ≡ place + 256 * u.regs.x
  pub block : u.zp 10 + 256 * u.zp 11 + 2 ≡ zero_word t 10
  pub zp : (i : ℕ) → i ≢ 10 → i ≢ 11 → i ≢ 14 → i ≢ 15 → u.zp i ≡ t.zp i
  pub same : SameAside t u

abbrev Exit : State → ℕ → ℕ → ℕ → State → Type 0
Exit t place size j u = (j ≡ 8) × TakesString place size t u

-- with the weight that is left: at the beginning, at a byte, and at the end
abbrev Going : State → ℕ → ℕ → ℕ → ℕ → State → Type 0
Going t place size l n u = ((l ≡ 7) × (40 + 10 * size ≤ n) × (u ≡ t)) ⊎ (((l ≡ 26) × (done left : ℕ) × (10 * left + 20 ≤ n) × Measuring t place size done left u) ⊎ ((l ≡ 27) × (10 ≤ n) × Measuring t place size size 0 u))

abbrev CharacterExit : State → ℕ → State → Type 0
CharacterExit t j u = (j ≡ width_label) × TakesCharacter t u

abbrev CharacterGoing : State → ℕ → ℕ → State → Type 0
CharacterGoing t l n u = (n ≡ 20) × (l ≡ character_label) × (u ≡ t)

character_go : (s : RawSetting) (bounds : Bounds) (rest : List Line) (t : State) → MayTake s bounds t → To s bounds (λ j u. CharacterExit t j u ⊎ CharacterGoing t j 0 u) at_character (lower_on 24 (character_on rest)) t
character_go s bounds rest t may =
    lower_character_at s bounds (λ j u. CharacterExit t j u ⊎ CharacterGoing t j 0 u) (character_on rest) t (may.bytes.zp 10) (may.bytes.zp 11) may.some
    (λ a n v z c zp k. character_at s bounds (λ j u. CharacterExit t j u ⊎ CharacterGoing t j 0 u) rest (with_zp t a n v z c zp)
    (λ m w. inl (
      refl,
      record {
        block = k.word;
        address = refl;
        zp = λ i ten eleven fourteen fifteen. kept_pointed zp _ _ i fourteen fifteen ∙ k.rest i ten eleven;
        same = record { mem = λ b. refl; pushed = refl; input = refl; output = refl; ended = may.running };
      },
    )))

pub characters_are_taken : CharactersAreTaken
characters_are_taken s bounds f t frame frames has frames_are may =
    let Q : Place → State → Type 0 = λ q u. (q ≡ label_in s f width_label) × (u.frames ≡ t.frames) × TakesCharacter t u in
    let used : ℕ = sum_by (λ (f : Frame). 2 + length f.pushed) t.frames in
    let hard = may.hard in
    let free : bounds.hard + 0 ≤ 253 - used = omega arith in
    moved_to s bounds Q 20 (label_in s f character_label) (f, settle printf_lines (labelled printf_lines character_label)) t t
    (ap (λ (ls : List Line). let q : Place = (f, settle ls (labelled ls character_label)) in q) has) refl
    (stops_in s bounds 0 takes Q (λ u. ⊥) f printf_lines frame frames used has free (λ u h bytes. absurd h) refl (CharacterExit t) (CharacterGoing t)
    (λ k u bytes own e. (ap (λ (j : ℕ). let q : Place = (f, settle printf_lines (labelled printf_lines j)) in q) e.0 ∙ sym (ap (λ (ls : List Line). let q : Place = (f, settle ls (labelled ls width_label)) in q) has), own.frames ∙ sym frames_are, e.1))
    (λ l n u bytes g. let all = g.0 in record {
      k = 195;
      ahead = 8 ∷ 7 ∷ [];
      less = 0;
      stands = ap (λ (j : ℕ). settle printf_lines (labelled printf_lines j)) g.1;
      fewer = omega arith;
      weighs = omega arith;
      leads = subst (λ (u : State). To s bounds (λ j u. CharacterExit t j u ⊎ CharacterGoing t j 0 u) at_character (behind 195 printf_lines) u) (sym g.2) (character_go s bounds (behind 207 printf_lines) t may);
    })
    20 character_label 20 t (omega arith) may.bytes (record { frames = frames_are; ended = may.running; used = refl }) (refl, refl, refl))

-- ---- the string's pieces joined

module _ (s : RawSetting) (bounds : Bounds) (t : State) (place size : ℕ) (text : IsTextOf t.mem place size) where
  abbrev B : ℕ → ℕ → State → Type 0
  B less j u = Exit t place size j u ⊎ Going t place size j less u

  load_go : (rest : List Line) (less : ℕ) → MayTake s bounds t → t.regs.y ≡ 0 → All (IsReachable s.place bounds) (range_of 2 (zero_word t 10 - 2)) → place ≡ word_at t.mem (zero_word t 10 - 2) → 10 * size + 20 ≤ less
      → To s bounds (B less) at_string (lower_on 25 (load_on rest)) t
  load_go rest less may y_is reach place_is enough =
      let at : ℕ = zero_word t 10 - 2 in
      let some = may.some in
      let b10 = may.bytes.zp 10 in
      let b11 = may.bytes.zp 11 in
      let e : at + 0 ≡ at = omega arith in
      let r0 : IsReachable s.place bounds at = subst (λ (b : ℕ). IsReachable s.place bounds b) e (all_in_range (IsReachable s.place bounds) 2 at reach 0 (omega arith)) in
      let r1 : IsReachable s.place bounds (at + 1) = all_in_range (IsReachable s.place bounds) 2 at reach 1 (omega arith) in
      lower_string_at s bounds (B less) (load_on rest) t b10 b11 some (λ a n v z c zp k.
      let u : State = with_zp t a n v z c zp in
      let low = k.low in
      let high = k.high in
      let word = k.word in
      let first : first_at u ≡ at = omega arith in
      let second : second_at u ≡ at + 1 = omega arith in
      let m0 : t.mem (first_at u) ≡ t.mem at = ap t.mem first in
      let m1 : t.mem (second_at u) ≡ t.mem (at + 1) = ap t.mem second in
      load_at s bounds (B less) rest u (reach_as s.place bounds (first_at u) at first r0) (reach_as s.place bounds (second_at u) (at + 1) second r1)
      (λ m w. inr (inr (inl (
        refl,
        0,
        size,
        omega arith,
        record {
          sum = (let g : 0 + size ≡ size = omega arith in g);
          y = omega arith;
          passed = refl;
          low = may.bytes.mem (first_at u);
          address = (let g : t.mem (first_at u) + 256 * t.mem (second_at u) ≡ place + 256 * 0 = omega arith in g);
          block = word;
          zp = λ i ten eleven fourteen fifteen. kept_pointed zp _ _ i fourteen fifteen ∙ k.rest i ten eleven;
          same = record { mem = λ b. refl; pushed = refl; input = refl; output = refl; ended = may.running };
        },
      )))))

  -- the byte that is looked at
  looked_at : (done left : ℕ) (u : State) → Measuring t place size done left u → byte_at u ≡ place + done
  looked_at done left u k =
      let fits = text.fits in
      let sum = k.sum in
      let passed = k.passed in
      let address = k.address in
      omega arith

  no_more : (done left : ℕ) (u : State) → Measuring t place size done left u → nat_eq (u.mem (byte_at u)) 0 ≡ true → left ≡ 0
  no_more done zero u k e = refl
  no_more done (suc left) u k e =
      let sum = k.sum in
      absurd (text.inside done (omega arith) (ap t.mem (sym (looked_at done (suc left) u k)) ∙ (sym (k.same.mem (byte_at u)) ∙ eq_true _ _ e)))

  one_more : (done left : ℕ) (u : State) → Measuring t place size done left u → nat_eq (u.mem (byte_at u)) 0 ≡ false → 1 ≤ left
  one_more done zero u k e =
      let sum = k.sum in
      let all : done ≡ size = omega arith in
      absurd (eq_false _ _ e (k.same.mem (byte_at u) ∙ (ap t.mem (looked_at done zero u k ∙ ap (λ (n : ℕ). place + n) all) ∙ text.ends)))
  one_more done (suc left) u k e = omega arith

  byte_go : (done left : ℕ) (u : State) (n z : Bool) → Measuring t place size done left u → 1 ≤ left → (u.regs.y + 1) % 256 ≢ 0 → Measuring t place size (done + 1) (left - 1) (next_byte u n z)
  byte_go done left u n z k some on =
      let y = k.y in
      let sum = k.sum in
      let passed = k.passed in
      record { sum = omega arith; y = omega arith; passed = omega arith; low = k.low; address = k.address; block = k.block; zp = k.zp; same = record { mem = k.same.mem; pushed = k.same.pushed; input = k.same.input; output = k.same.output; ended = k.same.ended } }

  page_go : (done left : ℕ) (u : State) (n z : Bool) → IsBytes u → Measuring t place size done left u → 1 ≤ left → (u.regs.y + 1) % 256 ≡ 0 → (u.zp 15 + 1) % 256 ≢ 0 → Measuring t place size (done + 1) (left - 1) (next_page u n z)
  page_go done left u n z bytes k some off on =
      let y = k.y in
      let sum = k.sum in
      let passed = k.passed in
      let address = k.address in
      let fits = text.fits in
      let b15 = bytes.zp 15 in
      record {
        sum = omega arith;
        y = omega arith;
        passed = omega arith;
        low = k.low;
        address = omega arith;
        block = k.block;
        zp = λ i ten eleven fourteen fifteen. write_other u.zp 15 _ i fifteen ∙ k.zp i ten eleven fourteen fifteen;
        same = record { mem = k.same.mem; pushed = k.same.pushed; input = k.same.input; output = k.same.output; ended = k.same.ended };
      }

  scan_go : (rest : List Line) (done left : ℕ) (u : State) → IsBytes u → All (IsReachable s.place bounds) (range_of (size + 1) place) → Measuring t place size done left u → To s bounds (B (10 * left + 10)) at_scan (scan_on rest) u
  scan_go rest done left u bytes reach k =
      let at = looked_at done left u k in
      let sum = k.sum in
      scan_at s bounds (B (10 * left + 10)) rest u (reach_as s.place bounds (byte_at u) (place + done) at (all_in_range (IsReachable s.place bounds) (size + 1) place reach done (omega arith)))
      (λ n z e. let none = no_more done left u k e in let all : done ≡ size = omega arith in
      inr (inr (inr (
        refl,
        omega arith,
        subst (λ (d : ℕ). Measuring t place size d 0 (ended_scan u n z)) all (subst (λ (l : ℕ). Measuring t place size done l (ended_scan u n z)) none
            (record { sum = k.sum; y = k.y; passed = k.passed; low = k.low; address = k.address; block = k.block; zp = k.zp; same = record { mem = k.same.mem; pushed = k.same.pushed; input = k.same.input; output = k.same.output; ended = k.same.ended } })),
      ))))
      (λ n z e on. let some = one_more done left u k e in inr (inr (inl (refl, done + 1, left - 1, omega arith, byte_go done left u n z k some (eq_false _ _ (not_true _ on))))))
      (λ n z e off on. let some = one_more done left u k e in inr (inr (inl (refl, done + 1, left - 1, omega arith, page_go done left u n z bytes k some (eq_true _ _ (not_false _ off)) (eq_false _ _ (not_true _ on))))))
      (λ n z e off end. let some = one_more done left u k e in
      let last = eq_true _ _ (not_false _ off) in
      let top = eq_true _ _ (not_false _ end) in
      let y = k.y in
      let passed = k.passed in
      let address = k.address in
      let fits = text.fits in
      let b15 = bytes.zp 15 in
      absurd (omega arith))

  end_go : (rest : List Line) (less : ℕ) (u : State) → IsBytes u → Measuring t place size size 0 u → To s bounds (B less) at_end (end_on rest) u
  end_go rest less u bytes k =
      let x = bytes.x in
      let b15 = bytes.zp 15 in
      let low = k.low in
      let address = k.address in
      end_at s bounds (B less) rest u (λ n v z c. inl (
        refl,
        record {
          block = k.block;
          address = (let g : u.zp 14 + 256 * ((u.zp 15 + (255 - u.regs.x) + 1) % 256) ≡ place = omega arith in g);
          length = k.passed;
          zp = λ i ten eleven fourteen fifteen seventeen eighteen. write_other (write (write u.zp 17 u.regs.y) 18 u.regs.x) 15 _ i fifteen ∙ (write_other (write u.zp 17 u.regs.y) 18 u.regs.x i eighteen ∙ (write_other u.zp 17 u.regs.y i seventeen ∙ k.zp i ten eleven fourteen fifteen));
          same = record { mem = k.same.mem; pushed = k.same.pushed; input = k.same.input; output = k.same.output; ended = k.same.ended };
        },
      ))

pieces : (s : RawSetting) (bounds : Bounds) (t : State) (place size : ℕ) → IsTextOf t.mem place size → MayTake s bounds t → t.regs.y ≡ 0 → All (IsReachable s.place bounds) (range_of 2 (zero_word t 10 - 2)) → place ≡ word_at t.mem (zero_word t 10 - 2)
    → All (IsReachable s.place bounds) (range_of (size + 1) place) → (l n : ℕ) (u : State) → IsBytes u → Going t place size l n u → StopsIn s bounds 0 takes (λ u. ⊥) printf_lines (Exit t place size) (Going t place size) l n u
pieces s bounds t place size text may y_is word place_is reach l n u bytes (inl g) =
    let enough = g.1 in
    record {
      k = 208;
      ahead = 26 ∷ [];
      less = 10 * size + 20;
      stands = ap (λ (j : ℕ). settle printf_lines (labelled printf_lines j)) g.0;
      fewer = omega arith;
      weighs = omega arith;
      leads = subst (λ (u : State). To s bounds (λ j u. Exit t place size j u ⊎ Going t place size j (10 * size + 20) u) at_string (behind 208 printf_lines) u) (sym g.2)
          (load_go s bounds t place size text (behind 223 printf_lines) (10 * size + 20) may y_is word place_is (omega arith));
    }
pieces s bounds t place size text may y_is word place_is reach l n u bytes (inr (inl g)) =
    let left : ℕ = g.2 in
    let enough = g.3 in
    record {
      k = 223;
      ahead = 27 ∷ [];
      less = 10 * left + 10;
      stands = ap (λ (j : ℕ). settle printf_lines (labelled printf_lines j)) g.0;
      fewer = omega arith;
      weighs = omega arith;
      leads = scan_go s bounds t place size text (behind 231 printf_lines) g.1 left u bytes reach g.4;
    }
pieces s bounds t place size text may y_is word place_is reach l n u bytes (inr (inr g)) =
    let enough = g.1 in
    record {
      k = 231;
      ahead = 8 ∷ [];
      less = 0;
      stands = ap (λ (j : ℕ). settle printf_lines (labelled printf_lines j)) g.0;
      fewer = omega arith;
      weighs = omega arith;
      leads = end_go s bounds t place size text (behind 238 printf_lines) 0 u bytes g.2;
    }

pub strings_are_taken : StringsAreTaken
strings_are_taken s bounds f size t frame frames has frames_are may y_is word text reach =
    let place : ℕ = word_at t.mem (zero_word t 10 - 2) in
    let Q : Place → State → Type 0 = λ q u. (q ≡ label_in s f width_label) × (u.frames ≡ t.frames) × TakesString place size t u in
    let used : ℕ = sum_by (λ (f : Frame). 2 + length f.pushed) t.frames in
    let hard = may.hard in
    let free : bounds.hard + 0 ≤ 253 - used = omega arith in
    moved_to s bounds Q (40 + 10 * size) (label_in s f string_label) (f, settle printf_lines (labelled printf_lines string_label)) t t
    (ap (λ (ls : List Line). let q : Place = (f, settle ls (labelled ls string_label)) in q) has) refl
    (stops_in s bounds 0 takes Q (λ u. ⊥) f printf_lines frame frames used has free (λ u h bytes. absurd h) refl (Exit t place size) (Going t place size)
    (λ k u bytes own e. (ap (λ (j : ℕ). let q : Place = (f, settle printf_lines (labelled printf_lines j)) in q) e.0 ∙ sym (ap (λ (ls : List Line). let q : Place = (f, settle ls (labelled ls width_label)) in q) has), own.frames ∙ sym frames_are, e.1))
    (pieces s bounds t place size text may y_is word refl reach) (40 + 10 * size) string_label (40 + 10 * size) t (omega arith) may.bytes (record { frames = frames_are; ended = may.running; used = refl })
    (inl (refl, (let g : 40 + 10 * size ≤ 40 + 10 * size = omega arith in g), refl)))
