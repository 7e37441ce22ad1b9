-- Spaces are written, each by the hook, from a place on the stack.
use Rattle.std.proofs.Common.{◌≡◌, ◌≢◌, ℕ, ◌+◌, ◌-◌, ◌*◌, ◌%◌, ◌<◌, ◌≤◌, ◌⊎◌, inl, inr, Bool, true, false, List, [], ◌∷◌, ◌++◌, None, length, nat_eq, refl, sym, ap, subst, ◌∙◌, arith}
use Rattle.std.specs.Prelude.{nat_lt, replicate}
use Rattle.std.proofs.lemmas.List.{append-nil, append_assoc, replicate-append-replicate}
use Rattle.std.proofs.lemmas.List.Elements.{All-nil, All-cons}
use Rattle.c65_mach.specs.declared.rows.Op.TheVariants.{Bcc, Bcs, Bne, Cmp, Dec, Inc, Lda, Ldx, Sta}
use Rattle.c65_mach.specs.Step.{is_not}
use Rattle.c65_code.specs.declared.line.Line.{Line}
use Rattle.c65_code.specs.declared.line.Line.TheVariants.{Label}
use Rattle.c65_code.specs.declared.routine.Count.TheVariants.{One}
use Rattle.c65_code.specs.declared.routine.Routine.{Routine}
use Rattle.c65_code.specs.declared.routine.Routine.TheVariants as routines
use Rattle.c65_code.specs.LineState.{State, Bytes, write, word_at, zero_word, sp_of, IsBytes}
use Rattle.c65_code.specs.Moves.{settle, labelled}
use Rattle.c65_code.specs.Rows.{Row}
use Rattle.c65_code.specs.RawMachine.{RawSetting, Bounds, IsReachable}
use Rattle.c65_rtl.specs.Assembly.{sp, regsave, ptr3, tmp1, tmp2, tmp3, value, zero_page, branch, call}
use Rattle.c65_rtl.proofs.Rounds.{behind}
use Rattle.c65_rtl.proofs.Meeting.{eq_true, eq_false, lt_true, lt_false, not_true, not_false, write_other}
use Rattle.c65_rtl.proofs.Pushes.{write_same}
use Rattle.c65_rtl_law_walks.specs.Joined.{label_in}
use Rattle.c65_rtl_law_walks.proofs.Walks.{Takes, Calls, Hooks}
use Rattle.c65_rtl_law_inner.proofs.Kept.{kept_from}
use Rattle.c65_rtl_law_inner.proofs.Pops.{above_or_below}
use Rattle.c65_rtl_law_inner.proofs.Pushes.{pusha_row, pushax_row, push_byte_comes, push_word_comes}
use Rattle.c65_rtl_law_inner.proofs.Moves.{raised_row, raise_one_comes}
use Rattle.c65_va.specs.Printf.{printf_lines}
use Rattle.c65_rtl_law_printf.proofs.Stops.{leads_stop, StopsIn}
use Rattle.c65_rtl_law_printf.proofs.Writing.{with_ax, with_file, with_both, Found, found, Below, below_word, all_two, all_four, told_row, told_is, write_row, kept_count}
use Rattle.c65_rtl_law_printf_fields.specs.Numbers.{AllStand, MayPush}
use Rattle.c65_rtl_law_printf_fields.specs.Spaces.{spaces_before, WritesSpaces, SpacesAreWritten}
use Rattle.c65_rtl_law_printf_fields.proofs.Leading.{Begins, pieces_lead}

abbrev takes : Routine → Takes
takes routines.PushA = record { below = 1; pushed = 0; weight = 8 }
takes routines.PushAx = record { below = 2; pushed = 1; weight = 15 }
takes (routines.IncSp One) = record { below = 0; pushed = 0; weight = 5 }
takes _ = record { below = 0; pushed = 0; weight = 0 }

abbrev before : List ℕ
before = 8 ∷ 27 ∷ 26 ∷ 25 ∷ 7 ∷ 24 ∷ 6 ∷ 23 ∷ 22 ∷ 21 ∷ 20 ∷ 19 ∷ 5 ∷ 4 ∷ 18 ∷ 17 ∷ 3 ∷ 16 ∷ 15 ∷ 14 ∷ 2 ∷ 13 ∷ 1 ∷ 12 ∷ 0 ∷ 11 ∷ []

abbrev gone : List ℕ
gone = 9 ∷ 28 ∷ before

abbrev Way : RawSetting → Bounds → ℕ → (ℕ → State → Type 0) → List ℕ → List Line → State → Type 0
Way s bounds deepest B stops lines u = leads_stop s bounds deepest takes (λ u. ⊥) B stops lines None u

abbrev place_on : List Line → List Line
place_on rest = zero_page Lda sp ∷ zero_page Sta regsave ∷ zero_page Lda (sp + 1) ∷ zero_page Sta (regsave + 1) ∷ Label 28 ∷ rest

abbrev test_on : List Line → List Line
test_on rest = zero_page Lda tmp3 ∷ branch Bne 9 ∷ zero_page Lda tmp2 ∷ zero_page Cmp tmp1 ∷ branch Bcs 9 ∷ value Lda 32 ∷ call routines.PushA ∷ rest

abbrev less_on : List Line → List Line
less_on rest = zero_page Dec tmp1 ∷ zero_page Lda tmp2 ∷ zero_page Cmp tmp1 ∷ branch Bcc 28 ∷ call (routines.IncSp One) ∷ rest

abbrev count_on : List Line → List Line
count_on rest = zero_page Inc ptr3 ∷ branch Bne 29 ∷ zero_page Inc (ptr3 + 1) ∷ Label 29 ∷ rest

abbrev hook_on : List Line → List Line
hook_on rest = value Lda 1 ∷ value Ldx 0 ∷ call routines.HookWrite ∷ rest

abbrev address_on : List Line → List Line
address_on rest = zero_page Lda regsave ∷ zero_page Ldx (regsave + 1) ∷ call routines.PushAx ∷ rest

abbrev file_on : List Line → List Line
file_on rest = value Lda 1 ∷ value Ldx 0 ∷ call routines.PushAx ∷ rest

-- ---- the pieces

abbrev looked : State → ℕ → Bool → Bool → Bool → State
looked u a n z c = record u { regs = record u.regs { a = a; n = n; z = z; c = c } }

test_at : (s : RawSetting) (bounds : Bounds) (deepest : ℕ) (B : ℕ → State → Type 0) (rest : List Line) (u : State)
    → ((n z c : Bool) → is_not (nat_eq (u.zp 18) 0) ≡ true → B 9 (looked u (u.zp 18) n z c))
    → ((n z c : Bool) → is_not (nat_eq (u.zp 18) 0) ≡ false → nat_lt (u.zp 16) (u.zp 17 + 1) ≡ true → B 9 (looked u (u.zp 17) n z c))
    → ((n z c : Bool) → is_not (nat_eq (u.zp 18) 0) ≡ false → nat_lt (u.zp 16) (u.zp 17 + 1) ≡ false → Calls s bounds deepest takes routines.PushA (leads_stop s bounds deepest takes (λ u. ⊥) B (28 ∷ 9 ∷ before) rest) (looked u 32 n z c))
    → Way s bounds deepest B (28 ∷ 9 ∷ before) (test_on rest) u
unfolding leads_stop
test_at s bounds deepest B rest u long wide short = elim [
  | true ↦ λ e. long _ _ _ e
  | false ↦ λ e. elim [ true ↦ λ f. wide _ _ _ e f | false ↦ λ f. short _ _ _ e f ]
]

abbrev placed : State → Bool → Bool → State
placed u n z = record u { regs = record u.regs { a = u.zp 1; n = n; z = z }; zp = write (write u.zp 4 (u.zp 0)) 5 (u.zp 1) }

place_at : (s : RawSetting) (bounds : Bounds) (deepest : ℕ) (B : ℕ → State → Type 0) (rest : List Line) (u : State) → ((n z : Bool) → B 28 (placed u n z)) → Way s bounds deepest B (28 ∷ 9 ∷ before) (place_on rest) u
unfolding leads_stop
place_at s bounds deepest B rest u follows = follows _ _

file_at : (s : RawSetting) (bounds : Bounds) (deepest : ℕ) (B : ℕ → State → Type 0) (rest : List Line) (u : State)
    → ((n z : Bool) → Calls s bounds deepest takes routines.PushAx (leads_stop s bounds deepest takes (λ u. ⊥) B gone rest) (with_ax u 1 0 n z)) → Way s bounds deepest B gone (file_on rest) u
unfolding leads_stop
file_at s bounds deepest B rest u follows = follows _ _

address_at : (s : RawSetting) (bounds : Bounds) (deepest : ℕ) (B : ℕ → State → Type 0) (rest : List Line) (u : State)
    → ((n z : Bool) → Calls s bounds deepest takes routines.PushAx (leads_stop s bounds deepest takes (λ u. ⊥) B gone rest) (with_ax u (u.zp 4) (u.zp 5) n z)) → Way s bounds deepest B gone (address_on rest) u
unfolding leads_stop
address_at s bounds deepest B rest u follows = follows _ _

hook_at : (s : RawSetting) (bounds : Bounds) (deepest : ℕ) (B : ℕ → State → Type 0) (rest : List Line) (u : State)
    → ((n z : Bool) → Hooks s bounds deepest (write_row (with_ax u 1 0 n z)) (leads_stop s bounds deepest takes (λ u. ⊥) B gone rest) (with_ax u 1 0 n z)) → Way s bounds deepest B gone (hook_on rest) u
unfolding leads_stop
hook_at s bounds deepest B rest u follows = follows _ _

abbrev low_on : Bytes → Bytes
low_on zp = write zp 12 ((zp 12 + 1) % 256)

abbrev both_on : Bytes → Bytes
both_on zp = write (low_on zp) 13 ((zp 13 + 1) % 256)

abbrev counted : State → Bytes → Bool → Bool → State
counted u zp n z = record u { regs = record u.regs { n = n; z = z }; zp = zp }

count_at : (s : RawSetting) (bounds : Bounds) (deepest : ℕ) (B : ℕ → State → Type 0) (rest : List Line) (u : State)
    → ((n z : Bool) → is_not (nat_eq ((u.zp 12 + 1) % 256) 0) ≡ true → Way s bounds deepest B (29 ∷ gone) rest (counted u (low_on u.zp) n z))
    → ((n z : Bool) → is_not (nat_eq ((u.zp 12 + 1) % 256) 0) ≡ false → Way s bounds deepest B (29 ∷ gone) rest (counted u (both_on u.zp) n z))
    → Way s bounds deepest B gone (count_on rest) u
unfolding leads_stop
count_at s bounds deepest B rest u low both = elim [ true ↦ λ e. low _ _ e | false ↦ λ e. both _ _ e ]

abbrev narrowed : State → Bool → Bool → Bool → State
narrowed u n z c = record u { regs = record u.regs { a = u.zp 17; n = n; z = z; c = c }; zp = write u.zp 16 ((u.zp 16 + 255) % 256) }

less_at : (s : RawSetting) (bounds : Bounds) (deepest : ℕ) (B : ℕ → State → Type 0) (rest : List Line) (u : State)
    → ((n z c : Bool) → is_not (nat_lt ((u.zp 16 + 255) % 256) (u.zp 17 + 1)) ≡ true → B 28 (narrowed u n z c))
    → ((n z c : Bool) → is_not (nat_lt ((u.zp 16 + 255) % 256) (u.zp 17 + 1)) ≡ false → Calls s bounds deepest takes (routines.IncSp One) (leads_stop s bounds deepest takes (λ u. ⊥) B (29 ∷ gone) rest) (narrowed u n z c))
    → Way s bounds deepest B (29 ∷ gone) (less_on rest) u
unfolding leads_stop
less_at s bounds deepest B rest u again last = elim [ true ↦ λ e. again _ _ _ e | false ↦ λ e. last _ _ _ e ]

end_at : (s : RawSetting) (bounds : Bounds) (deepest : ℕ) (B : ℕ → State → Type 0) (rest : List Line) (u : State) → B 9 u → Way s bounds deepest B (29 ∷ gone) (Label 9 ∷ rest) u
unfolding leads_stop
end_at s bounds deepest B rest u h = h

-- ---- states between

-- So many spaces are written, and so many are left; one stands at the sp, where regsave points.
record Spacing (t : State) (done left : ℕ) (u : State) : Type 0 where
  pub sum : done + left ≡ spaces_before t
  pub width : u.zp 16 ≡ u.zp 17 + left
  pub sp : sp_of u + 1 ≡ sp_of t
  pub space : u.mem (sp_of u) ≡ 32
  pub place : u.zp 4 + 256 * u.zp 5 ≡ sp_of u
  pub output : u.output ≡ t.output ++ replicate done 32
  pub count : u.zp 12 + 256 * u.zp 13 ≡ (zero_word t 12 + done) % 65536
  pub zp : (i : ℕ) → 2 ≤ i → i ≢ 4 → i ≢ 5 → i ≢ 12 → i ≢ 13 → i ≢ 16 → u.zp i ≡ t.zp i
  pub mem : (b : ℕ) → (b + 5 < sp_of t) ⊎ (sp_of t ≤ b) → u.mem b ≡ t.mem b
  pub pushed : u.pushed ≡ t.pushed
  pub input : u.input ≡ t.input
  pub ended : u.ended ≡ None

abbrev Exit : State → ℕ → State → Type 0
Exit t j u = (j ≡ 9) × WritesSpaces t u

abbrev Going : State → ℕ → ℕ → State → Type 0
Going t l n u = ((l ≡ 8) × (60 + 80 * spaces_before t ≤ n) × (u ≡ t)) ⊎ ((l ≡ 28) × (done left : ℕ) × (1 ≤ left) × (20 + 80 * left ≤ n) × Spacing t done left u)

-- no memory but four bytes below the sp of the round is written
five : (t u : State) (b : ℕ) → sp_of u + 1 ≡ sp_of t → (b + 5 < sp_of t) ⊎ (sp_of t ≤ b) → (b + 4 < sp_of u) ⊎ (sp_of u ≤ b)
five t u b e (inl below) = inl (omega arith)
five t u b e (inr above) = inr (omega arith)

record Counted (zp zp_on : Bytes) : Type 0 where
  pub word : zp_on 12 + 256 * zp_on 13 ≡ (zp 12 + 256 * zp 13 + 1) % 65536
  pub rest : (i : ℕ) → i ≢ 12 → i ≢ 13 → zp_on i ≡ zp i

counted_low : (zp : Bytes) → zp 12 < 256 → zp 13 < 256 → (zp 12 + 1) % 256 ≢ 0 → Counted zp (low_on zp)
counted_low zp b12 b13 on = record { word = omega arith; rest = λ i e f. write_other zp 12 _ i e }

counted_both : (zp : Bytes) → zp 12 < 256 → zp 13 < 256 → (zp 12 + 1) % 256 ≡ 0 → Counted zp (both_on zp)
counted_both zp b12 b13 off = record { word = omega arith; rest = λ i e f. kept_count zp _ _ i e f }

module _ (s : RawSetting) (bounds : Bounds) (f : ℕ) (t : State) (stand : AllStand s f) (may : MayPush s bounds t) (rest : List Line) where
  abbrev deepest : ℕ
  deepest = length t.pushed + 3

  abbrev B : ℕ → ℕ → State → Type 0
  B less j u = Exit t j u ⊎ Going t j less u

  reach : (k : ℕ) → 1 ≤ k → k ≤ 11 → (b : ℕ) → b + k ≡ sp_of t → IsReachable s.place bounds b
  reach k some few b e = let soft = may.soft in let high = may.high in inr (omega arith, omega arith)

  -- no space is due
  none_due : (less a : ℕ) (n z c : Bool) → spaces_before t ≡ 0 → B less 9 (looked t a n z c)
  none_due less a n z c none =
      let b12 = may.bytes.zp 12 in
      let b13 = may.bytes.zp 13 in
      inl (
        refl,
        record {
          output = sym (ap (λ (k : ℕ). t.output ++ replicate k 32) none ∙ append-nil t.output);
          count = omega arith;
          sp = refl;
          zp = λ i two e4 e5 e12 e13 e16. refl;
          mem = λ b h. refl;
          pushed = refl;
          input = refl;
          ended = may.running;
        },
      )

  -- the space is pushed
  begins : (less : ℕ) → 20 + 80 * spaces_before t ≤ less → Way s bounds deepest (B less) (28 ∷ 9 ∷ before) (test_on (place_on rest)) t
  begins less enough =
      let soft = may.soft in
      let high = may.high in
      let b16 = may.bytes.zp 16 in
      let b17 = may.bytes.zp 17 in
      let b12 = may.bytes.zp 12 in
      let b13 = may.bytes.zp 13 in
      test_at s bounds deepest (B less) (place_on rest) t
      (λ n z c e. let some = eq_false _ _ (not_true _ e) in none_due less (t.zp 18) n z c (omega arith))
      (λ n z c e f. let wide = lt_true _ _ f in none_due less (t.zp 17) n z c (omega arith))
      (λ n z c e g. let short = lt_false _ _ g in
      let none = eq_true _ _ (not_false _ e) in
      let o : State = looked t 32 n z c in
      let top : sp_of t - 1 + 1 ≡ sp_of t = omega arith in
      record {
        row = pusha_row o;
        comes = λ may_in from. push_byte_comes s stand.byte bounds from o may_in;
        goes_on = refl;
        ready = refl;
        near = All-cons (IsReachable s.place bounds) (sp_of t - 1) [] (reach 1 (omega arith) (omega arith) (sp_of t - 1) top) (All-nil (IsReachable s.place bounds));
        far = All-nil (IsReachable s.place bounds);
        soft = omega arith;
        hard = omega arith;
        high = high;
        data_low = may.data_low;
        follows = λ w m inner. place_at s bounds deepest (B less) rest w (λ p q.
            let kept = kept_from (pusha_row o) o w 2 m refl in
            let moved : sp_of w ≡ sp_of t - 1 = m.sp in
            let k12 = kept 12 (omega arith) in
            let k13 = kept 13 (omega arith) in
            let k16 = kept 16 (omega arith) in
            let k17 = kept 17 (omega arith) in
            inr (inr (
              refl,
              0,
              spaces_before t,
              omega arith,
              enough,
              record {
                sum = omega arith;
                width = omega arith;
                sp = omega arith;
                space = m.mem (sp_of w) (above_or_below (sp_of o) (sp_of w)) ∙ write_same t.mem (sp_of t - 1) 32 (sp_of w) moved;
                place = refl;
                output = m.output;
                count = omega arith;
                zp = λ i two e4 e5 e12 e13 e16. write_other (write w.zp 4 (w.zp 0)) 5 (w.zp 1) i e5 ∙ (write_other w.zp 4 (w.zp 0) i e4 ∙ kept i two);
                mem = λ b h. m.mem b (above_or_below (sp_of o) b) ∙ write_other t.mem (sp_of t - 1) 32 b (five_other b h);
                pushed = m.pushed;
                input = m.input;
                ended = m.ended;
              },
            )));
      })
    where
      five_other : (b : ℕ) → (b + 5 < sp_of t) ⊎ (sp_of t ≤ b) → b ≢ sp_of t - 1
      five_other b (inl below) = omega arith
      five_other b (inr above) = let soft = may.soft in omega arith

  -- ---- one round

  module _ (less done left : ℕ) (v : State) (k : Spacing t done left v) (bytes : IsBytes v) (some : 1 ≤ left) (enough : 20 + 80 * (left - 1) ≤ less) where
    abbrev low : ℕ
    low = v.zp 4

    abbrev high : ℕ
    high = v.zp 5

    near_sp : (j : ℕ) → 1 ≤ j → j ≤ 4 → (b : ℕ) → b + j ≡ sp_of v → IsReachable s.place bounds b
    near_sp j some few b e = let sp_is = k.sp in reach (j + 1) (omega arith) (omega arith) b (omega arith)

    -- the next round, or the end
    round_on : (w : State) (zp : Bytes) → Below v 0 (with_both v low high) (32 ∷ []) w → IsBytes w → (n z : Bool) → Counted w.zp zp → Way s bounds deepest (B less) (29 ∷ gone) (less_on (Label 9 ∷ rest)) (counted w zp n z)
    round_on w zp b inner n z c =
        let soft = may.soft in
        let sp_is = k.sp in
        let sp_same = b.sp in
        let there : Found v low high = found v low high (omega arith) in
        let w16 = b.zp 16 (omega arith) in
        let w17 = b.zp 17 (omega arith) in
        let w12 = b.zp 12 (omega arith) in
        let w13 = b.zp 13 (omega arith) in
        let z0 = c.rest 0 (omega arith) (omega arith) in
        let z1 = c.rest 1 (omega arith) (omega arith) in
        let z16 = c.rest 16 (omega arith) (omega arith) in
        let z17 = c.rest 17 (omega arith) (omega arith) in
        let width = k.width in
        let b16 = bytes.zp 16 in
        let sum = k.sum in
        let told = k.count in
        let word = c.word in
        let output : w.output ≡ t.output ++ replicate (done + 1) 32 = b.output ∙ (ap (λ (ns : List ℕ). ns ++ 32 ∷ []) k.output ∙ (append_assoc t.output (replicate done 32) (32 ∷ []) ∙ ap (λ (ns : List ℕ). t.output ++ ns) (replicate-append-replicate done 1 32))) in
        let kept : (i : ℕ) → 2 ≤ i → i ≢ 4 → i ≢ 5 → i ≢ 12 → i ≢ 13 → i ≢ 16 → write zp 16 ((zp 16 + 255) % 256) i ≡ t.zp i = λ i two e4 e5 e12 e13 e16. write_other zp 16 ((zp 16 + 255) % 256) i e16 ∙ (c.rest i e12 e13 ∙ (b.zp i two ∙ k.zp i two e4 e5 e12 e13 e16)) in
        let mem : (a : ℕ) → (a + 5 < sp_of t) ⊎ (sp_of t ≤ a) → w.mem a ≡ t.mem a = λ a h. b.mem a ∙ (there.other a (five t v a sp_is h) ∙ k.mem a h) in
        let count : zp 12 + 256 * zp 13 ≡ (zero_word t 12 + (done + 1)) % 65536 = omega arith in
        less_at s bounds deepest (B less) (Label 9 ∷ rest) (counted w zp n z)
        (λ p q r e. let more = lt_false _ _ (not_true _ e) in
        inr (inr (
          refl,
          done + 1,
          left - 1,
          omega arith,
          enough,
          record {
            sum = omega arith;
            width = (let g : (zp 16 + 255) % 256 ≡ zp 17 + (left - 1) = omega arith in g);
            sp = omega arith;
            space = space_kept w zp b c;
            place = place_kept w zp b c;
            output = output;
            count = count;
            zp = kept;
            mem = mem;
            pushed = b.pushed ∙ k.pushed;
            input = b.input ∙ k.input;
            ended = b.ended;
          },
        )))
        (λ p q r e. let over = lt_true _ _ (not_false _ e) in
        let last : done + 1 ≡ spaces_before t = omega arith in
        let o : State = narrowed (counted w zp n z) p q r in
        let top = may.high in
        let pushed = ap (λ (ps : List ℕ). length ps) (b.pushed ∙ k.pushed) in
        record {
          row = raised_row One o;
          comes = λ may_in from. raise_one_comes s stand.raise bounds from o may_in;
          goes_on = refl;
          ready = refl;
          near = All-nil (IsReachable s.place bounds);
          far = All-nil (IsReachable s.place bounds);
          soft = omega arith;
          hard = omega arith;
          high = omega arith;
          data_low = may.data_low;
          follows = λ x m inner. end_at s bounds deepest (B less) rest x (inl (
            refl,
            (let after = kept_from (raised_row One o) o x 2 m refl in
                let a12 = after 12 (omega arith) in
                let a13 = after 13 (omega arith) in
                let moved : sp_of x ≡ sp_of o + 1 = m.sp in
                record {
                  output = m.output ∙ (append-nil w.output ∙ (output ∙ ap (λ (j : ℕ). t.output ++ replicate j 32) last));
                  count = (let g : x.zp 12 + 256 * x.zp 13 ≡ (zero_word t 12 + spaces_before t) % 65536 = omega arith in g);
                  sp = omega arith;
                  zp = λ i two e4 e5 e12 e13 e16. after i two ∙ kept i two e4 e5 e12 e13 e16;
                  mem = λ a h. m.mem a (above_or_below (sp_of o) a) ∙ mem a h;
                  pushed = m.pushed ∙ (b.pushed ∙ k.pushed);
                  input = m.input ∙ (b.input ∙ k.input);
                  ended = m.ended;
                }),
          ));
        })
      where
        space_kept : (w : State) (zp : Bytes) → Below v 0 (with_both v low high) (32 ∷ []) w → Counted w.zp zp → w.mem (zp 0 + 256 * zp 1) ≡ 32
        space_kept w zp b c =
            let soft = may.soft in
            let sp_is = k.sp in
            let sp_same = b.sp in
            let there : Found v low high = found v low high (omega arith) in
            let z0 = c.rest 0 (omega arith) (omega arith) in
            let z1 = c.rest 1 (omega arith) (omega arith) in
            let at : zp 0 + 256 * zp 1 ≡ sp_of v = omega arith in
            b.mem (zp 0 + 256 * zp 1) ∙ (ap (with_both v low high) at ∙ (there.other (sp_of v) (inr (omega arith)) ∙ k.space))

        place_kept : (w : State) (zp : Bytes) → Below v 0 (with_both v low high) (32 ∷ []) w → Counted w.zp zp → zp 4 + 256 * zp 5 ≡ zp 0 + 256 * zp 1
        place_kept w zp b c =
            let sp_same = b.sp in
            let z0 = c.rest 0 (omega arith) (omega arith) in
            let z1 = c.rest 1 (omega arith) (omega arith) in
            let z4 = c.rest 4 (omega arith) (omega arith) in
            let z5 = c.rest 5 (omega arith) (omega arith) in
            let w4 = b.zp 4 (omega arith) in
            let w5 = b.zp 5 (omega arith) in
            let place = k.place in
            omega arith

    count_go : (w : State) → Below v 0 (with_both v low high) (32 ∷ []) w → IsBytes w → Way s bounds deepest (B less) gone (count_on (less_on (Label 9 ∷ rest))) w
    count_go w b inner =
        count_at s bounds deepest (B less) (less_on (Label 9 ∷ rest)) w
        (λ n z e. round_on w (low_on w.zp) b inner n z (counted_low w.zp (inner.zp 12) (inner.zp 13) (eq_false _ _ (not_true _ e))))
        (λ n z e. round_on w (both_on w.zp) b inner n z (counted_both w.zp (inner.zp 12) (inner.zp 13) (eq_true _ _ (not_false _ e))))

    -- the hook
    hook_go : (u : State) → Below v 4 (with_both v low high) [] u → Way s bounds deepest (B less) gone (hook_on (count_on (less_on (Label 9 ∷ rest)))) u
    hook_go u b =
        let soft = may.soft in
        let sp_is = k.sp in
        let deep = b.sp in
        let there : Found v low high = found v low high (omega arith) in
        let pushed = ap (λ (ps : List ℕ). length ps) (b.pushed ∙ k.pushed) in
        let at4 : sp_of u ≡ sp_of v - 4 = omega arith in
        let at3 : sp_of u + 1 ≡ sp_of v - 4 + 1 = omega arith in
        let at2 : sp_of u + 2 ≡ sp_of v - 2 = omega arith in
        let at1 : sp_of u + 2 + 1 ≡ sp_of v - 2 + 1 = omega arith in
        let m4 : u.mem (sp_of u) ≡ low = b.mem (sp_of u) ∙ (ap (with_both v low high) at4 ∙ there.low_is) in
        let m3 : u.mem (sp_of u + 1) ≡ high = b.mem (sp_of u + 1) ∙ (ap (with_both v low high) at3 ∙ there.high_is) in
        let m2 : u.mem (sp_of u + 2) ≡ 1 = b.mem (sp_of u + 2) ∙ (ap (with_both v low high) at2 ∙ there.file_is) in
        let m1 : u.mem (sp_of u + 2 + 1) ≡ 0 = b.mem (sp_of u + 2 + 1) ∙ (ap (with_both v low high) at1 ∙ there.none_is) in
        let file : word_at u.mem (sp_of u + 2) ≡ 1 = omega arith in
        let place_is = k.place in
        let place : word_at u.mem (sp_of u) ≡ sp_of v = omega arith in
        let space : u.mem (word_at u.mem (sp_of u)) ≡ 32 = ap u.mem place ∙ (b.mem (sp_of v) ∙ (there.other (sp_of v) (inr (omega arith)) ∙ k.space)) in
        hook_at s bounds deepest (B less) (count_on (less_on (Label 9 ∷ rest))) u (λ n z.
        let o : State = with_ax u 1 0 n z in
        subst (λ (row : Row). Hooks s bounds deepest row (leads_stop s bounds deepest takes (λ u. ⊥) (B less) gone (count_on (less_on (Label 9 ∷ rest)))) o) (sym (told_is o file)) (record {
          goes_on = refl;
          near = all_four (IsReachable s.place bounds) (sp_of u) (sp_of u + 1) (sp_of u + 1 + 1) (sp_of u + 1 + 1 + 1) (near_sp 4 (omega arith) (omega arith) (sp_of u) (omega arith)) (near_sp 3 (omega arith) (omega arith) (sp_of u + 1) (omega arith))
              (near_sp 2 (omega arith) (omega arith) (sp_of u + 1 + 1) (omega arith)) (near_sp 1 (omega arith) (omega arith) (sp_of u + 1 + 1 + 1) (omega arith));
          far = All-cons (IsReachable s.place bounds) (word_at u.mem (sp_of u)) [] (reach 1 (omega arith) (omega arith) (word_at u.mem (sp_of u)) (omega arith)) (All-nil (IsReachable s.place bounds));
          hard = omega arith;
          follows = λ w m inner. let moved : sp_of w ≡ sp_of u + 4 = m.sp in count_go w (record {
            sp = omega arith;
            mem = λ a. m.mem a (above_or_below (sp_of u) a) ∙ b.mem a;
            zp = λ i two. kept_from (told_row o) o w 2 m refl i two ∙ b.zp i two;
            pushed = m.pushed ∙ b.pushed;
            input = m.input ∙ b.input;
            output = m.output ∙ (ap (λ (bs : List ℕ). bs ++ u.mem (word_at u.mem (sp_of u)) ∷ []) (b.output ∙ append-nil v.output) ∙ ap (λ (byte : ℕ). v.output ++ byte ∷ []) space);
            ended = m.ended;
          }) inner;
        }))

    -- a word is pushed
    word_go : (depth : ℕ) (memory : Bytes) (lines : List Line) (u : State) → depth + 2 ≤ 4 → Below v depth memory [] u
        → ((w : State) → Below v (depth + 2) (write (write memory (sp_of v - (depth + 2)) u.regs.a) (sp_of v - (depth + 2) + 1) u.regs.x) [] w → Way s bounds deepest (B less) gone lines w)
        → Calls s bounds deepest takes routines.PushAx (leads_stop s bounds deepest takes (λ u. ⊥) (B less) gone lines) u
    word_go depth memory lines u few b follows =
        let sp_is = k.sp in
        let deep = b.sp in
        let soft = may.soft in
        let top = may.high in
        let pushed = ap (λ (ps : List ℕ). length ps) (b.pushed ∙ k.pushed) in
        record {
          row = pushax_row u;
          comes = λ may_in from. push_word_comes s stand.stand.push bounds from u may_in;
          goes_on = refl;
          ready = refl;
          near = all_two (IsReachable s.place bounds) (sp_of u - 2) (sp_of u - 2 + 1) (near_sp (depth + 2) (omega arith) (omega arith) (sp_of u - 2) (omega arith)) (near_sp (depth + 1) (omega arith) (omega arith) (sp_of u - 2 + 1) (omega arith));
          far = All-nil (IsReachable s.place bounds);
          soft = omega arith;
          hard = omega arith;
          high = omega arith;
          data_low = may.data_low;
          follows = λ w m inner. follows w (below_word v depth memory u w (omega arith) b m);
        }

    goes : Way s bounds deepest (B less) gone (file_on (address_on (hook_on (count_on (less_on (Label 9 ∷ rest)))))) v
    goes =
        let e0 : sp_of v + 0 ≡ sp_of v = omega arith in
        file_at s bounds deepest (B less) (address_on (hook_on (count_on (less_on (Label 9 ∷ rest))))) v (λ n z.
        word_go 0 v.mem (address_on (hook_on (count_on (less_on (Label 9 ∷ rest))))) (with_ax v 1 0 n z) (omega arith)
        (record { sp = e0; mem = λ b. refl; zp = λ i two. refl; pushed = refl; input = refl; output = sym (append-nil v.output); ended = k.ended })
        (λ u b. address_at s bounds deepest (B less) (hook_on (count_on (less_on (Label 9 ∷ rest)))) u (λ m w.
        word_go 2 (with_file v) (hook_on (count_on (less_on (Label 9 ∷ rest)))) (with_ax u (u.zp 4) (u.zp 5) m w) (omega arith)
        (record { sp = b.sp; mem = b.mem; zp = b.zp; pushed = b.pushed; input = b.input; output = b.output; ended = b.ended })
        (λ q r. hook_go q (subst (λ (h : ℕ). Below v 4 (with_both v low h) [] q) (b.zp 5 (omega arith)) (subst (λ (l : ℕ). Below v 4 (with_both v l (u.zp 5)) [] q) (b.zp 4 (omega arith)) r))))))

pieces : (s : RawSetting) (bounds : Bounds) (f : ℕ) (t : State) → AllStand s f → MayPush s bounds t → (l n : ℕ) (u : State) → IsBytes u → Going t l n u → StopsIn s bounds (length t.pushed + 3) takes (λ u. ⊥) printf_lines (Exit t) (Going t) l n u
pieces s bounds f t stand may l n u bytes (inl g) =
    let enough = g.1 in
    record {
      k = 238;
      ahead = 28 ∷ 9 ∷ [];
      less = 20 + 80 * spaces_before t;
      stands = ap (λ (j : ℕ). settle printf_lines (labelled printf_lines j)) g.0;
      fewer = omega arith;
      weighs = omega arith;
      leads = subst (λ (u : State). Way s bounds (length t.pushed + 3) (λ j u. Exit t j u ⊎ Going t j (20 + 80 * spaces_before t) u) (28 ∷ 9 ∷ before) (behind 238 printf_lines) u) (sym g.2)
          (begins s bounds f t stand may (behind 250 printf_lines) (20 + 80 * spaces_before t) (omega arith));
    }
pieces s bounds f t stand may l n u bytes (inr g) =
    let done : ℕ = g.1 in
    let left : ℕ = g.2 in
    let some = g.3 in
    let enough = g.4 in
    record {
      k = 250;
      ahead = 9 ∷ [];
      less = 20 + 80 * (left - 1);
      stands = ap (λ (j : ℕ). settle printf_lines (labelled printf_lines j)) g.0;
      fewer = omega arith;
      weighs = omega arith;
      leads = goes s bounds f t stand may (behind 269 printf_lines) (20 + 80 * (left - 1)) done left u g.5 bytes some (omega arith);
    }

pub spaces_are_written : SpacesAreWritten
spaces_are_written s bounds f t frame frames stand frames_are may =
    let hard = may.hard in
    let begins : Begins s bounds f (length t.pushed + 3) t frame frames = record { has = stand.stand.printf; frames_are = frames_are; bytes = may.bytes; running = may.running; free = omega arith } in
    pieces_lead s bounds f (length t.pushed + 3) takes t frame frames begins (λ q u. (q ≡ label_in s f 9) × (u.frames ≡ t.frames) × WritesSpaces t u) (Exit t) (Going t)
    (λ j u bytes same e. (ap (label_in s f) e.0, same, e.1)) (pieces s bounds f t stand may) 8 (60 + 80 * spaces_before t) (inl (refl, (let g : 60 + 80 * spaces_before t ≤ 60 + 80 * spaces_before t = omega arith in g), refl))
