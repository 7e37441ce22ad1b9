-- `strlen`
use Rattle.std.proofs.Common.{◌≡◌, ◌≢◌, ℕ, suc, ◌+◌, ◌-◌, ◌*◌, ◌%◌, ◌<◌, ◌≤◌, inl, inr, Bool, true, false, List, [], ◌∷◌, Some, None, length, refl, sym, ap, subst, ◌∙◌, arith}
use Rattle.std.proofs.lemmas.List.{append-nil}
use Rattle.std.proofs.lemmas.Bool.{cases_lt}
use Rattle.std.proofs.lemmas.Bool.Decides.{eqb_tells}
use Rattle.c65_mach.specs.declared.rows.Op.TheVariants.{Beq, Bne, Inc, Inx, Iny, Lda, Ldx, Ldy, Rts, Sta, Stx, Tya}
use Rattle.c65_code.specs.declared.routine.Routine.TheVariants.{Library}
use Rattle.c65_base.specs.declared.library.Library.TheVariants.{Strlen}
use Rattle.c65_code.specs.declared.routine.Width.TheVariants.{Ax}
use Rattle.c65_code.specs.declared.line.Line.{Line}
use Rattle.c65_code.specs.declared.line.Line.TheVariants.{Label}
use Rattle.c65_code.specs.LineState.{Place, Bytes, write, State, ax_of}
use Rattle.c65_code.specs.Placement.{Placement}
use Rattle.c65_code.specs.Moves.{settle, labelled}
use Rattle.c65_code.specs.Texts.{text_length, range_of}
use Rattle.c65_code.specs.Rows.{Row, row_by, giving, far_reading, costing, by_bytes}
use Rattle.c65_code.specs.declared.routine.Routine.{Routine}
use Rattle.c65_code.specs.RawMachine.{RawSetting, Bounds, IsReachable, RawComes, HasDone, LieLow, called, entry_of, MayRun, Runs, MeetsRow, reach_of}
use Rattle.c65_rtl.specs.Assembly.{ptr1, implied, value, zero_page, by_y, branch}
use Rattle.c65_rtl.specs.Routines.{lines_of}
use Rattle.c65_rtl.proofs.Ways.{Ends, weaken}
use Rattle.c65_rtl.proofs.Rounds.{leads_round}
use Rattle.c65_rtl.proofs.Meeting.{eq_true, eq_false, not_true, not_false, write_other, ends_by}
use Rattle.c65_rtl.proofs.Opens.{OpenBytes, opens_far}
use Rattle.c65_rtl.proofs.SpPieces.{left}
use Rattle.c65_rtl.proofs.Pushes.{meets_by, write_same}
use Rattle.c65_rtl.proofs.Stores.{reach_as}
use Rattle.c65_rtl_law_walks.proofs.Loops.{Round, runs_loops}
use Rattle.c65_rtl_law_walks.specs.Inside.{MayRunIn}
use Rattle.c65_rtl_law_walks.proofs.Ranges.{range_length, all_in_range}
use Rattle.c65_rtl_law_walks.proofs.Walks.{Takes}
use Rattle.c65_rtl_law_walks.proofs.Turning.{turn_weight, walks_turning}
use Rattle.c65_rtl_law_walks.proofs.RoundsIn.{round_in}
use Rattle.c65_rtl_law_strings.specs.Rows.{StringsAreMeasuredWithin}
use Rattle.c65_rtl_law_strings.proofs.Lengths.{IsText, text_is}

abbrev round_on : List Line → List Line
round_on rest = by_y Lda ptr1 ∷ branch Beq 3 ∷ implied Iny ∷ branch Bne 2 ∷ zero_page Inc (ptr1 + 1) ∷ implied Inx ∷ branch Bne 2 ∷ Label 3 ∷ rest

abbrev exit_lines : List Line
exit_lines = implied Tya ∷ implied Rts ∷ []

abbrev strlen_lines : List Line
strlen_lines = zero_page Sta ptr1 ∷ zero_page Stx (ptr1 + 1) ∷ value Ldx 0 ∷ value Ldy 0 ∷ Label 2 ∷ round_on exit_lines

round_at : (place : Placement) (bounds : Bounds) (P : State → Type 0) (B : ℕ → State → Type 0) (rest : List Line) (at : ℕ) (u : State)
    → (u.zp 8 + 256 * u.zp 9 + u.regs.y) % 65536 ≡ at → IsReachable place bounds at
    → ((m : ℕ) (n z : Bool) → m ≡ u.mem at → m ≡ 0 → leads_round place bounds P B (3 ∷ 2 ∷ []) rest None (record u { regs = record u.regs { a = m; n = n; z = z } }))
    → ((m : ℕ) (n z : Bool) → m ≡ u.mem at → m ≢ 0 → (u.regs.y + 1) % 256 ≢ 0 → B 2 (record u { regs = record u.regs { a = m; y = (u.regs.y + 1) % 256; n = n; z = z } }))
    → ((m : ℕ) (n z : Bool) → m ≡ u.mem at → m ≢ 0 → (u.regs.y + 1) % 256 ≡ 0 → (u.regs.x + 1) % 256 ≢ 0 → B 2 (record u { regs = record u.regs { a = m; x = (u.regs.x + 1) % 256; y = (u.regs.y + 1) % 256; n = n; z = z }; zp = write u.zp 9 ((u.zp 9 + 1) % 256) }))
    → ((m : ℕ) → m ≡ u.mem at → m ≢ 0 → (u.regs.y + 1) % 256 ≡ 0 → (u.regs.x + 1) % 256 ≡ 0 → ⊥)
    → leads_round place bounds P B (2 ∷ []) (round_on rest) None u
unfolding leads_round
round_at place bounds P B rest at u e r stop goes page over =
    let a0 : ℕ = (u.zp 8 + 256 * u.zp 9 + u.regs.y) % 65536 in (
      reach_as place bounds a0 at e r,
      elim [
        | true ↦ λ e0. stop (u.mem a0) _ _ (ap u.mem e) (eq_true _ _ e0)
        | false ↦ λ e0. elim [
          | true ↦ λ e1. goes (u.mem a0) _ _ (ap u.mem e) (eq_false _ _ e0) (eq_false _ _ (not_true _ e1))
          | false ↦ λ e1. elim [
            | true ↦ λ e2. page (u.mem a0) _ _ (ap u.mem e) (eq_false _ _ e0) (eq_true _ _ (not_false _ e1)) (eq_false _ _ (not_true _ e2))
            | false ↦ λ e2. absurd (over (u.mem a0) (ap u.mem e) (eq_false _ _ e0) (eq_true _ _ (not_false _ e1)) (eq_true _ _ (not_false _ e2)))
          ]
        ]
      ],
    )

-- the loop after so many bytes: the number in X and Y, and the pages in ptr1
pub record Counting (o : State) (i : ℕ) (u : State) : Type 0 where
  pub a : ℕ
  pub x : ℕ
  pub y : ℕ
  pub nf : Bool
  pub zf : Bool
  pub zp : Bytes
  pub is : u ≡ record o { regs = record { a = a; x = x; y = y; n = nf; v = o.regs.v; z = zf; c = o.regs.c }; zp = zp }
  pub rest : (k : ℕ) → k ≢ 9 → zp k ≡ o.zp k
  pub low : y < 256
  pub index : y + 256 * x ≡ i
  pub pages : zp 9 ≡ o.zp 9 + x

-- what is known of the text
pub record Known (place : Placement) (bounds : Bounds) (o : State) (at count : ℕ) : Type 0 where
  pub low : o.zp 8 < 256
  pub base : o.zp 8 + 256 * o.zp 9 ≡ at
  pub text : IsText o.mem at count
  pub bytes : OpenBytes place bounds (count + 1) at
  pub end : at + count < 65520

-- the state in which the loop begins
abbrev pointed : Place → State → State
pointed back t = record (called back t) { zp = write (write t.zp 8 t.regs.a) 9 t.regs.x }

exit_at : (place : Placement) (bounds : Bounds) (P : State → Type 0) (B : ℕ → State → Type 0) (passed : List ℕ) (back : Place) (t : State) (a x y : ℕ) (n v z c : Bool) (zp : Bytes)
    → ((nf zf : Bool) → P (left (called back t) y x y nf v zf c zp t.mem)) → leads_round place bounds P B passed exit_lines None (record (called back t) { regs = record { a = a; x = x; y = y; n = n; v = v; z = z; c = c }; zp = zp })
unfolding leads_round
exit_at place bounds P B passed back t a x y n v z c zp follows = follows _ _

byte_on : (o u : State) (i m : ℕ) (n z : Bool) → Counting o i u → (u.regs.y + 1) % 256 ≢ 0 → Counting o (suc i) (record u { regs = record u.regs { a = m; y = (u.regs.y + 1) % 256; n = n; z = z } })
byte_on o u i m n z c some =
    let y_is : u.regs.y ≡ c.y = ap (λ (k : State). k.regs.y) c.is in
    let low = c.low in
    let index = c.index in
    let more : (u.regs.y + 1) % 256 ≡ c.y + 1 = omega arith in
    record {
      a = m;
      x = c.x;
      y = c.y + 1;
      nf = n;
      zf = z;
      zp = c.zp;
      is = ap (λ (k : State). let r : State = record k { regs = record k.regs { a = m; y = (u.regs.y + 1) % 256; n = n; z = z } } in r) c.is
          ∙ ap (λ (k : ℕ). let r : State = record o { regs = record { a = m; x = c.x; y = k; n = n; v = o.regs.v; z = z; c = o.regs.c }; zp = c.zp } in r) more;
      rest = c.rest;
      low = omega arith;
      index = omega arith;
      pages = c.pages;
    }

page_on : (o u : State) (at count i m : ℕ) (n z : Bool) → Counting o i u → o.zp 8 + 256 * o.zp 9 ≡ at → i < count → at + count < 65520 → (u.regs.y + 1) % 256 ≡ 0
    → Counting o (suc i) (record u { regs = record u.regs { a = m; x = (u.regs.x + 1) % 256; y = (u.regs.y + 1) % 256; n = n; z = z }; zp = write u.zp 9 ((u.zp 9 + 1) % 256) })
page_on o u at count i m n z c base few end none =
    let y_is : u.regs.y ≡ c.y = ap (λ (k : State). k.regs.y) c.is in
    let x_is : u.regs.x ≡ c.x = ap (λ (k : State). k.regs.x) c.is in
    let zp_is : u.zp ≡ c.zp = ap (λ (k : State). k.zp) c.is in
    let nine_is : u.zp 9 ≡ c.zp 9 = ap (λ (k : Bytes). k 9) zp_is in
    let low = c.low in
    let index = c.index in
    let pages = c.pages in
    let last : c.y ≡ 255 = omega arith in
    let next_y : (u.regs.y + 1) % 256 ≡ 0 = none in
    let next_x : (u.regs.x + 1) % 256 ≡ c.x + 1 = omega arith in
    let next_page : (u.zp 9 + 1) % 256 ≡ o.zp 9 + (c.x + 1) = omega arith in
    record {
      a = m;
      x = c.x + 1;
      y = 0;
      nf = n;
      zf = z;
      zp = write u.zp 9 ((u.zp 9 + 1) % 256);
      is = ap (λ (k : State). let r : State = record k { regs = record k.regs { a = m; x = (u.regs.x + 1) % 256; y = (u.regs.y + 1) % 256; n = n; z = z }; zp = write u.zp 9 ((u.zp 9 + 1) % 256) } in r) c.is
          ∙ (ap (λ (k : ℕ). let r : State = record o { regs = record { a = m; x = (u.regs.x + 1) % 256; y = k; n = n; v = o.regs.v; z = z; c = o.regs.c }; zp = write u.zp 9 ((u.zp 9 + 1) % 256) } in r) next_y
          ∙ ap (λ (k : ℕ). let r : State = record o { regs = record { a = m; x = k; y = 0; n = n; v = o.regs.v; z = z; c = o.regs.c }; zp = write u.zp 9 ((u.zp 9 + 1) % 256) } in r) next_x);
      rest = λ k other. write_other u.zp 9 _ k other ∙ (ap (λ (w : Bytes). w k) zp_is ∙ c.rest k other);
      low = omega arith;
      index = omega arith;
      pages = next_page;
    }

-- what is known at the end
abbrev Counted : ℕ → Row → Place → State → Type 0
Counted count row back t = (x y : ℕ) (n v z c : Bool) (zp : Bytes) → y < 256 → y + 256 * x ≡ count → ((k : ℕ) → k ≢ 9 → zp k ≡ write (write t.zp 8 t.regs.a) 9 t.regs.x k)
    → Ends row t (left (called back t) y x y n v z c zp t.mem)

body_at : (place : Placement) (bounds : Bounds) (row : Row) (back : Place) (t : State) (at count i : ℕ) (u : State) (B : ℕ → State → Type 0) → Known place bounds (pointed back t) at count → Counted count row back t
    → i ≤ count → Counting (pointed back t) i u → ((v : State) → i < count → Counting (pointed back t) (suc i) v → B 2 v)
    → leads_round place bounds (Ends row t) B (2 ∷ []) (round_on exit_lines) None u
body_at place bounds row back t at count i u B k ends le c again =
    let o : State = pointed back t in
    let y_is : u.regs.y ≡ c.y = ap (λ (k : State). k.regs.y) c.is in
    let zp_is : u.zp ≡ c.zp = ap (λ (k : State). k.zp) c.is in
    let mem_is : u.mem ≡ t.mem = ap (λ (k : State). k.mem) c.is in
    let eight : u.zp 8 ≡ o.zp 8 = ap (λ (w : Bytes). w 8) zp_is ∙ c.rest 8 (let other : 8 ≢ 9 = omega arith in other) in
    let nine : u.zp 9 ≡ c.zp 9 = ap (λ (w : Bytes). w 9) zp_is in
    let pages = c.pages in
    let index = c.index in
    let low = c.low in
    let base = k.base in
    let end = k.end in
    let byte_is : u.mem (at + i) ≡ t.mem (at + i) = ap (λ (w : Bytes). w (at + i)) mem_is in
    let more : (m : ℕ) → m ≡ u.mem (at + i) → m ≢ 0 → i < count = λ m e some. elim (cases_lt i count) [
      | inl few ↦ few
      | inr many ↦ absurd (some (let last : i ≡ count = omega arith in e ∙ (byte_is ∙ (ap (λ (j : ℕ). t.mem (at + j)) last ∙ k.text.ends))))
    ] in
    let whole : (m : ℕ) → m ≡ u.mem (at + i) → m ≡ 0 → i ≡ count = λ m e zero_is. elim (cases_lt i count) [
      | inl few ↦ absurd (k.text.before i few (sym byte_is ∙ (sym e ∙ zero_is)))
      | inr many ↦ (let last : i ≡ count = omega arith in last)
    ] in
    round_at place bounds (Ends row t) B exit_lines (at + i) u (omega arith) (k.bytes.reach i (omega arith))
    (λ m n z e zero_is.
    let same : i ≡ count = whole m e zero_is in
    let to : State = record (called back t) { regs = record { a = m; x = c.x; y = c.y; n = n; v = t.regs.v; z = z; c = t.regs.c }; zp = c.zp } in
    let e_to : record u { regs = record u.regs { a = m; n = n; z = z } } ≡ to = ap (λ (k : State). let r : State = record k { regs = record k.regs { a = m; n = n; z = z } } in r) c.is in
    subst (λ (k : State). leads_round place bounds (Ends row t) B (3 ∷ 2 ∷ []) exit_lines None k) (sym e_to)
    (exit_at place bounds (Ends row t) B (3 ∷ 2 ∷ []) back t m c.x c.y n t.regs.v z t.regs.c c.zp (λ nf zf. ends c.x c.y nf t.regs.v zf t.regs.c c.zp low (index ∙ same) c.rest)))
    (λ m n z e some same_page. again _ (more m e some) (byte_on o u i m n z c same_page))
    (λ m n z e some new_page few_pages. again _ (more m e some) (page_on o u at count i m n z c base (more m e some) end new_page))
    (λ m e some new_page no_page.
    let few : i < count = more m e some in
    let x_is : u.regs.x ≡ c.x = ap (λ (k : State). k.regs.x) c.is in
    absurd (omega arith))

-- one byte of the text after another, with the weight that is left
abbrev Going : Place → State → ℕ → ℕ → ℕ → State → Type 0
Going back t count l n u = (l ≡ 2) × ((i : ℕ) × (i ≤ count) × (12 * (count - i) + 26 ≤ n) × Counting (pointed back t) i u)

label_at : (place : Placement) (bounds : Bounds) (P : State → Type 0) (B : ℕ → State → Type 0) (rest : List Line) (u : State) → leads_round place bounds P B (2 ∷ []) rest None u → leads_round place bounds P B [] (Label 2 ∷ rest) None u
unfolding leads_round
label_at place bounds P B rest u h = h

head_at : (place : Placement) (bounds : Bounds) (P : State → Type 0) (B : ℕ → State → Type 0) (rest : List Line) (u : State)
    → ((n z : Bool) → leads_round place bounds P B (2 ∷ []) rest None (record u { regs = record u.regs { x = 0; y = 0; n = n; z = z }; zp = write (write u.zp 8 u.regs.a) 9 u.regs.x }))
    → leads_round place bounds P B [] (zero_page Sta ptr1 ∷ zero_page Stx (ptr1 + 1) ∷ value Ldx 0 ∷ value Ldy 0 ∷ Label 2 ∷ rest) None u
unfolding leads_round
head_at place bounds P B rest u follows = follows _ _

round : (place : Placement) (bounds : Bounds) (row : Row) (back : Place) (t : State) (at count : ℕ) → Known place bounds (pointed back t) at count → Counted count row back t
    → (l n : ℕ) (u : State) → Going back t count l n u → Round place bounds (Ends row t) strlen_lines (Going back t count) l n u
round place bounds row back t at count k ends l n u g =
    let i : ℕ = g.1.0 in
    let le = g.1.1 in
    let left_over = g.1.2 in
    record {
      k = 4;
      less = 12 * (count - i) + 14;
      stands = ap (λ (j : ℕ). settle strlen_lines (labelled strlen_lines j)) g.0;
      fewer = omega arith;
      weighs = omega arith;
      leads = label_at place bounds (Ends row t) (λ j v. Going back t count j (12 * (count - i) + 14) v) (round_on exit_lines) u
          (body_at place bounds row back t at count i u (λ j v. Going back t count j (12 * (count - i) + 14) v) k ends le g.1.3
          (λ v few counting. (refl, (suc i, few, (omega arith), counting))));
    }

abbrev pub strlen_row : ℕ → State → Row
strlen_row count t = by_bytes (giving Ax count (far_reading (count + 1) (ax_of t) (costing 256 (row_by (Library Strlen) t))))

-- whatever room the row leaves below the sp
abbrev pub roomy_row : ℕ → ℕ → State → Row
roomy_row room count t = record (strlen_row count t) { room = room }

counted : (room count : ℕ) (back : Place) (t : State) → count < 65520 → t.ended ≡ None → Counted count (roomy_row room count t) back t
counted room count back t small running = λ x y n v z c zp low index rest.
    let zp_is : (i : ℕ) → 2 ≤ i → zp i ≡ write (write t.zp 8 t.regs.a) 9 (zp 9) i = λ i two. elim (eqb_tells i 9) [
      | inl same ↦ ap zp same.1 ∙ sym (write_same (write t.zp 8 t.regs.a) 9 (zp 9) i same.1)
      | inr other ↦ rest i other.1 ∙ (write_other (write t.zp 8 t.regs.a) 9 t.regs.x i other.1 ∙ sym (write_other (write t.zp 8 t.regs.a) 9 (zp 9) i other.1))
    ] in
    let zero : zp 0 ≡ t.zp 0 = rest 0 (let other : 0 ≢ 9 = omega arith in other) in
    let one : zp 1 ≡ t.zp 1 = rest 1 (let other : 1 ≢ 9 = omega arith in other) in
    ends_by (roomy_row room count t) t (left (called back t) y x y n v z c zp t.mem) ((8, t.regs.a) ∷ (9, zp 9) ∷ []) (record {
      zp = zp_is;
      fit = refl;
      small = (refl, refl, refl, refl, refl);
      low_kept = sym zero;
      high_kept = sym one;
      a_kept = tt;
      x_kept = tt;
      sp = (omega arith);
      a = (omega arith);
      x = (omega arith);
      sreg = tt;
      pointers = tt;
      bank = tt;
      mem = λ b h. refl;
      input = refl;
      output = sym (append-nil t.output);
      ended = running;
    })

begun : (back : Place) (t : State) (n z : Bool) → t.regs.a < 256 → Counting (pointed back t) 0 (record (pointed back t) { regs = record t.regs { x = 0; y = 0; n = n; z = z } })
begun back t n z low = record {
  a = t.regs.a;
  x = 0;
  y = 0;
  nf = n;
  zf = z;
  zp = write (write t.zp 8 t.regs.a) 9 t.regs.x;
  is = refl;
  rest = λ k other. refl;
  low = omega arith;
  index = refl;
  pages = (let e : t.regs.x ≡ t.regs.x + 0 = omega arith in e);
}

strlen_runs : (s : RawSetting) → s.lines (s.routine (Library Strlen)) ≡ strlen_lines → (back : Place) (t : State) (count : ℕ) → count ≡ text_length (ax_of t) t.mem → MayRun s (strlen_row count t) t → Runs s (Library Strlen) (strlen_row count t) back t
strlen_runs s has back t count is may =
    let at : ℕ = ax_of t in
    let bytes : OpenBytes s.place (reach_of t) (count + 1) at = opens_far s (strlen_row count t) (count + 1) at t refl may in
    let end : at + count < 65520 = bytes.below count (omega arith) in
    let small : text_length at t.mem < 65536 = omega arith in
    let text : IsText t.mem at count = subst (λ (n : ℕ). IsText t.mem at n) (sym is) (text_is at t.mem small) in
    let low : t.regs.a < 256 = may.bytes.a in
    let known : Known s.place (reach_of t) (pointed back t) at count = record { low = low; base = refl; text = text; bytes = bytes; end = end } in
    let ends : Counted count (strlen_row count t) back t = counted 64 count back t (omega arith) may.running in
    let many : length (range_of (count + 1) at) ≡ count + 1 = range_length (count + 1) at in
    runs_loops s (Library Strlen) (strlen_row count t) back t strlen_lines has (Going back t count)
    (round s.place (reach_of t) (strlen_row count t) back t at count known ends) (12 * count + 26) (omega arith) refl may
    (head_at s.place (reach_of t) (Ends (strlen_row count t) t) (λ j u. Going back t count j (12 * count + 26) u) (round_on exit_lines) (called back t)
    (λ n z. body_at s.place (reach_of t) (strlen_row count t) back t at count 0 (record (pointed back t) { regs = record t.regs { x = 0; y = 0; n = n; z = z } }) (λ j u. Going back t count j (12 * count + 26) u) known ends (omega arith) (begun back t n z low)
    (λ v few counting. (refl, (1, (omega arith), (omega arith), counting)))))

pub strlen : (s : RawSetting) → s.lines (s.routine (Library Strlen)) ≡ lines_of (Library Strlen) → MeetsRow s (Library Strlen)
strlen s has = meets_by s (Library Strlen) (λ t. strlen_row (text_length (ax_of t) t.mem) t) (λ t. refl) (λ back t may. strlen_runs s has back t (text_length (ax_of t) t.mem) refl may)

-- what may be reached lies below the end of the software stack
low_enough : (place : Placement) (bounds : Bounds) (b : ℕ) → LieLow place → IsReachable place bounds b → b < 65520
low_enough place bounds b low (inl data_of) = let h = low b data_of in omega arith
low_enough place bounds b low (inr within) = within.1

-- it calls nothing
abbrev nothing : Routine → Takes
nothing r = record { below = 0; pushed = 0; weight = 0 }

-- Within bounds, with whatever room its row leaves below the sp: it writes no memory.
pub strlen_comes : (s : RawSetting) → s.lines (s.routine (Library Strlen)) ≡ lines_of (Library Strlen) → (room : ℕ) (bounds : Bounds) (back : Place) (t : State) → MayRunIn s bounds 0 0 (roomy_row room (text_length (ax_of t) t.mem) t) t
    → RawComes s bounds (HasDone None (roomy_row room (text_length (ax_of t) t.mem) t) back t) (12 * text_length (ax_of t) t.mem + 44) (entry_of s (s.routine (Library Strlen))) (called back t)
strlen_comes s has room bounds back t may =
    let count : ℕ = text_length (ax_of t) t.mem in
    let at : ℕ = ax_of t in
    let row : Row = roomy_row room count t in
    let P : State → Type 0 = Ends row t in
    let opens : (k : ℕ) → k < count + 1 → IsReachable s.place bounds (at + k) = all_in_range (IsReachable s.place bounds) (count + 1) at may.far in
    let e : at + 0 ≡ at = omega arith in
    let bytes : OpenBytes s.place bounds (count + 1) at = record {
      first = λ some. subst (λ (b : ℕ). IsReachable s.place bounds b) e (opens 0 some);
      reach = opens;
      below = λ k few. low_enough s.place bounds (at + k) may.data_low (opens k few);
    } in
    let end : at + count < 65520 = bytes.below count (omega arith) in
    let small : text_length at t.mem < 65536 = omega arith in
    let text : IsText t.mem at count = text_is at t.mem small in
    let low : t.regs.a < 256 = may.bytes.a in
    let known : Known s.place bounds (pointed back t) at count = record { low = low; base = refl; text = text; bytes = bytes; end = end } in
    let ends : Counted count row back t = counted room count back t (omega arith) may.running in
    let hard = may.hard in
    let most : ℕ = 12 * count + 26 in
    weaken s bounds (HasDone None row back t) (turn_weight nothing most [] strlen_lines) (12 * count + 44) (entry_of s (s.routine (Library Strlen))) (called back t) (omega arith)
    (walks_turning s bounds 0 nothing (Library Strlen) row back t strlen_lines has (Going back t count)
    (λ l n u inner g. let i : ℕ = g.1.0 in let le = g.1.1 in let left_over = g.1.2 in let pushed : length u.pushed ≡ 0 = ap (λ (k : State). length k.pushed) g.1.3.is in let less : ℕ = 12 * (count - i) + 14 in record {
      k = 4;
      less = less;
      stands = ap (λ (j : ℕ). settle strlen_lines (labelled strlen_lines j)) g.0;
      fewer = omega arith;
      weighs = omega arith;
      leads = round_in s bounds 0 nothing P (λ j v. Going back t count j less v) (Label 2 ∷ round_on exit_lines) [] None u (omega arith)
          (label_at s.place bounds P (λ j v. Going back t count j less v) (round_on exit_lines) u
          (body_at s.place bounds row back t at count i u (λ j v. Going back t count j less v) known ends le g.1.3 (λ v few counting. (refl, (suc i, few, (omega arith), counting)))));
    })
    most hard may.bytes may.running refl
    (round_in s bounds 0 nothing P (λ j v. Going back t count j most v) strlen_lines [] None (called back t) (omega arith)
    (head_at s.place bounds P (λ j v. Going back t count j most v) (round_on exit_lines) (called back t)
    (λ n z. body_at s.place bounds row back t at count 0 (record (pointed back t) { regs = record t.regs { x = 0; y = 0; n = n; z = z } }) (λ j v. Going back t count j most v) known ends (omega arith) (begun back t n z low)
    (λ v few counting. (refl, (1, (omega arith), (omega arith), counting)))))))

some_is : {A : Type 0} (x y : A) → Some x ≡ Some y → x ≡ y
some_is x y e = cc

pub strlen_in : StringsAreMeasuredWithin
strlen_in s has bounds given back t e may =
    let count : ℕ = text_length (ax_of t) t.mem in
    let same : roomy_row 64 count t ≡ given = some_is (roomy_row 64 count t) given e in
    let many : length (range_of (count + 1) (ax_of t)) ≡ count + 1 = range_length (count + 1) (ax_of t) in
    let enough : 12 * count + 44 ≤ 12 * length (range_of (count + 1) (ax_of t)) + 32 = omega arith in
    subst (λ (w : Row). RawComes s bounds (HasDone w.ends w back t) (12 * length w.far + 32) (entry_of s (s.routine (Library Strlen))) (called back t)) same
    (weaken s bounds (HasDone None (roomy_row 64 count t) back t) (12 * count + 44) (12 * length (range_of (count + 1) (ax_of t)) + 32) (entry_of s (s.routine (Library Strlen))) (called back t) enough
    (strlen_comes s has 64 bounds back t (subst (λ (w : Row). MayRunIn s bounds 0 0 w t) (sym same) may)))
