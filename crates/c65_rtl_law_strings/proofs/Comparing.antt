-- The comparison of two texts: one loop with two ways back, for any lines behind it.
use Rattle.std.proofs.Common.{◌≡◌, ◌≢◌, ℕ, suc, ◌+◌, ◌-◌, ◌*◌, ◌%◌, ◌<◌, ◌≤◌, inl, inr, Bool, true, false, List, [], ◌∷◌, None, refl, sym, ap, subst, ◌∙◌, arith}
use Rattle.std.proofs.lemmas.Bool.{cases_lt}
use Rattle.c65_mach.specs.declared.rows.Op.TheVariants.{Beq, Bne, Cmp, Inc, Iny, Lda}
use Rattle.c65_code.specs.declared.line.Line.{Line}
use Rattle.c65_code.specs.declared.line.Line.TheVariants.{Label}
use Rattle.c65_code.specs.LineState.{Bytes, write, State}
use Rattle.c65_code.specs.Placement.{Placement}
use Rattle.c65_code.specs.Moves.{settle, labelled}
use Rattle.c65_code.specs.RawMachine.{Bounds, IsReachable}
use Rattle.c65_rtl.specs.Assembly.{ptr1, ptr2, implied, zero_page, by_y, branch}
use Rattle.c65_rtl.proofs.Rounds.{leads_round, round_weight}
use Rattle.c65_rtl.proofs.Meeting.{eq_true, eq_false, not_true, not_false, write_other}
use Rattle.c65_rtl.proofs.Opens.{OpenBytes}
use Rattle.c65_rtl.proofs.Stores.{reach_as}
use Rattle.c65_rtl_law_walks.proofs.Loops.{Round}
use Rattle.c65_rtl_law_strings.proofs.Common.{AreCommon}

abbrev loop_on : List Line → List Line
loop_on rest = by_y Lda ptr1 ∷ branch Beq 3 ∷ by_y Cmp ptr2 ∷ branch Bne 3 ∷ implied Iny ∷ branch Bne 2 ∷ zero_page Inc (ptr1 + 1) ∷ zero_page Inc (ptr2 + 1) ∷ branch Bne 2 ∷ Label 3 ∷ rest

abbrev pub compare_on : List Line → List Line
compare_on rest = Label 2 ∷ loop_on rest

abbrev pub first_of : State → ℕ
first_of u = (u.zp 8 + 256 * u.zp 9 + u.regs.y) % 65536

abbrev pub second_of : State → ℕ
second_of u = (u.zp 10 + 256 * u.zp 11 + u.regs.y) % 65536

abbrev apart_of : State → ℕ
apart_of u = (u.mem (first_of u) + 256 - u.mem (second_of u)) % 256

-- the byte of the first is in A
abbrev looked : State → Bool → Bool → Bool → State
looked u n z c = record u { regs = record u.regs { a = u.mem (first_of u); n = n; z = z; c = c } }

abbrev byte_on : State → Bool → Bool → Bool → State
byte_on u n z c = record u { regs = record u.regs { a = u.mem (first_of u); y = (u.regs.y + 1) % 256; n = n; z = z; c = c } }

abbrev page_on : State → Bool → Bool → Bool → State
page_on u n z c = record (byte_on u n z c) { zp = write (write u.zp 9 ((u.zp 9 + 1) % 256)) 11 ((u.zp 11 + 1) % 256) }

loop_at : (place : Placement) (bounds : Bounds) (P : State → Type 0) (B : ℕ → State → Type 0) (rest : List Line) (first second : ℕ) (u : State)
    → first_of u ≡ first → second_of u ≡ second → IsReachable place bounds first → IsReachable place bounds second
    → ((n z c : Bool) → u.mem (first_of u) ≡ 0 → leads_round place bounds P B (3 ∷ 2 ∷ []) rest None (looked u n z c))
    → ((n z c : Bool) → apart_of u ≢ 0 → leads_round place bounds P B (3 ∷ 2 ∷ []) rest None (looked u n z c))
    → ((n z c : Bool) → u.mem (first_of u) ≢ 0 → apart_of u ≡ 0 → (u.regs.y + 1) % 256 ≢ 0 → B 2 (byte_on u n z c))
    → ((n z c : Bool) → u.mem (first_of u) ≢ 0 → apart_of u ≡ 0 → (u.regs.y + 1) % 256 ≡ 0 → B 2 (page_on u n z c))
    → (u.mem (first_of u) ≢ 0 → apart_of u ≡ 0 → (u.regs.y + 1) % 256 ≡ 0 → (u.zp 11 + 1) % 256 ≡ 0 → ⊥)
    → leads_round place bounds P B (2 ∷ []) (loop_on rest) None u
unfolding leads_round
loop_at place bounds P B rest first second u e f r w none unlike goes page over = (
  reach_as place bounds (first_of u) first e r,
  elim [
    | true ↦ λ e0. none _ _ _ (eq_true _ _ e0)
    | false ↦ λ e0. (
      reach_as place bounds (second_of u) second f w,
      elim [
        | true ↦ λ e1. unlike _ _ _ (eq_false _ _ (not_true _ e1))
        | false ↦ λ e1. elim [
          | true ↦ λ e2. goes _ _ _ (eq_false _ _ e0) (eq_true _ _ (not_false _ e1)) (eq_false _ _ (not_true _ e2))
          | false ↦ λ e2. elim [
            | true ↦ λ e3. page _ _ _ (eq_false _ _ e0) (eq_true _ _ (not_false _ e1)) (eq_true _ _ (not_false _ e2))
            | false ↦ λ e3. absurd (over (eq_false _ _ e0) (eq_true _ _ (not_false _ e1)) (eq_true _ _ (not_false _ e2)) (eq_true _ _ (not_false _ e3)))
          ]
        ]
      ],
    )
  ],
)

-- what is compared: a state before it, where the texts begin, how many bytes they have in common
pub record Job : Type 0 where
  pub o : State
  pub first : ℕ
  pub second : ℕ
  pub count : ℕ

pub record IsJob (place : Placement) (bounds : Bounds) (j : Job) : Type 0 where
  pub common : AreCommon j.o.mem j.first j.second j.count
  pub first_bytes : OpenBytes place bounds (j.count + 1) j.first
  pub second_bytes : OpenBytes place bounds (j.count + 1) j.second
  pub bytes : (b : ℕ) → j.o.mem b < 256

-- so many bytes were alike
pub record Comparing (j : Job) (i : ℕ) (u : State) : Type 0 where
  pub a : ℕ
  pub y : ℕ
  pub nf : Bool
  pub zf : Bool
  pub cf : Bool
  pub zp : Bytes
  pub is : u ≡ record j.o { regs = record { a = a; x = j.o.regs.x; y = y; n = nf; v = j.o.regs.v; z = zf; c = cf }; zp = zp }
  pub rest : (k : ℕ) → k ≢ 9 → k ≢ 11 → zp k ≡ j.o.zp k
  pub low : y < 256
  pub first_is : zp 8 + 256 * zp 9 + y ≡ j.first + i
  pub second_is : zp 10 + 256 * zp 11 + y ≡ j.second + i

-- what a state of the loop is known by
pub record Facts (j : Job) (i : ℕ) (u : State) : Type 0 where
  pub first_at : first_of u ≡ j.first + i
  pub second_at : second_of u ≡ j.second + i
  pub first_byte : u.mem (first_of u) ≡ j.o.mem (j.first + i)
  pub second_byte : u.mem (second_of u) ≡ j.o.mem (j.second + i)

pub facts : (place : Placement) (bounds : Bounds) (j : Job) (i : ℕ) (u : State) → IsJob place bounds j → i ≤ j.count → Comparing j i u → Facts j i u
facts place bounds j i u job le c =
    let y_is : u.regs.y ≡ c.y = ap (λ (k : State). k.regs.y) c.is in
    let zp_is : u.zp ≡ c.zp = ap (λ (k : State). k.zp) c.is in
    let mem_is : u.mem ≡ j.o.mem = ap (λ (k : State). k.mem) c.is in
    let z8 : u.zp 8 ≡ c.zp 8 = ap (λ (w : Bytes). w 8) zp_is in
    let z9 : u.zp 9 ≡ c.zp 9 = ap (λ (w : Bytes). w 9) zp_is in
    let z10 : u.zp 10 ≡ c.zp 10 = ap (λ (w : Bytes). w 10) zp_is in
    let z11 : u.zp 11 ≡ c.zp 11 = ap (λ (w : Bytes). w 11) zp_is in
    let f = c.first_is in
    let s = c.second_is in
    let few : i < j.count + 1 = omega arith in
    let first_low = job.first_bytes.below i few in
    let second_low = job.second_bytes.below i few in
    let first_at : first_of u ≡ j.first + i = omega arith in
    let second_at : second_of u ≡ j.second + i = omega arith in
    record {
      first_at = first_at;
      second_at = second_at;
      first_byte = ap (λ (w : Bytes). w (first_of u)) mem_is ∙ ap j.o.mem first_at;
      second_byte = ap (λ (w : Bytes). w (second_of u)) mem_is ∙ ap j.o.mem second_at;
    }

byte_done : (j : Job) (i : ℕ) (u : State) (n z f : Bool) → Comparing j i u → (u.regs.y + 1) % 256 ≢ 0 → Comparing j (suc i) (byte_on u n z f)
byte_done j i u n z f c same_page =
    let y_is : u.regs.y ≡ c.y = ap (λ (k : State). k.regs.y) c.is in
    let low = c.low in
    let first = c.first_is in
    let second = c.second_is in
    let more : (u.regs.y + 1) % 256 ≡ c.y + 1 = omega arith in
    let A : ℕ = u.mem (first_of u) in
    record {
      a = A;
      y = c.y + 1;
      nf = n;
      zf = z;
      cf = f;
      zp = c.zp;
      is = ap (λ (k : State). let r : State = record k { regs = record k.regs { a = A; y = (u.regs.y + 1) % 256; n = n; z = z; c = f } } in r) c.is
          ∙ ap (λ (k : ℕ). let r : State = record j.o { regs = record { a = A; x = j.o.regs.x; y = k; n = n; v = j.o.regs.v; z = z; c = f }; zp = c.zp } in r) more;
      rest = c.rest;
      low = omega arith;
      first_is = omega arith;
      second_is = omega arith;
    }

page_done : (place : Placement) (bounds : Bounds) (j : Job) (i : ℕ) (u : State) (n z f : Bool) → IsJob place bounds j → i < j.count → Comparing j i u → (u.regs.y + 1) % 256 ≡ 0 → Comparing j (suc i) (page_on u n z f)
page_done place bounds j i u n z f job less c new_page =
    let y_is : u.regs.y ≡ c.y = ap (λ (k : State). k.regs.y) c.is in
    let zp_is : u.zp ≡ c.zp = ap (λ (k : State). k.zp) c.is in
    let z9 : u.zp 9 ≡ c.zp 9 = ap (λ (w : Bytes). w 9) zp_is in
    let z11 : u.zp 11 ≡ c.zp 11 = ap (λ (w : Bytes). w 11) zp_is in
    let z8 : u.zp 8 ≡ c.zp 8 = ap (λ (w : Bytes). w 8) zp_is in
    let z10 : u.zp 10 ≡ c.zp 10 = ap (λ (w : Bytes). w 10) zp_is in
    let low = c.low in
    let first = c.first_is in
    let second = c.second_is in
    let few : i < j.count + 1 = omega arith in
    let first_low = job.first_bytes.below i few in
    let second_low = job.second_bytes.below i few in
    let last : c.y ≡ 255 = omega arith in
    let p9 : (u.zp 9 + 1) % 256 ≡ c.zp 9 + 1 = omega arith in
    let p11 : (u.zp 11 + 1) % 256 ≡ c.zp 11 + 1 = omega arith in
    let A : ℕ = u.mem (first_of u) in
    let Z : Bytes = write (write u.zp 9 ((u.zp 9 + 1) % 256)) 11 ((u.zp 11 + 1) % 256) in
    record {
      a = A;
      y = 0;
      nf = n;
      zf = z;
      cf = f;
      zp = Z;
      is = ap (λ (k : State). let r : State = record k { regs = record k.regs { a = A; y = (u.regs.y + 1) % 256; n = n; z = z; c = f }; zp = Z } in r) c.is
          ∙ ap (λ (k : ℕ). let r : State = record j.o { regs = record { a = A; x = j.o.regs.x; y = k; n = n; v = j.o.regs.v; z = z; c = f }; zp = Z } in r) new_page;
      rest = λ k nine eleven. write_other (write u.zp 9 ((u.zp 9 + 1) % 256)) 11 _ k eleven ∙ (write_other u.zp 9 _ k nine ∙ (ap (λ (w : Bytes). w k) zp_is ∙ c.rest k nine eleven));
      low = omega arith;
      first_is = omega arith;
      second_is = omega arith;
    }

looked_on : (j : Job) (i : ℕ) (u : State) (n z f : Bool) → Comparing j i u → Comparing j i (looked u n z f)
looked_on j i u n z f c = record {
  a = u.mem (first_of u);
  y = c.y;
  nf = n;
  zf = z;
  cf = f;
  zp = c.zp;
  is = ap (λ (k : State). let r : State = record k { regs = record k.regs { a = u.mem (first_of u); n = n; z = z; c = f } } in r) c.is;
  rest = c.rest;
  low = c.low;
  first_is = c.first_is;
  second_is = c.second_is;
}

abbrev pub Finish : Placement → Bounds → (State → Type 0) → List Line → Job → Type 1
Finish place bounds P rest j = (B : ℕ → State → Type 0) (u : State) → Comparing j j.count u → leads_round place bounds P B (3 ∷ 2 ∷ []) rest None u

loop_go : (place : Placement) (bounds : Bounds) (P : State → Type 0) (rest : List Line) (j : Job) (B : ℕ → State → Type 0) (i : ℕ) (u : State) → IsJob place bounds j → Finish place bounds P rest j → i ≤ j.count → Comparing j i u
    → ((v : State) → i < j.count → Comparing j (suc i) v → B 2 v) → leads_round place bounds P B (2 ∷ []) (loop_on rest) None u
loop_go place bounds P rest j B i u job finish le c again =
    let few : i < j.count + 1 = omega arith in
    let at : Facts j i u = facts place bounds j i u job le c in
    let first_byte = at.first_byte in
    let second_byte = at.second_byte in
    let first_small = job.bytes (j.first + i) in
    let second_small = job.bytes (j.second + i) in
    let stops : (n z f : Bool) → (i < j.count → ⊥) → leads_round place bounds P B (3 ∷ 2 ∷ []) rest None (looked u n z f) =
    λ n z f never. let last : i ≡ j.count = end i j.count le never in finish B (looked u n z f) (moved i j.count last (looked u n z f) (looked_on j i u n z f c)) in
    let more : u.mem (first_of u) ≢ 0 → apart_of u ≡ 0 → i < j.count = λ some alike. elim (cases_lt i j.count) [
      | inl less ↦ less
      | inr many ↦ (
          let last : j.count ≡ i = omega arith in
          let same : j.o.mem (j.first + i) ≡ j.o.mem (j.second + i) = omega arith in
          absurd (some (first_byte ∙ none i last same)))
    ] in
    loop_at place bounds P B rest (j.first + i) (j.second + i) u at.first_at at.second_at (job.first_bytes.reach i few) (job.second_bytes.reach i few)
    (λ n z f nothing. stops n z f (λ less. job.common.some i less (sym first_byte ∙ nothing)))
    (λ n z f apart. stops n z f (λ less. let same = job.common.alike i less in apart (omega arith)))
    (λ n z f some alike same_page. again _ (more some alike) (byte_done j i u n z f c same_page))
    (λ n z f some alike new_page. again _ (more some alike) (page_done place bounds j i u n z f job (more some alike) c new_page))
    (λ some alike new_page over.
    let less : i < j.count = more some alike in
    let y_is : u.regs.y ≡ c.y = ap (λ (k : State). k.regs.y) c.is in
    let zp_is : u.zp ≡ c.zp = ap (λ (k : State). k.zp) c.is in
    let z11 : u.zp 11 ≡ c.zp 11 = ap (λ (w : Bytes). w 11) zp_is in
    let low = c.low in
    let second = c.second_is in
    let end_few : j.count < j.count + 1 = omega arith in
    let second_end = job.second_bytes.below j.count end_few in
    omega arith)
  where
    end : (i n : ℕ) → i ≤ n → (i < n → ⊥) → i ≡ n
    end i n le never = elim (cases_lt i n) [ inl less ↦ absurd (never less) | inr many ↦ (let e : i ≡ n = omega arith in e) ]

    moved : (i n : ℕ) → i ≡ n → (v : State) → Comparing j i v → Comparing j n v
    moved i n e v c = subst (λ (k : ℕ). Comparing j k v) e c

    none : (i : ℕ) → j.count ≡ i → j.o.mem (j.first + i) ≡ j.o.mem (j.second + i) → j.o.mem (j.first + i) ≡ 0
    none i e same =
        let first : j.first + j.count ≡ j.first + i = omega arith in
        let second : j.second + j.count ≡ j.second + i = omega arith in
        sym (ap j.o.mem first) ∙ job.common.ends (ap j.o.mem first ∙ (same ∙ sym (ap j.o.mem second)))

-- what holds at the label, with so much weight left
abbrev pub Going : Job → ℕ → ℕ → State → Type 0
Going j l n u = (l ≡ 2) × ((i : ℕ) × (i ≤ j.count) × (16 * (j.count - i) + 44 ≤ n) × Comparing j i u)

label_at : (place : Placement) (bounds : Bounds) (P : State → Type 0) (B : ℕ → State → Type 0) (rest : List Line) (u : State) → leads_round place bounds P B (2 ∷ []) (loop_on rest) None u → leads_round place bounds P B [] (compare_on rest) None u
unfolding leads_round
label_at place bounds P B rest u h = h

pub compare_begins : (place : Placement) (bounds : Bounds) (P : State → Type 0) (rest : List Line) (j : Job) (i most : ℕ) (u : State) → IsJob place bounds j → Finish place bounds P rest j → i ≤ j.count → Comparing j i u
    → 16 * (j.count - i) + 28 ≤ most → leads_round place bounds P (λ l v. Going j l most v) [] (compare_on rest) None u
compare_begins place bounds P rest j i most u job finish le c enough =
    label_at place bounds P (λ l v. Going j l most v) rest u
    (loop_go place bounds P rest j (λ l v. Going j l most v) i u job finish le c (λ v less on. (refl, (suc i, (omega arith), (omega arith), on))))

pub compare_round : (place : Placement) (bounds : Bounds) (P : State → Type 0) (rest : List Line) (j : Job) → IsJob place bounds j → Finish place bounds P rest j → ((m : ℕ) → round_weight m (3 ∷ 2 ∷ []) rest ≤ 24)
    → (l n : ℕ) (u : State) → Going j l n u → Round place bounds P (compare_on rest) (Going j) l n u
compare_round place bounds P rest j job finish light l n u g =
    let i : ℕ = g.1.0 in
    let le = g.1.1 in
    let enough = g.1.2 in
    let less : ℕ = 16 * (j.count - i) + 28 in
    let behind = light less in
    record {
      k = 0;
      less = less;
      stands = ap (λ (k : ℕ). settle (compare_on rest) (labelled (compare_on rest) k)) g.0;
      fewer = omega arith;
      weighs = omega arith;
      leads = compare_begins place bounds P rest j i less u job finish le g.1.3 (omega arith);
    }
