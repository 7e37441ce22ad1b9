-- The copy of a text up to its zero byte: one loop with two ways back, for any lines behind it.
use Rattle.std.proofs.Common.{◌≡◌, ◌≢◌, ℕ, zero, suc, ◌+◌, ◌-◌, ◌*◌, ◌%◌, ◌<◌, ◌≤◌, Bool, true, false, List, [], ◌∷◌, None, refl, sym, ap, subst, ◌∙◌, arith}
use Rattle.std.specs.Prelude.{◌==◌, if◌then◌else◌}
use Rattle.c65_mach.specs.declared.rows.Op.TheVariants.{Beq, Bne, Inc, Iny, Lda, Sta}
use Rattle.c65_code.specs.declared.line.Line.{Line}
use Rattle.c65_code.specs.declared.line.Line.TheVariants.{Label}
use Rattle.c65_code.specs.LineState.{Bytes, write, State}
use Rattle.c65_code.specs.Placement.{Placement}
use Rattle.c65_code.specs.Moves.{settle, labelled}
use Rattle.c65_code.specs.Texts.{copied, copy_within, copy_length}
use Rattle.c65_code.specs.Rows.{written}
use Rattle.c65_code.specs.RawMachine.{Bounds, IsReachable}
use Rattle.c65_rtl.specs.Assembly.{ptr1, ptr2, implied, zero_page, by_y, branch}
use Rattle.c65_rtl.proofs.Rounds.{leads_round, round_weight}
use Rattle.c65_rtl.proofs.Meeting.{eq_true, eq_false, not_true, not_false}
use Rattle.c65_rtl.proofs.Stores.{reach_as}
use Rattle.c65_rtl_law_walks.proofs.Loops.{Round}
use Rattle.c65_rtl_law_copies.proofs.Copies.{from_of, to_of, byte_done, Job, Reaches, Copying, next_is, copies_on, byte_on, page_done}

-- what is left of a text behind a byte that is not zero
pub record More (to from : ℕ) (m : Bytes) (left : ℕ) : Type 0 where
  pub less : ℕ
  pub one : left ≡ suc less
  pub fuel : ℕ
  pub fits : less < fuel
  pub length : copy_within fuel (to + 1) (from + 1) (write m to (m from)) ≡ less

ends_text : (fuel to from : ℕ) (m : Bytes) (left : ℕ) → left < fuel → copy_within fuel to from m ≡ left → m from ≡ 0 → left ≡ 0
ends_text zero to from m left less e none = absurd (omega arith)
ends_text (suc fuel) to from m left less e none = pick (m from == 0) refl e
  where
    pick : (b : Bool) → (m from == 0) ≡ b → (if b then 0 else suc (copy_within fuel (to + 1) (from + 1) (write m to (m from)))) ≡ left → left ≡ 0
    pick true t e = sym e
    pick false t e = absurd (eq_false (m from) 0 t none)

goes_on : (fuel to from : ℕ) (m : Bytes) (left : ℕ) → left < fuel → copy_within fuel to from m ≡ left → m from ≢ 0 → More to from m left
goes_on zero to from m left less e some = absurd (omega arith)
goes_on (suc fuel) to from m left less e some = pick (m from == 0) refl e
  where
    pick : (b : Bool) → (m from == 0) ≡ b → (if b then 0 else suc (copy_within fuel (to + 1) (from + 1) (write m to (m from)))) ≡ left → More to from m left
    pick true t e = absurd (some (eq_true (m from) 0 t))
    pick false t e =
        let k : ℕ = copy_within fuel (to + 1) (from + 1) (write m to (m from)) in
        let same : suc k ≡ left = e in
        record { less = k; one = sym same; fuel = fuel; fits = omega arith; length = refl }

pub length_is : (to from : ℕ) (m : Bytes) → copy_within 65536 to from m ≡ copy_length to from m
unfolding copy_length
length_is to from m = refl

abbrev text_on : List Line → List Line
text_on rest = by_y Lda ptr1 ∷ by_y Sta ptr2 ∷ branch Beq 3 ∷ implied Iny ∷ branch Bne 2 ∷ zero_page Inc (ptr1 + 1) ∷ zero_page Inc (ptr2 + 1) ∷ branch Bne 2 ∷ Label 3 ∷ rest

abbrev pub copy_text_on : List Line → List Line
copy_text_on rest = Label 2 ∷ text_on rest

-- the zero byte is copied too
abbrev zero_done : State → Bool → Bool → State
zero_done u n z = record u { regs = record u.regs { a = u.mem (from_of u); n = n; z = z }; mem = write u.mem (to_of u) (u.mem (from_of u)) }

abbrev next_page : State → Bool → Bool → State
next_page u n z = record (byte_done u (from_of u) (to_of u) u.regs.x n z) { zp = write (write u.zp 9 ((u.zp 9 + 1) % 256)) 11 ((u.zp 11 + 1) % 256) }

text_at : (place : Placement) (bounds : Bounds) (P : State → Type 0) (B : ℕ → State → Type 0) (rest : List Line) (from to : ℕ) (u : State)
    → from_of u ≡ from → to_of u ≡ to → IsReachable place bounds from → IsReachable place bounds to
    → ((n z : Bool) → u.mem (from_of u) ≡ 0 → leads_round place bounds P B (3 ∷ 2 ∷ []) rest None (zero_done u n z))
    → ((n z : Bool) → u.mem (from_of u) ≢ 0 → (u.regs.y + 1) % 256 ≢ 0 → B 2 (byte_done u (from_of u) (to_of u) u.regs.x n z))
    → ((n z : Bool) → u.mem (from_of u) ≢ 0 → (u.regs.y + 1) % 256 ≡ 0 → B 2 (next_page u n z))
    → (u.mem (from_of u) ≢ 0 → (u.regs.y + 1) % 256 ≡ 0 → (u.zp 11 + 1) % 256 ≡ 0 → ⊥)
    → leads_round place bounds P B (2 ∷ []) (text_on rest) None u
unfolding leads_round
text_at place bounds P B rest from to u e f r w stop goes page over = (
  reach_as place bounds (from_of u) from e r,
  (
    reach_as place bounds (to_of u) to f w,
    elim [
      | true ↦ λ e0. stop _ _ (eq_true _ _ e0)
      | false ↦ λ e0. elim [
        | true ↦ λ e1. goes _ _ (eq_false _ _ e0) (eq_false _ _ (not_true _ e1))
        | false ↦ λ e1. elim [
          | true ↦ λ e2. page _ _ (eq_false _ _ e0) (eq_true _ _ (not_false _ e1))
          | false ↦ λ e2. absurd (over (eq_false _ _ e0) (eq_true _ _ (not_false _ e1)) (eq_true _ _ (not_false _ e2)))
        ]
      ]
    ],
  ),
)

-- so many bytes other than zero are left
pub record Reading (j : Job) (left : ℕ) (u : State) : Type 0 where
  pub copying : Copying j (suc left) u
  pub fuel : ℕ
  pub fits : left < fuel
  pub length : copy_within fuel (j.to + j.count - suc left) (j.from + j.count - suc left) u.mem ≡ left

-- all is copied
pub record Done (j : Job) (u : State) : Type 0 where
  pub a : ℕ
  pub x : ℕ
  pub y : ℕ
  pub nf : Bool
  pub zf : Bool
  pub zp : Bytes
  pub mem : Bytes
  pub is : u ≡ record j.o { regs = record { a = a; x = x; y = y; n = nf; v = j.o.regs.v; z = zf; c = j.o.regs.c }; zp = zp; mem = mem }
  pub rest : (k : ℕ) → k ≢ 9 → k ≢ 11 → zp k ≡ j.o.zp k
  pub copies : (b : ℕ) → mem b ≡ written j.o.mem (copied j.count j.to j.from j.o.mem) b

done_by : (place : Placement) (bounds : Bounds) (j : Job) (u : State) (n z : Bool) → Reaches place bounds j → Copying j 1 u → Done j (zero_done u n z)
done_by place bounds j u n z reaches c =
    let A : ℕ = u.mem (from_of u) in
    let M : Bytes = write u.mem (to_of u) (u.mem (from_of u)) in
    record {
      a = A;
      x = c.x;
      y = c.y;
      nf = n;
      zf = z;
      zp = c.zp;
      mem = M;
      is = ap (λ (k : State). let r : State = record k { regs = record k.regs { a = A; n = n; z = z }; mem = M } in r) c.is;
      rest = c.rest;
      copies = copies_on j 0 u c (next_is place bounds j 0 u reaches c);
    }

-- where the next byte is
record Places (j : Job) (left : ℕ) (u : State) : Type 0 where
  pub from_is : from_of u ≡ j.from + j.count - suc left
  pub to_is : to_of u ≡ j.to + j.count - suc left

places : (place : Placement) (bounds : Bounds) (j : Job) (left : ℕ) (u : State) → Reaches place bounds j → Copying j (suc left) u → Places j left u
places place bounds j left u reaches c =
    let next = next_is place bounds j left u reaches c in
    let within = c.within in
    let f = next.from_is in
    let t = next.to_is in
    record { from_is = omega arith; to_is = omega arith }

more_of : (place : Placement) (bounds : Bounds) (j : Job) (left : ℕ) (u : State) → Reaches place bounds j → (r : Reading j left u) → u.mem (from_of u) ≢ 0 → More (j.to + j.count - suc left) (j.from + j.count - suc left) u.mem left
more_of place bounds j left u reaches r some =
    let at = places place bounds j left u reaches r.copying in
    goes_on r.fuel (j.to + j.count - suc left) (j.from + j.count - suc left) u.mem left r.fits r.length (λ e. some (ap u.mem at.from_is ∙ e))

-- the state behind one byte, whose memory is this one
read_on : (place : Placement) (bounds : Bounds) (j : Job) (left : ℕ) (u v : State) → Reaches place bounds j → Copying j (suc left) u → v.mem ≡ write u.mem (to_of u) (u.mem (from_of u)) → Copying j left v
    → (m : More (j.to + j.count - suc left) (j.from + j.count - suc left) u.mem left) → Reading j m.less v
read_on place bounds j left u v reaches c is copying m =
    let T : ℕ = j.to + j.count - suc left in
    let F : ℕ = j.from + j.count - suc left in
    let at = places place bounds j left u reaches c in
    let within = c.within in
    let one = m.one in
    let W : Bytes = write u.mem T (u.mem F) in
    let all : v.mem ≡ W = is ∙ (ap (λ (k : ℕ). write u.mem k (u.mem (from_of u))) at.to_is ∙ ap (λ (k : ℕ). write u.mem T (u.mem k)) at.from_is) in
    let to_next : j.to + j.count - suc m.less ≡ T + 1 = omega arith in
    let from_next : j.from + j.count - suc m.less ≡ F + 1 = omega arith in
    record {
      copying = subst (λ (i : ℕ). Copying j i v) one copying;
      fuel = m.fuel;
      fits = m.fits;
      length = ap (λ (w : Bytes). copy_within m.fuel (j.to + j.count - suc m.less) (j.from + j.count - suc m.less) w) all
          ∙ (ap (λ (k : ℕ). copy_within m.fuel k (j.from + j.count - suc m.less) W) to_next ∙ (ap (λ (k : ℕ). copy_within m.fuel (T + 1) k W) from_next ∙ m.length));
    }

abbrev pub FinishText : Placement → Bounds → (State → Type 0) → List Line → Job → Type 1
FinishText place bounds P rest j = (B : ℕ → State → Type 0) (u : State) → Done j u → leads_round place bounds P B (3 ∷ 2 ∷ []) rest None u

text_go : (place : Placement) (bounds : Bounds) (P : State → Type 0) (rest : List Line) (j : Job) (B : ℕ → State → Type 0) (left : ℕ) (u : State) → Reaches place bounds j → FinishText place bounds P rest j → Reading j left u
    → ((k : ℕ) (v : State) → left ≡ suc k → Reading j k v → B 2 v) → leads_round place bounds P B (2 ∷ []) (text_on rest) None u
text_go place bounds P rest j B left u reaches finish r again =
    let c = r.copying in
    let within = c.within in
    let next = next_is place bounds j left u reaches c in
    let at = places place bounds j left u reaches c in
    let last : j.count - suc left < j.count = omega arith in
    text_at place bounds P B rest (j.from + (j.count - suc left)) (j.to + (j.count - suc left)) u next.from_is next.to_is (reaches.from_bytes.reach (j.count - suc left) last) (reaches.to_bytes.reach (j.count - suc left) last)
    (λ n z none.
    let nothing : left ≡ 0 = ends_text r.fuel (j.to + j.count - suc left) (j.from + j.count - suc left) u.mem left r.fits r.length (sym (ap u.mem at.from_is) ∙ none) in
    finish B (zero_done u n z) (done_by place bounds j u n z reaches (subst (λ (i : ℕ). Copying j (suc i) u) nothing c)))
    (λ n z some same_page.
    let m = more_of place bounds j left u reaches r some in
    again m.less _ m.one (read_on place bounds j left u (byte_done u (from_of u) (to_of u) u.regs.x n z) reaches c refl (byte_on place bounds j left u u.regs.x n z reaches c same_page) m))
    (λ n z some new_page.
    let m = more_of place bounds j left u reaches r some in
    again m.less _ m.one (read_on place bounds j left u (next_page u n z) reaches c refl (page_done place bounds j left u u.regs.x n z reaches c new_page) m))
    (λ some new_page over.
    let m = more_of place bounds j left u reaches r some in
    let one = m.one in
    let y_is : u.regs.y ≡ c.y = ap (λ (k : State). k.regs.y) c.is in
    let zp_is : u.zp ≡ c.zp = ap (λ (k : State). k.zp) c.is in
    let z11 : u.zp 11 ≡ c.zp 11 = ap (λ (w : Bytes). w 11) zp_is in
    let y_low = c.low in
    let to_is = c.to_is in
    let end : j.count - 1 < j.count = omega arith in
    let to_end = reaches.to_bytes.below (j.count - 1) end in
    omega arith)

-- what holds at the label, with so much weight left
abbrev pub Going : Job → ℕ → ℕ → State → Type 0
Going j l n u = (l ≡ 2) × ((left : ℕ) × Reading j left u × (14 * left + 40 ≤ n))

label_text : (place : Placement) (bounds : Bounds) (P : State → Type 0) (B : ℕ → State → Type 0) (rest : List Line) (u : State) → leads_round place bounds P B (2 ∷ []) (text_on rest) None u → leads_round place bounds P B [] (copy_text_on rest) None u
unfolding leads_round
label_text place bounds P B rest u h = h

pub text_begins : (place : Placement) (bounds : Bounds) (P : State → Type 0) (rest : List Line) (j : Job) (left most : ℕ) (u : State) → Reaches place bounds j → FinishText place bounds P rest j → Reading j left u
    → 14 * left + 26 ≤ most → leads_round place bounds P (λ i v. Going j i most v) [] (copy_text_on rest) None u
text_begins place bounds P rest j left most u reaches finish r enough =
    label_text place bounds P (λ i v. Going j i most v) rest u
    (text_go place bounds P rest j (λ i v. Going j i most v) left u reaches finish r (λ k v e reading. (refl, (k, reading, (omega arith)))))

pub text_round : (place : Placement) (bounds : Bounds) (P : State → Type 0) (rest : List Line) (j : Job) → Reaches place bounds j → FinishText place bounds P rest j
    → ((m : ℕ) → round_weight m (3 ∷ 2 ∷ []) rest ≤ 24) → (l n : ℕ) (u : State) → Going j l n u → Round place bounds P (copy_text_on rest) (Going j) l n u
text_round place bounds P rest j reaches finish light l n u g =
    let left : ℕ = g.1.0 in
    let enough = g.1.2 in
    let less : ℕ = 14 * left + 26 in
    let behind = light less in
    record {
      k = 0;
      less = less;
      stands = ap (λ (i : ℕ). settle (copy_text_on rest) (labelled (copy_text_on rest) i)) g.0;
      fewer = omega arith;
      weighs = omega arith;
      leads = text_begins place bounds P rest j left less u reaches finish g.1.1 (omega arith);
    }

-- It begins with all of the text left.
pub reads_from : (j : Job) (fuel left : ℕ) (u : State) → j.count ≡ suc left → left < fuel → copy_within fuel j.to j.from u.mem ≡ left → Copying j j.count u → Reading j left u
reads_from j fuel left u count fits length copying =
    let to_is : j.to + j.count - suc left ≡ j.to = omega arith in
    let from_is : j.from + j.count - suc left ≡ j.from = omega arith in
    record {
      copying = subst (λ (i : ℕ). Copying j i u) count copying;
      fuel = fuel;
      fits = fits;
      length = ap (λ (k : ℕ). copy_within fuel k (j.from + j.count - suc left) u.mem) to_is ∙ (ap (λ (k : ℕ). copy_within fuel j.to k u.mem) from_is ∙ length);
    }
