-- `strcmp` (C90 7.11.4.2)
use Rattle.std.proofs.Common.{◌≡◌, ◌≢◌, ℕ, ◌+◌, ◌-◌, ◌*◌, ◌/◌, ◌%◌, ◌<◌, ◌≤◌, ◌⊎◌, inl, inr, Bool, true, false, List, [], ◌∷◌, ◌++◌, None, length, refl, sym, ap, subst, ◌∙◌, arith}
use Rattle.std.specs.Prelude.{if◌then◌else◌, nat_lt}
use Rattle.std.proofs.lemmas.List.{append-nil}
use Rattle.c65_mach.specs.declared.rows.Op.TheVariants.{Bcs, Dex, Dey, Lda, Ldx, Ldy, Sbc, Sec, Sta, Stx}
use Rattle.c65_base.specs.declared.library.Library.TheVariants.{Strcmp}
use Rattle.c65_code.specs.declared.routine.Routine.TheVariants as routines
use Rattle.c65_code.specs.declared.routine.Width.TheVariants.{Ax}
use Rattle.c65_code.specs.declared.line.Line.{Line}
use Rattle.c65_code.specs.declared.line.Line.TheVariants.{Label}
use Rattle.c65_code.specs.LineState.{Place, Bytes, write, word_at, State, sp_of, ax_of}
use Rattle.c65_code.specs.Placement.{Placement}
use Rattle.c65_code.specs.Texts.{range_of, common_length, difference}
use Rattle.c65_code.specs.Rows.{Row, row_by, giving, popping, costing, by_bytes}
use Rattle.c65_code.specs.RawMachine.{RawSetting, Bounds, IsReachable, called, MayRun, Runs, MeetsRow, reach_of}
use Rattle.c65_rtl.specs.Assembly.{sp, ptr1, ptr2, implied, value, zero_page, by_y, branch}
use Rattle.c65_rtl.specs.Stack.{raise_two}
use Rattle.c65_rtl.specs.Routines.{lines_of}
use Rattle.c65_rtl.proofs.Ways.{Ends}
use Rattle.c65_rtl.proofs.Rounds.{leads_round, onward_round}
use Rattle.c65_rtl.proofs.Meeting.{ends_by, lt_true, lt_false}
use Rattle.c65_rtl.proofs.Opens.{OpenBytes, opens_near}
use Rattle.c65_rtl.proofs.SpPieces.{left, raise_two_at}
use Rattle.c65_rtl.proofs.Pushes.{meets_by}
use Rattle.c65_rtl.proofs.Stores.{reach_as}
use Rattle.c65_rtl_law_walks.proofs.Loops.{Round, runs_loops, behind_line}
use Rattle.c65_rtl_law_walks.proofs.Ranges.{OpenRanges, opens_both, ranges_length}
use Rattle.c65_rtl_law_walks.proofs.Pages.{with_pages}
use Rattle.c65_rtl_law_strings.proofs.Common.{AreCommon, common_is}
use Rattle.c65_rtl_law_strings.proofs.Comparing.{compare_on, first_of, second_of, Job, IsJob, Comparing, Facts, facts, Finish, Going, compare_begins, compare_round}

-- AX to ptr2, the word at sp to ptr1
abbrev pointed_on : List Line → List Line
pointed_on rest = zero_page Sta ptr2 ∷ zero_page Stx (ptr2 + 1) ∷ value Ldy 1 ∷ by_y Lda sp ∷ zero_page Sta (ptr1 + 1) ∷ implied Dey ∷ by_y Lda sp ∷ zero_page Sta ptr1 ∷ rest

abbrev pointed : State → ℕ → ℕ → Bytes
pointed u l h = write (write (write (write u.zp 10 u.regs.a) 11 u.regs.x) 9 h) 8 l

abbrev pointed_state : State → ℕ → ℕ → Bool → Bool → State
pointed_state u l h n z = record u { regs = record u.regs { a = l; y = 0; n = n; z = z }; zp = pointed u l h }

head_at : (place : Placement) (bounds : Bounds) (P : State → Type 0) (B : ℕ → State → Type 0) (rest : List Line) (at : ℕ) (u : State)
    → (u.zp 0 + 256 * u.zp 1 + 1) % 65536 ≡ at + 1 → (u.zp 0 + 256 * u.zp 1 + 0) % 65536 ≡ at → IsReachable place bounds at → IsReachable place bounds (at + 1)
    → ((l h : ℕ) (n z : Bool) → l ≡ u.mem at → h ≡ u.mem (at + 1) → leads_round place bounds P B [] rest None (pointed_state u l h n z))
    → leads_round place bounds P B [] (pointed_on rest) None u
unfolding leads_round
head_at place bounds P B rest at u e1 e0 r0 r1 follows =
    (reach_as place bounds _ (at + 1) e1 r1, (reach_as place bounds _ at e0 r0, follows _ _ _ _ (ap u.mem e0) (ap u.mem e1)))

pointed_at : (place : Placement) (bounds : Bounds) (P : State → Type 0) (B : ℕ → State → Type 0) (rest : List Line) (at : ℕ) (u : State)
    → (u.zp 0 + 256 * u.zp 1 + 1) % 65536 ≡ at + 1 → (u.zp 0 + 256 * u.zp 1 + 0) % 65536 ≡ at → IsReachable place bounds at → IsReachable place bounds (at + 1)
    → ((n z : Bool) → leads_round place bounds P B [] rest None (pointed_state u (u.mem at) (u.mem (at + 1)) n z))
    → leads_round place bounds P B [] (pointed_on rest) None u
pointed_at place bounds P B rest at u e1 e0 r0 r1 follows = head_at place bounds P B rest at u e1 e0 r0 r1
    (λ l h n z is_l is_h. subst (λ (k : ℕ). leads_round place bounds P B [] rest None (pointed_state u k h n z)) (sym is_l)
    (subst (λ (k : ℕ). leads_round place bounds P B [] rest None (pointed_state u (u.mem at) k n z)) (sym is_h) (follows n z)))

behind_pointed : (place : Placement) (bounds : Bounds) (P : State → Type 0) (lines : List Line) (Inv : ℕ → ℕ → State → Type 0) (l n : ℕ) (t : State)
    → Round place bounds P lines Inv l n t → Round place bounds P (pointed_on lines) Inv l n t
behind_pointed place bounds P lines Inv l n t r =
    behind_line place bounds P _ _ _ _ Inv l n t (behind_line place bounds P _ _ _ _ Inv l n t (behind_line place bounds P _ _ _ _ Inv l n t (behind_line place bounds P _ _ _ _ Inv l n t
    (behind_line place bounds P _ _ _ _ Inv l n t (behind_line place bounds P _ _ _ _ Inv l n t (behind_line place bounds P _ _ _ _ Inv l n t (behind_line place bounds P _ _ _ _ Inv l n t r)))))))

-- the difference of the two bytes
abbrev apart_on : List Line → List Line
apart_on rest = value Ldx 0 ∷ implied Sec ∷ by_y Lda ptr1 ∷ by_y Sbc ptr2 ∷ branch Bcs 4 ∷ implied Dex ∷ Label 4 ∷ rest

abbrev less_of : ℕ → ℕ → ℕ
less_of p q = p + (255 - q) + 1

-- X, by whether the subtraction borrows
abbrev HighIs : ℕ → ℕ → ℕ → Type 0
HighIs p q x = ((255 < less_of p q) × (x ≡ 0)) ⊎ ((less_of p q ≤ 255) × (x ≡ 255))

abbrev apart_state : State → ℕ → ℕ → ℕ → Bool → Bool → Bool → Bool → State
apart_state u p q x n v z c = record u { regs = record { a = less_of p q % 256; x = x; y = u.regs.y; n = n; v = v; z = z; c = c } }

apart_at : (place : Placement) (bounds : Bounds) (P : State → Type 0) (B : ℕ → State → Type 0) (rest : List Line) (first second : ℕ) (u : State)
    → first_of u ≡ first → second_of u ≡ second → IsReachable place bounds first → IsReachable place bounds second
    → ((x : ℕ) (n v z c : Bool) → HighIs (u.mem (first_of u)) (u.mem (second_of u)) x → leads_round place bounds P B (4 ∷ 3 ∷ 2 ∷ []) rest None (apart_state u (u.mem (first_of u)) (u.mem (second_of u)) x n v z c))
    → leads_round place bounds P B (3 ∷ 2 ∷ []) (apart_on rest) None u
unfolding leads_round
apart_at place bounds P B rest first second u e f r w follows = (
  reach_as place bounds (first_of u) first e r,
  (
    reach_as place bounds (second_of u) second f w,
    elim [
      | true ↦ λ e0. follows 0 _ _ _ _ (inl (lt_true _ _ e0, refl))
      | false ↦ λ e0. follows 255 _ _ _ _ (inr (lt_false _ _ e0, refl))
    ],
  ),
)

difference_is : (p q : ℕ) (b : Bool) → nat_lt p q ≡ b → difference p q ≡ (if b then 65536 + p - q else p - q)
difference_is p q b e = ap (λ (k : Bool). if k then 65536 + p - q else p - q) e

low_is : (p q x : ℕ) → p < 256 → q < 256 → HighIs p q x → less_of p q % 256 ≡ difference p q % 256
low_is p q x p_small q_small high = by (nat_lt p q) refl
  where
    by : (b : Bool) → nat_lt p q ≡ b → less_of p q % 256 ≡ difference p q % 256
    by true e =
        let is : difference p q ≡ 65536 + p - q = difference_is p q true e in
        let less = lt_true p q e in
        omega arith
    by false e =
        let is : difference p q ≡ p - q = difference_is p q false e in
        let more = lt_false p q e in
        omega arith

high_is : (p q x : ℕ) → p < 256 → q < 256 → HighIs p q x → x ≡ difference p q / 256 % 256
high_is p q x p_small q_small (inl some) =
    let great = some.0 in
    let zero_is = some.1 in
    let is : difference p q ≡ p - q = by (nat_lt p q) refl in
    omega arith
  where
    by : (b : Bool) → nat_lt p q ≡ b → difference p q ≡ p - q
    by true e = let less = lt_true p q e in let great = some.0 in absurd (omega arith)
    by false e = difference_is p q false e
high_is p q x p_small q_small (inr some) =
    let small = some.0 in
    let full_is = some.1 in
    let is : difference p q ≡ 65536 + p - q = by (nat_lt p q) refl in
    let less : p < q = omega arith in
    omega arith
  where
    by : (b : Bool) → nat_lt p q ≡ b → difference p q ≡ 65536 + p - q
    by true e = difference_is p q true e
    by false e = let more = lt_false p q e in let small = some.0 in absurd (omega arith)

abbrev end_lines : List Line
end_lines = apart_on raise_two

abbrev strcmp_lines : List Line
strcmp_lines = pointed_on (compare_on end_lines)

abbrev first_text : State → ℕ
first_text t = word_at t.mem (sp_of t)

-- the row, where they have so many bytes in common
abbrev strcmp_row : ℕ → State → Row
strcmp_row same t = by_bytes (giving Ax (difference (t.mem (first_text t + same)) (t.mem (ax_of t + same))) (record (popping 2 t (costing 256 (row_by (routines.Library Strcmp) t))) { far = range_of (same + 1) (first_text t) ++ range_of (same + 1) (ax_of t) }))

abbrev job_of : ℕ → Place → State → Job
job_of same back t = record { o = record (called back t) { zp = pointed t (t.mem (sp_of t)) (t.mem (sp_of t + 1)) }; first = first_text t; second = ax_of t; count = same }

finished : (s : RawSetting) (same : ℕ) (back : Place) (t : State) → MayRun s (strcmp_row same t) t → OpenBytes s.place (reach_of t) 2 (sp_of t) → IsJob s.place (reach_of t) (job_of same back t)
    → Finish s.place (reach_of t) (Ends (strcmp_row same t) t) end_lines (job_of same back t)
finished s same back t may near job B u c =
    let zero_is : c.zp 0 ≡ t.zp 0 = c.rest 0 (let other : 0 ≢ 9 = omega arith in other) (let other : 0 ≢ 11 = omega arith in other) in
    let one_is : c.zp 1 ≡ t.zp 1 = c.rest 1 (let other : 1 ≢ 9 = omega arith in other) (let other : 1 ≢ 11 = omega arith in other) in
    let low = may.bytes.zp 0 in
    let high = may.bytes.zp 1 in
    let soft = may.room.soft in
    let sp_high = may.high in
    let last : same < same + 1 = omega arith in
    let to : State = record (called back t) { regs = record { a = c.a; x = t.regs.x; y = c.y; n = c.nf; v = t.regs.v; z = c.zf; c = c.cf }; zp = c.zp } in
    let known : Comparing (job_of same back t) same to = subst (λ (k : State). Comparing (job_of same back t) same k) c.is c in
    let at : Facts (job_of same back t) same to = facts s.place (reach_of t) (job_of same back t) same to job (omega arith) known in
    let p_small : to.mem (first_of to) < 256 = may.bytes.mem (first_of to) in
    let q_small : to.mem (second_of to) < 256 = may.bytes.mem (second_of to) in
    let gap_is : difference (to.mem (first_of to)) (to.mem (second_of to)) ≡ difference (t.mem (first_text t + same)) (t.mem (ax_of t + same)) =
    ap (λ (k : ℕ). difference k (to.mem (second_of to))) at.first_byte ∙ ap (λ (k : ℕ). difference (t.mem (first_text t + same)) k) at.second_byte in
    subst (λ (k : State). leads_round s.place (reach_of t) (Ends (strcmp_row same t) t) B (3 ∷ 2 ∷ []) end_lines None k) (sym c.is)
    (apart_at s.place (reach_of t) (Ends (strcmp_row same t) t) B raise_two (first_text t + same) (ax_of t + same) to at.first_at at.second_at (job.first_bytes.reach same last) (job.second_bytes.reach same last)
    (λ x n v z c' gap. onward_round s.place (reach_of t) (Ends (strcmp_row same t) t) B raise_two (4 ∷ 3 ∷ 2 ∷ []) refl None (apart_state to (to.mem (first_of to)) (to.mem (second_of to)) x n v z c')
    (raise_two_at s.place (reach_of t) (Ends (strcmp_row same t) t) (apart_state to (to.mem (first_of to)) (to.mem (second_of to)) x n v z c') (omega arith) (omega arith) (omega arith)
    (λ y n v z c' zp moved. let sp_is = moved.sp in ends_by (strcmp_row same t) t (left (called back t) (less_of (to.mem (first_of to)) (to.mem (second_of to)) % 256) x y n v z c' zp t.mem)
    ((10, t.regs.a) ∷ (11, t.regs.x) ∷ (9, t.mem (sp_of t + 1)) ∷ (8, t.mem (sp_of t)) ∷ (9, c.zp 9) ∷ (11, c.zp 11) ∷ []) (record {
      zp = λ i two. moved.rest i two ∙ with_pages (pointed t (t.mem (sp_of t)) (t.mem (sp_of t + 1))) c.zp c.rest i;
      fit = refl;
      small = (refl, refl, refl, refl, refl);
      low_kept = tt;
      high_kept = tt;
      a_kept = tt;
      x_kept = tt;
      sp = omega arith;
      a = low_is (to.mem (first_of to)) (to.mem (second_of to)) x p_small q_small gap ∙ ap (λ (k : ℕ). k % 256) gap_is;
      x = high_is (to.mem (first_of to)) (to.mem (second_of to)) x p_small q_small gap ∙ ap (λ (k : ℕ). k / 256 % 256) gap_is;
      sreg = tt;
      pointers = tt;
      bank = tt;
      mem = λ b h. refl;
      input = refl;
      output = sym (append-nil t.output);
      ended = may.running;
    })))))

strcmp_runs : (s : RawSetting) → s.lines (s.routine (routines.Library Strcmp)) ≡ strcmp_lines → (back : Place) (t : State) (same : ℕ) → same ≡ common_length (first_text t) (ax_of t) t.mem → MayRun s (strcmp_row same t) t
    → Runs s (routines.Library Strcmp) (strcmp_row same t) back t
strcmp_runs s has back t same is may =
    let soft = may.room.soft in
    let sp_high = may.high in
    let near : OpenBytes s.place (reach_of t) 2 (sp_of t) = opens_near s (strcmp_row same t) 2 (sp_of t) t (omega arith) refl may in
    let far : OpenRanges s (strcmp_row same t) t (same + 1) (first_text t) (same + 1) (ax_of t) = opens_both s (strcmp_row same t) (same + 1) (first_text t) (same + 1) (ax_of t) t refl may in
    let k0 : 0 < 2 = omega arith in
    let k1 : 1 < 2 = omega arith in
    let near_end : sp_of t + 1 < 65520 = near.below 1 k1 in
    let end : first_text t + same < 65520 = far.first.below same (omega arith) in
    let small : common_length (first_text t) (ax_of t) t.mem < 65536 = omega arith in
    let common : AreCommon t.mem (first_text t) (ax_of t) same = subst (λ (n : ℕ). AreCommon t.mem (first_text t) (ax_of t) n) (sym is) (common_is (first_text t) (ax_of t) t.mem small) in
    let j : Job = job_of same back t in
    let job : IsJob s.place (reach_of t) j = record { common = common; first_bytes = far.first; second_bytes = far.second; bytes = may.bytes.mem } in
    let finish : Finish s.place (reach_of t) (Ends (strcmp_row same t) t) end_lines j = finished s same back t may near job in
    let many : length (range_of (same + 1) (first_text t) ++ range_of (same + 1) (ax_of t)) ≡ same + 1 + (same + 1) = ranges_length (same + 1) (first_text t) (same + 1) (ax_of t) in
    let begun : (n z : Bool) → Comparing j 0 (pointed_state (called back t) (t.mem (sp_of t)) (t.mem (sp_of t + 1)) n z) = λ n z. record {
      a = t.mem (sp_of t);
      y = 0;
      nf = n;
      zf = z;
      cf = t.regs.c;
      zp = j.o.zp;
      is = refl;
      rest = λ k nine eleven. refl;
      low = omega arith;
      first_is = omega arith;
      second_is = omega arith;
    } in
    runs_loops s (routines.Library Strcmp) (strcmp_row same t) back t strcmp_lines has (Going j)
    (λ l n u g. behind_pointed s.place (reach_of t) (Ends (strcmp_row same t) t) (compare_on end_lines) (Going j) l n u (compare_round s.place (reach_of t) (Ends (strcmp_row same t) t) end_lines j job finish (λ m. omega arith) l n u g))
    (16 * same + 28) (omega arith) refl may
    (pointed_at s.place (reach_of t) (Ends (strcmp_row same t) t) (λ l v. Going j l (16 * same + 28) v) (compare_on end_lines) (sp_of t) (called back t) (omega arith) (omega arith) (near.first k0) (near.reach 1 k1)
    (λ n z. compare_begins s.place (reach_of t) (Ends (strcmp_row same t) t) end_lines j 0 (16 * same + 28) (pointed_state (called back t) (t.mem (sp_of t)) (t.mem (sp_of t + 1)) n z) job finish (omega arith) (begun n z) (omega arith)))

pub strcmp : (s : RawSetting) → s.lines (s.routine (routines.Library Strcmp)) ≡ lines_of (routines.Library Strcmp) → MeetsRow s (routines.Library Strcmp)
strcmp s has = meets_by s (routines.Library Strcmp) (λ t. strcmp_row (common_length (first_text t) (ax_of t) t.mem) t) (λ t. refl) (λ back t may. strcmp_runs s has back t (common_length (first_text t) (ax_of t) t.mem) refl may)
