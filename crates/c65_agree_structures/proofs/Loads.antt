-- From 1 to 4 bytes are loaded.
use Rattle.std.proofs.Common.{◌≡◌, ℕ, zero, suc, ◌+◌, ◌-◌, ◌%◌, ◌<◌, ◌≤◌, ◌⊎◌, inl, inr, false, [], ◌∷◌, refl, sym, ap, ◌∙◌, subst, arith}
use Rattle.std.proofs.lemmas.List.Elements.{All-nil}
use Rattle.c65_mach.specs.declared.rows.Op.TheVariants.{Dey, Lda, Ldx, Ldy, Sta, Tax}
use Rattle.c65_mach.specs.State.{Regs}
use Rattle.c65_mach.specs.Step.{apply, after}
use Rattle.c65_meaning.specs.State.{Scene}
use Rattle.c65_code.specs.declared.line.Sym.{Sym}
use Rattle.c65_code.specs.declared.routine.Routine.TheVariants.{LdAxYSp}
use Rattle.c65_code.specs.LineState.{Bytes, write, State, sp_of, sreg_of, ax_of, eax_of, word_at, zero_word, IsBytes}
use Rattle.c65_code.specs.Placement.{IsPlacement, located}
use Rattle.c65_code.specs.Steady.{IsOpen}
use Rattle.c65_code.specs.Texts.{range_of}
use Rattle.c65_genwide.specs.Lines.{value, call}
use Rattle.c65_genload.specs.declared.places.Extent.{Extent}
use Rattle.c65_genload.specs.declared.places.Extent.TheVariants.{One, Two, Three, Four}
use Rattle.c65_genload.specs.declared.places.Place.{Place}
use Rattle.c65_genload.specs.declared.places.Place.TheVariants.{Bank, Near, Data, Far}
use Rattle.c65_genload.specs.Words.{sp, sreg, implied, zero_page, by_y}
use Rattle.c65_genload.specs.Places.{byte_more, word_more}
use Rattle.c65_genload.specs.Loads.{bytes_code, near_code, data_code, far_code}
use Rattle.c65_agree_store.specs.Laws.{number_in}
use Rattle.c65_agree_store.specs.Stands.{Spot, At, Banked, Placing, Banks, stored_at}
use Rattle.c65_agree_state.specs.World.{World, Active}
use Rattle.c65_agree_state.specs.Exprs.{Ready, Kept}
use Rattle.c65_agree_state.proofs.Parts.{kept_goes_on}
use Rattle.c65_agree_places.specs.Places.{spot_in}
use Rattle.c65_agree_numbers.proofs.Tests.{at_most}
use Rattle.c65_agree_rows.specs.Laws.{Runs, IsKeptWith}
use Rattle.c65_agree_rows.proofs.Families.{HasRow, kept_runs}
use Rattle.c65_agree_rows.proofs.Quiet.{in_range, quiet_row, write_other, write_same}
use Rattle.c65_agree_put.proofs.Stores.{data_is_low}
use Rattle.c65_agree_frame.specs.Leads.{Leads, IsOn}
use Rattle.c65_agree_frame.proofs.Leads.{leads_then, leads_as, kept_regs, kept_zero, after_lines, AreSafe, lines_lead}
use Rattle.c65_agree_load.specs.Loads.{CanLoad, IsNear, IsLoaded, bytes_of, IsKeptThere}
use Rattle.c65_agree_load.proofs.Kept.{runs_lead, is_on, kept_later, ready_later}
use Rattle.c65_agree_load.proofs.Loads.{bytes_are_loaded}
use Rattle.c65_agree_structures.specs.Areas.{HasBytes, IsInMemory}
use Rattle.c65_agree_structures.specs.Laws.{AreasAreLoaded}

-- ---- one, two or four

module _ (t u : State) (before : IsBytes t) (behind : IsBytes u) (q : Spot) where
  stored_byte : (r : Spot) (i : ℕ) → stored_at t r i < 256
  stored_byte (At at) i = before.mem (at + i)
  stored_byte (Banked d b) i = before.zp (20 + (b + i))

  -- by the bytes of the primary register
  bytes_are : (n : ℕ) → n ≤ 4 → (0 < n → u.regs.a ≡ stored_at t q 0) → (1 < n → u.regs.x ≡ stored_at t q 1) → (2 < n → u.zp 2 ≡ stored_at t q 2) → (3 < n → u.zp 3 ≡ stored_at t q 3) → HasBytes n q t u
  bytes_are n most first second third fourth zero lt = let e = first lt in omega (arith, e, behind.a, behind.x, behind.zp 2, behind.zp 3)
  bytes_are n most first second third fourth (suc zero) lt = let e = second lt in omega (arith, e, behind.a, behind.x, behind.zp 2, behind.zp 3)
  bytes_are n most first second third fourth (suc (suc zero)) lt = let e = third lt in omega (arith, e, behind.a, behind.x, behind.zp 2, behind.zp 3)
  bytes_are n most first second third fourth (suc (suc (suc zero))) lt = let e = fourth lt in omega (arith, e, behind.a, behind.x, behind.zp 2, behind.zp 3)
  bytes_are n most first second third fourth (suc (suc (suc (suc i)))) lt = absurd (omega (arith, most, lt))

  one_is : u.regs.a ≡ number_in (stored_at t q) 1 0 → HasBytes 1 q t u
  one_is e = bytes_are 1 (omega arith) (λ lt. omega (arith, e)) (λ lt. absurd (omega (arith, lt))) (λ lt. absurd (omega (arith, lt))) (λ lt. absurd (omega (arith, lt)))

  two_is : ax_of u ≡ number_in (stored_at t q) 2 0 → HasBytes 2 q t u
  two_is e =
      let m0 = stored_byte q 0 in
      bytes_are 2 (omega arith) (λ lt. omega (arith, e, m0, behind.a, behind.x)) (λ lt. omega (arith, e, m0, behind.a, behind.x)) (λ lt. absurd (omega (arith, lt))) (λ lt. absurd (omega (arith, lt)))

  four_is : eax_of u ≡ number_in (stored_at t q) 4 0 → HasBytes 4 q t u
  four_is e =
      let m0 = stored_byte q 0 in
      let m1 = stored_byte q 1 in
      let m2 = stored_byte q 2 in
      let m3 = stored_byte q 3 in
      bytes_are 4 (omega arith)
      (λ lt. omega (arith, e, m0, m1, m2, m3, behind.a, behind.x, behind.zp 2, behind.zp 3))
      (λ lt. omega (arith, e, m0, m1, m2, m3, behind.a, behind.x, behind.zp 2, behind.zp 3))
      (λ lt. omega (arith, e, m0, m1, m2, m3, behind.a, behind.x, behind.zp 2, behind.zp 3))
      (λ lt. omega (arith, e, m0, m1, m2, m3, behind.a, behind.x, behind.zp 2, behind.zp 3))

-- ---- a word behind sp, with sreg as it was

abbrev WordIs : ℕ → State → State → Type 0
WordIs at t u = (ax_of u ≡ word_at t.mem at) × (sreg_of u ≡ sreg_of t)

word_row : (o : ℕ) (t : State) → IsBytes t → t.regs.y ≡ o + 1 → HasRow LdAxYSp (range_of 2 (sp_of t + o)) [] (WordIs (sp_of t + o) t) t
word_row o t b e =
    let at : sp_of t + t.regs.y - 1 ≡ sp_of t + o = omega (arith, e) in
    record {
      row = _;
      is = refl;
      still = record { quiet = quiet_row _ refl refl refl refl refl; sp = refl; writes = refl };
      ready = at_most 1 t.regs.y (omega (arith, e));
      near = ap (range_of 2) at;
      far = refl;
      result = λ u meets. let a = meets.a in let x = meets.x in (omega (arith, a, x, b.mem (sp_of t + t.regs.y - 1), b.mem (sp_of t + t.regs.y - 1 + 1)) ∙ ap (word_at t.mem) at, meets.sreg);
    }

-- ---- three

module _ (g : World) (a : Active) (pushed needs : ℕ) (c : Scene) (w : Placing) (k : Banks) (t : State) (placed : IsPlacement g.code g.place) (r : Ready g a pushed needs c w k t) where
  on : IsOn g t
  on = is_on g a pushed needs c w k t placed r

  abbrev Behind : ℕ → Spot → State → Type 0
  Behind n q u = Kept g a c w k t c w k u × HasBytes n q t u

  -- an open byte lies below the end of memory
  open_low : (n : ℕ) → IsOpen g.place (sp_of t) n → n < 65520
  open_low n (inl d) = let low = data_is_low g placed n d in omega (arith, low)
  open_low n (inr h) = h.1

  opened : {m n : ℕ} → m ≡ n → IsOpen g.place (sp_of t) n → IsOpen g.place (sp_of t) m
  opened e o = subst (IsOpen g.place (sp_of t)) (sym e) o

  module _ (at : ℕ) (small : at ≤ 252) (can : CanLoad g t (At (sp_of t + at)) 3) where
    abbrev y2 : ℕ
    y2 = byte_more at 2

    abbrev near_last : ℕ
    near_last = after (zero_word t 0) y2

    abbrev n1 : Regs
    n1 = apply false Ldy y2 t.regs

    abbrev n2 : Regs
    n2 = apply false Lda (t.mem near_last) n1

    abbrev near_zp : Bytes
    near_zp = write t.zp 2 (t.mem near_last)

    abbrev n3 : Regs
    n3 = apply false Dey 0 n2

    abbrev near_first : ℕ
    near_first = sp_of t + at

    near_last_is : near_last ≡ near_first + 2
    near_last_is = let high = open_low (near_first + 2) (can 2 (omega arith)) in omega (arith, small, high)

    near_others : (i : ℕ) → (i < 2) ⊎ (20 ≤ i) → near_zp i ≡ t.zp i
    near_others i side = write_other t.zp 2 (t.mem near_last) i (λ e. two side e)
      where
        two : (i < 2) ⊎ (20 ≤ i) → i ≡ 2 → ⊥
        two (inl h) e = omega (arith, h, e)
        two (inr h) e = omega (arith, h, e)

    near_lines_lead : Leads g a (value Ldy y2 ∷ by_y Lda sp ∷ zero_page Sta sreg ∷ implied Dey ∷ []) 4 t (λ u. (u ≡ record t { regs = n3; zp = near_zp }) × IsBytes u)
    near_lines_lead =
        lines_lead g a (value Ldy y2 ∷ by_y Lda sp ∷ zero_page Sta sreg ∷ implied Dey ∷ []) t placed on (
          refl,
          tt,
          omega arith,
          kept_regs t n1,
          (
            refl,
            opened near_last_is (can 2 (omega arith)),
            tt,
            kept_regs (record t { regs = n1 }) n2,
            (
              refl,
              (omega arith, λ _. omega arith),
              tt,
              kept_zero (record t { regs = n2 }) 2 (t.mem near_last) (omega arith),
              (refl, tt, omega arith, kept_regs (record t { regs = n2; zp = near_zp }) n3, tt),
            ),
          ),
        )

    three_near : Leads g a (near_code at Three) 270 t (Behind 3 (At near_first))
    three_near =
        leads_as g a (near_code at Three) 260 270 t (Behind 3 (At near_first)) (Behind 3 (At near_first)) (omega arith) (λ u h. h)
        (leads_then g a (value Ldy y2 ∷ by_y Lda sp ∷ zero_page Sta sreg ∷ implied Dey ∷ []) (call LdAxYSp ∷ []) 4 256 t (λ u. (u ≡ record t { regs = n3; zp = near_zp }) × IsBytes u) (Behind 3 (At near_first)) near_lines_lead (λ u e.
        from u e.0 e.1))
      where
        from : (u : State) → u ≡ record t { regs = n3; zp = near_zp } → IsBytes u → Leads g a (call LdAxYSp ∷ []) 256 u (Behind 3 (At near_first))
        from u e b =
            let bytes : IsBytes (record t { regs = n3; zp = near_zp }) = subst IsBytes e b in
            let kept : Kept g a c w k t c w k u = rw e (kept_later g a pushed needs c w k t placed r n3 near_zp near_others bytes) in
            let ready : Ready g a pushed needs c w k u = rw e (ready_later g a pushed needs c w k t placed r n3 near_zp near_others bytes) in
            let y : u.regs.y ≡ at + 1 = ap (λ (x : State). x.regs.y) e ∙ omega (arith, small) in
            let high = open_low (near_first + 2) (can 2 (omega arith)) in
            let runs : Runs g LdAxYSp u (IsKeptWith g a c w k u (WordIs (sp_of u + at) u)) =
            kept_runs g a pushed needs c w k u placed ready LdAxYSp (range_of 2 (sp_of u + at)) [] (WordIs (sp_of u + at) u) (word_row at u b y)
            (in_range (IsOpen g.place (sp_of u)) 2 (sp_of u + at) (λ i lt. inr (omega arith, omega (arith, lt, high, kept.sp)))) (All-nil (IsOpen g.place (sp_of u))) in
            leads_as g a (call LdAxYSp ∷ []) 256 256 u (IsKeptWith g a c w k u (WordIs (sp_of u + at) u)) (Behind 3 (At near_first)) (omega arith)
            (λ v x. (kept_goes_on g a c c c w w w k k k t u v kept x.kept, three_there u v e kept.sp x.kept.joins.bytes x.result))
            (runs_lead g a pushed needs c w k u LdAxYSp (IsKeptWith g a c w k u (WordIs (sp_of u + at) u)) (omega arith) ready runs)
          where
            three_there : (u v : State) → u ≡ record t { regs = n3; zp = near_zp } → sp_of u ≡ sp_of t → IsBytes v → WordIs (sp_of u + at) u v → HasBytes 3 (At near_first) t v
            three_there u v e same b is =
                let here : sp_of u + at ≡ near_first + 0 = omega (arith, same) in
                let next : sp_of u + at + 1 ≡ near_first + 1 = omega (arith, same) in
                let mem : u.mem ≡ t.mem = ap (λ (x : State). x.mem) e in
                let m0 : u.mem (sp_of u + at) ≡ t.mem (near_first + 0) = ap u.mem here ∙ ap (λ (m : Bytes). m (near_first + 0)) mem in
                let m1 : u.mem (sp_of u + at + 1) ≡ t.mem (near_first + 1) = ap u.mem next ∙ ap (λ (m : Bytes). m (near_first + 1)) mem in
                let m2 : u.zp 2 ≡ t.mem (near_first + 2) = ap (λ (x : State). x.zp 2) e ∙ (write_same t.zp 2 (t.mem near_last) ∙ ap t.mem near_last_is) in
                let word = is.0 in
                let upper = is.1 in
                let z2 = r.joins.bytes.mem near_first in
                bytes_are t v r.joins.bytes b (At near_first) 3 (omega arith)
                (λ lt. omega (arith, word, m0, m1, r.joins.bytes.mem (near_first + 0), b.a, b.x))
                (λ lt. omega (arith, word, m0, m1, r.joins.bytes.mem (near_first + 0), b.a, b.x))
                (λ lt. omega (arith, upper, m2, b.zp 2, b.zp 3, r.joins.bytes.mem (near_first + 2)))
                (λ lt. absurd (omega (arith, lt)))

  module _ (s : Sym) (off : ℕ) (small : off < 65536) (can : CanLoad g t (At (located g.place s off)) 3) where
    abbrev l0 : ℕ
    l0 = located g.place s off

    abbrev l1 : ℕ
    l1 = located g.place s (word_more off 1)

    abbrev l2 : ℕ
    l2 = located g.place s (word_more off 2)

    next_is : (i : ℕ) → i < 4 → l0 + i < 65520 → located g.place s (word_more off i) ≡ l0 + i
    next_is i few low = omega (arith, few, low, small)

    l0_is : l0 ≡ l0 + 0
    l0_is = omega arith

    l1_is : l1 ≡ l0 + 1
    l1_is = next_is 1 (omega arith) (open_low (l0 + 1) (can 1 (omega arith)))

    l2_is : l2 ≡ l0 + 2
    l2_is = next_is 2 (omega arith) (open_low (l0 + 2) (can 2 (omega arith)))

    abbrev d1 : Regs
    d1 = apply false Lda (t.mem l2) t.regs

    abbrev data_zp : Bytes
    data_zp = write t.zp 2 (t.mem l2)

    abbrev d2 : Regs
    d2 = apply false Lda (t.mem l0) d1

    abbrev d3 : Regs
    d3 = apply false Ldx (t.mem l1) d2

    data_others : (i : ℕ) → (i < 2) ⊎ (20 ≤ i) → data_zp i ≡ t.zp i
    data_others i side = write_other t.zp 2 (t.mem l2) i (λ e. two side e)
      where
        two : (i < 2) ⊎ (20 ≤ i) → i ≡ 2 → ⊥
        two (inl h) e = omega (arith, h, e)
        two (inr h) e = omega (arith, h, e)

    data_safe : AreSafe g (data_code s off Three) t
    data_safe = (
      refl,
      opened l2_is (can 2 (omega arith)),
      tt,
      kept_regs t d1,
      (
        refl,
        (omega arith, λ _. omega arith),
        tt,
        kept_zero (record t { regs = d1 }) 2 (t.mem l2) (omega arith),
        (
          refl,
          opened l0_is (can 0 (omega arith)),
          tt,
          kept_regs (record t { regs = d1; zp = data_zp }) d2,
          (refl, opened l1_is (can 1 (omega arith)), tt, kept_regs (record t { regs = d2; zp = data_zp }) d3, tt),
        ),
      ),
    )

    data_there : IsBytes (record t { regs = d3; zp = data_zp }) → HasBytes 3 (At l0) t (record t { regs = d3; zp = data_zp })
    data_there b =
        bytes_are t (record t { regs = d3; zp = data_zp }) r.joins.bytes b (At l0) 3 (omega arith) (λ lt. ap t.mem l0_is) (λ lt. ap t.mem l1_is) (λ lt. write_same t.zp 2 (t.mem l2) ∙ ap t.mem l2_is) (λ lt. absurd (omega (arith, lt)))

    three_at_symbol : Leads g a (data_code s off Three) 270 t (Behind 3 (At l0))
    three_at_symbol =
        leads_as g a (data_code s off Three) 4 270 t (λ u. (u ≡ after_lines g (data_code s off Three) t) × IsBytes u) (Behind 3 (At l0)) (omega arith)
        (λ u e. rw e.0 (kept_later g a pushed needs c w k t placed r d3 data_zp data_others (subst IsBytes e.0 e.1), data_there (subst IsBytes e.0 e.1))) (lines_lead g a (data_code s off Three) t placed on data_safe)

  module _ (at : ℕ) (small : at ≤ 250) (can : CanLoad g t (At (ax_of t + at)) 3) where
    abbrev p8 : Bytes
    p8 = write t.zp 8 t.regs.a

    abbrev p9 : Bytes
    p9 = write p8 9 t.regs.x

    abbrev far_y : ℕ
    far_y = byte_more at 2

    abbrev f2 : ℕ
    f2 = after (ax_of t) far_y

    abbrev f1 : ℕ
    f1 = after (ax_of t) ((far_y + 255) % 256)

    abbrev f0 : ℕ
    f0 = after (ax_of t) (((far_y + 255) % 256 + 255) % 256)

    far_low : ax_of t + at + 2 < 65520
    far_low = open_low (ax_of t + at + 2) (can 2 (omega arith))

    f2_is : f2 ≡ ax_of t + at + 2
    f2_is = omega (arith, small, far_low)

    f1_is : f1 ≡ ax_of t + at + 1
    f1_is = omega (arith, small, far_low)

    f0_is : f0 ≡ ax_of t + at + 0
    f0_is = omega (arith, small, far_low)

    abbrev p2 : Bytes
    p2 = write p9 2 (t.mem f2)

    abbrev s1 : Regs
    s1 = apply false Ldy far_y t.regs

    abbrev s2 : Regs
    s2 = apply false Lda (t.mem f2) s1

    abbrev s3 : Regs
    s3 = apply false Dey 0 s2

    abbrev s4 : Regs
    s4 = apply false Lda (t.mem f1) s3

    abbrev s5 : Regs
    s5 = apply false Tax 0 s4

    abbrev s6 : Regs
    s6 = apply false Dey 0 s5

    abbrev s7 : Regs
    s7 = apply false Lda (t.mem f0) s6

    far_others : (i : ℕ) → (i < 2) ⊎ (20 ≤ i) → p2 i ≡ t.zp i
    far_others i side = write_other p9 2 (t.mem f2) i (λ e. beside 2 side (omega arith) (omega arith) e) ∙ write_other p8 9 t.regs.x i (λ e. beside 9 side (omega arith) (omega arith) e) ∙ write_other t.zp 8 t.regs.a i (λ e. beside 8 side (omega arith) (omega arith) e)
      where
        beside : (n : ℕ) → (i < 2) ⊎ (20 ≤ i) → 2 ≤ n → n < 20 → i ≡ n → ⊥
        beside n (inl h) low high e = omega (arith, h, e, low)
        beside n (inr h) low high e = omega (arith, h, e, high)

    far_safe : AreSafe g (far_code at Three) t
    far_safe = (
      refl,
      (omega arith, λ _. omega arith),
      tt,
      kept_zero t 8 t.regs.a (omega arith),
      (
        refl,
        (omega arith, λ _. omega arith),
        tt,
        kept_zero (record t { zp = p8 }) 9 t.regs.x (omega arith),
        (
          refl,
          tt,
          omega arith,
          kept_regs (record t { zp = p9 }) s1,
          (
            refl,
            opened f2_is (can 2 (omega arith)),
            tt,
            kept_regs (record t { regs = s1; zp = p9 }) s2,
            (
              refl,
              (omega arith, λ _. omega arith),
              tt,
              kept_zero (record t { regs = s2; zp = p9 }) 2 (t.mem f2) (omega arith),
              (
                refl,
                tt,
                omega arith,
                kept_regs (record t { regs = s2; zp = p2 }) s3,
                (
                  refl,
                  opened f1_is (can 1 (omega arith)),
                  tt,
                  kept_regs (record t { regs = s3; zp = p2 }) s4,
                  (
                    refl,
                    tt,
                    omega arith,
                    kept_regs (record t { regs = s4; zp = p2 }) s5,
                    (refl, tt, omega arith, kept_regs (record t { regs = s5; zp = p2 }) s6, (refl, opened f0_is (can 0 (omega arith)), tt, kept_regs (record t { regs = s6; zp = p2 }) s7, tt)),
                  ),
                ),
              ),
            ),
          ),
        ),
      ),
    )

    far_there : IsBytes (record t { regs = s7; zp = p2 }) → HasBytes 3 (At (ax_of t + at)) t (record t { regs = s7; zp = p2 })
    far_there b =
        bytes_are t (record t { regs = s7; zp = p2 }) r.joins.bytes b (At (ax_of t + at)) 3 (omega arith) (λ lt. ap t.mem f0_is) (λ lt. ap t.mem f1_is) (λ lt. write_same p9 2 (t.mem f2) ∙ ap t.mem f2_is) (λ lt. absurd (omega (arith, lt)))

    three_far : Leads g a (far_code at Three) 270 t (Behind 3 (At (ax_of t + at)))
    three_far =
        leads_as g a (far_code at Three) 10 270 t (λ u. (u ≡ after_lines g (far_code at Three) t) × IsBytes u) (Behind 3 (At (ax_of t + at))) (omega arith)
        (λ u e. rw e.0 (kept_later g a pushed needs c w k t placed r s7 p2 far_others (subst IsBytes e.0 e.1), far_there (subst IsBytes e.0 e.1))) (lines_lead g a (far_code at Three) t placed on far_safe)

  -- ---- all

  three_bytes : (place : Place) → CanLoad g t (spot_in g a t place) 3 → IsNear place → IsInMemory place → Leads g a (bytes_code place Three) 270 t (Behind 3 (spot_in g a t place))
  three_bytes (Bank at) can near there = absurd there
  three_bytes (Near at) can near there = three_near at near can
  three_bytes (Data s off) can near there = three_at_symbol s off near can
  three_bytes (Far at) can near there = three_far at near can

  -- as a byte, a word or a long word
  by_number : (place : Place) (extent : Extent) (n : ℕ) → ((u : State) → IsBytes u → IsLoaded extent (spot_in g a t place) t u → HasBytes n (spot_in g a t place) t u) → Leads g a (bytes_code place extent) 270 t (λ u. Kept g a c w k t c w k u × IsLoaded extent (spot_in g a t place) t u)
      → Leads g a (bytes_code place extent) 270 t (Behind n (spot_in g a t place))
  by_number place extent n bytes leads = leads_as g a (bytes_code place extent) 270 270 t (λ u. Kept g a c w k t c w k u × IsLoaded extent (spot_in g a t place) t u) (Behind n (spot_in g a t place)) (omega arith) (λ u h. (h.0, bytes u h.0.joins.bytes h.1)) leads

  four_kept : (place : Place) → IsInMemory place → IsKeptThere place Four
  four_kept (Bank at) there = absurd there
  four_kept (Near at) there = tt
  four_kept (Data s off) there = tt
  four_kept (Far at) there = tt

  word_kept : (place : Place) → IsKeptThere place Two
  word_kept (Bank at) = tt
  word_kept (Near at) = tt
  word_kept (Data s off) = tt
  word_kept (Far at) = tt

  byte_kept : (place : Place) → IsKeptThere place One
  byte_kept (Bank at) = tt
  byte_kept (Near at) = tt
  byte_kept (Data s off) = tt
  byte_kept (Far at) = tt

  area_leads : (place : Place) (extent : Extent) → CanLoad g t (spot_in g a t place) (bytes_of extent) → IsNear place → IsInMemory place → Leads g a (bytes_code place extent) 270 t (Behind (bytes_of extent) (spot_in g a t place))
  area_leads place One can near there = by_number place One 1 (λ u b h. one_is t u r.joins.bytes b (spot_in g a t place) h) (bytes_are_loaded g a pushed needs c w k t place One placed r can near (byte_kept place))
  area_leads place Two can near there = by_number place Two 2 (λ u b h. two_is t u r.joins.bytes b (spot_in g a t place) h) (bytes_are_loaded g a pushed needs c w k t place Two placed r can near (word_kept place))
  area_leads place Three can near there = three_bytes place can near there
  area_leads place Four can near there = by_number place Four 4 (λ u b h. four_is t u r.joins.bytes b (spot_in g a t place) h) (bytes_are_loaded g a pushed needs c w k t place Four placed r can near (four_kept place there))

pub areas_are_loaded : AreasAreLoaded
areas_are_loaded g a pushed needs c w k t place extent placed r can near there = area_leads g a pushed needs c w k t placed r place extent can near there
