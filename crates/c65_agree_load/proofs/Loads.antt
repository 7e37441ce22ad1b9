-- Bytes are loaded.
use Rattle.std.proofs.Common.{◌≡◌, ℕ, ◌+◌, ◌*◌, ◌%◌, ◌<◌, ◌≤◌, ◌⊎◌, inl, inr, List, [], ◌∷◌, ◌++◌, Bool, true, false, refl, sym, ap, ◌∙◌, subst, arith}
use Rattle.std.specs.Prelude.{◌==◌, nat_lt, if◌then◌else◌, length}
use Rattle.std.proofs.lemmas.Bool.{eqb-true, ltb-true, ltb-false}
use Rattle.c65_mach.specs.declared.rows.Op.TheVariants.{Adc, Clc, Dey, Lda, Ldx, Ldy, Tax, Tay, Txa, Tya}
use Rattle.c65_mach.specs.State.{Regs}
use Rattle.c65_mach.specs.Step.{apply, after, bit}
use Rattle.c65_meaning.specs.State.{Scene}
use Rattle.c65_code.specs.declared.line.Sym.{Sym}
use Rattle.c65_code.specs.declared.routine.Routine.TheVariants.{LdAxYSp, LdEaxYSp, LdEaxi}
use Rattle.c65_code.specs.LineState.{Bytes, write, State, sp_of, ax_of, eax_of, word_at, zero_word, IsBytes}
use Rattle.c65_code.specs.Placement.{IsPlacement, located}
use Rattle.c65_code.specs.Steady.{IsOpen}
use Rattle.c65_genwide.specs.Lines.{value, call}
use Rattle.c65_genload.specs.declared.places.Extent.{Extent}
use Rattle.c65_genload.specs.declared.places.Extent.TheVariants.{One, Two, Three, Four}
use Rattle.c65_code.specs.declared.line.Line.{Line}
use Rattle.c65_genload.specs.declared.places.Place.{Place}
use Rattle.c65_genload.specs.declared.places.Place.TheVariants.{Bank, Near, Data, Far}
use Rattle.c65_genload.specs.Words.{sp, regbank}
use Rattle.c65_genload.specs.Places.{byte_more, word_more}
use Rattle.c65_genload.specs.Numbers.{first, second, add_word_code}
use Rattle.c65_genload.specs.Loads.{bank_code, near_code, data_code, far_code, bytes_code}
use Rattle.c65_agree_store.specs.Stands.{Spot, At, Banked, Placing, Banks, stored_at}
use Rattle.c65_agree_store.specs.Laws.{number_in}
use Rattle.c65_agree_state.specs.World.{World, Active}
use Rattle.c65_agree_state.specs.Exprs.{Ready, Kept}
use Rattle.c65_agree_state.proofs.Parts.{kept_goes_on}
use Rattle.c65_agree_places.specs.Places.{spot_in}
use Rattle.c65_agree_rows.specs.Rows.{WordByY, LongByY, IsNearLoaded, FarLong, IsFarLoaded}
use Rattle.c65_agree_rows.specs.Laws.{IsKeptWith}
use Rattle.c65_agree_rows.proofs.Quiet.{write_other, write_same}
use Rattle.c65_agree_rows.proofs.Loads.{LeavesSecond, light_loads_run, far_loads_run}
use Rattle.c65_agree_put.proofs.Stores.{data_is_low}
use Rattle.c65_agree_frame.specs.Leads.{Leads, IsOn}
use Rattle.c65_agree_frame.proofs.Entries.{append_end}
use Rattle.c65_agree_frame.proofs.Leads.{leads_then, leads_as, kept_regs, kept_zero, after_lines, AreSafe, lines_lead}
use Rattle.c65_agree_load.specs.Loads.{CanLoad, IsNear, IsLoaded, IsKeptThere, bytes_of}
use Rattle.c65_agree_load.specs.Laws.{BytesAreLoaded}
use Rattle.c65_agree_load.proofs.Kept.{runs_lead, is_on, kept_later, ready_later}

module _ (g : World) (a : Active) (pushed needs : ℕ) (c : Scene) (w : Placing) (k : Banks) (t : State) (placed : IsPlacement g.code g.place) (r : Ready g a pushed needs c w k t) where
  on : IsOn g t
  on = is_on g a pushed needs c w k t placed r

  -- what is behind lines that load, and leave ptr2
  abbrev Behind : Extent → Spot → State → Type 0
  Behind extent q u = Kept g a c w k t c w k u × IsLoaded extent q t u × LeavesSecond t u

  -- and behind others
  abbrev Loaded : Extent → Spot → State → Type 0
  Loaded extent q u = Kept g a c w k t c w k u × IsLoaded extent q t u

  alone : (lines : List Line) (extent : Extent) (q : Spot) → Leads g a lines 270 t (Behind extent q) → Leads g a lines 270 t (Loaded extent q)
  alone lines extent q leads = leads_as g a lines 270 270 t (Behind extent q) (Loaded extent q) (omega arith) (λ u h. (h.0, h.1)) leads

  no_others : (i : ℕ) → (i < 2) ⊎ (20 ≤ i) → t.zp i ≡ t.zp i
  no_others i h = refl

  -- other registers alone
  by_regs : (extent : Extent) (q : Spot) (regs : Regs) (u : State) → u ≡ record t { regs = regs } → IsBytes u → IsLoaded extent q t (record t { regs = regs }) → Behind extent q u
  by_regs extent q regs u e b loaded = rw e (kept_later g a pushed needs c w k t placed r regs t.zp no_others (subst IsBytes e b), loaded, record { low = refl; high = refl })

  -- an open byte lies below the end of memory
  open_low : (n : ℕ) → IsOpen g.place (sp_of t) n → n < 65520
  open_low n (inl d) = let low = data_is_low g placed n d in omega (arith, low)
  open_low n (inr h) = h.1

  -- ---- regbank

  module _ (at : ℕ) where
    abbrev b0 : ℕ
    b0 = byte_more regbank at

    abbrev b1 : ℕ
    b1 = byte_more (byte_more regbank at) 1

    one_in_bank : at + 1 ≤ 6 → Leads g a (bank_code at One) 270 t (Behind One (Banked (length a.behind) at))
    one_in_bank few =
        let first : b0 ≡ 20 + at = omega (arith, few) in
        let regs : Regs = apply false Lda (t.zp b0) t.regs in
        let byte : t.zp b0 ≡ t.zp (20 + (at + 0)) + 256 * 0 = let place : b0 ≡ 20 + (at + 0) = omega (arith, first) in ap t.zp place ∙ omega arith in
        leads_as g a (bank_code at One) 1 270 t (λ u. (u ≡ after_lines g (bank_code at One) t) × IsBytes u) (Behind One (Banked (length a.behind) at)) (omega arith) (λ u e. by_regs One (Banked (length a.behind) at) regs u e.0 e.1 byte)
        (lines_lead g a (bank_code at One) t placed on (refl, (omega (arith, first, few), λ _. omega (arith, first)), tt, kept_regs t regs, tt))

    two_in_bank : at + 2 ≤ 6 → Leads g a (bank_code at Two) 270 t (Behind Two (Banked (length a.behind) at))
    two_in_bank few =
        let first : b0 ≡ 20 + at = omega (arith, few) in
        let second : b1 ≡ 20 + at + 1 = omega (arith, first, few) in
        let regs1 : Regs = apply false Lda (t.zp b0) t.regs in
        let regs2 : Regs = apply false Ldx (t.zp b1) regs1 in
        let low : t.zp b0 ≡ t.zp (20 + (at + 0)) = let place : b0 ≡ 20 + (at + 0) = omega (arith, first) in ap t.zp place in
        let high : t.zp b1 ≡ t.zp (20 + (at + 1)) = let place : b1 ≡ 20 + (at + 1) = omega (arith, second) in ap t.zp place in
        leads_as g a (bank_code at Two) 2 270 t (λ u. (u ≡ after_lines g (bank_code at Two) t) × IsBytes u) (Behind Two (Banked (length a.behind) at)) (omega arith) (λ u e. by_regs Two (Banked (length a.behind) at) regs2 u e.0 e.1 (omega (arith, low, high)))
        (lines_lead g a (bank_code at Two) t placed on (refl, (omega (arith, first, few), λ _. omega (arith, first)), tt, kept_regs t regs1, (refl, (omega (arith, second, few), λ _. omega (arith, second)), tt, kept_regs (record t { regs = regs1 }) regs2, tt)))

  -- ---- near sp

  module _ (at : ℕ) (small : at ≤ 252) where
    one_near : CanLoad g t (At (sp_of t + at)) 1 → Leads g a (near_code at One) 270 t (Behind One (At (sp_of t + at)))
    one_near can =
        let here : sp_of t + at ≡ sp_of t + at + 0 = omega arith in
        let opened : IsOpen g.place (sp_of t) (sp_of t + at) = subst (IsOpen g.place (sp_of t)) (sym here) (can 0 (omega arith)) in
        let high = open_low (sp_of t + at) opened in
        let from : ℕ = after (zero_word t 0) at in
        let place : from ≡ sp_of t + at = omega (arith, high) in
        let regs1 : Regs = apply false Ldy at t.regs in
        let regs2 : Regs = apply false Lda (t.mem from) regs1 in
        let byte : t.mem from ≡ t.mem (sp_of t + at + 0) + 256 * 0 = ap t.mem (place ∙ here) ∙ omega arith in
        leads_as g a (near_code at One) 2 270 t (λ u. (u ≡ after_lines g (near_code at One) t) × IsBytes u) (Behind One (At (sp_of t + at))) (omega arith) (λ u e. by_regs One (At (sp_of t + at)) regs2 u e.0 e.1 byte)
        (lines_lead g a (near_code at One) t placed on (refl, tt, omega (arith, small), kept_regs t regs1, (refl, subst (IsOpen g.place (sp_of t)) (sym place) opened, tt, kept_regs (record t { regs = regs1 }) regs2, tt)))

    -- other registers alone, and lines behind lines
    left_as : {s : Regs} (u : State) → u ≡ record t { regs = s } → LeavesSecond t u
    left_as u e = record { low = ap (λ (x : State). x.zp 10) e; high = ap (λ (x : State). x.zp 11) e }

    left_then : (u v : State) → LeavesSecond t u → LeavesSecond u v → LeavesSecond t v
    left_then u v x y = record { low = y.low ∙ x.low; high = y.high ∙ x.high }

    -- Y, and a routine
    module _ (y : ℕ) (few : y < 256) where
      abbrev regs_y : Regs
      regs_y = apply false Ldy y t.regs

      y_lead : Leads g a (value Ldy y ∷ []) 1 t (λ u. (u ≡ record t { regs = regs_y }) × IsBytes u)
      y_lead = lines_lead g a (value Ldy y ∷ []) t placed on (refl, tt, few, kept_regs t regs_y, tt)

      y_kept : (u : State) → (u ≡ record t { regs = regs_y }) × IsBytes u → Kept g a c w k t c w k u × Ready g a pushed needs c w k u
      y_kept u e = rw e.0 (kept_later g a pushed needs c w k t placed r regs_y t.zp no_others (subst IsBytes e.0 e.1), ready_later g a pushed needs c w k t placed r regs_y t.zp no_others (subst IsBytes e.0 e.1))

    two_near : CanLoad g t (At (sp_of t + at)) 2 → Leads g a (near_code at Two) 270 t (Behind Two (At (sp_of t + at)))
    two_near can =
        let y : ℕ = byte_more at 1 in
        let same : y ≡ at + 1 = omega (arith, small) in
        let high = open_low (sp_of t + at + 1) (can 1 (omega arith)) in
        leads_as g a (near_code at Two) 257 270 t (Behind Two (At (sp_of t + at))) (Behind Two (At (sp_of t + at))) (omega arith) (λ u h. h)
        (leads_then g a (value Ldy y ∷ []) (call LdAxYSp ∷ []) 1 256 t (λ u. (u ≡ record t { regs = regs_y y (omega (arith, same, small)) }) × IsBytes u) (Behind Two (At (sp_of t + at))) (y_lead y (omega (arith, same, small))) (λ u e.
        let kept = y_kept y (omega (arith, same, small)) u e in
        let spu : sp_of u ≡ sp_of t = kept.0.sp in
        let yu : u.regs.y ≡ at + 1 = ap (λ (x : State). x.regs.y) e.0 ∙ same in
        let mem : u.mem ≡ t.mem = ap (λ (x : State). x.mem) e.0 in
        leads_as g a (call LdAxYSp ∷ []) 256 256 u (IsKeptWith g a c w k u (λ z. IsNearLoaded WordByY (sp_of u + at) u z × LeavesSecond u z)) (Behind Two (At (sp_of t + at))) (omega arith)
        (λ v x. (kept_goes_on g a c c c w w w k k k t u v kept.0 x.kept, word_there u v spu mem x.result.0, left_then u v (left_as u e.0) x.result.1))
        (runs_lead g a pushed needs c w k u LdAxYSp (IsKeptWith g a c w k u (λ z. IsNearLoaded WordByY (sp_of u + at) u z × LeavesSecond u z)) (omega arith) kept.1 (light_loads_run g a pushed needs c w k u WordByY at placed kept.1 yu (omega (arith, spu, high))))))
      where
        word_there : (u v : State) → sp_of u ≡ sp_of t → u.mem ≡ t.mem → ax_of v ≡ word_at u.mem (sp_of u + at) → IsLoaded Two (At (sp_of t + at)) t v
        word_there u v spu mem x =
            let first : sp_of u + at ≡ sp_of t + at + 0 = omega (arith, spu) in
            let second : sp_of u + at + 1 ≡ sp_of t + at + 1 = omega (arith, spu) in
            let low : u.mem (sp_of u + at) ≡ t.mem (sp_of t + at + 0) = ap u.mem first ∙ ap (λ (m : Bytes). m (sp_of t + at + 0)) mem in
            let high : u.mem (sp_of u + at + 1) ≡ t.mem (sp_of t + at + 1) = ap u.mem second ∙ ap (λ (m : Bytes). m (sp_of t + at + 1)) mem in
            omega (arith, x, low, high)

    four_near : CanLoad g t (At (sp_of t + at)) 4 → Leads g a (near_code at Four) 270 t (Behind Four (At (sp_of t + at)))
    four_near can =
        let y : ℕ = byte_more at 3 in
        let same : y ≡ at + 3 = omega (arith, small) in
        let high = open_low (sp_of t + at + 3) (can 3 (omega arith)) in
        leads_as g a (near_code at Four) 257 270 t (Behind Four (At (sp_of t + at))) (Behind Four (At (sp_of t + at))) (omega arith) (λ u h. h)
        (leads_then g a (value Ldy y ∷ []) (call LdEaxYSp ∷ []) 1 256 t (λ u. (u ≡ record t { regs = regs_y y (omega (arith, same, small)) }) × IsBytes u) (Behind Four (At (sp_of t + at))) (y_lead y (omega (arith, same, small))) (λ u e.
        let kept = y_kept y (omega (arith, same, small)) u e in
        let spu : sp_of u ≡ sp_of t = kept.0.sp in
        let yu : u.regs.y ≡ at + 3 = ap (λ (x : State). x.regs.y) e.0 ∙ same in
        let mem : u.mem ≡ t.mem = ap (λ (x : State). x.mem) e.0 in
        leads_as g a (call LdEaxYSp ∷ []) 256 256 u (IsKeptWith g a c w k u (λ z. IsNearLoaded LongByY (sp_of u + at) u z × LeavesSecond u z)) (Behind Four (At (sp_of t + at))) (omega arith)
        (λ v x. (kept_goes_on g a c c c w w w k k k t u v kept.0 x.kept, long_there u v spu mem x.result.0, left_then u v (left_as u e.0) x.result.1))
        (runs_lead g a pushed needs c w k u LdEaxYSp (IsKeptWith g a c w k u (λ z. IsNearLoaded LongByY (sp_of u + at) u z × LeavesSecond u z)) (omega arith) kept.1 (light_loads_run g a pushed needs c w k u LongByY at placed kept.1 yu (omega (arith, spu, high))))))
      where
        byte_there : (u : State) (i : ℕ) → sp_of u ≡ sp_of t → u.mem ≡ t.mem → u.mem (sp_of u + at + i) ≡ t.mem (sp_of t + at + i)
        byte_there u i spu mem = let place : sp_of u + at + i ≡ sp_of t + at + i = omega (arith, spu) in ap u.mem place ∙ ap (λ (m : Bytes). m (sp_of t + at + i)) mem

        long_there : (u v : State) → sp_of u ≡ sp_of t → u.mem ≡ t.mem → eax_of v ≡ word_at u.mem (sp_of u + at) + 65536 * word_at u.mem (sp_of u + at + 2) → IsLoaded Four (At (sp_of t + at)) t v
        long_there u v spu mem x =
            let m0 = byte_there u 0 spu mem in
            let m1 = byte_there u 1 spu mem in
            let m2 = byte_there u 2 spu mem in
            let m3 = byte_there u 3 spu mem in
            let here : u.mem (sp_of u + at) ≡ u.mem (sp_of u + at + 0) = let place : sp_of u + at ≡ sp_of u + at + 0 = omega arith in ap u.mem place in
            let last : u.mem (sp_of u + at + 2 + 1) ≡ u.mem (sp_of u + at + 3) = let place : sp_of u + at + 2 + 1 ≡ sp_of u + at + 3 = omega arith in ap u.mem place in
            omega (arith, x, here, last, m0, m1, m2, m3)

  -- ---- at a symbol

  module _ (s : Sym) (off : ℕ) (small : off < 65536) where
    abbrev l0 : ℕ
    l0 = located g.place s off

    abbrev l1 : ℕ
    l1 = located g.place s (word_more off 1)

    abbrev l2 : ℕ
    l2 = located g.place s (word_more off 2)

    abbrev l3 : ℕ
    l3 = located g.place s (word_more off 3)

    first_open : (n : ℕ) → 0 < n → CanLoad g t (At l0) n → IsOpen g.place (sp_of t) l0
    first_open n some can = let here : l0 + 0 ≡ l0 = omega arith in subst (IsOpen g.place (sp_of t)) here (can 0 some)

    next_is : (i : ℕ) → i < 4 → l0 + i < 65520 → located g.place s (word_more off i) ≡ l0 + i
    next_is i few low = omega (arith, few, low, small)

    one_at_symbol : CanLoad g t (At l0) 1 → Leads g a (data_code s off One) 270 t (Behind One (At l0))
    one_at_symbol can =
        let regs : Regs = apply false Lda (t.mem l0) t.regs in
        let here : l0 ≡ l0 + 0 = omega arith in
        let byte : t.mem l0 ≡ t.mem (l0 + 0) + 256 * 0 = ap t.mem here ∙ omega arith in
        leads_as g a (data_code s off One) 1 270 t (λ u. (u ≡ after_lines g (data_code s off One) t) × IsBytes u) (Behind One (At l0)) (omega arith) (λ u e. by_regs One (At l0) regs u e.0 e.1 byte)
        (lines_lead g a (data_code s off One) t placed on (refl, first_open 1 (omega arith) can, tt, kept_regs t regs, tt))

    two_at_symbol : CanLoad g t (At l0) 2 → Leads g a (data_code s off Two) 270 t (Behind Two (At l0))
    two_at_symbol can =
        let second_one : l1 ≡ l0 + 1 = next_is 1 (omega arith) (open_low (l0 + 1) (can 1 (omega arith))) in
        let regs1 : Regs = apply false Lda (t.mem l0) t.regs in
        let regs2 : Regs = apply false Ldx (t.mem l1) regs1 in
        let here : l0 ≡ l0 + 0 = omega arith in
        let low : t.mem l0 ≡ t.mem (l0 + 0) = ap t.mem here in
        let high : t.mem l1 ≡ t.mem (l0 + 1) = ap t.mem second_one in
        leads_as g a (data_code s off Two) 2 270 t (λ u. (u ≡ after_lines g (data_code s off Two) t) × IsBytes u) (Behind Two (At l0)) (omega arith) (λ u e. by_regs Two (At l0) regs2 u e.0 e.1 (omega (arith, low, high)))
        (lines_lead g a (data_code s off Two) t placed on (refl, first_open 2 (omega arith) can, tt, kept_regs t regs1, (refl, subst (IsOpen g.place (sp_of t)) (sym second_one) (can 1 (omega arith)), tt, kept_regs (record t { regs = regs1 }) regs2, tt)))

    module _ (can : CanLoad g t (At l0) 4) where
      second_is : l1 ≡ l0 + 1
      second_is = next_is 1 (omega arith) (open_low (l0 + 1) (can 1 (omega arith)))

      third_is : l2 ≡ l0 + 2
      third_is = next_is 2 (omega arith) (open_low (l0 + 2) (can 2 (omega arith)))

      fourth_is : l3 ≡ l0 + 3
      fourth_is = next_is 3 (omega arith) (open_low (l0 + 3) (can 3 (omega arith)))

      abbrev r1 : Regs
      r1 = apply false Lda (t.mem l2) t.regs

      abbrev z1 : Bytes
      z1 = write t.zp 2 (t.mem l2)

      abbrev r2 : Regs
      r2 = apply false Lda (t.mem l3) r1

      abbrev z2 : Bytes
      z2 = write z1 3 (t.mem l3)

      abbrev r3 : Regs
      r3 = apply false Lda (t.mem l0) r2

      abbrev r4 : Regs
      r4 = apply false Ldx (t.mem l1) r3

      other_bytes : (i : ℕ) → (i < 2) ⊎ (20 ≤ i) → z2 i ≡ t.zp i
      other_bytes i side = write_other z1 3 (t.mem l3) i (λ e. three side e) ∙ write_other t.zp 2 (t.mem l2) i (λ e. two side e)
        where
          three : (i < 2) ⊎ (20 ≤ i) → i ≡ 3 → ⊥
          three (inl h) e = omega (arith, h, e)
          three (inr h) e = omega (arith, h, e)

          two : (i < 2) ⊎ (20 ≤ i) → i ≡ 2 → ⊥
          two (inl h) e = omega (arith, h, e)
          two (inr h) e = omega (arith, h, e)

      second_stays : (i : ℕ) → 10 ≤ i → z2 i ≡ t.zp i
      second_stays i le = write_other z1 3 (t.mem l3) i (λ e. omega (arith, le, e)) ∙ write_other t.zp 2 (t.mem l2) i (λ e. omega (arith, le, e))

      long_is : eax_of (record t { regs = r4; zp = z2 }) ≡ number_in (stored_at t (At l0)) 4 0
      long_is =
          let here : l0 ≡ l0 + 0 = omega arith in
          let m0 : t.mem l0 ≡ t.mem (l0 + 0) = ap t.mem here in
          let m1 : t.mem l1 ≡ t.mem (l0 + 1) = ap t.mem second_is in
          let m2 : z2 2 ≡ t.mem (l0 + 2) = write_other z1 3 (t.mem l3) 2 (λ e. omega (arith, e)) ∙ (write_same t.zp 2 (t.mem l2) ∙ ap t.mem third_is) in
          let m3 : z2 3 ≡ t.mem (l0 + 3) = write_same z1 3 (t.mem l3) ∙ ap t.mem fourth_is in
          omega (arith, m0, m1, m2, m3)

      four_safe : AreSafe g (data_code s off Four) t
      four_safe = (
        refl,
        subst (IsOpen g.place (sp_of t)) (sym third_is) (can 2 (omega arith)),
        tt,
        kept_regs t r1,
        (
          refl,
          (omega arith, λ _. omega arith),
          tt,
          kept_zero (record t { regs = r1 }) 2 (t.mem l2) (omega arith),
          (
            refl,
            opened fourth_is (can 3 (omega arith)),
            tt,
            kept_regs (record t { regs = r1; zp = z1 }) r2,
            (
              refl,
              (omega arith, λ _. omega arith),
              tt,
              kept_zero (record t { regs = r2; zp = z1 }) 3 (t.mem l3) (omega arith),
              (
                refl,
                first_open 4 (omega arith) can,
                tt,
                kept_regs (record t { regs = r2; zp = z2 }) r3,
                (refl, opened second_is (can 1 (omega arith)), tt, kept_regs (record t { regs = r3; zp = z2 }) r4, tt),
              ),
            ),
          ),
        ),
      )
        where
          opened : {m n : ℕ} → m ≡ n → IsOpen g.place (sp_of t) n → IsOpen g.place (sp_of t) m
          opened e o = subst (IsOpen g.place (sp_of t)) (sym e) o

      four_at_symbol : Leads g a (data_code s off Four) 270 t (Behind Four (At l0))
      four_at_symbol =
          leads_as g a (data_code s off Four) 6 270 t (λ u. (u ≡ after_lines g (data_code s off Four) t) × IsBytes u) (Behind Four (At l0)) (omega arith)
          (λ u e. rw e.0 (kept_later g a pushed needs c w k t placed r r4 z2 other_bytes (subst IsBytes e.0 e.1), long_is, record { low = second_stays 10 (omega arith); high = second_stays 11 (omega arith) })) (lines_lead g a (data_code s off Four) t placed on four_safe)

  -- ---- behind the address in AX

  module _ (at : ℕ) (small : at ≤ 250) where
    abbrev q : Spot
    q = At (ax_of t + at)

    abbrev p8 : Bytes
    p8 = write t.zp 8 t.regs.a

    abbrev p9 : Bytes
    p9 = write p8 9 t.regs.x

    pointer_others : (i : ℕ) → (i < 2) ⊎ (20 ≤ i) → p9 i ≡ t.zp i
    pointer_others i side = write_other p8 9 t.regs.x i (λ e. nine side e) ∙ write_other t.zp 8 t.regs.a i (λ e. eight side e)
      where
        nine : (i < 2) ⊎ (20 ≤ i) → i ≡ 9 → ⊥
        nine (inl h) e = omega (arith, h, e)
        nine (inr h) e = omega (arith, h, e)

        eight : (i < 2) ⊎ (20 ≤ i) → i ≡ 8 → ⊥
        eight (inl h) e = omega (arith, h, e)
        eight (inr h) e = omega (arith, h, e)

    second_left : (i : ℕ) → 10 ≤ i → p9 i ≡ t.zp i
    second_left i le = write_other p8 9 t.regs.x i (λ e. omega (arith, le, e)) ∙ write_other t.zp 8 t.regs.a i (λ e. omega (arith, le, e))

    by_pointer : (extent : Extent) (regs : Regs) (u : State) → u ≡ record t { regs = regs; zp = p9 } → IsBytes u → IsLoaded extent q t (record t { regs = regs; zp = p9 }) → Behind extent q u
    by_pointer extent regs u e b loaded = rw e (kept_later g a pushed needs c w k t placed r regs p9 pointer_others (subst IsBytes e b), loaded, record { low = second_left 10 (omega arith); high = second_left 11 (omega arith) })

    one_far : CanLoad g t q 1 → Leads g a (far_code at One) 270 t (Behind One q)
    one_far can =
        let here : ax_of t + at + 0 ≡ ax_of t + at = omega arith in
        let opened : IsOpen g.place (sp_of t) (ax_of t + at) = subst (IsOpen g.place (sp_of t)) here (can 0 (omega arith)) in
        let from : ℕ = after (ax_of t) at in
        let place : from ≡ ax_of t + at = let low = open_low (ax_of t + at) opened in omega (arith, low) in
        let regs1 : Regs = apply false Ldy at t.regs in
        let regs2 : Regs = apply false Lda (t.mem from) regs1 in
        let byte : t.mem from ≡ t.mem (ax_of t + at + 0) + 256 * 0 = ap t.mem (place ∙ sym here) ∙ omega arith in
        leads_as g a (far_code at One) 4 270 t (λ u. (u ≡ after_lines g (far_code at One) t) × IsBytes u) (Behind One q) (omega arith) (λ u e. by_pointer One regs2 u e.0 e.1 byte)
        (lines_lead g a (far_code at One) t placed on (
          refl,
          (omega arith, λ _. omega arith),
          tt,
          kept_zero t 8 t.regs.a (omega arith),
          (
            refl,
            (omega arith, λ _. omega arith),
            tt,
            kept_zero (record t { zp = p8 }) 9 t.regs.x (omega arith),
            (
              refl,
              tt,
              omega (arith, small),
              kept_regs (record t { zp = p9 }) regs1,
              (refl, subst (IsOpen g.place (sp_of t)) (sym place) opened, tt, kept_regs (record t { regs = regs1; zp = p9 }) regs2, tt),
            ),
          ),
        ))

    two_far : CanLoad g t q 2 → Leads g a (far_code at Two) 270 t (Behind Two q)
    two_far can =
        let y1 : ℕ = byte_more at 1 in
        let f1 : ℕ = after (ax_of t) y1 in
        let f0 : ℕ = after (ax_of t) ((y1 + 255) % 256) in
        let low1 = open_low (ax_of t + at + 1) (can 1 (omega arith)) in
        let is1 : f1 ≡ ax_of t + at + 1 = omega (arith, small, low1) in
        let is0 : f0 ≡ ax_of t + at + 0 = omega (arith, small, low1) in
        let s1 : Regs = apply false Ldy y1 t.regs in
        let s2 : Regs = apply false Lda (t.mem f1) s1 in
        let s3 : Regs = apply false Tax 0 s2 in
        let s4 : Regs = apply false Dey 0 s3 in
        let s5 : Regs = apply false Lda (t.mem f0) s4 in
        let low : t.mem f0 ≡ t.mem (ax_of t + at + 0) = ap t.mem is0 in
        let high : t.mem f1 ≡ t.mem (ax_of t + at + 1) = ap t.mem is1 in
        leads_as g a (far_code at Two) 7 270 t (λ u. (u ≡ after_lines g (far_code at Two) t) × IsBytes u) (Behind Two q) (omega arith) (λ u e. by_pointer Two s5 u e.0 e.1 (omega (arith, low, high)))
        (lines_lead g a (far_code at Two) t placed on (
          refl,
          (omega arith, λ _. omega arith),
          tt,
          kept_zero t 8 t.regs.a (omega arith),
          (
            refl,
            (omega arith, λ _. omega arith),
            tt,
            kept_zero (record t { zp = p8 }) 9 t.regs.x (omega arith),
            (
              refl,
              tt,
              omega arith,
              kept_regs (record t { zp = p9 }) s1,
              (
                refl,
                subst (IsOpen g.place (sp_of t)) (sym is1) (can 1 (omega arith)),
                tt,
                kept_regs (record t { regs = s1; zp = p9 }) s2,
                (
                  refl,
                  tt,
                  omega arith,
                  kept_regs (record t { regs = s2; zp = p9 }) s3,
                  (
                    refl,
                    tt,
                    omega arith,
                    kept_regs (record t { regs = s3; zp = p9 }) s4,
                    (refl, subst (IsOpen g.place (sp_of t)) (sym is0) (can 0 (omega arith)), tt, kept_regs (record t { regs = s4; zp = p9 }) s5, tt),
                  ),
                ),
              ),
            ),
          ),
        ))

  -- a long word at the address in AX
  long_there : (u v : State) (at : ℕ) → ax_of u ≡ at → u.mem ≡ t.mem → eax_of v ≡ word_at u.mem (ax_of u) + 65536 * word_at u.mem (ax_of u + 2) → IsLoaded Four (At at) t v
  long_there u v at ax mem x =
      let byte : (i : ℕ) → u.mem (ax_of u + i) ≡ t.mem (at + i) = λ i. ap (λ (n : ℕ). u.mem (n + i)) ax ∙ ap (λ (m : Bytes). m (at + i)) mem in
      let m0 = byte 0 in
      let m1 = byte 1 in
      let m2 = byte 2 in
      let m3 = byte 3 in
      let here : u.mem (ax_of u) ≡ u.mem (ax_of u + 0) = let place : ax_of u ≡ ax_of u + 0 = omega arith in ap u.mem place in
      let last : u.mem (ax_of u + 2 + 1) ≡ u.mem (ax_of u + 3) = let place : ax_of u + 2 + 1 ≡ ax_of u + 3 = omega arith in ap u.mem place in
      omega (arith, x, here, last, m0, m1, m2, m3)

  -- such a state that differs in registers alone
  four_from : (regs : Regs) (u : State) (at : ℕ) → u ≡ record t { regs = regs } → IsBytes u → ax_of u ≡ at → CanLoad g t (At at) 4 → Leads g a (call LdEaxi ∷ []) 256 u (Loaded Four (At at))
  four_from regs u at e b ax can =
      let kept : Kept g a c w k t c w k u = rw e (kept_later g a pushed needs c w k t placed r regs t.zp no_others (subst IsBytes e b)) in
      let ready : Ready g a pushed needs c w k u = rw e (ready_later g a pushed needs c w k t placed r regs t.zp no_others (subst IsBytes e b)) in
      let mem : u.mem ≡ t.mem = ap (λ (x : State). x.mem) e in
      leads_as g a (call LdEaxi ∷ []) 256 256 u (IsKeptWith g a c w k u (IsFarLoaded FarLong u)) (Loaded Four (At at)) (omega arith)
      (λ v x. (kept_goes_on g a c c c w w w k k k t u v kept x.kept, long_there u v at ax mem x.result))
      (runs_lead g a pushed needs c w k u LdEaxi (IsKeptWith g a c w k u (IsFarLoaded FarLong u)) (omega arith) ready (far_loads_run g a pushed needs c w k u FarLong placed ready (λ i lt. opened kept.sp i lt)))
    where
      opened : sp_of u ≡ sp_of t → (i : ℕ) → i < 4 → IsOpen g.place (sp_of u) (ax_of u + i)
      opened sp i lt = subst (λ n. IsOpen g.place n (ax_of u + i)) (sym sp) (subst (λ n. IsOpen g.place (sp_of t) (n + i)) (sym ax) (can i lt))

  -- the sum of a byte and a carry
  carried : (s : ℕ) → s < 512 → s % 256 + 256 * bit (nat_lt 255 s) ≡ s
  carried s lt = go (nat_lt 255 s) refl
    where
      go : (b : Bool) → nat_lt 255 s ≡ b → s % 256 + 256 * (if b then 1 else 0) ≡ s
      go true e = let more = ltb-true 255 s e in omega (arith, more, lt)
      go false e = let less_than = ltb-false 255 s e in omega (arith, less_than)

  module _ (at : ℕ) (small : at ≤ 250) where
    abbrev n0 : ℕ
    n0 = first at

    abbrev n1 : ℕ
    n1 = second at

    abbrev a1 : Regs
    a1 = apply false Clc 0 t.regs

    abbrev a2 : Regs
    a2 = apply false Adc n0 a1

    abbrev a3 : Regs
    a3 = apply false Tay 0 a2

    abbrev a4 : Regs
    a4 = apply false Txa 0 a3

    abbrev a5 : Regs
    a5 = apply false Adc n1 a4

    abbrev a6 : Regs
    a6 = apply false Tax 0 a5

    abbrev a7 : Regs
    a7 = apply false Tya 0 a6

    sum_is : ax_of t + at < 65536 → ax_of (record t { regs = a7 }) ≡ ax_of t + at
    sum_is low =
        let s0 : ℕ = t.regs.a + n0 + 0 in
        let c0 = carried s0 (omega (arith, r.joins.bytes.a, small)) in
        omega (arith, c0, low, small, r.joins.bytes.a, r.joins.bytes.x)

    four_far : CanLoad g t (At (ax_of t + at)) 4 → Leads g a (far_code at Four) 270 t (Loaded Four (At (ax_of t + at)))
    four_far can = go (at == 0) refl
      where
        low : ax_of t + at < 65536
        low = let h = open_low (ax_of t + at + 0) (can 0 (omega arith)) in omega (arith, h)

        sum_safe : AreSafe g (add_word_code at) t
        sum_safe = (
          refl,
          tt,
          omega arith,
          kept_regs t a1,
          (
            refl,
            tt,
            omega arith,
            kept_regs (record t { regs = a1 }) a2,
            (
              refl,
              tt,
              omega arith,
              kept_regs (record t { regs = a2 }) a3,
              (
                refl,
                tt,
                omega arith,
                kept_regs (record t { regs = a3 }) a4,
                (refl, tt, omega arith, kept_regs (record t { regs = a4 }) a5, (refl, tt, omega arith, kept_regs (record t { regs = a5 }) a6, (refl, tt, omega arith, kept_regs (record t { regs = a6 }) a7, tt))),
              ),
            ),
          ),
        )

        go : (none : Bool) → (at == 0) ≡ none → Leads g a ((if none then [] else add_word_code at ++ []) ++ (call LdEaxi ∷ [])) 270 t (Loaded Four (At (ax_of t + at)))
        go true e =
            let zero : at ≡ 0 = eqb-true at 0 e in
            leads_as g a (call LdEaxi ∷ []) 256 270 t (Loaded Four (At (ax_of t + at))) (Loaded Four (At (ax_of t + at))) (omega arith) (λ u h. h) (four_from t.regs t (ax_of t + at) refl r.joins.bytes (omega (arith, zero)) can)
        go false e =
            subst (λ ls. Leads g a (ls ++ (call LdEaxi ∷ [])) 270 t (Loaded Four (At (ax_of t + at)))) (sym (append_end (add_word_code at)))
            (leads_as g a (add_word_code at ++ (call LdEaxi ∷ [])) 263 270 t (Loaded Four (At (ax_of t + at))) (Loaded Four (At (ax_of t + at))) (omega arith) (λ u h. h)
            (leads_then g a (add_word_code at) (call LdEaxi ∷ []) 7 256 t (λ u. (u ≡ after_lines g (add_word_code at) t) × IsBytes u) (Loaded Four (At (ax_of t + at))) (lines_lead g a (add_word_code at) t placed on sum_safe) (λ u x.
            four_from a7 u (ax_of t + at) x.0 x.1 (ap ax_of x.0 ∙ sum_is low) can)))

-- ---- the law

-- from all places but the address in AX, from which four bytes are loaded by a routine that may change ptr2
abbrev pub IsLightAt : Place → Extent → Type 0
IsLightAt (Far at) Four = ⊥
IsLightAt place extent = Unit {0}

-- the same bytes, and ptr2 stays
pub bytes_are_light : (g : World) (a : Active) (pushed needs : ℕ) (c : Scene) (w : Placing) (k : Banks) (t : State) (place : Place) (extent : Extent)
    → IsPlacement g.code g.place → Ready g a pushed needs c w k t → CanLoad g t (spot_in g a t place) (bytes_of extent) → IsNear place → IsKeptThere place extent → IsLightAt place extent
    → Leads g a (bytes_code place extent) 270 t (λ u. Kept g a c w k t c w k u × IsLoaded extent (spot_in g a t place) t u × LeavesSecond t u)
bytes_are_light g a pushed needs c w k t (Bank at) One placed r can near there light = one_in_bank g a pushed needs c w k t placed r at can
bytes_are_light g a pushed needs c w k t (Bank at) Two placed r can near there light = two_in_bank g a pushed needs c w k t placed r at can
bytes_are_light g a pushed needs c w k t (Near at) One placed r can near there light = one_near g a pushed needs c w k t placed r at near can
bytes_are_light g a pushed needs c w k t (Near at) Two placed r can near there light = two_near g a pushed needs c w k t placed r at near can
bytes_are_light g a pushed needs c w k t (Near at) Four placed r can near there light = four_near g a pushed needs c w k t placed r at near can
bytes_are_light g a pushed needs c w k t (Data s off) One placed r can near there light = one_at_symbol g a pushed needs c w k t placed r s off near can
bytes_are_light g a pushed needs c w k t (Data s off) Two placed r can near there light = two_at_symbol g a pushed needs c w k t placed r s off near can
bytes_are_light g a pushed needs c w k t (Data s off) Four placed r can near there light = four_at_symbol g a pushed needs c w k t placed r s off near can
bytes_are_light g a pushed needs c w k t (Far at) One placed r can near there light = one_far g a pushed needs c w k t placed r at near can
bytes_are_light g a pushed needs c w k t (Far at) Two placed r can near there light = two_far g a pushed needs c w k t placed r at near can
bytes_are_light g a pushed needs c w k t (Far at) Four placed r can near there light = absurd light
bytes_are_light g a pushed needs c w k t (Bank at) Three placed r can near there light = absurd there
bytes_are_light g a pushed needs c w k t (Bank at) Four placed r can near there light = absurd there
bytes_are_light g a pushed needs c w k t (Near at) Three placed r can near there light = absurd there
bytes_are_light g a pushed needs c w k t (Data s off) Three placed r can near there light = absurd there
bytes_are_light g a pushed needs c w k t (Far at) Three placed r can near there light = absurd there

pub bytes_are_loaded : BytesAreLoaded
bytes_are_loaded g a pushed needs c w k t (Bank at) One placed r can near there = alone g a pushed needs c w k t placed r (bytes_code (Bank at) One) One (spot_in g a t (Bank at)) (one_in_bank g a pushed needs c w k t placed r at can)
bytes_are_loaded g a pushed needs c w k t (Bank at) Two placed r can near there = alone g a pushed needs c w k t placed r (bytes_code (Bank at) Two) Two (spot_in g a t (Bank at)) (two_in_bank g a pushed needs c w k t placed r at can)
bytes_are_loaded g a pushed needs c w k t (Near at) One placed r can near there = alone g a pushed needs c w k t placed r (bytes_code (Near at) One) One (spot_in g a t (Near at)) (one_near g a pushed needs c w k t placed r at near can)
bytes_are_loaded g a pushed needs c w k t (Near at) Two placed r can near there = alone g a pushed needs c w k t placed r (bytes_code (Near at) Two) Two (spot_in g a t (Near at)) (two_near g a pushed needs c w k t placed r at near can)
bytes_are_loaded g a pushed needs c w k t (Near at) Four placed r can near there = alone g a pushed needs c w k t placed r (bytes_code (Near at) Four) Four (spot_in g a t (Near at)) (four_near g a pushed needs c w k t placed r at near can)
bytes_are_loaded g a pushed needs c w k t (Data s off) One placed r can near there = alone g a pushed needs c w k t placed r (bytes_code (Data s off) One) One (spot_in g a t (Data s off)) (one_at_symbol g a pushed needs c w k t placed r s off near can)
bytes_are_loaded g a pushed needs c w k t (Data s off) Two placed r can near there = alone g a pushed needs c w k t placed r (bytes_code (Data s off) Two) Two (spot_in g a t (Data s off)) (two_at_symbol g a pushed needs c w k t placed r s off near can)
bytes_are_loaded g a pushed needs c w k t (Data s off) Four placed r can near there = alone g a pushed needs c w k t placed r (bytes_code (Data s off) Four) Four (spot_in g a t (Data s off)) (four_at_symbol g a pushed needs c w k t placed r s off near can)
bytes_are_loaded g a pushed needs c w k t (Far at) One placed r can near there = alone g a pushed needs c w k t placed r (bytes_code (Far at) One) One (spot_in g a t (Far at)) (one_far g a pushed needs c w k t placed r at near can)
bytes_are_loaded g a pushed needs c w k t (Far at) Two placed r can near there = alone g a pushed needs c w k t placed r (bytes_code (Far at) Two) Two (spot_in g a t (Far at)) (two_far g a pushed needs c w k t placed r at near can)
bytes_are_loaded g a pushed needs c w k t (Far at) Four placed r can near there = four_far g a pushed needs c w k t placed r at near can
bytes_are_loaded g a pushed needs c w k t (Bank at) Three placed r can near there = absurd there
bytes_are_loaded g a pushed needs c w k t (Bank at) Four placed r can near there = absurd there
bytes_are_loaded g a pushed needs c w k t (Near at) Three placed r can near there = absurd there
bytes_are_loaded g a pushed needs c w k t (Data s off) Three placed r can near there = absurd there
bytes_are_loaded g a pushed needs c w k t (Far at) Three placed r can near there = absurd there
