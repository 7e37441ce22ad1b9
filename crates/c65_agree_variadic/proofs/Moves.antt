-- Parameters move to regbank before the frame is taken: the number of bytes that the call passed tells where they lie.
use Rattle.std.proofs.Common.{◌≡◌, ℕ, zero, suc, ◌+◌, ◌-◌, ◌*◌, ◌%◌, ◌<◌, ◌≤◌, inl, inr, Bool, true, false, List, [], ◌∷◌, ◌++◌, length, refl, sym, ap, ◌∙◌, subst, arith}
use Rattle.std.specs.Prelude.{◌==◌, if◌then◌else◌, nat_lt}
use Rattle.std.proofs.lemmas.Bool.{ltb-true, ltb-false, eqb-true}
use Rattle.c65_mach.specs.declared.rows.Op.TheVariants.{Adc, Clc, Iny, Lda, Sta, Tax, Tay, Txa}
use Rattle.c65_mach.specs.State.{Regs}
use Rattle.c65_mach.specs.Step.{apply, after, bit}
use Rattle.c65_code.specs.declared.line.Line.{Line}
use Rattle.c65_code.specs.LineState.{write, State, sp_of, zero_word, IsBytes}
use Rattle.c65_code.specs.Placement.{IsPlacement, stack_end}
use Rattle.c65_genframe.specs.declared.home.Moved.{Moved}
use Rattle.c65_genwide.specs.Lines.{value}
use Rattle.c65_genentry.specs.Words.{sp, regbank, implied, zero_page, by_y}
use Rattle.c65_genentry.specs.Entry.{counted_at, counted_store, counted_move, all_counted, raised_moves}
use Rattle.c65_agree_state.specs.World.{World, Active}
use Rattle.c65_agree_rows.proofs.Quiet.{write_other, write_same}
use Rattle.c65_agree_frame.specs.Leads.{Leads, IsOn}
use Rattle.c65_agree_frame.proofs.Leads.{none_leads, leads_then, leads_as, kept_regs, kept_zero, after_lines, AreSafe, lines_lead}
use Rattle.c65_agree_registers.specs.Entries.{IsBanked, IsBeside, AreBeside, AreMoves}
use Rattle.c65_agree_registers.proofs.Loads.{Remains, remains_then, remains_on}

-- ---- a byte at a time

-- the byte so far above sp is in A
record IsRead (at : ℕ) (t u : State) : Type 0 where
  a : u.regs.a ≡ t.mem (sp_of t + at)
  y : u.regs.y ≡ at
  x : u.regs.x ≡ t.regs.x
  zp : (q : ℕ) → u.zp q ≡ t.zp q
  remains : Remains t u

-- A is in a byte of the zero page
record IsKeptAt (byte : ℕ) (t u : State) : Type 0 where
  there : u.zp byte ≡ t.regs.a
  others : (q : ℕ) → (q ≡ byte → ⊥) → u.zp q ≡ t.zp q
  y : u.regs.y ≡ t.regs.y
  x : u.regs.x ≡ t.regs.x
  remains : Remains t u

-- so many bytes from there on are in regbank
record IsMoved (bank bytes at : ℕ) (t u : State) : Type 0 where
  there : (i : ℕ) → i < bytes → u.zp (20 + (bank + i)) ≡ t.mem (sp_of t + at + i)
  others : (i : ℕ) → i < 6 → IsBeside i bank bytes → u.zp (20 + i) ≡ t.zp (20 + i)
  x : u.regs.x ≡ t.regs.x
  remains : Remains t u

-- the bytes of each are in regbank, from where they lay when the automatic objects were not taken yet
abbrev pub AreRead : ℕ → ℕ → List Moved → State → State → Type 0
AreRead soft higher [] t u = Unit {0}
AreRead soft higher (m ∷ ms) t u = ((i : ℕ) → i < m.bytes → u.zp (20 + (m.bank + i)) ≡ t.mem (sp_of t + (m.from + higher - soft) + i)) × AreRead soft higher ms t u

pub record AllRead (soft higher : ℕ) (ms : List Moved) (t u : State) : Type 0 where
  pub read : AreRead soft higher ms t u
  pub others : (i : ℕ) → i < 6 → AreBeside i ms → u.zp (20 + i) ≡ t.zp (20 + i)
  pub x : u.regs.x ≡ t.regs.x
  pub remains : Remains t u

-- with the number back in A
pub record IsEarly (soft higher : ℕ) (ms : List Moved) (t u : State) : Type 0 where
  pub number : u.regs.a ≡ t.regs.a
  pub read : AreRead soft higher ms t u
  pub others : (i : ℕ) → i < 6 → AreBeside i ms → u.zp (20 + i) ≡ t.zp (20 + i)
  pub remains : Remains t u

module _ (g : World) (a : Active) (placed : IsPlacement g.code g.place) where
  -- only registers change
  regs_remain : (t u : State) (r : Regs) → u ≡ record t { regs = r } → IsBytes u → Remains t u
  regs_remain t u r e b = record {
    sp = ap sp_of e;
    mem = λ n side. ap (λ (z : State). z.mem n) e;
    pushed = ap (λ (z : State). z.pushed) e;
    frames = ap (λ (z : State). z.frames) e;
    input = ap (λ (z : State). z.input) e;
    output = ap (λ (z : State). z.output) e;
    ended = ap (λ (z : State). z.ended) e;
    bytes = b;
  }

  -- ---- the first byte

  abbrev first_code : ℕ → List Line
  first_code k = implied Txa ∷ implied Clc ∷ value Adc k ∷ implied Tay ∷ by_y Lda sp ∷ []

  module _ (k at : ℕ) (t : State) (on : IsOn g t) (small : k < 256) (sum : (t.regs.x + k) % 256 ≡ at) (fits : sp_of t + at < stack_end) where
    abbrev r1 : Regs
    r1 = apply false Txa 0 t.regs

    abbrev r2 : Regs
    r2 = apply false Clc 0 r1

    abbrev r3 : Regs
    r3 = apply false Adc k r2

    abbrev r4 : Regs
    r4 = apply false Tay 0 r3

    abbrev from : ℕ
    from = after (zero_word t 0) r4.y

    y_is : r4.y ≡ at
    y_is = let none : (t.regs.x + k + bit false) % 256 ≡ (t.regs.x + k) % 256 = omega arith in none ∙ sum

    from_is : from ≡ sp_of t + at
    from_is = omega (arith, y_is, fits)

    abbrev r5 : Regs
    r5 = apply false Lda (t.mem from) r4

    first_safe : AreSafe g (first_code k) t
    first_safe = (
      refl,
      tt,
      omega arith,
      kept_regs t r1,
      (
        refl,
        tt,
        omega arith,
        kept_regs (record t { regs = r1 }) r2,
        (refl, tt, small, kept_regs (record t { regs = r2 }) r3, (refl, tt, omega arith, kept_regs (record t { regs = r3 }) r4, (refl, inr (omega (arith, from_is), omega (arith, from_is, fits)), tt, kept_regs (record t { regs = r4 }) r5, tt))),
      ),
    )

    first_leads : Leads g a (first_code k) 5 t (IsRead at t)
    first_leads = leads_as g a (first_code k) 5 5 t (λ u. (u ≡ after_lines g (first_code k) t) × IsBytes u) (IsRead at t) (omega arith) (λ u e. read u e.0 e.1) (lines_lead g a (first_code k) t placed on first_safe)
      where
        read : (u : State) → u ≡ record t { regs = r5 } → IsBytes u → IsRead at t u
        read u e b = record {
          a = ap (λ (z : State). z.regs.a) e ∙ ap t.mem from_is;
          y = ap (λ (z : State). z.regs.y) e ∙ y_is;
          x = ap (λ (z : State). z.regs.x) e;
          zp = λ q. ap (λ (z : State). z.zp q) e;
          remains = regs_remain t u r5 e b;
        }

  -- ---- the next one

  abbrev next_code : List Line
  next_code = implied Iny ∷ by_y Lda sp ∷ []

  module _ (at : ℕ) (t : State) (on : IsOn g t) (y : t.regs.y ≡ at) (small : at + 1 < 256) (fits : sp_of t + (at + 1) < stack_end) where
    abbrev s1 : Regs
    s1 = apply false Iny 0 t.regs

    abbrev next_from : ℕ
    next_from = after (zero_word t 0) s1.y

    next_is : next_from ≡ sp_of t + (at + 1)
    next_is = omega (arith, y, small, fits)

    abbrev s2 : Regs
    s2 = apply false Lda (t.mem next_from) s1

    next_safe : AreSafe g next_code t
    next_safe = (refl, tt, omega arith, kept_regs t s1, (refl, inr (omega (arith, next_is), omega (arith, next_is, fits)), tt, kept_regs (record t { regs = s1 }) s2, tt))

    next_leads : Leads g a next_code 2 t (IsRead (at + 1) t)
    next_leads = leads_as g a next_code 2 2 t (λ u. (u ≡ after_lines g next_code t) × IsBytes u) (IsRead (at + 1) t) (omega arith) (λ u e. read u e.0 e.1) (lines_lead g a next_code t placed on next_safe)
      where
        read : (u : State) → u ≡ record t { regs = s2 } → IsBytes u → IsRead (at + 1) t u
        read u e b = record {
          a = ap (λ (z : State). z.regs.a) e ∙ ap t.mem next_is;
          y = ap (λ (z : State). z.regs.y) e ∙ omega (arith, y, small);
          x = ap (λ (z : State). z.regs.x) e;
          zp = λ q. ap (λ (z : State). z.zp q) e;
          remains = regs_remain t u s2 e b;
        }

  -- ---- a store

  store_leads : (byte at : ℕ) (t : State) → IsOn g t → byte ≡ at → 20 ≤ at → at < 26 → Leads g a (zero_page Sta byte ∷ []) 1 t (IsKeptAt at t)
  store_leads byte at t on is low high =
      leads_as g a (zero_page Sta byte ∷ []) 1 1 t (λ u. (u ≡ after_lines g (zero_page Sta byte ∷ []) t) × IsBytes u) (IsKeptAt at t) (omega arith) (λ u e. kept u e.0 e.1)
      (lines_lead g a (zero_page Sta byte ∷ []) t placed on (refl, (omega (arith, is, high), λ _. omega (arith, is, low)), tt, kept_zero t byte t.regs.a (omega (arith, is, low)), tt))
    where
      kept : (u : State) → u ≡ record t { zp = write t.zp byte t.regs.a } → IsBytes u → IsKeptAt at t u
      kept u e b = record {
        there = new at ∙ write_same t.zp at t.regs.a;
        others = λ q ne. new q ∙ write_other t.zp at t.regs.a q ne;
        y = ap (λ (z : State). z.regs.y) e;
        x = ap (λ (z : State). z.regs.x) e;
        remains = record {
          sp = ap sp_of e ∙ omega (arith, beside 0 (λ z. omega (arith, z, low)), beside 1 (λ z. omega (arith, z, low)));
          mem = λ n side. ap (λ (z : State). z.mem n) e;
          pushed = ap (λ (z : State). z.pushed) e;
          frames = ap (λ (z : State). z.frames) e;
          input = ap (λ (z : State). z.input) e;
          output = ap (λ (z : State). z.output) e;
          ended = ap (λ (z : State). z.ended) e;
          bytes = b;
        };
      }
        where
          new : (q : ℕ) → u.zp q ≡ write t.zp at t.regs.a q
          new q = ap (λ (z : State). z.zp q) e ∙ ap (λ (k : ℕ). write t.zp k t.regs.a q) is

          beside : (q : ℕ) → (q ≡ at → ⊥) → write t.zp byte t.regs.a q ≡ t.zp q
          beside q ne = ap (λ (k : ℕ). write t.zp k t.regs.a q) is ∙ write_other t.zp at t.regs.a q ne

  -- ---- one parameter

  module _ (k bank bytes at : ℕ) (t : State) (on : IsOn g t) (banked : IsBanked 6 bank bytes) (small : k < 256) (sum : (t.regs.x + k) % 256 ≡ at) (near : at + bytes ≤ 256) (fits : sp_of t + (at + bytes) ≤ stack_end) where
    abbrev low_byte : ℕ
    low_byte = (regbank + bank) % 256

    abbrev high_byte : ℕ
    high_byte = (low_byte + 1) % 256

    low_is : low_byte ≡ 20 + bank
    low_is = omega (arith, banked.within)

    high_is : high_byte ≡ 20 + (bank + 1)
    high_is = omega (arith, banked.within)

    -- the first byte is stored
    stored : (u v : State) → IsRead at t u → IsKeptAt (20 + bank) u v → IsMoved bank 1 at t v
    stored u v r s = record {
      there = λ i lt. only i lt;
      others = λ i lt beside. s.others (20 + i) (apart i beside) ∙ r.zp (20 + i);
      x = s.x ∙ r.x;
      remains = remains_then t u v r.remains s.remains;
    }
      where
        only : (i : ℕ) → i < 1 → v.zp (20 + (bank + i)) ≡ t.mem (sp_of t + at + i)
        only zero lt =
            let here : 20 + (bank + 0) ≡ 20 + bank = omega arith in
            let there : sp_of t + at ≡ sp_of t + at + 0 = omega arith in
            ap v.zp here ∙ (s.there ∙ (r.a ∙ ap t.mem there))
        only (suc i) lt = absurd (omega (arith, lt))

        apart : (i : ℕ) → IsBeside i bank 1 → 20 + i ≡ 20 + bank → ⊥
        apart i (inl lt) e = omega (arith, lt, e)
        apart i (inr le) e = omega (arith, le, e)

    one_leads : Leads g a (first_code k ++ zero_page Sta low_byte ∷ []) 6 t (λ v. IsMoved bank 1 at t v × (v.regs.y ≡ at))
    one_leads =
        leads_then g a (first_code k) (zero_page Sta low_byte ∷ []) 5 1 t (IsRead at t) (λ v. IsMoved bank 1 at t v × (v.regs.y ≡ at)) (first_leads k at t on small sum (omega (arith, fits, banked.some))) (λ u r.
        leads_as g a (zero_page Sta low_byte ∷ []) 1 1 u (IsKeptAt (20 + bank) u) (λ v. IsMoved bank 1 at t v × (v.regs.y ≡ at)) (omega arith) (λ v s. (stored u v r s, s.y ∙ r.y))
        (store_leads low_byte (20 + bank) u (remains_on g a placed t u on r.remains) low_is (omega arith) (omega (arith, banked.within, banked.some))))

    -- and the second
    two_leads : bytes ≡ 2 → Leads g a ((first_code k ++ zero_page Sta low_byte ∷ []) ++ (next_code ++ zero_page Sta high_byte ∷ [])) 9 t (IsMoved bank 2 at t)
    two_leads both =
        leads_then g a (first_code k ++ zero_page Sta low_byte ∷ []) (next_code ++ zero_page Sta high_byte ∷ []) 6 3 t (λ v. IsMoved bank 1 at t v × (v.regs.y ≡ at)) (IsMoved bank 2 at t) one_leads (λ u h.
        let r : Remains t u = h.0.remains in
        let on2 : IsOn g u = remains_on g a placed t u on r in
        leads_then g a next_code (zero_page Sta high_byte ∷ []) 2 1 u (IsRead (at + 1) u) (IsMoved bank 2 at t) (next_leads at u on2 h.1 (omega (arith, near, both)) (omega (arith, fits, both, r.sp))) (λ v n.
        leads_as g a (zero_page Sta high_byte ∷ []) 1 1 v (IsKeptAt (20 + (bank + 1)) v) (IsMoved bank 2 at t) (omega arith) (λ w s. all u v w h.0 n s)
        (store_leads high_byte (20 + (bank + 1)) v (remains_on g a placed u v on2 n.remains) high_is (omega arith) (omega (arith, banked.within, both)))))
      where
        all : (u v w : State) → IsMoved bank 1 at t u → IsRead (at + 1) u v → IsKeptAt (20 + (bank + 1)) v w → IsMoved bank 2 at t w
        all u v w h n s = record {
          there = λ i lt. each i lt;
          others = λ i lt beside. s.others (20 + i) (apart i beside) ∙ (n.zp (20 + i) ∙ h.others i lt (nearer i beside));
          x = s.x ∙ (n.x ∙ h.x);
          remains = remains_then t u w h.remains (remains_then u v w n.remains s.remains);
        }
          where
            each : (i : ℕ) → i < 2 → w.zp (20 + (bank + i)) ≡ t.mem (sp_of t + at + i)
            each zero lt = s.others (20 + (bank + 0)) (λ e. omega (arith, e)) ∙ (n.zp (20 + (bank + 0)) ∙ h.there 0 (omega arith))
            each (suc zero) lt =
                let place : sp_of u + (at + 1) ≡ sp_of t + at + 1 = omega (arith, h.remains.sp) in
                s.there ∙ (n.a ∙ (ap u.mem place ∙ h.remains.mem (sp_of t + at + 1) (inr (omega arith))))
            each (suc (suc i)) lt = absurd (omega (arith, lt))

            apart : (i : ℕ) → IsBeside i bank 2 → 20 + i ≡ 20 + (bank + 1) → ⊥
            apart i (inl lt) e = omega (arith, lt, e)
            apart i (inr le) e = omega (arith, le, e)

            nearer : (i : ℕ) → IsBeside i bank 2 → IsBeside i bank 1
            nearer i (inl lt) = inl lt
            nearer i (inr le) = inr (omega (arith, le))

    move_leads : Leads g a (first_code k ++ counted_store bank bytes) 9 t (IsMoved bank bytes at t)
    move_leads = go (nat_lt bytes 2) refl
      where
        go : (b : Bool) → nat_lt bytes 2 ≡ b → Leads g a (first_code k ++ (if b then zero_page Sta low_byte ∷ [] else zero_page Sta low_byte ∷ implied Iny ∷ by_y Lda sp ∷ zero_page Sta high_byte ∷ [])) 9 t (IsMoved bank bytes at t)
        go true e =
            let few : bytes < 2 = ltb-true bytes 2 e in
            let one : 1 ≡ bytes = omega (arith, few, banked.some) in
            leads_as g a (first_code k ++ zero_page Sta low_byte ∷ []) 6 9 t (λ v. IsMoved bank 1 at t v × (v.regs.y ≡ at)) (IsMoved bank bytes at t) (omega arith) (λ v h. subst (λ n. IsMoved bank n at t v) one h.0) one_leads
        go false e =
            let many : 2 ≤ bytes = ltb-false bytes 2 e in
            let two : 2 ≡ bytes = omega (arith, many, banked.few) in
            leads_as g a ((first_code k ++ zero_page Sta low_byte ∷ []) ++ (next_code ++ zero_page Sta high_byte ∷ [])) 9 9 t (IsMoved bank 2 at t) (IsMoved bank bytes at t) (omega arith) (λ v h. subst (λ n. IsMoved bank n at t v) two h) (two_leads (sym two))

  -- ---- all of them

  -- where lay as much in t and u
  read_from : (soft higher : ℕ) (ms : List Moved) (t u v : State) → Remains t u → AreRead soft higher ms u v → AreRead soft higher ms t v
  read_from soft higher [] t u v r h = tt
  read_from soft higher (m ∷ ms) t u v r h = (first, read_from soft higher ms t u v r h.1)
    where
      first : (i : ℕ) → i < m.bytes → v.zp (20 + (m.bank + i)) ≡ t.mem (sp_of t + (m.from + higher - soft) + i)
      first i lt =
          let same : sp_of u + (m.from + higher - soft) + i ≡ sp_of t + (m.from + higher - soft) + i = omega (arith, r.sp) in
          h.0 i lt ∙ (ap u.mem same ∙ r.mem (sp_of t + (m.from + higher - soft) + i) (inr (omega arith)))

  moves_lead : (ms : List Moved) (soft saved stacked count : ℕ) (t : State) → saved ≤ 6 → IsOn g t → AreMoves saved (soft + saved) (soft + saved + stacked) ms → t.regs.x ≡ count → stacked ≤ count → count + saved ≤ 256 → sp_of t + (saved + count) ≤ stack_end
      → Leads g a (all_counted soft stacked ms) (9 * length ms) t (AllRead soft (count - stacked) ms t)
  moves_lead [] soft saved stacked count t six on moves x le near fits = none_leads g a t (AllRead soft (count - stacked) [] t) (record {
    read = tt;
    others = λ i lt beside. refl;
    x = refl;
    remains = record { sp = refl; mem = λ n side. refl; pushed = refl; frames = refl; input = refl; output = refl; ended = refl; bytes = on.stacks.calm.bytes };
  })
  moves_lead (m ∷ ms) soft saved stacked count t six on moves x le near fits =
      leads_as g a (all_counted soft stacked (m ∷ ms)) (9 + 9 * length ms) (9 * length (m ∷ ms)) t (AllRead soft (count - stacked) (m ∷ ms) t) (AllRead soft (count - stacked) (m ∷ ms) t) (omega arith) (λ u h. h)
      (leads_then g a (counted_move soft stacked m) (all_counted soft stacked ms) 9 (9 * length ms) t (IsMoved m.bank m.bytes (m.from + (count - stacked) - soft) t) (AllRead soft (count - stacked) (m ∷ ms) t)
      (move_leads (counted_at soft stacked m.from) m.bank m.bytes (m.from + (count - stacked) - soft) t on banked (omega arith) sum (omega (arith, low, high, near, le)) (omega (arith, low, high, fits, le))) (λ u first.
      leads_as g a (all_counted soft stacked ms) (9 * length ms) (9 * length ms) u (AllRead soft (count - stacked) ms u) (AllRead soft (count - stacked) (m ∷ ms) t) (omega arith) (λ v rest. both u v first rest)
      (moves_lead ms soft saved stacked count u six (remains_on g a placed t u on first.remains) moves.4 (first.x ∙ x) le near (omega (arith, first.remains.sp, fits)))))
    where
      low : soft + saved ≤ m.from
      low = moves.1

      high : m.from + m.bytes ≤ soft + saved + stacked
      high = moves.2

      banked : IsBanked 6 m.bank m.bytes
      banked = record { some = moves.0.some; few = moves.0.few; within = omega (arith, six, moves.0.within) }

      sum : (t.regs.x + counted_at soft stacked m.from) % 256 ≡ (m.from + (count - stacked) - soft)
      sum = omega (arith, x, low, high, le, near, moves.0.some)

      both : (u v : State) → IsMoved m.bank m.bytes (m.from + (count - stacked) - soft) t u → AllRead soft (count - stacked) ms u v → AllRead soft (count - stacked) (m ∷ ms) t v
      both u v first rest = record {
        read = (here, read_from soft (count - stacked) ms t u v first.remains rest.read);
        others = λ i lt beside. rest.others i lt beside.1 ∙ first.others i lt beside.0;
        x = rest.x ∙ first.x;
        remains = remains_then t u v first.remains rest.remains;
      }
        where
          here : (i : ℕ) → i < m.bytes → v.zp (20 + (m.bank + i)) ≡ t.mem (sp_of t + (m.from + (count - stacked) - soft) + i)
          here i lt = rest.others (m.bank + i) (omega (arith, lt, banked.within)) (moves.3 i lt) ∙ first.there i lt

  -- ---- with the number back in A

  module _ (ms : List Moved) (soft saved stacked : ℕ) (t : State) (six : saved ≤ 6) (on : IsOn g t) (moves : AreMoves saved (soft + saved) (soft + saved + stacked) ms) (le : stacked ≤ t.regs.a) (near : t.regs.a + saved ≤ 256) (fits : sp_of t + (saved + t.regs.a) ≤ stack_end) where
    abbrev higher : ℕ
    higher = t.regs.a - stacked

    abbrev Early : State → Type 0
    Early u = IsEarly soft higher ms t u

    abbrev x1 : Regs
    x1 = apply false Tax 0 t.regs

    abbrev t1 : State
    t1 = record t { regs = x1 }

    behind : (u : State) → u ≡ t1 → IsBytes u → Leads g a (all_counted soft stacked ms ++ implied Txa ∷ []) (9 * length ms + 1) u Early
    behind u e b =
        let r : Remains t u = regs_remain t u x1 e b in
        let on1 : IsOn g u = remains_on g a placed t u on r in
        let x : u.regs.x ≡ t.regs.a = ap (λ (z : State). z.regs.x) e in
        leads_then g a (all_counted soft stacked ms) (implied Txa ∷ []) (9 * length ms) 1 u (AllRead soft higher ms u) Early (moves_lead ms soft saved stacked t.regs.a u six on1 moves x le near (omega (arith, fits, r.sp))) (λ v h.
        leads_as g a (implied Txa ∷ []) 1 1 v (λ w. (w ≡ after_lines g (implied Txa ∷ []) v) × IsBytes w) Early (omega arith) (λ w f. last v w r x h f.0 f.1)
        (lines_lead g a (implied Txa ∷ []) v placed (remains_on g a placed u v on1 h.remains) (refl, tt, omega arith, kept_regs v (apply false Txa 0 v.regs), tt)))
      where
        last : (v w : State) → Remains t u → u.regs.x ≡ t.regs.a → AllRead soft higher ms u v → w ≡ record v { regs = apply false Txa 0 v.regs } → IsBytes w → Early w
        last v w r x h f c =
            let r2 : Remains v w = regs_remain v w (apply false Txa 0 v.regs) f c in
            record {
              number = ap (λ (z : State). z.regs.a) f ∙ (h.x ∙ x);
              read = stays ms (read_from soft higher ms t u v r h.read);
              others = λ i lt beside. ap (λ (z : State). z.zp (20 + i)) f ∙ (h.others i lt beside ∙ same (20 + i));
              remains = remains_then t u w r (remains_then u v w h.remains r2);
            }
          where
            same : (q : ℕ) → u.zp q ≡ t.zp q
            same q = ap (λ (z : State). z.zp q) e

            stays : (ls : List Moved) → AreRead soft higher ls t v → AreRead soft higher ls t w
            stays [] k = tt
            stays (m ∷ ls) k = (λ i lt. ap (λ (z : State). z.zp (20 + (m.bank + i))) f ∙ k.0 i lt, stays ls k.1)

    pub early_leads : Leads g a (raised_moves soft stacked ms) (9 * length ms + 2) t Early
    early_leads = go (length ms == 0) refl
      where
        none : (ls : List Moved) → length ls ≡ 0 → AreRead soft higher ls t t
        none [] e = tt
        none (m ∷ ls) e = absurd (omega (arith, e))

        go : (b : Bool) → (length ms == 0) ≡ b → Leads g a (if b then [] else implied Tax ∷ (all_counted soft stacked ms ++ implied Txa ∷ [])) (9 * length ms + 2) t Early
        go true e =
            leads_as g a [] 0 (9 * length ms + 2) t Early Early (omega arith) (λ u h. h) (none_leads g a t Early (record {
              number = refl;
              read = none ms (eqb-true (length ms) 0 e);
              others = λ i lt beside. refl;
              remains = record { sp = refl; mem = λ n side. refl; pushed = refl; frames = refl; input = refl; output = refl; ended = refl; bytes = on.stacks.calm.bytes };
            }))
        go false e =
            leads_as g a (implied Tax ∷ (all_counted soft stacked ms ++ implied Txa ∷ [])) (1 + (9 * length ms + 1)) (9 * length ms + 2) t Early Early (omega arith) (λ u h. h)
            (leads_then g a (implied Tax ∷ []) (all_counted soft stacked ms ++ implied Txa ∷ []) 1 (9 * length ms + 1) t (λ u. (u ≡ t1) × IsBytes u) Early (lines_lead g a (implied Tax ∷ []) t placed on (refl, tt, omega arith, kept_regs t x1, tt)) (λ u h. behind u h.0 h.1))
