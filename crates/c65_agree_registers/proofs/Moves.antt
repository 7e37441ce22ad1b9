-- Parameters move from the software stack to regbank.
use Rattle.std.proofs.Common.{◌≡◌, ℕ, zero, suc, ◌+◌, ◌*◌, ◌%◌, ◌<◌, ◌≤◌, inl, inr, Bool, true, false, List, [], ◌∷◌, length, refl, sym, ap, ◌∙◌, arith}
use Rattle.std.specs.Prelude.{if◌then◌else◌, nat_lt}
use Rattle.std.proofs.lemmas.Bool.{ltb-true, ltb-false}
use Rattle.c65_mach.specs.declared.rows.Op.TheVariants.{Sta, Stx}
use Rattle.c65_code.specs.declared.line.Line.{Line}
use Rattle.c65_code.specs.LineState.{Bytes, write, State, sp_of, IsBytes}
use Rattle.c65_code.specs.Placement.{IsPlacement, stack_end}
use Rattle.c65_genframe.specs.declared.home.Moved.{Moved}
use Rattle.c65_genentry.specs.Words.{regbank, zero_page}
use Rattle.c65_genentry.specs.Entry.{bank_store, load_code, moved_code, all_moved}
use Rattle.c65_agree_state.specs.World.{World, Active}
use Rattle.c65_agree_rows.proofs.Quiet.{write_other, write_same}
use Rattle.c65_agree_frame.specs.Leads.{Leads, IsOn}
use Rattle.c65_agree_frame.proofs.Leads.{none_leads, leads_then, leads_as, kept_zero, after_lines, AreSafe, lines_lead}
use Rattle.c65_agree_registers.specs.Entries.{IsBanked, IsBeside, AreBeside, AreMoves, AreMoved, register_byte}
use Rattle.c65_agree_registers.proofs.Loads.{Remains, remains_then, IsLoaded, remains_on, loads_lead}

pub of_six : (taken bank bytes : ℕ) → taken ≤ 6 → IsBanked taken bank bytes → IsBanked 6 bank bytes
of_six taken bank bytes six h = record { some = h.some; few = h.few; within = omega (arith, six, h.within) }

-- ---- A and X go to regbank

pub record IsStored (bank bytes : ℕ) (t u : State) : Type 0 where
  pub there : (i : ℕ) → i < bytes → u.zp (20 + (bank + i)) ≡ register_byte i t
  pub others : (i : ℕ) → i < 6 → IsBeside i bank bytes → u.zp (20 + i) ≡ t.zp (20 + i)
  pub remains : Remains t u

-- all parameters that move stand in regbank
pub record AllMoved (ms : List Moved) (t u : State) : Type 0 where
  pub moved : AreMoved ms u
  pub others : (i : ℕ) → i < 6 → AreBeside i ms → u.zp (20 + i) ≡ t.zp (20 + i)
  pub remains : Remains t u

module _ (g : World) (a : Active) (placed : IsPlacement g.code g.place) where
  module _ (bank bytes : ℕ) (t : State) (on : IsOn g t) (banked : IsBanked 6 bank bytes) where
    abbrev at : ℕ
    at = (regbank + bank) % 256

    at_is : at ≡ 20 + bank
    at_is = omega (arith, banked.within)

    next_is : (at + 1) % 256 ≡ 20 + bank + 1
    next_is = omega (arith, banked.within)

    apart : (i : ℕ) → IsBeside i bank bytes → (20 + i ≡ 20 + bank → ⊥) × (2 ≤ bytes → 20 + i ≡ 20 + bank + 1 → ⊥)
    apart i (inl lt) = (λ e. omega (arith, e, lt), λ two e. omega (arith, e, lt))
    apart i (inr le) = (λ e. omega (arith, e, le, banked.some), λ two e. omega (arith, e, le, two))

    -- the state differs in the zero page alone, from byte 20 on
    remains_by : (zp : Bytes) (u : State) → u ≡ record t { zp = zp } → IsBytes u → zp 0 ≡ t.zp 0 → zp 1 ≡ t.zp 1 → Remains t u
    remains_by zp u e b low high = record {
      sp = ap sp_of e ∙ omega (arith, low, high);
      mem = λ n side. ap (λ (x : State). x.mem n) e;
      pushed = ap (λ (x : State). x.pushed) e;
      frames = ap (λ (x : State). x.frames) e;
      input = ap (λ (x : State). x.input) e;
      output = ap (λ (x : State). x.output) e;
      ended = ap (λ (x : State). x.ended) e;
      bytes = b;
    }

    abbrev one : List Line
    one = zero_page Sta at ∷ []

    abbrev two : List Line
    two = zero_page Sta at ∷ zero_page Stx ((at + 1) % 256) ∷ []

    abbrev zp1 : Bytes
    zp1 = write t.zp at t.regs.a

    abbrev zp2 : Bytes
    zp2 = write zp1 ((at + 1) % 256) t.regs.x

    first_is : (q : ℕ) → zp1 q ≡ write t.zp (20 + bank) t.regs.a q
    first_is q = ap (λ (k : ℕ). write t.zp k t.regs.a q) at_is

    second_is : (q : ℕ) → zp2 q ≡ write zp1 (20 + bank + 1) t.regs.x q
    second_is q = ap (λ (k : ℕ). write zp1 k t.regs.x q) next_is

    first_other : (q : ℕ) → (q ≡ 20 + bank → ⊥) → zp1 q ≡ t.zp q
    first_other q ne = first_is q ∙ write_other t.zp (20 + bank) t.regs.a q ne

    second_other : (q : ℕ) → (q ≡ 20 + bank → ⊥) → (q ≡ 20 + bank + 1 → ⊥) → zp2 q ≡ t.zp q
    second_other q ne ne2 = second_is q ∙ (write_other zp1 (20 + bank + 1) t.regs.x q ne2 ∙ first_other q ne)

    a_there : zp1 (20 + (bank + 0)) ≡ t.regs.a
    a_there =
        let same : 20 + (bank + 0) ≡ 20 + bank = omega arith in
        ap zp1 same ∙ (first_is (20 + bank) ∙ write_same t.zp (20 + bank) t.regs.a)

    one_leads : bytes < 2 → Leads g a one 2 t (IsStored bank bytes t)
    one_leads few = leads_as g a one 1 2 t (λ u. (u ≡ after_lines g one t) × IsBytes u) (IsStored bank bytes t) (omega arith) (λ u e. stored u e.0 e.1) (lines_lead g a one t placed on (refl, (omega (arith, at_is, banked.within), λ _. omega (arith, at_is)), tt, kept_zero t at t.regs.a (omega (arith, at_is)), tt))
      where
        stored : (u : State) → u ≡ after_lines g one t → IsBytes u → IsStored bank bytes t u
        stored u e b = record {
          there = there;
          others = λ i lt beside. ap (λ (x : State). x.zp (20 + i)) e ∙ first_other (20 + i) (apart i beside).0;
          remains = remains_by zp1 u e b (first_other 0 (λ z. omega (arith, z))) (first_other 1 (λ z. omega (arith, z)));
        }
          where
            there : (i : ℕ) → i < bytes → u.zp (20 + (bank + i)) ≡ register_byte i t
            there zero lt = ap (λ (x : State). x.zp (20 + (bank + 0))) e ∙ a_there
            there (suc i) lt = absurd (omega (arith, lt, few))

    two_leads : 2 ≤ bytes → Leads g a two 2 t (IsStored bank bytes t)
    two_leads both = leads_as g a two 2 2 t (λ u. (u ≡ after_lines g two t) × IsBytes u) (IsStored bank bytes t) (omega arith) (λ u e. stored u e.0 e.1) (lines_lead g a two t placed on safe)
      where
        safe : AreSafe g two t
        safe = (
          refl,
          (omega (arith, at_is, banked.within), λ _. omega (arith, at_is)),
          tt,
          kept_zero t at t.regs.a (omega (arith, at_is)),
          (refl, (omega (arith, next_is, banked.within), λ _. omega (arith, next_is)), tt, kept_zero (record t { zp = zp1 }) ((at + 1) % 256) t.regs.x (omega (arith, next_is)), tt),
        )

        stored : (u : State) → u ≡ after_lines g two t → IsBytes u → IsStored bank bytes t u
        stored u e b = record {
          there = there;
          others = λ i lt beside. ap (λ (x : State). x.zp (20 + i)) e ∙ second_other (20 + i) (apart i beside).0 ((apart i beside).1 both);
          remains = remains_by zp2 u e b (second_other 0 (λ z. omega (arith, z)) (λ z. omega (arith, z))) (second_other 1 (λ z. omega (arith, z)) (λ z. omega (arith, z)));
        }
          where
            there : (i : ℕ) → i < bytes → u.zp (20 + (bank + i)) ≡ register_byte i t
            there zero lt = ap (λ (x : State). x.zp (20 + (bank + 0))) e ∙ (second_is (20 + (bank + 0)) ∙ (write_other zp1 (20 + bank + 1) t.regs.x (20 + (bank + 0)) (λ z. omega (arith, z)) ∙ a_there))
            there (suc zero) lt =
                let same : 20 + (bank + 1) ≡ 20 + bank + 1 = omega arith in
                ap (λ (x : State). x.zp (20 + (bank + 1))) e ∙ (ap zp2 same ∙ (second_is (20 + bank + 1) ∙ write_same zp1 (20 + bank + 1) t.regs.x))
            there (suc (suc i)) lt = absurd (omega (arith, lt, banked.few))

    pub stores_lead : Leads g a (bank_store bank bytes) 2 t (IsStored bank bytes t)
    stores_lead = go (nat_lt bytes 2) refl
      where
        go : (b : Bool) → nat_lt bytes 2 ≡ b → Leads g a (if b then one else two) 2 t (IsStored bank bytes t)
        go true e = one_leads (ltb-true bytes 2 e)
        go false e = two_leads (ltb-false bytes 2 e)

  -- ---- one parameter

  record IsMoved (m : Moved) (t u : State) : Type 0 where
    there : (i : ℕ) → i < m.bytes → u.zp (20 + (m.bank + i)) ≡ t.mem (sp_of t + m.from + i)
    others : (i : ℕ) → i < 6 → IsBeside i m.bank m.bytes → u.zp (20 + i) ≡ t.zp (20 + i)
    remains : Remains t u

  move_leads : (m : Moved) (t : State) → IsOn g t → IsBanked 6 m.bank m.bytes → sp_of t + m.from + m.bytes ≤ stack_end → Leads g a (moved_code m) 266 t (IsMoved m t)
  move_leads m t on banked fits =
      leads_then g a (load_code m.from m.bytes) (bank_store m.bank m.bytes) 264 2 t (IsLoaded m.bytes (sp_of t + m.from) t) (IsMoved m t) (loads_lead g a placed m.from m.bytes t on fits banked.some banked.few) (λ u l.
      leads_as g a (bank_store m.bank m.bytes) 2 2 u (IsStored m.bank m.bytes u) (IsMoved m t) (omega arith) (λ v s. moved u v l s) (stores_lead m.bank m.bytes u (remains_on g a placed t u on l.remains) banked))
    where
      moved : (u v : State) → IsLoaded m.bytes (sp_of t + m.from) t u → IsStored m.bank m.bytes u v → IsMoved m t v
      moved u v l s = record { there = there; others = λ i lt beside. s.others i lt beside ∙ l.bank i lt; remains = remains_then t u v l.remains s.remains }
        where
          there : (i : ℕ) → i < m.bytes → v.zp (20 + (m.bank + i)) ≡ t.mem (sp_of t + m.from + i)
          there zero lt = let same : sp_of t + m.from ≡ sp_of t + m.from + 0 = omega arith in s.there 0 lt ∙ (l.low ∙ ap t.mem same)
          there (suc zero) lt = s.there 1 lt ∙ l.high (omega (arith, lt))
          there (suc (suc i)) lt = absurd (omega (arith, lt, banked.few))

  -- ---- all of them

  pub moves_lead : (ms : List Moved) (taken low high : ℕ) (t : State) → taken ≤ 6 → IsOn g t → AreMoves taken low high ms → sp_of t + high ≤ stack_end → Leads g a (all_moved ms) (266 * length ms) t (AllMoved ms t)
  moves_lead [] taken low high t six on moves fits = none_leads g a t (AllMoved [] t) (record {
    moved = tt;
    others = λ i lt beside. refl;
    remains = record { sp = refl; mem = λ n side. refl; pushed = refl; frames = refl; input = refl; output = refl; ended = refl; bytes = on.stacks.calm.bytes };
  })
  moves_lead (m ∷ ms) taken low high t six on moves fits =
      leads_as g a (all_moved (m ∷ ms)) (266 + 266 * length ms) (266 * length (m ∷ ms)) t (AllMoved (m ∷ ms) t) (AllMoved (m ∷ ms) t) (omega arith) (λ u h. h)
      (leads_then g a (moved_code m) (all_moved ms) 266 (266 * length ms) t (IsMoved m t) (AllMoved (m ∷ ms) t) (move_leads m t on (of_six taken m.bank m.bytes six moves.0) (omega (arith, moves.2, fits))) (λ u first.
      leads_as g a (all_moved ms) (266 * length ms) (266 * length ms) u (AllMoved ms u) (AllMoved (m ∷ ms) t) (omega arith) (λ v rest. both u v first rest)
      (moves_lead ms taken low high u six (remains_on g a placed t u on first.remains) moves.4 (omega (arith, first.remains.sp, fits)))))
    where
      both : (u v : State) → IsMoved m t u → AllMoved ms u v → AllMoved (m ∷ ms) t v
      both u v first rest = record {
        moved = (here, rest.moved);
        others = λ i lt beside. rest.others i lt beside.1 ∙ first.others i lt beside.0;
        remains = all;
      }
        where
          all : Remains t v
          all = remains_then t u v first.remains rest.remains

          here : (i : ℕ) → i < m.bytes → v.zp (20 + (m.bank + i)) ≡ v.mem (sp_of v + m.from + i)
          here i lt =
              let at : sp_of v + m.from + i ≡ sp_of t + m.from + i = omega (arith, all.sp) in
              rest.others (m.bank + i) (omega (arith, lt, six, moves.0.within)) (moves.3 i lt) ∙ (first.there i lt ∙ sym (ap v.mem at ∙ all.mem (sp_of t + m.from + i) (inr (omega arith))))
