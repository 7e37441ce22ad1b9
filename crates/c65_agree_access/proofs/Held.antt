-- A byte or a word of AX goes behind an address in the zero page.
use Rattle.std.proofs.Common.{◌≡◌, ℕ, zero, ◌+◌, ◌*◌, ◌%◌, ◌<◌, ◌≤◌, ◌⊎◌, inl, inr, max, List, [], ◌∷◌, ◌++◌, suc, length, Bool, true, false, refl, sym, ap, ◌∙◌, subst, arith, length-append}
use Rattle.std.specs.Prelude.{nat_lt, if◌then◌else◌, Err}
use Rattle.c65_ints.specs.declared.types.IntType.{IntType}
use Rattle.c65_ints.specs.declared.types.IntType.TheVariants as I
use Rattle.c65_mach.specs.declared.rows.Op.TheVariants.{Ldy, Pha, Pla, Sta, Txa}
use Rattle.c65_mach.specs.State.{Regs}
use Rattle.c65_mach.specs.Step.{apply, after, with_a}
use Rattle.c65_meaning.specs.Store.{Cell, Block, Shape, Number, Pointer}
use Rattle.c65_meaning.specs.State.{Scene}
use Rattle.c65_code.specs.declared.line.Line.{Line}
use Rattle.c65_code.specs.Steady.{IsOpen}
use Rattle.c65_code.specs.LineState.{State, Bytes, write, sp_of, s_of, ax_of, eax_of, zero_word, IsBytes}
use Rattle.c65_code.specs.Placement.{IsPlacement}
use Rattle.c65_genwide.specs.Lines.{value}
use Rattle.c65_genload.specs.Words.{implied, by_y}
use Rattle.c65_genload.specs.Places.{byte_more}
use Rattle.c65_agree_store.specs.Stands.{Spot, At, Placing, Banks, CellIs}
use Rattle.c65_agree_store.specs.Laws.{byte_of}
use Rattle.c65_agree_state.specs.World.{World, Active}
use Rattle.c65_agree_state.specs.Exprs.{Ready, Kept}
use Rattle.c65_agree_rows.proofs.Quiet.{write_other, write_same}
use Rattle.c65_agree_put.specs.Puts.{MayPut, with_put}
use Rattle.c65_agree_frame.specs.Leads.{Leads, IsOn}
use Rattle.c65_agree_frame.proofs.Leads.{leads_then, leads_as}
use Rattle.c65_agree_load.proofs.Kept.{is_on}
use Rattle.c65_agree_operate.proofs.Exact.{at_regs, To, on_regs, implied_leads, leads_from, holding, push_a_leads, pull_a_leads, on_holding, one_more}
use Rattle.c65_agree_access.proofs.Through.{y_leads, store_leads, IsPartly, partly_on, open_there, partly_stored}

module _ (g : World) (a : Active) (pushed needs : ℕ) (c : Scene) (w : Placing) (k : Banks) (t : State) (b : ℕ) (x : Block) (m o : ℕ) (new : ℕ → Cell) (placed : IsPlacement g.code g.place) (r : Ready g a pushed needs c w k t) (z at : ℕ) (small : at ≤ 250) (there : zero_word t z + at ≡ m + o) where
  abbrev on : IsOn g t
  on = is_on g a pushed needs c w k t placed r

  abbrev y0 : Regs
  y0 = apply false Ldy at t.regs

  -- the cells are put, and so much of AX is as before
  pub record IsBehind (size : ℕ) (register : State → ℕ) (u : State) : Type 0 where
    pub kept : Kept g a c w k t (with_put c b x o size new) w k u
    pub value : register u ≡ register t

  -- the state in which the first byte is there
  abbrev first_in : Bytes
  first_in = write t.mem (m + o + 0) t.regs.a

  abbrev one : State
  one = record t { mem = first_in }

  module _ (n : ℕ) (some : 0 < n) (may : MayPut g a c w b x (At m) o n) where
    low : m + o + n ≤ 65520
    low = omega (arith, may.fits, r.joins.stands.whole b x may.block.is, (r.joins.stands.lies b x (At m) may.block).1)

    first_partly : (s : Regs) → IsBytes (at_regs one s) → IsPartly g a pushed needs c w k t b x m o n new placed r may (at_regs one s)
    first_partly s bytes = record { mem = λ p far. write_other t.mem (m + o + 0) t.regs.a p (λ e. far 0 some (sym e)); zp = λ i h. refl; stack = refl; frames = refl; input = refl; output = refl; ended = refl; bytes = bytes }

    first_leads : Leads g a (value Ldy at ∷ by_y Sta z ∷ []) 2 t (To one y0)
    first_leads =
        leads_then g a (value Ldy at ∷ []) (by_y Sta z ∷ []) 1 1 t (To t y0) (To one y0) (y_leads g a t at t.regs placed on (omega (arith, small)) r.joins.bytes) (λ u h.
        leads_from g a (by_y Sta z ∷ []) 1 t u y0 (To one y0) h (λ bytes.
        store_leads g a z (at_regs t y0) (m + o + 0) (on_regs g a t placed on y0 bytes) (omega (arith, there, low, some))
        (open_there g a pushed needs c w k t b x m o n new placed r may (at_regs t y0) (none_partly y0 bytes) 0 some)))
      where
        none_partly : (s : Regs) → IsBytes (at_regs t s) → IsPartly g a pushed needs c w k t b x m o n new placed r may (at_regs t s)
        none_partly s bytes = record { mem = λ p far. refl; zp = λ i h. refl; stack = refl; frames = refl; input = refl; output = refl; ended = refl; bytes = bytes }

  -- one byte
  module _ (may : MayPut g a c w b x (At m) o 1) (laid : (i : ℕ) → i < 1 → CellIs w (new i) (byte_of i (eax_of t))) where
    pub byte_leads : Leads g a (value Ldy at ∷ by_y Sta z ∷ []) 2 t (IsBehind 1 (λ u. u.regs.a))
    byte_leads =
        leads_as g a (value Ldy at ∷ by_y Sta z ∷ []) 2 2 t (To one y0) (IsBehind 1 (λ u. u.regs.a)) (omega arith)
        (λ u h. rw h.0 (record { kept = partly_stored g a pushed needs c w k t b x m o 1 new placed r may (at_regs one y0) (first_partly 1 (omega arith) may y0 (subst IsBytes h.0 h.1)) there_one; value = refl }))
        (first_leads 1 (omega arith) may)
      where
        there_one : (i : ℕ) → i < 1 → CellIs w (new i) (first_in (m + o + i))
        there_one i lt =
            let none : i ≡ 0 = omega (arith, lt) in
            let byte : first_in (m + o + 0) ≡ byte_of 0 (eax_of t) = write_same t.mem (m + o + 0) t.regs.a ∙ omega (arith, r.joins.bytes.a) in
            rw none (subst (CellIs w (new 0)) (sym byte) (laid 0 (omega arith)))

  -- two bytes
  module _ (may : MayPut g a c w b x (At m) o 2) (laid : (i : ℕ) → i < 2 → CellIs w (new i) (byte_of i (eax_of t))) where
    abbrev v : ℕ
    v = t.regs.a

    abbrev x1 : Regs
    x1 = apply false Txa 0 y0

    abbrev y1 : Regs
    y1 = apply false Ldy (byte_more at 1) x1

    abbrev both_in : Bytes
    both_in = write first_in (m + o + 1) t.regs.x

    abbrev two : State
    two = record t { mem = both_in }

    abbrev last : Regs
    last = with_a v y1

    own_bytes : (z : State) (s : Regs) → IsBytes (at_regs z s) → IsBytes t → z.regs ≡ t.regs → IsBytes z
    own_bytes z s h mine same = record { a = subst (λ q. q.a < 256) (sym same) mine.a; x = subst (λ q. q.x < 256) (sym same) mine.x; y = subst (λ q. q.y < 256) (sym same) mine.y; zp = h.zp; mem = h.mem; pushed = h.pushed; frames = h.frames }

    one_on : IsBytes (at_regs one y0) → IsOn g one
    one_on h = partly_on g a pushed needs c w k t b x m o 2 new placed r may one (first_partly 2 (omega arith) may t.regs (own_bytes one y0 h r.joins.bytes refl))

    two_partly : (s : Regs) → IsBytes (at_regs two s) → IsPartly g a pushed needs c w k t b x m o 2 new placed r may (at_regs two s)
    two_partly s bytes = record {
      mem = λ p far. write_other first_in (m + o + 1) t.regs.x p (λ e. far 1 (omega arith) (sym e)) ∙ write_other t.mem (m + o + 0) t.regs.a p (λ e. far 0 (omega arith) (sym e));
      zp = λ i h. refl;
      stack = refl;
      frames = refl;
      input = refl;
      output = refl;
      ended = refl;
      bytes = bytes;
    }

    more : 3 + 27 ≤ s_of t
    more = one_more g a pushed needs c w k t r

    pull_leads : IsBytes (at_regs (holding v two) y1) → Leads g a (implied Pla ∷ []) 1 (at_regs (holding v two) y1) (To two last)
    pull_leads h =
        let bare : IsBytes two = record { a = r.joins.bytes.a; x = r.joins.bytes.x; y = r.joins.bytes.y; zp = h.zp; mem = h.mem; pushed = r.joins.bytes.pushed; frames = h.frames } in
        pull_a_leads g a two v y1 (on_holding g two v y1 (partly_on g a pushed needs c w k t b x m o 2 new placed r may two (two_partly t.regs bare)) more h) h

    second_leads : IsBytes (at_regs one y0) → IsBytes (at_regs (holding v one) y1) → Leads g a (by_y Sta z ∷ implied Pla ∷ []) 2 (at_regs (holding v one) y1) (To two last)
    second_leads first h =
        leads_then g a (by_y Sta z ∷ []) (implied Pla ∷ []) 1 1 (at_regs (holding v one) y1) (To (holding v two) y1) (To two last)
        (store_leads g a z (at_regs (holding v one) y1) (m + o + 1) (on_regs g a (holding v one) placed (on_holding g one v y1 (one_on first) more h) y1 h) (omega (arith, there, small, low 2 (omega arith) may)) opened_there)
        (λ u k2. leads_from g a (implied Pla ∷ []) 1 (holding v two) u y1 (To two last) k2 pull_leads)
      where
        opened_there : IsOpen g.place (sp_of one) (m + o + 1)
        opened_there = open_there g a pushed needs c w k t b x m o 2 new placed r may one (first_partly 2 (omega arith) may t.regs (own_bytes one y0 first r.joins.bytes refl)) 1 (omega arith)

    held_leads : IsBytes (at_regs one y0) → Leads g a (implied Pha ∷ implied Txa ∷ value Ldy (byte_more at 1) ∷ by_y Sta z ∷ implied Pla ∷ []) 5 (at_regs one y0) (To two last)
    held_leads first =
        let rest2 : List Line = by_y Sta z ∷ implied Pla ∷ [] in
        let rest3 : List Line = value Ldy (byte_more at 1) ∷ rest2 in
        let rest4 : List Line = implied Txa ∷ rest3 in
        let hold : State = holding v one in
        let hold_on : (s : Regs) → IsBytes (at_regs hold s) → IsOn g hold = λ s h. on_holding g one v s (one_on first) more h in
        leads_then g a (implied Pha ∷ []) rest4 1 4 (at_regs one y0) (To hold y0) (To two last) (push_a_leads g a one y0 (one_on first) first) (λ u h.
        leads_from g a rest4 4 hold u y0 (To two last) h (λ h1.
        leads_then g a (implied Txa ∷ []) rest3 1 3 (at_regs hold y0) (To hold x1) (To two last) (implied_leads g a hold placed (hold_on y0 h1) Txa refl y0 h1) (λ u2 k2.
        leads_from g a rest3 3 hold u2 x1 (To two last) k2 (λ h2.
        leads_then g a (value Ldy (byte_more at 1) ∷ []) rest2 1 2 (at_regs hold x1) (To hold y1) (To two last) (y_leads g a hold (byte_more at 1) x1 placed (hold_on x1 h2) (omega arith) h2) (λ u3 k3.
        leads_from g a rest2 2 hold u3 y1 (To two last) k3 (λ h3. second_leads first h3))))))

    pub word_leads : Leads g a (value Ldy at ∷ by_y Sta z ∷ implied Pha ∷ implied Txa ∷ value Ldy (byte_more at 1) ∷ by_y Sta z ∷ implied Pla ∷ []) 7 t (IsBehind 2 ax_of)
    word_leads =
        let rest5 : List Line = implied Pha ∷ implied Txa ∷ value Ldy (byte_more at 1) ∷ by_y Sta z ∷ implied Pla ∷ [] in
        leads_as g a ((value Ldy at ∷ by_y Sta z ∷ []) ++ rest5) (2 + 5) 7 t (To two last) (IsBehind 2 ax_of) (omega arith)
        (λ u h. rw h.0 (record { kept = partly_stored g a pushed needs c w k t b x m o 2 new placed r may (at_regs two last) (two_partly last (subst IsBytes h.0 h.1)) there_two; value = refl }))
        (leads_then g a (value Ldy at ∷ by_y Sta z ∷ []) rest5 2 5 t (To one y0) (To two last) (first_leads 2 (omega arith) may) (λ u h. leads_from g a rest5 5 one u y0 (To two last) h held_leads))
      where
        low_byte : both_in (m + o + 0) ≡ byte_of 0 (eax_of t)
        low_byte = write_other first_in (m + o + 1) t.regs.x (m + o + 0) (λ e. omega (arith, e)) ∙ write_same t.mem (m + o + 0) t.regs.a ∙ omega (arith, r.joins.bytes.a)

        high_byte : both_in (m + o + 1) ≡ byte_of 1 (eax_of t)
        high_byte = write_same first_in (m + o + 1) t.regs.x ∙ omega (arith, r.joins.bytes.a, r.joins.bytes.x)

        there_two : (i : ℕ) → i < 2 → CellIs w (new i) (both_in (m + o + i))
        there_two zero lt = subst (CellIs w (new 0)) (sym low_byte) (laid 0 lt)
        there_two (suc zero) lt = subst (CellIs w (new 1)) (sym high_byte) (laid 1 lt)
        there_two (suc (suc i)) lt = absurd (omega (arith, lt))
