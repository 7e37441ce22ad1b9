-- A byte or a word of AX goes behind a pointer that is read where it lies.
use Rattle.std.proofs.Common.{◌≡◌, ℕ, zero, suc, ◌+◌, ◌*◌, ◌<◌, ◌≤◌, ◌⊎◌, List, [], ◌∷◌, ◌++◌, false, refl, sym, ap, ◌∙◌, subst, arith}
use Rattle.std.proofs.lemmas.List.Elements.{All-cons}
use Rattle.c65_mach.specs.declared.rows.Op.TheVariants.{Dey, Ldy, Pha, Pla, Sta, Tax, Txa}
use Rattle.c65_mach.specs.State.{Regs}
use Rattle.c65_mach.specs.Step.{apply, with_a}
use Rattle.c65_meaning.specs.Store.{Cell, Block}
use Rattle.c65_meaning.specs.State.{Scene}
use Rattle.c65_code.specs.declared.line.Line.{Line}
use Rattle.c65_code.specs.LineState.{State, Bytes, write, s_of, ax_of, eax_of, zero_word, IsBytes}
use Rattle.c65_code.specs.Placement.{IsPlacement}
use Rattle.c65_genwide.specs.Lines.{value}
use Rattle.c65_genload.specs.Words.{implied, by_y}
use Rattle.c65_genload.specs.Places.{byte_more}
use Rattle.c65_gendirect.specs.declared.bytes.OperandByte.{OperandByte}
use Rattle.c65_gendirect.specs.declared.bytes.OperandByte.TheVariants.{Number, Low, High, Near, Data, Zero}
use Rattle.c65_gendirect.specs.Through.{point_code, byte_through_code, word_through_code}
use Rattle.c65_agree_store.specs.Stands.{At, Placing, Banks, CellIs}
use Rattle.c65_agree_store.specs.Laws.{byte_of}
use Rattle.c65_agree_state.specs.World.{World, Active}
use Rattle.c65_agree_state.specs.Exprs.{Ready, Kept}
use Rattle.c65_agree_state.proofs.Parts.{kept_goes_on}
use Rattle.c65_agree_rows.proofs.Quiet.{write_other, write_same}
use Rattle.c65_agree_put.specs.Puts.{MayPut, with_put}
use Rattle.c65_agree_frame.specs.Leads.{Leads, IsOn}
use Rattle.c65_agree_frame.proofs.Leads.{leads_then, leads_as}
use Rattle.c65_agree_load.proofs.Kept.{is_on, kept_later, ready_later}
use Rattle.c65_agree_direct.specs.Operands.{byte_in, MayRead}
use Rattle.c65_agree_operate.proofs.Exact.{at_regs, To, on_regs, implied_leads, leads_from, holding, push_a_leads, pull_a_leads, on_holding, one_more}
use Rattle.c65_agree_access.specs.Sums.{IsClear}
use Rattle.c65_agree_access.proofs.Held.{IsBehind, byte_leads}
use Rattle.c65_agree_access.proofs.Through.{y_leads, store_leads, IsPartly, partly_on, open_there, partly_stored}
use Rattle.c65_agree_assigned.proofs.Pointing.{pointing, pointing_regs, pointing_others, points_there, point_leads}

-- the cells are put, and so much of the register is as it was
pub record IsThrough (g : World) (a : Active) (c : Scene) (w : Placing) (k : Banks) (t : State) (b : ℕ) (x : Block) (o size : ℕ) (new : ℕ → Cell) (register : State → ℕ) (u : State) : Type 0 where
  pub kept : Kept g a c w k t (with_put c b x o size new) w k u
  pub value : register u ≡ register t

-- ---- a word, of which the low byte waits on the hard stack while ptr1 is set

module _ (g : World) (a : Active) (pushed needs : ℕ) (c : Scene) (w : Placing) (k : Banks) (t : State) (b : ℕ) (x : Block) (m o : ℕ) (new : ℕ → Cell) (placed : IsPlacement g.code g.place) (r : Ready g a pushed needs c w k t) (at : ℕ) (small : at ≤ 250) (there : zero_word t 8 + at ≡ m + o)
    (v : ℕ) (s : Regs) (may : MayPut g a c w b x (At m) o 2) (laid_low : CellIs w (new 0) v) (laid_high : CellIs w (new 1) s.x) where
  in_page : m + o + 2 ≤ 65520
  in_page = omega (arith, may.fits, r.joins.stands.whole b x may.block.is, (r.joins.stands.lies b x (At m) may.block).1)

  abbrev first_in : Bytes
  first_in = write t.mem (m + o + 1) s.x

  abbrev both_in : Bytes
  both_in = write first_in (m + o + 0) v

  abbrev one : State
  one = record t { mem = first_in }

  abbrev two : State
  two = record t { mem = both_in }

  one_partly : (q : Regs) → IsBytes (at_regs one q) → IsPartly g a pushed needs c w k t b x m o 2 new placed r may (at_regs one q)
  one_partly q bytes = record { mem = λ p far. write_other t.mem (m + o + 1) s.x p (λ e. far 1 (omega arith) (sym e)); zp = λ i e. refl; stack = refl; frames = refl; input = refl; output = refl; ended = refl; bytes = bytes }

  two_partly : (q : Regs) → IsBytes (at_regs two q) → IsPartly g a pushed needs c w k t b x m o 2 new placed r may (at_regs two q)
  two_partly q bytes = record {
    mem = λ p far. write_other first_in (m + o + 0) v p (λ e. far 0 (omega arith) (sym e)) ∙ write_other t.mem (m + o + 1) s.x p (λ e. far 1 (omega arith) (sym e));
    zp = λ i e. refl;
    stack = refl;
    frames = refl;
    input = refl;
    output = refl;
    ended = refl;
    bytes = bytes;
  }

  laid : (i : ℕ) → i < 2 → CellIs w (new i) (both_in (m + o + i))
  laid zero lt = subst (CellIs w (new 0)) (sym (write_same first_in (m + o + 0) v)) laid_low
  laid (suc zero) lt = subst (CellIs w (new 1)) (sym (write_other first_in (m + o + 0) v (m + o + 1) (λ e. omega (arith, e)) ∙ write_same t.mem (m + o + 1) s.x)) laid_high
  laid (suc (suc i)) lt = absurd (omega (arith, lt))

  abbrev Result : State → Type 0
  Result u = Kept g a c w k t (with_put c b x o 2 new) w k u × (ax_of u ≡ v + 256 * s.x)

  abbrev q1 : Regs
  q1 = apply false Ldy (byte_more at 1) s

  abbrev q2 : Regs
  q2 = apply false Txa 0 q1

  abbrev q3 : Regs
  q3 = apply false Dey 0 q2

  abbrev q4 : Regs
  q4 = with_a v q3

  more : 3 + 27 ≤ s_of t
  more = one_more g a pushed needs c w k t r

  abbrev hold : State
  hold = holding v t

  abbrev hold_one : State
  hold_one = holding v one

  hold_on : (q : Regs) → IsBytes (at_regs hold q) → IsOn g hold
  hold_on q bytes = on_holding g t v q (is_on g a pushed needs c w k t placed r) more bytes

  one_on : (q : Regs) → IsBytes (at_regs hold_one q) → IsOn g hold_one
  one_on q bytes =
      let bare : IsBytes (at_regs one t.regs) = record { a = r.joins.bytes.a; x = r.joins.bytes.x; y = r.joins.bytes.y; zp = bytes.zp; mem = bytes.mem; pushed = r.joins.bytes.pushed; frames = bytes.frames } in
      on_holding g one v q (partly_on g a pushed needs c w k t b x m o 2 new placed r may one (one_partly t.regs bare)) more bytes

  last : IsBytes (at_regs one q4) → Leads g a (by_y Sta 8 ∷ []) 1 (at_regs one q4) Result
  last bytes =
      leads_as g a (by_y Sta 8 ∷ []) 1 1 (at_regs one q4) (λ u. (u ≡ record (at_regs one q4) { mem = write first_in (m + o + 0) q4.a }) × IsBytes u) Result (omega arith)
      (λ u e. rw e.0 (partly_stored g a pushed needs c w k t b x m o 2 new placed r may (at_regs two q4) (two_partly q4 (subst IsBytes e.0 e.1)) laid, refl))
      (store_leads g a 8 (at_regs one q4) (m + o + 0) (partly_on g a pushed needs c w k t b x m o 2 new placed r may (at_regs one q4) (one_partly q4 bytes)) (omega (arith, there, small, in_page))
      (open_there g a pushed needs c w k t b x m o 2 new placed r may (at_regs one q4) (one_partly q4 bytes) 0 (omega arith)))

  back : IsBytes (at_regs hold_one q2) → Leads g a (implied Dey ∷ implied Pla ∷ by_y Sta 8 ∷ []) 3 (at_regs hold_one q2) Result
  back bytes =
      let rest1 : List Line = by_y Sta 8 ∷ [] in
      let rest2 : List Line = implied Pla ∷ rest1 in
      leads_then g a (implied Dey ∷ []) rest2 1 2 (at_regs hold_one q2) (To hold_one q3) Result (implied_leads g a hold_one placed (one_on q2 bytes) Dey refl q2 bytes) (λ u e.
      leads_from g a rest2 2 hold_one u q3 Result e (λ bytes2.
      leads_then g a (implied Pla ∷ []) rest1 1 1 (at_regs hold_one q3) (To one q4) Result (pull_a_leads g a one v q3 (one_on q3 bytes2) bytes2) (λ u2 e2.
      leads_from g a rest1 1 one u2 q4 Result e2 last)))

  pub word_stored : IsBytes (at_regs hold s) → Leads g a (value Ldy (byte_more at 1) ∷ implied Txa ∷ by_y Sta 8 ∷ implied Dey ∷ implied Pla ∷ by_y Sta 8 ∷ []) 6 (at_regs hold s) Result
  word_stored bytes =
      let rest3 : List Line = implied Dey ∷ implied Pla ∷ by_y Sta 8 ∷ [] in
      let rest4 : List Line = by_y Sta 8 ∷ rest3 in
      let rest5 : List Line = implied Txa ∷ rest4 in
      leads_then g a (value Ldy (byte_more at 1) ∷ []) rest5 1 5 (at_regs hold s) (To hold q1) Result (y_leads g a hold (byte_more at 1) s placed (hold_on s bytes) (omega arith) bytes) (λ u e.
      leads_from g a rest5 5 hold u q1 Result e (λ bytes1.
      leads_then g a (implied Txa ∷ []) rest4 1 4 (at_regs hold q1) (To hold q2) Result (implied_leads g a hold placed (hold_on q1 bytes1) Txa refl q1 bytes1) (λ u2 e2.
      leads_from g a rest4 4 hold u2 q2 Result e2 (λ bytes2.
      leads_then g a (by_y Sta 8 ∷ []) rest3 1 3 (at_regs hold q2) (To hold_one q2) Result (first_stored bytes2) (λ u3 e3.
      leads_from g a rest3 3 hold_one u3 q2 Result e3 back)))))
    where
      first_stored : IsBytes (at_regs hold q2) → Leads g a (by_y Sta 8 ∷ []) 1 (at_regs hold q2) (To hold_one q2)
      first_stored bytes2 =
          store_leads g a 8 (at_regs hold q2) (m + o + 1) (on_regs g a hold placed (hold_on q2 bytes2) q2 bytes2) (omega (arith, there, small, in_page))
          (open_there g a pushed needs c w k t b x m o 2 new placed r may t (record { mem = λ p far. refl; zp = λ i e. refl; stack = refl; frames = refl; input = refl; output = refl; ended = refl; bytes = r.joins.bytes }) 1 (omega arith))

-- ---- the pointer comes to ptr1

module _ (g : World) (a : Active) (pushed needs : ℕ) (c : Scene) (w : Placing) (k : Banks) (t : State) (b : ℕ) (x : Block) (m o : ℕ) (new : ℕ → Cell) (placed : IsPlacement g.code g.place) (r : Ready g a pushed needs c w k t) (at : ℕ) (small : at ≤ 250)
    (low high : OperandByte) (clear : IsClear high) (may_low : MayRead g t low) (may_high : MayRead g t high) (there : byte_in g t low + 256 * byte_in g t high + at ≡ m + o) where
  on_there : (s : Regs) (z : Bytes) → ((i : ℕ) → (i < 2) ⊎ (20 ≤ i) → z i ≡ t.zp i) → IsBytes (record t { regs = s; zp = z }) → IsOn g (record t { regs = s; zp = z })
  on_there s z same bytes = is_on g a pushed needs c w k (record t { regs = s; zp = z }) placed (ready_later g a pushed needs c w k t placed r s z same bytes)

  -- one byte
  module _ (may : MayPut g a c w b x (At m) o 1) (laid : CellIs w (new 0) t.regs.a) where
    abbrev s1 : Regs
    s1 = apply false Tax 0 t.regs

    abbrev p1 : State
    p1 = pointing g a t placed low high clear may_low may_high r.joins.bytes on_there s1

    abbrev r1 : Regs
    r1 = pointing_regs g a t placed low high clear may_low may_high r.joins.bytes on_there s1

    abbrev s2 : Regs
    s2 = apply false Txa 0 r1

    abbrev Done : State → Type 0
    Done = IsThrough g a c w k t b x o 1 new (λ u. u.regs.a)

    abbrev end : List Line
    end = value Ldy at ∷ by_y Sta 8 ∷ []

    others : (i : ℕ) → (i < 2) ⊎ (20 ≤ i) → p1.zp i ≡ t.zp i
    others = pointing_others g a t placed low high clear may_low may_high r.joins.bytes on_there s1

    end_leads : IsBytes (at_regs p1 s2) → Leads g a end 2 (at_regs p1 s2) Done
    end_leads bytes =
        let u1 : State = at_regs p1 s2 in
        let kept1 : Kept g a c w k t c w k u1 = kept_later g a pushed needs c w k t placed r s2 p1.zp others bytes in
        let ready1 : Ready g a pushed needs c w k u1 = ready_later g a pushed needs c w k t placed r s2 p1.zp others bytes in
        let pointer : zero_word u1 8 ≡ byte_in g t low + 256 * byte_in g t high = points_there g a t placed low high clear may_low may_high r.joins.bytes on_there s1 in
        let spot : zero_word u1 8 + at ≡ m + o = ap (λ n. n + at) pointer ∙ there in
        leads_as g a end 2 2 u1 (IsBehind g a pushed needs c w k u1 b x m o new placed ready1 8 at small spot 1 (λ u. u.regs.a)) Done (omega arith)
        (λ u h. record { kept = kept_goes_on g a c c (with_put c b x o 1 new) w w w k k k t u1 u kept1 h.kept; value = h.value })
        (byte_leads g a pushed needs c w k u1 b x m o new placed ready1 8 at small spot may (λ i lt.
        let none : i ≡ 0 = omega (arith, lt) in
        rw none (subst (CellIs w (new 0)) (low_of_a u1 bytes.a) laid)))
      where
        low_of_a : (u : State) → u.regs.a < 256 → u.regs.a ≡ byte_of 0 (eax_of u)
        low_of_a u lt = omega (arith, lt)

    txa_leads : IsBytes (at_regs p1 r1) → Leads g a (implied Txa ∷ end) 3 (at_regs p1 r1) Done
    txa_leads bytes =
        leads_then g a (implied Txa ∷ []) end 1 2 (at_regs p1 r1) (To p1 s2) Done
        (implied_leads g a p1 placed (on_there t.regs p1.zp others (record { a = r.joins.bytes.a; x = r.joins.bytes.x; y = r.joins.bytes.y; zp = bytes.zp; mem = bytes.mem; pushed = bytes.pushed; frames = bytes.frames })) Txa refl r1 bytes)
        (λ u e. leads_from g a end 2 p1 u s2 Done e end_leads)

    pub byte_through_leads : Leads g a (byte_through_code at low high) 10 t Done
    byte_through_leads =
        let rest : List Line = implied Txa ∷ end in
        leads_then g a (implied Tax ∷ []) (point_code low high ++ rest) 1 9 t (To t s1) Done (implied_leads g a t placed (is_on g a pushed needs c w k t placed r) Tax refl t.regs r.joins.bytes) (λ u e.
        leads_from g a (point_code low high ++ rest) 9 t u s1 Done e (λ bytes.
        leads_then g a (point_code low high) rest 6 3 (at_regs t s1) (To p1 r1) Done (point_leads g a t placed low high clear may_low may_high r.joins.bytes on_there s1 bytes) (λ u2 e2. leads_from g a rest 3 p1 u2 r1 Done e2 txa_leads)))

  -- two bytes
  module _ (may : MayPut g a c w b x (At m) o 2) (laid_low : CellIs w (new 0) t.regs.a) (laid_high : CellIs w (new 1) t.regs.x) where
    abbrev v : ℕ
    v = t.regs.a

    abbrev h : State
    h = holding v t

    room : 3 + 27 ≤ s_of t
    room = one_more g a pushed needs c w k t r

    held_there : (z : OperandByte) → MayRead g t z → MayRead g h z × (byte_in g h z ≡ byte_in g t z)
    held_there (Number n) e = (e, refl)
    held_there (Low sym at) e = (tt, refl)
    held_there (High sym at) e = (tt, refl)
    held_there (Near at) e = (e, refl)
    held_there (Data sym at) e = (e, refl)
    held_there (Zero at) e = (e, refl)

    bare : (s : Regs) (z : Bytes) → IsBytes (record h { regs = s; zp = z }) → IsBytes (record t { zp = z })
    bare s z bytes = record { a = r.joins.bytes.a; x = r.joins.bytes.x; y = r.joins.bytes.y; zp = bytes.zp; mem = bytes.mem; pushed = r.joins.bytes.pushed; frames = bytes.frames }

    own : IsBytes h
    own = record { a = r.joins.bytes.a; x = r.joins.bytes.x; y = r.joins.bytes.y; zp = r.joins.bytes.zp; mem = r.joins.bytes.mem; pushed = All-cons (λ n. n < 256) t.regs.a t.pushed r.joins.bytes.a r.joins.bytes.pushed; frames = r.joins.bytes.frames }

    held_on : (s : Regs) (z : Bytes) → ((i : ℕ) → (i < 2) ⊎ (20 ≤ i) → z i ≡ h.zp i) → IsBytes (record h { regs = s; zp = z }) → IsOn g (record h { regs = s; zp = z })
    held_on s z same bytes =
        let base : State = record t { zp = z } in
        on_regs g a (holding v base) placed (on_holding g base v s (on_there t.regs z same (bare s z bytes)) room bytes) s bytes

    abbrev pp : State
    pp = pointing g a h placed low high clear (held_there low may_low).0 (held_there high may_high).0 own held_on t.regs

    abbrev rr : Regs
    rr = pointing_regs g a h placed low high clear (held_there low may_low).0 (held_there high may_high).0 own held_on t.regs

    -- the state without what waits
    abbrev base : State
    base = record t { zp = pp.zp }

    held_others : (i : ℕ) → (i < 2) ⊎ (20 ≤ i) → pp.zp i ≡ t.zp i
    held_others = pointing_others g a h placed low high clear (held_there low may_low).0 (held_there high may_high).0 own held_on t.regs

    abbrev Stored : State → Type 0
    Stored = IsThrough g a c w k t b x o 2 new ax_of

    abbrev ends : List Line
    ends = value Ldy (byte_more at 1) ∷ implied Txa ∷ by_y Sta 8 ∷ implied Dey ∷ implied Pla ∷ by_y Sta 8 ∷ []

    ends_lead : IsBytes (at_regs pp rr) → Leads g a ends 6 (at_regs pp rr) Stored
    ends_lead bytes =
        let own_base : IsBytes base = bare rr pp.zp bytes in
        let kept1 : Kept g a c w k t c w k base = kept_later g a pushed needs c w k t placed r t.regs pp.zp held_others own_base in
        let ready1 : Ready g a pushed needs c w k base = ready_later g a pushed needs c w k t placed r t.regs pp.zp held_others own_base in
        let pointer : zero_word base 8 ≡ byte_in g t low + 256 * byte_in g t high = points_there g a h placed low high clear (held_there low may_low).0 (held_there high may_high).0 own held_on t.regs ∙ same_bytes in
        let spot : zero_word base 8 + at ≡ m + o = ap (λ n. n + at) pointer ∙ there in
        leads_as g a ends 6 6 (at_regs pp rr) (λ u. Kept g a c w k base (with_put c b x o 2 new) w k u × (ax_of u ≡ v + 256 * rr.x)) Stored (omega arith)
        (λ u e. record { kept = kept_goes_on g a c c (with_put c b x o 2 new) w w w k k k t base u kept1 e.0; value = e.1 })
        (word_stored g a pushed needs c w k base b x m o new placed ready1 at small spot v rr may laid_low laid_high bytes)
      where
        same_bytes : byte_in g h low + 256 * byte_in g h high ≡ byte_in g t low + 256 * byte_in g t high
        same_bytes = let l = (held_there low may_low).1 in let n = (held_there high may_high).1 in omega (arith, l, n)

    pub word_through_leads : Leads g a (word_through_code at low high) 13 t Stored
    word_through_leads =
        leads_then g a (implied Pha ∷ []) (point_code low high ++ ends) 1 12 t (To h t.regs) Stored (push_a_leads g a t t.regs (is_on g a pushed needs c w k t placed r) r.joins.bytes) (λ u e.
        leads_from g a (point_code low high ++ ends) 12 h u t.regs Stored e (λ bytes.
        leads_then g a (point_code low high) ends 6 6 (at_regs h t.regs) (To pp rr) Stored (point_leads g a h placed low high clear (held_there low may_low).0 (held_there high may_high).0 own held_on t.regs bytes) (λ u2 e2. leads_from g a ends 6 pp u2 rr Stored e2 ends_lead)))
