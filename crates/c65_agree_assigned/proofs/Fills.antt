-- The same byte goes twice to a place that is known.
use Rattle.std.proofs.Common.{◌≡◌, ℕ, zero, suc, ◌+◌, ◌<◌, ◌≤◌, List, [], ◌∷◌, ◌++◌, Bool, true, false, refl, sym, ap, ◌∙◌, subst, arith}
use Rattle.std.specs.Prelude.{if◌then◌else◌, length}
use Rattle.c65_mach.specs.declared.rows.Op.TheVariants.{Iny, Lda, Ldy, Sta}
use Rattle.c65_mach.specs.declared.rows.Mode.TheVariants.{Absolute}
use Rattle.c65_mach.specs.State.{Regs}
use Rattle.c65_mach.specs.Step.{apply}
use Rattle.c65_meaning.specs.Store.{Cell, Block}
use Rattle.c65_meaning.specs.State.{Scene}
use Rattle.c65_code.specs.declared.line.Line.{Line}
use Rattle.c65_code.specs.declared.line.Operand.TheVariants as operands
use Rattle.c65_code.specs.declared.line.Sym.{Sym}
use Rattle.c65_code.specs.Steady.{IsOpen}
use Rattle.c65_code.specs.LineState.{State, Bytes, write, sp_of, IsBytes}
use Rattle.c65_code.specs.Placement.{IsPlacement, located}
use Rattle.c65_genwide.specs.Lines.{value}
use Rattle.c65_genload.specs.Words.{implied, zero_page, by_y, absolute}
use Rattle.c65_genload.specs.Places.{byte_more, word_more}
use Rattle.c65_genload.specs.declared.places.Extent.TheVariants.{Two}
use Rattle.c65_genload.specs.declared.places.Place.{Place}
use Rattle.c65_genload.specs.declared.places.Place.TheVariants.{Bank, Near, Data, Far}
use Rattle.c65_genchange.specs.Spots.{spot_at, is_next}
use Rattle.c65_genchange.specs.Changes.{fill_code}
use Rattle.c65_agree_store.specs.Stands.{Spot, At, Banked, Placing, Banks, CellIs, beyond}
use Rattle.c65_agree_state.specs.World.{World, Active, place_in, HasTurns}
use Rattle.c65_agree_state.specs.Follows.{Follows}
use Rattle.c65_agree_state.specs.Exprs.{Ready, Kept}
use Rattle.c65_agree_places.specs.Places.{spot_in}
use Rattle.c65_agree_rows.proofs.Quiet.{write_other, write_same}
use Rattle.c65_agree_put.specs.Puts.{IsBeside, OnlyStored, AreLaid, MayPut, with_put, banks_in}
use Rattle.c65_agree_put.proofs.Puts.{banks_follow, puts_are_kept}
use Rattle.c65_agree_frame.specs.Leads.{Leads, IsOn}
use Rattle.c65_agree_frame.proofs.Leads.{leads_then, leads_as, kept_regs, kept_zero, after_lines, lines_lead}
use Rattle.c65_agree_load.proofs.Kept.{is_on}
use Rattle.c65_agree_assign.specs.Places.{MayHold}
use Rattle.c65_agree_assign.proofs.Steps.{operation}
use Rattle.c65_agree_direct.proofs.Spots.{IsKnown}
use Rattle.c65_agree_operate.proofs.Exact.{at_regs, To, on_regs, implied_leads, leads_from}
use Rattle.c65_agree_access.proofs.Through.{y_leads, store_leads, IsPartly, partly_on, open_there, partly_stored}

-- A goes to a symbol
data_leads : (g : World) (a : Active) (s : Sym) (off : ℕ) (t : State) (to : ℕ) → IsOn g t → located g.place s off ≡ to → IsOpen g.place (sp_of t) to → Leads g a (absolute Sta s off ∷ []) 1 t (λ u. (u ≡ record t { mem = write t.mem to t.regs.a }) × IsBytes u)
data_leads g a s off t to on is opened n v p turns m seen has turned goes =
    let ends : suc p ≡ p + 1 = omega arith in
    operation g a n turns m v p Sta Absolute (operands.At s off) t seen (record { there = has.0; formed = refl; calm = on.stacks.calm; within = subst (IsOpen g.place (sp_of t)) (sym is) opened; running = on.running; given = tt; counted = turned }) (λ b later h.
    subst (λ q. Follows g n v m (place_in g a q) (record t { mem = write t.mem (located g.place s off) t.regs.a }) later) (sym ends)
    (goes (record t { mem = write t.mem (located g.place s off) t.regs.a }) later (ap (λ l. record t { mem = write t.mem l t.regs.a }) is, b) (subst (λ q. HasTurns g turns (place_in g a q) later) ends h)))

-- A has the byte
a_leads : (g : World) (a : Active) (t : State) (n : ℕ) → IsPlacement g.code g.place → IsOn g t → n < 256 → Leads g a (value Lda n ∷ []) 1 t (To t (apply false Lda n t.regs))
a_leads g a t n placed on few = lines_lead g a (value Lda n ∷ []) t placed on (refl, tt, few, kept_regs t (apply false Lda n t.regs), tt)

module _ (g : World) (a : Active) (pushed needs : ℕ) (c : Scene) (w : Placing) (k : Banks) (t : State) (b : ℕ) (x : Block) (o n : ℕ) (new : ℕ → Cell) (placed : IsPlacement g.code g.place) (r : Ready g a pushed needs c w k t) (few : n < 256) (laid : (i : ℕ) → i < 2 → CellIs w (new i) n) where
  abbrev Filled : State → Type 0
  Filled u = (later : Banks) × Kept g a c w k t (with_put c b x o 2 new) w later u

  on : IsOn g t
  on = is_on g a pushed needs c w k t placed r

  abbrev s1 : Regs
  s1 = apply false Lda n t.regs

  -- ---- in memory

  module _ (m : ℕ) (may : MayPut g a c w b x (At m) o 2) where
    in_page : m + o + 2 ≤ 65520
    in_page = omega (arith, may.fits, r.joins.stands.whole b x may.block.is, (r.joins.stands.lies b x (At m) may.block).1)

    abbrev first_in : Bytes
    first_in = write t.mem (m + o + 0) n

    abbrev both_in : Bytes
    both_in = write first_in (m + o + 1) n

    abbrev one : State
    one = record t { mem = first_in }

    abbrev two : State
    two = record t { mem = both_in }

    one_partly : (s : Regs) → IsBytes (at_regs one s) → IsPartly g a pushed needs c w k t b x m o 2 new placed r may (at_regs one s)
    one_partly s bytes = record { mem = λ p far. write_other t.mem (m + o + 0) n p (λ e. far 0 (omega arith) (sym e)); zp = λ i e. refl; stack = refl; frames = refl; input = refl; output = refl; ended = refl; bytes = bytes }

    two_partly : (s : Regs) → IsBytes (at_regs two s) → IsPartly g a pushed needs c w k t b x m o 2 new placed r may (at_regs two s)
    two_partly s bytes = record {
      mem = λ p far. write_other first_in (m + o + 1) n p (λ e. far 1 (omega arith) (sym e)) ∙ write_other t.mem (m + o + 0) n p (λ e. far 0 (omega arith) (sym e));
      zp = λ i e. refl;
      stack = refl;
      frames = refl;
      input = refl;
      output = refl;
      ended = refl;
      bytes = bytes;
    }

    none_partly : (s : Regs) → IsBytes (at_regs t s) → IsPartly g a pushed needs c w k t b x m o 2 new placed r may (at_regs t s)
    none_partly s bytes = record { mem = λ p far. refl; zp = λ i e. refl; stack = refl; frames = refl; input = refl; output = refl; ended = refl; bytes = bytes }

    there : (i : ℕ) → i < 2 → CellIs w (new i) (both_in (m + o + i))
    there zero lt = subst (CellIs w (new 0)) (sym (write_other first_in (m + o + 1) n (m + o + 0) (λ e. omega (arith, e)) ∙ write_same t.mem (m + o + 0) n)) (laid 0 lt)
    there (suc zero) lt = subst (CellIs w (new 1)) (sym (write_same first_in (m + o + 1) n)) (laid 1 lt)
    there (suc (suc i)) lt = absurd (omega (arith, lt))

    filled : (s : Regs) (u : State) → To two s u → Filled u
    filled s u e = rw e.0 (k, partly_stored g a pushed needs c w k t b x m o 2 new placed r may (at_regs two s) (two_partly s (subst IsBytes e.0 e.1)) there)

    one_on : (s : Regs) → IsBytes (at_regs one s) → IsOn g (at_regs one s)
    one_on s bytes = partly_on g a pushed needs c w k t b x m o 2 new placed r may (at_regs one s) (one_partly s bytes)

    opened0 : (s : Regs) (bytes : IsBytes (at_regs t s)) → IsOpen g.place (sp_of (at_regs t s)) (m + o + 0)
    opened0 s bytes = open_there g a pushed needs c w k t b x m o 2 new placed r may (at_regs t s) (none_partly s bytes) 0 (omega arith)

    opened1 : (s : Regs) (bytes : IsBytes (at_regs one s)) → IsOpen g.place (sp_of (at_regs one s)) (m + o + 1)
    opened1 s bytes = open_there g a pushed needs c w k t b x m o 2 new placed r may (at_regs one s) (one_partly s bytes) 1 (omega arith)

    -- at a symbol
    module _ (s : Sym) (off : ℕ) (is : located g.place s off ≡ m + o) where
      first_at : located g.place s (word_more off 0) ≡ m + o + 0
      first_at = omega (arith, is)

      second_at : located g.place s (word_more off 1) ≡ m + o + 1
      second_at = omega (arith, is, in_page)

      data_filled : Leads g a (fill_code n (spot_at (Data s off) 0) (spot_at (Data s off) 1)) 3 t Filled
      data_filled =
          let rest1 : List Line = absolute Sta s (word_more off 1) ∷ [] in
          let rest2 : List Line = absolute Sta s (word_more off 0) ∷ rest1 in
          leads_then g a (value Lda n ∷ []) rest2 1 2 t (To t s1) Filled (a_leads g a t n placed on few) (λ u e.
          leads_from g a rest2 2 t u s1 Filled e (λ bytes.
          leads_then g a (absolute Sta s (word_more off 0) ∷ []) rest1 1 1 (at_regs t s1) (To one s1) Filled (data_leads g a s (word_more off 0) (at_regs t s1) (m + o + 0) (on_regs g a t placed on s1 bytes) first_at (opened0 s1 bytes)) (λ u2 e2.
          leads_from g a rest1 1 one u2 s1 Filled e2 (λ bytes2.
          leads_as g a rest1 1 1 (at_regs one s1) (To two s1) Filled (omega arith) (filled s1) (data_leads g a s (word_more off 1) (at_regs one s1) (m + o + 1) (one_on s1 bytes2) second_at (opened1 s1 bytes2))))))

    -- near sp
    module _ (off : ℕ) (near : off ≤ 252) (is : sp_of t + off ≡ m + o) where
      abbrev y0 : ℕ
      y0 = byte_more off 0

      abbrev y1 : ℕ
      y1 = byte_more off 1

      abbrev s2 : Regs
      s2 = apply false Ldy y0 s1

      -- Y comes to the next byte
      abbrev next : Bool → Regs
      next true = apply false Iny 0 s2
      next false = apply false Ldy y1 s2

      abbrev next_code : Bool → List Line
      next_code true = implied Iny ∷ []
      next_code false = value Ldy y1 ∷ []

      next_leads : (near_next : Bool) → IsBytes (at_regs one s2) → Leads g a (next_code near_next) 1 (at_regs one s2) (To one (next near_next))
      next_leads true bytes = implied_leads g a one placed (one_own bytes) Iny refl s2 bytes
        where
          one_own : IsBytes (at_regs one s2) → IsOn g one
          one_own z = one_on t.regs (record { a = r.joins.bytes.a; x = r.joins.bytes.x; y = r.joins.bytes.y; zp = z.zp; mem = z.mem; pushed = z.pushed; frames = z.frames })
      next_leads false bytes = y_leads g a one y1 s2 placed (one_own bytes) (omega arith) bytes
        where
          one_own : IsBytes (at_regs one s2) → IsOn g one
          one_own z = one_on t.regs (record { a = r.joins.bytes.a; x = r.joins.bytes.x; y = r.joins.bytes.y; zp = z.zp; mem = z.mem; pushed = z.pushed; frames = z.frames })

      next_y : (near_next : Bool) → (next near_next).y ≡ off + 1
      next_y true = omega (arith, near)
      next_y false = omega (arith, near)

      next_a : (near_next : Bool) → (next near_next).a ≡ n
      next_a true = refl
      next_a false = refl

      last_leads : (near_next : Bool) → IsBytes (at_regs one (next near_next)) → Leads g a (by_y Sta 0 ∷ []) 1 (at_regs one (next near_next)) Filled
      last_leads near_next bytes =
          let y_is = next_y near_next in
          leads_as g a (by_y Sta 0 ∷ []) 1 1 (at_regs one (next near_next)) (λ u. (u ≡ record (at_regs one (next near_next)) { mem = write first_in (m + o + 1) (next near_next).a }) × IsBytes u) Filled (omega arith)
          (λ u e. filled (next near_next) u (e.0 ∙ ap (λ l. record t { regs = next near_next; mem = write first_in (m + o + 1) l }) (next_a near_next), e.1))
          (store_leads g a 0 (at_regs one (next near_next)) (m + o + 1) (one_on (next near_next) bytes) (omega (arith, y_is, is, in_page)) (opened1 (next near_next) bytes))

      near_by : (near_next : Bool) → Leads g a (value Lda n ∷ value Ldy y0 ∷ by_y Sta 0 ∷ (next_code near_next ++ (by_y Sta 0 ∷ []))) 5 t Filled
      near_by near_next =
          let rest1 : List Line = by_y Sta 0 ∷ [] in
          let rest2 : List Line = next_code near_next ++ rest1 in
          let rest3 : List Line = by_y Sta 0 ∷ rest2 in
          let rest4 : List Line = value Ldy y0 ∷ rest3 in
          leads_then g a (value Lda n ∷ []) rest4 1 4 t (To t s1) Filled (a_leads g a t n placed on few) (λ u e.
          leads_from g a rest4 4 t u s1 Filled e (λ bytes.
          leads_then g a (value Ldy y0 ∷ []) rest3 1 3 (at_regs t s1) (To t s2) Filled (y_leads g a t y0 s1 placed on (omega arith) bytes) (λ u2 e2.
          leads_from g a rest3 3 t u2 s2 Filled e2 (λ bytes2.
          leads_then g a (by_y Sta 0 ∷ []) rest2 1 2 (at_regs t s2) (To one s2) Filled (store_leads g a 0 (at_regs t s2) (m + o + 0) (on_regs g a t placed on s2 bytes2) (omega (arith, is, near, in_page)) (opened0 s2 bytes2)) (λ u3 e3.
          leads_from g a rest2 2 one u3 s2 Filled e3 (λ bytes3.
          leads_then g a (next_code near_next) rest1 1 1 (at_regs one s2) (To one (next near_next)) Filled (next_leads near_next bytes3) (λ u4 e4. leads_from g a rest1 1 one u4 (next near_next) Filled e4 (last_leads near_next))))))))

      near_filled : Leads g a (fill_code n (spot_at (Near off) 0) (spot_at (Near off) 1)) 5 t Filled
      near_filled = go (is_next (spot_at (Near off) 0) (spot_at (Near off) 1)) refl
        where
          go : (near_next : Bool) → is_next (spot_at (Near off) 0) (spot_at (Near off) 1) ≡ near_next → Leads g a (fill_code n (spot_at (Near off) 0) (spot_at (Near off) 1)) 5 t Filled
          go true e = subst (λ z. Leads g a (value Lda n ∷ value Ldy y0 ∷ by_y Sta 0 ∷ (if z then implied Iny ∷ by_y Sta 0 ∷ [] else value Ldy y1 ∷ by_y Sta 0 ∷ [])) 5 t Filled) (sym e) (near_by true)
          go false e = subst (λ z. Leads g a (value Lda n ∷ value Ldy y0 ∷ by_y Sta 0 ∷ (if z then implied Iny ∷ by_y Sta 0 ∷ [] else value Ldy y1 ∷ by_y Sta 0 ∷ [])) 5 t Filled) (sym e) (near_by false)

  -- ---- in regbank

  module _ (d i at : ℕ) (may : MayPut g a c w b x (Banked d i) o 2) (own : d ≡ length a.behind) (is : at ≡ i + o) where
    in_bank : at + 2 ≤ 6
    in_bank = omega (arith, is, may.fits, r.joins.stands.whole b x may.block.is, r.joins.stands.lies b x (Banked d i) may.block)

    abbrev z0 : ℕ
    z0 = byte_more (byte_more 20 at) 0

    abbrev z1 : ℕ
    z1 = byte_more (byte_more 20 at) 1

    abbrev zp2 : Bytes
    zp2 = write (write t.zp z0 n) z1 n

    abbrev u2 : State
    u2 = record t { regs = s1; zp = zp2 }

    z0_is : z0 ≡ 20 + at
    z0_is = omega (arith, in_bank)

    z1_is : z1 ≡ 21 + at
    z1_is = omega (arith, in_bank)

    other : (j : ℕ) → (j ≡ 20 + at → ⊥) → (j ≡ 21 + at → ⊥) → zp2 j ≡ t.zp j
    other j first second = write_other (write t.zp z0 n) z1 n j (λ e. second (e ∙ z1_is)) ∙ write_other t.zp z0 n j (λ e. first (e ∙ z0_is))

    first_is : zp2 (20 + at) ≡ n
    first_is = write_other (write t.zp z0 n) z1 n (20 + at) (λ e. omega (arith, e, z1_is)) ∙ subst (λ j. write t.zp z0 n j ≡ n) z0_is (write_same t.zp z0 n)

    second_is : zp2 (21 + at) ≡ n
    second_is = subst (λ j. zp2 j ≡ n) z1_is (write_same (write t.zp z0 n) z1 n)

    beside : (l j : ℕ) → l < 6 → j < 2 → IsBeside (Banked d i) o 2 (Banked (length a.behind) l) → 20 + l ≡ 20 + at + j → ⊥
    beside l j lt few apart e = apart j few (let spot : i + (o + j) ≡ l = omega (arith, e, is) in ap (λ z. Banked z (i + (o + j))) own ∙ ap (Banked (length a.behind)) spot)

    only : IsBytes u2 → OnlyStored a (sp_of t) (Banked d i) o 2 t u2
    only bytes = record {
      mem = λ l side apart. refl;
      bank = λ l lt apart. sym (other (20 + l) (λ e. beside l 0 lt (omega arith) apart (omega (arith, e))) (λ e. beside l 1 lt (omega arith) apart (omega (arith, e))));
      pushed = refl;
      frames = refl;
      input = refl;
      output = refl;
      ended = refl;
      bytes = bytes;
    }

    laid_there : AreLaid w (Banked d i) o 2 new u2
    laid_there zero lt = let spot : 20 + at ≡ 20 + (i + (o + 0)) = omega (arith, is) in subst (CellIs w (new 0)) (sym first_is ∙ ap zp2 spot) (laid 0 lt)
    laid_there (suc zero) lt = let spot : 21 + at ≡ 20 + (i + (o + 1)) = omega (arith, is) in subst (CellIs w (new 1)) (sym second_is ∙ ap zp2 spot) (laid 1 lt)
    laid_there (suc (suc j)) lt = absurd (omega (arith, lt))

    same_sp : sp_of u2 ≡ sp_of t
    same_sp = let low = other 0 (λ e. omega (arith, e)) (λ e. omega (arith, e)) in let high = other 1 (λ e. omega (arith, e)) (λ e. omega (arith, e)) in omega (arith, low, high)

    bank_filled : Leads g a (fill_code n (spot_at (Bank at) 0) (spot_at (Bank at) 1)) 3 t Filled
    bank_filled =
        let ls : List Line = value Lda n ∷ zero_page Sta z0 ∷ zero_page Sta z1 ∷ [] in
        leads_as g a ls 3 3 t (λ u. (u ≡ after_lines g ls t) × IsBytes u) Filled (omega arith)
        (λ u e. rw e.0 (banks_in a u2 k, puts_are_kept g a pushed needs c w k (banks_in a u2 k) t u2 b x (Banked d i) o 2 new placed r may (only (subst IsBytes e.0 e.1)) laid_there (banks_follow a k t u2 o 2).0 same_sp))
        (lines_lead g a ls t placed on (
          refl,
          tt,
          few,
          kept_regs t s1,
          (
            refl,
            (omega arith, λ _. omega (arith, z0_is)),
            tt,
            kept_zero (record t { regs = s1 }) z0 n (omega (arith, z0_is)),
            (refl, (omega arith, λ _. omega (arith, z1_is)), tt, kept_zero (record t { regs = s1; zp = write t.zp z0 n }) z1 n (omega (arith, z1_is)), tt),
          ),
        ))

  -- ---- at any place that is known

  spot_same : {l j : ℕ} → At l ≡ At j → l ≡ j
  spot_same e = cc

  pub place_filled : (place : Place) → IsKnown place → (q : Spot) → MayPut g a c w b x q o 2 → spot_in g a t place ≡ beyond q o → MayHold place Two → Leads g a (fill_code n (spot_at place 0) (spot_at place 1)) 600 t Filled
  place_filled (Near off) known (At m) may e near = leads_as g a (fill_code n (spot_at (Near off) 0) (spot_at (Near off) 1)) 5 600 t Filled Filled (omega arith) (λ u h. h) (near_filled m may off near (spot_same e))
  place_filled (Data s off) known (At m) may e near = leads_as g a (fill_code n (spot_at (Data s off) 0) (spot_at (Data s off) 1)) 3 600 t Filled Filled (omega arith) (λ u h. h) (data_filled m may s off (spot_same e))
  place_filled (Bank at) known (Banked d i) may e near =
      let is : at ≡ i + o = cc in
      leads_as g a (fill_code n (spot_at (Bank at) 0) (spot_at (Bank at) 1)) 3 600 t Filled Filled (omega arith) (λ u h. h) (bank_filled d i at may may.own.0 is)
  place_filled (Bank at) known (At m) may e near = absurd (let no : Banked (length a.behind) at ≡ At (m + o) = e in cc)
  place_filled (Near off) known (Banked d i) may e near = absurd (let no : At (sp_of t + off) ≡ Banked d (i + o) = e in cc)
  place_filled (Data s off) known (Banked d i) may e near = absurd (let no : At (located g.place s off) ≡ Banked d (i + o) = e in cc)
  place_filled (Far off) known q may e near = absurd known
