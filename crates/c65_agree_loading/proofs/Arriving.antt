-- An address in AX goes to ptr1, and ptr2 stays.
use Rattle.std.proofs.Common.{◌≡◌, ℕ, ◌+◌, ◌<◌, ◌≤◌, ◌⊎◌, inl, inr, List, [], ◌∷◌, ◌++◌, refl, sym, ap, ◌∙◌, subst, arith, length-append}
use Rattle.std.specs.Prelude.{length}
use Rattle.c65_mach.specs.State.{Regs}
use Rattle.c65_meaning.specs.Store.{Value, Whole, Null, Opaque, Cells, NoValue}
use Rattle.c65_meaning.specs.Store as values
use Rattle.c65_meaning.specs.Items.{Item}
use Rattle.c65_meaning.specs.State.{Scene, Running}
use Rattle.c65_code.specs.declared.line.Line.{Line}
use Rattle.c65_code.specs.LineState.{Bytes, State, write, ax_of, IsBytes}
use Rattle.c65_code.specs.Placement.{IsPlacement}
use Rattle.c65_genload.specs.declared.places.Place.{Place}
use Rattle.c65_genload.specs.declared.places.Place.TheVariants.{Bank, Near, Data, Far}
use Rattle.c65_gendirect.specs.Pointed.{pointer_code}
use Rattle.c65_genexpr.specs.declared.destination.Destination.TheVariants.{Registers, Pointer}
use Rattle.c65_genexpr.specs.Places.{target_code}
use Rattle.c65_agree_store.specs.Stands.{At, Placing, Banks}
use Rattle.c65_agree_state.specs.World.{World, Active, lines_of, place_in, HasTurns}
use Rattle.c65_agree_state.specs.Follows.{Follows}
use Rattle.c65_agree_state.specs.Exprs.{Ready, Kept}
use Rattle.c65_agree_state.proofs.Followed.{follows_weaken}
use Rattle.c65_agree_state.proofs.Nodes.{has_front, has_back, ready_stays}
use Rattle.c65_agree_state.proofs.Parts.{kept_goes_on}
use Rattle.c65_agree_rows.proofs.Quiet.{write_other, write_same}
use Rattle.c65_agree_frame.specs.Leads.{Leads}
use Rattle.c65_agree_frame.proofs.Entries.{append_end}
use Rattle.c65_agree_frame.proofs.Leads.{leads_as, kept_zero, after_lines, lines_lead}
use Rattle.c65_agree_load.proofs.Kept.{is_on, kept_later}
use Rattle.c65_agree_direct.proofs.Spots.{IsKnown}
use Rattle.c65_agree_operate.specs.Manners.{Manner, IsHeld}
use Rattle.c65_agree_operate.proofs.Manners.{left_then, left_held}
use Rattle.c65_agree_structures.specs.Bases.{IsToldBy}
use Rattle.c65_agree_loading.specs.Bases.{arrived_at, TellsIn}

-- other registers alone leave ptr2
pub held_by_regs : (t u : State) (s : Regs) → u ≡ record t { regs = s } → IsHeld t u
held_by_regs t u s e = record { low = ap (λ (x : State). x.zp 10) e; high = ap (λ (x : State). x.zp 11) e }

-- all is kept, ptr1 is what AX was, and ptr2 stays
record IsBehind (g : World) (a : Active) (c : Scene) (w : Placing) (b : Banks) (t u : State) : Type 0 where
  kept : Kept g a c w b t c w b u
  word : ax_of (arrived_at Pointer u) ≡ ax_of t
  held : IsHeld t u

module _ (g : World) (a : Active) (pushed needs : ℕ) (c : Scene) (w : Placing) (b : Banks) (t : State) (placed : IsPlacement g.code g.place) (r : Ready g a pushed needs c w b t) where
  abbrev low_set : Bytes
  low_set = write t.zp 8 t.regs.a

  abbrev both_set : Bytes
  both_set = write low_set 9 t.regs.x

  other : (i : ℕ) → (i ≡ 8 → ⊥) → (i ≡ 9 → ⊥) → both_set i ≡ t.zp i
  other i first second = write_other low_set 9 t.regs.x i second ∙ write_other t.zp 8 t.regs.a i first

  others : (i : ℕ) → (i < 2) ⊎ (20 ≤ i) → both_set i ≡ t.zp i
  others i (inl h) = other i (λ e. omega (arith, h, e)) (λ e. omega (arith, h, e))
  others i (inr h) = other i (λ e. omega (arith, h, e)) (λ e. omega (arith, h, e))

  word_is : ax_of (arrived_at Pointer (record t { zp = both_set })) ≡ ax_of t
  word_is =
      let low : both_set 8 ≡ t.regs.a = write_other low_set 9 t.regs.x 8 (λ e. omega (arith, e)) ∙ write_same t.zp 8 t.regs.a in
      let high : both_set 9 ≡ t.regs.x = write_same low_set 9 t.regs.x in
      omega (arith, low, high)

  held_is : (u : State) → u ≡ record t { zp = both_set } → IsHeld t u
  held_is u e = record { low = ap (λ (x : State). x.zp 10) e ∙ other 10 (λ h. omega (arith, h)) (λ h. omega (arith, h)); high = ap (λ (x : State). x.zp 11) e ∙ other 11 (λ h. omega (arith, h)) (λ h. omega (arith, h)) }

  pointer_leads : Leads g a pointer_code 2 t (IsBehind g a c w b t)
  pointer_leads =
      leads_as g a pointer_code 2 2 t (λ u. (u ≡ after_lines g pointer_code t) × IsBytes u) (IsBehind g a c w b t) (omega arith)
      (λ u e. record { kept = rw e.0 (kept_later g a pushed needs c w b t placed r t.regs both_set others (subst IsBytes e.0 e.1)); word = ap (λ (x : State). ax_of (arrived_at Pointer x)) e.0 ∙ word_is; held = held_is u e.0 })
      (lines_lead g a pointer_code t placed (is_on g a pushed needs c w b t placed r) (
        refl,
        (omega arith, λ _. omega arith),
        tt,
        kept_zero t 8 t.regs.a (omega arith),
        (refl, (omega arith, λ _. omega arith), tt, kept_zero (record t { zp = low_set }) 9 t.regs.x (omega arith), tt),
      ))

-- what is told by one address is told by another that is the same
told_alike : (g : World) (a : Active) (c : Scene) (w : Placing) (t u : State) (at : ℕ) (v : Value) → ax_of u ≡ ax_of t → IsToldBy g a (Far at) c w t v → IsToldBy g a (Far at) c w u v
told_alike g a c w t u at (values.Place b o) same told = ((told.0.0, λ x q is. ((told.0.1 x q is).0, ap (λ n. At (n + at)) same ∙ (told.0.1 x q is).1)), told.1, tt)
told_alike g a c w t u at (Whole z) same told = tt
told_alike g a c w t u at Null same told = tt
told_alike g a c w t u at Opaque same told = tt
told_alike g a c w t u at (Cells xs) same told = tt
told_alike g a c w t u at NoValue same told = tt

-- behind lines that tell a place by an address in AX
pub arrives : (g : World) (a : Active) (m : Manner) (work : List Item → List Item) (needs pushed at : ℕ) (lines : List Line) → IsPlacement g.code g.place → TellsIn g a m Registers work needs pushed (Far at) lines → TellsIn g a m Pointer work needs pushed (Far at) (lines ++ pointer_code)
arrives g a m work needs pushed at lines placed tells n w p k vs c q b t seen has r turned rest =
    let ends : p + length lines + 2 ≡ p + length (lines ++ pointer_code) = omega (arith, length-append lines pointer_code) in
    tells n w p k vs c q b t seen (has_front (lines_of g a) p lines pointer_code has) r turned (λ j v c2 q2 b2 u later lt kept told left turned2.
    let ready = ready_stays g a pushed needs needs c c2 q q2 b b2 t u (omega arith) r kept in
    follows_weaken g j (2 + (w + 2500)) (w + 2600) (Running k (v ∷ vs) c2) (place_in g a (p + length lines)) u later (omega arith)
    (pointer_leads g a pushed needs c2 q2 b2 u placed ready j (w + 2500) (p + length lines) c2.turns (Running k (v ∷ vs) c2) later (has_back (lines_of g a) p lines pointer_code has) turned2 (λ x after h turned3.
    subst (λ z. Follows g j (w + 2500) (Running k (v ∷ vs) c2) (place_in g a z) x after) (sym ends)
    (rest j v c2 q2 b2 x after lt (kept_goes_on g a c c2 c2 q q2 q2 b b2 b2 t u x kept h.kept) (told_alike g a c2 q2 u (arrived_at Pointer x) at v h.word told) (left_then m c c2 c2 t u x left (left_held m c2 u x h.held)) (subst (λ z. HasTurns g c2.turns (place_in g a z) after) ends turned3)))))

-- no address tells a place that is known
known_told : (g : World) (a : Active) (place : Place) (c : Scene) (w : Placing) (u : State) (v : Value) → IsKnown place → IsToldBy g a place c w u v → IsToldBy g a place c w (arrived_at Pointer u) v
known_told g a (Bank i) c w u (values.Place b o) known told = absurd told.2
known_told g a (Near i) c w u (values.Place b o) known told = ((told.0.0, λ x q is. told.0.1 x q is), told.1, tt)
known_told g a (Data s i) c w u (values.Place b o) known told = ((told.0.0, λ x q is. told.0.1 x q is), told.1, tt)
known_told g a (Far i) c w u v known told = absurd known
known_told g a place c w u (Whole z) known told = tt
known_told g a place c w u Null known told = tt
known_told g a place c w u Opaque known told = tt
known_told g a place c w u (Cells xs) known told = tt
known_told g a place c w u NoValue known told = tt

stays_told : (g : World) (a : Active) (m : Manner) (work : List Item → List Item) (needs pushed : ℕ) (place : Place) (lines : List Line) → IsKnown place → TellsIn g a m Registers work needs pushed place lines → TellsIn g a m Pointer work needs pushed place lines
stays_told g a m work needs pushed place lines known tells n w p k vs c q b t seen has r turned rest =
    tells n w p k vs c q b t seen has r turned (λ j v c2 q2 b2 u later lt kept told left turned2.
    follows_weaken g j (w + 2500) (w + 2600) (Running k (v ∷ vs) c2) (place_in g a (p + length lines)) u later (omega arith)
    (rest j v c2 q2 b2 u later lt kept (known_told g a place c2 q2 u v known told) left turned2))

-- the address of a place is brought where it takes lines of code
pub base_arrives : (g : World) (a : Active) (m : Manner) (work : List Item → List Item) (needs pushed : ℕ) (place : Place) (lines : List Line) → IsPlacement g.code g.place → TellsIn g a m Registers work needs pushed place (target_code place (lines ++ []))
    → TellsIn g a m Pointer work needs pushed place (target_code place (lines ++ pointer_code))
base_arrives g a m work needs pushed (Bank i) lines placed tells = stays_told g a m work needs pushed (Bank i) [] tt tells
base_arrives g a m work needs pushed (Near i) lines placed tells = stays_told g a m work needs pushed (Near i) [] tt tells
base_arrives g a m work needs pushed (Data s i) lines placed tells = stays_told g a m work needs pushed (Data s i) [] tt tells
base_arrives g a m work needs pushed (Far i) lines placed tells = arrives g a m work needs pushed i lines placed (subst (TellsIn g a m Registers work needs pushed (Far i)) (append_end lines) tells)
