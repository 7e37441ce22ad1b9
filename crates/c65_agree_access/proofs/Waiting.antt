-- An address waits on the software stack for what is to be stored there.
use Rattle.std.proofs.Common.{◌≡◌, ℕ, ◌+◌, ◌<◌, ◌≤◌, List, [], ◌∷◌, ◌++◌, length, refl, sym, ap, ◌∙◌, subst, arith}
use Rattle.c65_meaning.specs.State.{Scene}
use Rattle.c65_code.specs.declared.routine.Width.TheVariants.{Ax}
use Rattle.c65_code.specs.declared.routine.Routine.TheVariants.{PushAx}
use Rattle.c65_code.specs.LineState.{State, word_at, sp_of, ax_of, IsBytes}
use Rattle.c65_code.specs.Placement.{IsPlacement}
use Rattle.c65_genwide.specs.Lines.{call}
use Rattle.c65_genload.specs.declared.places.Place.{Place}
use Rattle.c65_genload.specs.declared.places.Place.TheVariants.{Bank, Near, Data, Far}
use Rattle.c65_genload.specs.Addresses.{offset_code}
use Rattle.c65_genload.specs.Places.{held}
use Rattle.c65_genload.specs.Loads.{hold_code}
use Rattle.c65_agree_store.specs.Stands.{Placing, Banks}
use Rattle.c65_agree_state.specs.World.{World, Active}
use Rattle.c65_agree_state.specs.Exprs.{Ready, Kept}
use Rattle.c65_agree_state.proofs.Nodes.{ready_stays}
use Rattle.c65_agree_rows.specs.Rows.{Word, ArePushed}
use Rattle.c65_agree_rows.specs.Laws.{IsReadyPushed}
use Rattle.c65_agree_rows.proofs.Families.{pushes_run}
use Rattle.c65_agree_frame.specs.Leads.{Leads}
use Rattle.c65_agree_frame.proofs.Leads.{none_leads, leads_then, leads_as}
use Rattle.c65_agree_load.proofs.Kept.{runs_lead, is_on, kept_later}
use Rattle.c65_agree_operate.proofs.Converted.{kept_itself}
use Rattle.c65_agree_structures.proofs.Offsets.{IsOffset, offset_leads}

-- the address of a place that is anywhere
abbrev pub HasAddress : Place → State → State → Type 0
HasAddress (Far at) t u = ax_of t + at < 65536 → word_at u.mem (sp_of u) ≡ ax_of t + at
HasAddress place t u = Unit {0}

-- behind lines that keep all, so many bytes are pushed
pub record IsWaiting (g : World) (a : Active) (pushed needs : ℕ) (c : Scene) (w : Placing) (b : Banks) (place : Place) (t u : State) : Type 0 where
  pub from : State
  pub kept : Kept g a c w b t c w b from
  pub bytes : List ℕ
  pub many : length bytes ≡ held place
  pub are : ArePushed bytes from u
  pub ready : Ready g a (pushed + held place) needs c w b u
  pub address : HasAddress place t u

module _ (g : World) (a : Active) (pushed needs : ℕ) (c : Scene) (w : Placing) (b : Banks) (t : State) (placed : IsPlacement g.code g.place) (r : Ready g a pushed (1 + needs) c w b t) where
  abbrev Waits : Place → State → Type 0
  Waits place = IsWaiting g a pushed needs c w b place t

  none_waits : (place : Place) → held place ≡ 0 → HasAddress place t t → Waits place t
  none_waits place none address = record {
    from = t;
    kept = kept_itself g a pushed (1 + needs) c w b t r;
    bytes = [];
    many = sym none;
    are = record { sp = omega arith; waiting = tt; mem = λ n le. refl };
    ready = record { joins = r.joins; sp = omega (arith, none, r.sp); room = omega (arith, r.room); none_pushed = r.none_pushed };
    address = address;
  }

  at_once : (place : Place) → held place ≡ 0 → HasAddress place t t → Leads g a [] 263 t (Waits place)
  at_once place none address = leads_as g a [] 0 263 t (Waits place) (Waits place) (omega arith) (λ u h. h) (none_leads g a t (Waits place) (none_waits place none address))

  far_waits : (at : ℕ) → Leads g a (offset_code at ++ (call PushAx ∷ [])) 263 t (Waits (Far at))
  far_waits at =
      leads_then g a (offset_code at) (call PushAx ∷ []) 7 256 t (IsOffset at t) (Waits (Far at)) (offset_leads g a placed t (is_on g a pushed (1 + needs) c w b t placed r) at) (λ y s.
      let bytes : IsBytes (record t { regs = s.regs }) = subst IsBytes s.is s.bytes in
      let kept : Kept g a c w b t c w b y = rw s.is (kept_later g a pushed (1 + needs) c w b t placed r s.regs t.zp (λ i side. refl) bytes) in
      let ready : Ready g a pushed (1 + needs) c w b y = ready_stays g a pushed (1 + needs) (1 + needs) c c w w b b t y (omega arith) r kept in
      leads_as g a (call PushAx ∷ []) 256 256 y (IsReadyPushed g a pushed needs c w b Word y) (Waits (Far at)) (omega arith)
      (λ u h. record {
        from = y;
        kept = kept;
        bytes = y.regs.a ∷ y.regs.x ∷ [];
        many = refl;
        are = h.are;
        ready = h.ready;
        address = λ low. let there = h.are.waiting in let sum = s.sum low in omega (arith, there.0, there.1.0, sum);
      })
      (runs_lead g a pushed (1 + needs) c w b y PushAx (IsReadyPushed g a pushed needs c w b Word y) (omega arith) ready (pushes_run g a pushed needs c w b y Word placed ready)))

  pub hold_leads : (place : Place) → Leads g a (hold_code place) 263 t (Waits place)
  hold_leads (Bank at) = at_once (Bank at) refl tt
  hold_leads (Near at) = at_once (Near at) refl tt
  hold_leads (Data s at) = at_once (Data s at) refl tt
  hold_leads (Far at) = far_waits at
