-- How ways of the machine on lines are put together.
use Rattle.std.proofs.Common.{◌≡◌, ℕ, zero, suc, ◌+◌, ◌≤◌, List, [], ◌∷◌, Option, Some, None, refl, sym, ap, ◌∙◌, subst, arith}
use Rattle.std.specs.Prelude.{slice_get}
use Rattle.c65_code.specs.declared.routine.Routine.TheVariants as routines
use Rattle.c65_code.specs.declared.line.Line.{Line}
use Rattle.c65_code.specs.declared.line.Line.TheVariants.{Label, Do, Call}
use Rattle.c65_code.specs.Parts.{union_of}
use Rattle.c65_code.specs.Effects.{ptr4_bytes}
use Rattle.c65_code.specs.LineState.{Place, State, IsBytes}
use Rattle.c65_code.specs.Placement.{Setting}
use Rattle.c65_code.specs.Forms.{Form, Plain, Branch, Jump, Push, Pull, Return, Run, Enter, Through, form_of}
use Rattle.c65_code.specs.Rows.{row_of}
use Rattle.c65_code.specs.Moves.{settle, Enters, Returns, Calls, IsCallee, Goes, Moves}
use Rattle.c65_code.specs.Weights.{Weighs, row_cost, call_weight}
use Rattle.c65_code.specs.Steady.{IsSteady, IsWithin}
use Rattle.c65_code.specs.LineLaws.{given_of, IsGivenByte}
use Rattle.c65_code_law.proofs.Sticks.{never_sticks}
use Rattle.c65_code.specs.Comes.{Seen, Comes, here, on}
use Rattle.c65_agree_step.specs.Ways.{Moment, place_at, GoesOn, IsAtLine}
use Rattle.c65_agree_step.specs.Laws.{WaysWeaken, WaysJoin, LabelsArePassed, OperationsGo, BranchesGo, JumpsGo, PushesGo, pulling, PullsGo, RoutinesGo, CallsEnter, LibraryCallsGo, PointerCallsEnter, IsBack, ReturnsGo, MainEnds}

-- ---- ways

pub weaken : (s : Setting) (Q : Moment) {w : ℕ} {p : Place} {t : State} {seen : Seen} (v : ℕ) → w ≤ v → Comes s Q w p t seen → Comes s Q v p t seen
weaken s Q v le (here q calm) = here q calm
weaken s Q v le (on {v = v'} l h st c wc lw q0 u0 m0 k) = on {v = v'} l h st c wc (omega arith) q0 u0 m0 k

pub ways_weaken : (Q : Moment) → WaysWeaken Q
ways_weaken Q s w v p t seen le h = weaken s Q v le h

pub bind : (s : Setting) (Q R : Moment) (v : ℕ) {w : ℕ} {p : Place} {t : State} {seen : Seen} → Comes s Q w p t seen → ((q : Place) (u : State) (later : Seen) → Q q u later → Comes s R v q u later) → Comes s R (w + v) p t seen
bind s Q R v {w = w} {p = p} {t = t} {seen = seen} (here q calm) f = weaken s R (w + v) (omega arith) (f p t seen q)
bind s Q R v {w = w} (on {v = v'} l h st c wc lw q0 u0 m0 k) f = on {v = v' + v} l h st c wc (omega arith) q0 u0 m0 (λ q u m. bind s Q R v (k q u m) f)

pub ways_join : (Q R : Moment) → WaysJoin Q R
ways_join Q R s w v p t seen h f = bind s Q R v h f

-- ---- where the machine stands

abbrev pub IsInstruction : Line → Type 0
IsInstruction (Label l) = ⊥
IsInstruction _ = Unit {0}

abbrev IsSomeInstruction : Option Line → Type 0
IsSomeInstruction None = ⊥
IsSomeInstruction (Some l) = IsInstruction l

pub settle_line : (code : List Line) (p : ℕ) (l : Line) → IsInstruction l → slice_get code p ≡ Some l → settle code p ≡ p
settle_line [] p l i h = refl
settle_line (Label k ∷ ls) zero l i h = absurd (subst IsSomeInstruction (sym h) i)
settle_line (_ ∷ ls) zero l i h = refl
settle_line (_ ∷ ls) (suc p) l i h = ap suc (settle_line ls p l i h)

pub settle_label : (code : List Line) (p k : ℕ) → slice_get code p ≡ Some (Label k) → settle code p ≡ settle code (suc p)
settle_label [] p k h = cc
settle_label (Label j ∷ ls) zero k h = refl
settle_label (_ ∷ ls) zero k h = cc
settle_label (_ ∷ ls) (suc p) k h = ap suc (settle_label ls p k h)

pub labels_are_passed : LabelsArePassed
labels_are_passed s f p l h = ap (λ n. (f, n)) (settle_label (s.lines f) p l h)

-- nothing is steady at a label
is_instruction : (s : Setting) (t : State) (l : Line) → IsWithin s (form_of l) t → IsInstruction l
is_instruction s t (Label l) h = absurd h
is_instruction s t (Do op mode operand) h = tt
is_instruction s t (Call callee) h = tt

-- ---- a line, whatever it does

module _ (s : Setting) (Q : Moment) (f p : ℕ) (t : State) (seen : Seen) (form : Form) (at : IsAtLine s f p t form) where
  pub line : (w c : ℕ) → IsGivenByte (given_of s form t) → Weighs s form t c
      → ((q : Place) (u : State) → Goes s form (f, p) t q u → IsBytes u → GoesOn s Q w q u seen) → Comes s Q (c + w) (place_at s f p) t seen
  line w c given wc k =
      let within : IsWithin s (form_of at.line) t = subst (λ x. IsWithin s x t) (sym at.formed) at.within in
      let steady : IsSteady s at.line t = record { calm = at.calm; within = within } in
      let go = never_sticks s at.line (f, p) t (subst (λ x. IsGivenByte (given_of s x t)) (sym at.formed) given) steady at.running in
      let weight : Weighs s (form_of at.line) t c = subst (λ x. Weighs s x t c) (sym at.formed) wc in
      let after : (q : Place) (u : State) → Moves s at.line (f, p) t q u → GoesOn s Q w q u seen = λ q u m. k q u (subst (λ x. Goes s x (f, p) t q u) at.formed m.goes) m.bytes in
      rw (settle_line (s.lines f) p at.line (is_instruction s t at.line within) at.there) (on {w = c + w} {v = w} at.line at.there steady c weight (omega arith) go.0 go.1 go.2 after)

-- ---- lines within a function

pub operations_go : (Q : Moment) → OperationsGo Q
operations_go Q s w f p t seen op mode operand at given k =
    line s Q f p t seen (Plain op mode operand) at w 1 given refl (λ q u g b. rw (g.0, g.1) (k (subst IsBytes g.1 b)))

pub branches_go : (Q : Moment) → BranchesGo Q
branches_go Q s w f p l t seen op taken at by k =
    line s Q f p t seen (Branch op l) at w 2 (omega arith) refl (λ q u g b. rw (g.0, g.1, by) k)

pub jumps_go : (Q : Moment) → JumpsGo Q
jumps_go Q s w f p l t seen at k =
    line s Q f p t seen (Jump l) at w 1 (omega arith) refl (λ q u g b. rw (g.0, g.1) k)

pub pushes_go : (Q : Moment) → PushesGo Q
pushes_go Q s w f p t seen at k =
    line s Q f p t seen Push at w 1 (omega arith) refl (λ q u g b. rw (g.0, g.1) (k (subst IsBytes g.1 b)))

pub pulls_go : (Q : Moment) → PullsGo Q
pulls_go Q s w f p v rest t seen at is k = line s Q f p t seen Pull at w 1 (omega arith) refl pulled
  where
    pulled : (q : Place) (u : State) → Goes s Pull (f, p) t q u → IsBytes u → GoesOn s Q w q u seen
    pulled q u g b =
        let same : g.1.0 ∷ g.1.1 ≡ v ∷ rest = sym g.1.2 ∙ is in
        let first : g.1.0 ≡ v = cc in
        let others : g.1.1 ≡ rest = cc in
        let e : u ≡ pulling v rest t = g.1.3 ∙ (ap (λ n. pulling n g.1.1 t) first ∙ ap (λ r. pulling v r t) others) in
        rw (g.0, e) (k (subst IsBytes e b))

pub routines_go : (Q : Moment) → RoutinesGo Q
routines_go Q s w f p t seen r at k =
    line s Q f p t seen (Run r) at w (row_cost (row_of r t)) (omega arith) refl (λ q u g b. rw g.0 (k u g.1 b))

-- ---- calls

pub calls_enter : (Q : Moment) → CallsEnter Q
calls_enter Q s w f p g t seen reads gives at own k =
    line s Q f p t seen (Enter g reads gives) at w 8 (omega arith) (sym (ap (λ o. call_weight o t) own)) entered
  where
    entered : (q : Place) (u : State) → Goes s (Enter g reads gives) (f, p) t q u → IsBytes u → GoesOn s Q w q u seen
    entered q u h b =
        let e : Enters s g reads gives (f, p) t q u = subst (λ o. Calls s o g reads gives (f, p) t q u) own h in
        let here2 : Enters s g reads gives (f, p) t (place_at s g 0) u = subst (λ z. Enters s g reads gives (f, p) t z u) e.to e in
        rw e.to (k u here2 b)

pub library_calls_go : (Q : Moment) → LibraryCallsGo Q
library_calls_go Q s w f p g t seen reads gives library at own k =
    line s Q f p t seen (Enter g reads gives) at w (8 + row_cost (row_of (routines.Library library) t)) (omega arith) (sym (ap (λ o. call_weight o t) own)) served
  where
    served : (q : Place) (u : State) → Goes s (Enter g reads gives) (f, p) t q u → IsBytes u → GoesOn s Q w q u seen
    served q u h b =
        let e : Calls s (Some library) g reads gives (f, p) t q u = subst (λ o. Calls s o g reads gives (f, p) t q u) own h in
        rw e.0 (k u e.1 b)

pub pointer_calls_enter : (Q : Moment) → PointerCallsEnter Q
pointer_calls_enter Q s w f p g t seen reads gives at own alone k =
    line s Q f p t seen (Through reads gives) at w 8 (omega arith) weight entered
  where
    own_of : (h : ℕ) → IsCallee s t h → s.library h ≡ None
    own_of h c = ap s.library (alone h c) ∙ own

    weight : Weighs s (Through reads gives) t 8
    weight = (at.within.0, at.within.1, sym (ap (λ o. call_weight o t) (own_of at.within.0 at.within.1)))

    entered : (q : Place) (u : State) → Goes s (Through reads gives) (f, p) t q u → IsBytes u → GoesOn s Q w q u seen
    entered q u h b =
        let e : Enters s h.0 (union_of reads ptr4_bytes) gives (f, p) t q u = subst (λ o. Calls s o h.0 (union_of reads ptr4_bytes) gives (f, p) t q u) (own_of h.0 h.1) h.2 in
        let e2 : Enters s g (union_of reads ptr4_bytes) gives (f, p) t q u = subst (λ z. Enters s z (union_of reads ptr4_bytes) gives (f, p) t q u) (alone h.0 h.1) e in
        let here2 : Enters s g (union_of reads ptr4_bytes) gives (f, p) t (place_at s g 0) u = subst (λ z. Enters s g (union_of reads ptr4_bytes) gives (f, p) t z u) e2.to e2 in
        rw e2.to (k u here2 b)

pub returns_go : (Q : Moment) → ReturnsGo Q
returns_go Q s w f p t seen frame frames at is k = line s Q f p t seen Return at w 1 (omega arith) refl back
  where
    back : (q : Place) (u : State) → Goes s Return (f, p) t q u → IsBytes u → GoesOn s Q w q u seen
    back q u h b =
        let r : Returns s (frame ∷ frames) (f, p) t q u = subst (λ z. Returns s z (f, p) t q u) is h in
        let behind : IsBack s f frame frames t u = record { keeps = r.2; pushed = r.3; behind = r.4 } in
        rw r.1 (k u behind b)

pub main_ends : (Q : Moment) → MainEnds Q
main_ends Q s w f p t seen at none k = line s Q f p t seen Return at w 1 (omega arith) refl ended
  where
    ended : (q : Place) (u : State) → Goes s Return (f, p) t q u → IsBytes u → GoesOn s Q w q u seen
    ended q u h b =
        let r : Returns s [] (f, p) t q u = subst (λ z. Returns s z (f, p) t q u) none h in
        rw (r.4, r.5) (k r.0 r.1 r.2)
