-- Runs of lines are followed, by induction on how they come to what they come to.
use Rattle.std.proofs.Common.{◌≡◌, ℕ, zero, suc, ◌+◌, ◌<◌, ◌≤◌, inl, inr, Bool, IsTrue, List, [], ◌∷◌, All, Option, Some, None, slice_get, refl, ap, sym, ◌∙◌, subst, arith}
use Rattle.std.proofs.lemmas.List.Elements.{All-cons, All-head, All-tail}
use Rattle.c65_mach.specs.declared.rows.Op.{Op}
use Rattle.c65_mach.specs.declared.rows.Mode.{Mode}
use Rattle.c65_mach.specs.declared.rows.Mode.TheVariants.{Absolute, Relative}
use Rattle.c65_mach.specs.Step.{kind_of}
use Rattle.c65_mach.specs.Run.{Setting, Moment}
use Rattle.c65_code.specs.declared.routine.Routine.{Routine}
use Rattle.c65_code.specs.declared.routine.Routine.TheVariants as routines
use Rattle.c65_code.specs.declared.line.Operand.{Operand}
use Rattle.c65_code.specs.declared.line.Line.{Line}
use Rattle.c65_code.specs.declared.line.Line.TheVariants.{Label, Do, Call}
use Rattle.c65_code.specs.Parts.{no_parts}
use Rattle.c65_code.specs.LineState.{Place, State, Frame}
use Rattle.c65_code.specs.Placement.{stack_start, word_of}
use Rattle.c65_code.specs.Forms.{Form, Mark, Plain, Branch, Jump, Far, Push, Pull, Depth, Return, Run, Enter, Through, Stray, form_of}
use Rattle.c65_code.specs.Rows.{Row, Meets}
use Rattle.c65_code.specs.Moves.{effect}
use Rattle.c65_code.specs.RawMachine.{RawSetting, Bounds, IsRawWithin, RawGoes, RawRuns, RawReturns, RawMoves, RawComes, here, on, HasDone, raw_weight, hook_row, called, line_after, entry_of, target_of}
use Rattle.c65_link.specs.Bytes.{Spot}
use Rattle.c65_link_law.specs.Coded.{Memory, IsInstruction as IsInstructionAt, IsCoded, short, long}
use Rattle.c65_link_law_follow.specs.Agree.{Ground, Agrees, Goes, none, more, IsFirstOr}
use Rattle.c65_link_law_follow.specs.Laid.{IsLaid, IsGround, hook_address}
use Rattle.c65_link_law_follow.specs.Laws.{IsCounted}
use Rattle.c65_link_law_runs.specs.Follows.{IsOnTheWay, Follows, goes_on, has_ended, IsSetFor, IsRunning, HasArgumentRoom}
use Rattle.c65_link_law_runs.specs.Laws.{Leads, LeadsToFunction, AreUnits, IsAmong, HasCome, IsInUnits, in_line, in_hook, RunsAreFollowed}
use Rattle.c65_link_law_runs.proofs.Kept.{Stays, effect_stays}
use Rattle.c65_link_law_runs.proofs.Moves.{weaker, moves_are_followed}

-- Rows one behind another

pub goes_both : (P : Moment → Type 0) (setting : Setting) (j k n : ℕ) (a b c : Moment) → j + k ≡ n → Goes P setting j a b → Goes P setting k b c → Goes P setting n a c
goes_both P setting j k n a b c e none more_rows = subst (λ (i : ℕ). Goes P setting i a c) (let z : k ≡ n = omega (arith, e) in z) more_rows
goes_both P setting j k zero a b c e (more {k = i} is free at rest) more_rows = absurd (omega (arith, e))
goes_both P setting j k (suc n) a b c e (more {k = i} {n = m} is free at rest) more_rows = more {n = m} is free at (goes_both P setting i k n m b c (omega (arith, e)) rest more_rows)

-- rows that come before
pub first_rows : (P : Moment → Type 0) (g : Ground) (setting : Setting) (j least w most : ℕ) (now m : Moment) (Q : Place → State → Type 0) → least ≤ j → j + w ≤ most → Goes P setting j now m → Follows P g setting 0 w m Q → Follows P g setting least most now Q
first_rows P g setting j least w most now m Q few le first (goes_on rows then_at q u some within goes holds running agrees) =
    goes_on (j + rows) then_at q u (omega (arith, few)) (omega (arith, within, le)) (goes_both P setting j rows (j + rows) now m then_at refl first goes) holds running agrees
first_rows P g setting j least w most now m Q few le first (has_ended rows status last q u some within goes free at turn_is holds ended output) =
    has_ended (j + rows) status last q u (omega (arith, few)) (omega (arith, within, le)) (goes_both P setting j rows (j + rows) now m last refl first goes) free at turn_is holds ended output

-- What each move within the bounds keeps: the lines stand where they lead, and what a line asks for holds; P holds of each moment at
-- a byte of a line that moves on, or at a hook.
pub record IsKept (g : Ground) (s : RawSetting) (bounds : Bounds) (P : Moment → Type 0) (Inv : Place → State → Type 0) : Type 0 where
  pub laid : (q : Place) (u : State) → Inv q u → IsLaid g s q.0
  pub counted : (q : Place) (u : State) (l : Line) → Inv q u → slice_get (s.lines q.0) q.1 ≡ Some l → IsCounted g s (form_of l)
  pub room : (q : Place) (u : State) (l : Line) → Inv q u → slice_get (s.lines q.0) q.1 ≡ Some l → HasArgumentRoom s (form_of l) u
  pub first : (q : Place) (u : State) (l : Line) (m : Moment) → Inv q u → slice_get (s.lines q.0) q.1 ≡ Some l → IsRawWithin s bounds (form_of l) u → m.machine.pc ≡ g.at q → P m
  pub later : (q : Place) (u : State) (l : Line) (m : Moment) → Inv q u → slice_get (s.lines q.0) q.1 ≡ Some l → IsOnTheWay g q m.machine.pc → P m
  pub on : (p q : Place) (t u : State) (l : Line) → Inv p t → slice_get (s.lines p.0) p.1 ≡ Some l → IsRawWithin s bounds (form_of l) t → RawMoves s l p t q u → Inv q u

-- a run that has ended comes to nothing more
at_end : (s : RawSetting) (bounds : Bounds) (Q : Place → State → Type 0) (v status : ℕ) (q : Place) (u : State) → u.ended ≡ Some status → RawComes s bounds Q v q u → Q q u
at_end s bounds Q v status q u ended (here holds) = holds
at_end s bounds Q v status q u ended (on l at running within le next) = absurd (let z : ◌≡◌ {A = Option ℕ} (Some status) None = sym ended ∙ running in cc)

-- what holds at the rows of a move
move_rows : (g : Ground) (p : Place) (t : State) (now m : Moment) (P : Moment → Type 0) → Agrees g (g.at p) t now → ((n : Moment) → n.machine.pc ≡ g.at p → P n) → ((n : Moment) → IsOnTheWay g p n.machine.pc → P n) → IsFirstOr (IsOnTheWay g p) now m → P m
move_rows g p t now m P a first later (inl e) = first m (ap (λ (x : Moment). x.machine.pc) e ∙ a.pc)
move_rows g p t now m P a first later (inr h) = later m h

after_move : (g : Ground) (s : RawSetting) (setting : Setting) (bounds : Bounds) (P : Moment → Type 0) (Q Inv : Place → State → Type 0) (c v w : ℕ) (l : Line) (p : Place) (t : State) (now : Moment) → c + v ≤ w
    → ((m : Moment) → IsFirstOr (IsOnTheWay g p) now m → P m)
    → ((q : Place) (u : State) → RawMoves s l p t q u → Inv q u) → ((q : Place) (u : State) → RawMoves s l p t q u → RawComes s bounds Q v q u)
    → ((m : Moment) (q : Place) (u : State) → RawMoves s l p t q u → IsRunning u → Agrees g (g.at q) u m → Follows P g setting 0 v m (HasCome Q Inv))
    → Follows (IsFirstOr (IsOnTheWay g p) now) g setting 1 c now (Leads s l p t) → Follows P g setting 0 w now (HasCome Q Inv)
after_move g s setting bounds P Q Inv c v w l p t now le before kept next rest (goes_on rows m q u some within goes leads running agrees) =
    first_rows P g setting rows 0 v w now m (HasCome Q Inv) (omega arith) (omega (arith, within, le)) (weaker (IsFirstOr (IsOnTheWay g p) now) P setting rows now m before goes)
    (rest m q u leads.moves (record { running = running; bytes = leads.moves.bytes; input = leads.input }) agrees)
after_move g s setting bounds P Q Inv c v w l p t now le before kept next rest (has_ended rows status last q u some within goes free at turn_is leads ended output) =
    has_ended rows status last q u (omega arith) (omega (arith, within, le)) (weaker (IsFirstOr (IsOnTheWay g p) now) P setting rows now last before goes) free (before last at) turn_is
    (record { holds = at_end s bounds Q v status q u ended (next q u leads.moves); kept = kept q u leads.moves; bytes = leads.moves.bytes; input = leads.input }) ended output

-- where lines come to Q within a weight, at most so many rows come to it, over an invariant that each move keeps
pub follow_raw : (g : Ground) (s : RawSetting) (setting : Setting) (bounds : Bounds) (P : Moment → Type 0) (Q Inv : Place → State → Type 0) (w : ℕ) (p : Place) (t : State) (now : Moment) → IsGround g s → IsSetFor s setting → stack_start ≤ bounds.soft → IsKept g s bounds P Inv
    → RawComes s bounds Q w p t → Inv p t → IsRunning t → Agrees g (g.at p) t now → Follows P g setting 0 w now (HasCome Q Inv)
follow_raw g s setting bounds P Q Inv w p t now ground set soft kept (here holds) inv r a =
    goes_on 0 now p t (omega arith) (omega arith) none (record { holds = holds; kept = inv; bytes = r.bytes; input = r.input }) r.running a
follow_raw g s setting bounds P Q Inv w p t now ground set soft kept (on {v = v} l at running within le next) inv r a =
    after_move g s setting bounds P Q Inv (raw_weight (form_of l)) v w l p t now le
    (λ m h. move_rows g p t now m P a (λ n e. kept.first p t l n inv at within e) (λ n e. kept.later p t l n inv at e) h)
    (λ q u m. kept.on p q t u l inv at within m) next
    (λ m q u moves new agrees. follow_raw g s setting bounds P Q Inv v q u m ground set soft kept (next q u moves) (kept.on p q t u l inv at within moves) new agrees)
    (moves_are_followed g s setting bounds p.0 p.1 l t now ground (kept.laid p t inv) set at (kept.counted p t l inv at) (kept.room p t l inv at) r soft within a)

-- Units

abbrev IsOneOf : (ℕ → Bool) → Frame → Type 0
IsOneOf units frame = IsTrue (units frame.back.0)

same_frames : (units : ℕ → Bool) (p q : Place) (t u : State) → IsAmong units p t → q.0 ≡ p.0 → u.frames ≡ t.frames → IsAmong units q u
same_frames units p q t u a e f = record {
  place = subst (λ (n : ℕ). IsTrue (units n)) (sym e) a.place;
  frames = subst (λ (fs : List Frame). All (IsOneOf units) fs) (sym f) a.frames;
}

calls_unit : (units : ℕ → Bool) (s : RawSetting) (n : ℕ) (p q : Place) (t u : State) → IsAmong units p t → IsTrue (units n) → (q ≡ entry_of s n) × (u ≡ called (line_after s p) t) → IsAmong units q u
calls_unit units s n p q t u a to h = record {
  place = subst (λ (x : Place). IsTrue (units x.0)) (sym h.0) to;
  frames = subst (λ (x : State). All (IsOneOf units) x.frames) (sym h.1) (All-cons (IsOneOf units) (record { back = line_after s p; pushed = t.pushed; gives = no_parts }) t.frames a.place a.frames);
}

returns_unit : (units : ℕ → Bool) (frames : List Frame) (t : State) (q : Place) (u : State) → All (IsOneOf units) frames → RawReturns frames t q u → IsAmong units q u
returns_unit units [] t q u all h = absurd h
returns_unit units (frame ∷ frames) t q u all h = record {
  place = subst (λ (x : Place). IsTrue (units x.0)) (sym h.1) (All-head (IsOneOf units) frame frames all);
  frames = subst (λ (x : State). All (IsOneOf units) x.frames) (sym h.2) (All-tail (IsOneOf units) frame frames all);
}

no_hook_row : (r : Routine) (s : RawSetting) (t : State) → hook_address r ≡ None → hook_row s.args r t ≡ None
no_hook_row routines.HookOpen s t h = absurd cc
no_hook_row routines.HookClose s t h = absurd cc
no_hook_row routines.HookRead s t h = absurd cc
no_hook_row routines.HookWrite s t h = absurd cc
no_hook_row routines.HookArgs s t h = absurd cc
no_hook_row routines.HookExit s t h = absurd cc
no_hook_row _ s t h = refl

a_hook_row : (r : Routine) (s : RawSetting) (t : State) (n : ℕ) → hook_address r ≡ Some n → (row : Row) × (hook_row s.args r t ≡ Some row)
a_hook_row routines.HookOpen s t n h = (_, refl)
a_hook_row routines.HookClose s t n h = (_, refl)
a_hook_row routines.HookRead s t n h = (_, refl)
a_hook_row routines.HookWrite s t n h = (_, refl)
a_hook_row routines.HookArgs s t n h = (_, refl)
a_hook_row routines.HookExit s t n h = (_, refl)
a_hook_row _ s t n h = absurd cc

runs_unit : (g : Ground) (s : RawSetting) (units : ℕ → Bool) (p q : Place) (t u : State) (l : Line) (r : Routine) → AreUnits g s units → IsAmong units p t → slice_get (s.lines p.0) p.1 ≡ Some l → form_of l ≡ Run r → RawRuns s (hook_row s.args r t) r p t q u → IsAmong units q u
runs_unit g s units p q t u l r are a at is h = by (hook_address r) refl
  where
    by : (o : Option ℕ) → hook_address r ≡ o → IsAmong units q u
    by None e = calls_unit units s (s.routine r) p q t u a (are.called p.0 p.1 l r a.place at is e) (subst (λ (x : Option Row). RawRuns s x r p t q u) (no_hook_row r s t e) h)
    by (Some n) e =
        let row = a_hook_row r s t n e in
        let done : (q ≡ line_after s p) × Meets row.0 t u = subst (λ (x : Option Row). RawRuns s x r p t q u) row.1 h in
        same_frames units p q t u a (ap (λ (x : Place). x.0) done.0) done.1.frames

form_unit : (form : Form) (g : Ground) (s : RawSetting) (units : ℕ → Bool) (p q : Place) (t u : State) (l : Line) → AreUnits g s units → IsAmong units p t → slice_get (s.lines p.0) p.1 ≡ Some l → form_of l ≡ form → RawGoes s form p t q u → IsAmong units q u
form_unit Mark g s units p q t u l are a at is h = absurd h
form_unit Stray g s units p q t u l are a at is h = absurd h
form_unit (Plain op mode operand) g s units p q t u l are a at is h =
    let stays : Stays t (effect (kind_of op) op mode (word_of s.place operand) t) = effect_stays (kind_of op) op mode (word_of s.place operand) t in
    same_frames units p q t u a (ap (λ (x : Place). x.0) h.0) (ap (λ (x : State). x.frames) h.1 ∙ stays.2)
form_unit (Branch op k) g s units p q t u l are a at is h = same_frames units p q t u a (ap (λ (x : Place). x.0) h.0) (ap (λ (x : State). x.frames) h.1)
form_unit (Jump k) g s units p q t u l are a at is h = same_frames units p q t u a (ap (λ (x : Place). x.0) h.0) (ap (λ (x : State). x.frames) h.1)
form_unit (Far i) g s units p q t u l are a at is h = record {
  place = subst (λ (x : Place). IsTrue (units x.0)) (sym h.3) (are.functions p.0 p.1 h.0 l a.place at (subst LeadsToFunction (sym is) tt) h.1);
  frames = subst (λ (x : State). All (IsOneOf units) x.frames) (sym h.4) a.frames;
}
form_unit Push g s units p q t u l are a at is h = same_frames units p q t u a (ap (λ (x : Place). x.0) h.0) (ap (λ (x : State). x.frames) h.1)
form_unit Pull g s units p q t u l are a at is h = same_frames units p q t u a (ap (λ (x : Place). x.0) h.0) (ap (λ (x : State). x.frames) h.1.3)
form_unit Depth g s units p q t u l are a at is h = same_frames units p q t u a (ap (λ (x : Place). x.0) h.0) (ap (λ (x : State). x.frames) h.1)
form_unit Return g s units p q t u l are a at is h = returns_unit units t.frames t q u a.frames h
form_unit (Enter f reads gives) g s units p q t u l are a at is h =
    calls_unit units s (target_of s (s.library f) f) p q t u a (are.functions p.0 p.1 f l a.place at (subst LeadsToFunction (sym is) tt) (subst (λ (x : Form). IsCounted g s x) is (are.counted p.0 p.1 l a.place at))) h
form_unit (Through reads gives) g s units p q t u l are a at is h = calls_unit units s (s.routine routines.CallPtr4) p q t u a (are.through p.0 p.1 l reads gives a.place at is) h
form_unit (Run r) g s units p q t u l are a at is h = runs_unit g s units p q t u l r are a at is h

-- arguments are asked for by no line of units
no_room : (form : Form) (s : RawSetting) (u : State) → (form ≡ Run routines.HookArgs → ⊥) → HasArgumentRoom s form u
no_room (Run routines.HookArgs) s u h = absurd (h refl)
no_room (Run _) s u h = tt
no_room _ s u h = tt

-- a line that moves has a byte

do_wide : (mode : Mode) (m : Memory) (spot : Spot) (at next : ℕ) (op : Op) (operand : Operand) → IsInstructionAt m spot at next op mode operand → at < next
do_wide Relative m spot at next op operand (short byte reach is) = omega (arith, is)
do_wide Relative m spot at next op operand (long bytes is) = omega (arith, is)
do_wide Absolute m spot at next op operand c = (let is = c.1 in omega (arith, is))
do_wide _ m spot at next op operand c = (let is = c.1 in omega (arith, is))

line_wide : (l : Line) (m : Memory) (spot : Spot) (s : RawSetting) (bounds : Bounds) (t : State) (at next : ℕ) → IsRawWithin s bounds (form_of l) t → IsCoded m spot at next l → at < next
line_wide (Label k) m spot s bounds t at next within c = absurd within
line_wide (Do op mode operand) m spot s bounds t at next within c = do_wide mode m spot at next op operand c
line_wide (Call callee) m spot s bounds t at next within c = (let is = c.1 in omega (arith, is))

at_first : (g : Ground) (s : RawSetting) (bounds : Bounds) (units : ℕ → Bool) (q : Place) (u : State) (l : Line) (m : Moment) → AreUnits g s units → IsAmong units q u → slice_get (s.lines q.0) q.1 ≡ Some l → IsRawWithin s bounds (form_of l) u → m.machine.pc ≡ g.at q → IsInUnits g s units m.machine.pc
at_first g s bounds units q u l m are inv at within pc =
    let laid = are.laid q.0 inv.place in
    let wide = line_wide l g.byte laid.spot s bounds u (g.at q) (g.at (q.0, suc q.1)) within (laid.coded q.1 l at) in
    in_line q l inv.place at (omega (arith, pc)) (omega (arith, pc, wide))

at_later : (g : Ground) (s : RawSetting) (units : ℕ → Bool) (q : Place) (u : State) (l : Line) (a : ℕ) → IsAmong units q u → slice_get (s.lines q.0) q.1 ≡ Some l → IsOnTheWay g q a → IsInUnits g s units a
at_later g s units q u l a inv at (inl h) = (let from = h.0 in in_line q l inv.place at (omega (arith, from)) h.1)
at_later g s units q u l a inv at (inr h) = in_hook h

units_kept : (g : Ground) (s : RawSetting) (bounds : Bounds) (units : ℕ → Bool) → AreUnits g s units → IsKept g s bounds (λ m. IsInUnits g s units m.machine.pc) (IsAmong units)
units_kept g s bounds units are = record {
  laid = λ q u inv. are.laid q.0 inv.place;
  counted = λ q u l inv at. are.counted q.0 q.1 l inv.place at;
  room = λ q u l inv at. no_room (form_of l) s u (are.no_arguments q.0 q.1 l inv.place at);
  first = λ q u l m inv at within pc. at_first g s bounds units q u l m are inv at within pc;
  later = λ q u l m inv at h. at_later g s units q u l m.machine.pc inv at h;
  on = λ p q t u l inv at within moves. form_unit (form_of l) g s units p q t u l are inv at refl moves.goes;
}

pub runs_are_followed : RunsAreFollowed
runs_are_followed g s setting bounds units row back first w p t now ground set soft are comes inv r a =
    follow_raw g s setting bounds (λ m. IsInUnits g s units m.machine.pc) (HasDone row.ends row back first) (IsAmong units) w p t now ground set soft (units_kept g s bounds units are) comes inv r a
