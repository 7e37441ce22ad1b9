-- What is noted before an instruction holds whenever the machine on lines comes there.
use Rattle.std.proofs.Common.{◌≡◌, ℕ, suc, ◌<◌, ◌==◌, ◌&&◌, Bool, true, false, IsTrue, List, [], ◌∷◌, ◌++◌, if◌then◌else◌, Option, Some, None, length, slice_get, refl, ap, sym, ◌∙◌, subst, arith}
use Rattle.std.proofs.lemmas.Bool.{and_from, eq-eqb}
use Rattle.c65_mach.specs.State.{State as Machine, Regs, read}
use Rattle.c65_code.specs.declared.line.Line.{Line}
use Rattle.c65_code.specs.declared.line.Sym.{Sym}
use Rattle.c65_code.specs.declared.code.Code.{Code}
use Rattle.c65_code.specs.LineState.{Place, State}
use Rattle.c65_code.specs.Placement.{Placement, Setting, setting_of, segment_of}
use Rattle.c65_code.specs.Moves.{Moves}
use Rattle.c65_code.specs.Starts.{IsStart}
use Rattle.c65_code.specs.Comes.{first_place}
use Rattle.c65_code.specs.Runs.{IsRun, moment}
use Rattle.c65_code.specs.Segments.{Segment, IsSegment}
use Rattle.c65_know.specs.declared.note.Note.{Note}
use Rattle.c65_know.specs.Known.{known_of}
use Rattle.c65_know.specs.Notes.{same, is_so, is_set_so, are_bytes_so, are_flags_so, holds, holds_of}
use Rattle.c65_know_law.specs.Truth.{IsAs, IsNoted, IsTrueOf}
use Rattle.c65_know_law.specs.Laws.{AreFit, NotesAreTrue}
use Rattle.c65_link_law_spots.specs.Sound.{IsSound}
use Rattle.c65_link_law_reach.specs.Reach.{IsReached, at_first, by_move}

-- ---- a run of all moves

-- the places and states on the way, the last of them where the machine is
record Travelled (s : Setting) (first : Place) (t : State) (q : Place) (u : State) : Type 0 where
  run : List (Place × State)
  is_run : IsRun s first t run
  last : moment (length run) first t run ≡ (q, u)

-- one move more
onward : (run : List (Place × State)) (s : Setting) (p : Place) (t : State) (v w : Place) (x y : State) (l : Line) → IsRun s p t run → moment (length run) p t run ≡ (v, x) → slice_get (s.lines v.0) v.1 ≡ Some l → Moves s l v x w y → IsRun s p t (run ++ (w, y) ∷ [])
onward [] s p t v w x y l h last at moves =
    let first : p ≡ v = ap (λ (m : Place × State). m.0) last in
    let state : t ≡ x = ap (λ (m : Place × State). m.1) last in
    ((l, subst (λ (z : Place). slice_get (s.lines z.0) z.1 ≡ Some l) (sym first) at, subst (λ (z : State). Moves s l p z w y) (sym state) (subst (λ (z : Place). Moves s l z x w y) (sym first) moves)), tt)
onward (m ∷ run) s p t v w x y l h last at moves = (h.0, onward run s m.0 m.1 v w x y l h.1 last at moves)

at_last : (run : List (Place × State)) (p : Place) (t : State) (w : Place) (y : State) → moment (length (run ++ (w, y) ∷ [])) p t (run ++ (w, y) ∷ []) ≡ (w, y)
at_last [] p t w y = refl
at_last (m ∷ run) p t w y = at_last run m.0 m.1 w y

travelled : (s : Setting) (first : Place) (t : State) (q : Place) (u : State) → IsReached s first t q u → Travelled s first t q u
travelled s first t q u at_first = record { run = []; is_run = tt; last = refl }
travelled s first t q u (by_move {p = p} {v = v} l before at steady moves) =
    let r : Travelled s first t p v = travelled s first t p v before in
    record { run = r.run ++ (q, u) ∷ []; is_run = onward r.run s first t p q v u l r.is_run r.last at moves; last = at_last r.run first t q u }

-- ---- a note that is true of the lines' state holds of the machine

so : (o : Option ℕ) (v w : ℕ) → IsAs o v → w ≡ v → is_so o w ≡ true
so None v w h e = refl
so (Some n) v w h e = eq-eqb n w (h ∙ sym e)

same_flag : (d b : Bool) → d ≡ b → same d b ≡ true
same_flag true true e = refl
same_flag false false e = refl
same_flag true false e = absurd cc
same_flag false true e = absurd cc

set_so : (o : Option Bool) (b c : Bool) → IsAs o b → c ≡ b → is_set_so o c ≡ true
set_so None b c h e = refl
set_so (Some d) b c h e = same_flag d c (h ∙ sym e)

note_holds : (note : Note) (u : State) (m : Machine) → IsNoted note u → m.regs ≡ u.regs → ((i : ℕ) → i < 256 → read m.mem i ≡ u.zp i) → holds note m ≡ true
note_holds note u m n regs zp =
    let bytes : are_bytes_so note m ≡ true =
    all_eight (is_so note.a m.regs.a) (is_so note.x m.regs.x) (is_so note.y m.regs.y) (is_so note.s0 (read m.mem 2)) (is_so note.s1 (read m.mem 3)) (is_so note.p0 (read m.mem 8)) (is_so note.p1 (read m.mem 9)) (is_so note.t1 (read m.mem 16))
    (so note.a u.regs.a m.regs.a n.a (ap (λ (r : Regs). r.a) regs)) (so note.x u.regs.x m.regs.x n.x (ap (λ (r : Regs). r.x) regs)) (so note.y u.regs.y m.regs.y n.y (ap (λ (r : Regs). r.y) regs))
    (so note.s0 (u.zp 2) (read m.mem 2) n.s0 (zp 2 (omega arith))) (so note.s1 (u.zp 3) (read m.mem 3) n.s1 (zp 3 (omega arith))) (so note.p0 (u.zp 8) (read m.mem 8) n.p0 (zp 8 (omega arith))) (so note.p1 (u.zp 9) (read m.mem 9) n.p1 (zp 9 (omega arith)))
    (so note.t1 (u.zp 16) (read m.mem 16) n.t1 (zp 16 (omega arith))) in
    let flags : are_flags_so note m ≡ true =
    all_four (is_set_so note.n m.regs.n) (is_set_so note.v m.regs.v) (is_set_so note.z m.regs.z) (is_set_so note.c m.regs.c)
    (set_so note.n u.regs.n m.regs.n n.n (ap (λ (r : Regs). r.n) regs)) (set_so note.v u.regs.v m.regs.v n.v (ap (λ (r : Regs). r.v) regs)) (set_so note.z u.regs.z m.regs.z n.z (ap (λ (r : Regs). r.z) regs))
    (set_so note.c u.regs.c m.regs.c n.c (ap (λ (r : Regs). r.c) regs)) in
    and_from (are_bytes_so note m) (are_flags_so note m) bytes flags
  where
    all_eight : (a b c d e f g h : Bool) → a ≡ true → b ≡ true → c ≡ true → d ≡ true → e ≡ true → f ≡ true → g ≡ true → h ≡ true → (a && b && c && d && e && f && g && h) ≡ true
    all_eight true true true true true true true true i j k l m n o p = refl
    all_eight _ _ _ _ _ _ _ _ i j k l m n o p = cc

    all_four : (a b c d : Bool) → a ≡ true → b ≡ true → c ≡ true → d ≡ true → (a && b && c && d) ≡ true
    all_four true true true true i j k l = refl
    all_four _ _ _ _ i j k l = cc

some_holds : (o : Option Note) (u : State) (m : Machine) → IsTrueOf o u → m.regs ≡ u.regs → ((i : ℕ) → i < 256 → read m.mem i ≡ u.zp i) → holds_of o m ≡ true
some_holds None u m h regs zp = refl
some_holds (Some note) u m h regs zp = note_holds note u m h regs zp

-- ---- the lines of a code may stand in segments

fit_lines : (fs : List (Sym × Segment)) (f : ℕ) → ((k : ℕ) (g : Sym × Segment) → slice_get fs k ≡ Some g → IsSegment g.1.lines) → AreFit (segment_of fs f).lines
fit_lines [] f h = refl
fit_lines (g ∷ fs) f h = by (g.0.0 == f) (fit_lines fs f (λ k. h (suc k)))
  where
    by : (b : Bool) → AreFit (segment_of fs f).lines → AreFit (if b then g.1 else segment_of fs f).lines
    by true rest = (h 0 g refl).fit
    by false rest = rest

-- what is known before a line at which steady moves from the call of main have come holds of each machine that agrees
pub notes_hold : NotesAreTrue → (code : Code) (place : Placement) (main : ℕ) (args : List (List ℕ)) (input : List ℕ) (first u : State) (q : Place) (m : Machine) → IsSound code → IsStart code place args input first → IsReached (setting_of code place) (first_place (setting_of code place) main) first q u → u.ended ≡ None
    → m.regs ≡ u.regs → ((i : ℕ) → i < 256 → read m.mem i ≡ u.zp i) → IsTrue (holds_of (slice_get (known_of (segment_of code.functions q.0).lines) q.1) m)
notes_hold notes code place main args input first u q m sound start reached running regs zp =
    let s : Setting = setting_of code place in
    let from : Place = first_place s main in
    let r : Travelled s from first q u = travelled s from first q u reached in
    let known = notes s main first r.run (length r.run) (λ f. fit_lines code.functions f sound.segment) start.bytes start.frames r.is_run in
    let there : IsTrueOf (slice_get (known_of (s.lines q.0)) q.1) u = known_at s (moment (length r.run) from first r.run) q u r.last known running in
    some_holds (slice_get (known_of (s.lines q.0)) q.1) u m there regs zp
  where
    known_at : (s : Setting) (n : Place × State) (q : Place) (u : State) → n ≡ (q, u) → (n.1.ended ≡ None → IsTrueOf (slice_get (known_of (s.lines n.0.0)) n.0.1) n.1) → u.ended ≡ None → IsTrueOf (slice_get (known_of (s.lines q.0)) q.1) u
    known_at s n q u e h running = subst (λ (x : Place × State). x.1.ended ≡ None → IsTrueOf (slice_get (known_of (s.lines x.0.0)) x.0.1) x.1) e h running
