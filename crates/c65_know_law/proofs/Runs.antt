-- What is known is so at each moment of a run.
use Rattle.std.proofs.Common.{◌≡◌, ℕ, suc, zero, Option, Some, None, List, [], ◌∷◌, refl, sym, subst, ap, ◌∙◌}
use Rattle.std.specs.Prelude.{slice_get}
use Rattle.c65_mach.specs.declared.rows.Op.{Op}
use Rattle.c65_mach.specs.declared.rows.Mode.{Mode}
use Rattle.c65_mach.specs.declared.rows.Mode.TheVariants.{Accumulator}
use Rattle.c65_mach.specs.Step.{signed, stored, changed, Kind, Reads, Stores, Changes, Registers, Branches, Moves, kind_of}
use Rattle.c65_base.specs.declared.library.Library.{Library}
use Rattle.c65_code.specs.declared.parts.RegSet.{RegSet}
use Rattle.c65_code.specs.declared.routine.Routine.TheVariants as routines
use Rattle.c65_code.specs.declared.line.Line.{Line}
use Rattle.c65_code.specs.Comes.{first_place}
use Rattle.c65_code.specs.Effects.{ptr4_bytes}
use Rattle.c65_code.specs.Forms.{Form, Mark, Plain, Branch, Jump, Far, Push, Pull, Depth, Return, Run, Enter, Through, Stray, IsLocal, form_of}
use Rattle.c65_code.specs.LineState.{Place, Frame, State, IsBytes}
use Rattle.c65_code.specs.Moves.{Ref, Given, ZeroAt, MemAt, ref_of, value_at, put, change, effect, settle, next, MeetsRow, Does, Returns, Calls, Goes, Moves as IsMove}
use Rattle.c65_code.specs.Parts.{union_of}
use Rattle.c65_code.specs.Placement.{Placement, Setting, word_of}
use Rattle.c65_code.specs.Rows.{Row, row_of}
use Rattle.c65_code.specs.Runs.{IsRun, moment}
use Rattle.c65_know_law.specs.Laws.{AreFit, IsCall, Knows, IsHandedOn, IsKnownAt, NotesAreTrue}
use Rattle.c65_know_law.proofs.HandedOn.{handed_on}

-- ---- frames

put_frames : (ref : Ref) (v : ℕ) (t : State) → (put ref v t).frames ≡ t.frames
put_frames (Given w) v t = refl
put_frames (ZeroAt i) v t = refl
put_frames (MemAt b) v t = refl

change_frames : (op : Op) (mode : Mode) (w : ℕ) (t : State) → (change op mode w t).frames ≡ t.frames
change_frames op Accumulator w t = refl
change_frames op mode w t = put_frames (ref_of mode w t) (changed op (value_at (ref_of mode w t) t) t.regs).0 (record t { regs = record (signed (changed op (value_at (ref_of mode w t) t) t.regs).0 t.regs) { c = (changed op (value_at (ref_of mode w t) t) t.regs).1 } })

effect_frames : (k : Kind) (op : Op) (mode : Mode) (w : ℕ) (t : State) → (effect k op mode w t).frames ≡ t.frames
effect_frames Reads op mode w t = refl
effect_frames Stores op mode w t = put_frames (ref_of mode w t) (stored op t.regs) t
effect_frames Changes op mode w t = change_frames op mode w t
effect_frames Registers op mode w t = refl
effect_frames Branches op mode w t = refl
effect_frames Moves op mode w t = refl

row_frames : (o : Option Row) (t u : State) → MeetsRow o t u → u.frames ≡ t.frames
row_frames None t u m = absurd m
row_frames (Some row) t u m = m.frames

pub does_frames : (place : Placement) (form : Form) (t u : State) → IsLocal form → Does place form t u → u.frames ≡ t.frames
does_frames place (Plain op mode operand) t u i d = ap (λ (s : State). s.frames) d ∙ effect_frames (kind_of op) op mode (word_of place operand) t
does_frames place (Branch op l) t u i d = ap (λ (s : State). s.frames) d
does_frames place (Jump l) t u i d = ap (λ (s : State). s.frames) d
does_frames place Push t u i d = ap (λ (s : State). s.frames) d
does_frames place Pull t u i d = ap (λ (s : State). s.frames) d.3
does_frames place Depth t u i d = ap (λ (s : State). s.frames) d
does_frames place (Run r) t u i d = row_frames (row_of r t) t u d
does_frames place _ t u i d = absurd i

-- ---- moments

-- behind each active call nothing is said that might not be so
abbrev AreFree : Setting → List Frame → Type 0
AreFree s [] = Unit {0}
AreFree s (frame ∷ frames) = ((t : State) → IsKnownAt s (frame.back, t)) × AreFree s frames

record IsRight (s : Setting) (p : Place) (t : State) : Type 0 where
  known : IsKnownAt s (p, t)
  frames : AreFree s t.frames
  bytes : IsBytes t

never : (v : ℕ) → Some v ≡ None → ⊥
never v e = cc

module _ (s : Setting) (fit : (f : ℕ) → AreFit (s.lines f)) where
  handed : (f : ℕ) → IsHandedOn s.place (s.lines f) (Knows (s.lines f))
  handed f = handed_on s.place (s.lines f) (fit f)

  returned : (frames : List Frame) (p q : Place) (t u : State) → AreFree s frames → frames ≡ t.frames → IsBytes u → Returns s frames p t q u → IsRight s q u
  returned [] p q t u free e bytes r =
      record { known = λ running. absurd (never r.0 (ap (λ (x : State). x.ended) (sym r.5) ∙ running)); frames = subst (AreFree s) (e ∙ ap (λ (x : State). x.frames) (sym r.5)) free; bytes = bytes }
  returned (frame ∷ frames) p q t u free e bytes r =
      record { known = subst (λ (x : Place). IsKnownAt s (x, u)) (sym r.1) (free.0 u); frames = subst (AreFree s) (sym r.4) free.1; bytes = bytes }

  called : (o : Option Library) (f : ℕ) (reads gives : RegSet) (p q : Place) (t u : State) → ((x : State) → IsKnownAt s ((p.0, settle (s.lines p.0) (suc p.1)), x)) → AreFree s t.frames → IsBytes u
      → Calls s o f reads gives p t q u → IsRight s q u
  called None f reads gives p q t u behind free bytes c = record {
    known = subst (λ (x : Place). IsKnownAt s (x, u)) (sym c.to) ((handed f).entry u);
    frames = subst (AreFree s) (sym c.frames) (behind, free);
    bytes = bytes;
  }
  called (Some library) f reads gives p q t u behind free bytes c = record {
    known = subst (λ (x : Place). IsKnownAt s (x, u)) (sym c.0) (behind u);
    frames = subst (AreFree s) (sym (row_frames (row_of (routines.Library library) t) t u c.1)) free;
    bytes = bytes;
  }

  moved : (form : Form) (l : Line) (p q : Place) (t u : State) → slice_get (s.lines p.0) p.1 ≡ Some l → form_of l ≡ form → t.ended ≡ None → IsLocal form → IsRight s p t → IsBytes u
      → (q ≡ (p.0, next (s.lines p.0) form p.1 t.regs)) × Does s.place form t u → IsRight s q u
  moved form l p q t u at e running i right bytes g =
      let local : IsLocal (form_of l) = subst IsLocal (sym e) i in
      let does : Does s.place (form_of l) t u = subst (λ (f : Form). Does s.place f t u) (sym e) g.1 in
      let to : q ≡ (p.0, next (s.lines p.0) (form_of l) p.1 t.regs) = g.0 ∙ ap (λ (f : Form). (p.0, next (s.lines p.0) f p.1 t.regs)) (sym e) in
      record {
        known = subst (λ (x : Place). IsKnownAt s (x, u)) (sym to) ((handed p.0).line p.1 l t u at local right.bytes running does right.known);
        frames = subst (AreFree s) (sym (does_frames s.place form t u i g.1)) right.frames;
        bytes = bytes;
      }

  goes_right : (form : Form) (l : Line) (p q : Place) (t u : State) → slice_get (s.lines p.0) p.1 ≡ Some l → form_of l ≡ form → t.ended ≡ None → IsRight s p t → IsBytes u → Goes s form p t q u → IsRight s q u
  goes_right Mark l p q t u at e running right bytes g = absurd g
  goes_right (Far i) l p q t u at e running right bytes g = absurd g
  goes_right Stray l p q t u at e running right bytes g = absurd g
  goes_right Return l p q t u at e running right bytes g = returned t.frames p q t u right.frames refl bytes g
  goes_right (Enter f reads gives) l p q t u at e running right bytes g =
      called (s.library f) f reads gives p q t u (λ x. (handed p.0).behind_call p.1 l x at (subst IsCall (sym e) tt)) right.frames bytes g
  goes_right (Through reads gives) l p q t u at e running right bytes g =
      called (s.library g.0) g.0 (union_of reads ptr4_bytes) gives p q t u (λ x. (handed p.0).behind_call p.1 l x at (subst IsCall (sym e) tt)) right.frames bytes g.2
  goes_right (Plain op mode operand) l p q t u at e running right bytes g = moved (Plain op mode operand) l p q t u at e running tt right bytes g
  goes_right (Branch op k) l p q t u at e running right bytes g = moved (Branch op k) l p q t u at e running tt right bytes g
  goes_right (Jump k) l p q t u at e running right bytes g = moved (Jump k) l p q t u at e running tt right bytes g
  goes_right Push l p q t u at e running right bytes g = moved Push l p q t u at e running tt right bytes g
  goes_right Pull l p q t u at e running right bytes g = moved Pull l p q t u at e running tt right bytes g
  goes_right Depth l p q t u at e running right bytes g = moved Depth l p q t u at e running tt right bytes g
  goes_right (Run r) l p q t u at e running right bytes g = moved (Run r) l p q t u at e running tt right bytes g

  moves_right : (l : Line) (p q : Place) (t u : State) → slice_get (s.lines p.0) p.1 ≡ Some l → IsRight s p t → IsMove s l p t q u → IsRight s q u
  moves_right l p q t u at right m = goes_right (form_of l) l p q t u at refl m.running right m.bytes m.goes

  along : (k : ℕ) (run : List (Place × State)) (p : Place) (t : State) → IsRight s p t → IsRun s p t run → IsKnownAt s (moment k p t run)
  along zero run p t right r = right.known
  along (suc k) [] p t right r = right.known
  along (suc k) (m ∷ run) p t right r = along k run m.0 m.1 (moves_right r.0.0 p m.0 t m.1 r.0.1 right r.0.2) r.1

pub notes_are_true : NotesAreTrue
notes_are_true s main t run k fit bytes none r =
    along s fit k run (first_place s main) t (record { known = (handed_on s.place (s.lines main) (fit main)).entry t; frames = subst (AreFree s) (sym none) tt; bytes = bytes }) r
