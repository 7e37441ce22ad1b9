-- Where a state comes to in a pass over lines: what the note there says of it is so.
use Rattle.std.proofs.Common.{◌≡◌, ℕ, zero, suc, ◌==◌, ◌≤◌, Bool, true, false, if◌then◌else◌, Option, Some, None, List, [], ◌∷◌, ◌++◌, unwrap_or, refl, sym, subst, ap, ◌∙◌, arith, eqb-true, eq-eqb}
use Rattle.std.specs.Prelude.{slice_get, nat_eq, ◌||◌}
use Rattle.c65_mach.specs.declared.rows.Op.{Op}
use Rattle.c65_mach.specs.declared.rows.Mode.{Mode}
use Rattle.c65_code.specs.declared.line.Operand.TheVariants.{To}
use Rattle.c65_code.specs.declared.line.Line.{Line}
use Rattle.c65_code.specs.declared.line.Line.TheVariants.{Label, Do, Call}
use Rattle.c65_code.specs.LineState.{State}
use Rattle.c65_code.specs.Moves.{labelled, settle}
use Rattle.c65_code.specs.Segments.{target_of, targets_of, is_among}
use Rattle.c65_know.specs.declared.note.Note.{Note}
use Rattle.c65_know.specs.Notes.{nothing_known}
use Rattle.c65_know.specs.Known.{Way, after_line, leap, ways_of, met, note_at, known_from}
use Rattle.c65_know_law.specs.Truth.{IsNoted, IsTrueOf}
use Rattle.c65_know_law.proofs.Truths.{nothing_noted, Comes, ComesTo, come_as_noted, met_first, met_among, comes_more, comes_last}

-- at a label, on the way to it or from a line that goes there
at_label : (b : Bool) (way : Option Note) (t : State) → Comes way t → IsNoted (if b then nothing_known else unwrap_or way nothing_known) t
at_label true way t h = nothing_noted t
at_label false way t h = come_as_noted way t h

-- from the beginning of lines a state comes to the first one that is no label
pub arrives : (lines : List Line) (way : Option Note) (ways : List Way) (t : State) → Comes way t → IsTrueOf (slice_get (known_from way ways lines) (settle lines 0)) t
arrives [] way ways t h = tt
arrives (Label l ∷ later) way ways t h = arrives later _ _ t (at_label (is_among (targets_of later) l) (met l way ways) t (met_first l ways way t h))
arrives (Do op mode operand ∷ later) way ways t h = come_as_noted way t h
arrives (Call callee ∷ later) way ways t h = come_as_noted way t h

-- from a line that went to a label a state comes to the first line behind it that is no label
pub leaps : (lines : List Line) (way : Option Note) (ways : List Way) (l : ℕ) (t : State) → ComesTo l ways t → IsTrueOf (slice_get (known_from way ways lines) (settle lines (labelled lines l))) t
leaps [] way ways l t h = tt
leaps (Label k ∷ later) way ways l t h = pick (k == l) refl (leaps later (Some (note_at way ways (Label k) later)) (ways ++ []) l t (comes_more l ways [] t h))
  where
    note : Note
    note = note_at way ways (Label k) later

    pick : (b : Bool) → (k == l) ≡ b → IsTrueOf (slice_get (known_from (Some note) (ways ++ []) later) (settle later (labelled later l))) t
        → IsTrueOf (slice_get (note ∷ known_from (Some note) (ways ++ []) later) (settle (Label k ∷ later) (if b then 0 else suc (labelled later l)))) t
    pick true e behind = arrives later (Some note) (ways ++ []) t (at_label (is_among (targets_of later) k) (met k way ways) t (met_among k ways way t (subst (λ n. ComesTo n ways t) (sym (eqb-true k l e)) h)))
    pick false e behind = behind
leaps (Do op mode operand ∷ later) way ways l t h = leaps later _ _ l t (comes_more l ways _ t h)
leaps (Call callee ∷ later) way ways l t h = leaps later _ _ l t (comes_more l ways _ t h)

-- a line at a place, and its note
abbrev pub IsAt : List Line → List Note → ℕ → Line → Note → Type 0
IsAt lines notes p line note = (slice_get lines p ≡ Some line) × (slice_get notes p ≡ Some note)

same_line : (k l : Line) → Some k ≡ Some l → k ≡ l
same_line k l e = cc

same_note : (k l : Note) → Some k ≡ Some l → k ≡ l
same_note k l e = cc

no_line : (l : Line) → None ≡ Some l → ⊥
no_line l e = cc

-- behind the first line
behind_first : (first : Line) (later : List Line) (note : Note) (notes : List Note) (p : ℕ) (t : State) → IsTrueOf (slice_get notes (settle later p)) t → IsTrueOf (slice_get (note ∷ notes) (settle (first ∷ later) (suc p))) t
behind_first (Label k) later note notes p t h = h
behind_first (Do op mode operand) later note notes p t h = h
behind_first (Call callee) later note notes p t h = h

settle_next : (first : Line) (later : List Line) (p : ℕ) → settle (first ∷ later) (suc p) ≡ suc (settle later p)
settle_next (Label k) later p = refl
settle_next (Do op mode operand) later p = refl
settle_next (Call callee) later p = refl

-- a line leads to the next one
pub goes_on : (lines : List Line) (p : ℕ) (way : Option Note) (ways : List Way) (line : Line) (note : Note) (t : State) → IsAt lines (known_from way ways lines) p line note
    → Comes (after_line line note) t → IsTrueOf (slice_get (known_from way ways lines) (settle lines (suc p))) t
goes_on [] p way ways line note t at h = absurd (no_line line at.0)
goes_on (first ∷ later) zero way ways line note t at h =
    let come : Comes (after_line first (note_at way ways first later)) t = rw (same_note (note_at way ways first later) note at.1, same_line first line at.0) h in
    behind_first first later (note_at way ways first later) _ 0 t (arrives later _ _ t come)
goes_on (first ∷ later) (suc p) way ways line note t at h = behind_first first later (note_at way ways first later) _ (suc p) t (goes_on later p _ _ line note t at h)

-- ---- a line that refers to a label

among_more : (l : ℕ) (front labels : List ℕ) → is_among labels l ≡ true → is_among (front ++ labels) l ≡ true
among_more l [] labels h = h
among_more l (k ∷ front) labels h = rw (among_more l front labels h) (or_true (nat_eq l k))
  where
    or_true : (b : Bool) → (b || true) ≡ true
    or_true true = refl
    or_true false = refl

among_first : (l : ℕ) (target labels : List ℕ) → target ≡ l ∷ [] → is_among (target ++ labels) l ≡ true
among_first l target labels e = subst (λ ls. is_among (ls ++ labels) l ≡ true) (sym e) (rw (eq-eqb l l refl) refl)

among_targets : (lines : List Line) (p l : ℕ) (line : Line) → slice_get lines p ≡ Some line → target_of line ≡ l ∷ [] → is_among (targets_of lines) l ≡ true
among_targets [] p l line e h = absurd (no_line line e)
among_targets (first ∷ later) zero l line e h = among_first l (target_of first) (targets_of later) (ap target_of (same_line first line e) ∙ h)
among_targets (first ∷ later) (suc p) l line e h = among_more l (target_of first) (targets_of later) (among_targets later p l line e h)

-- at a label to which lines behind refer, nothing is said
at_back : (b : Bool) (way : Option Note) (t : State) → b ≡ true → IsNoted (if b then nothing_known else unwrap_or way nothing_known) t
at_back true way t e = nothing_noted t
at_back false way t e = absurd (cc)

back_arrives : (k : ℕ) (later : List Line) (way : Option Note) (ways : List Way) (t : State) → is_among (targets_of later) k ≡ true
    → IsTrueOf (slice_get (known_from way ways (Label k ∷ later)) (settle (Label k ∷ later) 0)) t
back_arrives k later way ways t e = arrives later _ _ t (at_back (is_among (targets_of later) k) (met k way ways) t e)

not_labelled : (first : Line) (l : ℕ) → target_of first ≡ l ∷ [] → (later : List Line) → labelled (first ∷ later) l ≡ suc (labelled later l)
not_labelled (Label k) l e later = absurd (cc)
not_labelled (Do op mode operand) l e later = refl
not_labelled (Call callee) l e later = refl

-- a line that goes to its label
pub goes_to : (lines : List Line) (p : ℕ) (way : Option Note) (ways : List Way) (op : Op) (mode : Mode) (l : ℕ) (note : Note) (t : State) → IsAt lines (known_from way ways lines) p (Do op mode (To l)) note
    → IsNoted (leap op note) t → IsTrueOf (slice_get (known_from way ways lines) (settle lines (labelled lines l))) t
goes_to [] p way ways op mode l note t at h = absurd (no_line (Do op mode (To l)) at.0)
goes_to (first ∷ later) zero way ways op mode l note t at h =
    let line : first ≡ Do op mode (To l) = same_line first (Do op mode (To l)) at.0 in
    let last : ComesTo l (ways ++ ways_of (Do op mode (To l)) note) t = comes_last l ways (leap op note) t h in
    let come : ComesTo l (ways ++ ways_of first (note_at way ways first later)) t = rw (same_note (note_at way ways first later) note at.1, line) last in
    rw (not_labelled first l (ap target_of line) later) (behind_first first later (note_at way ways first later) _ (labelled later l) t (leaps later _ _ l t come))
goes_to (Label k ∷ later) (suc p) way ways op mode l note t at h = pick (k == l) refl (goes_to later p _ _ op mode l note t at h)
  where
    said : Note
    said = note_at way ways (Label k) later

    pick : (b : Bool) → (k == l) ≡ b → IsTrueOf (slice_get (known_from (Some said) (ways ++ []) later) (settle later (labelled later l))) t
        → IsTrueOf (slice_get (said ∷ known_from (Some said) (ways ++ []) later) (settle (Label k ∷ later) (if b then 0 else suc (labelled later l)))) t
    pick true e behind = back_arrives k later way ways t (subst (λ n. is_among (targets_of later) n ≡ true) (sym (eqb-true k l e)) (among_targets later p l (Do op mode (To l)) at.0 refl))
    pick false e behind = behind
goes_to (Do other by operand ∷ later) (suc p) way ways op mode l note t at h = goes_to later p _ _ op mode l note t at h
goes_to (Call callee ∷ later) (suc p) way ways op mode l note t at h = goes_to later p _ _ op mode l note t at h

-- a line that goes back to its label, or to itself
pub goes_back : (lines : List Line) (p : ℕ) (way : Option Note) (ways : List Way) (line : Line) (l : ℕ) (t : State) → slice_get lines p ≡ Some line → target_of line ≡ l ∷ []
    → settle lines (labelled lines l) ≤ p → IsTrueOf (slice_get (known_from way ways lines) (settle lines (labelled lines l))) t
goes_back [] p way ways line l t at h le = absurd (no_line line at)
goes_back (first ∷ later) zero way ways line l t at h le =
    let target : target_of first ≡ l ∷ [] = ap target_of (same_line first line at) ∙ h in
    let far : settle (first ∷ later) (labelled (first ∷ later) l) ≡ suc (settle later (labelled later l)) = ap (settle (first ∷ later)) (not_labelled first l target later) ∙ settle_next first later (labelled later l) in
    absurd (omega arith)
goes_back (Label k ∷ later) (suc p) way ways line l t at h le = pick (k == l) refl le (λ less. goes_back later p _ _ line l t at h less)
  where
    said : Note
    said = note_at way ways (Label k) later

    pick : (b : Bool) → (k == l) ≡ b → settle (Label k ∷ later) (if b then 0 else suc (labelled later l)) ≤ suc p
        → (settle later (labelled later l) ≤ p → IsTrueOf (slice_get (known_from (Some said) (ways ++ []) later) (settle later (labelled later l))) t)
        → IsTrueOf (slice_get (said ∷ known_from (Some said) (ways ++ []) later) (settle (Label k ∷ later) (if b then 0 else suc (labelled later l)))) t
    pick true e less behind = back_arrives k later way ways t (subst (λ n. is_among (targets_of later) n ≡ true) (sym (eqb-true k l e)) (among_targets later p l line at h))
    pick false e less behind = behind (omega arith)
goes_back (Do op mode operand ∷ later) (suc p) way ways line l t at h le = goes_back later p _ _ line l t at h (omega arith)
goes_back (Call callee ∷ later) (suc p) way ways line l t at h le = goes_back later p _ _ line l t at h (omega arith)
