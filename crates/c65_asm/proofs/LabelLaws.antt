-- The labels of lines with one line more.
use Rattle.std.proofs.Common.{◌≡◌, ℕ, nat_eq, Bool, true, false, not, IsTrue, List, [], ◌∷◌, ◌++◌, refl, sym, ap, ◌∙◌}
use Rattle.std.specs.Prelude.{if◌then◌else◌}
use Rattle.std.specs.List.{list_all}
use Rattle.std.proofs.lemmas.Bool.{and_parts, and_from, or_parts, or_from, ne_eqb, eqb-false}
use Rattle.std.proofs.lemmas.List.{append-nil}
use Rattle.c65_mach.specs.declared.rows.Op.{Op}
use Rattle.c65_mach.specs.declared.rows.Mode.{Mode}
use Rattle.c65_code.specs.declared.line.Operand.{Operand}
use Rattle.c65_code.specs.declared.line.Callee.{Callee}
use Rattle.c65_code.specs.declared.line.Line.{Line}
use Rattle.c65_code.specs.declared.line.Line.TheVariants.{Label, Do, Call}
use Rattle.c65_code.specs.Segments.{is_among, is_distinct, labels_of}
use Rattle.c65_asm.specs.Symbols.{with_number}
use Rattle.c65_asm.specs.Reading.{is_new}

pub labels_append : (a b : List Line) → labels_of (a ++ b) ≡ labels_of a ++ labels_of b
labels_append [] b = refl
labels_append (Label l ∷ a) b = ap (λ ns. l ∷ ns) (labels_append a b)
labels_append (Do op mode o ∷ a) b = labels_append a b
labels_append (Call c ∷ a) b = labels_append a b

not_there : (t : Bool) → not t ≡ true → t ≡ false
not_there true h = sym h
not_there false h = refl

-- a new label goes last
pub with_label : (ls : List Line) (line : Line) (l : ℕ) (old new : List ℕ) → line ≡ Label l → new ≡ with_number old l → old ≡ labels_of ls → IsTrue (is_new ls line) → new ≡ labels_of (ls ++ line ∷ [])
with_label ls line l old new e n o h =
    let there : is_among (labels_of ls) l ≡ false = not_there _ (ap (is_new ls) (sym e) ∙ h) in
    n ∙ ap (λ ns. with_number ns l) o
    ∙ ap (λ t. if t then labels_of ls else labels_of ls ++ l ∷ []) there
    ∙ sym (labels_append ls (Label l ∷ []))
    ∙ ap (λ x. labels_of (ls ++ x ∷ [])) (sym e)

-- other lines leave them
pub with_do : (ls : List Line) (line : Line) (op : Op) (mode : Mode) (o : Operand) → line ≡ Do op mode o → labels_of ls ≡ labels_of (ls ++ line ∷ [])
with_do ls line op mode o e = sym (ap (λ x. labels_of (ls ++ x ∷ [])) e ∙ labels_append ls (Do op mode o ∷ []) ∙ append-nil (labels_of ls))

pub with_call : (ls : List Line) (line : Line) (c : Callee) → line ≡ Call c → labels_of ls ≡ labels_of (ls ++ line ∷ [])
with_call ls line c e = sym (ap (λ x. labels_of (ls ++ x ∷ [])) e ∙ labels_append ls (Call c ∷ []) ∙ append-nil (labels_of ls))

-- what a segment's lines keep, with one line more

pub all_push : (p : Line → Bool) (ls : List Line) (line : Line) → list_all p ls ≡ true → p line ≡ true → list_all p (ls ++ line ∷ []) ≡ true
all_push p [] line h g = and_from (p line) true g refl
all_push p (l ∷ ls) line h g =
    let q = and_parts (p l) (list_all p ls) h in
    and_from (p l) (list_all p (ls ++ line ∷ [])) q.0 (all_push p ls line q.1 g)

among_push : (ns : List ℕ) (l x : ℕ) → is_among ns x ≡ false → (x ≡ l → ⊥) → is_among (ns ++ l ∷ []) x ≡ false
among_push [] l x h g = or_from (nat_eq x l) false (ne_eqb x l g) refl
among_push (n ∷ ns) l x h g =
    let p = or_parts (nat_eq x n) (is_among ns x) h in
    or_from (nat_eq x n) (is_among (ns ++ l ∷ []) x) p.0 (among_push ns l x p.1 g)

distinct_push : (ns : List ℕ) (l : ℕ) → is_distinct ns ≡ true → is_among ns l ≡ false → is_distinct (ns ++ l ∷ []) ≡ true
distinct_push [] l h g = refl
distinct_push (n ∷ ns) l h g =
    let p = and_parts (not (is_among ns n)) (is_distinct ns) h in
    let q = or_parts (nat_eq l n) (is_among ns l) g in
    and_from (not (is_among (ns ++ l ∷ []) n)) (is_distinct (ns ++ l ∷ []))
    (ap not (among_push ns l n (not_there _ p.0) (λ e. eqb-false l n q.0 (sym e))))
    (distinct_push ns l p.1 q.1)

pub distinct_line : (ls : List Line) (line : Line) → is_distinct (labels_of ls) ≡ true → IsTrue (is_new ls line) → is_distinct (labels_of (ls ++ line ∷ [])) ≡ true
distinct_line ls (Label l) h n = ap is_distinct (labels_append ls (Label l ∷ [])) ∙ distinct_push (labels_of ls) l h (not_there _ n)
distinct_line ls (Do op mode o) h n = ap is_distinct (labels_append ls (Do op mode o ∷ []) ∙ append-nil (labels_of ls)) ∙ h
distinct_line ls (Call c) h n = ap is_distinct (labels_append ls (Call c ∷ []) ∙ append-nil (labels_of ls)) ∙ h
