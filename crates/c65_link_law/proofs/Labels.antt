-- Labels that are noted stay, and each is noted where it stands.
use Rattle.std.proofs.Common.{◌≡◌, ℕ, Bool, true, false, List, [], ◌∷◌, Some, cond, refl, sym, ◌∙◌, ap, subst, nat_eq, eqb-true, eq-eqb}
use Rattle.std.specs.Map.{lookup}
use Rattle.std.proofs.lemmas.Bool.{or_parts}
use Rattle.indexmap.specs.IndexMap.{insert_entry}
use Rattle.c65_code.specs.declared.line.Line.{Line}
use Rattle.c65_code.specs.declared.line.Line.TheVariants.{Label, Do, Call}
use Rattle.c65_code.specs.Segments.{labels_of, is_among}
use Rattle.c65_link.specs.Bodies.{Labels, Body, with_line, with_lines, or_zero, offset_of, far_size, far_labels, plus}

inserted_by : (a b : Bool) (e : ℕ × ℕ) (es ins : Labels) (k v q : ℕ) → nat_eq k e.0 ≡ a → nat_eq q k ≡ b → lookup (nat_eq q) ins ≡ cond b (Some v) (lookup (nat_eq q) es) → lookup (nat_eq q) (cond a ((e.0, v) ∷ es) (e ∷ ins)) ≡ cond b (Some v) (lookup (nat_eq q) (e ∷ es))
inserted_by true true e es ins k v q same at h =
    let k_is : k ≡ e.0 = eqb-true k e.0 same in
    let q_is : nat_eq q e.0 ≡ true = subst (λ n. nat_eq q n ≡ true) k_is at in
    ap (λ b. cond b (Some v) (lookup (nat_eq q) es)) q_is
inserted_by true false e es ins k v q same at h =
    let k_is : k ≡ e.0 = eqb-true k e.0 same in
    let q_is : nat_eq q e.0 ≡ false = subst (λ n. nat_eq q n ≡ false) k_is at in
    ap (λ b. cond b (Some v) (lookup (nat_eq q) es)) q_is ∙ sym (ap (λ b. cond b (Some e.1) (lookup (nat_eq q) es)) q_is)
inserted_by false true e es ins k v q same at h =
    let apart : nat_eq q e.0 ≡ false = subst (λ n. nat_eq n e.0 ≡ false) (sym (eqb-true q k at)) same in
    ap (λ b. cond b (Some e.1) (lookup (nat_eq q) ins)) apart ∙ h
inserted_by false false e es ins k v q same at h = ap (λ r. cond (nat_eq q e.0) (Some e.1) r) h

pub inserted : (es : Labels) (k v q : ℕ) → lookup (nat_eq q) (insert_entry nat_eq es k v) ≡ cond (nat_eq q k) (Some v) (lookup (nat_eq q) es)
inserted [] k v q = refl
inserted (e ∷ es) k v q = inserted_by (nat_eq k e.0) (nat_eq q k) e es (insert_entry nat_eq es k v) k v q refl refl (inserted es k v q)

pub offset_here : (labels : Labels) (l at : ℕ) → offset_of (insert_entry nat_eq labels l at) l ≡ at
offset_here labels l at = ap or_zero (inserted labels l at l ∙ ap (λ b. cond b (Some at) (lookup (nat_eq l) labels)) (eq-eqb l l refl))

pub offset_elsewhere : (labels : Labels) (k at l : ℕ) → nat_eq l k ≡ false → offset_of (insert_entry nat_eq labels k at) l ≡ offset_of labels l
offset_elsewhere labels k at l apart = ap or_zero (inserted labels k at l ∙ ap (λ b. cond b (Some at) (lookup (nat_eq l) labels)) apart)

-- a label that is not among lines keeps its place over them
pub far_kept : (lines : List Line) (labels : Labels) (at l : ℕ) → is_among (labels_of lines) l ≡ false → offset_of (far_labels labels at lines) l ≡ offset_of labels l
far_kept [] labels at l h = refl
far_kept (Label k ∷ lines) labels at l h =
    let parts = or_parts (nat_eq l k) (is_among (labels_of lines) l) h in
    far_kept lines (insert_entry nat_eq labels k at) (plus at 0) l parts.1 ∙ offset_elsewhere labels k at l parts.0
far_kept (Do op mode operand ∷ lines) labels at l h = far_kept lines labels (plus at (far_size (Do op mode operand))) l h
far_kept (Call callee ∷ lines) labels at l h = far_kept lines labels (plus at 3) l h

pub near_kept : (lines : List Line) (body : Body) (at l : ℕ) → is_among (labels_of lines) l ≡ false → offset_of (with_lines body at lines).near l ≡ offset_of body.near l
near_kept [] body at l h = refl
near_kept (Label k ∷ lines) body at l h =
    let parts = or_parts (nat_eq l k) (is_among (labels_of lines) l) h in
    near_kept lines (with_line body at (Label k)) (plus at 0) l parts.1 ∙ offset_elsewhere body.near k body.size l parts.0
near_kept (Do op mode operand ∷ lines) body at l h = near_kept lines (with_line body at (Do op mode operand)) (plus at (far_size (Do op mode operand))) l h
near_kept (Call callee ∷ lines) body at l h = near_kept lines (with_line body at (Call callee)) (plus at 3) l h

-- the lines note nothing among the far labels of a body
pub far_stays : (lines : List Line) (body : Body) (at : ℕ) → (with_lines body at lines).far ≡ body.far
far_stays [] body at = refl
far_stays (line ∷ lines) body at = far_stays lines (with_line body at line) (plus at (far_size line))
