-- A branch that reaches leads to its label.
use Rattle.std.proofs.Common.{◌≡◌, ℕ, ◌+◌, ◌-◌, ◌%◌, ◌≤◌, ◌<◌, ◌^◌, ◌||◌, not, Bool, true, false, cond, nat_lt, nat_eq, List, [], ◌∷◌, refl, ap, sym, ◌∙◌, subst, arith, lt-ltb, le-ltb, eqb-true}
use Rattle.std.proofs.lemmas.Bool.{and_parts}
use Rattle.indexmap.specs.IndexMap.{insert_entry}
use Rattle.c65_mach.specs.Step.{branched}
use Rattle.c65_code.specs.declared.line.Line.{Line}
use Rattle.c65_code.specs.declared.line.Line.TheVariants.{Label, Do, Call}
use Rattle.c65_code.specs.Segments.{labels_of, is_among, is_distinct}
use Rattle.c65_link.specs.Bodies.{Labels, Body, with_line, with_lines, offset_of, far_size, far_labels, line_size, plus}
use Rattle.c65_link.specs.Bytes.{distance}
use Rattle.c65_link_law.proofs.Labels.{offset_here, far_kept, near_kept}
use Rattle.c65_link_law.proofs.Sizes.{IsSized, line_sized, plus_most, grown, IsSmall, Next, next}

-- how a label that stands behind a place, or before it, is placed by far and by near offsets

pub record IsAfter (f n end far near : ℕ) : Type 0 where
  pub far_le : far ≤ f
  pub near_le : near ≤ n
  pub apart : n + far ≤ f + near
  pub within : n ≤ end

pub record IsBefore (f n far near : ℕ) : Type 0 where
  pub far_le : f ≤ far
  pub near_le : n ≤ near
  pub apart : near + f ≤ n + far

-- from behind a branch of 2 bytes

forward_distance : (from to : ℕ) → from + 2 ≤ to → to ≤ from + 129 → distance from to ≡ to - (from + 2)
forward_distance from to low high = omega arith

backward_distance : (from to : ℕ) → to < from + 2 → from + 2 ≤ to + 128 → distance from to ≡ to + 256 - (from + 2)
backward_distance from to low high = omega arith

led_on : (next d to : ℕ) → d < 128 → next + d ≡ to → to ≤ 65535 → branched next d ≡ to
led_on next d to small is top =
    let test : nat_lt d 128 ≡ true = lt-ltb d 128 small in
    let sum : (next + d) % 65536 ≡ to = omega arith in
    ap (λ b. (next + cond b d (65280 + d)) % 65536) test ∙ sum

led_back : (next d to : ℕ) → 128 ≤ d → next + d ≡ to + 256 → to ≤ 65535 → branched next d ≡ to
led_back next d to large is top =
    let test : nat_lt d 128 ≡ false = le-ltb d 128 large in
    let sum : (next + (65280 + d)) % 65536 ≡ to = omega arith in
    ap (λ b. (next + cond b d (65280 + d)) % 65536) test ∙ sum

pub leads_forward : (from to : ℕ) → from + 2 ≤ to → to ≤ from + 129 → to ≤ 65535 → branched (from + 2) (distance from to) ≡ to
leads_forward from to low high top =
    let d : distance from to ≡ to - (from + 2) = forward_distance from to low high in
    led_on (from + 2) (distance from to) to (omega (arith, d)) (omega (arith, d)) top

pub leads_backward : (from to : ℕ) → to < from + 2 → from + 2 ≤ to + 128 → to ≤ 65535 → branched (from + 2) (distance from to) ≡ to
leads_backward from to low high top =
    let d : distance from to ≡ to + 256 - (from + 2) = backward_distance from to low high in
    led_back (from + 2) (distance from to) to (omega (arith, d)) (omega (arith, d)) top

-- a label among lines stands behind the place where they begin

stepped : (line : Line) (lines : List Line) (body : Body) (at : ℕ) (f n end : ℕ) → Next body at line lines → IsAfter f n end (plus at (far_size line)) (plus body.size (line_size body.far at line)) → IsAfter f n end at body.size
stepped line lines body at f n end s a =
    let sized : IsSized (line_size body.far at line) (far_size line) = line_sized body.far at line in
    record { far_le = omega (arith, s.far_is, a.far_le); near_le = omega (arith, s.near_is, a.near_le); apart = omega (arith, s.far_is, s.near_is, a.apart, sized.most); within = a.within }

none : {P : Type 0} → false ≡ true → P
none e = absurd cc

pub not_true : (b : Bool) → not b ≡ true → b ≡ false
not_true true h = absurd cc
not_true false h = refl

pub or_second : (a b : Bool) → a ≡ false → (a || b) ≡ true → b ≡ true
or_second true b e h = absurd cc
or_second false b e h = h

label_after : (b : Bool) (k : ℕ) (lines : List Line) (labels : Labels) (body : Body) (at l : ℕ) → body.size ≤ 2 ^ 64 - 1 → nat_eq l k ≡ b → Next body at (Label k) lines → is_among (labels_of lines) k ≡ false → is_among (labels_of (Label k ∷ lines)) l ≡ true → (is_among (labels_of lines) l ≡ true → IsAfter (offset_of (far_labels labels at (Label k ∷ lines)) l) (offset_of (with_lines body at (Label k ∷ lines)).near l) (with_lines body at (Label k ∷ lines)).size (plus at 0) (plus body.size 0)) → IsAfter (offset_of (far_labels labels at (Label k ∷ lines)) l) (offset_of (with_lines body at (Label k ∷ lines)).near l) (with_lines body at (Label k ∷ lines)).size at body.size
label_after true k lines labels body at l h e s out among rest =
    let same : l ≡ k = eqb-true l k e in
    let out_l : is_among (labels_of lines) l ≡ false = subst (λ n. is_among (labels_of lines) n ≡ false) (sym same) out in
    let f_is : offset_of (far_labels labels at (Label k ∷ lines)) l ≡ at = far_kept lines (insert_entry nat_eq labels k at) (plus at 0) l out_l ∙ subst (λ n. offset_of (insert_entry nat_eq labels n at) l ≡ at) same (offset_here labels l at) in
    let n_is : offset_of (with_lines body at (Label k ∷ lines)).near l ≡ body.size = near_kept lines (with_line body at (Label k)) (plus at 0) l out_l ∙ subst (λ n. offset_of (insert_entry nat_eq body.near n body.size) l ≡ body.size) same (offset_here body.near l body.size) in
    let top : body.size ≤ (with_lines body at (Label k ∷ lines)).size = grown (Label k ∷ lines) body at h in
    record { far_le = omega (arith, f_is); near_le = omega (arith, n_is); apart = omega (arith, f_is, n_is); within = omega (arith, n_is, top) }
label_after false k lines labels body at l h e s out among rest =
    stepped (Label k) lines body at _ _ _ s (rest (or_second (nat_eq l k) (is_among (labels_of lines) l) e among))

pub after : (lines : List Line) (labels : Labels) (body : Body) (at l : ℕ) → body.size ≤ 2 ^ 64 - 1 → IsSmall body at lines → is_distinct (labels_of lines) ≡ true → is_among (labels_of lines) l ≡ true → IsAfter (offset_of (far_labels labels at lines) l) (offset_of (with_lines body at lines).near l) (with_lines body at lines).size at body.size
after [] labels body at l h small apart among = none among
after (Label k ∷ lines) labels body at l h small apart among =
    let s : Next body at (Label k) lines = next body at (Label k) lines h small in
    let parts = and_parts (not (is_among (labels_of lines) k)) (is_distinct (labels_of lines)) apart in
    label_after (nat_eq l k) k lines labels body at l h refl s (not_true (is_among (labels_of lines) k) parts.0) among (λ m. after lines (insert_entry nat_eq labels k at) (with_line body at (Label k)) (plus at 0) l (plus_most body.size 0) s.small parts.1 m)
after (Do op mode operand ∷ lines) labels body at l h small apart among =
    let s : Next body at (Do op mode operand) lines = next body at (Do op mode operand) lines h small in
    stepped (Do op mode operand) lines body at _ _ _ s (after lines labels (with_line body at (Do op mode operand)) (plus at (far_size (Do op mode operand))) l (plus_most body.size (line_size body.far at (Do op mode operand))) s.small apart among)
after (Call callee ∷ lines) labels body at l h small apart among =
    let s : Next body at (Call callee) lines = next body at (Call callee) lines h small in
    stepped (Call callee) lines body at _ _ _ s (after lines labels (with_line body at (Call callee)) (plus at 3) l (plus_most body.size 3) s.small apart among)
