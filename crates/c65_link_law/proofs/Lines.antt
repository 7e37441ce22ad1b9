-- Lines stand as machine code, by induction on what is left of them.
use Rattle.std.proofs.Common.{◌≡◌, ℕ, ◌+◌, ◌-◌, ◌%◌, ◌≤◌, ◌<◌, ◌^◌, ◌&&◌, ◌||◌, not, Bool, true, false, nat_lt, nat_eq, List, [], ◌∷◌, ◌++◌, length, refl, ap, sym, ◌∙◌, subst, arith, ltb-true, eqb-true}
use Rattle.std.specs.List.{list_all}
use Rattle.std.proofs.lemmas.Bool.{and_parts}
use Rattle.indexmap.specs.IndexMap.{insert_entry}
use Rattle.c65_mach.specs.declared.rows.Op.{Op}
use Rattle.c65_mach.specs.declared.rows.Mode.{Mode}
use Rattle.c65_mach.specs.declared.rows.Mode.TheVariants.{Implied, Accumulator, Immediate, ZeroPage, ZeroPageX, ZeroPageY, Absolute, AbsoluteX, AbsoluteY, IndirectX, IndirectY, Indirect, Relative, ZeroPageIndirect, AbsoluteIndirectX}
use Rattle.c65_mach.specs.Step.{size_of, branched}
use Rattle.c65_code.specs.declared.line.Operand.{Operand}
use Rattle.c65_code.specs.declared.line.Operand.TheVariants.{Nothing, Byte, Low, High, Zero, At, To}
use Rattle.c65_code.specs.declared.line.Line.{Line}
use Rattle.c65_code.specs.declared.line.Line.TheVariants.{Label, Do, Call}
use Rattle.c65_code.specs.Segments.{labels_of, targets_of, is_among, is_distinct, is_fit, is_to, has_row, is_barred, IsSegment}
use Rattle.c65_link.specs.Bodies.{Labels, Body, with_label, with_line, with_lines, body_of, offset_of, reaches, branch_size, far_size, far_labels, line_size, plus}
use Rattle.c65_link.specs.Bytes.{Spot, distance, branch_bytes, word_of, do_bytes, line_bytes, lines_bytes, instruction}
use Rattle.c65_link_law.specs.Coded.{Memory, Stands, label_at, word_at, IsBranch, short, long, IsInstruction, AreCoded, bytes_at, LinesAreCoded}
use Rattle.c65_link_law.proofs.Labels.{offset_here, offset_elsewhere, far_kept, near_kept, far_stays}
use Rattle.c65_link_law.proofs.Sizes.{IsSized, line_sized, line_length, plus_most, grown, IsSmall, Next, next}
use Rattle.c65_link_law.proofs.Reach.{IsAfter, IsBefore, leads_forward, leads_backward, after, not_true}

pub stands_split : (xs ys : List ℕ) (m : Memory) (at : ℕ) → Stands m at (xs ++ ys) → Stands m at xs × Stands m (at + length xs) ys
stands_split [] ys m at h =
    let e : at ≡ at + 0 = omega arith in
    (tt, subst (λ n. Stands m n ys) e h)
stands_split (x ∷ xs) ys m at h =
    let rest = stands_split xs ys m (at + 1) h.1 in
    let e : at + 1 + length xs ≡ at + length (x ∷ xs) = omega arith in
    ((h.0, rest.0), subst (λ n. Stands m n ys) e rest.1)

-- where a label is, seen from a line
pub data IsSeen (f n end far near : ℕ) (is_short : Bool) : Type 0 where
  behind : IsAfter f n end (far + 5) (near + branch_size is_short) → IsSeen f n end far near is_short
  before : IsBefore f n far near → IsSeen f n end far near is_short

mod_twice : (x : ℕ) → (x % 256) % 256 ≡ x % 256
mod_twice x = omega arith

in_range : (x : ℕ) → x ≤ 65535 → x % 65536 ≡ x
in_range x h = omega arith

-- a branch of 2 bytes leads to its label

short_leads : (base near n f far end : ℕ) → f < plus far 133 → far < plus f 127 → IsSeen f n end far near true → base + n ≤ 65535 → branched (base + near + 2) (distance (base + near) (base + n)) ≡ base + n
short_leads base near n f far end ahead back (behind a) low =
    let near_le : near + 2 ≤ n = a.near_le in
    let apart : n + (far + 5) ≤ f + (near + 2) = a.apart in
    leads_forward (base + near) (base + n) (omega arith) (omega arith) low
short_leads base near n f far end ahead back (before b) low =
    let near_le : n ≤ near = b.near_le in
    let apart : near + f ≤ n + far = b.apart in
    leads_backward (base + near) (base + n) (omega arith) (omega arith) low

reached : (m : Memory) (op : Op) (base near n f far end : ℕ) → reaches far f ≡ true → IsSeen f n end far near true → base + n ≤ 65535 → base + near ≤ 65535 → Stands m (base + near) (branch_bytes true op ((base + near) % 65536) ((base + n) % 65536)) → IsBranch m op (base + near) (base + near + 2) (base + n)
reached m op base near n f far end reach seen low here h =
    let tests = and_parts (nat_lt f (plus far 133)) (nat_lt far (plus f 127)) reach in
    let from_is : (base + near) % 65536 ≡ base + near = in_range (base + near) here in
    let to_is : (base + n) % 65536 ≡ base + n = in_range (base + n) low in
    let d : distance ((base + near) % 65536) ((base + n) % 65536) ≡ distance (base + near) (base + n) = ap (λ x. (x + 65790 - (base + near) % 65536) % 256) to_is ∙ ap (λ x. (base + n + 65790 - x) % 256) from_is in
    let byte_is : m (base + near + 1) ≡ distance (base + near) (base + n) = h.1.0 ∙ mod_twice ((base + n) % 65536 + 65790 - (base + near) % 65536) ∙ d in
    let leads : branched (base + near + 2) (distance (base + near) (base + n)) ≡ base + n = short_leads base near n f far end (ltb-true f (plus far 133) tests.0) (ltb-true far (plus f 127) tests.1) seen low in
    short h.0 (subst (λ x. branched (base + near + 2) x ≡ base + n) (sym byte_is) leads) refl

unreached : (m : Memory) (op : Op) (base near n : ℕ) → base + n ≤ 65535 → Stands m (base + near) (branch_bytes false op ((base + near) % 65536) ((base + n) % 65536)) → IsBranch m op (base + near) (base + near + 5) (base + n)
unreached m op base near n low h =
    long (subst (λ x. Stands m (base + near) (branch_bytes false op ((base + near) % 65536) x)) (in_range (base + n) low) h) refl

branch_coded : (b : Bool) (m : Memory) (op : Op) (base near n f far end : ℕ) → reaches far f ≡ b → IsSeen f n end far near b → base + n ≤ 65535 → base + near ≤ 65535 → Stands m (base + near) (branch_bytes b op ((base + near) % 65536) ((base + n) % 65536)) → IsBranch m op (base + near) (base + near + branch_size b) (base + n)
branch_coded true m op base near n f far end reach seen low here h = reached m op base near n f far end reach seen low here h
branch_coded false m op base near n f far end reach seen low here h = unreached m op base near n low h

-- What is known where lines are left. The labels so far are `labels` and `near`; `all` are those of the whole segment.

abbrev left : Spot → Labels → ℕ → Body
left spot near size = record { far = spot.body.far; near = near; size = size }

record Left (spot : Spot) (all : ℕ → Bool) (labels near : Labels) (size at : ℕ) (lines : List Line) : Type 0 where
  far_is : spot.body.far ≡ far_labels labels at lines
  near_is : spot.body.near ≡ (with_lines (left spot near size) at lines).near
  size_most : size ≤ 2 ^ 64 - 1
  small : IsSmall (left spot near size) at lines
  room : spot.base + (with_lines (left spot near size) at lines).size ≤ 65535
  distinct : is_distinct (labels_of lines) ≡ true
  targets : list_all all (targets_of lines) ≡ true
  fit : list_all is_fit lines ≡ true
  seen : (l : ℕ) → all l ≡ true → is_among (labels_of lines) l ≡ false → IsBefore (offset_of labels l) (offset_of near l) at size

-- a label of the segment lies in it, behind what is left or before

after_left : (spot : Spot) (all : ℕ → Bool) (labels near : Labels) (size at : ℕ) (lines : List Line) (l : ℕ) → Left spot all labels near size at lines → is_among (labels_of lines) l ≡ true → IsAfter (offset_of spot.body.far l) (offset_of spot.body.near l) (with_lines (left spot near size) at lines).size at size
after_left spot all labels near size at lines l k among =
    let a : IsAfter (offset_of (far_labels labels at lines) l) (offset_of (with_lines (left spot near size) at lines).near l) (with_lines (left spot near size) at lines).size at size = after lines labels (left spot near size) at l k.size_most k.small k.distinct among in
    subst (λ n. IsAfter (offset_of spot.body.far l) (offset_of n l) (with_lines (left spot near size) at lines).size at size) (sym k.near_is)
    (subst (λ f. IsAfter (offset_of f l) (offset_of (with_lines (left spot near size) at lines).near l) (with_lines (left spot near size) at lines).size at size) (sym k.far_is) a)

before_left : (spot : Spot) (all : ℕ → Bool) (labels near : Labels) (size at : ℕ) (lines : List Line) (l : ℕ) → Left spot all labels near size at lines → all l ≡ true → is_among (labels_of lines) l ≡ false → IsBefore (offset_of spot.body.far l) (offset_of spot.body.near l) at size
before_left spot all labels near size at lines l k is_label out =
    let f_is : offset_of spot.body.far l ≡ offset_of labels l = ap (λ f. offset_of f l) k.far_is ∙ far_kept lines labels at l out in
    let n_is : offset_of spot.body.near l ≡ offset_of near l = ap (λ n. offset_of n l) k.near_is ∙ near_kept lines (left spot near size) at l out in
    let b : IsBefore (offset_of labels l) (offset_of near l) at size = k.seen l is_label out in
    record { far_le = omega (arith, f_is, b.far_le); near_le = omega (arith, n_is, b.near_le); apart = omega (arith, f_is, n_is, b.apart) }

label_low_by : (among : Bool) (spot : Spot) (all : ℕ → Bool) (labels near : Labels) (size at : ℕ) (lines : List Line) (l : ℕ) → is_among (labels_of lines) l ≡ among → Left spot all labels near size at lines → all l ≡ true → spot.base + offset_of spot.body.near l ≤ 65535
label_low_by true spot all labels near size at lines l e k is_label =
    let a : IsAfter (offset_of spot.body.far l) (offset_of spot.body.near l) (with_lines (left spot near size) at lines).size at size = after_left spot all labels near size at lines l k e in
    omega (arith, a.within, k.room)
label_low_by false spot all labels near size at lines l e k is_label =
    let b : IsBefore (offset_of spot.body.far l) (offset_of spot.body.near l) at size = before_left spot all labels near size at lines l k is_label e in
    let top : size ≤ (with_lines (left spot near size) at lines).size = grown lines (left spot near size) at k.size_most in
    omega (arith, b.near_le, top, k.room)

label_low : (spot : Spot) (all : ℕ → Bool) (labels near : Labels) (size at : ℕ) (lines : List Line) (l : ℕ) → Left spot all labels near size at lines → all l ≡ true → spot.base + offset_of spot.body.near l ≤ 65535
label_low spot all labels near size at lines l k is_label = label_low_by (is_among (labels_of lines) l) spot all labels near size at lines l refl k is_label

-- over the next line

neither : (a b : Bool) → a ≡ false → b ≡ false → (a || b) ≡ false
neither true b h g = absurd cc
neither false b h g = g

left_on : (spot : Spot) (all : ℕ → Bool) (labels near : Labels) (size at : ℕ) (line : Line) (lines : List Line) → Left spot all labels near size at (line ∷ lines) → is_distinct (labels_of lines) ≡ true → list_all all (targets_of lines) ≡ true → ((l : ℕ) → all l ≡ true → is_among (labels_of lines) l ≡ false → IsBefore (offset_of (with_label line at labels) l) (offset_of (with_label line size near) l) (plus at (far_size line)) (plus size (line_size spot.body.far at line))) → Left spot all (with_label line at labels) (with_label line size near) (plus size (line_size spot.body.far at line)) (plus at (far_size line)) lines
left_on spot all labels near size at line lines k distinct targets seen =
    let s : Next (left spot near size) at line lines = next (left spot near size) at line lines k.size_most k.small in
    let fits = and_parts (is_fit line) (list_all is_fit lines) k.fit in
    record {
      far_is = k.far_is;
      near_is = k.near_is;
      size_most = plus_most size (line_size spot.body.far at line);
      small = s.small;
      room = k.room;
      distinct = distinct;
      targets = targets;
      fit = fits.1;
      seen = seen;
    }

seen_on : (spot : Spot) (near : Labels) (size at f n : ℕ) (line : Line) (lines : List Line) → Next (left spot near size) at line lines → IsBefore f n at size → IsBefore f n (plus at (far_size line)) (plus size (line_size spot.body.far at line))
seen_on spot near size at f n line lines s b =
    let sized : IsSized (line_size spot.body.far at line) (far_size line) = line_sized spot.body.far at line in
    record { far_le = omega (arith, s.far_is, b.far_le); near_le = omega (arith, s.near_is, b.near_le); apart = omega (arith, s.far_is, s.near_is, b.apart, sized.most) }

label_seen : (b : Bool) (spot : Spot) (all : ℕ → Bool) (labels near : Labels) (size at k : ℕ) (lines : List Line) (l : ℕ) → nat_eq l k ≡ b → Left spot all labels near size at (Label k ∷ lines) → all l ≡ true → is_among (labels_of lines) l ≡ false → IsBefore (offset_of (insert_entry nat_eq labels k at) l) (offset_of (insert_entry nat_eq near k size) l) (plus at 0) (plus size 0)
label_seen true spot all labels near size at k lines l e h is_label out =
    let s : Next (left spot near size) at (Label k) lines = next (left spot near size) at (Label k) lines h.size_most h.small in
    let same : l ≡ k = eqb-true l k e in
    let f_is : offset_of (insert_entry nat_eq labels k at) l ≡ at = subst (λ n. offset_of (insert_entry nat_eq labels n at) l ≡ at) same (offset_here labels l at) in
    let n_is : offset_of (insert_entry nat_eq near k size) l ≡ size = subst (λ n. offset_of (insert_entry nat_eq near n size) l ≡ size) same (offset_here near l size) in
    record { far_le = omega (arith, s.far_is, f_is); near_le = omega (arith, s.near_is, n_is); apart = omega (arith, s.far_is, s.near_is, f_is, n_is) }
label_seen false spot all labels near size at k lines l e h is_label out =
    let s : Next (left spot near size) at (Label k) lines = next (left spot near size) at (Label k) lines h.size_most h.small in
    let not_there : is_among (labels_of (Label k ∷ lines)) l ≡ false = neither (nat_eq l k) (is_among (labels_of lines) l) e out in
    let f_is : offset_of (insert_entry nat_eq labels k at) l ≡ offset_of labels l = offset_elsewhere labels k at l e in
    let n_is : offset_of (insert_entry nat_eq near k size) l ≡ offset_of near l = offset_elsewhere near k size l e in
    let b : IsBefore (offset_of labels l) (offset_of near l) (plus at 0) (plus size 0) = seen_on spot near size at (offset_of labels l) (offset_of near l) (Label k) lines s (h.seen l is_label not_there) in
    record { far_le = omega (arith, f_is, b.far_le); near_le = omega (arith, n_is, b.near_le); apart = omega (arith, f_is, n_is, b.apart) }

left_label : (spot : Spot) (all : ℕ → Bool) (labels near : Labels) (size at k : ℕ) (lines : List Line) → Left spot all labels near size at (Label k ∷ lines) → Left spot all (insert_entry nat_eq labels k at) (insert_entry nat_eq near k size) (plus size 0) (plus at 0) lines
left_label spot all labels near size at k lines h =
    let parts = and_parts (not (is_among (labels_of lines) k)) (is_distinct (labels_of lines)) h.distinct in
    left_on spot all labels near size at (Label k) lines h parts.1 h.targets (λ l is_label out. label_seen (nat_eq l k) spot all labels near size at k lines l refl h is_label out)

-- the targets behind the first line's
other_targets : (all : ℕ → Bool) (operand : Operand) (op : Op) (mode : Mode) (lines : List Line) → list_all all (targets_of (Do op mode operand ∷ lines)) ≡ true → list_all all (targets_of lines) ≡ true
other_targets all Nothing op mode lines h = h
other_targets all (Byte v) op mode lines h = h
other_targets all (Low s o) op mode lines h = h
other_targets all (High s o) op mode lines h = h
other_targets all (Zero i) op mode lines h = h
other_targets all (At s o) op mode lines h = h
other_targets all (To l) op mode lines h = (and_parts (all l) (list_all all (targets_of lines)) h).1

left_do : (spot : Spot) (all : ℕ → Bool) (labels near : Labels) (size at : ℕ) (op : Op) (mode : Mode) (operand : Operand) (lines : List Line) → Left spot all labels near size at (Do op mode operand ∷ lines) → Left spot all labels near (plus size (line_size spot.body.far at (Do op mode operand))) (plus at (far_size (Do op mode operand))) lines
left_do spot all labels near size at op mode operand lines h =
    let s : Next (left spot near size) at (Do op mode operand) lines = next (left spot near size) at (Do op mode operand) lines h.size_most h.small in
    left_on spot all labels near size at (Do op mode operand) lines h h.distinct (other_targets all operand op mode lines h.targets) (λ l is_label out. seen_on spot near size at (offset_of labels l) (offset_of near l) (Do op mode operand) lines s (h.seen l is_label out))

-- each line is coded

abbrev IsLow : Spot → Operand → Type 0
IsLow spot (To l) = label_at spot l ≤ 65535
IsLow spot _ = Unit {0}

words_same : (spot : Spot) (operand : Operand) → IsLow spot operand → word_of spot operand ≡ word_at spot operand
words_same spot Nothing h = refl
words_same spot (Byte v) h = refl
words_same spot (Low s o) h = refl
words_same spot (High s o) h = refl
words_same spot (Zero i) h = refl
words_same spot (At s o) h = refl
words_same spot (To l) h = in_range (label_at spot l) h

low_operand : (spot : Spot) (all : ℕ → Bool) (labels near : Labels) (size at : ℕ) (op : Op) (mode : Mode) (operand : Operand) (lines : List Line) → Left spot all labels near size at (Do op mode operand ∷ lines) → IsLow spot operand
low_operand spot all labels near size at op mode Nothing lines h = tt
low_operand spot all labels near size at op mode (Byte v) lines h = tt
low_operand spot all labels near size at op mode (Low s o) lines h = tt
low_operand spot all labels near size at op mode (High s o) lines h = tt
low_operand spot all labels near size at op mode (Zero i) lines h = tt
low_operand spot all labels near size at op mode (At s o) lines h = tt
low_operand spot all labels near size at op mode (To l) lines h = label_low spot all labels near size at (Do op mode (To l) ∷ lines) l h (and_parts (all l) (list_all all (targets_of lines)) h.targets).0

plain_coded : (m : Memory) (spot : Spot) (a next : ℕ) (op : Op) (mode : Mode) (operand : Operand) → IsLow spot operand → next ≡ a + size_of mode → Stands m a (instruction op mode (word_of spot operand)) → Stands m a (instruction op mode (word_at spot operand)) × (next ≡ a + size_of mode)
plain_coded m spot a next op mode operand low is h = (subst (λ w. Stands m a (instruction op mode w)) (words_same spot operand low) h, is)

seen_by : (among : Bool) (spot : Spot) (all : ℕ → Bool) (labels near : Labels) (size at l : ℕ) (op : Op) (lines : List Line) → is_among (labels_of lines) l ≡ among → Left spot all labels near size at (Do op Relative (To l) ∷ lines) → all l ≡ true → IsSeen (offset_of spot.body.far l) (offset_of spot.body.near l) (with_lines (left spot near size) at (Do op Relative (To l) ∷ lines)).size at size (reaches at (offset_of spot.body.far l))
seen_by true spot all labels near size at l op lines e h is_label =
    let s : Next (left spot near size) at (Do op Relative (To l)) lines = next (left spot near size) at (Do op Relative (To l)) lines h.size_most h.small in
    let a : IsAfter (offset_of spot.body.far l) (offset_of spot.body.near l) (with_lines (left spot near size) at (Do op Relative (To l) ∷ lines)).size (plus at 5) (plus size (branch_size (reaches at (offset_of spot.body.far l)))) = after_left spot all labels near (plus size (branch_size (reaches at (offset_of spot.body.far l)))) (plus at 5) lines l (left_do spot all labels near size at op Relative (To l) lines h) e in
    behind (record { far_le = omega (arith, s.far_is, a.far_le); near_le = omega (arith, s.near_is, a.near_le); apart = omega (arith, s.far_is, s.near_is, a.apart); within = a.within })
seen_by false spot all labels near size at l op lines e h is_label =
    before (before_left spot all labels near size at (Do op Relative (To l) ∷ lines) l h is_label e)

relative_coded : (m : Memory) (spot : Spot) (all : ℕ → Bool) (labels near : Labels) (size at l : ℕ) (op : Op) (lines : List Line) → Left spot all labels near size at (Do op Relative (To l) ∷ lines) → Stands m (spot.base + size) (do_bytes spot (record { far = at; near = size }) op Relative (To l)) → IsBranch m op (spot.base + size) (spot.base + plus size (branch_size (reaches at (offset_of spot.body.far l)))) (label_at spot l)
relative_coded m spot all labels near size at l op lines h stands =
    let is_label : all l ≡ true = (and_parts (all l) (list_all all (targets_of lines)) h.targets).0 in
    let s : Next (left spot near size) at (Do op Relative (To l)) lines = next (left spot near size) at (Do op Relative (To l)) lines h.size_most h.small in
    let top : size ≤ (with_lines (left spot near size) at (Do op Relative (To l) ∷ lines)).size = grown (Do op Relative (To l) ∷ lines) (left spot near size) at h.size_most in
    let here : spot.base + size ≤ 65535 = omega (arith, top, h.room) in
    let b : IsBranch m op (spot.base + size) (spot.base + size + branch_size (reaches at (offset_of spot.body.far l))) (label_at spot l) = branch_coded (reaches at (offset_of spot.body.far l)) m op spot.base size (offset_of spot.body.near l) (offset_of spot.body.far l) at (with_lines (left spot near size) at (Do op Relative (To l) ∷ lines)).size refl (seen_by (is_among (labels_of lines) l) spot all labels near size at l op lines refl h is_label) (label_low spot all labels near size at (Do op Relative (To l) ∷ lines) l h is_label) here stands in
    let e : spot.base + size + branch_size (reaches at (offset_of spot.body.far l)) ≡ spot.base + plus size (branch_size (reaches at (offset_of spot.body.far l))) = omega (arith, s.near_is) in
    subst (λ x. IsBranch m op (spot.base + size) x (label_at spot l)) e b

-- a branch has a label for its operand
no_branch : {P : Type 0} (op : Op) (operand : Operand) → is_to operand ≡ false → is_fit (Do op Relative operand) ≡ true → P
no_branch op operand not_to h =
    let parts = and_parts (has_row op Relative) (is_to operand && not (is_barred op)) h in
    let label = and_parts (is_to operand) (not (is_barred op)) parts.1 in
    absurd cc

do_coded : (mode : Mode) (operand : Operand) (m : Memory) (spot : Spot) (all : ℕ → Bool) (labels near : Labels) (size at : ℕ) (op : Op) (lines : List Line) → Left spot all labels near size at (Do op mode operand ∷ lines) → Stands m (spot.base + size) (do_bytes spot (record { far = at; near = size }) op mode operand) → IsInstruction m spot (spot.base + size) (spot.base + plus size (line_size spot.body.far at (Do op mode operand))) op mode operand
do_coded Implied operand m spot all labels near size at op lines h stands =
    let s : Next (left spot near size) at (Do op Implied operand) lines = next (left spot near size) at (Do op Implied operand) lines h.size_most h.small in
    plain_coded m spot (spot.base + size) _ op Implied operand (low_operand spot all labels near size at op Implied operand lines h) (omega (arith, s.near_is)) stands
do_coded Accumulator operand m spot all labels near size at op lines h stands =
    let s : Next (left spot near size) at (Do op Accumulator operand) lines = next (left spot near size) at (Do op Accumulator operand) lines h.size_most h.small in
    plain_coded m spot (spot.base + size) _ op Accumulator operand (low_operand spot all labels near size at op Accumulator operand lines h) (omega (arith, s.near_is)) stands
do_coded Immediate operand m spot all labels near size at op lines h stands =
    let s : Next (left spot near size) at (Do op Immediate operand) lines = next (left spot near size) at (Do op Immediate operand) lines h.size_most h.small in
    plain_coded m spot (spot.base + size) _ op Immediate operand (low_operand spot all labels near size at op Immediate operand lines h) (omega (arith, s.near_is)) stands
do_coded ZeroPage operand m spot all labels near size at op lines h stands =
    let s : Next (left spot near size) at (Do op ZeroPage operand) lines = next (left spot near size) at (Do op ZeroPage operand) lines h.size_most h.small in
    plain_coded m spot (spot.base + size) _ op ZeroPage operand (low_operand spot all labels near size at op ZeroPage operand lines h) (omega (arith, s.near_is)) stands
do_coded ZeroPageX operand m spot all labels near size at op lines h stands =
    let s : Next (left spot near size) at (Do op ZeroPageX operand) lines = next (left spot near size) at (Do op ZeroPageX operand) lines h.size_most h.small in
    plain_coded m spot (spot.base + size) _ op ZeroPageX operand (low_operand spot all labels near size at op ZeroPageX operand lines h) (omega (arith, s.near_is)) stands
do_coded ZeroPageY operand m spot all labels near size at op lines h stands =
    let s : Next (left spot near size) at (Do op ZeroPageY operand) lines = next (left spot near size) at (Do op ZeroPageY operand) lines h.size_most h.small in
    plain_coded m spot (spot.base + size) _ op ZeroPageY operand (low_operand spot all labels near size at op ZeroPageY operand lines h) (omega (arith, s.near_is)) stands
do_coded Absolute operand m spot all labels near size at op lines h stands =
    let s : Next (left spot near size) at (Do op Absolute operand) lines = next (left spot near size) at (Do op Absolute operand) lines h.size_most h.small in
    plain_coded m spot (spot.base + size) _ op Absolute operand (low_operand spot all labels near size at op Absolute operand lines h) (omega (arith, s.near_is)) stands
do_coded AbsoluteX operand m spot all labels near size at op lines h stands =
    let s : Next (left spot near size) at (Do op AbsoluteX operand) lines = next (left spot near size) at (Do op AbsoluteX operand) lines h.size_most h.small in
    plain_coded m spot (spot.base + size) _ op AbsoluteX operand (low_operand spot all labels near size at op AbsoluteX operand lines h) (omega (arith, s.near_is)) stands
do_coded AbsoluteY operand m spot all labels near size at op lines h stands =
    let s : Next (left spot near size) at (Do op AbsoluteY operand) lines = next (left spot near size) at (Do op AbsoluteY operand) lines h.size_most h.small in
    plain_coded m spot (spot.base + size) _ op AbsoluteY operand (low_operand spot all labels near size at op AbsoluteY operand lines h) (omega (arith, s.near_is)) stands
do_coded IndirectX operand m spot all labels near size at op lines h stands =
    let s : Next (left spot near size) at (Do op IndirectX operand) lines = next (left spot near size) at (Do op IndirectX operand) lines h.size_most h.small in
    plain_coded m spot (spot.base + size) _ op IndirectX operand (low_operand spot all labels near size at op IndirectX operand lines h) (omega (arith, s.near_is)) stands
do_coded IndirectY operand m spot all labels near size at op lines h stands =
    let s : Next (left spot near size) at (Do op IndirectY operand) lines = next (left spot near size) at (Do op IndirectY operand) lines h.size_most h.small in
    plain_coded m spot (spot.base + size) _ op IndirectY operand (low_operand spot all labels near size at op IndirectY operand lines h) (omega (arith, s.near_is)) stands
do_coded Indirect operand m spot all labels near size at op lines h stands =
    let s : Next (left spot near size) at (Do op Indirect operand) lines = next (left spot near size) at (Do op Indirect operand) lines h.size_most h.small in
    plain_coded m spot (spot.base + size) _ op Indirect operand (low_operand spot all labels near size at op Indirect operand lines h) (omega (arith, s.near_is)) stands
do_coded ZeroPageIndirect operand m spot all labels near size at op lines h stands =
    let s : Next (left spot near size) at (Do op ZeroPageIndirect operand) lines = next (left spot near size) at (Do op ZeroPageIndirect operand) lines h.size_most h.small in
    plain_coded m spot (spot.base + size) _ op ZeroPageIndirect operand (low_operand spot all labels near size at op ZeroPageIndirect operand lines h) (omega (arith, s.near_is)) stands
do_coded AbsoluteIndirectX operand m spot all labels near size at op lines h stands =
    let s : Next (left spot near size) at (Do op AbsoluteIndirectX operand) lines = next (left spot near size) at (Do op AbsoluteIndirectX operand) lines h.size_most h.small in
    plain_coded m spot (spot.base + size) _ op AbsoluteIndirectX operand (low_operand spot all labels near size at op AbsoluteIndirectX operand lines h) (omega (arith, s.near_is)) stands
do_coded Relative (To l) m spot all labels near size at op lines h stands = relative_coded m spot all labels near size at l op lines h stands
do_coded Relative Nothing m spot all labels near size at op lines h stands = no_branch op Nothing refl (and_parts (is_fit (Do op Relative Nothing)) (list_all is_fit lines) h.fit).0
do_coded Relative (Byte v) m spot all labels near size at op lines h stands = no_branch op (Byte v) refl (and_parts (is_fit (Do op Relative (Byte v))) (list_all is_fit lines) h.fit).0
do_coded Relative (Low s o) m spot all labels near size at op lines h stands = no_branch op (Low s o) refl (and_parts (is_fit (Do op Relative (Low s o))) (list_all is_fit lines) h.fit).0
do_coded Relative (High s o) m spot all labels near size at op lines h stands = no_branch op (High s o) refl (and_parts (is_fit (Do op Relative (High s o))) (list_all is_fit lines) h.fit).0
do_coded Relative (Zero i) m spot all labels near size at op lines h stands = no_branch op (Zero i) refl (and_parts (is_fit (Do op Relative (Zero i))) (list_all is_fit lines) h.fit).0
do_coded Relative (At s o) m spot all labels near size at op lines h stands = no_branch op (At s o) refl (and_parts (is_fit (Do op Relative (At s o))) (list_all is_fit lines) h.fit).0

-- the first line's bytes, and the others behind them
first_stands : (m : Memory) (spot : Spot) (size at : ℕ) (near : Labels) (line : Line) (lines : List Line) → Next (left spot near size) at line lines → Stands m (spot.base + size) (lines_bytes spot (record { far = at; near = size }) (line ∷ lines)) → Stands m (spot.base + size) (line_bytes spot (record { far = at; near = size }) line) × Stands m (spot.base + plus size (line_size spot.body.far at line)) (lines_bytes spot (record { far = plus at (far_size line); near = plus size (line_size spot.body.far at line) }) lines)
first_stands m spot size at near line lines s h =
    let rest : List ℕ = lines_bytes spot (record { far = plus at (far_size line); near = plus size (line_size spot.body.far at line) }) lines in
    let parts = stands_split (line_bytes spot (record { far = at; near = size }) line) rest m (spot.base + size) h in
    let len : length (line_bytes spot (record { far = at; near = size }) line) ≡ line_size spot.body.far at line = line_length spot at size line in
    let e : spot.base + size + length (line_bytes spot (record { far = at; near = size }) line) ≡ spot.base + plus size (line_size spot.body.far at line) = omega (arith, len, s.near_is) in
    (parts.0, subst (λ n. Stands m n rest) e parts.1)

label_here : (spot : Spot) (all : ℕ → Bool) (labels near : Labels) (size at k : ℕ) (lines : List Line) → Left spot all labels near size at (Label k ∷ lines) → spot.base + size ≡ label_at spot k
label_here spot all labels near size at k lines h =
    let parts = and_parts (not (is_among (labels_of lines) k)) (is_distinct (labels_of lines)) h.distinct in
    let n_is : offset_of spot.body.near k ≡ size = ap (λ n. offset_of n k) h.near_is ∙ near_kept lines (with_line (left spot near size) at (Label k)) (plus at 0) k (not_true (is_among (labels_of lines) k) parts.0) ∙ offset_here near k size in
    omega (arith, n_is)

coded : (lines : List Line) (m : Memory) (spot : Spot) (all : ℕ → Bool) (labels near : Labels) (size at : ℕ) → Left spot all labels near size at lines → Stands m (spot.base + size) (lines_bytes spot (record { far = at; near = size }) lines) → AreCoded m spot (spot.base + size) lines (spot.base + (with_lines (left spot near size) at lines).size)
coded [] m spot all labels near size at h stands = refl
coded (Label k ∷ lines) m spot all labels near size at h stands =
    let s : Next (left spot near size) at (Label k) lines = next (left spot near size) at (Label k) lines h.size_most h.small in
    let parts = first_stands m spot size at near (Label k) lines s stands in
    let e : spot.base + plus size 0 ≡ spot.base + size = omega (arith, s.near_is) in
    (spot.base + plus size 0, (label_here spot all labels near size at k lines h, e), coded lines m spot all (insert_entry nat_eq labels k at) (insert_entry nat_eq near k size) (plus size 0) (plus at 0) (left_label spot all labels near size at k lines h) parts.1)
coded (Do op mode operand ∷ lines) m spot all labels near size at h stands =
    let s : Next (left spot near size) at (Do op mode operand) lines = next (left spot near size) at (Do op mode operand) lines h.size_most h.small in
    let parts = first_stands m spot size at near (Do op mode operand) lines s stands in
    (spot.base + plus size (line_size spot.body.far at (Do op mode operand)), do_coded mode operand m spot all labels near size at op lines h parts.0, coded lines m spot all labels near (plus size (line_size spot.body.far at (Do op mode operand))) (plus at (far_size (Do op mode operand))) (left_do spot all labels near size at op mode operand lines h) parts.1)
coded (Call callee ∷ lines) m spot all labels near size at h stands =
    let s : Next (left spot near size) at (Call callee) lines = next (left spot near size) at (Call callee) lines h.size_most h.small in
    let parts = first_stands m spot size at near (Call callee) lines s stands in
    let e : spot.base + plus size 3 ≡ spot.base + size + 3 = omega (arith, s.near_is) in
    let k : Left spot all labels near (plus size 3) (plus at 3) lines = left_on spot all labels near size at (Call callee) lines h h.distinct h.targets (λ l is_label out. seen_on spot near size at (offset_of labels l) (offset_of near l) (Call callee) lines s (h.seen l is_label out)) in
    (spot.base + plus size 3, (parts.0, e), coded lines m spot all labels near (plus size 3) (plus at 3) k parts.1)

-- at the beginning no label is behind
out_of_sight : {P : Type 0} (b : Bool) → b ≡ true → b ≡ false → P
out_of_sight b h g = absurd cc

abbrev noted : List Line → Body
noted lines = record { far = far_labels [] 0 lines; near = (body_of lines).near; size = (body_of lines).size }

abbrev spot_with : Body → ℕ → List ℕ → List ℕ → Spot
spot_with body base symbols routines = record { body = body; base = base; symbols = symbols; routines = routines }

begun : (lines : List Line) (base : ℕ) (symbols routines : List ℕ) → IsSegment lines → base + (body_of lines).size ≤ 65535 → Left (spot_with (noted lines) base symbols routines) (is_among (labels_of lines)) [] [] 0 0 lines
begun lines base symbols routines segment low = record {
  far_is = refl;
  near_is = refl;
  size_most = omega arith;
  small = record { size = omega arith; far = omega arith };
  room = low;
  distinct = segment.labels;
  targets = segment.targets;
  fit = segment.fit;
  seen = λ l is_label out. out_of_sight (is_among (labels_of lines) l) is_label out;
}

noted_coded : (lines : List Line) (base : ℕ) (symbols routines : List ℕ) (m : Memory) → IsSegment lines → base + (body_of lines).size ≤ 65535 → Stands m base (bytes_at (spot_with (noted lines) base symbols routines) lines) → AreCoded m (spot_with (noted lines) base symbols routines) base lines (base + (body_of lines).size)
noted_coded lines base symbols routines m segment low stands =
    let e : base ≡ base + 0 = omega arith in
    let there : Stands m (base + 0) (bytes_at (spot_with (noted lines) base symbols routines) lines) = subst (λ a. Stands m a (bytes_at (spot_with (noted lines) base symbols routines) lines)) e stands in
    let k : AreCoded m (spot_with (noted lines) base symbols routines) (base + 0) lines (base + (body_of lines).size) = coded lines m (spot_with (noted lines) base symbols routines) (is_among (labels_of lines)) [] [] 0 0 (begun lines base symbols routines segment low) there in
    subst (λ a. AreCoded m (spot_with (noted lines) base symbols routines) a lines (base + (body_of lines).size)) (sym e) k

pub lines_are_coded : LinesAreCoded
lines_are_coded lines base symbols routines m segment low =
    let same : noted lines ≡ body_of lines = ap (λ (f : Labels). record { far = f; near = (body_of lines).near; size = (body_of lines).size }) (sym (far_stays lines (record { far = far_labels [] 0 lines; near = []; size = 0 }) 0)) in
    subst (λ (b : Body). Stands m base (bytes_at (spot_with b base symbols routines) lines) → AreCoded m (spot_with b base symbols routines) base lines (base + (body_of lines).size)) same (noted_coded lines base symbols routines m segment low)
