-- Lines made of pieces: their labels, their targets, their forms and their size.
use Rattle.std.proofs.Common.{◌≡◌, ℕ, ◌+◌, ◌<◌, ◌≤◌, ◌==◌, ◌||◌, ◌&&◌, ◌⊎◌, inl, inr, Bool, true, false, not, List, [], ◌∷◌, ◌++◌, refl, sym, ◌∙◌, ap, subst, arith}
use Rattle.std.specs.Prelude.{if◌then◌else◌, nat_le, nat_lt, nat_eq}
use Rattle.std.specs.List.{list_all}
use Rattle.std.proofs.lemmas.Bool.{and_parts, and_from, and_left, and_right, le-leb, lt-leb, lt-ltb, le-ltb, leb-true, ltb-true, eq-eqb, eqb-true, ne_eqb, cases_lt, cases_order}
use Rattle.std.proofs.lemmas.List.Folds.{list_all-append}
use Rattle.c65_mach.specs.declared.rows.Op.{Op}
use Rattle.c65_mach.specs.declared.rows.Op.TheVariants.{Jmp}
use Rattle.c65_mach.specs.declared.rows.Mode.{Mode}
use Rattle.c65_mach.specs.declared.rows.Mode.TheVariants.{Absolute, Relative}
use Rattle.c65_code.specs.declared.line.Operand.{Operand}
use Rattle.c65_code.specs.declared.line.Operand.TheVariants.{Nothing, Byte, Low, High, Zero, At, To}
use Rattle.c65_code.specs.declared.line.Line.{Line}
use Rattle.c65_code.specs.declared.line.Line.TheVariants.{Label, Do, Call}
use Rattle.c65_code.specs.Segments.{is_to, is_fit, is_among, target_of, targets_of}
use Rattle.c65_code.specs.Processors.{is_nmos_line}
use Rattle.c65_code.specs.Weights.{lines_size}
use Rattle.c65_gen_law_lines.specs.Labels.{times, is_within, among, may_lead}

-- ---- labels and targets

-- neither a label nor with a target
abbrev pub is_plain : Line → Bool
is_plain (Label l) = false
is_plain (Do op mode operand) = not (is_to operand)
is_plain (Call callee) = true

pub times-append : (l : ℕ) (a b : List Line) → times l (a ++ b) ≡ times l a + times l b
times-append l [] b = omega arith
times-append l (Label k ∷ a) b = omega (arith, times-append l a b)
times-append l (Do op mode operand ∷ a) b = times-append l a b
times-append l (Call callee ∷ a) b = times-append l a b

pub size-append : (a b : List Line) → lines_size (a ++ b) ≡ lines_size a + lines_size b
size-append [] b = omega arith
size-append (line ∷ a) b = omega (arith, size-append a b)

append_assoc : (xs ys zs : List ℕ) → (xs ++ ys) ++ zs ≡ xs ++ (ys ++ zs)
append_assoc [] ys zs = refl
append_assoc (x ∷ xs) ys zs = ap (λ l. x ∷ l) (append_assoc xs ys zs)

pub targets-append : (a b : List Line) → targets_of (a ++ b) ≡ targets_of a ++ targets_of b
targets-append [] b = refl
targets-append (line ∷ a) b = ap (λ l. target_of line ++ l) (targets-append a b) ∙ sym (append_assoc (target_of line) (targets_of a) (targets_of b))

pub plain_times : (l : ℕ) (a : List Line) → list_all is_plain a ≡ true → times l a ≡ 0
plain_times l [] h = refl
plain_times l (Label k ∷ a) h = absurd cc
plain_times l (Do op mode operand ∷ a) h = plain_times l a (and_parts (not (is_to operand)) (list_all is_plain a) h).1
plain_times l (Call callee ∷ a) h = plain_times l a h

no_target : (op : Op) (mode : Mode) (operand : Operand) → not (is_to operand) ≡ true → target_of (Do op mode operand) ≡ []
no_target op mode Nothing h = refl
no_target op mode (Byte v) h = refl
no_target op mode (Low s o) h = refl
no_target op mode (High s o) h = refl
no_target op mode (Zero i) h = refl
no_target op mode (At s o) h = refl
no_target op mode (To l) h = absurd cc

pub plain_targets : (a : List Line) → list_all is_plain a ≡ true → targets_of a ≡ []
plain_targets [] h = refl
plain_targets (Label k ∷ a) h = absurd cc
plain_targets (Do op mode operand ∷ a) h =
    let parts = and_parts (not (is_to operand)) (list_all is_plain a) h in
    ap (λ l. l ++ targets_of a) (no_target op mode operand parts.0) ∙ plain_targets a parts.1
plain_targets (Call callee ∷ a) h = plain_targets a h

-- ---- labels of a range

pub within : (lo n l : ℕ) → lo ≤ l → l < lo + n → is_within lo n l ≡ true
within lo n l low high = and_from (nat_le lo l) (nat_lt l (lo + n)) (le-leb lo l low) (lt-ltb l (lo + n) high)

pub among_inside : (lo n l : ℕ) → is_within lo n l ≡ true → among lo n l ≡ 1
among_inside lo n l h = ap (λ b. if b then 1 else 0) h

pub among_low : (lo n l : ℕ) → l < lo → among lo n l ≡ 0
among_low lo n l low = ap (λ b. if b then 1 else 0) (and_left (nat_le lo l) (nat_lt l (lo + n)) (lt-leb lo l low))

pub among_high : (lo n l : ℕ) → lo + n ≤ l → among lo n l ≡ 0
among_high lo n l high = ap (λ b. if b then 1 else 0) (and_right (nat_le lo l) (nat_lt l (lo + n)) (le-ltb l (lo + n) high))

pub among_in : (lo n l : ℕ) → lo ≤ l → l < lo + n → among lo n l ≡ 1
among_in lo n l low high = among_inside lo n l (within lo n l low high)

pub among_split : (lo m n l : ℕ) → among lo (m + n) l ≡ among lo m l + among (lo + m) n l
among_split lo m n l = first (cases_lt l lo) (cases_lt l (lo + m)) (cases_lt l (lo + m + n))
  where
    first : (l < lo) ⊎ (lo ≤ l) → (l < lo + m) ⊎ (lo + m ≤ l) → (l < lo + m + n) ⊎ (lo + m + n ≤ l) → among lo (m + n) l ≡ among lo m l + among (lo + m) n l
    first (inl a) b c = omega (arith, among_low lo (m + n) l a, among_low lo m l a, among_low (lo + m) n l (omega (arith, a)))
    first (inr a) (inl b) c = omega (arith, among_in lo (m + n) l a (omega (arith, b)), among_in lo m l a b, among_low (lo + m) n l b)
    first (inr a) (inr b) (inl c) = omega (arith, among_in lo (m + n) l a (omega (arith, c)), among_high lo m l b, among_in (lo + m) n l b c)
    first (inr a) (inr b) (inr c) = omega (arith, among_high lo (m + n) l (omega (arith, c)), among_high lo m l b, among_high (lo + m) n l c)

pub among_none : (lo l : ℕ) → among lo 0 l ≡ 0
among_none lo l = go (cases_lt l lo)
  where
    go : (l < lo) ⊎ (lo ≤ l) → among lo 0 l ≡ 0
    go (inl a) = among_low lo 0 l a
    go (inr a) = among_high lo 0 l (omega (arith, a))

pub among_one : (lo l : ℕ) → among lo 1 l ≡ (if lo == l then 1 else 0)
among_one lo l = go (cases_order lo l)
  where
    go : (lo ≡ l) ⊎ ((lo < l) ⊎ (l < lo)) → among lo 1 l ≡ (if lo == l then 1 else 0)
    go (inl e) = among_in lo 1 l (omega (arith, e)) (omega (arith, e)) ∙ sym (ap (λ b. if b then 1 else 0) (eq-eqb lo l e))
    go (inr (inl a)) = among_high lo 1 l (omega (arith, a)) ∙ sym (ap (λ b. if b then 1 else 0) (ne_eqb lo l (λ e. omega (arith, a, e))))
    go (inr (inr a)) = among_low lo 1 l a ∙ sym (ap (λ b. if b then 1 else 0) (ne_eqb lo l (λ e. omega (arith, a, e))))

pub within_wider : (lo n to m l : ℕ) → to ≤ lo → lo + n ≤ to + m → is_within lo n l ≡ true → is_within to m l ≡ true
within_wider lo n to m l low high h =
    let parts = and_parts (nat_le lo l) (nat_lt l (lo + n)) h in
    within to m l (omega (arith, leb-true lo l parts.0)) (omega (arith, ltb-true l (lo + n) parts.1))

all_wider : (lo n to m : ℕ) (ls : List ℕ) → to ≤ lo → lo + n ≤ to + m → list_all (is_within lo n) ls ≡ true → list_all (is_within to m) ls ≡ true
all_wider lo n to m [] low high h = refl
all_wider lo n to m (l ∷ ls) low high h =
    let parts = and_parts (is_within lo n l) (list_all (is_within lo n) ls) h in
    and_from (is_within to m l) (list_all (is_within to m) ls) (within_wider lo n to m l low high parts.0) (all_wider lo n to m ls low high parts.1)

-- where branches and jumps lead
pub record Leads (lo n : ℕ) (a : List Line) : Type 0 where
  pub all : list_all (is_within lo n) (targets_of a) ≡ true

pub leads_wider : (lo n to m : ℕ) (a : List Line) → to ≤ lo → lo + n ≤ to + m → Leads lo n a → Leads to m a
leads_wider lo n to m a low high h = record { all = all_wider lo n to m (targets_of a) low high h.all }

pub leads_append : (lo n : ℕ) (a b : List Line) → Leads lo n a → Leads lo n b → Leads lo n (a ++ b)
leads_append lo n a b ha hb = record {
  all =
      ap (list_all (is_within lo n)) (targets-append a b)
      ∙ (list_all-append (is_within lo n) (targets_of a) (targets_of b)
      ∙ and_from (list_all (is_within lo n) (targets_of a)) (list_all (is_within lo n) (targets_of b)) ha.all hb.all);
}

pub leads_plain : (lo n : ℕ) (a : List Line) → list_all is_plain a ≡ true → Leads lo n a
leads_plain lo n a h = record { all = ap (list_all (is_within lo n)) (plain_targets a h) }

pub leads_to : (lo n l : ℕ) (op : Op) (mode : Mode) (a : List Line) → lo ≤ l → l < lo + n → Leads lo n a → Leads lo n (Do op mode (To l) ∷ a)
leads_to lo n l op mode a low high h = record { all = and_from (is_within lo n l) (list_all (is_within lo n) (targets_of a)) (within lo n l low high) h.all }

-- ---- pieces

-- a line that may stand in a segment, and has a row of the 6502
abbrev pub is_early : Line → Bool
is_early line = is_fit line && is_nmos_line line

pub all_fit : (lines : List Line) → list_all is_early lines ≡ true → list_all is_fit lines ≡ true
all_fit [] h = refl
all_fit (line ∷ lines) h =
    let parts = and_parts (is_early line) (list_all is_early lines) h in
    and_from (is_fit line) (list_all is_fit lines) (and_parts (is_fit line) (is_nmos_line line) parts.0).0 (all_fit lines parts.1)

pub all_nmos : (lines : List Line) → list_all is_early lines ≡ true → list_all is_nmos_line lines ≡ true
all_nmos [] h = refl
all_nmos (line ∷ lines) h =
    let parts = and_parts (is_early line) (list_all is_early lines) h in
    and_from (is_nmos_line line) (list_all is_nmos_line lines) (and_parts (is_fit line) (is_nmos_line line) parts.0).1 (all_nmos lines parts.1)

-- at most so many bytes, with no label and no target
pub record Piece (k : ℕ) (lines : List Line) : Type 0 where
  pub plain : list_all is_plain lines ≡ true
  pub fit : list_all is_early lines ≡ true
  pub size : lines_size lines ≤ k

pub all_append : (p : Line → Bool) (a b : List Line) → list_all p a ≡ true → list_all p b ≡ true → list_all p (a ++ b) ≡ true
all_append p a b ha hb = list_all-append p a b ∙ and_from (list_all p a) (list_all p b) ha hb

pub piece_append : (j k : ℕ) (a b : List Line) → Piece j a → Piece k b → Piece (j + k) (a ++ b)
piece_append j k a b pa pb = record {
  plain = all_append is_plain a b pa.plain pb.plain;
  fit = all_append is_early a b pa.fit pb.fit;
  size = omega (arith, size-append a b, pa.size, pb.size);
}

pub piece_wider : (j k : ℕ) (a : List Line) → Piece j a → j ≤ k → Piece k a
piece_wider j k a p le = record { plain = p.plain; fit = p.fit; size = omega (arith, p.size, le) }

pub piece_if : (k : ℕ) (b : Bool) (x y : List Line) → Piece k x → Piece k y → Piece k (if b then x else y)
piece_if k true x y px py = px
piece_if k false x y px py = py

pub piece_none : (k : ℕ) → Piece k []
piece_none k = record { plain = refl; fit = refl; size = omega arith }

-- ---- lines made of lines

-- a test of one of several labels passes each of them
pub or_left : (a b : Bool) → a ≡ true → (a || b) ≡ true
or_left true b h = refl
or_left false b h = absurd cc

pub or_right : (a b : Bool) → b ≡ true → (a || b) ≡ true
or_right true b h = refl
or_right false b h = h

or_parts : (a b : Bool) → (a || b) ≡ true → (a ≡ true) ⊎ (b ≡ true)
or_parts true b h = inl refl
or_parts false b h = inr h

pub all_passes : (p q : ℕ → Bool) (ls : List ℕ) → ((l : ℕ) → p l ≡ true → q l ≡ true) → list_all p ls ≡ true → list_all q ls ≡ true
all_passes p q [] wider h = refl
all_passes p q (l ∷ ls) wider h =
    let parts = and_parts (p l) (list_all p ls) h in
    and_from (q l) (list_all q ls) (wider l parts.0) (all_passes p q ls wider parts.1)

pub among_passes : (ok : ℕ → Bool) (ls : List ℕ) (l : ℕ) → list_all ok ls ≡ true → is_among ls l ≡ true → ok l ≡ true
among_passes ok [] l h there = absurd cc
among_passes ok (k ∷ ls) l h there =
    let parts = and_parts (ok k) (list_all ok ls) h in
    go parts.0 (among_passes ok ls l parts.1) (or_parts (nat_eq l k) (is_among ls l) there)
  where
    go : ok k ≡ true → (is_among ls l ≡ true → ok l ≡ true) → (nat_eq l k ≡ true) ⊎ (is_among ls l ≡ true) → ok l ≡ true
    go here rest (inl e) = ap ok (eqb-true l k e) ∙ here
    go here rest (inr e) = rest e

-- Lines as a part of others: how often they have each label, a test that their targets pass, and their greatest size.
pub record Stretch (ok : ℕ → Bool) (own : ℕ → ℕ) (k : ℕ) (lines : List Line) : Type 0 where
  pub once : (l : ℕ) → times l lines ≡ own l
  pub leads : list_all ok (targets_of lines) ≡ true
  pub fit : list_all is_early lines ≡ true
  pub size : lines_size lines ≤ k

-- the labels from lo on, so many; the lines lead to these and to those outside
pub record Made (outside : List ℕ) (lo n k : ℕ) (lines : List Line) : Type 0 where
  pub once : (l : ℕ) → times l lines ≡ among lo n l
  pub leads : list_all (may_lead lo n outside) (targets_of lines) ≡ true
  pub fit : list_all is_early lines ≡ true
  pub size : lines_size lines ≤ k

abbrev pub nowhere : ℕ → ℕ
nowhere l = 0

abbrev pub once_at : ℕ → ℕ → ℕ
once_at l x = if l == x then 1 else 0

pub stretch_then : {ok : ℕ → Bool} {f g : ℕ → ℕ} {j k : ℕ} {a b : List Line} → Stretch ok f j a → Stretch ok g k b → Stretch ok (λ l. f l + g l) (j + k) (a ++ b)
stretch_then {ok = ok} {a = a} {b = b} p q = record {
  once = λ l. omega (arith, times-append l a b, p.once l, q.once l);
  leads = ap (list_all ok) (targets-append a b) ∙ (list_all-append ok (targets_of a) (targets_of b) ∙ and_from (list_all ok (targets_of a)) (list_all ok (targets_of b)) p.leads q.leads);
  fit = all_append is_early a b p.fit q.fit;
  size = omega (arith, size-append a b, p.size, q.size);
}

pub stretch_piece : {ok : ℕ → Bool} {k : ℕ} {a : List Line} → Piece k a → Stretch ok nowhere k a
stretch_piece {ok = ok} {a = a} p = record { once = λ l. plain_times l a p.plain; leads = ap (list_all ok) (plain_targets a p.plain); fit = p.fit; size = p.size }

pub stretch_label : {ok : ℕ → Bool} (l : ℕ) → Stretch ok (once_at l) 0 (Label l ∷ [])
stretch_label l = record { once = λ x. omega arith; leads = refl; fit = refl; size = omega arith }

pub stretch_branch : {ok : ℕ → Bool} (op : Op) (l : ℕ) → is_early (Do op Relative (To 0)) ≡ true → ok l ≡ true → Stretch ok nowhere 5 (Do op Relative (To l) ∷ [])
stretch_branch {ok = ok} op l fits passes = record { once = λ x. refl; leads = and_from (ok l) true passes refl; fit = and_from (is_early (Do op Relative (To 0))) true fits refl; size = omega arith }

pub stretch_jump : {ok : ℕ → Bool} (l : ℕ) → ok l ≡ true → Stretch ok nowhere 3 (Do Jmp Absolute (To l) ∷ [])
stretch_jump {ok = ok} l passes = record { once = λ x. refl; leads = and_from (ok l) true passes refl; fit = refl; size = omega arith }

pub stretch_wider : {ok : ℕ → Bool} {f : ℕ → ℕ} {j k : ℕ} {a : List Line} → Stretch ok f j a → j ≤ k → Stretch ok f k a
stretch_wider p le = record { once = p.once; leads = p.leads; fit = p.fit; size = omega (arith, p.size, le) }

pub stretch_as : {ok : ℕ → Bool} {f g : ℕ → ℕ} {k : ℕ} {a : List Line} → ((l : ℕ) → f l ≡ g l) → Stretch ok f k a → Stretch ok g k a
stretch_as same p = record { once = λ l. p.once l ∙ same l; leads = p.leads; fit = p.fit; size = p.size }

-- a node's lines in those of a larger one
pub stretch_made : {ok : ℕ → Bool} {outside : List ℕ} {lo n k : ℕ} {a : List Line} → Made outside lo n k a → ((l : ℕ) → is_within lo n l ≡ true → ok l ≡ true) → list_all ok outside ≡ true → Stretch ok (among lo n) k a
stretch_made {ok = ok} {outside = outside} {lo = lo} {n = n} {a = a} m inner outer = record {
  once = m.once;
  leads = all_passes (may_lead lo n outside) ok (targets_of a) each m.leads;
  fit = m.fit;
  size = m.size;
}
  where
    each : (l : ℕ) → may_lead lo n outside l ≡ true → ok l ≡ true
    each l h = go (or_parts (is_within lo n l) (is_among outside l) h)
      where
        go : (is_within lo n l ≡ true) ⊎ (is_among outside l ≡ true) → ok l ≡ true
        go (inl e) = inner l e
        go (inr e) = among_passes ok outside l outer e

pub made_stretch : {outside : List ℕ} {lo n k : ℕ} {f : ℕ → ℕ} {a : List Line} → Stretch (may_lead lo n outside) f k a → ((l : ℕ) → f l ≡ among lo n l) → Made outside lo n k a
made_stretch p same = record { once = λ l. p.once l ∙ same l; leads = p.leads; fit = p.fit; size = p.size }

-- ---- where a node may lead

pub leads_inner : (outside : List ℕ) (lo n l : ℕ) → lo ≤ l → l < lo + n → may_lead lo n outside l ≡ true
leads_inner outside lo n l low high = or_left (is_within lo n l) (is_among outside l) (within lo n l low high)

pub leads_within : (outside : List ℕ) (lo n to m : ℕ) → to ≤ lo → lo + n ≤ to + m → (l : ℕ) → is_within lo n l ≡ true → may_lead to m outside l ≡ true
leads_within outside lo n to m low high l h = or_left (is_within to m l) (is_among outside l) (within_wider lo n to m l low high h)

pub leads_outer : (lo n l : ℕ) → may_lead lo n (l ∷ []) l ≡ true
leads_outer lo n l = or_right (is_within lo n l) (is_among (l ∷ []) l) (or_left (nat_eq l l) false (eq-eqb l l refl))

-- labels outside stay so
pub outside_stay : (lo n : ℕ) (outside : List ℕ) → list_all (may_lead lo n outside) outside ≡ true
outside_stay lo n outside = go outside (λ l h. h)
  where
    go : (ls : List ℕ) → ((l : ℕ) → is_among ls l ≡ true → is_among outside l ≡ true) → list_all (may_lead lo n outside) ls ≡ true
    go [] h = refl
    go (l ∷ ls) h =
        let here : is_among outside l ≡ true = h l (or_left (nat_eq l l) (is_among ls l) (eq-eqb l l refl)) in
        and_from (may_lead lo n outside l) (list_all (may_lead lo n outside) ls) (or_right (is_within lo n l) (is_among outside l) here) (go ls (λ k more. h k (or_right (nat_eq k l) (is_among ls k) more)))

-- ---- nodes

made_same : {outside : List ℕ} {lo n k : ℕ} {a : List Line} → Made outside lo n k a → Stretch (may_lead lo n outside) (among lo n) k a
made_same m = record { once = m.once; leads = m.leads; fit = m.fit; size = m.size }

pub made_piece : {outside : List ℕ} {lo k : ℕ} {a : List Line} → Piece k a → Made outside lo 0 k a
made_piece {lo = lo} p = made_stretch (stretch_piece p) (λ l. sym (among_none lo l))

pub made_append : {outside : List ℕ} {lo m n j k : ℕ} {a b : List Line} → Made outside lo m j a → Made outside (lo + m) n k b → Made outside lo (m + n) (j + k) (a ++ b)
made_append {outside = outside} {lo = lo} {m = m} {n = n} p q = made_stretch
    (stretch_then (stretch_made p (leads_within outside lo m lo (m + n) (omega arith) (omega arith)) (outside_stay lo (m + n) outside)) (stretch_made q (leads_within outside (lo + m) n lo (m + n) (omega arith) (omega arith)) (outside_stay lo (m + n) outside)))
    (λ l. sym (among_split lo m n l))

pub made_behind : {outside : List ℕ} {lo n j k : ℕ} {a p : List Line} → Made outside lo n j a → Piece k p → Made outside lo n (j + k) (a ++ p)
made_behind {lo = lo} {n = n} m p = made_stretch (stretch_then (made_same m) (stretch_piece p)) (λ l. omega arith)

pub made_before : {outside : List ℕ} {lo n j k : ℕ} {p a : List Line} → Piece j p → Made outside lo n k a → Made outside lo n (j + k) (p ++ a)
made_before p m = made_stretch (stretch_then (stretch_piece p) (made_same m)) (λ l. omega arith)

pub made_wider : {outside : List ℕ} {lo n j k : ℕ} {a : List Line} → Made outside lo n j a → j ≤ k → Made outside lo n k a
made_wider m le = record { once = m.once; leads = m.leads; fit = m.fit; size = omega (arith, m.size, le) }

pub made_as : {outside : List ℕ} {lo n m k : ℕ} {a : List Line} → n ≡ m → Made outside lo n k a → Made outside lo m k a
made_as {outside = outside} {lo = lo} {k = k} {a = a} e made = subst (λ (x : ℕ). Made outside lo x k a) e made

pub made_none : {outside : List ℕ} {lo k : ℕ} → Made outside lo 0 k []
made_none {k = k} = made_piece (piece_none k)
