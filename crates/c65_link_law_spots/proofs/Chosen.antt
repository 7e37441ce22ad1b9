-- The routines that are taken in one pass are all that are used.
use Rattle.std.proofs.Common.{◌≡◌, ◌≢◌, ℕ, zero, suc, ◌<◌, ◌≤◌, ◌&&◌, ◌⊎◌, inl, inr, Bool, true, false, nat_lt, List, [], ◌∷◌, ◌++◌, Some, length, slice_get, if◌then◌else◌, refl, ap, sym, ◌∙◌, subst, arith, ltb-true}
use Rattle.std.specs.List.{list_all}
use Rattle.std.proofs.lemmas.Bool.{and_parts, and_from}
use Rattle.std.proofs.lemmas.List.{get_or-set_other}
use Rattle.c65_code.specs.declared.routine.Routine.{Routine}
use Rattle.c65_code.specs.declared.routine.Routine.TheVariants as routines
use Rattle.c65_code.specs.declared.routine.TheConstants.Routine.{ALL}
use Rattle.c65_code.specs.Numbering.{number_of}
use Rattle.c65_code.proofs.RoutineNumbers.{routines_are_numbered}
use Rattle.c65_code.specs.declared.line.Line.{Line}
use Rattle.c65_code.specs.declared.line.Line.TheVariants.{Label, Do, Call}
use Rattle.c65_code.specs.declared.line.Callee.{Callee}
use Rattle.c65_code.specs.declared.line.Callee.TheVariants as callees
use Rattle.c65_link.specs.Runtime.{Marks, marked, is_marked, with_callee, with_call, with_calls, has_lines, routine_lines, Chosen, with_routine, with_routines, chosen_by}
use Rattle.c65_link.specs.Laws.{is_later, calls_later, CallsGoOn}
use Rattle.c65_link_law_spots.specs.Laws.{CallsRoutine}
use Rattle.c65_link_law_spots.proofs.Sums.{none_there, same_there}
use Rattle.c65_link_law_spots.proofs.Marks.{More, no_more, more_on, calls_more, calls_mark}

-- A routine's calls mark only routines behind it

pub stays_by : (a : Marks) (r q : Routine) → number_of r < number_of q → is_marked (marked a q) r ≡ is_marked a r
stays_by a r q l =
    let other : number_of r ≢ number_of q = λ e. omega (arith, l, e) in
    get_or-set_other a (number_of q) (number_of r) true false other

callee_stays : (a : Marks) (r q : Routine) (callee : Callee) → number_of q ≤ number_of r → is_later r callee ≡ true → is_marked (with_callee a callee) q ≡ is_marked a q
callee_stays a r q (callees.Routine s) le later = stays_by a q s (let l = ltb-true (number_of r) (number_of s) later in omega (arith, l, le))
callee_stays a r q (callees.Pointer reads gives) le later = stays_by a q routines.CallPtr4 (let l = ltb-true (number_of r) (number_of routines.CallPtr4) later in omega (arith, l, le))
callee_stays a r q (callees.Function f reads gives) le later = refl

line_stays : (a : Marks) (r q : Routine) (line : Line) → number_of q ≤ number_of r → calls_later r line ≡ true → is_marked (with_call a line) q ≡ is_marked a q
line_stays a r q (Call callee) le later = callee_stays a r q callee le later
line_stays a r q (Label l) le later = refl
line_stays a r q (Do op mode operand) le later = refl

lines_stay : (lines : List Line) (a : Marks) (r q : Routine) → number_of q ≤ number_of r → list_all (calls_later r) lines ≡ true → is_marked (with_calls a lines) q ≡ is_marked a q
lines_stay [] a r q le later = refl
lines_stay (line ∷ lines) a r q le later =
    let parts = and_parts (calls_later r line) (list_all (calls_later r) lines) later in
    lines_stay lines (with_call a line) r q le parts.1 ∙ line_stays a r q line le parts.0

-- One routine's turn

abbrev pub taken_if : Bool → Chosen → Routine → Chosen
taken_if b chosen r = if b then record { marks = with_calls chosen.marks (routine_lines r); parts = chosen.parts ++ r ∷ [] } else chosen

if_stays : (b : Bool) (chosen : Chosen) (r q : Routine) → number_of q ≤ number_of r → list_all (calls_later r) (routine_lines r) ≡ true → is_marked (taken_if b chosen r).marks q ≡ is_marked chosen.marks q
if_stays true chosen r q le later = lines_stay (routine_lines r) chosen.marks r q le later
if_stays false chosen r q le later = refl

if_more : (b : Bool) (chosen : Chosen) (r : Routine) → length chosen.marks ≡ 123 → More chosen.marks (taken_if b chosen r).marks
if_more true chosen r wide = calls_more (routine_lines r) chosen.marks wide
if_more false chosen r wide = no_more chosen.marks

-- the routine is one of these
pub record IsOf (rs : List Routine) (r : Routine) : Type 0 where
  pub place : ℕ
  pub there : slice_get rs place ≡ Some r

pub of_first : (xs ys : List Routine) (r : Routine) → IsOf xs r → IsOf (xs ++ ys) r
of_first xs ys r h = by xs h.place h.there
  where
    by : (xs : List Routine) (k : ℕ) → slice_get xs k ≡ Some r → IsOf (xs ++ ys) r
    by [] k e = none_there r e
    by (x ∷ xs) zero e = record { place = 0; there = e }
    by (x ∷ xs) (suc k) e = let rest : IsOf (xs ++ ys) r = by xs k e in record { place = suc rest.place; there = rest.there }

pub of_last : (xs : List Routine) (r : Routine) → IsOf (xs ++ r ∷ []) r
of_last [] r = record { place = 0; there = refl }
of_last (x ∷ xs) r = let rest : IsOf (xs ++ r ∷ []) r = of_last xs r in record { place = suc rest.place; there = rest.there }

if_parts : (b : Bool) (chosen : Chosen) (r q : Routine) → IsOf chosen.parts q → IsOf (taken_if b chosen r).parts q
if_parts true chosen r q h = of_first chosen.parts (r ∷ []) q h
if_parts false chosen r q h = h

if_taken : (b : Bool) (chosen : Chosen) (r : Routine) → b ≡ true → IsOf (taken_if b chosen r).parts r
if_taken true chosen r h = of_last chosen.parts r
if_taken false chosen r h = absurd cc

-- All turns

abbrev pub Follows : ℕ → List Routine → Type 0
Follows n [] = Unit {0}
Follows n (r ∷ rs) = (number_of r ≡ n) × (list_all (calls_later r) (routine_lines r) ≡ true) × Follows (suc n) rs

pub marks_on : (rs : List Routine) (chosen : Chosen) → length chosen.marks ≡ 123 → More chosen.marks (with_routines chosen rs).marks
unfolding with_routines
marks_on [] chosen wide = no_more chosen.marks
marks_on (r ∷ rs) chosen wide =
    let first : More chosen.marks (with_routine chosen r).marks = if_more (is_marked chosen.marks r && has_lines r) chosen r wide in
    more_on chosen.marks (with_routine chosen r).marks (with_routines (with_routine chosen r) rs).marks first (marks_on rs (with_routine chosen r) (first.size ∙ wide))

parts_on : (rs : List Routine) (chosen : Chosen) (q : Routine) → IsOf chosen.parts q → IsOf (with_routines chosen rs).parts q
unfolding with_routines
parts_on [] chosen q h = h
parts_on (r ∷ rs) chosen q h = parts_on rs (with_routine chosen r) q (if_parts (is_marked chosen.marks r && has_lines r) chosen r q h)

-- the turns of later routines leave the mark of this one
later_stays : (rs : List Routine) (chosen : Chosen) (n : ℕ) (q : Routine) → Follows n rs → number_of q ≤ n → is_marked (with_routines chosen rs).marks q ≡ is_marked chosen.marks q
unfolding with_routines
later_stays [] chosen n q f le = refl
later_stays (r ∷ rs) chosen n q f le =
    later_stays rs (with_routine chosen r) (suc n) q f.2 (omega (arith, le))
    ∙ if_stays (is_marked chosen.marks r && has_lines r) chosen r q (let e = f.0 in omega (arith, e, le)) f.1

-- a routine that is marked at last was marked at its turn, and was taken
pub taken : (rs : List Routine) (chosen : Chosen) (n k : ℕ) (q : Routine) → Follows n rs → slice_get rs k ≡ Some q → is_marked (with_routines chosen rs).marks q ≡ true → has_lines q ≡ true → IsOf (with_routines chosen rs).parts q
unfolding with_routines
taken [] chosen n k q f here mark lined = none_there q here
taken (r ∷ rs) chosen n zero q f here mark lined =
    let same : r ≡ q = same_there r q here in
    let number : number_of q ≡ n = ap number_of (sym same) ∙ f.0 in
    let le : number_of q ≤ number_of r = (let e = ap number_of same in omega (arith, e)) in
    let late : is_marked (with_routine chosen r).marks q ≡ true = sym (later_stays rs (with_routine chosen r) (suc n) q f.2 (omega (arith, number))) ∙ mark in
    let before : is_marked chosen.marks q ≡ true = sym (if_stays (is_marked chosen.marks r && has_lines r) chosen r q le f.1) ∙ late in
    let now : (is_marked chosen.marks r && has_lines r) ≡ true = subst (λ (x : Routine). (is_marked chosen.marks x && has_lines x) ≡ true) (sym same) (and_from (is_marked chosen.marks q) (has_lines q) before lined) in
    parts_on rs (with_routine chosen r) q (subst (λ (x : Routine). IsOf (with_routine chosen r).parts x) same (if_taken (is_marked chosen.marks r && has_lines r) chosen r now))
taken (r ∷ rs) chosen n (suc k) q f here mark lined = taken rs (with_routine chosen r) (suc n) k q f.2 here mark lined

-- What is taken marks what it calls

-- what is among these has lines and has marked its calls
pub record AreDone (parts : List Routine) (marks : Marks) : Type 0 where
  pub lined : (q : Routine) → IsOf parts q → has_lines q ≡ true
  pub called : (q : Routine) (j : ℕ) (line : Line) (r : Routine) → IsOf parts q → slice_get (routine_lines q) j ≡ Some line → CallsRoutine line r → is_marked marks r ≡ true

of_push : (xs : List Routine) (x r : Routine) → IsOf (xs ++ x ∷ []) r → IsOf xs r ⊎ (x ≡ r)
of_push xs x r h = by xs h.place h.there
  where
    next : (y : Routine) (ys : List Routine) → IsOf ys r ⊎ (x ≡ r) → IsOf (y ∷ ys) r ⊎ (x ≡ r)
    next y ys (inl h) = inl (record { place = suc h.place; there = h.there })
    next y ys (inr e) = inr e

    by : (xs : List Routine) (k : ℕ) → slice_get (xs ++ x ∷ []) k ≡ Some r → IsOf xs r ⊎ (x ≡ r)
    by [] zero e = inr (same_there x r e)
    by [] (suc k) e = none_there r e
    by (y ∷ ys) zero e = inl (record { place = 0; there = e })
    by (y ∷ ys) (suc k) e = next y ys (by ys k e)

if_done : (b : Bool) (chosen : Chosen) (r : Routine) → length chosen.marks ≡ 123 → (b ≡ true → has_lines r ≡ true) → AreDone chosen.parts chosen.marks → AreDone (taken_if b chosen r).parts (taken_if b chosen r).marks
if_done false chosen r wide lined d = d
if_done true chosen r wide lined d =
    record {
      lined = λ q h. lined_by q (of_push chosen.parts r q h);
      called = λ q j line s h here calls. called_by q j line s (of_push chosen.parts r q h) here calls;
    }
  where
    lined_by : (q : Routine) → IsOf chosen.parts q ⊎ (r ≡ q) → has_lines q ≡ true
    lined_by q (inl h) = d.lined q h
    lined_by q (inr e) = subst (λ (x : Routine). has_lines x ≡ true) e (lined refl)

    called_by : (q : Routine) (j : ℕ) (line : Line) (s : Routine) → IsOf chosen.parts q ⊎ (r ≡ q) → slice_get (routine_lines q) j ≡ Some line → CallsRoutine line s → is_marked (with_calls chosen.marks (routine_lines r)) s ≡ true
    called_by q j line s (inl h) here calls = (calls_more (routine_lines r) chosen.marks wide).kept s (d.called q j line s h here calls)
    called_by q j line s (inr e) here calls = calls_mark (routine_lines r) chosen.marks j line s wide (subst (λ (x : Routine). slice_get (routine_lines x) j ≡ Some line) (sym e) here) calls

pub done : (rs : List Routine) (chosen : Chosen) → length chosen.marks ≡ 123 → AreDone chosen.parts chosen.marks → AreDone (with_routines chosen rs).parts (with_routines chosen rs).marks
unfolding with_routines
done [] chosen wide d = d
done (r ∷ rs) chosen wide d =
    let first : More chosen.marks (with_routine chosen r).marks = if_more (is_marked chosen.marks r && has_lines r) chosen r wide in
    done rs (with_routine chosen r) (first.size ∙ wide) (if_done (is_marked chosen.marks r && has_lines r) chosen r wide (λ h. (and_parts (is_marked chosen.marks r) (has_lines r) h).1) d)

none_done : (marks : Marks) → AreDone [] marks
none_done marks = record { lined = λ q h. none_there q h.there; called = λ q j line r h here calls. none_there q h.there }

-- The table of all routines is in order

is_next : ℕ → List Routine → Bool
is_next n [] = true
is_next n (r ∷ rs) = (nat_lt (number_of r) (suc n) && nat_lt n (suc (number_of r))) && is_next (suc n) rs

follows : (rs : List Routine) (n : ℕ) → is_next n rs ≡ true → list_all (λ r. list_all (calls_later r) (routine_lines r)) rs ≡ true → Follows n rs
unfolding is_next
follows [] n h g = tt
follows (r ∷ rs) n h g =
    let parts = and_parts (nat_lt (number_of r) (suc n) && nat_lt n (suc (number_of r))) (is_next (suc n) rs) h in
    let both = and_parts (nat_lt (number_of r) (suc n)) (nat_lt n (suc (number_of r))) parts.0 in
    let most = ltb-true (number_of r) (suc n) both.0 in
    let least = ltb-true n (suc (number_of r)) both.1 in
    let calls = and_parts (list_all (calls_later r) (routine_lines r)) (list_all (λ r. list_all (calls_later r) (routine_lines r)) rs) g in
    (omega (arith, most, least), calls.0, follows rs (suc n) parts.1 calls.1)

-- by computation
in_order : is_next 0 ALL ≡ true
unfolding is_next
in_order = refl

calls_go_on : CallsGoOn
calls_go_on = refl

all_follow : Follows 0 ALL
all_follow = follows ALL 0 in_order calls_go_on

-- what is marked at first, or by a routine that is taken, is taken
pub record IsWhole (first : Marks) (chosen : Chosen) : Type 0 where
  pub marked : (r : Routine) → is_marked first r ≡ true → has_lines r ≡ true → IsOf chosen.parts r
  pub called : (q r : Routine) (j : ℕ) (line : Line) → IsOf chosen.parts q → slice_get (routine_lines q) j ≡ Some line → CallsRoutine line r → has_lines r ≡ true → IsOf chosen.parts r
  pub lined : (q : Routine) → IsOf chosen.parts q → has_lines q ≡ true

pub whole : (first : Marks) → length first ≡ 123 → IsWhole first (chosen_by (record { marks = first; parts = [] }))
whole first wide =
    let begun : Chosen = record { marks = first; parts = [] } in
    let more : More first (with_routines begun ALL).marks = marks_on ALL begun wide in
    let d : AreDone (with_routines begun ALL).parts (with_routines begun ALL).marks = done ALL begun wide (none_done first) in
    record {
      marked = λ r h lined. taken ALL begun 0 (number_of r) r all_follow (routines_are_numbered r) (more.kept r h) lined;
      called = λ q r j line h here calls lined. taken ALL begun 0 (number_of r) r all_follow (routines_are_numbered r) (d.called q j line r h here calls) lined;
      lined = d.lined;
    }
