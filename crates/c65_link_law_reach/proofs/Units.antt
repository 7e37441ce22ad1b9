-- The runtime of a linked code, by itself.
use Rattle.std.proofs.Common.{◌≡◌, ℕ, zero, suc, ◌+◌, ◌-◌, ◌<◌, ◌≤◌, ◌==◌, ◌&&◌, ◌||◌, ◌⊎◌, inl, inr, not, Bool, true, false, nat_lt, nat_eq, if◌then◌else◌, IsTrue, List, [], ◌∷◌, Option, Some, None, unwrap_or, length, slice_get, refl, ap, sym, ◌∙◌, subst, arith, ltb-true, eqb-true}
use Rattle.std.specs.List.{list_all, list_any}
use Rattle.std.proofs.lemmas.Bool.{cases_lt, ne_eqb, and_parts, and_from, or_cases, or_left, or_right, lt-ltb, le-ltb, eq-eqb, not-true}
use Rattle.c65_base.specs.declared.library.Library.{Library}
use Rattle.c65_mach.specs.declared.rows.Op.{Op}
use Rattle.c65_mach.specs.declared.rows.Op.TheVariants as ops
use Rattle.c65_mach.specs.declared.rows.Mode.{Mode}
use Rattle.c65_mach.specs.Step.{Kind, Branches, Moves, kind_of}
use Rattle.c65_code.specs.declared.parts.RegSet.{RegSet}
use Rattle.c65_code.specs.declared.routine.Routine.{Routine}
use Rattle.c65_code.specs.declared.routine.Routine.TheVariants as routines
use Rattle.c65_code.specs.declared.routine.TheConstants.Routine.{ALL}
use Rattle.c65_code.specs.Numbering.{number_of}
use Rattle.c65_code.specs.declared.line.Operand.{Operand}
use Rattle.c65_code.specs.declared.line.Operand.TheVariants as operands
use Rattle.c65_code.specs.declared.line.Callee.TheVariants as callees
use Rattle.c65_code.specs.declared.line.Line.{Line}
use Rattle.c65_code.specs.declared.line.Line.TheVariants.{Label, Do, Call}
use Rattle.c65_code.specs.declared.code.Code.{Code}
use Rattle.c65_code.specs.LineState.{Place}
use Rattle.c65_code.specs.Placement.{is_function_of, segment_of}
use Rattle.c65_code.proofs.FunctionLaws.{function_parts}
use Rattle.c65_code.specs.Segments.{labels_of, is_among}
use Rattle.c65_code.specs.Moves.{labelled, settle}
use Rattle.c65_code.specs.Forms.{Form, Run, Enter, Through, op_form, move_form, jump_form, branch_form, form_of}
use Rattle.c65_code.specs.RawMachine.{RawSetting, entry_of, target_of}
use Rattle.c65_link.specs.Bytes.{Spot}
use Rattle.c65_link.specs.Runtime.{has_lines, routine_lines}
use Rattle.c65_link_law.specs.Coded.{Memory}
use Rattle.c65_link_law.specs.Placed.{routines_in}
use Rattle.c65_link_law_spots.specs.Places.{routine_count, lines_by, runtime_lines, base_in, spot_in}
use Rattle.c65_link.specs.Linked.{entry_of as entry_routine}
use Rattle.c65_code.proofs.RoutineNumbers.{routines_are_numbered}
use Rattle.c65_link_law_spots.specs.Laws.{IsChosen, CallsRoutine, AreUsesChosen, IsUnit, routine}
use Rattle.c65_link_law_spots.proofs.Marks.{numbered}
use Rattle.c65_link_law_spots.proofs.Uses.{uses_are_chosen}
use Rattle.c65_link_law_follow.specs.Agree.{Ground}
use Rattle.c65_link_law_follow.specs.Laid.{IsLaid, IsGround, IsTargetKnown, LineLeadsWell, hook_address}
use Rattle.c65_link_law_follow.specs.Laws.{IsCounted}
use Rattle.c65_link_law_laid.specs.Linked.{start_number, unit_lines, raw_in, kept_in, place_at}
use Rattle.c65_link_law_laid.specs.Laws.{IsNoStart}
use Rattle.c65_link_law_laid.proofs.Walk.{settled_at, same_there}
use Rattle.c65_link_law_laid.proofs.Tables.{all_there, of_all, either, is_start, lined}
use Rattle.c65_link_law_laid.proofs.Linked.{not_the_start, routine_there}
use Rattle.c65_link_law_runs.specs.Laws.{AreUnits}
use Rattle.c65_link_law_reach.specs.Reach.{runtime_in}

-- Other lines

leads_same : (g : Ground) (s : RawSetting) (lines : ℕ → List Line) (spot : Spot) (l : Line) → ((n : ℕ) → g.at (entry_of s n) ≡ g.at (n, settle (lines n) 0)) → LineLeadsWell g s spot l → LineLeadsWell g (record s { lines = lines }) spot l
leads_same g s lines spot (Label l) same h = tt
leads_same g s lines spot (Do op mode operand) same h = tt
leads_same g s lines spot (Call (callees.Routine r)) same h = h ∙ ap (unwrap_or (hook_address r)) (same (s.routine r))
leads_same g s lines spot (Call (callees.Function f reads gives)) same h = λ i. h i ∙ same (target_of s (s.library f.0) f.0)
leads_same g s lines spot (Call (callees.Pointer reads gives)) same h = h ∙ same (s.routine routines.CallPtr4)

pub laid_same : (g : Ground) (s : RawSetting) (lines : ℕ → List Line) (f : ℕ) → lines f ≡ s.lines f → ((n : ℕ) → g.at (entry_of s n) ≡ g.at (n, settle (lines n) 0)) → IsLaid g s f → IsLaid g (record s { lines = lines }) f
laid_same g s lines f e same laid =
    record {
      spot = laid.spot;
      coded = λ p l here. laid.coded p l (back p l here);
      settled = λ p. ap (λ (ls : List Line). g.at (f, settle ls p)) e ∙ laid.settled p;
      labels = λ l h. laid.labels l (subst (λ (ls : List Line). IsTrue (is_among (labels_of ls) l)) e h) ∙ ap (λ (ls : List Line). g.at (f, labelled ls l)) (sym e);
      symbols = λ p l name here. laid.symbols p l name (back p l here);
      fit = λ p l here. laid.fit p l (back p l here);
      own = λ p l here. laid.own p l (back p l here);
      numbers = λ p l here. laid.numbers p l (back p l here);
      targets = λ p l here. subst (λ (ls : List Line). IsTargetKnown ls l) (sym e) (laid.targets p l (back p l here));
      calls = λ p l here. leads_same g s lines laid.spot l same (laid.calls p l (back p l here));
    }
  where
    back : (p : ℕ) (l : Line) → slice_get (lines f) p ≡ Some l → slice_get (s.lines f) p ≡ Some l
    back p l here = ap (λ (ls : List Line). slice_get ls p) (sym e) ∙ here

-- a unit without lines
pub nothing_there : {P : Type 0} (lines : List Line) (p : ℕ) (l : Line) → lines ≡ [] → slice_get lines p ≡ Some l → P
nothing_there lines p l e h = (let z : ◌≡◌ {A = Option Line} None (Some l) = ap (λ (ls : List Line). slice_get ls p) (sym e) ∙ h in absurd cc)

pub empty_laid : (g : Ground) (s : RawSetting) (spot : Spot) (f : ℕ) → s.lines f ≡ [] → IsLaid g s f
empty_laid g s spot f e = record {
  spot = spot;
  coded = λ p l here. nothing_there (s.lines f) p l e here;
  settled = λ p. ap (λ (ls : List Line). g.at (f, settle ls p)) e;
  labels = λ l h. (let z : false ≡ true = ap (λ (ls : List Line). is_among (labels_of ls) l) (sym e) ∙ h in absurd cc);
  symbols = λ p l name here. nothing_there (s.lines f) p l e here;
  fit = λ p l here. nothing_there (s.lines f) p l e here;
  own = λ p l here. nothing_there (s.lines f) p l e here;
  numbers = λ p l here. nothing_there (s.lines f) p l e here;
  targets = λ p l here. nothing_there (s.lines f) p l e here;
  calls = λ p l here. nothing_there (s.lines f) p l e here;
}

ground_same : (g : Ground) (s : RawSetting) (lines : ℕ → List Line) → ((n : ℕ) → g.at (entry_of s n) ≡ g.at (n, settle (lines n) 0)) → IsGround g s → IsGround g (record s { lines = lines })
ground_same g s lines same ground = record {
  from = ground.from;
  to = ground.to;
  low = ground.low;
  high = ground.high;
  data_from = ground.data_from;
  data_to = ground.data_to;
  bottom = ground.bottom;
  page = ground.page;
  place = ground.place;
  functions = λ f h. ground.functions f h ∙ same (target_of s (s.library f) f);
}

-- The lines of routines

abbrev is_args : Routine → Bool
is_args r = nat_eq (number_of r) 121

-- no routine calls a function by its symbol, the start or for the arguments, or jumps through the last byte
abbrev is_inner_line : Line → Bool
is_inner_line (Do ops.Jmp mode (operands.Zero i)) = nat_lt i 255
is_inner_line (Call (callees.Routine r)) = not (is_start r) && not (is_args r)
is_inner_line (Call (callees.Function f reads gives)) = false
is_inner_line _ = true

inner_lines : (r : Routine) (p : ℕ) (l : Line) → is_start r ≡ false → slice_get (routine_lines r) p ≡ Some l → is_inner_line l ≡ true
inner_lines r p l inner here =
    all_there is_inner_line (routine_lines r) p l (either (is_start r) (list_all is_inner_line (routine_lines r)) (of_all (λ r. is_start r || list_all is_inner_line (routine_lines r)) r refl) inner) here

jump_counted : (operand : Operand) (g : Ground) (s : RawSetting) (mode : Mode) → is_inner_line (Do ops.Jmp mode operand) ≡ true → IsCounted g s (jump_form operand)
jump_counted (operands.To l) g s mode h = tt
jump_counted (operands.Zero i) g s mode h = ltb-true i 255 h
jump_counted _ g s mode h = tt

move_counted : (op : Op) (operand : Operand) (g : Ground) (s : RawSetting) (mode : Mode) → g.top ≡ 253 → is_inner_line (Do op mode operand) ≡ true → IsCounted g s (move_form op operand)
move_counted ops.Jmp operand g s mode top h = jump_counted operand g s mode h
move_counted ops.Tsx operand g s mode top h = top
move_counted ops.Pha operand g s mode top h = tt
move_counted ops.Pla operand g s mode top h = tt
move_counted ops.Rts operand g s mode top h = tt
move_counted _ operand g s mode top h = tt

branch_counted : (operand : Operand) (op : Op) (g : Ground) (s : RawSetting) → IsCounted g s (branch_form op operand)
branch_counted (operands.To l) op g s = tt
branch_counted _ op g s = tt

op_counted : (k : Kind) (op : Op) (mode : Mode) (operand : Operand) (g : Ground) (s : RawSetting) → g.top ≡ 253 → is_inner_line (Do op mode operand) ≡ true → IsCounted g s (op_form k op mode operand)
op_counted Branches op mode operand g s top h = branch_counted operand op g s
op_counted Moves op mode operand g s top h = move_counted op operand g s mode top h
op_counted _ op mode operand g s top h = tt

counted_line : (l : Line) (g : Ground) (s : RawSetting) → g.top ≡ 253 → is_inner_line l ≡ true → IsCounted g s (form_of l)
counted_line (Label l) g s top h = tt
counted_line (Do op mode operand) g s top h = op_counted (kind_of op) op mode operand g s top h
counted_line (Call (callees.Routine r)) g s top h = tt
counted_line (Call (callees.Function f reads gives)) g s top h = (let z : false ≡ true = h in absurd cc)
counted_line (Call (callees.Pointer reads gives)) g s top h = tt

-- which routine a line calls, by its form

abbrev pub is_call : Form → Bool
is_call (Run r) = true
is_call (Enter f reads gives) = true
is_call (Through reads gives) = true
is_call _ = false

jump_calls : (operand : Operand) → is_call (jump_form operand) ≡ false
jump_calls (operands.To l) = refl
jump_calls (operands.Zero i) = refl
jump_calls _ = refl

move_calls : (op : Op) (operand : Operand) → is_call (move_form op operand) ≡ false
move_calls ops.Jmp operand = jump_calls operand
move_calls ops.Pha operand = refl
move_calls ops.Pla operand = refl
move_calls ops.Tsx operand = refl
move_calls ops.Rts operand = refl
move_calls _ operand = refl

branch_calls : (operand : Operand) (op : Op) → is_call (branch_form op operand) ≡ false
branch_calls (operands.To l) op = refl
branch_calls _ op = refl

pub op_calls : (k : Kind) (op : Op) (mode : Mode) (operand : Operand) → is_call (op_form k op mode operand) ≡ false
op_calls Branches op mode operand = branch_calls operand op
op_calls Moves op mode operand = move_calls op operand
op_calls _ op mode operand = refl

no_call : {P : Type 0} (form other : Form) → is_call form ≡ false → form ≡ other → is_call other ≡ true → P
no_call form other e is h = (let z : false ≡ true = sym e ∙ ap is_call is ∙ h in absurd cc)

same_routine : (q r : Routine) → Run q ≡ Run r → q ≡ r
same_routine q r h = cc

pub run_calls : (l : Line) (r : Routine) → form_of l ≡ Run r → CallsRoutine l r
run_calls (Label l) r h = no_call (form_of (Label l)) (Run r) refl h refl
run_calls (Do op mode operand) r h = no_call (form_of (Do op mode operand)) (Run r) (op_calls (kind_of op) op mode operand) h refl
run_calls (Call (callees.Routine q)) r h = same_routine q r h
run_calls (Call (callees.Function f reads gives)) r h = absurd cc
run_calls (Call (callees.Pointer reads gives)) r h = absurd cc

pub through_calls : (l : Line) (reads gives : RegSet) → form_of l ≡ Through reads gives → CallsRoutine l routines.CallPtr4
through_calls (Label l) reads gives h = no_call (form_of (Label l)) (Through reads gives) refl h refl
through_calls (Do op mode operand) reads gives h = no_call (form_of (Do op mode operand)) (Through reads gives) (op_calls (kind_of op) op mode operand) h refl
through_calls (Call (callees.Routine q)) reads gives h = absurd cc
through_calls (Call (callees.Function f more less)) reads gives h = absurd cc
through_calls (Call (callees.Pointer more less)) reads gives h = refl

inner_call : (l : Line) (r : Routine) → is_inner_line l ≡ true → CallsRoutine l r → (is_start r ≡ false) × (is_args r ≡ false)
inner_call (Label l) r h calls = absurd calls
inner_call (Do op mode operand) r h calls = absurd calls
inner_call (Call (callees.Routine q)) r h calls =
    let parts = and_parts (not (is_start q)) (not (is_args q)) h in
    (ap is_start (sym calls) ∙ not-true (is_start q) parts.0, ap is_args (sym calls) ∙ not-true (is_args q) parts.1)
inner_call (Call (callees.Function f reads gives)) r h calls = absurd calls
inner_call (Call (callees.Pointer reads gives)) r h calls = (ap is_start (sym calls), ap is_args (sym calls))

-- The units of the runtime, with functions as units without lines

abbrev is_unit_of : Code → ℕ → Routine → Bool
is_unit_of code f r = not (is_start r) && (f == length code.symbols + number_of r)

abbrev pub units_in : Code → ℕ → Bool
units_in code f = nat_lt f (length code.symbols) || list_any (is_unit_of code f) (routines_in code)

any_there : {A : Type 0} (test : A → Bool) (xs : List A) (i : ℕ) (x : A) → slice_get xs i ≡ Some x → test x ≡ true → list_any test xs ≡ true
any_there test [] i x here h = absurd cc
any_there test (y ∷ xs) zero x here h = or_left (test y) (list_any test xs) (ap test (same_there y x here) ∙ h)
any_there test (y ∷ xs) (suc i) x here h = or_right (test y) (list_any test xs) (any_there test xs i x here h)

any_from : {A : Type 0} (test : A → Bool) (xs : List A) → list_any test xs ≡ true → (i : ℕ) × (x : A) × (slice_get xs i ≡ Some x) × (test x ≡ true)
any_from test [] h = absurd cc
any_from {A} test (y ∷ xs) h = by (or_cases (test y) (list_any test xs) h) (any_from test xs)
  where
    by : (test y ≡ true) ⊎ (list_any test xs ≡ true) → (list_any test xs ≡ true → (i : ℕ) × (x : A) × (slice_get xs i ≡ Some x) × (test x ≡ true)) → (i : ℕ) × (x : A) × (slice_get (y ∷ xs) i ≡ Some x) × (test x ≡ true)
    by (inl e) rest = (0, y, refl, e)
    by (inr e) rest = let r = rest e in (suc r.0, r.1, r.2, r.3)

pub chosen_unit : (code : Code) (r : Routine) → IsChosen code r → is_start r ≡ false → IsTrue (units_in code (length code.symbols + number_of r))
chosen_unit code r chosen inner =
    let f : ℕ = length code.symbols + number_of r in
    or_right (nat_lt f (length code.symbols)) (list_any (is_unit_of code f) (routines_in code)) (any_there (is_unit_of code f) (routines_in code) chosen.place r chosen.there (and_from (not (is_start r)) (f == f) (ap not inner) (eq-eqb f f refl)))

pub function_unit : (code : Code) (f : ℕ) → f < length code.symbols → IsTrue (units_in code f)
function_unit code f h = or_left (nat_lt f (length code.symbols)) (list_any (is_unit_of code f) (routines_in code)) (lt-ltb f (length code.symbols) h)

-- what a unit is
data Known (code : Code) (f : ℕ) : Type 0 where
  of_function : nat_lt f (length code.symbols) ≡ true → Known code f
  of_routine : (r : Routine) → IsChosen code r → is_start r ≡ false → f ≡ length code.symbols + number_of r → Known code f

known : (code : Code) (f : ℕ) → IsTrue (units_in code f) → Known code f
known code f h = by (or_cases (nat_lt f (length code.symbols)) (list_any (is_unit_of code f) (routines_in code)) h)
  where
    by : (nat_lt f (length code.symbols) ≡ true) ⊎ (list_any (is_unit_of code f) (routines_in code) ≡ true) → Known code f
    by (inl e) = of_function e
    by (inr e) =
        let it = any_from (is_unit_of code f) (routines_in code) e in
        let parts = and_parts (not (is_start it.1)) (f == length code.symbols + number_of it.1) it.3 in
        of_routine it.1 (record { place = it.0; there = it.2 }) (not-true (is_start it.1) parts.0) (eqb-true f (length code.symbols + number_of it.1) parts.1)

-- the lines of a routine
pub routine_at : (code : Code) (args : List (List ℕ)) (r : Routine) → (runtime_in code args).lines (length code.symbols + number_of r) ≡ routine_lines r
routine_at code args r =
    let f : ℕ = length code.symbols + number_of r in
    ap (λ (b : Bool). if b then [] else lines_by (slice_get ALL (f - length code.symbols))) (le-ltb f (length code.symbols) (omega arith))
    ∙ ap (λ (n : ℕ). lines_by (slice_get ALL n)) (let e : f - length code.symbols ≡ number_of r = omega arith in e) ∙ ap lines_by (routines_are_numbered r)

pub raw_routine : (code : Code) (args : List (List ℕ)) (r : Routine) → (raw_in code args).lines (length code.symbols + number_of r) ≡ routine_lines r
raw_routine code args r = (let low = numbered r in not_the_start code (length code.symbols + number_of r) (λ h. omega (arith, low, h)) ∙ routine_there code r)

-- a number that is not below another
not_less : (a b : ℕ) → nat_lt a b ≡ false → b ≤ a
not_less a b e = by (cases_lt a b)
  where
    by : (a < b) ⊎ (b ≤ a) → b ≤ a
    by (inl l) = (let z : true ≡ false = sym (lt-ltb a b l) ∙ e in absurd cc)
    by (inr l) = l

-- a unit's first line has one address
pub entry_same : (code : Code) (args : List (List ℕ)) (m : Memory) (n : ℕ) → place_at code m (entry_of (raw_in code args) n) ≡ place_at code m (n, settle ((runtime_in code args).lines n) 0)
entry_same code args m n = by (nat_lt n (length code.symbols)) refl (n == start_number code) refl
  where
    first : place_at code m (n, settle (unit_lines code n) 0) ≡ place_at code m (n, 0)
    first = ap (kept_in code) (settled_at (unit_lines code n) m (base_in code n) 0)

    lineless : (runtime_in code args).lines n ≡ [] → place_at code m (entry_of (raw_in code args) n) ≡ place_at code m (n, settle ((runtime_in code args).lines n) 0)
    lineless e = first ∙ ap (λ (ls : List Line). place_at code m (n, settle ls 0)) (sym e)

    by : (b : Bool) → nat_lt n (length code.symbols) ≡ b → (c : Bool) → (n == start_number code) ≡ c → place_at code m (entry_of (raw_in code args) n) ≡ place_at code m (n, settle ((runtime_in code args).lines n) 0)
    by true e c f = lineless (ap (λ (b : Bool). if b then [] else lines_by (slice_get ALL (n - length code.symbols))) e)
    by false e true f =
        let same : n ≡ start_number code = eqb-true n (start_number code) f in
        lineless (ap (λ (b : Bool). if b then [] else lines_by (slice_get ALL (n - length code.symbols))) e ∙ ap (λ (k : ℕ). lines_by (slice_get ALL k)) (let z : n - length code.symbols ≡ 123 = omega (arith, same) in z))
    by false e false f =
        let other : n ≡ start_number code → ⊥ = λ same. (let z : true ≡ false = sym (eq-eqb n (start_number code) same) ∙ f in absurd cc) in
        let beyond : n - length code.symbols ≡ routine_count → ⊥ = λ h. (let low = not_less n (length code.symbols) e in other (omega (arith, low, h))) in
        let own : unit_lines code n ≡ (runtime_in code args).lines n = not_the_start code n other
        ∙ ap (λ (b : Bool). if b then (segment_of code.functions n).lines else runtime_lines code (n - length code.symbols)) e
        ∙ ap (λ (b : Bool). if b then routine_lines (entry_routine code) else lines_by (slice_get ALL (n - length code.symbols))) (ne_eqb (n - length code.symbols) routine_count beyond)
        ∙ sym (ap (λ (b : Bool). if b then [] else lines_by (slice_get ALL (n - length code.symbols))) e) in
        ap (λ (ls : List Line). place_at code m (n, settle ls 0)) own

pub no_start : (code : Code) (r : Routine) → is_start r ≡ false → IsNoStart code (length code.symbols + number_of r)
no_start code r h = (λ e. other (number_of r) h (omega (arith, e)), λ e. one (number_of r) h (omega (arith, e)))
  where
    other : (n : ℕ) → nat_lt n 2 ≡ false → n ≡ 0 → ⊥
    other n e z = (let b : true ≡ false = sym (lt-ltb n 2 (omega (arith, z))) ∙ e in absurd cc)

    one : (n : ℕ) → nat_lt n 2 ≡ false → n ≡ 1 → ⊥
    one n e z = (let b : true ≡ false = sym (lt-ltb n 2 (omega (arith, z))) ∙ e in absurd cc)

pub runtime_ground : (code : Code) (args : List (List ℕ)) (m : Memory) (g : Ground) → g.at ≡ place_at code m → IsGround g (raw_in code args) → IsGround g (runtime_in code args)
runtime_ground code args m g at ground = ground_same g (raw_in code args) (runtime_in code args).lines (λ n. subst (λ (f : Place → ℕ). f (entry_of (raw_in code args) n) ≡ f (n, settle ((runtime_in code args).lines n) 0)) (sym at) (entry_same code args m n)) ground

-- a line of a unit
line_of : (code : Code) (args : List (List ℕ)) (f p : ℕ) (l : Line) → IsTrue (units_in code f) → slice_get ((runtime_in code args).lines f) p ≡ Some l → (r : Routine) × IsChosen code r × (is_start r ≡ false) × (slice_get (routine_lines r) p ≡ Some l)
line_of code args f p l unit here = by (known code f unit)
  where
    by : Known code f → (r : Routine) × IsChosen code r × (is_start r ≡ false) × (slice_get (routine_lines r) p ≡ Some l)
    by (of_function e) = nothing_there ((runtime_in code args).lines f) p l (ap (λ (b : Bool). if b then [] else lines_by (slice_get ALL (f - length code.symbols))) e) here
    by (of_routine r chosen inner is) = (r, chosen, inner, ap (λ (ls : List Line). slice_get ls p) (sym (ap (runtime_in code args).lines is ∙ routine_at code args r)) ∙ here)

-- a line of the runtime is one of a routine
pub runtime_line : (code : Code) (args : List (List ℕ)) (f p : ℕ) (l : Line) → IsTrue (units_in code f) → slice_get ((runtime_in code args).lines f) p ≡ Some l → (r : Routine) × IsChosen code r × (f ≡ length code.symbols + number_of r)
runtime_line code args f p l unit here = by (known code f unit)
  where
    by : Known code f → (r : Routine) × IsChosen code r × (f ≡ length code.symbols + number_of r)
    by (of_function e) = nothing_there ((runtime_in code args).lines f) p l (ap (λ (b : Bool). if b then [] else lines_by (slice_get ALL (f - length code.symbols))) e) here
    by (of_routine r chosen inner is) = (r, chosen, is)

pub are_units : (code : Code) (args : List (List ℕ)) (m : Memory) (g : Ground) → g.at ≡ place_at code m → g.top ≡ 253 → ((f : ℕ) → IsUnit code f → IsNoStart code f → IsLaid g (raw_in code args) f)
    → ((f : ℕ) (l : Library) → IsTrue (is_function_of code f) → (raw_in code args).library f ≡ Some l → IsChosen code (routines.Library l)) → AreUnits g (runtime_in code args) (units_in code)
are_units code args m g at top laid library =
    record {
      laid = λ f h. laid_by f (known code f h);
      counted = λ f p l h here. (let k = line_of code args f p l h here in counted_line l g (runtime_in code args) top (inner_lines k.0 p l k.2 k.3));
      no_arguments = λ f p l h here is. (let k = line_of code args f p l h here in
          let c = inner_call l routines.HookArgs (inner_lines k.0 p l k.2 k.3) (run_calls l routines.HookArgs is) in let z : true ≡ false = c.1 in absurd cc);
      called = λ f p l r h here is lines. (let k = line_of code args f p l h here in called_by l r k.0 p k.1 k.2 k.3 (run_calls l r is) (lined r lines));
      through = λ f p l reads gives h here is. (let k = line_of code args f p l h here in called_by l routines.CallPtr4 k.0 p k.1 k.2 k.3 (through_calls l reads gives is) refl);
      functions = λ f p h l unit here goes is. function_by h is ((raw_in code args).library h) refl;
    }
  where
    same : (n : ℕ) → g.at (entry_of (raw_in code args) n) ≡ g.at (n, settle ((runtime_in code args).lines n) 0)
    same n = subst (λ (f : Place → ℕ). f (entry_of (raw_in code args) n) ≡ f (n, settle ((runtime_in code args).lines n) 0)) (sym at) (entry_same code args m n)

    laid_by : (f : ℕ) → Known code f → IsLaid g (runtime_in code args) f
    laid_by f (of_function e) = empty_laid g (runtime_in code args) (spot_in code f) f (ap (λ (b : Bool). if b then [] else lines_by (slice_get ALL (f - length code.symbols))) e)
    laid_by f (of_routine r chosen inner is) =
        let n : ℕ = length code.symbols + number_of r in
        subst (λ (k : ℕ). IsLaid g (runtime_in code args) k) (sym is) (laid_same g (raw_in code args) (runtime_in code args).lines n (routine_at code args r ∙ sym (raw_routine code args r)) same (laid n (routine r chosen refl) (no_start code r inner)))

    called_by : (l : Line) (r q : Routine) (p : ℕ) → IsChosen code q → is_start q ≡ false → slice_get (routine_lines q) p ≡ Some l → CallsRoutine l r → IsTrue (has_lines r) → IsTrue (units_in code (length code.symbols + number_of r))
    called_by l r q p chosen inner here calls lines =
        let uses : AreUsesChosen code = uses_are_chosen code in
        chosen_unit code r (uses.routine chosen.place p q l r chosen.there here calls lines) (inner_call l r (inner_lines q p l inner here) calls).0

    function_by : (f : ℕ) → IsTrue (is_function_of code f) → (o : Option Library) → (raw_in code args).library f ≡ o → IsTrue (units_in code (target_of (raw_in code args) o f))
    function_by f h None e = function_unit code f (function_parts code f h).known
    function_by f h (Some l) e = chosen_unit code (routines.Library l) (library f l h e) (le-ltb (number_of (routines.Library l)) 2 (omega arith))
