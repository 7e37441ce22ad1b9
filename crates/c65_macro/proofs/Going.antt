-- Steps that may come into a use, or put their token back.
use Rattle.std.proofs.Common.{◌≡◌, ℕ, suc, List, [], ◌∷◌, ◌++◌, sym, ap, ◌∙◌, subst, Bool, false, Option, Some, None, Result, Ok, Err}
use Rattle.c65_base.specs.declared.refusal.Refusal.{Refusal}
use Rattle.c65_base.specs.declared.names.Name.{Name}
use Rattle.c65_lex.specs.declared.token.PpToken.{PpToken}
use Rattle.c65_macro.specs.declared.item.Macro.{Macro}
use Rattle.c65_macro.specs.declared.sets.Node.{Node}
use Rattle.c65_macro.specs.declared.marked.Marked.{Marked}
use Rattle.c65_macro.specs.declared.gather.Gathered.{Gathered}
use Rattle.c65_macro.specs.declared.state.Begun.{Begun}
use Rattle.c65_macro.specs.declared.state.Pending.{Pending}
use Rattle.c65_macro.specs.declared.state.Went.{Went}
use Rattle.c65_macro.specs.declared.state.Went.TheVariants as wents
use Rattle.c65_macro.specs.Table.{Table, lookup}
use Rattle.c65_macro.specs.Items.{Item, Outcome, ◌>>=◌}
use Rattle.c65_macro.specs.Expand.{Expander, replace_use, in_front, macro_of, expand}
use Rattle.c65_macro.specs.Answered.{Stops}
use Rattle.c65_macro.specs.Views.{item_of, items_of}
use Rattle.c65_macro.specs.Machine.{Stage, Frame, Later, Steps, Goes, GoesInto, Leads, went_on, went_into, begun_left, begun_with, use_left, with_argument, climb, outcome, outcome_by, reached, frame_of, frames_of, tail_of, gather_in}
use Rattle.c65_macro.proofs.Fuel.{later_same}
use Rattle.c65_macro.proofs.Seen.{stops_same, stops_bind}
use Rattle.c65_macro.proofs.Stepping.{later_is, leads_step, leads_stop, leads_climb, leads_climb_stop}
use Rattle.c65_macro.proofs.Replacing.{frames_push}

-- a step that goes on
pub goes_on : (nodes : List Node) (table : Table) (names : List (List ℕ)) (was : Stage) (fs : List Frame) (front : Expander → Outcome (List Item)) (r : Result (Unit {0}) Refusal) (q : Result Went Refusal) (known : List (List ℕ)) (s : Stage) (gs : List Frame)
    → q ≡ went_on r → Steps table was.out fs front r known s gs → Goes nodes table names was fs front q known s gs
goes_on nodes table names was fs front (Ok x) q known s gs e h = let P : Result Went Refusal → Type 0 = λ z. Goes nodes table names was fs front z known s gs in subst P (sym e) h
goes_on nodes table names was fs front (Err x) q known s gs e h = let P : Result Went Refusal → Type 0 = λ z. Goes nodes table names was fs front z known s gs in subst P (sym e) h

-- one that may come into a use
pub goes_into : (nodes : List Node) (table : Table) (names : List (List ℕ)) (was : Stage) (fs : List Frame) (front : Expander → Outcome (List Item)) (r : Result (Option Begun) Refusal) (q : Result Went Refusal) (known : List (List ℕ)) (s : Stage) (gs : List Frame)
    → q ≡ went_into r → GoesInto nodes table was.out fs front r known s gs → Goes nodes table names was fs front q known s gs
goes_into nodes table names was fs front (Ok None) q known s gs e h = let P : Result Went Refusal → Type 0 = λ z. Goes nodes table names was fs front z known s gs in subst P (sym e) h
goes_into nodes table names was fs front (Ok (Some b)) q known s gs e h = let P : Result Went Refusal → Type 0 = λ z. Goes nodes table names was fs front z known s gs in subst P (sym e) h
goes_into nodes table names was fs front (Err x) q known s gs e h = let P : Result Went Refusal → Type 0 = λ z. Goes nodes table names was fs front z known s gs in subst P (sym e) h

front_same : (table : Table) (n : ℕ) (out : List Item) (fs : List Frame) (f g : Expander → Outcome (List Item)) → ((go : Expander) → f go ≡ g go) → outcome_by table n out fs f ≡ outcome_by table n out fs g
front_same table n out fs f g e = ap (λ z. z >>= λ names more. climb table (suc n) names fs (out ++ more)) (e (expand table n))

-- equal fronts make equal steps
pub goes_front : (nodes : List Node) (table : Table) (names : List (List ℕ)) (was : Stage) (fs : List Frame) (f g : Expander → Outcome (List Item)) (q : Result Went Refusal) (known : List (List ℕ)) (s : Stage) (gs : List Frame)
    → ((go : Expander) → f go ≡ g go) → Goes nodes table names was fs g q known s gs → Goes nodes table names was fs f q known s gs
goes_front nodes table names was fs f g (Ok wents.On) known s gs e h = λ n. later_is (outcome table n known s gs) (outcome_by table n was.out fs f) (outcome_by table n was.out fs g) (front_same table n was.out fs f g e) (h n)
goes_front nodes table names was fs f g (Ok wents.Back) known s gs e h = h
goes_front nodes table names was fs f g (Ok (wents.Into b)) known s gs e h = λ n. later_is (reached nodes table n known s gs (Some b)) (outcome_by table n was.out fs f) (outcome_by table n was.out fs g) (front_same table n was.out fs f g e) (h n)
goes_front nodes table names was fs f g (Err x) known s gs e h = λ n. stops_same x (outcome_by table n was.out fs f) (outcome_by table n was.out fs g) (front_same table n was.out fs f g e) (h n)

pub into_front : (nodes : List Node) (table : Table) (out : List Item) (fs : List Frame) (f g : Expander → Outcome (List Item)) (q : Result (Option Begun) Refusal) (known : List (List ℕ)) (s : Stage) (gs : List Frame)
    → ((go : Expander) → f go ≡ g go) → GoesInto nodes table out fs g q known s gs → GoesInto nodes table out fs f q known s gs
into_front nodes table out fs f g (Ok b) known s gs e h = λ n. later_is (reached nodes table n known s gs b) (outcome_by table n out fs f) (outcome_by table n out fs g) (front_same table n out fs f g e) (h n)
into_front nodes table out fs f g (Err x) known s gs e h = λ n. stops_same x (outcome_by table n out fs f) (outcome_by table n out fs g) (front_same table n out fs f g e) (h n)

-- the use of a macro that is known
pub left_is : (nodes : List Node) (table : Table) (go : Expander) (names : List (List ℕ)) (s : Stage) (b : Begun) (o : Option Macro) (m : Macro) (ps : List Name) → o ≡ Some m → m.params ≡ Some ps
    → begun_left nodes table go names s b o ≡ begun_with nodes table go names s b m (Some ps)
left_is nodes table go names s b o m ps h k = ap (λ o. begun_left nodes table go names s b o) h ∙ ap (λ p. begun_with nodes table go names s b m p) k

-- the loop goes on with the tokens that are left
pub left_at : (nodes : List Node) (table : Table) (whole : ℕ → Outcome (List Item)) (known : List (List ℕ)) (out tail : List Item) (old ms : List Marked) (room outside : ℕ) (fs : List Frame) → old ≡ ms
    → Leads nodes table whole known (record { rest = items_of nodes old ++ tail; out = out; room = room; outside = outside }) fs None → Leads nodes table whole known (record { rest = items_of nodes ms ++ tail; out = out; room = room; outside = outside }) fs None
left_at nodes table whole known out tail old ms room outside fs e l =
    let P : List Marked → Type 0 = λ k. Leads nodes table whole known (record { rest = items_of nodes k ++ tail; out = out; room = room; outside = outside }) fs None in subst P e l

-- what a step of the loop is about
abbrev pub StepsOn : List Node → Table → List (List ℕ) → List Item → List Item → Marked → List Marked → ℕ → ℕ → List Frame → Result Went Refusal → List (List ℕ) → Stage → List Frame → Type 0
StepsOn nodes table known out tail m ms room outside fs r spelled s gs = Goes nodes table known (record { rest = item_of nodes m ∷ items_of nodes ms ++ tail; out = out; room = room; outside = outside }) fs (λ go. in_front table go known outside room (item_of nodes m) (items_of nodes ms ++ tail) (macro_of table m.token)) r spelled s gs

went_is : (nodes : List Node) (table : Table) (known : List (List ℕ)) (out tail : List Item) (m : Marked) (ms : List Marked) (room outside : ℕ) (fs gs : List Frame) (spelled : List (List ℕ)) (s : Stage) (w v : Went) → w ≡ v → StepsOn nodes table known out tail m ms room outside fs (Ok w) spelled s gs → StepsOn nodes table known out tail m ms room outside fs (Ok v) spelled s gs
went_is nodes table known out tail m ms room outside fs gs spelled s w v e h = let P : Went → Type 0 = λ z. StepsOn nodes table known out tail m ms room outside fs (Ok z) spelled s gs in subst P e h

pub run_on : (nodes : List Node) (table : Table) (whole : ℕ → Outcome (List Item)) (known spelled : List (List ℕ)) (out tail : List Item) (m : Marked) (ms old : List Marked) (room outside : ℕ) (fs gs : List Frame) (s : Stage) (w : Went) → old ≡ m ∷ ms → w ≡ wents.On
    → Leads nodes table whole known (record { rest = items_of nodes old ++ tail; out = out; room = room; outside = outside }) fs None
    → StepsOn nodes table known out tail m ms room outside fs (Ok w) spelled s gs → Leads nodes table whole spelled s gs None
run_on nodes table whole known spelled out tail m ms old room outside fs gs s w e f l h =
    leads_step nodes table whole known spelled out (item_of nodes m) (items_of nodes ms ++ tail) room outside fs gs s None (left_at nodes table whole known out tail old (m ∷ ms) room outside fs e l)
    (went_is nodes table known out tail m ms room outside fs gs spelled s w wents.On f h)

pub run_into : (nodes : List Node) (table : Table) (whole : ℕ → Outcome (List Item)) (known spelled : List (List ℕ)) (out tail : List Item) (m : Marked) (ms old : List Marked) (room outside : ℕ) (fs gs : List Frame) (s : Stage) (w : Went) (b : Begun) → old ≡ m ∷ ms → w ≡ wents.Into b
    → Leads nodes table whole known (record { rest = items_of nodes old ++ tail; out = out; room = room; outside = outside }) fs None
    → StepsOn nodes table known out tail m ms room outside fs (Ok w) spelled s gs → Leads nodes table whole spelled s gs (Some b)
run_into nodes table whole known spelled out tail m ms old room outside fs gs s w b e f l h =
    leads_step nodes table whole known spelled out (item_of nodes m) (items_of nodes ms ++ tail) room outside fs gs s (Some b) (left_at nodes table whole known out tail old (m ∷ ms) room outside fs e l)
    (went_is nodes table known out tail m ms room outside fs gs spelled s w (wents.Into b) f h)

pub run_back : (nodes : List Node) (table : Table) (whole : ℕ → Outcome (List Item)) (known spelled : List (List ℕ)) (out tail : List Item) (m : Marked) (ms old : List Marked) (room outside : ℕ) (fs gs : List Frame) (s : Stage) (w : Went) → old ≡ m ∷ ms → w ≡ wents.Back
    → Leads nodes table whole known (record { rest = items_of nodes old ++ tail; out = out; room = room; outside = outside }) fs None
    → StepsOn nodes table known out tail m ms room outside fs (Ok w) spelled s gs → Leads nodes table whole spelled s gs None
run_back nodes table whole known spelled out tail m ms old room outside fs gs s w e f l h =
    let a = went_is nodes table known out tail m ms room outside fs gs spelled s w wents.Back f h in
    let was : Stage = record { rest = item_of nodes m ∷ items_of nodes ms ++ tail; out = out; room = room; outside = outside } in
    let P : List (List ℕ) → Type 0 = λ z. Leads nodes table whole z s gs None in
    let Q : Stage → Type 0 = λ z. Leads nodes table whole known z gs None in
    let R : List Frame → Type 0 = λ z. Leads nodes table whole known was z None in
    subst P (sym a.0) (subst Q (sym a.1) (subst R (sym a.2) (left_at nodes table whole known out tail old (m ∷ ms) room outside fs e l)))

pub run_stop : (nodes : List Node) (table : Table) (whole : ℕ → Outcome (List Item)) (known spelled : List (List ℕ)) (out tail : List Item) (m : Marked) (ms old : List Marked) (room outside : ℕ) (fs gs : List Frame) (s : Stage) (r : Refusal) → old ≡ m ∷ ms
    → Leads nodes table whole known (record { rest = items_of nodes old ++ tail; out = out; room = room; outside = outside }) fs None
    → StepsOn nodes table known out tail m ms room outside fs (Err r) spelled s gs → (k : ℕ) × Stops r (whole k)
run_stop nodes table whole known spelled out tail m ms old room outside fs gs s r e l h =
    leads_stop nodes table whole known out (item_of nodes m) (items_of nodes ms ++ tail) room outside fs r (left_at nodes table whole known out tail old (m ∷ ms) room outside fs e l) h

-- the loop goes on with the use below
frames_at : (nodes : List Node) (more : List PpToken) (table : Table) (whole : ℕ → Outcome (List Item)) (known : List (List ℕ)) (out : List Item) (ends : Bool) (old : List Marked) (room outside : ℕ) (ps qs : List Pending) (p : Pending) → ends ≡ false → old ≡ [] → ps ≡ qs ++ p ∷ []
    → Leads nodes table whole known (record { rest = items_of nodes old ++ tail_of more ends; out = out; room = room; outside = outside }) (frames_of nodes more ps) None
    → Leads nodes table whole known (record { rest = []; out = out; room = room; outside = outside }) (frame_of nodes more p ∷ frames_of nodes more qs) None
frames_at nodes more table whole known out ends old room outside ps qs p z e f l =
    let P : List Frame → Type 0 = λ k. Leads nodes table whole known (record { rest = []; out = out; room = room; outside = outside }) k None in
    let Q : Bool → Type 0 = λ k. Leads nodes table whole known (record { rest = tail_of more k; out = out; room = room; outside = outside }) (frames_of nodes more ps) None in
    subst P (ap (λ l. frames_of nodes more l) f ∙ frames_push nodes more qs p) (subst Q z (left_at nodes table whole known out (tail_of more ends) old [] room outside (frames_of nodes more ps) e l))

pub climb_on : (nodes : List Node) (more : List PpToken) (table : Table) (whole : ℕ → Outcome (List Item)) (known spelled : List (List ℕ)) (out : List Item) (ends : Bool) (old : List Marked) (room outside : ℕ) (ps qs : List Pending) (p : Pending) (gs : List Frame) (s : Stage) (x : Unit {0}) → ends ≡ false → old ≡ [] → ps ≡ qs ++ p ∷ []
    → Leads nodes table whole known (record { rest = items_of nodes old ++ tail_of more ends; out = out; room = room; outside = outside }) (frames_of nodes more ps) None
    → Steps table (items_of nodes p.level.out.items) (frames_of nodes more qs) (λ go. use_left table go known (with_argument (frame_of nodes more p) out) (lookup table p.name.token.spelling)) (Ok x) spelled s gs
    → Leads nodes table whole spelled s gs None
climb_on nodes more table whole known spelled out ends old room outside ps qs p gs s x z e f l h =
    leads_climb nodes table whole known spelled out room outside (frame_of nodes more p) (frames_of nodes more qs) gs s (frames_at nodes more table whole known out ends old room outside ps qs p z e f l) h

pub climb_stop : (nodes : List Node) (more : List PpToken) (table : Table) (whole : ℕ → Outcome (List Item)) (known spelled : List (List ℕ)) (out : List Item) (ends : Bool) (old : List Marked) (room outside : ℕ) (ps qs : List Pending) (p : Pending) (gs : List Frame) (s : Stage) (r : Refusal) → ends ≡ false → old ≡ [] → ps ≡ qs ++ p ∷ []
    → Leads nodes table whole known (record { rest = items_of nodes old ++ tail_of more ends; out = out; room = room; outside = outside }) (frames_of nodes more ps) None
    → Steps {X = Unit {0}} table (items_of nodes p.level.out.items) (frames_of nodes more qs) (λ go. use_left table go known (with_argument (frame_of nodes more p) out) (lookup table p.name.token.spelling)) (Err r) spelled s gs
    → (k : ℕ) × Stops r (whole k)
climb_stop nodes more table whole known spelled out ends old room outside ps qs p gs s r z e f l h =
    leads_climb_stop nodes table whole known out room outside (frame_of nodes more p) (frames_of nodes more qs) r (frames_at nodes more table whole known out ends old room outside ps qs p z e f l) h

-- a use that stops
pub into_stop : (nodes : List Node) (table : Table) (out : List Item) (fs : List Frame) (f : Expander → Outcome (List Item)) (r : Refusal) (known : List (List ℕ)) (s : Stage) (gs : List Frame) → ((go : Expander) → Stops r (f go)) → GoesInto nodes table out fs f (Err r) known s gs
into_stop nodes table out fs f r known s gs h = λ n. stops_bind r (f (expand table n)) (λ names more. climb table (suc n) names fs (out ++ more)) (h (expand table n))

-- one that waits
pub use_waits : (nodes : List Node) (table : Table) (names : List (List ℕ)) (rest left out : List Item) (room outside : ℕ) (fs : List Frame) (name : Marked) (g h : Gathered) (m : Macro) (ps : List Name)
    → lookup table name.token.spelling ≡ Some m → m.params ≡ Some ps → gather_in nodes table.words outside g rest ≡ gather_in nodes table.words outside h left
    → (n : ℕ) → Later (reached nodes table n names (record { rest = left; out = out; room = room; outside = outside }) fs (Some (record { name = name; gathered = h }))) (outcome_by table n out fs (λ go. begun_with nodes table go names (record { rest = rest; out = out; room = room; outside = outside }) (record { name = name; gathered = g }) m (Some ps)))
use_waits nodes table names rest left out room outside fs name g h m ps known has e n =
    let s : Stage = record { rest = left; out = out; room = room; outside = outside } in
    let b : Begun = record { name = name; gathered = h } in
    let F : Expander → Outcome (List Item) = λ go. begun_with nodes table go names (record { rest = rest; out = out; room = room; outside = outside }) (record { name = name; gathered = g }) m (Some ps) in
    let G : Expander → Outcome (List Item) = λ go. begun_left nodes table go names s b (lookup table name.token.spelling) in
    later_is (outcome_by table n out fs G) (outcome_by table n out fs F) (outcome_by table n out fs G)
    (front_same table n out fs F G (λ go. ap (λ k. replace_use table go names outside room (item_of nodes name) [] m ps k) e ∙ sym (left_is nodes table go names s b (lookup table name.token.spelling) m ps known has)))
    (later_same (outcome_by table n out fs G))

-- a use that has begun, from where it waits
pub into_leads : (nodes : List Node) (table : Table) (out : List Item) (fs : List Frame) (f : Expander → Outcome (List Item)) (b : Option Begun) (known : List (List ℕ)) (s : Stage) (gs : List Frame) → GoesInto nodes table out fs f (Ok b) known s gs → Leads nodes table (λ n. outcome_by table n out fs f) known s gs b
into_leads nodes table out fs f b known s gs h = λ n. (n, h n)
