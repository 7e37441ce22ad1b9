-- Steps of an expansion against its outcome.
use Rattle.std.proofs.Common.{◌≡◌, ◌≢◌, ℕ, zero, suc, ◌+◌, ◌-◌, List, [], ◌∷◌, ◌++◌, length, drop, refl, sym, ap, ◌∙◌, subst, arith, append_assoc, Bool, true, false, Option, Some, None, Result, Ok, Err}
use Rattle.std.specs.Prelude.{if◌then◌else◌, nat_lt, slice_get}
use Rattle.std.proofs.lemmas.List.{append-nil, length_push}
use Rattle.c65_base.specs.declared.names.Name.{Name}
use Rattle.c65_base.specs.declared.refusal.Refusal.{Refusal}
use Rattle.c65_base.specs.declared.refusal.Refusal.TheVariants as refusals
use Rattle.c65_base.specs.declared.refusal.Size.TheVariants as sizes
use Rattle.c65_base.specs.Answers.{large}
use Rattle.c65_lex.specs.declared.token.PpToken.{PpToken}
use Rattle.c65_macro.specs.declared.item.Macro.{Macro}
use Rattle.c65_macro.specs.declared.sets.Node.{Node}
use Rattle.c65_macro.specs.declared.state.Begun.{Begun}
use Rattle.c65_macro.specs.Table.{Table, lookup, is_line_end}
use Rattle.c65_macro.specs.Items.{Item, Outcome, unfinished, faulty, done, ◌>>=◌, count, put_count}
use Rattle.c65_macro.specs.Expand.{Expander, pass, keep, put_before, wanted, each, finish, in_front, macro_of, expand}
use Rattle.c65_macro.specs.Answered.{Stops}
use Rattle.c65_macro.specs.Machine.{Stage, Frame, Later, with_argument, use_with, use_left, below, climb, outcome, outcome_by, reached, Steps, Leads, Comes}
use Rattle.c65_macro.proofs.Fuel.{Further, later_same, later_trans, later_bind, later_climb, later_use_with, one_more}
use Rattle.c65_macro.proofs.Seen.{stops_bind, stops_same, bind_assoc}

pub later_is : {A : Type 0} (a b c : Outcome A) → b ≡ c → Later a c → Later a b
later_is {A} a b c e h = let P : Outcome A → Type 0 = λ z. Later a z in subst P (sym e) h

pub later_from : {A : Type 0} (a b c : Outcome A) → a ≡ b → Later b c → Later a c
later_from {A} a b c e h = let P : Outcome A → Type 0 = λ z. Later z c in subst P (sym e) h

pub stops_later : {A : Type 0} (e : Refusal) (a b : Outcome A) → Stops e a → Later a b → Stops e b
stops_later refusals.OutOfMemory a b s l = tt
stops_later (refusals.At code pos) a b s l = rw s at l
stops_later (refusals.TooLarge limit value) a b s l = rw s at l
stops_later _ a b s l = absurd s

pub bind_ext : {A B : Type 0} (a : Outcome A) (f g : List (List ℕ) → A → Outcome B) → ((names : List (List ℕ)) (x : A) → f names x ≡ g names x) → (a >>= f) ≡ (a >>= g)
bind_ext unfinished f g h = refl
bind_ext (faulty e) f g h = refl
bind_ext (done names x) f g h = h names x

-- equal fronts make equal steps
pub steps_front : {X : Type 0} (table : Table) (out : List Item) (fs : List Frame) (f g : Expander → Outcome (List Item)) (r : Result X Refusal) (names : List (List ℕ)) (s : Stage) (gs : List Frame)
    → ((go : Expander) → f go ≡ g go) → Steps table out fs g r names s gs → Steps table out fs f r names s gs
steps_front table out fs f g (Ok x) names s gs e h = λ n. later_is (outcome table n names s gs) (outcome_by table n out fs f) (outcome_by table n out fs g) (ap (λ z. z >>= λ names more. climb table (suc n) names fs (out ++ more)) (e (expand table n))) (h n)
steps_front table out fs f g (Err r) names s gs e h = λ n. stops_same r (outcome_by table n out fs f) (outcome_by table n out fs g) (ap (λ z. z >>= λ names more. climb table (suc n) names fs (out ++ more)) (e (expand table n))) (h n)

-- what stops the front stops the step
pub steps_stop : (X : Type 0) (table : Table) (out : List Item) (fs : List Frame) (f : Expander → Outcome (List Item)) (r : Refusal) (names : List (List ℕ)) (s : Stage) (gs : List Frame)
    → ((go : Expander) → Stops r (f go)) → Steps {X = X} table out fs f (Err r) names s gs
steps_stop X table out fs f r names s gs h = λ n. stops_bind r (f (expand table n)) (λ names more. climb table (suc n) names fs (out ++ more)) (h (expand table n))

pass_leads : (table : Table) (n : ℕ) (names : List (List ℕ)) (outside room : ℕ) (out : List Item) (i : Item) (is : List Item) (fs : List Frame)
    → Later (outcome table n names (record { rest = is; out = out ++ i ∷ []; room = room; outside = outside }) fs) (outcome_by table n out fs (λ go. pass go names outside room i is))
pass_leads table n names outside room out i is fs =
    later_is _ _ (expand table n names outside room is >>= λ names o. climb table (suc n) names fs (out ++ i ∷ o))
    (bind_assoc (expand table n names outside room is) (λ names o. done names (i ∷ o)) (λ names more. climb table (suc n) names fs (out ++ more)))
    (later_bind (expand table n names outside room is) (expand table n names outside room is) _ _ (later_same (expand table n names outside room is))
    (λ names o. later_is (climb table n names fs ((out ++ i ∷ []) ++ o)) (climb table (suc n) names fs (out ++ i ∷ o)) (climb table (suc n) names fs ((out ++ i ∷ []) ++ o))
    (ap (λ l. climb table (suc n) names fs l) (sym (append_assoc out (i ∷ []) o)))
    (later_climb table n names fs ((out ++ i ∷ []) ++ o))))

keep_end : (go : Expander) (names : List (List ℕ)) (outside room : ℕ) (i : Item) (is : List Item) → is_line_end i.token ≡ true → keep go names outside room i is ≡ pass go names outside room i is
keep_end go names outside zero i is h = ap (λ (b : Bool). if b then pass go names outside zero i is else faulty (large sizes.Tokens 500001)) h
keep_end go names outside (suc room) i is h = ap (λ (b : Bool). if b then pass go names outside (suc room) i is else pass go names outside room i is) h

keep_token : (go : Expander) (names : List (List ℕ)) (outside room : ℕ) (i : Item) (is : List Item) → is_line_end i.token ≡ false → room ≢ 0 → keep go names outside room i is ≡ pass go names outside (room - 1) i is
keep_token go names outside zero i is h ne = absurd (ne refl)
keep_token go names outside (suc room) i is h ne =
    let e : room ≡ suc room - 1 = omega arith in
    ap (λ (b : Bool). if b then pass go names outside (suc room) i is else pass go names outside room i is) h ∙ ap (λ (r : ℕ). pass go names outside r i is) e

keep_full : (go : Expander) (names : List (List ℕ)) (outside room : ℕ) (i : Item) (is : List Item) → is_line_end i.token ≡ false → room ≡ 0 → keep go names outside room i is ≡ faulty (large sizes.Tokens 500001)
keep_full go names outside zero i is h e = ap (λ (b : Bool). if b then pass go names outside zero i is else faulty (large sizes.Tokens 500001)) h
keep_full go names outside (suc room) i is h e = absurd (let f : suc room ≡ 0 = e in omega arith)

-- a token that stays
pub kept_end : (table : Table) (n : ℕ) (names : List (List ℕ)) (outside room : ℕ) (out : List Item) (i : Item) (is : List Item) (fs : List Frame) → is_line_end i.token ≡ true
    → Later (outcome table n names (record { rest = is; out = out ++ i ∷ []; room = room; outside = outside }) fs) (outcome_by table n out fs (λ go. keep go names outside room i is))
kept_end table n names outside room out i is fs h =
    later_is _ (outcome_by table n out fs (λ go. keep go names outside room i is)) (outcome_by table n out fs (λ go. pass go names outside room i is))
    (ap (λ z. z >>= λ names more. climb table (suc n) names fs (out ++ more)) (keep_end (expand table n) names outside room i is h))
    (pass_leads table n names outside room out i is fs)

pub kept_token : (table : Table) (n : ℕ) (names : List (List ℕ)) (outside room : ℕ) (out : List Item) (i : Item) (is : List Item) (fs : List Frame) → is_line_end i.token ≡ false → room ≢ 0
    → Later (outcome table n names (record { rest = is; out = out ++ i ∷ []; room = room - 1; outside = outside }) fs) (outcome_by table n out fs (λ go. keep go names outside room i is))
kept_token table n names outside room out i is fs h ne =
    later_is _ (outcome_by table n out fs (λ go. keep go names outside room i is)) (outcome_by table n out fs (λ go. pass go names outside (room - 1) i is))
    (ap (λ z. z >>= λ names more. climb table (suc n) names fs (out ++ more)) (keep_token (expand table n) names outside room i is h ne))
    (pass_leads table n names outside (room - 1) out i is fs)

pub kept_full : (table : Table) (n : ℕ) (names : List (List ℕ)) (outside room : ℕ) (out : List Item) (i : Item) (is : List Item) (fs : List Frame) → is_line_end i.token ≡ false → room ≡ 0
    → outcome_by table n out fs (λ go. keep go names outside room i is) ≡ faulty (large sizes.Tokens 500001)
kept_full table n names outside room out i is fs h e = ap (λ z. z >>= λ names more. climb table (suc n) names fs (out ++ more)) (keep_full (expand table n) names outside room i is h e)

-- a replacement that is put before the rest
pub put_fits : (table : Table) (n : ℕ) (names : List (List ℕ)) (outside room : ℕ) (out new is : List Item) (fs : List Frame) → nat_lt 500000 (outside + count new + put_count is) ≡ false
    → Later (outcome table n names (record { rest = new ++ is; out = out; room = room; outside = outside }) fs) (outcome_by table n out fs (λ go. put_before go names outside room new is))
put_fits table n names outside room out new is fs h =
    later_is _ (outcome_by table n out fs (λ go. put_before go names outside room new is)) (outcome_by table n out fs (λ go. go names outside room (new ++ is)))
    (ap (λ (b : Bool). (if b then faulty (large sizes.Tokens 500001) else expand table n names outside room (new ++ is)) >>= λ names more. climb table (suc n) names fs (out ++ more)) h)
    (later_bind (expand table n names outside room (new ++ is)) (expand table n names outside room (new ++ is)) _ _ (later_same (expand table n names outside room (new ++ is))) (λ names more. later_climb table n names fs (out ++ more)))

pub put_full : (table : Table) (n : ℕ) (names : List (List ℕ)) (outside room : ℕ) (out new is : List Item) (fs : List Frame) → nat_lt 500000 (outside + count new + put_count is) ≡ true
    → outcome_by table n out fs (λ go. put_before go names outside room new is) ≡ faulty (large sizes.Tokens 500001)
put_full table n names outside room out new is fs h = ap (λ (b : Bool). (if b then faulty (large sizes.Tokens 500001) else expand table n names outside room (new ++ is)) >>= λ names more. climb table (suc n) names fs (out ++ more)) h

drop_some : {A : Type 0} (xs : List A) (k : ℕ) (x : A) → slice_get xs k ≡ Some x → drop k xs ≡ x ∷ drop (suc k) xs
drop_some [] k x h = absurd cc
drop_some (y ∷ xs) zero x h = ap (λ z. z ∷ xs) (let e : y ≡ x = cc in e)
drop_some (y ∷ xs) (suc k) x h = drop_some xs k x h

drop_none : {A : Type 0} (xs : List A) (k : ℕ) → slice_get xs k ≡ None → drop k xs ≡ []
drop_none [] zero h = refl
drop_none [] (suc k) h = refl
drop_none (y ∷ xs) zero h = absurd cc
drop_none (y ∷ xs) (suc k) h = drop_none xs k h

below_more : (table : Table) (n : ℕ) → Further (below table n) (expand table n)
below_more table zero names outside room is = tt
below_more table (suc n) names outside room is = one_more table n names outside room is

-- what is left of a use, once one more argument is fully replaced
one_argument : (table : Table) (go : Expander) (names : List (List ℕ)) (u : Frame) (m : Macro) (ps : List Name) (full : List Item)
    → use_with table go names (with_argument u full) m (Some ps) ≡ (each table (λ names arg. go names u.inside 500000 arg) m.body names (drop (suc (length u.full)) ps) (drop (suc (length u.full)) u.raw) >>= λ names fulls. finish table go names u.stage.outside u.stage.room u.name u.close u.stage.rest m ps u.raw (u.full ++ full ∷ fulls))
one_argument table go names u m ps full =
    let l : length (u.full ++ full ∷ []) ≡ suc (length u.full) = length_push u.full full ∙ omega arith in
    let f : (names : List (List ℕ)) (fulls : List (List Item)) → finish table go names u.stage.outside u.stage.room u.name u.close u.stage.rest m ps u.raw ((u.full ++ full ∷ []) ++ fulls) ≡ finish table go names u.stage.outside u.stage.room u.name u.close u.stage.rest m ps u.raw (u.full ++ full ∷ fulls) =
    λ names fulls. ap (λ l. finish table go names u.stage.outside u.stage.room u.name u.close u.stage.rest m ps u.raw l) (append_assoc u.full (full ∷ []) fulls) in
    ap (λ (k : ℕ). each table (λ names arg. go names u.inside 500000 arg) m.body names (drop k ps) (drop k u.raw) >>= λ names fulls. finish table go names u.stage.outside u.stage.room u.name u.close u.stage.rest m ps u.raw ((u.full ++ full ∷ []) ++ fulls)) l
    ∙ bind_ext (each table (λ names arg. go names u.inside 500000 arg) m.body names (drop (suc (length u.full)) ps) (drop (suc (length u.full)) u.raw)) _ _ f

-- the next argument of a use
pub next_argument : (table : Table) (n : ℕ) (names : List (List ℕ)) (u : Frame) (m : Macro) (ps : List Name) (p : Name) (a : List Item) (fs : List Frame)
    → slice_get ps (length u.full) ≡ Some p → slice_get u.raw (length u.full) ≡ Some a → lookup table u.name.token.spelling ≡ Some m → m.params ≡ Some ps
    → Later (outcome table n names (record { rest = wanted table m.body p a; out = []; room = 500000; outside = u.inside }) (u ∷ fs)) (outcome_by table n u.stage.out fs (λ go. use_with table go names u m (Some ps)))
next_argument table n names u m ps p a fs hp ha hm hs =
    let k = length u.full in
    let go : Expander = expand table n in
    let inner : List (List ℕ) → List Item → Outcome (List Item) = λ names arg. go names u.inside 500000 arg in
    let C : List (List ℕ) → List Item → Outcome (List Item) = λ names more. climb table (suc n) names fs (u.stage.out ++ more) in
    let F : List (List ℕ) → List (List Item) → Outcome (List Item) = λ names fulls. finish table go names u.stage.outside u.stage.room u.name u.close u.stage.rest m ps u.raw (u.full ++ fulls) in
    let X : Outcome (List Item) = inner names (wanted table m.body p a) in
    let E : List (List ℕ) → Outcome (List (List Item)) = λ names. each table inner m.body names (drop (suc k) ps) (drop (suc k) u.raw) in
    let G : List (List ℕ) → List Item → Outcome (List (List Item)) = λ names full. E names >>= λ names fulls. done names (full ∷ fulls) in
    let e1 : each table inner m.body names (drop k ps) (drop k u.raw) ≡ (X >>= G) = ap (λ l. each table inner m.body names l (drop k u.raw)) (drop_some ps k p hp) ∙ ap (λ l. each table inner m.body names (p ∷ drop (suc k) ps) l) (drop_some u.raw k a ha) in
    let e2 : ((each table inner m.body names (drop k ps) (drop k u.raw) >>= F) >>= C) ≡ (X >>= λ names full. (G names full >>= F) >>= C) =
    ap (λ z. (z >>= F) >>= C) e1 ∙ ap (λ z. z >>= C) (bind_assoc X G F) ∙ bind_assoc X (λ names full. G names full >>= F) C in
    let inside : (names : List (List ℕ)) (full : List Item) → Later (climb table n names (u ∷ fs) full) ((G names full >>= F) >>= C) = λ names full.
    let e3 : (G names full >>= F) ≡ use_with table go names (with_argument u full) m (Some ps) = bind_assoc (E names) (λ names fulls. done names (full ∷ fulls)) F ∙ sym (one_argument table go names u m ps full) in
    let e4 : use_left table (below table n) names (with_argument u full) (lookup table u.name.token.spelling) ≡ use_with table (below table n) names (with_argument u full) m (Some ps) =
    ap (λ o. use_left table (below table n) names (with_argument u full) o) hm ∙ ap (λ o. use_with table (below table n) names (with_argument u full) m o) hs in
    later_is _ _ (use_with table go names (with_argument u full) m (Some ps) >>= C) (ap (λ z. z >>= C) e3)
    (later_from _ (use_with table (below table n) names (with_argument u full) m (Some ps) >>= λ names more. climb table n names fs (u.stage.out ++ more)) _ (ap (λ z. z >>= λ names more. climb table n names fs (u.stage.out ++ more)) e4)
    (later_bind (use_with table (below table n) names (with_argument u full) m (Some ps)) (use_with table go names (with_argument u full) m (Some ps)) _ _
    (later_use_with table (below table n) go names (with_argument u full) m (Some ps) (below_more table n))
    (λ names more. later_climb table n names fs (u.stage.out ++ more)))) in
    later_is _ _ (X >>= λ names full. (G names full >>= F) >>= C) e2
    (later_bind X X _ _ (later_same X) inside)

each_none : (table : Table) (go : List (List ℕ) → List Item → Outcome (List Item)) (body : List PpToken) (names : List (List ℕ)) (ps : List Name) → each table go body names ps [] ≡ done names []
each_none table go body names [] = refl
each_none table go body names (p ∷ ps) = refl

-- all arguments are done
pub all_params : (table : Table) (go : Expander) (names : List (List ℕ)) (u : Frame) (m : Macro) (ps : List Name) → slice_get ps (length u.full) ≡ None → use_with table go names u m (Some ps) ≡ finish table go names u.stage.outside u.stage.room u.name u.close u.stage.rest m ps u.raw u.full
all_params table go names u m ps h =
    ap (λ l. each table (λ names arg. go names u.inside 500000 arg) m.body names l (drop (length u.full) u.raw) >>= λ names fulls. finish table go names u.stage.outside u.stage.room u.name u.close u.stage.rest m ps u.raw (u.full ++ fulls)) (drop_none ps (length u.full) h)
    ∙ ap (λ l. finish table go names u.stage.outside u.stage.room u.name u.close u.stage.rest m ps u.raw l) (append-nil u.full)

pub all_arguments : (table : Table) (go : Expander) (names : List (List ℕ)) (u : Frame) (m : Macro) (ps : List Name) → slice_get u.raw (length u.full) ≡ None → use_with table go names u m (Some ps) ≡ finish table go names u.stage.outside u.stage.room u.name u.close u.stage.rest m ps u.raw u.full
all_arguments table go names u m ps h =
    let inner : List (List ℕ) → List Item → Outcome (List Item) = λ names arg. go names u.inside 500000 arg in
    let F : List (List ℕ) → List (List Item) → Outcome (List Item) = λ names fulls. finish table go names u.stage.outside u.stage.room u.name u.close u.stage.rest m ps u.raw (u.full ++ fulls) in
    ap (λ l. each table inner m.body names (drop (length u.full) ps) l >>= F) (drop_none u.raw (length u.full) h)
    ∙ ap (λ z. z >>= F) (each_none table inner m.body names (drop (length u.full) ps))
    ∙ ap (λ l. finish table go names u.stage.outside u.stage.room u.name u.close u.stage.rest m ps u.raw l) (append-nil u.full)

-- outcomes lead on by a step
pub leads_step : (nodes : List Node) (table : Table) (whole : ℕ → Outcome (List Item)) (known spelled : List (List ℕ)) (out : List Item) (i : Item) (is : List Item) (room outside : ℕ) (fs gs : List Frame) (s : Stage) (b : Option Begun)
    → Leads nodes table whole known (record { rest = i ∷ is; out = out; room = room; outside = outside }) fs None
    → ((n : ℕ) → Later (reached nodes table n spelled s gs b) (outcome_by table n out fs (λ go. in_front table go known outside room i is (macro_of table i.token))))
    → Leads nodes table whole spelled s gs b
leads_step nodes table whole known spelled out i is room outside fs gs s b l h n =
    let r = l (suc n) in
    (r.0, later_trans (reached nodes table n spelled s gs b) (outcome_by table n out fs (λ go. in_front table go known outside room i is (macro_of table i.token))) (whole r.0) (h n) r.1)

pub leads_stop : (nodes : List Node) (table : Table) (whole : ℕ → Outcome (List Item)) (known : List (List ℕ)) (out : List Item) (i : Item) (is : List Item) (room outside : ℕ) (fs : List Frame) (e : Refusal)
    → Leads nodes table whole known (record { rest = i ∷ is; out = out; room = room; outside = outside }) fs None
    → ((n : ℕ) → Stops e (outcome_by table n out fs (λ go. in_front table go known outside room i is (macro_of table i.token))))
    → (k : ℕ) × Stops e (whole k)
leads_stop nodes table whole known out i is room outside fs e l h =
    let r = l 1 in
    (r.0, stops_later e (outcome_by table 0 out fs (λ go. in_front table go known outside room i is (macro_of table i.token))) (whole r.0) (h 0) r.1)

pub leads_climb : (nodes : List Node) (table : Table) (whole : ℕ → Outcome (List Item)) (known spelled : List (List ℕ)) (out : List Item) (room outside : ℕ) (u : Frame) (fs gs : List Frame) (s : Stage)
    → Leads nodes table whole known (record { rest = []; out = out; room = room; outside = outside }) (u ∷ fs) None
    → ((n : ℕ) → Later (outcome table n spelled s gs) (outcome_by table n u.stage.out fs (λ go. use_left table go known (with_argument u out) (lookup table u.name.token.spelling))))
    → Leads nodes table whole spelled s gs None
leads_climb nodes table whole known spelled out room outside u fs gs s l h n =
    let r = l (suc n) in
    let X : List Item → Outcome (List Item) = λ o. use_left table (expand table n) known (with_argument u o) (lookup table u.name.token.spelling) >>= λ names more. climb table (suc n) names fs (u.stage.out ++ more) in
    let e : X (out ++ []) ≡ X out = ap X (append-nil out) in
    (r.0, later_trans (outcome table n spelled s gs) (X out) (whole r.0) (h n) (later_from (X out) (X (out ++ [])) (whole r.0) (sym e) r.1))

pub leads_climb_stop : (nodes : List Node) (table : Table) (whole : ℕ → Outcome (List Item)) (known : List (List ℕ)) (out : List Item) (room outside : ℕ) (u : Frame) (fs : List Frame) (e : Refusal)
    → Leads nodes table whole known (record { rest = []; out = out; room = room; outside = outside }) (u ∷ fs) None
    → ((n : ℕ) → Stops e (outcome_by table n u.stage.out fs (λ go. use_left table go known (with_argument u out) (lookup table u.name.token.spelling))))
    → (k : ℕ) × Stops e (whole k)
leads_climb_stop nodes table whole known out room outside u fs e l h =
    let r = l 1 in
    let X : List Item → Outcome (List Item) = λ o. use_left table (expand table 0) known (with_argument u o) (lookup table u.name.token.spelling) >>= λ names more. climb table 1 names fs (u.stage.out ++ more) in
    (r.0, stops_later e (X (out ++ [])) (whole r.0) (stops_same e (X (out ++ [])) (X out) (ap X (append-nil out)) (h 0)) r.1)

-- the beginning
pub leads_start : (nodes : List Node) (table : Table) (names : List (List ℕ)) (s : Stage) (fs : List Frame) → Leads nodes table (λ n. outcome table n names s fs) names s fs None
leads_start nodes table names s fs n = (n, later_same (outcome table n names s fs))

-- what leads to a place from which it goes on leads on
pub leads_on : (nodes : List Node) (table : Table) (whole : ℕ → Outcome (List Item)) (known : List (List ℕ)) (s : Stage) (fs : List Frame) (r : Result (Option Begun) Refusal) (spelled : List (List ℕ)) (t : Stage) (gs : List Frame)
    → Leads nodes table whole known s fs None → Comes nodes table (λ n. outcome table n known s fs) r spelled t gs → Comes nodes table whole r spelled t gs
leads_on nodes table whole known s fs (Ok b) spelled t gs l h = λ n.
    let a = h n in
    let c = l a.0 in
    (c.0, later_trans (reached nodes table n spelled t gs b) (outcome table a.0 known s fs) (whole c.0) a.1 c.1)
leads_on nodes table whole known s fs (Err e) spelled t gs l h =
    let c = l h.0 in
    (c.0, stops_later e (outcome table h.0 known s fs) (whole c.0) h.1 c.1)
