-- An expansion that is fed line by line against that of the whole list.
use Rattle.std.proofs.Common.{◌≡◌, ℕ, List, [], ◌++◌, refl, sym, ap, ◌∙◌, subst, append_assoc, Bool, true, false, Option, Some, None, Result, Ok, Err}
use Rattle.std.specs.Prelude.{is_some, IfErr, OnOk}
use Rattle.std.proofs.lemmas.List.{append-nil, map-append}
use Rattle.c65_base.specs.declared.code.Code.TheVariants as codes
use Rattle.c65_base.specs.declared.refusal.Pos.{Pos}
use Rattle.c65_base.specs.declared.refusal.Refusal.{Refusal}
use Rattle.c65_base.specs.declared.refusal.Refusal.TheVariants as refusals
use Rattle.c65_base.specs.Answers.{Fault, at, large}
use Rattle.c65_lex.specs.declared.token.PpToken.{PpToken}
use Rattle.c65_macro.specs.declared.sets.Node.{Node}
use Rattle.c65_macro.specs.declared.marked.Marked.{Marked}
use Rattle.c65_macro.specs.declared.state.Begun.{Begun}
use Rattle.c65_macro.specs.declared.state.State.{State}
use Rattle.c65_macro.specs.declared.feeding.Expander.{Expander}
use Rattle.c65_macro.specs.Table.{Table}
use Rattle.c65_macro.specs.Items.{Item, Outcome, unfinished, faulty, done, ◌>>=◌, items, tokens}
use Rattle.c65_macro.specs.Sets.{Extends}
use Rattle.c65_macro.specs.Refusals.{StopsExpansion, StopsFeeding}
use Rattle.c65_macro.specs.Answered.{Stops}
use Rattle.c65_macro.specs.Views.{items_of, tokens_of}
use Rattle.c65_macro.specs.Expand
use Rattle.c65_macro.specs.Machine.{Stage, Frame, Later, Comes, reached, stage_of, frames_of, tail_of}
use Rattle.c65_macro.specs.Feeding.{open_place, IsNew, stage_with, outcome_with, onward, Refuses, Feeds, Rejects, Ends, EndsIn, Adds}
use Rattle.c65_macro.proofs.HideSets.{extends_same}
use Rattle.c65_macro.proofs.Seen.{bind_done, stops_same, tokens_items}
use Rattle.c65_macro.proofs.Stepping.{later_is, later_from}

items_append : (ts us : List PpToken) → items (ts ++ us) ≡ items ts ++ items us
items_append ts us = map-append _ ts us

-- what is held with a line more
pub record IsHeld (old : Expander) (line : List PpToken) (new : Expander) : Type 0 where
  pub held : (nodes : List Node) → items_of nodes new.held.items ≡ items_of nodes old.held.items ++ items line
  pub room : new.room ≡ old.room
  pub sets : new.sets ≡ old.sets
  pub begun : new.begun ≡ old.begun
  pub fault : new.fault ≡ old.fault

onward_held : (nodes : List Node) (table : Table) (n : ℕ) (names : List (List ℕ)) (old : Expander) (line : List PpToken) (new : Expander) (more : List PpToken) → IsHeld old line new → onward nodes table n names new more ≡ onward nodes table n names old (line ++ more)
onward_held nodes table n names old line new more h =
    let rest : items_of nodes new.held.items ++ items more ≡ items_of nodes old.held.items ++ items (line ++ more) =
    ap (λ l. l ++ items more) (h.held nodes) ∙ append_assoc (items_of nodes old.held.items) (items line) (items more) ∙ ap (λ l. items_of nodes old.held.items ++ l) (sym (items_append line more)) in
    let stage : stage_with nodes new more ≡ stage_with nodes old (line ++ more) =
    ap (λ l. record { rest = l; out = []; room = new.room; outside = 0 }) rest
    ∙ ap (λ (r : ℕ). record { rest = items_of nodes old.held.items ++ items (line ++ more); out = []; room = r; outside = 0 }) h.room in
    let by : (s : Stage) (b : Option Begun) (f : Option Pos) → Outcome (List Item) = λ s b f. elim f [ None ↦ reached nodes table n names s [] b | Some place ↦ faulty (at codes.OpenArguments place) ] in
    let a : (e : Expander) (ts : List PpToken) → onward nodes table n names e ts ≡ by (stage_with nodes e ts) e.begun e.fault = λ e ts. cases e ts e.fault in
    a new more
    ∙ ap (λ (s : Stage). by s new.begun new.fault) stage
    ∙ ap (λ (b : Option Begun). by (stage_with nodes old (line ++ more)) b new.fault) h.begun
    ∙ ap (λ (f : Option Pos). by (stage_with nodes old (line ++ more)) old.begun f) h.fault
    ∙ sym (a old (line ++ more))
  where
    cases : (e : Expander) (ts : List PpToken) (f : Option Pos) → outcome_with nodes table n names e ts f ≡ elim f [ None ↦ reached nodes table n names (stage_with nodes e ts) [] e.begun | Some place ↦ faulty (at codes.OpenArguments place) ]
    cases e ts None = refl
    cases e ts (Some place) = refl

-- a line that is held and no more
pub fed_held : (table : Table) (names : List (List ℕ)) (old : Expander) (line : List PpToken) (new : Expander) → IsHeld old line new → Feeds table names old line [] names new
fed_held table names old line new h =
    record {
      sets = let P : List Node → Type 0 = λ s. Extends old.sets s in subst P (sym h.sets) (extends_same old.sets);
      gives = λ nodes x more last end g. (g.0, g.1, sym (onward_held nodes table g.0 names old line new more h) ∙ g.2, g.3);
      faults = λ nodes x more fault g. (g.0, sym (onward_held nodes table g.0 names old line new more h) ∙ g.1);
    }

-- a line that is held and then expanded
pub fed_after : (table : Table) (names known : List (List ℕ)) (old mid new : Expander) (line came : List PpToken) → IsHeld old line mid → Feeds table names mid [] came known new → Feeds table names old line came known new
fed_after table names known old mid new line came h f =
    record {
      sets = let P : List Node → Type 0 = λ s. Extends s new.sets in subst P h.sets f.sets;
      gives = λ nodes x more last end g.
          let a = f.gives nodes x more last end g in
          (a.0, a.1, sym (onward_held nodes table a.0 names old line mid more h) ∙ a.2, a.3);
      faults = λ nodes x more fault g.
          let a = f.faults nodes x more fault g in
          (a.0, sym (onward_held nodes table a.0 names old line mid more h) ∙ a.1);
    }

refuses_held : (nodes : List Node) (table : Table) (names : List (List ℕ)) (old mid : Expander) (line more : List PpToken) (e : Refusal) → IsHeld old line mid → Refuses e nodes table names mid more → Refuses e nodes table names old (line ++ more)
refuses_held nodes table names old mid line more refusals.OutOfMemory h r = tt
refuses_held nodes table names old mid line more (refusals.At code pos) h r = (r.0, sym (onward_held nodes table r.0 names old line mid more h) ∙ r.1)
refuses_held nodes table names old mid line more (refusals.TooLarge limit value) h r = (r.0, sym (onward_held nodes table r.0 names old line mid more h) ∙ r.1)
refuses_held nodes table names old mid line more _ h r = absurd r

pub rejected_after : (table : Table) (names : List (List ℕ)) (old mid : Expander) (line : List PpToken) (e : Refusal) → IsHeld old line mid → Rejects table names mid [] e → Rejects table names old line e
rejected_after table names old mid line e h r =
    (r.0, (let P : List Node → Type 0 = λ s. Extends s r.0 in subst P h.sets r.1), λ more. refuses_held r.0 table names old mid line more e h (r.2 more))

-- want of memory
pub rejected_memory : (table : Table) (names : List (List ℕ)) (old : Expander) (line : List PpToken) → Rejects table names old line refusals.OutOfMemory
rejected_memory table names old line = (old.sets, extends_same old.sets, λ more. tt)

-- behind a use that can not end nothing changes
pub fed_stopped : (table : Table) (names : List (List ℕ)) (e : Expander) (line : List PpToken) → is_some e.fault ≡ true → Feeds table names e line [] names e
fed_stopped table names e line h =
    record {
      sets = extends_same e.sets;
      gives = λ nodes x more last end g. (g.0, g.1, same nodes g.0 (line ++ more) more e.fault h ∙ g.2, g.3);
      faults = λ nodes x more fault g. (g.0, same nodes g.0 (line ++ more) more e.fault h ∙ g.1);
    }
  where
    same : (nodes : List Node) (n : ℕ) (ts us : List PpToken) (f : Option Pos) → is_some f ≡ true → outcome_with nodes table n names e ts f ≡ outcome_with nodes table n names e us f
    same nodes n ts us None k = absurd cc
    same nodes n ts us (Some place) k = refl

-- what came out goes before what is to come
reached_out : (nodes : List Node) (table : Table) (n : ℕ) (names : List (List ℕ)) (rest out : List Item) (room outside : ℕ) (b : Option Begun)
    → reached nodes table n names (record { rest = rest; out = out; room = room; outside = outside }) [] b
    ≡ (reached nodes table n names (record { rest = rest; out = []; room = room; outside = outside }) [] b >>= λ names more. done names (out ++ more))
reached_out nodes table n names rest out room outside None = twice (Expand.expand table n names outside room rest)
  where
    twice : (y : Outcome (List Item)) → (y >>= λ names more. done names (out ++ more)) ≡ ((y >>= λ names more. done names more) >>= λ names more. done names (out ++ more))
    twice unfinished = refl
    twice (faulty f) = refl
    twice (done names x) = refl
reached_out nodes table n names rest out room outside (Some b) = twice _
  where
    twice : (y : Outcome (List Item)) → (y >>= λ names more. done names (out ++ more)) ≡ ((y >>= λ names more. done names more) >>= λ names more. done names (out ++ more))
    twice unfinished = refl
    twice (faulty f) = refl
    twice (done names x) = refl

later_done : {A : Type 0} (a b : Outcome A) (names : List (List ℕ)) (x : A) → Later a b → a ≡ done names x → b ≡ done names x
later_done a b names x l e = rw e at l

later_faulty : {A : Type 0} (a b : Outcome A) (f : Fault) → Later a b → a ≡ faulty f → b ≡ faulty f
later_faulty a b f l e = rw e at l

-- a state from which more is given
abbrev pub Reaches : List Node → Table → List (List ℕ) → Expander → List PpToken → List Item → List (List ℕ) → Expander → Type 0
Reaches nodes table names old more out known new = (n : ℕ) → (k : ℕ) × Later (reached nodes table n known (record { rest = items_of nodes new.held.items ++ items more; out = out; room = new.room; outside = 0 }) [] new.begun) (onward nodes table k names old more)

pub fed_on : (table : Table) (names known : List (List ℕ)) (old new : Expander) (came : List Marked) → Extends old.sets new.sets → new.fault ≡ None
    → ((nodes : List Node) → Extends new.sets nodes → (more : List PpToken) → Reaches nodes table names old more (items_of nodes came) known new)
    → Feeds table names old [] (tokens_of came) known new
fed_on table names known old new came x none l =
    record {
      sets = x;
      gives = λ nodes y more last end g.
          let out = items_of nodes came in
          let r = l nodes y more g.0 in
          let e = out_of nodes more g.0 ∙ ap (λ z. z >>= λ names more. done names (out ++ more)) g.2 in
          (r.0, out ++ g.1, later_done _ (onward nodes table r.0 names old more) end (out ++ g.1) r.1 e, ap (λ l. tokens_of came ++ l) g.3 ∙ ap (λ l. l ++ tokens g.1) (sym (tokens_items nodes came)) ∙ sym (map-append (λ (i : Item). i.token) out g.1));
      faults = λ nodes y more fault g.
          let out = items_of nodes came in
          let r = l nodes y more g.0 in
          let e = out_of nodes more g.0 ∙ ap (λ z. z >>= λ names more. done names (out ++ more)) g.1 in
          (r.0, later_faulty _ (onward nodes table r.0 names old more) fault r.1 e);
    }
  where
    out_of : (nodes : List Node) (more : List PpToken) (n : ℕ) → reached nodes table n known (record { rest = items_of nodes new.held.items ++ items more; out = items_of nodes came; room = new.room; outside = 0 }) [] new.begun ≡ (onward nodes table n known new more >>= λ names more. done names (items_of nodes came ++ more))
    out_of nodes more n = reached_out nodes table n known (items_of nodes new.held.items ++ items more) (items_of nodes came) new.room 0 new.begun ∙ ap (λ (f : Option Pos). outcome_with nodes table n known new more f >>= λ names more. done names (items_of nodes came ++ more)) (sym none)

-- a use that can not end is told at the end
place_is : (e : Refusal) (place : Pos) → open_place e ≡ Some place → e ≡ refusals.At codes.OpenArguments place
place_is (refusals.At codes.OpenArguments pos) place h = let e : Some pos ≡ Some place = h in let f : pos ≡ place = cc in ap (λ (p : Pos). refusals.At codes.OpenArguments p) f
place_is (refusals.At _ pos) place h = absurd cc
place_is _ place h = absurd cc

-- its outcome, where the refusal is told later
pub fed_fault : (table : Table) (names known : List (List ℕ)) (old new : Expander) (e : Refusal) → Extends old.sets new.sets → new.fault ≡ open_place e → is_some (open_place e) ≡ true
    → ((nodes : List Node) → Extends new.sets nodes → (more : List PpToken) → (k : ℕ) × Stops e (onward nodes table k names old more))
    → Feeds table names old [] [] known new
fed_fault table names known old new e x f s l = by (open_place e) refl s
  where
    by : (o : Option Pos) → open_place e ≡ o → is_some o ≡ true → Feeds table names old [] [] known new
    by None h k = absurd cc
    by (Some place) h k =
        let g : new.fault ≡ Some place = f ∙ h in
        let stops : (nodes : List Node) (more : List PpToken) (n : ℕ) → onward nodes table n known new more ≡ faulty (at codes.OpenArguments place) = λ nodes more n. ap (λ (f : Option Pos). outcome_with nodes table n known new more f) g in
        record {
          sets = x;
          gives = λ nodes y more last end a. let z : faulty (at codes.OpenArguments place) ≡ done end a.1 = sym (stops nodes more a.0) ∙ a.2 in absurd cc;
          faults = λ nodes y more fault a.
              let z : faulty (at codes.OpenArguments place) ≡ faulty fault = sym (stops nodes more a.0) ∙ a.1 in
              let r = l nodes y more in
              let P : Refusal → Type 0 = λ d. Stops d (onward nodes table r.0 names old more) in
              (r.0, subst P (place_is e place h) r.1 ∙ z);
        }

-- what stops the outcome is its refusal
pub refuses_so : (nodes : List Node) (table : Table) (names : List (List ℕ)) (old : Expander) (more : List PpToken) (e : Refusal) → (k : ℕ) × Stops e (onward nodes table k names old more) → Refuses e nodes table names old more
refuses_so nodes table names old more refusals.OutOfMemory h = tt
refuses_so nodes table names old more (refusals.At code pos) h = h
refuses_so nodes table names old more (refusals.TooLarge limit value) h = h
refuses_so nodes table names old more _ h = absurd h.1

-- a refusal that is told before the end
pub stops_feeding : (e : Refusal) → StopsExpansion e → open_place e ≡ None → StopsFeeding e
stops_feeding refusals.OutOfMemory s h = tt
stops_feeding (refusals.At codes.MacroArguments pos) s h = tt
stops_feeding (refusals.At codes.BadPaste pos) s h = tt
stops_feeding (refusals.At codes.OpenArguments pos) s h = absurd cc
stops_feeding (refusals.At _ pos) s h = absurd s
stops_feeding (refusals.TooLarge limit value) s h = s
stops_feeding _ s h = absurd s

-- the end, where a use is open
pub ends_open : (table : Table) (names : List (List ℕ)) (old : Expander) (place : Pos) → old.fault ≡ Some place → EndsIn table names old (refusals.At codes.OpenArguments place)
ends_open table names old place h = (old.sets, extends_same old.sets, (0, ap (λ (f : Option Pos). outcome_with old.sets table 0 names old [] f) h))

-- all is expanded
pub ends_so : (nodes : List Node) (table : Table) (names known : List (List ℕ)) (old : Expander) (out : List Marked) (rest : List Marked) (ends : Bool) (room outside : ℕ) (fs : List Frame) (b : Option Begun) → Extends old.sets nodes → rest ≡ [] → fs ≡ [] → b ≡ None
    → ((n : ℕ) → (k : ℕ) × Later (reached nodes table n known (record { rest = items_of nodes rest ++ tail_of [] ends; out = items_of nodes out; room = room; outside = outside }) fs b) (onward nodes table k names old []))
    → Ends table names old (tokens_of out) known
ends_so nodes table names known old out rest ends room outside fs b x r f e l =
    let c = l 1 in
    let end : reached nodes table 1 known (record { rest = items_of nodes rest ++ tail_of [] ends; out = items_of nodes out; room = room; outside = outside }) fs b ≡ done known (items_of nodes out) =
    ap (λ l. reached nodes table 1 known (record { rest = items_of nodes l ++ tail_of [] ends; out = items_of nodes out; room = room; outside = outside }) fs b) r
    ∙ ap (λ l. reached nodes table 1 known (record { rest = l; out = items_of nodes out; room = room; outside = outside }) fs b) (nothing ends)
    ∙ ap (λ (l : List Frame). reached nodes table 1 known (record { rest = []; out = items_of nodes out; room = room; outside = outside }) l b) f
    ∙ ap (λ (o : Option Begun). reached nodes table 1 known (record { rest = []; out = items_of nodes out; room = room; outside = outside }) [] o) e
    ∙ ap (λ l. done known l) (append-nil (items_of nodes out)) in
    (nodes, x, (c.0, items_of nodes out, later_done _ (onward nodes table c.0 names old []) known (items_of nodes out) c.1 end, sym (tokens_items nodes out)))
  where
    nothing : (b : Bool) → tail_of [] b ≡ []
    nothing true = refl
    nothing false = refl

-- from the beginning
onward_new : (nodes : List Node) (table : Table) (n : ℕ) (names : List (List ℕ)) (e : Expander) (more : List PpToken) → IsNew e → onward nodes table n names e more ≡ Expand.expansion table n names more
onward_new nodes table n names e more h =
    ap (λ (f : Option Pos). outcome_with nodes table n names e more f) h.fault
    ∙ ap (λ (b : Option Begun). reached nodes table n names (stage_with nodes e more) [] b) h.begun
    ∙ ap (λ l. reached nodes table n names (record { rest = items_of nodes l ++ items more; out = []; room = e.room; outside = 0 }) [] None) h.held
    ∙ ap (λ (r : ℕ). reached nodes table n names (record { rest = items more; out = []; room = r; outside = 0 }) [] None) h.room
    ∙ bind_done (Expand.expansion table n names more)

pub whole_expands : (table : Table) (names known last : List (List ℕ)) (start : Expander) (line came out more : List PpToken) (new : Expander) → IsNew start → Feeds table names start line came known new → out ≡ came ++ more → Ends table known new more last → Expand.Expands table names line out last
whole_expands table names known last start line came out more new h f e g =
    let a = f.gives g.0 g.1 [] more last g.2 in
    (a.0, a.1, ap (λ l. Expand.expansion table a.0 names l) (sym (append-nil line)) ∙ sym (onward_new g.0 table a.0 names start (line ++ []) h) ∙ a.2, e ∙ a.3)

whole_refuses : (nodes : List Node) (table : Table) (names : List (List ℕ)) (start : Expander) (line : List PpToken) (e : Refusal) → IsNew start → Refuses e nodes table names start (line ++ []) → Expand.Refuses e table names line
whole_refuses nodes table names start line refusals.OutOfMemory h r = tt
whole_refuses nodes table names start line (refusals.At code pos) h r = (r.0, ap (λ l. Expand.expansion table r.0 names l) (sym (append-nil line)) ∙ sym (onward_new nodes table r.0 names start (line ++ []) h) ∙ r.1)
whole_refuses nodes table names start line (refusals.TooLarge limit value) h r = (r.0, ap (λ l. Expand.expansion table r.0 names l) (sym (append-nil line)) ∙ sym (onward_new nodes table r.0 names start (line ++ []) h) ∙ r.1)
whole_refuses nodes table names start line _ h r = absurd r

pub whole_rejected : (table : Table) (names : List (List ℕ)) (start : Expander) (line : List PpToken) (e : Refusal) → IsNew start → Rejects table names start line e → Expand.Refuses e table names line
whole_rejected table names start line e h r = whole_refuses r.0 table names start line e h (r.2 [])

refuses_fed : (nodes : List Node) (table : Table) (names known : List (List ℕ)) (start : Expander) (line came : List PpToken) (new : Expander) (e : Refusal) → Extends new.sets nodes → Feeds table names start line came known new → Refuses e nodes table known new [] → Refuses e nodes table names start (line ++ [])
refuses_fed nodes table names known start line came new refusals.OutOfMemory x f r = tt
refuses_fed nodes table names known start line came new (refusals.At code pos) x f r = f.faults nodes x [] (at code pos) r
refuses_fed nodes table names known start line came new (refusals.TooLarge limit value) x f r = f.faults nodes x [] (large limit value) r
refuses_fed nodes table names known start line came new _ x f r = absurd r

pub whole_ends : (table : Table) (names known : List (List ℕ)) (start : Expander) (line came : List PpToken) (new : Expander) (e : Refusal) → IsNew start → Feeds table names start line came known new → EndsIn table known new e → Expand.Refuses e table names line
whole_ends table names known start line came new e h f r = whole_refuses r.0 table names start line e h (refuses_fed r.0 table names known start line came new e r.1 f r.2)

-- the state in which what is held is expanded
pub record IsState (old : Expander) (ends : Bool) (s : State) (b : Option Begun) : Type 0 where
  pub stage : (nodes : List Node) (more : List PpToken) → stage_of nodes more s.level ≡ record { rest = items_of nodes old.held.items ++ tail_of more ends; out = []; room = old.room; outside = 0 }
  pub pending : s.pending.items ≡ []
  pub sets : s.sets ≡ old.sets
  pub begun : b ≡ old.begun
  pub fault : old.fault ≡ None

-- what the expansion from a state comes to
abbrev pub Reached : Table → List (List ℕ) → State → Option Begun → Result (Option Begun) Refusal → List (List ℕ) → State → Type 0
Reached table names s b r known t = (nodes : List Node) (more : List PpToken) → Extends t.sets nodes → Comes nodes table (λ n. reached nodes table n names (stage_of nodes more s.level) (frames_of nodes more s.pending.items) b) r known (stage_of nodes more t.level) (frames_of nodes more t.pending.items)

from_state : (nodes : List Node) (table : Table) (n : ℕ) (names : List (List ℕ)) (old : Expander) (s : State) (b : Option Begun) (more : List PpToken) → IsState old true s b
    → reached nodes table n names (stage_of nodes more s.level) (frames_of nodes more s.pending.items) b ≡ onward nodes table n names old more
from_state nodes table n names old s b more h =
    ap (λ (z : Stage). reached nodes table n names z (frames_of nodes more s.pending.items) b) (h.stage nodes more)
    ∙ ap (λ l. reached nodes table n names (stage_with nodes old more) (frames_of nodes more l) b) h.pending
    ∙ ap (λ (o : Option Begun). reached nodes table n names (stage_with nodes old more) [] o) h.begun
    ∙ sym (ap (λ (f : Option Pos). outcome_with nodes table n names old more f) h.fault)

from_end : (nodes : List Node) (table : Table) (n : ℕ) (names : List (List ℕ)) (old : Expander) (s : State) (b : Option Begun) → IsState old false s b
    → reached nodes table n names (stage_of nodes [] s.level) (frames_of nodes [] s.pending.items) b ≡ onward nodes table n names old []
from_end nodes table n names old s b h =
    ap (λ (z : Stage). reached nodes table n names z (frames_of nodes [] s.pending.items) b) (h.stage nodes [])
    ∙ ap (λ l. reached nodes table n names (stage_with nodes old []) (frames_of nodes [] l) b) h.pending
    ∙ ap (λ (o : Option Begun). reached nodes table n names (stage_with nodes old []) [] o) h.begun
    ∙ sym (ap (λ (f : Option Pos). outcome_with nodes table n names old [] f) h.fault)

-- what is held then
pub record IsKept (t : State) (b : Option Begun) (new : Expander) : Type 0 where
  pub held : new.held.items ≡ t.level.rest
  pub room : new.room ≡ t.level.room
  pub sets : new.sets ≡ t.sets
  pub begun : new.begun ≡ b
  pub fault : new.fault ≡ None
  pub pending : t.pending.items ≡ []
  pub outside : t.level.outside ≡ 0
  pub open_ : t.level.is_open ≡ true

to_kept : (nodes : List Node) (table : Table) (n : ℕ) (known : List (List ℕ)) (t : State) (b : Option Begun) (new : Expander) (more : List PpToken) → IsKept t b new
    → reached nodes table n known (stage_of nodes more t.level) (frames_of nodes more t.pending.items) b ≡ reached nodes table n known (record { rest = items_of nodes new.held.items ++ items more; out = items_of nodes t.level.out.items; room = new.room; outside = 0 }) [] new.begun
to_kept nodes table n known t b new more h =
    let out = items_of nodes t.level.out.items in
    ap (λ l. reached nodes table n known (stage_of nodes more t.level) (frames_of nodes more l) b) h.pending
    ∙ ap (λ (x : Bool). reached nodes table n known (record { rest = items_of nodes t.level.rest ++ tail_of more x; out = out; room = t.level.room; outside = t.level.outside }) [] b) h.open_
    ∙ ap (λ (o : ℕ). reached nodes table n known (record { rest = items_of nodes t.level.rest ++ items more; out = out; room = t.level.room; outside = o }) [] b) h.outside
    ∙ ap (λ l. reached nodes table n known (record { rest = items_of nodes l ++ items more; out = out; room = t.level.room; outside = 0 }) [] b) (sym h.held)
    ∙ ap (λ (r : ℕ). reached nodes table n known (record { rest = items_of nodes new.held.items ++ items more; out = out; room = r; outside = 0 }) [] b) (sym h.room)
    ∙ ap (λ (o : Option Begun). reached nodes table n known (record { rest = items_of nodes new.held.items ++ items more; out = out; room = new.room; outside = 0 }) [] o) (sym h.begun)

pub kept_feeds : (table : Table) (names known : List (List ℕ)) (old new : Expander) (s t : State) (b c : Option Begun) → IsState old true s b → Extends s.sets t.sets → Reached table names s b (Ok c) known t → IsKept t c new → Feeds table names old [] (tokens_of t.level.out.items) known new
kept_feeds table names known old new s t b c h x l k =
    fed_on table names known old new t.level.out.items (let P : List Node → Type 0 = λ a. Extends a new.sets in let Q : List Node → Type 0 = λ a. Extends s.sets a in subst P h.sets (subst Q (sym k.sets) x)) k.fault
    (λ nodes y more n.
    let P : List Node → Type 0 = λ a. Extends a nodes in
    let r = l nodes more (subst P k.sets y) n in
    (r.0, later_from _ _ (onward nodes table r.0 names old more) (sym (to_kept nodes table n known t c new more k)) (later_is _ (onward nodes table r.0 names old more) _ (sym (from_state nodes table r.0 names old s b more h)) r.1)))

pub fault_feeds : (table : Table) (names known : List (List ℕ)) (old new : Expander) (s t : State) (b : Option Begun) (e : Refusal) → IsState old true s b → Extends s.sets t.sets → Reached table names s b (Err e) known t → new.sets ≡ t.sets → new.fault ≡ open_place e → is_some (open_place e) ≡ true → Feeds table names old [] [] known new
fault_feeds table names known old new s t b e h x l k f o =
    fed_fault table names known old new e (let P : List Node → Type 0 = λ a. Extends a new.sets in let Q : List Node → Type 0 = λ a. Extends s.sets a in subst P h.sets (subst Q (sym k) x)) f o
    (λ nodes y more.
    let P : List Node → Type 0 = λ a. Extends a nodes in
    let r = l nodes more (subst P k y) in
    (r.0, stops_same e (onward nodes table r.0 names old more) _ (sym (from_state nodes table r.0 names old s b more h)) r.1))

pub state_rejects : (table : Table) (names known : List (List ℕ)) (old : Expander) (s t : State) (b : Option Begun) (e : Refusal) → IsState old true s b → Extends s.sets t.sets → Reached table names s b (Err e) known t → Rejects table names old [] e
state_rejects table names known old s t b e h x l = (
  t.sets,
  (let P : List Node → Type 0 = λ a. Extends a t.sets in subst P h.sets x),
  λ more.
      let r = l t.sets more (extends_same t.sets) in
      refuses_so t.sets table names old more e (r.0, stops_same e (onward t.sets table r.0 names old more) _ (sym (from_state t.sets table r.0 names old s b more h)) r.1),
)

pub state_ends : (table : Table) (names known : List (List ℕ)) (old : Expander) (s t : State) (b c : Option Begun) → IsState old false s b → Extends s.sets t.sets → Reached table names s b (Ok c) known t → t.pending.items ≡ [] → t.level.rest ≡ [] → c ≡ None → Ends table names old (tokens_of t.level.out.items) known
state_ends table names known old s t b c h x l p r o =
    ends_so t.sets table names known old t.level.out.items t.level.rest t.level.is_open t.level.room t.level.outside (frames_of t.sets [] t.pending.items) c (let P : List Node → Type 0 = λ a. Extends a t.sets in subst P h.sets x) r (ap (λ l. frames_of t.sets [] l) p) o
    (λ n.
    let a = l t.sets [] (extends_same t.sets) n in
    (a.0, later_is _ (onward t.sets table a.0 names old []) _ (sym (from_end t.sets table a.0 names old s b h)) a.1))

pub state_ends_in : (table : Table) (names known : List (List ℕ)) (old : Expander) (s t : State) (b : Option Begun) (e : Refusal) → IsState old false s b → Extends s.sets t.sets → Reached table names s b (Err e) known t → EndsIn table names old e
state_ends_in table names known old s t b e h x l =
    let r = l t.sets [] (extends_same t.sets) in (
      t.sets,
      (let P : List Node → Type 0 = λ a. Extends a t.sets in subst P h.sets x),
      refuses_so t.sets table names old [] e (r.0, stops_same e (onward t.sets table r.0 names old []) _ (sym (from_end t.sets table r.0 names old s b h)) r.1),
    )

-- what a call says by its answer
pub kept_adds : (table : Table) (names known : List (List ℕ)) (old new : Expander) (s t : State) (b c : Option Begun) (before after : List PpToken) (fault : Option Pos) (r : Result (Unit {0}) Refusal) → IsState old true s b → Extends s.sets t.sets → Reached table names s b (Ok c) known t → fault ≡ None
    → OnOk r (after ≡ before ++ tokens_of t.level.out.items) → OnOk r ((t.pending.items ≡ []) × (t.level.outside ≡ 0) × (t.level.is_open ≡ true))
    → OnOk r ((new.held.items ≡ t.level.rest) × (new.room ≡ t.level.room) × (new.sets ≡ t.sets) × (new.begun ≡ c) × (new.fault ≡ fault))
    → OnOk r (Adds before after (λ came. Feeds table names old [] came known new))
kept_adds table names known old new s t b c before after fault (Ok y) h x l f given lowest holds = (
  tokens_of t.level.out.items,
  given,
  kept_feeds table names known old new s t b c h x l
      (record { held = holds.0; room = holds.1; sets = holds.2; begun = holds.3; fault = holds.4 ∙ f; pending = lowest.0; outside = lowest.1; open_ = lowest.2 }),
)
kept_adds table names known old new s t b c before after fault (Err e) h x l f given lowest holds = tt

pub fault_adds : (table : Table) (names known : List (List ℕ)) (old new : Expander) (s t : State) (b : Option Begun) (out : List PpToken) (e : Refusal) (r : Result (Unit {0}) Refusal) → IsState old true s b → Extends s.sets t.sets → Reached table names s b (Err e) known t
    → OnOk r ((new.fault ≡ open_place e) × (is_some (open_place e) ≡ true)) → OnOk r (new.sets ≡ t.sets) → OnOk r (Adds out out (λ came. Feeds table names old [] came known new))
fault_adds table names known old new s t b out e (Ok y) h x l f k = ([], sym (append-nil out), fault_feeds table names known old new s t b e h x l k f.0 f.1)
fault_adds table names known old new s t b out e (Err d) h x l f k = tt

pub told_rejects : (table : Table) (names known : List (List ℕ)) (old : Expander) (s t : State) (b : Option Begun) (e : Refusal) (r : Result (Unit {0}) Refusal) → IsState old true s b → Extends s.sets t.sets → Reached table names s b (Err e) known t
    → IfErr r (λ d. (d ≡ e) × (open_place e ≡ None)) → IfErr r (λ d. Rejects table names old [] d)
told_rejects table names known old s t b e (Ok y) h x l f = tt
told_rejects table names known old s t b e (Err d) h x l f = let P : Refusal → Type 0 = λ d. Rejects table names old [] d in subst P (sym f.0) (state_rejects table names known old s t b e h x l)

pub told_stops : (e : Refusal) (r : Result (Unit {0}) Refusal) → StopsExpansion e → IfErr r (λ d. (d ≡ e) × (open_place e ≡ None)) → IfErr r StopsFeeding
told_stops e (Ok y) s f = tt
told_stops e (Err d) s f = let P : Refusal → Type 0 = λ d. StopsFeeding d in subst P (sym f.0) (stops_feeding e s f.1)

pub memory_rejects : (table : Table) (names : List (List ℕ)) (old : Expander) (line : List PpToken) (r : Result (Unit {0}) Refusal) → IfErr r (λ e. e ≡ refusals.OutOfMemory) → IfErr r (λ e. Rejects table names old line e)
memory_rejects table names old line (Ok y) h = tt
memory_rejects table names old line (Err e) h = let P : Refusal → Type 0 = λ d. Rejects table names old line d in subst P (sym h) (rejected_memory table names old line)

pub ends_memory : (table : Table) (names : List (List ℕ)) (old : Expander) → EndsIn table names old refusals.OutOfMemory
ends_memory table names old = (old.sets, extends_same old.sets, tt)

pub memory_ends : (table : Table) (names : List (List ℕ)) (old : Expander) (r : Result (Unit {0}) Refusal) → IfErr r (λ e. e ≡ refusals.OutOfMemory) → IfErr r (λ e. EndsIn table names old e)
memory_ends table names old (Ok y) h = tt
memory_ends table names old (Err e) h = let P : Refusal → Type 0 = λ d. EndsIn table names old d in subst P (sym h) (old.sets, extends_same old.sets, tt)

pub ended_adds : (table : Table) (names known : List (List ℕ)) (old : Expander) (s t : State) (b c : Option Begun) (before after : List PpToken) (r : Result (Unit {0}) Refusal) → IsState old false s b → Extends s.sets t.sets → Reached table names s b (Ok c) known t
    → OnOk r (after ≡ before ++ tokens_of t.level.out.items) → OnOk r ((t.pending.items ≡ []) × (t.level.rest ≡ []) × (c ≡ None)) → OnOk r (Adds before after (λ came. Ends table names old came known))
ended_adds table names known old s t b c before after (Ok y) h x l given done_ = (tokens_of t.level.out.items, given, state_ends table names known old s t b c h x l done_.0 done_.1 done_.2)
ended_adds table names known old s t b c before after (Err e) h x l given done_ = tt

pub held_adds : (table : Table) (names known : List (List ℕ)) (old mid new : Expander) (line before after : List PpToken) (r : Result (Unit {0}) Refusal) → IsHeld old line mid → OnOk r (Adds before after (λ came. Feeds table names mid [] came known new)) → OnOk r (Adds before after (λ came. Feeds table names old line came known new))
held_adds table names known old mid new line before after (Ok y) h a = (a.0, a.1, fed_after table names known old mid new line a.0 h a.2)
held_adds table names known old mid new line before after (Err e) h a = tt

pub held_rejects : (table : Table) (names : List (List ℕ)) (old mid : Expander) (line : List PpToken) (r : Result (Unit {0}) Refusal) → IsHeld old line mid → IfErr r (λ e. Rejects table names mid [] e) → IfErr r (λ e. Rejects table names old line e)
held_rejects table names old mid line (Ok y) h a = tt
held_rejects table names old mid line (Err e) h a = rejected_after table names old mid line e h a
