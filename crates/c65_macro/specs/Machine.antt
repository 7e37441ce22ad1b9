-- The steps of an expansion: a stack of lists that are being expanded, each but the first an argument
-- of a use in the list below.
use Rattle.std.specs.Prelude.{◌≡◌, ℕ, zero, suc, ◌+◌, List, [], ◌∷◌, ◌++◌, map, reverse, drop, length, Bool, true, false, Option, Some, None, Result, Ok, Err}
use Rattle.c65_base.specs.declared.refusal.Refusal.{Refusal}
use Rattle.c65_base.specs.declared.refusal.Refusal.TheVariants as refusals
use Rattle.c65_base.specs.declared.names.Name.{Name}
use Rattle.c65_base.specs.Answers.{large}
use Rattle.c65_lex.specs.declared.token.PpToken.{PpToken}
use Rattle.c65_macro.specs.declared.item.Macro.{Macro}
use Rattle.c65_macro.specs.declared.item.Words.{Words}
use Rattle.c65_macro.specs.declared.sets.Node.{Node}
use Rattle.c65_macro.specs.declared.marked.Marked.{Marked}
use Rattle.c65_macro.specs.declared.gather.Gathered.{Gathered}
use Rattle.c65_macro.specs.declared.gather.Inside.{Inside}
use Rattle.c65_macro.specs.declared.gather.Inside.TheVariants as insides
use Rattle.c65_macro.specs.declared.state.Level.{Level}
use Rattle.c65_macro.specs.declared.state.Pending.{Pending}
use Rattle.c65_macro.specs.declared.state.Begun.{Begun}
use Rattle.c65_macro.specs.declared.state.Went.{Went}
use Rattle.c65_macro.specs.declared.state.Went.TheVariants as wents
use Rattle.c65_macro.specs.Table.{Table, lookup}
use Rattle.c65_macro.specs.Items.{Item, Outcome, unfinished, faulty, done, ◌>>=◌, items}
use Rattle.c65_macro.specs.Uses.{Gathering, above, closed, gather, one_more, gathered, next_argument}
use Rattle.c65_macro.specs.Expand.{Expander, each, finish, replace_use, expand}
use Rattle.c65_macro.specs.Answered.{Stops}
use Rattle.c65_macro.specs.Views.{item_of, items_of, lists_of}

-- what the rest of a use gives, once these arguments are gathered
abbrev pub gather_in : List Node → Words → ℕ → Gathered → List Item → Gathering
gather_in nodes w outside g is = gather w outside g.gap g.depth (lists_of nodes g.lists.items) (items_of nodes g.list.items) g.size is

-- the refusal is above a limit, as the gathering is, or for want of memory
abbrev pub StopsGathering : Refusal → Gathering → Type 0
StopsGathering refusals.OutOfMemory g = Unit {0}
StopsGathering (refusals.TooLarge limit value) g = g ≡ above (large limit value)
StopsGathering _ g = ⊥

abbrev pub IsAdded : List Node → Words → ℕ → Gathered → ℕ → Item → List Item → Result Bool Refusal → Gathered → Type 0
IsAdded nodes w outside g depth i is (Ok ends) h = (ends ≡ false) × (one_more outside g.size is (gather w outside false depth (lists_of nodes g.lists.items) (items_of nodes g.list.items ++ gathered g.gap i ∷ []) (g.size + 1) is) ≡ gather_in nodes w outside h is)
IsAdded nodes w outside g depth i is (Err e) h = StopsGathering e (one_more outside g.size is (gather w outside false depth (lists_of nodes g.lists.items) (items_of nodes g.list.items ++ gathered g.gap i ∷ []) (g.size + 1) is))

abbrev pub IsSeparated : List Node → Words → ℕ → Gathered → List Item → Result Bool Refusal → Gathered → Type 0
IsSeparated nodes w outside g is (Ok ends) h = (ends ≡ false) × (next_argument (lists_of nodes g.lists.items) (gather w outside false g.depth (lists_of nodes g.lists.items ++ items_of nodes g.list.items ∷ []) [] g.size is) ≡ gather_in nodes w outside h is)
IsSeparated nodes w outside g is (Err e) h = StopsGathering e (next_argument (lists_of nodes g.lists.items) (gather w outside false g.depth (lists_of nodes g.lists.items ++ items_of nodes g.list.items ∷ []) [] g.size is))

abbrev pub IsTaken : List Node → Words → ℕ → Gathered → Item → List Item → Result Bool Refusal → Gathered → Type 0
IsTaken nodes w outside g i is (Ok true) h = gather_in nodes w outside g (i ∷ is) ≡ closed (lists_of nodes h.lists.items ++ items_of nodes h.list.items ∷ []) h.size i is
IsTaken nodes w outside g i is (Ok false) h = gather_in nodes w outside g (i ∷ is) ≡ gather_in nodes w outside h is
IsTaken nodes w outside g i is (Err e) h = StopsGathering e (gather_in nodes w outside g (i ∷ is))

-- The arguments are those of the use; or it ends behind these tokens if at all, or is above a limit, or memory ran out. The
-- tail is what comes behind the tokens.
abbrev pub IsGathered : List Node → Words → ℕ → List Item → Result Inside Refusal → List Marked → Gathering → Type 0
IsGathered nodes w outside tail (Ok (insides.Closed a)) rest g = g ≡ closed (lists_of nodes a.lists.items) a.size (item_of nodes a.close) (items_of nodes rest ++ tail)
IsGathered nodes w outside tail (Ok (insides.Unclosed h)) rest g = (rest ≡ []) × (g ≡ gather_in nodes w outside h tail)
IsGathered nodes w outside tail (Err e) rest g = StopsGathering e g

-- A list that is being expanded: what is left, what came out, how many more may, and how many tokens
-- wait outside of it.
pub record Stage : Type 0 where
  pub rest : List Item
  pub out : List Item
  pub room : ℕ
  pub outside : ℕ

-- A use some of whose arguments are fully replaced: the list behind it, its name and its closing
-- parenthesis, the arguments, and how many tokens wait outside of each.
pub record Frame : Type 0 where
  pub stage : Stage
  pub name : Item
  pub close : Item
  pub raw : List (List Item)
  pub full : List (List Item)
  pub inside : ℕ

-- what may come behind a list, if anything may
abbrev pub tail_of : List PpToken → Bool → List Item
tail_of more true = items more
tail_of more false = []

-- what is left of a list where these tokens come behind it
abbrev pub rest_in : List Node → List PpToken → Level → List Item
rest_in nodes more l = items_of nodes l.rest ++ tail_of more l.is_open

abbrev pub stage_of : List Node → List PpToken → Level → Stage
stage_of nodes more l = record { rest = rest_in nodes more l; out = items_of nodes l.out.items; room = l.room; outside = l.outside }

abbrev pub frame_of : List Node → List PpToken → Pending → Frame
frame_of nodes more p = record { stage = stage_of nodes more p.level; name = item_of nodes p.name; close = item_of nodes p.close; raw = lists_of nodes p.raw.items; full = lists_of nodes p.full.items; inside = p.inside }

-- the innermost use comes first
abbrev pub frames_of : List Node → List PpToken → List Pending → List Frame
frames_of nodes more ps = map (frame_of nodes more) (reverse ps)

-- before the next token was taken
abbrev pub before : Item → Stage → Stage
before i s = record { rest = i ∷ s.rest; out = s.out; room = s.room; outside = s.outside }

-- once the next argument is fully replaced
abbrev pub with_argument : Frame → List Item → Frame
with_argument f out = record f { full = f.full ++ out ∷ [] }

-- what is left of a use of a macro
abbrev pub use_with : Table → Expander → List (List ℕ) → Frame → Macro → Option (List Name) → Outcome (List Item)
use_with table go names f m None = unfinished
use_with table go names f m (Some ps) = each table (λ names arg. go names f.inside 500000 arg) m.body names (drop (length f.full) ps) (drop (length f.full) f.raw) >>= λ names fulls. finish table go names f.stage.outside f.stage.room f.name f.close f.stage.rest m ps f.raw (f.full ++ fulls)

abbrev pub use_left : Table → Expander → List (List ℕ) → Frame → Option Macro → Outcome (List Item)
use_left table go names f None = unfinished
use_left table go names f (Some m) = use_with table go names f m m.params

-- one nested step less
abbrev pub below : Table → ℕ → Expander
below table zero names outside room is = unfinished
below table (suc n) names outside room is = expand table n names outside room is

-- the outcome of the uses, once the last argument of the first is fully replaced
abbrev pub climb : Table → ℕ → List (List ℕ) → List Frame → List Item → Outcome (List Item)
climb table n names [] out = done names out
climb table n names (f ∷ fs) out = use_left table (below table n) names (with_argument f out) (lookup table f.name.token.spelling) >>= λ names more. climb table n names fs (f.stage.out ++ more)

-- the outcome of the whole, from a stage in the last argument of these uses
abbrev pub outcome : Table → ℕ → List (List ℕ) → Stage → List Frame → Outcome (List Item)
outcome table n names s fs = expand table n names s.outside s.room s.rest >>= λ names more. climb table n names fs (s.out ++ more)

-- the same, where what is left of the stage is given
abbrev pub outcome_by : Table → ℕ → List Item → List Frame → (Expander → Outcome (List Item)) → Outcome (List Item)
outcome_by table n out fs front = front (expand table n) >>= λ names more. climb table (suc n) names fs (out ++ more)

-- a later outcome is the same, unless the earlier one was unfinished
abbrev pub Later : {A : Type 0} → Outcome A → Outcome A → Type 0
Later unfinished r = Unit {0}
Later (faulty f) r = r ≡ faulty f
Later (done names x) r = r ≡ done names x

-- the step goes on with the outcome, or stops as it does
abbrev pub Steps : {X : Type 0} → Table → List Item → List Frame → (Expander → Outcome (List Item)) → Result X Refusal → List (List ℕ) → Stage → List Frame → Type 0
Steps table out fs front (Ok x) names s gs = (n : ℕ) → Later (outcome table n names s gs) (outcome_by table n out fs front)
Steps table out fs front (Err e) names s gs = (n : ℕ) → Stops e (outcome_by table n out fs front)

-- how a step's answer is told
abbrev pub went_on : Result (Unit {0}) Refusal → Result Went Refusal
went_on (Ok x) = Ok wents.On
went_on (Err e) = Err e

abbrev pub went_into : Result (Option Begun) Refusal → Result Went Refusal
went_into (Ok None) = Ok wents.On
went_into (Ok (Some b)) = Ok (wents.Into b)
went_into (Err e) = Err e

-- what a use gives that has begun and whose macro this is
abbrev pub begun_with : List Node → Table → Expander → List (List ℕ) → Stage → Begun → Macro → Option (List Name) → Outcome (List Item)
begun_with nodes table go names s b m None = unfinished
begun_with nodes table go names s b m (Some ps) = replace_use table go names s.outside s.room (item_of nodes b.name) [] m ps (gather_in nodes table.words s.outside b.gathered s.rest)

abbrev pub begun_left : List Node → Table → Expander → List (List ℕ) → Stage → Begun → Option Macro → Outcome (List Item)
begun_left nodes table go names s b None = unfinished
begun_left nodes table go names s b (Some m) = begun_with nodes table go names s b m m.params

-- the outcome of the whole, from a stage or from within a use that has begun there
abbrev pub reached : List Node → Table → ℕ → List (List ℕ) → Stage → List Frame → Option Begun → Outcome (List Item)
reached nodes table n names s fs None = outcome table n names s fs
reached nodes table n names s fs (Some b) = outcome_by table n s.out fs (λ go. begun_left nodes table go names s b (lookup table b.name.token.spelling))

-- the same as `Steps`, where the step may come into a use
abbrev pub GoesInto : List Node → Table → List Item → List Frame → (Expander → Outcome (List Item)) → Result (Option Begun) Refusal → List (List ℕ) → Stage → List Frame → Type 0
GoesInto nodes table out fs front (Ok b) known s gs = (n : ℕ) → Later (reached nodes table n known s gs b) (outcome_by table n out fs front)
GoesInto nodes table out fs front (Err e) known s gs = (n : ℕ) → Stops e (outcome_by table n out fs front)

-- The same, where the token may be put back: then all is as before.
abbrev pub Goes : List Node → Table → List (List ℕ) → Stage → List Frame → (Expander → Outcome (List Item)) → Result Went Refusal → List (List ℕ) → Stage → List Frame → Type 0
Goes nodes table names was fs front (Ok wents.On) known s gs = (n : ℕ) → Later (outcome table n known s gs) (outcome_by table n was.out fs front)
Goes nodes table names was fs front (Ok wents.Back) known s gs = (known ≡ names) × (s ≡ was) × (gs ≡ fs)
Goes nodes table names was fs front (Ok (wents.Into b)) known s gs = (n : ℕ) → Later (reached nodes table n known s gs (Some b)) (outcome_by table n was.out fs front)
Goes nodes table names was fs front (Err e) known s gs = (n : ℕ) → Stops e (outcome_by table n was.out fs front)

-- the outcomes of a whole, by so many steps, lead on to the outcome from here
abbrev pub Leads : List Node → Table → (ℕ → Outcome (List Item)) → List (List ℕ) → Stage → List Frame → Option Begun → Type 0
Leads nodes table whole known s fs b = (n : ℕ) → (k : ℕ) × Later (reached nodes table n known s fs b) (whole k)

-- they lead on to what was come to, or stop so
abbrev pub Comes : List Node → Table → (ℕ → Outcome (List Item)) → Result (Option Begun) Refusal → List (List ℕ) → Stage → List Frame → Type 0
Comes nodes table whole (Ok b) known s fs = Leads nodes table whole known s fs b
Comes nodes table whole (Err e) known s fs = (k : ℕ) × Stops e (whole k)
