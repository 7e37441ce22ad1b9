-- Where a run ends in a fault, what was read before goes on.
use Rattle.std.proofs.Common.{◌≡◌, ℕ, suc, ◌+◌, ◌≤◌, List, [], ◌∷◌, ◌++◌, Bool, false, refl, ap, ◌∙◌, subst, inr, arith}
use Rattle.std.proofs.lemmas.Bool.{ne_eqb}
use Rattle.std.specs.Prelude.{if◌then◌else◌, Ok, Err}
use Rattle.c65_base.specs.Answers.{Fault, large}
use Rattle.c65_base.specs.declared.names.Name.{Name}
use Rattle.c65_base.specs.declared.refusal.Pos.{Pos}
use Rattle.c65_base.specs.declared.refusal.Size.TheVariants.{Depth}
use Rattle.c65_scan.specs.declared.token.Token.{Token}
use Rattle.c65_scan.specs.declared.token.TokenKind.TheVariants as kinds
use Rattle.c65_parse_names.specs.Scopes.{Blocks, with_kind}
use Rattle.c65_parse.specs.declared.frame.Change.{Change}
use Rattle.c65_parse.specs.declared.frame.Change.TheVariants as changes
use Rattle.c65_parse.specs.Frames.{Frame, Held, Done, Next, go, stop, deep, fail}
use Rattle.c65_parse.specs.Machine.{Reading, run, step, changed}
use Rattle.c65_parse_grammar.specs.Phrases.{token}
use Rattle.c65_parse_law_trees.proofs.Runs.{then_run}
use Rattle.c65_parse_law_sound.proofs.Got.{EndsIn}
use Rattle.c65_parse_law_faults.specs.Faults.{IsFaultOf}
use Rattle.c65_parse_law_faults.proofs.Local.{fault_of}
use Rattle.c65_parse_law_faults.proofs.Ends.{NoGo, end_stops}
use Rattle.c65_parse_law_depth.proofs.Steps.{step_opens}
use Rattle.c65_parse_law_least.specs.Viable.{FewTypes}
use Rattle.c65_parse_law_least.proofs.Places.{Place, Same, Stands, Keeps, place_of, step_keeps}
use Rattle.c65_parse_law_least.proofs.Closings.{Some, Completes}
use Rattle.c65_parse_law_least.proofs.Completing.{complete}
use Rattle.c65_parse_law_least.proofs.Growing.{stands_more, step_still}

-- blocks have few types still
declared_few : (name : Name) (is_type : Bool) (block : Name → Bool) → ((least : ℕ) × ((n : Name) → least ≤ n.0 → block n ≡ false)) → (least : ℕ) × ((n : Name) → least ≤ n.0 → with_kind block name is_type n ≡ false)
declared_few name is_type block few = (few.0 + suc name.0, λ n high. ap (λ b. if b then is_type else block n) (ne_eqb n.0 name.0 (λ e. omega (arith, e, high))) ∙ few.1 n (omega (arith, high)))

pub few_changed : (change : Change) (scope : Blocks) → FewTypes scope → FewTypes (changed change scope)
few_changed changes.Nothing scope few = few
few_changed changes.Open [] few = tt
few_changed changes.Open (block ∷ blocks) few = (few.0, few)
few_changed (changes.Declare n is_type) [] few = tt
few_changed (changes.Declare n is_type) (block ∷ blocks) few = (declared_few n is_type block few.0, few.1)
few_changed changes.Close [] few = tt
few_changed changes.Close (block ∷ []) few = few
few_changed changes.Close (block ∷ outer ∷ blocks) few = few.1

-- with other tokens behind them these are a whole tree before an end
pub record Goes (limit : ℕ) (top : Place) (l : Pos) (least : ℕ) (scope : Blocks) (fs : List Frame) (held : Held) (before : List Token) : Type 0 where
  pub more : List Token
  pub tree : Done
  pub behind : Blocks
  pub sort : Same top (place_of tree)
  pub some : Some tree
  pub are : run limit least scope fs held (before ++ (more ++ token kinds.End l ∷ [])) ≡ Ok (tree, token kinds.End l ∷ [], behind)

-- with a token before them
goes_past : (limit : ℕ) (top : Place) (l : Pos) (least : ℕ) (scope : Blocks) (fs gs : List Frame) (held next : Held) (change : Change) (tok : Token) (before : List Token) → step limit least scope fs held tok ≡ go gs next change → Goes limit top l least (changed change scope) gs next before → Goes limit top l least scope fs held (tok ∷ before)
goes_past limit top l least scope fs gs held next change tok before e h = record { more = h.more; tree = h.tree; behind = h.behind; sort = h.sort; some = h.some; are = ap (then_run limit least scope tok (before ++ (h.more ++ token kinds.End l ∷ []))) e ∙ h.are }

begins : (limit : ℕ) (top : Place) (l : Pos) (least : ℕ) (scope : Blocks) (fs : List Frame) (held : Held) → Completes limit top l least scope fs held → Goes limit top l least scope fs held []
begins limit top l least scope fs held c = record { more = c.more; tree = c.tree; behind = c.behind; sort = c.sort; some = c.some; are = c.are }

-- within some greater limit
abbrev pub Deeper : (limit : ℕ) → Place → Pos → ℕ → Blocks → List Frame → Held → List Token → Type 0
Deeper limit top l least scope fs held before = (more : ℕ) × (limit ≤ more) × Goes more top l least scope fs held before

deeper_past : (limit : ℕ) (top : Place) (l : Pos) (least : ℕ) (scope : Blocks) (fs gs : List Frame) (held next : Held) (change : Change) (tok : Token) (before : List Token) → step limit least scope fs held tok ≡ go gs next change → Deeper limit top l least (changed change scope) gs next before → Deeper limit top l least scope fs held (tok ∷ before)
deeper_past limit top l least scope fs gs held next change tok before e d = (d.0, d.1, goes_past d.0 top l least scope fs gs held next change tok before (step_still limit d.0 d.1 least scope fs gs held next change tok e) d.2)

-- a step that is too deep
opens : (limit : ℕ) (top : Place) (l : Pos) (least : ℕ) (scope : Blocks) (fs : List Frame) (held : Held) (tok : Token) → step limit least scope fs held tok ≡ deep → FewTypes scope → Stands limit top fs held → Deeper limit top l least scope fs held (tok ∷ [])
opens limit top l least scope fs held tok e few h =
    let o = step_opens limit least scope fs held tok e in
    let stands : Stands o.more top o.frames o.held = subst (Keeps o.more top) o.goes_on (step_keeps o.more top least scope fs held tok (stands_more limit o.more o.is_more top fs held h)) in
    let inner = changed o.change scope in
    (o.more, o.is_more, goes_past o.more top l least scope fs o.frames held o.held o.change tok [] o.goes_on (begins o.more top l least inner o.frames o.held (complete o.more top l least inner o.frames o.held (few_changed o.change scope few) stands)))

-- the tokens before the fault go on, and where it is that of depth, with its own within a greater limit
pub record Stopped (limit : ℕ) (top : Place) (l : Pos) (least : ℕ) (scope : Blocks) (fs : List Frame) (held : Held) (ts : List Token) (e : Fault) : Type 0 where
  pub before : List Token
  pub next : Token
  pub others : List Token
  pub tokens_are : ts ≡ before ++ next ∷ others
  pub fault_is : IsFaultOf next e
  pub again : (more : List Token) → run limit least scope fs held (before ++ next ∷ more) ≡ Err e
  pub goes : Goes limit top l least scope fs held before
  pub deeper : e ≡ large Depth 257 → Deeper limit top l least scope fs held (before ++ next ∷ [])

-- the tokens of a tree that has ended go on too
pub record Rested (limit : ℕ) (top : Place) (l : Pos) (least : ℕ) (scope : Blocks) (fs : List Frame) (held : Held) (ts : List Token) (done : Done) (rest : List Token) (later : Blocks) : Type 0 where
  pub before : List Token
  pub next : Token
  pub others : List Token
  pub tokens_are : ts ≡ before ++ next ∷ others
  pub rest_is : rest ≡ next ∷ others
  pub kind : Same top (place_of done)
  pub few : FewTypes later
  pub again : (more : List Token) → run limit least scope fs held (before ++ next ∷ more) ≡ Ok (done, next ∷ more, later)
  pub goes : Goes limit top l least scope fs held before

abbrev pub Outcome : (limit : ℕ) → Place → Pos → ℕ → Blocks → List Frame → Held → List Token → Reading → Type 0
Outcome limit top l least scope fs held ts (Ok (tree, rest, behind)) = Rested limit top l least scope fs held ts tree rest behind
Outcome limit top l least scope fs held ts (Err e) = Stopped limit top l least scope fs held ts e

-- a token before
stepped : (limit : ℕ) (top : Place) (l : Pos) (least : ℕ) (scope : Blocks) (fs gs : List Frame) (held next : Held) (change : Change) (tok : Token) (ts : List Token) (r : Reading) → step limit least scope fs held tok ≡ go gs next change → Outcome limit top l least (changed change scope) gs next ts r → Outcome limit top l least scope fs held (tok ∷ ts) r
stepped limit top l least scope fs gs held next change tok ts (Ok (tree, rest, behind)) e h = record {
  before = tok ∷ h.before;
  next = h.next;
  others = h.others;
  tokens_are = ap (λ xs. tok ∷ xs) h.tokens_are;
  rest_is = h.rest_is;
  kind = h.kind;
  few = h.few;
  again = λ more. ap (then_run limit least scope tok (h.before ++ h.next ∷ more)) e ∙ h.again more;
  goes = goes_past limit top l least scope fs gs held next change tok h.before e h.goes;
}
stepped limit top l least scope fs gs held next change tok ts (Err x) e h = record {
  before = tok ∷ h.before;
  next = h.next;
  others = h.others;
  tokens_are = ap (λ xs. tok ∷ xs) h.tokens_are;
  fault_is = h.fault_is;
  again = λ more. ap (then_run limit least scope tok (h.before ++ h.next ∷ more)) e ∙ h.again more;
  goes = goes_past limit top l least scope fs gs held next change tok h.before e h.goes;
  deeper = λ k. deeper_past limit top l least scope fs gs held next change tok (h.before ++ h.next ∷ []) e (h.deeper k);
}

more_left : (limit : ℕ) (least : ℕ) (scope : Blocks) (fs gs : List Frame) (held next : Held) (change : Change) (tok : Token) (ts : List Token) → EndsIn (tok ∷ ts) → step limit least scope fs held tok ≡ go gs next change → EndsIn ts
more_left limit least scope fs gs held next change tok [] ends e = absurd (subst NoGo e (end_stops limit least scope fs held tok ends))
more_left limit least scope fs gs held next change tok (u ∷ ts) ends e = ends

step_outcome : (limit : ℕ) (top : Place) (l : Pos) (least : ℕ) (scope : Blocks) (fs : List Frame) (held : Held) (tok : Token) (ts : List Token) (n : Next) → step limit least scope fs held tok ≡ n → Keeps limit top n → FewTypes scope → Stands limit top fs held → EndsIn (tok ∷ ts)
    → ((gs : List Frame) (next : Held) (change : Change) → Stands limit top gs next → EndsIn ts → Outcome limit top l least (changed change scope) gs next ts (run limit least (changed change scope) gs next ts))
    → Outcome limit top l least scope fs held (tok ∷ ts) (then_run limit least scope tok ts n)
step_outcome limit top l least scope fs held tok ts (go gs next change) e k few h ends f = stepped limit top l least scope fs gs held next change tok ts (run limit least (changed change scope) gs next ts) e (f gs next change k (more_left limit least scope fs gs held next change tok ts ends e))
step_outcome limit top l least scope fs held tok ts (stop d) e k few h ends f = record { before = []; next = tok; others = ts; tokens_are = refl; rest_is = refl; kind = k; few = few; again = λ more. ap (then_run limit least scope tok more) e; goes = begins limit top l least scope fs held (complete limit top l least scope fs held few h) }
step_outcome limit top l least scope fs held tok ts deep e k few h ends f = record { before = []; next = tok; others = ts; tokens_are = refl; fault_is = inr refl; again = λ more. ap (then_run limit least scope tok more) e; goes = begins limit top l least scope fs held (complete limit top l least scope fs held few h); deeper = λ k. opens limit top l least scope fs held tok e few h }
step_outcome limit top l least scope fs held tok ts fail e k few h ends f = record { before = []; next = tok; others = ts; tokens_are = refl; fault_is = fault_of tok; again = λ more. ap (then_run limit least scope tok more) e; goes = begins limit top l least scope fs held (complete limit top l least scope fs held few h); deeper = λ k. absurd cc }

pub outcome : (limit : ℕ) (top : Place) (l : Pos) (least : ℕ) (ts : List Token) (scope : Blocks) (fs : List Frame) (held : Held) → FewTypes scope → Stands limit top fs held → EndsIn ts → Outcome limit top l least scope fs held ts (run limit least scope fs held ts)
outcome limit top l least [] scope fs held few h ends = absurd ends
outcome limit top l least (tok ∷ ts) scope fs held few h ends = step_outcome limit top l least scope fs held tok ts (step limit least scope fs held tok) refl (step_keeps limit top least scope fs held tok h) few h ends
    (λ gs next change k left. outcome limit top l least ts (changed change scope) gs next (few_changed change scope few) k left)
