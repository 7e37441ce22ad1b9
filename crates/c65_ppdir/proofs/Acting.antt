-- What the lines of a file do, step by step.
use Rattle.std.proofs.Common.{◌≡◌, ◌∙◌, ℕ, List, Bool, true, false, Option, Result, Ok, Err, inl, inr, refl, ap, sym, subst}
use Rattle.std.specs.Prelude.{IfErr, OnOk, unwrap_or, if◌then◌else◌}
use Rattle.c65_base.specs.declared.names.Name.{Name}
use Rattle.c65_base.specs.declared.refusal.Refusal.{Refusal}
use Rattle.c65_base.specs.declared.refusal.Refusal.TheVariants as refusals
use Rattle.c65_base.specs.declared.refusal.Pos.{Pos}
use Rattle.c65_base.specs.Answers.{Fault, Gives}
use Rattle.c65_lex.specs.declared.token.PpToken.{PpToken}
use Rattle.c65_macro.specs.Table.{Table}
use Rattle.c65_ppline.specs.declared.condition.Group.{Group}
use Rattle.c65_ppline.specs.declared.directive.Deed.{Deed}
use Rattle.c65_ppline.specs.declared.directive.Part.{Part}
use Rattle.c65_ppline.specs.declared.line.Line.{Line}
use Rattle.c65_ppline.specs.declared.numbering.Given.{Given}
use Rattle.c65_ppdir.specs.Files.{OpenFile}
use Rattle.c65_pptext.specs.declared.ending.Read.{Read}
use Rattle.c65_ppdir.specs.declared.opened.Unseen.{Unseen}
use Rattle.c65_ppdir.specs.declared.reader.Turn.{Turn}
use Rattle.c65_ppdir.specs.declared.reader.Turn.TheVariants as turns
use Rattle.c65_ppline.specs.Conditions.{first_open, taken}
use Rattle.c65_ppline.specs.DirectiveLines.{head_of, deed_of, part_of}
use Rattle.c65_ppdir.specs.Gathering.{gathering, IsLineRead}
use Rattle.c65_ppline.specs.Lines.{ending}
use Rattle.c65_ppdir.specs.LineActions.{as_line, renamed, renumbered, then_line, whole, chosen, active, active_by, inactive, inactive_by, directive, obeyed, passed, passed_by, closed, closed_by, behind_list}
use Rattle.c65_ppline.specs.NumberLines.{offset}
use Rattle.c65_ppdir.specs.Opening.{IsReadNext, IsSeenNext}
use Rattle.c65_ppdir.specs.Progress.{Progress, flushed, with_groups, read_next, seen_next, line_read, known_then}
use Rattle.c65_ppline.specs.Relations.{Answers, of, just, ◌then◌, Comes}
use Rattle.c65_ppline.proofs.Relations.{goes_on, is_free}

abbrev pub behind : Progress → OpenFile → List (List ℕ) → Progress
behind p left known = record p { file = left; names = known }

pub active_next : {X : Type 0} (view : X → Turn × Progress) (p : Progress) (r : Read) (left : OpenFile) (known : List (List ℕ)) (z : Result X Refusal)
    → IsReadNext false p.file p.names r left known → Comes view (active_by r (behind p left known)) z → Comes view (active p) z
active_next view p r left known z h c = goes_on view (read_next false p) (λ x. active_by x.0 x.1) (r, behind p left known) z (left, known, h, refl) c

pub inactive_next : {X : Type 0} (view : X → Turn × Progress) (p : Progress) (u : Unseen) (left : OpenFile) (z : Result X Refusal)
    → IsSeenNext p.file u left → Comes view (inactive_by u (behind p left p.names)) z → Comes view (inactive p) z
inactive_next view p u left z h c = goes_on view (seen_next p) (λ x. inactive_by x.0 x.1) (u, behind p left p.names) z (left, h, refl) c

pub directive_next : {X : Type 0} (view : X → Turn × Progress) (hash : Pos) (p : Progress) (line : Line) (left : OpenFile) (known : List (List ℕ)) (deed : Deed) (z : Result X Refusal)
    → IsLineRead hash p.file p.names (gathering line left known) → deed ≡ deed_of hash (head_of known line.tokens) → Comes view (obeyed deed line (behind p left known)) z → Comes view (directive hash p) z
directive_next view hash p line left known deed z h e c =
    goes_on view (line_read hash p) (λ x. obeyed (deed_of hash (head_of x.1.names x.0.tokens)) x.0 x.1) (line, behind p left known) z (gathering line left known, h, refl, refl)
    (subst (λ (d : Deed). Comes view (obeyed d line (behind p left known)) z) e c)

pub passed_next : {X : Type 0} (view : X → Progress) (hash : Pos) (p : Progress) (line : Line) (left : OpenFile) (known : List (List ℕ)) (part : Option Part) (z : Result X Refusal)
    → IsLineRead hash p.file p.names (gathering line left known) → part ≡ part_of (head_of known line.tokens) → Comes view (passed_by part line (behind p left known)) z → Comes view (passed hash p) z
passed_next view hash p line left known part z h e c =
    goes_on view (line_read hash p) (λ x. passed_by (part_of (head_of x.1.names x.0.tokens)) x.0 x.1) (line, behind p left known) z (gathering line left known, h, refl, refl)
    (subst (λ (o : Option Part). Comes view (passed_by o line (behind p left known)) z) e c)

pub behind_list_next : {X : Type 0} (view : X → Turn × Progress) (hash : Pos) (p q : Progress) (z : Result X Refusal) → flushed p (Ok q) → Comes view (directive hash q) z → Comes view (behind_list hash p) z
behind_list_next view hash p q z h c = goes_on view (flushed p) (directive hash) q z h c

-- a line that asks for nothing more
pub as_a_line : (P : Answers Progress) (q : Progress) (r : Result (Unit {0}) Refusal) (z : Result Turn Refusal) → z ≡ as_line r → Comes (λ _. q) P r → Comes (λ t. (t, q)) (then_line P) z
as_a_line P q (Ok x) z e h = subst (λ (a : Result Turn Refusal). Comes (λ t. (t, q)) (then_line P) a) (sym e) (q, h, refl)
as_a_line P q (Err f) z e (inl h) = subst (λ (a : Result Turn Refusal). Comes (λ t. (t, q)) (then_line P) a) (sym e) (inl h)
as_a_line P q (Err f) z e (inr h) = subst (λ (a : Result Turn Refusal). Comes (λ t. (t, q)) (then_line P) a) (sym e) (inr (inl h))

pub one_line : (P : Answers Progress) (q : Progress) → P (Ok q) → then_line P (Ok (turns.Line, q))
one_line P q h = (q, h, refl)

pub no_line : {X Y : Type 0} (view : X → Progress) (other : Y → Turn × Progress) (P : Answers Progress) (e : Refusal) → Comes view P (Err e) → Comes other (then_line P) (Err e)
no_line view other P e (inl h) = inl h
no_line view other P e (inr h) = inr (inl h)

-- a definition's value changes what reading has come to
pub of_then : {A B : Type 0} (y : Result A Fault) (f : A → B) (a : A) (r : Result (Unit {0}) Refusal) → Gives (λ _. a) r y → Comes (λ _. f a) (of y then λ x. just (Ok (f x))) r
of_then y f a (Ok x) h = (a, h, refl)
of_then y f a (Err e) h = inr (inl h)

pub of_fails : {X A B : Type 0} (view : X → B) (y : Result A Fault) (f : A → Answers B) (e : Refusal) → of y (Err e) → Comes view (of y then f) (Err e)
of_fails view y f e h = inr (inl h)

pub whole_line : (line : Line) (p : Progress) (r : Result (Unit {0}) Refusal) → Gives (λ _. tt) r (ending line.cut) → Comes (λ _. p) (whole line p) r
whole_line line p (Ok x) h = (tt, h, refl)
whole_line line p (Err e) h = inr (inl h)

pub known_ok : {X A B : Type 0} (view : X → B) (P : List (List ℕ) → Result A Refusal → Type 0) (f : A × List (List ℕ) → Answers B) (known : List (List ℕ)) (a : A) (r : Result X Refusal)
    → P known (Ok a) → Comes view (f (a, known)) r → Comes view (known_then P then f) r
known_ok view P f known a r h c = goes_on view (known_then P) f (a, known) r h c

pub known_fails : {X A B : Type 0} (view : X → B) (P : List (List ℕ) → Result A Refusal → Type 0) (f : A × List (List ℕ) → Answers B) (known : List (List ℕ)) (e : Refusal)
    → P known (Err e) → Comes view (known_then P then f) (Err e)
known_fails view P f known e h = inr (inl (known, h))

-- the file ends
pub closing : {X : Type 0} (view : X → Turn × Progress) (p : Progress) (o : Option Pos) (z : Result X Refusal) → o ≡ first_open p.file.groups → Comes view (closed_by o p) z → Comes view (closed p) z
closing view p o z e c = subst (λ (x : Option Pos). Comes view (closed_by x p) z) e c

-- the groups, once a part is taken or not
pub choosing : (b : Bool) (p : Progress) (gs : List Group) → gs ≡ (if b then taken p.file.groups else p.file.groups) → with_groups gs p ≡ chosen b p
choosing true p gs e = ap (λ (x : List Group). with_groups x p) e
choosing false p gs e = ap (λ (x : List Group). with_groups x p) e

pub chosen_answer : (b : Bool) (p : Progress) (gs : List Group) (r : Result (Unit {0}) Refusal) → IfErr r (λ e. e ≡ refusals.OutOfMemory) → OnOk r (gs ≡ (if b then taken p.file.groups else p.file.groups)) → Comes (λ _. with_groups gs p) (just (Ok (chosen b p))) r
chosen_answer b p gs (Ok x) f h = ap (λ (q : Progress). Ok q) (choosing b p gs h)
chosen_answer b p gs (Err e) f h = inl (is_free e f)

-- a file's lines are counted anew
pub renumber_is : (table new : Table) (given given' list list' : List PpToken) (file : OpenFile) (names : List (List ℕ)) (g : Given) (line : Line) (literal : Name) → literal ≡ unwrap_or g.file file.literal → new ≡ record table { file = literal; offset = offset (record { given = g.number; real = line.end }) } → given' ≡ given → list' ≡ list
    → (let p : Progress = record { table = new; given = given'; list = list'; file = record file { literal = literal; count = record { given = g.number; real = line.end } }; names = names } in p ≡ renumbered g line (record { table = table; given = given; list = list; file = file; names = names }))
renumber_is table new given given' list list' file names g line literal a h e f =
    let counted : new ≡ record table { file = unwrap_or g.file file.literal; offset = offset (record { given = g.number; real = line.end }) } = h ∙ ap (λ (n : Name). record table { file = n; offset = offset (record { given = g.number; real = line.end }) }) a in
    ap (λ (t : Table). record { table = t; given = given'; list = list'; file = record file { literal = literal; count = record { given = g.number; real = line.end } }; names = names }) counted
    ∙ (ap (λ (n : Name). record { table = record table { file = unwrap_or g.file file.literal; offset = offset (record { given = g.number; real = line.end }) }; given = given'; list = list'; file = record file { literal = n; count = record { given = g.number; real = line.end } }; names = names }) a
    ∙ (ap (λ (ts : List PpToken). record { table = record table { file = unwrap_or g.file file.literal; offset = offset (record { given = g.number; real = line.end }) }; given = ts; list = list'; file = renamed g line file; names = names }) e
    ∙ ap (λ (ts : List PpToken). record { table = record table { file = unwrap_or g.file file.literal; offset = offset (record { given = g.number; real = line.end }) }; given = given; list = ts; file = renamed g line file; names = names }) f))
