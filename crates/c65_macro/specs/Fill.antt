-- A replacement list with its arguments, # and ## (C90 6.8.3.1 to 6.8.3.3).
use Rattle.std.specs.Prelude.{ℕ, List, [], ◌∷◌, ◌++◌, Bool, true, false, ◌==◌, ◌||◌, Option, Some, None, if◌then◌else◌}
use Rattle.c65_base.specs.declared.names.Name.{Name}
use Rattle.c65_base.specs.declared.refusal.Pos.{Pos}
use Rattle.c65_base.specs.declared.code.Code.TheVariants as codes
use Rattle.c65_base.specs.Answers.{at}
use Rattle.c65_lex.specs.declared.token.PpKind.{PpKind}
use Rattle.c65_lex.specs.declared.token.PpKind.TheVariants as kinds
use Rattle.c65_lex.specs.declared.token.PpToken.{PpToken}
use Rattle.c65_lex.specs.Spellings.{class_of}
use Rattle.c65_macro.specs.declared.item.Words.{Words}
use Rattle.c65_macro.specs.Table.{same_name, is_name_kind, is_mark}
use Rattle.c65_macro.specs.Items.{Item, Outcome, faulty, done, ◌>>=◌, with_space, hide_all, spelling, made, tokens}
use Rattle.c65_macro.specs.Sets.{Set, none, both}

abbrev pub is_literal_kind : PpKind → Bool
is_literal_kind kinds.Char = true
is_literal_kind kinds.Text = true
is_literal_kind _ = false

-- a backslash before each quote and backslash
abbrev pub escaped : List ℕ → List ℕ
escaped [] = []
escaped (b ∷ bs) = if (b == 34) || (b == 92) then 92 ∷ b ∷ escaped bs else b ∷ escaped bs

abbrev pub shown : List (List ℕ) → PpToken → List ℕ
shown names t = if is_literal_kind t.kind then escaped (spelling names t.spelling) else spelling names t.spelling

-- white space between tokens is one space
abbrev pub shown_rest : List (List ℕ) → List PpToken → List ℕ
shown_rest names [] = []
shown_rest names (t ∷ ts) = (if t.space then 32 ∷ shown names t else shown names t) ++ shown_rest names ts

abbrev pub shown_all : List (List ℕ) → List PpToken → List ℕ
shown_all names [] = []
shown_all names (t ∷ ts) = shown names t ++ shown_rest names ts

-- C90 6.8.3.2
abbrev pub stringized : List (List ℕ) → List PpToken → List ℕ
stringized names ts = 34 ∷ (shown_all names ts ++ 34 ∷ [])

-- C90 6.8.3.3: two tokens become one
abbrev pub glued_as : List (List ℕ) → Option PpKind → List ℕ → Pos → Bool → Set → Outcome Item
glued_as names None s place space hide = faulty (at codes.BadPaste place)
glued_as names (Some kind) s place space hide = made names kind s place space hide

abbrev pub joint : List (List ℕ) → Item → Item → List ℕ
joint names x y = spelling names x.token.spelling ++ spelling names y.token.spelling

abbrev pub glue : List (List ℕ) → Pos → Item → Item → Outcome Item
glue names place x y = glued_as names (class_of false (joint names x y)) (joint names x y) place x.token.space (both x.hide y.hide)

-- the last of the first list with the first of the second
abbrev pub join : List (List ℕ) → Pos → List Item → List Item → Outcome (List Item)
join names place [] ys = done names ys
join names place (x ∷ []) [] = done names (x ∷ [])
join names place (x ∷ []) (y ∷ ys) = glue names place x y >>= λ names z. done names (z ∷ ys)
join names place (x ∷ z ∷ xs) ys = join names place (z ∷ xs) ys >>= λ names zs. done names (x ∷ zs)

-- what a replacement is made from: the arguments as they were written and fully replaced, and the
-- place of the name that is replaced
pub record Use : Type 0 where
  pub words : Words
  pub params : Option (List Name)
  pub raw : List (List Item)
  pub full : List (List Item)
  pub place : Pos

abbrev pub argument : {A : Type 0} → List Name → List A → Name → Option A
argument [] args n = None
argument (p ∷ ps) [] n = None
argument (p ∷ ps) (a ∷ as') n = if same_name p n then Some a else argument ps as' n

abbrev pub argument_of : {A : Type 0} → Option (List Name) → List A → PpToken → Option A
argument_of None args t = None
argument_of (Some ps) args t = if is_name_kind t.kind then argument ps args t.spelling else None

abbrev pub own : Pos → PpToken → Item
own place t = record { token = record t { pos = place }; hide = none; put = true }

-- what stands for a token of the body
abbrev pub stands : Pos → PpToken → Option (List Item) → List Item
stands place t None = own place t ∷ []
stands place t (Some a) = with_space t.space a

abbrev pub begins_paste : Words → List PpToken → Bool
begins_paste w [] = false
begins_paste w (t ∷ ts) = is_mark w.paste t

-- A body so far: what is finished, what a ## would take up, and whether a ## stands just before, or
-- a #, with its white space.
pub record Filling : Type 0 where
  pub ready : List Item
  pub chain : List Item
  pub glued : Bool
  pub hash : Option Bool

abbrev pub attach : List (List ℕ) → Pos → Filling → List Item → Outcome Filling
attach names place f is = if f.glued then (join names place f.chain is >>= λ names c. done names (record { ready = f.ready; chain = c; glued = false; hash = None })) else done names (record { ready = f.ready ++ f.chain; chain = is; glued = false; hash = None })

abbrev pub plain : Use → Bool → PpToken → List PpToken → List Item
plain u glued t ts = if glued || begins_paste u.words ts then stands u.place t (argument_of u.params u.raw t) else stands u.place t (argument_of u.params u.full t)

-- the string literal of an argument
abbrev pub literal : List (List ℕ) → Pos → Bool → List PpToken → Outcome Item
literal names place space ts = made names kinds.Text (stringized names ts) place space none

abbrev pub string_of : List (List ℕ) → Pos → Bool → Option (List Item) → Outcome (List Item)
string_of names place space None = done names []
string_of names place space (Some a) = literal names place space (tokens a) >>= λ names i. done names (i ∷ [])

abbrev pub operand : Use → List (List ℕ) → Bool → Option Bool → PpToken → List PpToken → Outcome (List Item)
operand u names glued None t ts = done names (plain u glued t ts)
operand u names glued (Some space) t ts = string_of names u.place space (argument_of u.params u.raw t)

-- only in a function-like macro # is an operator
abbrev pub is_hash : Words → Option (List Name) → PpToken → Bool
is_hash w None t = false
is_hash w (Some ps) t = is_mark w.hash t

-- one token more
abbrev pub next : Use → List (List ℕ) → Filling → PpToken → List PpToken → Outcome Filling
next u names f t ts = if is_mark u.words.paste t then done names (record f { glued = true }) else if is_hash u.words u.params t then done names (record f { hash = Some t.space }) else (operand u names f.glued f.hash t ts >>= λ names is. attach names u.place f is)

abbrev pub start : Filling
start = record { ready = []; chain = []; glued = false; hash = None }

abbrev pub fill : Use → List (List ℕ) → Filling → List PpToken → Outcome (List Item)
fill u names f [] = done names (f.ready ++ f.chain)
fill u names f (t ∷ ts) = next u names f t ts >>= λ names g. fill u names g ts

-- the replacement: it may not be replaced by these macros, and has the white space of the name
abbrev pub replacement : Use → List (List ℕ) → Set → Bool → List PpToken → Outcome (List Item)
replacement u names hide space body = fill u names start body >>= λ names is. done names (with_space space (hide_all hide is))
