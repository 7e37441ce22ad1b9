-- The tokens of an expansion, and what a step of it gives (C90 6.8.3).
use Rattle.std.specs.Prelude.{ℕ, ◌+◌, List, [], ◌∷◌, ◌++◌, map, length, Bool, true, false, ◌==◌, Option, Some, None, slice_get, if◌then◌else◌}
use Rattle.std.specs.Option.{unwrap_or}
use Rattle.c65_base.specs.declared.names.Name.{Name}
use Rattle.c65_base.specs.declared.refusal.Pos.{Pos}
use Rattle.c65_base.specs.declared.refusal.Size.TheVariants as sizes
use Rattle.c65_base.specs.Answers.{Fault, large}
use Rattle.c65_base.specs.Limits.{limit_of}
use Rattle.c65_base.specs.Names.{name_of}
use Rattle.c65_lex.specs.declared.token.PpKind.{PpKind}
use Rattle.c65_lex.specs.declared.token.PpToken.{PpToken}
use Rattle.c65_macro.specs.Table.{is_line_end}
use Rattle.c65_macro.specs.Sets.{Set, none, either}

-- A token with the macros that may no longer replace it, and whether a replacement has put it before
-- the rest of the list.
pub record Item : Type 0 where
  pub token : PpToken
  pub hide : Set
  pub put : Bool

-- what a step gives: too few steps were allowed; a fault; or a value, with the spellings known then
pub data Outcome (A : Type 0) : Type 0 where
  unfinished : Outcome A
  faulty : Fault → Outcome A
  done : List (List ℕ) → A → Outcome A

infixl 10 ◌>>=◌
abbrev pub ◌>>=◌ : {A B : Type 0} → Outcome A → (List (List ℕ) → A → Outcome B) → Outcome B
unfinished >>= f = unfinished
(faulty e) >>= f = faulty e
(done names x) >>= f = f names x

-- line ends are not counted
abbrev pub weight : PpToken → ℕ
weight t = if is_line_end t then 0 else 1

abbrev pub count : List Item → ℕ
count [] = 0
count (i ∷ is) = weight i.token + count is

-- how many of these a replacement has put there
abbrev pub put_count : List Item → ℕ
put_count [] = 0
put_count (i ∷ is) = (if i.put then weight i.token else 0) + put_count is

abbrev pub hidden : Set → Item → Item
hidden hs i = record { token = i.token; hide = either hs i.hide; put = true }

abbrev pub hide_all : Set → List Item → List Item
hide_all hs is = map (hidden hs) is

-- with this white space before the first
abbrev pub with_space : Bool → List Item → List Item
with_space space [] = []
with_space space (i ∷ is) = record i { token = record i.token { space = space } } ∷ is

abbrev pub items : List PpToken → List Item
items ts = map (λ t. record { token = t; hide = none; put = false }) ts

abbrev pub tokens : List Item → List PpToken
tokens is = map (λ i. i.token) is

abbrev pub spelling : List (List ℕ) → Name → List ℕ
spelling names name = unwrap_or (slice_get names name.0) []

-- a spelling's name: its own, or the next one, unless there are 65,535
abbrev pub learn_as : List (List ℕ) → List ℕ → Option ℕ → Outcome Name
learn_as names s (Some n) = done names (record { 0 = n })
learn_as names s None = if length names == limit_of sizes.Names then faulty (large sizes.Names (limit_of sizes.Names + 1)) else done (names ++ s ∷ []) (record { 0 = length names })

abbrev pub learn : List (List ℕ) → List ℕ → Outcome Name
learn names s = learn_as names s (name_of names s)

-- a token that is made in the place of another
abbrev pub made : List (List ℕ) → PpKind → List ℕ → Pos → Bool → Set → Outcome Item
made names kind s place space hide = learn names s >>= λ names name. done names (record { token = record { kind = kind; spelling = name; pos = place; space = space }; hide = hide; put = true })
