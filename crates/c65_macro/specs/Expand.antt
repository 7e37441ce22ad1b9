-- Macro expansion with hide sets (C90 6.8.3): the tokens that a list of tokens expands to, or the
-- first fault.
use Rattle.std.specs.Prelude.{◌≡◌, ℕ, zero, suc, ◌+◌, List, [], ◌∷◌, ◌++◌, true, false, not, ◌||◌, nat_lt, Option, Some, None, if◌then◌else◌, decimal}
use Rattle.c65_base.specs.declared.names.Name.{Name}
use Rattle.c65_base.specs.declared.refusal.Refusal.{Refusal}
use Rattle.c65_base.specs.declared.refusal.Refusal.TheVariants as refusals
use Rattle.c65_base.specs.declared.code.Code.TheVariants as codes
use Rattle.c65_base.specs.declared.refusal.Size.TheVariants as sizes
use Rattle.c65_base.specs.Answers.{Fault, at, large}
use Rattle.c65_lex.specs.declared.token.PpKind.TheVariants as kinds
use Rattle.c65_lex.specs.declared.token.PpToken.{PpToken}
use Rattle.c65_macro.specs.declared.item.Macro.{Macro}
use Rattle.c65_macro.specs.Table.{Table, same_name, lookup, is_name_kind, is_line_end, line_of}
use Rattle.c65_macro.specs.Items.{Item, Outcome, unfinished, faulty, done, ◌>>=◌, count, put_count, items, tokens, made}
use Rattle.c65_macro.specs.Sets.{with_name, both}
use Rattle.c65_macro.specs.Fill.{replacement}
use Rattle.c65_macro.specs.Uses.{Gathering, no_use, unclosed, above, closed, use_at, is_fit, is_replaced}

-- Expands a list: the spellings known, how many tokens wait outside of it, and how many tokens its
-- expansion may still have.
abbrev pub Expander : Type 0
Expander = List (List ℕ) → ℕ → ℕ → List Item → Outcome (List Item)

-- the first token stays
abbrev pub pass : Expander → List (List ℕ) → ℕ → ℕ → Item → List Item → Outcome (List Item)
pass go names outside room i is = go names outside room is >>= λ names out. done names (i ∷ out)

abbrev pub keep : Expander → List (List ℕ) → ℕ → ℕ → Item → List Item → Outcome (List Item)
keep go names outside zero i is = if is_line_end i.token then pass go names outside zero i is else faulty (large sizes.Tokens 500001)
keep go names outside (suc room) i is = if is_line_end i.token then pass go names outside (suc room) i is else pass go names outside room i is

-- A replacement is put before the rest, and expansion goes on there. At most 500,000 tokens wait.
abbrev pub put_before : Expander → List (List ℕ) → ℕ → ℕ → List Item → List Item → Outcome (List Item)
put_before go names outside room new is = if nat_lt 500000 (outside + count new + put_count is) then faulty (large sizes.Tokens 500001) else go names outside room (new ++ is)

-- an argument is replaced where its parameter stands somewhere beside no # and no ##
abbrev pub wanted : Table → List PpToken → Name → List Item → List Item
wanted table body p a = if is_replaced table.words p false body then a else []

-- each such argument is fully replaced, for itself
abbrev pub each : Table → (List (List ℕ) → List Item → Outcome (List Item)) → List PpToken → List (List ℕ) → List Name → List (List Item) → Outcome (List (List Item))
each table go body names [] args = done names []
each table go body names (p ∷ ps) [] = done names []
each table go body names (p ∷ ps) (a ∷ as') = go names (wanted table body p a) >>= λ names full. each table go body names ps as' >>= λ names fulls. done names (full ∷ fulls)

-- the replacement of a use, once its arguments are fully replaced
abbrev pub finish : Table → Expander → List (List ℕ) → ℕ → ℕ → Item → Item → List Item → Macro → List Name → List (List Item) → List (List Item) → Outcome (List Item)
finish table go names outside room i close rest m ps args fulls = replacement (record { words = table.words; params = Some ps; raw = args; full = fulls; place = i.token.pos }) names (with_name m.name.0 (both i.hide close.hide)) i.token.space m.body >>= λ names new. put_before go names outside room new rest

abbrev pub replace_use : Table → Expander → List (List ℕ) → ℕ → ℕ → Item → List Item → Macro → List Name → Gathering → Outcome (List Item)
replace_use table go names outside room i is m ps no_use = keep go names outside room i is
replace_use table go names outside room i is m ps unclosed = faulty (at codes.OpenArguments i.token.pos)
replace_use table go names outside room i is m ps (above f) = faulty f
replace_use table go names outside room i is m ps (closed args size close rest) = if not (is_fit ps args) then faulty (at codes.MacroArguments i.token.pos) else (each table (λ names arg. go names (outside + size + put_count rest) 500000 arg) m.body names ps args >>= λ names fulls. finish table go names outside room i close rest m ps args fulls)

abbrev pub replace_with : Table → Expander → List (List ℕ) → ℕ → ℕ → Item → List Item → Macro → Option (List Name) → Outcome (List Item)
replace_with table go names outside room i is m None = replacement (record { words = table.words; params = None; raw = []; full = []; place = i.token.pos }) names (with_name m.name.0 i.hide) i.token.space m.body >>= λ names new. put_before go names outside room new is
replace_with table go names outside room i is m (Some ps) = replace_use table go names outside room i is m ps (use_at table.words outside is)

-- C90 6.8.8: __LINE__ and __FILE__ are what stands at the place of their name
abbrev pub place_token : Table → List (List ℕ) → Item → Name → Outcome Item
place_token table names i name = if same_name name table.words.line then made names kinds.Number (decimal (line_of table i.token)) i.token.pos i.token.space (with_name name.0 i.hide) else done names (record { token = record { kind = kinds.Text; spelling = table.file; pos = i.token.pos; space = i.token.space }; hide = with_name name.0 i.hide; put = true })

abbrev pub replace_place : Table → Expander → List (List ℕ) → ℕ → ℕ → Item → List Item → Name → Outcome (List Item)
replace_place table go names outside room i is name = place_token table names i name >>= λ names new. put_before go names outside room (new ∷ []) is

abbrev pub replace : Table → Expander → List (List ℕ) → ℕ → ℕ → Item → List Item → Macro → Outcome (List Item)
replace table go names outside room i is m = if same_name m.name table.words.line || same_name m.name table.words.file then replace_place table go names outside room i is m.name else replace_with table go names outside room i is m m.params

abbrev pub in_front : Table → Expander → List (List ℕ) → ℕ → ℕ → Item → List Item → Option Macro → Outcome (List Item)
in_front table go names outside room i is None = keep go names outside room i is
in_front table go names outside room i is (Some m) = if i.hide i.token.spelling.0 then keep go names outside room i is else replace table go names outside room i is m

abbrev pub macro_of : Table → PpToken → Option Macro
macro_of table t = if is_name_kind t.kind then lookup table t.spelling else None

-- by at most this many nested steps
abbrev pub expand : Table → ℕ → Expander
expand table zero names outside room is = unfinished
expand table (suc n) names outside room [] = done names []
expand table (suc n) names outside room (i ∷ is) = in_front table (expand table n) names outside room i is (macro_of table i.token)

-- the expansion of a list, which has at most 500,000 tokens
abbrev pub expansion : Table → ℕ → List (List ℕ) → List PpToken → Outcome (List Item)
expansion table n names line = expand table n names 0 500000 (items line)

-- a list expands to these tokens, and these spellings are known then
abbrev pub Expands : Table → List (List ℕ) → List PpToken → List PpToken → List (List ℕ) → Type 0
Expands table names line out known = (n : ℕ) × (result : List Item) × (expansion table n names line ≡ done known result) × (out ≡ tokens result)

-- a fault stops the expansion
abbrev pub Faults : Table → List (List ℕ) → List PpToken → Fault → Type 0
Faults table names line fault = (n : ℕ) × (expansion table n names line ≡ faulty fault)

-- the refusal is the expansion's fault, or want of memory
abbrev pub Refuses : Refusal → Table → List (List ℕ) → List PpToken → Type 0
Refuses refusals.OutOfMemory table names line = Unit {0}
Refuses (refusals.At code pos) table names line = Faults table names line (at code pos)
Refuses (refusals.TooLarge limit value) table names line = Faults table names line (large limit value)
Refuses _ table names line = ⊥
