-- The macros that are defined from the start, and the names that macros look at (C90 6.8.8).
use Rattle.std.specs.Prelude.{ℕ, pos, List, [], ◌∷◌, ◌++◌, Bool, true, false, ◌&&◌, None, if◌then◌else◌, codes}
use Rattle.indexmap.specs.IndexMap.{insert_entry}
use Rattle.c65_base.specs.declared.names.Name.{Name}
use Rattle.c65_base.specs.declared.options.Options.{Options}
use Rattle.c65_lex.specs.declared.token.PpKind.{PpKind}
use Rattle.c65_lex.specs.declared.token.PpKind.TheVariants as kinds
use Rattle.c65_lex.specs.declared.token.PpToken.{PpToken}
use Rattle.c65_macro.specs.declared.item.Macro.{Macro}
use Rattle.c65_macro.specs.declared.item.Words.{Words}
use Rattle.c65_macro.specs.declared.given.Given.{Given}
use Rattle.c65_macro.specs.declared.given.Given.TheVariants.{Date, Time, Standard, Compiler, Optimised, Inlined, Registers, Known}
use Rattle.c65_macro.specs.Table.{Table, same_name}
use Rattle.c65_macro.specs.Items.{Outcome, done, ◌>>=◌, learn}

-- the date and the time do not depend on the clock; the letters of the optimiser need it
abbrev pub is_on : Given → Options → Bool
is_on Optimised o = o.optimise
is_on Inlined o = o.optimise && o.inline_more
is_on Registers o = o.optimise && o.register_vars
is_on Known o = o.optimise && o.known_functions
is_on _ o = true

abbrev pub name : Given → List ℕ
name Date = codes "__DATE__"
name Time = codes "__TIME__"
name Standard = codes "__STDC__"
name Compiler = codes "__CC65__"
name Optimised = codes "__OPT__"
name Inlined = codes "__OPT_i__"
name Registers = codes "__OPT_r__"
name Known = codes "__OPT_s__"

abbrev pub kind : Given → PpKind
kind Date = kinds.Text
kind Time = kinds.Text
kind _ = kinds.Number

abbrev pub text : Given → List ℕ
text Date = 34 ∷ (codes "Jan  1 1970" ++ 34 ∷ [])
text Time = 34 ∷ (codes "00:00:00" ++ 34 ∷ [])
text _ = codes "1"

abbrev pub all : List Given
all = Date ∷ Time ∷ Standard ∷ Compiler ∷ Optimised ∷ Inlined ∷ Registers ∷ Known ∷ []

-- with a macro without parameters
abbrev pub put : List (Name × Macro) → Name → List PpToken → List (Name × Macro)
put macros name body = insert_entry same_name macros name (record { name = name; params = None; body = body })

abbrev pub one_token : PpKind → Name → PpToken
one_token kind spelling = record { kind = kind; spelling = spelling; pos = record { file = 0; line = 1 }; space = false }

abbrev pub with_given : List (Name × Macro) → List (List ℕ) → Given → Outcome (List (Name × Macro))
with_given macros names given = learn names (name given) >>= λ names n. learn names (text given) >>= λ names t. done names (put macros n (one_token (kind given) t ∷ []))

abbrev pub with_if : Options → List (Name × Macro) → List (List ℕ) → Given → Outcome (List (Name × Macro))
with_if o macros names given = if is_on given o then with_given macros names given else done names macros

abbrev pub with_all : Options → List (Name × Macro) → List (List ℕ) → List Given → Outcome (List (Name × Macro))
with_all o macros names [] = done names macros
with_all o macros names (given ∷ rest) = with_if o macros names given >>= λ names macros. with_all o macros names rest

abbrev pub words_from : List (List ℕ) → Outcome Words
words_from names = learn names (codes "#") >>= λ names hash. learn names (codes "##") >>= λ names paste. learn names (codes "(") >>= λ names opening. learn names (codes ")") >>= λ names closing. learn names (codes ",") >>= λ names comma. learn names (codes "__LINE__") >>= λ names line. learn names (codes "__FILE__") >>= λ names file. learn names (codes "defined") >>= λ names defined. done names (record { hash = hash; paste = paste; opening = opening; closing = closing; comma = comma; line = line; file = file; defined = defined })

-- the table before any definition
abbrev pub initial : Options → List (List ℕ) → Outcome Table
initial o names = words_from names >>= λ names words. learn names (34 ∷ 34 ∷ []) >>= λ names file. with_all o (put (put [] words.line []) words.file []) names all >>= λ names macros. done names (record { predefined = macros; defined = []; words = words; file = file; offset = pos 0 })
