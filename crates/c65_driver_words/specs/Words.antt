-- The words of the command line: `go` and `build` and `text` and `depth` with options and files, `run` with options and an image,
-- `gen` with options and a number, and behind `--` the arguments of `go`, `run` and `depth`.
use Rattle.std.specs.Prelude.{◌≡◌, ⊤, ℕ, ◌+◌, List, [], ◌∷◌, ◌++◌, Bool, true, false, not, ◌&&◌, ◌||◌, if◌then◌else◌, ◌==◌, codes, bytes_eq, is_some, Option, Some, None, Result, Ok, Err}
use Rattle.std.specs.List.{list_any}
use Rattle.c65_base.specs.declared.options.Options.{Options}
use Rattle.c65_base.specs.declared.options.Cpu.{Cpu}
use Rattle.c65_base.specs.declared.options.Cpu.TheVariants.{Nmos, Cmos}
use Rattle.c65_base.specs.declared.refusal.Refusal.{Refusal}
use Rattle.c65_base.specs.declared.refusal.Refusal.TheVariants as refusals
use Rattle.c65_lex.specs.declared.define.Define.{Define}
use Rattle.c65_driver_words.specs.declared.command.CommandKind.{CommandKind}
use Rattle.c65_driver_words.specs.declared.command.CommandKind.TheVariants as kinds
use Rattle.c65_driver_words.specs.declared.value.Value.{Value}
use Rattle.c65_driver_words.specs.declared.value.Value.TheVariants as values
use Rattle.c65_driver_words.specs.declared.value.Flag.{Flag}
use Rattle.c65_driver_words.specs.declared.value.Flag.TheVariants as flags
use Rattle.c65_driver_words.specs.Commands.{Spelled}
use Rattle.c65_driver_words.specs.Values.{is_file, is_among, cycles_in, number_in, behind, define_in}

-- what the words so far have told, and the option whose value is the next word
pub record Told : Type 0 where
  pub kind : CommandKind
  pub options : Options
  pub defines : List Define
  pub folders : List (List ℕ)
  pub files : List (List ℕ)
  pub out : Option (List ℕ)
  pub cycles : Option ℕ
  pub known : Bool
  pub number : Option ℕ
  pub has_target : Bool
  pub has_processor : Bool
  pub waits : Option Value

abbrev pub no_options : Options
no_options = record { optimise = false; inline_more = false; register_vars = false; known_functions = false; signed_chars = false; static_locals = false; check_stack = false; cpu = Nmos }

abbrev pub nothing_told : CommandKind → Told
nothing_told kind = record { kind = kind; options = no_options; defines = []; folders = []; files = []; out = None; cycles = None; known = false; number = None; has_target = false; has_processor = false; waits = None }

-- which command takes which option: those of the compiler,
abbrev pub compiles : CommandKind → Bool
compiles kinds.Run = false
compiles _ = true

-- `-D` and `-I`,
abbrev pub reads_sources : CommandKind → Bool
reads_sources kinds.Run = false
reads_sources kinds.Gen = false
reads_sources _ = true

-- `-o`,
abbrev pub writes : CommandKind → Bool
writes kinds.Build = true
writes kinds.Text = true
writes _ = false

-- `-x`,
abbrev pub counts_cycles : CommandKind → Bool
counts_cycles kinds.Go = true
counts_cycles kinds.Run = true
counts_cycles _ = false

-- `--known`,
abbrev pub prints : CommandKind → Bool
prints kinds.Text = true
prints _ = false

-- and which one arguments
abbrev pub passes_args : CommandKind → Bool
passes_args kinds.Go = true
passes_args kinds.Run = true
passes_args kinds.Depth = true
passes_args _ = false

-- whether an option with a value may stand now: four of them stand at most once
abbrev pub may_stand : Told → Value → Bool
may_stand told values.Define = reads_sources told.kind
may_stand told values.Folder = reads_sources told.kind
may_stand told values.Target = compiles told.kind && not told.has_target
may_stand told values.Processor = compiles told.kind && not told.has_processor
may_stand told values.Out = writes told.kind && not (is_some told.out)
may_stand told values.Cycles = counts_cycles told.kind && not (is_some told.cycles)

abbrev pub with_define : Told → Option Define → Option Told
with_define told None = None
with_define told (Some define) = Some (record told { defines = told.defines ++ define ∷ []; waits = None })

abbrev pub with_cycles : Told → Option ℕ → Option Told
with_cycles told None = None
with_cycles told (Some cycles) = Some (record told { cycles = Some cycles; waits = None })

-- the names of the processors
abbrev pub processor_in : List ℕ → Option Cpu
processor_in text =
    if bytes_eq text (codes "6502") then Some Nmos else
    if bytes_eq text (codes "65c02") then Some Cmos else None

abbrev pub with_processor : Told → Option Cpu → Option Told
with_processor told None = None
with_processor told (Some cpu) = Some (record told { options = record told.options { cpu = cpu }; has_processor = true; waits = None })

-- the value of an option
abbrev pub with_value : Value → Told → List ℕ → Option Told
with_value values.Define told text = with_define told (define_in text)
with_value values.Folder told text = if is_file text then Some (record told { folders = told.folders ++ text ∷ []; waits = None }) else None
with_value values.Target told text = if bytes_eq text (codes "sim6502") then Some (record told { has_target = true; waits = None }) else None
with_value values.Processor told text = with_processor told (processor_in text)
with_value values.Out told text = if is_file text then Some (record told { out = Some text; waits = None }) else None
with_value values.Cycles told text = with_cycles told (cycles_in text)

abbrev pub takes_flag : CommandKind → Flag → Bool
takes_flag kind flags.Known = prints kind
takes_flag kind _ = compiles kind

abbrev pub set_flag : Flag → Told → Told
set_flag flags.RegisterVars told = record told { options = record told.options { register_vars = true } }
set_flag flags.SignedChars told = record told { options = record told.options { signed_chars = true } }
set_flag flags.StaticLocals told = record told { options = record told.options { static_locals = true } }
set_flag flags.CheckStack told = record told { options = record told.options { check_stack = true } }
set_flag flags.Known told = record told { known = true }

abbrev pub with_flag : Flag → Told → Option Told
with_flag flag told = if takes_flag told.kind flag then Some (set_flag flag told) else None

-- what follows `-O`: any of `i`, `r` and `s`, each at most once
abbrev pub are_letters : List ℕ → Bool
are_letters [] = true
are_letters (letter ∷ letters) = is_among letter (codes "irs") && not (is_among letter letters) && are_letters letters

-- `-O` asks for the optimiser, and each letter for one thing more
abbrev pub optimised : List ℕ → Options → Options
optimised letters asked = record asked {
  optimise = true;
  inline_more = asked.inline_more || is_among 105 letters;
  register_vars = asked.register_vars || is_among 114 letters;
  known_functions = asked.known_functions || is_among 115 letters;
}

abbrev pub with_letters : Told → List ℕ → Option Told
with_letters told letters = if compiles told.kind && are_letters letters then Some (record told { options = optimised letters told.options }) else None

-- the words that are an option by themselves
abbrev pub flag_in : List ℕ → Option Flag
flag_in word =
    if bytes_eq word (codes "-r") then Some flags.RegisterVars else
    if bytes_eq word (codes "--register-vars") then Some flags.RegisterVars else
    if bytes_eq word (codes "-j") then Some flags.SignedChars else
    if bytes_eq word (codes "--signed-chars") then Some flags.SignedChars else
    if bytes_eq word (codes "-Cl") then Some flags.StaticLocals else
    if bytes_eq word (codes "--static-locals") then Some flags.StaticLocals else
    if bytes_eq word (codes "--check-stack") then Some flags.CheckStack else
    if bytes_eq word (codes "--known") then Some flags.Known else None

-- the options whose value is the next word
abbrev pub value_in : List ℕ → Option Value
value_in word =
    if bytes_eq word (codes "-D") then Some values.Define else
    if bytes_eq word (codes "-I") then Some values.Folder else
    if bytes_eq word (codes "-t") then Some values.Target else
    if bytes_eq word (codes "--cpu") then Some values.Processor else
    if bytes_eq word (codes "-o") then Some values.Out else
    if bytes_eq word (codes "-x") then Some values.Cycles else None

-- one image, or any number of files
abbrev pub has_place : CommandKind → List (List ℕ) → Bool
has_place kinds.Run (file ∷ files) = false
has_place _ files = true

abbrev pub with_file : Told → List ℕ → Option Told
with_file told word = if is_file word && has_place told.kind told.files then Some (record told { files = told.files ++ word ∷ [] }) else None

-- the number of `gen`
abbrev pub with_number : Told → Option ℕ → Option Told
with_number told None = None
with_number told (Some number) = if is_some told.number then None else Some (record told { number = Some number })

-- a word that is no option
abbrev pub with_operand : CommandKind → Told → List ℕ → Option Told
with_operand kinds.Gen told word = with_number told (number_in word)
with_operand _ told word = with_file told word

-- an option with its value in one word
abbrev pub with_joined : Value → Told → List ℕ → Option Told
with_joined value told text = if may_stand told value then with_value value told text else None

abbrev pub told_optimiser : Told → List ℕ → Option (List ℕ) → Option Told
told_optimiser told word (Some letters) = with_letters told letters
told_optimiser told word None = with_operand told.kind told word

abbrev pub told_processor : Told → List ℕ → Option (List ℕ) → Option Told
told_processor told word (Some text) = with_joined values.Processor told text
told_processor told word None = told_optimiser told word (behind (codes "-O") word)

abbrev pub told_folder : Told → List ℕ → Option (List ℕ) → Option Told
told_folder told word (Some text) = with_joined values.Folder told text
told_folder told word None = told_processor told word (behind (codes "--cpu=") word)

abbrev pub told_define : Told → List ℕ → Option (List ℕ) → Option Told
told_define told word (Some text) = with_joined values.Define told text
told_define told word None = told_folder told word (behind (codes "-I") word)

abbrev pub told_joined : Told → List ℕ → Option Told
told_joined told word = told_define told word (behind (codes "-D") word)

-- an option whose value is the next word
abbrev pub with_option : Value → Told → Option Told
with_option value told = if may_stand told value then Some (record told { waits = Some value }) else None

abbrev pub told_value : Told → List ℕ → Option Value → Option Told
told_value told word (Some value) = with_option value told
told_value told word None = told_joined told word

abbrev pub told_flag : Told → List ℕ → Option Flag → Option Told
told_flag told word (Some flag) = with_flag flag told
told_flag told word None = told_value told word (value_in word)

abbrev pub told_by : Option Value → Told → List ℕ → Option Told
told_by (Some value) told word = with_value value told word
told_by None told word = told_flag told word (flag_in word)

-- one word more, if the words go on so
abbrev pub told_more : Told → List ℕ → Option Told
told_more told word = told_by told.waits told word

-- a command, or the number of the first word at which no command continues, counted from 0
pub data Spelling : Type 0 where
  Is : (command : Spelled) → Spelling
  NoCommand : (word : ℕ) → Spelling

abbrev pub has_files : List (List ℕ) → Bool
has_files [] = false
has_files (file ∷ files) = true

abbrev pub has_operand : CommandKind → Told → Bool
has_operand kinds.Gen told = is_some told.number
has_operand _ told = has_files told.files

-- whether the words may end here, or `--` may follow
abbrev pub is_whole : Told → Bool
is_whole told = not (is_some told.waits) && has_operand told.kind told

abbrev pub takes_args : Told → Bool
takes_args told = is_whole told && passes_args told.kind

-- 0 where there is none
abbrev pub number_of : Option ℕ → ℕ
number_of None = 0
number_of (Some number) = number

abbrev pub command_by : Told → List (List ℕ) → Spelled
command_by told args = record { kind = told.kind; options = told.options; defines = told.defines; folders = told.folders; files = told.files; args = args; out = told.out; cycles = told.cycles; known = told.known; number = number_of told.number }

abbrev pub ended_at : ℕ → Told → Spelling
ended_at at told = if is_whole told then Is (command_by told []) else NoCommand at

-- behind `--`: any words that hold no zero byte
abbrev pub args_from : ℕ → Told → List (List ℕ) → List (List ℕ) → Spelling
args_from at told args [] = Is (command_by told args)
args_from at told args (word ∷ words) =
    if list_any (λ byte. byte == 0) word then NoCommand at else args_from (at + 1) told (args ++ word ∷ []) words

abbrev pub given_at : ℕ → Told → List (List ℕ) → Spelling
given_at at told words = if takes_args told then args_from (at + 1) told [] words else NoCommand at

-- the words from this number on
abbrev pub words_from : ℕ → Told → List (List ℕ) → Spelling
words_from at told [] = ended_at at told
words_from at told (word ∷ words) =
    if bytes_eq word (codes "--") && not (is_some told.waits)
    then given_at at told words
    else elim (told_more told word) [ None ↦ NoCommand at | Some more ↦ words_from (at + 1) more words ]

abbrev pub kind_in : List ℕ → Option CommandKind
kind_in word =
    if bytes_eq word (codes "go") then Some kinds.Go else
    if bytes_eq word (codes "build") then Some kinds.Build else
    if bytes_eq word (codes "run") then Some kinds.Run else
    if bytes_eq word (codes "text") then Some kinds.Text else
    if bytes_eq word (codes "gen") then Some kinds.Gen else
    if bytes_eq word (codes "depth") then Some kinds.Depth else None

abbrev pub spelling_by : Option CommandKind → List (List ℕ) → Spelling
spelling_by None words = NoCommand 0
spelling_by (Some kind) words = words_from 1 (nothing_told kind) words

abbrev pub spelling_of : List (List ℕ) → Spelling
spelling_of [] = NoCommand 0
spelling_of (word ∷ words) = spelling_by (kind_in word) words

-- the command that is spelled, or the word at which none continues; memory may be wanting
abbrev pub Spells : Spelling → Result Spelled Refusal → Type 0
Spells spelling (Ok command) = spelling ≡ Is command
Spells spelling (Err refusals.OutOfMemory) = ⊤
Spells spelling (Err (refusals.Usage word)) = spelling ≡ NoCommand word
Spells spelling (Err refusal) = ⊥
