-- What the words of a command leave: arguments that are bytes, and few cycles.
use Rattle.std.proofs.Common.{◌≡◌, ℕ, ◌+◌, ◌^◌, ◌<◌, Bool, true, false, not, List, [], ◌∷◌, ◌++◌, Option, Some, None, refl, subst}
use Rattle.std.specs.Prelude.{All, IsTrue, ◌&&◌, if◌then◌else◌, ◌==◌, nat_lt, bytes_eq, codes, is_some, take}
use Rattle.std.specs.List.{list_any}
use Rattle.std.specs.Str.Parse.{digits_value}
use Rattle.std.proofs.lemmas.Bool.{ltb-true}
use Rattle.std.proofs.lemmas.List.Elements.{All-nil, All-head, All-tail, All-push, All-append, All-take}
use Rattle.c65_base.specs.declared.options.Cpu.{Cpu}
use Rattle.c65_lex.specs.declared.define.Define.{Define}
use Rattle.c65_driver_words.specs.declared.command.CommandKind.{CommandKind}
use Rattle.c65_driver_words.specs.declared.command.CommandKind.TheVariants as kinds
use Rattle.c65_driver_words.specs.declared.value.Flag.{Flag}
use Rattle.c65_driver_words.specs.declared.value.Flag.TheVariants as flags
use Rattle.c65_driver_words.specs.declared.value.Value.{Value}
use Rattle.c65_driver_words.specs.declared.value.Value.TheVariants as values
use Rattle.c65_driver_words.specs.Commands.{Spelled}
use Rattle.c65_driver_words.specs.Values.{is_file, whole_by, is_digits, cycles_in, number_in, behind, define_in}
use Rattle.c65_driver_words.specs.Words.{Told, nothing_told, compiles, may_stand, with_define, with_cycles, processor_in, with_processor, with_value, flag_in, value_in, has_place, with_file, with_number, with_operand, with_joined, takes_flag, set_flag, are_letters, with_letters, told_optimiser, told_processor, told_folder, told_define, told_value, told_flag, told_by, told_more, Is, NoCommand, is_whole, takes_args, command_by, args_from, given_at, words_from, kind_in, spelling_by, spelling_of}
use Rattle.c65_headline.specs.Images.{AreBytes}
use Rattle.c65_headline.specs.Planned.{WordsAreSpelled}
use Rattle.c65_headline.proofs.Tests.{both}

-- what the words so far have told
record IsTold (told : Told) : Type 0 where
  files : All AreBytes told.files
  cycles : (n : ℕ) → told.cycles ≡ Some n → n < 2 ^ 32

is_told : (a b : Told) → (let x : Option Told = Some a in x ≡ Some b) → a ≡ b
is_told a b h = cc

not_told : {A : Type 0} (b : Told) → (let x : Option Told = None in x ≡ Some b) → A
not_told b h = absurd (let k : (let x : Option Told = None in x ≡ Some b) = h in cc)

at_last : (a b : Told) → IsTold a → (let x : Option Told = Some a in x ≡ Some b) → IsTold b
at_last a b i h = subst IsTold (is_told a b h) i

at_test : (t : Bool) (a b : Told) → IsTold a → (if t then Some a else None) ≡ Some b → IsTold b
at_test true a b i h = at_last a b i h
at_test false a b i h = not_told b h

-- ---- values of options

few_cycles : (word : List ℕ) (b : Bool) (n : ℕ) → (IsTrue b → digits_value 10 word < 2 ^ 32) → (if b then Some (digits_value 10 word) else None) ≡ Some n → n < 2 ^ 32
few_cycles word true n f h =
    let same : digits_value 10 word ≡ n = let k : (let x : Option ℕ = Some (digits_value 10 word) in x ≡ Some n) = h in cc in
    subst (λ x. x < 2 ^ 32) same (f refl)
few_cycles word false n f h = absurd (let k : (let x : Option ℕ = None in x ≡ Some n) = h in cc)

whole_is_few : (word : List ℕ) (n : ℕ) → whole_by word ≡ Some n → n < 2 ^ 32
whole_is_few word n h = few_cycles word (nat_lt 0 (digits_value 10 word) && nat_lt (digits_value 10 word) (2 ^ 32)) n
    (λ t. ltb-true (digits_value 10 word) (2 ^ 32) ((both (nat_lt 0 (digits_value 10 word)) (nat_lt (digits_value 10 word) (2 ^ 32)) t).1)) h

cycles_are_few : (word : List ℕ) (n : ℕ) → cycles_in word ≡ Some n → n < 2 ^ 32
cycles_are_few word n h = by (is_digits 10 word) h
  where
    by : (b : Bool) → (if b then whole_by word else None) ≡ Some n → n < 2 ^ 32
    by true k = whole_is_few word n k
    by false k = absurd (let none : (let x : Option ℕ = None in x ≡ Some n) = k in cc)

define_told : (told more : Told) (o : Option Define) → IsTold told → with_define told o ≡ Some more → IsTold more
define_told told more None i h = not_told more h
define_told told more (Some d) i h = at_last _ more (record { files = i.files; cycles = i.cycles }) h

cycles_told : (told more : Told) (o : Option ℕ) → ((n : ℕ) → o ≡ Some n → n < 2 ^ 32) → IsTold told → with_cycles told o ≡ Some more → IsTold more
cycles_told told more None few i h = not_told more h
cycles_told told more (Some c) few i h = at_last _ more (record { files = i.files; cycles = λ n e. few n e }) h

processor_told : (told more : Told) (o : Option Cpu) → IsTold told → with_processor told o ≡ Some more → IsTold more
processor_told told more None i h = not_told more h
processor_told told more (Some cpu) i h = at_last _ more (record { files = i.files; cycles = i.cycles }) h

value_told : (v : Value) (told more : Told) (text : List ℕ) → IsTold told → with_value v told text ≡ Some more → IsTold more
value_told values.Define told more text i h = define_told told more (define_in text) i h
value_told values.Folder told more text i h = at_test (is_file text) _ more (record { files = i.files; cycles = i.cycles }) h
value_told values.Target told more text i h = at_test (bytes_eq text (codes "sim6502")) _ more (record { files = i.files; cycles = i.cycles }) h
value_told values.Processor told more text i h = processor_told told more (processor_in text) i h
value_told values.Out told more text i h = at_test (is_file text) _ more (record { files = i.files; cycles = i.cycles }) h
value_told values.Cycles told more text i h = cycles_told told more (cycles_in text) (λ n e. cycles_are_few text n e) i h

-- ---- words

file_told : (told more : Told) (word : List ℕ) → AreBytes word → IsTold told → with_file told word ≡ Some more → IsTold more
file_told told more word bytes i h = at_test (is_file word && has_place told.kind told.files) _ more
    (record { files = All-push AreBytes told.files word i.files bytes; cycles = i.cycles }) h

number_told : (told more : Told) (o : Option ℕ) → IsTold told → with_number told o ≡ Some more → IsTold more
number_told told more None i h = not_told more h
number_told told more (Some n) i h = by (is_some told.number) h
  where
    by : (b : Bool) → (if b then None else Some (record told { number = Some n })) ≡ Some more → IsTold more
    by true k = not_told more k
    by false k = at_last _ more (record { files = i.files; cycles = i.cycles }) k

operand_told : (kind : CommandKind) (told more : Told) (word : List ℕ) → AreBytes word → IsTold told → with_operand kind told word ≡ Some more → IsTold more
operand_told kinds.Gen told more word bytes i h = number_told told more (number_in word) i h
operand_told kinds.Go told more word bytes i h = file_told told more word bytes i h
operand_told kinds.Build told more word bytes i h = file_told told more word bytes i h
operand_told kinds.Run told more word bytes i h = file_told told more word bytes i h
operand_told kinds.Text told more word bytes i h = file_told told more word bytes i h
operand_told kinds.Depth told more word bytes i h = file_told told more word bytes i h

joined_told : (v : Value) (told more : Told) (text : List ℕ) → IsTold told → with_joined v told text ≡ Some more → IsTold more
joined_told v told more text i h = at (may_stand told v) h
  where
    at : (b : Bool) → (if b then with_value v told text else None) ≡ Some more → IsTold more
    at true k = value_told v told more text i k
    at false k = not_told more k

letters_told : (told more : Told) (letters : List ℕ) → IsTold told → with_letters told letters ≡ Some more → IsTold more
letters_told told more letters i h = at_test (compiles told.kind && are_letters letters) _ more (record { files = i.files; cycles = i.cycles }) h

optimiser_word : (told more : Told) (word : List ℕ) (o : Option (List ℕ)) → AreBytes word → IsTold told → told_optimiser told word o ≡ Some more → IsTold more
optimiser_word told more word (Some letters) bytes i h = letters_told told more letters i h
optimiser_word told more word None bytes i h = operand_told told.kind told more word bytes i h

processor_word : (told more : Told) (word : List ℕ) (o : Option (List ℕ)) → AreBytes word → IsTold told → told_processor told word o ≡ Some more → IsTold more
processor_word told more word (Some text) bytes i h = joined_told values.Processor told more text i h
processor_word told more word None bytes i h = optimiser_word told more word (behind (codes "-O") word) bytes i h

folder_word : (told more : Told) (word : List ℕ) (o : Option (List ℕ)) → AreBytes word → IsTold told → told_folder told word o ≡ Some more → IsTold more
folder_word told more word (Some text) bytes i h = joined_told values.Folder told more text i h
folder_word told more word None bytes i h = processor_word told more word (behind (codes "--cpu=") word) bytes i h

define_word : (told more : Told) (word : List ℕ) (o : Option (List ℕ)) → AreBytes word → IsTold told → told_define told word o ≡ Some more → IsTold more
define_word told more word (Some text) bytes i h = joined_told values.Define told more text i h
define_word told more word None bytes i h = folder_word told more word (behind (codes "-I") word) bytes i h

value_word : (told more : Told) (word : List ℕ) (o : Option Value) → AreBytes word → IsTold told → told_value told word o ≡ Some more → IsTold more
value_word told more word (Some v) bytes i h = at_test (may_stand told v) _ more (record { files = i.files; cycles = i.cycles }) h
value_word told more word None bytes i h = define_word told more word (behind (codes "-D") word) bytes i h

flag_told : (flag : Flag) (told : Told) → IsTold told → IsTold (set_flag flag told)
flag_told flags.RegisterVars told i = record { files = i.files; cycles = i.cycles }
flag_told flags.SignedChars told i = record { files = i.files; cycles = i.cycles }
flag_told flags.StaticLocals told i = record { files = i.files; cycles = i.cycles }
flag_told flags.CheckStack told i = record { files = i.files; cycles = i.cycles }
flag_told flags.Known told i = record { files = i.files; cycles = i.cycles }

flag_word : (told more : Told) (word : List ℕ) (o : Option Flag) → AreBytes word → IsTold told → told_flag told word o ≡ Some more → IsTold more
flag_word told more word (Some flag) bytes i h = at_test (takes_flag told.kind flag) (set_flag flag told) more (flag_told flag told i) h
flag_word told more word None bytes i h = value_word told more word (value_in word) bytes i h

word_told : (told more : Told) (word : List ℕ) (o : Option Value) → AreBytes word → IsTold told → told_by o told word ≡ Some more → IsTold more
word_told told more word (Some v) bytes i h = value_told v told more word i h
word_told told more word None bytes i h = flag_word told more word (flag_in word) bytes i h

-- ---- a command

-- what is asked of it
record IsWell (command : Spelled) : Type 0 where
  files : All AreBytes command.files
  args : All AreBytes command.args
  cycles : (n : ℕ) → command.cycles ≡ Some n → n < 2 ^ 32

is_command : (a b : Spelled) → Is a ≡ Is b → a ≡ b
is_command a b h = cc

no_command : {A : Type 0} (at : ℕ) (b : Spelled) → NoCommand at ≡ Is b → A
no_command at b h = absurd (let k : NoCommand at ≡ Is b = h in cc)

well : (told : Told) (args : List (List ℕ)) (c : Spelled) → IsTold told → All AreBytes args → Is (command_by told args) ≡ Is c → IsWell c
well told args c i a h = subst IsWell (is_command (command_by told args) c h) (record { files = i.files; args = a; cycles = i.cycles })

args_well : (at : ℕ) (told : Told) (args words : List (List ℕ)) (c : Spelled) → IsTold told → All AreBytes args → All AreBytes words → args_from at told args words ≡ Is c → IsWell c
args_well at told args [] c i a w h = well told args c i a h
args_well at told args (word ∷ words) c i a w h =
    by (list_any (λ byte. byte == 0) word) h
    (args_well (at + 1) told (args ++ word ∷ []) words c i (All-push AreBytes args word a (All-head AreBytes word words w)) (All-tail AreBytes word words w))
  where
    by : (b : Bool) → (if b then NoCommand at else args_from (at + 1) told (args ++ word ∷ []) words) ≡ Is c → (args_from (at + 1) told (args ++ word ∷ []) words ≡ Is c → IsWell c) → IsWell c
    by true k f = no_command at c k
    by false k f = f k

given_well : (at : ℕ) (told : Told) (words : List (List ℕ)) (c : Spelled) → IsTold told → All AreBytes words → given_at at told words ≡ Is c → IsWell c
given_well at told words c i w h = by (takes_args told) h
  where
    by : (b : Bool) → (if b then args_from (at + 1) told [] words else NoCommand at) ≡ Is c → IsWell c
    by true k = args_well (at + 1) told [] words c i (All-nil AreBytes) w k
    by false k = no_command at c k

words_well : (at : ℕ) (told : Told) (words : List (List ℕ)) (c : Spelled) → IsTold told → All AreBytes words → words_from at told words ≡ Is c → IsWell c
words_well at told [] c i w h = by (is_whole told) h
  where
    by : (b : Bool) → (if b then Is (command_by told []) else NoCommand at) ≡ Is c → IsWell c
    by true k = well told [] c i (All-nil AreBytes) k
    by false k = no_command at c k
words_well at told (word ∷ words) c i w h =
    by (bytes_eq word (codes "--") && not (is_some told.waits)) h (λ more e. words_well (at + 1) more words c (word_told told more word told.waits (All-head AreBytes word words w) i e) (All-tail AreBytes word words w))
  where
    next : (o : Option Told) → told_more told word ≡ o → (elim o [ None ↦ NoCommand at | Some more ↦ words_from (at + 1) more words ]) ≡ Is c
        → ((more : Told) → told_more told word ≡ Some more → words_from (at + 1) more words ≡ Is c → IsWell c) → IsWell c
    next None e k f = no_command at c k
    next (Some more) e k f = f more e k

    by : (b : Bool) → (if b then given_at at told words else elim (told_more told word) [ None ↦ NoCommand at | Some more ↦ words_from (at + 1) more words ]) ≡ Is c
        → ((more : Told) → told_more told word ≡ Some more → words_from (at + 1) more words ≡ Is c → IsWell c) → IsWell c
    by true k f = given_well at told words c i (All-tail AreBytes word words w) k
    by false k f = next (told_more told word) refl k f

nothing_is_told : (kind : CommandKind) → IsTold (nothing_told kind)
nothing_is_told kind = record { files = All-nil AreBytes; cycles = λ n e. absurd (let k : (let x : Option ℕ = None in x ≡ Some n) = e in cc) }

kind_well : (o : Option CommandKind) (words : List (List ℕ)) (c : Spelled) → All AreBytes words → spelling_by o words ≡ Is c → IsWell c
kind_well None words c w h = no_command 0 c h
kind_well (Some kind) words c w h = words_well 1 (nothing_told kind) words c (nothing_is_told kind) w h

command_well : (words : List (List ℕ)) (c : Spelled) → All AreBytes words → spelling_of words ≡ Is c → IsWell c
command_well [] c w h = no_command 0 c h
command_well (word ∷ words) c w h = kind_well (kind_in word) words c (All-tail AreBytes word words w) h

pub words_are_spelled : WordsAreSpelled
words_are_spelled words c w h =
    let i : IsWell c = command_well words c w h in
    record { args = All-append AreBytes (take 1 c.files) c.args (All-take AreBytes 1 c.files i.files) i.args; cycles = i.cycles }
