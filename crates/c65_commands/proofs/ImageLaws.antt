-- What `run` answers, before and after the run of its image.
use Rattle.std.proofs.Common.{◌≡◌, ℕ, inl, List, None, Some, Option, Result, Ok, Err, true, false, sym, subst, refl, arith}
use Rattle.c65_base.specs.declared.refusal.Refusal.{Refusal}
use Rattle.c65_base.specs.declared.refusal.Refusal.TheVariants.{OutOfMemory, Missing, ReadFault, WriteFault, TooLarge, BadImage, HardStack, Limit, Illegal}
use Rattle.c65_code.specs.declared.code.Code.{Code}
use Rattle.c65_io.specs.Contents.{Contents}
use Rattle.c65_mach.specs.declared.image.Image.{Image}
use Rattle.c65_mach.specs.Images.{Parses}
use Rattle.c65_sim.specs.Runs.{ReadCause, WriteCause}
use Rattle.c65_driver_words.specs.Commands.{Spelled}
use Rattle.c65_commands.specs.Causes.{ReadCauses, MissCause}
use Rattle.c65_commands.specs.Outside.{FilesSide, Outside}
use Rattle.c65_commands.specs.Setups.{Setup, setup_of, ImageRuns, StopsBefore}
use Rattle.c65_commands.specs.Told.{HeldImage, ToldImage, SomeImage, RunAnswers, ToldRun, first_of}
use Rattle.c65_commands.specs.Tool.{RunServes, Runs}
use Rattle.c65_commands.proofs.GoLaws.{causes_after}

-- Before the run.

read_served : (file : List ℕ) (r : Refusal) → SomeImage file (Err r) → RunServes file (Err r)
read_served file OutOfMemory some = tt
read_served file (Missing path) some = some
read_served file ReadFault some = tt
read_served file (BadImage offset) some = tt
read_served file r some = absurd some

read_stops : (file : List ℕ) (r : Refusal) → SomeImage file (Err r) → StopsBefore (Err r)
read_stops file OutOfMemory some = tt
read_stops file (Missing path) some = tt
read_stops file ReadFault some = tt
read_stops file (BadImage offset) some = tt
read_stops file r some = absurd some

no_write : (file : List ℕ) (n : ℕ) (r : Refusal) → SomeImage file (Err r) → WriteCause {T = ℕ} n n (Err r)
no_write file n WriteFault some = absurd some
no_write file n r some = refl

causes_before : (f f' i : ℕ) (r : Refusal) → ReadCause {T = Image} f f' (Err r) → ReadCauses {T = ℕ} f f' i i (Err r)
causes_before f f' i ReadFault cause = (cause.0, omega arith, inl cause.1)
causes_before f f' i r cause = (cause, refl)

misses_before : (m m' : ℕ) (r : Refusal) → MissCause {T = Image} m m' (Err r) → MissCause {T = ℕ} m m' (Err r)
misses_before m m' (Missing path) cause = cause
misses_before m m' r cause = cause

read_told : (held : Option (List ℕ)) (file : List ℕ) (r : Refusal) → HeldImage held file (Err r) → RunAnswers held file (Err r)
read_told None file (Missing path) told = told
read_told None file OutOfMemory told = tt
read_told (Some bytes) file OutOfMemory told = tt
read_told (Some bytes) file (BadImage offset) told = told
read_told (Some bytes) file ReadFault told = tt
read_told None file r told = absurd told
read_told (Some bytes) file r told = absurd told

run_before : (held : Contents) (file : List ℕ) (r : Refusal) → ToldImage held file (Err r) → ToldRun held file (Err r)
run_before None file r told = tt
run_before (Some held) file r told = read_told (held file) file r told

run_held_free : (held : Option (List ℕ)) (file : List ℕ) → RunAnswers held file (Err OutOfMemory)
run_held_free None file = tt
run_held_free (Some bytes) file = tt

run_free : (held : Contents) (file : List ℕ) → ToldRun held file (Err OutOfMemory)
run_free None file = tt
run_free (Some held) file = run_held_free (held file) file

-- what reading the image leaves
pub record Reads (path : List ℕ) (old new : FilesSide) (answer : Result Image Refusal) : Type 0 where
  pub told : ToldImage old.contents path answer
  pub some : SomeImage path answer
  pub read : ReadCause old.faults new.faults answer
  pub missing : MissCause old.misses new.misses answer
  pub same : new.contents ≡ old.contents
  pub writes : new.writes ≡ old.writes

stopped : (command : Spelled) (path : List ℕ) (old new : FilesSide) (l w : Option (List ℕ)) (i o : ℕ) (r : Refusal) → path ≡ first_of command.files
    → Reads path old new (Err r)
    → Runs command (record { files = old; left = l; input_faults = i; written = w; out_faults = o }) (record { files = new; left = l; input_faults = i; written = w; out_faults = o }) None None (Err r)
stopped command path old new l w i o r is reads = record {
  served = subst (λ (p : List ℕ). RunServes p (Err r)) is (read_served path r reads.some);
  read = causes_before old.faults new.faults i r reads.read;
  missing = misses_before old.misses new.misses r reads.missing;
  write = no_write path o r reads.some;
  files = reads.same;
  file_writes = reads.writes;
  made = (read_stops path r reads.some, (refl, refl));
  told = subst (λ (p : List ℕ). ToldRun old.contents p (Err r)) is (run_before old.contents path r reads.told);
  told_made = tt;
  no_code = refl;
}

pub runs_stop : (command : Spelled) (path : List ℕ) (old new : FilesSide) (l w : Option (List ℕ)) (i o : ℕ) (code : Option Code) (image : Option Image) (r : Refusal)
    → code ≡ None → image ≡ None → path ≡ first_of command.files → Reads path old new (Err r)
    → Runs command (record { files = old; left = l; input_faults = i; written = w; out_faults = o }) (record { files = new; left = l; input_faults = i; written = w; out_faults = o }) code image (Err r)
runs_stop command path old new l w i o code image r no_code no_image is reads =
    let before : Outside = record { files = old; left = l; input_faults = i; written = w; out_faults = o } in
    let after : Outside = record { files = new; left = l; input_faults = i; written = w; out_faults = o } in
    subst (λ (made : Option Image). Runs command before after code made (Err r)) (sym no_image)
    (subst (λ (made : Option Code). Runs command before after made None (Err r)) (sym no_code) (stopped command path old new l w i o r is reads))

-- want of memory
pub runs_free : (command : Spelled) (old : Outside) → Runs command old old None None (Err OutOfMemory)
runs_free command old = record {
  served = tt;
  read = (refl, refl);
  missing = refl;
  write = refl;
  files = refl;
  file_writes = refl;
  made = (tt, (refl, refl));
  told = run_free old.files.contents (first_of command.files);
  told_made = tt;
  no_code = refl;
}

pub runs_none : (command : Spelled) (old : Outside) (code : Option Code) (image : Option Image) → code ≡ None → image ≡ None
    → Runs command old old code image (Err OutOfMemory)
runs_none command old code image no_code no_image =
    subst (λ (made : Option Image). Runs command old old code made (Err OutOfMemory)) (sym no_image)
    (subst (λ (made : Option Code). Runs command old old made None (Err OutOfMemory)) (sym no_code) (runs_free command old))

-- After the run.

run_served : (command : Spelled) (name : List ℕ) (image : Image) (l l' w w' : Option (List ℕ)) (r : Result ℕ Refusal) → ImageRuns (setup_of false command) image l l' w w' r
    → RunServes name r
run_served command name image l l' w w' (Ok s) runs = tt
run_served command name image l l' w w' (Err OutOfMemory) runs = tt
run_served command name image l l' w w' (Err ReadFault) runs = tt
run_served command name image l l' w w' (Err WriteFault) runs = tt
run_served command name image l l' w w' (Err (TooLarge limit value)) runs = runs.1
run_served command name image l l' w w' (Err (Limit count)) runs = tt
run_served command name image l l' w w' (Err (Illegal pc)) runs = tt
run_served command name image l l' w w' (Err (HardStack pc)) runs = absurd (let both : false ≡ true = runs.1.1.ends.0.guarded in cc)
run_served command name image l l' w w' (Err r) runs = absurd runs.1.1.ends

misses_after : (setup : Setup) (image : Image) (l l' w w' : Option (List ℕ)) (m m' : ℕ) (r : Result ℕ Refusal) → ImageRuns setup image l l' w w' r → m' ≡ m → MissCause m m' r
misses_after setup image l l' w w' m m' (Err (Missing path)) runs same = absurd runs.1.1.ends
misses_after setup image l l' w w' m m' (Ok s) runs same = same
misses_after setup image l l' w w' m m' (Err r) runs same = same

run_answers : (bytes name : List ℕ) (setup : Setup) (image : Image) (l l' w w' : Option (List ℕ)) (r : Result ℕ Refusal) → Parses bytes (Ok image)
    → ImageRuns setup image l l' w w' r → RunAnswers (Some bytes) name r
run_answers bytes name setup image l l' w w' (Ok s) told runs = (image, told)
run_answers bytes name setup image l l' w w' (Err OutOfMemory) told runs = tt
run_answers bytes name setup image l l' w w' (Err (Missing path)) told runs = absurd runs.1.1.ends
run_answers bytes name setup image l l' w w' (Err (BadImage offset)) told runs = absurd runs.1.1.ends
run_answers bytes name setup image l l' w w' (Err ReadFault) told runs = tt
run_answers bytes name setup image l l' w w' (Err r) told runs = (image, told)

run_held : (held : Option (List ℕ)) (name : List ℕ) (setup : Setup) (image : Image) (l l' w w' : Option (List ℕ)) (r : Result ℕ Refusal) → HeldImage held name (Ok image)
    → ImageRuns setup image l l' w w' r → RunAnswers held name r
run_held None name setup image l l' w w' r told runs = absurd told
run_held (Some bytes) name setup image l l' w w' r told runs = run_answers bytes name setup image l l' w w' r told runs

run_after : (held : Contents) (name : List ℕ) (setup : Setup) (image : Image) (l l' w w' : Option (List ℕ)) (r : Result ℕ Refusal) → ToldImage held name (Ok image)
    → ImageRuns setup image l l' w w' r → ToldRun held name r
run_after None name setup image l l' w w' r told runs = tt
run_after (Some held) name setup image l l' w w' r told runs = run_held (held name) name setup image l l' w w' r told runs

pub runs_run : (command : Spelled) (plan : Setup) (path : List ℕ) (old new : FilesSide) (l l' w w' : Option (List ℕ)) (i i' o o' : ℕ) (code : Option Code) (image : Image) (r : Result ℕ Refusal)
    → code ≡ None → plan ≡ setup_of false command → path ≡ first_of command.files → Reads path old new (Ok image)
    → ImageRuns plan image l l' w w' r → ReadCause i i' r → WriteCause o o' r
    → Runs command (record { files = old; left = l; input_faults = i; written = w; out_faults = o }) (record { files = new; left = l'; input_faults = i'; written = w'; out_faults = o' }) code (Some image) r
runs_run command plan path old new l l' w w' i i' o o' code image r no_code is named reads runs read write =
    let run : ImageRuns (setup_of false command) image l l' w w' r = subst (λ (s : Setup). ImageRuns s image l l' w w' r) is runs in
    record {
      served = run_served command (first_of command.files) image l l' w w' r run;
      read = causes_after old.faults new.faults i i' r reads.read read;
      missing = misses_after plan image l l' w w' old.misses new.misses r runs reads.missing;
      write = write;
      files = reads.same;
      file_writes = reads.writes;
      made = run;
      told = subst (λ (p : List ℕ). ToldRun old.contents p r) named (run_after old.contents path plan image l l' w w' r reads.told runs);
      told_made = subst (λ (p : List ℕ). ToldImage old.contents p (Ok image)) named reads.told;
      no_code = no_code;
    }
