-- What `go` answers, before and after the run of its image.
use Rattle.std.proofs.Common.{◌≡◌, ℕ, ◌≤◌, ◌<◌, inl, inr, List, length, None, Some, Option, Result, Ok, Err, true, sym, subst, refl, arith}
use Rattle.c65_base.specs.declared.options.Cpu.{Cpu}
use Rattle.c65_base.specs.declared.refusal.Refusal.{Refusal}
use Rattle.c65_base.specs.declared.refusal.Refusal.TheVariants.{OutOfMemory, Missing, ReadFault, WriteFault, Source, TooLarge, BadImage, Link, HardStack, Limit, Illegal}
use Rattle.c65_base.specs.declared.refusal.Size.{Size}
use Rattle.c65_base.specs.declared.refusal.Size.TheVariants.{Units, Arguments}
use Rattle.c65_base.specs.Limits.{limit_of}
use Rattle.c65_code.specs.declared.code.Code.{Code}
use Rattle.c65_mach.specs.declared.image.Image.{Image}
use Rattle.c65_ppfile.specs.Counts.{FaultCause, MissCause as HeaderCause}
use Rattle.c65_sim.specs.Runs.{ReadCause, WriteCause}
use Rattle.c65_driver_chain.specs.Refused.{StopsChain, UnitsLimit}
use Rattle.c65_driver_words.specs.Commands.{Spelled}
use Rattle.c65_commands.specs.Causes.{ReadCauses}
use Rattle.c65_commands.specs.Compiled.{LinkedBy, IsLinked, Compiles, IsOfSources}
use Rattle.c65_commands.specs.Outside.{FilesSide, Outside}
use Rattle.c65_commands.specs.Setups.{Setup, setup_of, ImageRuns, StopsBefore}
use Rattle.c65_commands.specs.Tool.{GoServes, Goes}
use Rattle.c65_commands.proofs.FrontLaws.{sources_stop, sources_go, sources_free}

-- Before there is an image.

pub chain_limit : (limit : Size) (value : ℕ) → StopsChain (TooLarge limit value) → limit_of limit < value
chain_limit Units value stops = stops
chain_limit limit value stops = stops.1

chain_served : (r : Refusal) → StopsChain r → GoServes (Err r)
chain_served OutOfMemory stops = tt
chain_served (Missing path) stops = tt
chain_served ReadFault stops = tt
chain_served (Source code file line) stops = tt
chain_served (TooLarge limit value) stops = chain_limit limit value stops
chain_served (Link kind name) stops = tt
chain_served r stops = absurd stops

pub stops_before : (r : Refusal) → StopsChain r → StopsBefore (Err r)
stops_before (BadImage offset) stops = tt
stops_before r stops = stops

pub units_of : (A B : Type 0) (count : ℕ) (r : Refusal) → UnitsLimit {T = A} count (Err r) → UnitsLimit {T = B} count (Err r)
units_of A B count OutOfMemory units = tt
units_of A B count (TooLarge Units value) units = units
units_of A B count r units = units

pub headers_of : (A B : Type 0) (folders : List (List ℕ)) (m m' : ℕ) (r : Refusal) → HeaderCause {T = A} folders m m' (Err r) → HeaderCause {T = B} folders m m' (Err r)
headers_of A B folders m m' (Missing path) cause = cause
headers_of A B folders m m' r cause = cause

fault_reads : (f f' i : ℕ) (r : Refusal) → FaultCause {T = Image} f f' (Err r) → ReadCauses {T = ℕ} f f' i i (Err r)
fault_reads f f' i ReadFault cause = (cause.0, omega arith, inl cause.1)
fault_reads f f' i r cause = (cause, refl)

-- nothing was written
pub no_write : (n : ℕ) (r : Refusal) → StopsChain r → WriteCause {T = ℕ} n n (Err r)
no_write n WriteFault stops = absurd stops
no_write n r stops = refl

pub linked_stop : (cpu : Cpu) (code : Option Code) (r : Refusal) → LinkedBy cpu code (Err r) → IsLinked cpu code None (Err r)
linked_stop cpu None r by = tt
linked_stop cpu (Some code) r by = by

stopped : (command : Spelled) (old new : FilesSide) (l w : Option (List ℕ)) (i o : ℕ) (code : Option Code) (r : Refusal)
    → Compiles command.options.cpu command.folders command.files old new code (Err r) → IsOfSources {T = Image} command old.contents code (Err r)
    → Goes command (record { files = old; left = l; input_faults = i; written = w; out_faults = o }) (record { files = new; left = l; input_faults = i; written = w; out_faults = o }) code None (Err r)
stopped command old new l w i o code r stops sources = record {
  served = chain_served r stops.refused;
  units = units_of Image ℕ (length command.files) r stops.units;
  read = fault_reads old.faults new.faults i r stops.read;
  missing = headers_of Image ℕ command.folders old.misses new.misses r stops.missing;
  write = no_write o r stops.refused;
  files = stops.same;
  file_writes = stops.written;
  made = (stops_before r stops.refused, (refl, refl));
  from_text = stops.from_text;
  from_code = linked_stop command.options.cpu code r stops.from_code;
  from_files = sources_stop Image ℕ command old.contents code r sources;
}

pub goes_stop : (command : Spelled) (old new : FilesSide) (l w : Option (List ℕ)) (i o : ℕ) (code : Option Code) (image : Option Image) (r : Refusal)
    → image ≡ None → Compiles command.options.cpu command.folders command.files old new code (Err r) → IsOfSources {T = Image} command old.contents code (Err r)
    → Goes command (record { files = old; left = l; input_faults = i; written = w; out_faults = o }) (record { files = new; left = l; input_faults = i; written = w; out_faults = o }) code image (Err r)
goes_stop command old new l w i o code image r none stops sources =
    subst (λ (made : Option Image). Goes command (record { files = old; left = l; input_faults = i; written = w; out_faults = o }) (record { files = new; left = l; input_faults = i; written = w; out_faults = o }) code made (Err r))
    (sym none) (stopped command old new l w i o code r stops sources)

-- want of memory
pub goes_free : (command : Spelled) (old : Outside) → Goes command old old None None (Err OutOfMemory)
goes_free command old = record {
  served = tt;
  units = tt;
  read = (refl, refl);
  missing = omega arith;
  write = refl;
  files = refl;
  file_writes = refl;
  made = (tt, (refl, refl));
  from_text = tt;
  from_code = tt;
  from_files = sources_free ℕ command old.files.contents;
}

pub goes_none : (command : Spelled) (old : Outside) (code : Option Code) (image : Option Image) → code ≡ None → image ≡ None
    → Goes command old old code image (Err OutOfMemory)
goes_none command old code image no_code no_image =
    subst (λ (made : Option Image). Goes command old old code made (Err OutOfMemory)) (sym no_image)
    (subst (λ (made : Option Code). Goes command old old made None (Err OutOfMemory)) (sym no_code) (goes_free command old))

-- After the run.

run_served : (setup : Setup) (image : Image) (l l' w w' : Option (List ℕ)) (r : Result ℕ Refusal) → ImageRuns setup image l l' w w' r → GoServes r
run_served setup image l l' w w' (Ok s) runs = tt
run_served setup image l l' w w' (Err OutOfMemory) runs = tt
run_served setup image l l' w w' (Err ReadFault) runs = tt
run_served setup image l l' w w' (Err WriteFault) runs = tt
run_served setup image l l' w w' (Err (TooLarge limit value)) runs = subst (λ (s : Size). limit_of s < value) (sym runs.1) (omega (arith, runs.0, runs.2))
run_served setup image l l' w w' (Err (HardStack pc)) runs = tt
run_served setup image l l' w w' (Err (Limit count)) runs = tt
run_served setup image l l' w w' (Err (Illegal pc)) runs = tt
run_served setup image l l' w w' (Err r) runs = absurd runs.1.1.ends

run_units : (count : ℕ) (setup : Setup) (image : Image) (l l' w w' : Option (List ℕ)) (r : Result ℕ Refusal) → count ≤ limit_of Units → ImageRuns setup image l l' w w' r
    → UnitsLimit count r
run_units count setup image l l' w w' (Err OutOfMemory) few runs = tt
run_units count setup image l l' w w' (Err (TooLarge Units value)) few runs = let both : Units ≡ Arguments = runs.1 in absurd cc
run_units count setup image l l' w w' (Ok s) few runs = few
run_units count setup image l l' w w' (Err r) few runs = few

-- once there is an image, the files were read without a fault
pub causes_after : (f f' i i' : ℕ) (r : Result ℕ Refusal) → f' ≡ f → ReadCause i i' r → ReadCauses f f' i i' r
causes_after f f' i i' (Err ReadFault) same cause = (omega arith, cause.0, inr cause.1)
causes_after f f' i i' (Ok s) same cause = (same, cause)
causes_after f f' i i' (Err r) same cause = (same, cause)

misses_after : (folders : List (List ℕ)) (setup : Setup) (image : Image) (l l' w w' : Option (List ℕ)) (m m' : ℕ) (r : Result ℕ Refusal)
    → ImageRuns setup image l l' w w' r → m ≤ m' → HeaderCause folders m m' r
misses_after folders setup image l l' w w' m m' (Err (Missing path)) runs le = absurd runs.1.1.ends
misses_after folders setup image l l' w w' m m' (Ok s) runs le = le
misses_after folders setup image l l' w w' m m' (Err r) runs le = le

linked_run : (cpu : Cpu) (code : Option Code) (image : Image) (r : Result ℕ Refusal) → LinkedBy cpu code (Ok image) → IsLinked cpu code (Some image) r
linked_run cpu None image r by = absurd by
linked_run cpu (Some code) image r by = by

pub goes_run : (command : Spelled) (plan : Setup) (old new : FilesSide) (l l' w w' : Option (List ℕ)) (i i' o o' : ℕ) (code : Option Code) (image : Image) (r : Result ℕ Refusal)
    → plan ≡ setup_of true command → Compiles command.options.cpu command.folders command.files old new code (Ok image) → IsOfSources command old.contents code (Ok image)
    → ImageRuns plan image l l' w w' r → ReadCause i i' r → WriteCause o o' r
    → Goes command (record { files = old; left = l; input_faults = i; written = w; out_faults = o }) (record { files = new; left = l'; input_faults = i'; written = w'; out_faults = o' }) code (Some image) r
goes_run command plan old new l l' w w' i i' o o' code image r is made sources runs read write = record {
  served = run_served plan image l l' w w' r runs;
  units = run_units (length command.files) plan image l l' w w' r made.units runs;
  read = causes_after old.faults new.faults i i' r made.read read;
  missing = misses_after command.folders plan image l l' w w' old.misses new.misses r runs made.missing;
  write = write;
  files = made.same;
  file_writes = made.written;
  made = subst (λ (s : Setup). ImageRuns s image l l' w w' r) is runs;
  from_text = made.from_text;
  from_code = linked_run command.options.cpu code image r made.from_code;
  from_files = sources_go Image ℕ command old.contents code image r sources;
}
