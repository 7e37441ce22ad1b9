-- What `gen` does and answers.
use Rattle.std.proofs.Common.{◌≡◌, ◌≢◌, ℕ, ◌^◌, ◌-◌, Bool, true, false, cond, inl, List, [], length, bytes_eq, None, Some, Option, Result, Ok, Err, refl, ap, sym, subst, ◌∙◌, arith}
use Rattle.std.proofs.Math.Path.{fun_ext}
use Rattle.std.proofs.lemmas.Slice.Eq.{bytes_eq-Decides}
use Rattle.c65_base.specs.declared.options.Cpu.{Cpu}
use Rattle.c65_base.specs.declared.refusal.Refusal.{Refusal}
use Rattle.c65_base.specs.declared.refusal.Refusal.TheVariants.{OutOfMemory, Missing, ReadFault, WriteFault, Source, TooLarge, Link, HardStack, Limit, Illegal}
use Rattle.c65_base.specs.declared.refusal.Size.TheVariants.{Units}
use Rattle.c65_biggen.specs.Generated.{generated_source}
use Rattle.c65_code.specs.declared.code.Code.{Code}
use Rattle.c65_io.specs.Contents.{Contents}
use Rattle.c65_mach.specs.declared.image.Image.{Image}
use Rattle.c65_ppdir.specs.Units.{Held}
use Rattle.c65_sim.specs.declared.run.Budget.TheVariants.{Instructions}
use Rattle.c65_sim.specs.View.{RunView, started}
use Rattle.c65_sim.specs.Runs.{Runs, WriteCause}
use Rattle.c65_driver_chain.specs.Refused.{StopsChain, StopsLater, UnitsLimit}
use Rattle.c65_driver_words.specs.Commands.{Spelled}
use Rattle.c65_commands.specs.Assembly.{AppendsBytes}
use Rattle.c65_commands.specs.Compiled.{IsRead, LinkedBy, IsLinked, Compiles, IsOfFront, IsOfSources, WriteServes, front}
use Rattle.c65_commands.specs.Generated.{source_path, source_alone, source_command, IsOfSource, CompilesSource, in_memory, RunsAlone, StopsAlone, TellsRun, WritesLine, Generates}
use Rattle.c65_commands.specs.Outside.{FilesSide, Outside}
use Rattle.c65_commands.specs.Tool.{Gens}
use Rattle.c65_commands.proofs.FrontLaws.{sources_stop, sources_go, sources_free}

-- ---- its file

-- a path is there alone, where no other path is
pub alone : (held new : Held) (path source : List ℕ) → path ≡ source_path → ((other : List ℕ) → held other ≡ None) → new path ≡ Some source
    → ((other : List ℕ) → other ≢ path → new other ≡ held other) → new ≡ source_alone source
alone held new path source is none there others = fun_ext (λ q. by q (bytes_eq source_path q) refl)
  where
    by : (q : List ℕ) (b : Bool) → bytes_eq source_path q ≡ b → new q ≡ source_alone source q
    by q true e =
        let same : source_path ≡ q = (bytes_eq-Decides source_path q).0 e in
        ap new (sym (is ∙ same)) ∙ there ∙ ap (λ b. cond b (Some source) None) (sym e)
    by q false e =
        let differs : q ≢ path = λ same. absurd (let both : true ≡ false = sym ((bytes_eq-Decides source_path q).1 (sym (same ∙ is))) ∙ e in cc) in
        others q differs ∙ none q ∙ ap (λ b. cond b (Some source) None) (sym e)

-- ---- its image

stops_inside : (r : Refusal) → StopsChain r → UnitsLimit {T = Image} 1 (Err r) → StopsLater (in_memory r)
stops_inside OutOfMemory stops units = tt
stops_inside (Missing path) stops units = tt
stops_inside ReadFault stops units = tt
stops_inside WriteFault stops units = tt
stops_inside (Source code file line) stops units = tt
stops_inside (TooLarge Units value) stops units = absurd (omega (arith, units.0))
stops_inside (TooLarge limit value) stops units = stops
stops_inside (Link kind name) stops units = tt
stops_inside r stops units = absurd stops

linked_inside : (cpu : Cpu) (code : Option Code) (r : Refusal) → LinkedBy cpu code (Err r) → LinkedBy cpu code (Err (in_memory r))
linked_inside cpu None r by = tt
linked_inside cpu (Some code) (Missing path) by = tt
linked_inside cpu (Some code) ReadFault by = tt
linked_inside cpu (Some code) WriteFault by = tt
linked_inside cpu (Some code) r by = by

front_inside : (c : Spelled) (held : Held) (code : Option Code) (r : Refusal) → IsOfFront {T = Image} c.options (front held c) code (Err r) → IsOfFront {T = Image} c.options (front held c) code (Err (in_memory r))
front_inside c held (Some code) r made = made
front_inside c held None (Missing path) made = inl tt
front_inside c held None ReadFault made = inl tt
front_inside c held None WriteFault made = inl tt
front_inside c held None r made = made

-- the compilation was refused
pub source_stops : (command made : Spelled) (source : List ℕ) (old new : FilesSide) (held : Held) (code : Option Code) (r : Refusal) → made ≡ source_command command
    → old.contents ≡ Some held → held ≡ source_alone source → Compiles made.options.cpu made.folders made.files old new code (Err r) → IsOfSources {T = Image} made old.contents code (Err r)
    → CompilesSource command source code (Err (in_memory r))
source_stops command made source old new held code r is told alone compiles sources =
    let is_of : IsOfSources {T = Image} (source_command command) (Some (source_alone source)) code (Err r) =
    subst (λ (c : Contents). IsOfSources {T = Image} (source_command command) c code (Err r)) (told ∙ ap (λ (h : Held). let x : Option Held = Some h in x) alone)
    (subst (λ (c : Spelled). IsOfSources {T = Image} c old.contents code (Err r)) is sources) in
    let units : UnitsLimit {T = Image} 1 (Err r) = subst (λ (c : Spelled). UnitsLimit {T = Image} (length c.files) (Err r)) is compiles.units in
    let cpu : LinkedBy command.options.cpu code (Err r) = subst (λ (c : Spelled). LinkedBy c.options.cpu code (Err r)) is compiles.from_code in
    record {
      refused = stops_inside r compiles.refused units;
      from_text = subst (λ (c : Spelled). IsRead c.options.cpu code) is compiles.from_text;
      from_code = linked_inside command.options.cpu code r cpu;
      from_source = λ h t. front_inside (source_command command) h code r (is_of h t);
    }

-- there is an image
pub source_compiles : (command made : Spelled) (source : List ℕ) (old new : FilesSide) (held : Held) (code : Option Code) (image : Image) → made ≡ source_command command
    → old.contents ≡ Some held → held ≡ source_alone source → Compiles made.options.cpu made.folders made.files old new code (Ok image) → IsOfSources {T = Image} made old.contents code (Ok image)
    → CompilesSource command source code (Ok image)
source_compiles command made source old new held code image is told alone compiles sources = record {
  refused = tt;
  from_text = subst (λ (c : Spelled). IsRead c.options.cpu code) is compiles.from_text;
  from_code = subst (λ (c : Spelled). LinkedBy c.options.cpu code (Ok image)) is compiles.from_code;
  from_source = subst (λ (c : Contents). IsOfSources {T = Image} (source_command command) c code (Ok image)) (told ∙ ap (λ (h : Held). let x : Option Held = Some h in x) alone)
      (subst (λ (c : Spelled). IsOfSources {T = Image} c old.contents code (Ok image)) is sources);
}

-- want of memory
pub source_free : (command : Spelled) (source : List ℕ) (code : Option Code) → code ≡ None → CompilesSource command source code (Err OutOfMemory)
source_free command source code none = subst (λ (c : Option Code). CompilesSource command source c (Err OutOfMemory)) (sym none) (record {
  refused = tt;
  from_text = tt;
  from_code = tt;
  from_source = sources_free Image (source_command command) (Some (source_alone source));
})

-- ---- its run

stops_by : (image : Image) (new : RunView) (rows : ℕ) (left written : Option (List ℕ)) (r : Refusal)
    → Runs (Instructions (2 ^ 64 - 1)) true (started image []) new (Some []) left (Some []) written (Err r) → new.count ≡ rows → StopsAlone image (in_memory r)
stops_by image new rows left written OutOfMemory runs is = tt
stops_by image new rows left written (Missing path) runs is = tt
stops_by image new rows left written ReadFault runs is = tt
stops_by image new rows left written WriteFault runs is = tt
stops_by image new rows left written (HardStack pc) runs is = (rows, record { new = new; left = left; written = written; runs = runs; count = is })
stops_by image new rows left written (Limit count) runs is = (rows, record { new = new; left = left; written = written; runs = runs; count = is })
stops_by image new rows left written (Illegal pc) runs is = (rows, record { new = new; left = left; written = written; runs = runs; count = is })
stops_by image new rows left written r runs is = absurd runs.ends

-- a run that stopped, and one that ended
pub run_stops : (image : Image) (old new : RunView) (args : List (List ℕ)) (rows : ℕ) (l l' w w' : Option (List ℕ)) (r : Refusal) → old ≡ started image args → args ≡ [] → l ≡ Some [] → w ≡ Some []
    → Runs (Instructions (2 ^ 64 - 1)) true old new l l' w w' (Err r) → rows ≡ new.count → StopsAlone image (in_memory r)
run_stops image old new args rows l l' w w' r is none empty nothing runs count =
    stops_by image new rows l' w' r
    (subst (λ (x : RunView). Runs (Instructions (2 ^ 64 - 1)) true x new (Some []) l' (Some []) w' (Err r)) (is ∙ ap (started image) none)
    (subst (λ (x : Option (List ℕ)). Runs (Instructions (2 ^ 64 - 1)) true old new x l' (Some []) w' (Err r)) empty
    (subst (λ (x : Option (List ℕ)). Runs (Instructions (2 ^ 64 - 1)) true old new l l' x w' (Err r)) nothing runs)))
    (sym count)

pub run_ends : (image : Image) (old new : RunView) (args : List (List ℕ)) (rows status : ℕ) (l l' w w' : Option (List ℕ)) → old ≡ started image args → args ≡ [] → l ≡ Some [] → w ≡ Some []
    → Runs (Instructions (2 ^ 64 - 1)) true old new l l' w w' (Ok status) → rows ≡ new.count → RunsAlone image rows (Ok status)
run_ends image old new args rows status l l' w w' is none empty nothing runs count = record {
  new = new;
  left = l';
  written = w';
  runs = subst (λ (x : RunView). Runs (Instructions (2 ^ 64 - 1)) true x new (Some []) l' (Some []) w' (Ok status)) (is ∙ ap (started image) none)
      (subst (λ (x : Option (List ℕ)). Runs (Instructions (2 ^ 64 - 1)) true old new x l' (Some []) w' (Ok status)) empty
      (subst (λ (x : Option (List ℕ)). Runs (Instructions (2 ^ 64 - 1)) true old new l l' x w' (Ok status)) nothing runs));
  count = sym count;
}

-- ---- all of it

linked_stop : (cpu : Cpu) (code : Option Code) (r : Refusal) → LinkedBy cpu code (Err r) → IsLinked cpu code None (Err r)
linked_stop cpu None r by = tt
linked_stop cpu (Some code) r by = by

linked_go : (cpu : Cpu) (code : Option Code) (image : Image) (r : Result ℕ Refusal) → LinkedBy cpu code (Ok image) → IsLinked cpu code (Some image) r
linked_go cpu None image r by = absurd by
linked_go cpu (Some code) image r by = by

later_quiet : (o : ℕ) (r : Refusal) → StopsLater r → WriteCause {T = ℕ} o o (Err r)
later_quiet o WriteFault stops = absurd stops
later_quiet o r stops = refl

alone_quiet : (image : Image) (o : ℕ) (r : Refusal) → StopsAlone image r → WriteCause {T = ℕ} o o (Err r)
alone_quiet image o WriteFault stops = absurd stops
alone_quiet image o r stops = refl

alone_line : (number : ℕ) (image : Image) (w : Option (List ℕ)) (r : Refusal) → StopsAlone image r → WritesLine number image w w (Err r)
alone_line number image w WriteFault stops = absurd stops
alone_line number image w r stops = (stops, refl)

-- without an image
pub generates_not : (command : Spelled) (w : Option (List ℕ)) (o : ℕ) (source : List ℕ) (code : Option Code) (image : Option Image) (r : Refusal) → image ≡ None → source ≡ generated_source command.number
    → CompilesSource command source code (Err r) → Generates command w w o o code image (Err r)
generates_not command w o source code image r none is compiles = subst (λ (i : Option Image). Generates command w w o o code i (Err r)) (sym none) (record {
  write = later_quiet o r compiles.refused;
  line = (compiles.refused, refl);
  from_text = compiles.from_text;
  from_code = linked_stop command.options.cpu code r compiles.from_code;
  from_source = subst (λ (s : List ℕ). IsOfSource {T = ℕ} command s code (Err r)) is (sources_stop Image ℕ (source_command command) (Some (source_alone source)) code r compiles.from_source);
})

pub generates_free : (command : Spelled) (w : Option (List ℕ)) (o : ℕ) (code : Option Code) (image : Option Image) → code ≡ None → image ≡ None → Generates command w w o o code image (Err OutOfMemory)
generates_free command w o code image no_code no_image =
    generates_not command w o (generated_source command.number) code image OutOfMemory no_image refl (source_free command (generated_source command.number) code no_code)

-- with one
with_image : (command : Spelled) (w w' : Option (List ℕ)) (o o' : ℕ) (source : List ℕ) (code : Option Code) (image : Image) (r : Result ℕ Refusal) → source ≡ generated_source command.number
    → CompilesSource command source code (Ok image) → WriteCause o o' r → WritesLine command.number image w w' r → Generates command w w' o o' code (Some image) r
with_image command w w' o o' source code image r is compiles cause line = record {
  write = cause;
  line = line;
  from_text = compiles.from_text;
  from_code = linked_go command.options.cpu code image r compiles.from_code;
  from_source = subst (λ (s : List ℕ). IsOfSource {T = ℕ} command s code r) is (sources_go Image ℕ (source_command command) (Some (source_alone source)) code image r compiles.from_source);
}

pub generates_stop : (command : Spelled) (w : Option (List ℕ)) (o : ℕ) (source : List ℕ) (code : Option Code) (image : Image) (r : Refusal) → source ≡ generated_source command.number
    → CompilesSource command source code (Ok image) → StopsAlone image r → Generates command w w o o code (Some image) (Err r)
generates_stop command w o source code image r is compiles stops =
    with_image command w w o o source code image (Err r) is compiles (alone_quiet image o r stops) (alone_line command.number image w r stops)

line_wrote : (number : ℕ) (image : Image) (line : List ℕ) (w w' : Option (List ℕ)) (r : Result ℕ Refusal) → TellsRun number image line → WriteServes r → AppendsBytes line w w' r → WritesLine number image w w' r
line_wrote number image line w w' (Ok status) tells served appends = (served, (line, tells, appends))
line_wrote number image line w w' (Err OutOfMemory) tells served appends = (tt, appends)
line_wrote number image line w w' (Err WriteFault) tells served appends = (line, tells, appends)
line_wrote number image line w w' (Err r) tells served appends = absurd served

pub generates_wrote : (command : Spelled) (number : ℕ) (line : List ℕ) (w w' : Option (List ℕ)) (o o' : ℕ) (source : List ℕ) (code : Option Code) (image : Image) (r : Result ℕ Refusal) → number ≡ command.number → source ≡ generated_source command.number
    → CompilesSource command source code (Ok image) → TellsRun number image line → WriteServes r → AppendsBytes line w w' r → WriteCause o o' r → Generates command w w' o o' code (Some image) r
generates_wrote command number line w w' o o' source code image r same is compiles tells served appends cause =
    with_image command w w' o o' source code image r is compiles cause
    (line_wrote command.number image line w w' r (subst (λ n. TellsRun n image line) same tells) served appends)

-- want of memory, before there is a command
pub gens_free : (command : Spelled) (old : Outside) → Gens command old old None None (Err OutOfMemory)
gens_free command old = record {
  generates = generates_free command old.written old.out_faults None None refl refl;
  files = refl;
  left = refl;
  input_faults = refl;
}
