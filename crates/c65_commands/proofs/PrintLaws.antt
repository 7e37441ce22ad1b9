-- What `text` answers.
use Rattle.std.proofs.Common.{◌≡◌, ℕ, ◌≤◌, Bool, List, length, None, Some, Option, Result, Ok, Err, sym, subst, refl, ◌∙◌, arith}
use Rattle.c65_base.specs.declared.refusal.Refusal.{Refusal}
use Rattle.c65_base.specs.declared.refusal.Refusal.TheVariants.{OutOfMemory}
use Rattle.c65_code.specs.declared.code.Code.{Code}
use Rattle.c65_io.specs.Contents.{Contents}
use Rattle.c65_mach.specs.declared.image.Image.{Image}
use Rattle.c65_sim.specs.Runs.{WriteCause}
use Rattle.c65_driver_words.specs.Commands.{Spelled}
use Rattle.c65_commands.specs.Assembly.{printed, IsTextOf, AppendsBytes, TextTo, WritesText, Unwritten, MadeText}
use Rattle.c65_commands.specs.Compiled.{Compiles, IsOfSources, WritesBytes, WriteServes, WritesImage}
use Rattle.c65_commands.specs.Outside.{FilesSide, TextSide, Outside}
use Rattle.c65_commands.specs.Tool.{Texts, TextsAlone}
use Rattle.c65_commands.proofs.FrontLaws.{sources_stop, sources_go, sources_free}
use Rattle.c65_commands.proofs.GoLaws.{units_of, headers_of, linked_stop}
use Rattle.c65_commands.proofs.BuildLaws.{stop_served, faults_of, wrote_served, wrote_units, wrote_faults, wrote_headers, linked_wrote}

-- Before there is an image.

unwritten : (known : Bool) (out : Option (List ℕ)) (code : Option Code) (old new : TextSide) (answer : Result ℕ Refusal) → Unwritten old new → MadeText known out code None old new answer
unwritten known out None old new answer still = still
unwritten known out (Some code) old new answer still = still

stopped : (command : Spelled) (old new : FilesSide) (w : Option (List ℕ)) (o : ℕ) (code : Option Code) (r : Refusal) → Compiles command.options.cpu command.folders command.files old new code (Err r) → IsOfSources {T = Image} command old.contents code (Err r)
    → Texts command (record { files = old; written = w; out_faults = o }) (record { files = new; written = w; out_faults = o }) code None (Err r)
stopped command old new w o code r stops sources = record {
  served = stop_served r stops.refused;
  units = units_of Image ℕ (length command.files) r stops.units;
  read = faults_of old.faults new.faults r stops.read;
  missing = headers_of Image ℕ command.folders old.misses new.misses r stops.missing;
  with_image = tt;
  text = unwritten command.known command.out code (record { files = old; written = w; out_faults = o }) (record { files = new; written = w; out_faults = o }) (Err r)
      (record { contents = stops.same; writes = stops.written; written = refl; out_faults = refl });
  from_text = stops.from_text;
  from_code = linked_stop command.options.cpu code r stops.from_code;
  from_files = sources_stop Image ℕ command old.contents code r sources;
}

pub texts_stop : (command : Spelled) (old new : FilesSide) (w : Option (List ℕ)) (o : ℕ) (code : Option Code) (image : Option Image) (r : Refusal) → image ≡ None
    → Compiles command.options.cpu command.folders command.files old new code (Err r) → IsOfSources {T = Image} command old.contents code (Err r)
    → Texts command (record { files = old; written = w; out_faults = o }) (record { files = new; written = w; out_faults = o }) code image (Err r)
texts_stop command old new w o code image r none stops sources =
    subst (λ (made : Option Image). Texts command (record { files = old; written = w; out_faults = o }) (record { files = new; written = w; out_faults = o }) code made (Err r))
    (sym none) (stopped command old new w o code r stops sources)

-- want of memory
pub texts_free : (command : Spelled) (old : Outside) → TextsAlone command old old None None (Err OutOfMemory)
texts_free command old = record {
  texts = record {
    served = tt;
    units = tt;
    read = refl;
    missing = omega arith;
    with_image = tt;
    text = record { contents = refl; writes = refl; written = refl; out_faults = refl };
    from_text = tt;
    from_code = tt;
    from_files = sources_free ℕ command old.files.contents;
  };
  left = refl;
  input_faults = refl;
}

-- With an image.

-- the same of files that were only read
to_from : (out : Option (List ℕ)) (bytes : List ℕ) (old mid : FilesSide) (new : TextSide) (w : Option (List ℕ)) (o : ℕ) (r : Result ℕ Refusal)
    → mid.contents ≡ old.contents → mid.writes ≡ old.writes → TextTo out bytes (record { files = mid; written = w; out_faults = o }) new r
    → TextTo out bytes (record { files = old; written = w; out_faults = o }) new r
to_from None bytes old mid new w o r same writes to = record {
  contents = to.contents ∙ same;
  writes = to.writes ∙ writes;
  written = to.written;
  cause = to.cause;
}
to_from (Some path) bytes old mid new w o r same writes to = record {
  contents = subst (λ (held : Contents). WritesBytes path bytes held new.files.contents r) same to.contents;
  cause = subst (λ n. WriteCause n new.files.writes r) writes to.cause;
  written = to.written;
  out_faults = to.out_faults;
}

made : (known : Bool) (out : Option (List ℕ)) (code : Option Code) (image : Image) (bytes : List ℕ) (old new : TextSide) (r : Result ℕ Refusal)
    → IsTextOf known code bytes → TextTo out bytes old new r → MadeText known out code (Some image) old new r
made known out None image bytes old new r is to = absurd is
made known out (Some code) image bytes old new r is to = subst (λ (bs : List ℕ). TextTo out bs old new r) is to

pub texts_wrote : (command : Spelled) (old mid : FilesSide) (new : TextSide) (w : Option (List ℕ)) (o : ℕ) (code : Option Code) (image : Image) (bytes : List ℕ) (r : Result ℕ Refusal)
    → Compiles command.options.cpu command.folders command.files old mid code (Ok image) → IsOfSources command old.contents code (Ok image) → IsTextOf command.known code bytes → WritesText command.out bytes (record { files = mid; written = w; out_faults = o }) new r
    → Texts command (record { files = old; written = w; out_faults = o }) new code (Some image) r
texts_wrote command old mid new w o code image bytes r compiles sources is wrote = record {
  served = wrote_served r wrote.served;
  units = wrote_units (length command.files) r compiles.units wrote.served;
  read = wrote_faults old.faults new.files.faults r (wrote.faults ∙ compiles.read) wrote.served;
  missing = wrote_headers command.folders old.misses new.files.misses r (subst (λ n. old.misses ≤ n) (sym wrote.misses) compiles.missing) wrote.served;
  with_image = wrote.served;
  text = made command.known command.out code image bytes (record { files = old; written = w; out_faults = o }) new r is
      (to_from command.out bytes old mid new w o r compiles.same compiles.written wrote.to);
  from_text = compiles.from_text;
  from_code = linked_wrote command.options.cpu code image r compiles.from_code;
  from_files = sources_go Image ℕ command old.contents code image r sources;
}

kept : (out : Option (List ℕ)) (bytes : List ℕ) (old new : FilesSide) (w : Option (List ℕ)) (o : ℕ) → new.contents ≡ old.contents → new.writes ≡ old.writes
    → TextTo out bytes (record { files = old; written = w; out_faults = o }) (record { files = new; written = w; out_faults = o }) (Err OutOfMemory)
kept None bytes old new w o same writes = record { contents = same; writes = writes; written = refl; cause = refl }
kept (Some path) bytes old new w o same writes = record { contents = same; cause = writes; written = refl; out_faults = refl }

kept_made : (known : Bool) (out : Option (List ℕ)) (code : Option Code) (image : Image) (old new : FilesSide) (w : Option (List ℕ)) (o : ℕ) → new.contents ≡ old.contents → new.writes ≡ old.writes
    → MadeText known out code (Some image) (record { files = old; written = w; out_faults = o }) (record { files = new; written = w; out_faults = o }) (Err OutOfMemory)
kept_made known out None image old new w o same writes = record { contents = same; writes = writes; written = refl; out_faults = refl }
kept_made known out (Some code) image old new w o same writes = kept out (printed known code) old new w o same writes

-- no memory for the text
pub texts_short : (command : Spelled) (old new : FilesSide) (w : Option (List ℕ)) (o : ℕ) (code : Option Code) (image : Image) → Compiles command.options.cpu command.folders command.files old new code (Ok image) → IsOfSources command old.contents code (Ok image)
    → Texts command (record { files = old; written = w; out_faults = o }) (record { files = new; written = w; out_faults = o }) code (Some image) (Err OutOfMemory)
texts_short command old new w o code image compiles sources = record {
  served = tt;
  units = tt;
  read = compiles.read;
  missing = compiles.missing;
  with_image = tt;
  text = kept_made command.known command.out code image old new w o compiles.same compiles.written;
  from_text = compiles.from_text;
  from_code = linked_wrote command.options.cpu code image (Err OutOfMemory) compiles.from_code;
  from_files = sources_go Image ℕ command old.contents code image (Err OutOfMemory) sources;
}

-- Writing it.

pub to_path : (out : Option (List ℕ)) (path bytes : List ℕ) (old new : FilesSide) (w : Option (List ℕ)) (o : ℕ) (r : Result ℕ Refusal)
    → out ≡ Some path → WritesImage path bytes old new r
    → WritesText out bytes (record { files = old; written = w; out_faults = o }) (record { files = new; written = w; out_faults = o }) r
to_path out path bytes old new w o r is wrote = record {
  served = wrote.served;
  to = subst (λ (to : Option (List ℕ)). TextTo to bytes (record { files = old; written = w; out_faults = o }) (record { files = new; written = w; out_faults = o }) r) (sym is)
      (record { contents = wrote.contents; cause = wrote.cause; written = refl; out_faults = refl });
  faults = wrote.faults;
  misses = wrote.misses;
}

pub to_output : (out : Option (List ℕ)) (bytes : List ℕ) (files : FilesSide) (w w' : Option (List ℕ)) (o o' : ℕ) (r : Result ℕ Refusal)
    → out ≡ None → WriteServes r → AppendsBytes bytes w w' r → WriteCause o o' r
    → WritesText out bytes (record { files = files; written = w; out_faults = o }) (record { files = files; written = w'; out_faults = o' }) r
to_output out bytes files w w' o o' r is served appends cause = record {
  served = served;
  to = subst (λ (to : Option (List ℕ)). TextTo to bytes (record { files = files; written = w; out_faults = o }) (record { files = files; written = w'; out_faults = o' }) r) (sym is)
      (record { contents = refl; writes = refl; written = appends; cause = cause });
  faults = refl;
  misses = refl;
}
