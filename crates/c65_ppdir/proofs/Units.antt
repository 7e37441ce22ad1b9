-- A unit, file by file and line by line.
use Rattle.std.proofs.Common.{◌≡◌, ◌∙◌, ◌≤◌, ◌⊎◌, ℕ, suc, List, [], ◌∷◌, ◌++◌, length, Bool, true, false, Option, Some, None, Result, Ok, Err, inl, inr, refl, ap, sym, subst}
use Rattle.std.specs.Prelude.{IfSome, OnOk}
use Rattle.c65_base.specs.declared.refusal.Refusal.{Refusal}
use Rattle.c65_base.specs.declared.refusal.Refusal.TheVariants as refusals
use Rattle.c65_base.specs.declared.refusal.Size.TheVariants as sizes
use Rattle.c65_io.specs.Contents.{Contents}
use Rattle.c65_lex.specs.declared.token.PpToken.{PpToken}
use Rattle.c65_lex.specs.declared.token.PpUnit.{PpUnit}
use Rattle.c65_ppfile.specs.declared.files.Found.{Found}
use Rattle.c65_ppfile.specs.declared.files.Found.TheVariants as kinds
use Rattle.c65_ppfile.specs.declared.headers.BuiltIn.{BuiltIn}
use Rattle.c65_ppfile.specs.declared.include.Header.{Header}
use Rattle.c65_ppdir.specs.declared.unit.Event.TheVariants as events
use Rattle.c65_ppfile.specs.Finding.{or_next, first_held, header_of, path_at, Begins, IsFile, IsSought, IsThere, IsShort, Seeks, Misses}
use Rattle.c65_ppfile.specs.Headers.{path_of, text_behind, with_header}
use Rattle.c65_ppline.specs.Relations.{just, IsFree, Comes}
use Rattle.c65_ppfile.specs.Search.{paths_of}
use Rattle.c65_ppdir.specs.Standing.{Standing, standing, opening, has_room, advanced}
use Rattle.c65_ppdir.specs.LineActions.{turn}
use Rattle.c65_ppdir.specs.Files.{IsToldFile, AreTold, IsNoMiss}
use Rattle.c65_ppdir.specs.declared.opened.Opened.{Opened}
use Rattle.c65_ppdir.specs.declared.reader.Reader.{Reader}
use Rattle.c65_ppdir.specs.declared.unit.Unit.{Unit as UnitParts}
use Rattle.c65_ppdir.specs.Units.{Held, Surroundings, Reached, Source, file, built_in, or_built_in, source_of, IsFor, opening_file, entering, with_room, around, including, located, by_path, rest_by, rest_from, rest, unit_of, with_path, with_built_in, reached, IsToldUnit, AreToldWhere, Steps}
use Rattle.c65_ppdir.proofs.Placeless.{is_located, including_placeless}
use Rattle.c65_ppline.proofs.Relations.{goes, goes_on, onward, tested, tested_not, then_onward}

false_true : false ≡ true → ⊥
false_true h = cc

or_held : (held : Held) (p : List ℕ) (o : Option (List ℕ)) (later : Option (List ℕ × List ℕ)) → held p ≡ o → IfSome later (λ f. held f.0 ≡ Some f.1) → IfSome (or_next p o later) (λ f. held f.0 ≡ Some f.1)
or_held held p None later e h = h
or_held held p (Some bytes) later e h = e

-- the first file that is there has these bytes
first_is_held : (held : Held) (paths : List (List ℕ)) → IfSome (first_held held paths) (λ f. held f.0 ≡ Some f.1)
first_is_held held [] = tt
first_is_held held (p ∷ ps) = or_held held p (held p) (first_held held ps) refl (first_is_held held ps)

file_found : (held : Held) (o : Option (List ℕ × List ℕ)) (header : Option BuiltIn) (name path front : List ℕ) → IfSome o (λ f. held f.0 ≡ Some f.1) → IsFile o path front → (p bytes : List ℕ) × (Ok (file p bytes) ≡ or_built_in name o header) × (path ≡ p) × (held p ≡ Some bytes)
file_found held None header name path front e h = absurd h
file_found held (Some f) header name path front e h = (f.0, f.1, refl, h.0, e)

-- what was found is that of the definition
sought_source : (held : Held) (paths : List (List ℕ)) (name : List ℕ) (found : Found) → IsSought (Some held) paths name found → (source : Source) × (Ok source ≡ source_of held paths name) × IsFor held found source
sought_source held paths name (kinds.File path front missing) h =
    let there = file_found held (first_held held paths) (header_of name) name path front.items (first_is_held held paths) h.0 in
    (file there.0 there.1, there.2, (there.3, there.4))
sought_source held paths name (kinds.BuiltIn header) h =
    (built_in header, sym (ap (λ (o : Option (List ℕ × List ℕ)). or_built_in name o (header_of name)) h.0 ∙ ap (λ (o : Option BuiltIn). or_built_in name None o) h.1), refl)

pub seeks_source : (c : Contents) (held : Held) (including : List ℕ) (folders : List (List ℕ)) (header : Header) (found : Found) → c ≡ Some held → Seeks c including folders header (Ok found)
    → (source : Source) × (Ok source ≡ source_of held (paths_of including folders header.is_quoted header.name) header.name) × IsFor held found source
seeks_source c held including folders header found told h =
    let paths = paths_of including folders header.is_quoted header.name in
    sought_source held paths header.name found (subst (λ (k : Contents). IsSought k paths header.name found) told h)

-- a header that was found
pub includes_found : {X : Type 0} (view : X → Reached) (held : Held) (folders : List (List ℕ)) (signed : Bool) (header : Header) (number : ℕ) (r : Reached) (source : Source) (result' : Result X Refusal)
    → Ok source ≡ source_of held (paths_of (path_at r.paths number) folders header.is_quoted header.name) header.name → Comes view (with_room signed source r) result' → Comes view (including (around held folders signed) header number r) result'
includes_found view held folders signed header number r source result' e h =
    goes_on view (just (source_of held (paths_of (path_at r.paths number) folders header.is_quoted header.name) header.name)) (λ s. with_room signed s r) source result' e h

-- a file is opened, and its path is the last
pub opens : (r : Reached) (path spelled bytes : List ℕ) (number : ℕ) (s : Standing) (paths : List (List ℕ)) → number ≡ length r.paths → spelled ≡ path → opening number spelled bytes r.standing (Ok s) → paths ≡ r.paths ++ path ∷ [] → opening_file path bytes r (Ok (record { standing = s; paths = paths }))
opens r path spelled bytes number s paths e g h f =
    (s, subst (λ (n : ℕ). opening n path bytes r.standing (Ok s)) e (subst (λ (p : List ℕ). opening number p bytes r.standing (Ok s)) g h), ap (λ (ps : List (List ℕ)). Ok (record { standing = s; paths = ps })) f)

abbrev pub HasPath : Found → List ℕ → Type 0
HasPath (kinds.File path front name) p = path ≡ p
HasPath (kinds.BuiltIn header) p = ⊥

abbrev pub HasHeader : Found → BuiltIn → Type 0
HasHeader (kinds.File path front name) h = ⊥
HasHeader (kinds.BuiltIn header) h = header ≡ h

-- a file that was found is entered
pub enters_file : {X : Type 0} (view : X → Reached) (held : Held) (found : Found) (source : Source) (path : List ℕ) (signed b : Bool) (r : Reached) (result' : Result X Refusal)
    → HasPath found path → IsFor held found source → b ≡ has_room r.standing → b ≡ true → ((bytes : List ℕ) → held path ≡ Some bytes → Comes view (opening_file path bytes r) result') → Comes view (with_room signed source r) result'
enters_file view held (kinds.File q front name) (file p bytes) path signed b r result' e f room there h =
    let same : path ≡ p = sym e ∙ f.0 in
    let opened = h bytes (ap (λ (x : List ℕ). held x) same ∙ f.1) in
    tested view (has_room r.standing) (entering signed (file p bytes) r) (just (Err (refusals.TooLarge sizes.Includes 65))) result' (sym room ∙ there) (subst (λ (x : List ℕ). Comes view (opening_file x bytes r) result') same opened)
enters_file view held (kinds.File q front name) (built_in h) path signed b r result' e f room there k = absurd f
enters_file view held (kinds.BuiltIn header) source path signed b r result' e f room there h = absurd e

-- a header that is built in
pub enters_header : {X : Type 0} (view : X → Reached) (held : Held) (found : Found) (source : Source) (header : BuiltIn) (signed b : Bool) (r : Reached) (result' : Result X Refusal)
    → HasHeader found header → IsFor held found source → b ≡ has_room r.standing → b ≡ true → Comes view (entering signed (built_in header) r) result' → Comes view (with_room signed source r) result'
enters_header view held (kinds.File q front name) source header signed b r result' e f room there h = absurd e
enters_header view held (kinds.BuiltIn g) (file p bytes) header signed b r result' e f room there h = absurd f
enters_header view held (kinds.BuiltIn g) (built_in h) header signed b r result' e f room there k =
    tested view (has_room r.standing) (entering signed (built_in h) r) (just (Err (refusals.TooLarge sizes.Includes 65))) result' (sym room ∙ there) (subst (λ (x : BuiltIn). Comes view (entering signed (built_in x) r) result') (sym e ∙ f) k)

-- too many files are open
pub enters_none : {X : Type 0} (view : X → Reached) (signed b : Bool) (source : Source) (r : Reached) (e : Refusal) → b ≡ has_room r.standing → b ≡ false → e ≡ refusals.TooLarge sizes.Includes 65 → Comes view (with_room signed source r) (Err e)
enters_none view signed b source r e room full h =
    tested_not view (has_room r.standing) (entering signed source r) (just (Err (refusals.TooLarge sizes.Includes 65))) (Err e) (sym room ∙ full) (inr (ap (λ (x : Refusal). Err x) h))

-- a line that asks for nothing more, and the last one
pub line_steps : (a : Surroundings) (r : Reached) (s : Standing) → advanced r.standing (Ok (events.Line, s)) → Steps a r (record r { standing = s }) (Ok true)
line_steps a r s read n z h = goes (by_path r.paths (advanced r.standing)) (λ x. rest_by (rest_from n a) a x.0 (record r { standing = x.1 })) (events.Line, s) z read h

pub end_steps : (a : Surroundings) (r : Reached) (s : Standing) → advanced r.standing (Ok (events.End, s)) → Steps a r (record r { standing = s }) (Ok false)
end_steps a r s read = goes (by_path r.paths (advanced r.standing)) (λ x. rest_by (rest_from 0 a) a x.0 (record r { standing = x.1 })) (events.End, s) _ read refl

-- a line that is refused
pub fault_steps : (a : Surroundings) (r q : Reached) (e : Refusal) → q.paths ≡ r.paths → IsFree e ⊎ advanced r.standing (Err e) → Steps a r q (Err e)
fault_steps a r q e same (inl h) = inl h
fault_steps a r q e same (inr h) = inr (inl (e, h, ap (λ (ps : List (List ℕ)). located ps e) same))

-- an #include that is done
pub include_steps : (held : Held) (folders : List (List ℕ)) (signed b : Bool) (r : Reached) (header : Header) (number : ℕ) (s : Standing) (q : Reached) → advanced r.standing (Ok (events.Include header number, s)) → b ≡ signed
    → including (around held folders b) header number (record r { standing = s }) (Ok q) → Steps (around held folders signed) r q (Ok true)
include_steps held folders signed b r header number s q read same entered n z h =
    let a = around held folders signed in
    let done : including a header number (record r { standing = s }) (Ok q) = subst (λ (c : Bool). including (around held folders c) header number (record r { standing = s }) (Ok q)) same entered in
    goes (by_path r.paths (advanced r.standing)) (λ x. rest_by (rest_from n a) a x.0 (record r { standing = x.1 })) (events.Include header number, s) z read
    (goes (including a header number (record r { standing = s })) (rest_from n a) q z done h)

-- an #include that is refused
pub missing_steps : (held : Held) (folders : List (List ℕ)) (signed b : Bool) (r : Reached) (header : Header) (number : ℕ) (s : Standing) (q : Reached) (e : Refusal) → advanced r.standing (Ok (events.Include header number, s)) → b ≡ signed
    → IsFree e ⊎ including (around held folders b) header number (record r { standing = s }) (Err e) → Steps (around held folders signed) r q (Err e)
missing_steps held folders signed b r header number s q e read same (inl h) = inl h
missing_steps held folders signed b r header number s q e read same (inr h) =
    let a = around held folders signed in
    let stopped : including a header number (record r { standing = s }) (Err e) = subst (λ (c : Bool). including (around held folders c) header number (record r { standing = s }) (Err e)) same h in
    let as_it_is : located q.paths e ≡ e = is_located q.paths e (including_placeless a header number (record r { standing = s }) e stopped) in
    inr (subst (λ (x : Refusal). rest_from 1 a r (Err x)) (sym as_it_is)
    (goes (by_path r.paths (advanced r.standing)) (λ x. rest_by (rest_from 0 a) a x.0 (record r { standing = x.1 })) (events.Include header number, s) (Err e) read (inl stopped)))

-- from line to line
pub loop_on : (held : Held) (folders : List (List ℕ)) (signed b more : Bool) (start r q : Reached) → ((n : ℕ) (z : Result (PpUnit × List (List ℕ)) Refusal) → rest_from n (around held folders signed) r z → rest (around held folders signed) start z) → b ≡ signed → more ≡ true
    → Steps (around held folders b) r q (Ok more) → (n : ℕ) (z : Result (PpUnit × List (List ℕ)) Refusal) → rest_from n (around held folders signed) q z → rest (around held folders signed) start z
loop_on held folders signed b false start r q before same e h n z k = absurd (false_true e)
loop_on held folders signed b true start r q before same e h n z k =
    let steps : Steps (around held folders signed) r q (Ok true) = subst (λ (c : Bool). Steps (around held folders c) r q (Ok true)) same h in
    before (suc n) z (steps n z k)

pub loop_ends : (held : Held) (folders : List (List ℕ)) (signed b more : Bool) (start r q : Reached) (tokens : List PpToken) → ((n : ℕ) (z : Result (PpUnit × List (List ℕ)) Refusal) → rest_from n (around held folders signed) r z → rest (around held folders signed) start z) → b ≡ signed → more ≡ false
    → tokens ≡ q.standing.here.given → Steps (around held folders b) r q (Ok more) → rest (around held folders signed) start (Ok (unit_of tokens q.paths, q.standing.here.names))
loop_ends held folders signed b true start r q tokens before same e f h = absurd (false_true (sym e))
loop_ends held folders signed b false start r q tokens before same e f h =
    let steps : Steps (around held folders signed) r q (Ok false) = subst (λ (c : Bool). Steps (around held folders c) r q (Ok false)) same h in
    before 1 _ (subst (λ (ts : List PpToken). rest_from 1 (around held folders signed) r (Ok (unit_of ts q.paths, q.standing.here.names))) (sym f) steps)

pub loop_stops : (held : Held) (folders : List (List ℕ)) (signed b : Bool) (start r q : Reached) (e : Refusal) → ((n : ℕ) (z : Result (PpUnit × List (List ℕ)) Refusal) → rest_from n (around held folders signed) r z → rest (around held folders signed) start z) → b ≡ signed
    → Steps (around held folders b) r q (Err e) → IsFree e ⊎ rest (around held folders signed) start (Err (located q.paths e))
loop_stops held folders signed b start r q e before same (inl h) = inl h
loop_stops held folders signed b start r q e before same (inr h) = inr (before 1 (Err (located q.paths e)) (subst (λ (c : Bool). rest_from 1 (around held folders c) r (Err (located q.paths e))) same h))

-- the next line is refused
pub no_turn : (s : Standing) (e : Refusal) → IsFree e ⊎ turn s.here (Err e) → IsFree e ⊎ advanced s (Err e)
no_turn s e (inl h) = inl h
no_turn s e (inr h) = inr (inl h)

-- what holds behind each value
pub on_ok : {T A B : Type 0} (answer : Result T Refusal) → OnOk answer A → (A → B) → OnOk answer B
on_ok (Ok x) h f = f h
on_ok (Err e) h f = tt

-- a file is not opened
pub opens_not : (r : Reached) (path spelled bytes : List ℕ) (number : ℕ) (e : Refusal) → number ≡ length r.paths → spelled ≡ path → IsFree e ⊎ opening number spelled bytes r.standing (Err e) → IsFree e ⊎ opening_file path bytes r (Err e)
opens_not r path spelled bytes number e same g (inl h) = inl h
opens_not r path spelled bytes number e same g (inr h) =
    inr (inl (subst (λ (n : ℕ). opening n path bytes r.standing (Err e)) same (subst (λ (p : List ℕ). opening number p bytes r.standing (Err e)) g h)))

-- a header that is built in is entered
pub enters_built_in : {X : Type 0} (view : X → Reached) (signed : Bool) (h : BuiltIn) (r q : Reached) (path bytes : List ℕ) (answer : Result X Refusal)
    → path ≡ path_of h → bytes ≡ text_behind signed r.standing.headers h → q ≡ with_built_in h r → Comes view (opening_file path bytes q) answer → Comes view (entering signed (built_in h) r) answer
enters_built_in view signed h r q path bytes answer a b d k =
    subst (λ (p : List ℕ). Comes view (opening_file p (text_behind signed r.standing.headers h) (with_built_in h r)) answer) a
    (subst (λ (bs : List ℕ). Comes view (opening_file path bs (with_built_in h r)) answer) b
    (subst (λ (x : Reached). Comes view (opening_file path bytes x) answer) d k))

abbrev parts : Held → List (List ℕ) → List (List ℕ) → Reader → Opened → List Opened → List BuiltIn → Reached
parts held names paths reader here outer headers = record { standing = standing held reader here outer headers names; paths = paths }

-- a unit that includes one header more
pub with_header_more : (held : Held) (names paths : List (List ℕ)) (u v : UnitParts) (h : BuiltIn) → v.reader ≡ u.reader → v.file ≡ u.file → v.outer ≡ u.outer → v.included.headers.items ≡ with_header u.included.headers.items h
    → reached held v names paths ≡ with_built_in h (reached held u names paths)
with_header_more held names paths u v h a b d e =
    let same : v.outer.items ≡ u.outer.items = first_of (rw d, cc (d)) in
    ap (λ (x : Reader). parts held names paths x v.file v.outer.items v.included.headers.items) a
    ∙ (ap (λ (x : Opened). parts held names paths u.reader x v.outer.items v.included.headers.items) b
    ∙ (ap (λ (x : List Opened). parts held names paths u.reader u.file x v.included.headers.items) same
    ∙ ap (λ (x : List BuiltIn). parts held names paths u.reader u.file u.outer.items x) e))

pub told_same : (held : Held) (u v : UnitParts) → v.file ≡ u.file → v.outer ≡ u.outer → IsToldUnit held u → IsToldUnit held v
told_same held u v a b h =
    let same : v.outer.items ≡ u.outer.items = first_of (rw b, cc (b)) in
    (subst (λ (o : Opened). IsToldFile held o) (sym a) h.0, subst (λ (os : List Opened). AreTold held os) (sym same) h.1)

abbrev pub HasFile : Found → List ℕ → List ℕ → Type 0
HasFile (kinds.File path front name) p first = (path ≡ p) × (front.items ≡ first)
HasFile (kinds.BuiltIn header) p first = ⊥

-- the file that was found begins with the bytes that were read of it
pub begins_as : (held : Held) (found : Found) (path first bytes : List ℕ) → HasFile found path first → IsThere (Some held) found → held path ≡ Some bytes → Begins (Some bytes) first
begins_as held (kinds.File q front name) path first bytes e there h =
    subst (λ (xs : List ℕ). Begins (Some bytes) xs) e.1 (subst (λ (o : Option (List ℕ)). Begins o front.items) (ap (λ (x : List ℕ). held x) e.0 ∙ h) there.0)
begins_as held (kinds.BuiltIn header) path first bytes e there h = absurd e

pub file_there : (held : Held) (found : Found) (source : Source) (path first : List ℕ) → HasFile found path first → IsFor held found source → (bytes : List ℕ) × (held path ≡ Some bytes)
file_there held (kinds.File q front name) (file p bytes) path first e f = (bytes, ap (λ (x : List ℕ). held x) (sym e.0 ∙ f.0) ∙ f.1)
file_there held (kinds.File q front name) (built_in h) path first e f = absurd f
file_there held (kinds.BuiltIn header) source path first e f = absurd e

pub short_first : (found : Found) (path first : List ℕ) → HasFile found path first → IsShort found → length first ≤ 4096
short_first (kinds.File q front name) path first e h = subst (λ (xs : List ℕ). length xs ≤ 4096) e.1 h
short_first (kinds.BuiltIn header) path first e h = absurd e

pub found_short : (c : Contents) (including : List ℕ) (folders : List (List ℕ)) (header : Header) (found : Found) → Seeks c including folders header (Ok found) → IsShort found
found_short c including folders header (kinds.File path front name) h = h.1
found_short c including folders header (kinds.BuiltIn b) h = tt

-- a line is refused for no file that is missing, where files tell what they hold
pub no_miss : (T : Type 0) (c : Contents) (folders : List (List ℕ)) (e : Refusal) → ((held : Held) → c ≡ Some held → IsNoMiss e) → Misses {T = T} c folders (Err e)
no_miss T None folders (refusals.Missing name) h = ([], false, tt)
no_miss T (Some held) folders (refusals.Missing name) h = absurd (h held refl)
no_miss T c folders _ h = tt

pub told_where : (c : Contents) (held : Held) (u : UnitParts) → c ≡ Some held → AreToldWhere c u → IsToldUnit held u
told_where c held u e h = subst (λ (k : Contents). AreToldWhere k u) e h

told_by : (c : Contents) (u v : UnitParts) → ((held : Held) → c ≡ Some held → IsToldUnit held u → IsToldUnit held v) → AreToldWhere c u → AreToldWhere c v
told_by None u v f h = tt
told_by (Some held) u v f h = f held refl h

-- the files of a unit are told still
pub told_on : (c d : Contents) (u v : UnitParts) → d ≡ c → ((held : Held) → c ≡ Some held → IsToldUnit held u → IsToldUnit held v) → AreToldWhere c u → AreToldWhere d v
told_on c d u v same f h = subst (λ (k : Contents). AreToldWhere k v) (sym same) (told_by c u v f h)
