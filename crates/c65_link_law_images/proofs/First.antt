-- The first moment of a run of an image, and its first rows.
use Rattle.std.proofs.Common.{bytes_eq, codes, ◌≡◌, ℕ, zero, suc, ◌+◌, ◌-◌, ◌<◌, ◌≤◌, inl, inr, Bool, true, false, if◌then◌else◌, List, [], ◌∷◌, ◌++◌, All, Option, Some, None, Ok, length, slice_get, slice_index, refl, ap, sym, ◌∙◌, subst, arith}
use Rattle.std.proofs.lemmas.Slice.Eq.{bytes_eq-Decides}
use Rattle.std.proofs.lemmas.Bool.{le-ltb}
use Rattle.std.proofs.lemmas.List.Elements.{All-head, All-tail}
use Rattle.c65_base.specs.declared.options.Cpu.{Cpu}
use Rattle.c65_mach.specs.declared.image.Image.{Image}
use Rattle.c65_mach.specs.State.{read, loaded_memory}
use Rattle.c65_mach.specs.Step.{kind_of}
use Rattle.c65_mach.specs.Run.{Setting, Moment, Ended, turn}
use Rattle.c65_sim.specs.Budgets.{is_too_deep}
use Rattle.c65_code.specs.declared.routine.Routine.{Routine}
use Rattle.c65_code.specs.declared.line.Line.{Line}
use Rattle.c65_code.specs.declared.line.Line.TheVariants.{Do}
use Rattle.c65_code.specs.declared.code.Code.{Code}
use Rattle.c65_code.specs.LineState.{Place, State, IsBytes}
use Rattle.c65_code.specs.Placement.{program_start, stack_start, word_of}
use Rattle.c65_code.specs.Forms.{Form, Plain, Run, form_of}
use Rattle.c65_code.specs.Moves.{ref_of, effect}
use Rattle.c65_code.specs.RawMachine.{RawSetting, IsRawOpen, IsRawWithin, RawGoes, raw_weight}
use Rattle.c65_link.specs.Linked.{linked_for}
use Rattle.c65_link_law_spots.specs.Places.{place_in, address_in}
use Rattle.c65_link_law_spots.specs.Sound.{IsSound}
use Rattle.c65_link_law_spots.specs.Laws.{start}
use Rattle.c65_link_law_follow.specs.Agree.{Ground, Agrees, IsFirstOr, IsInside, Arrives, none, more}
use Rattle.c65_link_law_follow.specs.Agree.{Goes}
use Rattle.c65_link_law_follow.specs.Laws.{IsCounted}
use Rattle.c65_link_law_follow.proofs.Follow.{lines_are_followed}
use Rattle.c65_link_law_laid.specs.Linked.{start_number, main_number, unit_lines, raw_in, place_at, ground_in, IsInstruction, IsByteOf}
use Rattle.c65_link_law_runs.proofs.Kept.{IsKeptBy, kept_by}
use Rattle.c65_link_law_runs.proofs.Moves.{weaker, quiet_line}
use Rattle.c65_link_law_runs.proofs.Runs.{goes_both}
use Rattle.c65_link_law_reach.proofs.Steps.{Image_, away_inside, away_outside}
use Rattle.c65_link_law_reach.specs.Reach.{code_ground, IsElsewhere}
use Rattle.std.proofs.Common.{replicate}
use Rattle.std.proofs.lemmas.List.{length-take-le, length-append, length-replicate, get_or-take, get_or_append_left}
use Rattle.std.proofs.lemmas.List.Elements.{All-take, All-append, All-replicate}
use Rattle.c65_mach.specs.State.{Regs}
use Rattle.c65_mach.specs.Run.{Progress, Running, begins, next as next_of, onward, moment_of}
use Rattle.c65_mach.specs.declared.rows.Mode.{Mode}
use Rattle.c65_mach.specs.declared.rows.Op.{Op}
use Rattle.c65_code.specs.declared.line.Operand.{Operand}
use Rattle.c65_code.specs.declared.code.Symbol.{Symbol}
use Rattle.c65_code.specs.Starts.{IsMain}
use Rattle.c65_link.specs.Symbols.{main_in}
use Rattle.c65_link.specs.Linked.{or_zero}
use Rattle.c65_link_law_spots.specs.Places.{routine_count, runtime_base, base_in}
use Rattle.c65_link_law_spots.proofs.Targets.{IsMade, made}
use Rattle.c65_link_law_spots.proofs.Spots.{Ends, ends}
use Rattle.c65_link_law_spots.proofs.Loaded.{IsShaped, shaped}
use Rattle.c65_link_law_laid.specs.Linked.{kept_in}
use Rattle.c65_link_law_laid.proofs.Walk.{first_at, same_there}
use Rattle.c65_link_law_laid.proofs.Linked.{kept}
use Rattle.c65_link_law_images.specs.Laws.{AreBytes}

-- Memory

zero_anywhere : (n i : ℕ) → slice_index (replicate n 0) i ≡ 0
zero_anywhere zero i = refl
zero_anywhere (suc n) zero = refl
zero_anywhere (suc n) (suc i) = zero_anywhere n i

bytes_index : (xs : List ℕ) (i : ℕ) → All (λ v. v < 256) xs → slice_index xs i < 256
bytes_index [] i h = omega arith
bytes_index (x ∷ xs) zero h = All-head (λ v. v < 256) x xs h
bytes_index (x ∷ xs) (suc i) h = bytes_index xs i (All-tail (λ v. v < 256) x xs h)

pub memory_bytes : (image : Image) (b : ℕ) → AreBytes image.payload → read (loaded_memory image) b < 256
memory_bytes image b h =
    bytes_index (loaded_memory image) b (All-take (λ v. v < 256) 65536 (replicate image.load 0 ++ (image.payload ++ replicate 65536 0))
    (All-append (λ v. v < 256) (replicate image.load 0) (image.payload ++ replicate 65536 0) (All-replicate (λ v. v < 256) image.load 0 (omega arith))
    (All-append (λ v. v < 256) image.payload (replicate 65536 0) h (All-replicate (λ v. v < 256) 65536 0 (omega arith)))))

memory_size : (image : Image) → length (loaded_memory image) ≡ 65536
memory_size image =
    let blank : List ℕ = replicate 65536 0 in
    let low : List ℕ = replicate image.load 0 in
    let one : length (image.payload ++ blank) ≡ length image.payload + length blank = length-append image.payload blank in
    let two : length (low ++ (image.payload ++ blank)) ≡ length low + length (image.payload ++ blank) = length-append low (image.payload ++ blank) in
    let three : length blank ≡ 65536 = length-replicate {A = ℕ} 65536 0 in
    length-take-le 65536 (low ++ (image.payload ++ blank)) (omega (arith, one, two, three))

zero_page : (image : Image) (b : ℕ) → image.load ≡ program_start → b < 512 → read (loaded_memory image) b ≡ 0
zero_page image b load small =
    let blank : List ℕ = replicate 65536 0 in
    let low : List ℕ = replicate image.load 0 in
    let size : length low ≡ image.load = length-replicate {A = ℕ} image.load 0 in
    get_or-take 65536 (low ++ (image.payload ++ blank)) b 0 (omega (arith, small))
    ∙ get_or_append_left low (image.payload ++ blank) 0 b (omega (arith, size, load, small)) ∙ zero_anywhere image.load b

-- The first state

abbrev zero_regs : Regs
zero_regs = record { a = 0; x = 0; y = 0; n = false; v = false; z = false; c = false }

abbrev pub first_state : Image → List ℕ → State
first_state image input = record { regs = zero_regs; zp = λ i. 0; mem = read (loaded_memory image); pushed = []; frames = []; input = input; output = []; ended = None }

start_base : (code : Code) → base_in code (start_number code) ≡ program_start
start_base code =
    let f : ℕ = start_number code in
    ap (λ (b : Bool). if b then address_in code f else runtime_base code (f - length code.symbols)) (le-ltb f (length code.symbols) (omega arith))
    ∙ ap (runtime_base code) (let e : f - length code.symbols ≡ routine_count = omega arith in e)

start_first : (cpu : Cpu) (code : Code) (image : Image) → linked_for cpu code ≡ Ok image → place_at code (read (loaded_memory image)) (start_number code, 0) ≡ program_start
start_first cpu code image linked_is =
    let it : IsMade code image = made code cpu image linked_is in
    let e : Ends code = ends code it.plain it.is in
    let a = e.first in let b = e.functions in let c = e.routines in
    ap (kept_in code) (first_at (unit_lines code (start_number code)) (read (loaded_memory image)) (base_in code (start_number code)) ∙ start_base code) ∙ kept code program_start (omega arith) (omega (arith, a, b, c))

pub first_agrees : (cpu : Cpu) (code : Code) (image : Image) (input : List ℕ) → linked_for cpu code ≡ Ok image
    → Agrees (ground_in cpu code image 255 None) ((ground_in cpu code image 255 None).at (start_number code, 0)) (first_state image input) (begins image input)
first_agrees cpu code image input linked_is =
    let sh : IsShaped code cpu image = shaped code cpu image linked_is in
    record {
      cpu = sh.cpu_is;
      pc = sh.reset ∙ sym (start_first cpu code image linked_is);
      regs = refl;
      d = refl;
      s = refl;
      size = memory_size image;
      zp = λ j f. zero_page image j sh.load (omega (arith, f));
      mem = λ c f k. refl;
      code = λ c f k. refl;
      pushed = tt;
      points = tt;
      input = refl;
      output = refl;
    }

-- Steps of the start

-- no instruction of a function begins where pc is
abbrev pub IsAway : Cpu → Code → Image → Moment → Type 0
IsAway cpu code image m = IsElsewhere (code_ground cpu code image) code m.machine.pc

pub record Went (P : Moment → Type 0) (g : Ground) (setting : Setting) (k : ℕ) (p : Place) (u : State) (now : Moment) : Type 0 where
  pub then_at : Moment
  pub rows : ℕ
  pub within : rows ≤ k
  pub goes : Goes P setting rows now then_at
  pub bytes : IsBytes u
  pub agrees : Agrees g (g.at p) u then_at

-- at a line of the start
pub start_away : (cpu : Cpu) (code : Code) (image : Image) (args : List (List ℕ)) (setting : Setting) (j : ℕ) (l : Line) (m : Moment) → Image_ cpu code image args setting → slice_get ((raw_in code args).lines (start_number code)) j ≡ Some l → IsInstruction l → m.machine.pc ≡ (code_ground cpu code image).at (start_number code, j) → IsAway cpu code image m
start_away cpu code image args setting j l m i there_is h pc =
    away_outside cpu code image args setting (start_number code, j) m.machine.pc i (start refl) (omega arith)
    (subst (λ (b : ℕ). IsByteOf code (read (loaded_memory image)) (start_number code, j) b) (sym pc) (i.first (start_number code, j) l (start refl) there_is h))

-- before the rows of a line of the start
pub line_away : (cpu : Cpu) (code : Code) (image : Image) (args : List (List ℕ)) (setting : Setting) (j : ℕ) (l : Line) (now m : Moment) → Image_ cpu code image args setting → slice_get ((raw_in code args).lines (start_number code)) j ≡ Some l → IsInstruction l → now.machine.pc ≡ (code_ground cpu code image).at (start_number code, j)
    → IsFirstOr (IsInside (ground_in cpu code image 255 None) (start_number code, j)) now m → IsAway cpu code image m
line_away cpu code image args setting j l now m i there_is h pc (inl e) = start_away cpu code image args setting j l m i there_is h (ap (λ (x : Moment). x.machine.pc) e ∙ pc)
line_away cpu code image args setting j l now m i there_is h pc (inr z) = away_inside cpu code image args setting (start_number code, j) m.machine.pc i (start refl) z

pub plain_went : (cpu : Cpu) (code : Code) (image : Image) (args : List (List ℕ)) (setting : Setting) (n j : ℕ) (op : Op) (mode : Mode) (operand : Operand) (first : Moment) (t : State) → Image_ cpu code image args setting → slice_get ((raw_in code args).lines (start_number code)) j ≡ Some (Do op mode operand)
    → form_of (Do op mode operand) ≡ Plain op mode operand → IsRawOpen (place_in code) (record { soft = stack_start; hard = 0 }) (ref_of mode (word_of (place_in code) operand) t)
    → Went (IsAway cpu code image) (ground_in cpu code image 255 None) setting n (start_number code, j) t first → Went (IsAway cpu code image) (ground_in cpu code image 255 None) setting (n + 1) (start_number code, suc j) (effect (kind_of op) op mode (word_of (place_in code) operand) t) first
plain_went cpu code image args setting n j op mode operand first t i there_is form is_open w =
    let h : Ground = ground_in cpu code image 255 None in
    let s : RawSetting = raw_in code args in
    let f : ℕ = start_number code in
    let l : Line = Do op mode operand in
    let to : State = effect (kind_of op) op mode (word_of (place_in code) operand) t in
    let quiet = quiet_line l h s f j t i.start_laid there_is (λ r e. no_run_form r (sym form ∙ e)) in
    let v : Arrives h setting (raw_weight (form_of l)) w.then_at (IsInside h (f, j)) (RawGoes s (form_of l) (f, j) t) = lines_are_followed h s setting (record { soft = stack_start; hard = 0 }) f j l t w.then_at i.start_ground i.start_laid there_is quiet.0
    (subst (λ (x : Form). IsCounted h s x) (sym form) tt) w.bytes (omega arith) (subst (λ (x : Form). IsRawWithin s (record { soft = stack_start; hard = 0 }) x t) (sym form) is_open) w.agrees in
    let goes : RawGoes s (Plain op mode operand) (f, j) t v.place v.state = subst (λ (x : Form). RawGoes s x (f, j) t v.place v.state) form v.holds in
    let k : IsKeptBy t v.state = kept_by (form_of l) s (f, j) t v.place v.state quiet.0 quiet.1 w.bytes v.holds in
    let weight = ap raw_weight form in let one = v.within in let all = w.within in
    let there : h.at v.place ≡ h.at (f, suc j) = ap h.at goes.0 ∙ i.start_laid.settled (suc j) in
    record {
      then_at = v.then_at;
      rows = w.rows + v.rows;
      within = omega (arith, weight, one, all);
      goes = goes_both P setting w.rows v.rows (w.rows + v.rows) first w.then_at v.then_at refl w.goes (weaker (IsFirstOr (IsInside h (f, j)) w.then_at) P setting v.rows w.then_at v.then_at (λ m x. line_away cpu code image args setting j l w.then_at m i there_is tt w.agrees.pc x) v.goes);
      bytes = subst IsBytes goes.1 k.bytes;
      agrees = subst (λ (k : ℕ). Agrees h k to v.then_at) there (subst (λ (x : State). Agrees h (h.at v.place) x v.then_at) goes.1 v.agrees);
    }
  where
    P : Moment → Type 0
    P = IsAway cpu code image

    no_run_form : (r : Routine) → Plain op mode operand ≡ Run r → ⊥
    no_run_form r e = (let z : ◌≡◌ {A = Form} (Plain op mode operand) (Run r) = e in absurd cc)

-- Runs from the first moment

onward_front : (setting : Setting) (k : ℕ) (p : Progress) → onward setting (suc k) p ≡ onward setting k (next_of setting p)
unfolding onward
onward_front setting zero p = refl
onward_front setting (suc k) p = ap (next_of setting) (onward_front setting k p)

pub onward_goes : (P : Moment → Type 0) (setting : Setting) (k : ℕ) (now m : Moment) → Goes P setting k now m → onward setting k (Running now) ≡ Running m
unfolding onward
onward_goes P setting zero now m none = refl
onward_goes P setting (suc k) now m (more {n = n} is free at rest) = onward_front setting k (Running now) ∙ ap (onward setting k) is ∙ onward_goes P setting k n m rest

pub onward_ends : (P : Moment → Type 0) (setting : Setting) (k : ℕ) (now m : Moment) (status : ℕ) → Goes P setting k now m → turn setting m ≡ Ended m status → onward setting (k + 1) (Running now) ≡ Ended m status
unfolding onward
onward_ends P setting k now m status goes is =
    let e : k + 1 ≡ suc k = omega arith in
    ap (λ (n : ℕ). onward setting n (Running now)) e ∙ ap (next_of setting) (onward_goes P setting k now m goes) ∙ is

pub free_all : (P : Moment → Type 0) (setting : Setting) (j : ℕ) (now m : Moment) (k : ℕ) → Goes P setting j now m → k < j → is_too_deep (moment_of (onward setting k (Running now))).machine ≡ false
unfolding onward
free_all P setting j now m k none l = absurd (omega (arith, l))
free_all P setting (suc j) now m zero (more {n = n} is free at rest) l = free
free_all P setting (suc j) now m (suc k) (more {n = n} is free at rest) l =
    ap (λ (p : Progress). is_too_deep (moment_of p).machine) (onward_front setting k (Running now) ∙ ap (onward setting k) is) ∙ free_all P setting j n m k rest (omega (arith, l))

-- what holds before each row, and behind the last
pub holds_all : (P : Moment → Type 0) (setting : Setting) (j : ℕ) (now m : Moment) (k : ℕ) → Goes P setting j now m → P m → k ≤ j → P (moment_of (onward setting k (Running now)))
unfolding onward
holds_all P setting j now m zero none last l = last
holds_all P setting j now m (suc k) none last l = absurd (omega (arith, l))
holds_all P setting (suc j) now m zero (more {n = n} is free at rest) last l = at
holds_all P setting (suc j) now m (suc k) (more {n = n} is free at rest) last l =
    subst (λ (p : Progress). P (moment_of p)) (sym (onward_front setting k (Running now) ∙ ap (onward setting k) is)) (holds_all P setting j n m k rest last (omega (arith, l)))

-- main's number

main_found : (symbols : List Symbol) (at i : ℕ) (symbol : Symbol) → slice_get symbols i ≡ Some symbol → symbol.spelling ≡ codes "_main" → (k : ℕ) × (other : Symbol) × (main_in symbols at ≡ Some (at + k)) × (slice_get symbols k ≡ Some other) × (other.spelling ≡ codes "_main")
main_found [] at i symbol held is = absurd (let z : ◌≡◌ {A = Option Symbol} None (Some symbol) = held in cc)
main_found (x ∷ symbols) at i symbol held is = by (bytes_eq x.spelling (codes "_main")) refl i held (λ k h. main_found symbols (at + 1) k symbol h is)
  where
    by : (b : Bool) → bytes_eq x.spelling (codes "_main") ≡ b → (j : ℕ) → slice_get (x ∷ symbols) j ≡ Some symbol
        → ((k : ℕ) → slice_get symbols k ≡ Some symbol → (n : ℕ) × (other : Symbol) × (main_in symbols (at + 1) ≡ Some (at + 1 + n)) × (slice_get symbols n ≡ Some other) × (other.spelling ≡ codes "_main"))
        → (k : ℕ) × (other : Symbol) × (main_in (x ∷ symbols) at ≡ Some (at + k)) × (slice_get (x ∷ symbols) k ≡ Some other) × (other.spelling ≡ codes "_main")
    by true e j h rest = (0, x, ap (λ (b : Bool). if b then Some at else main_in symbols (at + 1)) e ∙ ap Some (let z : at ≡ at + 0 = omega arith in z), refl, (bytes_eq-Decides x.spelling (codes "_main")).0 e)
    by false e zero h rest =
        let same : x ≡ symbol = same_there x symbol h in
        absurd (let z : true ≡ false = sym ((bytes_eq-Decides x.spelling (codes "_main")).1 (ap (λ (y : Symbol). y.spelling) same ∙ is)) ∙ e in cc)
    by false e (suc j) h rest =
        let it = rest j h in
        (suc it.0, it.1, ap (λ (b : Bool). if b then Some at else main_in symbols (at + 1)) e ∙ it.2 ∙ ap Some (let z : at + 1 + it.0 ≡ at + suc it.0 = omega arith in z), it.3, it.4)

pub main_is : (code : Code) (main : ℕ) → IsSound code → IsMain code main → main_number code ≡ main
main_is code main s h =
    let it = main_found code.symbols 0 main h.0 h.1 h.2 in
    let same : it.0 ≡ main = s.writable.own_spelling it.0 main it.1 h.0 it.3 h.1 (it.4 ∙ sym h.2) in
    let found_is : main_in code.symbols 0 ≡ Some main = it.2 ∙ ap Some (let z : 0 + it.0 ≡ main = omega (arith, same) in z) in
    ap or_zero found_is
