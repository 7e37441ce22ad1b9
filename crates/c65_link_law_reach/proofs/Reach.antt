-- The runs of the lines of a code are followed.
use Rattle.std.proofs.Common.{◌≡◌, ℕ, suc, ◌+◌, ◌≤◌, ◌==◌, ◌&&◌, inl, inr, Bool, true, false, if◌then◌else◌, IsTrue, List, Option, Some, None, Ok, slice_get, refl, ap, sym, ◌∙◌, subst, arith}
use Rattle.c65_base.specs.declared.options.Cpu.{Cpu}
use Rattle.c65_mach.specs.declared.image.Image.{Image}
use Rattle.c65_mach.specs.State.{read, loaded_memory}
use Rattle.c65_mach.specs.Run.{Setting, Moment}
use Rattle.c65_code.specs.declared.line.Line.{Line}
use Rattle.c65_code.specs.declared.code.Code.{Code}
use Rattle.c65_code.specs.LineState.{Place, State}
use Rattle.c65_code.specs.Processors.{RunsOn}
use Rattle.c65_code.specs.Moves.{next, Moves as LineMoves}
use Rattle.c65_code.specs.Steady.{IsSteady}
use Rattle.c65_code.specs.RawMachine.{IsRuntime}
use Rattle.c65_link.specs.Linked.{linked_for}
use Rattle.c65_link_law_spots.specs.Sound.{IsSound}
use Rattle.c65_link_law_follow.specs.Agree.{Ground, Agrees, none, IsFirstOr}
use Rattle.c65_link_law_follow.specs.Agree.{Goes}
use Rattle.c65_link_law_laid.specs.Linked.{start_number, raw_in, place_at}
use Rattle.c65_link_law_laid.specs.Laws.{AreLineNumbers}
use Rattle.c65_link_law_runs.specs.Follows.{IsSetFor, IsRunning}
use Rattle.c65_link_law.specs.Coded.{Memory}
use Rattle.c65_link_law_laid.proofs.Apart.{lines_are_apart, first_bytes}
use Rattle.c65_link_law_runs.proofs.Moves.{weaker}
use Rattle.c65_link_law_runs.proofs.Runs.{goes_both}
use Rattle.c65_link_law_reach.specs.Reach.{runtime_in, exit_place, code_ground, IsElsewhere, Arrived, HasArrived, IsReached, at_first, by_move, IsAtLine, AreCallers}
use Rattle.c65_link_law_reach.proofs.Units.{are_units}
use Rattle.c65_link_law_reach.proofs.Steps.{Image_, lines_setting, LineOf, line_there, one_line, Steps, steps_on, steps_out}
use Rattle.c65_code.specs.Comes.{Seen, Shown, shown_by, seen_at, Shows, Comes, here, on}
use Rattle.c65_link_law_spots.proofs.Places.{places_are_placements}
use Rattle.c65_link_law_laid.proofs.Linked.{linked_codes_are_laid, library_chosen}
use Rattle.c65_link_law_spots.specs.Laws.{IsUnit, function, start}
use Rattle.c65_link_law_reach.specs.Reach.{Passes, goes_on, has_ended}
use Rattle.c65_link_law_reach.specs.Laws.{CodesAreFollowed}
use Rattle.c65_link_law_reach.proofs.Pointers.{move_steps}
use Rattle.c65_link_law_reach.proofs.Standing.{lines_stay}

-- What is known of a linked code

pub image_known : (cpu : Cpu) (code : Code) (image : Image) (args : List (List ℕ)) (setting : Setting) → RunsOn cpu code → IsSound code → AreLineNumbers code → linked_for cpu code ≡ Ok image → IsSetFor (raw_in code args) setting → IsRuntime (runtime_in code args) → Image_ cpu code image args setting
image_known cpu code image args setting runs s numbers linked_is set runtime =
    let m : Memory = read (loaded_memory image) in
    let main = linked_codes_are_laid cpu code image args 253 (Some (place_at code m (exit_place code))) runs s numbers linked_is (omega arith) (omega arith) in
    let first = linked_codes_are_laid cpu code image args 255 None runs s numbers linked_is (omega arith) (omega arith) in
    record {
      sound = s;
      set = set;
      runtime = runtime;
      place = places_are_placements code cpu image s linked_is;
      ground = main.0;
      laid = main.1;
      start_ground = first.0;
      start_units = first.1;
      start_laid = first.1 (start_number code) (start refl) (λ e. omega (arith, e), λ e. omega (arith, e));
      units = are_units code args m (code_ground cpu code image) refl refl main.1 (λ f l h e. library_chosen cpu code image args f l s linked_is h e);
      library = λ f l h e. library_chosen cpu code image args f l s linked_is h e;
      first = λ q l unit here h. first_bytes cpu code image s linked_is q l unit here h;
      apart = λ k f p q b here unit one two. lines_are_apart cpu code image s linked_is k f p q b here unit one two;
    }

-- Arrivals

one_more : (q : Place) (seen : Seen) (f p : ℕ) → seen_at q seen f p ≤ seen f p + 1
one_more q seen f p = by ((f == q.0) && (p == q.1))
  where
    by : (b : Bool) → (if b then suc (seen f p) else seen f p) ≤ seen f p + 1
    by true = omega arith
    by false = omega arith

-- a test that holds of what is shown
pub same_shown : (test : Shown → Seen → Bool) (seen : Seen) (t : State) (output : List ℕ) (ended : Option ℕ) → t.output ≡ output → t.ended ≡ ended → IsTrue (test (shown_by t) seen) → IsTrue (test (record { output = output; ended = ended }) seen)
same_shown test seen t output ended e f h =
    subst (λ (o : Option ℕ). IsTrue (test (record { output = output; ended = o }) seen)) f (subst (λ (xs : List ℕ). IsTrue (test (record { output = xs; ended = t.ended }) seen)) e h)

-- rows and an arrival that come before
later : (P : Moment → Type 0) (setting : Setting) (j v w : ℕ) (now m : Moment) (test : Shown → Seen → Bool) (q : Place) (seen : Seen) → 1 ≤ j → j + v ≤ w → Goes P setting j now m → Passes P setting v m test (seen_at q seen) → Passes P setting w now test seen
later P setting j v w now m test q seen least le first (goes_on rows then_at arrivals within goes there holds few) =
    goes_on (j + rows) then_at arrivals (omega (arith, within, le)) (goes_both P setting j rows (j + rows) now m then_at refl first goes) there holds
    (λ f p. (let a = few f p in let b = one_more q seen f p in omega (arith, a, b, least)))
later P setting j v w now m test q seen least le first (has_ended rows status last arrivals within goes free there turn_is holds few) =
    has_ended (j + rows) status last arrivals (omega (arith, within, le)) (goes_both P setting j rows (j + rows) now m last refl first goes) free there turn_is holds
    (λ f p. (let a = few f p in let b = one_more q seen f p in omega (arith, a, b, least)))

-- after its end a run has come to what it comes to
at_end : (code : Code) (test : Shown → Seen → Bool) (v status : ℕ) (q : Place) (u : State) (seen : Seen) → u.ended ≡ Some status → Comes (lines_setting code) (Shows test) v q u seen → IsTrue (test (shown_by u) seen)
at_end code test v status q u seen ended (here holds calm) = holds
at_end code test v status q u seen ended (on l at steady c weighs le wq wu moves next) = absurd (let z : ◌≡◌ {A = Option ℕ} None (Some status) = sym moves.running ∙ ended in cc)

-- Arrivals of the processor

-- what each steady move of the lines keeps
abbrev pub IsCarried : Code → (Place → State → Type 0) → Type 0
IsCarried code Inv = (l : Line) (p q : Place) (t u : State) → Inv p t → slice_get ((lines_setting code).lines p.0) p.1 ≡ Some l → IsSteady (lines_setting code) l t → LineMoves (lines_setting code) l p t q u → Inv q u

pub moves_reach : (code : Code) (first : Place) (start_state : State) → IsCarried code (IsReached (lines_setting code) first start_state)
moves_reach code first start_state l p q t u reached at steady moves = by_move l reached at steady moves

-- no instruction of a function begins there
pub none_arrives : (g : Ground) (code : Code) (Inv : Place → State → Type 0) (m : Moment) → IsElsewhere g code m.machine.pc → HasArrived g code Inv m
none_arrives g code Inv m h q l at is = absurd (h q l at is)

-- at the place where the lines stand
arrived : (cpu : Cpu) (code : Code) (image : Image) (args : List (List ℕ)) (setting : Setting) (Inv : Place → State → Type 0) (p : Place) (t : State) (now : Moment) → Image_ cpu code image args setting → IsRunning t → IsAtLine code p t → Inv p t → Agrees (code_ground cpu code image) ((code_ground cpu code image).at p) t now
    → HasArrived (code_ground cpu code image) code Inv now
arrived cpu code image args setting Inv p t now i r there inv a q l at is =
    let lo : LineOf code args p there.line = line_there code args p there.line i.sound there.at.there in
    let unit : IsUnit code p.0 = function lo.number lo.unit lo.there lo.is in
    let first = i.first p there.line unit (ap (λ (ls : List Line). slice_get ls p.1) lo.same ∙ lo.own) there.at.instruction in
    let same : p ≡ q = sym (one_line cpu code image args setting p q l ((code_ground cpu code image).at p) i unit first at (sym a.pc ∙ is)) in
    subst (λ (x : Place). Arrived (code_ground cpu code image) Inv x now) same (record { state = t; running = r.running; holds = inv; agrees = a })

-- before the rows of a move
move_arrives : (g : Ground) (code : Code) (Inv : Place → State → Type 0) (now m : Moment) → HasArrived g code Inv now → IsFirstOr (IsElsewhere g code) now m → HasArrived g code Inv m
move_arrives g code Inv now m h (inl e) = subst (HasArrived g code Inv) (sym e) h
move_arrives g code Inv now m h (inr away) = none_arrives g code Inv m away

after_step : (cpu : Cpu) (code : Code) (image : Image) (setting : Setting) (Inv : Place → State → Type 0) (test : Shown → Seen → Bool) (c v w : ℕ) (l : Line) (p : Place) (t : State) (now : Moment) (seen : Seen) → c + v ≤ w → HasArrived (code_ground cpu code image) code Inv now
    → ((q : Place) (u : State) → LineMoves (lines_setting code) l p t q u → Comes (lines_setting code) (Shows test) v q u (seen_at q seen))
    → ((m : Moment) (q : Place) (u : State) → LineMoves (lines_setting code) l p t q u → IsRunning u → AreCallers code u.frames → Agrees (code_ground cpu code image) ((code_ground cpu code image).at q) u m → Passes (HasArrived (code_ground cpu code image) code Inv) setting (v + 2) m test (seen_at q seen))
    → Steps (code_ground cpu code image) setting c now code l p t → Passes (HasArrived (code_ground cpu code image) code Inv) setting (w + 2) now test seen
after_step cpu code image setting Inv test c v w l p t now seen le first next rest (steps_on rows m q u least within goes moves running callers agrees) =
    let g : Ground = code_ground cpu code image in
    later (HasArrived g code Inv) setting rows (v + 2) (w + 2) now m test q seen least (omega (arith, within, le)) (weaker (IsFirstOr (IsElsewhere g code) now) (HasArrived g code Inv) setting rows now m (λ x h. move_arrives g code Inv now x first h) goes)
    (rest m q u moves running callers agrees)
after_step cpu code image setting Inv test c v w l p t now seen le first next rest (steps_out rows status last q u within goes free away turn_is moves ended output) =
    let g : Ground = code_ground cpu code image in
    has_ended rows status last (seen_at q seen) (omega (arith, within, le)) (weaker (IsFirstOr (IsElsewhere g code) now) (HasArrived g code Inv) setting rows now last (λ x h. move_arrives g code Inv now x first h) goes) free (none_arrives g code Inv last away) turn_is
    (same_shown test (seen_at q seen) u last.output (Some status) output ended (at_end code test v status q u (seen_at q seen) ended (next q u moves)))
    (λ f h. (let b = one_more q seen f h in omega (arith, b)))

pub reach : (cpu : Cpu) (code : Code) (image : Image) (args : List (List ℕ)) (setting : Setting) (Inv : Place → State → Type 0) (test : Shown → Seen → Bool) (w : ℕ) (p : Place) (t : State) (now : Moment) (seen : Seen) → Image_ cpu code image args setting → IsCarried code Inv → Comes (lines_setting code) (Shows test) w p t seen → IsRunning t → AreCallers code t.frames
    → IsAtLine code p t → Inv p t → Agrees (code_ground cpu code image) ((code_ground cpu code image).at p) t now → Passes (HasArrived (code_ground cpu code image) code Inv) setting (w + 2) now test seen
reach cpu code image args setting Inv test w p t now seen i carried (here holds calm) r callers there inv a =
    goes_on 0 now seen (omega arith) none (arrived cpu code image args setting Inv p t now i r there inv a) (same_shown test seen t now.output None (sym a.output) r.running holds) (λ f h. omega arith)
reach cpu code image args setting Inv test w p t now seen i carried (on {v = v} l at steady c weighs le wq wu moves next) r callers there inv a =
    after_step cpu code image setting Inv test c v w l p t now seen le (arrived cpu code image args setting Inv p t now i r there inv a) next
    (λ m q u moved running among agrees. reach cpu code image args setting Inv test v q u m (seen_at q seen) i carried (next q u moved) running among (lines_stay code i.sound i.place l p q t u there at steady moved) (carried l p q t u inv at steady moved) agrees)
    (move_steps l cpu code image args setting c p t now wq wu i (line_there code args p l i.sound at) r callers steady weighs moves a)

pub codes_are_followed : CodesAreFollowed
codes_are_followed cpu code image args setting test w p t now seen runs s numbers linked_is set runtime comes r callers there a =
    reach cpu code image args setting (IsReached (lines_setting code) p t) test w p t now seen (image_known cpu code image args setting runs s numbers linked_is set runtime) (moves_reach code p t) comes r callers there at_first a
