-- From what a code comes to, to what its image does.
use Rattle.std.proofs.Common.{◌≡◌, inl, inr, ℕ, suc, ◌+◌, ◌*◌, ◌<◌, ◌≤◌, true, false, List, [], ◌∷◌, Option, Some, None, Result, Ok, Err, refl, sym, ap, ◌∙◌, subst, arith}
use Rattle.std.specs.Prelude.{IsTrue, nat_le, ◌&&◌, ◌==◌, bytes_eq}
use Rattle.std.proofs.lemmas.Bool.{leb-true, eqb-true}
use Rattle.std.proofs.lemmas.Slice.Eq.{bytes_eq-Decides}
use Rattle.std.proofs.Math.Nat.{mul-le-mul_left}
use Rattle.c65_base.specs.declared.options.Cpu.{Cpu}
use Rattle.c65_mach.specs.declared.image.Image.{Image}
use Rattle.c65_mach.specs.Run.{Moment, Progress, Running, Ended, Stopped, moment_of, setting_of as machine_of, begins, run_of}
use Rattle.c65_meaning.specs.Program.{ProgramTy}
use Rattle.c65_meaning.specs.Sites.{jumps}
use Rattle.c65_meaning.specs.Sem.{Outcome, Runs, Ends, HasNone, IsDeep, IsDefined, turns_of, sem, Matches}
use Rattle.c65_code.specs.declared.code.Code.{Code}
use Rattle.c65_code.specs.LineState.{Place}
use Rattle.c65_code.specs.Starts.{IsMain}
use Rattle.c65_code.specs.Comes.{Seen, Shown}
use Rattle.c65_code.specs.Processors.{RunsOn}
use Rattle.c65_code.specs.RawMachine.{IsRuntime}
use Rattle.c65_code.specs.Writable.{IsWritable}
use Rattle.c65_asm.specs.Renumbered.{IsOfTypes, renumbered}
use Rattle.c65_link.specs.Linked.{Fault, linked, image_for, linked_for}
use Rattle.c65_know_law.specs.Laws.{NotesAreTrue}
use Rattle.c65_link_law_runtime.specs.Laws.{LinkedRuntimesAreMet}
use Rattle.c65_link_law_spots.specs.Places.{place_in}
use Rattle.c65_link_law_spots.specs.Sound.{IsSound}
use Rattle.c65_link_law_laid.specs.Laws.{AreLineNumbers}
use Rattle.c65_link_law_bytes.specs.Laws.{AreCellNumbers}
use Rattle.c65_link_law_bytes.proofs.Files.{files_are_bytes}
use Rattle.c65_link_law_bytes.proofs.Read.{read_codes_have_bytes}
use Rattle.c65_link_law_reach.specs.Reach.{runtime_in, code_ground, Arrived, HasArrived}
use Rattle.c65_link_law_images.specs.Reaches.{IsShownBy, Reaches}
use Rattle.c65_link_law_images.specs.Laws.{IsRun}
use Rattle.c65_link_law_images.proofs.WithArguments.{images_follow}
use Rattle.c65_headline.specs.Images.{AreBytes, IsFreeUpTo, IsRecordedUpTo, seen_of, Shows, ImageAgrees}
use Rattle.c65_headline.specs.Lines.{same_end, has_turned, shows_state, has_almost_turned, shows_before_end, CodeAgrees}
use Rattle.c65_asm_law_names.specs.Numbers.{HasSegment, number_in, by_number}
use Rattle.c65_asm_law_names.proofs.Sound.{renumbered_is_sound, main_is_numbered}
use Rattle.c65_asm_law_names.proofs.Renumbered.{renumbered_comes}
use Rattle.c65_headline.proofs.Notes.{notes_hold}
use Rattle.c65_driver_law_images.proofs.Processors.{renumbered_runs}
use Rattle.c65_headline.proofs.Tests.{both, and_true, either}
use Rattle.c65_headline.proofs.Ends.{HasEndedAs, ended_as, before_end}
use Rattle.c65_headline.proofs.Codes.{shown_before_end_grows, shown_before_end}

-- ---- one moment

abbrev status_is : Option ℕ → ℕ → Type 0
status_is None v = ⊥
status_is (Some w) v = w ≡ v

end_is : (e : Option ℕ) (v : ℕ) → IsTrue (same_end e (Some v)) → status_is e v
end_is None v h = cc
end_is (Some w) v h = eqb-true w v h

matched_running : (out : List ℕ) (turns : ℕ) (pr : Progress) (s : Shown) → IsShownBy s pr → IsTrue (shows_state (Runs out turns) s) → Matches (Runs out turns) (seen_of pr)
matched_running out turns (Running now) s e h =
    let k : IsTrue (bytes_eq now.output out && true) = subst (λ (x : Shown). IsTrue (bytes_eq x.output out && same_end x.ended None)) e h in
    sym ((bytes_eq-Decides now.output out).0 ((both (bytes_eq now.output out) true k).0))
matched_running out turns (Ended now status) s e h =
    let k : IsTrue (bytes_eq now.output out && false) = subst (λ (x : Shown). IsTrue (bytes_eq x.output out && same_end x.ended None)) e h in
    absurd (let f : IsTrue false = (both (bytes_eq now.output out) false k).1 in cc)
matched_running out turns (Stopped now) s e h = absurd e

matched_ended : (out : List ℕ) (status turns : ℕ) (pr : Progress) (s : Shown) → IsShownBy s pr → IsTrue (shows_state (Ends out status turns) s) → Matches (Ends out status turns) (seen_of pr)
matched_ended out status turns (Running now) s e h =
    let k : IsTrue (bytes_eq now.output out && false) = subst (λ (x : Shown). IsTrue (bytes_eq x.output out && same_end x.ended (Some status))) e h in
    absurd (let f : IsTrue false = (both (bytes_eq now.output out) false k).1 in cc)
matched_ended out status turns (Ended now v) s e h =
    let k : IsTrue (bytes_eq now.output out && (v == status)) = subst (λ (x : Shown). IsTrue (bytes_eq x.output out && same_end x.ended (Some status))) e h in
    (sym ((bytes_eq-Decides now.output out).0 ((both (bytes_eq now.output out) (v == status) k).0)), sym (eqb-true v status ((both (bytes_eq now.output out) (v == status) k).1)))
matched_ended out status turns (Stopped now) s e h = absurd e

pub matched : (o : Outcome) (pr : Progress) (s : Shown) → IsShownBy s pr → IsTrue (shows_state o s) → Matches o (seen_of pr)
matched (Runs out turns) pr s e h = matched_running out turns pr s e h
matched (Ends out status turns) pr s e h = matched_ended out status turns pr s e h
matched (HasNone why) pr s e h = cc
matched IsDeep pr s e h = cc

-- ---- arrivals are rows

turned_by : (places : List Place) (most turns rows : ℕ) (seen : Seen) → ((f p : ℕ) → seen f p ≤ suc rows) → IsTrue (has_turned places most turns seen) → turns ≤ most * (rows + 1)
turned_by [] most turns rows seen few h = cc
turned_by (q ∷ qs) most turns rows seen few h = elim (either (nat_le turns (most * seen q.0 q.1)) (has_turned qs most turns seen) h) [
  | inl x ↦ let le : turns ≤ most * seen q.0 q.1 = leb-true turns (most * seen q.0 q.1) x in
      let f : seen q.0 q.1 ≤ suc rows = few q.0 q.1 in
      let g : seen q.0 q.1 ≤ rows + 1 = omega arith in
      let up : most * seen q.0 q.1 ≤ most * (rows + 1) = mul-le-mul_left most g in
      omega arith
  | inr x ↦ turned_by qs most turns rows seen few x
]

almost_turned_by : (places : List Place) (most turns rows : ℕ) (seen : Seen) → ((f p : ℕ) → seen f p ≤ suc rows) → IsTrue (has_almost_turned places most turns seen) → turns ≤ most * (suc rows + 1)
almost_turned_by [] most turns rows seen few h = cc
almost_turned_by (q ∷ qs) most turns rows seen few h = elim (either (nat_le turns (most * suc (seen q.0 q.1))) (has_almost_turned qs most turns seen) h) [
  | inl x ↦ let le : turns ≤ most * suc (seen q.0 q.1) = leb-true turns (most * suc (seen q.0 q.1)) x in
      let f : seen q.0 q.1 ≤ suc rows = few q.0 q.1 in
      let g : suc (seen q.0 q.1) ≤ suc rows + 1 = omega arith in
      let up : most * suc (seen q.0 q.1) ≤ most * (suc rows + 1) = mul-le-mul_left most g in
      omega arith
  | inr x ↦ almost_turned_by qs most turns rows seen few x
]

-- ---- both moments together

-- a moment that shows an outcome, with its turns behind it
record IsLate (o : Outcome) (most : ℕ) (image : Image) (args : List (List ℕ)) (input : List ℕ) (P : Moment → Type 0) : Type 0 where
  rows : ℕ
  turned : turns_of o ≤ most * (rows + 1)
  same : Matches o (seen_of (run_of image args input rows))
  free : IsFreeUpTo image args input rows
  recorded : (k : ℕ) → k ≤ rows → P (moment_of (run_of image args input k))

running_at : (s : Shown) (pr : Progress) → IsShownBy s pr → s.ended ≡ None → (now : Moment) × (pr ≡ Running now)
running_at s (Running now) e h = (now, refl)
running_at s (Ended now v) e h = absurd (let ended : s.ended ≡ Some v = ap (λ (x : Shown). x.ended) e in let k : (let x : Option ℕ = None in x ≡ Some v) = sym h ∙ ended in cc)
running_at s (Stopped now) e h = absurd e

late_by : (o : Outcome) (most : ℕ) (places : List Place) (code : Code) (image : Image) (args : List (List ℕ)) (input : List ℕ) (P : Moment → Type 0) (w v : ℕ)
    → Reaches P image args input (λ shown seen. shows_state o shown) w → Reaches P image args input (λ shown seen. shows_before_end places most o shown (by_number code seen)) v
    → IsLate o most image args input P
late_by (Runs out turns) most places code image args input P w v a b =
    let seen : Seen = by_number code b.seen in
    let parts : IsTrue (bytes_eq b.shown.output out) × IsTrue (same_end b.shown.ended None && has_turned places most turns seen) = both (bytes_eq b.shown.output out) (same_end b.shown.ended None && has_turned places most turns seen) b.passes in
    let more : IsTrue (same_end b.shown.ended None) × IsTrue (has_turned places most turns seen) = both (same_end b.shown.ended None) (has_turned places most turns seen) parts.1 in
    record {
      rows = b.rows;
      turned = turned_by places most turns b.rows seen (λ f q. b.few (number_in code f) q) more.1;
      same = matched (Runs out turns) (run_of image args input b.rows) b.shown b.shows (and_true (bytes_eq b.shown.output out) (same_end b.shown.ended None) parts.0 more.0);
      free = b.free;
      recorded = b.recorded;
    }
late_by (Ends out status turns) most places code image args input P w v a b =
    let seen : Seen = by_number code b.seen in
    let parts : IsTrue (same_end b.shown.ended None) × IsTrue (has_almost_turned places most turns seen) = both (same_end b.shown.ended None) (has_almost_turned places most turns seen) b.passes in
    let same : Matches (Ends out status turns) (seen_of (run_of image args input a.rows)) = matched (Ends out status turns) (run_of image args input a.rows) a.shown a.shows a.passes in
    let end : HasEndedAs out status (run_of image args input a.rows) = ended_as out status turns (run_of image args input a.rows) same in
    let still = running_at b.shown (run_of image args input b.rows) b.shows (shown_before_end places most (Ends out status turns) b.shown seen b.passes) in
    let before : b.rows < a.rows = before_end (machine_of image args) b.rows a.rows (Running (begins image input)) still.0 end.now status still.1 end.is in
    let few : turns ≤ most * (suc b.rows + 1) = almost_turned_by places most turns b.rows seen (λ f q. b.few (number_in code f) q) parts.1 in
    let rows : suc b.rows + 1 ≤ a.rows + 1 = omega (arith, before) in
    let up : most * (suc b.rows + 1) ≤ most * (a.rows + 1) = mul-le-mul_left most rows in
    record {
      rows = a.rows;
      turned = omega (arith, few, up);
      same = same;
      free = a.free;
      recorded = a.recorded;
    }
late_by (HasNone why) most places code image args input P w v a b = absurd (let h : IsTrue false = a.passes in cc)
late_by IsDeep most places code image args input P w v a b = absurd (let h : IsTrue false = a.passes in cc)

pub shown_twice : (made : Code) (p : ProgramTy) (code : Code) (image : Image) (args : List (List ℕ)) (input : List ℕ) (n more : ℕ) (places : List Place) (P : Moment → Type 0)
    → IsDefined (sem p args input n) → ((m : ℕ) → ((k : ℕ) → k ≤ m → P (moment_of (run_of image args input k))) → IsRecordedUpTo made image args input m)
    → Reaches P image args input (λ shown seen. shows_state (sem p args input n) shown) (4000 * (n + 1))
    → Reaches P image args input (λ shown seen. shows_before_end places (jumps p) (sem p args input n) shown (by_number code seen)) (4000 * (n + 1) + more)
    → Shows made p image args input n
shown_twice made p code image args input n more places P d recorded a b =
    let late : IsLate (sem p args input n) (jumps p) image args input P = late_by (sem p args input n) (jumps p) places code image args input P (4000 * (n + 1)) (4000 * (n + 1) + more) a b in
    record {
      agrees = record {
        defined = d;
        early = a.rows;
        is_early = let w : a.rows ≤ 4000 * (n + 1) + 96 = a.within in omega arith;
        same_early = matched (sem p args input n) (run_of image args input a.rows) a.shown a.shows a.passes;
        late = late.rows;
        is_late = late.turned;
        same_late = late.same;
      };
      free_early = a.free;
      free_late = late.free;
      recorded_early = recorded a.rows a.recorded;
      recorded_late = recorded late.rows late.recorded;
    }

-- ---- the image of a code whose lines agree

-- an image for a processor is the linker's, but for its first bytes
any_image : (cpu : Cpu) (r : Result Image Fault) (image : Image) → image_for cpu r ≡ Ok image → (i : Image) × (r ≡ Ok i)
any_image cpu (Ok i) image h = (i, refl)
any_image cpu (Err fault) image h = absurd (let k : (let x : Result Image Fault = Err fault in x ≡ Ok image) = h in cc)

-- what is noted has held where the lines have come to each instruction that was reached
noted : NotesAreTrue → (cpu : Cpu) (code : Code) (image : Image) (main : ℕ) (args : List (List ℕ)) (input : List ℕ) → IsSound code → linked_for cpu code ≡ Ok image → IsMain code main
    → (m : ℕ) → ((k : ℕ) → k ≤ m → HasArrived (code_ground cpu code image) code (IsRun code main args input) (moment_of (run_of image args input k))) → IsRecordedUpTo code image args input m
noted notes cpu code image main args input s l is_main m arrived k q line le there h pc =
    let a : Arrived (code_ground cpu code image) (IsRun code main args input) q (moment_of (run_of image args input k)) = arrived k le q line (record { there = there; instruction = h }) pc in
    notes_hold notes code (place_in code) main args input a.holds.0 a.state q (moment_of (run_of image args input k)).machine s a.holds.1 a.holds.2 a.running a.agrees.regs a.agrees.zp

pub image_agrees : LinkedRuntimesAreMet → NotesAreTrue
    → (cpu : Cpu) (p : ProgramTy) (code : Code) (image : Image) (main : ℕ) → IsWritable code → IsOfTypes code → RunsOn cpu code → IsMain code main → HasSegment code main
    → linked_for cpu (renumbered code) ≡ Ok image → CodeAgrees p code main → ImageAgrees (renumbered code) p image
image_agrees runtime notes cpu p code image main w ty runs is_main there l a args input n bytes given few d =
    let made : Code = renumbered code in
    let s : IsSound made = renumbered_is_sound code w ty in
    let r : RunsOn cpu made = renumbered_runs cpu code runs in
    let m : IsMain made (number_in code main) = main_is_numbered code main w is_main there in
    let i : (i : Image) × (linked made ≡ Ok i) = any_image cpu (linked made) image l in
    let numbers : AreLineNumbers made × AreCellNumbers made = read_codes_have_bytes code ty in
    let file : AreBytes image.payload = files_are_bytes cpu made image numbers.0 numbers.1 l in
    let all : IsRuntime (runtime_in made args) = runtime made args in
    let P : Moment → Type 0 = HasArrived (code_ground cpu made image) made (IsRun made (number_in code main) args input) in
    let early : Reaches P image args input (λ shown seen. shows_state (sem p args input n) shown) (4000 * (n + 1)) =
    images_follow cpu made image r s numbers.0 l file (number_in code main) m args input (λ shown seen. shows_state (sem p args input n) shown) (4000 * (n + 1)) bytes given few all
    (renumbered_comes code i.0 main args input (λ shown seen. shows_state (sem p args input n) shown) (4000 * (n + 1)) w ty i.1 is_main there (λ shown seen more b h. h)
    (λ place t pl st. a.early place args input n t pl given st d)) in
    let late : Reaches P image args input (λ shown seen. shows_before_end a.places (jumps p) (sem p args input n) shown (by_number code seen)) (4000 * (n + 1) + a.more) =
    images_follow cpu made image r s numbers.0 l file (number_in code main) m args input (λ shown seen. shows_before_end a.places (jumps p) (sem p args input n) shown (by_number code seen)) (4000 * (n + 1) + a.more) bytes given few all
    (renumbered_comes code i.0 main args input (shows_before_end a.places (jumps p) (sem p args input n)) (4000 * (n + 1) + a.more) w ty i.1 is_main there (shown_before_end_grows a.places (jumps p) (sem p args input n))
    (λ place t pl st. a.late place args input n t pl given st d)) in
    shown_twice made p code image args input n a.more a.places P d (λ k h. noted notes cpu made image (number_in code main) args input s l m k h) early late
