-- What a code comes to at every placement, it comes to with its symbols numbered anew, at the linker's.
use Rattle.std.proofs.Common.{◌≡◌, ℕ, ◌+◌, ◌<◌, Bool, List, [], None, Ok, map, refl, sym, ap, ◌∙◌, subst, inl, inr, arith}
use Rattle.std.specs.Prelude.{◌⊎◌}
use Rattle.c65_base.specs.declared.options.Cpu.TheVariants.{Nmos}
use Rattle.c65_code.specs.declared.line.Sym.{Sym}
use Rattle.c65_code.specs.declared.code.Code.{Code}
use Rattle.c65_code.specs.Writable.{IsWritable}
use Rattle.c65_code.specs.LineState.{Place, Frame, State}
use Rattle.c65_code.specs.Placement.{Setting, setting_of, program_start, IsPlacement}
use Rattle.c65_code.specs.Moves.{IsCallee}
use Rattle.c65_code.specs.Comes.{Seen, none_seen, seen_at, Comes, Shown, Shows, first_place, ComesFrom}
use Rattle.c65_code.specs.Follows.{Grows}
use Rattle.c65_asm.specs.Renumbered.{renumbered}
use Rattle.c65_link.specs.Linked.{linked_for, image_for}
use Rattle.c65_link_law_spots.specs.Places.{place_in}
use Rattle.c65_link_law_spots.proofs.Places.{AreBehindStart, all_behind_start, places_are_placements}
use Rattle.c65_asm_law_names.specs.Numbers.{number_in, by_number}
use Rattle.c65_asm_law_names.specs.Laws.{RenumberedComes}
use Rattle.c65_asm_law_names.proofs.Naming.{IsPart, function}
use Rattle.c65_asm_law_names.proofs.Moved.{moved_place, moved_frame, moved}
use Rattle.c65_asm_law_names.proofs.Settings.{Renames, AreKnown}
use Rattle.c65_asm_law_names.proofs.Coming.{Among, below_on, comes}
use Rattle.c65_asm_law_names.proofs.Machine.{Known, settings_rename, same_lines_rename}
use Rattle.c65_asm_law_names.proofs.Places.{past, past_not, past_last, IsUnnamed, name_in, linked_at, unnamed_index, placing, known_address, unknown_address, known_or, function_inside, unnamed, unnamed_few, unnamed_low, placing_is, starts}
use Rattle.c65_asm_law_names.proofs.Sound.{renumbered_is_sound}

-- ten placements beside the first, each with another byte of the start left out
abbrev count : ℕ
count = 10

module _ (code : Code) (w : IsWritable code) (own : IsPlacement (renumbered code) (place_in (renumbered code))) (behind : AreBehindStart (renumbered code)) where
  abbrev first : Setting
  first = setting_of code (placing code 10)

  abbrev others : ℕ → Setting
  others j = setting_of code (placing code j)

  abbrev last : Setting
  last = setting_of (renumbered code) (place_in (renumbered code))

  -- a function that nothing names has no address in the placement that leaves its own out
  none_there : (t : State) (f : ℕ) → IsCallee first t f → name_in code w own behind f ≡ None → (j : ℕ) × (j < count) × ((g : ℕ) → IsCallee (others j) t g → ⊥)
  none_there t f is none =
      let u = unnamed code w own behind f is.0 none in
      let few = unnamed_few code w own behind f u in
      (unnamed_index code f, few, λ g there. by u few g there (known_or code w own behind g (function_inside code w own behind g there.0)))
    where
      out : ℕ
      out = unnamed_index code f

      at : unnamed_index code f < 10 → (placing code 10).address f ≡ program_start + unnamed_index code f
      at few = unknown_address code w own behind 10 f none ∙ ap (λ (k : ℕ). program_start + k) (past_last (unnamed_index code f) few)

      by : IsUnnamed code w own behind f → unnamed_index code f < 10 → (g : ℕ) → IsCallee (others (unnamed_index code f)) t g → Known code w g ⊎ (name_in code w own behind g ≡ None) → ⊥
      by u few g there (inl known) =
          let same : program_start + past 10 (unnamed_index code f) ≡ linked_at code w own behind g =
          sym (unknown_address code w own behind 10 f none) ∙ is.1 ∙ sym there.1 ∙ known_address code w own behind (unnamed_index code f) g known in
          unnamed_low code w own behind 10 f g u known there.0 same
      by u few g there (inr lacks) =
          let same : program_start + unnamed_index code f ≡ program_start + past (unnamed_index code f) (unnamed_index code g) =
          sym (at few) ∙ is.1 ∙ sym there.1 ∙ unknown_address code w own behind (unnamed_index code f) g lacks in
          past_not (unnamed_index code f) (unnamed_index code g) (omega (arith, same))

  among : Among first others count (Known code w)
  among = record {
    lines = λ j f. refl;
    renames = λ j. same_lines_rename code w (placing code j) (placing code 10) (λ f known. known_address code w own behind j f known ∙ sym (known_address code w own behind 10 f known)) (λ b. refl) (λ b. refl) (placing_is code w own behind 10);
    known = λ t f is. known_by t f is (known_or code w own behind f (function_inside code w own behind f is.0));
    second = λ j t f g known is there.
        let same = (placing_is code w own behind j).function_own g f there.0 is.0 (there.1 ∙ sym is.1 ∙ known_address code w own behind 10 f known ∙ sym (known_address code w own behind j f known)) in
        subst (Known code w) (sym same) known;
  }
    where
      known_by : (t : State) (f : ℕ) → IsCallee first t f → Known code w f ⊎ (name_in code w own behind f ≡ None) → Known code w f ⊎ ((j : ℕ) × (j < count) × ((g : ℕ) → IsCallee (others j) t g → ⊥))
      known_by t f is (inl known) = inl known
      known_by t f is (inr none) = inr (none_there t f is none)

  to_last : Renames first last (number_in code) (Known code w)
  to_last = settings_rename code w (placing code 10) (place_in (renumbered code)) (λ f known. known_address code w own behind 10 f known) (λ b. refl) (λ b. refl) own

  no_frames : (t : State) → t.frames ≡ [] → moved (number_in code) t ≡ t
  no_frames t e = ap (λ (fs : List Frame). record t { frames = map (moved_frame (number_in code)) fs }) e ∙ ap (λ (fs : List Frame). record t { frames = fs }) (sym e)

  come_from : (main : ℕ) (test : Shown → Seen → Bool) (weight : ℕ) (t : State) → Known code w main → Grows test → t.frames ≡ []
      → ((out : ℕ) → ComesFrom (setting_of code (placing code out)) main test weight t) → ComesFrom last (number_in code main) (λ shown seen. test shown (by_number code seen)) weight t
  come_from main test weight t known grows empty from =
      let place = first_place first main in
      let begins : moved_place (number_in code) place ≡ first_place last (number_in code main) = ap (λ (k : ℕ). let p : Place = (number_in code main, k) in p) (sym (to_last.settles main 0 known)) in
      let later = seen_at (moved_place (number_in code) place) none_seen in
      let frames : AreKnown (Known code w) t.frames = subst (AreKnown (Known code w)) (sym empty) tt in
      let all = comes first others count last (number_in code) (Known code w) to_last among test grows (from 10) (λ j below. (weight, from j)) known frames later (below_on (number_in code) place none_seen none_seen (λ f k. omega arith)) in
      subst (λ (x : State). Comes last (Shows (λ shown seen. test shown (by_number code seen))) weight (first_place last (number_in code main)) x (seen_at (first_place last (number_in code main)) none_seen)) (no_frames t empty)
      (subst (λ (p : Place). Comes last (Shows (λ shown seen. test shown (by_number code seen))) weight p (moved (number_in code) t) (seen_at p none_seen)) begins all)

pub renumbered_comes : RenumberedComes
renumbered_comes code image main args input test weight w types is is_main lines grows from t start =
    let s = renumbered_is_sound code w types in
    let made : linked_for Nmos (renumbered code) ≡ Ok (record image { cpu = Nmos }) = ap (image_for Nmos) is in
    let own = places_are_placements (renumbered code) Nmos (record image { cpu = Nmos }) s made in
    let behind = all_behind_start (renumbered code) Nmos (record image { cpu = Nmos }) s made in
    let x : Sym = record { 0 = main } in
    let known : IsPart code x = function lines.at lines.unit lines.there (ap (λ (n : ℕ). let y : Sym = record { 0 = n } in y) lines.is) in
    come_from code w own behind main test weight t known grows start.frames
    (λ out. from (placing code out) t (placing_is code w own behind out) (starts code w own behind out args input t start))
