-- Parameters have their homes in the frame.
use Rattle.std.proofs.Common.{◌≡◌, ℕ, ◌+◌, ◌<◌, ◌≤◌, Bool, true, false, Option, None, Some, List, length, refl, sym, ◌∙◌, ap, subst, arith}
use Rattle.std.specs.Prelude.{if◌then◌else◌}
use Rattle.c65_csem.specs.Trees.{FuncTy}
use Rattle.c65_meaning.specs.After.{is_among}
use Rattle.c65_meaning.specs.Step.{params_of}
use Rattle.c65_code.specs.Placement.{program_start, stack_end}
use Rattle.c65_genframe.specs.declared.home.Home.{Home}
use Rattle.c65_genframe.specs.declared.home.Home.TheVariants.{Bank, Soft}
use Rattle.c65_genframe.specs.declared.home.Arrival.{Arrival}
use Rattle.c65_genframe.specs.declared.home.Arrival.TheVariants.{Passed, Pushed, Kept}
use Rattle.c65_genframe.specs.Objects.{locals_of}
use Rattle.c65_genframe.specs.Frames.{has_prototype, home_of, is_kept, saved_bytes}
use Rattle.c65_agree_store.specs.Stands.{Spot, At, LiesIn}
use Rattle.c65_agree_state.specs.World.{World, unit_in, Active}
use Rattle.c65_agree_state.specs.Joins.{spot_of, call_bytes}
use Rattle.c65_agree_frame.specs.Entries.{IsPlainFrame}
use Rattle.c65_agree_leave.specs.Laws.{params_in}
use Rattle.c65_agree_enter.specs.Params.{AreDistinct, bytes_of}
use Rattle.c65_agree_enter.specs.Entries.{HaveHomes}
use Rattle.c65_agree_homes.specs.Slots.{behind_slots}
use Rattle.c65_agree_homes.specs.Frames.{IsCallIn}
use Rattle.c65_agree_homes.specs.Laws.{ParametersHaveHomes, ParametersStandInOrder, LastParametersArrive}
use Rattle.c65_agree_homes.proofs.Distinct.{distinct_first}
use Rattle.c65_agree_homes.proofs.Arrived.{ParameterHome}
use Rattle.c65_agree_homes.proofs.Own.{own_distinct, size_same, has_frame}
use Rattle.c65_agree_homes.proofs.Lying.{at_same, at_other, Homed, InBank, InParams, InBlocks, extra, extra_most, spot_bank, spot_param, spot_soft, param_homed, homed_apart, bank_size, slot_size}

module _ (g : World) (names : List (List ℕ)) (a : Active) (f : FuncTy) (h : IsCallIn g names a f) (low : program_start ≤ a.base) (high : a.base + call_bytes a ≤ stack_end) where
  abbrev bytes : ℕ → ℕ
  bytes i = bytes_of (unit_in g) i

  -- in memory or regbank
  pub homed_lies : (i : ℕ) → Homed g a f i → LiesIn (spot_of g a i) (bytes i)
  homed_lies i (InBank b is by) = subst (λ (q : Spot). LiesIn q (bytes i)) (sym (spot_bank g names a f h i b is)) (omega (arith, bank_size g names a f h i b by, by.1, (has_frame g names a f h).six))
  homed_lies i (InParams d is p from to) =
      let place : spot_of g a i ≡ At (a.base + d + extra g names a f h) = spot_param g names a f h i d is (omega (arith, from)) in
      subst (λ (q : Spot). LiesIn q (bytes i)) (sym place) (omega (arith, low), omega (arith, high, to, slot_size g names a f h i, extra_most g names a f h))
  homed_lies i (InBlocks d is m from to) =
      let place = spot_soft g names a f h i d is in
      subst (λ (q : Spot). LiesIn q (bytes i)) (sym place.2) (omega (arith, low), omega (arith, high, to, size_same g names a f h i, place.1))

  within : (i at o : ℕ) → is_among f.params i ≡ true → spot_of g a i ≡ At at → o < bytes i → (a.base + (a.frame.soft + saved_bytes a.frame.bank) ≤ at) × (at + o < a.base + call_bytes a)
  within i at o e there lt = go (home_of a.frame i) refl ((has_frame g names a f h).params i e)
    where
      go : (home : Option Home) → home_of a.frame i ≡ home → ParameterHome g.parts (has_prototype f.ty) i (a.frame.soft + saved_bytes a.frame.bank) (a.frame.soft + saved_bytes a.frame.bank + a.frame.stacked) a.frame.bank home
          → (a.base + (a.frame.soft + saved_bytes a.frame.bank) ≤ at) × (at + o < a.base + call_bytes a)
      go None is by = absurd by
      go (Some (Bank b)) is by = absurd (at_other at (length a.behind) b (sym there ∙ spot_bank g names a f h i b is))
      go (Some (Soft d)) is by =
          let same : at ≡ a.base + d + extra g names a f h = at_same at (a.base + d + extra g names a f h) (sym there ∙ spot_param g names a f h i d is (omega (arith, by.0))) in
          (omega (arith, same, by.0), omega (arith, same, by.1, lt, slot_size g names a f h i, extra_most g names a f h))

  have_homes : HaveHomes g a f.params
  have_homes = record {
    lies = λ i e. homed_lies i (param_homed g names a f h i e);
    within = within;
    apart = λ i j e k other. homed_apart g names a f h i j other (param_homed g names a f h i e) (param_homed g names a f h j k);
  }

pub parameters_have_homes : ParametersHaveHomes
parameters_have_homes g names a f h low high =
    let same : f.params ≡ params_in g a = sym (ap params_of h.function) in
    subst (λ (is : List ℕ). HaveHomes g a is × AreDistinct is) same (have_homes g names a f h low high, distinct_first f.params (locals_of f) (own_distinct g names a f h))

-- ---- in their order

not_kept : (last : Arrival) → ((bank bytes : ℕ) → last ≡ Kept bank bytes → ⊥) → is_kept last ≡ false
not_kept Passed none = refl
not_kept (Pushed bytes) none = refl
not_kept (Kept bank bytes) none = absurd (none bank bytes refl)

module _ (g : World) (names : List (List ℕ)) (a : Active) (f : FuncTy) (h : IsCallIn g names a f) (plain : IsPlainFrame a.frame) where
  kept : is_kept a.frame.last ≡ false
  kept = not_kept a.frame.last plain.none_kept

  in_order : (i : ℕ) → is_among f.params i ≡ true → spot_of g a i ≡ At (a.base + (a.frame.soft + saved_bytes a.frame.bank) + behind_slots g.parts (has_prototype f.ty) f.params i)
  in_order i e = go (home_of a.frame i) refl ((has_frame g names a f h).params i e)
    where
      go : (home : Option Home) → home_of a.frame i ≡ home → ParameterHome g.parts (has_prototype f.ty) i (a.frame.soft + saved_bytes a.frame.bank) (a.frame.soft + saved_bytes a.frame.bank + a.frame.stacked) a.frame.bank home
          → spot_of g a i ≡ At (a.base + (a.frame.soft + saved_bytes a.frame.bank) + behind_slots g.parts (has_prototype f.ty) f.params i)
      go None is by = absurd by
      go (Some (Bank b)) is by =
          let some : 1 ≤ length a.frame.moved = (has_frame g names a f h).moves kept i b e is in
          let none : length a.frame.moved ≡ 0 = ap {B = ℕ} length plain.none_moved in
          absurd (omega (arith, some, none))
      go (Some (Soft d)) is by =
          let place : d ≡ a.frame.soft + saved_bytes a.frame.bank + behind_slots g.parts (has_prototype f.ty) f.params i = (has_frame g names a f h).order kept i d e is in
          let none : extra g names a f h ≡ 0 = ap {B = ℕ} (λ (b : Bool). if b then a.raised else 0) plain.plain in
          let sum : a.base + d + extra g names a f h ≡ a.base + (a.frame.soft + saved_bytes a.frame.bank) + behind_slots g.parts (has_prototype f.ty) f.params i = omega (arith, place, none) in
          spot_param g names a f h i d is (omega (arith, by.0)) ∙ ap At sum

pub parameters_stand_in_order : ParametersStandInOrder
parameters_stand_in_order g names a f h plain = (in_order g names a f h plain, (has_frame g names a f h).stacked (kept g names a f h plain))

pub last_parameters_arrive : LastParametersArrive
last_parameters_arrive g names a f h plain = ((has_frame g names a f h).none_last, (has_frame g names a f h).some_last (kept g names a f h plain))
