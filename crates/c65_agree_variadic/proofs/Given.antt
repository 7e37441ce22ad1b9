-- The frame of a function that takes further arguments.
use Rattle.std.proofs.Common.{◌≡◌, ℕ, ◌+◌, ◌-◌, ◌≤◌, List, [], ◌∷◌, Option, Some, None, Bool, true, false, length, refl, sym, ap, ◌∙◌, arith}
use Rattle.std.specs.Prelude.{if◌then◌else◌, ◌||◌, nat_lt, Ok, Err, slice_get}
use Rattle.c65_base.specs.declared.refusal.Size.TheVariants as sizes
use Rattle.c65_base.specs.Answers.{large}
use Rattle.c65_ctype.specs.Trees.{Fn, fn}
use Rattle.c65_csem.specs.declared.items.Parts.{Parts}
use Rattle.c65_csem.specs.Places.{is_fixed_object}
use Rattle.c65_csem.specs.Trees.{FuncTy}
use Rattle.c65_meaning.specs.After.{is_among}
use Rattle.c65_meaning.specs.Step.{params_of}
use Rattle.c65_genframe.specs.declared.modes.Modes.{Modes}
use Rattle.c65_genframe.specs.declared.mark.Mark.{Mark}
use Rattle.c65_genframe.specs.declared.mark.Mark.TheVariants.{Other, Local, Parameter}
use Rattle.c65_genframe.specs.declared.home.Home.{Home}
use Rattle.c65_genframe.specs.declared.home.Home.TheVariants.{Bank, Soft}
use Rattle.c65_genframe.specs.Objects.{locals_of}
use Rattle.c65_genframe.specs.Sizes.{object_in, object_bytes, bank_bytes}
use Rattle.c65_genframe.specs.Marks.{lowest, all_marks}
use Rattle.c65_genframe.specs.Places.{Places, none_placed, more, fits, with_none, with_banked, with_soft, with_later, with_marked, placed_all}
use Rattle.c65_genframe.specs.Frames.{Framed, is_variadic, takes_stack, has_prototype, register_param, arrival, home_of, saved_bytes, check_of, settled, passed_bytes, placed_in, frame_of}
use Rattle.c65_ctype.specs.Views.{types_of}
use Rattle.c65_agree_homes.proofs.Arrived.{ParameterHome}
use Rattle.c65_agree_homes.proofs.Own.{framed, has_frame}
use Rattle.c65_agree_homes.proofs.Lying.{at_same, at_other, extra, spot_bank, spot_param}
use Rattle.c65_agree_variadic.specs.Given.{FurtherFramesAreGiven, ParametersLieAbove}

-- ---- the first byte of the frame

chosen_soft : (b : Bool) (n : ℕ) (p q : Places) → n ≤ p.soft → n ≤ q.soft → n ≤ (if b then p else q).soft
chosen_soft true n p q h k = h
chosen_soft false n p q h k = k

module _ (parts : Parts) (modes : Modes) where
  marked_soft : (i : ℕ) (m : Mark) (p : Places) → p.soft ≤ (with_marked parts modes i m p).soft
  marked_soft i Other p = omega arith
  marked_soft i Parameter p = chosen_soft (fits (bank_bytes modes.honoured (object_in parts i)) p) p.soft (with_banked (bank_bytes modes.honoured (object_in parts i)) p.total p) (with_later p) (omega arith) (omega arith)
  marked_soft i Local p =
      let bytes : ℕ = object_bytes (types_of parts.types) (object_in parts i) in
      let bank : ℕ = bank_bytes modes.honoured (object_in parts i) in
      let total : ℕ = more p.total bytes in
      let inner : Places = if fits bank p then with_banked bank total p else with_soft bytes total p in
      chosen_soft (is_fixed_object (object_in parts i)) p.soft (with_none p.total p) (if nat_lt 1024 total then with_none total p else inner) (omega arith)
      (chosen_soft (nat_lt 1024 total) p.soft (with_none total p) inner (omega arith) (chosen_soft (fits bank p) p.soft (with_banked bank total p) (with_soft bytes total p) (omega arith) (omega arith)))

  all_soft : (i : ℕ) (ms : List Mark) (p : Places) → p.soft ≤ (placed_all parts modes i ms p).soft
  all_soft i [] p = omega arith
  all_soft i (m ∷ ms) p = omega (arith, marked_soft i m p, all_soft (i + 1) ms (with_marked parts modes i m p))

-- ---- the frame

on_stack : (t : Fn) → is_variadic t ≡ true → takes_stack t ≡ true
on_stack (fn q ps variadic cdecl) e = ap (λ b. b || cdecl) e

module _ (parts : Parts) (modes : Modes) (f : FuncTy) (z : Framed) (made : frame_of parts modes f ≡ Ok z) where
  abbrev p : Places
  p = placed_in parts modes f

  abbrev pub whole : Framed
  whole = settled parts (check_of parts modes f) f (lowest (locals_of f) f.params) (passed_bytes parts f) p

  pub is_whole : whole ≡ z
  is_whole = go (nat_lt 1024 p.total) made
    where
      go : (over : Bool) → (if over then Err (large sizes.Frame p.total) else Ok whole) ≡ Ok z → whole ≡ z
      go true e = cc
      go false e = cc

  module _ (further : is_variadic f.ty ≡ true) where
    pub no_register : register_param f ≡ None
    no_register = ap (λ b. if b then None else slice_get f.params (length f.params - 1)) (on_stack f.ty further)

    counts : 1 ≤ p.soft
    counts =
        let first : (none_placed (is_variadic f.ty) (passed_bytes parts f)).soft ≡ 1 = ap (λ b. if b then 1 else 0) further in
        omega (arith, first, all_soft parts modes (lowest (locals_of f) f.params) (all_marks (locals_of f) f.params) (none_placed (is_variadic f.ty) (passed_bytes parts f)))

pub further_frames_are_given : FurtherFramesAreGiven
further_frames_are_given parts modes f z made further =
    let is : whole parts modes f z made ≡ z = is_whole parts modes f z made in
    let soft : (whole parts modes f z made).soft ≡ z.soft = ap (λ (x : Framed). x.soft) is in
    record {
      further = sym (ap (λ (x : Framed). x.variadic) is) ∙ further;
      passed = sym (ap (λ (x : Framed). x.last) is) ∙ ap (arrival parts (has_prototype f.ty) (lowest (locals_of f) f.params) (placed_in parts modes f).homes) (no_register parts modes f z made further);
      counts = omega (arith, soft, counts parts modes f z made further);
    }

-- ---- its parameters

pub parameters_lie_above : ParametersLieAbove
parameters_lie_above g names a f i at h further among there = go (home_of a.frame i) refl ((has_frame g names a f h).params i own)
  where
    own : is_among f.params i ≡ true
    own = sym (ap (λ o. is_among (params_of o) i) h.function) ∙ among

    variadic : a.frame.variadic ≡ true
    variadic =
        let made = framed g names a f h in
        sym (ap (λ (x : Framed). x.variadic) (is_whole g.parts g.modes f a.frame made)) ∙ further

    go : (home : Option Home) → home_of a.frame i ≡ home → ParameterHome g.parts (has_prototype f.ty) i (a.frame.soft + saved_bytes a.frame.bank) (a.frame.soft + saved_bytes a.frame.bank + a.frame.stacked) a.frame.bank home
        → a.base + (a.frame.soft + (saved_bytes a.frame.bank + a.raised)) ≤ at
    go None is by = absurd by
    go (Some (Bank b)) is by = absurd (at_other at (length a.behind) b (sym there ∙ spot_bank g names a f h i b is))
    go (Some (Soft d)) is by =
        let more : extra g names a f h ≡ a.raised = ap {B = ℕ} (λ (b : Bool). if b then a.raised else 0) variadic in
        let same : at ≡ a.base + d + extra g names a f h = at_same at (a.base + d + extra g names a f h) (sym there ∙ spot_param g names a f h i d is (omega (arith, by.0))) in
        omega (arith, same, more, by.0)
