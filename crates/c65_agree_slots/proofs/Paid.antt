-- Parameters that stand in regbank, and the one that the entry pushes, have no more bytes than the arguments of the call.
use Rattle.std.proofs.Common.{◌≡◌, ℕ, suc, ◌+◌, ◌-◌, ◌<◌, ◌≤◌, ◌⊎◌, inl, inr, Bool, true, false, List, [], ◌∷◌, Option, Some, None, length, refl, sym, ap, ◌∙◌, subst, slice_get, arith}
use Rattle.std.specs.Prelude.{not, if◌then◌else◌, nat_lt, Ok}
use Rattle.std.proofs.lemmas.Bool.{cases_lt, le-leb}
use Rattle.c65_base.specs.declared.refusal.Size.TheVariants as sizes_refused
use Rattle.c65_base.specs.Answers.{large}
use Rattle.c65_ctype.specs.Sizes as ctype
use Rattle.c65_ctype.specs.Trees.{type_in}
use Rattle.c65_ctype.specs.Views.{types_of}
use Rattle.c65_csem.specs.declared.items.Parts.{Parts}
use Rattle.c65_csem.specs.Trees.{Nodes, none, some, FuncTy}
use Rattle.c65_csem.specs.Views.{unit_of}
use Rattle.c65_meaning.specs.Costs.{argument_bytes}
use Rattle.c65_meaning.specs.Shapes as shapes
use Rattle.c65_genframe.specs.declared.modes.Modes.{Modes}
use Rattle.c65_genframe.specs.declared.home.Home.{Home}
use Rattle.c65_genframe.specs.declared.home.Home.TheVariants.{Bank, Soft}
use Rattle.c65_genframe.specs.declared.home.Arrival.{Arrival}
use Rattle.c65_genframe.specs.Arrivals.{Arrivals, arrived}
use Rattle.c65_genframe.specs.Marks.{lowest}
use Rattle.c65_genframe.specs.Objects.{locals_of}
use Rattle.c65_genframe.specs.Places.{Places}
use Rattle.c65_genframe.specs.Sizes.{object_in, bank_bytes}
use Rattle.c65_genframe.specs.Frames.{Framed, takes_stack, has_prototype, register_param, flat, home_at, arrival_at, arrival, is_kept, last_bytes, without_last, bytes_without, saved_bytes, first_arrivals, check_of, settled, passed_bytes, placed_in, frame_of}
use Rattle.c65_genexpr.specs.Arguments.{passed_size, joined, passed_of}
use Rattle.c65_gen_law_room.specs.Room.{kept_bytes, moved_bytes}
use Rattle.c65_gen_law_room.proofs.Entries.{all_arrive, kept_by}
use Rattle.c65_gen_law_room.proofs.Marked.{in_bank}
use Rattle.c65_gen_law_room.proofs.Placed.{bytes_there}
use Rattle.c65_gen_law_stack.specs.Parameters.{passed_type, IsTaken, AreTaken}
use Rattle.c65_agree_homes.proofs.Among.{at_among}
use Rattle.c65_agree_homes.proofs.Marks.{param_low}
use Rattle.c65_agree_homes.proofs.Sizes.{bank_whole, slot_most}
use Rattle.c65_agree_argument.specs.Passed.{entering}
use Rattle.c65_agree_invoke.specs.Nodes.{sizes_of}
use Rattle.c65_agree_slots.specs.Slots.{AreOfSize}
use Rattle.c65_agree_slots.proofs.Slots.{slot_in, answered}
use Rattle.c65_agree_slots.proofs.Taken.{taken_within}

-- ---- arguments

-- an argument is passed in no more bytes than its type has
pub sizes_within : (parts : Parts) (f : Framed) (prototype : Bool) (is : List ℕ) (es : Nodes) → f.parts ≡ parts → AreTaken (unit_of parts) prototype es is → sizes_of f es ≤ argument_bytes (unit_of parts) (shapes.types_of es)
sizes_within parts f prototype is none own taken = omega arith
sizes_within parts f prototype [] (some e es) own taken = absurd taken
sizes_within parts f prototype (i ∷ is) (some e es) own taken = omega (arith, first, sizes_within parts f prototype is es own taken.3)
  where
    first : passed_size f e ≤ ctype.size_of (types_of parts.types) (shapes.bare_type e)
    first = subst (λ (x : Parts). passed_size f e ≤ ctype.size_of (types_of x.types) (shapes.bare_type e)) own (taken_within f _ e (subst (λ (x : Parts). IsTaken (unit_of x) (passed_type prototype (type_in taken.0.ty)) e) (sym own) taken.2))

-- ---- homes

there_most : (bytes : ℕ) (home : Option Home) → bytes_there bytes home ≤ bytes
there_most bytes None = omega arith
there_most bytes (Some (Bank b)) = omega arith
there_most bytes (Some (Soft d)) = omega arith

module _ (parts : Parts) (prototype fast : Bool) (f : Framed) (low : ℕ) (hs : List (Option Home)) (last : Arrival) where
  -- the bytes of regbank that a parameter has
  abbrev own : ℕ → ℕ
  own i = bytes_there (bank_bytes true (object_in parts i)) (flat (slice_get hs (i - low)))

  own_most : (i size : ℕ) → slot_in parts prototype i ≡ size → own i ≤ size
  own_most i size is = go (cases_lt 0 (bank_bytes true (object_in parts i)))
    where
      go : (0 < bank_bytes true (object_in parts i)) ⊎ (bank_bytes true (object_in parts i) ≤ 0) → own i ≤ size
      go (inl least) = omega (arith, there_most (bank_bytes true (object_in parts i)) (flat (slice_get hs (i - low))), bank_whole (types_of parts.types) (object_in parts i) (omega (arith, least)), slot_most (types_of parts.types) prototype (object_in parts i), is)
      go (inr nothing) = omega (arith, there_most (bank_bytes true (object_in parts i)) (flat (slice_get hs (i - low))), nothing)

  -- the one that the entry pushes has none
  abbrev IsApart : List ℕ → Type 0
  IsApart is = fast ≡ true → is_kept last ≡ false → (l : ℕ) → slice_get is (length is - 1) ≡ Some l → own l ≡ 0

  one_paid : (i size : ℕ) (b kept : Bool) → fast ≡ b → is_kept last ≡ kept → slot_in parts prototype i ≡ size → IsApart (i ∷ []) → own i + (if kept then 0 else (if b then size else 0)) ≤ size
  one_paid i size true true e k is apart = omega (arith, own_most i size is)
  one_paid i size true false e k is apart = omega (arith, apart e k i refl)
  one_paid i size false true e k is apart = omega (arith, own_most i size is)
  one_paid i size false false e k is apart = omega (arith, own_most i size is)

  pub all_paid : (is : List ℕ) (es : Nodes) → AreOfSize parts prototype f is es → IsApart is → in_bank parts low hs is + entering last (passed_of f fast es).last ≤ sizes_of f es
  all_paid [] none sizes apart = nothing (is_kept last)
    where
      nothing : (b : Bool) → 0 + (if b then 0 else 0) ≤ 0
      nothing true = omega arith
      nothing false = omega arith
  all_paid [] (some e es) sizes apart = absurd sizes
  all_paid (i ∷ is) none sizes apart = absurd sizes
  all_paid (i ∷ []) (some e none) sizes apart = omega (arith, one_paid i (passed_size f e) fast (is_kept last) refl refl sizes.0 apart, last_is fast (is_kept last))
    where
      last_is : (b kept : Bool) → (if kept then 0 else (joined b (passed_size f e) (passed_of f b none)).last) ≡ (if kept then 0 else (if b then passed_size f e else 0))
      last_is true true = refl
      last_is true false = refl
      last_is false true = refl
      last_is false false = refl
  all_paid (i ∷ []) (some e (some e2 es)) sizes apart = absurd sizes.2
  all_paid (i ∷ j ∷ js) (some e none) sizes apart = absurd sizes.2
  all_paid (i ∷ j ∷ js) (some e (some e2 es)) sizes apart =
      let at : length (i ∷ j ∷ js) - 1 ≡ suc (length (j ∷ js) - 1) = omega arith in
      let rest = all_paid (j ∷ js) (some e2 es) sizes.2 (λ e k l there. apart e k l (ap (slice_get (i ∷ j ∷ js)) at ∙ there)) in
      omega (arith, own_most i (passed_size f e) sizes.0, rest)

-- ---- a frame

module _ (parts : Parts) (modes : Modes) (g : FuncTy) (h : Framed) (framed : frame_of parts modes g ≡ Ok h) where
  abbrev prototype : Bool
  prototype = has_prototype g.ty

  abbrev p : Places
  p = placed_in parts modes g

  abbrev low : ℕ
  low = lowest (locals_of g) g.params

  abbrev last : Arrival
  last = arrival parts prototype low p.homes (register_param g)

  is_frame : settled parts (check_of parts modes g) g low (passed_bytes parts g) p ≡ h
  is_frame = answered (nat_lt 1024 p.total) (large sizes_refused.Frame p.total) (settled parts (check_of parts modes g) g low (passed_bytes parts g) p) h framed

  -- what stands in regbank of parameters
  in_registers : kept_bytes h.last + moved_bytes h.moved ≡ in_bank parts low p.homes g.params
  in_registers =
      let start : Arrivals = first_arrivals p (bytes_without (is_kept last) (passed_bytes parts g) (last_bytes parts prototype (register_param g))) in
      let moves = all_arrive parts prototype low (p.soft + saved_bytes p.bank) p.homes (without_last (is_kept last) g.params) start (λ k n. refl) in
      let keeps = kept_by parts prototype low p.homes g (register_param g) refl in
      let whole : kept_bytes last + moved_bytes (arrived parts prototype low (p.soft + saved_bytes p.bank) (without_last (is_kept last) g.params) start).moved ≡ in_bank parts low p.homes g.params = omega (arith, moves, keeps) in
      subst (λ (x : Framed). kept_bytes x.last + moved_bytes x.moved ≡ in_bank parts low p.homes g.params) is_frame whole

  -- a parameter that the entry pushes has its home on the software stack
  pushed_none : (l : ℕ) → slice_get g.params (length g.params - 1) ≡ Some l → is_kept (arrival_at parts prototype l (home_at low p.homes l)) ≡ false → bytes_there (bank_bytes true (object_in parts l)) (flat (slice_get p.homes (l - low))) ≡ 0
  pushed_none l there free =
      let le : low ≤ l = param_low (locals_of g) g.params l (at_among g.params (length g.params - 1) l there) in
      let home : home_at low p.homes l ≡ flat (slice_get p.homes (l - low)) = ap (λ (b : Bool). if b then flat (slice_get p.homes (l - low)) else None) (le-leb low l le) in
      go (flat (slice_get p.homes (l - low))) (subst (λ (o : Option Home). is_kept (arrival_at parts prototype l o) ≡ false) home free)
    where
      go : (o : Option Home) → is_kept (arrival_at parts prototype l o) ≡ false → bytes_there (bank_bytes true (object_in parts l)) o ≡ 0
      go None e = refl
      go (Some (Soft d)) e = refl
      go (Some (Bank b)) e = let clash : true ≡ false = e in cc

  apart : not (takes_stack g.ty) ≡ true → is_kept last ≡ false → (l : ℕ) → slice_get g.params (length g.params - 1) ≡ Some l → bytes_there (bank_bytes true (object_in parts l)) (flat (slice_get p.homes (l - low))) ≡ 0
  apart quick free l there =
      let named : register_param g ≡ Some l = by (takes_stack g.ty) quick ∙ there in
      pushed_none l there (sym (ap (λ (o : Option ℕ). is_kept (arrival parts prototype low p.homes o)) named) ∙ free)
    where
      by : (b : Bool) → not b ≡ true → (if b then None else slice_get g.params (length g.params - 1)) ≡ slice_get g.params (length g.params - 1)
      by true e = let clash : false ≡ true = e in cc
      by false e = refl

  pub registers_are_paid : (f : Framed) (es : Nodes) → AreOfSize parts prototype f g.params es → kept_bytes h.last + moved_bytes h.moved + entering h.last (passed_of f (not (takes_stack g.ty)) es).last ≤ sizes_of f es
  registers_are_paid f es sizes =
      let fast : Bool = not (takes_stack g.ty) in
      let last_is : last ≡ h.last = ap (λ (z : Framed). z.last) is_frame in
      let same : entering last (passed_of f fast es).last ≡ entering h.last (passed_of f fast es).last = ap (λ (a : Arrival). entering a (passed_of f fast es).last) last_is in
      omega (arith, in_registers, same, all_paid parts prototype fast f low p.homes last g.params es sizes apart)
