-- Calls of functions and returns from near states.
use Rattle.std.proofs.Common.{◌≡◌, ℕ, suc, ◌<◌, ◌≤◌, Bool, true, false, ◌&&◌, ◌||◌, not, ◌⊎◌, inl, inr, List, [], ◌∷◌, Some, All, refl, sym, subst, ap, ◌∙◌, arith}
use Rattle.std.proofs.lemmas.List.Elements.{All-nil, All-cons, All-head, All-tail}
use Rattle.c65_code.proofs.PartLaws.{has_part-union, has_part-minus}
use Rattle.c65_code.specs.declared.parts.Part.{Part}
use Rattle.c65_code.specs.declared.parts.Part.TheVariants.{A, X, Y, Zp, N, V, Z, C}
use Rattle.c65_code.specs.declared.parts.RegSet.{RegSet}
use Rattle.c65_code.specs.Effects.{kept_at_calls}
use Rattle.c65_code.specs.LineState.{Frame, State, sp_of, Same, IsBytes}
use Rattle.c65_code.specs.Moves.{settle, Keeps, common_of}
use Rattle.c65_code.specs.Parts.{has_part, all_parts, union_of, minus_of, IsWithin}
use Rattle.c65_code.specs.Placement.{stack_start}
use Rattle.c65_opt_law_calls.specs.Laws.{CallsStayNear, ReturnsStayNear, EndsStayNear}
use Rattle.c65_opt_law_near.proofs.Sets.{in_left, in_right}
use Rattle.c65_opt_law_near.specs.Near.{Near}

-- the state of a caller or callee: all parts are those of another one, and all else is as it was
abbrev moved : State → State → List ℕ → List Frame → State
moved t v pushed frames = record v { mem = t.mem; pushed = pushed; frames = frames; input = t.input; output = t.output; ended = t.ended }

same_moved : (p : Part) (t u v : State) (pushed : List ℕ) (frames : List Frame) → Same p t u → Same p u v → Same p t (moved t v pushed frames)
same_moved A t u v pushed frames h k = h ∙ k
same_moved X t u v pushed frames h k = h ∙ k
same_moved Y t u v pushed frames h k = h ∙ k
same_moved (Zp i) t u v pushed frames h k = h ∙ k
same_moved N t u v pushed frames h k = h ∙ k
same_moved V t u v pushed frames h k = h ∙ k
same_moved Z t u v pushed frames h k = h ∙ k
same_moved C t u v pushed frames h k = h ∙ k

one_moved : (p : Part) (t v : State) (pushed : List ℕ) (frames : List Frame) → Same p (moved t v pushed frames) v
one_moved A t v pushed frames = refl
one_moved X t v pushed frames = refl
one_moved Y t v pushed frames = refl
one_moved (Zp i) t v pushed frames = refl
one_moved N t v pushed frames = refl
one_moved V t v pushed frames = refl
one_moved Z t v pushed frames = refl
one_moved C t v pushed frames = refl

module _ (parts live : RegSet) (t u v : State) (n : Near live t u) (within : IsWithin parts live) (low : has_part parts (Zp 0) ≡ true) (high : has_part parts (Zp 1) ≡ true) (k : Keeps parts u v) (pushed : List ℕ) (frames : List Frame) where
  keeps : Keeps parts t (moved t v pushed frames)
  keeps = record { part = λ p h. same_moved p t u v pushed frames (n.part p (within p h)) (k.part p h); high = λ i h. n.high i h ∙ k.high i h; mem = refl; input = refl; output = refl; ended = refl }

  sp_kept : sp_of v ≡ sp_of t
  sp_kept = let lo : u.zp 0 ≡ v.zp 0 = k.part (Zp 0) low in let hi : u.zp 1 ≡ v.zp 1 = k.part (Zp 1) high in let a : t.zp 0 ≡ u.zp 0 = n.sp_low in let b : t.zp 1 ≡ u.zp 1 = n.sp_high in omega arith

  near : pushed ≡ v.pushed → Near all_parts (moved t v pushed frames) v
  near e = record {
    part = λ p h. one_moved p t v pushed frames;
    sp_low = refl;
    sp_high = refl;
    high = λ i h. refl;
    mem = λ b h. n.mem b (open_at b h) ∙ ap (λ (m : ℕ → ℕ). m b) (sym k.mem);
    pushed = e;
    input = n.input ∙ sym k.input;
    output = n.output ∙ sym k.output;
    ended = n.ended ∙ sym k.ended;
  }
    where
      open_at : (b : ℕ) → (b < stack_start) ⊎ (sp_of v ≤ b) → (b < stack_start) ⊎ (sp_of t ≤ b)
      open_at b (inl h) = inl h
      open_at b (inr h) = inr (subst (λ (x : ℕ). x ≤ b) sp_kept h)

  bytes : IsBytes t → IsBytes v → All (λ x. x < 256) pushed → All (λ (f : Frame). All (λ x. x < 256) f.pushed) frames → IsBytes (moved t v pushed frames)
  bytes bt bv bp bf = record { a = bv.a; x = bv.x; y = bv.y; zp = bv.zp; mem = bt.mem; pushed = bp; frames = bf }

-- ---- calls

pub calls_stay_near : CallsStayNear
calls_stay_near s r f reads gives live p q at t u v n within bt bv e =
    let parts : RegSet = union_of reads kept_at_calls in
    let frame : Frame = record { back = (p.0, settle (s.lines p.0) (suc p.1)); pushed = t.pushed; gives = gives } in
    let low : has_part parts (Zp 0) ≡ true = in_right reads kept_at_calls (Zp 0) refl in
    let high : has_part parts (Zp 1) ≡ true = in_right reads kept_at_calls (Zp 1) refl in (
      moved t v [] (frame ∷ t.frames),
      record { to = refl; keeps = keeps parts live t u v n within low high e.keeps [] (frame ∷ t.frames); pushed = refl; frames = refl },
      bytes parts live t u v n within low high e.keeps [] (frame ∷ t.frames) bt bv (All-nil (λ x. x < 256)) (All-cons (λ (g : Frame). All (λ x. x < 256) g.pushed) frame t.frames bt.pushed bt.frames),
      near parts live t u v n within low high e.keeps [] (frame ∷ t.frames) (sym e.pushed),
    )

-- ---- returns

in_common : (a b : RegSet) (p : Part) → has_part (common_of a b) p ≡ true → has_part b p ≡ true
in_common a b p h = pick (has_part a p) (has_part b p) (ap (λ (x : Bool). has_part a p && not x) (sym (has_part-minus a b p)) ∙ (sym (has_part-minus a (minus_of a b) p) ∙ h))
  where
    pick : (x y : Bool) → (x && not (x && not y)) ≡ true → y ≡ true
    pick true true e = refl
    pick true false e = absurd (cc)
    pick false y e = absurd (cc)

pub returns_stay_near : ReturnsStayNear
returns_stay_near s r live p q at frame other frames others t u v n same within pushed gives framed bt bv h =
    let mine : RegSet = union_of (common_of frame.gives (s.gives p.0)) kept_at_calls in
    let theirs : RegSet = union_of (common_of other.gives (r.gives at.0)) kept_at_calls in
    let one : theirs ≡ mine = ap (λ (g : RegSet). union_of (common_of g (r.gives at.0)) kept_at_calls) (sym gives) ∙ ap (λ (g : RegSet). union_of (common_of frame.gives g) kept_at_calls) (sym same) in
    let k : Keeps mine u v = subst (λ (g : RegSet). Keeps g u v) one h.2 in
    let low : has_part mine (Zp 0) ≡ true = in_right (common_of frame.gives (s.gives p.0)) kept_at_calls (Zp 0) refl in
    let high : has_part mine (Zp 1) ≡ true = in_right (common_of frame.gives (s.gives p.0)) kept_at_calls (Zp 1) refl in
    let fits : IsWithin mine live = λ part g. within part (wider part g) in
    let held : All (λ (g : Frame). All (λ x. x < 256) g.pushed) (frame ∷ frames) = subst (All (λ (g : Frame). All (λ x. x < 256) g.pushed)) framed bt.frames in (
      moved t v frame.pushed frames,
      (n.pushed ∙ h.0, refl, keeps mine live t u v n fits low high k frame.pushed frames, refl, refl),
      bytes mine live t u v n fits low high k frame.pushed frames bt bv (All-head (λ (g : Frame). All (λ x. x < 256) g.pushed) frame frames held) (All-tail (λ (g : Frame). All (λ x. x < 256) g.pushed) frame frames held),
      near mine live t u v n fits low high k frame.pushed frames (pushed ∙ sym h.3),
    )
  where
    wider : (part : Part) → has_part (union_of (common_of frame.gives (s.gives p.0)) kept_at_calls) part ≡ true → has_part (union_of (r.gives at.0) kept_at_calls) part ≡ true
    wider part g = pick (has_part (common_of frame.gives (s.gives p.0)) part) refl (has_part kept_at_calls part) refl (sym (has_part-union (common_of frame.gives (s.gives p.0)) kept_at_calls part) ∙ g)
      where
        pick : (a : Bool) → has_part (common_of frame.gives (s.gives p.0)) part ≡ a → (b : Bool) → has_part kept_at_calls part ≡ b → (has_part (common_of frame.gives (s.gives p.0)) part || has_part kept_at_calls part) ≡ true
            → has_part (union_of (r.gives at.0) kept_at_calls) part ≡ true
        pick true e b f g = in_left (r.gives at.0) kept_at_calls part (subst (λ (x : RegSet). has_part x part ≡ true) same (in_common frame.gives (s.gives p.0) part e))
        pick false e true f g = in_right (r.gives at.0) kept_at_calls part f
        pick false e false f g = absurd (neither (has_part (common_of frame.gives (s.gives p.0)) part) (has_part kept_at_calls part) e f g)
          where
            neither : (a b : Bool) → a ≡ false → b ≡ false → (a || b) ≡ true → ⊥
            neither true b e f g = cc
            neither false true e f g = cc
            neither false false e f g = cc

-- ---- the end

same_ended : (p : Part) (t u : State) (a b : ℕ) → Same p t u → Same p (record t { ended = Some a }) (record u { ended = Some b })
same_ended A t u a b h = h
same_ended X t u a b h = h
same_ended Y t u a b h = h
same_ended (Zp i) t u a b h = h
same_ended N t u a b h = h
same_ended V t u a b h = h
same_ended Z t u a b h = h
same_ended C t u a b h = h

pub ends_stay_near : EndsStayNear
ends_stay_near s r live p q at t u v n same within bt h =
    let status : ℕ = h.0 in (
      record t { ended = Some status },
      (status, (λ g. let there : has_part (r.gives at.0) A ≡ true = subst (λ (x : RegSet). has_part x A ≡ true) same g in h.1 there ∙ sym (n.part A (within A there))), h.2, n.pushed ∙ h.3, refl, refl),
      record { a = bt.a; x = bt.x; y = bt.y; zp = bt.zp; mem = bt.mem; pushed = bt.pushed; frames = bt.frames },
      subst (Near live (record t { ended = Some status })) (sym h.5) (record { part = λ p g. same_ended p t u status status (n.part p g); sp_low = n.sp_low; sp_high = n.sp_high; high = n.high; mem = n.mem; pushed = n.pushed; input = n.input; output = n.output; ended = refl }),
    )
