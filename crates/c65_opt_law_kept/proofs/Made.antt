-- Rules that make lines of one or two.
use Rattle.std.proofs.Common.{◌≡◌, ℕ, suc, ◌+◌, ◌-◌, ◌≤◌, Bool, true, false, List, [], ◌∷◌, length, Option, Some, None, refl, sym, subst, ap, ◌∙◌, arith}
use Rattle.std.specs.Prelude.{take, drop}
use Rattle.std.proofs.lemmas.List.{length-drop}
use Rattle.c65_code.specs.declared.line.Line.{Line}
use Rattle.c65_code.specs.declared.line.Sym.{Sym}
use Rattle.c65_code.specs.declared.parts.RegSet.{RegSet}
use Rattle.c65_code.specs.Forms.{form_of}
use Rattle.c65_know.specs.Known.{annotated}
use Rattle.c65_live.specs.Tables.{Table}
use Rattle.c65_pass.specs.ArithRules.{both_gone_if}
use Rattle.c65_pass.specs.FlowRules.{gone_if, alone_if}
use Rattle.c65_pass.specs.LoadRules.{instead}
use Rattle.c65_pass.specs.Rewriting.{Rewriting}
use Rattle.c65_pass.specs.Rules.{made_by, match_there, match_at}
use Rattle.c65_opt_law_kept.proofs.Steps.{IsStep, AreSteps}
use Rattle.c65_opt_law_kept.proofs.Kept.{InRow}

pub at_line : (rule : ℕ) (out : RegSet) (literals : List (Sym × List ℕ)) (lines : List Line) (table : Table) (at : ℕ) (w : Rewriting)
    → ((line : Line) (post : List Line) → drop at lines ≡ line ∷ post → made_by rule literals (annotated lines out) table at line post ≡ Some w → InRow lines at w)
    → match_at rule literals (annotated lines out) table at ≡ Some w → InRow lines at w
at_line rule out literals lines table at w owed m = go (drop at lines) refl m
  where
    go : (rest : List Line) → drop at lines ≡ rest → match_there rule literals (annotated lines out) table at rest ≡ Some w → InRow lines at w
    go [] e k = absurd cc
    go (line ∷ post) e k = owed line post e k

module _ (lines : List Line) (at : ℕ) where
  room_one : (line : Line) (post : List Line) → drop at lines ≡ line ∷ post → at + 1 ≤ length lines
  room_one line post e = omega (arith, ap length e, length-drop at lines)

  room_two : (line next : Line) (post : List Line) → drop at lines ≡ line ∷ next ∷ post → at + 2 ≤ length lines
  room_two line next post e = omega (arith, ap length e, length-drop at lines)

  pub gone_row : (line : Line) (post : List Line) (w : Rewriting) (b : Bool) → drop at lines ≡ line ∷ post → (b ≡ true → IsStep (form_of line)) → gone_if b at ≡ Some w → InRow lines at w
  gone_row line post w false e step m = absurd cc
  gone_row line post w true e step m =
      let is : record { at = at; count = 1; lines = [] } ≡ w = cc in
      subst (InRow lines at) is (record { place = refl; some = omega arith; within = room_one line post e; old = subst (λ (x : List Line). AreSteps (take 1 x)) (sym e) (step refl, tt); new = tt; fewer = omega arith })

  pub alone_row : (line next : Line) (post : List Line) (w : Rewriting) (b : Bool) → drop at lines ≡ line ∷ next ∷ post → (b ≡ true → IsStep (form_of line) × IsStep (form_of next)) → alone_if b at line ≡ Some w → InRow lines at w
  alone_row line next post w false e steps m = absurd cc
  alone_row line next post w true e steps m =
      let is : record { at = at; count = 2; lines = line ∷ [] } ≡ w = cc in
      let both = steps refl in
      subst (InRow lines at) is (record { place = refl; some = omega arith; within = room_two line next post e; old = subst (λ (x : List Line). AreSteps (take 2 x)) (sym e) (both.0, (both.1, tt)); new = (both.0, tt); fewer = omega arith })

  pub last_row : (line next : Line) (post : List Line) (w : Rewriting) (b : Bool) → drop at lines ≡ line ∷ next ∷ post → (b ≡ true → IsStep (form_of line) × IsStep (form_of next)) → alone_if b at next ≡ Some w → InRow lines at w
  last_row line next post w false e steps m = absurd cc
  last_row line next post w true e steps m =
      let is : record { at = at; count = 2; lines = next ∷ [] } ≡ w = cc in
      let both = steps refl in
      subst (InRow lines at) is (record { place = refl; some = omega arith; within = room_two line next post e; old = subst (λ (x : List Line). AreSteps (take 2 x)) (sym e) (both.0, (both.1, tt)); new = (both.1, tt); fewer = omega arith })

  pub both_gone_row : (line next : Line) (post : List Line) (w : Rewriting) (b : Bool) → drop at lines ≡ line ∷ next ∷ post → (b ≡ true → IsStep (form_of line) × IsStep (form_of next)) → both_gone_if b at ≡ Some w → InRow lines at w
  both_gone_row line next post w false e steps m = absurd cc
  both_gone_row line next post w true e steps m =
      let is : record { at = at; count = 2; lines = [] } ≡ w = cc in
      let both = steps refl in
      subst (InRow lines at) is (record { place = refl; some = omega arith; within = room_two line next post e; old = subst (λ (x : List Line). AreSteps (take 2 x)) (sym e) (both.0, (both.1, tt)); new = tt; fewer = omega arith })

  pub instead_row : (line next : Line) (post : List Line) (w : Rewriting) (new : Option Line) → drop at lines ≡ line ∷ next ∷ post
      → ((l : Line) → new ≡ Some l → IsStep (form_of line) × IsStep (form_of next) × IsStep (form_of l)) → instead 2 at new ≡ Some w → InRow lines at w
  instead_row line next post w None e steps m = absurd cc
  instead_row line next post w (Some l) e steps m =
      let is : record { at = at; count = 2; lines = l ∷ [] } ≡ w = cc in
      let all = steps l refl in
      subst (InRow lines at) is (record { place = refl; some = omega arith; within = room_two line next post e; old = subst (λ (x : List Line). AreSteps (take 2 x)) (sym e) (all.0, (all.1, tt)); new = (all.2, tt); fewer = omega arith })

  -- one line in place of one
  pub instead_one_row : (line : Line) (post : List Line) (w : Rewriting) (new : Option Line) → drop at lines ≡ line ∷ post
      → ((l : Line) → new ≡ Some l → IsStep (form_of line) × IsStep (form_of l)) → instead 1 at new ≡ Some w → InRow lines at w
  instead_one_row line post w None e steps m = absurd cc
  instead_one_row line post w (Some l) e steps m =
      let is : record { at = at; count = 1; lines = l ∷ [] } ≡ w = cc in
      let all = steps l refl in
      subst (InRow lines at) is (record { place = refl; some = omega arith; within = room_one line post e; old = subst (λ (x : List Line). AreSteps (take 1 x)) (sym e) (all.0, tt); new = (all.1, tt); fewer = omega arith })
