-- Rules 4 and 5: a jump or a branch to a chain of jumps goes to the chain's end.
use Rattle.std.proofs.Common.{◌≡◌, ℕ, zero, suc, ◌+◌, true, List, [], ◌∷◌, ◌++◌, Option, Some, None, refl, sym, subst, ap, ◌∙◌}
use Rattle.std.specs.Prelude.{take, drop}
use Rattle.std.proofs.lemmas.List.{take-append-drop, drop-drop}
use Rattle.std.proofs.lemmas.Bool.{and_parts}
use Rattle.std.specs.List.{list_all}
use Rattle.c65_mach.specs.declared.rows.Op.{Op}
use Rattle.c65_mach.specs.declared.rows.Op.TheVariants as ops
use Rattle.c65_mach.specs.declared.rows.Mode.TheVariants.{Absolute, Relative}
use Rattle.c65_code.specs.declared.line.Line.{Line}
use Rattle.c65_code.specs.declared.line.Line.TheVariants.{Do}
use Rattle.c65_code.specs.declared.line.Operand.TheVariants.{To}
use Rattle.c65_code.specs.declared.parts.RegSet.{RegSet}
use Rattle.c65_code.specs.Forms.{Branch, form_of}
use Rattle.c65_code.specs.Rewriting.{with_lines}
use Rattle.c65_code.specs.Segments.{is_fit}
use Rattle.c65_know.specs.Known.{annotated}
use Rattle.c65_pass.specs.FlowRules.{threaded, sent_to}
use Rattle.c65_pass.specs.Labels.{jump_target, branch_target, retargeted}
use Rattle.c65_pass.specs.Rewriting.{Rewriting, rewritten}
use Rattle.c65_pass.specs.Rules.{match_there}
use Rattle.c65_opt_law_follow.specs.Laws.{IsApt}
use Rattle.c65_opt_law_chains.specs.Laws.{IsFollowedUntilEnd, RuleIsFollowedUntilEnd}
use Rattle.c65_opt_law_chains.proofs.Hop.{jumping, branching}
use Rattle.c65_opt_law_chains.proofs.Chains.{Any, Chain, threads, IsAimed, chain_is_followed}

-- ---- jumps and branches to a label

jump_aimed : (line : Line) (l : ℕ) → jump_target line ≡ Some l → IsAimed line l
jump_aimed (Do ops.Jmp Absolute (To k)) l e =
    let is : k ≡ l = cc in
    subst (IsAimed (Do ops.Jmp Absolute (To k))) is (record { instruction = λ j. tt; aims = λ i j. jumping refl refl; same = refl; back = λ j h. (let same : k ≡ j = cc in sym same) })
jump_aimed _ l e = absurd cc

branch_form : (op : Op) (l : ℕ) → is_fit (Do op Relative (To l)) ≡ true → form_of (Do op Relative (To l)) ≡ Branch op l
branch_form ops.Bcc l h = refl
branch_form ops.Bcs l h = refl
branch_form ops.Beq l h = refl
branch_form ops.Bmi l h = refl
branch_form ops.Bne l h = refl
branch_form ops.Bpl l h = refl
branch_form ops.Bvc l h = refl
branch_form ops.Bvs l h = refl
branch_form _ l h = absurd cc

no_jump : (op : Op) (l k : ℕ) → jump_target (Do op Relative (To l)) ≡ Some k → ⊥
no_jump ops.Jmp l k e = cc
no_jump _ l k e = cc

branch_aimed : (line : Line) (l : ℕ) → is_fit line ≡ true → branch_target line ≡ Some l → IsAimed line l
branch_aimed (Do op Relative (To k)) l fit e =
    let is : k ≡ l = cc in
    subst (IsAimed (Do op Relative (To k))) is (record { instruction = λ j. tt; aims = λ i j. branching op (branch_form op i fit) (branch_form op j fit); same = refl; back = λ j h. absurd (no_jump op k j h) })
branch_aimed _ l fit e = absurd cc

-- ---- the rules

sent_is : (o : Option ℕ) (at : ℕ) (line : Line) (w : Rewriting) → sent_to o at line ≡ Some w → (e : ℕ) × (o ≡ Some e) × (record { at = at; count = 1; lines = retargeted line e ∷ [] } ≡ w)
sent_is None at line w m = absurd cc
sent_is (Some e) at line w m = (e, refl, cc)

fit_there : (lines : List Line) (at : ℕ) (line : Line) (post : List Line) → list_all is_fit lines ≡ true → drop at lines ≡ line ∷ post → is_fit line ≡ true
fit_there [] zero line post h e = absurd cc
fit_there [] (suc at) line post h e = absurd cc
fit_there (x ∷ lines) zero line post h e = let is : x ≡ line = cc in subst (λ (y : Line). is_fit y ≡ true) is (and_parts (is_fit x) (list_all is_fit lines) h).0
fit_there (x ∷ lines) (suc at) line post h e = fit_there lines at line post (and_parts (is_fit x) (list_all is_fit lines) h).1 e

module _ (f main : ℕ) (out : RegSet) (lines : List Line) (at : ℕ) (w : Rewriting) where
  goes_on : (line : Line) (post : List Line) (target : Option ℕ) → drop at lines ≡ line ∷ post → sent_to (threaded lines target) at line ≡ Some w → ((l : ℕ) → target ≡ Some l → IsAimed line l) → IsFollowedUntilEnd (λ s. IsApt f out (with_lines s f lines)) f main lines (rewritten lines w)
  goes_on line post target e k aim =
      let made = sent_is (threaded lines target) at line w k in
      let thread = threads lines target made.0 made.1 in
      let aimed = aim thread.label thread.is in
      let parts : take at lines ++ (line ∷ post) ≡ lines = ap (λ (x : List Line). take at lines ++ x) (sym e) ∙ take-append-drop at lines in
      let old : take at lines ++ (retargeted line thread.label ∷ post) ≡ lines = ap (λ (x : Line). take at lines ++ (x ∷ post)) aimed.same ∙ parts in
      let rest : drop (at + 1) lines ≡ post = sym (drop-drop 1 at lines) ∙ ap (drop 1) e in
      let new : take at lines ++ (retargeted line made.0 ∷ post) ≡ rewritten lines w = ap (λ (x : List Line). take at lines ++ (retargeted line made.0 ∷ x)) (sym rest) ∙ ap (rewritten lines) made.2 in
      let done = chain_is_followed f main (take at lines) post line thread.label aimed thread.count made.0 (subst (λ (x : List Line). Chain x thread.count thread.label made.0) (sym old) thread.chain) in
      let here = subst (IsFollowedUntilEnd Any f main lines) new (subst (λ (x : List Line). IsFollowedUntilEnd Any f main x (take at lines ++ (retargeted line made.0 ∷ post))) old done) in
      record { map = here.map; more = here.more; follows = λ s apt. here.follows s tt }

pub long_jump_followed : RuleIsFollowedUntilEnd 4
long_jump_followed f main out literals lines table at w segment is m sound some = go (drop at lines) refl m
  where
    go : (rest : List Line) → drop at lines ≡ rest → match_there 4 literals (annotated lines out) table at rest ≡ Some w → IsFollowedUntilEnd (λ s. IsApt f out (with_lines s f lines)) f main lines (rewritten lines w)
    go [] e k = absurd cc
    go (line ∷ post) e k = goes_on f main out lines at w line post (jump_target line) e k (jump_aimed line)

pub long_branch_followed : RuleIsFollowedUntilEnd 5
long_branch_followed f main out literals lines table at w segment is m sound some = go (drop at lines) refl m
  where
    go : (rest : List Line) → drop at lines ≡ rest → match_there 5 literals (annotated lines out) table at rest ≡ Some w → IsFollowedUntilEnd (λ s. IsApt f out (with_lines s f lines)) f main lines (rewritten lines w)
    go [] e k = absurd cc
    go (line ∷ post) e k = goes_on f main out lines at w line post (branch_target line) e k (λ l h. branch_aimed line l (fit_there lines at line post segment.fit e) h)
