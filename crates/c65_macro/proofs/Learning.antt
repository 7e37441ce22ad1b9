-- A table of spellings gives the name that the definition gives.
use Rattle.std.proofs.Common.{◌≡◌, ℕ, suc, ◌+◌, ◌<◌, List, [], ◌∷◌, ◌++◌, length, refl, sym, ap, ◌∙◌, arith, Bool, true, false, Option, Some, None, Result, Ok, Err}
use Rattle.std.specs.Prelude.{if◌then◌else◌, ◌==◌, bytes_eq, IfOk, IfErr, OnOk}
use Rattle.c65_base.specs.declared.names.Name.{Name}
use Rattle.c65_base.specs.declared.refusal.Refusal.{Refusal}
use Rattle.c65_base.specs.declared.refusal.Refusal.TheVariants as refusals
use Rattle.c65_base.specs.declared.refusal.Size.TheVariants as sizes
use Rattle.c65_base.specs.Answers.{large}
use Rattle.c65_base.specs.Names.{name_of, with_spelling, Lacks, RefusesName}
use Rattle.c65_base.proofs.NameLaws.{bytes_eq-refl, with_known, with_new, some_is, behind}
use Rattle.c65_macro.specs.Items.{done, faulty, learn, learn_as}
use Rattle.c65_macro.specs.Answered.{Gives}

new_name : (ns : List (List ℕ)) (s : List ℕ) → Lacks ns s → name_of (ns ++ s ∷ []) s ≡ Some (length ns)
new_name [] s l = ap (λ (b : Bool). behind b None) (bytes_eq-refl s)
new_name (t ∷ ns) s l = by (bytes_eq s t) refl (name_of ns s) refl l (λ f. new_name ns s f)
  where
    by : (b : Bool) → bytes_eq s t ≡ b → (n : Option ℕ) → name_of ns s ≡ n → behind b n ≡ None → (Lacks ns s → name_of (ns ++ s ∷ []) s ≡ Some (length ns)) → behind (bytes_eq s t) (name_of (ns ++ s ∷ []) s) ≡ Some (suc (length ns))
    by true e n f l ih = absurd cc
    by false e (Some k) f l ih = absurd cc
    by false e None f l ih =
        let g : length ns + 1 ≡ suc (length ns) = omega arith in
        ap (λ (b : Bool). behind b (name_of (ns ++ s ∷ []) s)) e ∙ ap (behind false) (ih f) ∙ ap Some g

not_equal : (n : ℕ) → n < 65535 → (n == 65535) ≡ false
not_equal n h = grind arith

known_name : (old new : List (List ℕ)) (s : List ℕ) (n : Name) (k : Option ℕ) → name_of old s ≡ k → name_of new s ≡ Some n.0 → new ≡ with_spelling old s → (Lacks old s → length old < 65535) → learn_as old s k ≡ done new n
known_name old new s n (Some k) e f g room =
    let same : new ≡ old = g ∙ with_known old s k e in
    let number : k ≡ n.0 = some_is k n.0 (sym e ∙ ap (λ ns. name_of ns s) (sym same) ∙ f) in
    let step : done old (record { 0 = k }) ≡ done old n = ap (λ (i : ℕ). done old (record { 0 = i })) number in
    step ∙ ap (λ ns. done ns n) (sym same)
known_name old new s n None e f g room =
    let more : new ≡ old ++ s ∷ [] = g ∙ with_new old s e in
    let number : length old ≡ n.0 = some_is (length old) n.0 (sym (new_name old s e) ∙ ap (λ ns. name_of ns s) (sym more) ∙ f) in
    let fits : (if length old == 65535 then faulty (large sizes.Names 65536) else done (old ++ s ∷ []) (record { 0 = length old })) ≡ done (old ++ s ∷ []) (record { 0 = length old }) =
    ap (λ (b : Bool). if b then faulty (large sizes.Names 65536) else done (old ++ s ∷ []) (record { 0 = length old })) (not_equal (length old) (room e)) in
    let step : done (old ++ s ∷ []) (record { 0 = length old }) ≡ done (old ++ s ∷ []) n = ap (λ (i : ℕ). done (old ++ s ∷ []) (record { 0 = i })) number in
    fits ∙ step ∙ ap (λ ns. done ns n) (sym more)

pub learned : (old new : List (List ℕ)) (s : List ℕ) (r : Result Name Refusal) → IfOk r (λ n. name_of new s ≡ Some n.0) → OnOk r (new ≡ with_spelling old s) → OnOk r (Lacks old s → length old < 65535) → IfErr r (λ e. RefusesName old s e)
    → Gives (λ (n : Name). n) r new (learn old s)
learned old new s (Ok n) a b c d = known_name old new s n (name_of old s) refl a b c
learned old new s (Err refusals.OutOfMemory) a b c d = tt
learned old new s (Err (refusals.TooLarge limit value)) a b c d =
    let lacks : learn old s ≡ learn_as old s None = ap (λ k. learn_as old s k) d.2 in
    let full : learn_as old s None ≡ faulty (large sizes.Names 65536) =
    ap (λ (k : ℕ). if k == 65535 then faulty (large sizes.Names 65536) else done (old ++ s ∷ []) (record { 0 = length old })) d.3 in
    lacks ∙ full ∙ ap (λ l. faulty (large l 65536)) (sym d.0) ∙ ap (λ (v : ℕ). faulty (large limit v)) (sym d.1)
learned old new s (Err _) a b c d = absurd d
