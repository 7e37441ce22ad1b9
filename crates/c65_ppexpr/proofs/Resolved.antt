-- What follows `defined`, token by token and at once.
use Rattle.std.proofs.Common.{◌≡◌, ◌∙◌, ℕ, List, [], ◌∷◌, ◌++◌, Bool, true, false, Option, Some, None, Bor, refl, ap, sym, subst}
use Rattle.std.specs.Prelude.{if◌then◌else◌, is_some, option_copied, codes}
use Rattle.c65_base.specs.declared.refusal.Refusal.{Refusal}
use Rattle.c65_base.specs.declared.refusal.Refusal.TheVariants as refusals
use Rattle.c65_macro.specs.Answered.{Stops}
use Rattle.c65_base.specs.declared.names.Name.{Name}
use Rattle.c65_lex.specs.declared.token.PpToken.{PpToken}
use Rattle.c65_macro.specs.Items.{Outcome, done, ◌>>=◌}
use Rattle.c65_macro.specs.Table.{Table, lookup, is_name_kind}
use Rattle.c65_ppexpr.specs.Resolved.{anything, behind, within, resolved, truth_token, in_parentheses, behind_defined}
use Rattle.c65_ppline.specs.Tokens.{is_mark, is_word}

abbrev pub by_split : Table → PpToken → List (List ℕ) → List PpToken → Option (Name × List PpToken) → Outcome (Option (List PpToken))
by_split table d names out None = done names None
by_split table d names out (Some r) = truth_token names (is_some (lookup table r.0)) d >>= λ known new. resolved table anything known (out ++ new ∷ []) r.1

either : (table : Table) (d : PpToken) (names : List (List ℕ)) (out : List PpToken) (b : Bool) (x y : Outcome (Option (List PpToken))) (p q : Option (Name × List PpToken))
    → x ≡ by_split table d names out p → y ≡ by_split table d names out q → (if b then x else y) ≡ by_split table d names out (if b then p else q)
either table d names out true x y p q e f = e
either table d names out false x y p q e f = f

both : (b : Bool) (x : Outcome (Option (List PpToken))) → (if b then x else x) ≡ x
both true x = refl
both false x = refl

within_split : (table : Table) (d : PpToken) (names : List (List ℕ)) (out ts : List PpToken) → resolved table (within d) names out ts ≡ by_split table d names out (in_parentheses names ts)
within_split table d names out [] = refl
within_split table d names out (t ∷ []) = both (is_name_kind t.kind) (done names None)
within_split table d names out (t ∷ u ∷ ts) =
    either table d names out (is_name_kind t.kind) _ (done names None) (if is_mark names (codes ")") u then Some (t.spelling, ts) else None) None
    (either table d names out (is_mark names (codes ")") u) _ (done names None) (Some (t.spelling, ts)) None refl refl) refl

-- the name behind `defined` gives way with it
pub split : (table : Table) (d : PpToken) (names : List (List ℕ)) (out ts : List PpToken) → resolved table (behind d) names out ts ≡ by_split table d names out (behind_defined names ts)
split table d names out [] = refl
split table d names out (t ∷ ts) =
    either table d names out (is_name_kind t.kind) _ _ (Some (t.spelling, ts)) (if is_mark names (codes "(") t then in_parentheses names ts else None) refl
    (either table d names out (is_mark names (codes "(") t) _ (done names None) (in_parentheses names ts) None (within_split table d names out ts) refl)

abbrev pub after_truth : Table → List PpToken → List PpToken → List (List ℕ) → PpToken → Outcome (Option (List PpToken))
after_truth table out more known new = resolved table anything known (out ++ new ∷ []) more

at_defined : (table : Table) (t : PpToken) (names : List (List ℕ)) (out rest ts more : List PpToken) (name : Name) (b : Bool) → rest ≡ t ∷ ts → is_word names (codes "defined") t ≡ true → behind_defined names ts ≡ Some (name, more) → b ≡ is_some (lookup table name)
    → resolved table anything names out rest ≡ (truth_token names b t >>= after_truth table out more)
at_defined table t names out rest ts more name b r w s e =
    ap (λ (us : List PpToken). resolved table anything names out us) r
    ∙ (ap (λ (c : Bool). if c then resolved table (behind t) names out ts else resolved table anything names (out ++ t ∷ []) ts) w
    ∙ (split table t names out ts
    ∙ (ap (λ (o : Option (Name × List PpToken)). by_split table t names out o) s
    ∙ ap (λ (c : Bool). truth_token names c t >>= after_truth table out more) (sym e))))

then_stops : {A B : Type 0} (e : Refusal) (y : Outcome A) (f : List (List ℕ) → A → Outcome B) → Stops e y → Stops e (y >>= f)
then_stops refusals.OutOfMemory y f h = tt
then_stops {A = A} (refusals.At code place) y f h = ap (λ (o : Outcome A). o >>= f) h
then_stops {A = A} (refusals.TooLarge limit value) y f h = ap (λ (o : Outcome A). o >>= f) h
then_stops _ y f h = absurd h

-- the truth of a name has no token
pub stops_defined : (e : Refusal) (table : Table) (t : PpToken) (names : List (List ℕ)) (out rest ts more : List PpToken) (name : Name) (b : Bool) → rest ≡ t ∷ ts → is_word names (codes "defined") t ≡ true → behind_defined names ts ≡ Some (name, more) → b ≡ is_some (lookup table name)
    → Stops e (truth_token names b t) → Stops e (resolved table anything names out rest)
stops_defined e table t names out rest ts more name b r w s q h =
    subst (λ (o : Outcome (Option (List PpToken))). Stops e o) (sym (at_defined table t names out rest ts more name b r w s q)) (then_stops e (truth_token names b t) (after_truth table out more) h)

-- it has one
pub goes_defined : (table : Table) (t : PpToken) (names : List (List ℕ)) (out rest ts more : List PpToken) (name : Name) (b : Bool) (known : List (List ℕ)) (new : PpToken) → rest ≡ t ∷ ts → is_word names (codes "defined") t ≡ true → behind_defined names ts ≡ Some (name, more) → b ≡ is_some (lookup table name)
    → truth_token names b t ≡ done known new → resolved table anything known (out ++ new ∷ []) more ≡ resolved table anything names out rest
goes_defined table t names out rest ts more name b known new r w s q h =
    sym (at_defined table t names out rest ts more name b r w s q ∙ ap (λ (o : Outcome PpToken). o >>= after_truth table out more) h)

copied : {T : Type 0} (r : Option (Bor T)) → is_some r ≡ is_some (option_copied r)
copied None = refl
copied (Some x) = refl

pub is_some_copied : {T : Type 0} (r : Option (Bor T)) (o : Option T) → option_copied r ≡ o → is_some r ≡ is_some o
is_some_copied r o h = copied r ∙ ap is_some h
