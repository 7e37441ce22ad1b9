-- The laws of depth, from a whole run.
use Rattle.std.proofs.Common.{◌≡◌, ℕ, ◌≤◌, List, [], Bool, true, false, refl, subst, arith}
use Rattle.std.specs.Prelude.{Ok, Err, if◌then◌else◌, nat_eq}
use Rattle.c65_base.specs.Answers.{◌>>=◌}
use Rattle.c65_scan.specs.declared.token.Token.{Token}
use Rattle.c65_tree.specs.Trees as t
use Rattle.c65_tree.specs.Depth.{expr_depth, specifiers_depth, declarator_depth, type_depth}
use Rattle.c65_parse_trees.specs.Listings.{Listed, nothing_listed}
use Rattle.c65_parse_names.specs.Scopes.{Blocks}
use Rattle.c65_parse.specs.declared.frame.Sort.{Sort}
use Rattle.c65_parse.specs.declared.frame.Sort.TheVariants as sorts
use Rattle.c65_parse.specs.Frames.{operand, specifiers, declarator, done_expr, done_specifiers, done_declarator}
use Rattle.c65_parse.specs.Machine.{Reading, fault_at}
use Rattle.c65_parse.specs.Reading.{Answer, as_expr, as_specifiers, as_declarator, expr_read, listed_read, specifiers_read, declarator_read, type_behind, type_read, token_at}
use Rattle.c65_parse_law_sound.specs.Limits.{ExprsAreWithin, SpecifiersAreWithin, DeclaratorsAreWithin, TypesAreWithin}
use Rattle.c65_parse_law_sound.proofs.Rooms.{SmallRead, run_small}

-- what was answered is so
abbrev pub Within : {A : Type 0} → (A → Type 0) → Answer A → Type 0
Within P (Ok (a, rest, scope)) = P a
Within P (Err e) = Unit {0}

pub then_within : {A B : Type 0} (P : A → Type 0) (Q : B → Type 0) (r : Answer A) (f : A × List Token × Blocks → Answer B) → Within P r → ((a : A) (rest : List Token) (scope : Blocks) → P a → Within Q (f (a, rest, scope))) → Within Q (r >>= f)
then_within P Q (Ok (a, rest, scope)) f h k = k a rest scope h
then_within P Q (Err e) f h k = tt

pub within_if : {A : Type 0} (P : A → Type 0) (b : Bool) (r q : Answer A) → (b ≡ true → Within P r) → (b ≡ false → Within P q) → Within P (if b then r else q)
within_if P true r q f g = f refl
within_if P false r q f g = g refl

answered : {A : Type 0} (P : A → Type 0) (r : Answer A) (a : A) (rest : List Token) (scope : Blocks) → Within P r → r ≡ Ok (a, rest, scope) → P a
answered P r a rest scope h e = subst (Within P) e h

small_expr : (limit : ℕ) (r : Reading) → SmallRead limit r → Within (λ e. expr_depth e ≤ limit) (r >>= as_expr)
small_expr limit (Ok (done_expr e, rest, scope)) h = h
small_expr limit (Ok (done_specifiers q, rest, scope)) h = tt
small_expr limit (Ok (done_declarator d, rest, scope)) h = tt
small_expr limit (Err e) h = tt

pub expr_within : (limit : ℕ) (least : ℕ) (scope : Blocks) (ts : List Token) → Within (λ e. expr_depth e ≤ limit) (expr_read limit least scope ts)
expr_within limit least scope ts = small_expr limit _ (run_small limit least ts [] operand scope tt tt)

small_listed : (limit : ℕ) (r : Reading) → SmallRead limit r → Within (λ q. specifiers_depth q.tree ≤ limit) (r >>= as_specifiers)
small_listed limit (Ok (done_expr e, rest, scope)) h = tt
small_listed limit (Ok (done_specifiers q, rest, scope)) h = h
small_listed limit (Ok (done_declarator d, rest, scope)) h = tt
small_listed limit (Err e) h = tt

listed_within : (limit : ℕ) (above : 1 ≤ limit) (storage : Bool) (scope : Blocks) (ts : List Token) → Within (λ q. specifiers_depth q.tree ≤ limit) (listed_read limit storage scope ts)
listed_within limit above storage scope ts = small_listed limit _ (run_small limit 0 ts [] (specifiers (nothing_listed storage)) scope tt (omega arith, omega arith))

tree_within : (limit : ℕ) (r : Answer Listed) → Within (λ q. specifiers_depth q.tree ≤ limit) r → Within (λ q. specifiers_depth q ≤ limit) (r >>= (λ q. Ok (q.0.tree, q.1, q.2)))
tree_within limit (Ok (q, rest, scope)) h = h
tree_within limit (Err e) h = tt

pub specifiers_within : (limit : ℕ) (above : 1 ≤ limit) (scope : Blocks) (ts : List Token) → Within (λ q. specifiers_depth q ≤ limit) (specifiers_read limit scope ts)
specifiers_within limit above scope ts = tree_within limit _ (listed_within limit above true scope ts)

small_declarator : (limit : ℕ) (r : Reading) → SmallRead limit r → Within (λ d. declarator_depth d ≤ limit) (r >>= as_declarator)
small_declarator limit (Ok (done_expr e, rest, scope)) h = tt
small_declarator limit (Ok (done_specifiers q, rest, scope)) h = tt
small_declarator limit (Ok (done_declarator d, rest, scope)) h = h
small_declarator limit (Err e) h = tt

pub declarator_within : (limit : ℕ) (above : 1 ≤ limit) (sort : Sort) (scope : Blocks) (ts : List Token) → Within (λ d. declarator_depth d ≤ limit) (declarator_read limit sort scope ts)
declarator_within limit above sort scope ts = small_declarator limit _ (run_small limit 0 ts [] (declarator sort) scope tt (omega arith))

both_within : (limit : ℕ) (q : t.SpecifiersTree) (r : Answer t.DeclaratorTree) → specifiers_depth q ≤ limit → Within (λ d. declarator_depth d ≤ limit) r → Within (λ ty. type_depth ty ≤ limit) (r >>= (λ d. Ok (t.type_name q d.0, d.1, d.2)))
both_within limit q (Ok (d, rest, scope)) h k = omega (arith, h, k)
both_within limit q (Err e) h k = tt

behind_within : (limit : ℕ) (above : 1 ≤ limit) (q : Listed) (scope : Blocks) (ts : List Token) → specifiers_depth q.tree ≤ limit → Within (λ ty. type_depth ty ≤ limit) (type_behind limit q scope ts)
behind_within limit above q scope ts h = within_if (λ ty. type_depth ty ≤ limit) (nat_eq (specifiers_depth q.tree) 0) (Err (fault_at (token_at ts 0))) _ (λ e. tt) (λ e. both_within limit q.tree _ h (declarator_within limit above sorts.Abstract scope ts))

type_within : (limit : ℕ) (above : 1 ≤ limit) (scope : Blocks) (ts : List Token) → Within (λ ty. type_depth ty ≤ limit) (type_read limit scope ts)
type_within limit above scope ts = then_within _ _ (listed_read limit false scope ts) _ (listed_within limit above false scope ts) (λ q rest behind h. behind_within limit above q behind rest h)

pub exprs_are_within : ExprsAreWithin
exprs_are_within limit least scope ts tree rest behind e = answered _ _ tree rest behind (expr_within limit least scope ts) e

pub specifiers_are_within : SpecifiersAreWithin
specifiers_are_within limit above scope ts tree rest behind e = answered _ _ tree rest behind (specifiers_within limit above scope ts) e

pub declarators_are_within : DeclaratorsAreWithin
declarators_are_within limit above sort scope ts tree rest behind e = answered _ _ tree rest behind (declarator_within limit above sort scope ts) e

pub types_are_within : TypesAreWithin
types_are_within limit above scope ts tree rest behind e = answered _ _ tree rest behind (type_within limit above scope ts) e
