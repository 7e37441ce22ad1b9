-- What the machine reads depends on no token behind the one at which it ends.
use Rattle.std.proofs.Common.{◌≡◌, ℕ, ◌≤◌, List, [], ◌∷◌, ◌++◌, Bool, true, false, refl, ap, subst, inl, inr, arith}
use Rattle.std.specs.Prelude.{Ok, if◌then◌else◌, nat_eq, Option, None, Some}
use Rattle.c65_base.specs.Answers.{◌>>=◌}
use Rattle.c65_base.specs.declared.refusal.Pos.{Pos}
use Rattle.c65_scan.specs.declared.token.Token.{Token}
use Rattle.c65_tree.specs.Trees as t
use Rattle.c65_tree.specs.Depth.{specifiers_depth}
use Rattle.c65_parse_trees.specs.declared.operator.Prefix.{Prefix}
use Rattle.c65_parse_trees.specs.declared.sign.Sign.{Sign}
use Rattle.c65_parse_trees.specs.declared.sign.Sign.TheVariants as signs
use Rattle.c65_parse_trees.specs.Signs.{sign_of, prefix_of}
use Rattle.c65_parse_trees.specs.Listings.{Listed, nothing_listed}
use Rattle.c65_parse_names.specs.Scopes.{Blocks, is_type_in}
use Rattle.c65_parse.specs.declared.frame.Change.{Change}
use Rattle.c65_parse.specs.declared.frame.Sort.{Sort}
use Rattle.c65_parse.specs.declared.frame.Sort.TheVariants as sorts
use Rattle.c65_parse.specs.declared.frame.Derivation.TheVariants as derivations
use Rattle.c65_parse.specs.Frames.{Frame, in_operation, in_prefix, in_derived, Held, qualifiers, operand, opened, sizeof_word, have_expr, have_declarator, specifiers, declarator, Done, done_expr, done_specifiers, done_declarator, Next, go, stop, deep, fail}
use Rattle.c65_parse.specs.Expressions.{goes, within, has_room, begin_by, begin_with, leaf_of, names_type, operand_step}
use Rattle.c65_parse.specs.Declarators.{takes_name, without_name, open_group, declarator_step}
use Rattle.c65_parse.specs.Machine.{run, step, changed}
use Rattle.c65_parse.specs.Reading.{token_at, as_expr, as_specifiers, as_declarator, expr_read, listed_read, specifiers_read, declarator_read, type_behind, type_read}
use Rattle.c65_decl.specs.Here.{unexpected}
use Rattle.c65_parse_law_trees.proofs.Runs.{then_run}
use Rattle.c65_parse_law_sound.proofs.Got.{EndsIn}
use Rattle.c65_parse_law_faults.proofs.Local.{Is, Local, fault_of, done, fails, local_if, shifted}
use Rattle.c65_parse_law_faults.proofs.Seq.{seq}
use Rattle.c65_parse_law_faults.proofs.Ends.{NoGo, end_stops}

-- how many tokens are taken at least: one where the first is taken
abbrev pub Allows : ℕ → ℕ → Next → Type 0
Allows c m (go fs held change) = (c ≤ 1) × (m ≤ 1)
Allows c m (stop d) = m ≤ 0
Allows c m deep = Unit {0}
Allows c m fail = c ≤ 0

abbrev MachineLocal : (limit : ℕ) → ℕ → ℕ → ℕ → Blocks → List Frame → Held → List Token → Type 0
MachineLocal limit c m least scope fs held ts = (unit us : List Token) → Local c m 0 (λ unit us ys. run limit least scope fs held ys) unit us ts

more_left : (limit : ℕ) (least : ℕ) (scope : Blocks) (fs gs : List Frame) (held next : Held) (change : Change) (tok : Token) (ts : List Token) → EndsIn (tok ∷ ts) → step limit least scope fs held tok ≡ go gs next change → EndsIn ts
more_left limit least scope fs gs held next change tok [] ends e = absurd (subst NoGo e (end_stops limit least scope fs held tok ends))
more_left limit least scope fs gs held next change tok (u ∷ ts) ends e = ends

step_local : (limit : ℕ) (c m least : ℕ) (scope : Blocks) (fs : List Frame) (held : Held) (tok : Token) (ts : List Token) (n : Next) → step limit least scope fs held tok ≡ n → Allows c m n
    → ((gs : List Frame) (next : Held) (change : Change) → step limit least scope fs held tok ≡ go gs next change → MachineLocal limit 0 0 least (changed change scope) gs next ts)
    → Is c m 0 (λ unit us ys. run limit least scope fs held ys) (tok ∷ ts) (then_run limit least scope tok ts n)
step_local limit c m least scope fs held tok ts (go gs next change) e a f =
    let low = a.0 in
    let less = a.1 in
    shifted 0 c 0 m 0 0 tok (λ unit us ys. run limit least (changed change scope) gs next ys) (λ unit us ys. run limit least scope fs held ys) ts (run limit least (changed change scope) gs next ts) (omega (arith, low)) (omega (arith, less)) (omega arith)
    (λ unit us before u more. ap (then_run limit least scope tok (before ++ u ∷ more)) e) (f gs next change e [] [])
step_local limit c m least scope fs held tok ts (stop d) e a f = record { before = []; next = tok; others = ts; tokens_are = refl; rest_is = refl; some = a; again = λ unit us more fit room. ap (then_run limit least scope tok more) e }
step_local limit c m least scope fs held tok ts deep e a f = record { before = []; next = tok; others = ts; tokens_are = refl; fault_is = inr refl; late = inr refl; again = λ unit us more fit room. ap (then_run limit least scope tok more) e }
step_local limit c m least scope fs held tok ts fail e a f = record { before = []; next = tok; others = ts; tokens_are = refl; fault_is = fault_of tok; late = inl a; again = λ unit us more fit room. ap (then_run limit least scope tok more) e }

any_allowed : (n : Next) → Allows 0 0 n
any_allowed (go fs held change) = (omega arith, omega arith)
any_allowed (stop d) = omega arith
any_allowed deep = tt
any_allowed fail = omega arith

run_any : (limit : ℕ) (least : ℕ) (ts : List Token) (scope : Blocks) (fs : List Frame) (held : Held) → EndsIn ts → MachineLocal limit 0 0 least scope fs held ts
run_any limit least [] scope fs held ends unit us = absurd ends
run_any limit least (tok ∷ ts) scope fs held ends unit us = step_local limit 0 0 least scope fs held tok ts (step limit least scope fs held tok) refl (any_allowed (step limit least scope fs held tok))
    (λ gs next change e. run_any limit least ts (changed change scope) gs next (more_left limit least scope fs gs held next change tok ts ends e))

-- where the first token is known to be taken, or to be no end
pub run_local : (limit : ℕ) (c m least : ℕ) (ts : List Token) (scope : Blocks) (fs : List Frame) (held : Held) (unit us : List Token) → EndsIn ts → Allows c m (step limit least scope fs held (token_at ts 0)) → Local c m 0 (λ unit us ys. run limit least scope fs held ys) unit us ts
run_local limit c m least [] scope fs held unit us ends a = absurd ends
run_local limit c m least (tok ∷ []) scope fs held unit us ends a = step_local limit c m least scope fs held tok [] (step limit least scope fs held tok) refl a
    (λ gs next change e. run_any limit least [] (changed change scope) gs next (more_left limit least scope fs gs held next change tok [] ends e))
run_local limit c m least (tok ∷ u ∷ ts) scope fs held unit us ends a = step_local limit c m least scope fs held tok (u ∷ ts) (step limit least scope fs held tok) refl a
    (λ gs next change e. run_any limit least (u ∷ ts) (changed change scope) gs next (more_left limit least scope fs gs held next change tok (u ∷ ts) ends e))

-- a tree of the sort that was asked for
expr_done : (d : Done) (scope : Blocks) (unit us ts : List Token) → EndsIn ts → Local 0 0 0 (λ unit us ys. as_expr (d, ys, scope)) unit us ts
expr_done (done_expr e) scope unit us ts ends = done 0 0 e scope unit us ts ends
expr_done (done_specifiers q) scope unit us ts ends = fails 0 0 unit us ts ends
expr_done (done_declarator d) scope unit us ts ends = fails 0 0 unit us ts ends

listed_done : (d : Done) (scope : Blocks) (unit us ts : List Token) → EndsIn ts → Local 0 0 0 (λ unit us ys. as_specifiers (d, ys, scope)) unit us ts
listed_done (done_expr e) scope unit us ts ends = fails 0 0 unit us ts ends
listed_done (done_specifiers q) scope unit us ts ends = done 0 0 q scope unit us ts ends
listed_done (done_declarator d) scope unit us ts ends = fails 0 0 unit us ts ends

declarator_done : (d : Done) (scope : Blocks) (unit us ts : List Token) → EndsIn ts → Local 0 0 0 (λ unit us ys. as_declarator (d, ys, scope)) unit us ts
declarator_done (done_expr e) scope unit us ts ends = fails 0 0 unit us ts ends
declarator_done (done_specifiers q) scope unit us ts ends = fails 0 0 unit us ts ends
declarator_done (done_declarator d) scope unit us ts ends = done 0 0 d scope unit us ts ends

-- what never ends before a token
abbrev NoStop : Next → Type 0
NoStop (go fs held change) = Unit {0}
NoStop (stop d) = ⊥
NoStop deep = Unit {0}
NoStop fail = Unit {0}

no_stop : (n : Next) → NoStop n → Allows 0 1 n
no_stop (go fs held change) h = (omega arith, omega arith)
no_stop (stop d) h = absurd h
no_stop deep h = tt
no_stop fail h = omega arith

within_no_stop : (b : Bool) (n : Next) → NoStop n → NoStop (within b n)
within_no_stop true n h = h
within_no_stop false n h = tt

begun_no_stop : (limit : ℕ) (fs : List Frame) (l : Pos) (sign : Sign) (p : Option Prefix) → NoStop (begin_by limit fs l sign p)
begun_no_stop limit fs l sign (Some p) = within_no_stop (has_room limit fs 2) (goes (in_operation (in_prefix l p) ∷ fs) operand) tt
begun_no_stop limit fs l signs.Sizeof None = within_no_stop (has_room limit fs 2) (goes fs (sizeof_word l)) tt
begun_no_stop limit fs l signs.Open None = within_no_stop (has_room limit fs 2) (goes fs (opened l)) tt
begun_no_stop limit fs l _ None = tt

leaf_no_stop : (limit : ℕ) (fs : List Frame) (l : Pos) (sign : Sign) (o : Option t.ExprTree) → NoStop (begin_with limit fs l sign o)
leaf_no_stop limit fs l sign (Some e) = within_no_stop (has_room limit fs 1) (goes fs (have_expr e)) tt
leaf_no_stop limit fs l sign None = begun_no_stop limit fs l sign (prefix_of sign)

operand_no_stop : (limit : ℕ) (least : ℕ) (scope : Blocks) (tok : Token) → NoStop (step limit least scope [] operand tok)
unfolding step operand_step
operand_no_stop limit least scope tok = leaf_no_stop limit [] tok.pos (sign_of (is_type_in scope) tok) (leaf_of tok (names_type (sign_of (is_type_in scope) tok)))

-- an expression
pub expr_by : (limit : ℕ) (c least : ℕ) (scope : Blocks) (unit us ts : List Token) → c ≤ 1 → EndsIn ts → Allows c 1 (step limit least scope [] operand (token_at ts 0)) → Local c 1 0 (λ unit us ys. expr_read limit least scope ys) unit us ts
expr_by limit c least scope unit us ts low ends a = seq c 0 1 0 1 0 0 (λ unit us ys. run limit least scope [] operand ys) (λ unit us. as_expr) unit us ts (omega arith) (omega (arith, low)) (omega arith) ends (run_local limit c 1 least ts scope [] operand unit us ends a)
    (λ d inner rest left short. expr_done d inner unit us rest left)

pub expr_local : (limit : ℕ) (least : ℕ) (scope : Blocks) (unit us ts : List Token) → EndsIn ts → Local 0 1 0 (λ unit us ys. expr_read limit least scope ys) unit us ts
expr_local limit least scope unit us ts ends = expr_by limit 0 least scope unit us ts (omega arith) ends (no_stop _ (operand_no_stop limit least scope (token_at ts 0)))

-- specifiers
listed_by : (limit : ℕ) (c m : ℕ) (takes_storage : Bool) (scope : Blocks) (unit us ts : List Token) → c ≤ m → EndsIn ts → Allows c m (step limit 0 scope [] (specifiers (nothing_listed takes_storage)) (token_at ts 0)) → Local c m 0 (λ unit us ys. listed_read limit takes_storage scope ys) unit us ts
listed_by limit c m takes_storage scope unit us ts low ends a = seq c 0 m 0 m 0 0 (λ unit us ys. run limit 0 scope [] (specifiers (nothing_listed takes_storage)) ys) (λ unit us. as_specifiers) unit us ts (omega arith) (omega (arith, low)) (omega arith) ends (run_local limit c m 0 ts scope [] (specifiers (nothing_listed takes_storage)) unit us ends a)
    (λ d inner rest left short. listed_done d inner unit us rest left)

pub specifiers_by : (limit : ℕ) (c m : ℕ) (scope : Blocks) (unit us ts : List Token) → c ≤ m → EndsIn ts → Allows c m (step limit 0 scope [] (specifiers (nothing_listed true)) (token_at ts 0)) → Local c m 0 (λ unit us ys. specifiers_read limit scope ys) unit us ts
specifiers_by limit c m scope unit us ts low ends a = seq c 0 m 0 m 0 0 (λ unit us ys. listed_read limit true scope ys) (λ unit us q. Ok (q.0.tree, q.1, q.2)) unit us ts (omega arith) (omega (arith, low)) (omega arith) ends (listed_by limit c m true scope unit us ts low ends a)
    (λ q inner rest left short. done 0 0 q.tree inner unit us rest left)

pub specifiers_local : (limit : ℕ) (scope : Blocks) (unit us ts : List Token) → EndsIn ts → Local 0 0 0 (λ unit us ys. specifiers_read limit scope ys) unit us ts
specifiers_local limit scope unit us ts ends = specifiers_by limit 0 0 scope unit us ts (omega arith) ends (any_allowed _)

-- declarators
declarator_by : (limit : ℕ) (m : ℕ) (sort : Sort) (scope : Blocks) (unit us ts : List Token) → EndsIn ts → Allows 0 m (step limit 0 scope [] (declarator sort) (token_at ts 0)) → Local 0 m 0 (λ unit us ys. declarator_read limit sort scope ys) unit us ts
declarator_by limit m sort scope unit us ts ends a = seq 0 0 m 0 m 0 0 (λ unit us ys. run limit 0 scope [] (declarator sort) ys) (λ unit us. as_declarator) unit us ts (omega arith) (omega arith) (omega arith) ends (run_local limit 0 m 0 ts scope [] (declarator sort) unit us ends a)
    (λ d inner rest left short. declarator_done d inner unit us rest left)

pub declarator_local : (limit : ℕ) (sort : Sort) (scope : Blocks) (unit us ts : List Token) → EndsIn ts → Local 0 0 0 (λ unit us ys. declarator_read limit sort scope ys) unit us ts
declarator_local limit sort scope unit us ts ends = declarator_by limit 0 sort scope unit us ts ends (any_allowed _)

if_no_stop : (b : Bool) (n m : Next) → NoStop n → NoStop m → NoStop (if b then n else m)
if_no_stop true n m h k = h
if_no_stop false n m h k = k

named_no_stop : (limit : ℕ) (typed : Bool) (l : Pos) (sign : Sign) → NoStop (declarator_step limit (sorts.Named typed) [] l sign)
unfolding declarator_step without_name
named_no_stop limit typed l signs.Star = within_no_stop (has_room limit [] 2) (goes [] (qualifiers l false false (sorts.Named typed))) tt
named_no_stop limit typed l (signs.Calling cdecl) = within_no_stop (has_room limit [] 2) (goes (in_derived l (derivations.Calling cdecl) ∷ []) (declarator (sorts.Named typed))) tt
named_no_stop limit typed l signs.Open = within_no_stop (has_room limit [] 2) (open_group (sorts.Named typed) [] l) tt
named_no_stop limit typed l (signs.Name n is_type) = if_no_stop (takes_name (sorts.Named typed) is_type) (goes [] (have_declarator (t.named l n))) fail tt tt
named_no_stop limit typed l _ = tt

named_step : (limit : ℕ) (typed : Bool) (scope : Blocks) (tok : Token) → NoStop (step limit 0 scope [] (declarator (sorts.Named typed)) tok)
unfolding step
named_step limit typed scope tok = named_no_stop limit typed tok.pos (sign_of (is_type_in scope) tok)

-- a declarator with a name
pub named_local : (limit : ℕ) (typed : Bool) (scope : Blocks) (unit us ts : List Token) → EndsIn ts → Local 0 1 0 (λ unit us ys. declarator_read limit (sorts.Named typed) scope ys) unit us ts
named_local limit typed scope unit us ts ends = declarator_by limit 1 (sorts.Named typed) scope unit us ts ends (no_stop _ (named_step limit typed scope (token_at ts 0)))

-- a type name
behind_local : (limit : ℕ) (q : Listed) (scope : Blocks) (unit us ts : List Token) → EndsIn ts → Local 0 0 0 (λ unit us ys. type_behind limit q scope ys) unit us ts
behind_local limit q scope unit us ts ends = local_if 0 0 0 (nat_eq (specifiers_depth q.tree) 0) (λ unit us ys. unexpected ys) (λ unit us ys. declarator_read limit sorts.Abstract scope ys >>= (λ d. Ok (t.type_name q.tree d.0, d.1, d.2))) unit us ts
    (λ e. fails 0 0 unit us ts ends)
    (λ e. seq 0 0 0 0 0 0 0 (λ unit us ys. declarator_read limit sorts.Abstract scope ys) (λ unit us d. Ok (t.type_name q.tree d.0, d.1, d.2)) unit us ts (omega arith) (omega arith) (omega arith) ends (declarator_local limit sorts.Abstract scope unit us ts ends)
    (λ d inner rest left short. done 0 0 (t.type_name q.tree d) inner unit us rest left))

pub type_local : (limit : ℕ) (scope : Blocks) (unit us ts : List Token) → EndsIn ts → Local 0 0 0 (λ unit us ys. type_read limit scope ys) unit us ts
type_local limit scope unit us ts ends = seq 0 0 0 0 0 0 0 (λ unit us ys. listed_read limit false scope ys) (λ unit us q. type_behind limit q.0 q.2 q.1) unit us ts (omega arith) (omega arith) (omega arith) ends (listed_by limit 0 0 false scope unit us ts (omega arith) ends (any_allowed _))
    (λ q inner rest left short. behind_local limit q inner unit us rest left)
