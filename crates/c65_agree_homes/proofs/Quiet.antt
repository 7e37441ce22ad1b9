-- Lines without a jump to a label.
use Rattle.std.proofs.Common.{◌≡◌, ℕ, zero, suc, ◌+◌, ◌<◌, ◌≤◌, Bool, true, false, ℤ, None, Some, List, [], ◌∷◌, ◌++◌, length, refl, sym, ◌∙◌, ap, subst, slice_get, arith}
use Rattle.std.specs.Prelude.{◌==◌, ◌&&◌, not, if◌then◌else◌, Contains}
use Rattle.std.specs.List.{list_all}
use Rattle.std.proofs.lemmas.Bool.{and_parts, eq-eqb, ne_eqb}
use Rattle.std.proofs.lemmas.List.Elements.{Contains-append_left, Contains-append_right}
use Rattle.std.proofs.lemmas.List.Folds.{list_all-append}
use Rattle.c65_csem.specs.Trees.{Typed, MaybeTyped, absent, present, Stmt}
use Rattle.c65_csem.specs.Statements.{cases_of}
use Rattle.c65_mach.specs.declared.rows.Op.TheVariants.{Jmp}
use Rattle.c65_code.specs.declared.line.Line.{Line}
use Rattle.c65_code.specs.declared.routine.Width.{Width}
use Rattle.c65_code.specs.Parts.{no_parts}
use Rattle.c65_code.specs.Segments.{Drafted, target_of, targets_of}
use Rattle.c65_genframe.specs.Frames.{Framed}
use Rattle.c65_genwide.specs.Wide.{width_of}
use Rattle.c65_genexpr.specs.declared.wanted.Wanted.TheVariants.{Value, Test}
use Rattle.c65_genexpr.specs.Code.{expr_code}
use Rattle.c65_genexpr.specs.Types.{kind_in}
use Rattle.c65_genexpr.specs.Uses.{uses}
use Rattle.c65_geneffect.specs.Effects.{effect_code}
use Rattle.c65_genentry.specs.Words.{jump}
use Rattle.c65_genentry.specs.Choice.{choice_code}
use Rattle.c65_genstmt.specs.Cases.{has_default}
use Rattle.c65_genstmt.specs.Jumps.{with_value, with_effect, with_test}
use Rattle.c65_genstmt.specs.Stmts.{with_cases, default_way}
use Rattle.c65_gen_law_lines.specs.Labels.{times}
use Rattle.c65_gen_law_lines.proofs.Made.{among_low}
use Rattle.c65_gen_law_lines.proofs.Others.{laid_among}
use Rattle.c65_gen_law_lines.proofs.Puts.{below_in, at_most_one, Puts, no_others, Free, Passes, arrives_append, puts_value, puts_effect, puts_test}
use Rattle.c65_gen_law_lines.proofs.StmtLaws.{CasesPass, ChoicePasses, choice_puts}
use Rattle.c65_agree_lines.specs.Lists.{maybe_code, effects_code, guard_code, head_code, head_uses, way_code}
use Rattle.c65_agree_lines.specs.Turns.{Turn, GotoAt}

-- ---- quiet lines

abbrev pub is_other : ℕ → ℕ → Bool
is_other m l = not (l == m)

-- none of their targets is the label
abbrev pub Quiet : ℕ → List Line → Type 0
Quiet m code = list_all (is_other m) (targets_of code) ≡ true

pub other : (m l : ℕ) → (l ≡ m → ⊥) → is_other m l ≡ true
other m l h = ap not (ne_eqb l m h)

pub not_itself : (m : ℕ) → is_other m m ≡ true → ⊥
not_itself m h = go (m == m) (eq-eqb m m refl) h
  where
    go : (b : Bool) → b ≡ true → not b ≡ true → ⊥
    go true e f = cc
    go false e f = cc

quiet_tail : (m : ℕ) (line : Line) (code : List Line) → Quiet m (line ∷ code) → Quiet m code
quiet_tail m line code q = (and_parts (list_all (is_other m) (target_of line)) (list_all (is_other m) (targets_of code)) (sym (list_all-append (is_other m) (target_of line) (targets_of code)) ∙ q)).1

quiet_head : (m : ℕ) (line : Line) (code : List Line) → Quiet m (line ∷ code) → list_all (is_other m) (target_of line) ≡ true
quiet_head m line code q = (and_parts (list_all (is_other m) (target_of line)) (list_all (is_other m) (targets_of code)) (sym (list_all-append (is_other m) (target_of line) (targets_of code)) ∙ q)).0

pub no_jump : (m : ℕ) (code : List Line) (i : ℕ) → Quiet m code → slice_get code i ≡ Some (jump Jmp m) → ⊥
no_jump m [] i q e = cc
no_jump m (line ∷ code) zero q e =
    let same : line ≡ jump Jmp m = cc in
    let first : list_all (is_other m) (m ∷ []) ≡ true = sym (ap (λ (l : Line). list_all (is_other m) (target_of l)) same) ∙ quiet_head m line code q in
    not_itself m (and_parts (is_other m m) true first).0
no_jump m (line ∷ code) (suc i) q e = no_jump m code i (quiet_tail m line code q) e

pub quiet_both : (m : ℕ) (a b : List Line) → Quiet m a → Quiet m b → Quiet m (a ++ b)
quiet_both m a b p q = arrives_append (is_other m) a b p q

pub quiet_jump : (m l : ℕ) → (l ≡ m → ⊥) → Quiet m (jump Jmp l ∷ [])
quiet_jump m l h = ap (λ (b : Bool). b && true) (other m l h)

pub quiet_way : (m l : ℕ) (b : Bool) → (l ≡ m → ⊥) → Quiet m (way_code b l)
quiet_way m l true h = refl
quiet_way m l false h = quiet_jump m l h

-- ---- lines whose labels are given behind it

abbrev pub from : ℕ → Drafted
from fresh = record { lines = []; labels = fresh; out = no_parts }

pub quiet_from : (E : (ℕ → Bool) → Type 0) (m fresh : ℕ) (e : Drafted) → Puts (from fresh) e no_others E → m < fresh → E (is_other m) → Quiet m e.lines
quiet_from E m fresh e p lt ex = p.leads (is_other m) ex covers refl
  where
    covers : (x : ℕ) → times x [] < times x e.lines → is_other m x ≡ true
    covers x more = other m x (λ same. omega (arith, more, p.most x, at_most_one e.labels x, below_in fresh x (omega (arith, same, lt))))

pub quiet_value : (f : Framed) (m fresh : ℕ) (e : Typed) → m < fresh → Quiet m (expr_code f 0 fresh Value e)
quiet_value f m fresh e lt = quiet_from Free m fresh (with_value f e (from fresh)) (puts_value f e (from fresh)) lt tt

pub quiet_effect : (f : Framed) (m fresh : ℕ) (e : Typed) → m < fresh → Quiet m (effect_code f 0 fresh e)
quiet_effect f m fresh e lt = quiet_from Free m fresh (with_effect f e (from fresh)) (puts_effect f e (from fresh)) lt tt

pub quiet_test : (f : Framed) (m fresh to : ℕ) (s : Bool) (e : Typed) → m < fresh → (to ≡ m → ⊥) → Quiet m (expr_code f 0 fresh (Test to s) e)
quiet_test f m fresh to s e lt far = quiet_from (Passes to) m fresh (with_test f to s e (from fresh)) (puts_test f to s e (from fresh)) lt (other m to far)

pub quiet_maybe : (f : Framed) (m fresh : ℕ) (e : MaybeTyped) → m < fresh → Quiet m (maybe_code f e fresh)
quiet_maybe f m fresh absent lt = refl
quiet_maybe f m fresh (present e) lt = quiet_value f m fresh e lt

pub quiet_effects : (f : Framed) (m fresh : ℕ) (e : MaybeTyped) → m < fresh → Quiet m (effects_code f e fresh)
quiet_effects f m fresh absent lt = refl
quiet_effects f m fresh (present e) lt = quiet_effect f m fresh e lt

pub quiet_guard : (f : Framed) (m fresh to : ℕ) (e : MaybeTyped) → m < fresh → (to ≡ m → ⊥) → Quiet m (guard_code f to e fresh)
quiet_guard f m fresh to absent lt far = refl
quiet_guard f m fresh to (present e) lt far = quiet_test f m fresh to false e lt far

-- ---- the head of a switch

way_far : (m fresh : ℕ) (b : Bool) → m < fresh → (if b then fresh + 1 else fresh) ≡ m → ⊥
way_far m fresh true lt e = omega (arith, lt, e)
way_far m fresh false lt e = omega (arith, lt, e)

pub default_far : (m fresh : ℕ) (a : Stmt) → m < fresh → default_way a fresh ≡ m → ⊥
default_far m fresh a lt e = way_far m fresh (has_default a) lt e

cases_pass : (m at n : ℕ) → m < at → at + n ≤ 4294967296 → CasesPass at n (is_other m)
cases_pass m at n lt room x some = other m x (λ same. omega (arith, some, laid_among at n x room, among_low at n x (omega (arith, same, lt))))

quiet_choice : (width : Width) (m fresh to at : ℕ) (zs : List ℤ) → m < fresh → m < at → at + length zs ≤ 4294967296 → (to ≡ m → ⊥) → Quiet m (choice_code width to at fresh zs)
quiet_choice width m fresh to at zs lt less room far =
    quiet_from (ChoicePasses to at (length zs)) m fresh (with_cases width to at zs (from fresh)) (choice_puts width to at zs (from fresh)) lt (other m to far, cases_pass m at (length zs) less room)

pub quiet_switch : (f : Framed) (m fresh : ℕ) (e : Typed) (a : Stmt) → m < fresh → fresh + head_uses e a ≤ 4294967296 → Quiet m (head_code f e a fresh)
quiet_switch f m fresh e a lt room =
    let first : ℕ = fresh + 1 + 1 + length (cases_of a) in
    let choice : List Line = choice_code (width_of (kind_in e)) (default_way a fresh) (fresh + 1 + 1) (first + uses None e) (cases_of a) in
    quiet_both m (expr_code f 0 first Value e) (choice ++ jump Jmp (default_way a fresh) ∷ []) (quiet_value f m first e (omega (arith, lt)))
    (quiet_both m choice (jump Jmp (default_way a fresh) ∷ []) (quiet_choice (width_of (kind_in e)) m (first + uses None e) (default_way a fresh) (fresh + 1 + 1) (cases_of a) (omega (arith, lt)) (omega (arith, lt)) (omega (arith, room)) (default_far m fresh a lt))
    (quiet_jump m (default_way a fresh) (default_far m fresh a lt)))

-- ---- jumps that are turns

-- each line of these that jumps to the label is that of a `goto` among the turns; the first line has the number p
abbrev pub Counted : ℕ → List Line → ℕ → List Turn → Type 0
Counted m code p ts = (i : ℕ) → slice_get code i ≡ Some (jump Jmp m) → Contains ts (GotoAt (p + i))

pub moved : (ts : List Turn) (q r : ℕ) → q ≡ r → Contains ts (GotoAt q) → Contains ts (GotoAt r)
moved ts q r e h = subst (λ (n : ℕ). Contains ts (GotoAt n)) e h

pub quiet_counts : (m : ℕ) (code : List Line) (p : ℕ) (ts : List Turn) → Quiet m code → Counted m code p ts
quiet_counts m code p ts q i e = absurd (no_jump m code i q e)

-- behind quiet lines
pub counts_behind : (m : ℕ) (a b : List Line) (p : ℕ) (ts : List Turn) → Quiet m a → Counted m b (p + length a) ts → Counted m (a ++ b) p ts
counts_behind m [] b p ts q c i e = moved ts (p + 0 + i) (p + i) (omega arith) (c i e)
counts_behind m (line ∷ a) b p ts q c zero e = absurd (no_jump m (line ∷ a) zero q e)
counts_behind m (line ∷ a) b p ts q c (suc i) e =
    let there : p + suc (length a) ≡ suc p + length a = omega arith in
    moved ts (suc p + i) (p + suc i) (omega arith) (counts_behind m a b (suc p) ts (quiet_tail m line a q) (subst (λ (n : ℕ). Counted m b n ts) there c) i e)

-- before them
pub counts_before : (m : ℕ) (a b : List Line) (p : ℕ) (ts : List Turn) → Counted m a p ts → Quiet m b → Counted m (a ++ b) p ts
counts_before m [] b p ts c q i e = absurd (no_jump m b i q e)
counts_before m (line ∷ a) b p ts c q zero e = c zero e
counts_before m (line ∷ a) b p ts c q (suc i) e = moved ts (suc p + i) (p + suc i) (omega arith) (counts_before m a b (suc p) ts (λ k h. moved ts (p + suc k) (suc p + k) (omega arith) (c (suc k) h)) q i e)

pub counts_both : (m : ℕ) (a b : List Line) (p : ℕ) (ts us : List Turn) → Counted m a p ts → Counted m b (p + length a) us → Counted m (a ++ b) p (ts ++ us)
counts_both m [] b p ts us c d i e = Contains-append_right ts us (GotoAt (p + i)) (moved us (p + 0 + i) (p + i) (omega arith) (d i e))
counts_both m (line ∷ a) b p ts us c d zero e = Contains-append_left ts us (GotoAt (p + 0)) (c zero e)
counts_both m (line ∷ a) b p ts us c d (suc i) e =
    let there : p + suc (length a) ≡ suc p + length a = omega arith in
    moved (ts ++ us) (suc p + i) (p + suc i) (omega arith) (counts_both m a b (suc p) ts us (λ k h. moved ts (p + suc k) (suc p + k) (omega arith) (c (suc k) h)) (subst (λ (n : ℕ). Counted m b n us) there d) i e)

-- with a turn more
pub counts_more : (m : ℕ) (code : List Line) (p : ℕ) (t : Turn) (ts : List Turn) → Counted m code p ts → Counted m code p (t ∷ ts)
counts_more m code p t ts c i e = Contains-append_right (t ∷ []) ts (GotoAt (p + i)) (c i e)
