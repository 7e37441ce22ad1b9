-- What becomes of a draft: which labels it puts, and where it leads.
use Rattle.std.proofs.Common.{◌≡◌, ℕ, ◌+◌, ◌<◌, ◌≤◌, ◌==◌, ◌⊎◌, inl, inr, Bool, true, None, Some, List, [], ◌∷◌, ◌++◌, refl, ◌∙◌, ap, arith}
use Rattle.std.specs.Prelude.{if◌then◌else◌, nat_lt}
use Rattle.std.specs.List.{list_all}
use Rattle.std.proofs.lemmas.Bool.{and_from, lt-ltb, le-ltb, eq-eqb, ne_eqb, cases_lt}
use Rattle.std.proofs.lemmas.List.Folds.{list_all-append}
use Rattle.c65_mach.specs.declared.rows.Op.TheVariants.{Jmp}
use Rattle.c65_csem.specs.Trees.{Typed}
use Rattle.c65_code.specs.declared.line.Line.{Line}
use Rattle.c65_code.specs.declared.line.Line.TheVariants.{Label}
use Rattle.c65_code.specs.Segments.{Drafted, targets_of}
use Rattle.c65_genframe.specs.Frames.{Framed}
use Rattle.c65_genwide.specs.Lines.{with_lines, grown}
use Rattle.c65_genexpr.specs.declared.wanted.Wanted.TheVariants.{Value, Test}
use Rattle.c65_genexpr.specs.Code.{expr_code}
use Rattle.c65_genexpr.specs.Uses.{uses}
use Rattle.c65_genentry.specs.Words.{jump, with_code}
use Rattle.c65_geneffect.specs.Effects.{effect_code, effect_uses}
use Rattle.c65_genstmt.specs.Jumps.{with_value, with_effect, with_test}
use Rattle.c65_genstmt.specs.Stmts.{with_label, with_jump, two_given, three_given}
use Rattle.c65_gen_law_lines.specs.Labels.{times, is_within, among}
use Rattle.c65_gen_law_lines.proofs.Made.{is_early, times-append, plain_times, targets-append, plain_targets, among_inside, among_in, among_low, among_high, among_one, all_append, all_passes, Stretch, Made, stretch_made}
use Rattle.c65_gen_law_lines.proofs.ExprLaws.{expr_made}
use Rattle.c65_gen_law_lines.proofs.EffectLaws.{effect_made}
use Rattle.c65_gen_law_lines.proofs.Flat.{Flat, Own}

-- 1 for one label
abbrev pub one : ℕ → ℕ → ℕ
one l x = if l == x then 1 else 0

-- 1 for the labels below a number
abbrev pub below : ℕ → ℕ → ℕ
below n x = if nat_lt x n then 1 else 0

pub below_in : (n x : ℕ) → x < n → below n x ≡ 1
below_in n x h = ap (λ b. if b then 1 else 0) (lt-ltb x n h)

pub below_out : (n x : ℕ) → n ≤ x → below n x ≡ 0
below_out n x h = ap (λ b. if b then 1 else 0) (le-ltb x n h)

pub one_same : (x : ℕ) → one x x ≡ 1
one_same x = ap (λ b. if b then 1 else 0) (eq-eqb x x refl)

pub one_other : (l x : ℕ) → (l ≡ x → ⊥) → one l x ≡ 0
one_other l x h = ap (λ b. if b then 1 else 0) (ne_eqb l x h)

pub below_more : (n m x : ℕ) → below (n + m) x ≡ below n x + among n m x
below_more n m x = go (cases_lt x n) (cases_lt x (n + m))
  where
    go : (x < n) ⊎ (n ≤ x) → (x < n + m) ⊎ (n + m ≤ x) → below (n + m) x ≡ below n x + among n m x
    go (inl a) b = omega (arith, below_in (n + m) x (omega (arith, a)), below_in n x a, among_low n m x a)
    go (inr a) (inl b) = omega (arith, below_in (n + m) x b, below_out n x a, among_in n m x a b)
    go (inr a) (inr b) = omega (arith, below_out (n + m) x b, below_out n x a, among_high n m x b)

pub below_next : (n x : ℕ) → below (n + 1) x ≡ below n x + one n x
below_next n x = omega (arith, below_more n 1 x, among_one n x)

pub at_most_one : (n x : ℕ) → below n x ≤ 1
at_most_one n x = go (cases_lt x n)
  where
    go : (x < n) ⊎ (n ≤ x) → below n x ≤ 1
    go (inl a) = omega (arith, below_in n x a)
    go (inr a) = omega (arith, below_out n x a)

-- ---- where lines lead

-- each target passes a test
abbrev pub Arrives : (ℕ → Bool) → Drafted → Type 0
Arrives ok d = list_all ok (targets_of d.lines) ≡ true

-- the labels that come between two drafts pass it
abbrev pub Covers : (ℕ → Bool) → Drafted → Drafted → Type 0
Covers ok d e = (x : ℕ) → times x d.lines < times x e.lines → ok x ≡ true

pub arrives_append : (ok : ℕ → Bool) (a b : List Line) → list_all ok (targets_of a) ≡ true → list_all ok (targets_of b) ≡ true → list_all ok (targets_of (a ++ b)) ≡ true
arrives_append ok a b ha hb = ap (list_all ok) (targets-append a b) ∙ (list_all-append ok (targets_of a) (targets_of b) ∙ and_from (list_all ok (targets_of a)) (list_all ok (targets_of b)) ha hb)

-- The draft e comes from d by lines that put labels: those given on the way at most once each, and others as often as is said.
-- They lead to labels that they put, and to others of which E speaks.
pub record Puts (d e : Drafted) (others : ℕ → ℕ) (E : (ℕ → Bool) → Type 0) : Type 0 where
  pub grows : d.labels ≤ e.labels
  pub most : (x : ℕ) → times x e.lines + below d.labels x ≤ times x d.lines + (below e.labels x + others x)
  pub least : (x : ℕ) → times x d.lines + others x ≤ times x e.lines
  pub fit : list_all is_early d.lines ≡ true → list_all is_early e.lines ≡ true
  pub leads : (ok : ℕ → Bool) → E ok → Covers ok d e → Arrives ok d → Arrives ok e

abbrev pub no_others : ℕ → ℕ
no_others x = 0

abbrev pub Free : (ℕ → Bool) → Type 0
Free ok = Unit {0}

-- one label passes the test
abbrev pub Passes : ℕ → (ℕ → Bool) → Type 0
Passes l ok = ok l ≡ true

pub puts_same : (d : Drafted) → Puts d d no_others Free
puts_same d = record { grows = omega arith; most = λ x. omega arith; least = λ x. omega arith; fit = λ h. h; leads = λ ok ex covers h. h }

pub puts_then : {d e g : Drafted} {m n : ℕ → ℕ} {E F : (ℕ → Bool) → Type 0} → Puts d e m E → Puts e g n F → Puts d g (λ x. m x + n x) (λ ok. E ok × F ok)
puts_then p q = record {
  grows = omega (arith, p.grows, q.grows);
  most = λ x. omega (arith, p.most x, q.most x);
  least = λ x. omega (arith, p.least x, q.least x);
  fit = λ h. q.fit (p.fit h);
  leads = λ ok ex covers h. q.leads ok ex.1 (λ x more. covers x (omega (arith, more, p.least x))) (p.leads ok ex.0 (λ x more. covers x (omega (arith, more, q.least x))) h);
}

pub puts_end : {d e : Drafted} {m n : ℕ → ℕ} {E F : (ℕ → Bool) → Type 0} → Puts d e m E → ((x : ℕ) → m x ≡ n x) → ((ok : ℕ → Bool) → F ok → E ok) → Puts d e n F
puts_end p same exits = record {
  grows = p.grows;
  most = λ x. omega (arith, p.most x, same x);
  least = λ x. omega (arith, p.least x, same x);
  fit = p.fit;
  leads = λ ok ex covers h. p.leads ok (exits ok ex) covers h;
}

-- two labels that are given and then put
pub two_labels : {d e : Drafted} {m n : ℕ → ℕ} {E F : (ℕ → Bool) → Type 0} → Puts (two_given d) e m E → ((x : ℕ) → m x ≡ one d.labels x + (one (d.labels + 1) x + n x)) → ((ok : ℕ → Bool) → ok d.labels ≡ true → ok (d.labels + 1) ≡ true → F ok → E ok) → Puts d e n F
two_labels {d = d} p same exits = record {
  grows = omega (arith, p.grows);
  most = λ x. omega (arith, p.most x, same x, below_next d.labels x, below_next (d.labels + 1) x);
  least = λ x. omega (arith, p.least x, same x);
  fit = p.fit;
  leads = λ ok ex covers h.
      let first : ok d.labels ≡ true = covers d.labels (omega (arith, p.least d.labels, same d.labels, one_same d.labels)) in
      let second : ok (d.labels + 1) ≡ true = covers (d.labels + 1) (omega (arith, p.least (d.labels + 1), same (d.labels + 1), one_same (d.labels + 1))) in
      p.leads ok (exits ok first second ex) covers h;
}

pub three_labels : {d e : Drafted} {m n : ℕ → ℕ} {E F : (ℕ → Bool) → Type 0} → Puts (three_given d) e m E → ((x : ℕ) → m x ≡ one d.labels x + (one (d.labels + 1) x + (one (d.labels + 1 + 1) x + n x))) → ((ok : ℕ → Bool) → ok d.labels ≡ true → ok (d.labels + 1) ≡ true → ok (d.labels + 1 + 1) ≡ true → F ok → E ok) → Puts d e n F
three_labels {d = d} p same exits = record {
  grows = omega (arith, p.grows);
  most = λ x. omega (arith, p.most x, same x, below_next d.labels x, below_next (d.labels + 1) x, below_next (d.labels + 1 + 1) x);
  least = λ x. omega (arith, p.least x, same x);
  fit = p.fit;
  leads = λ ok ex covers h.
      let first : ok d.labels ≡ true = covers d.labels (omega (arith, p.least d.labels, same d.labels, one_same d.labels)) in
      let second : ok (d.labels + 1) ≡ true = covers (d.labels + 1) (omega (arith, p.least (d.labels + 1), same (d.labels + 1), one_same (d.labels + 1))) in
      let third : ok (d.labels + 1 + 1) ≡ true = covers (d.labels + 1 + 1) (omega (arith, p.least (d.labels + 1 + 1), same (d.labels + 1 + 1), one_same (d.labels + 1 + 1))) in
      p.leads ok (exits ok first second third ex) covers h;
}

-- ---- steps

pub puts_flat : (d : Drafted) (a : List Line) → Flat a → Puts d (with_lines d a) no_others Free
puts_flat d a p = record {
  grows = omega arith;
  most = λ x. omega (arith, times-append x d.lines a, plain_times x a p.plain);
  least = λ x. omega (arith, times-append x d.lines a, plain_times x a p.plain);
  fit = λ h. all_append is_early d.lines a h p.fit;
  leads = λ ok ex covers h. arrives_append ok d.lines a h (ap (list_all ok) (plain_targets a p.plain));
}

pub puts_label : (d : Drafted) (l : ℕ) → Puts d (with_label l d) (one l) Free
puts_label d l = record {
  grows = omega arith;
  most = λ x. omega (arith, times-append x d.lines (Label l ∷ []));
  least = λ x. omega (arith, times-append x d.lines (Label l ∷ []));
  fit = λ h. all_append is_early d.lines (Label l ∷ []) h refl;
  leads = λ ok ex covers h. arrives_append ok d.lines (Label l ∷ []) h refl;
}

pub puts_jump : (d : Drafted) (l : ℕ) → Puts d (with_jump l d) no_others (Passes l)
puts_jump d l = record {
  grows = omega arith;
  most = λ x. omega (arith, times-append x d.lines (jump Jmp l ∷ []));
  least = λ x. omega (arith, times-append x d.lines (jump Jmp l ∷ []));
  fit = λ h. all_append is_early d.lines (jump Jmp l ∷ []) h refl;
  leads = λ ok ex covers h. arrives_append ok d.lines (jump Jmp l ∷ []) h (and_from (ok l) true ex refl);
}

pub puts_own : (d : Drafted) (n : ℕ) (a : List Line) → Own d.labels n a → Puts d (with_code n a d) no_others Free
puts_own d n a own = record {
  grows = omega arith;
  most = λ x. omega (arith, times-append x d.lines a, own.once x, below_more d.labels n x);
  least = λ x. omega (arith, times-append x d.lines a);
  fit = λ h. all_append is_early d.lines a h own.fit;
  leads = λ ok ex covers h. arrives_append ok d.lines a h (all_passes (is_within d.labels n) ok (targets_of a) (λ x inside. covers x (omega (arith, times-append x d.lines a, own.once x, among_inside d.labels n x inside))) own.leads.all);
}

-- labels outside pass the test
puts_made : {k : ℕ} (d : Drafted) (n : ℕ) (outside : List ℕ) (a : List Line) → Made outside d.labels n k a → Puts d (grown d a n) no_others (λ ok. list_all ok outside ≡ true)
puts_made {k = k} d n outside a made = record {
  grows = omega arith;
  most = λ x. omega (arith, times-append x d.lines a, made.once x, below_more d.labels n x);
  least = λ x. omega (arith, times-append x d.lines a);
  fit = λ h. all_append is_early d.lines a h made.fit;
  leads = λ ok ex covers h.
      let part : Stretch ok (among d.labels n) k a = stretch_made made (λ x inside. covers x (omega (arith, times-append x d.lines a, made.once x, among_inside d.labels n x inside))) ex in
      arrives_append ok d.lines a h part.leads;
}

pub puts_value : (f : Framed) (e : Typed) (d : Drafted) → Puts d (with_value f e d) no_others Free
puts_value f e d = puts_end (puts_made d (uses None e) [] (expr_code f 0 d.labels Value e) (expr_made f 0 d.labels Value e)) (λ x. refl) (λ ok ex. refl)

pub puts_effect : (f : Framed) (e : Typed) (d : Drafted) → Puts d (with_effect f e d) no_others Free
puts_effect f e d = puts_end (puts_made d (effect_uses e) [] (effect_code f 0 d.labels e) (effect_made f 0 d.labels e)) (λ x. refl) (λ ok ex. refl)

pub puts_test : (f : Framed) (to : ℕ) (s : Bool) (e : Typed) (d : Drafted) → Puts d (with_test f to s e d) no_others (Passes to)
puts_test f to s e d = puts_end (puts_made d (uses (Some s) e) (to ∷ []) (expr_code f 0 d.labels (Test to s) e) (expr_made f 0 d.labels (Test to s) e)) (λ x. refl) (λ ok ex. and_from (ok to) true ex refl)
