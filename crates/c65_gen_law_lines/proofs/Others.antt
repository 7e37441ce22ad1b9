-- The labels that a statement puts and that were given outside it: of cases and of default, and of statements.
use Rattle.std.proofs.Common.{◌≡◌, ℕ, zero, suc, ◌+◌, ◌≤◌, ◌||◌, Bool, true, false, ℤ, List, ◌++◌, length, refl, sym, ◌∙◌, ap, arith}
use Rattle.std.proofs.lemmas.List.{length-append}
use Rattle.c65_csem.specs.Trees.{Stmt, empty, eval, set_part, clear, block, if_stmt, while, do_while, for_loop, switch, case, default, label, goto, break, continue, return, Stmts, no_stmts, and_stmts}
use Rattle.c65_csem.specs.Statements.{cases_of, cases_in, defaults_of, defaults_in}
use Rattle.c65_genstmt.specs.Jumps.{following}
use Rattle.c65_genstmt.specs.Stmts.{case_behind, case_behind_all}
use Rattle.c65_genstmt.specs.Cases.{has_default, have_default}
use Rattle.c65_gen_law_lines.specs.Labels.{among}
use Rattle.c65_gen_law_lines.proofs.Made.{among_split, among_none, among_one}
use Rattle.c65_gen_law_lines.proofs.Puts.{one, one_same}

-- how often a statement's own labels have this number
abbrev mutual
  pub names : ℕ → Stmt → ℕ
  names x (block os ss) = names_in x ss
  names x (if_stmt e a b) = names x a + names x b
  names x (while e a) = names x a
  names x (do_while a e) = names x a
  names x (for_loop i c n a) = names x a
  names x (switch e a) = names x a
  names x (case z a) = names x a
  names x (default a) = names x a
  names x (label n a) = one (following n) x + names x a
  names x _ = 0

  pub names_in : ℕ → Stmts → ℕ
  names_in x no_stmts = 0
  names_in x (and_stmts a ss) = names x a + names_in x ss

-- and with the labels of cases, the next of which is l, and of default, which is o
abbrev mutual
  pub others : ℕ → ℕ → Stmt → ℕ → ℕ
  others o l (block os ss) x = others_in o l ss x
  others o l (if_stmt e a b) x = others o l a x + others o (case_behind l a) b x
  others o l (while e a) x = others o l a x
  others o l (do_while a e) x = others o l a x
  others o l (for_loop i c n a) x = others o l a x
  others o l (switch e a) x = names x a
  others o l (case z a) x = one l x + others o (following l) a x
  others o l (default a) x = one o x + others o l a x
  others o l (label n a) x = one (following n) x + others o l a x
  others o l _ x = 0

  pub others_in : ℕ → ℕ → Stmts → ℕ → ℕ
  others_in o l no_stmts x = 0
  others_in o l (and_stmts a ss) x = others o l a x + others_in o (case_behind l a) ss x

-- so many labels of cases, from l on
abbrev pub laid : ℕ → ℕ → ℕ → ℕ
laid l zero x = 0
laid l (suc n) x = one l x + laid (following l) n x

-- the label behind so many
abbrev pub after : ℕ → ℕ → ℕ
after l zero = l
after l (suc n) = after (following l) n

after_sum : (l m n : ℕ) → after l (m + n) ≡ after (after l m) n
after_sum l zero n = let e : 0 + n ≡ n = omega arith in ap (after l) e
after_sum l (suc m) n = let e : suc m + n ≡ suc (m + n) = omega arith in ap (after l) e ∙ after_sum (following l) m n

laid_sum : (l m n x : ℕ) → laid l (m + n) x ≡ laid l m x + laid (after l m) n x
laid_sum l zero n x = let e : 0 + n ≡ n = omega arith in ap (λ k. laid l k x) e ∙ omega arith
laid_sum l (suc m) n x =
    let e : suc m + n ≡ suc (m + n) = omega arith in
    ap (λ k. laid l k x) e ∙ omega (arith, laid_sum (following l) m n x)

mutual
  behind : (l : ℕ) (s : Stmt) → case_behind l s ≡ after l (length (cases_of s))
  behind l (block os ss) = behind_all l ss
  behind l (if_stmt e a b) = ap (λ k. case_behind k b) (behind l a) ∙ (behind (after l (length (cases_of a))) b ∙ (sym (after_sum l (length (cases_of a)) (length (cases_of b))) ∙ ap (after l) (sym (length-append (cases_of a) (cases_of b)))))
  behind l (while e a) = behind l a
  behind l (do_while a e) = behind l a
  behind l (for_loop i c n a) = behind l a
  behind l (switch e a) = refl
  behind l (case z a) = behind (following l) a
  behind l (default a) = behind l a
  behind l (label n a) = behind l a
  behind l _ = refl

  behind_all : (l : ℕ) (ss : Stmts) → case_behind_all l ss ≡ after l (length (cases_in ss))
  behind_all l no_stmts = refl
  behind_all l (and_stmts a ss) = ap (λ k. case_behind_all k ss) (behind l a) ∙ (behind_all (after l (length (cases_of a))) ss ∙ (sym (after_sum l (length (cases_of a)) (length (cases_in ss))) ∙ ap (after l) (sym (length-append (cases_of a) (cases_in ss)))))

-- defaults, so many
abbrev pub times_one : ℕ → ℕ → ℕ → ℕ
times_one zero o x = 0
times_one (suc n) o x = one o x + times_one n o x

times_one_sum : (m n o x : ℕ) → times_one (m + n) o x ≡ times_one m o x + times_one n o x
times_one_sum zero n o x = let e : 0 + n ≡ n = omega arith in ap (λ k. times_one k o x) e ∙ omega arith
times_one_sum (suc m) n o x = let e : suc m + n ≡ suc (m + n) = omega arith in ap (λ k. times_one k o x) e ∙ omega (arith, times_one_sum m n o x)

laid_append : (l x : ℕ) (ms ns : List ℤ) → laid l (length (ms ++ ns)) x ≡ laid l (length ms) x + laid (after l (length ms)) (length ns) x
laid_append l x ms ns = ap (λ k. laid l k x) (length-append ms ns) ∙ laid_sum l (length ms) (length ns) x

mutual
  pub others_are : (o l : ℕ) (s : Stmt) (x : ℕ) → others o l s x ≡ laid l (length (cases_of s)) x + (times_one (defaults_of s) o x + names x s)
  others_are o l (block os ss) x = others_in_are o l ss x
  others_are o l (if_stmt e a b) x =
      omega (arith, others_are o l a x, others_are o (case_behind l a) b x, ap (λ k. laid k (length (cases_of b)) x) (behind l a), laid_append l x (cases_of a) (cases_of b), times_one_sum (defaults_of a) (defaults_of b) o x)
  others_are o l (while e a) x = others_are o l a x
  others_are o l (do_while a e) x = others_are o l a x
  others_are o l (for_loop i c n a) x = others_are o l a x
  others_are o l (switch e a) x = omega arith
  others_are o l (case z a) x = omega (arith, others_are o (following l) a x)
  others_are o l (default a) x = omega (arith, others_are o l a x)
  others_are o l (label n a) x = omega (arith, others_are o l a x)
  others_are o l empty x = omega arith
  others_are o l (eval e) x = omega arith
  others_are o l (set_part i at e) x = omega arith
  others_are o l (clear i) x = omega arith
  others_are o l (goto n) x = omega arith
  others_are o l break x = omega arith
  others_are o l continue x = omega arith
  others_are o l (return e) x = omega arith

  others_in_are : (o l : ℕ) (ss : Stmts) (x : ℕ) → others_in o l ss x ≡ laid l (length (cases_in ss)) x + (times_one (defaults_in ss) o x + names_in x ss)
  others_in_are o l no_stmts x = omega arith
  others_in_are o l (and_stmts a ss) x =
      omega (arith, others_are o l a x, others_in_are o (case_behind l a) ss x, ap (λ k. laid k (length (cases_in ss)) x) (behind l a), laid_append l x (cases_of a) (cases_in ss), times_one_sum (defaults_of a) (defaults_in ss) o x)

-- below 2 to the 32 the labels of cases follow one another
pub laid_among : (l n x : ℕ) → l + n ≤ 4294967296 → laid l n x ≡ among l n x
laid_among l zero x le = sym (among_none l x)
laid_among l (suc zero) x le = omega (arith, among_one l x)
laid_among l (suc (suc n)) x le =
    let next : following l ≡ l + 1 = omega (arith, le) in
    let rest : laid (following l) (suc n) x ≡ among (l + 1) (suc n) x = ap (λ k. laid k (suc n) x) next ∙ laid_among (l + 1) (suc n) x (omega (arith, le)) in
    let more : suc (suc n) ≡ 1 + suc n = omega arith in
    let sum : among l (suc (suc n)) x ≡ among l (1 + suc n) x = ap (λ k. among l k x) more in
    omega (arith, rest, sum, among_split l 1 (suc n) x, among_one l x)

pub few_defaults : (n o x : ℕ) → n ≤ 1 → times_one n o x ≤ one o x
few_defaults zero o x le = omega arith
few_defaults (suc zero) o x le = omega arith
few_defaults (suc (suc n)) o x le = absurd (omega arith)

or_true : (a b : Bool) (m n : ℕ) → (a ≡ true → 1 ≤ m) → (b ≡ true → 1 ≤ n) → (a || b) ≡ true → 1 ≤ m + n
or_true true b m n ha hb h = omega (arith, ha refl)
or_true false b m n ha hb h = omega (arith, hb h)

mutual
  pub default_counts : (s : Stmt) → has_default s ≡ true → 1 ≤ defaults_of s
  default_counts (block os ss) h = defaults_count ss h
  default_counts (if_stmt e a b) h = or_true (has_default a) (has_default b) (defaults_of a) (defaults_of b) (default_counts a) (default_counts b) h
  default_counts (while e a) h = default_counts a h
  default_counts (do_while a e) h = default_counts a h
  default_counts (for_loop i c n a) h = default_counts a h
  default_counts (case z a) h = default_counts a h
  default_counts (default a) h = omega arith
  default_counts (label n a) h = default_counts a h
  default_counts (switch e a) h = absurd cc
  default_counts empty h = absurd cc
  default_counts (eval e) h = absurd cc
  default_counts (set_part i at e) h = absurd cc
  default_counts (clear i) h = absurd cc
  default_counts (goto n) h = absurd cc
  default_counts break h = absurd cc
  default_counts continue h = absurd cc
  default_counts (return e) h = absurd cc

  defaults_count : (ss : Stmts) → have_default ss ≡ true → 1 ≤ defaults_in ss
  defaults_count no_stmts h = absurd cc
  defaults_count (and_stmts a ss) h = or_true (has_default a) (have_default ss) (defaults_of a) (defaults_in ss) (default_counts a) (defaults_count ss) h

pub some_default : (n o : ℕ) → 1 ≤ n → 1 ≤ times_one n o o
some_default zero o le = absurd (omega arith)
some_default (suc n) o le = omega (arith, one_same o)
