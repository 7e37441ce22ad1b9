-- The lines of statements: the labels that they put, and where they lead.
use Rattle.std.proofs.Common.{◌≡◌, ℕ, suc, ◌+◌, ◌%◌, ◌≤◌, Bool, true, false, ℤ, List, [], ◌∷◌, length, refl, sym, ap, arith}
use Rattle.std.specs.Prelude.{if◌then◌else◌, Contains}
use Rattle.std.specs.List.{list_all}
use Rattle.std.proofs.lemmas.Bool.{and_from}
use Rattle.c65_csem.specs.Trees.{Typed, MaybeTyped, absent, present, Stmt, empty, eval, set_part, clear, block, if_stmt, while, do_while, for_loop, switch, case, default, label, goto, break, continue, return, Stmts, no_stmts, and_stmts, UnitTy}
use Rattle.c65_csem.specs.Places.{is_tag}
use Rattle.c65_csem.specs.Statements.{cases_of, defaults_of, Context, looping, switching, IsStmt, AreStmts}
use Rattle.c65_mach.specs.declared.rows.Op.TheVariants.{Sta, Stx}
use Rattle.c65_code.specs.declared.line.Line.{Line}
use Rattle.c65_code.specs.declared.line.Line.TheVariants.{Label}
use Rattle.c65_code.specs.declared.routine.Width.{Width}
use Rattle.c65_code.specs.declared.routine.Width.TheVariants.{Ax, Eax}
use Rattle.c65_code.specs.Segments.{Drafted, targets_of}
use Rattle.c65_genframe.specs.Frames.{Framed, type_bytes}
use Rattle.c65_genwide.specs.Lines.{with_lines}
use Rattle.c65_genwide.specs.Wide.{width_of}
use Rattle.c65_genload.specs.Conversions.{size_of}
use Rattle.c65_genload.specs.declared.places.Access.TheVariants.{Whole}
use Rattle.c65_genexpr.specs.Types.{kind_in, bare}
use Rattle.c65_genentry.specs.Drafts.{with_labels}
use Rattle.c65_genentry.specs.Words.{ptr1, ptr2, zero_page, with_code}
use Rattle.c65_genentry.specs.Bytes.{block_labels}
use Rattle.c65_genentry.specs.Bytes as blocks
use Rattle.c65_genentry.specs.Pointers as pointers
use Rattle.c65_genentry.specs.Choice.{bits_of, test_code, case_code, case_codes, by_bytes, byte_tests, byte_choice}
use Rattle.c65_genstmt.specs.declared.jumps.Ways.{Ways}
use Rattle.c65_genstmt.specs.declared.objects.Spot.{Spot}
use Rattle.c65_genstmt.specs.declared.objects.Spot.TheVariants.{Bank, Soft, Data}
use Rattle.c65_genstmt.specs.Jumps.{following, with_value, with_test}
use Rattle.c65_genstmt.specs.Objects.{spot_of, object_bytes, point_code, stored_code, with_copied, with_kept, with_set, with_zeros}
use Rattle.c65_genstmt.specs.Cases.{has_default}
use Rattle.c65_genstmt.specs.Stmts.{case_behind, with_label, with_jump, two_given, three_given, with_maybe, with_effects, with_guard, ways, default_way, with_stmt, with_stmts, with_last, with_lasts, is_empty, with_way, with_cases}
use Rattle.c65_gen_law_lines.specs.Labels.{times, is_within, among}
use Rattle.c65_gen_law_lines.proofs.Made.{is_early, times-append, within, within_wider, among_inside, among_split, among_none, among_one, all_append}
use Rattle.c65_gen_law_lines.proofs.Flat.{Flat, point_flat, stored_flat, bank_clear_flat, clear_own, copy_own}
use Rattle.c65_gen_law_lines.proofs.Puts.{one, below_next, below_more, one_same, Puts, no_others, Free, Passes, puts_same, puts_then, puts_end, two_labels, three_labels, puts_flat, puts_label, puts_jump, puts_own, puts_value, puts_effect, puts_test, arrives_append}
use Rattle.c65_gen_law_lines.proofs.Others.{names, others, others_in, laid, others_are, laid_among, few_defaults, default_counts, some_default}

-- ---- objects

copied_puts : (spot : Spot) (bytes : ℕ) (d : Drafted) → Puts d (with_copied spot bytes d) no_others Free
copied_puts spot bytes d =
    let a : Drafted = with_lines d (zero_page Sta ptr1 ∷ zero_page Stx (ptr1 + 1) ∷ []) in
    let b : Drafted = with_lines a (point_code ptr2 spot) in
    let first : Puts d a no_others Free = puts_flat d (zero_page Sta ptr1 ∷ zero_page Stx (ptr1 + 1) ∷ []) (record { plain = refl; fit = refl }) in
    let second : Puts a b no_others Free = puts_flat a (point_code ptr2 spot) (point_flat ptr2 spot) in
    puts_end (puts_then first (puts_then second (puts_own b (block_labels (bytes % 65536)) (blocks.copy_code (bytes % 65536) d.labels) (copy_own (bytes % 65536) d.labels)))) (λ x. omega arith) (λ ok ex. (tt, (tt, tt)))

kept_puts : (tagged : Bool) (f : Framed) (spot : Spot) (e : Typed) (d : Drafted) → Puts d (with_kept tagged f spot e d) no_others Free
kept_puts true f spot e d = copied_puts spot (type_bytes f (bare e)) d
kept_puts false f spot e d = puts_flat d (stored_code spot (Whole (kind_in e)) (size_of (kind_in e))) (stored_flat spot (Whole (kind_in e)) (size_of (kind_in e)))

pub set_puts : (f : Framed) (i offset : ℕ) (e : Typed) (d : Drafted) → Puts d (with_set f i offset e d) no_others Free
set_puts f i offset e d = puts_end (puts_then (puts_value f e d) (kept_puts (is_tag (bare e)) f (spot_of f i offset) e (with_value f e d))) (λ x. omega arith) (λ ok ex. (tt, tt))

cleared_puts : (pointer : List Line) (bytes : ℕ) (d : Drafted) → Flat pointer → Puts d (with_code (block_labels bytes) (blocks.clear_code bytes d.labels) (with_lines d pointer)) no_others Free
cleared_puts pointer bytes d flat = puts_end (puts_then (puts_flat d pointer flat) (puts_own (with_lines d pointer) (block_labels bytes) (blocks.clear_code bytes d.labels) (clear_own bytes d.labels))) (λ x. omega arith) (λ ok ex. (tt, tt))

pub zeros_puts : (spot : Spot) (bytes : ℕ) (d : Drafted) → Puts d (with_zeros spot bytes d) no_others Free
zeros_puts (Bank bank) bytes d = puts_flat d (pointers.clear_code bank bytes) (bank_clear_flat bank bytes)
zeros_puts (Soft at) bytes d = cleared_puts (pointers.near_code ptr1 at) (bytes % 65536) d (point_flat ptr1 (Soft at))
zeros_puts (Data sym at) bytes d = cleared_puts (pointers.symbol_code ptr1 sym at) (bytes % 65536) d (point_flat ptr1 (Data sym at))

-- ---- the choice of a case

test_times : (w : Width) (bits other at x : ℕ) → times x (test_code w bits other at) ≡ 0
test_times Ax bits other at x = refl
test_times Eax bits other at x = refl

test_fit : (w : Width) (bits other at : ℕ) → list_all is_early (test_code w bits other at) ≡ true
test_fit Ax bits other at = refl
test_fit Eax bits other at = refl

test_leads : (ok : ℕ → Bool) (w : Width) (bits other at : ℕ) → ok other ≡ true → ok at ≡ true → list_all ok (targets_of (test_code w bits other at)) ≡ true
test_leads ok Ax bits other at first second = and_from (ok other) _ first (and_from (ok at) true second refl)
test_leads ok Eax bits other at first second = and_from (ok other) _ first (and_from (ok other) _ first (and_from (ok other) _ first (and_from (ok at) true second refl)))

cases_times : (w : Width) (at l : ℕ) (zs : List ℤ) (x : ℕ) → times x (case_codes w at l zs) ≡ among l (length zs) x
cases_times w at l [] x = sym (among_none l x)
cases_times w at l (z ∷ zs) x =
    let n : suc (length zs) ≡ 1 + length zs = omega arith in
    let sum : among l (suc (length zs)) x ≡ among l (1 + length zs) x = ap (λ k. among l k x) n in
    omega (arith, sum, times-append x (case_code w z at l) (case_codes w ((at + 1) % 4294967296) (l + 1) zs), times-append x (test_code w (bits_of z) l at) (Label l ∷ []), test_times w (bits_of z) l at x, cases_times w ((at + 1) % 4294967296) (l + 1) zs x, among_split l 1 (length zs) x, among_one l x)

cases_fit : (w : Width) (at l : ℕ) (zs : List ℤ) → list_all is_early (case_codes w at l zs) ≡ true
cases_fit w at l [] = refl
cases_fit w at l (z ∷ zs) = all_append is_early (case_code w z at l) _ (all_append is_early (test_code w (bits_of z) l at) (Label l ∷ []) (test_fit w (bits_of z) l at) refl) (cases_fit w ((at + 1) % 4294967296) (l + 1) zs)

-- the labels of cases pass a test
abbrev pub CasesPass : ℕ → ℕ → (ℕ → Bool) → Type 0
CasesPass l n ok = (x : ℕ) → 1 ≤ laid l n x → ok x ≡ true

cases_lead : (ok : ℕ → Bool) (w : Width) (at l : ℕ) (zs : List ℤ) → CasesPass at (length zs) ok → ((x : ℕ) → is_within l (length zs) x ≡ true → ok x ≡ true) → list_all ok (targets_of (case_codes w at l zs)) ≡ true
cases_lead ok w at l [] cases labels = refl
cases_lead ok w at l (z ∷ zs) cases labels =
    let here : ok l ≡ true = labels l (within l (suc (length zs)) l (omega arith) (omega arith)) in
    let there : ok at ≡ true = cases at (omega (arith, one_same at)) in
    let rest : list_all ok (targets_of (case_codes w ((at + 1) % 4294967296) (l + 1) zs)) ≡ true = cases_lead ok w ((at + 1) % 4294967296) (l + 1) zs (λ x h. cases x (omega (arith, h))) (λ x h. labels x (within_wider (l + 1) (length zs) l (suc (length zs)) x (omega arith) (omega arith) h)) in
    arrives_append ok (case_code w z at l) (case_codes w ((at + 1) % 4294967296) (l + 1) zs) (arrives_append ok (test_code w (bits_of z) l at) (Label l ∷ []) (test_leads ok w (bits_of z) l at here there) refl) rest

bytes_times : (at : ℕ) (zs : List ℤ) (x : ℕ) → times x (byte_tests at zs) ≡ 0
bytes_times at [] x = refl
bytes_times at (z ∷ zs) x = bytes_times ((at + 1) % 4294967296) zs x

bytes_fit : (at : ℕ) (zs : List ℤ) → list_all is_early (byte_tests at zs) ≡ true
bytes_fit at [] = refl
bytes_fit at (z ∷ zs) = bytes_fit ((at + 1) % 4294967296) zs

bytes_lead : (ok : ℕ → Bool) (at : ℕ) (zs : List ℤ) → CasesPass at (length zs) ok → list_all ok (targets_of (byte_tests at zs)) ≡ true
bytes_lead ok at [] cases = refl
bytes_lead ok at (z ∷ zs) cases = and_from (ok at) _ (cases at (omega (arith, one_same at))) (bytes_lead ok ((at + 1) % 4294967296) zs (λ x h. cases x (omega (arith, h))))

-- the labels of the cases, and that to which it goes where there is none
abbrev pub ChoicePasses : ℕ → ℕ → ℕ → (ℕ → Bool) → Type 0
ChoicePasses other at n ok = (ok other ≡ true) × CasesPass at n ok

pub choice_puts : (w : Width) (other at : ℕ) (zs : List ℤ) (d : Drafted) → Puts d (with_cases w other at zs d) no_others (ChoicePasses other at (length zs))
choice_puts w other at zs d = by (by_bytes w zs)
  where
    by : (b : Bool) → Puts d (with_code (if b then 0 else length zs) (if b then byte_choice other at zs else case_codes w at d.labels zs) d) no_others (ChoicePasses other at (length zs))
    by true = record {
      grows = omega arith;
      most = λ x. omega (arith, times-append x d.lines (byte_choice other at zs), bytes_times at zs x, below_more d.labels 0 x);
      least = λ x. omega (arith, times-append x d.lines (byte_choice other at zs));
      fit = λ h. all_append is_early d.lines (byte_choice other at zs) h (bytes_fit at zs);
      leads = λ ok ex covers h. arrives_append ok d.lines (byte_choice other at zs) h (and_from (ok other) _ ex.0 (bytes_lead ok at zs ex.1));
    }
    by false = record {
      grows = omega arith;
      most = λ x. omega (arith, times-append x d.lines (case_codes w at d.labels zs), cases_times w at d.labels zs x, below_more d.labels (length zs) x);
      least = λ x. omega (arith, times-append x d.lines (case_codes w at d.labels zs));
      fit = λ h. all_append is_early d.lines (case_codes w at d.labels zs) h (cases_fit w at d.labels zs);
      leads = λ ok ex covers h. arrives_append ok d.lines (case_codes w at d.labels zs) h (cases_lead ok w at d.labels zs ex.1 (λ x inside. covers x (omega (arith, times-append x d.lines (case_codes w at d.labels zs), cases_times w at d.labels zs x, among_inside d.labels (length zs) x inside))));
    }

-- ---- statements

pub maybe_puts : (f : Framed) (e : MaybeTyped) (d : Drafted) → Puts d (with_maybe f e d) no_others Free
maybe_puts f absent d = puts_same d
maybe_puts f (present e) d = puts_value f e d

pub effects_puts : (f : Framed) (e : MaybeTyped) (d : Drafted) → Puts d (with_effects f e d) no_others Free
effects_puts f absent d = puts_same d
effects_puts f (present e) d = puts_effect f e d

pub guard_puts : (f : Framed) (to : ℕ) (e : MaybeTyped) (d : Drafted) → Puts d (with_guard f to e d) no_others (Passes to)
guard_puts f to absent d = puts_end (puts_same d) (λ x. refl) (λ ok ex. tt)
guard_puts f to (present e) d = puts_test f to false e d

pub way_puts : (at : Bool) (d : Drafted) (l : ℕ) → Puts d (with_way at l d) no_others (Passes l)
way_puts true d l = puts_end (puts_same d) (λ x. refl) (λ ok ex. tt)
way_puts false d l = puts_jump d l

-- the labels to which a statement may lead: where its jumps go, the end of the function, and labels of the function
pub record Exits (w : Ways) (labels : List ℕ) (ok : ℕ → Bool) : Type 0 where
  pub behind : ok w.behind ≡ true
  pub onward : ok w.onward ≡ true
  pub ending : ok 0 ≡ true
  pub gotos : (n : ℕ) → Contains labels n → ok (following n) ≡ true

through : {w : Ways} {labels : List ℕ} {ok : ℕ → Bool} (behind onward other : ℕ) → ok behind ≡ true → ok onward ≡ true → Exits w labels ok → Exits (ways behind onward other) labels ok
through behind onward other first second ex = record { behind = first; onward = second; ending = ex.ending; gotos = ex.gotos }

default_passes : (a : Stmt) (end : ℕ) (ok : ℕ → Bool) (b : Bool) → has_default a ≡ b → ok end ≡ true → (1 ≤ defaults_of a → ok (end + 1) ≡ true) → ok (if b then end + 1 else end) ≡ true
default_passes a end ok true h first second = second (default_counts a h)
default_passes a end ok false h first second = first

-- the labels of a switch, its default and its cases, given before its body
switch_labels : (d e : Drafted) (a : Stmt) (m : ℕ → ℕ) (E F : (ℕ → Bool) → Type 0) → Puts (with_labels (length (cases_of a)) (two_given d)) e m E → ((x : ℕ) → m x ≡ others (d.labels + 1) (d.labels + 1 + 1) a x + one d.labels x) → defaults_of a ≤ 1 → e.labels ≤ 4294967296
    → ((ok : ℕ → Bool) → ok d.labels ≡ true → (1 ≤ defaults_of a → ok (d.labels + 1) ≡ true) → CasesPass (d.labels + 1 + 1) (length (cases_of a)) ok → F ok → E ok) → Puts d e (λ x. names x a) F
switch_labels d e a m E F p same single few exits = record {
  grows = omega (arith, p.grows);
  most = λ x. omega (arith, p.most x, same x, below_next d.labels x, below_next (d.labels + 1) x, below_more (d.labels + 1 + 1) (length (cases_of a)) x, others_are (d.labels + 1) (d.labels + 1 + 1) a x, laid_among (d.labels + 1 + 1) (length (cases_of a)) x room, few_defaults (defaults_of a) (d.labels + 1) x single);
  least = λ x. omega (arith, p.least x, same x, others_are (d.labels + 1) (d.labels + 1 + 1) a x);
  fit = p.fit;
  leads = λ ok ex covers h.
      let first : ok d.labels ≡ true = covers d.labels (omega (arith, p.least d.labels, same d.labels, one_same d.labels)) in
      let second : 1 ≤ defaults_of a → ok (d.labels + 1) ≡ true = λ some. covers (d.labels + 1) (omega (arith, p.least (d.labels + 1), same (d.labels + 1), others_are (d.labels + 1) (d.labels + 1 + 1) a (d.labels + 1), some_default (defaults_of a) (d.labels + 1) some)) in
      let third : CasesPass (d.labels + 1 + 1) (length (cases_of a)) ok = λ x put. covers x (omega (arith, put, p.least x, same x, others_are (d.labels + 1) (d.labels + 1 + 1) a x)) in
      p.leads ok (exits ok first second third ex) covers h;
}
  where
    room : d.labels + 1 + 1 + length (cases_of a) ≤ 4294967296
    room = omega (arith, p.grows, few)

mutual
  -- where there are few enough labels
  pub stmt_puts : (u : UnitTy) (c : Context) (f : Framed) (w : Ways) (l : ℕ) (s : Stmt) (d : Drafted) → IsStmt u c s → (with_stmt f w l s d).labels ≤ 4294967296 → Puts d (with_stmt f w l s d) (others w.other l s) (Exits w c.labels)
  stmt_puts u c f w l empty d h few = puts_end (puts_same d) (λ x. refl) (λ ok ex. tt)
  stmt_puts u c f w l (eval e) d h few = puts_end (puts_effect f e d) (λ x. refl) (λ ok ex. tt)
  stmt_puts u c f w l (set_part i o e) d h few = puts_end (set_puts f i o e d) (λ x. refl) (λ ok ex. tt)
  stmt_puts u c f w l (clear i) d h few = puts_end (zeros_puts (spot_of f i 0) (object_bytes f i) d) (λ x. refl) (λ ok ex. tt)
  stmt_puts u c f w l (block os ss) d h few = stmts_puts u c f w l ss d h.1 few
  stmt_puts u c f w l (if_stmt e a b) d h few =
      let m1 : Drafted = with_test f d.labels false e (two_given d) in
      let m2 : Drafted = with_stmt f w l a m1 in
      let m3 : Drafted = with_way (is_empty b) (d.labels + 1) m2 in
      let m4 : Drafted = with_label d.labels m3 in
      let m5 : Drafted = with_stmt f w (case_behind l a) b m4 in
      let second : Puts m4 m5 (others w.other (case_behind l a) b) (Exits w c.labels) = stmt_puts u c f w (case_behind l a) b m4 h.2 few in
      let first : Puts m1 m2 (others w.other l a) (Exits w c.labels) = stmt_puts u c f w l a m1 h.1 (omega (arith, second.grows, (way_puts (is_empty b) m2 (d.labels + 1)).grows, few)) in
      two_labels (puts_then (puts_test f d.labels false e (two_given d)) (puts_then first (puts_then (way_puts (is_empty b) m2 (d.labels + 1)) (puts_then (puts_label m3 d.labels) (puts_then second (puts_label m5 (d.labels + 1)))))))
      (λ x. omega arith) (λ ok one two ex. (one, (ex, (two, (tt, (ex, tt))))))
  stmt_puts u c f w l (while e a) d h few =
      let m1 : Drafted = with_label d.labels (two_given d) in
      let m2 : Drafted = with_test f (d.labels + 1) false e m1 in
      let inner : Ways = ways (d.labels + 1) d.labels w.other in
      let m3 : Drafted = with_stmt f inner l a m2 in
      let m4 : Drafted = with_jump d.labels m3 in
      let body : Puts m2 m3 (others w.other l a) (Exits inner c.labels) = stmt_puts u (looping c) f inner l a m2 h.1 few in
      two_labels (puts_then (puts_label (two_given d) d.labels) (puts_then (puts_test f (d.labels + 1) false e m1) (puts_then body (puts_then (puts_jump m3 d.labels) (puts_label m4 (d.labels + 1))))))
      (λ x. omega arith) (λ ok one two ex. (tt, (two, (through (d.labels + 1) d.labels w.other two one ex, (one, tt)))))
  stmt_puts u c f w l (do_while a e) d h few =
      let m1 : Drafted = with_label d.labels (three_given d) in
      let inner : Ways = ways (d.labels + 1 + 1) (d.labels + 1) w.other in
      let m2 : Drafted = with_stmt f inner l a m1 in
      let m3 : Drafted = with_label (d.labels + 1) m2 in
      let m4 : Drafted = with_test f d.labels true e m3 in
      let test : Puts m3 m4 no_others (Passes d.labels) = puts_test f d.labels true e m3 in
      let body : Puts m1 m2 (others w.other l a) (Exits inner c.labels) = stmt_puts u (looping c) f inner l a m1 h.0 (omega (arith, test.grows, few)) in
      three_labels (puts_then (puts_label (three_given d) d.labels) (puts_then body (puts_then (puts_label m2 (d.labels + 1)) (puts_then test (puts_label m4 (d.labels + 1 + 1))))))
      (λ x. omega arith) (λ ok one two three ex. (tt, (through (d.labels + 1 + 1) (d.labels + 1) w.other three two ex, (tt, (one, tt)))))
  stmt_puts u c f w l (for_loop i t n a) d h few =
      let g : Drafted = with_effects f i d in
      let m1 : Drafted = with_label g.labels (three_given g) in
      let m2 : Drafted = with_guard f (g.labels + 1 + 1) t m1 in
      let inner : Ways = ways (g.labels + 1 + 1) (g.labels + 1) w.other in
      let m3 : Drafted = with_stmt f inner l a m2 in
      let m4 : Drafted = with_label (g.labels + 1) m3 in
      let m5 : Drafted = with_effects f n m4 in
      let m6 : Drafted = with_jump g.labels m5 in
      let next : Puts m4 m5 no_others Free = effects_puts f n m4 in
      let body : Puts m2 m3 (others w.other l a) (Exits inner c.labels) = stmt_puts u (looping c) f inner l a m2 h.3 (omega (arith, next.grows, few)) in
      let loop : Puts g (with_label (g.labels + 1 + 1) m6) (others w.other l a) (Exits w c.labels) =
      three_labels (puts_then (puts_label (three_given g) g.labels) (puts_then (guard_puts f (g.labels + 1 + 1) t m1) (puts_then body (puts_then (puts_label m3 (g.labels + 1)) (puts_then next (puts_then (puts_jump m5 g.labels) (puts_label m6 (g.labels + 1 + 1))))))))
      (λ x. omega arith) (λ ok one two three ex. (tt, (three, (through (g.labels + 1 + 1) (g.labels + 1) w.other three two ex, (tt, (tt, (one, tt))))))) in
      puts_end (puts_then (effects_puts f i d) loop) (λ x. omega arith) (λ ok ex. (tt, ex))
  stmt_puts u c f w l (switch e a) d h few =
      let cases : List ℤ = cases_of a in
      let m0 : Drafted = with_labels (length cases) (two_given d) in
      let g : Drafted = with_value f e m0 in
      let m1 : Drafted = with_cases (width_of (kind_in e)) (default_way a d.labels) (d.labels + 1 + 1) cases g in
      let m2 : Drafted = with_jump (default_way a d.labels) m1 in
      let inner : Ways = ways d.labels w.onward (d.labels + 1) in
      let m3 : Drafted = with_stmt f inner (d.labels + 1 + 1) a m2 in
      let body : Puts m2 m3 (others (d.labels + 1) (d.labels + 1 + 1) a) (Exits inner c.labels) = stmt_puts u (switching h.0 c) f inner (d.labels + 1 + 1) a m2 h.2 few in
      switch_labels d (with_label d.labels m3) a _ _ (Exits w c.labels)
      (puts_then (puts_value f e m0) (puts_then (choice_puts (width_of (kind_in e)) (default_way a d.labels) (d.labels + 1 + 1) cases g) (puts_then (puts_jump m1 (default_way a d.labels)) (puts_then body (puts_label m3 d.labels)))))
      (λ x. omega arith) h.1.one_default few
      (λ ok first second third ex. (tt, ((default_passes a d.labels ok (has_default a) refl first second, third), (default_passes a d.labels ok (has_default a) refl first second, (through d.labels w.onward (d.labels + 1) first ex.onward ex, tt)))))
  stmt_puts u c f w l (case z a) d h few = puts_end (puts_then (puts_label d l) (stmt_puts u c f w (following l) a (with_label l d) h.1 few)) (λ x. refl) (λ ok ex. (tt, ex))
  stmt_puts u c f w l (default a) d h few = puts_end (puts_then (puts_label d w.other) (stmt_puts u c f w l a (with_label w.other d) h.1 few)) (λ x. refl) (λ ok ex. (tt, ex))
  stmt_puts u c f w l (label n a) d h few = puts_end (puts_then (puts_label d (following n)) (stmt_puts u c f w l a (with_label (following n) d) h few)) (λ x. refl) (λ ok ex. (tt, ex))
  stmt_puts u c f w l (goto n) d h few = puts_end (puts_jump d (following n)) (λ x. refl) (λ ok ex. ex.gotos n h)
  stmt_puts u c f w l break d h few = puts_end (puts_jump d w.behind) (λ x. refl) (λ ok ex. ex.behind)
  stmt_puts u c f w l continue d h few = puts_end (puts_jump d w.onward) (λ x. refl) (λ ok ex. ex.onward)
  stmt_puts u c f w l (return e) d h few = puts_end (puts_then (maybe_puts f e d) (puts_jump (with_maybe f e d) 0)) (λ x. omega arith) (λ ok ex. (tt, ex.ending))

  pub stmts_puts : (u : UnitTy) (c : Context) (f : Framed) (w : Ways) (l : ℕ) (ss : Stmts) (d : Drafted) → AreStmts u c ss → (with_stmts f w l ss d).labels ≤ 4294967296 → Puts d (with_stmts f w l ss d) (others_in w.other l ss) (Exits w c.labels)
  stmts_puts u c f w l no_stmts d h few = puts_end (puts_same d) (λ x. refl) (λ ok ex. tt)
  stmts_puts u c f w l (and_stmts a ss) d h few =
      let m : Drafted = with_stmt f w l a d in
      let rest : Puts m (with_stmts f w (case_behind l a) ss m) (others_in w.other (case_behind l a) ss) (Exits w c.labels) = stmts_puts u c f w (case_behind l a) ss m h.1 few in
      puts_end (puts_then (stmt_puts u c f w l a d h.0 (omega (arith, rest.grows, few))) rest) (λ x. refl) (λ ok ex. (ex, ex))

-- ---- what stands last

mutual
  pub last_puts : (u : UnitTy) (c : Context) (f : Framed) (w : Ways) (l : ℕ) (s : Stmt) (d : Drafted) → IsStmt u c s → (with_last f w l s d).labels ≤ 4294967296 → Puts d (with_last f w l s d) (others w.other l s) (Exits w c.labels)
  last_puts u c f w l (block os ss) d h few = lasts_puts u c f w l ss d h.1 few
  last_puts u c f w l (return e) d h few = puts_end (maybe_puts f e d) (λ x. refl) (λ ok ex. tt)
  last_puts u c f w l a d h few = stmt_puts u c f w l a d h few

  lasts_puts : (u : UnitTy) (c : Context) (f : Framed) (w : Ways) (l : ℕ) (ss : Stmts) (d : Drafted) → AreStmts u c ss → (with_lasts f w l ss d).labels ≤ 4294967296 → Puts d (with_lasts f w l ss d) (others_in w.other l ss) (Exits w c.labels)
  lasts_puts u c f w l no_stmts d h few = puts_end (puts_same d) (λ x. refl) (λ ok ex. tt)
  lasts_puts u c f w l (and_stmts a no_stmts) d h few = puts_end (last_puts u c f w l a d h.0 few) (λ x. omega arith) (λ ok ex. ex)
  lasts_puts u c f w l (and_stmts a (and_stmts b ss)) d h few =
      let m : Drafted = with_stmt f w l a d in
      let rest : Puts m (with_lasts f w (case_behind l a) (and_stmts b ss) m) (others_in w.other (case_behind l a) (and_stmts b ss)) (Exits w c.labels) = lasts_puts u c f w (case_behind l a) (and_stmts b ss) m h.1 few in
      puts_end (puts_then (stmt_puts u c f w l a d h.0 (omega (arith, rest.grows, few))) rest) (λ x. omega arith) (λ ok ex. (ex, ex))
