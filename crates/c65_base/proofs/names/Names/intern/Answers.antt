use Rattle.std.proofs.lemmas.Result.{err_from_is_err_and}
use Rattle.std.proofs.Common.{◌≡◌, ℕ, List, [], ◌∷◌, ◌++◌, ◌+◌, ◌≤◌, length, Some, None, false, sym, ap, ◌∙◌, subst, arith, refl, length-append}
use Rattle.std.specs.Prelude.{slice_get}
use Rattle.std.specs.List.{list_any}
use Rattle.c65_base.specs.Names.{IsDistinct, Lacks, name_of, with_spelling}
use Rattle.c65_base.proofs.NameLaws.{at-name_of, with_known, with_new, distinct_more}
use Rattle.c65_base.proofs.Keys.{found, lacks, pushed, texts, stored, test, texts_length}
use Rattle.c65_base.proofs.names.Names.intern.Goals as goal

pub returns-in-Some-clause-known : goal.returns-in-Some-clause-known
returns-in-Some-clause-known c =
    subst (λ (ns : List (List ℕ)). slice_get ns c.in-Some.at ≡ Some c.args.spelling.now) c.self.view_is (found c.self.inside.spellings.keys c.args.spelling.now c.in-Some.at c.in-Some.ensures.index)

pub returns-in-Some-clause-name : goal.returns-in-Some-clause-name
returns-in-Some-clause-name c =
    let ks = c.self.inside.spellings.keys in
    subst (λ (ns : List (List ℕ)). name_of ns c.args.spelling.now ≡ Some c.in-Some.at) c.self.view_is (at-name_of (texts ks) c.args.spelling.now c.in-Some.at c.self.invariant.1 (found ks c.args.spelling.now c.in-Some.at c.in-Some.ensures.index))

pub returns-in-Some-clause-table : goal.returns-in-Some-clause-table
returns-in-Some-clause-table c = sym (with_known c.args.self.now c.args.spelling.now c.in-Some.at (returns-in-Some-clause-name c))

pub returns-in-Some-clause-room : goal.returns-in-Some-clause-room
returns-in-Some-clause-room c = λ l.
    let e : None ≡ Some c.in-Some.at = sym l ∙ returns-in-Some-clause-name c in absurd cc

pub returns-then-count-number-clause-refused : goal.returns-then-count-number-clause-refused
returns-then-count-number-clause-refused c =
    let ks = c.self.inside.spellings.keys in
    let none : list_any (test c.args.spelling.now) ks ≡ false = sym c.in_default.ensures.found in
    let n : length ks ≡ 65535 = sym c.len-count.ensures.len ∙ c.if-count-number.true ∙ c.number.ensures in
    let l : Lacks c.args.self.now c.args.spelling.now = subst (λ (ns : List (List ℕ)). Lacks ns c.args.spelling.now) c.self.view_is (lacks ks c.args.spelling.now none) in
    (refl, ap (λ (k : ℕ). k + 1) (c.if-count-number.true ∙ c.number.ensures), l, ap (λ (ns : List (List ℕ)). length ns) (sym c.self.view_is) ∙ texts_length ks ∙ n)

pub returns-in_err-owned-clause-refused : goal.returns-in_err-owned-clause-refused
returns-in_err-owned-clause-refused c =
    let p = err_from_is_err_and c.from_residual.result c.from_residual.ensures.1 in
    let ks = c.self.inside.spellings.keys in
    let none : list_any (test c.args.spelling.now) ks ≡ false = sym c.in_default.ensures.found in
    let l : Lacks c.args.self.now c.args.spelling.now = subst (λ (ns : List (List ℕ)). Lacks ns c.args.spelling.now) c.self.view_is (lacks ks c.args.spelling.now none) in
    let n : length c.args.self.now ≡ length ks = ap (λ (ns : List (List ℕ)). length ns) (sym c.self.view_is) ∙ texts_length ks in
    rw (p.1, p.2) (l, omega (arith, n, c.self.invariant.0, c.len-count.ensures.len, c.number.ensures, c.if-count-number.false))

pub returns-in_err-at-clause-refused : goal.returns-in_err-at-clause-refused
returns-in_err-at-clause-refused c =
    let p = err_from_is_err_and c.from_residual-in_err-at.result c.from_residual-in_err-at.ensures.1 in
    let ks = c.self.inside.spellings.keys in
    let none : list_any (test c.args.spelling.now) ks ≡ false = sym c.in_default.ensures.found in
    let l : Lacks c.args.self.now c.args.spelling.now = subst (λ (ns : List (List ℕ)). Lacks ns c.args.spelling.now) c.self.view_is (lacks ks c.args.spelling.now none) in
    let n : length c.args.self.now ≡ length ks = ap (λ (ns : List (List ℕ)). length ns) (sym c.self.view_is) ∙ texts_length ks in
    rw (p.1, p.2) (l, omega (arith, n, c.self.invariant.0, c.len-count.ensures.len, c.number.ensures, c.if-count-number.false))

pub returns-clause-known : goal.returns-clause-known
returns-clause-known c =
    let k = c.in_ok-at.ensures.stored in
    stored c.insert_full.new.self.keys c.args.spelling.now c.in_ok-owned.owned k.0 c.in_ok-at.at c.in_ok-owned.ensures.items k.1 k.2

pub invariant_of-self-2 : goal.invariant_of-self-2
invariant_of-self-2 c =
    let ks = c.self.inside.spellings.keys in
    let none : list_any (test c.args.spelling.now) ks ≡ false = sym c.in_default.ensures.found in
    let e = pushed ks c.insert_full.new.self.keys c.in_ok-owned.owned c.args.spelling.now c.in_ok-owned.ensures.items none c.in_ok-at.ensures.keys in
    let d : IsDistinct (texts ks ++ c.args.spelling.now ∷ []) = distinct_more (texts ks) c.args.spelling.now c.self.invariant.1 (lacks ks c.args.spelling.now none) in
    let m : length (texts ks ++ c.args.spelling.now ∷ []) ≡ length ks + 1 = length-append (texts ks) (c.args.spelling.now ∷ []) ∙ omega (arith, texts_length ks) in
    let n : length c.insert_full.new.self.keys ≡ length ks + 1 = sym (texts_length c.insert_full.new.self.keys) ∙ ap (λ (ns : List (List ℕ)). length ns) e ∙ m in
    let o : length ks ≡ c.len-count.result = sym c.len-count.ensures.len in
    let p : length c.insert_full.new.self.keys ≤ 65535 = omega (arith, c.self.invariant.0, n, o, c.number.ensures, c.if-count-number.false) in
    (p, subst IsDistinct (sym e) d)

pub returns-clause-name : goal.returns-clause-name
returns-clause-name c = at-name_of (texts c.insert_full.new.self.keys) c.args.spelling.now c.in_ok-at.at (invariant_of-self-2 c).1 (returns-clause-known c)

pub returns-clause-table : goal.returns-clause-table
returns-clause-table c =
    let ks = c.self.inside.spellings.keys in
    let none : list_any (test c.args.spelling.now) ks ≡ false = sym c.in_default.ensures.found in
    let e = pushed ks c.insert_full.new.self.keys c.in_ok-owned.owned c.args.spelling.now c.in_ok-owned.ensures.items none c.in_ok-at.ensures.keys in
    subst (λ (ns : List (List ℕ)). texts c.insert_full.new.self.keys ≡ with_spelling ns c.args.spelling.now) c.self.view_is
    (e ∙ sym (with_new (texts ks) c.args.spelling.now (lacks ks c.args.spelling.now none)))
