use Rattle.std.proofs.Common.{◌≡◌, ℕ, List, [], ◌∷◌, ◌++◌, ◌+◌, ◌≤◌, ◌^◌, length, Some, false, sym, ap, ◌∙◌, subst, arith, length-append}
use Rattle.std.specs.List.{list_any}
use Rattle.c65_base.specs.Names.{IsDistinct, name_of, with_spelling}
use Rattle.c65_base.proofs.NameLaws.{at-name_of, with_known, with_new, distinct_more}
use Rattle.c65_base.proofs.Keys.{found, lacks, pushed, texts, stored, test, texts_length}
use Rattle.c65_asm.proofs.SymbolLaws.{symbol_is}
use Rattle.c65_asm.proofs.table.Table.symbol.Goals as goal

pub returns-in-Some-clause-symbol : goal.returns-in-Some-clause-symbol
returns-in-Some-clause-symbol c =
    let ks = c.self.inside.spellings.keys in
    let e = subst (λ (ns : List (List ℕ)). name_of ns c.args.spelling.now ≡ Some c.in-Some.at) c.self.view_is (at-name_of (texts ks) c.args.spelling.now c.in-Some.at c.self.invariant.1 (found ks c.args.spelling.now c.in-Some.at c.in-Some.ensures.index)) in
    symbol_is c.args.self.now c.args.spelling.now c.in-Some.at e

pub returns-in-Some-clause-table : goal.returns-in-Some-clause-table
returns-in-Some-clause-table c =
    let ks = c.self.inside.spellings.keys in
    let e = subst (λ (ns : List (List ℕ)). name_of ns c.args.spelling.now ≡ Some c.in-Some.at) c.self.view_is (at-name_of (texts ks) c.args.spelling.now c.in-Some.at c.self.invariant.1 (found ks c.args.spelling.now c.in-Some.at c.in-Some.ensures.index)) in
    sym (with_known c.args.self.now c.args.spelling.now c.in-Some.at e)

pub invariant_of-self-2 : goal.invariant_of-self-2
invariant_of-self-2 c =
    let ks = c.self.inside.spellings.keys in
    let none : list_any (test c.args.spelling.now) ks ≡ false = sym c.in_default.ensures.found in
    let e = pushed ks c.insert_full.new.self.keys c.in_ok-owned.owned c.args.spelling.now c.in_ok-owned.ensures.items none c.in_ok-at.ensures.keys in
    let d : IsDistinct (texts ks ++ c.args.spelling.now ∷ []) = distinct_more (texts ks) c.args.spelling.now c.self.invariant.1 (lacks ks c.args.spelling.now none) in
    let m : length (texts ks ++ c.args.spelling.now ∷ []) ≡ length ks + 1 = length-append (texts ks) (c.args.spelling.now ∷ []) ∙ omega (arith, texts_length ks) in
    let n : length c.insert_full.new.self.keys ≡ length ks + 1 = sym (texts_length c.insert_full.new.self.keys) ∙ ap (λ (ns : List (List ℕ)). length ns) e ∙ m in
    let o : length ks ≡ c.len.result = sym c.len.ensures.len in
    let p : length c.insert_full.new.self.keys ≤ 2 ^ 32 = omega (arith, c.self.invariant.0, n, o, c.if-len-eq4294967296.false) in
    (p, subst IsDistinct (sym e) d)

pub returns-clause-symbol : goal.returns-clause-symbol
returns-clause-symbol c =
    let k = c.in_ok-at.ensures.stored in
    let there = stored c.insert_full.new.self.keys c.args.spelling.now c.in_ok-owned.owned k.0 c.in_ok-at.at c.in_ok-owned.ensures.items k.1 k.2 in
    symbol_is (texts c.insert_full.new.self.keys) c.args.spelling.now c.in_ok-at.at (at-name_of (texts c.insert_full.new.self.keys) c.args.spelling.now c.in_ok-at.at (invariant_of-self-2 c).1 there)

pub returns-clause-table : goal.returns-clause-table
returns-clause-table c =
    let ks = c.self.inside.spellings.keys in
    let none : list_any (test c.args.spelling.now) ks ≡ false = sym c.in_default.ensures.found in
    let e = pushed ks c.insert_full.new.self.keys c.in_ok-owned.owned c.args.spelling.now c.in_ok-owned.ensures.items none c.in_ok-at.ensures.keys in
    subst (λ (ns : List (List ℕ)). texts c.insert_full.new.self.keys ≡ with_spelling ns c.args.spelling.now) c.self.view_is
    (e ∙ sym (with_new (texts ks) c.args.spelling.now (lacks ks c.args.spelling.now none)))
