-- The lines of comparisons and of indexes, from those that one draft has behind another.
use Rattle.std.proofs.Common.{◌≡◌, ℕ, ◌+◌, Bool, false, Some, None, List, [], ◌∷◌, ◌++◌, refl, subst, ap, ◌∙◌, append_assoc, arith, Result, Ok, Err}
use Rattle.std.specs.Result.{OnOk}
use Rattle.c65_base.specs.declared.operators.BinaryOp.{BinaryOp}
use Rattle.c65_ctype.specs.Trees.{QTy}
use Rattle.c65_csem.specs.Trees.{Typed, node, binary}
use Rattle.c65_code.specs.Segments.{Drafted}
use Rattle.c65_code.specs.declared.line.Line.{Line}
use Rattle.c65_code.specs.declared.line.Line.TheVariants.{Label}
use Rattle.c65_genframe.specs.Frames.{Framed}
use Rattle.c65_genwide.specs.Lines.{grown, with_lines}
use Rattle.c65_gendirect.specs.Compare.{relation_of}
use Rattle.c65_gendirect.specs.Tests.{truth_code}
use Rattle.c65_gendirect.specs.declared.relation.Relation.{Relation}
use Rattle.c65_genexpr.specs.declared.wanted.Wanted.TheVariants.{Value, Test}
use Rattle.c65_genexpr.specs.Comparing.{relation_by}
use Rattle.c65_genexpr.specs.Uses.{uses, comparison_uses}
use Rattle.c65_genexpr.specs.Code.{expr_code, low_value_code, comparison_code}

-- a test
pub compared_test : {A E : Type 0} (r : Result A E) (g h : Drafted) (f : Framed) (pushed to : ℕ) (s : Bool) (op : BinaryOp) (q : Relation) (t : QTy) (a b : Typed) → relation_of op ≡ Some q
    → OnOk r (h ≡ grown g (comparison_code f pushed g.labels to s op q a b) (comparison_uses (relation_by s q) a b))
    → OnOk r (h ≡ grown g (expr_code f pushed g.labels (Test to s) (node t (binary op a b))) (uses (Some s) (node t (binary op a b))))
compared_test r g h f pushed to s op q t a b is on =
    let n : ℕ = comparison_uses (relation_by s q) a b in
    let same : g.labels ≡ g.labels + 0 = omega arith in
    let count : n ≡ 0 + n = omega arith in
    rw is
    (subst (λ (k : ℕ). OnOk r (h ≡ grown g (comparison_code f pushed k to s op q a b) (0 + n))) same
    (subst (λ (m : ℕ). OnOk r (h ≡ grown g (comparison_code f pushed g.labels to s op q a b) m)) count on))

-- a value
pub compared_value : {A E : Type 0} (r : Result A E) (d d1 d2 g : Drafted) (f : Framed) (pushed way : ℕ) (op : BinaryOp) (q : Relation) (t : QTy) (a b : Typed) → relation_of op ≡ Some q → way ≡ d.labels
    → d1 ≡ grown d [] 2
    → d2 ≡ grown d1 (comparison_code f pushed d1.labels way false op q a b) (comparison_uses (relation_by false q) a b)
    → OnOk r (g ≡ with_lines d2 (truth_code way))
    → OnOk r (g ≡ grown d (expr_code f pushed d.labels Value (node t (binary op a b))) (uses None (node t (binary op a b))))
compared_value (Err u) d d1 d2 g f pushed way op q t a b is own h1 h2 h3 = tt
compared_value (Ok u) d d1 d2 g f pushed way op q t a b is own h1 h2 h3 =
    let n : ℕ = comparison_uses (relation_by false q) a b in
    let lines : ℕ → ℕ → List Line = λ k l. comparison_code f pushed k l false op q a b in
    let c : List Line = lines (d.labels + 2) d.labels in
    let truth : List Line = truth_code d.labels in
    let count : d.labels + 2 + n ≡ d.labels + (2 + n) = omega arith in
    let all : g ≡ grown d (c ++ truth) (2 + n) =
    h3
    ∙ ap (λ (z : Drafted). with_lines z (truth_code way)) h2
    ∙ ap (λ (z : Drafted). with_lines (grown z (lines z.labels way) n) (truth_code way)) h1
    ∙ ap (λ (l : ℕ). with_lines (grown (grown d [] 2) (lines (d.labels + 2) l) n) (truth_code l)) own
    ∙ ap (λ (ls : List Line). record d { lines = ls; labels = d.labels + 2 + n }) (ap (λ (ls : List Line). ls ++ truth) (append_assoc d.lines [] c) ∙ append_assoc d.lines c truth)
    ∙ ap (λ (m : ℕ). record d { lines = d.lines ++ (c ++ truth); labels = m }) count
    in
    rw is all

-- an index, behind the label of its sum
pub sum_index_lines : {A E : Type 0} (r : Result A E) (d e g : Drafted) (f : Framed) (pushed : ℕ) (i : Typed)
    → e ≡ grown d (Label d.labels ∷ []) 1
    → OnOk r (g ≡ grown e (low_value_code f pushed e.labels i) (uses None i))
    → OnOk r (g ≡ grown d (Label d.labels ∷ low_value_code f pushed (d.labels + 1) i) (1 + uses None i))
sum_index_lines (Err u) d e g f pushed i h1 h2 = tt
sum_index_lines (Ok u) d e g f pushed i h1 h2 =
    let n : ℕ = uses None i in
    let lines : ℕ → List Line = λ k. low_value_code f pushed k i in
    let count : d.labels + 1 + n ≡ d.labels + (1 + n) = omega arith in
    h2
    ∙ ap (λ (z : Drafted). grown z (lines z.labels) n) h1
    ∙ ap (λ (ls : List Line). record d { lines = ls; labels = d.labels + 1 + n }) (append_assoc d.lines (Label d.labels ∷ []) (lines (d.labels + 1)))
    ∙ ap (λ (m : ℕ). record d { lines = d.lines ++ (Label d.labels ∷ lines (d.labels + 1)); labels = m }) count
