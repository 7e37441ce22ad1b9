-- What a draft keeps, step by step, where labels are given too.
use Rattle.std.proofs.Common.{◌≡◌, ℕ, ◌+◌, List, ◌++◌, ap, ◌∙◌, append_assoc, add_assoc, refl, Result, Ok, Err}
use Rattle.std.specs.Result.{OnErr}
use Rattle.c65_code.specs.declared.line.Line.{Line}
use Rattle.c65_code.specs.Segments.{Drafted}
use Rattle.c65_genwide.specs.Lines.{with_lines, Keeps}
use Rattle.c65_genwide.proofs.Kept.{kept_same, kept_then}
use Rattle.c65_genentry.specs.Drafts.{with_labels}
use Rattle.c65_genentry.specs.Words.{with_code}

-- lines and labels that were put before the call that was refused
pub code_then : (d e g : Drafted) (n : ℕ) (ls : List Line) → e ≡ with_code n ls d → Keeps e g → Keeps d g
code_then d e g n ls h k =
    record {
      lines = ls ++ k.lines;
      labels = n + k.labels;
      is = k.is ∙ ap (λ (x : Drafted). record x { lines = x.lines ++ k.lines; labels = x.labels + k.labels }) h ∙ ap (λ (all : List Line). record d { lines = all; labels = (d.labels + n) + k.labels }) (append_assoc d.lines ls k.lines) ∙ ap (λ (m : ℕ). record d { lines = d.lines ++ (ls ++ k.lines); labels = m }) (add_assoc d.labels n k.labels);
    }

pub labels_then : (d e g : Drafted) (n : ℕ) → e ≡ with_labels n d → Keeps e g → Keeps d g
labels_then d e g n h k =
    record {
      lines = k.lines;
      labels = n + k.labels;
      is = k.is ∙ ap (λ (x : Drafted). record x { lines = x.lines ++ k.lines; labels = x.labels + k.labels }) h ∙ ap (λ (m : ℕ). record d { lines = d.lines ++ k.lines; labels = m }) (add_assoc d.labels n k.labels);
    }

pub code_last : {A E : Type 0} (r : Result A E) (d e g : Drafted) (n : ℕ) (ls : List Line) → e ≡ with_code n ls d → OnErr r (Keeps e g) → OnErr r (Keeps d g)
code_last (Ok u) d e g n ls h k = tt
code_last (Err f) d e g n ls h k = code_then d e g n ls h k

-- where all that was put so far is only known to be kept
pub kept_lines : (d e : Drafted) (ls : List Line) → e ≡ with_lines d ls → Keeps d e
kept_lines d e ls h = kept_then d e e ls h (kept_same e e refl)

pub kept_code : (d e : Drafted) (n : ℕ) (ls : List Line) → e ≡ with_code n ls d → Keeps d e
kept_code d e n ls h = code_then d e e n ls h (kept_same e e refl)

pub kept_on : (d e g : Drafted) → Keeps d e → Keeps e g → Keeps d g
kept_on d e g h k = code_then d e g h.labels h.lines h.is k

pub labels_last : {A E : Type 0} (r : Result A E) (d e g : Drafted) (n : ℕ) → e ≡ with_labels n d → OnErr r (Keeps e g) → OnErr r (Keeps d g)
labels_last (Ok u) d e g n h k = tt
labels_last (Err f) d e g n h k = labels_then d e g n h k

pub refused_then : {A E K : Type 0} (r : Result A E) → K → OnErr r K
refused_then (Ok u) k = tt
refused_then (Err f) k = k
