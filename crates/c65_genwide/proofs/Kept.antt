-- What a draft keeps, step by step.
use Rattle.std.proofs.Common.{◌≡◌, ◌+◌, List, [], ◌++◌, ap, ◌∙◌, ℕ, append_assoc, append-nil, add-zero, add_assoc, Result, Ok, Err}
use Rattle.std.specs.Result.{OnErr}
use Rattle.c65_code.specs.declared.line.Line.{Line}
use Rattle.c65_code.specs.Segments.{Drafted}
use Rattle.c65_genwide.specs.Lines.{with_lines, grown, with_label, Keeps}

pub kept_same : (d e : Drafted) → e ≡ d → Keeps d e
kept_same d e h = record { lines = []; labels = 0; is = rw (append-nil, add-zero) h }

-- lines that were put before the call that was refused
pub kept_then : (d e g : Drafted) (ls : List Line) → e ≡ with_lines d ls → Keeps e g → Keeps d g
kept_then d e g ls h k =
    record {
      lines = ls ++ k.lines;
      labels = k.labels;
      is = k.is ∙ ap (λ (x : Drafted). record x { lines = x.lines ++ k.lines; labels = x.labels + k.labels }) h ∙ ap (λ (all : List Line). record d { lines = all; labels = d.labels + k.labels }) (append_assoc d.lines ls k.lines);
    }

pub kept_run : {A E : Type 0} (r : Result A E) (d e : Drafted) → OnErr r (e ≡ d) → OnErr r (Keeps d e)
kept_run (Ok u) d e h = tt
kept_run (Err f) d e h = kept_same d e h

pub kept_last : {A E : Type 0} (r : Result A E) (d e g : Drafted) (ls : List Line) → e ≡ with_lines d ls → OnErr r (Keeps e g) → OnErr r (Keeps d g)
kept_last (Ok u) d e g ls h k = tt
kept_last (Err f) d e g ls h k = kept_then d e g ls h k

-- the same where labels are given too

-- lines and labels that were put before the call that was refused
pub grown_then : (d e g : Drafted) (ls : List Line) (n : ℕ) → e ≡ grown d ls n → Keeps e g → Keeps d g
grown_then d e g ls n h k =
    record {
      lines = ls ++ k.lines;
      labels = n + k.labels;
      is = k.is ∙ ap (λ (x : Drafted). record x { lines = x.lines ++ k.lines; labels = x.labels + k.labels }) h ∙ ap (λ (all : List Line). record d { lines = all; labels = (d.labels + n) + k.labels }) (append_assoc d.lines ls k.lines) ∙ ap (λ (m : ℕ). record d { lines = d.lines ++ (ls ++ k.lines); labels = m }) (add_assoc d.labels n k.labels);
    }

pub label_then : (d e g : Drafted) → e ≡ with_label d → Keeps e g → Keeps d g
label_then d e g h k =
    record {
      lines = k.lines;
      labels = 1 + k.labels;
      is = k.is ∙ ap (λ (x : Drafted). record x { lines = x.lines ++ k.lines; labels = x.labels + k.labels }) h ∙ ap (λ (m : ℕ). record d { lines = d.lines ++ k.lines; labels = m }) (add_assoc d.labels 1 k.labels);
    }

pub grown_last : {A E : Type 0} (r : Result A E) (d e g : Drafted) (ls : List Line) (n : ℕ) → e ≡ grown d ls n → OnErr r (Keeps e g) → OnErr r (Keeps d g)
grown_last (Ok u) d e g ls n h k = tt
grown_last (Err f) d e g ls n h k = grown_then d e g ls n h k

pub label_last : {A E : Type 0} (r : Result A E) (d e g : Drafted) → e ≡ with_label d → OnErr r (Keeps e g) → OnErr r (Keeps d g)
label_last (Ok u) d e g h k = tt
label_last (Err f) d e g h k = label_then d e g h k

pub refused_then : {A E K : Type 0} (r : Result A E) → K → OnErr r K
refused_then (Ok u) k = tt
refused_then (Err f) k = k
