-- Functions that are rewritten one after another.
use Rattle.std.proofs.Common.{◌≡◌, ℕ, zero, suc, ◌≤◌, ◌<◌, ◌∙◌, drop, take, get_or, length, refl, arith, List, [], ◌∷◌, ◌++◌, sym, ap, subst, ◌∙◌, append_assoc, append-nil}
use Rattle.std.specs.Prelude.{All}
use Rattle.std.proofs.lemmas.List.Elements.{All-nil, All-cons, All-head, All-tail}
use Rattle.c65_base.specs.declared.options.Options.{Options}
use Rattle.c65_code.specs.declared.line.Sym.{Sym}
use Rattle.c65_code.specs.Segments.{Segment, IsSegment}
use Rattle.c65_code.specs.Weights.{lines_size}
use Rattle.c65_code.specs.Writable.{IsLineWritable}
use Rattle.c65_know.specs.declared.note.Note.{Note}
use Rattle.c65_know.specs.Known.{Annotated, known_of, annotated}
use Rattle.c65_optlib.specs.Library.{BothWalks}
use Rattle.c65_pass.specs.Rounds.{AreFree, RulesRewrite}
use Rattle.c65_optimise.specs.Optimised.{HasByte, IsRuleFor, IsRewritten, AreRewritten}

-- whatever the functions that are left become, it stands behind those that are done
abbrev pub AreDone : Options → List (Sym × List ℕ) → List (Sym × Segment) → List (Sym × Segment) → List (Sym × Segment) → Type 0
AreDone options literals all rest done = (more : List (Sym × Segment)) → AreRewritten options literals rest more → AreRewritten options literals all (done ++ more)

pub one_more : (options : Options) (literals : List (Sym × List ℕ)) (all rest rest' done done' : List (Sym × Segment)) (f g : Sym × Segment) → rest ≡ f ∷ rest' → done' ≡ done ++ g ∷ [] → (g.0 ≡ f.0) → IsRewritten options literals f.1 g.1
    → AreDone options literals all rest done → AreDone options literals all rest' done'
one_more options literals all rest rest' done done' f g is step name seg so more h =
    subst (AreRewritten options literals all) (sym (append_assoc done (g ∷ []) more) ∙ ap (λ (d : List (Sym × Segment)). d ++ more) (sym step))
    (so (g ∷ more) (subst (λ (r : List (Sym × Segment)). AreRewritten options literals r (g ∷ more)) (sym is) ((name, seg), h)))

pub none_left : (options : Options) (literals : List (Sym × List ℕ)) (all rest done : List (Sym × Segment)) → rest ≡ [] → AreDone options literals all rest done → AreRewritten options literals all done
none_left options literals all rest done is so = subst (AreRewritten options literals all) (append-nil done) (so [] (subst (λ (r : List (Sym × Segment)). AreRewritten options literals r []) (sym is) tt))

pub drop_end : {A : Type 0} (xs : List A) (n : ℕ) → length xs ≤ n → drop n xs ≡ []
drop_end [] zero h = refl
drop_end [] (suc n) h = refl
drop_end (x ∷ xs) zero h = absurd (omega arith)
drop_end (x ∷ xs) (suc n) h = drop_end xs n (omega arith)

-- the lines of a segment whose calls were opened, and whose notes were then rewritten
pub rewritten_of : (options : Options) (literals : List (Sym × List ℕ)) (old new : Segment) (noted opened made : Annotated) (walked count : ℕ) → IsSegment old.lines → All HasByte old.lines → noted ≡ annotated old.lines old.out → made.notes ≡ known_of made.lines → new.lines ≡ made.lines → new.out ≡ made.out
    → opened.out ≡ noted.out → made.out ≡ opened.out → BothWalks options.inline_more options.known_functions literals noted.out noted.lines opened.lines walked
    → RulesRewrite (IsRuleFor options.cpu) opened.out opened.lines count made.lines → AreFree (IsRuleFor options.cpu) made → lines_size opened.lines ≤ lines_size noted.lines → lines_size made.lines ≤ lines_size opened.lines
    → ((n : ℕ) → All (IsLineWritable n) noted.lines → All (IsLineWritable n) opened.lines) → ((n : ℕ) → All (IsLineWritable n) opened.lines → All (IsLineWritable n) made.lines) → IsRewritten options literals old new
rewritten_of options literals old new noted opened made walked count segment bytes is known lines out kept stays once chain free less fewer written writable =
    let before : noted.lines ≡ old.lines = ap (λ (a : Annotated). a.lines) is in
    let gives : noted.out ≡ old.out = ap (λ (a : Annotated). a.out) is in
    let whole : made ≡ annotated made.lines made.out = ap (λ (notes : List Note). let a : Annotated = record { lines = made.lines; out = made.out; notes = notes } in a) known in
    record {
      segment = segment;
      bytes = bytes;
      out = out ∙ (stays ∙ (kept ∙ gives));
      opened = opened.lines;
      once = (walked, rw (sym gives, sym before) once);
      chain = (count, rw (sym gives, sym kept, lines) chain);
      free = rw (lines, out) (subst (AreFree (IsRuleFor options.cpu)) whole free);
      extent = rw (sym before, lines) (omega (arith, less, fewer));
      writable = λ n h. rw lines (writable n (written n (rw before h)));
    }

-- what holds of the first lines and of the next one holds of one more
pub next_all : {A : Type 0} (P : A → Type 0) (xs : List A) (i : ℕ) (d : A) → i < length xs → All P (take i xs) → P (get_or xs i d) → All P (take (suc i) xs)
next_all P [] i d lt h x = absurd (omega (arith, lt))
next_all P (y ∷ xs) zero d lt h x = All-cons P y [] x (All-nil P)
next_all P (y ∷ xs) (suc i) d lt h x = All-cons P y (take (suc i) xs) (All-head P y (take i xs) h) (next_all P xs i d (omega (arith, lt)) (All-tail P y (take i xs) h) x)
