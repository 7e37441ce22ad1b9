-- What the optimiser makes of a closed code is closed.
use Rattle.std.proofs.Common.{◌≡◌, inl, inr, ℕ, zero, suc, List, [], ◌∷◌, Some, IsTrue, refl, sym, subst, ap, ◌∙◌}
use Rattle.std.specs.Prelude.{slice_get}
use Rattle.std.proofs.lemmas.Option.{same_Some}
use Rattle.c65_base.specs.declared.options.Options.{Options}
use Rattle.c65_code.specs.declared.code.Code.{Code}
use Rattle.c65_code.specs.declared.code.Datum.{Datum}
use Rattle.c65_code.specs.declared.code.Symbol.{Symbol}
use Rattle.c65_code.specs.declared.line.Sym.{Sym}
use Rattle.c65_code.specs.Literals.{literals_of}
use Rattle.c65_code.specs.Placement.{has_datum}
use Rattle.c65_code.specs.Segments.{Segment}
use Rattle.c65_asm_law_names.specs.Numbers.{HasBody}
use Rattle.c65_optimise.specs.Optimised.{AreRewritten, IsOptimised}
use Rattle.c65_opt_law_whole.specs.Laws.{OptimisedKeepsFunctions, OptimisedIsClosed}
use Rattle.c65_opt_law_whole.proofs.Names.{names_nothing}

-- the rewritten form of a function stands where it stood, under its name
rewritten_there : (options : Options) (literals : List (Sym × List ℕ)) (fs gs : List (Sym × Segment)) (k : ℕ) (f : Sym × Segment) → AreRewritten options literals fs gs → slice_get fs k ≡ Some f
    → (g : Sym × Segment) × (slice_get gs k ≡ Some g) × (g.0 ≡ f.0)
rewritten_there options literals [] [] k f r h = absurd cc
rewritten_there options literals [] (g ∷ gs) k f r h = absurd r
rewritten_there options literals (x ∷ fs) [] k f r h = absurd r
rewritten_there options literals (x ∷ fs) (g ∷ gs) zero f ((named, rewritten), more) h = (g, refl, named ∙ ap (λ (y : Sym × Segment). y.0) (same_Some x f h))
rewritten_there options literals (x ∷ fs) (g ∷ gs) (suc k) f (first, more) h = rewritten_there options literals fs gs k f more h

pub keeps_functions : OptimisedKeepsFunctions
keeps_functions options old new o f h =
    let g = rewritten_there options (literals_of old.symbols old.datums) old.functions new.functions h.at h.unit o.functions h.there in
    record { at = h.at; unit = g.0; there = g.1; is = ap (λ (s : Sym). s.0) g.2 ∙ h.is }

body_kept : (options : Options) (old new : Code) → IsOptimised options old new → (i : ℕ) (symbol : Symbol) → HasBody old i symbol → HasBody new i symbol
body_kept options old new o i symbol (inl lines) = inl (keeps_functions options old new o i lines)
body_kept options old new o i symbol (inr (inl datum)) = inr (inl (subst (λ (datums : List Datum). IsTrue (has_datum datums i)) (sym o.datums) datum))
body_kept options old new o i symbol (inr (inr library)) = inr (inr library)

pub keeps_closed : OptimisedIsClosed
keeps_closed options old new o closed i symbol there named =
    body_kept options old new o i symbol (closed i symbol (subst (λ (symbols : List Symbol). slice_get symbols i ≡ Some symbol) o.symbols there) (names_nothing options old new o i named))
