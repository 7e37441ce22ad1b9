-- The symbols of the lines of a program's functions.
use Rattle.std.proofs.Common.{◌≡◌, ℕ, suc, ◌==◌, Bool, true, false, not, Option, Some, None, Result, Ok, Err, List, [], ◌∷◌, ◌++◌, refl, sym, ◌∙◌, subst}
use Rattle.std.specs.Prelude.{◌&&◌}
use Rattle.c65_base.specs.Answers.{Fault, ◌>>=◌}
use Rattle.c65_csem.specs.declared.items.Parts.{Parts}
use Rattle.c65_csem.specs.declared.items.TFunc.{TFunc}
use Rattle.c65_csem.specs.Trees.{Stmt, FuncTy}
use Rattle.c65_csem.specs.Views.{func_of}
use Rattle.c65_code.specs.declared.line.Sym.{Sym}
use Rattle.c65_code.specs.declared.parts.RegSet.{RegSet}
use Rattle.c65_code.specs.Segments.{Segment, Drafted}
use Rattle.c65_genframe.specs.declared.modes.Modes.{Modes}
use Rattle.c65_genframe.specs.Frames.{Framed, frame_of}
use Rattle.c65_genwide.specs.Lines.{with_lines}
use Rattle.c65_genentry.specs.Drafts.{with_labels}
use Rattle.c65_genentry.specs.Entry.{entry_code}
use Rattle.c65_genstmt.specs.Cases.{room_of}
use Rattle.c65_genstmt.specs.Stmts.{with_label, ways, with_last, returns_last}
use Rattle.c65_genstmt.specs.Functions.{gives_of, main_code, no_lines, with_function, segment_of, function_of}
use Rattle.c65_genstmt.specs.Programs.{one_more, function_added, functions_from}
use Rattle.c65_genstmt.proofs.Made.{IsMade, function_is_made}
use Rattle.c65_gen_law_names.specs.Trees.{KnownStmt}
use Rattle.c65_gen_law_names.proofs.Known.{AllKnown, known_none, known_then}
use Rattle.c65_gen_law_names.proofs.Entries.{end_known, entry_known}
use Rattle.c65_gen_law_names.proofs.Stmts.{last_known}
use Rattle.c65_gen_law_names.proofs.Lists.{Every, every_append}

main_known : (P : ℕ → Type 0) (is_main : Bool) → AllKnown P (main_code is_main)
main_known P true = record { all = tt }
main_known P false = known_none

pub body_known : (P : ℕ → Type 0) (f : Framed) (is_main : Bool) (body : Stmt) (out : RegSet) → KnownStmt P f body → AllKnown P (with_function f is_main (Some body) (no_lines out)).lines
body_known P f is_main body out h =
    let entered : Drafted = with_lines (with_labels (room_of body) (with_labels 1 (no_lines out))) (entry_code f) in
    let ran : Drafted = with_last f (ways 0 0 0) 0 body entered in
    let first : Bool = is_main && not (returns_last body) in
    let mained : Drafted = with_lines ran (main_code first) in
    let h0 : AllKnown P entered.lines = entry_known P f in
    let h1 : AllKnown P ran.lines = last_known P f (ways 0 0 0) 0 body entered h h0 in
    let h2 : AllKnown P mained.lines = known_then h1 (main_known P first) in
    let h3 : AllKnown P (with_label 0 mained).lines = known_then h2 (record { all = tt }) in
    known_then h3 (end_known P f)

abbrev pub KnownFunction : (ℕ → Type 0) → Sym × Segment → Type 0
KnownFunction P g = AllKnown P g.1.lines

-- what a function names is known
abbrev pub KnownBody : (ℕ → Type 0) → Parts → Modes → FuncTy → Type 0
KnownBody P parts modes g = (body : Stmt) (f : Framed) → g.body ≡ Some body → frame_of parts modes g ≡ Ok f → KnownStmt P f body

module _ (P : ℕ → Type 0) (parts : Parts) (main : ℕ) (modes : Modes) where
  segment_known : (is_main : Bool) (g : FuncTy) (b : Option Stmt) (body : Stmt) (f : Framed) → g.body ≡ b → b ≡ Some body → KnownStmt P f body → AllKnown P (segment_of parts is_main g f).lines
  segment_known is_main g b body f e same h = subst (λ (o : Option Stmt). AllKnown P (with_function f is_main o (no_lines (gives_of parts g))).lines) (sym (e ∙ same)) (body_known P f is_main body (gives_of parts g) h)

  made_known : (is_main : Bool) (g : FuncTy) (body : Stmt) (s : Segment) → g.body ≡ Some body → KnownBody P parts modes g → function_of parts is_main modes g ≡ Ok s → AllKnown P s.lines
  made_known is_main g body s e h made =
      let is : IsMade parts is_main modes g s = function_is_made parts is_main modes g s made in
      subst (λ (z : Segment). AllKnown P z.lines) is.same (segment_known is_main g (Some body) body is.frame e refl (h body is.frame e is.framed))

  one_known : (is_main : Bool) (x : Sym) (g : FuncTy) (b : Option Stmt) (fs out : List (Sym × Segment)) → g.body ≡ b → KnownBody P parts modes g → one_more parts is_main modes x g b fs ≡ Ok out → Every (KnownFunction P) fs → Every (KnownFunction P) out
  one_known is_main x g None fs out e h made all = let same : fs ≡ out = cc in subst (Every (KnownFunction P)) same all
  one_known is_main x g (Some body) fs out e h made all = go (function_of parts is_main modes g) refl made
    where
      go : (r : Result Segment Fault) → function_of parts is_main modes g ≡ r → (r >>= λ s. Ok (fs ++ (x, s) ∷ [])) ≡ Ok out → Every (KnownFunction P) out
      go (Err why) is made = absurd cc
      go (Ok s) is made =
          let same : fs ++ (x, s) ∷ [] ≡ out = cc in
          subst (Every (KnownFunction P)) same (every_append (KnownFunction P) fs ((x, s) ∷ []) all (made_known is_main g body s e h is, tt))

  pub functions_known : (i : ℕ) (gs : List TFunc) (fs out : List (Sym × Segment)) → Every (λ g. KnownBody P parts modes (func_of g)) gs → functions_from parts main modes i gs fs ≡ Ok out → Every (KnownFunction P) fs → Every (KnownFunction P) out
  functions_known i [] fs out h made all = let same : fs ≡ out = cc in subst (Every (KnownFunction P)) same all
  functions_known i (g ∷ gs) fs out h made all = go (function_added parts main modes i (func_of g) fs) refl made (λ x later more. functions_known (suc i) gs x out h.1 later more)
    where
      go : (r : Result (List (Sym × Segment)) Fault) → function_added parts main modes i (func_of g) fs ≡ r → (r >>= functions_from parts main modes (suc i) gs) ≡ Ok out
          → ((x : List (Sym × Segment)) → functions_from parts main modes (suc i) gs x ≡ Ok out → Every (KnownFunction P) x → Every (KnownFunction P) out) → Every (KnownFunction P) out
      go (Err why) is made rest = absurd cc
      go (Ok x) is made rest = rest x made (one_known (i == main) _ (func_of g) (func_of g).body fs x refl h.0 is all)
