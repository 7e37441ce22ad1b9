-- The first function that has no frame, or too many labels, is the one for which a program is refused.
use Rattle.std.proofs.Common.{◌≡◌, ℕ, zero, suc, ◌+◌, ◌<◌, ◌==◌, Bool, true, false, Option, None, Some, Result, Ok, Err, List, [], ◌∷◌, ◌++◌, refl, sym, ◌∙◌, ap, subst, slice_get, ◌⊎◌, inl, inr, arith}
use Rattle.std.specs.Prelude.{if◌then◌else◌, nat_lt, IsSome}
use Rattle.std.proofs.lemmas.Bool.{ltb-true, ltb-false, lt-ltb, le-ltb}
use Rattle.c65_base.specs.declared.refusal.Size.TheVariants as sizes
use Rattle.c65_base.specs.Answers.{Fault, large, ◌>>=◌}
use Rattle.c65_csem.specs.declared.items.Parts.{Parts}
use Rattle.c65_csem.specs.declared.items.TFunc.{TFunc}
use Rattle.c65_csem.specs.Trees.{Stmt, FuncTy}
use Rattle.c65_csem.specs.Views.{func_of}
use Rattle.c65_code.specs.declared.line.Sym.{Sym}
use Rattle.c65_code.specs.Segments.{Segment, Drafted}
use Rattle.c65_genframe.specs.declared.modes.Modes.{Modes}
use Rattle.c65_genframe.specs.Symbols.{numbers_of, function_symbol}
use Rattle.c65_genframe.specs.Marks.{lowest}
use Rattle.c65_genframe.specs.Objects.{locals_of}
use Rattle.c65_genframe.specs.Frames.{Framed, frame_of, placed_in, passed_bytes, check_of, settled}
use Rattle.c65_genstmt.specs.Functions.{closed, finished, drafted_of, segment_of, function_of}
use Rattle.c65_genstmt.specs.Programs.{one_more, functions_from, functions_of, code_of}
use Rattle.c65_genstmt.proofs.Made.{IsMade, function_is_made}
use Rattle.c65_gen_law_size.specs.First.{HasLines, HasManyLabels, IsFirst, TheFirstLargeFrameIsRefused, FramesAreRefusedAboveTheirLimit}

same_reason : {A : Type 0} (x y : Fault) → ◌≡◌ {A = Result A Fault} (Err x) (Err y) → x ≡ y
same_reason x y h = cc

-- ---- one function

abbrev IsRefused : Parts → Bool → Modes → FuncTy → Fault → Type 0
IsRefused parts is_main modes g reason = (frame_of parts modes g ≡ Err reason) ⊎ HasManyLabels parts is_main modes g reason

module _ (parts : Parts) (is_main : Bool) (modes : Modes) (g : FuncTy) where
  by_frame : function_of parts is_main modes g ≡ (frame_of parts modes g >>= (λ f. finished (drafted_of parts is_main g f)))
  unfolding function_of
  by_frame = refl

  framed_so : (r : Result Framed Fault) → frame_of parts modes g ≡ r → function_of parts is_main modes g ≡ (r >>= (λ f. finished (drafted_of parts is_main g f)))
  framed_so r e = by_frame ∙ ap (λ (x : Result Framed Fault). x >>= (λ f. finished (drafted_of parts is_main g f))) e

  finished_so : (b : Bool) (d : Drafted) → nat_lt d.labels 4294967296 ≡ b → finished d ≡ (if b then Ok (closed d) else Err (large sizes.Frame 0))
  finished_so b d e = ap (λ (x : Bool). if x then Ok (closed d) else Err (large sizes.Frame 0)) e

  refused_for : (reason : Fault) → function_of parts is_main modes g ≡ Err reason → IsRefused parts is_main modes g reason
  refused_for reason h = go (frame_of parts modes g) refl
    where
      many : (f : Framed) (b : Bool) → frame_of parts modes g ≡ Ok f → nat_lt (drafted_of parts is_main g f).labels 4294967296 ≡ b → IsRefused parts is_main modes g reason
      many f true framed e = absurd (let no : ◌≡◌ {A = Result Segment Fault} (Err reason) (Ok (segment_of parts is_main g f)) = sym h ∙ (framed_so (Ok f) framed ∙ finished_so true (drafted_of parts is_main g f) e) in cc)
      many f false framed e =
          let same : ◌≡◌ {A = Result Segment Fault} (Err reason) (Err (large sizes.Frame 0)) = sym h ∙ (framed_so (Ok f) framed ∙ finished_so false (drafted_of parts is_main g f) e) in
          inr (record { frame = f; framed = framed; many = ltb-false (drafted_of parts is_main g f).labels 4294967296 e; told = same_reason {A = Segment} reason (large sizes.Frame 0) same })

      go : (r : Result Framed Fault) → frame_of parts modes g ≡ r → IsRefused parts is_main modes g reason
      go (Err e) framed = inl (framed ∙ ap (λ (x : Fault). Err x) (same_reason {A = Segment} e reason (sym (framed_so (Err e) framed) ∙ h)))
      go (Ok f) framed = many f (nat_lt (drafted_of parts is_main g f).labels 4294967296) framed refl

  refused_so : (reason : Fault) → IsRefused parts is_main modes g reason → function_of parts is_main modes g ≡ Err reason
  refused_so reason (inl e) = framed_so (Err reason) e
  refused_so reason (inr m) = framed_so (Ok m.frame) m.framed ∙ (finished_so false (drafted_of parts is_main g m.frame) (le-ltb (drafted_of parts is_main g m.frame).labels 4294967296 m.many) ∙ ap (λ (x : Fault). Err x) (sym m.told))

  lines_for : (s : Segment) → function_of parts is_main modes g ≡ Ok s → HasLines parts is_main modes g
  lines_for s h = let made : IsMade parts is_main modes g s = function_is_made parts is_main modes g s h in (made.frame, made.framed, made.few)

  lines_so : (l : HasLines parts is_main modes g) → function_of parts is_main modes g ≡ Ok (segment_of parts is_main g l.0)
  lines_so l = framed_so (Ok l.0) l.1 ∙ finished_so true (drafted_of parts is_main g l.0) (lt-ltb (drafted_of parts is_main g l.0).labels 4294967296 l.2)

-- ---- the functions of a list

abbrev Functions : Type 0
Functions = List (Sym × Segment)

module _ (parts : Parts) (main : ℕ) (modes : Modes) where
  abbrev made_at : ℕ → FuncTy → Result Segment Fault
  made_at i g = function_of parts (i == main) modes g

  -- where the first one has this body
  abbrev onward : ℕ → FuncTy → Option Stmt → List TFunc → Functions → Result Functions Fault
  onward i g b gs fs = one_more parts (i == main) modes (function_symbol (numbers_of parts) i) g b fs >>= functions_from parts main modes (suc i) gs

  abbrev with_one : ℕ → Segment → Functions → Functions
  with_one i s fs = fs ++ (function_symbol (numbers_of parts) i, s) ∷ []

  goes : (i : ℕ) (g : FuncTy) (body : Stmt) (gs : List TFunc) (fs : Functions) (r : Result Segment Fault) → made_at i g ≡ r → onward i g (Some body) gs fs ≡ ((r >>= (λ s. Ok (with_one i s fs))) >>= functions_from parts main modes (suc i) gs)
  goes i g body gs fs r h = ap (λ (x : Result Segment Fault). (x >>= (λ s. Ok (with_one i s fs))) >>= functions_from parts main modes (suc i) gs) h

  abbrev LinesAt : ℕ → TFunc → Type 0
  LinesAt n g = IsSome (func_of g).body → HasLines parts (n == main) modes (func_of g)

  abbrev Before : ℕ → List TFunc → ℕ → Type 0
  Before i gs n = (j : ℕ) (x : TFunc) → j < n → slice_get gs j ≡ Some x → LinesAt (i + j) x

  -- what is so before a place behind the head of a list is so of the head and before the place in the rest
  before_cons : (i : ℕ) (g : TFunc) (gs : List TFunc) (n : ℕ) → LinesAt i g → Before (suc i) gs n → Before i (g ∷ gs) (suc n)
  before_cons i g gs n head rest zero x lt at =
      let same : g ≡ x = cc in
      let here : i ≡ i + 0 = omega arith in
      subst (λ (m : ℕ). LinesAt m x) here (subst (LinesAt i) same head)
  before_cons i g gs n head rest (suc j) x lt at =
      let here : suc i + j ≡ i + suc j = omega arith in
      subst (λ (m : ℕ). LinesAt m x) here (rest j x (omega (arith, lt)) at)

  -- ---- found

  later : (reason : Fault) (i : ℕ) (g : TFunc) (gs : List TFunc) → LinesAt i g → IsFirst parts main modes reason (suc i) gs → IsFirst parts main modes reason i (g ∷ gs)
  later reason i g gs head k =
      let here : suc i + k.place ≡ i + suc k.place = omega arith in
      record {
        place = suc k.place;
        function = k.function;
        there = k.there;
        body = k.body;
        refused = subst (λ (m : ℕ). IsRefused parts (m == main) modes (func_of k.function) reason) here k.refused;
        before = before_cons i g gs k.place head k.before;
      }

  nobody : (b : Option Stmt) (P : Type 0) → b ≡ None → IsSome b → P
  nobody None P e h = absurd cc
  nobody (Some s) P e h = absurd cc

  somebody : (b : Option Stmt) (s : Stmt) → b ≡ Some s → IsSome b
  somebody None s e = absurd cc
  somebody (Some t) s e = refl

  first_by : (i : ℕ) (g : TFunc) (gs : List TFunc) (fs : Functions) (reason : Fault) (b : Option Stmt) (r : Result Segment Fault) → (func_of g).body ≡ b → made_at i (func_of g) ≡ r
      → ((more : Functions) → functions_from parts main modes (suc i) gs more ≡ Err reason → IsFirst parts main modes reason (suc i) gs) → onward i (func_of g) b gs fs ≡ Err reason → IsFirst parts main modes reason i (g ∷ gs)
  first_by i g gs fs reason None r there made rest h = later reason i g gs (nobody (func_of g).body (HasLines parts (i == main) modes (func_of g)) there) (rest fs h)
  first_by i g gs fs reason (Some body) (Ok s) there made rest h =
      later reason i g gs (λ some. lines_for parts (i == main) modes (func_of g) s made) (rest (with_one i s fs) (sym (goes i (func_of g) body gs fs (Ok s) made) ∙ h))
  first_by i g gs fs reason (Some body) (Err e) there made rest h =
      let same : e ≡ reason = same_reason {A = Functions} e reason (sym (goes i (func_of g) body gs fs (Err e) made) ∙ h) in
      let here : i ≡ i + 0 = omega arith in
      record {
        place = 0;
        function = g;
        there = refl;
        body = somebody (func_of g).body body there;
        refused = subst (λ (m : ℕ). IsRefused parts (m == main) modes (func_of g) reason) here (refused_for parts (i == main) modes (func_of g) reason (made ∙ ap (λ (x : Fault). Err x) same));
        before = λ j x lt at some. absurd (omega (arith, lt));
      }

  first_of : (i : ℕ) (gs : List TFunc) (fs : Functions) (reason : Fault) → functions_from parts main modes i gs fs ≡ Err reason → IsFirst parts main modes reason i gs
  first_of i [] fs reason h = absurd cc
  first_of i (g ∷ gs) fs reason h = first_by i g gs fs reason (func_of g).body (made_at i (func_of g)) refl refl (λ more e. first_of (suc i) gs more reason e) h

  -- ---- and the only one

  refused_here : (i : ℕ) (x : TFunc) (gs : List TFunc) (fs : Functions) (reason : Fault) (b : Option Stmt) → (func_of x).body ≡ b → IsSome (func_of x).body → made_at i (func_of x) ≡ Err reason → onward i (func_of x) b gs fs ≡ Err reason
  refused_here i x gs fs reason None there some h = nobody (func_of x).body (onward i (func_of x) None gs fs ≡ Err reason) there some
  refused_here i x gs fs reason (Some body) there some h = goes i (func_of x) body gs fs (Err reason) h

  refused_later : (i : ℕ) (x : TFunc) (gs : List TFunc) (fs : Functions) (reason : Fault) (b : Option Stmt) → (func_of x).body ≡ b → ((more : Functions) → functions_from parts main modes (suc i) gs more ≡ Err reason) → LinesAt i x → onward i (func_of x) b gs fs ≡ Err reason
  refused_later i x gs fs reason None there rest head = rest fs
  refused_later i x gs fs reason (Some body) there rest head =
      let lines : HasLines parts (i == main) modes (func_of x) = head (somebody (func_of x).body body there) in
      let s : Segment = segment_of parts (i == main) (func_of x) lines.0 in
      goes i (func_of x) body gs fs (Ok s) (lines_so parts (i == main) modes (func_of x) lines) ∙ rest (with_one i s fs)

  refused_at : (i : ℕ) (gs : List TFunc) (fs : Functions) (reason : Fault) (n : ℕ) (g : TFunc) → slice_get gs n ≡ Some g → IsSome (func_of g).body → IsRefused parts (i + n == main) modes (func_of g) reason → Before i gs n → functions_from parts main modes i gs fs ≡ Err reason
  refused_at i [] fs reason n g at some h before = absurd cc
  refused_at i (x ∷ gs) fs reason zero g at some h before =
      let same : x ≡ g = cc in
      let here : i + 0 ≡ i = omega arith in
      let own : made_at i (func_of x) ≡ Err reason = ap (λ (y : TFunc). made_at i (func_of y)) same ∙ refused_so parts (i == main) modes (func_of g) reason (subst (λ (m : ℕ). IsRefused parts (m == main) modes (func_of g) reason) here h) in
      refused_here i x gs fs reason (func_of x).body refl (subst (λ (y : TFunc). IsSome (func_of y).body) (sym same) some) own
  refused_at i (x ∷ gs) fs reason (suc n) g at some h before =
      let here : i + suc n ≡ suc i + n = omega arith in
      let later_so : (more : Functions) → functions_from parts main modes (suc i) gs more ≡ Err reason = λ more.
      refused_at (suc i) gs more reason n g at some (subst (λ (m : ℕ). IsRefused parts (m == main) modes (func_of g) reason) here h) (behind before) in
      refused_later i x gs fs reason (func_of x).body refl later_so (first before)
    where
      first : Before i (x ∷ gs) (suc n) → LinesAt i x
      first b = let none : i + 0 ≡ i = omega arith in subst (λ (m : ℕ). LinesAt m x) none (b 0 x (omega arith) refl)

      behind : Before i (x ∷ gs) (suc n) → Before (suc i) gs n
      behind b j y lt e = let one : i + suc j ≡ suc i + j = omega arith in subst (λ (m : ℕ). LinesAt m y) one (b (suc j) y (omega (arith, lt)) e)

-- ---- programs

made_of : {A B : Type 0} (r : Result A Fault) (k : A → B) (reason : Fault) → ◌≡◌ {A = Result B Fault} (r >>= (λ x. Ok (k x))) (Err reason) → r ≡ Err reason
made_of (Ok x) k reason h = absurd cc
made_of {A = A} {B = B} (Err e) k reason h = ap (λ (x : Fault). Err x) (same_reason {A = B} e reason h)

pub the_first_large_frame_is_refused : TheFirstLargeFrameIsRefused
the_first_large_frame_is_refused parts main names modes reason = record {
  found = λ h. first_of parts main modes 0 parts.funcs.items [] reason (made_of (functions_of parts main modes) (code_of parts main names) reason h);
  only = λ k. ap (λ (r : Result Functions Fault). r >>= (λ fs. Ok (code_of parts main names fs))) (refused_at parts main modes 0 parts.funcs.items [] reason k.place k.function k.there k.body k.refused k.before);
}

limit_passed : (b : Bool) (total : ℕ) (f : Framed) (reason : Fault) → nat_lt 1024 total ≡ b → ◌≡◌ {A = Result Framed Fault} (if b then Err (large sizes.Frame total) else Ok f) (Err reason) → (bytes : ℕ) × (reason ≡ large sizes.Frame bytes) × (1024 < bytes)
limit_passed true total f reason e h = (total, sym (same_reason {A = Framed} (large sizes.Frame total) reason h), ltb-true 1024 total e)
limit_passed false total f reason e h = absurd cc

pub frames_are_refused_above_their_limit : FramesAreRefusedAboveTheirLimit
frames_are_refused_above_their_limit parts modes g reason h =
    let p = placed_in parts modes g in
    limit_passed (nat_lt 1024 p.total) p.total (settled parts (check_of parts modes g) g (lowest (locals_of g) g.params) (passed_bytes parts g) p) reason refl h
