-- Ways through lines that are given.
use Rattle.std.proofs.Common.{◌≡◌, Bool, true, false, List, [], ◌∷◌, ◌++◌, refl, sym, ap, subst, ◌∙◌}
use Rattle.std.specs.Prelude.{◌&&◌}
use Rattle.std.proofs.lemmas.Bool.{and_parts}
use Rattle.c65_mach.specs.Step.{kind_of}
use Rattle.c65_code.specs.declared.line.Line.{Line}
use Rattle.c65_code.specs.LineState.{Place, State}
use Rattle.c65_code.specs.Placement.{Placement, Setting, word_of}
use Rattle.c65_code.specs.Forms.{Form, Mark, Plain, Branch, Jump, Far, Push, Pull, Depth, Return, Run, Enter, Through, Stray, form_of}
use Rattle.c65_code.specs.Moves.{Moves, Goes, effect}
use Rattle.c65_code.specs.Steady.{IsCalm, IsSteady}
use Rattle.c65_gen_law_stack.specs.Passing.{Passes}

pub calm_at : (s : Setting) (lines : List Line) (p q : Place) (t u : State) → Passes s lines p t q u → IsCalm s t
calm_at s [] p q t u h = h.2
calm_at s (line ∷ lines) p q t u h = h.1.calm

pub calm_behind : (s : Setting) (lines : List Line) (p q : Place) (t u : State) → Passes s lines p t q u → IsCalm s u
calm_behind s [] p q t u h = subst (λ (x : State). IsCalm s x) (sym h.1) h.2
calm_behind s (line ∷ lines) p q t u h = calm_behind s lines h.2 q h.3 u h.5

-- a way through lines and others behind them is two ways
pub halves : (s : Setting) (a b : List Line) (p q : Place) (t u : State) → Passes s (a ++ b) p t q u → (r : Place) × (v : State) × Passes s a p t r v × Passes s b r v q u
halves s [] b p q t u h = (p, t, (refl, refl, calm_at s b p q t u h), h)
halves s (line ∷ a) b p q t u h =
    let rest : (r : Place) × (v : State) × Passes s a h.2 h.3 r v × Passes s b r v q u = halves s a b h.2 q h.3 u h.5 in
    (rest.0, rest.1, (h.0, h.1, h.2, h.3, h.4, rest.2), rest.3)

-- a way through one line
pub single : (s : Setting) (line : Line) (p q : Place) (t u : State) → Passes s (line ∷ []) p t q u → IsSteady s line t × Moves s line p t q u × IsCalm s u
single s line p q t u h =
    let here : Moves s line p t q h.3 = subst (λ (x : Place). Moves s line p t x h.3) (sym h.5.0) h.4 in
    (h.1, subst (λ (x : State). Moves s line p t q x) (sym h.5.1) here, subst (λ (x : State). IsCalm s x) (sym h.5.1) h.5.2)

-- ---- lines of which each has one effect

abbrev pub is_simple : Form → Bool
is_simple (Plain op mode operand) = true
is_simple Push = true
is_simple _ = false

abbrev pub by_form : Placement → Form → State → State
by_form place (Plain op mode operand) t = effect (kind_of op) op mode (word_of place operand) t
by_form place Push t = record t { pushed = t.regs.a ∷ t.pushed }
by_form place _ t = t

abbrev pub are_simple : List Line → Bool
are_simple [] = true
are_simple (line ∷ lines) = is_simple (form_of line) && are_simple lines

abbrev pub by_lines : Placement → List Line → State → State
by_lines place [] t = t
by_lines place (line ∷ lines) t = by_lines place lines (by_form place (form_of line) t)

does_simple : (s : Setting) (form : Form) (p q : Place) (t u : State) → is_simple form ≡ true → Goes s form p t q u → u ≡ by_form s.place form t
does_simple s (Plain op mode operand) p q t u e h = h.1
does_simple s Push p q t u e h = h.1
does_simple s Mark p q t u e h = absurd cc
does_simple s (Branch op l) p q t u e h = absurd cc
does_simple s (Jump l) p q t u e h = absurd cc
does_simple s (Far i) p q t u e h = absurd cc
does_simple s Pull p q t u e h = absurd cc
does_simple s Depth p q t u e h = absurd cc
does_simple s Return p q t u e h = absurd cc
does_simple s (Run r) p q t u e h = absurd cc
does_simple s (Enter g reads gives) p q t u e h = absurd cc
does_simple s (Through reads gives) p q t u e h = absurd cc
does_simple s Stray p q t u e h = absurd cc

pub simple_way : (s : Setting) (lines : List Line) (p q : Place) (t u : State) → are_simple lines ≡ true → Passes s lines p t q u → u ≡ by_lines s.place lines t
simple_way s [] p q t u e h = h.1
simple_way s (line ∷ lines) p q t u e h =
    let parts = and_parts (is_simple (form_of line)) (are_simple lines) e in
    simple_way s lines h.2 q h.3 u parts.1 h.5 ∙ ap (by_lines s.place lines) (does_simple s (form_of line) p h.2 t h.3 parts.0 h.4.goes)
