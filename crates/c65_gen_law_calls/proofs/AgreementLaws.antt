-- A call that agrees with its function passes as many bytes as the function takes away.
use Rattle.std.proofs.Common.{◌≡◌, ℕ, ◌+◌, ◌-◌, ◌<◌, ◌==◌, ◌||◌, not, Bool, true, false, Option, None, Some, List, [], ◌∷◌, length, slice_get, refl, sym, ap, subst, ◌∙◌, arith}
use Rattle.std.specs.Prelude.{IsTrue, nat_lt, if◌then◌else◌, Ok}
use Rattle.std.proofs.lemmas.Bool.{eq-eqb, eqb-true, and_parts}
use Rattle.c65_base.specs.declared.refusal.Size.TheVariants as sizes
use Rattle.c65_base.specs.Answers.{large}
use Rattle.c65_ints.specs.declared.types.IntType.{IntType}
use Rattle.c65_ints.specs.declared.types.IntType.TheVariants.{Int, UInt}
use Rattle.c65_ctype.specs.Trees.{Ty, void, int, pointer, array, tag, function, QTy, qual, type_in, QTys, end, more, Fn, fn, unknown, known, TypesTy}
use Rattle.c65_ctype.specs.Sizes.{size_of as size_of_type}
use Rattle.c65_ints.specs.Ranges.{number_of}
use Rattle.c65_ctype.specs.Compatible.{same_int}
use Rattle.c65_csem.specs.declared.items.Parts.{Parts}
use Rattle.c65_base.specs.declared.library.Library.{Library}
use Rattle.c65_base.specs.declared.library.Library.TheVariants as library
use Rattle.c65_csem.specs.Library.{takes_more}
use Rattle.c65_csem.specs.Trees.{Typed, node, pack, type_of, Nodes, none, some, Stmt, UnitTy, FuncTy}
use Rattle.c65_csem.specs.Places.{is_scalar, is_small, is_passed, plain, are_alike, alike}
use Rattle.c65_csem.specs.Typed.{AreGiven, FitsFn, IsCall, IsGiven, AreTyped}
use Rattle.c65_csem.specs.Units.{AreParams, MatchParams, IsBody}
use Rattle.c65_csem.specs.Views.{unit_of}
use Rattle.c65_code.specs.LineState.{State, sp_of}
use Rattle.c65_base.specs.declared.library.Library.TheVariants.{Putchar, Getchar, Puts, Exit, Memcpy, Memset, Strcmp, Strcpy, Strlen, Printf}
use Rattle.c65_code.specs.declared.routine.Routine.TheVariants as routines
use Rattle.c65_code.specs.Rows.{Row, row_by, read_row, printed_of, print_row, costing, row_of}
use Rattle.c65_code.specs.Moves.{MeetsRow}
use Rattle.c65_genframe.specs.declared.modes.Modes.{Modes}
use Rattle.c65_genframe.specs.declared.home.Arrival.{Arrival}
use Rattle.c65_genframe.specs.Marks.{lowest}
use Rattle.c65_genframe.specs.Objects.{locals_of}
use Rattle.c65_genframe.specs.Frames.{Framed, is_variadic, takes_stack, has_prototype, register_param, arrival, passed_bytes, placed_in, check_of, settled, frame_of}
use Rattle.c65_genload.specs.Conversions.{size_of}
use Rattle.c65_genexpr.specs.Types.{kind_of, bare}
use Rattle.c65_genexpr.specs.Arguments.{is_fast, is_counted, passed_size}
use Rattle.c65_gen_law_lines.specs.Stack.{bytes_in, passed}
use Rattle.c65_gen_law_lines.proofs.FrameLaws.{answered}
use Rattle.c65_gen_law_stack.specs.Calls as entering
use Rattle.c65_gen_law_stack.specs.Calls.{pushed_bytes}
use Rattle.c65_gen_law_stack.specs.Parameters as parameters
use Rattle.c65_gen_law_stack.specs.Parameters.{IsArgument, AreArguments, AreTaken}
use Rattle.c65_gen_law_stack.proofs.ParameterLaws.{same_kind, alike_in, plain_type, scalar_size, argument_taken, calls_pass_what_is_taken}
use Rattle.c65_gen_law_calls.specs.Sites.{Site, bytes_of}
use Rattle.c65_gen_law_calls.specs.Travels.{IsReady}
use Rattle.c65_gen_law_calls.specs.Agreement.{Takes, Agrees, library_types, AreOf, LibraryAgrees, is_like, alike_types, AreAlike, PrototypesAgree}

-- ---- types that are alike

same_self : (k : IntType) → same_int k k ≡ true
same_self k = eq-eqb (number_of k) (number_of k) refl

same_through : (i j k : IntType) → same_int i j ≡ true → same_int k j ≡ true → same_int i k ≡ true
same_through i j k p q =
    let e : i ≡ k = same_kind i j p ∙ sym (same_kind k j q) in
    ap (λ (x : IntType). same_int i x) (sym e) ∙ same_self i

int_through : (t : Ty) (j k : IntType) → alike t (int j) ≡ true → same_int k j ≡ true → alike t (int k) ≡ true
int_through (int i) j k p q = same_through i j k p q
int_through void j k p q = absurd cc
int_through (pointer a) j k p q = absurd cc
int_through (array a n) j k p q = absurd cc
int_through (tag n) j k p q = absurd cc
int_through (function f) j k p q = absurd cc

pointer_through : (t : Ty) (a b : QTy) → alike t (pointer a) ≡ true → alike t (pointer b) ≡ true
pointer_through (pointer c) a b p = refl
pointer_through void a b p = absurd cc
pointer_through (int i) a b p = absurd cc
pointer_through (array c n) a b p = absurd cc
pointer_through (tag n) a b p = absurd cc
pointer_through (function f) a b p = absurd cc

tag_through : (t : Ty) (m n : ℕ) → alike t (tag m) ≡ true → alike t (tag n) ≡ true
tag_through (tag k) m n p = refl
tag_through void m n p = absurd cc
tag_through (int i) m n p = absurd cc
tag_through (pointer q) m n p = absurd cc
tag_through (array q k) m n p = absurd cc
tag_through (function f) m n p = absurd cc

alike_through : (types : TypesTy) (t r x : Ty) → alike t r ≡ true → alike x r ≡ true → is_passed types x ≡ true → alike t x ≡ true
alike_through types t (int j) (int k) p q s = int_through t j k p q
alike_through types t void (int k) p q s = absurd cc
alike_through types t (pointer a) (int k) p q s = absurd cc
alike_through types t (array a n) (int k) p q s = absurd cc
alike_through types t (tag n) (int k) p q s = absurd cc
alike_through types t (function f) (int k) p q s = absurd cc
alike_through types t (pointer a) (pointer b) p q s = pointer_through t a b p
alike_through types t (int j) (pointer b) p q s = absurd cc
alike_through types t void (pointer b) p q s = absurd cc
alike_through types t (array a n) (pointer b) p q s = absurd cc
alike_through types t (tag n) (pointer b) p q s = absurd cc
alike_through types t (function f) (pointer b) p q s = absurd cc
alike_through types t r void p q s = absurd cc
alike_through types t r (array a n) p q s = absurd cc
alike_through types t (tag m) (tag n) p q s = tag_through t m n p
alike_through types t void (tag n) p q s = absurd cc
alike_through types t (int j) (tag n) p q s = absurd cc
alike_through types t (pointer a) (tag n) p q s = absurd cc
alike_through types t (array a k) (tag n) p q s = absurd cc
alike_through types t (function f) (tag n) p q s = absurd cc
alike_through types t r (function f) p q s = absurd cc

-- ---- prototypes

both_types : (b : Bool) (types : TypesTy) (ps qs : QTys) → (if b then alike_types types ps qs else false) ≡ true → (b ≡ true) × (alike_types types ps qs ≡ true)
both_types true types ps qs h = (refl, h)
both_types false types ps qs h = absurd cc

like_parts : (types : TypesTy) (p q : QTy) → is_like types p q ≡ true → (alike (type_in p) (type_in q) ≡ true) × (size_of_type types (type_in p) ≡ size_of_type types (type_in q))
like_parts types p q h =
    let parts = and_parts (are_alike p q) (size_of_type types (type_in p) == size_of_type types (type_in q)) h in
    (sym (alike_in p q) ∙ parts.0, eqb-true (size_of_type types (type_in p)) (size_of_type types (type_in q)) parts.1)

or_first : (a b : Bool) → a ≡ true → (a || b) ≡ true
or_first true b h = refl
or_first false b h = absurd cc

or_second : (a b : Bool) → b ≡ true → (a || b) ≡ true
or_second true b h = refl
or_second false b h = h

-- what may be passed is of a type whose values are passed
argument_passed : (u : UnitTy) (e : Typed) → IsArgument u e → is_passed u.types (bare e) ≡ true
argument_passed u e (parameters.value scalar) = or_first (is_scalar (bare e)) (is_small u.types (bare e)) scalar
argument_passed u (node q (pack e)) (parameters.bytes small) = or_second (is_scalar (type_in q)) (is_small u.types (type_in q)) small

given_taken : (u : UnitTy) (ps qs : QTys) (es : Nodes) (is : List ℕ) → AreArguments u es → AreGiven u ps false es → alike_types u.types ps qs ≡ true → AreParams u qs is → AreTaken u true es is
given_taken u end end none [] g h a p = tt
given_taken u end end none (i ∷ is) g h a p = absurd p
given_taken u end end (some e es) is g h a p = absurd h
given_taken u end (more q qs) es is g h a p = absurd cc
given_taken u (more r rs) end es is g h a p = absurd cc
given_taken u (more r rs) (more q qs) none is g h a p = absurd h
given_taken u (more r rs) (more q qs) (some e es) [] g h a p = absurd p
given_taken u (more r rs) (more q qs) (some e es) (i ∷ is) g h a p =
    let both = both_types (is_like u.types r q) u.types rs qs a in
    let like = like_parts u.types r q both.0 in
    let type : type_in r ≡ bare e = sym (plain_type r) ∙ ap type_in (sym h.0) in
    let site : alike (bare e) (type_in q) ≡ true = ap (λ (t : Ty). alike t (type_in q)) (sym type) ∙ like.0 in
    let own : alike (type_in p.0.ty) (type_in q) ≡ true = sym (alike_in p.0.ty q) ∙ p.2 in
    let same : alike (type_in p.0.ty) (bare e) ≡ true = alike_through u.types (type_in p.0.ty) (type_in q) (bare e) own site (argument_passed u e g.0) in
    let size : size_of_type u.types (type_in p.0.ty) ≡ size_of_type u.types (bare e) = p.3 ∙ (sym like.1 ∙ ap (size_of_type u.types) type) in
    (p.0, p.1, argument_taken u (type_in p.0.ty) e g.0 same size, given_taken u rs qs es is g.1 h.1 both.1 p.4)

agree : (u : UnitTy) (g : FuncTy) (body : Stmt) (s : Site) (t w : Fn) → g.ty ≡ w → IsBody u g body → AreArguments u s.args → FitsFn u t s.args → bare s.callee ≡ pointer (plain (function t)) → AreAlike u.types t w → Agrees u s g
agree u g body s (fn q (known ps) false c) (fn r (known qs) false d) e well each fits is like =
    let variadic : is_variadic g.ty ≡ false = ap is_variadic e in
    let prototype : has_prototype g.ty ≡ true = ap has_prototype e in
    let params : AreParams u qs g.params = subst (λ (x : Fn). MatchParams u x g.params) e well.prototype in
    let taken : AreTaken u true s.args g.params = given_taken u ps qs s.args g.params each fits like.0 params in
    record {
      fast = ap is_fast is ∙ (ap not like.1 ∙ ap (λ (x : Fn). not (takes_stack x)) (sym e));
      counted = ap is_counted is ∙ sym variadic;
      taken = subst (λ (b : Bool). Takes b u g s.args) (sym variadic) (subst (λ (b : Bool). AreTaken u b s.args g.params) (sym prototype) taken);
    }
agree u g body s (fn q (known ps) false c) (fn r (known qs) true d) e well each fits is like = absurd like
agree u g body s (fn q (known ps) false c) (fn r unknown v d) e well each fits is like = absurd like
agree u g body s (fn q (known ps) true c) w e well each fits is like = absurd like
agree u g body s (fn q unknown v c) w e well each fits is like = absurd like

-- a typed argument is a scalar value, or the bytes of a structure
is_argument : (u : UnitTy) (e : Typed) → IsGiven u e → IsArgument u e
is_argument u (node t (pack e)) h = parameters.bytes h.1.0
is_argument u (node t _) h = parameters.value h.1.0.0

are_arguments : (u : UnitTy) (es : Nodes) → AreTyped u es → AreArguments u es
are_arguments u none h = tt
are_arguments u (some e es) h = (is_argument u e h.0, are_arguments u es h.1)

abbrev called_type : Fn → Ty → Fn
called_type f (pointer (qual (function g) c v)) = g
called_type f _ = f

pub prototypes_agree : PrototypesAgree
prototypes_agree u g body s t well site is like =
    let call : IsCall u s.type (type_of s.callee) s.args = site.made in
    let own : bare s.callee ≡ pointer (plain (function call.callee)) = ap type_in call.named in
    let same : call.callee ≡ t = ap (called_type t) (sym own ∙ is) in
    agree u g body s t g.ty refl well (are_arguments u s.args site.args) (subst (λ (x : Fn). FitsFn u x s.args) same call.given) is like

-- ---- what a function takes away

framed_is : (parts : Parts) (modes : Modes) (g : FuncTy) (f : Framed) → frame_of parts modes g ≡ Ok f → settled parts (check_of parts modes g) g (lowest (locals_of g) g.params) (passed_bytes parts g) (placed_in parts modes g) ≡ f
framed_is parts modes g f framed =
    let p = placed_in parts modes g in
    (answered (nat_lt 1024 p.total) (large sizes.Frame p.total) (settled parts (check_of parts modes g) g (lowest (locals_of g) g.params) (passed_bytes parts g) p) f framed).1

pub parts_are : (parts : Parts) (modes : Modes) (g : FuncTy) (f : Framed) → frame_of parts modes g ≡ Ok f → f.parts ≡ parts
parts_are parts modes g f framed = sym (ap (λ (z : Framed). z.parts) (framed_is parts modes g f framed))

variadic_is : (parts : Parts) (modes : Modes) (g : FuncTy) (f : Framed) → frame_of parts modes g ≡ Ok f → f.variadic ≡ is_variadic g.ty
variadic_is parts modes g f framed = sym (ap (λ (z : Framed). z.variadic) (framed_is parts modes g f framed))

-- a variadic function has no parameter in registers
stacks_all : (t : Fn) → is_variadic t ≡ true → takes_stack t ≡ true
stacks_all (fn q ps true c) h = refl
stacks_all (fn q ps false c) h = absurd cc

nothing_pushed : (parts : Parts) (modes : Modes) (g : FuncTy) (f : Framed) → frame_of parts modes g ≡ Ok f → is_variadic g.ty ≡ true → pushed_bytes f.last ≡ 0
nothing_pushed parts modes g f framed v =
    let last : Option ℕ → Arrival = λ o. arrival parts (has_prototype g.ty) (lowest (locals_of g) g.params) (placed_in parts modes g).homes o in
    let here : pushed_bytes (last (register_param g)) ≡ pushed_bytes f.last = ap (λ (z : Framed). pushed_bytes z.last) (framed_is parts modes g f framed) in
    let none : register_param g ≡ None = ap (λ (b : Bool). if b then None else slice_get g.params (length g.params - 1)) (stacks_all g.ty v) in
    sym here ∙ ap (λ (o : Option ℕ). pushed_bytes (last o)) none

passes_by : (b : Bool) (parts : Parts) (modes : Modes) (g : FuncTy) (f h : Framed) (s : Site) (t : State) → is_variadic g.ty ≡ b → frame_of parts modes g ≡ Ok f → h.parts ≡ parts → Agrees (unit_of parts) s g
    → (f.variadic ≡ true → t.regs.y ≡ bytes_in (bytes_of h s)) → bytes_in (bytes_of h s) + pushed_bytes f.last ≡ entering.passed_bytes f t
passes_by true parts modes g f h s t v framed own agrees counted =
    let variadic : f.variadic ≡ true = variadic_is parts modes g f framed ∙ v in
    let given : t.regs.y ≡ bytes_in (bytes_of h s) = counted variadic in
    let passed_is : entering.passed_bytes f t ≡ t.regs.y = ap (λ (b : Bool). if b then t.regs.y else f.stacked) variadic in
    omega (arith, given, passed_is, nothing_pushed parts modes g f framed v)
passes_by false parts modes g f h s t v framed own agrees counted =
    let variadic : f.variadic ≡ false = variadic_is parts modes g f framed ∙ v in
    let taken : AreTaken (unit_of parts) (has_prototype g.ty) s.args g.params = subst (λ (b : Bool). Takes b (unit_of parts) g s.args) v agrees.taken in
    let fast : bytes_in (bytes_of h s) ≡ bytes_in (passed h (not (takes_stack g.ty)) s.args) = ap (λ (b : Bool). bytes_in (passed h b s.args)) agrees.fast in
    let passed_is : entering.passed_bytes f t ≡ f.stacked = ap (λ (b : Bool). if b then t.regs.y else f.stacked) variadic in
    omega (arith, fast, passed_is, calls_pass_what_is_taken parts modes g f h s.args framed own taken)

pub agreed_bytes : (parts : Parts) (modes : Modes) (g : FuncTy) (f h : Framed) (s : Site) (t : State) → frame_of parts modes g ≡ Ok f → h.parts ≡ parts → Agrees (unit_of parts) s g
    → (f.variadic ≡ true → t.regs.y ≡ bytes_in (bytes_of h s)) → bytes_in (bytes_of h s) + pushed_bytes f.last ≡ entering.passed_bytes f t
agreed_bytes parts modes g f h s t framed own agrees counted = passes_by (is_variadic g.ty) parts modes g f h s t refl framed own agrees counted

-- ---- functions of the library

-- what a function of the library takes off the stack, where Y is as given
abbrev pub library_bytes : Library → ℕ → ℕ
library_bytes Memcpy y = 4
library_bytes Memset y = 4
library_bytes Strcmp y = 2
library_bytes Strcpy y = 2
library_bytes Printf y = y
library_bytes _ y = 0

pointer_scalar : (q : QTy) (x : Ty) → alike (pointer q) x ≡ true → (is_scalar x ≡ true) × (size_of (kind_of x) ≡ 2)
pointer_scalar q (pointer r) h = (refl, refl)
pointer_scalar q void h = absurd cc
pointer_scalar q (int k) h = absurd cc
pointer_scalar q (array r n) h = absurd cc
pointer_scalar q (tag n) h = absurd cc
pointer_scalar q (function f) h = absurd cc

int_scalar : (x : Ty) → alike (int Int) x ≡ true → (is_scalar x ≡ true) × (size_of (kind_of x) ≡ 2)
int_scalar (int k) h = (refl, sym (ap size_of (same_kind Int k h)))
int_scalar void h = absurd cc
int_scalar (pointer q) h = absurd cc
int_scalar (array r n) h = absurd cc
int_scalar (tag n) h = absurd cc
int_scalar (function f) h = absurd cc

pointer_size : (f : Framed) (q : QTy) (e : Typed) → alike (pointer q) (bare e) ≡ true → passed_size f e ≡ 2
pointer_size f q e h = let own = pointer_scalar q (bare e) h in scalar_size f e own.0 ∙ own.1

int_size : (f : Framed) (e : Typed) → alike (int Int) (bare e) ≡ true → passed_size f e ≡ 2
int_size f e h = let own = int_scalar (bare e) h in scalar_size f e own.0 ∙ own.1

-- none, one, two or three arguments
no_arg : (f : Framed) (es : Nodes) → AreOf false es [] → bytes_in (passed f true es) ≡ 0
no_arg f none h = refl
no_arg f (some e es) h = absurd h

one_arg : (f : Framed) (t : Ty) (es : Nodes) → AreOf false es (t ∷ []) → bytes_in (passed f true es) ≡ 0
one_arg f t none h = absurd h
one_arg f t (some e none) h = refl
one_arg f t (some e (some g es)) h = absurd h.1

two_args : (f : Framed) (q : QTy) (t : Ty) (es : Nodes) → AreOf false es (pointer q ∷ t ∷ []) → bytes_in (passed f true es) ≡ 2
two_args f q t none h = absurd h
two_args f q t (some e none) h = absurd h.1
two_args f q t (some e (some g none)) h = let size : passed_size f e ≡ 2 = pointer_size f q e h.0 in omega (arith, size)
two_args f q t (some e (some g (some i es))) h = absurd h.1.1

sizes_sum : (f : Framed) (t : Ty) → ((e : Typed) → alike t (bare e) ≡ true → passed_size f e ≡ 2) → (q : QTy) (z : Ty) (es : Nodes) → AreOf false es (pointer q ∷ t ∷ z ∷ []) → bytes_in (passed f true es) ≡ 4
sizes_sum f t size q z none h = absurd h
sizes_sum f t size q z (some e none) h = absurd h.1
sizes_sum f t size q z (some e (some g none)) h = absurd h.1.1
sizes_sum f t size q z (some e (some g (some i none))) h =
    let first : passed_size f e ≡ 2 = pointer_size f q e h.0 in
    let second : passed_size f g ≡ 2 = size g h.1.0 in
    omega (arith, first, second)
sizes_sum f t size q z (some e (some g (some i (some j es)))) h = absurd h.1.1.1

library_passes : (f : Framed) (l : Library) (es : Nodes) → AreOf false es (library_types l) → bytes_in (passed f true es) ≡ library_bytes l 0
library_passes f library.Putchar es h = one_arg f (int Int) es h
library_passes f library.Getchar es h = no_arg f es h
library_passes f library.Puts es h = one_arg f (pointer (plain void)) es h
library_passes f library.Exit es h = one_arg f (int Int) es h
library_passes f library.Memcpy es h = sizes_sum f (pointer (plain void)) (pointer_size f (plain void)) (plain void) (int UInt) es h
library_passes f library.Memset es h = sizes_sum f (int Int) (int_size f) (plain void) (int UInt) es h
library_passes f library.Strcmp es h = two_args f (plain void) (pointer (plain void)) es h
library_passes f library.Strcpy es h = two_args f (plain void) (pointer (plain void)) es h
library_passes f library.Strlen es h = one_arg f (pointer (plain void)) es h
library_passes f library.Printf es h = one_arg f (pointer (plain void)) es h

plain_library : (f : Framed) (s : Site) (l : Library) → is_fast (bare s.callee) ≡ true → AreOf false s.args (library_types l) → bytes_in (bytes_of f s) ≡ library_bytes l 0
plain_library f s l fast taken = ap (λ (b : Bool). bytes_in (passed f b s.args)) fast ∙ library_passes f l s.args taken

pub agreed_library : (f : Framed) (s : Site) (l : Library) (y : ℕ) → LibraryAgrees s l → (takes_more l ≡ true → y ≡ bytes_in (bytes_of f s)) → bytes_in (bytes_of f s) ≡ library_bytes l y
agreed_library f s library.Putchar y agrees counted = plain_library f s library.Putchar agrees.fast agrees.taken
agreed_library f s library.Getchar y agrees counted = plain_library f s library.Getchar agrees.fast agrees.taken
agreed_library f s library.Puts y agrees counted = plain_library f s library.Puts agrees.fast agrees.taken
agreed_library f s library.Exit y agrees counted = plain_library f s library.Exit agrees.fast agrees.taken
agreed_library f s library.Memcpy y agrees counted = plain_library f s library.Memcpy agrees.fast agrees.taken
agreed_library f s library.Memset y agrees counted = plain_library f s library.Memset agrees.fast agrees.taken
agreed_library f s library.Strcmp y agrees counted = plain_library f s library.Strcmp agrees.fast agrees.taken
agreed_library f s library.Strcpy y agrees counted = plain_library f s library.Strcpy agrees.fast agrees.taken
agreed_library f s library.Strlen y agrees counted = plain_library f s library.Strlen agrees.fast agrees.taken
agreed_library f s library.Printf y agrees counted = sym (counted refl)

read_sp : (input : List ℕ) (t : State) (row : Row) → (read_row input t row).sp ≡ row.sp
read_sp [] t row = refl
read_sp (v ∷ input) t row = refl

row_sp : (row : Row) (t u : State) → MeetsRow (Some row) t u → sp_of u ≡ row.sp
row_sp row t u m = m.sp

print_sp : (text : Option (List ℕ)) (t : State) (row : Row) → IsTrue (print_row t text row).ready → sp_of t + t.regs.y < 65536 → (print_row t text row).sp ≡ sp_of t + t.regs.y
print_sp None t row ready below = absurd (let h : false ≡ true = ready in cc)
print_sp (Some text) t row ready below = omega (arith, below)

pub library_sp : (l : Library) (t u : State) → MeetsRow (row_of (routines.Library l) t) t u → (takes_more l ≡ true → IsReady (row_of (routines.Library l) t)) → (takes_more l ≡ true → sp_of t + t.regs.y < 65536) → sp_of u ≡ sp_of t + library_bytes l t.regs.y
library_sp Putchar t u m ready below = let same : sp_of u ≡ sp_of t = row_sp _ t u m in omega (arith, same)
library_sp Getchar t u m ready below = let same : sp_of u ≡ sp_of t = row_sp _ t u m ∙ read_sp t.input t (costing 256 (row_by (routines.Library Getchar) t)) in omega (arith, same)
library_sp Puts t u m ready below = let same : sp_of u ≡ sp_of t = row_sp _ t u m in omega (arith, same)
library_sp Exit t u m ready below = let same : sp_of u ≡ sp_of t = row_sp _ t u m in omega (arith, same)
library_sp Memcpy t u m ready below = row_sp _ t u m
library_sp Memset t u m ready below = row_sp _ t u m
library_sp Strcmp t u m ready below = row_sp _ t u m
library_sp Strcpy t u m ready below = row_sp _ t u m
library_sp Strlen t u m ready below = let same : sp_of u ≡ sp_of t = row_sp _ t u m in omega (arith, same)
library_sp Printf t u m ready below = row_sp _ t u m ∙ print_sp (printed_of t) t (costing 256 (row_by (routines.Library Printf) t)) (ready refl) (below refl)
