-- What pending work finds among the waiting values.
use Rattle.std.specs.Prelude.{◌≡◌, ℕ, ℤ, pos, negsuc, Bool, true, false, List, [], ◌∷◌, Result, Ok, Err, Some, IsSome, IsTrue, All, Contains, ⊤}
use Rattle.c65_base.specs.declared.operators.UnaryOp.{UnaryOp}
use Rattle.c65_base.specs.declared.operators.UnaryOp.TheVariants.{Neg, BitNot, Not}
use Rattle.c65_base.specs.declared.operators.BinaryOp.{BinaryOp}
use Rattle.c65_base.specs.declared.operators.BinaryOp.TheVariants.{Add, Sub, Lt, Gt, Le, Ge, Eq, Ne}
use Rattle.c65_ints.specs.Ranges.{is_signed_of}
use Rattle.c65_ctype.specs.Trees.{Ty, void, int, pointer, array, tag, function, type_in, Fn}
use Rattle.c65_base.specs.declared.library.Library.{Library}
use Rattle.c65_base.specs.declared.library.Library.TheVariants as the
use Rattle.c65_csem.specs.Trees.{Typed, type_of, MaybeTyped, absent, present, Stmt, Stmts, FuncTy, UnitTy}
use Rattle.c65_csem.specs.Places.{is_place, plain, plain_of}
use Rattle.c65_csem.specs.Typed.{IsTyped, result_of}
use Rattle.c65_csem.specs.Statements.{Context, IsStmt, AreStmts, NamesAutomatic, CanBreak, labels_of}
use Rattle.c65_meaning.specs.Why.{Why, By, Unfit}
use Rattle.c65_meaning.specs.Store.{Cell, Piece, Block, Store, Value, Whole, Null, Place, Opaque, Cells, NoValue, nth_cell, Shape, Number, Field, Pointer, Area}
use Rattle.c65_meaning.specs.Operators.{is_post}
use Rattle.c65_meaning.specs.Fits.{IsTarget, result_shape, unary_shape}
use Rattle.c65_meaning.specs.Calls.{passed_to}
use Rattle.c65_meaning.specs.Items.{Item, Push, Name, Follow, Move, Fetch, Keep, Change, Apply1, Apply2, Both, Either, Truth, Choose, Drop, Put, Peek, Bump, PutUnder, Carry, Gather, Lay, Reach, Invoke, Busy, Loop, Skip, Init, CarryInto, Wipe, Begin, End, Branch, Test, Pass, Enter, Next, Back, Check, Redo, Select, EndSwitch, Jump, LeaveLoop, GoOn, Give, GiveNothing, Leave}
use Rattle.c65_meaning.specs.State.{Scene, State, Undefined, Running}
use Rattle.c65_meaning_law.specs.Laws.{HasBlock, HasRest, AreThere}
use Rattle.c65_meaning_law.specs.Library.{AreArguments}
use Rattle.c65_csem_names.specs.Scopes.{IsScoped, AreScoped, entering}
use Rattle.c65_meaning_law.specs.Statements.{IsReady}

-- a number of a signed type or of an unsigned one, a pointer, a place, the cells of a structure or union, and any value but cells
pub data Kind : Type 0 where
  arithmetic : (signed : Bool) → Kind
  pointing : Kind
  naming : Kind
  carrying : Kind
  free : Kind

-- how a loop or switch, a loop's body, or a call is left
pub data Exit : Type 0 where
  breaking : Exit
  continuing : Exit
  returning : Exit

-- where a statement stands it may leave so
abbrev pub Allows : Context → Exit → Type 0
Allows x breaking = CanBreak x
Allows x continuing = IsTrue x.in_loop
Allows x returning = ⊤

abbrev pub kind_in : Shape → Kind
kind_in (Number t) = arithmetic (is_signed_of t)
kind_in (Field t low width) = arithmetic (is_signed_of t)
kind_in (Pointer size) = pointing
kind_in (Area size) = free

abbrev pub kind_at : Ty → Kind
kind_at void = free
kind_at (int k) = arithmetic (is_signed_of k)
kind_at (pointer q) = pointing
kind_at (array q n) = naming
kind_at (tag n) = naming
kind_at (function f) = naming

abbrev pub kind_if : Bool → Ty → Kind
kind_if true t = naming
kind_if false t = kind_at t

abbrev pub kind_of : Typed → Kind
kind_of e = kind_if (is_place e) (type_in (type_of e))

-- of what is passed or returned
abbrev pub kind_passed : Ty → Kind
kind_passed (tag n) = carrying
kind_passed t = kind_at t

-- of what a function gives
abbrev pub kind_given : Fn → Kind
kind_given f = kind_passed (type_in (plain_of (result_of f)))

abbrev pub kind_from : Library → Kind
kind_from the.Memcpy = pointing
kind_from the.Memset = pointing
kind_from the.Strcpy = pointing
kind_from the.Exit = free
kind_from the.Strlen = arithmetic false
kind_from the.Printf = arithmetic true
kind_from _ = arithmetic true

-- of values other than cells
abbrev pub IsSimple : Kind → Type 0
IsSimple carrying = ⊥
IsSimple _ = ⊤

abbrev pub Below : Kind → Kind → Type 0
Below y free = IsSimple y
Below (arithmetic s) (arithmetic t) = s ≡ t
Below pointing pointing = ⊤
Below naming naming = ⊤
Below carrying carrying = ⊤
Below _ _ = ⊥

abbrev pub IsScalarShape : Shape → Type 0
IsScalarShape (Area size) = ⊥
IsScalarShape _ = ⊤

-- what an operator applies to
abbrev pub Operates : UnaryOp → Shape → Kind → Type 0
Operates Neg (Number t) (arithmetic s) = ⊤
Operates BitNot (Number t) (arithmetic s) = ⊤
Operates Not s x = IsSimple x
Operates _ s x = ⊥

abbrev pub is_move : BinaryOp → Bool
is_move Add = true
is_move Sub = true
is_move _ = false

abbrev pub is_add : BinaryOp → Bool
is_add Add = true
is_add _ = false

abbrev pub meets : BinaryOp → Bool
meets Sub = true
meets Lt = true
meets Gt = true
meets Le = true
meets Ge = true
meets Eq = true
meets Ne = true
meets _ = false

abbrev pub Combines : BinaryOp → Shape → Shape → Type 0
Combines op (Number t) (Number r) = ⊤
Combines op (Pointer size) (Number r) = IsTrue (is_move op)
Combines op (Number t) (Pointer size) = IsTrue (is_add op)
Combines op (Pointer size) (Pointer other) = IsTrue (meets op)
Combines op _ _ = ⊥

-- of what an operator gives
abbrev pub joined : BinaryOp → Shape → Shape → Kind
joined op l r = kind_in (result_shape op l r)

abbrev pub turned_kind : UnaryOp → Shape → Kind
turned_kind op s = kind_in (unary_shape op s)

-- a value of one shape may be taken as one of the other
abbrev pub Becomes : Shape → Shape → Type 0
Becomes f (Number t) = ⊤
Becomes f (Pointer size) = ⊤
Becomes f (Field t low width) = kind_in f ≡ arithmetic (is_signed_of t)
Becomes f (Area size) = ⊥

abbrev pub with_kind : Bool → Kind → List Kind → List Kind
with_kind true x ks = x ∷ ks
with_kind false x ks = ks

-- what went well has the property, and what did not is a numbered action
abbrev pub Sound : {A : Type 0} → (A → Type 0) → Result A Why → Type 0
Sound P (Ok x) = P x
Sound P (Err (By action)) = ⊤
Sound P (Err Unfit) = ⊥

abbrev pub Gives : Kind → (List Kind → Type 0) → List Kind → Type 0
Gives y f ks = (x : Kind) × Below y x × f (x ∷ ks)

-- a number of an unsigned type is not negative
abbrev pub IsOfSign : Bool → ℤ → Type 0
IsOfSign true z = ⊤
IsOfSign false (pos n) = ⊤
IsOfSign false (negsuc n) = ⊥

module _ (D : ℕ → Type 0) where
  abbrev pub CellFits : Cell → Type 0
  CellFits (Piece i b o) = D b
  CellFits _ = ⊤

  abbrev pub CellsFit : (ℕ → Cell) → Type 0
  CellsFit cells = (q : ℕ) → CellFits (cells q)

  abbrev pub Stands : Value → Type 0
  Stands (Place b o) = D b
  Stands (Cells xs) = CellsFit (nth_cell xs)
  Stands _ = ⊤

  abbrev pub Suits : Kind → Value → Type 0
  Suits free (Cells xs) = ⊥
  Suits free v = Stands v
  Suits carrying (Cells xs) = CellsFit (nth_cell xs)
  Suits carrying NoValue = ⊤
  Suits (arithmetic s) (Whole z) = IsOfSign s z
  Suits (arithmetic s) Opaque = ⊤
  Suits (arithmetic s) NoValue = ⊤
  Suits pointing Null = ⊤
  Suits pointing (Place b o) = D b
  Suits pointing Opaque = ⊤
  Suits pointing NoValue = ⊤
  Suits naming (Place b o) = D b
  Suits _ v = ⊥

  abbrev pub AreSuited : List Kind → List Value → Type 0
  AreSuited [] vs = ⊤
  AreSuited (x ∷ ks) [] = ⊥
  AreSuited (x ∷ ks) (v ∷ vs) = Suits x v × AreSuited ks vs

  pub record StoreFits (s : Store) : Type 0 where
    pub there : (b : ℕ) → D b → IsSome (s b)
    pub all : (b : ℕ) (x : Block) → s b ≡ Some x → CellsFit x.cells

-- ---- calls

-- an active call: its function and body, the kinds of the values that wait below it, and the work behind its end
pub record Call : Type 0 where
  pub func : FuncTy
  pub code : Stmt
  pub base : List Kind
  pub behind : List Item

-- what runs: an expression or a statement by itself, or the body of a call
pub data Setting : Type 0 where
  expression : Setting
  statement : Setting
  inside : Call → Setting

abbrev pub HasStatements : Setting → Type 0
HasStatements expression = ⊥
HasStatements statement = ⊤
HasStatements (inside call) = ⊤

abbrev pub IsCalled : Setting → Type 0
IsCalled (inside call) = ⊤
IsCalled _ = ⊥

-- work ends with its list, but in a call
abbrev pub MayEnd : Setting → Type 0
MayEnd expression = ⊤
MayEnd statement = ⊤
MayEnd (inside call) = ⊥

-- where a statement stands in the body of the call
abbrev pub IsContext : Setting → Context → Type 0
IsContext (inside call) x = (x.labels ≡ labels_of call.code) × (x.gives ≡ plain_of (result_of call.func.ty))
IsContext _ x = ⊤

abbrev pub HasLabel : Setting → ℕ → Type 0
HasLabel (inside call) l = Contains (labels_of call.code) l
HasLabel _ l = ⊤

abbrev pub IsReturned : Setting → Kind → Type 0
IsReturned (inside call) x = Below x (kind_given call.func.ty)
IsReturned _ x = ⊤

-- at the end of the call nothing of it waits
abbrev pub IsAtEnd : Setting → Exit → List Item → List Kind → Type 0
IsAtEnd (inside call) returning k ks = (k ≡ call.behind) × (ks ≡ call.base)
IsAtEnd _ y k ks = ⊥

-- a called function, by the type of the callee and those of the arguments
pub record IsCallee (callee : Ty) (types : List Ty) : Type 0 where
  pub type : Fn
  pub named : callee ≡ pointer (plain (function type))
  pub passed : passed_to (Some type) types ≡ types

-- arguments of these types wait above
abbrev pub pushed : List Ty → List Kind → List Kind
pushed [] ks = ks
pushed (t ∷ rest) ks = pushed rest (kind_passed t ∷ ks)

-- ---- what began in a scene

module _ (u : UnitTy) (c : Scene) where
  abbrev pub D : ℕ → Type 0
  D b = IsSome (c.store b)

  pub record IsPart (e : Typed) : Type 0 where
    pub typed : IsTyped u e
    pub there : AreThere u c e

  abbrev pub IsArmOf : Kind → Typed → Type 0
  IsArmOf y e = IsPart e × Below (kind_of e) y

  abbrev pub IsMaybePart : MaybeTyped → Type 0
  IsMaybePart absent = ⊤
  IsMaybePart (present e) = IsPart e

  abbrev pub HaveBlocks : List ℕ → Type 0
  HaveBlocks [] = ⊤
  HaveBlocks (i ∷ rest) = HasBlock u c i × HaveBlocks rest

  -- a scene of the same calls
  pub record IsScene (d : Scene) : Type 0 where
    pub frames : d.frames ≡ c.frames
    pub store : StoreFits D d.store

abbrev pub HasTest : MaybeTyped → Type 0
HasTest absent = ⊥
HasTest (present e) = ⊤

-- every way in which a statement may leave leads to what is said of it
abbrev pub Leads : Context → (Exit → List Kind → Type 0) → List Kind → Type 0
Leads x q ks = (y : Exit) → Allows x y → q y ks

module _ (m : Setting) (u : UnitTy) (c : Scene) where
  -- a statement whose names are in scope, and whose scope has blocks
  pub record IsWork (s : Stmt) : Type 0 where
    pub variadic : Bool
    pub scope : List ℕ
    pub context : Context
    pub placed : IsContext m context
    pub typed : IsStmt u context s
    pub scoped : IsScoped u variadic scope s
    pub ready : IsReady u variadic scope c

  -- a block that is to begin: its objects come into scope
  pub record IsBlock (objects : List ℕ) (ss : Stmts) : Type 0 where
    pub variadic : Bool
    pub scope : List ℕ
    pub context : Context
    pub placed : IsContext m context
    pub automatic : All (NamesAutomatic u) objects
    pub typed : AreStmts u context ss
    pub scoped : AreScoped u variadic (entering objects scope) ss
    pub ready : IsReady u variadic scope c

  pub record IsLoop (l : Loop) : Type 0 where
    pub body : IsWork l.body
    pub test : IsMaybePart u c l.test
    pub next : IsMaybePart u c l.next

  -- what an item of a statement does
  abbrev pub Acts : Item → (List Kind → Type 0) → (Exit → List Kind → Type 0) → List Kind → Type 0
  Acts Skip f q ks = f ks
  Acts (Init i o s) f q (x ∷ ks) = HasBlock u c i × f ks
  Acts (CarryInto i o done size) f q (naming ∷ ks) = HasBlock u c i × f ks
  Acts (Wipe i done size) f q ks = HasBlock u c i × f ks
  Acts (Begin n objects body) f q ks = (h : IsBlock objects body) × f ks × Leads h.context q ks
  Acts (End objects) f q ks = f ks
  Acts (Branch at a n b) f q (x ∷ ks) = (g : IsWork a) × (h : IsWork b) × f ks × Leads g.context q ks × Leads h.context q ks × IsSimple x
  Acts (Test l) f q (x ∷ ks) = IsLoop l × f ks × q returning ks × IsSimple x
  Acts (Pass l) f q ks = IsLoop l × f ks × q returning ks
  Acts (Enter l) f q ks = IsLoop l × f ks × q returning ks × HasTest l.test
  Acts (Next l) f q ks = IsLoop l × f ks × q returning ks
  Acts (Back l) f q (x ∷ ks) = IsLoop l × f ks × q returning ks
  Acts (Check l) f q ks = IsLoop l × f ks × q returning ks × HasTest l.test
  Acts (Redo l) f q (x ∷ ks) = IsLoop l × f ks × q returning ks × HasTest l.test × IsSimple x
  Acts (Select left n body) f q (arithmetic s ∷ ks) = (h : IsWork body) × f ks × q returning ks × (IsTrue h.context.in_loop → q continuing ks)
  Acts EndSwitch f q ks = f ks
  Acts (Jump l n) f q ks = HasLabel m l × q returning ks
  Acts LeaveLoop f q ks = q breaking ks
  Acts GoOn f q ks = q continuing ks
  Acts Give f q (x ∷ ks) = IsReturned m x × q returning ks
  Acts GiveNothing f q ks = q returning ks
  Acts _ f q ks = ⊥

  abbrev pub Does : Item → List Item → (List Kind → Type 0) → (Exit → List Kind → Type 0) → List Kind → Type 0
  Does (Push v) k f q ks = (x : Kind) × Suits (D u c) x v × f (x ∷ ks)
  Does (Name i) k f q ks = HasBlock u c i × Gives naming f ks
  Does Follow k f q (pointing ∷ ks) = Gives naming f ks
  Does (Move o) k f q (naming ∷ ks) = Gives naming f ks
  Does (Fetch s) k f q (naming ∷ ks) = IsScalarShape s × Gives (kind_in s) f ks
  Does Keep k f q (naming ∷ ks) = Gives pointing f ks
  Does (Change to) k f q (x ∷ ks) = IsTarget to × Gives (kind_in to) f ks × IsSimple x
  Does (Apply1 op s) k f q (x ∷ ks) = Operates op s x × Gives (turned_kind op s) f ks
  Does (Apply2 op l r) k f q (y ∷ x ∷ ks) = Combines op l r × (y ≡ kind_in r) × (x ≡ kind_in l) × Gives (joined op l r) f ks
  Does (Both b) k f q (x ∷ ks) = IsPart u c b × Gives (arithmetic true) f ks × IsSimple x
  Does (Either b) k f q (x ∷ ks) = IsPart u c b × Gives (arithmetic true) f ks × IsSimple x
  Does Truth k f q (x ∷ ks) = Gives (arithmetic true) f ks × IsSimple x
  Does (Choose a b) k f q (x ∷ ks) = (y : Kind) × IsArmOf u c y a × IsArmOf u c y b × f (y ∷ ks) × IsSimple x
  Does Drop k f q (x ∷ ks) = f ks
  Does (Put s) k f q (y ∷ naming ∷ ks) = IsScalarShape s × Gives (kind_in s) f ks
  Does (Peek s to) k f q (naming ∷ ks) = IsScalarShape s × Becomes s to × f (kind_in to ∷ naming ∷ ks)
  Does (Bump kind s) k f q (y ∷ naming ∷ ks) = IsScalarShape s × (y ≡ kind_in s) × (x : Kind) × Below (kind_in s) x × f (kind_in s ∷ naming ∷ with_kind (is_post kind) x ks)
  Does (PutUnder s) k f q (y ∷ naming ∷ ks) = f ks
  Does (Carry done size) k f q (naming ∷ naming ∷ ks) = Gives naming f ks
  Does (Gather size) k f q (naming ∷ ks) = Gives carrying f ks
  Does (Lay i done size) k f q (carrying ∷ ks) = HasBlock u c i × Gives naming f ks
  Does Reach k f q ks = HasRest c × Gives pointing f ks
  Does (Invoke callee types) k f q ks = (h : IsCallee callee types) × (rest : List Kind) × (ks ≡ pushed types (pointing ∷ rest)) × Gives (kind_given h.type) f rest
  Does (Busy left library args rest) k f q ks = IsCalled m × (AreArguments c.store library args × CellsFit (D u c) (nth_cell rest)) × Gives (kind_from library) f ks
  Does Leave k f q ks = IsAtEnd m returning k ks
  Does i k f q ks = HasStatements m × Acts i f q ks

  abbrev mutual
    pub Takes : List Item → List Kind → Type 0
    Takes [] ks = MayEnd m
    Takes (i ∷ k) ks = Does i k (Takes k) (Out k) ks

    -- behind the innermost loop or switch that is open, at the end of the innermost loop's body, or at the end of the call
    pub Out : List Item → Exit → List Kind → Type 0
    Out [] y ks = MayEnd m
    Out (Next l ∷ k) breaking ks = Takes k ks
    Out (Next l ∷ k) continuing ks = Does (Next l) k (Takes k) (Out k) ks
    Out (Check l ∷ k) breaking ks = Takes k ks
    Out (Check l ∷ k) continuing ks = Does (Check l) k (Takes k) (Out k) ks
    Out (EndSwitch ∷ k) breaking ks = Takes k ks
    Out (End objects ∷ k) returning ks = HaveBlocks u c objects × Out k returning ks
    Out (Leave ∷ k) y ks = IsAtEnd m y k ks
    Out (_ ∷ k) y ks = Out k y ks

  pub record IsRunning (work : List Item) (vs : List Value) (d : Scene) : Type 0 where
    pub kinds : List Kind
    pub takes : Takes work kinds
    pub suited : AreSuited (D u c) kinds vs
    pub scene : IsScene u c d

  abbrev pub IsGood : State → Type 0
  IsGood (Undefined Unfit) = ⊥
  IsGood (Running work vs d) = IsRunning work vs d
  IsGood _ = ⊤
