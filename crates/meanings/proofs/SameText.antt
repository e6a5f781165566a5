-- The text of a class of this form does in Kotlin what it does in Java.
use Rattle.std.proofs.Common.{◌≡◌, ℕ, zero, suc, ◌+◌, pos, Bool, true, false, ◌&&◌, List, [], ◌∷◌, ◌++◌, map, ◌∙◌, length, Option, Some, None, if◌then◌else◌, refl, ap, sym, subst}
use Rattle.std.specs.Prelude.{option_map, filter_map}
use Rattle.std.specs.List.{cons_option}
use Rattle.java_tree.specs.declared.tokens.Position.{Position}
use Rattle.j2k_base.specs.declared.constants.Const.TheVariants as const
use Rattle.j2k_base.specs.declared.constants.Value.TheVariants as constant
use Rattle.j2k_base.specs.declared.constants.Op2.{Op2}
use Rattle.j2k_base.specs.declared.constants.Op2.TheVariants as op
use Rattle.java_typed.specs.declared.exprs.TExpr.{TExpr, map-TExpr, fold-TExpr, fold-roll-TExpr, roll-TExpr}
use Rattle.java_typed.specs.declared.exprs.TExpr.TheOpen.{TExpr-F}
use Rattle.meanings.specs.declared.kotlin.KExpr.TheOpen.{KExpr-F}
use Rattle.meanings.specs.declared.kotlin.KExpr.TheVariants as ke
use Rattle.meanings.specs.Taken.{is_operator, operator_of, is_taken, Statement, Declares, Prints, Untaken, are_taken, MainMethod, MainClass}
use Rattle.meanings.specs.Convert.{expression_of, statement_of, main_of, classes_of}
use Rattle.meanings.specs.declared.operators.Operator.{Operator}
use Rattle.meanings.specs.declared.operators.Operator.TheVariants.{Plus, Minus, Times}
use Rattle.j2k_base.specs.declared.constants.Const.{Const}
use Rattle.const_fold.specs.Constants.{operated}
use Rattle.meanings.specs.Values.{Name, same_name, Simple, Site, same_site, Kind, Value, Null, Integer, Boolean, Units, Class, Companion, Object, Array, Lambda, Int, Step, Print as PrintStep, Start as StartStep, Answer, Ready, Run, Mine, Failed, Done, Given, Raised, is_null, integer_in, text_of}
use Rattle.meanings.specs.Operators.{operation}
use Rattle.meanings.specs.Outcome.{Locals, get, State, Exits, Returns, Throws, Outcome, Asks, Busy, Gives, Jumps, Meaning, then_do, pure, torn, ◌>>◌, ask_from, pay_from, assign_all}
use Rattle.meanings.specs.Machine.{Bodies, Place, valued, arithmetic, received, ask_done, print_line, returned, sequence}
use Rattle.meanings.specs.Program.{Program, Body, Start, Enters, Runs, thread_from, turn, Turn, Next, IsBusy, Ended, at_end, enter, place, bodies, main_site}
use Rattle.meanings.specs.Static.{KType, type_of, is_non_null, Static, declared, past, extended, main_static}
use Rattle.meanings.specs.Java.{constant_value, java_expr, java_stmt, java_main, java_method, java_program, JavaThread}
use Rattle.meanings.specs.Kotlin.{used, operator_kind, kotlin_expr, kotlin_stmts, kotlin_main, kotlin_method, kotlin_program, KotlinThread}
use Rattle.meanings.proofs.Layers.{both_are, java_induct, java_at, convert_at, kotlin_at}
use Rattle.meanings.proofs.Units.{MainTaken, ClassesTaken}

-- ---- no value is null, nor an object, whose text would be a body's

abbrev pub is_plain : Value → Bool
is_plain Null = false
is_plain (Object class k captured) = false
is_plain (Integer kind z) = true
is_plain (Boolean b) = true
is_plain (Units units) = true
is_plain (Class name) = true
is_plain (Companion name) = true
is_plain (Array elements length k) = true
is_plain (Lambda site k captured) = true

plain_not_null : (v : Value) → is_plain v ≡ true → is_null v ≡ false
plain_not_null Null h = cc
plain_not_null (Object class k captured) h = refl
plain_not_null (Integer kind z) h = refl
plain_not_null (Boolean b) h = refl
plain_not_null (Units units) h = refl
plain_not_null (Class name) h = refl
plain_not_null (Companion name) h = refl
plain_not_null (Array elements length k) h = refl
plain_not_null (Lambda site k captured) h = refl

abbrev pub AllGiven : List Value → Type 0
AllGiven [] = Unit {0}
AllGiven (v ∷ vs) = (is_plain v ≡ true) × AllGiven vs

-- whatever name is read
abbrev pub LocalsGiven : Locals → Type 0
LocalsGiven locals = (name : Name) → is_plain (get locals name) ≡ true

if_given : (b : Bool) (v w : Value) → is_plain v ≡ true → is_plain w ≡ true → is_plain (if b then v else w) ≡ true
if_given true v w h g = h
if_given false v w h g = g

pub more_given : (x : Name) (v : Value) (locals : Locals) → is_plain v ≡ true → LocalsGiven locals → LocalsGiven ((x, v) ∷ locals)
more_given x v locals h g name = if_given (same_name x name) v (get locals name) h (g name)

pub none_given : LocalsGiven []
none_given name = refl

-- ---- expressions make no step and give a value

-- what an operator gives
abbrev operates : Operator → Value → Value → Value
operates operator v w = result (operated (operation operator) Int Int (integer_in v) (integer_in w))
  where
    result : Option Const → Value
    result None = Null
    result (Some c) = valued c

operates_is : (operator : Operator) (v w : Value) (s : State) → arithmetic (operation operator) Int Int v w s ≡ Gives (operates operator v w) s
operates_is Plus v w s = refl
operates_is Minus v w s = refl
operates_is Times v w s = refl

operates_plain : (operator : Operator) (v w : Value) → is_plain (operates operator v w) ≡ true
operates_plain Plus v w = refl
operates_plain Minus v w = refl
operates_plain Times v w = refl

-- an operator that is taken is that of its spelling
operation_is : (o : Op2) → is_operator o ≡ true → (v w : Value) (s : State) → arithmetic o Int Int v w s ≡ Gives (operates (operator_of o) v w) s
operation_is op.Add h v w s = refl
operation_is op.Sub h v w s = refl
operation_is op.Mul h v w s = refl
operation_is op.Div h v w s = absurd (cc h)
operation_is op.Rem h v w s = absurd (cc h)
operation_is op.Shl h v w s = absurd (cc h)
operation_is op.Shr h v w s = absurd (cc h)
operation_is op.Ushr h v w s = absurd (cc h)
operation_is op.And h v w s = absurd (cc h)
operation_is op.Or h v w s = absurd (cc h)
operation_is op.Xor h v w s = absurd (cc h)
operation_is op.Lt h v w s = absurd (cc h)
operation_is op.Le h v w s = absurd (cc h)
operation_is op.Gt h v w s = absurd (cc h)
operation_is op.Ge h v w s = absurd (cc h)
operation_is op.Eq h v w s = absurd (cc h)
operation_is op.Ne h v w s = absurd (cc h)
operation_is op.AndAlso h v w s = absurd (cc h)
operation_is op.OrElse h v w s = absurd (cc h)

abbrev value_by : Locals → TExpr-F Value → Value
value_by locals (TExpr-F.Literal v at) = constant_value v
value_by locals (TExpr-F.Local name at k) = get locals name
value_by locals (TExpr-F.Paren at v) = v
value_by locals (TExpr-F.Binary v o at w) = operates (operator_of o) v w
value_by locals _ = Null

pub value : Locals → TExpr → Value
value locals = fold-TExpr Value (value_by locals)

value_at : (locals : Locals) (x : TExpr-F TExpr) → value locals (roll-TExpr x) ≡ value_by locals (map-TExpr TExpr Value (value locals) x)
unfolding value
value_at locals x = fold-roll-TExpr Value (value_by locals) x

-- a literal of n
abbrev literal : ℕ → Position → TExpr-F TExpr
literal n at = TExpr-F.Literal (constant.Number (const.Int (pos n))) at

pub value_given : (locals : Locals) → LocalsGiven locals → (e : TExpr) → is_taken e ≡ true → is_plain (value locals e) ≡ true
value_given locals h = java_induct (λ e. is_plain (value locals e) ≡ true) (record {
  local = λ name at k. rw (value_at locals (TExpr-F.Local name at k)) (h name);
  number = λ n at. rw (value_at locals (literal n at)) refl;
  paren = λ at e given. rw (value_at locals (TExpr-F.Paren at e)) given;
  binary = λ a o at b is left right. rw (value_at locals (TExpr-F.Binary a o at b)) (operates_plain (operator_of o) (value locals a) (value locals b));
})

java_expr_is : (p : Place) (e : TExpr) → is_taken e ≡ true → (s : State) → java_expr p e s ≡ Gives (value s.locals e) s
java_expr_is p = java_induct (λ e. (s : State) → java_expr p e s ≡ Gives (value s.locals e) s) (record {
  local = λ name at k s. rw (java_at p (TExpr-F.Local name at k), value_at s.locals (TExpr-F.Local name at k)) refl;
  number = λ n at s. rw (java_at p (literal n at), value_at s.locals (literal n at)) refl;
  paren = λ at e is s. rw (java_at p (TExpr-F.Paren at e), value_at s.locals (TExpr-F.Paren at e)) (is s);
  binary = λ a o at b is left right s.
      rw (java_at p (TExpr-F.Binary a o at b), value_at s.locals (TExpr-F.Binary a o at b), left s, right s) (operation_is o is (value s.locals a) (value s.locals b) s);
})

-- what isn't null is no Torn, whatever the type
if_used : (b c : Bool) (v : Value) (s : State) → c ≡ false → (if b && c then torn {A = Value} else pure v) s ≡ Gives v s
if_used true true v s h = cc
if_used true false v s h = refl
if_used false true v s h = refl
if_used false false v s h = refl

used_is : (type : Option KType) (v : Value) (s : State) → is_null v ≡ false → used type v s ≡ Gives v s
used_is None v s h = refl
used_is (Some type) v s h = if_used (is_non_null type) (is_null v) v s h

pub operator_is_int : (type : Option KType) → operator_kind type ≡ Int
operator_is_int None = refl
operator_is_int (Some type) = refl

operates_as : (kind : Kind) → kind ≡ Int → (operator : Operator) (v w : Value) (s : State) → arithmetic (operation operator) kind kind v w s ≡ Gives (operates operator v w) s
operates_as kind is operator v w s = ap (λ (k : Kind). arithmetic (operation operator) k k v w s) is ∙ operates_is operator v w s

pub kotlin_expr_is : (p : Place) (e : TExpr) → is_taken e ≡ true → (static : Static) (s : State) → LocalsGiven s.locals → kotlin_expr (expression_of e) static p s ≡ Gives (value s.locals e) s
kotlin_expr_is p = java_induct (λ e. (static : Static) (s : State) → LocalsGiven s.locals → kotlin_expr (expression_of e) static p s ≡ Gives (value s.locals e) s) (record {
  local = λ name at k static s h.
      rw (convert_at (TExpr-F.Local name at k), kotlin_at (KExpr-F.Local name), value_at s.locals (TExpr-F.Local name at k))
      (used_is (declared static name) (get s.locals name) s (plain_not_null _ (h name)));
  number = λ n at static s h. rw (convert_at (literal n at), kotlin_at (KExpr-F.Number n), value_at s.locals (literal n at)) refl;
  paren = λ at e is static s h. rw (convert_at (TExpr-F.Paren at e), kotlin_at (KExpr-F.Paren (expression_of e)), value_at s.locals (TExpr-F.Paren at e)) (is static s h);
  binary = λ a o at b known left right static s h.
      rw (convert_at (TExpr-F.Binary a o at b), kotlin_at (KExpr-F.Binary (expression_of a) (operator_of o) (expression_of b)), value_at s.locals (TExpr-F.Binary a o at b), left static s h, right (past (expression_of a) static) s h)
      (operates_as _ (operator_is_int (type_of (ke.Binary (expression_of a) (operator_of o) (expression_of b)) static)) (operator_of o) (value s.locals a) (value s.locals b) s);
})

-- ---- statements

abbrev OnGives : {A : Type 0} → Outcome A → (State → Type 0) → Type 0
OnGives (Asks p) P = Unit {0}
OnGives Busy P = Unit {0}
OnGives (Gives a s) P = P s
OnGives (Jumps j s) P = Unit {0}

then_same : {A B : Type 0} (P : State → Type 0) (o : Outcome A) (f g : A → Meaning B) → OnGives o P → ((a : A) (s : State) → P s → f a s ≡ g a s) → then_do o f ≡ then_do o g
then_same P (Asks p) f g h same = refl
then_same P Busy f g h same = refl
then_same P (Gives a s) f g h same = same a s h
then_same P (Jumps j s) f g h same = refl

abbrev Given' : State → Type 0
Given' s = LocalsGiven s.locals

received_keeps : (a : Answer) (s : State) → LocalsGiven s.locals → OnGives (then_do (received a s) (λ v. pure (tt {0}))) Given'
received_keeps (Given v) s h = h
received_keeps (Raised v) s h = tt
received_keeps Ready s h = h
received_keeps Run s h = h
received_keeps Mine s h = h
received_keeps Failed s h = h
received_keeps Done s h = h

asked_keeps : (p : Step) (s : State) (xs : List Answer) → LocalsGiven s.locals → OnGives (then_do (then_do (ask_from p s xs) received) (λ v. pure (tt {0}))) Given'
asked_keeps p s [] h = tt
asked_keeps p s (a ∷ xs) h = received_keeps a (record s { answers = xs }) h

-- the text of a plain value is printed
unfoldable pub prints : Value → Meaning (Unit {0})
prints v = ask_done (PrintStep (text_of v ++ 10 ∷ []))

pub print_line_is : (p : Place) (v : Value) (s : State) → is_plain v ≡ true → print_line p v s ≡ prints v s
unfolding prints
print_line_is p Null s h = cc
print_line_is p (Object class k captured) s h = cc
print_line_is p (Integer kind z) s h = refl
print_line_is p (Boolean b) s h = refl
print_line_is p (Units units) s h = refl
print_line_is p (Class name) s h = refl
print_line_is p (Companion name) s h = refl
print_line_is p (Array elements length k) s h = refl
print_line_is p (Lambda site k captured) s h = refl

prints_keeps : (v : Value) (s : State) → LocalsGiven s.locals → OnGives (prints v s) Given'
unfolding prints
prints_keeps v s h = asked_keeps _ s s.answers h

-- the text of a value at two places, before what does the same
printed_same : (p q : Place) (v : Value) (f g : Meaning (Unit {0})) (s : State) → is_plain v ≡ true → LocalsGiven s.locals →
    ((t : State) → LocalsGiven t.locals → f t ≡ g t) → then_do (print_line p v s) (λ a. f) ≡ then_do (print_line q v s) (λ a. g)
printed_same p q v f g s plain h same =
    ap (λ (o : Outcome (Unit {0})). then_do o (λ a. f)) (print_line_is p v s plain)
    ∙ then_same Given' (prints v s) (λ a. f) (λ a. g) (prints_keeps v s h) (λ a t given. same t given)
    ∙ ap (λ (o : Outcome (Unit {0})). then_do o (λ a. g)) (sym (print_line_is q v s plain))

pub text_same : (p q : Place) (body : List Statement) → are_taken body ≡ true → (static : Static) (s : State) → LocalsGiven s.locals →
    kotlin_stmts (map statement_of body) static p s ≡ sequence (map (java_stmt q) body) s
text_same p q [] taken static s h = refl
text_same p q (Declares name e ∷ more) taken static s h =
    let parts = both_are (is_taken e) (are_taken more) taken in
    rw (kotlin_expr_is p e parts.0 static s h, java_expr_is q e parts.0 s)
    (text_same p q more parts.1 (extended static (statement_of (Declares name e))) (record s { locals = (name, value s.locals e) ∷ s.locals }) (more_given name (value s.locals e) s.locals (value_given s.locals h e parts.0) h))
text_same p q (Prints e ∷ more) taken static s h =
    let parts = both_are (is_taken e) (are_taken more) taken in
    rw (kotlin_expr_is p e parts.0 static s h, java_expr_is q e parts.0 s)
    (printed_same p q (value s.locals e) (kotlin_stmts (map statement_of more) static p) (sequence (map (java_stmt q) more)) s (value_given s.locals h e parts.0) h
    (λ t given. text_same p q more parts.1 static t given))
text_same p q (Untaken ∷ more) taken static s h = absurd (cc taken)

-- ---- the steps of a text start no thread

abbrev pub is_calm : Step → Bool
is_calm (StartStep v) = false
is_calm _ = true

abbrev pub CalmOutcome : {A : Type 0} → Outcome A → Type 0
CalmOutcome (Asks p) = is_calm p ≡ true
CalmOutcome Busy = Unit {0}
CalmOutcome (Gives a s) = Unit {0}
CalmOutcome (Jumps j s) = Unit {0}

then_calm : {A B : Type 0} (P : State → Type 0) (o : Outcome A) (f : A → Meaning B) → CalmOutcome o → OnGives o P → ((a : A) (s : State) → P s → CalmOutcome (f a s)) → CalmOutcome (then_do o f)
then_calm P (Asks p) f h keeps g = h
then_calm P Busy f h keeps g = tt
then_calm P (Gives a s) f h keeps g = g a s keeps
then_calm P (Jumps j s) f h keeps g = tt

received_calm : (a : Answer) (s : State) → CalmOutcome (then_do (received a s) (λ v. pure (tt {0})))
received_calm (Given v) s = tt
received_calm (Raised v) s = tt
received_calm Ready s = tt
received_calm Run s = tt
received_calm Mine s = tt
received_calm Failed s = tt
received_calm Done s = tt

asked_calm : (p : Step) (s : State) (xs : List Answer) → is_calm p ≡ true → CalmOutcome (then_do (then_do (ask_from p s xs) received) (λ v. pure (tt {0})))
asked_calm p s [] h = h
asked_calm p s (a ∷ xs) h = received_calm a (record s { answers = xs })

prints_calm : (v : Value) (s : State) → CalmOutcome (prints v s)
unfolding prints
prints_calm v s = asked_calm _ s s.answers refl

printed_calm : (q : Place) (v : Value) (g : Meaning (Unit {0})) (s : State) → is_plain v ≡ true → LocalsGiven s.locals →
    ((t : State) → LocalsGiven t.locals → CalmOutcome (g t)) → CalmOutcome (then_do (print_line q v s) (λ a. g))
printed_calm q v g s plain h calm =
    subst (λ (o : Outcome (Unit {0})). CalmOutcome (then_do o (λ a. g))) (sym (print_line_is q v s plain)) (then_calm Given' (prints v s) (λ a. g) (prints_calm v s) (prints_keeps v s h) (λ a t given. calm t given))

text_calm : (q : Place) (body : List Statement) → are_taken body ≡ true → (s : State) → LocalsGiven s.locals → CalmOutcome (sequence (map (java_stmt q) body) s)
text_calm q [] taken s h = tt
text_calm q (Declares name e ∷ more) taken s h =
    let parts = both_are (is_taken e) (are_taken more) taken in
    rw (java_expr_is q e parts.0 s) (text_calm q more parts.1 (record s { locals = (name, value s.locals e) ∷ s.locals }) (more_given name (value s.locals e) s.locals (value_given s.locals h e parts.0) h))
text_calm q (Prints e ∷ more) taken s h =
    let parts = both_are (is_taken e) (are_taken more) taken in
    rw (java_expr_is q e parts.0 s) (printed_calm q (value s.locals e) (sequence (map (java_stmt q) more)) s (value_given s.locals h e parts.0) h (λ t given. text_calm q more parts.1 t given))
text_calm q (Untaken ∷ more) taken s h = absurd (cc taken)

-- ---- bodies

if_same : {A : Type 0} (b : Bool) (k k' j j' : Meaning A) (s : State) → k s ≡ j s → k' s ≡ j' s → (if b then k else k') s ≡ (if b then j else j') s
if_same true k k' j j' s h g = h
if_same false k k' j j' s h g = g

module _ (class : Name) (parameter : Name) (body : List Statement) (taken : are_taken body ≡ true) (p q : Place) where
  abbrev kotlin_text : Meaning (Unit {0})
  kotlin_text = kotlin_stmts (map statement_of body) (main_static class parameter) p

  abbrev java_text : Meaning (Unit {0})
  java_text = sequence (map (java_stmt q) body)

  -- the text with the argument of `main` in its place
  entered_same : (vs : List Value) → AllGiven vs → (s : State) → LocalsGiven s.locals →
      then_do (assign_all (parameter ∷ []) vs s) (λ a. kotlin_text) ≡ then_do (assign_all (parameter ∷ []) vs s) (λ a. java_text)
  entered_same [] given s h = text_same p q body taken (main_static class parameter) s h
  entered_same (v ∷ vs) given s h = text_same p q body taken (main_static class parameter) (record s { locals = (parameter, v) ∷ s.locals }) (more_given parameter v s.locals given.0 h)

  paid_same : (vs : List Value) → AllGiven vs → (s : State) → LocalsGiven s.locals → (n : ℕ) →
      then_do (pay_from s n) (λ a. assign_all (parameter ∷ []) vs >> kotlin_text) ≡ then_do (pay_from s n) (λ a. assign_all (parameter ∷ []) vs >> java_text)
  paid_same vs given s h zero = refl
  paid_same vs given s h (suc n) = entered_same vs given (record s { n = n }) h

  entered_calm : (vs : List Value) → AllGiven vs → (s : State) → LocalsGiven s.locals → CalmOutcome (then_do (assign_all (parameter ∷ []) vs s) (λ a. java_text))
  entered_calm [] given s h = text_calm q body taken s h
  entered_calm (v ∷ vs) given s h = text_calm q body taken (record s { locals = (parameter, v) ∷ s.locals }) (more_given parameter v s.locals given.0 h)

  paid_calm : (vs : List Value) → AllGiven vs → (s : State) → LocalsGiven s.locals → (n : ℕ) → CalmOutcome (then_do (pay_from s n) (λ a. assign_all (parameter ∷ []) vs >> java_text))
  paid_calm vs given s h zero = tt
  paid_calm vs given s h (suc n) = entered_calm vs given (record s { n = n }) h

-- the method of a class before others, whatever bodies they call
entered_first : (kotlin java : Program) (b b' : Bodies) (class : Name) (main : Option MainMethod) → MainTaken main → (rest rest' : List Body) (site : Site) (vs : List Value) → AllGiven vs → (s : State) → LocalsGiven s.locals →
    enter kotlin b rest site vs s ≡ enter java b' rest' site vs s →
    enter kotlin b (cons_option (option_map (kotlin_main class) (option_map main_of main)) rest) site vs s ≡ enter java b' (cons_option (option_map (java_main class) main) rest') site vs s
entered_first kotlin java b b' class None taken rest rest' site vs given s h same = same
entered_first kotlin java b b' class (Some main) taken rest rest' site vs given s h same =
    if_same (same_site (main_site class) site) _ _ _ _ s (paid_same class main.parameter main.body taken (place kotlin b (Simple class)) (place java b' (Simple class)) vs given s h s.n) same

-- the same methods of a list of classes
entered_among : (kotlin java : Program) (b b' : Bodies) (list : List MainClass) → ClassesTaken list → (site : Site) (vs : List Value) → AllGiven vs → (s : State) → LocalsGiven s.locals →
    enter kotlin b (filter_map kotlin_method (classes_of list)) site vs s ≡ enter java b' (filter_map java_method list) site vs s
entered_among kotlin java b b' [] taken site vs given s h = refl
entered_among kotlin java b b' (class ∷ list) taken site vs given s h = entered_first kotlin java b b' class.name class.main taken.0 _ _ site vs given s h (entered_among kotlin java b b' list taken.1 site vs given s h)

-- ---- a body that is there

abbrev pub stands : List Body → Site → Bool
stands [] site = false
stands (body ∷ bodies) site = if same_site body.site site then true else stands bodies site

-- the text of the first, or that of the rest where it stands there
if_calm : {A : Type 0} (b c : Bool) (m k : Meaning A) (s : State) → (if b then true else c) ≡ true → CalmOutcome (m s) → (c ≡ true → CalmOutcome (k s)) → CalmOutcome ((if b then m else k) s)
if_calm true c m k s is h g = h
if_calm false c m k s is h g = g is

first_calm : (java : Program) (b : Bodies) (class : Name) (main : Option MainMethod) → MainTaken main → (rest : List Body) (site : Site) (vs : List Value) → AllGiven vs → (s : State) → LocalsGiven s.locals →
    stands (cons_option (option_map (java_main class) main) rest) site ≡ true → (stands rest site ≡ true → CalmOutcome (enter java b rest site vs s)) →
    CalmOutcome (enter java b (cons_option (option_map (java_main class) main) rest) site vs s)
first_calm java b class None taken rest site vs given s h there calm = calm there
first_calm java b class (Some main) taken rest site vs given s h there calm =
    if_calm (same_site (main_site class) site) (stands rest site) _ _ s there (paid_calm class main.parameter main.body taken (place java b (Simple class)) (place java b (Simple class)) vs given s h s.n) calm

calm_among : (java : Program) (b : Bodies) (list : List MainClass) → ClassesTaken list → (site : Site) (vs : List Value) → AllGiven vs → (s : State) → LocalsGiven s.locals →
    stands (filter_map java_method list) site ≡ true → CalmOutcome (enter java b (filter_map java_method list) site vs s)
calm_among java b [] taken site vs given s h there = cc
calm_among java b (class ∷ list) taken site vs given s h there = first_calm java b class.name class.main taken.0 _ site vs given s h there (calm_among java b list taken.1 site vs given s h)

-- ---- threads

returned_calm : (s : State) (o : Outcome (Unit {0})) → CalmOutcome o → CalmOutcome (returned s.locals o)
returned_calm s (Asks p) h = h
returned_calm s Busy h = tt
returned_calm s (Gives a t) h = tt
returned_calm s (Jumps (Exits e) t) h = tt
returned_calm s (Jumps (Returns v) t) h = tt
returned_calm s (Jumps (Throws v) t) h = tt

abbrev pub CalmTurn : Turn → Type 0
CalmTurn (Next p) = is_calm p ≡ true
CalmTurn IsBusy = Unit {0}
CalmTurn Ended = Unit {0}

at_end_calm : (xs : List Answer) (p : Step) → is_calm p ≡ true → CalmTurn (at_end xs p)
at_end_calm [] p h = h
at_end_calm (a ∷ xs) p h = tt

turn_calm : (o : Outcome Value) → CalmOutcome o → CalmTurn (turn o)
turn_calm (Asks p) h = h
turn_calm Busy h = tt
turn_calm (Gives v s) h = at_end_calm s.answers _ refl
turn_calm (Jumps (Exits e) s) h = at_end_calm s.answers _ refl
turn_calm (Jumps (Returns v) s) h = at_end_calm s.answers _ refl
turn_calm (Jumps (Throws v) s) h = at_end_calm s.answers _ refl

module _ (classes : List MainClass) where
  abbrev kotlin : Program
  kotlin = kotlin_program (classes_of classes)

  abbrev java : Program
  java = java_program classes

  -- a start at a body that is there, with plain arguments
  abbrev pub IsGiven : Start → Type 0
  IsGiven (Enters site vs) = (stands (filter_map java_method classes) site ≡ true) × AllGiven vs
  IsGiven (Runs v) = ⊥

module _ (classes : List MainClass) (taken : ClassesTaken classes) where
  method_same : (d : ℕ) (site : Site) (vs : List Value) → AllGiven vs → (s : State) → LocalsGiven s.locals → (bodies (kotlin classes) d).method site vs s ≡ (bodies (java classes) d).method site vs s
  method_same zero site vs given s h = refl
  method_same (suc d) site vs given s h = entered_among (kotlin classes) (java classes) (bodies (kotlin classes) d) (bodies (java classes) d) classes taken site vs given s h

  method_calm : (d : ℕ) (site : Site) (vs : List Value) → AllGiven vs → stands (filter_map java_method classes) site ≡ true → (s : State) → LocalsGiven s.locals → CalmOutcome ((bodies (java classes) d).method site vs s)
  method_calm zero site vs given there s h = tt
  method_calm (suc d) site vs given there s h = calm_among (java classes) (bodies (java classes) d) classes taken site vs given s h there

  from_same : (d : ℕ) (start : Start) → IsGiven classes start → (s : State) → thread_from (kotlin classes) (bodies (kotlin classes) d) start s ≡ thread_from (java classes) (bodies (java classes) d) start s
  from_same d (Enters site vs) given s = ap (returned s.locals) (method_same d site vs given.1 (record s { locals = [] }) none_given)
  from_same d (Runs object) given s = absurd given

  from_calm : (d : ℕ) (start : Start) → IsGiven classes start → (s : State) → CalmOutcome (thread_from (java classes) (bodies (java classes) d) start s)
  from_calm d (Enters site vs) given s = returned_calm s _ (method_calm d site vs given.1 given.0 (record s { locals = [] }) none_given)
  from_calm d (Runs object) given s = absurd given

  pub thread_same : (start : Start) → IsGiven classes start → (answers : List Answer) (n : ℕ) → KotlinThread (classes_of classes) start answers n ≡ JavaThread classes start answers n
  thread_same start given answers n = ap turn (from_same (n + length answers) start given (record { locals = []; answers = answers; n = n }))

  pub thread_calm : (start : Start) → IsGiven classes start → (answers : List Answer) (n : ℕ) → CalmTurn (JavaThread classes start answers n)
  thread_calm start given answers n = turn_calm _ (from_calm (n + length answers) start given (record { locals = []; answers = answers; n = n }))
