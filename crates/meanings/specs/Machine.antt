-- What the two languages share: class initialization, fields and elements, order, jumps, loops and calls.
use Rattle.std.specs.Prelude.{ℕ, zero, suc, ℤ, pos, negsuc, ◌+ℤ◌, int_lt, Bool, true, false, List, [], ◌∷◌, ◌++◌, Option, Some, None, if◌then◌else◌, nat_lt, codes}
use Rattle.j2k_base.specs.declared.constants.Op2.{Op2}
use Rattle.j2k_base.specs.declared.constants.Const.{Const}
use Rattle.j2k_base.specs.declared.constants.Const.TheVariants as constant
use Rattle.const_fold.specs.Constants.{cut, operated, decided}
use Rattle.meanings.specs.Values.{Name, same_name, is_among, ClassName, Simple, Field, Site, Kind, Byte, Short, Char, Int, Long, Value, Null, Integer, Boolean, Object, Array, Lambda, captured_list, Step, Touch, InitEnd, Get, Put, GetStatic, PutStatic, GetElem, PutElem, Print, Lib, Raise, Answer, Ready, Run, Mine, Failed, Done, Given, Raised, integer_in, is_true, is_null, text_of}
use Rattle.meanings.specs.Classes.{Classes, is_error}
use Rattle.meanings.specs.Outcome.{Locals, get, State, Exit, Break, Continue, Leave, Exits, Returns, Throws, Outcome, Asks, Busy, Gives, Jumps, Meaning, pure, ◌>>=◌, ◌>>◌, jump, ask, torn, busy, pay, assign}

-- The bodies that a text enters: methods and constructors with their arguments, an instance's receiver first,
-- lambda bodies with what they captured and their arguments, and the static initializers of a class. They have locals of their own.
pub record Bodies : Type 0 where
  pub method : Site → List Value → Meaning (Unit {0})
  pub constructor : Site → List Value → Meaning (Unit {0})
  pub lambda : Site → List Value → List Value → Meaning (Unit {0})
  pub initializer : ClassName → Meaning (Unit {0})

-- what a call of a method on a value enters (JLS 15.12.4.4)
pub data Callee : Type 0 where
  -- the body that stands there, with the value as its receiver
  InBody : Site → Callee
  -- the text of the lambda itself (JLS 15.27.4)
  InText : Callee
  -- a row of the library, with the value first
  InRow : ℕ → Callee

-- what is fixed at a place of a text
pub record Place : Type 0 where
  pub bodies : Bodies
  -- whether a use of the class's statics touches it here (JLS 12.4.1; own rule for calm and idle classes)
  pub touches : ClassName → Bool
  -- what a call of this method on this value enters
  pub resolves : Site → Value → Callee
  -- what is known of the project's classes
  pub classes : Classes

-- ---- answers

-- a raised reference is thrown; an answer of another sort counts as null (own rule)
abbrev pub received : Answer → Meaning Value
received (Given v) = pure v
received (Raised v) = jump (Throws v)
received Ready = pure Null
received Run = pure Null
received Mine = pure Null
received Failed = pure Null
received Done = pure Null

-- a step whose answer is a value
abbrev pub ask_value : Step → Meaning Value
ask_value p = ask p >>= received

-- a step that gives no value
abbrev pub ask_done : Step → Meaning (Unit {0})
ask_done p = ask p >>= received >> pure tt

-- a new exception of the class is thrown (JLS 11.1.1, 14.18)
abbrev pub raise : {A : Type 0} → Name → Meaning A
raise class = ask_value (Raise class) >>= (λ v. jump (Throws v))

-- ---- bodies

-- a body's end, back among the locals of its caller; a body without a value gives null
abbrev pub returned : Locals → Outcome (Unit {0}) → Outcome Value
returned l (Asks p) = Asks p
returned l Busy = Busy
returned l (Gives a s) = Gives Null (record s { locals = l })
returned l (Jumps (Returns v) s) = Gives v (record s { locals = l })
returned l (Jumps (Throws v) s) = Jumps (Throws v) (record s { locals = l })
returned l (Jumps (Exits e) s) = Gives Null (record s { locals = l })

-- a body has locals of its own (JLS 15.12.4.5)
abbrev pub apart : Meaning (Unit {0}) → Meaning Value
apart m s = returned s.locals (m (record s { locals = [] }))

-- a call of just this method (JLS 15.12.4.5)
abbrev pub call : Place → Site → List Value → Meaning Value
call p site vs = apart (p.bodies.method site vs)

-- a constructor's body (JLS 15.9.4)
abbrev pub construct : Place → Site → List Value → Meaning Value
construct p site vs = apart (p.bodies.constructor site vs)

-- a lambda's body, with what it captured (JLS 15.27.4)
abbrev pub call_lambda : Place → Site → List Value → List Value → Meaning Value
call_lambda p site captured vs = apart (p.bodies.lambda site captured vs)

-- the text of a lambda; where the value is none no text is there, which is Torn (own rule)
abbrev pub call_text : Place → Value → List Value → Meaning Value
call_text p (Lambda own k captured) vs = call_lambda p own (captured_list captured) vs
call_text p _ vs = torn

-- a call on a value, by what it enters
abbrev pub call_in : Place → Value → List Value → Callee → Meaning Value
call_in p v vs (InBody site) = call p site (v ∷ vs)
call_in p v vs InText = call_text p v vs
call_in p v vs (InRow row) = ask_value (Lib row (v ∷ vs))

-- a call on a receiver, which is no null: null is checked before (JLS 15.12.4.4)
abbrev pub call_on : Place → Site → Value → List Value → Meaning Value
call_on p site v vs = call_in p v vs (p.resolves site v)

-- ---- class initialization

-- what follows a failed initialization: an Error is thrown on, another exception gives way to ExceptionInInitializerError (JLS 12.4.2, steps 10 and 11)
abbrev pub fail : Classes → Value → Meaning (Unit {0})
fail c v = if is_error c v then jump (Throws v) else raise (codes "ExceptionInInitializerError")

-- the end of an initialization, well or failed (JLS 12.4.2, steps 10 to 12)
abbrev pub init_end : Classes → ClassName → Outcome Value → Outcome (Unit {0})
init_end c class (Asks p) = Asks p
init_end c class Busy = Busy
init_end c class (Gives a s) = ask_done (InitEnd class true) s
init_end c class (Jumps (Throws v) s) = (ask_done (InitEnd class false) >> fail c v) s
init_end c class (Jumps (Returns v) s) = ask_done (InitEnd class true) s
init_end c class (Jumps (Exits e) s) = ask_done (InitEnd class true) s

-- the initializers of a class, and their end (JLS 12.4.2, steps 7 to 12)
abbrev pub initialize : Place → ClassName → Meaning (Unit {0})
initialize p class s = init_end p.classes class (apart (p.bodies.initializer class) s)

-- what follows each answer to a Touch (JLS 12.4.2, steps 2 to 7)
abbrev pub touched : Place → ClassName → Answer → Meaning (Unit {0})
touched p class Run = initialize p class
touched p class Failed = raise (codes "NoClassDefFoundError")
touched p class Ready = pure tt
touched p class Mine = pure tt
touched p class Done = pure tt
touched p class (Given v) = pure tt
touched p class (Raised v) = pure tt

-- a use of a class (JLS 12.4.1, 12.4.2)
abbrev pub touch : Place → ClassName → Meaning (Unit {0})
touch p class = if p.touches class then ask (Touch class) >>= touched p class else pure tt

-- ---- statics, fields and elements

-- a read of a static (JLS 15.11.1)
abbrev pub get_static : Field → Meaning Value
get_static field = ask_value (GetStatic field)

-- a store into a static (JLS 15.26.1)
abbrev pub put_static : Field → Value → Meaning (Unit {0})
put_static field v = ask_done (PutStatic field v)

-- null has no members (JLS 15.11.1, 15.12.4.4, 15.13.1)
abbrev pub check_null : Value → Meaning (Unit {0})
check_null v = if is_null v then raise (codes "NullPointerException") else pure tt

-- a read of a field of an object (JLS 15.11.1)
abbrev pub get_field : Value → Field → Meaning Value
get_field v field = check_null v >> ask_value (Get v field)

-- a store into a field of an object (JLS 15.26.1)
abbrev pub put_field : Value → Field → Value → Meaning (Unit {0})
put_field v field new = check_null v >> ask_done (Put v field new)

-- the length of an array (JLS 10.7); another value has none
abbrev pub length_in : Value → ℕ
length_in (Array elements length k) = length
length_in _ = 0

-- the index of an element, where the array has one there (JLS 15.13.1)
abbrev pub index_in : Value → ℤ → Meaning ℕ
index_in v (pos k) = if nat_lt k (length_in v) then pure k else raise (codes "ArrayIndexOutOfBoundsException")
index_in v (negsuc k) = raise (codes "ArrayIndexOutOfBoundsException")

-- a read of an element: null, then the bounds are checked (JLS 15.13.1)
abbrev pub get_element : Value → Value → Meaning Value
get_element v i = check_null v >> index_in v (integer_in i) >>= (λ k. ask_value (GetElem v k))

-- a store into an element, with the same checks (JLS 15.26.1)
abbrev pub put_element : Value → Value → Value → Meaning (Unit {0})
put_element v i new = check_null v >> index_in v (integer_in i) >>= (λ k. ask_done (PutElem v k new))

-- ---- String conversion

-- the method `toString` of Object, the third of its methods
abbrev pub text_site : Site
text_site = record { class = Simple (codes "Object"); is_static = false; ordinal = 2 }

-- The text of a value (JLS 5.1.11): for an object what its `toString` gives. An object's own text is a body that runs.
abbrev pub converted : Place → Value → Meaning (List ℕ)
converted p (Object class k captured) = call_on p text_site (Object class k captured) [] >>= (λ w. pure (text_of w))
converted p v = pure (text_of v)

-- the text of a value and a line end, one LF, as one step (own rule)
abbrev pub print_line : Place → Value → Meaning (Unit {0})
print_line p v = converted p v >>= (λ units. ask_done (Print (units ++ 10 ∷ [])))

-- ---- arithmetic

-- a constant as a value
abbrev pub valued : Const → Value
valued (constant.Byte z) = Integer Byte z
valued (constant.Short z) = Integer Short z
valued (constant.Char n) = Integer Char (pos n)
valued (constant.Int z) = Integer Int z
valued (constant.Long z) = Integer Long z
valued (constant.Bool b) = Boolean b

-- the value of an operator; one without a value has a zero divisor (JLS 15.17.2)
abbrev pub resulted : Option Const → Meaning Value
resulted None = raise (codes "ArithmeticException")
resulted (Some c) = pure (valued c)

-- an operator on two numbers, by the promoted kinds of the left one and of both together (JLS 15.17 to 15.22.1)
abbrev pub arithmetic : Op2 → Kind → Kind → Value → Value → Meaning Value
arithmetic op left both x y = resulted (operated op left both (integer_in x) (integer_in y))

-- an operator on two truth values (JLS 15.21.2, 15.22.2)
abbrev pub logic : Op2 → Value → Value → Meaning Value
logic op x y = resulted (decided op (is_true x) (is_true y))

-- a number as one of another kind (JLS 5.1.2, 5.1.3)
abbrev pub cast_to : Kind → Value → Value
cast_to kind v = valued (cut kind (integer_in v))

-- ---- one after the other

-- the operands from left to right (JLS 15.7.1)
abbrev pub binary : {A : Type 0} → (Value → Value → Meaning A) → Meaning Value → Meaning Value → Meaning A
binary operation a b = a >>= (λ x. b >>= operation x)

-- arguments from left to right (JLS 15.7.4)
abbrev pub all : List (Meaning Value) → Meaning (List Value)
all [] = pure []
all (m ∷ ms) = m >>= (λ v. all ms >>= (λ vs. pure (v ∷ vs)))

-- the statements of a block in order (JLS 14.2)
abbrev pub sequence : List (Meaning (Unit {0})) → Meaning (Unit {0})
sequence [] = pure tt
sequence (m ∷ ms) = m >> sequence ms

-- by a condition (JLS 14.9)
abbrev pub choose : {A : Type 0} → Meaning A → Meaning A → Value → Meaning A
choose a b v = if is_true v then a else b

-- the right operand stands only where the left one is true (JLS 15.23)
abbrev pub and_also : Meaning Value → Meaning Value → Meaning Value
and_also a b = a >>= choose b (pure (Boolean false))

-- the right operand stands only where the left one is false (JLS 15.24)
abbrev pub or_else : Meaning Value → Meaning Value → Meaning Value
or_else a b = a >>= choose (pure (Boolean true)) b

-- ---- jumps

-- no label means the innermost loop
abbrev pub is_meant : List Name → Option Name → Bool
is_meant labels None = true
is_meant labels (Some name) = is_among labels name

-- a break of the loop with these labels (JLS 14.15)
abbrev pub is_break : List Name → Exit → Bool
is_break labels (Break target) = is_meant labels target
is_break labels (Continue target) = false
is_break labels Leave = false

-- a continue of the loop with these labels (JLS 14.16)
abbrev pub is_continue : List Name → Exit → Bool
is_continue labels (Break target) = false
is_continue labels (Continue target) = is_meant labels target
is_continue labels Leave = false

-- a break or a continue of it
abbrev pub is_either : List Name → Exit → Bool
is_either labels (Break target) = is_meant labels target
is_either labels (Continue target) = is_meant labels target
is_either labels Leave = false

-- a labelled statement is left by its name alone (JLS 14.7, 14.15)
abbrev pub is_label : Name → Exit → Bool
is_label label (Break None) = false
is_label label (Break (Some name)) = same_name label name
is_label label (Continue target) = false
is_label label Leave = false

-- `return@synchronized` leaves the innermost `synchronized` (Kotlin, "Jump expressions")
abbrev pub is_leave : Exit → Bool
is_leave (Break target) = false
is_leave (Continue target) = false
is_leave Leave = true

-- an exit is caught, or goes on
abbrev pub caught_exit : Bool → Exit → State → Outcome (Unit {0})
caught_exit true e s = Gives tt s
caught_exit false e s = Jumps (Exits e) s

-- the exits that the test takes end the part
abbrev pub caught : (Exit → Bool) → Outcome (Unit {0}) → Outcome (Unit {0})
caught is (Jumps (Exits e) s) = caught_exit (is e) e s
caught is (Jumps (Returns v) s) = Jumps (Returns v) s
caught is (Jumps (Throws v) s) = Jumps (Throws v) s
caught is (Asks p) = Asks p
caught is Busy = Busy
caught is (Gives a s) = Gives a s

-- these exits end it (JLS 14.15, 14.16)
abbrev pub catch : (Exit → Bool) → Meaning (Unit {0}) → Meaning (Unit {0})
catch is m s = caught is (m s)

-- `do { .. } while (false)` (JLS 14.13)
abbrev pub once : List Name → Meaning (Unit {0}) → Meaning (Unit {0})
once labels = catch (is_either labels)

-- at most k turns
abbrev pub turns : ℕ → Meaning Value → Meaning (Unit {0}) → Meaning (Unit {0})
turns zero test body = test >>= choose busy (pure tt)
turns (suc k) test body = test >>= choose (pay >> body >> turns k test body) (pure tt)

-- A break of it ends it, a continue goes on with the next turn (JLS 14.12). Each turn takes one of n, so more than n turns can't be made.
abbrev pub loop : List Name → Meaning Value → Meaning (Unit {0}) → Meaning (Unit {0})
loop labels test body s = catch (is_break labels) (turns s.n test (catch (is_continue labels) body)) s

-- a name has this value again, at an end and at a jump
abbrev pub put_back : {A : Type 0} → Name → Value → Outcome A → Outcome A
put_back name v (Asks p) = Asks p
put_back name v Busy = Busy
put_back name v (Gives a s) = Gives a (record s { locals = (name, v) ∷ s.locals })
put_back name v (Jumps j s) = Jumps j (record s { locals = (name, v) ∷ s.locals })

-- What a part assigns to a name is gone after it (own rule: where the languages leave a loop's variable with different values).
abbrev pub scoped : {A : Type 0} → Name → Meaning A → Meaning A
scoped name m s = put_back name (get s.locals name) (m s)

-- so for each of these names
abbrev pub scoped_all : {A : Type 0} → List Name → Meaning A → Meaning A
scoped_all [] m = m
scoped_all (name ∷ names) m = scoped name (scoped_all names m)

-- the body, and then turns (JLS 14.13)
abbrev pub do_loop : List Name → Meaning (Unit {0}) → Meaning Value → Meaning (Unit {0})
do_loop labels body test s = catch (is_break labels) (catch (is_continue labels) body >> turns s.n test (catch (is_continue labels) body)) s

-- a basic `for` with the names that it declares: the update follows a `continue` (JLS 14.14.1)
abbrev pub for_loop : List Name → List Name → Meaning (Unit {0}) → Meaning Value → Meaning (Unit {0}) → Meaning (Unit {0}) → Meaning (Unit {0})
for_loop labels names init test update body = scoped_all names (init >> loop labels test (catch (is_continue labels) body >> update))

-- `for (i in a until b)`: at most k turns, each with the next number
abbrev pub counted : ℕ → Name → ℤ → ℤ → Meaning (Unit {0}) → Meaning (Unit {0})
counted zero name i until body = if int_lt i until then busy else pure tt
counted (suc k) name i until body =
    if int_lt i until then pay >> assign name (Integer Int i) >> body >> counted k name (i +ℤ pos 1) until body else pure tt

-- the bounds stand before the first turn, and the variable is new in each (Kotlin, "For-loop statement")
abbrev pub until_loop : List Name → Name → Value → Value → Meaning (Unit {0}) → Meaning (Unit {0})
until_loop labels name from until body =
    scoped name (λ s. catch (is_break labels) (counted s.n name (integer_in from) (integer_in until) (catch (is_continue labels) body)) s)

-- what is thrown goes to the handler
abbrev pub handled : (Value → Meaning (Unit {0})) → Outcome (Unit {0}) → Outcome (Unit {0})
handled h (Jumps (Throws v) s) = h v s
handled h (Jumps (Returns v) s) = Jumps (Returns v) s
handled h (Jumps (Exits e) s) = Jumps (Exits e) s
handled h (Asks p) = Asks p
handled h Busy = Busy
handled h (Gives a s) = Gives a s

-- what is thrown goes to the handler (JLS 14.20.1)
abbrev pub try : Meaning (Unit {0}) → (Value → Meaning (Unit {0})) → Meaning (Unit {0})
try m h s = handled h (m s)
