-- Worked steps of what the languages share: fields, elements, statics, construction, calls on a value, loops, exceptions, numbers and texts.
use Rattle.std.proofs.Common.{◌≡◌, ℕ, zero, suc, pos, negsuc, Bool, true, false, List, [], ◌∷◌, Some, None, refl}
use Rattle.std.specs.Prelude.{codes}
use Rattle.std.specs.Int.{int_wrap}
use Rattle.std.specs.Fmt.{digits}
use Prim.Native.String.{String}
use Rattle.j2k_base.specs.declared.constants.Op2.TheVariants.{Add, Div, Rem, Shl, Xor, Lt}
use Rattle.meanings.specs.Values.{Name, Simple, Anonymous, Field, Site, Byte, Short, Char, Int, Long, Elements, Integers, Objects, Arrays, Value, Null, Integer, Boolean, Units, Class, Object, Array, Lambda, NoMore, Capture, AnObject, Alloc, Built, Get, Put, GetStatic, PutStatic, GetElem, PutElem, Print, Raise, Exit, Torn, End, Result, Uncaught, Answer, Done, Given, text_of}
use Rattle.meanings.specs.Classes.{is_a, plain_classes}
use Rattle.meanings.specs.Outcome.{Break, Continue, Leave, Jump, Exits, Returns, Throws, Meaning, pure, ◌>>=◌, ◌>>◌, jump, local, assign}
use Rattle.meanings.specs.Machine.{Callee, InBody, InText, Place, call_on, get_static, put_static, get_field, put_field, get_element, put_element, print_line, arithmetic, logic, cast_to, and_also, or_else, once, catch, is_leave, loop, do_loop, for_loop, until_loop, try}
use Rattle.meanings.specs.Program.{Program, Body, Enters, Turn, Next, IsBusy, thread, plain_callee, main_site}
use Rattle.meanings.specs.Objects.{this_name, self, make, Nothing, Super, constructed, put_own, finally, monitor}

-- ---- programs

-- an object of a class, which captured nothing
abbrev pub object : String → ℕ → Value
object class k = Object (Simple (codes class)) k NoMore

abbrev pub int : ℕ → Value
int n = Integer Int (pos n)

abbrev pub main : Site
main = main_site (codes "Main")

-- `main`, the constructors and other methods, the lambda's text, and how calls are resolved
abbrev pub program : (Place → Meaning (Unit {0})) → List Body → List Body → List Body → (Site → Value → Callee) → Program
program text methods constructors lambdas resolves = record {
  methods = record { site = main; parameters = []; text = text } ∷ methods;
  constructors = constructors;
  lambdas = lambdas;
  initializers = [];
  entry = λ class method count. None;
  defaults = [];
  is_idle = λ class. true;
  touches = λ own class. false;
  resolves = resolves;
  classes = plain_classes;
}

-- the next step of a `main` after these answers
abbrev pub after : (Place → Meaning (Unit {0})) → List Answer → Turn
after text answers = thread (program text [] [] [] plain_callee) (Enters main []) answers 9

-- ---- fields, statics and elements

abbrev pub field : Field
field = record { class = Simple (codes "A"); name = codes "f" }

-- what was stored is read
stored_field : after (λ p. put_field (object "A" 3) field (int 7) >> (get_field (object "A" 3) field >>= print_line p)) [] ≡ Next (Put (object "A" 3) field (int 7))
stored_field = refl

read_field : after (λ p. put_field (object "A" 3) field (int 7) >> (get_field (object "A" 3) field >>= print_line p)) (Done ∷ []) ≡ Next (Get (object "A" 3) field)
read_field = refl

printed_field : after (λ p. put_field (object "A" 3) field (int 7) >> (get_field (object "A" 3) field >>= print_line p)) (Done ∷ Given (int 8) ∷ []) ≡ Next (Print (codes "8\n"))
unfolding digits
printed_field = refl

-- null has no field
null_read : after (λ p. get_field Null field >>= print_line p) [] ≡ Next (Raise (codes "NullPointerException"))
null_read = refl

null_store : after (λ p. put_field Null field (int 7)) [] ≡ Next (Raise (codes "NullPointerException"))
null_store = refl

read_static : after (λ p. put_static field (int 7) >> (get_static field >>= print_line p)) (Done ∷ []) ≡ Next (GetStatic field)
read_static = refl

store_static : after (λ p. put_static field (int 7)) [] ≡ Next (PutStatic field (int 7))
store_static = refl

abbrev row : Value
row = Array (Integers Int) 2 5

last_element : after (λ p. get_element row (int 1) >>= print_line p) [] ≡ Next (GetElem row 1)
last_element = refl

store_element : after (λ p. put_element row (int 0) (int 4)) [] ≡ Next (PutElem row 0 (int 4))
store_element = refl

past_the_end : after (λ p. get_element row (int 2) >>= print_line p) [] ≡ Next (Raise (codes "ArrayIndexOutOfBoundsException"))
past_the_end = refl

before_the_start : after (λ p. put_element row (Integer Int (negsuc 0)) (int 4)) [] ≡ Next (Raise (codes "ArrayIndexOutOfBoundsException"))
before_the_start = refl

null_element : after (λ p. get_element Null (int 7) >>= print_line p) [] ≡ Next (Raise (codes "NullPointerException"))
null_element = refl

-- ---- construction, the superclass's first

abbrev pub constructor : String → Site
constructor class = record { class = Simple (codes class); is_static = false; ordinal = 0 }

abbrev pub own_field : String → Field
own_field class = record { class = Simple (codes class); name = codes "x" }

-- class A { int x = 7; } class B extends A { int x = 8; } with `new B()`
abbrev constructing : Program
constructing = program
    (λ p. make p (Simple (codes "B")) (constructor "B") (pure []) >> pure tt) []
    (record { site = constructor "A"; parameters = this_name ∷ []; text = λ p. constructed p Nothing (put_own (own_field "A") (pure (int 7))) (pure tt) }
    ∷ record { site = constructor "B"; parameters = this_name ∷ []; text = λ p. constructed p (Super (constructor "A") (pure [])) (put_own (own_field "B") (pure (int 8))) (pure tt) } ∷ []) [] plain_callee

abbrev constructed_after : List Answer → Turn
constructed_after answers = thread constructing (Enters main []) answers 9

makes : constructed_after [] ≡ Next (Alloc (AnObject (Simple (codes "B")) NoMore))
makes = refl

stores_above : constructed_after (Given (object "B" 1) ∷ []) ≡ Next (Put (object "B" 1) (own_field "A") (int 7))
stores_above = refl

stores_own : constructed_after (Given (object "B" 1) ∷ Done ∷ []) ≡ Next (Put (object "B" 1) (own_field "B") (int 8))
stores_own = refl

is_built : constructed_after (Given (object "B" 1) ∷ Done ∷ Done ∷ []) ≡ Next (Built (object "B" 1))
is_built = refl

-- ---- calls on a value

abbrev twice : Site
twice = record { class = Simple (codes "F"); is_static = false; ordinal = 0 }

abbrev once_more : Site
once_more = record { class = Simple (codes "F"); is_static = false; ordinal = 1 }

-- On a lambda the default method `twice` enters its own body, with the lambda as `this`, and the abstract method enters the lambda's text;
-- on an object of B it enters B's own method.
abbrev resolves : Site → Value → Callee
resolves site (Lambda own k captured) = choice site.ordinal
  where
    choice : ℕ → Callee
    choice zero = InBody twice
    choice (suc k) = InText
resolves site v = InBody (record { class = Simple (codes "B"); is_static = false; ordinal = 0 })

abbrev lambda : Value
lambda = Lambda main 4 (Capture (int 6) NoMore)

abbrev calling : Value → Program
calling v = program
    (λ p. call_on p twice v [] >> pure tt)
    (record { site = twice; parameters = this_name ∷ []; text = λ p. (self >>= (λ o. call_on p once_more o (int 1 ∷ []))) >> (self >>= (λ o. call_on p once_more o (int 2 ∷ []))) >> pure tt }
    ∷ record { site = record { class = Simple (codes "B"); is_static = false; ordinal = 0 }; parameters = this_name ∷ []; text = λ p. print_line p (int 9) } ∷ []) []
    (record { site = main; parameters = codes "c" ∷ codes "x" ∷ []; text = λ p. (local (codes "c") >>= print_line p) >> (local (codes "x") >>= print_line p) } ∷ []) resolves

default_on_lambda : thread (calling lambda) (Enters main []) [] 9 ≡ Next (Print (codes "6\n"))
unfolding digits
default_on_lambda = refl

default_again : thread (calling lambda) (Enters main []) (Done ∷ Done ∷ []) 9 ≡ Next (Print (codes "6\n"))
unfolding digits
default_again = refl

its_argument : thread (calling lambda) (Enters main []) (Done ∷ Done ∷ Done ∷ []) 9 ≡ Next (Print (codes "2\n"))
unfolding digits
its_argument = refl

overriding : thread (calling (object "B" 1)) (Enters main []) [] 9 ≡ Next (Print (codes "9\n"))
unfolding digits
overriding = refl

-- no body stands at `main` of another class
no_body : thread (calling lambda) (Enters (main_site (codes "C")) []) [] 9 ≡ Next Torn
no_body = refl

-- ---- loops

abbrev pub i : Name
i = codes "i"

abbrev pub below : ℕ → Meaning Value
below n = local i >>= (λ x. arithmetic Lt Int Int x (int n))

abbrev pub next : Meaning (Unit {0})
next = local i >>= (λ x. arithmetic Add Int Int x (int 1)) >>= assign i

abbrev pub prints : Place → Meaning (Unit {0})
prints p = local i >>= print_line p

-- `for (i = 0; i < 2; i++)` as a `while`
abbrev counting : Place → Meaning (Unit {0})
counting p = assign i (int 0) >> loop [] (below 2) (prints p >> next)

first_turn : after counting [] ≡ Next (Print (codes "0\n"))
unfolding digits
first_turn = refl

second_turn : after counting (Done ∷ []) ≡ Next (Print (codes "1\n"))
unfolding int_wrap digits
second_turn = refl

no_third_turn : after counting (Done ∷ Done ∷ []) ≡ Next (End (Result Null))
unfolding int_wrap
no_third_turn = refl

-- each turn takes one of n
without_end : after (λ p. loop [] (pure (Boolean true)) (pure tt)) [] ≡ IsBusy
without_end = refl

broken : after (λ p. loop [] (pure (Boolean true)) (jump (Exits (Break None)))) [] ≡ Next (End (Result Null))
broken = refl

-- a `continue` doesn't pass by the update, and afterwards the variable is what it was
abbrev continuing : Place → Meaning (Unit {0})
continuing p = assign i (int 5) >> for_loop [] (i ∷ []) (assign i (int 0)) (below 2) next (prints p >> jump (Exits (Continue None))) >> prints p

continued : after continuing (Done ∷ []) ≡ Next (Print (codes "1\n"))
unfolding int_wrap digits
continued = refl

put_back_at_the_end : after continuing (Done ∷ Done ∷ []) ≡ Next (Print (codes "5\n"))
unfolding int_wrap digits
put_back_at_the_end = refl

-- the body of a `do` stands before its test
done_first : after (λ p. assign i (int 3) >> do_loop [] (prints p) (pure (Boolean false))) [] ≡ Next (Print (codes "3\n"))
unfolding digits
done_first = refl

-- `for (i in 0 until 2)`
abbrev ranging : Place → Meaning (Unit {0})
ranging p = assign i (int 5) >> until_loop [] i (int 0) (int 2) (prints p >> assign i (int 9)) >> prints p

second_number : after ranging (Done ∷ []) ≡ Next (Print (codes "1\n"))
unfolding digits
second_number = refl

put_back_behind_the_range : after ranging (Done ∷ Done ∷ []) ≡ Next (Print (codes "5\n"))
unfolding digits
put_back_behind_the_range = refl

-- ---- jumps and exceptions

abbrev pub one : Place → Meaning (Unit {0})
one p = print_line p (int 1)

abbrev leaves : Jump → Meaning (Unit {0})
leaves = jump

left_once : after (λ p. once (codes "a" ∷ []) (leaves (Exits (Break (Some (codes "a")))) >> print_line p (int 2)) >> one p) [] ≡ Next (Print (codes "1\n"))
unfolding digits
left_once = refl

continued_once : after (λ p. once [] (leaves (Exits (Continue None)) >> print_line p (int 2)) >> one p) [] ≡ Next (Print (codes "1\n"))
unfolding digits
continued_once = refl

-- `return@synchronized` is no exit of a loop
passed_once : after (λ p. once [] (jump (Exits Leave)) >> one p) [] ≡ Next (End (Result Null))
passed_once = refl

left_block : after (λ p. catch is_leave (leaves (Exits Leave) >> print_line p (int 2)) >> one p) [] ≡ Next (Print (codes "1\n"))
unfolding digits
left_block = refl

handled : after (λ p. try (leaves (Throws (object "E" 1)) >> print_line p (int 2)) (λ v. one p)) [] ≡ Next (Print (codes "1\n"))
unfolding digits
handled = refl

not_thrown : after (λ p. try (jump (Returns (int 7))) (λ v. one p)) [] ≡ Next (End (Result (int 7)))
not_thrown = refl

in_any_case : after (λ p. finally (jump (Throws (object "E" 1))) (one p)) [] ≡ Next (Print (codes "1\n"))
unfolding digits
in_any_case = refl

and_then_thrown : after (λ p. finally (jump (Throws (object "E" 1))) (one p)) (Done ∷ []) ≡ Next (End (Uncaught (object "E" 1)))
and_then_thrown = refl

left_monitor : after (λ p. monitor (Class (codes "A")) (jump (Returns (int 7)))) (Done ∷ []) ≡ Next (Exit (Class (codes "A")))
left_monitor = refl

-- ---- numbers

narrowed_byte : cast_to Byte (int 200) ≡ Integer Byte (negsuc 55)
unfolding int_wrap
narrowed_byte = refl

narrowed_short : cast_to Short (int 40000) ≡ Integer Short (negsuc 25535)
unfolding int_wrap
narrowed_short = refl

narrowed_char : cast_to Char (Integer Int (negsuc 0)) ≡ Integer Char (pos 65535)
narrowed_char = refl

narrowed_int : cast_to Int (Integer Long (pos 2147483648)) ≡ Integer Int (negsuc 2147483647)
unfolding int_wrap
narrowed_int = refl

kept_long : cast_to Long (Integer Int (negsuc 4)) ≡ Integer Long (negsuc 4)
unfolding int_wrap
kept_long = refl

no_quotient : after (λ p. arithmetic Div Int Int (int 7) (int 0) >>= print_line p) [] ≡ Next (Raise (codes "ArithmeticException"))
no_quotient = refl

remainder : after (λ p. arithmetic Rem Int Int (Integer Int (negsuc 6)) (int 2) >>= print_line p) [] ≡ Next (Print (codes "-1\n"))
unfolding int_wrap digits
remainder = refl

shifted : after (λ p. arithmetic Shl Int Int (int 1) (int 33) >>= print_line p) [] ≡ Next (Print (codes "2\n"))
unfolding int_wrap digits
shifted = refl

exclusive : after (λ p. logic Xor (Boolean true) (Boolean true) >>= print_line p) [] ≡ Next (Print (codes "false\n"))
exclusive = refl

-- the right operand doesn't stand
decided_by_the_left : after (λ p. and_also (pure (Boolean false)) (one p >> pure (Boolean true)) >>= print_line p) [] ≡ Next (Print (codes "false\n"))
decided_by_the_left = refl

decided_by_the_left_too : after (λ p. or_else (pure (Boolean true)) (one p >> pure (Boolean false)) >>= print_line p) [] ≡ Next (Print (codes "true\n"))
decided_by_the_left_too = refl

-- ---- texts

text_of_null : text_of Null ≡ codes "null"
text_of_null = refl

text_of_char : text_of (Integer Char (pos 65)) ≡ codes "A"
text_of_char = refl

text_of_byte : text_of (Integer Byte (negsuc 4)) ≡ codes "-5"
unfolding digits
text_of_byte = refl

text_of_true : text_of (Boolean true) ≡ codes "true"
text_of_true = refl

text_of_false : text_of (Boolean false) ≡ codes "false"
text_of_false = refl

text_of_units : text_of (Units (codes "x")) ≡ codes "x"
text_of_units = refl

-- an object's text is what its `toString` gives
own_text : thread (program (λ p. print_line p (object "B" 1)) (record { site = record { class = Simple (codes "B"); is_static = false; ordinal = 0 }; parameters = this_name ∷ []; text = λ p. jump (Returns (Units (codes "b"))) } ∷ []) [] [] resolves) (Enters main []) [] 9 ≡ Next (Print (codes "b\n"))
own_text = refl

-- ---- types

abbrev is : Elements → Value → Bool
is = is_a plain_classes

library_error : is (Objects (codes "Error")) (object "NoClassDefFoundError" 1) ≡ true
library_error = refl

no_error : is (Objects (codes "Error")) (object "ArithmeticException" 1) ≡ false
no_error = refl

null_is_nothing : is (Objects (codes "Object")) Null ≡ false
null_is_nothing = refl

box_of_int : is (Objects (codes "Integer")) (int 1) ≡ true
box_of_int = refl

box_of_another : is (Objects (codes "Long")) (int 1) ≡ false
box_of_another = refl

array_of_arrays : is (Arrays (Objects (codes "Object"))) (Array (Objects (codes "String")) 1 2) ≡ true
array_of_arrays = refl

array_of_ints : is (Arrays (Objects (codes "Object"))) row ≡ false
array_of_ints = refl

anonymous : is (Objects (codes "Object")) (Object (Anonymous (Simple (codes "A")) true 0) 1 NoMore) ≡ true
anonymous = refl
