-- Worked steps of objects, statements, jumps and exceptions, where two things could change places or one be left out.
use Rattle.std.proofs.Common.{◌≡◌, ℕ, negsuc, Bool, true, false, List, [], ◌∷◌, Some, None, refl}
use Rattle.std.specs.Prelude.{codes}
use Rattle.std.specs.Int.{int_wrap}
use Rattle.std.specs.Fmt.{digits}
use Prim.Native.String.{String}
use Rattle.j2k_base.specs.declared.constants.Op2.TheVariants.{Sub}
use Rattle.meanings.specs.Values.{Simple, Field, Site, Short, Int, Long, Integers, Objects, Arrays, Value, Null, Integer, Boolean, Units, Array, Lambda, NoMore, Capture, Touch, AnObject, ALambda, Alloc, Built, Put, GetStatic, Lib, Print, Raise, Torn, End, Result, Uncaught, Answer, Done, Given, text_of}
use Rattle.meanings.specs.Classes.{is_a, plain_classes}
use Rattle.meanings.specs.Outcome.{Break, Continue, Leave, Exits, Returns, Throws, Meaning, pure, ◌>>=◌, ◌>>◌, jump, local, assign}
use Rattle.meanings.specs.Machine.{Callee, InText, InRow, Place, call, call_on, get_static, put_element, print_line, arithmetic, binary, all, sequence, once, catch, is_leave, loop, do_loop, for_loop, until_loop, try}
use Rattle.meanings.specs.Program.{Enters, Turn, Next, IsBusy, thread, plain_callee}
use Rattle.meanings.specs.Objects.{this_name, make, This, Row, constructed, put_own, static_text, concat, make_lambda, labeled, Group, switch, finally, Handler, handler_of, monitor}
use Rattle.meanings.proofs.WorkedShared.{object, int, main, program, after, field, constructor, own_field, i, below, next, prints, one}

abbrev break : Meaning (Unit {0})
break = jump (Exits (Break None))

abbrev continue : Meaning (Unit {0})
continue = jump (Exits (Continue None))

abbrev break_to : String → Meaning (Unit {0})
break_to label = jump (Exits (Break (Some (codes label))))

abbrev leave : Meaning (Unit {0})
leave = jump (Exits Leave)

abbrev thrown : Value
thrown = object "E" 1

abbrev throws : Meaning (Unit {0})
throws = jump (Throws thrown)

-- ---- loops

-- a variable is what it was also where a loop is left by a jump
put_back_at_a_jump : after (λ p. assign i (int 5) >> try (for_loop [] (i ∷ []) (assign i (int 0)) (below 2) next throws) (λ v. prints p)) [] ≡ Next (Print (codes "5\n"))
unfolding digits
put_back_at_a_jump = refl

-- of 8 that are left each turn of either loop takes one: five turns are made, and three of the next five
abbrev five : Meaning (Unit {0})
five = for_loop [] (i ∷ []) (assign i (int 0)) (below 5) next (pure tt)

loops_pay : after (λ p. five >> five >> one p) [] ≡ IsBusy
unfolding int_wrap
loops_pay = refl

one_loop_pays : after (λ p. five >> one p) [] ≡ Next (Print (codes "1\n"))
unfolding int_wrap digits
one_loop_pays = refl

abbrev until_five : Meaning (Unit {0})
until_five = until_loop [] i (int 0) (int 5) (pure tt)

ranges_pay : after (λ p. until_five >> until_five >> one p) [] ≡ IsBusy
ranges_pay = refl

one_range_pays : after (λ p. until_five >> one p) [] ≡ Next (Print (codes "1\n"))
unfolding digits
one_range_pays = refl

-- a `continue` goes on with the next turn
continued_loop : after (λ p. assign i (int 0) >> loop [] (below 2) (prints p >> next >> continue >> one p)) (Done ∷ []) ≡ Next (Print (codes "1\n"))
unfolding int_wrap digits
continued_loop = refl

continued_do : after (λ p. assign i (int 0) >> do_loop [] (prints p >> next >> continue >> one p) (below 2)) (Done ∷ []) ≡ Next (Print (codes "1\n"))
unfolding int_wrap digits
continued_do = refl

continued_range : after (λ p. until_loop [] i (int 0) (int 2) (prints p >> continue >> one p)) (Done ∷ []) ≡ Next (Print (codes "1\n"))
unfolding digits
continued_range = refl

broken_loop : after (λ p. loop [] (pure (Boolean true)) break >> one p) [] ≡ Next (Print (codes "1\n"))
unfolding digits
broken_loop = refl

broken_for : after (λ p. assign i (int 5) >> for_loop [] (i ∷ []) (assign i (int 0)) (below 2) next break >> prints p) [] ≡ Next (Print (codes "5\n"))
unfolding digits
broken_for = refl

broken_do : after (λ p. do_loop [] break (pure (Boolean true)) >> one p) [] ≡ Next (Print (codes "1\n"))
unfolding digits
broken_do = refl

broken_range : after (λ p. until_loop [] i (int 0) (int 5) break >> one p) [] ≡ Next (Print (codes "1\n"))
unfolding digits
broken_range = refl

-- ---- jumps pass what doesn't take them

passed_by_return : after (λ p. once [] (jump (Returns (int 7))) >> one p) [] ≡ Next (End (Result (int 7)))
passed_by_return = refl

passed_by_throw : after (λ p. once [] throws >> one p) [] ≡ Next (End (Uncaught thrown))
passed_by_throw = refl

another_label : after (λ p. once (codes "a" ∷ []) (break_to "b") >> one p) [] ≡ Next (End (Result Null))
another_label = refl

-- `return@synchronized` is no break and no continue
loop_is_left : after (λ p. loop [] (pure (Boolean true)) leave >> one p) [] ≡ Next (End (Result Null))
loop_is_left = refl

-- and a break leaves no `synchronized` by itself
break_goes_on : after (λ p. once [] (catch is_leave break >> one p)) [] ≡ Next (End (Result Null))
break_goes_on = refl

left_label : after (λ p. labeled (codes "a") (break_to "a") >> one p) [] ≡ Next (Print (codes "1\n"))
unfolding digits
left_label = refl

another_label_passes : after (λ p. labeled (codes "a") (break_to "b") >> one p) [] ≡ Next (End (Result Null))
another_label_passes = refl

no_label_passes : after (λ p. labeled (codes "a") break >> one p) [] ≡ Next (End (Result Null))
no_label_passes = refl

-- ---- `switch`

abbrev group : List Value → Bool → Meaning (Unit {0}) → Group
group labels is_default body = record { labels = labels; is_default = is_default; body = body }

abbrev says : Place → ℕ → Meaning (Unit {0})
says p n = print_line p (int n)

-- `switch (v) { case 1: case 2: 12; default: 0; case 3: 3; break; case 4: continue; }` in a loop of one turn, and 9 behind it
abbrev switching : Value → Place → Meaning (Unit {0})
switching v p = once [] (switch []
    (group (int 1 ∷ int 2 ∷ []) false (says p 12) ∷ group [] true (says p 0) ∷ group (int 3 ∷ []) false (says p 3 >> break) ∷ group (int 4 ∷ []) false continue ∷ []) v >> says p 9)

second_of_two_labels : after (switching (int 2)) [] ≡ Next (Print (codes "12\n"))
unfolding digits
second_of_two_labels = refl

runs_on : after (switching (int 2)) (Done ∷ []) ≡ Next (Print (codes "0\n"))
unfolding digits
runs_on = refl

no_label : after (switching (int 7)) [] ≡ Next (Print (codes "0\n"))
unfolding digits
no_label = refl

behind_the_default : after (switching (int 3)) [] ≡ Next (Print (codes "3\n"))
unfolding digits
behind_the_default = refl

left_switch : after (switching (int 3)) (Done ∷ []) ≡ Next (Print (codes "9\n"))
unfolding digits
left_switch = refl

continue_passes_switch : after (switching (int 4)) [] ≡ Next (End (Result Null))
continue_passes_switch = refl

switch_of_null : after (switching Null) [] ≡ Next (Raise (codes "NullPointerException"))
switch_of_null = refl

-- ---- exceptions and monitors

exit_is_not_thrown : after (λ p. once [] (try break (λ v. one p) >> one p)) [] ≡ Next (End (Result Null))
exit_is_not_thrown = refl

at_the_end_too : after (λ p. finally (pure tt) (one p)) [] ≡ Next (Print (codes "1\n"))
unfolding digits
at_the_end_too = refl

-- `catch (RuntimeException e) { 1 } catch (Exception e) { 2 }`
abbrev handlers : Place → List Handler
handlers p = record { type = Objects (codes "RuntimeException"); does = λ v. says p 1 } ∷ record { type = Objects (codes "Exception"); does = λ v. says p 2 } ∷ []

abbrev handles : Value → Place → Meaning (Unit {0})
handles v p = try (jump (Throws v)) (handler_of plain_classes (handlers p))

first_handler : after (handles (object "ArithmeticException" 1)) [] ≡ Next (Print (codes "1\n"))
unfolding digits
first_handler = refl

second_handler : after (handles (object "IOException" 1)) [] ≡ Next (Print (codes "2\n"))
unfolding digits
second_handler = refl

no_handler : after (handles (object "Error" 1)) [] ≡ Next (End (Uncaught (object "Error" 1)))
no_handler = refl

monitor_of_null : after (λ p. monitor Null (pure tt)) [] ≡ Next (Raise (codes "NullPointerException"))
monitor_of_null = refl

-- ---- bodies

-- a method whose text is this, called from `main`
abbrev helper : Site
helper = record { class = Simple (codes "H"); is_static = true; ordinal = 0 }

abbrev calls : (Place → Meaning (Unit {0})) → (Place → Meaning (Unit {0})) → Turn
calls text body = thread (program text (record { site = helper; parameters = []; text = body } ∷ []) [] [] plain_callee) (Enters main []) [] 9

-- a body doesn't see the locals of its caller, which has them again behind it, however it ends
own_locals : calls (λ p. assign i (int 5) >> call p helper [] >> pure tt) prints ≡ Next (Print (codes "0\n"))
unfolding digits
own_locals = refl

locals_behind_a_return : calls (λ p. assign i (int 5) >> call p helper [] >> prints p) (λ p. jump (Returns (int 7))) ≡ Next (Print (codes "5\n"))
unfolding digits
locals_behind_a_return = refl

locals_behind_a_throw : calls (λ p. assign i (int 5) >> try (call p helper [] >> pure tt) (λ v. prints p)) (λ p. throws) ≡ Next (Print (codes "5\n"))
unfolding digits
locals_behind_a_throw = refl

-- an exit leaves no body
exit_ends_at_the_body : calls (λ p. call p helper [] >> one p) (λ p. break) ≡ Next (Print (codes "1\n"))
unfolding digits
exit_ends_at_the_body = refl

-- a row of the library has the value first; a value without a text is Torn
abbrev to_row : Site → Value → Callee
to_row site v = InRow 3

abbrev to_text : Site → Value → Callee
to_text site v = InText

calls_row : thread (program (λ p. call_on p helper (object "A" 1) (int 2 ∷ []) >> pure tt) [] [] [] to_row) (Enters main []) [] 9 ≡ Next (Lib 3 (object "A" 1 ∷ int 2 ∷ []))
calls_row = refl

no_text : thread (program (λ p. call_on p helper (object "A" 1) [] >> pure tt) [] [] [] to_text) (Enters main []) [] 9 ≡ Next Torn
no_text = refl

-- ---- order

abbrev other_field : Field
other_field = record { class = Simple (codes "A"); name = codes "g" }

left_operand_first : after (λ p. binary (arithmetic Sub Int Int) (get_static field) (get_static other_field) >>= print_line p) [] ≡ Next (GetStatic field)
left_operand_first = refl

right_operand_next : after (λ p. binary (arithmetic Sub Int Int) (get_static field) (get_static other_field) >>= print_line p) (Given (int 7) ∷ []) ≡ Next (GetStatic other_field)
right_operand_next = refl

left_less_right : after (λ p. binary (arithmetic Sub Int Int) (get_static field) (get_static other_field) >>= print_line p) (Given (int 7) ∷ Given (int 2) ∷ []) ≡ Next (Print (codes "5\n"))
unfolding int_wrap digits
left_less_right = refl

first_statement_first : after (λ p. sequence (says p 1 ∷ says p 2 ∷ [])) [] ≡ Next (Print (codes "1\n"))
unfolding digits
first_statement_first = refl

first_argument_first : after (λ p. all (get_static field ∷ get_static other_field ∷ []) >> pure tt) [] ≡ Next (GetStatic field)
first_argument_first = refl

null_element_store : after (λ p. put_element Null (int 0) (int 4)) [] ≡ Next (Raise (codes "NullPointerException"))
null_element_store = refl

-- ---- objects

-- class A { int x = 7; A(int y) { this(); 1 } A() { row 4; 2 } } with `new A(S.f)`
abbrev second_constructor : Site
second_constructor = record { class = Simple (codes "A"); is_static = false; ordinal = 1 }

abbrev making : List Answer → Turn
making answers = thread (program
    (λ p. make p (Simple (codes "A")) (constructor "A") (all (get_static field ∷ [])) >>= (λ v. call_on p helper v [] >> pure tt)) []
    (record { site = constructor "A"; parameters = this_name ∷ codes "y" ∷ []; text = λ p. constructed p (This second_constructor (pure [])) (put_own (own_field "A") (local (codes "y"))) (says p 1) }
    ∷ record { site = second_constructor; parameters = this_name ∷ []; text = λ p. constructed p (Row 4 (pure [])) (put_own (own_field "A") (pure (int 7))) (says p 2) } ∷ []) []
    to_row) (Enters main []) answers 9

arguments_first : making [] ≡ Next (GetStatic field)
arguments_first = refl

then_the_object : making (Given (int 5) ∷ []) ≡ Next (Alloc (AnObject (Simple (codes "A")) NoMore))
then_the_object = refl

its_row : making (Given (int 5) ∷ Given (object "A" 1) ∷ []) ≡ Next (Lib 4 (object "A" 1 ∷ []))
its_row = refl

initializers_behind_the_row : making (Given (int 5) ∷ Given (object "A" 1) ∷ Done ∷ []) ≡ Next (Put (object "A" 1) (own_field "A") (int 7))
initializers_behind_the_row = refl

body_behind_initializers : making (Given (int 5) ∷ Given (object "A" 1) ∷ Done ∷ Done ∷ []) ≡ Next (Print (codes "2\n"))
unfolding digits
body_behind_initializers = refl

-- the initializers ran once
no_initializers_again : making (Given (int 5) ∷ Given (object "A" 1) ∷ Done ∷ Done ∷ Done ∷ []) ≡ Next (Print (codes "1\n"))
unfolding digits
no_initializers_again = refl

is_built : making (Given (int 5) ∷ Given (object "A" 1) ∷ Done ∷ Done ∷ Done ∷ Done ∷ []) ≡ Next (Built (object "A" 1))
is_built = refl

-- the value is the object
the_object : making (Given (int 5) ∷ Given (object "A" 1) ∷ Done ∷ Done ∷ Done ∷ Done ∷ Done ∷ []) ≡ Next (Lib 3 (object "A" 1 ∷ []))
the_object = refl

-- a lambda with what it captures
lambda_is_made : after (λ p. assign i (int 5) >> make_lambda main (i ∷ []) >> pure tt) [] ≡ Next (Alloc (ALambda main (Capture (int 5) NoMore)))
lambda_is_made = refl

-- the superclass is touched before the initializers
above_first : thread (record (program (λ p. static_text p (Some (Simple (codes "A"))) (one p)) [] [] [] plain_callee) { touches = λ own class. true }) (Enters main []) [] 9 ≡ Next (Touch (Simple (codes "A")))
above_first = refl

-- ---- texts and types

-- each object's text is asked for by the row of its own, the left one first
left_text_first : thread (program (λ p. concat p (object "A" 1) (object "B" 2) >>= print_line p) [] [] [] to_row) (Enters main []) [] 9 ≡ Next (Lib 3 (object "A" 1 ∷ []))
left_text_first = refl

joined : thread (program (λ p. concat p (object "A" 1) (object "B" 2) >>= print_line p) [] [] [] to_row) (Enters main []) (Given (Units (codes "a")) ∷ Given (Units (codes "b")) ∷ []) 9 ≡ Next (Print (codes "ab\n"))
joined = refl

text_of_short : text_of (Integer Short (negsuc 4)) ≡ codes "-5"
unfolding digits
text_of_short = refl

text_of_long : text_of (Integer Long (negsuc 4)) ≡ codes "-5"
unfolding digits
text_of_long = refl

array_of_int : is_a plain_classes (Arrays (Integers Int)) (Array (Integers Int) 2 5) ≡ true
array_of_int = refl

array_of_long : is_a plain_classes (Arrays (Integers Long)) (Array (Integers Int) 2 5) ≡ false
array_of_long = refl

lambda_is_object : is_a plain_classes (Objects (codes "Object")) (Lambda main 4 NoMore) ≡ true
lambda_is_object = refl
