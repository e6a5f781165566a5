-- Worked runs of hand-made programs: class initialization by two threads, monitors, thread starts, fields and elements, input.
use Rattle.std.proofs.Common.{◌≡◌, ℕ, pos, negsuc, true, false, List, [], ◌∷◌, refl}
use Rattle.std.specs.Prelude.{codes}
use Prim.Native.String.{String}
use Rattle.std.specs.Fmt.{digits}
use Rattle.meanings.specs.Values.{Name, ClassName, Simple, same_class, Field, Site, Integers, Booleans, Objects, Value, Null, Integer, Boolean, Class, Object, Array, Lambda, Captured, NoMore, Capture, Int, AnObject, AnArray, AnArrayOf, Touch, InitEnd, Alloc, Get, Put, GetStatic, PutStatic, GetElem, PutElem, Enter, Exit, Print, ReadByte, Raise, Start as StartStep, Join, End, Result, Uncaught, Ready, Run, Mine, Failed, Done, Given, Raised}
use Rattle.meanings.specs.Outcome.{Returns, Throws, Meaning, ◌>>◌, ◌>>=◌, pure, jump}
use Rattle.meanings.specs.Classes.{plain_classes}
use Rattle.meanings.specs.Machine.{Place, touch, ask_value, ask_done, print_line}
use Rattle.meanings.specs.Library.{Content}
use Rattle.meanings.specs.World.{World, Status}
use Rattle.meanings.specs.Program.{Program, Enters, thread, plain_callee, main_site, main_entry}
use Rattle.meanings.specs.Runs.{Thread, Item, Stepped, Blocked, HadEnded, run}

abbrev a_name : Name
a_name = codes "A"

abbrev a : ClassName
a = Simple a_name

abbrev main : Site
main = main_site (codes "Main")

-- an object of a class, which captured nothing
abbrev object : String → ℕ → Value
object class k = Object (Simple (codes class)) k NoMore

-- one method, what its text does, and what the initializer of A does
abbrev program : (Place → Meaning (Unit {0})) → (Place → Meaning (Unit {0})) → Program
program text initializer = record {
  methods = record { site = main; parameters = []; text = text } ∷ [];
  constructors = [];
  lambdas = record { site = main; parameters = []; text = λ p. print_line p (Integer Int (pos 5)) } ∷ [];
  initializers = record { class = a; text = initializer } ∷ [];
  entry = main_entry (codes "Main" ∷ []);
  defaults = [];
  is_idle = λ name. true;
  touches = λ own name. same_class name a;
  resolves = plain_callee;
  classes = plain_classes;
}

-- a world with these objects, statuses and bytes
abbrev world : List Content → List Status → List ℕ → World
world heap threads input = record { heap = heap; statics = []; defaults = []; classes = []; monitors = []; threads = threads; input = input; output = [] }

abbrev status : Status
status = record { object = Null; ended = false }

abbrev fresh_thread : Thread
fresh_thread = record { start = Enters main []; had = [] }

-- two threads that do the same, under a schedule
abbrev run_two : Program → List ℕ → List Item
run_two p schedule = run (thread p) 9 (world [] (status ∷ status ∷ []) []) (fresh_thread ∷ fresh_thread ∷ []) schedule

-- ---- class initialization

-- both threads touch A, whose initializer touches A itself and prints 7
abbrev well : Program
well = program (λ p. touch p a >> print_line p (Integer Int (pos 1))) (λ p. touch p a >> print_line p (Integer Int (pos 7)))

initialized_once : run_two well (0 ∷ 1 ∷ 0 ∷ 1 ∷ 0 ∷ 0 ∷ 1 ∷ 1 ∷ []) ≡
    Stepped 0 (Touch a) Run ∷
    Blocked 1 (Touch a) ∷
    Stepped 0 (Touch a) Mine ∷
    Blocked 1 (Touch a) ∷
    Stepped 0 (Print (codes "7\n")) Done ∷
    Stepped 0 (InitEnd a true) Done ∷
    Stepped 1 (Touch a) Ready ∷
    Stepped 1 (Print (codes "1\n")) Done ∷ []
unfolding digits
initialized_once = refl

-- the initializer throws
abbrev badly : Program
badly = program (λ p. touch p a >> print_line p (Integer Int (pos 1))) (λ p. jump (Throws (object "ArithmeticException" 9)))

failed_once : run_two badly (0 ∷ 1 ∷ 0 ∷ 1 ∷ 0 ∷ 1 ∷ 0 ∷ 1 ∷ []) ≡
    Stepped 0 (Touch a) Run ∷
    Blocked 1 (Touch a) ∷
    Stepped 0 (InitEnd a false) Done ∷
    Stepped 1 (Touch a) Failed ∷
    Stepped 0 (Raise (codes "ExceptionInInitializerError")) (Given (object "ExceptionInInitializerError" 0)) ∷
    Stepped 1 (Raise (codes "NoClassDefFoundError")) (Given (object "NoClassDefFoundError" 1)) ∷
    Stepped 0 (End (Uncaught (object "ExceptionInInitializerError" 0))) Done ∷
    Stepped 1 (End (Uncaught (object "NoClassDefFoundError" 1))) Done ∷ []
failed_once = refl

-- an initializer that ends by a return has ended well
abbrev returning : Program
returning = program (λ p. touch p a) (λ p. jump (Returns Null))

returned_well : run_two returning (0 ∷ 0 ∷ 1 ∷ []) ≡ Stepped 0 (Touch a) Run ∷ Stepped 0 (InitEnd a true) Done ∷ Stepped 1 (Touch a) Ready ∷ []
returned_well = refl

-- an Error that an initializer throws is thrown on
abbrev in_error : Program
in_error = program (λ p. touch p a) (λ p. jump (Throws (object "Error" 9)))

error_thrown_on : run_two in_error (0 ∷ 0 ∷ 0 ∷ []) ≡
    Stepped 0 (Touch a) Run ∷
    Stepped 0 (InitEnd a false) Done ∷
    Stepped 0 (End (Uncaught (object "Error" 9))) Done ∷ []
error_thrown_on = refl

-- ---- monitors

-- entered twice, left twice
abbrev twice : Program
twice = program (λ p. ask_done (Enter (Class a_name)) >> ask_done (Enter (Class a_name)) >> ask_done (Exit (Class a_name)) >> ask_done (Exit (Class a_name))) (λ p. pure tt)

counted : run_two twice (0 ∷ 1 ∷ 0 ∷ 0 ∷ 1 ∷ 0 ∷ 1 ∷ 0 ∷ []) ≡
    Stepped 0 (Enter (Class a_name)) Done ∷
    Blocked 1 (Enter (Class a_name)) ∷
    Stepped 0 (Enter (Class a_name)) Done ∷
    Stepped 0 (Exit (Class a_name)) Done ∷
    Blocked 1 (Enter (Class a_name)) ∷
    Stepped 0 (Exit (Class a_name)) Done ∷
    Stepped 1 (Enter (Class a_name)) Done ∷
    Stepped 0 (End (Result Null)) Done ∷ []
counted = refl

-- ---- threads

abbrev thread_object : Value
thread_object = object "Thread" 0

-- the thread is started, joined, and started again
abbrev starts : Program
starts = program (λ p. ask_done (StartStep thread_object) >> ask_done (Join thread_object) >> ask_done (StartStep thread_object)) (λ p. pure tt)

started_once : run (thread starts) 9 (world (record { fields = []; elements = Lambda main 1 NoMore ∷ [] } ∷ []) (status ∷ []) []) (fresh_thread ∷ []) (0 ∷ 0 ∷ 1 ∷ 0 ∷ 1 ∷ 0 ∷ 1 ∷ 0 ∷ 0 ∷ []) ≡
    Stepped 0 (StartStep thread_object) Done ∷
    Blocked 0 (Join thread_object) ∷
    Stepped 1 (Print (codes "5\n")) Done ∷
    Blocked 0 (Join thread_object) ∷
    Stepped 1 (End (Result Null)) Done ∷
    Stepped 0 (Join thread_object) Done ∷
    HadEnded 1 ∷
    Stepped 0 (StartStep thread_object) (Raised (object "IllegalThreadStateException" 1)) ∷
    Stepped 0 (End (Uncaught (object "IllegalThreadStateException" 1))) Done ∷ []
unfolding digits
started_once = refl

-- ---- fields, statics and elements

abbrev int : ℕ → Value
int n = Integer Int (pos n)

abbrev size : Field
size = record { class = a; name = codes "size" }

-- one thread in a world in which the default of the field is 0
abbrev run_one : (Place → Meaning (Unit {0})) → List ℕ → List Item
run_one text schedule = run (thread (program text (λ p. pure tt))) 9 (record (world [] (status ∷ []) []) { defaults = (size, int 0) ∷ [] }) (fresh_thread ∷ []) schedule

-- a new object keeps what it captured; a field gives its default, and then what was stored last
abbrev captured : Captured
captured = Capture (int 4) NoMore

abbrev stores : Place → Meaning (Unit {0})
stores p = ask_value (Alloc (AnObject a captured)) >>= (λ o. (ask_value (Get o size) >>= print_line p) >> ask_done (Put o size (int 2)) >> ask_done (Put o size (int 3)) >> (ask_value (Get o size) >>= print_line p))

stored_last : run_one stores (0 ∷ 0 ∷ 0 ∷ 0 ∷ 0 ∷ 0 ∷ 0 ∷ []) ≡
    Stepped 0 (Alloc (AnObject a captured)) (Given (Object a 0 captured)) ∷
    Stepped 0 (Get (Object a 0 captured) size) (Given (int 0)) ∷
    Stepped 0 (Print (codes "0\n")) Done ∷
    Stepped 0 (Put (Object a 0 captured) size (int 2)) Done ∷
    Stepped 0 (Put (Object a 0 captured) size (int 3)) Done ∷
    Stepped 0 (Get (Object a 0 captured) size) (Given (int 3)) ∷
    Stepped 0 (Print (codes "3\n")) Done ∷ []
unfolding digits
stored_last = refl

-- what is stored in one object isn't in another, and a static is apart from both
abbrev stores_apart : Place → Meaning (Unit {0})
stores_apart p =
    ask_value (Alloc (AnObject a NoMore)) >>= (λ o. ask_value (Alloc (AnObject a NoMore)) >>= (λ q.
    ask_done (Put o size (int 2)) >> ask_done (PutStatic size (int 5)) >> ask_value (Get q size) >> ask_value (GetStatic size) >> pure tt))

stored_apart : run_one stores_apart (0 ∷ 0 ∷ 0 ∷ 0 ∷ 0 ∷ 0 ∷ []) ≡
    Stepped 0 (Alloc (AnObject a NoMore)) (Given (object "A" 0)) ∷
    Stepped 0 (Alloc (AnObject a NoMore)) (Given (object "A" 1)) ∷
    Stepped 0 (Put (object "A" 0) size (int 2)) Done ∷
    Stepped 0 (PutStatic size (int 5)) Done ∷
    Stepped 0 (Get (object "A" 1) size) (Given (int 0)) ∷
    Stepped 0 (GetStatic size) (Given (int 5)) ∷ []
stored_apart = refl

-- the elements of a new array are 0, false and null, until another is stored
abbrev fills : Place → Meaning (Unit {0})
fills p =
    ask_value (Alloc (AnArray (Integers Int) 2)) >>= (λ x. ask_value (GetElem x 1) >> ask_done (PutElem x 1 (int 7)) >> ask_value (GetElem x 1) >> ask_value (GetElem x 0))
    >> (ask_value (Alloc (AnArray Booleans 1)) >>= (λ x. ask_value (GetElem x 0)))
    >> (ask_value (Alloc (AnArray (Objects a_name) 1)) >>= (λ x. ask_value (GetElem x 0)))
    >> (ask_value (Alloc (AnArrayOf (Integers Int) (int 4 ∷ int 5 ∷ int 6 ∷ []))) >>= (λ x. ask_value (GetElem x 2))) >> pure tt

filled : run_one fills (0 ∷ 0 ∷ 0 ∷ 0 ∷ 0 ∷ 0 ∷ 0 ∷ 0 ∷ 0 ∷ 0 ∷ 0 ∷ []) ≡
    Stepped 0 (Alloc (AnArray (Integers Int) 2)) (Given (Array (Integers Int) 2 0)) ∷
    Stepped 0 (GetElem (Array (Integers Int) 2 0) 1) (Given (int 0)) ∷
    Stepped 0 (PutElem (Array (Integers Int) 2 0) 1 (int 7)) Done ∷
    Stepped 0 (GetElem (Array (Integers Int) 2 0) 1) (Given (int 7)) ∷
    Stepped 0 (GetElem (Array (Integers Int) 2 0) 0) (Given (int 0)) ∷
    Stepped 0 (Alloc (AnArray Booleans 1)) (Given (Array Booleans 1 1)) ∷
    Stepped 0 (GetElem (Array Booleans 1 1) 0) (Given (Boolean false)) ∷
    Stepped 0 (Alloc (AnArray (Objects a_name) 1)) (Given (Array (Objects a_name) 1 2)) ∷
    Stepped 0 (GetElem (Array (Objects a_name) 1 2) 0) (Given Null) ∷
    Stepped 0 (Alloc (AnArrayOf (Integers Int) (int 4 ∷ int 5 ∷ int 6 ∷ []))) (Given (Array (Integers Int) 3 3)) ∷
    Stepped 0 (GetElem (Array (Integers Int) 3 3) 2) (Given (int 6)) ∷ []
filled = refl

-- ---- input

abbrev reads : Program
reads = program (λ p. (ask_value ReadByte >>= print_line p) >> (ask_value ReadByte >>= print_line p)) (λ p. pure tt)

read_to_the_end : run (thread reads) 9 (world [] (status ∷ []) (65 ∷ [])) (fresh_thread ∷ []) (0 ∷ 0 ∷ 0 ∷ 0 ∷ []) ≡
    Stepped 0 ReadByte (Given (Integer Int (pos 65))) ∷
    Stepped 0 (Print (codes "65\n")) Done ∷
    Stepped 0 ReadByte (Given (Integer Int (negsuc 0))) ∷
    Stepped 0 (Print (codes "-1\n")) Done ∷ []
unfolding digits
read_to_the_end = refl
