-- A program of either language, and its threads.
use Rattle.std.specs.Prelude.{ℕ, zero, suc, ◌+◌, Bool, true, false, not, ◌&&◌, ◌==◌, Option, Some, None, List, [], ◌∷◌, ◌++◌, length, if◌then◌else◌, codes}
use Rattle.meanings.specs.Values.{Name, same_name, ClassName, Simple, same_class, Field, Site, same_site, Value, Null, Lambda, Step, End, Result, Uncaught, Answer}
use Rattle.meanings.specs.Outcome.{Exits, Returns, Throws, Outcome, Asks, Busy, Gives, Jumps, Meaning, ◌>>◌, pure, torn, busy, pay, assign_all}
use Rattle.meanings.specs.Classes.{Classes}
use Rattle.meanings.specs.Machine.{Bodies, Callee, InBody, InText, Place, touch, call, call_on}

-- a method, constructor or lambda body: its parameters, `this` first, and what its text does at a place
pub record Body : Type 0 where
  pub site : Site
  pub parameters : List Name
  pub text : Place → Meaning (Unit {0})

-- the static initializers of a class, its superclass's first (JLS 12.4.2, step 7)
pub record Initializer : Type 0 where
  pub class : ClassName
  pub text : Place → Meaning (Unit {0})

-- what a language's text gives of a project
pub record Program : Type 0 where
  pub methods : List Body
  pub constructors : List Body
  pub lambdas : List Body
  pub initializers : List Initializer
  -- where the static method stands that an entry point names, by its class, its name and its number of parameters (JLS 12.1.4)
  pub entry : Name → Name → ℕ → Option Site
  -- the fields and statics whose default is not null (JLS 4.12.5)
  pub defaults : List (Field × Value)
  -- a class that is never touched (own rule)
  pub is_idle : ClassName → Bool
  -- whether the text of the first class touches the second
  pub touches : ClassName → ClassName → Bool
  -- what a call of this method on this value enters (JLS 15.12.4.4)
  pub resolves : Site → Value → Callee
  -- what is known of its classes
  pub classes : Classes

-- where no method overrides another and no interface has a body: a lambda is its text, another value enters the method itself
abbrev pub plain_callee : Site → Value → Callee
plain_callee site (Lambda own k captured) = InText
plain_callee site _ = InBody site

-- the method `run` of Runnable, which a new thread calls
abbrev pub run_site : Site
run_site = record { class = Simple (codes "Runnable"); is_static = false; ordinal = 0 }

-- ---- classes of this form, whose one method, where they have one, is `main`

-- `main` is the first of the static part
abbrev pub main_site : Name → Site
main_site class = record { class = Simple class; is_static = true; ordinal = 0 }

-- the entry points of classes of these names (JLS 12.1.4)
abbrev pub main_entry : List Name → Name → Name → ℕ → Option Site
main_entry [] class method count = None
main_entry (own ∷ names) class method count =
    if same_name class own && same_name method (codes "main") && (count == 1) then Some (main_site own) else main_entry names class method count

-- ---- threads

-- how a thread starts: an entry point with its arguments, or an object's `run`
pub data Start : Type 0 where
  Enters : Site → List Value → Start
  Runs : Value → Start

-- what a thread does next
pub data Turn : Type 0 where
  Next : Step → Turn
  IsBusy : Turn
  Ended : Turn

-- the end is the last step
abbrev pub at_end : List Answer → Step → Turn
at_end [] p = Next p
at_end (a ∷ more) p = Ended

-- a thread ends with a result or an uncaught exception (JLS 11.3, 12.8)
abbrev pub turn : Outcome Value → Turn
turn (Asks p) = Next p
turn Busy = IsBusy
turn (Gives v s) = at_end s.answers (End (Result v))
turn (Jumps (Throws v) s) = at_end s.answers (End (Uncaught v))
turn (Jumps (Returns v) s) = at_end s.answers (End (Result v))
turn (Jumps (Exits e) s) = at_end s.answers (End (Result Null))

module _ (program : Program) where
  -- a place in the text of a class
  abbrev pub place : Bodies → ClassName → Place
  place b class = record { bodies = b; touches = program.touches class; resolves = program.resolves; classes = program.classes }

  -- the place before any text, which touches each class that isn't idle
  abbrev pub outside : Bodies → Place
  outside b = record { bodies = b; touches = λ class. not (program.is_idle class); resolves = program.resolves; classes = program.classes }

  -- each entry into a body takes one of n (own rule); a body that isn't there is Torn (own rule)
  abbrev pub enter : Bodies → List Body → Site → List Value → Meaning (Unit {0})
  enter b [] site vs = pay >> torn
  enter b (body ∷ bodies) site vs =
      if same_site body.site site then pay >> (assign_all body.parameters vs >> body.text (place b body.site.class)) else enter b bodies site vs

  -- where a class has no initializers nothing is done
  abbrev pub begin : Bodies → List Initializer → ClassName → Meaning (Unit {0})
  begin b [] class = pure tt
  begin b (first ∷ initializers) class = if same_class first.class class then first.text (place b class) else begin b initializers class

  -- the bodies that may stand in one another to the depth d
  abbrev pub bodies : ℕ → Bodies
  bodies zero = record { method = λ site vs. busy; constructor = λ site vs. busy; lambda = λ site captured vs. busy; initializer = λ class. busy }
  bodies (suc d) = record {
    method = λ site vs. enter (bodies d) program.methods site vs;
    constructor = λ site vs. enter (bodies d) program.constructors site vs;
    lambda = λ site captured vs. enter (bodies d) program.lambdas site (captured ++ vs);
    initializer = λ class. begin (bodies d) program.initializers class;
  }

  -- An entry point touches its class, unless that is idle, and calls its method (JLS 12.1.3, 12.1.4); a new thread calls `run` of its object, if it has one (JLS 17).
  abbrev pub thread_from : Bodies → Start → Meaning Value
  thread_from b (Enters site vs) = touch (outside b) site.class >> call (outside b) site vs
  thread_from b (Runs Null) = pure Null
  thread_from b (Runs object) = call_on (outside b) run_site object []

  -- the thread with the bodies to a depth
  abbrev pub thread_at : ℕ → Start → List Answer → ℕ → Turn
  thread_at d start answers n = turn (thread_from (bodies d) start (record { locals = []; answers = answers; n = n }))

  -- What a thread does next after these answers: its next step, Busy or Ended.
  -- A body is entered by one of n or, on Touch, by one answer, so the depth n + length answers is never used up.
  abbrev pub thread : Start → List Answer → ℕ → Turn
  thread start answers n = thread_at (n + length answers) start answers n
