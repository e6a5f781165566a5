-- What the two languages share of objects, statements and monitors, over the machine.
use Rattle.std.specs.Prelude.{ℕ, Bool, true, false, List, [], ◌∷◌, ◌++◌, map, Option, Some, None, if◌then◌else◌, codes}
use Rattle.meanings.specs.Values.{Name, ClassName, Field, Site, Elements, Value, Units, Captured, NoMore, Capture, same_value, AnObject, ALambda, Alloc, Built, Put, Enter, Exit as ExitStep, Lib}
use Rattle.meanings.specs.Classes.{Classes, is_a}
use Rattle.meanings.specs.Outcome.{Throws, Outcome, Asks, Busy, Gives, Jumps, Meaning, then_do, pure, ◌>>=◌, ◌>>◌, jump, local, assign}
use Rattle.meanings.specs.Machine.{Place, ask_value, ask_done, apart, construct, touch, check_null, converted, all, sequence, is_break, is_label, catch}

-- ---- objects

-- the receiver of a body (JLS 15.8.3)
abbrev pub this_name : Name
this_name = codes "this"

abbrev pub self : Meaning Value
self = local this_name

-- a new object that captures nothing: the class, the arguments, the object, its construction, its end (JLS 15.9.4, 12.4.1)
abbrev pub make : Place → ClassName → Site → Meaning (List Value) → Meaning Value
make p class site args =
    touch p class >> args >>= (λ vs. ask_value (Alloc (AnObject class NoMore)) >>= (λ v. construct p site (v ∷ vs) >> ask_done (Built v) >> pure v))

-- what a constructor does first (JLS 8.8.7)
pub data First : Type 0 where
  Nothing : First
  This : Site → Meaning (List Value) → First
  Super : Site → Meaning (List Value) → First
  Row : ℕ → Meaning (List Value) → First

-- instance initializers have locals of their own, and see `this` (JLS 8.6)
abbrev pub initialized : Meaning (Unit {0}) → Meaning (Unit {0})
initialized m = self >>= (λ v. apart (assign this_name v >> m) >> pure tt)

-- another constructor of the same object (JLS 8.8.7.1)
abbrev pub constructs : Place → Site → Meaning (List Value) → Meaning Value
constructs p site args = args >>= (λ vs. self >>= (λ v. construct p site (v ∷ vs)))

-- the first call, the initializers unless it is `this(..)`, the body (JLS 12.5)
abbrev pub constructed : Place → First → Meaning (Unit {0}) → Meaning (Unit {0}) → Meaning (Unit {0})
constructed p Nothing inits body = initialized inits >> body
constructed p (This site args) inits body = constructs p site args >> body
constructed p (Super site args) inits body = constructs p site args >> initialized inits >> body
constructed p (Row row args) inits body = (args >>= (λ vs. self >>= (λ v. ask_done (Lib row (v ∷ vs))))) >> initialized inits >> body

-- a field initializer (JLS 12.5)
abbrev pub put_own : Field → Meaning Value → Meaning (Unit {0})
put_own field e = e >>= (λ v. self >>= (λ o. ask_done (Put o field v)))

-- the static initializers, the superclass's first (JLS 12.4.2, step 7)
abbrev pub static_text : Place → Option ClassName → Meaning (Unit {0}) → Meaning (Unit {0})
static_text p None inits = inits
static_text p (Some above) inits = touch p above >> inits

-- ---- String conversion

-- both operands stand, then they are converted (own rule)
abbrev pub concat : Place → Value → Value → Meaning Value
concat p a b = converted p a >>= (λ x. converted p b >>= (λ y. pure (Units (x ++ y))))

-- ---- lambdas

abbrev pub captured_of : List Value → Captured
captured_of [] = NoMore
captured_of (v ∷ vs) = Capture v (captured_of vs)

-- a new lambda with what it captures (JLS 15.27.4)
abbrev pub make_lambda : Site → List Name → Meaning Value
make_lambda site names = all (map local names) >>= (λ vs. ask_value (Alloc (ALambda site (captured_of vs))))

-- ---- labels

-- a labelled statement (JLS 14.7)
abbrev pub labeled : Name → Meaning (Unit {0}) → Meaning (Unit {0})
labeled label = catch (is_label label)

-- ---- switch

-- labels that stand together, whether `default` is among them, and what follows them
pub record Group : Type 0 where
  pub labels : List Value
  pub is_default : Bool
  pub body : Meaning (Unit {0})

-- one of the labels is the value (JLS 14.11)
abbrev pub has : List Value → Value → Bool
has [] v = false
has (w ∷ ws) v = if same_value v w then true else has ws v

abbrev pub texts : List Group → List (Meaning (Unit {0}))
texts [] = []
texts (g ∷ gs) = g.body ∷ texts gs

-- the groups from the default's on
abbrev pub from_default : List Group → List (Meaning (Unit {0}))
from_default [] = []
from_default (g ∷ gs) = if g.is_default then texts (g ∷ gs) else from_default gs

-- the groups from that with the label on, else others
abbrev pub from_label : List Group → Value → List (Meaning (Unit {0})) → List (Meaning (Unit {0}))
from_label [] v other = other
from_label (g ∷ gs) v other = if has g.labels v then texts (g ∷ gs) else from_label gs v other

-- control runs on through later groups until a jump (JLS 14.11)
abbrev pub switch : List Name → List Group → Value → Meaning (Unit {0})
switch labels gs v = check_null v >> catch (is_break labels) (sequence (from_label gs v (from_default gs)))

-- ---- exceptions

-- what follows in any case, and then the end itself (JLS 14.20.2)
abbrev pub after_all : Meaning (Unit {0}) → Outcome (Unit {0}) → Outcome (Unit {0})
after_all f (Asks p) = Asks p
after_all f Busy = Busy
after_all f (Gives a s) = f s
after_all f (Jumps j s) = then_do (f s) (λ a. jump j)

abbrev pub finally : Meaning (Unit {0}) → Meaning (Unit {0}) → Meaning (Unit {0})
finally m f s = after_all f (m s)

-- a catch: its type, and what it does with what was thrown
pub record Handler : Type 0 where
  pub type : Elements
  pub does : Value → Meaning (Unit {0})

-- the first that takes it (JLS 14.20.1)
abbrev pub handler_of : Classes → List Handler → Value → Meaning (Unit {0})
handler_of c [] v = jump (Throws v)
handler_of c (h ∷ hs) v = if is_a c h.type v then h.does v else handler_of c hs v

-- ---- monitors

-- entered, and left at each end (JLS 14.19)
abbrev pub monitor : Value → Meaning (Unit {0}) → Meaning (Unit {0})
monitor v m = check_null v >> ask_done (Enter v) >> finally m (ask_done (ExitStep v))
