-- A meaning: what a part of a program does in a situation.
use Rattle.std.specs.Prelude.{ℕ, zero, suc, pos, List, [], ◌∷◌, Option, if◌then◌else◌}
use Rattle.meanings.specs.Values.{Name, same_name, Value, Integer, Int, Step, Torn, Answer}

-- the locals, the newest binding first
abbrev pub Locals : Type 0
Locals = List (Name × Value)

-- a name with no value counts as the int 0 (own rule; definite assignment refuses such a text)
abbrev pub get : Locals → Name → Value
get [] name = Integer Int (pos 0)
get (b ∷ locals) name = if same_name b.0 name then b.1 else get locals name

-- a situation: the locals, the answers still to come, and how many bodies may still be entered
pub record State : Type 0 where
  pub locals : Locals
  pub answers : List Answer
  pub n : ℕ

-- a jump by its label; one without a label is caught by the innermost loop (JLS 14.15, 14.16)
pub data Exit : Type 0 where
  Break : Option Name → Exit
  Continue : Option Name → Exit
  -- `return@synchronized` (Kotlin, "Jump expressions")
  Leave : Exit

-- how a part ends abruptly (JLS 14.1)
pub data Jump : Type 0 where
  Exits : Exit → Jump
  Returns : Value → Jump
  Throws : Value → Jump

-- the next step where the answers ran out, Busy where n did, or an end (own rule)
pub data Outcome (A : Type 0) : Type 0 where
  Asks : Step → Outcome A
  Busy : Outcome A
  Gives : A → State → Outcome A
  Jumps : Jump → State → Outcome A

-- what a part does, from each situation (own rule)
abbrev pub Meaning : Type 0 → Type 0
Meaning A = State → Outcome A

-- what comes after an end that gives a value; a jump, a step and Busy stay (JLS 14.1)
abbrev pub then_do : {A B : Type 0} → Outcome A → (A → Meaning B) → Outcome B
then_do (Asks p) f = Asks p
then_do Busy f = Busy
then_do (Gives a s) f = f a s
then_do (Jumps j s) f = Jumps j s

-- a value and nothing else
abbrev pub pure : {A : Type 0} → A → Meaning A
pure a s = Gives a s

-- one part, then the next with its value
abbrev pub ◌>>=◌ : {A B : Type 0} → Meaning A → (A → Meaning B) → Meaning B
◌>>=◌ m f s = then_do (m s) f

infixl 1 ◌>>=◌
-- one part, then the next
abbrev pub ◌>>◌ : {A B : Type 0} → Meaning A → Meaning B → Meaning B
◌>>◌ m k s = then_do (m s) (λ a. k)

infixl 1 ◌>>◌
-- an abrupt end (JLS 14.1)
abbrev pub jump : {A : Type 0} → Jump → Meaning A
jump j s = Jumps j s

-- the step itself where no answer is left
abbrev pub ask_from : Step → State → List Answer → Outcome Answer
ask_from p s [] = Asks p
ask_from p s (a ∷ more) = Gives a (record s { answers = more })

-- the next answer
abbrev pub ask : Step → Meaning Answer
ask p s = ask_from p s s.answers

-- nothing comes after it, whatever its answer
abbrev pub torn : {A : Type 0} → Meaning A
torn s = Asks Torn

-- n is used up
abbrev pub busy : {A : Type 0} → Meaning A
busy s = Busy

-- Busy where nothing is left of n
abbrev pub pay_from : State → ℕ → Outcome (Unit {0})
pay_from s zero = Busy
pay_from s (suc n) = Gives tt (record s { n = n })

-- the entry into a body takes one of n (own rule)
abbrev pub pay : Meaning (Unit {0})
pay s = pay_from s s.n

-- a local or parameter by its name (JLS 6.5.6.1)
abbrev pub local : Name → Meaning Value
local name s = Gives (get s.locals name) s

-- a local or parameter takes a value (JLS 14.4.2, 15.26.1)
abbrev pub assign : Name → Value → Meaning (Unit {0})
assign name v s = Gives tt (record s { locals = (name, v) ∷ s.locals })

-- the parameters of a body take its arguments (JLS 15.12.4.5)
abbrev pub assign_all : List Name → List Value → Meaning (Unit {0})
assign_all [] vs = pure tt
assign_all (x ∷ xs) [] = pure tt
assign_all (x ∷ xs) (v ∷ vs) = assign x v >> assign_all xs vs
